-- The image of segments, a segment at a time.
use Rattle.std.proofs.Common.{◌≡◌, ℕ, ◌+◌, ◌-◌, ◌<◌, ◌≤◌, List, ◌∷◌, length, get_or, drop, map, suc, arith, ◌∙◌, ap, subst}
use Rattle.std.proofs.Math.ListN.{get_or-map, length-map}
use Rattle.std.proofs.Math.Seq.{drop-cons}
use Rattle.std.proofs.lemmas.Bool.Decides.{nat_tests}
use Rattle.rv32im.specs.Memory.{Memory, put_bytes}
use Rattle.elf_reader.specs.declared.view.Segment.{Segment}
use Rattle.elf_reader.specs.File.{PlainSegment, plain_segment}
use Rattle.elf_reader.specs.Loadable.{IsLoadable, AreLoadable}
use Rattle.elf_reader.specs.Image.{image_of}
use Rattle.paged_store.proofs.Puts.{put_bytes_before, put_bytes_behind, put_bytes_at}

image_at : (s : PlainSegment) (ss : List PlainSegment) (a : ℕ) → put_bytes (image_of ss) s.vaddr s.content a ≡ image_of (s ∷ ss) a
image_at s ss a =
    grind (arith, nat_tests, put_bytes_before s.content (image_of ss) s.vaddr a, put_bytes_behind s.content (image_of ss) s.vaddr a, put_bytes_at s.content (image_of ss) s.vaddr (a - s.vaddr) a)

-- the first segment's bytes over the image of the others
pub image_of-cons : (s : PlainSegment) (ss : List PlainSegment) → put_bytes (image_of ss) s.vaddr s.content ≡ image_of (s ∷ ss)
image_of-cons s ss = λ t a. image_at s ss a t

-- one segment more, of those that stand in a file
pub image_more : (segments : List Segment) (j k : ℕ) (d : Segment) (mem : Memory) → k ≡ suc j → j < length segments → mem ≡ image_of (map plain_segment (drop k segments)) → put_bytes mem (get_or segments j d).vaddr (get_or segments j d).bytes.now ≡ image_of (map plain_segment (drop j segments))
image_more segments j k d mem next inside laid =
    let s : Segment = get_or segments j d in
    let rest : List PlainSegment = map plain_segment (drop (suc j) segments) in
    let here : mem ≡ image_of rest = subst (λ n. mem ≡ image_of (map plain_segment (drop n segments))) next laid in
    rw (drop-cons segments j d inside) (ap (λ (m : Memory). put_bytes m s.vaddr s.bytes.now) here ∙ image_of-cons (plain_segment s) rest)

loadable_end : (segments : List Segment) (k : ℕ) (d : Segment) → AreLoadable (map plain_segment segments) → k < length segments → (get_or segments k d).vaddr + length (get_or segments k d).bytes.now < 4294967296
loadable_end segments k d all inside =
    let within : k < length (map plain_segment segments) = rw length-map inside in
    let segment : IsLoadable (plain_segment (get_or segments k d)) = subst IsLoadable (get_or-map plain_segment segments k d) (all k (plain_segment d) within) in
    omega arith

-- the bytes of a segment end below 2 ^ 32
pub loadable_within : (segments : List Segment) (k : ℕ) (d : Segment) → AreLoadable (map plain_segment segments) → k < length segments → (get_or segments k d).vaddr + length (get_or segments k d).bytes.now ≤ 4294967296
loadable_within segments k d all inside = omega (arith, loadable_end segments k d all inside)

pub loadable_count : (segments : List Segment) (k : ℕ) (d : Segment) → AreLoadable (map plain_segment segments) → k < length segments → length (get_or segments k d).bytes.now < 4294967296
loadable_count segments k d all inside = omega (arith, loadable_end segments k d all inside)
