-- The bytes of a file that is written, place by place.
use Rattle.std.proofs.Common.{◌≡◌, ◌∙◌, inl, inr, ℕ, suc, ◌+◌, ◌-◌, ◌≤◌, false, List, [], ◌∷◌, ◌++◌, length, get_or, take, drop, slice_index, slice_range, refl, ap, arith, length-drop}
use Rattle.std.specs.List.{All}
use Rattle.std.proofs.lemmas.Bool.Decides.{nat_tests}
use Rattle.std.proofs.lemmas.List.{get_or_append_left, take-append-le, drop-append-le}
use Rattle.std.proofs.lemmas.List.Elements.{All-head, All-tail}
use Rattle.elf_writer.specs.Changes.{Change, changes_place, byte_after, byte_changed, changed}
use Rattle.elf_writer.specs.Written.{all_changes, appended}
use Rattle.elf_writer.specs.Laws.{BytesWritten, RangesWritten, IsOff, OthersStay}
use Rattle.elf_writer.proofs.ChangeLemmas.{length-changed, changed_at, range-changed}

pub bytes_written : BytesWritten
bytes_written v ps new ms at below =
    let cs = all_changes v ps new ms in
    let size = length-changed cs 0 v.bytes in
    let same : 0 + at ≡ at = omega arith in
    get_or_append_left (changed cs 0 v.bytes) (appended v new) 0 at (omega (arith, size, below))
    ∙ (changed_at cs 0 v.bytes at below ∙ ap (λ place. byte_changed cs place (slice_index v.bytes at)) same)

-- a range of the first of two lists
range_of_first : (xs ys : List ℕ) (start end : ℕ) → start ≤ end → end ≤ length xs → slice_range (xs ++ ys) start end ≡ slice_range xs start end
range_of_first xs ys start end order within =
    let size : end - start ≤ length (drop start xs) = rw length-drop (omega (arith, order, within)) in
    ap (take (end - start)) (drop-append-le start xs ys (omega (arith, order, within)))
    ∙ take-append-le (end - start) (drop start xs) ys size

pub ranges_written : RangesWritten
ranges_written v ps new ms start end order within =
    let cs = all_changes v ps new ms in
    let size = length-changed cs 0 v.bytes in
    range_of_first (changed cs 0 v.bytes) (appended v new) start end order (omega (arith, size, within))
    ∙ range-changed cs start end v.bytes

-- a change that is off a range is off its first byte, and off the rest
off_first : (start size : ℕ) (c : Change) → IsOff start (suc size) c → changes_place c start ≡ false
off_first start size c (inl before) = grind (arith, nat_tests, before)
off_first start size c (inr behind) = grind (arith, nat_tests, behind)

off_rest : (start size : ℕ) (c : Change) → IsOff start (suc size) c → IsOff (start + 1) size c
off_rest start size c (inl before) = inl (omega (arith, before))
off_rest start size c (inr behind) = inr (omega (arith, behind))

byte_stays : (cs : List Change) (start size old : ℕ) → All (IsOff start (suc size)) cs → byte_changed cs start old ≡ old
byte_stays [] start size old off = refl
byte_stays (c ∷ cs) start size old off =
    let here = off_first start size c (All-head (IsOff start (suc size)) c cs off) in
    let first : byte_after c start old ≡ old = rw here refl in
    ap (byte_changed cs start) first ∙ byte_stays cs start size old (All-tail (IsOff start (suc size)) c cs off)

pub others_stay : OthersStay
others_stay cs start [] off = refl
others_stay cs start (byte ∷ bytes) off =
    let first = byte_stays cs start (length bytes) byte off in
    let rest = others_stay cs (start + 1) bytes (λ k d below. off_rest start (length bytes) (get_or cs k d) (off k d below)) in
    λ i. first i ∷ rest i
