-- Where the parts of the code stand.
use Rattle.std.proofs.Common.{◌≡◌, ℕ, zero, suc, ◌+◌, ◌*◌, ◌%◌, ◌<◌, List, [], ◌∷◌, ◌++◌, length, slice_index, slice_index_or, refl, ◌∙◌, ap, subst, arith}
use Rattle.std.specs.Prelude.{All}
use Rattle.std.specs.List.{flat_map, concat}
use Rattle.std.proofs.lemmas.List.{length-append}
use Rattle.std.proofs.lemmas.List.Sums.{sum_by-cons}
use Rattle.std.proofs.lemmas.List.Sorted.{sum_by-IsPermutation}
use Rattle.rv32im.specs.Memory.{Memory}
use Rattle.rv32im.specs.Sequences.{MeanAll}
use Rattle.rv32im.proofs.SequenceLemmas.{mean_count}
use Rattle.flat_machine.specs.Lines.{HoldsAt}
use Rattle.patch_code.specs.PlainStubs.{PlainStub, home_of, stub_code, stub_bytes, stubs_bytes, bytes_below}
use Rattle.patch_code.specs.Layout.{CodePlan, AreCodeWords, stubs_at, images_at, image_places, bytes_behind}
use Rattle.patch_code.specs.Start.{start_bytes, start_stub}
use Rattle.patch_code.specs.StubLaws.{StubStands, LiesInside, PartsStand, ImagesStand}
use Rattle.patch_code.proofs.Held.{held_front, held_behind}
use Rattle.patch_code.proofs.Order.{Ascend, ascend_from, ascend_behind, below_aligned, below_fits, first_below, later_below, in_any_order}

-- ---- stubs

-- words that mean a stub stand at an address
abbrev StandsAt : Memory → ℕ → PlainStub → Type 0
StandsAt mem at stub = (words : List ℕ) × (MeanAll words (stub_code stub) × HoldsAt mem at words)

stub_found : (ordered : List PlainStub) (words : List ℕ) (mem : Memory) (at k : ℕ) (d : PlainStub) → Ascend home_of stub_bytes ordered → MeanAll words (flat_map stub_code ordered) → HoldsAt mem at words → k < length ordered → StandsAt mem (at + bytes_below (slice_index_or ordered k d).home ordered) (slice_index_or ordered k d)
stub_found [] words mem at k d rise mean held below = absurd (omega (arith, below))
stub_found (stub ∷ stubs) [] mem at k d rise mean held below = absurd mean
stub_found (stub ∷ stubs) (a ∷ []) mem at k d rise mean held below = absurd mean.1
stub_found (stub ∷ stubs) (a ∷ b ∷ words) mem at zero d rise mean held below =
    let none = first_below home_of stub_bytes stub stubs rise in
    let here : at ≡ at + bytes_below stub.home (stub ∷ stubs) = omega (arith, none) in
    (a ∷ b ∷ [], ((mean.0, (mean.1.0, tt)), subst (λ x. HoldsAt mem x (a ∷ b ∷ [])) here (held_front mem at (a ∷ b ∷ []) words held)))
stub_found (stub ∷ stubs) (a ∷ b ∷ words) mem at (suc k) d rise mean held below =
    let other = slice_index_or stubs k d in
    let rest =
    stub_found stubs words mem (at + 8) k d (ascend_behind home_of stub_bytes stub stubs rise)
    mean.1.1 (held_behind mem at (at + 8) (a ∷ b ∷ []) words (omega arith) held) (omega (arith, below)) in
    let whole = later_below home_of stub_bytes stub stubs k d rise (omega (arith, below)) in
    let place : at + 8 + bytes_below other.home stubs ≡ at + bytes_below other.home (stub ∷ stubs) = omega (arith, whole) in
    subst (λ x. StandsAt mem x other) place rest

-- ---- images

images_found : (images : List (List ℕ)) (mem : Memory) (at j : ℕ) → HoldsAt mem at (concat images) → j < length images → HoldsAt mem (slice_index (image_places at images) j) (slice_index_or images j [])
images_found [] mem at j held below = absurd (omega (arith, below))
images_found (image ∷ images) mem at zero held below = held_front mem at image (concat images) held
images_found (image ∷ images) mem at (suc j) held below =
    images_found images mem (at + 4 * length image) j
    (held_behind mem at (at + 4 * length image) image (concat images) refl held) (omega (arith, below))

-- images behind other words
pub images_behind : (images : List (List ℕ)) (mem : Memory) (at to : ℕ) (words : List ℕ) → at + 4 * length words ≡ to → HoldsAt mem at (words ++ concat images) → ImagesStand mem to images
images_behind images mem at to words there held j below =
    images_found images mem to j (held_behind mem at to words (concat images) there held) below

-- ---- how far stubs reach

lies_inside : (p : CodePlan) → p.start.base % 4 ≡ 0 → All (LiesInside p) p.stubs
lies_inside p aligned k d below =
    let stub = slice_index_or p.stubs k d in
    let fits = below_fits home_of stub_bytes p.stubs k d below in
    let even = below_aligned home_of stub_bytes (λ stub. omega arith) stub.home p.stubs in
    record { aligned = omega (arith, aligned, even); from = omega arith; ends = omega (arith, fits) }

-- ---- how many words

pub stub_words : (stubs : List PlainStub) → 4 * length (flat_map stub_code stubs) ≡ stubs_bytes stubs
stub_words [] = refl
stub_words (stub ∷ stubs) =
    let rest = stub_words stubs in
    let more = sum_by-cons stub_bytes stub stubs in
    omega (arith, rest, more)

pub eight_each : (stubs : List PlainStub) → stubs_bytes stubs ≡ 8 * length stubs
eight_each [] = refl
eight_each (stub ∷ stubs) =
    let rest = eight_each stubs in
    let more = sum_by-cons stub_bytes stub stubs in
    omega (arith, rest, more)

module _ (p : CodePlan) (words : List ℕ) (are : AreCodeWords p words) where
  start_count : 4 * length are.first ≡ 64 + start_bytes p.start
  start_count =
      let (stub, (whole, means)) = are.starts in
      let count = mean_count stub (start_stub p.start) means in
      let all : length are.first ≡ 16 + length stub =
      ap (λ (xs : List ℕ). length xs) whole ∙ omega arith in
      omega (arith, count, all)

  jumps_count : 4 * length are.jumps ≡ stubs_bytes p.stubs
  jumps_count =
      let count = mean_count are.jumps (flat_map stub_code are.ordered) are.mean in
      let bytes = stub_words are.ordered in
      let same = sum_by-IsPermutation stub_bytes p.stubs are.ordered are.by_home.same in
      omega (arith, count, bytes, same)

  pub words_count : 4 * length words ≡ 64 + start_bytes p.start + bytes_behind p
  words_count =
      let start = start_count in
      let jumps = jumps_count in
      let all = ap (λ (xs : List ℕ). length xs) are.whole in
      let first = length-append are.first (are.jumps ++ concat p.images) in
      let second = length-append are.jumps (concat p.images) in
      omega (arith, start, jumps, all, first, second)

  module _ (mem : Memory) (held : HoldsAt mem p.start.base words) where
    behind_start : HoldsAt mem (stubs_at p) (are.jumps ++ concat p.images)
    behind_start =
        let count = start_count in
        held_behind mem p.start.base (stubs_at p) are.first (are.jumps ++ concat p.images) (omega (arith, count))
        (subst (λ xs. HoldsAt mem p.start.base xs) are.whole held)

    pub stubs_stand : All (StubStands p mem) p.stubs
    stubs_stand =
        in_any_order home_of stub_bytes (StandsAt mem) (stubs_at p) p.stubs are.ordered are.by_home.same (λ j d inside.
        stub_found are.ordered are.jumps mem (stubs_at p) j d (ascend_from home_of stub_bytes are.ordered are.by_home.ascend) are.mean
        (held_front mem (stubs_at p) are.jumps (concat p.images) behind_start) inside)

pub parts_stand_so : PartsStand
parts_stand_so =
    record {
      stubs = λ p words mem are held. stubs_stand p words are mem held;
      images = λ p words mem are held.
          let count = jumps_count p words are in
          images_behind p.images mem (stubs_at p) (images_at p) are.jumps (omega (arith, count)) (behind_start p words are mem held);
      inside = lies_inside;
      count = λ p words are. words_count p words are;
    }
