-- What a plan of named jobs takes, where its images begin, and that it is the plan of slots.
use Rattle.std.proofs.Common.{◌≡◌, ◌∙◌, inl, inr, ℕ, zero, suc, ◌+◌, ◌*◌, ◌<◌, ◌≤◌, Bool, true, false, List, [], ◌∷◌, length, map, get_or, refl, sym, ap, arith, if◌then◌else◌}
use Rattle.std.specs.List.{sum_by, concat}
use Rattle.std.specs.Prelude.{Option, Some, None}
use Rattle.std.proofs.lemmas.Bool.{cases_eq}
use Rattle.std.proofs.lemmas.List.{length-append}
use Rattle.std.proofs.lemmas.List.Sums.{sum_by-cons}
use Rattle.object_graph.specs.declared.parts.Graph.{Graph}
use Rattle.placement_programme.specs.declared.variables.VarName.{VarName}
use Rattle.patch_code.specs.declared.job.CopyJob.{CopyJob}
use Rattle.patch_code.specs.Jobs.{fences}
use Rattle.patch_code.specs.Parts.{SwitchPlan, twin_of, twin_in}
use Rattle.patch_code.specs.Counts.{kept_words, first_words}
use Rattle.patch_code.specs.Layout.{image_bytes, image_places}
use Rattle.patch_code.specs.Overlay.{OverlayPlan, switching, switch_bytes}
use Rattle.patch_code.proofs.SizeLemmas.{some_words}
use Rattle.relocator.specs.declared.places.Places.{Places}
use Rattle.result_laws.specs.ChosenJobs.{Images, next_code}
use Rattle.result_laws.specs.PlacedPieces.{piece_bytes}
use Rattle.result_laws.specs.ChosenPlacement.{no_piece}
use Rattle.result_laws.specs.PlacedView.{image_in, words_in}
use Rattle.relink_core.specs.declared.placed_copy.PlacedCopy.{PlacedCopy}
use Rattle.relink_core.specs.declared.items.Phase.{Phase}
use Rattle.relink_core.specs.declared.items.PlannedItems.{PlannedItems}
use Rattle.relink_core.specs.Naming.{in_phase, phase_region, placed_pieces, images_of, copied_words, copied_bytes, images_at, named_into, named_entering, phase_entering}
use Rattle.relink_core.proofs.RoutineRoom.{no_bytes}

-- ---- images

pub images_summed : (xs : List PlacedCopy) → image_bytes (map copied_words xs) ≡ sum_by copied_bytes xs
images_summed [] = refl
images_summed (x ∷ xs) =
    let whole = length-append x.code.words.items (concat (map copied_words xs)) in
    let rest = images_summed xs in
    let one = sum_by-cons copied_bytes x xs in
    omega (arith, whole, rest, one)

pub pieces_words : (first : ℕ) (xs : List PlacedCopy) → map copied_words xs ≡ map words_in (placed_pieces first xs)
pieces_words first [] = refl
pieces_words first (x ∷ xs) = let rest = pieces_words (first + 4 * length x.code.words.items) xs in λ i. x.code.words.items ∷ rest i

pub pieces_places : (first : ℕ) (xs : List PlacedCopy) → map image_in (placed_pieces first xs) ≡ image_places first (map copied_words xs)
pieces_places first [] = refl
pieces_places first (x ∷ xs) = let rest = pieces_places (first + 4 * length x.code.words.items) xs in λ i. first ∷ rest i

image_same : (first : ℕ) (xs : List PlacedCopy) (n : ℕ) → get_or (image_places first (map copied_words xs)) n 0 ≡ (get_or (placed_pieces first xs) n no_piece).image
image_same first [] n = refl
image_same first (x ∷ xs) zero = refl
image_same first (x ∷ xs) (suc n) = image_same (first + 4 * length x.code.words.items) xs n

bytes_same : (first : ℕ) (xs : List PlacedCopy) (n : ℕ) → get_or (map copied_bytes xs) n 0 ≡ piece_bytes (get_or (placed_pieces first xs) n no_piece)
bytes_same first [] n = refl
bytes_same first (x ∷ xs) zero = refl
bytes_same first (x ∷ xs) (suc n) = bytes_same (first + 4 * length x.code.words.items) xs n

pub images_are : (first : ℕ) (xs : List PlacedCopy) → images_at (image_places first (map copied_words xs)) xs ≡ images_of (placed_pieces first xs)
images_are first xs = λ i. record { at = λ n. image_same first xs n i; bytes = λ n. bytes_same first xs n i }

-- ---- counts don't depend on where images stand

entering_long : (which : VarName → Bool) (g : Graph) (places : Places) (one other : Images) (r n : ℕ) (names : List VarName) → length (named_entering which g places one r n names) ≡ length (named_entering which g places other r n names)
entering_long which g places one other r n [] = refl
entering_long which g places one other r n (name ∷ names) =
    let m = next_code name n in
    let first = length-append (if which name then named_into g places one r n name ∷ [] else []) (named_entering which g places one r m names) in
    let second = length-append (if which name then named_into g places other r n name ∷ [] else []) (named_entering which g places other r m names) in
    let here = by (which name) (named_into g places one r n name) (named_into g places other r n name) in
    let rest = entering_long which g places one other r m names in
    omega (arith, first, second, here, rest)
  where
    by : (b : Bool) (x y : CopyJob) → length (if b then x ∷ [] else []) ≡ length (if b then y ∷ [] else [])
    by true x y = refl
    by false x y = refl

pub phase_long : (phase : Phase) (items : PlannedItems) (one other : List ℕ) → length (phase_entering phase items one) ≡ length (phase_entering phase items other)
phase_long phase items one other =
    entering_long (in_phase phase) items.graph.now items.places.now (images_at one items.copies.now) (images_at other items.copies.now) (phase_region phase) 0 items.names.now

-- two plans with as many jobs in each region
pub record AreAsLong (w u : SwitchPlan (List CopyJob)) (n : ℕ) : Type 0 where
  pub leave : (i : ℕ) → i < n → length (w.leave i) ≡ length (u.leave i)
  pub enter : (i : ℕ) → i < n → length (w.enter i) ≡ length (u.enter i)
  pub kept_leave : (i : ℕ) → i < n → length (w.kept_leave i) ≡ length (u.kept_leave i)
  pub kept_enter : (i : ℕ) → i < n → length (w.kept_enter i) ≡ length (u.kept_enter i)

kept_same : (one other : Option ℕ) (x y : List CopyJob) → one ≡ other → length x ≡ length y → kept_words one x ≡ kept_words other y
kept_same one other x y same long = ap (λ (t : Option ℕ). kept_words t x) same ∙ by other
  where
    by : (t : Option ℕ) → kept_words t x ≡ kept_words t y
    by None = refl
    by (Some twin) = ap (λ (n : ℕ). 3 + 11 * n) long

words_same : (w u : SwitchPlan (List CopyJob)) (n m : ℕ) → w.twins ≡ u.twins → w.regions ≡ u.regions → n ≤ m → AreAsLong w u m → first_words w n ≡ first_words u n
words_same w u zero m twins regions within long = refl
words_same w u (suc n) m twins regions within long =
    let earlier = words_same w u n m twins regions (omega (arith, within)) long in
    let below : n < m = omega (arith, within) in
    let twin : twin_in w (n + 1) ≡ twin_in u (n + 1) = λ i. if twins i then twin_of (regions i) (n + 1) else None in
    let leave = long.leave n below in
    let enter = long.enter n below in
    let kept_leave = kept_same (twin_in w (n + 1)) (twin_in u (n + 1)) (w.kept_leave n) (u.kept_leave n) twin (long.kept_leave n below) in
    let kept_enter = kept_same (twin_in w (n + 1)) (twin_in u (n + 1)) (w.kept_enter n) (u.kept_enter n) twin (long.kept_enter n below) in
    omega (arith, earlier, leave, enter, kept_leave, kept_enter)

pub routine_same : (p q : OverlayPlan) → p.start.fence_i ≡ q.start.fence_i → p.twins ≡ q.twins → p.regions ≡ q.regions → AreAsLong (switching p) (switching q) p.regions → switch_bytes p ≡ switch_bytes q
routine_same p q fence twins regions long =
    elim (cases_eq p.regions 0) [
      | inl none ↦ no_bytes p none ∙ sym (no_bytes q (sym regions ∙ none))
      | inr some ↦
          let one = some_words p some in
          let other = some_words q (λ none. some (regions ∙ none)) in
          let words = words_same (switching p) (switching q) p.regions p.regions twins regions (omega arith) long in
          let number = ap (first_words (switching q)) regions in
          let fences_are = ap (λ (b : Bool). length (fences b)) fence in
          omega (arith, one, other, words, number, fences_are)
    ]
