-- The energy of a run with one item more in the scratchpad, with or without overlay.
use Rattle.std.proofs.Common.{◌≡◌, ◌∙◌, ◌⊎◌, inl, inr, ℕ, ◌+◌, ◌*◌, ◌<◌, ◌==◌, Bool, true, false, not, ◌&&◌, ◌||◌, List, [], ◌∷◌, length, is_some, Option, Some, None, refl, ap, arith, if◌then◌else◌}
use Rattle.std.proofs.lemmas.List.Sums.{sum_by-cons}
use Rattle.list_checks.proofs.SumLemmas.{sum_same}
use Rattle.rv32im.specs.Table.{OneInstruction}
use Rattle.rv32im.specs.declared.instructions.Instr.{Instr}
use Rattle.board_config.specs.declared.board.Prices.{Prices}
use Rattle.object_machine.specs.declared.events.Access.{Access}
use Rattle.placement_programme.specs.declared.variables.VarName.{VarName}
use Rattle.profile_runner.specs.Transition.{Transition, transition_at}
use Rattle.profile_runner.specs.Standing.{begins}
use Rattle.block_splitter.specs.declared.block_range.BlockRange.{BlockRange}
use Rattle.block_splitter.specs.Forms.{holds_block}
use Rattle.energy_model.specs.Energy.{Scene, piece_in, covering, piece_of, brings, is_fast, starts_of, is_checked, block_in, block_at, unit_number, region_before, region_with, form_words, fetch_price, is_fast_access, data_price, access_price, comes_from_outside, arrival_price, start_job, enter_job, leave_job, kept_enter_job, kept_leave_job, switch_price, change_price, step_energy, steps_energy, side_energy}
use Rattle.energy_model.specs.Scenes.{scene_of}
use Rattle.energy_model.specs.Priced.{direction_price}
use Rattle.energy_model.specs.Together.{taken, is_of_piece, copies, IsApartFromAll, SavesAsAlone}
use Rattle.energy_model.proofs.StepLemmas.{IsAccessOf}
use Rattle.energy_model.proofs.SceneLemmas.{unit_of_transition, Follows, follows}
use Rattle.energy_model.proofs.SumLemmas.{sum_two}

cases_bool : (b : Bool) → (b ≡ true) ⊎ (b ≡ false)
cases_bool true = inl refl
cases_bool false = inr refl

-- ---- an item that has nothing in common with others

either_false : (a b : Bool) → a ≡ false → b ≡ false → a || b ≡ false
either_false a b first second = rw (first, second) refl

free_object : (o r : ℕ) (name : VarName) (names : List VarName) → IsApartFromAll name names → brings o r name ≡ true → is_fast names o r ≡ false
free_object o r name [] apart brought = refl
free_object o r name (other ∷ names) apart brought =
    either_false (brings o r other) (is_fast names o r) (apart.0.objects o r brought) (free_object o r name names apart.1 brought)

not_covered : (b : ℕ) (piece rest : Option BlockRange) → is_of_piece b piece ≡ false → rest ≡ None → covering b piece rest ≡ None
not_covered b None rest other none = none
not_covered b (Some p) rest other none = ap (λ (h : Bool). if h then Some p else rest) other ∙ none

free_block : (b : ℕ) (name : VarName) (names : List VarName) → IsApartFromAll name names → copies b name ≡ true → piece_of names b ≡ None
free_block b name [] apart copied = refl
free_block b name (other ∷ names) apart copied =
    not_covered b (piece_in other) (piece_of names b) (apart.0.blocks b copied) (free_block b name names apart.1 copied)

-- ---- the access of a step

-- what an access costs if an item brings its object
abbrev pub touch : Prices → Bool → ℕ → VarName → Option Access → ℕ
touch prices fast r name None = 0
touch prices fast r name (Some a) = if brings a.object r name then direction_price prices fast a.write else 0

one_access : (prices : Prices) (name : VarName) (names : List VarName) (r : ℕ) (access : Option Access) (goes_on : Bool) (instr : Option Instr) → IsAccessOf access goes_on instr → IsApartFromAll name names → (if goes_on then data_price prices (is_fast_access (name ∷ names) r access) instr else 0) + touch prices false r name access ≡ (if goes_on then data_price prices (is_fast_access names r access) instr else 0) + touch prices true r name access
one_access prices name names r None goes_on instr is apart = refl
one_access prices name names r (Some a) goes_on instr is apart =
    let on = is.0 in
    let slow = is.1 prices false in
    let fast = is.1 prices true in
    elim (cases_bool (brings a.object r name)) [
      | inl brought ↦
          let none = free_object a.object r name names apart brought in
          rw (on, brought, none) (omega (arith, slow, fast))
      | inr other ↦ rw other refl
    ]

-- ---- the words of a step, and the way to them

-- by the piece of which its block is copied
abbrev pub by_piece : Scene → Bool → List Transition → ℕ → Option BlockRange → ℕ
by_piece w on ms i o =
    form_words o w (is_checked w (taken on []) (block_at w ms i)) (block_in w (block_at w ms i)) (unit_number w ms i) (transition_at ms i) * fetch_price o w.board.prices
    + (if begins (starts_of w) ms i && comes_from_outside w o ms i then arrival_price w.board.prices (is_some o) (is_checked w (taken on []) (block_at w ms i)) else 0)

held_piece : (f : Option BlockRange → ℕ) (p : BlockRange) (held : Bool) (rest : Option BlockRange) → (held ≡ true → rest ≡ None) → f (if held then Some p else rest) + (if held then f None else 0) ≡ f rest + (if held then f (Some p) else 0)
held_piece f p false rest free = refl
held_piece f p true (Some other) free = let none = free refl in cc
held_piece f p true None free = omega arith

one_piece : (f : Option BlockRange → ℕ) (b : ℕ) (piece rest : Option BlockRange) → (is_of_piece b piece ≡ true → rest ≡ None) → f (covering b piece rest) + (if is_of_piece b piece then f None else 0) ≡ f rest + (if is_of_piece b piece then f piece else 0)
one_piece f b None rest free = refl
one_piece f b (Some p) rest free = held_piece f p (holds_block b p) rest free

-- ---- the copies of a change

abbrev pub jobs : Scene → ℕ → ℕ → VarName → ℕ
jobs w s r name = leave_job w s name + enter_job w r name + kept_leave_job w s r name + kept_enter_job w s r name

abbrev pub changes : Scene → Bool → List Transition → ℕ → Bool
changes w on ms i = on && not (region_before w ms i == region_with w ms i)

one_switch : (w : Scene) (name : VarName) (names : List VarName) (s r : ℕ) → switch_price w (name ∷ names) s r ≡ switch_price w names s r + jobs w s r name
one_switch w name names s r =
    let leave = sum_by-cons (leave_job w s) name names in
    let enter = sum_by-cons (enter_job w r) name names in
    let kept_leave = sum_by-cons (kept_leave_job w s r) name names in
    let kept_enter = sum_by-cons (kept_enter_job w s r) name names in
    omega (arith, leave, enter, kept_leave, kept_enter)

if_more : (test : Bool) (x y z : ℕ) → x ≡ y + z → (if test then x else 0) ≡ (if test then y else 0) + (if test then z else 0)
if_more true x y z is = is
if_more false x y z is = refl

-- ---- a step

abbrev pub slow_price : Scene → Bool → List Transition → VarName → ℕ → ℕ
slow_price w on ms name i =
    touch w.board.prices false (region_with w ms i) name (transition_at ms i).access
    + (if copies (block_at w ms i) name then by_piece w on ms i None else 0)

abbrev pub fast_price : Scene → Bool → List Transition → VarName → ℕ → ℕ
fast_price w on ms name i =
    touch w.board.prices true (region_with w ms i) name (transition_at ms i).access
    + (if copies (block_at w ms i) name then by_piece w on ms i (piece_in name) else 0)
    + (if changes w on ms i then jobs w (region_before w ms i) (region_with w ms i) name else 0)

step_parts : (w : Scene) (on : Bool) (names : List VarName) (ms : List Transition) (i : ℕ) → step_energy w (taken on names) ms i ≡ by_piece w on ms i (piece_of names (block_at w ms i)) + access_price w (taken on names) ms i + change_price w (taken on names) ms i
step_parts w on names ms i =
    let o = piece_of names (block_at w ms i) in
    let checked = is_checked w (taken on []) (block_at w ms i) in
    let words = form_words o w checked (block_in w (block_at w ms i)) (unit_number w ms i) (transition_at ms i) * fetch_price o w.board.prices in
    let way = if begins (starts_of w) ms i && comes_from_outside w o ms i then arrival_price w.board.prices (is_some o) checked else 0 in
    let sum : step_energy w (taken on names) ms i ≡ words + access_price w (taken on names) ms i + way + change_price w (taken on names) ms i = refl in
    omega (arith, sum)

pub step_more : (w : Scene) (on : Bool) (name : VarName) (names : List VarName) (ms : List Transition) (i : ℕ) → Follows w ms → i < length ms → IsApartFromAll name names → step_energy w (taken on (name ∷ names)) ms i + slow_price w on ms name i ≡ step_energy w (taken on names) ms i + fast_price w on ms name i
step_more w on name names ms i all below apart =
    let u = unit_of_transition w ms i in
    let b = block_at w ms i in
    let s = region_before w ms i in
    let r = region_with w ms i in
    let m = transition_at ms i in
    let with_it = step_parts w on (name ∷ names) ms i in
    let without = step_parts w on names ms i in
    let access = one_access w.board.prices name names r m.access m.goes_on u.instr (all.each i below).access apart in
    let piece = one_piece (by_piece w on ms i) b (piece_in name) (piece_of names b) (free_block b name names apart) in
    let change = if_more (changes w on ms i) (switch_price w (name ∷ names) s r) (switch_price w names s r) (jobs w s r name) (one_switch w name names s r) in
    omega (arith, with_it, without, access, piece, change)

same_difference : (all rest alone none slow fast : ℕ) → all + slow ≡ rest + fast → alone + slow ≡ none + fast → all + none ≡ rest + alone
same_difference all rest alone none slow fast one two = omega (arith, one, two)

-- ---- a run

pub saves_steps : (w : Scene) (on : Bool) (name : VarName) (names : List VarName) (ms : List Transition) → Follows w ms → IsApartFromAll name names → steps_energy w (taken on (name ∷ names)) ms + steps_energy w (taken on []) ms ≡ steps_energy w (taken on names) ms + steps_energy w (taken on (name ∷ [])) ms
saves_steps w on name names ms all apart =
    let whole = step_energy w (taken on (name ∷ names)) ms in
    let rest = step_energy w (taken on names) ms in
    let alone = step_energy w (taken on (name ∷ [])) ms in
    let none = step_energy w (taken on []) ms in
    let same = sum_same (λ i. whole i + none i) (λ i. rest i + alone i) (length ms) (λ i below.
    same_difference (whole i) (rest i) (alone i) (none i) (slow_price w on ms name i) (fast_price w on ms name i)
    (step_more w on name names ms i all below apart) (step_more w on name [] ms i all below tt)) in
    let left = sum_two whole none (length ms) in
    let right = sum_two rest alone (length ms) in
    omega (arith, same, left, right)

pub saves_side : (w : Scene) (on : Bool) (name : VarName) (names : List VarName) (ms : List Transition) → Follows w ms → IsApartFromAll name names → side_energy w (taken on (name ∷ names)) ms + side_energy w (taken on []) ms ≡ side_energy w (taken on names) ms + side_energy w (taken on (name ∷ [])) ms
saves_side w on name names ms all apart =
    let steps = saves_steps w on name names ms all apart in
    let whole = sum_by-cons (start_job w) name names in
    let alone = sum_by-cons (start_job w) name [] in
    omega (arith, steps, whole, alone)

pub saves_as_alone : OneInstruction → SavesAsAlone
saves_as_alone one view board g c t q ms on name names given apart =
    saves_side (scene_of g c t board) on name names ms (follows one view board g c t q ms given) apart
