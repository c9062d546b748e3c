-- The slots of pieces of code by their numbers, and which pieces are present while a region is current.
use Rattle.std.proofs.Common.{◌≡◌, ◌∙◌, inl, inr, ℕ, zero, suc, ◌<◌, Bool, true, false, if◌then◌else◌, List, [], ◌∷◌, length, refl, sym, ap, arith}
use Rattle.placement_programme.specs.declared.variables.VarName.{VarName}
use Rattle.placement_programme.specs.declared.variables.VarName.TheVariants.{StaticData, StaticCode, OverlayData, OverlayCode, KeptData}
use Rattle.block_splitter.specs.declared.block_range.BlockRange.{BlockRange}
use Rattle.block_splitter.specs.Forms.{holds_block}
use Rattle.relocator.specs.declared.slots.Slot.{Slot}
use Rattle.relocator.specs.Slots.{is_code, code_slots}
use Rattle.relocator.specs.Laws.{IsPresent}
use Rattle.relocator.proofs.WeightLemmas.{IsAmong}
use Rattle.result_laws.specs.ChosenJobs.{code_number}
use Rattle.result_laws.specs.Memories.{IsOfCode}
use Rattle.result_laws.specs.Entries.{RunsIn}
use Rattle.result_laws.specs.ChosenPlacement.{NamesRange}

-- ---- the slot of an item of code

-- a slot of code has this number among them
abbrev pub HasNumber : List Slot → ℕ → Type 0
HasNumber slots n = (k : ℕ) × (IsOfCode slots k × (code_number slots k ≡ n))

numbered_next : (s : Slot) (ss : List Slot) (b : Bool) (n : ℕ) → is_code s.name ≡ b → ((m : ℕ) → m < length (code_slots ss) → HasNumber ss m) → n < length (if b then s.at ∷ code_slots ss else code_slots ss) → HasNumber (s ∷ ss) n
numbered_next s ss true zero is later below = (0, ((omega arith, is), refl))
numbered_next s ss true (suc m) is later below =
    let found = later m (omega (arith, below)) in
    let inside = found.1.0.0 in
    (suc found.0, ((omega (arith, inside), found.1.0.1), ap (λ (t : Bool). if t then suc (code_number ss found.0) else code_number ss found.0) is ∙ ap (λ (k : ℕ). suc k) found.1.1))
numbered_next s ss false n is later below =
    let found = later n below in
    let inside = found.1.0.0 in
    (suc found.0, ((omega (arith, inside), found.1.0.1), ap (λ (t : Bool). if t then suc (code_number ss found.0) else code_number ss found.0) is ∙ found.1.1))

pub numbered : (slots : List Slot) (n : ℕ) → n < length (code_slots slots) → HasNumber slots n
numbered [] n below = absurd (omega (arith, below))
numbered (s ∷ ss) n below = numbered_next s ss (is_code s.name) n refl (λ m less. numbered ss m less) below

-- ---- presence

-- a piece is present where one of its blocks may run
pub piece_present : (regions : List ℕ) (count r b : ℕ) (name : VarName) (range : BlockRange) → IsAmong count name → NamesRange regions name range → holds_block b range ≡ true → RunsIn regions b r → IsPresent r name
piece_present regions count r b (StaticData object) range among named held runs = tt
piece_present regions count r b (StaticCode first last) range among named held runs = tt
piece_present regions count r b (OverlayData own object) range among named held runs = absurd named
piece_present regions count r b (OverlayCode own first last) range among named held (inl none) =
    let same = named.1 b held in
    let some = among.0 in
    absurd (omega (arith, same, some, none))
piece_present regions count r b (OverlayCode own first last) range among named held (inr here) = sym (named.1 b held) ∙ here
piece_present regions count r b (KeptData pair object) range among named held runs = absurd named
