-- Bytes of copies: which are present, and where they are from.
use Rattle.std.proofs.Common.{◌≡◌, ◌∙◌, inl, inr, ℕ, zero, suc, ◌+◌, ◌-◌, ◌<◌, ◌≤◌, ◌==◌, true, ◌&&◌, List, refl, sym, subst, arith}
use Rattle.std.proofs.lemmas.Bool.{cases_eq, cases_Bool, both_ways, eqb-true, cond-true, cond-false}
use Rattle.std.proofs.lemmas.Bool.Decides.{nat_tests}
use Rattle.list_checks.proofs.TestLemmas.{both}
use Rattle.loaded_file.specs.Ranges.{inside}
use Rattle.code_blocks.proofs.LeaderLemmas.{both_pass}
use Rattle.placement_programme.specs.declared.variables.VarName.{VarName}
use Rattle.placement_programme.specs.declared.variables.VarName.TheVariants.{StaticData, StaticCode, OverlayData, OverlayCode, KeptData}
use Rattle.relocator.specs.declared.slots.Slot.{Slot}
use Rattle.relocator.specs.Slots.{pair_of, is_code}
use Rattle.relocator.specs.Laws.{IsPresent, slot_at}
use Rattle.result_laws.specs.ChosenJobs.{Images, code_number}
use Rattle.result_laws.specs.OverlaySetup.{is_present, holds_copy, source_below}

-- ---- the test of presence

pub present : (region : ℕ) (name : VarName) → is_present region name ≡ true → IsPresent region name
present region (StaticData object) is = tt
present region (StaticCode first last) is = tt
present region (OverlayData own object) is = eqb-true own region is
present region (OverlayCode own first last) is = eqb-true own region is
present region (KeptData pair object) is = eqb-true (pair_of region) pair is

pub same_numbers : (a b : ℕ) → a ≡ b → a == b ≡ true
same_numbers a b same = grind (arith, nat_tests, same)

pub tests_present : (region : ℕ) (name : VarName) → IsPresent region name → is_present region name ≡ true
tests_present region (StaticData object) is = refl
tests_present region (StaticCode first last) is = refl
tests_present region (OverlayData own object) is = same_numbers own region is
tests_present region (OverlayCode own first last) is = same_numbers own region is
tests_present region (KeptData pair object) is = same_numbers (pair_of region) pair is

-- ---- ranges

-- a byte of a range is one behind its beginning
pub record IsBehind (at size a : ℕ) : Type 0 where
  pub below : a - at < size
  pub there : at + (a - at) ≡ a

pub inside_behind : (at size a : ℕ) → inside at size a ≡ true → IsBehind at size a
inside_behind at size a is =
    let from : at ≤ a = grind (arith, nat_tests, is) in
    let to : a < at + size = grind (arith, nat_tests, is) in
    record { below = omega (arith, from, to); there = omega (arith, from) }

pub inside_at : (at size i : ℕ) → i < size → inside at size (at + i) ≡ true
inside_at at size i below = grind (arith, nat_tests, below)

-- ---- bytes of copies

module _ (slots : List Slot) (images : Images) (region : ℕ) where
  pub record IsCopyByte (a k : ℕ) : Type 0 where
    pub code : is_code (slot_at slots k).name ≡ true
    pub here : IsPresent region (slot_at slots k).name
    pub lies : IsBehind (slot_at slots k).at (images.bytes (code_number slots k)) a

  pub copy_byte : (a k : ℕ) → holds_copy slots images region a k ≡ true → IsCopyByte a k
  copy_byte a k is =
      let at : ℕ = (slot_at slots k).at in
      let bytes : ℕ = images.bytes (code_number slots k) in
      let code = is_code (slot_at slots k).name in
      let here = is_present region (slot_at slots k).name in
      let two = both code (here && inside at bytes a) is in
      let one = both here (inside at bytes a) two.1 in
      record {
        code = two.0;
        here = present region (slot_at slots k).name one.0;
        lies = inside_behind at bytes a one.1;
      }

  pub holds_so : (k i : ℕ) → is_code (slot_at slots k).name ≡ true → IsPresent region (slot_at slots k).name → i < images.bytes (code_number slots k) → holds_copy slots images region ((slot_at slots k).at + i) k ≡ true
  holds_so k i code here below =
      let at : ℕ = (slot_at slots k).at in
      let bytes : ℕ = images.bytes (code_number slots k) in
      both_pass (is_code (slot_at slots k).name) (is_present region (slot_at slots k).name && inside at bytes (at + i)) code
      (both_pass (is_present region (slot_at slots k).name) (inside at bytes (at + i)) (tests_present region (slot_at slots k).name here) (inside_at at bytes i below))

  -- off copies a byte is from its own address
  pub own_source : (a n : ℕ) → ((k : ℕ) → k < n → holds_copy slots images region a k ≡ true → ⊥) → source_below slots images region a n ≡ a
  own_source a zero none = refl
  own_source a (suc n) none =
      let rest = own_source a n (λ k below is. none k (omega (arith, below)) is) in
      elim (cases_Bool (holds_copy slots images region a n)) [
        | inl is ↦ absurd (none n (omega arith) is)
        | inr off ↦ cond-false (holds_copy slots images region a n) (images.at (code_number slots n) + (a - (slot_at slots n).at)) (source_below slots images region a n) off ∙ rest
      ]

  -- a byte of one copy alone is from its image
  pub image_source : (a k n : ℕ) → k < n → holds_copy slots images region a k ≡ true → ((m : ℕ) → m < n → holds_copy slots images region a m ≡ true → k ≡ m) → source_below slots images region a n ≡ images.at (code_number slots k) + (a - (slot_at slots k).at)
  image_source a k zero below is one = absurd (omega (arith, below))
  image_source a k (suc n) below is one =
      let from : ℕ → ℕ = λ j. images.at (code_number slots j) + (a - (slot_at slots j).at) in
      elim (cases_Bool (holds_copy slots images region a n)) [
        | inl last ↦
            cond-true (holds_copy slots images region a n) (from n) (source_below slots images region a n) last
            ∙ subst (λ j. from n ≡ from j) (sym (one n (omega arith) last)) refl
        | inr off ↦ elim (cases_eq k n) [
          | inl same ↦ absurd (both_ways _ off (subst (λ j. holds_copy slots images region a j ≡ true) same is))
          | inr other ↦
              cond-false (holds_copy slots images region a n) (from n) (source_below slots images region a n) off
              ∙ image_source a k n (omega (arith, below, other)) is (λ m within found. one m (omega (arith, within)) found)
        ]
      ]
