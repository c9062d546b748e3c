-- How many words run.
use Rattle.std.proofs.Common.{◌≡◌, ℕ, zero, suc, ◌+◌, Bool, true, false, not, ◌&&◌, ◌||◌, if◌then◌else◌, length, refl, ap, arith}
use Rattle.std.specs.Prelude.{◌==◌}
use Rattle.std.proofs.lemmas.Bool.Decides.{nat_tests}
use Rattle.block_splitter.specs.declared.unit_kind.UnitKind.{UnitKind}
use Rattle.block_splitter.specs.declared.unit_kind.UnitKind.TheVariants.{Plain, Upper, Branch, Jump, Call, Tail, Indirect, Linking, Halt}
use Rattle.block_splitter.specs.Forms.{copied_words, displaced_words}
use Rattle.flat_machine.specs.Lines.{words_from}
use Rattle.result_laws.specs.Copied.{unit_words}
use Rattle.result_laws.specs.Displaced.{displaced_fetched}
use Rattle.result_laws.specs.CopyLaws.{is_branch_kind, RunsCount}

fetched_count : (at n : ℕ) → length (words_from at n) ≡ n
fetched_count at zero = refl
fetched_count at (suc n) = ap suc (fetched_count (at + 4) n)

copied_count : (inside : ℕ → Bool) (taken : Bool) (next : ℕ) (kind : UnitKind) → is_branch_kind kind ≡ false → unit_words inside taken kind ≡ copied_words inside next kind
copied_count inside taken next Plain other = refl
copied_count inside taken next (Upper rd value) other = refl
copied_count inside taken next (Branch kind rs1 rs2 target) other = absurd (cc (other))
copied_count inside taken next (Jump target) other = refl
copied_count inside taken next (Call target back link) other = refl
copied_count inside taken next (Tail target register) other = refl
copied_count inside taken next Indirect other = refl
copied_count inside taken next (Linking back link base imm) other = refl
copied_count inside taken next Halt other = refl

-- by the tests: the target is where control goes, and is inside
taken_words : (same inside behind : Bool) → same ≡ true → (if true && not inside then 3 else 1) ≡ (if same && not inside then 3 else 1) + (if same || behind then 0 else 2)
taken_words true true behind is = refl
taken_words true false behind is = refl
taken_words false inside behind is = absurd (cc (is))

taken_count : (inside : ℕ → Bool) (target behind : ℕ) → (if true && not (inside target) then 3 else 1) ≡ (if (target == target) && not (inside target) then 3 else 1) + (if (target == target) || inside behind then 0 else 2)
taken_count inside target behind =
    let same : (target == target) ≡ true = grind (arith, nat_tests) in
    taken_words (target == target) (inside target) (inside behind) same

passed_words : (same target behind : Bool) → (same ≡ true → target ≡ behind) → 1 + (if behind then 0 else 2) ≡ (if same && not target then 3 else 1) + (if same || behind then 0 else 2)
passed_words false target behind alike = refl
passed_words true true true alike = refl
passed_words true false false alike = refl
passed_words true true false alike = absurd (cc (alike refl))
passed_words true false true alike = absurd (cc (alike refl))

passed_count : (inside : ℕ → Bool) (target behind : ℕ) → 1 + (if inside behind then 0 else 2) ≡ (if (behind == target) && not (inside target) then 3 else 1) + (if (behind == target) || inside behind then 0 else 2)
passed_count inside target behind =
    passed_words (behind == target) (inside target) (inside behind)
    (λ test. let same : target ≡ behind = grind (arith, nat_tests, test) in ap inside same)

displaced_count : (at : ℕ) (taken : Bool) (kind : UnitKind) → length (displaced_fetched at taken kind) ≡ displaced_words kind
displaced_count at taken Plain = refl
displaced_count at taken (Upper rd value) = refl
displaced_count at taken (Branch kind rs1 rs2 target) = refl
displaced_count at taken (Jump target) = refl
displaced_count at taken (Call target back link) = refl
displaced_count at taken (Tail target register) = refl
displaced_count at taken Indirect = refl
displaced_count at taken (Linking back link base imm) = refl
displaced_count at taken Halt = refl

pub runs_count : RunsCount
runs_count =
    record {
      fetched = fetched_count;
      copied = copied_count;
      taken = λ inside kind rs1 rs2 target behind. taken_count inside target behind;
      passed = λ inside kind rs1 rs2 target behind. passed_count inside target behind;
      displaced = displaced_count;
    }
