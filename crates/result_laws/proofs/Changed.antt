-- A switch whose jobs serve changes the region.
use Rattle.std.proofs.Common.{◌≡◌, ◌∙◌, inl, inr, ℕ, zero, suc, ◌+◌, ◌<◌, List, refl, sym, ap, subst, arith}
use Rattle.std.proofs.lemmas.Bool.{cases_eq}
use Rattle.rv32im.specs.Words.{plus, word_of, byte_of}
use Rattle.rv32im.specs.Memory.{Memory, word_at}
use Rattle.rv32im.specs.Acts.{Registers, register}
use Rattle.flat_machine.specs.State.{State}
use Rattle.flat_machine.specs.Sizes.{HasWords}
use Rattle.patch_code.specs.declared.job.CopyJob.{CopyJob}
use Rattle.patch_code.specs.Switches.{CameTo, Switched}
use Rattle.object_machine.specs.Program.{Program}
use Rattle.simulation.specs.Setups.{Setup}
use Rattle.simulation.specs.Changes.{ChangesRegion}
use Rattle.simulation.specs.RegionLaws.{matters}
use Rattle.result_laws.specs.Serves.{IsOfRegion, IsOfNumber, BringsAll, JobsServe}
use Rattle.result_laws.specs.ArrivalLaws.{SwitchesChange}

-- ---- the number of the region

bytes_in : (w x y z v : ℕ) → w < 256 → x < 256 → y < 256 → z < 256 → word_of w x y z ≡ v → (w ≡ byte_of v 0) × ((x ≡ byte_of v 1) × ((y ≡ byte_of v 2) × (z ≡ byte_of v 3)))
bytes_in w x y z v first second third fourth is = (
  omega (arith, first, second, third, fourth, is),
  (
    omega (arith, first, second, third, fourth, is),
    (omega (arith, first, second, third, fourth, is), omega (arith, first, second, third, fourth, is)),
  ),
)

number_byte : (mem : Memory) (base r k : ℕ) → ((a : ℕ) → mem a < 256) → base + 64 < 4294967296 → word_at mem base ≡ r → k < 4 → mem (base + k) ≡ byte_of r k
number_byte mem base r k small low is below =
    let bytes =
    bytes_in (mem base) (mem (plus base 1)) (mem (plus base 2)) (mem (plus base 3)) r (small base) (small (plus base 1)) (small (plus base 2)) (small (plus base 3)) is in
    by k below bytes.0 bytes.1.0 bytes.1.1.0 bytes.1.1.1
  where
    by : (k : ℕ) → k < 4 → mem base ≡ byte_of r 0 → mem (plus base 1) ≡ byte_of r 1 → mem (plus base 2) ≡ byte_of r 2 → mem (plus base 3) ≡ byte_of r 3 → mem (base + k) ≡ byte_of r k
    by zero below b0 b1 b2 b3 =
        let at : base ≡ base + 0 = omega arith in subst (λ a. mem a ≡ byte_of r 0) at b0
    by (suc zero) below b0 b1 b2 b3 =
        let at : plus base 1 ≡ base + 1 = omega (arith, low) in subst (λ a. mem a ≡ byte_of r 1) at b1
    by (suc (suc zero)) below b0 b1 b2 b3 =
        let at : plus base 2 ≡ base + 2 = omega (arith, low) in subst (λ a. mem a ≡ byte_of r 2) at b2
    by (suc (suc (suc zero))) below b0 b1 b2 b3 =
        let at : plus base 3 ≡ base + 3 = omega (arith, low) in subst (λ a. mem a ≡ byte_of r 3) at b3
    by (suc (suc (suc (suc k)))) below b0 b1 b2 b3 = omega (arith, below)

-- ---- the change

pub other_register : (f g : Registers) (k temp : ℕ) → ((j : ℕ) → (j ≡ temp → ⊥) → f j ≡ g j) → (k ≡ temp → ⊥) → register f k ≡ register g k
other_register f g k temp others other =
    elim (cases_eq k 0) [
      | inl first ↦ rw first refl
      | inr some ↦ let same = others k other in grind (arith, same)
    ]

module _ (p : Program) (l : Setup) (live : ℕ → ℕ → Type 0) (base lo size from to u a temp : ℕ) (jobs : List CopyJob) (t t' : State) (low : base + 64 < 4294967296) (switched : Switched base lo size to jobs t.hart.mem t'.hart.mem) (came : CameTo a temp t t') (words : HasWords t') (dead : live u temp → ⊥) (serve : JobsServe p l base from to jobs) (is : IsOfRegion p l from to t.hart.mem) where
  brings : BringsAll p l base from to t.hart.mem t'.hart.mem
  brings = serve lo size t.hart.mem t'.hart.mem is switched

  number_comes : (x : ℕ) → IsOfNumber l base to x → t'.hart.mem x ≡ l.still to x
  number_comes x of =
      ap t'.hart.mem of.at
      ∙ number_byte t'.hart.mem base to of.k words.hart.mem low switched.current of.below
      ∙ sym of.byte

  reg_stays : (k : ℕ) → live u k → register t'.hart.regs k ≡ register t.hart.regs k
  reg_stays k lives =
      other_register t'.hart.regs t.hart.regs k temp came.registers (λ same. dead (subst (live u) same lives))

  pub region_changed : ChangesRegion p l live from to u t t'
  region_changed =
      record {
        regs = reg_stays;
        fixed = brings.fixed;
        objects = λ o i below. inl (brings.objects o i below);
        still = λ x still. elim (brings.still x still) [ inl of ↦ number_comes x of | inr comes ↦ comes ];
        map = ap (λ (n : State). n.map) came.rest;
        outcome = ap (λ (n : State). n.outcome) came.rest;
        input = ap (λ (n : State). n.input) came.rest;
        output = ap (λ (n : State). n.output) came.rest;
      }

pub switches_change : SwitchesChange
switches_change p l live base lo size from to u a temp jobs t t' low switched came words dead serve is =
    region_changed p l (matters live) base lo size from to u a temp jobs t t' low switched came words dead serve is
