-- The premises of the law of runs can be met: a program of six words, whose only object was moved.
use Rattle.std.proofs.Common.{◌≡◌, ◌⊎◌, inl, inr, ℕ, ◌+◌, ◌*◌, ◌/◌, ◌%◌, ◌<◌, ◌≤◌, ◌==◌, nat_lt, nat_le, true, false, ◌&&◌, ◌||◌, if◌then◌else◌, Option, Some, None, pos, refl, sym, subst, arith}
use Rattle.std.proofs.lemmas.Grind.{common_steps}
use Rattle.std.proofs.lemmas.Bool.{cond_both, eqb-true}
use Rattle.std.proofs.lemmas.Bool.Decides.{nat_tests}
use Rattle.list_checks.proofs.TestLemmas.{either}
use Rattle.rv32im.specs.Words.{byte_of}
use Rattle.rv32im.specs.Memory.{Memory, word_at}
use Rattle.rv32im.specs.Table.{Means, IsInRange}
use Rattle.rv32im.specs.declared.instructions.Instr.{Instr}
use Rattle.rv32im.specs.declared.instructions.Instr.TheVariants.{Auipc, OpImm, Ecall}
use Rattle.rv32im.specs.declared.instructions.ImmKind.TheVariants.{Addi}
use Rattle.rv32im.proofs.Meaning.{same_instruction}
use Rattle.flat_machine.specs.State.{State}
use Rattle.flat_machine.specs.Mapping.{can_access}
use Rattle.cell_values.specs.Objects.{Objects}
use Rattle.cell_values.specs.Stands.{Places, kept_uppers}
use Rattle.cell_values.proofs.Makes.{kept_uppers_make}
use Rattle.object_machine.specs.Program.{Program, Target}
use Rattle.object_machine.specs.State.{SourceState}
use Rattle.object_machine.specs.Step.{Reads}
use Rattle.object_machine.specs.Paired.{at_start, PairedSteps}
use Rattle.simulation.specs.Setups.{Setup, Sound}
use Rattle.simulation.specs.Units.{StandsAt, StandsFor, OneWordAt}
use Rattle.simulation.specs.Relation.{Alike}
use Rattle.simulation.specs.Rules.{all_live, UnitAt}
use Rattle.simulation.specs.Laws.{IsUnit, OfBlock, ReachedBy, Behind, AllAtHome, Keeps}
use Rattle.simulation.proofs.AtHome.{runs_at_home, start_value}
use Rattle.simulation.proofs.Completes.{pair_completes}
use Rattle.simulation.proofs.ExampleParts.{bare, one_object, one_range, begun, loaded, number_stands, number_holds, alike_at_start}

-- ---- the program: an address, a call of two words, and the exit

abbrev file_word : ℕ → ℕ
file_word a =
    if a == 4096 then 4759
    else (if a == 4100 then 164499
    else (if a == 4104 then 151
    else (if a == 4108 then 8421607
    else (if a == 4112 then 97519763 else 115))))

abbrev target : Target
target = record { object = 0; offset = 0 }

abbrev objects : Objects
objects = one_object 8192

abbrev program : Program
program =
    record (bare objects file_word) {
      site = λ a. if a == 4096 then Some target else (if a == 4100 then Some target else None);
      named = λ a. if a == 4100 then Some 4096 else None;
      is_pair = λ a. a == 4104;
      goes = λ a. 4112;
      is_block = λ a. (a == 4096) || (a == 4112);
      falls = λ a. (a == 4096) || ((a == 4100) || (a == 4112));
      is_fixed = λ a. nat_le 20480 a && nat_lt a 20484;
      is_held = λ a. nat_le 8192 a && nat_lt a 8208;
    }

-- ---- where it stands: the object lies behind its home, and the first two words make its address there

abbrev place : Places
place o = if o == 0 then 12304 else 64

abbrev placed_word : ℕ → ℕ
placed_word a = if a == 4096 then 8855 else (if a == 4100 then 16941715 else file_word a)

abbrev code_byte : Memory
code_byte a = byte_of (placed_word (a / 4 * 4)) (a % 4)

abbrev setup : Setup
setup = one_range 4096 20480 4120 place (kept_uppers place) code_byte

sound : Sound program setup 0
sound =
    record {
      fit = record {
        grain = inl refl;
        congruent = λ o. grind (arith, nat_tests);
        positive = λ o. grind (arith, nat_tests);
        below = λ o. grind (arith, nat_tests);
        disjoint = λ o q i j other first second same. grind (arith, nat_tests);
      };
      lui = (kept_uppers_make place).0;
      upper_words = (kept_uppers_make place).1;
      mixes = (kept_uppers_make place).2;
      sites = λ u t is. sites u t is;
      fixed_below = λ a fixed. grind (arith, nat_tests);
      fixed_mapped = λ a fixed. grind (arith, nat_tests, common_steps);
      objects_mapped = λ o i inside. grind (arith, nat_tests, common_steps);
      objects_off_fixed = λ o i inside. grind (arith, nat_tests);
      still_off_fixed = λ a still. grind (arith, nat_tests);
      still_off_objects = λ o i inside. grind (arith, nat_tests);
    }
  where
    sites : (u : ℕ) (t : Target) → program.site u ≡ Some t → t.offset < 4294967296
    sites u t =
        cond_both (u == 4096) (Some target) _ (λ o. o ≡ Some t → t.offset < 4294967296)
        (λ first is. here is)
        (λ other. cond_both (u == 4100) (Some target) None (λ o. o ≡ Some t → t.offset < 4294967296)
        (λ second is. here is) (λ none is. absurd (cc)))
      where
        here : Some target ≡ Some t → t.offset < 4294967296
        here is = let same : target ≡ t = cc in subst (λ (y : Target). y.offset < 4294967296) same (omega arith)

-- ---- its units

stands_at : (u w : ℕ) → can_access setup.map u 4 ≡ true → 4096 ≤ u → u + 4 ≤ 4120 → word_at code_byte u ≡ w → StandsAt setup 0 u w
stands_at u w fetched low high word =
    record { fetched = fetched; still = λ i below. grind (arith, nat_tests); word = word }

-- a unit of one word
one_at : (u code : ℕ) (i j : Instr) → program.is_pair u ≡ false → u + 4 < 4294967296 → Means (file_word u) i → StandsAt setup 0 u code → Means code j → IsInRange i → StandsFor program setup 0 u (program.site u) i j → UnitAt program setup 0 u
one_at u code i j single below means stands there range for =
    record {
      one = λ read other reads. known read reads;
      pair = λ pair. absurd (cc);
      below = below;
    }
  where
    known : (read : Option Instr) → Reads (file_word u) read → OneWordAt program setup 0 u read
    known None reads = absurd (reads i means)
    known (Some k) reads =
        let same : i ≡ k = same_instruction (file_word u) i k means reads in
        subst (λ y. OneWordAt program setup 0 u (Some y)) same (code, (j, (stands, (there, (range, for)))))

first_unit : UnitAt program setup 0 4096
first_unit =
    one_at 4096 8855 (Auipc 5 1) (Auipc 5 2) refl (omega arith) (refl, refl, refl)
    (stands_at 4096 8855 refl (omega arith) (omega arith) refl) (refl, refl, refl) (omega arith, omega arith)
    (inl (2, (refl, refl)))

second_unit : UnitAt program setup 0 4100
second_unit =
    one_at 4100 16941715 (OpImm Addi 5 5 (pos 0)) (OpImm Addi 5 5 (pos 16)) refl (omega arith)
    (refl, refl, refl, refl, refl) (stands_at 4100 16941715 refl (omega arith) (omega arith) refl)
    (refl, refl, refl, refl, refl) (omega arith, omega arith, omega arith)
    (refl, (pos 16, (refl, pair_completes program setup 0 4100 target (pos 16) 4096 refl refl refl (omega arith) refl)))

call_unit : UnitAt program setup 0 4104
call_unit =
    record {
      one = λ read single. absurd (cc);
      pair = λ pair.
          record {
            first = 151;
            second = 8421607;
            base = 1;
            upper = 0;
            link = 1;
            lower = pos 8;
            stands = stands_at 4104 151 refl (omega arith) (omega arith) refl;
            stands_behind = stands_at 4108 8421607 refl (omega arith) (omega arith) refl;
            auipc = (refl, refl, refl);
            jalr = (refl, refl, refl, refl, refl);
            word = refl;
            word_behind = refl;
            based = omega arith;
            linked = inl refl;
            goes = refl;
            even = refl;
            below = omega arith;
          };
      below = omega arith;
    }

number_unit : UnitAt program setup 0 4112
number_unit =
    one_at 4112 97519763 (OpImm Addi 17 0 (pos 93)) (OpImm Addi 17 0 (pos 93)) refl (omega arith)
    (refl, refl, refl, refl, refl) (stands_at 4112 97519763 refl (omega arith) (omega arith) refl)
    (refl, refl, refl, refl, refl) (omega arith, omega arith, omega arith) refl

exit_unit : UnitAt program setup 0 4116
exit_unit =
    one_at 4116 115 Ecall Ecall refl (omega arith) refl
    (stands_at 4116 115 refl (omega arith) (omega arith) refl) refl tt refl

-- there are no others
abbrev IsOne : ℕ → Type 0
IsOne u = (u ≡ 4096) ⊎ ((u ≡ 4100) ⊎ ((u ≡ 4104) ⊎ ((u ≡ 4112) ⊎ (u ≡ 4116))))

units_are : (u : ℕ) → IsUnit program u → IsOne u
units_are _ (OfBlock u block) =
    elim (either (u == 4096) (u == 4112) block) [
      | inl first ↦ inl (eqb-true u 4096 first)
      | inr second ↦ inr (inr (inr (inl (eqb-true u 4112 second))))
    ]
units_are _ (ReachedBy u reached) = absurd (cc)
units_are _ (Behind u unit single falls) =
    elim (either (u == 4096) ((u == 4100) || (u == 4112)) falls) [
      | inl first ↦ let is = eqb-true u 4096 first in inr (inl (omega arith))
      | inr later ↦ elim (either (u == 4100) (u == 4112) later) [
        | inl second ↦ let is = eqb-true u 4100 second in inr (inr (inl (omega arith)))
        | inr third ↦ let is = eqb-true u 4112 third in inr (inr (inr (inr (omega arith))))
      ]
    ]

unit_of : (u : ℕ) → IsOne u → UnitAt program setup 0 u
unit_of u (inl is) = subst (UnitAt program setup 0) (sym is) first_unit
unit_of u (inr (inl is)) = subst (UnitAt program setup 0) (sym is) second_unit
unit_of u (inr (inr (inl is))) = subst (UnitAt program setup 0) (sym is) call_unit
unit_of u (inr (inr (inr (inl is)))) = subst (UnitAt program setup 0) (sym is) number_unit
unit_of u (inr (inr (inr (inr is)))) = subst (UnitAt program setup 0) (sym is) exit_unit

all_at_home : AllAtHome program setup 0
all_at_home u unit = unit_of u (units_are u unit)

-- ---- the start

abbrev flat_start : State
flat_start = loaded setup 4096 (λ k. 0) (λ a. if nat_le 4096 a && nat_lt a 4120 then code_byte a else 0)

start_alike : Alike program setup all_live 0 4096 (begun 4096) at_start flat_start
start_alike =
    alike_at_start program setup all_live 0 4096 (begun 4096) flat_start
    (λ k lives. number_stands objects place (kept_uppers place) (k == 0) 0) (λ k lives. number_holds (k == 0) 0 (omega arith))
    (λ a fixed. (grind (arith, nat_tests), omega arith)) (λ o i inside. (grind (arith, nat_tests), omega arith)) (λ a still. rw still refl)
    (record {
      hart = record { pc = omega arith; regs = λ k. omega arith; mem = λ a. bytes a };
      input = λ k d below. absurd (omega arith);
    })
    (refl, refl, refl, refl, refl)
  where
    bytes : (a : ℕ) → flat_start.hart.mem a < 256
    bytes a = cond_both (nat_le 4096 a && nat_lt a 4120) (code_byte a) 0 (λ b. b < 256) (λ code. omega arith) (λ other. omega arith)

-- so what any run of it does is kept
kept : (n : ℕ) (s : SourceState) → PairedSteps program n (begun 4096) at_start s → Keeps n (n * 2) s flat_start
kept n s steps =
    runs_at_home program setup 0 n (begun 4096) s at_start flat_start sound all_at_home (OfBlock 4096 refl) start_alike
    (record { regs = start_value program; fixed = λ a. tt; cells = λ o i. tt }) refl steps
