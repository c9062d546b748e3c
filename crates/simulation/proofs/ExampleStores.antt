-- The premises of runs are met: a program of four units writes into an object that stands 4096 bytes behind its
-- home, reads what it wrote, and exits with it.
use Rattle.std.proofs.Common.{◌≡◌, ◌⊎◌, inl, inr, ℕ, ◌+◌, ◌*◌, ◌<◌, ◌≤◌, ◌==◌, if◌then◌else◌, Bool, true, false, ◌&&◌, nat_le, nat_lt, Option, Some, None, [], refl, sym, subst, arith}
use Rattle.std.specs.Prelude.{pos}
use Rattle.std.proofs.lemmas.Bool.{eqb-true}
use Rattle.std.proofs.lemmas.Bool.Decides.{nat_tests}
use Rattle.std.proofs.lemmas.List.Elements.{All-nil}
use Rattle.rv32im.specs.Memory.{Memory, zeros, put, put_word}
use Rattle.rv32im.specs.Table.{Means}
use Rattle.rv32im.proofs.Meaning.{same_instruction}
use Rattle.rv32im.specs.declared.instructions.Instr.{Instr}
use Rattle.rv32im.specs.declared.instructions.Instr.TheVariants.{Lui, Load, Store, Ecall}
use Rattle.rv32im.specs.declared.instructions.LoadKind.TheVariants.{Lw}
use Rattle.rv32im.specs.declared.instructions.StoreKind.TheVariants.{Sw}
use Rattle.elf_reader.specs.Loadable.{IsByte}
use Rattle.flat_machine.specs.declared.events.FlatOutcome as flat
use Rattle.flat_machine.specs.State.{State}
use Rattle.flat_machine.specs.Runs.{Steps}
use Rattle.cell_values.specs.Objects.{Objects}
use Rattle.cell_values.specs.declared.values.Val.{Val}
use Rattle.cell_values.specs.declared.values.Val.TheVariants.{Int}
use Rattle.cell_values.specs.Origins.{ByLui}
use Rattle.cell_values.specs.Stands.{Places, Fit, moved_uppers}
use Rattle.cell_values.proofs.Makes.{moved_uppers_make}
use Rattle.cell_values.specs.Cells.{put_at}
use Rattle.object_machine.specs.declared.events.Outcome.TheVariants.{Exited}
use Rattle.object_machine.specs.Program.{Program, Target}
use Rattle.object_machine.specs.State.{SourceState, value}
use Rattle.object_machine.specs.Step.{Reads, next_state}
use Rattle.object_machine.specs.Paired.{at_start, PairedSteps}
use Rattle.simulation.specs.Setups.{Setup, Sound}
use Rattle.simulation.specs.Made.{IsMade, AreMade}
use Rattle.simulation.specs.Units.{StandsAt, OneWordAt, Completes}
use Rattle.simulation.specs.Relation.{Alike}
use Rattle.simulation.specs.Rules.{all_live, UnitAt}
use Rattle.simulation.specs.Laws.{Keeps, IsUnit, AllAtHome}
use Rattle.simulation.specs.Laws.IsUnit.{OfBlock, ReachedBy, Behind}
use Rattle.simulation.proofs.AtHome.{runs_at_home}
use Rattle.simulation.proofs.Completes.{moved_completes}
use Rattle.simulation.proofs.ExampleParts.{bare, one_object, one_range, begun, loaded, number_stands, number_holds, alike_at_start}

-- ---- the program: one object of 16 bytes with home 4096, fixed memory at 2048, and from 1024 on LUI x5 and
-- SW x6, 4(x5), LW x10, 4(x5), which are sites of the object's byte 4, and ECALL
abbrev objects : Objects
objects = one_object 4096

abbrev target : Target
target = record { object = 0; offset = 4 }

abbrev store : Instr
store = Store Sw 5 6 (pos 4)

abbrev load : Instr
load = Load Lw 10 5 (pos 4)

abbrev program : Program
program =
    record (bare objects (λ a. if a == 1024 then 4791 else (if a == 1028 then 6464035 else (if a == 1032 then 4367619 else 115)))) {
      site = λ a. if nat_lt a 1036 then Some target else None;
      is_block = λ a. a == 1024;
      falls = λ a. nat_lt a 1036;
      is_fixed = λ a. nat_le 2048 a && nat_lt a 2064;
      is_held = λ a. nat_le 4096 a && nat_lt a 4112;
    }

-- ---- the setup: the object stands at 8192, and the LUI makes the upper part of that
abbrev place : Places
place = λ o. if o == 0 then 8192 else 64

abbrev code : Memory
code = put_word (put_word (put_word (put_word zeros 1024 8887) 1028 6464035) 1032 4367619) 1036 115

abbrev setup : Setup
setup = one_range 1024 16384 1040 place (moved_uppers place) code

objects_fit : Fit objects place
objects_fit =
    record {
      grain = inl refl;
      congruent = λ o. grind (arith, nat_tests);
      positive = λ o. grind (arith, nat_tests);
      below = λ o. grind (arith, nat_tests);
      disjoint = λ o q i j other first second same. grind (arith, nat_tests);
    }

site_small : (test : Bool) (t : Target) → (if test then Some target else None) ≡ Some t → t.offset < 4294967296
site_small true t is = let same : target ≡ t = cc in subst (λ (q : Target). q.offset < 4294967296) same (omega arith)
site_small false t is = cc

setup_sound : Sound program setup 0
setup_sound =
    let uppers = moved_uppers_make place in
    record {
      fit = objects_fit;
      lui = uppers.0;
      upper_words = uppers.1;
      mixes = uppers.2;
      sites = λ u t is. site_small (nat_lt u 1036) t is;
      fixed_below = λ a is. grind (arith, nat_tests);
      fixed_mapped = λ a is. grind (arith, nat_tests);
      objects_mapped = λ o i below. grind (arith, nat_tests);
      objects_off_fixed = λ o i below. grind (arith, nat_tests);
      still_off_fixed = λ a is. grind (arith, nat_tests);
      still_off_objects = λ o i below. grind (arith, nat_tests);
    }

-- ---- the units

-- what stands at a unit of which one meaning is known
unit_at : (u : ℕ) (i : Instr) → Means (program.word u) i → u + 4 < 4294967296 → OneWordAt program setup 0 u (Some i) → UnitAt program setup 0 u
unit_at u i means below home = record { one = one; pair = λ is. cc; below = below }
  where
    one : (read : Option Instr) → false ≡ false → Reads (program.word u) read → OneWordAt program setup 0 u read
    one None single nothing = absurd (nothing i means)
    one (Some j) single other =
        subst (λ q. OneWordAt program setup 0 u (Some q)) (same_instruction (program.word u) i j means other) home

words_stand : StandsAt setup 0 1024 8887 × StandsAt setup 0 1028 6464035 × StandsAt setup 0 1032 4367619 × StandsAt setup 0 1036 115
unfolding put
words_stand = (
  record { fetched = refl; still = λ i below. grind (arith, nat_tests); word = refl },
  record { fetched = refl; still = λ i below. grind (arith, nat_tests); word = refl },
  record { fetched = refl; still = λ i below. grind (arith, nat_tests); word = refl },
  record { fetched = refl; still = λ i below. grind (arith, nat_tests); word = refl },
)

completes : (u : ℕ) → Completes program setup 0 u target (pos 4)
completes u = moved_completes program setup 0 u target (pos 4) setup_sound refl refl

means_lui : Means 4791 (Lui 5 1)
means_lui = (refl, refl, refl)

means_store : Means 6464035 store
means_store = (refl, refl, refl, refl, refl)

means_load : Means 4367619 load
means_load = (refl, refl, refl, refl, refl)

unit_lui : UnitAt program setup 0 1024
unit_lui =
    unit_at 1024 (Lui 5 1) means_lui (omega arith)
    (8887, (Lui 5 2, (words_stand.0, ((refl, refl, refl), ((omega arith, omega arith), (2, (refl, refl)))))))

unit_store : UnitAt program setup 0 1028
unit_store =
    unit_at 1028 store means_store (omega arith)
    (6464035, (store, (words_stand.1, (means_store, ((omega arith, omega arith, omega arith), (pos 4, (refl, completes 1028)))))))

unit_load : UnitAt program setup 0 1032
unit_load =
    unit_at 1032 load means_load (omega arith)
    (4367619, (load, (words_stand.2, (means_load, ((omega arith, omega arith, omega arith), (pos 4, (refl, completes 1032)))))))

unit_call : UnitAt program setup 0 1036
unit_call = unit_at 1036 Ecall refl (omega arith) (115, (Ecall, (words_stand.3, (refl, (tt, refl)))))

-- no other unit is found
four_units : (u : ℕ) → IsUnit program u → (u ≡ 1024) ⊎ ((u ≡ 1028) ⊎ ((u ≡ 1032) ⊎ (u ≡ 1036)))
four_units u (OfBlock _ is) = inl (eqb-true u 1024 is)
four_units u (ReachedBy _ is) = cc
four_units u (Behind v unit single falls) =
    let before = four_units v unit in
    grind (arith, nat_tests)

all_at_home : AllAtHome program setup 0
all_at_home u unit =
    elim (four_units u unit) [
      | inl is ↦ subst (λ a. UnitAt program setup 0 a) (sym is) unit_lui
      | inr others ↦ elim others [
        | inl is ↦ subst (λ a. UnitAt program setup 0 a) (sym is) unit_store
        | inr rest ↦ elim rest [
          | inl is ↦ subst (λ a. UnitAt program setup 0 a) (sym is) unit_load
          | inr is ↦ subst (λ a. UnitAt program setup 0 a) (sym is) unit_call
        ]
      ]
    ]

-- ---- the states: x6 holds 7, and all other registers 93, the number of the call that exits
abbrev source : SourceState
source = record (begun 1024) { regs = λ k. Int (if k == 6 then 7 else 93) }

abbrev state : State
state = loaded setup 1024 (λ k. if k == 6 then 7 else 93) code

states_alike : Alike program setup all_live 0 1024 source at_start state
unfolding put
states_alike =
    alike_at_start program setup all_live 0 1024 source state
    (λ k lives. number_stands objects place (moved_uppers place) (k == 0) (if k == 6 then 7 else 93))
    (λ k lives. number_holds (k == 0) (if k == 6 then 7 else 93) (grind (arith, nat_tests)))
    (λ a is. (grind (arith, nat_tests), omega arith)) (λ o i below. (grind (arith, nat_tests), omega arith)) (λ a is. refl)
    (record {
      hart = record { pc = omega arith; regs = λ k. grind (arith, nat_tests); mem = λ a. grind (arith, nat_tests) };
      input = All-nil IsByte;
    })
    (refl, refl, refl, refl, refl)

by_lui : (x : Val) → IsMade program ByLui x
by_lui x = grind (arith, nat_tests)

source_made : AreMade program source at_start
source_made = record { regs = λ k. by_lui (value source.regs k); fixed = λ a. tt; cells = λ o i. tt }

-- ---- the run
abbrev after_lui : SourceState
after_lui = next_state program source (Some (Lui 5 1))

abbrev after_store : SourceState
after_store = next_state program after_lui (Some store)

abbrev after_load : SourceState
after_load = next_state program after_store (Some load)

abbrev after_call : SourceState
after_call = next_state program after_load (Some Ecall)

run : PairedSteps program 4 source at_start after_call
unfolding put_at
run =
    (Some (Lui 5 1), (means_lui, (refl, (Some store, (means_store, (refl, (Some load, (means_load, (refl, (Some Ecall, (refl, (refl, refl))))))))))))

exits : after_call.outcome ≡ Exited 7
unfolding put_at
exits = refl

kept : Keeps 4 (4 * 2) after_call state
kept =
    runs_at_home program setup 0 4 source after_call at_start state setup_sound all_at_home (OfBlock 1024 refl)
    states_alike source_made refl run

-- the flat machine exits with 7 too
flat_exits : (k : ℕ) × ((t : State) × ((k ≤ 8) × (Steps k state t × ((t.outcome ≡ flat.TheVariants.Exited 7) × (t.output ≡ [])))))
unfolding put_at
flat_exits = (kept.0, (kept.1.0, (kept.1.1.0.most, kept.1.1.1)))
