-- The example, word by word; and a state in which it stands and runs.
use Rattle.std.proofs.Common.{◌≡◌, ℕ, ◌+◌, ◌-◌, ◌*◌, ◌/◌, ◌%◌, ◌≤◌, List, [], ◌∷◌, ◌++◌, length, get_or, refl, inl, inr, arith}
use Rattle.std.specs.Prelude.{replicate}
use Rattle.std.proofs.lemmas.Bool.Decides.{nat_tests}
use Rattle.std.proofs.lemmas.List.Elements.{All-nil, All-cons}
use Rattle.rv32im.specs.Words.{byte_of}
use Rattle.rv32im.specs.Memory.{Memory, zeros, word_at}
use Rattle.patch_code.specs.Jobs.{copying}
use Rattle.flat_machine.specs.declared.events.FlatOutcome.TheVariants.{GoesOn}
use Rattle.flat_machine.specs.State.{State}
use Rattle.flat_machine.specs.Lines.{AreMapped, CodeAt}
use Rattle.patch_code.specs.Switching.{routine, jobs_code}
use Rattle.patch_code.specs.Checking.{checking}
use Rattle.patch_code.specs.Switches.{FitsJob, HasRoutine, IsAtStub}
use Rattle.patch_code.specs.Example.{example_plan, example_stub, example_routine, ExampleWords}

pub example_words_so : ExampleWords
unfolding checking routine copying
example_words_so = (
  ((refl, refl, refl), ((refl, refl, refl, refl, refl), ((refl, refl, refl, refl, refl), ((refl, refl, refl, refl, refl), ((refl, refl, refl), ((refl, refl, refl, refl, refl), ((refl, refl, refl, refl, refl), ((refl, refl, refl, refl, refl), ((refl, refl, refl, refl, refl), ((refl, refl, refl, refl, refl), ((refl, refl, refl, refl, refl), ((refl, refl, refl, refl, refl), ((refl, refl, refl, refl, refl), ((refl, refl, refl), ((refl, refl, refl), ((refl, refl, refl, refl, refl), ((refl, refl, refl, refl, refl), ((refl, refl, refl, refl, refl), ((refl, refl, refl, refl, refl), ((refl, refl, refl, refl, refl), ((refl, refl, refl, refl, refl), ((refl, refl, refl, refl, refl), ((refl, refl, refl), ((refl, refl, refl, refl, refl), tt)))))))))))))))))))))))),
  ((refl, refl, refl), ((refl, refl, refl, refl, refl), ((refl, refl, refl, refl, refl), ((refl, refl, refl, refl, refl), ((refl, refl, refl), ((refl, refl, refl, refl, refl), ((refl, refl, refl, refl, refl), ((refl, refl, refl), ((refl, refl, refl), ((refl, refl, refl, refl, refl), ((refl, refl, refl), ((refl, refl, refl, refl, refl), ((refl, refl, refl), ((refl, refl, refl, refl, refl), ((refl, refl, refl, refl, refl), ((refl, refl, refl, refl, refl), ((refl, refl, refl, refl, refl), ((refl, refl, refl, refl, refl), ((refl, refl, refl, refl, refl), ((refl, refl, refl), ((refl, refl, refl, refl, refl), ((refl, refl, refl, refl, refl), tt)))))))))))))))))))))),
)

-- ---- the words in memory, behind control words of which the first is 0

abbrev words : List ℕ
words = replicate 16 0 ++ (replicate 5 0 ++ (example_stub ++ (example_routine ++ 0x00a00513 ∷ 0x00008067 ∷ [])))

abbrev stored : Memory
stored = λ a. byte_of (get_or words ((a - 0x90000) / 4) 0) (a % 4)

abbrev example_state : State
example_state =
    record {
      map = record { base = 0x90000; size = 4096 } ∷ record { base = 0x1000000; size = 1024 } ∷ [];
      hart = record { pc = 0x90054; regs = zeros; mem = stored };
      input = [];
      output = [];
      outcome = GoesOn;
    }

mapped : (at n : ℕ) → 0x90000 ≤ at → at + n ≤ 0x91000 → AreMapped example_state.map at n
mapped at n low high i below = grind (arith, nat_tests, low, high, below)

mapped_fast : (at n : ℕ) → 0x1000000 ≤ at → at + n ≤ 0x1000400 → AreMapped example_state.map at n
mapped_fast at n low high i below = grind (arith, nat_tests, low, high, below)

routine_stands : CodeAt example_state.map example_state.hart.mem 0x900b4 (routine jobs_code example_plan)
unfolding routine copying
routine_stands = ((refl, (refl, refl, refl)), ((refl, (refl, refl, refl, refl, refl)), ((refl, (refl, refl, refl, refl, refl)), ((refl, (refl, refl, refl, refl, refl)), ((refl, (refl, refl, refl)), ((refl, (refl, refl, refl, refl, refl)), ((refl, (refl, refl, refl, refl, refl)), ((refl, (refl, refl, refl)), ((refl, (refl, refl, refl)), ((refl, (refl, refl, refl, refl, refl)), ((refl, (refl, refl, refl)), ((refl, (refl, refl, refl, refl, refl)), ((refl, (refl, refl, refl)), ((refl, (refl, refl, refl, refl, refl)), ((refl, (refl, refl, refl, refl, refl)), ((refl, (refl, refl, refl, refl, refl)), ((refl, (refl, refl, refl, refl, refl)), ((refl, (refl, refl, refl, refl, refl)), ((refl, (refl, refl, refl, refl, refl)), ((refl, (refl, refl, refl)), ((refl, (refl, refl, refl, refl, refl)), ((refl, (refl, refl, refl, refl, refl)), tt))))))))))))))))))))))

stub_stands : CodeAt example_state.map example_state.hart.mem 0x90054 (checking 0x90000 5 1 0x90054 0x900b4)
unfolding checking
stub_stands = ((refl, (refl, refl, refl)), ((refl, (refl, refl, refl, refl, refl)), ((refl, (refl, refl, refl, refl, refl)), ((refl, (refl, refl, refl, refl, refl)), ((refl, (refl, refl, refl)), ((refl, (refl, refl, refl, refl, refl)), ((refl, (refl, refl, refl, refl, refl)), ((refl, (refl, refl, refl, refl, refl)), ((refl, (refl, refl, refl, refl, refl)), ((refl, (refl, refl, refl, refl, refl)), ((refl, (refl, refl, refl, refl, refl)), ((refl, (refl, refl, refl, refl, refl)), ((refl, (refl, refl, refl, refl, refl)), ((refl, (refl, refl, refl)), ((refl, (refl, refl, refl)), ((refl, (refl, refl, refl, refl, refl)), ((refl, (refl, refl, refl, refl, refl)), ((refl, (refl, refl, refl, refl, refl)), ((refl, (refl, refl, refl, refl, refl)), ((refl, (refl, refl, refl, refl, refl)), ((refl, (refl, refl, refl, refl, refl)), ((refl, (refl, refl, refl, refl, refl)), tt))))))))))))))))))))))

routine_fits : 0x900b4 + 4 * length (routine jobs_code example_plan) ≤ 0x90040 + 0xd4
unfolding routine copying
routine_fits = omega arith

job_fits : FitsJob 0x90000 0x90040 0xd4 example_state (record { from = 0x9010c; to = 0x1000000; bytes = 8 })
job_fits =
    record {
      is = record { some = omega arith; source = omega arith; target = omega arith; disjoint = inl (omega arith) };
      can = (mapped 0x9010c 8 (omega arith) (omega arith), mapped_fast 0x1000000 8 (omega arith) (omega arith));
      spares = inr (omega arith);
      target = inr (omega arith);
      source = inr (omega arith);
    }

-- the premises of the laws can be met
pub example_has : HasRoutine example_plan 0x90040 0xd4 0x900b4 example_state
example_has =
    record {
      aligned = refl;
      behind = omega arith;
      below = omega arith;
      low = omega arith;
      high = routine_fits;
      few = omega arith;
      control = mapped 0x90000 64 (omega arith) (omega arith);
      jobs = λ i below. record {
        leave = All-nil (FitsJob 0x90000 0x90040 0xd4 example_state);
        enter = All-cons (FitsJob 0x90000 0x90040 0xd4 example_state) (record { from = 0x9010c; to = 0x1000000; bytes = 8 }) [] job_fits
            (All-nil (FitsJob 0x90000 0x90040 0xd4 example_state));
        kept_leave = All-nil (FitsJob 0x90000 0x90040 0xd4 example_state);
        kept_enter = All-nil (FitsJob 0x90000 0x90040 0xd4 example_state);
      };
      code = routine_stands;
    }

pub example_at : IsAtStub 0x90000 0x90040 0xd4 0x900b4 5 1 0x90054 example_state
example_at =
    record {
      going = refl;
      words = record { pc = omega arith; regs = λ k. omega arith; mem = λ a. omega arith };
      pc = refl;
      aligned = refl;
      low = omega arith;
      high = omega arith;
      some = λ none. absurd (omega (arith, none));
      small = omega arith;
      code = stub_stands;
    }

-- and another region is current
pub example_current : word_at example_state.hart.mem 0x90000 ≡ 0
example_current = refl
