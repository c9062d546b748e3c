-- The current region as it is counted, from transition to transition of a run.
use Rattle.std.proofs.Common.{◌≡◌, ◌∙◌, ◌⊎◌, inl, inr, ℕ, zero, suc, ◌<◌, Bool, true, false, List, length, Option, refl, sym, ap, subst, arith}
use Rattle.std.proofs.lemmas.Bool.{false_from_ne_true}
use Rattle.elf_reader.specs.File.{PlainView, view_in}
use Rattle.board_config.specs.declared.board.Board.{Board}
use Rattle.rv32im.specs.declared.instructions.Instr.{Instr}
use Rattle.object_graph.specs.declared.parts.Graph.{Graph}
use Rattle.code_blocks.specs.Early.{has}
use Rattle.code_blocks.specs.Blocks.{IsCode}
use Rattle.code_blocks.specs.Numbers.{starts_of, start_at}
use Rattle.code_blocks.specs.declared.parts.Code.{Code}
use Rattle.code_blocks.proofs.EntryLemmas.{entry_leads}
use Rattle.dataflow.specs.Live.{Next, within, direct, indirect}
use Rattle.dataflow.specs.Overlaid.{region_in, is_border}
use Rattle.object_machine.specs.declared.events.Outcome.TheVariants.{GoesOn}
use Rattle.object_machine.specs.Program.{Program}
use Rattle.object_machine.specs.State.{SourceState}
use Rattle.object_machine.specs.Step.{next_state}
use Rattle.profile_runner.specs.Transition.{Transition, transition_at}
use Rattle.profile_runner.specs.Transitions.{Transitions}
use Rattle.profile_runner.specs.Standing.{number_of, begins, block_of, units_run, entered, current}
use Rattle.profile_runner.proofs.FindLemmas.{block_found}
use Rattle.energy_model.proofs.StepLemmas.{StepAt, step_at, first_transition}
use Rattle.simulation.proofs.Unnamed.{next_same}
use Rattle.result_laws.specs.HomeLaws.{IsAccepted, program_in, unnamed_in, source_start}
use Rattle.result_laws.specs.LiveUnits.{StandsThere, UnitsStand, ComesNext}
use Rattle.result_laws.proofs.CodeUnits as code_units
use Rattle.result_laws.proofs.LiveUnits.{steps_lead_on}
use Rattle.result_laws.specs.Entries.{TellsBorders, RunsIn, ComesIn}
use Rattle.result_laws.proofs.Entries.{enters_at_borders, starts_at_border}
use Rattle.paid_energy.specs.Counted.{IsCountedAt, RegionsAreCounted}

-- ---- regions

entered_runs : (now r : ℕ) → (r ≡ 0) ⊎ (r ≡ entered now r)
entered_runs now zero = inl refl
entered_runs now (suc r) = inr refl

entered_changes : (border : Type 0) (now r : ℕ) → ((r ≡ 0) ⊎ (r ≡ now)) ⊎ border → (entered now r ≡ now) ⊎ (border × (r ≡ entered now r))
entered_changes border now zero enters = inl refl
entered_changes border now (suc r) (inl (inl none)) = cc
entered_changes border now (suc r) (inl (inr same)) = inl same
entered_changes border now (suc r) (inr enters) = inr (enters, refl)

-- ---- what is counted where a block begins, and where none does

module _ (starts regions : List ℕ) (ms : List Transition) where
  block_begun : (i : ℕ) → begins starts ms i ≡ true → block_of starts ms i ≡ number_of starts (transition_at ms i).at
  block_begun zero begun = refl
  block_begun (suc i) begun = rw begun refl

  units_begun : (i : ℕ) → begins starts ms i ≡ true → units_run starts ms i ≡ 1
  units_begun zero begun = refl
  units_begun (suc i) begun = rw begun refl

  current_begun : (i : ℕ) → begins starts ms i ≡ true → current starts regions ms (suc i) ≡ entered (current starts regions ms i) (region_in regions (number_of starts (transition_at ms i).at))
  current_begun i begun = rw begun refl

  block_stays : (i : ℕ) → begins starts ms (suc i) ≡ false → block_of starts ms (suc i) ≡ block_of starts ms i
  block_stays i none = rw none refl

  units_more : (i : ℕ) → begins starts ms (suc i) ≡ false → units_run starts ms (suc i) ≡ suc (units_run starts ms i)
  units_more i none = rw none refl

  current_stays : (i : ℕ) → begins starts ms i ≡ false → current starts regions ms (suc i) ≡ current starts regions ms i
  current_stays i none = rw none refl

-- behind a unit comes the next of its block, or the first of some block
next_place : (c : Code) (b k d j : ℕ) → Next c b k d j → ((d ≡ b) × (j ≡ suc k)) ⊎ (j ≡ 0)
next_place c _ _ _ _ (within b k more) = inl (refl, refl)
next_place c _ _ _ _ (direct b k d last leads) = inr refl
next_place c _ _ _ _ (indirect b k d last leads) = inr refl

module _ (file : List ℕ) (board : Board) (g : Graph) (c : Code) (accepted : IsAccepted file board g) (code : IsCode (view_in file) c) where
  abbrev v : PlainView
  v = view_in file

  abbrev p : Program
  p = program_in file board g

  units : UnitsStand v (unnamed_in file board g) c
  units = code_units.code_units_stand file board g c accepted code

  -- ---- the first units of blocks

  record IsBegun (a b : ℕ) : Type 0 where
    begun : has (starts_of c) a ≡ true
    number : number_of (starts_of c) a ≡ b

  is_begun : (a b : ℕ) → StandsThere c a b 0 → IsBegun a b
  is_begun a b stands =
      let at = units.at b 0 stands.is in
      let place = stands.at in
      let start : start_at c b ≡ a = omega (arith, at, place) in
      let found = block_found c a b code.ascending (units.inside b 0 stands.is) start in
      record { begun = found.0; number = found.1 }

  none_begun : (a b k : ℕ) → StandsThere c a b (suc k) → has (starts_of c) a ≡ false
  none_begun a b k stands =
      false_from_ne_true (has (starts_of c) a) (λ begun.
      let (d, below, start) = code_units.block_of file board g c accepted code a (sym (code.leaders a) ∙ begun) in
      let first = subst (λ (x : ℕ). StandsThere c x d 0) start (units.first d below) in
      let same = (units.one a b (suc k) d 0 stands first).1 in
      absurd (omega (arith, same)))

  first_unit : (a b k : ℕ) → has (starts_of c) a ≡ true → StandsThere c a b k → k ≡ 0
  first_unit a b zero begun stands = refl
  first_unit a b (suc k) begun stands = let none = none_begun a b k stands in cc

  module _ (regions : List ℕ) (borders : List Bool) (tells : TellsBorders c regions borders) (ms : List Transition) where
    abbrev now : ℕ → ℕ
    now i = current (starts_of c) regions ms i

    abbrev block : ℕ → ℕ
    block i = block_of (starts_of c) ms i

    abbrev Enters : ℕ → ℕ → Type 0
    Enters d region = RunsIn regions d region ⊎ (is_border borders d ≡ true)

    -- ---- one transition

    begun_counts : (i d : ℕ) → StandsThere c (transition_at ms i).at d 0 → Enters d (now i) → IsCountedAt c regions borders ms i
    begun_counts i d stands enters =
        let is = is_begun (transition_at ms i).at d stands in
        let same : block i ≡ d = block_begun (starts_of c) regions ms i is.begun ∙ is.number in
        let next : now (suc i) ≡ entered (now i) (region_in regions d) =
        current_begun (starts_of c) regions ms i is.begun ∙ ap (λ b. entered (now i) (region_in regions b)) is.number in
        let runs : RunsIn regions d (now (suc i)) =
        subst (λ r. RunsIn regions d r) (sym next) (entered_runs (now i) (region_in regions d)) in
        record {
          unit = 0;
          units = units_begun (starts_of c) regions ms i is.begun;
          there = subst (λ b. StandsThere c (transition_at ms i).at b 0) (sym same) stands;
          runs = subst (λ b. RunsIn regions b (now (suc i))) (sym same) runs;
          changes = elim (entered_changes (is_border borders d ≡ true) (now i) (region_in regions d) enters) [
            | inl stays ↦ inl (next ∙ stays)
            | inr new ↦ inr (record {
              first = is.begun;
              border = ap (is_border borders) same ∙ new.0;
              region = ap (region_in regions) same ∙ (new.1 ∙ sym next);
            })
          ];
        }

    going_counts : (i : ℕ) → (here : IsCountedAt c regions borders ms i) → StandsThere c (transition_at ms (suc i)).at (block i) (suc here.unit) → IsCountedAt c regions borders ms (suc i)
    going_counts i here stands =
        let none = none_begun (transition_at ms (suc i)).at (block i) here.unit stands in
        let same : block (suc i) ≡ block i = block_stays (starts_of c) regions ms i none in
        let stays : now (suc (suc i)) ≡ now (suc i) = current_stays (starts_of c) regions ms (suc i) none in
        let runs : RunsIn regions (block i) (now (suc (suc i))) = subst (λ r. RunsIn regions (block i) r) (sym stays) here.runs in
        record {
          unit = suc here.unit;
          units = units_more (starts_of c) regions ms i none ∙ ap suc here.units;
          there = subst (λ b. StandsThere c (transition_at ms (suc i)).at b (suc here.unit)) (sym same) stands;
          runs = subst (λ b. RunsIn regions b (now (suc (suc i)))) (sym same) runs;
          changes = inl stays;
        }

    -- ---- from one to the next

    comes_next : (i a : ℕ) → (here : IsCountedAt c regions borders ms i) → a ≡ (transition_at ms (suc i)).at → ComesNext c (block i) here.unit a → ComesIn c regions borders (now (suc i)) a → IsCountedAt c regions borders ms (suc i)
    comes_next i a here at next comes =
        let d : ℕ = next.block in
        let one = units.one a comes.block comes.unit d next.unit comes.there next.there in
        let enters : Enters d (now (suc i)) =
        subst (λ b. Enters b (now (suc i))) one.0 (elim comes.enters [ inl runs ↦ inl runs | inr border ↦ inr border.1 ]) in
        let stands : StandsThere c (transition_at ms (suc i)).at d next.unit = subst (λ x. StandsThere c x d next.unit) at next.there in
        elim (next_place c (block i) here.unit d next.unit next.next) [
          | inl behind ↦
              going_counts i here
              (subst (λ b. StandsThere c (transition_at ms (suc i)).at b (suc here.unit)) behind.0
              (subst (λ k. StandsThere c (transition_at ms (suc i)).at d k) behind.1 stands))
          | inr first ↦
              begun_counts (suc i) d (subst (λ k. StandsThere c (transition_at ms (suc i)).at d k) first stands) enters
        ]

    step_counts : (i : ℕ) → StepAt p ms i → suc i < length ms → IsCountedAt c regions borders ms i → IsCountedAt c regions borders ms (suc i)
    step_counts i step more here =
        let s : SourceState = step.state in
        let read : Option Instr = step.read in
        let there : StandsThere c s.pc (block i) here.unit =
        subst (λ a. StandsThere c a (block i) here.unit) (ap (λ (x : Transition). x.at) step.transition) here.there in
        let same = next_same p s read in
        let goes : (next_state (unnamed_in file board g) s read).outcome ≡ GoesOn =
        sym (ap (λ (x : SourceState). x.outcome) same) ∙ step.goes_on more in
        let at : (next_state (unnamed_in file board g) s read).pc ≡ (transition_at ms (suc i)).at =
        sym (ap (λ (x : SourceState). x.pc) same) ∙ step.next more in
        comes_next i (next_state (unnamed_in file board g) s read).pc here at
        (steps_lead_on file board g c s read (block i) here.unit accepted code there step.meant goes)
        (enters_at_borders file board g c regions borders s read (block i) here.unit (now (suc i)) accepted code tells there here.runs step.meant goes)

    starts_counted : (transition_at ms 0).at ≡ v.entry → IsCountedAt c regions borders ms 0
    starts_counted at =
        let comes = starts_at_border file board g c regions borders accepted code tells in
        let begun : has (starts_of c) v.entry ≡ true = code.leaders v.entry ∙ entry_leads v accepted.code in
        let unit = first_unit v.entry comes.block comes.unit begun comes.there in
        let stands : StandsThere c v.entry comes.block 0 = subst (λ k. StandsThere c v.entry comes.block k) unit comes.there in
        begun_counts 0 comes.block (subst (λ a. StandsThere c a comes.block 0) (sym at) stands)
        (elim comes.enters [ inl runs ↦ inl runs | inr border ↦ inr border.1 ])

    module _ (n : ℕ) (input : List ℕ) (t : SourceState) (run : Transitions p n (source_start file board g input) ms t) where
      all_counted : (i : ℕ) → i < length ms → IsCountedAt c regions borders ms i
      all_counted zero below =
          starts_counted (sym (first_transition p n (source_start file board g input) t ms run below).at)
      all_counted (suc i) below =
          let earlier : i < length ms = omega (arith, below) in
          step_counts i (step_at p n (source_start file board g input) t ms i run earlier) below (all_counted i earlier)

pub regions_are_counted : RegionsAreCounted
regions_are_counted file board g c input regions borders n i transitions t accepted code tells run below =
    all_counted file board g c accepted code regions borders tells transitions n input t run i below
