-- What is asked of the words of a result's steps: none before the next unit is fetched at a form of it that stands there.
use Rattle.std.proofs.Common.{◌≡◌, ◌∙◌, ◌⊎◌, ℕ, ◌<◌, List, [], ◌∷◌, ◌++◌, length, Option, sym, ap, arith}
use Rattle.std.specs.Prelude.{Contains}
use Rattle.std.proofs.lemmas.List.{append-nil}
use Rattle.rv32im.specs.Table.{OneInstruction}
use Rattle.rv32im.specs.declared.instructions.Instr.{Instr}
use Rattle.board_config.specs.declared.board.Board.{Board}
use Rattle.flat_machine.specs.State.{State}
use Rattle.flat_machine.specs.Runs.{Does}
use Rattle.flat_machine.specs.declared.events.FlatEvent.{FlatEvent}
use Rattle.object_graph.specs.declared.parts.Graph.{Graph}
use Rattle.code_blocks.specs.declared.parts.Code.{Code}
use Rattle.patch_code.specs.Told.{Way, jobs_accesses}
use Rattle.object_machine.specs.declared.events.Outcome.TheVariants.{GoesOn}
use Rattle.object_machine.specs.State.{SourceState}
use Rattle.object_machine.specs.Step.{Reads, next_state}
use Rattle.patch_code.specs.Start.{start_at as stub_start, start_bytes, start_run}
use Rattle.result_laws.specs.HomeLaws.{unnamed_in, source_start, file_start}
use Rattle.result_laws.specs.ChosenPlacement.{ChosenPlacement}
use Rattle.result_laws.specs.PlacedLaws.{IsPlacedResult}
use Rattle.result_laws.specs.Walks.{UnitRuns, ArrivalRuns}
use Rattle.relink_core.specs.UnitMaps.{IsUnitAt, AreUnitsAt}
use Rattle.relink_core.specs.declared.unit_forms.UnitAt.{UnitAt}
use Rattle.compare_runner.specs.Comings.{StopsFirst, EndsInPatch, IsAtForm}
use Rattle.compare_runner.proofs.PrefixLemmas.{told_place, is_prefix, AreOffForms}

-- of no word, the first one included
abbrev pub AreAllOffForms : List UnitAt → Board → (from to home : ℕ) → List FlatEvent → Type 0
AreAllOffForms units board from to home es =
    (fs rest : List FlatEvent) (e : FlatEvent) (x : UnitAt) → es ≡ fs ++ e ∷ rest → Contains units x → x.home ≡ home
    → x.at ≡ e.at → (x.region ≡ 0) ⊎ ((x.region ≡ to) × ((from ≡ to) ⊎ EndsInPatch board fs)) → ⊥

module _ (file out : List ℕ) (board : Board) (g : Graph) (c : Code) (pl : ChosenPlacement) (result : IsPlacedResult file out board g c pl) (units : List UnitAt) where
  -- the words of a step of the program that goes on: those of its unit behind the first, and of the way to the next
  abbrev pub StepsAreOff : Type 0
  StepsAreOff =
      (s : SourceState) (read : Option Instr) (t t' : State) (es fs : List FlatEvent) → s.outcome ≡ GoesOn
      → Reads ((unnamed_in file board g).word s.pc) read → (unit : UnitRuns file out board g c pl result.view.plan s read t es) → Does es t t'
      → (arrival : ArrivalRuns file out board g c pl result.view.plan (next_state (unnamed_in file board g) s read) t' fs)
      → arrival.from ≡ unit.match.region
      → AreOffForms units board unit.match.region arrival.to (next_state (unnamed_in file board g) s read).pc (es ++ fs)

  -- the words of the start stub, and of the way to the entry
  abbrev pub StartIsOff : List ℕ → Type 0
  StartIsOff input =
      (behind : State) (entering : List FlatEvent)
      (begins : Way (stub_start result.view.plan.start) (start_bytes result.view.plan.start) (start_run result.view.plan.start) (jobs_accesses result.view.plan.start.jobs) (file_start out board input) behind)
      (entered : ArrivalRuns file out board g c pl result.view.plan (source_start file board g input) behind entering) → entered.from ≡ 0
      → AreAllOffForms units board 0 entered.to (source_start file board g input).pc (begins.events ++ entering)

-- so are the words of each result, of its own units
pub record AreWordsOff (file out : List ℕ) (board : Board) (g : Graph) (c : Code) (pl : ChosenPlacement) (result : IsPlacedResult file out board g c pl) (units : List UnitAt) : Type 0 where
  pub steps : StepsAreOff file out board g c pl result units
  pub start : (input : List ℕ) → StartIsOff file out board g c pl result units input

abbrev pub PlacedWordsAreOff : Type 0
PlacedWordsAreOff =
    (file out : List ℕ) (board : Board) (g : Graph) (c : Code) (pl : ChosenPlacement) (result : IsPlacedResult file out board g c pl) (units : List UnitAt)
    → AreUnitsAt (IsUnitAt board c g pl result.view.plan) units → AreWordsOff file out board g c pl result units

-- ---- the first form, if no word before is fetched at one

module _ (one : OneInstruction) (units : List UnitAt) (board : Board) (from to home : ℕ) (es : List FlatEvent) (s t : State) (does : Does es s t) (off : AreAllOffForms units board from to home es) where
  not_before : (fs : List FlatEvent) (m : State) → length fs < length es → IsAtForm units board from to home fs m → (rest : List FlatEvent) → es ≡ fs ++ rest → Does rest m t → ⊥
  not_before fs m less at [] whole left =
      let same : length es ≡ length fs = ap length (whole ∙ append-nil fs) in omega (arith, less, same)
  not_before fs m less at (e ∷ rest) whole left =
      off fs rest e at.form whole at.listed at.home_is (at.at ∙ sym (told_place m left.0 e left.1.0)) at.stands

  pub first_any : IsAtForm units board from to home es t → StopsFirst (IsAtForm units board from to home) s es t
  first_any at =
      record {
        does = does;
        stops = at;
        first = λ fs m less part stops.
            let prefix = is_prefix one es fs s t m does (omega (arith, less)) part in
            not_before fs m less stops prefix.rest prefix.whole prefix.does;
      }
