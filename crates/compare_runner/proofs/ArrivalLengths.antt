-- How many words run on the way to the next unit, and before the first one.
use Rattle.std.proofs.Common.{◌≡◌, ℕ, zero, suc, ◌+◌, ◌*◌, ◌≤◌, List, [], ◌∷◌, ◌++◌, length, refl, ap, arith}
use Rattle.std.proofs.lemmas.List.{length-map, length-append}
use Rattle.elf_reader.specs.Loadable.{AreBytes}
use Rattle.board_config.specs.declared.board.Board.{Board}
use Rattle.flat_machine.specs.State.{State}
use Rattle.flat_machine.specs.declared.events.FlatEvent.{FlatEvent}
use Rattle.flat_machine.specs.declared.events.FlatAccess.{FlatAccess}
use Rattle.object_graph.specs.declared.parts.Graph.{Graph}
use Rattle.object_machine.specs.State.{SourceState}
use Rattle.code_blocks.specs.declared.parts.Code.{Code}
use Rattle.patch_code.specs.Start.{start_run}
use Rattle.patch_code.specs.Serving.{ServingStub, test_bytes}
use Rattle.patch_code.specs.Overlay.{OverlayPlan, serving_place}
use Rattle.patch_code.specs.Served.{body_at}
use Rattle.result_laws.specs.JobLaws.{room_left}
use Rattle.result_laws.specs.ResultLaws.{most_steps}
use Rattle.result_laws.specs.ChosenPlacement.{ChosenPlacement, slots_in, images_in}
use Rattle.result_laws.specs.PlacedView.{HasBody, ToCopy, Displaced}
use Rattle.result_laws.specs.PlacedLaws.{IsPlacedResult}
use Rattle.result_laws.specs.PlacedForms.{ArrivesAt, AtForm, AtItsHome, BehindCopy, BehindStub}
use Rattle.result_laws.specs.Walks.{address_in, AreEvents, leaving_fetched, StubPasses, Unchecked, Current, Switches, body_fetched, BlockEntered, Bare, ByStub, Enters, ArrivalRuns}
use Rattle.result_laws.proofs.Keeping.{can_switch, start_few}

count_of : (fetched : List ℕ) (told : List FlatAccess) (es : List FlatEvent) → AreEvents fetched told es → length es ≡ length fetched
count_of fetched told es are = let count = ap (λ (xs : List ℕ). length xs) are.addresses in let same = length-map es address_in in omega (arith, count, same)

positive : (r : ℕ) → (r ≡ 0 → ⊥) → 1 ≤ r
positive zero some = absurd (some refl)
positive (suc r) some = omega arith

module _ (file out : List ℕ) (board : Board) (g : Graph) (c : Code) (pl : ChosenPlacement) (result : IsPlacedResult file out board g c pl) (input : List ℕ) where
  abbrev plan : OverlayPlan
  plan = result.view.plan

  abbrev room : ℕ
  room = room_left board g (images_in pl) (slots_in board pl)

  passed_few : (stub : ServingStub) (from to : ℕ) (es : List FlatEvent) → StubPasses plan stub from to es → from ≤ pl.count → to ≤ pl.count → length es ≤ 12 * room + 82
  passed_few stub from _ _ (Unchecked none) left entered = omega arith
  passed_few stub from _ _ (Current es some same runs) left entered = let count = runs.runs.count in omega (arith, count)
  passed_few stub from _ _ (Switches es some other runs) left entered =
      let count = runs.runs.count in
      let few = (can_switch file out board g c pl result input from stub.region left (positive stub.region some) entered other).few in
      omega (arith, count, few)

  body_few : (at b body : ℕ) (stub : ServingStub) (has : HasBody c g pl at b stub) → length (body_fetched c g pl at b stub body has) ≤ 2
  body_few at b body stub (ToCopy n inside held jumps) = omega arith
  body_few at b body stub (Displaced words uncopied runs form) = omega arith

  entered_few : (from v to : ℕ) (es : List FlatEvent) → BlockEntered c g pl plan from v to es → from ≤ pl.count → to ≤ pl.count → length es ≤ 12 * room + 85
  entered_few from v _ _ (Bare form) left entered = omega arith
  entered_few from v _ _ (ByStub b to stub pad passed body below starts listed serves pad_is passes body_is) left entered =
      let first = count_of (v ∷ []) [] pad pad_is in
      let second = passed_few stub from to passed passes left entered in
      let third = count_of (body_fetched c g pl (body_at plan stub) b stub (serving_place plan stub + test_bytes stub.region) serves.body) [] body body_is in
      let few = body_few (body_at plan stub) b (serving_place plan stub + test_bytes stub.region) stub serves.body in
      let one = length-append pad (passed ++ body) in
      let two = length-append passed body in
      omega (arith, first, second, third, few, one, two)

  enters_few : (from v a to : ℕ) (es : List FlatEvent) (at : ArrivesAt c g pl plan from v a) → Enters c g pl plan from v a to es at → from ≤ pl.count → to ≤ pl.count → length es ≤ 12 * room + 85
  enters_few from v _ to es (AtForm a at) enters left entered = let none = ap (λ (xs : List FlatEvent). length xs) enters.0 in omega (arith, none)
  enters_few from v _ to es (AtItsHome home) enters left entered = entered_few from v to es enters left entered
  enters_few from v _ to es (BehindCopy n b d inside held runs falls leaves below starts) enters left entered = entered_few from v to es enters left entered
  enters_few from v _ to es (BehindStub u b stub there listed serves uncopied plain is home) enters left entered = entered_few from v to es enters left entered

  leaving_few : (from v a : ℕ) (at : ArrivesAt c g pl plan from v a) → length (leaving_fetched c g pl plan from v a at) ≤ 2
  leaving_few from v _ (AtForm a at) = omega arith
  leaving_few from v _ (AtItsHome home) = omega arith
  leaving_few from v _ (BehindCopy n b d inside held runs falls leaves below starts) = omega arith
  leaving_few from v _ (BehindStub u b stub there listed serves uncopied plain is home) = omega arith

  pub arrival_few : (s : SourceState) (t : State) (es : List FlatEvent) (arrival : ArrivalRuns file out board g c pl plan s t es) → arrival.from ≤ pl.count → length es ≤ 12 * room + 87
  arrival_few s t es arrival left =
      let known = arrival.match.known in
      let region = arrival.region in
      let entered = enters_few arrival.from s.pc t.hart.pc arrival.to arrival.entering arrival.at arrival.enters left (omega (arith, known, region)) in
      let first = count_of (leaving_fetched c g pl plan arrival.from s.pc t.hart.pc arrival.at) [] arrival.leaving arrival.leaves in
      let few = leaving_few arrival.from s.pc t.hart.pc arrival.at in
      let whole = ap (λ (xs : List FlatEvent). length xs) arrival.whole in
      let both = length-append arrival.leaving arrival.entering in
      omega (arith, entered, first, few, whole, both)

  -- behind at most four words of a unit they are within the bound of a step
  pub step_few : (s : SourceState) (t : State) (es fs : List FlatEvent) (arrival : ArrivalRuns file out board g c pl plan s t fs) → arrival.from ≤ pl.count → length es ≤ 4 → length (es ++ fs) ≤ most_steps board
  step_few s t es fs arrival left few =
      let rest = arrival_few s t fs arrival left in
      let both = length-append es fs in
      let part : room ≤ board.spm.size = omega arith in
      omega (arith, few, rest, both, part)

  -- and so they are behind the start stub
  pub begins_few : AreBytes input → (s : SourceState) (t : State) (es fs : List FlatEvent) (arrival : ArrivalRuns file out board g c pl plan s t fs) → arrival.from ≡ 0 → length es ≡ start_run plan.start → length (es ++ fs) ≤ most_steps board
  begins_few bytes s t es fs arrival none count =
      let rest = arrival_few s t fs arrival (omega (arith, none)) in
      let both = length-append es fs in
      let same = ap start_run result.view.planned.start in
      let whole = start_few file out board g c pl result input bytes 0 in
      omega (arith, count, rest, both, same, whole)
