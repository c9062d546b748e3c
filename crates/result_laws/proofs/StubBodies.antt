-- The bodies of a result's stubs stand in the patch range, and one that jumps leads to where it goes.
use Rattle.std.proofs.Common.{◌≡◌, ◌∙◌, ℕ, zero, suc, ◌+◌, ◌*◌, ◌%◌, ◌<◌, ◌≤◌, ◌==◌, false, List, length, slice_index, refl, sym, ap, subst, arith}
use Rattle.std.specs.Prelude.{Contains}
use Rattle.std.proofs.lemmas.Bool.Decides.{nat_tests}
use Rattle.std.proofs.lemmas.List.{length-append}
use Rattle.std.proofs.lemmas.List.Elements.{All-contains}
use Rattle.rv32im.specs.Memory.{Memory}
use Rattle.rv32im.specs.Words.{upper_half}
use Rattle.rv32im.specs.Table.{Means}
use Rattle.rv32im.specs.declared.instructions.Instr.TheVariants.{Lui}
use Rattle.simulation.specs.Units.{StandsAt}
use Rattle.result_laws.proofs.Setting.{setting}
use Rattle.result_laws.proofs.Moves.{jump_begins}
use Rattle.rv32im.specs.Sequences.{jump_absolute, MeanAll}
use Rattle.rv32im.proofs.SequenceLemmas.{mean_count}
use Rattle.elf_reader.specs.File.{view_in}
use Rattle.elf_reader.specs.Image.{image_of}
use Rattle.board_config.specs.declared.board.Board.{Board}
use Rattle.flat_machine.specs.Lines.{HoldsAt}
use Rattle.object_graph.specs.declared.parts.Graph.{Graph}
use Rattle.code_blocks.specs.declared.parts.Code.{Code}
use Rattle.patch_code.specs.Serving.{StubBody, jumps_to, ServingStub, test_code, test_bytes, IsBody}
use Rattle.patch_code.specs.Overlay.{switch_at, serving_place, CanServe, CanEnd}
use Rattle.patch_code.specs.Served.{ServingStands, IsServedInside}
use Rattle.patch_code.proofs.Held.{held_behind}
use Rattle.patch_code.proofs.Serves.{test_count, stub_count}
use Rattle.patch_code.proofs.WholePlaces.{overlay_stands_so}
use Rattle.simulation.specs.Ways.{Way}
use Rattle.result_laws.proofs.Ranges.{patch_lawful}
use Rattle.result_laws.proofs.FarWays.{far_way}
use Rattle.result_laws.specs.ChosenPlacement.{ChosenPlacement}
use Rattle.result_laws.specs.PlacedLaws.{IsPlacedResult}
use Rattle.result_laws.proofs.PlacedChosen.{holds_plan}
use Rattle.result_laws.proofs.Standing.{patch_stands}

-- a stub with a region has its body behind 22 words
pub checked_bytes : (r : ℕ) → (r ≡ 0 → ⊥) → test_bytes r ≡ 88
checked_bytes zero some = absurd (some refl)
checked_bytes (suc r) some = let test : (suc r == 0) ≡ false = grind (arith, nat_tests) in rw test refl

module _ (file out : List ℕ) (board : Board) (g : Graph) (c : Code) (pl : ChosenPlacement) (result : IsPlacedResult file out board g c pl) where
  open (setting file out board g c pl result) use {l, live, plan}

  abbrev image : Memory
  image = image_of (view_in out).segments

  module _ (stub : ServingStub) (listed : Contains plan.stubs stub) where
    abbrev place : ℕ
    place = serving_place plan stub

    pub stub_inside : IsServedInside plan stub
    stub_inside =
        let aligned = result.view.planned.can.start.aligned in
        All-contains (IsServedInside plan) plan.stubs stub (overlay_stands_so.inside plan (omega (arith, aligned))) listed

    pub can_serve : CanServe plan stub
    can_serve = All-contains (CanServe plan) plan.stubs stub result.view.planned.can.stubs listed

    stands : ServingStands plan image stub
    stands =
        All-contains (ServingStands plan image) plan.stubs stub
        (overlay_stands_so.stubs plan result.view.words image result.view.are (holds_plan file out board g c pl result).code) listed

    -- the words of its body, behind its test
    pub record HasBodyWords (at : ℕ) : Type 0 where
      pub words : List ℕ
      pub does : IsBody stub.temp stub.body words
      pub holds : HoldsAt image at words
      pub aligned : at % 4 ≡ 0
      pub from : board.patch.base + 64 ≤ at
      pub to : at + 4 * length words ≤ board.patch.base + board.patch.size

    pub body_words : HasBodyWords (place + test_bytes stub.region)
    body_words =
        let is = stands.1.0 in
        let base : ℕ = plan.start.base in
        let mean = mean_count is.test (test_code base stub.temp place (switch_at plan) stub.region) is.tests in
        let tests = test_count base stub.temp place (switch_at plan) stub.region in
        let count = stub_count base (switch_at plan) place stub stands.0 is in
        let both : length stands.0 ≡ length is.test + length is.body = ap (λ (xs : List ℕ). length xs) is.whole ∙ length-append is.test is.body in
        let even = stub_inside.aligned in
        let from = stub_inside.from in
        let to = stub_inside.ends in
        let same = result.view.planned.lies.base in
        let ends = result.view.planned.lies.ends in
        record {
          words = is.body;
          does = is.does;
          holds = held_behind image place (place + test_bytes stub.region) is.test is.body (omega (arith, mean, tests))
              (subst (λ (ws : List ℕ). HoldsAt image place ws) is.whole stands.1.1);
          aligned = omega (arith, mean, tests, even);
          from = omega (arith, from, same);
          to = omega (arith, to, ends, count, both, mean, tests);
        }

    jump_can : (to : ℕ) → stub.body ≡ jumps_to to → CanEnd (jumps_to to)
    jump_can to jumps = subst CanEnd jumps can_serve.body

    -- its jump leads on by two words, where its register doesn't matter
    pub jump_leads : (form : ℕ → ℕ → ℕ → Type 0) (r a at to n : ℕ) → at ≡ place + test_bytes stub.region → stub.body ≡ jumps_to to → (live a stub.temp → ⊥) → Way l live form r a n to → Way l live form r a (suc (suc n)) at
    jump_leads form r a at to n there jumps dead way =
        let body = body_words in
        let mean : MeanAll body.words (jump_absolute stub.temp to) = subst (λ (b : StubBody). IsBody stub.temp b body.words) jumps body.does in
        let two = mean_count body.words (jump_absolute stub.temp to) mean in
        let can = jump_can to jumps in
        let even = can.0 in
        let above = can_serve.above in
        let end = body.to in
        let lawful = (patch_lawful board result.accepted.lawful).within in
        subst (λ (x : ℕ). Way l live form r a (suc (suc n)) x) (sym there)
        (far_way l live form r a (place + test_bytes stub.region) stub.temp to n body.words (omega (arith, end, two, lawful)) can.1 (omega (arith, even)) mean
        (λ k small.
        patch_stands file out board g c pl result r (place + test_bytes stub.region) body.words k body.aligned body.from body.to body.holds small)
        (λ none. omega (arith, above, none)) dead way)

    -- whose first word is a LUI
    pub record BeginsJump (r at to : ℕ) : Type 0 where
      pub word : ℕ
      pub stands : StandsAt l r at word
      pub means : Means word (Lui stub.temp (upper_half to))
      pub low : at + 4 < 4294967296

    pub begins_jump : (r at to : ℕ) → at ≡ place + test_bytes stub.region → stub.body ≡ jumps_to to → BeginsJump r at to
    begins_jump r at to there jumps =
        let body = body_words in
        let mean : MeanAll body.words (jump_absolute stub.temp to) = subst (λ (b : StubBody). IsBody stub.temp b body.words) jumps body.does in
        let two = mean_count body.words (jump_absolute stub.temp to) mean in
        let end = body.to in
        let lawful = (patch_lawful board result.accepted.lawful).within in
        let here : place + test_bytes stub.region + 4 * 0 ≡ at = omega (arith, there) in
        record {
          word = slice_index body.words 0;
          stands = subst (λ (x : ℕ). StandsAt l r x (slice_index body.words 0)) here
              (patch_stands file out board g c pl result r (place + test_bytes stub.region) body.words 0 body.aligned body.from body.to body.holds (omega (arith, two)));
          means = jump_begins body.words stub.temp to mean;
          low = omega (arith, there, end, two, lawful);
        }
