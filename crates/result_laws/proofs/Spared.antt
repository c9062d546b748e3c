-- What a stub does before its body runs no word at which a unit stands: none at home, none of a copy, and no stub's body.
use Rattle.std.proofs.Common.{◌≡◌, ◌⊎◌, inl, inr, ℕ, ◌+◌, ◌-◌, ◌<◌, ◌≤◌, true, List, length, refl, sym, ap, subst, arith}
use Rattle.std.specs.Prelude.{All, Contains}
use Rattle.std.proofs.lemmas.Bool.{both_ways, cases_lt}
use Rattle.std.proofs.lemmas.List.Elements.{All-nil, All-contains}
use Rattle.board_config.specs.declared.board.Board.{Board}
use Rattle.flat_machine.specs.declared.events.FlatAccess.{FlatAccess}
use Rattle.flat_machine.specs.declared.events.FlatEvent.{FlatEvent}
use Rattle.object_graph.specs.Sites.{in_range}
use Rattle.object_graph.specs.declared.parts.Graph.{Graph}
use Rattle.code_blocks.specs.declared.parts.Code.{Code}
use Rattle.patch_code.specs.Told.{IsFrom}
use Rattle.patch_code.specs.Start.{start_at, start_bytes}
use Rattle.patch_code.specs.Serving.{ServingStub, serving_size, served_before}
use Rattle.patch_code.specs.Overlay.{OverlayPlan, serving_at, serving_place, switch_at, switch_bytes, rest_bytes}
use Rattle.patch_code.specs.Served.{IsFromStubOf, body_at}
use Rattle.result_laws.specs.LiveUnits.{StandsThere}
use Rattle.result_laws.proofs.Ranges.{lies_in_range, patch_off_spm}
use Rattle.result_laws.specs.ChosenPlacement.{ChosenPlacement}
use Rattle.result_laws.specs.PlacedView.{IsUncopied, Serves}
use Rattle.elf_reader.specs.File.{view_in}
use Rattle.result_laws.specs.PlacedLaws.{IsPlacedResult}
use Rattle.result_laws.specs.PlacedForms.{StandsAs, AtHome, InCopy, InStub}
use Rattle.result_laws.specs.Walks.{StubRuns, StubPasses, Unchecked, Current, Switches}
use Rattle.result_laws.proofs.StubBodies.{checked_bytes, stub_inside}
use Rattle.result_laws.proofs.StubWords as stubs
use Rattle.result_laws.proofs.Apart.{before_fits, some_words, home_kept, copy_in_spm}

module _ (file out : List ℕ) (board : Board) (g : Graph) (c : Code) (pl : ChosenPlacement) (result : IsPlacedResult file out board g c pl) where
  abbrev plan : OverlayPlan
  plan = result.view.plan

  -- a stub ends before those of higher homes
  stub_before : (one other : ServingStub) → Contains plan.stubs one → one.home < other.home → serving_place plan one + serving_size one ≤ serving_place plan other
  stub_before one other listed less =
      let fits =
      All-contains (λ (x : ServingStub). x.home < other.home → served_before x.home plan.stubs + serving_size x ≤ served_before other.home plan.stubs)
      plan.stubs one (λ k d below. before_fits other.home plan.stubs k d below) listed less in
      omega (arith, fits)

  -- ---- the body of a displaced unit

  module _ (u b : ℕ) (other : ServingStub) (there : StandsThere c u b 0) (listed : Contains plan.stubs other) (serves : Serves c g pl (body_at plan other) b other) (uncopied : IsUncopied pl b) where
    -- it has words behind its stub's test
    behind_test : serving_place plan other + 88 < serving_place plan other + serving_size other
    behind_test =
        let some = some_words file out board g c pl result u b other there listed serves uncopied in
        let least =
        stubs.size_least file out board g c pl result u b other there listed serves uncopied
        (length (stubs.words file out board g c pl result u b other there listed serves uncopied)) refl in
        omega (arith, some, least)

    -- no stub runs a word of it before its own body
    body_spared : (stub : ServingStub) → Contains plan.stubs stub → (stub.region ≡ 0 → ⊥) → (e : FlatEvent) → IsFromStubOf plan stub e → e.at ≡ body_at plan other → ⊥
    body_spared stub listed_too some e from same = by from.own
      where
        by : IsFrom (serving_place plan stub) 88 e ⊎ IsFrom (switch_at plan) (switch_bytes plan) e → ⊥
        by (inl own) =
            let low = own.low in
            let high = own.high in
            let words = behind_test in
            let test = checked_bytes stub.region some in
            elim (cases_lt stub.home other.home) [
              | inl less ↦
                  let fits = stub_before stub other listed_too less in
                  omega (arith, fits, high, same, test)
              | inr least ↦
                  elim (cases_lt other.home stub.home) [
                    | inl less ↦
                        let fits = stub_before other stub listed less in
                        omega (arith, fits, low, same, words)
                    | inr most ↦
                        let equal : stub.home ≡ other.home = omega (arith, least, most) in
                        let place : serving_place plan stub ≡ serving_place plan other = ap (λ (home : ℕ). serving_at plan + served_before home plan.stubs) equal in
                        omega (arith, place, high, same)
                  ]
            ]
        by (inr routine) =
            let low = routine.low in
            let words = behind_test in
            let ends = (stub_inside file out board g c pl result other listed).ends in
            omega (arith, low, words, ends, same)

  -- ---- all forms

  in_patch : (e : FlatEvent) → IsFrom (start_at plan.start) (start_bytes plan.start + rest_bytes plan) e → in_range board.patch e.at ≡ true
  in_patch e from =
      let base = result.view.planned.lies.base in
      let ends = result.view.planned.lies.ends in
      let low = from.low in
      let high = from.high in
      let i : ℕ = e.at - board.patch.base in
      let there : board.patch.base + i ≡ e.at = omega (arith, base, low) in
      subst (λ (x : ℕ). in_range board.patch x ≡ true) there
      (lies_in_range board.patch 0 board.patch.size board.patch.base i (omega arith) (omega arith) (omega (arith, base, low, high, ends)))

  module _ (stub : ServingStub) (listed : Contains plan.stubs stub) where
    form_spared : (stub.region ≡ 0 → ⊥) → (u a : ℕ) → StandsAs c g pl plan u a → (e : FlatEvent) → in_range board.patch e.at ≡ true → IsFromStubOf plan stub e → e.at ≡ a → ⊥
    form_spared some _ _ (AtHome u b k there bare) e patch from same =
        let kept = home_kept file out board g c pl result u b k there in
        both_ways (in_range board.patch u) kept.patch (subst (λ (x : ℕ). in_range board.patch x ≡ true) same patch)
    form_spared some _ _ (InCopy u n b k inside held there) e patch from same =
        both_ways (in_range board.spm e.at) (patch_off_spm (view_in file) board e.at result.accepted.layout patch)
        (subst (λ (x : ℕ). in_range board.spm x ≡ true) (sym same) (copy_in_spm file out board g c pl result u n b k inside held there))
    form_spared some _ _ (InStub u b other there listed_too serves uncopied) e patch from same =
        body_spared u b other there listed_too serves uncopied stub listed some e from same

    runs_spared : (n : ℕ) (told : List FlatAccess) (es : List FlatEvent) → (stub.region ≡ 0 → ⊥) → StubRuns plan stub n told es → (u a : ℕ) → StandsAs c g pl plan u a → All (λ (e : FlatEvent). e.at ≡ a → ⊥) es
    runs_spared n told es some stub_runs u a stands k d below =
        form_spared some u a stands _ (in_patch _ (stub_runs.runs.fetched k d below)) (stub_runs.own k d below)

    -- no word that a stub runs before its body is one at which a unit stands
    pub spared : (from to : ℕ) (es : List FlatEvent) → StubPasses plan stub from to es → (u a : ℕ) → StandsAs c g pl plan u a → All (λ (e : FlatEvent). e.at ≡ a → ⊥) es
    spared from _ _ (Unchecked none) u a stands = All-nil (λ (e : FlatEvent). e.at ≡ a → ⊥)
    spared from _ _ (Current es some is stub_runs) u a stands = runs_spared _ _ es some stub_runs u a stands
    spared from _ _ (Switches es some other stub_runs) u a stands = runs_spared _ _ es some stub_runs u a stands
