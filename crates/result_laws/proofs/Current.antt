-- Which region is current behind an arrival: that of the block that begins, if it has one.
use Rattle.std.proofs.Common.{◌≡◌, ◌∙◌, ◌⊎◌, inl, inr, ℕ, zero, suc, Bool, true, false, if◌then◌else◌, List, refl, sym, ap, subst}
use Rattle.std.proofs.lemmas.Bool.{cases_Bool, both_ways}
use Rattle.board_config.specs.declared.board.Board.{Board}
use Rattle.flat_machine.specs.declared.events.FlatEvent.{FlatEvent}
use Rattle.object_graph.specs.declared.parts.Graph.{Graph}
use Rattle.code_blocks.specs.Early.{has}
use Rattle.code_blocks.specs.Leads.{IsBlockOf}
use Rattle.code_blocks.specs.Numbers.{starts_of, start_at}
use Rattle.code_blocks.specs.declared.parts.Code.{Code}
use Rattle.dataflow.proofs.EdgeLemmas.{is_start, one_start}
use Rattle.dataflow.specs.Overlaid.{region_in, is_border}
use Rattle.profile_runner.specs.Standing.{entered}
use Rattle.patch_code.specs.Serving.{ServingStub}
use Rattle.patch_code.specs.Overlay.{OverlayPlan}
use Rattle.patch_code.specs.Served.{body_at}
use Rattle.result_laws.specs.LiveUnits.{StandsThere}
use Rattle.result_laws.proofs.CodeUnits.{first, units_stand}
use Rattle.result_laws.specs.Entries.{RunsIn}
use Rattle.result_laws.specs.ChosenPlacement.{ChosenPlacement}
use Rattle.result_laws.specs.PlacedView.{Serves}
use Rattle.result_laws.specs.PlacedLaws.{IsPlacedResult}
use Rattle.result_laws.specs.PlacedForms.{MayRun, ArrivesAt, AtForm, AtItsHome, BehindCopy, BehindStub}
use Rattle.result_laws.specs.Walks.{StubPasses, Unchecked, Current, Switches, BlockEntered, Bare, ByStub, Enters, BecomesCurrent}

module _ (file out : List ℕ) (board : Board) (g : Graph) (c : Code) (pl : ChosenPlacement) (result : IsPlacedResult file out board g c pl) where
  abbrev plan : OverlayPlan
  plan = result.view.plan

  -- another region is that of the block whose pad is there
  pub record Changes (v to : ℕ) : Type 0 where
    pub block : ℕ
    pub below : IsBlockOf c block
    pub starts : start_at c block ≡ v
    pub some : to ≡ 0 → ⊥
    pub is : to ≡ region_in pl.regions block

  stub_changes : (b v : ℕ) (stub : ServingStub) → IsBlockOf c b → start_at c b ≡ v → Serves c g pl (body_at plan stub) b stub → (stub.region ≡ 0 → ⊥) → Changes v stub.region
  stub_changes b v stub below starts serves some =
      let region : (border : Bool) → is_border pl.borders b ≡ border → stub.region ≡ (if border then region_in pl.regions b else 0) =
      λ border same. serves.region ∙ ap (λ (t : Bool). if t then region_in pl.regions b else 0) same in
      elim (cases_Bool (is_border pl.borders b)) [
        | inl border ↦ record { block = b; below = below; starts = starts; some = some; is = region true border }
        | inr none ↦ absurd (some (region false none))
      ]

  passes_change : (b v from to : ℕ) (stub : ServingStub) (es : List FlatEvent) → IsBlockOf c b → start_at c b ≡ v → Serves c g pl (body_at plan stub) b stub → StubPasses plan stub from to es → (to ≡ from) ⊎ Changes v to
  passes_change b v from _ stub _ below starts serves (Unchecked none) = inl refl
  passes_change b v from _ stub _ below starts serves (Current es some same runs) = inl refl
  passes_change b v from _ stub _ below starts serves (Switches es some other runs) = inr (stub_changes b v stub below starts serves some)

  entered_change : (from v to : ℕ) (es : List FlatEvent) → BlockEntered c g pl plan from v to es → (to ≡ from) ⊎ Changes v to
  entered_change from v _ _ (Bare form) = inl refl
  entered_change from v _ _ (ByStub b to stub pad passed body below starts listed serves pad_is passes body_is) =
      passes_change b v from to stub passed below starts serves passes

  enters_change : (from v a to : ℕ) (es : List FlatEvent) (at : ArrivesAt c g pl plan from v a) → Enters c g pl plan from v a to es at → (to ≡ from) ⊎ Changes v to
  enters_change from v _ to es (AtForm a at) enters = inl enters.1
  enters_change from v _ to es (AtItsHome home) enters = entered_change from v to es enters
  enters_change from v _ to es (BehindCopy n b d inside held runs falls leaves below starts) enters = entered_change from v to es enters
  enters_change from v _ to es (BehindStub u b stub there listed serves uncopied plain is home) enters = entered_change from v to es enters

  -- the block that begins may run then
  begun : (from v to d q : ℕ) → IsBlockOf c d → start_at c d ≡ v → region_in pl.regions d ≡ q → RunsIn pl.regions d to → (to ≡ from) ⊎ Changes v to → to ≡ entered from q
  begun from v to d zero below starts region runs (inl same) = same
  begun from v to d zero below starts region runs (inr changes) =
      let one : changes.block ≡ d = one_start c changes.block d result.code.ascending changes.below below (changes.starts ∙ sym starts) in
      absurd (changes.some (changes.is ∙ (ap (region_in pl.regions) one ∙ region)))
  begun from v to d (suc q) below starts region (inl none) changes = absurd (cc)
  begun from v to d (suc q) below starts region (inr here) changes = sym here ∙ region

  pub becomes_current : (from v a to : ℕ) (es : List FlatEvent) (at : ArrivesAt c g pl plan from v a) → Enters c g pl plan from v a to es at → MayRun c pl.regions to v → BecomesCurrent c pl.regions v from to
  becomes_current from v a to es at enters may =
      let changes = enters_change from v a to es at enters in
      record {
        begins = λ d below starts.
            let stands : StandsThere c v d 0 =
            subst (λ (x : ℕ). StandsThere c x d 0) starts (first file board g c result.accepted result.code d below) in
            let same = ((units_stand file board g c result.accepted result.code).one v may.block may.unit d 0 may.there stands).0 in
            begun from v to d (region_in pl.regions d) below starts refl (subst (λ (x : ℕ). RunsIn pl.regions x to) same may.runs) changes;
        stays = λ none.
            elim changes [
              | inl same ↦ same
              | inr other ↦
                  absurd (both_ways (has (starts_of c) v) none (subst (λ (x : ℕ). has (starts_of c) x ≡ true) other.starts (is_start c other.block other.below)))
            ];
      }
