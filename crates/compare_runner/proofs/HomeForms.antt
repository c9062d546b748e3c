-- The second word of a unit of two words at home is at no form of a unit.
use Rattle.std.proofs.Common.{◌≡◌, ◌∙◌, ℕ, zero, suc, ◌+◌, true, List, sym, subst, arith}
use Rattle.std.proofs.lemmas.Bool.{both_ways}
use Rattle.elf_reader.specs.File.{PlainView, view_in}
use Rattle.board_config.specs.declared.board.Board.{Board}
use Rattle.object_graph.specs.declared.parts.Graph.{Graph}
use Rattle.code_blocks.specs.Leaders.{is_call_pair, is_leader}
use Rattle.code_blocks.proofs.PairLemmas.{pair_is_code}
use Rattle.code_blocks.specs.Blocks.{IsCode}
use Rattle.code_blocks.specs.Numbers.{start_at}
use Rattle.code_blocks.specs.declared.parts.Code.{Code}
use Rattle.dataflow.specs.Live.{IsUnitOf}
use Rattle.object_machine.proofs.FollowLemmas.{goes_further}
use Rattle.result_laws.specs.HomeLaws.{IsAccepted}
use Rattle.result_laws.specs.LiveUnits.{StandsThere}
use Rattle.result_laws.proofs.CodeUnits as units
use Rattle.result_laws.proofs.Loaded.{IsKept}
use Rattle.result_laws.specs.ChosenPlacement.{ChosenPlacement}
use Rattle.patch_code.specs.Overlay.{OverlayPlan}
use Rattle.result_laws.specs.PlacedLaws.{IsPlacedResult}
use Rattle.relink_core.specs.UnitMaps.{IsAtHome, IsUnitAt}
use Rattle.relink_core.specs.declared.unit_forms.UnitAt.{UnitAt}
use Rattle.compare_runner.proofs.Ranges.{pair_off, only_home}

module _ (file : List ℕ) (board : Board) (g : Graph) (c : Code) (accepted : IsAccepted file board g) (code : IsCode (view_in file) c) where
  abbrev v : PlainView
  v = view_in file

  -- no block begins there
  no_first : (u e : ℕ) → is_call_pair v u ≡ true → StandsThere c (u + 4) e 0 → ⊥
  no_first u e pair there =
      let stands = (units.placed file board g c accepted code (u + 4) e 0 there).stands in
      let same : start_at c e ≡ u + 4 = omega (arith, stands) in
      let leads = units.begins file board g c accepted code e (units.inside c e 0 there.is) in
      both_ways (is_leader v (u + 4)) (pair_is_code v u pair).2 (subst (λ (x : ℕ). is_leader v x ≡ true) same leads)

  -- nor does a block go on behind a call
  no_later : (u e i : ℕ) → is_call_pair v u ≡ true → StandsThere c (u + 4) e (suc i) → ⊥
  no_later u e i pair there =
      let stands = (units.placed file board g c accepted code (u + 4) e (suc i) there).stands in
      let more = there.is in
      let is : IsUnitOf c e i = omega (arith, more) in
      let at = units.address file board g c accepted code e i is in
      let here = units.placed file board g c accepted code u e i (record { is = is; at = omega (arith, at, stands) }) in
      both_ways (is_call_pair v u) (goes_further v u (here.goes more)).pair pair

  pub no_unit : (u e j : ℕ) → is_call_pair v u ≡ true → StandsThere c (u + 4) e j → ⊥
  no_unit u e zero pair there = no_first u e pair there
  no_unit u e (suc i) pair there = no_later u e i pair there

  -- so none stands at home there
  pub no_home : (u : ℕ) → is_call_pair v u ≡ true → (x : UnitAt) → IsAtHome c x → x.at ≡ u + 4 → ⊥
  no_home u pair x home same =
      no_unit u home.block home.unit pair (subst (λ (y : ℕ). StandsThere c y home.block home.unit) (sym home.at ∙ same) home.there)

module _ (file out : List ℕ) (board : Board) (g : Graph) (c : Code) (pl : ChosenPlacement) (result : IsPlacedResult file out board g c pl) where
  abbrev plan : OverlayPlan
  plan = result.view.plan

  -- nor does any other form: it is neither in the scratchpad nor in the patch range
  pub home_free : (u : ℕ) → is_call_pair (view_in file) u ≡ true → (x : UnitAt) → IsUnitAt board c g pl plan x → x.at ≡ u + 4 → ⊥
  home_free u pair x is same =
      let kept : IsKept (view_in file) board x.at = subst (IsKept (view_in file) board) (sym same) (pair_off file out board g c pl result u pair) in
      let stands = only_home file out board g c pl result x is kept in
      no_home file board g c result.accepted result.code u pair x stands.home same
