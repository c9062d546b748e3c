-- Where blocks begin: what is dead there, which units a pad covers, and that no unit stands at the second word of a call.
use Rattle.std.proofs.Common.{◌≡◌, ◌∙◌, inl, inr, ℕ, zero, suc, ◌+◌, ◌%◌, ◌<◌, ◌==◌, true, false, ◌&&◌, List, length, sym, subst, arith}
use Rattle.std.proofs.lemmas.Bool.{cases_Bool, both_ways, eqb-true}
use Rattle.list_checks.proofs.TestLemmas.{both, any_found}
use Rattle.board_config.specs.declared.board.Board.{Board}
use Rattle.loaded_file.specs.Code.{is_code_word}
use Rattle.object_graph.specs.declared.parts.Graph.{Graph}
use Rattle.code_blocks.specs.Leaders.{is_leader, is_call_pair}
use Rattle.code_blocks.specs.Early.{has}
use Rattle.code_blocks.proofs.LeaderLemmas.{leader_is_code}
use Rattle.code_blocks.proofs.PairLemmas.{pair_is_code}
use Rattle.code_blocks.specs.Numbers.{starts_of, start_at}
use Rattle.code_blocks.specs.Leads.{IsBlockOf}
use Rattle.code_blocks.specs.declared.parts.Code.{Code}
use Rattle.dataflow.specs.Live.{IsUnitOf}
use Rattle.block_splitter.specs.Pieces.{IsTemporary}
use Rattle.object_machine.proofs.FollowLemmas.{goes_further}
use Rattle.result_laws.specs.LiveUnits.{StandsThere, UnitsStand}
use Rattle.result_laws.specs.HomeLaws.{unnamed_in}
use Rattle.result_laws.proofs.Setting.{setting}
use Rattle.result_laws.proofs.HomeSound.{loadable}
use Rattle.result_laws.proofs.Words.{code_even, code_below}
use Rattle.result_laws.proofs.CodeUnits.{block_of, first, begins, address, placed, units_stand}
use Rattle.result_laws.specs.ChosenPlacement.{ChosenPlacement}
use Rattle.result_laws.specs.PlacedView.{is_served, is_padded}
use Rattle.result_laws.specs.PlacedLaws.{IsPlacedResult}

-- the temporary of a jump is no x0
pub temporary_some : (c : Code) (a link t : ℕ) → IsTemporary c a link t → t ≡ 0 → ⊥
temporary_some c a link t is none = let from = is.from in omega (arith, from, none)

module _ (file out : List ℕ) (board : Board) (g : Graph) (c : Code) (pl : ChosenPlacement) (result : IsPlacedResult file out board g c pl) where
  open (setting file out board g c pl result) use {v, live}

  units : UnitsStand v (unnamed_in file board g) c
  units = units_stand file board g c result.accepted result.code

  -- ---- blocks that begin there

  pub begin_leads : (a : ℕ) → has (starts_of c) a ≡ true → is_leader v a ≡ true
  begin_leads a begin = sym (result.code.leaders a) ∙ begin

  pub leader_low : (a : ℕ) → is_leader v a ≡ true → a + 4 < 4294967296
  leader_low a leads = code_below v a (loadable file board g result.accepted) (leader_is_code v a leads)

  pub leader_even : (a : ℕ) → is_leader v a ≡ true → a % 4 ≡ 0
  leader_even a leads = code_even v a (leader_is_code v a leads)

  -- the temporary of a jump to a block is dead there
  pub temporary_dead : (a link t : ℕ) → is_leader v a ≡ true → IsTemporary c a link t → live a t → ⊥
  temporary_dead a link t leads is lives =
      let there = block_of file board g c result.accepted result.code a leads in
      let stands : StandsThere c a there.0 0 =
      subst (λ (x : ℕ). StandsThere c x there.0 0) there.2 (first file board g c result.accepted result.code there.0 there.1) in
      is.free.dead (record { block = there.0; is_block = there.1; begins = there.2; live = lives there.0 0 stands })

  -- ---- units

  pub unit_code : (u b k : ℕ) → StandsThere c u b k → is_code_word v u ≡ true
  unit_code u b k stands = subst (λ (a : ℕ). is_code_word v a ≡ true) stands.at (units.code b k stands.is)

  pub unit_low : (u b k : ℕ) → StandsThere c u b k → u + 4 < 4294967296
  unit_low u b k stands = code_below v u (loadable file board g result.accepted) (unit_code u b k stands)

  -- ---- pads

  -- a block begins at a padded address
  pub padded_begins : (a : ℕ) → is_padded c pl a ≡ true → (d : ℕ) × IsBlockOf c d × (start_at c d ≡ a)
  padded_begins a padded =
      let block = any_found (λ b. is_served c pl b && (start_at c b == a)) (length c.blocks.items) padded in
      let tests = both (is_served c pl block.0) (start_at c block.0 == a) block.2 in
      (block.0, block.1, eqb-true (start_at c block.0) a tests.1)

  -- no pad covers a unit behind the first of a block
  pub later_bare : (a b k : ℕ) → StandsThere c a b (suc k) → is_padded c pl a ≡ false
  later_bare a b k stands =
      elim (cases_Bool (is_padded c pl a)) [
        | inr bare ↦ bare
        | inl padded ↦
            let found = padded_begins a padded in
            let first_of : StandsThere c a found.0 0 =
            subst (λ (y : ℕ). StandsThere c y found.0 0) found.2 (first file board g c result.accepted result.code found.0 found.1) in
            let one = (units.one a b (suc k) found.0 0 stands first_of).1 in
            absurd (omega (arith, one))
      ]

  -- ---- the second word of a call

  -- no pad covers it
  pub second_bare : (u : ℕ) → is_call_pair v u ≡ true → is_padded c pl (u + 4) ≡ false
  second_bare u pair =
      elim (cases_Bool (is_padded c pl (u + 4))) [
        | inr none ↦ none
        | inl padded ↦
            let found = padded_begins (u + 4) padded in
            let leads = subst (λ (a : ℕ). is_leader v a ≡ true) found.2 (begins file board g c result.accepted result.code found.0 found.1) in
            absurd (both_ways (is_leader v (u + 4)) (pair_is_code v u pair).2 leads)
      ]

  -- no unit stands there
  pub second_alone : (u : ℕ) → is_call_pair v u ≡ true → (b k : ℕ) → StandsThere c (u + 4) b k → ⊥
  second_alone u pair b zero stands =
      let at = (placed file board g c result.accepted result.code (u + 4) b 0 stands).stands in
      let same : start_at c b ≡ u + 4 = omega (arith, at) in
      both_ways (is_leader v (u + 4)) (pair_is_code v u pair).2
      (subst (λ (a : ℕ). is_leader v a ≡ true) same (begins file board g c result.accepted result.code b (units.inside b 0 stands.is)))
  second_alone u pair b (suc k) stands =
      let at = (placed file board g c result.accepted result.code (u + 4) b (suc k) stands).stands in
      let more = stands.is in
      let is : IsUnitOf c b k = omega (arith, more) in
      let place = address file board g c result.accepted result.code b k is in
      let there : StandsThere c u b k = record { is = is; at = omega (arith, place, at) } in
      let on = (placed file board g c result.accepted result.code u b k there).goes more in
      both_ways (is_call_pair v u) (goes_further v u on).pair pair
