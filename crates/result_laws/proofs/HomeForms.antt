-- The forms of units at home, where no pad covers them.
use Rattle.std.proofs.Common.{◌≡◌, ◌⊎◌, inl, inr, ℕ, suc, ◌+◌, true, false, if◌then◌else◌, List, [], ◌∷◌, length, Some, refl, arith}
use Rattle.std.proofs.lemmas.Bool.{cases_lt}
use Rattle.rv32im.specs.Table.{Means}
use Rattle.rv32im.specs.declared.instructions.Instr.{Instr}
use Rattle.rv32im.specs.declared.instructions.Instr.TheVariants as instr
use Rattle.board_config.specs.declared.board.Board.{Board}
use Rattle.loaded_file.specs.Code.{image_word, is_code_word}
use Rattle.object_graph.specs.declared.parts.Graph.{Graph}
use Rattle.code_blocks.specs.Leaders.{is_leader, is_call_pair}
use Rattle.code_blocks.proofs.LeaderLemmas.{indirect_is_leader}
use Rattle.code_blocks.proofs.PairLemmas.{pair_is_code}
use Rattle.code_blocks.specs.Leads.{units_at}
use Rattle.code_blocks.specs.declared.parts.Code.{Code}
use Rattle.object_machine.specs.Program.{falls_from}
use Rattle.object_machine.specs.Units.{leads_on}
use Rattle.object_machine.proofs.FollowLemmas.{falls_behind}
use Rattle.dataflow.specs.Overlaid.{region_in}
use Rattle.flat_machine.specs.State.{State}
use Rattle.simulation.specs.Forms.{IsFollowed, InWords}
use Rattle.simulation.proofs.AnyForms.{home_words}
use Rattle.result_laws.specs.LiveUnits.{StandsThere}
use Rattle.result_laws.proofs.CodeUnits.{units_stand, placed, block_of}
use Rattle.result_laws.proofs.UnitWords.{IsLaid, unit_laid}
use Rattle.result_laws.specs.Entries.{RunsIn}
use Rattle.result_laws.specs.ChosenPlacement.{ChosenPlacement}
use Rattle.result_laws.specs.PlacedView.{is_padded, HasRegion, InBlock, Elsewhere}
use Rattle.result_laws.specs.PlacedLaws.{IsPlacedResult}
use Rattle.result_laws.specs.PlacedForms.{StandsAs, AtHome, IsFormOf, ArrivesHome, FormThere, BlockThere, ArrivesAt, AtForm, AtItsHome}
use Rattle.result_laws.proofs.Setting.{setting}
use Rattle.result_laws.proofs.Blocks.{unit_code, later_bare, second_bare, second_alone}
use Rattle.result_laws.proofs.PlacedChosen.{sound}
use Rattle.result_laws.proofs.Fetches.{FormOver}
use Rattle.result_laws.proofs.Standing.{home_stands, kept_word, site_there}

followed_leads : (i : Instr) → IsFollowed i → leads_on i ≡ true
followed_leads (instr.Jal rd off) follows = absurd follows
followed_leads (instr.Jalr rd rs1 imm) follows = absurd follows
followed_leads (instr.Branch kind rs1 rs2 off) follows = absurd follows
followed_leads instr.Ebreak follows = absurd follows
followed_leads i follows = refl

module _ (file out : List ℕ) (board : Board) (g : Graph) (c : Code) (pl : ChosenPlacement) (result : IsPlacedResult file out board g c pl) where
  open (setting file out board g c pl result) use {v, w, p, l, live, plan}

  abbrev arrive : ℕ → ℕ → ℕ → Type 0
  arrive r u a = ArrivesAt c g pl plan r u a

  -- where a block begins
  pub block_home : (r a : ℕ) → is_leader v a ≡ true → ArrivesHome c g pl plan r a
  block_home r a leads =
      let there = block_of file board g c result.accepted result.code a leads in BlockThere there.0 there.1 there.2

  pub block_comes : (r a : ℕ) → is_leader v a ≡ true → arrive r a a
  block_comes r a leads = AtItsHome (block_home r a leads)

  -- where a jump by a register may go
  pub reached_comes : (r a : ℕ) → p.is_reached a ≡ true → arrive r a a
  reached_comes r a reached = block_comes r a (indirect_is_leader v a reached)

  -- a unit that stands there may run
  form_of : (r u a b k : ℕ) → StandsThere c u b k → RunsIn pl.regions b r → StandsAs c g pl plan u a → IsFormOf c g pl plan r u a
  form_of r u a b k there runs stands =
      record { stands = stands; may = record { block = b; unit = k; there = there; runs = runs } }

  pub form_there : (r u a b k : ℕ) → StandsThere c u b k → RunsIn pl.regions b r → StandsAs c g pl plan u a → arrive r u a
  form_there r u a b k there runs stands = AtForm a (form_of r u a b k there runs stands)

  -- behind a unit that doesn't jump the next one is at home
  pub next_home : (r u b k : ℕ) → StandsThere c u b k → RunsIn pl.regions b r → (i : Instr) → is_call_pair v u ≡ false → Means (image_word v u) i → IsFollowed i → falls_from v u ≡ true → ArrivesHome c g pl plan r (u + 4)
  next_home r u b k stands runs i single means follows falls =
      let here = placed file board g c result.accepted result.code u b k stands in
      let units = units_stand file board g c result.accepted result.code in
      elim (cases_lt (suc k) (length (units_at c b))) [
        | inl more ↦
            let at = stands.at in
            let first = units.at b k stands.is in
            let next = units.at b (suc k) more in
            let there : StandsThere c (u + 4) b (suc k) = record { is = more; at = omega (arith, first, next, at) } in
            FormThere (form_of r (u + 4) (u + 4) b (suc k) there runs
            (AtHome (u + 4) b (suc k) there (later_bare file out board g c pl result (u + 4) b k there)))
        | inr all ↦
            let is = stands.is in
            let last : suc k ≡ length (units_at c b) = omega (arith, all, is) in
            let leads = followed_leads i follows in
            block_home r (u + 4)
            (falls_behind v board g u k (length (units_at c b)) (Some i) here.nth last means (rw (single) leads) falls)
      ]

  module _ (r u b k : ℕ) (stands : StandsThere c u b k) (bare : is_padded c pl u ≡ false) (runs : RunsIn pl.regions b r) where
    abbrev Laid : ℕ → Type 0
    Laid a = IsLaid file board g result.accepted w l r (sound file out board g c pl result r) refl a

    laid : (a q : ℕ) → is_code_word v a ≡ true → is_padded c pl a ≡ false → HasRegion c pl.regions a q → (q ≡ 0) ⊎ (q ≡ r) → Laid a
    laid a q code none region here =
        record {
          stands = λ x is. home_stands file out board g c pl result r a x code is;
          same = λ no_site. kept_word file out board g c pl result a code none no_site;
          site = λ t at. site_there file out board g c pl result r a q t region here none at;
        }

    laid_behind : is_call_pair v u ≡ true → Laid (u + 4)
    laid_behind pair =
        laid (u + 4) 0 (pair_is_code v u pair).1 (second_bare file out board g c pl result u pair)
        (Elsewhere (second_alone file out board g c pl result u pair)) (inl refl)

    -- its own words
    abbrev pub home_fetched : State → List ℕ
    home_fetched t = if is_call_pair v u then u ∷ (u + 4) ∷ [] else u ∷ []

    -- where the flat machine may come to the homes of blocks, and to that of what follows
    pub home_form : (to : ℕ → ℕ → Type 0) → ((a : ℕ) → is_leader v a ≡ true → to a a) → ((i : Instr) → is_call_pair v u ≡ false → Means (image_word v u) i → IsFollowed i → falls_from v u ≡ true → to (u + 4) (u + 4)) → FormOver p l live to r u u home_fetched
    home_form to blocks next =
        let code = unit_code file out board g c pl result u b k stands in (
          InWords
              (home_words p l to r u blocks (λ a reached. blocks a (indirect_is_leader v a reached)) next
              (unit_laid file board g result.accepted w l r (sound file out board g c pl result r) refl u code
              (laid u (region_in pl.regions b) code bare (InBlock b k stands) runs) (λ pair. laid_behind pair))),
          record { one = λ single t. rw (single) refl; two = λ pair t. rw (pair) refl },
        )

    pub home_falls : (i : Instr) → is_call_pair v u ≡ false → Means (image_word v u) i → IsFollowed i → falls_from v u ≡ true → arrive r (u + 4) (u + 4)
    home_falls i single means follows falls = AtItsHome (next_home r u b k stands runs i single means follows falls)
