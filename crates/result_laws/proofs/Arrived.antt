-- From where the words of a unit lead the flat machine comes to a form of the next one: which words run.
use Rattle.std.proofs.Common.{◌≡◌, ◌∙◌, ℕ, ◌+◌, ◌<◌, ◌≤◌, true, List, [], ◌∷◌, ◌++◌, length, map, refl, sym, ap, subst, arith}
use Rattle.board_config.specs.declared.board.Board.{Board}
use Rattle.flat_machine.specs.declared.events.FlatEvent.{FlatEvent}
use Rattle.flat_machine.specs.Lines.{words_from}
use Rattle.flat_machine.specs.State.{State}
use Rattle.flat_machine.proofs.Runs.{does_joined}
use Rattle.object_graph.specs.declared.parts.Graph.{Graph}
use Rattle.code_blocks.specs.Leaders.{is_leader}
use Rattle.code_blocks.specs.Numbers.{start_at}
use Rattle.code_blocks.specs.declared.parts.Code.{Code}
use Rattle.block_splitter.specs.Copies.{address_of}
use Rattle.result_laws.specs.CopyLaws.{place_behind}
use Rattle.object_machine.specs.State.{SourceState}
use Rattle.object_machine.specs.Paired.{Origins}
use Rattle.patch_code.specs.Served.{body_at}
use Rattle.simulation.specs.Setups.{Sound}
use Rattle.simulation.specs.Units.{StandsAt}
use Rattle.simulation.specs.Relation.{Alike}
use Rattle.simulation.specs.Ways.{Way, There}
use Rattle.simulation.proofs.Steps.{is_at}
use Rattle.result_laws.proofs.Setting.{setting}
use Rattle.result_laws.proofs.CodeUnits.{begins}
use Rattle.result_laws.specs.ChosenPlacement.{ChosenPlacement, copy_in}
use Rattle.result_laws.specs.PlacedLaws.{IsPlacedResult}
use Rattle.result_laws.specs.PlacedForms.{ArrivesHome, BlockThere, ArrivesAt, AtForm, AtItsHome, BehindCopy, BehindStub}
use Rattle.result_laws.specs.Walks.{address_in, AreEvents, leaving_fetched, Enters}
use Rattle.result_laws.proofs.Arriving.{IsHeldIn}
use Rattle.result_laws.proofs.Coming.{leaves_by_jump, leaves_copy, leaves_stub}
use Rattle.result_laws.proofs.PlacedEntering.{Lands, EntersHome, enters_home}
use Rattle.result_laws.proofs.Moves.{one_address, two_addresses, Moved, moved}
use Rattle.result_laws.proofs.PlacedPads as pads

module _ (file out : List ℕ) (board : Board) (g : Graph) (c : Code) (pl : ChosenPlacement) (result : IsPlacedResult file out board g c pl) (input : List ℕ) where
  open (setting file out board g c pl result) use {v, p, l, live, plan, form}

  abbrev holds : ℕ → SourceState → Origins → Type 0
  holds = IsHeldIn file out board g c pl result input

  -- words that lead home, and those that lead from there to a form
  pub record ArrivedFrom (r : ℕ) (s : SourceState) (m : Origins) (t : State) (a : ℕ) (there : ArrivesAt c g pl plan r s.pc a) : Type 0 where
    pub leaving : List FlatEvent
    pub entering : List FlatEvent
    pub to : ℕ
    pub leaves : AreEvents (leaving_fetched c g pl plan r s.pc a there) [] leaving
    pub enters : Enters c g pl plan r s.pc a to entering there
    pub lands : Lands file out board g c pl result input s m t to (leaving ++ entering)

  module _ (bound r : ℕ) (five : 5 ≤ bound) (can : pads.CanLeave file out board g c pl result input bound r) (s : SourceState) (m : Origins) (t : State) (sound_there : Sound p l r) (held : holds r s m) (alike : Alike p l live r s.pc s m t) where
    -- the flat machine is at the unit's home behind some words
    abbrev AtHomeOf : ℕ → ℕ → ℕ → Type 0
    AtHomeOf q u x = x ≡ s.pc

    abbrev Home : ℕ → Type 0
    Home n = Moved p l live r s m AtHomeOf n t

    enters_behind : (n : ℕ) (run : Home n) → ArrivesHome c g pl plan r s.pc → EntersHome file out board g c pl result input r s m run.after
    enters_behind n run home =
        enters_home file out board g c pl result input bound r five can s m run.after sound_there held run.at run.alike home

    lands_behind : (n : ℕ) (run : Home n) (enters : EntersHome file out board g c pl result input r s m run.after) → Lands file out board g c pl result input s m t enters.to (run.events ++ enters.events)
    lands_behind n run enters =
        record {
          after = enters.lands.after;
          does = does_joined run.events enters.events t run.after enters.lands.after run.does enters.lands.does;
          held = enters.lands.held;
          alike = enters.lands.alike;
          at = enters.lands.at;
        }

    leads_at : (d : ℕ) → d < length c.blocks.items → start_at c d ≡ s.pc → is_leader v s.pc ≡ true
    leads_at d below starts = subst (λ (x : ℕ). is_leader v x ≡ true) starts (begins file board g c result.accepted result.code d below)

    pub arrived_from : (a : ℕ) (there : ArrivesAt c g pl plan r s.pc a) → t.hart.pc ≡ a → ArrivedFrom r s m t a there
    arrived_from _ (AtForm a at) here =
        record {
          leaving = [];
          entering = [];
          to = r;
          leaves = record { addresses = refl; accesses = refl };
          enters = (refl, refl);
          lands = record { after = t; does = refl; held = held; alike = alike; at = subst (λ (x : ℕ). form r s.pc x) (sym here) at };
        }
    arrived_from _ (AtItsHome home) here =
        let enters = enters_home file out board g c pl result input bound r five can s m t sound_there held here alike home in
        record {
          leaving = [];
          entering = enters.events;
          to = enters.to;
          leaves = record { addresses = refl; accesses = refl };
          enters = enters.entered;
          lands = enters.lands;
        }
    arrived_from _ (BehindCopy n b d inside copied runs falls none below starts) here =
        let at : ℕ = address_of (copy_in c g pl n) (place_behind (copy_in c g pl n) b) in
        let way : Way l live AtHomeOf r s.pc 2 at =
        leaves_copy file out board g c pl result AtHomeOf n inside r b copied runs s.pc 0 falls none (leads_at d below starts) (There s.pc refl) in
        let run : Home 2 = moved p l live r s m AtHomeOf 2 at way t here alike in
        let jump = leaves_by_jump file out board g c pl result AtHomeOf n inside r b copied runs s.pc falls none in
        let low = jump.low in
        let addresses : map address_in run.events ≡ words_from at 2 =
        two_addresses l r jump.word jump.register jump.upper t run.after run.events (is_at p l live r s.pc s m t alike)
        (subst (λ (x : ℕ). StandsAt l r x jump.word) (sym here) jump.stands) jump.means (omega (arith, here, low)) run.count run.does
        ∙ ap (λ (x : ℕ). words_from x 2) here in
        let enters = enters_behind 2 run (BlockThere d below starts) in
        record {
          leaving = run.events;
          entering = enters.events;
          to = enters.to;
          leaves = record { addresses = addresses; accesses = run.silent };
          enters = enters.entered;
          lands = lands_behind 2 run enters;
        }
    arrived_from _ (BehindStub u b stub stands listed serves uncopied plain is home) here =
        let at : ℕ = body_at plan stub + 4 in
        let way : Way l live AtHomeOf r s.pc 1 at =
        subst (λ (q : ℕ). Way l live AtHomeOf r q 1 at) (sym is)
        (leaves_stub file out board g c pl result AtHomeOf r u b stub stands listed serves uncopied plain 0 (There (u + 4) (sym is))) in
        let run : Home 1 = moved p l live r s m AtHomeOf 1 at way t here alike in
        let enters = enters_behind 1 run home in
        record {
          leaving = run.events;
          entering = enters.events;
          to = enters.to;
          leaves = record {
            addresses = one_address t run.after run.events run.count run.does ∙ ap (λ (x : ℕ). x ∷ []) here;
            accesses = run.silent;
          };
          enters = enters.entered;
          lands = lands_behind 1 run enters;
        }
