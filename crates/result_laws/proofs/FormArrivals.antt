-- Where units at their forms lead, the flat machine may come to the next: what forms ask of it.
use Rattle.std.proofs.Common.{◌≡◌, ℕ, ◌+◌, ◌<◌, true, false, List, length, refl}
use Rattle.std.specs.Prelude.{Contains}
use Rattle.board_config.specs.declared.board.Board.{Board}
use Rattle.rv32im.specs.Table.{Means}
use Rattle.rv32im.specs.declared.instructions.Instr.{Instr}
use Rattle.loaded_file.specs.Code.{image_word}
use Rattle.object_graph.specs.declared.parts.Graph.{Graph}
use Rattle.code_blocks.specs.Leaders.{is_leader, is_call_pair}
use Rattle.code_blocks.specs.declared.parts.Code.{Code}
use Rattle.block_splitter.specs.declared.unit_kind.UnitKind.{UnitKind}
use Rattle.block_splitter.specs.declared.unit_kind.UnitKind.TheVariants.{Plain, Upper, Branch, Jump, Call, Tail, Indirect, Linking, Halt}
use Rattle.block_splitter.specs.Forms.{holds_block}
use Rattle.block_splitter.specs.Copies.{kind_in}
use Rattle.result_laws.specs.Copied.{Lands}
use Rattle.object_machine.specs.Program.{falls_from}
use Rattle.patch_code.specs.Serving.{ServingStub}
use Rattle.patch_code.specs.Served.{body_at}
use Rattle.simulation.specs.Forms.{IsFollowed}
use Rattle.result_laws.specs.LiveUnits.{StandsThere}
use Rattle.result_laws.specs.Entries.{RunsIn}
use Rattle.result_laws.specs.ChosenPlacement.{ChosenPlacement, piece_of, copy_in}
use Rattle.result_laws.specs.PlacedView.{IsUncopied, Serves}
use Rattle.result_laws.specs.PlacedLaws.{IsPlacedResult}
use Rattle.result_laws.specs.PlacedForms.{ArrivesHome, ArrivesAt, AtItsHome, BehindStub}
use Rattle.result_laws.proofs.Setting.{setting}
use Rattle.result_laws.proofs.CopyForms as copies
use Rattle.result_laws.proofs.CopyWays.{lands_comes, unit_comes}
use Rattle.result_laws.proofs.HomeForms.{block_comes, reached_comes, next_home}
use Rattle.result_laws.proofs.StubForms as stubs

module _ (file out : List ℕ) (board : Board) (g : Graph) (c : Code) (pl : ChosenPlacement) (result : IsPlacedResult file out board g c pl) (r : ℕ) where
  open (setting file out board g c pl result) use {v, p, plan}

  abbrev arrive : ℕ → ℕ → Type 0
  arrive x a = ArrivesAt c g pl plan r x a

  -- ---- from a copy

  module _ (u n b k : ℕ) (inside : n < length pl.pieces) (held : holds_block b (piece_of pl n).range ≡ true) (stands : StandsThere c u b k) (may : RunsIn pl.regions b r) where
    abbrev Onward : UnitKind → Type 0
    Onward kind = copies.Onward file out board g c pl result r u n b k inside held stands may arrive kind

    home : (x : ℕ) → is_leader v x ≡ true → arrive x x
    home x leads = block_comes file out board g c pl result r x leads

    reached : (x : ℕ) → p.is_reached x ≡ true → arrive x x
    reached x is = reached_comes file out board g c pl result r x is

    landing : (target to : ℕ) → is_leader v target ≡ true → Lands (copy_in c g pl n) target to → arrive target to
    landing target to leads lands = lands_comes file out board g c pl result n inside r b held may target to leads lands

    by_kind : (kind : UnitKind) → Onward kind → copies.MayArrive file out board g c pl result r u n b k inside held stands may arrive kind
    by_kind Plain next = next
    by_kind (Upper rd value) next = next
    by_kind (Branch kind rs1 rs2 target) next = (landing target, next)
    by_kind (Jump target) next = landing target
    by_kind (Call target back link) next = home target
    by_kind (Tail target link) next = home target
    by_kind Indirect next = reached
    by_kind (Linking back link base imm) next = reached
    by_kind Halt next = next

    pub copy_arrives : copies.MayArrive file out board g c pl result r u n b k inside held stands may arrive (kind_in (copy_in c g pl n) b k)
    copy_arrives =
        by_kind (kind_in (copy_in c g pl n) b k)
        (λ falls. unit_comes file out board g c pl result n inside r b held may u k stands falls)

  -- ---- from a stub

  module _ (u b : ℕ) (stub : ServingStub) (stands : StandsThere c u b 0) (listed : Contains plan.stubs stub) (serves : Serves c g pl (body_at plan stub) b stub) (uncopied : IsUncopied pl b) (runs : RunsIn pl.regions b r) where
    abbrev kind_there : UnitKind
    kind_there = stubs.own_kind file out board g c pl result r u b stub stands listed serves uncopied runs arrive

    falls_home : (i : Instr) → is_call_pair v u ≡ false → Means (image_word v u) i → IsFollowed i → falls_from v u ≡ true → ArrivesHome c g pl plan r (u + 4)
    falls_home i single means follows falls = next_home file out board g c pl result r u b 0 stands runs i single means follows falls

    of_kind : (kind : UnitKind) → kind_there ≡ kind → stubs.MayArrive file out board g c pl result r u b stub stands listed serves uncopied runs arrive kind
    of_kind Plain plain =
        λ i single means follows falls.
        BehindStub u b stub stands listed serves uncopied plain refl (falls_home i single means follows falls)
    of_kind kind is =
        (λ x leads. block_comes file out board g c pl result r x leads, λ i single means follows falls. AtItsHome (falls_home i single means follows falls))

    pub stub_arrives : stubs.MayArrive file out board g c pl result r u b stub stands listed serves uncopied runs arrive kind_there
    stub_arrives = of_kind kind_there refl
