-- A first unit that is displaced into the patch range reaches the next unit at its home and where it leads.
use Rattle.std.proofs.Common.{◌≡◌, ◌∙◌, ℕ, ◌+◌, ◌*◌, ◌%◌, ◌<◌, ◌≤◌, Bool, true, List, length, sym, ap, subst, arith}
use Rattle.std.specs.Prelude.{slice_index_or}
use Rattle.std.proofs.lemmas.List.{length-map}
use Rattle.rv32im.proofs.SequenceLemmas.{in_reach}
use Rattle.elf_reader.specs.File.{PlainView, view_in}
use Rattle.elf_reader.proofs.SegmentLemmas.{none_of_headers, load_segments_loadable}
use Rattle.board_config.specs.declared.board.Board.{Board}
use Rattle.loaded_file.specs.Code.{is_code_word}
use Rattle.object_graph.specs.declared.parts.Graph.{Graph}
use Rattle.code_blocks.proofs.SearchLemmas.{has_found}
use Rattle.code_blocks.specs.Blocks.{IsCode, start_of}
use Rattle.code_blocks.specs.Leads.{IsBlockOf, units_at, no_unit}
use Rattle.code_blocks.specs.Numbers.{starts_of, start_at}
use Rattle.code_blocks.specs.declared.parts.Unit.{Unit}
use Rattle.code_blocks.specs.declared.parts.Code.{Code}
use Rattle.block_splitter.specs.declared.unit_kind.UnitKind.{UnitKind}
use Rattle.block_splitter.specs.declared.unit_kind.UnitKind.TheVariants.{Plain, Upper, Branch, Jump, Call, Tail, Indirect, Linking, Halt}
use Rattle.block_splitter.specs.Forms.{is_site, body_at, unit_in, kind_of, displaced_size}
use Rattle.block_splitter.specs.Copies.{Reaches, ReachesTargets}
use Rattle.result_laws.specs.Displacing.{CanDisplace}
use Rattle.result_laws.proofs.FirstUnits.{Halts, first_kinds_so}
use Rattle.result_laws.proofs.KindFacts.{Begins, IsKindBy}
use Rattle.result_laws.specs.HomeLaws.{IsAccepted, unnamed_in}
use Rattle.result_laws.specs.LiveUnits.{UnitsStand}
use Rattle.result_laws.proofs.CodeUnits.{body_units, code_units_stand}
use Rattle.result_laws.proofs.Words.{code_below}
use Rattle.relink_core.proofs.BlockOrder.{start_code}
use Rattle.relink_core.proofs.Near.{IsNearTo, is_near, word_near}

-- where a block begins is near the patch range
begin_near : (file : List ℕ) (board : Board) (g : Graph) (c : Code) (a : ℕ) → IsAccepted file board g → IsCode (view_in file) c → Begins c a → IsNearTo board a
begin_near file board g c a accepted code begins =
    let found = has_found (starts_of c) a begins in
    let count = length-map c.blocks.items start_of in
    let inside = found.1 in
    subst (IsNearTo board) found.2
    (word_near file board g (start_at c found.0) accepted (start_code file board g c found.0 accepted code (omega (arith, inside, count))))

module _ (board : Board) (ends : board.patch.base + board.patch.size < 4294967296) where
  -- a JAL in the patch range reaches such an address
  near_reached : (jump to : ℕ) → board.patch.base ≤ jump → jump % 4 ≡ 0 → jump + 4 ≤ board.patch.base + board.patch.size → IsNearTo board to → Reaches jump to
  near_reached jump to from even fits near =
      let small = near.small in
      let above = near.above in
      let below = near.below in
      let even_to = near.even in
      in_reach 1048576 jump to (omega arith) (omega (arith, fits, ends)) small (omega (arith, from, above)) (omega (arith, fits, below))
      (omega (arith, even)) (omega (arith, even_to))

  -- and the word behind it, where a word stands before the JAL
  next_reached : (jump u : ℕ) → board.patch.base + 4 ≤ jump → jump % 4 ≡ 0 → jump + 4 ≤ board.patch.base + board.patch.size → IsNearTo board u → u + 4 < 4294967296 → Reaches jump (u + 4)
  next_reached jump u from even fits near low =
      let above = near.above in
      let below = near.below in
      let even_to = near.even in
      in_reach 1048576 jump (u + 4) (omega arith) (omega (arith, fits, ends)) low (omega (arith, from, above)) (omega (arith, fits, below))
      (omega (arith, even)) (omega (arith, even_to))

  -- by the kind of a unit at a word of code, whose targets begin blocks
  module _ (v : PlainView) (c : Code) (site : ℕ → Bool) (u at : ℕ) (F H : Type 0) (begins : (a : ℕ) → Begins c a → IsNearTo board a) (near : IsNearTo board u) (low : u + 4 < 4294967296) (from : board.patch.base ≤ at) (even : at % 4 ≡ 0) where
    kind_reaches : (kind : UnitKind) → IsKindBy v c site u F H kind → at + 4 * displaced_size kind ≤ board.patch.base + board.patch.size → ReachesTargets at (u + 4) kind
    kind_reaches Plain is fits = next_reached (at + 4) u (omega (arith, from)) (omega (arith, even)) (omega (arith, fits)) near low
    kind_reaches (Upper rd value) is fits = next_reached (at + 8) u (omega (arith, from)) (omega (arith, even)) (omega (arith, fits)) near low
    kind_reaches (Branch kind rs1 rs2 target) is fits = (
      next_reached (at + 4) u (omega (arith, from)) (omega (arith, even)) (omega (arith, fits)) near low,
      near_reached (at + 8) target (omega (arith, from)) (omega (arith, even)) (omega (arith, fits)) (begins target is.1.1.1.0),
    )
    kind_reaches (Jump target) is fits = near_reached at target from even (omega (arith, fits)) (begins target is.1.1.1)
    kind_reaches (Call target back link) is fits = near_reached (at + 8) target (omega (arith, from)) (omega (arith, even)) (omega (arith, fits)) (begins target is.0)
    kind_reaches (Tail target register) is fits = near_reached at target from even (omega (arith, fits)) (begins target is.1.1.1.1)
    kind_reaches Indirect is fits = tt
    kind_reaches (Linking back link base imm) is fits = tt
    kind_reaches Halt is fits = tt

-- the first unit of a block that can be displaced reaches its targets from all places at which it fits
pub first_reaches : (file : List ℕ) (board : Board) (g : Graph) (c : Code) (b at : ℕ) → IsAccepted file board g → IsCode (view_in file) c → IsBlockOf c b → CanDisplace c b → board.patch.base ≤ at → at % 4 ≡ 0 → at + 4 * displaced_size (kind_of (is_site g) (body_at c.blocks.items b) 0) ≤ board.patch.base + board.patch.size → ReachesTargets at ((unit_in (body_at c.blocks.items b) 0).at + 4) (kind_of (is_site g) (body_at c.blocks.items b) 0)
first_reaches file board g c b at accepted code below can from even fits =
    let v = view_in file in
    let stand : UnitsStand v (unnamed_in file board g) c = code_units_stand file board g c accepted code in
    let first = stand.first b below in
    let some_unit = first.is in
    let same : (body_at c.blocks.items b).units ≡ units_at c b = body_units c.blocks.items b in
    let count : length (body_at c.blocks.items b).units ≡ length (units_at c b) = ap (λ (us : List Unit). length us) same in
    let u : ℕ = (unit_in (body_at c.blocks.items b) 0).at in
    let there : u ≡ start_at c b = ap (λ (us : List Unit). (slice_index_or us 0 no_unit).at) same ∙ first.at in
    let word : is_code_word v u ≡ true =
    subst (λ (a : ℕ). is_code_word v a ≡ true) (sym there) (start_code file board g c b accepted code below) in
    let loadable = load_segments_loadable file accepted.bytes (none_of_headers file accepted.none) in
    kind_reaches board (is_near file board g accepted).ends v c (is_site g) u at (Prim.Unit {0}) (Halts v u)
    (λ a begins. begin_near file board g c a accepted code begins) (word_near file board g u accepted word) (code_below v u loadable word)
    from even (kind_of (is_site g) (body_at c.blocks.items b) 0)
    (first_kinds_so v c (is_site g) b code below can (omega (arith, count, some_unit))) fits
