-- How the tables of a program are made.
use Rattle.std.specs.Prelude.{◌≡◌, ℕ, ◌+◌, ◌<◌, nat_lt, Bool, true, List, map, take, length, slice_index_or, is_some, Option, Some, None}
use Rattle.rv32im.specs.Fields.{rd_of}
use Rattle.elf_reader.specs.File.{PlainView}
use Rattle.board_config.specs.declared.board.Board.{Board}
use Rattle.loaded_file.specs.Code.{image_word}
use Rattle.object_graph.specs.declared.parts.Graph.{Graph}
use Rattle.code_blocks.specs.Words.{pair_target}
use Rattle.code_blocks.specs.Leaders.{is_call_pair}
use Rattle.code_blocks.specs.Blocks.{start_of}
use Rattle.code_blocks.specs.declared.parts.Unit.{Unit as CodeUnit}
use Rattle.code_blocks.specs.declared.parts.Block.{Block}
use Rattle.object_machine.specs.declared.units.Pair.{Pair}
use Rattle.object_machine.specs.declared.units.Prepared.{Prepared}
use Rattle.object_machine.specs.declared.preparing.BlockUnits.{BlockUnits}
use Rattle.object_machine.specs.Program.{target_at, program_of}
use Rattle.object_machine.specs.Units.{unit_in, target_of, FitsSite, AreFit, AreJoined, AreStarts, IsUnitAt}
use Rattle.object_machine.specs.Reports.{Reports, IsCallOf}

-- the call of two words that a unit is
abbrev pub CallsOf : PlainView → ℕ → Option Pair → Type 0
CallsOf v a None = Unit {0}
CallsOf v a (Some c) =
    (c.target ≡ pair_target v a)
    × (c.register ≡ rd_of (image_word v a))
    × (c.links ≡ nat_lt 0 (rd_of (image_word v (a + 4))))

pub record IsPairOf (v : PlainView) (a : ℕ) (o : Option Pair) : Type 0 where
  pub is : is_call_pair v a ≡ is_some o
  pub call : CallsOf v a o

-- a unit of a block with what a step asks of it
pub record IsPreparedOf (v : PlainView) (g : Graph) (u : CodeUnit) (on : Bool) (r : Prepared) : Type 0 where
  pub at : r.at ≡ u.at
  pub instr : r.instr ≡ u.instr
  pub pair : IsPairOf v u.at r.pair
  pub site : target_at g.sites.items u.at ≡ target_of r.site
  pub fits : FitsSite (length g.objects.items) r.site
  pub goes_on : r.goes_on ≡ on

-- the first n units of a list of `count`, prepared
abbrev pub absent_unit : CodeUnit
absent_unit = record { at = 0; words = 1; instr = None; raw = 0 }

pub record ArePrepared (v : PlainView) (g : Graph) (units : List CodeUnit) (n : ℕ) (rs : List Prepared) : Type 0 where
  pub count : length rs ≡ n
  pub each : (k : ℕ) → k < n → IsPreparedOf v g (slice_index_or units k absent_unit) (nat_lt (k + 1) (length units)) (unit_in rs k)

-- what a step rests on, of lists of units and of starts of blocks with the places of their first units
pub record AreTold (v : PlainView) (board : Board) (g : Graph) (units : List Prepared) : Type 0 where
  pub fit : AreFit (length g.objects.items) units
  pub joined : AreJoined units
  pub told : (k : ℕ) → k < length units → Reports (program_of v board g) (unit_in units k)

-- the units of a block
pub record IsPiece (v : PlainView) (board : Board) (g : Graph) (start : ℕ) (units : List Prepared) : Type 0 where
  pub told : AreTold v board g units
  pub first : IsUnitAt units 0 start

-- those of the first n blocks
pub record IsBlockUnits (v : PlainView) (board : Board) (g : Graph) (blocks : List Block) (n : ℕ) (block_units : BlockUnits) : Type 0 where
  pub told : AreTold v board g block_units.units.items
  pub starts : block_units.starts.items ≡ map start_of (take n blocks)
  pub places : length block_units.places.items ≡ length block_units.starts.items
  pub begun : AreStarts block_units.units.items block_units.starts.items block_units.places.items

-- a graph with the objects of another, and its grain
pub record HasObjects (g h : Graph) : Type 0 where
  pub grain : h.grain ≡ g.grain
  pub objects : h.objects.items ≡ g.objects.items
