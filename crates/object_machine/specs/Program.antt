-- What the machine needs of a file and a board: as functions of addresses, and of the objects' numbers.
use Rattle.std.specs.Prelude.{ℕ, ◌+◌, ◌==◌, nat_lt, Bool, ◌&&◌, ◌||◌, if◌then◌else◌, List, [], ◌∷◌, Option, Some, None, length}
use Rattle.std.specs.List.{list_any}
use Rattle.list_checks.specs.First.{unless, first_below}
use Rattle.elf_reader.specs.File.{PlainView}
use Rattle.elf_reader.specs.declared.view.Reloc.{Reloc}
use Rattle.board_config.specs.declared.board.Board.{Board}
use Rattle.loaded_file.specs.Code.{image_word}
use Rattle.loaded_file.specs.Records.{reloc_at, counts, symbol_of}
use Rattle.loaded_file.specs.Ranges.{inside}
use Rattle.object_graph.specs.Rewritable.{is_pair_low}
use Rattle.object_graph.specs.Sites.{is_fixed_memory}
use Rattle.object_graph.specs.declared.parts.Object.{Object}
use Rattle.object_graph.specs.declared.parts.Site.{Site}
use Rattle.object_graph.specs.declared.parts.Graph.{Graph}
use Rattle.code_blocks.specs.Words.{pair_target}
use Rattle.code_blocks.specs.Leaders.{is_call_pair, is_leader, is_indirect}
use Rattle.code_blocks.specs.Ends.{words_left}
use Rattle.cell_values.specs.Objects.{Objects, objects_of}

-- an address in an object, as the object's number and how far behind its home it lies
pub record Target : Type 0 where
  pub object : ℕ
  pub offset : ℕ

pub record Program : Type 0 where
  pub objects : Objects
  -- the address that the instruction at an address makes a part of, if it is a site
  pub site : ℕ → Option Target
  -- the AUIPC that the low part at an address belongs to, if a PCREL_LO12 names one
  pub named : ℕ → Option ℕ
  pub word : ℕ → ℕ
  -- a call of two words begins at an address, and where it goes
  pub is_pair : ℕ → Bool
  pub goes : ℕ → ℕ
  -- a block begins at an address, and one that a jump by a register may reach
  pub is_block : ℕ → Bool
  pub is_reached : ℕ → Bool
  -- what follows a unit of one word is of its block, or begins another
  pub falls : ℕ → Bool
  -- memory that stays as it is, and addresses of objects that may move
  pub is_fixed : ℕ → Bool
  pub is_held : ℕ → Bool

-- ---- of a file and a board

-- the site at an address
abbrev pub target_at : List Site → ℕ → Option Target
target_at [] a = None
target_at (s ∷ sites) a =
    if s.at == a then Some (record { object = s.object; offset = s.offset }) else target_at sites a

-- the AUIPC that relocation `j` names, if it is a low part (PCREL_LO12_I or PCREL_LO12_S) at the address
abbrev pub named_by : PlainView → ℕ → ℕ → Option ℕ
named_by v a j =
    if counts v (reloc_at v j) && is_pair_low (reloc_at v j).kind && ((reloc_at v j).at == a)
    then Some (symbol_of v (reloc_at v j)).value
    else None

abbrev pub falls_from : PlainView → ℕ → Bool
falls_from v a = is_leader v (a + 4) || nat_lt 1 (words_left v a)

abbrev pub holds : ℕ → Object → Bool
holds a o = inside o.home o.size a

abbrev pub program_of : PlainView → Board → Graph → Program
program_of v board g =
    record {
      objects = objects_of g;
      site = target_at g.sites.items;
      named = λ a. first_below (named_by v a) (length v.relocs);
      word = image_word v;
      is_pair = is_call_pair v;
      goes = pair_target v;
      is_block = is_leader v;
      is_reached = is_indirect v;
      falls = falls_from v;
      is_fixed = is_fixed_memory v board;
      is_held = λ a. list_any (holds a) g.objects.items;
    }
