-- A file without faults has few blocks and few objects.
use Rattle.std.proofs.Common.{◌≡◌, ◌∙◌, inl, inr, ℕ, zero, suc, ◌-◌, ◌<◌, ◌≤◌, nat_le, Bool, true, false, List, length, map, slice_index_or, Option, Some, None, refl, sym, arith}
use Rattle.std.proofs.lemmas.Bool.{cases_lt}
use Rattle.std.proofs.lemmas.Bool.Decides.{nat_tests}
use Rattle.std.proofs.lemmas.List.{length-map}
use Rattle.std.proofs.lemmas.List.Folds.{list_any_at}
use Rattle.list_checks.specs.First.{◌or_else◌, unless}
use Rattle.elf_reader.specs.File.{PlainView, plain_view}
use Rattle.elf_reader.specs.declared.view.ElfView.{ElfView}
use Rattle.loaded_file.specs.Read.{IsRead}
use Rattle.loaded_file.specs.Code.{is_code_word}
use Rattle.loaded_file.specs.Records.{symbol_at}
use Rattle.loaded_file.proofs.RangeLemmas.{HasByteRange, byte_range_of}
use Rattle.object_graph.specs.Fixed.{is_movable}
use Rattle.board_config.specs.declared.board.Board.{Board}
use Rattle.object_graph.specs.declared.parts.Object.{Object}
use Rattle.object_graph.specs.declared.parts.Graph.{Graph}
use Rattle.object_graph.specs.Graphs.{is_object_of, has_object, IsGraph}
use Rattle.object_graph.proofs.MovableLemmas.{Movable, movable_parts}
use Rattle.cell_values.specs.Objects.{absent_object, object_of}
use Rattle.code_blocks.specs.Words.{any_code_word}
use Rattle.code_blocks.specs.Leaders.{is_leader}
use Rattle.code_blocks.proofs.LeaderLemmas.{leader_is_code}
use Rattle.code_blocks.specs.Blocks.{start_of, IsCode, is_any, address_count, block_count, code_fault}
use Rattle.code_blocks.specs.declared.fault.CodeFault.{CodeFault}
use Rattle.code_blocks.specs.declared.fault.CodeFault.TheVariants.{NoText, EntryNotLeader}
use Rattle.code_blocks.specs.declared.parts.Code.{Code}
use Rattle.code_blocks.proofs.CountLemmas.{count_ascending}
use Rattle.code_blocks.proofs.RangeLemmas.{code_fits}

is_counted : (a : ℕ) → a < 4294967296 → a < address_count
unfolding address_count
is_counted a below = below

third_none : (x y z : Option CodeFault) → x or_else y or_else z ≡ None → z ≡ None
third_none None None z none = none
third_none None (Some fault) z none = cc
third_none (Some fault) y z none = cc

unless_none : (b : Bool) (fault : CodeFault) → unless b fault ≡ None → b ≡ true
unless_none true fault none = refl
unless_none false fault none = cc

pub blocks_few : (view : ElfView) (c : Code) → IsRead view → IsCode (plain_view view) c → code_fault (plain_view view) ≡ None → length c.blocks.items ≤ 65536
blocks_few view c read code none =
    let v = plain_view view in
    let count = count_ascending (is_leader v) (map start_of c.blocks.items) address_count code.ascending code.leaders (λ a leader.
    let fits = code_fits view a read (leader_is_code v a leader) in
    is_counted a (omega (arith, fits))) in
    let starts = length-map c.blocks.items start_of in
    let last = third_none (unless (any_code_word v is_any) NoText) (unless (is_code_word v v.entry) EntryNotLeader) _ none in
    let test : nat_le (block_count v) 65536 ≡ true = unless_none (nat_le (block_count v) 65536) _ last in
    let few : block_count v ≤ 65536 = grind (arith, nat_tests, test) in
    omega (arith, count, starts, few)

-- ---- objects: each has a byte, and they are disjoint

has_itself : (objects : List Object) (k : ℕ) (d : Object) → k < length objects → has_object objects (slice_index_or objects k d).home (slice_index_or objects k d).size ≡ true
has_itself objects k d below =
    let o : Object = slice_index_or objects k d in
    let same : is_object_of o.home o.size o ≡ true = grind (arith, nat_tests) in
    list_any_at (is_object_of o.home o.size) objects k d below same

pub movable_at : (v : PlainView) (board : Board) (g : Graph) (o : ℕ) → IsGraph v board g → o < length g.objects.items → Movable v (object_of g o).home (object_of g o).size
movable_at v board g o is below =
    let object = object_of g o in
    let movable : is_movable v board object.home object.size ≡ true = sym (is.objects.exact object.home object.size) ∙ has_itself g.objects.items o absent_object below in
    movable_parts v board object.home object.size movable

byte_range_at : (v : PlainView) (board : Board) (g : Graph) (o : ℕ) → IsGraph v board g → o < length g.objects.items → HasByteRange (object_of g o).home (object_of g o).size
byte_range_at v board g o is below =
    let movable = movable_at v board g o is below in
    byte_range_of v (object_of g o).home (object_of g o).size (symbol_at v movable.symbol) movable.of

home_at_least : (v : PlainView) (board : Board) (g : Graph) (k : ℕ) → IsGraph v board g → k < length g.objects.items → k ≤ (object_of g k).home
home_at_least v board g zero is below = omega arith
home_at_least v board g (suc k) is below =
    let earlier = home_at_least v board g k is (omega (arith, below)) in
    let filled = (byte_range_at v board g k is (omega (arith, below))).filled in
    let disjoint = is.objects.disjoint k (suc k) absent_object (omega arith) below in
    omega (arith, earlier, filled, disjoint)

pub objects_few : (v : PlainView) (board : Board) (g : Graph) → IsGraph v board g → length g.objects.items ≤ 4294967296
objects_few v board g is =
    let n = length g.objects.items in
    elim (cases_lt 0 n) [
      | inr none ↦ omega (arith, none)
      | inl some ↦
          let home = home_at_least v board g (n - 1) is (omega (arith, some)) in
          let ends = (byte_range_at v board g (n - 1) is (omega (arith, some))).ends in
          omega (arith, some, home, ends)
    ]
