-- What the tables of a program rest on.
use Rattle.std.proofs.Common.{◌≡◌, ◌⊎◌, inl, inr, ℕ, zero, suc, ◌+◌, ◌<◌, ◌≤◌, ◌==◌, nat_le, nat_lt, Bool, true, false, not, ◌&&◌, ◌||◌, List, ◌∷◌, map, take, length, slice_index_or, refl, sym, ◌∙◌, ap, subst, arith}
use Rattle.std.specs.List.{All, list_any}
use Rattle.std.specs.List.Sorted.{IsStrictlyIncreasing}
use Rattle.std.proofs.lemmas.Bool.{cases_Bool, cases_lt}
use Rattle.std.proofs.lemmas.Bool.Decides.{nat_tests}
use Rattle.std.proofs.lemmas.List.{length-map, get_or-map, take_all}
use Rattle.list_checks.specs.Tests.{any_below}
use Rattle.list_checks.proofs.TestLemmas.{either, any_found}
use Rattle.elf_reader.specs.File.{PlainView, plain_view}
use Rattle.elf_reader.specs.declared.view.ElfView.{ElfView}
use Rattle.board_config.specs.Board.{IsLawfulRange, IsLawful}
use Rattle.board_config.specs.declared.board.Board.{Board}
use Rattle.board_config.specs.declared.board.Range.{Range}
use Rattle.loaded_file.specs.Code.{is_code_word}
use Rattle.loaded_file.specs.Read.{IsRead}
use Rattle.object_graph.specs.declared.parts.Object.{Object}
use Rattle.object_graph.specs.declared.parts.Graph.{Graph}
use Rattle.object_graph.specs.Graphs.{IsGraph}
use Rattle.object_graph.specs.Sites.{no_area, in_range, in_area, in_code_range, in_object, holds_changed_byte, is_fixed_memory}
use Rattle.code_blocks.specs.Leaders.{is_leader, is_indirect}
use Rattle.code_blocks.specs.Early.{has}
use Rattle.code_blocks.proofs.LeaderLemmas.{indirect_is_leader, leader_is_code}
use Rattle.code_blocks.specs.Blocks.{start_of, IsCode}
use Rattle.code_blocks.specs.declared.parts.Block.{Block}
use Rattle.code_blocks.specs.declared.parts.Code.{Code}
use Rattle.code_blocks.proofs.ListLemmas.{has_at}
use Rattle.cell_values.specs.Objects.{IsGrain, absent_object, objects_of, object_of}
use Rattle.object_machine.specs.declared.units.Prepared.{Prepared}
use Rattle.object_machine.specs.declared.tables.Tables.{Tables}
use Rattle.object_machine.specs.Program.{holds, program_of}
use Rattle.object_machine.specs.Layout.{is_in_some, EndBelow, HasDisjointObjects, LieOff, AreAmong, is_grain}
use Rattle.object_machine.specs.Units.{unit_in, AreFit, AreJoined, AreStarts}
use Rattle.object_machine.specs.Reports.{Reports}
use Rattle.object_machine.specs.Machine.{Agrees}
use Rattle.object_machine.specs.Preparing.{IsBlockUnits, HasObjects}
use Rattle.object_machine.specs.declared.preparing.BlockUnits.{BlockUnits}
use Rattle.object_machine.proofs.GraphLemmas.{ends_below, lie_disjoint, object_not_fixed}

-- ---- the grain

pub grain_is : (g : ℕ) → IsGrain g → is_grain g ≡ true
grain_is g (inl sixteen) = grind (arith, nat_tests, sixteen)
grain_is g (inr (inl thirty)) = grind (arith, nat_tests, thirty)
grain_is g (inr (inr sixty)) = grind (arith, nat_tests, sixty)

-- ---- fixed memory

range_short : (r : Range) (a : ℕ) → IsLawfulRange r → in_range r a ≡ true → a < 4294967296
range_short r a lawful inside =
    let within = lawful.within in grind (arith, nat_tests, within, inside)

first_of_six : (m a b c d e : Bool) → m && a && b && c && d && e ≡ true → m ≡ true
first_of_six true a b c d e all = refl
first_of_six false a b c d e all = cc

fixed_below : (v : PlainView) (board : Board) (a : ℕ) → IsLawful board → is_fixed_memory v board a ≡ true → a < 4294967296
fixed_below v board a lawful fixed =
    let areas = any_below (in_area board a) (length board.areas.items) in
    let mapped = first_of_six (in_range board.main a || areas) (not (in_range board.spm a)) (not (in_range board.patch a)) (not (any_below (in_code_range v a) (length v.sections))) (not (any_below (in_object v board a) (length v.symbols))) (not (any_below (holds_changed_byte v a) (length v.segments))) fixed in
    elim (either (in_range board.main a) areas mapped) [
      | inl main ↦ range_short board.main a (lawful.ranges 0 no_area (omega arith)) main
      | inr area ↦
          let (k, below, inside) = any_found (in_area board a) (length board.areas.items) area in
          range_short (slice_index_or board.areas.items k no_area) a (lawful.ranges (suc (suc (suc k))) no_area (omega (arith, below))) inside
    ]

pub fixed_agrees : (v : PlainView) (board : Board) (ranges : List Range) → IsLawful board → ((a : ℕ) → a < 4294967296 → list_any (λ r. in_range r a) ranges ≡ is_fixed_memory v board a) → (a : ℕ) → is_fixed_memory v board a ≡ is_in_some ranges a
fixed_agrees v board ranges lawful exact a =
    elim (cases_lt a 4294967296) [
      | inl below ↦ let less : nat_lt a 4294967296 ≡ true = grind (arith, nat_tests, below) in rw less (sym (exact a below))
      | inr above ↦
          let behind : nat_lt a 4294967296 ≡ false = grind (arith, nat_tests, above) in
          elim (cases_Bool (is_fixed_memory v board a)) [
            | inl fixed ↦ let less = fixed_below v board a lawful fixed in absurd (omega (arith, less, above))
            | inr free ↦ rw behind free
          ]
    ]

pub lie_off : (v : PlainView) (board : Board) (g : Graph) (ranges : List Range) → IsGraph v board g → ((a : ℕ) → is_fixed_memory v board a ≡ is_in_some ranges a) → LieOff ranges g
lie_off v board g ranges is agrees o i inside =
    sym (agrees ((object_of g o).home + i)) ∙ object_not_fixed v board g o i is inside

-- ---- blocks

pub block_is_code : (v : PlainView) (c : Code) (k : ℕ) (d : Block) → IsCode v c → k < length c.blocks.items → is_code_word v (slice_index_or c.blocks.items k d).start ≡ true
block_is_code v c k d code below =
    let starts = map start_of c.blocks.items in
    let count = length-map c.blocks.items start_of in
    let here : slice_index_or starts k 0 ≡ (slice_index_or c.blocks.items k d).start = get_or-map start_of c.blocks.items k d 0 below in
    let found = subst (λ (a : ℕ). has starts a ≡ true) here (has_at starts k 0 (omega (arith, below, count))) in
    leader_is_code v (slice_index_or c.blocks.items k d).start (sym (code.leaders (slice_index_or c.blocks.items k d).start) ∙ found)

pub among : (v : PlainView) (c : Code) (reached starts : List ℕ) → IsCode v c → reached ≡ c.indirect.items → starts ≡ map start_of c.blocks.items → AreAmong reached starts
among v c reached starts code is_reached is_starts a some =
    let indirect : is_indirect v a ≡ true = sym (code.indirect a) ∙ (ap (λ (xs : List ℕ). has xs a) (sym is_reached) ∙ some) in
    ap (λ (xs : List ℕ). has xs a) is_starts ∙ (code.leaders a ∙ indirect_is_leader v a indirect)

pub all_starts : (v : PlainView) (board : Board) (g : Graph) (c : Code) (block_units : BlockUnits) → IsBlockUnits v board g c.blocks.items (length c.blocks.items) block_units → block_units.starts.items ≡ map start_of c.blocks.items
all_starts v board g c block_units is = is.starts ∙ ap (map start_of) (take_all (length c.blocks.items) c.blocks.items (omega arith))

-- ---- the objects of a graph alone

same_object : (g h : Graph) (o : ℕ) → HasObjects g h → object_of h o ≡ object_of g o
same_object g h o same = ap (λ (xs : List Object). slice_index_or xs o absent_object) same.objects

objects_same : (g h : Graph) → HasObjects g h → objects_of h ≡ objects_of g
objects_same g h same =
    λ z. record {
      grain = same.grain z;
      home = λ o. (same_object g h o same z).home;
      size = λ o. (same_object g h o same z).size;
      writable = λ o. (same_object g h o same z).writable;
    }

ends_same : (g h : Graph) → HasObjects g h → EndBelow g → EndBelow h
ends_same g h same ends o = subst (λ (x : Object). x.home + x.size < 4294967296) (sym (same_object g h o same)) (ends o)

disjoint_same : (g h : Graph) → HasObjects g h → HasDisjointObjects g → HasDisjointObjects h
disjoint_same g h same disjoint =
    subst (λ (xs : List Object). (o q i j : ℕ) → i < (slice_index_or xs o absent_object).size → j < (slice_index_or xs q absent_object).size → (slice_index_or xs o absent_object).home + i ≡ (slice_index_or xs q absent_object).home + j → o ≡ q)
    (sym same.objects) disjoint

off_same : (g h : Graph) (ranges : List Range) → HasObjects g h → LieOff ranges g → LieOff ranges h
off_same g h ranges same off =
    subst (λ (xs : List Object). (o i : ℕ) → i < (slice_index_or xs o absent_object).size → is_in_some ranges ((slice_index_or xs o absent_object).home + i) ≡ false)
    (sym same.objects) off

-- ---- the tables

-- what they rest on
pub record AreTables (g : Graph) (units : List Prepared) (starts places reached : List ℕ) (fixed : List Range) : Type 0 where
  pub grain : is_grain g.grain ≡ true
  pub below : EndBelow g
  pub disjoint : HasDisjointObjects g
  pub off : LieOff fixed g
  pub fit : AreFit (length g.objects.items) units
  pub joined : AreJoined units
  pub begun : AreStarts units starts places
  pub ascending : IsStrictlyIncreasing starts
  pub reached_ascending : IsStrictlyIncreasing reached
  pub among : AreAmong reached starts

pub are_tables : (v : PlainView) (board : Board) (g h : Graph) (c : Code) (block_units : BlockUnits) (reached : List ℕ) (fixed : List Range) → IsGraph v board g → IsGrain g.grain → IsCode v c → HasObjects g h → IsBlockUnits v board g c.blocks.items (length c.blocks.items) block_units → reached ≡ c.indirect.items → ((a : ℕ) → is_fixed_memory v board a ≡ is_in_some fixed a) → AreTables h block_units.units.items block_units.starts.items block_units.places.items reached fixed
are_tables v board g h c block_units reached fixed is grain code same lies is_reached agrees =
    let starts = all_starts v board g c block_units lies in
    record {
      grain = subst (λ (n : ℕ). is_grain n ≡ true) (sym same.grain) (grain_is g.grain grain);
      below = ends_same g h same (ends_below v board g is);
      disjoint = disjoint_same g h same (lie_disjoint v board g is);
      off = off_same g h fixed same (lie_off v board g fixed is agrees);
      fit = subst (λ (xs : List Object). AreFit (length xs) block_units.units.items) (sym same.objects) lies.told.fit;
      joined = lies.told.joined;
      begun = lies.begun;
      ascending = subst IsStrictlyIncreasing (sym starts) code.ascending;
      reached_ascending = subst IsStrictlyIncreasing (sym is_reached) code.indirect_ascending;
      among = among v c reached block_units.starts.items code is_reached starts;
    }

-- they agree with the program
pub agree : (v : PlainView) (board : Board) (g : Graph) (c : Code) (block_units : BlockUnits) (t : Tables) → IsCode v c → HasObjects g t.graph → IsBlockUnits v board g c.blocks.items (length c.blocks.items) block_units → t.units.items ≡ block_units.units.items → t.starts.items ≡ block_units.starts.items → t.reached.items ≡ c.indirect.items → ((a : ℕ) → is_fixed_memory v board a ≡ is_in_some t.fixed.items a) → Agrees (program_of v board g) t
agree v board g c block_units t code same lies units starts reached fixed =
    let all = all_starts v board g c block_units lies in
    record {
      objects = sym (objects_same g t.graph same);
      held = λ a. ap (λ (xs : List Object). list_any (holds a) xs) (sym same.objects);
      fixed = fixed;
      blocks = λ a. sym (code.leaders a) ∙ ap (λ (xs : List ℕ). has xs a) (sym (starts ∙ all));
      reached = λ a. sym (code.indirect a) ∙ ap (λ (xs : List ℕ). has xs a) (sym reached);
      units = subst (λ (us : List Prepared). (k : ℕ) → k < length us → Reports (program_of v board g) (unit_in us k)) (sym units) lies.told.told;
    }
