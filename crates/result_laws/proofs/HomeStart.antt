-- Both machines start alike: words of data hold the addresses of homes, and other bytes are the file's.
use Rattle.std.proofs.Common.{◌≡◌, ◌∙◌, ℕ, ◌+◌, ◌-◌, ◌<◌, ◌≤◌, ◌==◌, nat_lt, nat_le, Bool, true, false, ◌&&◌, List, [], ◌∷◌, length, slice_index_or, refl, sym, ap, subst, arith}
use Rattle.std.specs.List.{All}
use Rattle.std.proofs.lemmas.Bool.{cond_both, eqb-true, ltb-true}
use Rattle.std.proofs.lemmas.Bool.Decides.{nat_tests}
use Rattle.std.proofs.lemmas.List.Elements.{All-head, All-tail}
use Rattle.std.proofs.lemmas.List.Folds.{list_any_at}
use Rattle.rv32im.specs.Words.{plus, word_of, byte_of}
use Rattle.rv32im.specs.Memory.{Memory, zeros, word_at}
use Rattle.rv32im.specs.Acts.{register}
use Rattle.list_checks.proofs.TestLemmas.{both, any_found}
use Rattle.elf_reader.specs.File.{PlainView, view_in}
use Rattle.elf_reader.specs.Image.{image_of}
use Rattle.elf_reader.specs.Loadable.{AreBytes}
use Rattle.elf_reader.specs.Loaded.{section_at}
use Rattle.board_config.specs.Board.{mapped_ranges}
use Rattle.board_config.specs.declared.board.Board.{Board}
use Rattle.flat_machine.proofs.Words.{start_words}
use Rattle.loaded_file.specs.Code.{image_word}
use Rattle.loaded_file.specs.Records.{reloc_at}
use Rattle.loaded_file.proofs.WordLemmas.{lies_to}
use Rattle.object_graph.specs.Rewritable.{displacement, is_rewritable_word}
use Rattle.object_graph.specs.Fixed.{leads_to}
use Rattle.object_graph.specs.Graphs.{gives_word, same_word}
use Rattle.object_graph.specs.Laws.{MeansBy, lead}
use Rattle.object_graph.specs.declared.parts.Object.{Object}
use Rattle.object_graph.specs.declared.parts.DataWord.{DataWord}
use Rattle.object_graph.specs.declared.parts.Graph.{Graph}
use Rattle.object_graph.proofs.LeadLemmas.{data_words_lead}
use Rattle.object_graph.proofs.RewritableLemmas.{rewritable_word}
use Rattle.code_blocks.specs.Leaders.{is_leader}
use Rattle.code_blocks.proofs.LeaderLemmas.{both_pass, leader_is_code}
use Rattle.code_blocks.proofs.EntryLemmas.{entry_leads}
use Rattle.cell_values.specs.Laws.{HoldsWord}
use Rattle.cell_values.specs.Objects.{object_of, objects_of}
use Rattle.cell_values.specs.declared.values.Val.TheVariants.{Int}
use Rattle.cell_values.specs.declared.values.Cell.{Cell}
use Rattle.cell_values.specs.declared.values.Cell.TheVariants.{Part}
use Rattle.cell_values.specs.Origins.{ByLui}
use Rattle.cell_values.specs.Stands.{Places, Stands, CellStands, CellHoldsWord, address_word, kept_uppers}
use Rattle.cell_values.proofs.Stores.{first_cells as each_of_four}
use Rattle.object_machine.specs.State.{value}
use Rattle.object_machine.specs.Start.{in_word, first_cell, where_memory}
use Rattle.object_machine.specs.Paired.{at_start}
use Rattle.simulation.specs.Relation.{Alike}
use Rattle.simulation.specs.Rules.{all_live}
use Rattle.simulation.specs.Laws.{IsUnit, OfBlock}
use Rattle.result_laws.specs.HomeLaws.{IsAccepted, program_in, setup_in, source_start, file_start, StartIsAlike}
use Rattle.result_laws.proofs.HomeNumbers.{same_number, plain_sum}
use Rattle.cell_values.proofs.GraphObjects.{object_moves, object_extends}
use Rattle.result_laws.proofs.HomeMemory.{section_ends}
use Rattle.result_laws.proofs.Words.{code_below}
use Rattle.result_laws.proofs.Sites.{leads_means, object_same}
use Rattle.result_laws.proofs.HomeSound.{loadable}

-- ---- the bytes of a word

byte_0 : (a b c d : ℕ) → a < 256 → a ≡ byte_of (word_of a b c d) 0
byte_0 a b c d small = omega arith

byte_1 : (a b c d : ℕ) → a < 256 → b < 256 → b ≡ byte_of (word_of a b c d) 1
byte_1 a b c d first second = omega arith

byte_2 : (a b c d : ℕ) → a < 256 → b < 256 → c < 256 → c ≡ byte_of (word_of a b c d) 2
byte_2 a b c d first second third = omega arith

byte_3 : (a b c d : ℕ) → a < 256 → b < 256 → c < 256 → d < 256 → d ≡ byte_of (word_of a b c d) 3
byte_3 a b c d first second third fourth = omega arith

word_bytes : (m : Memory) (at : ℕ) → at + 4 ≤ 4294967296 → ((a : ℕ) → m a < 256) → (k : ℕ) → k < 4 → (b : ℕ) → b ≡ at + k → m b ≡ byte_of (word_at m at) k
word_bytes m at below small =
    each_of_four (λ k. (b : ℕ) → b ≡ at + k → m b ≡ byte_of (word_at m at) k)
    (λ b is. ap m (omega (arith, is)) ∙ byte_0 (m at) (m (plus at 1)) (m (plus at 2)) (m (plus at 3)) (small at))
    (λ b is.
    ap m (omega (arith, is, below)) ∙ byte_1 (m at) (m (plus at 1)) (m (plus at 2)) (m (plus at 3)) (small at) (small (plus at 1)))
    (λ b is.
    ap m (omega (arith, is, below)) ∙ byte_2 (m at) (m (plus at 1)) (m (plus at 2)) (m (plus at 3)) (small at) (small (plus at 1)) (small (plus at 2)))
    (λ b is.
    ap m (omega (arith, is, below)) ∙ byte_3 (m at) (m (plus at 1)) (m (plus at 2)) (m (plus at 3)) (small at) (small (plus at 1)) (small (plus at 2)) (small (plus at 3)))

-- ---- cells

-- a word of data holds the address that it means, while objects stand at these places
pub record HoldsAddress (image : Memory) (place : Places) (d : DataWord) : Type 0 where
  pub bytes : (a : ℕ) → d.at ≤ a → a < d.at + 4 → image a ≡ byte_of (address_word place d.object d.offset) (a - d.at)
  pub small : d.offset < 4294967296

-- a cell stands for a byte, and holds a word
pub record StandsFor (place : Places) (c : Cell) (b : ℕ) : Type 0 where
  pub stands : CellStands place (kept_uppers place) ByLui c b
  pub holds : CellHoldsWord c

cell_stands : (image : Memory) (place : Places) (words : List DataWord) → ((a : ℕ) → image a < 256) → All (HoldsAddress image place) words → (a : ℕ) → StandsFor place (first_cell image words a) (image a)
cell_stands image place [] small each a = record { stands = refl; holds = small a }
cell_stands image place (d ∷ words) small each a =
    cond_both (in_word a d) (Part false d.object d.offset (a - d.at)) (first_cell image words a) (λ c. StandsFor place c (image a))
    (λ here.
    let held = All-head (HoldsAddress image place) d words each in
    let parts = both (nat_le d.at a) (nat_lt a (d.at + 4)) here in
    record {
      stands = held.bytes a (grind (arith, nat_tests, here)) (ltb-true a (d.at + 4) parts.1);
      holds = held.small;
    })
    (λ other. cell_stands image place words small (All-tail (HoldsAddress image place) d words each) a)

in_memory : (place : Places) (memory : Bool) (c : Cell) (b : ℕ) → memory ≡ true → StandsFor place c b → StandsFor place (where_memory memory c) b
in_memory place memory c b is for =
    subst (λ (m : Bool). StandsFor place (where_memory m c) b) (sym is) for

-- ---- words of data

pub word_itself : (d : DataWord) → same_word d d ≡ true
word_itself d =
    both_pass ((d.at == d.at) && (d.object == d.object)) (d.offset == d.offset)
    (both_pass (d.at == d.at) (d.object == d.object) (same_number d.at) (same_number d.object)) (same_number d.offset)

-- relocation `j` gives a word of data
pub record GivesWord (v : PlainView) (g : Graph) (d : DataWord) (j : ℕ) : Type 0 where
  pub below : d.object < length g.objects.items
  pub at : (reloc_at v j).at ≡ d.at
  pub means : MeansBy v 1 (object_of g d.object).home (object_of g d.object).size j
  pub behind : displacement v (object_of g d.object).home (reloc_at v j) ≡ d.offset

module _ (file : List ℕ) (board : Board) (g : Graph) (accepted : IsAccepted file board g) where
  abbrev v : PlainView
  v = view_in file

  abbrev place : Places
  place = (objects_of g).home

  gives_parts : (d : DataWord) (j : ℕ) → d.object < length g.objects.items → j < length v.relocs → gives_word v g.objects.items d j ≡ true → GivesWord v g d j
  gives_parts d j below inside gives =
      let r = reloc_at v j in
      let moved =
      subst (λ (x : Object). (r.at == d.at) && leads_to v x.home x.size j && is_rewritable_word v j r && (displacement v x.home r == d.offset) ≡ true)
      (object_same g d.object below) gives in
      let home : ℕ = (object_of g d.object).home in
      let n : ℕ = (object_of g d.object).size in
      let three = both ((r.at == d.at) && leads_to v home n j && is_rewritable_word v j r) (displacement v home r == d.offset) moved in
      let two = both ((r.at == d.at) && leads_to v home n j) (is_rewritable_word v j r) three.0 in
      let one = both (r.at == d.at) (leads_to v home n j) two.0 in
      record {
        below = below;
        at = eqb-true r.at d.at one.0;
        means = leads_means v 1 home n j inside (word_kind j two.1) one.1;
        behind = eqb-true (displacement v home r) d.offset three.1;
      }
    where
      word_kind : (j : ℕ) → is_rewritable_word v j (reloc_at v j) ≡ true → (reloc_at v j).kind ≡ 1
      word_kind j sound = grind (arith, nat_tests, sound)

  pub word_given : (d : DataWord) (k : ℕ) (e : DataWord) → k < length g.data_words.items → slice_index_or g.data_words.items k e ≡ d → (j : ℕ) × GivesWord v g d j
  word_given d k e inside is =
      let here : same_word d (slice_index_or g.data_words.items k e) ≡ true = rw is (word_itself d) in
      let listed = list_any_at (same_word d) g.data_words.items k e inside here in
      let given = sym (accepted.graph.data_words.exact d) ∙ listed in
      let parts = both (nat_lt d.object (length g.objects.items)) _ given in
      let found = any_found (gives_word v g.objects.items d) (length v.relocs) parts.1 in
      (found.0, gives_parts d found.0 (ltb-true d.object (length g.objects.items) parts.0) found.1 found.2)

  image_small : (a : ℕ) → image_of v.segments a < 256
  image_small a = (start_words 0 v.segments (mapped_ranges board) [] (omega arith) (loadable file board g accepted) (λ k e below. absurd (omega (arith, below)))).hart.mem a

  word_held : (d : DataWord) (j : ℕ) → GivesWord v g d j → HoldsAddress (image_of v.segments) place d
  word_held d j gives =
      let home : ℕ = (object_of g d.object).home in
      let n : ℕ = (object_of g d.object).size in
      let at = gives.at in
      let far = gives.behind in
      let moves = object_moves v board g d.object accepted.graph.objects gives.below in
      let ends = (object_extends v board g d.object accepted.graph.objects).ends in
      let leads = data_words_lead v board home n j moves gives.means in
      let whole : image_word v d.at ≡ address_word place d.object d.offset =
      subst (λ (a : ℕ). image_word v a ≡ lead v home j) at leads.1
      ∙ plain_sum home n d.offset (displacement v home (reloc_at v j)) far leads.0 ends in
      let held = (rewritable_word v board home n j moves gives.means).holds in
      let last = section_ends v held.0 (loadable file board g accepted) held.1.loaded in
      let to = lies_to (section_at v held.0).addr (section_at v held.0).size (reloc_at v j).at 4 held.1.lies in
      record {
        bytes = λ a from before.
            word_bytes (image_of v.segments) d.at (omega (arith, at, last, to)) image_small (a - d.at) (omega (arith, from, before)) a (omega (arith, from))
            ∙ ap (λ (w : ℕ). byte_of w (a - d.at)) whole;
        small = omega (arith, far);
      }

  words_held : All (HoldsAddress (image_of v.segments) place) g.data_words.items
  words_held k e inside =
      let given = word_given (slice_index_or g.data_words.items k e) k e inside refl in
      word_held (slice_index_or g.data_words.items k e) given.0 given.1

  first_stands : (a : ℕ) → StandsFor place (first_cell (image_of v.segments) g.data_words.items a) (image_of v.segments a)
  first_stands a = cell_stands (image_of v.segments) place g.data_words.items image_small words_held a

  -- ---- the entry

  entry_begins : is_leader v v.entry ≡ true
  entry_begins = entry_leads v accepted.code

  -- ---- registers

  zero_value : (k : ℕ) → value (λ _. Int 0) k ≡ Int 0
  zero_value k = cond_both (k == 0) (Int 0) (Int 0) (λ x. x ≡ Int 0) (λ is. refl) (λ other. refl)

  zero_register : (k : ℕ) → register zeros k ≡ 0
  zero_register k = cond_both (k == 0) 0 0 (λ (n : ℕ). n ≡ 0) (λ is. refl) (λ other. refl)

  starts_as : (k : ℕ) → Stands (objects_of g) place (kept_uppers place) ByLui (value (λ _. Int 0) k) (register zeros k)
  starts_as k =
      subst (λ x. Stands (objects_of g) place (kept_uppers place) ByLui x (register zeros k)) (sym (zero_value k)) (zero_register k)

  starts_as_word : (k : ℕ) → HoldsWord (value (λ _. Int 0) k)
  starts_as_word k = subst HoldsWord (sym (zero_value k)) (omega arith)

  cell_at_start : (o i : ℕ) → i < (object_of g o).size → StandsFor place (where_memory (nat_lt i (object_of g o).size) (first_cell (image_of v.segments) g.data_words.items ((object_of g o).home + i))) (image_of v.segments ((object_of g o).home + i))
  cell_at_start o i below =
      in_memory place (nat_lt i (object_of g o).size) (first_cell (image_of v.segments) g.data_words.items ((object_of g o).home + i))
      (image_of v.segments ((object_of g o).home + i)) (grind (arith, nat_tests, below)) (first_stands ((object_of g o).home + i))

  pub alike_at_start : (input : List ℕ) → AreBytes input → Alike (program_in file board g) (setup_in file board g) all_live 0 v.entry (source_start file board g input) at_start (file_start file board input)
  alike_at_start input bytes =
      let p = program_in file board g in
      record {
        regs = λ k lives. starts_as k;
        values = λ k lives. starts_as_word k;
        fixed = λ a fixed. (in_memory place (p.is_fixed a) (first_cell (image_of v.segments) g.data_words.items a) (image_of v.segments a) fixed (first_stands a)).stands;
        cells = λ o i below. (cell_at_start o i below).stands;
        fixed_words = λ a fixed. (in_memory place (p.is_fixed a) (first_cell (image_of v.segments) g.data_words.items a) (image_of v.segments a) fixed (first_stands a)).holds;
        cell_words = λ o i below. (cell_at_start o i below).holds;
        still = λ a is. refl;
        map = refl;
        going = refl;
        source_going = refl;
        words = let below = code_below v v.entry (loadable file board g accepted) (leader_is_code v v.entry entry_begins) in start_words v.entry v.segments (mapped_ranges board) input (omega (arith, below)) (loadable file board g accepted) bytes;
        input = refl;
        output = refl;
      }

  pub entry_unit : IsUnit (program_in file board g) v.entry
  entry_unit = OfBlock v.entry entry_begins

pub start_is_alike : StartIsAlike
start_is_alike file board g input accepted bytes =
    (alike_at_start file board g accepted input bytes, entry_unit file board g accepted)
