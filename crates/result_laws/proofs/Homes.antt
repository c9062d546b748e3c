-- Homes that objects have left stand still, with the bytes that the program has there at its start.
use Rattle.std.proofs.Common.{◌≡◌, ◌∙◌, ℕ, ◌+◌, ◌-◌, ◌<◌, ◌==◌, nat_lt, Bool, true, false, not, ◌&&◌, List, [], ◌∷◌, length, sym, ap, subst, arith, nat_le}
use Rattle.std.proofs.lemmas.Bool.{cond_both, eqb-true, both_ways, leb-true, ltb-true}
use Rattle.std.proofs.lemmas.Bool.Decides.{nat_tests}
use Rattle.list_checks.proofs.TestLemmas.{any_at, both}
use Rattle.rv32im.specs.Memory.{Memory}
use Rattle.elf_reader.specs.File.{PlainView, view_in}
use Rattle.elf_reader.specs.Image.{image_of}
use Rattle.board_config.specs.declared.board.Board.{Board}
use Rattle.loaded_file.specs.Ranges.{inside}
use Rattle.object_graph.specs.declared.parts.DataWord.{DataWord}
use Rattle.object_graph.specs.declared.parts.Graph.{Graph}
use Rattle.code_blocks.proofs.LeaderLemmas.{both_pass, right_passes}
use Rattle.cell_values.specs.Objects.{object_of}
use Rattle.cell_values.specs.declared.values.Cell.{Cell}
use Rattle.cell_values.specs.declared.values.Cell.TheVariants.{Part}
use Rattle.cell_values.specs.Origins.{ByLui}
use Rattle.cell_values.specs.Stands.{Places, Uppers, CellStands, moved_uppers}
use Rattle.cell_values.proofs.GraphObjects.{object_below}
use Rattle.placement_programme.specs.Plain.{PlainProgramme, PlainChoice}
use Rattle.relocator.specs.Placing.{placed}
use Rattle.result_laws.specs.ChosenJobs.{Images}
use Rattle.object_machine.specs.Paired.{at_start}
use Rattle.object_machine.specs.Start.{in_word, first_cell, where_memory}
use Rattle.simulation.specs.Unwritten.{IsOneByte, HomesStandStill}
use Rattle.result_laws.specs.Home.{is_code_byte}
use Rattle.result_laws.specs.HomeLaws.{source_start, unnamed_in}
use Rattle.result_laws.specs.OverlaySetup.{is_stub_byte, is_copied, is_number_byte, is_left_by, is_left}
use Rattle.result_laws.proofs.Setting.{choice_setting}
use Rattle.result_laws.proofs.Loaded.{refuted}
use Rattle.result_laws.proofs.Kept.{object_kept}
use Rattle.result_laws.specs.SetupLaws.{IsOverlay}
use Rattle.result_laws.specs.Plans.{HoldsHomes, HomesOfChoice}
use Rattle.result_laws.proofs.Copies.{inside_at}
use Rattle.result_laws.proofs.SetupParts.{off_control, memory_byte}
use Rattle.std.specs.Prelude.{All}
use Rattle.std.proofs.lemmas.List.Elements.{All-nil, All-cons, All-head, All-tail}
use Rattle.result_laws.specs.Moved.{IsMovedWord, IsOffWord}
use Rattle.result_laws.proofs.Words.{off_or_in}

-- ---- words of data

-- a byte of the result's image stands for the file's, or for a part of a word of data
pub words_stand : (v w : PlainView) (place : Places) (a : ℕ) (words : List DataWord) → All (IsMovedWord w place) words → (All (λ (d : DataWord). IsOffWord a d.at) words → image_of w.segments a ≡ image_of v.segments a) → CellStands place (moved_uppers place) ByLui (first_cell (image_of v.segments) words a) (image_of w.segments a)
words_stand v w place a [] all rest = rest (All-nil (λ (d : DataWord). IsOffWord a d.at))
words_stand v w place a (d ∷ words) all rest =
    cond_both (in_word a d) (Part false d.object d.offset (a - d.at)) (first_cell (image_of v.segments) words a)
    (λ c. CellStands place (moved_uppers place) ByLui c (image_of w.segments a))
    (λ here.
    let parts = both (nat_le d.at a) (nat_lt a (d.at + 4)) here in
    let from = leb-true d.at a parts.0 in
    let to = ltb-true a (d.at + 4) parts.1 in
    let same : d.at + (a - d.at) ≡ a = omega (arith, from) in
    ap (image_of w.segments) (sym same) ∙ All-head (IsMovedWord w place) d words all (a - d.at) (omega (arith, from, to)))
    (λ other.
    words_stand v w place a words (All-tail (IsMovedWord w place) d words all)
    (λ off.
    rest (All-cons (λ (e : DataWord). IsOffWord a e.at) d words
    (off_or_in a d.at (λ from to. both_ways (in_word a d) other (grind (arith, nat_tests, from, to)))) off)))

-- ---- cells at the start

-- a cell that is memory holds a byte, or a part of an address
first_byte : (up : Uppers) (image : Memory) (words : List DataWord) (a : ℕ) → IsOneByte up ByLui (first_cell image words a)
first_byte up image [] a = tt
first_byte up image (d ∷ words) a =
    cond_both (in_word a d) (Part false d.object d.offset (a - d.at)) (first_cell image words a) (λ c. IsOneByte up ByLui c) (λ here. tt)
    (λ other. first_byte up image words a)

is_memory : (P : Cell → Type 0) (i n : ℕ) (cell : Cell) → i < n → P cell → P (where_memory (nat_lt i n) cell)
is_memory P i n cell below holds =
    let within : nat_lt i n ≡ true = grind (arith, nat_tests, below) in
    subst (λ (m : Bool). P (where_memory m cell)) (sym within) holds

pub known_byte : (file : List ℕ) (board : Board) (g : Graph) (input : List ℕ) (up : Uppers) (o i : ℕ) → i < (object_of g o).size → IsOneByte up ByLui ((source_start file board g input).cells o i)
known_byte file board g input up o i below =
    let a : ℕ = (object_of g o).home + i in
    let image : Memory = image_of (view_in file).segments in
    is_memory (λ c. IsOneByte up ByLui c) i (object_of g o).size (first_cell image g.data_words.items a) below (first_byte up image g.data_words.items a)

-- ---- homes

module _ (file out : List ℕ) (board : Board) (g : Graph) (regions : ℕ) (q : PlainProgramme) (c : PlainChoice) (images : Images) (mem : Memory) (is : IsOverlay file board g regions q c images) (input : List ℕ) (r : ℕ) where
  open (choice_setting file board g q c images mem) use {v, l, slots}

  abbrev place : Places
  place = placed g slots r

  left_so : (o i : ℕ) → (object_of g o).writable ≡ false → i < (object_of g o).size → (place o ≡ (object_of g o).home → ⊥) → is_left g slots r ((object_of g o).home + i) ≡ true
  left_so o i unwritable below away =
      let home : ℕ = (object_of g o).home in
      let within = inside home (object_of g o).size (home + i) in
      let differs = refuted (place o == home) (λ same. away (eqb-true (place o) home same)) in
      any_at (is_left_by g slots r (home + i)) (length g.objects.items) o (object_below g o i below)
      (both_pass (not (object_of g o).writable) (not (place o == home) && within) (ap not unwritable)
      (both_pass (not (place o == home)) within (ap not differs) (inside_at home (object_of g o).size i below)))

  left_stands : (a : ℕ) → is_left g slots r a ≡ true → l.is_still r a ≡ true
  left_stands a left =
      right_passes (is_code_byte v a) _
      (right_passes (is_stub_byte board a) _
      (right_passes (is_number_byte board a) _ (right_passes (is_copied slots images r a) (is_left g slots r a) left)))

  module _ (holds : HoldsHomes v (view_in out) g place mem) where
    home_byte : (o i : ℕ) → (object_of g o).writable ≡ false → i < (object_of g o).size → CellStands place (moved_uppers place) ByLui ((source_start file board g input).cells o i) (l.still r ((object_of g o).home + i))
    home_byte o i unwritable below =
        let a : ℕ = (object_of g o).home + i in
        let kept = object_kept file board g is.accepted o i below in
        let byte =
        memory_byte file board g regions q c images mem is r a (off_control file board g regions q c images mem is a kept.patch) kept.spm
        ∙ holds.same o i unwritable below in
        let cell : Cell = first_cell (image_of v.segments) g.data_words.items a in
        is_memory (λ x. CellStands place (moved_uppers place) ByLui x (l.still r a)) i (object_of g o).size cell below
        (subst (λ (b : ℕ). CellStands place (moved_uppers place) ByLui cell b) (sym byte)
        (words_stand v (view_in out) place a g.data_words.items holds.words (λ off. holds.bytes o i unwritable below off)))

    pub homes_stand : HomesStandStill (unnamed_in file board g) l r (source_start file board g input) at_start
    homes_stand =
        record {
          is_still = λ o i unwritable below away. left_stands ((object_of g o).home + i) (left_so o i unwritable below away);
          bytes = λ o i unwritable below away. home_byte o i unwritable below;
        }

pub homes_of_choice : HomesOfChoice
homes_of_choice file out board g regions q c images mem input r is holds = homes_stand file out board g regions q c images mem is input r holds
