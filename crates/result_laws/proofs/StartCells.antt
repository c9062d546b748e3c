-- What the cells and registers of a result hold behind its start stub, by what its image and the jobs leave.
use Rattle.std.proofs.Common.{◌≡◌, ℕ, ◌+◌, ◌<◌, ◌==◌, nat_lt, Bool, true, false, List, refl, sym, subst, arith}
use Rattle.std.proofs.lemmas.Bool.{cond_both, both_ways}
use Rattle.std.proofs.lemmas.Bool.Decides.{nat_tests}
use Rattle.rv32im.specs.Memory.{Memory, zeros, put}
use Rattle.rv32im.specs.Acts.{register}
use Rattle.elf_reader.specs.File.{PlainView, view_in}
use Rattle.elf_reader.specs.Image.{image_of}
use Rattle.board_config.specs.declared.board.Board.{Board}
use Rattle.patch_code.specs.Start.{cleared}
use Rattle.object_graph.specs.Sites.{in_range}
use Rattle.object_graph.specs.declared.parts.Graph.{Graph}
use Rattle.cell_values.specs.Objects.{Objects, object_of}
use Rattle.cell_values.specs.declared.values.Val.TheVariants.{Int}
use Rattle.cell_values.specs.declared.values.Cell.{Cell}
use Rattle.cell_values.specs.Origins.{ByLui}
use Rattle.cell_values.specs.Stands.{Places, Stands, CellStands, moved_uppers}
use Rattle.object_machine.specs.State.{value}
use Rattle.object_machine.specs.Start.{first_cell, where_memory}
use Rattle.result_laws.specs.Home.{is_code_byte}
use Rattle.result_laws.specs.HomeLaws.{IsAccepted, unnamed_in}
use Rattle.result_laws.proofs.HomeSound.{sound_home}
use Rattle.result_laws.proofs.Loaded.{IsKept, refuted}
use Rattle.result_laws.proofs.Kept.{fixed_kept, object_kept}

-- ---- registers

zero_value : (k : ℕ) → value (λ _. Int 0) k ≡ Int 0
zero_value k = cond_both (k == 0) (Int 0) (Int 0) (λ x. x ≡ Int 0) (λ is. refl) (λ other. refl)

zero_register : (k : ℕ) → register (cleared zeros) k ≡ 0
unfolding put
zero_register k = grind (arith, nat_tests)

pub register_stands : (os : Objects) (place : Places) (k : ℕ) → Stands os place (moved_uppers place) ByLui (value (λ _. Int 0) k) (register (cleared zeros) k)
register_stands os place k =
    subst (λ x. Stands os place (moved_uppers place) ByLui x (register (cleared zeros) k)) (sym (zero_value k)) (zero_register k)

-- ---- cells

in_memory : (place : Places) (memory : Bool) (c : Cell) (b : ℕ) → memory ≡ true → CellStands place (moved_uppers place) ByLui c b → CellStands place (moved_uppers place) ByLui (where_memory memory c) b
in_memory place memory c b is stands =
    subst (λ (m : Bool). CellStands place (moved_uppers place) ByLui (where_memory m c) b) (sym is) stands

is_below : (i n : ℕ) → i < n → nat_lt i n ≡ true
is_below i n below = grind (arith, nat_tests, below)

-- Where the bytes of the result's image stand for the file's cells, so do those of the memory that the jobs leave, in fixed
-- memory and in objects
module _ (file : List ℕ) (board : Board) (g : Graph) (accepted : IsAccepted file board g) (place : Places) (image left : Memory) where
  abbrev v : PlainView
  v = view_in file

  abbrev cell_at : ℕ → Cell
  cell_at a = first_cell (image_of v.segments) g.data_words.items a

  abbrev CellsStand : Type 0
  CellsStand = (a : ℕ) → IsKept v board a → is_code_byte v a ≡ false → CellStands place (moved_uppers place) ByLui (cell_at a) (image a)

  pub fixed_stands : ((a : ℕ) → in_range board.spm a ≡ false → left a ≡ image a) → CellsStand → (a : ℕ) → (unnamed_in file board g).is_fixed a ≡ true → CellStands place (moved_uppers place) ByLui (where_memory ((unnamed_in file board g).is_fixed a) (cell_at a)) (left a)
  fixed_stands off cells a fixed =
      let p = unnamed_in file board g in
      let kept = fixed_kept v board a fixed in
      let no_code : is_code_byte v a ≡ false =
      refuted (is_code_byte v a) (λ code. both_ways _ ((sound_home file board g accepted).still_off_fixed a code) fixed) in
      subst (λ (b : ℕ). CellStands place (moved_uppers place) ByLui (where_memory (p.is_fixed a) (cell_at a)) b) (sym (off a kept.spm))
      (in_memory place (p.is_fixed a) (cell_at a) (image a) fixed (cells a kept no_code))

  pub object_stands : ((o i : ℕ) → i < (object_of g o).size → left (place o + i) ≡ image ((object_of g o).home + i)) → CellsStand → (o i : ℕ) → i < (object_of g o).size → CellStands place (moved_uppers place) ByLui (where_memory (nat_lt i (object_of g o).size) (cell_at ((object_of g o).home + i))) (left (place o + i))
  object_stands copied cells o i below =
      let a : ℕ = (object_of g o).home + i in
      let kept = object_kept file board g accepted o i below in
      let no_code = (sound_home file board g accepted).still_off_objects o i below in
      subst (λ (b : ℕ). CellStands place (moved_uppers place) ByLui (where_memory (nat_lt i (object_of g o).size) (cell_at a)) b) (sym (copied o i below))
      (in_memory place (nat_lt i (object_of g o).size) (cell_at a) (image a) (is_below i (object_of g o).size below) (cells a kept no_code))
