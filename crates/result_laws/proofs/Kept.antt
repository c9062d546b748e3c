-- Fixed memory, objects and code lie off the scratchpad, off the patch range, and off the bytes that a new file changes.
use Rattle.std.proofs.Common.{◌≡◌, ℕ, ◌+◌, ◌-◌, ◌*◌, ◌/◌, ◌<◌, true, List, subst, arith, ◌≤◌}
use Rattle.elf_reader.specs.File.{PlainView, view_in}
use Rattle.board_config.specs.declared.board.Board.{Board}
use Rattle.loaded_file.specs.Records.{symbol_at}
use Rattle.loaded_file.proofs.WordLemmas.{lies_from, lies_to}
use Rattle.loaded_file.specs.Ranges.{owner_of}
use Rattle.object_graph.specs.Sites.{is_fixed_memory}
use Rattle.object_graph.specs.declared.parts.Graph.{Graph}
use Rattle.object_graph.proofs.MovableLemmas.{movable_parts}
use Rattle.cell_values.specs.Objects.{object_of}
use Rattle.result_laws.specs.Home.{is_code_byte}
use Rattle.result_laws.specs.HomeLaws.{IsAccepted}
use Rattle.result_laws.proofs.HomeMemory.{fixed_parts}
use Rattle.cell_values.proofs.GraphObjects.{object_below, object_moves}
use Rattle.result_laws.proofs.Loaded.{IsKept, loaded_kept}
use Rattle.loaded_file.specs.Code.{is_code_word}
use Rattle.elf_reader.specs.Loaded.{section_at}
use Rattle.result_laws.proofs.Words.{code_range}

pub fixed_kept : (v : PlainView) (board : Board) (a : ℕ) → is_fixed_memory v board a ≡ true → IsKept v board a
fixed_kept v board a fixed =
    let parts = fixed_parts v board a fixed in
    record { spm = parts.spm; patch = parts.patch; unchanged = parts.unchanged }

module _ (file : List ℕ) (board : Board) (g : Graph) (accepted : IsAccepted file board g) where
  abbrev v : PlainView
  v = view_in file

  -- at their homes
  pub object_kept : (o i : ℕ) → i < (object_of g o).size → IsKept v board ((object_of g o).home + i)
  object_kept o i below =
      let home : ℕ = (object_of g o).home in
      let n : ℕ = (object_of g o).size in
      let moves =
      movable_parts v board home n (object_moves v board g o accepted.graph.objects (object_below g o i below)) in
      let s = symbol_at v moves.symbol in
      let t = owner_of v s in
      let range = moves.of.range in
      let from = lies_from t.addr t.size s.value s.size range.lies in
      let to = lies_to t.addr t.size s.value s.size range.lies in
      let value = moves.of.value in
      let size = moves.of.size in
      let place : t.addr + (home + i - t.addr) ≡ home + i = omega (arith, from, value) in
      subst (IsKept v board) place
      (loaded_kept file accepted.none s.section range.loaded (home + i - t.addr) (omega (arith, from, to, value, size, below)) board accepted.layout)

  -- a byte of a word of code lies so
  pub code_kept : (u a : ℕ) → is_code_word v u ≡ true → u ≤ a → a < u + 4 → IsKept v board a
  code_kept u a code above under =
      let found = code_range v u code in
      let s = section_at v found.0 in
      let from = found.1.from in
      let to = found.1.to in
      let place : s.addr + (a - s.addr) ≡ a = omega (arith, from, above) in
      subst (IsKept v board) place
      (loaded_kept file accepted.none found.0 found.1.loaded (a - s.addr) (omega (arith, from, to, above, under)) board accepted.layout)

  -- so each byte of code
  pub code_byte_kept : (a : ℕ) → is_code_byte v a ≡ true → IsKept v board a
  code_byte_kept a code = code_kept (a / 4 * 4) a code (omega arith) (omega arith)
