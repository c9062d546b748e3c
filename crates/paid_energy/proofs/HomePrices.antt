-- Homes lie in main memory: code, fixed memory, and objects that have left none.
use Rattle.std.proofs.Common.{◌≡◌, ℕ, ◌+◌, ◌*◌, ◌<◌, Bool, true, false, if◌then◌else◌, List, [], ◌∷◌, refl, arith}
use Rattle.std.proofs.lemmas.List.Elements.{All-nil, All-cons}
use Rattle.elf_reader.specs.File.{PlainView, view_in}
use Rattle.loaded_file.specs.Code.{is_code_word}
use Rattle.board_config.specs.declared.board.Board.{Board}
use Rattle.object_graph.specs.Sites.{is_fixed_memory}
use Rattle.object_graph.specs.declared.parts.Graph.{Graph}
use Rattle.code_blocks.specs.Leaders.{is_call_pair}
use Rattle.code_blocks.proofs.PairLemmas.{pair_is_code}
use Rattle.cell_values.specs.Objects.{object_of}
use Rattle.result_laws.specs.HomeLaws.{IsAccepted, program_in}
use Rattle.result_laws.proofs.Kept.{fixed_kept, object_kept, code_kept}
use Rattle.paid_energy.specs.Costs.{is_fast}
use Rattle.paid_energy.proofs.CostLemmas.{fetches_cost}
use Rattle.paid_energy.specs.HomeWalks.{home_fetched}
use Rattle.paid_energy.proofs.Fetching.{slow_fetches}

abbrev pub IsSlow : Board → ℕ → Type 0
IsSlow board a = is_fast board a ≡ false

module _ (file : List ℕ) (board : Board) (g : Graph) (accepted : IsAccepted file board g) where
  abbrev v : PlainView
  v = view_in file

  pub code_slow : (u : ℕ) → is_code_word v u ≡ true → IsSlow board u
  code_slow u code = (code_kept file board g accepted u u code (omega arith) (omega arith)).spm

  pub fixed_slow : (a : ℕ) → is_fixed_memory v board a ≡ true → IsSlow board a
  fixed_slow a fixed = (fixed_kept v board a fixed).spm

  pub object_slow : (o d : ℕ) → d < (object_of g o).size → IsSlow board ((object_of g o).home + d)
  object_slow o d below = (object_kept file board g accepted o d below).spm

  -- ---- the words of a unit

  abbrev pub unit_words : ℕ → ℕ
  unit_words u = if is_call_pair v u then 2 else 1

  words_by : (u : ℕ) (pair : Bool) → is_call_pair v u ≡ pair → is_code_word v u ≡ true → fetches_cost board (if pair then u ∷ (u + 4) ∷ [] else u ∷ []) ≡ (if pair then 2 else 1) * board.prices.main_fetch
  words_by u true is code =
      slow_fetches board (u ∷ (u + 4) ∷ [])
      (All-cons (IsSlow board) u ((u + 4) ∷ []) (code_slow u code)
      (All-cons (IsSlow board) (u + 4) [] (code_slow (u + 4) (pair_is_code v u is).1) (All-nil (IsSlow board))))
  words_by u false is code = slow_fetches board (u ∷ []) (All-cons (IsSlow board) u [] (code_slow u code) (All-nil (IsSlow board)))

  -- they are fetched from main memory
  pub words_cost : (u : ℕ) → is_code_word v u ≡ true → fetches_cost board (home_fetched (program_in file board g) u) ≡ unit_words u * board.prices.main_fetch
  words_cost u code = words_by u (is_call_pair v u) refl code
