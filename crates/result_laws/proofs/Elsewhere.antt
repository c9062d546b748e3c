-- Off code, sites and words of data a result has the bytes of its file.
use Rattle.std.proofs.Common.{◌≡◌, ℕ, ◌<◌, true, false, List, length, sym, subst}
use Rattle.std.specs.Prelude.{All}
use Rattle.std.proofs.lemmas.Bool.{both_ways}
use Rattle.elf_reader.specs.Image.{image_of}
use Rattle.board_config.specs.declared.board.Board.{Board}
use Rattle.loaded_file.specs.Code.{is_code_word}
use Rattle.object_graph.specs.declared.parts.Graph.{Graph}
use Rattle.code_blocks.proofs.LeaderLemmas.{leader_is_code}
use Rattle.code_blocks.specs.Numbers.{start_at}
use Rattle.code_blocks.specs.declared.parts.Code.{Code}
use Rattle.result_laws.specs.Home.{is_code_byte}
use Rattle.result_laws.specs.Moved.{IsOffWord}
use Rattle.result_laws.proofs.Setting.{setting}
use Rattle.result_laws.proofs.Loaded.{IsKept}
use Rattle.result_laws.proofs.CodeUnits.{begins}
use Rattle.result_laws.proofs.CodeWords.{off_sites, in_word}
use Rattle.result_laws.proofs.Words.{off_or_in, code_even}
use Rattle.result_laws.specs.ChosenPlacement.{ChosenPlacement}
use Rattle.result_laws.specs.PlacedLaws.{IsPlacedResult}

module _ (file out : List ℕ) (board : Board) (g : Graph) (c : Code) (pl : ChosenPlacement) (result : IsPlacedResult file out board g c pl) where
  open (setting file out board g c pl result) use {v, w}

  -- no pad covers a byte that is none of code
  pads_off : (a : ℕ) → is_code_byte v a ≡ false → (b : ℕ) → b < length c.blocks.items → IsOffWord a (start_at c b)
  pads_off a none b below =
      let code = leader_is_code v (start_at c b) (begins file board g c result.accepted result.code b below) in
      off_or_in a (start_at c b)
      (λ from to.
      let here : is_code_byte v a ≡ true =
      subst (λ (n : ℕ). is_code_word v n ≡ true) (sym (in_word a (start_at c b) (code_even v (start_at c b) code) from to)) code in
      both_ways (is_code_byte v a) none here)

  pub data_left : (a : ℕ) → IsKept v board a → is_code_byte v a ≡ false → All (λ d. IsOffWord a d.at) g.data_words.items → image_of w.segments a ≡ image_of v.segments a
  data_left a kept none off =
      result.view.elsewhere a
      (record {
        patch = kept.patch;
        sites = off_sites file board g result.accepted a none;
        words = off;
        pads = λ b below served. pads_off a none b below;
        unchanged = kept.unchanged;
      })
