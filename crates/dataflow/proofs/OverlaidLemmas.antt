-- An object that does not escape has no word of data.
use Rattle.std.proofs.Common.{◌≡◌, inl, inr, ℕ, ◌==◌, false, List, [], ◌∷◌, refl, arith}
use Rattle.std.specs.List.{Contains, list_any}
use Rattle.std.proofs.lemmas.Bool.{cases_eq}
use Rattle.std.proofs.lemmas.Bool.Decides.{nat_tests}
use Rattle.object_graph.specs.declared.parts.DataWord.{DataWord}
use Rattle.dataflow.specs.Points.{word}
use Rattle.dataflow.specs.Overlaid.{word_means, WordsEscape}
use Rattle.dataflow.proofs.ListLemmas.{in_rest, in_first}

none_means : (o : ℕ) (words : List DataWord) → ((d : DataWord) → Contains words d → d.object ≡ o → ⊥) → list_any (word_means o) words ≡ false
none_means o [] none = refl
none_means o (d ∷ words) none =
    let rest = none_means o words (λ x there. none x (in_rest d words x there)) in
    elim (cases_eq d.object o) [
      | inl same ↦ absurd (none d (in_first d words) same)
      | inr differs ↦
          let test : (d.object == o) ≡ false = grind (arith, nat_tests, differs) in
          rw test rest
    ]

pub words_escape : WordsEscape
words_escape c g o kept_out = none_means o g.data_words.items (λ d there same. kept_out (word d there same))
