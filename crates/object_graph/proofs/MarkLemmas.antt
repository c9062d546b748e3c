-- Marks that are made in a vector.
use Rattle.std.proofs.Common.{◌≡◌, ◌∙◌, inl, inr, ℕ, Bool, false, ◌||◌, List, ◌++◌, take, drop, length, ap, subst, arith}
use Rattle.std.proofs.Math.ListN.{replicate}
use Rattle.std.proofs.Math.Seq.{take-append_seam}
use Rattle.std.proofs.lemmas.Bool.{cases_lt}
use Rattle.std.proofs.lemmas.List.{get_or-replicate, get_or_past, length-replicate}
use Rattle.loaded_file.specs.declared.byte_ranges.ByteRange.{ByteRange}
use Rattle.object_graph.specs.Disjoint.{rule_at, mark_at, AddsRule, AreMarks}

-- no place has a mark
blank : (n k : ℕ) → mark_at (replicate n false) k ≡ false
blank n k =
    elim (cases_lt k n) [
      | inl below ↦ get_or-replicate n k false false below
      | inr behind ↦
          let count = length-replicate n false in
          get_or_past (replicate n false) k false (omega (arith, count, behind))
    ]

pub none_of : (n : ℕ) (items : List Bool) → items ≡ replicate n false → (k : ℕ) → mark_at items k ≡ false
none_of n items is k = ap (λ (ms : List Bool). mark_at ms k) is ∙ blank n k

-- what a call leaves in a vector of which it was lent all
pub written : (n : ℕ) (new items : List Bool) → length new ≡ n → take n (new ++ drop (length new) items) ≡ new
written n new items len =
    subst (λ (m : ℕ). take m (new ++ drop (length new) items) ≡ new) len (take-append_seam new (drop (length new) items))

pub marks_written : (rule : ℕ → ℕ → Bool) (ranges : List ByteRange) (n : ℕ) (old new items : List Bool) → length new ≡ n → old ≡ items → ((k : ℕ) → mark_at items k ≡ false) → AddsRule rule ranges old new → AreMarks rule ranges (take n (new ++ drop (length new) items))
marks_written rule ranges n old new items len same none adds k below =
    ap (λ (ms : List Bool). mark_at ms k) (written n new items len)
    ∙ adds k below
    ∙ ap (λ (b : Bool). b || rule_at rule ranges k) (ap (λ (ms : List Bool). mark_at ms k) same ∙ none k)
