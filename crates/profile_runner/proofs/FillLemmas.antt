-- Before the first transition nothing is counted.
use Rattle.std.proofs.Common.{◌≡◌, ◌∙◌, ℕ, zero, suc, ◌<◌, ◌≤◌, true, false, List, [], length, replicate, slice_index_or, refl, sym, ap, subst, arith}
use Rattle.std.proofs.lemmas.List.{length-replicate}
use Rattle.profile_runner.specs.Counts.{plain_rows, count_in, IsList, IsTable, arrivals_of, edges_of, accesses_of, switches_of}
use Rattle.list_checks.proofs.SumLemmas.{sum_zero}
use Rattle.profile_runner.specs.Tallies.{AreFrom, AreRows, plain_edges, edge_row}
use Rattle.profile_runner.specs.Tally.{IsTally, IsNew, leaves_of, enters_of}
use Rattle.profile_runner.specs.declared.counts.Edge.{Edge}
use Rattle.profile_runner.specs.declared.tally.Tally.{Tally}

pub there : {X : Type 0} (n k : ℕ) (x d : X) → k < n → slice_index_or (replicate n x) k d ≡ x
there zero k x d below = absurd (omega arith)
there (suc n) zero x d below = refl
there (suc n) (suc k) x d below = there n k x d (omega arith)

zeros_are : (xs : List ℕ) (n : ℕ) (f : ℕ → ℕ) → xs ≡ replicate n 0 → ((k : ℕ) → f k ≡ 0) → IsList xs n f
zeros_are xs n f is none =
    rw is
    (record { size_is = length-replicate n 0; each = λ k below. there n k 0 0 below ∙ sym (none k) })

tables_are : (rows : List (List ℕ)) (h w : ℕ) (f : ℕ → ℕ → ℕ) → rows ≡ replicate h (replicate w 0) → ((j k : ℕ) → f j k ≡ 0) → IsTable rows h w f
tables_are rows h w f is none =
    rw is
    (record {
      height_is = length-replicate h (replicate w 0);
      widths = λ j below. ap length (there h j (replicate w 0) [] below) ∙ length-replicate w 0;
      counts = λ j k row column.
          ap (λ (r : List ℕ). slice_index_or r k 0) (there h j (replicate w 0) [] row) ∙ (there w k 0 0 column ∙ sym (none j k));
    })

no_rows : (n a size most : ℕ) → a < n → AreFrom 0 a size most (edge_row (replicate n []) a)
no_rows n a size most below = subst (AreFrom 0 a size most) (sym (there n a [] [] below)) tt

rows_are : (rows : List (List Edge)) (n : ℕ) (f : ℕ → ℕ → ℕ) → rows ≡ replicate n [] → ((a b : ℕ) → f a b ≡ 0) → AreRows rows n 0 f
rows_are rows n f is none =
    rw is
    (record {
      height_is = length-replicate n [];
      from = λ a below. no_rows n a n 0 below;
      counts = λ a b below inside. ap (λ (r : List Edge). count_in r a b) (there n a [] [] below) ∙ sym (none a b);
    })

at_most_none : (sum : ℕ) → sum ≡ 0 → sum ≤ 0
at_most_none sum is = omega (arith, is)

pub nothing_is : (starts regions : List ℕ) (last size first : ℕ) (t : Tally) → IsNew (length starts) size last first t → first < length starts → IsTally starts regions last size [] t
nothing_is starts regions last size first t new below =
    record {
      steps_are = new.no_steps;
      arrivals_are = zeros_are t.arrivals.items (length starts) (arrivals_of starts []) new.no_arrivals (λ k. refl);
      edges_are = rows_are (plain_edges t.edges.items) (length starts) (edges_of starts []) new.no_edges (λ a b. refl);
      reads_are = tables_are (plain_rows t.reads.items) size (suc last) (accesses_of starts regions [] false) new.no_reads (λ j k. refl);
      writes_are = tables_are (plain_rows t.writes.items) size (suc last) (accesses_of starts regions [] true) new.no_writes (λ j k. refl);
      switches_are = tables_are (plain_rows t.changes.switches.items) (suc last) (suc last) (switches_of starts regions []) new.no_switches (λ j k. refl);
      leaves_are = zeros_are t.changes.leaves.items (suc last) (leaves_of starts regions last []) new.no_leaves (λ s. sum_zero (switches_of starts regions [] s) (suc last) (λ r below. refl));
      enters_are = zeros_are t.changes.enters.items (suc last) (enters_of starts regions last []) new.no_enters (λ r. sum_zero (λ s. switches_of starts regions [] s r) (suc last) (λ s below. refl));
      few_leaves = λ s inside. at_most_none (leaves_of starts regions last [] s) (sum_zero (switches_of starts regions [] s) (suc last) (λ r below. refl));
      few_enters = λ r inside. at_most_none (enters_of starts regions last [] r) (sum_zero (λ s. switches_of starts regions [] s r) (suc last) (λ s below. refl));
      region_is = new.no_region;
      region_fits = let none = new.no_region in omega (arith, none);
      block_fits = let is = new.first_block in omega (arith, is, below);
      block_is = λ i is. absurd (omega arith);
      units_are = λ i is. absurd (omega arith);
    }
