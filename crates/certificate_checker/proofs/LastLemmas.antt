-- The dual node that was read last: a text that says it again, and credits that follow a mark.
use Rattle.std.proofs.Common.{◌≡◌, ◌∙◌, ◌⊎◌, inl, inr, ℕ, zero, suc, ◌+◌, ◌-◌, ◌*◌, ◌<◌, ◌≤◌, List, [], ◌∷◌, ◌++◌, length, take, drop, nat_eq, true, false, slice_set, replicate, Option, Some, None, MatchOption, Ok, refl, sym, ap, subst, arith}
use Rattle.std.proofs.lemmas.Bool.{cases_lt}
use Rattle.std.proofs.lemmas.Bool.Decides.{nat_tests, Decides-eqb}
use Rattle.std.proofs.lemmas.List.{get_or-replicate, get_or_past, length-append, length-replicate, take-append-drop}
use Rattle.std.proofs.lemmas.Slice.Eq.{slice_eq-Decides}
use Rattle.std.proofs.Math.Seq.{take-append_seam}
use Rattle.std.specs.Borrow.{Bor}
use Rattle.std.specs.Cmp.Lexicographic.{pointwise}
use Rattle.std.specs.List.{flat_map}
use Rattle.placement_programme.specs.Plain.{PlainSide}
use Rattle.placement_programme.specs.Programme.{gain_at}
use Rattle.certificate_checker.specs.Nodes.{dual}
use Rattle.certificate_checker.specs.Prices.{unpriced, price_if, priced_at, credit, credits}
use Rattle.certificate_checker.specs.Fixings.{fixing_of}
use Rattle.certificate_checker.specs.Digits.{number_of}
use Rattle.certificate_checker.specs.Reading.{number_in, entries_at, dual_at, tree_at}
use Rattle.certificate_checker.specs.Spelling.{entry_text, tree_text, IsDualInRange}
use Rattle.certificate_checker.specs.LastDuals.{IsKeptText, IsBehindSame}
use Rattle.certificate_checker.specs.declared.fields.Part.TheVariants.{Node}
use Rattle.certificate_checker.specs.declared.fixings.Fixing.{Fixing}
use Rattle.certificate_checker.specs.declared.prices.Priced.{Priced}
use Rattle.certificate_checker.proofs.NumberLaws.{IsBytes}
use Rattle.certificate_checker.proofs.StreamLemmas.{dual_read}
use Rattle.certificate_checker.proofs.TreeLaws.{tree_takes, tree_again}
use Rattle.certificate_checker.proofs.TallyLemmas.{sum_set}

-- prices that are all 0
pub none_priced : (n stamp : ℕ) (j : ℕ) → priced_at stamp (replicate n record { stamp = stamp; price = 0 }) j ≡ 0
none_priced n stamp j =
    let p : Priced = record { stamp = stamp; price = 0 } in
    elim (cases_lt j n) [
      | inl inside ↦ subst (λ q. price_if stamp q ≡ 0) (sym (get_or-replicate n j p unpriced inside)) (grind (arith, nat_tests))
      | inr past ↦
          let long = length-replicate {A = Priced} n p in
          subst (λ q. price_if stamp q ≡ 0) (sym (get_or_past (replicate n p) j unpriced (omega (arith, past, long)))) (grind (arith, nat_tests))
    ]

-- the credits with another mark, by what the variable credits with it and without
pub credit_moved : (s : PlainSide) (marks : List Fixing) (scale : ℕ) (price : ℕ → ℕ) (j : ℕ) (old mark : Fixing) (before gain given more less : ℕ) → j < length s.vars → length s.vars ≤ length marks → given ≡ price j → gain ≡ scale * gain_at s.vars j → old ≡ fixing_of marks j → more ≡ credit mark gain given → less ≡ credit old gain given → before ≡ credits s marks scale price → before + more ≡ credits s (slice_set marks j mark) scale price + less
credit_moved s marks scale price j old mark before gain given more less below marked is_price is_gain is_old is_more is_less is =
    let sum = sum_set (λ m k. credit m (scale * gain_at s.vars k) (price k)) marks j mark (length s.vars) below (omega (arith, below, marked)) in
    let other = ap (λ g. credit mark g given) is_gain ∙ ap (credit mark (scale * gain_at s.vars j)) is_price in
    let same = ap (λ m. credit m gain given) is_old ∙ (ap (λ g. credit (fixing_of marks j) g given) is_gain ∙ ap (credit (fixing_of marks j) (scale * gain_at s.vars j)) is_price) in
    omega (arith, sum, other, same, is_more, is_less, is)

-- a dual node's text behind its tag
abbrev dual_text : ℕ → List (ℕ × ℕ) → List ℕ
dual_text scale ms = number_of scale ++ (number_of (length ms) ++ flat_map entry_text ms)

behind : (a b : ℕ) (xs ys : List ℕ) → a ∷ xs ≡ b ∷ ys → xs ≡ ys
behind a b xs ys same = cc

in_front : (b : ℕ) (bytes : List ℕ) → b < 256 → IsBytes bytes → IsBytes (b ∷ bytes)
in_front b bytes small all zero = small
in_front b bytes small all (suc i) = all i

-- a dual node that is read, and its text
pub record ReadText (total : ℕ) (bytes rest : List ℕ) (scale : ℕ) (ms : List (ℕ × ℕ)) : Type 0 where
  pub read : dual_at total bytes ≡ Ok (dual scale ms, rest)
  pub in_range : IsDualInRange scale ms
  pub shorter : length rest ≤ length bytes
  pub text : 2 ∷ take (length bytes - length rest) bytes ≡ tree_text (dual scale ms)

pub text_read : (total : ℕ) (bytes : List ℕ) (scale : ℕ) (r0 : List ℕ) (count : ℕ) (r1 : List ℕ) (ms : List (ℕ × ℕ)) (rest : List ℕ) → IsBytes bytes → number_in Node 1 65536 total bytes ≡ Ok (scale, r0) → number_in Node 0 4294967295 total r0 ≡ Ok (count, r1) → entries_at total count 0 r1 ≡ Ok (ms, rest) → ReadText total bytes rest scale ms
unfolding tree_at
text_read total bytes scale r0 count r1 ms rest all first second third =
    let read = dual_read total bytes scale r0 count r1 ms rest first second third in
    let taken = tree_takes total 1 (2 ∷ bytes) (dual scale ms, rest) (in_front 2 bytes (omega arith) all) read in
    let parts : bytes ≡ dual_text scale ms ++ rest = behind 2 2 bytes (dual_text scale ms ++ rest) taken.0.parts in
    let long = ap length parts ∙ length-append (dual_text scale ms) rest in
    let front : length bytes - length rest ≡ length (dual_text scale ms) = omega (arith, long) in
    let text : take (length bytes - length rest) bytes ≡ dual_text scale ms = ap (λ n. take n bytes) front ∙ (ap (take (length (dual_text scale ms))) parts ∙ take-append_seam (dual_text scale ms) rest) in
    record {
      read = read;
      in_range = taken.1;
      shorter = omega (arith, long);
      text = ap (λ t. 2 ∷ t) text;
    }

pub text_kept : (kept text : List ℕ) (scale : ℕ) (ms : List (ℕ × ℕ)) → (kept ≡ []) ⊎ (kept ≡ text) → IsDualInRange scale ms → 2 ∷ text ≡ tree_text (dual scale ms) → IsKeptText kept scale ms
text_kept [] text scale ms which good is = tt
text_kept (b ∷ kept) text scale ms (inl none) good is = absurd cc
text_kept (b ∷ kept) text scale ms (inr same) good is = (good, ap (λ t. 2 ∷ t) same ∙ is)

-- what stands behind a text that is kept
same_front : (text bytes : List ℕ) → pointwise nat_eq (take (length text) bytes) text ≡ true → take (length text) bytes ≡ text
same_front text bytes test = (slice_eq-Decides Decides-eqb (take (length text) bytes) text (pointwise nat_eq (take (length text) bytes) text) refl).0 test

pub behind_front : (text bytes : List ℕ) (r : Option (Bor (List ℕ))) → (text ≡ [] → ⊥) → MatchOption r (pointwise nat_eq (take (length text) bytes) text ≡ false) (λ x. (pointwise nat_eq (take (length text) bytes) text ≡ true) × (x.now ≡ drop (length text) bytes) × (length x.now + length text ≡ length bytes)) → IsBehindSame text bytes r
behind_front text bytes None some found = tt
behind_front text bytes (Some x) some found =
    (some, sym (take-append-drop (length text) bytes) ∙ (ap (λ l. l ++ drop (length text) bytes) (same_front text bytes found.0) ∙ ap (λ l. text ++ l) (sym found.1)))

-- a text that begins with what is kept says the same node
pub same_read : (total : ℕ) (text bytes rest : List ℕ) (scale : ℕ) (ms : List (ℕ × ℕ)) → (text ≡ [] → ⊥) → IsKeptText text scale ms → bytes ≡ text ++ rest → dual_at total bytes ≡ Ok (dual scale ms, rest)
unfolding tree_at
same_read total [] bytes rest scale ms some kept parts = absurd (some refl)
same_read total (b ∷ text) bytes rest scale ms some kept parts =
    let again = tree_again total 1 (dual scale ms) rest kept.0 in
    let is : tree_at total 1 (2 ∷ (b ∷ text ++ rest)) ≡ Ok (dual scale ms, rest) = ap (λ t. tree_at total 1 (t ++ rest)) kept.1 ∙ again in
    ap (dual_at total) parts ∙ is
