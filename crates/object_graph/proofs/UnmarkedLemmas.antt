-- What marks leave of a list of ranges.
use Rattle.std.proofs.Common.{◌≡◌, ◌∙◌, inl, inr, ℕ, zero, suc, ◌+◌, ◌<◌, ◌≤◌, ◌==◌, Bool, true, false, not, ◌&&◌, ◌||◌, if◌then◌else◌, List, [], ◌∷◌, ◌++◌, map, length, slice_index_or, refl, sym, ap, subst, arith}
use Rattle.std.specs.List.{All, AllPairs, list_any}
use Rattle.std.proofs.lemmas.Bool.{cases_lt, eqb-true}
use Rattle.std.proofs.lemmas.List.{append-nil, get_or-map}
use Rattle.std.proofs.lemmas.List.Folds.{list_any-append, list_any_at}
use Rattle.std.proofs.lemmas.List.Elements.{All-push}
use Rattle.std.proofs.lemmas.List.Quantifiers.{all_pairs_push}
use Rattle.list_checks.specs.Tests.{any_below}
use Rattle.list_checks.proofs.TestLemmas.{both, not_true, same_tests, any_found, any_at}
use Rattle.elf_reader.specs.File.{PlainView}
use Rattle.board_config.specs.declared.board.Board.{Board}
use Rattle.loaded_file.specs.declared.byte_ranges.ByteRange.{ByteRange}
use Rattle.loaded_file.specs.Ranges.{is_range, is_overlapped}
use Rattle.loaded_file.specs.ByteRanges.{is_byte_range, has_byte_range_in, byte_range_at, no_byte_range, IsAscending, IsFilled, overlaps_another}
use Rattle.loaded_file.proofs.ByteRangeLemmas.{both_made}
use Rattle.loaded_file.proofs.OverlapLemmas.{any_place, overlaps_later, overlap_marks}
use Rattle.object_graph.specs.Fixed.{is_in_zeros, is_listed, is_aliased, is_unrewritable, is_shared, is_movable}
use Rattle.object_graph.specs.Shares.{shares_a_word, is_immovable}
use Rattle.object_graph.specs.Disjoint.{IsDisjoint, mark_at, AreMarks, unmarked_below}
use Rattle.object_graph.proofs.SharedLemmas.{shared_is}

-- ---- which ranges are left

piece_any : (q : ByteRange → Bool) (b : Bool) (e : ByteRange) → list_any q (if b then [] else e ∷ []) ≡ (not b && q e)
piece_any q true e = refl
piece_any q false e = grind arith

any_unmarked : (q : ByteRange → Bool) (ranges : List ByteRange) (marks : List Bool) (n : ℕ) → list_any q (unmarked_below ranges marks n) ≡ any_below (λ k. not (mark_at marks k) && q (byte_range_at ranges k)) n
any_unmarked q ranges marks zero = refl
any_unmarked q ranges marks (suc n) =
    let piece = if mark_at marks n then [] else byte_range_at ranges n ∷ [] in
    list_any-append q (unmarked_below ranges marks n) piece
    ∙ ap (λ (b : Bool). b || list_any q piece) (any_unmarked q ranges marks n)
    ∙ ap (λ (b : Bool). any_below (λ k. not (mark_at marks k) && q (byte_range_at ranges k)) n || b) (piece_any q (mark_at marks n) (byte_range_at ranges n))

-- a rule at a range that is the `n` bytes at `home`
rule_here : (rule : ℕ → ℕ → Bool) (home n : ℕ) (e : ByteRange) → is_byte_range home n e ≡ true → rule e.home e.size ≡ rule home n
rule_here rule home n e here =
    let parts = both (e.home == home) (e.size == n) here in
    let value = eqb-true e.home home parts.0 in
    let size = eqb-true e.size n parts.1 in
    ap (λ (a : ℕ). rule a e.size) value ∙ ap (λ (m : ℕ). rule home m) size

not_made : (a : Bool) → a ≡ false → not a ≡ true
not_made true fails = cc
not_made false fails = refl

left_in : (rule : ℕ → ℕ → Bool) (ranges : List ByteRange) (marks : List Bool) (home n : ℕ) → AreMarks rule ranges marks → any_below (λ k. not (mark_at marks k) && is_byte_range home n (byte_range_at ranges k)) (length ranges) ≡ true → (has_byte_range_in ranges home n && not (rule home n)) ≡ true
left_in rule ranges marks home n are found =
    let (k, below, passes) = any_found (λ k. not (mark_at marks k) && is_byte_range home n (byte_range_at ranges k)) (length ranges) found in
    let parts = both (not (mark_at marks k)) (is_byte_range home n (byte_range_at ranges k)) passes in
    let free : rule home n ≡ false = sym (rule_here rule home n (byte_range_at ranges k) parts.1) ∙ sym (are k below) ∙ not_true (mark_at marks k) parts.0 in
    both_made (has_byte_range_in ranges home n) (not (rule home n)) (list_any_at (is_byte_range home n) ranges k no_byte_range below parts.1) (not_made (rule home n) free)

left_out : (rule : ℕ → ℕ → Bool) (ranges : List ByteRange) (marks : List Bool) (home n : ℕ) → AreMarks rule ranges marks → (has_byte_range_in ranges home n && not (rule home n)) ≡ true → any_below (λ k. not (mark_at marks k) && is_byte_range home n (byte_range_at ranges k)) (length ranges) ≡ true
left_out rule ranges marks home n are left =
    let outer = both (has_byte_range_in ranges home n) (not (rule home n)) left in
    let (k, below, here) = any_place (is_byte_range home n) ranges outer.0 in
    let free : mark_at marks k ≡ false = are k below ∙ rule_here rule home n (byte_range_at ranges k) here ∙ not_true (rule home n) outer.1 in
    any_at (λ k. not (mark_at marks k) && is_byte_range home n (byte_range_at ranges k)) (length ranges) k below (both_made (not (mark_at marks k)) (is_byte_range home n (byte_range_at ranges k)) (not_made (mark_at marks k) free) here)

-- the unmarked ranges are those of which the rule doesn't hold
pub unmarked_exact : (rule : ℕ → ℕ → Bool) (ranges : List ByteRange) (marks : List Bool) (home n : ℕ) → AreMarks rule ranges marks → has_byte_range_in (unmarked_below ranges marks (length ranges)) home n ≡ (has_byte_range_in ranges home n && not (rule home n))
unmarked_exact rule ranges marks home n are =
    any_unmarked (is_byte_range home n) ranges marks (length ranges)
    ∙ same_tests _ _ (left_in rule ranges marks home n are) (left_out rule ranges marks home n are)

-- ---- what holds of each, and of each two

all_piece : (P : ByteRange → Type 0) (xs : List ByteRange) (b : Bool) (e : ByteRange) → All P xs → (b ≡ false → P e) → All P (xs ++ (if b then [] else e ∷ []))
all_piece P xs true e all here = rw (append-nil xs) all
all_piece P xs false e all here = All-push P xs e all (here refl)

pub unmarked_all : (P : ByteRange → Type 0) (ranges : List ByteRange) (marks : List Bool) (n : ℕ) → ((k : ℕ) → k < n → mark_at marks k ≡ false → P (byte_range_at ranges k)) → All P (unmarked_below ranges marks n)
unmarked_all P ranges marks zero each = λ k d below. absurd (omega (arith, below))
unmarked_all P ranges marks (suc n) each =
    all_piece P (unmarked_below ranges marks n) (mark_at marks n) (byte_range_at ranges n) (unmarked_all P ranges marks n (λ k below free. each k (omega (arith, below)) free)) (each n (omega arith))

pairs_piece : (R : ByteRange → ByteRange → Type 0) (xs : List ByteRange) (b : Bool) (e : ByteRange) → AllPairs R xs → (b ≡ false → All (λ x. R x e) xs) → AllPairs R (xs ++ (if b then [] else e ∷ []))
pairs_piece R xs true e pairs here = rw (append-nil xs) pairs
pairs_piece R xs false e pairs here = all_pairs_push R xs e pairs (here refl)

pub unmarked_pairs : (R : ByteRange → ByteRange → Type 0) (ranges : List ByteRange) (marks : List Bool) (n : ℕ) → ((i j : ℕ) → i < j → j < n → mark_at marks i ≡ false → mark_at marks j ≡ false → R (byte_range_at ranges i) (byte_range_at ranges j)) → AllPairs R (unmarked_below ranges marks n)
unmarked_pairs R ranges marks zero each = λ i j d before below. absurd (omega (arith, below))
unmarked_pairs R ranges marks (suc n) each =
    pairs_piece R (unmarked_below ranges marks n) (mark_at marks n) (byte_range_at ranges n) (unmarked_pairs R ranges marks n (λ i j before below first second. each i j before (omega (arith, below)) first second)) (λ free. unmarked_all (λ x. R x (byte_range_at ranges n)) ranges marks n (λ k below first. each k n below (omega arith) first free))

-- ---- ranges that meet no other one

mark_of_map : (ranges : List ByteRange) (marks : List Bool) (k : ℕ) → marks ≡ map (overlaps_another ranges) ranges → k < length ranges → mark_at marks k ≡ overlaps_another ranges (byte_range_at ranges k)
mark_of_map ranges marks k made below =
    ap (λ (ms : List Bool). slice_index_or ms k false) made ∙ get_or-map (overlaps_another ranges) ranges k no_byte_range false below

ends_before : (ranges : List ByteRange) (marks : List Bool) (i j : ℕ) → IsAscending ranges → IsFilled ranges → marks ≡ map (overlaps_another ranges) ranges → i < j → j < length ranges → mark_at marks i ≡ false → (byte_range_at ranges i).home + (byte_range_at ranges i).size ≤ (byte_range_at ranges j).home
ends_before ranges marks i j ascends filled made before below free =
    elim (cases_lt (byte_range_at ranges j).home ((byte_range_at ranges i).home + (byte_range_at ranges i).size)) [
      | inl ranges_overlap ↦
          let met = (overlaps_later ranges ascends filled i j before below ranges_overlap).0 in
          let inside : i < length ranges = omega (arith, before, below) in
          let marked = mark_of_map ranges marks i made inside in
          cc (met, marked, free)
      | inr disjoint ↦ disjoint
    ]

pub kept_disjoint : (ranges : List ByteRange) (marks : List Bool) → IsAscending ranges → IsFilled ranges → marks ≡ map (overlaps_another ranges) ranges → IsDisjoint (unmarked_below ranges marks (length ranges))
kept_disjoint ranges marks ascends filled made =
    unmarked_pairs (λ a b. a.home + a.size ≤ b.home) ranges marks (length ranges) (λ i j before below first second. ends_before ranges marks i j ascends filled made before below first)

pub still_disjoint : (ranges : List ByteRange) (marks : List Bool) → IsDisjoint ranges → IsDisjoint (unmarked_below ranges marks (length ranges))
still_disjoint ranges marks disjoint =
    unmarked_pairs (λ a b. a.home + a.size ≤ b.home) ranges marks (length ranges) (λ i j before below first second. disjoint i j no_byte_range before below)

pub still_filled : (ranges : List ByteRange) (marks : List Bool) → IsFilled ranges → IsFilled (unmarked_below ranges marks (length ranges))
still_filled ranges marks filled =
    unmarked_all (λ e. 0 < e.size) ranges marks (length ranges) (λ k below free. filled k no_byte_range below)

-- ---- the same of lists that a call was given

pub kept_exact : (rule : ℕ → ℕ → Bool) (ranges xs kept : List ByteRange) (marks ms : List Bool) (home n : ℕ) → xs ≡ ranges → ms ≡ marks → kept ≡ unmarked_below xs ms (length xs) → AreMarks rule ranges marks → has_byte_range_in kept home n ≡ (has_byte_range_in ranges home n && not (rule home n))
kept_exact rule ranges xs kept marks ms home n same equal made are =
    ap (λ (es : List ByteRange). has_byte_range_in es home n) (made ∙ ap (λ (es : List ByteRange). unmarked_below es ms (length es)) same ∙ ap (λ (bs : List Bool). unmarked_below ranges bs (length ranges)) equal)
    ∙ unmarked_exact rule ranges marks home n are

pub kept_first_disjoint : (ranges xs kept : List ByteRange) (marks ms : List Bool) → xs ≡ ranges → ms ≡ marks → kept ≡ unmarked_below xs ms (length xs) → IsAscending ranges → IsFilled ranges → marks ≡ map (overlaps_another ranges) ranges → IsDisjoint kept
kept_first_disjoint ranges xs kept marks ms same equal made ascends filled are =
    let is = made ∙ ap (λ (es : List ByteRange). unmarked_below es ms (length es)) same ∙ ap (λ (bs : List Bool). unmarked_below ranges bs (length ranges)) equal in
    subst (λ (es : List ByteRange). IsDisjoint es) (sym is) (kept_disjoint ranges marks ascends filled are)

pub kept_still_disjoint : (ranges xs kept : List ByteRange) (ms : List Bool) → xs ≡ ranges → kept ≡ unmarked_below xs ms (length xs) → IsDisjoint ranges → IsDisjoint kept
kept_still_disjoint ranges xs kept ms same made disjoint =
    let is = made ∙ ap (λ (es : List ByteRange). unmarked_below es ms (length es)) same in
    subst (λ (es : List ByteRange). IsDisjoint es) (sym is) (still_disjoint ranges ms disjoint)

pub kept_filled : (ranges xs kept : List ByteRange) (ms : List Bool) → xs ≡ ranges → kept ≡ unmarked_below xs ms (length xs) → IsFilled ranges → IsFilled kept
kept_filled ranges xs kept ms same made filled =
    let is = made ∙ ap (λ (es : List ByteRange). unmarked_below es ms (length es)) same in
    subst (λ (es : List ByteRange). IsFilled es) (sym is) (still_filled ranges ms filled)

pub marks_of : (ranges xs : List ByteRange) (marks : List Bool) → xs ≡ ranges → marks ≡ map (overlaps_another xs) xs → marks ≡ map (overlaps_another ranges) ranges
marks_of ranges xs marks same made = made ∙ ap (λ (es : List ByteRange). map (overlaps_another es) es) same

-- the overlap marks are those of that rule
pub overlaps_are : (v : PlainView) (ranges xs : List ByteRange) (marks : List Bool) → xs ≡ ranges → ((home n : ℕ) → has_byte_range_in ranges home n ≡ is_range v home n) → marks ≡ map (overlaps_another xs) xs → AreMarks (is_overlapped v) ranges marks
overlaps_are v ranges xs marks same exact made k below =
    overlap_marks v ranges marks exact (marks_of ranges xs marks same made) k below

pub disjoint_left : (v : PlainView) (ranges xs ys kept : List ByteRange) (marks ms : List Bool) (home n : ℕ) → xs ≡ ranges → ys ≡ ranges → ms ≡ marks → kept ≡ unmarked_below ys ms (length ys) → ((home n : ℕ) → has_byte_range_in ranges home n ≡ is_range v home n) → marks ≡ map (overlaps_another xs) xs → has_byte_range_in kept home n ≡ (is_range v home n && not (is_overlapped v home n))
disjoint_left v ranges xs ys kept marks ms home n same again equal made exact are =
    kept_exact (is_overlapped v) ranges ys kept marks ms home n again equal made (overlaps_are v ranges xs marks same exact are)
    ∙ ap (λ (b : Bool). b && not (is_overlapped v home n)) (exact home n)

-- ---- all rules together

rules_joined : (r o z l s u w h : Bool) → (r ≡ true → h ≡ w) → ((r && not o) && not (z || l || s || (u || w))) ≡ (r && not (o || z || l || s || u || h))
rules_joined false o z l s u w h same = refl
rules_joined true true z l s u w h same = refl
rules_joined true false true l s u w h same = refl
rules_joined true false false true s u w h same = refl
rules_joined true false false false true u w h same = refl
rules_joined true false false false false true w h same = refl
rules_joined true false false false false false w h same = ap not (sym (same refl))

-- what is left is what may move
pub movable_left : (v : PlainView) (board : Board) (home n : ℕ) → ((is_range v home n && not (is_overlapped v home n)) && not (is_immovable v board home n)) ≡ is_movable v board home n
movable_left v board home n =
    rules_joined (is_range v home n) (is_overlapped v home n) (is_in_zeros v board home n) (is_listed v board home n) (is_aliased v home n) (is_unrewritable v home n) (shares_a_word v home n) (is_shared v home n) (shared_is v home n)

pub movable_kept : (v : PlainView) (board : Board) (ranges xs ys kept : List ByteRange) (marks ms : List Bool) (home n : ℕ) → xs ≡ ranges → ys ≡ ranges → ms ≡ marks → kept ≡ unmarked_below ys ms (length ys) → ((home n : ℕ) → has_byte_range_in ranges home n ≡ (is_range v home n && not (is_overlapped v home n))) → AreMarks (is_immovable v board) xs marks → has_byte_range_in kept home n ≡ is_movable v board home n
movable_kept v board ranges xs ys kept marks ms home n same again equal made exact are =
    kept_exact (is_immovable v board) ranges ys kept marks ms home n again equal made (subst (λ (es : List ByteRange). AreMarks (is_immovable v board) es marks) same are)
    ∙ ap (λ (b : Bool). b && not (is_immovable v board home n)) (exact home n)
    ∙ movable_left v board home n
