-- Between neighbouring bounds of spans nothing changes, and what ranges cover grows by one more.
use Rattle.std.proofs.Common.{◌≡◌, ◌∙◌, inl, inr, ℕ, ◌+◌, ◌-◌, ◌<◌, ◌≤◌, nat_lt, nat_le, Bool, true, false, not, ◌&&◌, ◌||◌, List, [], ◌∷◌, ◌++◌, refl, sym, ap, arith}
use Rattle.std.specs.List.{All, list_any}
use Rattle.std.proofs.lemmas.Bool.{cases_lt}
use Rattle.std.proofs.lemmas.Bool.Decides.{nat_tests}
use Rattle.std.proofs.lemmas.List.Elements.{All-push}
use Rattle.std.proofs.lemmas.List.Quantifiers.{all_pairs_push}
use Rattle.std.proofs.lemmas.List.Folds.{Any-from_list_any, list_any_at, list_any_none, list_any-append}
use Rattle.list_checks.proofs.TestLemmas.{neither, both}
use Rattle.board_config.specs.declared.board.Range.{Range}
use Rattle.object_graph.specs.Sites.{in_range}
use Rattle.object_graph.specs.declared.spans.Span.{Span}
use Rattle.object_graph.specs.Spans.{IsShort, holds, any_holds, is_left, at_an_end, is_between, IsSteady, Covers}

holds_steady : (start end from a : ℕ) → from ≤ a → (nat_lt from start && nat_le start a || nat_lt from end && nat_le end a) ≡ false → (nat_le start a && nat_lt a end) ≡ (nat_le start from && nat_lt from end)
holds_steady start end from a order none = grind (arith, nat_tests, order, none)

any_steady : (spans : List Span) (from a : ℕ) → from ≤ a → list_any (at_an_end (is_between from a)) spans ≡ false → any_holds spans a ≡ any_holds spans from
any_steady [] from a order none = refl
any_steady (s ∷ ss) from a order none =
    let parts = neither (at_an_end (is_between from a) s) (list_any (at_an_end (is_between from a)) ss) none in
    let first = holds_steady s.start s.end from a order parts.0 in
    let rest = any_steady ss from a order parts.1 in
    ap (λ b. b || any_holds ss a) first ∙ ap (λ b. holds from s || b) rest

-- what is left at `from` is left up to `to`
left_steady : (kept cut : List Span) (from to a : ℕ) → IsSteady kept cut from to → from ≤ a → a < to → is_left kept cut a ≡ is_left kept cut from
left_steady kept cut from to a steady order below =
    let parts = neither (list_any (at_an_end (is_between from a)) kept) (list_any (at_an_end (is_between from a)) cut) (steady a below) in
    let first = any_steady kept from a order parts.0 in
    let second = any_steady cut from a order parts.1 in
    ap (λ b. b && not (any_holds cut a)) first ∙ ap (λ b. any_holds kept from && not b) second

end_between : (start end from : ℕ) → from < end → (nat_lt from start && nat_le start end || nat_lt from end && nat_le end end) ≡ true
end_between start end from less = grind (arith, nat_tests, less)

holds_ends : (start end from : ℕ) → (nat_le start from && nat_lt from end) ≡ true → (start ≤ from) × (from < end)
holds_ends start end from held = (grind (arith, nat_tests, held), grind (arith, nat_tests, held))

-- a span that holds `from` ends at `to` or behind it
held_on : (kept cut : List Span) (from to : ℕ) → All IsShort kept → IsSteady kept cut from to → any_holds kept from ≡ true → to < from + 4294967296
held_on kept cut from to short steady held =
    let (k, s, below, here, passes) = Any-from_list_any (holds from) kept held in
    let ends = holds_ends s.start s.end from passes in
    let size : IsShort s = rw here at (short k s below) in
    elim (cases_lt to (from + 4294967296)) [
      | inl less ↦ less
      | inr far ↦
          let inside : s.end < to = omega (arith, ends.0, size, far) in
          let none = (neither (list_any (at_an_end (is_between from s.end)) kept) (list_any (at_an_end (is_between from s.end)) cut) (steady s.end inside)).0 in
          let some = list_any_at (at_an_end (is_between from s.end)) kept k s below (ap (at_an_end (is_between from s.end)) here ∙ end_between s.start s.end from ends.1) in
          cc (sym none ∙ some)
    ]

pub few_left : (kept cut : List Span) (from to : ℕ) → All IsShort kept → IsSteady kept cut from to → (nat_lt from to && is_left kept cut from) ≡ true → to - from < 4294967296
few_left kept cut from to short steady starts =
    let left = (both (nat_lt from to) (is_left kept cut from) starts).1 in
    let held = (both (any_holds kept from) (not (any_holds cut from)) left).0 in
    let less = held_on kept cut from to short steady held in
    omega (arith, less)

not_held : (base size from a : ℕ) → base + size ≤ from → from ≤ a → (nat_le base a && nat_lt a (base + size)) ≡ false
not_held base size from a ends order = grind (arith, nat_tests, ends, order)

-- ranges below `from` have no address from there on
none_above : (ranges : List Range) (from a : ℕ) → All (λ r. r.base + r.size ≤ from) ranges → from ≤ a → list_any (λ r. in_range r a) ranges ≡ false
none_above ranges from a below order =
    list_any_none (λ r. in_range r a) ranges (λ k d inside. not_held _ _ from a (below k d inside) order)

some_between : (from to a : ℕ) → from ≤ a → a < to → nat_lt from to ≡ true
some_between from to a order below = grind (arith, nat_tests, order, below)

not_left : (a b : Bool) → a ≡ true → (a && b) ≡ false → b ≡ false
not_left true b passes none = none
not_left false b passes none = cc

not_yet : (base size from a : ℕ) → base ≡ from → a < from → (nat_le base a && nat_lt a (base + size)) ≡ false
not_yet base size from a same before = grind (arith, nat_tests, same, before)

held_now : (base size from to a : ℕ) → base ≡ from → size ≡ to - from → from ≤ a → a < to → (nat_le base a && nat_lt a (base + size)) ≡ true
held_now base size from to a first second order below = grind (arith, nat_tests, first, second, order, below)

or_false : (a b : Bool) → b ≡ false → (a || (b || false)) ≡ a
or_false true b none = refl
or_false false true none = cc
or_false false false none = refl

or_true : (a b : Bool) → b ≡ true → (a || (b || false)) ≡ true
or_true true b some = refl
or_true false true some = refl
or_true false false some = cc

same_at : (kept cut : List Span) (ranges : List Range) (from to a : ℕ) → Covers kept cut ranges from → IsSteady kept cut from to → (nat_lt from to && is_left kept cut from) ≡ false → a < to → list_any (λ r. in_range r a) ranges ≡ is_left kept cut a
same_at kept cut ranges from to a covers steady none below =
    elim (cases_lt a from) [
      | inl before ↦ covers.exact a before
      | inr behind ↦
          none_above ranges from a covers.below behind
          ∙ sym (not_left (nat_lt from to) (is_left kept cut from) (some_between from to a behind below) none)
          ∙ sym (left_steady kept cut from to a steady behind below)
    ]

-- nothing more is left
pub covers_same : (kept cut : List Span) (ranges : List Range) (from to : ℕ) → Covers kept cut ranges from → IsSteady kept cut from to → from ≤ to → (nat_lt from to && is_left kept cut from) ≡ false → Covers kept cut ranges to
covers_same kept cut ranges from to covers steady order none =
    record {
      below = λ k d inside. let ends = covers.below k d inside in omega (arith, ends, order);
      disjoint = covers.disjoint;
      exact = λ a below. same_at kept cut ranges from to a covers steady none below;
    }

more_at : (kept cut : List Span) (ranges : List Range) (from to a : ℕ) (r : Range) → r.base ≡ from → r.size ≡ to - from → Covers kept cut ranges from → IsSteady kept cut from to → (nat_lt from to && is_left kept cut from) ≡ true → a < to → (list_any (λ q. in_range q a) ranges || (in_range r a || false)) ≡ is_left kept cut a
more_at kept cut ranges from to a r base size covers steady starts below =
    elim (cases_lt a from) [
      | inl before ↦ or_false (list_any (λ q. in_range q a) ranges) (in_range r a) (not_yet r.base r.size from a base before) ∙ covers.exact a before
      | inr behind ↦
          let left = (both (nat_lt from to) (is_left kept cut from) starts).1 in
          or_true (list_any (λ q. in_range q a) ranges) (in_range r a) (held_now r.base r.size from to a base size behind below)
          ∙ sym left
          ∙ sym (left_steady kept cut from to a steady behind below)
    ]

-- one range more
pub covers_more : (kept cut : List Span) (ranges : List Range) (from to : ℕ) (r : Range) → r.base ≡ from → r.size ≡ to - from → Covers kept cut ranges from → IsSteady kept cut from to → from ≤ to → (nat_lt from to && is_left kept cut from) ≡ true → Covers kept cut (ranges ++ r ∷ []) to
covers_more kept cut ranges from to r base size covers steady order starts =
    record {
      below = All-push (λ q. q.base + q.size ≤ to) ranges r (λ k d inside. let ends = covers.below k d inside in omega (arith, ends, order)) (omega (arith, base, size, order));
      disjoint = all_pairs_push (λ p q. p.base + p.size ≤ q.base) ranges r covers.disjoint (λ k d inside. let ends = covers.below k d inside in omega (arith, ends, base));
      exact = λ a below. list_any-append (λ q. in_range q a) ranges (r ∷ []) ∙ more_at kept cut ranges from to a r base size covers steady starts below;
    }
