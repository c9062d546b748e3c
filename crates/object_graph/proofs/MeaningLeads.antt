-- Why counts of homes and ends tell whether an object holds an address, and which relocations lead to some
-- object.
use Rattle.std.proofs.Common.{◌≡◌, ◌∙◌, inl, inr, ℕ, zero, suc, ◌+◌, ◌-◌, ◌%◌, ◌<◌, ◌≤◌, ◌==◌, nat_lt, nat_le, Bool, true, false, ◌&&◌, ◌||◌, if◌then◌else◌, List, length, refl, sym, ap, subst, arith, add-one}
use Rattle.std.specs.List.{count_by}
use Rattle.std.proofs.lemmas.Bool.{cases_lt, eq-eqb, leb-true, ltb-true}
use Rattle.std.proofs.lemmas.Bool.Decides.{nat_tests}
use Rattle.std.proofs.lemmas.List.{get_or_past}
use Rattle.rv32im.specs.Words.{minus}
use Rattle.list_checks.specs.Tests.{any_below}
use Rattle.list_checks.proofs.TestLemmas.{either, both, same_tests, any_found, any_at}
use Rattle.elf_reader.specs.File.{PlainView}
use Rattle.elf_reader.specs.declared.view.Reloc.{Reloc}
use Rattle.loaded_file.specs.Records.{no_symbol, symbol_at, reloc_at, counts, symbol_of, target}
use Rattle.loaded_file.specs.Ranges.{has_range, is_of, inside}
use Rattle.loaded_file.proofs.RangeLemmas.{range_parts, of_parts}
use Rattle.loaded_file.proofs.ByteRangeLemmas.{both_made}
use Rattle.object_graph.specs.Rewritable.{is_meant, displacement}
use Rattle.list_checks.specs.Sorted.{is_under, count_below}
use Rattle.object_graph.specs.Fixed.{leads_to}
use Rattle.object_graph.specs.declared.cover.Cover.{Cover}
use Rattle.object_graph.specs.declared.cover.Bound.TheVariants.{Home, End}
use Rattle.object_graph.specs.Shares.{bounds_by, holds_address, IsCover, leads_by, leads_some}

pub or_left : (a b : Bool) → a ≡ true → (a || b) ≡ true
or_left true b passes = refl
or_left false b passes = cc

pub or_right : (a b : Bool) → b ≡ true → (a || b) ≡ true
or_right true b passes = refl
or_right false b passes = passes

-- ---- counts

cover_step : (has : Bool) (h n a begun ended within : ℕ) → (has ≡ true → 0 < n) → begun ≡ ended + within → begun + (if has && nat_lt h (a + 1) then 1 else 0) ≡ ended + (if has && nat_lt (h + n) (a + 1) then 1 else 0) + (within + (if has && (nat_le h a && nat_lt a (h + n)) then 1 else 0))
cover_step true h n a begun ended within filled sum =
    let some = filled refl in
    grind (arith, nat_tests, some, sum)
cover_step false h n a begun ended within filled sum = omega (arith, sum)

-- of the objects that begin at or before an address, those that don't end there hold it
covered_below : (v : PlainView) (a n : ℕ) → count_below (bounds_by v Home (is_under (a + 1))) n ≡ count_below (bounds_by v End (is_under (a + 1))) n + count_below (holds_address v a) n
covered_below v a zero = refl
covered_below v a (suc n) =
    let s = symbol_at v n in
    cover_step (has_range v s) s.value s.size a _ _ _ (λ has. (range_parts v s has).filled) (covered_below v a n)

count_step : (some here : Bool) (count : ℕ) → some ≡ nat_lt 0 count → (some || here) ≡ nat_lt 0 (count + (if here then 1 else 0))
count_step some true count same = grind (arith, nat_tests, same)
count_step true false count same = grind (arith, nat_tests, same)
count_step false false count same = grind (arith, nat_tests, same)

-- one more place is counted
pub count_more : (test : ℕ → Bool) (i m n : ℕ) → m ≡ count_below test i → n ≡ m + (if test i then 1 else 0) → n ≡ count_below test (i + 1)
count_more test i m n earlier here = rw (add-one i) (here ∙ ap (λ (c : ℕ). c + (if test i then 1 else 0)) earlier)

-- some place passes where the count is not 0
any_counted : (test : ℕ → Bool) (n : ℕ) → any_below test n ≡ nat_lt 0 (count_below test n)
any_counted test zero = refl
any_counted test (suc n) = count_step _ (test n) _ (any_counted test n)

below_sum : (all lower some : ℕ) → all ≡ lower + some → nat_lt lower all ≡ nat_lt 0 some
below_sum all lower some sum = grind (arith, nat_tests, sum)

pub held : (v : PlainView) (cover : Cover) (a ended begun : ℕ) → IsCover v cover → ended ≡ count_by (is_under (a + 1)) cover.ends.items → begun ≡ count_by (is_under (a + 1)) cover.homes.items → nat_lt ended begun ≡ any_below (holds_address v a) (length v.symbols)
held v cover a ended begun is ends homes =
    let first : begun ≡ count_below (bounds_by v Home (is_under (a + 1))) (length v.symbols) = homes ∙ is.homes (is_under (a + 1)) in
    let last : ended ≡ count_below (bounds_by v End (is_under (a + 1))) (length v.symbols) = ends ∙ is.ends (is_under (a + 1)) in
    let parts = covered_below v a (length v.symbols) in
    below_sum begun ended (count_below (holds_address v a) (length v.symbols)) (omega (arith, first, last, parts))
    ∙ sym (any_counted (holds_address v a) (length v.symbols))

pub held_by : (v : PlainView) (cover : Cover) (a behind ended begun : ℕ) (ends homes : List ℕ) → IsCover v cover → behind ≡ a + 1 → ends ≡ cover.ends.items → homes ≡ cover.homes.items → ended ≡ count_by (is_under behind) ends → begun ≡ count_by (is_under behind) homes → nat_lt ended begun ≡ any_below (holds_address v a) (length v.symbols)
held_by v cover a behind ended begun ends homes is next ends_are homes_are last first =
    held v cover a ended begun is
    (last ∙ ap (λ (b : ℕ). count_by (is_under b) ends) next ∙ ap (count_by (is_under (a + 1))) ends_are)
    (first ∙ ap (λ (b : ℕ). count_by (is_under b) homes) next ∙ ap (count_by (is_under (a + 1))) homes_are)

-- ---- relocations that lead to some object

-- relocation `i` leads into the object of symbol `k`, or to its end
abbrev pub leads_to_symbol : PlainView → ℕ → ℕ → Bool
leads_to_symbol v i k =
    has_range v (symbol_at v k) && leads_to v (symbol_at v k).value (symbol_at v k).size i

no_range : (v : PlainView) → has_range v no_symbol ≡ false
no_range v = refl

-- the symbol of an object is one of the view
symbol_below : (v : PlainView) (k : ℕ) → has_range v (symbol_at v k) ≡ true → k < length v.symbols
symbol_below v k has =
    elim (cases_lt k (length v.symbols)) [
      | inl below ↦ below
      | inr behind ↦
          let none : symbol_at v k ≡ no_symbol = get_or_past v.symbols k no_symbol behind in
          let fails : has_range v (symbol_at v k) ≡ false = ap (has_range v) none ∙ no_range v in
          cc (has, fails)
    ]

-- a target inside a range is nearer than its size
inside_fits : (a home n : ℕ) → a < 4294967296 → inside home n a ≡ true → nat_le (minus a home) n ≡ true
inside_fits a home n small within =
    let parts = both (nat_le home a) (nat_lt a (home + n)) within in
    let first = leb-true home a parts.0 in
    let last = ltb-true a (home + n) parts.1 in
    let far : (a + (4294967296 - home % 4294967296)) % 4294967296 ≤ n = omega (arith, small, first, last) in
    grind (arith, nat_tests, far)

small_target : (v : PlainView) (r : Reloc) → target v r < 4294967296
small_target v r = omega arith

fits_there : (v : PlainView) (r : Reloc) (home n a m : ℕ) → a ≡ home → m ≡ n → nat_le (displacement v home r) n ≡ true → nat_le (displacement v a r) m ≡ true
fits_there v r home n a m value size fits =
    subst (λ (x : ℕ). nat_le (displacement v a r) x ≡ true) (sym size) (subst (λ (x : ℕ). nat_le (displacement v x r) n ≡ true) (sym value) fits)

led_by : (v : PlainView) (r : Reloc) (k : ℕ) → k < length v.symbols → has_range v (symbol_at v k) ≡ true → is_meant v (symbol_at v k).value (symbol_at v k).size r ≡ true → nat_le (displacement v (symbol_at v k).value r) (symbol_at v k).size ≡ true → leads_by v r (symbol_of v r) ≡ true
led_by v r k below has meant fits =
    let t = symbol_at v k in
    let s = symbol_of v r in
    let near = has_range v s && nat_le (displacement v s.value r) s.size in
    let far = (s.kind == 3) && any_below (holds_address v (target v r)) (length v.symbols) in
    elim (either (is_of v t.value t.size s) ((s.kind == 3) && inside t.value t.size (target v r)) meant) [
      | inl own ↦
          let of = of_parts v t.value t.size s own in
          or_left near far (both_made (has_range v s) (nat_le (displacement v s.value r) s.size) of.test (fits_there v r t.value t.size s.value s.size of.value of.size fits))
      | inr section ↦
          let parts = both (s.kind == 3) (inside t.value t.size (target v r)) section in
          let holds = any_at (holds_address v (target v r)) (length v.symbols) k below (both_made (has_range v t) (inside t.value t.size (target v r)) has parts.1) in
          or_right near far (both_made (s.kind == 3) (any_below (holds_address v (target v r)) (length v.symbols)) parts.0 holds)
    ]

own_meant : (v : PlainView) (r : Reloc) → has_range v (symbol_of v r) ≡ true → is_meant v (symbol_of v r).value (symbol_of v r).size r ≡ true
own_meant v r has =
    let s = symbol_of v r in
    or_left (is_of v s.value s.size s) ((s.kind == 3) && inside s.value s.size (target v r)) (both_made (has_range v s && (s.value == s.value)) (s.size == s.size) (both_made (has_range v s) (s.value == s.value) has (eq-eqb s.value s.value refl)) (eq-eqb s.size s.size refl))

leads_out : (v : PlainView) (i : ℕ) → leads_some v i ≡ true → any_below (leads_to_symbol v i) (length v.symbols) ≡ true
leads_out v i leads =
    let r = reloc_at v i in
    let s = symbol_of v r in
    let near = has_range v s && nat_le (displacement v s.value r) s.size in
    let far = (s.kind == 3) && any_below (holds_address v (target v r)) (length v.symbols) in
    let outer = both (counts v r) (leads_by v r s) leads in
    elim (either near far outer.1) [
      | inl own ↦
          let parts = both (has_range v s) (nat_le (displacement v s.value r) s.size) own in
          let meant = both_made (counts v r) (is_meant v s.value s.size r) outer.0 (own_meant v r parts.0) in
          let there = both_made (counts v r && is_meant v s.value s.size r) (nat_le (displacement v s.value r) s.size) meant parts.1 in
          any_at (leads_to_symbol v i) (length v.symbols) r.symbol (symbol_below v r.symbol parts.0) (both_made (has_range v s) (leads_to v s.value s.size i) parts.0 there)
      | inr section ↦
          let parts = both (s.kind == 3) (any_below (holds_address v (target v r)) (length v.symbols)) section in
          let (k, below, holds) = any_found (holds_address v (target v r)) (length v.symbols) parts.1 in
          let t = symbol_at v k in
          let held = both (has_range v t) (inside t.value t.size (target v r)) holds in
          let by = or_right (is_of v t.value t.size s) ((s.kind == 3) && inside t.value t.size (target v r)) (both_made (s.kind == 3) (inside t.value t.size (target v r)) parts.0 held.1) in
          let meant = both_made (counts v r) (is_meant v t.value t.size r) outer.0 by in
          let fits = inside_fits (target v r) t.value t.size (small_target v r) held.1 in
          let there = both_made (counts v r && is_meant v t.value t.size r) (nat_le (displacement v t.value r) t.size) meant fits in
          any_at (leads_to_symbol v i) (length v.symbols) k below (both_made (has_range v t) (leads_to v t.value t.size i) held.0 there)
    ]

leads_in : (v : PlainView) (i : ℕ) → any_below (leads_to_symbol v i) (length v.symbols) ≡ true → leads_some v i ≡ true
leads_in v i found =
    let r = reloc_at v i in
    let (k, below, leads) = any_found (leads_to_symbol v i) (length v.symbols) found in
    let t = symbol_at v k in
    let outer = both (has_range v t) (leads_to v t.value t.size i) leads in
    let last = both (counts v r && is_meant v t.value t.size r) (nat_le (displacement v t.value r) t.size) outer.1 in
    let first = both (counts v r) (is_meant v t.value t.size r) last.0 in
    both_made (counts v r) (leads_by v r (symbol_of v r)) first.0 (led_by v r k below outer.0 first.1 last.1)

-- a relocation leads to some object just where it leads to that of some symbol
pub leads_is : (v : PlainView) (i : ℕ) → any_below (leads_to_symbol v i) (length v.symbols) ≡ leads_some v i
leads_is v i = same_tests _ _ (leads_in v i) (leads_out v i)
