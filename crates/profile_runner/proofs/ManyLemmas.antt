-- Edges to many blocks, as counts by the blocks' numbers.
use Rattle.std.proofs.Common.{◌≡◌, ◌∙◌, inl, inr, ℕ, suc, ◌+◌, ◌<◌, Bool, true, false, cond, List, [], ◌∷◌, ◌++◌, length, map, take, slice_index_or, Option, Some, None, refl, sym, ap, subst, arith}
use Rattle.std.specs.List.{All}
use Rattle.std.specs.Option.{unwrap_or}
use Rattle.std.specs.Map.{lookup}
use Rattle.std.specs.BTreeMap.{is_at, insert_entry}
use Rattle.std.specs.Ordering.{nat_cmp}
use Rattle.std.specs.Cmp.{nat_cmp_is}
use Rattle.std.specs.declared.cmp.Ordering.TheVariants.{Less, Equal, Greater}
use Rattle.std.proofs.lemmas.Bool.{cases_order}
use Rattle.std.proofs.lemmas.List.{get_or-map, get_or-take, length-map, length-take-le}
use Rattle.list_checks.proofs.StepLemmas.{collect_more}
use Rattle.profile_runner.specs.Tallies.{with_edge, Ascend, counted_from, plain_count, count_to}
use Rattle.profile_runner.specs.declared.counts.Edge.{Edge}
use Rattle.profile_runner.proofs.EdgeLemmas.{goes_behind, counts_here, goes_before, rises}

-- ---- one more

none_above : (a b low : ℕ) (es : List (ℕ × ℕ)) → Ascend low (map (counted_from a) es) → b < low → lookup (is_at (nat_cmp b)) es ≡ None
none_above a b low [] up less = refl
none_above a b low (e ∷ es) up less =
    let from = up.0 in
    let order = nat_cmp_is b e.0 Less (omega (arith, less, from)) in
    rw (sym order) (none_above a b (suc e.0) es up.1 (omega (arith, less, from)))

pub count_more : (a b low : ℕ) (es : List (ℕ × ℕ)) → Ascend low (map (counted_from a) es) → map (counted_from a) (insert_entry nat_cmp es b (count_to es b + 1)) ≡ with_edge (map (counted_from a) es) a b
count_more a b low [] up = refl
count_more a b low (e ∷ es) up =
    elim (cases_order e.0 b) [
      | inl same ↦
          let order = nat_cmp_is b e.0 Equal (sym same) in
          rw (sym order) (sym (counts_here (counted_from a e) (map (counted_from a) es) a b same))
      | inr (inl less) ↦
          let order = nat_cmp_is b e.0 Greater less in
          rw (sym order)
          (ap (λ (xs : List Edge). counted_from a e ∷ xs) (count_more a b (suc e.0) es up.1)
          ∙ sym (goes_behind (counted_from a e) (map (counted_from a) es) a b less))
      | inr (inr more) ↦
          let order = nat_cmp_is b e.0 Less more in
          let none = none_above a b (suc e.0) es up.1 (omega (arith, more)) in
          rw (sym order, none) (sym (goes_before (counted_from a e) (map (counted_from a) es) a b more))
    ]

same_block : (a f : ℕ) (es : List (ℕ × ℕ)) → All (λ e. e.from ≡ a) (map (counted_from f) es) → map (counted_from f) es ≡ map (counted_from a) es
same_block a f [] all = refl
same_block a f (e ∷ es) all =
    ap (λ (k : ℕ). map (counted_from k) (e ∷ es)) (all 0 (counted_from f e) (omega arith))

pub many_more : (a f b : ℕ) (old new : List (ℕ × ℕ)) → All (λ e. e.from ≡ a) (map (counted_from f) old) → Ascend 0 (map (counted_from f) old) → new ≡ insert_entry nat_cmp old b (count_to old b + 1) → map (counted_from a) new ≡ with_edge (map (counted_from f) old) a b
many_more a f b old new all up is =
    let same = same_block a f old all in
    ap (map (counted_from a)) is
    ∙ (count_more a b 0 old (subst (Ascend 0) same up) ∙ ap (λ (es : List Edge). with_edge es a b) (sym same))

less_if : (test : Bool) (x : ℕ) (rest : Option ℕ) → x < 18446744073709551615 → unwrap_or rest 0 < 18446744073709551615 → unwrap_or (cond test (Some x) rest) 0 < 18446744073709551615
less_if true x rest here later = here
less_if false x rest here later = later

pub count_room : (f b : ℕ) (es : List (ℕ × ℕ)) → All (λ e. e.count < 18446744073709551615) (map (counted_from f) es) → count_to es b < 18446744073709551615
count_room f b [] all = omega arith
count_room f b (e ∷ es) all =
    less_if (is_at (nat_cmp b) e.0) e.1 (lookup (is_at (nat_cmp b)) es) (all 0 (counted_from f e) (omega arith))
    (count_room f b es (λ k d below. all (suc k) d (omega (arith, below))))

-- ---- a few edges become many

insert_last : (es : List (ℕ × ℕ)) (k v : ℕ) → ((j : ℕ) (d : ℕ × ℕ) → j < length es → (slice_index_or es j d).0 < k) → insert_entry nat_cmp es k v ≡ es ++ (k, v) ∷ []
insert_last [] k v below = refl
insert_last (e ∷ es) k v below =
    let order = nat_cmp_is k e.0 Greater (below 0 e (omega arith)) in
    rw (sym order) (ap (λ (xs : List (ℕ × ℕ)). e ∷ xs) (insert_last es k v (λ j d inside. below (suc j) d (omega (arith, inside)))))

earlier_below : (row : List Edge) (i j : ℕ) (e : Edge) (d : ℕ × ℕ) → Ascend 0 row → i < length row → e ≡ slice_index_or row i e → j < length (map plain_count (take i row)) → (slice_index_or (map plain_count (take i row)) j d).0 < e.to
earlier_below row i j e d up below is inside =
    let count = length-map (take i row) plain_count in
    let taken = length-take-le i row (omega (arith, below)) in
    let lower : j < i = omega (arith, count, taken, inside) in
    let here : slice_index_or (map plain_count (take i row)) j d ≡ plain_count (slice_index_or row j e) =
    get_or-map plain_count (take i row) j e d (omega (arith, count, inside)) ∙ ap plain_count (get_or-take i row j e lower) in
    let less = rises 0 j i row e up lower below in
    let first = ap (λ (p : ℕ × ℕ). p.0) here in
    let last = ap (λ (x : Edge). x.to) is in
    omega (arith, first, last, less)

pub spread_more : (row : List Edge) (i : ℕ) (e : Edge) (old new : List (ℕ × ℕ)) → Ascend 0 row → i < length row → e ≡ slice_index_or row i e → old ≡ map plain_count (take i row) → new ≡ insert_entry nat_cmp old e.to e.count → new ≡ map plain_count (take (i + 1) row)
spread_more row i e old new up below is so_far more =
    let last : insert_entry nat_cmp old e.to e.count ≡ old ++ plain_count e ∷ [] =
    insert_last old e.to e.count (λ j d inside.
    subst (λ (es : List (ℕ × ℕ)). (slice_index_or es j d).0 < e.to) (sym so_far)
    (earlier_below row i j e d up below is (subst (λ (es : List (ℕ × ℕ)). j < length es) so_far inside))) in
    collect_more plain_count row old new (plain_count e) i e below (more ∙ last) so_far (ap plain_count is)

pub many_are : (a : ℕ) (row : List Edge) → All (λ e. e.from ≡ a) row → map (counted_from a) (map plain_count row) ≡ row
many_are a [] all = refl
many_are a (e ∷ row) all =
    let here : counted_from a (plain_count e) ≡ e = ap (λ (k : ℕ). record { from = k; to = e.to; count = e.count }) (sym (all 0 e (omega arith))) in
    ap (λ (x : Edge). x ∷ map (counted_from a) (map plain_count row)) here
    ∙ ap (λ (es : List Edge). e ∷ es) (many_are a row (λ k d below. all (suc k) d (omega (arith, below))))
