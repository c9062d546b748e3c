-- Marks that spread: along one edge, along those of a node, and until no node waits.
use Rattle.std.proofs.Common.{◌≡◌, ◌≢◌, ◌⊎◌, inl, inr, ℕ, zero, suc, ◌+◌, ◌<◌, ◌≤◌, Bool, true, false, List, [], ◌∷◌, length, length-append, slice_set, slice_index_or, bit_or, bit_and, Some, Vec, refl, sym, subst, ap, ◌∙◌, arith, ◌↔◌}
use Rattle.std.specs.Global.{Global}
use Rattle.std.proofs.lemmas.Bool.{cases_eq, cases_lt}
use Rattle.std.proofs.lemmas.List.{get_or-set_other, get_or_past, get_or-map, length-set}
use Rattle.reach_graph.specs.declared.edges.Edge.{Edge}
use Rattle.reach_graph.specs.Reaching.{HasMark, word_at, edges_of, edge_at, edge_in, row_items, plain_rows, AreInside, Reaches, stands, passes}
use Rattle.reach_graph.specs.Queues.{waits_at, IsQueue, StartsWith, IsAdded, IsTaken}
use Rattle.reach_graph.specs.Propagation.{missing, IsRow, GoesOn, IsGrown, PassesTo, IsPropagated, IsClosed, IsPropagating}
use Rattle.reach_graph.proofs.MarkLemmas.{or_left, or_right, or_cases, and_both, and_first, and_second, none_in_zero, word_here, word_there}

-- ---- how much may come still

pub missing_set : (marks : List ℕ) (node v : ℕ) → node < length marks → word_at marks node < v → v < 18446744073709551616
    → missing (slice_set marks node v) + 1 ≤ missing marks
missing_set [] node v inside grows fits = absurd (omega (arith, inside))
missing_set (w ∷ ws) zero v inside grows fits = omega (arith, grows, fits)
missing_set (w ∷ ws) (suc node) v inside grows fits =
    let rest = missing_set ws node v (omega (arith, inside)) grows fits in omega (arith, rest)

-- ---- going on

pub goes_nowhere : (marks waiting : List ℕ) (waits : List Bool) → GoesOn marks waiting waits marks waiting waits
goes_nowhere marks waiting waits =
    record {
      size = refl;
      waits_size = refl;
      queue = λ q. q;
      more = λ n k has. has;
      same = λ n off. refl;
      still = λ n on. on;
      less = omega arith;
    }

not_both : (b c : Bool) → b ≡ true → c ≡ true → b ≡ false → ⊥
not_both b c on also off = absurd (cc)

-- a node that waits no more at the end did not before
pub off_before : (waits waits' : List Bool) (n : ℕ) → ((m : ℕ) → waits_at waits m ≡ true → waits_at waits' m ≡ true) → waits_at waits' n ≡ false
    → (b : Bool) → waits_at waits n ≡ b → waits_at waits n ≡ false
off_before waits waits' n still off true is = let on = still n is in absurd (cc)
off_before waits waits' n still off false is = is

pub goes_further : (m w : List ℕ) (s : List Bool) (m1 w1 : List ℕ) (s1 : List Bool) (m2 w2 : List ℕ) (s2 : List Bool)
    → GoesOn m w s m1 w1 s1 → GoesOn m1 w1 s1 m2 w2 s2 → GoesOn m w s m2 w2 s2
goes_further m w s m1 w1 s1 m2 w2 s2 a b =
    record {
      size = b.size ∙ a.size;
      waits_size = b.waits_size ∙ a.waits_size;
      queue = λ q. b.queue (a.queue q);
      more = λ n k has. b.more n k (a.more n k has);
      same = λ n off. b.same n off ∙ a.same n (off_before s1 s2 n b.still off (waits_at s1 n) refl);
      still = λ n on. b.still n (a.still n on);
      less = let x = a.less in let y = b.less in omega (arith, x, y);
    }

-- ---- one edge

module _ (node by : ℕ) (marks waiting : List ℕ) (waits : List Bool) where
  pub grown_nothing : bit_or (word_at marks node) by ≡ word_at marks node → IsGrown node by marks waiting waits marks waiting waits
  grown_nothing is = record { goes_on = goes_nowhere marks waiting waits; here = sym is; others = λ n other. refl }

  pub grown_some : (waiting' : List ℕ) (waits' : List Bool) → node < length marks → IsAdded node waiting waits waiting' waits'
      → word_at marks node < bit_or (word_at marks node) by → bit_or (word_at marks node) by < 18446744073709551616
      → IsGrown node by marks waiting waits (slice_set marks node (bit_or (word_at marks node) by)) waiting' waits'
  grown_some waiting' waits' inside added grows fits =
      let v = bit_or (word_at marks node) by in
      record {
        goes_on = record {
          size = length-set marks node v;
          waits_size = added.size;
          queue = added.queue;
          more = λ n k has. elim (cases_eq n node) [
            | inl same ↦
                subst (λ m. HasMark (word_at (slice_set marks node v) m) k) (sym same)
                (subst (λ x. HasMark x k) (sym (word_here marks node v inside))
                (or_left (word_at marks node) by k (subst (λ m. HasMark (word_at marks m) k) same has)))
            | inr other ↦ subst (λ x. HasMark x k) (sym (word_there marks node n v other)) has
          ];
          same = λ n off. elim (cases_eq n node) [
            | inl same ↦ let on = subst (λ m. waits_at waits' m ≡ true) (sym same) added.here in absurd (cc)
            | inr other ↦ word_there marks node n v other
          ];
          still = added.others;
          less = let x = missing_set marks node v inside grows fits in let y = added.few in omega (arith, x, y);
        };
        here = word_here marks node v inside;
        others = λ n other. word_there marks node n v other;
      }

-- ---- the edges of a node

wider : (row : List Edge) (i by n k : ℕ) → PassesTo row i by n k → PassesTo row (i + 1) by n k
wider row i by n k p =
    record { i = p.i; below = let b = p.below in omega (arith, b); leads = p.leads; marked = p.marked; lets = p.lets }

module _ (row : List Edge) (i by : ℕ) (m0 w0 : List ℕ) (s0 : List Bool) (m w : List ℕ) (s : List Bool) (m' w' : List ℕ) (s' : List Bool)
    (so_far : IsPropagated row i by m0 w0 s0 m w s) (grown : IsGrown (edge_at row i).to (bit_and by (edge_at row i).mask) m w s m' w' s') where
  passed_here : (n k : ℕ) → (edge_at row i).to ≡ n → HasMark by k → HasMark (edge_at row i).mask k → HasMark (word_at m' n) k
  passed_here n k leads marked lets =
      subst (λ x. HasMark (word_at m' x) k) leads
      (subst (λ x. HasMark x k) (sym grown.here)
      (or_right (word_at m (edge_at row i).to) (bit_and by (edge_at row i).mask) k (and_both by (edge_at row i).mask k marked lets)))

  passed_more : (n k : ℕ) → PassesTo row (i + 1) by n k → HasMark (word_at m' n) k
  passed_more n k p =
      elim (cases_eq p.i i) [
        | inl same ↦
            passed_here n k (subst (λ j. (edge_at row j).to ≡ n) same p.leads) p.marked (subst (λ j. HasMark (edge_at row j).mask k) same p.lets)
        | inr other ↦
            grown.goes_on.more n k
            (so_far.passed n k (record { i = p.i; below = let b = p.below in omega (arith, b, other); leads = p.leads; marked = p.marked; lets = p.lets }))
      ]

  widened : (n k : ℕ) → HasMark (word_at m0 n) k ⊎ PassesTo row i by n k → HasMark (word_at m0 n) k ⊎ PassesTo row (i + 1) by n k
  widened n k (inl has) = inl has
  widened n k (inr p) = inr (wider row i by n k p)

  only_more : (n k : ℕ) → HasMark (word_at m' n) k → HasMark (word_at m0 n) k ⊎ PassesTo row (i + 1) by n k
  only_more n k has =
      elim (cases_eq n (edge_at row i).to) [
        | inl same ↦
            elim (or_cases (word_at m (edge_at row i).to) (bit_and by (edge_at row i).mask) k (subst (λ x. HasMark x k) (ap (word_at m') same ∙ grown.here) has)) [
              | inl old ↦ widened n k (so_far.only n k (subst (λ x. HasMark (word_at m x) k) (sym same) old))
              | inr new ↦
                  inr (record {
                    i = i;
                    below = omega arith;
                    leads = sym same;
                    marked = and_first by (edge_at row i).mask k new;
                    lets = and_second by (edge_at row i).mask k new;
                  })
            ]
        | inr other ↦ widened n k (so_far.only n k (subst (λ x. HasMark x k) (grown.others n other) has))
      ]

  pub propagate_more : IsPropagated row (i + 1) by m0 w0 s0 m' w' s'
  propagate_more =
      record { goes_on = goes_further m0 w0 s0 m w s m' w' s' so_far.goes_on grown.goes_on; passed = passed_more; only = only_more }

-- ---- all nodes

word_past : (marks : List ℕ) (n : ℕ) → length marks ≤ n → word_at marks n ≡ 0
word_past marks n past = get_or_past marks n 0 past

none_marked : (marks : List ℕ) (n k : ℕ) → word_at marks n ≡ 0 → HasMark (word_at marks n) k → ⊥
none_marked marks n k none has = none_in_zero k (subst (λ x. HasMark x k) none has)

pub propagation_starts : (rows : List (List Edge)) (first waiting : List ℕ) (waits : List Bool) → StartsWith first (length first) waiting waits
    → IsPropagating rows first first waiting waits
propagation_starts rows first waiting waits s =
    record {
      size = refl;
      waits_size = s.size;
      queue = s.queue;
      kept = λ n k has. has;
      sound = λ n k has. stands n k has;
      closed = λ n off m k p. elim (cases_lt n (length first)) [
        | inl below ↦ absurd (none_marked first n k (s.marked n below off) p.marked)
        | inr past ↦ absurd (none_marked first n k (word_past first n past) p.marked)
      ];
    }

module _ (rows : List (List Edge)) (first marks waiting : List ℕ) (waits : List Bool) (node : ℕ) (rest : List ℕ) (left : List Bool)
    (m' w' : List ℕ) (s' : List Bool) (so_far : IsPropagating rows first marks waiting waits) (taken : IsTaken waiting waits (Some node) rest left)
    (propagate : IsPropagated (edges_of rows node) (length (edges_of rows node)) (word_at marks node) marks rest left m' w' s') where
  sound_more : (n k : ℕ) → HasMark (word_at marks n) k ⊎ PassesTo (edges_of rows node) (length (edges_of rows node)) (word_at marks node) n k → Reaches rows first n k
  sound_more n k (inl old) = so_far.sound n k old
  sound_more n k (inr p) =
      subst (λ x. Reaches rows first x k) p.leads (passes node p.i k (so_far.sound node k p.marked) p.below p.lets)

  was_off : (n : ℕ) → n ≢ node → waits_at s' n ≡ false → waits_at waits n ≡ false
  was_off n other off =
      let before = off_before left s' n propagate.goes_on.still off (waits_at left n) refl in
      sym (ap (λ xs. waits_at xs n) taken.1.1.0 ∙ get_or-set_other waits node n false false other) ∙ before

  with_word : (n : ℕ) (x y m k : ℕ) → x ≡ y → PassesTo (edges_of rows n) (length (edges_of rows n)) x m k → PassesTo (edges_of rows n) (length (edges_of rows n)) y m k
  with_word n x y m k same p = subst (λ v. PassesTo (edges_of rows n) (length (edges_of rows n)) v m k) same p

  closed_more : (n : ℕ) → waits_at s' n ≡ false → IsClosed rows m' n
  closed_more n off m k p =
      let old = with_word n (word_at m' n) (word_at marks n) m k (propagate.goes_on.same n off) p in
      elim (cases_eq n node) [
        | inl same ↦
            propagate.passed m k (subst (λ x. PassesTo (edges_of rows x) (length (edges_of rows x)) (word_at marks x) m k) same old)
        | inr other ↦ propagate.goes_on.more m k (so_far.closed n (was_off n other off) m k old)
      ]

  pub propagation_more : IsPropagating rows first m' w' s'
  propagation_more =
      record {
        size = propagate.goes_on.size ∙ so_far.size;
        waits_size = propagate.goes_on.waits_size ∙ ap length taken.1.1.0 ∙ length-set waits node false ∙ so_far.waits_size;
        queue = propagate.goes_on.queue taken.1.1.1;
        kept = λ n k has. propagate.goes_on.more n k (so_far.kept n k has);
        sound = λ n k has. sound_more n k (propagate.only n k has);
        closed = closed_more;
      }

  pub propagation_less : missing m' + length w' < missing marks + length waiting
  propagation_less = let a = propagate.goes_on.less in let b = ap length taken.1.0 in omega (arith, a, b, length-append rest (node ∷ []))

pub none_waits : (waiting : List ℕ) (waits : List Bool) → waiting ≡ [] → IsQueue waiting waits → (n : ℕ) (b : Bool) → waits_at waits n ≡ b → waits_at waits n ≡ false
none_waits waiting waits none q n false is = is
none_waits waiting waits none q n true is =
    let has = q.listed n is in let below = has.1 in let empty = ap length none in absurd (omega (arith, below, empty))

module _ (rows : List (List Edge)) (first marks waiting : List ℕ) (waits : List Bool) (so_far : IsPropagating rows first marks waiting waits) (none : waiting ≡ []) where
  comes : (n k : ℕ) → Reaches rows first n k → HasMark (word_at marks n) k
  comes n k (stands a j has) = so_far.kept a j has
  comes n k (passes a i j r below lets) =
      so_far.closed a (none_waits waiting waits none so_far.queue a (waits_at waits a) refl) (edge_in rows a i).to j
      (record { i = i; below = below; leads = refl; marked = comes a j r; lets = lets })

  pub propagation_ends : (n k : ℕ) → HasMark (word_at marks n) k ↔ Reaches rows first n k
  propagation_ends n k = (so_far.sound n k, comes n k)

-- ---- rows of vectors

pub row_is : (rows : List (Vec Edge Global)) (n : ℕ) (row : Vec Edge Global) → n < length rows → row ≡ slice_index_or rows n row → edges_of (plain_rows rows) n ≡ row.items
row_is rows n row below is = get_or-map row_items rows n row [] below ∙ ap row_items (sym is)

-- its edges lead to nodes
pub row_inside : (rows : List (List Edge)) (count n : ℕ) (row : List Edge) → n < length rows → AreInside rows count → edges_of rows n ≡ row → IsRow row count
row_inside rows count n row below inside is = subst (λ r. IsRow r count) is (λ i less. inside n i below less)
