-- What marks reach along the edges of a program is what is derived.
use Rattle.std.proofs.Common.{◌≡◌, ◌⊎◌, inl, inr, ℕ, ◌+◌, ◌<◌, List, [], length, replicate, refl, sym, ◌∙◌, ap, subst, arith}
use Rattle.std.specs.Prelude.{◌↔◌}
use Rattle.std.proofs.lemmas.Bool.{cases_lt}
use Rattle.std.proofs.lemmas.List.{get_or-replicate, get_or_past, length-replicate}
use Rattle.std.proofs.lemmas.Nat.Bits.{bit_at_ones}
use Rattle.object_graph.specs.declared.parts.Graph.{Graph}
use Rattle.code_blocks.specs.declared.parts.Code.{Code}
use Rattle.reach_graph.specs.Reaching.{HasMark, word_at, edges_of, edge_in, Reaches}
use Rattle.reach_graph.specs.declared.edges.Edge.{Edge}
use Rattle.code_blocks.specs.Leads.{IsBlockOf}
use Rattle.dataflow.specs.Points.{Held, Escaped, Derives}
use Rattle.points_to.specs.Nodes.{all_marks, Adds, AllEdges, AreEdges, node_count, entry, memory, loaded, object_node}
use Rattle.points_to.specs.Tables.{Begins}
use Rattle.points_to.proofs.CompleteLemmas.{IsClosed, complete}
use Rattle.points_to.proofs.SoundLemmas.{Reports, told_entry, told_memory, edge_sound}

-- ---- the edges of a program

none_of : (count f : ℕ) → edges_of (replicate count []) f ≡ []
none_of count f =
    elim (cases_lt f count) [
      | inl below ↦ get_or-replicate count f [] [] below
      | inr past ↦ get_or_past (replicate count []) f [] (omega (arith, past, length-replicate {A = List Edge} count []))
    ]

none_below : (count : ℕ) (rows : List (List Edge)) (f i : ℕ) → rows ≡ replicate count [] → i < length (edges_of rows f) → ⊥
none_below count rows f i bare inside =
    let none : length (edges_of rows f) ≡ 0 = ap (λ (rs : List (List Edge)). length (edges_of rs f)) bare ∙ ap length (none_of count f) in
    omega (arith, inside, none)

pub edges_are : (c : Code) (g : Graph) (n objects count : ℕ) (none rows : List (List Edge)) → none ≡ replicate count [] → count ≡ node_count n objects → Adds (AllEdges c g n) none rows → AreEdges c g n objects rows
edges_are c g n objects count none rows bare same adds = record {
  size = adds.size ∙ ap length bare ∙ length-replicate {A = List Edge} count [] ∙ same;
  edges = λ f t. (
    λ has. elim ((adds.edges f t).0 has) [ inl (i, inside, is) ↦ absurd (none_below count none f i bare inside) | inr edge ↦ edge ],
    λ edge. (adds.edges f t).1 (inr edge),
  );
  full = adds.full (λ f i inside. absurd (none_below count none f i bare inside));
}

-- ---- marks along them

every_mark : (k : ℕ) → k < 64 → HasMark all_marks k
unfolding all_marks
every_mark k below = bit_at_ones 64 k below

module _ (c : Code) (g : Graph) (o objects : ℕ) (rows : List (List Edge)) (are : AreEdges c g (length c.blocks.items) objects rows) where
  follow : (marks : List ℕ) (f t k : ℕ) → k < 64 → AllEdges c g (length c.blocks.items) f t → Reaches rows marks f k → Reaches rows marks t k
  follow marks f t k below edge reached =
      let (i, inside, leads) = (are.edges f t).1 edge in
      subst (λ (m : ℕ). Reaches rows marks m k) leads
      (Reaches.passes f i k reached inside (subst (λ (w : ℕ). HasMark w k) (sym (are.full f i inside)) (every_mark k below)))

  sound : (marks : List ℕ) (k : ℕ) → ((m : ℕ) → HasMark (word_at marks m) k → Reports c g o m) → (m : ℕ) → Reaches rows marks m k → Reports c g o m
  sound marks k starts _ (Reaches.stands m _ has) = starts m has
  sound marks k starts _ (Reaches.passes m i _ reached inside passes) =
      edge_sound c g o m (edge_in rows m i).to ((are.edges m (edge_in rows m i).to).0 (i, inside, refl)) (sound marks k starts m reached)

  -- the nodes of an object, or of what is loaded where it reaches memory
  abbrev Either : List ℕ → List ℕ → ℕ → ℕ → Type 0
  Either own loads k m = Reaches rows own m k ⊎ (Reaches rows own (memory (length c.blocks.items)) k × Reaches rows loads m 0)

  pub own_sound : (own : List ℕ) (first count k : ℕ) → Begins first count own → object_node (length c.blocks.items) o ≡ first + k → (m : ℕ) → Reaches rows own m k → Reports c g o m
  own_sound own first count k begin is = sound own k (λ m has. Reports.begins m (begin.only m k has ∙ sym is))

  pub loads_sound : (loads : List ℕ) → Begins (loaded (length c.blocks.items)) 1 loads → Derives c g o Escaped → (m : ℕ) → Reaches rows loads m 0 → Reports c g o m
  loads_sound loads loading escaped =
      let n = length c.blocks.items in
      let same : loaded n + 0 ≡ loaded n = omega arith in
      sound loads 0 (λ m has. Reports.from_memory m escaped (loading.only m 0 has ∙ same))

  closed : (own loads : List ℕ) (first count k : ℕ) → k < count → k < 64 → Begins first count own → Begins (loaded (length c.blocks.items)) 1 loads → object_node (length c.blocks.items) o ≡ first + k → IsClosed c g (length c.blocks.items) o (Either own loads k)
  closed own loads first count k inside below begin loading is = record {
    along = λ f t edge has. elim has [
      | inl reached ↦ inl (follow own f t k below edge reached)
      | inr (stored, reached) ↦ inr (stored, follow loads f t 0 (omega arith) edge reached)
    ];
    loads = λ has.
        let n = length c.blocks.items in
        let same : loaded n + 0 ≡ loaded n = omega arith in
        let start : Reaches rows loads (loaded n) 0 = Reaches.stands (loaded n) 0 (subst (λ (m : ℕ). HasMark (word_at loads m) 0) same (loading.there 0 (omega arith))) in
        elim has [ inl stored ↦ inr (stored, start) | inr (stored, reached) ↦ inr (stored, start) ];
    begins = inl (Reaches.stands (object_node (length c.blocks.items) o) k (subst (λ (m : ℕ). HasMark (word_at own m) k) (sym is) (begin.there k inside)));
  }

  pub escapes_exact : (own loads : List ℕ) (first count k : ℕ) → k < count → k < 64 → Begins first count own → Begins (loaded (length c.blocks.items)) 1 loads → object_node (length c.blocks.items) o ≡ first + k → Reaches rows own (memory (length c.blocks.items)) k ↔ Derives c g o Escaped
  escapes_exact own loads first count k inside below begin loading is =
      let n = length c.blocks.items in (
        λ reached. told_memory c g o (memory n) (own_sound own first count k begin is (memory n) reached) (inl refl),
        λ escaped. elim (complete c g n o (Either own loads k) (closed own loads first count k inside below begin loading is) Escaped escaped) [ inl reached ↦ reached | inr (reached, _) ↦ reached ],
      )

  pub may_exact : (own loads : List ℕ) (first count k b x : ℕ) → k < count → k < 64 → Begins first count own → Begins (loaded (length c.blocks.items)) 1 loads → object_node (length c.blocks.items) o ≡ first + k → IsBlockOf c b → x < 32 → Either own loads k (entry b x) ↔ Derives c g o (Held b 0 x)
  may_exact own loads first count k b x inside below begin loading is there low =
      let n = length c.blocks.items in (
        λ has. elim has [
          | inl reached ↦ told_entry c g o (entry b x) (own_sound own first count k begin is (entry b x) reached) b x there low refl
          | inr (stored, reached) ↦
              let escaped = told_memory c g o (memory n) (own_sound own first count k begin is (memory n) stored) (inl refl) in
              told_entry c g o (entry b x) (loads_sound loads loading escaped (entry b x) reached) b x there low refl
        ],
        λ held. (complete c g n o (Either own loads k) (closed own loads first count k inside below begin loading is) (Held b 0 x) held).begins refl,
      )
