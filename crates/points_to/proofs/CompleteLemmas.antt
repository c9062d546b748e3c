-- What is derived is reached along the edges.
use Rattle.std.proofs.Common.{◌≡◌, inl, inr, ℕ, zero, suc, ◌+◌, ◌<◌, List, [], ◌∷◌, length, drop, slice_index_or, refl, sym, ◌∙◌, ap, subst, arith}
use Rattle.std.proofs.Math.Seq.{drop-cons, drop-length}
use Rattle.std.proofs.lemmas.List.{get_or_default}
use Rattle.object_graph.specs.declared.parts.DataWord.{DataWord}
use Rattle.object_graph.specs.declared.parts.Graph.{Graph}
use Rattle.code_blocks.specs.Numbers.{start_at}
use Rattle.code_blocks.specs.declared.parts.Unit.{Unit}
use Rattle.code_blocks.specs.declared.parts.Code.{Code}
use Rattle.code_blocks.specs.Leads.{IsBlockOf, units_at, no_unit}
use Rattle.dataflow.specs.Points.{IsHolder, unit_of, instr_of, site_of, Fact, Held, Escaped, Derives}
use Rattle.dataflow.specs.Flows.{PassesAt, Leads, no_word}
use Rattle.points_to.specs.Nodes.{SourceEdges, UnitEdges, BlockEdges, AllEdges, entry, end_of, hub, memory, loaded, object_node}
use Rattle.dataflow.proofs.FactLemmas.{unit_in_block}
use Rattle.dataflow.proofs.RuleLemmas.{moves_pass, sums_pass, stores_stored, written_defined}

-- a set of nodes that the edges close, with an object, and with what is loaded where memory is in it
pub record IsClosed (c : Code) (g : Graph) (n o : ℕ) (R : ℕ → Type 0) : Type 0 where
  pub along : (f t : ℕ) → AllEdges c g n f t → R f → R t
  pub loads : R (memory n) → R (loaded n)
  pub begins : R (object_node n o)

-- what the set must have for a fact
pub record HasHeld (c : Code) (g : Graph) (n b k x : ℕ) (R : ℕ → Type 0) : Type 0 where
  pub holder : IsHolder x
  pub begins : k ≡ 0 → R (entry b x)
  pub leads : (y : ℕ) → y < 32 → Leads g.sites.items (drop k (units_at c b)) x y → R (end_of n b 0 + y)

abbrev HasFact : Code → Graph → ℕ → (ℕ → Type 0) → Fact → Type 0
HasFact c g n R (Held b k x) = HasHeld c g n b k x R
HasFact c g n R Escaped = R (memory n)

module _ (c : Code) (g : Graph) (n o : ℕ) (R : ℕ → Type 0) (closed : IsClosed c g n o R) where
  -- the edges of one unit are among those of its block
  source_edge : (b : ℕ) (us : List Unit) (k f t : ℕ) → k < length us → SourceEdges n b g.sites.items (slice_index_or us k no_unit) (drop (suc k) us) f t → UnitEdges n b g.sites.items us f t
  source_edge b [] k f t below edge = absurd (omega (arith, below))
  source_edge b (u ∷ us) zero f t below edge = inl edge
  source_edge b (u ∷ us) (suc k) f t below edge = inr (source_edge b us k f t (omega (arith, below)) edge)

  of_unit : (b k f t : ℕ) → k < length (units_at c b) → SourceEdges n b g.sites.items (unit_of c b k) (drop (suc k) (units_at c b)) f t → R f → R t
  of_unit b k f t inside edge has =
      closed.along f t (AllEdges.of_block (record { place = b; below = unit_in_block c b k inside; edge = BlockEdges.inside (source_edge b (units_at c b) k f t inside edge) })) has

  -- what a unit passes on
  onward : (b k x z : ℕ) → k < length (units_at c b) → IsHolder z → PassesAt g.sites.items (unit_of c b k) x z → HasHeld c g n b k x R → HasHeld c g n b (suc k) z R
  onward b k x z inside holder passes has = record {
    holder = holder;
    begins = λ first. absurd (omega (arith, first));
    leads = λ y low leads.
        let next = drop-cons (units_at c b) k no_unit inside in
        has.leads y low (subst (λ (us : List Unit). Leads g.sites.items us x y) (sym next) (inr (z, holder, passes, leads)));
  }

  -- what comes to the beginning of a block
  at_begin : (d x : ℕ) → IsBlockOf c d → IsHolder x → R (entry d 0 + x) → HasHeld c g n d 0 x R
  at_begin d x below holder has =
      let same : entry d 0 + x ≡ entry d x = omega arith in
      let here : R (entry d x) = subst R same has in record {
        holder = holder;
        begins = λ first. here;
        leads = λ y low leads.
            closed.along (entry d x) (end_of n d 0 + y)
            (AllEdges.of_block (record { place = d; below = below; edge = BlockEdges.across (record { place = x; below = holder.1; edge = (holder.0, record { place = y; below = low; edge = (leads, refl, refl) }) }) }))
            here;
      }

  at_end : (b x : ℕ) → HasHeld c g n b (length (units_at c b)) x R → R (end_of n b 0 + x)
  at_end b x has =
      has.leads x has.holder.1 (subst (λ (us : List Unit). Leads g.sites.items us x x) (sym (drop-length (units_at c b))) refl)

  pub complete : (fact : Fact) → Derives c g o fact → HasFact c g n R fact
  complete _ (Derives.site b k x inside holder makes) = record {
    holder = holder;
    begins = λ first. absurd (omega (arith, first));
    leads = λ y low leads.
        of_unit b k (object_node n o) (end_of n b 0 + y) inside
        (SourceEdges.made x o holder makes (record { place = y; below = low; edge = (leads, refl, refl) })) closed.begins;
  }
  complete _ (Derives.move b k x z inside holder moves before) =
      onward b k x z inside holder (moves_pass (site_of c g b k) (instr_of c b k) x z moves) (complete (Held b k x) before)
  complete _ (Derives.sum b k x z inside holder sums before) =
      onward b k x z inside holder (sums_pass (site_of c g b k) (instr_of c b k) x z sums) (complete (Held b k x) before)
  complete _ (Derives.keep b k x inside kept before) =
      let has = complete (Held b k x) before in
      onward b k x x inside has.holder (inl (refl, λ same. kept (written_defined (instr_of c b k) x has.holder.0 same))) has
  complete _ (Derives.store b k x inside stores before) =
      let has = complete (Held b k x) before in
      let next = drop-cons (units_at c b) k no_unit inside in
      let there = has.leads 0 (omega arith) (subst (λ (us : List Unit). Leads g.sites.items us x 0) (sym next) (inl (refl, stores_stored (instr_of c b k) x stores))) in
      let same : end_of n b 0 + 0 ≡ end_of n b 0 = omega arith in
      closed.along (end_of n b 0) (memory n)
      (AllEdges.of_block (record { place = b; below = unit_in_block c b k inside; edge = BlockEdges.storing (refl, refl) }))
      (subst R same there)
  complete _ (Derives.load b k z inside holder loads escaped) = record {
    holder = holder;
    begins = λ first. absurd (omega (arith, first));
    leads = λ y low leads.
        of_unit b k (loaded n) (end_of n b 0 + y) inside
        (SourceEdges.gained z holder loads (record { place = y; below = low; edge = (leads, refl, refl) }))
        (closed.loads (complete Escaped escaped));
  }
  complete _ (Derives.word d (i, below, is) means) =
      let first : slice_index_or g.data_words.items i no_word ≡ d = get_or_default g.data_words.items i no_word d below ∙ is in
      let object : (slice_index_or g.data_words.items i no_word).object ≡ o = ap (λ (w : DataWord). w.object) first ∙ means in
      closed.along (object_node n o) (memory n)
      (AllEdges.of_word (record { place = i; below = below; edge = (ap (object_node n) (sym object), refl) }))
      closed.begins
  complete _ (Derives.next b d x on before) =
      let has = complete (Held b (length (units_at c b)) x) before in
      at_begin d x on.to has.holder
      (closed.along (end_of n b 0 + x) (entry d 0 + x)
      (AllEdges.of_block (record { place = b; below = on.from; edge = BlockEdges.onward (d, on, record { place = x; below = has.holder.1; edge = (has.holder.0, refl, refl) }) }))
      (at_end b x has))
  complete _ (Derives.anywhere b d x on before) =
      let has = complete (Held b (length (units_at c b)) x) before in
      let (i, below, is) = on.listed in
      let address : slice_index_or c.indirect.items i 0 ≡ start_at c d = get_or_default c.indirect.items i 0 (start_at c d) below ∙ is in
      at_begin d x on.to has.holder
      (closed.along (hub n 0 + x) (entry d 0 + x)
      (AllEdges.arriving (record { place = i; below = below; edge = (d, on.to, address, record { place = x; below = has.holder.1; edge = (has.holder.0, refl, refl) }) }))
      (closed.along (end_of n b 0 + x) (hub n 0 + x)
      (AllEdges.of_block (record { place = b; below = on.from; edge = BlockEdges.leaving (on.ends, record { place = x; below = has.holder.1; edge = (has.holder.0, refl, refl) }) }))
      (at_end b x has)))
