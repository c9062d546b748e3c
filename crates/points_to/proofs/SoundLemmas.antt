-- What is reached along the edges is derived.
use Rattle.std.proofs.Common.{◌≡◌, ◌⊎◌, inl, inr, ℕ, suc, ◌+◌, ◌<◌, ◌≤◌, true, List, [], ◌∷◌, length, drop, slice_index_or, refl, ◌∙◌, subst, arith}
use Rattle.std.proofs.lemmas.Bool.{cases_eq}
use Rattle.std.proofs.lemmas.List.{get_or_default}
use Rattle.std.proofs.lemmas.List.Elements.{Contains-get_or}
use Rattle.object_graph.specs.declared.parts.Graph.{Graph}
use Rattle.code_blocks.specs.Edges.{is_indirect_end}
use Rattle.code_blocks.specs.Numbers.{start_at, end_at}
use Rattle.code_blocks.specs.declared.parts.Unit.{Unit}
use Rattle.code_blocks.specs.declared.parts.Code.{Code}
use Rattle.code_blocks.specs.Leads.{IsBlockOf, LeadsAnywhere, units_at}
use Rattle.dataflow.specs.Points.{IsHolder, unit_of, instr_of, site_of, Makes, Held, Escaped, Derives}
use Rattle.dataflow.specs.Flows.{no_word}
use Rattle.points_to.specs.Nodes.{SourceEdges, UnitEdges, BlockEdges, AllEdges, entry, end_of, hub, memory, loaded, object_node}
use Rattle.dataflow.proofs.FactLemmas.{unit_next, Comes, comes}

-- what a node stands for
pub data Reports (c : Code) (g : Graph) (o : ℕ) : ℕ → Type 0 where
  at_entry : (b x m : ℕ) → IsBlockOf c b → IsHolder x → Derives c g o (Held b 0 x) → m ≡ entry b x → Reports c g o m
  at_end : (b y m : ℕ) → IsBlockOf c b → IsHolder y → Derives c g o (Held b (length (units_at c b)) y) → m ≡ end_of (length c.blocks.items) b y → Reports c g o m
  stored : (b m : ℕ) → IsBlockOf c b → Derives c g o Escaped → m ≡ end_of (length c.blocks.items) b 0 → Reports c g o m
  at_hub : (b y m : ℕ) → IsBlockOf c b → IsHolder y → is_indirect_end (end_at c b) ≡ true → Derives c g o (Held b (length (units_at c b)) y) → m ≡ hub (length c.blocks.items) y → Reports c g o m
  in_memory : (m : ℕ) → Derives c g o Escaped → m ≡ memory (length c.blocks.items) → Reports c g o m
  from_memory : (m : ℕ) → Derives c g o Escaped → m ≡ loaded (length c.blocks.items) → Reports c g o m
  begins : (m : ℕ) → m ≡ object_node (length c.blocks.items) o → Reports c g o m

module _ (c : Code) (g : Graph) (o : ℕ) where
  abbrev n : ℕ
  n = length c.blocks.items

  pub told_entry : (m : ℕ) → Reports c g o m → (b x : ℕ) → IsBlockOf c b → x < 32 → m ≡ entry b x → Derives c g o (Held b 0 x)
  told_entry m (Reports.at_entry d z _ there holder held is) b x below low at =
      let high = holder.1 in
      let block : d ≡ b = omega (arith, there, high, is, below, low, at) in
      let register : z ≡ x = omega (arith, there, high, is, below, low, at) in
      subst (λ (k : ℕ). Derives c g o (Held k 0 x)) block (subst (λ (k : ℕ). Derives c g o (Held d 0 k)) register held)
  told_entry m (Reports.at_end d z _ there holder held is) b x below low at = absurd (omega (arith, is, below, low, at))
  told_entry m (Reports.stored d _ there escaped is) b x below low at = absurd (omega (arith, is, below, low, at))
  told_entry m (Reports.at_hub d z _ there holder ends held is) b x below low at = absurd (omega (arith, is, below, low, at))
  told_entry m (Reports.in_memory _ escaped is) b x below low at = absurd (omega (arith, is, below, low, at))
  told_entry m (Reports.from_memory _ escaped is) b x below low at = absurd (omega (arith, is, below, low, at))
  told_entry m (Reports.begins _ is) b x below low at = absurd (omega (arith, is, below, low, at))

  told_end : (m : ℕ) → Reports c g o m → (b y : ℕ) → IsBlockOf c b → IsHolder y → m ≡ end_of n b y → Derives c g o (Held b (length (units_at c b)) y)
  told_end m (Reports.at_entry d z _ there holder held is) b y below register at = let high = holder.1 in absurd (omega (arith, there, high, is, at))
  told_end m (Reports.at_end d z _ there holder held is) b y below register at =
      let high = holder.1 in
      let low = register.1 in
      let block : d ≡ b = omega (arith, high, is, low, at) in
      let same : z ≡ y = omega (arith, high, is, low, at) in
      subst (λ (k : ℕ). Derives c g o (Held k (length (units_at c k)) y)) block (subst (λ (k : ℕ). Derives c g o (Held d (length (units_at c d)) k)) same held)
  told_end m (Reports.stored d _ there escaped is) b y below register at =
      let low = register.1 in
      let some = register.0 in
      absurd (omega (arith, is, low, some, at))
  told_end m (Reports.at_hub d z _ there holder ends held is) b y below register at = let low = register.1 in absurd (omega (arith, is, below, low, at))
  told_end m (Reports.in_memory _ escaped is) b y below register at = let low = register.1 in absurd (omega (arith, is, below, low, at))
  told_end m (Reports.from_memory _ escaped is) b y below register at = let low = register.1 in absurd (omega (arith, is, below, low, at))
  told_end m (Reports.begins _ is) b y below register at = let low = register.1 in absurd (omega (arith, is, below, low, at))

  told_stored : (m : ℕ) → Reports c g o m → (b : ℕ) → IsBlockOf c b → m ≡ end_of n b 0 → Derives c g o Escaped
  told_stored m (Reports.at_entry d z _ there holder held is) b below at = let high = holder.1 in absurd (omega (arith, there, high, is, at))
  told_stored m (Reports.at_end d z _ there holder held is) b below at =
      let high = holder.1 in
      let some = holder.0 in
      absurd (omega (arith, high, some, is, at))
  told_stored m (Reports.stored d _ there escaped is) b below at = escaped
  told_stored m (Reports.at_hub d z _ there holder ends held is) b below at = absurd (omega (arith, is, below, at))
  told_stored m (Reports.in_memory _ escaped is) b below at = escaped
  told_stored m (Reports.from_memory _ escaped is) b below at = escaped
  told_stored m (Reports.begins _ is) b below at = absurd (omega (arith, is, below, at))

  record AtHub (y : ℕ) : Type 0 where
    block : ℕ
    below : IsBlockOf c block
    ends : is_indirect_end (end_at c block) ≡ true
    held : Derives c g o (Held block (length (units_at c block)) y)

  told_hub : (m : ℕ) → Reports c g o m → (y : ℕ) → IsHolder y → m ≡ hub n y → AtHub y
  told_hub m (Reports.at_entry d z _ there holder held is) y register at = let high = holder.1 in absurd (omega (arith, there, high, is, at))
  told_hub m (Reports.at_end d z _ there holder held is) y register at = let high = holder.1 in absurd (omega (arith, there, high, is, at))
  told_hub m (Reports.stored d _ there escaped is) y register at = absurd (omega (arith, there, is, at))
  told_hub m (Reports.at_hub d z _ there holder ends held is) y register at =
      let same : z ≡ y = omega (arith, is, at) in
      record { block = d; below = there; ends = ends; held = subst (λ (k : ℕ). Derives c g o (Held d (length (units_at c d)) k)) same held }
  told_hub m (Reports.in_memory _ escaped is) y register at = let low = register.1 in absurd (omega (arith, is, low, at))
  told_hub m (Reports.from_memory _ escaped is) y register at = let low = register.1 in absurd (omega (arith, is, low, at))
  told_hub m (Reports.begins _ is) y register at = let low = register.1 in absurd (omega (arith, is, low, at))

  pub told_memory : (m : ℕ) → Reports c g o m → (m ≡ memory n) ⊎ (m ≡ loaded n) → Derives c g o Escaped
  told_memory m (Reports.at_entry d z _ there holder held is) at =
      let high = holder.1 in
      elim at [ inl at ↦ absurd (omega (arith, there, high, is, at)) | inr at ↦ absurd (omega (arith, there, high, is, at)) ]
  told_memory m (Reports.at_end d z _ there holder held is) at =
      let high = holder.1 in
      elim at [ inl at ↦ absurd (omega (arith, there, high, is, at)) | inr at ↦ absurd (omega (arith, there, high, is, at)) ]
  told_memory m (Reports.stored d _ there escaped is) at = escaped
  told_memory m (Reports.at_hub d z _ there holder ends held is) at =
      let high = holder.1 in
      elim at [ inl at ↦ absurd (omega (arith, high, is, at)) | inr at ↦ absurd (omega (arith, high, is, at)) ]
  told_memory m (Reports.in_memory _ escaped is) at = escaped
  told_memory m (Reports.from_memory _ escaped is) at = escaped
  told_memory m (Reports.begins _ is) at =
      elim at [ inl at ↦ absurd (omega (arith, is, at)) | inr at ↦ absurd (omega (arith, is, at)) ]

  told_object : (m : ℕ) → Reports c g o m → (p : ℕ) → m ≡ object_node n p → p ≡ o
  told_object m (Reports.at_entry d z _ there holder held is) p at = let high = holder.1 in absurd (omega (arith, there, high, is, at))
  told_object m (Reports.at_end d z _ there holder held is) p at = let high = holder.1 in absurd (omega (arith, there, high, is, at))
  told_object m (Reports.stored d _ there escaped is) p at = absurd (omega (arith, there, is, at))
  told_object m (Reports.at_hub d z _ there holder ends held is) p at = let high = holder.1 in absurd (omega (arith, high, is, at))
  told_object m (Reports.in_memory _ escaped is) p at = absurd (omega (arith, is, at))
  told_object m (Reports.from_memory _ escaped is) p at = absurd (omega (arith, is, at))
  told_object m (Reports.begins _ is) p at = omega (arith, is, at)

  -- a node at the end of a block
  arrives : (b y t : ℕ) → IsBlockOf c b → y < 32 → t ≡ end_of n b 0 + y → Comes c g o b y → Reports c g o t
  arrives b y t below low at come =
      elim (cases_eq y 0) [
        | inl none ↦ Reports.stored b t below (come.escapes none) (omega (arith, none, at))
        | inr some ↦ let holder : IsHolder y = (omega (arith, some), low) in Reports.at_end b y t below holder (come.register holder.0) (omega (arith, at))
      ]

  -- ---- along edges

  source_sound : (us : List Unit) (b k f t : ℕ) → IsBlockOf c b → k < length (units_at c b) → drop (suc k) (units_at c b) ≡ us → SourceEdges n b g.sites.items (unit_of c b k) us f t → Reports c g o f → Reports c g o t
  source_sound us b k f t below inside rest (SourceEdges.made x p holder makes up) from =
      let (leads, leaves, at) = up.edge in
      let same : p ≡ o = told_object f from p leaves in
      let held = Derives.site b k x inside holder (subst (λ (q : ℕ). Makes (site_of c g b k) (instr_of c b k) q x) same makes) in
      arrives b up.place t below up.below at (comes c g o us b (suc k) x up.place (omega (arith, inside)) rest holder leads held)
  source_sound us b k f t below inside rest (SourceEdges.gained x holder loads up) from =
      let (leads, leaves, at) = up.edge in
      let held = Derives.load b k x inside holder loads (told_memory f from (inr leaves)) in
      arrives b up.place t below up.below at (comes c g o us b (suc k) x up.place (omega (arith, inside)) rest holder leads held)

  unit_sound : (us : List Unit) (b k f t : ℕ) → IsBlockOf c b → k ≤ length (units_at c b) → drop k (units_at c b) ≡ us → UnitEdges n b g.sites.items us f t → Reports c g o f → Reports c g o t
  unit_sound [] b k f t below within is edge from = absurd edge
  unit_sound (u ∷ us) b k f t below within is edge from =
      let (inside, unit, rest) = unit_next c g o u us b k is in
      elim edge [
        | inl source ↦ source_sound us b k f t below inside rest (subst (λ (v : Unit). SourceEdges n b g.sites.items v us f t) unit source) from
        | inr later ↦ unit_sound us b (suc k) f t below (omega (arith, inside)) rest later from
      ]

  block_sound : (b f t : ℕ) → IsBlockOf c b → BlockEdges c g n b f t → Reports c g o f → Reports c g o t
  block_sound b f t below (BlockEdges.inside edge) from = unit_sound (units_at c b) b 0 f t below (omega arith) refl edge from
  block_sound b f t below (BlockEdges.across up) from =
      let x = up.place in
      let (register, flow) = up.edge in
      let (leads, leaves, at) = flow.edge in
      let held = told_entry f from b x below up.below leaves in
      arrives b flow.place t below flow.below at (comes c g o (units_at c b) b 0 x flow.place (omega arith) refl (register, up.below) leads held)
  block_sound b f t below (BlockEdges.onward (d, on, up)) from =
      let (register, leaves, at) = up.edge in
      let holder : IsHolder up.place = (register, up.below) in
      let held = told_end f from b up.place below holder (omega (arith, leaves)) in
      Reports.at_entry d up.place t on.to holder (Derives.next b d up.place on held) (omega (arith, at))
  block_sound b f t below (BlockEdges.leaving (ends, up)) from =
      let (register, leaves, at) = up.edge in
      let holder : IsHolder up.place = (register, up.below) in
      let held = told_end f from b up.place below holder (omega (arith, leaves)) in
      Reports.at_hub b up.place t below holder ends held (omega (arith, at))
  block_sound b f t below (BlockEdges.storing (leaves, at)) from = Reports.in_memory t (told_stored f from b below leaves) at

  pub edge_sound : (f t : ℕ) → AllEdges c g n f t → Reports c g o f → Reports c g o t
  edge_sound f t (AllEdges.of_block up) from = block_sound up.place f t up.below up.edge from
  edge_sound f t (AllEdges.arriving up) from =
      let (d, there, address, registers) = up.edge in
      let (register, leaves, at) = registers.edge in
      let holder : IsHolder registers.place = (register, registers.below) in
      let hub_at = told_hub f from registers.place holder (omega (arith, leaves)) in
      let on : LeadsAnywhere c hub_at.block d = record { from = hub_at.below; to = there; ends = hub_at.ends; listed = (up.place, up.below, get_or_default c.indirect.items up.place (start_at c d) 0 up.below ∙ address) } in
      Reports.at_entry d registers.place t there holder (Derives.anywhere hub_at.block d registers.place on hub_at.held) (omega (arith, at))
  edge_sound f t (AllEdges.of_word up) from =
      let (leaves, at) = up.edge in
      let same = told_object f from (slice_index_or g.data_words.items up.place no_word).object leaves in
      Reports.in_memory t (Derives.word (slice_index_or g.data_words.items up.place no_word) (Contains-get_or g.data_words.items up.place no_word up.below) same) at
