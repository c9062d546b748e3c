-- The edges of blocks.
use Rattle.std.proofs.Common.{◌≡◌, ◌⊎◌, inl, inr, ℕ, ◌<◌, true, false, List, map, length, slice_index_or, sym, ◌∙◌, subst, arith}
use Rattle.std.specs.Prelude.{◌↔◌}
use Rattle.std.specs.List.{Contains, filter}
use Rattle.std.specs.List.Sorted.{IsStrictlyIncreasing}
use Rattle.std.proofs.lemmas.Bool.{cases_order}
use Rattle.std.proofs.lemmas.List.{length-map, get_or-map}
use Rattle.std.proofs.lemmas.List.Kept.{AllPairs-from_increasing}
use Rattle.object_graph.specs.declared.parts.Graph.{Graph}
use Rattle.object_graph.specs.declared.parts.Site.{Site}
use Rattle.code_blocks.specs.Early.{has}
use Rattle.code_blocks.specs.Edges.{successors, is_indirect_end}
use Rattle.code_blocks.specs.Numbers.{starts_of, start_at, end_at, AreNumbersAt}
use Rattle.code_blocks.specs.Blocks.{start_of}
use Rattle.code_blocks.specs.declared.parts.Unit.{Unit}
use Rattle.code_blocks.specs.declared.parts.Code.{Code}
use Rattle.code_blocks.proofs.ListLemmas.{has_at}
use Rattle.dataflow.proofs.ListLemmas.{kept, from_kept}
use Rattle.code_blocks.specs.Leads.{IsBlockOf, units_at}
use Rattle.points_to.specs.Rows.{AreRows}
use Rattle.points_to.specs.Nodes.{Adds, Upto, OneEdge, RegisterEdge, RowEdge, UnitEdges, EntryEdge, StepEdge, NextEdges, LeaveEdges, BlockEdges, ArrivalEdge, WordEdge, AllEdges, entry, end_of, hub, memory}
use Rattle.points_to.specs.declared.flows.Places.{Places}
use Rattle.reach_graph.specs.declared.edges.Edge.{Edge}
use Rattle.points_to.proofs.EdgeLemmas.{adds_none, adds_both, adds_same, upto_same}
use Rattle.points_to.proofs.SourceLemmas.{place_flow}

-- ---- numbers of blocks

pub same_start : (c : Code) (i j : ℕ) → IsStrictlyIncreasing (starts_of c) → IsBlockOf c i → IsBlockOf c j → start_at c i ≡ start_at c j → i ≡ j
same_start c i j ascending one other same =
    let count = length-map c.blocks.items start_of in
    let pairs = AllPairs-from_increasing (starts_of c) ascending in
    elim (cases_order i j) [
      | inl is ↦ is
      | inr differs ↦ elim differs [
        | inl before ↦ let less = pairs i j 0 before (omega (arith, other, count)) in absurd (omega (arith, less, same))
        | inr behind ↦ let less = pairs j i 0 behind (omega (arith, one, count)) in absurd (omega (arith, less, same))
      ]
    ]

pub starts_there : (c : Code) (d : ℕ) → IsBlockOf c d → has (starts_of c) (start_at c d) ≡ true
starts_there c d below = let count = length-map c.blocks.items start_of in has_at (starts_of c) d 0 (omega (arith, below, count))

pub steps_next : (c : Code) (n b : ℕ) (numbers : List ℕ) (f t : ℕ) → IsStrictlyIncreasing (starts_of c) → IsBlockOf c b → AreNumbersAt c (successors (end_at c b)) numbers → NextEdges c n b f t ↔ Upto (length numbers) (StepEdge n b numbers) f t
steps_next c n b numbers f t ascending from are =
    let addresses = successors (end_at c b) in
    let count = length-map numbers (start_at c) in (
      λ (d, on, edges).
          let wanted : Contains (filter (has (starts_of c)) addresses) (start_at c d) = kept (has (starts_of c)) addresses (start_at c d) on.leads (starts_there c d on.to) in
          let (i, below, is) = subst (λ (xs : List ℕ). Contains xs (start_at c d)) (sym are.starts) wanted in
          let inside : i < length numbers = omega (arith, below, count) in
          let start : start_at c (slice_index_or numbers i 0) ≡ start_at c d = sym (get_or-map (start_at c) numbers i 0 (start_at c d) inside) ∙ is in
          let number : d ≡ slice_index_or numbers i 0 = same_start c d (slice_index_or numbers i 0) ascending on.to (are.below i 0 inside) (sym start) in
          record { place = i; below = inside; edge = subst (λ (e : ℕ). Upto 32 (RegisterEdge (end_of n b 0) (entry e 0)) f t) number edges },
      λ up.
          let i = up.place in
          let inside = up.below in
          let d = slice_index_or numbers i 0 in
          let start = get_or-map (start_at c) numbers i 0 (start_at c d) inside in
          let there : Contains (map (start_at c) numbers) (start_at c d) = (i, omega (arith, inside, count), start) in
          let leads = from_kept (has (starts_of c)) addresses (start_at c d) (subst (λ (xs : List ℕ). Contains xs (start_at c d)) are.starts there) in
          (d, record { from = from; to = are.below i 0 inside; leads = leads }, up.edge),
    )

-- ---- the edges of one block

pub entries_rows : (n b : ℕ) (sites : List Site) (us : List Unit) (rows : List Places) (f t : ℕ) → AreRows sites us rows → Upto 32 (EntryEdge n b sites us) f t ↔ Upto 32 (RowEdge n b rows) f t
entries_rows n b sites us rows f t are =
    upto_same 32 (EntryEdge n b sites us) (RowEdge n b rows) f t (λ x below. (
      λ (register, edges). (register, (place_flow n b sites us rows x (entry b x) f t are (register, below)).0 edges),
      λ (register, edges). (register, (place_flow n b sites us rows x (entry b x) f t are (register, below)).1 edges),
    ))

pub block_parts : (c : Code) (g : Graph) (n b : ℕ) (f t : ℕ) → BlockEdges c g n b f t → ((((UnitEdges n b g.sites.items (units_at c b) f t ⊎ Upto 32 (EntryEdge n b g.sites.items (units_at c b)) f t) ⊎ NextEdges c n b f t) ⊎ LeaveEdges c n b f t) ⊎ OneEdge (end_of n b 0) (memory n) f t)
block_parts c g n b f t (BlockEdges.inside edges) = inl (inl (inl (inl edges)))
block_parts c g n b f t (BlockEdges.across edges) = inl (inl (inl (inr edges)))
block_parts c g n b f t (BlockEdges.onward edges) = inl (inl (inr edges))
block_parts c g n b f t (BlockEdges.leaving edges) = inl (inr edges)
block_parts c g n b f t (BlockEdges.storing edge) = inr edge

block_whole : (c : Code) (g : Graph) (n b : ℕ) (f t : ℕ) → ((((UnitEdges n b g.sites.items (units_at c b) f t ⊎ Upto 32 (EntryEdge n b g.sites.items (units_at c b)) f t) ⊎ NextEdges c n b f t) ⊎ LeaveEdges c n b f t) ⊎ OneEdge (end_of n b 0) (memory n) f t) → BlockEdges c g n b f t
block_whole c g n b f t (inl (inl (inl (inl edges)))) = BlockEdges.inside edges
block_whole c g n b f t (inl (inl (inl (inr edges)))) = BlockEdges.across edges
block_whole c g n b f t (inl (inl (inr edges))) = BlockEdges.onward edges
block_whole c g n b f t (inl (inr edges)) = BlockEdges.leaving edges
block_whole c g n b f t (inr edge) = BlockEdges.storing edge

-- either of two sets
abbrev Or : (ℕ → ℕ → Type 0) → (ℕ → ℕ → Type 0) → ℕ → ℕ → Type 0
Or S T f t = S f t ⊎ T f t

joined : (S T : ℕ → ℕ → Type 0) (a b c : List (List Edge)) → Adds S a b → Adds T b c → Adds (Or S T) a c
joined S T a b c one other = adds_both S T (Or S T) a b c one other (λ f t. (λ edge. edge, λ edge. edge))

pub block_adds : (c : Code) (g : Graph) (n b : ℕ) (rows : List Places) (r0 r1 r2 r3 r4 r5 : List (List Edge)) → AreRows g.sites.items (units_at c b) rows → Adds (UnitEdges n b g.sites.items (units_at c b)) r0 r1 → Adds (Upto 32 (RowEdge n b rows)) r1 r2 → Adds (NextEdges c n b) r2 r3 → Adds (LeaveEdges c n b) r3 r4 → Adds (OneEdge (end_of n b 0) (memory n)) r4 r5 → Adds (BlockEdges c g n b) r0 r5
block_adds c g n b rows r0 r1 r2 r3 r4 r5 are units entries next leave store =
    let sites = g.sites.items in
    let us = units_at c b in
    let across = adds_same (Upto 32 (RowEdge n b rows)) (Upto 32 (EntryEdge n b sites us)) r1 r2 entries (λ f t. entries_rows n b sites us rows f t are) in
    let one = joined (UnitEdges n b sites us) (Upto 32 (EntryEdge n b sites us)) r0 r1 r2 units across in
    let two = joined (Or (UnitEdges n b sites us) (Upto 32 (EntryEdge n b sites us))) (NextEdges c n b) r0 r2 r3 one next in
    let three = joined (Or (Or (UnitEdges n b sites us) (Upto 32 (EntryEdge n b sites us))) (NextEdges c n b)) (LeaveEdges c n b) r0 r3 r4 two leave in
    adds_both (Or (Or (Or (UnitEdges n b sites us) (Upto 32 (EntryEdge n b sites us))) (NextEdges c n b)) (LeaveEdges c n b)) (OneEdge (end_of n b 0) (memory n)) (BlockEdges c g n b) r0 r4 r5 three store
    (λ f t. (block_parts c g n b f t, block_whole c g n b f t))

pub leaving_adds : (c : Code) (n b : ℕ) (old new : List (List Edge)) → is_indirect_end (end_at c b) ≡ true → Adds (Upto 32 (RegisterEdge (end_of n b 0) (hub n 0))) old new → Adds (LeaveEdges c n b) old new
leaving_adds c n b old new is adds =
    adds_same (Upto 32 (RegisterEdge (end_of n b 0) (hub n 0))) (LeaveEdges c n b) old new adds (λ f t. (λ (_, edges). edges, λ edges. (is, edges)))

pub leaving_none : (c : Code) (n b : ℕ) (a : List (List Edge)) → is_indirect_end (end_at c b) ≡ false → Adds (LeaveEdges c n b) a a
leaving_none c n b a is = adds_none (LeaveEdges c n b) a (λ f t (on, edges). absurd (cc (on, is)))

-- ---- the other edges

pub arrival_adds : (c : Code) (n i d : ℕ) (old new : List (List Edge)) → IsStrictlyIncreasing (starts_of c) → IsBlockOf c d → start_at c d ≡ slice_index_or c.indirect.items i 0 → Adds (Upto 32 (RegisterEdge (hub n 0) (entry d 0))) old new → Adds (ArrivalEdge c n i) old new
arrival_adds c n i d old new ascending below starts adds =
    adds_same (Upto 32 (RegisterEdge (hub n 0) (entry d 0))) (ArrivalEdge c n i) old new adds (λ f t. (
      λ (e, there, is, edges).
          let same : e ≡ d = same_start c e d ascending there below (sym is ∙ sym starts) in
          subst (λ (k : ℕ). Upto 32 (RegisterEdge (hub n 0) (entry k 0)) f t) same edges,
      λ edges. (d, below, sym starts, edges),
    ))

all_parts : (c : Code) (g : Graph) (n f t : ℕ) → AllEdges c g n f t → ((Upto (length c.blocks.items) (BlockEdges c g n) f t ⊎ Upto (length c.indirect.items) (ArrivalEdge c n) f t) ⊎ Upto (length g.data_words.items) (WordEdge g n) f t)
all_parts c g n f t (AllEdges.of_block edges) = inl (inl edges)
all_parts c g n f t (AllEdges.arriving edges) = inl (inr edges)
all_parts c g n f t (AllEdges.of_word edges) = inr edges

all_whole : (c : Code) (g : Graph) (n f t : ℕ) → ((Upto (length c.blocks.items) (BlockEdges c g n) f t ⊎ Upto (length c.indirect.items) (ArrivalEdge c n) f t) ⊎ Upto (length g.data_words.items) (WordEdge g n) f t) → AllEdges c g n f t
all_whole c g n f t (inl (inl edges)) = AllEdges.of_block edges
all_whole c g n f t (inl (inr edges)) = AllEdges.arriving edges
all_whole c g n f t (inr edges) = AllEdges.of_word edges

pub all_adds : (c : Code) (g : Graph) (n : ℕ) (r0 r1 r2 r3 : List (List Edge)) → Adds (Upto (length c.blocks.items) (BlockEdges c g n)) r0 r1 → Adds (Upto (length c.indirect.items) (ArrivalEdge c n)) r1 r2 → Adds (Upto (length g.data_words.items) (WordEdge g n)) r2 r3 → Adds (AllEdges c g n) r0 r3
all_adds c g n r0 r1 r2 r3 blocks arrivals words =
    let one = joined (Upto (length c.blocks.items) (BlockEdges c g n)) (Upto (length c.indirect.items) (ArrivalEdge c n)) r0 r1 r2 blocks arrivals in
    adds_both (Or (Upto (length c.blocks.items) (BlockEdges c g n)) (Upto (length c.indirect.items) (ArrivalEdge c n))) (Upto (length g.data_words.items) (WordEdge g n)) (AllEdges c g n) r0 r2 r3 one words
    (λ f t. (all_parts c g n f t, all_whole c g n f t))
