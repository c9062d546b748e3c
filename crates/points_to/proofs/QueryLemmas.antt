-- What is kept of the marks along the edges of a program tells all facts.
use Rattle.std.proofs.Common.{◌≡◌, inl, inr, ℕ, ◌+◌, ◌-◌, ◌*◌, ◌/◌, ◌%◌, ◌<◌, ◌≤◌, min, true, false, List, [], ◌∷◌, length, slice_index_or, refl, sym, ◌∙◌, ap, subst, arith}
use Rattle.std.specs.Prelude.{◌↔◌, IsTrue}
use Rattle.std.specs.List.Sorted.{IsStrictlyIncreasing}
use Rattle.std.proofs.lemmas.Bool.{cases_lt}
use Rattle.std.proofs.lemmas.List.{get_or_past, length-map}
use Rattle.object_graph.specs.declared.parts.Site.{Site}
use Rattle.object_graph.specs.declared.parts.Graph.{Graph}
use Rattle.object_graph.specs.Lookups.{IsSomeGraph}
use Rattle.code_blocks.specs.Early.{has}
use Rattle.code_blocks.specs.Blocks.{start_of}
use Rattle.code_blocks.specs.Numbers.{starts_of, start_at}
use Rattle.code_blocks.specs.declared.parts.Unit.{Unit}
use Rattle.code_blocks.specs.declared.parts.Code.{Code}
use Rattle.reach_graph.specs.Reaching.{HasMark, edge_in, AreInside}
use Rattle.reach_graph.specs.declared.edges.Edge.{Edge}
use Rattle.reach_graph.proofs.MarkLemmas.{none_in_zero}
use Rattle.code_blocks.specs.Leads.{IsBlockOf, units_at}
use Rattle.dataflow.specs.Points.{Held, Escaped, Derives, Before, MayHold}
use Rattle.points_to.specs.Nodes.{SourceEdges, UnitEdges, BlockEdges, AllEdges, AreEdges, entry, memory, loaded, object_node, node_count}
use Rattle.points_to.specs.Tables.{Kept, kept_word, IsReached, none_kept, AreGroups, group_of, Holds, AreFacts}
use Rattle.points_to.proofs.BlockLemmas.{same_start, starts_there}
use Rattle.points_to.proofs.SoundLemmas.{told_entry, told_memory}
use Rattle.points_to.proofs.TableLemmas.{own_sound, loads_sound, escapes_exact, may_exact}
use Rattle.points_to.proofs.FactLemmas.{no_facts}
use Rattle.dataflow.proofs.FactBounds.{of_register}

-- ---- edges lead to nodes

source_below : (n b : ℕ) (sites : List Site) (u : Unit) (us : List Unit) (f t : ℕ) → b < n → SourceEdges n b sites u us f t → t < 64 * n + 34
source_below n b sites u us f t below (SourceEdges.made x o holder makes up) = let low = up.below in let at = up.edge.2 in omega (arith, below, low, at)
source_below n b sites u us f t below (SourceEdges.gained x holder loads up) = let low = up.below in let at = up.edge.2 in omega (arith, below, low, at)

unit_below : (n b : ℕ) (sites : List Site) (us : List Unit) (f t : ℕ) → b < n → UnitEdges n b sites us f t → t < 64 * n + 34
unit_below n b sites [] f t below edge = absurd edge
unit_below n b sites (u ∷ us) f t below edge =
    elim edge [ inl source ↦ source_below n b sites u us f t below source | inr later ↦ unit_below n b sites us f t below later ]

block_below : (c : Code) (g : Graph) (b f t : ℕ) → IsBlockOf c b → BlockEdges c g (length c.blocks.items) b f t → t < 64 * length c.blocks.items + 34
block_below c g b f t below (BlockEdges.inside edge) = unit_below (length c.blocks.items) b g.sites.items (units_at c b) f t below edge
block_below c g b f t below (BlockEdges.across up) =
    let flow = up.edge.1 in
    let low = flow.below in
    let at = flow.edge.2 in
    omega (arith, below, low, at)
block_below c g b f t below (BlockEdges.onward (d, on, up)) =
    let there = on.to in
    let low = up.below in
    let at = up.edge.2 in
    omega (arith, there, low, at)
block_below c g b f t below (BlockEdges.leaving (ends, up)) =
    let low = up.below in
    let at = up.edge.2 in
    omega (arith, low, at)
block_below c g b f t below (BlockEdges.storing (leaves, at)) = omega (arith, at)

edge_below : (c : Code) (g : Graph) (f t : ℕ) → AllEdges c g (length c.blocks.items) f t → t < 64 * length c.blocks.items + 34
edge_below c g f t (AllEdges.of_block up) = block_below c g up.place f t up.below up.edge
edge_below c g f t (AllEdges.arriving up) =
    let (d, there, address, registers) = up.edge in
    let low = registers.below in
    let at = registers.edge.2 in
    omega (arith, there, low, at)
edge_below c g f t (AllEdges.of_word up) = let at = up.edge.1 in omega (arith, at)

pub edges_inside : (c : Code) (g : Graph) (n objects : ℕ) (rows : List (List Edge)) → n ≡ length c.blocks.items → AreEdges c g n objects rows → AreInside rows (node_count n objects)
edges_inside c g n objects rows same are f i f_below i_below =
    let t = (edge_in rows f i).to in
    let edge : AllEdges c g n f t = (are.edges f t).0 (i, i_below, refl) in
    let below = edge_below c g f t (subst (λ (m : ℕ). AllEdges c g m f t) same edge) in
    omega (arith, below, same)

-- ---- what is kept

module _ (c : Code) (g : Graph) (objects count : ℕ) (rows : List (List Edge)) (loads : Kept) (groups : List Kept) (same : objects ≡ length g.objects.items)
    (some : IsSomeGraph g) (are : AreEdges c g (length c.blocks.items) objects rows) (loading : IsReached rows (length c.blocks.items) (loaded (length c.blocks.items)) 1 loads)
    (grouping : AreGroups rows (length c.blocks.items) objects count groups) (enough : objects ≤ 64 * count) where
  abbrev n : ℕ
  n = length c.blocks.items

  -- the nodes of the group of object `o`
  abbrev first_of : ℕ → ℕ
  first_of o = object_node n (64 * (o / 64))

  abbrev many_of : ℕ → ℕ
  many_of o = min 64 (objects - 64 * (o / 64))

  stands : (o : ℕ) → object_node n o ≡ first_of o + o % 64
  stands o = omega arith

  in_group : (o : ℕ) → o < objects → o % 64 < many_of o
  in_group o inside = omega (arith, inside)

  has_group : (o : ℕ) → o < objects → o / 64 < count
  has_group o inside = omega (arith, inside, enough)

  past_groups : (o : ℕ) → count ≤ o / 64 → group_of groups o ≡ none_kept
  past_groups o past = let size = grouping.size in get_or_past groups (o / 64) none_kept (omega (arith, past, size))

  stored_sound : (o : ℕ) → HasMark (group_of groups o).stored (o % 64) → Derives c g o Escaped
  stored_sound o mark =
      elim (cases_lt (o / 64) count) [
        | inl below ↦
            let r = grouping.each (o / 64) below in
            told_memory c g o (memory n)
            (own_sound c g o objects rows are r.start (first_of o) (many_of o) (o % 64) r.begins (stands o) (memory n) ((r.in_memory (o % 64)).0 mark)) (inl refl)
        | inr past ↦ absurd (none_in_zero (o % 64) (subst (λ (r : Kept). HasMark r.stored (o % 64)) (past_groups o past) mark))
      ]

  stored_complete : (o : ℕ) → Derives c g o Escaped → HasMark (group_of groups o).stored (o % 64)
  stored_complete o escaped =
      elim (cases_lt o objects) [
        | inl inside ↦
            let r = grouping.each (o / 64) (has_group o inside) in
            (r.in_memory (o % 64)).1
            ((escapes_exact c g o objects rows are r.start loading.start (first_of o) (many_of o) (o % 64) (in_group o inside) (omega arith) r.begins loading.begins (stands o)).1 escaped)
        | inr past ↦ absurd (no_facts c g o some (omega (arith, past, same)) Escaped escaped)
      ]

  entry_below : (b x : ℕ) → IsBlockOf c b → x < 32 → entry b x < 32 * n
  entry_below b x there low = omega (arith, there, low)

  own_entry : (o b x : ℕ) → IsBlockOf c b → x < 32 → HasMark (kept_word (group_of groups o) (entry b x)) (o % 64) → Derives c g o (Held b 0 x)
  own_entry o b x there low mark =
      elim (cases_lt (o / 64) count) [
        | inl below ↦
            let r = grouping.each (o / 64) below in
            told_entry c g o (entry b x)
            (own_sound c g o objects rows are r.start (first_of o) (many_of o) (o % 64) r.begins (stands o) (entry b x) ((r.entries (entry b x) (o % 64) (entry_below b x there low)).0 mark)) b x
            there low refl
        | inr past ↦ absurd (none_in_zero (o % 64) (subst (λ (r : Kept). HasMark (kept_word r (entry b x)) (o % 64)) (past_groups o past) mark))
      ]

  may_sound : (o b x : ℕ) → IsBlockOf c b → x < 32 → Holds loads groups (entry b x) o → Derives c g o (Held b 0 x)
  may_sound o b x there low holds =
      elim holds [
        | inl mark ↦ own_entry o b x there low mark
        | inr (stored, mark) ↦
            told_entry c g o (entry b x)
            (loads_sound c g o objects rows are loading.start loading.begins (stored_sound o stored) (entry b x) ((loading.entries (entry b x) 0 (entry_below b x there low)).0 mark)) b x there low
            refl
      ]

  may_complete : (o b x : ℕ) → IsBlockOf c b → x < 32 → Derives c g o (Held b 0 x) → Holds loads groups (entry b x) o
  may_complete o b x there low held =
      elim (cases_lt o objects) [
        | inl inside ↦
            let r = grouping.each (o / 64) (has_group o inside) in
            elim ((may_exact c g o objects rows are r.start loading.start (first_of o) (many_of o) (o % 64) b x (in_group o inside) (omega arith) r.begins loading.begins (stands o) there low).1 held) [
              | inl reached ↦ inl ((r.entries (entry b x) (o % 64) (entry_below b x there low)).1 reached)
              | inr (stored, reached) ↦ inr ((r.in_memory (o % 64)).1 stored, (loading.entries (entry b x) 0 (entry_below b x there low)).1 reached)
            ]
        | inr past ↦ absurd (no_facts c g o some (omega (arith, past, same)) (Held b 0 x) held)
      ]

  pub tells_facts : AreFacts c g loads groups
  tells_facts = record {
    may = λ o b x there low. (may_sound o b x there low, may_complete o b x there low);
    escapes = λ o. (stored_sound o, stored_complete o);
  }

pub table_facts : (c : Code) (g : Graph) (n objects first count : ℕ) (rows rows1 rows2 : List (List Edge)) (loads : Kept) (groups : List Kept) → n ≡ length c.blocks.items
    → objects ≡ length g.objects.items → IsSomeGraph g → AreEdges c g n objects rows → rows1 ≡ rows → rows2 ≡ rows → first ≡ loaded n → IsReached rows1 n first 1 loads
    → AreGroups rows2 n objects count groups → objects ≤ 64 * count → AreFacts c g loads groups
table_facts c g n objects first count rows rows1 rows2 loads groups blocks same some are one two begins loading grouping enough =
    let loading1 = subst (λ (rs : List (List Edge)). IsReached rs n first 1 loads) one loading in
    let loading2 = subst (λ (k : ℕ). IsReached rows n k 1 loads) begins loading1 in
    let loading3 = subst (λ (m : ℕ). IsReached rows m (loaded m) 1 loads) blocks loading2 in
    let grouping1 = subst (λ (rs : List (List Edge)). AreGroups rs n objects count groups) two grouping in
    let grouping2 = subst (λ (m : ℕ). AreGroups rows m objects count groups) blocks grouping1 in
    tells_facts c g objects count rows loads groups same some (subst (λ (m : ℕ). AreEdges c g m objects rows) blocks are) loading3 grouping2 enough

-- ---- what is looked up

pub follows : (A B C : Type 0) → A ↔ B → B ↔ C → A ↔ C
follows A B C one other = (λ a. other.0 (one.0 a), λ c. one.1 (other.1 c))

pub never : (A : Type 0) → (A → ⊥) → IsTrue false ↔ A
never A none = (λ on. absurd cc, λ a. absurd (none a))

-- where the block at a leader is one that is found
pub found_holds : (c : Code) (g : Graph) (loads : Kept) (groups : List Kept) (leaders : List ℕ) (leader i x o : ℕ) → leaders ≡ starts_of c → IsStrictlyIncreasing leaders → AreFacts c g loads groups
    → i < length leaders → slice_index_or leaders i 0 ≡ leader → x < 32 → Holds loads groups (entry i x) o ↔ MayHold c g leader x o
found_holds c g loads groups leaders leader i x o same ascending facts below here low =
    let size : length leaders ≡ length (starts_of c) = ap length same in
    let inside : IsBlockOf c i = omega (arith, size, below, length-map c.blocks.items start_of) in
    let begins : start_at c i ≡ leader = ap (λ (xs : List ℕ). slice_index_or xs i 0) (sym same) ∙ here in
    let rise : IsStrictlyIncreasing (starts_of c) = subst IsStrictlyIncreasing same ascending in (
      λ holds. (i, inside, begins, (facts.may o i x inside low).0 holds),
      λ (b, there, starts, before).
          let is : b ≡ i = same_start c b i rise there inside (starts ∙ sym begins) in
          (facts.may o i x inside low).1 (subst (λ (k : ℕ). Before c g k 0 x o) is before),
    )

-- where no block begins
pub none_holds : (c : Code) (g : Graph) (leaders : List ℕ) (leader x o : ℕ) → leaders ≡ starts_of c → has leaders leader ≡ false → MayHold c g leader x o → ⊥
none_holds c g leaders leader x o same none (b, there, starts, before) =
    let on : has leaders leader ≡ true = ap (λ (xs : List ℕ). has xs leader) same ∙ ap (has (starts_of c)) (sym starts) ∙ starts_there c b there in
    absurd (cc (on, none))

-- above x31
pub no_register : (c : Code) (g : Graph) (leader x o : ℕ) → 31 < x → MayHold c g leader x o → ⊥
no_register c g leader x o high (b, there, starts, before) = let low = of_register c g o (Held b 0 x) before in omega (arith, high, low)
