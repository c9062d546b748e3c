-- Registers that spread against the flow of control: one step, the edges of a node, and until no node waits.
use Rattle.std.proofs.Common.{◌≡◌, ◌≢◌, ◌⊎◌, inl, inr, ℕ, ◌+◌, ◌<◌, ◌≤◌, Bool, false, List, [], length, map, slice_set, slice_index_or, Some, refl, sym, ◌∙◌, ap, subst, arith}
use Rattle.std.specs.Prelude.{◌↔◌}
use Rattle.std.proofs.lemmas.Bool.{cases_eq}
use Rattle.std.proofs.lemmas.List.{get_or-set_other, get_or_past, get_or_default, length-map}
use Rattle.rv32im.specs.declared.instructions.RegSet.{RegSet}
use Rattle.object_graph.specs.declared.parts.Site.{Site}
use Rattle.object_graph.specs.declared.parts.Graph.{Graph}
use Rattle.code_blocks.specs.Numbers.{start_at}
use Rattle.code_blocks.specs.Leads.{LeadsAnywhere, units_in, units_at}
use Rattle.code_blocks.specs.declared.parts.Code.{Code}
use Rattle.reach_graph.specs.Reaching.{HasMark, word_at, edges_of, edge_at}
use Rattle.reach_graph.specs.declared.edges.Edge.{Edge}
use Rattle.reach_graph.specs.Queues.{waits_at, IsQueue, IsTaken}
use Rattle.reach_graph.specs.Propagation.{GoesOn, IsGrown}
use Rattle.reach_graph.proofs.MarkLemmas.{or_right, or_cases, word_here, word_there}
use Rattle.reach_graph.proofs.PropagationLemmas.{off_before, none_waits}
use Rattle.dataflow.specs.BackEdges.{Lets, BackEdges, ArrivalEdges, AreBackEdges}
use Rattle.dataflow.specs.Points.{IsHolder, Held, Derives}
use Rattle.dataflow.specs.Flows.{Leads}
use Rattle.dataflow.proofs.FactLemmas.{comes}
use Rattle.dataflow.specs.Exposed.{IsExposed}
use Rattle.dataflow.specs.Transfers.{LeadsInto, AreBefore}
use Rattle.dataflow.specs.Spreading.{AreWords, IsLed, HeldBefore, HeldBehind, Exposes, ExposesBehind, AreSound, IsStep, AreMore, MeansAlong, PassedUpto, PassedOn, ArePassed}

-- behind the blocks there are no units
pub no_units : (c : Code) (m : ℕ) → length c.blocks.items ≤ m → units_at c m ≡ []
no_units c m past =
    let count = length-map c.blocks.items units_in in
    get_or_past (map units_in c.blocks.items) m [] (omega (arith, past, count))

-- ---- one step

module _ (c : Code) (sites : List Site) (m by grown added : ℕ) (behind before waiting : List ℕ) (waits : List Bool) (before' waiting' : List ℕ) (waits' : List Bool)
    (inside : m < length behind) (joins : (k : ℕ) → HasMark grown k ↔ (HasMark (word_at behind m) k ⊎ HasMark by k))
    (found : AreBefore sites (units_at c m) grown added) (grows : IsGrown m added before waiting waits before' waiting' waits') where
  behind_here : word_at (slice_set behind m grown) m ≡ grown
  behind_here = word_here behind m grown inside

  only_some : (j x : ℕ) → HasMark (word_at before' j) x → HasMark (word_at before j) x ⊎ ((j ≡ m) × IsHolder x × LeadsInto sites (units_at c m) (word_at (slice_set behind m grown) m) x)
  only_some j x has =
      elim (cases_eq j m) [
        | inl same ↦
            elim (or_cases (word_at before m) added x (subst (λ w. HasMark w x) (ap (word_at before') same ∙ grows.here) has)) [
              | inl old ↦ inl (subst (λ i. HasMark (word_at before i) x) (sym same) old)
              | inr new ↦
                  let (holder, leads) = (found x).0 new in
                  inr (same, holder, subst (λ w. LeadsInto sites (units_at c m) w x) (sym behind_here) leads)
            ]
        | inr other ↦ inl (subst (λ w. HasMark w x) (grows.others j other) has)
      ]

  pub step_some : IsStep c sites m by behind before (slice_set behind m grown) before'
  step_some = record {
    here = λ k. (
      λ has. (joins k).0 (subst (λ w. HasMark w k) behind_here has),
      λ has. subst (λ w. HasMark w k) (sym behind_here) ((joins k).1 has),
    );
    others = λ j other. word_there behind m j grown other;
    led = λ led x holder leads.
        subst (λ w. HasMark w x) (sym grows.here)
        (or_right (word_at before m) added x ((found x).1 (holder, subst (λ w. LeadsInto sites (units_at c m) w x) behind_here leads)));
    only = only_some;
  }

-- the words are as many, and memory is still among the places
pub words_step : (c : Code) (sites : List Site) (n m by : ℕ) (behind before behind' before' : List ℕ) → AreWords n behind before → IsStep c sites m by behind before behind' before'
    → length behind' ≡ length behind → length before' ≡ length before → AreWords n behind' before'
words_step c sites n m by behind before behind' before' words step same same' = record {
  behind_size = same ∙ words.behind_size;
  before_size = same' ∙ words.before_size;
  memory = λ j below. elim (cases_eq j m) [
    | inl is ↦ subst (λ i. HasMark (word_at behind' i) 0) (sym is) ((step.here 0).1 (inl (subst (λ i. HasMark (word_at behind i) 0) is (words.memory j below))))
    | inr other ↦ subst (λ w. HasMark w 0) (sym (step.others j other)) (words.memory j below)
  ];
}

pub more_step : (c : Code) (sites : List Site) (m by : ℕ) (behind before behind' before' : List ℕ) → IsStep c sites m by behind before behind' before' → AreMore behind behind'
more_step c sites m by behind before behind' before' step j k has =
    elim (cases_eq j m) [
      | inl is ↦ subst (λ i. HasMark (word_at behind' i) k) (sym is) ((step.here k).1 (inl (subst (λ i. HasMark (word_at behind i) k) is has)))
      | inr other ↦ subst (λ w. HasMark w k) (sym (step.others j other)) has
    ]

-- ---- what marks mean

-- what leads to marked places means what marks mean
module _ (c : Code) (g : Graph) (asked : List RegSet) (m behind x : ℕ) (holder : IsHolder x)
    (told : (y : ℕ) → HasMark behind y → (y ≡ 0) ⊎ ExposesBehind c g asked m y) (leads : LeadsInto g.sites.items (units_at c m) behind x) where
  along : (o : ℕ) → HeldBefore c g o m x → IsExposed c g asked o
  along o (HeldBefore.at_block block held) =
      let come = comes c g o (units_at c m) m 0 x leads.place (omega arith) refl holder leads.leads held in
      elim (told leads.place leads.marked) [
        | inl none ↦ inl (come.escapes none)
        | inr (some, exposes) ↦ exposes o (HeldBehind.at_end block (come.register some.0))
      ]
  along o (HeldBefore.on_way b is block ends held) =
      let same : x ≡ leads.place = subst (λ us. Leads g.sites.items us x leads.place) (no_units c m (omega (arith, is))) leads.leads in
      elim (told leads.place leads.marked) [
        | inl none ↦ let some = holder.0 in absurd (omega (arith, some, same, none))
        | inr (_, exposes) ↦ exposes o (HeldBehind.on_way b is block ends (subst (λ y. Derives c g o (Held b (length (units_at c b)) y)) same held))
      ]

  pub exposes_before : Exposes c g asked m x
  exposes_before = (holder, along)

module _ (c : Code) (g : Graph) (asked : List RegSet) (m by : ℕ) (behind before behind' before' : List ℕ)
    (sound : AreSound c g asked behind before) (below : m < length c.blocks.items + 1)
    (means : (x : ℕ) → HasMark by x → ExposesBehind c g asked m x) (step : IsStep c g.sites.items m by behind before behind' before')
    (more : (j k : ℕ) → HasMark (word_at before j) k → HasMark (word_at before' j) k) where
  told_here : (x : ℕ) → HasMark (word_at behind' m) x → (x ≡ 0) ⊎ ExposesBehind c g asked m x
  told_here x has = elim ((step.here x).0 has) [ inl old ↦ sound.told_behind m x old | inr new ↦ inr (means x new) ]

  told_behind : (j x : ℕ) → HasMark (word_at behind' j) x → (x ≡ 0) ⊎ ExposesBehind c g asked j x
  told_behind j x has =
      elim (cases_eq j m) [
        | inl is ↦ subst (λ i. (x ≡ 0) ⊎ ExposesBehind c g asked i x) (sym is) (told_here x (subst (λ i. HasMark (word_at behind' i) x) is has))
        | inr other ↦ sound.told_behind j x (subst (λ w. HasMark w x) (step.others j other) has)
      ]

  told_before : (j x : ℕ) → HasMark (word_at before' j) x → Exposes c g asked j x
  told_before j x has =
      elim (step.only j x has) [
        | inl old ↦ sound.told j x old
        | inr (is, holder, leads) ↦
            subst (λ i. Exposes c g asked i x) (sym is) (exposes_before c g asked m (word_at behind' m) x holder told_here leads)
      ]

  led_still : (j : ℕ) → j < length c.blocks.items + 1 → IsLed c g.sites.items behind' before' j
  led_still j low =
      elim (cases_eq j m) [
        | inl is ↦ subst (IsLed c g.sites.items behind' before') (sym is) (step.led (sound.led m below))
        | inr other ↦ λ x holder leads. more j x (sound.led j low x holder (subst (λ w. LeadsInto g.sites.items (units_at c j) w x) (step.others j other) leads))
      ]

  pub sound_step : AreSound c g asked behind' before'
  sound_step = record {
    asks = λ b x block holder is. more b x (sound.asks b x block holder is);
    led = led_still;
    told = told_before;
    told_behind = told_behind;
  }

-- ---- the edges of a node

pub passed_more : (row : List Edge) (i by : ℕ) (behind behind' : List ℕ) → PassedUpto row i by behind → AreMore behind behind'
    → ((k : ℕ) → HasMark by k → HasMark (edge_at row i).mask k → HasMark (word_at behind' (edge_at row i).to) k) → PassedUpto row (i + 1) by behind'
passed_more row i by behind behind' passed more here j k below has lets =
    elim (cases_eq j i) [
      | inl is ↦
          subst (λ e. HasMark (word_at behind' (edge_at row e).to) k) (sym is) (here k has (subst (λ e. HasMark (edge_at row e).mask k) is lets))
      | inr other ↦ more (edge_at row j).to k (passed j k (omega (arith, below, other)) has lets)
    ]

-- ---- all nodes

-- what marks mean where block `m` begins, they mean at the ends to which the edges of its node lead
module _ (c : Code) (g : Graph) (asked : List RegSet) (rows : List (List Edge)) (m by : ℕ) (edges : AreBackEdges c (length c.blocks.items) rows)
    (told : (x : ℕ) → HasMark by x → Exposes c g asked m x) where
  over_back : (t x : ℕ) → HasMark by x → BackEdges c (length c.blocks.items) (length c.blocks.items) m t x → (o : ℕ) → HeldBehind c g o t x → IsExposed c g asked o
  over_back t x has one o (HeldBehind.at_end block held) =
      elim one.edge [
        | inl on ↦ (told x has).1 o (HeldBefore.at_block on.to (Derives.next t m x on held))
        | inr (ends, is) ↦ (told x has).1 o (HeldBefore.on_way t is block ends held)
      ]
  over_back t x has one o (HeldBehind.on_way b is block ends held) = let below = one.below in absurd (omega (arith, below, is))

  over_arrival : (t x : ℕ) → HasMark by x → ArrivalEdges c (length c.blocks.items) (length c.indirect.items) m t x → (o : ℕ) → HeldBehind c g o t x → IsExposed c g asked o
  over_arrival t x has one o (HeldBehind.at_end block held) = let is = one.to in absurd (omega (arith, block, is))
  over_arrival t x has one o (HeldBehind.on_way b is block ends held) =
      let address : slice_index_or c.indirect.items one.i (start_at c m) ≡ start_at c m = get_or_default c.indirect.items one.i (start_at c m) 0 one.below ∙ one.starts in
      let on : LeadsAnywhere c b m = record { from = block; to = one.is_block; ends = ends; listed = (one.i, one.below, address) } in
      (told x has).1 o (HeldBefore.at_block one.is_block (Derives.anywhere b m x on held))

  pub means_along : MeansAlong c g asked (edges_of rows m) by
  means_along i x below has lets =
      let holder = (told x has).0 in
      let one : Lets rows m (edge_at (edges_of rows m) i).to x = record { i = i; below = below; leads = refl; passes = lets } in
      elim ((edges.edges m (edge_at (edges_of rows m) i).to x holder.1).0 one) [
        | inl back ↦ (holder, over_back (edge_at (edges_of rows m) i).to x has back)
        | inr arrival ↦ (holder, over_arrival (edge_at (edges_of rows m) i).to x has arrival)
      ]

module _ (rows : List (List Edge)) (behind before waiting : List ℕ) (waits : List Bool) (node : ℕ) (rest : List ℕ) (left : List Bool)
    (behind' before' waiting' : List ℕ) (waits' : List Bool) (passed : ArePassed rows behind before waits) (taken : IsTaken waiting waits (Some node) rest left)
    (goes : GoesOn before rest left before' waiting' waits') (more : AreMore behind behind') (row : PassedOn rows (word_at before node) behind' node) where
  was_off : (m : ℕ) → m ≢ node → waits_at waits' m ≡ false → waits_at waits m ≡ false
  was_off m other off =
      let earlier = off_before left waits' m goes.still off (waits_at left m) refl in
      sym (ap (λ xs. waits_at xs m) taken.1.1.0 ∙ get_or-set_other waits node m false false other) ∙ earlier

  pub passed_next : ArePassed rows behind' before' waits'
  passed_next m off i k below has lets =
      let old : HasMark (word_at before m) k = subst (λ w. HasMark w k) (goes.same m off) has in
      elim (cases_eq m node) [
        | inl is ↦
            subst (λ j. HasMark (word_at behind' (edge_at (edges_of rows j) i).to) k) (sym is)
            (row i k (subst (λ j. i < length (edges_of rows j)) is below) (subst (λ j. HasMark (word_at before j) k) is old)
            (subst (λ j. HasMark (edge_at (edges_of rows j) i).mask k) is lets))
        | inr other ↦ more (edge_at (edges_of rows m) i).to k (passed m (was_off m other off) i k below old lets)
      ]

pub passed_last : (rows : List (List Edge)) (behind before waiting : List ℕ) (waits : List Bool) → ArePassed rows behind before waits → waiting ≡ [] → IsQueue waiting waits
    → (m : ℕ) → PassedOn rows (word_at before m) behind m
passed_last rows behind before waiting waits passed none queue m = passed m (none_waits waiting waits none queue m (waits_at waits m) refl)
