-- What spreads against the flow of control is liveness.
use Rattle.std.proofs.Common.{◌≡◌, inl, inr, ℕ, zero, suc, ◌+◌, ◌<◌, ◌≤◌, List, [], length, slice_index_or, map, refl, sym, subst, ◌∙◌, arith}
use Rattle.std.specs.Prelude.{◌↔◌}
use Rattle.std.specs.List.{Contains}
use Rattle.std.proofs.lemmas.Bool.{cases_eq, cases_lt}
use Rattle.std.proofs.lemmas.Grind.{get_or_default_zero}
use Rattle.std.proofs.lemmas.List.{get_or_past, length-map}
use Rattle.code_blocks.specs.Numbers.{start_at}
use Rattle.code_blocks.specs.declared.parts.Code.{Code}
use Rattle.reach_graph.specs.declared.edges.Edge.{Edge}
use Rattle.reach_graph.specs.Reaching.{HasMark, word_at, edge_in, Reaches, stands, passes}
use Rattle.code_blocks.specs.Leads.{units_in, units_at, IsBlockOf, LeadsOn, LeadsAnywhere}
use Rattle.dataflow.specs.Live.{unit_in, Defines, IsUnitOf, IsLastOf, Next, within, direct, indirect, LiveAt, used_there, used_later}
use Rattle.dataflow.specs.Summaries.{NoneDefines, UsedFirst, PassesOver}
use Rattle.dataflow.specs.BackEdges.{Lets, BlockEdges, ArrivalEdges, AreEdges, AreMarks}
use Rattle.dataflow.specs.Tables.{AreLive}

-- ---- inside a block

-- a register that is live at a unit is live at one before it, where none in between defines it
back_from : (c : Code) (b x m k : ℕ) → IsUnitOf c b (k + m) → NoneDefines (units_at c b) (k + m) x → LiveAt c x b (k + m) → LiveAt c x b k
back_from c b x zero k unit none live = subst (λ (j : ℕ). LiveAt c x b j) (omega arith) live
back_from c b x (suc m) k unit none live =
    let same : k + suc m ≡ suc k + m = omega arith in
    let unit' : IsUnitOf c b (suc k + m) = subst (λ (j : ℕ). IsUnitOf c b j) same unit in
    let none' : NoneDefines (units_at c b) (suc k + m) x = subst (λ (j : ℕ). NoneDefines (units_at c b) j x) same none in
    let live' : LiveAt c x b (suc k + m) = subst (λ (j : ℕ). LiveAt c x b j) same live in
    let behind : suc k < length (units_at c b) = omega (arith, unit') in
    used_later b k b (suc k) (omega (arith, behind)) (none' k (omega arith)) (within b k behind) (back_from c b x m (suc k) unit' none' live')

live_from : (c : Code) (b x k : ℕ) → IsUnitOf c b k → NoneDefines (units_at c b) k x → LiveAt c x b k → LiveAt c x b 0
live_from c b x k unit none live =
    let same : k ≡ 0 + k = omega arith in
    back_from c b x k 0 (subst (λ (j : ℕ). IsUnitOf c b j) same unit) (subst (λ (j : ℕ). NoneDefines (units_at c b) j x) same none) (subst (λ (j : ℕ). LiveAt c x b j) same live)

live_used : (c : Code) (b x : ℕ) → UsedFirst (units_at c b) (length (units_at c b)) x → LiveAt c x b 0
live_used c b x first = live_from c b x first.k first.below first.before (used_there b first.k first.below first.uses)

last_of : (n : ℕ) → 0 < n → (k : ℕ) × (suc k ≡ n)
last_of zero some = absurd (omega (arith, some))
last_of (suc n) some = (n, refl)

live_over : (c : Code) (b d x : ℕ) → PassesOver (units_at c b) x → ((k : ℕ) → IsLastOf c b k → Next c b k d 0) → LiveAt c x d 0 → LiveAt c x b 0
live_over c b d x over next live =
    let (k, last) = last_of (length (units_at c b)) over.some in
    let unit : IsUnitOf c b k = omega (arith, last) in
    live_from c b x k unit (λ j below. over.none j (omega (arith, below, unit)))
    (used_later b k d 0 unit (over.none k unit) (next k last) live)

-- ---- from marks to paths

-- what a mark at a node says: the register is live where the block begins, or where some block does to which an
-- indirect jump may go
pub record Arrival (c : Code) (x : ℕ) : Type 0 where
  pub block : ℕ
  pub is_block : IsBlockOf c block
  pub listed : Contains c.indirect.items (start_at c block)
  pub live : LiveAt c x block 0

pub record Says (c : Code) (hub x n : ℕ) : Type 0 where
  pub block : n < hub → LiveAt c x n 0
  pub jump : n ≡ hub → Arrival c x

listed_at : (c : Code) (i f : ℕ) → i < length c.indirect.items → slice_index_or c.indirect.items i 0 ≡ start_at c f → Contains c.indirect.items (start_at c f)
listed_at c i f below here = (i, below, get_or_default_zero c.indirect.items i (start_at c f) below ∙ here)

module _ (c : Code) (hub : ℕ) (rows : List (List Edge)) (first : List ℕ) (hub_is : hub ≡ length c.blocks.items) (edges : AreEdges c hub rows) (marks : AreMarks c hub first) where
  says_used : (n x : ℕ) → x < 32 → HasMark (word_at first n) x → Says c hub x n
  says_used n x low has =
      let told = (marks n x low).0 has in
      record { block = λ below. live_used c n x told.1; jump = λ is. let below = told.0 in absurd (omega (arith, below, is)) }

  says_block : (f t x : ℕ) → BlockEdges c hub hub f t x → Says c hub x f → Says c hub x t
  says_block f t x one before =
      let is_block : IsBlockOf c t = let below = one.below in omega (arith, below, hub_is) in
      record {
        block = λ below. elim one.edge [
          | inl edge ↦ live_over c t f x one.over (λ k last. direct t k f last edge) (before.block (let to = edge.to in omega (arith, to, hub_is)))
          | inr jump ↦
              let there = before.jump jump.1 in
              live_over c t there.block x one.over
              (λ k last. indirect t k there.block last (record { from = is_block; to = there.is_block; ends = jump.0; listed = there.listed })) there.live
        ];
        jump = λ is. let below = one.below in absurd (omega (arith, below, is));
      }

  says_arrival : (f t x : ℕ) → ArrivalEdges c hub (length c.indirect.items) f t x → Says c hub x f → Says c hub x t
  says_arrival f t x one before =
      record {
        block = λ below. let is = one.to in absurd (omega (arith, below, is));
        jump = λ is.
            record {
              block = f;
              is_block = one.is_block;
              listed = listed_at c one.i f one.below one.starts;
              live = before.block (let inside = one.is_block in omega (arith, inside, hub_is));
            };
      }

  says_passed : (f t x : ℕ) → x < 32 → Lets rows f t x → Says c hub x f → Says c hub x t
  says_passed f t x low lets before =
      elim ((edges.edges f t x low).0 lets) [ inl one ↦ says_block f t x one before | inr one ↦ says_arrival f t x one before ]

  says : (n x : ℕ) → x < 32 → Reaches rows first n x → Says c hub x n
  says n x low (stands a k has) = says_used a k low has
  says n x low (passes a i k reached below lets) =
      says_passed a (edge_in rows a i).to k low (record { i = i; below = below; leads = refl; passes = lets }) (says a k low reached)

  -- ---- from paths to marks

  passed_on : (f t x : ℕ) → Lets rows f t x → Reaches rows first f x → Reaches rows first t x
  passed_on f t x lets reached = subst (λ (n : ℕ). Reaches rows first n x) lets.leads (passes f lets.i x reached lets.below lets.passes)

  no_units : (b k : ℕ) → length c.blocks.items ≤ b → IsUnitOf c b k → ⊥
  no_units b k past unit =
      let none : units_at c b ≡ [] = get_or_past (map units_in c.blocks.items) b [] (omega (arith, past, length-map c.blocks.items units_in)) in
      let inside = subst (λ (us : List _). k < length us) none unit in
      absurd (omega (arith, inside))

  is_node : (b k : ℕ) → IsUnitOf c b k → b < hub
  is_node b k unit =
      elim (cases_lt b hub) [ inl below ↦ below | inr past ↦ absurd (no_units b k (omega (arith, past, hub_is)) unit) ]

  over_last : (b k x : ℕ) → IsLastOf c b k → NoneDefines (units_at c b) k x → (Defines (unit_in (units_at c b) k) x → ⊥) → PassesOver (units_at c b) x
  over_last b k x last none keeps =
      record {
        some = omega (arith, last);
        none = λ j below defines. elim (cases_eq j k) [
          | inl same ↦ keeps (subst (λ (i : ℕ). Defines (unit_in (units_at c b) i) x) same defines)
          | inr other ↦ none j (omega (arith, below, last, other)) defines
        ];
      }

  none_yet : (b x : ℕ) → NoneDefines (units_at c b) 0 x
  none_yet b x k below defines = omega (arith, below)

  none_so_far : (b k x : ℕ) → NoneDefines (units_at c b) k x → (Defines (unit_in (units_at c b) k) x → ⊥) → NoneDefines (units_at c b) (suc k) x
  none_so_far b k x none keeps j below defines =
      elim (cases_eq j k) [
        | inl same ↦ keeps (subst (λ (i : ℕ). Defines (unit_in (units_at c b) i) x) same defines)
        | inr other ↦ none j (omega (arith, below, other)) defines
      ]

  back_direct : (b d x : ℕ) → x < 32 → b < hub → PassesOver (units_at c b) x → LeadsOn c b d → Reaches rows first d x → Reaches rows first b x
  back_direct b d x low node over edge reached =
      passed_on d b x ((edges.edges d b x low).1 (inl (record { below = node; edge = inl edge; over = over }))) reached

  arrival_of : (d x i : ℕ) → IsBlockOf c d → i < length c.indirect.items → slice_index_or c.indirect.items i (start_at c d) ≡ start_at c d → ArrivalEdges c hub (length c.indirect.items) d hub x
  arrival_of d x i inside below here =
      record { i = i; below = below; is_block = inside; starts = sym (get_or_default_zero c.indirect.items i (start_at c d) below) ∙ here; to = refl }

  arrives : (d x : ℕ) → IsBlockOf c d → Contains c.indirect.items (start_at c d) → ArrivalEdges c hub (length c.indirect.items) d hub x
  arrives d x inside (i, below, here) = arrival_of d x i inside below here

  back_indirect : (b d x : ℕ) → x < 32 → b < hub → PassesOver (units_at c b) x → LeadsAnywhere c b d → Reaches rows first d x → Reaches rows first b x
  back_indirect b d x low node over edge reached =
      let at_hub = passed_on d hub x ((edges.edges d hub x low).1 (inr (arrives d x edge.to edge.listed))) reached in
      passed_on hub b x ((edges.edges hub b x low).1 (inl (record { below = node; edge = inr (edge.ends, refl); over = over }))) at_hub

  propagates : (x b k : ℕ) → x < 32 → LiveAt c x b k → NoneDefines (units_at c b) k x → Reaches rows first b x
  propagates x b k low (used_there b' k' unit uses) none =
      stands b' x ((marks b' x low).1 (is_node b' k' unit, record { k = k'; below = unit; uses = uses; before = none }))
  propagates x b k low (used_later b' k' d j unit keeps (within b2 k2 behind) live) none =
      propagates x b2 (suc k2) low live (none_so_far b2 k2 x none keeps)
  propagates x b k low (used_later b' k' d j unit keeps (direct b2 k2 d2 last edge) live) none =
      back_direct b2 d2 x low (is_node b2 k2 unit) (over_last b2 k2 x last none keeps) edge (propagates x d2 0 low live (none_yet d2 x))
  propagates x b k low (used_later b' k' d j unit keeps (indirect b2 k2 d2 last edge) live) none =
      back_indirect b2 d2 x low (is_node b2 k2 unit) (over_last b2 k2 x last none keeps) edge (propagates x d2 0 low live (none_yet d2 x))

  pub words_are_live : (words : List ℕ) → ((n k : ℕ) → HasMark (word_at words n) k ↔ Reaches rows first n k) → AreLive c words
  words_are_live words reached b x inside low = (
    λ has. (says b x low ((reached b x).0 has)).block (omega (arith, inside, hub_is)),
    λ live. (reached b x).1 (propagates x b 0 low live (none_yet b x)),
  )
