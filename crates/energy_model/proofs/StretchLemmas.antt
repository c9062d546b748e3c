-- Sixteen blocks that are counted together, and the parts of which the sums over a piece are made.
use Rattle.std.proofs.Common.{◌≡◌, ◌∙◌, ◌⊎◌, inl, inr, ℕ, zero, suc, ◌+◌, ◌-◌, ◌*◌, ◌/◌, ◌<◌, ◌≤◌, ◌==◌, Bool, true, false, not, ◌&&◌, ◌||◌, if◌then◌else◌, List, [], ◌∷◌, ◌++◌, length, slice_index_or, Option, Some, None, refl, sym, ap, subst, arith}
use Rattle.std.specs.List.{All, AllPairs}
use Rattle.std.specs.List.Sorted.{IsStrictlyIncreasing}
use Rattle.std.proofs.Math.ListN.{get_or-append}
use Rattle.std.proofs.lemmas.Bool.{cases_eq, cases_lt, eqb-true}
use Rattle.std.proofs.lemmas.Bool.Decides.{nat_tests}
use Rattle.std.proofs.lemmas.List.{get_or_default, get_or_push, length-append}
use Rattle.list_checks.specs.Sorted.{sum_below}
use Rattle.list_checks.proofs.SumLemmas.{sum_zero, sum_same, sum_rises}
use Rattle.list_checks.proofs.TestLemmas.{either}
use Rattle.rv32im.specs.declared.instructions.Instr.{Instr}
use Rattle.rv32im.specs.declared.instructions.Instr.TheVariants as instr
use Rattle.object_graph.specs.declared.parts.Graph.{Graph}
use Rattle.code_blocks.specs.Numbers.{starts_of, start_at}
use Rattle.code_blocks.specs.declared.ends.End.{End}
use Rattle.code_blocks.specs.declared.ends.End.TheVariants as end
use Rattle.code_blocks.specs.declared.parts.Unit.{Unit}
use Rattle.code_blocks.specs.declared.parts.Code.{Code}
use Rattle.profile_runner.specs.declared.counts.Edge.{Edge}
use Rattle.profile_runner.specs.declared.counts.Profile.{Profile}
use Rattle.profile_runner.specs.Counts.{precedes}
use Rattle.block_splitter.specs.declared.block_range.BlockRange.{BlockRange}
use Rattle.block_splitter.specs.declared.unit_kind.UnitKind.{UnitKind}
use Rattle.block_splitter.specs.Forms.{body_at, unit_in, is_site, last_kind, branch_kind, holds_block, begins_in}
use Rattle.block_splitter.specs.Pieces.{IsRange}
use Rattle.block_splitter.proofs.MeasureLemmas.{begins_is}
use Rattle.energy_model.specs.declared.block_counts.BlockCounts.{BlockCounts}
use Rattle.energy_model.specs.declared.block_counts.PieceSums.{PieceSums}
use Rattle.energy_model.specs.declared.block_counts.Reach.{Reach}
use Rattle.energy_model.specs.declared.block_counts.Stretch.{Stretch}
use Rattle.energy_model.specs.Energy.{may_stay}
use Rattle.energy_model.specs.Copied.{exit_words, leaving_words, arrivals_in, block_words, no_edge, value_from, edge_in, leaving, sum_in, edge_words, stays_in, copied_words_of, stays_of, pending, edges_before}
use Rattle.energy_model.specs.Counts.{most_run, CountsCode, AreListedCounts, AreBlockCounts, AreListed, AreSums, AreTerms, AreAdded, AreFew}
use Rattle.energy_model.specs.Stretches.{always, goes_on, leads_to, LeadsWithin, IsReached, AreReached, IsReach, ReachGrows, AreWholeTerms, AddsUp, AreWholeSums, IsStretch, AreStretches, ArePartSums, StaysIn, no_stretch}
use Rattle.energy_model.proofs.CopyLemmas.{straight_stays}
use Rattle.energy_model.proofs.DisplacedLemmas.{sum_less}
use Rattle.energy_model.proofs.EdgeLemmas.{few_before, before_from, behind_from, other_from}
use Rattle.energy_model.proofs.PieceLemmas.{one_held, one_block, listed_value, few_stays, last_is, no_value, none_leave}

-- ---- an edge that stays in a copy takes no words more

branch_stays : (inside : ℕ → Bool) (next target : ℕ) (i : Option Instr) → ◌≡◌ {A = ℕ} (if (next == target) && not (inside target) then 2 else 0) 0 → exit_words inside next (branch_kind target i) ≡ 0
branch_stays inside next target None none = refl
branch_stays inside next target (Some (instr.Branch kind rs1 rs2 off)) none = none
branch_stays inside next target (Some i) none = refl

taken_stays : (inside : ℕ → Bool) (next target : ℕ) → inside next ≡ true → ◌≡◌ {A = ℕ} (if (next == target) && not (inside target) then 2 else 0) 0
taken_stays inside next target there = by_test (next == target) (λ same. ap inside (sym (eqb-true next target same)) ∙ there)
  where
    by_test : (t : Bool) → (t ≡ true → inside target ≡ true) → ◌≡◌ {A = ℕ} (if t && not (inside target) then 2 else 0) 0
    by_test true is = let held = is refl in rw held refl
    by_test false is = refl

no_fall : (taken held : Bool) → (taken ≡ true) ⊎ (held ≡ true) → ◌≡◌ {A = ℕ} (if taken || held then 0 else 2) 0
no_fall true held is = refl
no_fall false true is = refl
no_fall false false (inl is) = absurd cc
no_fall false false (inr is) = absurd cc

no_words : (sites inside : ℕ → Bool) (next : ℕ) (e : End) (u : Unit) → may_stay e ≡ true → leads_to e next ≡ true → inside next ≡ true → leaving_words inside next (last_kind sites e u) e ≡ 0
no_words sites inside next (end.Fall behind) u may leads there =
    let held : inside behind ≡ true = ap inside (sym (eqb-true next behind leads)) ∙ there in
    let straight = straight_stays sites inside next u.at u.instr in
    let fall : ◌≡◌ {A = ℕ} (if inside behind then 0 else 2) 0 = rw held refl in
    omega (arith, straight, fall)
no_words sites inside next (end.Branch target behind) u may leads there =
    let exit = branch_stays inside next target u.instr (taken_stays inside next target there) in
    let fall = no_fall (next == target) (inside behind) (elim (either (next == target) (next == behind) leads) [
      | inl taken ↦ inl taken
      | inr falls ↦ inr (ap inside (sym (eqb-true next behind falls)) ∙ there)
    ]) in
    omega (arith, exit, fall)
no_words sites inside next (end.Jump target) u may leads there =
    let held : inside target ≡ true = ap inside (sym (eqb-true next target leads)) ∙ there in
    let exit : ◌≡◌ {A = ℕ} (if inside target then 0 else 1) 0 = rw held refl in
    omega (arith, exit)
no_words sites inside next (end.Call target back link) u may leads there = cc
no_words sites inside next (end.Tail target) u may leads there = cc
no_words sites inside next (end.Indirect back) u may leads there = cc
no_words sites inside next end.Stop u may leads there = cc

plain_edge : (c : Code) (g : Graph) (range : BlockRange) (b to : ℕ) → IsStrictlyIncreasing (starts_of c) → 0 < length (body_at c.blocks.items b).units → to < length c.blocks.items → may_stay (body_at c.blocks.items b).end ≡ true → leads_to (body_at c.blocks.items b).end (start_at c to) ≡ true → holds_block to range ≡ true → edge_words c g range b to ≡ 0
plain_edge c g range b to ascending some below may leads held =
    let body = body_at c.blocks.items b in
    let inside = begins_in (starts_of c) range in
    ap (λ (k : UnitKind). leaving_words inside (start_at c to) k body.end) (last_is (is_site g) body some)
    ∙ no_words (is_site g) inside (start_at c to) body.end (unit_in body (length body.units - 1)) may leads (begins_is c range to ascending below ∙ held)

-- ---- the blocks of a stretch that stays in a range

-- the range holds all to which edges from some blocks lead
record Holds (range : BlockRange) (reach : Reach) : Type 0 where
  plain : reach.plain ≡ true
  first_in : range.first ≤ reach.first
  last_in : reach.last ≤ range.last

edge_held : (c : Code) (range : BlockRange) (reach : Reach) (e : Edge) → Holds range reach → LeadsWithin c reach e → holds_block e.to range ≡ true
edge_held c range reach e holds leads =
    let low = holds.first_in in
    let high = holds.last_in in
    let from = leads.first_to in
    let to = leads.last_to in
    grind (arith, nat_tests, low, high, from, to)

reached_from : (c : Code) (reach : Reach) (e : Edge) (k : ℕ) → e.from ≡ k → may_stay (body_at c.blocks.items k).end ≡ true → IsReached c reach e → LeadsWithin c reach e
reached_from c reach e k same may reached = reached (subst (λ (b : ℕ). may_stay (body_at c.blocks.items b).end ≡ true) (sym same) may)

stretch_words : (c : Code) (g : Graph) (q : Profile) (range : BlockRange) (reach : Reach) (b n k : ℕ) → CountsCode c g q → IsReach c q.edges.items b n reach → Holds range reach → b ≤ k → k < n → k < length c.blocks.items → leaving q.edges.items k (edge_words c g range k) ≡ 0
stretch_words c g q range reach b n k counts is holds from to below = by_end (may_stay (body_at c.blocks.items k).end) refl
  where
    edges : List Edge
    edges = q.edges.items

    here : (j : ℕ) → j < length edges → may_stay (body_at c.blocks.items k).end ≡ true → value_from k (edge_words c g range k) (edge_in edges j) ≡ 0
    here j inside may =
        let e = edge_in edges j in
        elim (cases_eq e.from k) [
          | inl same ↦
              let leads = reached_from c reach e k same may (is j inside (omega (arith, same, from)) (omega (arith, same, to))) in
              let plain = subst (λ (x : ℕ). leads_to (body_at c.blocks.items x).end (start_at c e.to) ≡ true) same (leads.plain holds.plain) in
              no_value k (edge_words c g range k) e
              (plain_edge c g range k e.to counts.ascending (counts.filled k below) (counts.within j no_edge inside).1 may plain (edge_held c range reach e holds leads))
          | inr differs ↦ other_from k (edge_words c g range k) e (grind (arith, nat_tests, differs))
        ]

    by_end : (t : Bool) → may_stay (body_at c.blocks.items k).end ≡ t → leaving edges k (edge_words c g range k) ≡ 0
    by_end true may = sum_zero (λ j. value_from k (edge_words c g range k) (edge_in edges j)) (length edges) (λ j inside. here j inside may)
    by_end false closed = none_leave c g q range k (counts.filled k below) closed

same_value : (a : ℕ) (f g : ℕ → ℕ) (e : Edge) → f e.to ≡ g e.to → value_from a f e ≡ value_from a g e
same_value a f g e same = ap (λ v. if e.from == a then e.count * v else 0) same

stretch_stays : (c : Code) (q : Profile) (range : BlockRange) (reach : Reach) (b n k : ℕ) → IsReach c q.edges.items b n reach → Holds range reach → b ≤ k → k < n → stays_of c q range k ≡ goes_on c q k
stretch_stays c q range reach b n k is holds from to = by_end (may_stay (body_at c.blocks.items k).end) refl
  where
    edges : List Edge
    edges = q.edges.items

    here : (j : ℕ) → j < length edges → may_stay (body_at c.blocks.items k).end ≡ true → value_from k (stays_in range) (edge_in edges j) ≡ value_from k always (edge_in edges j)
    here j inside may =
        let e = edge_in edges j in
        elim (cases_eq e.from k) [
          | inl same ↦
              let leads = reached_from c reach e k same may (is j inside (omega (arith, same, from)) (omega (arith, same, to))) in
              let held = edge_held c range reach e holds leads in
              same_value k (stays_in range) always e (rw held refl)
          | inr differs ↦
              let other : (e.from == k) ≡ false = grind (arith, nat_tests, differs) in
              other_from k (stays_in range) e other ∙ sym (other_from k always e other)
        ]

    by_end : (t : Bool) → may_stay (body_at c.blocks.items k).end ≡ t → (if t then leaving edges k (stays_in range) else 0) ≡ (if t then leaving edges k always else 0)
    by_end true may = sum_same (λ j. value_from k (stays_in range) (edge_in edges j)) (λ j. value_from k always (edge_in edges j)) (length edges) (λ j inside. here j inside may)
    by_end false closed = refl

-- ---- sums over some blocks

-- of a range that holds them
held_more : (range : BlockRange) (f : ℕ → ℕ) (b m : ℕ) → range.first ≤ b → b + m ≤ range.last + 1 → sum_in range f (b + m) + sum_below f b ≡ sum_in range f b + sum_below f (b + m)
held_more range f b zero low high = let same : b + 0 ≡ b = omega arith in ap (λ n. sum_in range f n + sum_below f b) same ∙ ap (λ n. sum_in range f b + sum_below f n) (sym same)
held_more range f b (suc m) low high =
    let earlier = held_more range f b m low (omega (arith, high)) in
    let held : holds_block (b + m) range ≡ true = grind (arith, nat_tests, low, high) in
    let one = one_held range f (b + m) held in
    let next : b + suc m ≡ suc (b + m) = omega arith in
    let sum = ap (sum_in range f) next in
    let below = ap (sum_below f) next in
    omega (arith, earlier, one, sum, below)

-- values that are the same there
alike_more : (f g : ℕ → ℕ) (b m : ℕ) → ((k : ℕ) → b ≤ k → k < b + m → f k ≡ g k) → sum_below f (b + m) + sum_below g b ≡ sum_below f b + sum_below g (b + m)
alike_more f g b zero same = let next : b + 0 ≡ b = omega arith in ap (λ n. sum_below f n + sum_below g b) next ∙ ap (λ n. sum_below f b + sum_below g n) (sym next)
alike_more f g b (suc m) same =
    let earlier = alike_more f g b m (λ k from to. same k from (omega (arith, to))) in
    let here = same (b + m) (omega arith) (omega arith) in
    let next : b + suc m ≡ suc (b + m) = omega arith in
    let first = ap (sum_below f) next in
    let second = ap (sum_below g) next in
    omega (arith, earlier, here, first, second)

part_of : (range : BlockRange) (f g : ℕ → ℕ) (b m x : ℕ) → range.first ≤ b → b + m ≤ range.last + 1 → ((k : ℕ) → b ≤ k → k < b + m → f k ≡ g k) → AddsUp g b (b + m) x → sum_in range f b + x ≡ sum_in range f (b + m)
part_of range f g b m x low high same adds =
    let held = held_more range f b m low high in
    let alike = alike_more f g b m same in
    omega (arith, held, alike, adds)

stretch_part : (c : Code) (g : Graph) (q : Profile) (range : BlockRange) (b : ℕ) (stretch : Stretch) → CountsCode c g q → range.last < length c.blocks.items → range.first ≤ b → IsStretch c g q b stretch → StaysIn range b stretch.reach → ArePartSums c g q range b (b + 16) stretch.sums
stretch_part c g q range b stretch counts below low is stays =
    let holds : Holds range stretch.reach = record { plain = stays.plain; first_in = stays.first_in; last_in = stays.last_in } in
    let high = stays.size in
    record {
      home = part_of range (block_words c g q false) (block_words c g q false) b 16 stretch.sums.home low high (λ k from to. refl) is.sums.home;
      copied = part_of range (copied_words_of c g q range) (block_words c g q true) b 16 stretch.sums.copied low high
          (λ k from to. let none = stretch_words c g q range stretch.reach b (b + 16) k counts is.reach holds from to (omega (arith, to, high, below)) in omega (arith, none)) is.sums.copied;
      arrived = part_of range (arrivals_in q) (arrivals_in q) b 16 stretch.sums.arrived low high (λ k from to. refl) is.sums.arrived;
      stayed = part_of range (stays_of c q range) (goes_on c q) b 16 stretch.sums.stayed low high
          (λ k from to. stretch_stays c q range stretch.reach b (b + 16) k is.reach holds from to) is.sums.stayed;
      pending = part_of range (pending c q) (pending c q) b 16 stretch.sums.pending low high (λ k from to. refl) is.sums.pending;
    }

pub skip_part : (c : Code) (g : Graph) (q : Profile) (counts : BlockCounts) (range : BlockRange) (b : ℕ) (stretch : Stretch) → CountsCode c g q → AreBlockCounts c g q counts → IsRange c range → range.first ≤ b → StaysIn range b (slice_index_or counts.stretches.items (b / 16) no_stretch).reach → stretch ≡ slice_index_or counts.stretches.items (b / 16) stretch → ArePartSums c g q range b (b + 16) stretch.sums
skip_part c g q counts range b stretch code blocks is low stays here =
    let high = stays.size in
    let even = stays.even in
    let size = blocks.stretches.size in
    let inside = is.below in
    let below : b / 16 < length c.blocks.items / 16 = omega (arith, even, high, inside) in
    let begins : b / 16 * 16 ≡ b = omega (arith, even) in
    let same = get_or_default counts.stretches.items (b / 16) no_stretch stretch (omega (arith, below, size)) ∙ sym here in
    let at = subst (λ (s : Stretch). IsStretch c g q (b / 16 * 16) s) (sym here) (blocks.stretches.each (b / 16) stretch below) in
    stretch_part c g q range b stretch code inside low
    (subst (λ (n : ℕ). IsStretch c g q n stretch) begins at)
    (subst (λ (s : Stretch). StaysIn range b s.reach) same stays)

-- one block
pub block_part : (c : Code) (g : Graph) (q : Profile) (range : BlockRange) (b : ℕ) (sums : PieceSums) → holds_block b range ≡ true → AreTerms c g q range b sums → ArePartSums c g q range b (b + 1) sums
block_part c g q range b sums held are =
    record {
      home = one_block range (block_words c g q false) b (sum_in range (block_words c g q false) b) sums.home (sum_in range (block_words c g q false) b + sums.home) held refl are.home refl;
      copied = one_block range (copied_words_of c g q range) b (sum_in range (copied_words_of c g q range) b) sums.copied (sum_in range (copied_words_of c g q range) b + sums.copied) held refl are.copied refl;
      arrived = one_block range (arrivals_in q) b (sum_in range (arrivals_in q) b) sums.arrived (sum_in range (arrivals_in q) b + sums.arrived) held refl are.arrived refl;
      stayed = one_block range (stays_of c q range) b (sum_in range (stays_of c q range) b) sums.stayed (sum_in range (stays_of c q range) b + sums.stayed) held refl are.stayed refl;
      pending = one_block range (pending c q) b (sum_in range (pending c q) b) sums.pending (sum_in range (pending c q) b + sums.pending) held refl are.pending refl;
    }

-- ---- steps of the loop over the parts of a piece

pub parts_more : (c : Code) (g : Graph) (q : Profile) (range : BlockRange) (b n : ℕ) (old more new : PieceSums) → AreSums c g q range b old → ArePartSums c g q range b n more → AreAdded old more new → AreSums c g q range n new
parts_more c g q range b n old more new before here is =
    record {
      home = added_part (sum_in range (block_words c g q false) b) old.home more.home new.home before.home is.home here.home;
      copied = added_part (sum_in range (copied_words_of c g q range) b) old.copied more.copied new.copied before.copied is.copied here.copied;
      arrived = added_part (sum_in range (arrivals_in q) b) old.arrived more.arrived new.arrived before.arrived is.arrived here.arrived;
      stayed = added_part (sum_in range (stays_of c q range) b) old.stayed more.stayed new.stayed before.stayed is.stayed here.stayed;
      pending = added_part (sum_in range (pending c q) b) old.pending more.pending new.pending before.pending is.pending here.pending;
    }
  where
    added_part : {all : ℕ} (sum old more new : ℕ) → old ≡ sum → new ≡ old + more → sum + more ≡ all → new ≡ all
    added_part sum old more new before is here = is ∙ (ap (λ s. s + more) before ∙ here)

part_small : (range : BlockRange) (f : ℕ → ℕ) (b n all old more most : ℕ) → n ≤ all → old ≡ sum_in range f b → sum_in range f b + more ≡ sum_in range f n → sum_in range f all ≤ most → old + more ≤ most
part_small range f b n all old more most le before here few =
    let rises = sum_rises (λ k. if holds_block k range then f k else 0) n all le in
    omega (arith, rises, before, here, few)

pub parts_few : (c : Code) (g : Graph) (q : Profile) (range : BlockRange) (b n : ℕ) (old more : PieceSums) → CountsCode c g q → n ≤ length c.blocks.items → AreSums c g q range b old → ArePartSums c g q range b n more → AreFew (record { home = old.home + more.home; copied = old.copied + more.copied; arrived = old.arrived + more.arrived; stayed = old.stayed + more.stayed; pending = old.pending + more.pending })
parts_few c g q range b n old more counts le before here =
    let all = length c.blocks.items in
    record {
      home = part_small range (block_words c g q false) b n all old.home more.home most_run le before.home here.home (counts.home range);
      copied = part_small range (copied_words_of c g q range) b n all old.copied more.copied most_run le before.copied here.copied (counts.copies range);
      arrived = part_small range (arrivals_in q) b n all old.arrived more.arrived most_run le before.arrived here.arrived (counts.arrived range);
      stayed = part_small range (stays_of c q range) b n all old.stayed more.stayed (2 * most_run) le before.stayed here.stayed (few_stays c g q range counts);
      pending = part_small range (pending c q) b n all old.pending more.pending most_run le before.pending here.pending (counts.few_pending range);
    }

-- ---- where edges lead

abbrev AreOrdered : List Edge → Type 0
AreOrdered edges = AllPairs (λ d e. precedes d e ≡ true) edges

pub edge_before : (edges : List Edge) (n j end : ℕ) → end ≡ edges_before edges n → j < end → j < length edges
edge_before edges n j end is below = let few = few_before edges n in omega (arith, is, few, below)

pub from_within : (c : Code) (edges : List Edge) (j : ℕ) (e : Edge) → j < length edges → All (λ e. (e.from < length c.blocks.items) × (e.to < length c.blocks.items)) edges → e ≡ slice_index_or edges j e → e.from < length c.blocks.items
from_within c edges j e below within is = subst (λ (d : Edge). d.from < length c.blocks.items) (sym is) (within j e below).0

pub none_reached : (c : Code) (edges : List Edge) (b from : ℕ) (reach : Reach) → AreOrdered edges → from ≡ edges_before edges b → AreReached c edges b from reach
none_reached c edges b from reach ordered is j below low =
    let few = few_before edges b in
    let before = before_from edges b j ordered (omega (arith, below, few, is)) (omega (arith, below, is)) in
    absurd (omega (arith, before, low))

wider : (c : Code) (d e : Edge) (old new : Reach) → ReachGrows c e old new → IsReached c old d → IsReached c new d
wider c d e old new grows reached may =
    let before = reached may in
    let from = before.first_to in
    let to = before.last_to in
    let low = grows.first_less in
    let high = grows.last_more in
    record {
      plain = λ plain. before.plain (grows.plain plain);
      first_to = omega (arith, from, low);
      last_to = omega (arith, to, high);
    }

pub one_reached : (c : Code) (edges : List Edge) (b j : ℕ) (e : Edge) (old new : Reach) → AreReached c edges b j old → e ≡ edge_in edges j → ReachGrows c e old new → AreReached c edges b (j + 1) new
one_reached c edges b j e old new before is grows i below low =
    elim (cases_lt i j) [
      | inl less ↦ wider c (edge_in edges i) e old new grows (before i less low)
      | inr more ↦ let same : j ≡ i = omega (arith, below, more) in subst (λ (d : Edge). IsReached c new d) (is ∙ ap (edge_in edges) same) grows.here
    ]

pub all_reached : (c : Code) (edges : List Edge) (b n j : ℕ) (reach : Reach) → AreOrdered edges → edges_before edges n ≤ j → AreReached c edges b j reach → IsReach c edges b n reach
all_reached c edges b n j reach ordered end are i below low high =
    elim (cases_lt i (edges_before edges n)) [
      | inl less ↦ are i (omega (arith, less, end)) low
      | inr more ↦ let behind = behind_from edges n i ordered below more in absurd (omega (arith, behind, high))
    ]

-- ---- what whole blocks ran

pub closed_whole : (c : Code) (g : Graph) (q : Profile) (counts : BlockCounts) (b : ℕ) (sums : PieceSums) → AreListedCounts c g q counts → b < length c.blocks.items → may_stay (body_at c.blocks.items b).end ≡ false → AreListed q counts b sums → AreWholeTerms c g q b sums
closed_whole c g q counts b sums listed below closed is =
    let n = length c.blocks.items in
    record {
      home = listed_value (block_words c g q false) n b sums.home counts.home.items listed.home below is.home;
      copied = listed_value (block_words c g q true) n b sums.copied counts.copied.items listed.copied below is.copied;
      arrived = is.arrived;
      stayed = is.stayed ∙ rw closed refl;
      pending = listed_value (pending c q) n b sums.pending counts.pending.items listed.pending below is.pending;
    }

pub open_whole : (c : Code) (g : Graph) (q : Profile) (counts : BlockCounts) (b stays : ℕ) (sums : PieceSums) → AreListedCounts c g q counts → b < length c.blocks.items → may_stay (body_at c.blocks.items b).end ≡ true → AreListed q counts b sums → stays ≡ leaving q.edges.items b always → AreWholeTerms c g q b (record { home = sums.home; copied = sums.copied; arrived = sums.arrived; stayed = stays; pending = sums.pending })
open_whole c g q counts b stays sums listed below may is stay =
    let n = length c.blocks.items in
    record {
      home = listed_value (block_words c g q false) n b sums.home counts.home.items listed.home below is.home;
      copied = listed_value (block_words c g q true) n b sums.copied counts.copied.items listed.copied below is.copied;
      arrived = is.arrived;
      stayed = stay ∙ rw may refl;
      pending = listed_value (pending c q) n b sums.pending counts.pending.items listed.pending below is.pending;
    }

pub no_whole : (c : Code) (g : Graph) (q : Profile) (b : ℕ) → AreWholeSums c g q b b (record { home = 0; copied = 0; arrived = 0; stayed = 0; pending = 0 })
no_whole c g q b = record { home = omega arith; copied = omega arith; arrived = omega arith; stayed = omega arith; pending = omega arith }

pub whole_more : (c : Code) (g : Graph) (q : Profile) (b k : ℕ) (old more new : PieceSums) → AreWholeSums c g q b k old → AreWholeTerms c g q k more → AreAdded old more new → AreWholeSums c g q b (k + 1) new
whole_more c g q b k old more new before here is =
    record {
      home = one_added (block_words c g q false) b k old.home more.home new.home before.home here.home is.home;
      copied = one_added (block_words c g q true) b k old.copied more.copied new.copied before.copied here.copied is.copied;
      arrived = one_added (arrivals_in q) b k old.arrived more.arrived new.arrived before.arrived here.arrived is.arrived;
      stayed = one_added (goes_on c q) b k old.stayed more.stayed new.stayed before.stayed here.stayed is.stayed;
      pending = one_added (pending c q) b k old.pending more.pending new.pending before.pending here.pending is.pending;
    }
  where
    one_added : (f : ℕ → ℕ) (b k old more new : ℕ) → AddsUp f b k old → more ≡ f k → new ≡ old + more → AddsUp f b (k + 1) new
    one_added f b k old more new before here is =
        let next : sum_below f (k + 1) ≡ sum_below f (suc k) = ap (sum_below f) (one_more k) in
        omega (arith, before, here, is, next)
      where
        one_more : (n : ℕ) → n + 1 ≡ suc n
        one_more n = omega arith

-- ---- no sum is large

-- a range of more blocks than there are
abbrev pub most_blocks : Code → BlockRange
most_blocks c = record { first = 0; last = length c.blocks.items }

all_held : (c : Code) (f : ℕ → ℕ) (n : ℕ) → n ≤ length c.blocks.items → sum_below f n ≡ sum_in (most_blocks c) f n
all_held c f n le =
    sum_same f (λ b. if holds_block b (most_blocks c) then f b else 0) n (λ b below.
    let held : holds_block b (most_blocks c) ≡ true = grind (arith, nat_tests, below, le) in
    sym (here (holds_block b (most_blocks c)) (f b) held))
  where
    here : (t : Bool) (x : ℕ) → t ≡ true → (if t then x else 0) ≡ x
    here t x is = rw is refl

pub always_all : (c : Code) (g : Graph) (q : Profile) (b : ℕ) → CountsCode c g q → leaving q.edges.items b always ≡ leaving q.edges.items b (stays_in (most_blocks c))
always_all c g q b counts =
    sum_same (λ j. value_from b always (edge_in edges j)) (λ j. value_from b (stays_in (most_blocks c)) (edge_in edges j)) (length edges) (λ j inside.
    let to = (counts.within j no_edge inside).1 in
    let held : holds_block (edge_in edges j).to (most_blocks c) ≡ true = grind (arith, nat_tests, to) in
    same_value b always (stays_in (most_blocks c)) (edge_in edges j) (sym (rw held refl)))
  where
    edges : List Edge
    edges = q.edges.items

goes_on_is : (c : Code) (g : Graph) (q : Profile) (b : ℕ) → CountsCode c g q → goes_on c q b ≡ stays_of c q (most_blocks c) b
goes_on_is c g q b counts = ap (λ n. if may_stay (body_at c.blocks.items b).end then n else 0) (always_all c g q b counts)

record AreSmall (c : Code) (g : Graph) (q : Profile) : Type 0 where
  home : sum_below (block_words c g q false) (length c.blocks.items) ≤ most_run
  copied : sum_below (block_words c g q true) (length c.blocks.items) ≤ most_run
  arrived : sum_below (arrivals_in q) (length c.blocks.items) ≤ most_run
  stayed : sum_below (goes_on c q) (length c.blocks.items) ≤ 2 * most_run
  pending : sum_below (pending c q) (length c.blocks.items) ≤ most_run

are_small : (c : Code) (g : Graph) (q : Profile) → CountsCode c g q → AreSmall c g q
are_small c g q counts =
    let n = length c.blocks.items in
    let all = most_blocks c in
    let home = all_held c (block_words c g q false) n (omega arith) in
    let home_few = counts.home all in
    let copied = all_held c (copied_words_of c g q all) n (omega arith) in
    let copied_few = counts.copies all in
    let copied_less = sum_less (block_words c g q true) (copied_words_of c g q all) n (λ b below. omega arith) in
    let arrived = all_held c (arrivals_in q) n (omega arith) in
    let arrived_few = counts.arrived all in
    let stayed = sum_same (goes_on c q) (stays_of c q all) n (λ b below. goes_on_is c g q b counts) in
    let stayed_all = all_held c (stays_of c q all) n (omega arith) in
    let stayed_few = few_stays c g q all counts in
    let pending_all = all_held c (pending c q) n (omega arith) in
    let pending_few = counts.few_pending all in
    record {
      home = omega (arith, home, home_few);
      copied = omega (arith, copied, copied_few, copied_less);
      arrived = omega (arith, arrived, arrived_few);
      stayed = omega (arith, stayed, stayed_all, stayed_few);
      pending = omega (arith, pending_all, pending_few);
    }

pub few_taken : (c : Code) (g : Graph) (q : Profile) (b : ℕ) → CountsCode c g q → b < length c.blocks.items → may_stay (body_at c.blocks.items b).end ≡ true → leaving q.edges.items b always ≤ 2 * most_run
few_taken c g q b counts below may =
    let small = (are_small c g q counts).stayed in
    let part = sum_rises (goes_on c q) (suc b) (length c.blocks.items) below in
    let here : goes_on c q b ≡ leaving q.edges.items b always = rw may refl in
    omega (arith, small, part, here)

pub whole_few : (c : Code) (g : Graph) (q : Profile) (b k : ℕ) (old more : PieceSums) → CountsCode c g q → k < length c.blocks.items → AreWholeSums c g q b k old → AreWholeTerms c g q k more → AreFew (record { home = old.home + more.home; copied = old.copied + more.copied; arrived = old.arrived + more.arrived; stayed = old.stayed + more.stayed; pending = old.pending + more.pending })
whole_few c g q b k old more counts below before here =
    let small = are_small c g q counts in
    let all = length c.blocks.items in
    record {
      home = one_few (block_words c g q false) b k all old.home more.home most_run below before.home here.home small.home;
      copied = one_few (block_words c g q true) b k all old.copied more.copied most_run below before.copied here.copied small.copied;
      arrived = one_few (arrivals_in q) b k all old.arrived more.arrived most_run below before.arrived here.arrived small.arrived;
      stayed = one_few (goes_on c q) b k all old.stayed more.stayed (2 * most_run) below before.stayed here.stayed small.stayed;
      pending = one_few (pending c q) b k all old.pending more.pending most_run below before.pending here.pending small.pending;
    }
  where
    one_few : (f : ℕ → ℕ) (b k all old more most : ℕ) → k < all → AddsUp f b k old → more ≡ f k → sum_below f all ≤ most → old + more ≤ most
    one_few f b k all old more most below before here few =
        let rises = sum_rises f (suc k) all below in
        omega (arith, before, here, rises, few)

-- ---- the list of stretches

pub one_stretch : (c : Code) (g : Graph) (q : Profile) (b : ℕ) (old new : List Stretch) (stretch : Stretch) → new ≡ old ++ stretch ∷ [] → AreStretches c g q b old → IsStretch c g q (b * 16) stretch → AreStretches c g q (b + 1) new
one_stretch c g q b old new stretch grown before here =
    let size = before.size in
    let count = ap (λ (xs : List Stretch). length xs) grown ∙ length-append old (stretch ∷ []) in
    record {
      size = omega (arith, size, count);
      each = λ k d below. elim (cases_lt k b) [
        | inl less ↦
            let at = ap (λ (xs : List Stretch). slice_index_or xs k d) grown ∙ get_or-append old (stretch ∷ []) d k (omega (arith, less, size)) in
            subst (λ (s : Stretch). IsStretch c g q (k * 16) s) (sym at) (before.each k d less)
        | inr more ↦
            let same : b ≡ k = omega (arith, below, more) in
            let at = ap (λ (xs : List Stretch). slice_index_or xs k d) grown ∙ get_or_push old stretch d k (omega (arith, size, same)) in
            subst (λ (s : Stretch). IsStretch c g q (k * 16) s) (sym at) (subst (λ (n : ℕ). IsStretch c g q (n * 16) stretch) same here)
      ];
    }
