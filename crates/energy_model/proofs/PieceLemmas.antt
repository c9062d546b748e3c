-- The sums that the code makes over the blocks of a piece.
use Rattle.std.proofs.Common.{◌≡◌, ◌∙◌, ℕ, suc, ◌+◌, ◌-◌, ◌*◌, ◌<◌, ◌≤◌, ◌==◌, nat_le, Bool, true, false, ◌&&◌, if◌then◌else◌, List, length, slice_index_or, Option, Some, None, refl, sym, ap, arith}
use Rattle.std.proofs.lemmas.Bool.Decides.{nat_tests}
use Rattle.list_checks.proofs.SumLemmas.{sum_zero, sum_stays, sum_rises}
use Rattle.list_checks.proofs.TestLemmas.{both}
use Rattle.rv32im.specs.declared.instructions.Instr.{Instr}
use Rattle.rv32im.specs.declared.instructions.Instr.TheVariants as instr
use Rattle.object_graph.specs.declared.parts.Graph.{Graph}
use Rattle.code_blocks.specs.Numbers.{starts_of, start_at}
use Rattle.code_blocks.specs.declared.ends.End.{End}
use Rattle.code_blocks.specs.declared.ends.End.TheVariants as end
use Rattle.code_blocks.specs.declared.parts.Unit.{Unit}
use Rattle.code_blocks.specs.declared.parts.Code.{Code}
use Rattle.profile_runner.specs.declared.counts.Edge.{Edge}
use Rattle.profile_runner.specs.declared.counts.Profile.{Profile}
use Rattle.block_splitter.specs.declared.block_range.BlockRange.{BlockRange}
use Rattle.block_splitter.specs.declared.unit_kind.UnitKind.{UnitKind}
use Rattle.block_splitter.specs.Forms.{Body, body_at, unit_in, is_last, is_site, kind_of, last_kind, tail_kind, indirect_kind, holds_block, begins_in}
use Rattle.block_splitter.specs.Pieces.{IsRange}
use Rattle.energy_model.specs.declared.block_counts.BlockCounts.{BlockCounts}
use Rattle.energy_model.specs.declared.block_counts.PieceSums.{PieceSums}
use Rattle.energy_model.specs.Energy.{may_stay}
use Rattle.energy_model.specs.Copied.{exit_words, leaving_words, arrivals_in, block_words, value_from, edge_in, leaving, sum_in, edge_words, stays_in, copied_words_of, stays_of, stayed, pending, came_in, values, edges_before}
use Rattle.energy_model.specs.Counts.{most_run, CountsCode, AreBlockCounts, AreEdgeStarts, AreListed, AreSums, AreTerms}
use Rattle.energy_model.proofs.CopyLemmas.{straight_stays}
use Rattle.energy_model.proofs.EdgeLemmas.{values_length, values_at}

-- ---- the blocks of a range

pub none_before : (range : BlockRange) (f : ℕ → ℕ) → sum_in range f range.first ≡ 0
none_before range f =
    sum_zero (λ b. if holds_block b range then f b else 0) range.first (λ b below.
    let test : holds_block b range ≡ false = not_yet (nat_le range.first b) (nat_le b range.last) (grind (arith, nat_tests, below)) in
    rw test refl)
  where
    not_yet : (a b : Bool) → a ≡ false → a && b ≡ false
    not_yet a b is = rw is refl

pub one_held : (range : BlockRange) (f : ℕ → ℕ) (b : ℕ) → holds_block b range ≡ true → sum_in range f (suc b) ≡ sum_in range f b + f b
one_held range f b held = rw held refl

pub none_behind : (range : BlockRange) (f : ℕ → ℕ) (n : ℕ) → range.last < n → sum_in range f n ≡ sum_in range f (suc range.last)
none_behind range f n below =
    sum_stays (λ b. if holds_block b range then f b else 0) (suc range.last) n (omega (arith, below)) (λ b from inside.
    let test : holds_block b range ≡ false = no_more (nat_le range.first b) (nat_le b range.last) (grind (arith, nat_tests, from)) in
    rw test refl)
  where
    no_more : (a b : Bool) → b ≡ false → a && b ≡ false
    no_more true b is = is
    no_more false b is = refl

-- a part of the sum, and a term of it
pub part_in : (range : BlockRange) (f : ℕ → ℕ) (b n : ℕ) → b < n → holds_block b range ≡ true → sum_in range f b + f b ≤ sum_in range f n
part_in range f b n below held =
    let more = sum_rises (λ k. if holds_block k range then f k else 0) (suc b) n below in
    let here = one_held range f b held in
    omega (arith, more, here)

-- ---- what the tables tell of a block

pub listed : (f : ℕ → ℕ) (n k : ℕ) (xs : List ℕ) → xs ≡ values f n → k < n → k < length xs
listed f n k xs is below =
    let count = ap (λ (l : List ℕ). length l) is ∙ values_length f n in
    omega (arith, count, below)

pub listed_value : (f : ℕ → ℕ) (n k x : ℕ) (xs : List ℕ) → xs ≡ values f n → k < n → x ≡ slice_index_or xs k 0 → x ≡ f k
listed_value f n k x xs is below at = at ∙ (ap (λ (l : List ℕ). slice_index_or l k 0) is ∙ values_at f n k below)

pub edge_starts_at : (edges : List Edge) (n b : ℕ) (starts : List ℕ) → starts ≡ values (edges_before edges) (suc n) → b < n → AreEdgeStarts edges b starts
edge_starts_at edges n b starts is below =
    let f = edges_before edges in
    record {
      inside = listed f (suc n) (b + 1) starts is (omega (arith, below));
      from = listed_value f (suc n) b (slice_index_or starts b 0) starts is (omega (arith, below)) refl;
      to = listed_value f (suc n) (b + 1) (slice_index_or starts (b + 1) 0) starts is (omega (arith, below)) refl;
    }

pub few_leave : (c : Code) (g : Graph) (q : Profile) (range : BlockRange) (b : ℕ) → CountsCode c g q → holds_block b range ≡ true → b < length c.blocks.items → copied_words_of c g q range b ≤ most_run
few_leave c g q range b counts held below =
    let part = part_in range (copied_words_of c g q range) b (length c.blocks.items) below held in
    let few = counts.copies range in
    omega (arith, part, few)

if_small : (b : Bool) (x : ℕ) → (if b then x else 0) ≤ x
if_small true x = omega arith
if_small false x = omega arith

pub few_stays : (c : Code) (g : Graph) (q : Profile) (range : BlockRange) → CountsCode c g q → stayed c q range ≤ 2 * most_run
few_stays c g q range counts =
    let stays = counts.stays range in
    let arrived = counts.arrived range in
    let stopped = counts.few_pending range in
    let inside = if_small (holds_block q.last.0 range && may_stay (body_at c.blocks.items q.last.0).end) (sum_in range (pending c q) (length c.blocks.items)) in
    omega (arith, stays, arrived, stopped, inside)

pub came_small : (c : Code) (g : Graph) (q : Profile) (range : BlockRange) → CountsCode c g q → came_in c q range ≤ 2 * most_run
came_small c g q range counts =
    let arrived = counts.arrived range in
    let stopped = counts.few_pending range in
    let inside = if_small (holds_block q.last.0 range && may_stay (body_at c.blocks.items q.last.0).end) (sum_in range (pending c q) (length c.blocks.items)) in
    omega (arith, arrived, stopped, inside)

pub few_stay : (c : Code) (g : Graph) (q : Profile) (range : BlockRange) (b : ℕ) → CountsCode c g q → holds_block b range ≡ true → b < length c.blocks.items → may_stay (body_at c.blocks.items b).end ≡ true → leaving q.edges.items b (stays_in range) ≤ 2 * most_run
few_stay c g q range b counts held below may =
    let part = part_in range (stays_of c q range) b (length c.blocks.items) below held in
    let few = few_stays c g q range counts in
    let here : stays_of c q range b ≡ leaving q.edges.items b (stays_in range) = rw may refl in
    omega (arith, part, few, here)

-- ---- a block that leads to no other of its copy

tail_stays : (inside : ℕ → Bool) (next target : ℕ) (i : Option Instr) → exit_words inside next (tail_kind target i) ≡ 0
tail_stays inside next target None = refl
tail_stays inside next target (Some (instr.Lui rd imm)) = refl
tail_stays inside next target (Some i) = refl

indirect_stays : (inside : ℕ → Bool) (next : ℕ) (back : Option ℕ) (i : Option Instr) → exit_words inside next (indirect_kind back i) ≡ 0
indirect_stays inside next None i = refl
indirect_stays inside next (Some back) None = refl
indirect_stays inside next (Some back) (Some (instr.Lui rd imm)) = refl
indirect_stays inside next (Some back) (Some i) = refl

closed_words : (sites inside : ℕ → Bool) (next : ℕ) (e : End) (u : Unit) → may_stay e ≡ false → leaving_words inside next (last_kind sites e u) e ≡ 0
closed_words sites inside next (end.Fall behind) u closed = cc
closed_words sites inside next (end.Branch target behind) u closed = cc
closed_words sites inside next (end.Jump target) u closed = cc
closed_words sites inside next (end.Call target back link) u closed = refl
closed_words sites inside next (end.Tail target) u closed = let none = tail_stays inside next target u.instr in omega (arith, none)
closed_words sites inside next (end.Indirect back) u closed = let none = indirect_stays inside next back u.instr in omega (arith, none)
closed_words sites inside next end.Stop u closed = let none = straight_stays sites inside next u.at u.instr in omega (arith, none)

pub last_is : (sites : ℕ → Bool) (b : Body) → 0 < length b.units → kind_of sites b (length b.units - 1) ≡ last_kind sites b.end (unit_in b (length b.units - 1))
last_is sites b some =
    let last : is_last b (length b.units - 1) ≡ true = grind (arith, nat_tests, some) in
    rw last refl

closed_edge : (c : Code) (g : Graph) (range : BlockRange) (b to : ℕ) → 0 < length (body_at c.blocks.items b).units → may_stay (body_at c.blocks.items b).end ≡ false → edge_words c g range b to ≡ 0
closed_edge c g range b to some closed =
    let body = body_at c.blocks.items b in
    let inside = begins_in (starts_of c) range in
    ap (λ (k : UnitKind). leaving_words inside (start_at c to) k body.end) (last_is (is_site g) body some)
    ∙ closed_words (is_site g) inside (start_at c to) body.end (unit_in body (length body.units - 1)) closed

pub no_value : (a : ℕ) (value : ℕ → ℕ) (e : Edge) → value e.to ≡ 0 → value_from a value e ≡ 0
no_value a value e none = by_test (e.from == a)
  where
    by_test : (b : Bool) → (if b then e.count * value e.to else 0) ≡ 0
    by_test true = rw none (omega arith)
    by_test false = refl

pub none_leave : (c : Code) (g : Graph) (q : Profile) (range : BlockRange) (b : ℕ) → 0 < length (body_at c.blocks.items b).units → may_stay (body_at c.blocks.items b).end ≡ false → leaving q.edges.items b (edge_words c g range b) ≡ 0
none_leave c g q range b some closed =
    sum_zero (λ j. value_from b (edge_words c g range b) (edge_in q.edges.items j)) (length q.edges.items) (λ j below.
    no_value b (edge_words c g range b) (edge_in q.edges.items j) (closed_edge c g range b (edge_in q.edges.items j).to some closed))

pub closed_are : (c : Code) (g : Graph) (q : Profile) (counts : BlockCounts) (range : BlockRange) (b : ℕ) (sums : PieceSums) → CountsCode c g q → AreBlockCounts c g q counts → b < length c.blocks.items → may_stay (body_at c.blocks.items b).end ≡ false → AreListed q counts b sums → AreTerms c g q range b sums
closed_are c g q counts range b sums code blocks below closed is =
    let n = length c.blocks.items in
    let none = none_leave c g q range b (code.filled b below) closed in
    let copied = listed_value (block_words c g q true) n b sums.copied counts.copied.items blocks.listed.copied below is.copied in
    record {
      home = listed_value (block_words c g q false) n b sums.home counts.home.items blocks.listed.home below is.home;
      copied = omega (arith, copied, none);
      arrived = is.arrived;
      stayed = is.stayed ∙ rw closed refl;
      pending = listed_value (pending c q) n b sums.pending counts.pending.items blocks.listed.pending below is.pending;
    }

pub open_are : (c : Code) (g : Graph) (q : Profile) (counts : BlockCounts) (range : BlockRange) (b words stays : ℕ) (sums : PieceSums) → AreBlockCounts c g q counts → b < length c.blocks.items → may_stay (body_at c.blocks.items b).end ≡ true → AreListed q counts b sums → words ≡ leaving q.edges.items b (edge_words c g range b) → stays ≡ leaving q.edges.items b (stays_in range) → AreTerms c g q range b (record { home = sums.home; copied = sums.copied + words; arrived = sums.arrived; stayed = stays; pending = sums.pending })
open_are c g q counts range b words stays sums blocks below may is left stay =
    let n = length c.blocks.items in
    let copied = listed_value (block_words c g q true) n b sums.copied counts.copied.items blocks.listed.copied below is.copied in
    record {
      home = listed_value (block_words c g q false) n b sums.home counts.home.items blocks.listed.home below is.home;
      copied = omega (arith, copied, left);
      arrived = is.arrived;
      stayed = stay ∙ rw may refl;
      pending = listed_value (pending c q) n b sums.pending counts.pending.items blocks.listed.pending below is.pending;
    }

-- ---- steps of loops over the blocks of a range

pub one_block : (range : BlockRange) (f : ℕ → ℕ) (b old more new : ℕ) → holds_block b range ≡ true → old ≡ sum_in range f b → more ≡ f b → new ≡ old + more → new ≡ sum_in range f (b + 1)
one_block range f b old more new held before here is =
    let next : sum_in range f (b + 1) ≡ sum_in range f (suc b) = ap (sum_in range f) (one_more b) in
    let sum = one_held range f b held in
    omega (arith, before, here, is, next, sum)
  where
    one_more : (n : ℕ) → n + 1 ≡ suc n
    one_more n = omega arith

pub no_sums : (c : Code) (g : Graph) (q : Profile) (range : BlockRange) → AreSums c g q range range.first (record { home = 0; copied = 0; arrived = 0; stayed = 0; pending = 0 })
no_sums c g q range =
    record {
      home = sym (none_before range (block_words c g q false));
      copied = sym (none_before range (copied_words_of c g q range));
      arrived = sym (none_before range (arrivals_in q));
      stayed = sym (none_before range (stays_of c q range));
      pending = sym (none_before range (pending c q));
    }

pub part_few : (range : BlockRange) (f : ℕ → ℕ) (b n old more most : ℕ) → b < n → holds_block b range ≡ true → old ≡ sum_in range f b → more ≡ f b → sum_in range f n ≤ most → old + more ≤ most
part_few range f b n old more most below held before here few =
    let part = part_in range f b n below held in
    omega (arith, part, before, here, few)

pub all_blocks : (range : BlockRange) (f : ℕ → ℕ) (n b sum : ℕ) → range.last < n → b ≡ range.last + 1 → sum ≡ sum_in range f b → sum ≡ sum_in range f n
all_blocks range f n b sum below last is =
    is ∙ (ap (sum_in range f) (next b range.last last) ∙ sym (none_behind range f n below))
  where
    next : (b m : ℕ) → b ≡ m + 1 → b ≡ suc m
    next b m last = omega (arith, last)

pub sums_all : (c : Code) (g : Graph) (q : Profile) (range : BlockRange) (b : ℕ) (sums : PieceSums) → range.last < length c.blocks.items → b ≡ range.last + 1 → AreSums c g q range b sums → AreSums c g q range (length c.blocks.items) sums
sums_all c g q range b sums below last are =
    let n = length c.blocks.items in
    record {
      home = all_blocks range (block_words c g q false) n b sums.home below last are.home;
      copied = all_blocks range (copied_words_of c g q range) n b sums.copied below last are.copied;
      arrived = all_blocks range (arrivals_in q) n b sums.arrived below last are.arrived;
      stayed = all_blocks range (stays_of c q range) n b sums.stayed below last are.stayed;
      pending = all_blocks range (pending c q) n b sums.pending below last are.pending;
    }

pub held_inside : (c : Code) (range : BlockRange) (b : ℕ) → IsRange c range → holds_block b range ≡ true → b < length c.blocks.items
held_inside c range b is held =
    let last = (both (nat_le range.first b) (nat_le b range.last) held).1 in
    let to : b ≤ range.last = grind (arith, nat_tests, last) in
    let bound = is.below in
    omega (arith, to, bound)
