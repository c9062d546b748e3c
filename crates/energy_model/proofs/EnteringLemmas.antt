-- The sums that the code makes over the blocks of a piece by which control enters a region.
use Rattle.std.proofs.Common.{◌≡◌, ◌∙◌, ℕ, ◌+◌, ◌-◌, ◌*◌, ◌<◌, ◌≤◌, Bool, true, false, ◌&&◌, if◌then◌else◌, List, length, slice_index_or, refl, sym, ap, arith}
use Rattle.std.proofs.lemmas.Nat.{mul-le}
use Rattle.list_checks.specs.Sorted.{sum_below}
use Rattle.list_checks.proofs.SumLemmas.{sum_zero, sum_same}
use Rattle.object_graph.specs.declared.parts.Graph.{Graph}
use Rattle.code_blocks.specs.declared.parts.Code.{Code}
use Rattle.region_former.specs.declared.table.RegionTable.{RegionTable}
use Rattle.profile_runner.specs.declared.counts.Profile.{Profile}
use Rattle.block_splitter.specs.declared.block_range.BlockRange.{BlockRange}
use Rattle.block_splitter.specs.declared.unit_kind.UnitKind.{UnitKind}
use Rattle.block_splitter.specs.declared.unit_kind.UnitKind.TheVariants.{Plain, Upper, Branch, Jump, Call, Tail, Indirect, Linking, Halt}
use Rattle.block_splitter.specs.Forms.{body_at, is_site, kind_of, holds_block, displaced_words}
use Rattle.energy_model.specs.Energy.{may_stay}
use Rattle.energy_model.specs.Copied.{arrivals_in, value_from, edge_in, leaving, sum_in, pending, pending_to, came_to}
use Rattle.energy_model.specs.Counts.{most_run, CountsCode}
use Rattle.energy_model.specs.Overlay.{checks_in, first_runs, displaced_run, first_words, is_entered}
use Rattle.energy_model.specs.OverlayCost.{CountsOverlay}
use Rattle.energy_model.specs.Entering.{IsBare, displaced_of, first_of, if_border, entered_in, stays_entered, IsEnteringBlock, AreEntering, AreEnteringAdded, AreFewEntering, IsEnteringCount}
use Rattle.energy_model.specs.declared.entering_counts.EnteringSums.{EnteringSums}
use Rattle.energy_model.proofs.CountsLemmas.{sum_times}
use Rattle.energy_model.proofs.DisplacedLemmas.{sum_less}
use Rattle.energy_model.proofs.PieceLemmas.{no_value, none_before, one_block, part_in, part_few, all_blocks}

-- ---- bounds

pub if_at_most : (b : Bool) (x most : ℕ) → x ≤ most → (if b then x else 0) ≤ most
if_at_most true x most few = few
if_at_most false x most few = omega arith

displaced_few : (kind : UnitKind) → displaced_words kind ≤ 3
displaced_few Plain = omega arith
displaced_few (Upper rd value) = omega arith
displaced_few (Branch kind rs1 rs2 target) = omega arith
displaced_few (Jump target) = omega arith
displaced_few (Call target back link) = omega arith
displaced_few (Tail target register) = omega arith
displaced_few Indirect = omega arith
displaced_few (Linking back link base imm) = omega arith
displaced_few Halt = omega arith

displaced_within : (c : Code) (g : Graph) (q : Profile) (b : ℕ) → displaced_of c g q b ≤ arrivals_in q b * 3
displaced_within c g q b =
    mul-le (first_runs q b) (displaced_words (kind_of (is_site g) (body_at c.blocks.items b) 0)) (arrivals_in q b) 3 (omega arith)
    (displaced_few (kind_of (is_site g) (body_at c.blocks.items b) 0))

-- where control enters regions
pub few_checks : (c : Code) (t : RegionTable) (g : Graph) (q : Profile) → CountsOverlay c t g q → checks_in q t.border.items (length c.blocks.items) ≤ 1000000000
few_checks c t g q counts =
    let less = sum_less (if_border t.border.items (arrivals_in q)) (arrivals_in q) (length c.blocks.items) (λ b below.
    if_at_most (slice_index_or t.border.items b false) (arrivals_in q b) (arrivals_in q b) (omega arith)) in
    let few = counts.few in
    omega (arith, less, few)

-- by the length of the table
pub checks_same : (c : Code) (t : RegionTable) (g : Graph) (q : Profile) (borders : List Bool) → CountsOverlay c t g q → borders ≡ t.border.items → checks_in q borders (length borders) ≡ checks_in q t.border.items (length c.blocks.items)
checks_same c t g q borders counts is =
    ap (λ (bs : List Bool). checks_in q bs (length bs)) is ∙ ap (checks_in q t.border.items) counts.borders

pub few_at_borders : (c : Code) (t : RegionTable) (g : Graph) (q : Profile) (borders : List Bool) → CountsOverlay c t g q → borders ≡ t.border.items → checks_in q borders (length borders) ≤ most_run
few_at_borders c t g q borders counts is =
    let few = few_checks c t g q counts in
    let same = checks_same c t g q borders counts is in
    omega (arith, few, same)

pub few_first : (c : Code) (t : RegionTable) (g : Graph) (q : Profile) → CountsOverlay c t g q → first_words c q t.border.items ≤ 2000000000
few_first c t g q counts =
    let checks = few_checks c t g q counts in
    let enough = counts.enough in
    omega (arith, checks, enough)

pub few_displaced : (c : Code) (t : RegionTable) (g : Graph) (q : Profile) → CountsOverlay c t g q → displaced_run c g q t.border.items ≤ 3000000000
few_displaced c t g q counts =
    let n = length c.blocks.items in
    let less = sum_less (if_border t.border.items (displaced_of c g q)) (λ b. arrivals_in q b * 3) n (λ b below.
    if_at_most (slice_index_or t.border.items b false) (displaced_of c g q b) (arrivals_in q b * 3) (displaced_within c g q b)) in
    let times = sum_times (arrivals_in q) 3 n in
    let few = counts.few in
    omega (arith, less, times, few)

-- of a piece
held_less : (range : BlockRange) (f : ℕ → ℕ) (n : ℕ) → sum_in range f n ≤ sum_below f n
held_less range f n = sum_less (λ b. if holds_block b range then f b else 0) f n (λ b below. if_at_most (holds_block b range) (f b) (f b) (omega arith))

border_less : (borders : List Bool) (range : BlockRange) (f : ℕ → ℕ) (n : ℕ) → sum_in range (if_border borders f) n ≤ sum_in range f n
border_less borders range f n =
    sum_less (λ b. if holds_block b range then if_border borders f b else 0) (λ b. if holds_block b range then f b else 0) n
    (λ b below. nested (holds_block b range) (slice_index_or borders b false) (f b))
  where
    nested : (held border : Bool) (x : ℕ) → (if held then (if border then x else 0) else 0) ≤ (if held then x else 0)
    nested true true x = omega arith
    nested true false x = omega arith
    nested false border x = omega arith

-- ---- blocks of a piece by which control enters a region

pub entered_sum : (borders : List Bool) (range : BlockRange) (f : ℕ → ℕ) (n : ℕ) → sum_in range (if_border borders f) n ≡ sum_below (λ b. if is_entered borders range b then f b else 0) n
entered_sum borders range f n =
    sum_same (λ b. if holds_block b range then if_border borders f b else 0) (λ b. if is_entered borders range b then f b else 0) n
    (λ b below. both_tests (slice_index_or borders b false) (holds_block b range) (f b))
  where
    both_tests : (border held : Bool) (x : ℕ) → (if held then (if border then x else 0) else 0) ≡ (if border && held then x else 0)
    both_tests true true x = refl
    both_tests true false x = refl
    both_tests false true x = refl
    both_tests false false x = refl

-- control that stayed
pub few_stayed : (c : Code) (t : RegionTable) (g : Graph) (q : Profile) (range : BlockRange) → CountsCode c g q → CountsOverlay c t g q → sum_in range (stays_entered c q t.border.items range) (length c.blocks.items) ≤ 2000000000000
few_stayed c t g q range code counts =
    let n = length c.blocks.items in
    let borders = t.border.items in
    let came = counts.came range in
    let arrived = entered_sum borders range (arrivals_in q) n in
    let all = held_less range (if_border borders (arrivals_in q)) n in
    let checks = few_checks c t g q counts in
    let stopped = entered_sum borders range (pending c q) n in
    let less = border_less borders range (pending c q) n in
    let few = code.few_pending range in
    let inside = if_at_most (holds_block q.last.0 range && may_stay (body_at c.blocks.items q.last.0).end) (sum_below (λ b. if is_entered borders range b then pending c q b else 0) n)
    (sum_below (λ b. if is_entered borders range b then pending c q b else 0) n) (omega arith) in
    omega (arith, came, arrived, all, checks, stopped, less, few, inside)

pub few_stay : (c : Code) (t : RegionTable) (g : Graph) (q : Profile) (range : BlockRange) (a : ℕ) → CountsCode c g q → CountsOverlay c t g q → holds_block a range ≡ true → a < length c.blocks.items → may_stay (body_at c.blocks.items a).end ≡ true → leaving q.edges.items a (entered_in t.border.items range) ≤ 2 * most_run
few_stay c t g q range a code counts held below may =
    let part = part_in range (stays_entered c q t.border.items range) a (length c.blocks.items) below held in
    let few = few_stayed c t g q range code counts in
    let here : stays_entered c q t.border.items range a ≡ leaving q.edges.items a (entered_in t.border.items range) = rw may refl in
    omega (arith, part, few, here)

-- a piece without such blocks
pub none_entered : (c : Code) (g : Graph) (q : Profile) (borders : List Bool) (range : BlockRange) (n : ℕ) → IsBare borders range → AreEntering c g q borders range n (record { checks = 0; displaced = 0; first = 0; pending = 0; stayed = 0 })
none_entered c g q borders range n bare =
    record {
      checks = sym (no_border (arrivals_in q));
      displaced = sym (no_border (displaced_of c g q));
      first = sym (no_border (first_of c q));
      pending = sym (no_border (pending c q));
      stayed = sym (sum_zero (λ a. if holds_block a range then stays_entered c q borders range a else 0) n (λ a below. if_zero (holds_block a range) (stays_entered c q borders range a) (λ held. none_stays a)));
    }
  where
    if_zero : (t : Bool) (x : ℕ) → (t ≡ true → x ≡ 0) → (if t then x else 0) ≡ 0
    if_zero true x none = none refl
    if_zero false x none = refl

    no_border : (f : ℕ → ℕ) → sum_in range (if_border borders f) n ≡ 0
    no_border f = sum_zero (λ b. if holds_block b range then if_border borders f b else 0) n (λ b below. if_zero (holds_block b range) (if_border borders f b) (λ held. let test = bare b held in rw test refl))

    not_in : (border held : Bool) → (held ≡ true → border ≡ false) → ◌≡◌ {A = ℕ} (if border && held then 1 else 0) 0
    not_in true true none = absurd (let wrong = none refl in cc)
    not_in true false none = refl
    not_in false held none = refl

    none_stays : (a : ℕ) → stays_entered c q borders range a ≡ 0
    none_stays a = if_zero (may_stay (body_at c.blocks.items a).end) (leaving q.edges.items a (entered_in borders range)) (λ may. sum_zero (λ j. value_from a (entered_in borders range) (edge_in q.edges.items j)) (length q.edges.items) (λ j below. no_value a (entered_in borders range) (edge_in q.edges.items j) (not_in (slice_index_or borders (edge_in q.edges.items j).to false) (holds_block (edge_in q.edges.items j).to range) (bare (edge_in q.edges.items j).to))))

-- ---- steps of the loop over the blocks of a piece

pub no_entering : (c : Code) (g : Graph) (q : Profile) (borders : List Bool) (range : BlockRange) → AreEntering c g q borders range range.first (record { checks = 0; displaced = 0; first = 0; pending = 0; stayed = 0 })
no_entering c g q borders range =
    record {
      checks = sym (none_before range (if_border borders (arrivals_in q)));
      displaced = sym (none_before range (if_border borders (displaced_of c g q)));
      first = sym (none_before range (if_border borders (first_of c q)));
      pending = sym (none_before range (if_border borders (pending c q)));
      stayed = sym (none_before range (stays_entered c q borders range));
    }

pub entering_more : (c : Code) (g : Graph) (q : Profile) (borders : List Bool) (range : BlockRange) (b : ℕ) (old more new : EnteringSums) → holds_block b range ≡ true → AreEntering c g q borders range b old → IsEnteringBlock c g q borders range b more → AreEnteringAdded old more new → AreEntering c g q borders range (b + 1) new
entering_more c g q borders range b old more new held before here is =
    record {
      checks = one_block range (if_border borders (arrivals_in q)) b old.checks more.checks new.checks held before.checks here.checks is.checks;
      displaced = one_block range (if_border borders (displaced_of c g q)) b old.displaced more.displaced new.displaced held before.displaced here.displaced is.displaced;
      first = one_block range (if_border borders (first_of c q)) b old.first more.first new.first held before.first here.first is.first;
      pending = one_block range (if_border borders (pending c q)) b old.pending more.pending new.pending held before.pending here.pending is.pending;
      stayed = one_block range (stays_entered c q borders range) b old.stayed more.stayed new.stayed held before.stayed here.stayed is.stayed;
    }

-- the sums over a whole piece
pub record AreSmallEntering (c : Code) (g : Graph) (q : Profile) (borders : List Bool) (range : BlockRange) (n : ℕ) : Type 0 where
  pub checks : sum_in range (if_border borders (arrivals_in q)) n ≤ 1000000000
  pub displaced : sum_in range (if_border borders (displaced_of c g q)) n ≤ 3000000000
  pub first : sum_in range (if_border borders (first_of c q)) n ≤ 2000000000
  pub pending : sum_in range (if_border borders (pending c q)) n ≤ 1000000000000
  pub stayed : sum_in range (stays_entered c q borders range) n ≤ 2000000000000

pub small_entering : (c : Code) (t : RegionTable) (g : Graph) (q : Profile) (range : BlockRange) → CountsCode c g q → CountsOverlay c t g q → AreSmallEntering c g q t.border.items range (length c.blocks.items)
small_entering c t g q range code counts =
    let n = length c.blocks.items in
    let borders = t.border.items in
    let checks = held_less range (if_border borders (arrivals_in q)) n in
    let few = few_checks c t g q counts in
    let displaced = held_less range (if_border borders (displaced_of c g q)) n in
    let displaced_all = few_displaced c t g q counts in
    let first = held_less range (if_border borders (first_of c q)) n in
    let first_all = few_first c t g q counts in
    let stopped = border_less borders range (pending c q) n in
    let stopped_few = code.few_pending range in
    record {
      checks = omega (arith, checks, few);
      displaced = omega (arith, displaced, displaced_all);
      first = omega (arith, first, first_all);
      pending = omega (arith, stopped, stopped_few);
      stayed = few_stayed c t g q range code counts;
    }

pub few_entering : (c : Code) (t : RegionTable) (g : Graph) (q : Profile) (range : BlockRange) (b : ℕ) (old more : EnteringSums) → CountsCode c g q → CountsOverlay c t g q → holds_block b range ≡ true → b < length c.blocks.items → AreEntering c g q t.border.items range b old → IsEnteringBlock c g q t.border.items range b more → AreFewEntering (record { checks = old.checks + more.checks; displaced = old.displaced + more.displaced; first = old.first + more.first; pending = old.pending + more.pending; stayed = old.stayed + more.stayed })
few_entering c t g q range b old more code counts held below before here =
    let n = length c.blocks.items in
    let borders = t.border.items in
    let small = small_entering c t g q range code counts in
    record {
      checks = part_few range (if_border borders (arrivals_in q)) b n old.checks more.checks most_run below held before.checks here.checks (let le = small.checks in omega (arith, le));
      displaced = part_few range (if_border borders (displaced_of c g q)) b n old.displaced more.displaced most_run below held before.displaced here.displaced (let le = small.displaced in omega (arith, le));
      first = part_few range (if_border borders (first_of c q)) b n old.first more.first most_run below held before.first here.first (let le = small.first in omega (arith, le));
      pending = part_few range (if_border borders (pending c q)) b n old.pending more.pending most_run below held before.pending here.pending small.pending;
      stayed = part_few range (stays_entered c q borders range) b n old.stayed more.stayed (2 * most_run) below held before.stayed here.stayed (let le = small.stayed in omega (arith, le));
    }

pub entering_all : (c : Code) (g : Graph) (q : Profile) (borders : List Bool) (range : BlockRange) (b : ℕ) (sums : EnteringSums) → range.last < length c.blocks.items → b ≡ range.last + 1 → AreEntering c g q borders range b sums → AreEntering c g q borders range (length c.blocks.items) sums
entering_all c g q borders range b sums below last are =
    let n = length c.blocks.items in
    record {
      checks = all_blocks range (if_border borders (arrivals_in q)) n b sums.checks below last are.checks;
      displaced = all_blocks range (if_border borders (displaced_of c g q)) n b sums.displaced below last are.displaced;
      first = all_blocks range (if_border borders (first_of c q)) n b sums.first below last are.first;
      pending = all_blocks range (if_border borders (pending c q)) n b sums.pending below last are.pending;
      stayed = all_blocks range (stays_entered c q borders range) n b sums.stayed below last are.stayed;
    }

-- where control enters a region
pub at_border : (borders : List Bool) (f : ℕ → ℕ) (b x : ℕ) → slice_index_or borders b false ≡ true → x ≡ f b → x ≡ if_border borders f b
at_border borders f b x border is = is ∙ sym (here (slice_index_or borders b false) (f b) border)
  where
    here : (test : Bool) (y : ℕ) → test ≡ true → (if test then y else 0) ≡ y
    here test y is = rw is refl

-- ---- all of it

few_stopped : (c : Code) (t : RegionTable) (g : Graph) (q : Profile) (range : BlockRange) → CountsCode c g q → pending_to c q range (is_entered t.border.items range) ≤ 1000000000000
few_stopped c t g q range code =
    let n = length c.blocks.items in
    let borders = t.border.items in
    let stopped = entered_sum borders range (pending c q) n in
    let less = border_less borders range (pending c q) n in
    let few = code.few_pending range in
    let inside = if_at_most (holds_block q.last.0 range && may_stay (body_at c.blocks.items q.last.0).end) (sum_below (λ b. if is_entered borders range b then pending c q b else 0) n)
    (sum_below (λ b. if is_entered borders range b then pending c q b else 0) n) (omega arith) in
    omega (arith, stopped, less, few, inside)

pub few_came : (c : Code) (t : RegionTable) (g : Graph) (q : Profile) (range : BlockRange) → CountsCode c g q → CountsOverlay c t g q → came_to c q range (is_entered t.border.items range) ≤ 2000000000000
few_came c t g q range code counts =
    let few = few_stopped c t g q range code in
    let checks = (small_entering c t g q range code counts).checks in
    let arrived = entered_sum t.border.items range (arrivals_in q) (length c.blocks.items) in
    omega (arith, few, checks, arrived)

pub came_fits : (c : Code) (t : RegionTable) (g : Graph) (q : Profile) (range : BlockRange) (sums : EnteringSums) (stopped : ℕ) → CountsCode c g q → CountsOverlay c t g q → AreEntering c g q t.border.items range (length c.blocks.items) sums → stopped ≡ pending_to c q range (is_entered t.border.items range) → sums.checks + stopped ≤ 2000000000000
came_fits c t g q range sums stopped code counts are is =
    let few = few_stopped c t g q range code in
    let checks = (small_entering c t g q range code counts).checks in
    let sum = are.checks in
    omega (arith, few, checks, sum, is)

pub stays_within : (c : Code) (t : RegionTable) (g : Graph) (q : Profile) (range : BlockRange) (sums : EnteringSums) (stopped : ℕ) → CountsOverlay c t g q → AreEntering c g q t.border.items range (length c.blocks.items) sums → stopped ≡ pending_to c q range (is_entered t.border.items range) → sums.stayed ≤ sums.checks + stopped
stays_within c t g q range sums stopped counts are is =
    let came = counts.came range in
    let arrived = entered_sum t.border.items range (arrivals_in q) (length c.blocks.items) in
    let checks = are.checks in
    let stayed = are.stayed in
    omega (arith, came, arrived, checks, stayed, is)

pub is_entering : (c : Code) (t : RegionTable) (g : Graph) (q : Profile) (range : BlockRange) (sums : EnteringSums) (stopped : ℕ) → CountsCode c g q → CountsOverlay c t g q → AreEntering c g q t.border.items range (length c.blocks.items) sums → stopped ≡ pending_to c q range (is_entered t.border.items range) → IsEnteringCount c g q t.border.items range (record { checks = sums.checks; displaced = sums.displaced; first = sums.first; came = sums.checks + stopped - sums.stayed })
is_entering c t g q range sums stopped code counts are is =
    let n = length c.blocks.items in
    let borders = t.border.items in
    let small = small_entering c t g q range code counts in
    let checks = are.checks ∙ entered_sum borders range (arrivals_in q) n in
    let few_checks = small.checks in
    let few_displaced = small.displaced in
    let few_first = small.first in
    let checks_are = are.checks in
    let displaced_are = are.displaced in
    let first_are = are.first in
    let fits = came_fits c t g q range sums stopped code counts are is in
    record {
      checks = checks;
      displaced = are.displaced ∙ entered_sum borders range (displaced_of c g q) n;
      first = are.first ∙ entered_sum borders range (first_of c q) n;
      came = λ i. checks i + is i - are.stayed i;
      small_checks = omega (arith, few_checks, checks_are);
      small_displaced = omega (arith, few_displaced, displaced_are);
      small_first = omega (arith, few_first, first_are);
      small_came = omega (arith, fits);
    }
