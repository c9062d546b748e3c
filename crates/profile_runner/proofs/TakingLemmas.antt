-- Steps of one block: what the counters will be, and that there is room for it.
use Rattle.std.proofs.Common.{◌≡◌, ◌∙◌, ℕ, suc, ◌+◌, ◌*◌, ◌<◌, ◌≤◌, Bool, true, false, not, List, length, Option, Some, None, refl, sym, ap, subst, arith}
use Rattle.std.specs.Option.{is_some}
use Rattle.code_blocks.specs.Numbers.{starts_of}
use Rattle.code_blocks.specs.declared.parts.Code.{Code}
use Rattle.region_former.specs.declared.table.RegionTable.{RegionTable}
use Rattle.object_machine.specs.declared.events.Access.{Access}
use Rattle.object_machine.specs.declared.events.Outcome.TheVariants.{GoesOn}
use Rattle.object_machine.specs.declared.machine.Source.{Source}
use Rattle.object_machine.specs.Program.{Program}
use Rattle.object_machine.specs.State.{SourceState}
use Rattle.object_machine.specs.Machine.{state_of, IsProgram}
use Rattle.profile_runner.specs.Transition.{is_going}
use Rattle.profile_runner.specs.Standing.{entered}
use Rattle.profile_runner.specs.Counts.{plain_rows}
use Rattle.profile_runner.specs.Tallies.{IsNext, is_coming, block_now, units_now, plain_edges, LedTo}
use Rattle.profile_runner.specs.Tally.{HasRoomForBlock, HasRoomToAccess, HasRoomToLead, HasRoom, HasBegun, HasEntered, HasAccessed, HasLed, HasCounted, IsNew}
use Rattle.profile_runner.specs.Running.{IsComing, IsSoFar, IsMachineOf}
use Rattle.profile_runner.specs.Taking.{Course, IsCourse, timed, StandsAt, IsTaken, IsBegun, MayTake, MayCount}
use Rattle.profile_runner.specs.declared.tally.Tally.{Tally}
use Rattle.profile_runner.proofs.FindLemmas.{starts_count}
use Rattle.profile_runner.proofs.CountLemmas.{adds_none}
use Rattle.profile_runner.proofs.TallyLemmas.{no_change}
use Rattle.profile_runner.proofs.RunLemmas.{performed, same_outcome}
use Rattle.profile_runner.proofs.StepLemmas.{knows, fits_at, going_by, going_is, so_far_more}
use Rattle.profile_runner.proofs.LoopLemmas.{room_now}

-- ---- the course of a run

abbrev pub course_by : List ℕ → List ℕ → ℕ → ℕ → Program → SourceState → Course
course_by starts regions last size p s =
    record { starts = starts; regions = regions; last = last; size = size; program = p; from = s }

pub course_is : (c : Code) (r : RegionTable) (size : ℕ) (m : Source) (p : Program) (s : SourceState) → IsMachineOf (starts_of c) m → IsProgram p m → length r.of_block.items ≡ length c.blocks.items → IsCourse (course_by (starts_of c) r.of_block.items r.count size p s)
course_is c r size m p s of is same =
    record {
      ascending = of.ascending;
      knows = knows (starts_of c) m p of is;
      same = same ∙ sym (starts_count c);
      fit = λ k. fits_at r.of_block.items r.count k r.within;
    }

pub stands_as : (c : Course) (i j u v : ℕ) (m : Source) (t : Tally) (o : Option ℕ) → i ≡ j → u ≡ v → StandsAt c i u m t o → StandsAt c j v m t o
stands_as c i j u v m t o steps units stands =
    subst (λ k. StandsAt c k v m t o) steps (subst (λ k. StandsAt c i k m t o) units stands)

pub begun_as : (c : Course) (i j u v : ℕ) (m : Source) (t : Tally) → i ≡ j → u ≡ v → IsBegun c i u m t → IsBegun c j v m t
begun_as c i j u v m t steps units begun =
    subst (λ k. IsBegun c k v m t) steps (subst (λ k. IsBegun c i k m t) units begun)

-- ---- a step is counted

counted : (regions : List ℕ) (coming next : Option ℕ) (access : Option Access) (j v : ℕ) (t y x z : Tally) → HasBegun regions coming t (timed j v y) → HasAccessed access y x → HasLed next x z → HasCounted regions coming access next t (timed (suc j) v z)
counted regions coming next access j v t y x z b a l =
    let block : z.block ≡ y.block = ap (λ (q : Tally). q.block) l.rest ∙ ap (λ (q : Tally). q.block) a.rest in
    let region : z.region ≡ y.region = ap (λ (q : Tally). q.region) l.rest ∙ ap (λ (q : Tally). q.region) a.rest in
    let reads : z.reads ≡ x.reads = ap (λ (q : Tally). q.reads) l.rest in
    let writes : z.writes ≡ x.writes = ap (λ (q : Tally). q.writes) l.rest in
    let read_from : y.reads ≡ t.reads = ap (λ (q : Tally). q.reads) b.rest in
    let written_from : y.writes ≡ t.writes = ap (λ (q : Tally). q.writes) b.rest in
    let arrivals : z.arrivals ≡ y.arrivals = ap (λ (q : Tally). q.arrivals) l.rest ∙ ap (λ (q : Tally). q.arrivals) a.rest in
    let changes : z.changes ≡ y.changes = ap (λ (q : Tally). q.changes) l.rest ∙ ap (λ (q : Tally). q.changes) a.rest in
    let edges : x.edges ≡ t.edges = ap (λ (q : Tally). q.edges) a.rest ∙ ap (λ (q : Tally). q.edges) b.rest in
    let led_from : x.block ≡ z.block = sym (ap (λ (q : Tally). q.block) l.rest) in
    record {
      steps_are = ap suc (ap (λ (q : Tally). q.steps) b.rest);
      block_is = block ∙ b.block_is;
      units_are = b.units_are;
      region_is = region ∙ b.region_is;
      arrivals_add = rw arrivals b.arrivals_add;
      edges_add = subst (λ k. LedTo next k (plain_edges t.edges.items) (plain_edges z.edges.items)) led_from (rw (sym edges) l.edges_add);
      reads_add = rw (reads, region, sym read_from) a.reads_add;
      writes_add = rw (writes, region, sym written_from) a.writes_add;
      changes_add = rw (changes, region) b.changes_add;
    }

pub unit_counted : (c : Course) (j v : ℕ) (m n : Source) (y x z : Tally) (next : Option ℕ) (stays : Bool) → IsCourse c → IsBegun c j v m y → (state_of c.program m).outcome ≡ GoesOn → IsTaken c.starts c.program m n next stays y x → HasLed next x z → StandsAt c (suc j) v n z next
unit_counted c j v m n y x z next stays course begun going taken led =
    so_far_more c.starts c.regions c.last c.size c.program c.from j m n begun.before (timed (suc j) v z) begun.coming next course.knows course.fit going begun.far
    (record {
      is = taken.is;
      event = taken.event;
      step = taken.step;
      counted = counted c.regions begun.coming next taken.event.access j v begun.before y x z begun.begun taken.accessed led;
      next_is = taken.next_is;
    })

-- ---- the next unit is of the same block

begun_none : (regions : List ℕ) (j v : ℕ) (t : Tally) → HasBegun regions None (timed j v t) (timed j (suc v) t)
begun_none regions j v t =
    record {
      block_is = refl;
      units_are = refl;
      region_is = refl;
      arrivals_add = adds_none t.arrivals.items (is_coming None) (λ k. refl);
      changes_add = no_change t.changes t.region;
      rest = refl;
    }

begins_none : (c : Course) (j v : ℕ) (m : Source) (t : Tally) → StandsAt c j v m t None → IsBegun c j (suc v) m t
begins_none c j v m t stands =
    record { before = timed j v t; coming = None; far = stands; begun = begun_none c.regions j v t }

pub unit_inside : (c : Course) (j v : ℕ) (m n : Source) (y x z : Tally) (next : Option ℕ) (stays : Bool) → IsCourse c → IsBegun c j v m y → (state_of c.program m).outcome ≡ GoesOn → IsTaken c.starts c.program m n next stays y x → stays ≡ true → HasLed None x z → StandsAt c (suc j) v n z None
unit_inside c j v m n y x z next stays course begun going taken stay led =
    let none = (taken.inside stay).0 in
    subst (λ (o : Option ℕ). StandsAt c (suc j) v n z o) none
    (unit_counted c j v m n y x z next stays course begun going taken (subst (λ (o : Option ℕ). HasLed o x z) (sym none) led))

pub next_begun : (c : Course) (j v : ℕ) (m n : Source) (y x : Tally) (next : Option ℕ) (stays : Bool) → IsCourse c → IsBegun c j v m y → (state_of c.program m).outcome ≡ GoesOn → IsTaken c.starts c.program m n next stays y x → stays ≡ true → IsBegun c (suc j) (suc v) n x
next_begun c j v m n y x next stays course begun going taken stay =
    begins_none c (suc j) v n x (unit_inside c j v m n y x x next stays course begun going taken stay (record { edges_add = refl; rest = refl }))

pub unit_goes : (c : Course) (m n : Source) (y x : Tally) (next : Option ℕ) (stays : Bool) → (state_of c.program m).outcome ≡ GoesOn → IsTaken c.starts c.program m n next stays y x → stays ≡ true → (state_of c.program n).outcome ≡ GoesOn
unit_goes c m n y x next stays going taken stay =
    let (read, performs) = performed (state_of c.program m).outcome c.program (state_of c.program m) (state_of c.program n) taken.event going taken.step in
    sym (same_outcome c.program (state_of c.program m) (state_of c.program n) taken.event read performs) ∙ going_by taken.event.outcome (taken.inside stay).1

led_on : (starts : List ℕ) (goes_on : Bool) (a k : ℕ) (next : Option ℕ) → IsNext starts goes_on a next → next ≡ Some k → goes_on ≡ true
led_on starts true a k next to is = refl
led_on starts false a k next to is = cc

pub unit_led : (c : Course) (m n : Source) (y x : Tally) (next : Option ℕ) (stays : Bool) (k : ℕ) → (state_of c.program m).outcome ≡ GoesOn → IsTaken c.starts c.program m n next stays y x → next ≡ Some k → (state_of c.program n).outcome ≡ GoesOn
unit_led c m n y x next stays k going taken is =
    let (read, performs) = performed (state_of c.program m).outcome c.program (state_of c.program m) (state_of c.program n) taken.event going taken.step in
    sym (same_outcome c.program (state_of c.program m) (state_of c.program n) taken.event read performs)
    ∙ going_by taken.event.outcome (led_on c.starts (is_going taken.event.outcome) (state_of c.program n).pc k next taken.next_is is)

pub unit_ended : (c : Course) (m n : Source) (y x : Tally) (next : Option ℕ) (stays : Bool) → (state_of c.program m).outcome ≡ GoesOn → IsTaken c.starts c.program m n next stays y x → stays ≡ false → next ≡ None → is_going (state_of c.program n).outcome ≡ false
unit_ended c m n y x next stays going taken off none =
    let (read, performs) = performed (state_of c.program m).outcome c.program (state_of c.program m) (state_of c.program n) taken.event going taken.step in
    ap is_going (sym (same_outcome c.program (state_of c.program m) (state_of c.program n) taken.event read performs)) ∙ taken.ended off none

-- ---- a block begins

begun_more : (regions : List ℕ) (k j u : ℕ) (t y : Tally) → HasEntered regions k t y → HasBegun regions (Some k) (timed j u t) (timed j 1 y)
begun_more regions k j u t y entered =
    record {
      block_is = entered.block_is;
      units_are = refl;
      region_is = entered.region_is;
      arrivals_add = entered.arrivals_add;
      changes_add = entered.changes_add;
      rest = ap (timed j 1) entered.rest;
    }

block_begun : (c : Course) (j u : ℕ) (m : Source) (t y : Tally) (k : ℕ) → StandsAt c j u m t (Some k) → HasEntered c.regions k t y → IsBegun c j 1 m y
block_begun c j u m t y k stands entered =
    record { before = timed j u t; coming = Some k; far = stands; begun = begun_more c.regions k j u t y entered }

pub may_count : (starts regions : List ℕ) (last size i u most : ℕ) (p : Program) (s : SourceState) (m : Source) (t : Tally) (k : ℕ) (coming : Option ℕ) → coming ≡ Some k → IsCourse (course_by starts regions last size p s) → IsSoFar starts regions last size p s i m (timed i u t) coming → (state_of p m).outcome ≡ GoesOn → 0 < most → i + most < 18446744073709551616 → MayCount (course_by starts regions last size p s) regions i u most m t k
may_count starts regions last size i u most p s m t k coming at course far going some few =
    record {
      course = course;
      regions_are = refl;
      far = subst (λ (o : Option ℕ). IsSoFar starts regions last size p s i m (timed i u t) o) at far;
      going = going;
      some = some;
      few = few;
    }

pub may_take : (c : Course) (regions : List ℕ) (i u most : ℕ) (m : Source) (t y : Tally) (k : ℕ) → MayCount c regions i u most m t k → HasEntered regions k t y → MayTake c i most m y
may_take c regions i u most m t y k may entered =
    record {
      course = may.course;
      begun = block_begun c i u m t y k may.far (subst (λ (rs : List ℕ). HasEntered rs k t y) (sym may.regions_are) entered);
      going = may.going;
      some = may.some;
      few = may.few;
    }

pub none_of : (o : Option ℕ) (none : Bool) → is_some o ≡ not none → none ≡ true → o ≡ None
none_of None none is told = refl
none_of (Some k) none is told = let differs : true ≡ false = is ∙ ap not told in cc

pub some_of : (o : Option ℕ) (none : Bool) → is_some o ≡ not none → none ≡ false → o ≡ None → ⊥
some_of None none is told same = let differs : false ≡ true = is ∙ ap not told in cc
some_of (Some k) none is told same = cc

-- ---- room

room_at : (c : Course) (j : ℕ) (m : Source) (t : Tally) (coming next : Option ℕ) → IsCourse c → (state_of c.program m).outcome ≡ GoesOn → j < 18446744073709551615 → IsSoFar c.starts c.regions c.last c.size c.program c.from j m t coming → HasRoom c.regions coming next t
room_at c j m t coming next course going few far =
    room_now c.starts c.regions c.last c.size c.program c.from j m t coming next far going few course.same course.fit

begin_as : (regions : List ℕ) (k j u : ℕ) (t : Tally) → HasRoomForBlock regions k (timed j u t) → HasRoomForBlock regions k t
begin_as regions k j u t room =
    record { number = room.number; row = room.row; arrival = room.arrival; change = room.change }

pub room_to_begin : (c : Course) (j u : ℕ) (m : Source) (t : Tally) (k : ℕ) → IsCourse c → (state_of c.program m).outcome ≡ GoesOn → j < 18446744073709551615 → StandsAt c j u m t (Some k) → HasRoomForBlock c.regions k t
room_to_begin c j u m t k course going few stands =
    begin_as c.regions k j u t (room_at c j m (timed j u t) (Some k) None course going few stands).begin

pub room_to_access : (c : Course) (j v : ℕ) (m : Source) (y : Tally) → IsCourse c → (state_of c.program m).outcome ≡ GoesOn → j < 18446744073709551615 → IsBegun c j v m y → HasRoomToAccess y.region (plain_rows y.reads.items) (plain_rows y.writes.items)
room_to_access c j v m y course going few begun =
    let b = begun.begun in
    let reads : y.reads ≡ begun.before.reads = ap (λ (q : Tally). q.reads) b.rest in
    let writes : y.writes ≡ begun.before.writes = ap (λ (q : Tally). q.writes) b.rest in
    rw (b.region_is, reads, writes)
    (room_at c j m begun.before begun.coming None course going few begun.far).accesses

pub room_to_lead : (c : Course) (j v : ℕ) (m : Source) (y x : Tally) (access : Option Access) (next : Option ℕ) → IsCourse c → (state_of c.program m).outcome ≡ GoesOn → j < 18446744073709551615 → IsBegun c j v m y → HasAccessed access y x → HasRoomToLead next x.block (plain_edges x.edges.items)
room_to_lead c j v m y x access next course going few begun accessed =
    let b = begun.begun in
    let edges : x.edges ≡ begun.before.edges = ap (λ (q : Tally). q.edges) accessed.rest ∙ ap (λ (q : Tally). q.edges) b.rest in
    let block : x.block ≡ block_now begun.coming begun.before.block = ap (λ (q : Tally). q.block) accessed.rest ∙ b.block_is in
    rw (edges, block)
    (room_at c j m begun.before begun.coming next course going few begun.far).lead

few_units : (coming : Option ℕ) (v units pc : ℕ) → v ≡ units_now coming units → pc + 4 < 4294967296 → (coming ≡ None → 4 * units ≤ pc) → v ≤ 1073741824
few_units None v units pc is below behind = let le = behind refl in omega (arith, is, below, le)
few_units (Some k) v units pc is below behind = omega (arith, is)

-- no block has more units than words fit below 2 ^ 32
pub units_short : (c : Course) (j v : ℕ) (m : Source) (y : Tally) → (state_of c.program m).outcome ≡ GoesOn → IsBegun c j v m y → v ≤ 1073741824
units_short c j v m y going begun =
    let far = begun.far in
    let now = going_is (state_of c.program m).outcome (IsComing c.starts (state_of c.program m).pc far.transitions begun.before begun.coming) going far.next in
    few_units begun.coming v begun.before.units (state_of c.program m).pc begun.begun.units_are m.below now.behind

-- ---- the first transition

pub timed_new : (blocks size last first j u : ℕ) (t : Tally) → j ≡ 0 → IsNew blocks size last first t → IsNew blocks size last first (timed j u t)
timed_new blocks size last first j u t none new =
    record {
      no_steps = none;
      no_arrivals = new.no_arrivals;
      no_edges = new.no_edges;
      no_reads = new.no_reads;
      no_writes = new.no_writes;
      no_switches = new.no_switches;
      no_leaves = new.no_leaves;
      no_enters = new.no_enters;
      first_block = new.first_block;
      no_region = new.no_region;
    }
