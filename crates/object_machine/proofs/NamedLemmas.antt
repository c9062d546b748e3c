-- Units that are performed by their names.
use Rattle.std.proofs.Common.{◌≡◌, ℕ, ◌+◌, true, false, is_some, Option, Some, None, refl, sym, ◌∙◌, ap, subst}
use Rattle.rv32im.specs.declared.instructions.Instr.{Instr}
use Rattle.code_blocks.specs.Early.{has}
use Rattle.cell_values.specs.declared.values.Val.{Val}
use Rattle.object_graph.specs.declared.parts.Site.{Site}
use Rattle.object_machine.specs.declared.events.Access.{Access}
use Rattle.object_machine.specs.declared.events.Event.{Event}
use Rattle.object_machine.specs.declared.events.Outcome.{Outcome}
use Rattle.object_machine.specs.declared.events.Outcome.TheVariants.{GoesOn}
use Rattle.object_machine.specs.declared.units.Pair.{Pair}
use Rattle.object_machine.specs.declared.machine.Source.{Source}
use Rattle.object_machine.specs.Program.{Program}
use Rattle.object_machine.specs.State.{SourceState, wrote}
use Rattle.object_machine.specs.Flow.{falls_on, jumps}
use Rattle.object_machine.specs.Step.{acts, one_word, access_by}
use Rattle.object_machine.specs.Units.{unit_in, target_of, leads_on}
use Rattle.object_machine.specs.Named.{IsPresent, Went, Stays}
use Rattle.object_machine.specs.Machine.{here, seen, seen_program, seen_state, next_by, accesses, when_going, Runs, StepsFrom, Becomes}

next_from : (q : Program) (s : SourceState) (i : Instr) (read : Option Instr) (pair : Option Pair) → read ≡ Some i → is_some pair ≡ false → next_by q s read pair ≡ acts q s i (q.site s.pc)
next_from q s i read None is without = ap (one_word q s) is
next_from q s i read (Some c) is without = cc

told_from : (q : Program) (s : SourceState) (i : Instr) (read : Option Instr) (pair : Option Pair) → read ≡ Some i → is_some pair ≡ false → accesses q s read pair ≡ access_by q s (Some i)
told_from q s i read None is without = ap (access_by q s) is
told_from q s i read (Some c) is without = cc

-- a machine goes on as the instruction does
pub went_by : (old new : Source) (i : Instr) (told : Option Access) → IsPresent old i → new.tables ≡ old.tables → seen_state new ≡ acts (seen old) (seen_state old) i ((seen old).site old.pc) → new.outcome ≡ old.outcome → told ≡ access_by (seen old) (seen_state old) (Some i) → Went old new told
went_by old new i told named tables state outcome access =
    let u = here old in
    record {
      tables = tables;
      state = state ∙ sym (next_from (seen old) (seen_state old) i u.instr u.pair named.instr named.pair);
      outcome = outcome;
      access = access ∙ sym (told_from (seen old) (seen_state old) i u.instr u.pair named.instr named.pair);
    }

-- ---- units that lead to the next word

no_site : (site : Option Site) → is_some site ≡ false → target_of site ≡ None
no_site None without = refl
no_site (Some s) without = cc

falls_here : (q : Program) (s t : SourceState) → q.falls s.pc ≡ true → record t { pc = s.pc + 4 } ≡ falls_on q s t
falls_here q s t falls = rw falls refl

pub no_target : (old : Source) (i : Instr) → IsPresent old i → leads_on i ≡ true → (seen old).site old.pc ≡ None
no_target old i named leads = no_site (here old).site (named.straight leads).site

pub went_on : (old new : Source) (i : Instr) (t : SourceState) (told : Option Access) → IsPresent old i → leads_on i ≡ true → Becomes old new (record t { pc = old.pc + 4 }) → acts (seen old) (seen_state old) i None ≡ falls_on (seen old) (seen_state old) t → t.outcome ≡ old.outcome → told ≡ access_by (seen old) (seen_state old) (Some i) → Went old new told
went_on old new i t told named leads becomes is outcome access =
    let q = seen old in
    let s = seen_state old in
    let falls : q.falls s.pc ≡ true = (named.straight leads).falls in
    let site = ap (acts q s i) (no_target old i named leads) in
    went_by old new i told named becomes.0 (becomes.1 ∙ (falls_here q s t falls ∙ (sym is ∙ sym site))) (ap (λ (x : SourceState). x.outcome) becomes.1 ∙ outcome) access

-- a value is written
pub wrote_on : (old new : Source) (i : Instr) (rd : ℕ) (v w : Val) (told : Option Access) → IsPresent old i → leads_on i ≡ true → Becomes old new (record (wrote (seen_state old) rd v) { pc = old.pc + 4 }) → acts (seen old) (seen_state old) i None ≡ falls_on (seen old) (seen_state old) (wrote (seen_state old) rd w) → v ≡ w → told ≡ access_by (seen old) (seen_state old) (Some i) → Went old new told
wrote_on old new i rd v w told named leads becomes is same access =
    let q = seen old in
    let s = seen_state old in
    went_on old new i (wrote s rd v) told named leads becomes (is ∙ ap (λ (x : Val). falls_on q s (wrote s rd x)) (sym same)) refl access

-- ---- jumps

pub jumped : (q : Program) (s t : SourceState) (a : ℕ) → q.is_block a ≡ true → record t { pc = a } ≡ jumps q s a t
jumped q s t a block = rw block refl

-- a value is written, and the machine is at a block
pub linked : (old set new : Source) (i : Instr) (rd place a : ℕ) (v : Val) → IsPresent old i → Becomes old set (wrote (seen_state old) rd v) → Becomes set new (record (seen_state set) { pc = (unit_in set.tables.units.items place).at }) → (unit_in old.tables.units.items place).at ≡ a → has old.tables.starts.items a ≡ true → acts (seen old) (seen_state old) i ((seen old).site old.pc) ≡ jumps (seen old) (seen_state old) a (wrote (seen_state old) rd v) → None ≡ access_by (seen old) (seen_state old) (Some i) → Went old new None
linked old set new i rd place a v named written entered at block is access =
    let s = seen_state old in
    let state : seen_state new ≡ record (wrote s rd v) { pc = a } =
    entered.1
    ∙ ((λ z. record (written.1 z) { pc = (unit_in (written.0 z).units.items place).at })
    ∙ ap (λ (p : ℕ). record (wrote s rd v) { pc = p }) at) in
    went_by old new i None named (entered.0 ∙ written.0) (state ∙ (jumped (seen old) s (wrote s rd v) a block ∙ sym is)) (ap (λ (x : SourceState). x.outcome) state) access

-- ---- the step

pub steps_by_name : (old new : Source) (told : Option Access) (event : Event) → old.outcome ≡ GoesOn → Went old new told → event ≡ record { at = old.pc; outcome = GoesOn; access = told } → StepsFrom old.outcome old event (seen_state new)
steps_by_name old new told event going went is =
    let goes : new.outcome ≡ GoesOn = went.outcome ∙ going in
    subst (λ (o : Outcome). StepsFrom o old event (seen_state new)) (sym going) (record {
      state = went.state;
      event = is
          ∙ (ap (λ (x : Option Access). record { at = old.pc; outcome = GoesOn; access = x }) went.access
          ∙ ap (λ (o : Outcome). record { at = old.pc; outcome = o; access = when_going o (accesses (seen old) (seen_state old) (here old).instr (here old).pair) }) (sym goes));
    })

-- a step of a machine that is as it was
pub runs_still : (old mid : Source) (event : Event) (t : SourceState) → Stays old mid → Runs mid event t → Runs old event t
runs_still old mid event t stays runs =
    let unit : here mid ≡ here old = λ z. unit_in (stays.tables z).units.items (stays.place z) in
    record {
      state = runs.state ∙ (λ z. next_by (seen_program (stays.tables z) (unit z)) (stays.state z) (unit z).instr (unit z).pair);
      event = runs.event ∙ (λ z. record {
        at = (stays.state z).pc;
        outcome = t.outcome;
        access = when_going t.outcome (accesses (seen_program (stays.tables z) (unit z)) (stays.state z) (unit z).instr (unit z).pair);
      });
    }

pub goes_still : (old mid : Source) → old.outcome ≡ GoesOn → Stays old mid → mid.outcome ≡ GoesOn
goes_still old mid going stays = ap (λ (s : SourceState). s.outcome) stays.state ∙ going

pub steps_still : (old mid : Source) (event : Event) (t : SourceState) → old.outcome ≡ GoesOn → Stays old mid → StepsFrom mid.outcome mid event t → StepsFrom old.outcome old event t
steps_still old mid event t going stays steps =
    let inner : Runs mid event t = subst (λ (o : Outcome). StepsFrom o mid event t) (goes_still old mid going stays) steps in
    subst (λ (o : Outcome). StepsFrom o old event t) (sym going) (runs_still old mid event t stays inner)
