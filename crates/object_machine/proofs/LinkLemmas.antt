-- A step that the tables tell is one of the program with which they agree.
use Rattle.std.proofs.Common.{◌≡◌, ℕ, ◌+◌, ◌||◌, nat_lt, Bool, true, if◌then◌else◌, is_some, Option, Some, None, refl, sym, ◌∙◌, ap, subst}
use Rattle.rv32im.specs.declared.instructions.Instr.{Instr}
use Rattle.rv32im.specs.Fields.{rd_of}
use Rattle.cell_values.specs.declared.values.Val.{Val}
use Rattle.cell_values.specs.declared.values.Val.TheVariants.{Int, Unknown}
use Rattle.object_machine.specs.declared.events.Access.{Access}
use Rattle.object_machine.specs.declared.events.Event.{Event}
use Rattle.object_machine.specs.declared.events.Outcome.{Outcome}
use Rattle.object_machine.specs.declared.events.Outcome.TheVariants.{GoesOn, Exited, Trapped, AddressFault}
use Rattle.object_machine.specs.declared.units.Pair.{Pair}
use Rattle.object_machine.specs.declared.units.Prepared.{Prepared}
use Rattle.object_machine.specs.declared.tables.Tables.{Tables}
use Rattle.object_machine.specs.declared.machine.Source.{Source}
use Rattle.object_machine.specs.Program.{Program}
use Rattle.object_machine.specs.State.{SourceState, wrote}
use Rattle.object_machine.specs.Flow.{jumps, pair_link, calls_pair}
use Rattle.object_machine.specs.Footprints.{footprint_of, footprint_by}
use Rattle.object_machine.specs.Units.{target_of, may_lead, may_fall}
use Rattle.object_machine.specs.Reports.{IsCallOf}
use Rattle.object_machine.specs.Step.{Reads, acts, one_word, next_state, access_by, access_of, Performs, StepFrom, Step}
use Rattle.object_machine.specs.Machine.{pictured, state_of, seen_state, Agrees, IsProgram, seen_program, here, seen, calls, next_by, accesses, when_going, StepsFrom}
use Rattle.object_machine.proofs.AlikeLemmas.{joined, acts_alike, access_alike}

-- ---- the program, as it is and joined with what the tables tell

same_program : (p : Program) (t : Tables) (u : Prepared) → Agrees p t → p ≡ joined (seen_program t u) p
same_program p t u agrees =
    λ z. record p {
      objects = agrees.objects z;
      is_block = λ a. agrees.blocks a z;
      is_reached = λ a. agrees.reached a z;
      is_fixed = λ a. agrees.fixed a z;
      is_held = λ a. agrees.held a z;
    }

pub same_state : (p : Program) (m : Source) → IsProgram p m → state_of p m ≡ seen_state m
same_state p m agrees = λ z. pictured (λ a. agrees.fixed a z) (agrees.objects z) m

-- ---- the unit at the pc

pub record IsAt (p : Program) (q : Program) (u : Prepared) (a : ℕ) : Type 0 where
  pub meant : Reads (p.word a) u.instr
  pub site : p.site a ≡ q.site a
  pub here : q.site a ≡ target_of u.site
  pub pair : p.is_pair a ≡ is_some u.pair
  pub call : IsCallOf p a u.pair
  pub falls : may_fall u ≡ true → p.falls a ≡ q.falls a

-- ---- what it does

link_same : (p : Program) (s : SourceState) (c : Pair) → c.links ≡ nat_lt 0 (rd_of (p.word (s.pc + 4))) → pair_link p s ≡ (if c.links then Int (s.pc + 8) else Unknown)
link_same p s c links = rw links

calls_same : (q p : Program) (s : SourceState) (c : Pair) → IsCallOf p s.pc (Some c) → calls_pair (joined q p) s ≡ calls q s c
calls_same q p s c is =
    let link : pair_link (joined q p) s ≡ (if c.links then Int (s.pc + 8) else Unknown) = link_same (joined q p) s c is.2 in
    ap (λ (v : Val). jumps q s (p.goes s.pc) (wrote s (rd_of (p.word s.pc)) v)) link
    ∙ (ap (λ (k : ℕ). jumps q s (p.goes s.pc) (wrote s k (if c.links then Int (s.pc + 8) else Unknown))) (sym is.1)
    ∙ ap (λ (a : ℕ). jumps q s a (wrote s c.register (if c.links then Int (s.pc + 8) else Unknown))) (sym is.0))

one_same : (q p : Program) (s : SourceState) (u : Prepared) (read : Option Instr) → p.site s.pc ≡ q.site s.pc → (may_lead read None ≡ true → p.falls s.pc ≡ q.falls s.pc) → one_word (joined q p) s read ≡ one_word q s read
one_same q p s u None site falls = refl
one_same q p s u (Some i) site falls =
    ap (acts (joined q p) s i) site ∙ acts_alike q p s i (q.site s.pc) falls

next_same : (q p : Program) (s : SourceState) (u : Prepared) (pair : Option Pair) → p.is_pair s.pc ≡ is_some pair → IsCallOf p s.pc pair → p.site s.pc ≡ q.site s.pc → (may_lead u.instr pair ≡ true → p.falls s.pc ≡ q.falls s.pc) → next_state (joined q p) s u.instr ≡ next_by q s u.instr pair
next_same q p s u None is call site falls = rw is (one_same q p s u u.instr site falls)
next_same q p s u (Some c) is call site falls = rw is (calls_same q p s c call)

-- ---- what it tells

told_same : (q p : Program) (s : SourceState) (read : Option Instr) (pair : Option Pair) → p.is_pair s.pc ≡ is_some pair → p.site s.pc ≡ q.site s.pc → (if p.is_pair s.pc then None else access_by (joined q p) s read) ≡ accesses q s read pair
told_same q p s read None is site = rw is (access_alike q p s read site)
told_same q p s read (Some c) is site = rw is

access_same : (q p : Program) (s : SourceState) (o : Outcome) (read : Option Instr) (pair : Option Pair) → p.is_pair s.pc ≡ is_some pair → p.site s.pc ≡ q.site s.pc → access_of (joined q p) s o read ≡ when_going o (accesses q s read pair)
access_same q p s GoesOn read pair is site = told_same q p s read pair is site
access_same q p s (Exited code) read pair is site = refl
access_same q p s (Trapped pc) read pair is site = refl
access_same q p s (AddressFault pc why) read pair is site = refl

-- ---- the step

at_unit : (p : Program) (m : Source) → IsProgram p m → IsAt p (seen m) (here m) m.pc
at_unit p m agrees =
    let u = here m in
    let tells = agrees.units m.place m.inside in
    let block = agrees.blocks (u.at + 4) in
    subst (IsAt p (seen m) u) m.at (record {
      meant = tells.meant;
      site = tells.site;
      here = refl;
      pair = tells.pair;
      call = tells.call;
      falls = λ may. tells.falls may ∙ ap (λ (b : Bool). u.goes_on || b) block;
    })

runs_performs : (q p : Program) (m : Source) (e : Event) (t : SourceState) → IsAt p q (here m) m.pc → t ≡ next_by q (seen_state m) (here m).instr (here m).pair → e ≡ record { at = m.pc; outcome = t.outcome; access = when_going t.outcome (accesses q (seen_state m) (here m).instr (here m).pair) } → Performs (joined q p) (seen_state m) e t (here m).instr
runs_performs q p m e t at state event =
    let s = seen_state m in
    let u = here m in
    let next = next_same q p s u u.pair at.pair at.call at.site at.falls in
    let access = access_same q p s t.outcome u.instr u.pair at.pair at.site in
    record {
      meant = at.meant;
      state = state ∙ sym next;
      event = event ∙ ap (λ (x : Option Access). record { at = m.pc; outcome = t.outcome; access = x }) (sym access);
    }

step_from : (o : Outcome) (p : Program) (m : Source) (e : Event) (t : SourceState) → IsProgram p m → StepsFrom o m e t → StepFrom o (joined (seen m) p) (seen_state m) e t
step_from GoesOn p m e t agrees runs = ((here m).instr, runs_performs (seen m) p m e t (at_unit p m agrees) runs.state runs.event)
step_from (Exited code) p m e t agrees stays = stays
step_from (Trapped pc) p m e t agrees stays = stays
step_from (AddressFault pc why) p m e t agrees stays = stays

pub step_of : (p : Program) (m : Source) (e : Event) (t : SourceState) → IsProgram p m → StepsFrom m.outcome m e t → Step p (state_of p m) e t
step_of p m e t agrees steps =
    let inner : Step (joined (seen m) p) (seen_state m) e t = step_from m.outcome p m e t agrees steps in
    let outer : Step p (seen_state m) e t = subst (λ (q : Program). Step q (seen_state m) e t) (sym (same_program p m.tables (here m) agrees)) inner in
    subst (λ (s : SourceState). Step p s e t) (sym (same_state p m agrees)) outer

-- ---- what it asks of memory

footprint_same : (p : Program) (a : ℕ) (read : Option Instr) (pair : Option Pair) → p.is_pair a ≡ is_some pair → footprint_by read pair ≡ footprint_of p a read
footprint_same p a read None is = rw is refl
footprint_same p a read (Some c) is = rw is refl

pub footprint_here : (p : Program) (m : Source) → IsProgram p m → (read : Option Instr) × (Reads (p.word m.pc) read × (footprint_by (here m).instr (here m).pair ≡ footprint_of p m.pc read))
footprint_here p m agrees =
    let u = here m in
    let at = at_unit p m agrees in
    (u.instr, (at.meant, footprint_same p m.pc u.instr u.pair at.pair))

-- ---- the program stays

-- the tables stay, and so the program does
pub stays_program : (p : Program) (m n : Source) → n.tables ≡ m.tables → IsProgram p m → IsProgram p n
stays_program p m n same agrees = subst (Agrees p) (sym same) agrees

-- a whole step
pub whole_step : (p : Program) (m n : Source) (e : Event) → n.tables ≡ m.tables → StepsFrom m.outcome m e (seen_state n) → IsProgram p m → IsProgram p n × Step p (state_of p m) e (state_of p n)
whole_step p m n e tables steps agrees =
    let after = stays_program p m n tables agrees in
    let step : Step p (state_of p m) e (seen_state n) = step_of p m e (seen_state n) agrees steps in
    (after, subst (λ (s : SourceState). Step p (state_of p m) e s) (sym (same_state p n after)) step)

-- none, where there was no memory
pub no_step : (p : Program) (m n : Source) → n.tables ≡ m.tables → seen_state n ≡ seen_state m → IsProgram p m → IsProgram p n × (state_of p n ≡ state_of p m)
no_step p m n tables same agrees =
    let after = stays_program p m n tables agrees in
    (after, same_state p n after ∙ (same ∙ sym (same_state p m agrees)))
