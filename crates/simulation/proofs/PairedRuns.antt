-- Runs of paired steps are runs, and so are their first steps; and where each upper part is a LUI's, all runs are paired.
use Rattle.std.proofs.Common.{◌≡◌, ◌⊎◌, inl, inr, ℕ, zero, suc, ◌≤◌, true, false, not, ◌&&◌, ◌||◌, Option, Some, None, refl, sym, ◌∙◌, ap, subst, arith}
use Rattle.rv32im.specs.Table.{OneInstruction, Means}
use Rattle.rv32im.specs.declared.instructions.Instr.{Instr}
use Rattle.rv32im.specs.declared.instructions.Instr.TheVariants.{Lui, Load, Store, OpImm, OpReg}
use Rattle.rv32im.specs.declared.instructions.RegKind.{RegKind}
use Rattle.cell_values.specs.Objects.{Objects}
use Rattle.rv32im.specs.Operations.{operation_of}
use Rattle.cell_values.specs.declared.values.Val.{Val}
use Rattle.cell_values.specs.declared.values.Val.TheVariants.{Int, Hi}
use Rattle.rv32im.specs.Operations.{takes_low_bits}
use Rattle.cell_values.specs.Origins.{Origin, ByLui, ByAuipc, Mixed, is_by_auipc, takes_low}
use Rattle.object_machine.specs.declared.events.Event.{Event}
use Rattle.object_machine.specs.declared.events.Outcome.{Outcome}
use Rattle.object_machine.specs.declared.events.Outcome.TheVariants.{GoesOn, Exited, Trapped, AddressFault}
use Rattle.object_machine.specs.Program.{Program, Target}
use Rattle.object_machine.specs.State.{SourceState, value}
use Rattle.object_machine.specs.Step.{Reads, next_state, event_of, stays_event, StepFrom}
use Rattle.object_machine.specs.Runs.{Steps, HasEnded}
use Rattle.object_machine.specs.Paired.{Origins, origins_after, is_paired_site, uses_base, is_paired_by, is_paired_step, PairedFrom, PairedSteps}
use Rattle.object_machine.proofs.RunLemmas.{ended_steps, ended_any_steps, one_run}
use Rattle.simulation.specs.Made.{IsAuipcAt, IsMade, AreMade}
use Rattle.simulation.proofs.MadeSteps.{next_made}
use Rattle.std.proofs.Math.Bool.{and-false, or-true}

-- ---- paired runs are runs

abbrev StepsVia : Outcome → Program → ℕ → SourceState → SourceState → Type 0
StepsVia o p n s t = (m : SourceState) × (((e : Event) × StepFrom o p s e m) × Steps p n m t)

run_end : (p : Program) (n : ℕ) (s t : SourceState) → HasEnded s.outcome → t ≡ s → Steps p n s t
run_end p n s t h e = subst (λ (x : SourceState). Steps p n s x) (sym e) (ended_any_steps p n s h)

run_from : (o : Outcome) (p : Program) (n : ℕ) (s t : SourceState) (m : Origins) → s.outcome ≡ o → PairedFrom o (PairedSteps p n) p s m t → ((x : SourceState) (l : Origins) → PairedSteps p n x l t → Steps p n x t) → StepsVia o p n s t
run_from GoesOn p n s t m is r more =
    let next = next_state p s r.0 in
    (next, ((event_of p s next r.0, (r.0, record { meant = r.1.0; state = refl; event = refl })), more next (origins_after p s m r.0) r.1.1.1))
run_from (Exited code) p n s t m is r more = (s, ((stays_event s, (refl, refl)), run_end p n s t (subst HasEnded (sym is) tt) r))
run_from (Trapped pc) p n s t m is r more = (s, ((stays_event s, (refl, refl)), run_end p n s t (subst HasEnded (sym is) tt) r))
run_from (AddressFault pc why) p n s t m is r more = (s, ((stays_event s, (refl, refl)), run_end p n s t (subst HasEnded (sym is) tt) r))

pub is_run : (p : Program) (n : ℕ) (s t : SourceState) (m : Origins) → PairedSteps p n s m t → Steps p n s t
is_run p zero s t m r = r
is_run p (suc n) s t m r = run_from s.outcome p n s t m refl r (λ x l q. is_run p n x t l q)

cut_from : (o : Outcome) (p : Program) (n k : ℕ) (s t : SourceState) (m : Origins) → PairedFrom o (PairedSteps p n) p s m t → ((x : SourceState) (l : Origins) → PairedSteps p n x l t → (u : SourceState) × PairedSteps p k x l u) → (u : SourceState) × PairedFrom o (PairedSteps p k) p s m u
cut_from GoesOn p n k s t m r more =
    let rest = more (next_state p s r.0) (origins_after p s m r.0) r.1.1.1 in
    (rest.0, (r.0, (r.1.0, (r.1.1.0, rest.1))))
cut_from (Exited code) p n k s t m r more = (s, refl)
cut_from (Trapped pc) p n k s t m r more = (s, refl)
cut_from (AddressFault pc why) p n k s t m r more = (s, refl)

cut : (p : Program) (n k : ℕ) (s t : SourceState) (m : Origins) → k ≤ n → PairedSteps p n s m t → (u : SourceState) × PairedSteps p k s m u
cut p n zero s t m le r = (s, refl)
cut p zero (suc k) s t m le r = absurd (omega (arith, le))
cut p (suc n) (suc k) s t m le r =
    let less : k ≤ n = omega (arith, le) in cut_from s.outcome p n k s t m r (λ x l q. cut p n k x t l less q)

-- the first `k` of `n` paired steps are paired
pub paired_first : OneInstruction → (p : Program) (n k : ℕ) (s t u : SourceState) (m : Origins) → k ≤ n → PairedSteps p n s m t → Steps p k s u → PairedSteps p k s m u
paired_first one p n k s t u m le r run =
    let c = cut p n k s t m le r in
    let same : c.0 ≡ u = one_run one p k s c.0 u (is_run p k s c.0 m c.1) run in
    subst (λ (x : SourceState). PairedSteps p k s m x) same c.1

-- ---- where each upper part is a LUI's

-- the word at an address is a LUI
abbrev pub IsLuiAt : Program → ℕ → Type 0
IsLuiAt p a = (rd : ℕ) × ((n : ℕ) × Means (p.word a) (Lui rd n))

-- no site is an AUIPC, and none that takes a low part names one
pub record HasLuisAlone (p : Program) : Type 0 where
  pub uppers : (a : ℕ) (t : Target) → p.site a ≡ Some t → IsAuipcAt p a → ⊥
  pub lows : (a : ℕ) (t : Target) → p.site a ≡ Some t → IsLuiAt p a ⊎ (p.named a ≡ None)

ended_pairs : (o : Outcome) (rest : SourceState → Origins → SourceState → Type 0) (p : Program) (s t : SourceState) (m : Origins) → HasEnded o → t ≡ s → PairedFrom o rest p s m t
ended_pairs GoesOn rest p s t m ended stays = absurd ended
ended_pairs (Exited code) rest p s t m ended stays = stays
ended_pairs (Trapped pc) rest p s t m ended stays = stays
ended_pairs (AddressFault pc why) rest p s t m ended stays = stays

ended_paired : (p : Program) (n : ℕ) (s t : SourceState) (m : Origins) → HasEnded s.outcome → t ≡ s → PairedSteps p n s m t
ended_paired p zero s t m ended stays = stays
ended_paired p (suc n) s t m ended stays = ended_pairs s.outcome (PairedSteps p n) p s t m ended stays

module _ (one : OneInstruction) (p : Program) (alone : HasLuisAlone p) where
  by_lui : (origin : Origin) (x : Val) → IsMade p origin x → is_by_auipc origin x ≡ false
  by_lui ByLui (Hi o d) made = refl
  by_lui (ByAuipc a) (Hi o d) made = absurd (alone.uppers a (record { object = o; offset = d }) made.0 made.1)
  by_lui Mixed (Hi o d) made = absurd (alone.uppers made.0 (record { object = o; offset = d }) made.1.0 made.1.1)
  by_lui origin x made = refl

  takes_none : (os : Objects) (kind : RegKind) (m n : Origin) (x y : Val) → is_by_auipc m x ≡ false → is_by_auipc n y ≡ false → takes_low os kind m x n y ≡ false
  takes_none os kind m n x y first second = rw (first, second) (and-false (takes_low_bits kind))

  module _ (s : SourceState) (m : Origins) (made : AreMade p s m) where
    own : (k : ℕ) → is_by_auipc (m.regs k) (value s.regs k) ≡ false
    own k = by_lui (m.regs k) (value s.regs k) (made.regs k)

    -- at a site that is no LUI
    named_none : (i : Instr) → Means (p.word s.pc) i → ((rd n : ℕ) → i ≡ Lui rd n → ⊥) → (t : Target) → p.site s.pc ≡ Some t → p.named s.pc ≡ None
    named_none i means other t is =
        elim (alone.lows s.pc t is) [
          | inl lui ↦ absurd (other lui.0 lui.1.0 (one (p.word s.pc) i (Lui lui.0 lui.1.0) means lui.1.1))
          | inr none ↦ none
        ]

    site_paired : (rs1 : ℕ) (site : Option Target) → ((t : Target) → site ≡ Some t → p.named s.pc ≡ None) → is_paired_site p s m rs1 site ≡ true
    site_paired rs1 None none = refl
    site_paired rs1 (Some t) none = let here = none t refl in let plain = own rs1 in rw (here, plain) refl

    imm_paired : (kind : RegKind) (rs1 : ℕ) (site : Option Target) → is_paired_site p s m rs1 site ≡ true → is_paired_site p s m rs1 site && not (uses_base p s m kind rs1 site) ≡ true
    imm_paired kind rs1 None at = ap not (takes_none p.objects kind (m.regs rs1) ByLui (value s.regs rs1) (Int 0) (own rs1) refl)
    imm_paired kind rs1 (Some t) at = rw at refl

    by_paired : (i : Instr) → Means (p.word s.pc) i → is_paired_by p s m i ≡ true
    by_paired (OpImm kind rd rs1 imm) means =
        imm_paired (operation_of kind) rs1 (p.site s.pc)
        (site_paired rs1 (p.site s.pc) (named_none (OpImm kind rd rs1 imm) means (λ x n same. cc)))
    by_paired (OpReg kind rd rs1 rs2) means =
        ap not (takes_none p.objects kind (m.regs rs1) (m.regs rs2) (value s.regs rs1) (value s.regs rs2) (own rs1) (own rs2))
    by_paired (Load kind rd rs1 imm) means =
        site_paired rs1 (p.site s.pc) (named_none (Load kind rd rs1 imm) means (λ x n same. cc))
    by_paired (Store kind rs1 rs2 imm) means =
        site_paired rs1 (p.site s.pc) (named_none (Store kind rs1 rs2 imm) means (λ x n same. cc))
    by_paired i means = refl

    step_paired : (read : Option Instr) → Reads (p.word s.pc) read → is_paired_step p s m read ≡ true
    step_paired (Some i) reads = ap (λ b. p.is_pair s.pc || b) (by_paired i reads) ∙ or-true (p.is_pair s.pc)
    step_paired None reads = refl

  -- behind a step: the machine goes on, or stays
  rest_paired : (o : Outcome) (n : ℕ) (s t : SourceState) (m : Origins) → s.outcome ≡ o → (s.outcome ≡ GoesOn → AreMade p s m) → (AreMade p s m → PairedSteps p n s m t) → Steps p n s t → PairedSteps p n s m t
  rest_paired GoesOn n s t m is made more steps = more (made is)
  rest_paired (Exited code) n s t m is made more steps =
      let ended : HasEnded s.outcome = subst HasEnded (sym is) tt in ended_paired p n s t m ended (ended_steps p n s t ended steps)
  rest_paired (Trapped pc) n s t m is made more steps =
      let ended : HasEnded s.outcome = subst HasEnded (sym is) tt in ended_paired p n s t m ended (ended_steps p n s t ended steps)
  rest_paired (AddressFault pc why) n s t m is made more steps =
      let ended : HasEnded s.outcome = subst HasEnded (sym is) tt in ended_paired p n s t m ended (ended_steps p n s t ended steps)

  stayed : (n : ℕ) (s x t : SourceState) → HasEnded s.outcome → x ≡ s → Steps p n x t → t ≡ s
  stayed n s x t ended same rest = ended_steps p n s t ended (subst (λ (y : SourceState). Steps p n y t) same rest)

  paired_from : (o : Outcome) (n : ℕ) (s x t : SourceState) (m : Origins) (e : Event) → s.outcome ≡ o → AreMade p s m → StepFrom o p s e x → Steps p n x t → ((y : SourceState) (l : Origins) → AreMade p y l → Steps p n y t → PairedSteps p n y l t) → PairedFrom o (PairedSteps p n) p s m t
  paired_from GoesOn n s x t m e is made step rest more =
      let read : Option Instr = step.0 in
      let next : SourceState = next_state p s read in
      let after : Origins = origins_after p s m read in
      let on : Steps p n next t = subst (λ (y : SourceState). Steps p n y t) step.1.state rest in (
        read,
        (
          step.1.meant,
          (
            step_paired s m made read step.1.meant,
            rest_paired next.outcome n next t after refl (next_made p s m read made step.1.meant)
                (λ stays. more next after stays on) on,
          ),
        ),
      )
  paired_from (Exited code) n s x t m e is made step rest more = stayed n s x t (subst HasEnded (sym is) tt) step.0 rest
  paired_from (Trapped pc) n s x t m e is made step rest more = stayed n s x t (subst HasEnded (sym is) tt) step.0 rest
  paired_from (AddressFault pc why) n s x t m e is made step rest more = stayed n s x t (subst HasEnded (sym is) tt) step.0 rest

  pub all_paired : (n : ℕ) (s t : SourceState) (m : Origins) → AreMade p s m → Steps p n s t → PairedSteps p n s m t
  all_paired zero s t m made steps = steps
  all_paired (suc n) s t m made steps =
      paired_from s.outcome n s steps.0 t m steps.1.0.0 refl made steps.1.0.1 steps.1.1 (λ y l after rest. all_paired n y t l after rest)
