-- Calls of two words: in a row, and at home.
use Rattle.std.proofs.Common.{◌≡◌, ◌⊎◌, inl, inr, ℕ, ◌+◌, ◌*◌, ◌/◌, ◌<◌, nat_lt, if◌then◌else◌, Bool, true, false, List, [], ◌∷◌, map, Option, Some, None, refl, sym, ap, ◌∙◌, subst, arith}
use Rattle.std.proofs.lemmas.Bool.Decides.{nat_tests}
use Rattle.rv32im.specs.Words.{plus, offset}
use Rattle.rv32im.specs.Fields.{rd_of}
use Rattle.rv32im.specs.Acts.{Registers, register, with_register}
use Rattle.rv32im.specs.declared.instructions.Instr.{Instr}
use Rattle.rv32im.specs.declared.instructions.Instr.TheVariants.{Auipc, Jalr}
use Rattle.flat_machine.specs.declared.events.FlatEvent.{FlatEvent}
use Rattle.flat_machine.specs.Lines.{Ran, fetch_of, went}
use Rattle.flat_machine.specs.Sizes.{HasWords}
use Rattle.flat_machine.specs.State.{State}
use Rattle.flat_machine.proofs.SilentLines.{more_ran, read_there, read_other}
use Rattle.cell_values.specs.Laws.{HoldsWord}
use Rattle.cell_values.specs.declared.values.Val.{Val}
use Rattle.cell_values.specs.declared.values.Val.TheVariants.{Int, Unknown}
use Rattle.cell_values.specs.Stands.{Stands}
use Rattle.object_machine.specs.declared.events.Outcome.TheVariants.{GoesOn}
use Rattle.object_machine.specs.Program.{Program}
use Rattle.object_machine.specs.State.{SourceState, wrote}
use Rattle.object_machine.specs.Flow.{jumps, pair_link, calls_pair}
use Rattle.object_machine.specs.Step.{next_state}
use Rattle.object_machine.specs.Paired.{Origins, origins_after}
use Rattle.simulation.specs.Setups.{Setup}
use Rattle.simulation.specs.Units.{StandsAt, PairAt}
use Rattle.simulation.specs.Relation.{LeadsTold}
use Rattle.simulation.specs.Forms.{IsAt, BlockAt, PairRuns}
use Rattle.simulation.proofs.OneUnit.{Before, StepsOn}
use Rattle.simulation.proofs.Steps.{WritesAt, does_words, is_at, jumps_leads, leads_does, after_going, wrote_on}
use Rattle.simulation.proofs.Controls.{word_runs}

-- ---- by words that run for the call

module _ (p : Program) (l : Setup) (live arrive : ℕ → ℕ → Type 0) (tells : List FlatEvent → Type 0) (r : ℕ) (s : SourceState) (m : Origins) (t : State) (read : Option Instr) (before : Before p l live r s m t) (pair : p.is_pair s.pc ≡ true) where
  pair_next : next_state p s read ≡ calls_pair p s
  pair_next = rw pair refl

  pair_origins : (o : Option Instr) → origins_after p s m o ≡ m
  pair_origins None = refl
  pair_origins (Some i) = rw pair refl

  keeps_pair : (n : SourceState) → next_state p s read ≡ n → n.outcome ≡ GoesOn → (k : ℕ) → live n.pc k → (k ≡ rd_of (p.word s.pc) → ⊥) → live s.pc k
  keeps_pair n is =
      subst (λ q. q.outcome ≡ GoesOn → (k : ℕ) → live q.pc k → (k ≡ rd_of (p.word s.pc) → ⊥) → live s.pc k) is
      (λ going k lives other. before.rules.passes s read k before.alike.source_going pair going lives other)

  module _ (run : PairRuns p live arrive s.pc t) (told : tells (map (fetch_of t.hart.mem) run.fetched)) where
    -- by the value that the call leaves in the register of its AUIPC
    pair_leaves : (w : ℕ) (x : Val) → pair_link p s ≡ x → WritesAt (live (p.goes s.pc)) (rd_of (p.word s.pc)) w t.hart.regs run.regs → Stands p.objects (l.place r) (l.upper r) (m.regs (rd_of (p.word s.pc))) x w → HoldsWord x → LeadsTold tells p l live arrive r (next_state p s read) (origins_after p s m read) t
    pair_leaves w x linked writes is holds =
        let rd : ℕ = rd_of (p.word s.pc) in
        let v : ℕ = p.goes s.pc in
        let t' : State = went t run.regs run.to in
        let es : List FlatEvent = map (fetch_of t.hart.mem) run.fetched in
        let effect : next_state p s read ≡ jumps p s v (wrote s rd x) =
        pair_next ∙ ap (λ y. jumps p s v (wrote s rd y)) linked in
        let leads : LeadsTold tells p l live arrive r (jumps p s v (wrote s rd x)) m t =
        jumps_leads p l live arrive tells r t s (wrote s rd x) v m (λ block on.
        let n : SourceState = record (wrote s rd x) { pc = v } in
        let alike =
        wrote_on p l live r s.pc v s m t before.alike rd w x m.regs run.regs
        (λ k lives other. keeps_pair n (effect ∙ on) before.alike.source_going k lives other)
        (λ k other. refl) writes is holds run.to (does_words es t t' before.alike.words run.ran) in
        leads_does p l live arrive tells r t n m es t' run.ran told
        (after_going p l live arrive tells r t n m t' before.alike.source_going alike (run.arrives block))) in
        subst (λ y. LeadsTold tells p l live arrive r (next_state p s read) y t) (sym (pair_origins read))
        (subst (λ n. LeadsTold tells p l live arrive r n m t) (sym effect) leads)

    pair_by : (links : Bool) → nat_lt 0 (rd_of (p.word (s.pc + 4))) ≡ links → LeadsTold tells p l live arrive r (next_state p s read) (origins_after p s m read) t
    pair_by true is =
        let some : 0 < rd_of (p.word (s.pc + 4)) = grind (arith, nat_tests) in
        pair_leaves (s.pc + 8) (Int (s.pc + 8)) (ap (λ (b : Bool). if b then Int (s.pc + 8) else Unknown) is)
        (record { here = λ other lives. run.links some lives other; others = run.others }) refl run.below
    pair_by false is =
        pair_leaves (register run.regs (rd_of (p.word s.pc))) Unknown
        (ap (λ (b : Bool). if b then Int (s.pc + 8) else Unknown) is)
        (record { here = λ other lives. refl; others = run.others }) tt tt

    pub pair_run_leads : LeadsTold tells p l live arrive r (next_state p s read) (origins_after p s m read) t
    pair_run_leads = pair_by (nat_lt 0 (rd_of (p.word (s.pc + 4)))) refl

-- ---- at home

-- a register written twice, or once and then x0
pair_others : (f : Registers) (base link w x k : ℕ) → (link ≡ base) ⊎ (link ≡ 0) → (k ≡ base → ⊥) → register (with_register (with_register f base w) link x) k ≡ register f k
pair_others f base link w x k (inl same) other =
    subst (λ q. register (with_register (with_register f base w) q x) k ≡ register f k) (sym same)
    (read_other (with_register f base w) base x k other ∙ read_other f base w k other)
pair_others f base link w x k (inr none) other =
    subst (λ q. register (with_register (with_register f base w) q x) k ≡ register f k) (sym none) (read_other f base w k other)

pair_links : (f : Registers) (base link w x : ℕ) → (link ≡ base) ⊎ (link ≡ 0) → 0 < link → register (with_register (with_register f base w) link x) base ≡ x
pair_links f base link w x (inl same) some =
    subst (λ q. register (with_register (with_register f base w) q x) base ≡ x) (sym same)
    (read_there (with_register f base w) base x (λ is. omega (arith, some, same, is)))
pair_links f base link w x (inr none) some = absurd (omega (arith, none, some))

module _ (p : Program) (l : Setup) (live arrive : ℕ → ℕ → Type 0) (r u : ℕ) (t : State) (here : IsAt l r t.hart.pc t) (at : PairAt p l r u) (home : t.hart.pc ≡ u) where
  abbrev made : ℕ
  made = plus t.hart.pc (at.upper * 4096)

  abbrev first : Registers
  first = with_register t.hart.regs at.base made

  abbrev last : Registers
  last = with_register first at.link (plus (plus t.hart.pc 4) 4)

  abbrev middle : State
  middle = went t first (plus t.hart.pc 4)

  at_first : Ran t (t.hart.pc ∷ []) first (plus t.hart.pc 4)
  at_first =
      word_runs l r t.hart.pc at.first t (Auipc at.base at.upper) (plus t.hart.pc 4) here
      (subst (λ a. StandsAt l r a at.first) (sym home) at.stands) at.auipc tt refl

  at_second : Ran middle (plus t.hart.pc 4 ∷ []) last (offset (register first at.base) at.lower / 2 * 2)
  at_second =
      let below = at.below in
      let there : plus t.hart.pc 4 ≡ u + 4 = omega (arith, below, home) in
      let words : HasWords middle =
      does_words (fetch_of t.hart.mem t.hart.pc ∷ []) t middle here.words at_first in
      let stands : StandsAt l r (plus t.hart.pc 4) at.second =
      subst (λ a. StandsAt l r a at.second) (sym there) at.stands_behind in
      word_runs l r (plus t.hart.pc 4) at.second middle (Jalr at.link at.base at.lower)
      (offset (register first at.base) at.lower / 2 * 2)
      (record { at = refl; map = here.map; going = here.going; words = words; still = here.still }) stands at.jalr tt refl

  goes_there : p.goes u ≡ offset (register first at.base) at.lower / 2 * 2
  goes_there =
      let based = at.based in
      let even = at.even in
      let base : register first at.base ≡ made = read_there t.hart.regs at.base made (λ is. omega (arith, based, is)) in
      let goes : offset made at.lower ≡ p.goes u = ap (λ a. offset (plus a (at.upper * 4096)) at.lower) home ∙ at.goes in
      let whole : p.goes u ≡ p.goes u / 2 * 2 = omega arith in
      whole ∙ sym (ap (λ a. offset a at.lower / 2 * 2) base ∙ ap (λ a. a / 2 * 2) goes)

  pub pair_words : BlockAt p arrive (p.goes u) (p.goes u) → PairRuns p live arrive u t
  pair_words block =
      let written : rd_of (p.word u) ≡ at.base = ap rd_of at.word ∙ sym at.auipc.1 in
      let behind : rd_of (p.word (u + 4)) ≡ at.link = ap rd_of at.word_behind ∙ sym at.jalr.2 in
      let below = at.below in
      let back : plus (plus t.hart.pc 4) 4 ≡ u + 8 = omega (arith, below, home) in
      record {
        fetched = t.hart.pc ∷ plus t.hart.pc 4 ∷ [];
        regs = last;
        to = offset (register first at.base) at.lower / 2 * 2;
        some = omega arith;
        few = omega arith;
        ran =
            more_ran t t.hart.pc (plus t.hart.pc 4 ∷ []) first last (plus t.hart.pc 4)
            (offset (register first at.base) at.lower / 2 * 2) at_first at_second;
        others = λ k lives other.
            pair_others t.hart.regs at.base at.link made (plus (plus t.hart.pc 4) 4) k at.linked
            (λ is. other (is ∙ sym written));
        links = λ some lives other.
            ap (register last) written
            ∙ (pair_links t.hart.regs at.base at.link made (plus (plus t.hart.pc 4) 4) at.linked (subst (λ n. 0 < n) behind some)
            ∙ back);
        below = below;
        arrives = subst (λ c. BlockAt p arrive (p.goes u) c) goes_there block;
      }

pub pair_steps : (p : Program) (l : Setup) (live arrive : ℕ → ℕ → Type 0) (tells : List FlatEvent → Type 0) (r : ℕ) (s : SourceState) (m : Origins) (t : State) (read : Option Instr) → p.is_pair s.pc ≡ true → StepsOn p l live arrive tells r s m t read
unfolding pair_words
pair_steps p l live arrive tells r s m t read pair premises reads paired =
    let for = premises.unit.pair pair in
    let run : PairRuns p live arrive s.pc t =
    pair_words p l live arrive r s.pc t (is_at p l live r s.pc s m t premises.before.alike) for.0 for.1.0 for.1.1 in
    let ran = run.ran in
    pair_run_leads p l live arrive tells r s m t read premises.before pair run
    (premises.told.two pair (fetch_of t.hart.mem t.hart.pc) (fetch_of t.hart.mem (plus t.hart.pc 4)) ran.0 ran.1.1.0 ran.1.0 ran.1.1.1.0)
