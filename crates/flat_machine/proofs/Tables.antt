-- The table of decoded instructions through stores and steps.
use Rattle.std.proofs.Common.{◌≡◌, ◌≢◌, ℕ, ◌+◌, ◌*◌, ◌/◌, ◌%◌, ◌<◌, List, length, slice_index_or, slice_set, arith, get_or-set_other, length-set, ap, ◌∙◌, subst, sym, refl, ◌==◌, inl, inr}
use Rattle.std.proofs.lemmas.Bool.{cases_eq, cond_both}
use Rattle.std.proofs.lemmas.Grind.{get_or-set_at}
use Rattle.std.specs.Prelude.{Bool, true, false, Option, None, IsTrue}
use Rattle.std.specs.Bool.{MatchBool}
use Rattle.std.proofs.lemmas.Bool.Decides.{nat_tests}
use Rattle.rv32im.specs.Words.{plus}
use Rattle.rv32im.specs.Memory.{Memory, put, word_at}
use Rattle.rv32im.specs.declared.instructions.StoreKind.{StoreKind}
use Rattle.rv32im.specs.declared.instructions.StoreKind.TheVariants.{Sb, Sh, Sw}
use Rattle.rv32im.specs.Table.{Means, MeansNothing}
use Rattle.rv32im.specs.declared.instructions.Instr.{Instr}
use Rattle.rv32im.specs.declared.instructions.Instr.TheVariants.{Load, Store, Ecall}
use Rattle.rv32im.specs.Acts.{store_width, stored, access_of}
use Rattle.board_config.specs.declared.board.Range.{Range}
use Rattle.flat_machine.specs.declared.events.FlatOutcome.TheVariants.{GoesOn, Trapped}
use Rattle.flat_machine.specs.declared.events.FlatEvent.{FlatEvent}
use Rattle.flat_machine.specs.declared.known.Known.{Known}
use Rattle.flat_machine.specs.Mapping.{can_access, can_move}
use Rattle.flat_machine.specs.State.{State, trap}
use Rattle.flat_machine.specs.Calls.{a1, a2, a7, answered, exited, written, read, call}
use Rattle.flat_machine.specs.Step.{may_access, performed, accessed, event_of, ReadsNothing, Performs, StepAt, Step}
use Rattle.flat_machine.specs.Ops.{instr_of}
use Rattle.flat_machine.specs.Known.{IsKnown, HoldsIn, SlotHolds, AreKnown, slot_of, vacant, TellsStep, TakesStep}
use Rattle.flat_machine.proofs.Runs.{performs_meaning}
use Rattle.flat_machine.proofs.LineWords.{word_kept}

-- an aligned store keeps the bytes outside the word that it is in
next_in_word : (at k : ℕ) → at < 4294967296 → at % 4 + k < 4 → plus at k / 4 ≡ at / 4
next_in_word at k small inside = omega arith

kept_byte : (kind : StoreKind) (mem : Memory) (at value b : ℕ) → at < 4294967296 → at % store_width kind ≡ 0 → b / 4 ≢ at / 4 → stored kind mem at value b ≡ mem b
unfolding put
kept_byte Sb mem at value b small aligned off = grind (arith, nat_tests)
kept_byte Sh mem at value b small aligned off =
    let one : plus at 1 / 4 ≡ at / 4 = next_in_word at 1 small (omega arith) in
    grind (arith, nat_tests)
kept_byte Sw mem at value b small aligned off =
    let one : plus at 1 / 4 ≡ at / 4 = next_in_word at 1 small (omega arith) in
    let two : plus at 2 / 4 ≡ at / 4 = next_in_word at 2 small (omega arith) in
    let three : plus at 3 / 4 ≡ at / 4 = next_in_word at 3 small (omega arith) in
    grind (arith, nat_tests)

-- and the words
kept_word : (kind : StoreKind) (mem : Memory) (at value w : ℕ) → at < 4294967296 → at % store_width kind ≡ 0 → w < 4294967296 → w % 4 ≡ 0 → w / 4 ≢ at / 4 → word_at (stored kind mem at value) w ≡ word_at mem w
kept_word kind mem at value w small aligned within whole off =
    word_kept mem (stored kind mem at value) w (omega arith) (λ x low high.
    let apart : x / 4 ≢ at / 4 = omega arith in
    kept_byte kind mem at value x small aligned apart)

whole_word : (map : List Range) (at : ℕ) → IsTrue (can_access map at 4) → at % 4 ≡ 0
whole_word map at can = grind (arith, nat_tests)

slot_at : (slots k at' at : ℕ) → at' ≡ at / 4 * 4 → slot_of slots at' ≡ k → k ≡ slot_of slots at
slot_at slots k at' at e place =
    let same : at' / 4 ≡ at / 4 = omega arith in sym place ∙ ap (λ word. word % slots) same

kept_slot : (map : List Range) (mem : Memory) (kind : StoreKind) (at value slots k : ℕ) (slot : Known) → at < 4294967296 → at % store_width kind ≡ 0 → slot.at ≢ at / 4 * 4 → SlotHolds map mem slots k slot → SlotHolds map (stored kind mem at value) slots k slot
kept_slot map mem kind at value slots k slot small aligned off holds within =
    let old : HoldsIn map mem slots k slot = holds within in
    let whole : slot.at % 4 ≡ 0 = whole_word map slot.at old.known.fetches in
    let apart : slot.at / 4 ≢ at / 4 = omega arith in
    let word : word_at (stored kind mem at value) slot.at ≡ word_at mem slot.at = kept_word kind mem at value slot.at small aligned within whole apart in
    record {
      known = record {
        fetches = old.known.fetches;
        means = subst (λ w. Means w (instr_of slot.op)) (sym word) old.known.means;
        in_range = old.known.in_range;
      };
      place = old.place;
    }

-- a store leaves what is known, where the slot of its address keeps another
pub known_after_store : (map : List Range) (mem : Memory) (known : List Known) (kind : StoreKind) (at value : ℕ) → at < 4294967296 → at % store_width kind ≡ 0 → AreKnown map mem known → ((j : ℕ) (d : Known) → j ≡ slot_of (length known) at → j < length known → (slice_index_or known j d).at ≢ at / 4 * 4) → AreKnown map (stored kind mem at value) known
unfolding AreKnown
known_after_store map mem known kind at value small aligned all off k d inside within =
    let slot : Known = slice_index_or known k d in
    let old : HoldsIn map mem (length known) k slot = all k d inside within in
    let apart : slot.at ≢ at / 4 * 4 = λ e. off k d (slot_at (length known) k slot.at at e old.place) inside e in
    kept_slot map mem kind at value (length known) k slot small aligned apart (all k d inside) within

-- what is not kept is no more
pub known_but_one : (map : List Range) (mem : Memory) (known : List Known) (s : ℕ) → AreKnown map mem known → AreKnown map mem (slice_set known s vacant)
unfolding AreKnown
known_but_one map mem known s all k d inside within =
    let len : length (slice_set known s vacant) ≡ length known = length-set known s vacant in
    let before : k < length known = omega arith in
    elim (cases_eq k s) [
      | inl here ↦
          let gone : slice_index_or (slice_set known s vacant) k d ≡ vacant = get_or-set_at known s k vacant d here (omega arith) in
          absurd (omega (arith, ap (λ (slot : Known). slot.at) gone))
      | inr other ↦
          let same : slice_index_or (slice_set known s vacant) k d ≡ slice_index_or known k d = get_or-set_other known s k vacant d other in
          let kept : HoldsIn map mem (length known) k (slice_index_or known k d) = all k d before (subst (λ (slot : Known). slot.at < 4294967296) same within) in
          subst (λ slots. HoldsIn map mem slots k (slice_index_or (slice_set known s vacant) k d)) (sym len)
          (subst (λ (slot : Known). HoldsIn map mem (length known) k slot) (sym same) kept)
    ]

-- ---- steps

-- an instruction that puts nothing in memory
abbrev pub IsQuiet : Instr → Type 0
IsQuiet (Store kind rs1 rs2 imm) = ⊥
IsQuiet Ecall = ⊥
IsQuiet other = Unit {0}

-- the table is right of a state
abbrev AreKnownOf : List Known → State → Type 0
AreKnownOf known s = AreKnown s.map s.hart.mem known

quiet_after : (s : State) (i : Instr) (known : List Known) → IsQuiet i → AreKnownOf known s → AreKnownOf known (performed s i)
quiet_after s (Load kind rd rs1 imm) known quiet all =
    cond_both (may_access s (access_of (Load kind rd rs1 imm) s.hart.regs)) _ (trap s) (AreKnownOf known) (λ _. all) (λ _. all)
quiet_after s (Store kind rs1 rs2 imm) known quiet all = absurd quiet
quiet_after s Ecall known quiet all = absurd quiet
quiet_after s i known quiet all = all

pub quiet_kept : (s t : State) (i : Instr) (known : List Known) → IsQuiet i → t ≡ performed s i → AreKnown s.map s.hart.mem known → AreKnown t.map t.hart.mem known
quiet_kept s t i known quiet is all = subst (AreKnownOf known) (sym is) (quiet_after s i known quiet all)

read_only : (number : ℕ) → (number == 63) ≡ true → number ≡ 63
read_only number is = grind (arith, nat_tests)

call_after : (s : State) (known : List Known) → a7 s ≢ 63 → AreKnownOf known s → AreKnownOf known (call s)
call_after s known other all =
    cond_both (a7 s == 93) (exited s) _ (AreKnownOf known) (λ _. all) (λ _.
    cond_both (a7 s == 64) (written s) _ (AreKnownOf known)
    (λ _. cond_both (can_move s.map (a1 s) (a2 s)) _ (trap s) (AreKnownOf known) (λ _. all) (λ _. all))
    (λ _. cond_both (a7 s == 63) (read s) (answered s 4294967258) (AreKnownOf known) (λ reads. absurd (other (read_only (a7 s) reads))) (λ _. all)))

-- a machine that goes on takes a step: it cannot fetch, or the word means nothing, or it performs what the word means
pub unfetched : (s : State) → s.outcome ≡ GoesOn → can_access s.map s.hart.pc 4 ≡ false → TellsStep s None (trap s)
unfetched s going shut =
    let e : FlatEvent = record { at = s.hart.pc; outcome = Trapped s.hart.pc; word = 0; access = None } in
    let q : ReadsNothing s e (trap s) (trap s) = record { state = refl; event = refl } in
    record {
      event = e;
      step = subst (λ o. StepAt o s e (trap s)) (sym going)
          (subst (λ b. MatchBool b ((read : Option Instr) × Performs s e (trap s) read) (ReadsNothing s e (trap s) (trap s))) (sym shut) q);
      at_is = refl;
      access_is = refl;
    }

pub meaningless : (s : State) → s.outcome ≡ GoesOn → IsTrue (can_access s.map s.hart.pc 4) → MeansNothing (word_at s.hart.mem s.hart.pc) → TellsStep s None (trap s)
meaningless s going fetches nothing =
    let e : FlatEvent = record { at = s.hart.pc; outcome = Trapped s.hart.pc; word = word_at s.hart.mem s.hart.pc; access = None } in
    let q : Performs s e (trap s) None = record { reads = nothing; state = refl; event = refl } in
    record {
      event = e;
      step = subst (λ o. StepAt o s e (trap s)) (sym going)
          (subst (λ b. MatchBool b ((read : Option Instr) × Performs s e (trap s) read) (ReadsNothing s e (trap s) (trap s))) (sym fetches) (None, q));
      at_is = refl;
      access_is = refl;
    }

pub known_step : (s t : State) (i : Instr) → s.outcome ≡ GoesOn → IsKnown s.map s.hart.mem s.hart.pc i → t ≡ performed s i → TellsStep s (accessed s i) t
known_step s t i going known is =
    record {
      event = event_of s i;
      step = subst (λ u. Step s (event_of s i) u) (sym is) (performs_meaning s i going known.fetches known.means);
      at_is = refl;
      access_is = refl;
    }

pub known_or_not : (result : Bool) (s t : State) (i : Instr) → s.outcome ≡ GoesOn → IsKnown s.map s.hart.mem s.hart.pc i → MatchBool result (t ≡ performed s i) (t ≡ s) → MatchBool result (TakesStep s t) (t ≡ s)
known_or_not true s t i going known is = (accessed s i, known_step s t i going known is)
known_or_not false s t i going known is = is
