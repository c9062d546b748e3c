-- ECALL: what the environment does on both machines.
use Rattle.std.proofs.Common.{◌≡◌, inr, ℕ, zero, suc, ◌+◌, ◌%◌, ◌<◌, ◌≤◌, ◌==◌, if◌then◌else◌, Bool, true, false, Option, Some, None, List, [], ◌∷◌, ◌++◌, length, take, drop, min, slice_index_or, refl, sym, ◌∙◌, ap, subst, arith}
use Rattle.std.specs.Prelude.{Contains}
use Rattle.std.proofs.lemmas.Bool.Decides.{nat_tests}
use Rattle.std.proofs.lemmas.List.{length-take}
use Rattle.std.proofs.lemmas.List.Elements.{All-take, All-drop}
use Rattle.list_checks.specs.First.{first_below}
use Rattle.list_checks.proofs.FirstLemmas.{none_at}
use Rattle.rv32im.specs.Words.{plus}
use Rattle.rv32im.specs.Memory.{put_bytes, bytes_at}
use Rattle.rv32im.specs.Table.{Means}
use Rattle.rv32im.specs.Acts.{register, with_register, used, defined}
use Rattle.rv32im.specs.declared.instructions.Instr.TheVariants.{Ecall}
use Rattle.elf_reader.specs.Loadable.{IsByte, AreBytes}
use Rattle.flat_machine.specs.declared.events.FlatOutcome as flat_outcome
use Rattle.flat_machine.specs.Mapping.{can_move}
use Rattle.flat_machine.specs.declared.events.FlatEvent.{FlatEvent}
use Rattle.flat_machine.specs.State.{State, trap}
use Rattle.flat_machine.specs.Calls as flat
use Rattle.cell_values.specs.declared.values.Val.{Val}
use Rattle.cell_values.specs.declared.values.Val.TheVariants.{Int}
use Rattle.cell_values.specs.declared.values.Cell.{Cell}
use Rattle.cell_values.specs.declared.values.Cell.TheVariants.{Byte}
use Rattle.cell_values.specs.Laws.{HoldsWord}
use Rattle.cell_values.specs.Origins.{Origin}
use Rattle.cell_values.specs.Stands.{Stands, CellStands}
use Rattle.object_machine.specs.Program.{Program}
use Rattle.object_machine.specs.State.{SourceState, Values, value, wrote, faulted}
use Rattle.object_machine.specs.Places.{Where, InFixed, InObject, Nowhere, byte_place, read_fault}
use Rattle.object_machine.specs.Memory.{cell_at, stored_at}
use Rattle.object_machine.specs.Calls.{a0, a1, a2, a7, answered, exits, and_byte, plain_bytes, appends, unread, writes_from, writes, consumed_count, unwritten, put_input, with_input, reads_into, reads, calls_number, calls_by}
use Rattle.object_machine.specs.Paired.{Origins, origin_at}
use Rattle.object_machine.specs.Step.{Reads, acts}
use Rattle.flat_machine.proofs.Words.{answered_words}
use Rattle.simulation.specs.Setups.{Setup}
use Rattle.simulation.specs.Relation.{Alike, After}
use Rattle.simulation.proofs.OneUnit.{StepPremises, StepsAs}
use Rattle.simulation.proofs.Steps.{after_going, with_writes, wrote_on, reads_on, keeps_on, acts_leads, performs_leads, falls_home}
use Rattle.simulation.proofs.Effects.{itself}
use Rattle.simulation.proofs.CallMemory.{MemoryAlike, GoesTo, byte_goes, goes_below, goes_mapped, goes_stands, read_too, moves, input_put}

-- ---- a0 behind a call

-- a call writes no other register
a0_alone : (k : ℕ) → (k ≡ 10 → ⊥) → Contains (defined Ecall) k → ⊥
a0_alone k other has = found has.0 has.1 has.2
  where
    found : (j : ℕ) → j < 1 → slice_index_or (10 ∷ []) j k ≡ k → ⊥
    found zero below same = other (sym same)
    found (suc j) below same = absurd (omega arith)

-- ---- what putting bytes leaves

pub record KeepsRest (s u : SourceState) : Type 0 where
  pub regs : u.regs ≡ s.regs
  pub output : u.output ≡ s.output
  pub outcome : u.outcome ≡ s.outcome

stored_keeps : (s : SourceState) (x : Where) (cs : List Cell) → KeepsRest s (stored_at s x cs)
stored_keeps s (InFixed a) cs = record { regs = refl; output = refl; outcome = refl }
stored_keeps s (InObject o d) cs = record { regs = refl; output = refl; outcome = refl }
stored_keeps s (Nowhere why) cs = record { regs = refl; output = refl; outcome = refl }

input_keeps : (p : Program) (x : Val) (bytes : List ℕ) (i : ℕ) (s : SourceState) → KeepsRest s (put_input p s x i bytes)
input_keeps p x [] i s = record { regs = refl; output = refl; outcome = refl }
input_keeps p x (b ∷ bytes) i s =
    let first = stored_keeps s (byte_place p x i) (Byte b ∷ []) in
    let rest = input_keeps p x bytes (i + 1) (stored_at s (byte_place p x i) (Byte b ∷ [])) in
    record {
      regs = rest.regs ∙ first.regs;
      output = rest.output ∙ first.output;
      outcome = rest.outcome ∙ first.outcome;
    }

-- ---- the call

-- the flat machine behind the call is as the other machine where that is `next`
abbrev pub Carries : Program → Setup → (ℕ → ℕ → Type 0) → (ℕ → ℕ → Type 0) → ℕ → SourceState → Origins → SourceState → State → Type 0
Carries p l live arrive r s m next after =
    acts p s Ecall (p.site s.pc) ≡ next → After next.outcome p l live arrive r next m after

module _ (p : Program) (l : Setup) (live arrive : ℕ → ℕ → Type 0) (tells : List FlatEvent → Type 0) (r : ℕ) (s : SourceState) (m : Origins) (t : State) (premises : StepPremises p l live arrive tells r s m t) (single : p.is_pair s.pc ≡ false) (means : Reads (p.word s.pc) (Some Ecall)) where
  -- the registers that a call reads
  argument : (k : ℕ) → Contains (used Ecall) k → Stands p.objects (l.place r) (l.upper r) (m.regs k) (value s.regs k) (register t.hart.regs k)
  argument k has = (reads_on p l live r s m t Ecall premises.before single means k (inr has)).stands

  memory : MemoryAlike p l r s m t.hart.mem
  memory = record {
    fixed = premises.before.alike.fixed;
    cells = premises.before.alike.cells;
    fixed_words = premises.before.alike.fixed_words;
    cell_words = premises.before.alike.cell_words;
    still = premises.before.alike.still;
    bytes = premises.before.alike.words.hart.mem;
  }

  -- ---- an answer

  abbrev answered_next : SourceState → ℕ → SourceState
  answered_next u n = record (wrote u 10 (Int n)) { pc = s.pc + 4 }

  goes : (u : SourceState) (v : State) (n : ℕ) → Alike p l live r s.pc u m v → v.hart.pc ≡ t.hart.pc → n < 4294967296 → p.falls s.pc ≡ true → acts p s Ecall (p.site s.pc) ≡ answered_next u n → After u.outcome p l live arrive r (answered_next u n) m (flat.answered v n)
  goes u v n alike at word falls same =
      let behind : Alike p l live r (s.pc + 4) (answered_next u n) m (flat.answered v n) =
      wrote_on p l live r s.pc (s.pc + 4) u m v alike 10 n (Int n) m.regs (with_register v.hart.regs 10 n)
      (λ k lives other.
      keeps_on p l live r s m t Ecall premises.before single means (answered_next u n) same alike.source_going k lives (a0_alone k other))
      (λ k other. refl) (with_writes (live (s.pc + 4)) v.hart.regs 10 n) refl word (plus v.hart.pc 4)
      (answered_words v n word alike.words) in
      after_going p l live arrive tells r t (answered_next u n) m (flat.answered v n) alike.source_going behind
      (subst (λ a. arrive (s.pc + 4) (plus a 4)) (sym at)
      (falls_home p l live arrive tells r s m t Ecall premises single means tt falls))

  -- the call answers a number: the states but for the answer are alike
  answers : (u : SourceState) (v : State) (n : ℕ) → Alike p l live r s.pc u m v → v.hart.pc ≡ t.hart.pc → n < 4294967296 → Carries p l live arrive r s m (answered p s u n) (flat.answered v n)
  answers u v n alike at word = falls (p.falls s.pc) refl
    where
      falls : (test : Bool) → p.falls s.pc ≡ test → Carries p l live arrive r s m (if test then answered_next u n else faulted s 6) (flat.answered v n)
      falls true is = goes u v n alike at word is
      falls false is = λ same. tt

  -- ---- exit

  exit_call : (x : Val) → Stands p.objects (l.place r) (l.upper r) (m.regs 10) x (flat.a0 t) → Carries p l live arrive r s m (exits s x) (flat.exited t)
  exit_call (Int n) stands = λ same. (ap (λ w. flat_outcome.TheVariants.Exited (w % 256)) stands, premises.before.alike.output)
  exit_call x stands = λ same. tt

  -- ---- the bytes behind a1

  a1_stands : Stands p.objects (l.place r) (l.upper r) (m.regs 11) (a1 s) (flat.a1 t)
  a1_stands = argument 11 (1, omega arith, refl)

  goes_to : (i : ℕ) → read_fault (byte_place p (a1 s) i) ≡ None → GoesTo p l r (byte_place p (a1 s) i) (flat.a1 t + i)
  goes_to i free = byte_goes p l r premises.before.sound (m.regs 11) (a1 s) (flat.a1 t) i a1_stands free

  can_move_all : (n : ℕ) → ((i : ℕ) → i < n → read_fault (byte_place p (a1 s) i) ≡ None) → can_move t.map (flat.a1 t) n ≡ true
  can_move_all n free =
      subst (λ map. can_move map (flat.a1 t) n ≡ true) (sym premises.before.alike.map)
      (moves l.map (flat.a1 t) n (premises.before.alike.words.hart.regs 11)
      (λ i before. goes_below p l r premises.before.sound (byte_place p (a1 s) i) (flat.a1 t + i) (goes_to i (free i before)))
      (λ i before. goes_mapped p l r premises.before.sound (byte_place p (a1 s) i) (flat.a1 t + i) (goes_to i (free i before))))

  -- ---- write

  byte_more : (before bytes : List ℕ) (o : Option (List ℕ)) (origin : Origin) (c : Cell) (v : ℕ) → ((xs : List ℕ) → o ≡ Some xs → before ≡ xs) → CellStands (l.place r) (l.upper r) origin c v → and_byte o c ≡ Some bytes → before ++ v ∷ [] ≡ bytes
  byte_more before bytes (Some xs) origin (Byte b) v earlier stands same =
      let first = earlier xs refl in
      let grown : xs ++ b ∷ [] ≡ bytes = cc in
      rw (first, stands) grown
  byte_more before bytes o origin c v earlier stands same = cc

  plain_same : (n : ℕ) → ((i : ℕ) → i < n → read_fault (byte_place p (a1 s) i) ≡ None) → (bytes : List ℕ) → plain_bytes p s n ≡ Some bytes → bytes_at t.hart.mem (flat.a1 t) n ≡ bytes
  plain_same zero free bytes same = cc
  plain_same (suc n) free bytes same =
      byte_more (bytes_at t.hart.mem (flat.a1 t) n) bytes (plain_bytes p s n) (origin_at m (byte_place p (a1 s) n) 0)
      (cell_at s (byte_place p (a1 s) n) 0) (t.hart.mem (flat.a1 t + n))
      (λ xs plain. plain_same n (λ i before. free i (omega arith)) xs plain)
      (goes_stands p l r premises.before.sound m s t.hart.mem memory (byte_place p (a1 s) n) (flat.a1 t + n) (goes_to n (free n (omega arith))))
      same

  with_output : (bytes written : List ℕ) → written ≡ bytes → Alike p l live r s.pc (record s { output = s.output ++ bytes }) m (record t { output = t.output ++ written })
  with_output bytes written same = record {
    regs = premises.before.alike.regs;
    values = premises.before.alike.values;
    fixed = premises.before.alike.fixed;
    cells = premises.before.alike.cells;
    fixed_words = premises.before.alike.fixed_words;
    cell_words = premises.before.alike.cell_words;
    still = premises.before.alike.still;
    map = premises.before.alike.map;
    going = premises.before.alike.going;
    source_going = premises.before.alike.source_going;
    words = record { hart = premises.before.alike.words.hart; input = premises.before.alike.words.input };
    input = premises.before.alike.input;
    output = ap (λ (xs : List ℕ). xs ++ written) premises.before.alike.output ∙ ap (λ (xs : List ℕ). s.output ++ xs) same;
  }

  plain_on : first_below (unread p s) (flat.a2 t) ≡ None → (o : Option (List ℕ)) → plain_bytes p s (flat.a2 t) ≡ o → Carries p l live arrive r s m (appends p s (flat.a2 t) o) (flat.written t)
  plain_on none (Some bytes) plain =
      let free : (i : ℕ) → i < flat.a2 t → read_fault (byte_place p (a1 s) i) ≡ None =
      λ i before. none_at (unread p s) (flat.a2 t) i before none in
      let written : List ℕ = bytes_at t.hart.mem (flat.a1 t) (flat.a2 t) in
      let same = plain_same (flat.a2 t) free bytes plain in
      subst (λ test. Carries p l live arrive r s m (appends p s (flat.a2 t) (Some bytes)) (if test then record (flat.answered t (flat.a2 t)) { output = t.output ++ bytes_at t.hart.mem (flat.a1 t) (flat.a2 t) } else trap t))
      (sym (can_move_all (flat.a2 t) free))
      (answers (record s { output = s.output ++ bytes }) (record t { output = t.output ++ bytes_at t.hart.mem (flat.a1 t) (flat.a2 t) }) (flat.a2 t)
      (with_output bytes written same) refl (premises.before.alike.words.hart.regs 12))
  plain_on none None plain = λ same. tt

  unread_on : (o : Option ℕ) → first_below (unread p s) (flat.a2 t) ≡ o → Carries p l live arrive r s m (writes_from p s (flat.a2 t) o) (flat.written t)
  unread_on None none = plain_on none (plain_bytes p s (flat.a2 t)) refl
  unread_on (Some why) some = λ same. tt

  write_call : (x : Val) → Stands p.objects (l.place r) (l.upper r) (m.regs 12) x (flat.a2 t) → Carries p l live arrive r s m (writes p s x) (flat.written t)
  write_call (Int n) stands =
      subst (λ k. Carries p l live arrive r s m (writes_from p s k (first_below (unread p s) k)) (flat.written t)) stands
      (unread_on (first_below (unread p s) (flat.a2 t)) refl)
  write_call x stands = λ same. tt

  -- ---- read

  abbrev with_bytes : ℕ → List ℕ → State
  with_bytes k input = record t {
    hart = record t.hart { mem = put_bytes t.hart.mem (flat.a1 t) (take k input) };
    input = drop k input;
  }

  abbrev read_as : ℕ → List ℕ → State
  read_as k input =
      if can_move t.map (flat.a1 t) k then flat.answered (with_bytes k input) k else trap t

  source_input : AreBytes s.input
  source_input = subst AreBytes premises.before.alike.input premises.before.alike.words.input

  input_stands : (k : ℕ) → ((i : ℕ) → i < k → read_fault (byte_place p (a1 s) i) ≡ None) → MemoryAlike p l r (put_input p s (a1 s) 0 (take k s.input)) m (put_bytes t.hart.mem (flat.a1 t) (take k s.input))
  input_stands k free =
      let taken = length-take k s.input in
      let short : length (take k s.input) ≤ k = grind (arith, nat_tests) in
      let start : flat.a1 t + 0 ≡ flat.a1 t = omega arith in
      subst (λ w. MemoryAlike p l r (put_input p s (a1 s) 0 (take k s.input)) m (put_bytes t.hart.mem w (take k s.input))) start
      (input_put p l r premises.before.sound m (a1 s) (flat.a1 t) (take k s.input) 0 s t.hart.mem memory
      (All-take IsByte k s.input source_input) (λ j from before. goes_to j (free j (omega arith))))

  with_taken : (k : ℕ) → ((i : ℕ) → i < k → read_fault (byte_place p (a1 s) i) ≡ None) → Alike p l live r s.pc (with_input p s k) m (with_bytes k s.input)
  with_taken k free =
      let kept = input_keeps p (a1 s) (take k s.input) 0 s in
      let memories = input_stands k free in
      record {
        regs = λ j lives.
            subst (λ (regs : Values). Stands p.objects (l.place r) (l.upper r) (m.regs j) (value regs j) (register t.hart.regs j)) (sym kept.regs)
            (premises.before.alike.regs j lives);
        values = λ j lives. subst (λ (regs : Values). HoldsWord (value regs j)) (sym kept.regs) (premises.before.alike.values j lives);
        fixed = memories.fixed;
        cells = memories.cells;
        fixed_words = memories.fixed_words;
        cell_words = memories.cell_words;
        still = memories.still;
        map = premises.before.alike.map;
        going = premises.before.alike.going;
        source_going = kept.outcome ∙ premises.before.alike.source_going;
        words = record {
          hart = record {
            pc = premises.before.alike.words.hart.pc;
            regs = premises.before.alike.words.hart.regs;
            mem = memories.bytes;
          };
          input = All-drop IsByte k s.input source_input;
        };
        input = refl;
        output = premises.before.alike.output ∙ sym kept.output;
      }

  unwritten_on : (k : ℕ) → k < 4294967296 → (o : Option ℕ) → first_below (unwritten p s) k ≡ o → Carries p l live arrive r s m (reads_into p s k o) (read_as k s.input)
  unwritten_on k word None none =
      let free : (i : ℕ) → i < k → read_fault (byte_place p (a1 s) i) ≡ None =
      λ i before. read_too p (byte_place p (a1 s) i) (none_at (unwritten p s) k i before none) in
      subst (λ test. Carries p l live arrive r s m (reads_into p s k None) (if test then flat.answered (with_bytes k s.input) k else trap t))
      (sym (can_move_all k free))
      (answers (with_input p s k) (with_bytes k s.input) k (with_taken k free) refl word)
  unwritten_on k word (Some why) some = λ same. tt

  read_call : (x : Val) → Stands p.objects (l.place r) (l.upper r) (m.regs 12) x (flat.a2 t) → Carries p l live arrive r s m (reads p s x) (flat.read t)
  read_call (Int n) stands =
      let asked : flat.a2 t < 4294967296 = premises.before.alike.words.hart.regs 12 in
      let word : consumed_count s (flat.a2 t) < 4294967296 = grind (arith, nat_tests) in
      subst (λ k. Carries p l live arrive r s m (reads_into p s (consumed_count s k) (first_below (unwritten p s) (consumed_count s k))) (flat.read t)) stands
      (subst (λ (input : List ℕ). Carries p l live arrive r s m (reads_into p s (consumed_count s (flat.a2 t)) (first_below (unwritten p s) (consumed_count s (flat.a2 t)))) (read_as (min (flat.a2 t) (length input)) input)) (sym premises.before.alike.input)
      (unwritten_on (consumed_count s (flat.a2 t)) word (first_below (unwritten p s) (consumed_count s (flat.a2 t))) refl))
  read_call x stands = λ same. tt

  -- ---- by number

  picked : (test : Bool) (a b : SourceState) (c d : State) → Carries p l live arrive r s m a c → Carries p l live arrive r s m b d → Carries p l live arrive r s m (if test then a else b) (if test then c else d)
  picked true a b c d first second = first
  picked false a b c d first second = second

  number_call : Carries p l live arrive r s m (calls_number p s (flat.a7 t)) (flat.call t)
  number_call =
      picked (flat.a7 t == 93) (exits s (a0 s)) _ (flat.exited t) _ (exit_call (a0 s) (argument 10 (0, omega arith, refl)))
      (picked (flat.a7 t == 64) (writes p s (a2 s)) _ (flat.written t) _ (write_call (a2 s) (argument 12 (2, omega arith, refl)))
      (picked (flat.a7 t == 63) (reads p s (a2 s)) (answered p s s 4294967258) (flat.read t) (flat.answered t 4294967258)
      (read_call (a2 s) (argument 12 (2, omega arith, refl)))
      (answers s t 4294967258 premises.before.alike refl (omega arith))))

  any_call : (x : Val) → Stands p.objects (l.place r) (l.upper r) (m.regs 17) x (flat.a7 t) → Carries p l live arrive r s m (calls_by p s x) (flat.call t)
  any_call (Int n) stands = subst (λ k. Carries p l live arrive r s m (calls_number p s k) (flat.call t)) stands number_call
  any_call x stands = λ same. tt

  -- behind the call the machines are as they should be
  pub call_after : After (calls_by p s (a7 s)).outcome p l live arrive r (calls_by p s (a7 s)) m (flat.call t)
  call_after = any_call (a7 s) (argument 17 (3, omega arith, refl)) refl

pub call_steps : (p : Program) (l : Setup) (live arrive : ℕ → ℕ → Type 0) (tells : List FlatEvent → Type 0) (r : ℕ) (s : SourceState) (m : Origins) (t : State) → StepsAs p l live arrive tells r s m t Ecall
call_steps p l live arrive tells r s m t single premises means paired =
    let word = premises.unit.one (Some Ecall) single means in
    let same = itself p l arrive r s.pc t.hart.pc Ecall (λ j. j ≡ Ecall) (λ j e. e) (λ g j e. e) (p.site s.pc) word.1.0 word.1.1.1.1.1 in
    let flat_means : Means word.0 Ecall = subst (λ j. Means word.0 j) same word.1.1.1.0 in
    acts_leads p l live arrive tells r s m t Ecall premises.before single means
    (performs_leads p l live arrive tells r s m t Ecall premises single means word.0 Ecall (calls_by p s (a7 s)) m word.1.1.0 flat_means
    (call_after p l live arrive tells r s m t premises single means))
