-- Words and bytes stay words and bytes.
use Rattle.std.proofs.Common.{◌≡◌, ℕ, ◌+◌, ◌-◌, ◌<◌, ◌==◌, if◌then◌else◌, List, [], ◌∷◌, take, slice_index, zero, suc, refl, sym, subst, arith}
use Rattle.std.specs.Prelude.{Bool, true, false, Option, Some, None}
use Rattle.std.specs.Bool.{MatchBool}
use Rattle.std.proofs.lemmas.Grind.{common_steps}
use Rattle.std.proofs.lemmas.Bool.Decides.{nat_tests}
use Rattle.std.proofs.lemmas.List.Elements.{All-take, All-drop, All-head, All-tail}
use Rattle.rv32im.specs.Memory.{Memory, put, put_bytes}
use Rattle.rv32im.specs.declared.instructions.Instr.{Instr}
use Rattle.rv32im.specs.declared.instructions.Instr.TheVariants.{Ecall, Ebreak}
use Rattle.rv32im.specs.Table.{IsInRange}
use Rattle.rv32im.specs.Acts.{HoldsWords, ActsKeepsWords, acts, access_of}
use Rattle.rv32im.proofs.Meaning.{in_range}
use Rattle.elf_reader.specs.File.{PlainSegment}
use Rattle.elf_reader.specs.Image.{has_byte, image_of}
use Rattle.elf_reader.specs.Loadable.{IsByte, AreBytes, IsLoadable, AreLoadable}
use Rattle.board_config.specs.declared.board.Range.{Range}
use Rattle.flat_machine.specs.declared.events.FlatOutcome.{FlatOutcome}
use Rattle.flat_machine.specs.declared.events.FlatOutcome.TheVariants.{GoesOn, Exited, Trapped}
use Rattle.flat_machine.specs.declared.events.FlatEvent.{FlatEvent}
use Rattle.flat_machine.specs.Mapping.{can_access, can_move}
use Rattle.flat_machine.specs.State.{State, trap}
use Rattle.flat_machine.specs.Calls.{a1, a2, a7, answered, exited, written, read_count, with_read_bytes, read, call}
use Rattle.flat_machine.specs.Step.{Reads, may_access, performed, next_state, Performs, ReadsNothing, StepAt, Step}
use Rattle.flat_machine.specs.Runs.{Steps}
use Rattle.flat_machine.specs.Start.{start_of}
use Rattle.flat_machine.specs.Sizes.{HasWords}

-- ---- the start

image_bytes : (segments : List PlainSegment) (a : ℕ) → AreLoadable segments → image_of segments a < 256
image_bytes [] a all = omega arith
image_bytes (s ∷ segments) a all =
    here (has_byte s a) (image_bytes segments a (All-tail IsLoadable s segments all))
  where
    content : (bytes : List ℕ) (k : ℕ) → AreBytes bytes → slice_index bytes k < 256
    content [] k all = grind (arith, common_steps)
    content (b ∷ bytes) zero all = All-head IsByte b bytes all
    content (b ∷ bytes) (suc k) all = content bytes k (All-tail IsByte b bytes all)

    here : (test : Bool) → image_of segments a < 256 → (if test then slice_index s.content (a - s.vaddr) else image_of segments a) < 256
    here true rest = content s.content (a - s.vaddr) (All-head IsLoadable s segments all).bytes
    here false rest = rest

pub start_words : (entry : ℕ) (segments : List PlainSegment) (map : List Range) (input : List ℕ) → entry < 4294967296 → AreLoadable segments → AreBytes input → HasWords (start_of entry segments map input)
start_words entry segments map input small all bytes = record {
  hart = record { pc = small; regs = λ k. omega arith; mem = λ a. image_bytes segments a all };
  input = bytes;
}

-- ---- calls

put_bytes_bytes : (bytes : List ℕ) (mem : Memory) (at a : ℕ) → AreBytes bytes → ((b : ℕ) → mem b < 256) → put_bytes mem at bytes a < 256
unfolding put
put_bytes_bytes [] mem at a all small = small a
put_bytes_bytes (x ∷ bytes) mem at a all small =
    put_bytes_bytes bytes (put mem at x) (at + 1) a (All-tail IsByte x bytes all) (one (All-head IsByte x bytes all))
  where
    one : x < 256 → (b : ℕ) → put mem at x b < 256
    one h b = let r = small b in grind (arith, nat_tests)

pub answered_words : (s : State) (value : ℕ) → value < 4294967296 → HasWords s → HasWords (answered s value)
unfolding put
answered_words s value small h = record {
  hart = record {
    pc = omega arith;
    regs = λ k. let r = h.hart.regs k in grind (arith, nat_tests);
    mem = h.hart.mem;
  };
  input = h.input;
}

-- a state with the same hart and the same input
same_words : (s t : State) → t.hart ≡ s.hart → t.input ≡ s.input → HasWords s → HasWords t
same_words s t hart input h = record {
  hart = subst HoldsWords (sym hart) h.hart;
  input = subst AreBytes (sym input) h.input;
}

either : (test : Bool) (s t : State) → HasWords s → HasWords t → HasWords (if test then s else t)
either true s t a b = a
either false s t a b = b

read_words : (s : State) → HasWords s → HasWords (read s)
read_words s h =
    let moved : HasWords (with_read_bytes s) = record {
      hart = record {
        pc = h.hart.pc;
        regs = h.hart.regs;
        mem = λ a. put_bytes_bytes (take (read_count s) s.input) s.hart.mem (a1 s) a (All-take IsByte (read_count s) s.input h.input) h.hart.mem;
      };
      input = All-drop IsByte (read_count s) s.input h.input;
    } in
    let asked = h.hart.regs 12 in
    let small : read_count s < 4294967296 = omega arith in
    either (can_move s.map (a1 s) (read_count s)) (answered (with_read_bytes s) (read_count s)) (trap s)
    (answered_words (with_read_bytes s) (read_count s) small moved) (same_words s (trap s) refl refl h)

written_words : (s : State) → HasWords s → HasWords (written s)
written_words s h =
    either (can_move s.map (a1 s) (a2 s)) _ (trap s)
    (same_words (answered s (a2 s)) _ refl refl (answered_words s (a2 s) (h.hart.regs 12) h))
    (same_words s (trap s) refl refl h)

call_words : (s : State) → HasWords s → HasWords (call s)
call_words s h =
    either (a7 s == 93) (exited s) _ (same_words s (exited s) refl refl h)
    (either (a7 s == 64) (written s) _ (written_words s h)
    (either (a7 s == 63) (read s) (answered s 4294967258) (read_words s h) (answered_words s 4294967258 (omega arith) h)))

-- ---- steps

performed_words : ActsKeepsWords → (s : State) (i : Instr) → IsInRange i → HasWords s → HasWords (performed s i)
performed_words keeps s Ecall r h = call_words s h
performed_words keeps s Ebreak r h = same_words s (trap s) refl refl h
performed_words keeps s i r h =
    either (may_access s (access_of i s.hart.regs)) (record s { hart = acts i s.hart }) (trap s)
    (record { hart = keeps i s.hart r h.hart; input = h.input })
    (same_words s (trap s) refl refl h)

next_words : ActsKeepsWords → (s : State) (i : Option Instr) (w : ℕ) → Reads w i → HasWords s → HasWords (next_state s i)
next_words keeps s None w m h = same_words s (trap s) refl refl h
next_words keeps s (Some i) w m h = performed_words keeps s i (in_range w i m) h

going_words : ActsKeepsWords → (fetches : Bool) (s t : State) (e : FlatEvent) → HasWords s → MatchBool fetches ((read : Option Instr) × Performs s e t read) (ReadsNothing s e t (trap s)) → HasWords t
going_words keeps true s t e h q = subst HasWords (sym q.1.state) (next_words keeps s q.0 _ q.1.reads h)
going_words keeps false s t e h q = subst HasWords (sym q.state) (same_words s (trap s) refl refl h)

step_at_words : ActsKeepsWords → (o : FlatOutcome) (s t : State) (e : FlatEvent) → HasWords s → StepAt o s e t → HasWords t
step_at_words keeps GoesOn s t e h q = going_words keeps (can_access s.map s.hart.pc 4) s t e h q
step_at_words keeps (Exited code) s t e h q = subst HasWords (sym q.state) h
step_at_words keeps (Trapped pc) s t e h q = subst HasWords (sym q.state) h

pub step_words : ActsKeepsWords → (s t : State) (e : FlatEvent) → HasWords s → Step s e t → HasWords t
step_words keeps s t e h q = step_at_words keeps s.outcome s t e h q

pub steps_words : ActsKeepsWords → (n : ℕ) (s t : State) → HasWords s → Steps n s t → HasWords t
steps_words keeps zero s t h r = subst HasWords (sym r) h
steps_words keeps (suc n) s t h r = steps_words keeps n r.0 t (step_words keeps s r.0 r.1.0.0 h r.1.0.1) r.1.1
