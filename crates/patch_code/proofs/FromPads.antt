-- From a pad to the body of a stub.
use Rattle.std.proofs.Common.{◌≡◌, ℕ, zero, suc, ◌+◌, ◌-◌, ◌*◌, ◌%◌, ◌<◌, ◌≤◌, ◌==◌, true, false, List, [], ◌∷◌, ◌++◌, length, refl, sym, ◌∙◌, ap, subst, arith}
use Rattle.std.specs.Prelude.{All}
use Rattle.std.proofs.lemmas.Bool.Decides.{nat_tests}
use Rattle.std.proofs.lemmas.List.Elements.{All-contains}
use Rattle.std.proofs.lemmas.List.{length-append}
use Rattle.rv32im.specs.Words.{offset}
use Rattle.rv32im.specs.Memory.{Memory, word_at}
use Rattle.rv32im.specs.declared.instructions.Instr.{Instr}
use Rattle.rv32im.specs.declared.instructions.Instr.TheVariants.{Jal}
use Rattle.rv32im.specs.Sequences.{MeanAll, distance}
use Rattle.rv32im.proofs.SequenceLemmas.{arrives, mean_count}
use Rattle.flat_machine.specs.declared.events.FlatAccess.{FlatAccess}
use Rattle.flat_machine.specs.Mapping.{can_access}
use Rattle.flat_machine.specs.State.{State}
use Rattle.flat_machine.specs.Lines.{HoldsAt, CodeAt, Ran, went}
use Rattle.flat_machine.proofs.LineWords.{accessed, words_fetched, word_kept}
use Rattle.flat_machine.proofs.SilentLines.{one_ran}
use Rattle.patch_code.specs.declared.job.CopyJob.{CopyJob}
use Rattle.patch_code.specs.Jobs.{CanCopy}
use Rattle.patch_code.specs.Told.{read_at}
use Rattle.patch_code.specs.Switching.{routine, jobs_code}
use Rattle.patch_code.specs.Checking.{checking}
use Rattle.patch_code.specs.Switches.{FitsJob, HasRoutine, IsAtStub, IsFromStub, StubWay, routine_bytes, CameTo, Switched}
use Rattle.patch_code.proofs.Checked.{stub_passes_so, stub_switches_so}
use Rattle.patch_code.specs.Start.{start_at, start_bytes}
use Rattle.patch_code.specs.Serving.{ServingStub, test_code, test_bytes}
use Rattle.patch_code.specs.Overlay.{OverlayPlan, switching, switch_code, switch_at, serving_place, rest_bytes, CanServe, CanMove}
use Rattle.patch_code.specs.Served.{HasCode, IsAtPad, IsServedInside, ServingStands, CameToBody, body_at, jobs_from, accesses_from, run_from, PadsLead}
use Rattle.patch_code.proofs.Held.{held_front, held_behind}
use Rattle.patch_code.proofs.RegionCodes.{some_routine}
use Rattle.patch_code.proofs.Serves.{test_count, stub_count, serving_aligned}
use Rattle.patch_code.proofs.WholePlaces.{words_count, switch_stands, stubs_stand, served_inside}

module _ (p : OverlayPlan) (words : List ℕ) (stub : ServingStub) (s : State) (has : HasCode p words s) (at : IsAtPad p stub s) where
  abbrev lo : ℕ
  lo = start_at p.start

  abbrev room : ℕ
  room = start_bytes p.start + rest_bytes p

  abbrev place : ℕ
  place = serving_place p stub

  -- the state at the stub
  abbrev called : State
  called = went s s.hart.regs place

  base_aligned : p.start.base % 4 ≡ 0
  base_aligned = let even = has.can.start.aligned in omega (arith, even)

  inside : IsServedInside p stub
  inside = All-contains (IsServedInside p) p.stubs stub (served_inside p base_aligned) at.listed

  serves : CanServe p stub
  serves = All-contains (CanServe p) p.stubs stub has.can.stubs at.listed

  stands : ServingStands p s.hart.mem stub
  stands = All-contains (ServingStands p s.hart.mem) p.stubs stub (stubs_stand p words has.are s.hart.mem has.stands) at.listed

  below : lo + room < 4294967296
  below = let ends = has.can.ends in omega (arith, ends)

  -- ---- the pad

  padded : Ran s (stub.home ∷ []) s.hart.regs place
  padded =
      let ends = has.can.ends in
      let here = inside.ends in
      one_ran s (Jal 0 (distance stub.home place)) stub.home place at.going at.pc at.pad tt
      (ap (λ x. offset x (distance stub.home place)) at.pc ∙ arrives stub.home place at.home (omega (arith, ends, here)))

  -- ---- words that stand in the code

  fetched : (ws : List ℕ) (a : ℕ) → a % 4 ≡ 0 → lo ≤ a → a + 4 * length ws ≤ lo + room → (k : ℕ) → k < length ws → can_access s.map (a + 4 * k) 4 ≡ true
  fetched ws a even low high k inside_k =
      let count = words_count p words has.are in
      let aligned = base_aligned in
      let d : ℕ = a - p.start.base in
      let there : p.start.base + (d + 4 * k) ≡ a + 4 * k = omega (arith, low) in
      subst (λ x. can_access s.map x 4 ≡ true) there
      (accessed s.map p.start.base (4 * length words) 4 (d + 4 * k) has.mapped (omega (arith, count, low, high, inside_k)) (omega (arith, even, aligned, low)))

  coded : (ws : List ℕ) (is : List Instr) (a : ℕ) → MeanAll ws is → HoldsAt s.hart.mem a ws → a % 4 ≡ 0 → lo ≤ a → a + 4 * length ws ≤ lo + room → CodeAt s.map s.hart.mem a is
  coded ws is a mean held even low high = words_fetched ws is s.map s.hart.mem a mean held (fetched ws a even low high)

  -- ---- the routine

  some_regions : p.regions ≡ 0 → ⊥
  some_regions none = let most = serves.region in at.checked (omega (arith, none, most))

  routine_is : switch_code p ≡ routine jobs_code (switching p)
  routine_is = some_routine p some_regions

  routine_stands : CodeAt s.map s.hart.mem (switch_at p) (routine jobs_code (switching p))
  routine_stands =
      let count = mean_count has.are.switch (switch_code p) has.are.switches in
      let aligned = inside.aligned in
      let even = switch_aligned in
      subst (λ (is : List Instr). CodeAt s.map s.hart.mem (switch_at p) is) routine_is
      (coded has.are.switch (switch_code p) (switch_at p) has.are.switches (switch_stands p words has.are s.hart.mem has.stands) even
      (omega arith) (omega (arith, count)))
    where
      switch_aligned : switch_at p % 4 ≡ 0
      switch_aligned =
          let aligned = base_aligned in
          let even = serving_aligned p.stubs in
          omega (arith, aligned, even)

  fits : (jobs : List CopyJob) → All (CanMove p) jobs → All (CanCopy s.map) jobs → All (FitsJob p.start.base lo room called) jobs
  fits jobs can copy k d less =
      let one = can k d less in
      record { is = one.is; can = copy k d less; spares = one.code; target = one.control; source = one.source }

  has_routine : HasRoutine (switching p) lo room (switch_at p) called
  has_routine =
      let few = has.can.few in
      let count = words_count p words has.are in
      let bytes = ap (λ (is : List Instr). length is) routine_is in
      record {
        aligned = has.can.start.aligned;
        behind = omega arith;
        below = below;
        low = omega arith;
        high = omega (arith, bytes);
        few = omega (arith, few);
        control = λ i less. has.mapped i (omega (arith, count, less));
        jobs = λ i less. let change = has.can.jobs i less in record {
          leave = fits (p.leave i) change.leave (has.leave i less);
          enter = fits (p.enter i) change.enter (has.enter i less);
          kept_leave = fits (p.kept_leave i) change.kept_leave (has.kept_leave i less);
          kept_enter = fits (p.kept_enter i) change.kept_enter (has.kept_enter i less);
        };
        code = routine_stands;
      }

  -- ---- the stub

  tests_are : test_code p.start.base stub.temp place (switch_at p) stub.region ≡ checking p.start.base stub.temp stub.region place (switch_at p)
  tests_are = by stub.region at.checked
    where
      by : (r : ℕ) → (r ≡ 0 → ⊥) → test_code p.start.base stub.temp place (switch_at p) r ≡ checking p.start.base stub.temp r place (switch_at p)
      by zero some = absurd (some refl)
      by (suc r) some = let test : (suc r == 0) ≡ false = grind (arith, nat_tests) in rw test refl

  test_is_88 : test_bytes stub.region ≡ 88
  test_is_88 = by stub.region at.checked
    where
      by : (r : ℕ) → (r ≡ 0 → ⊥) → test_bytes r ≡ 88
      by zero some = absurd (some refl)
      by (suc r) some = let test : (suc r == 0) ≡ false = grind (arith, nat_tests) in rw test refl

  test_length : 4 * length stands.1.0.test ≡ 88
  test_length =
      let mean = mean_count stands.1.0.test (test_code p.start.base stub.temp place (switch_at p) stub.region) stands.1.0.tests in
      let tests = test_count p.start.base stub.temp place (switch_at p) stub.region in
      let bytes = test_is_88 in
      omega (arith, mean, tests, bytes)

  ends_inside : place + 4 * length stands.0 ≤ lo + room
  ends_inside =
      let count = stub_count p.start.base (switch_at p) place stub stands.0 stands.1.0 in
      let here = inside.ends in
      omega (arith, count, here)

  both_parts : length stands.0 ≡ length stands.1.0.test + length stands.1.0.body
  both_parts = ap (λ (xs : List ℕ). length xs) stands.1.0.whole ∙ length-append stands.1.0.test stands.1.0.body

  parts_held : HoldsAt s.hart.mem place (stands.1.0.test ++ stands.1.0.body)
  parts_held = subst (λ (ws : List ℕ). HoldsAt s.hart.mem place ws) stands.1.0.whole stands.1.1

  low_inside : lo ≤ place
  low_inside = let from = inside.from in omega (arith, from)

  at_stub : IsAtStub p.start.base lo room (switch_at p) stub.temp stub.region place called
  at_stub =
      let few = has.can.few in
      let most = serves.region in
      let above = serves.above in
      let fit = below in
      let ends = ends_inside in
      let both = both_parts in
      let test = test_length in
      record {
        going = at.going;
        words = record { pc = omega (arith, ends, fit); regs = at.words.regs; mem = at.words.mem };
        pc = refl;
        aligned = inside.aligned;
        low = low_inside;
        high = omega (arith, ends, both, test);
        some = λ none. absurd (omega (arith, none, above));
        small = omega (arith, few, most);
        code = subst (λ (is : List Instr). CodeAt s.map s.hart.mem place is) tests_are
            (coded stands.1.0.test (test_code p.start.base stub.temp place (switch_at p) stub.region) place stands.1.0.tests
            (held_front s.hart.mem place stands.1.0.test stands.1.0.body parts_held) inside.aligned low_inside (omega (arith, ends, both)));
      }

  -- its body stands where the code still does
  body_held : (mem : Memory) → ((x : ℕ) → lo ≤ x → x < lo + room → mem x ≡ s.hart.mem x) → HoldsAt mem (body_at p stub) stands.1.0.body
  body_held mem same k less =
      let ends = ends_inside in
      let both = both_parts in
      let test = test_length in
      let low = low_inside in
      let fit = below in
      word_kept s.hart.mem mem (body_at p stub + 4 * k) (omega (arith, ends, both, test, less, fit))
      (λ x above under. same x (omega (arith, low, above)) (omega (arith, ends, both, test, less, under)))
      ∙ held_behind s.hart.mem place (body_at p stub) stands.1.0.test stands.1.0.body (omega (arith, test)) parts_held k less

  came : (n : ℕ) (told : List FlatAccess) (t : State) → StubWay lo room place (switch_at p) (routine_bytes (switching p)) n told called t → CameTo (place + 88) stub.temp called t → ((x : ℕ) → lo ≤ x → x < lo + room → t.hart.mem x ≡ s.hart.mem x) → CameToBody p stub n told s t
  came n told t way to same =
      record {
        pad = padded;
        way = way.way;
        own = subst (λ (is : List Instr). All (IsFromStub place (switch_at p) (4 * length is)) way.way.events) (sym routine_is) way.own;
        came = record { pc = to.pc; registers = to.registers; rest = to.rest };
        body = (stands.1.0.body, (stands.1.0.does, body_held t.hart.mem same));
      }

  pub passes : word_at s.hart.mem p.start.base ≡ stub.region → (t : State) × (CameToBody p stub 4 (read_at p.start.base ∷ []) s t × (t.hart.mem ≡ s.hart.mem))
  passes current =
      let run = stub_passes_so (switching p) lo room (switch_at p) stub.temp stub.region place called has_routine at_stub current in
      (run.0, (came 4 (read_at p.start.base ∷ []) run.0 run.1.0 run.1.1.0 (λ x low high. ap (λ (m : Memory). m x) run.1.1.1), run.1.1.1))

  pub switches : (word_at s.hart.mem p.start.base ≡ stub.region → ⊥) → (t : State) × (CameToBody p stub (run_from p stub s) (accesses_from p stub s) s t × Switched p.start.base lo room stub.region (jobs_from p stub s) s.hart.mem t.hart.mem)
  switches other =
      let run = stub_switches_so (switching p) lo room (switch_at p) stub.temp stub.region place called has_routine at_stub other in
      (run.0, (came (run_from p stub s) (accesses_from p stub s) run.0 run.1.0 run.1.1.0 run.1.1.1.code, run.1.1.1))

pub pads_lead_so : PadsLead
pads_lead_so = record { passes = λ p words stub s has at current. passes p words stub s has at current; switches = λ p words stub s has at other. switches p words stub s has at other }
