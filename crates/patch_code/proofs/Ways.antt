-- Steps with what they tell, in a range whose code stays as it was.
use Rattle.std.proofs.Common.{◌≡◌, ◌⊎◌, inl, inr, ℕ, suc, ◌+◌, ◌*◌, ◌<◌, ◌≤◌, Bool, true, false, List, [], ◌∷◌, ◌++◌, length, ℤ, refl, sym, ◌∙◌, ap, subst, arith, if◌then◌else◌}
use Rattle.std.specs.Prelude.{Option, Some, None, option_map}
use Rattle.std.specs.Bool.{MatchBool}
use Rattle.std.proofs.lemmas.Grind.{flat_map-append}
use Rattle.std.proofs.lemmas.List.{length-append}
use Rattle.std.proofs.lemmas.List.Elements.{All-nil, All-cons, All-append}
use Rattle.std.proofs.lemmas.Bool.Decides.{nat_tests}
use Rattle.rv32im.specs.Words.{plus, offset}
use Rattle.rv32im.specs.Memory.{Memory, put, word_at}
use Rattle.rv32im.specs.declared.instructions.Instr.{Instr}
use Rattle.rv32im.specs.declared.instructions.Instr.TheVariants.{Lui, Load, Store, OpImm, FenceI}
use Rattle.rv32im.specs.declared.instructions.ImmKind.TheVariants.{Addi}
use Rattle.rv32im.specs.declared.instructions.LoadKind.{LoadKind}
use Rattle.rv32im.specs.declared.instructions.StoreKind.{StoreKind}
use Rattle.rv32im.specs.declared.instructions.StoreKind.TheVariants.{Sb, Sh, Sw}
use Rattle.rv32im.specs.Table.{Means}
use Rattle.rv32im.specs.Acts.{Hart, Access, acts, access_of, register, stored, load_width, store_width}
use Rattle.flat_machine.specs.declared.events.FlatAccess.{FlatAccess}
use Rattle.flat_machine.specs.declared.events.FlatEvent.{FlatEvent}
use Rattle.flat_machine.specs.declared.events.FlatOutcome.{FlatOutcome}
use Rattle.flat_machine.specs.declared.events.FlatOutcome.TheVariants.{GoesOn, Exited, Trapped}
use Rattle.flat_machine.specs.Mapping.{can_access}
use Rattle.flat_machine.specs.State.{State, trap}
use Rattle.flat_machine.specs.Step.{may_access, event_of, Performs, ReadsNothing, StepAt, Step}
use Rattle.flat_machine.specs.Lines.{with_hart, acted, IsOrdinary, Fetches, CodeAt}
use Rattle.flat_machine.proofs.Runs.{does_joined}
use Rattle.flat_machine.proofs.Lines.{line_does}
use Rattle.flat_machine.proofs.LineWords.{word_kept}
use Rattle.patch_code.specs.Told.{access_in, accesses, IsFrom, Way}

-- ---- one behind the other

pub stay : (lo size : ℕ) (s : State) → Way lo size 0 [] s s
stay lo size s =
    record { events = []; does = refl; count = refl; all = refl; fetched = All-nil (IsFrom lo size) }

unfoldable pub join : (lo size m n : ℕ) (first last : List FlatAccess) (s u t : State) → Way lo size m first s u → Way lo size n last u t → Way lo size (m + n) (first ++ last) s t
join lo size m n first last s u t a b =
    record {
      events = a.events ++ b.events;
      does = does_joined a.events b.events s u t a.does b.does;
      count = length-append a.events b.events ∙ (ap (λ k. k + length b.events) a.count ∙ ap (λ k. m + k) b.count);
      all = flat_map-append (λ (event : FlatEvent). access_in event.access) a.events b.events
          ∙ (ap (λ (told : List FlatAccess). told ++ accesses b.events) a.all ∙ ap (λ (told : List FlatAccess). first ++ told) b.all);
      fetched = All-append (IsFrom lo size) a.events b.events a.fetched b.fetched;
    }

unfoldable pub recount : (lo size m n : ℕ) (first last : List FlatAccess) (s t : State) → m ≡ n → first ≡ last → Way lo size m first s t → Way lo size n last s t
recount lo size m n first last s t count told way =
    record { events = way.events; does = way.does; count = way.count ∙ count; all = way.all ∙ told; fetched = way.fetched }

-- ---- one step

outcome_at : (o : FlatOutcome) (s t : State) (e : FlatEvent) → StepAt o s e t → e.outcome ≡ t.outcome
outcome_at GoesOn s t e step = by (can_access s.map s.hart.pc 4) step
  where
    by : (b : Bool) → MatchBool b ((read : Option Instr) × Performs s e t read) (ReadsNothing s e t (trap s)) → e.outcome ≡ t.outcome
    by true found = ap (λ (x : FlatEvent). x.outcome) found.1.event
    by false nothing = ap (λ (x : FlatEvent). x.outcome) nothing.event
outcome_at (Exited code) s t e nothing = ap (λ (x : FlatEvent). x.outcome) nothing.event
outcome_at (Trapped pc) s t e nothing = ap (λ (x : FlatEvent). x.outcome) nothing.event

-- the access that a step tells which may make it
abbrev pub told_of : Option Access → List FlatAccess
told_of None = []
told_of (Some access) = record { at = access.at; write = access.write } ∷ []

in_told : (access : Option Access) → access_in (option_map (λ (x : Access). record { at = x.at; write = x.write }) access) ++ [] ≡ told_of access
in_told None = refl
in_told (Some access) = refl

-- what a store leaves elsewhere
stored_outside : (kind : StoreKind) (mem : Memory) (at value x : ℕ) → at + store_width kind ≤ 4294967296 → (x < at) ⊎ (at + store_width kind ≤ x) → stored kind mem at value x ≡ mem x
unfolding put
stored_outside Sb mem at value x fits (inl before) = grind (arith, nat_tests)
stored_outside Sb mem at value x fits (inr past) = grind (arith, nat_tests)
stored_outside Sh mem at value x fits (inl before) = grind (arith, nat_tests)
stored_outside Sh mem at value x fits (inr past) = grind (arith, nat_tests)
stored_outside Sw mem at value x fits (inl before) = grind (arith, nat_tests)
stored_outside Sw mem at value x fits (inr past) = grind (arith, nat_tests)

module _ (s : State) (going : s.outcome ≡ GoesOn) (lo size : ℕ) (inside : lo + size < 4294967296) (first : Memory) where
  -- the code in the range stands as it stood in the first memory
  abbrev pub StandsStill : Memory → Type 0
  StandsStill mem = (x : ℕ) → lo ≤ x → x < lo + size → mem x ≡ first x

  abbrev pub Goes : ℕ → List FlatAccess → Hart → Hart → Type 0
  Goes n told h k = Way lo size n told (with_hart s h) (with_hart s k)

  pub step_way : (i : Instr) (h : Hart) (a : ℕ) → IsOrdinary i → may_access (with_hart s h) (access_of i h.regs) ≡ true → StandsStill h.mem → Fetches s.map first a i → h.pc ≡ a → lo ≤ a → a + 4 ≤ lo + size → Goes 1 (told_of (access_of i h.regs)) h (acts i h)
  step_way i h a ordinary may still fetch at low high =
      let word = word_kept first h.mem a (omega (arith, high, inside)) (λ x above under. still x (omega (arith, low, above)) (omega (arith, high, under))) in
      let means : Means (word_at h.mem a) i = subst (λ w. Means w i) (sym word) fetch.1 in
      let here : Fetches s.map h.mem h.pc i = subst (λ x. Fetches s.map h.mem x i) (sym at) (fetch.0, means) in
      let run = line_does (i ∷ []) s h going (here, (ordinary, (may, tt))) in
      let told : FlatEvent = event_of (with_hart s h) i in
      let step : Step (with_hart s h) told (with_hart s (acts i h)) =
      subst (λ t. Step (with_hart s h) told t) (sym run.1.1) run.1.0 in
      let from : IsFrom lo size told =
      record {
        low = omega (arith, at, low);
        high = omega (arith, at, high);
        on = outcome_at s.outcome (with_hart s h) (with_hart s (acts i h)) told step ∙ going;
      } in
      record {
        events = told ∷ [];
        does = run;
        count = refl;
        all = ap (λ (b : Bool). access_in (if b then option_map (λ (x : Access). record { at = x.at; write = x.write }) (access_of i h.regs) else None) ++ []) may
            ∙ in_told (access_of i h.regs);
        fetched = All-cons (IsFrom lo size) told [] from (All-nil (IsFrom lo size));
      }

  -- ---- instructions that go to the next word

  pub record Follows (i : Instr) (h : Hart) : Type 0 where
    pub ordinary : IsOrdinary i
    pub may : may_access (with_hart s h) (access_of i h.regs) ≡ true
    pub pc : (acts i h).pc ≡ plus h.pc 4
    pub still : StandsStill h.mem → StandsStill (acts i h).mem

  pub lui_follows : (rd imm : ℕ) (h : Hart) → Follows (Lui rd imm) h
  lui_follows rd imm h = record { ordinary = tt; may = refl; pc = refl; still = λ still. still }

  pub addi_follows : (rd rs1 : ℕ) (imm : ℤ) (h : Hart) → Follows (OpImm Addi rd rs1 imm) h
  addi_follows rd rs1 imm h = record { ordinary = tt; may = refl; pc = refl; still = λ still. still }

  pub fence_follows : (bits : ℕ) (h : Hart) → Follows (FenceI bits) h
  fence_follows bits h = record { ordinary = tt; may = refl; pc = refl; still = λ still. still }

  pub load_follows : (kind : LoadKind) (rd rs1 : ℕ) (imm : ℤ) (h : Hart) (at : ℕ) → offset (register h.regs rs1) imm ≡ at → can_access s.map at (load_width kind) ≡ true → Follows (Load kind rd rs1 imm) h
  load_follows kind rd rs1 imm h at there may =
      record {
        ordinary = tt;
        may = ap (λ a. can_access s.map a (load_width kind)) there ∙ may;
        pc = refl;
        still = λ still. still;
      }

  pub store_follows : (kind : StoreKind) (rs1 rs2 : ℕ) (imm : ℤ) (h : Hart) (at : ℕ) → offset (register h.regs rs1) imm ≡ at → can_access s.map at (store_width kind) ≡ true → at + store_width kind ≤ 4294967296 → (at + store_width kind ≤ lo) ⊎ (lo + size ≤ at) → Follows (Store kind rs1 rs2 imm) h
  store_follows kind rs1 rs2 imm h at there may fits apart =
      record {
        ordinary = tt;
        may = ap (λ a. can_access s.map a (store_width kind)) there ∙ may;
        pc = refl;
        still = λ still x low high. ap (λ a. stored kind h.mem a (register h.regs rs2) x) there
            ∙ (stored_outside kind h.mem at (register h.regs rs2) x fits (by x low high apart) ∙ still x low high);
      }
    where
      by : (x : ℕ) → lo ≤ x → x < lo + size → (at + store_width kind ≤ lo) ⊎ (lo + size ≤ at) → (x < at) ⊎ (at + store_width kind ≤ x)
      by x low high (inl before) = inr (omega (arith, low, before))
      by x low high (inr past) = inl (omega (arith, high, past))

  abbrev pub Straight : List Instr → Hart → Type 0
  Straight [] h = Unit {0}
  Straight (i ∷ is) h = Follows i h × Straight is (acts i h)

  abbrev pub line_accesses : List Instr → Hart → List FlatAccess
  line_accesses [] h = []
  line_accesses (i ∷ is) h = told_of (access_of i h.regs) ++ line_accesses is (acts i h)

  -- control has come to `a`, and the code stands
  pub record Passed (n : ℕ) (told : List FlatAccess) (a : ℕ) (h k : Hart) : Type 0 where
    pub way : Goes n told h k
    pub pc : k.pc ≡ a
    pub still : StandsStill k.mem

  pub passed_on : (m n : ℕ) (told more : List FlatAccess) (a b : ℕ) (h k l : Hart) → Passed m told a h k → Passed n more b k l → Passed (m + n) (told ++ more) b h l
  passed_on m n told more a b h k l one two =
      record {
        way = join lo size m n told more (with_hart s h) (with_hart s k) (with_hart s l) one.way two.way;
        pc = two.pc;
        still = two.still;
      }

  pub passed_as : (m n : ℕ) (told more : List FlatAccess) (a b : ℕ) (h k : Hart) → m ≡ n → told ≡ more → a ≡ b → Passed m told a h k → Passed n more b h k
  passed_as m n told more a b h k count same there one =
      record {
        way = recount lo size m n told more (with_hart s h) (with_hart s k) count same one.way;
        pc = one.pc ∙ there;
        still = one.still;
      }

  -- one of them
  pub follow : (i : Instr) (h : Hart) (a : ℕ) → Follows i h → StandsStill h.mem → Fetches s.map first a i → h.pc ≡ a → lo ≤ a → a + 4 ≤ lo + size → Passed 1 (told_of (access_of i h.regs)) (a + 4) h (acts i h)
  follow i h a one still fetch at low high =
      let on : plus h.pc 4 ≡ a + 4 = rw at (omega (arith, high, inside)) in
      record {
        way = step_way i h a one.ordinary one.may still fetch at low high;
        pc = one.pc ∙ on;
        still = one.still still;
      }

  pub straight : (is : List Instr) (h : Hart) (a : ℕ) → Straight is h → StandsStill h.mem → CodeAt s.map first a is → h.pc ≡ a → lo ≤ a → a + 4 * length is ≤ lo + size → Passed (length is) (line_accesses is h) (a + 4 * length is) h (acted is h)
  straight [] h a follows still code at low high =
      record { way = stay lo size (with_hart s h); pc = at ∙ omega arith; still = still }
  straight (i ∷ is) h a follows still code at low high =
      let one = follows.0 in
      let here = follow i h a one still code.0 at low (omega (arith, high)) in
      let rest =
      straight is (acts i h) (a + 4) follows.1 (one.still still) code.1 here.pc (omega (arith, low)) (omega (arith, high)) in
      passed_as (1 + length is) (suc (length is)) (told_of (access_of i h.regs) ++ line_accesses is (acts i h))
      (told_of (access_of i h.regs) ++ line_accesses is (acts i h)) (a + 4 + 4 * length is) (a + 4 * suc (length is)) h
      (acted is (acts i h)) (omega arith) refl (omega arith)
      (passed_on 1 (length is) (told_of (access_of i h.regs)) (line_accesses is (acts i h)) (a + 4) (a + 4 + 4 * length is) h
      (acts i h) (acted is (acts i h)) here rest)
