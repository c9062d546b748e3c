-- Control words: registers that are kept in them, and get their words again.
use Rattle.std.proofs.Common.{◌≡◌, ◌⊎◌, inl, inr, ℕ, ◌+◌, ◌-◌, ◌*◌, ◌%◌, ◌<◌, ◌≤◌, ◌==◌, true, List, [], ◌∷◌, length, if◌then◌else◌, refl, sym, ◌∙◌, ap, subst, arith}
use Rattle.std.proofs.lemmas.Bool.{cases_eq}
use Rattle.std.proofs.lemmas.Int.{ints}
use Rattle.std.proofs.lemmas.Bool.Decides.{nat_tests}
use Rattle.rv32im.specs.Words.{plus, offset, upper_half, lower_half}
use Rattle.rv32im.specs.Memory.{Memory, put, word_at, put_word}
use Rattle.rv32im.proofs.Bytes.{word_at-put_word}
use Rattle.rv32im.specs.declared.instructions.Instr.TheVariants.{Load, Store}
use Rattle.rv32im.specs.declared.instructions.LoadKind.TheVariants.{Lw}
use Rattle.rv32im.specs.declared.instructions.StoreKind.TheVariants.{Sw}
use Rattle.rv32im.specs.Acts.{Hart, Registers, acts, register, with_register}
use Rattle.flat_machine.specs.declared.events.FlatOutcome.TheVariants.{GoesOn}
use Rattle.flat_machine.specs.Mapping.{can_access}
use Rattle.flat_machine.specs.State.{State}
use Rattle.flat_machine.specs.Lines.{acted, AreMapped}
use Rattle.flat_machine.proofs.LineWords.{accessed, word_kept}
use Rattle.patch_code.specs.Checking.{saved_registers, saves, restores, saves_accesses, restores_accesses}
use Rattle.patch_code.specs.Told.{read_at, write_at}
use Rattle.patch_code.proofs.Ways.{Straight, line_accesses, load_follows, store_follows}

pub register_is : (regs : Registers) (k : ℕ) → (k ≡ 0 → ⊥) → register regs k ≡ regs k
register_is regs k some = grind (arith, nat_tests)

-- what LUI leaves of the control words' address
abbrev pub upper : ℕ → ℕ
upper base = upper_half base * 4096 % 4294967296

-- its low part leads to each control word
pub control_at : (base at : ℕ) → base % 64 ≡ 0 → base ≤ at → at < base + 64 → base + 64 < 4294967296 → offset (upper base) (lower_half at) ≡ at
control_at base at aligned low high below = grind (arith, ints, nat_tests)

pub word_fits : (mem : Memory) (at : ℕ) → ((x : ℕ) → mem x < 256) → word_at mem at < 4294967296
word_fits mem at small =
    let b0 = small at in
    let b1 = small (plus at 1) in
    let b2 = small (plus at 2) in
    let b3 = small (plus at 3) in
    omega (arith, b0, b1, b2, b3)

-- ---- memory with words of registers

abbrev pub saved : Registers → List ℕ → ℕ → Memory → Memory
saved regs [] at mem = mem
saved regs (x ∷ xs) at mem = saved regs xs (at + 4) (put_word mem at (register regs x))

abbrev pub Holds : Registers → List ℕ → ℕ → Memory → Type 0
Holds regs [] at mem = Unit {0}
Holds regs (x ∷ xs) at mem = (word_at mem at ≡ register regs x) × Holds regs xs (at + 4) mem

pub word_outside : (mem : Memory) (at value x : ℕ) → at + 4 ≤ 4294967296 → (x < at) ⊎ (at + 4 ≤ x) → put_word mem at value x ≡ mem x
unfolding put
word_outside mem at value x fits (inl before) = grind (arith, nat_tests)
word_outside mem at value x fits (inr past) = grind (arith, nat_tests)

pub saved_outside : (regs : Registers) (xs : List ℕ) (at : ℕ) (mem : Memory) (x : ℕ) → at + 4 * length xs ≤ 4294967296 → (x < at) ⊎ (at + 4 * length xs ≤ x) → saved regs xs at mem x ≡ mem x
saved_outside regs [] at mem x fits apart = refl
saved_outside regs (k ∷ xs) at mem x fits (inl before) =
    saved_outside regs xs (at + 4) (put_word mem at (register regs k)) x (omega (arith, fits)) (inl (omega (arith, before)))
    ∙ word_outside mem at (register regs k) x (omega (arith, fits)) (inl before)
saved_outside regs (k ∷ xs) at mem x fits (inr past) =
    saved_outside regs xs (at + 4) (put_word mem at (register regs k)) x (omega (arith, fits)) (inr (omega (arith, past)))
    ∙ word_outside mem at (register regs k) x (omega (arith, fits)) (inr (omega (arith, past)))

put_small : (mem : Memory) (at value : ℕ) → ((x : ℕ) → mem x < 256) → (x : ℕ) → put_word mem at value x < 256
unfolding put
put_small mem at value small x = let here = small x in grind (arith, nat_tests, here)

pub saved_small : (regs : Registers) (xs : List ℕ) (at : ℕ) (mem : Memory) → ((x : ℕ) → mem x < 256) → (x : ℕ) → saved regs xs at mem x < 256
saved_small regs [] at mem small x = small x
saved_small regs (k ∷ xs) at mem small x =
    saved_small regs xs (at + 4) (put_word mem at (register regs k)) (put_small mem at (register regs k) small) x

register_fits : (regs : Registers) (k : ℕ) → ((x : ℕ) → regs x < 4294967296) → register regs k < 4294967296
register_fits regs k fit = let here = fit k in grind (arith, nat_tests, here)

pub saved_holds : (regs : Registers) (xs : List ℕ) (at : ℕ) (mem : Memory) → ((k : ℕ) → regs k < 4294967296) → at + 4 * length xs ≤ 4294967296 → Holds regs xs at (saved regs xs at mem)
saved_holds regs [] at mem fit below = tt
saved_holds regs (x ∷ xs) at mem fit below =
    let one : Memory = put_word mem at (register regs x) in
    let stays =
    word_kept one (saved regs xs (at + 4) one) at (omega (arith, below))
    (λ a low high. saved_outside regs xs (at + 4) one a (omega (arith, below)) (inl high)) in
    (stays ∙ word_at-put_word mem at (register regs x) (omega (arith, below)) (register_fits regs x fit), saved_holds regs xs (at + 4) one fit (omega (arith, below)))

pub holds_kept : (regs : Registers) (xs : List ℕ) (at : ℕ) (mem new : Memory) → at + 4 * length xs ≤ 4294967296 → ((a : ℕ) → at ≤ a → a < at + 4 * length xs → new a ≡ mem a) → Holds regs xs at mem → Holds regs xs at new
holds_kept regs [] at mem new below same holds = tt
holds_kept regs (x ∷ xs) at mem new below same holds = (
  word_kept mem new at (omega (arith, below)) (λ a low high. same a low (omega (arith, high))) ∙ holds.0,
  holds_kept regs xs (at + 4) mem new (omega (arith, below)) (λ a low high. same a (omega (arith, low)) (omega (arith, high))) holds.1,
)

-- ---- registers that get their words again

abbrev pub In : List ℕ → ℕ → Type 0
In [] k = ⊥
In (x ∷ xs) k = (k ≡ x) ⊎ In xs k

pub in_or : (xs : List ℕ) (k : ℕ) → In xs k ⊎ (In xs k → ⊥)
in_or [] k = inr (λ none. none)
in_or (x ∷ xs) k =
    elim (cases_eq k x) [
      | inl same ↦ inl (inl same)
      | inr other ↦ elim (in_or xs k) [ inl more ↦ inl (inr more) | inr none ↦ inr (λ here. by other none here) ]
    ]
  where
    by : (k ≡ x → ⊥) → (In xs k → ⊥) → (k ≡ x) ⊎ In xs k → ⊥
    by other none (inl same) = other same
    by other none (inr more) = none more

pub saved_some : (k : ℕ) → In saved_registers k → k ≡ 0 → ⊥
saved_some k (inl e) none = absurd (omega (arith, e, none))
saved_some k (inr (inl e)) none = absurd (omega (arith, e, none))
saved_some k (inr (inr (inl e))) none = absurd (omega (arith, e, none))
saved_some k (inr (inr (inr (inl e)))) none = absurd (omega (arith, e, none))
saved_some k (inr (inr (inr (inr (inl e))))) none = absurd (omega (arith, e, none))
saved_some k (inr (inr (inr (inr (inr (inl e)))))) none = absurd (omega (arith, e, none))
saved_some k (inr (inr (inr (inr (inr (inr (inl e))))))) none = absurd (omega (arith, e, none))
saved_some k (inr (inr (inr (inr (inr (inr (inr none_more))))))) none = absurd none_more

-- a load for the register x, but for the address's own
abbrev loaded_in : Registers → ℕ → ℕ → ℕ → Registers
loaded_in regs x t v = with_register regs (if x == t then 0 else x) v

address_stays : (regs : Registers) (x t v : ℕ) → loaded_in regs x t v t ≡ regs t
unfolding put
address_stays regs x t v = grind (arith, nat_tests)

others_stay : (regs : Registers) (x t v k : ℕ) → (k ≡ x → ⊥) → loaded_in regs x t v k ≡ regs k
unfolding put
others_stay regs x t v k other = grind (arith, nat_tests)

zero_stays : (regs : Registers) (k t v : ℕ) → k ≡ 0 → loaded_in regs k t v k ≡ regs k
unfolding put
zero_stays regs k t v none = grind (arith, nat_tests, none)

comes_back : (regs old : Registers) (x t v : ℕ) → (x ≡ t → ⊥) → (x ≡ 0 → ⊥) → v ≡ register old x → loaded_in regs x t v x ≡ old x
unfolding put
comes_back regs old x t v other some value = grind (arith, nat_tests, value)

module _ (s : State) (going : s.outcome ≡ GoesOn) (lo size : ℕ) (inside : lo + size < 4294967296) (first : Memory) (base : ℕ) (aligned : base % 64 ≡ 0) (behind : base + 64 ≤ lo) (control : AreMapped s.map base 64) where
  pub control_access : (at : ℕ) → at % 4 ≡ 0 → base ≤ at → at + 4 ≤ base + 64 → can_access s.map at 4 ≡ true
  control_access at even low high =
      let d : ℕ = at - base in
      let place : base + d ≡ at = omega (arith, low) in
      subst (λ a. can_access s.map a 4 ≡ true) place
      (accessed s.map base 64 4 d control (omega (arith, low, high)) (ap (λ a. a % 4) place ∙ even))

  module _ (t : ℕ) (some : t ≡ 0 → ⊥) where
    leads : (h : Hart) (at : ℕ) → h.regs t ≡ upper base → base ≤ at → at + 4 ≤ base + 64 → offset (register h.regs t) (lower_half at) ≡ at
    leads h at up low high =
        ap (λ a. offset a (lower_half at)) (register_is h.regs t some ∙ up)
        ∙ control_at base at aligned low (omega (arith, high)) (omega (arith, behind, inside))

    pub record Saves (xs : List ℕ) (at : ℕ) (h : Hart) : Type 0 where
      pub follows : Straight s going lo size inside first (saves t xs at) h
      pub mem : (acted (saves t xs at) h).mem ≡ saved h.regs xs at h.mem
      pub regs : (acted (saves t xs at) h).regs ≡ h.regs
      pub told : line_accesses s going lo size inside first (saves t xs at) h ≡ saves_accesses xs at

    pub saves_do : (xs : List ℕ) (at : ℕ) (h : Hart) → h.regs t ≡ upper base → at % 4 ≡ 0 → base ≤ at → at + 4 * length xs ≤ base + 64 → Saves xs at h
    saves_do [] at h up even low high = record { follows = tt; mem = refl; regs = refl; told = refl }
    saves_do (x ∷ xs) at h up even low high =
        let here = leads h at up low (omega (arith, high)) in
        let next : Hart = acts (Store Sw t x (lower_half at)) h in
        let rest = saves_do xs (at + 4) next up (omega (arith, even)) (omega (arith, low)) (omega (arith, high)) in
        record {
          follows = (
            store_follows s going lo size inside first Sw t x (lower_half at) h at here (control_access at even low (omega (arith, high)))
                (omega (arith, high, behind, inside)) (inl (omega (arith, high, behind))),
            rest.follows,
          );
          mem = rest.mem ∙ ap (λ a. saved h.regs xs (at + 4) (put_word h.mem a (register h.regs x))) here;
          regs = rest.regs;
          told = λ i. write_at (here i) ∷ rest.told i;
        }

    -- the register holds its word, or will
    abbrev pub IsKnown : Registers → List ℕ → Registers → ℕ → Type 0
    IsKnown old xs regs k = (regs k ≡ old k) ⊎ ((k ≡ 0 → ⊥) × In xs k)

    pub record Restores (old : Registers) (xs : List ℕ) (at : ℕ) (h : Hart) : Type 0 where
      pub follows : Straight s going lo size inside first (restores t xs at) h
      pub mem : (acted (restores t xs at) h).mem ≡ h.mem
      pub told : line_accesses s going lo size inside first (restores t xs at) h ≡ restores_accesses xs at
      pub regs : (k : ℕ) → (k ≡ t → ⊥) → IsKnown old xs h.regs k → (acted (restores t xs at) h).regs k ≡ old k

    known_on : (old : Registers) (xs : List ℕ) (x v : ℕ) (regs : Registers) (k : ℕ) → v ≡ register old x → (k ≡ t → ⊥) → IsKnown old (x ∷ xs) regs k → IsKnown old xs (loaded_in regs x t v) k
    known_on old xs x v regs k value other (inl known) =
        elim (cases_eq k x) [
          | inl same ↦
              elim (cases_eq k 0) [
                | inl none ↦ inl (subst (λ n. loaded_in regs n t v k ≡ old k) same (zero_stays regs k t v none ∙ known))
                | inr any ↦ inl (subst (λ n. loaded_in regs n t v k ≡ old k) same (comes_back regs old k t v other any (value ∙ ap (λ n. register old n) (sym same))))
              ]
          | inr apart ↦ inl (others_stay regs x t v k apart ∙ known)
        ]
    known_on old xs x v regs k value other (inr (any, inl same)) =
        inl (subst (λ n. loaded_in regs n t v k ≡ old k) same (comes_back regs old k t v other any (value ∙ ap (λ n. register old n) (sym same))))
    known_on old xs x v regs k value other (inr (any, inr more)) = inr (any, more)

    pub restores_do : (old : Registers) (xs : List ℕ) (at : ℕ) (h : Hart) → h.regs t ≡ upper base → at % 4 ≡ 0 → base ≤ at → at + 4 * length xs ≤ base + 64 → Holds old xs at h.mem → Restores old xs at h
    restores_do old [] at h up even low high holds =
        record { follows = tt; mem = refl; told = refl; regs = λ k other known. by k known }
      where
        by : (k : ℕ) → IsKnown old [] h.regs k → h.regs k ≡ old k
        by k (inl known) = known
        by k (inr none) = absurd none.1
    restores_do old (x ∷ xs) at h up even low high holds =
        let here = leads h at up low (omega (arith, high)) in
        let rd : ℕ = if x == t then 0 else x in
        let v : ℕ = word_at h.mem (offset (register h.regs t) (lower_half at)) in
        let value : v ≡ register old x = ap (λ a. word_at h.mem a) here ∙ holds.0 in
        let next : Hart = acts (Load Lw rd t (lower_half at)) h in
        let rest =
        restores_do old xs (at + 4) next (address_stays h.regs x t v ∙ up) (omega (arith, even)) (omega (arith, low)) (omega (arith, high)) holds.1 in
        record {
          follows = (
            load_follows s going lo size inside first Lw rd t (lower_half at) h at here (control_access at even low (omega (arith, high))),
            rest.follows,
          );
          mem = rest.mem;
          told = λ i. read_at (here i) ∷ rest.told i;
          regs = λ k other known. rest.regs k other (known_on old xs x v h.regs k value other known);
        }
