-- Where loads and stores go on the flat machine: to the place of the object, or to the same fixed memory.
use Rattle.std.proofs.Common.{◌≡◌, ◌⊎◌, inl, inr, ℕ, zero, suc, ◌+◌, ◌-◌, ◌%◌, ◌<◌, ◌≤◌, ◌==◌, if◌then◌else◌, nat_le, Bool, true, false, Option, Some, None, List, refl, sym, subst, arith}
use Rattle.std.specs.Prelude.{ℤ}
use Rattle.std.proofs.lemmas.Bool.{cond_both, eqb-true}
use Rattle.std.proofs.lemmas.Bool.Decides.{nat_tests}
use Rattle.list_checks.specs.First.{first_below}
use Rattle.list_checks.proofs.FirstLemmas.{none_at}
use Rattle.rv32im.specs.Words.{plus, offset}
use Rattle.rv32im.specs.Acts.{load_width, store_width}
use Rattle.rv32im.specs.declared.instructions.ImmKind.TheVariants.{Addi}
use Rattle.rv32im.specs.declared.instructions.LoadKind.{LoadKind}
use Rattle.rv32im.specs.declared.instructions.LoadKind.TheVariants.{Lb, Lh, Lw, Lbu, Lhu}
use Rattle.rv32im.specs.declared.instructions.StoreKind.{StoreKind}
use Rattle.rv32im.specs.declared.instructions.StoreKind.TheVariants.{Sb, Sh, Sw}
use Rattle.board_config.specs.declared.board.Range.{Range}
use Rattle.flat_machine.specs.Mapping.{is_mapped, all_mapped, can_access}
use Rattle.flat_machine.proofs.Spans.{aligned_and_mapped}
use Rattle.cell_values.specs.Objects.{IsGrain, home_address}
use Rattle.cell_values.specs.Operations.{op_imm, low_site}
use Rattle.cell_values.specs.declared.values.Val.{Val}
use Rattle.cell_values.specs.declared.values.Val.TheVariants.{Int, Addr, Hi, Low, Piece, Unknown}
use Rattle.cell_values.specs.Origins.{Origin}
use Rattle.cell_values.specs.Stands.{Stands, address_word}
use Rattle.object_machine.specs.Program.{Program, Target}
use Rattle.object_machine.specs.Places.{Where, InFixed, InObject, Nowhere, fault_from, in_fixed, located, address_of}
use Rattle.object_machine.specs.Paired.{finds_named}
use Rattle.simulation.specs.Setups.{Setup, Sound}
use Rattle.simulation.specs.Made.{IsMade}
use Rattle.simulation.specs.Units.{Completes}

-- the `n` bytes of a place begin at a flat address
abbrev pub Reaches : Program → Setup → ℕ → ℕ → Where → ℕ → Type 0
Reaches p l r n (InFixed a) at = (at ≡ a) × ((i : ℕ) → i < n → p.is_fixed (a + i) ≡ true)
Reaches p l r n (InObject o d) at = (at ≡ l.place r o + d) × (d + n ≤ p.objects.size o)
Reaches p l r n (Nowhere why) at = ⊥

-- an access that goes somewhere goes to that address, which is aligned
abbrev pub Goes : Program → Setup → ℕ → ℕ → Where → ℕ → Type 0
Goes p l r width (Nowhere why) at = Unit {0}
Goes p l r width x at = (at % width ≡ 0) × Reaches p l r width x at

-- the immediate of an access of the flat machine: the same, or at a site one that completes the address
abbrev pub Offsets : Program → Setup → ℕ → ℕ → Option Target → ℤ → ℤ → Type 0
Offsets p l r u None imm z = z ≡ imm
Offsets p l r u (Some t) imm z = Completes p l r u t z

-- the base of a site finds the upper part that its relocation names
abbrev pub IsNamed : Program → ℕ → Option Target → Origin → Val → Type 0
IsNamed p u None m x = Unit {0}
IsNamed p u (Some t) m x = IsMade p m x × (finds_named (p.named u) m x ≡ true)

-- ---- widths

abbrev pub IsWidth : ℕ → Type 0
IsWidth width = (width ≡ 1) ⊎ ((width ≡ 2) ⊎ (width ≡ 4))

pub load_is_width : (kind : LoadKind) → IsWidth (load_width kind)
load_is_width Lb = inl refl
load_is_width Lh = inr (inl refl)
load_is_width Lw = inr (inr refl)
load_is_width Lbu = inl refl
load_is_width Lhu = inr (inl refl)

pub store_is_width : (kind : StoreKind) → IsWidth (store_width kind)
store_is_width Sb = inl refl
store_is_width Sh = inr (inl refl)
store_is_width Sw = inr (inr refl)

pub width_positive : (width : ℕ) → IsWidth width → 0 < width
width_positive width (inl is) = omega arith
width_positive width (inr (inl is)) = omega arith
width_positive width (inr (inr is)) = omega arith

-- places are as homes modulo 4
same_quarter : (g : ℕ) → IsGrain g → (a b : ℕ) → a % g ≡ b % g → a % 4 ≡ b % 4
same_quarter g (inl is) a b same = let other = rw is at same in omega arith
same_quarter g (inr (inl is)) a b same = let other = rw is at same in omega arith
same_quarter g (inr (inr is)) a b same = let other = rw is at same in omega arith

same_aligned : (width : ℕ) → IsWidth width → (place home d : ℕ) → place % 4 ≡ home % 4 → plus home d % width ≡ 0 → (place + d) % width ≡ 0
same_aligned width (inl is) place home d same aligned = rw is (omega arith)
same_aligned width (inr (inl is)) place home d same aligned = rw is (let other = rw is at aligned in omega arith)
same_aligned width (inr (inr is)) place home d same aligned = rw is (let other = rw is at aligned in omega arith)

-- ---- where an address goes

pub all_mapped_each : (map : List Range) (at n : ℕ) → ((i : ℕ) → i < n → is_mapped map (at + i) ≡ true) → all_mapped map at n ≡ true
all_mapped_each map at zero each = refl
all_mapped_each map at (suc n) each =
    let before = all_mapped_each map at n (λ i below. each i (omega arith)) in
    let last = each n (omega arith) in
    rw (before, last) refl

unfaulted : (fixed : Bool) (why : ℕ) → (if fixed then None else Some why) ≡ None → fixed ≡ true
unfaulted true why none = refl
unfaulted false why none = cc

module _ (p : Program) (l : Setup) (r : ℕ) (sound : Sound p l r) where
  goes_fixed : (width a : ℕ) → a % width ≡ 0 → (fault : Option ℕ) → first_below (fault_from p a) width ≡ fault → Goes p l r width (in_fixed a fault) a
  goes_fixed width a aligned None none =
      (aligned, (refl, λ i below. unfaulted (p.is_fixed (a + i)) (if p.is_held (a + i) then 4 else 3) (none_at (fault_from p a) width i below none)))
  goes_fixed width a aligned (Some why) found = tt

  goes_number : (width a at : ℕ) → at ≡ a → Goes p l r width (located p width (Int a)) at
  goes_number width a at is =
      subst (λ b. Goes p l r width (located p width (Int a)) b) (sym is)
      (cond_both (a % width == 0) _ _ (λ x. Goes p l r width x a)
      (λ aligned. goes_fixed width a (eqb-true (a % width) 0 aligned) (first_below (fault_from p a) width) refl)
      (λ other. tt))

  inside_object : (width : ℕ) → IsWidth width → (o d at : ℕ) → at ≡ address_word (l.place r) o d → home_address p.objects o d % width ≡ 0 → d + width ≤ p.objects.size o → Goes p l r width (InObject o d) at
  inside_object width wide o d at is aligned inside =
      let below = sound.fit.below o in
      let here : at ≡ l.place r o + d = omega arith in
      let same = same_quarter p.objects.grain sound.fit.grain (l.place r o) (p.objects.home o) (sound.fit.congruent o) in
      let even = same_aligned width wide (l.place r o) (p.objects.home o) d same aligned in
      (rw here even, (here, inside))

  goes_object : (width : ℕ) → IsWidth width → (o d at : ℕ) → at ≡ address_word (l.place r) o d → Goes p l r width (located p width (Addr o d)) at
  goes_object width wide o d at is =
      cond_both (home_address p.objects o d % width == 0) _ _ (λ x. Goes p l r width x at)
      (λ aligned. cond_both (nat_le (d + width) (p.objects.size o)) _ _ (λ x. Goes p l r width x at)
      (λ inside. inside_object width wide o d at is (eqb-true (home_address p.objects o d % width) 0 aligned) (grind (arith, nat_tests)))
      (λ outside. tt))
      (λ other. tt)

  -- a value that an address may be
  pub goes_value : (width : ℕ) → IsWidth width → (m : Origin) (x : Val) (at : ℕ) → Stands p.objects (l.place r) (l.upper r) m x at → Goes p l r width (located p width x) at
  goes_value width wide m (Int a) at stands = goes_number width a at stands
  goes_value width wide m (Addr o d) at stands = goes_object width wide o d at stands
  goes_value width wide m (Hi o d) at stands = tt
  goes_value width wide m (Low n) at stands = tt
  goes_value width wide m (Piece hi o d k) at stands = tt
  goes_value width wide m Unknown at stands = tt

  -- without a site numbers and addresses alone go somewhere
  goes_plain : (width : ℕ) → IsWidth width → (m : Origin) (x : Val) (w : ℕ) (imm : ℤ) → Stands p.objects (l.place r) (l.upper r) m x w → Goes p l r width (located p width (op_imm p.objects Addi x imm)) (offset w imm)
  goes_plain width wide m (Int a) w imm stands = goes_number width (offset a imm) (offset w imm) (rw stands refl)
  goes_plain width wide m (Addr o d) w imm stands = goes_object width wide o (offset d imm) (offset w imm) (omega arith)
  goes_plain width wide m (Hi o d) w imm stands = tt
  goes_plain width wide m (Low n) w imm stands = tt
  goes_plain width wide m (Piece hi o d k) w imm stands = tt
  goes_plain width wide m Unknown w imm stands = tt

  pub goes_access : (width : ℕ) → IsWidth width → (u : ℕ) (site : Option Target) (m : Origin) (x : Val) (w : ℕ) (imm z : ℤ) → w < 4294967296 → Offsets p l r u site imm z → IsNamed p u site m x → Stands p.objects (l.place r) (l.upper r) m x w → Goes p l r width (located p width (address_of p site x imm)) (offset w z)
  goes_access width wide u None m x w imm z word offsets named stands = rw offsets (goes_plain width wide m x w imm stands)
  goes_access width wide u (Some t) m x w imm z word completes named stands =
      goes_value width wide m (low_site p.objects x t.object t.offset) (offset w z) (completes m m x w word named.0 named.1 stands)

  -- ---- what is reached

  pub reached_below : (n : ℕ) (x : Where) (at : ℕ) → 0 < n → Reaches p l r n x at → at + n ≤ 4294967296
  reached_below n (InFixed a) at some reached =
      let last = sound.fixed_below (a + (n - 1)) (reached.1 (n - 1) (omega arith)) in
      let here = reached.0 in
      omega arith
  reached_below n (InObject o d) at some reached =
      let below = sound.fit.below o in
      let here = reached.0 in
      let inside = reached.1 in
      omega arith
  reached_below n (Nowhere why) at some reached = absurd reached

  reached_mapped : (n : ℕ) (x : Where) (at : ℕ) → Reaches p l r n x at → (i : ℕ) → i < n → is_mapped l.map (at + i) ≡ true
  reached_mapped n (InFixed a) at reached i below = rw reached.0 (sound.fixed_mapped (a + i) (reached.1 i below))
  reached_mapped n (InObject o d) at reached i below =
      let here = reached.0 in
      let inside = reached.1 in
      let same : l.place r o + (d + i) ≡ at + i = omega arith in
      subst (λ a. is_mapped l.map a ≡ true) same (sound.objects_mapped o (d + i) (omega arith))
  reached_mapped n (Nowhere why) at reached i below = absurd reached

  pub reached_all : (n : ℕ) (x : Where) (at : ℕ) → Reaches p l r n x at → all_mapped l.map at n ≡ true
  reached_all n x at reached = all_mapped_each l.map at n (reached_mapped n x at reached)

  -- and may be accessed
  pub reached_access : (width : ℕ) (x : Where) (at : ℕ) → at % width ≡ 0 → Reaches p l r width x at → can_access l.map at width ≡ true
  reached_access width x at aligned reached = sym (aligned_and_mapped l.map at width aligned (reached_all width x at reached))
