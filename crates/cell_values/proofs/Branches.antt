-- What is known of a comparison of values their words show.
use Rattle.std.proofs.Common.{◌≡◌, ℕ, ◌+◌, ◌<◌, ◌==◌, nat_lt, nat_le, Bool, true, false, not, ◌&&◌, Some, refl, subst, arith}
use Rattle.std.proofs.lemmas.Bool.{cond_both, eqb-true, eqb-false}
use Rattle.std.proofs.lemmas.Bool.Decides.{nat_tests}
use Rattle.rv32im.specs.Words.{plus}
use Rattle.rv32im.specs.Acts.{is_taken}
use Rattle.rv32im.specs.declared.instructions.BranchKind.{BranchKind}
use Rattle.rv32im.specs.declared.instructions.BranchKind.TheVariants.{Beq, Bne, Blt, Bge, Bltu, Bgeu}
use Rattle.cell_values.specs.Objects.{Objects}
use Rattle.cell_values.specs.Comparisons.{known_if, within, same_object, other_object, above_zero, zero_below, compare}
use Rattle.cell_values.specs.Laws.{HoldsWord}
use Rattle.cell_values.specs.declared.values.Val.{Val}
use Rattle.cell_values.specs.declared.values.Val.TheVariants.{Int, Addr}
use Rattle.cell_values.specs.Origins.{Origin}
use Rattle.cell_values.specs.Stands.{Places, Fit, Uppers, Stands, address_word}
use Rattle.cell_values.specs.WordLaws.{ComparisonsStand}

-- what is known on a condition
answer : (condition result taken : Bool) → known_if condition result ≡ Some taken → (condition ≡ true) × (result ≡ taken)
answer true result taken known = (refl, cc)
answer false result taken known = cc

-- BLTU needs no bound of the offsets: it asks for one itself
abbrev pub AreOffsets : BranchKind → ℕ → ℕ → Type 0
AreOffsets Bltu d e = Unit {0}
AreOffsets kind d e = (d < 4294967296) × (e < 4294967296)

same_numbers : (kind : BranchKind) (p size d e : ℕ) (taken : Bool) → p + size < 4294967296 → AreOffsets kind d e → same_object size kind d e ≡ Some taken → is_taken kind (plus p d) (plus p e) ≡ taken
same_numbers Beq p size d e taken below words known =
    let first = words.0 in
    let second = words.1 in
    let same : (plus p d == plus p e) ≡ (d == e) = grind (arith, nat_tests) in
    cc
same_numbers Bne p size d e taken below words known =
    let first = words.0 in
    let second = words.1 in
    let same : (plus p d == plus p e) ≡ (d == e) = grind (arith, nat_tests) in
    cc
same_numbers Bltu p size d e taken below words known =
    let parts = answer (within size d e) (nat_lt d e) taken known in
    let inside = parts.0 in
    let same : nat_lt (plus p d) (plus p e) ≡ nat_lt d e = grind (arith, nat_tests) in
    rw same parts.1
same_numbers Bgeu p size d e taken below words known =
    let parts = answer (within size d e) (not (nat_lt d e)) taken known in
    let inside = parts.0 in
    let same : nat_lt (plus p d) (plus p e) ≡ nat_lt d e = grind (arith, nat_tests) in
    rw same parts.1
same_numbers Blt p size d e taken below words known = cc
same_numbers Bge p size d e taken below words known = cc

abbrev pub IsDisjoint : ℕ → ℕ → ℕ → ℕ → ℕ → ℕ → Type 0
IsDisjoint p size d q byte_range e = d < size → e < byte_range → p + d ≡ q + e → ⊥

differ : (p size d q byte_range e : ℕ) → p + size < 4294967296 → q + byte_range < 4294967296 → IsDisjoint p size d q byte_range e → nat_lt d size && nat_lt e byte_range ≡ true → (plus p d == plus q e) ≡ false
differ p size d q byte_range e first second disjoint inside = grind (arith, nat_tests)

other_numbers : (kind : BranchKind) (p size d q byte_range e : ℕ) (taken : Bool) → p + size < 4294967296 → q + byte_range < 4294967296 → IsDisjoint p size d q byte_range e → other_object (nat_lt d size && nat_lt e byte_range) kind ≡ Some taken → is_taken kind (plus p d) (plus q e) ≡ taken
other_numbers Beq p size d q byte_range e taken first second disjoint known =
    let parts = answer (nat_lt d size && nat_lt e byte_range) false taken known in
    rw (differ p size d q byte_range e first second disjoint parts.0) parts.1
other_numbers Bne p size d q byte_range e taken first second disjoint known =
    let parts = answer (nat_lt d size && nat_lt e byte_range) true taken known in
    rw (differ p size d q byte_range e first second disjoint parts.0) parts.1
other_numbers kind p size d q byte_range e taken first second disjoint known = cc

-- an address up to the end of its object is above 0
above : (p size d n : ℕ) → 0 < p → p + size < 4294967296 → (n == 0) && nat_le d size ≡ true → nat_lt n (plus p d) ≡ true
above p size d n positive below near = grind (arith, nat_tests)

answer_above : (p size d n : ℕ) (result taken : Bool) → 0 < p → p + size < 4294967296 → known_if ((n == 0) && nat_le d size) result ≡ Some taken → (nat_lt n (plus p d) ≡ true) × (result ≡ taken)
answer_above p size d n result taken positive below known =
    let parts = answer ((n == 0) && nat_le d size) result taken known in (above p size d n positive below parts.0, parts.1)

-- what each comparison of the greater with the less is, and of the less with the greater
abbrev is_above : BranchKind → Bool
is_above Bne = true
is_above Bgeu = true
is_above kind = false

abbrev is_below : BranchKind → Bool
is_below Bne = true
is_below Bltu = true
is_below kind = false

above_numbers : (kind : BranchKind) (p size d n : ℕ) (taken : Bool) → 0 < p → p + size < 4294967296 → above_zero ((n == 0) && nat_le d size) kind ≡ Some taken → is_taken kind (plus p d) n ≡ taken
above_numbers Blt p size d n taken positive below known = cc
above_numbers Bge p size d n taken positive below known = cc
above_numbers kind p size d n taken positive below known =
    let (near, result) = answer_above p size d n (is_above kind) taken positive below known in grind (arith, nat_tests, near, result)

below_numbers : (kind : BranchKind) (p size d n : ℕ) (taken : Bool) → 0 < p → p + size < 4294967296 → zero_below ((n == 0) && nat_le d size) kind ≡ Some taken → is_taken kind n (plus p d) ≡ taken
below_numbers Blt p size d n taken positive below known = cc
below_numbers Bge p size d n taken positive below known = cc
below_numbers kind p size d n taken positive below known =
    let (near, result) = answer_above p size d n (is_below kind) taken positive below known in grind (arith, nat_tests, near, result)

abbrev pub AreComparable : BranchKind → Val → Val → Type 0
AreComparable kind (Addr o d) (Addr p e) = AreOffsets kind d e
AreComparable kind x y = Unit {0}

module _ (os : Objects) (place : Places) (up : Uppers) (fit : Fit os place) where
  addresses : (kind : BranchKind) (o d p e : ℕ) (taken : Bool) → AreOffsets kind d e → compare os kind (Addr o d) (Addr p e) ≡ Some taken → is_taken kind (address_word place o d) (address_word place p e) ≡ taken
  addresses kind o d p e taken words =
      cond_both _ _ _ (λ known. known ≡ Some taken → is_taken kind (address_word place o d) (address_word place p e) ≡ taken)
      (λ same. λ known.
      subst (λ q. is_taken kind (address_word place o d) (address_word place q e) ≡ taken) (eqb-true o p same)
      (same_numbers kind (place o) (os.size o) d e taken (fit.below o) words known))
      (λ other. λ known.
      other_numbers kind (place o) (os.size o) d (place p) (os.size p) e taken (fit.below o) (fit.below p)
      (fit.disjoint o p d e (eqb-false o p other)) known)

  pub compare_stands : (kind : BranchKind) (m n : Origin) (x y : Val) (w z : ℕ) (taken : Bool) → AreComparable kind x y → compare os kind x y ≡ Some taken → Stands os place up m x w → Stands os place up n y z → is_taken kind w z ≡ taken
  compare_stands kind m n (Int a) (Int b) w z taken words known first second = cc
  compare_stands kind m n (Addr o d) (Addr p e) w z taken words known first second =
      rw (first, second) (addresses kind o d p e taken words known)
  compare_stands kind m n (Addr o d) (Int b) w z taken words known first second =
      rw (first, second) (above_numbers kind (place o) (os.size o) d b taken (fit.positive o) (fit.below o) known)
  compare_stands kind m n (Int a) (Addr o d) w z taken words known first second =
      rw (first, second) (below_numbers kind (place o) (os.size o) d a taken (fit.positive o) (fit.below o) known)
  compare_stands kind m n x y w z taken words known first second = cc

pub less_comparable : (x y : Val) → AreComparable Bltu x y
less_comparable (Addr o d) (Addr p e) = tt
less_comparable x y = tt

are_offsets : (kind : BranchKind) (d e : ℕ) → d < 4294967296 → e < 4294967296 → AreOffsets kind d e
are_offsets Bltu d e first second = tt
are_offsets kind d e first second = (first, second)

are_comparable : (kind : BranchKind) (x y : Val) → HoldsWord x → HoldsWord y → AreComparable kind x y
are_comparable kind (Addr o d) (Addr p e) first second = are_offsets kind d e first second
are_comparable kind x y first second = tt

pub comparisons_stand : ComparisonsStand
comparisons_stand os place up fit kind m n x y w z taken first_offset second_offset known first second =
    compare_stands os place up fit kind m n x y w z taken (are_comparable kind x y first_offset second_offset) known first
    second
