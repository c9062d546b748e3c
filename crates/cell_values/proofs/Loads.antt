-- The values that loads take from cells stand for the words of their bytes.
use Rattle.std.proofs.Common.{◌≡◌, inl, inr, ℕ, ◌%◌, ◌<◌, ◌==◌, Bool, true, false, ◌&&◌, Option, Some, None, refl, subst, arith}
use Rattle.std.proofs.lemmas.Bool.{cond_both, eqb-true}
use Rattle.std.proofs.lemmas.Bool.Decides.{nat_tests}
use Rattle.list_checks.proofs.TestLemmas.{both}
use Rattle.rv32im.specs.Words.{word_of, byte_of, sign_extended}
use Rattle.cell_values.specs.Objects.{Objects}
use Rattle.cell_values.specs.Cells.{is_part, whole_word, join}
use Rattle.cell_values.specs.declared.values.Cell.{Cell}
use Rattle.cell_values.specs.declared.values.Cell.TheVariants.{Byte, Part, Mist}
use Rattle.cell_values.specs.Origins.{Origin, ByLui, ByAuipc, Mixed, same_origin, joined_origin}
use Rattle.cell_values.specs.Stands.{Places, Uppers, AreWords, MixesParts, IsByte, Is, whole, Stands, CellStands, address_word}
use Rattle.cell_values.specs.WordLaws.{JoinStands, PiecesStand, HalvesStand}

-- ---- bytes and halfwords

-- a byte that is sign-extended is still the least of its word
extended_byte : (b : ℕ) → b < 256 → sign_extended b 8 % 256 ≡ b
extended_byte b byte = grind (arith, nat_tests)

pub pieces_stand : PiecesStand
pieces_stand os place up m (Byte n) b byte stands = (stands, rw stands refl)
pieces_stand os place up m (Part hi o d k) b byte stands =
    let plain : b % 256 ≡ b = omega arith in
    let extended = extended_byte b byte in
    (rw plain stands, rw extended stands)
pieces_stand os place up m Mist b byte stands = (tt, tt)

pub halves_stand : HalvesStand
halves_stand os place up m n k (Byte a) (Byte b) w x first second = (rw (first, second) refl, rw (first, second) refl)
halves_stand os place up m n k c d w x first second = (tt, tt)

-- ---- words of four cells

same_origins : (a b : Origin) → same_origin a b ≡ true → a ≡ b
same_origins ByLui ByLui same = refl
same_origins (ByAuipc a) (ByAuipc b) same = let one = eqb-true a b same in cc
same_origins Mixed Mixed same = refl
same_origins a b same = cc

-- what the origin of four parts makes each of their origins makes
mixed_makes : (up : Uppers) → MixesParts up → (m : Origin) (o d x : ℕ) → up Mixed o d ≡ Some x → up m o d ≡ Some x
mixed_makes up mixes m o d x made = elim (mixes m o d) [ inl any ↦ cc | inr same ↦ cc ]

pub record MakesAll (up : Uppers) (o d x : ℕ) (a b c d' : Origin) : Type 0 where
  pub first : up a o d ≡ Some x
  pub second : up b o d ≡ Some x
  pub third : up c o d ≡ Some x
  pub fourth : up d' o d ≡ Some x

joined_makes : (up : Uppers) → MixesParts up → (a b c e : Origin) (o d x : ℕ) → up (joined_origin a b c e) o d ≡ Some x → MakesAll up o d x a b c e
joined_makes up mixes a b c e o d x =
    cond_both _ _ _ (λ m. up m o d ≡ Some x → MakesAll up o d x a b c e)
    (λ same. λ made.
    let parts = both (same_origin a b && same_origin a c) (same_origin a e) same in
    let others = both (same_origin a b) (same_origin a c) parts.0 in
    record {
      first = made;
      second = subst (λ m. up m o d ≡ Some x) (same_origins a b others.0) made;
      third = subst (λ m. up m o d ≡ Some x) (same_origins a c others.1) made;
      fourth = subst (λ m. up m o d ≡ Some x) (same_origins a e parts.1) made;
    })
    (λ other. λ made.
    record {
      first = mixed_makes up mixes a o d x made;
      second = mixed_makes up mixes b o d x made;
      third = mixed_makes up mixes c o d x made;
      fourth = mixed_makes up mixes e o d x made;
    })

-- a word is the one whose bytes stand in four cells
bytes_make : (v w x y z : ℕ) → v < 4294967296 → w ≡ byte_of v 0 → x ≡ byte_of v 1 → y ≡ byte_of v 2 → z ≡ byte_of v 3 → word_of w x y z ≡ v
bytes_make v w x y z word first second third fourth = omega arith

same_part : (o p d e j k : ℕ) → (o == p) && (d == e) && (j == k) ≡ true → (o ≡ p) × (d ≡ e) × (j ≡ k)
same_part o p d e j k is =
    let parts = both ((o == p) && (d == e)) (j == k) is in
    let others = both (o == p) (d == e) parts.0 in
    (eqb-true o p others.0, eqb-true d e others.1, eqb-true j k parts.1)

-- a cell that passes the test of a part stands for a byte of the word of parts
part_stands : (place : Places) (up : Uppers) (m : Origin) (hi : Bool) (o d j : ℕ) (cell : Cell) (b : ℕ) → is_part hi o d j cell ≡ true → CellStands place up m cell b → IsByte (whole place up m hi o d) j b
part_stands place up m true o d j (Part true p e k) b is stands =
    let parts = same_part o p d e j k is in
    rw (parts.0, parts.1, parts.2) stands
part_stands place up m false o d j (Part false p e k) b is stands =
    let parts = same_part o p d e j k is in
    rw (parts.0, parts.1, parts.2) stands
part_stands place up m hi o d j cell b is stands = cc

-- the upper part that four parts make
upper_joined : (up : Uppers) → AreWords up → MixesParts up → (a b c e : Origin) (o d w x y z : ℕ) → IsByte (up a o d) 0 w → IsByte (up b o d) 1 x → IsByte (up c o d) 2 y → IsByte (up e o d) 3 z → (known : Option ℕ) → up (joined_origin a b c e) o d ≡ known → Is known (word_of w x y z)
upper_joined up words mixes a b c e o d w x y z first second third fourth (Some v) made =
    let all = joined_makes up mixes a b c e o d v made in
    bytes_make v w x y z (words (joined_origin a b c e) o d v made) (rw all.first at first) (rw all.second at second)
    (rw all.third at third) (rw all.fourth at fourth)
upper_joined up words mixes a b c e o d w x y z first second third fourth None made = tt

module _ (os : Objects) (place : Places) (up : Uppers) (words : AreWords up) (mixes : MixesParts up) where
  word_joined : (hi : Bool) (a b c e : Origin) (o d w x y z : ℕ) → IsByte (whole place up a hi o d) 0 w → IsByte (whole place up b hi o d) 1 x → IsByte (whole place up c hi o d) 2 y → IsByte (whole place up e hi o d) 3 z → Stands os place up (joined_origin a b c e) (whole_word hi o d) (word_of w x y z)
  word_joined true a b c e o d w x y z first second third fourth =
      upper_joined up words mixes a b c e o d w x y z first second third fourth (up (joined_origin a b c e) o d) refl
  word_joined false a b c e o d w x y z first second third fourth =
      bytes_make (address_word place o d) w x y z (omega arith) first second third fourth

  parts_joined : (a b c e : Origin) (hi : Bool) (o d k : ℕ) (q r s : Cell) (w x y z : ℕ) → IsByte (whole place up a hi o d) k w → CellStands place up b q x → CellStands place up c r y → CellStands place up e s z → Stands os place up (joined_origin a b c e) (join (Part hi o d k) q r s) (word_of w x y z)
  parts_joined a b c e hi o d k q r s w x y z first second third fourth =
      cond_both _ _ _ (λ v. Stands os place up (joined_origin a b c e) v (word_of w x y z))
      (λ all.
      let at_3 = both ((k == 0) && is_part hi o d 1 q && is_part hi o d 2 r) (is_part hi o d 3 s) all in
      let at_2 = both ((k == 0) && is_part hi o d 1 q) (is_part hi o d 2 r) at_3.0 in
      let at_1 = both (k == 0) (is_part hi o d 1 q) at_2.0 in
      word_joined hi a b c e o d w x y z (rw (eqb-true k 0 at_1.0) at first)
      (part_stands place up b hi o d 1 q x at_1.1 second) (part_stands place up c hi o d 2 r y at_2.1 third)
      (part_stands place up e hi o d 3 s z at_3.1 fourth))
      (λ other. tt)

pub join_stands : JoinStands
join_stands os place up words mixes a b c e (Byte i) (Byte j) (Byte k) (Byte l) w x y z first_byte second_byte third_byte fourth_byte first second third fourth =
    rw (first, second, third, fourth) refl
join_stands os place up words mixes a b c e (Part hi o d k) q r s w x y z first_byte second_byte third_byte fourth_byte first second third fourth =
    parts_joined os place up words mixes a b c e hi o d k q r s w x y z first second third fourth
join_stands os place up words mixes a b c e p q r s w x y z first_byte second_byte third_byte fourth_byte first second third fourth =
    tt
