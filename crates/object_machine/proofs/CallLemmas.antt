-- Bytes that calls move.
use Rattle.std.proofs.Common.{◌≡◌, ◌⊎◌, inl, inr, ℕ, zero, suc, ◌+◌, ◌<◌, ◌≤◌, ◌==◌, nat_lt, Bool, true, false, if◌then◌else◌, List, [], ◌∷◌, ◌++◌, take, drop, length, length-take, length-drop, Option, Some, None, refl, ◌∙◌, ap, sym, subst, arith}
use Rattle.std.proofs.lemmas.Bool.{cases_eq}
use Rattle.std.specs.List.{All, list_any}
use Rattle.std.proofs.lemmas.Bool.Decides.{nat_tests}
use Rattle.std.proofs.lemmas.List.{length-map}
use Rattle.std.proofs.lemmas.List.Elements.{All-nil, All-cons}
use Rattle.list_checks.proofs.TestLemmas.{both}
use Rattle.board_config.specs.declared.board.Range.{Range}
use Rattle.object_graph.specs.declared.parts.Graph.{Graph}
use Rattle.object_graph.specs.Sites.{in_range}
use Rattle.cell_values.specs.Cells.{IsCellOfGraph, put_at, put_cells}
use Rattle.cell_values.specs.declared.values.Val.{Val}
use Rattle.cell_values.specs.declared.values.Val.TheVariants.{Int, Addr, Hi, Low, Piece, Unknown}
use Rattle.cell_values.specs.declared.values.Cell.{Cell}
use Rattle.cell_values.specs.declared.values.Cell.TheVariants.{Byte, Part, Mist}
use Rattle.object_machine.specs.declared.spots.Spot.TheVariants.{Fixed, Object}
use Rattle.object_machine.specs.declared.tables.Tables.{Tables}
use Rattle.object_machine.specs.declared.units.Prepared.{Prepared}
use Rattle.object_machine.specs.Layout.{is_in_some}
use Rattle.object_machine.specs.Spots.{Spans}
use Rattle.object_machine.specs.Program.{Program}
use Rattle.object_machine.specs.State.{SourceState}
use Rattle.object_machine.specs.Memory.{cell_at, stored_at}
use Rattle.object_machine.specs.Places.{Where, InFixed, InObject, Nowhere, byte_fault, in_fixed, byte_place, write_fault}
use Rattle.object_machine.specs.Calls.{a1, and_byte, plain_bytes, put_input}
use Rattle.object_machine.specs.Machine.{plain_of, byte_cells, stored_from, HasRoom, seen_program}
use Rattle.object_machine.proofs.PlaceLemmas.{byte_is_fixed}
use Rattle.object_machine.proofs.StoreLemmas.{same_number}

-- ---- plain bytes

and_none : (bytes : List ℕ) (c : Cell) → plain_of c ≡ None → and_byte (Some bytes) c ≡ None
and_none bytes (Byte b) none = cc
and_none bytes (Part hi o d k) none = refl
and_none bytes Mist none = refl

none_stays : (p : Program) (s : SourceState) (n i : ℕ) → i < n → plain_bytes p s (suc i) ≡ None → plain_bytes p s n ≡ None
none_stays p s zero i below none = absurd (omega (arith, below))
none_stays p s (suc n) i below none =
    let place : (i ≡ n) ⊎ (i < n) = grind (arith, below) in
    elim place [
      | inl here ↦ subst (λ (k : ℕ). plain_bytes p s (suc k) ≡ None) here none
      | inr earlier ↦ ap (λ (o : Option (List ℕ)). and_byte o (cell_at s (byte_place p (a1 s) n) 0)) (none_stays p s n i earlier none)
    ]

pub plain_none : (p : Program) (s : SourceState) (n i : ℕ) (bytes : List ℕ) → i < n → plain_bytes p s i ≡ Some bytes → plain_of (cell_at s (byte_place p (a1 s) i) 0) ≡ None → plain_bytes p s n ≡ None
plain_none p s n i bytes below so_far none =
    none_stays p s n i below
    (ap (λ (o : Option (List ℕ)). and_byte o (cell_at s (byte_place p (a1 s) i) 0)) so_far
    ∙ and_none bytes (cell_at s (byte_place p (a1 s) i) 0) none)

and_some : (bytes : List ℕ) (c : Cell) (b : ℕ) → plain_of c ≡ Some b → and_byte (Some bytes) c ≡ Some (bytes ++ b ∷ [])
and_some bytes (Byte d) b some = cc
and_some bytes (Part hi o d k) b some = cc
and_some bytes Mist b some = cc

pub plain_some : (p : Program) (s : SourceState) (i b : ℕ) (bytes more : List ℕ) → plain_bytes p s i ≡ Some bytes → plain_of (cell_at s (byte_place p (a1 s) i) 0) ≡ Some b → more ≡ bytes ++ b ∷ [] → plain_bytes p s (i + 1) ≡ Some more
plain_some p s i b bytes more so_far some is =
    let next : i + 1 ≡ suc i = omega arith in
    ap (plain_bytes p s) next
    ∙ ap (λ (o : Option (List ℕ)). and_byte o (cell_at s (byte_place p (a1 s) i) 0)) so_far
    ∙ and_some bytes (cell_at s (byte_place p (a1 s) i) 0) b some
    ∙ ap (λ (xs : List ℕ). Some xs) (sym is)

-- ---- bytes of the input

no_fault : (p : Program) (a : ℕ) (why : Option ℕ) → write_fault p (in_fixed a why) ≡ None → why ≡ None
no_fault p a None none = refl
no_fault p a (Some why) none = cc

pub fixed_room : (p : Program) (a i : ℕ) → write_fault p (byte_place p (Int a) i) ≡ None → byte_fault p (a + i) ≡ None
fixed_room p a i none = no_fault p (a + i) (byte_fault p (a + i)) none

fixed_place : (p : Program) (a i : ℕ) → write_fault p (byte_place p (Int a) i) ≡ None → byte_place p (Int a) i ≡ InFixed (a + i)
fixed_place p a i none = ap (in_fixed (a + i)) (fixed_room p a i none)

inside_or : (p : Program) (inside : Bool) (o d : ℕ) → write_fault p (if inside then InObject o d else Nowhere 1) ≡ None → inside ≡ true
inside_or p true o d none = refl
inside_or p false o d none = cc

pub object_room : (p : Program) (o d i : ℕ) → write_fault p (byte_place p (Addr o d) i) ≡ None → nat_lt (d + i) (p.objects.size o) ≡ true
object_room p o d i none = inside_or p (nat_lt (d + i) (p.objects.size o)) o (d + i) none

object_place : (p : Program) (o d i : ℕ) → write_fault p (byte_place p (Addr o d) i) ≡ None → byte_place p (Addr o d) i ≡ InObject o (d + i)
object_place p o d i none = rw (object_room p o d i none)

-- the rest of what has room
rest_room : (p : Program) (x : Val) (i b : ℕ) (bytes : List ℕ) → ((j : ℕ) → j < length (b ∷ bytes) → write_fault p (byte_place p x (i + j)) ≡ None) → (j : ℕ) → j < length bytes → write_fault p (byte_place p x ((i + 1) + j)) ≡ None
rest_room p x i b bytes room j below =
    let e : i + suc j ≡ (i + 1) + j = omega arith in
    subst (λ (k : ℕ). write_fault p (byte_place p x k) ≡ None) e (room (suc j) (omega (arith, below)))

first_room : (p : Program) (x : Val) (i b : ℕ) (bytes : List ℕ) → ((j : ℕ) → j < length (b ∷ bytes) → write_fault p (byte_place p x (i + j)) ≡ None) → write_fault p (byte_place p x i) ≡ None
first_room p x i b bytes room =
    let e : i + 0 ≡ i = omega arith in
    subst (λ (k : ℕ). write_fault p (byte_place p x k) ≡ None) e (room 0 (omega arith))

fixed_input : (p : Program) (s : SourceState) (a i : ℕ) (bytes : List ℕ) → ((j : ℕ) → j < length bytes → write_fault p (byte_place p (Int a) (i + j)) ≡ None) → put_input p s (Int a) i bytes ≡ stored_at s (InFixed (a + i)) (byte_cells bytes)
fixed_input p s a i [] room = refl
fixed_input p s a i (b ∷ bytes) room =
    let here = fixed_place p a i (first_room p (Int a) i b bytes room) in
    let one : SourceState = stored_at s (InFixed (a + i)) (Byte b ∷ []) in
    let e : a + (i + 1) ≡ (a + i) + 1 = omega arith in
    ap (λ (w : Where). put_input p (stored_at s w (Byte b ∷ [])) (Int a) (i + 1) bytes) here
    ∙ (fixed_input p one a (i + 1) bytes (rest_room p (Int a) i b bytes room)
    ∙ ap (λ (k : ℕ). stored_at one (InFixed k) (byte_cells bytes)) e)

put_same : (t : ℕ → ℕ → Cell) (o q : ℕ) → t q ≡ put_at t o (t o) q
unfolding put_at
put_same t o q =
    elim (cases_eq q o) [
      | inl same ↦ rw same (rw (same_number o))
      | inr other ↦ let differs : (q == o) ≡ false = grind (arith, nat_tests, other) in rw differs
    ]

put_read : (t : ℕ → ℕ → Cell) (o : ℕ) (f : ℕ → Cell) → put_at t o f o ≡ f
unfolding put_at
put_read t o f = rw (same_number o)

put_twice : (t : ℕ → ℕ → Cell) (o : ℕ) (f g : ℕ → Cell) (q : ℕ) → put_at (put_at t o f) o g q ≡ put_at t o g q
unfolding put_at
put_twice t o f g q =
    elim (cases_eq q o) [
      | inl same ↦ rw same (rw (same_number o))
      | inr other ↦ let differs : (q == o) ≡ false = grind (arith, nat_tests, other) in rw differs
    ]

object_input : (p : Program) (s : SourceState) (o d i : ℕ) (bytes : List ℕ) → ((j : ℕ) → j < length bytes → write_fault p (byte_place p (Addr o d) (i + j)) ≡ None) → put_input p s (Addr o d) i bytes ≡ stored_at s (InObject o (d + i)) (byte_cells bytes)
object_input p s o d i [] room = λ z. record s { cells = λ q. put_same s.cells o q z }
object_input p s o d i (b ∷ bytes) room =
    let here = object_place p o d i (first_room p (Addr o d) i b bytes room) in
    let f : ℕ → Cell = put_at (s.cells o) (d + i) (Byte b) in
    let one : SourceState = stored_at s (InObject o (d + i)) (Byte b ∷ []) in
    let e : d + (i + 1) ≡ (d + i) + 1 = omega arith in
    let g : (ℕ → Cell) → ℕ → Cell = λ h. put_cells h ((d + i) + 1) (byte_cells bytes) in
    ap (λ (w : Where). put_input p (stored_at s w (Byte b ∷ [])) (Addr o d) (i + 1) bytes) here
    ∙ (object_input p one o d (i + 1) bytes (rest_room p (Addr o d) i b bytes room)
    ∙ (ap (λ (k : ℕ). stored_at one (InObject o k) (byte_cells bytes)) e
    ∙ (ap (λ (h : ℕ → Cell). record s { cells = put_at (put_at s.cells o f) o (g h) }) (put_read s.cells o f)
    ∙ (λ z. record s { cells = λ q. put_twice s.cells o f (g f) q z }))))

nowhere : (p : Program) (x : Val) (why : ℕ) (n : ℕ) → 0 < n → HasRoom p x n → byte_place p x 0 ≡ Nowhere why → ⊥
nowhere p x why n some room is =
    let wrong : write_fault p (Nowhere why) ≡ None = subst (λ (w : Where). write_fault p w ≡ None) is (room 0 some) in cc

from_zero : (p : Program) (x : Val) (n : ℕ) → HasRoom p x n → (j : ℕ) → j < n → write_fault p (byte_place p x (0 + j)) ≡ None
from_zero p x n room j below =
    let e : j ≡ 0 + j = omega arith in subst (λ (k : ℕ). write_fault p (byte_place p x k) ≡ None) e (room j below)

-- bytes of a call are one piece
pub input_stored : (p : Program) (s : SourceState) (x : Val) (bytes : List ℕ) → 0 < length bytes → HasRoom p x (length bytes) → put_input p s x 0 bytes ≡ stored_from s x (byte_cells bytes)
input_stored p s (Int a) bytes some room =
    let e : a + 0 ≡ a = omega arith in
    fixed_input p s a 0 bytes (from_zero p (Int a) (length bytes) room) ∙ ap (λ (k : ℕ). stored_at s (InFixed k) (byte_cells bytes)) e
input_stored p s (Addr o d) bytes some room =
    let e : d + 0 ≡ d = omega arith in
    object_input p s o d 0 bytes (from_zero p (Addr o d) (length bytes) room) ∙ ap (λ (k : ℕ). stored_at s (InObject o k) (byte_cells bytes)) e
input_stored p s (Hi o d) bytes some room = absurd (nowhere p (Hi o d) 5 (length bytes) some room refl)
input_stored p s (Low k) bytes some room = absurd (nowhere p (Low k) 5 (length bytes) some room refl)
input_stored p s (Piece hi o d k) bytes some room = absurd (nowhere p (Piece hi o d k) 5 (length bytes) some room refl)
input_stored p s Unknown bytes some room = absurd (nowhere p Unknown 5 (length bytes) some room refl)

-- ---- places with room

short_of : (ranges : List Range) (a : ℕ) → is_in_some ranges a ≡ true → a < 4294967296
short_of ranges a inside =
    let less = (both (nat_lt a 4294967296) (list_any (λ r. in_range r a) ranges) inside).0 in grind (arith, nat_tests, less)

pub spans_fixed : (t : Tables) (u : Prepared) (a n : ℕ) → HasRoom (seen_program t u) (Int a) n → Spans t n (Fixed a)
spans_fixed t u a n room i below =
    let p = seen_program t u in
    let fixed : is_in_some t.fixed.items (a + i) ≡ true = byte_is_fixed p (a + i) (fixed_room p a i (room i below)) in
    (short_of t.fixed.items (a + i) fixed, fixed)

pub spans_inside : (t : Tables) (u : Prepared) (o d n : ℕ) → o < length t.graph.objects.items → HasRoom (seen_program t u) (Addr o d) n → Spans t n (Object o d)
spans_inside t u o d n named room i below =
    let less = object_room (seen_program t u) o d i (room i below) in (named, grind (arith, nat_tests, less))

-- ---- bytes of the input as cells

pub input_length : (xs : List ℕ) (consumed n : ℕ) → consumed + n ≤ length xs → length (byte_cells (take n (drop consumed xs))) ≡ n
input_length xs consumed n left = simp (length-map, length-take, length-drop) (omega (arith, left))

pub bytes_length : (xs : List ℕ) (consumed n : ℕ) → consumed + n ≤ length xs → length (take n (drop consumed xs)) ≡ n
bytes_length xs consumed n left = simp (length-take, length-drop) (omega (arith, left))

pub bytes_of_graph : (g : Graph) (bytes : List ℕ) → All (IsCellOfGraph g) (byte_cells bytes)
bytes_of_graph g [] = All-nil (IsCellOfGraph g)
bytes_of_graph g (b ∷ bytes) = All-cons (IsCellOfGraph g) (Byte b) (byte_cells bytes) tt (bytes_of_graph g bytes)
