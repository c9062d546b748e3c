-- Places of a file that no change touches.
use Rattle.std.proofs.Common.{◌≡◌, ◌∙◌, ℕ, suc, ◌+◌, ◌<◌, ◌≤◌, false, List, [], ◌∷◌, map, length, get_or, refl, ap, subst, arith}
use Rattle.std.specs.List.{All}
use Rattle.std.proofs.lemmas.Bool.Decides.{nat_tests}
use Rattle.std.proofs.lemmas.List.Elements.{All-nil, All-head, All-tail, All-append, All-map, All-push}
use Rattle.list_checks.specs.Tests.{ranges_overlap}
use Rattle.elf_writer.specs.Pieces.{half_bytes, word_bytes}
use Rattle.elf_reader.specs.File.{PlainSymbol, PlainView}
use Rattle.elf_writer.specs.declared.parts.Patch.{Patch}
use Rattle.elf_writer.specs.declared.parts.SymbolMove.{SymbolMove}
use Rattle.elf_writer.specs.Changes.{Change, within, changes_place, IsUntouched, byte_after, byte_changed, changed}
use Rattle.elf_writer.specs.Parts.{NewSegment, patch_change, nth_symbol, moves_changes, table_place, header_changes}

pub free_stays : (cs : List Change) (q old : ℕ) → IsUntouched cs q → byte_changed cs q old ≡ old
free_stays [] q old free = refl
free_stays (c ∷ cs) q old free =
    let here : changes_place c q ≡ false = All-head (λ c. changes_place c q ≡ false) c cs free in
    let first : byte_after c q old ≡ old = rw here refl in
    ap (byte_changed cs q) first ∙ free_stays cs q old (All-tail (λ c. changes_place c q ≡ false) c cs free)

-- bytes at free places stay
pub free_range : (cs : List Change) (start : ℕ) (bytes : List ℕ) → ((i : ℕ) → i < length bytes → IsUntouched cs (start + i)) → changed cs start bytes ≡ bytes
free_range cs start [] free = refl
free_range cs start (byte ∷ bytes) free =
    let none : start + 0 ≡ start = omega arith in
    let first = free_stays cs start byte (subst (λ (q : ℕ). IsUntouched cs q) none (free 0 (omega arith))) in
    let rest = free_range cs (start + 1) bytes (λ i below. let same : start + suc i ≡ start + 1 + i = omega arith in subst (λ (q : ℕ). IsUntouched cs q) same (free (suc i) (omega (arith, below)))) in
    λ i. first i ∷ rest i

-- ---- of each kind of change

pub patches_free : (ps : List Patch) (q : ℕ) → All (λ p. within p.offset 4 q ≡ false) ps → IsUntouched (map patch_change ps) q
patches_free ps q off = All-map (λ c. changes_place c q ≡ false) patch_change ps off

-- the place isn't in the record of the symbol
abbrev pub IsOffRecord : List PlainSymbol → ℕ → SymbolMove → Type 0
IsOffRecord symbols q m = within (nth_symbol symbols m.symbol).at 16 q ≡ false

all_one : {X : Type 0} (P : X → Type 0) (x : X) → P x → All P (x ∷ [])
all_one P x is = All-push P [] x (All-nil P) is

all_cons : {X : Type 0} (P : X → Type 0) (x : X) (xs : List X) → P x → All P xs → All P (x ∷ xs)
all_cons P x xs is all = All-append P (x ∷ []) xs (all_one P x is) all

off_value : (at q : ℕ) → within at 16 q ≡ false → within (at + 4) 4 q ≡ false
off_value at q off = grind (arith, nat_tests, off)

off_number : (at q : ℕ) → within at 16 q ≡ false → within (at + 14) 2 q ≡ false
off_number at q off = grind (arith, nat_tests, off)

-- no change of a move touches the place
pub record IsOffChanges (at q : ℕ) : Type 0 where
  pub value : within (at + 4) 4 q ≡ false
  pub number : within (at + 14) 2 q ≡ false

pub moves_off : (symbols : List PlainSymbol) (ms : List SymbolMove) (q : ℕ) → All (λ m. IsOffChanges (nth_symbol symbols m.symbol).at q) ms → IsUntouched (moves_changes symbols ms) q
moves_off symbols [] q off = All-nil (λ c. changes_place c q ≡ false)
moves_off symbols (m ∷ ms) q off =
    let at = (nth_symbol symbols m.symbol).at in
    let here = All-head (λ m. IsOffChanges (nth_symbol symbols m.symbol).at q) m ms off in
    let later = moves_off symbols ms q (All-tail (λ m. IsOffChanges (nth_symbol symbols m.symbol).at q) m ms off) in
    let IsOff : Change → Type 0 = λ c. changes_place c q ≡ false in
    let value : Change = record { place = at + 4; content = word_bytes m.value } in
    let number : Change = record { place = at + 14; content = half_bytes 65521 } in
    let rest = moves_changes symbols ms in
    all_cons IsOff value (number ∷ rest) here.value (all_cons IsOff number rest here.number later)

pub moves_free : (symbols : List PlainSymbol) (ms : List SymbolMove) (q : ℕ) → All (IsOffRecord symbols q) ms → IsUntouched (moves_changes symbols ms) q
moves_free symbols ms q off =
    moves_off symbols ms q
    (λ i d below.
    let at = (nth_symbol symbols (get_or ms i d).symbol).at in
    record { value = off_value at q (off i d below); number = off_number at q (off i d below) })

-- the ELF header's changes are in its 52 bytes
header_off : (at n q : ℕ) → at + n ≤ 52 → 52 ≤ q → within at n q ≡ false
header_off at n q inside behind = grind (arith, nat_tests, inside, behind)

pub header_free : (v : PlainView) (s : NewSegment) (q : ℕ) → 52 ≤ q → IsUntouched (header_changes v s) q
header_free v s q behind =
    let IsOff : Change → Type 0 = λ c. changes_place c q ≡ false in
    let entry : Change = record { place = 24; content = word_bytes s.entry } in
    let table : Change = record { place = 28; content = word_bytes (table_place v) } in
    let count : Change = record { place = 44; content = half_bytes (v.ph_count + 1) } in
    all_cons IsOff entry (table ∷ count ∷ []) (header_off 24 4 q (omega arith) behind)
    (all_cons IsOff table (count ∷ []) (header_off 28 4 q (omega arith) behind) (all_one IsOff count (header_off 44 2 q (omega arith) behind)))

-- ---- ranges

-- a place of one of two ranges that don't meet is in no part of the other
pub disjoint_places : (b m c n q at k : ℕ) → ranges_overlap b m c n ≡ false → c ≤ q → q < c + n → b ≤ at → at + k ≤ b + m → within at k q ≡ false
disjoint_places b m c n q at k disjoint from to starts ends = grind (arith, nat_tests, disjoint, from, to, starts, ends)

-- a place of a range that doesn't meet the first 52 is behind them
pub behind_header : (c n q : ℕ) → ranges_overlap c n 0 52 ≡ false → c ≤ q → q < c + n → 52 ≤ q
behind_header c n q disjoint from to = grind (arith, nat_tests, disjoint, from, to)
