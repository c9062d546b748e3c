-- The pieces of runs by address: where they stand, and their bytes.
use Rattle.std.proofs.Common.{◌≡◌, ◌⊎◌, inl, inr, ℕ, suc, ◌+◌, ◌-◌, ◌%◌, ◌==◌, ◌<◌, ◌≤◌, ◌≢◌, nat_le, nat_lt, false, if◌then◌else◌, List, [], ◌∷◌, ◌++◌, filter, length, Option, Some, None, refl, sym, ap, ◌∙◌, arith}
use Rattle.std.proofs.lemmas.Bool.Decides.{nat_tests}
use Rattle.std.proofs.lemmas.Bool.{cond_both, cases_lt}
use Rattle.std.specs.List.{AllByRecursion, flat_map}
use Rattle.std.specs.Option.{option_or}
use Rattle.hex.specs.Hex.{IsBytes}
use Rattle.elf_reader.specs.File.{PlainSegment}
use Rattle.elf_reader.specs.Loadable.{AreLoadable}
use Rattle.hex_image.specs.Runs.{PlainRun, run_at, run_end, run_byte, byte_from, map_of, segment_run}
use Rattle.hex_image.specs.Text.{is_cut, onto_piece, pieces_from, pieces_of, insert_run, by_address, has_bytes, filled_runs}
use Rattle.hex_image.proofs.GivenLemmas.{byte_from_below, byte_from_past}
use Rattle.hex_image.proofs.RecordLemmas.{bytes_cons, bytes_none, bytes_from_all}
use Rattle.hex_image.proofs.OrderLemmas.{DoNotOverlap, Precedes, Pairwise, each_by_address}

-- ---- where the pieces stand

-- a piece of a run whose first address is `first`
pub record IsPiece (first : ℕ) (p : PlainRun) : Type 0 where
  pub filled : 0 < length p.content
  pub short : length p.content + (p.start - first) % 16 ≤ 16
  pub within : length p.content + p.start % 65536 ≤ 65536
  pub bytes : IsBytes p.content

-- pieces that follow one another from an address up to another
abbrev pub Chained : ℕ → ℕ → List PlainRun → ℕ → Type 0
Chained first address [] behind = address ≡ behind
Chained first address (p ∷ ps) behind = (p.start ≡ address) × IsPiece first p × Chained first (run_end p) ps behind

one_piece : (first address b : ℕ) → b < 256 → IsPiece first (run_at address (b ∷ []))
one_piece first address b fits = record { filled = omega arith; short = omega arith; within = omega arith; bytes = bytes_cons b [] fits bytes_none }

uncut_parts : (first address : ℕ) → is_cut first address ≡ false → ((address - first) % 16 ≢ 0) × (address % 65536 ≢ 0)
uncut_parts first address uncut = (λ zero_there. grind (arith, nat_tests), λ zero_there. grind (arith, nat_tests))

short_more : (first address size : ℕ) → first ≤ address → (address + 1 - first) % 16 ≢ 0 → size + (address + 1 - first) % 16 ≤ 16 → suc size + (address - first) % 16 ≤ 16
short_more first address size from uncut short = omega arith

within_more : (address size : ℕ) → (address + 1) % 65536 ≢ 0 → size + (address + 1) % 65536 ≤ 65536 → suc size + address % 65536 ≤ 65536
within_more address size uncut within = omega arith

longer_piece : (first address b : ℕ) (p : PlainRun) → first ≤ address → b < 256 → is_cut first (address + 1) ≡ false → p.start ≡ address + 1 → IsPiece first p → IsPiece first (run_at address (b ∷ p.content))
longer_piece first address b p from fits uncut starts piece =
    let parts = uncut_parts first (address + 1) uncut in
    record {
      filled = omega arith;
      short = short_more first address (length p.content) from parts.0 (rw starts at piece.short);
      within = within_more address (length p.content) parts.1 (rw starts at piece.within);
      bytes = bytes_cons b p.content fits piece.bytes;
    }

onto_chained : (first address b : ℕ) (ps : List PlainRun) (behind : ℕ) → first ≤ address → b < 256 → is_cut first (address + 1) ≡ false → Chained first (address + 1) ps behind → Chained first address (onto_piece address b ps) behind
onto_chained first address b [] behind from fits uncut chained = (refl, one_piece first address b fits, chained)
onto_chained first address b (p ∷ ps) behind from fits uncut chained =
    let ends : run_end p ≡ address + suc (length p.content) = (let starts = chained.0 in omega arith) in
    (refl, longer_piece first address b p from fits uncut chained.0 chained.1, rw ends at chained.2)

pieces_chained : (first address : ℕ) (bytes : List ℕ) → first ≤ address → IsBytes bytes → Chained first address (pieces_from first address bytes) (address + length bytes)
pieces_chained first address [] from fits = omega arith
pieces_chained first address (b ∷ bs) from fits =
    let behind : address + 1 + length bs ≡ address + suc (length bs) = omega arith in
    let after = pieces_chained first (address + 1) bs (omega arith) (λ i. fits (suc i)) in
    let rest = rw behind at after in
    cond_both (is_cut first (address + 1)) (run_at address (b ∷ []) ∷ pieces_from first (address + 1) bs) (onto_piece address b (pieces_from first (address + 1) bs)) (λ ps. Chained first address ps (address + suc (length bs)))
    (λ cut. (refl, one_piece first address b (fits 0), rest))
    (λ uncut. onto_chained first address b (pieces_from first (address + 1) bs) (address + suc (length bs)) from (fits 0) uncut rest)

-- ---- their bytes

onto_map : (first address b : ℕ) (ps : List PlainRun) (behind place : ℕ) → Chained first (address + 1) ps behind → map_of (onto_piece address b ps) place ≡ (if place == address then Some b else map_of ps place)
onto_map first address b [] behind place chained = cond_both (place == address) (Some b) None (λ found. option_or found None ≡ found) (λ test. refl) (λ test. refl)
onto_map first address b (p ∷ ps) behind place chained =
    rw (← chained.0) (cond_both (place == address) (Some b) (byte_from p.start p.content place)
    (λ found. option_or found (map_of ps place) ≡ (if place == address then Some b else option_or (byte_from p.start p.content place) (map_of ps place)))
    (λ test. rw test refl) (λ test. rw test refl))

pieces_map : (first address : ℕ) (bytes : List ℕ) (place : ℕ) → first ≤ address → IsBytes bytes → map_of (pieces_from first address bytes) place ≡ byte_from address bytes place
pieces_map first address [] place from fits = refl
pieces_map first address (b ∷ bs) place from fits =
    let ps = pieces_from first (address + 1) bs in
    let rest = pieces_map first (address + 1) bs place (omega arith) (λ i. fits (suc i)) in
    let chained = pieces_chained first (address + 1) bs (omega arith) (λ i. fits (suc i)) in
    cond_both (is_cut first (address + 1)) (run_at address (b ∷ []) ∷ ps) (onto_piece address b ps) (λ qs. map_of qs place ≡ (if place == address then Some b else byte_from (address + 1) bs place))
    (λ cut. cond_both (place == address) (Some b) None (λ found. option_or found (map_of ps place) ≡ (if place == address then Some b else byte_from (address + 1) bs place))
    (λ test. rw test refl) (λ test. rw test rest))
    (λ uncut. onto_map first address b ps (address + 1 + length bs) place chained ∙ ap (λ found. if place == address then Some b else found) rest)

-- ---- runs by address

abbrev pub IsGood : PlainRun → Type 0
IsGood run = IsBytes run.content × (run_end run < 4294967296)

-- runs that begin at an address or behind it, one behind the other
abbrev pub Ascending : ℕ → List PlainRun → Type 0
Ascending least [] = Unit {0}
Ascending least (run ∷ runs) = (least ≤ run.start) × Ascending (run_end run) runs

ascending_from : (least : ℕ) (run : PlainRun) (runs : List PlainRun) → least ≤ run.start → Pairwise Precedes (run ∷ runs) → Ascending least (run ∷ runs)
ascending_from least run [] le ordered = (le, tt)
ascending_from least run (next ∷ runs) le ordered = (le, ascending_from (run_end run) next runs ordered.0.0 ordered.1)

pub ascending : (runs : List PlainRun) → Pairwise Precedes runs → Ascending 0 runs
ascending [] ordered = tt
ascending (run ∷ runs) ordered = ascending_from 0 run runs (omega arith) ordered

-- pieces by address, each with room in its upper half
pub record IsData (p : PlainRun) : Type 0 where
  pub size : length p.content < 256
  pub within : p.start % 65536 + length p.content ≤ 65536
  pub placed : run_end p < 4294967296
  pub bytes : IsBytes p.content

abbrev pub AreData : ℕ → List PlainRun → Type 0
AreData least [] = Unit {0}
AreData least (p ∷ ps) = (least ≤ p.start) × IsData p × AreData (run_end p) ps

chained_end : (first address : ℕ) (ps : List PlainRun) (behind : ℕ) → Chained first address ps behind → address ≤ behind
chained_end first address [] behind chained = omega (arith, chained)
chained_end first address (p ∷ ps) behind chained =
    let rest = chained_end first (run_end p) ps behind chained.2 in
    let starts = chained.0 in
    omega arith

data_from : (least more : ℕ) (ps : List PlainRun) → least ≤ more → AreData more ps → AreData least ps
data_from least more [] le is_data = tt
data_from least more (p ∷ ps) le is_data = let here = is_data.0 in (omega arith, is_data.1, is_data.2)

data_chained : (first address least : ℕ) (ps qs : List PlainRun) (behind : ℕ) → least ≤ address → Chained first address ps behind → behind < 4294967296 → AreData behind qs → AreData least (ps ++ qs)
data_chained first address least [] qs behind le chained below more = data_from least behind qs (omega (arith, chained)) more
data_chained first address least (p ∷ ps) qs behind le chained below more =
    let starts = chained.0 in
    let piece = chained.1 in
    let last = chained_end first (run_end p) ps behind chained.2 in
    let short = piece.short in
    let within = piece.within in
    (omega arith, record { size = omega arith; within = omega arith; placed = omega arith; bytes = piece.bytes }, data_chained first (run_end p) (run_end p) ps qs behind (omega arith) chained.2 below more)

pub runs_data : (least : ℕ) (runs : List PlainRun) → AllByRecursion IsGood runs → Ascending least runs → AreData least (flat_map pieces_of runs)
unfolding pieces_of
runs_data least [] good up = tt
runs_data least (run ∷ runs) good up =
    data_chained run.start run.start least (pieces_from run.start run.start run.content) (flat_map pieces_of runs) (run_end run) up.0
    (pieces_chained run.start run.start run.content (omega arith) good.0.0) good.0.1 (runs_data (run_end run) runs good.1 up.1)

pub option_or-assoc : (a b c : Option ℕ) → option_or (option_or a b) c ≡ option_or a (option_or b c)
option_or-assoc None b c = refl
option_or-assoc (Some x) b c = refl

map_append : (xs ys : List PlainRun) (place : ℕ) → map_of (xs ++ ys) place ≡ option_or (map_of xs place) (map_of ys place)
map_append [] ys place = refl
map_append (x ∷ xs) ys place = rw (map_append xs ys place) (sym (option_or-assoc (run_byte x place) (map_of xs place) (map_of ys place)))

pub runs_map : (runs : List PlainRun) (place : ℕ) → AllByRecursion IsGood runs → map_of (flat_map pieces_of runs) place ≡ map_of runs place
unfolding pieces_of
runs_map [] place good = refl
runs_map (run ∷ runs) place good =
    map_append (pieces_from run.start run.start run.content) (flat_map pieces_of runs) place
    ∙ rw (pieces_map run.start run.start run.content place (omega arith) good.0.0, runs_map runs place good.1) refl

-- ---- the order doesn't matter

either_none : (one other : PlainRun) (place : ℕ) → DoNotOverlap one other → (run_byte one place ≡ None) ⊎ (run_byte other place ≡ None)
either_none one other place (inl before) =
    elim (cases_lt place other.start) [ inl below ↦ inr (byte_from_below other.start other.content place below) | inr from ↦ inl (byte_from_past one.start one.content place (omega arith)) ]
either_none one other place (inr behind) =
    elim (cases_lt place one.start) [ inl below ↦ inl (byte_from_below one.start one.content place below) | inr from ↦ inr (byte_from_past other.start other.content place (omega arith)) ]

swapped : (a b c : Option ℕ) → (a ≡ None) ⊎ (b ≡ None) → option_or b (option_or a c) ≡ option_or a (option_or b c)
swapped a b c (inl none) = rw none refl
swapped a b c (inr none) = rw none refl

insert_map : (run : PlainRun) (runs : List PlainRun) (place : ℕ) → AllByRecursion (DoNotOverlap run) runs → map_of (insert_run run runs) place ≡ option_or (run_byte run place) (map_of runs place)
insert_map run [] place no_overlap = refl
insert_map run (o ∷ os) place no_overlap =
    cond_both (nat_le run.start o.start) (run ∷ o ∷ os) (o ∷ insert_run run os) (λ runs. map_of runs place ≡ option_or (run_byte run place) (option_or (run_byte o place) (map_of os place)))
    (λ lower. refl)
    (λ higher. rw (insert_map run os place no_overlap.1) (swapped (run_byte run place) (run_byte o place) (map_of os place) (either_none run o place no_overlap.0)))

pub by_address_map : (runs : List PlainRun) (place : ℕ) → Pairwise DoNotOverlap runs → map_of (by_address runs) place ≡ map_of runs place
by_address_map [] place no_overlap = refl
by_address_map (run ∷ runs) place no_overlap =
    insert_map run (by_address runs) place (each_by_address (DoNotOverlap run) runs no_overlap.0) ∙ ap (option_or (run_byte run place)) (by_address_map runs place no_overlap.1)

no_byte : (first : ℕ) (bytes : List ℕ) (place : ℕ) → nat_lt 0 (length bytes) ≡ false → byte_from first bytes place ≡ None
no_byte first [] place empty = refl
no_byte first (b ∷ bs) place empty = absurd (grind (arith, nat_tests))

empty_byte : (run : PlainRun) (place : ℕ) → has_bytes run ≡ false → run_byte run place ≡ None
empty_byte run place empty = no_byte run.start run.content place empty

pub filled_map : (runs : List PlainRun) (place : ℕ) → map_of (filter has_bytes runs) place ≡ map_of runs place
filled_map [] place = refl
filled_map (run ∷ runs) place =
    cond_both (has_bytes run) (run ∷ filter has_bytes runs) (filter has_bytes runs) (λ kept. map_of kept place ≡ option_or (run_byte run place) (map_of runs place))
    (λ filled. ap (option_or (run_byte run place)) (filled_map runs place))
    (λ empty. rw (empty_byte run place empty) (filled_map runs place))

pub filled_good : (segments : List PlainSegment) → AreLoadable segments → AllByRecursion IsGood (filled_runs segments)
filled_good [] all = tt
filled_good (s ∷ ss) all =
    let here = all 0 s (omega arith) in
    let fits = here.fits in
    let ends = here.ends in
    let rest = filled_good ss (λ k d below. all (suc k) d (omega arith)) in
    cond_both (has_bytes (segment_run s)) (segment_run s ∷ filled_runs ss) (filled_runs ss) (AllByRecursion IsGood)
    (λ filled. ((bytes_from_all s.content here.bytes, omega arith), rest))
    (λ empty. rest)
