-- The text of a file has no fault, and spells its bytes and its entry.
use Rattle.std.proofs.Common.{◌≡◌, ℕ, zero, suc, ◌+◌, ◌*◌, ◌/◌, ◌%◌, ◌==◌, ◌<◌, ◌≤◌, nat_le, true, false, List, [], ◌∷◌, ◌++◌, map, length, Option, Some, None, refl, sym, ap, ◌∙◌, arith}
use Rattle.std.proofs.lemmas.Bool.Decides.{nat_tests}
use Rattle.std.proofs.lemmas.Bool.{cond_both}
use Rattle.std.proofs.lemmas.List.{append_assoc, map-append}
use Rattle.std.proofs.lemmas.List.Splits.{length-slice_split}
use Rattle.std.specs.List.{AllByRecursion, count_by, flat_map}
use Rattle.std.specs.Option.{option_or}
use Rattle.rv32im.specs.Words.{byte_of, half_of, word_of}
use Rattle.elf_reader.specs.File.{PlainSegment}
use Rattle.elf_reader.specs.Loadable.{AreLoadable, AreDisjoint}
use Rattle.hex_image.specs.Runs.{PlainRun, ByteMap, run_end, run_byte, byte_from, map_of, segment_run, file_map}
use Rattle.hex_image.specs.Records.{PlainRecord, bytes_in, line_of}
use Rattle.hex_image.specs.Text.{data_record, end_record, upper_record, entry_record, upper_half, upper_records, piece_records, tail_records, pieces_of, filled_runs, runs_by_address, hex_records, hex_text}
use Rattle.hex_image.specs.Reading.{Spells, Contents, nothing_read, hex_fault, hex_contents, lines_of, next_line, after_record, after_line, contents_from, record_fault, any_given, line_fault, is_end, fault_from}
use Rattle.hex_image.proofs.RecordLemmas.{Fits, body_of, bytes_cons, bytes_none, read_bytes, read_record, read_sum, record_lines}
use Rattle.hex_image.proofs.ChainLemmas.{IsData, AreData, IsGood, option_or-assoc, ascending, runs_data, runs_map, by_address_map, filled_map, filled_good}
use Rattle.hex_image.proofs.OrderLemmas.{filled_disjoint, filled_filled, by_address_ordered, each_by_address}
use Rattle.hex_image.proofs.LineLemmas.{fault_before, contents_behind}
use Rattle.hex_image.proofs.GivenLemmas.{byte_from_past}
use Rattle.hex_image.proofs.RunLemmas.{option_or-None}

-- ---- one record

line_sound : (line : ℕ) (c : Contents) (r : PlainRecord) → Fits r → record_fault line c r ≡ None → line_fault line c (bytes_in (body_of r)) ≡ None
unfolding line_fault
line_sound line c r fits none = rw (read_bytes r fits, read_record r fits, read_sum r) none

line_after : (c : Contents) (r : PlainRecord) → Fits r → after_line c (bytes_in (body_of r)) ≡ after_record c r
unfolding after_line
line_after c r fits = rw (read_bytes r fits, read_record r fits) refl

line_end : (r : PlainRecord) → Fits r → is_end (bytes_in (body_of r)) ≡ (r.kind == 1)
unfolding is_end
line_end r fits = rw (read_bytes r fits, read_record r fits) refl

-- ---- several records

-- records that have no fault and end nothing, read from some contents to others
abbrev pub Reads : Contents → List PlainRecord → Contents → Type 0
Reads c [] d = c ≡ d
Reads c (r ∷ rs) d = Fits r × ((r.kind == 1) ≡ false) × ((line : ℕ) → record_fault line c r ≡ None) × Reads (after_record c r) rs d

reads_append : (c d e : Contents) (rs ss : List PlainRecord) → Reads c rs d → Reads d ss e → Reads c (rs ++ ss) e
reads_append c d e [] ss are more = rw are more
reads_append c d e (r ∷ rs) ss reads more = (reads.0, reads.1, reads.2, reads_append (after_record c r) d e rs ss reads.3 more)

some_lines : (rs : List PlainRecord) (rest : List (List ℕ)) → 0 < length rest → 0 < length (map body_of rs ++ rest)
some_lines [] rest some = some
some_lines (r ∷ rs) rest some = omega arith

reads_fault : (line : ℕ) (c d : Contents) (rs : List PlainRecord) (rest : List (List ℕ)) → 0 < length rest → Reads c rs d → ((later : ℕ) → fault_from later d rest ≡ None) → fault_from line c (map body_of rs ++ rest) ≡ None
reads_fault line c d [] rest some are none = rw are (none line)
reads_fault line c d (r ∷ rs) rest some reads none =
    fault_before line c (body_of r) (map body_of rs ++ rest) (some_lines rs rest some)
    ∙ rw (line_sound line c r reads.0 (reads.2 line), line_end r reads.0, reads.1, line_after c r reads.0)
    (reads_fault (next_line line) (after_record c r) d rs rest some reads.3 none)

reads_contents : (c d : Contents) (rs : List PlainRecord) (rest : List (List ℕ)) → Reads c rs d → contents_from c (map body_of rs ++ rest) ≡ contents_from d rest
reads_contents c d [] rest are = ap (λ e. contents_from e rest) are
reads_contents c d (r ∷ rs) rest reads =
    ap (λ e. contents_from e (map body_of rs ++ rest)) (line_after c r reads.0) ∙ reads_contents (after_record c r) d rs rest reads.3

-- ---- data

-- no address from `least` on was given
abbrev pub GivenBelow : ℕ → ByteMap → Type 0
GivenBelow least given = (address : ℕ) → least ≤ address → given address ≡ None

none_given : (given : ByteMap) (least first count : ℕ) → least ≤ first → GivenBelow least given → any_given given first count ≡ false
none_given given least first zero le below = refl
none_given given least first (suc count) le below = rw (none_given given least first count le below, below (first + count) (omega arith)) refl

data_fits : (p : PlainRun) → IsData p → Fits (data_record p)
data_fits p is_data = record { kind = omega arith; address = omega arith; size = is_data.size; bytes = is_data.bytes }

data_first : (base start : ℕ) → base ≡ 65536 * (start / 65536) → base + start % 65536 ≡ start
data_first base start is = omega arith

data_sound : (line least : ℕ) (c : Contents) (p : PlainRun) → IsData p → c.base ≡ 65536 * upper_half p.start → least ≤ p.start → GivenBelow least c.given → record_fault line c (data_record p) ≡ None
data_sound line least c p is_data base le below =
    let room : nat_le (p.start % 65536 + length p.content) 65536 ≡ true = (let within = is_data.within in grind (arith, nat_tests)) in
    let first = data_first c.base p.start base in
    rw (room, first, none_given c.given least p.start (length p.content) le below) refl

upper_fits : (upper : ℕ) → Fits (upper_record upper)
upper_fits upper = record { kind = omega arith; address = omega arith; size = omega arith; bytes = bytes_cons (byte_of upper 1) (byte_of upper 0 ∷ []) (omega arith) (bytes_cons (byte_of upper 0) [] (omega arith) bytes_none) }

upper_value : (upper : ℕ) → upper < 65536 → half_of (byte_of upper 0) (byte_of upper 1) ≡ upper
upper_value upper fits = omega arith

-- the upper half that was read last is the base
abbrev pub HasBase : Option ℕ → Contents → Type 0
HasBase None c = Unit {0}
HasBase (Some upper) c = c.base ≡ 65536 * upper

-- records after which data addresses count from an upper half
record UpperRead (c : Contents) (upper : ℕ) (rs : List PlainRecord) : Type 0 where
  pub later : Contents
  pub reads : Reads c rs later
  pub base : later.base ≡ 65536 * upper
  pub given : (address : ℕ) → later.given address ≡ c.given address
  pub entry : later.entry ≡ c.entry

upper_written : (c : Contents) (upper : ℕ) → upper < 65536 → UpperRead c upper (upper_record upper ∷ [])
upper_written c upper fits = record {
  later = after_record c (upper_record upper);
  reads = (upper_fits upper, refl, λ line. refl, refl);
  base = ap (λ half. 65536 * half) (upper_value upper fits);
  given = λ address. refl;
  entry = refl;
}

upper_read : (last : Option ℕ) (c : Contents) (upper : ℕ) → upper < 65536 → HasBase last c → UpperRead c upper (upper_records last upper)
upper_read None c upper fits base = upper_written c upper fits
upper_read (Some last) c upper fits base =
    cond_both (upper == last) [] (upper_record upper ∷ []) (UpperRead c upper)
    (λ same. record { later = c; reads = refl; base = (let is : upper ≡ last = grind (arith, nat_tests) in rw is base); given = λ address. refl; entry = refl })
    (λ other. upper_written c upper fits)

-- the records of pieces
pub record PiecesRead (c : Contents) (ps : List PlainRun) (rs : List PlainRecord) : Type 0 where
  pub later : Contents
  pub reads : Reads c rs later
  pub given : (address : ℕ) → later.given address ≡ option_or (c.given address) (map_of ps address)

data_given : (c : Contents) (upper : ℕ) (p : PlainRun) (address : ℕ) → c.base ≡ 65536 * upper_half p.start → (after_record c (data_record p)).given address ≡ option_or (c.given address) (run_byte p address)
data_given c upper p address base = ap (λ first. option_or (c.given address) (byte_from first p.content address)) (data_first c.base p.start base)

below_piece : (least : ℕ) (c : Contents) (p : PlainRun) → c.base ≡ 65536 * upper_half p.start → least ≤ p.start → GivenBelow least c.given → GivenBelow (run_end p) (after_record c (data_record p)).given
below_piece least c p base le below = λ address behind.
    data_given c 0 p address base ∙ rw (below address (omega arith), byte_from_past p.start p.content address behind) refl

pub pieces_read : (last : Option ℕ) (least : ℕ) (c : Contents) (ps : List PlainRun) → HasBase last c → GivenBelow least c.given → AreData least ps → PiecesRead c ps (piece_records last ps)
pieces_read last least c [] base below are_data = record { later = c; reads = refl; given = λ address. sym (option_or-None (c.given address)) }
pieces_read last least c (p ∷ ps) base below are_data =
    let is_data = are_data.1 in
    let upper = upper_half p.start in
    let fits : upper < 65536 = (let placed = is_data.placed in omega arith) in
    let first = upper_read last c upper fits base in
    let first_below : GivenBelow least first.later.given = λ address le. first.given address ∙ below address le in
    let now = after_record first.later (data_record p) in
    let rest = pieces_read (Some upper) (run_end p) now ps first.base (below_piece least first.later p first.base are_data.0 first_below) are_data.2 in
    record {
      later = rest.later;
      reads = reads_append c first.later rest.later (upper_records last upper) (data_record p ∷ piece_records (Some upper) ps) first.reads
          (data_fits p is_data, refl, λ line. data_sound line least first.later p is_data first.base are_data.0 first_below, rest.reads);
      given = λ address.
          rest.given address
          ∙ rw (data_given first.later upper p address first.base, first.given address) (option_or-assoc (c.given address) (run_byte p address) (map_of ps address));
    }

-- ---- the whole text

reads_fit : (c d : Contents) (rs : List PlainRecord) → Reads c rs d → AllByRecursion Fits rs
reads_fit c d [] reads = tt
reads_fit c d (r ∷ rs) reads = (reads.0, reads_fit (after_record c r) d rs reads.3)

fit_append : (rs ss : List PlainRecord) → AllByRecursion Fits rs → AllByRecursion Fits ss → AllByRecursion Fits (rs ++ ss)
fit_append [] ss fits more = more
fit_append (r ∷ rs) ss fits more = (fits.0, fit_append rs ss fits.1 more)

end_fits : Fits end_record
end_fits = record { kind = omega arith; address = omega arith; size = omega arith; bytes = bytes_none }

entry_fits : (entry : ℕ) → Fits (entry_record entry)
entry_fits entry = record {
  kind = omega arith;
  address = omega arith;
  size = omega arith;
  bytes = bytes_cons (byte_of entry 3) (byte_of entry 2 ∷ byte_of entry 1 ∷ byte_of entry 0 ∷ []) (omega arith)
      (bytes_cons (byte_of entry 2) (byte_of entry 1 ∷ byte_of entry 0 ∷ []) (omega arith)
      (bytes_cons (byte_of entry 1) (byte_of entry 0 ∷ []) (omega arith) (bytes_cons (byte_of entry 0) [] (omega arith) bytes_none)));
}

entry_value : (entry : ℕ) → entry < 4294967296 → word_of (byte_of entry 0) (byte_of entry 1) (byte_of entry 2) (byte_of entry 3) ≡ entry
entry_value entry fits = omega arith

end_fault : (line : ℕ) (c : Contents) → fault_from line c (body_of end_record ∷ [] ∷ []) ≡ None
end_fault line c = rw (line_sound line c end_record end_fits refl, line_end end_record end_fits) refl

end_contents : (c : Contents) → contents_from c (body_of end_record ∷ [] ∷ []) ≡ c
end_contents c = ap (λ d. contents_from d ([] ∷ [])) (line_after c end_record end_fits) ∙ contents_behind 0 c ([] ∷ []) refl

-- the text of records, of which the last one alone ends the file
pub text_reads : (rs : List PlainRecord) (d : Contents) → Reads nothing_read rs d → (hex_fault (flat_map line_of (rs ++ end_record ∷ [])) ≡ None) × (hex_contents (flat_map line_of (rs ++ end_record ∷ [])) ≡ d)
text_reads rs d reads =
    let fits = fit_append rs (end_record ∷ []) (reads_fit nothing_read d rs reads) (end_fits, tt) in
    let lines : lines_of (flat_map line_of (rs ++ end_record ∷ [])) ≡ map body_of rs ++ body_of end_record ∷ [] ∷ [] =
    record_lines (rs ++ end_record ∷ []) fits ∙ rw (map-append body_of rs (end_record ∷ [])) (append_assoc (map body_of rs) (body_of end_record ∷ []) ([] ∷ [])) in (
      ap (fault_from 0 nothing_read) lines ∙ reads_fault 0 nothing_read d rs (body_of end_record ∷ [] ∷ []) (omega arith) reads (λ line. end_fault line d),
      ap (contents_from nothing_read) lines ∙ reads_contents nothing_read d rs (body_of end_record ∷ [] ∷ []) reads ∙ end_contents d,
    )

entry_read : (c d : Contents) (rs : List PlainRecord) (entry : ℕ) → Reads c rs d → Reads c (rs ++ entry_record entry ∷ []) (after_record d (entry_record entry))
entry_read c d rs entry reads = reads_append c d (after_record d (entry_record entry)) rs (entry_record entry ∷ []) reads (entry_fits entry, refl, λ line. refl, refl)

-- the data records of a file, read from the beginning
file_read : (segments : List PlainSegment) → AreLoadable segments → AreDisjoint segments → PiecesRead nothing_read (flat_map pieces_of (runs_by_address segments)) (piece_records None (flat_map pieces_of (runs_by_address segments)))
file_read segments loadable disjoint =
    let filled = filled_runs segments in
    let runs = runs_by_address segments in
    let ordered = by_address_ordered filled (filled_filled (map segment_run segments)) (filled_disjoint segments loadable disjoint) in
    pieces_read None 0 nothing_read (flat_map pieces_of runs) tt (λ address le. refl) (runs_data 0 runs (each_by_address IsGood filled (filled_good segments loadable)) (ascending runs ordered))

pub text_spells : (segments : List PlainSegment) (entry : ℕ) → AreLoadable segments → AreDisjoint segments → entry < 4294967296 → Spells (hex_text segments entry) (file_map segments) (Some entry)
text_spells segments entry loadable disjoint fits =
    let filled = filled_runs segments in
    let no_overlap = filled_disjoint segments loadable disjoint in
    let good = each_by_address IsGood filled (filled_good segments loadable) in
    let runs = runs_by_address segments in
    let pieces = flat_map pieces_of runs in
    let pieces_are = file_read segments loadable disjoint in
    let read = text_reads (piece_records None pieces ++ entry_record entry ∷ []) _ (entry_read nothing_read pieces_are.later (piece_records None pieces) entry pieces_are.reads) in
    let same : (piece_records None pieces ++ entry_record entry ∷ []) ++ end_record ∷ [] ≡ hex_records segments entry = append_assoc (piece_records None pieces) (entry_record entry ∷ []) (end_record ∷ []) in
    let contents = rw same at read.1 in
    record {
      sound = rw same at read.0;
      given = λ address. ap (λ c. c.given address) contents ∙ pieces_are.given address ∙ runs_map runs address good ∙ by_address_map filled address no_overlap ∙ filled_map (map segment_run segments) address;
      entry = ap (λ c. c.entry) contents ∙ ap Some (entry_value entry fits);
    }

length_lines : (rs : List PlainRecord) → length (map body_of rs ++ [] ∷ []) ≡ length rs + 1
length_lines [] = refl
length_lines (r ∷ rs) = let rest = length_lines rs in omega arith

-- a text has as many newlines as records
pub newlines_counted : (segments : List PlainSegment) (entry : ℕ) → AreLoadable segments → AreDisjoint segments → count_by (λ byte. byte == 10) (hex_text segments entry) ≡ length (hex_records segments entry)
newlines_counted segments entry loadable disjoint =
    let pieces = flat_map pieces_of (runs_by_address segments) in
    let pieces_are = file_read segments loadable disjoint in
    let fits = fit_append (piece_records None pieces) (tail_records entry) (reads_fit nothing_read pieces_are.later (piece_records None pieces) pieces_are.reads) (entry_fits entry, (end_fits, tt)) in
    let lines = ap length (record_lines (hex_records segments entry) fits) in
    let count = length-slice_split (λ byte. byte == 10) (hex_text segments entry) in
    let records = length_lines (hex_records segments entry) in
    omega (arith, lines, count, records)
