-- The segments of a built file, read back.
use Rattle.std.proofs.Common.{◌≡◌, ℕ, ◌+◌, ◌<◌, ltb, List, [], ◌∷◌, ◌++◌, length, map, refl, ap, arith, length-append}
use Rattle.std.specs.List.{All}
use Rattle.std.proofs.lemmas.Bool.{cond_both}
use Rattle.std.proofs.lemmas.List.Elements.{All-head, All-tail}
use Rattle.elf_reader.specs.Layout.{program_header_at}
use Rattle.elf_reader.specs.File.{PlainSegment, segments_at, segments_below}
use Rattle.workload_gen.specs.Plan.{SectionPlan}
use Rattle.elf_writer.specs.Pieces.{IsWord, zero_bytes, padded, padding}
use Rattle.workload_gen.specs.Built.{memory_size, asked, contents, segment_flags, program_header_bytes, program_headers}
use Rattle.workload_gen.specs.Readable.{IsSection, segments_from}
use Rattle.elf_writer.proofs.SegmentsRead.{segment_loaded}
use Rattle.elf_writer.proofs.Standing.{Stands, stands_first, stands_behind}
use Rattle.workload_gen.proofs.Records.{IsProgram, program_header_there}
use Rattle.workload_gen.proofs.Steps.{grown_none, grown_more}

abbrev pub segment_from : ℕ → ℕ → SectionPlan → PlainSegment
segment_from k place s =
    record {
      index = k;
      offset = place;
      vaddr = s.addr;
      memsz = memory_size s;
      flags = segment_flags s.flags;
      content = s.content;
    }

segment_is : (file : List ℕ) (k place : ℕ) (s : SectionPlan) → IsProgram file (program_header_at file k) place s → Stands file place s.content
    → segments_at file k ≡ segment_from k place s ∷ []
segment_is file k place s program bytes =
    segment_loaded file k (program_header_at file k) place s.addr (memory_size s) (segment_flags s.flags) s.content program bytes

segment_there : (file : List ℕ) (k place : ℕ) (s : SectionPlan) → IsSection s → place + length (padded s.content) < 16777216
    → Stands file (program_header_at file k) (program_header_bytes place s) → Stands file place (padded s.content)
    → segments_at file k ≡ segment_from k place s ∷ []
segment_there file k place s fits place_fits header bytes =
    let size : length (padded s.content) ≡ length s.content + length (zero_bytes (padding (length s.content))) = length-append s.content (zero_bytes (padding (length s.content))) in
    let content_fits : IsWord (length s.content) = omega arith in
    let memory_fits : IsWord (memory_size s) = cond_both (ltb 0 s.empty) s.empty (length s.content) IsWord (λ some. fits.empty) (λ none. content_fits) in
    segment_is file k place s (program_header_there file (program_header_at file k) place s (omega arith) fits.addr content_fits memory_fits header)
    (stands_first file place s.content (zero_bytes (padding (length s.content))) bytes)

pub segments_are : (file : List ℕ) (k place : ℕ) (ss : List SectionPlan) → All IsSection ss → place + length (contents (map asked ss)) < 16777216
    → Stands file (program_header_at file k) (program_headers place ss) → Stands file place (contents (map asked ss))
    → segments_below file (k + length ss) ≡ segments_below file k ++ segments_from k place ss
segments_are file k place [] fit place_fits headers bytes = grown_none (segments_below file) k
segments_are file k place (s ∷ ss) fit place_fits headers bytes =
    let next : ℕ = place + length (padded s.content) in
    let here = program_header_bytes place s in
    let later = program_headers next ss in
    let rest = contents (map asked ss) in
    let size : length (padded s.content ++ rest) ≡ length (padded s.content) + length rest = length-append (padded s.content) rest in
    let this_fits : place + length (padded s.content) < 16777216 = omega arith in
    let next_fits : next + length rest < 16777216 = omega arith in
    let header_next : program_header_at file k + 32 ≡ program_header_at file (k + 1) = omega arith in
    let first =
    segment_there file k place s (All-head IsSection s ss fit) this_fits
    (stands_first file (program_header_at file k) here later headers) (stands_first file place (padded s.content) rest bytes)
    in
    grown_more (segments_below file) k (length ss) (segment_from k place s ∷ []) (segments_from (k + 1) next ss)
    (ap (λ (x : List PlainSegment). segments_below file k ++ x) first)
    (segments_are file (k + 1) next ss (All-tail IsSection s ss fit) next_fits
    (stands_behind file (program_header_at file k) (program_header_at file (k + 1)) here later header_next headers)
    (stands_behind file place next (padded s.content) rest refl bytes))
