-- Two counts of bounds tell how many sections' contents meet that of a section.
use Rattle.std.proofs.Common.{◌≡◌, ◌∙◌, ℕ, zero, suc, ◌+◌, ◌<◌, ◌==◌, nat_lt, Bool, true, false, not, ◌&&◌, if◌then◌else◌, length, refl, arith}
use Rattle.std.specs.List.{count_by}
use Rattle.std.proofs.lemmas.Bool.Decides.{nat_tests}
use Rattle.list_checks.specs.Tests.{any_below, ranges_overlap}
use Rattle.list_checks.specs.Sorted.{is_under, count_below}
use Rattle.list_checks.proofs.SortedLemmas.{two_places}
use Rattle.list_checks.proofs.TestLemmas.{both, any_same}
use Rattle.elf_reader.specs.Sections.{stands_in_file}
use Rattle.elf_reader.specs.File.{PlainView}
use Rattle.elf_reader.specs.Loaded.{section_at, overlaps_section}
use Rattle.loaded_file.specs.Listed.{passes_with}
use Rattle.loaded_file.specs.Contents.{has_content, content_start, content_end, AreContentBounds}
use Rattle.loaded_file.specs.declared.contents.ContentBounds.{ContentBounds}
use Rattle.loaded_file.proofs.ListedLemmas.{split_counts}
use Rattle.loaded_file.proofs.ByteRangeLemmas.{both_made}

-- the content of section `k` meets some bytes of the file
abbrev meets : PlainView → ℕ → ℕ → ℕ → Bool
meets v offset size k =
    stands_in_file (section_at v k).kind && ranges_overlap offset size (section_at v k).offset (section_at v k).size

split_step : (stands : Bool) (offset size start n : ℕ) → 0 < size → (if stands && nat_lt 0 n && nat_lt start (offset + size) then 1 else 0) ≡ (if stands && nat_lt 0 n && nat_lt (start + n) (offset + 1) then 1 else 0) + (if stands && ranges_overlap offset size start n then 1 else 0)
split_step true offset size start n filled = grind (arith, nat_tests, filled)
split_step false offset size start n filled = omega arith

more_than_one : (all lower some : ℕ) → all ≡ lower + some → nat_lt (lower + 1) all ≡ nat_lt 1 some
more_than_one all lower some sum = grind (arith, nat_tests, sum)

meets_itself : (stands : Bool) (offset size : ℕ) → stands ≡ true → nat_lt 0 size ≡ true → (stands && ranges_overlap offset size offset size) ≡ true
meets_itself stands offset size is filled = both_made _ _ is (grind (arith, nat_tests, filled))

regroup : (a b c : Bool) → (a && (b && c)) ≡ (a && b && c)
regroup true b c = refl
regroup false b c = refl

-- what the two counts tell of a section that has bytes in the file
pub overlaps_by : (v : PlainView) (bounds : ContentBounds) (k lower all : ℕ) → AreContentBounds v bounds → k < length v.sections → has_content v k ≡ true → lower ≡ count_by (is_under (content_start v k + 1)) bounds.ends.items → all ≡ count_by (is_under (content_end v k)) bounds.starts.items → nat_lt (lower + 1) all ≡ any_below (overlaps_section v k (section_at v k).offset (section_at v k).size) (length v.sections)
overlaps_by v bounds k lower all are below has lowers alls =
    let s = section_at v k in
    let n = length v.sections in
    let here = meets v s.offset s.size in
    let parts = both (stands_in_file s.kind) (nat_lt 0 s.size) has in
    let filled : 0 < s.size = grind (arith, nat_tests, parts.1) in
    let before = are.starts.counted (is_under (content_end v k)) in
    let behind = are.ends.counted (is_under (content_start v k + 1)) in
    let sum = split_counts (passes_with (has_content v) (content_start v) (is_under (content_end v k))) (passes_with (has_content v) (content_end v) (is_under (content_start v k + 1))) here (λ j. split_step (stands_in_file (section_at v j).kind) s.offset s.size (section_at v j).offset (section_at v j).size filled) n in
    let whole : all ≡ lower + count_below here n = omega (arith, lowers, alls, before, behind, sum) in
    more_than_one all lower (count_below here n) whole
    ∙ two_places here n k (meets_itself (stands_in_file s.kind) s.offset s.size parts.0 parts.1) below
    ∙ any_same (λ j. not (j == k) && here j) (overlaps_section v k s.offset s.size) n (λ j inside. regroup (not (j == k)) (stands_in_file (section_at v j).kind) (ranges_overlap s.offset s.size (section_at v j).offset (section_at v j).size))

-- nothing meets a section without bytes
empty_step : (other stands : Bool) (offset size start n : ℕ) → nat_lt 0 size ≡ false → (other && stands && ranges_overlap offset size start n) ≡ false
empty_step true true offset size start n empty = grind (arith, nat_tests, empty)
empty_step true false offset size start n empty = refl
empty_step false stands offset size start n empty = refl

none_below : (test : ℕ → Bool) (n : ℕ) → ((k : ℕ) → test k ≡ false) → any_below test n ≡ false
none_below test zero none = refl
none_below test (suc n) none = rw (none_below test n none, none n) refl

empty_of : (stands filled : Bool) → stands ≡ true → (stands && filled) ≡ false → filled ≡ false
empty_of true filled is none = none
empty_of false filled is none = cc

pub overlaps_none : (v : PlainView) (k : ℕ) → stands_in_file (section_at v k).kind ≡ true → has_content v k ≡ false → any_below (overlaps_section v k (section_at v k).offset (section_at v k).size) (length v.sections) ≡ false
overlaps_none v k stands none =
    let s = section_at v k in
    let empty = empty_of (stands_in_file s.kind) (nat_lt 0 s.size) stands none in
    none_below (overlaps_section v k s.offset s.size) (length v.sections) (λ j. empty_step (not (j == k)) (stands_in_file (section_at v j).kind) s.offset s.size (section_at v j).offset (section_at v j).size empty)
