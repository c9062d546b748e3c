-- Of the sites that the relocations of a view give no two meet, nor do two words of data.
use Rattle.std.proofs.Common.{◌≡◌, ◌∙◌, inl, inr, ℕ, ◌+◌, ◌<◌, ◌==◌, nat_lt, nat_le, Bool, true, false, not, ◌&&◌, ◌||◌, List, length, refl, sym, subst, arith}
use Rattle.std.proofs.lemmas.Bool.{cases_Bool, eqb-true, ltb-true}
use Rattle.std.proofs.lemmas.Bool.Decides.{nat_tests}
use Rattle.list_checks.specs.Tests.{any_below, ranges_overlap}
use Rattle.list_checks.proofs.TestLemmas.{both, not_true, none_at}
use Rattle.elf_reader.specs.File.{PlainView}
use Rattle.elf_reader.specs.declared.view.Reloc.{Reloc}
use Rattle.loaded_file.specs.Code.{image_word}
use Rattle.loaded_file.specs.Records.{reloc_at, counts, target, is_hint, width_of}
use Rattle.loaded_file.specs.declared.byte_ranges.ByteRange.{ByteRange}
use Rattle.loaded_file.specs.ByteRanges.{byte_range_at}
use Rattle.object_graph.specs.Rewritable.{is_meant, displacement, changes_word, is_rewritable_word, holds_data, cuts_range}
use Rattle.object_graph.specs.Fixed.{leads_to}
use Rattle.object_graph.specs.declared.parts.Site.{Site}
use Rattle.object_graph.specs.declared.parts.DataWord.{DataWord}
use Rattle.object_graph.specs.Graphs.{makes_part, gives_directly, gives_low_of, gives_offset}
use Rattle.object_graph.specs.Gathered.{AreMovable, gives_alone, gives_high, is_site_in, is_word_in, site_place, word_place}
use Rattle.object_graph.specs.Laws.{GivesSite}
use Rattle.object_graph.proofs.GatherLemmas.{GivesDisjoint}
use Rattle.object_graph.proofs.OneSiteLemmas.{site_given}
use Rattle.object_graph.proofs.RangeLemmas.{moves_at}
use Rattle.object_graph.proofs.SiteLemmas.{sites_disjoint}

-- a relocation that gives a site of the list
record GivesHere (v : PlainView) (ranges : List ByteRange) (m : AreMovable v ranges) (a i : ℕ) : Type 0 where
  pub at : (reloc_at v i).at ≡ a
  pub gives : GivesSite v m.board i

gives_here : (v : PlainView) (ranges : List ByteRange) (m : AreMovable v ranges) (s : Site) (i : ℕ) → i < length v.relocs → is_site_in v ranges s i ≡ true → GivesHere v ranges m s.at i
gives_here v ranges m s i below site =
    let e = byte_range_at ranges s.object in
    let r = reloc_at v i in
    let gives = gives_offset v e.home e.size s.offset i in
    let whole = both (nat_lt s.object (length ranges)) ((r.at == s.at) && makes_part s.kind r.kind && gives) site in
    let rest = both ((r.at == s.at) && makes_part s.kind r.kind) gives whole.1 in
    let listed : s.object < length ranges = ltb-true s.object (length ranges) whole.0 in
    record {
      at = eqb-true r.at s.at (both (r.at == s.at) (makes_part s.kind r.kind) rest.0).0;
      gives = record {
        below = below;
        home = e.home;
        bytes = e.size;
        movable = moves_at v ranges m s.object listed;
        site = site_given v e.home e.size s.offset i rest.1;
      };
    }

pub sites_separate : (v : PlainView) (ranges : List ByteRange) (m : AreMovable v ranges) (i : ℕ) → i < length v.relocs → GivesDisjoint site_place (is_site_in v ranges) i
sites_separate v ranges m i below x y j before first second =
    let here = gives_here v ranges m x j (omega (arith, before, below)) first in
    let there = gives_here v ranges m y i below second in
    elim (cases_Bool (ranges_overlap x.at 4 y.at 4)) [
      | inr none ↦ none
      | inl overlap ↦
          let shared : ranges_overlap (reloc_at v j).at 4 (reloc_at v i).at 4 ≡ true = moved (reloc_at v j).at x.at (reloc_at v i).at y.at here.at there.at overlap in
          let same = sites_disjoint v m.board j i here.gives there.gives shared in
          absurd (omega (arith, before, same))
    ]
  where
    moved : (a b c d : ℕ) → a ≡ b → c ≡ d → ranges_overlap b 4 d 4 ≡ true → ranges_overlap a 4 c 4 ≡ true
    moved a b c d first_same second_same overlap = rw (first_same, second_same) overlap

gives_any : (len a p direct low : Bool) → len && (a && p && direct) ≡ true → len && (a && p && (direct || low)) ≡ true
gives_any len a p direct low gives = grind (arith, gives)

high_is_site : (v : PlainView) (ranges : List ByteRange) (s : Site) (i : ℕ) → gives_high v ranges s i ≡ true → is_site_in v ranges s i ≡ true
high_is_site v ranges s i gives =
    let e = byte_range_at ranges s.object in
    let r = reloc_at v i in
    gives_any (nat_lt s.object (length ranges)) (r.at == s.at) (makes_part s.kind r.kind) (gives_directly v e.home e.size s.offset i) (counts v r && any_below (gives_low_of v e.home e.size s.offset i) (length v.relocs)) (both (r.kind == 23) (gives_alone v ranges s i) gives).1

pub highs_separate : (v : PlainView) (ranges : List ByteRange) (m : AreMovable v ranges) (i : ℕ) → i < length v.relocs → GivesDisjoint site_place (gives_high v ranges) i
highs_separate v ranges m i below x y j before first second =
    sites_separate v ranges m i below x y j before (high_is_site v ranges x j first) (high_is_site v ranges y i second)

-- ---- words of data

record GivesWord (v : PlainView) (a i : ℕ) : Type 0 where
  pub at : (reloc_at v i).at ≡ a
  pub counted : counts v (reloc_at v i) ≡ true
  pub kind : (reloc_at v i).kind ≡ 1
  pub alone : any_below (changes_word v i (reloc_at v i).at) (length v.relocs) ≡ false

-- a rewritable word of data, but for what else changes it
abbrev is_word_alone : PlainView → ℕ → Reloc → Bool
is_word_alone v i r =
    (r.kind == 1)
    && any_below (holds_data v r.at) (length v.sections)
    && not (any_below (cuts_range v r.at) (length v.symbols))
    && (image_word v r.at == target v r)

word_kind : (v : PlainView) (i : ℕ) (r : Reloc) → is_word_alone v i r ≡ true → r.kind ≡ 1
word_kind v i r word =
    let holds = any_below (holds_data v r.at) (length v.sections) in
    let cuts = any_below (cuts_range v r.at) (length v.symbols) in
    let front = both ((r.kind == 1) && holds && not cuts) (image_word v r.at == target v r) word in
    let third = both ((r.kind == 1) && holds) (not cuts) front.0 in
    eqb-true r.kind 1 (both (r.kind == 1) holds third.0).0

word_here : (v : PlainView) (ranges : List ByteRange) (d : DataWord) (i : ℕ) → is_word_in v ranges d i ≡ true → GivesWord v d.at i
word_here v ranges d i word =
    let e = byte_range_at ranges d.object in
    let r = reloc_at v i in
    let far = displacement v e.home r == d.offset in
    let leads = leads_to v e.home e.size i in
    let rewritable = is_rewritable_word v i r in
    let whole = both (nat_lt d.object (length ranges)) ((r.at == d.at) && leads && rewritable && far) word in
    let third = both ((r.at == d.at) && leads && rewritable) far whole.1 in
    let second = both ((r.at == d.at) && leads) rewritable third.0 in
    let first = both (r.at == d.at) leads second.0 in
    let near = both (counts v r && is_meant v e.home e.size r) (nat_le (displacement v e.home r) e.size) first.1 in
    let changes = any_below (changes_word v i r.at) (length v.relocs) in
    let parts = both (is_word_alone v i r) (not changes) second.1 in
    record {
      at = eqb-true r.at d.at first.0;
      counted = (both (counts v r) (is_meant v e.home e.size r) near.0).0;
      kind = word_kind v i r parts.0;
      alone = not_true changes parts.1;
    }

pub words_separate : (v : PlainView) (ranges : List ByteRange) (i : ℕ) → i < length v.relocs → GivesDisjoint word_place (is_word_in v ranges) i
words_separate v ranges i below x y j before first second =
    let here = word_here v ranges x j first in
    let there = word_here v ranges y i second in
    let none = none_at (changes_word v i (reloc_at v i).at) (length v.relocs) j (omega (arith, before, below)) there.alone in
    disjoint (reloc_at v j).at (reloc_at v j).kind x.at (reloc_at v i).at y.at j i (counts v (reloc_at v j)) before here.at there.at here.kind here.counted none
  where
    disjoint : (a kind b c d k n : ℕ) (counted : Bool) → k < n → a ≡ b → c ≡ d → kind ≡ 1 → counted ≡ true → not (k == n) && counted && not (is_hint kind) && ranges_overlap c 4 a (width_of kind) ≡ false → ranges_overlap b 4 d 4 ≡ false
    disjoint a kind b c d k n counted lower at_a at_c is is_counted none = grind (arith, nat_tests, lower, at_a, at_c, is, is_counted, none)
