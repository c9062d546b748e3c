-- Two results for one choice have the same memory when they are loaded.
use Rattle.std.proofs.Common.{◌≡◌, ◌∙◌, inl, inr, ℕ, zero, suc, ◌+◌, ◌-◌, ◌<◌, ◌≤◌, ◌==◌, Bool, true, false, not, ◌&&◌, List, length, get_or, Some, None, refl, sym, ap, subst, arith, mod-eq_of_lt}
use Rattle.std.specs.List.{list_any}
use Rattle.std.proofs.lemmas.Bool.{cases_Bool, both_ways, eqb-true, eq-eqb, false_from_ne_true}
use Rattle.std.proofs.lemmas.Bool.Decides.{nat_tests}
use Rattle.std.proofs.lemmas.List.Folds.{list_any_at}
use Rattle.std.proofs.lemmas.List.Elements.{All-contains}
use Rattle.list_checks.specs.First.{first_below}
use Rattle.list_checks.proofs.FirstLemmas as order
use Rattle.list_checks.specs.Tests.{any_below, ranges_overlap}
use Rattle.list_checks.proofs.TestLemmas.{both, not_true, any_found, any_at, none_at}
use Rattle.list_checks.proofs.StepLemmas.{any_place}
use Rattle.rv32im.specs.Words.{plus, word_of, byte_of}
use Rattle.rv32im.specs.Memory.{Memory, word_at}
use Rattle.rv32im.specs.Table.{Means}
use Rattle.rv32im.specs.Sequences.{distance}
use Rattle.rv32im.specs.declared.instructions.Instr.TheVariants.{Jal}
use Rattle.rv32im.proofs.Meaning.{same_word}
use Rattle.elf_reader.specs.File.{PlainView, view_in}
use Rattle.elf_reader.specs.Faults.{first_fault}
use Rattle.elf_reader.specs.Image.{has_byte, image_of}
use Rattle.elf_reader.specs.Loaded.{no_segment, segment_at}
use Rattle.elf_reader.proofs.SegmentLemmas.{none_of_headers}
use Rattle.elf_reader.proofs.LoadedLemmas.{load_segments_placed}
use Rattle.elf_writer.specs.declared.parts.Patch.{Patch}
use Rattle.elf_writer.specs.declared.parts.SymbolMove.{SymbolMove}
use Rattle.elf_writer.specs.Pieces.{words_bytes}
use Rattle.elf_writer.specs.Changes.{within}
use Rattle.elf_writer.specs.Parts.{NewSegment}
use Rattle.elf_writer.specs.View.{written_view}
use Rattle.elf_writer.specs.Conditions.{IsWritable}
use Rattle.elf_writer.specs.Images.{file_place, written_image}
use Rattle.elf_writer.proofs.ImageLemmas.{has_address, new_bytes_loaded, changed_bytes_loaded, zeros_loaded}
use Rattle.loaded_file.specs.Code.{image_word}
use Rattle.board_config.specs.declared.board.Board.{Board}
use Rattle.board_config.specs.declared.board.Range.{Range}
use Rattle.object_graph.specs.Sites.{in_range, holds_changed_byte}
use Rattle.object_graph.specs.LayoutFaults.{segment_overlaps, spm_overlap_fault, patch_overlap_fault, places_fault, too_many_fault, layout_fault}
use Rattle.object_graph.specs.declared.fault.GraphFault.TheVariants.{PatchOverlap}
use Rattle.object_graph.specs.declared.parts.Site.{Site}
use Rattle.object_graph.specs.declared.parts.DataWord.{DataWord}
use Rattle.object_graph.specs.declared.parts.Graph.{Graph}
use Rattle.cell_values.specs.Stands.{address_word}
use Rattle.code_blocks.specs.Numbers.{start_at}
use Rattle.code_blocks.specs.Leads.{units_at}
use Rattle.code_blocks.specs.declared.parts.Code.{Code}
use Rattle.dataflow.specs.Overlaid.{region_in}
use Rattle.patch_code.specs.Serving.{ServingStub, served_before}
use Rattle.patch_code.specs.Overlay.{OverlayPlan, serving_at, serving_place}
use Rattle.relocator.specs.Slots.{items_of}
use Rattle.relocator.specs.Placing.{placed}
use Rattle.relocator.specs.SiteWords.{IsSiteWord, no_site, no_word}
use Rattle.result_laws.specs.Moved.{IsOffWord}
use Rattle.result_laws.specs.LiveUnits.{code_unit}
use Rattle.result_laws.specs.ChosenPlacement.{ChosenPlacement, slots_in, places_in}
use Rattle.result_laws.specs.PlacedView.{is_served, is_padded, HasRegion, InBlock, Elsewhere, IsUntouched}
use Rattle.result_laws.specs.PlacedLaws.{IsPlacedResult}
use Rattle.result_laws.proofs.Blocks.{leader_low}
use Rattle.result_laws.proofs.CodeUnits.{begins, inside}
use Rattle.result_laws.proofs.Words.{off_or_in}
use Rattle.patch_code.proofs.Control.{word_fits}
use Rattle.paid_energy.proofs.AlikeMoves.{inside_from, changed_same}
use Rattle.relink_core.specs.Written.{same_move}
use Rattle.paid_energy.proofs.AlikePieces.{site_same, memory_bytes, slots_same, served_same, stub_there, all_words_same}

-- ---- bytes of words

four_same : (b0 b1 b2 b3 d0 d1 d2 d3 : ℕ) → b0 < 256 → b1 < 256 → b2 < 256 → b3 < 256 → d0 < 256 → d1 < 256 → d2 < 256 → d3 < 256 → word_of b0 b1 b2 b3 ≡ word_of d0 d1 d2 d3 → (b0 ≡ d0) × (b1 ≡ d1) × (b2 ≡ d2) × (b3 ≡ d3)
four_same b0 b1 b2 b3 d0 d1 d2 d3 s0 s1 s2 s3 t0 t1 t2 t3 same = (
  omega (arith, s0, s1, s2, s3, t0, t1, t2, t3, same),
  omega (arith, s0, s1, s2, s3, t0, t1, t2, t3, same),
  omega (arith, s0, s1, s2, s3, t0, t1, t2, t3, same),
  omega (arith, s0, s1, s2, s3, t0, t1, t2, t3, same),
)

pub byte_same : (m n : Memory) (a k : ℕ) → a + 3 < 4294967296 → k < 4 → ((x : ℕ) → m x < 256) → ((x : ℕ) → n x < 256) → word_at m a ≡ word_at n a → m (a + k) ≡ n (a + k)
byte_same m n a k low below small more same = by k below
  where
    parts : (m a ≡ n a) × (m (plus a 1) ≡ n (plus a 1)) × (m (plus a 2) ≡ n (plus a 2)) × (m (plus a 3) ≡ n (plus a 3))
    parts =
        four_same (m a) (m (plus a 1)) (m (plus a 2)) (m (plus a 3)) (n a) (n (plus a 1)) (n (plus a 2)) (n (plus a 3)) (small a) (small (plus a 1)) (small (plus a 2)) (small (plus a 3)) (more a)
        (more (plus a 1)) (more (plus a 2)) (more (plus a 3)) same

    at : (x y : ℕ) → x ≡ y → m x ≡ n x → m y ≡ n y
    at x y there is = subst (λ (z : ℕ). m z ≡ n z) there is

    by : (k : ℕ) → k < 4 → m (a + k) ≡ n (a + k)
    by zero less = at a (a + 0) (omega arith) parts.0
    by (suc zero) less = at (plus a 1) (a + 1) (mod-eq_of_lt (omega (arith, low))) parts.1
    by (suc (suc zero)) less = at (plus a 2) (a + 2) (mod-eq_of_lt (omega (arith, low))) parts.2
    by (suc (suc (suc zero))) less = at (plus a 3) (a + 3) (mod-eq_of_lt (omega (arith, low))) parts.3
    by (suc (suc (suc (suc k)))) less = absurd (omega (arith, less))

-- the byte of a word at an address
word_there : (m n : Memory) (a at : ℕ) → within at 4 a ≡ true → at + 3 < 4294967296 → ((x : ℕ) → m x < 256) → ((x : ℕ) → n x < 256) → word_at m at ≡ word_at n at → m a ≡ n a
word_there m n a at inside low small more same =
    let from : at ≤ a = grind (arith, nat_tests, inside) in
    let to : a < at + 4 = grind (arith, nat_tests, inside) in
    let place : at + (a - at) ≡ a = omega (arith, from) in
    subst (λ (x : ℕ). m x ≡ n x) place (byte_same m n at (a - at) low (omega (arith, from, to)) small more same)

off_word : (a at : ℕ) → within at 4 a ≡ false → IsOffWord a at
off_word a at off = off_or_in a at (λ from to. absurd (grind (arith, nat_tests, off, from, to)))

-- ---- regions of addresses

abbrev stands_in_block : Code → ℕ → ℕ → ℕ → Bool
stands_in_block c a b k = (code_unit c b k).at == a

abbrev has_unit_at : Code → ℕ → ℕ → Bool
has_unit_at c a b = any_below (stands_in_block c a b) (length (units_at c b))

region_at : (c : Code) (regions : List ℕ) (a : ℕ) → (r : ℕ) × HasRegion c regions a r
region_at c regions a =
    elim (cases_Bool (any_below (has_unit_at c a) (length c.blocks.items))) [
      | inl found ↦
          let (b, below, has) = any_found (has_unit_at c a) (length c.blocks.items) found in
          let (k, inside, at) = any_found (stands_in_block c a b) (length (units_at c b)) has in
          (region_in regions b, InBlock b k (record { is = inside; at = eqb-true (code_unit c b k).at a at }))
      | inr none ↦ (
        0,
        Elsewhere (λ b k stands.
            both_ways (any_below (has_unit_at c a) (length c.blocks.items)) none
            (any_at (has_unit_at c a) (length c.blocks.items) b (inside c b k stands.is)
            (any_at (stands_in_block c a b) (length (units_at c b)) k stands.is (eq-eqb (code_unit c b k).at a stands.at)))),
      )
    ]

-- ---- the patch range

meets_not : (b n c m a : ℕ) → ranges_overlap b n c m ≡ false → b ≤ a → a < b + n → c ≤ a → a < c + m → ⊥
meets_not b n c m a disjoint from to starts ends = grind (arith, nat_tests, disjoint, from, to, starts, ends)

range_from : (r : Range) (a : ℕ) → in_range r a ≡ true → (r.base ≤ a) × (a < r.base + r.size)
range_from r a is = grind (arith, nat_tests, is)

off_patch : (file : List ℕ) (board : Board) (g a : ℕ) → first_fault file ≡ None → layout_fault (view_in file) board ≡ None → g < length (view_in file).segments → has_byte (segment_at (view_in file) g) a ≡ true → in_range board.patch a ≡ false
off_patch file board g a none layout below has =
    let v = view_in file in
    let t = segment_at v g in
    let address = has_address file t a (load_segments_placed file (none_of_headers file none) g no_segment below) has in
    let places = (order.both_none (places_fault v board) (too_many_fault v board) layout).0 in
    let first = order.both_none (first_below (spm_overlap_fault v board) (length v.segments)) _ places in
    let second = order.both_none (first_below (patch_overlap_fault v board) (length v.segments)) _ first.1 in
    let patch = order.none_at (patch_overlap_fault v board) (length v.segments) g below second.0 in
    let disjoint : segment_overlaps t board.patch ≡ false = not_true _ (order.holds (not (segment_overlaps t board.patch)) (PatchOverlap t.index) patch) in
    false_from_ne_true (in_range board.patch a)
    (λ is.
    let there = range_from board.patch a is in
    meets_not t.vaddr t.memsz board.patch.base board.patch.size a disjoint address.from address.to there.0 there.1)

-- ---- two results

module _ (file out other : List ℕ) (board : Board) (g : Graph) (c : Code) (p q : ChosenPlacement) (one : IsPlacedResult file out board g c p) (two : IsPlacedResult file other board g c q) (items : items_of p.programme p.choice ≡ items_of q.programme q.choice) (count : p.count ≡ q.count) (regions : p.regions ≡ q.regions) (borders : p.borders ≡ q.borders) (low : (k : ℕ) → k < length g.sites.items → (get_or g.sites.items k no_site).at + 3 < 4294967296) where
  abbrev v : PlainView
  v = view_in file

  abbrev image : Memory
  image = image_of (view_in out).segments

  abbrev image_too : Memory
  image_too = image_of (view_in other).segments

  abbrev plan : OverlayPlan
  plan = one.view.plan

  abbrev plan_too : OverlayPlan
  plan_too = two.view.plan

  bytes : (x : ℕ) → image x < 256
  bytes = memory_bytes file out board g c p one

  bytes_too : (x : ℕ) → image_too x < 256
  bytes_too = memory_bytes file other board g c q two

  slots : slots_in board p ≡ slots_in board q
  slots = slots_same file out other board g c p q one two items count regions borders

  served : (b : ℕ) → is_served c p b ≡ is_served c q b
  served = served_same file out other board g c p q one two items count regions borders

  -- ---- words of data

  word_same : (a j : ℕ) → j < length g.data_words.items → within (get_or g.data_words.items j no_word).at 4 a ≡ true → image a ≡ image_too a
  word_same a j below inside =
      let d : DataWord = get_or g.data_words.items j no_word in
      let from : d.at ≤ a = grind (arith, nat_tests, inside) in
      let to : a < d.at + 4 = grind (arith, nat_tests, inside) in
      let k : ℕ = a - d.at in
      let small : k < 4 = omega (arith, from, to) in
      let place : d.at + k ≡ a = omega (arith, from) in
      let first = one.view.data_words j no_word below k small in
      let second = two.view.data_words j no_word below k small in
      subst (λ (x : ℕ). image x ≡ image_too x) place
      (first ∙ ((λ i. byte_of (address_word (placed g (slots i) 0) d.object d.offset) k) ∙ sym second))

  -- ---- pads

  abbrev padded_at : List ℕ → OverlayPlan → ℕ → Type 0
  padded_at file plan h = Means (image_word (view_in file) h) (Jal 0 (distance h (serving_at plan + served_before h plan.stubs)))

  pad_same : (a b : ℕ) → b < length c.blocks.items → is_served c p b ≡ true → within (start_at c b) 4 a ≡ true → image a ≡ image_too a
  pad_same a b below is inside =
      let h : ℕ = start_at c b in
      let f = one.view.planned.stubs.each b below is in
      let e = two.view.planned.stubs.each b below (sym (served b) ∙ is) in
      let first : padded_at out plan h =
      subst (λ (x : ℕ). padded_at out plan x) f.serves.home
      (All-contains (λ (stub : ServingStub). Means (image_word (view_in out) stub.home) (Jal 0 (distance stub.home (serving_place plan stub)))) plan.stubs f.stub one.view.pads f.listed) in
      let second : padded_at other plan_too h =
      subst (λ (x : ℕ). padded_at other plan_too x) e.serves.home
      (All-contains (λ (stub : ServingStub). Means (image_word (view_in other) stub.home) (Jal 0 (distance stub.home (serving_place plan_too stub)))) plan_too.stubs e.stub two.view.pads e.listed) in
      let there = stub_there file out other board g c p q one two items count regions borders h in
      let moved : Means (image_word (view_in out) h) (Jal 0 (distance h (serving_at plan_too + served_before h plan_too.stubs))) =
      subst (λ (to : ℕ). Means (image_word (view_in out) h) (Jal 0 (distance h to))) there first in
      let word = same_word (image_word (view_in out) h) (image_word (view_in other) h) (Jal 0 (distance h (serving_at plan_too + served_before h plan_too.stubs)))
      (word_fits image h bytes) (word_fits image_too h bytes_too) moved second in
      let ends = leader_low file out board g c p one h (begins file board g c one.accepted one.code b below) in
      word_there image image_too a h inside (omega (arith, ends)) bytes bytes_too word

  -- ---- sites

  unpadded_too : (a : ℕ) → is_padded c p a ≡ false → is_padded c q a ≡ false
  unpadded_too a none = sym (λ i. any_below (λ b. served b i && (start_at c b == a)) (length c.blocks.items)) ∙ none

  site_word_same : (a j : ℕ) → j < length g.sites.items → is_padded c p (get_or g.sites.items j no_site).at ≡ false → within (get_or g.sites.items j no_site).at 4 a ≡ true → image a ≡ image_too a
  site_word_same a j below none inside =
      let s : Site = get_or g.sites.items j no_site in
      let (r, has) = region_at c p.regions s.at in
      let first = one.view.sites j no_site below none r has in
      let second = two.view.sites j no_site below (unpadded_too s.at none) r (subst (λ (rs : List ℕ). HasRegion c rs s.at r) regions has) in
      let address : address_word (places_in board g p r) s.object s.offset ≡ address_word (places_in board g q r) s.object s.offset =
      λ i. address_word (placed g (slots i) r) s.object s.offset in
      let word =
      site_same s.kind (address_word (places_in board g q r) s.object s.offset) (image_word v s.at) (image_word (view_in out) s.at) (image_word (view_in other) s.at)
      (subst (λ (x : ℕ). IsSiteWord s.kind x (image_word v s.at) (image_word (view_in out) s.at)) address first) second in
      word_there image image_too a s.at inside (low j below) bytes bytes_too word

  -- ---- the rest of the file's bytes

  abbrev pad_at : ℕ → ℕ → Bool
  pad_at a b = is_served c p b && within (start_at c b) 4 a

  stays_same : (a : ℕ) → in_range board.patch a ≡ false → any_below (holds_changed_byte v a) (length v.segments) ≡ false → image a ≡ image_too a
  stays_same a off unchanged =
      elim (cases_Bool (list_any (λ (d : DataWord). within d.at 4 a) g.data_words.items)) [
        | inl word ↦ let (j, found) = any_place (λ (d : DataWord). within d.at 4 a) g.data_words.items no_word word in word_same a j found.0 found.1
        | inr no_data ↦ elim (cases_Bool (any_below (pad_at a) (length c.blocks.items))) [
          | inl pad ↦
              let (b, below, found) = any_found (pad_at a) (length c.blocks.items) pad in
              let parts = both (is_served c p b) (within (start_at c b) 4 a) found in
              pad_same a b below parts.0 parts.1
          | inr no_pad ↦ elim (cases_Bool (list_any (λ (s : Site). within s.at 4 a) g.sites.items)) [
            | inl site ↦
                let (j, found) = any_place (λ (s : Site). within s.at 4 a) g.sites.items no_site site in
                elim (cases_Bool (is_padded c p (get_or g.sites.items j no_site).at)) [
                  | inl padded ↦
                      let s : Site = get_or g.sites.items j no_site in
                      let (b, below, is) = any_found (λ b. is_served c p b && (start_at c b == s.at)) (length c.blocks.items) padded in
                      let parts = both (is_served c p b) (start_at c b == s.at) is in
                      let at : s.at ≡ start_at c b = sym (eqb-true (start_at c b) s.at parts.1) in
                      pad_same a b below parts.0 (subst (λ (x : ℕ). within x 4 a ≡ true) at found.1)
                  | inr none ↦ site_word_same a j found.0 none found.1
                ]
            | inr no_site_there ↦
                one.view.elsewhere a (untouched a off unchanged no_data no_site_there (λ b below is. no_pad_at p (λ b. refl) no_pad b below is))
                ∙ sym (two.view.elsewhere a (untouched_too a off unchanged no_data no_site_there (λ b below is. no_pad_at q (λ b. sym (served b)) no_pad b below is)))
          ]
        ]
      ]
    where
      no_pad_at : (pl : ChosenPlacement) → ((b : ℕ) → is_served c pl b ≡ is_served c p b) → any_below (pad_at a) (length c.blocks.items) ≡ false → (b : ℕ) → b < length c.blocks.items → is_served c pl b ≡ true → IsOffWord a (start_at c b)
      no_pad_at pl same none b below is =
          let here = none_at (pad_at a) (length c.blocks.items) b below none in
          let there : is_served c p b ≡ true = sym (same b) ∙ is in
          off_word a (start_at c b) (rest (is_served c p b) (within (start_at c b) 4 a) here there)
        where
          rest : (x y : Bool) → x && y ≡ false → x ≡ true → y ≡ false
          rest x y none is = grind arith

      untouched : (a : ℕ) → in_range board.patch a ≡ false → any_below (holds_changed_byte v a) (length v.segments) ≡ false → list_any (λ (d : DataWord). within d.at 4 a) g.data_words.items ≡ false → list_any (λ (s : Site). within s.at 4 a) g.sites.items ≡ false → ((b : ℕ) → b < length c.blocks.items → is_served c p b ≡ true → IsOffWord a (start_at c b)) → IsUntouched v board g c p a
      untouched a off unchanged no_data no_site_there pads =
          record {
            patch = off;
            sites = λ k d below. off_word a (get_or g.sites.items k d).at (false_from_ne_true (within (get_or g.sites.items k d).at 4 a) (λ is. both_ways (list_any (λ (s : Site). within s.at 4 a) g.sites.items) no_site_there (list_any_at (λ (s : Site). within s.at 4 a) g.sites.items k d below is)));
            words = λ k d below. off_word a (get_or g.data_words.items k d).at (false_from_ne_true (within (get_or g.data_words.items k d).at 4 a) (λ is. both_ways (list_any (λ (s : DataWord). within s.at 4 a) g.data_words.items) no_data (list_any_at (λ (s : DataWord). within s.at 4 a) g.data_words.items k d below is)));
            pads = pads;
            unchanged = unchanged;
          }

      untouched_too : (a : ℕ) → in_range board.patch a ≡ false → any_below (holds_changed_byte v a) (length v.segments) ≡ false → list_any (λ (d : DataWord). within d.at 4 a) g.data_words.items ≡ false → list_any (λ (s : Site). within s.at 4 a) g.sites.items ≡ false → ((b : ℕ) → b < length c.blocks.items → is_served c q b ≡ true → IsOffWord a (start_at c b)) → IsUntouched v board g c q a
      untouched_too a off unchanged no_data no_site_there pads =
          let first = untouched a off unchanged no_data no_site_there (λ b below is. pads b below (sym (served b) ∙ is)) in
          record { patch = first.patch; sites = first.sites; words = first.words; pads = pads; unchanged = first.unchanged }

  -- ---- the whole

  abbrev pub segment_of : List ℕ → NewSegment
  segment_of words = record { base = board.patch.base; entry = board.patch.base + 64; content = words_bytes words }

  module _ (ps qs : List Patch) (ms ns : List SymbolMove) (writable : IsWritable v ps (Some (segment_of one.view.words)) ms) (writable_too : IsWritable v qs (Some (segment_of two.view.words)) ns) (reads : view_in out ≡ written_view v ps (Some (segment_of one.view.words)) ms) (reads_too : view_in other ≡ written_view v qs (Some (segment_of two.view.words)) ns) (same : (m : SymbolMove) → list_any (same_move m) ms ≡ list_any (same_move m) ns) where
    abbrev s : NewSegment
    s = segment_of one.view.words

    words : two.view.words ≡ one.view.words
    words = sym (all_words_same file out other board g c p q one two items count regions borders)

    allowed : IsWritable v qs (Some s) ns
    allowed = subst (λ (ws : List ℕ). IsWritable v qs (Some (segment_of ws)) ns) words writable_too

    none : first_fault file ≡ None
    none = one.accepted.none

    image_is : (a : ℕ) → image a ≡ written_image v ps (Some s) ms a
    image_is a = ap (λ (w : PlainView). image_of w.segments a) reads

    image_too_is : (a : ℕ) → image_too a ≡ written_image v qs (Some s) ns a
    image_too_is a = ap (λ (w : PlainView). image_of w.segments a) reads_too ∙ ap (λ (ws : List ℕ). written_image v qs (Some (segment_of ws)) ns a) words

    inside_same : (a : ℕ) → within s.base (length s.content) a ≡ true → image a ≡ image_too a
    inside_same a within_it =
        let there = inside_from s.base (length s.content) a within_it in
        let from : s.base ≤ a = there.0 in
        let to : a < s.base + length s.content = there.1 in
        let i : ℕ = a - s.base in
        let place : s.base + i ≡ a = omega (arith, from) in
        subst (λ (x : ℕ). image x ≡ image_too x) place
        (image_is (s.base + i)
        ∙ (new_bytes_loaded file ps s ms i none writable (omega (arith, from, to))
        ∙ (sym (new_bytes_loaded file qs s ns i none allowed (omega (arith, from, to))) ∙ sym (image_too_is (s.base + i)))))

    pub memory_same : (a : ℕ) → image a ≡ image_too a
    memory_same a =
        elim (cases_Bool (within s.base (length s.content) a)) [
          | inl within_it ↦ inside_same a within_it
          | inr outside ↦ elim (cases_Bool (any_below (λ k. has_byte (segment_at v k) a) (length v.segments))) [
            | inr nowhere ↦
                let no_byte = λ (k : ℕ) (below : k < length v.segments). none_at (λ k. has_byte (segment_at v k) a) (length v.segments) k below nowhere in
                image_is a ∙ (zeros_loaded file ps (Some s) ms a outside no_byte ∙ (sym (zeros_loaded file qs (Some s) ns a outside no_byte) ∙ sym (image_too_is a)))
            | inl somewhere ↦ elim (cases_Bool (any_below (holds_changed_byte v a) (length v.segments))) [
              | inl changed ↦
                  let (k, below, found) = any_found (holds_changed_byte v a) (length v.segments) changed in
                  let parts = both (has_byte (segment_at v k) a) _ found in
                  image_is a
                  ∙ (changed_bytes_loaded file ps (Some s) ms k a none writable below parts.0
                  ∙ (changed_same file ps qs s ms ns none writable allowed same (file_place v a k) (image_of v.segments a) parts.1
                  ∙ (sym (changed_bytes_loaded file qs (Some s) ns k a none allowed below parts.0) ∙ sym (image_too_is a))))
              | inr unchanged ↦
                  let (k, below, has) = any_found (λ k. has_byte (segment_at v k) a) (length v.segments) somewhere in
                  stays_same a (off_patch file board k a none one.accepted.layout below has) unchanged
            ]
          ]
        ]
