-- Two results for one choice have the same pieces, stubs and words in the patch range.
use Rattle.std.proofs.Common.{◌≡◌, ◌∙◌, inl, inr, ℕ, zero, suc, ◌+◌, ◌-◌, ◌*◌, ◌<◌, nat_lt, Bool, true, false, ◌||◌, if◌then◌else◌, List, [], ◌∷◌, ◌++◌, map, length, get_or, slice_index, slice_index_or, refl, sym, ap, subst, arith}
use Rattle.std.specs.Prelude.{Contains}
use Rattle.std.specs.List.{list_any, concat, sum_by}
use Rattle.std.proofs.lemmas.Bool.{cases_Bool, cases_order, both_ways, eqb-true}
use Rattle.std.proofs.lemmas.List.{get_or_default, get_or-map, length-map, length-append, ext_get_or}
use Rattle.std.proofs.lemmas.List.Elements.{All-head, All-tail, All-contains}
use Rattle.list_checks.proofs.StepLemmas.{any_place}
use Rattle.rv32im.specs.Memory.{Memory, word_at}
use Rattle.rv32im.specs.declared.instructions.Instr.{Instr}
use Rattle.rv32im.specs.declared.instructions.Instr.TheVariants.{Lui, Auipc, Load, Store, OpImm}
use Rattle.rv32im.specs.declared.instructions.ImmKind.TheVariants.{Addi}
use Rattle.rv32im.proofs.Meaning.{same_word, same_instruction}
use Rattle.elf_reader.specs.File.{PlainSegment, PlainView, view_in}
use Rattle.elf_reader.specs.Image.{has_byte, image_of}
use Rattle.elf_reader.specs.Loadable.{IsByte, AreBytes, IsLoadable, AreLoadable}
use Rattle.loaded_file.specs.Code.{image_word}
use Rattle.board_config.specs.declared.board.Board.{Board}
use Rattle.flat_machine.specs.Lines.{HoldsAt}
use Rattle.object_graph.specs.Lookups.{stands_at}
use Rattle.object_graph.specs.declared.parts.SiteKind.{SiteKind}
use Rattle.object_graph.specs.declared.parts.SiteKind.TheVariants.{Hi, LowI, LowS}
use Rattle.object_graph.specs.declared.parts.Site.{Site}
use Rattle.object_graph.specs.declared.parts.Graph.{Graph}
use Rattle.cell_values.specs.Stands.{address_word}
use Rattle.placement_programme.specs.declared.variables.VarName.{VarName}
use Rattle.placement_programme.specs.declared.variables.VarName.TheVariants.{StaticData, StaticCode, OverlayData, OverlayCode, KeptData}
use Rattle.code_blocks.specs.Numbers.{start_at}
use Rattle.code_blocks.specs.Leads.{no_unit, units_at}
use Rattle.code_blocks.specs.declared.parts.Unit.{Unit}
use Rattle.code_blocks.specs.declared.parts.Code.{Code}
use Rattle.dataflow.specs.Overlaid.{region_in, is_border}
use Rattle.dataflow.proofs.EdgeLemmas.{one_start}
use Rattle.block_splitter.specs.declared.block_range.BlockRange.{BlockRange}
use Rattle.block_splitter.specs.Forms.{is_site, holds_block, body_at, unit_in, kind_of, size_below}
use Rattle.block_splitter.specs.Copies.{IsCopy, IsDisplaced, word_of_unit}
use Rattle.block_splitter.proofs.CopySizeLemmas.{range_is, held}
use Rattle.block_splitter.proofs.FieldLemmas.{has_unit}
use Rattle.patch_code.specs.declared.job.CopyJob.{CopyJob}
use Rattle.patch_code.specs.Start.{StartPlan}
use Rattle.patch_code.specs.Homes.{bytes_if_before}
use Rattle.patch_code.specs.Layout.{image_places}
use Rattle.patch_code.specs.Serving.{StubBody, jumps_to, runs_words, ServingStub, test_bytes, body_bytes, IsBody, AreStubWords, serving_home, serving_size, serving_bytes, served_before}
use Rattle.patch_code.specs.Overlay.{OverlayPlan, switching, switch_at, serving_at, serving_place, overlay_images_at}
use Rattle.patch_code.specs.Served.{HoldsCode, ServingStands}
use Rattle.patch_code.specs.Served.{body_at as stub_body_at}
use Rattle.patch_code.proofs.Control.{word_fits}
use Rattle.patch_code.proofs.WholePlaces.{overlay_stands_so}
use Rattle.relocator.specs.declared.slots.Slot.{Slot}
use Rattle.relocator.specs.Slots.{items_of, slots_of, code_slots}
use Rattle.relocator.specs.Placing.{placed}
use Rattle.relocator.specs.Laws.{slot_at}
use Rattle.relocator.specs.SiteWords.{IsRewritten, IsSiteWord, no_site}
use Rattle.result_laws.specs.ChosenJobs.{Images, job_into, next_code, entering, leaving, code_number, start_jobs, is_static, is_overlaid, is_kept}
use Rattle.result_laws.specs.Memories.{IsOfCode}
use Rattle.result_laws.specs.LiveUnits.{code_unit, StandsThere}
use Rattle.result_laws.specs.PlacedPieces.{PlacedPiece, piece_bytes}
use Rattle.result_laws.specs.ChosenPlacement.{ChosenPlacement, slots_in, places_in, no_piece, piece_of, images_in, NamesRange, StandsInSlot}
use Rattle.result_laws.specs.PlacedView.{enters_piece, is_served, HasBody, ToCopy, Displaced, Serves, ServesSome, image_in, words_in}
use Rattle.result_laws.specs.PlacedLaws.{IsPlacedResult}
use Rattle.result_laws.proofs.CodeUnits.{body_units}
use Rattle.result_laws.proofs.CopySites.{others_keep_words}
use Rattle.relink_core.proofs.Pieces.{slot_of}
use Rattle.paid_energy.proofs.AlikeWords.{IsSmall, AreSmall, small_left, small_right}
use Rattle.paid_energy.proofs.AlikeCopies.{one_free, HaveOneStart, copy_same, starts_same, displaced_same, displaced_count}
use Rattle.paid_energy.proofs.AlikeStubs.{HasLike, alike_same, ordered_alike, sums_same, overlay_same, HaveSameJobs, switch_same, HaveAsManyJobs, switch_bytes_same, start_bytes_same}

-- ---- names and sites

name_same : (regions : List ℕ) (name : VarName) (r s : BlockRange) → NamesRange regions name r → NamesRange regions name s → r ≡ s
name_same regions (StaticData object) r s one other = absurd one
name_same regions (StaticCode first last) r s one other = one ∙ sym other
name_same regions (OverlayData own object) r s one other = absurd one
name_same regions (OverlayCode own first last) r s one other = one.0 ∙ sym other.0
name_same regions (KeptData pair object) r s one other = absurd one

rewritten_same : (part : SiteKind) (a : ℕ) (i j k : Instr) → IsRewritten part a i j → IsRewritten part a i k → j ≡ k
rewritten_same Hi a (Lui rd n) j k one other = one ∙ sym other
rewritten_same Hi a (Auipc rd n) j k one other = one ∙ sym other
rewritten_same LowI a (OpImm Addi rd rs1 n) j k one other = one ∙ sym other
rewritten_same LowI a (Load kind rd rs1 n) j k one other = one ∙ sym other
rewritten_same LowS a (Store kind rs1 rs2 n) j k one other = one ∙ sym other
rewritten_same part a i j k one other = absurd one

pub site_same : (part : SiteKind) (a old w v : ℕ) → IsSiteWord part a old w → IsSiteWord part a old v → w ≡ v
site_same part a old w v one other =
    let from : one.from ≡ other.from = same_instruction old one.from other.from one.old_means other.old_means in
    let to : one.to ≡ other.to =
    rewritten_same part a other.from one.to other.to (subst (λ (i : Instr). IsRewritten part a i one.to) from one.rewritten) other.rewritten in
    same_word w v other.to one.below other.below (subst (λ (i : Instr). Rattle.rv32im.specs.Table.Means w i) to one.new_means) other.new_means

-- ---- memory

pub image_bytes : (segments : List PlainSegment) (a : ℕ) → AreLoadable segments → image_of segments a < 256
image_bytes [] a all = omega arith
image_bytes (s ∷ segments) a all =
    here (has_byte s a) (image_bytes segments a (All-tail IsLoadable s segments all))
  where
    content : (bytes : List ℕ) (k : ℕ) → AreBytes bytes → slice_index bytes k < 256
    content [] k all = omega arith
    content (b ∷ bytes) zero all = All-head IsByte b bytes all
    content (b ∷ bytes) (suc k) all = content bytes k (All-tail IsByte b bytes all)

    here : (test : Bool) → image_of segments a < 256 → (if test then slice_index s.content (a - s.vaddr) else image_of segments a) < 256
    here true rest = content s.content (a - s.vaddr) (All-head IsLoadable s segments all).bytes
    here false rest = rest

pub held_small : (mem : Memory) (at : ℕ) (ws : List ℕ) → ((x : ℕ) → mem x < 256) → HoldsAt mem at ws → AreSmall ws
held_small mem at ws bytes holds k d below =
    subst IsSmall (holds k below ∙ get_or_default ws k 0 d below) (word_fits mem (at + 4 * k) bytes)

small_each : (xss : List (List ℕ)) (n : ℕ) → AreSmall (concat xss) → n < length xss → AreSmall (get_or xss n [])
small_each [] n small below = absurd (omega (arith, below))
small_each (xs ∷ xss) zero small below = small_left xs (concat xss) small
small_each (xs ∷ xss) (suc n) small below = small_each xss n (small_right xs (concat xss) small) (omega (arith, below))

-- ---- jobs

entering_many : (which : VarName → Bool) (g : Graph) (images others : Images) (n : ℕ) (slots : List Slot) → length (entering which g images n slots) ≡ length (entering which g others n slots)
entering_many which g images others n [] = refl
entering_many which g images others n (s ∷ ss) =
    let rest = entering_many which g images others (next_code s.name n) ss in
    let one = length-append (if which s.name then job_into g images n s.at s.name ∷ [] else []) (entering which g images (next_code s.name n) ss) in
    let other = length-append (if which s.name then job_into g others n s.at s.name ∷ [] else []) (entering which g others (next_code s.name n) ss) in
    let here = by (which s.name) (job_into g images n s.at s.name) (job_into g others n s.at s.name) in
    omega (arith, rest, one, other, here)
  where
    by : (b : Bool) (j k : CopyJob) → length (if b then j ∷ [] else []) ≡ length (if b then k ∷ [] else [])
    by true j k = refl
    by false j k = refl

-- what depends on the pieces alone
abbrev images_with : List PlacedPiece → Images
images_with xs = record { at = λ n. (slice_index_or xs n no_piece).image; bytes = λ n. piece_bytes (slice_index_or xs n no_piece) }

-- a piece of a range, and nothing else
abbrev of_range : BlockRange → PlacedPiece
of_range r = record { range = r; at = 0; image = 0; words = []; starts = [] }

any_same : {X : Type 0} (test : X → Bool) (xs ys : List X) (d : X) → length xs ≡ length ys → ((k : ℕ) → k < length xs → test (get_or xs k d) ≡ test (get_or ys k d)) → list_any test xs ≡ list_any test ys
any_same test [] [] d many each = refl
any_same test [] (y ∷ ys) d many each = absurd (omega (arith, many))
any_same test (x ∷ xs) [] d many each = absurd (omega (arith, many))
any_same test (x ∷ xs) (y ∷ ys) d many each =
    let first = each 0 (omega arith) in
    let rest = any_same test xs ys d (omega (arith, many)) (λ k below. each (suc k) (omega (arith, below))) in
    λ i. first i || rest i

-- the part of a stub's words behind its test
body_small : (base switch at : ℕ) (stub : ServingStub) (ws given : List ℕ) → AreSmall ws → AreStubWords base switch at stub ws → stub.body ≡ runs_words given → AreSmall given
body_small base switch at stub ws given small are runs =
    let body = small_right are.test are.body (subst AreSmall are.whole small) in
    let same : are.body ≡ given = subst (λ (b : StubBody). IsBody stub.temp b are.body) runs are.does in
    subst AreSmall same body

-- ---- one result

module _ (file out : List ℕ) (board : Board) (g : Graph) (c : Code) (pl : ChosenPlacement) (result : IsPlacedResult file out board g c pl) where
  abbrev pub memory : Memory
  memory = image_of (view_in out).segments

  pub memory_bytes : (a : ℕ) → memory a < 256
  memory_bytes a = image_bytes (view_in out).segments a result.view.loadable

  pub words_small : AreSmall result.view.words
  words_small = held_small memory board.patch.base result.view.words memory_bytes result.view.holds

  pub pieces_small : (n : ℕ) → n < length pl.pieces → AreSmall (piece_of pl n).words
  pieces_small n below =
      let are = result.view.are in
      let whole = subst AreSmall are.whole words_small in
      let behind = small_right are.first (are.served ++ (are.switch ++ concat result.view.plan.images)) whole in
      let last = small_right are.switch (concat result.view.plan.images) (small_right are.served (are.switch ++ concat result.view.plan.images) behind) in
      let images = subst (λ (xss : List (List ℕ)). AreSmall (concat xss)) result.view.planned.images last in
      let count = length-map pl.pieces words_in in
      subst AreSmall (get_or-map words_in pl.pieces n no_piece [] below) (small_each (map words_in pl.pieces) n images (omega (arith, count, below)))

  holds_code : HoldsCode memory result.view.plan.start.base result.view.words
  holds_code k from below =
      subst (λ (b : ℕ). word_at memory (b + 4 * k) ≡ slice_index result.view.words k) (sym result.view.planned.lies.base) (result.view.holds k below)

  pub stubs_small : (stub : ServingStub) (given : List ℕ) → Contains result.view.plan.stubs stub → stub.body ≡ runs_words given → AreSmall given
  stubs_small stub given listed runs =
      let plan = result.view.plan in
      let stands = All-contains (ServingStands plan memory) plan.stubs stub (overlay_stands_so.stubs plan result.view.words memory result.view.are holds_code) listed in
      body_small plan.start.base (switch_at plan) (serving_place plan stub) stub stands.0 given
      (held_small memory (serving_place plan stub) stands.0 memory_bytes stands.1.1) stands.1.0 runs

-- ---- two results

module _ (file out other : List ℕ) (board : Board) (g : Graph) (c : Code) (p q : ChosenPlacement) (one : IsPlacedResult file out board g c p) (two : IsPlacedResult file other board g c q) (items : items_of p.programme p.choice ≡ items_of q.programme q.choice) (count : p.count ≡ q.count) (regions : p.regions ≡ q.regions) (borders : p.borders ≡ q.borders) where
  abbrev v : PlainView
  v = view_in file

  abbrev slots : List Slot
  slots = slots_in board p

  abbrev plan : OverlayPlan
  plan = one.view.plan

  abbrev plan_too : OverlayPlan
  plan_too = two.view.plan

  pub slots_same : slots_in board p ≡ slots_in board q
  slots_same = ap (slots_of board.spm.base) items

  pub many_same : length p.pieces ≡ length q.pieces
  many_same = one.placement.many ∙ (ap (λ (ss : List Slot). length (code_slots ss)) slots_same ∙ sym two.placement.many)

  -- ---- where pieces stand

  abbrev Stand : List Slot → List ℕ → Type 0
  Stand ss rs = (k : ℕ) → IsOfCode ss k → StandsInSlot rs (slot_at ss k) (piece_of q (code_number ss k))

  stand_too : Stand slots p.regions
  stand_too =
      subst (λ (ss : List Slot). Stand ss p.regions) (sym slots_same)
      (subst (λ (rs : List ℕ). Stand (slots_in board q) rs) (sym regions) two.placement.stand)

  pub record IsSamePlace (x y : PlacedPiece) : Type 0 where
    pub range : x.range ≡ y.range
    pub at : x.at ≡ y.at

  pub place_same : (n : ℕ) → n < length p.pieces → IsSamePlace (piece_of p n) (piece_of q n)
  place_same n below =
      let all = one.placement.many in
      let has = slot_of slots n (omega (arith, all, below)) in
      let here : StandsInSlot p.regions (slot_at slots has.k) (piece_of p n) =
      subst (λ (m : ℕ). StandsInSlot p.regions (slot_at slots has.k) (piece_of p m)) has.number (one.placement.stand has.k has.of) in
      let there : StandsInSlot p.regions (slot_at slots has.k) (piece_of q n) =
      subst (λ (m : ℕ). StandsInSlot p.regions (slot_at slots has.k) (piece_of q m)) has.number (stand_too has.k has.of) in
      record {
        range = name_same p.regions (slot_at slots has.k).name (piece_of p n).range (piece_of q n).range here.named there.named;
        at = here.at ∙ sym there.at;
      }

  -- ---- words of units

  units_same : (b k : ℕ) → code_unit c b k ≡ unit_in (body_at c.blocks.items b) k
  units_same b k = ap (λ (us : List Unit). slice_index_or us k no_unit) (sym (body_units c.blocks.items b))

  in_block : (b k : ℕ) → k < length (body_at c.blocks.items b).units → k < length (units_at c b)
  in_block b k inside =
      let same : length (body_at c.blocks.items b).units ≡ length (units_at c b) = ap (λ (us : List Unit). length us) (body_units c.blocks.items b) in
      omega (arith, inside, same)

  address_same : (r s o f : ℕ) → r ≡ s → address_word (places_in board g p r) o f ≡ address_word (places_in board g q s) o f
  address_same r s o f same = λ i. address_word (placed g (slots_same i) (same i)) o f

  pub words_same : (b k : ℕ) → b < length c.blocks.items → k < length (body_at c.blocks.items b).units → word_of_unit p.sites (unit_in (body_at c.blocks.items b) k) ≡ word_of_unit q.sites (unit_in (body_at c.blocks.items b) k)
  words_same b k below inside =
      let u : Unit = unit_in (body_at c.blocks.items b) k in
      elim (cases_Bool (is_site g u.at)) [
        | inl site ↦
            let (j, found) = any_place (stands_at u.at) g.sites.items no_site site in
            let s : Site = get_or g.sites.items j no_site in
            let at : s.at ≡ u.at = eqb-true s.at u.at found.1 in
            let there : StandsThere c s.at b k = record { is = in_block b k inside; at = ap (λ (x : Unit). x.at) (units_same b k) ∙ sym at } in
            let listed : Contains g.sites.items s = (j, found.0, get_or_default g.sites.items j s no_site found.0) in
            let a = one.placement.sites.rewritten b k s there listed in
            let d = two.placement.sites.rewritten b k s there listed in
            let address = address_same (region_in p.regions b) (region_in q.regions b) s.object s.offset (ap (λ (rs : List ℕ). region_in rs b) regions) in
            let same = site_same s.kind (address_word (places_in board g q (region_in q.regions b)) s.object s.offset) (image_word v s.at) (word_of_unit p.sites (code_unit c b k)) (word_of_unit q.sites (code_unit c b k))
            (subst (λ (x : ℕ). IsSiteWord s.kind x (image_word v s.at) (word_of_unit p.sites (code_unit c b k))) address a) d in
            sym (ap (word_of_unit p.sites) (units_same b k)) ∙ (same ∙ ap (word_of_unit q.sites) (units_same b k))
        | inr none ↦
            others_keep_words p.sites u (one.placement.sites.has.others b k below inside ∙ none)
            ∙ sym (others_keep_words q.sites u (two.placement.sites.has.others b k below inside ∙ none))
      ]

  -- ---- copies

  below_blocks : (n b : ℕ) → n < length p.pieces → holds_block b (piece_of p n).range ≡ true → b < length c.blocks.items
  below_blocks n b below holds =
      let x : PlacedPiece = piece_of p n in
      let last = (range_is c x.range (one.placement.pieces n no_piece below).copied.shape).below in
      let bounds = (held b x.range holds).1 in
      omega (arith, last, bounds)

  one_begins : (n : ℕ) → n < length p.pieces → HaveOneStart c (piece_of p n).range
  one_begins n below b d holds also same =
      one_start c b d one.code.ascending (below_blocks n b below holds) (below_blocks n d below also) same

  copies_at : (n : ℕ) → n < length p.pieces → IsCopy (record { code = c; graph = g; range = (piece_of p n).range; at = (piece_of p n).at; sites = q.sites }) (piece_of q n).words (piece_of q n).starts
  copies_at n below =
      let place = place_same n below in
      let many = many_same in
      let is = (two.placement.pieces n no_piece (omega (arith, below, many))).copy in
      subst (λ (r : BlockRange). IsCopy (record { code = c; graph = g; range = r; at = (piece_of p n).at; sites = q.sites }) (piece_of q n).words (piece_of q n).starts) (sym place.range)
      (subst (λ (a : ℕ). IsCopy (record { code = c; graph = g; range = (piece_of q n).range; at = a; sites = q.sites }) (piece_of q n).words (piece_of q n).starts) (sym place.at) is)

  copy_words_same : (n : ℕ) → n < length p.pieces → (piece_of p n).words ≡ (piece_of q n).words
  copy_words_same n below =
      let many = many_same in
      copy_same c g (piece_of p n).range (piece_of p n).at p.sites q.sites (one_begins n below) (piece_of p n).words (piece_of q n).words
      (pieces_small file out board g c p one n below) (pieces_small file other board g c q two n (omega (arith, below, many))) words_same
      (piece_of p n).starts (piece_of q n).starts (one.placement.pieces n no_piece below).copy (copies_at n below)

  copy_starts_same : (n : ℕ) → n < length p.pieces → (piece_of p n).starts ≡ (piece_of q n).starts
  copy_starts_same n below =
      let many = many_same in
      starts_same c g (piece_of p n).range (piece_of p n).at p.sites q.sites (one_begins n below) (piece_of p n).words (piece_of q n).words
      (pieces_small file out board g c p one n below) (pieces_small file other board g c q two n (omega (arith, below, many))) words_same
      (piece_of p n).starts (piece_of q n).starts (one.placement.pieces n no_piece below).copy (copies_at n below)

  mapped_same : map words_in p.pieces ≡ map words_in q.pieces
  mapped_same =
      let one_count = length-map p.pieces words_in in
      let other_count = length-map q.pieces words_in in
      let many = many_same in
      ext_get_or [] (map words_in p.pieces) (map words_in q.pieces) (omega (arith, one_count, other_count, many))
      (λ n below.
      let inside : n < length p.pieces = omega (arith, below, one_count) in
      get_or-map words_in p.pieces n no_piece [] inside
      ∙ (copy_words_same n inside ∙ sym (get_or-map words_in q.pieces n no_piece [] (omega (arith, inside, many)))))

  pub images_same : plan.images ≡ plan_too.images
  images_same = one.view.planned.images ∙ (mapped_same ∙ sym two.view.planned.images)

  -- ---- blocks that are served

  pub served_same : (b : ℕ) → is_served c p b ≡ is_served c q b
  served_same b =
      let enters =
      any_same (enters_piece c b) p.pieces q.pieces no_piece many_same
      (λ n below. ap (λ (r : BlockRange). enters_piece c b (of_range r)) (place_same n below).range) in
      λ i. is_border (borders i) b || enters i

  -- a stub of one serves a block as one of the other does
  module _ (b at to : ℕ) (s t : ServingStub) (serves : Serves c g p at b s) (also : Serves c g q to b t) where
    pub home_same : s.home ≡ t.home
    home_same = serves.home ∙ sym also.home

    region_same : s.region ≡ t.region
    region_same =
        serves.region
        ∙ ((λ i. if is_border (borders i) b then region_in (regions i) b else 0) ∙ sym also.region)

    temp_same : s.temp ≡ t.temp
    temp_same = one_free c (start_at c b) _ s.temp t.temp serves.free also.free

    holds_too : (n : ℕ) → n < length p.pieces → holds_block b (piece_of p n).range ≡ holds_block b (piece_of q n).range
    holds_too n below = ap (holds_block b) (place_same n below).range

    sized : HasBody c g p at b s → HasBody c g q to b t → body_bytes s.body ≡ body_bytes t.body
    sized (ToCopy n below holds jumps) (ToCopy m inside keeps goes) = ap body_bytes jumps ∙ sym (ap body_bytes goes)
    sized (ToCopy n below holds jumps) (Displaced ws none runs are) =
        let many = many_same in
        absurd (both_ways (holds_block b (piece_of q n).range) (none n (omega (arith, below, many))) (sym (holds_too n below) ∙ holds))
    sized (Displaced ws none runs are) (ToCopy m inside keeps goes) =
        let many = many_same in
        let below : m < length p.pieces = omega (arith, inside, many) in
        absurd (both_ways (holds_block b (piece_of p m).range) (none m below) (holds_too m below ∙ keeps))
    sized (Displaced ws none runs are) (Displaced vs nor goes is) =
        let first = displaced_count p.sites at (code_unit c b 0) (kind_of (is_site g) (body_at c.blocks.items b) 0) ws are in
        let second = displaced_count q.sites to (code_unit c b 0) (kind_of (is_site g) (body_at c.blocks.items b) 0) vs is in
        ap body_bytes runs ∙ (ap (λ (n : ℕ). 4 * n) (first ∙ sym second) ∙ sym (ap body_bytes goes))

    pub size_same : serving_size s ≡ serving_size t
    size_same =
        let body = sized serves.body also.body in
        let test = ap test_bytes region_same in
        omega (arith, body, test)

    -- one piece of them has the block
    one_piece : (n m : ℕ) → n < length p.pieces → m < length p.pieces → holds_block b (piece_of p n).range ≡ true → holds_block b (piece_of p m).range ≡ true → n ≡ m
    one_piece n m below inside holds keeps =
        elim (cases_order n m) [
          | inl is ↦ is
          | inr differ ↦ elim differ [
            | inl less ↦ absurd (one.placement.blocks n m no_piece less inside b holds keeps)
            | inr more ↦ absurd (one.placement.blocks m n no_piece more below b keeps holds)
          ]
        ]

    abbrev copied_to : BlockRange → ℕ → ℕ
    copied_to r a = a + 4 * size_below (is_site g) c.blocks.items r b

    bodies_same : b < length c.blocks.items → at ≡ to → ((ws : List ℕ) → s.body ≡ runs_words ws → AreSmall ws) → ((vs : List ℕ) → t.body ≡ runs_words vs → AreSmall vs) → HasBody c g p at b s → HasBody c g q to b t → s.body ≡ t.body
    bodies_same inside there small more (ToCopy n below holds jumps) (ToCopy m within keeps goes) =
        let many = many_same in
        let m_below : m < length p.pieces = omega (arith, within, many) in
        let same : n ≡ m = one_piece n m below m_below holds (holds_too m m_below ∙ keeps) in
        let place = place_same m m_below in
        jumps
        ∙ (ap (λ (k : ℕ). jumps_to (copied_to (piece_of p k).range (piece_of p k).at)) same
        ∙ ((λ i. jumps_to (copied_to (place.range i) (place.at i))) ∙ sym goes))
    bodies_same inside there small more (ToCopy n below holds jumps) (Displaced ws none runs are) =
        let many = many_same in
        absurd (both_ways (holds_block b (piece_of q n).range) (none n (omega (arith, below, many))) (sym (holds_too n below) ∙ holds))
    bodies_same inside there small more (Displaced ws none runs are) (ToCopy m within keeps goes) =
        let many = many_same in
        let below : m < length p.pieces = omega (arith, within, many) in
        absurd (both_ways (holds_block b (piece_of p m).range) (none m below) (holds_too m below ∙ keeps))
    bodies_same inside there small more (Displaced ws none runs are) (Displaced vs nor goes is) =
        let kind = kind_of (is_site g) (body_at c.blocks.items b) 0 in
        let word : word_of_unit p.sites (code_unit c b 0) ≡ word_of_unit q.sites (code_unit c b 0) =
        ap (word_of_unit p.sites) (units_same b 0) ∙ (words_same b 0 inside (has_unit v c b one.code inside) ∙ sym (ap (word_of_unit q.sites) (units_same b 0))) in
        let same = displaced_same p.sites q.sites to (code_unit c b 0) kind ws vs word (small ws runs) (more vs goes)
        (subst (λ (a : ℕ). IsDisplaced p.sites a (code_unit c b 0) kind ws) there are) is in
        runs ∙ (ap runs_words same ∙ sym goes)

    pub stub_same : b < length c.blocks.items → at ≡ to → ((ws : List ℕ) → s.body ≡ runs_words ws → AreSmall ws) → ((vs : List ℕ) → t.body ≡ runs_words vs → AreSmall vs) → s ≡ t
    stub_same inside there small more =
        let body = bodies_same inside there small more serves.body also.body in
        λ i. record { home = home_same i; temp = temp_same i; region = region_same i; body = body i }

  -- ---- stubs by their sizes

  abbrev HaveSize : ServingStub → ServingStub → Type 0
  HaveSize s t = serving_size s ≡ serving_size t

  size_like : (s : ServingStub) → Contains plan.stubs s → HasLike HaveSize plan_too.stubs s
  size_like s listed =
      let some = All-contains (ServesSome c g p plan) plan.stubs s one.view.planned.stubs.only listed in
      let found = two.view.planned.stubs.each some.block some.below (sym (served_same some.block) ∙ some.served) in (
        found.stub,
        (
          found.listed,
          (
            home_same some.block (stub_body_at plan s) (stub_body_at plan_too found.stub) s found.stub some.serves found.serves,
            size_same some.block (stub_body_at plan s) (stub_body_at plan_too found.stub) s found.stub some.serves found.serves,
          ),
        ),
      )

  size_back : (t : ServingStub) → Contains plan_too.stubs t → HasLike HaveSize plan.stubs t
  size_back t listed =
      let some = All-contains (ServesSome c g q plan_too) plan_too.stubs t two.view.planned.stubs.only listed in
      let found = one.view.planned.stubs.each some.block some.below (served_same some.block ∙ some.served) in (
        found.stub,
        (
          found.listed,
          (
            sym (home_same some.block (stub_body_at plan found.stub) (stub_body_at plan_too t) found.stub t found.serves some.serves),
            sym (size_same some.block (stub_body_at plan found.stub) (stub_body_at plan_too t) found.stub t found.serves some.serves),
          ),
        ),
      )

  stub_sums : (f : ServingStub → ℕ) → ((s t : ServingStub) → s.home ≡ t.home → HaveSize s t → f s ≡ f t) → sum_by f plan.stubs ≡ sum_by f plan_too.stubs
  stub_sums f each =
      sums_same HaveSize HaveSize plan.stubs plan_too.stubs one.view.are.ordered two.view.are.ordered one.view.are.by_home two.view.are.by_home size_like size_back f each

  stub_bytes : serving_bytes plan.stubs ≡ serving_bytes plan_too.stubs
  stub_bytes = stub_sums serving_size (λ s t home size. size)

  stubs_before : (home : ℕ) → served_before home plan.stubs ≡ served_before home plan_too.stubs
  stubs_before home = stub_sums (bytes_if_before serving_home serving_size home) (λ s t homes size. λ i. if nat_lt (homes i) home then size i else 0)

  -- ---- places in the patch range

  base_same : plan.start.base ≡ plan_too.start.base
  base_same = ap (λ (s : StartPlan). s.base) one.view.planned.start ∙ sym (ap (λ (s : StartPlan). s.base) two.view.planned.start)

  fence_same : plan.start.fence_i ≡ plan_too.start.fence_i
  fence_same = ap (λ (s : StartPlan). s.fence_i) one.view.planned.start ∙ sym (ap (λ (s : StartPlan). s.fence_i) two.view.planned.start)

  twins_same : plan.twins ≡ plan_too.twins
  twins_same = one.view.planned.twins ∙ sym two.view.planned.twins

  regions_same : plan.regions ≡ plan_too.regions
  regions_same = one.view.planned.jobs.count ∙ (count ∙ sym two.view.planned.jobs.count)

  entered_many : (which : VarName → Bool) → length (entering which g (images_in p) 0 slots) ≡ length (entering which g (images_in q) 0 (slots_in board q))
  entered_many which = entering_many which g (images_in p) (images_in q) 0 slots ∙ ap (λ (ss : List Slot). length (entering which g (images_in q) 0 ss)) slots_same

  start_many : length plan.start.jobs ≡ length plan_too.start.jobs
  start_many =
      ap (λ (s : StartPlan). length s.jobs) one.view.planned.start
      ∙ (entered_many is_static ∙ sym (ap (λ (s : StartPlan). length s.jobs) two.view.planned.start))

  below_one : (i : ℕ) → i < plan_too.regions → i < p.count
  below_one i below = let same = regions_same in let jobs = one.view.planned.jobs.count in omega (arith, below, same, jobs)

  below_two : (i : ℕ) → i < plan_too.regions → i < q.count
  below_two i below = let jobs = two.view.planned.jobs.count in omega (arith, below, jobs)

  leave_same : (i : ℕ) → i < plan_too.regions → plan.leave i ≡ plan_too.leave i
  leave_same i below =
      one.view.planned.jobs.leave i (below_one i below)
      ∙ (ap (leaving (is_overlaid (i + 1)) g) slots_same ∙ sym (two.view.planned.jobs.leave i (below_two i below)))

  kept_leave_same : (i : ℕ) → i < plan_too.regions → plan.kept_leave i ≡ plan_too.kept_leave i
  kept_leave_same i below =
      one.view.planned.jobs.kept_leave i (below_one i below)
      ∙ (ap (leaving (is_kept (i + 1)) g) slots_same ∙ sym (two.view.planned.jobs.kept_leave i (below_two i below)))

  as_many : HaveAsManyJobs (switching plan) (switching plan_too)
  as_many =
      record {
        fence_i = fence_same;
        twins = twins_same;
        regions = regions_same;
        leave = λ i below. ap (λ (js : List CopyJob). length js) (leave_same i below);
        enter = λ i below.
            ap (λ (js : List CopyJob). length js) (one.view.planned.jobs.enter i (below_one i below))
            ∙ (entered_many (is_overlaid (i + 1)) ∙ sym (ap (λ (js : List CopyJob). length js) (two.view.planned.jobs.enter i (below_two i below))));
        kept_leave = λ i below. ap (λ (js : List CopyJob). length js) (kept_leave_same i below);
        kept_enter = λ i below.
            ap (λ (js : List CopyJob). length js) (one.view.planned.jobs.kept_enter i (below_one i below))
            ∙ (entered_many (is_kept (i + 1)) ∙ sym (ap (λ (js : List CopyJob). length js) (two.view.planned.jobs.kept_enter i (below_two i below))));
      }

  serving_there : serving_at plan ≡ serving_at plan_too
  serving_there =
      let base = base_same in
      let bytes = start_bytes_same plan.start plan_too.start fence_same start_many in
      omega (arith, base, bytes)

  switch_there : switch_at plan ≡ switch_at plan_too
  switch_there = let serving = serving_there in let bytes = stub_bytes in omega (arith, serving, bytes)

  images_there : overlay_images_at plan ≡ overlay_images_at plan_too
  images_there = let switch = switch_there in let bytes = switch_bytes_same plan plan_too as_many in omega (arith, switch, bytes)

  pub stub_there : (home : ℕ) → serving_at plan + served_before home plan.stubs ≡ serving_at plan_too + served_before home plan_too.stubs
  stub_there home = let serving = serving_there in let before = stubs_before home in omega (arith, serving, before)

  -- ---- the same pieces

  places_same : map image_in p.pieces ≡ map image_in q.pieces
  places_same =
      let at = images_there in
      let images = images_same in
      one.view.planned.places ∙ ((λ i. image_places (at i) (images i)) ∙ sym two.view.planned.places)

  image_same : (n : ℕ) → n < length p.pieces → (piece_of p n).image ≡ (piece_of q n).image
  image_same n below =
      let many = many_same in
      sym (get_or-map image_in p.pieces n no_piece 0 below)
      ∙ (ap (λ (ns : List ℕ). get_or ns n 0) places_same ∙ get_or-map image_in q.pieces n no_piece 0 (omega (arith, below, many)))

  pub pieces_same : p.pieces ≡ q.pieces
  pieces_same =
      ext_get_or no_piece p.pieces q.pieces many_same
      (λ n below.
      let place = place_same n below in
      let image = image_same n below in
      let words = copy_words_same n below in
      let starts = copy_starts_same n below in
      λ i. record { range = place.range i; at = place.at i; image = image i; words = words i; starts = starts i })

  start_same : plan.start ≡ plan_too.start
  start_same =
      let pieces = pieces_same in
      let slots = slots_same in
      one.view.planned.start
      ∙ ((λ i. record { base = board.patch.base; entry = v.entry; fence_i = board.fence_i; jobs = start_jobs g (images_with (pieces i)) (slots i) })
      ∙ sym two.view.planned.start)

  entered_same : (which : VarName → Bool) → entering which g (images_in p) 0 slots ≡ entering which g (images_in q) 0 (slots_in board q)
  entered_same which = let pieces = pieces_same in let slots = slots_same in λ i. entering which g (images_with (pieces i)) 0 (slots i)

  same_jobs : HaveSameJobs (switching plan) (switching plan_too)
  same_jobs =
      record {
        base = base_same;
        fence_i = fence_same;
        twins = twins_same;
        regions = regions_same;
        leave = leave_same;
        enter = λ i below.
            one.view.planned.jobs.enter i (below_one i below) ∙ (entered_same (is_overlaid (i + 1)) ∙ sym (two.view.planned.jobs.enter i (below_two i below)));
        kept_leave = kept_leave_same;
        kept_enter = λ i below.
            one.view.planned.jobs.kept_enter i (below_one i below) ∙ (entered_same (is_kept (i + 1)) ∙ sym (two.view.planned.jobs.kept_enter i (below_two i below)));
      }

  -- ---- the same stubs

  body_there : (s t : ServingStub) → s.home ≡ t.home → stub_body_at plan s ≡ stub_body_at plan_too t
  body_there s t home =
      let place = stub_there s.home in
      let same = ap (λ (h : ℕ). served_before h plan_too.stubs) home in
      omega (arith, place, same)

  same_like : (s : ServingStub) → Contains plan.stubs s → HasLike (λ a d. a ≡ d) plan_too.stubs s
  same_like s listed =
      let some = All-contains (ServesSome c g p plan) plan.stubs s one.view.planned.stubs.only listed in
      let found = two.view.planned.stubs.each some.block some.below (sym (served_same some.block) ∙ some.served) in
      let home = home_same some.block (stub_body_at plan s) (stub_body_at plan_too found.stub) s found.stub some.serves found.serves in (
        found.stub,
        (
          found.listed,
          (
            home,
            stub_same some.block (stub_body_at plan s) (stub_body_at plan_too found.stub) s found.stub some.serves found.serves some.below (body_there s found.stub home)
                (λ ws runs. stubs_small file out board g c p one s ws listed runs)
                (λ ws runs. stubs_small file other board g c q two found.stub ws found.listed runs),
          ),
        ),
      )

  ordered_same : one.view.are.ordered ≡ two.view.are.ordered
  ordered_same =
      alike_same one.view.are.ordered two.view.are.ordered
      (ordered_alike (λ s t. s ≡ t) HaveSize plan.stubs plan_too.stubs one.view.are.ordered two.view.are.ordered one.view.are.by_home two.view.are.by_home same_like size_back)

  -- ---- the same words

  pub all_words_same : one.view.words ≡ two.view.words
  all_words_same =
      overlay_same plan plan_too one.view.words two.view.words one.view.are two.view.are (words_small file out board g c p one) (words_small file other board g c q two)
      start_same (switch_same plan plan_too same_jobs) ordered_same images_same switch_there serving_there
