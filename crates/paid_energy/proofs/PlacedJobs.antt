-- What the jobs of a result cost: those of the start stub and of switches, as their names are counted.
use Rattle.std.proofs.Common.{◌≡◌, ◌∙◌, ◌⊎◌, inl, inr, ℕ, zero, suc, ◌+◌, ◌-◌, ◌*◌, ◌/◌, ◌%◌, ◌<◌, ◌≤◌, ◌==◌, Bool, true, false, ◌&&◌, if◌then◌else◌, List, [], ◌∷◌, length, slice_index_or, refl, sym, ap, subst, arith}
use Rattle.elf_reader.specs.File.{view_in}
use Rattle.elf_reader.specs.Image.{image_of}
use Rattle.board_config.specs.declared.board.Board.{Board}
use Rattle.object_graph.specs.declared.parts.Graph.{Graph}
use Rattle.cell_values.specs.Objects.{IsGrain, object_of}
use Rattle.code_blocks.specs.declared.parts.Code.{Code}
use Rattle.block_splitter.specs.declared.block_range.BlockRange.{BlockRange}
use Rattle.block_splitter.specs.Forms.{is_site, copy_words}
use Rattle.patch_code.specs.declared.job.CopyJob.{CopyJob}
use Rattle.patch_code.specs.Jobs.{unit_bytes, turns}
use Rattle.patch_code.specs.Layout.{image_places}
use Rattle.patch_code.specs.Overlay.{overlay_images_at}
use Rattle.patch_code.proofs.Serves.{serving_aligned}
use Rattle.relocator.specs.Placing.{puts}
use Rattle.relocator.specs.Laws.{no_slot, slot_at}
use Rattle.relocator.proofs.FitLemmas.{are_laid}
use Rattle.result_laws.specs.ChosenJobs.{into_slot, back_home, from_image, code_number}
use Rattle.result_laws.specs.JobLaws.{HaveBytes, ReadsHome, ReadsImage, GoesIn, GoesHome}
use Rattle.result_laws.specs.Memories.{IsOfCode}
use Rattle.result_laws.specs.SwitchLaws.{CanStart}
use Rattle.result_laws.proofs.Setting.{setting}
use Rattle.result_laws.proofs.JobChosen.{grain_is, slot_ends}
use Rattle.result_laws.proofs.Fitting.{object_in, object_home}
use Rattle.result_laws.proofs.PatchHomes.{images_lie_so}
use Rattle.result_laws.specs.SetupLaws.{IsOverlay}
use Rattle.result_laws.proofs.PlanStanding.{starts}
use Rattle.energy_model.specs.Energy.{object_rounds, piece_rounds, into_price, back_price}
use Rattle.result_laws.specs.ChosenPlacement.{ChosenPlacement, piece_of}
use Rattle.result_laws.specs.PlacedLaws.{IsPlacedResult}
use Rattle.result_laws.proofs.PlacedChosen.{piece_chosen, number_below, piece_image, is_overlay}
use Rattle.result_laws.proofs.Standing.{laid}
use Rattle.paid_energy.specs.WalkCosts.{placed_scene}
use Rattle.paid_energy.proofs.HomePrices.{IsSlow, object_slow}
use Rattle.paid_energy.proofs.JobCosts.{job_paid, job_cost}
use Rattle.paid_energy.proofs.PlacedPrices.{inside_range, patch_slow}

-- ---- rounds

-- an object is copied by words just where its home and its size are multiples of four, since its place is like its home
turns_by : (home size : Bool) (bytes : ℕ) → bytes / unit_bytes (home && (home && size)) ≡ (if home && size then bytes / 4 else bytes)
turns_by true true bytes = refl
turns_by true false bytes = omega arith
turns_by false size bytes = omega arith

object_turns : (from to bytes : ℕ) → to % 4 ≡ from % 4 → bytes / unit_bytes ((from % 4 == 0) && ((to % 4 == 0) && (bytes % 4 == 0))) ≡ (if (from % 4 == 0) && (bytes % 4 == 0) then bytes / 4 else bytes)
object_turns from to bytes same =
    ap (λ (n : ℕ). bytes / unit_bytes ((from % 4 == 0) && ((n == 0) && (bytes % 4 == 0)))) same ∙ turns_by (from % 4 == 0) (bytes % 4 == 0) bytes

-- an image is copied by words
words_turns : (from to n : ℕ) → from % 4 ≡ 0 → to % 4 ≡ 0 → 4 * n / unit_bytes ((from % 4 == 0) && ((to % 4 == 0) && (4 * n % 4 == 0))) ≡ n
words_turns from to n from_even to_even =
    let bytes_even : 4 * n % 4 ≡ 0 = omega arith in
    ap (λ (k : ℕ). 4 * n / unit_bytes ((k == 0) && ((to % 4 == 0) && (4 * n % 4 == 0)))) from_even
    ∙ (ap (λ (k : ℕ). 4 * n / unit_bytes ((k == 0) && (4 * n % 4 == 0))) to_even
    ∙ (ap (λ (k : ℕ). 4 * n / unit_bytes (k == 0)) bytes_even ∙ whole))
  where
    whole : 4 * n / 4 ≡ n
    whole = omega arith

slot_even : (grain : ℕ) → IsGrain grain → (at t home : ℕ) → at ≡ t * grain → (at + home % grain) % 4 ≡ home % 4
slot_even grain (inl is) at t home times = let here = rw is at times in rw is (omega (arith, here))
slot_even grain (inr (inl is)) at t home times = let here = rw is at times in rw is (omega (arith, here))
slot_even grain (inr (inr is)) at t home times = let here = rw is at times in rw is (omega (arith, here))

times_even : (grain : ℕ) → IsGrain grain → (at t : ℕ) → at ≡ t * grain → at % 4 ≡ 0
times_even grain (inl is) at t times = let here = rw is at times in omega (arith, here)
times_even grain (inr (inl is)) at t times = let here = rw is at times in omega (arith, here)
times_even grain (inr (inr is)) at t times = let here = rw is at times in omega (arith, here)

image_even : (at : ℕ) (images : List (List ℕ)) (n : ℕ) → at % 4 ≡ 0 → slice_index_or (image_places at images) n 0 % 4 ≡ 0
image_even at [] n even = refl
image_even at (ws ∷ images) zero even = even
image_even at (ws ∷ images) (suc n) even = image_even (at + 4 * length ws) images n (omega (arith, even))

module _ (file out : List ℕ) (board : Board) (g : Graph) (c : Code) (pl : ChosenPlacement) (result : IsPlacedResult file out board g c pl) where
  open (setting file out board g c pl result) use {v, plan, slots, images}

  overlay : IsOverlay file board g pl.count pl.programme pl.choice images
  overlay = is_overlay file out board g c pl result

  pub can_start : CanStart v g pl.count board pl.programme pl.choice images
  can_start = starts file board g pl.count pl.programme pl.choice images (image_of (view_in out).segments) overlay

  pub have_bytes : HaveBytes slots images
  have_bytes = (images_lie_so v board g slots images can_start.laid overlay.lie).1

  -- ---- jobs into the scratchpad, and home

  home_reads : (job : CopyJob) → ReadsHome g job → (a : ℕ) → job.from ≤ a → a < job.from + job.bytes → IsSlow board a
  home_reads job reads a low high =
      let from = reads.from in
      let bytes = reads.bytes in
      let at : (object_of g reads.o).home + (a - (object_of g reads.o).home) ≡ a = omega (arith, from, low) in
      subst (IsSlow board) at
      (object_slow file board g result.accepted reads.o (a - (object_of g reads.o).home) (omega (arith, from, bytes, low, high)))

  image_reads : (job : CopyJob) → ReadsImage slots images job → (a : ℕ) → job.from ≤ a → a < job.from + job.bytes → IsSlow board a
  image_reads job reads a low high =
      let from = reads.from in
      let bytes = reads.bytes in
      let first = overlay.lie.from reads.k reads.of in
      let last = overlay.lie.to reads.k reads.of in
      patch_slow file out board g c pl result a
      (inside_range board.patch a (omega (arith, from, first, low)) (omega (arith, from, bytes, last, high)))

  source_slow : (job : CopyJob) → ReadsHome g job ⊎ ReadsImage slots images job → (a : ℕ) → job.from ≤ a → a < job.from + job.bytes → IsSlow board a
  source_slow job (inl home) = home_reads job home
  source_slow job (inr image) = image_reads job image

  pub goes_in_cost : (job : CopyJob) → GoesIn board.spm g slots images job → job_paid board job ≡ into_price board.prices (turns job)
  goes_in_cost job goes =
      let from = goes.from in
      let to = goes.to in
      job_cost board job false true (source_slow job goes.source)
      (λ a low high. inside_range board.spm a (omega (arith, from, low)) (omega (arith, to, high)))

  pub goes_home_cost : (job : CopyJob) → GoesHome board.spm g job → job_paid board job ≡ back_price board.prices (turns job)
  goes_home_cost job goes =
      let from = goes.from in
      let to = goes.to in
      let target = goes.target in
      let bytes = goes.bytes in
      job_cost board job true false
      (λ a low high. inside_range board.spm a (omega (arith, from, low)) (omega (arith, to, high)))
      (λ a low high.
      let at : (object_of g goes.o).home + (a - (object_of g goes.o).home) ≡ a = omega (arith, target, low) in
      subst (IsSlow board) at
      (object_slow file board g result.accepted goes.o (a - (object_of g goes.o).home) (omega (arith, target, bytes, low, high))))

  -- ---- those of slots

  slot_like_home : (k home : ℕ) → k < length slots → ((slot_at slots k).at + home % g.grain) % 4 ≡ home % 4
  slot_like_home k home below =
      let times = (are_laid v g pl.count board pl.programme pl.choice 0 (laid file out board g c pl result) result.placement.can).times k no_slot below in
      slot_even g.grain (grain_is v g board (laid file out board g c pl result)) (slot_at slots k).at times.0 home times.1

  module _ (region o k : ℕ) (within : region ≤ pl.count) (below : k < length slots) (is : puts (slot_at slots k).name region o ≡ true) where
    -- an object into its slot
    pub object_into : job_paid board (into_slot g (slot_at slots k).at o) ≡ into_price board.prices (object_rounds (object_of g o))
    object_into =
        goes_in_cost (into_slot g (slot_at slots k).at o)
        (object_in v g pl.count board pl.programme pl.choice images can_start region o k within below is)
        ∙ ap (into_price board.prices)
        (object_turns (object_of g o).home ((slot_at slots k).at + (object_of g o).home % g.grain) (object_of g o).size (slot_like_home k (object_of g o).home below))

    -- and home
    pub object_back : (object_of g o).writable ≡ true → job_paid board (back_home g (slot_at slots k).at o) ≡ back_price board.prices (object_rounds (object_of g o))
    object_back writable =
        let at : ℕ = (slot_at slots k).at + (object_of g o).home % g.grain in
        let home : ℕ = (object_of g o).home in
        let like = slot_like_home k home below in
        goes_home_cost (back_home g (slot_at slots k).at o)
        (object_home v g pl.count board pl.programme pl.choice images can_start region o k within below is writable)
        ∙ ap (back_price board.prices)
        (object_turns at home (object_of g o).size (sym like)
        ∙ ap (λ (n : ℕ). if (n == 0) && ((object_of g o).size % 4 == 0) then (object_of g o).size / 4 else (object_of g o).size) like)

  -- a piece of code, from its image
  module _ (k : ℕ) (of : IsOfCode slots k) where
    abbrev n : ℕ
    n = code_number slots k

    image_at_word : images.at n % 4 ≡ 0
    image_at_word =
        let planned = result.view.planned in
        let base = planned.can.start.aligned in
        let stubs = serving_aligned plan.stubs in
        let first : overlay_images_at plan % 4 ≡ 0 = omega (arith, base, stubs) in
        ap (λ (a : ℕ). a % 4) (piece_image file out board g c pl result n (number_below file out board g c pl result k of)).place
        ∙ image_even (overlay_images_at plan) plan.images n first

    slot_at_word : (slot_at slots k).at % 4 ≡ 0
    slot_at_word =
        let times = (are_laid v g pl.count board pl.programme pl.choice 0 (laid file out board g c pl result) result.placement.can).times k no_slot of.0 in
        times_even g.grain (grain_is v g board (laid file out board g c pl result)) (slot_at slots k).at times.0 times.1

    image_turns : turns (from_image images n (slot_at slots k).at) ≡ length (piece_of pl n).words
    image_turns = words_turns (images.at n) (slot_at slots k).at (length (piece_of pl n).words) image_at_word slot_at_word

    -- a copy has the words of its blocks
    piece_words : (range : BlockRange) → (piece_of pl n).range ≡ range → length (piece_of pl n).words ≡ piece_rounds (placed_scene board g c pl) range
    piece_words range same =
        (piece_chosen file out board g c pl result n (number_below file out board g c pl result k of)).copy.count
        ∙ ap (copy_words (is_site g) c.blocks.items) same

    pub image_into : (range : BlockRange) → (piece_of pl n).range ≡ range → job_paid board (from_image images n (slot_at slots k).at) ≡ into_price board.prices (piece_rounds (placed_scene board g c pl) range)
    image_into range same =
        let lies = slot_ends v g pl.count board pl.programme pl.choice (laid file out board g c pl result) result.placement.can k of.0 in
        let from = lies.from in
        let to = lies.to in
        let fits = can_start.fitting.fit k of in
        job_cost board (from_image images n (slot_at slots k).at) false true
        (image_reads (from_image images n (slot_at slots k).at) (record { k = k; of = of; from = refl; bytes = refl }))
        (λ a low high. inside_range board.spm a (omega (arith, from, low)) (omega (arith, to, fits, high)))
        ∙ ap (into_price board.prices) (image_turns ∙ piece_words range same)
