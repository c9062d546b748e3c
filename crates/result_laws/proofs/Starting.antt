-- The start stub of a result leads to a state that is like the one in which the program starts, while no region is current.
use Rattle.std.proofs.Common.{◌≡◌, ◌∙◌, ◌⊎◌, inr, ℕ, ◌+◌, ◌-◌, ◌<◌, ◌≤◌, true, false, List, [], ◌++◌, length, refl, sym, ap, subst, arith}
use Rattle.std.specs.Prelude.{All}
use Rattle.std.proofs.lemmas.Bool.{both_ways}
use Rattle.std.proofs.lemmas.List.Elements.{All-nil}
use Rattle.list_checks.proofs.TestLemmas.{any_found}
use Rattle.rv32im.specs.Words.{plus, byte_of, word_of}
use Rattle.rv32im.specs.Memory.{Memory, word_at}
use Rattle.rv32im.proofs.WordLemmas.{keeps_words}
use Rattle.elf_reader.specs.File.{view_in}
use Rattle.elf_reader.specs.Image.{image_of}
use Rattle.elf_reader.specs.Loadable.{AreBytes}
use Rattle.board_config.specs.Board.{mapped_ranges}
use Rattle.board_config.specs.declared.board.Board.{Board}
use Rattle.flat_machine.specs.Runs as flat
use Rattle.flat_machine.specs.Lines.{HoldsAt}
use Rattle.flat_machine.proofs.Words.{start_words, steps_words}
use Rattle.object_graph.specs.Sites.{in_range}
use Rattle.object_graph.specs.declared.parts.Graph.{Graph}
use Rattle.code_blocks.specs.declared.parts.Code.{Code}
use Rattle.cell_values.specs.Objects.{object_of, objects_of}
use Rattle.cell_values.specs.Origins.{ByLui}
use Rattle.cell_values.specs.Stands.{Places, CellStands, moved_uppers}
use Rattle.cell_values.proofs.Stores.{first_cells as each_of_four}
use Rattle.object_machine.specs.Start.{first_cell}
use Rattle.object_machine.specs.Paired.{at_start}
use Rattle.flat_machine.proofs.Runs.{steps_of_events}
use Rattle.patch_code.specs.Jobs.{all_copied, CanCopy}
use Rattle.patch_code.specs.Told.{Way, jobs_accesses}
use Rattle.patch_code.specs.Start.{StartPlan, AreStartWords, start_at as stub_start, start_bytes, start_run}
use Rattle.patch_code.specs.StubLaws.{IsAtStart, started}
use Rattle.patch_code.proofs.Starting.{start_runs_so}
use Rattle.relocator.specs.Laws.{slot_at}
use Rattle.result_laws.specs.Memories.{IsStarted, IsCurrent}
use Rattle.result_laws.specs.SwitchLaws.{CanStart}
use Rattle.result_laws.proofs.Setting.{setting}
use Rattle.result_laws.proofs.JobChosen.{InScratchpad, slot_inside}
use Rattle.result_laws.proofs.JobsFit.{start_fit}
use Rattle.result_laws.proofs.PatchHomes.{images_lie_so}
use Rattle.result_laws.proofs.Started.{start_moves_so}
use Rattle.simulation.specs.Relation.{Alike}
use Rattle.result_laws.specs.Pads.{PlanStands}
use Rattle.result_laws.specs.Home.{is_code_byte}
use Rattle.result_laws.specs.HomeLaws.{source_start, file_start, unnamed_in}
use Rattle.result_laws.proofs.Loaded.{IsKept}
use Rattle.result_laws.proofs.HomeStart.{alike_at_start}
use Rattle.result_laws.proofs.Kept.{object_kept, code_byte_kept}
use Rattle.result_laws.proofs.Ranges.{patch_lawful}
use Rattle.result_laws.proofs.SetupParts.{stub_in_patch, still_cases, in_scratchpad, off_control, off_scratchpad, number_in_patch, left_home, memory_byte, stub_behind}
use Rattle.result_laws.proofs.StartCells.{fixed_stands, object_stands, register_stands}
use Rattle.result_laws.proofs.Homes.{words_stand}
use Rattle.result_laws.specs.OverlaySetup.{is_copied, is_number_byte, is_left, image_byte, holds_copy}
use Rattle.result_laws.specs.SetupLaws.{IsOverlay}
use Rattle.result_laws.proofs.Copies.{copy_byte, inside_behind}
use Rattle.result_laws.proofs.OfChoice.{is_setup}
use Rattle.result_laws.proofs.PlanStanding.{starts, all_in, plan_stands}
use Rattle.result_laws.specs.ChosenPlacement.{ChosenPlacement, places_in}
use Rattle.result_laws.specs.PlacedView.{start_plan}
use Rattle.result_laws.specs.PlacedLaws.{IsPlacedResult}
use Rattle.result_laws.proofs.Elsewhere.{data_left}
use Rattle.result_laws.proofs.PlacedChosen.{is_overlay, holds_plan}

-- ---- bytes of a word that is 0

none_in_word : (a b c d : ℕ) → word_of a b c d ≡ 0 → (a ≡ 0) × ((b ≡ 0) × ((c ≡ 0) × (d ≡ 0)))
none_in_word a b c d none = (omega (arith, none), (omega (arith, none), (omega (arith, none), omega (arith, none))))

word_none : (m : Memory) (at : ℕ) → at + 4 ≤ 4294967296 → word_at m at ≡ 0 → (k : ℕ) → k < 4 → m (at + k) ≡ byte_of 0 k
word_none m at below none =
    let bytes = none_in_word (m at) (m (plus at 1)) (m (plus at 2)) (m (plus at 3)) none in
    each_of_four (λ k. m (at + k) ≡ byte_of 0 k) (ap m (omega arith) ∙ bytes.0) (ap m (omega (arith, below)) ∙ bytes.1.0)
    (ap m (omega (arith, below)) ∙ bytes.1.1.0) (ap m (omega (arith, below)) ∙ bytes.1.1.1)

-- the control words of a plan are 0
control_none : (plan : StartPlan) (first words rest : List ℕ) (mem : Memory) (at : ℕ) → AreStartWords plan first → words ≡ first ++ rest → HoldsAt mem at words → word_at mem at ≡ 0
control_none plan first words rest mem at (stub, (is, means)) whole holds =
    let first_word = subst (λ (xs : List ℕ). HoldsAt mem at (xs ++ rest)) is (subst (λ (xs : List ℕ). HoldsAt mem at xs) whole holds) in
    ap (word_at mem) (omega arith) ∙ first_word 0 (omega arith)

module _ (file out : List ℕ) (board : Board) (g : Graph) (c : Code) (pl : ChosenPlacement) (result : IsPlacedResult file out board g c pl) where
  open (setting file out board g c pl result) use {v, l, slots, images}

  abbrev image : Memory
  image = image_of (view_in out).segments

  abbrev place : Places
  place = places_in board g pl 0

  abbrev plan : StartPlan
  plan = start_plan v board g pl

  abbrev left : Memory
  left = all_copied image plan.jobs

  overlay : IsOverlay file board g pl.count pl.programme pl.choice images
  overlay = is_overlay file out board g c pl result

  can_start : CanStart v g pl.count board pl.programme pl.choice images
  can_start = starts file board g pl.count pl.programme pl.choice images image overlay

  moves : IsStarted g slots image left
  moves = start_moves_so.started v g pl.count board pl.programme pl.choice images image can_start

  -- ---- what the jobs leave

  -- they write the scratchpad alone
  left_off : (a : ℕ) → in_range board.spm a ≡ false → left a ≡ image a
  left_off a off =
      moves.elsewhere a
      (λ k i below static inside same.
      both_ways (in_range board.spm a) off
      (in_scratchpad file board g pl.count pl.programme pl.choice images image overlay a
      (subst (InScratchpad board) same (slot_inside v g pl.count board pl.programme pl.choice can_start.laid can_start.can k i below inside))))

  cell_stands : (a : ℕ) → IsKept v board a → is_code_byte v a ≡ false → CellStands place (moved_uppers place) ByLui (first_cell (image_of v.segments) g.data_words.items a) (image a)
  cell_stands a kept none =
      words_stand v (view_in out) place a g.data_words.items result.view.data_words (λ off. data_left file out board g c pl result a kept none off)

  -- ---- what stands still

  still_off : (a : ℕ) → (a < board.patch.base) ⊎ (board.patch.base + 64 ≤ a) → in_range board.spm a ≡ false → left a ≡ l.still 0 a
  still_off a control off =
      left_off a off ∙ sym (memory_byte file board g pl.count pl.programme pl.choice images image overlay 0 a control off)

  code_still : (a : ℕ) → is_code_byte v a ≡ true → left a ≡ l.still 0 a
  code_still a code =
      let kept = code_byte_kept file board g result.accepted a code in
      still_off a (off_control file board g pl.count pl.programme pl.choice images image overlay a kept.patch) kept.spm

  left_still : (a : ℕ) → is_left g slots 0 a ≡ true → left a ≡ l.still 0 a
  left_still a left_there =
      let found = left_home file board g pl.count pl.programme pl.choice images image overlay 0 a left_there in
      let kept = object_kept file board g result.accepted found.o (a - (object_of g found.o).home) found.lies.below in
      let here = subst (IsKept v board) found.lies.there kept in
      still_off a (off_control file board g pl.count pl.programme pl.choice images image overlay a here.patch) here.spm

  plan_there : PlanStands result.view.plan result.view.words l 0
  plan_there =
      plan_stands file board g pl.count pl.programme pl.choice images image overlay result.view.plan result.view.words
      (holds_plan file out board g c pl result) 0 (omega arith)

  -- the region's number is 0
  number_still : (a : ℕ) → is_number_byte board a ≡ true → left a ≡ l.still 0 a
  number_still a number =
      let base = result.view.planned.lies.base in
      let lies = inside_behind board.patch.base 4 a number in
      let k : ℕ = a - board.patch.base in
      let ends = (patch_lawful board result.accepted.lawful).within in
      let some = (patch_lawful board result.accepted.lawful).some in
      let whole = result.accepted.lawful.patch.size in
      let none =
      control_none result.view.plan.start result.view.are.first result.view.words _ image board.patch.base result.view.are.starts
      result.view.are.whole result.view.holds in
      let off =
      off_scratchpad file board g pl.count pl.programme pl.choice images image overlay a
      (number_in_patch file board g pl.count pl.programme pl.choice images image overlay a number) in
      let here : image (board.patch.base + k) ≡ byte_of 0 k =
      word_none image board.patch.base (omega (arith, ends, some, whole)) none k lies.below in
      let there : l.still 0 (board.patch.base + k) ≡ byte_of 0 k =
      subst (λ (b : ℕ). l.still 0 (b + k) ≡ byte_of 0 k) base (plan_there.number k lies.below) in
      left_off a off ∙ subst (λ (b : ℕ). image b ≡ l.still 0 b) lies.there (here ∙ sym there)

  current : IsCurrent g slots images (image_byte images image) 0 left
  current =
      start_moves_so.current v g pl.count board pl.programme pl.choice images (image_byte images image) image can_start (λ k i of below. refl)

  copy_still : (a : ℕ) → is_copied slots images 0 a ≡ true → left a ≡ l.still 0 a
  copy_still a copied =
      let found = any_found (holds_copy slots images 0 a) (length slots) copied in
      let k : ℕ = found.0 in
      let byte = copy_byte slots images 0 a k found.2 in
      let i : ℕ = a - (slot_at slots k).at in
      let setup = is_setup file board g pl.count pl.programme pl.choice images image overlay in
      subst (λ (b : ℕ). left b ≡ l.still 0 b) byte.lies.there
      (current.copies k i (found.1, byte.code) byte.here byte.lies.below
      ∙ sym (setup.copies 0 k i (omega arith) (found.1, byte.code) byte.here byte.lies.below).1)

  still : (a : ℕ) → l.is_still 0 a ≡ true → left a ≡ l.still 0 a
  still a there =
      still_cases file board g pl.count pl.programme pl.choice images image overlay (left a ≡ l.still 0 a) 0 a there (code_still a)
      (λ stub.
      still_off a (inr (stub_behind file board g pl.count pl.programme pl.choice images image overlay a stub))
      (off_scratchpad file board g pl.count pl.programme pl.choice images image overlay a (stub_in_patch board a stub)))
      (number_still a) (copy_still a) (left_still a)

  -- ---- the stub runs

  small : (a : ℕ) → image a < 256
  small a = (start_words 0 (view_in out).segments (mapped_ranges board) [] (omega arith) result.view.loadable (All-nil _)).hart.mem a

  can_copy : All (CanCopy (mapped_ranges board)) plan.jobs
  can_copy =
      let have = (images_lie_so v board g slots images can_start.laid overlay.lie).1 in
      all_in file board g pl.count pl.programme pl.choice images image overlay plan.jobs
      (start_fit v g pl.count board pl.programme pl.choice images can_start have)

  at_stub : (input : List ℕ) → IsAtStart result.view.plan.start result.view.words (file_start out board input)
  at_stub input =
      record {
        going = refl;
        pc = result.view.entry;
        bytes = small;
        words = subst (λ (a : ℕ). HoldsAt image a result.view.words) (sym result.view.planned.lies.base) result.view.holds;
        fetched = plan_there.mapped;
        copied = subst (λ (x : StartPlan). All (CanCopy (mapped_ranges board)) x.jobs) (sym result.view.planned.start) can_copy;
      }

  -- its words run with the accesses of its jobs
  pub stub_way : (input : List ℕ) → Way (stub_start plan) (start_bytes plan) (start_run plan) (jobs_accesses plan.jobs) (file_start out board input) (started plan (file_start out board input))
  stub_way input =
      subst (λ (x : StartPlan). Way (stub_start x) (start_bytes x) (start_run x) (jobs_accesses x.jobs) (file_start out board input) (started x (file_start out board input))) result.view.planned.start
      (start_runs_so result.view.plan.start result.view.words (file_start out board input) result.view.planned.can.start
      (result.view.are.first, (_, (result.view.are.starts, result.view.are.whole))) (at_stub input))

  pub stub_runs : (input : List ℕ) → flat.Steps (start_run plan) (file_start out board input) (started plan (file_start out board input))
  stub_runs input =
      let way = stub_way input in
      subst (λ (n : ℕ). flat.Steps n (file_start out board input) (started plan (file_start out board input))) way.count
      (steps_of_events way.events (file_start out board input) (started plan (file_start out board input)) way.does)

  entry_below : (view_in out).entry < 4294967296
  entry_below =
      let entry = result.view.entry in
      let ends = result.view.planned.can.start.ends in
      omega (arith, entry, ends)

  -- whichever registers matter
  pub start_alike : (live : ℕ → ℕ → Type 0) (input : List ℕ) → AreBytes input → Alike (unnamed_in file board g) l live 0 v.entry (source_start file board g input) at_start (started plan (file_start out board input))
  start_alike live input bytes =
      let home = alike_at_start file board g result.accepted input bytes in
      record {
        regs = λ k lives. register_stands (objects_of g) place k;
        values = λ k lives. home.values k tt;
        fixed = fixed_stands file board g result.accepted place image left left_off cell_stands;
        cells = object_stands file board g result.accepted place image left moves.moved cell_stands;
        fixed_words = home.fixed_words;
        cell_words = home.cell_words;
        still = still;
        map = refl;
        going = refl;
        source_going = refl;
        words =
            steps_words keeps_words (start_run plan) (file_start out board input) (started plan (file_start out board input))
            (start_words (view_in out).entry (view_in out).segments (mapped_ranges board) input entry_below result.view.loadable bytes) (stub_runs input);
        input = refl;
        output = refl;
      }
