-- What a run costs more where there is overlay and nothing is taken, as it is counted from the tables of a profile: checks
-- where control enters a region, first units that are displaced there, and changes of the current region.
use Rattle.std.specs.Prelude.{◌≡◌, ℕ, suc, ◌+◌, ◌-◌, ◌*◌, ◌<◌, ◌≤◌, ◌==◌, Bool, true, false, not, ◌&&◌, if◌then◌else◌, List, [], ◌∷◌, length, slice_index_or}
use Rattle.list_checks.specs.Sorted.{sum_below}
use Rattle.elf_reader.specs.declared.view.ElfView.{ElfView}
use Rattle.board_config.specs.declared.board.Board.{Board}
use Rattle.board_config.specs.declared.board.Prices.{Prices}
use Rattle.object_graph.specs.declared.parts.Graph.{Graph}
use Rattle.code_blocks.specs.declared.parts.Code.{Code}
use Rattle.region_former.specs.declared.table.RegionTable.{RegionTable}
use Rattle.cell_values.specs.Objects.{object_of}
use Rattle.profile_runner.specs.Transition.{Transition, is_going}
use Rattle.profile_runner.specs.Counts.{plain_rows, entry}
use Rattle.profile_runner.specs.declared.counts.Profile.{Profile}
use Rattle.placement_programme.specs.declared.variables.VarName.{VarName}
use Rattle.placement_programme.specs.declared.variables.VarName.TheVariants.{StaticCode, OverlayData, OverlayCode, KeptData}
use Rattle.placement_programme.specs.Rows.{first_twin, second_twin}
use Rattle.block_splitter.specs.declared.block_range.BlockRange.{BlockRange}
use Rattle.block_splitter.specs.Forms.{holds_block, body_at, unit_in, is_site, kind_of, displaced_words}
use Rattle.energy_model.specs.Energy.{Scene, nothing_taken, read_price, write_price, arrival_price, object_rounds, into_price, back_price, start_job, enter_job, leave_job, switch_price, steps_energy, side_energy}
use Rattle.energy_model.specs.Copied.{arrivals_in, home_words, copy_words_run, came_in, came_to}
use Rattle.energy_model.specs.Scenes.{scene_of, AreOfSameFile}
use Rattle.energy_model.specs.Priced.{range}
use Rattle.energy_model.specs.Together.{taken}

-- a value of the blocks by which control enters a region, of the first `n`
abbrev pub at_borders : List Bool → (ℕ → ℕ) → ℕ → ℕ
at_borders borders value n = sum_below (λ b. if slice_index_or borders b false then value b else 0) n

-- ---- checks: one each time that such a block begins

abbrev pub checks_in : Profile → List Bool → ℕ → ℕ
checks_in q borders n = at_borders borders (arrivals_in q) n

-- ---- displaced units

-- the run ended with the first unit of block `b`, of which one word ran then
abbrev pub ends_first : Profile → ℕ → Bool
ends_first q b = (b == q.last.0) && (q.last.1 == 1) && not (is_going q.outcome)

-- how often the first unit of block `b` ran and the machine went on
abbrev pub first_runs : Profile → ℕ → ℕ
first_runs q b = arrivals_in q b - (if ends_first q b then 1 else 0)

-- the words of first units where control enters regions: those that run displaced, and those that would at home
abbrev pub displaced_run : Code → Graph → Profile → List Bool → ℕ
displaced_run c g q borders =
    at_borders borders (λ b. first_runs q b * displaced_words (kind_of (is_site g) (body_at c.blocks.items b) 0)) (length c.blocks.items)

abbrev pub first_words : Code → Profile → List Bool → ℕ
first_words c q borders =
    at_borders borders (λ b. first_runs q b * (unit_in (body_at c.blocks.items b) 0).words) (length c.blocks.items)

-- ---- changes of the current region, without what they copy

abbrev pub changes_from : Scene → Profile → ℕ → ℕ → ℕ
changes_from w q s n = sum_below (λ r. entry (plain_rows q.switches.items) s r * switch_price w [] s r) n

abbrev pub changes_price : Scene → Profile → ℕ
changes_price w q = sum_below (λ s. changes_from w q s (suc w.region_count)) (suc w.region_count)

-- ---- all of it

abbrev pub checks_price : Prices → Profile → List Bool → ℕ → ℕ
checks_price prices q borders n = checks_in q borders n * arrival_price prices false true

-- the energy with overlay and nothing taken, and the words that would run at home, are the energy without overlay and what is
-- counted
abbrev pub OverlayIsCounted : Type 0
OverlayIsCounted =
    (view : ElfView) (board : Board) (g : Graph) (c : Code) (t : RegionTable) (q : Profile) (transitions : List Transition)
    → AreOfSameFile view board g c t q transitions
    → steps_energy (scene_of g c t board) (taken true []) transitions + first_words c q t.border.items * board.prices.main_fetch
    ≡ steps_energy (scene_of g c t board) nothing_taken transitions
    + checks_price board.prices q t.border.items (length c.blocks.items)
    + displaced_run c g q t.border.items * board.prices.main_fetch
    + changes_price (scene_of g c t board) q

-- ---- an object that is overlaid in region `r`

abbrev pub reads_in : Profile → ℕ → ℕ → ℕ
reads_in q o r = entry (plain_rows q.reads.items) o r

abbrev pub writes_in : Profile → ℕ → ℕ → ℕ
writes_in q o r = entry (plain_rows q.writes.items) o r

abbrev pub accesses_price : Prices → Bool → ℕ → ℕ → ℕ
accesses_price prices fast reads writes = reads * read_price fast prices + writes * write_price fast prices

-- its copies: one each time that the region becomes current, and where it is writable one back when that ceases to be
abbrev pub object_copies : Scene → Profile → ℕ → ℕ → ℕ
object_copies w q r o =
    slice_index_or q.enters.items r 0 * enter_job w r (OverlayData r o) + slice_index_or q.leaves.items r 0 * leave_job w r (OverlayData r o)

-- what it costs, and its accesses at home, are the energy without it, its accesses in the scratchpad, and its copies
abbrev pub ObjectIsCounted : Type 0
ObjectIsCounted =
    (view : ElfView) (board : Board) (g : Graph) (c : Code) (t : RegionTable) (q : Profile) (transitions : List Transition) (r o : ℕ)
    → AreOfSameFile view board g c t q transitions → r ≤ t.count → o < length g.objects.items
    → side_energy (scene_of g c t board) (taken true (OverlayData r o ∷ [])) transitions
    + accesses_price board.prices false (reads_in q o r) (writes_in q o r)
    ≡ side_energy (scene_of g c t board) (taken true []) transitions
    + accesses_price board.prices true (reads_in q o r) (writes_in q o r)
    + object_copies (scene_of g c t board) q r o

-- ---- an object that is kept for a pair of regions

-- a count of either region, summed, and how often the current region changed from one twin to the other
abbrev pub of_both : (ℕ → ℕ) → ℕ → ℕ
of_both count pair = count (first_twin pair) + count (second_twin pair)

abbrev pub twin_switches : Profile → ℕ → ℕ
twin_switches q pair =
    entry (plain_rows q.switches.items) (first_twin pair) (second_twin pair)
    + entry (plain_rows q.switches.items) (second_twin pair) (first_twin pair)

-- how often the current region came to the pair from outside, and left it
abbrev pub outer_enters : Profile → ℕ → ℕ
outer_enters q pair = of_both (λ r. slice_index_or q.enters.items r 0) pair - twin_switches q pair

abbrev pub outer_leaves : Profile → ℕ → ℕ
outer_leaves q pair = of_both (λ r. slice_index_or q.leaves.items r 0) pair - twin_switches q pair

-- its copies: one each time that the pair is entered from outside, and where it is writable one back when it is left
abbrev pub kept_copies : Scene → Profile → ℕ → ℕ → ℕ
kept_copies w q pair o =
    outer_enters q pair * into_price w.board.prices (object_rounds (object_of w.graph o))
    + outer_leaves q pair * (if (object_of w.graph o).writable then back_price w.board.prices (object_rounds (object_of w.graph o)) else 0)

-- what it costs, and its accesses at home in both regions, are the energy without it, these in the scratchpad, and its copies
abbrev pub KeptIsCounted : Type 0
KeptIsCounted =
    (view : ElfView) (board : Board) (g : Graph) (c : Code) (t : RegionTable) (q : Profile) (transitions : List Transition) (pair o : ℕ)
    → AreOfSameFile view board g c t q transitions → 1 ≤ pair → 2 * pair ≤ t.count → o < length g.objects.items
    → side_energy (scene_of g c t board) (taken true (KeptData pair o ∷ [])) transitions
    + accesses_price board.prices false (of_both (reads_in q o) pair) (of_both (writes_in q o) pair)
    ≡ side_energy (scene_of g c t board) (taken true []) transitions
    + accesses_price board.prices true (of_both (reads_in q o) pair) (of_both (writes_in q o) pair)
    + kept_copies (scene_of g c t board) q pair o

-- ---- a piece of code, throughout or while region `r` is current

-- control enters a region by block `b` of a piece
abbrev pub is_entered : List Bool → BlockRange → ℕ → Bool
is_entered borders piece b = slice_index_or borders b false && holds_block b piece

-- what checks and displaced units of a piece cost without it, and the words that these would run at home
abbrev pub entering_price : Code → Graph → Prices → Profile → List Bool → BlockRange → ℕ
entering_price c g prices q borders piece =
    sum_below (λ b. if is_entered borders piece b then arrivals_in q b else 0) (length c.blocks.items) * arrival_price prices false true
    + sum_below (λ b. if is_entered borders piece b then first_runs q b * displaced_words (kind_of (is_site g) (body_at c.blocks.items b) 0) else 0) (length c.blocks.items)
    * prices.main_fetch

abbrev pub entered_words : Code → Profile → List Bool → BlockRange → ℕ
entered_words c q borders piece =
    sum_below (λ b. if is_entered borders piece b then first_runs q b * (unit_in (body_at c.blocks.items b) 0).words else 0) (length c.blocks.items)

-- its words in a copy, and a stub each time that control comes from outside: four more fetches and a read where it is checked
abbrev pub copied_price : Code → Graph → Prices → Profile → List Bool → BlockRange → ℕ
copied_price c g prices q borders piece =
    copy_words_run c g q piece * prices.spm_fetch
    + came_in c q piece * (3 * prices.main_fetch)
    + came_to c q piece (is_entered borders piece) * (4 * prices.main_fetch + prices.main_read)

-- what a name costs that copies a piece, by its copies
abbrev pub PieceCosts : ElfView → Board → Graph → Code → RegionTable → Profile → List Transition → BlockRange → VarName → ℕ → Type 0
PieceCosts view board g c t q transitions piece name copies =
    side_energy (scene_of g c t board) (taken true (name ∷ [])) transitions
    + home_words c g q piece * board.prices.main_fetch
    + entering_price c g board.prices q t.border.items piece
    ≡ side_energy (scene_of g c t board) (taken true []) transitions
    + entered_words c q t.border.items piece * board.prices.main_fetch
    + copied_price c g board.prices q t.border.items piece
    + copies

abbrev pub PieceIsCounted : Type 0
PieceIsCounted =
    (view : ElfView) (board : Board) (g : Graph) (c : Code) (t : RegionTable) (q : Profile) (transitions : List Transition) (first last r : ℕ)
    → AreOfSameFile view board g c t q transitions → r ≤ t.count
    → PieceCosts view board g c t q transitions (range first last) (StaticCode first last) (start_job (scene_of g c t board) (StaticCode first last))
    × PieceCosts view board g c t q transitions (range first last) (OverlayCode r first last)
    (slice_index_or q.enters.items r 0 * enter_job (scene_of g c t board) r (OverlayCode r first last))
