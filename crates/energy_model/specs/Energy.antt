-- The energy of a run under a choice of what stands in the scratchpad: the sum of its steps, in price units.
use Rattle.std.specs.Prelude.{ℕ, zero, suc, ◌+◌, ◌-◌, ◌*◌, ◌/◌, ◌%◌, ◌==◌, nat_lt, nat_le, Bool, true, false, not, ◌&&◌, ◌||◌, List, [], ◌∷◌, map, length, slice_index_or, Option, Some, None, is_some, if◌then◌else◌}
use Rattle.std.specs.List.{list_any, sum_by}
use Rattle.rv32im.specs.declared.instructions.Instr.{Instr}
use Rattle.rv32im.specs.declared.instructions.Instr.TheVariants.{Load, Store}
use Rattle.board_config.specs.declared.board.Board.{Board}
use Rattle.board_config.specs.declared.board.Prices.{Prices}
use Rattle.object_graph.specs.declared.parts.Graph.{Graph}
use Rattle.object_graph.specs.declared.parts.Object.{Object}
use Rattle.cell_values.specs.Objects.{object_of}
use Rattle.code_blocks.specs.Blocks.{start_of}
use Rattle.code_blocks.specs.declared.parts.Block.{Block}
use Rattle.code_blocks.specs.declared.ends.End.{End}
use Rattle.code_blocks.specs.declared.ends.End.TheVariants as end
use Rattle.object_machine.specs.declared.events.Access.{Access}
use Rattle.placement_programme.specs.declared.variables.VarName.{VarName}
use Rattle.placement_programme.specs.declared.variables.VarName.TheVariants.{StaticData, StaticCode, OverlayData, OverlayCode, KeptData}
use Rattle.placement_programme.specs.Rows.{first_twin, second_twin}
use Rattle.profile_runner.specs.Transition.{Transition, transition_at}
use Rattle.profile_runner.specs.Standing.{begins, block_of, units_run, current}
use Rattle.list_checks.specs.Sorted.{sum_below}
use Rattle.block_splitter.specs.declared.block_range.BlockRange.{BlockRange}
use Rattle.block_splitter.specs.Forms.{Body, body_at, unit_in, is_last, is_site, kind_of, holds_block, begins_in, copied_words, fall_out_words, displaced_words, copy_words}

-- ---- what a choice is about

-- the code, its objects, its regions, and the board that tells the prices
pub record Scene : Type 0 where
  pub blocks : List Block
  pub graph : Graph
  pub regions : List ℕ
  pub borders : List Bool
  pub region_count : ℕ
  pub board : Board

-- a choice: whether there is overlay, and what is taken
pub record Taken : Type 0 where
  pub on : Bool
  pub names : List VarName

-- nothing is taken
abbrev pub nothing_taken : Taken
nothing_taken = record { on = false; names = [] }

-- ---- where things stand under a choice

-- what of code a variable copies
abbrev pub piece_in : VarName → Option BlockRange
piece_in (StaticData o) = None
piece_in (StaticCode first last) = Some (record { first = first; last = last })
piece_in (OverlayData r o) = None
piece_in (OverlayCode r first last) = Some (record { first = first; last = last })
piece_in (KeptData pair o) = None

abbrev pub covering : ℕ → Option BlockRange → Option BlockRange → Option BlockRange
covering b None other = other
covering b (Some piece) other = if holds_block b piece then Some piece else other

-- the piece of which block `b` is copied, if it is; a block that is copied for a region runs while that is current
abbrev pub piece_of : List VarName → ℕ → Option BlockRange
piece_of [] b = None
piece_of (name ∷ names) b = covering b (piece_in name) (piece_of names b)

-- a region is one of the twins of a pair
abbrev pub is_of_pair : ℕ → ℕ → Bool
is_of_pair pair r = (r == first_twin pair) || (r == second_twin pair)

-- a variable brings object `o` into the scratchpad while region `r` is current
abbrev pub brings : ℕ → ℕ → VarName → Bool
brings o r (StaticData object) = o == object
brings o r (StaticCode first last) = false
brings o r (OverlayData region object) = (o == object) && (r == region)
brings o r (OverlayCode region first last) = false
brings o r (KeptData pair object) = (o == object) && is_of_pair pair r

abbrev pub is_fast : List VarName → ℕ → ℕ → Bool
is_fast names o r = list_any (brings o r) names

-- ---- the places of a run

abbrev pub starts_of : Scene → List ℕ
starts_of w = map start_of w.blocks

abbrev pub block_in : Scene → ℕ → Body
block_in w b = body_at w.blocks b

-- the block that begins at an address is of a piece
abbrev pub is_inside : Scene → BlockRange → ℕ → Bool
is_inside w piece a = begins_in (starts_of w) piece a

-- control enters the region of block `b` there, and a check is made
abbrev pub is_checked : Scene → Taken → ℕ → Bool
is_checked w c b = c.on && slice_index_or w.borders b false

-- the block and the unit of transition `i`, from 0, and the regions before it and with it
abbrev pub block_at : Scene → List Transition → ℕ → ℕ
block_at w transitions i = block_of (starts_of w) transitions i

abbrev pub unit_number : Scene → List Transition → ℕ → ℕ
unit_number w transitions i = units_run (starts_of w) transitions i - 1

abbrev pub region_before : Scene → List Transition → ℕ → ℕ
region_before w transitions i = current (starts_of w) w.regions transitions i

abbrev pub region_with : Scene → List Transition → ℕ → ℕ
region_with w transitions i = current (starts_of w) w.regions transitions (suc i)

-- ---- the words of a step

-- in a copy
abbrev pub words_in_piece : Scene → BlockRange → Body → ℕ → ℕ → ℕ
words_in_piece w piece b k next =
    copied_words (is_inside w piece) next (kind_of (is_site w.graph) b k)
    + (if is_last b k then fall_out_words (is_inside w piece) next b.end else 0)

-- at home, or behind a check: only the first unit of a block is displaced
abbrev pub words_at_home : Scene → Bool → Body → ℕ → ℕ
words_at_home w checked b k =
    if checked && (k == 0) then displaced_words (kind_of (is_site w.graph) b k) else (unit_in b k).words

-- a step that exits or traps fetches its own word alone
abbrev pub form_words : Option BlockRange → Scene → Bool → Body → ℕ → Transition → ℕ
form_words (Some piece) w checked b k m = if m.goes_on then words_in_piece w piece b k m.next else 1
form_words None w checked b k m = if m.goes_on then words_at_home w checked b k else 1

abbrev pub fetch_price : Option BlockRange → Prices → ℕ
fetch_price (Some piece) prices = prices.spm_fetch
fetch_price None prices = prices.main_fetch

abbrev pub words_price : Scene → Taken → List Transition → ℕ → ℕ
words_price w c transitions i =
    form_words (piece_of c.names (block_at w transitions i)) w (is_checked w c (block_at w transitions i))
    (block_in w (block_at w transitions i)) (unit_number w transitions i) (transition_at transitions i)
    * fetch_price (piece_of c.names (block_at w transitions i)) w.board.prices

-- ---- the data access of a step

abbrev pub read_price : Bool → Prices → ℕ
read_price fast prices = if fast then prices.spm_read else prices.main_read

abbrev pub write_price : Bool → Prices → ℕ
write_price fast prices = if fast then prices.spm_write else prices.main_write

-- the object of an access is in the scratchpad; memory that never moves is not
abbrev pub is_fast_access : List VarName → ℕ → Option Access → Bool
is_fast_access names r None = false
is_fast_access names r (Some a) = is_fast names a.object r

abbrev pub data_price : Prices → Bool → Option Instr → ℕ
data_price prices fast (Some (Load kind rd rs1 imm)) = read_price fast prices
data_price prices fast (Some (Store kind rs1 rs2 imm)) = write_price fast prices
data_price prices fast other = 0

-- what a unit loads or stores, as an instruction; a call of two words does neither
abbrev pub access_price : Scene → Taken → List Transition → ℕ → ℕ
access_price w c transitions i =
    if (transition_at transitions i).goes_on
    then data_price w.board.prices (is_fast_access c.names (region_with w transitions i) (transition_at transitions i).access)
    (unit_in (block_in w (block_at w transitions i)) (unit_number w transitions i)).instr
    else 0

-- ---- the way to a block

-- an edge stays in a piece where both blocks are of it and the first ends in no call and no jump by a register
abbrev pub may_stay : End → Bool
may_stay (end.Fall next) = true
may_stay (end.Branch target next) = true
may_stay (end.Jump target) = true
may_stay other = false

abbrev pub is_internal : Scene → BlockRange → List Transition → ℕ → Bool
is_internal w piece transitions zero = false
is_internal w piece transitions (suc i) =
    holds_block (block_at w transitions i) piece && may_stay (block_in w (block_at w transitions i)).end

-- a pad and a stub lead to a copy, or to a check and from there to a copy or back
abbrev pub arrival_words : Bool → Bool → ℕ
arrival_words copied checked = if checked then (if copied then 7 else 5) else if copied then 3 else 0

abbrev pub arrival_price : Prices → Bool → Bool → ℕ
arrival_price prices copied checked =
    arrival_words copied checked * prices.main_fetch + (if checked then prices.main_read else 0)

abbrev pub comes_from_outside : Scene → Option BlockRange → List Transition → ℕ → Bool
comes_from_outside w None transitions i = true
comes_from_outside w (Some piece) transitions i = not (is_internal w piece transitions i)

abbrev pub way_price : Scene → Taken → List Transition → ℕ → ℕ
way_price w c transitions i =
    if begins (starts_of w) transitions i && comes_from_outside w (piece_of c.names (block_at w transitions i)) transitions i
    then arrival_price w.board.prices (is_some (piece_of c.names (block_at w transitions i)))
    (is_checked w c (block_at w transitions i))
    else 0

-- ---- copying

-- a copy loop of `n` rounds, from memory with one price of a read to memory with one of a write
abbrev pub job_price : Prices → ℕ → ℕ → ℕ → ℕ
job_price prices read write n = (6 + 5 * n) * prices.main_fetch + n * read + n * write

-- an object is copied by words where its home and its size are multiples of 4, and else by bytes
abbrev pub object_rounds : Object → ℕ
object_rounds o = if (o.home % 4 == 0) && (o.size % 4 == 0) then o.size / 4 else o.size

-- a copy of a piece is a whole number of words
abbrev pub piece_rounds : Scene → BlockRange → ℕ
piece_rounds w piece = copy_words (is_site w.graph) w.blocks piece

abbrev pub into_price : Prices → ℕ → ℕ
into_price prices n = job_price prices prices.main_read prices.spm_write n

abbrev pub back_price : Prices → ℕ → ℕ
back_price prices n = job_price prices prices.spm_read prices.main_write n

-- what a variable copies at the start, when its region becomes current, and when that ceases to be
abbrev pub start_job : Scene → VarName → ℕ
start_job w (StaticData o) = into_price w.board.prices (object_rounds (object_of w.graph o))
start_job w (StaticCode first last) = into_price w.board.prices (piece_rounds w (record { first = first; last = last }))
start_job w other = 0

abbrev pub enter_job : Scene → ℕ → VarName → ℕ
enter_job w r (OverlayData region o) =
    if r == region then into_price w.board.prices (object_rounds (object_of w.graph o)) else 0
enter_job w r (OverlayCode region first last) =
    if r == region then into_price w.board.prices (piece_rounds w (record { first = first; last = last })) else 0
enter_job w r other = 0

abbrev pub leave_job : Scene → ℕ → VarName → ℕ
leave_job w s (OverlayData region o) =
    if (s == region) && (object_of w.graph o).writable
    then back_price w.board.prices (object_rounds (object_of w.graph o))
    else 0
leave_job w s other = 0

-- region `to` is of a pair, and `from` isn't
abbrev pub comes_to_pair : ℕ → ℕ → ℕ → Bool
comes_to_pair pair from to = is_of_pair pair to && not (is_of_pair pair from)

-- what a variable copies that is kept for a pair where the current region changes from `s` to `r`: in where that comes to
-- the pair from outside, back where it leaves the pair, and nothing between its twins
abbrev pub kept_enter_job : Scene → ℕ → ℕ → VarName → ℕ
kept_enter_job w s r (KeptData pair o) =
    if comes_to_pair pair s r then into_price w.board.prices (object_rounds (object_of w.graph o)) else 0
kept_enter_job w s r other = 0

abbrev pub kept_leave_job : Scene → ℕ → ℕ → VarName → ℕ
kept_leave_job w s r (KeptData pair o) =
    if comes_to_pair pair r s && (object_of w.graph o).writable
    then back_price w.board.prices (object_rounds (object_of w.graph o))
    else 0
kept_leave_job w s r other = 0

-- ---- changes of the current region

abbrev pub fence_words : Board → ℕ
fence_words board = if board.fence_i then 1 else 0

-- the tests of the routine that copies: three words a region, but two at the one that is met
abbrev pub test_words : ℕ → ℕ → ℕ
test_words regions zero = 3 * regions
test_words regions (suc s) = 3 * regions - 1

-- regions 1 and 2 are twins, 3 and 4, and so on, where the board has twins; the last has none where their count is odd
abbrev pub twin_of : ℕ → ℕ
twin_of zero = 0
twin_of (suc r) = if r % 2 == 0 then r + 2 else r

abbrev pub has_twin : ℕ → ℕ → Bool
has_twin regions r = nat_lt 0 r && nat_le (twin_of r) regions

-- the test of a region that is met for its twin: three words where that is the other region, and else two
abbrev pub twin_words : ℕ → ℕ → ℕ → ℕ
twin_words regions r other = if has_twin regions r then (if twin_of r == other then 3 else 2) else 0

abbrev pub twins_words : Scene → ℕ → ℕ → ℕ
twins_words w s r = if w.board.twins then twin_words w.region_count s r + twin_words w.region_count r s else 0

abbrev pub switch_words : Scene → ℕ → ℕ → ℕ
switch_words w s r =
    18 + 2 + test_words w.region_count s + test_words w.region_count r + twins_words w s r + 3 + fence_words w.board

abbrev pub switch_price : Scene → List VarName → ℕ → ℕ → ℕ
switch_price w names s r =
    switch_words w s r * w.board.prices.main_fetch
    + 8 * w.board.prices.main_read
    + 8 * w.board.prices.main_write
    + sum_by (leave_job w s) names
    + sum_by (enter_job w r) names
    + sum_by (kept_leave_job w s r) names
    + sum_by (kept_enter_job w s r) names

abbrev pub change_price : Scene → Taken → List Transition → ℕ → ℕ
change_price w c transitions i =
    if c.on && not (region_before w transitions i == region_with w transitions i)
    then switch_price w c.names (region_before w transitions i) (region_with w transitions i)
    else 0

-- ---- the sum

abbrev pub step_energy : Scene → Taken → List Transition → ℕ → ℕ
step_energy w c transitions i =
    words_price w c transitions i + access_price w c transitions i + way_price w c transitions i + change_price w c transitions i

abbrev pub steps_energy : Scene → Taken → List Transition → ℕ
steps_energy w c transitions = sum_below (step_energy w c transitions) (length transitions)

-- the start stub: its jobs, four words that clear registers, a jump, and a fence where the board asks for one
abbrev pub stub_energy : Scene → Taken → ℕ
stub_energy w c = sum_by (start_job w) c.names + (5 + fence_words w.board) * w.board.prices.main_fetch

-- the energy on a side, whatever is taken: with its start stub
abbrev pub side_energy : Scene → Taken → List Transition → ℕ
side_energy w c transitions = stub_energy w c + steps_energy w c transitions

-- where nothing is taken and there is no overlay, the program is handed on as it is
abbrev pub is_nothing : Taken → Bool
is_nothing c = not c.on && (length c.names == 0)

abbrev pub energy : Scene → Taken → List Transition → ℕ
energy w c transitions = if is_nothing c then steps_energy w c transitions else side_energy w c transitions
