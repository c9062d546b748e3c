-- The rows of a placement, what they can hold, and what each variable puts into them.
--
-- On the off side nothing is overlaid. On the on side the rows of space are those of the regions 0 to R, region 0
-- being where no region is entered yet.
--
--     side  row                                          capacity
--     off   0                                            bytes of the scratchpad
--     off   1                                            bytes of the patch range behind the start stub
--     off   2 + b, for block b                           1
--     on    r, for r from 0 to R                         bytes of the scratchpad
--     on    R + 1                                        bytes of the patch range behind the fixed bytes
--     on    R + 2 + b, for block b                       1
--     on    R + 2 + blocks + o * R + r - 1, for          1
--           object o and region r from 1 to R
--
-- Where the board asks for twins, regions 2k - 1 and 2k are pair k of twins, and an object may be kept for a pair.
use Rattle.std.specs.Prelude.{ℕ, zero, suc, ◌+◌, ◌-◌, ◌*◌, ◌/◌, ◌%◌, ◌==◌, nat_lt, ◌<◌, ◌≤◌, Bool, true, false, if◌then◌else◌, IsTrue, List, [], ◌∷◌, ◌++◌, length, replicate}
use Rattle.std.specs.List.{sum_by, AllPairs}
use Rattle.placement_programme.specs.declared.variables.VarName.{VarName}
use Rattle.placement_programme.specs.declared.variables.VarName.TheVariants.{StaticData, StaticCode, OverlayData, OverlayCode, KeptData}

-- what the rows depend on
pub record Layout : Type 0 where
  -- sizes of the scratchpad and of the patch range, in bytes
  pub scratchpad : ℕ
  pub patch : ℕ
  -- FENCE.I stands behind the copies of the start stub and of the switch routine
  pub fence_i : Bool
  -- objects may be kept for pairs of regions
  pub twins : Bool
  -- how many blocks, objects that may move, and regions there are
  pub blocks : ℕ
  pub objects : ℕ
  pub regions : ℕ
  -- for each border entry, the words of its displaced first unit
  pub displaced : List ℕ
  -- places keep their distance from a multiple of the grain, in bytes
  pub grain : ℕ

-- an object that may move
pub record Datum : Type 0 where
  pub number : ℕ
  pub home : ℕ
  pub size : ℕ
  pub writable : Bool

-- a piece of code: its first and last block, the bytes of its copy, how many of its outer entries are no border
-- entries, and for each that is one the words of its displaced first unit
pub record Part : Type 0 where
  pub first : ℕ
  pub last : ℕ
  pub copied : ℕ
  pub plain_entries : ℕ
  pub border_entries : List ℕ

-- what a variable stands for: a static item, one that is overlaid in a region, or an object that is kept for a pair
pub data Candidate : Type 0 where
  static_data : Datum → Candidate
  static_code : Part → Candidate
  overlay_data : ℕ → Datum → Candidate
  overlay_code : ℕ → Part → Candidate
  kept_data : ℕ → Datum → Candidate

-- the name of its variable
abbrev pub name_of : Candidate → VarName
name_of (static_data o) = StaticData o.number
name_of (static_code c) = StaticCode c.first c.last
name_of (overlay_data r o) = OverlayData r o.number
name_of (overlay_code r c) = OverlayCode r c.first c.last
name_of (kept_data pair o) = KeptData pair o.number

-- the twins of a pair, and how many pairs there are
abbrev pub first_twin : ℕ → ℕ
first_twin pair = 2 * pair - 1

abbrev pub second_twin : ℕ → ℕ
second_twin pair = 2 * pair

abbrev pub pairs_of : Bool → ℕ → ℕ
pairs_of twins regions = if twins then regions / 2 else 0

-- `n` rounded up to a multiple of the grain
abbrev pub rounded_up : ℕ → ℕ → ℕ
rounded_up grain n = (n + (grain - 1)) / grain * grain

-- the bytes of the scratchpad that an object takes, with those before it in its first chunk, and that a piece takes
abbrev pub data_span : ℕ → Datum → ℕ
data_span grain o = rounded_up grain (o.home % grain + o.size)

abbrev pub code_span : ℕ → Part → ℕ
code_span grain c = rounded_up grain c.copied

-- the patch bytes that no variable changes: control words and start stub without jobs; on the on side also a checking
-- stub for each border entry, and the switch routine, with two tests for each region that has a twin
abbrev pub start_bytes : Layout → ℕ
start_bytes l = 84 + (if l.fence_i then 4 else 0)

abbrev pub checking_stub_bytes : ℕ → ℕ
checking_stub_bytes displaced_words = 4 * (22 + displaced_words)

abbrev pub fixed_bytes : Layout → ℕ
fixed_bytes l =
    start_bytes l + sum_by checking_stub_bytes l.displaced + 4 * (5 + 6 * l.regions) + (if l.fence_i then 4 else 0)
    + 48 * pairs_of l.twins l.regions

-- the patch bytes of an item: its copy job, and for an object that is overlaid and written also the job back
abbrev pub job_bytes : ℕ
job_bytes = 44

abbrev pub overlay_data_bytes : Datum → ℕ
overlay_data_bytes o = job_bytes + (if o.writable then job_bytes else 0)

-- an object that is kept for a pair has these jobs in the parts of both regions
abbrev pub kept_data_bytes : Datum → ℕ
kept_data_bytes o = 2 * overlay_data_bytes o

-- a piece also has its image. On the off side each outer entry has a stub of 8 bytes. On the on side border entries
-- are checked, and the stubs of those are among the fixed bytes: there they change by 4 * (2 - displaced words), since
-- the stub jumps to the copy in place of the displaced words. These may be three, so the difference is taken at the end
abbrev pub off_code_bytes : Part → ℕ
off_code_bytes c = job_bytes + c.copied + 8 * (c.plain_entries + length c.border_entries)

abbrev pub on_code_bytes : Part → ℕ
on_code_bytes c =
    job_bytes + c.copied + 8 * c.plain_entries + 8 * length c.border_entries
    - sum_by (λ words. 4 * words) c.border_entries

-- the rows of the off side
abbrev pub off_space_row : ℕ
off_space_row = 0

abbrev pub off_patch_row : ℕ
off_patch_row = 1

abbrev pub off_block_row : ℕ → ℕ
off_block_row b = 2 + b

-- the rows of the on side: the space in a region, the patch range, a block, and an object in a region from 1 on
abbrev pub space_row : ℕ → ℕ
space_row r = r

abbrev pub patch_row : Layout → ℕ
patch_row l = l.regions + 1

abbrev pub block_row : Layout → ℕ → ℕ
block_row l b = l.regions + 2 + b

abbrev pub object_row : Layout → ℕ → ℕ → ℕ
object_row l o r = l.regions + 2 + l.blocks + o * l.regions + r - 1

-- what the rows can hold, in the order of the rows
abbrev pub off_capacities : Layout → List ℕ
off_capacities l = l.scratchpad ∷ (l.patch - start_bytes l) ∷ replicate l.blocks 1

abbrev pub on_capacities : Layout → List ℕ
on_capacities l =
    replicate (l.regions + 1) l.scratchpad ++ (l.patch - fixed_bytes l) ∷ []
    ++ replicate l.blocks 1 ++ replicate (l.objects * l.regions) 1

-- `value` in each of `count` rows from `row` on
abbrev pub in_rows : ℕ → ℕ → ℕ → List (ℕ × ℕ)
in_rows row zero value = []
in_rows row (suc count) value = (row, value) ∷ in_rows (suc row) count value

-- how many blocks a piece has
abbrev pub blocks_of : Part → ℕ
blocks_of c = c.last + 1 - c.first

-- what a static item weighs on the off side; there is no other there
abbrev pub off_weights : Layout → Candidate → List (ℕ × ℕ)
off_weights l (static_data o) = (off_space_row, data_span l.grain o) ∷ (off_patch_row, job_bytes) ∷ []
off_weights l (static_code c) =
    (off_space_row, code_span l.grain c) ∷ (off_patch_row, off_code_bytes c) ∷ in_rows (off_block_row c.first) (blocks_of c) 1
off_weights l (overlay_data r o) = []
off_weights l (overlay_code r c) = []
off_weights l (kept_data pair o) = []

-- what an item weighs on the on side: a static one takes its space in all regions, one that is overlaid in a region
-- in that alone, one that is kept for a pair in both its regions. Each block is copied once at most, and each object
-- stands in one place in each region
abbrev pub on_weights : Layout → Candidate → List (ℕ × ℕ)
on_weights l (static_data o) =
    in_rows (space_row 0) (l.regions + 1) (data_span l.grain o) ++ (patch_row l, job_bytes) ∷ []
    ++ in_rows (object_row l o.number 1) l.regions 1
on_weights l (static_code c) =
    in_rows (space_row 0) (l.regions + 1) (code_span l.grain c) ++ (patch_row l, on_code_bytes c) ∷ []
    ++ in_rows (block_row l c.first) (blocks_of c) 1
on_weights l (overlay_data r o) =
    (space_row r, data_span l.grain o) ∷ (patch_row l, overlay_data_bytes o) ∷ (object_row l o.number r, 1) ∷ []
on_weights l (overlay_code r c) =
    (space_row r, code_span l.grain c) ∷ (patch_row l, on_code_bytes c) ∷ in_rows (block_row l c.first) (blocks_of c) 1
on_weights l (kept_data pair o) =
    in_rows (space_row (first_twin pair)) 2 (data_span l.grain o) ++ (patch_row l, kept_data_bytes o) ∷ []
    ++ in_rows (object_row l o.number (first_twin pair)) 2 1

-- both sides, the on side where the truth value is true
abbrev pub capacities : Bool → Layout → List ℕ
capacities false l = off_capacities l
capacities true l = on_capacities l

abbrev pub weights : Bool → Layout → Candidate → List (ℕ × ℕ)
weights false l candidate = off_weights l candidate
weights true l candidate = on_weights l candidate

-- the off side has the static candidates alone
abbrev pub IsOfSide : Bool → Candidate → Type 0
IsOfSide true candidate = Unit {0}
IsOfSide false (static_data o) = Unit {0}
IsOfSide false (static_code c) = Unit {0}
IsOfSide false (overlay_data r o) = ⊥
IsOfSide false (overlay_code r c) = ⊥
IsOfSide false (kept_data pair o) = ⊥

-- a candidate is of this layout: its numbers are in range
abbrev pub IsPartOf : Layout → Part → Type 0
IsPartOf l c = (c.first ≤ c.last) × (c.last < l.blocks)

abbrev pub IsRegionOf : Layout → ℕ → Type 0
IsRegionOf l r = (1 ≤ r) × (r ≤ l.regions)

abbrev pub IsPairOf : Layout → ℕ → Type 0
IsPairOf l pair = (1 ≤ pair) × (pair ≤ pairs_of l.twins l.regions)

abbrev pub IsCandidateOf : Layout → Candidate → Type 0
IsCandidateOf l (static_data o) = o.number < l.objects
IsCandidateOf l (static_code c) = IsPartOf l c
IsCandidateOf l (overlay_data r o) = IsRegionOf l r × (o.number < l.objects)
IsCandidateOf l (overlay_code r c) = IsRegionOf l r × IsPartOf l c
IsCandidateOf l (kept_data pair o) = IsPairOf l pair × (o.number < l.objects)

-- the order of variables: static data by home; static code by first, then last block; overlay data by region, then
-- home; overlay code by region, first, last; kept data by pair, then home
abbrev pub order_key : Candidate → List ℕ
order_key (static_data o) = 0 ∷ o.home ∷ []
order_key (static_code c) = 1 ∷ c.first ∷ c.last ∷ []
order_key (overlay_data r o) = 2 ∷ r ∷ o.home ∷ []
order_key (overlay_code r c) = 3 ∷ r ∷ c.first ∷ c.last ∷ []
order_key (kept_data pair o) = 4 ∷ pair ∷ o.home ∷ []

-- a key comes before another one: the first numbers that differ decide
abbrev pub key_before : List ℕ → List ℕ → Bool
key_before xs [] = false
key_before [] (y ∷ ys) = true
key_before (x ∷ xs) (y ∷ ys) = if x == y then key_before xs ys else nat_lt x y

abbrev pub comes_before : Candidate → Candidate → Bool
comes_before one other = key_before (order_key one) (order_key other)

-- candidates stand in the order of variables, each once
abbrev pub AreInOrder : List Candidate → Type 0
AreInOrder candidates = AllPairs (λ one other. IsTrue (comes_before one other)) candidates
