-- How many jobs names have, and how many bytes a plan takes.
use Rattle.std.specs.Prelude.{ℕ, ◌+◌, ◌*◌, ◌==◌, Bool, if◌then◌else◌, List, length}
use Rattle.std.specs.List.{sum_by, list_any}
use Rattle.list_checks.specs.Sorted.{sum_below}
use Rattle.board_config.specs.declared.board.Board.{Board}
use Rattle.object_graph.specs.declared.parts.Graph.{Graph}
use Rattle.cell_values.specs.Objects.{object_of}
use Rattle.code_blocks.specs.declared.parts.Code.{Code}
use Rattle.dataflow.specs.Overlaid.{is_border}
use Rattle.block_splitter.specs.Forms.{holds_block}
use Rattle.placement_programme.specs.declared.variables.VarName.{VarName}
use Rattle.placement_programme.specs.declared.variables.VarName.TheVariants.{StaticData, StaticCode, OverlayData, OverlayCode, KeptData}
use Rattle.placement_programme.specs.Rows.{pairs_of}
use Rattle.patch_code.specs.Jobs.{fences}
use Rattle.patch_code.specs.Serving.{ServingStub, serving_bytes}
use Rattle.result_laws.specs.ChosenJobs.{is_static, is_overlaid, is_kept}
use Rattle.result_laws.specs.Choices.{displaced_at}
use Rattle.result_laws.specs.ChosenPlacement.{ChosenPlacement}

-- ---- the jobs of one name

-- those back home
abbrev pub jobs_back : Graph → VarName → ℕ
jobs_back g (StaticData o) = if (object_of g o).writable then 1 else 0
jobs_back g (StaticCode first last) = 0
jobs_back g (OverlayData own o) = if (object_of g o).writable then 1 else 0
jobs_back g (OverlayCode own first last) = 0
jobs_back g (KeptData pair o) = if (object_of g o).writable then 1 else 0

abbrev pub counts_into : (VarName → Bool) → VarName → ℕ
counts_into which name = if which name then 1 else 0

abbrev pub counts_home : (VarName → Bool) → Graph → VarName → ℕ
counts_home which g name = if which name then jobs_back g name else 0

-- in region i + 1
abbrev pub region_jobs : Graph → ℕ → VarName → ℕ
region_jobs g i name =
    counts_home (is_overlaid (i + 1)) g name + counts_into (is_overlaid (i + 1)) name
    + (counts_home (is_kept (i + 1)) g name + counts_into (is_kept (i + 1)) name)

-- and at the start and in all regions
abbrev pub all_jobs : Graph → ℕ → VarName → ℕ
all_jobs g regions name = counts_into is_static name + sum_below (λ i. region_jobs g i name) regions

-- ---- bytes

-- the routine without its jobs; there is none where there is no region
abbrev pub routine_fixed : Bool → Bool → ℕ → ℕ
routine_fixed fence twins regions =
    if regions == 0 then 0 else 4 * (5 + 6 * regions) + 4 * length (fences fence) + 48 * pairs_of twins regions

-- control words and start stub, all jobs, stubs, the routine, and images of so many bytes
abbrev pub most_bytes : Board → Graph → ℕ → List VarName → List ServingStub → ℕ → ℕ
most_bytes board g regions names stubs images =
    84 + 4 * length (fences board.fence_i) + 44 * sum_by (all_jobs g regions) names + serving_bytes stubs
    + routine_fixed board.fence_i board.twins regions + images

-- ---- stubs

-- a piece that is taken has block `b`
abbrev pub has_copy : ChosenPlacement → ℕ → Bool
has_copy pl b = list_any (λ x. holds_block b x.range) pl.pieces

-- the stub of a block that is served: a test where control enters a region there, and a jump to the copy, or the words of the
-- first unit where there is none
abbrev pub served_size : Code → Graph → ChosenPlacement → ℕ → ℕ
served_size c g pl b =
    (if is_border pl.borders b then 88 else 0) + (if has_copy pl b then 8 else 4 * displaced_at g c b)
