-- Where objects and code stand in each region, for a choice with overlay.
use Rattle.std.specs.Prelude.{ℕ, zero, suc, ◌+◌, ◌-◌, ◌==◌, nat_le, nat_lt, Bool, true, not, ◌&&◌, ◌||◌, if◌then◌else◌, List, length}
use Rattle.rv32im.specs.Words.{byte_of}
use Rattle.rv32im.specs.Memory.{Memory}
use Rattle.elf_reader.specs.File.{PlainView}
use Rattle.board_config.specs.Board.{mapped_ranges}
use Rattle.board_config.specs.declared.board.Board.{Board}
use Rattle.loaded_file.specs.Ranges.{inside}
use Rattle.list_checks.specs.Tests.{any_below}
use Rattle.object_graph.specs.declared.parts.Graph.{Graph}
use Rattle.cell_values.specs.Objects.{object_of}
use Rattle.cell_values.specs.Stands.{moved_uppers}
use Rattle.placement_programme.specs.declared.variables.VarName.{VarName}
use Rattle.placement_programme.specs.declared.variables.VarName.TheVariants.{StaticData, StaticCode, OverlayData, OverlayCode, KeptData}
use Rattle.relocator.specs.declared.slots.Slot.{Slot}
use Rattle.relocator.specs.Slots.{pair_of, is_code}
use Rattle.relocator.specs.Placing.{placed}
use Rattle.relocator.specs.Laws.{slot_at}
use Rattle.result_laws.specs.ChosenJobs.{Images, code_number}
use Rattle.simulation.specs.Setups.{Setup}
use Rattle.result_laws.specs.Home.{is_code_byte}

-- ---- copies

-- a variable is in the scratchpad while the region is current
abbrev pub is_present : ℕ → VarName → Bool
is_present region (StaticData object) = true
is_present region (StaticCode first last) = true
is_present region (OverlayData own object) = own == region
is_present region (OverlayCode own first last) = own == region
is_present region (KeptData pair object) = pair_of region == pair

-- an address is of a byte of the copy in slot `k`, which is present
abbrev pub holds_copy : List Slot → Images → ℕ → ℕ → ℕ → Bool
holds_copy slots images region a k =
    is_code (slot_at slots k).name
    && (is_present region (slot_at slots k).name && inside (slot_at slots k).at (images.bytes (code_number slots k)) a)

abbrev pub is_copied : List Slot → Images → ℕ → ℕ → Bool
is_copied slots images region a = any_below (holds_copy slots images region a) (length slots)

-- where the byte at an address is from: of a copy in one of the first slots from its image, else from there
abbrev pub source_below : List Slot → Images → ℕ → ℕ → ℕ → ℕ
source_below slots images region a zero = a
source_below slots images region a (suc k) =
    if holds_copy slots images region a k then images.at (code_number slots k) + (a - (slot_at slots k).at)
    else source_below slots images region a k

-- byte `i` of item `n` of code, in a memory that has the images
abbrev pub image_byte : Images → Memory → ℕ → ℕ → ℕ
image_byte images mem n i = mem (images.at n + i)

-- ---- what else stands still

-- an address is of a byte of the patch range behind the control words
abbrev pub is_stub_byte : Board → ℕ → Bool
is_stub_byte board a = nat_le (board.patch.base + 64) a && nat_lt a (board.patch.base + board.patch.size)

-- an address is of a byte of the region's number, in the first control word
abbrev pub is_number_byte : Board → ℕ → Bool
is_number_byte board a = inside board.patch.base 4 a

-- or at the home of object `o`, which nothing writes, while the object is elsewhere
abbrev pub is_left_by : Graph → List Slot → ℕ → ℕ → ℕ → Bool
is_left_by g slots region a o =
    not (object_of g o).writable
    && (not (placed g slots region o == (object_of g o).home) && inside (object_of g o).home (object_of g o).size a)

abbrev pub is_left : Graph → List Slot → ℕ → ℕ → Bool
is_left g slots region a = any_below (is_left_by g slots region a) (length g.objects.items)

-- ---- the setup

-- Code at home, the patch range, homes of objects that nothing writes, and images have the bytes of `mem`. While a region is
-- current, objects and copies of code stand in their slots, and the first control word has the region's number
abbrev pub overlay_setup : PlainView → Board → Graph → List Slot → Images → Memory → Setup
overlay_setup v board g slots images mem =
    record {
      map = mapped_ranges board;
      place = λ r. placed g slots r;
      upper = λ r. moved_uppers (placed g slots r);
      is_still = λ r a. is_code_byte v a
          || (is_stub_byte board a || (is_number_byte board a || (is_copied slots images r a || is_left g slots r a)));
      still = λ r a. if is_number_byte board a then byte_of r (a - board.patch.base)
          else mem (source_below slots images r a (length slots));
    }
