-- The text of a map: what stands where in a result.
use Rattle.std.specs.Prelude.{ℕ, zero, suc, ◌+◌, ◌-◌, ◌%◌, ◌==◌, ◌&&◌, nat_le, nat_lt, if◌then◌else◌, List, [], ◌∷◌, ◌++◌, codes, length, slice_index_or, Option, Some, None}
use Rattle.std.specs.Fmt.{decimal}
use Rattle.elf_reader.specs.File.{PlainView, plain_view}
use Rattle.board_config.specs.declared.board.Range.{Range}
use Rattle.loaded_file.specs.Records.{symbol_at}
use Rattle.object_graph.specs.Graphs.{object_at}
use Rattle.object_graph.specs.declared.parts.Object.{Object}
use Rattle.code_blocks.specs.Blocks.{lies_in_function}
use Rattle.code_blocks.specs.declared.parts.Function.{Function}
use Rattle.patch_code.specs.Serving.{serving_size}
use Rattle.patch_code.specs.StubPlans.{serving_stub}
use Rattle.patch_code.specs.declared.stub_plan.Body.TheVariants.{Jump}
use Rattle.patch_code.specs.declared.stub_plan.Stub.{Stub}
use Rattle.relocator.specs.Placing.{place_at}
use Rattle.relocator.specs.declared.places.Places.{Places}
use Rattle.relink_core.specs.declared.realising.MovedParts.{MovedParts}
use Rattle.relink_core.specs.declared.unit_forms.UnitAt.{UnitAt}
use Rattle.printed_lines.specs.ProfileLines.{address_text, lines_below}
use Rattle.printed_lines.specs.ShowLines.{addressed_head, function_at}
use Rattle.result_map.specs.declared.lines.MapParts.{MapParts}

-- what a map tells of: a program on a board, the parts of its result, the forms of its units there, and the place of each
-- object in each region
pub record MapOf : Type 0 where
  pub view : PlainView
  pub patch : Range
  pub objects : List Object
  pub functions : List Function
  pub regions : ℕ
  pub parts : Option MovedParts
  pub units : List UnitAt
  pub places : ℕ → ℕ → ℕ

-- ---- rows

-- `WORD 0xAT REGION 0xHOME`
unfoldable pub place_text : List ℕ → UnitAt → List ℕ
place_text word x = addressed_head word x.at x.region ++ address_text x.home

-- ` NUMBER NAME`
abbrev pub tail_text : ℕ → List ℕ → List ℕ
tail_text number name = codes " " ++ (decimal number ++ (codes " " ++ name))

-- `WORD 0xADDR`
unfoldable pub short_row : List ℕ → ℕ → List ℕ
short_row word a = word ++ (codes " " ++ (address_text (a % 4294967296) ++ 10 ∷ []))

-- ---- code

-- the function in whose range an address lies, among the first of a list
abbrev pub function_over : List Function → ℕ → ℕ → Option Function
function_over functions a zero = None
function_over functions a (suc k) =
    if lies_in_function a (function_at functions k) then Some (function_at functions k) else function_over functions a k

-- ` OFFSET FUNCTION`, where an address lies in a function
abbrev pub function_tail : PlainView → ℕ → Option Function → List ℕ
function_tail v a None = []
function_tail v a (Some f) = tail_text (a - f.start) (symbol_at v f.name).name

-- the row of what has a home in the code
abbrev pub code_row : PlainView → List Function → List ℕ → UnitAt → List ℕ
code_row v functions word x =
    place_text word x ++ (function_tail v x.home (function_over functions x.home (length functions)) ++ 10 ∷ [])

-- a form in the patch range is displaced into a stub, any other away from home is in a copy
abbrev pub unit_word : Range → ℕ → List ℕ
unit_word patch at = if nat_le patch.base at && nat_lt (at - patch.base) patch.size then codes "displaced" else codes "copy"

-- the row of a form of a unit; none where it is at home
abbrev pub unit_row : PlainView → Range → List Function → UnitAt → List ℕ
unit_row v patch functions x = if x.at == x.home then [] else code_row v functions (unit_word patch x.at) x

abbrev pub no_form : UnitAt
no_form = record { at = 0; region = 0; home = 0 }

abbrev pub unit_row_at : PlainView → Range → List Function → List UnitAt → ℕ → List ℕ
unit_row_at v patch functions units k = unit_row v patch functions (slice_index_or units k no_form)

abbrev pub unit_rows : PlainView → Range → List Function → List UnitAt → List ℕ
unit_rows v patch functions units = lines_below (unit_row_at v patch functions units) (length units)

-- ---- the patch range

abbrev pub no_stub : Stub
no_stub = record { home = 0; temp = 0; region = 0; body = Jump 0 }

abbrev pub stub_of : List Stub → ℕ → Stub
stub_of stubs k = slice_index_or stubs k no_stub

-- a stub, and where it stands: at its home is the pad that leads to it
abbrev pub stub_form : ℕ → Stub → UnitAt
stub_form at stub = record { at = at; region = stub.region; home = stub.home }

abbrev pub stub_row : PlainView → List Function → List Stub → List ℕ → ℕ → List ℕ
stub_row v functions stubs places k = code_row v functions (codes "stub") (stub_form (slice_index_or places k 0) (stub_of stubs k))

abbrev pub stub_rows : PlainView → List Function → List Stub → List ℕ → List ℕ
stub_rows v functions stubs places = lines_below (stub_row v functions stubs places) (length stubs)

-- what stands behind the last stub: the routine where there are regions, and else images of copies
abbrev pub behind_word : ℕ → List ℕ
behind_word regions = if regions == 0 then codes "images" else codes "routine"

abbrev pub behind_row : ℕ → List Stub → List ℕ → List ℕ
behind_row regions stubs places =
    if length stubs == 0 then []
    else short_row (behind_word regions) (slice_index_or places (length stubs - 1) 0 + serving_size (serving_stub (stub_of stubs (length stubs - 1))))

-- the start stub, behind sixteen control words; the stubs; and what stands behind them
abbrev pub rows_of_stubs : PlainView → Range → List Function → ℕ → List Stub → List ℕ → List ℕ
rows_of_stubs v patch functions regions stubs places =
    short_row (codes "start") (patch.base + 64) ++ (stub_rows v functions stubs places ++ behind_row regions stubs places)

abbrev pub patch_rows : PlainView → Range → List Function → ℕ → Option MovedParts → List ℕ
patch_rows v patch functions regions None = []
patch_rows v patch functions regions (Some m) = rows_of_stubs v patch functions regions m.stubs.items m.stub_at.items

-- ---- objects

-- where an object stands if a row doesn't tell it: its home, and in a region where it stands before any is entered
abbrev pub untold_place : ℕ → (ℕ → ℕ → ℕ) → ℕ → ℕ → ℕ
untold_place home places o region = if region == 0 then home else places 0 o

abbrev pub object_form : ℕ → ℕ → Object → UnitAt
object_form at region o = record { at = at; region = region; home = o.home }

-- the row of an object at a place in a region; none where it stands there untold
abbrev pub placed_row : PlainView → Object → ℕ → ℕ → List ℕ
placed_row v o at region =
    place_text (codes "object") (object_form at region o) ++ (tail_text o.size (symbol_at v o.name).name ++ 10 ∷ [])

abbrev pub object_row : PlainView → Object → ℕ → ℕ → ℕ → List ℕ
object_row v o at untold region = if at == untold then [] else placed_row v o at region

-- the row of an object, which is object `k`, in a region
abbrev pub row_in : PlainView → Object → (ℕ → ℕ → ℕ) → ℕ → ℕ → List ℕ
row_in v o places k region = object_row v o (places region k) (untold_place o.home places k region) region

-- its rows in all regions
abbrev pub rows_of_object : PlainView → Object → (ℕ → ℕ → ℕ) → ℕ → ℕ → List ℕ
rows_of_object v o places regions k = lines_below (row_in v o places k) (regions + 1)

-- those of object `k` of a list
abbrev pub object_rows_at : PlainView → List Object → (ℕ → ℕ → ℕ) → ℕ → ℕ → List ℕ
object_rows_at v objects places regions k = rows_of_object v (object_at objects k) places regions k

abbrev pub object_rows : PlainView → List Object → (ℕ → ℕ → ℕ) → ℕ → List ℕ
object_rows v objects places regions = lines_below (object_rows_at v objects places regions) (length objects)

-- ---- all of it

abbrev pub map_text : MapOf → List ℕ
map_text m =
    patch_rows m.view m.patch m.functions m.regions m.parts
    ++ (unit_rows m.view m.patch m.functions m.units ++ object_rows m.view m.objects m.places m.regions)

-- the places that a table has
abbrev pub places_by : Places → ℕ → ℕ → ℕ
places_by places region o = place_at places o region

-- what is told of these parts
abbrev pub map_of : MapParts → MapOf
map_of m =
    record {
      view = plain_view m.view.now;
      patch = m.patch;
      objects = m.graph.now.objects.items;
      functions = m.functions.now;
      regions = m.regions;
      parts = m.made.now.moved;
      units = m.units.now;
      places = places_by m.made.now.places;
    }
