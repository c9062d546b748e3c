-- Rows, each from what it tells.
use Rattle.std.proofs.Common.{◌≡◌, ℕ, zero, suc, ◌+◌, ◌-◌, ◌<◌, ◌≤◌, List, codes, length, get_or, slice_index_or, refl, sym, arith}
use Rattle.std.proofs.lemmas.List.{get_or_read}
use Rattle.elf_reader.specs.File.{PlainView}
use Rattle.object_graph.specs.Graphs.{no_object}
use Rattle.object_graph.specs.declared.parts.Object.{Object}
use Rattle.code_blocks.specs.declared.parts.Function.{Function}
use Rattle.patch_code.specs.declared.stub_plan.Stub.{Stub}
use Rattle.printed_lines.specs.ProfileLines.{lines_below}
use Rattle.result_map.specs.MapText.{code_row, stub_form, stub_row, no_stub, untold_place, object_row, row_in, rows_of_object, object_rows_at, object_rows}

-- the row of a stub of a list
pub stub_row_is : (v : PlainView) (functions : List Function) (stubs : List Stub) (places : List ℕ) (k at : ℕ) (s : Stub) → k < length stubs
    → s ≡ get_or stubs k s → at ≡ slice_index_or places k 0 → code_row v functions (codes "stub") (stub_form at s) ≡ stub_row v functions stubs places k
stub_row_is v functions stubs places k at s within is is_at =
    let stub : get_or stubs k no_stub ≡ s = sym (get_or_read stubs k s within is no_stub) in
    rw (stub, is_at) refl

-- ---- objects

pub row_in_is : (v : PlainView) (o : Object) (places : ℕ → ℕ → ℕ) (k region at untold : ℕ) → at ≡ places region k
    → untold ≡ untold_place o.home places k region → object_row v o at untold region ≡ row_in v o places k region
row_in_is v o places k region at untold is_at is_untold = rw (is_at, is_untold) refl

pub object_rows_is : (v : PlainView) (objects : List Object) (places : ℕ → ℕ → ℕ) (regions k : ℕ) (o : Object) → k < length objects
    → o ≡ get_or objects k o → rows_of_object v o places regions k ≡ object_rows_at v objects places regions k
object_rows_is v objects places regions k o within is =
    let object : get_or objects k no_object ≡ o = sym (get_or_read objects k o within is no_object) in
    rw object refl

pub same_lines : (line other : ℕ → List ℕ) (n : ℕ) → ((k : ℕ) → k < n → line k ≡ other k) → lines_below line n ≡ lines_below other n
same_lines line other zero all = refl
same_lines line other (suc k) all =
    let before = same_lines line other k (λ i below. all i (omega arith)) in
    let here = all k (omega arith) in
    rw (before, here) refl

-- where two tell the same places, the rows are the same
same_row : (v : PlainView) (o : Object) (places others : ℕ → ℕ → ℕ) (k region : ℕ) → places region k ≡ others region k → places 0 k ≡ others 0 k
    → row_in v o places k region ≡ row_in v o others k region
same_row v o places others k region here before = rw (here, before) refl

pub same_objects : (v : PlainView) (objects : List Object) (places others : ℕ → ℕ → ℕ) (regions : ℕ)
    → ((k region : ℕ) → k < length objects → region ≤ regions → places region k ≡ others region k) → object_rows v objects places regions ≡ object_rows v objects others regions
same_objects v objects places others regions all =
    same_lines (object_rows_at v objects places regions) (object_rows_at v objects others regions) (length objects)
    (λ k below. same_lines _ _ (regions + 1)
    (λ region within. same_row v (get_or objects k no_object) places others k region (all k region below (omega arith)) (all k 0 below (omega arith))))
