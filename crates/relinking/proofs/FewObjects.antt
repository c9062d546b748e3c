-- A program whose layout passes all checks has few objects that may move.
use Rattle.std.proofs.Common.{◌≡◌, ◌∙◌, ◌+◌, ◌<◌, ◌≤◌, nat_le, List, [], ◌∷◌, length, map, get_or, None, sym, subst, arith}
use Rattle.std.specs.List.{All, AllPairs}
use Rattle.std.proofs.lemmas.List.{length-map, get_or-map}
use Rattle.std.proofs.lemmas.Bool.Decides.{nat_tests}
use Rattle.list_checks.proofs.FirstLemmas.{both_none, holds}
use Rattle.elf_reader.specs.File.{PlainView}
use Rattle.board_config.specs.declared.board.Board.{Board}
use Rattle.loaded_file.specs.declared.byte_ranges.ByteRange.{ByteRange}
use Rattle.loaded_file.specs.ByteRanges.{is_byte_range, IsFilled}
use Rattle.loaded_file.proofs.ByteRangeLemmas.{any_map}
use Rattle.object_graph.specs.Disjoint.{IsDisjoint}
use Rattle.object_graph.specs.LayoutFaults.{capped, objects_below, places_fault, too_many_fault, layout_fault}
use Rattle.object_graph.specs.declared.fault.GraphFault.TheVariants.{TooManyObjects}
use Rattle.object_graph.specs.declared.parts.Object.{Object}
use Rattle.object_graph.specs.declared.parts.Graph.{Graph}
use Rattle.object_graph.specs.Graphs.{IsObjects, IsGraph}
use Rattle.object_graph.specs.Gathered.{AreMovable, range_of}
use Rattle.object_graph.proofs.CountedLemmas.{objects_counted}
use Rattle.object_graph.proofs.LookupLemmas.{laid_out}

-- the ranges of objects
disjoint_ranges : (objects : List Object) → AllPairs (λ a b. a.home + a.size ≤ b.home) objects → IsDisjoint (map range_of objects)
disjoint_ranges [] all i j d before below = absurd (omega arith)
disjoint_ranges (o ∷ os) all i j d before below =
    let long = length-map (o ∷ os) range_of in
    let here = get_or-map range_of (o ∷ os) i o d (omega (arith, before, below, long)) in
    let there = get_or-map range_of (o ∷ os) j o d (omega (arith, below, long)) in
    let disjoint = all i j o before (omega (arith, below, long)) in
    subst (λ (e : ByteRange). (get_or (map range_of (o ∷ os)) i d).home + (get_or (map range_of (o ∷ os)) i d).size ≤ e.home) (sym there)
    (subst (λ (e : ByteRange). e.home + e.size ≤ (range_of (get_or (o ∷ os) j o)).home) (sym here) disjoint)

filled_ranges : (objects : List Object) → All (λ o. 0 < o.size) objects → IsFilled (map range_of objects)
filled_ranges [] all k d below = absurd (omega arith)
filled_ranges (o ∷ os) all k d below =
    let long = length-map (o ∷ os) range_of in
    let here = get_or-map range_of (o ∷ os) k o d (omega (arith, below, long)) in
    subst (λ (e : ByteRange). 0 < e.size) (sym here) (all k o (omega (arith, below, long)))

abbrev movable_ranges : (v : PlainView) (board : Board) (objects : List Object) → IsObjects v board objects → AreMovable v (map range_of objects)
movable_ranges v board objects is =
    let laid = laid_out v board objects is in
    record {
      board = board;
      disjoint = disjoint_ranges objects laid.disjoint;
      exact = λ home n. any_map range_of (is_byte_range home n) objects ∙ is.exact home n;
      filled = filled_ranges objects laid.filled;
    }

pub few_objects : (v : PlainView) (board : Board) (g : Graph) → IsGraph v board g → layout_fault v board ≡ None → length g.objects.items ≤ 4096
few_objects v board g is none =
    let objects = g.objects.items in
    let counted = objects_counted v (map range_of objects) (movable_ranges v board objects is.objects) in
    let long = length-map objects range_of in
    let below = objects_below v board (length v.symbols) in
    let fits = holds (nat_le below 4096) (TooManyObjects (capped below)) (both_none (places_fault v board) (too_many_fault v board) none).1 in
    let few : below ≤ 4096 = grind (arith, nat_tests, fits) in
    let same : below ≡ length (map range_of objects) = counted in
    omega (arith, few, same, long)
