use Rattle.std.proofs.Common.{◌≡◌, ℕ, ◌<◌, ◌≤◌, List, [], ◌++◌, length, take, Option, Some, None, option_map, IfSome, arith, ap, ◌∙◌}
use Rattle.std.proofs.lemmas.List.{take_all, length-take}
use Rattle.shelf_io.proofs.folder.read_all.Goals as goal

-- what was read under a limit that it doesn't reach is all there was
whole_below_limit : (known : Option (List ℕ)) (limit : ℕ) (found : List ℕ) → IfSome (option_map (take limit) known) (λ front. found ≡ [] ++ front) → length found < limit → IfSome known (λ left. found ≡ left)
whole_below_limit None limit found is_front is_short = is_front
whole_below_limit (Some left) limit found is_front is_short =
    let same_length = ap length is_front in
    let left_is_short : length left ≤ limit = omega (arith, length-take limit left, same_length) in
    is_front ∙ take_all limit left left_is_short

pub returns-clause-bytes : goal.returns-clause-bytes
returns-clause-bytes g c =
    let bytes = rw c.new-bytes.ensures.items at c.in_ok-read_to_end.ensures.bytes in
    let whole = whole_below_limit (g.F.Read.remaining c.take.result.inner) c.take.result.limit c.read_to_end.new.buf.items bytes (omega arith) in
    rw c.take.ensures.inner at whole
