use Rattle.std.proofs.Common.{◌≡◌, ◌++◌}
use Rattle.std.specs.List.{flat_map}
use Rattle.patch_code.specs.Parts.{first_parts, part_code}
use Rattle.patch_code.specs.SwitchPlans.{plan_of, side_part}
use Rattle.patch_code.proofs.switch_code.push_parts.Given as goal

abbrev pub invariant-loop-i : goal.invariant-loop-i
invariant-loop-i l =
    l.code.items ≡ l.fn.code.items ++ flat_map (part_code (λ is. is)) (first_parts (side_part l.side (plan_of l.plan)) l.i)
