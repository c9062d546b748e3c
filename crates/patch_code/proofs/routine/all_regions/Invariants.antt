use Rattle.patch_code.specs.Regions.{AreRegionsOf}
use Rattle.patch_code.specs.StubPlans.{overlay_plan}
use Rattle.patch_code.proofs.routine.all_regions.Given as goal

abbrev pub invariant-loop-i : goal.invariant-loop-i
invariant-loop-i l = AreRegionsOf (overlay_plan l.plan) l.i l.regions.items
