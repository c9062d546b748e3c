use Rattle.std.proofs.Common.{◌≡◌, ◌++◌, drop}
use Rattle.relink_core.specs.Naming.{in_phase, phase_region, named_leaving, phase_leaving}
use Rattle.relink_core.proofs.jobs.leaving.Given as goal

-- the jobs so far, and what is left
abbrev pub invariant-loop-name : goal.invariant-loop-name
invariant-loop-name l =
    l.jobs.items ++ named_leaving (in_phase l.phase) l.items.graph.now l.items.places.now (phase_region l.phase) (drop l.name-index l.items.names.now) ≡ phase_leaving l.phase l.items
