use Rattle.std.proofs.Common.{◌≡◌, ◌+◌, ◌++◌, drop}
use Rattle.relink_core.specs.Naming.{in_phase, phase_region, images_at, code_count, named_entering, phase_entering}
use Rattle.relink_core.proofs.jobs.entering.Given as goal

-- the jobs so far and what is left, and the names of code
abbrev pub invariant-loop-name : goal.invariant-loop-name
invariant-loop-name l = record {
  jobs : l.jobs.items ++ named_entering (in_phase l.phase) l.items.graph.now l.items.places.now (images_at l.images l.items.copies.now) (phase_region l.phase) l.number (drop l.name-index l.items.names.now) ≡ phase_entering l.phase l.items l.images;
  code : l.number + code_count (drop l.name-index l.items.names.now) ≡ code_count l.items.names.now;
}
