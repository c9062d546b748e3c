use Rattle.elf_reader.specs.File.{plain_view}
use Rattle.flat_machine.specs.Machine as flat
use Rattle.object_machine.specs.Program.{Program}
use Rattle.object_machine.specs.Machine.{state_of, IsProgram}
use Rattle.compare_runner.specs.Marks.{step_text}
use Rattle.compare_runner.specs.Stepping.{traced_by}
use Rattle.compare_runner.proofs.TraceLemmas.{TracedSoFar}
use Rattle.compare_runner.proofs.tracing.trace_steps.Given as goal

-- `k` steps are traced, and their lines added
abbrev pub invariant-loop-k : goal.invariant-loop-k
invariant-loop-k g l =
    (p : Program) → IsProgram p l.initial.source
    → IsProgram p l.source
    × TracedSoFar (traced_by p l.of) (step_text (plain_view l.of.view.now) l.of.graph.now.objects.items) l.n l.region (state_of p l.initial.source) (flat.state_of g.S.ByteStore.byte_at l.initial.flat) l.initial.text.items
    l.k l.current (state_of p l.source) (flat.state_of g.S.ByteStore.byte_at l.flat) l.text.items
