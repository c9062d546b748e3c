use Rattle.std.proofs.Common.{inl, inr}
use Rattle.compare_runner.proofs.laws.unmoved_never_differs.Goals as goal

pub returns : goal.returns
returns c file board g input n at bytes lawful none graph input_bytes (inl paired) =
    c.kept_never_differs.ensures file file board g input n at (c.unmoved_file_keeps.ensures file board bytes lawful none)
    graph input_bytes paired
returns c file board g input n at bytes lawful none graph input_bytes (inr absolute) =
    c.kept_runs_never_differ.ensures file file board g input n at
    (c.absolute_keeps_runs.ensures file file board absolute (c.unmoved_file_keeps.ensures file board bytes lawful none))
    graph input_bytes
