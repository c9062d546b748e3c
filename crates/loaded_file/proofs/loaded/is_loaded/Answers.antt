use Rattle.std.proofs.Common.{◌∙◌, sym, arith}
use Rattle.elf_reader.specs.File.{plain_segment, plain_view}
use Rattle.elf_reader.specs.Loaded.{loads}
use Rattle.loaded_file.proofs.LoadedSections.{found_in, none_after}
use Rattle.loaded_file.proofs.loaded.is_loaded.Goals as goal

pub returns-then-loads : goal.returns-then-loads
returns-then-loads c =
    let view = c.args.view.now in
    sym (found_in (loads (plain_view view) c.args.k) plain_segment view.segments.items c.loop-g.g (omega arith) (sym c.loads.ensures ∙ c.if-loads.true))

pub loop-g-preserved : goal.loop-g-preserved
loop-g-preserved c =
    none_after (loads (plain_view c.args.view.now) c.args.k) c.loop-g.g c.loop-g.invariant (sym c.loads.ensures ∙ c.if-loads.false)
