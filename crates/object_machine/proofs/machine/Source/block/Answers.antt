use Rattle.std.proofs.Common.{◌∙◌, sym}
use Rattle.object_machine.proofs.NumberingLemmas.{at_unit, number_among}
use Rattle.object_machine.proofs.machine.Source.block.Goals as goal

pub returns : goal.returns
returns c p starts is ascending same =
    let t = c.args.self.now.tables in
    number_among t.starts.items starts c.args.self.now.pc c.index.result.now t.ascending ascending (λ a. sym (is.blocks a) ∙ same a)
    (at_unit t.starts.items t.units.items t.numbers.items c.args.self.now.place c.args.self.now.pc c.index.result.now t.numbered c.args.self.now.inside c.args.self.now.at c.index.ensures)
