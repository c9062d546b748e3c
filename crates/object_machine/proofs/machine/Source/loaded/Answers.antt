use Rattle.object_machine.proofs.machine.Source.loaded.Goals as goal

pub returns-in-Lh-clause-of : goal.returns-in-Lh-clause-of
returns-in-Lh-clause-of c = c.signed_half_of.ensures.of c.args.self.now.tables.graph

pub returns-in-Lhu-clause-of : goal.returns-in-Lhu-clause-of
returns-in-Lhu-clause-of c = c.half_of.ensures.of c.args.self.now.tables.graph
