use Rattle.std.proofs.Common.{refl}
use Rattle.block_splitter.proofs.CandidateLemmas.{shape_range}
use Rattle.block_splitter.proofs.PieceLemmas.{leaves_out, adds_piece}
use Rattle.block_splitter.proofs.finding.add_piece.Goals as goal

pub measure-requires-clause-range : goal.measure-requires-clause-range
measure-requires-clause-range c = shape_range c.args.code.now c.args.range.now c.requires.shape

pub returns-in_default : goal.returns-in_default
returns-in_default c = λ g table.
    leaves_out c.args.code.now g c.args.range.now c.args.pieces.now.items (c.in_default.ensures.words g table)

pub returns : goal.returns
returns c = λ g table.
    adds_piece c.args.code.now g c.args.range.now c.args.pieces.now.items c.push.new.self.items _ c.in-Some.words c.requires.shape (c.in-Some.ensures.words g table) refl refl c.in_ok-entries.ensures refl c.in_ok-push.ensures.items
