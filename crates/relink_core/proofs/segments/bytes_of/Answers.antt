use Rattle.std.proofs.Common.{ℕ, ◌<◌, arith}
use Rattle.std.proofs.lemmas.List.Elements.{All-from_get_or}
use Rattle.relink_core.proofs.segments.bytes_of.Goals as goal

pub returns-clause-small : goal.returns-clause-small
returns-clause-small c =
    All-from_get_or (λ (w : ℕ). w < 4294967296) c.args.words.now 0 (λ k below. let fits = c.type_inv.words k in omega (arith, fits))
