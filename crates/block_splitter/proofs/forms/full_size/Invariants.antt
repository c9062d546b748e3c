use Rattle.std.proofs.Common.{◌≡◌, min, true}
use Rattle.block_splitter.specs.Forms.{is_site, body_of, units_size}
use Rattle.block_splitter.proofs.forms.full_size.Given as goal

abbrev pub invariant-loop-k : goal.invariant-loop-k
invariant-loop-k l = l.words ≡ min (units_size (is_site l.graph) (λ a. true) (body_of l.block) l.k) 1025
