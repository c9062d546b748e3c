use Rattle.std.proofs.Common.{◌≡◌, ◌∙◌, ℕ, suc, ◌+◌, List, [], ◌∷◌, ◌++◌, ap, sym, arith}
use Rattle.placement_programme.specs.Plain.{PlainFullVar}
use Rattle.placement_candidates.specs.Counted.{counted_var, counted_vars}
use Rattle.placement_candidates.proofs.objects.data_vars.Goals as goal

pub push_var-requires-clause-accesses : goal.push_var-requires-clause-accesses
push_var-requires-clause-accesses c = c.requires.accesses

pub loop-k-preserved : goal.loop-k-preserved
loop-k-preserved c =
    let q = c.args.profile.now in
    let g = c.args.graph.now in
    let board = c.args.board.now in
    let k = c.loop-k.k in
    let next : suc k ≡ k + 1 = omega arith in
    c.in_ok-push_var.ensures
    ∙ ap (λ (xs : List PlainFullVar). xs ++ counted_var board.prices q g board.grain k ∷ []) c.loop-k.invariant
    ∙ ap (counted_vars board.prices q g board.grain) next
