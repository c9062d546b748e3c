use Rattle.std.proofs.Common.{◌∙◌, [], ◌∷◌, ◌++◌, Vec, ℕ, sym, ap}
use Rattle.std.specs.Global.{Global}
use Rattle.certificate_checker.proofs.RowWiseLemmas.{pushed_row}
use Rattle.certificate_checker.proofs.row_wise.push_weight.Goals as goal

pub returns : goal.returns
returns c =
    pushed_row c.args.rows.now c.args.number c.args.entry c.index-rows-entry.result c.push.new.self c.requires c.index-rows-entry.is
    (c.in_ok-push.ensures.items ∙ ap (λ (r : Vec (ℕ × ℕ) Global). r.items ++ (c.args.number, c.args.entry.1) ∷ []) (sym c.index-rows-entry.is))
