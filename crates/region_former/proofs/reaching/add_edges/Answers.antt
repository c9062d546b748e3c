use Rattle.std.proofs.Common.{◌∙◌, ℕ, List, ap, ◌||◌}
use Rattle.std.proofs.lemmas.Result.{on_ok_weaker}
use Rattle.std.specs.List.{list_any}
use Rattle.code_blocks.specs.Early.{has}
use Rattle.region_former.specs.Rows.{leads_there}
use Rattle.region_former.proofs.BlockLemmas.{leads_same}
use Rattle.region_former.proofs.reaching.add_edges.Goals as goal

pub returns : goal.returns
returns c =
    on_ok_weaker c.add_entered.result
    (λ added g.
    let code = c.args.code.now in
    added g
    ∙ ap (λ (xs : List ℕ). has c.args.row.now.items g || list_any (leads_there code c.args.driver g) xs) (c.as_slice.ensures ∙ c.successors_of-addresses.ensures)
    ∙ ap (λ b. has c.args.row.now.items g || b) (leads_same code c.args.driver c.args.a g))
    c.add_entered.ensures
