use Rattle.std.proofs.Common.{◌∙◌, ℕ, Option, sym, ap, not, ◌&&◌}
use Rattle.code_blocks.specs.Leads.{is_some_of}
use Rattle.region_former.proofs.BlockLemmas.{begun_at, none_begun, never_both}
use Rattle.region_former.proofs.reaching.function_entered.Goals as goal

pub returns-in-Some : goal.returns-in-Some
returns-in-Some c = λ g.
    let code = c.args.code.now in
    c.other_than.ensures.other g
    ∙ ap (λ (o : Option ℕ). not (is_some_of c.args.driver g) && is_some_of o g) c.owner_of.ensures.owner
    ∙ ap (λ b. not (is_some_of c.args.driver g) && b) (sym (begun_at code c.args.address c.in-Some.block g c.requires.ascending c.in-Some.ensures))

pub returns-in-None : goal.returns-in-None
returns-in-None c = λ g.
    sym (never_both (not (is_some_of c.args.driver g)) _ (none_begun c.args.code.now c.args.address g c.in-None.ensures))
