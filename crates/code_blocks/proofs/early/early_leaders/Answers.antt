use Rattle.std.proofs.Common.{◌≡◌, ◌∙◌, false, refl}
use Rattle.elf_reader.specs.File.{plain_view}
use Rattle.code_blocks.specs.Early.{has}
use Rattle.code_blocks.proofs.EarlyLemmas.{are_early}
use Rattle.code_blocks.proofs.early.early_leaders.Goals as goal

pub returns-clause-exact : goal.returns-clause-exact
returns-clause-exact c a =
    let v = plain_view c.args.file.now.view.now in
    let none : has c.new-leaders.result.items a ≡ false = rw (c.new-leaders.ensures.items) refl in
    c.arrange.ensures.same a ∙ are_early v a _ _ _ none (c.in_ok-add_named.ensures a) (c.in_ok-add_flow.ensures a)
