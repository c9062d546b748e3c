use Rattle.std.proofs.Common.{◌∙◌, sym, ap}
use Rattle.std.proofs.lemmas.List.{get_or_default}
use Rattle.code_blocks.specs.Blocks.{no_function}
use Rattle.code_blocks.specs.declared.parts.Function.{Function}
use Rattle.region_former.proofs.FunctionLemmas.{starts_there, none_starts, none_holds}
use Rattle.region_former.proofs.naming.function_at.Goals as goal

pub returns-then-index-address-clause-place : goal.returns-then-index-address-clause-place
returns-then-index-address-clause-place c =
    let functions = c.args.code.now.functions.items in
    let same = get_or_default functions c.in-Some.place no_function c.index.result.now c.in-Some.ensures.0 ∙ sym c.index.ensures in
    sym (starts_there functions c.args.address c.in-Some.place c.requires c.in-Some.ensures.0
    (ap (λ (f : Function). f.start) same ∙ c.if-index-address.true))

pub returns-else-index-address-clause-place : goal.returns-else-index-address-clause-place
returns-else-index-address-clause-place c =
    let functions = c.args.code.now.functions.items in
    let same = get_or_default functions c.in-Some.place no_function c.index.result.now c.in-Some.ensures.0 ∙ sym c.index.ensures in
    sym (none_starts functions c.args.address c.in-Some.place c.requires c.in-Some.ensures.0 c.in-Some.ensures.1
    (λ starts. c.if-index-address.false (sym (ap (λ (f : Function). f.start) same) ∙ starts)))

pub returns-in-None-clause-place : goal.returns-in-None-clause-place
returns-in-None-clause-place c = sym (none_holds c.args.code.now.functions.items c.args.address c.requires c.in-None.ensures)
