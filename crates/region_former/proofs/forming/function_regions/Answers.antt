use Rattle.std.proofs.Common.{◌≡◌, ◌∙◌, ℕ, ◌<◌, ◌≤◌, List, String, Vec, Global, length, slice_index_or, sym, ap, subst, arith}
use Rattle.std.proofs.lemmas.List.{length-map}
use Rattle.elf_reader.specs.File.{plain_view}
use Rattle.board_config.specs.Board.{plain_texts, plain_regions}
use Rattle.region_former.specs.Naming.{function_named}
use Rattle.region_former.specs.Listing.{listed_region}
use Rattle.region_former.specs.Listed.{plain_lists}
use Rattle.region_former.specs.declared.reaching.FunctionRegions.{FunctionRegions}
use Rattle.region_former.proofs.FormLemmas.{of_reached, of_listed, emptied, filled}
use Rattle.region_former.proofs.forming.function_regions.Goals as goal

pub returns-in-Ok-clause-regions : goal.returns-in-Ok-clause-regions
returns-in-Ok-clause-regions c =
    let v = plain_view c.args.view.now in
    let code = c.args.code.now in
    let board = c.args.board.now in
    let named = c.function_named-driver.ensures.named ∙ ap (function_named v code.functions.items) c.as_bytes.ensures.value in
    of_reached v code board c.function_named-driver.result c.in-Ok.reached (emptied board.regions c.is_empty.result c.is_empty.ensures c.if-is_empty.true) named
    c.in-Ok.ensures.count c.in-Ok.ensures.one_each c.in-Ok.ensures.regions

pub returns-in_ok-of_function-clause-regions : goal.returns-in_ok-of_function-clause-regions
returns-in_ok-of_function-clause-regions c =
    let v = plain_view c.args.view.now in
    let code = c.args.code.now in
    let board = c.args.board.now in
    let of_function = c.in_ok-of_function.of_function in
    let made : FunctionRegions = record { count = c.len.result; of_function = of_function } in
    let count = length-map board.regions.items plain_texts in
    let few : length (plain_regions board.regions) ≤ 8 = omega (arith, count, c.requires.few) in
    let is : c.len.result ≡ length (plain_regions board.regions) = c.len.ensures ∙ board.regions.ok.0 ∙ sym count in
    let are = subst (λ (ls : List (Vec (String Global) Global)). (f : ℕ) → f < length code.functions.items → slice_index_or of_function.items f 0 ≡ listed_region v code.functions.items (plain_lists ls) f (length ls)) c.deref.ensures.value c.in_ok-of_function.ensures.regions in
    of_listed v code board made (filled board.regions c.is_empty.result c.is_empty.ensures c.if-is_empty.false) few is c.in_ok-of_function.ensures.one_each
    (λ f below. are f below ∙ ap (listed_region v code.functions.items (plain_regions board.regions) f) (sym count))
