use Rattle.std.proofs.Common.{◌≡◌, ◌∙◌, true, false, length, sym, ap, subst}
use Rattle.std.proofs.lemmas.List.{get_or-map}
use Rattle.list_checks.specs.Tests.{any_below}
use Rattle.list_checks.proofs.TestLemmas.{any_at}
use Rattle.elf_reader.specs.File.{PlainSymbol, plain_symbol, plain_view}
use Rattle.loaded_file.specs.Records.{no_symbol, symbol_at}
use Rattle.loaded_file.specs.Reaches.{holds_range}
use Rattle.loaded_file.specs.declared.reaches.SectionKind.TheVariants.{Code}
use Rattle.code_blocks.proofs.candidates.lies_in_code.Goals as goal

pub returns-in-Some : goal.returns-in-Some
returns-in-Some c =
    let view = c.args.file.now.view.now in
    let v = plain_view view in
    let s = c.index-symbol.result.now in
    let here : symbol_at v c.args.k ≡ plain_symbol s = get_or-map plain_symbol view.symbols.items c.args.k s no_symbol c.requires.below ∙ ap plain_symbol (sym c.index-symbol.ensures) in
    subst (λ (t : PlainSymbol). true ≡ any_below (holds_range Code v t.value t.size) (length v.sections)) (sym here)
    (sym (any_at (holds_range Code v s.value s.size) (length v.sections) c.in-Some.field-0 c.in-Some.ensures.0 c.in-Some.ensures.1))

pub returns-in-None : goal.returns-in-None
returns-in-None c =
    let s = c.index-symbol.result.now in
    let view = c.args.file.now.view.now in
    let v = plain_view view in
    let here : symbol_at v c.args.k ≡ plain_symbol s = get_or-map plain_symbol view.symbols.items c.args.k s no_symbol c.requires.below ∙ ap plain_symbol (sym c.index-symbol.ensures) in
    subst (λ (t : PlainSymbol). false ≡ any_below (holds_range Code v t.value t.size) (length v.sections)) (sym here) (sym c.in-None.ensures)
