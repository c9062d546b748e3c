use Rattle.std.proofs.Common.{◌∙◌, ◌+◌, ◌∷◌, [], map, get_or, refl, ap, sym}
use Rattle.elf_reader.specs.File.{PlainSymbol, plain_symbol}
use Rattle.elf_writer.specs.Pieces.{half_bytes, word_bytes}
use Rattle.elf_writer.specs.Changes.{changed}
use Rattle.elf_writer.specs.Parts.{move_changes, moves_changes}
use Rattle.elf_writer.proofs.ChangeLemmas.{changes_step, changes_end, all_taken}
use Rattle.std.proofs.lemmas.List.Elements.{All-more}
use Rattle.elf_writer.specs.declared.parts.SymbolMove.{SymbolMove}
use Rattle.elf_writer.specs.Conditions.{HasWordValue}
use Rattle.elf_writer.proofs.FitLemmas.{symbol_in}
use Rattle.elf_writer.proofs.changing.put_moves.Goals as goal

pub loop-change-preserved : goal.loop-change-preserved
loop-change-preserved c =
    let symbols = c.args.symbols.now in
    let none : SymbolMove = record { symbol = 0; value = 0 } in
    let m = get_or c.args.moves.now c.loop-change.change-index none in
    let there = c.requires c.loop-change.change-index none c.loop-change-test.true in
    let fit = All-more HasWordValue c.args.moves.now c.loop-change.change-index _ c.loop-change-test.true c.loop-change.invariant.0 c.put_move.ensures.word in (
      fit,
      changes_step (move_changes (map plain_symbol symbols)) (moves_changes (map plain_symbol symbols)) c.args.moves.now c.loop-change.change-index none c.loop-change.out _ _
          (λ m rest. refl) c.loop-change-test.true
          (c.put_move.ensures.new
          ∙ ap (λ (s : PlainSymbol). changed (record { place = s.at + 4; content = word_bytes m.value } ∷ record { place = s.at + 14; content = half_bytes 65521 } ∷ []) 0 c.loop-change.out)
          (sym (symbol_in symbols m.symbol _ there.below)))
          c.loop-change.invariant.1,
    )

pub returns-clause-words : goal.returns-clause-words
returns-clause-words c =
    all_taken HasWordValue c.args.moves.now c.loop-change.change-index c.loop-change-test.false c.loop-change.invariant.0

pub returns-clause-new : goal.returns-clause-new
returns-clause-new c =
    changes_end (moves_changes (map plain_symbol c.args.symbols.now)) c.args.moves.now c.loop-change.change-index c.loop-change.out _ refl c.loop-change-test.false c.loop-change.invariant.1
