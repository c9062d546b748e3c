use Rattle.std.proofs.Common.{◌≡◌, ℕ, ◌<◌, ◌++◌, true, List, length, sym, ◌∙◌, ap, subst, arith}
use Rattle.elf_reader.specs.File.{plain_view}
use Rattle.loaded_file.specs.Code.{is_code_word}
use Rattle.code_blocks.specs.Blocks.{IsBlock}
use Rattle.code_blocks.specs.declared.parts.Unit.{Unit}
use Rattle.code_blocks.specs.declared.parts.Block.{Block}
use Rattle.object_machine.specs.declared.units.Prepared.{Prepared}
use Rattle.object_machine.specs.Preparing.{ArePrepared, IsBlockUnits}
use Rattle.object_machine.proofs.BlockUnitsLemmas.{piece_of, block_units_more}
use Rattle.object_machine.proofs.TableLemmas.{block_is_code}
use Rattle.object_machine.proofs.preparing.lay_blocks.Goals as goal

pub loop-i-preserved : goal.loop-i-preserved
loop-i-preserved c board =
    let view = c.args.file.now.view.now in
    let v = plain_view view in
    let g = c.args.graph.now in
    let code = c.args.code.now in
    let blocks = code.blocks.items in
    let functions = code.functions.items in
    let i = c.loop-i.i in
    let b = c.index-block.result.now in
    let rs = c.in_ok-units.units.items in
    let below : i < length blocks = omega arith in
    let is = c.index-block.ensures in
    let starts_code : is_code_word v b.start ≡ true = subst (λ (x : Block). is_code_word v x.start ≡ true) (sym is) (block_is_code v code i b c.requires.code below) in
    let block : IsBlock v functions b = subst (IsBlock v functions) (sym is) (c.requires.code.blocks i b below) in
    let are : ArePrepared v g b.units.items (length b.units.items) rs = subst (λ (xs : List Unit). ArePrepared v g xs (length xs) rs) c.deref.ensures.value c.in_ok-units.ensures in
    let piece = piece_of view board g functions b rs c.requires.read starts_code block are in
    let units : c.lay.new.block_units.units.items ≡ c.loop-i.block_units.units.items ++ rs = c.in_ok-lay.ensures.units ∙ ap (λ (xs : List Prepared). c.loop-i.block_units.units.items ++ xs) c.deref-in-loop-i.ensures.value in
    block_units_more v board g blocks i c.loop-i.block_units c.lay.new.block_units b rs below (sym is) (c.loop-i.invariant board) piece units c.in_ok-lay.ensures.starts c.in_ok-lay.ensures.places

pub returns : goal.returns
returns c board =
    let blocks = c.args.code.now.blocks.items in
    let all : c.loop-i.i ≡ length blocks = omega arith in
    subst (λ (n : ℕ). IsBlockUnits (plain_view c.args.file.now.view.now) board c.args.graph.now blocks n c.loop-i.block_units) all (c.loop-i.invariant board)
