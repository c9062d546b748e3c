use Rattle.std.proofs.Common.{arith}
use Rattle.std.proofs.lemmas.List.Elements.{All-from_get_or}
use Rattle.std.proofs.lemmas.Result.{err_from_is_err_and}
use Rattle.elf_reader.specs.Loadable.{IsByte, AreBytes}
use Rattle.relinking.proofs.Analysed.{analysed}
use Rattle.command_line.proofs.Analysing.{board_rejected, analysis_rejected}
use Rattle.command_line.proofs.opening.open.Goals as goal

pub returns-in_err-board-clause-err : goal.returns-in_err-board-clause-err
returns-in_err-board-clause-err c =
    let p = err_from_is_err_and c.from_residual.result c.from_residual.ensures.1 in
    rw (p.1, p.2) (board_rejected c.args.board.now c.args.file.now _ c.in_err-board.ensures.fault)

pub returns-in_err-analysis-clause-err : goal.returns-in_err-analysis-clause-err
returns-in_err-analysis-clause-err c =
    let p = err_from_is_err_and c.from_residual-in_err-analysis.result c.from_residual-in_err-analysis.ensures.1 in
    rw (p.1, p.2)
    (analysis_rejected c.args.board.now c.args.file.now c.in_ok-board.board c.in_ok-board.ensures.board c.in_ok-board.ensures.fault _ c.in_err-analysis.ensures.fault)

pub invariant_of-result : goal.invariant_of-result
invariant_of-result c =
    let file = c.args.file.now in
    let found = c.in_ok-analysis.ensures in
    let bytes : AreBytes file = All-from_get_or IsByte file 0 (λ k below. let fits = c.type_inv.file k in omega (arith, fits)) in
    record { analysed = ∣ (file, analysed file c.in_ok-board.board c.in_ok-analysis.analysis bytes c.in_ok-board.ensures.lawful found.file found.fault found.graph found.code found.live found.regions found.pieces) ∣₁ }

pub returns-clause-ok : goal.returns-clause-ok
returns-clause-ok c =
    let file = c.args.file.now in
    let found = c.in_ok-analysis.ensures in
    let bytes : AreBytes file = All-from_get_or IsByte file 0 (λ k below. let fits = c.type_inv.file k in omega (arith, fits)) in
    record {
      accepts = record { is_board = c.in_ok-board.ensures.board; sound = c.in_ok-board.ensures.fault; no_fault = found.fault };
      analysed = analysed file c.in_ok-board.board c.in_ok-analysis.analysis bytes c.in_ok-board.ensures.lawful found.file found.fault found.graph found.code found.live found.regions found.pieces;
    }
