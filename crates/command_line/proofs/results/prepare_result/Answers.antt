use Rattle.std.proofs.Common.{◌≡◌, ℕ, List, length, subst}
use Rattle.command_language.specs.Command.{gen_command}
use Rattle.command_line.specs.Performing.{IsPreparedFor}
use Rattle.command_line.proofs.ListedNames.{unlisted, unlisted_fails}
use Rattle.command_line.proofs.TextContents.{contents_of_none}
use Rattle.command_line.proofs.results.prepare_result.Goals as goal

pub returns-in-Ok-clause-ok : goal.returns-in-Ok-clause-ok
returns-in-Ok-clause-ok g c = rw c.in-Run.is (unlisted _ _ _ _ (rw c.in-Run.is at c.requires.listed) (c.in-Ok.ensures.ok c.in-Run.file.now c.in-Run.board.now c.in-Run.input.now))

pub returns-in-Err-clause-err : goal.returns-in-Err-clause-err
returns-in-Err-clause-err g c = rw c.in-Run.is (unlisted_fails _ _ _ _ (rw c.in-Run.is at c.requires.listed) (c.in-Err.ensures.err c.in-Run.file.now c.in-Run.board.now c.in-Run.input.now))

pub returns-in-Ok-prepare_relink-clause-ok : goal.returns-in-Ok-prepare_relink-clause-ok
returns-in-Ok-prepare_relink-clause-ok g c = rw c.in-Relink.is (unlisted _ _ _ _ (rw c.in-Relink.is at c.requires.listed) (c.in-Ok-prepare_relink.ensures.ok c.in-Relink.file.now c.in-Relink.board.now c.in-Relink.input.now))

pub returns-in-Err-prepare_relink-clause-err : goal.returns-in-Err-prepare_relink-clause-err
returns-in-Err-prepare_relink-clause-err g c = rw c.in-Relink.is (unlisted_fails _ _ _ _ (rw c.in-Relink.is at c.requires.listed) (c.in-Err-prepare_relink.ensures.err c.in-Relink.file.now c.in-Relink.board.now c.in-Relink.input.now))

pub returns-in-Ok-prepare_profile-clause-ok : goal.returns-in-Ok-prepare_profile-clause-ok
returns-in-Ok-prepare_profile-clause-ok g c = rw c.in-Profile.is (unlisted _ _ _ _ (rw c.in-Profile.is at c.requires.listed) (c.in-Ok-prepare_profile.ensures.ok c.in-Profile.file.now c.in-Profile.board.now c.in-Profile.input.now))

pub returns-in-Err-prepare_profile-clause-err : goal.returns-in-Err-prepare_profile-clause-err
returns-in-Err-prepare_profile-clause-err g c = rw c.in-Profile.is (unlisted_fails _ _ _ _ (rw c.in-Profile.is at c.requires.listed) (c.in-Err-prepare_profile.ensures.err c.in-Profile.file.now c.in-Profile.board.now c.in-Profile.input.now))

pub returns-in-Ok-prepare_compare-clause-ok : goal.returns-in-Ok-prepare_compare-clause-ok
returns-in-Ok-prepare_compare-clause-ok g c = rw c.in-Compare.is (unlisted _ _ _ _ (rw c.in-Compare.is at c.requires.listed) (c.in-Ok-prepare_compare.ensures.ok c.in-Compare.file.now c.in-Compare.relinked.now c.in-Compare.board.now c.in-Compare.input.now))

pub returns-in-Err-prepare_compare-clause-err : goal.returns-in-Err-prepare_compare-clause-err
returns-in-Err-prepare_compare-clause-err g c = rw c.in-Compare.is (unlisted_fails _ _ _ _ (rw c.in-Compare.is at c.requires.listed) (c.in-Err-prepare_compare.ensures.err c.in-Compare.file.now c.in-Compare.relinked.now c.in-Compare.board.now c.in-Compare.input.now))

pub returns-in-Ok-prepare_check-clause-ok : goal.returns-in-Ok-prepare_check-clause-ok
returns-in-Ok-prepare_check-clause-ok g c = rw c.in-Check.is (unlisted _ _ _ _ (rw c.in-Check.is at c.requires.listed) (c.in-Ok-prepare_check.ensures.ok c.in-Check.file.now c.in-Check.board.now c.in-Check.input.now c.in-Check.cert.now))

pub returns-in-Err-prepare_check-clause-err : goal.returns-in-Err-prepare_check-clause-err
returns-in-Err-prepare_check-clause-err g c = rw c.in-Check.is (unlisted_fails _ _ _ _ (rw c.in-Check.is at c.requires.listed) (c.in-Err-prepare_check.ensures.err c.in-Check.file.now c.in-Check.board.now c.in-Check.input.now c.in-Check.cert.now))

pub returns-in-Ok-prepare_paid-clause-ok : goal.returns-in-Ok-prepare_paid-clause-ok
returns-in-Ok-prepare_paid-clause-ok g c = rw c.in-Paid.is (unlisted _ _ _ _ (rw c.in-Paid.is at c.requires.listed) (c.in-Ok-prepare_paid.ensures.ok c.in-Paid.file.now c.in-Paid.board.now c.in-Paid.input.now c.in-Paid.cert.now))

pub returns-in-Err-prepare_paid-clause-err : goal.returns-in-Err-prepare_paid-clause-err
returns-in-Err-prepare_paid-clause-err g c = rw c.in-Paid.is (unlisted_fails _ _ _ _ (rw c.in-Paid.is at c.requires.listed) (c.in-Err-prepare_paid.ensures.err c.in-Paid.file.now c.in-Paid.board.now c.in-Paid.input.now c.in-Paid.cert.now))

pub returns-in-Ok-prepare_trace-clause-ok : goal.returns-in-Ok-prepare_trace-clause-ok
returns-in-Ok-prepare_trace-clause-ok g c = rw c.in-Trace.is (unlisted _ _ _ _ (rw c.in-Trace.is at c.requires.listed) (c.in-Ok-prepare_trace.ensures.ok c.in-Trace.file.now c.in-Trace.board.now c.in-Trace.input.now c.in-Trace.cert.now))

pub returns-in-Err-prepare_trace-clause-err : goal.returns-in-Err-prepare_trace-clause-err
returns-in-Err-prepare_trace-clause-err g c = rw c.in-Trace.is (unlisted_fails _ _ _ _ (rw c.in-Trace.is at c.requires.listed) (c.in-Err-prepare_trace.ensures.err c.in-Trace.file.now c.in-Trace.board.now c.in-Trace.input.now c.in-Trace.cert.now))

pub returns-in-Ok-prepare_show-clause-ok : goal.returns-in-Ok-prepare_show-clause-ok
returns-in-Ok-prepare_show-clause-ok g c = rw c.in-Show.is (unlisted _ _ _ _ (rw c.in-Show.is at c.requires.listed) (c.in-Ok-prepare_show.ensures.ok c.in-Show.file.now c.in-Show.board.now))

pub returns-in-Err-prepare_show-clause-err : goal.returns-in-Err-prepare_show-clause-err
returns-in-Err-prepare_show-clause-err g c = rw c.in-Show.is (unlisted_fails _ _ _ _ (rw c.in-Show.is at c.requires.listed) (c.in-Err-prepare_show.ensures.err c.in-Show.file.now c.in-Show.board.now))

pub returns-in-Ok-prepare_hex-clause-ok : goal.returns-in-Ok-prepare_hex-clause-ok
returns-in-Ok-prepare_hex-clause-ok g c = rw c.in-Hex.is (unlisted _ _ _ _ (rw c.in-Hex.is at c.requires.listed) (c.in-Ok-prepare_hex.ensures.ok c.in-Hex.file.now))

pub returns-in-Err-prepare_hex-clause-err : goal.returns-in-Err-prepare_hex-clause-err
returns-in-Err-prepare_hex-clause-err g c = rw c.in-Hex.is (unlisted_fails _ _ _ _ (rw c.in-Hex.is at c.requires.listed) (c.in-Err-prepare_hex.ensures.err c.in-Hex.file.now))

pub returns-in-Ok-prepare_hex_check-clause-ok : goal.returns-in-Ok-prepare_hex_check-clause-ok
returns-in-Ok-prepare_hex_check-clause-ok g c = rw c.in-HexCheck.is (unlisted _ _ _ _ (rw c.in-HexCheck.is at c.requires.listed) (c.in-Ok-prepare_hex_check.ensures.ok c.in-HexCheck.file.now c.in-HexCheck.hex.now))

pub returns-in-Err-prepare_hex_check-clause-err : goal.returns-in-Err-prepare_hex_check-clause-err
returns-in-Err-prepare_hex_check-clause-err g c = rw c.in-HexCheck.is (unlisted_fails _ _ _ _ (rw c.in-HexCheck.is at c.requires.listed) (c.in-Err-prepare_hex_check.ensures.err c.in-HexCheck.file.now c.in-HexCheck.hex.now))

pub returns-in-Ok-prepare_mix-clause-ok : goal.returns-in-Ok-prepare_mix-clause-ok
returns-in-Ok-prepare_mix-clause-ok g c = rw c.in-Mix.is (c.in-Ok-prepare_mix.ensures.ok c.in-Mix.file.now c.in-Mix.board.now c.in-Mix.mix.now)

pub returns-in-Err-prepare_mix-clause-err : goal.returns-in-Err-prepare_mix-clause-err
returns-in-Err-prepare_mix-clause-err g c = rw c.in-Mix.is (c.in-Err-prepare_mix.ensures.err c.in-Mix.file.now c.in-Mix.board.now c.in-Mix.mix.now)

pub returns-in-Ok-prepare_check_mix-clause-ok : goal.returns-in-Ok-prepare_check_mix-clause-ok
returns-in-Ok-prepare_check_mix-clause-ok g c = rw c.in-CheckMix.is (c.in-Ok-prepare_check_mix.ensures.ok c.in-CheckMix.file.now c.in-CheckMix.board.now c.in-CheckMix.mix.now c.in-CheckMix.cert.now)

pub returns-in-Err-prepare_check_mix-clause-err : goal.returns-in-Err-prepare_check_mix-clause-err
returns-in-Err-prepare_check_mix-clause-err g c = rw c.in-CheckMix.is (c.in-Err-prepare_check_mix.ensures.err c.in-CheckMix.file.now c.in-CheckMix.board.now c.in-CheckMix.mix.now c.in-CheckMix.cert.now)

pub returns-in-Ok-prepare_gen-clause-ok : goal.returns-in-Ok-prepare_gen-clause-ok
returns-in-Ok-prepare_gen-clause-ok g c =
    let none : length c.args.inputs.now.texts.now ≡ 0 = rw c.in-Gen.is at c.requires.texts in
    rw c.in-Gen.is
    (unlisted _ _ _ _ (rw c.in-Gen.is at c.requires.listed)
    (subst (λ (ts : List (List ℕ)). IsPreparedFor (gen_command c.in-Gen.seed c.in-Gen.kernels c.in-Gen.out.now) ts c.in-Ok-prepare_gen.prepared)
    (contents_of_none c.args.inputs.now.texts.now none) c.in-Ok-prepare_gen.ensures.ok))
