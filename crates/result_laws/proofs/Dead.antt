-- The temporary of a jump is dead where it goes.
use Rattle.std.proofs.Common.{◌≤◌, subst, arith}
use Rattle.std.proofs.lemmas.Nat.Bits.{bit_at-pow_same}
use Rattle.rv32im.specs.RegSet.{IsIn}
use Rattle.dataflow.specs.Live.{Live}
use Rattle.block_splitter.specs.Pieces.{only}
use Rattle.result_laws.specs.CopyLaws.{TemporariesAreDead}
use Rattle.flat_machine.proofs.SilentLines.{set_other}

pub temporaries_are_dead : TemporariesAreDead
temporaries_are_dead c address link register is =
    let from : 5 ≤ register = is.from in
    record {
      live = λ regs value x lives. set_other regs register value x (λ same. is.free.dead (subst (λ y. Live c address y) same lives));
      link = λ regs value. set_other regs register value link (λ same. is.free.allowed (subst (λ y. IsIn (only link) y) same (bit_at-pow_same link)));
      some = λ none. omega (arith, from, none);
    }
