use Rattle.dataflow.proofs.TransferLemmas.{unit_before}
use Rattle.dataflow.proofs.transfers.before_unit.Goals as goal

pub returns : goal.returns
returns c sites us behind at memory are =
    unit_before sites c.args.unit.now us behind c.args.word c.carried.result c.with_register.result memory are
    (λ x. rw (c.written-to.ensures, c.first_source-first.ensures, c.second_source-second.ensures, ← at) at (c.carried.ensures (λ k has. ((are k).0 has).0) x))
    (λ x. rw c.stored.ensures at (c.with_register.ensures x))
