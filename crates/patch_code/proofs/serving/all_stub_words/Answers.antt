use Rattle.std.proofs.Common.{List, ◌+◌, ◌++◌, ℕ, ◌∙◌, ap}
use Rattle.patch_code.proofs.WholePlans.{one_more, all_done}
use Rattle.patch_code.proofs.serving.all_stub_words.Goals as goal

pub loop-stub-preserved : goal.loop-stub-preserved
loop-stub-preserved c =
    one_more c.args.base c.args.switch c.args.first c.args.ordered.now c.loop-stub.stub-index c.loop-stub.at (c.loop-stub.at + c.stub_size-at.result)
    c.stub-item.result c.loop-stub.words.items c.extend_from_slice.new.self.items c.in_ok-here.here.items c.loop-stub-test.true c.stub-item.is
    (c.in_ok-extend_from_slice.ensures.items ∙ ap (λ (xs : List ℕ). c.loop-stub.words.items ++ xs) c.deref.ensures.value)
    (ap (λ n. c.loop-stub.at + n) c.stub_size-at.ensures) c.in_ok-here.ensures c.loop-stub.invariant

pub returns : goal.returns
returns c =
    all_done c.args.base c.args.switch c.args.first c.args.ordered.now c.loop-stub.stub-index c.loop-stub.at c.loop-stub.words.items c.loop-stub-test.false
    c.loop-stub.invariant
