use Rattle.std.proofs.Common.{◌≡◌, ◌&&◌, ◌||◌, ℕ, length, subst, arith}
use Rattle.list_checks.specs.Tests.{any_below}
use Rattle.elf_reader.specs.File.{plain_view}
use Rattle.code_blocks.specs.Leaders.{is_call_by}
use Rattle.code_blocks.specs.Early.{has}
use Rattle.code_blocks.specs.Pairs.{may_be_pair}
use Rattle.code_blocks.proofs.EarlyLemmas.{none_more, place_more}
use Rattle.code_blocks.proofs.pairs.add_pairs.Goals as goal

pub loop-i-init : goal.loop-i-init
loop-i-init c p = none_more (has c.args.pairs.now.items p) (may_be_pair (plain_view c.args.file.now.view.now) p)

pub loop-i-preserved : goal.loop-i-preserved
loop-i-preserved c p =
    let v = plain_view c.args.file.now.view.now in
    place_more _ _ _ (may_be_pair v p) (is_call_by v p) c.loop-i.i (c.loop-i.invariant p) (c.in_ok-add_pair.ensures p)

pub returns : goal.returns
returns c p =
    let v = plain_view c.args.file.now.view.now in
    let all : c.loop-i.i ≡ length v.relocs = omega arith in
    subst (λ (n : ℕ). has c.loop-i.pairs.items p ≡ has c.args.pairs.now.items p || may_be_pair v p && any_below (is_call_by v p) n) all (c.loop-i.invariant p)
