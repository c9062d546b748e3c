use Rattle.std.proofs.Common.{◌≡◌, ℕ, subst, arith}
use Rattle.elf_reader.specs.File.{plain_view}
use Rattle.list_checks.specs.Sorted.{collected}
use Rattle.loaded_file.proofs.ListedLemmas.{collected_more, list_of}
use Rattle.object_graph.specs.Lists.{count_of, is_listed, number_of}
use Rattle.object_graph.proofs.listing.number_list.Goals as goal

pub loop-k-preserved : goal.loop-k-preserved
loop-k-preserved c =
    let test = is_listed c.args.listed (plain_view c.args.file.now.view.now) in
    let value = number_of c.args.listed (plain_view c.args.file.now.view.now) in
    collected_more test value c.loop-k.k _ _ c.loop-k.invariant c.in_ok-push_number.ensures

pub returns : goal.returns
returns c =
    let v = plain_view c.args.file.now.view.now in
    let test = is_listed c.args.listed v in
    let value = number_of c.args.listed v in
    let all : c.loop-k.k ≡ count_of c.args.listed v = omega arith in
    list_of test value (count_of c.args.listed v) _ c.arrange.new.numbers.items
    (subst (λ (n : ℕ). c.loop-k.list.items ≡ collected test value n) all c.loop-k.invariant)
    c.arrange.ensures.sorted c.arrange.ensures.same c.arrange.ensures.counts
