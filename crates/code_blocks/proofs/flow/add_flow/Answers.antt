use Rattle.std.proofs.Common.{◌≡◌, ℕ, ◌&&◌, ◌||◌, length, map, subst, arith}
use Rattle.std.proofs.lemmas.List.{length-map}
use Rattle.list_checks.specs.Tests.{any_below}
use Rattle.elf_reader.specs.File.{plain_section, plain_view}
use Rattle.loaded_file.specs.Code.{is_code_word}
use Rattle.code_blocks.specs.Words.{passes_in}
use Rattle.code_blocks.specs.Early.{has}
use Rattle.code_blocks.specs.Flow.{leads_by}
use Rattle.code_blocks.proofs.EarlyLemmas.{place_more}
use Rattle.code_blocks.proofs.flow.add_flow.Goals as goal

pub loop-k-preserved : goal.loop-k-preserved
loop-k-preserved c a =
    let v = plain_view c.args.file.now.view.now in
    place_more _ _ _ _ (passes_in v (leads_by c.args.rule v a)) c.loop-k.k (c.loop-k.invariant a) (c.in_ok-add_range.ensures a)

pub returns : goal.returns
returns c a =
    let v = plain_view c.args.file.now.view.now in
    let count : length (map plain_section c.args.file.now.view.now.sections.items) ≡ length c.args.file.now.view.now.sections.items = length-map c.args.file.now.view.now.sections.items plain_section in
    let all : c.loop-k.k ≡ length v.sections = omega (arith, count) in
    subst (λ (n : ℕ). has c.loop-k.leaders.items a ≡ has c.args.leaders.now.items a || is_code_word v a && any_below (passes_in v (leads_by c.args.rule v a)) n) all (c.loop-k.invariant a)
