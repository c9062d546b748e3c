use Rattle.std.proofs.Common.{◌≡◌, ℕ, map, length, subst, arith}
use Rattle.std.proofs.lemmas.List.{length-map}
use Rattle.list_checks.specs.Sorted.{collected}
use Rattle.elf_reader.specs.File.{plain_section, plain_view}
use Rattle.loaded_file.specs.Contents.{has_content, content_start, content_end}
use Rattle.loaded_file.proofs.ListedLemmas.{collected_more, list_of}
use Rattle.loaded_file.proofs.contents.content_bounds.Goals as goal

pub loop-k-preserved : goal.loop-k-preserved
loop-k-preserved c =
    let v = plain_view c.args.view.now in (
      collected_more (has_content v) (content_start v) c.loop-k.k _ _ c.loop-k.invariant.0 c.in_ok-push_bounds.ensures.starts,
      collected_more (has_content v) (content_end v) c.loop-k.k _ _ c.loop-k.invariant.1 c.in_ok-push_bounds.ensures.ends,
    )

pub returns : goal.returns
returns c =
    let v = plain_view c.args.view.now in
    let all : c.loop-k.k ≡ length (map plain_section c.args.view.now.sections.items) = rw length-map (omega arith) in
    record {
      starts = list_of (has_content v) (content_start v) (length v.sections) c.loop-k.starts.items c.arrange.new.numbers.items
          (subst (λ (n : ℕ). c.loop-k.starts.items ≡ collected (has_content v) (content_start v) n) all c.loop-k.invariant.0)
          c.arrange.ensures.sorted c.arrange.ensures.same c.arrange.ensures.counts;
      ends = list_of (has_content v) (content_end v) (length v.sections) c.loop-k.ends.items c.arrange-2.new.numbers.items
          (subst (λ (n : ℕ). c.loop-k.ends.items ≡ collected (has_content v) (content_end v) n) all c.loop-k.invariant.1)
          c.arrange-2.ensures.sorted c.arrange-2.ensures.same c.arrange-2.ensures.counts;
    }
