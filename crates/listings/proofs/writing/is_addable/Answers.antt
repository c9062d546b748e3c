use Rattle.std.proofs.Common.{◌≡◌, ◌<◌, ◌≤◌, ℕ, ◌+◌, false, List, length, subst, arith}
use Rattle.std.specs.List.{All}
use Rattle.list_checks.specs.Tests.{ranges_overlap}
use Rattle.elf_reader.specs.declared.view.Segment.{Segment}
use Rattle.elf_writer.specs.Parts.{new_segment}
use Rattle.listings.proofs.AllowedLemmas.{clear_map}
use Rattle.listings.proofs.writing.is_addable.Goals as goal

pub returns : goal.returns
returns c passes =
    let s = new_segment c.args.new.now in
    let is : c.len-size.result ≡ length s.content = omega (arith, c.len-size.ensures, c.args.new.now.bytes.ok) in
    let on_slice = c.is_clear.ensures passes in
    let sized = subst (λ (n : ℕ). All (λ (t : Segment). ranges_overlap t.vaddr t.memsz s.base n ≡ false) c.deref.result.now) is on_slice in
    let clear = subst (λ (ts : List Segment). All (λ (t : Segment). ranges_overlap t.vaddr t.memsz s.base (length s.content) ≡ false) ts) c.deref.ensures.value sized in
    let some : 0 < length s.content = omega (arith, is, c.if-size-eq0.false) in
    let limit : length s.content ≤ 268435456 = omega (arith, is, c.if-size-gt-SEGMENT_LIMIT.false) in
    let ends : s.base + length s.content < 4294967296 = omega (arith, is, c.from.ensures, c.if-from-size-ge4294967296.false) in
    let from_one : 1 ≤ c.args.view.now.ph_count = omega (arith, c.if-view-eq0.false) in (
      record {
        some = some;
        clear = clear_map c.args.view.now.segments.items s clear;
        ends = ends;
        from_one = from_one;
        to_limit = c.if-view-gt63.false;
      },
      limit,
    )
