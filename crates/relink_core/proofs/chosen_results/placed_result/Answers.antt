use Rattle.std.proofs.Common.{◌∙◌, ℕ, List, refl, sym, ap, subst}
use Rattle.elf_reader.specs.File.{plain_view, IsFile}
use Rattle.elf_reader.specs.Faults.{first_fault}
use Rattle.elf_writer.specs.Parts.{new_segment}
use Rattle.loaded_file.proofs.SymbolCount.{symbols_few}
use Rattle.relink_core.proofs.ResultGoals.{listed, starts, homes_rise, pads_reach, may_write, moved, file_written, may_write_so}
use Rattle.relink_core.proofs.chosen_results.placed_result.Goals as goal

pub patch_segment-requires-clause-lists : goal.patch_segment-requires-clause-lists
patch_segment-requires-clause-lists c =
    let (file, t, p, choice, is) = c.requires in
    (c.in_ok-planned.ensures.planned file t p choice is).plan.of.lists

pub patch_segment-requires-clause-can : goal.patch_segment-requires-clause-can
patch_segment-requires-clause-can c =
    let (file, t, p, choice, is) = c.requires in
    (c.in_ok-planned.ensures.planned file t p choice is).plan.of.planned.can

pub padded_words-requires-clause-ascending : goal.padded_words-requires-clause-ascending
padded_words-requires-clause-ascending c =
    let (file, t, p, choice, is) = c.requires in
    let of = (c.in_ok-planned.ensures.planned file t p choice is).plan.of in
    homes_rise file t p choice c.args.parts.now c.in_ok-planned.planned.plan is of c.deref.result.now c.deref.ensures.value

pub padded_words-requires-clause-reach : goal.padded_words-requires-clause-reach
padded_words-requires-clause-reach c =
    let (file, t, p, choice, is) = c.requires in
    let of = (c.in_ok-planned.ensures.planned file t p choice is).plan.of in
    pads_reach file t p choice c.args.parts.now c.in_ok-planned.planned.plan is of c.in_ok-patch.patch c.in_ok-patch.ensures c.deref.result.now c.deref-2.result.now c.deref.ensures.value c.deref-2.ensures.value

pub symbol_moves-requires-clause-listed : goal.symbol_moves-requires-clause-listed
symbol_moves-requires-clause-listed c =
    let (file, t, p, choice, is) = c.requires in
    let of = (c.in_ok-planned.ensures.planned file t p choice is).plan.of in
    listed file t p choice c.args.parts.now c.in_ok-planned.planned.plan is of c.deref-4.result.now c.deref-4.ensures.value

pub symbol_moves-requires-clause-starts : goal.symbol_moves-requires-clause-starts
symbol_moves-requires-clause-starts c =
    let (file, t, p, choice, is) = c.requires in
    let of = (c.in_ok-planned.ensures.planned file t p choice is).plan.of in
    starts file t p choice c.args.parts.now c.in_ok-planned.planned.plan is of

pub symbol_moves-requires-clause-few : goal.symbol_moves-requires-clause-few
symbol_moves-requires-clause-few c =
    let (file, t, p, choice, is) = c.requires in
    symbols_few c.args.parts.now.view.now is.read

pub write-requires-clause-file : goal.write-requires-clause-file
write-requires-clause-file c =
    let (file, t, p, choice, is) = c.requires in
    let (bytes, is_file, none) = is.read in
    subst (λ (bs : List ℕ). IsFile bs c.args.parts.now.view.now) (sym is_file.bytes) is_file

pub write-requires-clause-sound : goal.write-requires-clause-sound
write-requires-clause-sound c =
    let (file, t, p, choice, is) = c.requires in
    let (bytes, is_file, none) = is.read in
    ap first_fault is_file.bytes ∙ none

pub write-requires-clause-writable : goal.write-requires-clause-writable
write-requires-clause-writable c =
    let (file, t, p, choice, is) = c.requires in
    let of = (c.in_ok-planned.ensures.planned file t p choice is).plan.of in
    may_write_so (plain_view c.args.parts.now.view.now) (new_segment c.in_ok-patch.patch.segment) c.deref-3.result.now _ c.deref-6.result.now c.deref-5.result.now
    (c.deref-5.ensures.value ∙ c.in_ok-patches.ensures) (c.deref-6.ensures.value ∙ c.in_ok-moves.ensures)
    (may_write file t p choice c.args.parts.now c.in_ok-planned.planned.plan is of c.in_ok-patch.patch c.in_ok-patch.ensures c.deref.result.now c.deref-2.result.now c.deref-3.result.now c.in_ok-padded.padded.items c.deref-4.result.now
    c.deref.ensures.value c.deref-2.ensures.value c.deref-3.ensures.value c.deref-4.ensures.value c.in_ok-padded.ensures)

pub returns-in-Ok-clause-placed : goal.returns-in-Ok-clause-placed
returns-in-Ok-clause-placed c = λ file t p choice is.
    let are = c.in_ok-planned.ensures.planned file t p choice is in
    record {
      planned = c.in_ok-planned.planned;
      are = are;
      moves = moved file t p choice c.args.parts.now c.in_ok-planned.planned.plan is are.plan.of c.in_ok-patch.patch c.in_ok-patch.ensures c.deref.result.now c.deref-2.result.now c.deref-3.result.now c.in_ok-padded.padded.items c.deref-4.result.now
          c.deref.ensures.value c.deref-2.ensures.value c.deref-3.ensures.value c.deref-4.ensures.value c.in_ok-padded.ensures c.in-Ok.bytes.items
          (file_written (plain_view c.args.parts.now.view.now) (new_segment c.in_ok-patch.patch.segment) c.deref-3.result.now _ c.deref-6.result.now c.deref-5.result.now c.in-Ok.bytes.items
          (c.deref-5.ensures.value ∙ c.in_ok-patches.ensures) (c.deref-6.ensures.value ∙ c.in_ok-moves.ensures) c.in-Ok.ensures.bytes c.in-Ok.ensures.reads c.in-Ok.ensures.words);
      copies = refl;
      stubs = refl;
      stub_at = c.in_ok-patch.ensures.stubs;
    }
