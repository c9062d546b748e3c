use Rattle.std.proofs.Common.{inl, inr, sym, refl, rules}
use Rattle.elf_reader.specs.File.{segments_of}
use Rattle.hex_image.specs.Runs.{file_map, image_map, plain_run}
use Rattle.hex_image.specs.Difference.{IsInOne, view_run}
use Rattle.hex_image.proofs.OffLemmas.{runs_cover, segments_cover}
use Rattle.hex_image.proofs.CompareLemmas.{whole_off, differs_at, same_all, other_entry}
use Rattle.hex_image.proofs.comparing.first_difference.Goals as goal

pub returns-in-Some : goal.returns-in-Some
returns-in-Some c =
    let file = file_map (segments_of c.args.view.now) in
    let image = image_map c.args.image.now in
    let off = whole_off file image (IsInOne view_run c.args.view.now.segments.items) (IsInOne plain_run c.args.image.now.runs.items) _ _ c.first_in_segments-in_file.ensures c.first_in_runs-in_image.ensures (segments_cover c.args.view.now.segments.items) (runs_cover plain_run c.args.image.now.runs.items) in
    inl (differs_at file image _ c.in-Some.address (sym c.in-Some.ensures) off)

pub returns-in-None : goal.returns-in-None
returns-in-None c =
    let file = file_map (segments_of c.args.view.now) in
    let image = image_map c.args.image.now in
    let off = whole_off file image (IsInOne view_run c.args.view.now.segments.items) (IsInOne plain_run c.args.image.now.runs.items) _ _ c.first_in_segments-in_file.ensures c.first_in_runs-in_image.ensures (segments_cover c.args.view.now.segments.items) (runs_cover plain_run c.args.image.now.runs.items) in
    (same_all file image _ (sym c.in-None.ensures) off, search rules)

pub returns-in-None-2 : goal.returns-in-None-2
returns-in-None-2 c =
    let file = file_map (segments_of c.args.view.now) in
    let image = image_map c.args.image.now in
    let off = whole_off file image (IsInOne view_run c.args.view.now.segments.items) (IsInOne plain_run c.args.image.now.runs.items) _ _ c.first_in_segments-in_file.ensures c.first_in_runs-in_image.ensures (segments_cover c.args.view.now.segments.items) (runs_cover plain_run c.args.image.now.runs.items) in
    inr (same_all file image _ (sym c.in-None-2.ensures) off, other_entry c.args.image.now.entry c.args.view.now.entry c.if-eq.ensures, refl)
