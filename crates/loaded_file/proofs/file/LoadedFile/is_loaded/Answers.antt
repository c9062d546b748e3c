use Rattle.std.proofs.Common.{◌∙◌, false, sym}
use Rattle.std.proofs.lemmas.List.{get_or_default}
use Rattle.loaded_file.proofs.LoadedSections.{marks_length, mark_is}
use Rattle.loaded_file.proofs.file.LoadedFile.is_loaded.Goals as goal

pub index-requires : goal.index-requires
index-requires c =
    let marks = c.args.self.now.loaded in
    rw (marks.ok.0) (marks_length c.args.self.now.view.now marks.items c.args.k c.args.self.now.marks c.requires.below)

pub returns : goal.returns
returns c =
    let marks = c.args.self.now.loaded in
    let below = marks_length c.args.self.now.view.now marks.items c.args.k c.args.self.now.marks c.requires.below in
    c.index.ensures
    ∙ sym (get_or_default marks.items c.args.k false c.index.result.now below)
    ∙ mark_is c.args.self.now.view.now marks.items c.args.k c.args.self.now.marks c.requires.below
