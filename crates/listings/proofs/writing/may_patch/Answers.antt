use Rattle.listings.proofs.AllowedLemmas.{view_patch_allowed}
use Rattle.listings.proofs.writing.may_patch.Goals as goal

pub returns : goal.returns
returns c passes = view_patch_allowed c.args.file.now.view.now c.args.patch c.requires.file c.requires.sound (c.has_word.ensures passes)
