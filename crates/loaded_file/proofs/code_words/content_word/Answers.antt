use Rattle.std.proofs.Common.{arith}
use Rattle.loaded_file.proofs.WordLemmas.{content_stands}
use Rattle.loaded_file.proofs.code_words.content_word.Goals as goal

pub overflow_sub-at : goal.overflow_sub-at
overflow_sub-at c =
    (content_stands c.args.view.now c.args.k c.args.address c.index-section.result.now c.requires.read c.requires.has c.index-section.ensures).from

pub bounds-section-at : goal.bounds-section-at
bounds-section-at c = omega (arith, (content_stands c.args.view.now c.args.k c.args.address c.index-section.result.now c.requires.read c.requires.has c.index-section.ensures).inside)

pub bounds-section-at-2 : goal.bounds-section-at-2
bounds-section-at-2 c = omega (arith, (content_stands c.args.view.now c.args.k c.args.address c.index-section.result.now c.requires.read c.requires.has c.index-section.ensures).inside)

pub bounds-section-at-3 : goal.bounds-section-at-3
bounds-section-at-3 c = omega (arith, (content_stands c.args.view.now c.args.k c.args.address c.index-section.result.now c.requires.read c.requires.has c.index-section.ensures).inside)

pub bounds-section-at-4 : goal.bounds-section-at-4
bounds-section-at-4 c = omega (arith, (content_stands c.args.view.now c.args.k c.args.address c.index-section.result.now c.requires.read c.requires.has c.index-section.ensures).inside)

pub returns : goal.returns
returns c =
    let is = (content_stands c.args.view.now c.args.k c.args.address c.index-section.result.now c.requires.read c.requires.has c.index-section.ensures).is in
    let made = c.from_le_bytes.ensures in
    omega (arith, is, made)
