use Rattle.std.proofs.Common.{◌∙◌, ◌+◌, ◌-◌, ◌*◌, ◌/◌, ◌<◌, ◌≤◌, refl, sym, arith}
use Rattle.elf_reader.specs.File.{plain_view}
use Rattle.elf_reader.specs.Loaded.{section_at}
use Rattle.code_blocks.proofs.RangeLemmas.{word_held, word_held_fits}
use Rattle.code_blocks.proofs.StepLemmas.{walked_none, walked_more, walk_stopped, walk_over, is_unit, no_end}
use Rattle.code_blocks.proofs.walking.walk_in.Goals as goal

pub loop-i-init : goal.loop-i-init
loop-i-init c =
    let v = plain_view c.args.file.now.view.now in
    rw c.new-units.ensures.items (walked_none v c.args.start (((section_at v c.args.k).addr + (section_at v c.args.k).size - c.args.start) / 4))

pub overflow_mul-address : goal.overflow_mul-address
overflow_mul-address c =
    let fits = word_held_fits c.args.file.now.view.now c.args.k c.args.start c.loop-i.i c.requires.read c.requires.holds (omega (arith, c.words_from-i-end.ensures, c.loop-i-test.true)) in
    omega (arith, fits)

pub overflow_add-address : goal.overflow_add-address
overflow_add-address c =
    let fits = word_held_fits c.args.file.now.view.now c.args.k c.args.start c.loop-i.i c.requires.read c.requires.holds (omega (arith, c.words_from-i-end.ensures, c.loop-i-test.true)) in
    omega (arith, fits)

pub word_in-word-requires-clause-holds : goal.word_in-word-requires-clause-holds
word_in-word-requires-clause-holds c =
    word_held (plain_view c.args.file.now.view.now) c.args.k c.args.start c.loop-i.i c.requires.holds (omega (arith, c.words_from-i-end.ensures, c.loop-i-test.true))

pub end_behind-requires-clause-fits : goal.end_behind-requires-clause-fits
end_behind-requires-clause-fits c =
    word_held_fits c.args.file.now.view.now c.args.k c.args.start c.loop-i.i c.requires.read c.requires.holds (omega (arith, c.words_from-i-end.ensures, c.loop-i-test.true))

pub returns-in-Some : goal.returns-in-Some
returns-in-Some c =
    let v = plain_view c.args.file.now.view.now in
    let n = ((section_at v c.args.k).addr + (section_at v c.args.k).size - c.args.start) / 4 in
    let below : c.loop-i.i < n = omega (arith, c.words_from-i-end.ensures, c.loop-i-test.true) in
    let made = c.unit_at.ensures in
    let is = is_unit v c.args.leaders.now c.unit_at.result (c.args.start + 4 * c.loop-i.i) c.word_in-word.result c.requires.leaders c.word_in-word.ensures made.at made.words made.raw made.instr in
    walk_stopped v c.args.start n c.loop-i.i c.loop-i.units.items c.unit_at.result c.in-Some.end _ c.loop-i.invariant c.in_ok-push.ensures.items refl below is made.at (sym c.in-Some.ensures)

pub loop-i-preserved : goal.loop-i-preserved
loop-i-preserved c =
    let v = plain_view c.args.file.now.view.now in
    let n = ((section_at v c.args.k).addr + (section_at v c.args.k).size - c.args.start) / 4 in
    let below : c.loop-i.i < n = omega (arith, c.words_from-i-end.ensures, c.loop-i-test.true) in
    let is = is_unit v c.args.leaders.now c.unit_at.result (c.args.start + 4 * c.loop-i.i) c.word_in-word.result c.requires.leaders c.word_in-word.ensures c.unit_at.ensures.at c.unit_at.ensures.words c.unit_at.ensures.raw c.unit_at.ensures.instr in
    walked_more v c.args.start n c.loop-i.i c.loop-i.units.items _ c.unit_at.result c.loop-i.invariant c.in_ok-push.ensures.items below is c.unit_at.ensures.at
    (sym c.end_behind.ensures ∙ no_end c.end_behind.result c.in_default.not-Some)

pub returns : goal.returns
returns c =
    let v = plain_view c.args.file.now.view.now in
    let n = ((section_at v c.args.k).addr + (section_at v c.args.k).size - c.args.start) / 4 in
    let all : n ≤ c.loop-i.i = omega (arith, c.words_from-i-end.ensures, c.loop-i-test.false) in
    walk_over v c.args.start n c.loop-i.i _ c.loop-i.invariant all refl
