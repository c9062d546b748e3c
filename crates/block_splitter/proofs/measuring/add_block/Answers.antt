use Rattle.std.proofs.Common.{◌∙◌, inl, inr, ◌+◌, sym, ap, arith}
use Rattle.std.proofs.lemmas.Bool.{both_ways}
use Rattle.block_splitter.proofs.MeasureLemmas.{in_range, stands, entry_bars, target_bars, next_bars, size_is}
use Rattle.block_splitter.proofs.TableLemmas.{form_is, no_form}
use Rattle.block_splitter.proofs.measuring.add_block.Goals.{else-is_entry-via-then-is_entry+else-not-form, else-is_entry-via-else-is_entry}
use Rattle.block_splitter.proofs.measuring.add_block.Goals as goal

pub returns-in_default : goal.returns-in_default
returns-in_default c = λ code g ascending range extent table.
    no_form code g c.args.table.now c.args.range.now c.args.b c.args.words c.index.result.now table (in_range code c.args.range.now c.args.b range c.requires.to) c.index.ensures c.in_default.not-Some

pub returns-then-not-form : goal.returns-then-not-form
returns-then-not-form c = λ code g ascending range extent table stand small.
    let form = form_is code g c.args.table.now c.args.b c.index.result.now c.in-Some.form table (in_range code c.args.range.now c.args.b range c.requires.to) c.index.ensures c.in-Some.is in
    entry_bars code g c.args.range.now c.args.b c.in-Some.form form (sym (c.is_entry.ensures code g table) ∙ c.if-is_entry.true) c.if-not-form.true stand

pub returns : goal.returns
returns c = λ code g ascending range extent table.
    let form = form_is code g c.args.table.now c.args.b c.index.result.now c.in-Some.form table (in_range code c.args.range.now c.args.b range c.requires.to) c.index.ensures c.in-Some.is in
    let size = size_is code g c.args.range.now c.args.extent.now c.args.b c.in-Some.form ascending range extent form in
    let told = c.in-Some-words_within.ensures.words in (
      stands code g c.args.range.now c.args.extent.now c.args.b c.in-Some.form ascending range extent form
          (elim c.else-is_entry.branch [
            | else-is_entry-via-then-is_entry+else-not-form w ↦ (λ enters. w.if-not-form.false)
            | else-is_entry-via-else-is_entry w ↦ (λ enters. absurd (both_ways _ w.if-is_entry.false (c.is_entry.ensures code g table ∙ enters)))
          ])
          told.1 told.2,
      ap (λ x. c.args.words + x) (told.0 ∙ size),
      c.if-words-more-gt-MOST_WORDS.false,
    )

pub returns-then-words-more-gt-MOST_WORDS : goal.returns-then-words-more-gt-MOST_WORDS
returns-then-words-more-gt-MOST_WORDS c = λ code g ascending range extent table stand small.
    let form = form_is code g c.args.table.now c.args.b c.index.result.now c.in-Some.form table (in_range code c.args.range.now c.args.b range c.requires.to) c.index.ensures c.in-Some.is in
    let size = size_is code g c.args.range.now c.args.extent.now c.args.b c.in-Some.form ascending range extent form in
    let more = c.in-Some-words_within.ensures.words.0 in
    let over = c.if-words-more-gt-MOST_WORDS.true in
    omega (arith, small, size, more, over)

pub returns-in_default-words_within : goal.returns-in_default-words_within
returns-in_default-words_within c = λ code g ascending range extent table stand small.
    let form = form_is code g c.args.table.now c.args.b c.index.result.now c.in-Some.form table (in_range code c.args.range.now c.args.b range c.requires.to) c.index.ensures c.in-Some.is in
    elim c.in_default-words_within.ensures.words [
      | inl target ↦ target_bars code g c.args.range.now c.args.extent.now c.args.b c.in-Some.form ascending range extent form target stand
      | inr next ↦ next_bars code g c.args.range.now c.args.extent.now c.args.b c.in-Some.form ascending range extent form next stand
    ]
