use Rattle.std.proofs.Common.{◌≡◌, ◌∙◌, ℕ, ◌+◌, ◌<◌, length, slice_index_or, sym, arith}
use Rattle.dataflow.specs.Flows.{no_word}
use Rattle.dataflow.proofs.SiteLemmas.{word_inside}
use Rattle.dataflow.specs.Transfers.{IsInWords}
use Rattle.dataflow.proofs.MarkingLemmas.{adds_one, adds_both, word_object, words_more}
use Rattle.dataflow.proofs.marking.mark_words.Goals as goal

pub bounds-marks-index : goal.bounds-marks-index
bounds-marks-index c =
    let g = c.args.graph.now in
    let i = c.loop-i.i in
    let inside : i < length g.data_words.items = omega arith in
    let object = word_object g i c.index.result.now inside c.index.ensures in
    let below = word_inside g i no_word c.requires.graph inside in
    omega (arith, object, below, c.requires.objects)

pub loop-i-preserved : goal.loop-i-preserved
loop-i-preserved c =
    let g = c.args.graph.now in
    let i = c.loop-i.i in
    let p = c.index.result.now.object in
    let q = (slice_index_or g.data_words.items i no_word).object in
    let old = c.args.marks.now in
    let now = c.loop-i.marks in
    let inside : i < length g.data_words.items = omega arith in
    let object = word_object g i c.index.result.now inside c.index.ensures in
    let one = adds_one (λ (o : ℕ). q ≡ o) now p (bounds-marks-index c) (λ o. (λ is. object ∙ is, λ is. sym object ∙ is)) in
    adds_both (IsInWords g i) (λ (o : ℕ). q ≡ o) (IsInWords g (i + 1)) old now _ c.loop-i.invariant one (words_more g i)
