use Rattle.std.proofs.Common.{◌≡◌, ℕ, ◌<◌, ◌-◌, List, drop, suc, length, sym, ◌∙◌, ap, subst, arith}
use Rattle.object_graph.specs.declared.parts.DataWord.{DataWord}
use Rattle.cell_values.specs.Stored.{cells_of}
use Rattle.object_machine.specs.Start.{first_cell}
use Rattle.object_machine.proofs.StartLemmas.{none_left, word_more}
use Rattle.object_machine.proofs.starting.lay_words.Goals as goal

pub loop-k-init : goal.loop-k-init
loop-k-init c image is = is ∙ ap (first_cell image) (sym (none_left c.args.words.now))

pub loop-k-preserved : goal.loop-k-preserved
loop-k-preserved c image is =
    let inside : c.loop-k.k - 1 < length c.args.words.now = omega arith in
    let next : c.loop-k.k ≡ suc (c.loop-k.k - 1) = omega arith in
    c.in_ok-lay_word.ensures
    ∙ word_more image c.args.words.now (c.loop-k.k - 1) c.loop-k.k _ (cells_of c.loop-k.memory) next inside (c.loop-k.invariant image is)

pub returns : goal.returns
returns c image is =
    let all : c.loop-k.k ≡ 0 = omega arith in
    subst (λ (n : ℕ). cells_of c.loop-k.memory ≡ first_cell image (drop n c.args.words.now)) all (c.loop-k.invariant image is)
