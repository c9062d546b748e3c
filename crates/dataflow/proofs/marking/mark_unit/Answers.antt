use Rattle.std.proofs.Common.{◌≡◌, ◌∙◌, ℕ, ◌<◌, length, Option, Some, sym, ap, subst}
use Rattle.object_graph.specs.declared.parts.Site.{Site}
use Rattle.reach_graph.specs.Reaching.{HasMark}
use Rattle.dataflow.specs.Points.{site_at}
use Rattle.dataflow.specs.Flows.{written, made}
use Rattle.dataflow.specs.Transfers.{MakesHere}
use Rattle.dataflow.proofs.MarkingLemmas.{adds_one, made_inside, makes_one}
use Rattle.dataflow.proofs.marking.mark_unit.Goals as goal

pub returns-in-Some : goal.returns-in-Some
returns-in-Some c sites us behind at are =
    let u = c.args.unit.now in
    let marks = c.args.marks.now in
    let p = c.in-Some.object in
    let found : made c.args.site u.instr ≡ Some p = sym c.made.ensures ∙ c.in-Some.is in
    let is : made (site_at sites u.at) u.instr ≡ Some p = ap (λ (s : Option Site). made s u.instr) at ∙ found in
    let has : HasMark c.args.word (written u.instr) = subst (λ (x : ℕ). HasMark c.args.word x) (c.from.ensures ∙ c.written-to.ensures) (c.has_mark.ensures.0 c.if-not-has_mark.false) in
    let inside : p < length marks = made_inside c.args.site u.instr p (length marks) found c.requires.object in
    adds_one (MakesHere sites u us behind) marks p inside (makes_one sites u us behind c.args.word p are has is)
