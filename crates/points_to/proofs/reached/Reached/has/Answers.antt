use Rattle.std.proofs.Common.{◌≡◌, ◌∙◌, ◌<◌, ℕ, Ok, Err, length, sym, subst, arith}
use Rattle.std.specs.Prelude.{◌↔◌, IsTrue}
use Rattle.std.proofs.lemmas.Grind.{get_or_default_zero}
use Rattle.std.proofs.lemmas.List.Sorted.{searched}
use Rattle.code_blocks.proofs.SearchLemmas.{search_tells}
use Rattle.reach_graph.specs.Reaching.{HasMark}
use Rattle.points_to.specs.Tables.{word_of}
use Rattle.code_blocks.proofs.SearchLemmas.{not_falling}
use Rattle.points_to.proofs.KeptLemmas.{listed, unlisted, no_mark}
use Rattle.points_to.proofs.reached.Reached.has.Goals as goal

pub returns-in-Ok : goal.returns-in-Ok
returns-in-Ok c =
    let self = c.args.self.now in
    let nodes = self.nodes.items in
    let words = self.words.items in
    let place = c.in-Ok.place in
    let position = rw c.deref.ensures.value at c.in-Ok.ensures.position in
    let found = searched nodes c.args.node (Ok place) position (not_falling nodes self.ascending) in
    let inside : place < length words = omega (arith, found.0, self.one_each) in
    let same : c.index.result.now ≡ word_of nodes words c.args.node =
    c.index.ensures ∙ get_or_default_zero words place c.index.result.now inside ∙ sym (listed nodes words place c.args.node self.ascending self.one_each found.0 found.1) in
    subst (λ (w : ℕ). IsTrue c.has_mark.result ↔ HasMark w c.args.mark) same c.has_mark.ensures

pub returns-in-Err : goal.returns-in-Err
returns-in-Err c =
    let self = c.args.self.now in
    let nodes = self.nodes.items in
    let words = self.words.items in
    let position = rw c.deref.ensures.value at c.in-Err.ensures.position in
    no_mark (word_of nodes words c.args.node) c.args.mark
    (unlisted nodes words c.args.node (sym (search_tells nodes c.args.node (Err c.in-Err.field-0) self.ascending position)))
