use Rattle.std.proofs.Common.{◌≡◌, ◌∙◌, ◌<◌, Ok, Err, length, sym, subst, arith}
use Rattle.std.specs.Prelude.{ℕ, ◌↔◌}
use Rattle.std.proofs.lemmas.Grind.{get_or_default_zero}
use Rattle.std.proofs.lemmas.List.Sorted.{searched}
use Rattle.code_blocks.proofs.SearchLemmas.{search_tells}
use Rattle.reach_graph.specs.Reaching.{HasMark, word_at}
use Rattle.dataflow.specs.Live.{Live}
use Rattle.code_blocks.proofs.SearchLemmas.{not_falling}
use Rattle.dataflow.proofs.TableLemmas.{found_live, none_live}
use Rattle.dataflow.proofs.table.LiveTable.word_at.Goals as goal

pub returns-in-Ok : goal.returns-in-Ok
returns-in-Ok c code table x low =
    let leaders = c.args.self.now.leaders.items in
    let words = c.args.self.now.live.items in
    let block = c.in-Ok.block in
    let position = rw c.deref.ensures.value at c.in-Ok.ensures.position in
    let found = searched leaders c.args.leader (Ok block) position (not_falling leaders c.args.self.now.ascending) in
    let inside : block < length words = omega (arith, found.0, c.args.self.now.one_each) in
    let same : c.index.result.now ≡ word_at words block = c.index.ensures ∙ get_or_default_zero words block c.index.result.now inside in
    subst (λ (w : ℕ). HasMark w x ↔ Live code c.args.leader x) (sym same)
    (found_live code leaders words c.args.leader block x table.leaders table.live c.args.self.now.ascending found.0 found.1 low)

pub returns-in-Err : goal.returns-in-Err
returns-in-Err c code table x low =
    let leaders = c.args.self.now.leaders.items in
    let position = rw c.deref.ensures.value at c.in-Err.ensures.position in
    none_live code leaders c.args.leader x table.leaders
    (sym (search_tells leaders c.args.leader (Err c.in-Err.field-0) c.args.self.now.ascending position))
