use Rattle.std.proofs.Common.{◌≡◌, ◌∙◌, ◌++◌, ℕ, List, length, take, drop, ap, subst, arith}
use Rattle.std.specs.Prelude.{◌↔◌}
use Rattle.reach_graph.specs.Reaching.{HasMark, word_at, plain_rows, Reaches}
use Rattle.reach_graph.proofs.ListLemmas.{taken_whole}
use Rattle.points_to.specs.Tables.{Keeps, plain}
use Rattle.points_to.proofs.KeptLemmas.{keeps_reached}
use Rattle.points_to.proofs.starting.reached_from.Goals as goal

pub returns : goal.returns
returns c =
    let n = c.args.nodes.blocks in
    let rows = plain_rows c.args.rows.now in
    let old = c.in_ok-marks.marks in
    let begun = c.begin_marks.new.marks in
    let marks = c.propagate.new.marks in
    let r = plain c.in_ok-reached.reached in
    let whole : length begun ≡ old.len = omega (arith, c.begin_marks.auto.marks, ap length c.deref_mut.ensures.value, old.ok.0) in
    let start : c.deref_mut-2.result.now ≡ begun = c.deref_mut-2.ensures.value ∙ taken_whole old.len begun (drop (length begun) old.items) whole in
    let all : length marks ≡ old.len = omega (arith, c.propagate.auto.marks, ap length start, whole) in
    let last : c.deref.result.now ≡ marks = c.deref.ensures.value ∙ taken_whole old.len marks (drop (length marks) (take old.len (begun ++ drop (length begun) old.items))) all in
    keeps_reached rows n c.args.first c.args.count begun marks r c.begin_marks.ensures
    (subst (λ (xs : List ℕ). (m k : ℕ) → HasMark (word_at marks m) k ↔ Reaches rows xs m k) start c.in_ok-propagate.ensures)
    (subst (λ (xs : List ℕ). Keeps xs n r) last c.in_ok-reached.ensures)
