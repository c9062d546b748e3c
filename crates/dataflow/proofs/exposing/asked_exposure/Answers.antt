use Rattle.std.proofs.Common.{◌≡◌, ◌∙◌, ◌+◌, ◌++◌, ◌∷◌, ℕ, [], List, length, replicate, sym, ap, subst, arith}
use Rattle.std.proofs.lemmas.List.{length_push, get_or_push}
use Rattle.dataflow.specs.Spreading.{AreFirst, AreWords, AreSound}
use Rattle.dataflow.proofs.ExposureLemmas.{first_more, first_still, first_words, first_sound}
use Rattle.dataflow.proofs.exposing.asked_exposure.Goals as goal

pub loop-block-preserved : goal.loop-block-preserved
loop-block-preserved c =
    let code = c.args.code.now in
    let sites = c.args.graph.now.sites.items in
    let b = c.loop-block.block in
    let old = c.loop-block.before.items in
    let word = c.asked_before.result in
    let items = c.in_ok-push.ensures.items in
    record {
      size = omega (arith, ap length items, length_push old word, c.loop-block.invariant.size);
      first = subst (λ (ws : List ℕ). AreFirst code sites c.args.asked.now (b + 1) ws) (sym {A = List ℕ} items)
          (first_more code sites c.args.asked.now b word old c.loop-block.invariant.size c.asked_before.ensures c.loop-block.invariant.first);
    }

pub returns-clause-words : goal.returns-clause-words
returns-clause-words c =
    let code = c.args.code.now in
    let n = length code.blocks.items in
    let old = c.loop-block.before.items in
    let all : c.loop-block.block ≡ n = omega (arith, c.loop-block-test.false, c.loop-block.auto.block-end, c.len-block-end.ensures, code.blocks.ok.0) in
    let size : length old ≡ n = c.loop-block.invariant.size ∙ all in
    let items = c.in_ok-push-2.ensures.items in
    let longer = length_push old 0 in
    let whole : length (old ++ 0 ∷ []) ≡ n + 1 = omega (arith, longer, size) in
    let count : c.len.result ≡ n + 1 = omega (arith, c.len.ensures, c.push-2.new.self.ok.0, ap length items, whole) in
    let places : c.in_ok-behind.behind.items ≡ replicate (n + 1) 1 = c.in_ok-behind.ensures.items_if_clones_equal (λ y same. same) ∙ ap (λ (m : ℕ). replicate m 1) count in
    let first = subst (λ (m : ℕ). AreFirst code c.args.graph.now.sites.items c.args.asked.now m old) all c.loop-block.invariant.first in
    subst (λ (ws : List ℕ). AreWords n c.in_ok-behind.behind.items ws) (sym {A = List ℕ} items)
    (first_words code c.args.graph.now c.args.asked.now c.in_ok-behind.behind.items (old ++ 0 ∷ []) places whole (get_or_push old 0 0 n size) (first_still code c.args.graph.now.sites.items c.args.asked.now n 0 old size first))

pub returns-clause-sound : goal.returns-clause-sound
returns-clause-sound c =
    let code = c.args.code.now in
    let items = c.in_ok-push-2.ensures.items in
    let n = length code.blocks.items in
    let old = c.loop-block.before.items in
    let longer = length_push old 0 in
    let all : c.loop-block.block ≡ n = omega (arith, c.loop-block-test.false, c.loop-block.auto.block-end, c.len-block-end.ensures, code.blocks.ok.0) in
    let size : length old ≡ n = c.loop-block.invariant.size ∙ all in
    let first = subst (λ (m : ℕ). AreFirst code c.args.graph.now.sites.items c.args.asked.now m old) all c.loop-block.invariant.first in
    let whole : length (old ++ 0 ∷ []) ≡ n + 1 = omega (arith, longer, size) in
    let count : c.len.result ≡ n + 1 = omega (arith, c.len.ensures, c.push-2.new.self.ok.0, ap length items, whole) in
    let places : c.in_ok-behind.behind.items ≡ replicate (n + 1) 1 = c.in_ok-behind.ensures.items_if_clones_equal (λ y same. same) ∙ ap (λ (m : ℕ). replicate m 1) count in
    subst (λ (ws : List ℕ). AreSound code c.args.graph.now c.args.asked.now c.in_ok-behind.behind.items ws) (sym {A = List ℕ} items)
    (first_sound code c.args.graph.now c.args.asked.now c.in_ok-behind.behind.items (old ++ 0 ∷ []) places whole (get_or_push old 0 0 n size) (first_still code c.args.graph.now.sites.items c.args.asked.now n 0 old size first))
