use Rattle.std.proofs.Common.{◌≡◌, ◌∙◌, ◌⊎◌, inl, ◌<◌, ℕ, ◌++◌, List, take, drop, length, slice_set, sym, ap, subst, arith}
use Rattle.std.proofs.lemmas.Grind.{get_or_default_zero}
use Rattle.std.proofs.lemmas.List.{length-set}
use Rattle.reach_graph.specs.Reaching.{HasMark}
use Rattle.reach_graph.specs.Propagation.{IsGrown}
use Rattle.reach_graph.proofs.ListLemmas.{taken_whole}
use Rattle.code_blocks.specs.Leads.{units_at}
use Rattle.code_blocks.specs.declared.parts.Unit.{Unit}
use Rattle.dataflow.specs.Transfers.{AreBefore}
use Rattle.dataflow.specs.Spreading.{IsStep}
use Rattle.dataflow.proofs.SpreadLemmas.{step_some, words_step}
use Rattle.dataflow.proofs.spreading.Exposure.pass.Goals as goal

pub registers_before-added-requires-clause-memory : goal.registers_before-added-requires-clause-memory
registers_before-added-requires-clause-memory c =
    let words = c.requires.words in
    let behind = c.args.self.now.behind.items in
    let inside = words.behind_size in
    let is = c.index-old.ensures ∙ get_or_default_zero behind c.args.node c.index-old.result.now (omega (arith, inside, c.requires.node)) in
    (c.joined-grown.ensures.marks 0).1 (inl (subst (λ (w : ℕ). HasMark w 0) (sym is) (words.memory c.args.node c.requires.node)))

pub returns-clause-step : goal.returns-clause-step
returns-clause-step c =
    let words = c.requires.words in
    let code = c.args.code.now in
    let sites = c.args.graph.now.sites.items in
    let m = c.args.node in
    let behind = c.args.self.now.behind.items in
    let before = c.args.self.now.before in
    let queue = c.args.queue.now in
    let new = c.grow.new in
    let grown = c.joined-grown.result in
    let size = words.behind_size in
    let inside : m < length behind = omega (arith, size, c.requires.node) in
    let is = c.index-old.ensures ∙ get_or_default_zero behind m c.index-old.result.now inside in
    let same : length new.marks ≡ before.len = omega (arith, c.grow.auto.marks, ap length c.deref_mut.ensures.value, before.ok.0) in
    let found : AreBefore sites (units_at code m) grown c.registers_before-added.result =
    subst (λ (us : List Unit). AreBefore sites us grown c.registers_before-added.result) c.units_of.ensures c.registers_before-added.ensures in
    let grows = subst (λ (ms : List ℕ). IsGrown m c.registers_before-added.result ms queue.waiting.items queue.waits.items new.marks new.queue.waiting.items new.queue.waits.items)
    c.deref_mut.ensures.value c.in_ok-grow.ensures in
    subst (λ (bs : List ℕ). IsStep code sites m c.args.by behind before.items (slice_set behind m grown) bs)
    (sym {A = List ℕ} (taken_whole before.len new.marks (drop (length new.marks) before.items) same))
    (step_some code sites m c.args.by grown c.registers_before-added.result behind before.items queue.waiting.items queue.waits.items new.marks new.queue.waiting.items new.queue.waits.items inside
    (λ k. subst (λ (w : ℕ). (HasMark grown k → HasMark w k ⊎ HasMark c.args.by k) × (HasMark w k ⊎ HasMark c.args.by k → HasMark grown k)) is (c.joined-grown.ensures.marks k)) found grows)

pub returns-clause-words : goal.returns-clause-words
returns-clause-words c =
    let behind = c.args.self.now.behind.items in
    let before = c.args.self.now.before in
    let new = c.grow.new in
    let same : length new.marks ≡ before.len = omega (arith, c.grow.auto.marks, ap length c.deref_mut.ensures.value, before.ok.0) in
    let whole = taken_whole before.len new.marks (drop (length new.marks) before.items) same in
    words_step c.args.code.now c.args.graph.now.sites.items (length c.args.code.now.blocks.items) c.args.node c.args.by behind before.items
    (slice_set behind c.args.node c.joined-grown.result) (take before.len (new.marks ++ drop (length new.marks) before.items)) c.requires.words (returns-clause-step c)
    (length-set behind c.args.node c.joined-grown.result) (omega (arith, ap length whole, same, before.ok.0))
