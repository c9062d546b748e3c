use Rattle.std.proofs.Common.{◌≡◌, ◌∙◌, ℕ, ◌+◌, ◌<◌, suc, ◌++◌, ◌∷◌, [], length, sym, ap, arith}
use Rattle.placement_programme.specs.Views.{plain_programme, plain_choice}
use Rattle.placement_programme.specs.declared.variables.VarName.{VarName}
use Rattle.relocator.specs.Placing.{chosen_slots}
use Rattle.relocator.specs.Laws.{slot_at}
use Rattle.result_laws.specs.ChosenJobs.{code_number, next_code}
use Rattle.printed_lines.specs.declared.taken.TakenItem.{TakenItem}
use Rattle.relinking.proofs.ItemsTold.{within, name_is, number_more, number_below, number_first, told_more}
use Rattle.relinking.proofs.taking.taken_items.Goals as goal

pub loop-k-init : goal.loop-k-init
loop-k-init c =
    (c.new-items.ensures.items, number_first (chosen_slots c.args.board.now (plain_programme c.args.relinked.now.programme) (plain_choice c.args.relinked.now.found.choice)))

pub next_code-next-requires : goal.next_code-next-requires
next_code-next-requires c =
    let slots = chosen_slots c.args.board.now (plain_programme c.args.relinked.now.programme) (plain_choice c.args.relinked.now.found.choice) in
    let few = number_below slots c.loop-k.k in
    let next = c.loop-k.invariant.1 in
    omega (arith, few, next, c.loop-k-test.true, c.len-k-end.type_inv)

pub loop-k-preserved : goal.loop-k-preserved
loop-k-preserved c =
    let a = c.args.analysis.now in
    let r = c.args.relinked.now in
    let p = plain_programme r.programme in
    let choice = plain_choice r.found.choice in
    let slots = chosen_slots c.args.board.now p choice in
    let k = c.loop-k.k in
    let below : k < length r.result.names.items = omega (arith, c.loop-k-test.true) in
    let there = within c.args.board.now a.graph a.code a.regions p choice r.result.names.items r.result.copies.items r.result.places c.requires.stands c.requires.can k below in
    let name = name_is c.args.board.now a.graph a.code a.regions p choice r.result.names.items r.result.copies.items r.result.places c.requires.stands c.requires.can k below c.index.result.now c.index.ensures in (
      told_more a.graph a.code slots k c.loop-k.items.items c.push.new.self.items there c.loop-k.invariant.0
          (c.in_ok-push.ensures.items ∙ ap (λ (x : TakenItem). c.loop-k.items.items ++ x ∷ []) c.item.ensures),
      c.next_code-next.ensures
          ∙ (ap (λ (n : VarName). next_code n c.loop-k.next) name
          ∙ (ap (next_code (slot_at slots k).name) c.loop-k.invariant.1 ∙ (sym (number_more slots k there) ∙ ap (code_number slots) (suc_is k)))),
    )
  where
    suc_is : (k : ℕ) → suc k ≡ k + 1
    suc_is k = omega arith
