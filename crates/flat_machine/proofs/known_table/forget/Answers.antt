use Rattle.std.proofs.Common.{◌≡◌, ◌∙◌, ℕ, arith, slice_set, slice_index_or, length-set, ap, sym, subst}
use Rattle.std.proofs.lemmas.Grind.{get_or-set_at}
use Rattle.std.proofs.lemmas.List.{get_or_default}
use Rattle.flat_machine.specs.declared.known.Known.{Known}
use Rattle.flat_machine.specs.Known.{vacant, slot_of}
use Rattle.flat_machine.proofs.Tables.{known_after_store, known_but_one}
use Rattle.flat_machine.proofs.known_table.forget.Goals as goal

pub returns-then-known-k : goal.returns-then-known-k
returns-then-known-k g c map mem kind value aligned all =
    let known = slice_set c.args.known.now c.slot-k.result vacant in
    known_after_store map mem known kind c.args.at value c.ranges.at.fits aligned
    (known_but_one map mem c.args.known.now c.slot-k.result all)
    (λ j d here inside kept.
    let len = length-set c.args.known.now c.slot-k.result vacant ∙ c.requires.len in
    let place : j ≡ c.slot-k.result = here ∙ (ap (λ slots. slot_of slots c.args.at) len ∙ sym c.slot-k.ensures.place) in
    let gone : slice_index_or known j d ≡ vacant = get_or-set_at c.args.known.now c.slot-k.result j vacant d place (omega arith) in
    absurd (omega (arith, kept, ap (λ (slot : Known). slot.at) gone)))

pub returns-else-known-k : goal.returns-else-known-k
returns-else-known-k g c map mem kind value aligned all =
    known_after_store map mem c.args.known.now kind c.args.at value c.ranges.at.fits aligned all
    (λ j d here inside kept.
    let place : j ≡ c.slot-k.result = here ∙ (ap (λ slots. slot_of slots c.args.at) c.requires.len ∙ sym c.slot-k.ensures.place) in
    let same = get_or_default c.args.known.now c.slot-k.result d _ (omega arith) in
    let found : (slice_index_or c.args.known.now c.slot-k.result d).at ≡ c.from.result = subst (λ (k : ℕ). (slice_index_or c.args.known.now k d).at ≡ c.from.result) place (omega (arith, kept)) in
    absurd (c.if-known-k.false (subst (λ (slot : Known). slot.at ≡ c.from.result) same found)))
