use Rattle.std.proofs.Common.{inl, inr, List, subst}
use Rattle.code_blocks.specs.declared.parts.Unit.{Unit}
use Rattle.dataflow.specs.Transfers.{AreBefore}
use Rattle.dataflow.proofs.exposing.asked_before.Goals as goal

pub returns : goal.returns
returns c x =
    let found = subst (λ (us : List Unit). AreBefore c.args.graph.now.sites.items us 1 c.registers_before.result) c.units_of.ensures c.registers_before.ensures x in (
      λ has. elim ((c.joined.ensures.marks x).0 has) [
        | inl asks ↦ let (holder, on) = (c.holders.ensures x).0 asks in (holder, inl ((c.bits_of.ensures x).0 on))
        | inr stored ↦ let (holder, leads) = found.0 stored in (holder, inr leads)
      ],
      λ (holder, why). (c.joined.ensures.marks x).1 (elim why [
        | inl asks ↦ inl ((c.holders.ensures x).1 (holder, (c.bits_of.ensures x).1 asks))
        | inr leads ↦ inr (found.1 (holder, leads))
      ]),
    )
