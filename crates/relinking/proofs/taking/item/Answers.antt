use Rattle.std.proofs.Common.{◌≡◌, ◌∙◌, ◌⊎◌, inl, inr, ℕ, ◌<◌, true, List, length, slice_index_or, refl, sym, subst, arith}
use Rattle.std.proofs.lemmas.List.{get_or_default}
use Rattle.placement_programme.specs.declared.variables.VarName.{VarName}
use Rattle.placement_programme.specs.declared.variables.VarName.TheVariants.{StaticCode, OverlayCode}
use Rattle.relocator.specs.Slots.{is_code}
use Rattle.relinking.specs.TakenItems.{CanTell}
use Rattle.relinking.proofs.ItemsTold.{overlay_row, kept_row, static_item, overlay_item, kept_item, code_item, code_there}
use Rattle.relinking.proofs.taking.item.Goals as goal

of_code : (name : VarName) → ((first : ℕ) × (last : ℕ) × (name ≡ StaticCode first last)) ⊎ ((r : ℕ) × (first : ℕ) × (last : ℕ) × (name ≡ OverlayCode r first last)) → is_code name ≡ true
of_code name (inl (first, last, is)) = subst (λ (n : VarName). is_code n ≡ true) (sym is) refl
of_code name (inr (r, first, last, is)) = subst (λ (n : VarName). is_code n ≡ true) (sym is) refl

same_name : (first second : VarName) (k : ℕ) (names : List VarName) → k < length names → first ≡ slice_index_or names k first → second ≡ slice_index_or names k second → second ≡ first
same_name first second k names below is there = there ∙ (get_or_default names k second first below ∙ sym is)

pub data_item-requires-in-OverlayData-clause-row : goal.data_item-requires-in-OverlayData-clause-row
data_item-requires-in-OverlayData-clause-row c =
    let t = c.requires.told in
    overlay_row _ _ _ _ _ _ _ _ _ t.stands t.can c.args.k c.requires.below c.index.result.now c.in-OverlayData.region c.in-OverlayData.object c.index.ensures c.in-OverlayData.is

pub data_item-requires-in-KeptData-clause-row : goal.data_item-requires-in-KeptData-clause-row
data_item-requires-in-KeptData-clause-row c =
    let t = c.requires.told in
    kept_row _ _ _ _ _ _ _ _ _ t.stands t.can c.args.k c.requires.below c.index.result.now c.in-KeptData.pair c.in-KeptData.object c.index.ensures c.in-KeptData.is

pub index-requires-in-StaticCode-2 : goal.index-requires-in-StaticCode-2
index-requires-in-StaticCode-2 c =
    let t = c.requires.told in
    let there = code_there _ _ _ _ _ _ _ _ _ t.stands t.can c.args.k c.requires.below c.index.result.now c.index.ensures (of_code c.index.result.now c.in-StaticCode.is) in
    let number = c.requires.number in
    omega (arith, there, number)

pub copy_item-requires : goal.copy_item-requires
copy_item-requires c =
    let t = c.requires.told in
    let there = code_there _ _ _ _ _ _ _ _ _ t.stands t.can c.args.k c.requires.below c.index.result.now c.index.ensures (of_code c.index.result.now c.in-StaticCode.is) in
    let number = c.requires.number in
    subst (CanTell c.args.analysis.now.code) (sym c.index-in-StaticCode-2.ensures) (t.copied c.args.next c.index-in-StaticCode-2.result.now (omega (arith, there, number)))

pub returns-in-StaticData : goal.returns-in-StaticData
returns-in-StaticData c =
    let t = c.requires.told in
    c.data_item.ensures
    ∙ static_item _ _ _ _ _ _ _ _ _ t.stands t.can c.args.k c.requires.below c.index-in-StaticData.result.now c.in-StaticData.object c.index-in-StaticData.ensures
    (same_name c.index.result.now c.index-in-StaticData.result.now c.args.k _ c.requires.below c.index.ensures c.index-in-StaticData.ensures ∙ c.in-StaticData.is)

pub returns-in-OverlayData : goal.returns-in-OverlayData
returns-in-OverlayData c =
    let t = c.requires.told in
    c.data_item-in-OverlayData.ensures
    ∙ overlay_item _ _ _ _ _ _ _ _ _ t.stands t.can c.args.k c.requires.below c.index-in-OverlayData.result.now c.in-OverlayData.region c.in-OverlayData.object c.index-in-OverlayData.ensures
    (same_name c.index.result.now c.index-in-OverlayData.result.now c.args.k _ c.requires.below c.index.ensures c.index-in-OverlayData.ensures ∙ c.in-OverlayData.is)

pub returns-in-KeptData : goal.returns-in-KeptData
returns-in-KeptData c =
    let t = c.requires.told in
    c.data_item-in-KeptData.ensures
    ∙ kept_item _ _ _ _ _ _ _ _ _ t.stands t.can c.args.k c.requires.below c.index-in-KeptData.result.now c.in-KeptData.pair c.in-KeptData.object c.index-in-KeptData.ensures
    (same_name c.index.result.now c.index-in-KeptData.result.now c.args.k _ c.requires.below c.index.ensures c.index-in-KeptData.ensures ∙ c.in-KeptData.is)

pub returns-in-StaticCode : goal.returns-in-StaticCode
returns-in-StaticCode c =
    let t = c.requires.told in
    let same = same_name c.index.result.now c.index-in-StaticCode.result.now c.args.k _ c.requires.below c.index.ensures c.index-in-StaticCode.ensures in
    c.copy_item.ensures
    ∙ code_item _ _ _ _ _ _ _ _ _ t.stands t.can c.args.k c.requires.below c.index-in-StaticCode-2.result.now c.index-in-StaticCode.result.now c.args.next c.requires.number c.index-in-StaticCode-2.ensures c.index-in-StaticCode.ensures
    (subst (λ (n : VarName). is_code n ≡ true) (sym same) (of_code c.index.result.now c.in-StaticCode.is))
