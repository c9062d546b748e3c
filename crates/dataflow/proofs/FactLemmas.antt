-- Facts of points-to that the units of a block pass on.
use Rattle.std.proofs.Common.{◌≡◌, inl, inr, ℕ, suc, ◌<◌, ◌≤◌, List, [], ◌∷◌, map, length, drop, slice_index_or, sym, ◌∙◌, ap, subst, arith}
use Rattle.std.proofs.Math.Seq.{drop-cons}
use Rattle.std.proofs.lemmas.Bool.{cases_lt}
use Rattle.std.proofs.lemmas.List.{get_or-map, get_or_past, length-map, length-drop}
use Rattle.object_graph.specs.declared.parts.Graph.{Graph}
use Rattle.code_blocks.specs.Numbers.{ending_of, end_at}
use Rattle.code_blocks.specs.declared.ends.End.TheVariants.{Stop}
use Rattle.code_blocks.specs.declared.parts.Block.{Block}
use Rattle.code_blocks.specs.declared.parts.Unit.{Unit}
use Rattle.code_blocks.specs.declared.parts.Code.{Code}
use Rattle.code_blocks.specs.Leads.{IsBlockOf, units_in, units_at, no_unit}
use Rattle.dataflow.specs.Points.{IsHolder, unit_of, instr_of, site_of, Held, Escaped, Derives}
use Rattle.dataflow.specs.Flows.{written, PassesAt, Leads}
use Rattle.dataflow.specs.Flows.{stored as stored_by}
use Rattle.dataflow.proofs.RuleLemmas.{first_rule, second_rule, stored_stores, defined_written}

-- what block `b` is
pub end_is : (c : Code) (b : ℕ) (x : Block) → IsBlockOf c b → x ≡ slice_index_or c.blocks.items b x → end_at c b ≡ x.end
end_is c b x below is = get_or-map ending_of c.blocks.items b x Stop below ∙ ap ending_of (sym is)

pub units_are : (c : Code) (b : ℕ) (x : Block) → IsBlockOf c b → x ≡ slice_index_or c.blocks.items b x → units_at c b ≡ x.units.items
units_are c b x below is = get_or-map units_in c.blocks.items b x [] below ∙ ap units_in (sym is)

pub unit_in_block : (c : Code) (b k : ℕ) → k < length (units_at c b) → IsBlockOf c b
unit_in_block c b k inside =
    let count = length-map c.blocks.items units_in in
    elim (cases_lt b (length c.blocks.items)) [
      | inl below ↦ below
      | inr past ↦
          let none : units_at c b ≡ [] = get_or_past (map units_in c.blocks.items) b [] (omega (arith, past, count)) in
          let short : length (units_at c b) ≡ 0 = ap length none in
          absurd (omega (arith, inside, short))
    ]

module _ (c : Code) (g : Graph) (o : ℕ) where
  -- ---- along units

  passed : (b k x z : ℕ) → k < length (units_at c b) → IsHolder x → IsHolder z → PassesAt g.sites.items (unit_of c b k) x z → Derives c g o (Held b k x) → Derives c g o (Held b (suc k) z)
  passed b k x z inside from holder passes held =
      let i = instr_of c b k in
      elim passes [
        | inl (same, other) ↦
            subst (λ (r : ℕ). Derives c g o (Held b (suc k) r)) same (Derives.keep b k x inside (λ defines. other (defined_written i x defines)) held)
        | inr (to, source) ↦
            subst (λ (r : ℕ). Derives c g o (Held b (suc k) r)) (sym to) (elim source [
              | inl first ↦ elim (first_rule (site_of c g b k) i x from.0 first) [
                | inl moves ↦ Derives.move b k x (written i) inside (subst IsHolder to holder) moves held
                | inr sums ↦ Derives.sum b k x (written i) inside (subst IsHolder to holder) sums held
              ]
              | inr second ↦ Derives.sum b k x (written i) inside (subst IsHolder to holder) (second_rule i x from.0 second) held
            ])
      ]

  pub unit_next : (u : Unit) (us : List Unit) (b k : ℕ) → drop k (units_at c b) ≡ u ∷ us → (k < length (units_at c b)) × (u ≡ unit_of c b k) × (drop (suc k) (units_at c b) ≡ us)
  unit_next u us b k is =
      let left = length-drop k (units_at c b) in
      let long : length (drop k (units_at c b)) ≡ suc (length us) = ap length is in
      let inside : k < length (units_at c b) = omega (arith, left, long) in
      let parts : unit_of c b k ∷ drop (suc k) (units_at c b) ≡ u ∷ us = sym (drop-cons (units_at c b) k no_unit inside) ∙ is in
      let unit : u ≡ unit_of c b k = cc parts in
      let rest : drop (suc k) (units_at c b) ≡ us = cc parts in
      (inside, unit, rest)

  -- where a block leads from a register that holds an address
  pub record Comes (b y : ℕ) : Type 0 where
    pub register : 0 < y → Derives c g o (Held b (length (units_at c b)) y)
    pub escapes : y ≡ 0 → Derives c g o Escaped

  pub comes : (us : List Unit) (b k x y : ℕ) → k ≤ length (units_at c b) → drop k (units_at c b) ≡ us → IsHolder x → Leads g.sites.items us x y → Derives c g o (Held b k x) → Comes b y
  comes [] b k x y within is holder leads held =
      let left = length-drop k (units_at c b) in
      let none : length (drop k (units_at c b)) ≡ 0 = ap length is in
      let last : k ≡ length (units_at c b) = omega (arith, within, left, none) in
      let some = holder.0 in record {
        register = λ register. subst (λ (r : ℕ). Derives c g o (Held b (length (units_at c b)) r)) leads (subst (λ (m : ℕ). Derives c g o (Held b m x)) last held);
        escapes = λ zero_place. absurd (omega (arith, some, leads, zero_place));
      }
  comes (u ∷ us) b k x y within is holder leads held =
      let (inside, unit, rest) = unit_next u us b k is in
      elim leads [
        | inl (place, stores) ↦
            let here = subst (λ (v : Unit). x ≡ stored_by v.instr) unit stores in record {
              register = λ register. absurd (omega (arith, register, place));
              escapes = λ _. Derives.store b k x inside (stored_stores (instr_of c b k) x holder.0 here) held;
            }
        | inr (z, next, passes, onward) ↦
            comes us b (suc k) z y (omega (arith, inside)) rest next onward
            (passed b k x z inside holder next (subst (λ (v : Unit). PassesAt g.sites.items v x z) unit passes) held)
      ]
