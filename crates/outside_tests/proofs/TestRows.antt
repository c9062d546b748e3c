-- The graph of the test.
use Rattle.std.proofs.Common.{◌≡◌, zero, suc, List, [], ◌∷◌, length, Vec, ap, sym, subst, ◌∙◌, arith}
use Rattle.std.specs.Global.{Global}
use Rattle.std.proofs.lemmas.List.{length-map}
use Rattle.reach_graph.specs.declared.edges.Edge.{Edge}
use Rattle.reach_graph.specs.Reaching.{row_items, plain_rows, AreInside}

abbrev four : List (List Edge)
four = (record { to = 1; mask = 3 } ∷ []) ∷ (record { to = 2; mask = 2 } ∷ record { to = 0; mask = 2 } ∷ []) ∷ [] ∷ (record { to = 0; mask = 18446744073709551615 } ∷ []) ∷ []

four_inside : AreInside four 4
four_inside zero zero below less = omega arith
four_inside zero (suc i) below less = absurd (omega (arith, less))
four_inside (suc zero) zero below less = omega arith
four_inside (suc zero) (suc zero) below less = omega arith
four_inside (suc zero) (suc (suc i)) below less = absurd (omega (arith, less))
four_inside (suc (suc zero)) i below less = absurd (omega (arith, less))
four_inside (suc (suc (suc zero))) zero below less = omega arith
four_inside (suc (suc (suc zero))) (suc i) below less = absurd (omega (arith, less))
four_inside (suc (suc (suc (suc n)))) i below less = absurd (omega (arith, below))

pub rows_count : (rows : List (Vec Edge Global)) → plain_rows rows ≡ four → length rows ≡ 4
rows_count rows is = sym (length-map rows row_items) ∙ ap length is

pub rows_inside : (rows : List (Vec Edge Global)) → plain_rows rows ≡ four → AreInside (plain_rows rows) 4
rows_inside rows is = subst (λ r. AreInside r 4) (sym is) four_inside
