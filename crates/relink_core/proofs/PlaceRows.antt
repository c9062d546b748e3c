-- Rows of places, and what is left of names in a loop over them.
use Rattle.std.proofs.Common.{◌≡◌, ◌∙◌, ℕ, suc, ◌+◌, ◌<◌, Bool, true, false, List, [], ◌∷◌, ◌++◌, length, drop, get_or, refl, sym, ap, subst, arith, if◌then◌else◌}
use Rattle.std.specs.Prelude.{Vec}
use Rattle.std.specs.declared.alloc.Global.{Global}
use Rattle.std.proofs.lemmas.List.{get_or-map, append_assoc, drop_more}
use Rattle.placement_programme.specs.declared.variables.VarName.{VarName}
use Rattle.relocator.specs.declared.places.Places.{Places}
use Rattle.relocator.specs.Placing.{rows_of}
use Rattle.relocator.specs.SiteWords.{row_length}
use Rattle.relocator.specs.Slots.{is_code}
use Rattle.result_laws.specs.ChosenJobs.{Images, next_code}
use Rattle.object_graph.specs.declared.parts.Graph.{Graph}
use Rattle.patch_code.specs.declared.job.CopyJob.{CopyJob}
use Rattle.relink_core.specs.Naming.{code_count, named_into, named_entering}

pub row_long : (places : Places) (o region : ℕ) (row : Vec ℕ Global) → o < length places.of.items → row ≡ get_or places.of.items o row → region < row_length places o → region < row.len
row_long places o region row below is long =
    let same : get_or (rows_of places.of.items) o [] ≡ row.items = get_or-map (λ (r : Vec ℕ Global). r.items) places.of.items o row [] below ∙ ap (λ (r : Vec ℕ Global). r.items) (sym is) in
    let inside : region < length row.items = subst (λ (ns : List ℕ). region < length ns) same long in
    let ok = row.ok in
    omega (arith, inside, ok)

-- ---- one name more

module _ (which : VarName → Bool) (g : Graph) (places : Places) (images : Images) (r : ℕ) where
  pub entering_more : (names : List VarName) (old new whole : List CopyJob) (n next i : ℕ) (d : VarName) → i < length names → new ≡ old ++ (if which (get_or names i d) then named_into g places images r n (get_or names i d) ∷ [] else []) → next ≡ next_code (get_or names i d) n → old ++ named_entering which g places images r n (drop i names) ≡ whole → new ++ named_entering which g places images r next (drop (i + 1) names) ≡ whole
  entering_more names old new whole n next i d below grown is so_far =
      let name = get_or names i d in
      let here = if which name then named_into g places images r n name ∷ [] else [] in
      let rest = drop (i + 1) names in
      ap (λ (js : List CopyJob). js ++ named_entering which g places images r next rest) grown
      ∙ (ap (λ (m : ℕ). (old ++ here) ++ named_entering which g places images r m rest) is
      ∙ (append_assoc old here (named_entering which g places images r (next_code name n) rest)
      ∙ (ap (λ (ns : List VarName). old ++ named_entering which g places images r n ns) (sym (drop_more names i d below)) ∙ so_far)))

-- a name of code is counted, and what comes before the next one
pub code_more : (names : List VarName) (n next i : ℕ) (d : VarName) → i < length names → next ≡ next_code (get_or names i d) n → n + code_count (drop i names) ≡ code_count names → next + code_count (drop (i + 1) names) ≡ code_count names
code_more names n next i d below is so_far =
    let name = get_or names i d in
    let rest = code_count (drop (i + 1) names) in
    let whole : code_count (drop i names) ≡ next_code name rest = ap code_count (drop_more names i d below) in
    let turned = next_moves (is_code name) n rest in
    omega (arith, is, so_far, whole, turned)
  where
    next_moves : (b : Bool) (n rest : ℕ) → (if b then suc n else n) + rest ≡ n + (if b then suc rest else rest)
    next_moves true n rest = omega arith
    next_moves false n rest = refl

pub code_below : (names : List VarName) (n i : ℕ) (d : VarName) → i < length names → n + code_count (drop i names) ≡ code_count names → is_code (get_or names i d) ≡ true → n < code_count names
code_below names n i d below so_far code =
    let name = get_or names i d in
    let rest = code_count (drop (i + 1) names) in
    let whole : code_count (drop i names) ≡ next_code name rest = ap code_count (drop_more names i d below) in
    let one : next_code name rest ≡ suc rest = ap (λ (b : Bool). if b then suc rest else rest) code in
    omega (arith, so_far, whole, one)
