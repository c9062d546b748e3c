-- Blocks that are collected by a test stand in the order of their addresses, which are those of words of code.
use Rattle.std.proofs.Common.{◌≡◌, ◌∙◌, inl, inr, ℕ, zero, suc, ◌+◌, ◌-◌, ◌<◌, Bool, true, List, [], ◌∷◌, ◌++◌, map, length, get_or, append-nil, sym, ap, subst, arith}
use Rattle.std.specs.List.{All, AllPairs}
use Rattle.std.specs.List.Sorted.{IsStrictlyIncreasing}
use Rattle.std.proofs.lemmas.Bool.{cond_both, cases_lt}
use Rattle.std.proofs.lemmas.List.{get_or-map, length-map, length-append, get_or_append_left, get_or-append-add}
use Rattle.std.proofs.lemmas.List.Elements.{All-nil, All-push, All-weaker}
use Rattle.std.proofs.lemmas.List.Quantifiers.{all_pairs_push}
use Rattle.std.proofs.lemmas.List.Kept.{AllPairs-from_increasing}
use Rattle.list_checks.specs.Sorted.{collected}
use Rattle.elf_reader.specs.File.{view_in}
use Rattle.board_config.specs.declared.board.Board.{Board}
use Rattle.loaded_file.specs.Code.{is_code_word}
use Rattle.object_graph.specs.declared.parts.Graph.{Graph}
use Rattle.code_blocks.specs.Blocks.{IsCode, start_of}
use Rattle.code_blocks.specs.Numbers.{starts_of, start_at}
use Rattle.code_blocks.specs.declared.parts.Code.{Code}
use Rattle.result_laws.specs.HomeLaws.{IsAccepted, unnamed_in}
use Rattle.result_laws.specs.LiveUnits.{UnitsStand}
use Rattle.result_laws.proofs.CodeUnits.{code_units_stand}

-- ---- lists

pub pairs_append : {X : Type 0} (R : X → X → Type 0) (xs ys : List X) → AllPairs R xs → AllPairs R ys → ((i j : ℕ) (d : X) → i < length xs → j < length ys → R (get_or xs i d) (get_or ys j d)) → AllPairs R (xs ++ ys)
pairs_append {X} R xs ys first last across i j d before below =
    let size = length-append xs ys in
    elim (cases_lt j (length xs)) [
      | inl inside ↦
          subst (λ (x : X). R x (get_or (xs ++ ys) j d)) (sym (get_or_append_left xs ys d i (omega (arith, before, inside))))
          (subst (λ (y : X). R (get_or xs i d) y) (sym (get_or_append_left xs ys d j inside)) (first i j d before inside))
      | inr behind ↦
          let place : length xs + (j - length xs) ≡ j = omega (arith, behind) in
          let there : get_or (xs ++ ys) j d ≡ get_or ys (j - length xs) d =
          ap (λ (n : ℕ). get_or (xs ++ ys) n d) (sym place) ∙ get_or-append-add xs ys (j - length xs) d in
          subst (λ (y : X). R (get_or (xs ++ ys) i d) y) (sym there)
          (elim (cases_lt i (length xs)) [
            | inl within ↦
                subst (λ (x : X). R x (get_or ys (j - length xs) d)) (sym (get_or_append_left xs ys d i within))
                (across i (j - length xs) d within (omega (arith, size, below, behind)))
            | inr past ↦
                let own : length xs + (i - length xs) ≡ i = omega (arith, past) in
                let here : get_or (xs ++ ys) i d ≡ get_or ys (i - length xs) d =
                ap (λ (n : ℕ). get_or (xs ++ ys) n d) (sym own) ∙ get_or-append-add xs ys (i - length xs) d in
                subst (λ (x : X). R x (get_or ys (j - length xs) d)) (sym here)
                (last (i - length xs) (j - length xs) d (omega (arith, before, past)) (omega (arith, size, below, behind)))
          ])
    ]

-- places that are collected rise, pass the test, and are below the bound
pub record AreCollected (test : ℕ → Bool) (n : ℕ) (xs : List ℕ) : Type 0 where
  pub rise : AllPairs (λ a b. a < b) xs
  pub below : All (λ a. a < n) xs
  pub pass : All (λ a. test a ≡ true) xs

pub collected_are : (test : ℕ → Bool) (n : ℕ) → AreCollected test n (collected test (λ b. b) n)
collected_are test zero = record { rise = λ i j d before below. absurd (omega (arith, below)); below = All-nil (λ (a : ℕ). a < 0); pass = All-nil (λ (a : ℕ). test a ≡ true) }
collected_are test (suc n) =
    let xs = collected test (λ b. b) n in
    let earlier = collected_are test n in
    let later = All-weaker (λ (a : ℕ). a < n) (λ (a : ℕ). a < suc n) (λ a less. omega (arith, less)) xs earlier.below in
    cond_both (test n) (n ∷ []) [] (λ more. AreCollected test (suc n) (xs ++ more))
    (λ yes. record {
      rise = all_pairs_push (λ (a b : ℕ). a < b) xs n earlier.rise earlier.below;
      below = All-push (λ (a : ℕ). a < suc n) xs n later (omega arith);
      pass = All-push (λ (a : ℕ). test a ≡ true) xs n earlier.pass yes;
    })
    (λ no. subst (AreCollected test (suc n)) (sym (append-nil xs)) (record { rise = earlier.rise; below = later; pass = earlier.pass }))

-- ---- addresses

pub starts_rise : (c : Code) (a b : ℕ) → IsStrictlyIncreasing (starts_of c) → a < b → b < length c.blocks.items → start_at c a < start_at c b
starts_rise c a b ascending before below =
    let many = length-map c.blocks.items start_of in
    AllPairs-from_increasing (starts_of c) ascending a b 0 before (omega (arith, below, many))

-- the addresses of blocks that are collected ascend
pub starts_ascend : (c : Code) (test : ℕ → Bool) → IsStrictlyIncreasing (starts_of c) → IsStrictlyIncreasing (map (start_at c) (collected test (λ b. b) (length c.blocks.items)))
starts_ascend c test ascending k below =
    let bs = collected test (λ b. b) (length c.blocks.items) in
    let are = collected_are test (length c.blocks.items) in
    let count = length-map bs (start_at c) in
    let next : k + 1 < length bs = omega (arith, below, count) in
    let one = get_or-map (start_at c) bs k 0 0 (omega (arith, next)) in
    let other = get_or-map (start_at c) bs (k + 1) 0 0 next in
    let less = starts_rise c (get_or bs k 0) (get_or bs (k + 1) 0) ascending (are.rise k (k + 1) 0 (omega arith) next) (are.below (k + 1) 0 next) in
    omega (arith, less, one, other)

-- a block begins at a word of code
pub start_code : (file : List ℕ) (board : Board) (g : Graph) (c : Code) (b : ℕ) → IsAccepted file board g → IsCode (view_in file) c → b < length c.blocks.items → is_code_word (view_in file) (start_at c b) ≡ true
start_code file board g c b accepted code below =
    let stand : UnitsStand (view_in file) (unnamed_in file board g) c = code_units_stand file board g c accepted code in
    let first = stand.first b below in
    subst (λ (a : ℕ). is_code_word (view_in file) a ≡ true) first.at (stand.code b 0 first.is)
