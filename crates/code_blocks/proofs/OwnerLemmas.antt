-- The function in whose range an address lies, among functions that are disjoint.
use Rattle.std.proofs.Common.{◌≡◌, ◌⊎◌, inl, inr, ℕ, ◌+◌, ◌-◌, ◌<◌, ◌≤◌, nat_lt, nat_le, true, false, ◌&&◌, List, length, slice_index_or, refl, arith}
use Rattle.std.specs.List.{list_any}
use Rattle.std.specs.List.Sorted.{IsPartitionedBy}
use Rattle.std.proofs.lemmas.Bool.{cases_order}
use Rattle.std.proofs.lemmas.Bool.Decides.{nat_tests}
use Rattle.std.proofs.lemmas.List.Folds.{list_any_none}
use Rattle.code_blocks.specs.Blocks.{lies_in_function}
use Rattle.code_blocks.specs.Kept.{AreDisjoint}
use Rattle.code_blocks.specs.declared.parts.Function.{Function}

lower_start : (x s y a : ℕ) → x + s ≤ y → nat_le y a ≡ true → nat_le x a ≡ true
lower_start x s y a disjoint le = grind (arith, nat_tests, disjoint, le)

pub starts_rise : (functions : List Function) (a : ℕ) → AreDisjoint functions → IsPartitionedBy (λ (f : Function). nat_le f.start a) functions
starts_rise functions a disjoint i j d le below test =
    let place : (i ≡ j) ⊎ (i < j) = grind arith in
    elim place [
      | inl same ↦ rw same test
      | inr lower ↦
          let f = slice_index_or functions i d in
          let g = slice_index_or functions j d in
          lower_start f.start f.size g.start a (disjoint i j d lower below) test
    ]

pub begun : (start a : ℕ) → nat_le start a ≡ true → start ≤ a
begun start a test = grind (arith, nat_tests, test)

-- it lies in a function that begins at or before it
pub lies_there : (f : Function) (a : ℕ) → nat_le f.start a ≡ true → a - f.start < f.size → lies_in_function a f ≡ true
lies_there f a from inside = grind (arith, nat_tests, from, inside)

not_begun : (start size a : ℕ) → nat_le start a ≡ false → nat_le start a && nat_lt a (start + size) ≡ false
not_begun start size a fails = rw fails refl

ended : (start size a : ℕ) → start + size ≤ a → nat_le start a && nat_lt a (start + size) ≡ false
ended start size a le = grind (arith, nat_tests, le)

-- none begins at or before it
pub none_begun : (functions : List Function) (a : ℕ) → ((j : ℕ) (d : Function) → j < length functions → nat_le (slice_index_or functions j d).start a ≡ false) → list_any (lies_in_function a) functions ≡ false
none_begun functions a later =
    list_any_none (lies_in_function a) functions
    (λ j d below. not_begun (slice_index_or functions j d).start (slice_index_or functions j d).size a (later j d below))

-- the last that begins at or before it has ended
pub last_ended : (functions : List Function) (a k : ℕ) → AreDisjoint functions → k < length functions
    → ((d : Function) → (slice_index_or functions k d).start + (slice_index_or functions k d).size ≤ a)
    → ((j : ℕ) (d : Function) → k < j → j < length functions → nat_le (slice_index_or functions j d).start a ≡ false) → list_any (lies_in_function a) functions ≡ false
last_ended functions a k disjoint below last later =
    list_any_none (lies_in_function a) functions
    (λ j d within.
    let f = slice_index_or functions j d in
    elim (cases_order j k) [
      | inl same ↦ ended f.start f.size a (rw same (last d))
      | inr other ↦ elim other [
        | inl lower ↦
            let before = disjoint j k d lower below in
            let end = last d in
            ended f.start f.size a (omega (arith, before, end))
        | inr higher ↦ not_begun f.start f.size a (later j d higher within)
      ]
    ])
