-- How many words the copy of a block takes, and how many of these depend on what is of the same copy.
use Rattle.std.proofs.Common.{◌≡◌, ◌∙◌, ℕ, zero, suc, ◌+◌, ◌<◌, ◌≤◌, ◌==◌, Bool, true, false, if◌then◌else◌, length, Option, Some, None, refl, sym, ap, arith}
use Rattle.std.proofs.lemmas.Bool.{eq-eqb}
use Rattle.std.proofs.lemmas.Bool.Decides.{nat_tests}
use Rattle.rv32im.specs.declared.instructions.Instr.{Instr}
use Rattle.rv32im.specs.declared.instructions.Instr.TheVariants as instr
use Rattle.code_blocks.specs.declared.parts.Unit.{Unit}
use Rattle.code_blocks.specs.declared.ends.End.{End}
use Rattle.code_blocks.specs.declared.ends.End.TheVariants as end
use Rattle.object_graph.specs.declared.parts.Graph.{Graph}
use Rattle.block_splitter.specs.declared.unit_kind.UnitKind.{UnitKind}
use Rattle.block_splitter.specs.declared.unit_kind.UnitKind.TheVariants as kind
use Rattle.block_splitter.specs.Forms.{Body, unit_in, is_last, is_site, straight_kind, branch_kind, tail_kind, indirect_kind, last_kind, kind_of, copy_size, fall_out_size, units_size, block_size}
use Rattle.block_splitter.specs.Facts.{leaving_words, last_leaving, target_of, next_of, full_size}

-- the words that leaving to an address takes, where it isn't of the same copy
abbrev pub leaving : (ℕ → Bool) → Option ℕ → ℕ → ℕ
leaving inside None words = 0
leaving inside (Some a) words = if inside a then 0 else words

-- ---- units that don't depend on it

upper_same : (inside : ℕ → Bool) (site : Bool) (rd value : ℕ) → copy_size inside (if site then kind.Plain else kind.Upper rd value) ≡ copy_size (λ a. true) (if site then kind.Plain else kind.Upper rd value)
upper_same inside true rd value = refl
upper_same inside false rd value = refl

straight_same : (inside is : ℕ → Bool) (at : ℕ) (o : Option Instr) → copy_size inside (straight_kind is at o) ≡ copy_size (λ a. true) (straight_kind is at o)
straight_same inside is at None = refl
straight_same inside is at (Some (instr.Auipc rd imm)) = upper_same inside (is at) rd _
straight_same inside is at (Some i) = refl

-- ---- the last unit

-- what holds of a kind that leads to a target, if it leads to one
abbrev Splits : (ℕ → Bool) → Option ℕ → UnitKind → Type 0
Splits inside target k = copy_size inside k ≡ copy_size (λ a. true) k + leaving inside target (leaving_words k)

zero_leaving : (inside : ℕ → Bool) (t : ℕ) (b : Bool) → 1 ≡ 1 + (if b then 0 else 0)
zero_leaving inside t true = refl
zero_leaving inside t false = refl

branch_step : (b : Bool) → (if b then 1 else 3) ≡ 1 + (if b then 0 else 2)
branch_step b = grind arith

jump_step : (b : Bool) → (if b then 1 else 2) ≡ 1 + (if b then 0 else 1)
jump_step b = grind arith

branch_splits : (inside : ℕ → Bool) (t : ℕ) (o : Option Instr) → Splits inside (Some t) (branch_kind t o)
branch_splits inside t None = zero_leaving inside t (inside t)
branch_splits inside t (Some (instr.Branch kind rs1 rs2 off)) = branch_step (inside t)
branch_splits inside t (Some i) = zero_leaving inside t (inside t)

plus_none : (x y : ℕ) → x ≡ y → x ≡ y + 0
plus_none x y same = omega (arith, same)

tail_same : (inside : ℕ → Bool) (t : ℕ) (o : Option Instr) → copy_size inside (tail_kind t o) ≡ copy_size (λ a. true) (tail_kind t o)
tail_same inside t None = refl
tail_same inside t (Some (instr.Lui rd imm)) = refl
tail_same inside t (Some i) = refl

indirect_same : (inside : ℕ → Bool) (back : Option ℕ) (o : Option Instr) → copy_size inside (indirect_kind back o) ≡ copy_size (λ a. true) (indirect_kind back o)
indirect_same inside None o = refl
indirect_same inside (Some b) None = refl
indirect_same inside (Some b) (Some (instr.Lui rd imm)) = refl
indirect_same inside (Some b) (Some i) = refl

last_splits : (inside is : ℕ → Bool) (e : End) (u : Unit) → Splits inside (target_of e) (last_kind is e u)
last_splits inside is (end.Fall next) u = plus_none _ _ (straight_same inside is u.at u.instr)
last_splits inside is (end.Branch target next) u = branch_splits inside target u.instr
last_splits inside is (end.Jump target) u = jump_step (inside target)
last_splits inside is (end.Call target back link) u = refl
last_splits inside is (end.Tail target) u = plus_none _ _ (tail_same inside target u.instr)
last_splits inside is (end.Indirect back) u = plus_none _ _ (indirect_same inside back u.instr)
last_splits inside is end.Stop u = plus_none _ _ (straight_same inside is u.at u.instr)

falls : (inside : ℕ → Bool) (e : End) → fall_out_size inside e ≡ leaving inside (next_of e) 2
falls inside (end.Fall next) = refl
falls inside (end.Branch target next) = refl
falls inside (end.Jump target) = refl
falls inside (end.Call target back link) = refl
falls inside (end.Tail target) = refl
falls inside (end.Indirect back) = refl
falls inside end.Stop = refl

-- ---- the units of a block

not_last : (n m k : ℕ) → n ≡ suc m → k < m → (suc k == n) ≡ false
not_last n m k is below = grind (arith, nat_tests, is, below)

pick_else : (t : Bool) (a b : UnitKind) → t ≡ false → (if t then a else b) ≡ b
pick_else true a b is = cc
pick_else false a b is = refl

pick_then : (t : Bool) (a b : UnitKind) → t ≡ true → (if t then a else b) ≡ a
pick_then true a b is = refl
pick_then false a b is = cc

unit_same : (inside is : ℕ → Bool) (b : Body) (k : ℕ) → is_last b k ≡ false → copy_size inside (kind_of is b k) ≡ copy_size (λ a. true) (kind_of is b k)
unit_same inside is b k other =
    let straight = pick_else (is_last b k) (last_kind is b.end (unit_in b k)) (straight_kind is (unit_in b k).at (unit_in b k).instr) other in
    ap (copy_size inside) straight
    ∙ straight_same inside is (unit_in b k).at (unit_in b k).instr
    ∙ ap (copy_size (λ a. true)) (sym straight)

earlier_same : (inside is : ℕ → Bool) (b : Body) (m n : ℕ) → length b.units ≡ suc m → n ≤ m → units_size is inside b n ≡ units_size is (λ a. true) b n
earlier_same inside is b m zero count below = refl
earlier_same inside is b m (suc n) count below =
    let rest = earlier_same inside is b m n count (omega (arith, below)) in
    let here = unit_same inside is b n (not_last (length b.units) m n count (omega (arith, below))) in
    omega (arith, rest, here)

no_words : (b : Bool) (n : ℕ) → n ≡ 0 → (if b then 0 else n) ≡ 0
no_words true n is = refl
no_words false n is = is

nothing : (inside : ℕ → Bool) (o : Option ℕ) → leaving inside o 0 ≡ 0
nothing inside None = refl
nothing inside (Some a) = no_words (inside a) 0 refl

units_split : (inside : ℕ → Bool) (g : Graph) (b : Body) (n : ℕ) → length b.units ≡ n → units_size (is_site g) inside b n ≡ units_size (is_site g) (λ a. true) b n + leaving inside (target_of b.end) (last_leaving g b n)
units_split inside g b zero count = let none = nothing inside (target_of b.end) in omega (arith, none)
units_split inside g b (suc m) count =
    let is = is_site g in
    let rest = earlier_same inside is b m m count (omega arith) in
    let last = pick_then (is_last b m) (last_kind is b.end (unit_in b m)) (straight_kind is (unit_in b m).at (unit_in b m).instr) (eq-eqb (suc m) (length b.units) (sym count)) in
    let here : Splits inside (target_of b.end) (kind_of is b m) = ap (copy_size inside) last ∙ last_splits inside is b.end (unit_in b m) ∙ (λ i. copy_size (λ a. true) (sym last i) + leaving inside (target_of b.end) (leaving_words (sym last i))) in
    omega (arith, rest, here)

-- what a block takes beyond its words where all is of the same copy
pub splits : (inside : ℕ → Bool) (g : Graph) (b : Body) → block_size (is_site g) inside b ≡ full_size g b + leaving inside (target_of b.end) (last_leaving g b (length b.units)) + leaving inside (next_of b.end) 2
splits inside g b =
    let units = units_split inside g b (length b.units) refl in
    let behind = falls inside b.end in
    omega (arith, units, behind)
