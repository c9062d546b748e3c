-- Blocks of a copy by their addresses, and the registers by which control leaves.
use Rattle.std.proofs.Common.{◌≡◌, ◌∙◌, ℕ, ◌-◌, ◌*◌, ◌<◌, ◌==◌, Bool, true, false, ◌&&◌, List, length, slice_index_or, Option, Some, None, refl, sym, subst, arith, eq-eqb}
use Rattle.std.specs.Prelude.{MatchOption, Contains, is_some}
use Rattle.std.proofs.lemmas.Bool.{cond_both}
use Rattle.std.proofs.lemmas.Bool.Decides.{nat_tests}
use Rattle.std.proofs.lemmas.List.{length-map}
use Rattle.list_checks.specs.Sorted.{collected}
use Rattle.list_checks.proofs.TestLemmas.{both, any_found, any_at}
use Rattle.rv32im.specs.declared.instructions.Instr.{Instr}
use Rattle.rv32im.specs.declared.instructions.Instr.TheVariants as instr
use Rattle.code_blocks.specs.Early.{has}
use Rattle.code_blocks.proofs.LeaderLemmas.{both_pass}
use Rattle.code_blocks.specs.Blocks.{start_of}
use Rattle.code_blocks.specs.Numbers.{starts_of, start_at, end_at}
use Rattle.code_blocks.specs.declared.parts.Unit.{Unit}
use Rattle.code_blocks.specs.declared.parts.Code.{Code}
use Rattle.code_blocks.specs.declared.ends.End.{End}
use Rattle.code_blocks.specs.declared.ends.End.TheVariants as end
use Rattle.dataflow.proofs.EdgeLemmas.{is_start, one_start}
use Rattle.block_splitter.specs.declared.block_range.BlockRange.{BlockRange}
use Rattle.block_splitter.specs.declared.copy_plan.CopyPlan.{CopyPlan}
use Rattle.block_splitter.specs.Forms.{Body, is_site, body_at, unit_in, is_last, straight_kind, branch_kind, tail_kind, indirect_kind, last_kind, kind_of, holds_block, begins_in}
use Rattle.block_splitter.specs.Pieces.{CanCall, onward}
use Rattle.block_splitter.specs.Copies.{Copy, is_inside, kind_in, words_before}
use Rattle.block_splitter.specs.Copying.{copy_in, IsPlan, HasExit, HasExits, CanFall, IsBlockAt, AreStarts}
use Rattle.block_splitter.proofs.FieldLemmas.{same_end}
use Rattle.block_splitter.proofs.CopySizeLemmas.{StandsAt, held, below_code, collected_at, collected_length}

never : (b : Bool) → (b ≡ true → ⊥) → b ≡ false
never true none = absurd (none refl)
never false none = refl

opposite : (b : Bool) → b ≡ true → b ≡ false → ⊥
opposite b on off = absurd (cc)

same_number : (m n : ℕ) → (m == n) ≡ true → m ≡ n
same_number m n is = grind (arith, nat_tests, is)

-- ---- blocks by address

pub inside_at : (c : Code) (range : BlockRange) (a b : ℕ) → b < length c.blocks.items → holds_block b range ≡ true → start_at c b ≡ a → begins_in (starts_of c) range a ≡ true
inside_at c range a b below inside begins =
    let many = length-map c.blocks.items start_of in
    any_at (λ k. holds_block k range && (slice_index_or (starts_of c) k 0 == a)) (length (starts_of c)) b (omega (arith, below, many))
    (both_pass (holds_block b range) (slice_index_or (starts_of c) b 0 == a) inside (eq-eqb (slice_index_or (starts_of c) b 0) a begins))

record Found (c : Code) (range : BlockRange) (a : ℕ) : Type 0 where
  block : ℕ
  below : block < length c.blocks.items
  inside : holds_block block range ≡ true
  begins : start_at c block ≡ a

found_inside : (c : Code) (range : BlockRange) (a : ℕ) → begins_in (starts_of c) range a ≡ true → Found c range a
found_inside c range a found =
    let (k, below, passes) = any_found (λ k. holds_block k range && (slice_index_or (starts_of c) k 0 == a)) (length (starts_of c)) found in
    let parts = both (holds_block k range) (slice_index_or (starts_of c) k 0 == a) passes in
    let many = length-map c.blocks.items start_of in
    record { block = k; below = omega (arith, below, many); inside = parts.0; begins = same_number (slice_index_or (starts_of c) k 0) a parts.1 }

pub none_inside : (c : Code) (range : BlockRange) (a : ℕ) → has (starts_of c) a ≡ false → begins_in (starts_of c) range a ≡ false
none_inside c range a none =
    never (begins_in (starts_of c) range a)
    (λ found.
    let at = found_inside c range a found in
    opposite (has (starts_of c) a) (subst (λ (x : ℕ). has (starts_of c) x ≡ true) at.begins (is_start c at.block at.below)) none)

pub other_inside : (p : CopyPlan) (a b : ℕ) → IsPlan p → b < length p.code.now.blocks.items → start_at p.code.now b ≡ a → holds_block b p.range ≡ false → is_inside (copy_in p) a ≡ false
other_inside p a b plan below begins out =
    let c = p.code.now in
    never (begins_in (starts_of c) p.range a)
    (λ found.
    let at = found_inside c p.range a found in
    let same = one_start c at.block b plan.code.ascending at.below below (at.begins ∙ sym begins) in
    opposite (holds_block b p.range) (subst (λ (k : ℕ). holds_block k p.range ≡ true) same at.inside) out)

pub at_inside : (p : CopyPlan) (a b : ℕ) → IsPlan p → IsBlockAt (copy_in p) a b → is_inside (copy_in p) a ≡ true
at_inside p a b plan at = inside_at p.code.now p.range a b (below_code p b plan at.inside) at.inside at.begins

pub found_or : (p : CopyPlan) (a : ℕ) (o : Option ℕ) → IsPlan p → MatchOption o (is_inside (copy_in p) a ≡ false) (IsBlockAt (copy_in p) a) → is_some o ≡ is_inside (copy_in p) a
found_or p a None plan out = sym out
found_or p a (Some b) plan at = sym (at_inside p a b plan at)

-- ---- where blocks begin

-- a place of the list of starts
pub start_stands : (p : CopyPlan) (starts : List ℕ) (b : ℕ) → IsPlan p → AreStarts (copy_in p) starts → holds_block b p.range ≡ true → StandsAt starts (b - p.range.first) (4 * words_before (copy_in p) b)
start_stands p starts b plan are inside =
    let test : ℕ → Bool = λ k. holds_block k p.range in
    let value : ℕ → ℕ = λ k. 4 * words_before (copy_in p) k in
    let bounds = held b p.range inside in
    let to = bounds.1 in
    let place = collected_length p.range value b bounds.0 (omega (arith, to)) in
    let at = collected_at test value (length p.code.now.blocks.items) b inside (below_code p b plan inside) in
    subst (λ (xs : List ℕ). StandsAt xs (b - p.range.first) (4 * words_before (copy_in p) b)) (sym are)
    (subst (λ (k : ℕ). StandsAt (collected test value (length p.code.now.blocks.items)) k (4 * words_before (copy_in p) b)) place at)

-- ---- ways out

exit_to : (p : CopyPlan) (b a : ℕ) → IsPlan p → holds_block b p.range ≡ true → Contains (onward (end_at p.code.now b)) a → HasExit (copy_in p) a
exit_to p b a plan inside leads out = plan.copied.exits b a inside leads out

straight_exits : (x : Copy) (site : ℕ → Bool) (at : ℕ) (o : Option Instr) → HasExits x (straight_kind site at o)
straight_exits x site at None = tt
straight_exits x site at (Some (instr.Auipc rd imm)) = cond_both (site at) _ _ (HasExits x) (λ yes. tt) (λ no. tt)
straight_exits x site at (Some i) = tt

branch_exits : (x : Copy) (target : ℕ) (o : Option Instr) → HasExit x target → HasExits x (branch_kind target o)
branch_exits x target None exit = tt
branch_exits x target (Some (instr.Branch kind rs1 rs2 off)) exit = exit
branch_exits x target (Some i) exit = tt

tail_exits : (x : Copy) (target : ℕ) (o : Option Instr) → HasExits x (tail_kind target o)
tail_exits x target None = tt
tail_exits x target (Some (instr.Auipc rd imm)) = tt
tail_exits x target (Some i) = tt

indirect_exits : (x : Copy) (back : Option ℕ) (o : Option Instr) → HasExits x (indirect_kind back o)
indirect_exits x None o = tt
indirect_exits x (Some back) None = tt
indirect_exits x (Some back) (Some (instr.Jalr rd rs1 imm)) = tt
indirect_exits x (Some back) (Some i) = tt

last_exits : (x : Copy) (site : ℕ → Bool) (e : End) (u : Unit) → ((a : ℕ) → Contains (onward e) a → HasExit x a) → CanCall x.code e → HasExits x (last_kind site e u)
last_exits x site (end.Branch target next) u exits calls = branch_exits x target u.instr (exits target (0, omega arith, refl))
last_exits x site (end.Jump target) u exits calls = exits target (0, omega arith, refl)
last_exits x site (end.Call target back link) u exits calls = calls
last_exits x site (end.Tail target) u exits calls = tail_exits x target u.instr
last_exits x site (end.Indirect back) u exits calls = indirect_exits x back u.instr
last_exits x site (end.Fall next) u exits calls = straight_exits x site u.at u.instr
last_exits x site end.Stop u exits calls = straight_exits x site u.at u.instr

body_exits : (x : Copy) (site : ℕ → Bool) (body : Body) (e : End) (k : ℕ) → body.end ≡ e → ((a : ℕ) → Contains (onward e) a → HasExit x a) → CanCall x.code e → HasExits x (kind_of site body k)
body_exits x site body e k is exits calls =
    let u = unit_in body k in
    cond_both (is_last body k) _ _ (HasExits x)
    (λ last. subst (λ (d : End). HasExits x (last_kind site d u)) (sym is) (last_exits x site e u exits calls))
    (λ within. straight_exits x site u.at u.instr)

pub has_exits : (p : CopyPlan) (b k : ℕ) → IsPlan p → holds_block b p.range ≡ true → HasExits (copy_in p) (kind_in (copy_in p) b k)
has_exits p b k plan inside =
    let c = p.code.now in
    body_exits (copy_in p) (is_site p.graph.now) (body_at c.blocks.items b) (end_at c b) k (same_end c b (below_code p b plan inside)) (λ a leads. exit_to p b a plan inside leads) (plan.copied.blocks b inside).calls

-- behind a block that falls
falls_exit : (x : Copy) (e : End) → ((a : ℕ) → Contains (onward e) a → HasExit x a) → CanFall x e
falls_exit x (end.Fall next) exits = exits next (0, omega arith, refl)
falls_exit x (end.Branch target next) exits = exits next (1, omega arith, refl)
falls_exit x (end.Jump target) exits = tt
falls_exit x (end.Call target back link) exits = tt
falls_exit x (end.Tail target) exits = tt
falls_exit x (end.Indirect back) exits = tt
falls_exit x end.Stop exits = tt

pub can_fall : (p : CopyPlan) (b : ℕ) → IsPlan p → holds_block b p.range ≡ true → CanFall (copy_in p) (end_at p.code.now b)
can_fall p b plan inside = falls_exit (copy_in p) (end_at p.code.now b) (λ a leads. exit_to p b a plan inside leads)
