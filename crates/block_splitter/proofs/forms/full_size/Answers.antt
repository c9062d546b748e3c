use Rattle.std.proofs.Common.{◌≡◌, ◌∙◌, ℕ, ◌+◌, ◌≤◌, min, Bool, true, length, refl, ap, arith, add-one}
use Rattle.std.proofs.lemmas.Bool.{cond_both}
use Rattle.list_checks.specs.Sorted.{sum_below}
use Rattle.block_splitter.specs.declared.unit_kind.UnitKind.{UnitKind}
use Rattle.block_splitter.specs.declared.unit_kind.UnitKind.TheVariants.{Plain, Upper, Branch, Jump, Call, Tail, Indirect, Linking, Halt}
use Rattle.block_splitter.specs.Forms.{is_site, body_of, kind_of, copy_size}
use Rattle.block_splitter.proofs.forms.full_size.Goals as goal

few_words : (inside : ℕ → Bool) (kind : UnitKind) → copy_size inside kind ≤ 4
few_words inside Plain = omega arith
few_words inside (Upper rd value) = omega arith
few_words inside (Branch kind rs1 rs2 target) = cond_both (inside target) 1 3 (λ n. n ≤ 4) (λ yes. omega arith) (λ no. omega arith)
few_words inside (Jump target) = cond_both (inside target) 1 2 (λ n. n ≤ 4) (λ yes. omega arith) (λ no. omega arith)
few_words inside (Call target back link) = omega arith
few_words inside (Tail target register) = omega arith
few_words inside Indirect = omega arith
few_words inside (Linking back link base imm) = omega arith
few_words inside Halt = omega arith

capped_more : (size : ℕ → ℕ) (k old here new : ℕ) → old ≡ min (sum_below size k) 1025 → here ≡ size k → new ≡ min (old + here) 1025 → new ≡ min (sum_below size (k + 1)) 1025
capped_more size k old here new so_far is next = rw (add-one k) (omega (arith, so_far, is, next))

pub overflow_add-words : goal.overflow_add-words
overflow_add-words c =
    let few = few_words (λ a. true) c.kind_of.result in
    let here = c.copy_size.ensures in
    let so_far = c.loop-k.invariant in
    omega (arith, few, here, so_far)

pub loop-k-init : goal.loop-k-init
loop-k-init c = refl

pub loop-k-preserved : goal.loop-k-preserved
loop-k-preserved c =
    capped_more (λ k. copy_size (λ a. true) (kind_of (is_site c.args.graph.now) (body_of c.args.block.now) k)) c.loop-k.k c.loop-k.words c.copy_size.result c.min-words.result c.loop-k.invariant
    (c.copy_size.ensures ∙ ap (copy_size (λ a. true)) c.kind_of.ensures) c.min-words.ensures

pub returns : goal.returns
returns c =
    let all : c.loop-k.k ≡ length c.args.block.now.units.items = omega (arith, c.loop-k-test.false, c.loop-k.auto.k-end, c.len-k-end.ensures, c.args.block.now.units.ok.0) in
    c.loop-k.invariant ∙ ap (λ n. min (sum_below (λ k. copy_size (λ a. true) (kind_of (is_site c.args.graph.now) (body_of c.args.block.now) k)) n) 1025) all
