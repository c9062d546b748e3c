-- Where the units of a block stand, and how it ends, by the word of its last unit.
use Rattle.std.proofs.Common.{◌≡◌, ◌⊎◌, inl, inr, ◌∙◌, ℕ, zero, suc, ◌+◌, ◌*◌, ◌<◌, Bool, true, false, not, ◌&&◌, ◌||◌, if◌then◌else◌, List, [], ◌∷◌, length, get_or, refl, sym, ap, subst, arith}
use Rattle.std.specs.Prelude.{Option, Some, None}
use Rattle.std.proofs.lemmas.Bool.{cond_both}
use Rattle.rv32im.specs.Fields.{rd_of}
use Rattle.elf_reader.specs.File.{PlainView}
use Rattle.loaded_file.specs.Code.{image_word}
use Rattle.code_blocks.specs.Words.{is_branch, is_jal, is_jalr, links, branch_target, jal_target, pair_target}
use Rattle.code_blocks.specs.Meanings.{is_ebreak, has_meaning}
use Rattle.code_blocks.specs.Leaders.{is_call_pair, is_leader}
use Rattle.code_blocks.specs.Ends.{pair_end, jal_end, jalr_end, jump_end, end_or, end_from}
use Rattle.code_blocks.specs.Blocks.{goes_on, unit_addresses}
use Rattle.code_blocks.specs.declared.ends.End.{End}
use Rattle.code_blocks.specs.declared.ends.End.TheVariants.{Fall, Branch, Jump, Call, Tail, Indirect, Stop}
use Rattle.block_splitter.specs.Pieces.{is_stop}

-- the word at an address is no jump
pub record NoJump (v : PlainView) (a : ℕ) : Type 0 where
  pub pair : is_call_pair v a ≡ false
  pub branch : is_branch (image_word v a) ≡ false
  pub jal : is_jal (image_word v a) ≡ false
  pub jalr : is_jalr (image_word v a) ≡ false
  pub ebreak : is_ebreak (image_word v a) ≡ false

-- ---- a unit that isn't the last
-- these laws of walks belong to code_blocks

-- what the tests of a unit behind which its block goes on say: a meaning, the five jumps, a leader behind
record GoesBy (m p b j r e l : Bool) : Type 0 where
  means : m ≡ true
  pair : p ≡ false
  branch : b ≡ false
  jal : j ≡ false
  jalr : r ≡ false
  ebreak : e ≡ false
  leader : l ≡ false

goes_by : (m p b j r e l : Bool) → m && not (p || b || j || r || e) && not l ≡ true → GoesBy m p b j r e l
goes_by false p b j r e l is = cc
goes_by true true b j r e l is = cc
goes_by true false true j r e l is = cc
goes_by true false false true r e l is = cc
goes_by true false false false true e l is = cc
goes_by true false false false false true l is = cc
goes_by true false false false false false true is = cc
goes_by true false false false false false false is =
    record { means = refl; pair = refl; branch = refl; jal = refl; jalr = refl; ebreak = refl; leader = refl }

tests : (v : PlainView) (a : ℕ) → goes_on v a ≡ true → GoesBy (has_meaning (image_word v a)) (is_call_pair v a) (is_branch (image_word v a)) (is_jal (image_word v a)) (is_jalr (image_word v a)) (is_ebreak (image_word v a)) (is_leader v (a + 4))
tests v a on =
    let w : ℕ = image_word v a in
    goes_by (has_meaning w) (is_call_pair v a) (is_branch w) (is_jal w) (is_jalr w) (is_ebreak w) (is_leader v (a + 4)) on

pub goes_no_jump : (v : PlainView) (a : ℕ) → goes_on v a ≡ true → NoJump v a
goes_no_jump v a on = let t = tests v a on in record { pair = t.pair; branch = t.branch; jal = t.jal; jalr = t.jalr; ebreak = t.ebreak }

pub goes_means : (v : PlainView) (a : ℕ) → goes_on v a ≡ true → has_meaning (image_word v a) ≡ true
goes_means v a on = (tests v a on).means

-- so no block begins behind it
pub goes_no_leader : (v : PlainView) (a : ℕ) → goes_on v a ≡ true → is_leader v (a + 4) ≡ false
goes_no_leader v a on = (tests v a on).leader

goes_further : (v : PlainView) (a n : ℕ) → goes_on v a ≡ true → end_from v a (suc n) ≡ end_from v (a + 4) n
goes_further v a n on = let t = tests v a on in rw (t.means, t.pair, t.branch, t.jal, t.jalr, t.ebreak, t.leader) refl

-- ---- the units of a block in their order

pub record IsNthUnit (v : PlainView) (a n k : ℕ) (xs : List ℕ) : Type 0 where
  pub at : get_or xs k 0 ≡ a + 4 * k
  pub goes : suc k < length xs → goes_on v (a + 4 * k) ≡ true
  pub last : suc k ≡ length xs →
      (m : ℕ) × ((end_from v a n ≡ end_from v (a + 4 * k) (suc m)) × ((goes_on v (a + 4 * k) ≡ false) ⊎ (m ≡ 0)))

pub no_addresses : (v : PlainView) (a n : ℕ) → 0 ≡ length (unit_addresses v a n) → n ≡ 0
no_addresses v a zero none = refl
no_addresses v a (suc n) none = absurd (omega (arith, none))

first_unit : (v : PlainView) (a n : ℕ) (g : Bool) → goes_on v a ≡ g → IsNthUnit v a (suc n) 0 (a ∷ (if g then unit_addresses v (a + 4) n else []))
first_unit v a n false on =
    let same : a ≡ a + 4 * 0 = omega arith in
    record {
      at = same;
      goes = λ more. absurd (omega (arith, more));
      last = λ one. (n, (ap (λ x. end_from v x (suc n)) same, inl (ap (goes_on v) (sym same) ∙ on)));
    }
first_unit v a n true on =
    let same : a ≡ a + 4 * 0 = omega arith in
    record {
      at = same;
      goes = λ more. ap (goes_on v) (sym same) ∙ on;
      last = λ one. (n, (ap (λ x. end_from v x (suc n)) same, inr (no_addresses v (a + 4) n (omega (arith, one)))));
    }

later_unit : (v : PlainView) (a n k : ℕ) (g : Bool) → goes_on v a ≡ g → suc k < length (a ∷ (if g then unit_addresses v (a + 4) n else []))
    → (k < length (unit_addresses v (a + 4) n) → IsNthUnit v (a + 4) n k (unit_addresses v (a + 4) n))
    → IsNthUnit v a (suc n) (suc k) (a ∷ (if g then unit_addresses v (a + 4) n else []))
later_unit v a n k false on below rest = absurd (omega (arith, below))
later_unit v a n k true on below rest =
    let nth = rest (omega (arith, below)) in
    let same : a + 4 + 4 * k ≡ a + 4 * suc k = omega arith in
    record {
      at = nth.at ∙ same;
      goes = λ more. ap (goes_on v) (sym same) ∙ nth.goes (omega (arith, more));
      last = λ one.
          let found = nth.last (omega (arith, one)) in (
            found.0,
            (
              goes_further v a n on ∙ (found.1.0 ∙ ap (λ x. end_from v x (suc found.0)) same),
              subst (λ x. (goes_on v x ≡ false) ⊎ (found.0 ≡ 0)) same found.1.1,
            ),
          );
    }

pub nth_unit : (v : PlainView) (a n k : ℕ) → k < length (unit_addresses v a n) → IsNthUnit v a n k (unit_addresses v a n)
nth_unit v a zero k below = absurd (omega (arith, below))
nth_unit v a (suc n) zero below = first_unit v a n (goes_on v a) refl
nth_unit v a (suc n) (suc k) below = later_unit v a n k (goes_on v a) refl below (λ less. nth_unit v (a + 4) n k less)

-- ---- how a block ends, by the address of its last unit

-- why a block stops: its last word means nothing, or ends the run, or no code follows it
abbrev pub StopsSo : PlainView → ℕ → Type 0
StopsSo v a =
    (has_meaning (image_word v a) ≡ false)
    ⊎ (((is_call_pair v a ≡ false) × (is_ebreak (image_word v a) ≡ true)) ⊎ NoJump v a)

abbrev pub EndsSo : PlainView → ℕ → End → Type 0
EndsSo v a (Fall next) = NoJump v a × (next ≡ a + 4)
EndsSo v a (Branch target next) =
    (is_call_pair v a ≡ false) × ((target ≡ branch_target v a) × ((next ≡ a + 4) × (is_branch (image_word v a) ≡ true)))
EndsSo v a (Jump target) =
    (is_call_pair v a ≡ false) × ((is_jal (image_word v a) ≡ true) × ((links (image_word v a) ≡ false) × (target ≡ jal_target v a)))
EndsSo v a (Call target back link) =
    ((is_call_pair v a ≡ true) × ((links (image_word v (a + 4)) ≡ true) × ((target ≡ pair_target v a) × ((back ≡ a + 8) × (link ≡ rd_of (image_word v (a + 4)))))))
    ⊎ ((is_call_pair v a ≡ false) × ((is_jal (image_word v a) ≡ true) × ((target ≡ jal_target v a) × ((back ≡ a + 4) × (link ≡ rd_of (image_word v a))))))
EndsSo v a (Tail target) =
    (is_call_pair v a ≡ true) × ((links (image_word v (a + 4)) ≡ false) × (target ≡ pair_target v a))
EndsSo v a (Indirect None) = (is_call_pair v a ≡ false) × ((is_jalr (image_word v a) ≡ true) × (links (image_word v a) ≡ false))
EndsSo v a (Indirect (Some back)) = (is_call_pair v a ≡ false) × ((back ≡ a + 4) × (is_jalr (image_word v a) ≡ true))
EndsSo v a Stop = StopsSo v a

-- its own end, or none
abbrev JumpsSo : PlainView → ℕ → Option End → Type 0
JumpsSo v a None = NoJump v a
JumpsSo v a (Some end) = EndsSo v a end

pair_ends : (v : PlainView) (a : ℕ) → is_call_pair v a ≡ true → EndsSo v a (pair_end v a)
pair_ends v a pair =
    cond_both (links (image_word v (a + 4))) (Call (pair_target v a) (a + 8) (rd_of (image_word v (a + 4)))) (Tail (pair_target v a)) (EndsSo v a)
    (λ yes. inl (pair, (yes, (refl, (refl, refl))))) (λ no. (pair, (no, refl)))

jal_ends : (v : PlainView) (a : ℕ) → is_call_pair v a ≡ false → is_jal (image_word v a) ≡ true → EndsSo v a (jal_end v a)
jal_ends v a single jal =
    cond_both (links (image_word v a)) (Call (jal_target v a) (a + 4) (rd_of (image_word v a))) (Jump (jal_target v a)) (EndsSo v a)
    (λ yes. inr (single, (jal, (refl, (refl, refl))))) (λ no. (single, (jal, (no, refl))))

jalr_ends : (v : PlainView) (a : ℕ) → is_call_pair v a ≡ false → is_jalr (image_word v a) ≡ true → EndsSo v a (jalr_end v a)
jalr_ends v a single jalr =
    cond_both (links (image_word v a)) (Indirect (Some (a + 4))) (Indirect None) (EndsSo v a)
    (λ yes. (single, (refl, jalr))) (λ no. (single, (jalr, no)))

jump_ends : (v : PlainView) (a : ℕ) → JumpsSo v a (jump_end v a)
jump_ends v a =
    cond_both (is_call_pair v a) _ _ (JumpsSo v a) (λ pair. pair_ends v a pair) (λ p.
    cond_both (is_branch (image_word v a)) _ _ (JumpsSo v a) (λ b. (p, (refl, (refl, b)))) (λ b.
    cond_both (is_jal (image_word v a)) _ _ (JumpsSo v a) (λ j. jal_ends v a p j) (λ j.
    cond_both (is_jalr (image_word v a)) _ _ (JumpsSo v a) (λ r. jalr_ends v a p r) (λ r.
    cond_both (is_ebreak (image_word v a)) _ _ (JumpsSo v a) (λ e. inr (inl (p, e))) (λ e.
    record { pair = p; branch = b; jal = j; jalr = r; ebreak = e })))))

or_else_so : (v : PlainView) (a : ℕ) (o : Option End) (other : End) → JumpsSo v a o → (NoJump v a → EndsSo v a other) → EndsSo v a (end_or o other)
or_else_so v a None other so rest = rest so
or_else_so v a (Some end) other so rest = so

goes_so : (v : PlainView) (a : ℕ) → has_meaning (image_word v a) ≡ true → NoJump v a → is_leader v (a + 4) ≡ false → goes_on v a ≡ true
goes_so v a m none l = rw (m, none.pair, none.branch, none.jal, none.jalr, none.ebreak, l) refl

stops_there : (v : PlainView) (a m : ℕ) → has_meaning (image_word v a) ≡ true → NoJump v a → is_leader v (a + 4) ≡ false → (goes_on v a ≡ false) ⊎ (m ≡ 0) → EndsSo v a (end_from v (a + 4) m)
stops_there v a m means none l (inl stops) =
    let on = goes_so v a means none l in absurd (cc (on, stops))
stops_there v a m means none l (inr zero_left) = subst (λ n. EndsSo v a (end_from v (a + 4) n)) (sym zero_left) (inr (inr none))

pub ends_so : (v : PlainView) (a m : ℕ) → (goes_on v a ≡ false) ⊎ (m ≡ 0) → EndsSo v a (end_from v a (suc m))
ends_so v a m stops =
    cond_both (has_meaning (image_word v a)) (end_or (jump_end v a) (if is_leader v (a + 4) then Fall (a + 4) else end_from v (a + 4) m)) Stop (EndsSo v a)
    (λ means. or_else_so v a (jump_end v a) (if is_leader v (a + 4) then Fall (a + 4) else end_from v (a + 4) m) (jump_ends v a) (λ none.
    cond_both (is_leader v (a + 4)) (Fall (a + 4)) (end_from v (a + 4) m) (EndsSo v a)
    (λ leads. (none, refl)) (λ no. stops_there v a m means none no stops)))
    (λ no. inl no)

-- where it doesn't stop, its last word means something
pub ends_mean : (v : PlainView) (a m : ℕ) → is_stop (end_from v a (suc m)) ≡ false → has_meaning (image_word v a) ≡ true
ends_mean v a m =
    cond_both (has_meaning (image_word v a)) (end_or (jump_end v a) (if is_leader v (a + 4) then Fall (a + 4) else end_from v (a + 4) m)) Stop
    (λ e. is_stop e ≡ false → has_meaning (image_word v a) ≡ true)
    (λ means goes. means) (λ no goes. absurd (cc (goes)))
