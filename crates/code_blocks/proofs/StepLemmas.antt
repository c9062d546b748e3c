-- A walk through the units of a block, one unit further.
use Rattle.std.proofs.Common.{◌≡◌, ◌∙◌, ℕ, suc, ◌+◌, ◌*◌, ◌-◌, ◌<◌, ◌≤◌, Bool, true, false, not, ◌&&◌, ◌||◌, if◌then◌else◌, List, [], ◌∷◌, ◌++◌, map, length, Option, Some, None, MatchOption, refl, sym, ap, subst, arith, append-nil, append_assoc}
use Rattle.std.specs.List.{All}
use Rattle.std.proofs.lemmas.Bool.{cond-true, cond-false}
use Rattle.std.proofs.lemmas.List.{map-append}
use Rattle.std.proofs.lemmas.List.Elements.{All-nil, All-push}
use Rattle.rv32im.specs.Table.{Means, MeansNothing}
use Rattle.list_checks.specs.First.{◌or_else◌, first_below}
use Rattle.elf_reader.specs.File.{PlainView}
use Rattle.loaded_file.specs.Code.{image_word}
use Rattle.code_blocks.specs.Words.{is_branch, is_jal, is_jalr, branch_target}
use Rattle.code_blocks.specs.Meanings.{is_ebreak, has_meaning}
use Rattle.code_blocks.specs.Leaders.{is_call_pair, is_leader}
use Rattle.code_blocks.specs.Early.{has}
use Rattle.code_blocks.specs.AllLeaders.{IsLeaders}
use Rattle.code_blocks.specs.declared.lists.Leaders.{Leaders}
use Rattle.code_blocks.specs.Ends.{pair_end, jal_end, jalr_end, word_end, jump_end, end_or, end_from, range_at, words_left_in, words_left}
use Rattle.code_blocks.specs.Blocks.{goes_on, unit_addresses, unit_at, IsUnit}
use Rattle.code_blocks.specs.Steps.{fall_end, end_behind, IsWalk}
use Rattle.code_blocks.specs.declared.ends.End.{End}
use Rattle.code_blocks.specs.declared.ends.End.TheVariants.{Fall, Branch, Stop}
use Rattle.code_blocks.specs.declared.parts.Unit.{Unit}
use Rattle.code_blocks.specs.declared.walking.Walk.{Walk}

-- the end that is there, and that of the rest, from the tests alone: m a meaning, l a leader behind
abbrev stops : Bool → Bool → Option End → End → Option End
stops m l jump fall = if m then jump or_else (if l then Some fall else None) else Some Stop

abbrev ends : Bool → Bool → Option End → End → End → End
ends m l jump fall rest = if m then end_or jump (if l then fall else rest) else Stop

stopped : (m l : Bool) (jump : Option End) (fall rest e : End) → stops m l jump fall ≡ Some e → ends m l jump fall rest ≡ e
stopped true true None fall rest e is = cc
stopped true false None fall rest e is = cc
stopped true l (Some jump) fall rest e is = cc
stopped false l jump fall rest e is = cc

passed : (m l : Bool) (jump : Option End) (fall rest : End) → stops m l jump fall ≡ None → ends m l jump fall rest ≡ rest
passed true true None fall rest is = cc
passed true false None fall rest is = refl
passed true l (Some jump) fall rest is = cc
passed false l jump fall rest is = cc

-- the end of a unit by its five tests, and the test for none
abbrev jumps : Bool → Bool → Bool → Bool → Bool → End → End → End → End → Option End
jumps p b j r e w x y z =
    if p then Some w else if b then Some x else if j then Some y else if r then Some z else if e then Some Stop else None

abbrev goes : Bool → Bool → Bool → Bool → Bool → Bool → Bool → Bool
goes m p b j r e l = m && not (p || b || j || r || e) && not l

stays : (m p b j r e l : Bool) (w x y z fall : End) → stops m l (jumps p b j r e w x y z) fall ≡ None → goes m p b j r e l ≡ true
stays false p b j r e l w x y z fall is = cc
stays true true b j r e l w x y z fall is = cc
stays true false true j r e l w x y z fall is = cc
stays true false false true r e l w x y z fall is = cc
stays true false false false true e l w x y z fall is = cc
stays true false false false false true l w x y z fall is = cc
stays true false false false false false true w x y z fall is = cc
stays true false false false false false false w x y z fall is = refl

leaves : (m p b j r e l : Bool) (w x y z fall end : End) → stops m l (jumps p b j r e w x y z) fall ≡ Some end → goes m p b j r e l ≡ false
leaves false p b j r e l w x y z fall end is = refl
leaves true true b j r e l w x y z fall end is = refl
leaves true false true j r e l w x y z fall end is = refl
leaves true false false true r e l w x y z fall end is = refl
leaves true false false false true e l w x y z fall end is = refl
leaves true false false false false true l w x y z fall end is = refl
leaves true false false false false false true w x y z fall end is = refl
leaves true false false false false false false w x y z fall end is = cc

-- the end of a call pair, and that of another unit
pub pair_ends : (v : PlainView) (a : ℕ) (e : End) → is_call_pair v a ≡ true → e ≡ pair_end v a → Some e ≡ jump_end v a
pair_ends v a e pair is =
    ap (λ (x : End). Some x) is ∙ sym (cond-true (is_call_pair v a) (Some (pair_end v a)) (word_end a (image_word v a)) pair)

pub word_ends : (v : PlainView) (a word : ℕ) (o : Option End) → is_call_pair v a ≡ false → word ≡ image_word v a → o ≡ word_end a word → o ≡ jump_end v a
word_ends v a word o single is ends =
    ends ∙ ap (word_end a) is ∙ sym (cond-false (is_call_pair v a) (Some (pair_end v a)) (word_end a (image_word v a)) single)

-- the end of a block that ends behind its unit at `a`, and of one that goes on
pub end_here : (v : PlainView) (a n : ℕ) (e : End) → end_behind v a ≡ Some e → end_from v a (suc n) ≡ e
end_here v a n e is =
    stopped (has_meaning (image_word v a)) (is_leader v (a + 4)) (jump_end v a) (Fall (a + 4)) (end_from v (a + 4) n) e is

pub end_further : (v : PlainView) (a n : ℕ) → end_behind v a ≡ None → end_from v a (suc n) ≡ end_from v (a + 4) n
end_further v a n is =
    passed (has_meaning (image_word v a)) (is_leader v (a + 4)) (jump_end v a) (Fall (a + 4)) (end_from v (a + 4) n) is

goes_further : (v : PlainView) (a : ℕ) → end_behind v a ≡ None → goes_on v a ≡ true
goes_further v a is =
    let w = image_word v a in
    stays (has_meaning w) (is_call_pair v a) (is_branch w) (is_jal w) (is_jalr w) (is_ebreak w) (is_leader v (a + 4)) (pair_end v a) (Branch (branch_target v a) (a + 4)) (jal_end v a) (jalr_end v a) (Fall (a + 4)) is

goes_no_further : (v : PlainView) (a : ℕ) (e : End) → end_behind v a ≡ Some e → goes_on v a ≡ false
goes_no_further v a e is =
    let w = image_word v a in
    leaves (has_meaning w) (is_call_pair v a) (is_branch w) (is_jal w) (is_jalr w) (is_ebreak w) (is_leader v (a + 4)) (pair_end v a) (Branch (branch_target v a) (a + 4)) (jal_end v a) (jalr_end v a) (Fall (a + 4)) e is

-- the addresses of its units
addresses_further : (v : PlainView) (a n : ℕ) → end_behind v a ≡ None → unit_addresses v a (suc n) ≡ a ∷ unit_addresses v (a + 4) n
addresses_further v a n is = rw (goes_further v a is) refl

addresses_here : (v : PlainView) (a n : ℕ) (e : End) → end_behind v a ≡ Some e → unit_addresses v a (suc n) ≡ a ∷ []
addresses_here v a n e is = rw (goes_no_further v a e is) refl

-- one unit more of those so far, with the rest
one_more : (units : List Unit) (u : Unit) (a : ℕ) (rest whole : List ℕ) → u.at ≡ a → map unit_at units ++ a ∷ rest ≡ whole → map unit_at (units ++ u ∷ []) ++ rest ≡ whole
one_more units u a rest whole at so_far =
    ap (λ (xs : List ℕ). xs ++ rest) (map-append unit_at units (u ∷ []))
    ∙ append_assoc (map unit_at units) (u.at ∷ []) rest
    ∙ ap (λ (x : ℕ). map unit_at units ++ x ∷ rest) at
    ∙ so_far

pub units_further : (v : PlainView) (units : List Unit) (u : Unit) (a b m n : ℕ) (whole : List ℕ) → end_behind v a ≡ None → u.at ≡ a → b ≡ a + 4 → m ≡ suc n
    → map unit_at units ++ unit_addresses v a m ≡ whole → map unit_at (units ++ u ∷ []) ++ unit_addresses v b n ≡ whole
units_further v units u a b m n whole is at next left so_far =
    rw next (one_more units u a (unit_addresses v (a + 4) n) whole at
    (ap (λ (xs : List ℕ). map unit_at units ++ xs) (sym (ap (unit_addresses v a) left ∙ addresses_further v a n is)) ∙ so_far))

pub units_here : (v : PlainView) (units : List Unit) (u : Unit) (a m n : ℕ) (e : End) (whole : List ℕ) → end_behind v a ≡ Some e → u.at ≡ a → m ≡ suc n
    → map unit_at units ++ unit_addresses v a m ≡ whole → map unit_at (units ++ u ∷ []) ≡ whole
units_here v units u a m n e whole is at left so_far =
    sym (append-nil (map unit_at (units ++ u ∷ [])))
    ∙ one_more units u a [] whole at
    (ap (λ (xs : List ℕ). map unit_at units ++ xs) (sym (ap (unit_addresses v a) left ∙ addresses_here v a n e is)) ∙ so_far)

-- a block that no jump ends, and the next leader
pub falls : (v : PlainView) (a word : ℕ) (r : Option End) (leads means : Bool) → word ≡ image_word v a → means ≡ true → means ≡ has_meaning word → None ≡ jump_end v a → leads ≡ is_leader v (a + 4)
    → r ≡ (if leads then Some (Fall (a + 4)) else None) → r ≡ end_behind v a
falls v a word r leads means is_word true_then is none leader fall =
    let meaning : has_meaning (image_word v a) ≡ true = ap has_meaning (sym is_word) ∙ sym is ∙ true_then in
    let whole : end_behind v a ≡ fall_end v a = rw (meaning, sym none) refl in
    fall ∙ ap (λ (b : Bool). if b then Some (Fall (a + 4)) else None) leader ∙ sym whole

-- ---- a walk of i units through the n words from `a` on

pub record IsWalked (v : PlainView) (a n i : ℕ) (us : List Unit) : Type 0 where
  pub addresses : map unit_at us ++ unit_addresses v (a + 4 * i) (n - i) ≡ unit_addresses v a n
  pub units : All (IsUnit v) us
  pub end : end_from v (a + 4 * i) (n - i) ≡ end_from v a n

pub walked_none : (v : PlainView) (a n : ℕ) → IsWalked v a n 0 []
walked_none v a n =
    let at : a + 4 * 0 ≡ a = omega arith in
    let left : n - 0 ≡ n = omega arith in
    record { addresses = rw (at, left) refl; units = All-nil (IsUnit v); end = rw (at, left) refl }

pub walked_more : (v : PlainView) (a n i : ℕ) (so_far units : List Unit) (u : Unit) → IsWalked v a n i so_far → units ≡ so_far ++ u ∷ [] → i < n → IsUnit v u → u.at ≡ a + 4 * i → end_behind v (a + 4 * i) ≡ None
    → IsWalked v a n (i + 1) units
walked_more v a n i so_far units u walked pushed below is at none =
    let left : n - i ≡ suc (n - (i + 1)) = omega (arith, below) in
    let next : a + 4 * (i + 1) ≡ a + 4 * i + 4 = omega arith in
    record {
      addresses =
          ap (λ (us : List Unit). map unit_at us ++ unit_addresses v (a + 4 * (i + 1)) (n - (i + 1))) pushed
          ∙ units_further v so_far u (a + 4 * i) (a + 4 * (i + 1)) (n - i) (n - (i + 1)) (unit_addresses v a n) none at next left walked.addresses;
      units = subst (All (IsUnit v)) (sym pushed) (All-push (IsUnit v) so_far u walked.units is);
      end =
          ap (λ (b : ℕ). end_from v b (n - (i + 1))) next
          ∙ sym (ap (end_from v (a + 4 * i)) left ∙ end_further v (a + 4 * i) (n - (i + 1)) none)
          ∙ walked.end;
    }

-- a walk that an end stops
pub walk_stopped : (v : PlainView) (a n i : ℕ) (so_far : List Unit) (u : Unit) (e : End) (w : Walk) → IsWalked v a n i so_far → w.units.items ≡ so_far ++ u ∷ [] → w.end ≡ e → i < n → IsUnit v u → u.at ≡ a + 4 * i → end_behind v (a + 4 * i) ≡ Some e
    → IsWalk v a n w
walk_stopped v a n i so_far u e w walked pushed ends_so below is at some =
    let left : n - i ≡ suc (n - (i + 1)) = omega (arith, below) in
    record {
      addresses =
          ap (map unit_at) pushed
          ∙ units_here v so_far u (a + 4 * i) (n - i) (n - (i + 1)) e (unit_addresses v a n) some at left walked.addresses;
      units = subst (All (IsUnit v)) (sym pushed) (All-push (IsUnit v) so_far u walked.units is);
      end =
          ends_so
          ∙ sym (ap (end_from v (a + 4 * i)) left ∙ end_here v (a + 4 * i) (n - (i + 1)) e some)
          ∙ walked.end;
    }

-- a walk to the end of the code range
pub walk_over : (v : PlainView) (a n i : ℕ) (w : Walk) → IsWalked v a n i w.units.items → n ≤ i → w.end ≡ Stop → IsWalk v a n w
walk_over v a n i w walked all stop =
    let left : n - i ≡ 0 = omega (arith, all) in
    record {
      addresses =
          sym (append-nil (map unit_at w.units.items))
          ∙ ap (λ (m : ℕ). map unit_at w.units.items ++ unit_addresses v (a + 4 * i) m) (sym left)
          ∙ walked.addresses;
      units = walked.units;
      end = stop ∙ ap (end_from v (a + 4 * i)) (sym left) ∙ walked.end;
    }

-- a walk where no code range holds the first word
pub no_walk : (v : PlainView) (a : ℕ) (w : Walk) → None ≡ first_below (range_at v a) (length v.sections) → w.units.items ≡ [] → w.end ≡ Stop → IsWalk v a (words_left v a) w
no_walk v a w none empty stop =
    let left : words_left v a ≡ 0 = ap (words_left_in v a) (sym none) in
    record {
      addresses = ap (map unit_at) empty ∙ ap (unit_addresses v a) (sym left);
      units = subst (All (IsUnit v)) (sym empty) (All-nil (IsUnit v));
      end = stop ∙ ap (end_from v a) (sym left);
    }

-- the unit that a word begins, by the lists of leaders
pub is_unit : (v : PlainView) (leaders : Leaders) (u : Unit) (a word : ℕ) → IsLeaders v leaders → word ≡ image_word v a → u.at ≡ a → u.words ≡ (if has leaders.pairs.items a then 2 else 1) → u.raw ≡ word → MatchOption u.instr (MeansNothing word) (Means word)
    → IsUnit v u
is_unit v leaders u a word are is at words raw instr =
    record {
      raw = raw ∙ is ∙ ap (image_word v) (sym at);
      words = words ∙ ap (λ (b : Bool). if b then 2 else 1) (are.pairs a) ∙ ap (λ (b : ℕ). if is_call_pair v b then 2 else 1) (sym at);
      instr = subst (λ (w : ℕ). MatchOption u.instr (MeansNothing w) (Means w)) (sym raw) instr;
    }

pub no_end : (o : Option End) → ((e : End) → o ≡ Some e → ⊥) → o ≡ None
no_end None not_some = refl
no_end (Some e) not_some = absurd (not_some e refl)
