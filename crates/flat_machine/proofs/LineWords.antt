-- Words of lines in memory.
use Rattle.std.proofs.Common.{◌≡◌, ℕ, zero, suc, ◌+◌, ◌*◌, ◌%◌, ◌<◌, ◌≤◌, true, List, [], ◌∷◌, ◌++◌, length, slice_index, refl, sym, subst, arith}
use Rattle.std.proofs.lemmas.Bool.Decides.{nat_tests}
use Rattle.rv32im.specs.Words.{plus}
use Rattle.rv32im.specs.Memory.{Memory, word_at}
use Rattle.rv32im.specs.declared.instructions.Instr.{Instr}
use Rattle.rv32im.specs.Table.{Means}
use Rattle.rv32im.specs.Sequences.{MeanAll}
use Rattle.board_config.specs.declared.board.Range.{Range}
use Rattle.flat_machine.specs.Mapping.{can_access, is_mapped, all_mapped}
use Rattle.flat_machine.specs.State.{State}
use Rattle.flat_machine.specs.Lines.{AreMapped, CodeAt, IsAtWords}

-- ---- accesses

all_there : (map : List Range) (at n : ℕ) → AreMapped map at n → all_mapped map at n ≡ true
all_there map at zero mapped = refl
all_there map at (suc n) mapped =
    let rest = all_there map at n (λ i below. mapped i (omega arith)) in
    let last = mapped n (omega arith) in
    rw (rest, last) refl

pub accessed : (map : List Range) (at n width : ℕ) (d : ℕ) → AreMapped map at n → d + width ≤ n → (at + d) % width ≡ 0 → can_access map (at + d) width ≡ true
accessed map at n width d mapped fits aligned =
    let all =
    all_there map (at + d) width (λ i below.
    let same : at + (d + i) ≡ at + d + i = omega arith in
    subst (λ a. is_mapped map a ≡ true) same (mapped (d + i) (omega arith))) in
    grind (arith, nat_tests)

pub words_fetched : (ws : List ℕ) (is : List Instr) (map : List Range) (mem : Memory) (a : ℕ) → MeanAll ws is → ((k : ℕ) → k < length ws → word_at mem (a + 4 * k) ≡ slice_index ws k) → ((k : ℕ) → k < length ws → can_access map (a + 4 * k) 4 ≡ true) → CodeAt map mem a is
words_fetched [] [] map mem a all stand fetch = tt
words_fetched [] (i ∷ is) map mem a all stand fetch = absurd all
words_fetched (w ∷ ws) [] map mem a all stand fetch = absurd all
words_fetched (w ∷ ws) (i ∷ is) map mem a all stand fetch =
    let first : a + 4 * 0 ≡ a = omega arith in
    let here : word_at mem a ≡ w = subst (λ x. word_at mem x ≡ w) first (stand 0 (omega arith)) in
    let access : can_access map a 4 ≡ true = subst (λ x. can_access map x 4 ≡ true) first (fetch 0 (omega arith)) in
    let means : Means (word_at mem a) i = subst (λ x. Means x i) (sym here) all.0 in
    let place : ((k : ℕ) → a + 4 * suc k ≡ a + 4 + 4 * k) = λ k. omega arith in (
      (access, means),
      words_fetched ws is map mem (a + 4) all.1
          (λ k below. subst (λ x. word_at mem x ≡ slice_index ws k) (place k) (stand (suc k) (omega arith)))
          (λ k below. subst (λ x. can_access map x 4 ≡ true) (place k) (fetch (suc k) (omega arith))),
    )

pub word_accessed : (map : List Range) (at n k : ℕ) → AreMapped map at n → at % 4 ≡ 0 → 4 * k + 4 ≤ n → can_access map (at + 4 * k) 4 ≡ true
word_accessed map at n k mapped aligned fits = accessed map at n 4 (4 * k) mapped fits (omega (arith, aligned))

pub words_here : (s : State) (at : ℕ) (ws : List ℕ) (is : List Instr) → IsAtWords s at ws → at % 4 ≡ 0 → MeanAll ws is → CodeAt s.map s.hart.mem at is
words_here s at ws is here aligned all =
    words_fetched ws is s.map s.hart.mem at all here.stand
    (λ k below. word_accessed s.map at (4 * length ws) k here.fetched aligned (omega (arith, below)))

-- ---- code that stays

pub word_kept : (mem new : Memory) (a : ℕ) → a + 4 ≤ 4294967296 → ((x : ℕ) → a ≤ x → x < a + 4 → new x ≡ mem x) → word_at new a ≡ word_at mem a
word_kept mem new a below kept =
    let k0 = kept a (omega arith) (omega arith) in
    let k1 = kept (plus a 1) (omega arith) (omega arith) in
    let k2 = kept (plus a 2) (omega arith) (omega arith) in
    let k3 = kept (plus a 3) (omega arith) (omega arith) in
    rw (k0, k1, k2, k3) refl

pub code_kept : (is : List Instr) (map : List Range) (mem new : Memory) (a : ℕ) → a + 4 * length is ≤ 4294967296 → ((x : ℕ) → a ≤ x → x < a + 4 * length is → new x ≡ mem x) → CodeAt map mem a is → CodeAt map new a is
code_kept [] map mem new a below kept code = tt
code_kept (i ∷ is) map mem new a below kept code =
    let word = word_kept mem new a (omega arith) (λ x low high. kept x low (omega arith)) in
    let here : Means (word_at new a) i = subst (λ w. Means w i) (sym word) code.0.1 in
    ((code.0.0, here), code_kept is map mem new (a + 4) (omega arith) (λ x low high. kept x (omega arith) (omega arith)) code.1)

pub code_front : (is js : List Instr) (map : List Range) (mem : Memory) (a : ℕ) → CodeAt map mem a (is ++ js) → CodeAt map mem a is
code_front [] js map mem a code = tt
code_front (i ∷ is) js map mem a code = (code.0, code_front is js map mem (a + 4) code.1)

pub code_behind : (is js : List Instr) (map : List Range) (mem : Memory) (a : ℕ) → CodeAt map mem a (is ++ js) → CodeAt map mem (a + 4 * length is) js
code_behind [] js map mem a code = let same : a ≡ a + 4 * 0 = omega arith in subst (λ x. CodeAt map mem x js) same code
code_behind (i ∷ is) js map mem a code =
    let same : a + 4 + 4 * length is ≡ a + 4 * suc (length is) = omega arith in
    subst (λ x. CodeAt map mem x js) same (code_behind is js map mem (a + 4) code.1)
