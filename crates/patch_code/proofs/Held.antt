-- Words in memory.
use Rattle.std.proofs.Common.{◌≡◌, ℕ, ◌+◌, ◌*◌, List, ◌++◌, length, ◌∙◌, ap, arith}
use Rattle.std.proofs.lemmas.List.{length-append, get_or-append-add}
use Rattle.std.proofs.Math.ListN.{get_or-append}
use Rattle.rv32im.specs.Memory.{Memory, word_at}
use Rattle.flat_machine.specs.Lines.{HoldsAt}

pub held_front : (mem : Memory) (at : ℕ) (xs ys : List ℕ) → HoldsAt mem at (xs ++ ys) → HoldsAt mem at xs
held_front mem at xs ys held k below =
    let count = length-append xs ys in
    held k (omega (arith, count, below)) ∙ get_or-append xs ys 0 k below

pub held_behind : (mem : Memory) (at to : ℕ) (xs ys : List ℕ) → at + 4 * length xs ≡ to → HoldsAt mem at (xs ++ ys) → HoldsAt mem to ys
held_behind mem at to xs ys there held k below =
    let count = length-append xs ys in
    let place : to + 4 * k ≡ at + 4 * (length xs + k) = omega (arith, there) in
    ap (λ x. word_at mem x) place ∙ (held (length xs + k) (omega (arith, count, below)) ∙ get_or-append-add xs ys k 0)
