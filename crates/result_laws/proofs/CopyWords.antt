-- The words of copies.
use Rattle.std.proofs.Common.{◌≡◌, ℕ, ◌+◌, ◌*◌, ◌<◌, refl, sym, ◌∙◌, arith}
use Rattle.rv32im.specs.Words.{plus}
use Rattle.rv32im.specs.Memory.{Memory, word_at}
use Rattle.object_graph.specs.Sites.{no_area}
use Rattle.relocator.specs.Placing.{chosen_slots}
use Rattle.relocator.specs.Laws.{slot_at}
use Rattle.result_laws.specs.ChosenJobs.{code_number}
use Rattle.result_laws.specs.SwitchLaws.{CopiesHold}
use Rattle.result_laws.proofs.JobChosen.{slot_ends}

-- words of the same bytes
same_word : (mem : Memory) (a b n k : ℕ) → a + n < 4294967296 → b + n < 4294967296 → 4 * k + 3 < n → ((i : ℕ) → i < n → mem (a + i) ≡ mem (b + i)) → word_at mem (a + 4 * k) ≡ word_at mem (b + 4 * k)
same_word mem a b n k first second inside same =
    let a1 : plus (a + 4 * k) 1 ≡ a + (4 * k + 1) = omega (arith, first, inside) in
    let a2 : plus (a + 4 * k) 2 ≡ a + (4 * k + 2) = omega (arith, first, inside) in
    let a3 : plus (a + 4 * k) 3 ≡ a + (4 * k + 3) = omega (arith, first, inside) in
    let b1 : plus (b + 4 * k) 1 ≡ b + (4 * k + 1) = omega (arith, second, inside) in
    let b2 : plus (b + 4 * k) 2 ≡ b + (4 * k + 2) = omega (arith, second, inside) in
    let b3 : plus (b + 4 * k) 3 ≡ b + (4 * k + 3) = omega (arith, second, inside) in
    let c0 = same (4 * k) (omega (arith, inside)) in
    let c1 = same (4 * k + 1) (omega (arith, inside)) in
    let c2 = same (4 * k + 2) (omega (arith, inside)) in
    let c3 = same (4 * k + 3) inside in
    rw (a1, a2, a3, b1, b2, b3, c0, c1, c2, c3) refl

pub copies_hold_so : CopiesHold
copies_hold_so v g regions board p c images code r mem k words can current of present bytes ends holds m below =
    let slots = chosen_slots board p c in
    let n : ℕ = code_number slots k in
    let to = (slot_ends v g regions board p c can.laid can.can k of.0).to in
    let spm = (can.laid.lawful.ranges 1 no_area (omega arith)).within in
    let room = can.fitting.fit k of in
    same_word mem (slot_at slots k).at (images.at n) (images.bytes n) m (omega (arith, to, spm, room)) (omega (arith, ends, bytes)) (omega (arith, bytes, below))
    (λ i inside. current.copies k i of present inside ∙ sym (current.images_stand k i of inside))
    ∙ holds m below
