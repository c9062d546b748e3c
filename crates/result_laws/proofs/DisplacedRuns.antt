-- The words of a displaced unit run, and those behind a block's copy.
use Rattle.std.proofs.Common.{◌≡◌, ℕ, ◌+◌, ◌*◌, ◌%◌, ◌<◌, Bool, true, false, if◌then◌else◌, List, [], ◌∷◌, drop, inl, refl, sym, subst, arith}
use Rattle.std.specs.Bool.{MatchBool}
use Rattle.rv32im.specs.Acts.{register, is_taken}
use Rattle.rv32im.specs.Sequences.{distance}
use Rattle.rv32im.proofs.SequenceLemmas.{arrives}
use Rattle.flat_machine.specs.State.{State}
use Rattle.code_blocks.specs.declared.parts.Unit.{Unit}
use Rattle.block_splitter.specs.declared.unit_kind.UnitKind.{UnitKind}
use Rattle.block_splitter.specs.declared.unit_kind.UnitKind.TheVariants.{Plain, Upper, Branch, Jump, Call, Tail, Indirect, Linking, Halt}
use Rattle.block_splitter.specs.Forms.{displaced_size}
use Rattle.block_splitter.specs.Pieces.{IsTemporary}
use Rattle.block_splitter.specs.Copies.{Copy, Patch, is_inside, LeadsInside, JumpsOut, FallsTo, IsDisplaced, RunsThenJumps, word_of_unit}
use Rattle.flat_machine.specs.Lines.{words_from, Ran, IsAtWords}
use Rattle.result_laws.specs.Kinds.{IsAddress, IsKind, RowRuns}
use Rattle.result_laws.specs.Copied.{FallsOut}
use Rattle.result_laws.specs.Displaced.{DisplacedRuns}
use Rattle.flat_machine.proofs.LineWords.{words_here}
use Rattle.result_laws.proofs.Rows.{jump_ran, out_row, linking_row}
use Rattle.result_laws.proofs.DisplacedRows.{displaced_upper, displaced_call, displaced_jump, displaced_tail, displaced_branch}
use Rattle.result_laws.proofs.CopyRows.{performs_first, performs_one}

returns_home : (at word next : ℕ) (ws : List ℕ) → at % 4 ≡ 0 → at + 4 < 4294967296 → next < 4294967296 → RunsThenJumps at word next ws → (t : State) → IsAtWords t (at + 4) (drop 1 ws) → Ran t ((at + 4) ∷ []) t.hart.regs next
returns_home at word next ws aligned fits below form t there =
    let here : IsAtWords t (at + 4) (form.jump ∷ []) = subst (λ xs. IsAtWords t (at + 4) (drop 1 xs)) form.words there in
    jump_ran t (at + 4) (form.jump ∷ []) here.going here.pc (λ is means. words_here t (at + 4) (form.jump ∷ []) is here (omega (arith, aligned)) means)
    (distance (at + 4) next) next (form.means, tt) (arrives (at + 4) next fits below)

pub displaced_runs : (sites : List Patch) (s : State) (at : ℕ) (ws : List ℕ) (u : Unit) (kind : UnitKind) → at % 4 ≡ 0 → IsAtWords s at ws → u.at + 4 < 4294967296 → IsKind kind → at + 4 * displaced_size kind < 4294967296 → IsDisplaced sites at u kind ws → DisplacedRuns sites s at u kind ws
displaced_runs sites s at ws u Plain aligned here next is fits form =
    record {
      performs = performs_first s at (word_of_unit sites u) (form.jump ∷ []) aligned (subst (λ xs. IsAtWords s at xs) form.words here);
      returns = returns_home at (word_of_unit sites u) (u.at + 4) ws aligned (omega (arith, fits)) next form;
    }
displaced_runs sites s at ws u (Upper rd value) aligned here next is fits form =
    displaced_upper s at ws here.going here.pc (λ js means. words_here s at ws js here aligned means) rd value (u.at + 4) is next (omega (arith, fits)) form
displaced_runs sites s at ws u (Branch kind rs1 rs2 target) aligned here next is fits form =
    displaced_branch s at ws here.going here.pc (λ js means. words_here s at ws js here aligned means) kind rs1 rs2 target (u.at + 4)
    (is_taken kind (register s.hart.regs rs1) (register s.hart.regs rs2)) refl is.0 next (omega (arith, fits)) form
displaced_runs sites s at ws u (Jump target) aligned here next is fits form =
    displaced_jump s at ws here.going here.pc (λ js means. words_here s at ws js here aligned means) target is.0 (omega (arith, fits)) form
displaced_runs sites s at ws u (Call target back link) aligned here next is fits form =
    displaced_call s at ws here.going here.pc (λ js means. words_here s at ws js here aligned means) target back link is.0.0 is.1 (omega (arith, fits)) form
displaced_runs sites s at ws u (Tail target register) aligned here next is fits form =
    displaced_tail s at ws here.going here.pc (λ js means. words_here s at ws js here aligned means) target register is.0.0 (omega (arith, fits)) form
displaced_runs sites s at ws u Indirect aligned here next is fits form = performs_one s at u.raw ws aligned form here
displaced_runs sites s at ws u (Linking back link base imm) aligned here next is fits form =
    linking_row s at ws here.going here.pc (λ js means. words_here s at ws js here aligned means) (λ k. ⊥) (u.at + 4) back link base imm is.0 is.1 (omega (arith, fits)) form
displaced_runs sites s at ws u Halt aligned here next is fits form = performs_one s at u.raw ws aligned form here

-- ---- behind a block's copy

stays : (s : State) (at : ℕ) → s.hart.pc ≡ at → Ran s [] s.hart.regs at
stays s at here = λ t. record s { hart = record { pc = sym here t; regs = s.hart.regs; mem = s.hart.mem } }

falls_by : (x : Copy) (s : State) (at next : ℕ) (ws : List ℕ) (inside : Bool) → at % 4 ≡ 0 → IsAtWords s at ws → IsAddress next → at + 4 * (if inside then 0 else 2) < 4294967296 → (inside ≡ true → LeadsInside x next at) → MatchBool inside (ws ≡ []) (JumpsOut x.code [] next 0 ws)
    → (to : ℕ) × (MatchBool inside (LeadsInside x next to) (to ≡ next) × RowRuns s (Jump next) (λ k. IsTemporary x.code next 0 k) (words_from at (if inside then 0 else 2)) to)
falls_by x s at next ws true aligned here address fits leads form =
    (at, (leads refl, record { regs = s.hart.regs; ran = stays s at here.pc; alike = λ k. inl refl }))
falls_by x s at next ws false aligned here address fits leads form =
    (next, (refl, out_row s at ws here.going here.pc (λ is means. words_here s at ws is here aligned means) x.code next address (omega (arith, fits)) form))

pub falls_out : (x : Copy) (s : State) (at next : ℕ) (ws : List ℕ) → at % 4 ≡ 0 → IsAtWords s at ws → IsAddress next → at + 4 * (if is_inside x next then 0 else 2) < 4294967296 → (is_inside x next ≡ true → LeadsInside x next at) → FallsTo x next ws → FallsOut x s at next
falls_out x s at next ws aligned here address fits leads form = falls_by x s at next ws (is_inside x next) aligned here address fits leads form
