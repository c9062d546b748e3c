-- The premises of runs over units at any form are met: a loop of three units, of which two stand in a copy, one as a row of
-- two words. The home of the copied block has a pad, behind which a stub jumps to the copy; the copy falls out of its end to
-- the home of the third unit; and x5, by which they jump, differs at the start.
use Rattle.std.proofs.Common.{◌≡◌, ◌⊎◌, inl, inr, ℕ, ◌+◌, ◌*◌, ◌/◌, ◌%◌, ◌<◌, ◌≤◌, ◌==◌, nat_lt, nat_le, true, false, ◌&&◌, ◌||◌, if◌then◌else◌, [], ◌∷◌, Option, Some, None, pos, negsuc, refl, sym, ◌∙◌, subst, arith}
use Rattle.std.specs.Prelude.{Contains}
use Rattle.std.proofs.lemmas.Grind.{common_steps}
use Rattle.std.proofs.lemmas.Bool.{cases_eq, cond_both}
use Rattle.std.proofs.lemmas.Bool.Decides.{nat_tests}
use Rattle.rv32im.specs.Words.{byte_of, plus, offset}
use Rattle.rv32im.specs.Memory.{Memory, word_at}
use Rattle.rv32im.specs.Table.{Means, IsInRange}
use Rattle.rv32im.specs.Acts.{Registers, register, with_register, used}
use Rattle.rv32im.specs.declared.instructions.Instr.{Instr}
use Rattle.rv32im.specs.declared.instructions.Instr.TheVariants.{Lui, Auipc, Jal, OpImm}
use Rattle.rv32im.specs.declared.instructions.ImmKind.TheVariants.{Addi}
use Rattle.rv32im.proofs.Meaning.{same_instruction}
use Rattle.flat_machine.specs.Lines.{Ran, fetch_of, went}
use Rattle.flat_machine.specs.Mapping.{can_access}
use Rattle.flat_machine.specs.State.{State}
use Rattle.flat_machine.proofs.SilentLines.{more_ran, read_there, read_other}
use Rattle.cell_values.specs.Objects.{Objects}
use Rattle.cell_values.specs.declared.values.Val.TheVariants.{Int}
use Rattle.cell_values.specs.Origins.{ByLui}
use Rattle.cell_values.specs.Stands.{Places, Stands, moved_uppers}
use Rattle.cell_values.proofs.Makes.{moved_uppers_make}
use Rattle.object_machine.specs.Program.{Program}
use Rattle.object_machine.specs.State.{SourceState, value}
use Rattle.object_machine.specs.Step.{Reads}
use Rattle.object_machine.specs.Runs.{Steps}
use Rattle.object_machine.specs.Paired.{Origins, at_start}
use Rattle.simulation.specs.Setups.{Setup, Sound}
use Rattle.simulation.specs.Units.{StandsAt}
use Rattle.simulation.specs.Relation.{Alike}
use Rattle.simulation.specs.Rules.{LiveRules}
use Rattle.simulation.specs.Laws.{Keeps}
use Rattle.simulation.specs.Forms.{IsAt, ActsAs, OneWordFor, IsFollowed, WordsAt, RunsFor, RowAt, IsRowKind, FormAt, InWords, InRow}
use Rattle.simulation.specs.Ways.{Way, There, Near, Far, Comes, AtAny}
use Rattle.simulation.proofs.Steps.{value_zero, register_zero, does_words}
use Rattle.simulation.proofs.Controls.{word_runs}
use Rattle.simulation.proofs.AnyRegions.{ways_arrive}
use Rattle.simulation.proofs.Resets.{all_made, moved_code_keeps}
use Rattle.simulation.proofs.ExampleParts.{bare, word_of, one_range, begun, loaded, number_holds, alike_at_start}

-- ---- the program: AUIPC x6, 0 and ADDI x17, x0, 93 are a block, and JAL x0, -8 is another

abbrev file_word : ℕ → ℕ
file_word a = if a == 4096 then 791 else (if a == 4100 then 97519763 else 4288671855)

abbrev objects : Objects
objects = record { grain = 16; home = λ o. 64; size = λ o. 0; writable = λ o. false }

abbrev program : Program
program =
    record (bare objects file_word) {
      is_block = λ a. (a == 4096) || (a == 4104);
      falls = λ a. (a == 4096) || (a == 4100);
    }

-- ---- where it stands

abbrev place : Places
place o = 64

-- at home a pad, JAL x0, 104, in place of the AUIPC, and the JAL; the stub, LUI x5, 2 and JALR x0, 0(x5); and the copy: LUI
-- x6, 1 and ADDI x6, x6, 0 for the AUIPC, the ADDI, and LUI x5, 1 and JALR x0, 8(x5), which fall out of it
abbrev placed_word : ℕ → ℕ
placed_word =
    word_of
    ((4096, 109052015)
    ∷ (4104, 4288671855)
    ∷ (4200, 8887)
    ∷ (4204, 163943)
    ∷ (8192, 4919)
    ∷ (8196, 197395)
    ∷ (8200, 97519763)
    ∷ (8204, 4791)
    ∷ (8208, 8552551)
    ∷ [])

abbrev code_byte : Memory
code_byte a = byte_of (placed_word (a / 4 * 4)) (a % 4)

abbrev setup : Setup
setup = one_range 4096 8192 8212 place (moved_uppers place) code_byte

-- x5 never matters
abbrev live : ℕ → ℕ → Type 0
live u k = k ≡ 5 → ⊥

abbrev IsForm : ℕ → ℕ → Type 0
IsForm u a = ((u ≡ 4096) × (a ≡ 8192)) ⊎ (((u ≡ 4100) × (a ≡ 8200)) ⊎ ((u ≡ 4104) × (a ≡ 4104)))

abbrev form : ℕ → ℕ → ℕ → Type 0
form r u a = (r ≡ 0) × IsForm u a

abbrev arrive : ℕ → ℕ → Type 0
arrive v c = Comes setup live form 3 0 v c

sound : Sound program setup 0
sound =
    record {
      fit = record {
        grain = inl refl;
        congruent = λ o. refl;
        positive = λ o. omega arith;
        below = λ o. omega arith;
        disjoint = λ o q i j other first second same. omega arith;
      };
      lui = (moved_uppers_make place).0;
      upper_words = (moved_uppers_make place).1;
      mixes = (moved_uppers_make place).2;
      sites = λ u t is. absurd (cc);
      fixed_below = λ a fixed. absurd (cc);
      fixed_mapped = λ a fixed. absurd (cc);
      objects_mapped = λ o i inside. absurd (omega arith);
      objects_off_fixed = λ o i inside. refl;
      still_off_fixed = λ a still. refl;
      still_off_objects = λ o i inside. absurd (omega arith);
    }

stands_at : (u w : ℕ) → can_access setup.map u 4 ≡ true → 4096 ≤ u → u + 4 ≤ 8212 → word_at code_byte u ≡ w → StandsAt setup 0 u w
stands_at u w fetched low high word =
    record { fetched = fetched; still = λ i below. grind (arith, nat_tests); word = word }

-- ---- ways

-- by the pad and the stub to the copy
pad_way : Way setup live form 0 4096 3 4096
pad_way =
    Near 2 4096 109052015 (pos 104) (stands_at 4096 109052015 refl (omega arith) (omega arith) refl) (refl, refl, refl)
    (Far 0 4200 8887 163943 5 2 (pos 0) (stands_at 4200 8887 refl (omega arith) (omega arith) refl) (refl, refl, refl)
    (stands_at 4204 163943 refl (omega arith) (omega arith) refl) (refl, refl, refl, refl, refl) (λ is. cc)
    (λ lives. lives refl) (There 8192 (refl, inl (refl, refl))))

-- out of the copy
fall_way : Way setup live form 0 4104 2 8204
fall_way =
    Far 0 8204 4791 8552551 5 1 (pos 8) (stands_at 8204 4791 refl (omega arith) (omega arith) refl) (refl, refl, refl)
    (stands_at 8208 8552551 refl (omega arith) (omega arith) refl) (refl, refl, refl, refl, refl) (λ is. cc)
    (λ lives. lives refl) (There 4104 (refl, inr (inr (refl, refl))))

-- ---- the row

module _ (t : State) (here : IsAt setup 0 8192 t) where
  abbrev first : Registers
  first = with_register t.hart.regs 6 4096

  abbrev last : Registers
  last = with_register first 6 (offset (register first 6) (pos 0))

  ran_first : Ran t (8192 ∷ []) first 8196
  ran_first =
      word_runs setup 0 8192 4919 t (Lui 6 1) 8196 here (stands_at 8192 4919 refl (omega arith) (omega arith) refl)
      (refl, refl, refl) tt (let at = here.at in omega arith)

  ran_last : Ran (went t first 8196) (8196 ∷ []) last 8200
  ran_last =
      word_runs setup 0 8196 197395 (went t first 8196) (OpImm Addi 6 6 (pos 0)) 8200
      (record {
        at = refl;
        map = here.map;
        going = here.going;
        words = does_words (fetch_of t.hart.mem 8192 ∷ []) t (went t first 8196) here.words ran_first;
        still = here.still;
      })
      (stands_at 8196 197395 refl (omega arith) (omega arith) refl) (refl, refl, refl, refl, refl) tt refl

  same_register : (k : ℕ) → register last k ≡ register first k
  same_register k =
      elim (cases_eq k 6) [
        | inl is ↦
            let wrote = read_there t.hart.regs 6 4096 (λ none. cc) in
            let again = read_there first 6 (offset (register first 6) (pos 0)) (λ none. cc) in
            subst (λ q. register last q ≡ register first q) (sym is) (again ∙ omega (arith, wrote))
        | inr other ↦ read_other first 6 (offset (register first 6) (pos 0)) k other
      ]

  row_runs : RunsFor program live arrive 4096 t (Auipc 6 0)
  row_runs = record {
    fetched = 8192 ∷ 8196 ∷ [];
    regs = last;
    to = 8200;
    some = omega arith;
    few = omega arith;
    ran = more_ran t 8192 (8196 ∷ []) first last 8196 8200 ran_first ran_last;
    alike = λ k lives. same_register k;
    arrives = λ comes. (0, (omega arith, There 8200 (refl, inr (inl (refl, refl)))));
  }

auipc_row : RowAt program setup live arrive 0 4096 8192
auipc_row =
    record {
      one = λ i single reads.
          let same : Auipc 6 0 ≡ i = same_instruction 791 (Auipc 6 0) i (refl, refl, refl) reads in
          subst (λ j. IsRowKind j None × ((t : State) → IsAt setup 0 8192 t → RunsFor program live arrive 4096 t j)) same (tt, row_runs);
      meant = λ single reads. reads (Auipc 6 0) (refl, refl, refl);
      pair = λ is. absurd (cc);
      below = omega arith;
    }

-- ---- words

-- of a unit that is no call
words_at : (u a w : ℕ) (i : Instr) → u + 4 < 4294967296 → Means (file_word u) i → StandsAt setup 0 a w → Means w i → IsInRange i → ActsAs program setup arrive 0 u a None i i → (program.falls u ≡ true → IsFollowed i → arrive (u + 4) (plus a 4)) → WordsAt program setup arrive 0 u a
words_at u a w i below means stands there range acts falls =
    record {
      one = λ read single reads. known read reads;
      pair = λ pair. absurd (cc);
      falls = λ j single reads follows on. on_to j (same_instruction (file_word u) i j means reads) follows on;
      below = below;
    }
  where
    known : (read : Option Instr) → Reads (file_word u) read → OneWordFor program setup arrive 0 u a read
    known None reads = absurd (reads i means)
    known (Some k) reads =
        let same : i ≡ k = same_instruction (file_word u) i k means reads in
        subst (λ y. OneWordFor program setup arrive 0 u a (Some y)) same (w, (i, (stands, (there, (range, acts)))))

    on_to : (j : Instr) → i ≡ j → IsFollowed j → program.falls u ≡ true → arrive (u + 4) (plus a 4)
    on_to j same follows on = falls on (subst IsFollowed (sym same) follows)

number_words : WordsAt program setup arrive 0 4100 8200
number_words =
    words_at 4100 8200 97519763 (OpImm Addi 17 0 (pos 93)) (omega arith) (refl, refl, refl, refl, refl)
    (stands_at 8200 97519763 refl (omega arith) (omega arith) refl) (refl, refl, refl, refl, refl)
    (omega arith, omega arith, omega arith) refl (λ falls follows. (2, (omega arith, fall_way)))

jump_words : WordsAt program setup arrive 0 4104 4104
jump_words =
    words_at 4104 4104 4288671855 (Jal 0 (negsuc 7)) (omega arith) (refl, refl, refl)
    (stands_at 4104 4288671855 refl (omega arith) (omega arith) refl) (refl, refl, refl) (omega arith, (omega arith, refl))
    (negsuc 7, (refl, (inl refl, λ block. (3, (omega arith, pad_way))))) (λ falls follows. absurd follows)

form_at : (u a : ℕ) → IsForm u a → FormAt program setup live arrive 0 u a
form_at u a (inl is) =
    subst (λ x. FormAt program setup live arrive 0 x a) (sym is.0)
    (subst (λ c. FormAt program setup live arrive 0 4096 c) (sym is.1) (InRow auipc_row))
form_at u a (inr (inl is)) =
    subst (λ x. FormAt program setup live arrive 0 x a) (sym is.0)
    (subst (λ c. FormAt program setup live arrive 0 4100 c) (sym is.1) (InWords number_words))
form_at u a (inr (inr is)) =
    subst (λ x. FormAt program setup live arrive 0 x a) (sym is.0)
    (subst (λ c. FormAt program setup live arrive 0 4104 c) (sym is.1) (InWords jump_words))

forms : (r u a : ℕ) → form r u a → FormAt program setup live (Comes setup live form 3 r) r u a
forms r u a at =
    subst (λ q. FormAt program setup live (Comes setup live form 3 q) q u a) (sym at.0) (form_at u a at.1)

-- ---- the start, in the copy: x5 holds another word than on the other machine

abbrev flat_regs : Registers
flat_regs k = if k == 5 then 9 else 0

abbrev flat_start : State
flat_start = loaded setup 8192 flat_regs (λ a. if nat_le 4096 a && nat_lt a 8212 then code_byte a else 0)

start_alike : Alike program setup live 0 4096 (begun 4096) at_start flat_start
start_alike =
    alike_at_start program setup live 0 4096 (begun 4096) flat_start (λ k lives. zero_stands k lives)
    (λ k lives. number_holds (k == 0) 0 (omega arith)) (λ a fixed. absurd (cc)) (λ o i inside. absurd (omega arith))
    (λ a still. rw still refl)
    (record {
      hart = record { pc = omega arith; regs = λ k. regs_word k; mem = λ a. bytes a };
      input = λ k d below. absurd (omega arith);
    })
    (refl, refl, refl, refl, refl)
  where
    zero_stands : (k : ℕ) → live 4096 k → Stands objects place (moved_uppers place) ByLui (value (λ _. Int 0) k) (register flat_regs k)
    zero_stands k lives = elim (cases_eq k 0) [
      | inl is ↦ let first = value_zero (λ _. Int 0) k is in let second = register_zero flat_regs k is in rw (first, second) refl
      | inr other ↦ grind (arith, nat_tests)
    ]

    regs_word : (k : ℕ) → flat_regs k < 4294967296
    regs_word k = cond_both (k == 5) 9 0 (λ n. n < 4294967296) (λ is. omega arith) (λ other. omega arith)

    bytes : (a : ℕ) → flat_start.hart.mem a < 256
    bytes a = cond_both (nat_le 4096 a && nat_lt a 8212) (code_byte a) 0 (λ b. b < 256) (λ code. omega arith) (λ other. omega arith)

-- no unit reads x5
unread : (u k : ℕ) (i : Instr) → Reads (file_word u) (Some i) → Contains (used i) k → live u k
unread u k i reads has =
    cond_both (u == 4096) 791 _ (λ w. Means w i → live u k)
    (λ is means. by_used (same_instruction 791 (Auipc 6 0) i (refl, refl, refl) means) (λ q none. none_used q none))
    (λ other. cond_both (u == 4100) 97519763 4288671855 (λ w. Means w i → live u k)
    (λ is means. by_used (same_instruction 97519763 (OpImm Addi 17 0 (pos 93)) i (refl, refl, refl, refl, refl) means) (λ q none. none_used q none))
    (λ last means. by_used (same_instruction 4288671855 (Jal 0 (negsuc 7)) i (refl, refl, refl) means) (λ q none. none_used q none)))
    reads
  where
    none_used : (q : ℕ) → Contains [] q → ⊥
    none_used q has = grind (arith, common_steps)

    by_used : {j : Instr} → j ≡ i → ((q : ℕ) → Contains (used j) q → ⊥) → live u k
    by_used same none = absurd (none k (subst (λ y. Contains (used y) k) (sym same) has))

rules : LiveRules program live
rules =
    record {
      uses = λ u k i single reads has. unread u k i reads has;
      keeps = λ s i k going single reads next lives other. lives;
      passes = λ s read k going pair next lives other. lives;
    }

-- ---- so what any run of it does is kept

abbrev anything : ℕ → SourceState → Origins → Type 0
anything r s m = Unit {0}

start_at : AtAny program setup live form anything (begun 4096) at_start flat_start
start_at =
    record {
      region = 0;
      sound = sound;
      held = tt;
      alike = start_alike;
      made = all_made program (begun 4096);
      at = (refl, inl (refl, refl));
    }

kept : (n : ℕ) (s : SourceState) → Steps program n (begun 4096) s → Keeps n (n * (4 + 3)) s flat_start
kept n s steps =
    moved_code_keeps program setup live (Comes setup live form 3) form anything 3 rules forms
    (ways_arrive program setup live form (λ r. Unit {0}) 3) (λ r. refl) (λ r s m held. tt) n (begun 4096) s flat_start start_at
    steps
