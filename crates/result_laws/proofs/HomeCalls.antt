-- What calls, tails and jumps by a register do at home.
use Rattle.std.proofs.Common.{◌≡◌, ◌⊎◌, inl, inr, ◌∙◌, ℕ, zero, suc, ◌+◌, ◌*◌, ◌/◌, ◌%◌, ◌<◌, Bool, true, false, not, ◌&&◌, List, [], ◌∷◌, refl, sym, ap, subst, arith, ℤ}
use Rattle.std.specs.Prelude.{Option, Some, None, MatchOption, is_some, ◌==◌}
use Rattle.std.proofs.lemmas.Bool.Decides.{nat_tests}
use Rattle.std.proofs.lemmas.Bool.{cases_eq}
use Rattle.rv32im.specs.Words.{plus, offset}
use Rattle.rv32im.specs.Memory.{put}
use Rattle.rv32im.specs.declared.instructions.Instr.{Instr}
use Rattle.rv32im.specs.declared.instructions.Instr.TheVariants as instr
use Rattle.rv32im.specs.Fields.{opcode_of, rd_of, rs1_of, u_immediate, i_immediate, j_immediate}
use Rattle.rv32im.specs.Table.{Means, MeansNothing}
use Rattle.rv32im.specs.Acts.{Hart, Registers, register, with_register}
use Rattle.elf_reader.specs.File.{PlainView}
use Rattle.loaded_file.specs.Code.{image_word}
use Rattle.code_blocks.specs.Words.{is_jal, is_jalr, links, jal_target, pair_target}
use Rattle.code_blocks.specs.Leaders.{is_call_pair}
use Rattle.code_blocks.specs.Leads.{links_base}
use Rattle.block_splitter.specs.declared.unit_kind.UnitKind.TheVariants.{Call, Tail, Indirect, Linking}
use Rattle.block_splitter.specs.Forms.{tail_kind, indirect_kind}
use Rattle.result_laws.specs.HomeUnits.{LeadsAtHome, IsHomeOf}
use Rattle.flat_machine.proofs.SilentLines.{even_again, read_there}
use Rattle.result_laws.proofs.Rows.{one_differs}
use Rattle.result_laws.proofs.CopyHomes.{jal_is, jalr_is, auipc_is, unlinked, linked, pair_words, single_is, pair_is}

set_both : (regs : Registers) (x first y second value k : ℕ) → x ≡ y → second ≡ value → with_register (with_register regs x first) y second k ≡ with_register regs x value k
unfolding put
set_both regs x first y second value k same is = grind (arith, nat_tests)

-- where AUIPC and a JALR by its register go
pair_goes : (regs : Registers) (x y a n to : ℕ) (imm : ℤ) → (x ≡ 0 → ⊥) → y ≡ x → to ≡ offset (plus a (4096 * n)) imm → to % 2 ≡ 0 → offset (register (with_register regs x (plus a (n * 4096))) y) imm / 2 * 2 ≡ to
pair_goes regs x y a n to imm some same is even =
    let read : register (with_register regs x (plus a (n * 4096))) y ≡ plus a (4096 * n) =
    ap (register (with_register regs x (plus a (n * 4096)))) same ∙ (read_there regs x (plus a (n * 4096)) some ∙ omega arith) in
    ap (λ (z : ℕ). offset z imm / 2 * 2) read ∙ (ap (λ (z : ℕ). z / 2 * 2) (sym is) ∙ even_again to even)

clash : (b : Bool) → b ≡ true → b && true ≡ false → ⊥
clash true first second = absurd (cc (second))
clash false first second = absurd (cc (first))

module _ (v : PlainView) (site : ℕ → Bool) (a : ℕ) where
  abbrev w : ℕ
  w = image_word v a

  abbrev next_word : ℕ
  next_word = image_word v (a + 4)

  -- ---- one word

  jal_leads : (target back link : ℕ) (off : ℤ) (h : Hart) → a + 4 < 4294967296 → target ≡ offset a off → back ≡ a + 4 → h.pc ≡ a → LeadsAtHome a (Call target back link) (instr.Jal link off ∷ []) h
  jal_leads target back link off h fits there is at =
      let behind : plus h.pc 4 ≡ back = ap (λ (x : ℕ). plus x 4) at ∙ omega (arith, fits, is) in
      record {
        pc = ap (λ (x : ℕ). offset x off) at ∙ sym there;
        regs = λ k. inl (ap (λ (x : ℕ). with_register h.regs link x k) behind);
        mem = refl;
      }

  pub jal_home : (target back link : ℕ) → is_call_pair v a ≡ false → is_jal w ≡ true → a + 4 < 4294967296 → target ≡ jal_target v a → target % 2 ≡ 0 → back ≡ a + 4 → link ≡ rd_of w → IsHomeOf v site a (Call target back link)
  jal_home target back link single jal fits there even is register_is =
      let told = jal_is w jal in
      let means : Means w (instr.Jal link (j_immediate w)) = (told.0, register_is, refl) in
      record {
        fits = ((omega (arith, there), even), omega (arith, fits, is));
        runs = λ js all h at.
            subst (λ (ks : List Instr). LeadsAtHome a (Call target back link) ks h) (sym (single_is v site a (instr.Jal link (j_immediate w)) js single means all))
            (jal_leads target back link (j_immediate w) h fits there is at);
      }

  pub indirect_home : is_call_pair v a ≡ false → is_jalr w ≡ true → links w ≡ false → IsHomeOf v site a Indirect
  indirect_home single jalr none =
      let told = jalr_is w jalr in
      let i : Instr = instr.Jalr 0 (rs1_of w) (i_immediate w) in
      let means : Means w i = (told.0, told.1, sym (unlinked w none), refl, refl) in
      record { fits = tt; runs = λ js all. (i, (single_is v site a i js single means all, λ s x. refl)) }

  linking_leads : (back link base : ℕ) (imm : ℤ) (h : Hart) → a + 4 < 4294967296 → back ≡ a + 4 → h.pc ≡ a → LeadsAtHome a (Linking back link base imm) (instr.Jalr link base imm ∷ []) h
  linking_leads back link base imm h fits is at =
      let behind : plus h.pc 4 ≡ back = ap (λ (x : ℕ). plus x 4) at ∙ omega (arith, fits, is) in
      record { pc = refl; regs = λ k. inl (ap (λ (x : ℕ). with_register h.regs link x k) behind); mem = refl }

  apart : (link base : ℕ) → (link == base) && not (link == 0) ≡ false → (link ≡ 0) ⊎ (base ≡ link → ⊥)
  apart zero base test = inl refl
  apart (suc link) base test =
      elim (cases_eq base (suc link)) [
        | inl same ↦ let e : (suc link == base) ≡ true = grind (arith, nat_tests, same) in let some : (suc link == 0) ≡ false = grind (arith, nat_tests) in
            let open_test : (suc link == base) && true ≡ false = ap (λ (t : Bool). (suc link == base) && not t) (sym some) ∙ test in
            absurd (clash (suc link == base) e open_test)
        | inr other ↦ inr other
      ]

  pub linking_home : (o : Option Instr) (back : ℕ) → is_some o ≡ true → is_jalr w ≡ true → MatchOption o (MeansNothing w) (Means w) → links_base o ≡ false → is_call_pair v a ≡ false → a + 4 < 4294967296 → back ≡ a + 4 → IsHomeOf v site a (indirect_kind (Some back) o)
  linking_home (Some (instr.Jalr link base imm)) back some jalr means other single fits is =
      record {
        fits = (omega (arith, fits, is), apart link base other);
        runs = λ js all h at.
            subst (λ (ks : List Instr). LeadsAtHome a (Linking back link base imm) ks h) (sym (single_is v site a (instr.Jalr link base imm) js single means all))
            (linking_leads back link base imm h fits is at);
      }
  linking_home None back some jalr means apart_so single fits is = absurd (cc (some))
  linking_home (Some instr.Ecall) back some jalr means apart_so single fits is = let o = (jalr_is w jalr).0 in absurd (omega (arith, means, o))
  linking_home (Some instr.Ebreak) back some jalr means apart_so single fits is = let o = (jalr_is w jalr).0 in absurd (omega (arith, means, o))
  linking_home (Some other) back some jalr means apart_so single fits is =
      let o = (jalr_is w jalr).0 in let m = means.0 in absurd (omega (arith, m, o))

  -- ---- two words

  call_leads : (target back link n : ℕ) (imm : ℤ) (h : Hart) → a + 8 < 4294967296 → (link ≡ 0 → ⊥) → target ≡ offset (plus a (4096 * n)) imm → target % 2 ≡ 0 → back ≡ a + 8 → h.pc ≡ a → LeadsAtHome a (Call target back link) (instr.Auipc link n ∷ instr.Jalr link link imm ∷ []) h
  call_leads target back link n imm h fits some there even is at =
      let behind : plus (plus h.pc 4) 4 ≡ back = ap (λ (x : ℕ). plus (plus x 4) 4) at ∙ omega (arith, fits, is) in
      record {
        pc = ap (λ (x : ℕ). offset (register (with_register h.regs link (plus x (n * 4096))) link) imm / 2 * 2) at
            ∙ pair_goes h.regs link link a n target imm some refl there even;
        regs = λ k. inl (set_both h.regs link (plus h.pc (n * 4096)) link (plus (plus h.pc 4) 4) back k refl behind);
        mem = refl;
      }

  pub call_home : (target back link : ℕ) → is_call_pair v a ≡ true → links next_word ≡ true → a + 8 < 4294967296 → target ≡ pair_target v a → target % 2 ≡ 0 → back ≡ a + 8 → link ≡ rd_of next_word → IsHomeOf v site a (Call target back link)
  call_home target back link pair links_so fits there even is register_is =
      let ws = pair_words v a pair in
      let first = auipc_is w ws.auipc in
      let second = jalr_is next_word ws.jalr in
      let same : rd_of next_word ≡ rd_of w = elim ws.writes [ inl e ↦ e | inr none ↦ absurd (linked next_word links_so none) ] in
      let base = ws.base in
      let some : link ≡ 0 → ⊥ = λ none. linked next_word links_so (sym register_is ∙ none) in
      let i : Instr = instr.Auipc link (u_immediate w) in
      let j : Instr = instr.Jalr link link (i_immediate next_word) in
      let means_i : Means w i = (first.0, register_is ∙ same, refl) in
      let means_j : Means next_word j = (second.0, second.1, register_is, register_is ∙ (same ∙ sym base), refl) in
      record {
        fits = ((omega (arith, there), even), omega (arith, fits, is));
        runs = λ js all h at.
            subst (λ (ks : List Instr). LeadsAtHome a (Call target back link) ks h) (sym (pair_is v site a i j js pair means_i means_j all))
            (call_leads target back link (u_immediate w) (i_immediate next_word) h fits some there even is at);
      }

  tail_leads : (target register_of n : ℕ) (imm : ℤ) (h : Hart) → (register_of ≡ 0 → ⊥) → target ≡ offset (plus a (4096 * n)) imm → target % 2 ≡ 0 → h.pc ≡ a → LeadsAtHome a (Tail target register_of) (instr.Auipc register_of n ∷ instr.Jalr 0 register_of imm ∷ []) h
  tail_leads target register_of n imm h some there even at =
      record {
        pc = ap (λ (x : ℕ). offset (register (with_register h.regs register_of (plus x (n * 4096))) register_of) imm / 2 * 2) at
            ∙ pair_goes h.regs register_of register_of a n target imm some refl there even;
        regs = λ k. one_differs (λ j. j ≡ register_of) h.regs register_of (plus h.pc (n * 4096)) k refl;
        mem = refl;
      }

  pair_opcode : is_call_pair v a ≡ true → opcode_of w ≡ 23
  pair_opcode pair = (auipc_is w (pair_words v a pair).auipc).0

  pub tail_home : (o : Option Instr) (target : ℕ) → is_some o ≡ true → MatchOption o (MeansNothing w) (Means w) → is_call_pair v a ≡ true → links next_word ≡ false → target ≡ pair_target v a → target % 2 ≡ 0 → IsHomeOf v site a (tail_kind target o)
  tail_home (Some (instr.Auipc rd n)) target some_so means pair none there even =
      let ws = pair_words v a pair in
      let second = jalr_is next_word ws.jalr in
      let base = ws.base in
      let links_so = ws.links in
      let i : Instr = instr.Auipc rd n in
      let j : Instr = instr.Jalr 0 rd (i_immediate next_word) in
      let means_j : Means next_word j = (second.0, second.1, sym (unlinked next_word none), means.1 ∙ sym base, refl) in
      let some : rd ≡ 0 → ⊥ = λ zero_register. linked w links_so (sym means.1 ∙ zero_register) in
      let there_so : target ≡ offset (plus a (4096 * n)) (i_immediate next_word) =
      there ∙ ap (λ (m : ℕ). offset (plus a (4096 * m)) (i_immediate next_word)) (sym means.2) in
      record {
        fits = ((omega (arith, there), even), some);
        runs = λ js all h at.
            subst (λ (ks : List Instr). LeadsAtHome a (Tail target rd) ks h) (sym (pair_is v site a i j js pair means means_j all))
            (tail_leads target rd n (i_immediate next_word) h some there_so even at);
      }
  tail_home None target some_so means pair none there even = absurd (cc (some_so))
  tail_home (Some instr.Ecall) target some_so means pair none there even = let o = pair_opcode pair in absurd (omega (arith, means, o))
  tail_home (Some instr.Ebreak) target some_so means pair none there even = let o = pair_opcode pair in absurd (omega (arith, means, o))
  tail_home (Some other) target some_so means pair none there even =
      let o = pair_opcode pair in let m = means.0 in absurd (omega (arith, m, o))
