-- What the words that lead to an object that may move are.
use Rattle.std.proofs.Common.{◌≡◌, ◌∙◌, inl, inr, ℕ, zero, suc, ◌<◌, ◌==◌, ◌%◌, nat_lt, true, ◌&&◌, ◌||◌, length, refl, sym, ap, subst, arith}
use Rattle.std.specs.Int.{cast_unsigned, w32}
use Rattle.std.proofs.lemmas.Bool.{eqb-true}
use Rattle.std.proofs.lemmas.Bool.Decides.{nat_tests}
use Rattle.list_checks.proofs.TestLemmas.{either, both, none_at}
use Rattle.rv32im.specs.Words.{signed, minus, upper_half, lower_half}
use Rattle.rv32im.specs.Fields.{opcode_of, funct3_of}
use Rattle.rv32im.specs.Table.{load_funct3, store_funct3}
use Rattle.rv32im.specs.declared.instructions.LoadKind.{LoadKind}
use Rattle.rv32im.specs.declared.instructions.LoadKind.TheVariants.{Lb, Lh, Lw, Lbu, Lhu}
use Rattle.rv32im.specs.declared.instructions.StoreKind.{StoreKind}
use Rattle.rv32im.specs.declared.instructions.StoreKind.TheVariants.{Sb, Sh, Sw}
use Rattle.elf_reader.specs.File.{PlainView}
use Rattle.loaded_file.specs.Code.{is_code_word, image_word}
use Rattle.elf_reader.specs.declared.view.Reloc.{Reloc}
use Rattle.loaded_file.specs.Records.{reloc_at, counts, target}
use Rattle.object_graph.specs.Rewritable.{is_addi, is_load_word, is_store_word, i_low, s_low, takes_low_i, takes_low_s, distance, names_high, is_paired, is_unpaired}
use Rattle.object_graph.specs.Laws.{reach, StoresAtLower, HasLower, IsLowOf, DataWordsLead, HighSitesLead, LowSitesLead, LowStoresLead, PairedSitesLead}
use Rattle.object_graph.proofs.RewritableLemmas.{given_both, soundly, IsPair, of_two, kind_parts, only_word, only_high, only_low, only_pair}

pub data_words_lead : DataWordsLead
data_words_lead v board home n i movable means =
    let rewritable = soundly v board 1 home n i (omega arith) (omega arith) movable means in
    let word = only_word v i (reloc_at v i) means.is_kind (kind_parts v i rewritable.kind) in
    (rewritable.near, word.word ∙ rewritable.leads)

-- ---- instructions with a part of an address

-- the load and the store of a funct3
load_kind : (f : ℕ) → nat_lt f 3 || (f == 4) || (f == 5) ≡ true → (kind : LoadKind) × (f ≡ load_funct3 kind)
load_kind zero passes = (Lb, refl)
load_kind (suc zero) passes = (Lh, refl)
load_kind (suc (suc zero)) passes = (Lw, refl)
load_kind (suc (suc (suc zero))) passes = cc
load_kind (suc (suc (suc (suc zero)))) passes = (Lbu, refl)
load_kind (suc (suc (suc (suc (suc zero))))) passes = (Lhu, refl)
load_kind (suc (suc (suc (suc (suc (suc f)))))) passes = grind (arith, nat_tests, passes)

store_kind : (f : ℕ) → nat_lt f 3 ≡ true → (kind : StoreKind) × (f ≡ store_funct3 kind)
store_kind zero passes = (Sb, refl)
store_kind (suc zero) passes = (Sh, refl)
store_kind (suc (suc zero)) passes = (Sw, refl)
store_kind (suc (suc (suc f))) passes = grind (arith, nat_tests, passes)

-- equal low twelve bits are equal as a signed number
same_lower : (bits a : ℕ) → bits ≡ a % 4096 → lower_half a ≡ signed 2048 bits
same_lower bits a same = ap (signed 2048) (sym same)

pub has_lower : (w a : ℕ) → takes_low_i w a ≡ true → HasLower w a
has_lower w a takes =
    let whole = both (is_addi w || is_load_word w) (i_low w == a % 4096) takes in
    let low = same_lower (i_low w) a (eqb-true (i_low w) (a % 4096) whole.1) in
    elim (either (is_addi w) (is_load_word w) whole.0) [
      | inl adds ↦
          let parts = both (opcode_of w == 19) (funct3_of w == 0) adds in
          inl (eqb-true (opcode_of w) 19 parts.0, eqb-true (funct3_of w) 0 parts.1, refl, refl, low)
      | inr loads ↦
          let f = funct3_of w in
          let parts = both (opcode_of w == 3) (nat_lt f 3 || (f == 4) || (f == 5)) loads in
          let (kind, is) = load_kind f parts.1 in
          inr (kind, (eqb-true (opcode_of w) 3 parts.0, is, refl, refl, low))
    ]

pub stores_at_lower : (w a : ℕ) → takes_low_s w a ≡ true → StoresAtLower w a
stores_at_lower w a takes =
    let whole = both (is_store_word w) (s_low w == a % 4096) takes in
    let low = same_lower (s_low w) a (eqb-true (s_low w) (a % 4096) whole.1) in
    let parts = both (opcode_of w == 35) (nat_lt (funct3_of w) 3) whole.0 in
    let (kind, is) = store_kind (funct3_of w) parts.1 in
    (kind, (eqb-true (opcode_of w) 35 parts.0, is, refl, refl, low))

-- ---- the sites

pub high_sites_lead : HighSitesLead
high_sites_lead v board home n i movable means =
    let r = reloc_at v i in
    let rewritable = soundly v board 26 home n i (omega arith) (omega arith) movable means in
    let high = only_high v i r means.is_kind (kind_parts v i rewritable.kind) in
    record {
      near = rewritable.near;
      code = high.code;
      part = (high.opcode, refl, ap upper_half (sym rewritable.leads) ∙ sym high.high);
    }

pub low_sites_lead : LowSitesLead
low_sites_lead v board home n i movable means =
    let r = reloc_at v i in
    let is = means.is_kind in
    let rewritable = soundly v board 27 home n i (omega arith) (omega arith) movable means in
    let low = only_low v i r (omega (arith, is)) (kind_parts v i rewritable.kind) in
    record {
      near = rewritable.near;
      code = low.code;
      part = elim low.low [
        | inl wide ↦ subst (λ (a : ℕ). HasLower (image_word v r.at) a) rewritable.leads (has_lower (image_word v r.at) (target v r) wide.1)
        | inr half ↦ let wrong = half.0 in absurd (omega (arith, is, wrong))
      ];
    }

pub low_stores_lead : LowStoresLead
low_stores_lead v board home n i movable means =
    let r = reloc_at v i in
    let rewritable = soundly v board 28 home n i (omega arith) (omega arith) movable means in
    let low = only_low v i r (omega (arith, means.is_kind)) (kind_parts v i rewritable.kind) in
    record {
      near = rewritable.near;
      code = low.code;
      part = elim low.low [
        | inl wide ↦ let wrong = wide.0 in absurd (omega (arith, means.is_kind, wrong))
        | inr half ↦ subst (λ (a : ℕ). StoresAtLower (image_word v r.at) a) rewritable.leads (stores_at_lower (image_word v r.at) (target v r) half.1)
      ];
    }

-- ---- pairs

low_of : (v : PlainView) (high : Reloc) (j : ℕ) → is_paired v high (reloc_at v j) ≡ true → IsLowOf v j (distance v high)
low_of v high j paired =
    let low = reloc_at v j in
    let w = image_word v low.at in
    let wide = takes_low_i w (distance v high) in
    let half = takes_low_s w (distance v high) in
    let plain = cast_unsigned w32 low.addend == 0 in
    let whole = both (plain && is_code_word v low.at) ((low.kind == 24) && wide || (low.kind == 25) && half) paired in
    let front = both plain (is_code_word v low.at) whole.0 in
    record {
      code = front.1;
      part = elim (of_two low.kind 24 25 wide half whole.1) [
        | inl is ↦ inl (is.0, has_lower w (distance v high) is.1)
        | inr is ↦ inr (is.0, stores_at_lower w (distance v high) is.1)
      ];
    }

-- a low part that names a rewritable AUIPC
pub paired_low : (v : PlainView) (r : Reloc) (j : ℕ) → IsPair v r → j < length v.relocs → counts v (reloc_at v j) ≡ true → names_high v r (reloc_at v j) ≡ true → IsLowOf v j (distance v r)
paired_low v r j pair below counted names =
    let low = reloc_at v j in
    let none = none_at (is_unpaired v r) (length v.relocs) j below pair.lows in
    low_of v r j (given_both (counts v low) (names_high v r low) (is_paired v r low) none counted names)

pub paired_sites_lead : PairedSitesLead
paired_sites_lead v board home n i movable means =
    let r = reloc_at v i in
    let rewritable = soundly v board 23 home n i (omega arith) (omega arith) movable means in
    let pair = only_pair v i r means.is_kind (kind_parts v i rewritable.kind) in
    let far : distance v r ≡ reach v home i = ap (λ (a : ℕ). minus a r.at) rewritable.leads in
    record {
      near = rewritable.near;
      code = pair.code;
      high = (pair.opcode, refl, ap upper_half (sym far) ∙ sym pair.high);
      lows = λ j below counted names. subst (λ (a : ℕ). IsLowOf v j a) far (paired_low v r j pair below counted names);
    }
