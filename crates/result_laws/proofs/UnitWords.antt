-- What stands at the home of a unit, where sites make the addresses of places and all other words are the file's own; and
-- what a word that is rewritten for a site does wherever it stands.
use Rattle.std.proofs.Common.{◌≡◌, ◌∙◌, inr, ℕ, ◌+◌, ◌*◌, ◌%◌, ◌==◌, true, false, not, ◌&&◌, List, length, Option, Some, None, ℤ, refl, sym, subst, arith}
use Rattle.std.proofs.lemmas.Bool.{both_ways}
use Rattle.rv32im.specs.Words.{upper_half, lower_half}
use Rattle.list_checks.specs.Tests.{any_below}
use Rattle.list_checks.proofs.TestLemmas.{both, not_true, any_found, any_at}
use Rattle.rv32im.specs.Fields.{opcode_of}
use Rattle.rv32im.specs.Table.{Means}
use Rattle.rv32im.specs.declared.instructions.Instr.{Instr}
use Rattle.rv32im.specs.declared.instructions.Instr.TheVariants.{Lui, Auipc, Jalr, Load, Store, OpImm}
use Rattle.rv32im.specs.declared.instructions.ImmKind.TheVariants.{Addi}
use Rattle.rv32im.proofs.Meaning.{same_instruction}
use Rattle.elf_reader.specs.File.{PlainView, view_in}
use Rattle.board_config.specs.declared.board.Board.{Board}
use Rattle.loaded_file.specs.Code.{is_code_word, image_word}
use Rattle.loaded_file.specs.Records.{reloc_at, counts, target, is_call_kind}
use Rattle.elf_reader.specs.declared.view.Reloc.{Reloc}
use Rattle.object_graph.specs.Rewritable.{u_high, distance, is_unpaired, is_call_at, is_rewritable_pair}
use Rattle.object_graph.specs.declared.parts.Graph.{Graph}
use Rattle.object_graph.specs.declared.parts.SiteKind.{SiteKind}
use Rattle.object_graph.specs.declared.parts.SiteKind.TheVariants.{Hi, LowI, LowS}
use Rattle.code_blocks.specs.Words.{pair_target}
use Rattle.code_blocks.specs.Leaders.{is_call_by}
use Rattle.code_blocks.proofs.PairLemmas.{pair_parts}
use Rattle.cell_values.specs.Objects.{object_of}
use Rattle.cell_values.specs.Origins.{Origin, ByLui, ByAuipc}
use Rattle.cell_values.specs.Stands.{Uppers, Is, address_word, moved_uppers}
use Rattle.object_machine.specs.Program.{Program, Target, target_at}
use Rattle.object_machine.specs.Step.{Reads}
use Rattle.simulation.specs.Setups.{Setup, Sound}
use Rattle.simulation.specs.Units.{Completes, StandsAt, StandsForSite, StandsFor, OneWordAt, PairAt}
use Rattle.simulation.specs.Rules.{UnitAt}
use Rattle.simulation.specs.Forms.{ActsAs}
use Rattle.simulation.proofs.Completes.{moved_completes}
use Rattle.result_laws.specs.HomeLaws.{IsAccepted, unnamed_in}
use Rattle.result_laws.proofs.Named.{auipc_by}
use Rattle.cell_values.proofs.GraphObjects.{object_moves}
use Rattle.result_laws.proofs.Sites.{site_of}
use Rattle.result_laws.proofs.HomeSound.{loadable}
use Rattle.result_laws.proofs.HomeUnits.{unit_home}
use Rattle.result_laws.proofs.Words.{code_below}
use Rattle.relocator.specs.SiteWords.{IsRewritten}
use Rattle.result_laws.proofs.CodeWords.{HasSiteWord}

-- ---- instructions at sites

upper_fits : (a : ℕ) → upper_half a * 4096 % 4294967296 ≡ upper_half a * 4096
upper_fits a = omega arith

no_jump : (part : SiteKind) (a rd rs1 : ℕ) (imm : ℤ) (j : Instr) → IsRewritten part a (Jalr rd rs1 imm) j → ⊥
no_jump Hi a rd rs1 imm j is = is
no_jump LowI a rd rs1 imm j is = is
no_jump LowS a rd rs1 imm j is = is

-- what is rewritten for the place stands for the instruction
module _ (p : Program) (l : Setup) (r u : ℕ) (t : Target) (sound : Sound p l r) (moved : l.upper r ≡ moved_uppers (l.place r)) where
  abbrev to_place : ℕ
  to_place = address_word (l.place r) t.object t.offset

  completes : Completes p l r u t (lower_half to_place)
  completes = moved_completes p l r u t (lower_half to_place) sound moved refl

  makes : (from : Origin) → Is (l.upper r from t.object t.offset) (upper_half to_place * 4096 % 4294967296)
  makes from =
      subst (λ (up : Uppers). Is (up from t.object t.offset) (upper_half to_place * 4096 % 4294967296)) (sym moved)
      (upper_fits to_place)

  stands_for : (part : SiteKind) (i j : Instr) → IsRewritten part to_place i j → StandsForSite p l r u t i j
  stands_for Hi (Lui rd n) j is = (upper_half to_place, (is, makes ByLui))
  stands_for Hi (Auipc rd n) j is = inr (upper_half to_place, (is, makes (ByAuipc u)))
  stands_for LowI (OpImm Addi rd rs1 n) j is = (refl, (lower_half to_place, (is, completes)))
  stands_for LowI (Load kind rd rs1 n) j is = (lower_half to_place, (is, completes))
  stands_for LowS (Store kind rs1 rs2 n) j is = (lower_half to_place, (is, completes))
  stands_for part i j is = absurd is

  -- wherever it stands
  pub acts_for : (arrive : ℕ → ℕ → Type 0) (a : ℕ) (part : SiteKind) (i j : Instr) → IsRewritten part to_place i j → ActsAs p l arrive r u a (Some t) i j
  acts_for arrive a Hi (Lui rd n) j is = stands_for Hi (Lui rd n) j is
  acts_for arrive a Hi (Auipc rd n) j is = inr (upper_half to_place, (is, makes (ByAuipc u)))
  acts_for arrive a LowI (OpImm Addi rd rs1 n) j is = stands_for LowI (OpImm Addi rd rs1 n) j is
  acts_for arrive a LowI (Load kind rd rs1 n) j is = stands_for LowI (Load kind rd rs1 n) j is
  acts_for arrive a LowS (Store kind rs1 rs2 n) j is = stands_for LowS (Store kind rs1 rs2 n) j is
  acts_for arrive a part i j is = absurd is

-- ---- the words of a call are no sites

-- no relocation of a call is at the AUIPC of a rewritable pair
no_call : (v : PlainView) (r : Reloc) → is_rewritable_pair v r ≡ true → any_below (is_call_at v r.at) (length v.relocs) ≡ false
no_call v r sound =
    let opcode = opcode_of (image_word v r.at) == 23 in
    let calls = any_below (is_call_at v r.at) (length v.relocs) in
    let high = u_high (image_word v r.at) == upper_half (distance v r) in
    let unpaired = any_below (is_unpaired v r) (length v.relocs) in
    let whole = both ((r.kind == 23) && is_code_word v r.at && opcode && not calls && high) (not unpaired) sound in
    let fourth = both ((r.kind == 23) && is_code_word v r.at && opcode && not calls) high whole.0 in
    not_true calls (both ((r.kind == 23) && is_code_word v r.at && opcode) (not calls) fourth.0).1

has_call : (v : PlainView) (u : ℕ) → any_below (is_call_by v u) (length v.relocs) ≡ true → any_below (is_call_at v u) (length v.relocs) ≡ true
has_call v u by =
    let found = any_found (is_call_by v u) (length v.relocs) by in
    let r = reloc_at v found.0 in
    any_at (is_call_at v u) (length v.relocs) found.0 found.1
    (both (counts v r && is_call_kind r.kind && (r.at == u)) (pair_target v u == target v r) found.2).0

none_of : (o : Option Target) → ((t : Target) → o ≡ Some t → ⊥) → o ≡ None
none_of None never = refl
none_of (Some t) never = absurd (never t refl)

-- ---- units at home

module _ (file : List ℕ) (board : Board) (g : Graph) (accepted : IsAccepted file board g) (w : PlainView) (l : Setup) (r : ℕ) (sound : Sound (unnamed_in file board g) l r) (moved : l.upper r ≡ moved_uppers (l.place r)) where
  abbrev v : PlainView
  v = view_in file

  abbrev p : Program
  p = unnamed_in file board g

  auipc_no_site : (u : ℕ) → any_below (is_call_by v u) (length v.relocs) ≡ true → opcode_of (image_word v u) ≡ 23 → target_at g.sites.items u ≡ None
  auipc_no_site u call opcode =
      none_of (target_at g.sites.items u)
      (λ t at.
      let site = site_of v g u t accepted.graph.sites at in
      let home : ℕ = (object_of g t.object).home in
      let n : ℕ = (object_of g t.object).size in
      let moves = object_moves v board g t.object accepted.graph.objects site.below in
      let high = auipc_by v board home n t.offset u moves opcode site.by in
      let none : any_below (is_call_at v u) (length v.relocs) ≡ false =
      subst (λ (x : ℕ). any_below (is_call_at v x) (length v.relocs) ≡ false) high.1.makes.at (no_call v (reloc_at v high.0) high.1.pair) in
      both_ways _ none (has_call v u call))

  -- what is known of the word of code at an address: it stands still, and is the file's own or the one of the site
  pub record IsLaid (u : ℕ) : Type 0 where
    pub stands : (x : ℕ) → image_word w u ≡ x → StandsAt l r u x
    pub same : target_at g.sites.items u ≡ None → image_word w u ≡ image_word v u
    pub site : (t : Target) → target_at g.sites.items u ≡ Some t → HasSiteWord v w (l.place r) u t

  jalr_no_site : (u rd rs1 : ℕ) (imm : ℤ) → IsLaid u → Means (image_word v u) (Jalr rd rs1 imm) → target_at g.sites.items u ≡ None
  jalr_no_site u rd rs1 imm laid means =
      none_of (target_at g.sites.items u)
      (λ t at.
      let there = laid.site t at in
      let same = same_instruction (image_word v u) there.1.from (Jalr rd rs1 imm) there.1.old_means means in
      no_jump there.0 (address_word (l.place r) t.object t.offset) rd rs1 imm there.1.to
      (subst (λ (i : Instr). IsRewritten there.0 (address_word (l.place r) t.object t.offset) i there.1.to) same there.1.rewritten))

  by_target : (u : ℕ) → is_code_word v u ≡ true → IsLaid u → p.is_pair u ≡ false → (o : Option Target) → target_at g.sites.items u ≡ o → (read : Option Instr) → Reads (p.word u) read → OneWordAt p l r u read
  by_target u code laid single None at None reads = (image_word v u, (laid.stands (image_word v u) (laid.same at), reads))
  by_target u code laid single None at (Some i) means =
      let home = (unit_home file board g accepted u code).one (Some i) single means in (
        image_word v u,
        (
          i,
          (
            laid.stands (image_word v u) (laid.same at),
            (means, (home.1.1.1.1.0, subst (λ (o : Option Target). StandsFor p l r u o i i) (sym at) refl)),
          ),
        ),
      )
  by_target u code laid single (Some t) at None reads =
      let there = laid.site t at in
      absurd (reads there.1.from there.1.old_means)
  by_target u code laid single (Some t) at (Some i) means =
      let home = (unit_home file board g accepted u code).one (Some i) single means in
      let there = laid.site t at in
      let same = same_instruction (image_word v u) there.1.from i there.1.old_means means in
      let rewritten : IsRewritten there.0 (address_word (l.place r) t.object t.offset) i there.1.to =
      subst (λ (k : Instr). IsRewritten there.0 (address_word (l.place r) t.object t.offset) k there.1.to) same there.1.rewritten in
      let for : StandsForSite p l r u t i there.1.to =
      stands_for p l r u t sound moved there.0 i there.1.to rewritten in (
        image_word w u,
        (
          there.1.to,
          (
            laid.stands (image_word w u) refl,
            (
              there.1.new_means,
              (home.1.1.1.1.0, subst (λ (o : Option Target). StandsFor p l r u o i there.1.to) (sym at) for),
            ),
          ),
        ),
      )

  pair_laid : (u : ℕ) → is_code_word v u ≡ true → IsLaid u → p.is_pair u ≡ true → IsLaid (u + 4) → PairAt p l r u
  pair_laid u code laid pair behind =
      let home = (unit_home file board g accepted u code).pair pair in
      let parts = pair_parts v u pair in
      let opcode : opcode_of (image_word v u) ≡ 23 =
      subst (λ (x : ℕ). opcode_of x ≡ 23) (sym home.word) home.auipc.0 in
      let jalr : Means (image_word v (u + 4)) (Jalr home.link home.base home.lower) =
      subst (λ (x : ℕ). Means x (Jalr home.link home.base home.lower)) (sym home.word_behind) home.jalr in
      let first = laid.same (auipc_no_site u parts.reloc opcode) in
      let second = behind.same (jalr_no_site (u + 4) home.link home.base home.lower behind jalr) in
      record {
        first = home.first;
        second = home.second;
        base = home.base;
        upper = home.upper;
        link = home.link;
        lower = home.lower;
        stands = laid.stands home.first (first ∙ home.word);
        stands_behind = behind.stands home.second (second ∙ home.word_behind);
        auipc = home.auipc;
        jalr = home.jalr;
        word = home.word;
        word_behind = home.word_behind;
        based = home.based;
        linked = home.linked;
        goes = home.goes;
        even = home.even;
        below = home.below;
      }

  -- a unit stands at home where its words do
  pub unit_laid : (u : ℕ) → is_code_word v u ≡ true → IsLaid u → (p.is_pair u ≡ true → IsLaid (u + 4)) → UnitAt p l r u
  unit_laid u code laid behind =
      record {
        one = λ read single reads. by_target u code laid single (target_at g.sites.items u) refl read reads;
        pair = λ pair. pair_laid u code laid pair (behind pair);
        below = code_below v u (loadable file board g accepted) code;
      }
