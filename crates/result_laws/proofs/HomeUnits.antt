-- Each unit stands at its home, with its own word.
use Rattle.std.proofs.Common.{◌≡◌, ◌⊎◌, inl, inr, ℕ, ◌+◌, ◌*◌, ◌<◌, ◌==◌, true, ◌&&◌, ◌||◌, List, Option, Some, None, refl, sym, ap, subst, arith}
use Rattle.std.proofs.lemmas.Bool.{eqb-true, ltb-true}
use Rattle.rv32im.specs.Words.{plus, offset}
use Rattle.list_checks.proofs.TestLemmas.{either, both}
use Rattle.rv32im.specs.Fields.{opcode_of, rd_of, funct3_of, rs1_of, u_immediate, i_immediate}
use Rattle.rv32im.specs.Table.{Means}
use Rattle.rv32im.specs.declared.instructions.Instr.{Instr}
use Rattle.rv32im.specs.declared.instructions.Instr.TheVariants.{Auipc, Jalr}
use Rattle.rv32im.proofs.Meaning.{same_instruction}
use Rattle.rv32im.proofs.Meaning.{in_range}
use Rattle.elf_reader.specs.File.{PlainView, view_in}
use Rattle.board_config.specs.declared.board.Board.{Board}
use Rattle.loaded_file.specs.Code.{is_code_word, image_word}
use Rattle.object_graph.specs.declared.parts.Graph.{Graph}
use Rattle.code_blocks.specs.Words.{is_jalr, is_auipc, links, pair_target}
use Rattle.code_blocks.proofs.PairLemmas.{pair_parts}
use Rattle.object_machine.specs.Program.{Program, Target}
use Rattle.object_machine.specs.Step.{Reads}
use Rattle.object_machine.specs.Paired.{at_start}
use Rattle.simulation.specs.Setups.{Setup}
use Rattle.simulation.specs.Units.{StandsAt, StandsForSite, StandsFor, OneWordAt, PairAt}
use Rattle.simulation.specs.Rules.{UnitAt}
use Rattle.simulation.proofs.AtHome.{made_at_start, runs_at_home}
use Rattle.result_laws.specs.HomeLaws.{IsAccepted, program_in, setup_in, source_start, file_start, UnitsAreHome, FileKeeps}
use Rattle.result_laws.proofs.Words.{code_even, code_below, stands_home, unit_is_code}
use Rattle.result_laws.proofs.HomeSound.{loadable, sound_home}
use Rattle.result_laws.proofs.HomeStart.{alike_at_start, entry_unit}
use Rattle.result_laws.proofs.Making.{site_made}

-- the two words of a call
pub record IsCall (first second : ℕ) : Type 0 where
  pub auipc : Means first (Auipc (rd_of first) (u_immediate first))
  pub jalr : Means second (Jalr (rd_of second) (rd_of first) (i_immediate second))
  pub based : 0 < rd_of first
  pub linked : (rd_of second ≡ rd_of first) ⊎ (rd_of second ≡ 0)

pub call_words : (first second : ℕ) → is_auipc first && is_jalr second && links first && (rs1_of second == rd_of first) && ((rd_of second == rd_of first) || (rd_of second == 0)) ≡ true → IsCall first second
call_words first second words =
    let base = rs1_of second == rd_of first in
    let link = (rd_of second == rd_of first) || (rd_of second == 0) in
    let four = both (is_auipc first && is_jalr second && links first && base) link words in
    let three = both (is_auipc first && is_jalr second && links first) base four.0 in
    let two = both (is_auipc first && is_jalr second) (links first) three.0 in
    let one = both (is_auipc first) (is_jalr second) two.0 in
    let jalr = both (opcode_of second == 103) (funct3_of second == 0) one.1 in
    record {
      auipc = (eqb-true (opcode_of first) 23 one.0, refl, refl);
      jalr =
          (eqb-true (opcode_of second) 103 jalr.0, eqb-true (funct3_of second) 0 jalr.1, refl, sym (eqb-true (rs1_of second) (rd_of first) three.1), refl);
      based = ltb-true 0 (rd_of first) two.1;
      linked = elim (either (rd_of second == rd_of first) (rd_of second == 0) four.1) [
        | inl same ↦ inl (eqb-true (rd_of second) (rd_of first) same)
        | inr none ↦ inr (eqb-true (rd_of second) 0 none)
      ];
    }

turned : (a b : ℕ) → plus a (b * 4096) ≡ plus a (4096 * b)
turned a b = omega arith

module _ (file : List ℕ) (board : Board) (g : Graph) (accepted : IsAccepted file board g) where
  abbrev v : PlainView
  v = view_in file

  abbrev p : Program
  p = program_in file board g

  abbrev l : Setup
  l = setup_in file board g

  stands : (u : ℕ) → is_code_word v u ≡ true → StandsAt l 0 u (image_word v u)
  stands u code = stands_home v board g 0 u accepted.layout (loadable file board g accepted) code

  -- an instruction of the file stands for itself
  itself : (u : ℕ) (i : Instr) → Means (image_word v u) i → (site : Option Target) → p.site u ≡ site → StandsFor p l 0 u site i i
  itself u i means None at = refl
  itself u i means (Some t) at =
      let made = site_made file board g accepted u t at in
      let same : made.0 ≡ i = same_instruction (image_word v u) made.0 i made.1.0 means in
      subst (λ (k : Instr). StandsForSite p l 0 u t k k) same made.1.1

  one_home : (u : ℕ) → is_code_word v u ≡ true → (read : Option Instr) → Reads (p.word u) read → OneWordAt p l 0 u read
  one_home u code None reads = (image_word v u, (stands u code, reads))
  one_home u code (Some i) means =
      (image_word v u, (i, (stands u code, (means, (in_range (image_word v u) i means, itself u i means (p.site u) refl)))))

  pair_home : (u : ℕ) → p.is_pair u ≡ true → PairAt p l 0 u
  pair_home u pair =
      let parts = pair_parts v u pair in
      let words = call_words (image_word v u) (image_word v (u + 4)) parts.words in
      let even = code_even v (pair_target v u) parts.goes in
      let ends = code_below v (u + 4) (loadable file board g accepted) parts.behind in
      record {
        first = image_word v u;
        second = image_word v (u + 4);
        base = rd_of (image_word v u);
        upper = u_immediate (image_word v u);
        link = rd_of (image_word v (u + 4));
        lower = i_immediate (image_word v (u + 4));
        stands = stands u parts.code;
        stands_behind = stands (u + 4) parts.behind;
        auipc = words.auipc;
        jalr = words.jalr;
        word = refl;
        word_behind = refl;
        based = words.based;
        linked = words.linked;
        goes = ap (λ (a : ℕ). offset a (i_immediate (image_word v (u + 4)))) (turned u (u_immediate (image_word v u)));
        even = omega (arith, even);
        below = omega (arith, ends);
      }

  pub unit_home : (u : ℕ) → is_code_word v u ≡ true → UnitAt p l 0 u
  unit_home u code =
      record {
        one = λ read single reads. one_home u code read reads;
        pair = λ pair. pair_home u pair;
        below = code_below v u (loadable file board g accepted) code;
      }

pub units_are_home : UnitsAreHome
units_are_home file board g accepted u unit =
    unit_home file board g accepted u (unit_is_code (view_in file) board g u unit)

pub file_keeps : FileKeeps
file_keeps file board g input n s accepted bytes steps =
    runs_at_home (program_in file board g) (setup_in file board g) 0 n (source_start file board g input) s at_start (file_start file board input)
    (sound_home file board g accepted) (units_are_home file board g accepted) (entry_unit file board g accepted)
    (alike_at_start file board g accepted input bytes) (made_at_start (view_in file) (program_in file board g) g input) refl steps
