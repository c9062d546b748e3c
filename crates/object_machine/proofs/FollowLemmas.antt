-- The units of a block follow one another: inside it each leads to the next word, and behind the last one another block
-- begins where the machine falls there.
use Rattle.std.proofs.Common.{◌≡◌, ◌∙◌, ◌⊎◌, inl, inr, ℕ, zero, suc, ◌+◌, ◌*◌, ◌<◌, ◌≤◌, nat_lt, Bool, true, false, not, ◌&&◌, ◌||◌, if◌then◌else◌, List, [], ◌∷◌, length, Option, Some, None, MatchOption, refl, ap, subst, arith}
use Rattle.std.proofs.lemmas.Bool.Decides.{nat_tests}
use Rattle.rv32im.specs.Table.{Means, MeansNothing, OneInstruction}
use Rattle.rv32im.specs.declared.instructions.Instr.{Instr}
use Rattle.rv32im.specs.declared.instructions.Instr.TheVariants.{Lui, Auipc, Jal, Jalr, Branch, Load, Store, OpImm, OpReg, Fence, FenceI, Ecall, Ebreak}
use Rattle.rv32im.specs.declared.instructions.BranchKind.TheVariants.{Beq, Bne, Blt, Bge, Bltu, Bgeu}
use Rattle.elf_reader.specs.File.{PlainView}
use Rattle.board_config.specs.declared.board.Board.{Board}
use Rattle.loaded_file.specs.Code.{is_code_word, image_word}
use Rattle.object_graph.specs.declared.parts.Graph.{Graph}
use Rattle.code_blocks.specs.Words.{is_branch, is_jal, is_jalr}
use Rattle.code_blocks.specs.Meanings.{is_ebreak, has_meaning}
use Rattle.code_blocks.specs.Leaders.{is_call_pair, is_leader}
use Rattle.code_blocks.proofs.MeaningLemmas.{passes_test, row_of}
use Rattle.code_blocks.specs.Ends.{words_left}
use Rattle.code_blocks.specs.Blocks.{goes_on, unit_addresses, IsUnit, IsBlock}
use Rattle.code_blocks.specs.declared.parts.Unit.{Unit}
use Rattle.code_blocks.specs.declared.parts.Block.{Block}
use Rattle.code_blocks.specs.declared.parts.Function.{Function}
use Rattle.object_machine.specs.declared.events.Outcome.TheVariants.{GoesOn}
use Rattle.object_machine.specs.Program.{Program, program_of, falls_from}
use Rattle.object_machine.specs.State.{SourceState}
use Rattle.object_machine.specs.Step.{Reads}
use Rattle.object_machine.specs.Units.{leads_on}
use Rattle.object_machine.proofs.ChainLemmas.{chain, is_chain}
use Rattle.object_machine.proofs.MeaningLemmas.{LeadsOn, leads_further}
use Rattle.object_machine.proofs.RangeLemmas.{HasRanges}
use Rattle.object_machine.proofs.BlockLemmas.{IsNth, nth_unit, unit_count}
use Rattle.object_machine.proofs.LeadLemmas.{Leads, leads_read, straight, not_ended}

-- ---- units that lead to the next word

-- a unit that isn't the last of a chain passes its test
on_after : (rest : List ℕ) (go : ℕ → Bool) (a k : ℕ) (b : Bool) → (suc k < length rest → go ((a + 4) + 4 * k) ≡ true) → suc (suc k) < length (a ∷ (if b then rest else [])) → go (a + 4 * suc k) ≡ true
on_after rest go a k true on more =
    let e : (a + 4) + 4 * k ≡ a + 4 * suc k = omega arith in subst (λ (x : ℕ). go x ≡ true) e (on (omega (arith, more)))
on_after rest go a k false on more = absurd (omega (arith, more))

first_on : (rest : List ℕ) (a : ℕ) (b : Bool) → 1 < length (a ∷ (if b then rest else [])) → b ≡ true
first_on rest a true more = refl
first_on rest a false more = absurd (omega (arith, more))

chain_on : (go : ℕ → Bool) (a n k : ℕ) → suc k < length (chain go a n) → go (a + 4 * k) ≡ true
chain_on go a zero k more = absurd (omega (arith, more))
chain_on go a (suc n) zero more =
    let e : a ≡ a + 4 * 0 = omega arith in
    subst (λ (x : ℕ). go x ≡ true) e (first_on (chain go (a + 4) n) a (go a) more)
chain_on go a (suc n) (suc k) more = on_after (chain go (a + 4) n) go a k (go a) (chain_on go (a + 4) n k) more

-- ---- the parts of the test whether a block goes on

pub record GoesFurther (v : PlainView) (a : ℕ) : Type 0 where
  pub means : has_meaning (image_word v a) ≡ true
  pub pair : is_call_pair v a ≡ false
  pub branch : is_branch (image_word v a) ≡ false
  pub jal : is_jal (image_word v a) ≡ false
  pub jalr : is_jalr (image_word v a) ≡ false
  pub ebreak : is_ebreak (image_word v a) ≡ false
  pub behind : is_leader v (a + 4) ≡ false

abbrev Five : Bool → Bool → Bool → Bool → Bool → Type 0
Five p b j k e = (p ≡ false) × (b ≡ false) × (j ≡ false) × (k ≡ false) × (e ≡ false)

five : (p b j k e : Bool) → not (p || b || j || k || e) ≡ true → Five p b j k e
five false false false false false is = (refl, refl, refl, refl, refl)
five false false false false true is = cc
five false false false true e is = cc
five false false true k e is = cc
five false true j k e is = cc
five true b j k e is = cc

three : (m f l : Bool) → m && f && not l ≡ true → (m ≡ true) × (f ≡ true) × (l ≡ false)
three true true false is = (refl, refl, refl)
three true true true is = cc
three true false l is = cc
three false f l is = cc

pub goes_further : (v : PlainView) (a : ℕ) → goes_on v a ≡ true → GoesFurther v a
goes_further v a on =
    let w = image_word v a in
    let (means, free, behind) = three (has_meaning w) (not (is_call_pair v a || is_branch w || is_jal w || is_jalr w || is_ebreak w)) (is_leader v (a + 4)) on in
    let (pair, branch, jal, jalr, ebreak) = five (is_call_pair v a) (is_branch w) (is_jal w) (is_jalr w) (is_ebreak w) free in
    record { means = means; pair = pair; branch = branch; jal = jal; jalr = jalr; ebreak = ebreak; behind = behind }

-- and back
all_five : (m p b j k e l : Bool) → m ≡ true → p ≡ false → b ≡ false → j ≡ false → k ≡ false → e ≡ false → l ≡ false → m && not (p || b || j || k || e) && not l ≡ true
all_five m p b j k e l is_m is_p is_b is_j is_k is_e is_l = rw (is_m, is_p, is_b, is_j, is_k, is_e, is_l) refl

-- ---- what a word of a unit that leads on is

pub is_true_false : (b : Bool) → b ≡ true → b ≡ false → ⊥
is_true_false b first second = cc

leads_free : (w : ℕ) (i : Instr) → Means w i → is_branch w ≡ false → is_jal w ≡ false → is_jalr w ≡ false → is_ebreak w ≡ false → leads_on i ≡ true
leads_free w (Lui rd imm) m b j k e = refl
leads_free w (Auipc rd imm) m b j k e = refl
leads_free w (Jal rd off) m b j k e = absurd (is_true_false (is_jal w) (rw (m.0) refl) j)
leads_free w (Jalr rd rs1 imm) m b j k e = absurd (is_true_false (is_jalr w) (rw (m.0, m.1) refl) k)
leads_free w (Branch Beq rs1 rs2 off) m b j k e = absurd (is_true_false (is_branch w) (rw (m.0, m.1) refl) b)
leads_free w (Branch Bne rs1 rs2 off) m b j k e = absurd (is_true_false (is_branch w) (rw (m.0, m.1) refl) b)
leads_free w (Branch Blt rs1 rs2 off) m b j k e = absurd (is_true_false (is_branch w) (rw (m.0, m.1) refl) b)
leads_free w (Branch Bge rs1 rs2 off) m b j k e = absurd (is_true_false (is_branch w) (rw (m.0, m.1) refl) b)
leads_free w (Branch Bltu rs1 rs2 off) m b j k e = absurd (is_true_false (is_branch w) (rw (m.0, m.1) refl) b)
leads_free w (Branch Bgeu rs1 rs2 off) m b j k e = absurd (is_true_false (is_branch w) (rw (m.0, m.1) refl) b)
leads_free w (Load kind rd rs1 imm) m b j k e = refl
leads_free w (Store kind rs1 rs2 imm) m b j k e = refl
leads_free w (OpImm kind rd rs1 imm) m b j k e = refl
leads_free w (OpReg kind rd rs1 rs2) m b j k e = refl
leads_free w (Fence bits) m b j k e = refl
leads_free w (FenceI bits) m b j k e = refl
leads_free w Ecall m b j k e = refl
leads_free w Ebreak m b j k e = absurd (is_true_false (is_ebreak w) (rw m refl) e)

read_free : (w : ℕ) (read : Option Instr) → Reads w read → has_meaning w ≡ true → is_branch w ≡ false → is_jal w ≡ false → is_jalr w ≡ false → is_ebreak w ≡ false → leads_read read ≡ true
read_free w None reads means b j k e = let (i, m) = row_of w means in absurd (reads i m)
read_free w (Some i) reads means b j k e = leads_free w i reads b j k e

-- a unit that goes on inside its block leads to the next word
pub straight_on : (v : PlainView) (board : Board) (g : Graph) (a : ℕ) (read : Option Instr) → Reads (image_word v a) read → goes_on v a ≡ true → straight (program_of v board g) a read ≡ true
straight_on v board g a read reads on =
    let f = goes_further v a on in
    let free = read_free (image_word v a) read reads f.means f.branch f.jal f.jalr f.ebreak in
    rw (f.pair) free

pub straight_parts : (pair leads : Bool) → (if pair then false else leads) ≡ true → (pair ≡ false) × (leads ≡ true)
straight_parts true leads is = cc
straight_parts false leads is = (refl, is)

pub read_leads : (w : ℕ) (read : Option Instr) → Reads w read → leads_read read ≡ true → LeadsOn w × (has_meaning w ≡ true)
read_leads w None reads leads = cc
read_leads w (Some i) reads leads = (leads_further w i reads leads, passes_test w i reads)

pub cases_bool : (b : Bool) → (b ≡ true) ⊎ (b ≡ false)
cases_bool true = inl refl
cases_bool false = inr refl

-- one that leads to the next word, but not inside its block, leads to another block
block_behind : (v : PlainView) (board : Board) (g : Graph) (a : ℕ) (read : Option Instr) → Reads (image_word v a) read → straight (program_of v board g) a read ≡ true → goes_on v a ≡ false → is_leader v (a + 4) ≡ true
block_behind v board g a read reads leads stops =
    let (pair, on) = straight_parts (is_call_pair v a) (leads_read read) leads in
    let (free, means) = read_leads (image_word v a) read reads on in
    elim (cases_bool (is_leader v (a + 4))) [
      | inl is ↦ is
      | inr none ↦
          let w = image_word v a in
          absurd (is_true_false (goes_on v a) (all_five (has_meaning w) (is_call_pair v a) (is_branch w) (is_jal w) (is_jalr w) (is_ebreak w) (is_leader v (a + 4)) means pair free.branch free.jal free.jalr free.ebreak none) stops)
    ]

-- ---- the units of a block

-- inside a block a unit goes on
pub goes_inside : (v : PlainView) (b : Block) (functions : List Function) (k : ℕ) → IsBlock v functions b → suc k < length b.units.items → goes_on v (b.start + 4 * k) ≡ true
goes_inside v b functions k block more =
    let count = unit_count v b functions block in
    let same = ap length (is_chain v b.start (words_left v b.start)) in
    chain_on (goes_on v) b.start (words_left v b.start) k (omega (arith, more, count, same))

falls_to : (leads : Bool) (n : ℕ) → n ≡ 1 → leads || nat_lt 1 n ≡ true → leads ≡ true
falls_to true n one falls = refl
falls_to false n one falls = let over : 1 < n = grind (arith, nat_tests, falls) in absurd (omega (arith, one, over))

-- behind the last unit of a block another one begins, where the machine falls there
pub falls_behind : (v : PlainView) (board : Board) (g : Graph) (a k count : ℕ) (read : Option Instr) → IsNth v a k count → suc k ≡ count → Reads (image_word v a) read → straight (program_of v board g) a read ≡ true → falls_from v a ≡ true → is_leader v (a + 4) ≡ true
falls_behind v board g a k count read nth last reads leads falls =
    elim (nth.last last) [
      | inl one ↦ let left = nth.is in falls_to (is_leader v (a + 4)) (words_left v a) (left ∙ one) falls
      | inr stops ↦ block_behind v board g a read reads leads stops
    ]

pub falls_out : (v : PlainView) (board : Board) (g : Graph) (b : Block) (functions : List Function) (k : ℕ) (read : Option Instr) → HasRanges v → is_code_word v b.start ≡ true → IsBlock v functions b → suc k ≡ length b.units.items → Reads (image_word v (b.start + 4 * k)) read → straight (program_of v board g) (b.start + 4 * k) read ≡ true → falls_from v (b.start + 4 * k) ≡ true → is_leader v ((b.start + 4 * k) + 4) ≡ true
falls_out v board g b functions k read ranges code block last reads leads falls =
    let count = unit_count v b functions block in
    falls_behind v board g (b.start + 4 * k) k (length (unit_addresses v b.start (words_left v b.start))) read
    (nth_unit v b.start k ranges code (omega (arith, count, last))) (last ∙ count) reads leads falls

-- ---- where a step leads that goes on

pub leads_next : (p : Program) (s t : SourceState) (l : Bool) → l ≡ true → t.outcome ≡ GoesOn → Leads l p s t → (t.pc ≡ s.pc + 4) × (p.falls s.pc ≡ true)
leads_next p s t true is going (inl ended) = absurd (not_ended t.outcome going ended)
leads_next p s t true is going (inr way) = way
leads_next p s t false is going way = cc

pub leads_block : (p : Program) (s t : SourceState) (l : Bool) → l ≡ false → t.outcome ≡ GoesOn → Leads l p s t → p.is_block t.pc ≡ true
leads_block p s t true is going way = cc
leads_block p s t false is going (inl ended) = absurd (not_ended t.outcome going ended)
leads_block p s t false is going (inr way) = way

-- ---- the unit of a transition means what its step read

reads_of : (w : ℕ) (o : Option Instr) → MatchOption o (MeansNothing w) (Means w) → Reads w o
reads_of w None m = m
reads_of w (Some i) m = m

one_reading : OneInstruction → (w : ℕ) (q r : Option Instr) → Reads w q → Reads w r → q ≡ r
one_reading one w None None a b = refl
one_reading one w None (Some j) a b = absurd (a j b)
one_reading one w (Some i) None a b = absurd (b i a)
one_reading one w (Some i) (Some j) a b = ap Some (one w i j a b)

pub unit_reads : OneInstruction → (v : PlainView) (u : Unit) (a : ℕ) (read : Option Instr) → IsUnit v u → u.at ≡ a → Reads (image_word v a) read → u.instr ≡ read
unit_reads one v u a read unit at reads =
    let raw : u.raw ≡ image_word v a = unit.raw ∙ ap (image_word v) at in
    one_reading one (image_word v a) u.instr read
    (reads_of (image_word v a) u.instr (subst (λ w. MatchOption u.instr (MeansNothing w) (Means w)) raw unit.instr)) reads

few_words : (pair : Bool) (n : ℕ) → n ≡ (if pair then 2 else 1) → n ≤ 2
few_words true n is = omega (arith, is)
few_words false n is = omega (arith, is)

pub unit_words : (v : PlainView) (u : Unit) → IsUnit v u → u.words ≤ 2
unit_words v u unit = few_words (is_call_pair v u.at) u.words unit.words

-- a block has few units, since each has an address
