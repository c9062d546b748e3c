-- What holds of all leaders, and of the test for a meaning.
use Rattle.std.specs.Prelude.{◌≡◌, ℕ, ◌+◌, ◌<◌, true, false}
use Rattle.rv32im.specs.Table.{Means, MeansNothing}
use Rattle.rv32im.specs.declared.instructions.Instr.{Instr}
use Rattle.elf_reader.specs.File.{PlainView}
use Rattle.loaded_file.specs.Code.{is_code_word}
use Rattle.code_blocks.specs.Meanings.{has_meaning}
use Rattle.code_blocks.specs.Leaders.{is_call_pair, is_leader, is_indirect}

-- they are words of code
abbrev pub LeadersAreCode : Type 0
LeadersAreCode = (v : PlainView) (a : ℕ) → is_leader v a ≡ true → is_code_word v a ≡ true

-- those that a jump to an address in a register may reach are among them
abbrev pub IndirectLeadersAreLeaders : Type 0
IndirectLeadersAreLeaders = (v : PlainView) (a : ℕ) → is_indirect v a ≡ true → is_leader v a ≡ true

-- a word that passes the test means an instruction, and one that fails it means nothing
abbrev pub MeaningIsDecided : Type 0
MeaningIsDecided =
    (w : ℕ) → w < 4294967296
    → (has_meaning w ≡ true → (i : Instr) × Means w i) × (has_meaning w ≡ false → MeansNothing w)

-- both words of a call pair are code, and no block begins on the second
abbrev pub PairsAreCode : Type 0
PairsAreCode =
    (v : PlainView) (p : ℕ)
    → is_call_pair v p ≡ true
    → (is_code_word v p ≡ true) × (is_code_word v (p + 4) ≡ true) × (is_leader v (p + 4) ≡ false)
