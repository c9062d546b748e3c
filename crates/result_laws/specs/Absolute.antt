-- Files whose code makes the addresses of symbols by absolute relocations alone: their runs are paired.
use Rattle.std.specs.Prelude.{◌≡◌, ◌⊎◌, ℕ, ◌<◌, true, List, length}
use Rattle.elf_reader.specs.File.{PlainView}
use Rattle.board_config.specs.declared.board.Board.{Board}
use Rattle.loaded_file.specs.Records.{reloc_at, counts}
use Rattle.object_graph.specs.Rewritable.{is_pair_low}
use Rattle.object_graph.specs.Graphs.{IsGraph}
use Rattle.object_graph.specs.declared.parts.Graph.{Graph}
use Rattle.object_machine.specs.Program.{program_of}
use Rattle.object_machine.specs.State.{SourceState}
use Rattle.object_machine.specs.Start.{start_of}
use Rattle.object_machine.specs.Runs.{Steps}
use Rattle.object_machine.specs.Paired.{at_start, PairedSteps}

-- No relocation that counts is a PCREL_HI20 (23), so each upper part of an address is that of a LUI. And no word that
-- has an absolute low part, LO12_I or LO12_S (27, 28), has a PCREL_LO12_I or PCREL_LO12_S (24, 25) too: a low part that
-- names an upper part of another kind, such as that of a table of addresses (GOT_HI20), is of a word of its own.
pub record IsAbsolute (v : PlainView) : Type 0 where
  pub highs : (i : ℕ) → i < length v.relocs → counts v (reloc_at v i) ≡ true → (reloc_at v i).kind ≡ 23 → ⊥
  pub lows : (i j : ℕ) → i < length v.relocs → j < length v.relocs → counts v (reloc_at v i) ≡ true → counts v (reloc_at v j) ≡ true
      → ((reloc_at v i).kind ≡ 27) ⊎ ((reloc_at v i).kind ≡ 28) → is_pair_low (reloc_at v j).kind ≡ true
      → (reloc_at v i).at ≡ (reloc_at v j).at → ⊥

-- every run of such a file is paired. Which of its relocations make addresses of objects that may move, its graph tells
abbrev pub AbsoluteRunsArePaired : Type 0
AbsoluteRunsArePaired =
    (v : PlainView) (board : Board) (g : Graph) (input : List ℕ) (n : ℕ) (s : SourceState)
    → IsGraph v board g → IsAbsolute v → Steps (program_of v board g) n (start_of v (program_of v board g) g input) s
    → PairedSteps (program_of v board g) n (start_of v (program_of v board g) g input) at_start s
