-- Where a unit leads: `s` is the state before it, and `t` the one that it leaves but for the pc. Where it
-- leads to no block (reason 6), nothing of the step happens.
use Rattle.std.specs.Prelude.{ℕ, ◌+◌, ◌*◌, ◌/◌, nat_lt, Bool, true, false, if◌then◌else◌, Option, Some, None, ℤ}
use Rattle.rv32im.specs.Words.{offset}
use Rattle.rv32im.specs.Fields.{rd_of}
use Rattle.rv32im.specs.declared.instructions.BranchKind.{BranchKind}
use Rattle.rv32im.specs.declared.instructions.ImmKind.TheVariants.{Addi}
use Rattle.cell_values.specs.Operations.{op_imm}
use Rattle.cell_values.specs.declared.values.Val.{Val}
use Rattle.cell_values.specs.declared.values.Val.TheVariants.{Int, Unknown}
use Rattle.object_machine.specs.Program.{Program}
use Rattle.object_machine.specs.State.{SourceState, value, wrote, faulted}

-- to the next word
abbrev pub falls_on : Program → SourceState → SourceState → SourceState
falls_on p s t = if p.falls s.pc then record t { pc = s.pc + 4 } else faulted s 6

-- to a block, and by a register to one that it may reach
abbrev pub jumps : Program → SourceState → ℕ → SourceState → SourceState
jumps p s a t = if p.is_block a then record t { pc = a } else faulted s 6

abbrev pub jumps_by : Program → SourceState → Val → SourceState → SourceState
jumps_by p s (Int a) t = if p.is_reached (a / 2 * 2) then record t { pc = a / 2 * 2 } else faulted s 6
jumps_by p s x t = faulted s 6

-- a branch, by what is known of it (reason 7 where nothing is)
abbrev pub branches : Program → SourceState → ℤ → Option Bool → SourceState
branches p s off (Some true) = jumps p s (offset s.pc off) s
branches p s off (Some false) = jumps p s (s.pc + 4) s
branches p s off None = faulted s 7

-- a call of two words: an AUIPC and a JALR, whose register holds the way back, or nothing known where the
-- JALR doesn't link
abbrev pub pair_link : Program → SourceState → Val
pair_link p s = if nat_lt 0 (rd_of (p.word (s.pc + 4))) then Int (s.pc + 8) else Unknown

abbrev pub calls_pair : Program → SourceState → SourceState
calls_pair p s = jumps p s (p.goes s.pc) (wrote s (rd_of (p.word s.pc)) (pair_link p s))
