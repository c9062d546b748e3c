-- The values that a register file holds.
use Rattle.std.specs.Prelude.{ℕ, true, if◌then◌else◌, slice_index, slice_index_or}
use Rattle.cell_values.specs.declared.values.Val.{Val}
use Rattle.cell_values.specs.declared.values.Val.TheVariants.{Int}
use Rattle.object_machine.specs.declared.register_file.RegisterFile.{RegisterFile}

abbrev pub registers_of : RegisterFile → ℕ → Val
registers_of r k = if slice_index_or r.numeric k true then Int (slice_index r.numbers k) else slice_index_or r.values k (Int 0)
