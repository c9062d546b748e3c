-- The calls of the environment: ECALL with the number in a7 and the arguments in a0 to a2
-- (RISC-V psABI, "Integer Register Convention"; the numbers and the error are those of Linux).
use Rattle.std.specs.Prelude.{ℕ, ◌%◌, ◌==◌, if◌then◌else◌, min, length, take, drop, ◌++◌}
use Rattle.rv32im.specs.Memory.{bytes_at, put_bytes}
use Rattle.rv32im.specs.Acts.{register, after_write}
use Rattle.flat_machine.specs.declared.events.FlatOutcome.TheVariants.{Exited}
use Rattle.flat_machine.specs.Mapping.{can_move}
use Rattle.flat_machine.specs.State.{State, trap}

-- x10, x11, x12 and x17
abbrev pub a0 : State → ℕ
a0 s = register s.hart.regs 10

abbrev pub a1 : State → ℕ
a1 s = register s.hart.regs 11

abbrev pub a2 : State → ℕ
a2 s = register s.hart.regs 12

abbrev pub a7 : State → ℕ
a7 s = register s.hart.regs 17

-- the call answers `value` in a0, and the program goes on at the next word
abbrev pub answered : State → ℕ → State
answered s value = record s { hart = after_write s.hart 10 value }

-- exit: with the low eight bits of a0
abbrev pub exited : State → State
exited s = record s { outcome = Exited (a0 s % 256) }

-- write: the a2 bytes at a1 are appended to the output, and a2 is the answer
abbrev pub written : State → State
written s =
    if can_move s.map (a1 s) (a2 s)
    then record (answered s (a2 s)) { output = s.output ++ bytes_at s.hart.mem (a1 s) (a2 s) }
    else trap s

-- read: the next bytes of the input, at most a2, are put at a1, and their number is the answer
abbrev pub read_count : State → ℕ
read_count s = min (a2 s) (length s.input)

abbrev pub with_read_bytes : State → State
with_read_bytes s =
    record s {
      hart = record s.hart { mem = put_bytes s.hart.mem (a1 s) (take (read_count s) s.input) };
      input = drop (read_count s) s.input;
    }

abbrev pub read : State → State
read s =
    if can_move s.map (a1 s) (read_count s)
    then answered (with_read_bytes s) (read_count s)
    else trap s

-- what a call does: 93 exit, 64 write, 63 read; to any other number the answer is -38,
-- "not implemented"
abbrev pub call : State → State
call s =
    if a7 s == 93 then exited s
    else (if a7 s == 64 then written s else (if a7 s == 63 then read s else answered s 4294967258))
