-- The calls of the environment: ECALL with the number in a7 and the arguments in a0 to a2, as on the flat
-- machine. What they look at must be plain numbers (reason 8), in the order number, code or count, bytes.
use Rattle.std.specs.Prelude.{ℕ, zero, suc, ◌+◌, ◌%◌, ◌==◌, if◌then◌else◌, min, List, [], ◌∷◌, ◌++◌, length, take, drop, map, Option, Some, None}
use Rattle.list_checks.specs.First.{first_below}
use Rattle.cell_values.specs.declared.values.Val.{Val}
use Rattle.cell_values.specs.declared.values.Val.TheVariants.{Int}
use Rattle.cell_values.specs.declared.values.Cell.{Cell}
use Rattle.cell_values.specs.declared.values.Cell.TheVariants.{Byte, Part, Mist}
use Rattle.object_machine.specs.declared.events.Outcome.TheVariants.{Exited}
use Rattle.object_machine.specs.Program.{Program}
use Rattle.object_machine.specs.State.{SourceState, value, wrote, faulted}
use Rattle.object_machine.specs.Places.{byte_place, read_fault, write_fault}
use Rattle.object_machine.specs.Memory.{cell_at, stored_at}
use Rattle.object_machine.specs.Flow.{falls_on}

-- x10, x11, x12 and x17
abbrev pub a0 : SourceState → Val
a0 s = value s.regs 10

abbrev pub a1 : SourceState → Val
a1 s = value s.regs 11

abbrev pub a2 : SourceState → Val
a2 s = value s.regs 12

abbrev pub a7 : SourceState → Val
a7 s = value s.regs 17

-- the call answers a number in a0
abbrev pub answered : Program → SourceState → SourceState → ℕ → SourceState
answered p s t n = falls_on p s (wrote t 10 (Int n))

-- exit
abbrev pub exits : SourceState → Val → SourceState
exits s (Int n) = record s { outcome = Exited (n % 256) }
exits s x = faulted s 8

-- ---- write

-- the first n bytes behind a value, if they are plain numbers
abbrev pub and_byte : Option (List ℕ) → Cell → Option (List ℕ)
and_byte (Some bytes) (Byte b) = Some (bytes ++ b ∷ [])
and_byte o c = None

abbrev pub plain_bytes : Program → SourceState → ℕ → Option (List ℕ)
plain_bytes p s zero = Some []
plain_bytes p s (suc n) = and_byte (plain_bytes p s n) (cell_at s (byte_place p (a1 s) n) 0)

abbrev pub appends : Program → SourceState → ℕ → Option (List ℕ) → SourceState
appends p s n (Some bytes) = answered p s (record s { output = s.output ++ bytes }) n
appends p s n None = faulted s 8

-- why byte `i` behind a1 can't be read
abbrev pub unread : Program → SourceState → ℕ → Option ℕ
unread p s i = read_fault (byte_place p (a1 s) i)

abbrev pub writes_from : Program → SourceState → ℕ → Option ℕ → SourceState
writes_from p s n None = appends p s n (plain_bytes p s n)
writes_from p s n (Some why) = faulted s why

abbrev pub writes : Program → SourceState → Val → SourceState
writes p s (Int n) = writes_from p s n (first_below (unread p s) n)
writes p s x = faulted s 8

-- ---- read

abbrev pub consumed_count : SourceState → ℕ → ℕ
consumed_count s n = min n (length s.input)

-- why byte `i` behind a1 can't be written
abbrev pub unwritten : Program → SourceState → ℕ → Option ℕ
unwritten p s i = write_fault p (byte_place p (a1 s) i)

-- bytes put from byte `i` behind a1 on
abbrev pub put_input : Program → SourceState → Val → ℕ → List ℕ → SourceState
put_input p s x i [] = s
put_input p s x i (b ∷ bytes) = put_input p (stored_at s (byte_place p x i) (Byte b ∷ [])) x (i + 1) bytes

abbrev pub with_input : Program → SourceState → ℕ → SourceState
with_input p s k = record (put_input p s (a1 s) 0 (take k s.input)) { input = drop k s.input }

abbrev pub reads_into : Program → SourceState → ℕ → Option ℕ → SourceState
reads_into p s k None = answered p s (with_input p s k) k
reads_into p s k (Some why) = faulted s why

abbrev pub reads : Program → SourceState → Val → SourceState
reads p s (Int n) = reads_into p s (consumed_count s n) (first_below (unwritten p s) (consumed_count s n))
reads p s x = faulted s 8

-- ---- by number: 93 exit, 64 write, 63 read; to any other the answer is -38, "not implemented"
abbrev pub calls_number : Program → SourceState → ℕ → SourceState
calls_number p s n =
    if n == 93 then exits s (a0 s)
    else (if n == 64 then writes p s (a2 s) else (if n == 63 then reads p s (a2 s) else answered p s s 4294967258))

abbrev pub calls_by : Program → SourceState → Val → SourceState
calls_by p s (Int n) = calls_number p s n
calls_by p s x = faulted s 8
