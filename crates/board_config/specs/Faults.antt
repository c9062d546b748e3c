-- Why a text is no board, and what a result tells of it.
use Rattle.std.specs.Prelude.{◌≡◌, ◌⊎◌, ℕ, List, Option, Some, None, Result, Ok, Err, string_bytes}
use Rattle.board_config.specs.declared.board.BoardFault.{BoardFault}
use Rattle.board_config.specs.declared.board.BoardFault.TheVariants as board

-- a fault, with a name as its bytes. `memory` is the want of memory, which no check of a text gives
pub data Fault : Type 0 where
  not_toml : Fault
  missing : ℕ → Fault
  wrong_type : ℕ → Fault
  out_of_range : ℕ → Fault
  unknown_key : List ℕ → Fault
  memory : Fault

abbrev pub plain_fault : BoardFault → Fault
plain_fault board.NotToml = not_toml
plain_fault (board.Missing key) = missing key
plain_fault (board.WrongType key) = wrong_type key
plain_fault (board.OutOfRange key) = out_of_range key
plain_fault (board.UnknownKey name) = unknown_key (string_bytes name)
plain_fault board.Memory = memory

-- a result is what the text has for it: a value, or else a fault
abbrev pub Reads : {A : Type 0} → Result A BoardFault → Result A Fault → Type 0
Reads (Ok value) read = read ≡ Ok value
Reads (Err fault) read = read ≡ Err (plain_fault fault)

-- the same of a call that may also run out of memory, with the value seen as its plain form
abbrev pub ReadsAs : {T A : Type 0} → (T → A) → Result T BoardFault → Result A Fault → Type 0
ReadsAs plain (Ok value) read = read ≡ Ok (plain value)
ReadsAs plain (Err fault) read = (fault ≡ board.Memory) ⊎ (read ≡ Err (plain_fault fault))

-- a result tells of the first check that fails: Ok exactly where there is none, and else its fault
abbrev pub ReportsFault : {T : Type 0} → Result T BoardFault → Option Fault → Type 0
ReportsFault (Ok value) first = first ≡ None
ReportsFault (Err fault) first = first ≡ Some (plain_fault fault)

-- the same, or that no memory was left
abbrev pub ReportsFirst : {T : Type 0} → Result T BoardFault → Option Fault → Type 0
ReportsFirst (Ok value) first = first ≡ None
ReportsFirst (Err fault) first = (fault ≡ board.Memory) ⊎ (first ≡ Some (plain_fault fault))
