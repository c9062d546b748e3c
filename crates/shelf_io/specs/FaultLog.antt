-- What a `FaultLog` holds.
use Rattle.std.specs.Prelude.{◌≡◌, ℕ, ◌<◌, List, map, string_bytes, vec_len, vec_capacity}
use Rattle.shelf_io.specs.Shelf.{CallList}
use Rattle.shelf_io.specs.declared.shelves.CallKind.{CallKind}
use Rattle.shelf_io.specs.declared.fault_log.FailedCall.{FailedCall}
use Rattle.shelf_io.specs.declared.fault_log.FaultLog.{FaultLog}

-- the kind and the name of a call
abbrev pub call_of : FailedCall → CallKind × List ℕ
call_of call = (call.kind, string_bytes call.name)

-- the failed calls, oldest first
abbrev pub failed_calls : FaultLog → CallList
failed_calls log = map call_of log.calls.items

-- there is room for one more call
abbrev pub HasRoom : FaultLog → Type 0
HasRoom log = vec_len log.calls < vec_capacity log.calls

-- two logs list the same calls and count the same wants
pub record SameLog (old new : FaultLog) : Type 0 where
  pub calls : failed_calls new ≡ failed_calls old
  pub wants : new.wants ≡ old.wants
