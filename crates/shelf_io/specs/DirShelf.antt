-- What a `DirShelf` counts.
use Rattle.std.specs.Prelude.{ℕ, false, None}
use Rattle.shelf_io.specs.Shelf.{CallList, ShelfView}
use Rattle.shelf_io.specs.FaultLog.{failed_calls}
use Rattle.shelf_io.specs.declared.folder.DirShelf.{DirShelf}

-- the failed calls, oldest first, and the count of wants
abbrev pub shelf_failed : {R : Type 0} → DirShelf R → CallList
shelf_failed shelf = failed_calls shelf.log

abbrev pub shelf_wants : {R : Type 0} → DirShelf R → ℕ
shelf_wants shelf = shelf.log.wants

-- it tells nothing of its files
abbrev pub shelf_view : {R : Type 0} → DirShelf R → ShelfView
shelf_view shelf =
    record { tells = false; content = λ name. None; failed = shelf_failed shelf; wants = shelf_wants shelf }
