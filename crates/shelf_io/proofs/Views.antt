-- Two views of a shelf that agree in their parts.
use Rattle.std.proofs.Common.{◌≡◌, subst}
use Rattle.shelf_io.specs.Counts.{Rose}
use Rattle.shelf_io.specs.Shelf.{ShelfView, WantsMemory}

pub same_but_content : (old new : ShelfView) → new.tells ≡ old.tells → new.failed ≡ old.failed → new.wants ≡ old.wants
    → new ≡ record old { content = new.content }
same_but_content old new tells failed wants =
    λ i. record { tells = tells i; content = new.content; failed = failed i; wants = wants i }

pub same_but_wants : (old new : ShelfView) → new.tells ≡ old.tells → new.content ≡ old.content → new.failed ≡ old.failed
    → new ≡ record old { wants = new.wants }
same_but_wants old new tells content failed =
    λ i. record { tells = tells i; content = content i; failed = failed i; wants = new.wants }

-- a want that was counted behind a call that changed nothing
pub wanted_memory : (old mid new : ShelfView) → mid ≡ old → new.tells ≡ mid.tells → new.content ≡ mid.content → new.failed ≡ mid.failed
    → Rose mid.wants new.wants → WantsMemory old new
wanted_memory old mid new same tells content failed rose =
    subst (λ (v : ShelfView). WantsMemory v new) same
    (record { rose = rose; others = same_but_wants mid new tells content failed })
