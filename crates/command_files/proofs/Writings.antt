-- Writing outputs one by one.
use Rattle.std.proofs.Common.{◌≡◌, inl, inr, List, [], ◌∷◌, ◌++◌, refl, subst, ap, ◌∙◌}
use Rattle.std.specs.Iterator.{Yields}
use Rattle.std.specs.Vec.Iter.{into_iter_items, into_iter_steps}
use Rattle.std.specs.declared.vec.IntoIter.{IntoIter}
use Rattle.shelf_io.specs.Shelf.{ShelfView, SetsName}
use Rattle.command_files.specs.Writing.{SetsPrepared, FailsOnce, FailsToWrite}
use Rattle.command_files.specs.declared.writing.Output.{Output}
use Rattle.command_files.specs.declared.diagnostic.Diagnostic.{Diagnostic}

-- one more output
pub sets_more : (outputs : List Output) (o : Output) (old mid new : ShelfView)
    → SetsPrepared outputs old mid → SetsName o.name.now o.bytes.items mid new → SetsPrepared (outputs ++ o ∷ []) old new
sets_more [] o old mid new s one = (new, subst (λ (v : ShelfView). SetsName o.name.now o.bytes.items v new) s one, refl)
sets_more (p ∷ outputs) o old mid new s one =
    let (next, first, rest) = s in (next, first, sets_more outputs o next mid new rest one)

-- an output that could not be written, behind those that were
pub fails_behind : (outputs : List Output) (o : Output) (others : List Output) (old mid new : ShelfView) (r : Diagnostic)
    → SetsPrepared outputs old mid → FailsOnce o mid new r → FailsToWrite (outputs ++ o ∷ others) old new r
fails_behind [] o others old mid new r s f = inl (subst (λ (v : ShelfView). FailsOnce o v new r) s f)
fails_behind (p ∷ outputs) o others old mid new r s f =
    let (next, first, rest) = s in inr (next, first, fails_behind outputs o others next mid new r rest f)

-- what the iterator of a vector has given is a front of its items
pub taken_front : {X A : Type 0} (s : IntoIter X A) (xs : List X) (t : IntoIter X A) → Yields into_iter_steps s xs t → into_iter_items s ≡ xs ++ into_iter_items t
taken_front s [] t y = ap into_iter_items y
taken_front s (x ∷ xs) t y = y.1.0 ∙ ap (λ ys. x ∷ ys) (taken_front y.0 xs t y.2)
