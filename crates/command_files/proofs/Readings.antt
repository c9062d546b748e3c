-- Reading names one by one.
use Rattle.std.proofs.Common.{◌≡◌, inl, inr, ℕ, zero, suc, List, [], ◌∷◌, ◌++◌, map, take, drop, ap, get_or, length, ◌<◌, refl, subst, arith}
use Rattle.shelf_io.specs.Shelf.{ShelfView, Holds}
use Rattle.std.specs.Global.{Global}
use Rattle.std.proofs.Common.{Vec}
use Rattle.command_language.specs.Command.{Named, plain_named}
use Rattle.command_language.specs.declared.commands.NamedWord.{NamedWord}
use Rattle.command_files.specs.Reading.{contents, HoldsAll, IsReached, RejectsRead, RejectsReads, one_fails, memory_wanting}
use Rattle.command_language.specs.declared.faults.CommandFault.{CommandFault}

-- one more name
pub holds_more : (shelf : ShelfView) (names : List Named) (texts : List (List ℕ)) (n : Named) (text : List ℕ)
    → HoldsAll shelf names texts → Holds shelf n.name text → HoldsAll shelf (names ++ n ∷ []) (texts ++ text ∷ [])
holds_more shelf [] [] n text h one = (one, tt)
holds_more shelf [] (x ∷ texts) n text h one = absurd h
holds_more shelf (m ∷ names) [] n text h one = absurd h
holds_more shelf (m ∷ names) (x ∷ texts) n text h one = (h.0, holds_more shelf names texts n text h.1 one)

-- as many texts as names
pub held_size : (shelf : ShelfView) (names : List Named) (texts : List (List ℕ)) → HoldsAll shelf names texts → length texts ≡ length names
held_size shelf [] [] h = refl
held_size shelf [] (x ∷ texts) h = absurd h
held_size shelf (m ∷ names) [] h = absurd h
held_size shelf (m ∷ names) (x ∷ texts) h = ap suc (held_size shelf names texts h.1)

-- the fault of one read
pub one_rejected : (names : List Named) (n : Named) (old mid new : ShelfView) (fault : CommandFault)
    → IsReached old names n → mid ≡ old → RejectsRead n mid new fault → RejectsReads names old new fault
one_rejected names n old mid new fault is_read same r =
    elim (subst (λ (s : ShelfView). RejectsRead n s new fault) same r) [
      | inl failed ↦ one_fails n is_read failed.0 failed.1
      | inr memory ↦ memory_wanting memory.0 memory.1
    ]

-- the bytes of one more text
pub contents_more : (texts : List (Vec ℕ Global)) (text : Vec ℕ Global) → contents (texts ++ text ∷ []) ≡ contents texts ++ text.items ∷ []
contents_more [] text = refl
contents_more (x ∷ texts) text = ap (λ more. x.items ∷ more) (contents_more texts text)

-- the names of words, about one of them
names_about : (words : List NamedWord) (i : ℕ) (d : NamedWord) → i < length words
    → map plain_named words ≡ map plain_named (take i words) ++ plain_named (get_or words i d) ∷ map plain_named (drop (suc i) words)
names_about [] i d below = absurd (omega (arith, below))
names_about (w ∷ words) zero d below = refl
names_about (w ∷ words) (suc i) d below =
    let less : i < length words = omega (arith, below) in ap (λ ns. plain_named w ∷ ns) (names_about words i d less)

-- a word is reached whose names before it were read
pub is_reached : (shelf : ShelfView) (words : List NamedWord) (i : ℕ) (d : NamedWord) (texts : List (List ℕ)) → i < length words
    → HoldsAll shelf (map plain_named (take i words)) texts → IsReached shelf (map plain_named words) (plain_named (get_or words i d))
is_reached shelf words i d texts below holds =
    record {
      before = map plain_named (take i words);
      behind = map plain_named (drop (suc i) words);
      names_are = names_about words i d below;
      texts = texts;
      holds = holds;
    }
