-- Where the code looks for control is where the definition does.
use Rattle.std.proofs.Common.{◌≡◌, ◌⊎◌, inl, inr, ℕ, ◌<◌, Bool, true, false, List, [], ◌∷◌, length, refl, sym, ◌∙◌, ap, subst, arith}
use Rattle.board_config.specs.declared.board.Board.{Board}
use Rattle.flat_machine.specs.Mapping.{in_range}
use Rattle.flat_machine.specs.State.{State}
use Rattle.flat_machine.specs.declared.events.FlatEvent.{FlatEvent}
use Rattle.object_machine.specs.declared.events.Outcome.{Outcome}
use Rattle.object_machine.specs.declared.events.Outcome.TheVariants.{GoesOn, Exited, Trapped, AddressFault}
use Rattle.object_machine.specs.State.{SourceState}
use Rattle.relink_core.specs.declared.unit_forms.UnitAt.{UnitAt}
use Rattle.compare_runner.specs.declared.forms.Sought.{Sought}
use Rattle.compare_runner.specs.declared.seeking.Next.TheVariants.{Form}
use Rattle.compare_runner.specs.Comings.{StopsFirst, EndsInPatch, IsAtForm}
use Rattle.compare_runner.specs.Seeking.{IsPresent, patched_behind, Finds, Comes, next_by, StopsAfter, StartsWithin}
use Rattle.compare_runner.specs.Tracing.{TracedProgram, region_in, ComesBy}
use Rattle.compare_runner.proofs.SeekLemmas.{patched_more}

-- ---- the patch range

pub ends_there : (board : Board) (before : Bool) (e : FlatEvent) (es : List FlatEvent) → patched_behind board.patch before (e ∷ es) ≡ true → EndsInPatch board (e ∷ es)
ends_there board before e [] is = record { before = []; last = e; whole = refl; fetched = is }
ends_there board before e (f ∷ es) is =
    let rest = ends_there board (in_range board.patch e.at) f es is in
    record { before = e ∷ rest.before; last = rest.last; whole = ap (λ xs. e ∷ xs) rest.whole; fetched = rest.fetched }

pub told_there : (board : Board) (before : Bool) (es : List FlatEvent) → EndsInPatch board es → patched_behind board.patch before es ≡ true
told_there board before es ends =
    ap (λ xs. patched_behind board.patch before xs) ends.whole ∙ (patched_more board.patch before ends.before ends.last ∙ ends.fetched)

-- ---- forms

module _ (sought : Sought) (board : Board) where
  reached_by : (es : List FlatEvent) → (sought.from ≡ sought.to) ⊎ (patched_behind board.patch false es ≡ true) → (sought.from ≡ sought.to) ⊎ EndsInPatch board es
  reached_by es (inl same) = inl same
  reached_by [] (inr patched) = absurd (cc (patched))
  reached_by (e ∷ es) (inr patched) = inr (ends_there board false e es patched)

  present_by : (region : ℕ) (es : List FlatEvent) → IsPresent sought (patched_behind board.patch false es) region → (region ≡ 0) ⊎ ((region ≡ sought.to) × ((sought.from ≡ sought.to) ⊎ EndsInPatch board es))
  present_by region es (inl every) = inl every
  present_by region es (inr there) = inr (there.0, reached_by es there.1)

  told_by : (es : List FlatEvent) → (sought.from ≡ sought.to) ⊎ EndsInPatch board es → (sought.from ≡ sought.to) ⊎ (patched_behind board.patch false es ≡ true)
  told_by es (inl same) = inl same
  told_by es (inr ends) = inr (told_there board false es ends)

  stands_by : (region : ℕ) (es : List FlatEvent) → (region ≡ 0) ⊎ ((region ≡ sought.to) × ((sought.from ≡ sought.to) ⊎ EndsInPatch board es)) → IsPresent sought (patched_behind board.patch false es) region
  stands_by region es (inl every) = inl every
  stands_by region es (inr there) = inr (there.0, told_by es there.1)

  pub at_form : (es : List FlatEvent) (t : State) → Finds board.patch (Form sought) false es t → IsAtForm sought.units.now board sought.from sought.to sought.home es t
  at_form es t has =
      record {
        form = has.form;
        listed = has.listed;
        home_is = has.counts.0;
        at = has.at;
        stands = present_by has.form.region es has.counts.1;
      }

  pub has_form : (es : List FlatEvent) (t : State) → IsAtForm sought.units.now board sought.from sought.to sought.home es t → Finds board.patch (Form sought) false es t
  has_form es t is =
      record {
        form = is.form;
        listed = is.listed;
        at = is.at;
        counts = (is.home_is, stands_by is.form.region es is.stands);
      }

-- ---- the first of several steps, by what is the same

pub stops_same : (P Q : List FlatEvent → State → Type 0) → ((es : List FlatEvent) (t : State) → P es t → Q es t) → ((es : List FlatEvent) (t : State) → Q es t → P es t) → (s : State) (es : List FlatEvent) (t : State) → StopsFirst P s es t → StopsFirst Q s es t
stops_same P Q to from s es t first =
    record {
      does = first.does;
      stops = to es t first.stops;
      first = λ fs m less does stops. first.first fs m less does (from fs m stops);
    }

pub after_same : (P Q : List FlatEvent → State → Type 0) → ((es : List FlatEvent) (t : State) → P es t → Q es t) → ((es : List FlatEvent) (t : State) → Q es t → P es t) → (s : State) (k : ℕ) (t : State) → StopsAfter P s k t → StopsAfter Q s k t
after_same P Q to from s k t after =
    record { events = after.events; count = after.count; first = stops_same P Q to from s after.events t after.first }

pub within_same : (P Q : List FlatEvent → State → Type 0) → ((es : List FlatEvent) (t : State) → P es t → Q es t) → ((es : List FlatEvent) (t : State) → Q es t → P es t) → (most : ℕ) (s : State) → StartsWithin P most s → StartsWithin Q most s
within_same P Q to from most s w =
    record { events = w.events; last = w.last; few = w.few; first = stops_same P Q to from s w.events w.last w.first }

-- ---- behind a step of the program

module _ (w : TracedProgram) (from : ℕ) (s : SourceState) (sought : Sought) (units_are : sought.units.now ≡ w.units) (from_is : sought.from ≡ from) (to_is : sought.to ≡ region_in w from s) (home_is : sought.home ≡ s.pc) where
  there : (es : List FlatEvent) (t : State) → IsAtForm sought.units.now w.board sought.from sought.to sought.home es t → IsAtForm w.units w.board from (region_in w from s) s.pc es t
  there es t at =
      subst (λ (xs : List UnitAt). IsAtForm xs w.board from (region_in w from s) s.pc es t) units_are
      (subst (λ (k : ℕ). IsAtForm sought.units.now w.board k (region_in w from s) s.pc es t) from_is
      (subst (λ (k : ℕ). IsAtForm sought.units.now w.board sought.from k s.pc es t) to_is
      (subst (λ (k : ℕ). IsAtForm sought.units.now w.board sought.from sought.to k es t) home_is at)))

  back : (es : List FlatEvent) (t : State) → IsAtForm w.units w.board from (region_in w from s) s.pc es t → IsAtForm sought.units.now w.board sought.from sought.to sought.home es t
  back es t at =
      subst (λ (k : ℕ). IsAtForm sought.units.now w.board sought.from sought.to k es t) (sym home_is)
      (subst (λ (k : ℕ). IsAtForm sought.units.now w.board sought.from k s.pc es t) (sym to_is)
      (subst (λ (k : ℕ). IsAtForm sought.units.now w.board k (region_in w from s) s.pc es t) (sym from_is)
      (subst (λ (xs : List UnitAt). IsAtForm xs w.board from (region_in w from s) s.pc es t) (sym units_are) at)))

  pub comes_along : (o : Outcome) (es : List FlatEvent) (t : State) → Comes w.board.patch (next_by o sought) es t → (0 < length es) × ComesBy o w from s es t
  comes_along o [] t comes = absurd comes
  comes_along GoesOn (e ∷ es) t comes = (omega arith, there (e ∷ es) t (at_form sought w.board (e ∷ es) t comes))
  comes_along (Exited code) (e ∷ es) t comes = (omega arith, comes)
  comes_along (Trapped pc) (e ∷ es) t comes = (omega arith, comes)
  comes_along (AddressFault pc why) (e ∷ es) t comes = (omega arith, comes)

  pub along_comes : (o : Outcome) (es : List FlatEvent) (t : State) → (0 < length es) × ComesBy o w from s es t → Comes w.board.patch (next_by o sought) es t
  along_comes o [] t along = let some = along.0 in absurd (omega (arith, some))
  along_comes GoesOn (e ∷ es) t along = has_form sought w.board (e ∷ es) t (back (e ∷ es) t along.1)
  along_comes (Exited code) (e ∷ es) t along = along.1
  along_comes (Trapped pc) (e ∷ es) t along = along.1
  along_comes (AddressFault pc why) (e ∷ es) t along = along.1
