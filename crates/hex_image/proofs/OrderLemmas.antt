-- Runs that share no address, by address.
use Rattle.std.proofs.Common.{◌⊎◌, inl, inr, suc, ◌+◌, ◌<◌, ◌≤◌, nat_le, List, [], ◌∷◌, filter, length, arith}
use Rattle.std.proofs.lemmas.Bool.Decides.{nat_tests}
use Rattle.std.proofs.lemmas.Bool.{cond_both, cases_lt}
use Rattle.std.specs.List.{All, AllByRecursion}
use Rattle.elf_reader.specs.File.{PlainSegment}
use Rattle.elf_reader.specs.Loadable.{IsLoadable, AreLoadable, IsDisjoint, AreDisjoint}
use Rattle.hex_image.specs.Runs.{PlainRun, run_end, segment_run}
use Rattle.hex_image.specs.Text.{insert_run, by_address, has_bytes, filled_runs}

abbrev pub IsFilled : PlainRun → Type 0
IsFilled run = 0 < length run.content

-- all of a run's addresses are below those of another
abbrev pub Precedes : PlainRun → PlainRun → Type 0
Precedes run later = run_end run ≤ later.start

abbrev pub DoNotOverlap : PlainRun → PlainRun → Type 0
DoNotOverlap one other = Precedes one other ⊎ Precedes other one

-- each run with each one behind it
abbrev pub Pairwise : (PlainRun → PlainRun → Type 0) → List PlainRun → Type 0
Pairwise R [] = Unit {0}
Pairwise R (run ∷ runs) = AllByRecursion (R run) runs × Pairwise R runs

pub each_weaker : (P Q : PlainRun → Type 0) → ((r : PlainRun) → P r → Q r) → (runs : List PlainRun) → AllByRecursion P runs → AllByRecursion Q runs
each_weaker P Q gives [] all = tt
each_weaker P Q gives (r ∷ rs) all = (gives r all.0, each_weaker P Q gives rs all.1)

-- ---- the runs of a file

-- two segments that share no address
segments_disjoint : (s t : PlainSegment) → IsLoadable s → IsLoadable t → 0 < length s.content → 0 < length t.content → IsDisjoint s t → DoNotOverlap (segment_run s) (segment_run t)
segments_disjoint s t loads t_loads some t_some disjoint =
    let fits = loads.fits in
    let t_fits = t_loads.fits in
    elim (cases_lt t.vaddr (s.vaddr + length s.content)) [
      | inr before ↦ inl before
      | inl reaches ↦ elim (cases_lt s.vaddr (t.vaddr + length t.content)) [
        | inr after ↦ inr after
        | inl t_reaches ↦ absurd (grind (arith, nat_tests))
      ]
    ]

disjoint_from : (s : PlainSegment) (ts : List PlainSegment) → IsLoadable s → 0 < length s.content → AreLoadable ts → All (IsDisjoint s) ts → AllByRecursion (DoNotOverlap (segment_run s)) (filled_runs ts)
disjoint_from s [] loads some all disjoint = tt
disjoint_from s (t ∷ ts) loads some all disjoint =
    let rest = disjoint_from s ts loads some (λ k d below. all (suc k) d (omega arith)) (λ k d below. disjoint (suc k) d (omega arith)) in
    cond_both (has_bytes (segment_run t)) (segment_run t ∷ filled_runs ts) (filled_runs ts) (λ runs. AllByRecursion (DoNotOverlap (segment_run s)) runs)
    (λ filled. (segments_disjoint s t loads (all 0 t (omega arith)) some (grind (arith, nat_tests)) (disjoint 0 t (omega arith)), rest))
    (λ empty. rest)

pub filled_disjoint : (segments : List PlainSegment) → AreLoadable segments → AreDisjoint segments → Pairwise DoNotOverlap (filled_runs segments)
filled_disjoint [] all disjoint = tt
filled_disjoint (s ∷ ss) all disjoint =
    let loads : AreLoadable ss = λ k d below. all (suc k) d (omega arith) in
    let rest = filled_disjoint ss loads (λ i j d lower below. disjoint (suc i) (suc j) d (omega arith) (omega arith)) in
    cond_both (has_bytes (segment_run s)) (segment_run s ∷ filled_runs ss) (filled_runs ss) (λ runs. Pairwise DoNotOverlap runs)
    (λ filled. (disjoint_from s ss (all 0 s (omega arith)) (grind (arith, nat_tests)) loads (λ k d below. disjoint 0 (suc k) d (omega arith) (omega arith)), rest))
    (λ empty. rest)

pub filled_filled : (runs : List PlainRun) → AllByRecursion IsFilled (filter has_bytes runs)
filled_filled [] = tt
filled_filled (r ∷ rs) =
    cond_both (has_bytes r) (r ∷ filter has_bytes rs) (filter has_bytes rs) (λ runs. AllByRecursion IsFilled runs)
    (λ filled. (grind (arith, nat_tests), filled_filled rs))
    (λ empty. filled_filled rs)

-- ---- by address

each_insert : (P : PlainRun → Type 0) (r : PlainRun) (rs : List PlainRun) → P r → AllByRecursion P rs → AllByRecursion P (insert_run r rs)
each_insert P r [] here all = (here, tt)
each_insert P r (o ∷ os) here all =
    cond_both (nat_le r.start o.start) (r ∷ o ∷ os) (o ∷ insert_run r os) (λ runs. AllByRecursion P runs)
    (λ lower. (here, all))
    (λ higher. (all.0, each_insert P r os here all.1))

pub each_by_address : (P : PlainRun → Type 0) (rs : List PlainRun) → AllByRecursion P rs → AllByRecursion P (by_address rs)
each_by_address P [] all = tt
each_by_address P (r ∷ rs) all = each_insert P r (by_address rs) all.0 (each_by_address P rs all.1)

insert_ordered : (r : PlainRun) (rs : List PlainRun) → IsFilled r → AllByRecursion IsFilled rs → AllByRecursion (DoNotOverlap r) rs → Pairwise Precedes rs → Pairwise Precedes (insert_run r rs)
insert_ordered r [] filled all_filled no_overlap ordered = (tt, tt)
insert_ordered r (o ∷ os) filled all_filled no_overlap ordered =
    let o_filled = all_filled.0 in
    cond_both (nat_le r.start o.start) (r ∷ o ∷ os) (o ∷ insert_run r os) (λ runs. Pairwise Precedes runs)
    (λ lower.
    let le : r.start ≤ o.start = grind (arith, nat_tests) in
    let before : Precedes r o = elim no_overlap.0 [ inl yes_before ↦ yes_before | inr after ↦ absurd (omega arith) ] in
    ((before, each_weaker (Precedes o) (Precedes r) (λ later precedes. omega arith) os ordered.0), ordered))
    (λ higher.
    let gt : o.start < r.start = grind (arith, nat_tests) in
    let after : Precedes o r = elim no_overlap.0 [ inl before ↦ absurd (omega arith) | inr yes_after ↦ yes_after ] in
    (each_insert (Precedes o) r os after ordered.0, insert_ordered r os filled all_filled.1 no_overlap.1 ordered.1))

pub by_address_ordered : (rs : List PlainRun) → AllByRecursion IsFilled rs → Pairwise DoNotOverlap rs → Pairwise Precedes (by_address rs)
by_address_ordered [] filled no_overlap = tt
by_address_ordered (r ∷ rs) filled no_overlap =
    insert_ordered r (by_address rs) filled.0 (each_by_address IsFilled rs filled.1) (each_by_address (DoNotOverlap r) rs no_overlap.0) (by_address_ordered rs filled.1 no_overlap.1)
