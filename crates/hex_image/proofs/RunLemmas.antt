-- Runs that grow at their end.
use Rattle.std.proofs.Common.{◌≡◌, inl, inr, ℕ, zero, suc, ◌+◌, ◌==◌, ◌<◌, ◌≤◌, true, false, if◌then◌else◌, List, [], ◌∷◌, ◌++◌, length, Option, Some, None, refl, sym, ap, ◌∙◌, arith}
use Rattle.std.proofs.lemmas.Bool.Decides.{nat_tests}
use Rattle.std.proofs.lemmas.Bool.{cond_both, cases_eq}
use Rattle.std.proofs.lemmas.List.{append_assoc, length-append, map-append}
use Rattle.std.proofs.lemmas.List.Elements.{All-from_recursion}
use Rattle.std.specs.List.{All, AllByRecursion, AllPairs}
use Rattle.std.specs.Option.{option_or}
use Rattle.hex_image.specs.Runs.{PlainRun, run_at, run_end, run_byte, map_of, map_runs, plain_run, joined, with_byte, ComesBefore, AreMaximal}
use Rattle.hex_image.specs.declared.image.HexRun.{HexRun}
use Rattle.hex_image.proofs.OrderLemmas.{IsFilled, Pairwise, each_weaker}
use Rattle.hex_image.proofs.GivenLemmas.{byte_from_past, byte_from_push}

pub with_byte_last : (runs : List PlainRun) (last : PlainRun) (address byte : ℕ) → with_byte (runs ++ last ∷ []) address byte ≡ runs ++ joined last address byte
with_byte_last [] last address byte = refl
with_byte_last (r ∷ []) last address byte = refl
with_byte_last (r ∷ s ∷ rs) last address byte = ap (λ runs. r ∷ runs) (with_byte_last (s ∷ rs) last address byte)

-- the run ends at an address or below it
abbrev pub EndsBy : ℕ → PlainRun → Type 0
EndsBy address run = run_end run ≤ address

abbrev pub EndBy : ℕ → List PlainRun → Type 0
EndBy address runs = AllByRecursion (EndsBy address) runs

-- runs that are as long as can be, all below an address
pub record AreBelow (address : ℕ) (runs : List PlainRun) : Type 0 where
  pub ends : EndBy address runs
  pub filled : AllByRecursion IsFilled runs
  pub disjoint : Pairwise ComesBefore runs

joined_ends : (run : PlainRun) (address byte : ℕ) → run_end run ≤ address → EndBy (address + 1) (joined run address byte)
joined_ends run address byte ends =
    cond_both (run_end run == address) (run_at run.start (run.content ++ byte ∷ []) ∷ []) (run ∷ run_at address (byte ∷ []) ∷ []) (EndBy (address + 1))
    (λ ranges_overlap. let same : run_end run ≡ address = grind (arith, nat_tests) in (omega (arith, length-append run.content (byte ∷ [])), tt))
    (λ disjoint. (omega arith, (omega arith, tt)))

with_byte_ends : (runs : List PlainRun) (address byte : ℕ) → EndBy address runs → EndBy (address + 1) (with_byte runs address byte)
with_byte_ends [] address byte ends = (omega arith, tt)
with_byte_ends (run ∷ []) address byte ends = joined_ends run address byte ends.0
with_byte_ends (run ∷ next ∷ runs) address byte ends = let here = ends.0 in (omega arith, with_byte_ends (next ∷ runs) address byte ends.1)

with_byte_filled : (runs : List PlainRun) (address byte : ℕ) → AllByRecursion IsFilled runs → AllByRecursion IsFilled (with_byte runs address byte)
with_byte_filled [] address byte filled = (omega arith, tt)
with_byte_filled (run ∷ []) address byte filled =
    cond_both (run_end run == address) (run_at run.start (run.content ++ byte ∷ []) ∷ []) (run ∷ run_at address (byte ∷ []) ∷ []) (AllByRecursion IsFilled)
    (λ ranges_overlap. (omega (arith, length-append run.content (byte ∷ [])), tt))
    (λ disjoint. (filled.0, (omega arith, tt)))
with_byte_filled (run ∷ next ∷ runs) address byte filled = (filled.0, with_byte_filled (next ∷ runs) address byte filled.1)

abbrev StartsAbove : ℕ → PlainRun → Type 0
StartsAbove bound run = bound < run.start

with_byte_above : (bound : ℕ) (runs : List PlainRun) (address byte : ℕ) → bound < address → AllByRecursion (StartsAbove bound) runs → AllByRecursion (StartsAbove bound) (with_byte runs address byte)
with_byte_above bound [] address byte lower above = (lower, tt)
with_byte_above bound (run ∷ []) address byte lower above =
    cond_both (run_end run == address) (run_at run.start (run.content ++ byte ∷ []) ∷ []) (run ∷ run_at address (byte ∷ []) ∷ []) (AllByRecursion (StartsAbove bound))
    (λ ranges_overlap. (above.0, tt))
    (λ disjoint. (above.0, (lower, tt)))
with_byte_above bound (run ∷ next ∷ runs) address byte lower above = (above.0, with_byte_above bound (next ∷ runs) address byte lower above.1)

with_byte_disjoint : (runs : List PlainRun) (address byte : ℕ) → EndBy address runs → AllByRecursion IsFilled runs → Pairwise ComesBefore runs → Pairwise ComesBefore (with_byte runs address byte)
with_byte_disjoint [] address byte ends filled disjoint = (tt, tt)
with_byte_disjoint (run ∷ []) address byte ends filled disjoint =
    let here = ends.0 in
    cond_both (run_end run == address) (run_at run.start (run.content ++ byte ∷ []) ∷ []) (run ∷ run_at address (byte ∷ []) ∷ []) (Pairwise ComesBefore)
    (λ ranges_overlap. (tt, tt))
    (λ gap. ((grind (arith, nat_tests), tt), (tt, tt)))
with_byte_disjoint (run ∷ next ∷ runs) address byte ends filled disjoint =
    let gap = disjoint.0.0 in
    let next_ends = ends.1.0 in
    (with_byte_above (run_end run) (next ∷ runs) address byte (omega arith) disjoint.0, with_byte_disjoint (next ∷ runs) address byte ends.1 filled.1 disjoint.1)

-- runs by address take a byte behind them
pub below_more : (runs : List PlainRun) (address byte : ℕ) → AreBelow address runs → AreBelow (address + 1) (with_byte runs address byte)
below_more runs address byte below = record {
  ends = with_byte_ends runs address byte below.ends;
  filled = with_byte_filled runs address byte below.filled;
  disjoint = with_byte_disjoint runs address byte below.ends below.filled below.disjoint;
}

-- they have no byte at or behind their end
pub none_behind : (runs : List PlainRun) (address place : ℕ) → EndBy address runs → address ≤ place → map_of runs place ≡ None
none_behind [] address place ends behind = refl
none_behind (run ∷ runs) address place ends behind =
    let here = ends.0 in
    rw (byte_from_past run.start run.content place (omega arith)) (none_behind runs address place ends.1 behind)

pub option_or-None : (held : Option ℕ) → option_or held None ≡ held
option_or-None None = refl
option_or-None (Some byte) = refl

joined_map : (run : PlainRun) (address byte place : ℕ) → run_end run ≤ address → map_of (joined run address byte) place ≡ (if place == address then Some byte else map_of (run ∷ []) place)
joined_map run address byte place ends =
    cond_both (run_end run == address) (run_at run.start (run.content ++ byte ∷ []) ∷ []) (run ∷ run_at address (byte ∷ []) ∷ []) (λ runs. map_of runs place ≡ (if place == address then Some byte else map_of (run ∷ []) place))
    (λ ranges_overlap.
    let same : run.start + length run.content ≡ address = grind (arith, nat_tests) in
    let pushed = byte_from_push run.start run.content byte place in
    let none = option_or-None (run_byte run place) in
    grind (arith, nat_tests))
    (λ gap. elim (cases_eq place address) [
      | inl here ↦
          let past = byte_from_past run.start run.content address ends in
          let test : (place == address) ≡ true = grind (arith, nat_tests) in
          rw (here, past) (grind (arith, nat_tests))
      | inr other ↦ grind (arith, nat_tests)
    ])

-- the bytes of runs with a byte behind them
pub with_byte_map : (runs : List PlainRun) (address byte place : ℕ) → EndBy address runs → map_of (with_byte runs address byte) place ≡ (if place == address then Some byte else map_of runs place)
with_byte_map [] address byte place ends = grind (arith, nat_tests)
with_byte_map (run ∷ []) address byte place ends = joined_map run address byte place ends.0
with_byte_map (run ∷ next ∷ runs) address byte place ends =
    let rest = with_byte_map (next ∷ runs) address byte place ends.1 in
    elim (cases_eq place address) [
      | inl here ↦
          let past = byte_from_past run.start run.content address ends.0 in
          let test : (place == address) ≡ true = grind (arith, nat_tests) in
          rw (rest, test, here, past) refl
      | inr other ↦
          let test : (place == address) ≡ false = grind (arith, nat_tests) in
          rw (rest, test) refl
    ]

-- ---- by index

pairs_cons : (R : PlainRun → PlainRun → Type 0) (run : PlainRun) (runs : List PlainRun) → All (R run) runs → AllPairs R runs → AllPairs R (run ∷ runs)
pairs_cons R run runs first rest zero zero d lower below = absurd (omega arith)
pairs_cons R run runs first rest zero (suc j) d lower below = first j d (omega arith)
pairs_cons R run runs first rest (suc i) zero d lower below = absurd (omega arith)
pairs_cons R run runs first rest (suc i) (suc j) d lower below = rest i j d (omega arith) (omega arith)

pairs_from : (R : PlainRun → PlainRun → Type 0) (runs : List PlainRun) → Pairwise R runs → AllPairs R runs
pairs_from R [] all = λ i j d lower below. absurd (omega arith)
pairs_from R (run ∷ runs) all = pairs_cons R run runs (All-from_recursion (R run) runs all.0) (pairs_from R runs all.1)

pub maximal_from_below : (address : ℕ) (runs : List PlainRun) → address ≤ 4294967296 → AreBelow address runs → AreMaximal runs
maximal_from_below address runs fits below = record {
  placed = All-from_recursion (EndsBy 4294967296) runs (each_weaker (EndsBy address) (EndsBy 4294967296) (λ run ends. omega arith) runs below.ends);
  filled = All-from_recursion IsFilled runs below.filled;
  disjoint = pairs_from ComesBefore runs below.disjoint;
}

-- ---- runs that are popped and pushed

pub pushed_joined : (before after front : List HexRun) (last more : HexRun) (address byte : ℕ) → before ≡ front ++ last ∷ [] → after ≡ front ++ more ∷ []
    → plain_run more ≡ run_at last.at (last.bytes.items ++ byte ∷ []) → last.at + length last.bytes.items ≡ address → map_runs after ≡ with_byte (map_runs before) address byte
pushed_joined before after front last more address byte was is longer ranges_overlap =
    let test : (run_end (plain_run last) == address) ≡ true = grind (arith, nat_tests) in
    let one : joined (plain_run last) address byte ≡ plain_run more ∷ [] = rw test (ap (λ run. run ∷ []) (sym longer)) in
    rw (was, is, map-append plain_run front (last ∷ []), map-append plain_run front (more ∷ []), with_byte_last (map_runs front) (plain_run last) address byte) (ap (λ runs. map_runs front ++ runs) (sym one))

pub pushed_disjoint : (before middle front : List HexRun) (last : HexRun) (after : List PlainRun) (address byte : ℕ) → before ≡ front ++ last ∷ [] → middle ≡ front ++ last ∷ []
    → (last.at + length last.bytes.items ≡ address → ⊥) → after ≡ map_runs middle ++ run_at address (byte ∷ []) ∷ [] → after ≡ with_byte (map_runs before) address byte
pushed_disjoint before middle front last after address byte was is disjoint pushed =
    let test : (run_end (plain_run last) == address) ≡ false = grind (arith, nat_tests) in
    let two : joined (plain_run last) address byte ≡ plain_run last ∷ run_at address (byte ∷ []) ∷ [] = rw test refl in
    let all : map_runs middle ++ run_at address (byte ∷ []) ∷ [] ≡ map_runs front ++ plain_run last ∷ run_at address (byte ∷ []) ∷ [] =
    rw (is, map-append plain_run front (last ∷ [])) (append_assoc (map_runs front) (plain_run last ∷ []) (run_at address (byte ∷ []) ∷ [])) in
    pushed ∙ all ∙ rw (was, map-append plain_run front (last ∷ []), with_byte_last (map_runs front) (plain_run last) address byte) (ap (λ runs. map_runs front ++ runs) (sym two))
