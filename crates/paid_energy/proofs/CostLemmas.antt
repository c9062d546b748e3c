-- What parts of a run cost: runs one behind the other, and fetches and accesses apart.
use Rattle.std.proofs.Common.{◌≡◌, ℕ, ◌+◌, List, [], ◌∷◌, ◌++◌, map, refl, ◌∙◌, ap, arith}
use Rattle.std.specs.Prelude.{Option, Some, None}
use Rattle.std.specs.List.{sum_by}
use Rattle.std.proofs.lemmas.List.Sums.{sum_by-append, sum_by-cons, sum_by_push}
use Rattle.board_config.specs.declared.board.Board.{Board}
use Rattle.flat_machine.specs.declared.events.FlatAccess.{FlatAccess}
use Rattle.flat_machine.specs.declared.events.FlatEvent.{FlatEvent}
use Rattle.patch_code.specs.Told.{access_in, accesses}
use Rattle.paid_energy.specs.Costs.{fetch_cost, access_cost, told_cost, event_cost, run_cost}

pub run_cost_joined : (board : Board) (es fs : List FlatEvent) → run_cost board (es ++ fs) ≡ run_cost board es + run_cost board fs
run_cost_joined board es fs = sum_by-append (event_cost board) es fs

pub run_cost_more : (board : Board) (es : List FlatEvent) (e : FlatEvent) → run_cost board (es ++ e ∷ []) ≡ run_cost board es + event_cost board e
run_cost_more board es e = sum_by_push (event_cost board) es e

pub run_cost_first : (board : Board) (e : FlatEvent) (es : List FlatEvent) → run_cost board (e ∷ es) ≡ event_cost board e + run_cost board es
run_cost_first board e es = sum_by-cons (event_cost board) e es

-- ---- fetches and accesses

-- what is fetched at these addresses costs
abbrev pub fetches_cost : Board → List ℕ → ℕ
fetches_cost board fetched = sum_by (fetch_cost board) fetched

abbrev pub accesses_cost : Board → List FlatAccess → ℕ
accesses_cost board told = sum_by (access_cost board) told

pub accesses_joined : (board : Board) (xs ys : List FlatAccess) → accesses_cost board (xs ++ ys) ≡ accesses_cost board xs + accesses_cost board ys
accesses_joined board xs ys = sum_by-append (access_cost board) xs ys

one_access : (board : Board) (access : Option FlatAccess) → accesses_cost board (access_in access) ≡ told_cost board access
one_access board None = refl
one_access board (Some access) = omega arith

accesses_first : (e : FlatEvent) (es : List FlatEvent) → accesses (e ∷ es) ≡ access_in e.access ++ accesses es
accesses_first e es = refl

-- a run costs what it fetches and what it accesses
pub run_cost_parts : (board : Board) (es : List FlatEvent) → run_cost board es ≡ fetches_cost board (map (λ e. e.at) es) + accesses_cost board (accesses es)
run_cost_parts board [] = refl
run_cost_parts board (e ∷ es) =
    let first = run_cost_first board e es in
    let rest = run_cost_parts board es in
    let fetched = sum_by-cons (fetch_cost board) e.at (map (λ e. e.at) es) in
    let told : accesses_cost board (accesses (e ∷ es)) ≡ told_cost board e.access + accesses_cost board (accesses es) =
    ap (accesses_cost board) (accesses_first e es)
    ∙ (accesses_joined board (access_in e.access) (accesses es) ∙ ap (λ n. n + accesses_cost board (accesses es)) (one_access board e.access)) in
    omega (arith, first, rest, fetched, told)
