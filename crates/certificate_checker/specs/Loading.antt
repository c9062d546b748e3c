-- What reading a dual node's rows into prices leaves, and what a walk over the text of a tree answers.
use Rattle.std.specs.Prelude.{◌≡◌, ℕ, ◌*◌, ◌^◌, ◌<◌, ◌≤◌, Bool, true, List, [], ◌∷◌, length, slice_index, Result, Ok, Err}
use Rattle.std.specs.Borrow.{Bor}
use Rattle.std.specs.List.{sum_by}
use Rattle.placement_programme.specs.Plain.{PlainSide}
use Rattle.placement_programme.specs.Bounds.{RowsWithin, row_of, value_of}
use Rattle.certificate_checker.specs.Prices.{credits}
use Rattle.certificate_checker.specs.Nodes.{PlainTree, branch, over, dual, leaf}
use Rattle.certificate_checker.specs.Reading.{cut_off}
use Rattle.certificate_checker.specs.Rules.{price}
use Rattle.certificate_checker.specs.Shows.{all_free}
use Rattle.certificate_checker.specs.Walks.{Walks}
use Rattle.certificate_checker.specs.declared.fault.CertFault.{CertFault}
use Rattle.certificate_checker.specs.declared.walking.Failing.{Failing}
use Rattle.certificate_checker.specs.declared.loading.Loaded.{Loaded}
use Rattle.certificate_checker.specs.declared.fixings.Fixing.{Fixing}

-- `row_end` is the least number above all rows; where the side has these rows, each variable has its price
pub record IsLoaded (s : PlainSide) (given : ℕ → ℕ) (row_end total : ℕ) (ms : List (ℕ × ℕ)) : Type 0 where
  pub ascending : RowsWithin 0 row_end ms
  pub tight : (high : ℕ) → RowsWithin 0 high ms → row_end ≤ high
  pub values : row_end ≤ length s.rows → (j : ℕ) → j < length s.vars → given j ≡ price s ms j
  pub bound : row_end ≤ length s.rows → total ≡ sum_by (λ m. value_of m * slice_index s.rows (row_of m)) ms
  pub small : total ≤ row_end * 2 ^ 96
  pub most : total ≤ length s.rows * 2 ^ 96
  pub low : (j : ℕ) → given j ≤ row_end * 2 ^ 96
  pub lowest : (j : ℕ) → given j ≤ length s.rows * 2 ^ 96

abbrev pub Loads : PlainSide → List Fixing → ℕ → (ℕ → ℕ) → Result (Loaded × Bor (List ℕ)) CertFault → Result (List (ℕ × ℕ) × List ℕ) CertFault → Type 0
Loads s marks scale given (Ok x) read =
    (ms : List (ℕ × ℕ)) × ((read ≡ Ok (ms, x.1.now)) × IsLoaded s given x.0.row_end x.0.bound ms × (x.0.credit ≡ credits s marks scale given))
Loads s marks scale given (Err e) read = read ≡ Err e

-- a tree that is one node
abbrev pub IsSingle : PlainTree → Type 0
IsSingle (branch j l r) = ⊥
IsSingle (over row) = Unit {0}
IsSingle (dual scale ms) = Unit {0}
IsSingle leaf = Unit {0}

-- what a walk over the text of a tree answers: the walk's answer for the tree that is read, or the text's fault
abbrev pub WalksRead : PlainSide → ℕ → List Fixing → ℕ → ℕ → Result (Result ℕ Failing × Bor (List ℕ)) CertFault → Result (PlainTree × List ℕ) CertFault → Type 0
WalksRead s best marks node depth (Ok x) read =
    (t : PlainTree) × ((read ≡ Ok (t, x.1.now)) × Walks s best marks t node depth x.0)
WalksRead s best marks node depth (Err e) read = read ≡ Err e

-- a node's answer behind others: its own where they hold, else that of the first that fails
abbrev pub WalksOn : PlainSide → ℕ → List Fixing → PlainTree → Result ℕ Failing → ℕ → Result ℕ Failing → Type 0
WalksOn s best marks t (Ok node) depth answer = Walks s best marks t node depth answer
WalksOn s best marks t (Err f) depth answer = answer ≡ Err f

abbrev pub WalksBehind : PlainSide → ℕ → List Fixing → Result ℕ Failing → ℕ → Result (Result ℕ Failing × Bor (List ℕ)) CertFault → Result (PlainTree × List ℕ) CertFault → Type 0
WalksBehind s best marks so_far depth (Ok x) read =
    (t : PlainTree) × ((read ≡ Ok (t, x.1.now)) × WalksOn s best marks t so_far depth x.0)
WalksBehind s best marks so_far depth (Err e) read = read ≡ Err e

-- what a walk over the text of a tree from its root answers, where the tree is judged and not only read
abbrev pub TreeWalked : PlainSide → Bool → ℕ → Result (Result ℕ Failing × Bor (List ℕ)) CertFault → Result (PlainTree × List ℕ) CertFault → Type 0
TreeWalked s judged best (Ok x) read =
    (t : PlainTree) × ((read ≡ Ok (t, x.1.now)) × (judged ≡ true → Walks s best (all_free s) t 0 0 x.0))
TreeWalked s judged best (Err e) read = read ≡ Err e

-- something is read, and the bytes behind it are left
abbrev pub Skips : {A : Type 0} → Result (Bor (List ℕ)) CertFault → Result (A × List ℕ) CertFault → Type 0
Skips {A} (Ok rest) read = (x : A) × (read ≡ Ok (x, rest.now))
Skips (Err e) read = read ≡ Err e

-- the first byte and those behind it
abbrev pub SplitsFirst : ℕ → List ℕ → Result (ℕ × Bor (List ℕ)) CertFault → Type 0
SplitsFirst total bytes (Ok x) = bytes ≡ x.0 ∷ x.1.now
SplitsFirst total bytes (Err e) = (bytes ≡ []) × (e ≡ cut_off total)
