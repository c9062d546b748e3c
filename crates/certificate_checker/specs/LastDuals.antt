-- The dual node that was read last: its prices, its credits and its text.
use Rattle.std.specs.Prelude.{◌≡◌, ℕ, ◌≤◌, List, [], ◌∷◌, ◌++◌, Option, Some, None, Result, Ok, Err}
use Rattle.std.specs.Borrow.{Bor}
use Rattle.placement_programme.specs.Plain.{PlainSide}
use Rattle.certificate_checker.specs.Nodes.{PlainTree, dual}
use Rattle.certificate_checker.specs.Prices.{priced_at, credits}
use Rattle.certificate_checker.specs.Loading.{IsLoaded}
use Rattle.certificate_checker.specs.Spelling.{tree_text, IsDualInRange}
use Rattle.certificate_checker.specs.declared.fault.CertFault.{CertFault}
use Rattle.certificate_checker.specs.declared.fixings.Fixing.{Fixing}
use Rattle.certificate_checker.specs.declared.dual_prices.DualPrices.{DualPrices}

-- the prices are those of these rows, and the credits are those of the marks
pub record IsPricedBy (s : PlainSide) (marks : List Fixing) (p : DualPrices) (ms : List (ℕ × ℕ)) : Type 0 where
  pub least : 1 ≤ p.scale
  pub most : p.scale ≤ 65536
  pub loaded : IsLoaded s (priced_at p.stamp p.list.items) p.loaded.row_end p.loaded.bound ms
  pub credit : p.loaded.credit ≡ credits s marks p.scale (priced_at p.stamp p.list.items)

-- what is kept of a dual node's text behind its tag: all of it or nothing
abbrev pub IsKeptText : List ℕ → ℕ → List (ℕ × ℕ) → Type 0
IsKeptText [] scale ms = Unit {0}
IsKeptText (b ∷ text) scale ms = IsDualInRange scale ms × (2 ∷ b ∷ text ≡ tree_text (dual scale ms))

-- the prices are those of some node
abbrev pub IsLast : PlainSide → List Fixing → DualPrices → Type 0
IsLast s marks p = (ms : List (ℕ × ℕ)) × (IsPricedBy s marks p ms × IsKeptText p.text.items p.scale ms)

-- a node's text that is kept stands first, and these bytes stand behind it
abbrev pub IsBehindSame : List ℕ → List ℕ → Option (Bor (List ℕ)) → Type 0
IsBehindSame text bytes None = Unit {0}
IsBehindSame text bytes (Some rest) = (text ≡ [] → ⊥) × (bytes ≡ text ++ rest.now)

-- a dual node is read, and the prices are those of it
abbrev pub LoadsDual : PlainSide → List Fixing → DualPrices → Result (Bor (List ℕ)) CertFault → Result (PlainTree × List ℕ) CertFault → Type 0
LoadsDual s marks p (Ok rest) read =
    (ms : List (ℕ × ℕ))
    × ((read ≡ Ok (dual p.scale ms, rest.now)) × IsPricedBy s marks p ms × IsKeptText p.text.items p.scale ms)
LoadsDual s marks p (Err e) read = read ≡ Err e
