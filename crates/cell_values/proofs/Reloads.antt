-- Words that are stored and loaded again.
use Rattle.std.proofs.Common.{◌≡◌, ℕ, ◌<◌, ap, arith}
use Rattle.std.proofs.lemmas.Bool.Decides.{nat_tests}
use Rattle.rv32im.specs.Words.{BytesRebuild}
use Rattle.cell_values.specs.Cells.{split}
use Rattle.cell_values.specs.Laws.{joined, SplitJoins}
use Rattle.cell_values.specs.declared.values.Val.TheVariants.{Int, Addr, Hi}

pub addresses : (o d : ℕ) → joined (split (Addr o d)) ≡ Addr o d
addresses o d = grind (arith, nat_tests)

pub uppers : (o d : ℕ) → joined (split (Hi o d)) ≡ Hi o d
uppers o d = grind (arith, nat_tests)

pub numbers : (n : ℕ) → n < 4294967296 → joined (split (Int n)) ≡ Int n
numbers n below = ap Int (omega (arith, below))

pub split_joins : BytesRebuild → SplitJoins
split_joins rebuild = (λ n word. ap Int (rebuild n word), addresses, uppers)
