use Rattle.std.proofs.Common.{◌≡◌, ℕ, ◌*◌, ◌≤◌}
use Rattle.list_checks.specs.Sorted.{sum_below}
use Rattle.block_splitter.specs.Forms.{body_of}
use Rattle.energy_model.specs.Copied.{unit_words}
use Rattle.energy_model.proofs.words.units_words.Given as goal

pub record IsSum (total k : ℕ) (sum : ℕ) : Type 0 where
  pub is : total ≡ sum
  pub small : total ≤ k * 4294967295

abbrev pub invariant-loop-k : goal.invariant-loop-k
invariant-loop-k l = IsSum l.total l.k (sum_below (unit_words l.graph l.copied (body_of l.block)) l.k)
