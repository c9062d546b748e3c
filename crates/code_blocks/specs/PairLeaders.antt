-- Which leaders a pass over the call pairs adds.
use Rattle.std.specs.Prelude.{ℕ, Bool}
use Rattle.elf_reader.specs.File.{PlainView}
use Rattle.code_blocks.specs.Pairs.{leads_to, returns_to}
use Rattle.code_blocks.specs.declared.strata.PairRule.{PairRule}
use Rattle.code_blocks.specs.declared.strata.PairRule.TheVariants.{Target, Return}

-- by this rule, the pair at `p` makes `a` a leader
abbrev pub pair_leads : PairRule → PlainView → ℕ → ℕ → Bool
pair_leads Target v a p = leads_to v a p
pair_leads Return v a p = returns_to v a p
