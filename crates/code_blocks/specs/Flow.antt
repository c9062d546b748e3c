-- Which leaders a pass over the words of code adds.
use Rattle.std.specs.Prelude.{ℕ, Bool}
use Rattle.elf_reader.specs.File.{PlainView}
use Rattle.code_blocks.specs.Leaders.{link_comes_back}
use Rattle.code_blocks.specs.Early.{flows_to}
use Rattle.code_blocks.specs.declared.flow.FlowRule.{FlowRule}
use Rattle.code_blocks.specs.declared.flow.FlowRule.TheVariants.{All, Links}

-- by this rule, the word at `p` makes `a` a leader
abbrev pub leads_by : FlowRule → PlainView → ℕ → ℕ → Bool
leads_by All v a p = flows_to v a p
leads_by Links v a p = link_comes_back v a p
