-- Where control goes behind a block.
use Rattle.std.specs.Prelude.{ℕ, ◌==◌, Bool, true, false, ◌&&◌, List, [], ◌∷◌}
use Rattle.std.specs.List.{list_any}
use Rattle.elf_reader.specs.File.{PlainView}
use Rattle.code_blocks.specs.Leaders.{is_leader, is_indirect}
use Rattle.code_blocks.specs.Ends.{end_of}
use Rattle.code_blocks.specs.declared.ends.End.{End}
use Rattle.code_blocks.specs.declared.ends.End.TheVariants.{Fall, Branch, Jump, Call, Tail, Indirect, Stop}

-- the addresses to which an end leads by itself
abbrev pub successors : End → List ℕ
successors (Fall next) = next ∷ []
successors (Branch target next) = target ∷ next ∷ []
successors (Jump target) = target ∷ []
successors (Call target back link) = target ∷ []
successors (Tail target) = target ∷ []
successors (Indirect back) = []
successors Stop = []

-- it leads to an address in a register
abbrev pub is_indirect_end : End → Bool
is_indirect_end (Indirect back) = true
is_indirect_end other = false

-- a direct edge leads from the block at `a` to the one at `b`
abbrev pub has_direct_edge : PlainView → ℕ → ℕ → Bool
has_direct_edge v a b =
    is_leader v a && is_leader v b && list_any (λ x. x == b) (successors (end_of v a))

-- an indirect one does
abbrev pub has_indirect_edge : PlainView → ℕ → ℕ → Bool
has_indirect_edge v a b = is_leader v a && is_indirect v b && is_indirect_end (end_of v a)
