-- The code that is put together of its parts, and the faults before it.
use Rattle.std.proofs.Common.{◌≡◌, ◌∙◌, ℕ, ◌+◌, ◌<◌, List, [], ◌∷◌, ◌++◌, map, take, length, slice_index_or, sym, ap, subst, Option, Some, None}
use Rattle.std.specs.List.{All}
use Rattle.std.specs.List.Sorted.{IsStrictlyIncreasing}
use Rattle.std.proofs.lemmas.List.{map-append, take_more}
use Rattle.std.proofs.lemmas.List.Elements.{All-push}
use Rattle.list_checks.specs.First.{◌or_else◌}
use Rattle.elf_reader.specs.File.{PlainView}
use Rattle.code_blocks.specs.Early.{has}
use Rattle.code_blocks.specs.AllLeaders.{IsLeaders}
use Rattle.code_blocks.specs.declared.lists.Leaders.{Leaders}
use Rattle.code_blocks.specs.Blocks.{start_of, IsBlock, IsCode}
use Rattle.code_blocks.specs.Kept.{AreKept}
use Rattle.code_blocks.specs.declared.fault.CodeFault.{CodeFault}
use Rattle.code_blocks.specs.declared.parts.Block.{Block}
use Rattle.code_blocks.specs.declared.parts.Code.{Code}
use Rattle.code_blocks.specs.declared.parts.Function.{Function}

-- of the leaders, the functions and the blocks
pub is_code : (v : PlainView) (leaders : Leaders) (functions : List Function) (c : Code) → IsLeaders v leaders → AreKept v c.functions.items → functions ≡ c.functions.items → map start_of c.blocks.items ≡ leaders.all.items → All (IsBlock v functions) c.blocks.items → c.indirect.items ≡ leaders.indirect.items → c.entry ≡ v.entry
    → IsCode v c
is_code v leaders functions c are kept same starts blocks indirect entry =
    record {
      entry = entry;
      kept = kept.kept;
      functions = kept.told;
      ascending = subst IsStrictlyIncreasing (sym starts) are.all_ascending;
      leaders = λ a. ap (λ (xs : List ℕ). has xs a) starts ∙ are.all a;
      blocks = subst (λ (fs : List Function). All (IsBlock v fs) c.blocks.items) same blocks;
      indirect_ascending = subst IsStrictlyIncreasing (sym indirect) are.indirect_ascending;
      indirect = λ a. ap (λ (xs : List ℕ). has xs a) indirect ∙ are.indirect a;
    }

-- the block at one more leader
pub blocks_more : (v : PlainView) (functions : List Function) (leaders : List ℕ) (i : ℕ) (blocks new : List Block) (b : Block) → i < length leaders → map start_of blocks ≡ take i leaders → All (IsBlock v functions) blocks → new ≡ blocks ++ b ∷ [] → b.start ≡ slice_index_or leaders i 0
    → IsBlock v functions b → (map start_of new ≡ take (i + 1) leaders) × All (IsBlock v functions) new
blocks_more v functions leaders i blocks new b below starts are pushed at is = (
  ap (map start_of) pushed
      ∙ map-append start_of blocks (b ∷ [])
      ∙ (λ j. starts j ++ at j ∷ [])
      ∙ sym (take_more leaders i 0 below),
  subst (All (IsBlock v functions)) (sym pushed) (All-push (IsBlock v functions) blocks b are is),
)

-- the last check that fails, where the two before hold
pub third_fault : (a b c : Option CodeFault) (fault : CodeFault) → a or_else b ≡ None → c ≡ Some fault → a or_else b or_else c ≡ Some fault
third_fault None None c fault none found = found
third_fault None (Some x) c fault none found = cc
third_fault (Some x) b c fault none found = cc
