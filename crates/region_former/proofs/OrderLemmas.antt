-- What holds of the functions and blocks of all code.
use Rattle.std.proofs.Common.{ℕ, ◌<◌, List, [], ◌∷◌, map, length, slice_index_or, Option, Some, None, sym, subst, arith}
use Rattle.std.specs.List.{All}
use Rattle.std.proofs.lemmas.List.{get_or-map}
use Rattle.elf_reader.specs.File.{PlainView}
use Rattle.code_blocks.specs.Blocks.{IsFunctionOf, IsBlock, IsCode}
use Rattle.code_blocks.specs.declared.parts.Block.{Block}
use Rattle.code_blocks.specs.declared.parts.Code.{Code}
use Rattle.code_blocks.specs.declared.parts.Function.{Function}
use Rattle.code_blocks.proofs.OrderLemmas.{functions_disjoint, functions_filled}
use Rattle.region_former.specs.Naming.{AreOrdered}
use Rattle.region_former.specs.Flow.{IsPlace, IsOrderly}
use Rattle.code_blocks.specs.Leads.{owner_of}

are_ordered : (v : PlainView) (c : Code) → IsCode v c → AreOrdered c.functions.items
are_ordered v c code = record { disjoint = functions_disjoint v c code; filled = functions_filled v c code }

place_of_function : (fs : List Function) (a : ℕ) (o : Option ℕ) → IsFunctionOf fs a o → IsPlace (length fs) o
place_of_function fs a None is = tt
place_of_function fs a (Some j) is = is.0

owners_of : (v : PlainView) (fs : List Function) (blocks : List Block) (b : ℕ) → All (IsBlock v fs) blocks → b < length blocks → IsPlace (length fs) (slice_index_or (map owner_of blocks) b None)
owners_of v fs [] b are below = absurd (omega (arith, below))
owners_of v fs (block ∷ blocks) b are below =
    subst (IsPlace (length fs)) (sym (get_or-map owner_of (block ∷ blocks) b block None below))
    (place_of_function fs (slice_index_or (block ∷ blocks) b block).start (slice_index_or (block ∷ blocks) b block).function (are b block below).function)

pub is_orderly : (v : PlainView) (c : Code) → IsCode v c → IsOrderly c
is_orderly v c code =
    record {
      functions = are_ordered v c code;
      ascending = code.ascending;
      indirect = code.indirect_ascending;
      owners = λ b below. owners_of v c.functions.items c.blocks.items b code.blocks below;
    }
