-- The first listed name that fails.
use Rattle.std.proofs.Common.{◌≡◌, ◌⊎◌, inl, inr, ℕ, suc, ◌<◌, List, length, Option, Some, None, sym}
use Rattle.list_checks.specs.First.{first_below}
use Rattle.list_checks.proofs.FirstLemmas.{first_found}
use Rattle.elf_reader.specs.File.{PlainView}
use Rattle.code_blocks.specs.declared.parts.Function.{Function}
use Rattle.region_former.specs.Faults.{Fault, plain_fault}
use Rattle.region_former.specs.Listing.{list_at}
use Rattle.region_former.specs.Listed.{AreListed}
use Rattle.region_former.specs.declared.fault.RegionFault.{RegionFault}
use Rattle.region_former.specs.declared.fault.RegionFault.TheVariants.{Memory}

pub tells_first : (check : ℕ → Option Fault) (n i : ℕ) (fault : RegionFault) → i < n → first_below check i ≡ None → (fault ≡ Memory) ⊎ (check i ≡ Some (plain_fault fault)) → (fault ≡ Memory) ⊎ (first_below check n ≡ Some (plain_fault fault))
tells_first check n i fault below none (inl memory) = inl memory
tells_first check n i fault below none (inr found) = inr (first_found check n i (plain_fault fault) below none found)

-- the regions by a list and all of the next
pub listed_whole : (v : PlainView) (functions : List Function) (lists : List (List (List ℕ))) (i j : ℕ) (regions : List ℕ) → j ≡ length (list_at lists i) → AreListed v functions lists i j regions → AreListed v functions lists (suc i) 0 regions
listed_whole v functions lists i j regions whole listed =
    record {
      one_each = listed.one_each;
      each = λ f below. rw (sym whole) (listed.each f below);
    }
