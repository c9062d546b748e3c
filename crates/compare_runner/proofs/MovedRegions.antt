-- The regions of a trace are those of the result's placement, where that has regions.
use Rattle.std.proofs.Common.{◌≡◌, ◌∙◌, ◌⊎◌, inl, inr, ℕ, Bool, true, false, List, refl, sym, ap}
use Rattle.std.proofs.lemmas.Bool.{cases_Bool}
use Rattle.elf_reader.specs.File.{view_in}
use Rattle.board_config.specs.declared.board.Board.{Board}
use Rattle.object_graph.specs.declared.parts.Graph.{Graph}
use Rattle.code_blocks.specs.Early.{has}
use Rattle.code_blocks.specs.Blocks.{IsCode}
use Rattle.code_blocks.specs.Numbers.{starts_of}
use Rattle.code_blocks.specs.declared.parts.Code.{Code}
use Rattle.region_former.specs.declared.table.RegionTable.{RegionTable}
use Rattle.dataflow.specs.Overlaid.{region_in}
use Rattle.profile_runner.specs.Standing.{number_of, entered}
use Rattle.profile_runner.proofs.FindLemmas.{block_found}
use Rattle.result_laws.specs.HomeLaws.{IsAccepted}
use Rattle.result_laws.proofs.CodeUnits.{block_of}
use Rattle.result_laws.specs.PlacementLaws.{regions_on}
use Rattle.result_laws.specs.ChosenPlacement.{ChosenPlacement}
use Rattle.result_laws.specs.Walks.{BecomesCurrent}
use Rattle.relink_core.specs.Placed.{Taken, IsPlacementFor}
use Rattle.relink_core.specs.Sides.{blocks_on}
use Rattle.compare_runner.specs.Comings.{region_behind}

-- the placement has the regions of the blocks, or none
abbrev pub HasRegions : List ℕ → ChosenPlacement → Type 0
HasRegions regions pl = (pl.count ≡ 0) ⊎ (pl.regions ≡ regions)

sides : (on : Bool) (t : RegionTable) (pl : ChosenPlacement) → pl.count ≡ regions_on on t → pl.regions ≡ blocks_on on t → HasRegions t.of_block.items pl
sides false t pl count regions = inl count
sides true t pl count regions = inr regions

pub has_regions : (t : RegionTable) (taken : Taken) (pl : ChosenPlacement) → IsPlacementFor t taken pl → HasRegions t.of_block.items pl
has_regions t taken pl placed = sides taken.on t pl placed.count placed.regions

-- a region of the trace is one of the result
abbrev pub IsRegion : ChosenPlacement → ℕ → ℕ → Type 0
IsRegion pl region r = (pl.count ≡ 0) ⊎ (region ≡ r)

module _ (file : List ℕ) (board : Board) (g : Graph) (c : Code) (accepted : IsAccepted file board g) (code : IsCode (view_in file) c) where
  becomes_behind : (regions : List ℕ) (from v to : ℕ) → BecomesCurrent c regions v from to → region_behind (starts_of c) regions from v ≡ to
  becomes_behind regions from v to becomes =
      elim (cases_Bool (has (starts_of c) v)) [
        | inl begun ↦
            let there = block_of file board g c accepted code v (sym (code.leaders v) ∙ begun) in
            let found = block_found c v there.0 code.ascending there.1 there.2 in
            behind_begun begun
            ∙ (ap (λ (b : ℕ). entered from (region_in regions b)) found.1 ∙ sym (becomes.begins there.0 there.1 there.2))
        | inr none ↦ behind_on none ∙ sym (becomes.stays none)
      ]
    where
      behind_begun : has (starts_of c) v ≡ true → region_behind (starts_of c) regions from v ≡ entered from (region_in regions (number_of (starts_of c) v))
      behind_begun begun = rw (begun) refl

      behind_on : has (starts_of c) v ≡ false → region_behind (starts_of c) regions from v ≡ from
      behind_on none = rw (none) refl

  -- the region behind an arrival is that of the trace
  pub region_goes : (pl : ChosenPlacement) (regions : List ℕ) (region r v to : ℕ) → HasRegions regions pl → IsRegion pl region r → BecomesCurrent c pl.regions v r to → IsRegion pl (region_behind (starts_of c) regions region v) to
  region_goes pl regions region r v to (inl none) is becomes = inl none
  region_goes pl regions region r v to (inr same) (inl none) becomes = inl none
  region_goes pl regions region r v to (inr same) (inr is) becomes =
      inr
      (ap (λ (x : ℕ). region_behind (starts_of c) regions x v) is
      ∙ (ap (λ (xs : List ℕ). region_behind (starts_of c) xs r v) (sym same) ∙ becomes_behind pl.regions r v to becomes))
