-- The jobs of names, by a table of places.
use Rattle.std.specs.Prelude.{◌≡◌, ℕ, ◌+◌, ◌*◌, ◌%◌, ◌<◌, ◌≤◌, Bool, true, false, if◌then◌else◌, List, [], ◌∷◌, ◌++◌, map, length, slice_index_or, All}
use Rattle.object_graph.specs.declared.parts.Graph.{Graph}
use Rattle.cell_values.specs.Objects.{object_of}
use Rattle.placement_programme.specs.declared.variables.VarName.{VarName}
use Rattle.placement_programme.specs.declared.variables.VarName.TheVariants.{StaticData, StaticCode, OverlayData, OverlayCode, KeptData}
use Rattle.patch_code.specs.declared.job.CopyJob.{CopyJob}
use Rattle.relocator.specs.declared.places.Places.{Places}
use Rattle.relocator.specs.declared.slots.Slot.{Slot}
use Rattle.relocator.specs.Placing.{puts, placed, place_at, ArePlaces}
use Rattle.relocator.specs.SiteWords.{row_length}
use Rattle.relink_core.specs.declared.placed_copy.PlacedCopy.{PlacedCopy}
use Rattle.result_laws.specs.ChosenJobs.{Images, is_static, is_overlaid, is_kept, next_code}
use Rattle.result_laws.specs.PlacedPieces.{PlacedPiece, piece_bytes}
use Rattle.result_laws.specs.ChosenPlacement.{no_piece}
use Rattle.relink_core.specs.declared.items.Phase.{Phase}
use Rattle.relink_core.specs.declared.items.Phase.TheVariants.{Start, Overlaid, Kept}
use Rattle.relink_core.specs.declared.items.PlannedItems.{PlannedItems}

-- ---- phases

abbrev pub in_phase : Phase → VarName → Bool
in_phase Start = is_static
in_phase (Overlaid region) = is_overlaid region
in_phase (Kept region) = is_kept region

-- the region in which its places are
abbrev pub phase_region : Phase → ℕ
phase_region Start = 0
phase_region (Overlaid region) = region
phase_region (Kept region) = region

abbrev pub overlay_phase : Bool → ℕ → Phase
overlay_phase false region = Overlaid region
overlay_phase true region = Kept region

-- ---- pieces of copies

-- the pieces of copies whose images stand one behind the other
abbrev pub placed_piece : ℕ → PlacedCopy → PlacedPiece
placed_piece image x =
    record { range = x.range; at = x.at; image = image; words = x.code.words.items; starts = x.code.starts.items }

abbrev pub placed_pieces : ℕ → List PlacedCopy → List PlacedPiece
placed_pieces image [] = []
placed_pieces image (x ∷ xs) = placed_piece image x ∷ placed_pieces (image + 4 * length x.code.words.items) xs

abbrev pub images_of : List PlacedPiece → Images
images_of xs =
    record { at = λ n. (slice_index_or xs n no_piece).image; bytes = λ n. piece_bytes (slice_index_or xs n no_piece) }

-- the words and the bytes of a copy
abbrev pub copied_words : PlacedCopy → List ℕ
copied_words x = x.code.words.items

abbrev pub copied_bytes : PlacedCopy → ℕ
copied_bytes x = 4 * length x.code.words.items

-- ---- slots

abbrev pub name_in : Slot → VarName
name_in s = s.name

-- names and places are those of slots, and each slot tells where its object stands
pub record AreSlotted (items : PlannedItems) (slots : List Slot) : Type 0 where
  pub names : items.names.now ≡ map name_in slots
  pub places : ArePlaces items.graph.now items.regions slots items.places.now
  pub stand : (region o : ℕ) → region ≤ items.regions → All (λ s. puts s.name region o ≡ true
      → placed items.graph.now slots region o ≡ s.at + (object_of items.graph.now o).home % items.graph.now.grain) slots

-- ---- what code asks

abbrev pub IsKnown : Graph → VarName → Type 0
IsKnown g (StaticData o) = o < length g.objects.items
IsKnown g (StaticCode first last) = Unit {0}
IsKnown g (OverlayData own o) = o < length g.objects.items
IsKnown g (OverlayCode own first last) = Unit {0}
IsKnown g (KeptData pair o) = o < length g.objects.items

-- how many are names of code
abbrev pub code_count : List VarName → ℕ
code_count [] = 0
code_count (name ∷ names) = next_code name (code_count names)

-- objects are those of the graph and have places, and each name of code has a slot and a copy
pub record CanPlan (items : PlannedItems) : Type 0 where
  pub known : All (IsKnown items.graph.now) items.names.now
  pub objects : length items.graph.now.objects.items ≤ length items.places.now.of.items
  pub rows : (o : ℕ) → o < length items.graph.now.objects.items → items.regions < row_length items.places.now o
  pub slots : code_count items.names.now ≤ length items.places.now.code.items
  pub copies : code_count items.names.now ≤ length items.copies.now
  pub small : All (λ x. copied_bytes x < 4294967296) items.copies.now

-- ---- jobs

abbrev pub object_into : Graph → Places → ℕ → ℕ → CopyJob
object_into g places r o =
    record { from = (object_of g o).home; to = place_at places o r; bytes = (object_of g o).size }

abbrev pub object_home : Graph → Places → ℕ → ℕ → CopyJob
object_home g places r o =
    record { from = place_at places o r; to = (object_of g o).home; bytes = (object_of g o).size }

abbrev pub code_into : Places → Images → ℕ → CopyJob
code_into places images n =
    record { from = images.at n; to = slice_index_or places.code.items n 0; bytes = images.bytes n }

abbrev pub named_into : Graph → Places → Images → ℕ → ℕ → VarName → CopyJob
named_into g places images r n (StaticData o) = object_into g places r o
named_into g places images r n (StaticCode first last) = code_into places images n
named_into g places images r n (OverlayData own o) = object_into g places r o
named_into g places images r n (OverlayCode own first last) = code_into places images n
named_into g places images r n (KeptData pair o) = object_into g places r o

abbrev pub back_jobs : Graph → Places → ℕ → ℕ → List CopyJob
back_jobs g places r o = if (object_of g o).writable then object_home g places r o ∷ [] else []

abbrev pub named_home : Graph → Places → ℕ → VarName → List CopyJob
named_home g places r (StaticData o) = back_jobs g places r o
named_home g places r (StaticCode first last) = []
named_home g places r (OverlayData own o) = back_jobs g places r o
named_home g places r (OverlayCode own first last) = []
named_home g places r (KeptData pair o) = back_jobs g places r o

-- of those that pass, where `n` names of code come before
abbrev pub named_entering : (VarName → Bool) → Graph → Places → Images → ℕ → ℕ → List VarName → List CopyJob
named_entering which g places images r n [] = []
named_entering which g places images r n (name ∷ names) =
    (if which name then named_into g places images r n name ∷ [] else []) ++ named_entering which g places images r (next_code name n) names

abbrev pub named_leaving : (VarName → Bool) → Graph → Places → ℕ → List VarName → List CopyJob
named_leaving which g places r [] = []
named_leaving which g places r (name ∷ names) =
    (if which name then named_home g places r name else []) ++ named_leaving which g places r names

-- ---- of the items of a plan, whose images stand at these places

abbrev pub images_at : List ℕ → List PlacedCopy → Images
images_at places copies =
    record { at = λ n. slice_index_or places n 0; bytes = λ n. slice_index_or (map copied_bytes copies) n 0 }

abbrev pub phase_entering : Phase → PlannedItems → List ℕ → List CopyJob
phase_entering phase items images =
    named_entering (in_phase phase) items.graph.now items.places.now (images_at images items.copies.now) (phase_region phase) 0 items.names.now

abbrev pub phase_leaving : Phase → PlannedItems → List CopyJob
phase_leaving phase items =
    named_leaving (in_phase phase) items.graph.now items.places.now (phase_region phase) items.names.now
