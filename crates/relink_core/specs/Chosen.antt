-- What a choice takes, as it is read and laid out, and the code whose pieces are copied for it.
use Rattle.std.specs.Prelude.{◌≡◌, ℕ, Bool, List, map}
use Rattle.elf_reader.specs.File.{plain_view, view_in}
use Rattle.elf_reader.specs.declared.view.ElfView.{ElfView}
use Rattle.loaded_file.specs.Read.{IsRead}
use Rattle.board_config.specs.declared.board.Board.{Board}
use Rattle.code_blocks.specs.Blocks.{IsCode}
use Rattle.dataflow.specs.Tables.{IsTableOf}
use Rattle.region_former.specs.declared.table.RegionTable.{RegionTable}
use Rattle.block_splitter.specs.Pieces.{ArePieces}
use Rattle.placement_programme.specs.Plain.{PlainProgramme, PlainChoice}
use Rattle.placement_programme.specs.declared.variables.VarName.{VarName}
use Rattle.relocator.specs.declared.places.Places.{Places}
use Rattle.relocator.specs.Placing.{chosen_slots, ArePlaces}
use Rattle.relocator.specs.SiteWords.{AreSiteWords}
use Rattle.result_laws.specs.Choices.{IsChoiceFor}
use Rattle.result_laws.specs.PlacementLaws.{regions_on}
use Rattle.relink_core.specs.declared.code_regions.CodeRegions.{CodeRegions}
use Rattle.relink_core.specs.declared.copy_source.CopySource.{CopySource}
use Rattle.relink_core.specs.Regions.{AreRegions}
use Rattle.relink_core.specs.PlanLaws.{borders_on}
use Rattle.relink_core.specs.Sides.{blocks_on}
use Rattle.relink_core.specs.Names.{objects_named, ranges_named}
use Rattle.relink_core.specs.Extending.{IsExtendable}
use Rattle.relink_core.specs.Written.{AreSiteRegions}
use Rattle.relink_core.specs.Names.{name_of_slot}
use Rattle.relink_core.specs.declared.analysis.Analysis.{Analysis}
use Rattle.relink_core.specs.declared.choosing.TakenNames.{TakenNames}

-- the regions of a side
pub record AreRegionsOf (on : Bool) (t : RegionTable) (w : CodeRegions) : Type 0 where
  pub count : w.count ≡ regions_on on t
  pub of_block : w.of_block.now ≡ blocks_on on t
  pub border : w.border.now ≡ borders_on on t

-- the names of what a choice takes
abbrev pub names_of : Board → PlainProgramme → PlainChoice → List VarName
names_of board p choice = map name_of_slot (chosen_slots board p choice)

-- its names, objects that stand in the scratchpad throughout, and ranges
pub record AreNamed (board : Board) (p : PlainProgramme) (choice : PlainChoice) (t : TakenNames) : Type 0 where
  pub names : t.names.items ≡ names_of board p choice
  pub objects : t.objects.items ≡ objects_named (names_of board p choice)
  pub ranges : t.ranges.items ≡ ranges_named (names_of board p choice)

-- the same of a choice for an analysis, and where it stands
pub record IsTakenBy (board : Board) (a : Analysis) (p : PlainProgramme) (choice : PlainChoice) (t : TakenNames) : Type 0 where
  pub chosen : IsChoiceFor board a.graph a.code a.regions a.pieces.items p choice
  pub named : AreNamed board p choice t
  pub laid : ArePlaces a.graph (regions_on choice.on a.regions) (chosen_slots board p choice) t.places

-- the code of an analysed file, its regions and pieces, and the new words of its sites, for a choice
pub record IsSourceOf (file : List ℕ) (board : Board) (view : ElfView) (s : CopySource) (w : CodeRegions) (t : RegionTable) (p : PlainProgramme) (choice : PlainChoice) (taken : TakenNames) : Type 0 where
  pub read : IsRead view
  pub same : plain_view view ≡ view_in file
  pub extendable : IsExtendable file board s.graph.now
  pub code : IsCode (view_in file) s.code.now
  pub live : IsTableOf s.code.now s.live.now
  pub pieces : ArePieces s.code.now s.graph.now s.pieces.now
  pub regions : AreRegions (view_in file) s.code.now board t
  pub on_side : AreRegionsOf choice.on t w
  pub chosen : IsChoiceFor board s.graph.now s.code.now t s.pieces.now p choice
  pub named : AreNamed board p choice taken
  pub laid : ArePlaces s.graph.now (regions_on choice.on t) (chosen_slots board p choice) taken.places
  pub region_at : List ℕ
  pub site_regions : AreSiteRegions s.code.now w.of_block.now s.graph.now region_at
  pub words : AreSiteWords (view_in file) s.graph.now taken.places region_at s.sites.now

-- the new words of the sites of an analysed file, in the regions of a side
pub record HaveWords (a : Analysis) (w : CodeRegions) (places : Places) (words : List (ℕ × ℕ)) : Type 0 where
  pub region_at : List ℕ
  pub site_regions : AreSiteRegions a.code w.of_block.now a.graph region_at
  pub words_are : AreSiteWords (plain_view a.view) a.graph places region_at words
