-- What a map tells of a file, a board, an input and a certificate: what stands where in the file that realises the
-- certificate's choice.
use Rattle.std.specs.Prelude.{◌≡◌, ℕ, List}
use Rattle.elf_reader.specs.File.{view_in}
use Rattle.board_config.specs.declared.board.Board.{Board}
use Rattle.object_graph.specs.declared.parts.Graph.{Graph}
use Rattle.code_blocks.specs.declared.parts.Code.{Code}
use Rattle.region_former.specs.declared.table.RegionTable.{RegionTable}
use Rattle.placement_programme.specs.Plain.{PlainProgramme, PlainChoice}
use Rattle.result_laws.specs.PlacementLaws.{regions_on}
use Rattle.relink_core.specs.MadeResults.{MadeForms}
use Rattle.relink_core.specs.Placed.{Taken, taken_of}
use Rattle.relink_core.specs.UnitMaps.{MakesWithUnits}
use Rattle.relink_core.specs.declared.realising.Realised.{Realised}
use Rattle.relink_core.specs.declared.unit_forms.UnitAt.{UnitAt}
use Rattle.compare_runner.specs.TraceLaws.{made_places}
use Rattle.command_line.specs.Analysed.{IsOpened}
use Rattle.command_line.specs.PaidFile.{MakesOf}
use Rattle.command_line.specs.TraceFile.{HasUnits}
use Rattle.command_line.specs.declared.opened.Opened.{Opened}
use Rattle.result_map.specs.MapText.{MapOf, map_text}

-- the map of a result with its units
abbrev pub mapped : (file : List ℕ) (board : Board) (g : Graph) (c : Code) (t : RegionTable) (taken : Taken) (r : Realised) (units : List UnitAt) → MakesWithUnits file board g c t taken r.bytes.items units → MapOf
mapped file board g c t taken r units made =
    record {
      view = view_in file;
      patch = board.patch;
      objects = g.objects.items;
      functions = c.functions.items;
      regions = regions_on taken.on t;
      parts = r.moved;
      units = units;
      places = made_places file board g c t taken r.bytes.items units made;
    }

-- a result was made for a choice, with these parts; these are the forms of units in it, as `trace` has them; and the text is
-- the map of both
pub record MapsMade (file : List ℕ) (o : Opened) (p : PlainProgramme) (choice : PlainChoice) (text : List ℕ) : Type 0 where
  pub result : Realised
  pub parts : MadeForms file o.board o.analysis (taken_of p choice) result result.moved
  pub units : List UnitAt
  pub made : MakesWithUnits file o.board o.analysis.graph o.analysis.code o.analysis.regions (taken_of p choice) result.bytes.items units
  pub text_is : text ≡ map_text (mapped file o.board o.analysis.graph o.analysis.code o.analysis.regions (taken_of p choice) result units made)

-- what is found of the program is what the analysis has
pub record IsFoundBy (file : List ℕ) (o : Opened) (input cert out : List ℕ) (m : MakesOf file o.board input cert out) : Type 0 where
  pub graph : m.states.found.graph ≡ o.analysis.graph
  pub code : m.states.found.code ≡ o.analysis.code
  pub regions : m.states.found.regions ≡ o.analysis.regions

-- The text is the map of the file that realises the certificate's choice: its units are those of which `trace` tells, and its
-- objects stand where `trace` has them in each region
pub record MapsTo (file board_text input cert text : List ℕ) : Type 0 where
  pub opened : Opened
  pub is : IsOpened board_text file opened
  pub result : Realised
  pub makes : MakesOf file opened.board input cert result.bytes.items
  pub found : IsFoundBy file opened input cert result.bytes.items makes
  pub parts : MadeForms file opened.board opened.analysis (taken_of makes.programme makes.choice) result result.moved
  pub units : List UnitAt
  pub made : HasUnits file opened.board input cert result.bytes.items makes units
  pub text_is :
      text ≡ map_text (mapped file opened.board makes.states.found.graph makes.states.found.code makes.states.found.regions (taken_of makes.programme makes.choice) result units made)
