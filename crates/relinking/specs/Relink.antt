-- What relinking makes of a file that was analysed: a choice of the programme that the file's run states, the file that
-- realises it, and the choice's certificate.
use Rattle.std.specs.Prelude.{ℕ, Bool, List}
use Rattle.elf_reader.specs.File.{view_in}
use Rattle.board_config.specs.declared.board.Board.{Board}
use Rattle.object_graph.specs.declared.parts.Graph.{Graph}
use Rattle.code_blocks.specs.declared.parts.Code.{Code}
use Rattle.block_splitter.specs.declared.piece.Piece.{Piece}
use Rattle.region_former.specs.declared.table.RegionTable.{RegionTable}
use Rattle.placement_programme.specs.Plain.{PlainProgramme, PlainChoice}
use Rattle.placement_programme.specs.Programme.{IsFeasible}
use Rattle.placement_programme.specs.Views.{plain_programme, plain_choice}
use Rattle.result_laws.specs.Choices.{IsChoiceFor}
use Rattle.relink_core.specs.Choices.{KeepsMeaning}
use Rattle.relink_core.specs.Standing.{AreStanding}
use Rattle.relink_core.specs.Placed.{taken_of, Realises}
use Rattle.relinking.specs.FoundChoice.{is_optimal, IsFound}
use Rattle.relinking.specs.MeasuredRuns.{EndsSo}
use Rattle.relinking.specs.ProgrammeOfRun.{StatesProgramme}
use Rattle.relinking.specs.MixOfRuns.{WeightedInput, StatesTogether}
use Rattle.relinking.specs.declared.making.Relinked.{Relinked}
use Rattle.relinking.specs.declared.making.RelinkedRun.{RelinkedRun}

-- A choice that is found of a programme, with its certificate. The result realises the choice and keeps the file's
-- meaning, on any input; where nothing is taken without overlay it is the file, and only paired runs are spoken of.
pub record IsResult (file : List ℕ) (board : Board) (g : Graph) (c : Code) (t : RegionTable) (p : PlainProgramme) (choice : PlainChoice) (says_optimal : Bool) (certificate out : List ℕ) : Type 0 where
  pub found : IsFound p board.nodes choice certificate says_optimal
  pub realises : Realises file board g c t (taken_of p choice) out
  pub keeps : KeepsMeaning (taken_of p choice) file out board

-- the programme has a choice, one for this graph, code, table of regions and these pieces, and the result is one for that
-- choice, in which what it takes stands at its places
pub record IsRelinkedFor (file : List ℕ) (board : Board) (g : Graph) (c : Code) (t : RegionTable) (pieces : List Piece) (r : Relinked) : Type 0 where
  pub chosen : IsChoiceFor board g c t pieces (plain_programme r.programme) (plain_choice r.found.choice)
  pub result : IsResult file board g c t (plain_programme r.programme) (plain_choice r.found.choice) (is_optimal r.found.status) r.certificate.items r.result.bytes.items
  pub stands : AreStanding board g c t (plain_programme r.programme) (plain_choice r.found.choice) r.result.names.items r.result.copies.items r.result.places

-- each feasible choice of a programme is one for this graph, code, table of regions and these pieces
abbrev pub AreChoicesFor : Board → Graph → Code → RegionTable → List Piece → PlainProgramme → Type 0
AreChoicesFor board g c t pieces p = (choice : PlainChoice) → IsFeasible p choice → IsChoiceFor board g c t pieces p choice

-- the file's run on the input states the programme, by this graph, code, table of regions and these pieces, and ended so
pub record RelinksBy (file : List ℕ) (board : Board) (g : Graph) (c : Code) (t : RegionTable) (pieces : List Piece) (input : List ℕ) (r : RelinkedRun) : Type 0 where
  pub states : StatesProgramme (view_in file) board g c t pieces input (plain_programme r.relinked.programme)
  pub ended : EndsSo (view_in file) board g input r.end
  pub made : IsRelinkedFor file board g c t pieces r.relinked

-- the file's runs on several inputs state it together
pub record RelinksTogether (file : List ℕ) (board : Board) (g : Graph) (c : Code) (t : RegionTable) (pieces : List Piece) (inputs : List WeightedInput) (r : Relinked) : Type 0 where
  pub states : StatesTogether (view_in file) board g c t pieces inputs (plain_programme r.programme)
  pub made : IsRelinkedFor file board g c t pieces r
