-- What is looked up in a graph by an address.
use Rattle.std.specs.Prelude.{ℕ, ◌+◌, ◌<◌, ◌≤◌, ◌==◌, Bool, List}
use Rattle.std.specs.List.{All, AllPairs}
use Rattle.elf_reader.specs.File.{PlainView}
use Rattle.board_config.specs.declared.board.Board.{Board}
use Rattle.object_graph.specs.Graphs.{IsGraph}
use Rattle.object_graph.specs.declared.parts.Object.{Object}
use Rattle.object_graph.specs.declared.parts.Site.{Site}
use Rattle.object_graph.specs.declared.parts.DataWord.{DataWord}
use Rattle.object_graph.specs.declared.parts.Graph.{Graph}

-- the graph of some file and board
abbrev pub IsSomeGraph : Graph → Type 0
IsSomeGraph g = (v : PlainView) × (board : Board) × IsGraph v board g

-- objects ascend, share no byte, and have bytes
pub record AreLaidOut (objects : List Object) : Type 0 where
  pub disjoint : AllPairs (λ a b. a.home + a.size ≤ b.home) objects
  pub filled : All (λ o. 0 < o.size) objects

-- a site stands at an address, and a word of data begins there
abbrev pub stands_at : ℕ → Site → Bool
stands_at address s = s.at == address

abbrev pub begins_at : ℕ → DataWord → Bool
begins_at address d = d.at == address
