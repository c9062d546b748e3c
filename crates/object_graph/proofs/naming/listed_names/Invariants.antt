use Rattle.std.proofs.Common.{◌≡◌, ℕ, List, take, bytes_eq}
use Rattle.std.specs.List.{list_any}
use Rattle.board_config.specs.Board.{plain_texts}
use Rattle.object_graph.specs.Names.{has_name}
use Rattle.object_graph.proofs.naming.listed_names.Given as goal

abbrev pub invariant-loop-listed : goal.invariant-loop-listed
invariant-loop-listed l =
    (name : List ℕ) → has_name l.names name ≡ list_any (λ listed. bytes_eq listed name) (take l.listed-index (plain_texts l.board.fix))
