use Rattle.std.proofs.Common.{map}
use Rattle.toml.specs.View.{table_view}
use Rattle.board_config.proofs.Names.{IsSearchedTo}
use Rattle.board_config.proofs.unknown_keys.unknown_name.Given as goal

abbrev pub invariant-loop-name : goal.invariant-loop-name
invariant-loop-name l = IsSearchedTo (map (λ name. name.now) l.known) (table_view l.table) l.name-iterator
