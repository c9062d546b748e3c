-- The bytes of a text that is made before it is printed.
use Rattle.std.specs.Prelude.{ℕ, List, ◌++◌}
use Rattle.std.specs.List.{flat_map}
use Rattle.printed_lines.specs.declared.text.NamedPart.{NamedPart}
use Rattle.printed_lines.specs.declared.text.Text.{Text}

-- those of a part, and the name behind them
abbrev pub part_of : NamedPart → List ℕ
part_of part = part.before.items ++ part.name.now

-- the parts one after the other, and then the rest
unfoldable pub text_of : Text → List ℕ
text_of text = flat_map part_of text.parts.items ++ text.rest.items
