-- Laws about texts.
use Rattle.std.specs.Prelude.{◌≡◌, ℕ, ◌<◌, List, Option, Some}
use Rattle.elf_reader.specs.File.{PlainSegment}
use Rattle.elf_reader.specs.Loadable.{AreLoadable, AreDisjoint}
use Rattle.hex_image.specs.Runs.{ByteMap, file_map}
use Rattle.hex_image.specs.Text.{hex_text}
use Rattle.hex_image.specs.Reading.{Spells}
use Rattle.hex_image.specs.Difference.{AreSame}

-- the text of a file spells its bytes and its entry
abbrev pub TextSpellsImage : Type 0
TextSpellsImage =
    (segments : List PlainSegment) (entry : ℕ) → AreLoadable segments → AreDisjoint segments → entry < 4294967296 → Spells (hex_text segments entry) (file_map segments) (Some entry)

-- a text spells one map and one entry at most
abbrev pub OneSpelling : Type 0
OneSpelling =
    (text : List ℕ) (one other : ByteMap) (start other_start : Option ℕ) → Spells text one start → Spells text other other_start → AreSame one other × (start ≡ other_start)
