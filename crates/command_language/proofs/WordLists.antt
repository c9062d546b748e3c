-- Lemmas on the lists of words of a command line.
use Rattle.std.proofs.Common.{List, All, string_bytes, String, Global}
use Rattle.std.proofs.lemmas.List.{get_or-map, length-map}
use Rattle.command_language.specs.Command.{texts, IsNameWord, AreNames}

-- words that may be names, from their bytes
pub name_words : (words : List (String Global)) → AreNames (texts words) → All IsNameWord words
name_words words names k d below =
    let name = names k (string_bytes d) (rw (length-map words string_bytes) below) in
    rw (get_or-map string_bytes words k d (string_bytes d) below) at name
