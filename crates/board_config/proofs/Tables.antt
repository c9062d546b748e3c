-- The table that a text is.
use Rattle.std.proofs.Common.{◌≡◌, ℕ, true, false, List, None, IsUtf8}
use Rattle.std.specs.Str.{is_utf8}
use Rattle.std.proofs.lemmas.Bool.{false_from_ne_true}
use Rattle.std.proofs.lemmas.Str.{IsUtf8-from_is_utf8, is_utf8-from_IsUtf8}
use Rattle.toml.specs.Parse.{parse_document}
use Rattle.board_config.specs.Keys.{table_of}

pub table_of_text : (text : List ℕ) → IsUtf8 text → table_of text ≡ parse_document text
table_of_text text utf8 = let test : is_utf8 text ≡ true = is_utf8-from_IsUtf8 text utf8 in rw test

pub no_table : (text : List ℕ) → ¬ (IsUtf8 text) → table_of text ≡ None
no_table text other =
    let test : is_utf8 text ≡ false = false_from_ne_true _ (λ yes. other (IsUtf8-from_is_utf8 text yes)) in rw test
