use Rattle.std.proofs.Common.{string_bytes}
use Rattle.std.proofs.lemmas.List.Elements.{All-map}
use Rattle.command_language.specs.Command.{IsName}
use Rattle.command_language.proofs.WordLists.{name_words}
use Rattle.command_language.proofs.parsing.are_names.Goals as goal

pub returns : goal.returns
returns c =
    (λ true. All-map IsName string_bytes c.args.words.now (c.all_names.ensures.0 true), λ names. c.all_names.ensures.1 (name_words c.args.words.now names))
