use Rattle.std.proofs.Common.{List, ℕ, ◌++◌, ◌∙◌, ap}
use Rattle.printed_lines.specs.ProfileLines.{named_line}
use Rattle.printed_lines.specs.Texts.{text_of}
use Rattle.printed_lines.proofs.shown.push_addressed.Goals as goal

pub returns : goal.returns
returns c =
    c.in_ok-push_named.ensures
    ∙ ap (λ (head : List ℕ). text_of c.args.text.now ++ named_line head c.args.name.now) (c.as_bytes.ensures.value ∙ c.in_ok-head.ensures)
