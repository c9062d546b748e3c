use Rattle.std.proofs.Common.{◌∷◌, [], refl, ap}
use Rattle.command_line.specs.Measured.{measures_none}
use Rattle.command_line.specs.Meaning.{generates}
use Rattle.command_line.proofs.results.prepare_gen.Goals as goal

pub returns-clause-ok : goal.returns-clause-ok
returns-clause-ok c =
    record {
      outputs = c.in_ok-file.file.items ∷ [];
      yields = rw (c.in_ok-written.ensures.text, c.into_bytes-line.ensures.value) (generates _ _ _ refl refl (ap (λ bytes. bytes ∷ []) c.in_ok-file.ensures) c.in_ok-text.ensures);
      prepared_outputs = c.in_ok-written.ensures.outputs;
      print_fault = c.in_ok-written.ensures.print_fault;
      measured = measures_none refl c.in_ok-written.ensures.measured;
    }
