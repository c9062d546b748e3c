use Rattle.std.proofs.Common.{◌∷◌, [], refl, ap, ℕ, List, sym, subst}
use Rattle.command_language.specs.Command.{hex_command}
use Rattle.command_line.specs.Measured.{measures_none}
use Rattle.command_line.specs.Meaning.{RejectsInputs, writes_hex}
use Rattle.command_line.proofs.CommandFaults.{hex_rejected}
use Rattle.command_line.proofs.TextContents.{contents_of_one}
use Rattle.command_line.proofs.results.prepare_hex.Goals as goal

pub returns-in_ok-written-in-Ok-clause-ok : goal.returns-in_ok-written-in-Ok-clause-ok
returns-in_ok-written-in-Ok-clause-ok c f =
    let are = contents_of_one c.args.texts.now c.index-texts-0.result _ c.requires c.index-texts-0.is c.deref.ensures.value in
    let made = c.in-Ok.ensures in
    record {
      outputs = c.in-Ok.hex.text.items ∷ [];
      yields = rw (c.in_ok-written-in-Ok.ensures.text, c.into_bytes-line.ensures.value) (writes_hex f _ _ refl (sym are) made.sound (ap (λ bytes. bytes ∷ []) made.text) made.line);
      prepared_outputs = c.in_ok-written-in-Ok.ensures.outputs;
      print_fault = c.in_ok-written-in-Ok.ensures.print_fault;
      measured = measures_none refl c.in_ok-written-in-Ok.ensures.measured;
    }

pub returns-in-Err-clause-err : goal.returns-in-Err-clause-err
returns-in-Err-clause-err c f =
    let are = contents_of_one c.args.texts.now c.index-texts-0.result _ c.requires c.index-texts-0.is c.deref.ensures.value in
    subst (λ (ts : List (List ℕ)). RejectsInputs (hex_command f c.args.out.now) ts c.in-Err.fault) are (hex_rejected _ _ c.in-Err.ensures.err f _)
