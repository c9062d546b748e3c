use Rattle.std.proofs.Common.{arith}
use Rattle.std.proofs.lemmas.List.Elements.{All-from_get_or}
use Rattle.elf_reader.specs.Loadable.{IsByte, AreBytes}
use Rattle.program_explanations.proofs.fixing.runs_on.Goals as goal

pub invariant_of-subject : goal.invariant_of-subject
invariant_of-subject c =
    let file = c.args.file.now in
    let found = c.in-Ok-analyse.ensures in
    let bytes : AreBytes file = All-from_get_or IsByte file 0 (λ k below. let fits = c.type_inv.file k in omega (arith, fits)) in
    record {
      analysed = ∣ (
        file,
        record {
          bytes = bytes;
          is_file = found.file;
          passes = found.fault.before;
          lawful = c.in-Ok.ensures.lawful;
          graph = found.graph;
          code = found.code;
          live = found.live;
          regions = found.regions;
          pieces = found.pieces;
        },
      ) ∣₁;
    }
