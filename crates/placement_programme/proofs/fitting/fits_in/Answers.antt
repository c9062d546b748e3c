use Rattle.std.proofs.lemmas.List.{length-map}
use Rattle.placement_programme.specs.Plain.{plain_var}
use Rattle.placement_programme.proofs.fitting.fits_in.Goals as goal

pub returns : goal.returns
returns c =
    let numbers = c.ascend_below.ensures.0 c.if-not-ascend_below.false in (
      λ found. record {
        numbers = rw (length-map c.args.vars.now plain_var) numbers;
        rows = c.all_hold.ensures.0 found;
      },
      λ fit. c.all_hold.ensures.1 fit.rows,
    )
