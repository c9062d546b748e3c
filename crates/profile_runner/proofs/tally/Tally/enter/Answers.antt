use Rattle.std.proofs.Common.{◌≡◌, ◌∙◌, refl, sym}
use Rattle.profile_runner.specs.Standing.{entered}
use Rattle.profile_runner.proofs.TallyLemmas.{no_change}
use Rattle.profile_runner.proofs.tally.Tally.enter.Goals as goal

pub returns-else-after-self : goal.returns-else-after-self
returns-else-after-self c =
    let t = c.args.self.now in
    let same : entered t.region c.args.region ≡ t.region = sym c.entered-after.ensures ∙ c.if-after-self.false in
    rw same (record { region_is = refl; changes_add = no_change t.changes t.region; rest = refl })
