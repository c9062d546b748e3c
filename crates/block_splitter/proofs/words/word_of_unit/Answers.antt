use Rattle.std.proofs.Common.{◌∙◌, ◌<◌, length, ap, arith}
use Rattle.std.proofs.lemmas.List.{get_or_default}
use Rattle.block_splitter.specs.Copies.{address_in}
use Rattle.block_splitter.proofs.PatchLemmas.{word_found, word_behind, word_missing}
use Rattle.block_splitter.proofs.words.word_of_unit.Goals as goal

pub returns-then-place-sites : goal.returns-then-place-sites
returns-then-place-sites c =
    let place = c.sites_before-place in
    word_behind c.args.sites.now c.args.unit.now place.result place.ensures.point (omega (arith, c.if-place-sites.true))

pub returns-then-at-unit : goal.returns-then-at-unit
returns-then-at-unit c =
    let place = c.sites_before-place in
    word_found c.args.sites.now c.args.unit.now place.result (0, 0) place.ensures.point (omega (arith, place.ensures.bound, c.if-place-sites.false)) c.if-at-unit.true

pub returns-else-at-unit : goal.returns-else-at-unit
returns-else-at-unit c =
    let place = c.sites_before-place in
    let below : place.result < length c.args.sites.now = omega (arith, place.ensures.bound, c.if-place-sites.false) in
    word_missing c.args.sites.now c.args.unit.now place.result c.requires place.ensures.point below
    (λ d same. c.if-at-unit.false (ap address_in (get_or_default c.args.sites.now place.result (0, 0) d below) ∙ same))
