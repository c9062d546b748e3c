use Rattle.std.proofs.Common.{ℕ, List, length, ap, inl, map, sym, subst, ◌∙◌}
use Rattle.std.proofs.lemmas.List.{length-map}
use Rattle.command_language.specs.Command.{Named, plain_named, plain_command, reads}
use Rattle.command_line.specs.Listing.{further_reads}
use Rattle.command_line.specs.Performing.{RejectsListedOf}
use Rattle.command_files.specs.Reading.{contents, HoldsAll, RejectsReads}
use Rattle.command_line.proofs.ListedNames.{held_size, inputs_read, inputs_rejected, words_rejected}
use Rattle.command_line.proofs.reading.read_inputs.Goals as goal

pub read_listed-requires-clause-sizes : goal.read_listed-requires-clause-sizes
read_listed-requires-clause-sizes g c =
    let old = g.S.Shelf.view c.args.shelf.now in
    let texts = c.read_all.new.texts.items in
    let names = ap (map plain_named) c.deref.ensures.value ∙ c.in_ok-names.ensures in
    let held = subst (λ (ns : List Named). HoldsAll old ns (contents texts)) names c.in-Ok.ensures.ok.0 in
    ap (λ ts. length ts) c.deref-in-Ok.ensures.value ∙ sym (length-map texts (λ text. text.items))
    ∙ sym (held_size old (reads (plain_command c.args.command.now)) (contents texts) held)

pub returns-in-Ok-read_listed-clause-ok : goal.returns-in-Ok-read_listed-clause-ok
returns-in-Ok-read_listed-clause-ok g c =
    let old = g.S.Shelf.view c.args.shelf.now in
    let mid = g.S.Shelf.view c.read_all.new.shelf in
    let texts = c.read_all.new.texts.items in
    let listed = contents c.read_listed.new.listed.items in
    let command = plain_command c.args.command.now in
    let names = ap (map plain_named) c.deref.ensures.value ∙ c.in_ok-names.ensures in
    let held = subst (λ (ns : List Named). HoldsAll old ns (contents texts)) names c.in-Ok.ensures.ok.0 in
    let more = subst (λ (ts : List (List ℕ)). HoldsAll mid (further_reads command ts) listed) (ap contents c.deref-in-Ok.ensures.value) c.in-Ok-read_listed.ensures.ok.0 in
    inputs_read command (contents texts) listed old mid _ held c.in-Ok.ensures.ok.1 more c.in-Ok-read_listed.ensures.ok.1

pub returns-in-Ok-clause-err : goal.returns-in-Ok-clause-err
returns-in-Ok-clause-err g c =
    let old = g.S.Shelf.view c.args.shelf.now in
    let mid = g.S.Shelf.view c.read_all.new.shelf in
    let new = g.S.Shelf.view c.read_listed.new.shelf in
    let texts = c.read_all.new.texts.items in
    let command = plain_command c.args.command.now in
    let fault = c.in-Err-read_listed.fault in
    let names = ap (map plain_named) c.deref.ensures.value ∙ c.in_ok-names.ensures in
    let held = subst (λ (ns : List Named). HoldsAll old ns (contents texts)) names c.in-Ok.ensures.ok.0 in
    inputs_rejected command (contents texts) old mid new fault held c.in-Ok.ensures.ok.1
    (subst (λ (ts : List (List ℕ)). RejectsListedOf command ts mid new fault) (ap contents c.deref-in-Ok.ensures.value) c.in-Err-read_listed.ensures.err)

pub returns-clause-err : goal.returns-clause-err
returns-clause-err g c =
    let names = ap (map plain_named) c.deref.ensures.value ∙ c.in_ok-names.ensures in
    inl (words_rejected (plain_command c.args.command.now) _ _ _
    (subst (λ (ns : List Named). RejectsReads ns (g.S.Shelf.view c.args.shelf.now) (g.S.Shelf.view c.read_all.new.shelf) c.in-Err.fault) names c.in-Err.ensures.err))
