use Rattle.std.proofs.Common.{Err}
use Rattle.std.proofs.lemmas.List.Sorted.{searched}
use Rattle.list_checks.proofs.SortedLemmas.{not_found, sorted_once}
use Rattle.list_checks.proofs.search.place_of.Goals as goal

pub returns-in-Err : goal.returns-in-Err
returns-in-Err c =
    let xs = c.args.sorted.now in
    let found = searched xs c.args.number (Err c.in-Err.field-0) c.in-Err.ensures.position (λ i j before below. sorted_once xs c.requires i j 0 before below) in
    not_found xs c.args.number c.in-Err.field-0 found.1 found.2
