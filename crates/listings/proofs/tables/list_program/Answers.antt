use Rattle.std.proofs.Common.{arith}
use Rattle.std.proofs.lemmas.List.Elements.{All-from_get_or}
use Rattle.elf_reader.specs.Loadable.{IsByte, AreBytes}
use Rattle.relinking.proofs.Analysed.{analysed}
use Rattle.listings.proofs.tables.list_program.Goals as goal

pub list_tables-requires-clause-analysed : goal.list_tables-requires-clause-analysed
list_tables-requires-clause-analysed c =
    let file = c.args.bytes.now in
    let found = c.in-Ok.ensures in
    let bytes : AreBytes file = All-from_get_or IsByte file 0 (λ k below. let fits = c.type_inv.bytes k in omega (arith, fits)) in
    (file, analysed file c.args.board.now c.in-Ok.analysis bytes c.requires.lawful found.file found.fault found.graph found.code found.live found.regions found.pieces)
