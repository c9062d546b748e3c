use Rattle.listings.proofs.tables.list_program_table.Goals as goal

pub list_points-requires : goal.list_points-requires
list_points-requires c = (c.requires.analysed.0, c.args.board.now, c.requires.analysed.1)
