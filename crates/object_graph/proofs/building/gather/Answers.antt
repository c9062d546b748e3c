use Rattle.std.proofs.Common.{refl}
use Rattle.elf_reader.specs.File.{plain_view}
use Rattle.object_graph.proofs.GraphLemmas.{on_some_board, objects_of, sites_of, words_of}
use Rattle.object_graph.proofs.building.gather.Goals as goal

pub returns : goal.returns
returns c =
    let v = plain_view c.args.file.now.view.now in
    let ranges = c.args.ranges.now in
    let objects = c.in_ok-objects.objects.items in
    let same = c.in_ok-objects.ensures.ranges in
    record {
      grain = refl;
      objects = objects_of v c.args.board.now ranges objects same c.requires.movable c.in_ok-objects.ensures.named;
      sites = sites_of v ranges objects c.in_ok-sites.sites.items same c.in_ok-sites.ensures;
      data_words = words_of v ranges objects c.in_ok-data_words.data_words.items same c.in_ok-data_words.ensures;
      code = c.in_ok-code.ensures;
    }

pub objects-requires-clause-movable : goal.objects-requires-clause-movable
objects-requires-clause-movable c = on_some_board (plain_view c.args.file.now.view.now) c.args.board.now c.args.ranges.now c.requires.movable

pub sites-requires-clause-movable : goal.sites-requires-clause-movable
sites-requires-clause-movable c = on_some_board (plain_view c.args.file.now.view.now) c.args.board.now c.args.ranges.now c.requires.movable

pub data_words-requires-clause-movable : goal.data_words-requires-clause-movable
data_words-requires-clause-movable c = on_some_board (plain_view c.args.file.now.view.now) c.args.board.now c.args.ranges.now c.requires.movable
