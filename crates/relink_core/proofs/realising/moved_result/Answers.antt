use Rattle.std.proofs.Common.{◌∙◌, List, map, refl, sym, ap}
use Rattle.placement_programme.specs.Views.{plain_choice}
use Rattle.patch_code.specs.declared.stub_plan.Stub.{Stub}
use Rattle.relink_core.specs.Padding.{home_of}
use Rattle.relink_core.proofs.RealisedChoice.{something, items_stand, source_for}
use Rattle.relink_core.proofs.UnitMapsMade.{with_forms}
use Rattle.relink_core.proofs.realising.moved_result.Goals as goal

pub placed_words-requires-clause-analysis : goal.placed_words-requires-clause-analysis
placed_words-requires-clause-analysis c =
    let (file, p, is, taken, some) = c.requires in
    (file, c.args.board.now, is)

pub placed_words-requires-clause-taken : goal.placed_words-requires-clause-taken
placed_words-requires-clause-taken c =
    let (file, p, is, taken, some) = c.requires in
    (c.args.board.now, p, plain_choice c.args.c.now, c.args.taken, taken, c.code_regions-regions.ensures, refl)

pub placed_result-requires : goal.placed_result-requires
placed_result-requires c =
    let (file, p, is, taken, some) = c.requires in
    let a = c.args.a.now in
    let choice = plain_choice c.args.c.now in (
      file,
      a.regions,
      p,
      choice,
      source_for file c.args.board.now a _ c.code_regions-regions.result p choice c.args.taken c.in_ok-sites.sites.items is taken c.code_regions-regions.ensures c.in_ok-sites.ensures
          refl refl refl c.deref.ensures.value c.deref-2.ensures.value,
    )

pub returns : goal.returns
returns c = λ file p is taken.
    let (own, q, of, takes, some) = c.requires in
    let a = c.args.a.now in
    let choice = plain_choice c.args.c.now in
    let placed = c.in_ok-placed.ensures in
    let source = source_for file c.args.board.now a _ c.code_regions-regions.result p choice c.args.taken c.in_ok-sites.sites.items is taken c.code_regions-regions.ensures c.in_ok-sites.ensures
    refl refl refl c.deref.ensures.value c.deref-2.ensures.value in
    let by = placed.placed file a.regions p choice source in
    record {
      forms = (
        something p choice some,
        with_forms file a.regions p choice _ by.planned source by.are c.in_ok-placed.placed.bytes.items by.moves _
            (λ w from.
            record {
              code = from.code;
              live = from.live;
              graph = from.graph;
              pieces = from.pieces ∙ sym c.deref.ensures.value;
              sites = from.sites ∙ sym c.deref-2.ensures.value;
              homes = from.homes ∙ ap (λ (ts : List Stub). map home_of ts) by.stubs;
              copies = from.copies ∙ by.copies;
              regions = from.regions;
              stubs = from.stubs ∙ by.stubs;
              stub_at = from.stub_at ∙ by.stub_at;
            }),
      );
      stands = items_stand file c.args.board.now a p choice c.args.taken c.in_ok-placed.placed.copies.items is taken placed.ranges placed.places placed.whole placed.pieces;
    }
