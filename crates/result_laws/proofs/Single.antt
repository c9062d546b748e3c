-- A file has one graph on a board, so one program and one start.
use Rattle.std.proofs.Common.{◌∙◌, ℕ, ◌+◌, nat_lt, List, [], length, slice_index_or, sym}
use Rattle.std.specs.List.{list_any}
use Rattle.list_checks.specs.First.{first_below}
use Rattle.elf_reader.specs.File.{PlainView, view_in}
use Rattle.elf_reader.specs.Image.{image_of}
use Rattle.board_config.specs.declared.board.Board.{Board}
use Rattle.loaded_file.specs.Code.{image_word}
use Rattle.object_graph.specs.Sites.{is_fixed_memory}
use Rattle.object_graph.specs.declared.parts.Object.{Object}
use Rattle.object_graph.specs.declared.parts.Site.{Site}
use Rattle.object_graph.specs.declared.parts.DataWord.{DataWord}
use Rattle.code_blocks.specs.Words.{pair_target}
use Rattle.code_blocks.specs.Leaders.{is_call_pair, is_leader, is_indirect}
use Rattle.cell_values.specs.Objects.{absent_object}
use Rattle.cell_values.specs.declared.values.Val.TheVariants.{Int}
use Rattle.object_machine.specs.declared.events.Outcome.TheVariants.{GoesOn}
use Rattle.object_machine.specs.Program.{Program, target_at, named_by, falls_from, holds}
use Rattle.object_machine.specs.State.{SourceState}
use Rattle.object_machine.specs.Start.{first_cell, where_memory}
use Rattle.result_laws.specs.HomeLaws.{OneGraph, OneRun}
use Rattle.result_laws.proofs.HomeParts.{one_objects, one_sites, one_words}

pub one_graph : OneGraph
one_graph v board g h first second =
    let same = one_objects v board g.objects.items h.objects.items first.objects second.objects in
    record {
      grain = first.grain ∙ sym second.grain;
      objects = same;
      sites = one_sites v g.objects.items h.objects.items g.sites.items h.sites.items same first.sites second.sites;
      data_words = one_words v g.objects.items h.objects.items g.data_words.items h.data_words.items same first.data_words second.data_words;
      code = first.code ∙ sym second.code;
    }

-- a program and a start, by what they take of a graph
abbrev program_from : PlainView → Board → ℕ → List Object → List Site → Program
program_from v board least listed places =
    record {
      objects = record {
        grain = least;
        home = λ o. (slice_index_or listed o absent_object).home;
        size = λ o. (slice_index_or listed o absent_object).size;
        writable = λ o. (slice_index_or listed o absent_object).writable;
      };
      site = target_at places;
      named = λ a. first_below (named_by v a) (length v.relocs);
      word = image_word v;
      is_pair = is_call_pair v;
      goes = pair_target v;
      is_block = is_leader v;
      is_reached = is_indirect v;
      falls = falls_from v;
      is_fixed = is_fixed_memory v board;
      is_held = λ a. list_any (holds a) listed;
    }

abbrev start_from : PlainView → Board → List Object → List DataWord → List ℕ → SourceState
start_from v board listed words given =
    record {
      pc = v.entry;
      regs = λ _. Int 0;
      fixed = λ a. where_memory (is_fixed_memory v board a) (first_cell (image_of v.segments) words a);
      cells = λ o i. where_memory (nat_lt i (slice_index_or listed o absent_object).size) (first_cell (image_of v.segments) words ((slice_index_or listed o absent_object).home + i));
      input = given;
      output = [];
      outcome = GoesOn;
    }

pub one_run : OneRun
one_run file board g h input first second =
    let same = one_graph (view_in file) board g h first second in
    let grain = same.grain in
    let objects = same.objects in
    let sites = same.sites in
    let words = same.data_words in (
      (λ i. program_from (view_in file) board (grain i) (objects i) (sites i)),
      (λ i. start_from (view_in file) board (objects i) (words i) input),
    )
