use Rattle.std.proofs.Common.{ℕ, List, refl, ◌∙◌, sym, subst}
use Rattle.elf_reader.specs.File.{plain_view}
use Rattle.object_machine.proofs.TableLemmas.{fixed_agrees, all_starts, are_tables, agree}
use Rattle.code_blocks.specs.Numbers.{starts_of}
use Rattle.object_machine.specs.Numbering.{HasNumbers}
use Rattle.object_machine.proofs.NumberingLemmas.{have_numbers}
use Rattle.object_machine.proofs.tabling.tables_of.Goals as goal

pub invariant_of-result : goal.invariant_of-result
invariant_of-result c =
    let v = plain_view c.args.view.now in
    let board = c.args.board.now in
    let g = c.args.graph.now in
    let code = c.args.code.now in
    let block_units = c.in_ok-block_units.block_units in
    let reached = c.in_ok-reached.reached.items in
    let fixed = c.in_ok-fixed.fixed.items in
    let agrees = fixed_agrees v board fixed c.requires.lawful c.in_ok-fixed.ensures.exact in
    let is_reached = c.in_ok-reached.ensures ∙ c.deref.ensures.value in
    let starts = all_starts v board g code block_units (rw c.in_ok-file.ensures at c.in_ok-block_units.ensures board) in
    let are = are_tables v board g c.in_ok-objects.objects code block_units reached fixed c.requires.graph c.requires.grain c.requires.code c.in_ok-objects.ensures (rw c.in_ok-file.ensures at c.in_ok-block_units.ensures board) is_reached agrees in
    record {
      grain = are.grain;
      below = are.below;
      disjoint = are.disjoint;
      off = are.off;
      fit = are.fit;
      joined = are.joined;
      named = c.in_ok-ops.ensures c.in_ok-block_units.block_units.starts.items c.in_ok-landings.ensures;
      begun = are.begun;
      ascending = are.ascending;
      reached_ascending = are.reached_ascending;
      among = are.among;
      ranges = c.in_ok-fixed.ensures.disjoint;
      numbered = subst (λ (xs : List ℕ). HasNumbers xs c.in_ok-block_units.block_units.units.items c.in_ok-numbers.numbers.items) (sym starts)
          (have_numbers (starts_of code) c.in_ok-block_units.block_units.units.items c.in_ok-numbers.numbers.items
          (rw c.deref-2.ensures.value at c.in_ok-numbers.ensures));
      landed = c.in_ok-landings.ensures;
      reached_landed = c.in_ok-reached_landings.ensures;
      wide = c.widest_below-widest.ensures;
      next_wide = c.widest_below-second.ensures;
    }

pub returns-clause-program : goal.returns-clause-program
returns-clause-program c =
    let v = plain_view c.args.view.now in
    let board = c.args.board.now in
    let agrees = fixed_agrees v board c.in_ok-fixed.fixed.items c.requires.lawful c.in_ok-fixed.ensures.exact in
    let is_reached = c.in_ok-reached.ensures ∙ c.deref.ensures.value in
    agree v board c.args.graph.now c.args.code.now c.in_ok-block_units.block_units _ c.requires.code c.in_ok-objects.ensures (rw c.in_ok-file.ensures at c.in_ok-block_units.ensures board) refl refl is_reached agrees
