use Rattle.std.proofs.Common.{◌≡◌, ℕ, ◌+◌, ◌<◌, nat_lt, List, length, get_or, map, sym, ◌∙◌, ap, subst, arith}
use Rattle.std.specs.List.{All}
use Rattle.elf_reader.specs.File.{plain_view, plain_segment}
use Rattle.elf_reader.specs.Image.{image_of}
use Rattle.object_graph.specs.declared.parts.DataWord.{DataWord}
use Rattle.object_graph.specs.declared.parts.Object.{Object}
use Rattle.cell_values.specs.Cells.{IsCellOfGraph}
use Rattle.cell_values.specs.Objects.{object_of, IsOfGraph}
use Rattle.cell_values.specs.declared.values.Val.{Val}
use Rattle.cell_values.specs.declared.values.Cell.{Cell}
use Rattle.cell_values.specs.Stored.{cells_of}
use Rattle.object_machine.specs.declared.events.Outcome.TheVariants.{GoesOn}
use Rattle.object_machine.specs.Start.{first_cell, where_memory}
use Rattle.object_machine.specs.Program.{program_of}
use Rattle.object_machine.specs.Units.{unit_in}
use Rattle.object_machine.proofs.GraphLemmas.{word_named}
use Rattle.object_machine.proofs.MemoryLemmas.{segments_short, words_short}
use Rattle.object_machine.proofs.StartLemmas.{fit_below, first_of_graph}
use Rattle.object_machine.proofs.machine.Source.new.Goals as goal

pub first_memory-requires-clause-loadable : goal.first_memory-requires-clause-loadable
first_memory-requires-clause-loadable c = rw c.deref.ensures.value (segments_short c.args.view.now c.requires.read)

pub first_memory-requires-clause-words : goal.first_memory-requires-clause-words
first_memory-requires-clause-words c =
    rw c.deref-2.ensures.value (words_short c.args.view.now c.args.board.now c.args.graph.now c.requires.read c.requires.graph)

pub place_of_block-place-requires : goal.place_of_block-place-requires
place_of_block-place-requires c =
    rw c.from.ensures (sym (c.in_ok-tables.ensures.program.blocks c.args.view.now.entry) ∙ c.requires.entry)

pub invariant_of-result : goal.invariant_of-result
invariant_of-result c =
    let t = c.in_ok-tables.tables in
    let g = c.args.graph.now in
    let v = plain_view c.args.view.now in
    let image = image_of v.segments in
    let words = g.data_words.items in
    let place = c.place_of_block-place.result in
    let at = c.place_of_block-place.ensures in
    let is_at : (unit_in t.units.items place).at ≡ c.args.view.now.entry = at.1 ∙ c.from.ensures in
    let below = fit_below (length t.graph.objects.items) (unit_in t.units.items place) (t.fit place at.0) in
    let memory : cells_of c.in_ok-memory.memory ≡ first_cell image words = c.in_ok-memory.ensures ∙ (λ z. first_cell (image_of (map plain_segment (c.deref.ensures.value z))) (c.deref-2.ensures.value z)) in
    let named : All (λ d. d.object < length t.graph.objects.items) words = λ k d within.
    subst (λ (xs : List Object). (get_or words k d).object < length xs) (sym c.in_ok-tables.ensures.graph.objects) (word_named v c.args.board.now g k d c.requires.graph within) in
    record {
      inside = at.0;
      at = is_at;
      below = omega (arith, below, is_at);
      values = λ k. subst (λ (regs : ℕ → Val). IsOfGraph t.graph (regs k)) (sym c.new.ensures) tt;
      cells = subst (λ (cells : ℕ → Cell). (a : ℕ) → IsCellOfGraph t.graph (cells a)) (sym memory) (first_of_graph t.graph image words named);
      consumed_of_input = omega arith;
    }

pub returns-clause-start : goal.returns-clause-start
returns-clause-start c =
    let g = c.args.graph.now in
    let v = plain_view c.args.view.now in
    let p = program_of v c.args.board.now g in
    let memory : cells_of c.in_ok-memory.memory ≡ first_cell (image_of v.segments) g.data_words.items = c.in_ok-memory.ensures ∙ (λ z. first_cell (image_of (map plain_segment (c.deref.ensures.value z))) (c.deref-2.ensures.value z)) in
    λ z. record {
      pc = c.args.view.now.entry;
      regs = c.new.ensures z;
      fixed = λ a. where_memory (p.is_fixed a) (memory z a);
      cells = λ o i. where_memory (nat_lt i (object_of g o).size) (memory z ((object_of g o).home + i));
      input = c.in_ok-from_slice.ensures.items z;
      output = c.new-2.ensures.items z;
      outcome = GoesOn;
    }
