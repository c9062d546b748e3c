use Rattle.std.proofs.Common.{arith, refl, ap, ◌∙◌}
use Rattle.std.proofs.lemmas.Map.Text.{text_keys}
use Rattle.shelf_io.specs.MemShelf.{shelf_failed, shelf_view, shelf_wants}
use Rattle.shelf_io.specs.declared.memory_shelf.MemShelf.{MemShelf}
use Rattle.shelf_io.proofs.Views.{same_but_content}
use Rattle.shelf_io.proofs.memory_shelf.MemShelf.store.Goals as goal

pub returns-clause-leaves : goal.returns-clause-leaves
returns-clause-leaves c =
    let counted = c.count_call-is_listed.ensures.count in
    let failed = c.entry.ensures.same.calls ∙ ap (λ (s : MemShelf). shelf_failed s) counted in
    let wants = c.entry.ensures.same.wants ∙ ap (λ (s : MemShelf). shelf_wants s) counted in
    let stored : MemShelf = record c.count_call-is_listed.new.self { entries = c.insert.new.self; log = c.entry.new.self } in
    record {
      set = grind (arith, text_keys);
      elsewhere = λ other differs. grind (arith, text_keys);
      others = same_but_content (shelf_view c.args.self.now) (shelf_view stored) refl failed wants;
    }
