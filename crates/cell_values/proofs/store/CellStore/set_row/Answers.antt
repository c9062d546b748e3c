use Rattle.std.proofs.Common.{◌≡◌, ◌∙◌, ℕ, None, is_some, IsSome, IsTrue, List, sym, ap, subst}
use Rattle.paged_store.specs.declared.page_store.PageStore.{PageStore}
use Rattle.paged_store.specs.Pages.{paged_bytes, has_page}
use Rattle.cell_values.specs.declared.values.Cell.{Cell}
use Rattle.cell_values.specs.declared.values.Val.{Val}
use Rattle.cell_values.specs.declared.word_table.WordTable.{WordTable}
use Rattle.cell_values.specs.Rows.{entry_at, row_in, rows_of}
use Rattle.cell_values.proofs.CellLemmas.{places_stay}
use Rattle.cell_values.proofs.RowLemmas.{rows_same, entry_made}
use Rattle.cell_values.proofs.store.CellStore.set_row.Goals as goal

pub returns-in-Ok-clause-stays : goal.returns-in-Ok-clause-stays
returns-in-Ok-clause-stays c a other has =
    let s = c.args.self.now in
    let m = c.mark.new.self in
    let some_before : (w : ℕ) → IsSome (entry_at s.cells w) → IsSome (entry_at m.cells w) = λ w some. subst (λ (t : WordTable (List Cell)). IsSome (entry_at t w)) (sym c.mark.ensures.cells) some in
    places_stay (entry_at s.values) (entry_at m.values) (entry_at s.cells) (entry_at c.set.new.self) (has_page s.bytes.directory.items) (has_page m.bytes.directory.items)
    (λ w none. subst (λ (t : WordTable Val). entry_at t w ≡ None) (sym c.mark.ensures.values) none)
    (λ w some. entry_made (entry_at m.cells) (entry_at c.set.new.self) c.args.at c.args.row c.in-Ok.ensures.ok w (some_before w some))
    (λ b page. subst (λ (p : PageStore). IsTrue (has_page p.directory.items b)) (sym c.mark.ensures.bytes) page)
    a other has

pub returns-in-Err-clause-err : goal.returns-in-Err-clause-err
returns-in-Err-clause-err c =
    let m = c.mark.new.self in
    rows_same (rows_of m.values m.cells) (rows_of m.values c.set.new.self) (paged_bytes m.bytes.directory.items m.bytes.bytes.items) (λ w. ap (λ o. row_in o (entry_at m.values w)) (c.in-Err.ensures.err w))
    ∙ c.mark.ensures.same

pub returns-in-Err-clause-stays : goal.returns-in-Err-clause-stays
returns-in-Err-clause-stays c a other has =
    let s = c.args.self.now in
    let m = c.mark.new.self in
    let some_before : (w : ℕ) → IsSome (entry_at s.cells w) → IsSome (entry_at m.cells w) = λ w some. subst (λ (t : WordTable (List Cell)). IsSome (entry_at t w)) (sym c.mark.ensures.cells) some in
    places_stay (entry_at s.values) (entry_at m.values) (entry_at s.cells) (entry_at c.set.new.self) (has_page s.bytes.directory.items) (has_page m.bytes.directory.items)
    (λ w none. subst (λ (t : WordTable Val). entry_at t w ≡ None) (sym c.mark.ensures.values) none)
    (λ w some. ap is_some (c.in-Err.ensures.err w) ∙ some_before w some)
    (λ b page. subst (λ (p : PageStore). IsTrue (has_page p.directory.items b)) (sym c.mark.ensures.bytes) page)
    a other has
