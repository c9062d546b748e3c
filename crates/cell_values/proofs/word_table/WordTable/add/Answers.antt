use Rattle.std.proofs.Common.{◌≡◌, ◌∙◌, ℕ, suc, ◌/◌, [], ◌∷◌, ◌++◌, length, OnOk, ap, subst, arith}
use Rattle.std.proofs.lemmas.Grind.{common_steps}
use Rattle.rv32im.specs.Memory.{Memory}
use Rattle.paged_store.specs.Pages.{paged_bytes}
use Rattle.cell_values.specs.Rows.{entry_at}
use Rattle.cell_values.specs.Entries.{place_of, entry_in}
use Rattle.cell_values.proofs.EntryLemmas.{HasPlace, place_put, place_on, entry_added, entry_before, inside_on, apart_on}
use Rattle.cell_values.proofs.word_table.WordTable.add.Goals as goal

pub invariant_of-self-2-clause-inside : goal.invariant_of-self-2-clause-inside
invariant_of-self-2-clause-inside g c =
    let old = c.args.self.now in
    let mem = paged_bytes old.index.directory.items old.index.bytes.items in
    let now = paged_bytes c.set_word.new.self.directory.items c.set_word.new.self.bytes.items in
    let count : c.in-Ok.place ≡ suc (length old.entries.items) = grind (arith, common_steps) in
    let place = place_on c.set_word.result mem now (c.args.at / 4) c.in-Ok.place (omega arith) (omega arith) c.set_word.ensures.ok in
    rw c.in_ok-push.ensures.items
    (inside_on c.set_word.result old.entries.items mem now (c.args.at / 4) c.args.entry old.inside (subst (λ (n : ℕ). OnOk c.set_word.result (HasPlace mem now (c.args.at / 4) n)) count place) c.set_word.ensures.err)

pub invariant_of-self-2-clause-apart : goal.invariant_of-self-2-clause-apart
invariant_of-self-2-clause-apart g c =
    let old = c.args.self.now in
    let mem = paged_bytes old.index.directory.items old.index.bytes.items in
    let now = paged_bytes c.set_word.new.self.directory.items c.set_word.new.self.bytes.items in
    let count : c.in-Ok.place ≡ suc (length old.entries.items) = grind (arith, common_steps) in
    let place = place_on c.set_word.result mem now (c.args.at / 4) c.in-Ok.place (omega arith) (omega arith) c.set_word.ensures.ok in
    apart_on c.set_word.result old.entries.items mem now (c.args.at / 4) old.inside old.apart (subst (λ (n : ℕ). OnOk c.set_word.result (HasPlace mem now (c.args.at / 4) n)) count place) c.set_word.ensures.err

pub returns-in-Ok-set_word-clause-ok : goal.returns-in-Ok-set_word-clause-ok
unfolding entry_at
returns-in-Ok-set_word-clause-ok g c v =
    let old = c.args.self.now in
    let mem = paged_bytes old.index.directory.items old.index.bytes.items in
    let now = paged_bytes c.set_word.new.self.directory.items c.set_word.new.self.bytes.items in
    let count : c.in-Ok.place ≡ suc (length old.entries.items) = grind (arith, common_steps) in
    let place = place_put mem now (c.args.at / 4) c.in-Ok.place (omega arith) (omega arith) c.in-Ok-set_word.ensures.ok in
    rw c.in_ok-push.ensures.items
    (entry_added old.entries.items mem now (c.args.at / 4) c.args.entry old.inside (subst (λ (n : ℕ). HasPlace mem now (c.args.at / 4) n) count place) v)

pub returns-in-Err-clause-err : goal.returns-in-Err-clause-err
unfolding entry_at
returns-in-Err-clause-err g c v =
    let old = c.args.self.now in
    let mem = paged_bytes old.index.directory.items old.index.bytes.items in
    rw c.in_ok-push.ensures.items
    (ap (λ (m : Memory). entry_in (old.entries.items ++ c.args.entry ∷ []) (place_of m v)) c.in-Err.ensures.err
    ∙ entry_before old.entries.items c.args.entry (place_of mem v) (old.inside v))
