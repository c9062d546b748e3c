use Rattle.std.proofs.Common.{◌≡◌, ◌∙◌, sym, subst, ap}
use Rattle.std.specs.Prelude.{false, IsTrue}
use Rattle.rv32im.specs.Memory.{word_at}
use Rattle.rv32im.specs.Table.{MeansNothing}
use Rattle.flat_machine.specs.Mapping.{can_access}
use Rattle.flat_machine.specs.State.{State}
use Rattle.flat_machine.specs.Machine.{state_of}
use Rattle.flat_machine.proofs.Tables.{unfetched, meaningless}
use Rattle.flat_machine.proofs.machine.Flat.fetch.Goals as goal

pub returns-then-not-can_fetch-clause-told : goal.returns-then-not-can_fetch-clause-told
returns-then-not-can_fetch-clause-told g c =
    let s = state_of g.S.ByteStore.byte_at c.args.self.now in
    let shut : can_access s.map s.hart.pc 4 ≡ false = sym c.can_fetch.ensures.can ∙ c.if-not-can_fetch.true in
    unfetched s c.requires.going shut

pub returns-in-None-clause-told : goal.returns-in-None-clause-told
returns-in-None-clause-told g c =
    let s = state_of g.S.ByteStore.byte_at c.args.self.now in
    let fetches : IsTrue (can_access s.map s.hart.pc 4) = sym c.can_fetch.ensures.can ∙ c.if-not-can_fetch.false in
    let word : c.get_word.result ≡ word_at s.hart.mem s.hart.pc =
    c.get_word.ensures ∙ ap (λ (x : State). word_at x.hart.mem x.hart.pc) c.can_fetch.ensures.state in
    meaningless s c.requires.going fetches (subst MeansNothing word c.in-None.ensures.means)
