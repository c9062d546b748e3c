use Rattle.std.proofs.Common.{ℕ, false, sym, subst}
use Rattle.flat_machine.specs.Machine.{state_of}
use Rattle.result_laws.specs.ResultLaws.{most_steps}
use Rattle.compare_runner.specs.declared.forms.Sought.{Sought}
use Rattle.compare_runner.specs.declared.seeking.Next.TheVariants.{Form}
use Rattle.compare_runner.specs.Comings.{IsAtForm}
use Rattle.compare_runner.specs.Seeking.{Finds, StartsWithin}
use Rattle.compare_runner.proofs.ComingLemmas.{at_form, has_form, after_same, within_same}
use Rattle.compare_runner.proofs.tracing.find_first.Goals as goal

pub seek_start-requires-clause-starts : goal.seek_start-requires-clause-starts
seek_start-requires-clause-starts g c =
    let board = c.args.of.now.board.now in
    let start = state_of g.S.ByteStore.byte_at c.args.flat.now in
    let sought : Sought = record { units = c.args.of.now.units; from = 0; to = c.args.region; home = c.args.home } in
    let P = IsAtForm c.args.of.now.units.now board 0 c.args.region c.args.home in
    let Q = Finds board.patch (Form sought) false in
    subst (λ (k : ℕ). StartsWithin Q k start) (sym c.most_steps.ensures.is)
    (within_same P Q (λ es t is. has_form sought board es t is) (λ es t is. at_form sought board es t is) (most_steps board) start c.requires.starts)

pub returns-in-Ok : goal.returns-in-Ok
returns-in-Ok g c =
    let board = c.args.of.now.board.now in
    let start = state_of g.S.ByteStore.byte_at c.args.flat.now in
    let end = state_of g.S.ByteStore.byte_at c.seek_start.new.flat in
    let sought : Sought = record { units = c.args.of.now.units; from = 0; to = c.args.region; home = c.args.home } in
    let P = IsAtForm c.args.of.now.units.now board 0 c.args.region c.args.home in
    let Q = Finds board.patch (Form sought) false in
    after_same Q P (λ es t is. at_form sought board es t is) (λ es t is. has_form sought board es t is) start c.in-Ok.start end c.in-Ok.ensures
