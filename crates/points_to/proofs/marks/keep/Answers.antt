use Rattle.std.proofs.Common.{ℕ, ◌+◌, List, [], ◌∷◌, ◌++◌, sym, subst}
use Rattle.points_to.specs.Tables.{AreKept}
use Rattle.points_to.proofs.KeptLemmas.{kept_none, kept_more}
use Rattle.points_to.proofs.marks.keep.Goals as goal

pub returns-then-word-eq0 : goal.returns-then-word-eq0
returns-then-word-eq0 c read is are =
    kept_none read c.args.node c.args.word c.args.nodes.now.items c.args.words.now.items is c.if-word-eq0.true are

pub returns : goal.returns
returns c read is are =
    let more = kept_more read c.args.node c.args.word c.args.nodes.now.items c.args.words.now.items is are in
    let one = subst (λ (ns : List ℕ). AreKept read (c.args.node + 1) ns (c.args.words.now.items ++ c.args.word ∷ [])) (sym {A = List ℕ} c.in_ok-push.ensures.items) more in
    subst (λ (ws : List ℕ). AreKept read (c.args.node + 1) c.push.new.self.items ws) (sym {A = List ℕ} c.in_ok-push-2.ensures.items) one
