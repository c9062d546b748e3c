use Rattle.std.proofs.Common.{◌≡◌, ◌∙◌, ◌<◌, ◌-◌, suc, length, slice_index_or, None, map, drop, refl, sym, ap, subst, arith}
use Rattle.placement_programme.specs.Plain.{plain_var}
use Rattle.placement_programme.specs.declared.variables.VarName.{VarName}
use Rattle.placement_programme.proofs.AscendLemmas.{number_below}
use Rattle.energy_model.specs.Energy.{piece_in, covering, piece_of}
use Rattle.placement_candidates.specs.Adding.{kept_name}
use Rattle.paid_energy.proofs.Listed.{one_before, none_left}
use Rattle.paid_energy.proofs.inward_calls.fill_side.Goals as goal

pub name_of-requires : goal.name_of-requires
name_of-requires c = number_below 0 _ _ _ 0 c.requires.numbers (omega arith)

pub loop-k-init : goal.loop-k-init
loop-k-init c =
    record { len = refl; filled = λ b below. c.requires.empty b below ∙ sym (none_left (map plain_var c.args.vars.now) c.args.take.now b) }

pub loop-k-preserved : goal.loop-k-preserved
loop-k-preserved c =
    let vars = map plain_var c.args.vars.now in
    let take = c.args.take.now in
    let k = c.loop-k.k in
    let inside : k - 1 < length take = omega arith in
    let next : k ≡ suc (k - 1) = omega arith in
    record {
      len = c.fill_piece.ensures.len ∙ c.loop-k.invariant.len;
      filled = λ b below.
          let old = slice_index_or c.loop-k.table b None in
          c.fill_piece.ensures.filled b (subst (λ n. b < n) (sym c.loop-k.invariant.len) below)
          ∙ ap (λ (name : VarName). covering b (piece_in name) old) c.name_of.ensures
          ∙ ap (covering b (piece_in (kept_name vars (slice_index_or take (k - 1) 0))))
          (c.loop-k.invariant.filled b below ∙ ap (λ n. piece_of (map (kept_name vars) (drop n take)) b) next)
          ∙ sym (one_before vars take (k - 1) 0 b inside);
    }

pub returns-clause-filled : goal.returns-clause-filled
returns-clause-filled c b below =
    let all : c.loop-k.k ≡ 0 = omega arith in
    c.loop-k.invariant.filled b below ∙ ap (λ k. piece_of (map (kept_name (map plain_var c.args.vars.now)) (drop k c.args.take.now)) b) all
