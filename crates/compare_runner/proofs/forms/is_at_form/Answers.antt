use Rattle.std.proofs.Common.{◌≡◌, ◌≢◌, ◌<◌, length, arith}
use Rattle.compare_runner.proofs.FormLemmas.{none_before, none_more, none_at_all, none_behind, found}
use Rattle.compare_runner.proofs.forms.is_at_form.Goals as goal

pub loop-k-init : goal.loop-k-init
loop-k-init c = none_before c.args.sought.now c.args.patched c.args.pc c.forms_before-first.result c.forms_before-first.ensures.point

pub loop-k-preserved : goal.loop-k-preserved
loop-k-preserved c =
    let inside : c.loop-k.k < length c.args.sought.now.units.now = omega arith in
    none_more c.args.sought.now c.args.patched c.args.pc c.loop-k.k c.form_at-form.result c.loop-k.invariant inside c.form_at-form.ensures c.if-counts.ensures

pub returns-then-form-pc : goal.returns-then-form-pc
returns-then-form-pc c =
    let inside : c.loop-k.k < length c.args.sought.now.units.now = omega arith in
    let elsewhere : c.form_at-form.result.at ≢ c.args.pc = c.if-form-pc.true in
    none_behind c.args.sought.now c.args.patched c.args.pc c.forms_before-first.result c.loop-k.k c.form_at-form.result c.requires c.forms_before-first.ensures.point (omega arith) c.loop-k.invariant inside c.form_at-form.ensures elsewhere

pub returns-then-counts : goal.returns-then-counts
returns-then-counts c =
    let inside : c.loop-k.k < length c.args.sought.now.units.now = omega arith in
    let at : c.form_at-form.result.at ≡ c.args.pc = omega (arith, c.if-form-pc.false) in
    found c.args.sought.now c.args.patched c.args.pc c.loop-k.k c.form_at-form.result inside c.form_at-form.ensures at c.if-counts.ensures

pub returns : goal.returns
returns c = none_at_all c.args.sought.now c.args.patched c.args.pc c.loop-k.k c.loop-k.invariant (omega arith)
