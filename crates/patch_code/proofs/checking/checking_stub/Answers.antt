use Rattle.std.proofs.Common.{◌≡◌, ◌+◌, ◌==◌, if◌then◌else◌, [], ◌∷◌, ◌∙◌, ap, arith}
use Rattle.rv32im.specs.Words.{lower_half}
use Rattle.rv32im.specs.declared.instructions.Instr.TheVariants.{Load, Store}
use Rattle.rv32im.specs.declared.instructions.LoadKind.TheVariants.{Lw}
use Rattle.rv32im.specs.declared.instructions.StoreKind.TheVariants.{Sw}
use Rattle.patch_code.specs.Checking.{checking}
use Rattle.patch_code.proofs.checking.checking_stub.Goals as goal

-- src/checking.rt
pub returns : goal.returns
unfolding checking
returns c =
    let p8 : c.args.base + 8 ≡ c.args.base + 4 + 4 = omega arith in
    let p12 : c.args.base + 12 ≡ c.args.base + 4 + 4 + 4 = omega arith in
    let p16 : c.args.base + 16 ≡ c.args.base + 4 + 4 + 4 + 4 = omega arith in
    let p20 : c.args.base + 20 ≡ c.args.base + 4 + 4 + 4 + 4 + 4 = omega arith in
    let p24 : c.args.base + 24 ≡ c.args.base + 4 + 4 + 4 + 4 + 4 + 4 = omega arith in
    let p28 : c.args.base + 28 ≡ c.args.base + 4 + 4 + 4 + 4 + 4 + 4 + 4 = omega arith in
    λ i.
    c.lui.ensures i
    ∷ c.load_control.ensures i
    ∷ c.subtract.ensures i
    ∷ c.branch_on.ensures i
    ∷ c.lui-2.ensures i
    ∷ c.store_control.ensures i
    ∷ (c.store_control-2.ensures ∙ ap (λ a. Store Sw c.args.temp 6 (lower_half a)) p8) i
    ∷ (c.store_control-3.ensures ∙ ap (λ a. Store Sw c.args.temp 7 (lower_half a)) p12) i
    ∷ (c.store_control-4.ensures ∙ ap (λ a. Store Sw c.args.temp 28 (lower_half a)) p16) i
    ∷ (c.store_control-5.ensures ∙ ap (λ a. Store Sw c.args.temp 29 (lower_half a)) p20) i
    ∷ (c.store_control-6.ensures ∙ ap (λ a. Store Sw c.args.temp 30 (lower_half a)) p24) i
    ∷ (c.store_control-7.ensures ∙ ap (λ a. Store Sw c.args.temp 31 (lower_half a)) p28) i
    ∷ c.number.ensures i
    ∷ c.call.ensures i
    ∷ c.lui-3.ensures i
    ∷ c.restore.ensures i
    ∷ (c.restore-2.ensures ∙ ap (λ a. Load Lw (if 6 == c.args.temp then 0 else 6) c.args.temp (lower_half a)) p8) i
    ∷ (c.restore-3.ensures ∙ ap (λ a. Load Lw (if 7 == c.args.temp then 0 else 7) c.args.temp (lower_half a)) p12) i
    ∷ (c.restore-4.ensures ∙ ap (λ a. Load Lw (if 28 == c.args.temp then 0 else 28) c.args.temp (lower_half a)) p16) i
    ∷ (c.restore-5.ensures ∙ ap (λ a. Load Lw (if 29 == c.args.temp then 0 else 29) c.args.temp (lower_half a)) p20) i
    ∷ (c.restore-6.ensures ∙ ap (λ a. Load Lw (if 30 == c.args.temp then 0 else 30) c.args.temp (lower_half a)) p24) i
    ∷ (c.restore-7.ensures ∙ ap (λ a. Load Lw (if 31 == c.args.temp then 0 else 31) c.args.temp (lower_half a)) p28) i ∷ []
