use Rattle.std.proofs.Common.{◌≡◌, ◌∙◌, ℕ, Bool, ◌||◌, length, map, ap, subst, arith, add-one}
use Rattle.std.specs.List.{list_any}
use Rattle.std.proofs.lemmas.List.{length-map}
use Rattle.list_checks.specs.Tests.{any_below}
use Rattle.elf_reader.specs.File.{plain_symbol, plain_view}
use Rattle.code_blocks.specs.Kept.{passes_key}
use Rattle.code_blocks.proofs.candidates.unsorted_keys.Goals as goal

pub loop-k-preserved : goal.loop-k-preserved
loop-k-preserved c =
    let v = plain_view c.args.file.now.view.now in
    let few = c.in_ok-push_function.ensures.few in
    let before = c.loop-k.invariant.1 in (
      λ test.
          rw (add-one c.loop-k.k) (c.in_ok-push_function.ensures.exact test ∙ ap (λ (b : Bool). b || passes_key v test c.loop-k.k) (c.loop-k.invariant.0 test)),
      omega (arith, before, few),
    )

pub returns-clause-exact : goal.returns-clause-exact
returns-clause-exact c test =
    let v = plain_view c.args.file.now.view.now in
    let count : length (map plain_symbol c.args.file.now.view.now.symbols.items) ≡ length c.args.file.now.view.now.symbols.items = length-map c.args.file.now.view.now.symbols.items plain_symbol in
    let all : c.loop-k.k ≡ length v.symbols = omega (arith, count) in
    subst (λ (n : ℕ). list_any test c.loop-k.keys.items ≡ any_below (passes_key v test) n) all (c.loop-k.invariant.0 test)
