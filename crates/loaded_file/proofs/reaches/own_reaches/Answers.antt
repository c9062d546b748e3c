use Rattle.std.proofs.Common.{◌≡◌, ◌∙◌, ℕ, length, map, sym, subst, rules, arith}
use Rattle.std.specs.List.{list_any}
use Rattle.std.proofs.lemmas.List.{length-map}
use Rattle.list_checks.specs.Tests.{any_below}
use Rattle.elf_reader.specs.File.{plain_section, plain_view}
use Rattle.loaded_file.specs.Reaches.{passes_own}
use Rattle.std.proofs.lemmas.List.Sorted.{IsNonDecreasingBy-from_sort_by_key, list_any-IsPermutation}
use Rattle.loaded_file.specs.declared.reaches.Reach.{Reach}
use Rattle.loaded_file.proofs.reaches.own_reaches.Goals as goal

pub returns : goal.returns
returns c =
    let v = plain_view c.args.view.now in
    let sort = c.sort_unstable_by_key.ensures in
    record {
      ascending = IsNonDecreasingBy-from_sort_by_key (λ (r : Reach). r.start) _ sort.sorted (λ a r q k. search rules);
      exact = λ asked.
          let count : length (map plain_section c.args.view.now.sections.items) ≡ length c.args.view.now.sections.items = length-map c.args.view.now.sections.items plain_section in
          let all : c.loop-k.k ≡ length v.sections = omega (arith, count) in
          sym (list_any-IsPermutation asked _ _ sort.permutation) ∙ subst (λ (n : ℕ). list_any asked c.loop-k.reaches.items ≡ any_below (passes_own c.args.kind v asked) n) all (c.loop-k.invariant asked);
    }
