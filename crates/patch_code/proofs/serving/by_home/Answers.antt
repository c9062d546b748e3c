use Rattle.std.proofs.Common.{map, rules}
use Rattle.std.proofs.lemmas.List.Sorted.{IsNonDecreasingBy-from_sort_by_key}
use Rattle.patch_code.specs.Serving.{serving_home}
use Rattle.patch_code.specs.StubPlans.{serving_stub, seen_stub}
use Rattle.patch_code.proofs.Order.{seen_home, sorted_by_home}
use Rattle.patch_code.proofs.serving.by_home.Goals as goal

pub returns : goal.returns
returns c =
    sorted_by_home seen_stub serving_home (map serving_stub c.args.stubs.now) c.in_ok-ordered.ordered.items c.sort_unstable_by_key.new.self.items c.requires
    c.in_ok-ordered.ensures c.sort_unstable_by_key.ensures.permutation
    (IsNonDecreasingBy-from_sort_by_key (seen_home seen_stub serving_home) _ c.sort_unstable_by_key.ensures.sorted (λ a r q k. search rules))
