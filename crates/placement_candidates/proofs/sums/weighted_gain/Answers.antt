-- Neither the factors nor their product lose anything as numbers of 128 bits.
use Rattle.std.proofs.Common.{◌≡◌, ◌∙◌, ◌^◌, pos, ◌*ℤ◌, sym, arith, rules}
use Rattle.std.proofs.lemmas.Int.{fits_signed_mul, to_z-of_z}
use mir.Syntax.{w128}
use Rattle.placement_candidates.proofs.SumLemmas.{product_small, of_weight, fits_within, read_gain, read_small}
use Rattle.placement_candidates.proofs.sums.weighted_gain.Goals as goal

pub overflow_mul-result : goal.overflow_mul-result
overflow_mul-result c =
    let weight : c.from.result ≡ pos c.args.weight = search rules in
    let few = of_weight c.from.result c.args.weight weight c.requires.few in
    let small = read_small c.args.side.now.vars.items c.args.k c.index.result.now c.requires.inside c.index.ensures c.requires.small.gains in
    let first = to_z-of_z w128 c.from.result (fits_within c.from.result (omega (arith, few))) in
    let second = to_z-of_z w128 c.index.result.now.gain (fits_within c.index.result.now.gain (omega (arith, small))) in
    rw (first, second) (fits_signed_mul w128 c.from.result c.index.result.now.gain 1000 (2 ^ 90) few (omega (arith, small)) (omega arith))

pub returns-clause-sum : goal.returns-clause-sum
returns-clause-sum c =
    let weight : c.from.result ≡ pos c.args.weight = search rules in
    let few = of_weight c.from.result c.args.weight weight c.requires.few in
    let small = read_small c.args.side.now.vars.items c.args.k c.index.result.now c.requires.inside c.index.ensures c.requires.small.gains in
    let read = read_gain c.args.side.now.vars.items c.args.k c.index.result.now c.requires.inside c.index.ensures in
    let first = to_z-of_z w128 c.from.result (fits_within c.from.result (omega (arith, few))) in
    let second = to_z-of_z w128 c.index.result.now.gain (fits_within c.index.result.now.gain (omega (arith, small))) in
    let product = product_small c.from.result c.index.result.now.gain few small in
    rw (first, second) (to_z-of_z w128 (c.from.result *ℤ c.index.result.now.gain) (fits_within (c.from.result *ℤ c.index.result.now.gain) product) ∙ (λ i. weight i *ℤ sym read i))

pub returns-clause-small : goal.returns-clause-small
returns-clause-small c =
    let weight : c.from.result ≡ pos c.args.weight = search rules in
    let few = of_weight c.from.result c.args.weight weight c.requires.few in
    let small = read_small c.args.side.now.vars.items c.args.k c.index.result.now c.requires.inside c.index.ensures c.requires.small.gains in
    let first = to_z-of_z w128 c.from.result (fits_within c.from.result (omega (arith, few))) in
    let second = to_z-of_z w128 c.index.result.now.gain (fits_within c.index.result.now.gain (omega (arith, small))) in
    let product = product_small c.from.result c.index.result.now.gain few small in
    let third = to_z-of_z w128 (c.from.result *ℤ c.index.result.now.gain) (fits_within (c.from.result *ℤ c.index.result.now.gain) product) in
    rw (first, second, third) product
