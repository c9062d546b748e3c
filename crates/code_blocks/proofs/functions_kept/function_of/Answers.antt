use Rattle.std.proofs.Common.{◌-◌, ◌<◌, ◌≤◌, ◌≢◌, length, slice_index_or, arith}
use Rattle.std.proofs.lemmas.List.{get_or_default}
use Rattle.code_blocks.specs.Blocks.{no_function}
use Rattle.code_blocks.proofs.OwnerLemmas.{begun, lies_there, none_begun, last_ended}
use Rattle.code_blocks.proofs.functions_kept.function_of.Goals as goal

pub returns-then-count-eq0 : goal.returns-then-count-eq0
returns-then-count-eq0 c =
    let point = c.begun_functions-count.ensures.point in
    none_begun c.args.functions.now c.args.address (λ j d below. point.1 j d (omega arith) below)

pub overflow_sub-address : goal.overflow_sub-address
overflow_sub-address c =
    let point = c.begun_functions-count.ensures.point in
    let some : c.begun_functions-count.result ≢ 0 = c.if-count-eq0.false in
    begun _ c.args.address (point.0 (c.begun_functions-count.result - 1) no_function (omega arith) (omega arith))

pub returns-then-address-last : goal.returns-then-address-last
returns-then-address-last c =
    let count = c.begun_functions-count in
    let some : count.result ≢ 0 = c.if-count-eq0.false in
    let bound : count.result ≤ length c.args.functions.now = count.ensures.bound in
    (omega arith, lies_there (slice_index_or c.args.functions.now (count.result - 1) no_function) c.args.address (count.ensures.point.0 (count.result - 1) no_function (omega arith) (omega arith)) c.if-address-last.true)

pub returns-else-address-last : goal.returns-else-address-last
returns-else-address-last c =
    let functions = c.args.functions.now in
    let address = c.args.address in
    let count = c.begun_functions-count in
    let point = count.ensures.point in
    let some : count.result ≢ 0 = c.if-count-eq0.false in
    let bound : count.result ≤ length functions = count.ensures.bound in
    let within : count.result - 1 < length functions = omega arith in
    let from : (slice_index_or functions (count.result - 1) no_function).start ≤ address = begun _ address (point.0 (count.result - 1) no_function (omega arith) (omega arith)) in
    let short = c.if-address-last.false in
    last_ended functions address (count.result - 1) c.requires within
    (λ d. rw (get_or_default functions (count.result - 1) d no_function within) (omega (arith, from, short)))
    (λ j d lower below. point.1 j d (omega (arith, lower)) below)
