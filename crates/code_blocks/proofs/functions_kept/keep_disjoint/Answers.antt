use Rattle.std.proofs.Common.{◌≡◌, List, ℕ, map, take, subst, arith}
use Rattle.std.proofs.lemmas.List.{take_all}
use Rattle.elf_reader.specs.File.{plain_view}
use Rattle.code_blocks.specs.Kept.{name_in}
use Rattle.code_blocks.proofs.KeptLemmas.{AreSwept, swept_none}
use Rattle.code_blocks.proofs.SweepLemmas.{swept_more, all_swept, name_below}
use Rattle.code_blocks.proofs.functions_kept.keep_disjoint.Goals as goal

pub loop-key-init : goal.loop-key-init
loop-key-init c = rw c.new-functions.ensures.items (swept_none (plain_view c.args.view.now))

pub keep-requires : goal.keep-requires
keep-requires c =
    name_below c.args.view.now c.args.keys.now c.loop-key.key-index c.name_in.result c.requires.read c.requires.keys (omega arith) c.name_in.ensures

pub loop-key-preserved : goal.loop-key-preserved
loop-key-preserved c =
    swept_more c.args.view.now c.args.keys.now c.loop-key.key-index c.loop-key.functions.items _ c.loop-key.furthest_end _ c.name_in.result c.requires.read c.requires.keys (omega arith) c.name_in.ensures
    c.loop-key.invariant c.in_ok-furthest_end.ensures.left c.in_ok-furthest_end.ensures.kept

pub returns : goal.returns
returns c =
    let v = plain_view c.args.view.now in
    let keys = c.args.keys.now in
    let all : take c.loop-key.key-index keys ≡ keys = take_all c.loop-key.key-index keys (omega arith) in
    all_swept c.args.view.now keys c.loop-key.functions.items c.loop-key.furthest_end c.requires.read c.requires.keys
    (subst (λ (xs : List ℕ). AreSwept v (map name_in xs) c.loop-key.functions.items c.loop-key.furthest_end) all c.loop-key.invariant)
