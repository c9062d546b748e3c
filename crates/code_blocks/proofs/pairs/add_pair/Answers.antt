use Rattle.std.proofs.Common.{◌≡◌, ◌∙◌, ◌==◌, ◌&&◌, ◌||◌, sym, ap}
use Rattle.std.proofs.lemmas.List.{get_or_default}
use Rattle.elf_reader.specs.File.{plain_view}
use Rattle.loaded_file.specs.Records.{no_reloc, reloc_at}
use Rattle.code_blocks.specs.Early.{has}
use Rattle.code_blocks.proofs.PairLemmas.{pair_at, has_push, nothing_added}
use Rattle.code_blocks.proofs.pairs.add_pair.Goals as goal

pub returns-then-not-makes_pair : goal.returns-then-not-makes_pair
returns-then-not-makes_pair c p =
    let v = plain_view c.args.file.now.view.now in
    let relocs = c.args.file.now.view.now.relocs.items in
    let r = c.index-reloc.result.now in
    let is : reloc_at v c.args.i ≡ r = get_or_default relocs c.args.i no_reloc r c.requires.below ∙ sym c.index-reloc.ensures in
    let fails = sym c.makes_pair.ensures ∙ c.if-not-makes_pair.true in
    nothing_added _ _ (pair_at v p c.args.i r is ∙ ap (λ b. b && (r.at == p)) fails)

pub returns : goal.returns
returns c p =
    let v = plain_view c.args.file.now.view.now in
    let relocs = c.args.file.now.view.now.relocs.items in
    let r = c.index-reloc.result.now in
    let is : reloc_at v c.args.i ≡ r = get_or_default relocs c.args.i no_reloc r c.requires.below ∙ sym c.index-reloc.ensures in
    let passes = sym c.makes_pair.ensures ∙ c.if-not-makes_pair.false in
    ap (λ xs. has xs p) c.in_ok-push.ensures.items
    ∙ has_push c.args.pairs.now.items r.at p
    ∙ ap (λ b. has c.args.pairs.now.items p || b) (sym (pair_at v p c.args.i r is ∙ ap (λ b. b && (r.at == p)) passes))
