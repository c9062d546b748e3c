use Rattle.std.proofs.Common.{ℕ, length, sym, subst, arith}
use Rattle.elf_reader.specs.File.{plain_view}
use Rattle.relocator.specs.Gathering.{CanRewrite}
use Rattle.relocator.proofs.WordLemmas.{listed_here, code_of, can_of}
use Rattle.relocator.proofs.words.word_of_site.Goals as goal

pub word_of_code-word-requires-clause-code : goal.word_of_code-word-requires-clause-code
word_of_code-word-requires-clause-code c =
    let v = plain_view c.args.file.now.view.now in
    let g = c.args.graph.now in
    let s = c.index-site.result.now in
    code_of v (length g.objects.items) s (listed_here v g.objects.items g.sites.items c.args.k s c.requires.graph.1.sites c.requires.below c.index-site.ensures)

pub place_at-place-requires-clause-object : goal.place_at-place-requires-clause-object
place_at-place-requires-clause-object c =
    let object = (listed_here (plain_view c.args.file.now.view.now) c.args.graph.now.objects.items c.args.graph.now.sites.items c.args.k c.index-site.result.now c.requires.graph.1.sites c.requires.below c.index-site.ensures).object in
    let most = c.requires.places.objects in
    omega (arith, object, most)

pub place_at-place-requires-clause-region : goal.place_at-place-requires-clause-region
place_at-place-requires-clause-region c =
    let object = (listed_here (plain_view c.args.file.now.view.now) c.args.graph.now.objects.items c.args.graph.now.sites.items c.args.k c.index-site.result.now c.requires.graph.1.sites c.requires.below c.index-site.ensures).object in
    let below = c.requires.below in
    let long = c.requires.places.sites in
    c.requires.places.regions c.index-site.result.now.object c.args.k object (omega (arith, below, long))

pub new_word-requires : goal.new_word-requires
new_word-requires c =
    let v = plain_view c.args.file.now.view.now in
    let g = c.args.graph.now in
    let s = c.index-site.result.now in
    let can = can_of v (length g.objects.items) s (listed_here v g.objects.items g.sites.items c.args.k s c.requires.graph.1.sites c.requires.below c.index-site.ensures) in
    subst (λ (w : ℕ). CanRewrite s.kind w) (sym c.word_of_code-word.ensures) can
