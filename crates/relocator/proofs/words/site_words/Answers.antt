use Rattle.std.proofs.Common.{◌∙◌, ℕ, List, ◌++◌, sym, ap, subst, arith}
use Rattle.std.specs.List.{list_any}
use Rattle.elf_reader.specs.File.{plain_view}
use Rattle.object_graph.specs.Gathered.{AreSeparate}
use Rattle.relocator.specs.Gathering.{address_of}
use Rattle.relocator.proofs.WordLemmas.{word_here}
use Rattle.relocator.proofs.ListLemmas.{all_separate, are_site_words}
use Rattle.relocator.proofs.words.site_words.Goals as goal

pub words_of_data-requires : goal.words_of_data-requires
words_of_data-requires c k below =
    let g = c.args.graph.now in
    let object = word_here (plain_view c.args.view.now) g.objects.items g.data_words.items k c.requires.graph.1.data_words below in
    let most = c.requires.places.objects in
    record { object = omega (arith, object, most); region = c.requires.places.start _ object }

pub sort_words-requires : goal.sort_words-requires
sort_words-requires c =
    let xs = c.in_ok-words.words.items in
    let grown = c.in_ok-extend_from_slice.ensures.items ∙ ap (λ (ys : List (ℕ × ℕ)). xs ++ ys) c.deref.ensures.value in
    subst (λ (es : List (ℕ × ℕ)). AreSeparate address_of es) (sym grown)
    (all_separate (plain_view c.args.view.now) c.requires.graph.0 c.args.graph.now c.args.places.now c.args.region_at.now xs c.in_ok-data_words.data_words.items c.requires.graph.1 c.in_ok-words.ensures c.in_ok-data_words.ensures)

pub returns : goal.returns
returns c =
    let xs = c.in_ok-words.words.items in
    let grown = c.in_ok-extend_from_slice.ensures.items ∙ ap (λ (ys : List (ℕ × ℕ)). xs ++ ys) c.deref.ensures.value in
    are_site_words (plain_view c.args.view.now) c.args.graph.now c.args.places.now c.args.region_at.now xs c.in_ok-data_words.data_words.items c.sort_words.new.words.items c.in_ok-words.ensures c.in_ok-data_words.ensures c.sort_words.ensures.disjoint
    (λ test. c.sort_words.ensures.same test ∙ ap (λ (es : List (ℕ × ℕ)). list_any test es) grown)
