-- Facts that no rule gives.
use Rattle.std.proofs.Common.{◌≡◌, ◌⊎◌, inl, inr, ℕ, suc, ◌<◌, ◌≤◌, ◌==◌, ◌&&◌, nat_lt, Bool, true, List, [], ◌∷◌, length, slice_index_or, Option, Some, None, refl, sym, ◌∙◌, ap, arith}
use Rattle.std.specs.Prelude.{IfSome}
use Rattle.std.specs.List.{list_any}
use Rattle.std.proofs.lemmas.Bool.{eq-eqb}
use Rattle.std.proofs.lemmas.Bool.Decides.{nat_tests}
use Rattle.std.proofs.lemmas.List.Folds.{list_any_at}
use Rattle.list_checks.proofs.TestLemmas.{both}
use Rattle.list_checks.specs.Tests.{any_below}
use Rattle.rv32im.specs.declared.instructions.Instr.{Instr}
use Rattle.object_graph.specs.declared.parts.SiteKind.{SiteKind}
use Rattle.object_graph.specs.declared.parts.SiteKind.TheVariants.{Hi, LowI, LowS}
use Rattle.object_graph.specs.declared.parts.Site.{Site}
use Rattle.object_graph.specs.declared.parts.DataWord.{DataWord}
use Rattle.object_graph.specs.declared.parts.Graph.{Graph}
use Rattle.object_graph.specs.Graphs.{same_part, same_site, is_site_of_list, gives_site}
use Rattle.object_graph.specs.Lookups.{IsSomeGraph}
use Rattle.code_blocks.specs.declared.parts.Code.{Code}
use Rattle.dataflow.specs.Points.{site_at, unit_of, instr_of, site_of, Makes, Fact, Held, Escaped, Derives}
use Rattle.dataflow.proofs.SiteLemmas.{true_and, word_inside}

same_part_itself : (kind : SiteKind) → same_part kind kind ≡ true
same_part_itself Hi = refl
same_part_itself LowI = refl
same_part_itself LowS = refl

same_site_itself : (s : Site) → same_site s s ≡ true
same_site_itself s =
    true_and ((s.at == s.at) && same_part s.kind s.kind && (s.object == s.object)) (s.offset == s.offset)
    (true_and ((s.at == s.at) && same_part s.kind s.kind) (s.object == s.object)
    (true_and (s.at == s.at) (same_part s.kind s.kind) (eq-eqb s.at s.at refl) (same_part_itself s.kind))
    (eq-eqb s.object s.object refl))
    (eq-eqb s.offset s.offset refl)

sites_inside : (g : Graph) → IsSomeGraph g → (i : ℕ) (d : Site) → i < length g.sites.items → (slice_index_or g.sites.items i d).object < length g.objects.items
sites_inside g some i d inside =
    let (v, board, is) = some in
    let s = slice_index_or g.sites.items i d in
    let here : list_any (same_site s) g.sites.items ≡ true = list_any_at (same_site s) g.sites.items i d inside (same_site_itself s) in
    let below = (both (nat_lt s.object (length g.objects.items)) (any_below (gives_site v g.objects.items s) (length v.relocs)) (sym (is.sites.exact s) ∙ here)).0 in
    grind (arith, nat_tests, below)

two : (b : Bool) → (b ≡ true) ⊎ (b ≡ Bool.false)
two true = inl refl
two Bool.false = inr refl

found_inside : (sites : List Site) (a n : ℕ) → ((i : ℕ) (d : Site) → i < length sites → (slice_index_or sites i d).object < n) → IfSome (site_at sites a) (λ s. s.object < n)
found_inside [] a n all = tt
found_inside (s ∷ sites) a n all =
    elim (two (s.at == a)) [
      | inl here ↦ rw here (all 0 s (omega arith))
      | inr other ↦ rw other (found_inside sites a n (λ i d inside. all (suc i) d (omega (arith, inside))))
    ]

makes_inside : (s : Option Site) (i : Option Instr) (o x n : ℕ) → IfSome s (λ t. t.object < n) → Makes s i o x → o < n
makes_inside None i o x n below makes = absurd makes
makes_inside (Some s) i o x n below makes = let is = makes.0 in omega (arith, below, is)

-- nothing is told of numbers that no object has
pub no_facts : (c : Code) (g : Graph) (o : ℕ) → IsSomeGraph g → length g.objects.items ≤ o → (fact : Fact) → Derives c g o fact → ⊥
no_facts c g o some past _ (Derives.site b k x inside holder makes) =
    let below = makes_inside (site_of c g b k) (instr_of c b k) o x (length g.objects.items) (found_inside g.sites.items (unit_of c b k).at (length g.objects.items) (sites_inside g some)) makes in
    omega (arith, past, below)
no_facts c g o some past _ (Derives.move b k x z inside holder moves before) = no_facts c g o some past (Held b k x) before
no_facts c g o some past _ (Derives.sum b k x z inside holder sums before) = no_facts c g o some past (Held b k x) before
no_facts c g o some past _ (Derives.store b k x inside stores before) = no_facts c g o some past (Held b k x) before
no_facts c g o some past _ (Derives.load b k z inside holder loads escaped) = no_facts c g o some past Escaped escaped
no_facts c g o some past _ (Derives.word d (i, below, is) means) =
    let there = word_inside g i d some below in
    let object : (slice_index_or g.data_words.items i d).object ≡ o = ap (λ (w : DataWord). w.object) is ∙ means in
    omega (arith, past, there, object)
no_facts c g o some past _ (Derives.keep b k x inside kept before) = no_facts c g o some past (Held b k x) before
no_facts c g o some past _ (Derives.next b d x on before) = no_facts c g o some past (Held b _ x) before
no_facts c g o some past _ (Derives.anywhere b d x on before) = no_facts c g o some past (Held b _ x) before
