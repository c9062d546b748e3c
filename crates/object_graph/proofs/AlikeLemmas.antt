-- Sites and words of data that are the same.
use Rattle.std.proofs.Common.{◌≡◌, ◌==◌, Bool, true, ◌&&◌, refl, arith}
use Rattle.std.proofs.lemmas.Bool.{eqb-true, eq-eqb}
use Rattle.list_checks.proofs.TestLemmas.{both}
use Rattle.object_graph.specs.declared.parts.Site.{Site}
use Rattle.object_graph.specs.declared.parts.DataWord.{DataWord}
use Rattle.object_graph.specs.Graphs.{same_part, same_site, same_word}
use Rattle.object_graph.specs.Gathered.{site_place, word_place}
use Rattle.object_graph.proofs.GivenLemmas.{same_as_itself}

pub site_alike : (s t : Site) → same_site s t ≡ true → site_place s ≡ site_place t
site_alike s t same =
    let third = both ((s.at == t.at) && same_part s.kind t.kind && (s.object == t.object)) (s.offset == t.offset) same in
    let second = both ((s.at == t.at) && same_part s.kind t.kind) (s.object == t.object) third.0 in
    eqb-true s.at t.at (both (s.at == t.at) (same_part s.kind t.kind) second.0).0

pub word_alike : (d e : DataWord) → same_word d e ≡ true → word_place d ≡ word_place e
word_alike d e same =
    let second = both ((d.at == e.at) && (d.object == e.object)) (d.offset == e.offset) same in
    eqb-true d.at e.at (both (d.at == e.at) (d.object == e.object) second.0).0

four_true : (a b c d : Bool) → a ≡ true → b ≡ true → c ≡ true → d ≡ true → a && b && c && d ≡ true
four_true a b c d first second third last = grind (arith, first, second, third, last)

three_true : (a b c : Bool) → a ≡ true → b ≡ true → c ≡ true → a && b && c ≡ true
three_true a b c first second third = grind (arith, first, second, third)

pub site_itself : (s : Site) → same_site s s ≡ true
site_itself s =
    four_true (s.at == s.at) (same_part s.kind s.kind) (s.object == s.object) (s.offset == s.offset) (eq-eqb _ _ refl) (same_as_itself s.kind) (eq-eqb _ _ refl) (eq-eqb _ _ refl)

pub word_itself : (d : DataWord) → same_word d d ≡ true
word_itself d =
    three_true (d.at == d.at) (d.object == d.object) (d.offset == d.offset) (eq-eqb _ _ refl) (eq-eqb _ _ refl) (eq-eqb _ _ refl)
