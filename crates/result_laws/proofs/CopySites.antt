-- The words of units that are no sites.
use Rattle.std.proofs.Common.{◌≡◌, false, [], ◌∷◌, refl}
use Rattle.std.specs.Prelude.{◌==◌}
use Rattle.std.specs.List.{list_any}
use Rattle.list_checks.proofs.TestLemmas.{neither}
use Rattle.block_splitter.specs.Copies.{address_in}
use Rattle.result_laws.specs.CopyLaws.{OthersKeepWords}

pub others_keep_words : OthersKeepWords
others_keep_words [] u none = refl
others_keep_words (p ∷ ps) u none =
    let apart = neither (address_in p == u.at) (list_any (λ q. address_in q == u.at) ps) none in
    let test : (p.0 == u.at) ≡ false = apart.0 in
    rw test (others_keep_words ps u apart.1)
