-- Low sites make addresses.
use Rattle.std.proofs.Common.{◌≡◌, ℕ, ◌/◌, ◌==◌, sym, subst, arith}
use Rattle.std.proofs.lemmas.Bool.{cond_both, eqb-true}
use Rattle.list_checks.proofs.TestLemmas.{both}
use Rattle.rv32im.specs.Words.{offset, lower_half}
use Rattle.cell_values.specs.Objects.{Objects, home_address}
use Rattle.cell_values.specs.Operations.{same_chunk, low_site}
use Rattle.cell_values.specs.declared.values.Val.TheVariants.{Hi}
use Rattle.cell_values.specs.Origins.{Origin}
use Rattle.cell_values.specs.Stands.{Places, Fit, Uppers, Stands, address_word, upper_word}
use Rattle.cell_values.specs.WordLaws.{LowSitesStand, PairedSitesStand}
use Rattle.cell_values.proofs.Sums.{chunk_stays, chunk_upper, halves_make, halves_lead}

module _ (os : Objects) (place : Places) (up : Uppers) (fit : Fit os place) where
  -- the low part of an address, on the upper part of one in its chunk
  site_word : (o d e : ℕ) → home_address os o d / os.grain ≡ home_address os o e / os.grain → offset (upper_word place o d) (lower_half (address_word place o e)) ≡ address_word place o e
  site_word o d e same =
      let stays = chunk_stays os.grain fit.grain (place o) (os.home o) d e (fit.congruent o) same in
      let upper = chunk_upper os.grain fit.grain (address_word place o d) (address_word place o e) stays in
      rw upper (halves_make (address_word place o e) (omega arith))

  site_stands : (k : Origin) (p d o e : ℕ) → Stands os place up k (low_site os (Hi p d) o e) (offset (upper_word place p d) (lower_half (address_word place o e)))
  site_stands k p d o e =
      cond_both _ _ _ (λ v. Stands os place up k v (offset (upper_word place p d) (lower_half (address_word place o e))))
      (λ near.
      let parts = both (p == o) (same_chunk os.grain (home_address os o d) (home_address os o e)) near in
      let chunk = eqb-true (home_address os o d / os.grain) (home_address os o e / os.grain) parts.1 in
      subst (λ q. offset (upper_word place q d) (lower_half (address_word place o e)) ≡ address_word place o e)
      (sym (eqb-true p o parts.0)) (site_word o d e chunk))
      (λ far. tt)

pub low_sites_stand : LowSitesStand
low_sites_stand os place up fit makes k (Hi p d) o e w word stands =
    let is = rw (makes p d) at stands in
    rw is (site_stands os place up fit k p d o e)
low_sites_stand os place up fit makes k x o e w word stands = tt

pub paired_sites_stand : PairedSitesStand
paired_sites_stand place at o d word = halves_lead at (address_word place o d) (omega arith)
