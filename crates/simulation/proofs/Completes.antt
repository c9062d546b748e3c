-- Immediates that complete upper parts: where the words of the file stay, and where each site is a LUI.
use Rattle.std.proofs.Common.{◌≡◌, ℕ, ◌<◌, ◌==◌, true, ◌&&◌, Some, None, ℤ, sym, ◌∙◌, subst}
use Rattle.std.proofs.lemmas.Bool.{cond_both, eqb-true}
use Rattle.rv32im.specs.Words.{minus, offset, lower_half}
use Rattle.cell_values.specs.Objects.{home_address}
use Rattle.cell_values.specs.Operations.{same_chunk, low_site}
use Rattle.cell_values.specs.declared.values.Val.{Val}
use Rattle.cell_values.specs.declared.values.Val.TheVariants.{Addr, Hi, Unknown}
use Rattle.cell_values.specs.Origins.{Origin, ByLui, ByAuipc, Mixed}
use Rattle.cell_values.specs.Stands.{Stands, address_word, auipc_word, moved_uppers}
use Rattle.cell_values.proofs.Sites.{low_sites_stand, paired_sites_stand}
use Rattle.object_machine.specs.Program.{Program, Target}
use Rattle.object_machine.specs.Paired.{finds_named}
use Rattle.simulation.specs.Setups.{Setup, Sound}
use Rattle.simulation.specs.Made.{IsMade}
use Rattle.simulation.specs.Units.{Completes}

some_same : (g h : Target) → Some g ≡ Some h → g ≡ h
some_same g h same = cc

-- what a low site leaves stands, if it does where the upper part is one
module _ (p : Program) (l : Setup) (r u : ℕ) (g : Target) (z : ℤ) where
  abbrev Here : Origin → Origin → Val → ℕ → Type 0
  Here m k x w =
      IsMade p m x → finds_named (p.named u) m x ≡ true → Stands p.objects (l.place r) (l.upper r) m x w
      → Stands p.objects (l.place r) (l.upper r) k (low_site p.objects x g.object g.offset) (offset w z)

  pub by_uppers : ((m k : Origin) (o d w : ℕ) → w < 4294967296 → Here m k (Hi o d) w) → Completes p l r u g z
  by_uppers uppers m k (Hi o d) w word made found stands = uppers m k o d w word made found stands
  by_uppers uppers m k x w word made found stands = tt

  -- ---- where each site is a LUI
  pub moved_completes : Sound p l r → l.upper r ≡ moved_uppers (l.place r) → z ≡ lower_half (address_word (l.place r) g.object g.offset) → Completes p l r u g z
  moved_completes sound moved is =
      by_uppers (λ m k o d w word made found stands.
      let as_moved : Stands p.objects (l.place r) (moved_uppers (l.place r)) m (Hi o d) w =
      subst (λ up. Stands p.objects (l.place r) up m (Hi o d) w) moved stands in
      let by_lui : Stands p.objects (l.place r) (l.upper r) ByLui (Hi o d) w =
      subst (λ up. Stands p.objects (l.place r) up ByLui (Hi o d) w) (sym moved) as_moved in
      subst (λ y. Stands p.objects (l.place r) (l.upper r) k (low_site p.objects (Hi o d) g.object g.offset) (offset w y))
      (sym is)
      (low_sites_stand p.objects (l.place r) (l.upper r) sound.fit sound.lui k (Hi o d) g.object g.offset w word by_lui))

  -- ---- where the words of the file stay: a site on a LUI, and one on the AUIPC that its relocation names
  lui_completes : Sound p l r → p.named u ≡ None → z ≡ lower_half (address_word (l.place r) g.object g.offset) → (m k : Origin) (o d w : ℕ) → w < 4294967296 → Here m k (Hi o d) w
  lui_completes sound named is ByLui k o d w word made found stands =
      subst (λ y. Stands p.objects (l.place r) (l.upper r) k (low_site p.objects (Hi o d) g.object g.offset) (offset w y))
      (sym is)
      (low_sites_stand p.objects (l.place r) (l.upper r) sound.fit sound.lui k (Hi o d) g.object g.offset w word stands)
  lui_completes sound named is (ByAuipc a) k o d w word made found stands =
      let other : finds_named None (ByAuipc a) (Hi o d) ≡ true = rw named at found in absurd (cc)
  lui_completes sound named is Mixed k o d w word made found stands =
      let other : finds_named None Mixed (Hi o d) ≡ true = rw named at found in absurd (cc)

  pub kept_completes : Sound p l r → p.named u ≡ None → z ≡ lower_half (address_word (l.place r) g.object g.offset) → Completes p l r u g z
  kept_completes sound named is = by_uppers (lui_completes sound named is)

  module _ (a : ℕ) (named : p.named u ≡ Some a) (site : p.site a ≡ Some g) (makes : l.upper r (ByAuipc a) g.object g.offset ≡ Some (auipc_word (l.place r) a g.object g.offset)) (below : a < 4294967296) (is : z ≡ lower_half (minus (address_word (l.place r) g.object g.offset) a)) where
    address_made : (k : Origin) (w : ℕ) → Stands p.objects (l.place r) (l.upper r) (ByAuipc a) (Hi g.object g.offset) w → Stands p.objects (l.place r) (l.upper r) k (low_site p.objects (Hi g.object g.offset) g.object g.offset) (offset w z)
    address_made k w stands =
        let word : w ≡ auipc_word (l.place r) a g.object g.offset = rw makes at stands in
        let whole = paired_sites_stand (l.place r) a g.object g.offset below in
        let made : offset w z ≡ address_word (l.place r) g.object g.offset = rw (word, is) whole in
        cond_both ((g.object == g.object) && same_chunk p.objects.grain (home_address p.objects g.object g.offset) (home_address p.objects g.object g.offset))
        (Addr g.object g.offset) Unknown (λ x. Stands p.objects (l.place r) (l.upper r) k x (offset w z)) (λ near. made) (λ far. tt)

    auipc_completes : (m k : Origin) (o d w : ℕ) → w < 4294967296 → Here m k (Hi o d) w
    auipc_completes ByLui k o d w word made found stands =
        let other : finds_named (Some a) ByLui (Hi o d) ≡ true = rw named at found in absurd (cc)
    auipc_completes Mixed k o d w word made found stands =
        let other : finds_named (Some a) Mixed (Hi o d) ≡ true = rw named at found in absurd (cc)
    auipc_completes (ByAuipc b) k o d w word made found stands =
        let by : finds_named (Some a) (ByAuipc b) (Hi o d) ≡ true = rw named at found in
        let same : b ≡ a = eqb-true b a by in
        let there : p.site a ≡ Some (record { object = o; offset = d }) =
        subst (λ y. p.site y ≡ Some (record { object = o; offset = d })) same made.0 in
        let target : g ≡ record { object = o; offset = d } = some_same g (record { object = o; offset = d }) (sym site ∙ there) in
        let here : Stands p.objects (l.place r) (l.upper r) (ByAuipc a) (Hi o d) w =
        subst (λ y. Stands p.objects (l.place r) (l.upper r) (ByAuipc y) (Hi o d) w) same stands in
        subst (λ (y : Target). Stands p.objects (l.place r) (l.upper r) (ByAuipc a) (Hi y.object y.offset) w → Stands p.objects (l.place r) (l.upper r) k (low_site p.objects (Hi y.object y.offset) g.object g.offset) (offset w z))
        target (address_made k w) here

    pub pair_completes : Completes p l r u g z
    pair_completes = by_uppers auipc_completes
