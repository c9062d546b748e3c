-- The instruction at a site makes its part of the address of the object's home.
use Rattle.std.proofs.Common.{◌≡◌, ◌∙◌, inl, inr, ℕ, ◌+◌, ◌*◌, ◌%◌, ◌<◌, ◌≤◌, ◌==◌, true, List, length, Option, Some, None, ℤ, refl, sym, ap, subst, arith}
use Rattle.std.proofs.lemmas.Bool.{cases_eq, eqb-true}
use Rattle.std.proofs.lemmas.Bool.Decides.{nat_tests}
use Rattle.list_checks.proofs.FirstLemmas.{none_at}
use Rattle.list_checks.proofs.TestLemmas.{both}
use Rattle.rv32im.specs.Words.{plus, minus, offset, upper_half, lower_half}
use Rattle.rv32im.specs.Fields.{rd_of, rs1_of, rs2_of}
use Rattle.rv32im.specs.Table.{Means}
use Rattle.rv32im.specs.declared.instructions.Instr.{Instr}
use Rattle.rv32im.specs.declared.instructions.Instr.TheVariants.{Lui, Auipc, Load, Store, OpImm}
use Rattle.rv32im.specs.declared.instructions.ImmKind.TheVariants.{Addi}
use Rattle.elf_reader.specs.File.{PlainView, view_in}
use Rattle.board_config.specs.declared.board.Board.{Board}
use Rattle.loaded_file.specs.Code.{image_word}
use Rattle.loaded_file.specs.Records.{reloc_at, symbol_of}
use Rattle.object_graph.specs.Rewritable.{displacement, is_pair_low}
use Rattle.object_graph.specs.Fixed.{is_movable}
use Rattle.object_graph.specs.Laws.{LoadsUpper, AddsUpper, StoresAtLower, HasLower, GivesSite, lead, reach}
use Rattle.object_graph.specs.declared.parts.Graph.{Graph}
use Rattle.object_graph.proofs.LeadLemmas.{high_sites_lead, low_sites_lead, low_stores_lead, paired_sites_lead}
use Rattle.cell_values.specs.Objects.{object_of, objects_of}
use Rattle.cell_values.specs.Operations.{low_site}
use Rattle.cell_values.specs.declared.values.Val.TheVariants.{Hi}
use Rattle.cell_values.specs.Origins.{Origin, ByLui, ByAuipc, Mixed}
use Rattle.cell_values.specs.Stands.{Stands, address_word}
use Rattle.object_machine.specs.Program.{Program, Target, target_at, named_by}
use Rattle.object_machine.specs.Paired.{finds_named}
use Rattle.simulation.specs.Setups.{Setup}
use Rattle.simulation.specs.Made.{MakesPart, IsMade}
use Rattle.simulation.specs.Units.{Completes, StandsForSite}
use Rattle.simulation.proofs.Completes.{by_uppers, kept_completes, pair_completes}
use Rattle.result_laws.specs.HomeLaws.{IsAccepted, program_in, setup_in}
use Rattle.result_laws.proofs.HomeNumbers.{plain_sum}
use Rattle.cell_values.proofs.GraphObjects.{object_moves, object_extends}
use Rattle.result_laws.proofs.Words.{code_below}
use Rattle.result_laws.proofs.Sites.{Makes, MakesLow, SiteBy, by_high, by_wide, by_store, by_pair, by_low, site_of, high_target}
use Rattle.result_laws.proofs.Named.{Names, named_found, names_some, named_gives, one_at}
use Rattle.result_laws.proofs.HomeSound.{loadable, sound_home}

upper_fits : (a : ℕ) → upper_half a * 4096 % 4294967296 ≡ upper_half a * 4096
upper_fits a = omega arith

not_low : (kind : ℕ) → 25 < kind → is_pair_low kind ≡ true → ⊥
not_low kind other low = absurd (grind (arith, nat_tests, other, low))

module _ (file : List ℕ) (board : Board) (g : Graph) (accepted : IsAccepted file board g) (u : ℕ) (t : Target) (here : target_at g.sites.items u ≡ Some t) where
  abbrev v : PlainView
  v = view_in file

  abbrev p : Program
  p = program_in file board g

  abbrev l : Setup
  l = setup_in file board g

  abbrev home : ℕ
  home = (object_of g t.object).home

  abbrev n : ℕ
  n = (object_of g t.object).size

  -- the address that the site makes a part of
  abbrev address : ℕ
  address = address_word (objects_of g).home t.object t.offset

  below : t.object < length g.objects.items
  below = (site_of v g u t accepted.graph.sites here).below

  movable : is_movable v board home n ≡ true
  movable = object_moves v board g t.object accepted.graph.objects below

  leads_there : (x : ℕ) → x ≡ t.offset → x ≤ n → home + x ≡ address
  leads_there x is near = plain_sum home n t.offset x is near (object_extends v board g t.object accepted.graph.objects).ends

  -- ---- low parts

  -- where the AUIPC that is named makes no part, no upper part is found
  no_parts : (a : ℕ) (z : ℤ) → p.named u ≡ Some a → ((o d : ℕ) → MakesPart p (ByAuipc a) o d → ⊥) → (m k : Origin) (o d w : ℕ) → w < 4294967296 → IsMade p m (Hi o d) → finds_named (p.named u) m (Hi o d) ≡ true → Stands p.objects (l.place 0) (l.upper 0) m (Hi o d) w → Stands p.objects (l.place 0) (l.upper 0) k (low_site p.objects (Hi o d) t.object t.offset) (offset w z)
  no_parts a z named never ByLui k o d w word made found stands =
      let other : finds_named (Some a) ByLui (Hi o d) ≡ true = rw named at found in absurd (cc)
  no_parts a z named never Mixed k o d w word made found stands =
      let other : finds_named (Some a) Mixed (Hi o d) ≡ true = rw named at found in absurd (cc)
  no_parts a z named never (ByAuipc b) k o d w word made found stands =
      let by : finds_named (Some a) (ByAuipc b) (Hi o d) ≡ true = rw named at found in
      let same : b ≡ a = eqb-true b a by in
      absurd (never o d (subst (λ (x : ℕ). MakesPart p (ByAuipc x) o d) same made))

  none_completes : (a : ℕ) (z : ℤ) → p.named u ≡ Some a → ((o d : ℕ) → MakesPart p (ByAuipc a) o d → ⊥) → Completes p l 0 u t z
  none_completes a z named never = by_uppers p l 0 u t z (no_parts a z named never)

  -- what a named AUIPC that makes a part tells: a relocation that names it gives a site here
  part_gives : (a j o d : ℕ) → Names v u a j → MakesPart p (ByAuipc a) o d → GivesSite v board j
  part_gives a j o d names made =
      named_gives v board g u a j (record { object = o; offset = d }) accepted.graph.objects accepted.graph.sites names made.0 made.1.1.1.0

  -- a low part by itself: where the word names an AUIPC too, that makes no part
  plain_completes : (j : ℕ) → GivesSite v board j → (reloc_at v j).at ≡ u → 25 < (reloc_at v j).kind → Completes p l 0 u t (lower_half address)
  plain_completes j gives at kind = by_named (p.named u) refl
    where
      by_named : (o : Option ℕ) → p.named u ≡ o → Completes p l 0 u t (lower_half address)
      by_named None named = kept_completes p l 0 u t (lower_half address) (sound_home file board g accepted) named refl
      by_named (Some a) named =
          let found = named_found v u a named in
          none_completes a (lower_half address) named
          (λ o d made.
          let same = one_at v board u j found.0 gives (part_gives a found.0 o d found.1 made) at found.1.at in
          let low : is_pair_low (reloc_at v j).kind ≡ true =
          subst (λ (i : ℕ). is_pair_low (reloc_at v i).kind ≡ true) (sym same) found.1.low in
          not_low (reloc_at v j).kind kind low)

  -- the low part of an AUIPC
  module _ (j i : ℕ) (low : MakesLow v home n t.offset u j i) where
    abbrev a : ℕ
    a = (reloc_at v i).at

    gives_low : GivesSite v board j
    gives_low = record { below = low.below; home = home; bytes = n; movable = movable; site = low.site }

    is_low : (is_pair_low (reloc_at v j).kind ≡ true) × ((symbol_of v (reloc_at v j)).value ≡ a)
    is_low =
        let parts = both (is_pair_low (reloc_at v j).kind) ((symbol_of v (reloc_at v j)).value == a) low.names in
        (parts.0, eqb-true (symbol_of v (reloc_at v j)).value a parts.1)

    auipc_below : a < 4294967296
    auipc_below =
        let code = (paired_sites_lead v board home n i movable low.high.makes.means).code in
        let ends = code_below v a (loadable file board g accepted) code in
        omega (arith, ends)

    low_completes : Completes p l 0 u t (lower_half (minus address a))
    low_completes = by_named (p.named u) refl
      where
        by_named : (o : Option ℕ) → p.named u ≡ o → Completes p l 0 u t (lower_half (minus address a))
        by_named None named =
            let none : named_by v u j ≡ None = none_at (named_by v u) (length v.relocs) j low.below named in
            let some = names_some v u j low.counted is_low.0 low.at in
            absurd (cc)
        by_named (Some b) named =
            elim (cases_eq b a) [
              | inl same ↦
                  pair_completes p l 0 u t (lower_half (minus address a)) a (named ∙ ap (λ (x : ℕ). Some x) same)
                  (high_target v g t i accepted.graph.sites below low.high) refl auipc_below refl
              | inr other ↦
                  let found = named_found v u b named in
                  none_completes b (lower_half (minus address a)) named
                  (λ o d made.
                  let same = one_at v board u j found.0 gives_low (part_gives b found.0 o d found.1 made) low.at found.1.at in
                  let value : (symbol_of v (reloc_at v j)).value ≡ b =
                  subst (λ (x : ℕ). (symbol_of v (reloc_at v x)).value ≡ b) (sym same) found.1.value in
                  other (sym value ∙ is_low.1))
            ]

  -- ---- the instruction

  -- an instruction that the word means, and that stands for itself
  abbrev pub HasInstruction : Type 0
  HasInstruction = (k : Instr) × (Means (image_word v u) k × StandsForSite p l 0 u t k k)

  upper_made : (x : ℕ) → x ≡ address → LoadsUpper (image_word v u) x → HasInstruction
  upper_made x is loads =
      (Lui (rd_of (image_word v u)) (upper_half x), (loads, (upper_half x, (refl, upper_fits x ∙ ap (λ (y : ℕ). upper_half y * 4096) is))))

  distance_made : (x : ℕ) → x ≡ minus address u → AddsUpper (image_word v u) x → HasInstruction
  distance_made x is adds =
      (Auipc (rd_of (image_word v u)) (upper_half x), (adds, inl (upper_half x, (refl, ap (λ (y : ℕ). plus u (upper_half y * 4096)) is))))

  lower_made : (x : ℕ) → Completes p l 0 u t (lower_half x) → HasLower (image_word v u) x → HasInstruction
  lower_made x completes (inl adds) =
      (OpImm Addi (rd_of (image_word v u)) (rs1_of (image_word v u)) (lower_half x), (adds, (refl, (lower_half x, (refl, completes)))))
  lower_made x completes (inr (kind, loads)) =
      (Load kind (rd_of (image_word v u)) (rs1_of (image_word v u)) (lower_half x), (loads, (lower_half x, (refl, completes))))

  store_made : (x : ℕ) → Completes p l 0 u t (lower_half x) → StoresAtLower (image_word v u) x → HasInstruction
  store_made x completes (kind, stores) =
      (Store kind (rs1_of (image_word v u)) (rs2_of (image_word v u)) (lower_half x), (stores, (lower_half x, (refl, completes))))

  gives_own : (kind j : ℕ) → Makes v kind home n t.offset u j → GivesSite v board j
  gives_own kind j makes = record { below = makes.means.below; home = home; bytes = n; movable = movable; site = makes.site }

  own_kind : (kind j : ℕ) → 25 < kind → Makes v kind home n t.offset u j → 25 < (reloc_at v j).kind
  own_kind kind j more makes = let is = makes.means.is_kind in omega (arith, is, more)

  -- the lower part of the address
  own_completes : (kind j : ℕ) → 25 < kind → Makes v kind home n t.offset u j → displacement v home (reloc_at v j) ≤ n → Completes p l 0 u t (lower_half (lead v home j))
  own_completes kind j more makes near =
      subst (λ (x : ℕ). Completes p l 0 u t (lower_half x)) (sym (leads_there (displacement v home (reloc_at v j)) makes.behind near))
      (plain_completes j (gives_own kind j makes) makes.at (own_kind kind j more makes))

  made_by : SiteBy v home n t.offset u → HasInstruction
  made_by (by_high j makes) =
      let leads = high_sites_lead v board home n j movable makes.means in
      upper_made (lead v home j) (leads_there (displacement v home (reloc_at v j)) makes.behind leads.near)
      (subst (λ (x : ℕ). LoadsUpper (image_word v x) (lead v home j)) makes.at leads.part)
  made_by (by_wide j makes) =
      let leads = low_sites_lead v board home n j movable makes.means in
      lower_made (lead v home j) (own_completes 27 j (omega arith) makes leads.near)
      (subst (λ (x : ℕ). HasLower (image_word v x) (lead v home j)) makes.at leads.part)
  made_by (by_store j makes) =
      let leads = low_stores_lead v board home n j movable makes.means in
      store_made (lead v home j) (own_completes 28 j (omega arith) makes leads.near)
      (subst (λ (x : ℕ). StoresAtLower (image_word v x) (lead v home j)) makes.at leads.part)
  made_by (by_pair j high) =
      let leads = paired_sites_lead v board home n j movable high.makes.means in
      let far : reach v home j ≡ minus address u =
      ap (λ (x : ℕ). minus x (reloc_at v j).at) (leads_there (displacement v home (reloc_at v j)) high.makes.behind leads.near)
      ∙ ap (λ (x : ℕ). minus address x) high.makes.at in
      distance_made (reach v home j) far (subst (λ (x : ℕ). AddsUpper (image_word v x) (reach v home j)) high.makes.at leads.high)
  made_by (by_low j i low) =
      let leads = paired_sites_lead v board home n i movable low.high.makes.means in
      let far : reach v home i ≡ minus address (reloc_at v i).at =
      ap (λ (x : ℕ). minus x (reloc_at v i).at) (leads_there (displacement v home (reloc_at v i)) low.high.makes.behind leads.near) in
      let completes : Completes p l 0 u t (lower_half (reach v home i)) =
      subst (λ (x : ℕ). Completes p l 0 u t (lower_half x)) (sym far) (low_completes j i low) in
      elim (leads.lows j low.below low.counted low.names).part [
        | inl wide ↦ lower_made (reach v home i) completes (subst (λ (x : ℕ). HasLower (image_word v x) (reach v home i)) low.at wide.1)
        | inr half ↦ store_made (reach v home i) completes (subst (λ (x : ℕ). StoresAtLower (image_word v x) (reach v home i)) low.at half.1)
      ]

  pub site_made : HasInstruction
  site_made = made_by (site_of v g u t accepted.graph.sites here).by
