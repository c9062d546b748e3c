-- The new words of sites, for the units of the code that stand there, by the regions of their blocks.
use Rattle.std.proofs.Common.{◌≡◌, ◌∙◌, inl, inr, ℕ, ◌+◌, ◌-◌, ◌*◌, ◌/◌, ◌%◌, ◌<◌, ◌≤◌, ◌==◌, nat_le, nat_lt, true, false, ◌&&◌, List, [], ◌∷◌, length, get_or, slice_index_or, sym, ap, subst, arith}
use Rattle.std.specs.List.Sorted.{IsPartitionPoint, IsStrictlyIncreasing}
use Rattle.std.proofs.lemmas.Bool.{cases_eq, cases_lt, eqb-true, eq-eqb, leb-true}
use Rattle.std.proofs.lemmas.Bool.Decides.{nat_tests}
use Rattle.std.proofs.lemmas.List.{get_or_default, get_or-map}
use Rattle.list_checks.proofs.TestLemmas.{both}
use Rattle.elf_reader.specs.File.{PlainView, view_in}
use Rattle.board_config.specs.declared.board.Board.{Board}
use Rattle.loaded_file.specs.Code.{is_code_word, image_word}
use Rattle.object_graph.specs.declared.parts.Site.{Site}
use Rattle.object_graph.specs.declared.parts.Graph.{Graph}
use Rattle.object_machine.specs.Program.{Program}
use Rattle.code_blocks.specs.Blocks.{start_of, IsCode}
use Rattle.code_blocks.proofs.LeaderLemmas.{both_pass}
use Rattle.dataflow.proofs.TableLemmas.{block_units}
use Rattle.code_blocks.specs.Leads.{units_at, no_unit, IsBlockOf}
use Rattle.code_blocks.specs.Numbers.{starts_of, start_at}
use Rattle.code_blocks.specs.declared.parts.Unit.{Unit}
use Rattle.code_blocks.specs.declared.parts.Block.{Block}
use Rattle.code_blocks.specs.declared.parts.Code.{Code}
use Rattle.block_splitter.specs.Forms.{body_at, unit_in}
use Rattle.block_splitter.specs.Copies.{Patch, word_of_unit, HasSites}
use Rattle.cell_values.specs.Stands.{address_word}
use Rattle.rv32im.specs.Words.{plus}
use Rattle.dataflow.specs.Overlaid.{region_in}
use Rattle.relocator.specs.declared.places.Places.{Places}
use Rattle.relocator.specs.Placing.{place_at, ArePlaces}
use Rattle.relocator.specs.SiteWords.{no_site, site_at, site_address, IsSiteWord, AreSiteWords}
use Rattle.result_laws.specs.HomeLaws.{IsAccepted, unnamed_in}
use Rattle.result_laws.specs.LiveUnits.{StandsThere, UnitsStand, code_unit}
use Rattle.result_laws.proofs.CodeUnits.{body_units, code_units_stand}
use Rattle.result_laws.specs.ChosenPlacement.{ChosenPlacement, slots_in, places_in, AreWordsOfUnits}
use Rattle.result_laws.specs.PlacedView.{HasRegion, InBlock, Elsewhere}
use Rattle.relink_core.specs.Written.{AreSiteRegions}
use Rattle.relink_core.proofs.RealiseLemmas.{graphs}
use Rattle.relink_core.proofs.BlockOrder.{starts_rise}
use Rattle.relink_core.proofs.SiteUnits as sites
use Rattle.relink_core.proofs.SiteUnits.{units_code, has_sites}

-- ---- the block of an address

module _ (v : PlainView) (p : Program) (c : Code) (stand : UnitsStand v p c) where
  -- blocks begin at multiples of four
  start_even : (b : ℕ) → IsBlockOf c b → start_at c b % 4 ≡ 0
  start_even b inside =
      let first = stand.first b inside in
      let code : is_code_word v (code_unit c b 0).at ≡ true = stand.code b 0 first.is in
      let at = first.at in
      let even = (both ((code_unit c b 0).at % 4 == 0) _ code).0 in
      let zero = eqb-true ((code_unit c b 0).at % 4) 0 even in
      subst (λ (a : ℕ). a % 4 ≡ 0) at zero

  -- no later block begins before a unit of a block
  none_between : (a b k d : ℕ) → StandsThere c a b k → IsBlockOf c d → start_at c b < start_at c d → start_at c d ≤ a → ⊥
  none_between a b k d there inside after before =
      let from = stand.at b k there.is in
      let at = there.at in
      let own = start_even b (stand.inside b k there.is) in
      let other = start_even d inside in
      let j : ℕ = (start_at c d - start_at c b) / 4 in
      let whole : start_at c b + 4 * j ≡ start_at c d = omega (arith, own, other, after) in
      let most : j ≤ k = omega (arith, whole, before, from, at) in
      let there_is = there.is in
      let unit : StandsThere c (start_at c d) b j =
      record { is = omega (arith, most, there_is); at = stand.at b j (omega (arith, most, there_is)) ∙ whole } in
      let same = (stand.one (start_at c d) b j d 0 unit (stand.first d inside)).0 in
      let starts = ap (start_at c) same in
      omega (arith, starts, after)

  some_block : (bs : List Block) (b : ℕ) → b < length bs → Block
  some_block [] b below = absurd (omega (arith, below))
  some_block (x ∷ xs) b below = x

  module _ (ascending : IsStrictlyIncreasing (starts_of c)) (a n : ℕ) (regions : List ℕ) (point : IsPartitionPoint (λ b. nat_le b.start a ≡ true) (λ b. nat_le b.start a ≡ false) c.blocks.items n) where
    begun : (b : ℕ) → b < n → IsBlockOf c b → start_at c b ≤ a
    begun b before inside =
        let d = some_block c.blocks.items b inside in
        let passes = point.0 b d (omega arith) before in
        let start = get_or-map start_of c.blocks.items b d 0 inside in
        leb-true (start_at c b) a (subst (λ (x : ℕ). nat_le x a ≡ true) (sym start) passes)

    later : (b : ℕ) → n ≤ b → IsBlockOf c b → a < start_at c b
    later b behind inside =
        let d = some_block c.blocks.items b inside in
        let fails = point.1 b d behind inside in
        let start = get_or-map start_of c.blocks.items b d 0 inside in
        let past : nat_le (start_at c b) a ≡ false = subst (λ (x : ℕ). nat_le x a ≡ false) (sym start) fails in
        grind (arith, nat_tests, past)

    -- where a unit stands, its block begins before
    starts_there : (b k : ℕ) → StandsThere c a b k → start_at c b + 4 * k ≡ a
    starts_there b k there = sym (stand.at b k there.is) ∙ there.at

    up_to : (b k : ℕ) → StandsThere c a b k → b < n
    up_to b k there =
        elim (cases_lt b n) [
          | inl lower ↦ lower
          | inr past ↦
              let after = later b past (stand.inside b k there.is) in
              let at = starts_there b k there in
              absurd (omega (arith, after, at))
        ]

    -- where no block begins up to the address, no unit stands there
    pub none_before : n ≡ 0 → HasRegion c regions a 0
    none_before none = Elsewhere (λ b k there. let before = up_to b k there in omega (arith, before, none))

    module _ (m place : ℕ) (block : Block) (last : m + 1 ≡ n) (inside : IsBlockOf c m) (is : block ≡ slice_index_or c.blocks.items m block) where
      own_units : units_at c m ≡ block.units.items
      own_units = block_units c m block inside is

      own_start : start_at c m ≡ block.start
      own_start = get_or-map start_of c.blocks.items m block 0 inside ∙ ap (λ (x : Block). x.start) (sym is)

      pub begins_before : block.start ≤ a
      begins_before = let before = begun m (omega (arith, last)) inside in let start = own_start in omega (arith, before, start)

      pub found_there : (nat_lt place (length block.units.items) && ((slice_index_or block.units.items place no_unit).at == a)) ≡ true → HasRegion c regions a (region_in regions m)
      found_there passes =
          let parts = both (nat_lt place (length block.units.items)) _ passes in
          let less = parts.0 in
          let below : place < length block.units.items = grind (arith, nat_tests, less) in
          let at = eqb-true (slice_index_or block.units.items place no_unit).at a parts.1 in
          InBlock m place (record {
            is = subst (λ (us : List Unit). place < length us) (sym own_units) below;
            at = ap (λ (us : List Unit). (get_or us place no_unit).at) own_units ∙ at;
          })

      passes_there : (k : ℕ) → StandsThere c a m k → place ≡ (a - block.start) / 4 → (nat_lt place (length block.units.items) && ((slice_index_or block.units.items place no_unit).at == a)) ≡ true
      passes_there k there is_place =
          let at = starts_there m k there in
          let start = own_start in
          let same : place ≡ k = omega (arith, is_place, at, start) in
          let below : k < length block.units.items = subst (λ (us : List Unit). k < length us) own_units there.is in
          let stands : (get_or block.units.items k no_unit).at ≡ a = ap (λ (us : List Unit). (get_or us k no_unit).at) (sym own_units) ∙ there.at in
          let first : nat_lt place (length block.units.items) ≡ true = grind (arith, nat_tests, same, below) in
          let second : ((slice_index_or block.units.items place no_unit).at == a) ≡ true =
          eq-eqb (slice_index_or block.units.items place no_unit).at a (ap (λ (x : ℕ). (get_or block.units.items x no_unit).at) same ∙ stands) in
          both_pass (nat_lt place (length block.units.items)) _ first second

      pub none_there : place ≡ (a - block.start) / 4 → (nat_lt place (length block.units.items) && ((slice_index_or block.units.items place no_unit).at == a)) ≡ false → HasRegion c regions a 0
      none_there is_place fails =
          Elsewhere (λ b k there.
          elim (cases_eq b m) [
            | inl same ↦
                let own : StandsThere c a m k = subst (λ (d : ℕ). StandsThere c a d k) same there in
                let passes = passes_there k own is_place in
                absurd (cc (passes, fails))
            | inr other ↦
                let before = up_to b k there in
                let lower : b < m = omega (arith, before, other, last) in
                none_between a b k m there inside (starts_rise c b m ascending lower inside) (begun m (omega (arith, last)) inside)
          ])

-- ---- the words

module _ (file : List ℕ) (board : Board) (g : Graph) (c : Code) (accepted : IsAccepted file board g) (code : IsCode (view_in file) c) where
  abbrev v : PlainView
  v = view_in file

  pub units_stand : UnitsStand (view_in file) (unnamed_in file board g) c
  units_stand = code_units_stand file board g c accepted code

  module _ (pl : ChosenPlacement) (places : Places) (region_at : List ℕ) (words : List Patch) (same : pl.sites ≡ words) (laid : ArePlaces g pl.count (slots_in board pl) places) (below : (b : ℕ) → region_in pl.regions b ≤ pl.count) (regions : AreSiteRegions c pl.regions g region_at) (new : AreSiteWords v g places region_at words) where
    -- the region of a site is that of the block whose unit stands there
    region_is : (b k i : ℕ) → i < length g.sites.items → StandsThere c (site_at g i).at b k → slice_index_or region_at i 0 ≡ region_in pl.regions b
    region_is b k i inside there = by_region (slice_index_or region_at i 0) (regions.each i inside)
      where
        by_region : (r : ℕ) → HasRegion c pl.regions (site_at g i).at r → r ≡ region_in pl.regions b
        by_region _ (InBlock d j other) = ap (region_in pl.regions) (units_stand.one (site_at g i).at d j b k other there).0
        by_region _ (Elsewhere none) = absurd (none b k there)

    unit_same : (b k : ℕ) → unit_in (body_at c.blocks.items b) k ≡ code_unit c b k
    unit_same b k = ap (λ (us : List Unit). get_or us k no_unit) (body_units c.blocks.items b)

    pub words_of_units : AreWordsOfUnits board v g c pl
    words_of_units =
        record {
          has = subst (HasSites c g) (sym same) (has_sites file board g c places region_at words accepted.none accepted.graph (units_code file board g c accepted code) new);
          rewritten = λ b k s there listed.
              let i = listed.0 in
              let inside = listed.1 in
              let is : site_at g i ≡ s = get_or_default g.sites.items i no_site s inside ∙ listed.2 in
              let own : StandsThere c (site_at g i).at b k = subst (λ (t : Site). StandsThere c t.at b k) (sym is) there in
              let unit = unit_same b k in
              let here : (site_at g i).at ≡ (unit_in (body_at c.blocks.items b) k).at = sym own.at ∙ ap (λ (u : Unit). u.at) (sym unit) in
              let word = sites.site_word file board g c places region_at words accepted.none accepted.graph (units_code file board g c accepted code) new b k i inside here in
              let region = region_is b k i inside own in
              let object = (graphs file board g accepted).sites i inside in
              let address : site_address g places region_at i ≡ address_word (places_in board g pl (region_in pl.regions b)) (site_at g i).object (site_at g i).offset =
              ap (λ (r : ℕ). plus (place_at places (site_at g i).object r) (site_at g i).offset) region
              ∙ ap (λ (x : ℕ). plus x (site_at g i).offset) (laid.table.exact (site_at g i).object (region_in pl.regions b) object (below b)) in
              let moved : IsSiteWord (site_at g i).kind (address_word (places_in board g pl (region_in pl.regions b)) (site_at g i).object (site_at g i).offset) (image_word v (site_at g i).at) (word_of_unit words (unit_in (body_at c.blocks.items b) k)) =
              subst (λ (a : ℕ). IsSiteWord (site_at g i).kind a (image_word v (site_at g i).at) (word_of_unit words (unit_in (body_at c.blocks.items b) k))) address word in
              subst (λ (ps : List Patch). IsSiteWord s.kind (address_word (places_in board g pl (region_in pl.regions b)) s.object s.offset) (image_word v s.at) (word_of_unit ps (code_unit c b k))) (sym same)
              (subst (λ (u : Unit). IsSiteWord s.kind (address_word (places_in board g pl (region_in pl.regions b)) s.object s.offset) (image_word v s.at) (word_of_unit words u)) unit
              (subst (λ (t : Site). IsSiteWord t.kind (address_word (places_in board g pl (region_in pl.regions b)) t.object t.offset) (image_word v t.at) (word_of_unit words (unit_in (body_at c.blocks.items b) k))) is moved));
        }

-- ---- lists of regions

-- those of the first `n` sites
pub record AreRegionsBelow (c : Code) (regions : List ℕ) (g : Graph) (n : ℕ) (region_at : List ℕ) : Type 0 where
  pub many : length region_at ≡ n
  pub each : (k : ℕ) → k < n → HasRegion c regions (site_at g k).at (slice_index_or region_at k 0)
