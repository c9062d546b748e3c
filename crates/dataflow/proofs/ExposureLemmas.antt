-- The objects whose addresses come to marked places are those that are exposed.
use Rattle.std.proofs.Common.{◌≡◌, ◌⊎◌, inl, inr, ℕ, zero, suc, ◌+◌, ◌<◌, Bool, true, false, List, [], ◌∷◌, ◌++◌, length, drop, replicate, slice_index_or, refl, sym, ◌∙◌, ap, subst, arith}
use Rattle.std.specs.Prelude.{◌↔◌}
use Rattle.std.proofs.Math.Seq.{drop-cons, drop-length}
use Rattle.std.proofs.lemmas.Bool.{cases_eq, cases_lt}
use Rattle.std.proofs.lemmas.List.{get_or_default, get_or_past, get_or_push, get_or_append_left, get_or-replicate, length-replicate}
use Rattle.std.proofs.lemmas.List.Elements.{Contains-get_or}
use Rattle.rv32im.specs.declared.instructions.RegSet.{RegSet}
use Rattle.object_graph.specs.declared.parts.Site.{Site}
use Rattle.object_graph.specs.declared.parts.DataWord.{DataWord}
use Rattle.object_graph.specs.declared.parts.Graph.{Graph}
use Rattle.code_blocks.specs.Numbers.{start_at}
use Rattle.code_blocks.specs.Leads.{IsBlockOf, units_at, no_unit}
use Rattle.code_blocks.specs.declared.parts.Unit.{Unit}
use Rattle.code_blocks.specs.declared.parts.Code.{Code}
use Rattle.reach_graph.specs.Reaching.{HasMark, word_at}
use Rattle.reach_graph.specs.declared.edges.Edge.{Edge}
use Rattle.reach_graph.proofs.MarkLemmas.{none_in_zero, one_bit}
use Rattle.dataflow.specs.BackEdges.{BackEdges, ArrivalEdges, AreBackEdges}
use Rattle.dataflow.specs.Points.{IsHolder, unit_of, instr_of, site_of, Fact, Held, Escaped, Derives}
use Rattle.dataflow.specs.Flows.{PassesAt, Leads}
use Rattle.dataflow.specs.Flows.{no_word}
use Rattle.dataflow.proofs.RuleLemmas.{moves_pass, sums_pass, stores_stored, written_defined}
use Rattle.dataflow.proofs.FactLemmas.{unit_in_block}
use Rattle.dataflow.proofs.FactLemmas.{comes, unit_next}
use Rattle.dataflow.specs.Exposed.{IsAsked, IsExposed, mark_at, AreExposed}
use Rattle.dataflow.specs.Transfers.{LeadsInto, MakesHere, MakesInto, MakesInBlocks, IsInWords, IsFound, AddsMarks}
use Rattle.dataflow.specs.Spreading.{HeldBehind, AreSpread, AreFirst, AreWords, AreSound, IsLed, Exposes, HeldBefore}
use Rattle.dataflow.proofs.SpreadLemmas.{no_units, exposes_before}

-- a register of which a fact tells may hold addresses
holder_of : (c : Code) (g : Graph) (o b k x : ℕ) → Derives c g o (Held b k x) → IsHolder x
holder_of c g o b _ x (Derives.site _ k _ inside holder makes) = holder
holder_of c g o b _ x (Derives.move _ k y _ inside holder moves before) = holder
holder_of c g o b _ x (Derives.sum _ k y _ inside holder sums before) = holder
holder_of c g o b _ x (Derives.load _ k _ inside holder loads escaped) = holder
holder_of c g o b _ x (Derives.keep _ k _ inside kept before) = holder_of c g o b k x before
holder_of c g o b _ x (Derives.next a _ _ on before) = holder_of c g o a (length (units_at c a)) x before
holder_of c g o b _ x (Derives.anywhere a _ _ on before) = holder_of c g o a (length (units_at c a)) x before

module _ (c : Code) (g : Graph) (asked : List RegSet) (rows : List (List Edge)) (behind before : List ℕ)
    (edges : AreBackEdges c (length c.blocks.items) rows) (spread : AreSpread c g asked rows behind before) where
  abbrev n : ℕ
  n = length c.blocks.items

  -- ---- what is marked is exposed

  made_here : (us : List Unit) (b k o : ℕ) → IsBlockOf c b → k < length (units_at c b) → drop (suc k) (units_at c b) ≡ us
      → MakesHere g.sites.items (unit_of c b k) us (word_at behind b) o → IsExposed c g asked o
  made_here us b k o block inside rest made =
      let x = made.register in
      let held : Derives c g o (Held b (suc k) x) = Derives.site b k x inside made.holder made.makes in
      let leads = made.leads in
      let come = comes c g o us b (suc k) x leads.place (omega (arith, inside)) rest made.holder leads.leads held in
      elim (spread.sound.told_behind b leads.place leads.marked) [
        | inl none ↦ inl (come.escapes none)
        | inr (some, exposes) ↦ exposes o (HeldBehind.at_end block (come.register some.0))
      ]

  made_in : (us : List Unit) (b k o : ℕ) → IsBlockOf c b → drop k (units_at c b) ≡ us → MakesInto g.sites.items us (word_at behind b) o → IsExposed c g asked o
  made_in [] b k o block is made = absurd made
  made_in (u ∷ us) b k o block is made =
      let (inside, unit, rest) = unit_next c g o u us b k is in
      elim made [
        | inl here ↦ made_here us b k o block inside rest (subst (λ (v : Unit). MakesHere g.sites.items v us (word_at behind b) o) unit here)
        | inr later ↦ made_in us b (suc k) o block rest later
      ]

  made_exposed : (o : ℕ) → MakesInBlocks c g.sites.items behind n o → IsExposed c g asked o
  made_exposed o made = made_in (units_at c made.block) made.block 0 o made.below refl made.makes

  word_exposed : (o : ℕ) → IsInWords g (length g.data_words.items) o → IsExposed c g asked o
  word_exposed o word =
      inl (Derives.word (slice_index_or g.data_words.items word.place no_word) (Contains-get_or g.data_words.items word.place no_word word.below) word.means)

  -- ---- what is exposed is marked

  -- what a fact must lead to, for its object to be marked
  abbrev Comes : Fact → Type 0
  Comes (Held b k x) = LeadsInto g.sites.items (drop k (units_at c b)) (word_at behind b) x ⊎ ((k ≡ 0) × IsAsked asked b x)
  Comes Escaped = Prim.Unit {0}

  passed : (m t x : ℕ) → x < 32 → BackEdges c n n m t x ⊎ ArrivalEdges c n (length c.indirect.items) m t x → HasMark (word_at before m) x → HasMark (word_at behind t) x
  passed m t x low edge has =
      let one = (edges.edges m t x low).1 edge in
      subst (λ j. HasMark (word_at behind j) x) one.leads (spread.passed m one.i x one.below has one.passes)

  -- a register before a block that leads to a marked place, or is asked for
  at_begin : (b x : ℕ) → IsBlockOf c b → IsHolder x → Comes (Held b 0 x) → HasMark (word_at before b) x
  at_begin b x block holder come =
      elim come [
        | inl leads ↦ spread.sound.led b (omega (arith, block)) x holder leads
        | inr (_, asks) ↦ spread.sound.asks b x block holder asks
      ]

  at_end : (b x : ℕ) → HasMark (word_at behind b) x → Comes (Held b (length (units_at c b)) x)
  at_end b x has =
      inl (record { place = x; leads = subst (λ us. Leads g.sites.items us x x) (sym (drop-length (units_at c b))) refl; marked = has })

  onward : (b k x z : ℕ) → k < length (units_at c b) → IsHolder z → PassesAt g.sites.items (unit_of c b k) x z → Comes (Held b (suc k) z) → Comes (Held b k x)
  onward b k x z inside holder passes come =
      let next = drop-cons (units_at c b) k no_unit inside in
      elim come [
        | inl leads ↦ inl (record {
          place = leads.place;
          leads = subst (λ us. Leads g.sites.items us x leads.place) (sym next) (inr (z, holder, passes, leads.leads));
          marked = leads.marked;
        })
        | inr (first, _) ↦ absurd (omega (arith, first))
      ]

  stored : (b k x : ℕ) → k < length (units_at c b) → x ≡ Rattle.dataflow.specs.Flows.stored (instr_of c b k) → Comes (Held b k x)
  stored b k x inside is =
      let next = drop-cons (units_at c b) k no_unit inside in
      let block = unit_in_block c b k inside in
      inl (record {
        place = 0;
        leads = subst (λ us. Leads g.sites.items us x 0) (sym next) (inl (refl, is));
        marked = spread.words.memory b (omega (arith, block));
      })

  unit_makes : (us : List Unit) (k behind o : ℕ) → k < length us → MakesHere g.sites.items (slice_index_or us k no_unit) (drop (suc k) us) behind o → MakesInto g.sites.items us behind o
  unit_makes [] k behind o below made = absurd (omega (arith, below))
  unit_makes (u ∷ us) zero behind o below made = inl made
  unit_makes (u ∷ us) (suc k) behind o below made = inr (unit_makes us k behind o (omega (arith, below)) made)

  module _ (o : ℕ) (Marked : Type 0) (words : IsInWords g (length g.data_words.items) o → Marked) (blocks : MakesInBlocks c g.sites.items behind n o → Marked) where
    marked : (fact : Fact) → Derives c g o fact → Comes fact → Marked
    marked _ (Derives.site b k x inside holder makes) come =
        elim come [
          | inl leads ↦ blocks (record {
            block = b;
            below = unit_in_block c b k inside;
            makes = unit_makes (units_at c b) k (word_at behind b) o inside (record { register = x; holder = holder; makes = makes; leads = leads });
          })
          | inr (first, _) ↦ absurd (omega (arith, first))
        ]
    marked _ (Derives.move b k x z inside holder moves before) come =
        marked (Held b k x) before (onward b k x z inside holder (moves_pass (site_of c g b k) (instr_of c b k) x z moves) come)
    marked _ (Derives.sum b k x z inside holder sums before) come =
        marked (Held b k x) before (onward b k x z inside holder (sums_pass (site_of c g b k) (instr_of c b k) x z sums) come)
    marked _ (Derives.keep b k x inside kept before) come =
        let holder = holder_of c g o b k x before in
        marked (Held b k x) before (onward b k x x inside holder (inl (refl, λ same. kept (written_defined (instr_of c b k) x holder.0 same))) come)
    marked _ (Derives.store b k x inside stores before) come =
        marked (Held b k x) before (stored b k x inside (stores_stored (instr_of c b k) x stores))
    marked _ (Derives.load b k z inside holder loads escaped) come = marked Escaped escaped tt
    marked _ (Derives.word d (i, below, is) means) come =
        let first : slice_index_or g.data_words.items i no_word ≡ d = get_or_default g.data_words.items i no_word d below ∙ is in
        words (record { place = i; below = below; means = ap (λ (w : DataWord). w.object) first ∙ means })
    marked _ (Derives.next b d x on before) come =
        let holder = holder_of c g o b (length (units_at c b)) x before in
        let has = passed d b x holder.1 (inl (record { below = on.from; edge = inl on })) (at_begin d x on.to holder come) in
        marked (Held b (length (units_at c b)) x) before (at_end b x has)
    marked _ (Derives.anywhere b d x on before) come =
        let holder = holder_of c g o b (length (units_at c b)) x before in
        let (i, below, is) = on.listed in
        let address : slice_index_or c.indirect.items i 0 ≡ start_at c d = get_or_default c.indirect.items i 0 (start_at c d) below ∙ is in
        let way = passed d n x holder.1 (inr (record { i = i; below = below; is_block = on.to; starts = address; to = refl })) (at_begin d x on.to holder come) in
        let leads : LeadsInto g.sites.items (units_at c n) (word_at behind n) x =
        record { place = x; leads = subst (λ us. Leads g.sites.items us x x) (sym (no_units c n (omega arith))) refl; marked = way } in
        let there = spread.sound.led n (omega arith) x holder leads in
        let has = passed n b x holder.1 (inl (record { below = on.from; edge = inr (on.ends, refl) })) there in
        marked (Held b (length (units_at c b)) x) before (at_end b x has)

    exposed : IsExposed c g asked o → Marked
    exposed (inl escapes) = marked Escaped escapes tt
    exposed (inr held) = marked (Held held.block 0 held.register) held.holds (inr (refl, held.is_asked))

  -- ---- the marks

  none_marked : (count o : ℕ) → mark_at (replicate count false) o ≡ true → ⊥
  none_marked count o on =
      let off : mark_at (replicate count false) o ≡ false =
      elim (cases_lt o count) [
        | inl below ↦ get_or-replicate count o false false below
        | inr past ↦ get_or_past (replicate count false) o false (omega (arith, past, length-replicate {A = Bool} count false))
      ] in
      absurd (cc (on, off))

  pub are_exposed : (none marks : List Bool) → none ≡ replicate (length g.objects.items) false → AddsMarks (IsFound c g behind) none marks → AreExposed c g asked marks
  are_exposed none marks bare adds = record {
    size = adds.size ∙ ap length bare ∙ length-replicate {A = Bool} (length g.objects.items) false;
    exact = λ o inside. (
      λ on. elim ((adds.each o).0 on) [
        | inl old ↦ absurd (none_marked (length g.objects.items) o (subst (λ ms. mark_at ms o ≡ true) bare old))
        | inr found ↦ elim found [ inl word ↦ word_exposed o word | inr made ↦ made_exposed o made ]
      ],
      exposed o (mark_at marks o ≡ true) (λ word. (adds.each o).1 (inr (inl word))) (λ made. (adds.each o).1 (inr (inr made))),
    );
  }

-- ---- the first words

one_mark_alone : (k : ℕ) → HasMark 1 k → k ≡ 0
one_mark_alone k has = (one_bit 64 0 k (omega arith)).0 has

ones_at : (count m x : ℕ) → HasMark (word_at (replicate count 1) m) x → x ≡ 0
ones_at count m x has =
    elim (cases_lt m count) [
      | inl below ↦ one_mark_alone x (subst (λ w. HasMark w x) (get_or-replicate count m 1 0 below) has)
      | inr past ↦
          absurd (omega (arith, subst (λ w. HasMark w x) (get_or_past (replicate count 1) m 0 (omega (arith, past, length-replicate {A = ℕ} count 1))) has))
    ]

pub first_none : (c : Code) (sites : List Site) (asked : List RegSet) (before : List ℕ) → AreFirst c sites asked 0 before
first_none c sites asked before b x below = absurd (omega (arith, below))

pub first_more : (c : Code) (sites : List Site) (asked : List RegSet) (b word : ℕ) (before : List ℕ) → length before ≡ b
    → ((x : ℕ) → HasMark word x ↔ (IsHolder x × (IsAsked asked b x ⊎ LeadsInto sites (units_at c b) 1 x))) → AreFirst c sites asked b before → AreFirst c sites asked (b + 1) (before ++ word ∷ [])
first_more c sites asked b word before size told first d x below =
    elim (cases_eq d b) [
      | inl same ↦
          let at : word_at (before ++ word ∷ []) d ≡ word = get_or_push before word 0 d (omega (arith, same, size)) in
          subst (λ e. HasMark (word_at (before ++ word ∷ []) d) x ↔ (IsHolder x × (IsAsked asked e x ⊎ LeadsInto sites (units_at c e) 1 x))) (sym same)
          (subst (λ w. HasMark w x ↔ (IsHolder x × (IsAsked asked b x ⊎ LeadsInto sites (units_at c b) 1 x))) (sym at) (told x))
      | inr other ↦
          subst (λ w. HasMark w x ↔ (IsHolder x × (IsAsked asked d x ⊎ LeadsInto sites (units_at c d) 1 x)))
          (sym (get_or_append_left before (word ∷ []) 0 d (omega (arith, below, other, size)))) (first d x (omega (arith, below, other)))
    ]

-- one word behind them changes none
pub first_still : (c : Code) (sites : List Site) (asked : List RegSet) (count word : ℕ) (before : List ℕ) → length before ≡ count → AreFirst c sites asked count before
    → AreFirst c sites asked count (before ++ word ∷ [])
first_still c sites asked count word before size first d x below =
    subst (λ w. HasMark w x ↔ (IsHolder x × (IsAsked asked d x ⊎ LeadsInto sites (units_at c d) 1 x)))
    (sym (get_or_append_left before (word ∷ []) 0 d (omega (arith, below, size)))) (first d x below)

-- what a block stores or is asked for means what marks mean
module _ (c : Code) (g : Graph) (asked : List RegSet) (behind before : List ℕ) (places : behind ≡ replicate (length c.blocks.items + 1) 1)
    (size : length before ≡ length c.blocks.items + 1) (hub : word_at before (length c.blocks.items) ≡ 0)
    (first : AreFirst c g.sites.items asked (length c.blocks.items) before) where
  behind_is : (m : ℕ) → m < length c.blocks.items + 1 → word_at behind m ≡ 1
  behind_is m below = ap (λ ws. word_at ws m) places ∙ get_or-replicate (length c.blocks.items + 1) m 1 0 below

  pub first_words : AreWords (length c.blocks.items) behind before
  first_words = record {
    behind_size = ap length places ∙ length-replicate {A = ℕ} (length c.blocks.items + 1) 1;
    before_size = size;
    memory = λ m below. subst (λ w. HasMark w 0) (sym (behind_is m below)) refl;
  }

  memory_alone : (m x : ℕ) → HasMark (word_at behind m) x → x ≡ 0
  memory_alone m x has = ones_at (length c.blocks.items + 1) m x (subst (λ ws. HasMark (word_at ws m) x) places has)

  led : (m : ℕ) → m < length c.blocks.items + 1 → IsLed c g.sites.items behind before m
  led m below x holder leads =
      elim (cases_lt m (length c.blocks.items)) [
        | inl block ↦ (first m x block).1 (holder, inr (subst (λ w. LeadsInto g.sites.items (units_at c m) w x) (behind_is m below) leads))
        | inr past ↦
            let same : x ≡ leads.place = subst (λ us. Leads g.sites.items us x leads.place) (no_units c m past) leads.leads in
            let none = memory_alone m leads.place leads.marked in
            let some = holder.0 in
            absurd (omega (arith, same, none, some))
      ]

  asks_exposes : (m x : ℕ) → IsHolder x → IsAsked asked m x → IsBlockOf c m → Exposes c g asked m x
  asks_exposes m x holder asks block = (holder, λ o held. at_it o held) where
    at_it : (o : ℕ) → HeldBefore c g o m x → IsExposed c g asked o
    at_it o (HeldBefore.at_block _ held) = inr (record { block = m; register = x; is_asked = asks; holds = held })
    at_it o (HeldBefore.on_way b is _ ends held) = absurd (omega (arith, block, is))

  told : (m x : ℕ) → HasMark (word_at before m) x → Exposes c g asked m x
  told m x has =
      elim (cases_lt m (length c.blocks.items)) [
        | inl block ↦
            let (holder, why) = (first m x block).0 has in
            elim why [
              | inl asks ↦ asks_exposes m x holder asks block
              | inr leads ↦ exposes_before c g asked m 1 x holder (λ y marked. inl (one_mark_alone y marked)) leads
            ]
        | inr past ↦ absurd (elim (cases_eq m (length c.blocks.items)) [
          | inl is ↦ none_in_zero x (subst (λ w. HasMark w x) (ap (word_at before) is ∙ hub) has)
          | inr other ↦ none_in_zero x (subst (λ w. HasMark w x) (get_or_past before m 0 (omega (arith, past, other, size))) has)
        ])
      ]

  pub first_sound : AreSound c g asked behind before
  first_sound = record {
    asks = λ b x block holder asks. (first b x block).1 (holder, inl asks);
    led = led;
    told = told;
    told_behind = λ m x has. inl (memory_alone m x has);
  }
