-- From a counted unit at its form control comes to the next one as is counted, and these words lead home.
use Rattle.std.proofs.Common.{◌≡◌, ◌∙◌, ◌⊎◌, inl, inr, ℕ, suc, ◌<◌, ◌≤◌, Bool, true, false, not, ◌&&◌, if◌then◌else◌, List, [], ◌∷◌, ◌++◌, length, map, Option, Some, refl, sym, ap, subst, arith}
use Rattle.std.specs.Prelude.{Contains, is_some, ◌||◌}
use Rattle.std.proofs.lemmas.Bool.{both_ways}
use Rattle.rv32im.specs.Acts.{Registers}
use Rattle.board_config.specs.declared.board.Board.{Board}
use Rattle.flat_machine.specs.declared.events.FlatEvent.{FlatEvent}
use Rattle.flat_machine.specs.Lines.{words_from}
use Rattle.object_graph.specs.Sites.{in_range}
use Rattle.object_graph.specs.declared.parts.Graph.{Graph}
use Rattle.code_blocks.proofs.LeaderLemmas.{both_pass}
use Rattle.code_blocks.specs.Numbers.{starts_of, start_at, end_at}
use Rattle.code_blocks.specs.Leads.{units_at}
use Rattle.code_blocks.specs.declared.parts.Code.{Code}
use Rattle.code_blocks.specs.declared.ends.End.{End}
use Rattle.code_blocks.specs.declared.ends.End.TheVariants as ends
use Rattle.block_splitter.specs.declared.block_range.BlockRange.{BlockRange}
use Rattle.block_splitter.specs.declared.unit_kind.UnitKind.{UnitKind}
use Rattle.block_splitter.specs.declared.unit_kind.UnitKind.TheVariants.{Plain}
use Rattle.block_splitter.specs.Forms.{holds_block, body_at, is_last, is_site, kind_of, fall_out_size}
use Rattle.block_splitter.specs.Copies.{Copy, is_inside, kind_in, place_of, address_of}
use Rattle.block_splitter.proofs.LookupLemmas.{inside_at}
use Rattle.result_laws.specs.Kinds.{takes}
use Rattle.result_laws.specs.CopyLaws.{falls_to, place_behind}
use Rattle.result_laws.proofs.Setting.{setting}
use Rattle.result_laws.proofs.CopiedUnits.{held_below}
use Rattle.patch_code.specs.Serving.{ServingStub}
use Rattle.patch_code.specs.Served.{body_at as stub_body}
use Rattle.profile_runner.specs.Standing.{block_of, current}
use Rattle.profile_runner.specs.Transition.{Transition, transition_at}
use Rattle.energy_model.specs.Energy.{is_checked, may_stay, comes_from_outside}
use Rattle.paid_energy.specs.Counted.{IsCountedAt}
use Rattle.result_laws.specs.LiveUnits.{StandsThere, ComesNext, UnitsStand}
use Rattle.result_laws.proofs.CodeUnits.{units_stand}
use Rattle.result_laws.specs.Entries.{RunsIn}
use Rattle.result_laws.specs.ChosenPlacement.{ChosenPlacement, copy_in}
use Rattle.result_laws.specs.ChosenPlacement.{piece_of as placed_piece}
use Rattle.result_laws.specs.PlacedView.{IsUncopied, Serves}
use Rattle.result_laws.specs.PlacedLaws.{IsPlacedResult}
use Rattle.result_laws.specs.PlacedForms.{StandsAs, AtHome, InCopy, InStub, IsFormOf, ArrivesAt, AtForm, AtItsHome, BehindCopy, BehindStub}
use Rattle.result_laws.specs.Walks.{address_in, leaving_fetched, Enters}
use Rattle.result_laws.proofs.Apart.{home_kept, copy_in_spm, copy_only, stub_only, determined}
use Rattle.result_laws.proofs.CopyWays as ways
use Rattle.paid_energy.specs.Inward.{inward_calls}
use Rattle.paid_energy.specs.CountedWalks.{arrives_by_stub, has_way, leaving_stub, leaving_of}
use Rattle.paid_energy.specs.Leading.{unit_count, falls_behind, LeadsFromCopy, ToNext, Stays, FallsOut, Leaves, LeadsFromStub, LeadsOn}
use Rattle.paid_energy.specs.WalkCosts.{placed_scene, placed_names, HasRegionsOfSide}
use Rattle.paid_energy.proofs.CountedEdges.{LeavesPiece, comes_home, uncopied_home}
use Rattle.paid_energy.proofs.CountedEdges as edges
use Rattle.paid_energy.proofs.CountedForms.{ComesHome, Came, IsHome, home_came, middle_fails, first_begun, begun_first, begun_start, block_below}
use Rattle.paid_energy.proofs.CountedForms as forms
use Rattle.paid_energy.proofs.KindEnds.{last_passes, earlier_passes, body_ends}
use Rattle.paid_energy.proofs.Pieces.{IsPieceOf, piece_there, piece_is, one_piece}
use Rattle.paid_energy.proofs.PlacedScene.{scene_in, step_in}

-- ---- which words lead home

none_more : (xs : List ℕ) (x : ℕ) → x ∷ xs ≡ [] → ⊥
none_more xs x same = cc

one_more : (xs : List ℕ) (x y z : ℕ) → x ∷ y ∷ xs ≡ z ∷ [] → ⊥
one_more xs x y z same = cc

falls_size : (inside : ℕ → Bool) (e : End) (next size : ℕ) → falls_to e ≡ Some next → (if inside next then 0 else 2) ≡ size → fall_out_size inside e ≡ size
falls_size inside (ends.Fall behind) next size is same =
    let one : behind ≡ next = cc in ap (λ (x : ℕ). if inside x then 0 else 2) one ∙ same
falls_size inside (ends.Branch target behind) next size is same =
    let one : behind ≡ next = cc in ap (λ (x : ℕ). if inside x then 0 else 2) one ∙ same
falls_size inside (ends.Jump target) next size is same = absurd (cc (is))
falls_size inside (ends.Call target back link) next size is same = absurd (cc (is))
falls_size inside (ends.Tail target) next size is same = absurd (cc (is))
falls_size inside (ends.Indirect back) next size is same = absurd (cc (is))
falls_size inside ends.Stop next size is same = absurd (cc (is))

first_fails : (a b : Bool) → a ≡ false → a && b ≡ false
first_fails true b none = cc
first_fails false b none = refl

abbrev words_if : Bool → Bool → ℕ → ℕ → List ℕ
words_if last falls at size = if last && falls then words_from at size else []

no_last : (last falls : Bool) (at size : ℕ) → last ≡ false → words_if last falls at size ≡ []
no_last true falls at size none = cc
no_last false falls at size none = refl

no_falls : (last falls : Bool) (at size : ℕ) → (falls ≡ true → size ≡ 0) → words_if last falls at size ≡ []
no_falls false falls at size same = refl
no_falls true false at size same = refl
no_falls true true at size same = ap (words_from at) (same refl)

two_falls : (last falls : Bool) (at size : ℕ) → last ≡ true → falls ≡ true → size ≡ 2 → words_if last falls at size ≡ words_from at 2
two_falls true true at size last_is falls_is same = ap (words_from at) same
two_falls true false at size last_is falls_is same = cc
two_falls false falls at size last_is falls_is same = cc

module _ (file out : List ℕ) (board : Board) (g : Graph) (c : Code) (pl : ChosenPlacement) (result : IsPlacedResult file out board g c pl) (side : HasRegionsOfSide pl) (ts : List Transition) (none : inward_calls (placed_scene board g c pl) c (placed_names board pl) ts ≡ 0) where
  open (setting file out board g c pl result) use {v, p, plan}
  open (scene_in board g c pl) use {w, taken, named}

  abbrev now : ℕ → ℕ
  now i = current (starts_of c) pl.regions ts i

  units : UnitsStand v p c
  units = units_stand file board g c result.accepted result.code

  -- ---- from one counted unit to the next

  module _ (j : ℕ) (below : j < length ts) (here : IsCountedAt c pl.regions pl.borders ts j) (next : IsCountedAt c pl.regions pl.borders ts (suc j)) (u a : ℕ) (at : (transition_at ts j).at ≡ u) (next_at : (transition_at ts (suc j)).at ≡ a) (comes : ComesNext c (block_of (starts_of c) ts j) here.unit a) (goes_on : (transition_at ts j).goes_on ≡ true) (goes : (transition_at ts j).next ≡ a) (r : ℕ) (few : r ≤ pl.count) (region : r ≡ now (suc j)) where
    open (step_in c ts j) use {b, d, begun}

    abbrev Comes : Type 0
    Comes = ComesHome file out board g c pl result side ts (suc j) next a next_at

    stands_next : StandsThere c a d next.unit
    stands_next = edges.stands file out board g c pl result side ts j below here next u a at next_at comes goes_on goes none

    runs : RunsIn pl.regions b r
    runs = subst (λ (q : ℕ). RunsIn pl.regions b q) (sym region) here.runs

    kept_spm : in_range board.spm a ≡ false
    kept_spm = (home_kept file out board g c pl result a d next.unit stands_next).spm

    kept_patch : in_range board.patch a ≡ false
    kept_patch = (home_kept file out board g c pl result a d next.unit stands_next).patch

    abbrev Arrives : ℕ → Type 0
    Arrives to = ArrivesAt c g pl plan r a to

    abbrev leaving : (to : ℕ) → Arrives to → List ℕ
    leaving to x = leaving_fetched c g pl plan r a to x

    abbrev AtHomeOf : (to : ℕ) → Arrives to → Type 0
    AtHomeOf to x = IsHome file out board g c pl result side ts (suc j) next a next_at r to x

    -- a form is reached
    abbrev IsForm : (to : ℕ) → Arrives to → Type 0
    IsForm _ (AtForm to form) = Prim.Unit {0}
    IsForm _ other = ⊥

    -- control comes home, or it stays in a copy without a way
    abbrev Route : (to : ℕ) → Arrives to → Type 0
    Route to x =
        (Comes × AtHomeOf to x) ⊎ (IsForm to x × ((has_way w taken ts (suc j) ≡ false) × (in_range board.spm to ≡ true)))

    -- so it goes on, and these words lead home
    pub record Routed (fetched : List ℕ) (to : ℕ) (x : Arrives to) : Type 0 where
      pub leaves : leaving to x ≡ fetched
      pub route : Route to x

    -- ---- which arrival it is

    home_arrival : (to : ℕ) (x : Arrives to) → to ≡ a → AtHomeOf to x × (leaving to x ≡ [])
    home_arrival to x same = forms.home_arrival file out board g c pl result side ts (suc j) next a next_at r few to x same

    leaves_home : (to z : ℕ) (zs : List ℕ) (x : Arrives to) → leaving to x ≡ z ∷ zs → AtHomeOf to x
    leaves_home _ z zs (AtForm to form) same = absurd (none_more zs z (sym same))
    leaves_home _ z zs (AtItsHome home) same = tt
    leaves_home _ z zs (BehindCopy n e f inside held may falls leaves below_it starts) same = tt
    leaves_home _ z zs (BehindStub y e stub there listed serves uncopied plain is home) same = tt

    copy_arrival : (to : ℕ) (x : Arrives to) → leaving to x ≡ [] → in_range board.spm to ≡ true → IsForm to x
    copy_arrival _ (AtForm to form) empty spm = tt
    copy_arrival _ (AtItsHome home) empty spm = both_ways (in_range board.spm a) kept_spm spm
    copy_arrival _ (BehindCopy n e f inside held may falls leaves below_it starts) empty spm = none_more _ _ empty
    copy_arrival _ (BehindStub y e stub there listed serves uncopied plain is home) empty spm = none_more _ _ empty

    -- ---- from home and from a stub

    routed_home : IsUncopied pl b → (to : ℕ) (x : Arrives to) → to ≡ a → Routed [] to x
    routed_home uncopied to x same =
        let arrival = home_arrival to x same in
        record {
          leaves = arrival.1;
          route = inl (uncopied_home file out board g c pl result side ts j below here next u a at next_at comes goes_on goes none uncopied, arrival.0);
        }

    routed_stub : (y e : ℕ) (stub : ServingStub) → StandsThere c y e 0 → Contains plan.stubs stub → Serves c g pl (stub_body plan stub) e stub → IsUncopied pl e → e ≡ b → (kind : UnitKind) → kind_of (is_site g) (body_at c.blocks.items e) 0 ≡ kind → (to : ℕ) (x : Arrives to) → LeadsFromStub (stub_body plan stub) y kind a to → Routed (leaving_stub (stub_body plan stub) kind) to x
    routed_stub y e stub there listed serves uncopied own Plain plain to x leads =
        let one = stub_only file out board g c pl result r a y e stub there listed serves uncopied plain leads.1 to few x leads.0 in
        record {
          leaves = one ∙ ap (λ (q : ℕ). q ∷ []) leads.0;
          route = inl (
            uncopied_home file out board g c pl result side ts j below here next u a at next_at comes goes_on goes none (subst (λ (q : ℕ). IsUncopied pl q) own uncopied),
            leaves_home to to [] x one,
          );
        }
    routed_stub y e stub there listed serves uncopied own kind same to x leads =
        routed_home (subst (λ (q : ℕ). IsUncopied pl q) own uncopied) to x leads

    -- ---- from a copy

    module _ (n e k : ℕ) (inside : n < length pl.pieces) (held : holds_block e (placed_piece pl n).range ≡ true) (own : StandsThere c u e k) (same : (e ≡ b) × (k ≡ here.unit)) where
      abbrev copy : Copy
      copy = copy_in c g pl n

      abbrev range : BlockRange
      range = (placed_piece pl n).range

      counts : unit_count c e ≡ length (units_at c e)
      counts = ways.unit_count file out board g c pl result n inside e

      runs_own : RunsIn pl.regions e r
      runs_own = subst (λ (q : ℕ). RunsIn pl.regions q r) (sym same.0) runs

      held_here : holds_block b range ≡ true
      held_here = subst (λ (q : ℕ). holds_block q range ≡ true) same.0 held

      way_from : edges.Along c e k d next.unit
      way_from =
          subst (λ (q : ℕ). edges.Along c q k d next.unit) (sym same.0)
          (subst (λ (q : ℕ). edges.Along c b q d next.unit) (sym same.1)
          (edges.way file out board g c pl result side ts j below here next u a at next_at comes goes_on goes none))

      below_next : d < length c.blocks.items
      below_next = block_below file out board g c pl result side ts (suc j) next a next_at

      -- behind its last unit a block begins
      last_begins : suc k ≡ unit_count c e → begun ≡ true
      last_begins last =
          elim way_from [
            | inl on ↦ let more = on.1.1 in let count = counts in absurd (omega (arith, more, count, last))
            | inr edge ↦
                let place = units.at d next.unit stands_next.is in
                let there = stands_next.at in
                let first = edge.1.0 in
                (first_begun file out board g c pl result side ts (suc j) next a next_at d below_next (omega (arith, place, there, first))).0
          ]

      -- a piece of both blocks is this one
      inside_next : (other : BlockRange) → begun ≡ true → named d ≡ Some other → holds_block b other ≡ true → is_inside copy a ≡ true
      inside_next other is piece both =
          let there : IsPieceOf file out board g c pl result d other = piece_there file out board g c pl result d other piece in
          let one : there.n ≡ n =
          one_piece file out board g c pl result b there.n n there.inside inside
          (subst (λ (x : BlockRange). holds_block b x ≡ true) (sym there.is) both) held_here in
          inside_at c range a d below_next (subst (λ (m : ℕ). holds_block d (placed_piece pl m).range ≡ true) one there.held)
          (begun_start file out board g c pl result side ts (suc j) next a next_at is)

      leaves_piece : suc k ≡ unit_count c e → (may_stay (end_at c e) ≡ false) ⊎ (is_inside copy a ≡ false) → Comes
      leaves_piece last off =
          comes_home file out board g c pl result side ts j below here next u a at next_at comes goes_on goes none
          (λ other is piece both.
          elim off [
            | inl stays ↦ subst (λ (q : ℕ). may_stay (end_at c q) ≡ false) same.0 stays
            | inr out_of ↦ absurd (both_ways (is_inside copy a) out_of (inside_next other is piece both))
          ])
          (λ is. absurd (both_ways begun is (last_begins last)))

      -- at the copy of a unit
      stays_at : (f m : ℕ) → holds_block f range ≡ true → StandsThere c a f m → has_way w taken ts (suc j) ≡ false → (to : ℕ) (x : Arrives to) → to ≡ address_of copy (place_of copy f m) → Routed [] to x
      stays_at f m held_too there way to x is =
          let at_copy : ℕ = address_of copy (place_of copy f m) in
          let form : IsFormOf c g pl plan r a at_copy =
          record {
            stands = InCopy a n f m inside held_too there;
            may = record {
              block = f;
              unit = m;
              there = there;
              runs = ways.runs_too file out board g c pl result n inside r e f held held_too runs_own;
            };
          } in
          let y : Arrives to = subst Arrives (sym is) (AtForm at_copy form) in
          let spm : in_range board.spm to ≡ true =
          subst (λ (q : ℕ). in_range board.spm q ≡ true) (sym is) (copy_in_spm file out board g c pl result a n f m inside held_too there) in
          let empty : leaving to x ≡ [] =
          determined file out board g c pl result r a to x y few ∙ form_leaves to at_copy (sym is) form in
          record { leaves = empty; route = inr (copy_arrival to x empty spm, (way, spm)) }
        where
          form_leaves : (to q : ℕ) (is : q ≡ to) (form : IsFormOf c g pl plan r a q) → leaving to (subst Arrives is (AtForm q form)) ≡ []
          form_leaves to q is form =
              subst (λ (z : ℕ). (same : q ≡ z) → leaving z (subst Arrives same (AtForm q form)) ≡ []) is (λ same. refl) is

      -- to the unit behind it
      not_begun : (m : ℕ) → next.unit ≡ suc m → begun ≡ false
      not_begun m is = by_test begun refl
        where
          by_test : (test : Bool) → begun ≡ test → begun ≡ false
          by_test false none = none
          by_test true first =
              let zero_there = begun_first file out board g c pl result side ts (suc j) next a next_at first in
              absurd (omega (arith, is, zero_there))

      to_next : suc k < unit_count c e → (to : ℕ) (x : Arrives to) → to ≡ address_of copy (place_of copy e (suc k)) → Routed [] to x
      to_next more to x is =
          elim way_from [
            | inl on ↦
                stays_at e (suc k) held
                (subst (λ (m : ℕ). StandsThere c a e m) on.1.0 (subst (λ (q : ℕ). StandsThere c a q next.unit) on.0 stands_next))
                (first_fails begun (comes_from_outside w (named d) ts (suc j) && (is_some (named d) || is_checked w taken d)) (not_begun k on.1.0)) to x is
            | inr edge ↦ let last = edge.0 in let count = counts in absurd (omega (arith, last, count, more))
          ]

      -- to a block of the piece
      block_inside : (f : ℕ) → holds_block f range ≡ true → f < length c.blocks.items
      block_inside f held_too =
          held_below v copy (placed_piece pl n).words (placed_piece pl n).starts f (ways.is_copy file out board g c pl result n inside) held_too

      stays_inside : (f : ℕ) → may_stay (end_at c e) ≡ true → holds_block f range ≡ true → start_at c f ≡ a → (to : ℕ) (x : Arrives to) → to ≡ address_of copy (place_of copy f 0) → Routed [] to x
      stays_inside f stays held_too starts to x is =
          let below_it = block_inside f held_too in
          let first = first_begun file out board g c pl result side ts (suc j) next a next_at f below_it starts in
          let piece : named d ≡ Some range =
          piece_is file out board g c pl result d n inside (subst (λ (q : ℕ). holds_block q range ≡ true) (sym first.1) held_too) in
          let end_stays : may_stay (body_at c.blocks.items b).end ≡ true =
          ap may_stay (body_ends c.blocks.items b) ∙ subst (λ (q : ℕ). may_stay (end_at c q) ≡ true) same.0 stays in
          let within : comes_from_outside w (named d) ts (suc j) ≡ false =
          ap (λ (o : Option BlockRange). comes_from_outside w o ts (suc j)) piece
          ∙ ap not (both_pass (holds_block b range) (may_stay (body_at c.blocks.items b).end) held_here end_stays) in
          stays_at f 0 held_too (subst (λ (q : ℕ). StandsThere c q f 0) starts (units.first f below_it))
          (middle_fails begun (comes_from_outside w (named d) ts (suc j)) (is_some (named d) || is_checked w taken d) (λ begins_there. within)) to x is

      retell : (fetched other : List ℕ) (to : ℕ) (x : Arrives to) → fetched ≡ other → Routed fetched to x → Routed other to x
      retell fetched other to x is routed = record { leaves = routed.leaves ∙ is; route = routed.route }

      abbrev LeftBy : Bool → List ℕ
      LeftBy on =
          words_if (is_last (body_at c.blocks.items e) k) (falls_behind on (end_at c e)) (address_of copy (place_behind copy e))
          (fall_out_size (is_inside copy) (end_at c e))

      last_so : suc k ≡ unit_count c e → is_last (body_at c.blocks.items e) k ≡ true
      last_so last = last_passes k (unit_count c e) last

      routed_copy : (on : Bool) (to : ℕ) (x : Arrives to) → LeadsFromCopy copy c e k on a to → Routed (LeftBy on) to x
      routed_copy on _ x (ToNext more) =
          retell [] (LeftBy on) _ x
          (sym (no_last (is_last (body_at c.blocks.items e) k) (falls_behind on (end_at c e)) _ _ (earlier_passes k (unit_count c e) (λ is. omega (arith, more, is)))))
          (to_next more _ x refl)
      routed_copy on _ x (Stays f last stays falls held_too starts) =
          let inside_it : is_inside copy a ≡ true = inside_at c range a f (block_inside f held_too) held_too starts in
          retell [] (LeftBy on) _ x
          (sym (no_falls (is_last (body_at c.blocks.items e) k) (falls_behind on (end_at c e)) _ _
          (λ is. falls_size (is_inside copy) (end_at c e) a 0 (falls is) (ap (λ (t : Bool). if t then 0 else 2) inside_it))))
          (stays_inside f stays held_too starts _ x refl)
      routed_copy on _ x (FallsOut last falls_on falls out_of) =
          let begins_there = begun_start file out board g c pl result side ts (suc j) next a next_at (last_begins last) in
          let one =
          copy_only file out board g c pl result r a n e d few inside held runs_own falls out_of below_next begins_there _ x refl in
          retell (words_from (address_of copy (place_behind copy e)) 2) (LeftBy on) _ x
          (sym (two_falls (is_last (body_at c.blocks.items e) k) (falls_behind on (end_at c e)) _ _ (last_so last) falls_on
          (falls_size (is_inside copy) (end_at c e) a 2 falls (ap (λ (t : Bool). if t then 0 else 2) out_of))))
          (record { leaves = one; route = inl (leaves_piece last (inr out_of), leaves_home _ _ _ x one) })
      routed_copy on _ x (Leaves last jumps off) =
          let arrival = home_arrival a x refl in
          retell [] (LeftBy on) a x
          (sym (no_falls (is_last (body_at c.blocks.items e) k) (falls_behind on (end_at c e)) _ _ (λ is. absurd (both_ways (falls_behind on (end_at c e)) jumps is))))
          (record { leaves = arrival.1; route = inl (leaves_piece last off, arrival.0) })

    -- ---- from any form

    here_there : StandsThere c u b here.unit
    here_there = forms.there file out board g c pl result side ts j here u at

    pub routed : (y q : ℕ) (stands : StandsAs c g pl plan y q) → y ≡ u → (q ≡ y → IsUncopied pl b) → (regs : Registers) (to : ℕ) (x : Arrives to) → LeadsOn c g pl plan regs a to y q stands → Routed (leaving_of c g pl plan regs y q stands) to x
    routed _ _ (AtHome y e k own bare) same uncopied regs to x leads = routed_home (uncopied refl) to x leads
    routed _ _ (InCopy y n e k inside held own) same uncopied regs to x leads =
        let own_there : StandsThere c u e k = subst (λ (z : ℕ). StandsThere c z e k) same own in
        routed_copy n e k inside held own_there (units.one u e k b here.unit own_there here_there) (takes (kind_in (copy_in c g pl n) e k) regs) to x leads
    routed _ _ (InStub y e stub own listed serves none_copied) same uncopied regs to x leads =
        let own_there : StandsThere c u e 0 = subst (λ (z : ℕ). StandsThere c z e 0) same own in
        routed_stub y e stub own listed serves none_copied (units.one u e 0 b here.unit own_there here_there).0 (kind_of (is_site g) (body_at c.blocks.items e) 0) refl to x leads

    -- ---- on the way

    nothing : (es : List FlatEvent) → map address_in es ≡ [] → es ≡ []
    nothing [] none_there = refl
    nothing (e ∷ es) none_there = absurd (cc (none_there))

    quiet : (to region : ℕ) (x : Arrives to) (first last : List FlatEvent) → map address_in first ≡ leaving to x → Enters c g pl plan r a to region last x → IsForm to x → first ++ last ≡ []
    quiet _ region (AtForm to form) first last addresses enters is =
        ap (λ (es : List FlatEvent). es ++ last) (nothing first addresses) ∙ enters.0
    quiet _ region (AtItsHome home) first last addresses enters is = absurd is
    quiet _ region (BehindCopy n e f inside held may falls leaves below_it starts) first last addresses enters is = absurd is
    quiet _ region (BehindStub y e stub there listed serves uncopied plain own home) first last addresses enters is = absurd is

    no_stub_there : (to region : ℕ) (es : List FlatEvent) (x : Arrives to) (enters : Enters c g pl plan r a to region es x) → IsForm to x → arrives_by_stub c g pl plan r a to region es x enters ≡ false
    no_stub_there _ region es (AtForm to form) enters is = refl
    no_stub_there _ region es (AtItsHome home) enters is = absurd is
    no_stub_there _ region es (BehindCopy n e f inside held may falls leaves below_it starts) enters is = absurd is
    no_stub_there _ region es (BehindStub y e stub there listed serves uncopied plain own home) enters is = absurd is

    pub came : (to region : ℕ) (first last : List FlatEvent) (x : Arrives to) (enters : Enters c g pl plan r a to region last x) (after : ℕ) → StandsAs c g pl plan a after → map address_in first ≡ leaving to x → (first ++ last ≡ [] → after ≡ to) → Route to x → Came file out board g c pl result side ts (suc j) next a next_at (arrives_by_stub c g pl plan r a to region last x enters) after
    came to region first last x enters after stands addresses stays (inl home) =
        home_came file out board g c pl result side ts (suc j) next a next_at home.0 r to region last x enters home.1 after stands
    came to region first last x enters after stands addresses stays (inr copy) =
        record {
          way = no_stub_there to region last x enters copy.0 ∙ sym copy.1.0;
          uncopied = λ same.
              let is : to ≡ a = sym (stays (quiet to region x first last addresses enters copy.0)) ∙ same in
              absurd (both_ways (in_range board.spm a) kept_spm (subst (λ (q : ℕ). in_range board.spm q ≡ true) is copy.1.1));
        }
