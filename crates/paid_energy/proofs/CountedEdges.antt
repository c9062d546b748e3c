-- From the counted unit of one transition to that of the next: control comes to a copied block by an entry, unless its call is
-- inward.
use Rattle.std.proofs.Common.{◌≡◌, ◌∙◌, ◌⊎◌, inl, inr, ℕ, suc, ◌<◌, Bool, true, false, not, ◌&&◌, List, length, Option, Some, refl, sym, ap, subst, arith}
use Rattle.std.specs.Prelude.{Contains}
use Rattle.std.proofs.lemmas.Bool.{both_ways}
use Rattle.list_checks.proofs.TestLemmas.{any_at}
use Rattle.list_checks.proofs.SortedLemmas.{counted}
use Rattle.board_config.specs.declared.board.Board.{Board}
use Rattle.object_graph.specs.declared.parts.Graph.{Graph}
use Rattle.code_blocks.specs.Early.{has}
use Rattle.code_blocks.specs.Leaders.{is_leader}
use Rattle.code_blocks.proofs.LeaderLemmas.{left_passes, right_passes, both_pass}
use Rattle.code_blocks.proofs.EntryLemmas.{entry_leads}
use Rattle.code_blocks.specs.Edges.{successors}
use Rattle.code_blocks.specs.Numbers.{starts_of, start_at, end_at}
use Rattle.code_blocks.specs.Leads.{leads_to, LeadsOn, LeadsAnywhere, units_at}
use Rattle.code_blocks.specs.declared.parts.Code.{Code}
use Rattle.code_blocks.specs.declared.ends.End.{End}
use Rattle.code_blocks.specs.declared.ends.End.TheVariants as ends
use Rattle.dataflow.specs.Live.{Next, within, direct, indirect}
use Rattle.dataflow.proofs.EdgeLemmas.{listed_has}
use Rattle.block_splitter.specs.declared.block_range.BlockRange.{BlockRange}
use Rattle.block_splitter.specs.Forms.{body_at, holds_block}
use Rattle.block_splitter.specs.Pieces.{is_entry}
use Rattle.profile_runner.specs.Standing.{number_of, begins, block_of}
use Rattle.profile_runner.specs.Transition.{Transition, transition_at}
use Rattle.profile_runner.proofs.FindLemmas.{block_found}
use Rattle.energy_model.specs.Energy.{is_checked, may_stay, comes_from_outside}
use Rattle.paid_energy.specs.Inward.{calls, is_within, leads_inward, inward_calls}
use Rattle.result_laws.proofs.Entries.{entry_indirect, successor_found}
use Rattle.paid_energy.specs.Counted.{IsCountedAt}
use Rattle.result_laws.specs.LiveUnits.{StandsThere, ComesNext, UnitsStand}
use Rattle.result_laws.specs.HomeLaws.{unnamed_in}
use Rattle.elf_reader.specs.File.{view_in}
use Rattle.result_laws.proofs.CodeUnits.{units_stand}
use Rattle.result_laws.specs.ChosenPlacement.{ChosenPlacement}
use Rattle.result_laws.specs.ChosenPlacement.{piece_of as placed_piece}
use Rattle.result_laws.specs.PlacedView.{is_served, IsUncopied}
use Rattle.result_laws.specs.PlacedLaws.{IsPlacedResult}
use Rattle.paid_energy.specs.WalkCosts.{HasRegionsOfSide}
use Rattle.paid_energy.proofs.CountedForms.{ComesHome, entry_served, border_served, begun_first, begun_start, first_begun, block_below}
use Rattle.paid_energy.proofs.CountedForms as forms
use Rattle.paid_energy.proofs.KindEnds.{body_ends}
use Rattle.paid_energy.proofs.Pieces.{IsPieceOf, piece_there, piece_is}
use Rattle.paid_energy.proofs.PlacedScene.{scene_in, step_in}

-- where a block that leads to another isn't left so that control stays in a piece, it ends in a call
leading_calls : (e : End) (a : ℕ) → may_stay e ≡ false → Contains (successors e) a → calls e ≡ true
leading_calls (ends.Fall next) a stays leads = cc
leading_calls (ends.Branch target next) a stays leads = cc
leading_calls (ends.Jump target) a stays leads = cc
leading_calls (ends.Call target back link) a stays leads = refl
leading_calls (ends.Tail target) a stays leads = refl
leading_calls (ends.Indirect back) a stays (k, below, there) = absurd (omega (arith, below))
leading_calls ends.Stop a stays (k, below, there) = absurd (omega (arith, below))

-- to the unit behind, or along an edge
abbrev pub Along : Code → ℕ → ℕ → ℕ → ℕ → Type 0
Along c b k d m =
    ((d ≡ b) × ((m ≡ suc k) × (suc k < length (units_at c b))))
    ⊎ ((suc k ≡ length (units_at c b)) × ((m ≡ 0) × (LeadsOn c b d ⊎ LeadsAnywhere c b d)))

pub along : (c : Code) (b k d m : ℕ) → Next c b k d m → Along c b k d m
along c _ _ _ _ (within b k more) = inl (refl, (refl, more))
along c _ _ _ _ (direct b k d last leads) = inr (last, (refl, inl leads))
along c _ _ _ _ (indirect b k d last leads) = inr (last, (refl, inr leads))

module _ (file out : List ℕ) (board : Board) (g : Graph) (c : Code) (pl : ChosenPlacement) (result : IsPlacedResult file out board g c pl) (side : HasRegionsOfSide pl) where
  open (scene_in board g c pl) use {w, taken, named}

  units : UnitsStand (view_in file) (unnamed_in file board g) c
  units = units_stand file board g c result.accepted result.code

  -- a block that a direct edge from outside leads to is an entry, and so is one that a jump by a register may reach
  outside_entry : (range : BlockRange) (b d : ℕ) → LeadsOn c b d → holds_block b range ≡ false → is_entry c range d ≡ true
  outside_entry range b d leads outside =
      right_passes (has c.indirect.items (start_at c d)) _
      (any_at (λ a. not (holds_block a range) && leads_to c a d) (length c.blocks.items) b leads.from
      (both_pass (not (holds_block b range)) (leads_to c b d) (ap not outside) (successor_found (successors (end_at c b)) (start_at c d) leads.leads)))

  pub reached_entry : (range : BlockRange) (d : ℕ) → has c.indirect.items (start_at c d) ≡ true → is_entry c range d ≡ true
  reached_entry range d listed = left_passes (has c.indirect.items (start_at c d)) _ listed

  -- the entry of a program is no block that control comes to from inside a piece
  module _ (ts : List Transition) (here : IsCountedAt c pl.regions pl.borders ts 0) (at : (transition_at ts 0).at ≡ (view_in file).entry) where
    abbrev first : ℕ
    first = block_of (starts_of c) ts 0

    leads : is_leader (view_in file) (view_in file).entry ≡ true
    leads = entry_leads (view_in file) result.accepted.code

    begins_there : begins (starts_of c) ts 0 ≡ true
    begins_there =
        subst (λ (x : ℕ). has (starts_of c) x ≡ true) (sym at) (result.code.leaders (view_in file).entry ∙ leads)

    listed : has c.indirect.items (start_at c first) ≡ true
    listed =
        subst (λ (x : ℕ). has c.indirect.items x ≡ true)
        (sym (begun_start file out board g c pl result side ts 0 here (view_in file).entry at begins_there))
        (result.code.indirect (view_in file).entry ∙ entry_indirect (view_in file) leads)

    pub entry_home : ComesHome file out board g c pl result side ts 0 here (view_in file).entry at
    entry_home =
        record {
          outside = λ range is piece. refl;
          served = λ range is piece.
              let there : IsPieceOf file out board g c pl result first range = piece_there file out board g c pl result first range piece in
              entry_served file out board g c pl result side first there.n there.inside there.held
              (reached_entry (placed_piece pl there.n).range first listed);
          same = λ none_begins. absurd (both_ways (begins (starts_of c) ts 0) none_begins begins_there);
        }

  module _ (ts : List Transition) (j : ℕ) (below : j < length ts) (here : IsCountedAt c pl.regions pl.borders ts j) (next : IsCountedAt c pl.regions pl.borders ts (suc j)) (u v : ℕ) (at : (transition_at ts j).at ≡ u) (next_at : (transition_at ts (suc j)).at ≡ v) (comes : ComesNext c (block_of (starts_of c) ts j) here.unit v) (goes_on : (transition_at ts j).goes_on ≡ true) (goes : (transition_at ts j).next ≡ v) (none : inward_calls w c taken ts ≡ 0) where
    open (step_in c ts j) use {b, d, begun}

    abbrev Comes : Type 0
    Comes = ComesHome file out board g c pl result side ts (suc j) next v next_at

    pub stands : StandsThere c v d next.unit
    stands = forms.there file out board g c pl result side ts (suc j) next v next_at

    pub way : Along c b here.unit d next.unit
    way =
        let same = units.one v comes.block comes.unit d next.unit comes.there stands in
        subst (λ (m : ℕ). Along c b here.unit d m) same.1
        (subst (λ (e : ℕ). Along c b here.unit e comes.unit) same.0 (along c b here.unit comes.block comes.unit comes.next))

    -- ---- an inward call

    is_inward_there : (n : ℕ) → n < length pl.pieces → holds_block b (placed_piece pl n).range ≡ true → holds_block d (placed_piece pl n).range ≡ true → is_entry c (placed_piece pl n).range d ≡ false → is_checked w taken d ≡ false → calls (end_at c b) ≡ true → begun ≡ true → ⊥
    is_inward_there n inside held held_too entry checked calls_so is =
        let range : BlockRange = (placed_piece pl n).range in
        let found = block_found c v d result.code.ascending (block_below file out board g c pl result side ts (suc j) next v next_at) (begun_start file out board g c pl result side ts (suc j) next v next_at is) in
        let piece : named b ≡ Some range = piece_is file out board g c pl result b n inside held in
        let within_piece : is_within c (named b) d ≡ true =
        ap (λ (o : Option BlockRange). is_within c o d) piece
        ∙ both_pass (holds_block d range) (not (is_entry c range d)) held_too (ap not entry) in
        let there : calls (end_at c b) && (is_within c (named b) d && not (is_checked w taken d)) ≡ true =
        both_pass (calls (end_at c b)) _ calls_so (both_pass (is_within c (named b) d) (not (is_checked w taken d)) within_piece (ap not checked)) in
        let number : number_of (starts_of c) v ≡ d = found.1 in
        let inward_to : calls (end_at c b) && (is_within c (named b) (number_of (starts_of c) v) && not (is_checked w taken (number_of (starts_of c) v))) ≡ true =
        subst (λ (e : ℕ). calls (end_at c b) && (is_within c (named b) e && not (is_checked w taken e)) ≡ true) (sym number) there in
        let leads : leads_inward w c taken ts j ≡ true =
        both_pass (transition_at ts j).goes_on _ goes_on
        (subst (λ (x : ℕ). has (starts_of c) x && (calls (end_at c b) && (is_within c (named b) (number_of (starts_of c) x) && not (is_checked w taken (number_of (starts_of c) x)))) ≡ true) (sym goes)
        (both_pass (has (starts_of c) v) _ found.0 inward_to)) in
        let some = counted (leads_inward w c taken ts) (length ts) j leads below in
        omega (arith, some, none)

    -- ---- so a block of a piece to which control comes home is served

    -- control doesn't stay in the piece
    abbrev pub LeavesPiece : Type 0
    LeavesPiece =
        (range : BlockRange) → begun ≡ true → named d ≡ Some range → holds_block b range ≡ true → may_stay (end_at c b) ≡ false

    outside_so : LeavesPiece → (range : BlockRange) → begun ≡ true → named d ≡ Some range → comes_from_outside w (Some range) ts (suc j) ≡ true
    outside_so leaves range is piece = by_held (holds_block b range) refl
      where
        by_held : (held : Bool) → holds_block b range ≡ held → not (holds_block b range && may_stay (body_at c.blocks.items b).end) ≡ true
        by_held false out_of = ap (λ (t : Bool). not (t && may_stay (body_at c.blocks.items b).end)) out_of
        by_held true held =
            let stays : may_stay (body_at c.blocks.items b).end ≡ false = ap may_stay (body_ends c.blocks.items b) ∙ leaves range is piece held in
            ap (λ (t : Bool). not (t && may_stay (body_at c.blocks.items b).end)) held ∙ ap not stays

    served_by : (n : ℕ) → n < length pl.pieces → holds_block d (placed_piece pl n).range ≡ true → begun ≡ true → (holds_block b (placed_piece pl n).range ≡ true → may_stay (end_at c b) ≡ false) → LeadsOn c b d ⊎ LeadsAnywhere c b d → is_served c pl d ≡ true
    served_by n inside held is leaves (inr leads) =
        entry_served file out board g c pl result side d n inside held
        (reached_entry (placed_piece pl n).range d (listed_has c.indirect.items (start_at c d) leads.listed))
    served_by n inside held is leaves (inl leads) = by_own (holds_block b range) refl
      where
        range : BlockRange
        range = (placed_piece pl n).range

        by_checked : (test : Bool) → is_checked w taken d ≡ test → holds_block b (placed_piece pl n).range ≡ true → is_entry c (placed_piece pl n).range d ≡ false → is_served c pl d ≡ true
        by_checked true checked own entry = border_served file out board g c pl result side d checked
        by_checked false checked own entry =
            absurd (is_inward_there n inside own held entry checked (leading_calls (end_at c b) (start_at c d) (leaves own) leads.leads) is)

        by_entry : (test : Bool) → is_entry c (placed_piece pl n).range d ≡ test → holds_block b (placed_piece pl n).range ≡ true → is_served c pl d ≡ true
        by_entry true entry own = entry_served file out board g c pl result side d n inside held entry
        by_entry false entry own = by_checked (is_checked w taken d) refl own entry

        by_own : (test : Bool) → holds_block b (placed_piece pl n).range ≡ test → is_served c pl d ≡ true
        by_own false own =
            entry_served file out board g c pl result side d n inside held (outside_entry (placed_piece pl n).range b d leads own)
        by_own true own = by_entry (is_entry c (placed_piece pl n).range d) refl own

    served_so : LeavesPiece → (range : BlockRange) → begun ≡ true → named d ≡ Some range → is_served c pl d ≡ true
    served_so leaves range is piece =
        let there : IsPieceOf file out board g c pl result d range = piece_there file out board g c pl result d range piece in
        let first = begun_first file out board g c pl result side ts (suc j) next v next_at is in
        elim way [
          | inl on ↦ let more = on.1.0 in absurd (omega (arith, first, more))
          | inr edge ↦
              served_by there.n there.inside there.held is
              (λ own. leaves range is piece (subst (λ (x : BlockRange). holds_block b x ≡ true) there.is own)) edge.1.1
        ]

    -- where no block begins it is the same
    same_so : IsUncopied pl b → begun ≡ false → IsUncopied pl d
    same_so uncopied is =
        elim way [
          | inl on ↦ subst (λ (e : ℕ). IsUncopied pl e) (sym on.0) uncopied
          | inr edge ↦
              let place = units.at d next.unit stands.is in
              let there = stands.at in
              let first = edge.1.0 in
              absurd (both_ways begun is (first_begun file out board g c pl result side ts (suc j) next v next_at d (block_below file out board g c pl result side ts (suc j) next v next_at) (omega (arith, place, there, first))).0)
        ]

    pub comes_home : LeavesPiece → (begun ≡ false → IsUncopied pl d) → Comes
    comes_home leaves same =
        record {
          outside = λ range is piece. outside_so leaves range is piece;
          served = λ range is piece. served_so leaves range is piece;
          same = same;
        }

    -- from a block that isn't copied
    pub uncopied_home : IsUncopied pl b → Comes
    uncopied_home uncopied =
        comes_home
        (λ range is piece held.
        let there : IsPieceOf file out board g c pl result d range = piece_there file out board g c pl result d range piece in
        absurd (both_ways (holds_block b (placed_piece pl there.n).range) (uncopied there.n there.inside) (subst (λ (x : BlockRange). holds_block b x ≡ true) (sym there.is) held)))
        (λ is. same_so uncopied is)
