-- What is marked on the way to the objects that may be overlaid tells which they are.
use Rattle.std.proofs.Common.{not, ◌≡◌, ◌∙◌, ◌⊎◌, inl, inr, ℕ, ◌+◌, ◌*◌, ◌%◌, ◌^◌, ◌<◌, ◌≤◌, ◌&&◌, Bool, true, false, List, [], ◌∷◌, ◌++◌, bit_or, length, Result, Ok, Err, Vec, slice_index_or, refl, sym, ap, subst, arith}
use Rattle.std.specs.Prelude.{◌↔◌, IfOk}
use Rattle.std.specs.Global.{Global}
use Rattle.std.specs.declared.alloc.AllocError.{AllocError}
use Rattle.std.specs.List.{list_any}
use Rattle.std.proofs.lemmas.Bool.{cases_eq, cases_lt, eq-eqb}
use Rattle.std.proofs.lemmas.Bool.Decides.{nat_tests}
use Rattle.std.proofs.lemmas.List.{get_or-map, get_or_append_left, get_or_default, get_or_past, get_or_push, length-map, length_push}
use Rattle.list_checks.specs.Sorted.{collected, is_number}
use Rattle.list_checks.proofs.StepLemmas.{any_place}
use Rattle.list_checks.proofs.SortedLemmas.{any_collected}
use Rattle.list_checks.proofs.TestLemmas.{any_at}
use Rattle.rv32im.specs.RegSet.{IsIn}
use Rattle.rv32im.specs.declared.instructions.RegSet.{RegSet}
use Rattle.object_graph.specs.declared.parts.Graph.{Graph}
use Rattle.code_blocks.specs.Blocks.{start_of}
use Rattle.code_blocks.specs.declared.parts.Block.{Block}
use Rattle.code_blocks.specs.declared.parts.Code.{Code}
use Rattle.reach_graph.specs.Reaching.{HasMark}
use Rattle.reach_graph.proofs.MarkLemmas.{or_left, or_right, or_cases, none_in_zero, one_bit}
use Rattle.dataflow.specs.Live.{LiveAt, Live}
use Rattle.dataflow.specs.Tables.{IsTableOf}
use Rattle.dataflow.specs.declared.table.LiveTable.{LiveTable}
use Rattle.dataflow.proofs.TableLemmas.{found_live}
use Rattle.dataflow.specs.Points.{Held}
use Rattle.dataflow.specs.Exposed.{no_registers, IsAsked, IsHeld, IsExposed, mark_at}
use Rattle.dataflow.specs.Overlaid.{is_border, IsHeldAtBorder, MayBeOverlaid, AreOverlaid}
use Rattle.dataflow.proofs.FactBounds.{of_register, of_block}
use Rattle.dataflow.proofs.OverlaidLemmas.{words_escape}
use Rattle.placement_candidates.specs.Overlaid.{Lives}
use Rattle.placement_candidates.specs.Found.{AreLiveAtBorders, IsSited, AreSited, IsFree, AreFree}
use Rattle.placement_candidates.proofs.SideLemmas.{AreNumbers, are_numbers}

-- ---- registers that are live

pub register_added : (bits register x : ℕ) (wanted : Bool) → register < 32 → wanted ≡ true → HasMark (bit_or bits (1 * 2 ^ register % 2 ^ 32)) x ↔ (HasMark bits x ⊎ ((wanted ≡ true) × (x ≡ register)))
register_added bits register x wanted low on = (
  λ has. elim (or_cases bits (1 * 2 ^ register % 2 ^ 32) x has) [ inl old ↦ inl old | inr new ↦ inr (on, (one_bit 32 register x low).0 new) ],
  λ has. elim has [ inl old ↦ or_left bits (1 * 2 ^ register % 2 ^ 32) x old | inr (_, same) ↦ or_right bits (1 * 2 ^ register % 2 ^ 32) x ((one_bit 32 register x low).1 same) ],
)

pub live_more : (P : ℕ → Type 0) (register old new x : ℕ) (wanted : Bool) → (wanted ≡ true) ↔ P register → HasMark new x ↔ (HasMark old x ⊎ ((wanted ≡ true) × (x ≡ register)))
    → HasMark old x ↔ ((x < register) × P x) → HasMark new x ↔ ((x < register + 1) × P x)
live_more P register old new x wanted told step before = (
  λ has. elim (step.0 has) [
    | inl earlier ↦ let is = before.0 earlier in let below = is.0 in (omega (arith, below), is.1)
    | inr (on, same) ↦ (omega (arith, same), subst P (sym same) (told.0 on))
  ],
  λ is. step.1 (elim (cases_eq x register) [
    | inl same ↦ inr (told.1 (subst P same is.1), same)
    | inr other ↦ let below = is.0 in inl (before.1 (omega (arith, below, other), is.1))
  ]),
)

pub live_upto : (P : ℕ → Type 0) (register bits x : ℕ) → 32 ≤ register → x < 32 → HasMark bits x ↔ ((x < register) × P x) → HasMark bits x ↔ P x
live_upto P register bits x all low told = (λ has. (told.0 has).1, λ is. told.1 (omega (arith, all, low), is))

-- ---- where control enters a region

live_there : (c : Code) (live : LiveTable) (b x : ℕ) (block : Block) → IsTableOf c live → b < length c.blocks.items → block ≡ slice_index_or c.blocks.items b block → x < 32 → LiveAt c x b 0 ↔ Live c block.start x
live_there c live b x block table inside is low =
    let leaders = live.leaders.items in
    let words = live.live.items in
    let size : length leaders ≡ length c.blocks.items = ap (λ (xs : List ℕ). length xs) table.leaders ∙ length-map c.blocks.items start_of in
    let begins : slice_index_or leaders b 0 ≡ block.start =
    ap (λ (xs : List ℕ). slice_index_or xs b 0) table.leaders ∙ get_or-map start_of c.blocks.items b block 0 inside ∙ ap start_of (sym is) in
    let found = found_live c leaders words block.start b x table.leaders table.live live.ascending (omega (arith, size, inside)) begins low in
    let here = table.live b x inside low in (
      λ at. found.0 (here.1 at),
      λ at. here.0 (found.1 at),
    )

pub borders_more : (c : Code) (live : LiveTable) (borders : List Bool) (b : ℕ) (block : Block) (border : Bool) (old : List RegSet) (set : RegSet) → IsTableOf c live → b < length c.blocks.items
    → block ≡ slice_index_or c.blocks.items b block → border ≡ is_border borders b → ((x : ℕ) → x < 32 → IsIn set x ↔ ((border ≡ true) × Live c block.start x))
    → AreLiveAtBorders c borders b old → AreLiveAtBorders c borders (b + 1) (old ++ set ∷ [])
borders_more c live borders b block border old set table inside is test told are =
    let size = are.size in
    let longer = length_push old set in record {
      size = omega (arith, size, longer);
      each = λ d x below low. elim (cases_eq d b) [
        | inl same ↦
            let at : slice_index_or (old ++ set ∷ []) d no_registers ≡ set = get_or_push old set no_registers d (omega (arith, same, size)) in
            let live_is = live_there c live b x block table inside is low in (
              λ asks.
                  let parts = (told x low).0 (subst (λ (s : RegSet). IsIn s x) at asks) in
                  (ap (is_border borders) same ∙ sym test ∙ parts.0, subst (λ (n : ℕ). LiveAt c x n 0) (sym same) (live_is.1 parts.1)),
              λ parts. subst (λ (s : RegSet). IsIn s x) (sym at)
                  ((told x low).1 (test ∙ ap (is_border borders) (sym same) ∙ parts.0, live_is.0 (subst (λ (n : ℕ). LiveAt c x n 0) same parts.1))),
            )
        | inr other ↦
            let before : d < length old = omega (arith, below, other, size) in
            subst (λ (s : RegSet). IsIn s x ↔ ((is_border borders d ≡ true) × LiveAt c x d 0)) (sym (get_or_append_left old (set ∷ []) no_registers d before)) (are.each d x (omega (arith, below, other)) low)
      ];
    }

-- ---- objects that may be overlaid

pub free_more : (c : Code) (g : Graph) (regions : List ℕ) (asked : List RegSet) (n : ℕ) (marks : List Bool) (mark : Bool) → (mark ≡ true) ↔ IsFree c g regions asked n → AreFree c g regions asked n marks → AreFree c g regions asked (n + 1) (marks ++ mark ∷ [])
free_more c g regions asked n marks mark told are =
    let size = are.size in
    let longer = length_push marks mark in record {
      size = omega (arith, size, longer);
      each = λ o below. elim (cases_eq o n) [
        | inl same ↦
            let at : mark_at (marks ++ mark ∷ []) o ≡ mark = get_or_push marks mark false o (omega (arith, same, size)) in
            subst (λ (m : Bool). (m ≡ true) ↔ IsFree c g regions asked o) (sym at) (subst (λ (k : ℕ). (mark ≡ true) ↔ IsFree c g regions asked k) (sym same) told)
        | inr other ↦
            let before : o < length marks = omega (arith, below, other, size) in
            subst (λ (m : Bool). (m ≡ true) ↔ IsFree c g regions asked o) (sym (get_or_append_left marks (mark ∷ []) false o before)) (are.each o (omega (arith, below, other)))
      ];
    }

-- where none is sited, none may be overlaid
pub none_overlaid : (c : Code) (g : Graph) (regions : List ℕ) (borders marks : List Bool) → AreSited c g regions marks → ((o : ℕ) → o < length marks → mark_at marks o ≡ false) → AreOverlaid (Lives c) c g regions borders []
none_overlaid c g regions borders marks are none = record {
  ascending = λ k within. absurd (omega (arith, within));
  each = λ k d below. absurd (omega (arith, below));
  whole = λ o may.
      let size = are.size in
      let inside = may.moves in
      let on = (are.each o may.moves).1 (record { has_site = may.has_site; in_regions = may.in_regions }) in
      let off = none o (omega (arith, size, inside)) in
      absurd cc;
}

-- one is sited and isn't exposed
pub is_free : (c : Code) (g : Graph) (regions : List ℕ) (asked : List RegSet) (o : ℕ) (sited exposed : Bool) → (sited ≡ true) ↔ IsSited c g regions o → (exposed ≡ true) ↔ IsExposed c g asked o
    → (sited && not exposed ≡ true) ↔ IsFree c g regions asked o
is_free c g regions asked o true false sites exposes =
    (λ on. record { sited = sites.0 refl; hidden = λ is. let on = exposes.1 is in absurd cc }, λ free. refl)
is_free c g regions asked o true true sites exposes = (λ on. absurd cc, λ free. absurd (free.hidden (exposes.0 refl)))
is_free c g regions asked o false exposed sites exposes = (λ on. absurd cc, λ free. sites.1 free.sited)

module _ (c : Code) (g : Graph) (regions : List ℕ) (borders : List Bool) (asked : List RegSet) (live : AreLiveAtBorders c borders (length c.blocks.items) asked) where
  asked_below : (b x : ℕ) → IsAsked asked b x → b < length c.blocks.items
  asked_below b x asks =
      elim (cases_lt b (length c.blocks.items)) [
        | inl below ↦ below
        | inr past ↦
            let size = live.size in
            absurd (none_in_zero x (subst (λ (s : RegSet). HasMark s.bits x) (get_or_past asked b no_registers (omega (arith, past, size))) asks))
      ]

  at_border : (o : ℕ) → IsHeld c g asked o → IsHeldAtBorder (Lives c) c g borders o
  at_border o held =
      let b = held.block in
      let x = held.register in
      let low : x < 32 = of_register c g o (Held b 0 x) held.holds in
      let parts = (live.each b x (asked_below b x held.is_asked) low).0 held.is_asked in
      record { block = b; register = x; border = parts.0; is_live = parts.1; holds = held.holds }

  held_there : (o : ℕ) → IsHeldAtBorder (Lives c) c g borders o → IsHeld c g asked o
  held_there o held =
      let b = held.block in
      let x = held.register in
      let low : x < 32 = of_register c g o (Held b 0 x) held.holds in
      record { block = b; register = x; is_asked = (live.each b x (of_block c g o (Held b 0 x) held.holds) low).1 (held.border, held.is_live); holds = held.holds }

  overlaid : (o : ℕ) → o < length g.objects.items → IsFree c g regions asked o → MayBeOverlaid (Lives c) c g regions borders o
  overlaid o below free = record {
    moves = below;
    kept_out = λ escapes. free.hidden (inl escapes);
    no_word = words_escape c g o (λ escapes. free.hidden (inl escapes));
    has_site = free.sited.has_site;
    in_regions = free.sited.in_regions;
    free = λ held. free.hidden (inr (held_there o held));
  }

  free_of : (o : ℕ) → MayBeOverlaid (Lives c) c g regions borders o → IsFree c g regions asked o
  free_of o may = record {
    sited = record { has_site = may.has_site; in_regions = may.in_regions };
    hidden = λ exposed. elim exposed [ inl escapes ↦ may.kept_out escapes | inr held ↦ may.free (at_border o held) ];
  }

  pub overlaid_are : (marks : List Bool) (objects : List ℕ) → AreFree c g regions asked (length g.objects.items) marks → objects ≡ collected (mark_at marks) (λ o. o) (length marks) → AreOverlaid (Lives c) c g regions borders objects
  overlaid_are marks objects are is =
      let count = length marks in
      let size = are.size in
      let numbers = subst (λ (ns : List ℕ). AreNumbers (mark_at marks) count ns) (sym is) (are_numbers (mark_at marks) count) in record {
        ascending = λ k within. numbers.ordered k (k + 1) (omega arith) within;
        each = λ k d below.
            let same = get_or_default objects k d 0 below in
            let less = numbers.below k below in
            let inside : slice_index_or objects k 0 < length g.objects.items = omega (arith, less, size) in
            subst (MayBeOverlaid (Lives c) c g regions borders) (sym same) (overlaid (slice_index_or objects k 0) inside ((are.each (slice_index_or objects k 0) inside).0 (numbers.passes k below)));
        whole = λ o may.
            let inside = may.moves in
            let mark = (are.each o inside).1 (free_of o may) in
            let test : mark_at marks o && is_number o o ≡ true = rw (mark, eq-eqb o o refl) refl in
            let found = ap (list_any (is_number o)) is ∙ any_collected (mark_at marks) (λ k. k) (is_number o) count ∙ any_at (λ k. mark_at marks k && is_number o k) count o (omega (arith, inside, size)) test in
            let (k, place) = any_place (is_number o) objects 0 found in
            let here = place.1 in
            let same : slice_index_or objects k 0 ≡ o = grind (arith, nat_tests, here) in
            (k, place.0, get_or_default objects k o 0 place.0 ∙ same);
      }

  -- the same of a result, for marks of which there is one for each object
  pub found : (marks marks1 : List Bool) (count : ℕ) (r : Result (Vec ℕ Global) AllocError) → AreFree c g regions asked count marks → count ≡ length g.objects.items → marks1 ≡ marks
      → IfOk r (λ numbers. numbers.items ≡ collected (mark_at marks1) (λ o. o) (length marks1)) → IfOk r (λ objects. AreOverlaid (Lives c) c g regions borders objects.items)
  found marks marks1 count (Err e) are all same is = tt
  found marks marks1 count (Ok numbers) are all same is =
      overlaid_are marks numbers.items (subst (λ (n : ℕ). AreFree c g regions asked n marks) all are)
      (subst (λ (ms : List Bool). numbers.items ≡ collected (mark_at ms) (λ o. o) (length ms)) same is)
