-- What holds of the regions of a program's code, and where there is none.
use Rattle.std.proofs.Common.{◌≡◌, ◌∙◌, ◌⊎◌, inl, inr, ℕ, zero, suc, ◌+◌, ◌<◌, ◌≤◌, ◌==◌, Bool, true, false, not, ◌&&◌, ◌||◌, if◌then◌else◌, List, [], ◌∷◌, length, slice_index_or, Option, Some, None, refl, sym, ap, subst, arith}
use Rattle.std.specs.Prelude.{◌≢◌}
use Rattle.std.specs.Int.{bit_at}
use Rattle.std.specs.List.Sorted.{IsStrictlyIncreasing}
use Rattle.std.proofs.lemmas.Bool.{cases_eq, cases_lt, eqb-true, eq-eqb}
use Rattle.std.proofs.lemmas.Bool.Decides.{nat_tests}
use Rattle.std.proofs.lemmas.List.{get_or_past, length-map}
use Rattle.std.proofs.lemmas.Nat.Bits.{bit_at-pow_other}
use Rattle.list_checks.specs.Tests.{any_below}
use Rattle.list_checks.proofs.TestLemmas.{either, both, neither, not_not, not_true, any_at, none_at, any_found}
use Rattle.elf_reader.specs.File.{PlainView}
use Rattle.board_config.specs.Board.{plain_regions}
use Rattle.board_config.specs.declared.board.Board.{Board}
use Rattle.rv32im.specs.RegSet.{IsIn}
use Rattle.code_blocks.specs.Blocks.{IsCode}
use Rattle.code_blocks.specs.Numbers.{starts_of, start_at}
use Rattle.code_blocks.specs.Leads.{owner_of, owner_at, is_some_of, is_of, leads_to, IsBlockOf}
use Rattle.code_blocks.specs.declared.parts.Code.{Code}
use Rattle.code_blocks.specs.Early.{has}
use Rattle.code_blocks.proofs.LeaderLemmas.{left_passes, right_passes, both_pass}
use Rattle.dataflow.specs.Live.{LiveAt, Live}
use Rattle.dataflow.specs.Tables.{IsTableOf, IsFree, NoneFree}
use Rattle.dataflow.specs.declared.table.LiveTable.{LiveTable}
use Rattle.dataflow.proofs.EdgeLemmas.{one_start}
use Rattle.reach_graph.specs.Reaching.{word_at}
use Rattle.dataflow.specs.Overlaid.{region_in, is_border}
use Rattle.region_former.specs.Borders as regions_of
use Rattle.region_former.specs.Borders.{comes_from_outside, becomes_none, bars, is_barred}
use Rattle.region_former.specs.Reaching.{IsReached, by_one, by_none_or_several, root_region}
use Rattle.region_former.specs.Regions.{IsRegionBy, IsRegionOf, AreFormed}
use Rattle.region_former.specs.declared.table.RegionTable.{RegionTable}
use Rattle.block_splitter.specs.Pieces.{only, HasTemporary}
use Rattle.result_laws.specs.Displacing.{CanDisplace}
use Rattle.result_laws.specs.Entries.{TellsBorders}
use Rattle.result_laws.proofs.Entries.{regions_tell_borders}
use Rattle.result_laws.proofs.Displaceable.{can_displace}
use Rattle.relink_core.specs.Regions.{HasDead, AreRegions}

-- ---- a dead register, and the least one

-- it is found, since the table tells of each
bit_is : (n i : ℕ) → (bit_at n i ≡ 1) ⊎ (bit_at n i ≢ 1)
bit_is n i = cases_eq (bit_at n i) 1

tells_live : (c : Code) (t : LiveTable) (b x : ℕ) → IsTableOf c t → IsBlockOf c b → x < 32 → LiveAt c x b 0 ⊎ (LiveAt c x b 0 → ⊥)
tells_live c t b x is inside below =
    elim (bit_is (word_at t.live.items b) x) [
      | inl marked ↦ inl ((is.live b x inside below).0 marked)
      | inr other ↦ inr (λ live. other ((is.live b x inside below).1 live))
    ]

here_live : (c : Code) (b x : ℕ) → IsStrictlyIncreasing (starts_of c) → IsBlockOf c b → Live c (start_at c b) x → LiveAt c x b 0
here_live c b x ascending inside live =
    subst (λ (k : ℕ). LiveAt c x k 0) (one_start c live.block b ascending live.is_block inside live.begins) live.live

not_only : (x : ℕ) → 5 ≤ x → IsIn (only 0) x → ⊥
not_only x from is =
    let other : x ≢ 0 = λ e. omega (arith, from, e) in
    let zero = bit_at-pow_other 0 x other in
    absurd (omega (arith, zero, is))

module _ (c : Code) (t : LiveTable) (b : ℕ) (is : IsTableOf c t) (ascending : IsStrictlyIncreasing (starts_of c)) (inside : IsBlockOf c b) where
  leader : ℕ
  leader = start_at c b

  free_here : (x : ℕ) → 5 ≤ x → (LiveAt c x b 0 → ⊥) → IsFree c (start_at c b) (only 0) x
  free_here x from dead =
      record { dead = λ live. dead (here_live c b x ascending inside live); allowed = not_only x from }

  tells_free : (x : ℕ) → 5 ≤ x → x < 32 → IsFree c (start_at c b) (only 0) x ⊎ (IsFree c (start_at c b) (only 0) x → ⊥)
  tells_free x from below =
      elim (tells_live c t b x is inside below) [
        | inl live ↦ inr (λ free. free.dead (record { block = b; is_block = inside; begins = refl; live = live }))
        | inr dead ↦ inl (free_here x from dead)
      ]

  -- none from 5 up to an end is free, or one is the least
  least_below : (n : ℕ) → n ≤ 27 → NoneFree c (start_at c b) (only 0) (5 + n) ⊎ HasTemporary c (start_at c b) 0
  least_below zero below = inl (λ x from to free. omega (arith, from, to))
  least_below (suc n) below =
      elim (least_below n (omega (arith, below))) [
        | inr found ↦ inr found
        | inl none ↦
            elim (tells_free (5 + n) (omega arith) (omega (arith, below))) [
              | inl free ↦ inr (5 + n, record { from = omega arith; below = omega (arith, below); free = free; least = none })
              | inr other ↦
                  inl (λ x from to free.
                  elim (cases_lt x (5 + n)) [
                    | inl lower ↦ none x from lower free
                    | inr past ↦
                        let same : x ≡ 5 + n = omega (arith, past, to) in
                        other (subst (IsFree c (start_at c b) (only 0)) same free)
                  ])
            ]
      ]

  pub has_temporary : HasDead c b → HasTemporary c (start_at c b) 0
  has_temporary has =
      elim (least_below 27 (omega arith)) [
        | inr found ↦ found
        | inl none ↦ absurd (none has.register has.from has.below (free_here has.register has.from has.dead))
      ]

-- ---- one region a function

one_reached : (root : ℕ → Bool) (step : ℕ → ℕ → Bool) (f r s : ℕ) → IsReached root step f r → IsReached root step f s → r ≡ s
one_reached root step f _ _ (by_one k alone) (by_one j other) = ap (root_region root) (other.alone k alone.leads)
one_reached root step f _ _ (by_one k alone) (by_none_or_several none) = absurd (none k alone)
one_reached root step f _ _ (by_none_or_several none) (by_one k alone) = absurd (none k alone)
one_reached root step f _ _ (by_none_or_several none) (by_none_or_several other) = refl

one_listed : (v : PlainView) (c : Code) (board : Board) (lists : List (List (List ℕ))) (f r s : ℕ) → IsRegionBy v c board lists f r → IsRegionBy v c board lists f s → r ≡ s
one_listed v c board [] f r s one other = one_reached _ _ f r s one other
one_listed v c board (l ∷ ls) f r s one other = one ∙ sym other

own_function : (o : Option ℕ) (f : ℕ) → is_some_of o f ≡ true → o ≡ Some f
own_function None f is = absurd (cc)
own_function (Some j) f is = ap Some (eqb-true j f is)

-- a block with a function is one of the code
owned_inside : (c : Code) (f b : ℕ) → is_of c f b ≡ true → IsBlockOf c b
owned_inside c f b is =
    elim (cases_lt b (length c.blocks.items)) [
      | inl below ↦ below
      | inr past ↦
          let many = length-map c.blocks.items owner_of in
          let none : owner_at c b ≡ None = get_or_past _ b None (omega (arith, many, past)) in
          absurd (no_function (owner_at c b) none is)
    ]
  where
    no_function : (o : Option ℕ) → o ≡ None → is_some_of o f ≡ true → ⊥
    no_function None same is = absurd (cc)
    no_function (Some j) same is = absurd (cc)

formed_one : (v : PlainView) (c : Code) (board : Board) (formed : List ℕ) (f b d : ℕ) → AreFormed v c board formed → is_of c f b ≡ true → is_of c f d ≡ true → region_in formed b ≡ region_in formed d
formed_one v c board formed f b d are one other =
    let first : IsRegionOf v c board (Some f) (region_in formed b) = subst (λ (o : Option ℕ). IsRegionOf v c board o (region_in formed b)) (own_function (owner_at c b) f one) (are.of_block b (owned_inside c f b one)) in
    let second : IsRegionOf v c board (Some f) (region_in formed d) = subst (λ (o : Option ℕ). IsRegionOf v c board o (region_in formed d)) (own_function (owner_at c d) f other) (are.of_block d (owned_inside c f d other)) in
    one_listed v c board (plain_regions board.regions) f (region_in formed b) (region_in formed d) first second

-- ---- borders

-- where some regions become none, others have no new borders
abbrev pub Lessens : Code → List ℕ → List ℕ → (ℕ → Bool) → Type 0
Lessens c regions formed gone = (b : ℕ) → IsBlockOf c b → region_in regions b ≡ (if gone (region_in formed b) then 0 else region_in formed b)

kept_region : (r f : ℕ) (gone : Bool) → r ≡ (if gone then 0 else f) → (r == 0) ≡ false → (gone ≡ false) × (r ≡ f)
kept_region r f true is some = absurd (grind (arith, nat_tests, is, some))
kept_region r f false is some = (refl, is)

-- a block of another region is of another one in the first list
other_before : (r s f h : ℕ) (gone : Bool) → r ≡ (if gone then 0 else f) → s ≡ h → (f ≡ h → gone ≡ false) → (r == s) ≡ false → (f == h) ≡ false
other_before r s f h gone is same stays other =
    elim (cases_eq f h) [
      | inl here ↦
          let kept = stays here in
          let own : r ≡ f = is ∙ ap (λ (t : Bool). if t then 0 else f) kept in
          absurd (grind (arith, nat_tests, own, here, same, other))
      | inr differs ↦ grind (arith, nat_tests, differs)
    ]

border_before : (c : Code) (regions formed : List ℕ) (gone : ℕ → Bool) (b : ℕ) → Lessens c regions formed gone → IsBlockOf c b → regions_of.is_border c regions b ≡ true
    → (gone (region_in formed b) ≡ false) × (regions_of.is_border c formed b ≡ true)
border_before c regions formed gone b less inside is =
    let parts = both (not (region_in regions b == 0)) (has c.indirect.items (start_at c b) || any_below (comes_from_outside c regions b) (length c.blocks.items)) is in
    let kept = kept_region (region_in regions b) (region_in formed b) (gone (region_in formed b)) (less b inside) (not_true (region_in regions b == 0) parts.0) in
    let same = kept.1 in
    let stays = kept.0 in
    let some : not (region_in formed b == 0) ≡ true = subst (λ (r : ℕ). not (r == 0) ≡ true) same parts.0 in (
      stays,
      both_pass (not (region_in formed b == 0)) _ some
          (elim (either (has c.indirect.items (start_at c b)) (any_below (comes_from_outside c regions b) (length c.blocks.items)) parts.1) [
            | inl listed ↦ left_passes (has c.indirect.items (start_at c b)) _ listed
            | inr outside ↦
                let (a, below, from) = any_found (comes_from_outside c regions b) (length c.blocks.items) outside in
                let leads = both (leads_to c a b) (not (region_in regions a == region_in regions b)) from in
                let differs = other_before (region_in regions a) (region_in regions b) (region_in formed a) (region_in formed b) (gone (region_in formed a)) (less a below) same
                (λ here. ap gone here ∙ stays) (not_true (region_in regions a == region_in regions b) leads.1) in
                right_passes (has c.indirect.items (start_at c b)) _
                (any_at (comes_from_outside c formed b) (length c.blocks.items) a below
                (both_pass (leads_to c a b) _ leads.0 (ap not differs)))
          ]),
    )

-- ---- the whole

-- control may enter a region at block `b`: it has one, a register is dead there, and its first unit can be displaced
pub record CanEnter (c : Code) (regions : List ℕ) (b : ℕ) : Type 0 where
  pub inside : IsBlockOf c b
  pub some : 0 < region_in regions b
  pub temporary : HasTemporary c (start_at c b) 0
  pub displaced : CanDisplace c b

-- lists of regions and borders of a code, with so many regions
pub record AreCodeRegions (c : Code) (count : ℕ) (regions : List ℕ) (borders : List Bool) : Type 0 where
  pub tells : TellsBorders c regions borders
  pub below : (b : ℕ) → region_in regions b ≤ count
  pub one : (f b d : ℕ) → is_of c f b ≡ true → is_of c f d ≡ true → region_in regions b ≡ region_in regions d
  pub entered : (b : ℕ) → is_border borders b ≡ true → CanEnter c regions b

pub no_code_regions : (c : Code) → AreCodeRegions c 0 [] []
no_code_regions c =
    record {
      tells = λ b inside. refl;
      below = λ b. omega arith;
      one = λ f b d one other. refl;
      entered = λ b is. absurd (cc (is));
    }

module _ (v : PlainView) (c : Code) (board : Board) (t : RegionTable) (live : LiveTable) (code : IsCode v c) (ascending : IsStrictlyIncreasing (starts_of c)) (table : IsTableOf c live) (are : AreRegions v c board t) where
  gone : ℕ → Bool
  gone = becomes_none c are.has_dead are.is_formed.formed

  few : (b : ℕ) → region_in t.of_block.items b ≤ t.count
  few b =
      elim (cases_lt b (length t.of_block.items)) [
        | inl inside ↦ t.within b 0 inside
        | inr past ↦ let none = get_or_past t.of_block.items b 0 past in omega (arith, none)
      ]

  border_inside : (b : ℕ) → is_border t.border.items b ≡ true → IsBlockOf c b
  border_inside b is =
      elim (cases_lt b (length c.blocks.items)) [
        | inl below ↦ below
        | inr past ↦
            let many = t.same in
            let blocks = are.is_formed.one_each in
            let none = get_or_past t.border.items b false (omega (arith, many, blocks, past)) in
            absurd (cc (none, is))
      ]

  entered_at : (b : ℕ) → is_border t.border.items b ≡ true → CanEnter c t.of_block.items b
  entered_at b is =
      let inside = border_inside b is in
      let formed = are.is_formed.formed in
      let border : regions_of.is_border c t.of_block.items b ≡ true = sym (are.is_formed.border b inside) ∙ is in
      let before = border_before c t.of_block.items formed (becomes_none c are.has_dead formed) b are.is_formed.of_block inside border in
      let none = none_at (bars c are.has_dead formed (region_in formed b)) (length c.blocks.items) b inside before.0 in
      let free : is_barred c are.has_dead b ≡ false = not_barred ((region_in formed b == region_in formed b)) (regions_of.is_border c formed b) (is_barred c are.has_dead b) (eq-eqb (region_in formed b) (region_in formed b) refl) before.1 none in
      record {
        inside = inside;
        some = some_region (region_in t.of_block.items b) (both (not (region_in t.of_block.items b == 0)) _ border).0;
        temporary = has_temporary c live b table ascending inside ((are.tells_dead.each b inside).0 (dead_of free));
        displaced = can_displace v c are.has_dead b code inside free;
      }
    where
      some_region : (r : ℕ) → not (r == 0) ≡ true → 0 < r
      some_region r is = let other = not_true (r == 0) is in grind (arith, nat_tests, other)

      not_barred : (x y z : Bool) → x ≡ true → y ≡ true → x && y && z ≡ false → z ≡ false
      not_barred true true z one other none = none
      not_barred true false z one other none = absurd (cc)
      not_barred false y z one other none = absurd (cc)

      dead_of : is_barred c are.has_dead b ≡ false → slice_index_or are.has_dead b false ≡ true
      dead_of free =
          not_not (slice_index_or are.has_dead b false)
          ((neither (not (slice_index_or are.has_dead b false)) _
          ((neither (not (slice_index_or are.has_dead b false) || _) _
          ((neither (not (slice_index_or are.has_dead b false) || _ || _) _ free).0)).0)).0)

  pub code_regions : AreCodeRegions c t.count t.of_block.items t.border.items
  code_regions =
      record {
        tells = regions_tell_borders v c board are.has_dead t are.is_formed;
        below = few;
        one = λ f b d one other.
            let formed = are.is_formed.formed in
            are.is_formed.of_block b (owned_inside c f b one)
            ∙ ap (λ (r : ℕ). if becomes_none c are.has_dead formed r then 0 else r) (formed_one v c board formed f b d are.is_formed.are_formed one other)
            ∙ sym (are.is_formed.of_block d (owned_inside c f d other));
        entered = entered_at;
      }
