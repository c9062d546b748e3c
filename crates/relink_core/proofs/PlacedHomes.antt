-- Pads and stubs of a plan: at which addresses pads stand, how far they are from their stubs, and what stands elsewhere.
use Rattle.std.proofs.Common.{◌≡◌, ◌∙◌, inl, inr, ℕ, ◌+◌, ◌%◌, ◌<◌, ◌≤◌, ◌==◌, Bool, true, false, ◌&&◌, List, map, length, get_or, refl, sym, ap, subst, arith}
use Rattle.std.specs.List.{All}
use Rattle.std.proofs.lemmas.Bool.{cases_Bool, eq-eqb}
use Rattle.std.proofs.lemmas.List.{get_or-map, get_or_default, length-map}
use Rattle.list_checks.proofs.TestLemmas.{any_at}
use Rattle.rv32im.proofs.SequenceLemmas.{in_reach, mean_count}
use Rattle.elf_reader.specs.File.{PlainView, view_in}
use Rattle.board_config.specs.declared.board.Board.{Board}
use Rattle.loaded_file.specs.Code.{is_code_word}
use Rattle.object_graph.specs.declared.parts.Graph.{Graph}
use Rattle.code_blocks.specs.Early.{has}
use Rattle.code_blocks.proofs.SearchLemmas.{has_found}
use Rattle.code_blocks.specs.Blocks.{IsCode}
use Rattle.code_blocks.specs.Numbers.{start_at}
use Rattle.code_blocks.specs.declared.parts.Unit.{Unit}
use Rattle.code_blocks.specs.declared.parts.Code.{Code}
use Rattle.block_splitter.specs.declared.unit_kind.UnitKind.{UnitKind}
use Rattle.block_splitter.specs.declared.unit_kind.UnitKind.TheVariants.{Plain, Upper, Branch, Jump, Call, Tail, Indirect, Linking, Halt}
use Rattle.block_splitter.specs.Copies.{Patch, IsDisplaced}
use Rattle.dataflow.specs.Overlaid.{region_in}
use Rattle.patch_code.specs.Serving.{ServingStub, StubBody, jumps_to, body_bytes, serving_home}
use Rattle.patch_code.specs.Overlay.{OverlayPlan, serving_place}
use Rattle.patch_code.specs.Served.{IsServedInside}
use Rattle.patch_code.proofs.WholePlaces.{served_inside}
use Rattle.relocator.specs.SiteWords.{data_word_at}
use Rattle.result_laws.specs.HomeLaws.{IsAccepted, unnamed_in}
use Rattle.result_laws.specs.LiveUnits.{UnitsStand}
use Rattle.result_laws.proofs.CodeUnits.{code_units_stand}
use Rattle.relink_core.specs.Padding.{ReachAll}
use Rattle.result_laws.specs.ChosenPlacement.{ChosenPlacement}
use Rattle.result_laws.specs.PlacedView.{is_served, is_padded, HasBody, ToCopy, Displaced, IsPlanFor, HasRegion, InBlock, Elsewhere}
use Rattle.relink_core.specs.Extending.{IsExtendable}
use Rattle.relink_core.proofs.BlockOrder.{start_code}
use Rattle.relink_core.proofs.PatchPlaces.{data_off_code}
use Rattle.relink_core.proofs.Near.{IsNear, IsNearTo, is_near, word_near}

-- ---- regions

-- an address has one region
pub one_region : (file : List ℕ) (board : Board) (g : Graph) (c : Code) (regions : List ℕ) (a r s : ℕ) → IsAccepted file board g → IsCode (view_in file) c → HasRegion c regions a r → HasRegion c regions a s → r ≡ s
one_region file board g c regions a _ _ accepted code (InBlock b k there) (InBlock d j other) =
    let stand : UnitsStand (view_in file) (unnamed_in file board g) c = code_units_stand file board g c accepted code in
    ap (λ (x : ℕ). region_in regions x) (stand.one a b k d j there other).0
one_region file board g c regions a _ _ accepted code (InBlock b k there) (Elsewhere none) = absurd (none b k there)
one_region file board g c regions a _ _ accepted code (Elsewhere none) (InBlock d j other) = absurd (none d j other)
one_region file board g c regions a _ _ accepted code (Elsewhere none) (Elsewhere nothing) = refl

-- ---- sizes

-- a displaced unit has a word
displaced_some : (sites : List Patch) (at : ℕ) (u : Unit) (kind : UnitKind) (words : List ℕ) → IsDisplaced sites at u kind words → 0 < length words
displaced_some sites at u Plain words is = let count = ap (λ (ws : List ℕ). length ws) is.words in omega (arith, count)
displaced_some sites at u (Upper rd value) words is = let count = mean_count words _ is in omega (arith, count)
displaced_some sites at u (Branch kind rs1 rs2 target) words is = let count = mean_count words _ is in omega (arith, count)
displaced_some sites at u (Jump target) words is = let count = mean_count words _ is in omega (arith, count)
displaced_some sites at u (Call target back link) words is = let count = mean_count words _ is in omega (arith, count)
displaced_some sites at u (Tail target register) words is = let count = mean_count words _ is in omega (arith, count)
displaced_some sites at u Indirect words is = let count = ap (λ (ws : List ℕ). length ws) is in omega (arith, count)
displaced_some sites at u (Linking back link base imm) words is = let count = mean_count words _ is in omega (arith, count)
displaced_some sites at u Halt words is = let count = ap (λ (ws : List ℕ). length ws) is in omega (arith, count)

-- so the body of a stub does
body_some : (c : Code) (g : Graph) (pl : ChosenPlacement) (at b : ℕ) (stub : ServingStub) → HasBody c g pl at b stub → 0 < body_bytes stub.body
body_some c g pl at b stub (ToCopy n below holds is) =
    subst (λ (body : StubBody). 0 < body_bytes body) (sym is) (omega arith)
body_some c g pl at b stub (Displaced words none is displaced) =
    let some = displaced_some pl.sites at _ _ words displaced in
    subst (λ (body : StubBody). 0 < body_bytes body) (sym is) (omega (arith, some))

-- ---- homes

abbrev no_serving : ServingStub
no_serving = record { home = 0; temp = 0; region = 0; body = jumps_to 0 }

-- an address at which a block begins that is served
pub record IsPadHome (c : Code) (pl : ChosenPlacement) (home : ℕ) : Type 0 where
  pub block : ℕ
  pub below : block < length c.blocks.items
  pub starts : start_at c block ≡ home
  pub served : is_served c pl block ≡ true

-- a pad stands there
pub home_padded : (c : Code) (pl : ChosenPlacement) (home : ℕ) → IsPadHome c pl home → is_padded c pl home ≡ true
home_padded c pl home is =
    any_at (λ b. is_served c pl b && (start_at c b == home)) (length c.blocks.items) is.block is.below
    (both_hold (is_served c pl is.block) (start_at c is.block == home) is.served (eq-eqb (start_at c is.block) home is.starts))
  where
    both_hold : (a b : Bool) → a ≡ true → b ≡ true → a && b ≡ true
    both_hold a b first last = rw (first, last) refl

-- a stub stands inside the patch range
record LiesInRange (board : Board) (plan : OverlayPlan) (stub : ServingStub) : Type 0 where
  aligned : serving_place plan stub % 4 ≡ 0
  from : board.patch.base ≤ serving_place plan stub
  to : serving_place plan stub < board.patch.base + board.patch.size

module _ (file : List ℕ) (board : Board) (g : Graph) (c : Code) (pl : ChosenPlacement) (plan : OverlayPlan) (extendable : IsExtendable file board g) (code : IsCode (view_in file) c) (planned : IsPlanFor (view_in file) board g c pl plan) where
  abbrev v : PlainView
  v = view_in file

  abbrev pub homes : List ℕ
  homes = map serving_home plan.stubs

  abbrev pub stub_at : List ℕ
  stub_at = map (serving_place plan) plan.stubs

  accepted : IsAccepted file board g
  accepted = extendable.accepted

  near : IsNear v board
  near = is_near file board g accepted

  pub count_homes : length homes ≡ length plan.stubs
  count_homes = length-map plan.stubs serving_home

  pub stub_home : (k : ℕ) (d : ServingStub) → k < length plan.stubs → IsPadHome c pl (get_or plan.stubs k d).home
  stub_home k d below =
      let some = planned.stubs.only k d below in
      record { block = some.block; below = some.below; starts = sym some.serves.home; served = some.served }

  pub home_is : (k : ℕ) → k < length plan.stubs → IsPadHome c pl (get_or homes k 0)
  home_is k below =
      subst (IsPadHome c pl) (sym (get_or-map serving_home plan.stubs k no_serving 0 below)) (stub_home k no_serving below)

  pub homes_code : All (λ a. is_code_word v a ≡ true) homes
  homes_code k d below =
      let count = count_homes in
      let home = home_is k (omega (arith, below, count)) in
      subst (λ (a : ℕ). is_code_word v a ≡ true) (home.starts ∙ sym (get_or_default homes k d 0 below)) (start_code file board g c home.block accepted code home.below)

  -- where no pad stands no stub has its home
  pub off_homes : (a : ℕ) → is_padded c pl a ≡ false → has homes a ≡ false
  off_homes a none =
      elim (cases_Bool (has homes a)) [
        | inr off ↦ off
        | inl found ↦
            let at = has_found homes a found in
            let below = at.1 in
            let count = count_homes in
            let home = home_is at.0 (omega (arith, below, count)) in
            let padded : is_padded c pl a ≡ true = subst (λ (x : ℕ). is_padded c pl x ≡ true) at.2 (home_padded c pl (get_or homes at.0 0) home) in
            absurd (cc (none, padded))
      ]

  -- nor where a word of data does
  pub off_data : (k : ℕ) → k < length g.data_words.items → has homes (data_word_at g k).at ≡ false
  off_data k below =
      elim (cases_Bool (has homes (data_word_at g k).at)) [
        | inr off ↦ off
        | inl found ↦
            let at = has_found homes (data_word_at g k).at found in
            absurd (data_off_code file board g k (get_or homes at.0 0) accepted.none accepted.graph below (homes_code at.0 0 at.1) (sym at.2))
      ]

  -- ---- how far stubs are

  stub_lies : (k : ℕ) (d : ServingStub) → k < length plan.stubs → LiesInRange board plan (get_or plan.stubs k d)
  stub_lies k d below =
      let stub = get_or plan.stubs k d in
      let base : plan.start.base ≡ board.patch.base = planned.lies.base in
      let times = near.base in
      let inside : IsServedInside plan stub = served_inside plan (omega (arith, base, times)) k d below in
      let some = planned.stubs.only k d below in
      let has_words = body_some c g pl _ some.block stub some.serves.body in
      let from = inside.from in
      let ends = inside.ends in
      let fits = planned.lies.ends in
      record {
        aligned = inside.aligned;
        from = omega (arith, base, from);
        to = omega (arith, has_words, ends, fits);
      }

  pub pads_reach : ReachAll homes stub_at
  pads_reach k below =
      let count = count_homes in
      let listed : k < length plan.stubs = omega (arith, below, count) in
      let home = get_or homes k 0 in
      let stub = get_or plan.stubs k no_serving in
      let there : get_or stub_at k 0 ≡ serving_place plan stub = get_or-map (serving_place plan) plan.stubs k no_serving 0 listed in
      let lies = stub_lies k no_serving listed in
      let by : IsNearTo board home = word_near file board g home accepted (homes_code k 0 below) in
      let from = lies.from in
      let to = lies.to in
      let ends = near.ends in
      let above = by.above in
      let behind_it = by.below in
      let even = by.even in
      let aligned = lies.aligned in
      in_reach 1048576 home (get_or stub_at k 0) (omega arith) by.small (omega (arith, there, to, ends)) (omega (arith, there, to, behind_it)) (omega (arith, there, from, above))
      (omega (arith, even)) (omega (arith, there, aligned))
