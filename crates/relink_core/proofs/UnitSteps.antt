-- What one step of collecting forms adds.
use Rattle.std.proofs.Common.{◌≡◌, ◌∙◌, ℕ, ◌+◌, ◌*◌, ◌<◌, ◌==◌, Bool, true, false, ◌&&◌, List, map, length, get_or, slice_index_or, refl, sym, ap, subst, arith, suc, add-one}
use Rattle.std.specs.List.{list_any}
use Rattle.std.proofs.lemmas.List.{get_or-map, get_or_default}
use Rattle.list_checks.specs.Sorted.{is_number}
use Rattle.code_blocks.specs.Blocks.{start_of}
use Rattle.code_blocks.specs.Numbers.{start_at}
use Rattle.code_blocks.specs.Leads.{no_unit, IsBlockOf}
use Rattle.code_blocks.specs.declared.parts.Block.{Block}
use Rattle.code_blocks.specs.declared.parts.Code.{Code}
use Rattle.code_blocks.specs.declared.parts.Unit.{Unit}
use Rattle.dataflow.proofs.FactLemmas.{units_are}
use Rattle.block_splitter.specs.Forms.{Body, body_at, holds_block, copy_size, is_site, units_size}
use Rattle.block_splitter.specs.Copies.{is_inside, kind_in, address_of, place_of, words_before}
use Rattle.block_splitter.proofs.CopySizeLemmas.{held}
use Rattle.block_splitter.proofs.FieldLemmas.{body_is}
use Rattle.result_laws.proofs.Places.{unit_fits}
use Rattle.patch_code.specs.StubPlans.{serving_stub}
use Rattle.patch_code.specs.Serving.{ServingStub}
use Rattle.patch_code.specs.declared.stub_plan.Stub.{Stub}
use Rattle.relink_core.specs.declared.copy_source.CopySource.{CopySource}
use Rattle.relink_core.specs.declared.placed_copy.PlacedCopy.{PlacedCopy}
use Rattle.relink_core.specs.Copies.{IsPlacedCopy, copied_in}
use Rattle.relink_core.proofs.StubsMade.{block_below}
use Rattle.relink_core.specs.declared.unit_forms.UnitAt.{UnitAt}
use Rattle.relink_core.specs.UnitSets.{Gains, Upto, IsForm, HomeForm, HomeForms, begins_padded, CopiedForm, BlockForms, HeldForms, PieceForms, CopyForms, runs, StubForm, StubForms, no_stub}
use Rattle.relink_core.proofs.UnitSetLemmas.{gains_none, gains_same, gains_whole}

-- ---- at home

pub no_home : (us : List Unit) (padded : Bool) (k : ℕ) (a : List UnitAt) → padded && (k == 0) ≡ true → Gains (HomeForm us padded k) a a
no_home us padded k a is = gains_none (HomeForm us padded k) a (λ x form. let out = form.0 in absurd (cc (is, out)))

pub one_home : (us : List Unit) (padded : Bool) (k : ℕ) (u : Unit) (a b : List UnitAt) → padded && (k == 0) ≡ false → k < length us → u ≡ get_or us k u → Gains (IsForm u.at 0 u.at) a b → Gains (HomeForm us padded k) a b
one_home us padded k u a b out below is one =
    let same = is ∙ get_or_default us k u no_unit below in
    gains_same (IsForm (get_or us k no_unit).at 0 (get_or us k no_unit).at) (HomeForm us padded k) a b
    (subst (λ (w : Unit). Gains (IsForm w.at 0 w.at) a b) same one)
    (λ x. (λ form. form.1, λ form. (out, form)))

pub block_homes : (c : Code) (homes : List ℕ) (b : ℕ) (block : Block) (padded : Bool) (old new : List UnitAt) → IsBlockOf c b → block ≡ get_or c.blocks.items b block → padded ≡ list_any (is_number block.start) homes → Gains (Upto (length block.units.items) (HomeForm block.units.items padded)) old new → Gains (HomeForms c homes b) old new
block_homes c homes b block padded old new below is test one =
    let starts : start_at c b ≡ block.start = get_or-map start_of c.blocks.items b block 0 below ∙ ap start_of (sym is) in
    let tested : padded ≡ begins_padded c homes b = test ∙ ap (λ (n : ℕ). list_any (is_number n) homes) (sym starts) in
    subst (λ (us : List Unit). Gains (Upto (length us) (HomeForm us (begins_padded c homes b))) old new) (sym (units_are c b block below is))
    (subst (λ (p : Bool). Gains (Upto (length block.units.items) (HomeForm block.units.items p)) old new) tested one)

-- ---- in copies

pub one_unit : (us : List Unit) (k : ℕ) (u : Unit) (at region : ℕ) (a b : List UnitAt) → k < length us → u ≡ get_or us k u → Gains (IsForm at region u.at) a b → Gains (IsForm at region (get_or us k no_unit).at) a b
one_unit us k u at region a b below is one =
    subst (λ (w : Unit). Gains (IsForm at region w.at) a b) (is ∙ get_or_default us k u no_unit below) one

module _ (s : CopySource) (x : PlacedCopy) (b : ℕ) (placed : IsPlacedCopy s x) (inside : holds_block b x.range ≡ true) where
  abbrev pub unit_count : ℕ
  unit_count = length (body_at s.code.now.blocks.items b).units

  abbrev here : ℕ → ℕ
  here k = address_of (copied_in s x) (place_of (copied_in s x) b k)

  abbrev size : ℕ → ℕ
  size k = copy_size (is_inside (copied_in s x)) (kind_in (copied_in s x) b k)

  -- a unit ends below 2 ^ 32, where the next one stands
  pub unit_ends : (k : ℕ) → k < unit_count → here k + 4 * size k < 4294967296
  unit_ends k below =
      let fits = unit_fits (copied_in s x) b k inside (block_below s x b placed inside) below in
      let ends = placed.can.ends in
      omega (arith, fits, ends)

  -- the first one stands where the block does
  pub first_unit : (at : ℕ) → at ≡ address_of (copied_in s x) (words_before (copied_in s x) b) → at ≡ here 0
  first_unit at is = omega (arith, is)

  pub next_unit : (k at words : ℕ) → at ≡ here k → words ≡ size k → at + 4 * words ≡ here (k + 1)
  next_unit k at words is many = rw (is, many) (next_at k)
    where
      units : ℕ → ℕ
      units k = units_size (is_site s.graph.now) (is_inside (copied_in s x)) (body_at s.code.now.blocks.items b) k

      next_at : (k : ℕ) → here k + 4 * size k ≡ here (k + 1)
      next_at k =
          let more : units (suc k) ≡ units k + size k = refl in
          rw (add-one k) (next_after k (units k) (size k) (units (suc k)) more)
        where
          next_after : (k n m next : ℕ) → next ≡ n + m → x.at + 4 * (words_before (copied_in s x) b + n) + 4 * m ≡ x.at + 4 * (words_before (copied_in s x) b + next)
          next_after k n m next is = omega (arith, is)

  -- the block that stands there has as many units, with the same addresses
  pub as_many : (block : Block) → block ≡ get_or s.code.now.blocks.items b block → length block.units.items ≡ unit_count
  as_many block is = ap (λ (d : Body). length d.units) (body_is s.code.now.blocks.items b block (block_below s x b placed inside) is)

  pub copied_unit : (block : Block) (k at region : ℕ) (old new : List UnitAt) → block ≡ get_or s.code.now.blocks.items b block → at ≡ here k → Gains (IsForm at region (get_or block.units.items k no_unit).at) old new → Gains (CopiedForm (copied_in s x) region b k) old new
  copied_unit block k at region old new is there one =
      let same = body_is s.code.now.blocks.items b block (block_below s x b placed inside) is in
      subst (λ (n : ℕ). Gains (IsForm n region (get_or (body_at s.code.now.blocks.items b).units k no_unit).at) old new) there
      (subst (λ (d : Body). Gains (IsForm at region (get_or d.units k no_unit).at) old new) same one)

  pub held_block : (region : ℕ) (old new : List UnitAt) → Gains (BlockForms (copied_in s x) region b) old new → Gains (HeldForms (copied_in s x) region b) old new
  held_block region old new one =
      gains_same (BlockForms (copied_in s x) region b) (HeldForms (copied_in s x) region b) old new one
      (λ y. (λ form. form.1, λ form. (inside, form)))

-- all blocks of a copy
pub whole_copy : (s : CopySource) (x : PlacedCopy) (region m : ℕ) (old new : List UnitAt) → IsPlacedCopy s x → m ≡ x.range.last + 1 → Gains (Upto m (HeldForms (copied_in s x) region)) old new → Gains (PieceForms (copied_in s x) region) old new
whole_copy s x region m old new placed all one =
    gains_whole m (length s.code.now.blocks.items) (HeldForms (copied_in s x) region) old new
    (λ k y below form. let to = (held k x.range form.0).1 in omega (arith, all, to))
    (λ k y below form. block_below s x k placed form.0) one

pub one_copy : (s : CopySource) (copies : List PlacedCopy) (regions : List ℕ) (n region : ℕ) (x : PlacedCopy) (old new : List UnitAt) → n < length copies → x ≡ get_or copies n x → region ≡ slice_index_or regions n 0 → Gains (PieceForms (copied_in s x) region) old new → Gains (CopyForms s copies regions n) old new
one_copy s copies regions n region x old new below is of one =
    gains_same (PieceForms (copied_in s x) (slice_index_or regions n 0)) (CopyForms s copies regions n) old new
    (subst (λ (r : ℕ). Gains (PieceForms (copied_in s x) r) old new) of one)
    (λ y. (
      λ form.
          let (z, rest) = form in
          let same : z ≡ x = sym rest.0 ∙ get_or_default copies n z x below ∙ sym is in
          subst (λ (w : PlacedCopy). PieceForms (copied_in s w) (slice_index_or regions n 0) y) same rest.1,
      λ form. (x, (sym is, form)),
    ))

-- ---- in stubs

pub one_stub : (stub : ServingStub) (place : ℕ) (old new : List UnitAt) → runs stub.body ≡ true → Gains (IsForm (place + 88) 0 stub.home) old new → Gains (StubForm stub place) old new
one_stub stub place old new is one =
    gains_same (IsForm (place + 88) 0 stub.home) (StubForm stub place) old new one
    (λ x. (λ form. form.1, λ form. (is, form)))

pub stub_there : (stubs : List Stub) (places : List ℕ) (k place : ℕ) (stub : Stub) (old new : List UnitAt) → k < length stubs → stub ≡ get_or stubs k stub → place ≡ slice_index_or places k 0 → Gains (StubForm (serving_stub stub) place) old new → Gains (StubForms (map serving_stub stubs) places k) old new
stub_there stubs places k place stub old new below is at one =
    let same : serving_stub stub ≡ slice_index_or (map serving_stub stubs) k no_stub =
    ap serving_stub is ∙ sym (get_or-map serving_stub stubs k stub no_stub below) in
    subst (λ (n : ℕ). Gains (StubForm (slice_index_or (map serving_stub stubs) k no_stub) n) old new) at
    (subst (λ (t : ServingStub). Gains (StubForm t place) old new) same one)
