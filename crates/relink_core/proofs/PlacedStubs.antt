-- The stubs of a plan that serve blocks in order, one behind the other, are those that a result has.
use Rattle.std.proofs.Common.{◌≡◌, ℕ, zero, suc, ◌+◌, ◌<◌, List, [], ◌∷◌, map, length, get_or, refl, sym, ap, subst, arith}
use Rattle.std.specs.List.Sorted.{IsStrictlyIncreasing}
use Rattle.std.proofs.lemmas.List.{get_or_default}
use Rattle.list_checks.specs.Sorted.{collected}
use Rattle.object_graph.specs.declared.parts.Graph.{Graph}
use Rattle.code_blocks.specs.Blocks.{IsCode}
use Rattle.code_blocks.specs.Numbers.{start_at}
use Rattle.code_blocks.specs.declared.parts.Code.{Code}
use Rattle.block_splitter.proofs.CopySizeLemmas.{collected_at}
use Rattle.elf_reader.specs.File.{PlainView}
use Rattle.patch_code.specs.Serving.{ServingStub, jumps_to, serving_home, serving_size, served_before}
use Rattle.patch_code.specs.Overlay.{OverlayPlan, serving_at}
use Rattle.patch_code.proofs.Order.{Ascend, ascend_from, first_below, later_below, ascend_behind}
use Rattle.result_laws.specs.ChosenPlacement.{ChosenPlacement}
use Rattle.result_laws.specs.PlacedView.{is_served, Serves, AreStubsOf}
use Rattle.relink_core.specs.Serving.{served_blocks, AreStubsFrom}
use Rattle.relink_core.proofs.BlockOrder.{collected_are, starts_ascend}

-- there is one for each block
stubs_many : (c : Code) (g : Graph) (pl : ChosenPlacement) (at : ℕ) (bs : List ℕ) (stubs : List ServingStub) → AreStubsFrom c g pl at bs stubs → length bs ≡ length stubs
stubs_many c g pl at [] [] are = refl
stubs_many c g pl at [] (stub ∷ stubs) are = absurd are
stubs_many c g pl at (b ∷ bs) [] are = absurd are
stubs_many c g pl at (b ∷ bs) (stub ∷ stubs) are = ap suc (stubs_many c g pl (at + serving_size stub) bs stubs are.1)

-- whose home is where the block begins
pub stubs_homes : (c : Code) (g : Graph) (pl : ChosenPlacement) (at : ℕ) (bs : List ℕ) (stubs : List ServingStub) → AreStubsFrom c g pl at bs stubs → map serving_home stubs ≡ map (start_at c) bs
stubs_homes c g pl at [] [] are = refl
stubs_homes c g pl at [] (stub ∷ stubs) are = absurd are
stubs_homes c g pl at (b ∷ bs) [] are = absurd are
stubs_homes c g pl at (b ∷ bs) (stub ∷ stubs) are =
    let home = are.0.home in
    let rest = stubs_homes c g pl (at + serving_size stub) bs stubs are.1 in
    λ i. home i ∷ rest i

-- where homes ascend, each stands behind those of lower homes
stub_serves : (c : Code) (g : Graph) (pl : ChosenPlacement) (at : ℕ) (bs : List ℕ) (stubs : List ServingStub) (k e : ℕ) (d : ServingStub) → Ascend serving_home serving_size stubs → AreStubsFrom c g pl at bs stubs → k < length stubs
    → Serves c g pl (at + served_before (get_or stubs k d).home stubs + 88) (get_or bs k e) (get_or stubs k d)
stub_serves c g pl at bs [] k e d rise are below = absurd (omega (arith, below))
stub_serves c g pl at [] (stub ∷ stubs) k e d rise are below = absurd are
stub_serves c g pl at (b ∷ bs) (stub ∷ stubs) zero e d rise are below =
    let none = first_below serving_home serving_size stub stubs rise in
    let place : at + 88 ≡ at + served_before stub.home (stub ∷ stubs) + 88 = omega (arith, none) in
    subst (λ (x : ℕ). Serves c g pl x b stub) place are.0
stub_serves c g pl at (b ∷ bs) (stub ∷ stubs) (suc k) e d rise are below =
    let other : ServingStub = get_or stubs k d in
    let inside : k < length stubs = omega (arith, below) in
    let later = later_below serving_home serving_size stub stubs k d rise inside in
    let place : at + serving_size stub + served_before other.home stubs + 88 ≡ at + served_before other.home (stub ∷ stubs) + 88 = omega (arith, later) in
    subst (λ (x : ℕ). Serves c g pl x (get_or bs k e) other) place
    (stub_serves c g pl (at + serving_size stub) bs stubs k e d (ascend_behind serving_home serving_size stub stubs rise) are.1 inside)

abbrev no_serving : ServingStub
no_serving = record { home = 0; temp = 0; region = 0; body = jumps_to 0 }

module _ (v : PlainView) (c : Code) (g : Graph) (pl : ChosenPlacement) (plan : OverlayPlan) (code : IsCode v c) (are : AreStubsFrom c g pl (serving_at plan) (served_blocks c pl) plan.stubs) where
  -- homes ascend
  pub served_rise : IsStrictlyIncreasing (map serving_home plan.stubs)
  served_rise =
      subst IsStrictlyIncreasing (sym (stubs_homes c g pl (serving_at plan) (served_blocks c pl) plan.stubs are)) (starts_ascend c (is_served c pl) code.ascending)

  many : length (served_blocks c pl) ≡ length plan.stubs
  many = stubs_many c g pl (serving_at plan) (served_blocks c pl) plan.stubs are

  serves : (k : ℕ) (d : ServingStub) → k < length plan.stubs → Serves c g pl (serving_at plan + served_before (get_or plan.stubs k d).home plan.stubs + 88) (get_or (served_blocks c pl) k 0) (get_or plan.stubs k d)
  serves k d below =
      stub_serves c g pl (serving_at plan) (served_blocks c pl) plan.stubs k 0 d (ascend_from serving_home serving_size plan.stubs served_rise) are below

  -- so the stubs are just those that serve blocks
  pub stubs_of : AreStubsOf c g pl plan
  stubs_of =
      let total = length c.blocks.items in
      let kept = collected_are (is_served c pl) total in
      let count = many in
      record {
        each = λ b below served.
            let at = collected_at (is_served c pl) (λ k. k) total b served below in
            let k = length (collected (is_served c pl) (λ k. k) b) in
            let there = at.below in
            let inside : k < length plan.stubs = omega (arith, there, count) in
            let stub = get_or plan.stubs k no_serving in
            record {
              stub = stub;
              listed = (k, inside, get_or_default plan.stubs k stub no_serving inside);
              serves = subst (λ (n : ℕ). Serves c g pl (serving_at plan + served_before stub.home plan.stubs + 88) n stub) (at.is 0) (serves k no_serving inside);
            };
        only = λ k d below.
            let there : k < length (served_blocks c pl) = omega (arith, below, count) in
            record {
              block = get_or (served_blocks c pl) k 0;
              below = kept.below k 0 there;
              served = kept.pass k 0 there;
              serves = serves k d below;
            };
      }
