-- The jobs of a region take at most the room of the scratchpad.
use Rattle.std.proofs.Common.{◌≡◌, inl, inr, ℕ, suc, ◌+◌, ◌*◌, ◌/◌, ◌<◌, ◌≤◌, Bool, true, false, if◌then◌else◌, List, [], ◌∷◌, ◌++◌, length, refl, sym, ◌∙◌, ap, subst, arith}
use Rattle.std.proofs.lemmas.Bool.{eqb-true}
use Rattle.std.proofs.lemmas.Bool.Decides.{nat_tests}
use Rattle.std.proofs.lemmas.List.Sums.{sum_by-cons, sum_by-append}
use Rattle.object_graph.specs.declared.parts.Graph.{Graph}
use Rattle.cell_values.specs.Objects.{IsGrain}
use Rattle.placement_programme.specs.declared.variables.VarName.{VarName}
use Rattle.placement_programme.specs.declared.variables.VarName.TheVariants.{StaticData, StaticCode, OverlayData, OverlayCode, KeptData}
use Rattle.patch_code.specs.declared.job.CopyJob.{CopyJob}
use Rattle.patch_code.specs.Counts.{span, spans}
use Rattle.relocator.specs.declared.items.Item.{Item}
use Rattle.relocator.specs.Slots.{lane_of, region_lane, pair_lane, pair_of, bytes_in, moved_on, slots_from}
use Rattle.relocator.specs.Laws.{slot_at}
use Rattle.relocator.proofs.GrainLemmas.{IsTimes}
use Rattle.result_laws.specs.ChosenJobs.{Images, is_static, is_overlaid, is_kept, job_into, jobs_home, next_code, entering, leaving, code_number}
use Rattle.result_laws.proofs.ListLemmas.{job_at, homes_at, next_plus}

-- a job's share of a span of whole chunks
pub span_least : (grain bytes at : ℕ) → IsGrain grain → IsTimes grain at → bytes ≤ at → (bytes + 15) / 16 * 16 ≤ at
span_least grain bytes at (inl is) times below = let whole : at ≡ times.0 * 16 = subst (λ (n : ℕ). at ≡ times.0 * n) is times.1 in omega (arith, whole, below)
span_least grain bytes at (inr (inl is)) times below = let whole : at ≡ times.0 * 32 = subst (λ (n : ℕ). at ≡ times.0 * n) is times.1 in omega (arith, whole, below)
span_least grain bytes at (inr (inr is)) times below = let whole : at ≡ times.0 * 64 = subst (λ (n : ℕ). at ≡ times.0 * n) is times.1 in omega (arith, whole, below)

one_span : (job : CopyJob) → spans (job ∷ []) ≡ span job
one_span job = sum_by-cons span job [] ∙ omega arith

-- the first item of a lane's
own_bytes : (i : Item) (is : List Item) (lane : ℕ) → lane_of i.name ≡ lane → bytes_in lane (i ∷ is) ≡ i.span + bytes_in lane is
own_bytes i is lane same = grind (arith, nat_tests, same)

other_bytes : (i : Item) (is : List Item) (lane : ℕ) → bytes_in lane is ≤ bytes_in lane (i ∷ is)
other_bytes i is lane = grind (arith, nat_tests)

module _ (which : VarName → Bool) (lane : ℕ) (lanes : (name : VarName) → which name ≡ true → lane_of name ≡ lane) (g : Graph) where
  -- what stands first, and what stands behind it
  joined : (i : Item) (is : List Item) (xs ys : List CopyJob) (b : Bool) → which i.name ≡ b → (b ≡ true → spans xs ≤ i.span) → spans ys ≤ bytes_in lane is → spans ((if b then xs else []) ++ ys) ≤ bytes_in lane (i ∷ is)
  joined i is xs ys true passes first rest =
      let whole = sum_by-append span xs ys in
      let own = own_bytes i is lane (lanes i.name passes) in
      let here = first refl in
      omega (arith, whole, own, here, rest)
  joined i is xs ys false passes first rest = let other = other_bytes i is lane in omega (arith, other, rest)

  pub entering_span : (images : Images) (next : ℕ → ℕ) (n : ℕ) (items : List Item) → ((k : ℕ) → k < length (slots_from next items) → which (slot_at (slots_from next items) k).name ≡ true → span (job_at g images (n + code_number (slots_from next items) k) (slots_from next items) k) ≤ (slot_at (slots_from next items) k).span) → spans (entering which g images n (slots_from next items)) ≤ bytes_in lane items
  entering_span images next n [] each = omega arith
  entering_span images next n (i ∷ is) each =
      joined i is (job ∷ []) (entering which g images (next_code i.name n) (slots_from (moved_on next i) is)) (which i.name) refl
      (λ passes.
      let alone = one_span job in
      let least : span job ≤ i.span = subst (λ (m : ℕ). span (job_into g images m (next (lane_of i.name)) i.name) ≤ i.span) (omega arith) (each 0 (omega arith) passes) in
      omega (arith, alone, least))
      (entering_span images (moved_on next i) (next_code i.name n) is
      (λ k below passes.
      subst (λ (m : ℕ). span (job_at g images m (slots_from (moved_on next i) is) k) ≤ (slot_at (slots_from (moved_on next i) is) k).span)
      (sym (next_plus i.name n (code_number (slots_from (moved_on next i) is) k)))
      (each (suc k) (omega (arith, below)) passes)))
    where
      job : CopyJob
      job = job_into g images n (next (lane_of i.name)) i.name

  pub leaving_span : (next : ℕ → ℕ) (items : List Item) → ((k : ℕ) → k < length (slots_from next items) → which (slot_at (slots_from next items) k).name ≡ true → spans (homes_at g (slots_from next items) k) ≤ (slot_at (slots_from next items) k).span) → spans (leaving which g (slots_from next items)) ≤ bytes_in lane items
  leaving_span next [] each = omega arith
  leaving_span next (i ∷ is) each =
      joined i is (jobs_home g (next (lane_of i.name)) i.name) (leaving which g (slots_from (moved_on next i) is)) (which i.name) refl
      (λ passes. each 0 (omega arith) passes)
      (leaving_span (moved_on next i) is (λ k below passes. each (suc k) (omega (arith, below)) passes))

-- ---- lanes

pub static_lane : (name : VarName) → is_static name ≡ true → lane_of name ≡ 0
static_lane (StaticData object) is = refl
static_lane (StaticCode first last) is = refl
static_lane (OverlayData own object) is = absurd (cc)
static_lane (OverlayCode own first last) is = absurd (cc)
static_lane (KeptData pair object) is = absurd (cc)

pub overlaid_lane : (region : ℕ) (name : VarName) → is_overlaid region name ≡ true → lane_of name ≡ region_lane region
overlaid_lane region (StaticData object) is = absurd (cc)
overlaid_lane region (StaticCode first last) is = absurd (cc)
overlaid_lane region (OverlayData own object) is = ap region_lane (eqb-true own region is)
overlaid_lane region (OverlayCode own first last) is = ap region_lane (eqb-true own region is)
overlaid_lane region (KeptData pair object) is = absurd (cc)

pub kept_lane : (region : ℕ) (name : VarName) → is_kept region name ≡ true → lane_of name ≡ pair_lane (pair_of region)
kept_lane region (StaticData object) is = absurd (cc)
kept_lane region (StaticCode first last) is = absurd (cc)
kept_lane region (OverlayData own object) is = absurd (cc)
kept_lane region (OverlayCode own first last) is = absurd (cc)
kept_lane region (KeptData pair object) is = ap pair_lane (sym (eqb-true (pair_of region) pair is))
