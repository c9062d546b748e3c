-- What a switch moves, by name: the jobs of what it moves, and what stays in both regions.
use Rattle.std.proofs.Common.{◌≡◌, ◌⊎◌, inl, inr, ℕ, ◌<◌, ◌≤◌, ◌==◌, Bool, true, false, not, ◌&&◌, ◌||◌, if◌then◌else◌, List, [], ◌∷◌, ◌++◌, length, refl, sym, ◌∙◌, ap, subst, arith}
use Rattle.std.specs.Prelude.{All}
use Rattle.std.proofs.lemmas.Bool.{cond_both, cases_Bool, eqb-true}
use Rattle.std.proofs.lemmas.Bool.Decides.{nat_tests}
use Rattle.std.proofs.lemmas.List.Elements.{All-nil, All-cons, All-append}
use Rattle.std.proofs.lemmas.List.Sums.{sum_by-cons}
use Rattle.list_checks.proofs.TestLemmas.{both}
use Rattle.object_graph.specs.declared.parts.Graph.{Graph}
use Rattle.cell_values.specs.Objects.{object_of}
use Rattle.placement_programme.specs.declared.variables.VarName.{VarName}
use Rattle.placement_programme.specs.declared.variables.VarName.TheVariants.{StaticData, StaticCode, OverlayData, OverlayCode, KeptData}
use Rattle.patch_code.specs.declared.job.CopyJob.{CopyJob}
use Rattle.patch_code.specs.Counts.{span, spans}
use Rattle.relocator.specs.declared.slots.Slot.{Slot}
use Rattle.relocator.specs.Slots.{pair_of, is_code}
use Rattle.relocator.specs.Placing.{puts}
use Rattle.relocator.specs.Laws.{IsPresent, slot_at}
use Rattle.relocator.proofs.WeightLemmas.{IsAmong}
use Rattle.result_laws.specs.ChosenJobs.{Images, is_static, is_overlaid, is_kept, into_slot, back_home, from_image, home_jobs, job_into, jobs_home, entering, leaving}
use Rattle.result_laws.specs.Memories.{stays, is_moved}
use Rattle.result_laws.proofs.Phases.{Writes, IsWritten, written_left, written_right}
use Rattle.result_laws.proofs.ListLemmas.{homes_at, leaving_all, leaving_written, IsInto, AreInto, all_into, written_into}

-- ---- truth values

pub first_or : (a b c : Bool) → a ≡ true → a || (b && not c) ≡ true
first_or a b c is = grind (arith, is)

pub second_or : (a b c : Bool) → b ≡ true → c ≡ false → a || (b && not c) ≡ true
second_or a b c is not_so = grind (arith, is, not_so)

either_or : (a b c : Bool) → a || (b && not c) ≡ true → (a ≡ true) ⊎ ((b ≡ true) × (c ≡ false))
either_or true b c is = inl refl
either_or false true true is = cc
either_or false true false is = inr (refl, refl)
either_or false false c is = cc

same_is : (o : ℕ) → (o == o) ≡ true
same_is o = grind (arith, nat_tests)

both_are : (a b : Bool) → a ≡ true → b ≡ true → a && b ≡ true
both_are a b one other = grind (arith, one, other)

stays_too : (twins : Bool) (x y : ℕ) → stays twins x y ≡ stays twins y x
stays_too twins x y = grind (arith, nat_tests)

-- ---- jobs by name

-- a name is of an object that it puts into a region, or of code that is present there
abbrev pub IsThere : ℕ → VarName → Type 0
IsThere region name = ((o : ℕ) × (puts name region o ≡ true)) ⊎ ((is_code name ≡ true) × IsPresent region name)

pub static_is : (name : VarName) → is_static name ≡ true → IsThere 0 name
static_is (StaticData object) static = inl (object, same_is object)
static_is (StaticCode first last) static = inr (refl, tt)
static_is (OverlayData own object) static = absurd (cc)
static_is (OverlayCode own first last) static = absurd (cc)
static_is (KeptData pair object) static = absurd (cc)

-- the jobs home of what is there take as much as one of its object, or nothing
home_span : (g : Graph) (at room o : ℕ) (b : Bool) → span (back_home g at o) ≤ room → spans (if b then back_home g at o ∷ [] else []) ≤ room
home_span g at room o true least = let alone = sum_by-cons span (back_home g at o) [] in omega (arith, alone, least)
home_span g at room o false least = omega arith

pub homes_span : (region : ℕ) (g : Graph) (at room : ℕ) (name : VarName) → IsThere region name → ((o : ℕ) → puts name region o ≡ true → span (back_home g at o) ≤ room) → spans (jobs_home g at name) ≤ room
homes_span region g at room (StaticData object) there least = home_span g at room object (object_of g object).writable (least object (same_is object))
homes_span region g at room (StaticCode first last) there least = omega arith
homes_span region g at room (OverlayData own object) (inl put) least =
    home_span g at room object (object_of g object).writable
    (least object (both_are (object == object) (own == region) (same_is object) (both (object == put.0) (own == region) put.1).1))
homes_span region g at room (OverlayData own object) (inr code) least = absurd (cc (code.0))
homes_span region g at room (OverlayCode own first last) there least = omega arith
homes_span region g at room (KeptData pair object) (inl put) least =
    home_span g at room object (object_of g object).writable
    (least object (both_are (object == object) (pair_of region == pair) (same_is object) (both (object == put.0) (pair_of region == pair) put.1).1))
homes_span region g at room (KeptData pair object) (inr code) least = absurd (cc (code.0))

-- in region 0 there is nothing else
pub static_data_is : (regions : ℕ) (name : VarName) (o : ℕ) → IsAmong regions name → puts name 0 o ≡ true → is_static name ≡ true
static_data_is regions (StaticData object) o among is = refl
static_data_is regions (StaticCode first last) o among is = refl
static_data_is regions (OverlayData own object) o among is =
    let same = eqb-true own 0 (both (object == o) (own == 0) is).1 in
    absurd (omega (arith, same, among.0))
static_data_is regions (OverlayCode own first last) o among is = absurd (cc)
static_data_is regions (KeptData pair object) o among is =
    let same = eqb-true (pair_of 0) pair (both (object == o) (pair_of 0 == pair) is).1 in
    absurd (omega (arith, same, among.0))

pub static_code_is : (regions : ℕ) (name : VarName) → IsAmong regions name → is_code name ≡ true → IsPresent 0 name → is_static name ≡ true
static_code_is regions (StaticData object) among code present = refl
static_code_is regions (StaticCode first last) among code present = refl
static_code_is regions (OverlayData own object) among code present = absurd (cc)
static_code_is regions (OverlayCode own first last) among code present = absurd (omega (arith, among.0, present))
static_code_is regions (KeptData pair object) among code present = absurd (cc)

module _ (g : Graph) where
  pub into_is : (images : Images) (n at region : ℕ) (name : VarName) (o : ℕ) → puts name region o ≡ true → job_into g images n at name ≡ into_slot g at o
  into_is images n at region (StaticData object) o is = ap (λ (k : ℕ). into_slot g at k) (eqb-true object o is)
  into_is images n at region (StaticCode first last) o is = absurd (cc)
  into_is images n at region (OverlayData own object) o is = ap (λ (k : ℕ). into_slot g at k) (eqb-true object o (both (object == o) (own == region) is).0)
  into_is images n at region (OverlayCode own first last) o is = absurd (cc)
  into_is images n at region (KeptData pair object) o is = ap (λ (k : ℕ). into_slot g at k) (eqb-true object o (both (object == o) (pair_of region == pair) is).0)

  pub image_is : (images : Images) (n at : ℕ) (name : VarName) → is_code name ≡ true → job_into g images n at name ≡ from_image images n at
  image_is images n at (StaticData object) is = absurd (cc)
  image_is images n at (StaticCode first last) is = refl
  image_is images n at (OverlayData own object) is = absurd (cc)
  image_is images n at (OverlayCode own first last) is = refl
  image_is images n at (KeptData pair object) is = absurd (cc)

module _ (twins : Bool) (x y : ℕ) (g : Graph) where
  pub homes_all : (P : CopyJob → Type 0) (at : ℕ) (name : VarName) → is_moved twins x y name ≡ true → ((o : ℕ) → puts name x o ≡ true → (object_of g o).writable ≡ true → P (back_home g at o)) → All P (jobs_home g at name)
  homes_all P at (StaticData o) moved each = absurd (cc)
  homes_all P at (StaticCode a b) moved each = absurd (cc)
  homes_all P at (OverlayData own o) moved each =
      elim (either_or (own == x) false (stays twins x y) moved) [
        | inl here ↦
            cond_both (object_of g o).writable (back_home g at o ∷ []) [] (λ jobs. All P jobs)
            (λ yes. All-cons P (back_home g at o) [] (each o (both_are (o == o) (own == x) (same_is o) here) yes) (All-nil P)) (λ not_so. All-nil P)
        | inr kept ↦ absurd (cc (kept.0))
      ]
  homes_all P at (OverlayCode own a b) moved each = All-nil P
  homes_all P at (KeptData pair o) moved each =
      elim (either_or false (pair_of x == pair) (stays twins x y) moved) [
        | inl overlaid ↦ absurd (cc (overlaid))
        | inr kept ↦
            cond_both (object_of g o).writable (back_home g at o ∷ []) [] (λ jobs. All P jobs)
            (λ yes. All-cons P (back_home g at o) [] (each o (both_are (o == o) (pair_of x == pair) (same_is o) kept.0) yes) (All-nil P)) (λ not_so. All-nil P)
      ]

  home_written : (a at object o : ℕ) → object ≡ o → (object_of g o).writable ≡ true → Writes a (back_home g at o) → IsWritten a (home_jobs g at object)
  home_written a at object o same writable writes =
      subst (λ (n : ℕ). IsWritten a (home_jobs g at n)) (sym same)
      (subst (λ (b : Bool). IsWritten a (if b then back_home g at o ∷ [] else [])) (sym writable) (inl writes))

  pub homes_written : (a at : ℕ) (name : VarName) (o : ℕ) → puts name x o ≡ true → (object_of g o).writable ≡ true → Writes a (back_home g at o) → IsWritten a (jobs_home g at name)
  homes_written a at (StaticData object) o is writable writes = home_written a at object o (eqb-true object o is) writable writes
  homes_written a at (StaticCode first last) o is writable writes = absurd (cc)
  homes_written a at (OverlayData own object) o is writable writes = home_written a at object o (eqb-true object o (both (object == o) (own == x) is).0) writable writes
  homes_written a at (OverlayCode own first last) o is writable writes = absurd (cc)
  homes_written a at (KeptData pair object) o is writable writes = home_written a at object o (eqb-true object o (both (object == o) (pair_of x == pair) is).0) writable writes

  -- what is moved is present
  pub moved_is : (name : VarName) → is_moved twins x y name ≡ true → IsThere x name
  moved_is (StaticData object) moved = absurd (cc)
  moved_is (StaticCode first last) moved = absurd (cc)
  moved_is (OverlayData own object) moved = elim (either_or (own == x) false (stays twins x y) moved) [
    | inl here ↦ inl (object, both_are (object == object) (own == x) (same_is object) here)
    | inr kept ↦ absurd (cc (kept.0))
  ]
  moved_is (OverlayCode own first last) moved = elim (either_or (own == x) false (stays twins x y) moved) [
    | inl here ↦ inr (refl, eqb-true own x here)
    | inr kept ↦ absurd (cc (kept.0))
  ]
  moved_is (KeptData pair object) moved = elim (either_or false (pair_of x == pair) (stays twins x y) moved) [
    | inl overlaid ↦ absurd (cc (overlaid))
    | inr kept ↦ inl (object, both_are (object == object) (pair_of x == pair) (same_is object) kept.0)
  ]

  -- code that is present and no static one is moved
  pub code_moved : (name : VarName) → is_code name ≡ true → IsPresent x name → (is_moved twins x y name ≡ true) ⊎ IsPresent y name
  code_moved (StaticData object) code present = absurd (cc)
  code_moved (StaticCode first last) code present = inr tt
  code_moved (OverlayData own object) code present = absurd (cc)
  code_moved (OverlayCode own first last) code present = inl (first_or (own == x) false (stays twins x y) (subst (λ (n : ℕ). (own == n) ≡ true) present (same_is own)))
  code_moved (KeptData pair object) code present = absurd (cc)

  -- nothing is moved in region 0
  pub none_moved : (regions : ℕ) (name : VarName) → x ≡ 0 → IsAmong regions name → is_moved twins x y name ≡ true → ⊥
  none_moved regions (StaticData object) start among moved = absurd (cc)
  none_moved regions (StaticCode first last) start among moved = absurd (cc)
  none_moved regions (OverlayData own object) start among moved = elim (either_or (own == x) false (stays twins x y) moved) [
    | inl here ↦ let same = eqb-true own x here in omega (arith, same, start, among.0)
    | inr kept ↦ absurd (cc (kept.0))
  ]
  none_moved regions (OverlayCode own first last) start among moved = elim (either_or (own == x) false (stays twins x y) moved) [
    | inl here ↦ let same = eqb-true own x here in omega (arith, same, start, among.0)
    | inr kept ↦ absurd (cc (kept.0))
  ]
  none_moved regions (KeptData pair object) start among moved = elim (either_or false (pair_of x == pair) (stays twins x y) moved) [
    | inl overlaid ↦ absurd (cc (overlaid))
    | inr kept ↦ let same = eqb-true (pair_of x) pair kept.0 in omega (arith, same, start, among.0)
  ]

-- ---- what stays

-- an object's variable puts it into both regions, and is moved in neither
pub record Rests (twins : Bool) (x y o : ℕ) (name : VarName) : Type 0 where
  pub here : puts name x o ≡ true
  pub there : puts name y o ≡ true
  pub kept_here : is_moved twins x y name ≡ false
  pub kept_there : is_moved twins y x name ≡ false

pub turned : (twins : Bool) (x y o : ℕ) (name : VarName) → Rests twins x y o name → Rests twins y x o name
turned twins x y o name is = record { here = is.there; there = is.here; kept_here = is.kept_there; kept_there = is.kept_here }

pub moved_or_rests : (twins : Bool) (x y o : ℕ) (name : VarName) → puts name x o ≡ true → (is_moved twins x y name ≡ true) ⊎ Rests twins x y o name
moved_or_rests twins x y o (StaticData object) is = inr (record { here = is; there = is; kept_here = refl; kept_there = refl })
moved_or_rests twins x y o (StaticCode first last) is = absurd (cc)
moved_or_rests twins x y o (OverlayData own object) is = inl (first_or (own == x) false (stays twins x y) (both (object == o) (own == x) is).1)
moved_or_rests twins x y o (OverlayCode own first last) is = absurd (cc)
moved_or_rests twins x y o (KeptData pair object) is =
    elim (cases_Bool (stays twins x y)) [
      | inl stay ↦
          let pairs = eqb-true (pair_of x) (pair_of y) (both twins (pair_of x == pair_of y) stay).1 in
          inr (record {
            here = is;
            there = subst (λ (k : ℕ). (object == o) && (k == pair) ≡ true) pairs is;
            kept_here = never (pair_of x == pair) (stays twins x y) stay;
            kept_there = never (pair_of y == pair) (stays twins y x) (stays_too twins y x ∙ stay);
          })
      | inr goes ↦ inl (second_or false (pair_of x == pair) (stays twins x y) parts.1 goes)
    ]
  where
    parts : ((object == o) ≡ true) × ((pair_of x == pair) ≡ true)
    parts = both (object == o) (pair_of x == pair) is

    never : (b c : Bool) → c ≡ true → false || (b && not c) ≡ false
    never b c is = grind (arith, is)

-- ---- the jobs of both parts

abbrev pub left_jobs : Bool → ℕ → ℕ → Graph → List Slot → List CopyJob
left_jobs twins x y g slots = leaving (is_overlaid x) g slots ++ (if stays twins x y then [] else leaving (is_kept x) g slots)

abbrev pub entered_jobs : Bool → ℕ → ℕ → Graph → Images → List Slot → List CopyJob
entered_jobs twins x y g images slots = entering (is_overlaid x) g images 0 slots ++ (if stays twins x y then [] else entering (is_kept x) g images 0 slots)

module _ (twins : Bool) (x y : ℕ) (g : Graph) (slots : List Slot) where
  pub left_all : (P : CopyJob → Type 0) → ((k : ℕ) → k < length slots → is_moved twins x y (slot_at slots k).name ≡ true → All P (homes_at g slots k)) → All P (left_jobs twins x y g slots)
  left_all P each =
      All-append P (leaving (is_overlaid x) g slots) (if stays twins x y then [] else leaving (is_kept x) g slots)
      (leaving_all (is_overlaid x) g P slots
      (λ k below is. each k below (first_or (is_overlaid x (slot_at slots k).name) (is_kept x (slot_at slots k).name) (stays twins x y) is)))
      (cond_both (stays twins x y) [] (leaving (is_kept x) g slots) (λ jobs. All P jobs) (λ stay. All-nil P)
      (λ goes. leaving_all (is_kept x) g P slots
      (λ k below is. each k below (second_or (is_overlaid x (slot_at slots k).name) (is_kept x (slot_at slots k).name) (stays twins x y) is goes))))

  pub left_written : (a k : ℕ) → k < length slots → is_moved twins x y (slot_at slots k).name ≡ true → IsWritten a (homes_at g slots k) → IsWritten a (left_jobs twins x y g slots)
  left_written a k below moved written =
      elim (either_or (is_overlaid x (slot_at slots k).name) (is_kept x (slot_at slots k).name) (stays twins x y) moved) [
        | inl overlaid ↦
            written_left a (leaving (is_overlaid x) g slots) (if stays twins x y then [] else leaving (is_kept x) g slots)
            (leaving_written (is_overlaid x) g a slots k below overlaid written)
        | inr kept ↦
            written_right a (leaving (is_overlaid x) g slots) (if stays twins x y then [] else leaving (is_kept x) g slots)
            (subst (λ (b : Bool). IsWritten a (if b then [] else leaving (is_kept x) g slots)) (sym kept.1)
            (leaving_written (is_kept x) g a slots k below kept.0 written))
      ]

  pub entered_into : (images : Images) → AreInto (is_moved twins x y) g images slots (entered_jobs twins x y g images slots)
  entered_into images = record {
    are =
        All-append Into (entering (is_overlaid x) g images 0 slots) (if stays twins x y then [] else entering (is_kept x) g images 0 slots)
        (all_into (is_overlaid x) g images slots Into
        (λ k below is. record { k = k; below = below; passes = first_or (is_overlaid x (slot_at slots k).name) (is_kept x (slot_at slots k).name) (stays twins x y) is; is = refl }))
        (cond_both (stays twins x y) [] (entering (is_kept x) g images 0 slots) (λ jobs. All Into jobs) (λ stay. All-nil Into)
        (λ goes. all_into (is_kept x) g images slots Into
        (λ k below is. record { k = k; below = below; passes = second_or (is_overlaid x (slot_at slots k).name) (is_kept x (slot_at slots k).name) (stays twins x y) is goes; is = refl })));
    written = λ a k below moved writes. elim (either_or (is_overlaid x (slot_at slots k).name) (is_kept x (slot_at slots k).name) (stays twins x y) moved) [
      | inl overlaid ↦
          written_left a (entering (is_overlaid x) g images 0 slots) (if stays twins x y then [] else entering (is_kept x) g images 0 slots)
          (written_into (is_overlaid x) g images slots a k below overlaid writes)
      | inr kept ↦
          written_right a (entering (is_overlaid x) g images 0 slots) (if stays twins x y then [] else entering (is_kept x) g images 0 slots)
          (subst (λ (b : Bool). IsWritten a (if b then [] else entering (is_kept x) g images 0 slots)) (sym kept.1)
          (written_into (is_kept x) g images slots a k below kept.0 writes))
    ];
  }
    where
      Into : CopyJob → Type 0
      Into = λ job. IsInto (is_moved twins x y) g images slots job
