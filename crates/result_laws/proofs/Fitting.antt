-- Each job of a choice copies between the scratchpad and an object at home or an image.
use Rattle.std.proofs.Common.{◌≡◌, inl, inr, ℕ, ◌+◌, ◌-◌, ◌%◌, ◌<◌, ◌≤◌, Bool, true, false, List, length, refl, sym, subst, arith}
use Rattle.std.specs.Prelude.{All}
use Rattle.std.proofs.lemmas.Bool.{cases_lt}
use Rattle.elf_reader.specs.File.{PlainView}
use Rattle.board_config.specs.declared.board.Board.{Board}
use Rattle.object_graph.specs.declared.parts.Graph.{Graph}
use Rattle.object_graph.specs.Sites.{no_area}
use Rattle.cell_values.specs.Objects.{object_of}
use Rattle.cell_values.proofs.GraphObjects.{object_extends}
use Rattle.placement_programme.specs.declared.variables.VarName.{VarName}
use Rattle.placement_programme.specs.Plain.{PlainProgramme, PlainChoice}
use Rattle.patch_code.specs.declared.job.CopyJob.{CopyJob}
use Rattle.patch_code.specs.Jobs.{AreDisjoint}
use Rattle.relocator.specs.declared.slots.Slot.{Slot}
use Rattle.relocator.specs.Placing.{puts, placed, chosen_slots}
use Rattle.relocator.specs.Laws.{slot_at, StandsIn}
use Rattle.result_laws.specs.ChosenJobs.{Images, is_overlaid, is_kept, into_slot, back_home, from_image, code_number, entering, leaving}
use Rattle.result_laws.specs.Memories.{IsOfCode, is_moved}
use Rattle.result_laws.specs.SwitchLaws.{CanStart}
use Rattle.result_laws.specs.JobLaws.{HaveBytes, GoesIn, GoesHome}
use Rattle.result_laws.proofs.ListLemmas.{job_at, all_into, leaving_all}
use Rattle.result_laws.proofs.Moved.{IsThere, into_is, image_is, moved_is, homes_all, first_or, second_or}
use Rattle.result_laws.proofs.JobChosen.{own, known, filled, slot_ends, home_outside}

-- ranges with bytes, of which none is in both
pub disjoint_of : (a n b m : ℕ) → 1 ≤ n → 1 ≤ m → ((i j : ℕ) → i < n → j < m → a + i ≡ b + j → ⊥) → AreDisjoint a n b m
disjoint_of a n b m some some_too apart = elim (cases_lt a b) [
  | inl before ↦ elim (cases_lt b (a + n)) [
    | inl within ↦ absurd (apart (b - a) 0 (omega (arith, before, within)) (omega (arith, some_too)) (omega (arith, before)))
    | inr behind ↦ inl behind
  ]
  | inr from ↦ elim (cases_lt a (b + m)) [
    | inl within ↦ absurd (apart 0 (a - b) (omega (arith, some)) (omega (arith, from, within)) (omega (arith, from)))
    | inr behind ↦ inr behind
  ]
]

module _ (v : PlainView) (g : Graph) (regions : ℕ) (board : Board) (p : PlainProgramme) (c : PlainChoice) (images : Images) (can : CanStart v g regions board p c images) where
  abbrev slots : List Slot
  slots = chosen_slots board p c

  spm_ends : board.spm.base + board.spm.size ≤ 4294967295
  spm_ends = (can.laid.lawful.ranges 1 no_area (omega arith)).within

  -- an object at home and in its slot
  module _ (region o k : ℕ) (within : region ≤ regions) (below : k < length slots) (is : puts (slot_at slots k).name region o ≡ true) where
    abbrev at : ℕ
    at = (slot_at slots k).at

    abbrev low : ℕ
    low = (object_of g o).home % g.grain

    st : StandsIn g slots region o (placed g slots region o) k
    st = own v g regions board p c can.laid can.can region o k within below is

    some : 1 ≤ (object_of g o).size
    some = filled v g regions board p c can.laid can.can k region o below is

    inside : at + low + (object_of g o).size ≤ board.spm.base + board.spm.size
    inside =
        let to = (slot_ends v g regions board p c can.laid can.can k below).to in
        let room = st.room in
        omega (arith, to, room)

    from : board.spm.base ≤ at + low
    from = let first = (slot_ends v g regions board p c can.laid can.can k below).from in omega (arith, first)

    apart : (i j : ℕ) → i < (object_of g o).size → j < (object_of g o).size → (object_of g o).home + i ≡ at + low + j → ⊥
    apart i j first second same =
        home_outside v g regions board p c can.laid can.can ((object_of g o).home + i) (o, (i, (first, refl)))
        (at + low + j - board.spm.base, (let base = from in let ends = inside in omega (arith, base, ends, second), (let base = from in omega (arith, same, base))))

    pub object_in : GoesIn board.spm g slots images (into_slot g (slot_at slots k).at o)
    object_in = record {
      is = record {
        some = some;
        source = (object_extends v board g o can.laid.graph.objects).ends;
        target = (let to = inside in let ends = spm_ends in omega (arith, to, ends));
        disjoint = disjoint_of (object_of g o).home (object_of g o).size (at + low) (object_of g o).size some some apart;
      };
      from = from;
      to = inside;
      source = inl (record { o = o; below = known v g regions board p c can.laid can.can k region o below is; from = refl; bytes = refl });
    }

    pub object_home : (object_of g o).writable ≡ true → GoesHome board.spm g (back_home g (slot_at slots k).at o)
    object_home writable = record {
      is = record {
        some = some;
        source = (let to = inside in let ends = spm_ends in omega (arith, to, ends));
        target = (object_extends v board g o can.laid.graph.objects).ends;
        disjoint = disjoint_of (at + low) (object_of g o).size (object_of g o).home (object_of g o).size some some (λ i j first second same. apart j i second first (sym same));
      };
      from = from;
      to = inside;
      o = o;
      below = known v g regions board p c can.laid can.can k region o below is;
      writable = writable;
      target = refl;
      bytes = refl;
    }

  -- a copy of an image
  code_in : HaveBytes slots images → (k : ℕ) → IsOfCode slots k → GoesIn board.spm g slots images (from_image images (code_number slots k) (slot_at slots k).at)
  code_in have k of = record {
    is = record {
      some = some;
      source = have.ends k of;
      target = (let to = inside in let ends = spm_ends in omega (arith, to, ends));
      disjoint = disjoint_of (images.at (code_number slots k)) n (slot_at slots k).at n some some
          (λ i j first second same. can.fitting.off_scratchpad k i ((slot_at slots k).at + j - board.spm.base) of first
          (let base = from in let ends = inside in omega (arith, base, ends, second)) (let base = from in omega (arith, same, base)));
    };
    from = from;
    to = inside;
    source = inr (record { k = k; of = of; from = refl; bytes = refl });
  }
    where
      n : ℕ
      n = images.bytes (code_number slots k)

      some : 1 ≤ n
      some = have.some k of

      from : board.spm.base ≤ (slot_at slots k).at
      from = (slot_ends v g regions board p c can.laid can.can k of.0).from

      inside : (slot_at slots k).at + n ≤ board.spm.base + board.spm.size
      inside =
          let to = (slot_ends v g regions board p c can.laid can.can k of.0).to in
          let most = can.fitting.fit k of in
          omega (arith, to, most)

  -- ---- those of all slots that pass a test

  pub all_in : HaveBytes slots images → (which : VarName → Bool) (region : ℕ) → region ≤ regions → ((name : VarName) → which name ≡ true → IsThere region name) → All (GoesIn board.spm g slots images) (entering which g images 0 slots)
  all_in have which region within there = all_into which g images slots (GoesIn board.spm g slots images) (λ k below passes. each k below (there (slot_at slots k).name passes))
    where
      each : (k : ℕ) → k < length slots → IsThere region (slot_at slots k).name → GoesIn board.spm g slots images (job_at g images (code_number slots k) slots k)
      each k below (inl put) =
          subst (λ (job : CopyJob). GoesIn board.spm g slots images job)
          (sym (into_is g images (code_number slots k) (slot_at slots k).at region (slot_at slots k).name put.0 put.1))
          (object_in region put.0 k within below put.1)
      each k below (inr code) =
          subst (λ (job : CopyJob). GoesIn board.spm g slots images job)
          (sym (image_is g images (code_number slots k) (slot_at slots k).at (slot_at slots k).name code.0))
          (code_in have k (below, code.0))

  -- where there are no twins, all that a region has is moved
  pub overlaid_moved : (region : ℕ) (name : VarName) → is_overlaid region name ≡ true → is_moved false region 0 name ≡ true
  overlaid_moved region name is = first_or (is_overlaid region name) (is_kept region name) false is

  pub kept_moved : (region : ℕ) (name : VarName) → is_kept region name ≡ true → is_moved false region 0 name ≡ true
  kept_moved region name is = second_or (is_overlaid region name) (is_kept region name) false is refl

  pub all_home : (which : VarName → Bool) (region : ℕ) → region ≤ regions → ((name : VarName) → which name ≡ true → is_moved false region 0 name ≡ true) → All (GoesHome board.spm g) (leaving which g slots)
  all_home which region within moved =
      leaving_all which g (GoesHome board.spm g) slots
      (λ k below passes.
      homes_all false region 0 g (GoesHome board.spm g) (slot_at slots k).at (slot_at slots k).name (moved (slot_at slots k).name passes)
      (λ o is writable. object_home region o k within below is writable))

  pub overlaid_in : HaveBytes slots images → (region : ℕ) → region ≤ regions → All (GoesIn board.spm g slots images) (entering (is_overlaid region) g images 0 slots)
  overlaid_in have region within = all_in have (is_overlaid region) region within (λ name is. moved_is false region 0 g name (overlaid_moved region name is))

  pub kept_in : HaveBytes slots images → (region : ℕ) → region ≤ regions → All (GoesIn board.spm g slots images) (entering (is_kept region) g images 0 slots)
  kept_in have region within = all_in have (is_kept region) region within (λ name is. moved_is false region 0 g name (kept_moved region name is))
