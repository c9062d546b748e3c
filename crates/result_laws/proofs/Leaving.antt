-- What the jobs leave that leave a region: at home, each object's bytes are those of its place there.
use Rattle.std.proofs.Common.{◌≡◌, ◌⊎◌, inl, inr, ℕ, ◌+◌, ◌<◌, ◌≤◌, Bool, true, false, List, [], length, refl, sym, ◌∙◌, ap, subst, arith}
use Rattle.std.specs.Prelude.{All}
use Rattle.std.proofs.lemmas.Bool.{cases_Bool}
use Rattle.std.proofs.lemmas.List.Elements.{All-nil}
use Rattle.rv32im.specs.Memory.{Memory}
use Rattle.elf_reader.specs.File.{PlainView}
use Rattle.board_config.specs.declared.board.Board.{Board}
use Rattle.object_graph.specs.declared.parts.Graph.{Graph}
use Rattle.cell_values.specs.Objects.{object_of}
use Rattle.placement_programme.specs.Plain.{PlainProgramme, PlainChoice}
use Rattle.patch_code.specs.declared.job.CopyJob.{CopyJob}
use Rattle.patch_code.specs.Jobs.{all_copied}
use Rattle.relocator.specs.declared.slots.Slot.{Slot}
use Rattle.relocator.specs.Placing.{puts, placed, chosen_slots}
use Rattle.relocator.specs.Laws.{CanLayOut, IsLaidOut, slot_at}
use Rattle.result_laws.specs.ChosenJobs.{back_home}
use Rattle.result_laws.specs.Memories.{is_moved, IsOffHomes}
use Rattle.result_laws.proofs.Phases.{IsWritten, Brings, jobs_bring}
use Rattle.result_laws.proofs.ListLemmas.{homes_at}
use Rattle.result_laws.proofs.Moved.{homes_all, homes_written, none_moved, left_jobs, left_all, left_written}
use Rattle.result_laws.proofs.JobChosen.{AtHome, own, among, object_inside, home_outside, same_home}

-- what leaves `s`: nothing where that is region 0
abbrev pub IsLeft : Bool → ℕ → ℕ → Graph → List Slot → List CopyJob → Type 0
IsLeft twins s r g slots jobs = (jobs ≡ left_jobs twins s r g slots) ⊎ ((s ≡ 0) × (jobs ≡ []))

module _ (v : PlainView) (g : Graph) (regions : ℕ) (board : Board) (p : PlainProgramme) (c : PlainChoice) (laid : IsLaidOut v board g) (can : CanLayOut g regions board p c) where
  abbrev slots : List Slot
  slots = chosen_slots board p c

  module _ (twins : Bool) (s r : ℕ) (within : s ≤ regions) (mem : Memory) (jobs : List CopyJob) (left : IsLeft twins s r g slots jobs) where
    abbrev pub place : ℕ → ℕ
    place o = placed g slots s o

    -- an object's slot in `s` is left
    pub record Leaves (o : ℕ) : Type 0 where
      pub k : ℕ
      pub below : k < length slots
      pub here : puts (slot_at slots k).name s o ≡ true
      pub moved : is_moved twins s r (slot_at slots k).name ≡ true

    all_left : (P : CopyJob → Type 0) → ((k : ℕ) → k < length slots → is_moved twins s r (slot_at slots k).name ≡ true → All P (homes_at g slots k)) → All P jobs
    all_left P each = by left
      where
        by : IsLeft twins s r g slots jobs → All P jobs
        by (inl same) = subst (λ (js : List CopyJob). All P js) (sym same) (left_all twins s r g slots P each)
        by (inr none) = subst (λ (js : List CopyJob). All P js) (sym none.1) (All-nil P)

    written : (a k : ℕ) → k < length slots → is_moved twins s r (slot_at slots k).name ≡ true → IsWritten a (homes_at g slots k) → IsWritten a jobs
    written a k below moved is = by left
      where
        by : IsLeft twins s r g slots jobs → IsWritten a jobs
        by (inl same) = subst (λ (js : List CopyJob). IsWritten a js) (sym same) (left_written twins s r g slots a k below moved is)
        by (inr none) = absurd (none_moved twins s r g regions (slot_at slots k).name none.0 (among v g regions board p c laid can k below) moved)

    -- what is brought to an address
    abbrev BringsAt : ℕ → ℕ → Type 0
    BringsAt a w =
        (k o i : ℕ) → k < length slots → is_moved twins s r (slot_at slots k).name ≡ true → puts (slot_at slots k).name s o ≡ true →
        (object_of g o).writable ≡ true → i < (object_of g o).size → (object_of g o).home + i ≡ a → mem (place o + i) ≡ w

    bring : (a w : ℕ) → BringsAt a w → All (Brings (AtHome g) mem a w) jobs
    bring a w brings = all_left (Brings (AtHome g) mem a w) each
      where
        job_brings : (k o : ℕ) → k < length slots → is_moved twins s r (slot_at slots k).name ≡ true → puts (slot_at slots k).name s o ≡ true → (object_of g o).writable ≡ true → Brings (AtHome g) mem a w (back_home g (slot_at slots k).at o)
        job_brings k o below moved is writable =
            let st = own v g regions board p c laid can s o k within below is in
            record {
              target = λ i inside. (o, (i, (inside, refl)));
              source = λ i inside home.
                  home_outside v g regions board p c laid can (place o + i) (subst (λ (n : ℕ). AtHome g (n + i)) (sym st.there) home)
                  (object_inside v g regions board p c laid can s o k i st inside);
              value = λ i inside same. subst (λ (n : ℕ). mem (n + i) ≡ w) st.there (brings k o i below moved is writable inside same);
            }

        each : (k : ℕ) → k < length slots → is_moved twins s r (slot_at slots k).name ≡ true → All (Brings (AtHome g) mem a w) (homes_at g slots k)
        each k below moved =
            homes_all twins s r g (Brings (AtHome g) mem a w) (slot_at slots k).at (slot_at slots k).name moved
            (λ o is writable. job_brings k o below moved is writable)

    -- no other byte changes
    pub left_elsewhere : (a : ℕ) → IsOffHomes g slots (is_moved twins s r) s a → all_copied mem jobs a ≡ mem a
    left_elsewhere a off =
        jobs_bring (AtHome g) a (mem a) mem jobs
        (bring a (mem a) (λ k o i below moved is writable inside same. absurd (off k o i below moved is writable inside same)))
        (inl refl)

    pub left_off : (a : ℕ) → (AtHome g a → ⊥) → all_copied mem jobs a ≡ mem a
    left_off a off = left_elsewhere a (λ k o i below moved is writable inside same. off (o, (i, (inside, sym same))))

    -- what is left, or has the same bytes at home, has them there then
    pub homed : (o i : ℕ) → i < (object_of g o).size → Leaves o ⊎ (mem ((object_of g o).home + i) ≡ mem (place o + i)) → ((object_of g o).writable ≡ false → mem ((object_of g o).home + i) ≡ mem (place o + i)) → all_copied mem jobs ((object_of g o).home + i) ≡ mem (place o + i)
    homed o i inside known still =
        jobs_bring (AtHome g) ((object_of g o).home + i) (mem (place o + i)) mem jobs
        (bring ((object_of g o).home + i) (mem (place o + i)) brings) (before known)
      where
        brings : BringsAt ((object_of g o).home + i) (mem (place o + i))
        brings k q j below moved is writable inside_too same =
            let one = same_home v g regions board p c laid can q o j i inside_too inside same in
            let there : (object_of g o).home + j ≡ (object_of g o).home + i = subst (λ (n : ℕ). (object_of g n).home + j ≡ (object_of g o).home + i) one same in
            let equal : j ≡ i = omega (arith, there) in
            ap (λ (n : ℕ). mem (place n + j)) one ∙ ap (λ (n : ℕ). mem (place o + n)) equal

        before : Leaves o ⊎ (mem ((object_of g o).home + i) ≡ mem (place o + i)) → (mem ((object_of g o).home + i) ≡ mem (place o + i)) ⊎ IsWritten ((object_of g o).home + i) jobs
        before (inr same) = inl same
        before (inl leaves) =
            elim (cases_Bool (object_of g o).writable) [
              | inl writable ↦
                  let s_at : ℕ = (slot_at slots leaves.k).at in
                  inr (written ((object_of g o).home + i) leaves.k leaves.below leaves.moved
                  (homes_written twins s r g ((object_of g o).home + i) s_at (slot_at slots leaves.k).name o leaves.here writable
                  (record { from = omega arith; to = omega (arith, inside) })))
              | inr not_so ↦ inl (still not_so)
            ]
