-- What the jobs leave that enter a region: each object that is moved has at its place the bytes that it had at home, and
-- each copy those of its image.
use Rattle.std.proofs.Common.{◌≡◌, ◌⊎◌, inl, inr, ℕ, ◌+◌, ◌%◌, ◌<◌, ◌≤◌, Bool, true, List, length, refl, sym, ◌∙◌, ap, subst, arith}
use Rattle.std.specs.Prelude.{All}
use Rattle.std.proofs.lemmas.List.Elements.{All-weaker}
use Rattle.placement_programme.specs.declared.variables.VarName.{VarName}
use Rattle.rv32im.specs.Memory.{Memory}
use Rattle.elf_reader.specs.File.{PlainView}
use Rattle.board_config.specs.declared.board.Board.{Board}
use Rattle.board_config.specs.declared.board.Range.{Range}
use Rattle.object_graph.specs.declared.parts.Graph.{Graph}
use Rattle.cell_values.specs.Objects.{object_of}
use Rattle.placement_programme.specs.Plain.{PlainProgramme, PlainChoice}
use Rattle.patch_code.specs.declared.job.CopyJob.{CopyJob}
use Rattle.patch_code.specs.Jobs.{all_copied}
use Rattle.relocator.specs.declared.slots.Slot.{Slot}
use Rattle.relocator.specs.Placing.{puts, placed, chosen_slots}
use Rattle.relocator.specs.Laws.{CanLayOut, IsLaidOut, IsPresent, slot_at}
use Rattle.result_laws.specs.ChosenJobs.{Images, code_number}
use Rattle.result_laws.specs.Memories.{IsOfCode, AreImages, IsOffSlots}
use Rattle.result_laws.proofs.Phases.{Writes, IsWritten, Brings, jobs_bring}
use Rattle.result_laws.proofs.ListLemmas.{job_at, IsInto, AreInto}
use Rattle.result_laws.proofs.Moved.{IsThere, into_is, image_is}
use Rattle.result_laws.proofs.JobChosen.{InScratchpad, own, slot_inside, object_inside, home_outside, same_place, off_code, same_slot}

-- a byte of a copy is one of its slot
pub inside_slot : (spm : Range) (g : Graph) (slots : List Slot) (images : Images) → AreImages spm g slots images → (k i : ℕ) → IsOfCode slots k → i < images.bytes (code_number slots k) → i < (slot_at slots k).span
inside_slot spm g slots images fitting k i of inside = let most = fitting.fit k of in omega (arith, most, inside)

module _ (v : PlainView) (g : Graph) (regions : ℕ) (board : Board) (p : PlainProgramme) (c : PlainChoice) (laid : IsLaidOut v board g) (can : CanLayOut g regions board p c) where
  abbrev slots : List Slot
  slots = chosen_slots board p c

  module _ (which : VarName → Bool) (r : ℕ) (within : r ≤ regions) (there_is : (name : VarName) → which name ≡ true → IsThere r name) (images : Images) (fitting : AreImages board.spm g slots images) (jobs : List CopyJob) (into : AreInto which g images slots jobs) (mem : Memory) where
    abbrev pub place : ℕ → ℕ
    place o = placed g slots r o

    abbrev pub new : Memory
    new = all_copied mem jobs

    -- an object's slot in `r` is among those that are entered
    pub record Enters (o : ℕ) : Type 0 where
      pub k : ℕ
      pub below : k < length slots
      pub here : puts (slot_at slots k).name r o ≡ true
      pub moved : which (slot_at slots k).name ≡ true

    -- what is brought to an address
    abbrev DataAt : ℕ → ℕ → Type 0
    DataAt a w =
        (k o i : ℕ) → k < length slots → which (slot_at slots k).name ≡ true → puts (slot_at slots k).name r o ≡ true →
        i < (object_of g o).size → place o + i ≡ a → mem ((object_of g o).home + i) ≡ w

    abbrev CodeAt : ℕ → ℕ → Type 0
    CodeAt a w =
        (k i : ℕ) → IsOfCode slots k → which (slot_at slots k).name ≡ true → IsPresent r (slot_at slots k).name →
        i < images.bytes (code_number slots k) → (slot_at slots k).at + i ≡ a → mem (images.at (code_number slots k) + i) ≡ w

    bring : (a w : ℕ) → DataAt a w → CodeAt a w → All (Brings (InScratchpad board) mem a w) jobs
    bring a w data_at code_at =
        All-weaker (IsInto which g images slots) (Brings (InScratchpad board) mem a w)
        (λ job is.
        subst (λ (j : CopyJob). Brings (InScratchpad board) mem a w j) (sym is.is)
        (each is.k is.below is.passes (there_is (slot_at slots is.k).name is.passes)))
        jobs into.are
      where
        each : (k : ℕ) → k < length slots → which (slot_at slots k).name ≡ true → IsThere r (slot_at slots k).name → Brings (InScratchpad board) mem a w (job_at g images (code_number slots k) slots k)
        each k below moved (inl put) =
            let o : ℕ = put.0 in
            let st = own v g regions board p c laid can r o k within below put.1 in
            subst (λ (job : CopyJob). Brings (InScratchpad board) mem a w job) (sym (into_is g images (code_number slots k) (slot_at slots k).at r (slot_at slots k).name o put.1))
            (record {
              target = λ i inside. subst (λ (n : ℕ). InScratchpad board (n + i)) st.there (object_inside v g regions board p c laid can r o k i st inside);
              source = λ i inside spm. home_outside v g regions board p c laid can ((object_of g o).home + i) (o, (i, (inside, refl))) spm;
              value = λ i inside same. data_at k o i below moved put.1 inside (ap (λ (n : ℕ). n + i) st.there ∙ same);
            })
        each k below moved (inr code) =
            subst (λ (job : CopyJob). Brings (InScratchpad board) mem a w job) (sym (image_is g images (code_number slots k) (slot_at slots k).at (slot_at slots k).name code.0))
            (record {
              target = λ i inside. slot_inside v g regions board p c laid can k i below (inside_slot board.spm g slots images fitting k i (below, code.0) inside);
              source = λ i inside spm. fitting.off_scratchpad k i spm.0 (below, code.0) inside spm.1.0 spm.1.1;
              value = λ i inside same. code_at k i (below, code.0) moved code.1 inside same;
            })

    -- no other byte changes
    pub entered_elsewhere : (a : ℕ) → IsOffSlots slots which a → new a ≡ mem a
    entered_elsewhere a off =
        jobs_bring (InScratchpad board) a (mem a) mem jobs
        (bring a (mem a)
        (λ k o i below moved is inside same.
        let st = own v g regions board p c laid can r o k within below is in
        let there = st.there in
        let room = st.room in
        let low : ℕ = (object_of g o).home % g.grain in
        absurd (off k (low + i) below moved (omega (arith, room, inside)) (omega (arith, there, same))))
        (λ k i code moved present inside same. absurd (off k i code.0 moved (inside_slot board.spm g slots images fitting k i code inside) same)))
        (inl refl)

    pub entered_off : (a : ℕ) → (InScratchpad board a → ⊥) → new a ≡ mem a
    entered_off a off =
        entered_elsewhere a (λ k i below moved inside same. off (subst (InScratchpad board) same (slot_inside v g regions board p c laid can k i below inside)))

    -- an object has at its place what it had at home, where it is moved, or had the same there
    pub arrived : (o i : ℕ) → i < (object_of g o).size → Enters o ⊎ (mem (place o + i) ≡ mem ((object_of g o).home + i)) → new (place o + i) ≡ mem ((object_of g o).home + i)
    arrived o i inside known =
        jobs_bring (InScratchpad board) (place o + i) (mem ((object_of g o).home + i)) mem jobs
        (bring (place o + i) (mem ((object_of g o).home + i)) data_at
        (λ k j code moved present inside_too same.
        absurd (off_code v g regions board p c laid can r o k i j code.0 code.1 present inside (inside_slot board.spm g slots images fitting k j code inside_too) (sym same))))
        (before known)
      where
        data_at : DataAt (place o + i) (mem ((object_of g o).home + i))
        data_at k q j below moved is inside_too same =
            let one = same_place v g regions board p c laid can r q o j i inside_too inside same in
            let there : place o + j ≡ place o + i = subst (λ (n : ℕ). place n + j ≡ place o + i) one same in
            let equal : j ≡ i = omega (arith, there) in
            ap (λ (n : ℕ). mem ((object_of g n).home + j)) one ∙ ap (λ (n : ℕ). mem ((object_of g o).home + n)) equal

        before : Enters o ⊎ (mem (place o + i) ≡ mem ((object_of g o).home + i)) → (mem (place o + i) ≡ mem ((object_of g o).home + i)) ⊎ IsWritten (place o + i) jobs
        before (inr same) = inl same
        before (inl enters) =
            let st = own v g regions board p c laid can r o enters.k within enters.below enters.here in
            let there = st.there in
            inr (into.written (place o + i) enters.k enters.below enters.moved
            (subst (λ (job : CopyJob). Writes (place o + i) job) (sym (into_is g images (code_number slots enters.k) (slot_at slots enters.k).at r (slot_at slots enters.k).name o enters.here))
            (record { from = omega (arith, there); to = omega (arith, there, inside) })))

    -- what is moved in no slot of its own keeps its bytes
    pub rested : (o i : ℕ) → i < (object_of g o).size → (Enters o → ⊥) → new (place o + i) ≡ mem (place o + i)
    rested o i inside not_so =
        jobs_bring (InScratchpad board) (place o + i) (mem (place o + i)) mem jobs
        (bring (place o + i) (mem (place o + i))
        (λ k q j below moved is inside_too same.
        let one = same_place v g regions board p c laid can r q o j i inside_too inside same in
        absurd (not_so (record { k = k; below = below; here = subst (λ (n : ℕ). puts (slot_at slots k).name r n ≡ true) one is; moved = moved })))
        (λ k j code moved present inside_too same.
        absurd (off_code v g regions board p c laid can r o k i j code.0 code.1 present inside (inside_slot board.spm g slots images fitting k j code inside_too) (sym same))))
        (inl refl)

    -- a copy is its image, where it is moved, or was so before
    pub copied_code : (k i : ℕ) → IsOfCode slots k → IsPresent r (slot_at slots k).name → i < images.bytes (code_number slots k) → (which (slot_at slots k).name ≡ true) ⊎ (mem ((slot_at slots k).at + i) ≡ mem (images.at (code_number slots k) + i)) → new ((slot_at slots k).at + i) ≡ mem (images.at (code_number slots k) + i)
    copied_code k i code present inside known =
        jobs_bring (InScratchpad board) ((slot_at slots k).at + i) (mem (images.at (code_number slots k) + i)) mem jobs
        (bring ((slot_at slots k).at + i) (mem (images.at (code_number slots k) + i))
        (λ m o j below moved is inside_too same.
        absurd (off_code v g regions board p c laid can r o k j i code.0 code.1 present inside_too (inside_slot board.spm g slots images fitting k i code inside) same))
        code_at)
        (before known)
      where
        code_at : CodeAt ((slot_at slots k).at + i) (mem (images.at (code_number slots k) + i))
        code_at m j other moved present_too inside_too same =
            let one = same_slot v g regions board p c laid can r m k j i other.0 code.0 present_too present (inside_slot board.spm g slots images fitting m j other inside_too) (inside_slot board.spm g slots images fitting k i code inside) same in
            let there : (slot_at slots k).at + j ≡ (slot_at slots k).at + i = subst (λ (n : ℕ). (slot_at slots n).at + j ≡ (slot_at slots k).at + i) one same in
            let equal : j ≡ i = omega (arith, there) in
            ap (λ (n : ℕ). mem (images.at (code_number slots n) + j)) one ∙ ap (λ (n : ℕ). mem (images.at (code_number slots k) + n)) equal

        before : (which (slot_at slots k).name ≡ true) ⊎ (mem ((slot_at slots k).at + i) ≡ mem (images.at (code_number slots k) + i)) → (mem ((slot_at slots k).at + i) ≡ mem (images.at (code_number slots k) + i)) ⊎ IsWritten ((slot_at slots k).at + i) jobs
        before (inr same) = inl same
        before (inl moved) =
            inr (into.written ((slot_at slots k).at + i) k code.0 moved
            (subst (λ (job : CopyJob). Writes ((slot_at slots k).at + i) job) (sym (image_is g images (code_number slots k) (slot_at slots k).at (slot_at slots k).name code.1))
            (record { from = omega arith; to = omega (arith, inside) })))
