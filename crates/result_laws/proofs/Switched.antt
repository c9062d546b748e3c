-- A switch moves each object to its place in the region that is entered, and that region is current then.
use Rattle.std.proofs.Common.{◌≡◌, ◌⊎◌, inl, inr, ℕ, ◌+◌, ◌%◌, ◌<◌, ◌≤◌, Bool, true, false, List, length, refl, sym, ◌∙◌, ap, subst, arith}
use Rattle.rv32im.specs.Memory.{Memory}
use Rattle.elf_reader.specs.File.{PlainView}
use Rattle.board_config.specs.declared.board.Board.{Board}
use Rattle.object_graph.specs.declared.parts.Graph.{Graph}
use Rattle.cell_values.specs.Objects.{object_of}
use Rattle.placement_programme.specs.Plain.{PlainProgramme, PlainChoice}
use Rattle.patch_code.specs.declared.job.CopyJob.{CopyJob}
use Rattle.patch_code.specs.Jobs.{all_copied}
use Rattle.patch_code.proofs.ByteLemmas.{in_order}
use Rattle.patch_code.specs.Parts.{SwitchPlan}
use Rattle.patch_code.specs.Switching.{switch_jobs}
use Rattle.patch_code.specs.Counts.{side_jobs}
use Rattle.relocator.specs.declared.slots.Slot.{Slot}
use Rattle.relocator.specs.Placing.{placed, chosen_slots}
use Rattle.relocator.specs.Laws.{CanLayOut, IsLaidOut, IsPresent, slot_at, StandsIn, StandsAtHome}
use Rattle.relocator.proofs.StandLemmas.{puts_present}
use Rattle.result_laws.specs.ChosenJobs.{Images, code_number}
use Rattle.result_laws.specs.Memories.{IsOfCode, AreImages, IsCurrent, is_moved, IsSwitched}
use Rattle.result_laws.specs.SwitchLaws.{CanSwitch, SwitchesMove}
use Rattle.result_laws.proofs.Moved.{moved_is, entered_into, Rests, turned, moved_or_rests, code_moved, entered_jobs}
use Rattle.result_laws.proofs.JobChosen.{own, among, where_is, slot_inside, object_inside, home_outside, same_slot}
use Rattle.result_laws.proofs.Leaving.{IsLeft, Leaves, left_elsewhere, left_off, homed}
use Rattle.result_laws.proofs.JobEntering.{inside_slot, Enters, entered_elsewhere, entered_off, arrived, rested, copied_code}
use Rattle.result_laws.proofs.Plans.{left_is, jobs_are}

module _ (v : PlainView) (g : Graph) (regions : ℕ) (board : Board) (p : PlainProgramme) (c : PlainChoice) (laid : IsLaidOut v board g) (can : CanLayOut g regions board p c) where
  abbrev slots : List Slot
  slots = chosen_slots board p c

  module _ (twins : Bool) (s r : ℕ) (within_s : s ≤ regions) (within_r : r ≤ regions) (images : Images) (fitting : AreImages board.spm g slots images) (code : ℕ → ℕ → ℕ) (mem : Memory) (jobs : List CopyJob) (left : IsLeft twins s r g slots jobs) (current : IsCurrent g slots images code s mem) where
    abbrev between : Memory
    between = all_copied mem jobs

    abbrev pub behind : Memory
    behind = all_copied between (entered_jobs twins r s g images slots)

    abbrev LeavesHere : ℕ → Type 0
    LeavesHere o = Leaves v g regions board p c laid can twins s r within_s mem jobs left o

    abbrev EntersHere : ℕ → Type 0
    EntersHere o = Enters v g regions board p c laid can (is_moved twins r s) r within_r (moved_is twins r s g) images fitting (entered_jobs twins r s g images slots) (entered_into twins r s g slots images) between o

    -- ---- ways of an object

    -- it stands in one slot in both regions
    record StaysIn (o : ℕ) : Type 0 where
      pub k : ℕ
      pub below : k < length slots
      pub rests : Rests twins s r o (slot_at slots k).name

    -- or it goes by its home
    record GoesHome (o : ℕ) : Type 0 where
      pub from : LeavesHere o ⊎ (placed g slots s o ≡ (object_of g o).home)
      pub to : EntersHere o ⊎ (placed g slots r o ≡ (object_of g o).home)

    entry_way : (o : ℕ) → LeavesHere o ⊎ (placed g slots s o ≡ (object_of g o).home) → StaysIn o ⊎ GoesHome o
    entry_way o from = by (where_is v g regions board p c laid can r o)
      where
        by : ((k : ℕ) × StandsIn g slots r o (placed g slots r o) k) ⊎ StandsAtHome g slots r o (placed g slots r o) → StaysIn o ⊎ GoesHome o
        by (inr home) = inr (record { from = from; to = inr home.there })
        by (inl slot) = elim (moved_or_rests twins r s o (slot_at slots slot.0).name slot.1.puts) [
          | inl moved ↦ inr (record { from = from; to = inl (record { k = slot.0; below = slot.1.below; here = slot.1.puts; moved = moved }) })
          | inr rests ↦ inl (record { k = slot.0; below = slot.1.below; rests = turned twins r s o (slot_at slots slot.0).name rests })
        ]

    way : (o : ℕ) → StaysIn o ⊎ GoesHome o
    way o = by (where_is v g regions board p c laid can s o)
      where
        by : ((k : ℕ) × StandsIn g slots s o (placed g slots s o) k) ⊎ StandsAtHome g slots s o (placed g slots s o) → StaysIn o ⊎ GoesHome o
        by (inr home) = entry_way o (inr home.there)
        by (inl slot) = elim (moved_or_rests twins s r o (slot_at slots slot.0).name slot.1.puts) [
          | inl moved ↦ entry_way o (inl (record { k = slot.0; below = slot.1.below; here = slot.1.puts; moved = moved }))
          | inr rests ↦ inl (record { k = slot.0; below = slot.1.below; rests = rests })
        ]

    -- ---- objects

    stays_there : (o i : ℕ) → i < (object_of g o).size → StaysIn o → behind (placed g slots r o + i) ≡ mem (placed g slots s o + i)
    stays_there o i inside stay =
        let first = own v g regions board p c laid can s o stay.k within_s stay.below stay.rests.here in
        let second = own v g regions board p c laid can r o stay.k within_r stay.below stay.rests.there in
        let spm = object_inside v g regions board p c laid can r o stay.k i second inside in
        rested v g regions board p c laid can (is_moved twins r s) r within_r (moved_is twins r s g) images fitting (entered_jobs twins r s g images slots) (entered_into twins r s g slots images) between o i inside (no_entry second)
        ∙ left_off v g regions board p c laid can twins s r within_s mem jobs left (placed g slots r o + i) (λ home. home_outside v g regions board p c laid can (placed g slots r o + i) home spm)
        ∙ ap (λ (n : ℕ). mem (n + i)) (second.there ∙ sym first.there)
      where
        no_entry : StandsIn g slots r o (placed g slots r o) stay.k → EntersHere o → ⊥
        no_entry second enters =
            let other = own v g regions board p c laid can r o enters.k within_r enters.below enters.here in
            let low : ℕ = (object_of g o).home % g.grain in
            let there = second.there in
            let there_too = other.there in
            let room = second.room in
            let room_too = other.room in
            let one = same_slot v g regions board p c laid can r enters.k stay.k (low + i) (low + i) enters.below stay.below
            (puts_present (slot_at slots enters.k).name r o enters.here) (puts_present (slot_at slots stay.k).name r o stay.rests.there)
            (omega (arith, room_too, inside)) (omega (arith, room, inside)) (omega (arith, there, there_too)) in
            absurd (cc (enters.moved, one, stay.rests.kept_there))

    home_bytes : (o i : ℕ) → i < (object_of g o).size → LeavesHere o ⊎ (placed g slots s o ≡ (object_of g o).home) → between ((object_of g o).home + i) ≡ mem (placed g slots s o + i)
    home_bytes o i inside from =
        homed v g regions board p c laid can twins s r within_s mem jobs left o i inside (by from) (λ not_so. current.still o i not_so inside)
      where
        by : LeavesHere o ⊎ (placed g slots s o ≡ (object_of g o).home) → LeavesHere o ⊎ (mem ((object_of g o).home + i) ≡ mem (placed g slots s o + i))
        by (inl leaves) = inl leaves
        by (inr home) = inr (ap (λ (n : ℕ). mem (n + i)) (sym home))

    goes_there : (o i : ℕ) → i < (object_of g o).size → GoesHome o → behind (placed g slots r o + i) ≡ mem (placed g slots s o + i)
    goes_there o i inside goes =
        arrived v g regions board p c laid can (is_moved twins r s) r within_r (moved_is twins r s g) images fitting (entered_jobs twins r s g images slots) (entered_into twins r s g slots images) between o i inside (by goes.to)
        ∙ home_bytes o i inside goes.from
      where
        by : EntersHere o ⊎ (placed g slots r o ≡ (object_of g o).home) → EntersHere o ⊎ (between (placed g slots r o + i) ≡ between ((object_of g o).home + i))
        by (inl enters) = inl enters
        by (inr home) = inr (ap (λ (n : ℕ). between (n + i)) home)

    moved : (o i : ℕ) → i < (object_of g o).size → behind (placed g slots r o + i) ≡ mem (placed g slots s o + i)
    moved o i inside = elim (way o) [ inl stay ↦ stays_there o i inside stay | inr goes ↦ goes_there o i inside goes ]

    pub switched : IsSwitched g slots twins s r mem behind
    switched = record {
      moved = moved;
      elsewhere = λ a off_slots off_homes.
          entered_elsewhere v g regions board p c laid can (is_moved twins r s) r within_r (moved_is twins r s g) images fitting (entered_jobs twins r s g images slots) (entered_into twins r s g slots images) between a off_slots
          ∙ left_elsewhere v g regions board p c laid can twins s r within_s mem jobs left a off_homes;
    }

    -- ---- what isn't written, and code

    still : (o i : ℕ) → (object_of g o).writable ≡ false → i < (object_of g o).size → behind ((object_of g o).home + i) ≡ behind (placed g slots r o + i)
    still o i not_so inside =
        let same = current.still o i not_so inside in
        entered_off v g regions board p c laid can (is_moved twins r s) r within_r (moved_is twins r s g) images fitting (entered_jobs twins r s g images slots) (entered_into twins r s g slots images) between ((object_of g o).home + i)
        (λ spm. home_outside v g regions board p c laid can ((object_of g o).home + i) (o, (i, (inside, refl))) spm)
        ∙ homed v g regions board p c laid can twins s r within_s mem jobs left o i inside (inr same) (λ _. same)
        ∙ sym (moved o i inside)

    image_kept : (k i : ℕ) → IsOfCode slots k → i < images.bytes (code_number slots k) → between (images.at (code_number slots k) + i) ≡ code (code_number slots k) i
    image_kept k i of inside =
        left_off v g regions board p c laid can twins s r within_s mem jobs left (images.at (code_number slots k) + i)
        (λ home. fitting.off_homes k i home.0 home.1.0 of inside home.1.1.0 (sym home.1.1.1))
        ∙ current.images_stand k i of inside

    pub is_current : IsCurrent g slots images code r behind
    is_current = record {
      still = still;
      images_stand = λ k i of inside.
          entered_off v g regions board p c laid can (is_moved twins r s) r within_r (moved_is twins r s g) images fitting (entered_jobs twins r s g images slots) (entered_into twins r s g slots images) between (images.at (code_number slots k) + i)
          (λ spm. fitting.off_scratchpad k i spm.0 of inside spm.1.0 spm.1.1)
          ∙ image_kept k i of inside;
      copies = λ k i of present inside.
          copied_code v g regions board p c laid can (is_moved twins r s) r within_r (moved_is twins r s g) images fitting (entered_jobs twins r s g images slots) (entered_into twins r s g slots images) between k i of present inside (known k i of present inside)
          ∙ image_kept k i of inside;
    }
      where
        known : (k i : ℕ) → IsOfCode slots k → IsPresent r (slot_at slots k).name → i < images.bytes (code_number slots k) → (is_moved twins r s (slot_at slots k).name ≡ true) ⊎ (between ((slot_at slots k).at + i) ≡ between (images.at (code_number slots k) + i))
        known k i of present inside = elim (code_moved twins r s g (slot_at slots k).name of.1 present) [
          | inl moves ↦ inl moves
          | inr before ↦
              let spm = slot_inside v g regions board p c laid can k i of.0 (inside_slot board.spm g slots images fitting k i of inside) in
              inr (left_off v g regions board p c laid can twins s r within_s mem jobs left ((slot_at slots k).at + i) (λ home. home_outside v g regions board p c laid can ((slot_at slots k).at + i) home spm)
              ∙ current.copies k i of before inside
              ∙ sym (image_kept k i of inside))
        ]

-- ---- the law

module _ (v : PlainView) (g : Graph) (regions : ℕ) (board : Board) (p : PlainProgramme) (c : PlainChoice) (images : Images) (code : ℕ → ℕ → ℕ) (w : SwitchPlan (List CopyJob)) (s r : ℕ) (mem : Memory) (can : CanSwitch v g regions board p c images w s r) (current : IsCurrent g (chosen_slots board p c) images code s mem) where
  abbrev all_slots : List Slot
  all_slots = chosen_slots board p c

  abbrev out : List CopyJob
  out = side_jobs w w.leave w.kept_leave s r

  is_left : IsLeft w.twins s r g all_slots out
  is_left = left_is g all_slots images regions w can.plan (among v g regions board p c can.start.laid can.start.can) s r can.other can.left

  in_two : all_copied mem (switch_jobs w s r) ≡ all_copied (all_copied mem out) (entered_jobs w.twins r s g images all_slots)
  in_two =
      ap (λ (jobs : List CopyJob). all_copied mem jobs) (jobs_are g all_slots images regions w can.plan (among v g regions board p c can.start.laid can.start.can) s r can.other can.some can.entered)
      ∙ in_order mem out (entered_jobs w.twins r s g images all_slots)

  pub law_switched : IsSwitched g all_slots w.twins s r mem (all_copied mem (switch_jobs w s r))
  law_switched =
      subst (λ (m : Memory). IsSwitched g all_slots w.twins s r mem m) (sym in_two)
      (switched v g regions board p c can.start.laid can.start.can w.twins s r can.left can.entered images can.start.fitting code mem out is_left current)

  pub law_current : IsCurrent g all_slots images code r (all_copied mem (switch_jobs w s r))
  law_current =
      subst (λ (m : Memory). IsCurrent g all_slots images code r m) (sym in_two)
      (is_current v g regions board p c can.start.laid can.start.can w.twins s r can.left can.entered images can.start.fitting code mem out is_left current)

pub switches_move_so : SwitchesMove
switches_move_so = record { switched = law_switched; current = law_current }
