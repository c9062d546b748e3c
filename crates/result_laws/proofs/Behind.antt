-- What the switch routine leaves, whose jobs are those of a choice.
use Rattle.std.proofs.Common.{◌≡◌, ◌⊎◌, inl, inr, ℕ, ◌+◌, ◌-◌, ◌<◌, ◌≤◌, List, refl, sym, ◌∙◌, arith}
use Rattle.std.proofs.lemmas.Bool.{cases_lt}
use Rattle.rv32im.specs.Memory.{Memory}
use Rattle.elf_reader.specs.File.{PlainView}
use Rattle.board_config.specs.declared.board.Board.{Board}
use Rattle.object_graph.specs.Sites.{no_area}
use Rattle.object_graph.specs.declared.parts.Graph.{Graph}
use Rattle.cell_values.specs.Objects.{object_of}
use Rattle.placement_programme.specs.Plain.{PlainProgramme, PlainChoice}
use Rattle.patch_code.specs.declared.job.CopyJob.{CopyJob}
use Rattle.patch_code.specs.Jobs.{all_copied}
use Rattle.patch_code.specs.Parts.{SwitchPlan}
use Rattle.patch_code.specs.Switching.{switch_jobs}
use Rattle.patch_code.specs.Switches.{Switched}
use Rattle.relocator.specs.declared.slots.Slot.{Slot}
use Rattle.relocator.specs.Placing.{placed, chosen_slots}
use Rattle.relocator.specs.Laws.{slot_at, StandsIn, StandsAtHome}
use Rattle.result_laws.specs.ChosenJobs.{Images, code_number}
use Rattle.result_laws.specs.Memories.{IsOfCode, IsCurrent, IsSwitched}
use Rattle.result_laws.specs.SwitchLaws.{CanSwitch}
use Rattle.result_laws.specs.PatchLaws.{IsOffPatch, CameIn, RoutineSwitches}
use Rattle.result_laws.proofs.JobChosen.{InScratchpad, AtHome, where_is, slot_inside, object_inside}
use Rattle.result_laws.proofs.JobEntering.{inside_slot}
use Rattle.result_laws.proofs.Switched.{law_switched, law_current}

module _ (v : PlainView) (g : Graph) (regions : ℕ) (board : Board) (q : PlainProgramme) (c : PlainChoice) (images : Images) (code : ℕ → ℕ → ℕ) (w : SwitchPlan (List CopyJob)) (s r lo size : ℕ) (old new : Memory) (can : CanSwitch v g regions board q c images w s r) (off : IsOffPatch board.spm board.patch g (chosen_slots board q c) images) (base : w.base ≡ board.patch.base) (current : IsCurrent g (chosen_slots board q c) images code s old) (is : Switched w.base lo size r (switch_jobs w s r) old new) where
  abbrev slots : List Slot
  slots = chosen_slots board q c

  abbrev left : Memory
  left = all_copied old (switch_jobs w s r)

  switched : IsSwitched g slots w.twins s r old left
  switched = law_switched v g regions board q c images code w s r old can current

  entered : IsCurrent g slots images code r left
  entered = law_current v g regions board q c images code w s r old can current

  -- an address that isn't in the patch range is no control word's
  room : 64 ≤ board.patch.size
  room =
      let some = (can.start.laid.lawful.ranges 2 no_area (omega arith)).some in
      let whole = can.start.laid.lawful.patch.size in
      omega (arith, some, whole)

  no_control : (a : ℕ) → ((j : ℕ) → j < board.patch.size → a ≡ board.patch.base + j → ⊥) → new a ≡ left a
  no_control a outside =
      elim (cases_lt a w.base) [
        | inl before ↦ is.others a (inl before)
        | inr from ↦ elim (cases_lt a (w.base + 64)) [
          | inl inside ↦
              let least = room in
              absurd (outside (a - board.patch.base) (omega (arith, base, inside, least)) (omega (arith, base, from)))
          | inr behind ↦ is.others a (inr behind)
        ]
      ]

  in_scratchpad : (a : ℕ) → InScratchpad board a → new a ≡ left a
  in_scratchpad a spm = no_control a (λ j inside same. off.scratchpad spm.0 j spm.1.0 inside (sym spm.1.1 ∙ same))

  at_home : (a : ℕ) → AtHome g a → new a ≡ left a
  at_home a home = no_control a (λ j inside same. off.homes home.0 home.1.0 j home.1.1.0 inside (sym home.1.1.1 ∙ same))

  at_place : (o i : ℕ) → i < (object_of g o).size → new (placed g slots r o + i) ≡ left (placed g slots r o + i)
  at_place o i inside = by (where_is v g regions board q c can.start.laid can.start.can r o)
    where
      by : ((k : ℕ) × StandsIn g slots r o (placed g slots r o) k) ⊎ StandsAtHome g slots r o (placed g slots r o) → new (placed g slots r o + i) ≡ left (placed g slots r o + i)
      by (inl slot) = in_scratchpad (placed g slots r o + i) (object_inside v g regions board q c can.start.laid can.start.can r o slot.0 i slot.1 inside)
      by (inr home) = let there = home.there in at_home (placed g slots r o + i) (o, (i, (inside, omega (arith, there))))

  at_image : (k i : ℕ) → IsOfCode slots k → new (images.at (code_number slots k) + i) ≡ left (images.at (code_number slots k) + i)
  at_image k i of = let behind = off.images_behind k of in is.others (images.at (code_number slots k) + i) (inr (omega (arith, behind, base)))

  pub came_in : CameIn w.base g slots images code w.twins s r old new
  came_in = record {
    moved = λ o i inside. at_place o i inside ∙ switched.moved o i inside;
    elsewhere = λ a control off_slots off_homes. is.others a control ∙ switched.elsewhere a off_slots off_homes;
    current = record {
      still = λ o i not_so inside.
          at_home ((object_of g o).home + i) (o, (i, (inside, refl)))
          ∙ entered.still o i not_so inside
          ∙ sym (at_place o i inside);
      images_stand = λ k i of inside. at_image k i of ∙ entered.images_stand k i of inside;
      copies = λ k i of present inside.
          in_scratchpad ((slot_at slots k).at + i)
          (slot_inside v g regions board q c can.start.laid can.start.can k i of.0 (inside_slot board.spm g slots images can.start.fitting k i of inside))
          ∙ entered.copies k i of present inside;
    };
  }

pub routine_switches_so : RoutineSwitches
routine_switches_so = came_in
