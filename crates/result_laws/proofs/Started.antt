-- The start moves each object to its first place, and region 0 is current then.
use Rattle.std.proofs.Common.{◌≡◌, ◌⊎◌, inl, inr, ℕ, ◌+◌, ◌<◌, ◌≤◌, List, refl, sym, ◌∙◌, ap, arith}
use Rattle.rv32im.specs.Memory.{Memory}
use Rattle.elf_reader.specs.File.{PlainView}
use Rattle.board_config.specs.declared.board.Board.{Board}
use Rattle.object_graph.specs.declared.parts.Graph.{Graph}
use Rattle.cell_values.specs.Objects.{object_of}
use Rattle.placement_programme.specs.Plain.{PlainProgramme, PlainChoice}
use Rattle.patch_code.specs.declared.job.CopyJob.{CopyJob}
use Rattle.patch_code.specs.Jobs.{all_copied}
use Rattle.relocator.specs.declared.slots.Slot.{Slot}
use Rattle.relocator.specs.Placing.{placed, chosen_slots}
use Rattle.relocator.specs.Laws.{slot_at, StandsIn, StandsAtHome}
use Rattle.result_laws.specs.ChosenJobs.{Images, is_static, start_jobs, code_number}
use Rattle.result_laws.specs.Memories.{ImagesStand, IsCurrent, IsStarted}
use Rattle.result_laws.specs.SwitchLaws.{CanStart, StartMoves}
use Rattle.result_laws.proofs.ListLemmas.{AreInto, are_into}
use Rattle.result_laws.proofs.Moved.{static_is, static_data_is, static_code_is}
use Rattle.result_laws.proofs.JobChosen.{among, where_is, home_outside}
use Rattle.result_laws.proofs.JobEntering.{Enters, entered_elsewhere, entered_off, arrived, copied_code}

module _ (v : PlainView) (g : Graph) (regions : ℕ) (board : Board) (p : PlainProgramme) (c : PlainChoice) (images : Images) (mem : Memory) (can : CanStart v g regions board p c images) where
  abbrev slots : List Slot
  slots = chosen_slots board p c

  abbrev jobs : List CopyJob
  jobs = start_jobs g images slots

  abbrev behind : Memory
  behind = all_copied mem jobs

  into : AreInto is_static g images slots jobs
  into = are_into is_static g images slots

  first : 0 ≤ regions
  first = omega arith

  abbrev EntersHere : ℕ → Type 0
  EntersHere o = Enters v g regions board p c can.laid can.can is_static 0 first static_is images can.fitting jobs into mem o

  moved : (o i : ℕ) → i < (object_of g o).size → behind (placed g slots 0 o + i) ≡ mem ((object_of g o).home + i)
  moved o i inside = arrived v g regions board p c can.laid can.can is_static 0 first static_is images can.fitting jobs into mem o i inside (by (where_is v g regions board p c can.laid can.can 0 o))
    where
      by : ((k : ℕ) × StandsIn g slots 0 o (placed g slots 0 o) k) ⊎ StandsAtHome g slots 0 o (placed g slots 0 o) → EntersHere o ⊎ (mem (placed g slots 0 o + i) ≡ mem ((object_of g o).home + i))
      by (inr home) = inr (ap (λ (n : ℕ). mem (n + i)) home.there)
      by (inl slot) = inl (record {
        k = slot.0;
        below = slot.1.below;
        here = slot.1.puts;
        moved = static_data_is regions (slot_at slots slot.0).name o (among v g regions board p c can.laid can.can slot.0 slot.1.below) slot.1.puts;
      })

  pub started : IsStarted g slots mem behind
  started = record {
    moved = moved;
    elsewhere = λ a off. entered_elsewhere v g regions board p c can.laid can.can is_static 0 first static_is images can.fitting jobs into mem a off;
  }

  pub start_current : (code : ℕ → ℕ → ℕ) → ImagesStand slots images code mem → IsCurrent g slots images code 0 behind
  start_current code stand = record {
    still = λ o i not_so inside.
        entered_off v g regions board p c can.laid can.can is_static 0 first static_is images can.fitting jobs into mem ((object_of g o).home + i)
        (λ spm. home_outside v g regions board p c can.laid can.can ((object_of g o).home + i) (o, (i, (inside, refl))) spm)
        ∙ sym (moved o i inside);
    images_stand = λ k i of inside.
        entered_off v g regions board p c can.laid can.can is_static 0 first static_is images can.fitting jobs into mem (images.at (code_number slots k) + i)
        (λ spm. can.fitting.off_scratchpad k i spm.0 of inside spm.1.0 spm.1.1)
        ∙ stand k i of inside;
    copies = λ k i of present inside.
        copied_code v g regions board p c can.laid can.can is_static 0 first static_is images can.fitting jobs into mem k i of present inside
        (inl (static_code_is regions (slot_at slots k).name (among v g regions board p c can.laid can.can k of.0) of.1 present))
        ∙ stand k i of inside;
  }

pub start_moves_so : StartMoves
start_moves_so = record {
  started = started;
  current = λ v g regions board p c images code mem can stand. start_current v g regions board p c images mem can code stand;
}
