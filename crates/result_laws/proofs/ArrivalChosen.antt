-- The jobs of a choice serve in a setup that is made of the choice.
use Rattle.std.proofs.Common.{◌≡◌, ◌∙◌, ◌⊎◌, inl, inr, ℕ, ◌+◌, ◌<◌, ◌≤◌, true, false, List, sym, ap, subst}
use Rattle.rv32im.specs.Memory.{Memory}
use Rattle.elf_reader.specs.File.{PlainView}
use Rattle.board_config.specs.declared.board.Board.{Board}
use Rattle.object_graph.specs.declared.parts.Graph.{Graph}
use Rattle.cell_values.specs.Objects.{Objects, object_of}
use Rattle.placement_programme.specs.Plain.{PlainProgramme, PlainChoice}
use Rattle.patch_code.specs.declared.job.CopyJob.{CopyJob}
use Rattle.patch_code.specs.Parts.{SwitchPlan}
use Rattle.patch_code.specs.Switching.{switch_jobs}
use Rattle.patch_code.specs.Switches.{Switched}
use Rattle.relocator.specs.declared.slots.Slot.{Slot}
use Rattle.relocator.specs.Placing.{placed, chosen_slots}
use Rattle.result_laws.specs.ChosenJobs.{Images}
use Rattle.result_laws.specs.Memories.{IsCurrent}
use Rattle.result_laws.specs.SwitchLaws.{CanSwitch}
use Rattle.result_laws.specs.PatchLaws.{IsOffPatch, CameIn}
use Rattle.result_laws.proofs.Behind.{routine_switches_so}
use Rattle.result_laws.proofs.JobChosen.{slot_inside}
use Rattle.object_machine.specs.Program.{Program}
use Rattle.simulation.specs.Setups.{Setup}
use Rattle.result_laws.specs.Serves.{IsOfRegion, IsOfNumber, BringsAll}
use Rattle.result_laws.specs.Chosen.{IsUntouched, StandsByChoice, OfNumber, Throughout, OfCopy, AtHome, IsSetupOf, ChoicesServe}

module _ (v : PlainView) (g : Graph) (regions : ℕ) (board : Board) (q : PlainProgramme) (c : PlainChoice) (images : Images) (code : ℕ → ℕ → ℕ) (w : SwitchPlan (List CopyJob)) (p : Program) (l : Setup) (s r : ℕ) (can : CanSwitch v g regions board q c images w s r) (off : IsOffPatch board.spm board.patch g (chosen_slots board q c) images) (base : w.base ≡ board.patch.base) (setup : IsSetupOf p l board.spm board.patch g (chosen_slots board q c) images code regions) (lo size : ℕ) (old new : Memory) (is : IsOfRegion p l s r old) (switched : Switched w.base lo size r (switch_jobs w s r) old new) where
  abbrev slots : List Slot
  slots = chosen_slots board q c

  -- ---- objects of the program are those of the graph

  home_is : (o : ℕ) → p.objects.home o ≡ (object_of g o).home
  home_is o = ap (λ (x : Objects). x.home o) setup.objects

  unwritable : (o : ℕ) → (object_of g o).writable ≡ false → p.objects.writable o ≡ false
  unwritable o so = ap (λ (x : Objects). x.writable o) setup.objects ∙ so

  below_size : (o i : ℕ) → i < (object_of g o).size → i < p.objects.size o
  below_size o i below = subst (λ n. i < n) (sym (ap (λ (x : Objects). x.size o) setup.objects)) below

  -- ---- the memory before

  home_byte : (o i : ℕ) → (object_of g o).writable ≡ false → i < (object_of g o).size → old ((object_of g o).home + i) ≡ old (placed g slots s o + i)
  home_byte o i so below =
      subst (λ h. old (h + i) ≡ old (placed g slots s o + i)) (home_is o)
      (subst (λ a. old (p.objects.home o + i) ≡ old (a + i)) (setup.place s o can.left)
      (is.homes o i (unwritable o so) (below_size o i below)))

  stood : (a byte : ℕ) → (l.is_still s a ≡ true) × (l.still s a ≡ byte) → old a ≡ byte
  stood a byte as_it = is.still a as_it.0 ∙ as_it.1

  current : IsCurrent g slots images code s old
  current =
      record {
        still = home_byte;
        images_stand = λ k i of below. stood _ _ (setup.images_stand s k i can.left of below);
        copies = λ k i of present below. stood _ _ (setup.copies s k i can.left of present below);
      }

  -- ---- the memory behind the switch

  came : CameIn w.base g slots images code w.twins s r old new
  came = routine_switches_so v g regions board q c images code w s r lo size old new can off base current switched

  untouched : (a : ℕ) → IsUntouched board.spm board.patch g a → new a ≡ old a
  untouched a apart =
      came.elsewhere a (subst (λ b. (a < b) ⊎ (b + 64 ≤ a)) (sym base) apart.control)
      (λ k i below moved inside same.
      let spm = slot_inside v g regions board q c can.start.laid can.start.can k i below inside in
      apart.scratchpad spm.0 spm.1.0 (sym same ∙ spm.1.1))
      (λ k o i below moved puts writable inside same. apart.homes o i writable inside same)

  home_stays : (o i : ℕ) → (object_of g o).writable ≡ false → i < (object_of g o).size → new ((object_of g o).home + i) ≡ old ((object_of g o).home + i)
  home_stays o i so below = came.current.still o i so below ∙ came.moved o i below ∙ sym (home_byte o i so below)

  next_home : (o i : ℕ) → (object_of g o).writable ≡ false → i < (object_of g o).size → (placed g slots r o ≡ (object_of g o).home → ⊥) → old ((object_of g o).home + i) ≡ l.still r ((object_of g o).home + i)
  next_home o i so below away =
      subst (λ h. old (h + i) ≡ l.still r (h + i)) (home_is o)
      (is.next_homes o i (unwritable o so) (below_size o i below)
      (λ same. away (sym (setup.place r o can.entered) ∙ same ∙ home_is o)))

  still_comes : (a : ℕ) → StandsByChoice l board.spm board.patch g slots images regions r a → IsOfNumber l w.base r a ⊎ (new a ≡ l.still r a)
  still_comes _ (OfNumber a of) = inl (subst (λ b. IsOfNumber l b r a) (sym base) of)
  still_comes _ (Throughout a apart stands) = inr (untouched a apart ∙ stood a (l.still r a) (stands s can.left))
  still_comes _ (OfCopy k i of present below) =
      inr (came.current.copies k i of present below ∙ sym (setup.copies r k i can.entered of present below).1)
  still_comes _ (AtHome o i so below away) = inr (home_stays o i so below ∙ next_home o i so below away)

  object_comes : (o i : ℕ) → i < p.objects.size o → new (l.place r o + i) ≡ old (l.place s o + i)
  object_comes o i below =
      ap (λ x. new (x + i)) (setup.place r o can.entered)
      ∙ came.moved o i (subst (λ n. i < n) (ap (λ (x : Objects). x.size o) setup.objects) below)
      ∙ sym (ap (λ x. old (x + i)) (setup.place s o can.left))

  pub brings_all : BringsAll p l w.base s r old new
  brings_all =
      record {
        objects = object_comes;
        fixed = λ a fixed. untouched a (setup.fixed a fixed);
        still = λ a stands. still_comes a (setup.still r a can.entered stands);
      }

pub choices_serve : ChoicesServe
choices_serve v g regions board q c images code w p l s r can off base setup lo size old new is switched =
    brings_all v g regions board q c images code w p l s r can off base setup lo size old new is switched
