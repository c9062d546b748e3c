-- In the setup of a choice objects, images and copies stand where the choice puts them, and no switch changes what else
-- stands still.
use Rattle.std.proofs.Common.{◌≡◌, ◌∙◌, inr, ℕ, ◌+◌, ◌-◌, ◌<◌, ◌==◌, true, false, List, length, refl, sym, ap, subst, arith}
use Rattle.std.proofs.lemmas.Bool.{both_ways, cond-true, cond-false}
use Rattle.std.proofs.lemmas.Bool.Decides.{nat_tests}
use Rattle.list_checks.proofs.TestLemmas.{any_found, any_at}
use Rattle.rv32im.specs.Words.{byte_of}
use Rattle.rv32im.specs.Memory.{Memory}
use Rattle.board_config.specs.declared.board.Board.{Board}
use Rattle.object_graph.specs.Sites.{in_range, is_fixed_memory}
use Rattle.object_graph.specs.declared.parts.Graph.{Graph}
use Rattle.code_blocks.proofs.LeaderLemmas.{left_passes, right_passes}
use Rattle.cell_values.specs.Objects.{object_of}
use Rattle.placement_programme.specs.Plain.{PlainProgramme, PlainChoice}
use Rattle.relocator.specs.Placing.{placed}
use Rattle.relocator.specs.Laws.{IsPresent, slot_at}
use Rattle.result_laws.specs.ChosenJobs.{Images, code_number}
use Rattle.result_laws.specs.Memories.{IsOfCode}
use Rattle.result_laws.proofs.Setting.{choice_setting}
use Rattle.result_laws.proofs.JobChosen.{same_slot}
use Rattle.result_laws.specs.Chosen.{IsUntouched, StandsAs, StandsByChoice, OfNumber, Throughout, OfCopy, AtHome, IsSetupOf}
use Rattle.result_laws.specs.Home.{is_code_byte}
use Rattle.result_laws.specs.HomeLaws.{unnamed_in}
use Rattle.result_laws.specs.OverlaySetup.{is_stub_byte, holds_copy, is_copied, source_below, image_byte, is_number_byte, is_left}
use Rattle.result_laws.proofs.Loaded.{refuted}
use Rattle.result_laws.proofs.HomeSound.{sound_home}
use Rattle.result_laws.proofs.Kept.{code_byte_kept, fixed_kept}
use Rattle.result_laws.proofs.SetupParts.{stub_in_patch, laid, still_cases, in_slot, copy_in_scratchpad, number_in_patch, off_scratchpad, off_control, left_home, untouched, memory_byte, code_off_homes, patch_off_homes, stub_behind}
use Rattle.result_laws.specs.SetupLaws.{IsOverlay, SetupOfChoice}
use Rattle.result_laws.proofs.Copies.{same_numbers, inside_behind, copy_byte, holds_so, image_source}

module _ (file : List ℕ) (board : Board) (g : Graph) (regions : ℕ) (q : PlainProgramme) (c : PlainChoice) (images : Images) (mem : Memory) (is : IsOverlay file board g regions q c images) where
  open (choice_setting file board g q c images mem) use {v, l, slots}

  abbrev Stands : ℕ → ℕ → Type 0
  Stands r a = StandsByChoice l board.spm board.patch g slots images regions r a

  -- ---- fixed memory

  fixed_untouched : (a : ℕ) → is_fixed_memory v board a ≡ true → IsUntouched board.spm board.patch g a
  fixed_untouched a fixed =
      let kept = fixed_kept v board a fixed in
      untouched file board g regions q c images mem is a (off_control file board g regions q c images mem is a kept.patch) kept.spm
      (λ o i below same.
      both_ways (is_fixed_memory v board a)
      (subst (λ b. is_fixed_memory v board b ≡ false) same ((sound_home file board g is.accepted).objects_off_fixed o i below)) fixed)

  -- ---- images

  image_stub : (k i : ℕ) → IsOfCode slots k → i < images.bytes (code_number slots k) → is_stub_byte board (images.at (code_number slots k) + i) ≡ true
  image_stub k i of below =
      let from = is.lie.from k of in
      let to = is.lie.to k of in
      grind (arith, nat_tests, from, to, below)

  pub stub_stands : (r a : ℕ) → is_stub_byte board a ≡ true → StandsAs l r a (mem a)
  stub_stands r a stub = (
    right_passes (is_code_byte v a) _ (left_passes (is_stub_byte board a) _ stub),
    memory_byte file board g regions q c images mem is r a (inr (stub_behind file board g regions q c images mem is a stub))
        (off_scratchpad file board g regions q c images mem is a (stub_in_patch board a stub)),
  )

  -- ---- copies

  module _ (r k i : ℕ) (of : IsOfCode slots k) (here : IsPresent r (slot_at slots k).name) (below : i < images.bytes (code_number slots k)) where
    abbrev a : ℕ
    a = (slot_at slots k).at + i

    holds : holds_copy slots images r a k ≡ true
    holds = holds_so slots images r k i of.1 here below

    one : (m : ℕ) → m < length slots → holds_copy slots images r a m ≡ true → k ≡ m
    one m within found =
        let byte = copy_byte slots images r a m found in
        let own = copy_byte slots images r a k holds in
        same_slot v g regions board q c (laid file board g regions q c images mem is) is.can r k m (a - (slot_at slots k).at) (a - (slot_at slots m).at) of.0 within here byte.here
        (in_slot file board g regions q c images mem is r a k of.0 holds)
        (in_slot file board g regions q c images mem is r a m within found) (own.lies.there ∙ sym byte.lies.there)

    no_control : is_number_byte board a ≡ false
    no_control =
        refuted (is_number_byte board a)
        (λ number.
        both_ways (in_range board.spm a)
        (off_scratchpad file board g regions q c images mem is a (number_in_patch file board g regions q c images mem is a number))
        (copy_in_scratchpad file board g regions q c images mem is r a k of.0 holds))

    pub copy_stands : StandsAs l r a (image_byte images mem (code_number slots k) i)
    copy_stands =
        let offset : a - (slot_at slots k).at ≡ i = omega arith in (
          right_passes (is_code_byte v a) _
              (right_passes (is_stub_byte board a) _
              (right_passes (is_number_byte board a) _
              (left_passes (is_copied slots images r a) _ (any_at (holds_copy slots images r a) (length slots) k of.0 holds)))),
          cond-false (is_number_byte board a) (byte_of r (a - board.patch.base)) (mem (source_below slots images r a (length slots))) no_control
              ∙ ap mem (image_source slots images r a k (length slots) of.0 holds one)
              ∙ ap (λ j. mem (images.at (code_number slots k) + j)) offset,
        )

  -- ---- what stands still

  code_stands : (r a : ℕ) → is_code_byte v a ≡ true → StandsAs l r a (mem a)
  code_stands r a code =
      let kept = code_byte_kept file board g is.accepted a code in (
        left_passes (is_code_byte v a) _ code,
        memory_byte file board g regions q c images mem is r a (off_control file board g regions q c images mem is a kept.patch) kept.spm,
      )

  throughout : (r a : ℕ) → IsUntouched board.spm board.patch g a → ((s : ℕ) → StandsAs l s a (mem a)) → Stands r a
  throughout r a apart stands = Throughout a apart (λ s within. ((stands s).0, (stands s).1 ∙ sym (stands r).1))

  code_still : (r a : ℕ) → is_code_byte v a ≡ true → Stands r a
  code_still r a code =
      let kept = code_byte_kept file board g is.accepted a code in
      throughout r a
      (untouched file board g regions q c images mem is a (off_control file board g regions q c images mem is a kept.patch) kept.spm (code_off_homes file board g regions q c images mem is a code))
      (λ s. code_stands s a code)

  stub_still : (r a : ℕ) → is_stub_byte board a ≡ true → Stands r a
  stub_still r a stub =
      let patch = stub_in_patch board a stub in
      throughout r a
      (untouched file board g regions q c images mem is a (inr (stub_behind file board g regions q c images mem is a stub))
      (off_scratchpad file board g regions q c images mem is a patch) (patch_off_homes file board g regions q c images mem is a patch))
      (λ s. stub_stands s a stub)

  number_still : (r a : ℕ) → is_number_byte board a ≡ true → Stands r a
  number_still r a number =
      let lies = inside_behind board.patch.base 4 a number in
      OfNumber a (record {
        k = a - board.patch.base;
        below = lies.below;
        at = sym lies.there;
        byte = cond-true (is_number_byte board a) (byte_of r (a - board.patch.base)) (mem (source_below slots images r a (length slots))) number;
      })

  copy_still : (r a : ℕ) → is_copied slots images r a ≡ true → Stands r a
  copy_still r a copied =
      let found = any_found (holds_copy slots images r a) (length slots) copied in
      let k : ℕ = found.0 in
      let byte = copy_byte slots images r a k found.2 in
      subst (λ b. Stands r b) byte.lies.there (OfCopy k (a - (slot_at slots k).at) (found.1, byte.code) byte.here byte.lies.below)

  left_still : (r a : ℕ) → is_left g slots r a ≡ true → Stands r a
  left_still r a left =
      let found = left_home file board g regions q c images mem is r a left in
      let o : ℕ = found.o in
      let home : ℕ = (object_of g o).home in
      subst (λ b. Stands r b) found.lies.there
      (AtHome o (a - home) found.unwritable found.lies.below
      (λ same. both_ways (placed g slots r o == home) found.away (same_numbers (placed g slots r o) home same)))

  still_stands : (r a : ℕ) → l.is_still r a ≡ true → Stands r a
  still_stands r a still =
      still_cases file board g regions q c images mem is (Stands r a) r a still (code_still r a) (stub_still r a) (number_still r a) (copy_still r a) (left_still r a)

  pub is_setup : IsSetupOf (unnamed_in file board g) l board.spm board.patch g slots images (image_byte images mem) regions
  is_setup =
      record {
        objects = refl;
        place = λ r o within. refl;
        fixed = fixed_untouched;
        images_stand = λ r k i within of below. stub_stands r (images.at (code_number slots k) + i) (image_stub k i of below);
        copies = λ r k i within of here below. copy_stands r k i of here below;
        still = λ r a within still. still_stands r a still;
      }

pub setup_of_choice : SetupOfChoice
setup_of_choice file board g regions q c images mem is = is_setup file board g regions q c images mem is
