-- The setup of a choice meets what the simulation asks of one, in each region.
use Rattle.std.proofs.Common.{◌≡◌, ◌∙◌, inl, inr, ℕ, ◌+◌, ◌-◌, ◌<◌, ◌==◌, true, false, List, length, sym, ap, subst}
use Rattle.std.proofs.lemmas.Bool.{both_ways}
use Rattle.list_checks.proofs.TestLemmas.{any_found}
use Rattle.rv32im.specs.Memory.{Memory}
use Rattle.board_config.specs.Board.{mapped_ranges}
use Rattle.board_config.specs.declared.board.Board.{Board}
use Rattle.flat_machine.specs.Mapping.{is_mapped}
use Rattle.object_graph.specs.Sites.{in_range, is_fixed_memory}
use Rattle.object_graph.specs.declared.parts.Graph.{Graph}
use Rattle.cell_values.specs.Objects.{object_of}
use Rattle.cell_values.proofs.Makes.{moved_uppers_make}
use Rattle.placement_programme.specs.Plain.{PlainProgramme, PlainChoice}
use Rattle.relocator.specs.Placing.{placed}
use Rattle.relocator.specs.Laws.{slot_at}
use Rattle.relocator.proofs.FitLemmas.{places_fit}
use Rattle.result_laws.specs.ChosenJobs.{Images}
use Rattle.result_laws.proofs.Setting.{choice_setting}
use Rattle.result_laws.proofs.JobChosen.{where_is, object_inside, same_home, off_code}
use Rattle.simulation.specs.Setups.{Sound}
use Rattle.result_laws.specs.Home.{is_code_byte}
use Rattle.result_laws.specs.HomeLaws.{unnamed_in}
use Rattle.result_laws.proofs.Loaded.{refuted}
use Rattle.result_laws.proofs.HomeSound.{sound_home}
use Rattle.result_laws.proofs.Kept.{fixed_kept, object_kept, code_byte_kept}
use Rattle.result_laws.proofs.Ranges.{spm_mapped}
use Rattle.result_laws.proofs.SetupParts.{stub_in_patch, laid, still_cases, in_scratchpad, in_slot, copy_in_scratchpad, number_in_patch, off_scratchpad, left_home}
use Rattle.result_laws.specs.OverlaySetup.{holds_copy, is_copied, is_left}
use Rattle.result_laws.specs.SetupLaws.{IsOverlay, ChoiceIsSound}
use Rattle.result_laws.proofs.Copies.{same_numbers, copy_byte}

module _ (file : List ℕ) (board : Board) (g : Graph) (regions : ℕ) (q : PlainProgramme) (c : PlainChoice) (images : Images) (mem : Memory) (is : IsOverlay file board g regions q c images) (r : ℕ) where
  open (choice_setting file board g q c images mem) use {v, l, slots}

  -- an object is in the scratchpad or at home
  at_place : (P : ℕ → Type 0) (o i : ℕ) → i < (object_of g o).size → ((a : ℕ) → in_range board.spm a ≡ true → P a) → P ((object_of g o).home + i) → P (placed g slots r o + i)
  at_place P o i below there home =
      elim (where_is v g regions board q c (laid file board g regions q c images mem is) is.can r o) [
        | inl stands ↦
            there (placed g slots r o + i)
            (in_scratchpad file board g regions q c images mem is (placed g slots r o + i)
            (object_inside v g regions board q c (laid file board g regions q c images mem is) is.can r o stands.0 i stands.1 below))
        | inr stays ↦ subst (λ (a : ℕ). P (a + i)) (sym stays.there) home
      ]

  -- ---- fixed memory

  patch_not_fixed : (a : ℕ) → in_range board.patch a ≡ true → is_fixed_memory v board a ≡ false
  patch_not_fixed a patch =
      refuted (is_fixed_memory v board a) (λ fixed. both_ways (in_range board.patch a) (fixed_kept v board a fixed).patch patch)

  scratchpad_not_fixed : (a : ℕ) → in_range board.spm a ≡ true → is_fixed_memory v board a ≡ false
  scratchpad_not_fixed a there =
      refuted (is_fixed_memory v board a) (λ fixed. both_ways (in_range board.spm a) (fixed_kept v board a fixed).spm there)

  copy_not_fixed : (a : ℕ) → is_copied slots images r a ≡ true → is_fixed_memory v board a ≡ false
  copy_not_fixed a copied =
      let found = any_found (holds_copy slots images r a) (length slots) copied in
      scratchpad_not_fixed a (copy_in_scratchpad file board g regions q c images mem is r a found.0 found.1 found.2)

  left_not_fixed : (a : ℕ) → is_left g slots r a ≡ true → is_fixed_memory v board a ≡ false
  left_not_fixed a left =
      let found = left_home file board g regions q c images mem is r a left in
      subst (λ b. is_fixed_memory v board b ≡ false) found.lies.there
      ((sound_home file board g is.accepted).objects_off_fixed found.o (a - (object_of g found.o).home) found.lies.below)

  still_off_fixed : (a : ℕ) → l.is_still r a ≡ true → is_fixed_memory v board a ≡ false
  still_off_fixed a still =
      still_cases file board g regions q c images mem is (is_fixed_memory v board a ≡ false) r a still ((sound_home file board g is.accepted).still_off_fixed a)
      (λ stub. patch_not_fixed a (stub_in_patch board a stub))
      (λ number. patch_not_fixed a (number_in_patch file board g regions q c images mem is a number)) (copy_not_fixed a) (left_not_fixed a)

  -- ---- objects

  module _ (o i : ℕ) (below : i < (object_of g o).size) where
    abbrev a : ℕ
    a = placed g slots r o + i

    object_off_code : is_code_byte v a ≡ false
    object_off_code =
        at_place (λ b. is_code_byte v b ≡ false) o i below
        (λ b there. refuted (is_code_byte v b) (λ code. both_ways (in_range board.spm b) (code_byte_kept file board g is.accepted b code).spm there))
        ((sound_home file board g is.accepted).still_off_objects o i below)

    object_off_patch : in_range board.patch a ≡ false
    object_off_patch =
        at_place (λ b. in_range board.patch b ≡ false) o i below
        (λ b there. refuted (in_range board.patch b) (λ patch. both_ways (in_range board.spm b) (off_scratchpad file board g regions q c images mem is b patch) there))
        (object_kept file board g is.accepted o i below).patch

    object_off_copies : is_copied slots images r a ≡ true → ⊥
    object_off_copies copied =
        let found = any_found (holds_copy slots images r a) (length slots) copied in
        let k : ℕ = found.0 in
        let byte = copy_byte slots images r a k found.2 in
        off_code v g regions board q c (laid file board g regions q c images mem is) is.can r o k i (a - (slot_at slots k).at) found.1 byte.code byte.here below
        (in_slot file board g regions q c images mem is r a k found.1 found.2) (sym byte.lies.there)

    object_off_left : is_left g slots r a ≡ true → ⊥
    object_off_left left =
        let found = left_home file board g regions q c images mem is r a left in
        let p : ℕ = found.o in
        let home : ℕ = (object_of g p).home in
        elim (where_is v g regions board q c (laid file board g regions q c images mem is) is.can r o) [
          | inl stands ↦
              both_ways (in_range board.spm a)
              (subst (λ b. in_range board.spm b ≡ false) found.lies.there (object_kept file board g is.accepted p (a - home) found.lies.below).spm)
              (in_scratchpad file board g regions q c images mem is a
              (object_inside v g regions board q c (laid file board g regions q c images mem is) is.can r o stands.0 i stands.1 below))
          | inr stays ↦
              let shared : home + (a - home) ≡ (object_of g o).home + i = found.lies.there ∙ ap (λ b. b + i) stays.there in
              let same =
              same_home v g regions board q c (laid file board g regions q c images mem is) is.can o p i (a - home) below found.lies.below (sym shared) in
              let at_home : placed g slots r p ≡ (object_of g p).home =
              subst (λ n. placed g slots r n ≡ (object_of g n).home) same stays.there in
              both_ways (placed g slots r p == home) found.away (same_numbers (placed g slots r p) home at_home)
        ]

    still_off_object : l.is_still r a ≡ false
    still_off_object =
        refuted (l.is_still r a)
        (λ still.
        still_cases file board g regions q c images mem is ⊥ r a still (λ code. both_ways (is_code_byte v a) object_off_code code)
        (λ stub. both_ways (in_range board.patch a) object_off_patch (stub_in_patch board a stub))
        (λ number. both_ways (in_range board.patch a) object_off_patch (number_in_patch file board g regions q c images mem is a number))
        object_off_copies object_off_left)

  pub sound_choice : Sound (unnamed_in file board g) l r
  sound_choice =
      let home = sound_home file board g is.accepted in
      record {
        fit = places_fit v g regions board q c r (laid file board g regions q c images mem is) is.can;
        lui = (moved_uppers_make (placed g slots r)).0;
        upper_words = (moved_uppers_make (placed g slots r)).1;
        mixes = (moved_uppers_make (placed g slots r)).2;
        sites = home.sites;
        fixed_below = home.fixed_below;
        fixed_mapped = home.fixed_mapped;
        objects_mapped = λ o i below.
            at_place (λ a. is_mapped (mapped_ranges board) a ≡ true) o i below (λ a there. spm_mapped board a there) (home.objects_mapped o i below);
        objects_off_fixed = λ o i below.
            at_place (λ a. is_fixed_memory v board a ≡ false) o i below (λ a there. scratchpad_not_fixed a there) (home.objects_off_fixed o i below);
        still_off_fixed = still_off_fixed;
        still_off_objects = still_off_object;
      }

pub choice_is_sound : ChoiceIsSound
choice_is_sound file board g regions q c images mem r is = sound_choice file board g regions q c images mem is r
