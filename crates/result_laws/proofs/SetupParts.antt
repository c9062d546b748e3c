-- What stands still in the setup of a choice, part by part.
use Rattle.std.proofs.Common.{nat_le, nat_lt, ◌≡◌, ◌∙◌, ◌⊎◌, inl, inr, ℕ, ◌+◌, ◌-◌, ◌<◌, ◌≤◌, ◌==◌, true, false, not, ◌&&◌, ◌||◌, List, length, sym, ap, subst, arith}
use Rattle.std.proofs.lemmas.Bool.{cases_lt, both_ways, cond-false, leb-true, ltb-true}
use Rattle.std.proofs.lemmas.Bool.Decides.{nat_tests}
use Rattle.list_checks.proofs.TestLemmas.{either, both, not_true, any_found}
use Rattle.rv32im.specs.Words.{byte_of}
use Rattle.rv32im.specs.Memory.{Memory}
use Rattle.board_config.specs.declared.board.Board.{Board}
use Rattle.loaded_file.specs.Ranges.{inside}
use Rattle.object_graph.specs.Sites.{in_range}
use Rattle.object_graph.specs.declared.parts.Graph.{Graph}
use Rattle.cell_values.specs.Objects.{object_of}
use Rattle.placement_programme.specs.Plain.{PlainProgramme, PlainChoice}
use Rattle.relocator.specs.Placing.{placed}
use Rattle.relocator.specs.Laws.{IsLaidOut, slot_at}
use Rattle.result_laws.specs.ChosenJobs.{Images}
use Rattle.result_laws.proofs.Setting.{choice_setting}
use Rattle.result_laws.proofs.JobChosen.{InScratchpad, slot_inside}
use Rattle.result_laws.specs.Chosen.{IsUntouched}
use Rattle.result_laws.specs.Home.{is_code_byte}
use Rattle.result_laws.specs.OverlaySetup.{is_stub_byte, holds_copy, is_copied, source_below, is_number_byte, is_left_by, is_left}
use Rattle.result_laws.proofs.HomeSound.{sound_home}
use Rattle.result_laws.proofs.Kept.{object_kept}
use Rattle.result_laws.proofs.Ranges.{patch_lawful, patch_off_spm}
use Rattle.result_laws.specs.SetupLaws.{IsOverlay}
use Rattle.result_laws.proofs.Copies.{IsBehind, inside_behind, inside_at, copy_byte, own_source}

pub stub_in_patch : (board : Board) (a : ℕ) → is_stub_byte board a ≡ true → in_range board.patch a ≡ true
stub_in_patch board a is =
    let parts = both (nat_le (board.patch.base + 64) a) (nat_lt a (board.patch.base + board.patch.size)) is in
    let from = leb-true (board.patch.base + 64) a parts.0 in
    let to = ltb-true a (board.patch.base + board.patch.size) parts.1 in
    grind (arith, nat_tests, from, to)

module _ (file : List ℕ) (board : Board) (g : Graph) (regions : ℕ) (q : PlainProgramme) (c : PlainChoice) (images : Images) (mem : Memory) (is : IsOverlay file board g regions q c images) where
  open (choice_setting file board g q c images mem) use {v, l, slots}

  pub laid : IsLaidOut v board g
  laid = record { lawful = is.accepted.lawful; layout = is.accepted.layout; graph = is.accepted.graph }

  -- ---- what stands still is one of five kinds

  pub still_cases : (P : Type 0) (r a : ℕ) → l.is_still r a ≡ true → (is_code_byte v a ≡ true → P) → (is_stub_byte board a ≡ true → P) → (is_number_byte board a ≡ true → P) → (is_copied slots images r a ≡ true → P) → (is_left g slots r a ≡ true → P) → P
  still_cases P r a still code stub number copied left =
      let four = is_copied slots images r a || is_left g slots r a in
      let three = is_number_byte board a || four in
      let two = is_stub_byte board a || three in
      elim (either (is_code_byte v a) two still) [
        | inl first ↦ code first
        | inr rest ↦ elim (either (is_stub_byte board a) three rest) [
          | inl second ↦ stub second
          | inr more ↦ elim (either (is_number_byte board a) four more) [
            | inl third ↦ number third
            | inr last ↦ elim (either (is_copied slots images r a) (is_left g slots r a) last) [
              | inl fourth ↦ copied fourth
              | inr fifth ↦ left fifth
            ]
          ]
        ]
      ]

  -- ---- the scratchpad

  pub in_scratchpad : (a : ℕ) → InScratchpad board a → in_range board.spm a ≡ true
  in_scratchpad a at =
      subst (λ b. in_range board.spm b ≡ true) (sym at.1.1) (inside_at board.spm.base board.spm.size at.0 at.1.0)

  -- a byte of a copy is one of its slot
  pub in_slot : (r a k : ℕ) → k < length slots → holds_copy slots images r a k ≡ true → a - (slot_at slots k).at < (slot_at slots k).span
  in_slot r a k below found =
      let byte = copy_byte slots images r a k found in
      let fit = is.lie.fit k (below, byte.code) in
      let less = byte.lies.below in
      omega (arith, fit, less)

  pub copy_in_scratchpad : (r a k : ℕ) → k < length slots → holds_copy slots images r a k ≡ true → in_range board.spm a ≡ true
  copy_in_scratchpad r a k below found =
      let byte = copy_byte slots images r a k found in
      let at : ℕ = (slot_at slots k).at in
      subst (λ b. in_range board.spm b ≡ true) byte.lies.there
      (in_scratchpad (at + (a - at)) (slot_inside v g regions board q c laid is.can k (a - at) below (in_slot r a k below found)))

  -- ---- the patch range

  -- it has room for the control words
  control : 64 ≤ board.patch.size
  control =
      let some = (patch_lawful board is.accepted.lawful).some in
      let whole = is.accepted.lawful.patch.size in
      omega (arith, some, whole)

  pub number_in_patch : (a : ℕ) → is_number_byte board a ≡ true → in_range board.patch a ≡ true
  number_in_patch a found =
      let behind = inside_behind board.patch.base 4 a found in
      let less = behind.below in
      let room = control in
      subst (λ b. in_range board.patch b ≡ true) behind.there
      (inside_at board.patch.base board.patch.size (a - board.patch.base) (omega (arith, less, room)))

  pub off_scratchpad : (a : ℕ) → in_range board.patch a ≡ true → in_range board.spm a ≡ false
  off_scratchpad a found = patch_off_spm v board a is.accepted.layout found

  pub off_control : (a : ℕ) → in_range board.patch a ≡ false → (a < board.patch.base) ⊎ (board.patch.base + 64 ≤ a)
  off_control a off =
      let room = control in
      elim (cases_lt a board.patch.base) [
        | inl before ↦ inl before
        | inr from ↦ elim (cases_lt a (board.patch.base + 64)) [
          | inr behind ↦ inr behind
          | inl within ↦ absurd (grind (arith, nat_tests, off, room, from, within))
        ]
      ]

  pub no_number : (a : ℕ) → (a < board.patch.base) ⊎ (board.patch.base + 64 ≤ a) → is_number_byte board a ≡ false
  no_number a (inl before) = grind (arith, nat_tests, before)
  no_number a (inr behind) = grind (arith, nat_tests, behind)

  -- ---- homes that objects have left

  pub record IsLeft (r a : ℕ) : Type 0 where
    pub o : ℕ
    pub unwritable : (object_of g o).writable ≡ false
    pub away : placed g slots r o == (object_of g o).home ≡ false
    pub lies : IsBehind (object_of g o).home (object_of g o).size a

  pub left_home : (r a : ℕ) → is_left g slots r a ≡ true → IsLeft r a
  left_home r a found =
      let some = any_found (is_left_by g slots r a) (length g.objects.items) found in
      let o : ℕ = some.0 in
      let stays = placed g slots r o == (object_of g o).home in
      let within = inside (object_of g o).home (object_of g o).size a in
      let two = both (not (object_of g o).writable) (not stays && within) some.2 in
      let one = both (not stays) within two.1 in
      record {
        o = o;
        unwritable = not_true (object_of g o).writable two.0;
        away = not_true stays one.0;
        lies = inside_behind (object_of g o).home (object_of g o).size a one.1;
      }

  -- ---- bytes that no switch writes

  pub untouched : (a : ℕ) → (a < board.patch.base) ⊎ (board.patch.base + 64 ≤ a) → in_range board.spm a ≡ false → ((o i : ℕ) → i < (object_of g o).size → (object_of g o).home + i ≡ a → ⊥) → IsUntouched board.spm board.patch g a
  untouched a control off homes =
      record {
        control = control;
        scratchpad = λ i below same. both_ways (in_range board.spm a) off (in_scratchpad a (i, (below, same)));
        homes = λ o i writable below same. homes o i below same;
      }

  -- they have the byte of the memory
  pub memory_byte : (r a : ℕ) → (a < board.patch.base) ⊎ (board.patch.base + 64 ≤ a) → in_range board.spm a ≡ false → l.still r a ≡ mem a
  memory_byte r a control off =
      cond-false (is_number_byte board a) (byte_of r (a - board.patch.base)) (mem (source_below slots images r a (length slots))) (no_number a control)
      ∙ ap mem (own_source slots images r a (length slots) (λ k below found. both_ways (in_range board.spm a) off (copy_in_scratchpad r a k below found)))

  -- ---- code at home, and the patch range

  pub code_off_homes : (a : ℕ) → is_code_byte v a ≡ true → (o i : ℕ) → i < (object_of g o).size → (object_of g o).home + i ≡ a → ⊥
  code_off_homes a code o i below same =
      both_ways (is_code_byte v a)
      (subst (λ b. is_code_byte v b ≡ false) same ((sound_home file board g is.accepted).still_off_objects o i below)) code

  pub patch_off_homes : (a : ℕ) → in_range board.patch a ≡ true → (o i : ℕ) → i < (object_of g o).size → (object_of g o).home + i ≡ a → ⊥
  patch_off_homes a found o i below same =
      both_ways (in_range board.patch a)
      (subst (λ b. in_range board.patch b ≡ false) same (object_kept file board g is.accepted o i below).patch) found

  pub stub_behind : (a : ℕ) → is_stub_byte board a ≡ true → board.patch.base + 64 ≤ a
  stub_behind a found = grind (arith, nat_tests, found)
