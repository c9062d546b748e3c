-- What is asked of a setup is met: two objects and a piece of code enter region 1, and nothing writes the second object. The
-- program is that of region_changes' example, with the objects of a graph that has these two.
use Rattle.std.proofs.Common.{◌≡◌, ◌∙◌, inl, inr, ℕ, zero, suc, ◌+◌, ◌-◌, ◌<◌, ◌≤◌, ◌==◌, ◌&&◌, ◌||◌, if◌then◌else◌, true, false, nat_le, nat_lt, List, [], ◌∷◌, slice_index_or, refl, sym, ap, subst, arith}
use Rattle.std.proofs.lemmas.Bool.{cases_eq, cases_lt}
use Rattle.std.proofs.lemmas.Bool.Decides.{nat_tests}
use Rattle.rv32im.specs.Words.{byte_of}
use Rattle.board_config.specs.declared.board.Range.{Range}
use Rattle.object_graph.specs.declared.parts.Graph.{Graph}
use Rattle.object_graph.specs.declared.parts.Object.{Object}
use Rattle.cell_values.specs.Objects.{absent_object, object_of, objects_of}
use Rattle.cell_values.specs.Stands.{moved_uppers}
use Rattle.placement_programme.specs.declared.variables.VarName.TheVariants.{OverlayData, OverlayCode}
use Rattle.relocator.specs.declared.slots.Slot.{Slot}
use Rattle.relocator.specs.Placing.{placed}
use Rattle.relocator.specs.Laws.{IsPresent, slot_at}
use Rattle.result_laws.specs.ChosenJobs.{Images}
use Rattle.result_laws.specs.Memories.{IsOfCode}
use Rattle.object_machine.specs.Program.{Program}
use Rattle.simulation.specs.Setups.{Setup}
use Rattle.simulation.proofs.Example.{program}
use Rattle.result_laws.specs.Chosen.{IsUntouched, StandsAs, StandsByChoice, OfNumber, Throughout, OfCopy, AtHome, IsSetupOf}

abbrev two : List Object
two =
    record { name = 0; home = 4096; size = 16; writable = true }
    ∷ record { name = 1; home = 4112; size = 16; writable = false } ∷ []

abbrev slots : List Slot
slots =
    record { name = OverlayData 1 0; at = 8192; span = 16 } ∷ record { name = OverlayData 1 1; at = 8208; span = 16 }
    ∷ record { name = OverlayCode 1 1024 1040; at = 8224; span = 16 } ∷ []

-- the image stands behind the control words
abbrev images : Images
images = record { at = λ n. 12352; bytes = λ n. 16 }

abbrev code : ℕ → ℕ → ℕ
code n i = 7

abbrev spm : Range
spm = record { base = 8192; size = 64 }

abbrev patch : Range
patch = record { base = 12288; size = 128 }

inside_two : (o i : ℕ) → i < (slice_index_or two o absent_object).size → (4096 ≤ (slice_index_or two o absent_object).home + i) × ((slice_index_or two o absent_object).home + i < 4128)
inside_two zero i below = (omega arith, omega (arith, below))
inside_two (suc zero) i below = (omega arith, omega (arith, below))
inside_two (suc (suc o)) i below = absurd (omega (arith, below))

module _ (g : Graph) (items : g.objects.items ≡ two) where
  abbrev chosen : Program
  chosen = record program { objects = objects_of g }

  -- in region 1 the home of object 1 stands still, and the copy
  abbrev setup : Setup
  setup =
      record {
        map = record { base = 1024; size = 16384 } ∷ [];
        place = λ r. placed g slots r;
        upper = λ r. moved_uppers (placed g slots r);
        is_still = λ r a.
            (nat_le 12288 a && nat_lt a 12292) || (nat_le 12352 a && nat_lt a 12368)
            || (if r == 0 then false else (nat_le 4112 a && nat_lt a 4128) || (nat_le 8224 a && nat_lt a 8240));
        still = λ r a. if nat_le 12288 a && nat_lt a 12292 then byte_of r (a - 12288) else 7;
      }

  second : object_of g 1 ≡ slice_index_or two 1 absent_object
  second = ap (λ (xs : List Object). slice_index_or xs 1 absent_object) items

  inside : (o i : ℕ) → i < (object_of g o).size → (4096 ≤ (object_of g o).home + i) × ((object_of g o).home + i < 4128)
  inside o i =
      subst
      (λ (xs : List Object). i < (slice_index_or xs o absent_object).size
      → (4096 ≤ (slice_index_or xs o absent_object).home + i) × ((slice_index_or xs o absent_object).home + i < 4128))
      (sym items) (inside_two o i)

  low_untouched : (a : ℕ) → a < 4096 → IsUntouched spm patch g a
  low_untouched a low =
      record {
        control = inl (omega (arith, low));
        scratchpad = λ i below same. omega (arith, low, same);
        homes = λ o i writable below same. let from = (inside o i below).0 in omega (arith, low, from, same);
      }

  high_untouched : (a : ℕ) → 12352 ≤ a → IsUntouched spm patch g a
  high_untouched a high =
      record {
        control = inr (omega (arith, high));
        scratchpad = λ i below same. omega (arith, high, below, same);
        homes = λ o i writable below same. let to = (inside o i below).1 in omega (arith, high, to, same);
      }

  image_stands : (r a : ℕ) → 12352 ≤ a → a < 12368 → StandsAs setup r a 7
  image_stands r a low high = (grind (arith, nat_tests, low, high), grind (arith, nat_tests, low, high))

  copy_stands : (a : ℕ) → 8224 ≤ a → a < 8240 → StandsAs setup 1 a 7
  copy_stands a low high = (grind (arith, nat_tests, low, high), grind (arith, nat_tests, low, high))

  images_stand : (r k i : ℕ) → IsOfCode slots k → i < 16 → StandsAs setup r (12352 + i) 7
  images_stand r k i of below = image_stands r (12352 + i) (omega arith) (omega (arith, below))

  copies : (r k i : ℕ) → IsOfCode slots k → IsPresent r (slot_at slots k).name → i < 16 → StandsAs setup r ((slot_at slots k).at + i) 7
  copies r zero i of present below = absurd (cc (of.1))
  copies r (suc zero) i of present below = absurd (cc (of.1))
  copies r (suc (suc zero)) i of present below =
      subst (λ q. StandsAs setup q (8224 + i) 7) present (copy_stands (8224 + i) (omega arith) (omega (arith, below)))
  copies r (suc (suc (suc k))) i of present below = let few = of.0 in absurd (omega (arith, few))

  -- ---- what stands still

  abbrev Stands : ℕ → ℕ → Type 0
  Stands = StandsByChoice setup spm patch g slots images 1

  at_home : (a : ℕ) → 4112 ≤ a → a < 4128 → Stands 1 a
  at_home a low high =
      let home : (object_of g 1).home ≡ 4112 = ap (λ (x : Object). x.home) second in
      let size : (object_of g 1).size ≡ 16 = ap (λ (x : Object). x.size) second in
      let at : (object_of g 1).home + (a - 4112) ≡ a = omega (arith, home, low) in
      subst (λ x. Stands 1 x) at
      (AtHome 1 (a - 4112) (ap (λ (x : Object). x.writable) second) (omega (arith, size, high, low))
      (λ same. omega (arith, same, home)))

  of_copy : (a : ℕ) → 8224 ≤ a → a < 8240 → Stands 1 a
  of_copy a low high =
      let at : 8224 + (a - 8224) ≡ a = omega (arith, low) in
      subst (λ x. Stands 1 x) at (OfCopy 2 (a - 8224) (omega arith, refl) refl (omega (arith, low, high)))

  of_number : (r a : ℕ) → 12288 ≤ a → a < 12292 → Stands r a
  of_number r a low high =
      OfNumber a
      (record {
        k = a - 12288;
        below = omega (arith, low, high);
        at = omega (arith, low);
        byte = grind (arith, nat_tests, low, high);
      })

  of_image : (r a : ℕ) → 12352 ≤ a → a < 12368 → Stands r a
  of_image r a low high =
      Throughout a (high_untouched a low)
      (λ s within. (
        (image_stands s a low high).0,
        (image_stands s a low high).1 ∙ sym (image_stands r a low high).1,
      ))

  first_region : (r a : ℕ) → a < 12288 → setup.is_still r a ≡ true → r ≡ 0 → ⊥
  first_region r a low is first = grind (arith, nat_tests, low, is, first)

  stands_low : (a : ℕ) → a < 12288 → setup.is_still 1 a ≡ true → Stands 1 a
  stands_low a low is =
      elim (cases_lt a 4128) [
        | inl below ↦ at_home a (grind (arith, nat_tests)) below
        | inr from ↦ of_copy a (grind (arith, nat_tests)) (grind (arith, nat_tests))
      ]

  stands_high : (r a : ℕ) → 12288 ≤ a → setup.is_still r a ≡ true → Stands r a
  stands_high r a high is =
      elim (cases_lt a 12292) [
        | inl below ↦ of_number r a high below
        | inr from ↦ of_image r a (grind (arith, nat_tests)) (grind (arith, nat_tests))
      ]

  stands : (r a : ℕ) → r ≤ 1 → setup.is_still r a ≡ true → Stands r a
  stands r a within is =
      elim (cases_lt a 12288) [
        | inl low ↦
            let other = first_region r a low is in
            elim (cases_eq r 0) [
              | inl first ↦ absurd (other first)
              | inr later ↦
                  let one : 1 ≡ r = grind (arith, within, later) in
                  subst (λ q. Stands q a) one (stands_low a low (subst (λ q. setup.is_still q a ≡ true) (sym one) is))
            ]
        | inr high ↦ stands_high r a high is
      ]

  is_setup : IsSetupOf chosen setup spm patch g slots images code 1
  is_setup =
      record {
        objects = refl;
        place = λ r o within. refl;
        fixed = λ a fixed. low_untouched a (grind (arith, nat_tests));
        images_stand = λ r k i within of below. images_stand r k i of below;
        copies = λ r k i within of present below. copies r k i of present below;
        still = stands;
      }
