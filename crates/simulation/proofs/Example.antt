-- The premises of a change of the region are met: two objects enter a region and leave it again. Nothing writes one of them,
-- so it isn't brought back; its bytes stood still at home.
use Rattle.std.proofs.Common.{◌≡◌, inl, inr, ℕ, ◌+◌, ◌<◌, ◌==◌, ◌&&◌, if◌then◌else◌, Bool, true, false, nat_le, nat_lt, [], ◌∷◌, refl, arith}
use Rattle.std.proofs.lemmas.Bool.{cases_eq}
use Rattle.std.proofs.lemmas.Bool.Decides.{nat_tests}
use Rattle.std.proofs.lemmas.List.Elements.{All-nil}
use Rattle.rv32im.specs.Memory.{Memory}
use Rattle.elf_reader.specs.Loadable.{IsByte}
use Rattle.flat_machine.specs.Sizes.{HasWords}
use Rattle.flat_machine.specs.State.{State}
use Rattle.cell_values.specs.Objects.{Objects}
use Rattle.cell_values.specs.Stands.{Places, Fit, moved_uppers}
use Rattle.cell_values.specs.declared.values.Val.TheVariants.{Int}
use Rattle.cell_values.specs.declared.values.Cell.TheVariants.{Byte}
use Rattle.cell_values.proofs.Makes.{moved_uppers_make}
use Rattle.object_machine.specs.Program.{Program}
use Rattle.object_machine.specs.State.{SourceState}
use Rattle.object_machine.specs.Paired.{at_start}
use Rattle.simulation.specs.Setups.{Setup, Sound}
use Rattle.simulation.specs.Relation.{Alike}
use Rattle.simulation.specs.Rules.{all_live}
use Rattle.simulation.specs.Names.{NamesNone, StateNamesNone}
use Rattle.simulation.specs.Changes.{moves, OthersStay, IsByteOf}
use Rattle.simulation.specs.Unwritten.{AreUnwritten, HomesStandStill}
use Rattle.simulation.proofs.Stays.{switched, places_decide}
use Rattle.simulation.proofs.Homes.{home_too}
use Rattle.simulation.proofs.ExampleParts.{bare, begun, loaded, number_stands, number_holds, alike_at_start}

-- ---- the program: object 0 has its home at 4096, and object 1, which isn't writable, at 4112
abbrev pub objects : Objects
objects =
    record {
      grain = 16;
      home = λ o. if o == 0 then 4096 else (if o == 1 then 4112 else 64);
      size = λ o. if nat_lt o 2 then 16 else 0;
      writable = λ o. o == 0;
    }

abbrev pub program : Program
program =
    record (bare objects (λ a. 115)) {
      is_block = λ a. a == 1024;
      is_fixed = λ a. nat_le 2048 a && nat_lt a 2064;
      is_held = λ a. nat_le 4096 a && nat_lt a 4128;
    }

-- ---- the setup: in region 0 both are at home, and in any other at 8192 and 8208. There the home of object 1 stands still
abbrev pub places : ℕ → Places
places r = λ o. if r == 0 then objects.home o else (if o == 0 then 8192 else (if o == 1 then 8208 else 64))

abbrev setup : Setup
setup =
    record {
      map = record { base = 1024; size = 16384 } ∷ [];
      place = places;
      upper = λ r. moved_uppers (places r);
      is_still = λ r a. if r == 0 then false else nat_le 4112 a && nat_lt a 4128;
      still = λ r a. 7;
    }

fits_at : (r : ℕ) → Fit objects (places r)
fits_at r =
    record {
      grain = inl refl;
      congruent = λ o. grind (arith, nat_tests);
      positive = λ o. grind (arith, nat_tests);
      below = λ o. grind (arith, nat_tests);
      disjoint = λ o q i j other first second same. grind (arith, nat_tests);
    }

sound_at : (r : ℕ) → Sound program setup r
sound_at r =
    let uppers = moved_uppers_make (places r) in
    record {
      fit = fits_at r;
      lui = uppers.0;
      upper_words = uppers.1;
      mixes = uppers.2;
      sites = λ u t is. cc;
      fixed_below = λ a is. grind (arith, nat_tests);
      fixed_mapped = λ a is. grind (arith, nat_tests);
      objects_mapped = λ o i below. grind (arith, nat_tests);
      objects_off_fixed = λ o i below. grind (arith, nat_tests);
      still_off_fixed = λ a is. grind (arith, nat_tests);
      still_off_objects = λ o i below. grind (arith, nat_tests);
    }

-- ---- the states: object 0 holds bytes 5, and object 1 bytes 7
abbrev source : SourceState
source = record (begun 1024) { cells = λ o i. Byte (if o == 0 then 5 else 7) }

-- at their homes, and in the region, where the bytes at home of object 0 may be any
abbrev at_home : Memory
at_home a = if nat_lt a 4096 then 0 else (if nat_lt a 4112 then 5 else (if nat_lt a 4128 then 7 else 0))

abbrev in_region : Memory
in_region a =
    if nat_lt a 4112 then 0
    else (if nat_lt a 4128 then 7
    else (if nat_lt a 8192 then 0 else (if nat_lt a 8208 then 5 else (if nat_lt a 8224 then 7 else 0))))

abbrev with_memory : Memory → State
with_memory mem = loaded setup 1024 (λ k. 0) mem

zero_names : (these : ℕ → Bool) (test : Bool) → NamesNone these (if test then Int 0 else Int 0)
zero_names these true = tt
zero_names these false = tt

bytes_fit : (mem : Memory) → ((a : ℕ) → mem a < 256) → HasWords (with_memory mem)
bytes_fit mem small =
    record {
      hart = record { pc = omega arith; regs = λ k. omega arith; mem = small };
      input = All-nil IsByte;
    }

starts_alike : Alike program setup all_live 0 1024 source at_start (with_memory at_home)
starts_alike =
    alike_at_start program setup all_live 0 1024 source (with_memory at_home)
    (λ k lives. number_stands objects (places 0) (moved_uppers (places 0)) (k == 0) 0) (λ k lives. number_holds (k == 0) 0 (omega arith))
    (λ a is. (grind (arith, nat_tests), omega arith)) (λ o i below. (grind (arith, nat_tests), grind (arith, nat_tests))) (λ a is. cc)
    (bytes_fit at_home (λ a. grind (arith, nat_tests))) (refl, refl, refl, refl, refl)

-- ---- what both changes need
unwritten : AreUnwritten program source at_start source at_start
unwritten = record { cells = λ o i is. refl; origins = λ o i is. refl }

homes_stand : (r : ℕ) → HomesStandStill program setup r source at_start
homes_stand r =
    record {
      is_still = λ o i is below away. grind (arith, nat_tests);
      bytes = λ o i is below away. grind (arith, nat_tests);
    }

others : (from to : ℕ) → OthersStay setup (moves setup from to) from to
others from to = places_decide setup from to (λ origin o d. refl) (λ origin o d. refl)

free : (from to : ℕ) → StateNamesNone (moves setup from to) (all_live 1024) source
free from to =
    record { regs = λ k lives. zero_names (moves setup from to) (k == 0); fixed = λ a. tt; cells = λ o i. tt }

-- only memory changes
changed : (from to : ℕ) (mem new : Memory) → Alike program setup all_live from 1024 source at_start (with_memory mem)
    → ((a : ℕ) → program.is_fixed a ≡ true → new a ≡ mem a)
    → ((o i : ℕ) → i < objects.size o → IsByteOf program setup from mem o i (new (places to o + i)))
    → ((a : ℕ) → setup.is_still to a ≡ true → new a ≡ 7)
    → ((a : ℕ) → new a < 256)
    → Alike program setup all_live to 1024 source at_start (with_memory new)
changed from to mem new before fixed objects still small =
    switched program setup all_live (moves setup from to) from to 1024 source at_start (with_memory mem) (with_memory new) before
    (home_too program setup all_live from 1024 source source at_start at_start (with_memory mem) before unwritten (homes_stand from))
    (others from to) (free from to)
    (record {
      regs = λ k lives. refl;
      fixed = fixed;
      objects = objects;
      still = still;
      map = refl;
      outcome = refl;
      input = refl;
      output = refl;
    })
    (bytes_fit new small)

-- ---- into the region: both are copied
entered : Alike program setup all_live 1 1024 source at_start (with_memory in_region)
entered =
    changed 0 1 at_home in_region starts_alike (λ a is. grind (arith, nat_tests)) (λ o i below. inl (grind (arith, nat_tests)))
    (λ a is. grind (arith, nat_tests)) (λ a. grind (arith, nat_tests))

-- ---- and out of it: object 0 is copied back, and object 1 is at home
abbrev out_again : Memory
out_again a = if nat_le 4096 a && nat_lt a 4112 then 5 else in_region a

back : (o i : ℕ) → i < objects.size o → IsByteOf program setup 1 in_region o i (out_again (places 0 o + i))
back o i below =
    elim (cases_eq o 0) [
      | inl first ↦ inl (grind (arith, nat_tests))
      | inr other ↦ inr (grind (arith, nat_tests), grind (arith, nat_tests))
    ]

left : Alike program setup all_live 0 1024 source at_start (with_memory out_again)
left =
    changed 1 0 in_region out_again entered (λ a is. grind (arith, nat_tests)) back (λ a is. cc) (λ a. grind (arith, nat_tests))
