-- An accepted file's own places meet what the simulation asks.
use Rattle.std.proofs.Common.{◌≡◌, inl, inr, ℕ, ◌+◌, ◌*◌, ◌/◌, ◌<◌, true, false, List, Some, sym, subst, arith}
use Rattle.std.proofs.lemmas.Bool.{cases_Bool, both_ways}
use Rattle.std.proofs.lemmas.Bool.Decides.{nat_tests}
use Rattle.list_checks.specs.Tests.{ranges_overlap}
use Rattle.elf_reader.specs.File.{view_in}
use Rattle.elf_reader.specs.Loadable.{AreLoadable}
use Rattle.elf_reader.proofs.SegmentLemmas.{none_of_headers, load_segments_loadable}
use Rattle.board_config.specs.Board.{mapped_ranges}
use Rattle.board_config.specs.declared.board.Board.{Board}
use Rattle.flat_machine.specs.Mapping.{is_mapped}
use Rattle.loaded_file.specs.Records.{symbol_at}
use Rattle.loaded_file.proofs.WordLemmas.{lies_from, lies_to}
use Rattle.loaded_file.specs.Ranges.{inside, owner_of}
use Rattle.object_graph.specs.Sites.{is_fixed_memory}
use Rattle.object_graph.specs.declared.parts.Graph.{Graph}
use Rattle.object_graph.proofs.MovableLemmas.{movable_parts}
use Rattle.object_graph.proofs.CodeLemmas.{objects_off_code}
use Rattle.elf_reader.specs.File.{PlainView}
use Rattle.cell_values.specs.Objects.{IsGrain, object_of, objects_of}
use Rattle.cell_values.proofs.Makes.{kept_uppers_make}
use Rattle.object_machine.specs.Program.{Target, target_at}
use Rattle.simulation.specs.Setups.{Sound}
use Rattle.result_laws.specs.Home.{is_code_byte}
use Rattle.result_laws.specs.HomeLaws.{IsAccepted, program_in, setup_in, HomeIsSound}
use Rattle.result_laws.proofs.Objects.{homes_fit}
use Rattle.cell_values.proofs.GraphObjects.{object_below, object_moves}
use Rattle.result_laws.proofs.HomeMemory.{memory_mapped, memory_below, section_mapped, fixed_parts, object_not_fixed, code_not_fixed}
use Rattle.result_laws.proofs.Words.{byte_in_range}
use Rattle.result_laws.proofs.Sites.{SiteBy, by_high, by_wide, by_store, by_pair, by_low, site_of}

-- offsets are words
far_below : (v : PlainView) (home n offset u : ℕ) → SiteBy v home n offset u → offset < 4294967296
far_below v home n offset u (by_high j makes) = let is = makes.behind in omega (arith, is)
far_below v home n offset u (by_wide j makes) = let is = makes.behind in omega (arith, is)
far_below v home n offset u (by_store j makes) = let is = makes.behind in omega (arith, is)
far_below v home n offset u (by_pair j high) = let is = high.makes.behind in omega (arith, is)
far_below v home n offset u (by_low j i low) = let is = low.high.makes.behind in omega (arith, is)

inside_at : (home n i : ℕ) → i < n → inside home n (home + i) ≡ true
inside_at home n i below = grind (arith, nat_tests, below)

-- a byte of a range, in the word of code that has the byte
shares_word : (home n i b : ℕ) → i < n → b ≡ (home + i) / 4 * 4 → ranges_overlap home n b 4 ≡ true
shares_word home n i b below is = grind (arith, nat_tests, below, is)

module _ (file : List ℕ) (board : Board) (g : Graph) (accepted : IsAccepted file board g) where
  pub loadable : AreLoadable (view_in file).segments
  loadable = load_segments_loadable file accepted.bytes (none_of_headers file accepted.none)

  grain : IsGrain g.grain
  grain = subst IsGrain (sym accepted.graph.grain) accepted.lawful.grain

  object_mapped : (o i : ℕ) → i < (object_of g o).size → is_mapped (mapped_ranges board) ((object_of g o).home + i) ≡ true
  object_mapped o i below =
      let v = view_in file in
      let home : ℕ = (object_of g o).home in
      let n : ℕ = (object_of g o).size in
      let moves =
      movable_parts v board home n (object_moves v board g o accepted.graph.objects (object_below g o i below)) in
      let s = symbol_at v moves.symbol in
      let range = moves.of.range in
      let from = lies_from (owner_of v s).addr (owner_of v s).size s.value s.size range.lies in
      let to = lies_to (owner_of v s).addr (owner_of v s).size s.value s.size range.lies in
      let value = moves.of.value in
      let size = moves.of.size in
      section_mapped v board accepted.layout s.section (home + i) range.loaded (omega (arith, from, value))
      (omega (arith, to, value, size, below))

  object_off_fixed : (o i : ℕ) → i < (object_of g o).size → is_fixed_memory (view_in file) board ((object_of g o).home + i) ≡ false
  object_off_fixed o i below =
      let home : ℕ = (object_of g o).home in
      let n : ℕ = (object_of g o).size in
      object_not_fixed (view_in file) board (home + i) home n
      (object_moves (view_in file) board g o accepted.graph.objects (object_below g o i below)) (inside_at home n i below)

  object_off_code : (o i : ℕ) → i < (object_of g o).size → is_code_byte (view_in file) ((object_of g o).home + i) ≡ false
  object_off_code o i below =
      let home : ℕ = (object_of g o).home in
      let n : ℕ = (object_of g o).size in
      elim (cases_Bool (is_code_byte (view_in file) (home + i))) [
        | inr other ↦ other
        | inl code ↦
            let disjoint =
            objects_off_code file board home n ((home + i) / 4 * 4) accepted.none
            (object_moves (view_in file) board g o accepted.graph.objects (object_below g o i below)) code in
            absurd (both_ways _ disjoint (shares_word home n i ((home + i) / 4 * 4) below (omega arith)))
      ]

  code_off_fixed : (a : ℕ) → is_code_byte (view_in file) a ≡ true → is_fixed_memory (view_in file) board a ≡ false
  code_off_fixed a code =
      let found = byte_in_range (view_in file) a code in
      code_not_fixed (view_in file) board a found.0 found.1.0 found.1.1.0 found.1.1.1

  sites_below : (u : ℕ) (t : Target) → target_at g.sites.items u ≡ Some t → t.offset < 4294967296
  sites_below u t at =
      let there = site_of (view_in file) g u t accepted.graph.sites at in
      far_below (view_in file) (object_of g t.object).home (object_of g t.object).size t.offset u there.by

  pub sound_home : Sound (program_in file board g) (setup_in file board g) 0
  sound_home =
      record {
        fit = homes_fit (view_in file) board g accepted.graph.objects grain;
        lui = (kept_uppers_make (objects_of g).home).0;
        upper_words = (kept_uppers_make (objects_of g).home).1;
        mixes = (kept_uppers_make (objects_of g).home).2;
        sites = sites_below;
        fixed_below = λ a fixed. memory_below board a accepted.lawful (fixed_parts (view_in file) board a fixed).memory;
        fixed_mapped = λ a fixed. memory_mapped board a (fixed_parts (view_in file) board a fixed).memory;
        objects_mapped = object_mapped;
        objects_off_fixed = object_off_fixed;
        still_off_fixed = code_off_fixed;
        still_off_objects = object_off_code;
      }

pub home_is_sound : HomeIsSound
home_is_sound file board g accepted = sound_home file board g accepted
