-- A file and a text, compared.
use Rattle.std.proofs.Common.{◌≡◌, ℕ, List, Option, None, refl, subst}
use Rattle.elf_reader.specs.Faults.{first_fault}
use Rattle.elf_reader.specs.File.{PlainSegment, entry_of, load_segments}
use Rattle.hex_image.specs.Runs.{ByteMap, file_map}
use Rattle.hex_image.specs.Reading.{hex_fault, Spells}
use Rattle.hex_image.specs.Difference.{IsDifference}
use Rattle.command_line.specs.Meaning.{texts_command_fault, Compares}

pub none_in_texts : (file text : List ℕ) → first_fault file ≡ None → hex_fault text ≡ None → texts_command_fault file text ≡ None
none_in_texts file text no_fault no_hex_fault = rw (no_fault, no_hex_fault) refl

pub compares_image : (file text : List ℕ) (segments : List PlainSegment) (entry : ℕ) (given : ByteMap) (start : Option ℕ) (difference : Option ℕ)
    → segments ≡ load_segments file → entry ≡ entry_of file → Spells text given start
    → IsDifference (file_map segments) entry given start difference → Compares file text difference
compares_image file text segments entry given start difference same_segments same_entry spelled first =
    record {
      given = given;
      start = start;
      spelled = spelled;
      first =
          subst (λ (e : ℕ). IsDifference (file_map (load_segments file)) e given start difference) same_entry
          (subst (λ (s : List PlainSegment). IsDifference (file_map s) entry given start difference) same_segments first);
    }
