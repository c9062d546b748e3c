-- The words of a result file that make or hold addresses of objects, wherever these stand.
use Rattle.std.specs.Prelude.{◌≡◌, ◌⊎◌, ℕ, ◌+◌, ◌<◌, ◌≤◌}
use Rattle.rv32im.specs.Words.{byte_of}
use Rattle.elf_reader.specs.File.{PlainView}
use Rattle.elf_reader.specs.Image.{image_of}
use Rattle.loaded_file.specs.Code.{image_word}
use Rattle.object_graph.specs.declared.parts.Site.{Site}
use Rattle.object_graph.specs.declared.parts.DataWord.{DataWord}
use Rattle.cell_values.specs.Stands.{Places, address_word}
use Rattle.relocator.specs.SiteWords.{IsSiteWord}

-- at a site of the file `v` the result `w` has the word for the place of the site's object
abbrev pub IsMovedSite : PlainView → PlainView → Places → Site → Type 0
IsMovedSite v w place s =
    IsSiteWord s.kind (address_word place s.object s.offset) (image_word v s.at) (image_word w s.at)

-- a word of data has the four bytes of the address
abbrev pub IsMovedWord : PlainView → Places → DataWord → Type 0
IsMovedWord w place d =
    (k : ℕ) → k < 4 → image_of w.segments (d.at + k) ≡ byte_of (address_word place d.object d.offset) k

-- an address is none of the four from another
abbrev pub IsOffWord : ℕ → ℕ → Type 0
IsOffWord a at = (a < at) ⊎ (at + 4 ≤ a)
