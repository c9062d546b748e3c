-- Values hold words after sites, stores and loads.
use Rattle.std.proofs.Common.{ℕ, ◌<◌, ◌==◌, if◌then◌else◌, Bool, true, false, ◌&&◌, slice_index_or, arith}
use Rattle.std.proofs.lemmas.Bool.Decides.{nat_tests}
use Rattle.rv32im.specs.Words.{byte_of, sign_extended}
use Rattle.cell_values.specs.Objects.{home_address}
use Rattle.cell_values.specs.Operations.{same_chunk}
use Rattle.cell_values.specs.Cells.{split, is_part, whole_word, join, byte_value, half_value}
use Rattle.cell_values.specs.Laws.{HoldsWord}
use Rattle.cell_values.specs.declared.values.Val.{Val}
use Rattle.cell_values.specs.declared.values.Val.TheVariants.{Int, Addr, Hi, Low, Piece, Unknown}
use Rattle.cell_values.specs.declared.values.Cell.{Cell}
use Rattle.cell_values.specs.declared.values.Cell.TheVariants.{Byte, Part, Mist}
use Rattle.cell_values.specs.Stands.{CellHoldsWord}
use Rattle.cell_values.specs.WordLaws.{SitesKeepWords, CellsKeepWords}
use Rattle.cell_values.proofs.Stores.{first_cells}

chosen : (test : Bool) (x y : Val) → HoldsWord x → HoldsWord y → HoldsWord (if test then x else y)
chosen true x y first second = first
chosen false x y first second = second

pub sites_keep_words : SitesKeepWords
sites_keep_words os (Hi p e) o d word =
    chosen ((p == o) && same_chunk os.grain (home_address os o e) (home_address os o d)) (Addr o d) Unknown word tt
sites_keep_words os x o d word = tt

byte_fits : (n k : ℕ) → byte_of n k < 256
byte_fits n k = omega arith

split_keeps : (x : Val) → HoldsWord x → (k : ℕ) → k < 4 → CellHoldsWord (slice_index_or (split x) k Mist)
split_keeps (Int n) word =
    first_cells (λ k. CellHoldsWord (slice_index_or (split (Int n)) k Mist)) (byte_fits n 0) (byte_fits n 1)
    (byte_fits n 2) (byte_fits n 3)
split_keeps (Addr o d) word =
    first_cells (λ k. CellHoldsWord (slice_index_or (split (Addr o d)) k Mist)) word word word word
split_keeps (Hi o d) word =
    first_cells (λ k. CellHoldsWord (slice_index_or (split (Hi o d)) k Mist)) word word word word
split_keeps (Low n) word = first_cells (λ k. CellHoldsWord (slice_index_or (split (Low n)) k Mist)) tt tt tt tt
split_keeps (Piece hi o d j) word =
    first_cells (λ k. CellHoldsWord (slice_index_or (split (Piece hi o d j)) k Mist)) word tt tt tt
split_keeps Unknown word = first_cells (λ k. CellHoldsWord (slice_index_or (split Unknown) k Mist)) tt tt tt tt

whole_keeps : (hi : Bool) (o d : ℕ) → d < 4294967296 → HoldsWord (whole_word hi o d)
whole_keeps true o d word = word
whole_keeps false o d word = word

join_keeps : (p q r s : Cell) → CellHoldsWord p → CellHoldsWord q → CellHoldsWord r → CellHoldsWord s → HoldsWord (join p q r s)
join_keeps (Byte i) (Byte j) (Byte k) (Byte l) first second third fourth = omega arith
join_keeps (Part hi o d k) q r s first second third fourth =
    chosen ((k == 0) && is_part hi o d 1 q && is_part hi o d 2 r && is_part hi o d 3 s) (whole_word hi o d) Unknown
    (whole_keeps hi o d first) tt
join_keeps p q r s first second third fourth = tt

byte_keeps : (c : Cell) → CellHoldsWord c → HoldsWord (byte_value (λ n. n) c) × HoldsWord (byte_value (λ n. sign_extended n 8) c)
byte_keeps (Byte b) fits = (omega (arith, fits), grind (arith, nat_tests, fits))
byte_keeps (Part hi o d k) fits = (fits, fits)
byte_keeps Mist fits = (tt, tt)

half_keeps : (c d : Cell) → CellHoldsWord c → CellHoldsWord d → HoldsWord (half_value (λ h. h) c d) × HoldsWord (half_value (λ h. sign_extended h 16) c d)
half_keeps (Byte a) (Byte b) first second = (omega (arith, first, second), grind (arith, nat_tests, first, second))
half_keeps c d first second = (tt, tt)

pub cells_keep_words : CellsKeepWords
cells_keep_words = (λ x k below word. split_keeps x word k below, join_keeps, byte_keeps, half_keeps)
