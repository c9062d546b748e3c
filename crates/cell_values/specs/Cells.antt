-- Values in memory.
use Rattle.std.specs.Prelude.{ℕ, ◌+◌, ◌<◌, ◌==◌, length, Bool, true, false, ◌&&◌, if◌then◌else◌, List, [], ◌∷◌}
use Rattle.rv32im.specs.Words.{half_of, word_of, byte_of}
use Rattle.object_graph.specs.declared.parts.Graph.{Graph}
use Rattle.cell_values.specs.declared.values.Val.{Val}
use Rattle.cell_values.specs.declared.values.Val.TheVariants.{Int, Addr, Hi, Low, Piece, Unknown}
use Rattle.cell_values.specs.declared.values.Cell.{Cell}
use Rattle.cell_values.specs.declared.values.Cell.TheVariants.{Byte, Part, Mist}

-- the four bytes of a number, of an address or of its upper part
abbrev pub bytes_of : ℕ → List Cell
bytes_of n = Byte (byte_of n 0) ∷ Byte (byte_of n 1) ∷ Byte (byte_of n 2) ∷ Byte (byte_of n 3) ∷ []

abbrev pub parts_of : Bool → ℕ → ℕ → List Cell
parts_of hi o d = Part hi o d 0 ∷ Part hi o d 1 ∷ Part hi o d 2 ∷ Part hi o d 3 ∷ []

-- the cells that a word fills, least byte first: of a narrower store the first ones
abbrev pub split : Val → List Cell
split (Int n) = bytes_of n
split (Addr o d) = parts_of false o d
split (Hi o d) = parts_of true o d
split (Piece hi o d k) = Part hi o d k ∷ Mist ∷ Mist ∷ Mist ∷ []
split (Low n) = Mist ∷ Mist ∷ Mist ∷ Mist ∷ []
split Unknown = Mist ∷ Mist ∷ Mist ∷ Mist ∷ []

-- a cell is byte `j` of such a word
abbrev pub is_part : Bool → ℕ → ℕ → ℕ → Cell → Bool
is_part true o d j (Part true p e k) = (o == p) && (d == e) && (j == k)
is_part false o d j (Part false p e k) = (o == p) && (d == e) && (j == k)
is_part hi o d j cell = false

abbrev pub whole_word : Bool → ℕ → ℕ → Val
whole_word true o d = Hi o d
whole_word false o d = Addr o d

-- the word of four cells: of four bytes, and of the four bytes of one address or upper part in their order
abbrev pub join : Cell → Cell → Cell → Cell → Val
join (Byte a) (Byte b) (Byte c) (Byte d) = Int (word_of a b c d)
join (Part hi o d k) second third fourth =
    if (k == 0) && is_part hi o d 1 second && is_part hi o d 2 third && is_part hi o d 3 fourth
    then whole_word hi o d
    else Unknown
join first second third fourth = Unknown

-- the objects that a cell names are of a graph
abbrev pub IsCellOfGraph : Graph → Cell → Type 0
IsCellOfGraph g (Byte b) = Unit {0}
IsCellOfGraph g (Part hi o d k) = o < length g.objects.items
IsCellOfGraph g Mist = Unit {0}

-- a byte load of a part gives a piece of the address; a halfword is known by plain bytes alone
abbrev pub byte_value : (ℕ → ℕ) → Cell → Val
byte_value extend (Byte b) = Int (extend b)
byte_value extend (Part hi o d k) = Piece hi o d k
byte_value extend Mist = Unknown

abbrev pub half_value : (ℕ → ℕ) → Cell → Cell → Val
half_value extend (Byte a) (Byte b) = Int (extend (half_of a b))
half_value extend first second = Unknown

-- a table with one entry changed
unfoldable pub put_at : {A : Type 0} → (ℕ → A) → ℕ → A → ℕ → A
put_at table k x = λ j. if j == k then x else table j

-- cells put from a place on
abbrev pub put_cells : (ℕ → Cell) → ℕ → List Cell → ℕ → Cell
put_cells table k [] = table
put_cells table k (c ∷ cs) = put_cells (put_at table k c) (k + 1) cs
