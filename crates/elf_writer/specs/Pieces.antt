-- Numbers, tables of names and padding, as bytes of a file.
use Rattle.std.specs.Prelude.{ℕ, zero, suc, ◌+◌, ◌-◌, ◌%◌, ◌<◌, ◌≢◌, List, [], ◌∷◌, ◌++◌, length, All}
use Rattle.rv32im.specs.Words.{byte_of}

-- a halfword and a word, least byte first; of a greater number the low part
abbrev pub half_bytes : ℕ → List ℕ
half_bytes n = byte_of n 0 ∷ byte_of n 1 ∷ []

abbrev pub word_bytes : ℕ → List ℕ
word_bytes n = byte_of n 0 ∷ byte_of n 1 ∷ byte_of n 2 ∷ byte_of n 3 ∷ []

-- a number of 32 bits, which its word gives back
abbrev pub IsWord : ℕ → Type 0
IsWord n = n < 4294967296

-- words, one behind the other
abbrev pub words_bytes : List ℕ → List ℕ
words_bytes [] = []
words_bytes (word ∷ words) = word_bytes word ++ words_bytes words

abbrev pub zero_bytes : ℕ → List ℕ
zero_bytes zero = []
zero_bytes (suc n) = 0 ∷ zero_bytes n

-- how many bytes lead from n to the next multiple of 4
abbrev pub padding : ℕ → ℕ
padding n = (4 - n % 4) % 4

-- bytes, with zeros up to a multiple of 4
abbrev pub padded : List ℕ → List ℕ
padded bytes = bytes ++ zero_bytes (padding (length bytes))

-- a name without a zero byte
abbrev pub IsName : List ℕ → Type 0
IsName name = All (λ byte. byte ≢ 0) name

-- names, each ended by a zero byte
abbrev pub ended_names : List (List ℕ) → List ℕ
ended_names [] = []
ended_names (name ∷ names) = name ++ 0 ∷ ended_names names

-- a string table: a zero byte, which is the empty name, and then the names (ELF, "String Table")
abbrev pub string_table : List (List ℕ) → List ℕ
string_table names = 0 ∷ ended_names names

-- how many bytes a name takes there
abbrev pub name_size : List ℕ → ℕ
name_size name = length name + 1
