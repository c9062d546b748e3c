-- The command language: which lists of words are commands, and which names each reads and writes.
use Rattle.std.specs.Prelude.{◌≡◌, ◌≢◌, ℕ, ◌+◌, ◌-◌, ◌*◌, ◌≤◌, List, [], ◌∷◌, All, codes, length, map, string_bytes, String}
use Rattle.std.specs.Global.{Global}
use Rattle.command_language.specs.declared.commands.Command.{Command}
use Rattle.command_language.specs.declared.commands.Command.TheVariants as code
use Rattle.command_language.specs.declared.commands.NamedWord.{NamedWord}

-- the bytes of each word
abbrev pub texts : List (String Global) → List (List ℕ)
texts words = map string_bytes words

-- a word that is not empty and has no leading `-`
abbrev pub IsName : List ℕ → Type 0
IsName [] = ⊥
IsName (first ∷ others) = first ≢ 45

abbrev pub IsNameWord : String Global → Type 0
IsNameWord word = IsName (string_bytes word)

abbrev pub AreNames : List (List ℕ) → Type 0
AreNames words = All IsName words

-- an ASCII digit
abbrev pub IsDigit : ℕ → Type 0
IsDigit byte = (48 ≤ byte) × (byte ≤ 57)

-- the number that digits spell, behind those of `before`
abbrev pub value_from : ℕ → List ℕ → ℕ
value_from before [] = before
value_from before (digit ∷ digits) = value_from (10 * before + (digit - 48)) digits

abbrev pub value_of : List ℕ → ℕ
value_of digits = value_from 0 digits

-- a word of 1 to `width` digits that spells a number from `low` to `high`
pub record IsNumber (width low high : ℕ) (word : List ℕ) (number : ℕ) : Type 0 where
  pub digits : All IsDigit word
  pub some : 1 ≤ length word
  pub few : length word ≤ width
  pub value : number ≡ value_of word
  pub least : low ≤ number
  pub most : number ≤ high

-- a command, with its names and numbers
pub data PlainCommand : Type 0 where
  run_command : (file board input out : List ℕ) → PlainCommand
  relink_command : (file board input out cert : List ℕ) → PlainCommand
  profile_command : (file board input : List ℕ) → PlainCommand
  compare_command : (file relinked board input : List ℕ) → PlainCommand
  check_command : (file board input cert : List ℕ) → PlainCommand
  paid_command : (file board input cert : List ℕ) → PlainCommand
  trace_command : (file board input cert : List ℕ) (count : ℕ) (out : List ℕ) → PlainCommand
  mix_command : (file board mix out cert : List ℕ) → PlainCommand
  check_mix_command : (file board mix cert : List ℕ) → PlainCommand
  show_command : (file board : List ℕ) → PlainCommand
  gen_command : (seed kernels : ℕ) (out : List ℕ) → PlainCommand
  hex_command : (file out : List ℕ) → PlainCommand
  hex_check_command : (file hex : List ℕ) → PlainCommand

-- `gen SEED KERNELS OUT`: a seed below 2 ^ 32, and 1 to 64 kernels
pub record SpellsGen (words : List (List ℕ)) (seed kernels : ℕ) (out : List ℕ) : Type 0 where
  pub seed_word : List ℕ
  pub kernels_word : List ℕ
  pub spelled : words ≡ codes "gen" ∷ seed_word ∷ kernels_word ∷ out ∷ []
  pub is_seed : IsNumber 10 0 4294967295 seed_word seed
  pub is_kernels : IsNumber 10 1 64 kernels_word kernels

-- `trace FILE BOARD INPUT CERT COUNT OUT`: a count of steps, 1 to 100000, in at most six digits
pub record SpellsTrace (words : List (List ℕ)) (file board input cert : List ℕ) (count : ℕ) (out : List ℕ) : Type 0 where
  pub count_word : List ℕ
  pub spelled : words ≡ codes "trace" ∷ file ∷ board ∷ input ∷ cert ∷ count_word ∷ out ∷ []
  pub is_count : IsNumber 6 1 100000 count_word count

-- the words of a command: `run FILE BOARD INPUT OUT`, `relink FILE BOARD INPUT OUT CERT`,
-- `profile FILE BOARD INPUT`, `compare FILE RESULT BOARD INPUT`, `check FILE BOARD INPUT CERT`,
-- `paid FILE BOARD INPUT CERT`, `trace FILE BOARD INPUT CERT COUNT OUT`, `mix FILE BOARD MIX OUT CERT`,
-- `checkmix FILE BOARD MIX CERT`, `show FILE BOARD`, `gen SEED KERNELS OUT`, `hex FILE OUT`, `hexcheck FILE HEX`
abbrev pub Spells : List (List ℕ) → PlainCommand → Type 0
Spells words (run_command file board input out) = words ≡ codes "run" ∷ file ∷ board ∷ input ∷ out ∷ []
Spells words (relink_command file board input out cert) =
    words ≡ codes "relink" ∷ file ∷ board ∷ input ∷ out ∷ cert ∷ []
Spells words (profile_command file board input) = words ≡ codes "profile" ∷ file ∷ board ∷ input ∷ []
Spells words (compare_command file relinked board input) =
    words ≡ codes "compare" ∷ file ∷ relinked ∷ board ∷ input ∷ []
Spells words (check_command file board input cert) =
    words ≡ codes "check" ∷ file ∷ board ∷ input ∷ cert ∷ []
Spells words (paid_command file board input cert) =
    words ≡ codes "paid" ∷ file ∷ board ∷ input ∷ cert ∷ []
Spells words (trace_command file board input cert count out) = SpellsTrace words file board input cert count out
Spells words (mix_command file board mix out cert) =
    words ≡ codes "mix" ∷ file ∷ board ∷ mix ∷ out ∷ cert ∷ []
Spells words (check_mix_command file board mix cert) =
    words ≡ codes "checkmix" ∷ file ∷ board ∷ mix ∷ cert ∷ []
Spells words (show_command file board) = words ≡ codes "show" ∷ file ∷ board ∷ []
Spells words (gen_command seed kernels out) = SpellsGen words seed kernels out
Spells words (hex_command file out) = words ≡ codes "hex" ∷ file ∷ out ∷ []
Spells words (hex_check_command file hex) = words ≡ codes "hexcheck" ∷ file ∷ hex ∷ []

-- the words spell no command that runs the program of a file and reads no certificate
pub record SpellsNoRun (words : List (List ℕ)) : Type 0 where
  pub run : (f b i o : List ℕ) → Spells words (run_command f b i o) → ⊥
  pub relink : (f b i o c : List ℕ) → Spells words (relink_command f b i o c) → ⊥
  pub profile : (f b i : List ℕ) → Spells words (profile_command f b i) → ⊥
  pub compare : (f r b i : List ℕ) → Spells words (compare_command f r b i) → ⊥

-- none that reads a certificate for one run
pub record SpellsNoCertified (words : List (List ℕ)) : Type 0 where
  pub check : (f b i c : List ℕ) → Spells words (check_command f b i c) → ⊥
  pub paid : (f b i c : List ℕ) → Spells words (paid_command f b i c) → ⊥
  pub trace : (f b i c : List ℕ) (n : ℕ) (o : List ℕ) → Spells words (trace_command f b i c n o) → ⊥

-- none of several runs
pub record SpellsNoMix (words : List (List ℕ)) : Type 0 where
  pub mix : (f b m o c : List ℕ) → Spells words (mix_command f b m o c) → ⊥
  pub check_mix : (f b m c : List ℕ) → Spells words (check_mix_command f b m c) → ⊥

-- and none that reads files and runs nothing
pub record SpellsNoOther (words : List (List ℕ)) : Type 0 where
  pub show : (f b : List ℕ) → Spells words (show_command f b) → ⊥
  pub hex : (f o : List ℕ) → Spells words (hex_command f o) → ⊥
  pub hex_check : (f h : List ℕ) → Spells words (hex_check_command f h) → ⊥

-- a name of a command, and the place of its word among the words, from 0
pub record Named : Type 0 where
  pub place : ℕ
  pub name : List ℕ

abbrev pub named : ℕ → List ℕ → Named
named at text = record { place = at; name = text }

-- the names of its words that a command reads, in the order of the reads
abbrev pub reads : PlainCommand → List Named
reads (run_command file board input out) = named 1 file ∷ named 2 board ∷ named 3 input ∷ []
reads (relink_command file board input out cert) = named 1 file ∷ named 2 board ∷ named 3 input ∷ []
reads (profile_command file board input) = named 1 file ∷ named 2 board ∷ named 3 input ∷ []
reads (compare_command file relinked board input) =
    named 1 file ∷ named 2 relinked ∷ named 3 board ∷ named 4 input ∷ []
reads (check_command file board input cert) =
    named 1 file ∷ named 2 board ∷ named 3 input ∷ named 4 cert ∷ []
reads (paid_command file board input cert) =
    named 1 file ∷ named 2 board ∷ named 3 input ∷ named 4 cert ∷ []
reads (trace_command file board input cert count out) =
    named 1 file ∷ named 2 board ∷ named 3 input ∷ named 4 cert ∷ []
reads (mix_command file board mix out cert) = named 1 file ∷ named 2 board ∷ named 3 mix ∷ []
reads (check_mix_command file board mix cert) =
    named 1 file ∷ named 2 board ∷ named 3 mix ∷ named 4 cert ∷ []
reads (show_command file board) = named 1 file ∷ named 2 board ∷ []
reads (gen_command seed kernels out) = []
reads (hex_command file out) = named 1 file ∷ []
reads (hex_check_command file hex) = named 1 file ∷ named 2 hex ∷ []

-- the names that a command writes, in the order of the writes
abbrev pub writes : PlainCommand → List Named
writes (run_command file board input out) = named 4 out ∷ []
writes (relink_command file board input out cert) = named 5 cert ∷ named 4 out ∷ []
writes (profile_command file board input) = []
writes (compare_command file relinked board input) = []
writes (check_command file board input cert) = []
writes (paid_command file board input cert) = []
writes (trace_command file board input cert count out) = named 6 out ∷ []
writes (mix_command file board mix out cert) = named 5 cert ∷ named 4 out ∷ []
writes (check_mix_command file board mix cert) = []
writes (show_command file board) = []
writes (gen_command seed kernels out) = named 3 out ∷ []
writes (hex_command file out) = named 2 out ∷ []
writes (hex_check_command file hex) = []

-- a name differs from each of several
abbrev pub DiffersFrom : List Named → List ℕ → Type 0
DiffersFrom [] name = Unit
DiffersFrom (other ∷ others) name = (other.name ≢ name) × DiffersFrom others name

-- so does each of the names that are written from each of those that are read, and from the others that are
-- written
abbrev pub AreDisjoint : List Named → List Named → Type 0
AreDisjoint others [] = Unit
AreDisjoint others (w ∷ names) = DiffersFrom others w.name × DiffersFrom names w.name × AreDisjoint others names

abbrev pub IsDisjoint : PlainCommand → Type 0
IsDisjoint command = AreDisjoint (reads command) (writes command)

-- the words are those of a command
pub record IsCommand (words : List (List ℕ)) (command : PlainCommand) : Type 0 where
  pub spelled : Spells words command
  pub names : AreNames words
  pub disjoint : IsDisjoint command

-- the numbers of a command are in their ranges
abbrev pub HasNumbers : PlainCommand → Type 0
HasNumbers (run_command file board input out) = Unit
HasNumbers (relink_command file board input out cert) = Unit
HasNumbers (profile_command file board input) = Unit
HasNumbers (compare_command file relinked board input) = Unit
HasNumbers (check_command file board input cert) = Unit
HasNumbers (paid_command file board input cert) = Unit
HasNumbers (trace_command file board input cert count out) = (1 ≤ count) × (count ≤ 100000)
HasNumbers (mix_command file board mix out cert) = Unit
HasNumbers (check_mix_command file board mix cert) = Unit
HasNumbers (show_command file board) = Unit
HasNumbers (gen_command seed kernels out) = (1 ≤ kernels) × (kernels ≤ 64)
HasNumbers (hex_command file out) = Unit
HasNumbers (hex_check_command file hex) = Unit

-- a command as it was read from the words
abbrev pub plain_command : Command → PlainCommand
plain_command (code.Run file board input out) = run_command file.now board.now input.now out.now
plain_command (code.Relink file board input out cert) =
    relink_command file.now board.now input.now out.now cert.now
plain_command (code.Profile file board input) = profile_command file.now board.now input.now
plain_command (code.Compare file relinked board input) =
    compare_command file.now relinked.now board.now input.now
plain_command (code.Check file board input cert) = check_command file.now board.now input.now cert.now
plain_command (code.Paid file board input cert) = paid_command file.now board.now input.now cert.now
plain_command (code.Trace file board input cert count out) =
    trace_command file.now board.now input.now cert.now count out.now
plain_command (code.Mix file board mix out cert) = mix_command file.now board.now mix.now out.now cert.now
plain_command (code.CheckMix file board mix cert) = check_mix_command file.now board.now mix.now cert.now
plain_command (code.Show file board) = show_command file.now board.now
plain_command (code.Gen seed kernels out) = gen_command seed kernels out.now
plain_command (code.Hex file out) = hex_command file.now out.now
plain_command (code.HexCheck file hex) = hex_check_command file.now hex.now

abbrev pub plain_named : NamedWord → Named
plain_named n = named n.place n.name.now
