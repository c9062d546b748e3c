-- What the blocks of a program's code are.
use Rattle.std.specs.Prelude.{◌≡◌, ℕ, zero, suc, ◌+◌, ◌<◌, nat_le, nat_lt, min, Bool, true, false, not, ◌&&◌, ◌||◌, if◌then◌else◌, List, [], ◌∷◌, map, length, slice_index_or, Option, MatchOption}
use Rattle.std.specs.List.{All, list_any}
use Rattle.std.specs.List.Sorted.{IsStrictlyIncreasing}
use Rattle.list_checks.specs.First.{◌or_else◌, unless}
use Rattle.rv32im.specs.Table.{Means, MeansNothing}
use Rattle.elf_reader.specs.File.{PlainView}
use Rattle.loaded_file.specs.Code.{is_code_word, image_word}
use Rattle.loaded_file.specs.Records.{symbol_at}
use Rattle.code_blocks.specs.Words.{is_branch, is_jal, is_jalr, any_code_word}
use Rattle.code_blocks.specs.Meanings.{is_ebreak, has_meaning}
use Rattle.code_blocks.specs.Leaders.{is_call_pair, is_leader, is_indirect}
use Rattle.code_blocks.specs.Early.{has}
use Rattle.code_blocks.specs.Ends.{words_left, end_of}
use Rattle.code_blocks.specs.Functions.{IsKept}
use Rattle.code_blocks.specs.declared.parts.Unit.{Unit}
use Rattle.code_blocks.specs.declared.parts.Block.{Block}
use Rattle.code_blocks.specs.declared.parts.Function.{Function}
use Rattle.code_blocks.specs.declared.parts.Code.{Code}
use Rattle.code_blocks.specs.declared.fault.CodeFault.{CodeFault}
use Rattle.code_blocks.specs.declared.fault.CodeFault.TheVariants.{NoText, EntryNotLeader, TooManyBlocks}

-- ---- units

-- the unit at `a` is no jump, means something, and no block begins behind it
abbrev pub goes_on : PlainView → ℕ → Bool
goes_on v a =
    has_meaning (image_word v a)
    && not (is_call_pair v a
    || is_branch (image_word v a)
    || is_jal (image_word v a)
    || is_jalr (image_word v a)
    || is_ebreak (image_word v a))
    && not (is_leader v (a + 4))

-- the addresses of the units of a block from `a` on, with n words left in the code range
abbrev pub unit_addresses : PlainView → ℕ → ℕ → List ℕ
unit_addresses v a zero = []
unit_addresses v a (suc n) = a ∷ (if goes_on v a then unit_addresses v (a + 4) n else [])

-- a unit tells the word at its address, what it means, and whether it is a call of two words
pub record IsUnit (v : PlainView) (u : Unit) : Type 0 where
  pub raw : u.raw ≡ image_word v u.at
  pub words : u.words ≡ (if is_call_pair v u.at then 2 else 1)
  pub instr : MatchOption u.instr (MeansNothing u.raw) (Means u.raw)

-- ---- blocks

-- an address lies in the range of a function
abbrev pub lies_in_function : ℕ → Function → Bool
lies_in_function a f = nat_le f.start a && nat_lt a (f.start + f.size)

abbrev pub no_function : Function
no_function = record { name = 0; start = 0; size = 0 }

-- the function in whose range the address lies
abbrev pub IsFunctionOf : List Function → ℕ → Option ℕ → Type 0
IsFunctionOf functions a o =
    MatchOption o (list_any (lies_in_function a) functions ≡ false)
    (λ j. (j < length functions) × (lies_in_function a (slice_index_or functions j no_function) ≡ true))

abbrev pub unit_at : Unit → ℕ
unit_at u = u.at

pub record IsBlock (v : PlainView) (functions : List Function) (b : Block) : Type 0 where
  pub addresses : map unit_at b.units.items ≡ unit_addresses v b.start (words_left v b.start)
  pub units : All (IsUnit v) b.units.items
  pub end : b.end ≡ end_of v b.start
  pub function : IsFunctionOf functions b.start b.function

-- ---- the code

abbrev pub start_of : Block → ℕ
start_of b = b.start

abbrev pub name_of : Function → ℕ
name_of f = f.name

-- a function tells the range of its symbol
pub record IsFunction (v : PlainView) (f : Function) : Type 0 where
  pub start : f.start ≡ (symbol_at v f.name).value
  pub size : f.size ≡ (symbol_at v f.name).size

pub record IsCode (v : PlainView) (c : Code) : Type 0 where
  pub entry : c.entry ≡ v.entry
  pub kept : IsKept v (map name_of c.functions.items)
  pub functions : All (IsFunction v) c.functions.items
  pub ascending : IsStrictlyIncreasing (map start_of c.blocks.items)
  pub leaders : (a : ℕ) → has (map start_of c.blocks.items) a ≡ is_leader v a
  pub blocks : All (IsBlock v c.functions.items) c.blocks.items
  pub indirect_ascending : IsStrictlyIncreasing c.indirect.items
  pub indirect : (a : ℕ) → has c.indirect.items a ≡ is_indirect v a

-- the code of some file
abbrev pub IsSomeCode : Code → Type 0
IsSomeCode c = (v : PlainView) × IsCode v c

-- ---- faults

-- some word of code
abbrev pub is_any : ℕ → Bool
is_any a = true

-- at how many addresses below n a test passes
abbrev pub count_below : (ℕ → Bool) → ℕ → ℕ
count_below test zero = 0
count_below test (suc n) = if test n then suc (count_below test n) else count_below test n

-- how many addresses there are
unfoldable pub address_count : ℕ
address_count = 4294967296

-- how many blocks begin
abbrev pub block_count : PlainView → ℕ
block_count v = count_below (is_leader v) address_count

-- the first check that fails: there is code, the entry is a word of it, and at most 65,536 blocks begin
abbrev pub code_fault : PlainView → Option CodeFault
code_fault v =
    unless (any_code_word v is_any) NoText
    or_else unless (is_code_word v v.entry) EntryNotLeader
    or_else unless (nat_le (block_count v) 65536) (TooManyBlocks (min (block_count v) 4294967295))
