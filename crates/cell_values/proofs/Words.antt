-- Operations on values that hold words leave such values.
use Rattle.std.proofs.Common.{ℕ, ◌<◌, Bool, true, false, Option, Some, None, subst, sym, arith, if◌then◌else◌}
use Rattle.std.specs.Prelude.{nat_lt, nat_le, ◌==◌, ◌-◌, ◌%◌}
use Rattle.std.specs.Int.{cast_unsigned, w32}
use Rattle.rv32im.specs.declared.instructions.BranchKind.TheVariants.{Bltu}
use Rattle.std.proofs.lemmas.Bool.Decides.{nat_tests}
use Rattle.std.proofs.lemmas.Nat.{and_le_r}
use Rattle.rv32im.specs.Memory.{put, zeros}
use Rattle.rv32im.specs.Words.{minus}
use Rattle.rv32im.specs.Acts.{reg_value, Hart, HoldsWords, ActsKeepsWords}
use Rattle.rv32im.specs.declared.instructions.Instr.TheVariants.{OpReg}
use Rattle.rv32im.specs.declared.instructions.RegKind.{RegKind}
use Rattle.rv32im.specs.declared.instructions.RegKind.TheVariants.{Add, Sub, Sltu, Xor, Or, And}
use Rattle.cell_values.specs.Objects.{Objects, IsGrain, low_of}
use Rattle.cell_values.specs.Comparisons.{compare}
use Rattle.rv32im.specs.Operations.{operation_of}
use Rattle.cell_values.specs.Operations.{of_lows, by_lows, added, subtracted, kept_bits, masked_low, masked_address, masked, changed_address, changed, flagged, numbered}
use Rattle.cell_values.specs.Laws.{HoldsWord, RegistersKeepWords, ImmediatesKeepWords, OperationsKeepWords}
use Rattle.cell_values.specs.declared.values.Val.{Val}
use Rattle.cell_values.specs.declared.values.Val.TheVariants.{Int, Addr}
use Rattle.cell_values.proofs.Immediates.{immediate_word, immediates_are_numbers}

-- a hart with two words in registers 2 and 3
abbrev words_at : ℕ → ℕ → ℕ → ℕ
words_at a b k = if k == 2 then a else b

abbrev two_words : ℕ → ℕ → Hart
two_words a b = record { pc = 0; regs = words_at a b; mem = zeros }

either_word : (a b : ℕ) → a < 4294967296 → b < 4294967296 → (k : ℕ) → words_at a b k < 4294967296
either_word a b a_word b_word k = grind (arith, nat_tests)

holds_two : (a b : ℕ) → a < 4294967296 → b < 4294967296 → HoldsWords (two_words a b)
holds_two a b a_word b_word = record { pc = omega arith; regs = either_word a b a_word b_word; mem = λ _. omega arith }

reg_word : ActsKeepsWords → (kind : RegKind) (a b : ℕ) → a < 4294967296 → b < 4294967296 → reg_value kind a b < 4294967296
unfolding put
reg_word keeps kind a b a_word b_word =
    (keeps (OpReg kind 1 2 3) (two_words a b) (omega arith, omega arith, omega arith) (holds_two a b a_word b_word)).regs 1

-- ---- the tables

chosen : (test : Bool) (x y : Val) → HoldsWord x → HoldsWord y → HoldsWord (if test then x else y)
chosen true x y first second = first
chosen false x y first second = second

below_grain : (g n : ℕ) → IsGrain g → n % g < 4294967296
below_grain g n grain = grind arith

of_lows_word : (kind : RegKind) (g : ℕ) (x y : Option ℕ) → IsGrain g → HoldsWord (of_lows kind g x y)
of_lows_word kind g (Some a) (Some b) grain = below_grain g (reg_value kind a b) grain
of_lows_word kind g (Some a) None grain = tt
of_lows_word kind g None y grain = tt

lows_word : (os : Objects) (kind : RegKind) (a b : Val) → IsGrain os.grain → HoldsWord (by_lows os kind a b)
lows_word os kind a b grain = of_lows_word kind os.grain (low_of os a) (low_of os b) grain

added_word : ActsKeepsWords → (os : Objects) (a b : Val) → IsGrain os.grain → HoldsWord a → HoldsWord b → HoldsWord (added os a b)
added_word keeps os (Int a) (Int b) grain x y = reg_word keeps Add a b x y
added_word keeps os (Addr o d) (Int n) grain x y = omega arith
added_word keeps os (Int n) (Addr o d) grain x y = omega arith
added_word keeps os a b grain x y = lows_word os Add a b grain

minus_word : (a b : ℕ) → minus a b < 4294967296
minus_word a b = omega arith

subtracted_word : ActsKeepsWords → (os : Objects) (a b : Val) → IsGrain os.grain → HoldsWord a → HoldsWord b → HoldsWord (subtracted os a b)
subtracted_word keeps os (Int a) (Int b) grain x y = reg_word keeps Sub a b x y
subtracted_word keeps os (Addr o d) (Int n) grain x y = minus_word d n
subtracted_word keeps os (Addr o d) (Addr p e) grain x y =
    chosen (o == p) (Int (minus d e)) _ (minus_word d e) (lows_word os Sub (Addr o d) (Addr p e) grain)
subtracted_word keeps os a b grain x y = lows_word os Sub a b grain

kept_word : (m : ℕ) (low : Option ℕ) → m < 4294967296 → HoldsWord (kept_bits m low)
kept_word m (Some low) word = omega (arith, and_le_r low m)
kept_word m None word = tt

masked_low_word : (os : Objects) (m : ℕ) (a : Val) → IsGrain os.grain → m < 4294967296 → HoldsWord (masked_low os m a)
masked_low_word os m a grain word =
    chosen (nat_lt m os.grain) (kept_bits m (low_of os a)) _ (kept_word m (low_of os a) word) (lows_word os And (Int m) a grain)

masked_address_word : (os : Objects) (o d m : ℕ) → IsGrain os.grain → m < 4294967296 → HoldsWord (masked_address os o d m)
masked_address_word os o d m grain word =
    chosen (nat_le (4294967296 - os.grain) m) (Addr o _) _ (minus_word d _) (masked_low_word os m (Addr o d) grain word)

masked_word : ActsKeepsWords → (os : Objects) (a b : Val) → IsGrain os.grain → HoldsWord a → HoldsWord b → HoldsWord (masked os a b)
masked_word keeps os (Int a) (Int b) grain x y = reg_word keeps And a b x y
masked_word keeps os (Addr o d) (Int m) grain x y = masked_address_word os o d m grain y
masked_word keeps os (Int m) (Addr o d) grain x y = masked_address_word os o d m grain x
masked_word keeps os a (Int m) grain x y = masked_low_word os m a grain y
masked_word keeps os (Int m) b grain x y = masked_low_word os m b grain x
masked_word keeps os a b grain x y = lows_word os And a b grain

changed_address_word : (os : Objects) (kind : RegKind) (o d m : ℕ) → IsGrain os.grain → HoldsWord (changed_address os kind o d m)
changed_address_word os kind o d m grain =
    chosen (nat_lt m os.grain) (Addr o _) _ (minus_word _ _) (lows_word os kind (Addr o d) (Int m) grain)

changed_word : ActsKeepsWords → (os : Objects) (kind : RegKind) (a b : Val) → IsGrain os.grain → HoldsWord a → HoldsWord b → HoldsWord (changed os kind a b)
changed_word keeps os kind (Int a) (Int b) grain x y = reg_word keeps kind a b x y
changed_word keeps os kind (Addr o d) (Int m) grain x y = changed_address_word os kind o d m grain
changed_word keeps os kind (Int m) (Addr o d) grain x y = changed_address_word os kind o d m grain
changed_word keeps os kind a b grain x y = lows_word os kind a b grain

flagged_word : (less : Option Bool) → HoldsWord (flagged less)
flagged_word (Some true) = omega arith
flagged_word (Some false) = omega arith
flagged_word None = tt

numbered_word : ActsKeepsWords → (kind : RegKind) (a b : Val) → HoldsWord a → HoldsWord b → HoldsWord (numbered kind a b)
numbered_word keeps kind (Int a) (Int b) x y = reg_word keeps kind a b x y
numbered_word keeps kind a b x y = tt

-- ---- the operations

registers_keep : ActsKeepsWords → RegistersKeepWords
registers_keep keeps os Add a b grain x y = added_word keeps os a b grain x y
registers_keep keeps os Sub a b grain x y = subtracted_word keeps os a b grain x y
registers_keep keeps os And a b grain x y = masked_word keeps os a b grain x y
registers_keep keeps os Or a b grain x y = changed_word keeps os Or a b grain x y
registers_keep keeps os Xor a b grain x y = changed_word keeps os Xor a b grain x y
registers_keep keeps os Sltu a b grain x y = flagged_word (compare os Bltu a b)
registers_keep keeps os kind a b grain x y = numbered_word keeps kind a b x y

immediates_keep : ActsKeepsWords → ImmediatesKeepWords
immediates_keep keeps os kind a imm grain x fits =
    subst HoldsWord (sym (immediates_are_numbers os kind a imm fits))
    (registers_keep keeps os (operation_of kind) a (Int (cast_unsigned w32 imm)) grain x (immediate_word imm fits))

pub operations_keep : ActsKeepsWords → OperationsKeepWords
operations_keep keeps = (registers_keep keeps, immediates_keep keeps)
