-- What a text says, read from the left, and the first byte that breaks the grammar.
use Rattle.std.specs.Prelude.{◌≡◌, ℕ, zero, suc, ◌-◌, ◌==◌, nat_lt, nat_le, Bool, true, false, ◌&&◌, if◌then◌else◌, List, [], ◌∷◌, length, Option, Some, None, Result, Ok, Err}
use Rattle.placement_programme.specs.Plain.{PlainChoice}
use Rattle.placement_programme.specs.Bounds.{row_of}
use Rattle.certificate_checker.specs.Nodes.{PlainTree, branch, over, dual, leaf, PlainCertificate}
use Rattle.certificate_checker.specs.Shows.{in_32_bits}
use Rattle.certificate_checker.specs.Digits.{number_at}
use Rattle.certificate_checker.specs.declared.digits.NumberFault.{NumberFault}
use Rattle.certificate_checker.specs.declared.digits.NumberFault.TheVariants.{Cut, Bad}
use Rattle.certificate_checker.specs.declared.fields.Part.{Part}
use Rattle.certificate_checker.specs.declared.fields.Part.TheVariants.{Head, Node}
use Rattle.certificate_checker.specs.declared.fault.CertFault.{CertFault}
use Rattle.certificate_checker.specs.declared.fault.CertFault.TheVariants.{BadHead, Truncated, BadNode, TooDeep, Trailing}

infixl 10 ◌>>=◌
abbrev pub ◌>>=◌ : {A B : Type 0} → Result A CertFault → (A → Result B CertFault) → Result B CertFault
(Ok x) >>= f = f x
(Err e) >>= f = Err e

-- what a function returned, seen by `view`, is what the definition gives
abbrev pub GivesAlways : {X Y : Type 0} → (X → Y) → Result X CertFault → Result Y CertFault → Type 0
GivesAlways view (Ok x) read = read ≡ Ok (view x)
GivesAlways view (Err e) read = read ≡ Err e

-- the place of the first of these bytes, which end a text of `total` bytes
unfoldable pub place : ℕ → List ℕ → ℕ
place total bytes = in_32_bits (total - length bytes)

-- a byte is needed where the text ends
abbrev pub cut_off : ℕ → CertFault
cut_off total = Truncated (in_32_bits total)

-- a rule is broken in the head or in a node
abbrev pub broken : Part → ℕ → CertFault
broken Head at = BadHead at
broken Node at = BadNode at

abbrev pub ranged : Part → ℕ → ℕ → ℕ → List ℕ → Result (ℕ × List ℕ) NumberFault → Result (ℕ × List ℕ) CertFault
ranged part least most total bytes (Err Cut) = Err (cut_off total)
ranged part least most total bytes (Err Bad) = Err (broken part (place total bytes))
ranged part least most total bytes (Ok x) =
    if nat_le least x.0 && nat_le x.0 most then Ok x else Err (broken part (place total bytes))

-- a number from `least` to `most`
unfoldable pub number_in : Part → ℕ → ℕ → ℕ → List ℕ → Result (ℕ × List ℕ) CertFault
number_in part least most total bytes = ranged part least most total bytes (number_at bytes)

-- a row from `least` on, and its multiplier
unfoldable pub entry_at : ℕ → ℕ → List ℕ → Result ((ℕ × ℕ) × List ℕ) CertFault
entry_at least total bytes =
    number_in Node least 4294967295 total bytes
    >>= λ row. number_in Node 0 18446744073709551615 total row.1
    >>= λ multiplier. Ok ((row.0, multiplier.0), multiplier.1)

-- so many things, each of which has a key; the keys ascend strictly
unfoldable pub many_at : {A : Type 0} → (ℕ → List ℕ → Result (A × List ℕ) CertFault) → (A → ℕ) → ℕ → ℕ → List ℕ → Result (List A × List ℕ) CertFault
many_at step key zero least bytes = Ok ([], bytes)
many_at step key (suc n) least bytes =
    step least bytes
    >>= λ x. many_at step key n (suc (key x.0)) x.1
    >>= λ xs. Ok (x.0 ∷ xs.0, xs.1)

abbrev pub var_key : ℕ → ℕ
var_key var = var

-- so many rows, each with its multiplier
abbrev pub entries_at : ℕ → ℕ → ℕ → List ℕ → Result (List (ℕ × ℕ) × List ℕ) CertFault
entries_at total count least bytes = many_at (λ low rest. entry_at low total rest) row_of count least bytes

unfoldable pub dual_at : ℕ → List ℕ → Result (PlainTree × List ℕ) CertFault
dual_at total bytes =
    number_in Node 1 65536 total bytes
    >>= λ scale. number_in Node 0 4294967295 total scale.1
    >>= λ count. entries_at total count.0 0 count.1
    >>= λ entries. Ok (dual scale.0 entries.0, entries.1)

unfoldable pub over_at : ℕ → List ℕ → Result (PlainTree × List ℕ) CertFault
over_at total bytes =
    number_in Node 0 4294967295 total bytes >>= λ row. Ok (over row.0, row.1)

-- what stands below the last level: a tag is too deep, and no other byte is a tag
abbrev pub below_all : ℕ → List ℕ → ℕ → CertFault
below_all total bytes tag = if nat_lt tag 4 then TooDeep (place total bytes) else BadNode (place total bytes)

-- a tree of at most `levels` levels
unfoldable pub tree_at : ℕ → ℕ → List ℕ → Result (PlainTree × List ℕ) CertFault
tree_at total levels [] = Err (cut_off total)
tree_at total zero (tag ∷ bytes) = Err (below_all total (tag ∷ bytes) tag)
tree_at total (suc levels) (zero ∷ bytes) =
    number_in Node 0 4294967295 total bytes
    >>= λ var. tree_at total levels var.1
    >>= λ first. tree_at total levels first.1
    >>= λ second. Ok (branch var.0 first.0 second.0, second.1)
tree_at total (suc levels) (suc zero ∷ bytes) = over_at total bytes
tree_at total (suc levels) (suc (suc zero) ∷ bytes) = dual_at total bytes
tree_at total (suc levels) (suc (suc (suc zero)) ∷ bytes) = Ok (leaf, bytes)
tree_at total (suc levels) (suc (suc (suc (suc tag))) ∷ bytes) =
    Err (BadNode (place total (suc (suc (suc (suc tag))) ∷ bytes)))

-- a root and the depths 1 to 4096
unfoldable pub most_levels : ℕ
most_levels = 4097

-- one byte of the mark
abbrev pub one_byte : ℕ → ℕ → List ℕ → Result (List ℕ) CertFault
one_byte wanted total [] = Err (cut_off total)
one_byte wanted total (b ∷ bytes) = if b == wanted then Ok bytes else Err (BadHead (place total (b ∷ bytes)))

-- the mark 53 50 43 31
unfoldable pub mark_at : ℕ → List ℕ → Result (List ℕ) CertFault
mark_at total bytes =
    one_byte 0x53 total bytes
    >>= λ a. one_byte 0x50 total a
    >>= λ b. one_byte 0x43 total b
    >>= λ c. one_byte 0x31 total c

-- a byte that is 0 or 1
abbrev pub flag_at : ℕ → List ℕ → Result (Bool × List ℕ) CertFault
flag_at total [] = Err (cut_off total)
flag_at total (zero ∷ bytes) = Ok (false, bytes)
flag_at total (suc zero ∷ bytes) = Ok (true, bytes)
flag_at total (suc (suc b) ∷ bytes) = Err (BadHead (place total (suc (suc b) ∷ bytes)))

-- so many numbers of variables
abbrev pub vars_at : ℕ → ℕ → ℕ → List ℕ → Result (List ℕ × List ℕ) CertFault
vars_at total count least bytes =
    many_at (λ low rest. number_in Head low 4294967295 total rest) var_key count least bytes

unfoldable pub choice_at : ℕ → List ℕ → Result (PlainChoice × List ℕ) CertFault
choice_at total bytes =
    flag_at total bytes
    >>= λ on. number_in Head 0 4294967295 total on.1
    >>= λ count. vars_at total count.0 0 count.1
    >>= λ vars. Ok (record { on = on.0; take = vars.0 }, vars.1)

abbrev pub PlainTrees : Type 0
PlainTrees = Option PlainTree × Option PlainTree

-- one or two trees, which begin with the off tree
abbrev pub second_at : ℕ → ℕ → PlainTree × List ℕ → Result (PlainTrees × List ℕ) CertFault
second_at count total off =
    if count == 1 then Ok ((Some off.0, None), off.1)
    else tree_at total most_levels off.1 >>= λ on. Ok ((Some off.0, Some on.0), on.1)

unfoldable pub trees_at : ℕ → List ℕ → Result (PlainTrees × List ℕ) CertFault
trees_at total bytes =
    number_in Head 1 2 total bytes
    >>= λ count. tree_at total most_levels count.1
    >>= λ off. second_at count.0 total off

-- trees where the choice is claimed to be optimal
abbrev pub trees_for : Bool → ℕ → List ℕ → Result (PlainTrees × List ℕ) CertFault
trees_for false total bytes = Ok ((None, None), bytes)
trees_for true total bytes = trees_at total bytes

-- nothing is left of the text
abbrev pub ended : {X : Type 0} → ℕ → X → List ℕ → Result X CertFault
ended total x bytes = if length bytes == 0 then Ok x else Err (Trailing (place total bytes))

-- a certificate behind the mark
unfoldable pub body_at : ℕ → List ℕ → Result PlainCertificate CertFault
body_at total bytes =
    flag_at total bytes
    >>= λ optimal. choice_at total optimal.1
    >>= λ choice. trees_for optimal.0 total choice.1
    >>= λ trees. ended total (record { choice = choice.0; off = trees.0.0; on = trees.0.1 }) trees.1

-- the certificate that the whole text spells, or its first fault
unfoldable pub certificate_of : List ℕ → Result PlainCertificate CertFault
certificate_of bytes = mark_at (length bytes) bytes >>= λ rest. body_at (length bytes) rest
