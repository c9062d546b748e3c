-- What holds of the symbol of an object.
use Rattle.std.proofs.Common.{◌≡◌, ℕ, ◌+◌, ◌<◌, ◌≤◌, ◌==◌, nat_lt, nat_le, true, false, not, ◌&&◌, length, arith}
use Rattle.std.proofs.lemmas.Bool.{leb-true, ltb-true, eqb-true}
use Rattle.list_checks.specs.Tests.{lies_in}
use Rattle.list_checks.proofs.TestLemmas.{both, not_true}
use Rattle.elf_reader.specs.File.{PlainSymbol, PlainView}
use Rattle.elf_reader.specs.Loaded.{is_loaded}
use Rattle.loaded_file.specs.Ranges.{is_executable, owner_of, has_byte_range, has_owner, has_range, is_of}

-- the symbol of an object
pub record HasRange (v : PlainView) (s : PlainSymbol) : Type 0 where
  pub kind : s.kind ≡ 1
  pub filled : 0 < s.size
  pub placed : 0 < s.value
  pub ends : s.value + s.size ≤ 4294967295
  pub owner : s.section < length v.sections
  pub loaded : is_loaded v s.section ≡ true
  pub no_code : is_executable (owner_of v s) ≡ false
  pub lies : lies_in (owner_of v s).addr (owner_of v s).size s.value s.size ≡ true

pub range_parts : (v : PlainView) (s : PlainSymbol) → has_range v s ≡ true → HasRange v s
range_parts v s passes =
    let owner = nat_lt s.section (length v.sections) in
    let loaded = is_loaded v s.section in
    let code = is_executable (owner_of v s) in
    let lies = lies_in (owner_of v s).addr (owner_of v s).size s.value s.size in
    let filled = nat_lt 0 s.size in
    let placed = nat_lt 0 s.value in
    let ends = nat_le (s.value + s.size) 4294967295 in
    let whole = both ((s.kind == 1) && has_byte_range s) (has_owner v s) passes in
    let front = both (s.kind == 1) (has_byte_range s) whole.0 in
    let byte_range = both (filled && placed) ends front.1 in
    let begins = both filled placed byte_range.0 in
    let owned = both (owner && loaded && not code) lies whole.1 in
    let plain = both (owner && loaded) (not code) owned.0 in
    let inner = both owner loaded plain.0 in
    record {
      kind = eqb-true s.kind 1 front.0;
      filled = ltb-true 0 s.size begins.0;
      placed = ltb-true 0 s.value begins.1;
      ends = leb-true (s.value + s.size) 4294967295 byte_range.1;
      owner = ltb-true s.section (length v.sections) inner.0;
      loaded = inner.1;
      no_code = not_true code plain.1;
      lies = owned.1;
    }

-- a symbol of the object of `n` bytes at `home`
pub record IsOf (v : PlainView) (home n : ℕ) (s : PlainSymbol) : Type 0 where
  pub test : has_range v s ≡ true
  pub range : HasRange v s
  pub value : s.value ≡ home
  pub size : s.size ≡ n

pub of_parts : (v : PlainView) (home n : ℕ) (s : PlainSymbol) → is_of v home n s ≡ true → IsOf v home n s
of_parts v home n s passes =
    let last = both (has_range v s && (s.value == home)) (s.size == n) passes in
    let first = both (has_range v s) (s.value == home) last.0 in
    record {
      test = first.0;
      range = range_parts v s first.0;
      value = eqb-true s.value home first.1;
      size = eqb-true s.size n last.1;
    }

-- the object begins behind address 0, has bytes, and ends below 2 ^ 32
pub record HasByteRange (home n : ℕ) : Type 0 where
  pub filled : 0 < n
  pub placed : 0 < home
  pub ends : home + n ≤ 4294967295

pub byte_range_of : (v : PlainView) (home n : ℕ) (s : PlainSymbol) → IsOf v home n s → HasByteRange home n
byte_range_of v home n s of =
    let range = of.range in
    let value = of.value in
    let size = of.size in
    record {
      filled = omega (arith, size, range.filled);
      placed = omega (arith, value, range.placed);
      ends = omega (arith, value, size, range.ends);
    }
