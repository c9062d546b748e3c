-- A program without a fault begins where a block does.
use Rattle.std.proofs.Common.{◌≡◌, ◌==◌, Bool, true, ◌&&◌, ◌||◌, length, None, refl, arith}
use Rattle.std.proofs.lemmas.Bool.Decides.{nat_tests}
use Rattle.list_checks.specs.First.{unless}
use Rattle.list_checks.proofs.FirstLemmas.{both_none, holds}
use Rattle.list_checks.specs.Tests.{any_below}
use Rattle.elf_reader.specs.File.{PlainView}
use Rattle.loaded_file.specs.Code.{is_code_word}
use Rattle.code_blocks.specs.Words.{any_code_word}
use Rattle.code_blocks.specs.Leaders.{is_function_at, makes_address, goes_to, comes_back, pair_goes_to, pair_comes_back, is_leader}
use Rattle.code_blocks.specs.Blocks.{is_any, code_fault}
use Rattle.code_blocks.specs.declared.fault.CodeFault.TheVariants.{NoText, EntryNotLeader}

named_code : (code same b c d e f g : Bool) → code ≡ true → same ≡ true → code && (same || b || c || d || e) || code && (f || g) ≡ true
named_code code same b c d e f g is_code is_same = rw (is_code, is_same) refl

-- the entry of a program without a fault is a leader
pub entry_leads : (v : PlainView) → code_fault v ≡ None → is_leader v v.entry ≡ true
entry_leads v none =
    let behind = both_none (unless (any_code_word v is_any) NoText) _ none in
    let entry = both_none (unless (is_code_word v v.entry) EntryNotLeader) _ behind.1 in
    let code = holds (is_code_word v v.entry) EntryNotLeader entry.0 in
    let same : (v.entry == v.entry) ≡ true = grind (arith, nat_tests) in
    named_code (is_code_word v v.entry) (v.entry == v.entry) (any_below (is_function_at v v.entry) (length v.symbols)) (any_below (makes_address v v.entry) (length v.relocs)) (any_code_word v (goes_to v v.entry)) (any_code_word v (comes_back v v.entry)) (any_code_word v (pair_goes_to v v.entry)) (any_code_word v (pair_comes_back v v.entry)) code same
