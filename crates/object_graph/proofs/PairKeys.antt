-- The low parts that name an AUIPC fit it just where none has a key of that AUIPC with another low part.
use Rattle.std.proofs.Common.{◌≡◌, ◌∙◌, ℕ, ◌+◌, ◌-◌, ◌*◌, ◌%◌, ◌<◌, ◌≤◌, ◌==◌, Bool, true, false, not, ◌&&◌, ◌||◌, if◌then◌else◌, List, length, refl, sym, ap, arith}
use Rattle.std.specs.Int.{cast_unsigned, w32}
use Rattle.std.specs.List.{list_any}
use Rattle.std.proofs.lemmas.Bool.Decides.{nat_tests}
use Rattle.rv32im.specs.Words.{upper_half}
use Rattle.rv32im.specs.Fields.{opcode_of}
use Rattle.list_checks.specs.Tests.{any_below}
use Rattle.elf_reader.specs.File.{PlainView}
use Rattle.elf_reader.specs.declared.view.Reloc.{Reloc}
use Rattle.loaded_file.specs.Code.{is_code_word, image_word}
use Rattle.loaded_file.specs.Records.{reloc_at, counts, symbol_of, is_call_kind}
use Rattle.list_checks.specs.Sorted.{is_inside, is_number}
use Rattle.loaded_file.specs.Listed.{passes_with}
use Rattle.object_graph.specs.Rewritable.{is_addi, is_load_word, is_store_word, i_low, s_low, distance, is_pair_low, is_paired, is_unpaired, is_call_at, u_high, is_rewritable_pair}
use Rattle.object_graph.specs.Lists.{is_calling, change_start, is_lower, is_upper_pair, form_part, low_part, low_key, AreListsOf}
use Rattle.object_graph.specs.declared.lists.RelocationLists.{RelocationLists}
use Rattle.object_graph.proofs.ListLemmas.{any_or, any_same, first_passes, first_fails}

-- no number is both kinds
one_kind : (kind : ℕ) → (kind == 24) ≡ true → (kind == 25) ≡ false
one_kind kind is = grind (arith, nat_tests, is)

form_step : (i s fits_i fits_s : Bool) (x y low : ℕ) → low < 4096 → (i ≡ true → s ≡ false) → ((if i && fits_i then x else if s && fits_s then y else 4096) == low) ≡ (i && (fits_i && (x == low)) || s && (fits_s && (y == low)))
form_step true true fits_i fits_s x y low below one = let none = one refl in cc
form_step true false true fits_s x y low below one = grind (arith, nat_tests, below)
form_step true false false fits_s x y low below one = grind (arith, nat_tests, below)
form_step false true fits_i true x y low below one = grind (arith, nat_tests, below)
form_step false true fits_i false x y low below one = grind (arith, nat_tests, below)
form_step false false fits_i fits_s x y low below one = grind (arith, nat_tests, below)

part_step : (b fits : Bool) (part low : ℕ) → low < 4096 → (part == low) ≡ fits → ((if b then part else 4096) == low) ≡ (b && fits)
part_step true fits part low below is = is
part_step false fits part low below is = grind (arith, nat_tests, below)

-- the low part is that of the distance just where the relocation is paired
paired_is : (v : PlainView) (high low : Reloc) → (low_part v low == distance v high % 4096) ≡ is_paired v high low
paired_is v high low =
    let w = image_word v low.at in
    let d = distance v high % 4096 in
    let below : d < 4096 = omega arith in
    part_step ((cast_unsigned w32 low.addend == 0) && is_code_word v low.at) _ (form_part w low.kind) d below
    (form_step (low.kind == 24) (low.kind == 25) (is_addi w || is_load_word w) (is_store_word w) (i_low w) (s_low w) d below (one_kind low.kind))

form_le : (i s : Bool) (x y : ℕ) → x ≤ 4096 → y ≤ 4096 → (if i then x else if s then y else 4096) ≤ 4096
form_le true s x y first second = first
form_le false true x y first second = second
form_le false false x y first second = omega arith

part_le : (b : Bool) (x : ℕ) → x ≤ 4096 → (if b then x else 4096) ≤ 4096
part_le true x le = le
part_le false x le = omega arith

low_part_le : (v : PlainView) (r : Reloc) → low_part v r ≤ 4096
low_part_le v r =
    let w = image_word v r.at in
    part_le ((cast_unsigned w32 r.addend == 0) && is_code_word v r.at) (form_part w r.kind)
    (form_le ((r.kind == 24) && (is_addi w || is_load_word w)) ((r.kind == 25) && is_store_word w) (i_low w) (s_low w) (omega arith) (omega arith))

key_step : (value part at low size : ℕ) → part ≤ 4096 → low < 4096 → size + (low + 1) ≡ 8192 → (is_inside (at * 8192) low (value * 8192 + part) || is_inside (at * 8192 + low + 1) size (value * 8192 + part)) ≡ ((value == at) && not (part == low))
key_step value part at low size le below sum = grind (arith, nat_tests, le, below, sum)

lower_step : (c l a b e q : Bool) → (a || b) ≡ (e && not q) → (c && l && a || c && l && b) ≡ (c && (l && e) && not q)
lower_step true true a b e q same = same
lower_step true false a b e q same = refl
lower_step false l a b e q same = refl

unpaired_at : (v : PlainView) (high : Reloc) (size : ℕ) → size + (distance v high % 4096 + 1) ≡ 8192 → (j : ℕ) → (passes_with (is_lower v) (low_key v) (is_inside (high.at * 8192) (distance v high % 4096)) j || passes_with (is_lower v) (low_key v) (is_inside (high.at * 8192 + distance v high % 4096 + 1) size) j) ≡ is_unpaired v high j
unpaired_at v high size sum j =
    let low = reloc_at v j in
    let d = distance v high % 4096 in
    let value = (symbol_of v low).value in
    let below : d < 4096 = omega arith in
    lower_step (counts v low) (is_pair_low low.kind) (is_inside (high.at * 8192) d (low_key v j)) (is_inside (high.at * 8192 + d + 1) size (low_key v j)) (value == high.at) (is_paired v high low)
    (key_step value (low_part v low) high.at d size (low_part_le v low) below sum
    ∙ ap (λ b. (value == high.at) && not b) (paired_is v high low))

pub unpaired_is : (v : PlainView) (lists : RelocationLists) (high : Reloc) (size : ℕ) → AreListsOf v lists → size + (distance v high % 4096 + 1) ≡ 8192 → (list_any (is_inside (high.at * 8192) (distance v high % 4096)) lists.low_keys.items || list_any (is_inside (high.at * 8192 + distance v high % 4096 + 1) size) lists.low_keys.items) ≡ any_below (is_unpaired v high) (length v.relocs)
unpaired_is v lists high size are sum =
    let n = length v.relocs in
    let below = is_inside (high.at * 8192) (distance v high % 4096) in
    let above = is_inside (high.at * 8192 + distance v high % 4096 + 1) size in
    ap (λ b. b || list_any above lists.low_keys.items) (are.low_keys.any below)
    ∙ ap (λ b. any_below (passes_with (is_lower v) (low_key v) below) n || b) (are.low_keys.any above)
    ∙ any_or (passes_with (is_lower v) (low_key v) below) (passes_with (is_lower v) (low_key v) above) n
    ∙ any_same (λ j. passes_with (is_lower v) (low_key v) below j || passes_with (is_lower v) (low_key v) above j) (is_unpaired v high) n (unpaired_at v high size sum)

turned : (a b : ℕ) → (a == b) ≡ (b == a)
turned a b = grind (arith, nat_tests)

-- a call begins at an address just where the list of calls has it
pub calls_are : (v : PlainView) (lists : RelocationLists) (at : ℕ) → AreListsOf v lists → list_any (is_number at) lists.calls.items ≡ any_below (is_call_at v at) (length v.relocs)
calls_are v lists at are =
    are.calls.any (is_number at)
    ∙ any_same (passes_with (is_calling v) (change_start v) (is_number at)) (is_call_at v at) (length v.relocs) (λ j. ap (λ b. counts v (reloc_at v j) && is_call_kind (reloc_at v j).kind && b) (turned at (reloc_at v j).at))

-- what the two questions for keys tell
pub unpaired_first : (v : PlainView) (lists : RelocationLists) (high : Reloc) (at low : ℕ) (a : Bool) (keys : List ℕ) → AreListsOf v lists → at ≡ high.at → low ≡ distance v high % 4096 → keys ≡ lists.low_keys.items → a ≡ list_any (is_inside (at * 8192) low) keys → a ≡ true → a ≡ any_below (is_unpaired v high) (length v.relocs)
unpaired_first v lists high at low a keys are here lows first is passes =
    let d = distance v high % 4096 in
    let size = 8191 - d in
    let sum : size + (d + 1) ≡ 8192 = omega arith in
    let other = list_any (is_inside (high.at * 8192 + d + 1) size) lists.low_keys.items in
    let told : a ≡ list_any (is_inside (high.at * 8192) d) lists.low_keys.items = is ∙ ap (λ x. list_any (is_inside (x * 8192) low) keys) here ∙ ap (λ x. list_any (is_inside (high.at * 8192) x) keys) lows ∙ ap (list_any (is_inside (high.at * 8192) d)) first in
    first_passes a other _ passes (ap (λ b. b || other) told ∙ unpaired_is v lists high size are sum)

pub unpaired_second : (v : PlainView) (lists : RelocationLists) (high : Reloc) (at low : ℕ) (a b : Bool) (keys more_keys : List ℕ) → AreListsOf v lists → at ≡ high.at → low ≡ distance v high % 4096 → keys ≡ lists.low_keys.items → a ≡ list_any (is_inside (at * 8192) low) keys → a ≡ false → more_keys ≡ lists.low_keys.items → b ≡ list_any (is_inside (at * 8192 + low + 1) (8191 - low)) more_keys → b ≡ any_below (is_unpaired v high) (length v.relocs)
unpaired_second v lists high at low a b keys more_keys are here lows first is fails second after =
    let d = distance v high % 4096 in
    let size = 8191 - d in
    let sum : size + (d + 1) ≡ 8192 = omega arith in
    let items = lists.low_keys.items in
    let told : a ≡ list_any (is_inside (high.at * 8192) d) items = is ∙ ap (λ x. list_any (is_inside (x * 8192) low) keys) here ∙ ap (λ x. list_any (is_inside (high.at * 8192) x) keys) lows ∙ ap (list_any (is_inside (high.at * 8192) d)) first in
    let more : b ≡ list_any (is_inside (high.at * 8192 + d + 1) size) items = after ∙ ap (λ x. list_any (is_inside (x * 8192 + low + 1) (8191 - low)) more_keys) here ∙ ap (λ x. list_any (is_inside (high.at * 8192 + x + 1) (8191 - x)) more_keys) lows ∙ ap (list_any (is_inside (high.at * 8192 + d + 1) size)) second in
    first_fails a b _ fails (ap (λ c. c || b) told ∙ ap (λ c. list_any (is_inside (high.at * 8192) d) items || c) more ∙ unpaired_is v lists high size are sum)

pair_order : (k c o u call unpaired : Bool) → ((k && c && o && u) && (not call && not unpaired)) ≡ (k && c && o && not call && u && not unpaired)
pair_order k c o u call unpaired = grind arith

-- the parts of a rewritable pair
pub pair_is : (v : PlainView) (i : ℕ) (r : Reloc) (upper alone : Bool) → reloc_at v i ≡ r → upper ≡ is_upper_pair v r → alone ≡ (not (any_below (is_call_at v (reloc_at v i).at) (length v.relocs)) && not (any_below (is_unpaired v (reloc_at v i)) (length v.relocs))) → (upper && alone) ≡ is_rewritable_pair v (reloc_at v i)
pair_is v i r upper alone here first second =
    let high = reloc_at v i in
    let w = image_word v high.at in
    ap (λ b. b && alone) (first ∙ ap (is_upper_pair v) (sym here))
    ∙ ap (λ b. is_upper_pair v high && b) second
    ∙ pair_order (high.kind == 23) (is_code_word v high.at) (opcode_of w == 23) (u_high w == upper_half (distance v high)) (any_below (is_call_at v high.at) (length v.relocs)) (any_below (is_unpaired v high) (length v.relocs))
