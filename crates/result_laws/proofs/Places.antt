-- Where the words of a copy stand.
use Rattle.std.proofs.Common.{◌≡◌, ◌∙◌, ℕ, suc, ◌+◌, ◌*◌, ◌<◌, ◌≤◌, Bool, true, if◌then◌else◌, List, length, slice_index, drop, refl, sym, ap, subst, arith}
use Rattle.std.proofs.lemmas.List.{get_or-take, get_or-drop, length-take, length-drop}
use Rattle.list_checks.proofs.SumLemmas.{sum_rises}
use Rattle.list_checks.specs.Sorted.{sum_below}
use Rattle.rv32im.specs.Memory.{Memory, word_at}
use Rattle.board_config.specs.declared.board.Range.{Range}
use Rattle.flat_machine.specs.Mapping.{is_mapped}
use Rattle.flat_machine.specs.State.{State}
use Rattle.block_splitter.specs.Forms.{is_site, body_at, holds_block, copy_size, block_size, copy_words}
use Rattle.block_splitter.specs.Copies.{Copy, is_inside, kind_in, words_before, place_of, address_of, words_at}
use Rattle.flat_machine.specs.Lines.{HoldsAt, AreMapped, IsAtWords}
use Rattle.result_laws.specs.CopyLaws.{IsInCopy, UnitsFollow}

-- ---- sums
pub sum_holds : (f : ℕ → ℕ) (k n : ℕ) → k < n → sum_below f k + f k ≤ sum_below f n
sum_holds f k n below = sum_rises f (suc k) n below

-- ---- words of a list

pub words_stand : (mem : Memory) (base place n : ℕ) (words : List ℕ) → place + n ≤ length words → HoldsAt mem base words → HoldsAt mem (base + 4 * place) (words_at words place n)
words_stand mem base place n words fits stand k below =
    let count = length-take n (drop place words) in
    let small : k < n = omega (arith, below, count) in
    let there : base + 4 * (place + k) ≡ base + 4 * place + 4 * k = omega arith in
    subst (λ a. word_at mem a ≡ slice_index (words_at words place n) k) there
    (stand (place + k) (omega (arith, small, fits))
    ∙ sym (get_or-take n (drop place words) k 0 small ∙ get_or-drop place words k 0))

pub words_count : (words : List ℕ) (place n : ℕ) → place + n ≤ length words → length (words_at words place n) ≡ n
words_count words place n fits =
    let taken = length-take n (drop place words) in
    let dropped = length-drop place words in
    omega (arith, taken, dropped, fits)

pub words_mapped : (map : List Range) (base place n : ℕ) (words : List ℕ) → place + n ≤ length words → AreMapped map base (4 * length words) → AreMapped map (base + 4 * place) (4 * length (words_at words place n))
words_mapped map base place n words fits mapped i below =
    let count = words_count words place n fits in
    let there : base + (4 * place + i) ≡ base + 4 * place + i = omega arith in
    subst (λ a. is_mapped map a ≡ true) there (mapped (4 * place + i) (omega (arith, below, count, fits)))

pub in_copy : (x : Copy) (words : List ℕ) (place n : ℕ) (s : State) → place + n ≤ length words → IsInCopy x words place s → IsAtWords s (address_of x place) (words_at words place n)
in_copy x words place n s fits here =
    record {
      going = here.going;
      pc = here.pc;
      stand = words_stand s.hart.mem x.at place n words fits here.stand;
      fetched = words_mapped s.map x.at place n words fits here.fetched;
    }

-- ---- places in a copy

pub units_follow : UnitsFollow
units_follow x b k = omega arith

-- the words of a block, by its number
abbrev pub size_at : Copy → ℕ → ℕ
size_at x b = block_size (is_site x.graph) (is_inside x) (body_at x.code.blocks.items b)

held_size : (x : Copy) (b : ℕ) (held : Bool) → held ≡ true → (if held then size_at x b else 0) ≡ size_at x b
held_size x b held is = rw is refl

-- a block ends where the next begins
pub next_place : (x : Copy) (b : ℕ) → holds_block b x.range ≡ true → words_before x (suc b) ≡ words_before x b + size_at x b
next_place x b held = ap (λ n. words_before x b + n) (held_size x b (holds_block b x.range) held)

pub block_fits : (x : Copy) (b : ℕ) → holds_block b x.range ≡ true → b < length x.code.blocks.items → words_before x b + size_at x b ≤ copy_words (is_site x.graph) x.code.blocks.items x.range
block_fits x b held below =
    let next = next_place x b held in
    let rest = sum_rises (λ j. if holds_block j x.range then size_at x j else 0) (suc b) (length x.code.blocks.items) below in
    omega (arith, next, rest)

pub unit_fits : (x : Copy) (b k : ℕ) → holds_block b x.range ≡ true → b < length x.code.blocks.items → k < length (body_at x.code.blocks.items b).units → place_of x b k + copy_size (is_inside x) (kind_in x b k) ≤ copy_words (is_site x.graph) x.code.blocks.items x.range
unit_fits x b k held below inside =
    let whole = block_fits x b held below in
    let unit = sum_holds (λ j. copy_size (is_inside x) (kind_in x b j)) k (length (body_at x.code.blocks.items b).units) inside in
    omega (arith, whole, unit)
