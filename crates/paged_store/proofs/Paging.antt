-- What a paged memory holds after a write, and after a page was made.
use Rattle.std.proofs.Common.{◌≡◌, ◌≢◌, ℕ, ◌+◌, ◌-◌, ◌*◌, ◌/◌, ◌%◌, ◌<◌, ◌≤◌, List, [], ◌∷◌, length, slice_set, slice_index, inl, inr, arith, ap, sym, subst, ◌∙◌}
use Rattle.std.specs.Prelude.{IsTrue}
use Rattle.std.proofs.lemmas.Grind.{common_steps}
use Rattle.std.proofs.lemmas.List.{get_or_past}
use Rattle.std.proofs.lemmas.Bool.{cases_lt}
use Rattle.std.proofs.lemmas.Bool.Decides.{nat_tests}
use Rattle.rv32im.specs.Words.{plus}
use Rattle.rv32im.specs.Memory.{put_bytes}
use Rattle.paged_store.specs.Room.{HasRoom}
use Rattle.paged_store.proofs.Puts.{put_bytes_before, put_bytes_behind, put_bytes_at}
use Rattle.paged_store.specs.Pages.{page_of, byte_place, paged_bytes, has_page, with_piece, IsZeroPage, AreDisjoint}

-- ---- pages and the addresses in them

-- the place in the directory of an address `k` behind another
page_index : (at k : ℕ) → plus at k / 4096 ≡ (at / 4096 + (at % 4096 + k) / 4096) % 1048576
page_index at k = omega arith

has_page_is : (directory : List ℕ) (a : ℕ) → page_of directory a ≢ 0 → IsTrue (has_page directory a)
has_page_is directory a some = grind (arith, nat_tests)

page_is_some : (directory : List ℕ) (a : ℕ) → IsTrue (has_page directory a) → page_of directory a ≢ 0
page_is_some directory a has = grind (arith, nat_tests)

-- where the pages of a span are there, so is its room
pub room_of_pages : (directory : List ℕ) (at n : ℕ) → ((j : ℕ) → j < (at % 4096 + n + 4095) / 4096 → slice_index directory ((at / 4096 + j) % 1048576) ≢ 0) → HasRoom (has_page directory) at n
room_of_pages directory at n made k h =
    let inside : (at % 4096 + k) / 4096 < (at % 4096 + n + 4095) / 4096 = omega arith in
    has_page_is directory (plus at k) (λ none. made ((at % 4096 + k) / 4096) inside (ap (slice_index directory) (sym (page_index at k)) ∙ none))

-- and where there is room, the pages are there
pub pages_of_room : (directory : List ℕ) (at n j : ℕ) → 0 < n → j < (at % 4096 + n + 4095) / 4096 → HasRoom (has_page directory) at n → slice_index directory ((at / 4096 + j) % 1048576) ≢ 0
pages_of_room directory at n j some h room none =
    let k : ℕ = j * 4096 - at % 4096 in
    let inside : k < n = omega arith in
    let page : (at % 4096 + k) / 4096 ≡ j = omega arith in
    page_is_some directory (plus at k) (room k inside)
    (ap (slice_index directory) (page_index at k ∙ ap (λ i. (at / 4096 + i) % 1048576) page) ∙ none)

-- each address of a span has a page
pub room_at : (directory : List ℕ) (at n k a : ℕ) → HasRoom (has_page directory) at n → k < n → plus at k ≡ a → IsTrue (has_page directory a)
room_at directory at n k a room inside here = subst (λ b. IsTrue (has_page directory b)) here (room k inside)

pub page_at : (directory : List ℕ) (at n k a : ℕ) → HasRoom (has_page directory) at n → k < n → plus at k ≡ a → page_of directory a ≢ 0
page_at directory at n k a room inside here = page_is_some directory a (room_at directory at n k a room inside here)

-- a page that is there stands in the directory
pub page_inside : (directory : List ℕ) (k : ℕ) → slice_index directory k ≢ 0 → 0 < length directory
page_inside [] k some = absurd (some (grind (arith, common_steps)))
page_inside (page ∷ pages) k some = grind (arith, common_steps)

-- ---- writes

-- what stands before a piece, in it and behind it
piece_before : (bytes piece : List ℕ) (place i : ℕ) → place + length piece ≤ length bytes → i < place → slice_index (with_piece bytes place piece) i ≡ slice_index bytes i
piece_before bytes piece place i inside h = grind (arith, common_steps)

piece_behind : (bytes piece : List ℕ) (place i : ℕ) → place + length piece ≤ length bytes → place + length piece ≤ i → slice_index (with_piece bytes place piece) i ≡ slice_index bytes i
piece_behind bytes piece place i inside h = grind (arith, common_steps)

piece_in : (bytes piece : List ℕ) (place k i : ℕ) → place + length piece ≤ length bytes → i ≡ place + k → k < length piece → slice_index (with_piece bytes place piece) i ≡ slice_index piece k
piece_in bytes piece place k i inside here h = grind (arith, common_steps)

-- the zeros of page 0 stand before all other pages
pub zeros_stay : (bytes piece : List ℕ) (place : ℕ) → place + length piece ≤ length bytes → 4096 ≤ place → IsZeroPage bytes → IsZeroPage (with_piece bytes place piece)
zeros_stay bytes piece place inside behind zeros i h = piece_before bytes piece place i inside (omega arith) ∙ zeros i h

-- the addresses of a page are those of the places in it, in a row
place_of_address : (directory : List ℕ) (at n a : ℕ) → at % 4096 + n ≤ 4096 → at ≤ a → a < at + n → byte_place directory a ≡ byte_place directory at + (a - at)
place_of_address directory at n a inside from to =
    let index : a / 4096 ≡ at / 4096 = omega arith in
    let page : page_of directory a ≡ page_of directory at = ap (slice_index directory) index in
    omega arith

address_of_place : (directory : List ℕ) (at n a : ℕ) → AreDisjoint directory → page_of directory at ≢ 0 → at % 4096 + n ≤ 4096 → byte_place directory at ≤ byte_place directory a → byte_place directory a < byte_place directory at + n → (at ≤ a) × (a < at + n)
address_of_place directory at n a disjoint some inside from to =
    let page : page_of directory at ≡ page_of directory a = omega arith in
    let index : at / 4096 ≡ a / 4096 = disjoint (at / 4096) (a / 4096) some page in
    (omega arith, omega arith)

-- an address of the span, and any other
inside_at : (directory bytes piece : List ℕ) (at a : ℕ) → at % 4096 + length piece ≤ 4096 → byte_place directory at + length piece ≤ length bytes → at ≤ a → a < at + length piece → paged_bytes directory (with_piece bytes (byte_place directory at) piece) a ≡ put_bytes (paged_bytes directory bytes) at piece a
inside_at directory bytes piece at a row fits from to =
    let here : a ≡ at + (a - at) = omega arith in
    let within : a - at < length piece = omega arith in
    piece_in bytes piece (byte_place directory at) (a - at) (byte_place directory a) fits (place_of_address directory at (length piece) a row from to) within
    ∙ sym (put_bytes_at piece (paged_bytes directory bytes) at (a - at) a here within)

outside_at : (directory bytes piece : List ℕ) (at a : ℕ) → AreDisjoint directory → page_of directory at ≢ 0 → at % 4096 + length piece ≤ 4096 → byte_place directory at + length piece ≤ length bytes → ((at ≤ a) → (a < at + length piece) → ⊥) → paged_bytes directory (with_piece bytes (byte_place directory at) piece) a ≡ paged_bytes directory bytes a
outside_at directory bytes piece at a disjoint some row fits out =
    elim (cases_lt (byte_place directory a) (byte_place directory at)) [
      | inl below ↦ piece_before bytes piece (byte_place directory at) (byte_place directory a) fits below
      | inr from ↦
          elim (cases_lt (byte_place directory a) (byte_place directory at + length piece)) [
            | inl to ↦
                let both = address_of_place directory at (length piece) a disjoint some row from to in absurd (out both.0 both.1)
            | inr behind ↦ piece_behind bytes piece (byte_place directory at) (byte_place directory a) fits behind
          ]
    ]

piece_at : (directory bytes piece : List ℕ) (at a : ℕ) → AreDisjoint directory → page_of directory at ≢ 0 → at % 4096 + length piece ≤ 4096 → byte_place directory at + length piece ≤ length bytes → paged_bytes directory (with_piece bytes (byte_place directory at) piece) a ≡ put_bytes (paged_bytes directory bytes) at piece a
piece_at directory bytes piece at a disjoint some row fits =
    elim (cases_lt a at) [
      | inl below ↦
          outside_at directory bytes piece at a disjoint some row fits (λ from to. absurd (omega arith))
          ∙ sym (put_bytes_before piece (paged_bytes directory bytes) at a below)
      | inr from ↦
          elim (cases_lt a (at + length piece)) [
            | inl to ↦ inside_at directory bytes piece at a row fits from to
            | inr behind ↦
                outside_at directory bytes piece at a disjoint some row fits (λ f to. absurd (omega arith))
                ∙ sym (put_bytes_behind piece (paged_bytes directory bytes) at a behind)
          ]
    ]

-- a piece inside a page changes the addresses from `at` on
pub paged_bytes-piece : (directory bytes piece : List ℕ) (at place : ℕ) → AreDisjoint directory → page_of directory at ≢ 0 → at % 4096 + length piece ≤ 4096 → place ≡ byte_place directory at → place + length piece ≤ length bytes → paged_bytes directory (with_piece bytes place piece) ≡ put_bytes (paged_bytes directory bytes) at piece
paged_bytes-piece directory bytes piece at place disjoint some row here fits =
    let inside : byte_place directory at + length piece ≤ length bytes = omega arith in
    rw here (λ t a. piece_at directory bytes piece at a disjoint some row inside t)

-- ---- a new page

new_at : (directory bytes longer : List ℕ) (k page a : ℕ) → IsZeroPage bytes → k < length directory → slice_index directory k ≡ 0 → length bytes ≡ page * 4096 → ((i : ℕ) → slice_index longer i ≡ slice_index bytes i) → paged_bytes (slice_set directory k page) longer a ≡ paged_bytes directory bytes a
new_at directory bytes longer k page a zero inside none end same =
    let before = zero (a % 4096) (omega arith) in
    let after = get_or_past bytes (page * 4096 + a % 4096) 0 (omega arith) in
    let longer_after = same (page * 4096 + a % 4096) in
    let longer_here = same (byte_place directory a) in
    grind (arith, nat_tests, common_steps)

-- a page of zeros for addresses that have none changes no byte
pub paged_bytes-new : (directory bytes longer : List ℕ) (k page : ℕ) → IsZeroPage bytes → k < length directory → slice_index directory k ≡ 0 → length bytes ≡ page * 4096 → ((i : ℕ) → slice_index longer i ≡ slice_index bytes i) → paged_bytes (slice_set directory k page) longer ≡ paged_bytes directory bytes
paged_bytes-new directory bytes longer k page zero inside none end same = λ t a. new_at directory bytes longer k page a zero inside none end same t
