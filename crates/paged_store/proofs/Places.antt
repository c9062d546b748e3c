-- What a list of entries holds after a write at the place of an address, and after a push.
use Rattle.std.proofs.Common.{◌≡◌, ℕ, ◌<◌, Some, None, List, [], ◌∷◌, ◌++◌, length, slice_set, get_or, length-append, arith, zero, suc, if◌then◌else◌}
use Rattle.std.specs.Prelude.{◌==◌, IsTrue, true, false}
use Rattle.std.specs.List.{position_or_len}
use Rattle.std.proofs.lemmas.Bool.Decides.{nat_tests}
use Rattle.rv32im.specs.Memory.{put}
use Rattle.paged_store.specs.declared.list_store.Entry.{Entry}
use Rattle.paged_store.specs.Entries.{bytes_of, has_entry, place_of}

-- the index of the first entry of an address, where there is one
place_is : (es : List Entry) (at i : ℕ) → place_of es at ≡ Some i → i ≡ position_or_len (λ e. e.at == at) es
place_is es at i h = grind (arith, nat_tests)

place_inside : (es : List Entry) (at i : ℕ) → place_of es at ≡ Some i → i < length es
place_inside es at i h = grind (arith, nat_tests)

-- the byte at the place
get_found : (es : List Entry) (at i : ℕ) (d : Entry) → i ≡ position_or_len (λ e. e.at == at) es → i < length es → (get_or es i d).byte ≡ bytes_of es at
get_found [] at i d h l = grind (arith, nat_tests)
get_found (e ∷ es) at zero d h l = grind (arith, nat_tests)
get_found (e ∷ es) at (suc i) d h l = grind (arith, nat_tests, get_found es at i d)

pub byte_at_place : (es : List Entry) (at i : ℕ) (d : Entry) → place_of es at ≡ Some i → (get_or es i d).byte ≡ bytes_of es at
byte_at_place es at i d h = get_found es at i d (place_is es at i h) (place_inside es at i h)

pub absent_byte : (es : List Entry) (at : ℕ) → place_of es at ≡ None → bytes_of es at ≡ 0
absent_byte [] at h = grind (arith, nat_tests)
absent_byte (e ∷ es) at h = grind (arith, nat_tests, absent_byte es at)

-- whether there is an entry
pub present : (es : List Entry) (at i : ℕ) → place_of es at ≡ Some i → has_entry es at ≡ true
present es at i h = found es i (place_is es at i h) (place_inside es at i h)
  where
    found : (es : List Entry) (i : ℕ) → i ≡ position_or_len (λ e. e.at == at) es → i < length es → has_entry es at ≡ true
    found [] i h l = grind (arith, nat_tests)
    found (e ∷ es) zero h l = grind (arith, nat_tests)
    found (e ∷ es) (suc i) h l = grind (arith, nat_tests, found es i)

pub absent : (es : List Entry) (at : ℕ) → place_of es at ≡ None → has_entry es at ≡ false
absent [] at h = grind (arith, nat_tests)
absent (e ∷ es) at h = grind (arith, nat_tests, absent es at)

-- a write at the place changes that address alone
set_found : (es : List Entry) (at byte i a : ℕ) → i ≡ position_or_len (λ e. e.at == at) es → i < length es → bytes_of (slice_set es i (record { at = at; byte = byte })) a ≡ (if a == at then byte else bytes_of es a)
set_found [] at byte i a h l = grind (arith, nat_tests)
set_found (e ∷ es) at byte zero a h l = grind (arith, nat_tests)
set_found (e ∷ es) at byte (suc i) a h l = grind (arith, nat_tests, set_found es at byte i a)

pub bytes_of-set : (es : List Entry) (at byte i : ℕ) → place_of es at ≡ Some i → bytes_of (slice_set es i (record { at = at; byte = byte })) ≡ put (bytes_of es) at byte
unfolding put
bytes_of-set es at byte i h = λ t a. set_found es at byte i a (place_is es at i h) (place_inside es at i h) t

-- and leaves the addresses as they are
keeps_found : (es : List Entry) (at byte i a : ℕ) → i ≡ position_or_len (λ e. e.at == at) es → i < length es → has_entry (slice_set es i (record { at = at; byte = byte })) a ≡ has_entry es a
keeps_found [] at byte i a h l = grind (arith, nat_tests)
keeps_found (e ∷ es) at byte zero a h l = grind (arith, nat_tests)
keeps_found (e ∷ es) at byte (suc i) a h l = grind (arith, nat_tests, keeps_found es at byte i a)

pub has_entry-set : (es : List Entry) (at byte i a : ℕ) → place_of es at ≡ Some i → has_entry (slice_set es i (record { at = at; byte = byte })) a ≡ has_entry es a
has_entry-set es at byte i a h = keeps_found es at byte i a (place_is es at i h) (place_inside es at i h)

-- a push for an address without an entry changes that address alone
push_absent : (es : List Entry) (at byte a : ℕ) → place_of es at ≡ None → bytes_of (es ++ record { at = at; byte = byte } ∷ []) a ≡ (if a == at then byte else bytes_of es a)
push_absent [] at byte a h = grind (arith, nat_tests)
push_absent (e ∷ es) at byte a h = grind (arith, nat_tests, push_absent es at byte a)

zero_absent : (es : List Entry) (at a : ℕ) → place_of es at ≡ None → bytes_of (es ++ record { at = at; byte = 0 } ∷ []) a ≡ bytes_of es a
zero_absent es at a h = grind (arith, nat_tests, push_absent es at 0 a h, absent_byte es at h)

-- a zero there changes no byte
pub bytes_of-push_zero : (es : List Entry) (at : ℕ) → place_of es at ≡ None → bytes_of (es ++ record { at = at; byte = 0 } ∷ []) ≡ bytes_of es
bytes_of-push_zero es at h = λ t a. zero_absent es at a h t

-- no entry is lost by a push
pub has_entry-push : (es : List Entry) (e : Entry) (a : ℕ) → IsTrue (has_entry es a) → IsTrue (has_entry (es ++ e ∷ []) a)
has_entry-push [] e a h = grind (arith, nat_tests)
has_entry-push (x ∷ es) e a h = grind (arith, nat_tests, has_entry-push es e a)

-- and the new one stands at the end
place_after : (es : List Entry) (at byte : ℕ) → place_of es at ≡ None → position_or_len (λ e. e.at == at) (es ++ record { at = at; byte = byte } ∷ []) ≡ length es
place_after [] at byte h = grind (arith, nat_tests)
place_after (x ∷ es) at byte h = grind (arith, nat_tests, place_after es at byte)

pub place_of-push : (es : List Entry) (at byte : ℕ) → place_of es at ≡ None → place_of (es ++ record { at = at; byte = byte } ∷ []) at ≡ Some (length es)
place_of-push es at byte h = grind (arith, nat_tests, place_after es at byte h, length-append es (record { at = at; byte = byte } ∷ []))
