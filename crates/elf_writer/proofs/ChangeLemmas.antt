-- How changes act on lists of bytes.
use Rattle.std.proofs.Common.{◌≡◌, ◌∙◌, ℕ, zero, suc, ◌+◌, ◌-◌, ◌<◌, ◌≤◌, List, [], ◌∷◌, ◌++◌, length, get_or, take, drop, slice_index, slice_range, refl, ap, sym, subst, arith, length-append, length-take, length-drop, false, true, ◌&&◌, nat_le, nat_lt, inl, inr}
use Rattle.std.specs.List.{All}
use Rattle.std.proofs.lemmas.List.{ext_get_or, get_or-take, get_or-drop, get_or_append_left, get_or-append_right, drop-drop, at_drop_more, at_drop_all}
use Rattle.std.proofs.lemmas.Bool.{cases_lt}
use Rattle.std.proofs.lemmas.Bool.Decides.{nat_tests}
use Rattle.elf_writer.specs.Changes.{Change, byte_after, byte_changed, changed}

pub length-changed : (cs : List Change) (at : ℕ) (bytes : List ℕ) → length (changed cs at bytes) ≡ length bytes
length-changed cs at [] = refl
length-changed cs at (byte ∷ bytes) = ap suc (length-changed cs (at + 1) bytes)

-- what stands at a place after the changes
pub changed_at : (cs : List Change) (at : ℕ) (bytes : List ℕ) (i : ℕ) → i < length bytes → slice_index (changed cs at bytes) i ≡ byte_changed cs (at + i) (slice_index bytes i)
changed_at cs at [] i below = absurd (omega arith)
changed_at cs at (byte ∷ bytes) zero below =
    let same : at ≡ at + 0 = omega arith in
    ap (λ place. byte_changed cs place byte) same
changed_at cs at (byte ∷ bytes) (suc i) below =
    let later = changed_at cs (at + 1) bytes i (omega (arith, below)) in
    let same : at + 1 + i ≡ at + suc i = omega arith in
    later ∙ ap (λ place. byte_changed cs place (slice_index bytes i)) same

-- no change at all
pub changed-nil : (at : ℕ) (bytes : List ℕ) → changed [] at bytes ≡ bytes
changed-nil at [] = refl
changed-nil at (byte ∷ bytes) = ap (λ rest. byte ∷ rest) (changed-nil (at + 1) bytes)

-- changes one after the other
pub byte_changed-append : (cs ds : List Change) (at old : ℕ) → byte_changed (cs ++ ds) at old ≡ byte_changed ds at (byte_changed cs at old)
byte_changed-append [] ds at old = refl
byte_changed-append (c ∷ cs) ds at old = byte_changed-append cs ds at (byte_after c at old)

pub changed-append : (cs ds : List Change) (at : ℕ) (bytes : List ℕ) → changed (cs ++ ds) at bytes ≡ changed ds at (changed cs at bytes)
changed-append cs ds at [] = refl
changed-append cs ds at (byte ∷ bytes) =
    let here = byte_changed-append cs ds at byte in
    let later = changed-append cs ds (at + 1) bytes in
    λ i. here i ∷ later i

pub changed-cons : (c : Change) (cs : List Change) (at : ℕ) (bytes : List ℕ) → changed (c ∷ cs) at bytes ≡ changed cs at (changed (c ∷ []) at bytes)
changed-cons c cs at bytes = changed-append (c ∷ []) cs at bytes

-- the piece of a changed file
pub drop-changed : (cs : List Change) (n at : ℕ) (bytes : List ℕ) → drop n (changed cs at bytes) ≡ changed cs (at + n) (drop n bytes)
drop-changed cs zero at bytes =
    let same : at ≡ at + 0 = omega arith in
    ap (λ place. changed cs place bytes) same
drop-changed cs (suc n) at [] = refl
drop-changed cs (suc n) at (byte ∷ bytes) =
    let later = drop-changed cs n (at + 1) bytes in
    let same : at + 1 + n ≡ at + suc n = omega arith in
    later ∙ ap (λ place. changed cs place (drop n bytes)) same

pub take-changed : (cs : List Change) (n at : ℕ) (bytes : List ℕ) → take n (changed cs at bytes) ≡ changed cs at (take n bytes)
take-changed cs zero at bytes = refl
take-changed cs (suc n) at [] = refl
take-changed cs (suc n) at (byte ∷ bytes) = ap (λ rest. byte_changed cs at byte ∷ rest) (take-changed cs n (at + 1) bytes)

pub range-changed : (cs : List Change) (start end : ℕ) (bytes : List ℕ) → slice_range (changed cs 0 bytes) start end ≡ changed cs start (slice_range bytes start end)
range-changed cs start end bytes =
    let same : 0 + start ≡ start = omega arith in
    ap (take (end - start)) (drop-changed cs start 0 bytes ∙ ap (λ place. changed cs place (drop start bytes)) same)
    ∙ take-changed cs (end - start) start (drop start bytes)

-- one change puts its bytes in the place of others: before them, among them and behind them
put_before : (place : ℕ) (content rest bytes : List ℕ) (i : ℕ) → i < place → place ≤ length bytes → get_or (take place bytes ++ rest) i 0 ≡ byte_after (record { place = place; content = content }) i (get_or bytes i 0)
put_before place content rest bytes i before fits =
    let size : length (take place bytes) ≡ place = rw length-take (omega arith) in
    let left = get_or_append_left (take place bytes) rest 0 i (omega (arith, before, size)) ∙ get_or-take place bytes i 0 before in
    let out : nat_le place i ≡ false = grind (arith, nat_tests) in
    left ∙ rw out refl

put_within : (place : ℕ) (content rest bytes : List ℕ) (i : ℕ) → place ≤ i → i < place + length content → place ≤ length bytes → get_or (take place bytes ++ (content ++ rest)) i 0 ≡ byte_after (record { place = place; content = content }) i (get_or bytes i 0)
put_within place content rest bytes i from to fits =
    let size : length (take place bytes) ≡ place = rw length-take (omega arith) in
    let right = get_or-append_right (take place bytes) (content ++ rest) place i 0 size from ∙ get_or_append_left content rest 0 (i - place) (omega arith) in
    let low : nat_le place i ≡ true = grind (arith, nat_tests) in
    let high : nat_lt i (place + length content) ≡ true = grind (arith, nat_tests) in
    right ∙ rw (low, high) refl

put_behind : (place : ℕ) (content bytes : List ℕ) (i : ℕ) → place + length content ≤ i → place ≤ length bytes → get_or (take place bytes ++ (content ++ drop (place + length content) bytes)) i 0 ≡ byte_after (record { place = place; content = content }) i (get_or bytes i 0)
put_behind place content bytes i past fits =
    let size : length (take place bytes) ≡ place = rw length-take (omega arith) in
    let first = get_or-append_right (take place bytes) (content ++ drop (place + length content) bytes) place i 0 size (omega arith) in
    let second = get_or-append_right content (drop (place + length content) bytes) (length content) (i - place) 0 refl (omega arith) in
    let third = get_or-drop (place + length content) bytes (i - place - length content) 0 in
    let same : place + length content + (i - place - length content) ≡ i = omega arith in
    let high : nat_lt i (place + length content) ≡ false = grind (arith, nat_tests) in
    let out : (nat_le place i && nat_lt i (place + length content)) ≡ false = grind (arith, nat_tests) in
    first ∙ (second ∙ (third ∙ (ap (λ k. get_or bytes k 0) same ∙ rw out refl)))

put_at : (place : ℕ) (content bytes : List ℕ) (i : ℕ) → place + length content ≤ length bytes → get_or (take place bytes ++ (content ++ drop (place + length content) bytes)) i 0 ≡ byte_after (record { place = place; content = content }) i (get_or bytes i 0)
put_at place content bytes i fits =
    elim (cases_lt i place) [
      | inl before ↦ put_before place content (content ++ drop (place + length content) bytes) bytes i before (omega arith)
      | inr from ↦ elim (cases_lt i (place + length content)) [
        | inl within ↦ put_within place content (drop (place + length content) bytes) bytes i from within (omega arith)
        | inr past ↦ put_behind place content bytes i past (omega arith)
      ]
    ]

pub put_is : (place : ℕ) (content bytes : List ℕ) → place + length content ≤ length bytes → take place bytes ++ (content ++ drop (place + length content) bytes) ≡ changed (record { place = place; content = content } ∷ []) 0 bytes
put_is place content bytes fits =
    let c : Change = record { place = place; content = content } in
    let put = take place bytes ++ (content ++ drop (place + length content) bytes) in
    let size : length put ≡ length bytes = simp (length-append, length-take, length-drop) (omega arith) in
    ext_get_or 0 put (changed (c ∷ []) 0 bytes) (size ∙ sym (length-changed (c ∷ []) 0 bytes))
    (λ i below.
    let same : 0 + i ≡ i = omega arith in
    put_at place content bytes i fits
    ∙ (sym (ap (λ at. byte_changed (c ∷ []) at (slice_index bytes i)) same)
    ∙ sym (changed_at (c ∷ []) 0 bytes i (omega (arith, below, size)))))

-- the same where the bytes that are put are as many as the place has
pub change_is : (place : ℕ) (content bytes : List ℕ) (k : ℕ) → place + length content ≤ length bytes → k ≡ length content → take place bytes ++ (content ++ drop k (drop place bytes)) ≡ changed (record { place = place; content = content } ∷ []) 0 bytes
change_is place content bytes k fits same =
    let cut : drop k (drop place bytes) ≡ drop (place + length content) bytes = rw same (drop-drop (length content) place bytes) in
    ap (λ rest. take place bytes ++ (content ++ rest)) cut ∙ put_is place content bytes fits

-- the changes that a list stands for, one element at a time
pub changes_step :
    {X : Type 0}
    (one : X → List Change)
    (all : List X → List Change)
    (xs : List X)
    (i : ℕ)
    (d : X)
    (out next whole : List ℕ)
    → ((x : X) (rest : List X) → all (x ∷ rest) ≡ one x ++ all rest)
    → i < length xs
    → next ≡ changed (one (get_or xs i d)) 0 out
    → changed (all (drop i xs)) 0 out ≡ whole
    → changed (all (drop (i + 1) xs)) 0 next ≡ whole
changes_step one all xs i d out next whole split below made so_far =
    let rest = drop (i + 1) xs in
    let x = get_or xs i d in
    let more : changed (all (drop i xs)) 0 out ≡ changed (all (x ∷ rest)) 0 out = at_drop_more (λ ys. changed (all ys) 0 out) xs i d below in
    let disjoint : changed (all (x ∷ rest)) 0 out ≡ changed (one x ++ all rest) 0 out = ap (λ cs. changed cs 0 out) (split x rest) in
    let one_by_one : changed (one x ++ all rest) 0 out ≡ changed (all rest) 0 (changed (one x) 0 out) = changed-append (one x) (all rest) 0 out in
    let there : changed (all rest) 0 next ≡ changed (all rest) 0 (changed (one x) 0 out) = ap (changed (all rest) 0) made in
    there ∙ (sym one_by_one ∙ (sym disjoint ∙ (sym more ∙ so_far)))

pub changes_end : {X : Type 0} (all : List X → List Change) (xs : List X) (i : ℕ) (out whole : List ℕ) → all [] ≡ [] → length xs ≤ i → changed (all (drop i xs)) 0 out ≡ whole → out ≡ whole
changes_end all xs i out whole none past so_far =
    let gone : changed (all (drop i xs)) 0 out ≡ changed (all []) 0 out = at_drop_all (λ ys. changed (all ys) 0 out) xs i past in
    let nothing : changed (all []) 0 out ≡ changed [] 0 out = ap (λ cs. changed cs 0 out) none in
    sym (changed-nil 0 out) ∙ (sym nothing ∙ (sym gone ∙ so_far))

pub changed_twice : (cs ds : List Change) (bytes first last : List ℕ) → first ≡ changed cs 0 bytes → last ≡ changed ds 0 first → last ≡ changed (cs ++ ds) 0 bytes
changed_twice cs ds bytes first last e f = f ∙ (ap (changed ds 0) e ∙ sym (changed-append cs ds 0 bytes))

-- what holds for the elements below a place behind the last, for all
pub all_taken : {X : Type 0} (P : X → Type 0) (xs : List X) (i : ℕ) → length xs ≤ i → All P (take i xs) → All P xs
all_taken P xs i past all k d below =
    subst P (get_or-take i xs k d (omega (arith, past, below))) (all k d (simp length-take (omega (arith, past, below))))
