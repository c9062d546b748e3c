-- A whole certificate that is read is spelled so, and what is spelled so is read.
use Rattle.std.proofs.Common.{◌≡◌, ◌∙◌, inl, inr, ℕ, zero, suc, ◌^◌, ◌<◌, ◌==◌, Bool, true, false, List, [], ◌∷◌, ◌++◌, length, Option, Some, None, Ok, Err, refl, sym, ap, subst, append_assoc, arith}
use Rattle.std.specs.List.{flat_map}
use Rattle.std.proofs.lemmas.Bool.{eqb-true, eqb-false}
use Rattle.std.proofs.lemmas.List.{append-nil, nil_from_length}
use Rattle.placement_programme.specs.Plain.{PlainChoice}
use Rattle.certificate_checker.specs.declared.fields.Part.TheVariants.{Head}
use Rattle.certificate_checker.specs.declared.fault.CertFault.TheVariants.{BadHead, Trailing}
use Rattle.certificate_checker.specs.Nodes.{PlainTree, PlainCertificate}
use Rattle.certificate_checker.specs.Digits.{number_of}
use Rattle.certificate_checker.specs.Reading.{◌>>=◌, place, cut_off, number_in, vars_at, var_key, tree_at, most_levels, one_byte, mark_at, flag_at, choice_at, PlainTrees, second_at, trees_at, trees_for, ended, body_at, certificate_of}
use Rattle.certificate_checker.specs.Spelling.{tree_text, flag_text, choice_text, trees_text, has_tree, body_text, AreTreesInRange, IsInRange, Spells}
use Rattle.certificate_checker.specs.Laws.{ReadsSpelled, OneCertificate, OneText}
use Rattle.certificate_checker.proofs.NumberLaws.{IsBytes, Takes, takes_then, takes_byte, takes_none, bytes_behind, chosen}
use Rattle.certificate_checker.proofs.FieldLaws.{bind_ok, done, done_is, not_done, in_takes, in_again, AllFrom, many_take, many_again}
use Rattle.certificate_checker.proofs.TreeLaws.{IsVar, ascend_from, from_ascend, var_takes, var_again, tree_takes, tree_again}

flag_takes : (total : ℕ) (bytes : List ℕ) (x : Bool × List ℕ) → IsBytes bytes → flag_at total bytes ≡ Ok x → Takes bytes (flag_text x.0 ∷ []) x.1
flag_takes total [] x all e = absurd (not_done (cut_off total) x e)
flag_takes total (zero ∷ bytes) x all e =
    subst (λ (y : Bool × List ℕ). Takes (0 ∷ bytes) (flag_text y.0 ∷ []) y.1) (done_is (false, bytes) x e) (takes_byte 0 bytes [] bytes (takes_none bytes (bytes_behind 0 bytes all)))
flag_takes total (suc zero ∷ bytes) x all e =
    subst (λ (y : Bool × List ℕ). Takes (1 ∷ bytes) (flag_text y.0 ∷ []) y.1) (done_is (true, bytes) x e) (takes_byte 1 bytes [] bytes (takes_none bytes (bytes_behind 1 bytes all)))
flag_takes total (suc (suc b) ∷ bytes) x all e = absurd (not_done (BadHead (place total (suc (suc b) ∷ bytes))) x e)

flag_again : (total : ℕ) (b : Bool) (rest : List ℕ) → flag_at total (flag_text b ∷ rest) ≡ Ok (b, rest)
flag_again total false rest = refl
flag_again total true rest = refl

choice_takes : (total : ℕ) (bytes : List ℕ) (x : PlainChoice × List ℕ) → IsBytes bytes → choice_at total bytes ≡ Ok x → Takes bytes (choice_text x.0) x.1 × (length x.0.take < 2 ^ 32) × AllFrom IsVar var_key 0 x.0.take
unfolding choice_at
choice_takes total bytes x all e =
    let a = bind_ok (flag_at total bytes) (λ on. number_in Head 0 4294967295 total on.1 >>= λ count. vars_at total count.0 0 count.1 >>= λ vars. Ok (record { on = on.0; take = vars.0 }, vars.1)) x e in
    let b = bind_ok (number_in Head 0 4294967295 total a.0.1) (λ count. vars_at total count.0 0 count.1 >>= λ vars. Ok (record { on = a.0.0; take = vars.0 }, vars.1)) x a.2 in
    let c = bind_ok (vars_at total b.0.0 0 b.0.1) (λ vars. Ok (record { on = a.0.0; take = vars.0 }, vars.1)) x b.2 in
    let first = flag_takes total bytes a.0 all a.1 in
    let second = in_takes Head 0 4294967295 total a.0.1 b.0.0 b.0.1 first.fits b.1 in
    let third = many_take (λ low rest. number_in Head low 4294967295 total rest) var_key number_of IsVar (λ low bs y fits read. var_takes total low bs y fits read) b.0.0 0 b.0.1 c.0 second.0.fits c.1 in
    let few = second.2 in
    let count = third.1 in
    let behind = takes_then a.0.1 (number_of b.0.0) b.0.1 (flat_map number_of c.0.0) c.0.1 second.0 third.0 in
    let counted : Takes a.0.1 (number_of (length c.0.0) ++ flat_map number_of c.0.0) c.0.1 = subst (λ (k : ℕ). Takes a.0.1 (number_of k ++ flat_map number_of c.0.0) c.0.1) (sym count) behind in
    let whole = takes_then bytes (flag_text a.0.0 ∷ []) a.0.1 (number_of (length c.0.0) ++ flat_map number_of c.0.0) c.0.1 first counted in
    let small : length c.0.0 < 2 ^ 32 = omega (arith, few, count) in
    let made : PlainChoice × List ℕ = (record { on = a.0.0; take = c.0.0 }, c.0.1) in
    subst (λ (y : PlainChoice × List ℕ). Takes bytes (choice_text y.0) y.1 × (length y.0.take < 2 ^ 32) × AllFrom IsVar var_key 0 y.0.take) (done_is made x c.2) (whole, small, third.2)

choice_again : (total : ℕ) (c : PlainChoice) (rest : List ℕ) → length c.take < 2 ^ 32 → AllFrom IsVar var_key 0 c.take → choice_at total (choice_text c ++ rest) ≡ Ok (c, rest)
unfolding choice_at
choice_again total c rest few good =
    let first = flag_again total c.on ((number_of (length c.take) ++ flat_map number_of c.take) ++ rest) in
    let second = in_again Head 0 4294967295 total (length c.take) (flat_map number_of c.take ++ rest) (omega arith) (omega (arith, few)) (omega (arith, few)) in
    let third = many_again (λ low bs. number_in Head low 4294967295 total bs) var_key number_of IsVar (λ low n after ok. var_again total low n after ok) c.take 0 rest good in
    let regrouped = append_assoc (number_of (length c.take)) (flat_map number_of c.take) rest in
    rw (first, regrouped, second, third) refl

abbrev Trees : Type 0
Trees = PlainTrees × List ℕ

trees_takes : (total : ℕ) (bytes : List ℕ) (x : Trees) → IsBytes bytes → trees_at total bytes ≡ Ok x → Takes bytes (trees_text x.0.0 x.0.1) x.1 × AreTreesInRange x.0.0 x.0.1 × (has_tree x.0.0 ≡ true)
unfolding trees_at
trees_takes total bytes x all e =
    let a = bind_ok (number_in Head 1 2 total bytes) (λ count. tree_at total most_levels count.1 >>= λ off. second_at count.0 total off) x e in
    let b = bind_ok (tree_at total most_levels a.0.1) (λ off. second_at a.0.0 total off) x a.2 in
    let first = in_takes Head 1 2 total bytes a.0.0 a.0.1 all a.1 in
    let second = tree_takes total most_levels a.0.1 b.0 first.0.fits b.1 in
    let front = takes_then bytes (number_of a.0.0) a.0.1 (tree_text b.0.0) b.0.1 first.0 second.0 in
    let low = first.1 in
    let high = first.2 in
    elim (chosen (a.0.0 == 1) (done ((Some b.0.0, None), b.0.1)) (tree_at total most_levels b.0.1 >>= λ on. Ok ((Some b.0.0, Some on.0), on.1)) (done x) b.2) [
      | inl one ↦
          let count = eqb-true a.0.0 1 one.0 in
          let text : Takes bytes (number_of 1 ++ tree_text b.0.0) b.0.1 = subst (λ (k : ℕ). Takes bytes (number_of k ++ tree_text b.0.0) b.0.1) count front in
          subst (λ (y : Trees). Takes bytes (trees_text y.0.0 y.0.1) y.1 × AreTreesInRange y.0.0 y.0.1 × (has_tree y.0.0 ≡ true)) (done_is ((Some b.0.0, None), b.0.1) x one.1) (text, second.1, refl)
      | inr two ↦
          let other = eqb-false a.0.0 1 two.0 in
          let count : a.0.0 ≡ 2 = omega (arith, low, high, other) in
          let c = bind_ok (tree_at total most_levels b.0.1) (λ on. Ok ((Some b.0.0, Some on.0), on.1)) x two.1 in
          let third = tree_takes total most_levels b.0.1 c.0 second.0.fits c.1 in
          let behind = takes_then a.0.1 (tree_text b.0.0) b.0.1 (tree_text c.0.0) c.0.1 second.0 third.0 in
          let whole = takes_then bytes (number_of a.0.0) a.0.1 (tree_text b.0.0 ++ tree_text c.0.0) c.0.1 first.0 behind in
          let text : Takes bytes (number_of 2 ++ (tree_text b.0.0 ++ tree_text c.0.0)) c.0.1 = subst (λ (k : ℕ). Takes bytes (number_of k ++ (tree_text b.0.0 ++ tree_text c.0.0)) c.0.1) count whole in
          subst (λ (y : Trees). Takes bytes (trees_text y.0.0 y.0.1) y.1 × AreTreesInRange y.0.0 y.0.1 × (has_tree y.0.0 ≡ true)) (done_is ((Some b.0.0, Some c.0.0), c.0.1) x c.2) (text, (second.1, third.1), refl)
    ]

trees_again : (total : ℕ) (off : PlainTree) (on : Option PlainTree) (rest : List ℕ) → AreTreesInRange (Some off) on → trees_at total (trees_text (Some off) on ++ rest) ≡ Ok ((Some off, on), rest)
unfolding trees_at
trees_again total off None rest good =
    let first = in_again Head 1 2 total 1 (tree_text off ++ rest) (omega arith) (omega arith) (omega arith) in
    let second = tree_again total most_levels off rest good in
    ap (trees_at total) (append_assoc (number_of 1) (tree_text off) rest) ∙ rw (first, second) refl
trees_again total off (Some on) rest good =
    let first = in_again Head 1 2 total 2 (tree_text off ++ (tree_text on ++ rest)) (omega arith) (omega arith) (omega arith) in
    let second = tree_again total most_levels off (tree_text on ++ rest) good.0 in
    let third = tree_again total most_levels on rest good.1 in
    let regrouped : (number_of 2 ++ (tree_text off ++ tree_text on)) ++ rest ≡ number_of 2 ++ (tree_text off ++ (tree_text on ++ rest)) = append_assoc (number_of 2) (tree_text off ++ tree_text on) rest ∙ ap (λ (t : List ℕ). number_of 2 ++ t) (append_assoc (tree_text off) (tree_text on) rest) in
    ap (trees_at total) regrouped ∙ rw (first, second, third) refl

for_takes : (total : ℕ) (optimal : Bool) (bytes : List ℕ) (x : Trees) → IsBytes bytes → trees_for optimal total bytes ≡ Ok x → Takes bytes (trees_text x.0.0 x.0.1) x.1 × AreTreesInRange x.0.0 x.0.1 × (has_tree x.0.0 ≡ optimal)
for_takes total true bytes x all e = trees_takes total bytes x all e
for_takes total false bytes x all e =
    subst (λ (y : Trees). Takes bytes (trees_text y.0.0 y.0.1) y.1 × AreTreesInRange y.0.0 y.0.1 × (has_tree y.0.0 ≡ false)) (done_is ((None, None), bytes) x e) (takes_none bytes all, tt, refl)

for_again : (total : ℕ) (off on : Option PlainTree) (rest : List ℕ) → AreTreesInRange off on → trees_for (has_tree off) total (trees_text off on ++ rest) ≡ Ok ((off, on), rest)
for_again total None None rest good = refl
for_again total None (Some on) rest good = absurd good
for_again total (Some off) on rest good = trees_again total off on rest good

ended_take : (total : ℕ) (c d : PlainCertificate) (bytes : List ℕ) → ended total c bytes ≡ Ok d → (bytes ≡ []) × (c ≡ d)
ended_take total c d bytes e =
    elim (chosen (length bytes == 0) (done c) (Err (Trailing (place total bytes))) (done d) e) [
      | inl none ↦ (nil_from_length bytes (eqb-true (length bytes) 0 none.0), done_is c d none.1)
      | inr some ↦ absurd (not_done (Trailing (place total bytes)) d some.1)
    ]

body_takes : (total : ℕ) (bytes : List ℕ) (c : PlainCertificate) → IsBytes bytes → body_at total bytes ≡ Ok c → IsInRange c × (bytes ≡ body_text c)
unfolding body_at
body_takes total bytes c all e =
    let a = bind_ok (flag_at total bytes) (λ optimal. choice_at total optimal.1 >>= λ choice. trees_for optimal.0 total choice.1 >>= λ trees. ended total (record { choice = choice.0; off = trees.0.0; on = trees.0.1 }) trees.1) c e in
    let b = bind_ok (choice_at total a.0.1) (λ choice. trees_for a.0.0 total choice.1 >>= λ trees. ended total (record { choice = choice.0; off = trees.0.0; on = trees.0.1 }) trees.1) c a.2 in
    let d = bind_ok (trees_for a.0.0 total b.0.1) (λ trees. ended total (record { choice = b.0.0; off = trees.0.0; on = trees.0.1 }) trees.1) c b.2 in
    let made : PlainCertificate = record { choice = b.0.0; off = d.0.0.0; on = d.0.0.1 } in
    let finish = ended_take total made c d.0.1 d.2 in
    let first = flag_takes total bytes a.0 all a.1 in
    let second = choice_takes total a.0.1 b.0 first.fits b.1 in
    let third = for_takes total a.0.0 b.0.1 d.0 second.0.fits d.1 in
    let behind = takes_then a.0.1 (choice_text b.0.0) b.0.1 (trees_text d.0.0.0 d.0.0.1) d.0.1 second.0 third.0 in
    let whole = takes_then bytes (flag_text a.0.0 ∷ []) a.0.1 (choice_text b.0.0 ++ trees_text d.0.0.0 d.0.0.1) d.0.1 first behind in
    let all_of_it : bytes ≡ flag_text a.0.0 ∷ (choice_text b.0.0 ++ trees_text d.0.0.0 d.0.0.1) = whole.parts ∙ (ap (λ (t : List ℕ). (flag_text a.0.0 ∷ (choice_text b.0.0 ++ trees_text d.0.0.0 d.0.0.1)) ++ t) finish.0 ∙ append-nil (flag_text a.0.0 ∷ (choice_text b.0.0 ++ trees_text d.0.0.0 d.0.0.1))) in
    let text : bytes ≡ body_text made = all_of_it ∙ ap (λ (v : Bool). flag_text v ∷ (choice_text b.0.0 ++ trees_text d.0.0.0 d.0.0.1)) (sym third.2) in
    let good : IsInRange made = record { few = second.1; numbers = ascend_from 0 b.0.0.take second.2; trees = third.1 } in
    subst (λ (y : PlainCertificate). IsInRange y × (bytes ≡ body_text y)) finish.1 (good, text)

body_again : (total : ℕ) (c : PlainCertificate) → IsInRange c → body_at total (body_text c) ≡ Ok c
unfolding body_at
body_again total c good =
    let first = flag_again total (has_tree c.off) (choice_text c.choice ++ trees_text c.off c.on) in
    let second = choice_again total c.choice (trees_text c.off c.on) good.few (from_ascend 0 c.choice.take good.numbers) in
    let ended_text : trees_for (has_tree c.off) total (trees_text c.off c.on) ≡ Ok ((c.off, c.on), []) = ap (trees_for (has_tree c.off) total) (sym (append-nil (trees_text c.off c.on))) ∙ for_again total c.off c.on [] good.trees in
    rw (first, second, ended_text) refl

one_takes : (wanted total : ℕ) (bytes rest : List ℕ) → IsBytes bytes → one_byte wanted total bytes ≡ Ok rest → Takes bytes (wanted ∷ []) rest
one_takes wanted total [] rest all e = absurd (not_done (cut_off total) rest e)
one_takes wanted total (b ∷ bytes) rest all e =
    elim (chosen (b == wanted) (done bytes) (Err (BadHead (place total (b ∷ bytes)))) (done rest) e) [
      | inl same ↦
          let is = eqb-true b wanted same.0 in
          let taken : Takes (b ∷ bytes) (b ∷ []) bytes = takes_byte b bytes [] bytes (takes_none bytes (bytes_behind b bytes all)) in
          let named : Takes (b ∷ bytes) (wanted ∷ []) bytes = subst (λ (w : ℕ). Takes (b ∷ bytes) (w ∷ []) bytes) is taken in
          subst (λ (t : List ℕ). Takes (b ∷ bytes) (wanted ∷ []) t) (done_is bytes rest same.1) named
      | inr other ↦ absurd (not_done (BadHead (place total (b ∷ bytes))) rest other.1)
    ]

mark_takes : (total : ℕ) (bytes rest : List ℕ) → IsBytes bytes → mark_at total bytes ≡ Ok rest → Takes bytes (0x53 ∷ 0x50 ∷ 0x43 ∷ 0x31 ∷ []) rest
unfolding mark_at
mark_takes total bytes rest all e =
    let a = bind_ok (one_byte 0x53 total bytes) (λ a. one_byte 0x50 total a >>= λ b. one_byte 0x43 total b >>= λ c. one_byte 0x31 total c) rest e in
    let b = bind_ok (one_byte 0x50 total a.0) (λ b. one_byte 0x43 total b >>= λ c. one_byte 0x31 total c) rest a.2 in
    let c = bind_ok (one_byte 0x43 total b.0) (λ c. one_byte 0x31 total c) rest b.2 in
    let first = one_takes 0x53 total bytes a.0 all a.1 in
    let second = one_takes 0x50 total a.0 b.0 first.fits b.1 in
    let third = one_takes 0x43 total b.0 c.0 second.fits c.1 in
    let fourth = one_takes 0x31 total c.0 rest third.fits c.2 in
    takes_then bytes (0x53 ∷ []) a.0 (0x50 ∷ 0x43 ∷ 0x31 ∷ []) rest first
    (takes_then a.0 (0x50 ∷ []) b.0 (0x43 ∷ 0x31 ∷ []) rest second
    (takes_then b.0 (0x43 ∷ []) c.0 (0x31 ∷ []) rest third fourth))

mark_again : (total : ℕ) (rest : List ℕ) → mark_at total (0x53 ∷ 0x50 ∷ 0x43 ∷ 0x31 ∷ rest) ≡ Ok rest
unfolding mark_at
mark_again total rest = refl

pub certificate_takes : (bytes : List ℕ) (c : PlainCertificate) → IsBytes bytes → certificate_of bytes ≡ Ok c → Spells bytes c
unfolding certificate_of
certificate_takes bytes c all e =
    let a = bind_ok (mark_at (length bytes) bytes) (λ rest. body_at (length bytes) rest) c e in
    let first = mark_takes (length bytes) bytes a.0 all a.1 in
    let second = body_takes (length bytes) a.0 c first.fits a.2 in
    record { in_range = second.0; text = first.parts ∙ ap (λ (t : List ℕ). 0x53 ∷ 0x50 ∷ 0x43 ∷ 0x31 ∷ t) second.1 }

pub certificate_again : (bytes : List ℕ) (c : PlainCertificate) → Spells bytes c → certificate_of bytes ≡ Ok c
unfolding certificate_of
certificate_again bytes c spelled =
    let total = length bytes in
    let first : mark_at total bytes ≡ Ok (body_text c) = ap (mark_at total) spelled.text ∙ mark_again total (body_text c) in
    let second = body_again total c spelled.in_range in
    rw first second

pub reads_spelled : ReadsSpelled
reads_spelled bytes c all = (λ read. certificate_takes bytes c all read, λ spelled. certificate_again bytes c spelled)

pub one_certificate : OneCertificate
one_certificate bytes c d first second =
    done_is c d (sym (certificate_again bytes c first) ∙ certificate_again bytes d second)

pub one_text : OneText
one_text a b c first second = first.text ∙ sym second.text
