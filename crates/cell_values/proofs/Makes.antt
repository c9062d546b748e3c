-- Both ways of making upper parts make words, and a LUI makes the upper part of the place.
use Rattle.std.proofs.Common.{◌≡◌, inl, inr, ℕ, ◌<◌, Some, refl, arith}
use Rattle.cell_values.specs.Origins.{ByLui, ByAuipc, Mixed}
use Rattle.cell_values.specs.Stands.{Places, AreWords, upper_word, auipc_word, kept_uppers}
use Rattle.cell_values.specs.WordLaws.{KeptUppersMake, MovedUppersMake}

upper_is_word : (place : Places) (o d w : ℕ) → Some (upper_word place o d) ≡ Some w → w < 4294967296
upper_is_word place o d w made =
    let is : upper_word place o d ≡ w = cc in
    rw (← is) (omega arith)

auipc_is_word : (place : Places) (at o d w : ℕ) → Some (auipc_word place at o d) ≡ Some w → w < 4294967296
auipc_is_word place at o d w made =
    let is : auipc_word place at o d ≡ w = cc in
    rw (← is) (omega arith)

kept_words : (place : Places) → AreWords (kept_uppers place)
kept_words place ByLui o d w made = upper_is_word place o d w made
kept_words place (ByAuipc at) o d w made = auipc_is_word place at o d w made
kept_words place Mixed o d w made = cc

pub kept_uppers_make : KeptUppersMake
kept_uppers_make place = (λ o d. refl, kept_words place, λ m o d. inl refl)

pub moved_uppers_make : MovedUppersMake
moved_uppers_make place = (λ o d. refl, λ m o d w made. upper_is_word place o d w made, λ m o d. inr refl)
