-- The room of a check that reads the text once, and what it answers.
use Rattle.std.specs.Prelude.{◌≡◌, ◌≤◌, ℕ, Bool, true, false, List, length, max, Option, Some, None, option_map, IfSome, MatchOption, vec_capacity, Result, Ok, Err}
use Rattle.std.specs.Borrow.{Bor}
use Rattle.placement_programme.specs.Plain.{PlainSide, PlainProgramme, PlainChoice}
use Rattle.placement_programme.specs.Bounds.{AscendWithin}
use Rattle.placement_programme.specs.declared.sides.Programme.{Programme}
use Rattle.placement_programme.specs.Views.{plain_side}
use Rattle.certificate_checker.specs.Nodes.{PlainTree, PlainCertificate}
use Rattle.certificate_checker.specs.Shows.{IsAccepted, Answers, PlainVerdict, optimal, best_found, bad_choice, wrong}
use Rattle.certificate_checker.specs.Views.{plain_verdict}
use Rattle.certificate_checker.specs.Reading.{PlainTrees}
use Rattle.certificate_checker.specs.RowWise.{rows_of, IsOfSide}
use Rattle.certificate_checker.specs.Tallies.{HasRoomFor, HasSameRoomFor}
use Rattle.certificate_checker.specs.Walks.{SideAnswers}
use Rattle.certificate_checker.specs.declared.fault.CertFault.{CertFault}
use Rattle.certificate_checker.specs.declared.walking.Failing.{Failing}
use Rattle.certificate_checker.specs.declared.verdict.Verdict.{Verdict}
use Rattle.certificate_checker.specs.declared.text_trees.Outcomes.{Outcomes}
use Rattle.certificate_checker.specs.declared.rooms.Room.{Room}

-- ascending numbers, read one by one: `row_end` is the least number above all, and `taken` is all of them where none passes `limit`
pub record AreTaken (limit row_end : ℕ) (taken ks : List ℕ) : Type 0 where
  pub ascending : AscendWithin 0 row_end ks
  pub tight : (high : ℕ) → AscendWithin 0 high ks → row_end ≤ high
  pub all : row_end ≤ limit → taken ≡ ks
  pub few : length taken ≤ row_end
  pub room : length taken ≤ limit

abbrev pub Takes : ℕ → ℕ → List ℕ → Result (ℕ × Bor (List ℕ)) CertFault → Result (List ℕ × List ℕ) CertFault → Type 0
Takes total limit taken (Ok x) read = (ks : List ℕ) × ((read ≡ Ok (ks, x.1.now)) × AreTaken limit x.0 taken ks)
Takes total limit taken (Err e) read = read ≡ Err e

-- the gain of a choice that is accepted
abbrev pub IsBest : PlainProgramme → PlainChoice → PlainChoice → Option ℕ → Type 0
IsBest p c kept best =
    MatchOption best ((b : ℕ) → IsAccepted p c b → ⊥) (λ b. IsAccepted p c b × (kept ≡ c) × (b ≤ 20282409603651670423947251286016))

abbrev pub Chooses : PlainProgramme → PlainChoice → Result (Option ℕ × Bor (List ℕ)) CertFault → Result (PlainChoice × List ℕ) CertFault → Type 0
Chooses p kept (Ok x) read = (c : PlainChoice) × ((read ≡ Ok (c, x.1.now)) × IsBest p c kept x.0)
Chooses p kept (Err e) read = read ≡ Err e

-- a side is answered for a gain; without one its tree is only read
abbrev pub AnswersFor : Option PlainSide → Option ℕ → Option PlainTree → Result (Unit {0}) Failing → Type 0
AnswersFor side None t r = Unit {0}
AnswersFor side (Some best) t r = SideAnswers side best t r

-- the gain for which a tree is judged
abbrev pub gain_if : Bool → ℕ → Option ℕ
gain_if false best = None
gain_if true best = Some best

-- behind a tree that fails the other is only read
abbrev pub gain_behind : Option ℕ → Result (Unit {0}) Failing → Option ℕ
gain_behind best (Ok u) = best
gain_behind best (Err f) = None

-- a side's tree is read, and answered
abbrev pub SideRead : Option PlainSide → Option ℕ → Result (Result (Unit {0}) Failing × Bor (List ℕ)) CertFault → Result (PlainTree × List ℕ) CertFault → Type 0
SideRead side best (Ok x) read = (t : PlainTree) × ((read ≡ Ok (t, x.1.now)) × AnswersFor side best (Some t) x.0)
SideRead side best (Err e) read = read ≡ Err e

-- how many variables a side has
abbrev pub vars_of : Option PlainSide → ℕ
vars_of None = 0
vars_of (Some s) = length s.vars

-- the trees of a text are read, and both sides answered
abbrev pub TreesRead : PlainProgramme → Option ℕ → Result (Outcomes × Bor (List ℕ)) CertFault → Result (PlainTrees × List ℕ) CertFault → Type 0
TreesRead p best (Ok x) read =
    (ts : PlainTrees)
    × ((read ≡ Ok (ts, x.1.now)) × AnswersFor (Some p.off) best ts.0 x.0.off × AnswersFor p.on (gain_behind best x.0.off) ts.1 x.0.on)
TreesRead p best (Err e) read = read ≡ Err e

-- the verdict by what the choice and the trees are answered
abbrev pub verdict_for : Option ℕ → Bool → Result (Unit {0}) Failing → Result (Unit {0}) Failing → PlainVerdict
verdict_for None claimed off on = bad_choice
verdict_for (Some b) false off on = best_found
verdict_for (Some b) true (Err f) on = wrong 0 f.node f.depth
verdict_for (Some b) true (Ok u) (Err f) = wrong 1 f.node f.depth
verdict_for (Some b) true (Ok u) (Ok v) = optimal

abbrev pub used : Option ℕ → ℕ
used None = 0
used (Some b) = b

-- after these verdicts the certificate's choice is kept
abbrev pub KeepsChoice : PlainChoice → PlainChoice → PlainVerdict → Type 0
KeepsChoice c kept optimal = kept ≡ c
KeepsChoice c kept best_found = kept ≡ c
KeepsChoice c kept bad_choice = Unit {0}
KeepsChoice c kept (wrong side node depth) = Unit {0}

-- the certificate that is read is answered, or the text's fault
abbrev pub BodyAnswers : PlainProgramme → PlainChoice → Result Verdict CertFault → Result PlainCertificate CertFault → Type 0
BodyAnswers p kept (Ok v) read =
    (c : PlainCertificate) × ((read ≡ Ok c) × Answers p c (plain_verdict v) × KeepsChoice c.choice kept (plain_verdict v))
BodyAnswers p kept (Err e) read = read ≡ Err e

-- the room is large enough for a programme, and has its weights by rows
pub record RoomFits (p : Programme) (r : Room) : Type 0 where
  pub path : 4097 ≤ length r.path.items
  pub off : HasRoomFor (plain_side p.off) r.off
  pub off_prices : length p.off.vars.items ≤ length r.prices.list.items
  pub off_rows : IsOfSide (plain_side p.off) (rows_of r.off_rows)
  pub off_take : length p.off.vars.items ≤ vec_capacity r.choice.take
  pub on : IfSome p.on (λ s. HasRoomFor (plain_side s) r.on)
  pub on_prices : IfSome p.on (λ s. length s.vars.items ≤ length r.prices.list.items)
  pub on_rows : IfSome p.on (λ s. IsOfSide (plain_side s) (rows_of r.on_rows))
  pub on_take : IfSome p.on (λ s. length s.vars.items ≤ vec_capacity r.choice.take)

-- the greater of a number and one that may be there
abbrev pub most_of : ℕ → Option ℕ → ℕ
most_of n None = n
most_of n (Some m) = max n m

-- the lists of a room are as long as a programme needs them
pub record IsRoomOf (p : Programme) (r : Room) : Type 0 where
  pub path : length r.path.items ≡ 4097
  pub off : HasRoomFor (plain_side p.off) r.off
  pub on : IfSome p.on (λ s. HasRoomFor (plain_side s) r.on)
  pub prices : length r.prices.list.items ≡ most_of (length p.off.vars.items) (option_map (λ s. length s.vars.items) p.on)

-- the lists of a room are as long as they were, and its weights by rows are the same
pub record KeepsSizes (old new : Room) : Type 0 where
  pub path : length new.path.items ≡ length old.path.items
  pub off : HasSameRoomFor old.off new.off
  pub on : HasSameRoomFor old.on new.on
  pub prices : length new.prices.list.items ≡ length old.prices.list.items
  pub off_rows : new.off_rows ≡ old.off_rows
  pub on_rows : new.on_rows ≡ old.on_rows

-- so is its choice
pub record KeepsChoiceAndSizes (old new : Room) : Type 0 where
  pub sizes : KeepsSizes old new
  pub choice : new.choice ≡ old.choice

-- its choice has no less room
pub record HasSameRoom (old new : Room) : Type 0 where
  pub sizes : KeepsSizes old new
  pub take : vec_capacity old.choice.take ≤ vec_capacity new.choice.take
