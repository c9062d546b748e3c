-- Plans that meet the conditions of their code.
use Rattle.std.proofs.Common.{◌≡◌, inl, inr, ℕ, true, false, List, [], ◌∷◌, length, refl, arith}
use Rattle.std.proofs.lemmas.List.{length-append}
use Rattle.std.proofs.lemmas.List.Elements.{All-nil, All-cons}
use Rattle.patch_code.specs.declared.job.CopyJob.{CopyJob}
use Rattle.patch_code.specs.Jobs.{copying, IsJob}
use Rattle.patch_code.specs.Start.{StartPlan, CanStart, Spares}
use Rattle.patch_code.specs.PlainStubs.{PlainStub, CanJump}
use Rattle.patch_code.specs.Layout.{CodePlan, CanStand, SparesRest, alone}
use Rattle.patch_code.proofs.Alone.{alone_stands}
use Rattle.listings.proofs.RegionPlans.{start_with, starts_with}

-- one job of words, from behind the stub
abbrev pub image : CopyJob
image = record { from = 589960; to = 16777216; bytes = 48 }

abbrev pub one : StartPlan
one = start_with false (image ∷ [])

image_is : IsJob image
image_is = record { some = omega arith; source = omega arith; target = omega arith; disjoint = inl (omega arith) }

one_starts : CanStart one
unfolding copying
one_starts =
    starts_with false (image ∷ []) (All-cons IsJob image [] image_is (All-nil IsJob))
    (All-cons (Spares one) image [] (inr (omega arith)) (All-nil (Spares one))) (omega arith) (omega arith, refl)

pub one_stands : CanStand (alone one)
one_stands = alone_stands one one_starts

-- a stub, and an image of twelve words, which the job copies
abbrev pub entry : PlainStub
entry = record { home = 65540; temp = 5; to = 16777216 }

abbrev pub piece : List ℕ → CodePlan
piece words = record { start = one; stubs = entry ∷ []; images = words ∷ [] }

pub piece_stands : (words : List ℕ) → length words ≡ 12 → CanStand (piece words)
unfolding copying
piece_stands words twelve =
    let all = length-append words [] in
    record {
      start = one_starts;
      jumps = All-cons CanJump entry [] (record { above = omega arith; below = omega arith; aligned = refl; within = omega arith }) (All-nil CanJump);
      apart = λ i j d before below. absurd (omega (arith, before, below));
      spared = All-cons (SparesRest (piece words)) image [] (inr (omega (arith, twelve, all))) (All-nil (SparesRest (piece words)));
      ends = omega (arith, twelve, all);
    }

-- a job of words and one of bytes, and a fence
abbrev pub table : CopyJob
table = record { from = 65576; to = 16777216; bytes = 8 }

abbrev pub pair : CopyJob
pair = record { from = 65585; to = 16777233; bytes = 2 }

abbrev pub two : StartPlan
two = start_with true (table ∷ pair ∷ [])

table_is : IsJob table
table_is = record { some = omega arith; source = omega arith; target = omega arith; disjoint = inl (omega arith) }

pair_is : IsJob pair
pair_is = record { some = omega arith; source = omega arith; target = omega arith; disjoint = inl (omega arith) }

two_start : CanStart two
unfolding copying
two_start =
    starts_with true (table ∷ pair ∷ []) (All-cons IsJob table (pair ∷ []) table_is (All-cons IsJob pair [] pair_is (All-nil IsJob)))
    (All-cons (Spares two) table (pair ∷ []) (inr (omega arith))
    (All-cons (Spares two) pair [] (inr (omega arith)) (All-nil (Spares two)))) (omega arith) (omega arith, refl)

pub two_stand : CanStand (alone two)
two_stand = alone_stands two two_start
