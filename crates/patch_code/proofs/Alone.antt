-- A plan of a start stub alone.
use Rattle.std.proofs.Common.{◌≡◌, inl, inr, ℕ, List, [], ◌∷◌, length, slice_index_or, refl, arith}
use Rattle.std.specs.List.{flat_map}
use Rattle.std.proofs.lemmas.List.Elements.{All-nil}
use Rattle.rv32im.specs.Sequences.{MeanAll}
use Rattle.patch_code.specs.declared.job.CopyJob.{CopyJob}
use Rattle.patch_code.specs.Start.{StartPlan, CanStart, Spares}
use Rattle.patch_code.specs.PlainStubs.{PlainStub, CanJump, stub_code}
use Rattle.patch_code.specs.Layout.{alone, SparesRest, CanStand}

spares_rest : (p : StartPlan) (job : CopyJob) → Spares p job → SparesRest (alone p) job
spares_rest p job (inl before) = inl (omega (arith, before))
spares_rest p job (inr past) = inr (omega (arith, past))

-- a start stub that can stand there can stand there alone
pub alone_stands : (p : StartPlan) → CanStart p → CanStand (alone p)
alone_stands p can =
    let ends = can.ends in
    record {
      start = can;
      jumps = All-nil CanJump;
      apart = λ i j d before below. absurd (omega (arith, below));
      spared = λ k d below. spares_rest p (slice_index_or p.jobs k d) (can.spared k d below);
      ends = omega (arith, ends);
    }

none_means : (stubs : List PlainStub) (words : List ℕ) → length stubs ≡ 0 → MeanAll words (flat_map stub_code stubs) → words ≡ []
none_means [] [] none mean = refl
none_means [] (word ∷ words) none mean = absurd mean
none_means (stub ∷ stubs) words none mean = absurd (omega (arith, none))
