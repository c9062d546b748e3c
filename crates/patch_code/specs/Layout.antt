-- The code of the patch range: control words, the start stub, plain stubs by home address, and images one behind the
-- other.
use Rattle.std.specs.Prelude.{◌≡◌, ℕ, ◌+◌, ◌*◌, ◌<◌, List, [], ◌∷◌, ◌++◌, length, All}
use Rattle.std.specs.List.{flat_map, concat}
use Rattle.rv32im.specs.Sequences.{MeanAll}
use Rattle.patch_code.specs.declared.job.CopyJob.{CopyJob}
use Rattle.patch_code.specs.Jobs.{AreDisjoint}
use Rattle.patch_code.specs.Start.{StartPlan, CanStart, AreStartWords, start_at, start_bytes}
use Rattle.patch_code.specs.PlainStubs.{PlainStub, CanJump, stub_code, AreApart, AreByHome, stubs_bytes, bytes_below}

-- what the patch range is to hold: a start stub, plain stubs, and the words of each image
pub record CodePlan : Type 0 where
  pub start : StartPlan
  pub stubs : List PlainStub
  pub images : List (List ℕ)

-- nothing but a start stub
abbrev pub alone : StartPlan → CodePlan
alone p = record { start = p; stubs = []; images = [] }

-- ---- places

abbrev pub image_bytes : List (List ℕ) → ℕ
image_bytes images = 4 * length (concat images)

-- the bytes behind the start stub
abbrev pub bytes_behind : CodePlan → ℕ
bytes_behind p = stubs_bytes p.stubs + image_bytes p.images

-- where stubs and images begin
abbrev pub stubs_at : CodePlan → ℕ
stubs_at p = start_at p.start + start_bytes p.start

abbrev pub images_at : CodePlan → ℕ
images_at p = stubs_at p + stubs_bytes p.stubs

-- a stub stands behind those of lower homes
abbrev pub stub_place : CodePlan → PlainStub → ℕ
stub_place p stub = stubs_at p + bytes_below stub.home p.stubs

-- images that begin at an address stand one behind the other
abbrev pub image_places : ℕ → List (List ℕ) → List ℕ
image_places at [] = []
image_places at (words ∷ images) = at ∷ image_places (at + 4 * length words) images

-- ---- conditions

-- no target meets the words behind the start stub
abbrev pub SparesRest : CodePlan → CopyJob → Type 0
SparesRest p job = AreDisjoint job.to job.bytes (stubs_at p) (bytes_behind p)

-- all of it can stand there
pub record CanStand (p : CodePlan) : Type 0 where
  pub start : CanStart p.start
  pub jumps : All CanJump p.stubs
  pub apart : AreApart p.stubs
  pub spared : All (SparesRest p) p.start.jobs
  pub ends : stubs_at p + bytes_behind p < 4294967296

-- ---- words

-- the words of all parts in their order
pub record AreCodeWords (p : CodePlan) (words : List ℕ) : Type 0 where
  pub first : List ℕ
  pub ordered : List PlainStub
  pub jumps : List ℕ
  pub whole : words ≡ first ++ (jumps ++ concat p.images)
  pub starts : AreStartWords p.start first
  pub by_home : AreByHome p.stubs ordered
  pub mean : MeanAll jumps (flat_map stub_code ordered)
