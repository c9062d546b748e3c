-- Tests over two lists of a view.
use Rattle.std.proofs.Common.{◌≡◌, ◌∙◌, ℕ, zero, suc, ◌<◌, Bool, true, false, ◌&&◌, ◌||◌, length, slice_index_or, refl, sym, arith}
use Rattle.std.proofs.lemmas.List.{get_or_default}
use Rattle.list_checks.specs.Tests.{any_below}
use Rattle.elf_reader.specs.File.{plain_view}
use Rattle.elf_reader.specs.declared.view.ElfView.{ElfView}
use Rattle.elf_reader.specs.declared.view.Reloc.{Reloc}
use Rattle.loaded_file.specs.Records.{no_reloc, reloc_at}

pub any_or : (t u : ℕ → Bool) (n : ℕ) → (any_below t n || any_below u n) ≡ any_below (λ k. t k || u k) n
any_or t u zero = refl
any_or t u (suc n) = let earlier = any_or t u n in grind (arith, earlier)

pub any_same : (t u : ℕ → Bool) (n : ℕ) → ((k : ℕ) → t k ≡ u k) → any_below t n ≡ any_below u n
any_same t u n same = λ i. any_below (λ k. same k i) n

-- of two tests, the first decides where it passes, and else the second
pub first_passes : (a b whole : Bool) → a ≡ true → (a || b) ≡ whole → a ≡ whole
first_passes true b whole passes is = is
first_passes false b whole passes is = cc

pub first_fails : (a b whole : Bool) → a ≡ false → (a || b) ≡ whole → b ≡ whole
first_fails true b whole fails is = cc
first_fails false b whole fails is = is

-- the same of two tests that both pass
pub both_first : (a b whole : Bool) → a ≡ true → (a && b) ≡ whole → b ≡ whole
both_first true b whole passes is = is
both_first false b whole passes is = cc

pub both_fails : (a b whole : Bool) → a ≡ false → (a && b) ≡ whole → a ≡ whole
both_fails true b whole fails is = cc
both_fails false b whole fails is = is

-- the relocation at a place of a view
pub reloc_is : (view : ElfView) (i : ℕ) (r : Reloc) → i < length view.relocs.items → r ≡ slice_index_or view.relocs.items i r → reloc_at (plain_view view) i ≡ r
reloc_is view i r below is = get_or_default view.relocs.items i no_reloc r below ∙ sym is
