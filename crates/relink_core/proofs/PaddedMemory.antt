-- What the memory of a result holds at the homes of stubs, and at words where no pad stands.
use Rattle.std.proofs.Common.{◌≡◌, ◌∙◌, ℕ, ◌+◌, ◌<◌, ◌≤◌, ◌==◌, Bool, true, false, ◌||◌, if◌then◌else◌, List, [], ◌∷◌, map, length, get_or, Some, refl, sym, ap, subst, arith, None}
use Rattle.std.specs.List.{filter, list_any}
use Rattle.std.proofs.lemmas.Bool.{eqb-true}
use Rattle.std.proofs.lemmas.List.{length-append, get_or-append-add}
use Rattle.std.proofs.lemmas.List.Folds.{list_any-append}
use Rattle.rv32im.specs.Words.{byte_of}
use Rattle.rv32im.specs.Memory.{Memory, word_at}
use Rattle.rv32im.specs.Table.{Means}
use Rattle.rv32im.specs.Sequences.{distance}
use Rattle.rv32im.specs.declared.instructions.Instr.TheVariants.{Jal}
use Rattle.list_checks.proofs.TestLemmas.{both}
use Rattle.list_checks.proofs.StepLemmas.{any_place}
use Rattle.elf_reader.specs.File.{PlainView, view_in}
use Rattle.elf_reader.specs.Faults.{first_fault}
use Rattle.elf_writer.specs.declared.parts.SymbolMove.{SymbolMove}
use Rattle.elf_writer.specs.Parts.{NewSegment}
use Rattle.elf_writer.specs.Conditions.{IsWritable}
use Rattle.board_config.specs.declared.board.Range.{Range}
use Rattle.code_blocks.specs.Early.{has}
use Rattle.block_splitter.specs.Copies.{Patch}
use Rattle.relocator.specs.SiteWords.{is_entry, has_entry}
use Rattle.relink_core.specs.Padding.{is_unpadded, ArePadded}
use Rattle.relink_core.specs.Making.{patch_of}
use Rattle.relink_core.proofs.PatchedMemory as patched
use Rattle.relink_core.proofs.PatchedMemory.{word_from, AreHeld}

-- what passes a test of an element is kept, where whatever passes is
pub any_kept : {X : Type 0} (test keep : X → Bool) (xs : List X) → ((x : X) → test x ≡ true → keep x ≡ true) → list_any test xs ≡ true → list_any test (filter keep xs) ≡ true
any_kept {X} test keep [] step found = found
any_kept {X} test keep (x ∷ xs) step found = by_front (test x) (keep x) refl refl found (step x) (any_kept test keep xs step)
  where
    by_front : (t k : Bool) → test x ≡ t → keep x ≡ k → t || list_any test xs ≡ true → (test x ≡ true → keep x ≡ true) → (list_any test xs ≡ true → list_any test (filter keep xs) ≡ true)
        → list_any test (if k then x ∷ filter keep xs else filter keep xs) ≡ true
    by_front true true passes stays found kept rest = rw passes refl
    by_front true false passes stays found kept rest = let also = kept passes in absurd (cc (also, stays))
    by_front false true passes stays found kept rest = rw passes (rest found)
    by_front false false passes stays found kept rest = rest found

module _ (file : List ℕ) (range : Range) (words : List Patch) (homes stub_at : List ℕ) (padded : List Patch) (s : NewSegment) (moves : List SymbolMove) (none : first_fault file ≡ None) (padding : ArePadded words homes stub_at padded) (held : AreHeld (view_in file) padded) (writable : IsWritable (view_in file) (map (patch_of (view_in file)) padded) (Some s) moves) (base : s.base ≡ range.base) (inside : length s.content ≤ range.size) where
  abbrev v : PlainView
  v = view_in file

  abbrev kept : List Patch
  kept = filter (is_unpadded homes) words

  abbrev memory : Memory
  memory = patched.memory file range padded s moves none held writable base inside

  -- at a home stands a jump to the stub
  pub pad_loaded : (k home to : ℕ) → k < length homes → get_or homes k 0 ≡ home → get_or stub_at k 0 ≡ to → home + 4 ≤ 4294967296 → Means (word_at memory home) (Jal 0 (distance home to))
  pad_loaded k home to below at there fits =
      let pad = padding.are.each k below in
      let pads_count = padding.are.many in
      let j = length kept + k in
      let count = ap (λ (ps : List Patch). length ps) padding.whole in
      let size = length-append kept padding.pads in
      let own : get_or padded j (0, 0) ≡ get_or padding.pads k (0, 0) =
      ap (λ (ps : List Patch). get_or ps j (0, 0)) padding.whole ∙ get_or-append-add kept padding.pads k (0, 0) in
      let place : (get_or padded j (0, 0)).0 ≡ home = ap (λ (e : Patch). e.0) own ∙ pad.at ∙ at in
      let word = (get_or padding.pads k (0, 0)).1 in
      let loaded : word_at memory home ≡ word =
      word_from memory home word fits pad.small
      (λ i less.
      ap (λ (a : ℕ). memory (a + i)) (sym place)
      ∙ patched.entry_loaded file range padded s moves none held writable base inside j i (omega (arith, below, count, size, pads_count)) less
      ∙ ap (λ (e : Patch). byte_of e.1 i) own) in
      let means : Means word (Jal 0 (distance home to)) =
      subst (λ (a : ℕ). Means word (Jal 0 (distance a to))) at
      (subst (λ (b : ℕ). Means word (Jal 0 (distance (get_or homes k 0) b))) there pad.means) in
      subst (λ (x : ℕ). Means x (Jal 0 (distance home to))) (sym loaded) means

  -- a word at which no pad stands is put
  stays : (a n : ℕ) → has homes a ≡ false → has_entry words a n ≡ true → has_entry padded a n ≡ true
  stays a n off found =
      let kept_there : has_entry kept a n ≡ true =
      any_kept (is_entry a n) (is_unpadded homes) words (λ e passes. unpadded e (eqb-true e.0 a (both (e.0 == a) (e.1 == n) passes).0)) found in
      subst (λ (ps : List Patch). has_entry ps a n ≡ true) (sym padding.whole) (list_any-append (is_entry a n) kept padding.pads ∙ first_true (has_entry kept a n) (has_entry padding.pads a n) kept_there)
    where
      unpadded : (e : Patch) → e.0 ≡ a → is_unpadded homes e ≡ true
      unpadded e at = let off_there : has homes e.0 ≡ false = subst (λ (x : ℕ). has homes x ≡ false) (sym at) off in rw off_there refl

      first_true : (a b : Bool) → a ≡ true → a || b ≡ true
      first_true a b is = rw is refl

  pub word_loaded : (a n i : ℕ) → has homes a ≡ false → has_entry words a n ≡ true → i < 4 → memory (a + i) ≡ byte_of n i
  word_loaded a n i off has_it less =
      let (j, (below, found)) = any_place (is_entry a n) padded (0, 0) (stays a n off has_it) in
      let e = get_or padded j (0, 0) in
      let parts = both (e.0 == a) (e.1 == n) found in
      let at = eqb-true e.0 a parts.0 in
      let word = eqb-true e.1 n parts.1 in
      ap (λ (x : ℕ). memory (x + i)) (sym at)
      ∙ patched.entry_loaded file range padded s moves none held writable base inside j i below less
      ∙ ap (λ (x : ℕ). byte_of x i) word
