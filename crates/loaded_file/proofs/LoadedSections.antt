-- Tests over the sections and segments of a view, and the list of those that are loaded.
use Rattle.std.proofs.Common.{◌≡◌, ◌∙◌, ℕ, ◌+◌, ◌<◌, Bool, true, false, List, map, length, slice_index_or, refl, ap, arith, add-one}
use Rattle.std.proofs.lemmas.List.{length-map}
use Rattle.list_checks.specs.Tests.{any_below}
use Rattle.list_checks.proofs.TestLemmas.{any_at}
use Rattle.list_checks.proofs.StepLemmas.{length_built, built_at}
use Rattle.elf_reader.specs.File.{PlainView, plain_section, plain_view}
use Rattle.elf_reader.specs.declared.view.ElfView.{ElfView}
use Rattle.elf_reader.specs.Loaded.{is_loaded}
use Rattle.loaded_file.specs.Marks.{loaded_below, all_loaded}

-- a place of a list that passes is found among those of the list without borrows
pub found_in : {A B : Type 0} (test : ℕ → Bool) (plain : A → B) (xs : List A) (k : ℕ) → k < length xs → test k ≡ true → any_below test (length (map plain xs)) ≡ true
found_in test plain xs k below passes = any_at test (length (map plain xs)) k (rw length-map below) passes

-- one more place that does not pass
pub none_after : (test : ℕ → Bool) (n : ℕ) → any_below test n ≡ false → test n ≡ false → any_below test (n + 1) ≡ false
none_after test n none fails = rw (add-one, none) fails

-- there is a mark for each section
pub length_loaded : (v : PlainView) (n : ℕ) → length (loaded_below v n) ≡ n
length_loaded v n = length_built (loaded_below v) (is_loaded v) refl (λ m. refl) n

pub mark_below : (v : PlainView) (n k : ℕ) → k < n → slice_index_or (loaded_below v n) k false ≡ is_loaded v k
mark_below v n k below = built_at (loaded_below v) (is_loaded v) false refl (λ m. refl) n k below

-- the mark of section `k`
pub mark_at : (v : PlainView) (k : ℕ) → k < length v.sections → slice_index_or (all_loaded v) k false ≡ is_loaded v k
mark_at v k below = mark_below v (length v.sections) k below

pub length_marks : (v : PlainView) → length (all_loaded v) ≡ length v.sections
length_marks v = length_loaded v (length v.sections)

-- the marks of a view's sections: there is one for each, and it tells whether the section is loaded
pub marks_length : (view : ElfView) (marks : List Bool) (k : ℕ) → marks ≡ all_loaded (plain_view view) → k < length view.sections.items → k < length marks
marks_length view marks k is below =
    let count = length_marks (plain_view view) in
    let inside : k < length (map plain_section view.sections.items) = rw length-map below in
    rw is (omega (arith, count, inside))

pub mark_is : (view : ElfView) (marks : List Bool) (k : ℕ) → marks ≡ all_loaded (plain_view view) → k < length view.sections.items → slice_index_or marks k false ≡ is_loaded (plain_view view) k
mark_is view marks k is below =
    let inside : k < length (map plain_section view.sections.items) = rw length-map below in
    ap (λ (ms : List Bool). slice_index_or ms k false) is ∙ mark_at (plain_view view) k inside
