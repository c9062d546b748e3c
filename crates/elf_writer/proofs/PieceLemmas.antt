-- Pieces that are appended one behind the other.
use Rattle.std.proofs.Common.{◌≡◌, ℕ, ◌+◌, ◌*◌, List, [], ◌∷◌, ◌++◌, slice_range, append_assoc, subst, length, Some, Result, Ok, Err, IfOk, Vec, refl, ap, ◌∙◌}
use Rattle.std.specs.declared.alloc.Global.{Global}
use Rattle.elf_writer.specs.Pieces.{words_bytes}
use Rattle.elf_reader.specs.File.{PlainView}
use Rattle.elf_writer.specs.Parts.{NewSegment, content_changes, header_changes, content_place}
use Rattle.elf_writer.specs.Written.{new_number, new_record, new_table, all_changes, appended, written}
use Rattle.elf_writer.specs.declared.parts.Patch.{Patch}
use Rattle.elf_writer.specs.declared.parts.SymbolMove.{SymbolMove}
use Rattle.elf_writer.specs.Changes.{changed}
use Rattle.elf_writer.proofs.ChangeLemmas.{changed_twice}

pub three_pushed : (out a b c o1 o2 o3 : List ℕ) → o1 ≡ out ++ a → o2 ≡ o1 ++ b → o3 ≡ o2 ++ c → o3 ≡ out ++ (a ++ (b ++ c))
three_pushed out a b c o1 o2 o3 e1 e2 e3 = rw (e3, e2, e1) (simp append_assoc)

-- the program headers, at the number and the place that were found
pub table_pushed :
    (v : PlainView)
    (s : NewSegment)
    (number place : ℕ)
    (out o1 o2 o3 : List ℕ)
    → number ≡ new_number v s
    → place ≡ content_place v
    → o1 ≡ out ++ slice_range v.bytes v.ph_at (v.ph_at + 32 * number)
    → o2 ≡ o1 ++ words_bytes (1 ∷ place ∷ s.base ∷ s.base ∷ length s.content ∷ length s.content ∷ 7 ∷ 4 ∷ [])
    → o3 ≡ o2 ++ slice_range v.bytes (v.ph_at + 32 * number) (v.ph_at + 32 * v.ph_count)
    → o3 ≡ out ++ new_table v s
table_pushed v s number place out o1 o2 o3 is_number is_place e1 e2 e3 =
    let all = three_pushed out _ _ _ o1 o2 o3 e1 e2 e3 in
    let placed = subst (λ (p : ℕ). o3 ≡ out ++ (slice_range v.bytes v.ph_at (v.ph_at + 32 * number) ++ (words_bytes (1 ∷ p ∷ s.base ∷ s.base ∷ length s.content ∷ length s.content ∷ 7 ∷ 4 ∷ []) ++ slice_range v.bytes (v.ph_at + 32 * number) (v.ph_at + 32 * v.ph_count)))) is_place all in
    subst (λ (n : ℕ). o3 ≡ out ++ (slice_range v.bytes v.ph_at (v.ph_at + 32 * n) ++ (new_record v s ++ slice_range v.bytes (v.ph_at + 32 * n) (v.ph_at + 32 * v.ph_count)))) is_number placed

if_ok_more : {T E : Type 0} (P Q : T → Type 0) (r : Result T E) → ((x : T) → P x → Q x) → IfOk r P → IfOk r Q
if_ok_more P Q (Ok x) more holds = more x holds
if_ok_more P Q (Err e) more holds = tt

-- a segment that is added to the changed bytes of a file
pub segment_added :
    {E : Type 0}
    (v : PlainView)
    (ps : List Patch)
    (s : NewSegment)
    (ms : List SymbolMove)
    (out : List ℕ)
    (r : Result (Vec ℕ Global) E)
    → out ≡ changed (content_changes v ps ms) 0 v.bytes
    → IfOk r (λ new. new.items ≡ changed (header_changes v s) 0 out ++ appended v (Some s))
    → IfOk r (λ new. new.items ≡ written v ps (Some s) ms)
segment_added v ps s ms out r made added =
    let both : changed (header_changes v s) 0 out ≡ changed (all_changes v ps (Some s) ms) 0 v.bytes =
    changed_twice (content_changes v ps ms) (header_changes v s) v.bytes out _ made refl in
    if_ok_more _ _ r (λ new is. is ∙ ap (λ front. front ++ appended v (Some s)) both) added
