-- The instructions of the routine, part by part.
use Rattle.std.proofs.Common.{◌≡◌, ℕ, suc, ◌+◌, List, ◌++◌, sym, ◌∙◌, ap, arith}
use Rattle.std.specs.List.{flat_map}
use Rattle.std.proofs.lemmas.Grind.{flat_map-append}
use Rattle.std.proofs.lemmas.List.{append_assoc, flat_map_more}
use Rattle.rv32im.specs.declared.instructions.Instr.{Instr}
use Rattle.patch_code.specs.Jobs.{fences}
use Rattle.patch_code.specs.Parts.{Part, SwitchPlan, leave_part, enter_part, first_parts, part_code}
use Rattle.patch_code.specs.Switching.{begins, ends, routine}

abbrev code_of : Part (List Instr) → List Instr
code_of p = part_code (λ is. is) p

pub one_more : (part : ℕ → Part (List Instr)) (old now next : List Instr) (n : ℕ) → now ≡ old ++ flat_map (part_code (λ is. is)) (first_parts part n) → next ≡ now ++ part_code (λ is. is) (part n) → next ≡ old ++ flat_map (part_code (λ is. is)) (first_parts part (n + 1))
one_more part old now next n so_far more =
    let one : suc n ≡ n + 1 = omega arith in
    more
    ∙ (ap (λ (is : List Instr). is ++ code_of (part n)) so_far
    ∙ (flat_map_more (part_code (λ is. is)) old (first_parts part n) (part n)
    ∙ ap (λ k. old ++ flat_map (part_code (λ is. is)) (first_parts part k)) one))

pub whole_code : (w : SwitchPlan (List Instr)) (a b c d : List Instr) → a ≡ begins w.base → b ≡ a ++ flat_map (part_code (λ is. is)) (first_parts (leave_part w) w.regions) → c ≡ b ++ flat_map (part_code (λ is. is)) (first_parts (enter_part w) w.regions) → d ≡ c ++ (fences w.fence_i ++ ends w.base) → d ≡ routine (λ is. is) w
unfolding routine
whole_code w a b c d one two three four =
    let leaves : List Instr = flat_map (part_code (λ is. is)) (first_parts (leave_part w) w.regions) in
    let enters : List Instr = flat_map (part_code (λ is. is)) (first_parts (enter_part w) w.regions) in
    let last : List Instr = fences w.fence_i ++ ends w.base in
    let begun : List Instr = begins w.base in
    let parts = flat_map-append (part_code (λ is. is)) (first_parts (leave_part w) w.regions) (first_parts (enter_part w) w.regions) in
    four
    ∙ (ap (λ (is : List Instr). is ++ last) three
    ∙ (ap (λ (is : List Instr). (is ++ enters) ++ last) two
    ∙ (ap (λ (is : List Instr). ((is ++ leaves) ++ enters) ++ last) one
    ∙ (ap (λ (is : List Instr). is ++ last) (append_assoc begun leaves enters)
    ∙ (append_assoc begun (leaves ++ enters) last ∙ ap (λ (is : List Instr). begun ++ (is ++ last)) (sym parts))))))
