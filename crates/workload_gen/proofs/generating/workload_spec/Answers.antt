use Rattle.std.proofs.Common.{◌≡◌, ℕ, List, [], ◌∷◌, ◌++◌, map, ap, ◌∙◌}
use Rattle.std.specs.List.{flat_map}
use Rattle.workload_gen.specs.declared.spec.SectionSpec.{SectionSpec}
use Rattle.workload_gen.specs.declared.spec.SymbolSpec.{SymbolSpec}
use Rattle.workload_gen.specs.declared.kernels.Kernel.{Kernel}
use Rattle.workload_gen.specs.Plan.{FilePlan, section_plan, symbol_plan}
use Rattle.workload_gen.specs.Workload.{main_words, kernels_below, tables_below, workload_symbols, workload_plan, text_start, text_plan, tables_plan, out_plan}
use Rattle.workload_gen.specs.Kernels.{kernel_code, kernel_table, drawn_kernels}
use Rattle.workload_gen.specs.Parts.{symbol_plans}
use Rattle.workload_gen.proofs.KernelLemmas.{drawn_code, drawn_tables, drawn_symbols}
use Rattle.workload_gen.proofs.generating.workload_spec.Goals as goal

plan_of :
    (seed k : ℕ)
    (kernels : List Kernel)
    (code tables : List ℕ)
    (sections : List SectionSpec)
    (symbols : List SymbolSpec)
    (text rodata last : SectionSpec)
    → kernels ≡ drawn_kernels seed k
    → code ≡ main_words k ++ flat_map kernel_code kernels
    → tables ≡ flat_map kernel_table kernels
    → sections ≡ text ∷ rodata ∷ last ∷ []
    → section_plan text ≡ text_plan k code
    → section_plan rodata ≡ tables_plan tables
    → section_plan last ≡ out_plan
    → map symbol_plan symbols ≡ symbol_plans k kernels
    → let made : FilePlan =
    record { entry = text_start; sections = map section_plan sections; symbols = map symbol_plan symbols } in
    made ≡ workload_plan seed k
plan_of seed k kernels code tables sections symbols text rodata last drawn is_code is_tables listed is_text is_rodata is_last named =
    let code_is : code ≡ main_words k ++ kernels_below seed k = rw (is_code, drawn, drawn_code seed k) in
    let tables_is : tables ≡ tables_below seed k = rw (is_tables, drawn, drawn_tables seed k) in
    let first : section_plan text ≡ text_plan k (main_words k ++ kernels_below seed k) = is_text ∙ ap (text_plan k) code_is in
    let second : section_plan rodata ≡ tables_plan (tables_below seed k) = is_rodata ∙ ap tables_plan tables_is in
    let all : map section_plan sections ≡ (workload_plan seed k).sections =
    ap (map section_plan) listed ∙ (λ i. first i ∷ second i ∷ is_last i ∷ []) in
    let symbols_are : map symbol_plan symbols ≡ workload_symbols seed k = rw (named, drawn, drawn_symbols seed k) in
    λ i. record { entry = text_start; sections = all i; symbols = symbols_are i }

pub returns : goal.returns
returns c =
    let k : ℕ = c.args.kernels in
    let drawn : List Kernel = c.in_ok-drawn.drawn.items in
    let main : c.push_main.new.words.items ≡ main_words k =
    c.in_ok-push_main.ensures ∙ ap (λ (words : List ℕ). words ++ main_words k) c.new-code.ensures.items in
    let code : c.push_kernels.new.code.items ≡ main_words k ++ flat_map kernel_code drawn =
    c.in_ok-push_kernels.ensures.code ∙ (λ i. main i ++ flat_map kernel_code (c.deref.ensures.value i)) in
    let tables : c.push_kernels.new.tables.items ≡ flat_map kernel_table drawn =
    c.in_ok-push_kernels.ensures.tables
    ∙ (λ i. c.new-tables.ensures.items i ++ flat_map kernel_table (c.deref.ensures.value i)) in
    plan_of
    c.args.seed
    k
    drawn
    c.push_kernels.new.code.items
    c.push_kernels.new.tables.items
    c.in_ok-vec.field-0.items
    c.in_ok-workload_symbols.field-0.items
    c.in_ok-text.text
    c.in_ok-rodata.rodata
    c.in_ok-out.out
    c.in_ok-drawn.ensures.drawn
    code
    tables
    c.in_ok-vec.ensures.items
    (c.in_ok-text.ensures ∙ ap (text_plan k) c.deref-2.ensures.value)
    (c.in_ok-rodata.ensures ∙ ap tables_plan c.deref-3.ensures.value)
    c.in_ok-out.ensures
    (c.in_ok-workload_symbols.ensures ∙ ap (symbol_plans k) c.deref-4.ensures.value)
