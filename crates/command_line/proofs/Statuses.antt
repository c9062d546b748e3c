-- The statuses of what is told of inputs.
use Rattle.std.proofs.Common.{◌≡◌, ℕ, ◌≤◌, List, [], ◌∷◌, Option, Some, None, option_map, subst, sym, arith}
use Rattle.list_checks.specs.First.{◌or_else◌}
use Rattle.elf_reader.specs.Faults.{first_fault}
use Rattle.elf_reader.specs.declared.fault.ElfFault.{ElfFault}
use Rattle.elf_reader.specs.declared.fault.ElfFault.TheVariants as elf
use Rattle.board_config.specs.Keys.{first_key}
use Rattle.board_config.specs.Faults.{Fault, not_toml, missing, wrong_type, out_of_range, unknown_key, memory}
use Rattle.object_graph.specs.declared.fault.GraphFault.{GraphFault}
use Rattle.object_graph.specs.declared.fault.GraphFault.TheVariants as graph
use Rattle.code_blocks.specs.declared.fault.CodeFault.{CodeFault}
use Rattle.code_blocks.specs.declared.fault.CodeFault.TheVariants as code
use Rattle.region_former.specs.Faults as region
use Rattle.relink_core.specs.declared.fault.AnalyseFault.{AnalyseFault}
use Rattle.relink_core.specs.declared.fault.AnalyseFault.TheVariants as analyse
use Rattle.certificate_checker.specs.Shows.{optimal, best_found, bad_choice, wrong}
use Rattle.certificate_checker.specs.declared.fault.CertFault.{CertFault}
use Rattle.certificate_checker.specs.declared.fault.CertFault.TheVariants as cert
use Rattle.placement_programme.specs.Plain.{PlainProgramme}
use Rattle.hex_image.specs.Reading.{hex_fault}
use Rattle.hex_image.specs.declared.fault.HexFault.{HexFault}
use Rattle.hex_image.specs.declared.fault.HexFault.TheVariants as hex
use Rattle.command_language.specs.Command.{PlainCommand}
use Rattle.command_language.specs.FaultLine.{Parts, board_parts, elf_parts, graph_parts, code_parts, analyse_parts, address_parts, source_parts, cert_parts, choice_parts, tree_parts, hex_parts, mix_parts, differs_parts, region_parts}
use Rattle.compare_runner.specs.declared.comparing.Comparison.TheVariants.{Same, Differs, SourceFault}
use Rattle.command_line.specs.Analysed.{ReportsAnalysed, of_board, of_analysis}
use Rattle.command_line.specs.ProgramRun.{ReportsProfiled, of_run, of_none}
use Rattle.command_line.specs.ProgramRun as program
use Rattle.command_line.specs.CompareFiles.{ReportsCompared, of_relinked, of_comparison}
use Rattle.command_line.specs.CompareFiles as compared
use Rattle.command_line.specs.CheckFile.{ReportsCertificate, unspelled, answered, ReportsChecked, of_certificate}
use Rattle.command_line.specs.CheckFile as checked
use Rattle.command_line.specs.PaidFile.{ReportsPaid, of_check, of_result}
use Rattle.command_line.specs.Meaning.{IsFirst, run_first, relink_first, profile_first, compare_first, check_first, mix_first, check_mix_first, gen_first, hex_first, check_fault, check_difference, show_first, paid_first, trace_first}
use Rattle.relinking.specs.MixOfRuns.{WeightedInput}
use Rattle.command_line.specs.MixFile.{ReportsRuns, ReportsMixed, of_list, of_runs, ReportsCheckedRuns, of_inputs, ReportsMixChecked, of_checked_list, of_checked_runs}
use Rattle.command_line.specs.MixFile as mixed
use Rattle.command_line.specs.ShowFile.{ReportsShown}
use Rattle.command_line.specs.ShowFile as show

-- none of them is that of the words or of the outside
abbrev pub IsOfInputs : Parts → Type 0
IsOfInputs told = 4 ≤ told.status

board_least : (fault : Fault) → IsOfInputs (board_parts fault)
board_least not_toml = omega arith
board_least (missing key) = omega arith
board_least (wrong_type key) = omega arith
board_least (out_of_range key) = omega arith
board_least (unknown_key name) = omega arith
board_least memory = omega arith

elf_least : (fault : ElfFault) → IsOfInputs (elf_parts fault)
elf_least (elf.TooShort need have) = omega arith
elf_least (elf.NotElf at) = omega arith
elf_least (elf.WrongKind field value) = omega arith
elf_least (elf.OutOfFile table index) = omega arith
elf_least (elf.BadIndex table index) = omega arith
elf_least (elf.Unsupported index kind) = omega arith
elf_least (elf.OverLimit what count) = omega arith
elf_least (elf.Compressed section) = omega arith
elf_least (elf.Overlap first second) = omega arith
elf_least elf.Memory = omega arith

hex_least : (fault : HexFault) → IsOfInputs (hex_parts fault)
hex_least (hex.BadRecord line) = omega arith
hex_least (hex.BadCheck line) = omega arith
hex_least (hex.BadKind line kind) = omega arith
hex_least (hex.Twice line) = omega arith
hex_least (hex.NoEnd lines) = omega arith
hex_least (hex.Trailing line) = omega arith
hex_least hex.Memory = omega arith

graph_least : (fault : GraphFault) → IsOfInputs (graph_parts fault)
graph_least (graph.SpmOverlap segment) = omega arith
graph_least (graph.PatchOverlap segment) = omega arith
graph_least (graph.PatchFar span) = omega arith
graph_least graph.SpmOverlapsPatch = omega arith
graph_least graph.SpmAtZero = omega arith
graph_least (graph.NoArea segment) = omega arith
graph_least (graph.TooManyObjects count) = omega arith
graph_least graph.Memory = omega arith

code_least : (fault : CodeFault) → IsOfInputs (code_parts fault)
code_least code.NoText = omega arith
code_least code.EntryNotLeader = omega arith
code_least (code.TooManyBlocks count) = omega arith
code_least code.Memory = omega arith

region_least : (fault : region.Fault) → IsOfInputs (region_parts fault)
region_least (region.unknown_function name) = omega arith
region_least (region.two_regions name) = omega arith
region_least region.memory = omega arith

analyse_least : (fault : AnalyseFault) → IsOfInputs (analyse_parts fault)
analyse_least (analyse.Elf fault) = elf_least fault
analyse_least (analyse.Graph fault) = graph_least fault
analyse_least (analyse.PatchTooSmall need have) = omega arith
analyse_least (analyse.Code fault) = code_least fault
analyse_least (analyse.Region fault) = region_least (region.plain_fault fault)
analyse_least analyse.Memory = omega arith

analysed_least : (board file : List ℕ) (told : Parts) → ReportsAnalysed board file told → IsOfInputs told
analysed_least board file told (of_board fault first e) = subst IsOfInputs (sym e) (board_least fault)
analysed_least board file told (of_analysis b fault is sound first e) = subst IsOfInputs (sym e) (analyse_least fault)

profiled_least : (board file input : List ℕ) (told : Parts) → ReportsProfiled board file input (Some told) → IsOfInputs told
profiled_least board file input told (program.of_files parts tells e) =
    let same : parts ≡ told = cc in subst IsOfInputs same (analysed_least board file parts tells)
profiled_least board file input told (of_run b pc why accepts runs e) =
    let same : address_parts pc why ≡ told = cc in
    let low : IsOfInputs (address_parts pc why) = omega arith in subst IsOfInputs same low
profiled_least board file input told (of_none b outcome accepts runs no_fault e) = absurd (cc)

compared_least : (board file relinked input : List ℕ) (told : Parts) → ReportsCompared board file relinked input (Some told) → IsOfInputs told
compared_least board file relinked input told (compared.of_files parts tells e) =
    let same : parts ≡ told = cc in subst IsOfInputs same (analysed_least board file parts tells)
compared_least board file relinked input told (of_relinked b fault accepts first e) =
    let same : elf_parts fault ≡ told = cc in subst IsOfInputs same (elf_least fault)
compared_least board file relinked input told (of_comparison b (Same outcome) accepts sound compares e) = absurd (cc)
compared_least board file relinked input told (of_comparison b (Differs at) accepts sound compares e) =
    let same : differs_parts at ≡ told = cc in
    let low : IsOfInputs (differs_parts at) = omega arith in subst IsOfInputs same low
compared_least board file relinked input told (of_comparison b (SourceFault pc why) accepts sound compares e) =
    let same : source_parts pc why ≡ told = cc in
    let low : IsOfInputs (source_parts pc why) = omega arith in subst IsOfInputs same low

cert_least : (fault : CertFault) → IsOfInputs (cert_parts fault)
cert_least (cert.BadHead at) = omega arith
cert_least (cert.Truncated at) = omega arith
cert_least (cert.BadNode at) = omega arith
cert_least (cert.TooDeep at) = omega arith
cert_least (cert.Trailing at) = omega arith
cert_least cert.Memory = omega arith

text_least : (p : PlainProgramme) (text : List ℕ) (told : Parts) → ReportsCertificate p text (Some told) → IsOfInputs told
text_least p text told (unspelled fault read e) =
    let same : cert_parts fault ≡ told = cc in subst IsOfInputs same (cert_least fault)
text_least p text told (answered c optimal spells answers e) = absurd (cc)
text_least p text told (answered c best_found spells answers e) = absurd (cc)
text_least p text told (answered c bad_choice spells answers e) =
    let same : choice_parts ≡ told = cc in
    let low : IsOfInputs choice_parts = omega arith in subst IsOfInputs same low
text_least p text told (answered c (wrong side node depth) spells answers e) =
    let same : tree_parts side node ≡ told = cc in
    let low : IsOfInputs (tree_parts side node) = omega arith in subst IsOfInputs same low

checked_least : (board file input text : List ℕ) (told : Parts) → ReportsChecked board file input text (Some told) → IsOfInputs told
checked_least board file input text told (checked.of_run parts tells e) =
    let same : parts ≡ told = cc in subst IsOfInputs same (profiled_least board file input parts tells)
checked_least board file input text told (of_certificate b p accepts states tells) = text_least p text told tells

bad_line_least : (at : ℕ) (told : Parts) → Some told ≡ Some (mix_parts at) → IsOfInputs told
bad_line_least at told e =
    let same : mix_parts at ≡ told = cc in
    let low : IsOfInputs (mix_parts at) = omega arith in subst IsOfInputs same low

runs_least : (board file : List ℕ) (inputs : List WeightedInput) (told : Parts) → ReportsRuns board file inputs (Some told) → IsOfInputs told
runs_least board file inputs told (mixed.of_files parts tells e) =
    let same : parts ≡ told = cc in subst IsOfInputs same (analysed_least board file parts tells)
runs_least board file inputs told (mixed.of_run b before after one pc why accepts are well runs e) =
    let same : address_parts pc why ≡ told = cc in
    let low : IsOfInputs (address_parts pc why) = omega arith in subst IsOfInputs same low
runs_least board file inputs told (mixed.of_none b accepts well e) = absurd (cc)

mixed_least : (written : List (List ℕ)) (board file mix : List ℕ) (texts : List (List ℕ)) (told : Parts) → ReportsMixed written board file mix texts (Some told)
    → IsOfInputs told
mixed_least written board file mix texts told (of_list at broken e) = bad_line_least at told e
mixed_least written board file mix texts told (of_runs unbroken tells) = runs_least board file _ told tells

checked_runs_least : (board file : List ℕ) (inputs : List WeightedInput) (text : List ℕ) (told : Parts) → ReportsCheckedRuns board file inputs text (Some told)
    → IsOfInputs told
checked_runs_least board file inputs text told (of_inputs parts tells e) =
    let same : parts ≡ told = cc in subst IsOfInputs same (runs_least board file inputs parts tells)
checked_runs_least board file inputs text told (mixed.of_certificate b p accepts states tells) = text_least p text told tells

mix_checked_least : (board file mix text : List ℕ) (texts : List (List ℕ)) (told : Parts) → ReportsMixChecked board file mix text texts (Some told)
    → IsOfInputs told
mix_checked_least board file mix text texts told (of_checked_list at broken e) = bad_line_least at told e
mix_checked_least board file mix text texts told (of_checked_runs unbroken tells) = checked_runs_least board file _ text told tells

shown_least : (board file : List ℕ) (told : Parts) → ReportsShown board file (Some told) → IsOfInputs told
shown_least board file told (show.of_files parts tells e) =
    let same : parts ≡ told = cc in subst IsOfInputs same (analysed_least board file parts tells)
shown_least board file told (show.of_none b accepts e) = absurd (cc)

-- so it is with what is told of an optional fault
told_least : {E : Type 0} (parts : E → Parts) → ((fault : E) → IsOfInputs (parts fault)) → (fault : Option E) (told : Parts)
    → option_map parts fault ≡ Some told → IsOfInputs told
told_least parts least None told e = absurd (cc)
told_least parts least (Some fault) told e =
    let same : parts fault ≡ told = cc in subst IsOfInputs same (least fault)

-- and with two in order
both_least : {E F : Type 0} (parts : E → Parts) (parts' : F → Parts) → ((fault : E) → IsOfInputs (parts fault)) → ((fault : F) → IsOfInputs (parts' fault))
    → (one : Option E) (other : Option F) (told : Parts)
    → option_map parts one or_else option_map parts' other ≡ Some told → IsOfInputs told
both_least parts parts' least least' None other told e = told_least parts' least' other told e
both_least parts parts' least least' (Some fault) other told e =
    let same : parts fault ≡ told = cc in subst IsOfInputs same (least fault)

differs_least : (difference : Option ℕ) (told : Parts) → option_map differs_parts difference ≡ Some told → IsOfInputs told
differs_least None told e = absurd (cc)
differs_least (Some at) told e =
    let same : differs_parts at ≡ told = cc in let low : IsOfInputs (differs_parts at) = omega arith in subst IsOfInputs same low

-- of the file that is made, too
paid_least : (board file input text : List ℕ) (told : Parts) → ReportsPaid board file input text (Some told) → IsOfInputs told
paid_least board file input text told (of_check parts tells e) =
    let same : parts ≡ told = cc in subst IsOfInputs same (checked_least board file input text parts tells)
paid_least board file input text told (of_result b out accepts makes size e) = told_least elf_parts elf_least (first_fault out) told (sym e)

pub first_least : (command : PlainCommand) (inputs : List (List ℕ)) (told : Parts)
    → IsFirst command inputs (Some told) → IsOfInputs told
first_least command inputs told (run_first f b i o file board input is are e) =
    both_least board_parts elf_parts board_least elf_least (first_key board) (first_fault file) told (sym e)
first_least command inputs told (relink_first f b i o c file board input is are tells) =
    profiled_least board file input told tells
first_least command inputs told (profile_first f b i file board input is are tells) =
    profiled_least board file input told tells
first_least command inputs told (compare_first f r b i file relinked board input is are tells) =
    compared_least board file relinked input told tells
first_least command inputs told (check_first f b i c file board input text is are tells) =
    checked_least board file input text told tells
first_least command inputs told (paid_first f b i c file board input text is are tells) =
    paid_least board file input text told tells
first_least command inputs told (trace_first f b i c n o file board input text is are tells) =
    paid_least board file input text told tells
first_least command inputs told (mix_first f b m o c file board mix texts is are tells) =
    mixed_least (c ∷ o ∷ []) board file mix texts told tells
first_least command inputs told (check_mix_first f b m c file board mix text texts is are tells) =
    mix_checked_least board file mix text texts told tells
first_least command inputs told (show_first f b file board is are tells) = shown_least board file told tells
first_least command inputs told (gen_first s k o is are e) = absurd (cc)
first_least command inputs told (hex_first f o file is are e) =
    told_least elf_parts elf_least (first_fault file) told (sym e)
first_least command inputs told (check_fault f h file text parts is are first e) =
    let same : parts ≡ told = cc in
    subst IsOfInputs same (both_least elf_parts hex_parts elf_least hex_least (first_fault file) (hex_fault text) parts first)
first_least command inputs told (check_difference f h file text difference is are none compares e) =
    differs_least difference told (sym e)
