-- What each command makes of what it reads: the first fault that rejects it, or its outputs and text.
use Rattle.std.specs.Prelude.{◌≡◌, ◌⊎◌, ℕ, List, [], ◌∷◌, ◌++◌, codes, length, Option, Some, None, option_map}
use Rattle.std.specs.Fmt.{decimal}
use Rattle.list_checks.specs.First.{◌or_else◌}
use Rattle.elf_reader.specs.Faults.{first_fault}
use Rattle.elf_reader.specs.File.{entry_of, load_segments}
use Rattle.workload_gen.specs.Built.{built}
use Rattle.workload_gen.specs.Workload.{workload_plan}
use Rattle.hex_image.specs.Runs.{ByteMap, file_map}
use Rattle.hex_image.specs.Text.{hex_text, hex_records}
use Rattle.hex_image.specs.Reading as hex
use Rattle.hex_image.specs.Difference.{IsDifference}
use Rattle.command_language.specs.Command.{PlainCommand, run_command, relink_command, profile_command, compare_command, check_command, mix_command, check_mix_command, gen_command, hex_command, hex_check_command, show_command, paid_command, trace_command}
use Rattle.command_language.specs.Lines.{broken_at, mix_lines}
use Rattle.command_language.specs.FaultLine.{Parts, elf_parts, hex_parts, differs_parts, parts_of}
use Rattle.command_line.specs.RunFile.{RunsTo, first_command_fault}
use Rattle.command_line.specs.ProgramRun.{ReportsProfiled}
use Rattle.command_line.specs.RelinkFile.{RelinksTo}
use Rattle.command_line.specs.ProfileFile.{ProfilesTo}
use Rattle.command_line.specs.CompareFiles.{ComparesTo, ReportsCompared}
use Rattle.command_line.specs.CheckFile.{ChecksTo, ReportsChecked}
use Rattle.command_line.specs.PaidFile.{PaysTo, ReportsPaid}
use Rattle.command_line.specs.TraceFile.{TracesTo}
use Rattle.command_line.specs.MixFile.{inputs_of, MixesTo, ChecksMixTo, ReportsMixed, ReportsMixChecked}
use Rattle.command_line.specs.ShowFile.{ShowsTo, ReportsShown}
use Rattle.command_language.specs.declared.faults.CommandFault.{CommandFault}
use Rattle.command_language.specs.declared.faults.CommandFault.TheVariants as command_fault

-- `kernels K`, and `records N`
abbrev pub kernels_text : ℕ → List ℕ
kernels_text kernels = codes "kernels " ++ decimal kernels ++ 10 ∷ []

abbrev pub records_text : ℕ → List ℕ
records_text records = codes "records " ++ decimal records ++ 10 ∷ []

-- the text of a file's bytes and entry in Intel HEX
abbrev pub hex_of : List ℕ → List ℕ
hex_of file = hex_text (load_segments file) (entry_of file)

-- how many records it has
abbrev pub record_count_of : List ℕ → ℕ
record_count_of file = length (hex_records (load_segments file) (entry_of file))

-- what is told of the first fault of a file, if it has one; and of a file and a text
abbrev pub file_command_fault : List ℕ → Option Parts
file_command_fault file = option_map elf_parts (first_fault file)

abbrev pub texts_command_fault : List ℕ → List ℕ → Option Parts
texts_command_fault file text = file_command_fault file or_else option_map hex_parts (hex.hex_fault text)

-- the first difference of a text from a file, if there is one
pub record Compares (file text : List ℕ) (difference : Option ℕ) : Type 0 where
  pub given : ByteMap
  pub start : Option ℕ
  pub spelled : hex.Spells text given start
  pub first : IsDifference (file_map (load_segments file)) (entry_of file) given start difference

-- what a command tells of the first fault of its inputs, or nothing where they have none: a rule for
-- each command
pub data IsFirst (command : PlainCommand) (inputs : List (List ℕ)) (told : Option Parts) : Type 0 where
  run_first : (file_name board_name input_name out_name file board input : List ℕ)
      → command ≡ run_command file_name board_name input_name out_name → inputs ≡ file ∷ board ∷ input ∷ []
      → told ≡ first_command_fault board file → IsFirst command inputs told
  relink_first : (file_name board_name input_name out_name cert_name file board input : List ℕ)
      → command ≡ relink_command file_name board_name input_name out_name cert_name
      → inputs ≡ file ∷ board ∷ input ∷ [] → ReportsProfiled board file input told → IsFirst command inputs told
  profile_first : (file_name board_name input_name file board input : List ℕ)
      → command ≡ profile_command file_name board_name input_name
      → inputs ≡ file ∷ board ∷ input ∷ [] → ReportsProfiled board file input told → IsFirst command inputs told
  compare_first : (file_name relinked_name board_name input_name file relinked board input : List ℕ)
      → command ≡ compare_command file_name relinked_name board_name input_name
      → inputs ≡ file ∷ relinked ∷ board ∷ input ∷ [] → ReportsCompared board file relinked input told
      → IsFirst command inputs told
  check_first : (file_name board_name input_name cert_name file board input cert : List ℕ)
      → command ≡ check_command file_name board_name input_name cert_name
      → inputs ≡ file ∷ board ∷ input ∷ cert ∷ [] → ReportsChecked board file input cert told
      → IsFirst command inputs told
  paid_first : (file_name board_name input_name cert_name file board input cert : List ℕ)
      → command ≡ paid_command file_name board_name input_name cert_name
      → inputs ≡ file ∷ board ∷ input ∷ cert ∷ [] → ReportsPaid board file input cert told
      → IsFirst command inputs told
  trace_first : (file_name board_name input_name cert_name : List ℕ) (count : ℕ) (out_name file board input cert : List ℕ)
      → command ≡ trace_command file_name board_name input_name cert_name count out_name
      → inputs ≡ file ∷ board ∷ input ∷ cert ∷ [] → ReportsPaid board file input cert told
      → IsFirst command inputs told
  mix_first : (file_name board_name mix_name out_name cert_name file board mix : List ℕ) (texts : List (List ℕ))
      → command ≡ mix_command file_name board_name mix_name out_name cert_name
      → inputs ≡ file ∷ board ∷ mix ∷ texts → ReportsMixed (cert_name ∷ out_name ∷ []) board file mix texts told
      → IsFirst command inputs told
  check_mix_first : (file_name board_name mix_name cert_name file board mix cert : List ℕ) (texts : List (List ℕ))
      → command ≡ check_mix_command file_name board_name mix_name cert_name
      → inputs ≡ file ∷ board ∷ mix ∷ cert ∷ texts → ReportsMixChecked board file mix cert texts told
      → IsFirst command inputs told
  show_first : (file_name board_name file board : List ℕ)
      → command ≡ show_command file_name board_name → inputs ≡ file ∷ board ∷ [] → ReportsShown board file told
      → IsFirst command inputs told
  gen_first : (seed kernels : ℕ) (out_name : List ℕ)
      → command ≡ gen_command seed kernels out_name → inputs ≡ [] → told ≡ None → IsFirst command inputs told
  hex_first : (file_name out_name file : List ℕ)
      → command ≡ hex_command file_name out_name → inputs ≡ file ∷ []
      → told ≡ file_command_fault file → IsFirst command inputs told
  check_fault : (file_name hex_name file text : List ℕ) (parts : Parts)
      → command ≡ hex_check_command file_name hex_name → inputs ≡ file ∷ text ∷ []
      → texts_command_fault file text ≡ Some parts → told ≡ Some parts → IsFirst command inputs told
  check_difference : (file_name hex_name file text : List ℕ) (difference : Option ℕ)
      → command ≡ hex_check_command file_name hex_name → inputs ≡ file ∷ text ∷ []
      → texts_command_fault file text ≡ None → Compares file text difference
      → told ≡ option_map differs_parts difference → IsFirst command inputs told

-- the outputs and the text of a command whose inputs have no fault: a rule for each command
pub data Yields (command : PlainCommand) (inputs outputs : List (List ℕ)) (text : List ℕ) : Type 0 where
  runs : (file_name board_name input_name out_name file board input output : List ℕ)
      → command ≡ run_command file_name board_name input_name out_name → inputs ≡ file ∷ board ∷ input ∷ []
      → outputs ≡ output ∷ [] → RunsTo file board input output text → Yields command inputs outputs text
  relinks : (file_name board_name input_name out_name cert_name file board input certificate out : List ℕ)
      → command ≡ relink_command file_name board_name input_name out_name cert_name
      → inputs ≡ file ∷ board ∷ input ∷ [] → outputs ≡ certificate ∷ out ∷ []
      → RelinksTo file board input certificate out text → Yields command inputs outputs text
  profiles : (file_name board_name input_name file board input : List ℕ)
      → command ≡ profile_command file_name board_name input_name → inputs ≡ file ∷ board ∷ input ∷ []
      → outputs ≡ [] → ProfilesTo file board input text → Yields command inputs outputs text
  compares : (file_name relinked_name board_name input_name file relinked board input : List ℕ)
      → command ≡ compare_command file_name relinked_name board_name input_name
      → inputs ≡ file ∷ relinked ∷ board ∷ input ∷ []
      → outputs ≡ [] → ComparesTo file relinked board input text → Yields command inputs outputs text
  checks : (file_name board_name input_name cert_name file board input cert : List ℕ)
      → command ≡ check_command file_name board_name input_name cert_name
      → inputs ≡ file ∷ board ∷ input ∷ cert ∷ []
      → outputs ≡ [] → ChecksTo file board input cert text → Yields command inputs outputs text
  pays : (file_name board_name input_name cert_name file board input cert : List ℕ)
      → command ≡ paid_command file_name board_name input_name cert_name
      → inputs ≡ file ∷ board ∷ input ∷ cert ∷ []
      → outputs ≡ [] → PaysTo file board input cert text → Yields command inputs outputs text
  traces : (file_name board_name input_name cert_name : List ℕ) (count : ℕ) (out_name file board input cert output : List ℕ)
      → command ≡ trace_command file_name board_name input_name cert_name count out_name
      → inputs ≡ file ∷ board ∷ input ∷ cert ∷ [] → outputs ≡ output ∷ []
      → TracesTo file board input cert count output text → Yields command inputs outputs text
  mixes : (file_name board_name mix_name out_name cert_name file board mix certificate out : List ℕ) (texts : List (List ℕ))
      → command ≡ mix_command file_name board_name mix_name out_name cert_name
      → inputs ≡ file ∷ board ∷ mix ∷ texts → outputs ≡ certificate ∷ out ∷ []
      → broken_at (cert_name ∷ out_name ∷ []) mix ≡ None
      → MixesTo file board (inputs_of (mix_lines mix) texts) certificate out text → Yields command inputs outputs text
  checks_mix : (file_name board_name mix_name cert_name file board mix cert : List ℕ) (texts : List (List ℕ))
      → command ≡ check_mix_command file_name board_name mix_name cert_name
      → inputs ≡ file ∷ board ∷ mix ∷ cert ∷ texts → outputs ≡ []
      → broken_at [] mix ≡ None
      → ChecksMixTo file board (inputs_of (mix_lines mix) texts) cert text → Yields command inputs outputs text
  shows : (file_name board_name file board : List ℕ)
      → command ≡ show_command file_name board_name → inputs ≡ file ∷ board ∷ [] → outputs ≡ []
      → ShowsTo file board text → Yields command inputs outputs text
  generates : (seed kernels : ℕ) (out_name : List ℕ)
      → command ≡ gen_command seed kernels out_name → inputs ≡ []
      → outputs ≡ built (workload_plan seed kernels) ∷ [] → text ≡ kernels_text kernels
      → Yields command inputs outputs text
  writes_hex : (file_name out_name file : List ℕ)
      → command ≡ hex_command file_name out_name → inputs ≡ file ∷ [] → file_command_fault file ≡ None
      → outputs ≡ hex_of file ∷ [] → text ≡ records_text (record_count_of file) → Yields command inputs outputs text
  agrees : (file_name hex_name file hex_text : List ℕ)
      → command ≡ hex_check_command file_name hex_name → inputs ≡ file ∷ hex_text ∷ []
      → texts_command_fault file hex_text ≡ None
      → hex.Spells hex_text (file_map (load_segments file)) (Some (entry_of file))
      → outputs ≡ [] → text ≡ codes "same\n" → Yields command inputs outputs text

-- a computation on the inputs was rejected: for want of memory, or by the first fault
abbrev pub RejectsInputs : PlainCommand → List (List ℕ) → CommandFault → Type 0
RejectsInputs command inputs fault = (fault ≡ command_fault.Memory) ⊎ IsFirst command inputs (Some (parts_of fault))

-- the same of a computation on a file, and on a file and a text
abbrev pub RejectsFile : List ℕ → CommandFault → Type 0
RejectsFile file fault = (fault ≡ command_fault.Memory) ⊎ (file_command_fault file ≡ Some (parts_of fault))

pub data RejectsTexts (file text : List ℕ) (fault : CommandFault) : Type 0 where
  memory_wanting : fault ≡ command_fault.Memory → RejectsTexts file text fault
  faulty : texts_command_fault file text ≡ Some (parts_of fault) → RejectsTexts file text fault
  differing : (at : ℕ) → texts_command_fault file text ≡ None → Compares file text (Some at) → fault ≡ command_fault.Differs at
      → RejectsTexts file text fault
