-- The line and the status by which a command tells why it has no result.
use Rattle.std.specs.Prelude.{ℕ, List, [], ◌∷◌, ◌++◌, codes, Option, Some, None, option_copied}
use Rattle.std.specs.Fmt.{decimal}
use Rattle.elf_reader.specs.declared.fault.ElfFault.{ElfFault}
use Rattle.elf_reader.specs.declared.fault.ElfFault.TheVariants as elf
use Rattle.hex_image.specs.declared.fault.HexFault.{HexFault}
use Rattle.hex_image.specs.declared.fault.HexFault.TheVariants as hex
use Rattle.command_language.specs.declared.parts.MixFault.{MixFault}
use Rattle.command_language.specs.declared.parts.MixFault.TheVariants as mix
use Rattle.board_config.specs.declared.board.BoardFault.{BoardFault}
use Rattle.board_config.specs.declared.board.BoardFault.TheVariants as board
use Rattle.board_config.specs.Faults.{Fault, not_toml, missing, wrong_type, out_of_range, unknown_key, memory, plain_fault}
use Rattle.object_graph.specs.declared.fault.GraphFault.{GraphFault}
use Rattle.object_graph.specs.declared.fault.GraphFault.TheVariants as graph
use Rattle.code_blocks.specs.declared.fault.CodeFault.{CodeFault}
use Rattle.code_blocks.specs.declared.fault.CodeFault.TheVariants as code
use Rattle.region_former.specs.Faults as region
use Rattle.profile_runner.specs.declared.fault.ProfileFault.{ProfileFault}
use Rattle.profile_runner.specs.declared.fault.ProfileFault.TheVariants as profile
use Rattle.relink_core.specs.declared.fault.AnalyseFault.{AnalyseFault}
use Rattle.relink_core.specs.declared.fault.AnalyseFault.TheVariants as analyse
use Rattle.certificate_checker.specs.declared.fault.CertFault.{CertFault}
use Rattle.certificate_checker.specs.declared.fault.CertFault.TheVariants as cert
use Rattle.command_language.specs.declared.faults.CommandFault.{CommandFault}
use Rattle.command_language.specs.declared.faults.CommandFault.TheVariants as command_fault
use Rattle.command_language.specs.declared.faults.LineParts.{LineParts}

-- the parts of a fault line, of which the name is there only for some faults
pub record Parts : Type 0 where
  pub status : ℕ
  pub word : List ℕ
  pub first : ℕ
  pub second : ℕ
  pub name : Option (List ℕ)

abbrev pub parts : ℕ → List ℕ → ℕ → ℕ → Parts
parts status word first second =
    record { status = status; word = word; first = first; second = second; name = None }

abbrev pub named_parts : ℕ → List ℕ → List ℕ → Parts
named_parts status word name =
    record { status = status; word = word; first = 0; second = 0; name = Some name }

abbrev pub plain_parts : LineParts → Parts
plain_parts p =
    record { status = p.status; word = p.word.now; first = p.first; second = p.second; name = option_copied p.name }

abbrev pub elf_parts : ElfFault → Parts
elf_parts (elf.TooShort need have) = parts 5 (codes "too-short") need have
elf_parts (elf.NotElf at) = parts 5 (codes "not-elf") at 0
elf_parts (elf.WrongKind field value) = parts 5 (codes "wrong-kind") field value
elf_parts (elf.OutOfFile table index) = parts 5 (codes "out-of-file") table index
elf_parts (elf.BadIndex table index) = parts 5 (codes "bad-index") table index
elf_parts (elf.Unsupported index kind) = parts 6 (codes "unsupported") index kind
elf_parts (elf.OverLimit what count) = parts 5 (codes "over-limit") what count
elf_parts (elf.Compressed section) = parts 5 (codes "compressed") section 0
elf_parts (elf.Overlap first second) = parts 5 (codes "overlap") first second
elf_parts elf.Memory = parts 9 (codes "memory") 0 0

abbrev pub board_parts : Fault → Parts
board_parts not_toml = parts 4 (codes "not-toml") 0 0
board_parts (missing key) = parts 4 (codes "missing") key 0
board_parts (wrong_type key) = parts 4 (codes "wrong-type") key 0
board_parts (out_of_range key) = parts 4 (codes "out-of-range") key 0
board_parts (unknown_key name) = named_parts 4 (codes "unknown-key") name
board_parts memory = parts 9 (codes "memory") 0 0

abbrev pub hex_parts : HexFault → Parts
hex_parts (hex.BadRecord line) = parts 14 (codes "bad-record") line 0
hex_parts (hex.BadCheck line) = parts 14 (codes "bad-check") line 0
hex_parts (hex.BadKind line kind) = parts 14 (codes "bad-kind") line kind
hex_parts (hex.Twice line) = parts 14 (codes "twice") line 0
hex_parts (hex.NoEnd lines) = parts 14 (codes "no-end") lines 0
hex_parts (hex.Trailing line) = parts 14 (codes "trailing") line 0
hex_parts hex.Memory = parts 9 (codes "memory") 0 0

abbrev pub graph_parts : GraphFault → Parts
graph_parts (graph.SpmOverlap segment) = parts 7 (codes "spm-overlap") segment 0
graph_parts (graph.PatchOverlap segment) = parts 7 (codes "patch-overlap") segment 0
graph_parts (graph.PatchFar span) = parts 7 (codes "patch-far") span 0
graph_parts graph.SpmOverlapsPatch = parts 7 (codes "spm-meets-patch") 0 0
graph_parts graph.SpmAtZero = parts 7 (codes "spm-at-zero") 0 0
graph_parts (graph.NoArea segment) = parts 7 (codes "no-area") segment 0
graph_parts (graph.TooManyObjects count) = parts 7 (codes "too-many-objects") count 0
graph_parts graph.Memory = parts 9 (codes "memory") 0 0

abbrev pub code_parts : CodeFault → Parts
code_parts code.NoText = parts 5 (codes "no-text") 0 0
code_parts code.EntryNotLeader = parts 5 (codes "entry-not-leader") 0 0
code_parts (code.TooManyBlocks count) = parts 5 (codes "too-many-blocks") count 0
code_parts code.Memory = parts 9 (codes "memory") 0 0

abbrev pub region_parts : region.Fault → Parts
region_parts (region.unknown_function name) = named_parts 5 (codes "unknown-function") name
region_parts (region.two_regions name) = named_parts 5 (codes "two-regions") name
region_parts region.memory = parts 9 (codes "memory") 0 0

abbrev pub analyse_parts : AnalyseFault → Parts
analyse_parts (analyse.Elf fault) = elf_parts fault
analyse_parts (analyse.Graph fault) = graph_parts fault
analyse_parts (analyse.PatchTooSmall need have) = parts 7 (codes "patch-too-small") need have
analyse_parts (analyse.Code fault) = code_parts fault
analyse_parts (analyse.Region fault) = region_parts (region.plain_fault fault)
analyse_parts analyse.Memory = parts 9 (codes "memory") 0 0

-- the unit at `pc` of the program can't be performed where objects have no addresses, for the reason `why`
abbrev pub address_parts : ℕ → ℕ → Parts
address_parts pc why = parts 8 (codes "address-fault") pc why

-- the same, where the program is compared with its result
abbrev pub source_parts : ℕ → ℕ → Parts
source_parts pc why = parts 12 (codes "address-fault") pc why

-- a text that is no certificate breaks the grammar first at a byte
abbrev pub cert_parts : CertFault → Parts
cert_parts (cert.BadHead at) = parts 10 (codes "bad-head") at 0
cert_parts (cert.Truncated at) = parts 10 (codes "truncated") at 0
cert_parts (cert.BadNode at) = parts 10 (codes "bad-node") at 0
cert_parts (cert.TooDeep at) = parts 10 (codes "too-deep") at 0
cert_parts (cert.Trailing at) = parts 10 (codes "trailing") at 0
cert_parts cert.Memory = parts 9 (codes "memory") 0 0

-- a certificate's choice is not feasible, or gains less than 0; and a tree of it fails first at a node
abbrev pub choice_parts : Parts
choice_parts = parts 10 (codes "bad-choice") 0 0

abbrev pub tree_parts : ℕ → ℕ → Parts
tree_parts side node = parts 10 (codes "wrong") side node

-- a line of a mix breaks a rule, at a place of the text
abbrev pub mix_parts : ℕ → Parts
mix_parts at = parts 13 (codes "bad-mix") at 0

-- a difference at a place
abbrev pub differs_parts : ℕ → Parts
differs_parts at = parts 11 (codes "differs") at 0

abbrev pub parts_of : CommandFault → Parts
parts_of command_fault.Usage = parts 1 (codes "usage") 0 0
parts_of (command_fault.Read place) = parts 2 (codes "read") place 0
parts_of (command_fault.Write place) = parts 3 (codes "write") place 0
parts_of (command_fault.Board fault) = board_parts (plain_fault fault)
parts_of (command_fault.Elf fault) = elf_parts fault
parts_of (command_fault.Analyse fault) = analyse_parts fault
parts_of (command_fault.AddressFault pc why) = address_parts pc why
parts_of (command_fault.Certificate fault) = cert_parts fault
parts_of command_fault.BadChoice = choice_parts
parts_of (command_fault.WrongTree side node) = tree_parts side node
parts_of (command_fault.Hex fault) = hex_parts fault
parts_of (command_fault.BadMix at) = mix_parts at
parts_of (command_fault.Differs at) = differs_parts at
parts_of (command_fault.SourceFault pc why) = source_parts pc why
parts_of command_fault.Memory = parts 9 (codes "memory") 0 0

abbrev pub status_of : CommandFault → ℕ
status_of r = (parts_of r).status

-- a name stands behind one space, also where it is empty
abbrev pub name_text : Option (List ℕ) → List ℕ
name_text None = []
name_text (Some name) = codes " " ++ name

-- `error STATUS WORD FIRST SECOND`
abbrev pub numbers_text : Parts → List ℕ
numbers_text p =
    codes "error "
    ++ (decimal p.status ++ (codes " " ++ (p.word ++ (codes " " ++ (decimal p.first ++ (codes " " ++ decimal p.second))))))

-- the same, and the name if there is one
abbrev pub parts_text : Parts → List ℕ
parts_text p = numbers_text p ++ name_text p.name

-- the fault line, with its newline
abbrev pub fault_line : CommandFault → List ℕ
fault_line r = parts_text (parts_of r) ++ 10 ∷ []

-- a part's want of memory is the command's
abbrev pub board_command_fault : BoardFault → CommandFault
board_command_fault board.Memory = command_fault.Memory
board_command_fault fault = command_fault.Board fault

abbrev pub elf_command_fault : ElfFault → CommandFault
elf_command_fault elf.Memory = command_fault.Memory
elf_command_fault fault = command_fault.Elf fault

abbrev pub analyse_command_fault : AnalyseFault → CommandFault
analyse_command_fault analyse.Memory = command_fault.Memory
analyse_command_fault fault = command_fault.Analyse fault

abbrev pub profile_command_fault : ProfileFault → CommandFault
profile_command_fault (profile.AddressFault pc why) = command_fault.AddressFault pc why
profile_command_fault profile.Memory = command_fault.Memory

abbrev pub cert_command_fault : CertFault → CommandFault
cert_command_fault cert.Memory = command_fault.Memory
cert_command_fault fault = command_fault.Certificate fault

abbrev pub hex_command_fault : HexFault → CommandFault
hex_command_fault hex.Memory = command_fault.Memory
hex_command_fault fault = command_fault.Hex fault

abbrev pub mix_command_fault : MixFault → CommandFault
mix_command_fault (mix.BadMix at) = command_fault.BadMix at
mix_command_fault mix.Memory = command_fault.Memory
