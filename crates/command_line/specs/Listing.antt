-- Which names a command reads behind those of its words: those that a text of these lists.
use Rattle.std.specs.Prelude.{◌≡◌, ◌⊎◌, ℕ, List, [], ◌∷◌, ◌++◌, map, Option, Some, None}
use Rattle.shelf_io.specs.Shelf.{ShelfView, LogsFailed}
use Rattle.shelf_io.specs.declared.shelves.CallKind.TheVariants.{Read}
use Rattle.command_language.specs.Command.{PlainCommand, mix_command, check_mix_command, Named, named, reads, writes}
use Rattle.command_language.specs.Lines.{MixLine, broken_at, mix_lines}
use Rattle.command_language.specs.declared.faults.CommandFault.{CommandFault}
use Rattle.command_language.specs.declared.faults.CommandFault.TheVariants as command_fault
use Rattle.command_files.specs.Reading.{HoldsAll, IsReached}

-- a name that a line lists has the place of the text
abbrev pub listed_name : MixLine → Named
listed_name l = named 3 l.name

abbrev pub names_where : Option ℕ → List MixLine → List Named
names_where None lines = map listed_name lines
names_where (Some at) lines = []

-- they are read only where no line of the text breaks a rule
abbrev pub listed_names : List (List ℕ) → List ℕ → List Named
listed_names written text = names_where (broken_at written text) (mix_lines text)

abbrev pub written_names : PlainCommand → List (List ℕ)
written_names command = map (λ w. w.name) (writes command)

-- the third of some texts
abbrev pub third : List (List ℕ) → List ℕ
third (one ∷ other ∷ text ∷ texts) = text
third texts = []

-- the names that are read behind the words, by the texts of these
abbrev pub further_reads : PlainCommand → List (List ℕ) → List Named
further_reads (mix_command file board mix out cert) texts = listed_names (written_names (mix_command file board mix out cert)) (third texts)
further_reads (check_mix_command file board mix cert) texts = listed_names [] (third texts)
further_reads command texts = []

-- all names that are read, by their texts
abbrev pub all_reads : PlainCommand → List (List ℕ) → List Named
all_reads command inputs = reads command ++ further_reads command inputs

-- the shelf holds the texts of the words, and behind them those that these list
abbrev pub HoldsInputs : ShelfView → PlainCommand → List (List ℕ) → Type 0
HoldsInputs shelf command inputs = HoldsAll shelf (all_reads command inputs) inputs

-- the command reads a name that is listed by texts that the shelf holds, and has read those before it
pub record ReadsListed (shelf : ShelfView) (command : PlainCommand) (read : Named) : Type 0 where
  pub texts : List (List ℕ)
  pub holds : HoldsAll shelf (reads command) texts
  pub listed : IsReached shelf (further_reads command texts) read

-- the command reads a name, and has read those before it
abbrev pub ReadsName : ShelfView → PlainCommand → Named → Type 0
ReadsName shelf command read = IsReached shelf (reads command) read ⊎ ReadsListed shelf command read

-- reading the names of a command was rejected
pub data RejectsNames (command : PlainCommand) (old new : ShelfView) (fault : CommandFault) : Type 0 where
  name_fails : (n : Named) → ReadsName old command n → fault ≡ command_fault.Read n.place → LogsFailed Read n.name old new
      → RejectsNames command old new fault
  names_want_memory : fault ≡ command_fault.Memory → new ≡ old → RejectsNames command old new fault

-- the lines of a text were rejected: by one that breaks a rule, or for want of memory
pub data RejectsLines (written : List (List ℕ)) (text : List ℕ) (fault : CommandFault) : Type 0 where
  bad_line : (at : ℕ) → broken_at written text ≡ Some at → fault ≡ command_fault.BadMix at → RejectsLines written text fault
  lines_want_memory : fault ≡ command_fault.Memory → RejectsLines written text fault
