-- What a unit of a code tells of the program: how many words it has, what they mean, and which way a run of it goes on.
use Rattle.std.proofs.Common.{◌≡◌, ◌∙◌, ℕ, ◌+◌, true, if◌then◌else◌, List, slice_index_or, Option, Some, refl, sym, ap, subst}
use Rattle.rv32im.specs.declared.instructions.Instr.{Instr}
use Rattle.rv32im.specs.declared.instructions.Instr.TheVariants.{Auipc}
use Rattle.rv32im.specs.Fields.{rd_of, u_immediate}
use Rattle.rv32im.proofs.Meaning.{same_instruction}
use Rattle.elf_reader.specs.File.{PlainView, view_in}
use Rattle.board_config.specs.declared.board.Board.{Board}
use Rattle.loaded_file.specs.Code.{is_code_word, image_word}
use Rattle.object_graph.specs.declared.parts.Graph.{Graph}
use Rattle.code_blocks.specs.Leaders.{is_call_pair}
use Rattle.code_blocks.proofs.PairLemmas.{pair_parts}
use Rattle.code_blocks.specs.Blocks.{IsCode}
use Rattle.code_blocks.specs.Leads.{no_unit}
use Rattle.code_blocks.specs.declared.parts.Unit.{Unit}
use Rattle.code_blocks.specs.declared.parts.Code.{Code}
use Rattle.block_splitter.specs.Forms.{unit_in, body_at}
use Rattle.object_machine.specs.declared.events.Outcome.{Outcome}
use Rattle.object_machine.specs.declared.events.Outcome.TheVariants.{GoesOn, Exited, Trapped, AddressFault}
use Rattle.object_machine.specs.Program.{Program}
use Rattle.object_machine.specs.Runs.{HasEnded}
use Rattle.object_machine.specs.State.{SourceState}
use Rattle.object_machine.specs.Step.{Reads}
use Rattle.object_machine.proofs.FollowLemmas.{unit_reads}
use Rattle.object_machine.proofs.RunLemmas.{ended_steps}
use Rattle.profile_runner.specs.Transition.{Transition}
use Rattle.profile_runner.specs.Transitions.{Transitions}
use Rattle.profile_runner.proofs.RunLemmas.{transitions_steps}
use Rattle.result_laws.specs.HomeLaws.{IsAccepted, unnamed_in}
use Rattle.result_laws.specs.LiveUnits.{code_unit, StandsThere, UnitsStand}
use Rattle.result_laws.proofs.CodeUnits.{body_units, code_units_stand}
use Rattle.result_laws.proofs.HomeUnits.{call_words}
use Rattle.result_laws.specs.Walks.{IsNoFault}
use Rattle.result_laws.proofs.UnitEvents.{one_reading}

-- ---- runs

fault_stays : (p : Program) (n : ℕ) (s t : SourceState) (ms : List Transition) (pc why : ℕ) → s.outcome ≡ AddressFault pc why → IsNoFault t.outcome → Transitions p n s ms t → ⊥
fault_stays p n s t ms pc why is fine run =
    let same : t ≡ s = ended_steps p n s t (subst HasEnded (sym is) tt) (transitions_steps p n s t ms run) in
    subst IsNoFault is (subst (λ (x : SourceState). IsNoFault x.outcome) same fine)

-- a run that ends in no fault meets none
pub fine_before : (p : Program) (n : ℕ) (s t : SourceState) (ms : List Transition) → IsNoFault t.outcome → Transitions p n s ms t → IsNoFault s.outcome
fine_before p n s t ms fine run = by s.outcome refl
  where
    by : (o : Outcome) → s.outcome ≡ o → IsNoFault o
    by GoesOn is = tt
    by (Exited code) is = tt
    by (Trapped pc) is = tt
    by (AddressFault pc why) is = fault_stays p n s t ms pc why is fine run

-- ---- units

module _ (file : List ℕ) (board : Board) (g : Graph) (c : Code) (accepted : IsAccepted file board g) (code : IsCode (view_in file) c) where
  abbrev v : PlainView
  v = view_in file

  units : UnitsStand v (unnamed_in file board g) c
  units = code_units_stand file board g c accepted code

  -- a call of two words begins with an AUIPC
  pub pair_reads : (u : ℕ) (read : Option Instr) → Reads (image_word v u) read → is_call_pair v u ≡ true → (rd : ℕ) × ((imm : ℕ) × (read ≡ Some (Auipc rd imm)))
  pair_reads u read reads pair =
      let first : ℕ = image_word v u in
      let words = call_words first (image_word v (u + 4)) (pair_parts v u pair).words in
      (rd_of first, (u_immediate first, one_reading first (Auipc (rd_of first) (u_immediate first)) read words.auipc reads))

  pub record UnitFacts (a b k : ℕ) : Type 0 where
    pub is_code : is_code_word v a ≡ true
    pub words : (unit_in (body_at c.blocks.items b) k).words ≡ (if is_call_pair v a then 2 else 1)
    pub at : (unit_in (body_at c.blocks.items b) k).at ≡ a
    pub reads : (read : Option Instr) → Reads (image_word v a) read → (unit_in (body_at c.blocks.items b) k).instr ≡ read

  pub unit_facts : (a b k : ℕ) → StandsThere c a b k → UnitFacts a b k
  unit_facts a b k there =
      let u : Unit = unit_in (body_at c.blocks.items b) k in
      let same : u ≡ code_unit c b k = ap (λ (us : List Unit). slice_index_or us k no_unit) (body_units c.blocks.items b) in
      let tells = units.tells b k there.is in
      let at : (code_unit c b k).at ≡ a = there.at in
      record {
        is_code = subst (λ (x : ℕ). is_code_word v x ≡ true) at (units.code b k there.is);
        words = ap (λ (x : Unit). x.words) same ∙ (tells.words ∙ ap (λ (x : ℕ). if is_call_pair v x then 2 else 1) at);
        at = ap (λ (x : Unit). x.at) same ∙ at;
        reads = λ read reads. ap (λ (x : Unit). x.instr) same ∙ unit_reads same_instruction v (code_unit c b k) a read tells at reads;
      }
