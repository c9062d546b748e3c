-- What is told of the events of a unit at any form: the words that are fetched, and the accesses of the unit.
use Rattle.std.proofs.Common.{◌≡◌, ◌∙◌, ℕ, ◌+◌, true, false, List, [], ◌∷◌, ◌++◌, map, Option, Some, None, refl, sym, ap, subst, arith, append-nil}
use Rattle.std.proofs.lemmas.List.Concat.{flat_map-cons}
use Rattle.rv32im.specs.Words.{plus}
use Rattle.rv32im.specs.Memory.{Memory}
use Rattle.rv32im.specs.declared.instructions.Instr.{Instr}
use Rattle.rv32im.specs.declared.instructions.Instr.TheVariants.{Auipc, Jalr, Load, Store}
use Rattle.rv32im.proofs.Meaning.{same_instruction}
use Rattle.flat_machine.specs.declared.events.FlatAccess.{FlatAccess}
use Rattle.flat_machine.specs.declared.events.FlatEvent.{FlatEvent}
use Rattle.flat_machine.specs.Lines.{fetch_of}
use Rattle.flat_machine.specs.State.{State}
use Rattle.flat_machine.specs.Step.{performed, event_of, Step}
use Rattle.flat_machine.proofs.Runs.{one_state}
use Rattle.patch_code.specs.Told.{access_in, accesses}
use Rattle.cell_values.specs.Stands.{Places}
use Rattle.object_machine.specs.Program.{Program, Target}
use Rattle.object_machine.specs.State.{SourceState}
use Rattle.object_machine.specs.Step.{Reads, next_state}
use Rattle.object_machine.specs.Paired.{Origins, is_paired_step}
use Rattle.simulation.specs.Setups.{Setup}
use Rattle.simulation.specs.Units.{StandsAt, PairAt}
use Rattle.simulation.specs.Forms.{IsAt, IsRowKind, WordsAt, FormAt, InWords, InRow, FormTells}
use Rattle.simulation.proofs.OneUnit.{Before}
use Rattle.simulation.proofs.Steps.{is_at, fetches, fetched_words}
use Rattle.result_laws.specs.Walks.{address_in, word_accesses, unit_accesses, IsNoFault}
use Rattle.result_laws.proofs.Fetches.{FormFetches, WordsFetch}
use Rattle.result_laws.proofs.UnitAccesses.{TellsWord, tells_word, TellsUnit, tells_unit}

-- ---- lists of events

pub accesses_first : (e : FlatEvent) (es : List FlatEvent) → accesses (e ∷ es) ≡ access_in e.access ++ accesses es
accesses_first e es = flat_map-cons (λ (event : FlatEvent). access_in event.access) e es

-- words that are fetched alone
pub fetched_addresses : (mem : Memory) (fetched : List ℕ) → map address_in (map (fetch_of mem) fetched) ≡ fetched
fetched_addresses mem [] = refl
fetched_addresses mem (a ∷ more) = ap (λ (xs : List ℕ). a ∷ xs) (fetched_addresses mem more)

pub fetched_accesses : (mem : Memory) (fetched : List ℕ) → accesses (map (fetch_of mem) fetched) ≡ []
fetched_accesses mem [] = refl
fetched_accesses mem (a ∷ more) = accesses_first (fetch_of mem a) (map (fetch_of mem) more) ∙ fetched_accesses mem more

-- ---- a unit

row_silent : (p : Program) (s : SourceState) (places : Places) (i : Instr) (site : Option Target) → IsRowKind i site → word_accesses p s places (Some i) ≡ []
row_silent p s places (Load kind rd rs1 imm) site is = absurd is
row_silent p s places (Store kind rs1 rs2 imm) site is = absurd is
row_silent p s places i site is = refl

pub one_reading : (w : ℕ) (i : Instr) (read : Option Instr) → Reads w (Some i) → Reads w read → read ≡ Some i
one_reading w i None means none = absurd (none i means)
one_reading w i (Some j) means other = ap Some (same_instruction w j i other means)

module _ (p : Program) (l : Setup) (live arrive : ℕ → ℕ → Type 0) (r : ℕ) (s : SourceState) (m : Origins) (t : State) (read : Option Instr) (before : Before p l live r s m t) (reads : Reads (p.word s.pc) read) (paired : is_paired_step p s m read ≡ true) (fetched : State → List ℕ) where
  -- the words at these addresses are fetched, and the accesses are the unit's
  abbrev pub Tells : List FlatEvent → Type 0
  Tells es =
      (map address_in es ≡ fetched t)
      × (IsNoFault (next_state p s read).outcome → accesses es ≡ unit_accesses p s (l.place r) read)

  here : IsAt l r t.hart.pc t
  here = is_at p l live r s.pc s m t before.alike

  single_accesses : p.is_pair s.pc ≡ false → unit_accesses p s (l.place r) read ≡ word_accesses p s (l.place r) read
  single_accesses single = rw (single) refl

  pair_accesses : p.is_pair s.pc ≡ true → unit_accesses p s (l.place r) read ≡ []
  pair_accesses pair = rw (pair) refl

  word_told : WordsAt p l arrive r s.pc t.hart.pc → WordsFetch p s.pc t.hart.pc fetched → p.is_pair s.pc ≡ false → (e : FlatEvent) (t' : State) → Step t e t' → Tells (e ∷ [])
  word_told words fetch single e t' step =
      let told : TellsUnit p l live arrive r s m t before single read e =
      tells_unit p l live arrive r s m t before single read reads paired (words.one read single reads) e t' step in (
        ap (λ (a : ℕ). a ∷ []) told.at ∙ sym (fetch.one single t),
        λ fine.
            accesses_first e []
            ∙ (append-nil (access_in e.access) ∙ (told.accesses fine ∙ sym (single_accesses single))),
      )

  -- ---- a call of two words

  module _ (pair : PairAt p l r s.pc) (home : t.hart.pc ≡ s.pc) where
    first_stands : StandsAt l r t.hart.pc pair.first
    first_stands = subst (λ (a : ℕ). StandsAt l r a pair.first) (sym home) pair.stands

    abbrev behind : State
    behind = performed t (Auipc pair.base pair.upper)

    second_at : behind.hart.pc ≡ s.pc + 4
    second_at = let below = pair.below in ap (λ (a : ℕ). plus a 4) home ∙ omega (arith, below)

    there : IsAt l r behind.hart.pc behind
    there =
        record {
          at = refl;
          map = here.map;
          going = here.going;
          words = fetched_words l r t.hart.pc pair.first t here first_stands (Auipc pair.base pair.upper) pair.auipc;
          still = here.still;
        }

    second_stands : StandsAt l r behind.hart.pc pair.second
    second_stands = subst (λ (a : ℕ). StandsAt l r a pair.second) (sym second_at) pair.stands_behind

    pub pair_told : WordsFetch p s.pc t.hart.pc fetched → p.is_pair s.pc ≡ true → (e f : FlatEvent) (t' t'' : State) → Step t e t' → Step t' f t'' → Tells (e ∷ f ∷ [])
    pair_told fetch is e f t' t'' step next =
        let auipc : Instr = Auipc pair.base pair.upper in
        let first : TellsWord l r pair.first t here first_stands (Some auipc) e =
        tells_word l r pair.first t here first_stands (Some auipc) pair.auipc e t' step in
        let same : t' ≡ behind =
        one_state same_instruction t t' behind e (event_of t auipc) step (fetches l r t.hart.pc pair.first t here first_stands auipc pair.auipc) in
        let jalr : Instr = Jalr pair.link pair.base pair.lower in
        let second : TellsWord l r pair.second behind there second_stands (Some jalr) f =
        tells_word l r pair.second behind there second_stands (Some jalr) pair.jalr f t'' (subst (λ (x : State). Step x f t'') same next) in
        let at_first : e.at ≡ t.hart.pc = first.at in
        let at_second : f.at ≡ t.hart.pc + 4 = second.at ∙ (second_at ∙ ap (λ (a : ℕ). a + 4) (sym home)) in (
          ap (λ (a : ℕ). a ∷ f.at ∷ []) at_first ∙ (ap (λ (a : ℕ). t.hart.pc ∷ a ∷ []) at_second ∙ sym (fetch.two is t)),
          λ fine.
              accesses_first e (f ∷ [])
              ∙ (ap (λ (xs : List FlatAccess). xs ++ accesses (f ∷ [])) (ap access_in first.access)
              ∙ (accesses_first f [] ∙ (ap (λ (xs : List FlatAccess). xs ++ []) (ap access_in second.access) ∙ sym (pair_accesses is)))),
        )

  -- ---- any form

  row_told : (these : List ℕ) → these ≡ fetched t → unit_accesses p s (l.place r) read ≡ [] → Tells (map (fetch_of t.hart.mem) these)
  row_told these same none =
      (fetched_addresses t.hart.mem these ∙ same, λ fine. fetched_accesses t.hart.mem these ∙ sym none)

  pub form_told : (form : FormAt p l live arrive r s.pc t.hart.pc) → FormFetches p l live arrive r s.pc t.hart.pc fetched form → FormTells p l live arrive Tells r s.pc t.hart.pc t form
  form_told (InWords words) fetch =
      record {
        one = λ single e t' step. word_told words fetch single e t' step;
        two = λ pair e f t' t'' first second.
            let at = words.pair pair in pair_told at.0 at.1.0 fetch pair e f t' t'' first second;
      }
  form_told (InRow row) fetch =
      record {
        one = λ i single reads_i at.
            let silent : unit_accesses p s (l.place r) read ≡ [] =
            single_accesses single
            ∙ (ap (word_accesses p s (l.place r)) (one_reading (p.word s.pc) i read reads_i reads)
            ∙ row_silent p s (l.place r) i (p.site s.pc) (row.one i single reads_i).0) in
            row_told ((row.one i single reads_i).1 t at).fetched (fetch.one i single reads_i t at) silent;
        pair = λ is at. row_told (row.pair is t at).fetched (fetch.pair is t at) (pair_accesses is);
      }
