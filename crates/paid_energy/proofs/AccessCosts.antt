-- What the accesses of a unit cost: one of its instruction, where the object stands.
use Rattle.std.proofs.Common.{◌≡◌, ◌∙◌, ℕ, zero, ◌+◌, ◌%◌, ◌<◌, ◌==◌, nat_le, Bool, true, false, if◌then◌else◌, [], ◌∷◌, Option, Some, None, refl, sym, ap, subst, arith}
use Rattle.std.proofs.lemmas.Bool.{cond_both}
use Rattle.std.proofs.lemmas.List.Sums.{sum_by-cons}
use Rattle.std.proofs.lemmas.Bool.Decides.{nat_tests}
use Rattle.list_checks.specs.First.{first_below}
use Rattle.list_checks.proofs.FirstLemmas.{none_at}
use Rattle.rv32im.specs.Acts.{load_width, store_width}
use Rattle.rv32im.specs.declared.instructions.Instr.{Instr}
use Rattle.rv32im.specs.declared.instructions.Instr.TheVariants.{Auipc, Load, Store}
use Rattle.rv32im.specs.declared.instructions.LoadKind.{LoadKind}
use Rattle.rv32im.specs.declared.instructions.StoreKind.{StoreKind}
use Rattle.board_config.specs.declared.board.Board.{Board}
use Rattle.board_config.specs.declared.board.Prices.{Prices}
use Rattle.flat_machine.specs.declared.events.FlatAccess.{FlatAccess}
use Rattle.cell_values.specs.Objects.{home_address}
use Rattle.cell_values.specs.Stands.{Places}
use Rattle.cell_values.specs.declared.values.Val.{Val}
use Rattle.cell_values.specs.declared.values.Val.TheVariants.{Int, Addr, Hi, Low, Piece, Unknown}
use Rattle.object_machine.specs.declared.events.Access.{Access}
use Rattle.object_machine.specs.declared.events.Outcome.{Outcome}
use Rattle.object_machine.specs.declared.events.Outcome.TheVariants.{GoesOn}
use Rattle.object_machine.specs.Flow.{falls_on, calls_pair}
use Rattle.object_machine.specs.Memory.{loaded_value, stored_at, stored_cells}
use Rattle.object_machine.specs.Places.{Where, InFixed, InObject, Nowhere, fault_from, in_fixed, located, address_of, read_fault, write_fault}
use Rattle.object_machine.specs.Program.{Program}
use Rattle.object_machine.specs.State.{SourceState, value, wrote, faulted}
use Rattle.object_machine.specs.Step.{next_state, one_word, access_in, access_by, access_of, load_place, store_place, loads_from, stores_to}
use Rattle.simulation.proofs.Places.{load_is_width, store_is_width, width_positive}
use Rattle.profile_runner.specs.Transition.{is_going}
use Rattle.energy_model.specs.Energy.{data_price}
use Rattle.energy_model.specs.Priced.{direction_price}
use Rattle.result_laws.specs.Walks.{accesses_at, word_accesses, unit_accesses, IsNoFault}
use Rattle.paid_energy.specs.Costs.{is_fast, access_cost}
use Rattle.paid_energy.proofs.CostLemmas.{accesses_cost}

-- ---- where accesses go

abbrev IsPlace : Program → Where → Type 0
IsPlace p (InFixed a) = p.is_fixed a ≡ true
IsPlace p (InObject o d) = d < p.objects.size o
IsPlace p (Nowhere why) = Unit {0}

unfaulted : (fixed : Bool) (why : ℕ) → (if fixed then None else Some why) ≡ None → fixed ≡ true
unfaulted true why none = refl
unfaulted false why none = cc

fixed_is : (p : Program) (width a : ℕ) → 0 < width → (fault : Option ℕ) → first_below (fault_from p a) width ≡ fault → IsPlace p (in_fixed a fault)
fixed_is p width a some None none =
    let at : a + 0 ≡ a = omega arith in
    subst (λ (b : ℕ). p.is_fixed b ≡ true) at
    (unfaulted (p.is_fixed (a + 0)) (if p.is_held (a + 0) then 4 else 3) (none_at (fault_from p a) width 0 some none))
fixed_is p width a some (Some why) found = tt

within_object : (d width size : ℕ) → 0 < width → nat_le (d + width) size ≡ true → d < size
within_object d width size some within = grind (arith, nat_tests, some, within)

located_is : (p : Program) (width : ℕ) → 0 < width → (x : Val) → IsPlace p (located p width x)
located_is p width some (Int a) =
    cond_both (a % width == 0) (in_fixed a (first_below (fault_from p a) width)) (Nowhere 2) (IsPlace p)
    (λ aligned. fixed_is p width a some (first_below (fault_from p a) width) refl) (λ other. tt)
located_is p width some (Addr o d) =
    cond_both (home_address p.objects o d % width == 0) (if nat_le (d + width) (p.objects.size o) then InObject o d else Nowhere 1) (Nowhere 2) (IsPlace p)
    (λ aligned.
    cond_both (nat_le (d + width) (p.objects.size o)) (InObject o d) (Nowhere 1) (IsPlace p)
    (λ within. within_object d width (p.objects.size o) some within) (λ outside. tt))
    (λ other. tt)
located_is p width some (Hi o d) = tt
located_is p width some (Low n) = tt
located_is p width some (Piece hi o d k) = tt
located_is p width some Unknown = tt

-- ---- instructions

-- where an instruction neither loads nor stores
nothing_paid : (going : Bool) → zero ≡ (if going then zero else zero)
nothing_paid true = refl
nothing_paid false = refl

module _ (p : Program) (s : SourceState) (going : s.outcome ≡ GoesOn) where
  falls_goes : (t : SourceState) → t.outcome ≡ GoesOn → IsNoFault (falls_on p s t).outcome → (falls_on p s t).outcome ≡ GoesOn
  falls_goes t on =
      cond_both (p.falls s.pc) (record t { pc = s.pc + 4 }) (faulted s 6) (λ (x : SourceState). IsNoFault x.outcome → x.outcome ≡ GoesOn)
      (λ falls fine. on) (λ other fine. absurd fine)

  -- a load or a store that is no fault goes on
  loads_go : (kind : LoadKind) (rd : ℕ) (w : Where) → IsNoFault (loads_from p s kind rd w (read_fault w)).outcome → (loads_from p s kind rd w (read_fault w)).outcome ≡ GoesOn
  loads_go kind rd (InFixed a) fine = falls_goes (wrote s rd (loaded_value kind s (InFixed a))) going fine
  loads_go kind rd (InObject o d) fine = falls_goes (wrote s rd (loaded_value kind s (InObject o d))) going fine
  loads_go kind rd (Nowhere why) fine = absurd fine

  stores_go : (kind : StoreKind) (x : Val) (w : Where) → IsNoFault (stores_to p s kind x w (write_fault p w)).outcome → (stores_to p s kind x w (write_fault p w)).outcome ≡ GoesOn
  stores_go kind x (InFixed a) fine = falls_goes (stored_at s (InFixed a) (stored_cells kind x)) going fine
  stores_go kind x (InObject o d) fine =
      cond_both (p.objects.writable o) None (Some 9)
      (λ (f : Option ℕ). IsNoFault (stores_to p s kind x (InObject o d) f).outcome → (stores_to p s kind x (InObject o d) f).outcome ≡ GoesOn)
      (λ writable. falls_goes (stored_at s (InObject o d) (stored_cells kind x)) going) (λ other none. absurd none) fine
  stores_go kind x (Nowhere why) fine = absurd fine

  -- and it goes somewhere
  load_somewhere : (kind : LoadKind) (rd : ℕ) (w : Where) → IsNoFault (loads_from p s kind rd w (read_fault w)).outcome → (why : ℕ) → w ≡ Nowhere why → ⊥
  load_somewhere kind rd w fine why is = subst (λ (x : Where). IsNoFault (loads_from p s kind rd x (read_fault x)).outcome) is fine

  store_somewhere : (kind : StoreKind) (x : Val) (w : Where) → IsNoFault (stores_to p s kind x w (write_fault p w)).outcome → (why : ℕ) → w ≡ Nowhere why → ⊥
  store_somewhere kind x w fine why is = subst (λ (y : Where). IsNoFault (stores_to p s kind x y (write_fault p y)).outcome) is fine

  -- a call of two words that is no fault goes on
  pub pair_goes : IsNoFault (calls_pair p s).outcome → (calls_pair p s).outcome ≡ GoesOn
  pair_goes =
      cond_both (p.is_block (p.goes s.pc)) _ (faulted s 6) (λ (x : SourceState). IsNoFault x.outcome → x.outcome ≡ GoesOn)
      (λ leads fine. going) (λ other fine. absurd fine)

-- ---- what is paid

-- an access goes to an object in the scratchpad
abbrev pub is_quick : (ℕ → Bool) → Option Access → Bool
is_quick fast None = false
is_quick fast (Some a) = fast a.object

-- a step that comes to an outcome pays for its access
abbrev pub data_paid : Prices → (ℕ → Bool) → Program → SourceState → Option Instr → Outcome → ℕ
data_paid prices fast p s read o = if is_going o then data_price prices (is_quick fast (access_of p s o read)) read else 0

module _ (board : Board) (p : Program) (places : Places) (fast : ℕ → Bool) (fixed : (a : ℕ) → p.is_fixed a ≡ true → is_fast board a ≡ false) (objects : (o d : ℕ) → d < p.objects.size o → is_fast board (places o + d) ≡ fast o) where
  one_cost : (x : FlatAccess) (quick : Bool) → is_fast board x.at ≡ quick → accesses_cost board (x ∷ []) ≡ direction_price board.prices quick x.write
  one_cost x quick is =
      let alone = sum_by-cons (access_cost board) x [] in
      let price : access_cost board x ≡ direction_price board.prices quick x.write = ap (λ (b : Bool). direction_price board.prices b x.write) is in
      omega (arith, alone, price)

  place_cost : (write : Bool) (w : Where) → IsPlace p w → ((why : ℕ) → w ≡ Nowhere why → ⊥) → accesses_cost board (accesses_at places write w) ≡ direction_price board.prices (is_quick fast (access_in w write)) write
  place_cost write (InFixed a) is some = one_cost (record { at = a; write = write }) false (fixed a is)
  place_cost write (InObject o d) is some = one_cost (record { at = places o + d; write = write }) (fast o) (objects o d is)
  place_cost write (Nowhere why) is some = absurd (some why refl)

  module _ (s : SourceState) (going : s.outcome ≡ GoesOn) where
    abbrev paid : Option Instr → Outcome → ℕ
    paid read o = data_paid board.prices fast p s read o

    on_going : (read : Option Instr) (o : Outcome) (cost : ℕ) → o ≡ GoesOn → p.is_pair s.pc ≡ false → cost ≡ data_price board.prices (is_quick fast (access_by p s read)) read → cost ≡ paid read o
    on_going read o cost is single same =
        subst (λ (x : Outcome). cost ≡ paid read x) (sym is)
        (subst (λ (b : Bool). cost ≡ data_price board.prices (is_quick fast (if b then None else access_by p s read)) read) (sym single) same)

    word_cost : (read : Option Instr) → p.is_pair s.pc ≡ false → IsNoFault (one_word p s read).outcome → accesses_cost board (word_accesses p s places read) ≡ paid read (one_word p s read).outcome
    word_cost (Some (Load kind rd rs1 imm)) single fine =
        let w : Where = load_place p s kind rs1 imm (p.site s.pc) in
        on_going (Some (Load kind rd rs1 imm)) (one_word p s (Some (Load kind rd rs1 imm))).outcome (accesses_cost board (accesses_at places false w))
        (loads_go p s going kind rd w fine) single
        (place_cost false w
        (located_is p (load_width kind) (width_positive (load_width kind) (load_is_width kind)) (address_of p (p.site s.pc) (value s.regs rs1) imm))
        (load_somewhere p s going kind rd w fine))
    word_cost (Some (Store kind rs1 rs2 imm)) single fine =
        let w : Where = store_place p s kind rs1 imm (p.site s.pc) in
        on_going (Some (Store kind rs1 rs2 imm)) (one_word p s (Some (Store kind rs1 rs2 imm))).outcome (accesses_cost board (accesses_at places true w))
        (stores_go p s going kind (value s.regs rs2) w fine) single
        (place_cost true w
        (located_is p (store_width kind) (width_positive (store_width kind) (store_is_width kind)) (address_of p (p.site s.pc) (value s.regs rs1) imm))
        (store_somewhere p s going kind (value s.regs rs2) w fine))
    word_cost read single fine = nothing_paid (is_going (one_word p s read).outcome)

    pair_cost : (read : Option Instr) (rd imm : ℕ) (o : Outcome) → read ≡ Some (Auipc rd imm) → 0 ≡ paid read o
    pair_cost read rd imm o is = subst (λ (x : Option Instr). 0 ≡ paid x o) (sym is) (nothing_paid (is_going o))

    unit_by : (read : Option Instr) (pair : Bool) → p.is_pair s.pc ≡ pair → (p.is_pair s.pc ≡ true → (rd : ℕ) × ((imm : ℕ) × (read ≡ Some (Auipc rd imm)))) → IsNoFault (next_state p s read).outcome → accesses_cost board (unit_accesses p s places read) ≡ paid read (next_state p s read).outcome
    unit_by read true is first fine =
        let auipc = first is in
        ap (λ (b : Bool). accesses_cost board (if b then [] else word_accesses p s places read)) is
        ∙ pair_cost read auipc.0 auipc.1.0 (next_state p s read).outcome auipc.1.1
    unit_by read false is first fine =
        let same : next_state p s read ≡ one_word p s read = ap (λ (b : Bool). if b then calls_pair p s else one_word p s read) is in
        ap (λ (b : Bool). accesses_cost board (if b then [] else word_accesses p s places read)) is
        ∙ (word_cost read is (subst (λ (x : SourceState). IsNoFault x.outcome) same fine)
        ∙ ap (λ (x : SourceState). paid read x.outcome) (sym same))

    -- the accesses of a unit cost what its step pays
    pub unit_cost : (read : Option Instr) → (p.is_pair s.pc ≡ true → (rd : ℕ) × ((imm : ℕ) × (read ≡ Some (Auipc rd imm)))) → IsNoFault (next_state p s read).outcome → accesses_cost board (unit_accesses p s places read) ≡ data_paid board.prices fast p s read (next_state p s read).outcome
    unit_cost read first fine = unit_by read (p.is_pair s.pc) refl first fine
