-- The access of a unit is told at the place of its object.
use Rattle.std.proofs.Common.{◌≡◌, ◌∙◌, ℕ, ◌+◌, Bool, true, false, if◌then◌else◌, List, [], ◌∷◌, ◌++◌, length, slice_index_or, Option, Some, None, refl, sym, ap, arith, append-nil, ℤ}
use Rattle.rv32im.specs.Acts.{load_width, store_width}
use Rattle.rv32im.specs.declared.instructions.Instr.{Instr}
use Rattle.rv32im.specs.declared.instructions.Instr.TheVariants.{Load, Store}
use Rattle.flat_machine.specs.declared.events.FlatAccess.{FlatAccess}
use Rattle.flat_machine.specs.declared.events.FlatEvent.{FlatEvent}
use Rattle.cell_values.specs.Stands.{Places}
use Rattle.patch_code.specs.Told.{accesses}
use Rattle.patch_code.specs.Told.{access_in as flat_access_in}
use Rattle.object_machine.specs.declared.events.Access.{Access}
use Rattle.object_machine.specs.declared.events.Outcome.{Outcome}
use Rattle.object_machine.specs.declared.events.Outcome.TheVariants.{GoesOn, Exited, Trapped, AddressFault}
use Rattle.cell_values.specs.declared.values.Val.{Val}
use Rattle.object_machine.specs.Places.{Where, InFixed, InObject, Nowhere, located, address_of}
use Rattle.object_machine.specs.Program.{Program, Target}
use Rattle.object_machine.specs.State.{SourceState, value}
use Rattle.simulation.specs.Unnamed.{unnamed}
use Rattle.simulation.proofs.Unnamed.{located_same, address_same}
use Rattle.object_machine.specs.Step.{access_in, access_by, access_of, load_place, store_place}
use Rattle.result_laws.specs.Walks.{accesses_at, word_accesses, unit_accesses}
use Rattle.result_laws.proofs.UnitEvents.{accesses_first}
use Rattle.compare_runner.specs.Comings.{first_access}
use Rattle.compare_runner.specs.TraceLaws.{IsAtPlace}
use Rattle.compare_runner.specs.Tracing.{told_access, CanTell}
use Rattle.compare_runner.proofs.EndingSteps.{IsAlone}

-- it can be told, and is at its place
abbrev pub IsTold : Places → Option Access → Option FlatAccess → Type 0
IsTold places access made = CanTell access made × IsAtPlace places (told_access access made)

none_told : (places : Places) (made : Option FlatAccess) → IsTold places None made
none_told places made = (tt, tt)

-- an access of an object, which the flat machine makes at a place
made_there : (places : Places) (o d : ℕ) (write : Bool) (made : Option FlatAccess) → flat_access_in made ≡ record { at = places o + d; write = write } ∷ [] → IsTold places (Some (record { object = o; offset = d; write = write })) made
made_there places o d write None is = let count = ap (λ (xs : List FlatAccess). length xs) is in absurd (omega (arith, count))
made_there places o d write (Some made) is = (tt, ap (λ (xs : List FlatAccess). (slice_index_or xs 0 made).at) is)

where_told : (places : Places) (write : Bool) (w : Where) (made : Option FlatAccess) → flat_access_in made ≡ accesses_at places write w → IsTold places (access_in w write) made
where_told places write (InFixed a) made is = none_told places made
where_told places write (InObject o d) made is = made_there places o d write made is
where_told places write (Nowhere why) made is = none_told places made

module _ (p : Program) (s : SourceState) (places : Places) where
  -- one event makes the accesses of its word
  word_told : (read : Option Instr) (made : Option FlatAccess) → flat_access_in made ≡ word_accesses p s places read → IsTold places (access_by p s read) made
  word_told (Some (Load kind rd rs1 imm)) made is = where_told places false (load_place p s kind rs1 imm (p.site s.pc)) made is
  word_told (Some (Store kind rs1 rs2 imm)) made is = where_told places true (store_place p s kind rs1 imm (p.site s.pc)) made is
  word_told other made is = none_told places made

  -- a word that accesses an object stands alone at each form
  abbrev IsSingle : Option Instr → List FlatEvent → Type 0
  IsSingle read es = IsAlone read → length es ≡ 1

  first_told : (read : Option Instr) (es fs : List FlatEvent) → length es ≡ 1 → accesses es ≡ word_accesses p s places read → IsTold places (access_by p s read) (first_access (es ++ fs))
  first_told read [] fs one is = absurd (omega (arith, one))
  first_told read (e ∷ []) fs one is =
      word_told read e.access (sym (append-nil (flat_access_in e.access)) ∙ (sym (accesses_first e []) ∙ is))
  first_told read (e ∷ f ∷ es) fs one is = absurd (omega (arith, one))

  read_told : (read : Option Instr) (es fs : List FlatEvent) → IsSingle read es → accesses es ≡ word_accesses p s places read → IsTold places (access_by p s read) (first_access (es ++ fs))
  read_told (Some (Load kind rd rs1 imm)) es fs single is = first_told (Some (Load kind rd rs1 imm)) es fs (single tt) is
  read_told (Some (Store kind rs1 rs2 imm)) es fs single is = first_told (Some (Store kind rs1 rs2 imm)) es fs (single tt) is
  read_told other es fs single is = none_told places (first_access (es ++ fs))

  unit_by : (pair : Bool) (read : Option Instr) (es fs : List FlatEvent) → (pair ≡ false → IsSingle read es) → accesses es ≡ (if pair then [] else word_accesses p s places read) → IsTold places (if pair then None else access_by p s read) (first_access (es ++ fs))
  unit_by true read es fs single is = none_told places (first_access (es ++ fs))
  unit_by false read es fs single is = read_told read es fs (single refl) is

  -- the access of a unit is told by the first of its events
  pub unit_told : (o : Outcome) (read : Option Instr) (es fs : List FlatEvent) → (p.is_pair s.pc ≡ false → IsSingle read es) → accesses es ≡ unit_accesses p s places read → IsTold places (access_of p s o read) (first_access (es ++ fs))
  unit_told GoesOn read es fs single is = unit_by (p.is_pair s.pc) read es fs single is
  unit_told (Exited code) read es fs single is = none_told places (first_access (es ++ fs))
  unit_told (Trapped pc) read es fs single is = none_told places (first_access (es ++ fs))
  unit_told (AddressFault pc why) read es fs single is = none_told places (first_access (es ++ fs))

-- ---- the same without names

module _ (p : Program) where
  abbrev q : Program
  q = unnamed p

  place_same : (width : ℕ) (site : Option Target) (x : Val) (imm : ℤ) → located p width (address_of p site x imm) ≡ located q width (address_of q site x imm)
  place_same width site x imm = located_same p width (address_of p site x imm) ∙ ap (located q width) (address_same p site x imm)

  by_same : (s : SourceState) (read : Option Instr) → access_by p s read ≡ access_by q s read
  by_same s (Some (Load kind rd rs1 imm)) = ap (λ (w : Where). access_in w false) (place_same (load_width kind) (p.site s.pc) (value s.regs rs1) imm)
  by_same s (Some (Store kind rs1 rs2 imm)) = ap (λ (w : Where). access_in w true) (place_same (store_width kind) (p.site s.pc) (value s.regs rs1) imm)
  by_same s other = refl

  pub access_same : (s : SourceState) (o : Outcome) (read : Option Instr) → access_of p s o read ≡ access_of q s o read
  access_same s GoesOn read = λ i. if p.is_pair s.pc then None else by_same s read i
  access_same s other read = refl
