-- The unit that stands at an address: what it means, which part of an address its site makes, and the rules of points-to.
use Rattle.std.proofs.Common.{◌≡◌, ◌∙◌, ℕ, suc, ◌+◌, ◌<◌, ◌==◌, Bool, true, false, if◌then◌else◌, List, [], ◌∷◌, length, slice_index_or, Option, Some, None, refl, sym, ap, subst, arith}
use Rattle.std.proofs.lemmas.Bool.{cond_both, eqb-true}
use Rattle.rv32im.specs.Fields.{rd_of, u_immediate}
use Rattle.rv32im.specs.Table.{Means}
use Rattle.rv32im.specs.declared.instructions.Instr.{Instr}
use Rattle.rv32im.specs.declared.instructions.Instr.TheVariants.{Auipc}
use Rattle.rv32im.proofs.Meaning.{same_instruction}
use Rattle.elf_reader.specs.File.{PlainView, view_in}
use Rattle.board_config.specs.declared.board.Board.{Board}
use Rattle.loaded_file.specs.Code.{image_word}
use Rattle.object_graph.specs.declared.parts.Site.{Site}
use Rattle.object_graph.specs.declared.parts.Graph.{Graph}
use Rattle.code_blocks.specs.Leaders.{is_call_pair}
use Rattle.code_blocks.proofs.PairLemmas.{pair_parts}
use Rattle.code_blocks.specs.Blocks.{IsCode}
use Rattle.code_blocks.specs.declared.parts.Code.{Code}
use Rattle.dataflow.specs.Live.{IsUnitOf}
use Rattle.dataflow.specs.Points.{site_at, unit_of, instr_of, site_of, Makes, Moves, Sums, Stores, Loads, Defines, Before, After, Escapes}
use Rattle.dataflow.specs.Points as points
use Rattle.relocator.specs.Gathering.{CanMake}
use Rattle.relocator.proofs.WordLemmas.{listed_here, can_of}
use Rattle.object_machine.specs.Program.{Program, Target, target_at}
use Rattle.object_machine.specs.State.{SourceState}
use Rattle.object_machine.specs.Step.{Reads, next_state}
use Rattle.object_machine.specs.Units.{target_of}
use Rattle.object_machine.specs.declared.events.Outcome.TheVariants.{GoesOn}
use Rattle.object_machine.proofs.FollowLemmas.{unit_reads}
use Rattle.result_laws.specs.HomeLaws.{IsAccepted, unnamed_in}
use Rattle.result_laws.specs.LiveUnits.{StandsThere, UnitsStand}
use Rattle.result_laws.proofs.CodeUnits.{units_stand}
use Rattle.result_laws.proofs.HomeUnits.{call_words}
use Rattle.result_laws.specs.Holds.{AreHeld}
use Rattle.result_laws.proofs.Steps.{UnitRules, FitsPart, Onward, IsRuled, IsPairRuled, next_leads}

-- ---- sites

one_target : (test : Bool) (s : Site) (target : Option Target) (site : Option Site) → target ≡ target_of site → (if test then Some (record { object = s.object; offset = s.offset }) else target) ≡ target_of (if test then Some s else site)
one_target true s target site same = refl
one_target false s target site same = same

-- the machine and points-to find one site at an address
same_site : (sites : List Site) (a : ℕ) → target_at sites a ≡ target_of (site_at sites a)
same_site [] a = refl
same_site (s ∷ sites) a = one_target (s.at == a) s (target_at sites a) (site_at sites a) (same_site sites a)

-- it is one of the list
record IsSiteAt (sites : List Site) (a : ℕ) (s : Site) : Type 0 where
  place : ℕ
  below : place < length sites
  is : s ≡ slice_index_or sites place s
  at : s.at ≡ a

some_same : (s t : Site) → Some s ≡ Some t → s ≡ t
some_same s t is = cc

found_site : (sites : List Site) (a : ℕ) (s : Site) → site_at sites a ≡ Some s → IsSiteAt sites a s
found_site [] a s found = absurd (cc)
found_site (t ∷ sites) a s found =
    cond_both (t.at == a) (Some t) (site_at sites a) (λ (o : Option Site). o ≡ Some s → IsSiteAt (t ∷ sites) a s)
    (λ here is.
    let same = some_same t s is in
    record {
      place = 0;
      below = omega arith;
      is = sym same;
      at = subst (λ (x : Site). x.at ≡ a) same (eqb-true t.at a here);
    })
    (λ other is.
    let rest = found_site sites a s is in
    let below = rest.below in
    record { place = suc rest.place; below = omega (arith, below); is = rest.is; at = rest.at })
    found

-- ---- rules

rules_at : (c : Code) (g : Graph) (b k : ℕ) (i : Instr) → IsUnitOf c b k → instr_of c b k ≡ Some i → UnitRules (site_of c g b k) i (Before c g b k) (After c g b k) (Escapes c g)
rules_at c g b k i is instr =
    record {
      makes = λ x o holder makes.
          points.site b k x is holder (subst (λ (r : Option Instr). Makes (site_of c g b k) r o x) (sym instr) makes);
      moves = λ x z o holder moves there.
          points.move b k x z is holder (subst (λ (r : Option Instr). Moves (site_of c g b k) r x z) (sym instr) moves) there;
      sums = λ x z o holder sums there.
          points.sum b k x z is holder (subst (λ (r : Option Instr). Sums r x z) (sym instr) sums) there;
      stores = λ x o stores there. points.store b k x is (subst (λ (r : Option Instr). Stores r x) (sym instr) stores) there;
      loads = λ z o holder loads there.
          points.load b k z is holder (subst (λ (r : Option Instr). Loads r z) (sym instr) loads) there;
      keeps = λ x o spared there.
          points.keep b k x is (λ defines. spared (subst (λ (r : Option Instr). Defines r x) instr defines)) there;
    }

module _ (file : List ℕ) (board : Board) (g : Graph) (c : Code) (accepted : IsAccepted file board g) (code : IsCode (view_in file) c) where
  abbrev v : PlainView
  v = view_in file

  abbrev p : Program
  p = unnamed_in file board g

  pub units : UnitsStand v p c
  units = units_stand file board g c accepted code

  instr_is : (a b k : ℕ) (read : Option Instr) → StandsThere c a b k → Reads (image_word v a) read → instr_of c b k ≡ read
  instr_is a b k read stands reads =
      unit_reads same_instruction v (unit_of c b k) a read (units.tells b k stands.is) stands.at reads

  fits_there : (a : ℕ) (i : Instr) (o : Option Site) → site_at g.sites.items a ≡ o → Means (image_word v a) i → FitsPart o i
  fits_there a i None found means = tt
  fits_there a i (Some s) found means =
      let at = found_site g.sites.items a s found in
      let listed = listed_here v g.objects.items g.sites.items at.place s accepted.graph.sites at.below at.is in
      let can = can_of v (length g.objects.items) s listed in
      let there : Means (image_word v a) can.instr = subst (λ (x : ℕ). Means (image_word v x) can.instr) at.at can.means in
      subst (CanMake s.kind) (same_instruction (image_word v a) can.instr i there means) can.can

  module _ (s : SourceState) (b k : ℕ) (stands : StandsThere c s.pc b k) (held : AreHeld (Before c g b k) (Escapes c g) s) (going : s.outcome ≡ GoesOn) where
    ruled : (i : Instr) → Reads (image_word v s.pc) (Some i) → IsRuled p (Before c g b k) (After c g b k) (Escapes c g) s held going i
    ruled i reads =
        let at : site_at g.sites.items s.pc ≡ site_of c g b k = ap (site_at g.sites.items) (sym stands.at) in
        record {
          site = site_of c g b k;
          target = same_site g.sites.items s.pc ∙ ap target_of at;
          rules = rules_at c g b k i stands.is (instr_is s.pc b k (Some i) stands reads);
          fits = fits_there s.pc i (site_of c g b k) at reads;
          means = reads;
        }

    pair_ruled : is_call_pair v s.pc ≡ true → IsPairRuled p (Before c g b k) (After c g b k) (Escapes c g) s held going
    pair_ruled pair =
        let w : ℕ = image_word v s.pc in
        let i : Instr = Auipc (rd_of w) (u_immediate w) in
        let means = (call_words w (image_word v (s.pc + 4)) (pair_parts v s.pc pair).words).auipc in
        record {
          site = site_of c g b k;
          upper = u_immediate w;
          rules = rules_at c g b k i stands.is (instr_is s.pc b k (Some i) stands means);
        }

    -- a step from where addresses are where they may be
    pub step_leads : (read : Option Instr) → Reads (image_word v s.pc) read → Onward (Before c g b k) (After c g b k) (Escapes c g) s (next_state p s read)
    step_leads read reads =
        next_leads p (Before c g b k) (After c g b k) (Escapes c g) s held going read pair_ruled
        (λ single i is. ruled i (subst (Reads (image_word v s.pc)) is reads))
