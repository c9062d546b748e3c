-- Control comes to another region of the code by its borders, where no address of an object that may be overlaid is at hand.
use Rattle.std.proofs.Common.{◌≡◌, ◌∙◌, ◌⊎◌, inl, inr, ℕ, ◌==◌, Bool, true, not, ◌&&◌, ◌||◌, List, [], ◌∷◌, length, refl, sym, subst, arith}
use Rattle.std.specs.List.{Contains, list_any}
use Rattle.std.proofs.lemmas.Bool.{cases_eq, false_from_ne_true}
use Rattle.std.proofs.lemmas.Bool.Decides.{nat_tests}
use Rattle.list_checks.specs.Tests.{any_below}
use Rattle.list_checks.proofs.TestLemmas.{any_at}
use Rattle.elf_reader.specs.File.{PlainView, view_in}
use Rattle.loaded_file.specs.Code.{is_code_word}
use Rattle.code_blocks.specs.Early.{has}
use Rattle.code_blocks.specs.Words.{any_code_word}
use Rattle.code_blocks.specs.Leaders.{is_function_at, makes_address, pair_comes_back, is_leader, link_comes_back, is_indirect}
use Rattle.code_blocks.proofs.LeaderLemmas.{leader_is_code, left_passes, right_passes, both_pass}
use Rattle.code_blocks.specs.Edges.{successors}
use Rattle.code_blocks.specs.Numbers.{start_at, end_at}
use Rattle.code_blocks.specs.Leads.{leads_to, IsBlockOf, LeadsOn, LeadsAnywhere}
use Rattle.code_blocks.specs.declared.parts.Code.{Code}
use Rattle.code_blocks.proofs.EntryLemmas.{entry_leads}
use Rattle.dataflow.specs.Live.{Next, within, direct, indirect}
use Rattle.dataflow.proofs.EdgeLemmas.{listed_has}
use Rattle.dataflow.specs.Points.{Before, Escapes}
use Rattle.dataflow.specs.Overlaid.{region_in, is_border}
use Rattle.dataflow.proofs.ListLemmas.{in_cons}
use Rattle.region_former.specs.Borders.{comes_from_outside}
use Rattle.region_former.specs.Flow.{block_count}
use Rattle.cell_values.specs.declared.values.Val.{Val}
use Rattle.cell_values.specs.declared.values.Val.TheVariants.{Addr, Hi, Piece}
use Rattle.cell_values.specs.declared.values.Cell.{Cell}
use Rattle.cell_values.specs.declared.values.Cell.TheVariants.{Part}
use Rattle.object_machine.specs.State.{value}
use Rattle.result_laws.specs.LiveUnits.{StandsThere}
use Rattle.result_laws.proofs.CodeUnits.{block_of, first}
use Rattle.result_laws.proofs.LiveUnits.{steps_lead_on}
use Rattle.result_laws.specs.Holds.{ValueIsHeld, CellIsHeld, AreHeld}
use Rattle.simulation.specs.Names.{NamesNone, CellNamesNone}
use Rattle.result_laws.specs.Entries.{TellsBorders, RegionsTellBorders, RunsIn, EntersAtBorders, StartsAtBorder, BordersAreFree}
use Rattle.result_laws.proofs.Held.{one_unit}

-- ---- edges

pub successor_found : (xs : List ℕ) (a : ℕ) → Contains xs a → list_any (λ (x : ℕ). x == a) xs ≡ true
successor_found [] a (k, below, is) = absurd (omega (arith, below))
successor_found (x ∷ xs) a there =
    elim (in_cons x xs a there) [
      | inl same ↦ left_passes (x == a) (list_any (λ (y : ℕ). y == a) xs) (grind (arith, nat_tests, same))
      | inr rest ↦ right_passes (x == a) (list_any (λ (y : ℕ). y == a) xs) (successor_found xs a rest)
    ]

some_region : (r : ℕ) → (r ≡ 0 → ⊥) → not (r == 0) ≡ true
some_region r some = grind (arith, nat_tests, some)

other_region : (r q current : ℕ) → (r ≡ 0) ⊎ (r ≡ current) → (q ≡ 0 → ⊥) → (q ≡ current → ⊥) → not (r == q) ≡ true
other_region r q current (inl none) some other =
    let differs : r ≡ q → ⊥ = λ same. some (sym same ∙ none) in grind (arith, nat_tests, differs)
other_region r q current (inr here) some other =
    let differs : r ≡ q → ⊥ = λ same. other (sym same ∙ here) in grind (arith, nat_tests, differs)

module _ (c : Code) (regions : List ℕ) (borders : List Bool) (tells : TellsBorders c regions borders) (current : ℕ) where
  -- a block where control comes to, which has another region only where it enters that
  abbrev Enters : ℕ → ℕ → Type 0
  Enters d j = RunsIn regions d current ⊎ ((j ≡ 0) × (is_border borders d ≡ true))

  unless_border : (d : ℕ) → IsBlockOf c d → ((region_in regions d ≡ 0 → ⊥) → (region_in regions d ≡ current → ⊥) → has c.indirect.items (start_at c d) || any_below (comes_from_outside c regions d) (block_count c) ≡ true) → Enters d 0
  unless_border d block border =
      elim (cases_eq (region_in regions d) 0) [
        | inl none ↦ inl (inl none)
        | inr some ↦ elim (cases_eq (region_in regions d) current) [
          | inl same ↦ inl (inr same)
          | inr other ↦
              inr
              (refl, tells d block ∙ both_pass (not (region_in regions d == 0)) _ (some_region (region_in regions d) some) (border some other))
        ]
      ]

  listed_enters : (d : ℕ) → IsBlockOf c d → has c.indirect.items (start_at c d) ≡ true → Enters d 0
  listed_enters d block listed =
      unless_border d block
      (λ some other. left_passes (has c.indirect.items (start_at c d)) (any_below (comes_from_outside c regions d) (block_count c)) listed)

  direct_enters : (b d : ℕ) → LeadsOn c b d → RunsIn regions b current → Enters d 0
  direct_enters b d leads runs =
      unless_border d leads.to
      (λ some other.
      right_passes (has c.indirect.items (start_at c d)) (any_below (comes_from_outside c regions d) (block_count c))
      (any_at (comes_from_outside c regions d) (block_count c) b leads.from
      (both_pass (leads_to c b d) (not (region_in regions b == region_in regions d))
      (successor_found (successors (end_at c b)) (start_at c d) leads.leads)
      (other_region (region_in regions b) (region_in regions d) current runs some other))))

  anywhere_enters : (b d : ℕ) → LeadsAnywhere c b d → Enters d 0
  anywhere_enters b d leads = listed_enters d leads.to (listed_has c.indirect.items (start_at c d) leads.listed)

  next_enters : (b k d j : ℕ) → Next c b k d j → RunsIn regions b current → Enters d j
  next_enters _ _ _ _ (within b k more) runs = inl runs
  next_enters _ _ _ _ (direct b k d last leads) runs = direct_enters b d leads runs
  next_enters _ _ _ _ (indirect b k d last leads) runs = anywhere_enters b d leads

-- the entry is a leader that a jump to an address in a register may reach
named_code : (code same b c d e : Bool) → code ≡ true → same ≡ true → code && (same || b || c || d || e) ≡ true
named_code code same b c d e is_code is_same = rw (is_code, is_same) refl

pub entry_indirect : (v : PlainView) → is_leader v v.entry ≡ true → is_indirect v v.entry ≡ true
entry_indirect v leads =
    let same : (v.entry == v.entry) ≡ true = grind (arith, nat_tests) in
    named_code (is_code_word v v.entry) (v.entry == v.entry) (any_below (is_function_at v v.entry) (length v.symbols))
    (any_below (makes_address v v.entry) (length v.relocs)) (any_code_word v (link_comes_back v v.entry))
    (any_code_word v (pair_comes_back v v.entry)) (leader_is_code v v.entry leads) same

pub regions_tell_borders : RegionsTellBorders
regions_tell_borders v c board has_dead t formed = formed.border

pub enters_at_borders : EntersAtBorders
enters_at_borders file board g c regions borders s read b k current accepted code tells there runs reads goes =
    let next = steps_lead_on file board g c s read b k accepted code there reads goes in
    record {
      block = next.block;
      unit = next.unit;
      there = next.there;
      enters = next_enters c regions borders tells current b k next.block next.unit next.next runs;
    }

pub starts_at_border : StartsAtBorder
starts_at_border file board g c regions borders accepted code tells =
    let v = view_in file in
    let leads = entry_leads v accepted.code in
    let block = block_of file board g c accepted code v.entry leads in
    let listed : has c.indirect.items (start_at c block.0) ≡ true =
    subst (λ (a : ℕ). has c.indirect.items a ≡ true) (sym block.2) (code.indirect v.entry ∙ entry_indirect v leads) in
    record {
      block = block.0;
      unit = 0;
      there = subst (λ (a : ℕ). StandsThere c a block.0 0) block.2 (first file board g c accepted code block.0 block.1);
      enters = listed_enters c regions borders tells 0 block.0 block.1 listed;
    }

-- ---- addresses

module _ (these : ℕ → Bool) (may escapes : ℕ → Type 0) (kept_out : (o : ℕ) → these o ≡ true → escapes o → ⊥) where
  value_free : (x : Val) → ((o : ℕ) → these o ≡ true → may o → ⊥) → ValueIsHeld may escapes x → NamesNone these x
  value_free (Addr o d) free held = false_from_ne_true (these o) (λ is. free o is held)
  value_free (Hi o d) free held = false_from_ne_true (these o) (λ is. free o is held)
  value_free (Piece hi o d k) free held = false_from_ne_true (these o) (λ is. kept_out o is held)
  value_free x free held = tt

  cell_free : (x : Cell) → CellIsHeld escapes x → CellNamesNone these x
  cell_free (Part hi o d k) held = false_from_ne_true (these o) (λ is. kept_out o is held)
  cell_free x held = tt

pub borders_are_free : BordersAreFree
borders_are_free file board g c regions borders these s b accepted code is there border overlaid =
    let held : AreHeld (Before c g b 0) (Escapes c g) s = one_unit file board g c s b 0 accepted code is there in
    record {
      regs = λ k live.
          value_free these (Before c g b 0 k) (Escapes c g) (λ o one escapes. (overlaid o one).kept_out escapes) (value s.regs k)
          (λ o one may. (overlaid o one).free (record { block = b; register = k; border = border; is_live = live b 0 there; holds = may }))
          (held.regs k);
      fixed = λ a.
          cell_free these (Escapes c g) (Escapes c g) (λ o one escapes. (overlaid o one).kept_out escapes) (s.fixed a) (held.fixed a);
      cells = λ o i.
          cell_free these (Escapes c g) (Escapes c g) (λ n one escapes. (overlaid n one).kept_out escapes) (s.cells o i) (held.cells o i);
    }
