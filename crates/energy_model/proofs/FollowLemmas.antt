-- The units of a block follow one another: each transition is of the unit behind that of the transition before, and another
-- block begins just where a block has run whole.
use Rattle.std.proofs.Common.{◌≡◌, ◌∙◌, inl, inr, ℕ, zero, suc, ◌+◌, ◌-◌, ◌*◌, ◌<◌, ◌≤◌, ◌==◌, true, false, List, [], ◌∷◌, length, map, slice_index_or, Option, refl, sym, ap, subst, arith}
use Rattle.std.proofs.lemmas.Bool.{cases_eq, cases_lt}
use Rattle.std.proofs.lemmas.Bool.Decides.{nat_tests}
use Rattle.std.proofs.lemmas.List.{length-map, get_or-map}
use Rattle.rv32im.specs.declared.instructions.Instr.{Instr}
use Rattle.elf_reader.specs.File.{PlainView, plain_view}
use Rattle.elf_reader.specs.declared.view.ElfView.{ElfView}
use Rattle.board_config.specs.declared.board.Board.{Board}
use Rattle.loaded_file.specs.Code.{is_code_word, image_word}
use Rattle.loaded_file.specs.Read.{IsRead}
use Rattle.object_graph.specs.declared.parts.Graph.{Graph}
use Rattle.code_blocks.specs.Early.{has}
use Rattle.code_blocks.specs.Leaders.{is_leader}
use Rattle.code_blocks.proofs.LeaderLemmas.{leader_is_code, indirect_is_leader}
use Rattle.code_blocks.proofs.SearchLemmas.{has_at}
use Rattle.code_blocks.specs.Blocks.{start_of, IsBlock, IsCode}
use Rattle.code_blocks.specs.declared.parts.Block.{Block}
use Rattle.code_blocks.specs.declared.parts.Function.{Function}
use Rattle.code_blocks.specs.declared.parts.Code.{Code}
use Rattle.object_machine.specs.declared.events.Outcome.{Outcome}
use Rattle.object_machine.specs.declared.events.Outcome.TheVariants.{GoesOn, Exited, Trapped, AddressFault}
use Rattle.object_machine.specs.Program.{program_of, falls_from}
use Rattle.object_machine.specs.State.{SourceState}
use Rattle.object_machine.specs.Step.{Reads, next_state}
use Rattle.object_machine.proofs.RangeLemmas.{read_ranges}
use Rattle.object_machine.proofs.BlockLemmas.{nth_unit, unit_count, some_units}
use Rattle.object_machine.proofs.FollowLemmas.{goes_further, straight_on, goes_inside, falls_out, leads_next, leads_block, is_true_false, cases_bool}
use Rattle.profile_runner.specs.Transition.{Transition, is_going, transition_at}
use Rattle.profile_runner.specs.Standing.{number_of, block_of, units_run}
use Rattle.object_machine.proofs.LeadLemmas.{straight, next_leads}
use Rattle.block_splitter.specs.Forms.{Body, body_of, no_body, body_at}
use Rattle.energy_model.proofs.StepLemmas.{StepAt}

-- ---- the number of a start

pub number_found : (xs : List ℕ) (a d : ℕ) → has xs a ≡ true → (number_of xs a < length xs) × (slice_index_or xs (number_of xs a) d ≡ a)
number_found [] a d found = cc
number_found (x ∷ xs) a d found =
    elim (cases_eq x a) [
      | inl same ↦ let test : (x == a) ≡ true = grind (arith, nat_tests, same) in rw test (omega arith, same)
      | inr differs ↦
          let test : (x == a) ≡ false = grind (arith, nat_tests, differs) in
          let other : (a == x) ≡ false = grind (arith, nat_tests, differs) in
          let rest : has xs a ≡ true = rw other at found in
          let (below, at) = number_found xs a d rest in
          rw test (omega (arith, below), at)
    ]

-- ---- the transitions of a run in the blocks of its code

pub record IsRunIn (view : ElfView) (board : Board) (g : Graph) (c : Code) (ms : List Transition) : Type 0 where
  pub read : IsRead view
  pub code : IsCode (plain_view view) c
  pub steps : (i : ℕ) → i < length ms → StepAt (program_of (plain_view view) board g) ms i
  pub first : 0 < length ms → is_leader (plain_view view) (transition_at ms 0).at ≡ true

-- transition `i` is of the unit at this place of its block
pub record IsPlaced (c : Code) (ms : List Transition) (i place : ℕ) : Type 0 where
  pub inside : block_of (map start_of c.blocks.items) ms i < length c.blocks.items
  pub run : units_run (map start_of c.blocks.items) ms i ≡ suc place
  pub below : (d : Block) → place < length (slice_index_or c.blocks.items (block_of (map start_of c.blocks.items) ms i) d).units.items
  pub at : (d : Block) → (transition_at ms i).at ≡ (slice_index_or c.blocks.items (block_of (map start_of c.blocks.items) ms i) d).start + 4 * place

-- the starts of blocks are leaders, and the other way round
start_leads : (v : PlainView) (c : Code) (b : ℕ) (d : Block) → IsCode v c → b < length c.blocks.items → is_leader v (slice_index_or c.blocks.items b d).start ≡ true
start_leads v c b d code below =
    let a = (slice_index_or c.blocks.items b d).start in
    let count = length-map c.blocks.items start_of in
    let there : slice_index_or (map start_of c.blocks.items) b a ≡ a = get_or-map start_of c.blocks.items b d a below in
    sym (code.leaders a) ∙ has_at (map start_of c.blocks.items) a b (omega (arith, count, below)) there

-- a transition with which a block begins is of its first unit
placed_first : (view : ElfView) (board : Board) (g : Graph) (c : Code) (ms : List Transition) (i : ℕ) → IsRunIn view board g c ms → has (map start_of c.blocks.items) (transition_at ms i).at ≡ true → block_of (map start_of c.blocks.items) ms i ≡ number_of (map start_of c.blocks.items) (transition_at ms i).at → units_run (map start_of c.blocks.items) ms i ≡ 1 → IsPlaced c ms i 0
placed_first view board g c ms i r begun block units =
    let v = plain_view view in
    let starts = map start_of c.blocks.items in
    let a = (transition_at ms i).at in
    let count = length-map c.blocks.items start_of in
    let found = number_found starts a 0 begun in
    let b = block_of starts ms i in
    let below : b < length c.blocks.items = let less = found.0 in omega (arith, block, less, count) in
    let at : (d : Block) → (slice_index_or c.blocks.items b d).start ≡ a = λ d.
    sym (get_or-map start_of c.blocks.items b d 0 below) ∙ (ap (λ k. slice_index_or starts k 0) block ∙ found.1) in
    record {
      inside = below;
      run = units;
      below = λ d. some_units v (slice_index_or c.blocks.items b d) c.functions.items (read_ranges view r.read) (leader_is_code v (slice_index_or c.blocks.items b d).start (start_leads v c b d r.code below)) (r.code.blocks b d below);
      at = λ d. let here = at d in omega (arith, here);
    }

-- ---- from a transition to the next

abbrev StepOf : ElfView → Board → Graph → List Transition → ℕ → Type 0
StepOf view board g ms i = StepAt (program_of (plain_view view) board g) ms i

at_pc : (view : ElfView) (board : Board) (g : Graph) (ms : List Transition) (i : ℕ) (step : StepOf view board g ms i) → (transition_at ms i).at ≡ step.state.pc
at_pc view board g ms i step = ap (λ (m : Transition). m.at) step.transition

-- what is known of the step of a transition that another follows
pub record Advances (view : ElfView) (board : Board) (g : Graph) (a next : ℕ) (read : Option Instr) : Type 0 where
  pub reads : Reads (image_word (plain_view view) a) read
  pub straight_next : straight (program_of (plain_view view) board g) a read ≡ true → (next ≡ a + 4) × (falls_from (plain_view view) a ≡ true)
  pub jump_next : straight (program_of (plain_view view) board g) a read ≡ false → is_leader (plain_view view) next ≡ true

advances_from : (view : ElfView) (board : Board) (g : Graph) (s : SourceState) (next : ℕ) (read : Option Instr) → Reads (image_word (plain_view view) s.pc) read → (next_state (program_of (plain_view view) board g) s read).outcome ≡ GoesOn → (next_state (program_of (plain_view view) board g) s read).pc ≡ next → Advances view board g s.pc next read
advances_from view board g s next read reads going at =
    let v = plain_view view in
    let p = program_of v board g in
    let t = next_state p s read in
    let leads = next_leads p s read (indirect_is_leader v) in
    record {
      reads = reads;
      straight_next = λ on. let (same, falls) = leads_next p s t (straight p s.pc read) on going leads in (sym at ∙ same, falls);
      jump_next = λ off. subst (λ x. is_leader v x ≡ true) at (leads_block p s t (straight p s.pc read) off going leads);
    }

advances : (view : ElfView) (board : Board) (g : Graph) (ms : List Transition) (i a : ℕ) (step : StepOf view board g ms i) → (transition_at ms i).at ≡ a → suc i < length ms → Advances view board g a (transition_at ms (suc i)).at step.read
advances view board g ms i a step at more =
    let here : step.state.pc ≡ a = sym (at_pc view board g ms i step) ∙ at in
    subst (λ x. Advances view board g x (transition_at ms (suc i)).at step.read) here
    (advances_from view board g step.state (transition_at ms (suc i)).at step.read step.meant (step.goes_on more) (step.next more))

going_outcome : (o : Outcome) → is_going o ≡ true → o ≡ GoesOn
going_outcome GoesOn going = refl
going_outcome (Exited code) going = cc
going_outcome (Trapped pc) going = cc
going_outcome (AddressFault pc why) going = cc

-- the same of a transition that goes on, also of the last
advances_going : (view : ElfView) (board : Board) (g : Graph) (ms : List Transition) (i a : ℕ) (step : StepOf view board g ms i) → (transition_at ms i).at ≡ a → (transition_at ms i).goes_on ≡ true → Advances view board g a (transition_at ms i).next step.read
advances_going view board g ms i a step at goes =
    let here : step.state.pc ≡ a = sym (at_pc view board g ms i step) ∙ at in
    let outcome = going_outcome (next_state (program_of (plain_view view) board g) step.state step.read).outcome (sym (ap (λ (m : Transition). m.goes_on) step.transition) ∙ goes) in
    subst (λ x. Advances view board g x (transition_at ms i).next step.read) here
    (advances_from view board g step.state (transition_at ms i).next step.read step.meant outcome (sym (ap (λ (m : Transition). m.next) step.transition)))

-- a block that goes on with the next transition has another unit there
more_units : (view : ElfView) (board : Board) (g : Graph) (b : Block) (functions : List Function) (k next : ℕ) (read : Option Instr) → IsRead view → is_code_word (plain_view view) b.start ≡ true → IsBlock (plain_view view) functions b → k < length b.units.items → Advances view board g (b.start + 4 * k) next read → is_leader (plain_view view) next ≡ false → (suc k < length b.units.items) × (next ≡ b.start + 4 * suc k)
more_units view board g b functions k next read is_read code block below advance none =
    let v = plain_view view in
    let p = program_of v board g in
    let a = b.start + 4 * k in
    elim (cases_bool (straight p a read)) [
      | inr off ↦ absurd (is_true_false (is_leader v next) (advance.jump_next off) none)
      | inl on ↦
          let (same, falls) = advance.straight_next on in
          let at : next ≡ b.start + 4 * suc k = omega (arith, same) in
          elim (cases_lt (suc k) (length b.units.items)) [
            | inl more ↦ (more, at)
            | inr all ↦
                let last : suc k ≡ length b.units.items = omega (arith, all, below) in
                let leads = falls_out v board g b functions k read (read_ranges view is_read) code block last advance.reads on falls in
                absurd (is_true_false (is_leader v next) (subst (λ x. is_leader v x ≡ true) (sym same) leads) none)
          ]
    ]

-- another block begins only behind the last unit
last_unit : (view : ElfView) (board : Board) (g : Graph) (b : Block) (functions : List Function) (k next : ℕ) (read : Option Instr) → IsBlock (plain_view view) functions b → k < length b.units.items → Advances view board g (b.start + 4 * k) next read → is_leader (plain_view view) next ≡ true → suc k ≡ length b.units.items
last_unit view board g b functions k next read block below advance leads =
    let v = plain_view view in
    let a = b.start + 4 * k in
    elim (cases_lt (suc k) (length b.units.items)) [
      | inr all ↦ omega (arith, all, below)
      | inl more ↦
          let on = goes_inside v b functions k block more in
          let (same, falls) = advance.straight_next (straight_on v board g a read advance.reads on) in
          let behind = (goes_further v a on).behind in
          absurd (is_true_false (is_leader v (a + 4)) (subst (λ x. is_leader v x ≡ true) same leads) behind)
    ]

placed_more : (view : ElfView) (board : Board) (g : Graph) (c : Code) (ms : List Transition) (i place : ℕ) → IsRunIn view board g c ms → IsPlaced c ms i place → suc i < length ms → has (map start_of c.blocks.items) (transition_at ms (suc i)).at ≡ false → IsPlaced c ms (suc i) (suc place)
placed_more view board g c ms i place r placed more none =
    let v = plain_view view in
    let starts = map start_of c.blocks.items in
    let b = block_of starts ms i in
    let same : block_of starts ms (suc i) ≡ b = rw none refl in
    let step = r.steps i (omega (arith, more)) in
    let no_leader : is_leader v (transition_at ms (suc i)).at ≡ false = sym (r.code.leaders (transition_at ms (suc i)).at) ∙ none in
    let next = λ (d : Block).
    more_units view board g (slice_index_or c.blocks.items b d) c.functions.items place (transition_at ms (suc i)).at step.read r.read
    (leader_is_code v (slice_index_or c.blocks.items b d).start (start_leads v c b d r.code placed.inside))
    (r.code.blocks b d placed.inside) (placed.below d)
    (advances view board g ms i ((slice_index_or c.blocks.items b d).start + 4 * place) step (placed.at d) more) no_leader in
    let ran = placed.run in
    record {
      inside = subst (λ k. k < length c.blocks.items) (sym same) placed.inside;
      run = rw none (ap suc ran);
      below = λ d. subst (λ k. suc place < length (slice_index_or c.blocks.items k d).units.items) (sym same) (next d).0;
      at = λ d. subst (λ k. (transition_at ms (suc i)).at ≡ (slice_index_or c.blocks.items k d).start + 4 * suc place) (sym same) (next d).1;
    }

pub placed : (view : ElfView) (board : Board) (g : Graph) (c : Code) (ms : List Transition) (i : ℕ) → IsRunIn view board g c ms → i < length ms → (place : ℕ) × IsPlaced c ms i place
placed view board g c ms zero r below =
    let v = plain_view view in
    (0, placed_first view board g c ms 0 r (r.code.leaders (transition_at ms 0).at ∙ r.first below) refl refl)
placed view board g c ms (suc i) r below =
    let starts = map start_of c.blocks.items in
    elim (cases_bool (has starts (transition_at ms (suc i)).at)) [
      | inl begun ↦ (0, placed_first view board g c ms (suc i) r begun (rw begun refl) (rw begun refl))
      | inr none ↦
          let (place, before) = placed view board g c ms i r (omega (arith, below)) in
          (suc place, placed_more view board g c ms i place r before below none)
    ]

pub whole : (view : ElfView) (board : Board) (g : Graph) (c : Code) (ms : List Transition) (i place : ℕ) (d : Block) → IsRunIn view board g c ms → IsPlaced c ms i place → suc i < length ms → has (map start_of c.blocks.items) (transition_at ms (suc i)).at ≡ true → suc place ≡ length (slice_index_or c.blocks.items (block_of (map start_of c.blocks.items) ms i) d).units.items
whole view board g c ms i place d r placed more begun =
    let v = plain_view view in
    let b = block_of (map start_of c.blocks.items) ms i in
    let step = r.steps i (omega (arith, more)) in
    last_unit view board g (slice_index_or c.blocks.items b d) c.functions.items place (transition_at ms (suc i)).at step.read
    (r.code.blocks b d placed.inside) (placed.below d)
    (advances view board g ms i ((slice_index_or c.blocks.items b d).start + 4 * place) step (placed.at d) more)
    (sym (r.code.leaders (transition_at ms (suc i)).at) ∙ begun)

-- a transition that goes on leads to a block exactly behind the last unit of its own
pub leads_behind : (view : ElfView) (board : Board) (g : Graph) (c : Code) (ms : List Transition) (i place : ℕ) (d : Block) → IsRunIn view board g c ms → IsPlaced c ms i place → i < length ms → (transition_at ms i).goes_on ≡ true → has (map start_of c.blocks.items) (transition_at ms i).next ≡ (suc place == length (slice_index_or c.blocks.items (block_of (map start_of c.blocks.items) ms i) d).units.items)
leads_behind view board g c ms i place d r placed below goes =
    let v = plain_view view in
    let b = block_of (map start_of c.blocks.items) ms i in
    let block = slice_index_or c.blocks.items b d in
    let next = (transition_at ms i).next in
    let step = r.steps i below in
    let advance = advances_going view board g ms i (block.start + 4 * place) step (placed.at d) goes in
    let is_block = r.code.blocks b d placed.inside in
    elim (cases_bool (is_leader v next)) [
      | inl leads ↦
          let last = last_unit view board g block c.functions.items place next step.read is_block (placed.below d) advance leads in
          let test : (suc place == length block.units.items) ≡ true = grind (arith, nat_tests, last) in
          (r.code.leaders next ∙ leads) ∙ sym test
      | inr none ↦
          let more = more_units view board g block c.functions.items place next step.read r.read
          (leader_is_code v block.start (start_leads v c b d r.code placed.inside)) is_block (placed.below d) advance none in
          let before = more.0 in
          let test : (suc place == length block.units.items) ≡ false = grind (arith, nat_tests, before) in
          (r.code.leaders next ∙ none) ∙ sym test
    ]

-- a block has few units, since each has an address
pub few_units : (view : ElfView) (c : Code) (b : ℕ) (d : Block) → IsRead view → IsCode (plain_view view) c → b < length c.blocks.items → length (slice_index_or c.blocks.items b d).units.items ≤ 1073741824
few_units view c b d read code below =
    let v = plain_view view in
    let block = slice_index_or c.blocks.items b d in
    let n = length block.units.items in
    let is_block = code.blocks b d below in
    let starts = leader_is_code v block.start (start_leads v c b d code below) in
    let count = unit_count v block c.functions.items is_block in
    elim (cases_lt 0 n) [
      | inl some ↦
          let nth = nth_unit v block.start (n - 1) (read_ranges view read) starts (omega (arith, count, some)) in
          let ends = nth.below in
          omega (arith, ends, some)
      | inr none ↦ omega (arith, none)
    ]

block_there : (bs : List Block) (b : ℕ) → b < length bs → Block
block_there [] b below = absurd (omega (arith, below))
block_there (x ∷ bs) b below = x

-- a block has a unit
pub some_start : (view : ElfView) (c : Code) (b : ℕ) → IsRead view → IsCode (plain_view view) c → b < length c.blocks.items → 0 < length (body_at c.blocks.items b).units
some_start view c b read code below =
    let v = plain_view view in
    let d = block_there c.blocks.items b below in
    let block = slice_index_or c.blocks.items b d in
    let some = some_units v block c.functions.items (read_ranges view read) (leader_is_code v block.start (start_leads v c b d code below)) (code.blocks b d below) in
    let body : body_at c.blocks.items b ≡ body_of block = get_or-map body_of c.blocks.items b d no_body below in
    subst (λ (x : Body). 0 < length x.units) (sym body) some
