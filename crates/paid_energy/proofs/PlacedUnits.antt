-- What the words of a unit cost in a result, with those that lead home from behind it: as they are counted by its block.
use Rattle.std.proofs.Common.{◌≡◌, ◌∙◌, ◌⊎◌, inl, inr, ℕ, ◌+◌, ◌*◌, ◌<◌, ◌≤◌, Bool, true, false, not, ◌&&◌, if◌then◌else◌, List, [], ◌∷◌, length, Some, refl, sym, ap, subst, arith, ℤ}
use Rattle.std.specs.Prelude.{All, Contains}
use Rattle.std.proofs.lemmas.List.Elements.{All-nil, All-cons}
use Rattle.rv32im.specs.Acts.{Registers}
use Rattle.rv32im.specs.Table.{Means}
use Rattle.rv32im.specs.declared.instructions.Instr.TheVariants as instr
use Rattle.rv32im.proofs.Meaning.{same_instruction}
use Rattle.elf_reader.specs.File.{PlainView}
use Rattle.loaded_file.specs.Code.{image_word}
use Rattle.board_config.specs.declared.board.Board.{Board}
use Rattle.flat_machine.specs.Lines.{words_from}
use Rattle.object_graph.specs.declared.parts.Graph.{Graph}
use Rattle.code_blocks.specs.Leaders.{is_call_pair}
use Rattle.code_blocks.specs.Numbers.{end_at}
use Rattle.code_blocks.specs.declared.parts.Code.{Code}
use Rattle.code_blocks.specs.declared.ends.End.{End}
use Rattle.block_splitter.specs.declared.unit_kind.UnitKind.{UnitKind}
use Rattle.block_splitter.specs.declared.unit_kind.UnitKind.TheVariants.{Plain, Upper, Branch, Jump, Call, Tail, Indirect, Linking, Halt}
use Rattle.block_splitter.specs.Forms.{Body, body_at, unit_in, is_last, is_site, kind_of, holds_block, copy_size, fall_out_size, displaced_words, displaced_size}
use Rattle.block_splitter.specs.Copies.{Copy, is_inside, kind_in, place_of, address_of}
use Rattle.result_laws.specs.Kinds.{takes}
use Rattle.result_laws.specs.Copied.{unit_words}
use Rattle.result_laws.proofs.Setting.{setting}
use Rattle.result_laws.proofs.CopiedUnits.{held_below}
use Rattle.result_laws.proofs.Counts.{runs_count}
use Rattle.result_laws.specs.CopyLaws.{IsCopyOf, falls_to, place_behind, is_branch_kind, unit_at}
use Rattle.result_laws.proofs.FirstUnits.{Halts}
use Rattle.result_laws.proofs.KindFacts.{CallsBack, IsKindBy, FallsLast, kinds_so}
use Rattle.result_laws.proofs.Places.{unit_fits, block_fits}
use Rattle.relink_core.proofs.ServingMade.{displaced_count as displaced_length}
use Rattle.patch_code.specs.Served.{body_at as stub_body}
use Rattle.patch_code.specs.Serving.{ServingStub}
use Rattle.energy_model.specs.Energy.{Scene, words_in_piece}
use Rattle.result_laws.specs.LiveUnits.{StandsThere}
use Rattle.result_laws.specs.ChosenPlacement.{ChosenPlacement, piece_of, copy_in}
use Rattle.result_laws.specs.PlacedView.{IsUncopied, Serves}
use Rattle.result_laws.specs.PlacedLaws.{IsPlacedResult}
use Rattle.result_laws.specs.Walks.{own_fetched}
use Rattle.result_laws.proofs.PlacedChosen.{piece_chosen}
use Rattle.result_laws.proofs.CopyWays as ways
use Rattle.result_laws.proofs.Standing.{copy_inside}
use Rattle.result_laws.proofs.StubWords as stubs
use Rattle.paid_energy.specs.Costs.{is_fast}
use Rattle.paid_energy.proofs.CostLemmas.{fetches_cost}
use Rattle.paid_energy.specs.Leading.{GoesAs, falls_behind}
use Rattle.paid_energy.specs.CountedWalks.{leaving_stub}
use Rattle.paid_energy.specs.WalkCosts.{placed_scene}
use Rattle.paid_energy.proofs.CodeFacts.{unit_facts}
use Rattle.paid_energy.proofs.Fetching.{slow_fetches, fast_fetches, from_each}
use Rattle.paid_energy.proofs.HomePrices.{IsSlow}
use Rattle.paid_energy.proofs.PlacedPrices.{patch_slow}
use Rattle.paid_energy.proofs.KindEnds.{is_last_place, body_ends}
use Rattle.paid_energy.proofs.UnitCounts.{IsNoHalt, copied_count, displaced_count}

-- ---- kinds

no_halt : (v : PlainView) (c : Code) (site : ℕ → Bool) (a : ℕ) (F : Type 0) (kind : UnitKind) → IsKindBy v c site a F ⊥ kind → IsNoHalt kind
no_halt v c site a F Halt is = is
no_halt v c site a F Plain is = tt
no_halt v c site a F (Upper rd value) is = tt
no_halt v c site a F (Branch kind rs1 rs2 target) is = tt
no_halt v c site a F (Jump target) is = tt
no_halt v c site a F (Call target back link) is = tt
no_halt v c site a F (Tail target register) is = tt
no_halt v c site a F Indirect is = tt
no_halt v c site a F (Linking back link base imm) is = tt

branch_falls : (v : PlainView) (c : Code) (site : ℕ → Bool) (a : ℕ) (F H : Type 0) (kind : UnitKind) → IsKindBy v c site a F H kind → is_branch_kind kind ≡ true → F
branch_falls v c site a F H (Branch kind rs1 rs2 target) is branch = is.1.1.1.1
branch_falls v c site a F H Halt is branch = absurd (cc)
branch_falls v c site a F H Plain is branch = absurd (cc)
branch_falls v c site a F H (Upper rd value) is branch = absurd (cc)
branch_falls v c site a F H (Jump target) is branch = absurd (cc)
branch_falls v c site a F H (Call target back link) is branch = absurd (cc)
branch_falls v c site a F H (Tail target register) is branch = absurd (cc)
branch_falls v c site a F H Indirect is branch = absurd (cc)
branch_falls v c site a F H (Linking back link base imm) is branch = absurd (cc)

-- an environment call is a plain unit
abbrev IsOne : UnitKind → Type 0
IsOne Plain = Prim.Unit {0}
IsOne Halt = Prim.Unit {0}
IsOne other = ⊥

calls_not : (v : PlainView) (a target back link : ℕ) → CallsBack v a target back link ⊎ ((off : ℤ) × ((is_call_pair v a ≡ false) × Means (image_word v a) (instr.Jal link off))) → is_call_pair v a ≡ false → Means (image_word v a) instr.Ecall → ⊥
calls_not v a target back link (inl pair) single call = let two = pair.pair in cc
calls_not v a target back link (inr jump) single call =
    let same = same_instruction (image_word v a) (instr.Jal link jump.0) instr.Ecall jump.1.1 call in cc

pub call_one : (v : PlainView) (c : Code) (site : ℕ → Bool) (a : ℕ) (F H : Type 0) (kind : UnitKind) → IsKindBy v c site a F H kind → is_call_pair v a ≡ false → Means (image_word v a) instr.Ecall → IsOne kind
call_one v c site a F H Plain is single call = tt
call_one v c site a F H Halt is single call = tt
call_one v c site a F H (Upper rd value) is single call = let same = same_instruction (image_word v a) (instr.Auipc rd is.0) instr.Ecall is.1.1.0 call in absurd (cc (same))
call_one v c site a F H (Branch kind rs1 rs2 target) is single call =
    let same = same_instruction (image_word v a) (instr.Branch kind rs1 rs2 is.0) instr.Ecall is.1.1.0 call in absurd (cc (same))
call_one v c site a F H (Jump target) is single call = let same = same_instruction (image_word v a) (instr.Jal 0 is.0) instr.Ecall is.1.1.0 call in absurd (cc (same))
call_one v c site a F H (Call target back link) is single call = absurd (calls_not v a target back link is.1 single call)
call_one v c site a F H (Tail target register) is single call = let pair = is.0 in absurd (cc (pair))
call_one v c site a F H Indirect is single call =
    let same = same_instruction (image_word v a) (instr.Jalr 0 is.0 is.1.0) instr.Ecall is.1.1.1 call in absurd (cc (same))
call_one v c site a F H (Linking back link base imm) is single call =
    let same = same_instruction (image_word v a) (instr.Jalr link base imm) instr.Ecall is.1 call in absurd (cc (same))

pub copied_one : (inside : ℕ → Bool) (taken : Bool) (kind : UnitKind) → IsOne kind → unit_words inside taken kind ≡ 1
copied_one inside taken Plain is = refl
copied_one inside taken Halt is = refl
copied_one inside taken other is = absurd is

pub displaced_one : (at : ℕ) (taken : Bool) (kind : UnitKind) → IsOne kind → length (own_fetched at taken kind) ≡ 1
displaced_one at taken Plain is = refl
displaced_one at taken Halt is = refl
displaced_one at taken other is = absurd is

-- ---- displaced units

-- the address of a word that stands there
abbrev InWords : ℕ → ℕ → ℕ → Type 0
InWords at n a = (i : ℕ) × ((i < n) × (at + 4 * i ≡ a))

word_there : (at n i a : ℕ) → i < n → at + 4 * i ≡ a → InWords at n a
word_there at n i a below is = (i, (below, is))

branch_word : (at : ℕ) (taken : Bool) → InWords at 3 (if taken then at + 8 else at + 4)
branch_word at true = word_there at 3 2 (at + 8) (omega arith) (omega arith)
branch_word at false = word_there at 3 1 (at + 4) (omega arith) (omega arith)

own_each : (at : ℕ) (taken : Bool) (kind : UnitKind) → All (InWords at (displaced_size kind)) (own_fetched at taken kind)
own_each at taken Plain = All-cons (InWords at 2) at [] (word_there at 2 0 at (omega arith) (omega arith)) (All-nil (InWords at 2))
own_each at taken (Branch kind rs1 rs2 target) =
    All-cons (InWords at 3) at ((if taken then at + 8 else at + 4) ∷ []) (word_there at 3 0 at (omega arith) (omega arith))
    (All-cons (InWords at 3) (if taken then at + 8 else at + 4) [] (branch_word at taken) (All-nil (InWords at 3)))
own_each at taken kind =
    from_each (InWords at (displaced_size kind)) at (displaced_size kind) (λ i below. word_there at (displaced_size kind) i (at + 4 * i) below refl)

leaving_each : (at : ℕ) (kind : UnitKind) → All (InWords at (displaced_size kind)) (leaving_stub at kind)
leaving_each at Plain = All-cons (InWords at 2) (at + 4) [] (word_there at 2 1 (at + 4) (omega arith) (omega arith)) (All-nil (InWords at 2))
leaving_each at kind = All-nil (InWords at (displaced_size kind))

-- ---- in a copy

words_least : (inside : ℕ → Bool) (taken : Bool) (kind : UnitKind) → unit_words inside taken kind ≤ copy_size inside kind
words_least inside taken (Branch kind rs1 rs2 target) = by taken (inside target)
  where
    by : (t i : Bool) → (if t && not i then 3 else 1) ≤ (if i then 1 else 3)
    by true true = omega arith
    by true false = omega arith
    by false true = omega arith
    by false false = omega arith
words_least inside taken kind = omega arith

-- some words, or none
some_cost : (board : Board) (some : Bool) (xs : List ℕ) (n f : ℕ) → fetches_cost board xs ≡ n * f → fetches_cost board (if some then xs else []) ≡ (if some then n else 0) * f
some_cost board true xs n f is = is
some_cost board false xs n f is = omega arith

module _ (file out : List ℕ) (board : Board) (g : Graph) (c : Code) (pl : ChosenPlacement) (result : IsPlacedResult file out board g c pl) where
  open (setting file out board g c pl result) use {v, plan}

  abbrev w : Scene
  w = placed_scene board g c pl

  abbrev fetch : ℕ
  fetch = board.prices.main_fetch

  abbrev fast : ℕ
  fast = board.prices.spm_fetch

  module _ (n : ℕ) (inside : n < length pl.pieces) (b : ℕ) (held : holds_block b (piece_of pl n).range ≡ true) where
    abbrev x : Copy
    x = copy_in c g pl n

    abbrev body : Body
    body = body_at c.blocks.items b

    abbrev words : List ℕ
    words = (piece_of pl n).words

    copied : IsCopyOf v x words (piece_of pl n).starts
    copied = ways.is_copy file out board g c pl result n inside

    below : b < length c.blocks.items
    below = held_below v x words (piece_of pl n).starts b copied held

    -- words of the copy are fetched from the scratchpad
    fast_from : (place size : ℕ) → place + size ≤ length words → fetches_cost board (words_from (address_of x place) size) ≡ size * fast
    fast_from place size fits =
        fast_fetches board (words_from (address_of x place) size)
        (from_each (λ (a : ℕ). is_fast board a ≡ true) (address_of x place) size
        (λ i small.
        let at : x.at + (4 * place + 4 * i) ≡ x.at + 4 * place + 4 * i = omega arith in
        subst (λ (a : ℕ). is_fast board a ≡ true) at
        (copy_inside file out board g c pl result n inside (4 * place + 4 * i) (omega (arith, fits, small)))))
        ∙ ap (λ (m : ℕ). m * fast) (runs_count.fetched (address_of x place) size)

    behind_fits : place_behind x b + fall_out_size (is_inside x) (end_at c b) ≤ length words
    behind_fits =
        let whole = block_fits x b held below in
        let count = copied.copy.count in
        let last = ap (fall_out_size (is_inside x)) (body_ends c.blocks.items b) in
        omega (arith, whole, count, last)

    module _ (u k : ℕ) (there : StandsThere c u b k) where
      abbrev kind : UnitKind
      kind = kind_in x b k

      counted : k < length body.units
      counted = let counts = ways.unit_count file out board g c pl result n inside b in let is = there.is in omega (arith, counts, is)

      at : (unit_at c b k).at ≡ u
      at = (unit_facts file board g c result.accepted result.code u b k there).at

      kind_is : IsKindBy v c (is_site g) (unit_at c b k).at (FallsLast c b k) ⊥ kind
      kind_is = kinds_so v c (is_site g) b k result.code below ((piece_chosen file out board g c pl result n inside).copied.blocks b held) counted

      unit_fits_there : (taken : Bool) → place_of x b k + unit_words (is_inside x) taken kind ≤ length words
      unit_fits_there taken =
          let whole = unit_fits x b k held below counted in
          let least = words_least (is_inside x) taken kind in
          let count = copied.copy.count in
          omega (arith, whole, least, count)

      falls_there : is_last body k ≡ true → is_branch_kind kind ≡ true → falls_to body.end ≡ Some (u + 4)
      falls_there last branch =
          ap falls_to (body_ends c.blocks.items b)
          ∙ (branch_falls v c (is_site g) (unit_at c b k).at (FallsLast c b k) ⊥ kind kind_is branch (is_last_place k (length body.units) last)
          ∙ ap (λ (a : ℕ). Some (a + 4)) at)

      -- a unit from which the program goes on, with what is behind its block
      pub copy_row : (regs : Registers) (next : ℕ) → GoesAs kind regs (u + 4) next → fetches_cost board (words_from (address_of x (place_of x b k)) (unit_words (is_inside x) (takes kind regs) kind)) + fetches_cost board (if is_last body k && falls_behind (takes kind regs) (end_at c b) then words_from (address_of x (place_behind x b)) (fall_out_size (is_inside x) (end_at c b)) else []) ≡ words_in_piece w (piece_of pl n).range body k next * fast
      copy_row regs next goes =
          let taken : Bool = takes kind regs in
          let own = fast_from (place_of x b k) (unit_words (is_inside x) taken kind) (unit_fits_there taken) in
          let last : Bool = is_last body k in
          let behind =
          some_cost board (last && falls_behind taken (end_at c b)) (words_from (address_of x (place_behind x b)) (fall_out_size (is_inside x) (end_at c b)))
          (fall_out_size (is_inside x) (end_at c b)) fast (fast_from (place_behind x b) (fall_out_size (is_inside x) (end_at c b)) behind_fits) in
          let ends : (if last && falls_behind taken (end_at c b) then fall_out_size (is_inside x) (end_at c b) else 0) ≡ (if last && falls_behind taken body.end then fall_out_size (is_inside x) body.end else 0) =
          ap (λ (e : End). if last && falls_behind taken e then fall_out_size (is_inside x) e else 0) (sym (body_ends c.blocks.items b)) in
          let count =
          copied_count (is_inside x) regs next (u + 4) (is_site g) (unit_in body k) last body.end
          (no_halt v c (is_site g) (unit_at c b k).at (FallsLast c b k) kind kind_is) goes falls_there in
          let sum : (unit_words (is_inside x) taken kind + (if last && falls_behind taken (end_at c b) then fall_out_size (is_inside x) (end_at c b) else 0)) * fast ≡ unit_words (is_inside x) taken kind * fast + (if last && falls_behind taken (end_at c b) then fall_out_size (is_inside x) (end_at c b) else 0) * fast = grind arith in
          let all : unit_words (is_inside x) taken kind + (if last && falls_behind taken (end_at c b) then fall_out_size (is_inside x) (end_at c b) else 0) ≡ words_in_piece w (piece_of pl n).range body k next =
          ap (λ (m : ℕ). unit_words (is_inside x) taken kind + m) ends ∙ count in
          let paid = ap (λ (m : ℕ). m * fast) all in
          omega (arith, own, behind, sum, paid)

      -- one at which it exits
      pub copy_last : (regs : Registers) → is_call_pair v u ≡ false → Means (image_word v u) instr.Ecall → fetches_cost board (words_from (address_of x (place_of x b k)) (unit_words (is_inside x) (takes kind regs) kind)) ≡ fast
      copy_last regs single call =
          let taken : Bool = takes kind regs in
          let own = fast_from (place_of x b k) (unit_words (is_inside x) taken kind) (unit_fits_there taken) in
          let one =
          copied_one (is_inside x) taken kind
          (call_one v c (is_site g) (unit_at c b k).at (FallsLast c b k) ⊥ kind kind_is (subst (λ (a : ℕ). is_call_pair v a ≡ false) (sym at) single)
          (subst (λ (a : ℕ). Means (image_word v a) instr.Ecall) (sym at) call)) in
          let paid = ap (λ (m : ℕ). m * fast) one in
          omega (arith, own, paid)

  -- ---- in a stub

  module _ (u b : ℕ) (stub : ServingStub) (there : StandsThere c u b 0) (listed : Contains plan.stubs stub) (serves : Serves c g pl (stub_body plan stub) b stub) (uncopied : IsUncopied pl b) where
    abbrev place : ℕ
    place = stub_body plan stub

    abbrev stub_kind : UnitKind
    stub_kind = kind_of (is_site g) (body_at c.blocks.items b) 0

    stand : length (stubs.words file out board g c pl result u b stub there listed serves uncopied) ≡ displaced_size stub_kind
    stand =
        displaced_length pl.sites place (unit_at c b 0) stub_kind (stubs.words file out board g c pl result u b stub there listed serves uncopied)
        (stubs.has_words file out board g c pl result u b stub there listed serves uncopied).form

    word_slow : (a : ℕ) → InWords place (displaced_size stub_kind) a → IsSlow board a
    word_slow a (i, (small, is)) =
        let count = stand in
        subst (IsSlow board) is
        (patch_slow file out board g c pl result (place + 4 * i)
        (stubs.inside_patch file out board g c pl result u b stub there listed serves uncopied (4 * i) (omega (arith, count, small))))

    all_slow : (xs : List ℕ) → All (InWords place (displaced_size stub_kind)) xs → fetches_cost board xs ≡ length xs * fetch
    all_slow xs each = slow_fetches board xs (λ k d small. word_slow _ (each k d small))

    pub stub_row : (taken : Bool) → fetches_cost board (own_fetched place taken stub_kind) + fetches_cost board (leaving_stub place stub_kind) ≡ displaced_words stub_kind * fetch
    stub_row taken =
        let own = all_slow (own_fetched place taken stub_kind) (own_each place taken stub_kind) in
        let leaving = all_slow (leaving_stub place stub_kind) (leaving_each place stub_kind) in
        let count = displaced_count place taken stub_kind in
        let sum : (length (own_fetched place taken stub_kind) + length (leaving_stub place stub_kind)) * fetch ≡ length (own_fetched place taken stub_kind) * fetch + length (leaving_stub place stub_kind) * fetch = grind arith in
        let paid = ap (λ (m : ℕ). m * fetch) count in
        omega (arith, own, leaving, sum, paid)

    pub stub_last : (taken : Bool) → is_call_pair v u ≡ false → Means (image_word v u) instr.Ecall → fetches_cost board (own_fetched place taken stub_kind) ≡ fetch
    stub_last taken single call =
        let own = all_slow (own_fetched place taken stub_kind) (own_each place taken stub_kind) in
        let one =
        displaced_one place taken stub_kind
        (call_one v c (is_site g) u (Prim.Unit {0}) (Halts v u) stub_kind (stubs.kind_is file out board g c pl result u b stub there listed serves uncopied) single call) in
        let paid = ap (λ (m : ℕ). m * fetch) one in
        omega (arith, own, paid)
