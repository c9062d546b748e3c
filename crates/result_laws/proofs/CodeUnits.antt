-- The units of a code: where they stand, and which one runs next.
use Rattle.std.proofs.Common.{◌≡◌, ◌∙◌, inl, inr, ℕ, zero, suc, ◌+◌, ◌-◌, ◌*◌, ◌<◌, nat_lt, Bool, true, false, if◌then◌else◌, List, [], ◌∷◌, length, map, slice_index_or, refl, sym, ap, subst, arith}
use Rattle.std.specs.List.{Contains}
use Rattle.std.proofs.lemmas.Bool.{cases_order}
use Rattle.std.proofs.lemmas.Bool.Decides.{nat_tests}
use Rattle.std.proofs.lemmas.List.{length-map}
use Rattle.elf_reader.specs.File.{PlainView, view_in}
use Rattle.elf_reader.proofs.SegmentLemmas.{none_of_headers, load_segments_disjoint}
use Rattle.board_config.specs.declared.board.Board.{Board}
use Rattle.object_graph.specs.declared.parts.Graph.{Graph}
use Rattle.code_blocks.specs.Leaders.{is_call_pair, is_leader, is_indirect}
use Rattle.code_blocks.proofs.LeaderLemmas.{leader_is_code, indirect_is_leader, right_passes}
use Rattle.code_blocks.proofs.PairLemmas.{pair_is_code}
use Rattle.code_blocks.proofs.SearchLemmas.{has_found}
use Rattle.code_blocks.specs.Blocks.{goes_on, start_of, unit_addresses, IsCode}
use Rattle.code_blocks.specs.Blocks as code_units
use Rattle.code_blocks.specs.Edges.{successors, is_indirect_end}
use Rattle.code_blocks.specs.Ends.{words_left, end_from}
use Rattle.code_blocks.specs.Numbers.{starts_of, start_at, end_at}
use Rattle.code_blocks.specs.Leads.{units_in, units_at, no_unit, IsBlockOf}
use Rattle.code_blocks.specs.declared.parts.Unit.{Unit}
use Rattle.code_blocks.specs.declared.parts.Block.{Block}
use Rattle.code_blocks.specs.declared.parts.Code.{Code}
use Rattle.dataflow.specs.Live.{unit_in, IsUnitOf, IsLastOf, within, direct, indirect}
use Rattle.dataflow.proofs.EdgeLemmas.{is_start, one_start, has_listed}
use Rattle.block_splitter.specs.Forms.{body_at}
use Rattle.result_laws.specs.CopyLaws.{IsLow}
use Rattle.result_laws.proofs.Ends.{nth_unit}
use Rattle.result_laws.proofs.CopyUnits.{block_at, unit_of_block}
use Rattle.object_machine.specs.Program.{Program}
use Rattle.object_machine.proofs.RangeLemmas.{HasRanges}
use Rattle.object_machine.proofs.BlockLemmas.{IsNth, unit_count, some_units}
use Rattle.object_machine.proofs.BlockLemmas as words
use Rattle.object_machine.proofs.FollowLemmas.{goes_further, is_true_false}
use Rattle.simulation.specs.Laws.{IsUnit, OfBlock, Behind}
use Rattle.result_laws.specs.HomeLaws.{IsAccepted, unnamed_in}
use Rattle.result_laws.specs.LiveUnits.{code_unit, StandsThere, UnitsStand, CodeUnitsStand, ComesNext}
use Rattle.result_laws.proofs.Words.{code_below}
use Rattle.result_laws.proofs.HomeSound.{loadable}

-- ---- blocks

inside_of : (bs : List Block) (b k : ℕ) → k < length (slice_index_or (map units_in bs) b []) → b < length bs
inside_of [] b k below = absurd (omega (arith, below))
inside_of (x ∷ xs) zero k below = omega arith
inside_of (x ∷ xs) (suc b) k below = let rest = inside_of xs b k below in omega (arith, rest)

pub inside : (c : Code) (b k : ℕ) → IsUnitOf c b k → IsBlockOf c b
inside c b k is = inside_of c.blocks.items b k is

-- the units of a block, told with its end
pub body_units : (bs : List Block) (b : ℕ) → (body_at bs b).units ≡ slice_index_or (map units_in bs) b []
body_units [] b = refl
body_units (x ∷ xs) zero = refl
body_units (x ∷ xs) (suc b) = body_units xs b

-- what is known of unit `k` of block `b`, which stands at an address
pub record IsPlaced (v : PlainView) (c : Code) (a b k : ℕ) : Type 0 where
  pub at : (code_unit c b k).at ≡ a
  pub stands : a ≡ start_at c b + 4 * k
  pub tells : code_units.IsUnit v (code_unit c b k)
  pub goes : IsUnitOf c b (suc k) → goes_on v a ≡ true
  pub nth : IsNth v a k (length (units_at c b))
  pub ends : IsLastOf c b k → (m : ℕ) × (end_at c b ≡ end_from v a (suc m))

-- the words of a unit
words_low : (v : PlainView) (a n : ℕ) (pair : Bool) → is_call_pair v a ≡ pair → n ≡ (if pair then 2 else 1) → a + 4 < 4294967296 → (is_call_pair v a ≡ true → a + 8 < 4294967296) → a + 4 * n < 4294967296
words_low v a n true is two one both = let low = both is in omega (arith, two, low)
words_low v a n false is single one both = omega (arith, single, one)

module _ (file : List ℕ) (board : Board) (g : Graph) (c : Code) (accepted : IsAccepted file board g) (code : IsCode (view_in file) c) where
  abbrev v : PlainView
  v = view_in file

  abbrev p : Program
  p = unnamed_in file board g

  ranges : HasRanges v
  ranges =
      record {
        disjoint = load_segments_disjoint file (none_of_headers file accepted.none);
        ends = λ a is. code_below v a (loadable file board g accepted) is;
      }

  pub begins : (b : ℕ) → IsBlockOf c b → is_leader v (start_at c b) ≡ true
  begins b below = sym (code.leaders (start_at c b)) ∙ is_start c b below

  leader_there : (b : ℕ) → IsBlockOf c b → (start : ℕ) → start_at c b ≡ start → is_leader v start ≡ true
  leader_there b below start is = subst (λ (x : ℕ). is_leader v x ≡ true) is (begins b below)

  pub placed : (a b k : ℕ) → StandsThere c a b k → IsPlaced v c a b k
  placed a b k stands =
      let is = stands.is in
      let below = inside c b k is in
      let has = block_at v c b code below in
      let block : Block = has.block in
      let units : units_at c b ≡ block.units.items = has.units in
      let count : length (units_at c b) ≡ length block.units.items = ap length units in
      let counted : length block.units.items ≡ length (unit_addresses v block.start (words_left v block.start)) = unit_count v block c.functions.items has.is in
      let here : k < length block.units.items = omega (arith, is, count) in
      let unit = unit_of_block v c.functions.items block k has.is here in
      let walk = nth_unit v block.start (words_left v block.start) k (omega (arith, here, counted)) in
      let same : code_unit c b k ≡ slice_index_or block.units.items k no_unit = ap (λ (us : List Unit). unit_in us k) units in
      let at : (code_unit c b k).at ≡ block.start + 4 * k = ap (λ (u : Unit). u.at) same ∙ unit.at in
      let first = leader_is_code v block.start (leader_there b below block.start has.begins) in
      let nth = words.nth_unit v block.start k ranges first (omega (arith, here, counted)) in
      subst (λ (x : ℕ). IsPlaced v c x b k) (sym at ∙ stands.at)
      (record {
        at = at;
        stands = ap (λ (x : ℕ). x + 4 * k) (sym has.begins);
        tells = subst (code_units.IsUnit v) (sym same) unit.is;
        goes = λ more. unit.goes (omega (arith, more, count));
        nth = subst (IsNth v (block.start + 4 * k) k) (sym (count ∙ counted)) nth;
        ends = λ last.
            let found = walk.last (last ∙ (count ∙ counted)) in
            (found.0, has.ends ∙ (has.is.end ∙ found.1.0));
      })

  pub of_unit : (b k : ℕ) → IsUnitOf c b k → IsPlaced v c (code_unit c b k).at b k
  of_unit b k is = placed (code_unit c b k).at b k (record { is = is; at = refl })

  pub address : (b k : ℕ) → IsUnitOf c b k → (code_unit c b k).at ≡ start_at c b + 4 * k
  address b k is = (of_unit b k is).stands

  pub first : (b : ℕ) → IsBlockOf c b → StandsThere c (start_at c b) b 0
  first b below =
      let has = block_at v c b code below in
      let block : Block = has.block in
      let units : units_at c b ≡ block.units.items = has.units in
      let count : length (units_at c b) ≡ length block.units.items = ap length units in
      let some = some_units v block c.functions.items ranges (leader_is_code v block.start (leader_there b below block.start has.begins)) has.is in
      let is : IsUnitOf c b 0 = omega (arith, some, count) in
      let at = address b 0 is in
      record { is = is; at = omega (arith, at) }

  -- ---- one behind the other

  single : (b k : ℕ) (more : IsUnitOf c b (suc k)) (is : IsUnitOf c b k) → (code_unit c b k).words ≡ 1
  single b k more is =
      let here = of_unit b k is in
      let pair = (goes_further v (code_unit c b k).at (here.goes more)).pair in
      here.tells.words ∙ ap (λ (t : Bool). if t then 2 else 1) pair

  behind : (b k : ℕ) → IsUnitOf c b (suc k) → (code_unit c b (suc k)).at ≡ (code_unit c b k).at + 4 * (code_unit c b k).words
  behind b k more =
      let is : IsUnitOf c b k = omega (arith, more) in
      let next = address b (suc k) more in
      let here = address b k is in
      let one = single b k more is in
      omega (arith, next, here, one)

  -- behind the beginning of a block no block begins in it
  apart : (a b k d j : ℕ) → StandsThere c a b k → StandsThere c a d j → start_at c b < start_at c d → ⊥
  apart a b k d j first_there second_there less =
      let x = (placed a b k first_there).stands in
      let y = (placed a d j second_there).stands in
      let below = first_there.is in
      let i : ℕ = k - suc j in
      let more : IsUnitOf c b (suc i) = omega (arith, below, x, y, less) in
      let is : IsUnitOf c b i = omega (arith, more) in
      let before = of_unit b i is in
      let none = (goes_further v (code_unit c b i).at (before.goes more)).behind in
      let place = before.stands in
      let same : (code_unit c b i).at + 4 ≡ start_at c d = omega (arith, place, x, y, less) in
      is_true_false (is_leader v (start_at c d)) (begins d (inside c d j second_there.is)) (subst (λ (z : ℕ). is_leader v z ≡ false) same none)

  one_unit : (a b k d j : ℕ) → StandsThere c a b k → StandsThere c a d j → (b ≡ d) × (k ≡ j)
  one_unit a b k d j first_there second_there =
      let x = (placed a b k first_there).stands in
      let y = (placed a d j second_there).stands in
      elim (cases_order (start_at c b) (start_at c d)) [
        | inl same ↦
            (one_start c b d code.ascending (inside c b k first_there.is) (inside c d j second_there.is) same, omega (arith, x, y, same))
        | inr other ↦
            elim other [
              | inl less ↦ absurd (apart a b k d j first_there second_there less)
              | inr more ↦ absurd (apart a d j b k second_there first_there more)
            ]
      ]

  low : (b k : ℕ) → IsUnitOf c b k → IsLow (code_unit c b k)
  low b k is =
      let here = of_unit b k is in
      let a = (code_unit c b k).at in
      words_low v a (code_unit c b k).words (is_call_pair v a) refl here.tells.words here.nth.below
      (λ pair. let next = ranges.ends (a + 4) (pair_is_code v a pair).1 in omega (arith, next))

  -- a run may find each
  found_there : (b k : ℕ) → IsUnitOf c b k → IsUnit p (start_at c b + 4 * k)
  found_there b zero is =
      let same : start_at c b ≡ start_at c b + 4 * 0 = omega arith in
      subst (IsUnit p) same (OfBlock (start_at c b) (begins b (inside c b 0 is)))
  found_there b (suc k) more =
      let is : IsUnitOf c b k = omega (arith, more) in
      let a : ℕ = start_at c b + 4 * k in
      let here = placed a b k (record { is = is; at = address b k is }) in
      let left = here.nth.is in
      let further = here.nth.more more in
      let two : nat_lt 1 (words_left v a) ≡ true = grind (arith, nat_tests, left, further) in
      let same : a + 4 ≡ start_at c b + 4 * suc k = omega arith in
      subst (IsUnit p) same
      (Behind a (found_there b k is) (goes_further v a (here.goes more)).pair
      (right_passes (is_leader v (a + 4)) (nat_lt 1 (words_left v a)) two))

  pub units_stand : UnitsStand v p c
  units_stand =
      record {
        inside = inside c;
        first = first;
        at = address;
        behind = behind;
        one = one_unit;
        tells = λ b k is. (of_unit b k is).tells;
        code = λ b k is. (of_unit b k is).nth.code;
        low = low;
        found = λ a b k stands. subst (IsUnit p) (sym (placed a b k stands).stands) (found_there b k stands.is);
      }

  -- ---- which one runs next

  pub next_within : (a b k : ℕ) → StandsThere c a b k → IsUnitOf c b (suc k) → ComesNext c b k (a + 4)
  next_within a b k stands more =
      let here = (placed a b k stands).stands in
      let there = address b (suc k) more in
      record { block = b; unit = suc k; next = within b k more; there = record { is = more; at = omega (arith, here, there) } }

  pub block_of : (a : ℕ) → is_leader v a ≡ true → (d : ℕ) × IsBlockOf c d × (start_at c d ≡ a)
  block_of a leads =
      let (d, below, at) = has_found (starts_of c) a (code.leaders a ∙ leads) in
      let count = length-map c.blocks.items start_of in
      (d, omega (arith, below, count), at)

  pub next_block : (a b k : ℕ) → IsUnitOf c b k → IsLastOf c b k → Contains (successors (end_at c b)) a → is_leader v a ≡ true → ComesNext c b k a
  next_block a b k is last leads block =
      let (d, below, at) = block_of a block in
      record {
        block = d;
        unit = 0;
        next = direct b k d last (record { from = inside c b k is; to = below; leads = subst (Contains (successors (end_at c b))) (sym at) leads });
        there = subst (λ (x : ℕ). StandsThere c x d 0) at (first d below);
      }

  pub next_reached : (a b k : ℕ) → IsUnitOf c b k → IsLastOf c b k → is_indirect_end (end_at c b) ≡ true → is_indirect v a ≡ true → ComesNext c b k a
  next_reached a b k is last ends reached =
      let (d, below, at) = block_of a (indirect_is_leader v a reached) in
      record {
        block = d;
        unit = 0;
        next = indirect b k d last
            (record {
              from = inside c b k is;
              to = below;
              ends = ends;
              listed = subst (Contains c.indirect.items) (sym at) (has_listed c.indirect.items a (code.indirect a ∙ reached));
            });
        there = subst (λ (x : ℕ). StandsThere c x d 0) at (first d below);
      }

pub code_units_stand : CodeUnitsStand
code_units_stand file board g c accepted code = units_stand file board g c accepted code
