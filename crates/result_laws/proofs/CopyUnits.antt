-- The units of a block, and what those of a block that may be copied do at home.
use Rattle.std.proofs.Common.{◌≡◌, inl, inr, ◌∙◌, ℕ, zero, suc, ◌+◌, ◌*◌, ◌%◌, ◌<◌, Bool, true, false, ◌&&◌, if◌then◌else◌, List, [], ◌∷◌, map, length, get_or, refl, sym, ap, subst, arith}
use Rattle.std.specs.Prelude.{Option, Some, None, MatchOption, is_some, slice_index_or, ◌==◌}
use Rattle.std.specs.List.{All}
use Rattle.std.proofs.lemmas.Bool.{cond_both}
use Rattle.std.proofs.lemmas.Bool.Decides.{nat_tests}
use Rattle.std.proofs.lemmas.List.{length-map, get_or-map}
use Rattle.std.proofs.lemmas.List.Elements.{All-nil, All-head, All-tail, All-get_or}
use Rattle.rv32im.specs.declared.instructions.Instr.{Instr}
use Rattle.rv32im.specs.declared.instructions.Instr.TheVariants as instr
use Rattle.rv32im.specs.Fields.{rd_of, rs1_of, u_immediate, i_immediate}
use Rattle.rv32im.specs.Sequences.{MeanAll}
use Rattle.rv32im.specs.Table.{Means, MeansNothing}
use Rattle.elf_reader.specs.File.{PlainView}
use Rattle.loaded_file.specs.Code.{image_word, holds_code}
use Rattle.list_checks.specs.Tests.{any_below}
use Rattle.code_blocks.specs.Meanings.{has_meaning}
use Rattle.code_blocks.specs.Leaders.{is_call_pair}
use Rattle.code_blocks.specs.Early.{has}
use Rattle.code_blocks.proofs.LeaderLemmas.{leader_is_code}
use Rattle.code_blocks.specs.Ends.{words_left}
use Rattle.code_blocks.specs.Blocks.{goes_on, unit_addresses, unit_at, IsUnit, IsBlock, IsCode, start_of}
use Rattle.code_blocks.specs.Edges.{successors}
use Rattle.code_blocks.specs.Numbers.{starts_of, ending_of}
use Rattle.code_blocks.specs.Leads.{units_in, no_unit, links_base}
use Rattle.code_blocks.specs.declared.parts.Unit.{Unit}
use Rattle.code_blocks.specs.declared.parts.Block.{Block}
use Rattle.code_blocks.specs.declared.parts.Function.{Function}
use Rattle.code_blocks.specs.declared.parts.Code.{Code}
use Rattle.code_blocks.specs.declared.ends.End.{End}
use Rattle.code_blocks.specs.declared.ends.End.TheVariants as end
use Rattle.block_splitter.specs.Forms.{Body, body_of, body_at, unit_in, straight_kind, last_kind, kind_of}
use Rattle.block_splitter.specs.Pieces.{is_stop, IsCopyable}
use Rattle.result_laws.specs.Displacing.{known_targets}
use Rattle.result_laws.specs.HomeUnits.{home_words, IsHomeOf}
use Rattle.result_laws.specs.CopyLaws.{IsLow, UnitsAreKinds, UnitsMean}
use Rattle.result_laws.proofs.Ends.{nth_unit, NoJump, goes_no_jump, EndsSo, ends_so, ends_mean}
use Rattle.result_laws.proofs.CopyHomes.{pair_words, auipc_is, jalr_is, straight_home, branch_home, jump_home}
use Rattle.result_laws.proofs.HomeCalls.{jal_home, indirect_home, linking_home, call_home, tail_home}

-- ---- a block by its number

pub record HasBlock (v : PlainView) (functions : List Function) (blocks : List Block) (b : ℕ) : Type 0 where
  pub block : Block
  pub is : IsBlock v functions block
  pub body : body_at blocks b ≡ body_of block
  pub begins : slice_index_or (map start_of blocks) b 0 ≡ block.start
  pub units : slice_index_or (map units_in blocks) b [] ≡ block.units.items
  pub ends : slice_index_or (map ending_of blocks) b end.Stop ≡ block.end

block_in : (v : PlainView) (functions : List Function) (blocks : List Block) (b : ℕ) → All (IsBlock v functions) blocks → b < length blocks → HasBlock v functions blocks b
block_in v functions [] b all below = absurd (omega (arith, below))
block_in v functions (x ∷ xs) zero all below =
    record { block = x; is = All-head (IsBlock v functions) x xs all; body = refl; begins = refl; units = refl; ends = refl }
block_in v functions (x ∷ xs) (suc b) all below =
    let r = block_in v functions xs b (All-tail (IsBlock v functions) x xs all) (omega (arith, below)) in
    record { block = r.block; is = r.is; body = r.body; begins = r.begins; units = r.units; ends = r.ends }

pub block_at : (v : PlainView) (c : Code) (b : ℕ) → IsCode v c → b < length c.blocks.items → HasBlock v c.functions.items c.blocks.items b
block_at v c b code below = block_in v c.functions.items c.blocks.items b code.blocks below

-- ---- a unit of it

-- unit `k` of a block, and how the walk through the block comes to it
pub record HasUnit (v : PlainView) (block : Block) (k : ℕ) : Type 0 where
  pub is : IsUnit v (unit_in (body_of block) k)
  pub at : (unit_in (body_of block) k).at ≡ block.start + 4 * k
  pub goes : suc k < length block.units.items → goes_on v (block.start + 4 * k) ≡ true
  pub means : suc k ≡ length block.units.items → is_stop block.end ≡ false → has_meaning (image_word v (block.start + 4 * k)) ≡ true
  pub ends : suc k ≡ length block.units.items → EndsSo v (block.start + 4 * k) block.end

pub unit_of_block : (v : PlainView) (functions : List Function) (block : Block) (k : ℕ) → IsBlock v functions block → k < length block.units.items → HasUnit v block k
unit_of_block v functions block k is below =
    let n : ℕ = words_left v block.start in
    let count : length block.units.items ≡ length (unit_addresses v block.start n) =
    sym (length-map block.units.items unit_at) ∙ ap (λ (xs : List ℕ). length xs) is.addresses in
    let nth = nth_unit v block.start n k (omega (arith, below, count)) in
    record {
      is = All-get_or (IsUnit v) block.units.items k no_unit below is.units;
      at = sym (get_or-map unit_at block.units.items k no_unit 0 below)
          ∙ (ap (λ (xs : List ℕ). get_or xs k 0) is.addresses ∙ nth.at);
      goes = λ more. nth.goes (omega (arith, more, count));
      means = λ one going.
          let found = nth.last (one ∙ count) in
          ends_mean v (block.start + 4 * k) found.0 (subst (λ e. is_stop e ≡ false) (is.end ∙ found.1.0) going);
      ends = λ one.
          let found = nth.last (one ∙ count) in
          subst (EndsSo v (block.start + 4 * k)) (sym (is.end ∙ found.1.0)) (ends_so v (block.start + 4 * k) found.0 found.1.1);
    }

-- ---- where a block leads

pub started_even : (v : PlainView) (c : Code) (a : ℕ) → IsCode v c → has (starts_of c) a ≡ true → a % 4 ≡ 0
started_even v c a code started =
    let word = leader_is_code v a (sym (code.leaders a) ∙ started) in
    aligned_word (a % 4 == 0) (any_below (holds_code v a) (length v.sections)) a refl word
  where
    aligned_word : (x y : Bool) (n : ℕ) → (n % 4 == 0) ≡ x → x && y ≡ true → n % 4 ≡ 0
    aligned_word true y n is both = grind (arith, nat_tests, is)
    aligned_word false y n is both = absurd (cc (both))

pub first_even : (v : PlainView) (c : Code) (a : ℕ) (rest : List ℕ) → IsCode v c → All (λ x. has (starts_of c) x ≡ true) (a ∷ rest) → a % 2 ≡ 0
first_even v c a rest code all =
    let even = started_even v c a code (All-head (λ x. has (starts_of c) x ≡ true) a rest all) in omega (arith, even)

-- where its last unit goes is among where the block leads
pub targets_begin : (P : ℕ → Type 0) (e : End) → All P (successors e) → All P (known_targets e)
targets_begin P (end.Branch target next) all = all
targets_begin P (end.Jump target) all = all
targets_begin P (end.Call target back link) all = all
targets_begin P (end.Tail target) all = all
targets_begin P other all = All-nil P

-- ---- its last unit

pub one_low : (v : PlainView) (u : Unit) → IsUnit v u → IsLow u → u.at + 4 < 4294967296
one_low v u is low =
    let some : 0 < u.words = subst (λ (n : ℕ). 0 < n) (sym is.words) (cond_both (is_call_pair v u.at) 2 1 (λ n. 0 < n) (λ two. omega arith) (λ one. omega arith)) in
    omega (arith, low, some)

two_low : (v : PlainView) (u : Unit) → IsUnit v u → is_call_pair v u.at ≡ true → IsLow u → u.at + 8 < 4294967296
two_low v u is pair low =
    let two : u.words ≡ 2 = is.words ∙ ap (λ (b : Bool). if b then 2 else 1) pair in omega (arith, low, two)

module _ (v : PlainView) (c : Code) (site : ℕ → Bool) (code : IsCode v c) (u : Unit) (is : IsUnit v u) (low : IsLow u) (links_so : links_base u.instr ≡ false) (some : is_some u.instr ≡ true) where
  means : MatchOption u.instr (MeansNothing (image_word v u.at)) (Means (image_word v u.at))
  means = subst (λ (w : ℕ). MatchOption u.instr (MeansNothing w) (Means w)) is.raw is.instr

  pub straight : NoJump v u.at → IsHomeOf v site u.at (straight_kind site u.at u.instr)
  straight none = straight_home v site u.at u.instr some means none (one_low v u is low)

  last_call : (target back link : ℕ) → target % 2 ≡ 0 → EndsSo v u.at (end.Call target back link) → IsHomeOf v site u.at (last_kind site (end.Call target back link) u)
  last_call target back link even (inl pair) =
      call_home v site u.at target back link pair.0 pair.1.0 (two_low v u is pair.0 low) pair.1.1.0 even pair.1.1.1.0 pair.1.1.1.1
  last_call target back link even (inr single) =
      jal_home v site u.at target back link single.0 single.1.0 (one_low v u is low) single.1.1.0 even single.1.1.1.0 single.1.1.1.1

  pub last_home : (e : End) → is_stop e ≡ false → All (λ x. has (starts_of c) x ≡ true) (known_targets e) → EndsSo v u.at e → IsHomeOf v site u.at (last_kind site e u)
  last_home (end.Fall next) goes leads so = straight so.0
  last_home (end.Branch target next) goes leads so =
      branch_home v site u.at u.instr target some so.1.1.1 means so.0 (one_low v u is low) so.1.0 (first_even v c target (next ∷ []) code leads)
  last_home (end.Jump target) goes leads so =
      jump_home v site u.at target so.0 so.1.0 so.1.1.0 so.1.1.1 (first_even v c target [] code leads)
  last_home (end.Call target back link) goes leads so = last_call target back link (first_even v c target [] code leads) so
  last_home (end.Tail target) goes leads so =
      tail_home v site u.at u.instr target some means so.0 so.1.0 so.1.1 (first_even v c target [] code leads)
  last_home (end.Indirect None) goes leads so = indirect_home v site u.at so.0 so.1.0 so.1.1
  last_home (end.Indirect (Some back)) goes leads so =
      linking_home v site u.at u.instr back some so.1.1 means links_so so.0 (one_low v u is low) so.1.0
  last_home end.Stop goes leads so = absurd (cc (goes))

  pub home_by : (is_last_unit : Bool) (e : End) → is_stop e ≡ false → All (λ x. has (starts_of c) x ≡ true) (known_targets e) → (is_last_unit ≡ true → EndsSo v u.at e) → (is_last_unit ≡ false → NoJump v u.at) → IsHomeOf v site u.at (if is_last_unit then last_kind site e u else straight_kind site u.at u.instr)
  home_by true e goes leads so none = last_home e goes leads (so refl)
  home_by false e goes leads so none = straight (none refl)

-- ---- all units

pub last_test : (k n : ℕ) (b : Bool) → (suc k == n) ≡ b → b ≡ true → suc k ≡ n
last_test k n b test is = grind (arith, nat_tests, test, is)

pub other_test : (k n : ℕ) (b : Bool) → (suc k == n) ≡ b → b ≡ false → k < n → suc k < n
other_test k n b test is below = grind (arith, nat_tests, test, is, below)

links_at : (c : Code) (b k : ℕ) (units : List Unit) → slice_index_or (map units_in c.blocks.items) b [] ≡ units → k < length units → IsCopyable c b → links_base (slice_index_or units k no_unit).instr ≡ false
links_at c b k units same below copyable =
    All-get_or (λ (u : Unit). links_base u.instr ≡ false) units k no_unit below (subst (All (λ (u : Unit). links_base u.instr ≡ false)) same copyable.links)

pub some_at : (c : Code) (b k : ℕ) (units : List Unit) → slice_index_or (map units_in c.blocks.items) b [] ≡ units → k < length units → IsCopyable c b → is_some (slice_index_or units k no_unit).instr ≡ true
some_at c b k units same below copyable =
    All-get_or (λ (u : Unit). is_some u.instr ≡ true) units k no_unit below (subst (All (λ (u : Unit). is_some u.instr ≡ true)) same copyable.means)

home_of : (v : PlainView) (c : Code) (site : ℕ → Bool) (b k : ℕ) (has_block : HasBlock v c.functions.items c.blocks.items b) → IsCode v c → IsCopyable c b → k < length has_block.block.units.items → IsLow (unit_in (body_of has_block.block) k) → IsHomeOf v site (unit_in (body_of has_block.block) k).at (kind_of site (body_of has_block.block) k)
home_of v c site b k has_block code copyable below low =
    let block : Block = has_block.block in
    let has_unit = unit_of_block v c.functions.items block k has_block.is below in
    let u : Unit = unit_in (body_of block) k in
    home_by v c site code u has_unit.is low (links_at c b k block.units.items has_block.units below copyable) (some_at c b k block.units.items has_block.units below copyable) (suc k == length block.units.items) block.end
    (subst (λ e. is_stop e ≡ false) has_block.ends copyable.goes_on)
    (targets_begin (λ x. has (starts_of c) x ≡ true) block.end
    (subst (λ e. All (λ x. has (starts_of c) x ≡ true) (successors e)) has_block.ends copyable.leads))
    (λ last. subst (λ a. EndsSo v a block.end) (sym has_unit.at) (has_unit.ends (last_test k (length block.units.items) (suc k == length block.units.items) refl last)))
    (λ more. subst (NoJump v) (sym has_unit.at) (goes_no_jump v (block.start + 4 * k) (has_unit.goes (other_test k (length block.units.items) (suc k == length block.units.items) refl more below))))

pub units_are_kinds : UnitsAreKinds
units_are_kinds v c site b k code below copyable inside low =
    let has_block = block_at v c b code below in
    let same = has_block.body in
    let count : k < length (body_of has_block.block).units = subst (λ (x : Body). k < length x.units) same inside in
    let low_there : IsLow (unit_in (body_of has_block.block) k) = subst (λ (x : Body). IsLow (unit_in x k)) same low in
    subst (λ (x : Body). IsHomeOf v site (unit_in x k).at (kind_of site x k)) (sym same)
    (home_of v c site b k has_block code copyable count low_there)

-- ---- their instructions

single_means : (v : PlainView) (u : Unit) (o : Option Instr) → IsUnit v u → u.instr ≡ o → is_some o ≡ true → is_call_pair v u.at ≡ false → (is : List Instr) × MeanAll (home_words v u.at) is
single_means v u None is same some single = absurd (cc (some))
single_means v u (Some i) is same some single =
    let told : Means u.raw i = subst (λ (o : Option Instr). MatchOption o (MeansNothing u.raw) (Means u.raw)) same is.instr in
    let one : home_words v u.at ≡ image_word v u.at ∷ [] = rw single refl in
    (i ∷ [], subst (λ (ws : List ℕ). MeanAll ws (i ∷ [])) (sym one) (subst (λ (w : ℕ). Means w i) is.raw told, tt))

pair_means : (v : PlainView) (a : ℕ) → is_call_pair v a ≡ true → (is : List Instr) × MeanAll (home_words v a) is
pair_means v a pair =
    let ws = pair_words v a pair in
    let x : ℕ = image_word v a in
    let y : ℕ = image_word v (a + 4) in
    let is : List Instr = instr.Auipc (rd_of x) (u_immediate x) ∷ instr.Jalr (rd_of y) (rs1_of y) (i_immediate y) ∷ [] in
    let two : home_words v a ≡ x ∷ y ∷ [] = rw pair refl in
    (is, subst (λ (xs : List ℕ). MeanAll xs is) (sym two) (auipc_is x ws.auipc, (jalr_is y ws.jalr, tt)))

unit_means : (v : PlainView) (u : Unit) (pair : Bool) → is_call_pair v u.at ≡ pair → IsUnit v u → is_some u.instr ≡ true → (is : List Instr) × MeanAll (home_words v u.at) is
unit_means v u true paired is some = pair_means v u.at paired
unit_means v u false single is some = single_means v u u.instr is refl some single

pub units_mean : UnitsMean
units_mean v c b k code below copyable inside =
    let has_block = block_at v c b code below in
    let same = has_block.body in
    let count : k < length has_block.block.units.items = subst (λ (x : Body). k < length x.units) same inside in
    let has_unit = unit_of_block v c.functions.items has_block.block k has_block.is count in
    let u : Unit = unit_in (body_of has_block.block) k in
    let some = some_at c b k has_block.block.units.items has_block.units count copyable in
    subst (λ (x : Body). (is : List Instr) × MeanAll (home_words v (unit_in x k).at) is) (sym same)
    (unit_means v u (is_call_pair v u.at) refl has_unit.is some)
