-- The units of blocks: that there is one, and the fields of what stands for them.
use Rattle.std.proofs.Common.{◌≡◌, ◌∙◌, inl, inr, not, ℕ, zero, suc, ◌+◌, ◌<◌, Bool, true, false, List, [], ◌∷◌, map, length, slice_index_or, Option, Some, None, refl, sym, ap, subst, arith}
use Rattle.std.specs.Prelude.{MatchOption}
use Rattle.std.proofs.lemmas.Bool.{cond_both}
use Rattle.std.proofs.lemmas.List.{length-map, get_or_default}
use Rattle.list_checks.specs.First.{◌or_else◌, unless, first_below}
use Rattle.list_checks.specs.Tests.{any_below, lies_in}
use Rattle.list_checks.proofs.TestLemmas.{both, either}
use Rattle.rv32im.specs.Table.{Means, MeansNothing}
use Rattle.rv32im.specs.declared.instructions.Instr.{Instr}
use Rattle.rv32im.specs.declared.instructions.Instr.TheVariants as instr
use Rattle.rv32im.proofs.Meaning.{in_range}
use Rattle.elf_reader.specs.File.{PlainView}
use Rattle.elf_reader.specs.Loaded.{section_at}
use Rattle.loaded_file.specs.Code.{is_code_range, holds_code, is_code_word, image_word}
use Rattle.loaded_file.proofs.WordLemmas.{lies_to}
use Rattle.code_blocks.specs.Early.{has}
use Rattle.code_blocks.specs.Leaders.{is_early, is_leader}
use Rattle.code_blocks.specs.Words.{links, is_branch, is_jal, is_jalr}
use Rattle.code_blocks.specs.Meanings.{is_ebreak, has_meaning}
use Rattle.code_blocks.specs.Leaders.{is_call_pair}
use Rattle.code_blocks.specs.Ends.{pair_end, jal_end, jalr_end, jump_end, end_or, end_from, range_at, words_left_in, words_left}
use Rattle.code_blocks.specs.Blocks.{start_of, unit_at, unit_addresses, IsBlock, IsCode}
use Rattle.code_blocks.specs.Numbers.{starts_of, ending_of, end_at}
use Rattle.code_blocks.specs.Leads.{no_unit}
use Rattle.code_blocks.specs.declared.parts.Unit.{Unit}
use Rattle.code_blocks.specs.declared.parts.Block.{Block}
use Rattle.code_blocks.specs.declared.parts.Code.{Code}
use Rattle.code_blocks.specs.declared.ends.End.{End}
use Rattle.code_blocks.specs.declared.ends.End.TheVariants as end
use Rattle.code_blocks.proofs.RangeLemmas.{no_range, code_held}
use Rattle.code_blocks.proofs.ListLemmas.{has_at}
use Rattle.block_splitter.specs.Forms.{Body, body_of, body_at, unit_in, is_last, straight_kind, branch_kind, tail_kind, indirect_kind, last_kind, kind_of}
use Rattle.block_splitter.specs.Copying.{HasFields}

-- ---- a block of a list

-- what the lists of bodies, starts and ends have at the place of a block
pub record IsAt (blocks : List Block) (b : ℕ) : Type 0 where
  pub block : Block
  pub is : (d : Block) → slice_index_or blocks b d ≡ block
  pub body : body_at blocks b ≡ body_of block
  pub start : slice_index_or (map start_of blocks) b 0 ≡ block.start
  pub end : slice_index_or (map ending_of blocks) b end.Stop ≡ block.end

pub block_at : (blocks : List Block) (b : ℕ) → b < length blocks → IsAt blocks b
block_at [] b below = absurd (omega arith)
block_at (x ∷ blocks) zero below = record { block = x; is = λ d. refl; body = refl; start = refl; end = refl }
block_at (x ∷ blocks) (suc b) below =
    let rest = block_at blocks b (omega (arith, below)) in
    record { block = rest.block; is = rest.is; body = rest.body; start = rest.start; end = rest.end }

pub body_is : (blocks : List Block) (b : ℕ) (block : Block) → b < length blocks → block ≡ slice_index_or blocks b block → body_of block ≡ body_at blocks b
body_is blocks b block below is =
    let at = block_at blocks b below in
    ap body_of (is ∙ at.is block) ∙ sym at.body

pub unit_is : (blocks : List Block) (b k : ℕ) (block : Block) (u : Unit) → b < length blocks → block ≡ slice_index_or blocks b block → k < length block.units.items → u ≡ slice_index_or block.units.items k u → u ≡ unit_in (body_at blocks b) k
unit_is blocks b k block u below is inside there =
    there
    ∙ get_or_default block.units.items k u no_unit inside
    ∙ ap (λ (body : Body). unit_in body k) (body_is blocks b block below is)

pub same_end : (c : Code) (b : ℕ) → b < length c.blocks.items → (body_at c.blocks.items b).end ≡ end_at c b
same_end c b below =
    let at = block_at c.blocks.items b below in
    ap (λ (body : Body). body.end) at.body ∙ sym at.end

pub end_is : (c : Code) (b : ℕ) (block : Block) → b < length c.blocks.items → block ≡ slice_index_or c.blocks.items b block → end_at c b ≡ block.end
end_is c b block below is =
    let at = block_at c.blocks.items b below in
    at.end ∙ ap (λ (d : Block). d.end) (sym (is ∙ at.is block))

pub is_block : (v : PlainView) (c : Code) (b : ℕ) → IsCode v c → (below : b < length c.blocks.items) → IsBlock v c.functions.items (block_at c.blocks.items b below).block
is_block v c b code below =
    let at = block_at c.blocks.items b below in
    subst (IsBlock v c.functions.items) (at.is at.block) (code.blocks b at.block below)

-- ---- a block has a unit

range_some : (test : Bool) (k j : ℕ) → unless (not test) k ≡ Some j → (test ≡ true) × (k ≡ j)
range_some true k j is = (refl, cc)
range_some false k j is = cc

first_step : (v : PlainView) (a n k : ℕ) (o : Option ℕ) → ((j : ℕ) → o ≡ Some j → holds_code v a j ≡ true) → o or_else range_at v a n ≡ Some k → holds_code v a k ≡ true
first_step v a n k None before found =
    let parts = range_some (holds_code v a n) n k found in
    subst (λ (j : ℕ). holds_code v a j ≡ true) parts.1 parts.0
first_step v a n k (Some j) before found = before k found

first_holds : (v : PlainView) (a n k : ℕ) → first_below (range_at v a) n ≡ Some k → holds_code v a k ≡ true
first_holds v a zero k found = cc
first_holds v a (suc n) k found = first_step v a n k (first_below (range_at v a) n) (λ j before. first_holds v a n j before) found

apart : (b : Bool) → b ≡ true → b ≡ false → ⊥
apart b on off = absurd (cc)

left_in : (v : PlainView) (a : ℕ) (o : Option ℕ) → is_code_word v a ≡ true → first_below (range_at v a) (length v.sections) ≡ o → 0 < words_left_in v a o
left_in v a None code found =
    absurd (apart (any_below (holds_code v a) (length v.sections)) (code_held v a code) (no_range v a (length v.sections) found))
left_in v a (Some k) code found =
    let holds = first_holds v a (length v.sections) k found in
    let lies = both (is_code_range v k) (lies_in (section_at v k).addr (section_at v k).size a 4) holds in
    let to = lies_to (section_at v k).addr (section_at v k).size a 4 lies.1 in
    omega (arith, to)

has_words : (v : PlainView) (a : ℕ) → is_code_word v a ≡ true → 0 < words_left v a
has_words v a code = left_in v a (first_below (range_at v a) (length v.sections)) code refl

leader_code : (v : PlainView) (a : ℕ) → is_leader v a ≡ true → is_code_word v a ≡ true
leader_code v a leader =
    elim (either (is_early v a) _ leader) [
      | inl early ↦ (both (is_code_word v a) _ early).0
      | inr later ↦ (both (is_code_word v a) _ later).0
    ]

some_address : (v : PlainView) (a n : ℕ) → 0 < n → 0 < length (unit_addresses v a n)
some_address v a zero some = absurd (omega arith)
some_address v a (suc n) some = omega arith

pub has_unit : (v : PlainView) (c : Code) (b : ℕ) → IsCode v c → b < length c.blocks.items → 0 < length (body_at c.blocks.items b).units
has_unit v c b code below =
    let at = block_at c.blocks.items b below in
    let block = at.block in
    let is = is_block v c b code below in
    let many = length-map c.blocks.items start_of in
    let listed : has (starts_of c) block.start ≡ true = subst (λ (a : ℕ). has (starts_of c) a ≡ true) at.start (has_at (starts_of c) b 0 (omega (arith, below, many))) in
    let left = has_words v block.start (leader_code v block.start (sym (code.leaders block.start) ∙ listed)) in
    let some = some_address v block.start (words_left v block.start) left in
    let count = ap (λ (xs : List ℕ). length xs) is.addresses in
    let units = length-map block.units.items unit_at in
    subst (λ (body : Body). 0 < length body.units) (sym at.body) (omega (arith, some, count, units))

pub first_unit : (v : PlainView) (c : Code) (b : ℕ) (block : Block) → IsCode v c → b < length c.blocks.items → block ≡ slice_index_or c.blocks.items b block → 0 < length block.units.items
first_unit v c b block code below is =
    subst (λ (body : Body). 0 < length body.units) (sym (body_is c.blocks.items b block below is)) (has_unit v c b code below)

-- ---- the register in which a call links

abbrev LinksFit : End → Type 0
LinksFit (end.Call target back link) = link < 32
LinksFit (end.Fall next) = Prim.Unit {0}
LinksFit (end.Branch target next) = Prim.Unit {0}
LinksFit (end.Jump target) = Prim.Unit {0}
LinksFit (end.Tail target) = Prim.Unit {0}
LinksFit (end.Indirect back) = Prim.Unit {0}
LinksFit end.Stop = Prim.Unit {0}

abbrev LinkFits : Option End → Type 0
LinkFits None = Prim.Unit {0}
LinkFits (Some e) = LinksFit e

pair_fits : (v : PlainView) (a : ℕ) → LinksFit (pair_end v a)
pair_fits v a = cond_both (links (image_word v (a + 4))) _ _ LinksFit (λ yes. omega arith) (λ no. tt)

jal_fits : (v : PlainView) (a : ℕ) → LinksFit (jal_end v a)
jal_fits v a = cond_both (links (image_word v a)) _ _ LinksFit (λ yes. omega arith) (λ no. tt)

jalr_fits : (v : PlainView) (a : ℕ) → LinksFit (jalr_end v a)
jalr_fits v a = cond_both (links (image_word v a)) _ _ LinksFit (λ yes. tt) (λ no. tt)

jump_fits : (v : PlainView) (a : ℕ) → LinkFits (jump_end v a)
jump_fits v a =
    cond_both (is_call_pair v a) _ _ LinkFits (λ yes. pair_fits v a)
    (λ no. cond_both (is_branch (image_word v a)) _ _ LinkFits (λ yes. tt)
    (λ no. cond_both (is_jal (image_word v a)) _ _ LinkFits (λ yes. jal_fits v a)
    (λ no. cond_both (is_jalr (image_word v a)) _ _ LinkFits (λ yes. jalr_fits v a)
    (λ no. cond_both (is_ebreak (image_word v a)) _ _ LinkFits (λ yes. tt) (λ no. tt)))))

either_fits : (o : Option End) (e : End) → LinkFits o → LinksFit e → LinksFit (end_or o e)
either_fits None e fits other = other
either_fits (Some d) e fits other = fits

links_fit : (v : PlainView) (a n : ℕ) → LinksFit (end_from v a n)
links_fit v a zero = tt
links_fit v a (suc n) =
    cond_both (has_meaning (image_word v a)) _ _ LinksFit
    (λ yes. either_fits (jump_end v a) _ (jump_fits v a)
    (cond_both (is_leader v (a + 4)) _ _ LinksFit (λ leader. tt) (λ goes. links_fit v (a + 4) n)))
    (λ no. tt)

-- ---- fields

abbrev Decodes : ℕ → Option Instr → Type 0
Decodes raw o = MatchOption o (MeansNothing raw) (Means raw)

straight_fields : (site : ℕ → Bool) (at raw : ℕ) (o : Option Instr) → Decodes raw o → HasFields (straight_kind site at o)
straight_fields site at raw None means = tt
straight_fields site at raw (Some (instr.Auipc rd imm)) means =
    cond_both (site at) _ _ HasFields (λ yes. tt) (λ no. (in_range raw (instr.Auipc rd imm) means).0)
straight_fields site at raw (Some i) means = tt

branch_fields : (target raw : ℕ) (o : Option Instr) → Decodes raw o → HasFields (branch_kind target o)
branch_fields target raw None means = tt
branch_fields target raw (Some (instr.Branch kind rs1 rs2 off)) means =
    let range = in_range raw (instr.Branch kind rs1 rs2 off) means in (range.0, range.1)
branch_fields target raw (Some i) means = tt

tail_fields : (target raw : ℕ) (o : Option Instr) → Decodes raw o → HasFields (tail_kind target o)
tail_fields target raw None means = tt
tail_fields target raw (Some (instr.Auipc rd imm)) means = (in_range raw (instr.Auipc rd imm) means).0
tail_fields target raw (Some i) means = tt

indirect_fields : (back raw : ℕ) (o : Option Instr) → Decodes raw o → HasFields (indirect_kind (Some back) o)
indirect_fields back raw None means = tt
indirect_fields back raw (Some (instr.Jalr rd rs1 imm)) means = in_range raw (instr.Jalr rd rs1 imm) means
indirect_fields back raw (Some i) means = tt

last_fields : (site : ℕ → Bool) (e : End) (u : Unit) → LinksFit e → Decodes u.raw u.instr → HasFields (last_kind site e u)
last_fields site (end.Branch target next) u fits means = branch_fields target u.raw u.instr means
last_fields site (end.Jump target) u fits means = tt
last_fields site (end.Call target back link) u fits means = fits
last_fields site (end.Tail target) u fits means = tail_fields target u.raw u.instr means
last_fields site (end.Indirect None) u fits means = tt
last_fields site (end.Indirect (Some back)) u fits means = indirect_fields back u.raw u.instr means
last_fields site (end.Fall next) u fits means = straight_fields site u.at u.raw u.instr means
last_fields site end.Stop u fits means = straight_fields site u.at u.raw u.instr means

body_fields : (site : ℕ → Bool) (body : Body) (k : ℕ) → LinksFit body.end → Decodes (unit_in body k).raw (unit_in body k).instr → HasFields (kind_of site body k)
body_fields site body k fits means =
    let u = unit_in body k in
    cond_both (is_last body k) _ _ HasFields (λ last. last_fields site body.end u fits means) (λ within. straight_fields site u.at u.raw u.instr means)

pub has_fields : (v : PlainView) (c : Code) (site : ℕ → Bool) (b k : ℕ) → IsCode v c → b < length c.blocks.items → k < length (body_at c.blocks.items b).units → HasFields (kind_of site (body_at c.blocks.items b) k)
has_fields v c site b k code below within =
    let at = block_at c.blocks.items b below in
    let is = is_block v c b code below in
    let inside : k < length at.block.units.items = subst (λ (body : Body). k < length body.units) at.body within in
    let fits = subst LinksFit (sym is.end) (links_fit v at.block.start (words_left v at.block.start)) in
    subst (λ (body : Body). HasFields (kind_of site body k)) (sym at.body)
    (body_fields site (body_of at.block) k fits (is.units k no_unit inside).instr)
