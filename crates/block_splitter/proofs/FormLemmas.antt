-- Whether a block may be copied.
use Rattle.std.proofs.Common.{◌≡◌, ◌∙◌, ℕ, zero, suc, ◌+◌, ◌<◌, Bool, true, false, not, if◌then◌else◌, List, [], slice_index_or, Some, None, is_some, refl, sym, ap, subst, arith}
use Rattle.std.specs.List.{All}
use Rattle.std.proofs.lemmas.List.{get_or-map}
use Rattle.list_checks.proofs.TestLemmas.{both, not_true}
use Rattle.rv32im.specs.Fields.{rd_of}
use Rattle.elf_reader.specs.File.{PlainView}
use Rattle.loaded_file.specs.Code.{image_word}
use Rattle.code_blocks.specs.Words.{is_branch, is_jal, is_jalr, links, branch_target, jal_target, pair_target}
use Rattle.code_blocks.specs.Meanings.{is_ebreak, has_meaning}
use Rattle.code_blocks.specs.Leaders.{is_call_pair, is_leader}
use Rattle.code_blocks.specs.Early.{has}
use Rattle.code_blocks.specs.Ends.{pair_end, jal_end, jalr_end, jump_end, end_or, end_from}
use Rattle.code_blocks.specs.Blocks.{IsBlock, IsCode}
use Rattle.code_blocks.specs.Edges.{successors}
use Rattle.code_blocks.specs.Numbers.{starts_of, ending_of, end_at}
use Rattle.code_blocks.specs.Leads.{units_in, units_at, links_base}
use Rattle.code_blocks.specs.declared.parts.Unit.{Unit}
use Rattle.code_blocks.specs.declared.parts.Block.{Block}
use Rattle.code_blocks.specs.declared.parts.Code.{Code}
use Rattle.code_blocks.specs.declared.ends.End.{End}
use Rattle.code_blocks.specs.declared.ends.End.TheVariants as end
use Rattle.block_splitter.specs.Pieces.{is_stop, CanCall, IsCopyable}
use Rattle.block_splitter.specs.Facts.{block_count, may_copy, LinksRegister}

-- ---- what a call links in

pick : (P : End → Type 0) (t : Bool) (a b : End) → P a → P b → P (if t then a else b)
pick P true a b first second = first
pick P false a b first second = second

register : (w : ℕ) → rd_of w < 32
register w = omega arith

links_pair : (v : PlainView) (a : ℕ) → LinksRegister (pair_end v a)
links_pair v a =
    pick LinksRegister (links (image_word v (a + 4))) (end.Call (pair_target v a) (a + 8) (rd_of (image_word v (a + 4)))) (end.Tail (pair_target v a)) (register (image_word v (a + 4))) tt

links_jal : (v : PlainView) (a : ℕ) → LinksRegister (jal_end v a)
links_jal v a =
    pick LinksRegister (links (image_word v a)) (end.Call (jal_target v a) (a + 4) (rd_of (image_word v a))) (end.Jump (jal_target v a)) (register (image_word v a)) tt

links_jalr : (v : PlainView) (a : ℕ) → LinksRegister (jalr_end v a)
links_jalr v a = pick LinksRegister (links (image_word v a)) (end.Indirect (Some (a + 4))) (end.Indirect None) tt tt

-- by the five tests of an end
jump_links : (p b j r e : Bool) (pair branch jal jalr : End) (other : End) → LinksRegister pair → LinksRegister branch → LinksRegister jal → LinksRegister jalr → LinksRegister other
    → LinksRegister (end_or (if p then Some pair else if b then Some branch else if j then Some jal else if r then Some jalr else if e then Some end.Stop else None) other)
jump_links true b j r e pair branch jal jalr other one two three four last = one
jump_links false true j r e pair branch jal jalr other one two three four last = two
jump_links false false true r e pair branch jal jalr other one two three four last = three
jump_links false false false true e pair branch jal jalr other one two three four last = four
jump_links false false false false true pair branch jal jalr other one two three four last = tt
jump_links false false false false false pair branch jal jalr other one two three four last = last

end_links : (v : PlainView) (a n : ℕ) → LinksRegister (end_from v a n)
end_links v a zero = tt
end_links v a (suc n) =
    let w = image_word v a in
    let rest = if is_leader v (a + 4) then end.Fall (a + 4) else end_from v (a + 4) n in
    pick LinksRegister (has_meaning w) (end_or (jump_end v a) rest) end.Stop
    (jump_links (is_call_pair v a) (is_branch w) (is_jal w) (is_jalr w) (is_ebreak w) (pair_end v a) (end.Branch (branch_target v a) (a + 4)) (jal_end v a) (jalr_end v a) rest
    (links_pair v a) tt (links_jal v a) (links_jalr v a)
    (pick LinksRegister (is_leader v (a + 4)) (end.Fall (a + 4)) (end_from v (a + 4) n) tt (end_links v (a + 4) n)))
    tt

pub links_register : (v : PlainView) (c : Code) (b : ℕ) (block : Block) → IsCode v c → b < block_count c → block ≡ slice_index_or c.blocks.items b block → LinksRegister block.end
links_register v c b block code below is =
    let told = subst (IsBlock v c.functions.items) (sym is) (code.blocks b block below) in
    subst LinksRegister (sym told.end) (end_links v block.start _)

-- ---- blocks

units_are : (c : Code) (b : ℕ) (block : Block) → b < block_count c → block ≡ slice_index_or c.blocks.items b block → units_at c b ≡ block.units.items
units_are c b block below is = get_or-map units_in c.blocks.items b block [] below ∙ ap units_in (sym is)

pub end_is : (c : Code) (b : ℕ) (block : Block) → b < block_count c → block ≡ slice_index_or c.blocks.items b block → end_at c b ≡ block.end
end_is c b block below is = get_or-map ending_of c.blocks.items b block end.Stop below ∙ ap ending_of (sym is)

means : (u : Unit) → may_copy u ≡ true → is_some u.instr ≡ true
means u is = (both (is_some u.instr) (not (links_base u.instr)) is).0

links_not : (u : Unit) → may_copy u ≡ true → links_base u.instr ≡ false
links_not u is = not_true (links_base u.instr) (both (is_some u.instr) (not (links_base u.instr)) is).1

may : (u : Unit) → is_some u.instr ≡ true → links_base u.instr ≡ false → may_copy u ≡ true
may u first second = rw (first, second) refl

pub copyable : (c : Code) (b : ℕ) (block : Block) (units : List Unit) → b < block_count c → block ≡ slice_index_or c.blocks.items b block → units ≡ block.units.items → All (λ u. may_copy u ≡ true) units → All (λ a. has (starts_of c) a ≡ true) (successors block.end) → (is_stop block.end ≡ false) × CanCall c block.end
    → IsCopyable c b
copyable c b block units below is same may leads goes =
    let own = same ∙ sym (units_are c b block below is) in
    let ends = sym (end_is c b block below is) in
    let all = subst (All (λ u. may_copy u ≡ true)) own may in
    record {
      means = λ k d within. means (slice_index_or (units_at c b) k d) (all k d within);
      links = λ k d within. links_not (slice_index_or (units_at c b) k d) (all k d within);
      leads = subst (λ (e : End). All (λ a. has (starts_of c) a ≡ true) (successors e)) ends leads;
      goes_on = subst (λ (e : End). is_stop e ≡ false) ends goes.0;
      calls = subst (CanCall c) ends goes.1;
    }

pub copyable_units : (c : Code) (b : ℕ) (block : Block) (units : List Unit) → b < block_count c → block ≡ slice_index_or c.blocks.items b block → units ≡ block.units.items → IsCopyable c b → All (λ u. may_copy u ≡ true) units
copyable_units c b block units below is same copied =
    subst (All (λ u. may_copy u ≡ true)) (units_are c b block below is ∙ sym same)
    (λ k d within. may (slice_index_or (units_at c b) k d) (copied.means k d within) (copied.links k d within))

pub copyable_leads : (c : Code) (b : ℕ) (block : Block) → b < block_count c → block ≡ slice_index_or c.blocks.items b block → IsCopyable c b → All (λ a. has (starts_of c) a ≡ true) (successors block.end)
copyable_leads c b block below is copied =
    subst (λ (e : End). All (λ a. has (starts_of c) a ≡ true) (successors e)) (end_is c b block below is) copied.leads

pub copyable_goes : (c : Code) (b : ℕ) (block : Block) → b < block_count c → block ≡ slice_index_or c.blocks.items b block → IsCopyable c b → (is_stop block.end ≡ false) × CanCall c block.end
copyable_goes c b block below is copied =
    (subst (λ (e : End). is_stop e ≡ false) (end_is c b block below is) copied.goes_on, subst (CanCall c) (end_is c b block below is) copied.calls)
