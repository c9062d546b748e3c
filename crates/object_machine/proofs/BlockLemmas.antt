-- The prepared units of a block tell what the program says of their addresses.
use Rattle.std.proofs.Common.{◌≡◌, ◌⊎◌, inl, inr, ℕ, suc, ◌+◌, ◌*◌, ◌<◌, nat_lt, Bool, true, false, not, ◌&&◌, ◌||◌, if◌then◌else◌, List, length, map, slice_index_or, is_some, Option, Some, None, MatchOption, refl, sym, ◌∙◌, ap, subst, arith}
use Rattle.std.proofs.lemmas.Bool.Decides.{nat_tests}
use Rattle.std.proofs.lemmas.List.{length-map, get_or-map}
use Rattle.rv32im.specs.Table.{Means, MeansNothing}
use Rattle.rv32im.specs.declared.instructions.Instr.{Instr}
use Rattle.elf_reader.specs.File.{PlainView, plain_view}
use Rattle.elf_reader.specs.declared.view.ElfView.{ElfView}
use Rattle.board_config.specs.declared.board.Board.{Board}
use Rattle.loaded_file.specs.Code.{is_code_word, image_word}
use Rattle.loaded_file.specs.Read.{IsRead}
use Rattle.object_graph.specs.declared.parts.Site.{Site}
use Rattle.object_graph.specs.declared.parts.Graph.{Graph}
use Rattle.code_blocks.specs.Words.{is_branch, is_jal, is_jalr}
use Rattle.code_blocks.specs.Meanings.{is_ebreak, has_meaning}
use Rattle.code_blocks.specs.Leaders.{is_call_pair, is_leader}
use Rattle.code_blocks.proofs.MeaningLemmas.{passes_test}
use Rattle.code_blocks.proofs.PairLemmas.{pair_is_code}
use Rattle.code_blocks.proofs.RangeLemmas.{code_fits}
use Rattle.code_blocks.specs.Ends.{words_left}
use Rattle.code_blocks.specs.Blocks.{goes_on, unit_addresses, unit_at, IsUnit, IsBlock}
use Rattle.code_blocks.specs.declared.parts.Unit.{Unit}
use Rattle.code_blocks.specs.declared.parts.Block.{Block}
use Rattle.code_blocks.specs.declared.parts.Function.{Function}
use Rattle.object_machine.specs.declared.units.Pair.{Pair}
use Rattle.object_machine.specs.declared.units.Prepared.{Prepared}
use Rattle.object_machine.specs.Program.{program_of, target_at, falls_from}
use Rattle.object_machine.specs.Step.{Reads}
use Rattle.object_machine.specs.Units.{target_of, fits_read, fits_pair, fits_site, FitsSite, is_fit, may_lead, may_fall}
use Rattle.object_machine.specs.Reports.{IsCallOf, ReportsAt, Reports}
use Rattle.object_machine.specs.Preparing.{IsPairOf, IsPreparedOf}
use Rattle.object_machine.proofs.ChainLemmas.{chain, is_chain, chain_some, chain_at, chain_below, chain_ends}
use Rattle.object_machine.proofs.RangeLemmas.{HasRanges, left_at, some_left, left_further, one_less, left_is_code}
use Rattle.object_machine.proofs.MeaningLemmas.{means_fits, LeadsOn, leads_further}

-- ---- what a unit reads

reads_of : (w : ℕ) (o : Option Instr) → MatchOption o (MeansNothing w) (Means w) → Reads w o
reads_of w None m = m
reads_of w (Some i) m = m

fits_of : (w : ℕ) (o : Option Instr) → MatchOption o (MeansNothing w) (Means w) → fits_read o ≡ true
fits_of w None m = refl
fits_of w (Some i) m = means_fits w i m

-- ---- whether it leads to the next word

-- it is no branch, no jump and not EBREAK
leads_of : (w : ℕ) (o : Option Instr) (pair : Option Pair) → MatchOption o (MeansNothing w) (Means w) → may_lead o pair ≡ true → LeadsOn w × ((is_some pair ≡ false) × ((i : Instr) × Means w i))
leads_of w None pair m may = cc
leads_of w (Some i) None m may = (leads_further w i m may, (refl, (i, m)))
leads_of w (Some i) (Some c) m may = cc

no_jump : (pair branch jal jalr ebreak : Bool) → pair ≡ false → branch ≡ false → jal ≡ false → jalr ≡ false → ebreak ≡ false → not (pair || branch || jal || jalr || ebreak) ≡ true
no_jump pair branch jal jalr ebreak p b j k e = rw (p, b, j, k, e)

stops_of : (means free leads : Bool) → means ≡ true → free ≡ true → means && free && not leads ≡ false → leads ≡ true
stops_of means free true m f stops = refl
stops_of means free false m f stops = let on : means && free && true ≡ true = rw (m, f) in cc

-- the last unit of a block: where it leads on but not inside, another block begins
last_leads : (v : PlainView) (a : ℕ) → LeadsOn (image_word v a) → has_meaning (image_word v a) ≡ true → is_call_pair v a ≡ false → goes_on v a ≡ false → is_leader v (a + 4) ≡ true
last_leads v a leads means pair stops =
    let w = image_word v a in
    let free = no_jump (is_call_pair v a) (is_branch w) (is_jal w) (is_jalr w) (is_ebreak w) pair leads.branch leads.jal leads.jalr leads.ebreak in
    stops_of (has_meaning w) (not (is_call_pair v a || is_branch w || is_jal w || is_jalr w || is_ebreak w)) (is_leader v (a + 4)) means free stops

-- where words are left inside
more_left : (leads : Bool) (n : ℕ) → 1 < n → leads || nat_lt 1 n ≡ true
more_left true n more = refl
more_left false n more = grind (arith, nat_tests, more)

one_left : (leads : Bool) (n : ℕ) → n ≡ 1 → leads || nat_lt 1 n ≡ leads
one_left true n one = refl
one_left false n one = grind (arith, nat_tests, one)

leads_either : (leads : Bool) (n : ℕ) → leads ≡ true → leads || nat_lt 1 n ≡ leads
leads_either leads n is = rw is

-- ---- the units of a block

cases_next : (k count : ℕ) → k < count → (suc k < count) ⊎ (suc k ≡ count)
cases_next k count below = grind (arith, below)

-- what is known of unit `k` of a block of `count` units: its address, and how many words are left there
pub record IsNth (v : PlainView) (a k count : ℕ) : Type 0 where
  pub code : is_code_word v a ≡ true
  pub below : a + 4 < 4294967296
  pub left : ℕ
  pub is : words_left v a ≡ left
  pub more : suc k < count → 1 < left
  pub last : suc k ≡ count → (left ≡ 1) ⊎ (goes_on v a ≡ false)

pub nth_unit : (v : PlainView) (start k : ℕ) → HasRanges v → is_code_word v start ≡ true → k < length (unit_addresses v start (words_left v start)) → IsNth v (start + 4 * k) k (length (unit_addresses v start (words_left v start)))
nth_unit v start k ranges code below =
    let n = words_left v start in
    let same = is_chain v start n in
    let count : length (unit_addresses v start n) ≡ length (chain (goes_on v) start n) = ap length same in
    let less = chain_below (goes_on v) start n k (omega (arith, below, count)) in
    let (range, has) = left_at v start ranges code in
    let further = left_further v start range k ranges has less in
    let fewer = one_less v start range k ranges has less in
    let here = left_is_code v start range k code further in
    record {
      code = here;
      below = ranges.ends (start + 4 * k) here;
      left = words_left v (start + 4 * k);
      is = refl;
      more = λ next. let within = chain_below (goes_on v) start n (suc k) (omega (arith, next, count)) in omega (arith, within, fewer);
      last = λ last. elim (chain_ends (goes_on v) start n k (omega (arith, last, count))) [
        | inl all ↦ inl (omega (arith, all, fewer))
        | inr stops ↦ inr stops
      ];
    }

-- whether a unit falls to the next word
falls_at : (v : PlainView) (a k count : ℕ) (u : Unit) (pair : Option Pair) → IsNth v a k count → k < count → IsUnit v u → u.at ≡ a → is_call_pair v a ≡ is_some pair → may_lead u.instr pair ≡ true → falls_from v a ≡ nat_lt (k + 1) count || is_leader v (a + 4)
falls_at v a k count u pair nth below unit at is may =
    let w = image_word v a in
    let raw : u.raw ≡ w = unit.raw ∙ ap (image_word v) at in
    let known = leads_of u.raw u.instr pair unit.instr may in
    let leads : LeadsOn w = subst LeadsOn raw known.0 in
    let left = nth.is in
    elim (cases_next k count below) [
      | inl next ↦
          let more : 1 < words_left v a = omega (arith, left, nth.more next) in
          let inner : nat_lt (k + 1) count ≡ true = grind (arith, nat_tests, next) in
          rw inner (more_left (is_leader v (a + 4)) (words_left v a) more)
      | inr last ↦
          let outer : nat_lt (k + 1) count ≡ false = grind (arith, nat_tests, last) in
          rw outer (elim (nth.last last) [
            | inl one ↦ one_left (is_leader v (a + 4)) (words_left v a) (left ∙ one)
            | inr stops ↦
                let means : has_meaning w ≡ true = subst (λ (x : ℕ). has_meaning x ≡ true) raw (passes_test u.raw known.1.1.0 known.1.1.1) in
                let no_pair : is_call_pair v a ≡ false = is ∙ known.1.0 in
                leads_either (is_leader v (a + 4)) (words_left v a) (last_leads v a leads means no_pair stops)
          ])
    ]

-- ---- prepared units

pair_fits : (v : PlainView) (a : ℕ) (o : Option Pair) → a + 4 < 4294967296 → IsPairOf v a o → (is_call_pair v a ≡ true → a + 8 < 4294967296) → fits_pair a o ≡ true
pair_fits v a None below pair room = refl
pair_fits v a (Some c) below pair room =
    let less = room pair.is in
    let register = pair.call.1 in
    grind (arith, nat_tests, less, register)

site_fits : (count : ℕ) (o : Option Site) → FitsSite count o → fits_site count o ≡ true
site_fits count None fits = refl
site_fits count (Some s) fits = grind (arith, nat_tests, fits)

all_fit : (a b c d : Bool) → a ≡ true → b ≡ true → c ≡ true → d ≡ true → a && b && c && d ≡ true
all_fit a b c d p q r s = rw (p, q, r, s)

-- both words of a call are code
pub pair_room : (view : ElfView) (a : ℕ) → IsRead view → is_call_pair (plain_view view) a ≡ true → a + 8 < 4294967296
pair_room view a read pair =
    let (first, second, none) = pair_is_code (plain_view view) a pair in
    let below = code_fits view (a + 4) read second in
    omega (arith, below)

call_of : (v : PlainView) (board : Board) (g : Graph) (a : ℕ) (o : Option Pair) → IsPairOf v a o → IsCallOf (program_of v board g) a o
call_of v board g a None pair = tt
call_of v board g a (Some c) pair = pair.call

-- what a prepared unit tells
pub record IsTold (v : PlainView) (board : Board) (g : Graph) (r : Prepared) : Type 0 where
  pub fit : is_fit (length g.objects.items) r ≡ true
  pub tells : Reports (program_of v board g) r

pub told : (view : ElfView) (board : Board) (g : Graph) (a k count : ℕ) (u : Unit) (r : Prepared) → IsRead view → IsNth (plain_view view) a k count → k < count → IsUnit (plain_view view) u → u.at ≡ a → IsPreparedOf (plain_view view) g u (nat_lt (k + 1) count) r → IsTold (plain_view view) board g r
told view board g a k count u r read nth below unit at is =
    let v = plain_view view in
    let p = program_of v board g in
    let same : r.at ≡ a = is.at ∙ at in
    let raw : u.raw ≡ image_word v a = unit.raw ∙ ap (image_word v) at in
    let pair : IsPairOf v a r.pair = subst (λ (x : ℕ). IsPairOf v x r.pair) at is.pair in
    let meant : MatchOption r.instr (MeansNothing (image_word v a)) (Means (image_word v a)) =
    subst (λ (o : Option Instr). MatchOption o (MeansNothing (image_word v a)) (Means (image_word v a))) (sym is.instr)
    (subst (λ (w : ℕ). MatchOption u.instr (MeansNothing w) (Means w)) raw unit.instr) in
    let site : target_at g.sites.items a ≡ target_of r.site = subst (λ (x : ℕ). target_at g.sites.items x ≡ target_of r.site) at is.site in
    let ends = nth.below in
    let falls : may_fall r ≡ true → falls_from v a ≡ r.goes_on || is_leader v (a + 4) = λ may.
    let may_u : may_lead u.instr r.pair ≡ true = subst (λ (o : Option Instr). may_lead o r.pair ≡ true) is.instr may in
    falls_at v a k count u r.pair nth below unit at pair.is may_u ∙ ap (λ (on : Bool). on || is_leader v (a + 4)) (sym is.goes_on) in
    record {
      fit = all_fit (fits_read r.instr) (fits_pair r.at r.pair) (fits_site (length g.objects.items) r.site) (nat_lt (r.at + 4) 4294967296)
          (fits_of (image_word v a) r.instr meant)
          (subst (λ (x : ℕ). fits_pair x r.pair ≡ true) (sym same) (pair_fits v a r.pair ends pair (pair_room view a read)))
          (site_fits (length g.objects.items) r.site is.fits)
          (grind (arith, nat_tests, same, ends));
      tells = subst (ReportsAt p r) (sym same) (record {
        meant = reads_of (image_word v a) r.instr meant;
        site = site;
        pair = pair.is;
        call = call_of v board g a r.pair pair;
        falls = falls;
      });
    }

-- ---- whether a unit is a call

two_words : (pair : Bool) (n : ℕ) → n ≡ (if pair then 2 else 1) → (n ≡ 1 → ⊥) → pair ≡ true
two_words true n words other = refl
two_words false n words other = absurd (other words)

one_word : (pair : Bool) (n : ℕ) → n ≡ (if pair then 2 else 1) → n ≡ 1 → pair ≡ false
one_word true n words one = absurd (omega (arith, words, one))
one_word false n words one = refl

pub is_pair_unit : (v : PlainView) (u : Unit) → IsUnit v u → (u.words ≡ 1 → ⊥) → is_call_pair v u.at ≡ true
is_pair_unit v u unit other = two_words (is_call_pair v u.at) u.words unit.words other

pub no_pair_of : (v : PlainView) (u : Unit) → IsUnit v u → u.words ≡ 1 → IsPairOf v u.at None
no_pair_of v u unit one = record { is = one_word (is_call_pair v u.at) u.words unit.words one; call = tt }

-- ---- how many units a block has, and where each is

pub unit_count : (v : PlainView) (b : Block) (functions : List Function) → IsBlock v functions b → length b.units.items ≡ length (unit_addresses v b.start (words_left v b.start))
unit_count v b functions block = sym (length-map b.units.items unit_at) ∙ ap length block.addresses

pub unit_address : (v : PlainView) (b : Block) (functions : List Function) (k : ℕ) (d : Unit) → IsBlock v functions b → k < length b.units.items → (slice_index_or b.units.items k d).at ≡ b.start + 4 * k
unit_address v b functions k d block below =
    let count = unit_count v b functions block in
    let same = is_chain v b.start (words_left v b.start) in
    let here : slice_index_or (map unit_at b.units.items) k 0 ≡ (slice_index_or b.units.items k d).at = get_or-map unit_at b.units.items k d 0 below in
    sym here
    ∙ (ap (λ (xs : List ℕ). slice_index_or xs k 0) (block.addresses ∙ same)
    ∙ chain_at (goes_on v) b.start (words_left v b.start) k (omega (arith, below, count, ap length same)))

pub some_units : (v : PlainView) (b : Block) (functions : List Function) → HasRanges v → is_code_word v b.start ≡ true → IsBlock v functions b → 0 < length b.units.items
some_units v b functions ranges code block =
    let (range, has_left) = left_at v b.start ranges code in
    let some = some_left v b.start range has_left in
    let same = ap length (is_chain v b.start (words_left v b.start)) in
    let one = chain_some (goes_on v) b.start (words_left v b.start) some in
    let count = unit_count v b functions block in
    omega (arith, count, same, one)
