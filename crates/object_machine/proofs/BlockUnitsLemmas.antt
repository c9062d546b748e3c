-- Units of blocks put one behind the other.
use Rattle.std.proofs.Common.{◌≡◌, inl, inr, ℕ, ◌+◌, ◌-◌, ◌*◌, ◌<◌, nat_lt, true, List, [], ◌∷◌, ◌++◌, map, take, length, slice_index, slice_index_or, length-append, sym, ◌∙◌, ap, subst, arith}
use Rattle.std.proofs.Math.ListN.{get_or-append}
use Rattle.std.proofs.lemmas.Bool.{cases_lt}
use Rattle.std.proofs.lemmas.Bool.Decides.{nat_tests}
use Rattle.std.proofs.lemmas.List.{get_or-append-add, map-append, take_more, get_or_default}
use Rattle.elf_reader.specs.File.{PlainView, plain_view}
use Rattle.elf_reader.specs.declared.view.ElfView.{ElfView}
use Rattle.board_config.specs.declared.board.Board.{Board}
use Rattle.loaded_file.specs.Code.{is_code_word}
use Rattle.loaded_file.specs.Read.{IsRead}
use Rattle.object_graph.specs.declared.parts.Graph.{Graph}
use Rattle.code_blocks.specs.Blocks.{start_of, IsBlock}
use Rattle.code_blocks.specs.declared.parts.Unit.{Unit}
use Rattle.code_blocks.specs.declared.parts.Block.{Block}
use Rattle.code_blocks.specs.declared.parts.Function.{Function}
use Rattle.object_machine.specs.declared.units.Prepared.{Prepared}
use Rattle.object_machine.specs.declared.preparing.BlockUnits.{BlockUnits}
use Rattle.object_machine.specs.Program.{program_of}
use Rattle.object_machine.specs.Units.{no_unit, unit_in, is_fit, AreJoined, AreStarts, IsUnitAt}
use Rattle.object_machine.specs.Reports.{Reports}
use Rattle.object_machine.specs.Preparing.{absent_unit, IsPreparedOf, ArePrepared, AreTold, IsPiece, IsBlockUnits}
use Rattle.object_machine.proofs.RangeLemmas.{read_ranges}
use Rattle.object_machine.proofs.BlockLemmas.{IsNth, nth_unit, IsTold, told, unit_count, unit_address, some_units}

-- ---- lists of units, one behind the other

in_front : (xs ys : List Prepared) (k : ℕ) → k < length xs → unit_in (xs ++ ys) k ≡ unit_in xs k
in_front xs ys k below = get_or-append xs ys no_unit k below

behind : (xs ys : List Prepared) (k : ℕ) → unit_in (xs ++ ys) (length xs + k) ≡ unit_in ys k
behind xs ys k = get_or-append-add xs ys k no_unit

-- a fact of each unit of both lists
each_of : (xs ys : List Prepared) (P : Prepared → Type 0) → ((k : ℕ) → k < length xs → P (unit_in xs k)) → ((k : ℕ) → k < length ys → P (unit_in ys k)) → (k : ℕ) → k < length (xs ++ ys) → P (unit_in (xs ++ ys) k)
each_of xs ys P first second k below =
    let all = length-append xs ys in
    elim (cases_lt k (length xs)) [
      | inl less ↦ subst P (sym (in_front xs ys k less)) (first k less)
      | inr more ↦
          let e : k ≡ length xs + (k - length xs) = omega (arith, more) in
          let there = behind xs ys (k - length xs) in
          subst (λ (j : ℕ). P (unit_in (xs ++ ys) j)) (sym e) (subst P (sym there) (second (k - length xs) (omega (arith, more, below, all))))
    ]

-- a unit at an address stays there
pub still_at : (xs ys : List Prepared) (k a : ℕ) → IsUnitAt xs k a → IsUnitAt (xs ++ ys) k a
still_at xs ys k a is =
    let all = length-append xs ys in
    let below = is.0 in
    (omega (arith, below, all), ap (λ (u : Prepared). u.at) (in_front xs ys k below) ∙ is.1)

pub then_at : (xs ys : List Prepared) (k a : ℕ) → IsUnitAt ys k a → IsUnitAt (xs ++ ys) (length xs + k) a
then_at xs ys k a is =
    let all = length-append xs ys in
    let below = is.0 in
    (omega (arith, below, all), ap (λ (u : Prepared). u.at) (behind xs ys k) ∙ is.1)

joined_both : (xs ys : List Prepared) → AreJoined xs → AreJoined ys → AreJoined (xs ++ ys)
joined_both xs ys first second k below on =
    let all = length-append xs ys in
    elim (cases_lt k (length xs)) [
      | inl less ↦
          let same = in_front xs ys k less in
          let on_here = ap (λ (u : Prepared). u.goes_on) (sym same) ∙ on in
          subst (λ (u : Prepared). IsUnitAt (xs ++ ys) (k + 1) (u.at + 4)) (sym same) (still_at xs ys (k + 1) ((unit_in xs k).at + 4) (first k less on_here))
      | inr more ↦
          let j : ℕ = k - length xs in
          let e : length xs + j ≡ k = omega (arith, more) in
          let same : unit_in (xs ++ ys) k ≡ unit_in ys j = subst (λ (i : ℕ). unit_in (xs ++ ys) i ≡ unit_in ys j) e (behind xs ys j) in
          let on_here = ap (λ (u : Prepared). u.goes_on) (sym same) ∙ on in
          let next = then_at xs ys (j + 1) ((unit_in ys j).at + 4) (second j (omega (arith, more, below, all)) on_here) in
          let f : length xs + (j + 1) ≡ k + 1 = omega (arith, more) in
          subst (λ (u : Prepared). IsUnitAt (xs ++ ys) (k + 1) (u.at + 4)) (sym same) (subst (λ (i : ℕ). IsUnitAt (xs ++ ys) i ((unit_in ys j).at + 4)) f next)
    ]

told_both : (v : PlainView) (board : Board) (g : Graph) (xs ys : List Prepared) → AreTold v board g xs → AreTold v board g ys → AreTold v board g (xs ++ ys)
told_both v board g xs ys first second = record {
  fit = each_of xs ys (λ u. is_fit (length g.objects.items) u ≡ true) first.fit second.fit;
  joined = joined_both xs ys first.joined second.joined;
  told = each_of xs ys (Reports (program_of v board g)) first.told second.told;
}

-- ---- starts

pub starts_more : (xs ys : List Prepared) (starts places : List ℕ) (start : ℕ) → length places ≡ length starts → AreStarts xs starts places → IsUnitAt ys 0 start → AreStarts (xs ++ ys) (starts ++ start ∷ []) (places ++ length xs ∷ [])
starts_more xs ys starts places start same begun first k below =
    let all = length-append starts (start ∷ []) in
    let all_places = length-append places (length xs ∷ []) in
    elim (cases_lt k (length starts)) [
      | inl less ↦
          let (inside, at) = begun k less in
          let place : slice_index (places ++ length xs ∷ []) k ≡ slice_index places k = get_or-append places (length xs ∷ []) 0 k (omega (arith, less, same)) in
          let address : slice_index (starts ++ start ∷ []) k ≡ slice_index starts k = get_or-append starts (start ∷ []) 0 k less in
          (omega (arith, less, same, all_places), rw (place, address) (still_at xs ys (slice_index places k) (slice_index starts k) at))
      | inr more ↦
          let last : k ≡ length starts + 0 = omega (arith, more, below, all) in
          let last_place : k ≡ length places + 0 = omega (arith, last, same) in
          let place : slice_index (places ++ length xs ∷ []) k ≡ length xs + 0 = ap (slice_index (places ++ length xs ∷ [])) last_place ∙ (get_or-append-add places (length xs ∷ []) 0 0 ∙ omega arith) in
          let address : slice_index (starts ++ start ∷ []) k ≡ start = ap (slice_index (starts ++ start ∷ [])) last ∙ get_or-append-add starts (start ∷ []) 0 0 in
          (omega (arith, last_place, all_places), rw (place, address) (then_at xs ys 0 start first))
    ]

-- ---- the units of a block are a piece

pub piece_of : (view : ElfView) (board : Board) (g : Graph) (functions : List Function) (b : Block) (rs : List Prepared) → IsRead view → is_code_word (plain_view view) b.start ≡ true → IsBlock (plain_view view) functions b → ArePrepared (plain_view view) g b.units.items (length b.units.items) rs → IsPiece (plain_view view) board g b.start rs
piece_of view board g functions b rs read code block are =
    let v = plain_view view in
    let units = b.units.items in
    let count = unit_count v b functions block in
    let n = are.count in
    let known : (k : ℕ) → k < length rs → IsTold v board g (unit_in rs k) = λ k below.
    let within : k < length units = omega (arith, below, n) in
    let u = slice_index_or units k absent_unit in
    let nth = subst (λ (c : ℕ). IsNth v (b.start + 4 * k) k c) (sym count) (nth_unit v b.start k (read_ranges view read) code (omega (arith, within, count))) in
    told view board g (b.start + 4 * k) k (length units) u (unit_in rs k) read nth within (block.units k absent_unit within) (unit_address v b functions k absent_unit block within) (are.each k within) in
    let at : (k : ℕ) → k < length rs → (unit_in rs k).at ≡ b.start + 4 * k = λ k below.
    let within : k < length units = omega (arith, below, n) in
    (are.each k within).at ∙ unit_address v b functions k absent_unit block within in
    record {
      told = record {
        fit = λ k below. (known k below).fit;
        joined = λ k below on.
            let within : k < length units = omega (arith, below, n) in
            let more : nat_lt (k + 1) (length units) ≡ true = sym (are.each k within).goes_on ∙ on in
            let next : k + 1 < length rs = grind (arith, nat_tests, more, n) in
            let here = at k below in
            let there = at (k + 1) next in
            (next, omega (arith, here, there));
        told = λ k below. (known k below).tells;
      };
      first =
          let some = some_units v b functions (read_ranges view read) code block in
          let begins : 0 < length rs = omega (arith, n, some) in
          let here = at 0 begins in
          (begins, omega (arith, here));
    }

-- one block more
pub block_units_more : (v : PlainView) (board : Board) (g : Graph) (blocks : List Block) (n : ℕ) (old new : BlockUnits) (b : Block) (rs : List Prepared) → n < length blocks → slice_index_or blocks n b ≡ b → IsBlockUnits v board g blocks n old → IsPiece v board g b.start rs → new.units.items ≡ old.units.items ++ rs → new.starts.items ≡ old.starts.items ++ b.start ∷ [] → new.places.items ≡ old.places.items ++ length old.units.items ∷ [] → IsBlockUnits v board g blocks (n + 1) new
block_units_more v board g blocks n old new b rs below is block_units piece units starts places =
    let further : take (n + 1) blocks ≡ take n blocks ++ b ∷ [] = take_more blocks n b below ∙ ap (λ (x : Block). take n blocks ++ x ∷ []) is in
    let all_starts = length-append old.starts.items (b.start ∷ []) in
    let all_places = length-append old.places.items (length old.units.items ∷ []) in
    let count = block_units.places in
    record {
      told = subst (AreTold v board g) (sym units) (told_both v board g old.units.items rs block_units.told piece.told);
      starts = starts ∙ (ap (λ (xs : List ℕ). xs ++ b.start ∷ []) block_units.starts ∙ (sym (map-append start_of (take n blocks) (b ∷ [])) ∙ ap (map start_of) (sym further)));
      places = rw (starts, places) (omega (arith, all_starts, all_places, count));
      begun = rw (units, starts, places) (starts_more old.units.items rs old.starts.items old.places.items b.start count block_units.begun piece.first);
    }

-- ---- one unit more

pub prepared_more : (v : PlainView) (g : Graph) (units : List Unit) (k : ℕ) (old new : List Prepared) (r : Prepared) (d : Unit) → k < length units → ArePrepared v g units k old → IsPreparedOf v g (slice_index_or units k d) (nat_lt (k + 1) (length units)) r → new ≡ old ++ r ∷ [] → ArePrepared v g units (k + 1) new
prepared_more v g units k old new r d below so_far one is =
    let all = length-append old (r ∷ []) in
    let n = so_far.count in
    let here : IsPreparedOf v g (slice_index_or units k absent_unit) (nat_lt (k + 1) (length units)) r =
    subst (λ (u : Unit). IsPreparedOf v g u (nat_lt (k + 1) (length units)) r) (get_or_default units k d absent_unit below) one in
    record {
      count = ap length is ∙ omega (arith, all, n);
      each = λ j less.
          subst (λ (xs : List Prepared). IsPreparedOf v g (slice_index_or units j absent_unit) (nat_lt (j + 1) (length units)) (unit_in xs j)) (sym is)
          (elim (cases_lt j k) [
            | inl earlier ↦ subst (IsPreparedOf v g (slice_index_or units j absent_unit) (nat_lt (j + 1) (length units))) (sym (in_front old (r ∷ []) j (omega (arith, earlier, n)))) (so_far.each j earlier)
            | inr last ↦
                let same : j ≡ k = omega (arith, last, less) in
                let at : j ≡ length old + 0 = omega (arith, same, n) in
                let there : unit_in (old ++ r ∷ []) j ≡ r = ap (unit_in (old ++ r ∷ [])) at ∙ behind old (r ∷ []) 0 in
                subst (λ (i : ℕ). IsPreparedOf v g (slice_index_or units i absent_unit) (nat_lt (i + 1) (length units)) (unit_in (old ++ r ∷ []) j)) (sym same)
                (subst (IsPreparedOf v g (slice_index_or units k absent_unit) (nat_lt (k + 1) (length units))) (sym there) here)
          ]);
    }
