-- How many bytes the stubs of a choice take: those that its borders have without a piece, and what its pieces change.
use Rattle.std.proofs.Common.{◌≡◌, ◌∙◌, ◌⊎◌, inl, inr, ℕ, suc, ◌+◌, ◌-◌, ◌*◌, ◌<◌, ◌≤◌, ◌==◌, Bool, true, false, not, ◌&&◌, ◌||◌, List, [], ◌∷◌, length, get_or, refl, sym, ap, arith, if◌then◌else◌}
use Rattle.std.specs.List.{All, AllPairs, sum_by}
use Rattle.std.proofs.lemmas.Bool.{false_from_ne_true}
use Rattle.std.proofs.lemmas.Bool.Decides.{nat_tests}
use Rattle.std.proofs.lemmas.List.Sums.{sum_by-cons, sum_by_more, sum_by-take-le}
use Rattle.list_checks.specs.Sorted.{sum_below}
use Rattle.list_checks.specs.Tests.{any_below}
use Rattle.list_checks.proofs.SumLemmas.{sum_same}
use Rattle.list_checks.proofs.TestLemmas.{either, both, any_at, any_found}
use Rattle.object_graph.specs.declared.parts.Graph.{Graph}
use Rattle.code_blocks.specs.Early.{has}
use Rattle.code_blocks.specs.Leads.{leads_to}
use Rattle.code_blocks.specs.Numbers.{start_at}
use Rattle.code_blocks.specs.declared.parts.Code.{Code}
use Rattle.dataflow.specs.Overlaid.{region_in, is_border}
use Rattle.region_former.specs.Borders as regions_of
use Rattle.block_splitter.specs.Forms.{holds_block}
use Rattle.block_splitter.specs.Pieces.{is_entry}
use Rattle.block_splitter.proofs.CopySizeLemmas.{range_is, held}
use Rattle.result_laws.specs.Entries.{TellsBorders}
use Rattle.result_laws.specs.PlacedPieces.{PlacedPiece, HaveOtherBlocks}
use Rattle.result_laws.specs.Choices.{displaced_at}
use Rattle.result_laws.specs.ChosenPlacement.{ChosenPlacement, no_piece, piece_of, IsChosenPiece}
use Rattle.result_laws.specs.PlacedView.{enters_piece}
use Rattle.relink_core.proofs.Sums.{sum_added}

-- ---- what pieces change

-- the bytes for block `b` as a border without a copy; of jumps to its copies; and of the displaced words that these replace
abbrev pub bare_at : Graph → Code → List Bool → ℕ → ℕ
bare_at g c borders b = if is_border borders b then 88 + 4 * displaced_at g c b else 0

abbrev pub jump_bytes : Code → ℕ → PlacedPiece → ℕ
jump_bytes c b x = if enters_piece c b x then 8 else 0

abbrev pub border_at : Graph → Code → List Bool → ℕ → ℕ
border_at g c borders b = if is_border borders b then 4 * displaced_at g c b else 0

abbrev pub saved_bytes : Graph → Code → List Bool → ℕ → PlacedPiece → ℕ
saved_bytes g c borders b x = if enters_piece c b x then border_at g c borders b else 0

-- one piece at most has a block
module _ (c : Code) (b v : ℕ) where
  abbrev part : PlacedPiece → ℕ
  part x = if enters_piece c b x then v else 0

  pub none_enters : (xs : List PlacedPiece) → ((k : ℕ) (d : PlacedPiece) → k < length xs → enters_piece c b (get_or xs k d) ≡ true → ⊥) → sum_by part xs ≡ 0
  none_enters [] none = refl
  none_enters (x ∷ xs) none =
      let one = sum_by-cons part x xs in
      let out : enters_piece c b x ≡ false = false_from_ne_true (enters_piece c b x) (λ is. none 0 x (omega arith) is) in
      let here : part x ≡ 0 = ap (λ (t : Bool). if t then v else 0) out in
      let rest = none_enters xs (λ k d below is. none (suc k) d (omega (arith, below)) is) in
      omega (arith, one, here, rest)

  pub one_enters : (xs : List PlacedPiece) → AllPairs HaveOtherBlocks xs → sum_by part xs ≤ v
  one_enters [] apart = omega arith
  one_enters (x ∷ xs) apart =
      by (enters_piece c b x) refl (one_enters xs (λ i j d before below. apart (suc i) (suc j) d (omega (arith, before)) (omega (arith, below))))
    where
      by : (t : Bool) → enters_piece c b x ≡ t → sum_by part xs ≤ v → sum_by part (x ∷ xs) ≤ v
      by true is later =
          let one = sum_by-cons part x xs in
          let here : part x ≡ v = ap (λ (t : Bool). if t then v else 0) is in
          let holds = both (holds_block b x.range) (is_entry c x.range b) is in
          let rest = none_enters xs (λ k d below other.
          let y = get_or xs k d in
          apart 0 (suc k) d (omega arith) (omega (arith, below)) b holds.0 (both (holds_block b y.range) (is_entry c y.range b) other).0) in
          omega (arith, one, here, rest)
      by false is later =
          let one = sum_by-cons part x xs in
          let here : part x ≡ 0 = ap (λ (t : Bool). if t then v else 0) is in
          omega (arith, one, here, later)

  pub some_enters : (xs : List PlacedPiece) (k : ℕ) (d : PlacedPiece) → k < length xs → enters_piece c b (get_or xs k d) ≡ true → v ≤ sum_by part xs
  some_enters xs k d below is =
      let here : part (get_or xs k d) ≡ v = ap (λ (t : Bool). if t then v else 0) is in
      let more = sum_by_more part xs k d below in
      let le = sum_by-take-le part xs (k + 1) in
      omega (arith, here, more, le)

module _ (g : Graph) (c : Code) (pl : ChosenPlacement) (borders : TellsBorders c pl.regions pl.borders) (pieces : All (IsChosenPiece c g pl.regions pl.sites) pl.pieces) (blocks : AllPairs HaveOtherBlocks pl.pieces) where
  abbrev pub gains : ℕ → ℕ
  gains b = sum_by (jump_bytes c b) pl.pieces

  abbrev pub losses : ℕ → ℕ
  losses b = sum_by (saved_bytes g c pl.borders b) pl.pieces

  abbrev pub room : ℕ → ℕ
  room b = bare_at g c pl.borders b + gains b - losses b

  -- a block of a piece by which control enters its region is an entry of the piece
  pub border_enters : (b n : ℕ) → n < length pl.pieces → holds_block b (piece_of pl n).range ≡ true → is_border pl.borders b ≡ true → enters_piece c b (piece_of pl n) ≡ true
  border_enters b n below holds border = rw (holds, entry) refl
    where
      is : IsChosenPiece c g pl.regions pl.sites (piece_of pl n)
      is = pieces n no_piece below

      inside : b < length c.blocks.items
      inside =
          let range = (range_is c (piece_of pl n).range is.copied.shape).below in
          let last = (held b (piece_of pl n).range holds).1 in
          omega (arith, range, last)

      told : (has c.indirect.items (start_at c b) ≡ true) ⊎ (any_below (regions_of.comes_from_outside c pl.regions b) (length c.blocks.items) ≡ true)
      told =
          let tells : regions_of.is_border c pl.regions b ≡ true = sym (borders b inside) ∙ border in
          either (has c.indirect.items (start_at c b)) (any_below (regions_of.comes_from_outside c pl.regions b) (length c.blocks.items))
          (both (not (region_in pl.regions b == 0)) _ tells).1

      or_left : (p q : Bool) → p ≡ true → p || q ≡ true
      or_left p q is = rw is refl

      or_right : (p q : Bool) → q ≡ true → p || q ≡ true
      or_right true q is = refl
      or_right false q is = is

      entry : is_entry c (piece_of pl n).range b ≡ true
      entry = elim told [
        | inl indirect ↦ or_left _ _ indirect
        | inr direct ↦
            let found = any_found (regions_of.comes_from_outside c pl.regions b) (length c.blocks.items) direct in
            let a : ℕ = found.0 in
            let parts = both (leads_to c a b) (not (region_in pl.regions a == region_in pl.regions b)) found.2 in
            let apart : holds_block a (piece_of pl n).range ≡ false =
            false_from_ne_true (holds_block a (piece_of pl n).range) (λ inside_too. let same = is.region a b inside_too holds in let other = parts.1 in grind (arith, nat_tests, same, other)) in
            or_right (has c.indirect.items (start_at c b)) _
            (any_at (λ a. not (holds_block a (piece_of pl n).range) && leads_to c a b) (length c.blocks.items) a found.1 (rw (apart, parts.0) refl))
      ]

  saved_few : (b : ℕ) → losses b ≤ bare_at g c pl.borders b
  saved_few b =
      let few = one_enters c b (border_at g c pl.borders b) pl.pieces blocks in
      let within = below_bare (is_border pl.borders b) (4 * displaced_at g c b) in
      omega (arith, few, within)
    where
      below_bare : (t : Bool) (n : ℕ) → (if t then n else 0) ≤ (if t then 88 + n else 0)
      below_bare true n = omega arith
      below_bare false n = omega arith

  pub room_summed : (n : ℕ) → sum_below room n + sum_below losses n ≡ sum_below (bare_at g c pl.borders) n + sum_below gains n
  room_summed n =
      let one = sum_added room losses n in
      let other = sum_added (bare_at g c pl.borders) gains n in
      let same = sum_same (λ b. room b + losses b) (λ b. bare_at g c pl.borders b + gains b) n (λ b below. let few = saved_few b in omega (arith, few)) in
      omega (arith, one, other, same)
