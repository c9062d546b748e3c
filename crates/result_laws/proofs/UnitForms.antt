-- What forms of units have in common wherever they stand: a row of words, or a word that does for the unit's own.
use Rattle.std.proofs.Common.{◌≡◌, ◌∙◌, ◌⊎◌, inl, inr, ℕ, ◌+◌, ◌<◌, ◌==◌, true, false, List, [], ◌∷◌, length, slice_index_or, Option, Some, None, refl, sym, ap, subst, arith}
use Rattle.std.specs.List.{list_any}
use Rattle.std.proofs.lemmas.Bool.{both_ways}
use Rattle.rv32im.specs.Words.{plus}
use Rattle.rv32im.specs.Acts.{register}
use Rattle.rv32im.specs.Table.{Means}
use Rattle.rv32im.specs.Sequences.{MeanAll}
use Rattle.rv32im.specs.declared.instructions.Instr.{Instr}
use Rattle.rv32im.proofs.Meaning.{same_instruction, in_range}
use Rattle.elf_reader.specs.File.{PlainView, view_in}
use Rattle.board_config.specs.declared.board.Board.{Board}
use Rattle.flat_machine.specs.State.{State}
use Rattle.loaded_file.specs.Code.{image_word}
use Rattle.object_graph.specs.declared.parts.Graph.{Graph}
use Rattle.code_blocks.specs.Leaders.{is_call_pair}
use Rattle.code_blocks.proofs.PairLemmas.{pair_is_code}
use Rattle.code_blocks.specs.Leads.{units_at, no_unit}
use Rattle.code_blocks.specs.declared.parts.Unit.{Unit}
use Rattle.code_blocks.specs.declared.parts.Code.{Code}
use Rattle.block_splitter.specs.Forms.{is_site, body_at, unit_in}
use Rattle.block_splitter.specs.Copies.{address_in, word_of_unit}
use Rattle.result_laws.specs.HomeUnits.{home_words}
use Rattle.result_laws.proofs.Setting.{setting}
use Rattle.result_laws.proofs.Alike.{IsStraight}
use Rattle.result_laws.proofs.CopySites.{others_keep_words}
use Rattle.cell_values.specs.Stands.{address_word}
use Rattle.object_machine.specs.Program.{Program, Target, falls_from}
use Rattle.object_machine.specs.Step.{Reads}
use Rattle.relocator.specs.SiteWords.{IsRewritten}
use Rattle.simulation.specs.Setups.{Setup}
use Rattle.simulation.specs.Units.{StandsAt}
use Rattle.simulation.specs.Forms.{IsAt, ActsAs, OneWordFor, IsFollowed, home_of, CanCome, RunsFor, IsRowKind, InWords, InRow}
use Rattle.result_laws.specs.LiveUnits.{code_unit, StandsThere, UnitsStand}
use Rattle.result_laws.specs.HomeLaws.{IsAccepted, unnamed_in}
use Rattle.result_laws.proofs.HomeSound.{loadable}
use Rattle.result_laws.proofs.Words.{code_below}
use Rattle.result_laws.proofs.CodeUnits.{body_units, units_stand}
use Rattle.result_laws.proofs.UnitWords.{acts_for}
use Rattle.result_laws.proofs.PlacedUnits.{straight_acts, site_if}
use Rattle.result_laws.specs.Entries.{RunsIn}
use Rattle.result_laws.specs.ChosenPlacement.{ChosenPlacement, places_in}
use Rattle.result_laws.specs.PlacedLaws.{IsPlacedResult}
use Rattle.result_laws.proofs.PlacedChosen.{sound}
use Rattle.result_laws.proofs.Fetches.{RunsOver, PairOver, FormOver}
use Rattle.result_laws.proofs.Standing.{unit_site}

-- `fetched` are the addresses of the words that run
module _ (file : List ℕ) (board : Board) (g : Graph) (accepted : IsAccepted file board g) (l : Setup) (live arrive : ℕ → ℕ → Type 0) (r u a : ℕ) (low : u + 4 < 4294967296) (fetched : State → List ℕ) where
  abbrev v : PlainView
  v = view_in file

  abbrev p : Program
  p = unnamed_in file board g

  abbrev pub Form : Type 0
  Form = FormOver p l live arrive r u a fetched

  -- ---- rows

  pub mean_one : (i : Instr) → is_call_pair v u ≡ false → Means (image_word v u) i → MeanAll (home_words v u) (i ∷ [])
  mean_one i single means =
      let one : home_words v u ≡ image_word v u ∷ [] = rw single refl in
      subst (λ (ws : List ℕ). MeanAll ws (i ∷ [])) (sym one) (means, tt)

  -- the same run is one for an equal instruction
  abbrev pub same_runs : (t : State) (i j : Instr) → i ≡ j → RunsFor p live arrive u t i → RunsFor p live arrive u t j
  same_runs t i j same run =
      record {
        fetched = run.fetched;
        regs = run.regs;
        to = run.to;
        some = run.some;
        few = run.few;
        ran = run.ran;
        alike =
            subst (λ (x : Instr). (k : ℕ) → live (home_of u t x).pc k → register run.regs k ≡ register (home_of u t x).regs k) same
            run.alike;
        arrives = subst (λ (x : Instr). CanCome p u x (home_of u t x).pc → arrive (home_of u t x).pc run.to) same run.arrives;
      }

  -- for a unit of one word
  pub row_single : (i : Instr) → is_call_pair v u ≡ false → Means (image_word v u) i → IsRowKind i (p.site u) → ((t : State) → IsAt l r a t → RunsOver p live arrive u (fetched t) t i) → Form
  row_single i single means kind row = (
    InRow (record {
      one = λ j one reads.
          let same = same_instruction (image_word v u) i j means reads in
          (subst (λ (x : Instr). IsRowKind x (p.site u)) same kind, λ t here. same_runs t i j same (row t here).0);
      meant = λ one none. none i means;
      pair = λ pair. absurd (both_ways (is_call_pair v u) single pair);
      below = low;
    }),
    record {
      one = λ j one reads t here. (row t here).1;
      pair = λ pair. absurd (both_ways (is_call_pair v u) single pair);
    },
  )

  -- and of two
  pub row_pair : is_call_pair v u ≡ true → ((t : State) → IsAt l r a t → PairOver p live arrive u (fetched t) t) → Form
  row_pair pair row = (
    InRow (record {
      one = λ j one reads. absurd (both_ways (is_call_pair v u) one pair);
      meant = λ one none. absurd (both_ways (is_call_pair v u) one pair);
      pair = λ is t here. (row t here).0;
      below = low;
    }),
    record {
      one = λ j one reads. absurd (both_ways (is_call_pair v u) one pair);
      pair = λ is t here. (row t here).1;
    },
  )

  pub pair_low : is_call_pair v u ≡ true → u + 8 < 4294967296
  pair_low pair = let second = code_below v (u + 4) (loadable file board g accepted) (pair_is_code v u pair).1 in omega (arith, second)

  -- ---- one word for one word

  pub by_words : is_call_pair v u ≡ false → ((t : State) → fetched t ≡ a ∷ []) → ((read : Option Instr) → Reads (image_word v u) read → OneWordFor p l arrive r u a read) → ((i : Instr) → Means (image_word v u) i → IsFollowed i → falls_from v u ≡ true → arrive (u + 4) (plus a 4)) → Form
  by_words single alone one falls = (
    InWords (record {
      one = λ read alone reads. one read reads;
      pair = λ pair. absurd (both_ways (is_call_pair v u) single pair);
      falls = λ i alone reads follows on. falls i reads follows on;
      below = low;
    }),
    record { one = λ single. alone; two = λ pair. absurd (both_ways (is_call_pair v u) single pair) },
  )

  -- of a unit that means something
  pub one_word : (i : Instr) → is_call_pair v u ≡ false → ((t : State) → fetched t ≡ a ∷ []) → Means (image_word v u) i → OneWordFor p l arrive r u a (Some i) → (IsFollowed i → falls_from v u ≡ true → arrive (u + 4) (plus a 4)) → Form
  one_word i single alone means for next =
      by_words single alone by_read
      (λ j reads follows on. next (subst IsFollowed (same_instruction (image_word v u) j i reads means) follows) on)
    where
      by_read : (read : Option Instr) → Reads (image_word v u) read → OneWordFor p l arrive r u a read
      by_read None none = absurd (none i means)
      by_read (Some j) reads =
          subst (λ (x : Instr). OneWordFor p l arrive r u a (Some x)) (same_instruction (image_word v u) i j means reads) for

-- ---- plain units

module _ (file out : List ℕ) (board : Board) (g : Graph) (c : Code) (pl : ChosenPlacement) (result : IsPlacedResult file out board g c pl) (arrive : ℕ → ℕ → Type 0) (r u a b k : ℕ) (stands : StandsThere c u b k) (may : RunsIn pl.regions b r) where
  open (setting file out board g c pl result) use {v as from, p as q, l as s}

  abbrev unit : Unit
  unit = code_unit c b k

  units : UnitsStand from q c
  units = units_stand file board g c result.accepted result.code

  -- one that is no site has its own word
  own_word : is_site g u ≡ false → word_of_unit pl.sites unit ≡ image_word from u
  own_word no_site =
      let same : (body_at c.blocks.items b).units ≡ units_at c b = body_units c.blocks.items b in
      let count : length (body_at c.blocks.items b).units ≡ length (units_at c b) = ap (λ (us : List Unit). length us) same in
      let is = stands.is in
      let others = result.placement.sites.has.others b k (units.inside b k is) (omega (arith, is, count)) in
      let at : (unit_in (body_at c.blocks.items b) k).at ≡ unit.at = ap (λ (us : List Unit). (slice_index_or us k no_unit).at) same in
      let none : list_any (λ x. address_in x == unit.at) pl.sites ≡ false =
      subst (λ (n : ℕ). list_any (λ x. address_in x == n) pl.sites ≡ is_site g n) at others ∙ (ap (is_site g) stands.at ∙ no_site) in
      others_keep_words pl.sites unit none ∙ ((units.tells b k is).raw ∙ ap (image_word from) stands.at)

  -- its word elsewhere does for it, by what its site makes
  pub plain_word : (i : Instr) → Means (image_word from u) i → (is_site g u ≡ true) ⊎ IsStraight i → (x : ℕ) → word_of_unit pl.sites unit ≡ x → StandsAt s r a x → OneWordFor q s arrive r u a (Some i)
  plain_word i means straight x word there = by_target (q.site u) refl
    where
      by_target : (o : Option Target) → q.site u ≡ o → OneWordFor q s arrive r u a (Some i)
      by_target None at =
          let no_site = site_if g.sites.items u at in
          let acts : IsStraight i = elim straight [ inl is ↦ absurd (both_ways (is_site g u) no_site is) | inr so ↦ so ] in
          let means_x : Means x i = subst (λ (n : ℕ). Means n i) (sym (own_word no_site) ∙ word) means in
          (x, (i, (there, (means_x, (in_range (image_word from u) i means, subst (λ (o : Option Target). ActsAs q s arrive r u a o i i) (sym at) (straight_acts q arrive u a i acts))))))
      by_target (Some t) at =
          let made = unit_site file out board g c pl result r u b k t stands may at in
          let j : Instr = made.1.to in
          let same = same_instruction (image_word from u) made.1.from i made.1.old_means means in
          let place = address_word (places_in board g pl r) t.object t.offset in
          let rewritten : IsRewritten made.0 place i j = subst (λ (n : Instr). IsRewritten made.0 place n j) same made.1.rewritten in
          let acts : ActsAs q s arrive r u a (Some t) i j =
          acts_for q s r u t (sound file out board g c pl result r) refl arrive a made.0 i j rewritten in
          (x, (j, (there, (subst (λ (n : ℕ). Means n j) word made.1.new_means, (in_range (image_word from u) i means, subst (λ (o : Option Target). ActsAs q s arrive r u a o i j) (sym at) acts)))))
