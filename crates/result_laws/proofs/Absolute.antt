-- Where no relocation makes an address relative to the pc, each upper part of one is a LUI's, so every run is paired.
use Rattle.std.proofs.Common.{◌≡◌, ◌⊎◌, inl, inr, ℕ, true, length, Option, Some, None, refl, sym, ◌∙◌, subst}
use Rattle.list_checks.specs.First.{first_below}
use Rattle.rv32im.specs.Words.{upper_half}
use Rattle.rv32im.specs.Fields.{rd_of}
use Rattle.rv32im.proofs.Meaning.{same_instruction}
use Rattle.elf_reader.specs.File.{PlainView}
use Rattle.board_config.specs.declared.board.Board.{Board}
use Rattle.loaded_file.specs.Code.{image_word}
use Rattle.object_graph.specs.Fixed.{is_movable}
use Rattle.object_graph.specs.Graphs.{IsGraph}
use Rattle.object_graph.specs.Laws.{MeansBy, LoadsUpper, lead}
use Rattle.object_graph.specs.declared.parts.Graph.{Graph}
use Rattle.object_graph.proofs.LeadLemmas.{high_sites_lead}
use Rattle.cell_values.specs.Objects.{object_of}
use Rattle.object_machine.specs.Program.{Program, Target, named_by, program_of}
use Rattle.object_machine.specs.Start.{start_of}
use Rattle.object_machine.specs.Paired.{at_start}
use Rattle.simulation.specs.Made.{IsAuipcAt}
use Rattle.simulation.proofs.AtHome.{made_at_start}
use Rattle.simulation.proofs.PairedRuns.{IsLuiAt, HasLuisAlone, all_paired}
use Rattle.result_laws.specs.Absolute.{IsAbsolute, AbsoluteRunsArePaired}
use Rattle.cell_values.proofs.GraphObjects.{object_moves}
use Rattle.result_laws.proofs.Sites.{Makes, SiteBy, by_high, by_wide, by_store, by_pair, by_low, site_of}
use Rattle.result_laws.proofs.Named.{Names, named_found, auipc_by}

module _ (v : PlainView) (board : Board) (g : Graph) (graph : IsGraph v board g) (absolute : IsAbsolute v) where
  abbrev p : Program
  p = program_of v board g

  never_high : (home n i : ℕ) → MeansBy v 23 home n i → ⊥
  never_high home n i means = absolute.highs i means.below means.counted means.is_kind

  moves : (a : ℕ) (t : Target) → p.site a ≡ Some t → is_movable v board (object_of g t.object).home (object_of g t.object).size ≡ true
  moves a t is = object_moves v board g t.object graph.objects (site_of v g a t graph.sites is).below

  uppers : (a : ℕ) (t : Target) → p.site a ≡ Some t → IsAuipcAt p a → ⊥
  uppers a t is auipc =
      let home : ℕ = (object_of g t.object).home in
      let n : ℕ = (object_of g t.object).size in
      let high = auipc_by v board home n t.offset a (moves a t is) auipc.1.1.0 (site_of v g a t graph.sites is).by in
      never_high home n high.0 high.1.makes.means

  -- an absolute low part names no AUIPC
  unnamed_at : (kind home n offset a i : ℕ) → (kind ≡ 27) ⊎ (kind ≡ 28) → Makes v kind home n offset a i → (o : Option ℕ) → first_below (named_by v a) (length v.relocs) ≡ o → o ≡ None
  unnamed_at kind home n offset a i low makes None is = refl
  unnamed_at kind home n offset a i low makes (Some b) is =
      let found = named_found v a b is in
      let names : Names v a b found.0 = found.1 in
      let means = makes.means in
      absurd (absolute.lows i found.0 means.below names.below means.counted names.counted
      (subst (λ (x : ℕ). (x ≡ 27) ⊎ (x ≡ 28)) (sym means.is_kind) low) names.low (makes.at ∙ sym names.at))

  unnamed : (kind home n offset a i : ℕ) → (kind ≡ 27) ⊎ (kind ≡ 28) → Makes v kind home n offset a i → p.named a ≡ None
  unnamed kind home n offset a i low makes =
      unnamed_at kind home n offset a i low makes (first_below (named_by v a) (length v.relocs)) refl

  lows_by : (home n offset a : ℕ) → is_movable v board home n ≡ true → SiteBy v home n offset a → IsLuiAt p a ⊎ (p.named a ≡ None)
  lows_by home n offset a movable (by_high i makes) =
      let leads = high_sites_lead v board home n i movable makes.means in
      let loads : LoadsUpper (image_word v a) (lead v home i) =
      subst (λ (x : ℕ). LoadsUpper (image_word v x) (lead v home i)) makes.at leads.part in
      inl (rd_of (image_word v a), (upper_half (lead v home i), loads))
  lows_by home n offset a movable (by_wide i makes) = inr (unnamed 27 home n offset a i (inl refl) makes)
  lows_by home n offset a movable (by_store i makes) = inr (unnamed 28 home n offset a i (inr refl) makes)
  lows_by home n offset a movable (by_pair i high) = absurd (never_high home n i high.makes.means)
  lows_by home n offset a movable (by_low j i low) = absurd (never_high home n i low.high.makes.means)

  lows : (a : ℕ) (t : Target) → p.site a ≡ Some t → IsLuiAt p a ⊎ (p.named a ≡ None)
  lows a t is =
      lows_by (object_of g t.object).home (object_of g t.object).size t.offset a (moves a t is) (site_of v g a t graph.sites is).by

  luis_alone : HasLuisAlone p
  luis_alone = record { uppers = uppers; lows = lows }

pub absolute_runs_are_paired : AbsoluteRunsArePaired
absolute_runs_are_paired v board g input n s graph absolute steps =
    let p : Program = program_of v board g in
    all_paired same_instruction p (luis_alone v board g graph absolute) n (start_of v p g input) s at_start
    (made_at_start v p g input) steps
