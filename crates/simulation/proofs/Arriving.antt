-- Ways lead to forms.
use Rattle.std.proofs.Common.{◌≡◌, ◌∙◌, ℕ, suc, ◌+◌, ◌*◌, ◌/◌, ◌%◌, List, [], ◌∷◌, length, map, ℤ, refl, sym, ap, subst}
use Rattle.std.proofs.lemmas.List.{length-append, map-append}
use Rattle.rv32im.specs.Words.{plus, offset}
use Rattle.rv32im.specs.Table.{Means}
use Rattle.rv32im.specs.Acts.{Registers, register, with_register}
use Rattle.rv32im.specs.declared.instructions.Instr.TheVariants.{Lui, Jal, Jalr}
use Rattle.flat_machine.specs.Lines.{Ran, fetch_of, went}
use Rattle.flat_machine.specs.Sizes.{HasWords}
use Rattle.flat_machine.specs.State.{State}
use Rattle.flat_machine.specs.Runs.{Does}
use Rattle.flat_machine.proofs.Runs.{does_joined}
use Rattle.flat_machine.proofs.SilentLines.{more_ran, two_ran, read_there, read_other}
use Rattle.object_machine.specs.Program.{Program}
use Rattle.object_machine.specs.State.{SourceState, value}
use Rattle.object_machine.specs.Paired.{Origins}
use Rattle.cell_values.specs.Stands.{Stands}
use Rattle.simulation.specs.Setups.{Setup}
use Rattle.simulation.specs.Units.{StandsAt}
use Rattle.simulation.specs.Relation.{Alike}
use Rattle.simulation.specs.Forms.{IsAt}
use Rattle.simulation.specs.Ways.{Way, There, Near, Far, Across, way_fetched, reached_by}
use Rattle.simulation.proofs.Steps.{alike_on, does_words, is_at}
use Rattle.simulation.proofs.Controls.{word_runs}

module _ (p : Program) (l : Setup) (live : ℕ → ℕ → Type 0) (r v : ℕ) (s : SourceState) (m : Origins) where
  -- registers that don't matter may differ
  pub dead_alike : (t : State) (f : Registers) (c : ℕ) → HasWords (went t f c) → ((k : ℕ) → live v k → register f k ≡ register t.hart.regs k) → Alike p l live r v s m t → Alike p l live r v s m (went t f c)
  dead_alike t f c words same alike =
      alike_on p l live r v v s m m t s.regs s.pc f c alike
      (λ k lives. subst (λ w. Stands p.objects (l.place r) (l.upper r) (m.regs k) (value s.regs k) w) (sym (same k lives)) (alike.regs k lives))
      alike.values alike.fixed alike.cells words

  -- so words may run that write none but these
  ran_alike : (t : State) (fetched : List ℕ) (f : Registers) (c : ℕ) → Ran t fetched f c → ((k : ℕ) → live v k → register f k ≡ register t.hart.regs k) → Alike p l live r v s m t → Alike p l live r v s m (went t f c)
  ran_alike t fetched f c ran same alike =
      dead_alike t f c (does_words (map (fetch_of t.hart.mem) fetched) t (went t f c) alike.words ran) same alike

  module _ (form : ℕ → ℕ → ℕ → Type 0) where
    -- words that run lead to a form, and there states are alike
    pub record Led (t : State) (fetched : List ℕ) : Type 0 where
      pub regs : Registers
      pub to : ℕ
      pub ran : Ran t fetched regs to
      pub alike : Alike p l live r v s m (went t regs to)
      pub at : form r v to

    far_ran : (c w x d h : ℕ) (z : ℤ) (t : State) → IsAt l r c t → StandsAt l r c w → Means w (Lui d h) → StandsAt l r (plus c 4) x → Means x (Jalr 0 d z) → (d ≡ 0 → ⊥) → Ran t (c ∷ plus c 4 ∷ []) (with_register t.hart.regs d (h * 4096 % 4294967296)) (reached_by h z)
    far_ran c w x d h z t here stands means stands_behind jumps other =
        let a : ℕ = h * 4096 % 4294967296 in
        let f : Registers = with_register t.hart.regs d a in
        let next : plus t.hart.pc 4 ≡ plus c 4 = ap (λ q. plus q 4) here.at in
        let t' : State = went t f (plus c 4) in
        let first : Ran t (c ∷ []) f (plus c 4) = word_runs l r c w t (Lui d h) (plus c 4) here stands means tt next in
        let words : HasWords t' = does_words (fetch_of t.hart.mem c ∷ []) t t' here.words first in
        let there : IsAt l r (plus c 4) t' =
        record { at = refl; map = here.map; going = here.going; words = words; still = here.still } in
        let goes : offset (register f d) z / 2 * 2 ≡ reached_by h z =
        ap (λ q. offset q z / 2 * 2) (read_there t.hart.regs d a other) in
        let second : Ran t' (plus c 4 ∷ []) f (reached_by h z) =
        word_runs l r (plus c 4) x t' (Jalr 0 d z) (reached_by h z) there stands_behind jumps tt goes in
        more_ran t c (plus c 4 ∷ []) f f (plus c 4) (reached_by h z) first second

    pub way_leads : (n c : ℕ) (way : Way l live form r v n c) (t : State) → t.hart.pc ≡ c → Alike p l live r v s m t → Led t (way_fetched l live form r v n c way)
    way_leads _ _ (There c at) t here alike =
        record { regs = t.hart.regs; to = t.hart.pc; ran = refl; alike = alike; at = subst (form r v) (sym here) at }
    way_leads _ _ (Near n c w z stands means way) t here alike =
        let to : ℕ = offset c z in
        let there : IsAt l r c t = subst (λ q. IsAt l r q t) here (is_at p l live r v s m t alike) in
        let one : Ran t (c ∷ []) t.hart.regs to =
        word_runs l r c w t (Jal 0 z) to there stands means tt (ap (λ q. offset q z) here) in
        let led = way_leads n to way (went t t.hart.regs to) refl (ran_alike t (c ∷ []) t.hart.regs to one (λ k lives. refl) alike) in
        record {
          regs = led.regs;
          to = led.to;
          ran = more_ran t c (way_fetched l live form r v n to way) t.hart.regs led.regs to led.to one led.ran;
          alike = led.alike;
          at = led.at;
        }
    way_leads _ _ (Far n c w x d h z stands means stands_behind jumps other dead way) t here alike =
        let to : ℕ = reached_by h z in
        let f : Registers = with_register t.hart.regs d (h * 4096 % 4294967296) in
        let there : IsAt l r c t = subst (λ q. IsAt l r q t) here (is_at p l live r v s m t alike) in
        let two = far_ran c w x d h z t there stands means stands_behind jumps other in
        let led =
        way_leads n to way (went t f to) refl
        (ran_alike t (c ∷ plus c 4 ∷ []) f to two
        (λ k lives. read_other t.hart.regs d (h * 4096 % 4294967296) k (λ same. dead (subst (live v) same lives))) alike) in
        record {
          regs = led.regs;
          to = led.to;
          ran = two_ran t c (plus c 4) (way_fetched l live form r v n to way) f led.regs to led.to two led.ran;
          alike = led.alike;
          at = led.at;
        }
    way_leads _ _ (Across n c to fetched passes way) t here alike =
        let there : IsAt l r c t = subst (λ q. IsAt l r q t) here (is_at p l live r v s m t alike) in
        let past = passes t there in
        let t' : State = went t past.regs to in
        let led = way_leads n to way t' refl (ran_alike t fetched past.regs to past.ran past.alike alike) in
        let later : List ℕ = way_fetched l live form r v n to way in
        let both = map-append (fetch_of t.hart.mem) fetched later in
        record {
          regs = led.regs;
          to = led.to;
          ran =
              subst (λ es. Does es t (went t led.regs led.to)) (sym both)
              (does_joined (map (fetch_of t.hart.mem) fetched) (map (fetch_of t.hart.mem) later) t t' (went t led.regs led.to)
              past.ran led.ran);
          alike = led.alike;
          at = led.at;
        }

-- as many words are fetched as there are steps
pub way_length : (l : Setup) (live : ℕ → ℕ → Type 0) (form : ℕ → ℕ → ℕ → Type 0) (r v n c : ℕ) (way : Way l live form r v n c) → length (way_fetched l live form r v n c way) ≡ n
way_length l live form r v _ _ (There c at) = refl
way_length l live form r v _ _ (Near n c w z stands means way) = ap suc (way_length l live form r v n (offset c z) way)
way_length l live form r v _ _ (Far n c w x d h z stands means stands_behind jumps other dead way) =
    ap (λ q. suc (suc q)) (way_length l live form r v n (reached_by h z) way)
way_length l live form r v _ _ (Across n c to fetched passes way) =
    length-append fetched (way_fetched l live form r v n to way) ∙ ap (λ q. length fetched + q) (way_length l live form r v n to way)
