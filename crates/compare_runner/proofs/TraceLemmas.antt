-- Steps of a trace, one after the other.
use Rattle.std.proofs.Common.{◌≡◌, ℕ, suc, ◌+◌, ◌-◌, ◌<◌, ◌≤◌, Bool, true, false, List, [], ◌∷◌, ◌++◌, length, Option, Some, None, refl, sym, ◌∙◌, ap, subst, arith, append_assoc, length-append}
use Rattle.std.specs.Prelude.{flat_map}
use Rattle.std.proofs.lemmas.List.{append-nil, flat_map_more}
use Rattle.elf_reader.specs.File.{PlainView}
use Rattle.object_graph.specs.declared.parts.Object.{Object}
use Rattle.flat_machine.specs.State.{State}
use Rattle.object_machine.specs.declared.events.Outcome.TheVariants.{GoesOn}
use Rattle.object_machine.specs.State.{SourceState}
use Rattle.object_machine.specs.Step.{next_state}
use Rattle.object_machine.specs.Runs.{HasEnded}
use Rattle.compare_runner.specs.declared.marks.TracedStep.{TracedStep}
use Rattle.compare_runner.specs.declared.tracing.TraceText.{TraceText}
use Rattle.compare_runner.specs.Comings.{IsAtForm, region_behind}
use Rattle.compare_runner.specs.Marks.{start_text, step_text}
use Rattle.compare_runner.specs.Seeking.{StopsAfter, StartsWithin}
use Rattle.compare_runner.specs.Stepping.{TracesStep}
use Rattle.compare_runner.specs.Telling.{TracesAs, TellsTrace}
use Rattle.compare_runner.specs.Tracing.{TracedProgram, region_in, Traces, Done, Ended, Lost, Goes}

-- `k` steps are traced, and their lines added. What is traced of the others, behind these, is the whole
pub record TracedSoFar (w : TracedProgram) (line : TracedStep → List ℕ) (n region : ℕ) (s : SourceState) (t : State) (old : List ℕ) (k region' : ℕ) (s' : SourceState) (t' : State) (new : List ℕ) : Type 0 where
  pub done : List TracedStep
  pub count : length done ≡ k
  pub text_is : new ≡ old ++ flat_map line done
  pub whole : (m : ℕ) (xs : List TracedStep) (lost : Bool) → k + m ≡ n → Traces w m region' s' t' xs lost → Traces w n region s t (done ++ xs) lost

-- what is told of all
pub record TracedAll (w : TracedProgram) (line : TracedStep → List ℕ) (n region : ℕ) (s : SourceState) (t : State) (old new : List ℕ) (count : ℕ) (lost : Bool) : Type 0 where
  pub steps : List TracedStep
  pub traces : TracesAs w n region s t steps count lost
  pub text_is : new ≡ old ++ flat_map line steps

module _ (w : TracedProgram) (line : TracedStep → List ℕ) (n region : ℕ) (s : SourceState) (t : State) (old : List ℕ) where
  pub none_traced : TracedSoFar w line n region s t old 0 region s t old
  none_traced =
      record {
        done = [];
        count = refl;
        text_is = sym (append-nil old);
        whole = λ m xs lost all traces. let same : m ≡ n = omega (arith, all) in subst (λ j. Traces w j region s t xs lost) same traces;
      }

  module _ (k region' : ℕ) (s' : SourceState) (t' : State) (new : List ℕ) (r : TracedSoFar w line n region s t old k region' s' t' new) where
    -- one step more
    pub traced_more : (region'' : ℕ) (s'' : SourceState) (t'' : State) (x : TracedStep) (more : List ℕ) → s'.outcome ≡ GoesOn → TracesStep w region' s' t' region'' s'' t'' (Some x) → more ≡ new ++ line x → TracedSoFar w line n region s t old (k + 1) region'' s'' t'' more
    traced_more region'' s'' t'' x more going step text =
        record {
          done = r.done ++ x ∷ [];
          count = length-append r.done (x ∷ []) ∙ ap (λ j. j + 1) r.count;
          text_is = text ∙ (ap (λ ys. ys ++ line x) r.text_is ∙ flat_map_more line old r.done x);
          whole = λ m xs lost all traces.
              let after : Traces w m (region_in w region' (next_state w.program s' step.read)) (next_state w.program s' step.read) t'' xs lost =
              subst (λ (u : SourceState). Traces w m (region_in w region' u) u t'' xs lost) step.state
              (subst (λ j. Traces w m j s'' t'' xs lost) step.region_is traces) in
              let here : Traces w (suc m) region' s' t' (x ∷ xs) lost =
              Goes m region' s' t' t'' step.read x xs lost going step.reads step.is after in
              subst (λ ys. Traces w n region s t ys lost) (sym (append_assoc r.done (x ∷ []) xs))
              (r.whole (suc m) (x ∷ xs) lost (omega (arith, all)) here);
        }

    ends_with : (m : ℕ) (lost : Bool) → k + m ≡ n → Traces w m region' s' t' [] lost → TracedAll w line n region s t old new k lost
    ends_with m lost all traces =
        record {
          steps = r.done;
          traces = (sym r.count, subst (λ ys. Traces w n region s t ys lost) (append-nil r.done) (r.whole m [] lost all traces));
          text_is = r.text_is;
        }

    -- so many as were asked for
    pub all_traced : k ≡ n → TracedAll w line n region s t old new k false
    all_traced all = ends_with 0 false (omega (arith, all)) (Done region' s' t')

    -- fewer, where the program has ended
    pub traced_to_end : k ≤ n → HasEnded s'.outcome → TracedAll w line n region s t old new k false
    traced_to_end few ended = let m = n - k in ends_with m false (omega (arith, few)) (Ended m region' s' t' ended)

    -- and where the next step can't be traced
    pub traced_to_lost : (region'' : ℕ) (s'' : SourceState) (t'' : State) → k < n → s'.outcome ≡ GoesOn → TracesStep w region' s' t' region'' s'' t'' None → TracedAll w line n region s t old new k true
    traced_to_lost region'' s'' t'' few going step =
        let m = n - suc k in
        ends_with (suc m) true (omega (arith, few)) (Lost m region' s' t' step.read going step.reads step.is)

-- what is told of the next step is what the code has of it
pub step_told : (w : TracedProgram) (region : ℕ) (s : SourceState) (t : State) (region' : ℕ) (s' : SourceState) (t' : State) (had told : Option TracedStep) → had ≡ told → TracesStep w region s t region' s' t' had → TracesStep w region s t region' s' t' told
step_told w region s t region' s' t' had told is step =
    subst (λ (o : Option TracedStep). TracesStep w region s t region' s' t' o) is step

-- ---- from the starts

-- where the program begins, as the code has it
pub first_place : (w : TracedProgram) (region home : ℕ) (source s : SourceState) → source ≡ s → home ≡ source.pc → region ≡ region_behind w.starts w.regions 0 home → (region ≡ region_in w 0 s) × (home ≡ s.pc)
first_place w region home source s source_is home_is region_is =
    let here = home_is ∙ ap (λ (x : SourceState). x.pc) source_is in
    (region_is ∙ ap (λ (a : ℕ). region_behind w.starts w.regions 0 a) here, here)

pub tells : (v : PlainView) (objects : List Object) (w : TracedProgram) (n : ℕ) (s : SourceState) (t : State) (region home start : ℕ) (source : SourceState) (flat first : State) (old : List ℕ) (text : TraceText) → region ≡ region_in w 0 s → home ≡ s.pc → source ≡ s → flat ≡ t → StopsAfter (IsAtForm w.units w.board 0 region home) flat start first → old ≡ start_text start → TracedAll w (step_text v objects) n region source first old text.bytes.items text.steps text.lost → TellsTrace v objects w n s t text
tells v objects w n s t region home start source flat first old text region_is home_is source_is flat_is after head all =
    let there : StopsAfter (IsAtForm w.units w.board 0 (region_in w 0 s) s.pc) t start first =
    subst (λ (x : State). StopsAfter (IsAtForm w.units w.board 0 (region_in w 0 s) s.pc) x start first) flat_is
    (subst (λ (k : ℕ). StopsAfter (IsAtForm w.units w.board 0 (region_in w 0 s) k) flat start first) home_is
    (subst (λ (k : ℕ). StopsAfter (IsAtForm w.units w.board 0 k home) flat start first) region_is after)) in
    let traced : Traces w n (region_in w 0 s) s first all.steps text.lost =
    subst (λ (x : SourceState). Traces w n (region_in w 0 s) x first all.steps text.lost) source_is
    (subst (λ (k : ℕ). Traces w n k source first all.steps text.lost) region_is all.traces.1) in
    record {
      start = start;
      steps = all.steps;
      trace = record { events = there.events; first = first; comes = there.first; start_is = sym there.count; traced = traced };
      bytes = all.text_is ∙ ap (λ (ys : List ℕ). ys ++ flat_map (step_text v objects) all.steps) head;
      count = all.traces.0;
    }

-- where the result starts, as the code has it
pub starts_there : (w : TracedProgram) (most region home : ℕ) (s : SourceState) (t flat : State) → region ≡ region_in w 0 s → home ≡ s.pc → flat ≡ t → StartsWithin (IsAtForm w.units w.board 0 (region_in w 0 s) s.pc) most t → StartsWithin (IsAtForm w.units w.board 0 region home) most flat
starts_there w most region home s t flat region_is home_is flat_is starts =
    subst (λ (x : State). StartsWithin (IsAtForm w.units w.board 0 region home) most x) (sym flat_is)
    (subst (λ (k : ℕ). StartsWithin (IsAtForm w.units w.board 0 region k) most t) (sym home_is)
    (subst (λ (k : ℕ). StartsWithin (IsAtForm w.units w.board 0 k s.pc) most t) (sym region_is) starts))

-- a trace from where both machines are, and from the starts that these are

pub starts_same : (w : TracedProgram) (most : ℕ) (source s : SourceState) (flat t : State) → source ≡ s → flat ≡ t → StartsWithin (IsAtForm w.units w.board 0 (region_in w 0 s) s.pc) most t → StartsWithin (IsAtForm w.units w.board 0 (region_in w 0 source) source.pc) most flat
starts_same w most source s flat t source_is flat_is starts =
    subst (λ (x : State). StartsWithin (IsAtForm w.units w.board 0 (region_in w 0 source) source.pc) most x) (sym flat_is)
    (subst (λ (x : SourceState). StartsWithin (IsAtForm w.units w.board 0 (region_in w 0 x) x.pc) most t) (sym source_is) starts)

pub tells_same : (v : PlainView) (objects : List Object) (w : TracedProgram) (n : ℕ) (source s : SourceState) (flat t : State) (text : TraceText) → source ≡ s → flat ≡ t → TellsTrace v objects w n source flat text → TellsTrace v objects w n s t text
tells_same v objects w n source s flat t text source_is flat_is tells =
    subst (λ (x : State). TellsTrace v objects w n s x text) flat_is
    (subst (λ (x : SourceState). TellsTrace v objects w n x flat text) source_is tells)
