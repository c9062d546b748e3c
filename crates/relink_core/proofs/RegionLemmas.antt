-- Whether registers are dead where blocks begin, and which fault of regions is the first of an analysis.
use Rattle.std.proofs.Common.{◌≡◌, ◌⊎◌, inl, inr, ℕ, ◌+◌, ◌<◌, Bool, true, false, List, [], ◌∷◌, ◌++◌, length, slice_index_or, is_some, Option, Some, None, refl, sym, subst, ◌∙◌, arith}
use Rattle.std.specs.Prelude.{◌↔◌}
use Rattle.std.specs.List.Sorted.{IsStrictlyIncreasing}
use Rattle.std.proofs.lemmas.Bool.{cases_lt}
use Rattle.std.proofs.lemmas.List.{get_or_append_left, get_or_push}
use Rattle.std.proofs.lemmas.Nat.Bits.{bit_at-zero}
use Rattle.elf_reader.specs.File.{PlainView, view_in}
use Rattle.board_config.specs.declared.board.Board.{Board}
use Rattle.rv32im.specs.RegSet.{IsIn}
use Rattle.rv32im.specs.declared.instructions.RegSet.{RegSet}
use Rattle.code_blocks.specs.Blocks.{IsCode}
use Rattle.code_blocks.specs.Numbers.{starts_of, start_at}
use Rattle.code_blocks.specs.declared.parts.Code.{Code}
use Rattle.code_blocks.specs.Leads.{IsBlockOf}
use Rattle.dataflow.specs.Live.{LiveAt}
use Rattle.dataflow.specs.Tables.{IsLeastDead}
use Rattle.dataflow.proofs.EdgeLemmas.{one_start}
use Rattle.region_former.specs.Faults.{plain_fault}
use Rattle.region_former.specs.Regions.{region_fault}
use Rattle.relink_core.specs.Faults.{analyse_fault, IsFaultless, IsFirst, of_regions, IsOfRegions}
use Rattle.relink_core.specs.Regions.{HasDead, HasDeadAt}
use Rattle.relink_core.specs.declared.fault.AnalyseFault.{AnalyseFault}
use Rattle.relink_core.specs.declared.fault.AnalyseFault.TheVariants as analyse

-- ---- dead registers

-- a set without a register
abbrev pub no_registers : RegSet
no_registers = record { bits = 0 }

not_avoided : (x : ℕ) → IsIn no_registers x → ⊥
not_avoided x is = let zero = bit_at-zero x in absurd (omega (arith, zero, is))

-- the least dead register tells whether there is one
pub some_dead : (c : Code) (leader : ℕ) (o : Option ℕ) → IsLeastDead c leader no_registers o → (is_some o ≡ true) ↔ HasDeadAt c leader
some_dead c leader None none = (
  λ is. absurd (cc),
  λ has. absurd (none has.register has.from has.below (record { dead = has.dead; allowed = not_avoided has.register })),
)
some_dead c leader (Some r) least = (
  λ is. record { register = r; from = least.from; below = least.below; dead = least.free.dead },
  λ has. refl,
)

-- what is told at a leader is told of its block
pub dead_there : (c : Code) (b leader : ℕ) (t : Bool) → IsStrictlyIncreasing (starts_of c) → IsBlockOf c b → start_at c b ≡ leader
    → ((t ≡ true) ↔ HasDeadAt c leader) → (t ≡ true) ↔ HasDead c b
dead_there c b leader t ascending inside begins tells = (
  λ is.
      let has = tells.0 is in
      record {
        register = has.register;
        from = has.from;
        below = has.below;
        dead = λ live. has.dead (record { block = b; is_block = inside; begins = begins; live = live });
      },
  λ has.
      tells.1 (record {
        register = has.register;
        from = has.from;
        below = has.below;
        dead = λ live.
            has.dead
            (subst (λ k. LiveAt c has.register k 0) (one_start c live.block b ascending live.is_block inside (live.begins ∙ sym begins)) live.live);
      }),
)

-- a list that tells so of the first n blocks
abbrev pub ReportsBelow : Code → ℕ → List Bool → Type 0
ReportsBelow c n marks = (b : ℕ) → b < n → (slice_index_or marks b false ≡ true) ↔ HasDead c b

pub told_more : (c : Code) (k n : ℕ) (t : Bool) (marks new : List Bool) → new ≡ marks ++ t ∷ [] → length marks ≡ k → n ≡ k + 1
    → ReportsBelow c k marks → ((t ≡ true) ↔ HasDead c k) → ReportsBelow c n new
told_more c k n t marks new is size next told here b below =
    subst (λ ms. (slice_index_or ms b false ≡ true) ↔ HasDead c b) (sym is)
    (elim (cases_lt b k) [
      | inl lower ↦
          subst (λ (m : Bool). (m ≡ true) ↔ HasDead c b) (sym (get_or_append_left marks (t ∷ []) false b (omega (arith, lower, size)))) (told b lower)
      | inr past ↦
          let same : b ≡ k = omega (arith, past, below, next) in
          let there : b ≡ length marks = omega (arith, same, size) in
          rw same
          (subst (λ (m : Bool). (m ≡ true) ↔ HasDead c k) (sym (get_or_push marks t false k size)) here)
    ])

-- ---- the first fault

-- the regions come behind all else
pub told_last : (file : List ℕ) (board : Board) (v : PlainView) (c : Code) (fault : AnalyseFault) → v ≡ view_in file → analyse_fault file board ≡ None → IsCode (view_in file) c
    → (fault ≡ analyse.Memory) ⊎ IsOfRegions v c board fault → (fault ≡ analyse.Memory) ⊎ IsFirst file board fault
told_last file board v c fault same none is_code (inl memory) = inl memory
told_last file board v c fault same none is_code (inr of) =
    inr (of_regions of.part none
    (record { code = c; is_code = is_code; first = subst (λ (u : PlainView). region_fault u c board ≡ Some (plain_fault of.part)) same of.first })
    of.fault_is)

pub faultless : (file : List ℕ) (board : Board) (v : PlainView) (c : Code) → v ≡ view_in file → analyse_fault file board ≡ None → IsCode (view_in file) c
    → region_fault v c board ≡ None → IsFaultless file board
faultless file board v c same none is_code sound =
    record {
      before = none;
      regions = record { code = c; is_code = is_code; first = subst (λ (u : PlainView). region_fault u c board ≡ None) same sound };
    }
