-- What copies of units rest on: instructions and sites, registers, and how many words run.
use Rattle.std.proofs.Common.{◌≡◌, ◌∙◌, inl, inr, ℕ, ◌+◌, ◌≤◌, ◌==◌, Bool, true, false, not, ◌&&◌, ◌||◌, if◌then◌else◌, List, [], ◌∷◌, Option, Some, None, refl, ap, arith}
use Rattle.std.specs.List.{list_any}
use Rattle.std.proofs.lemmas.Bool.{cond_both}
use Rattle.std.proofs.lemmas.Bool.Decides.{nat_tests}
use Rattle.rv32im.specs.Acts.{Registers, register}
use Rattle.rv32im.specs.Fields.{rd_of}
use Rattle.rv32im.specs.declared.instructions.Instr.{Instr}
use Rattle.rv32im.specs.declared.instructions.Instr.TheVariants as instr
use Rattle.elf_reader.specs.File.{PlainView}
use Rattle.loaded_file.specs.Code.{image_word}
use Rattle.object_graph.specs.Lookups.{stands_at}
use Rattle.object_graph.specs.declared.parts.Site.{Site}
use Rattle.code_blocks.specs.Words.{links}
use Rattle.code_blocks.specs.Leaders.{is_call_pair}
use Rattle.block_splitter.specs.declared.unit_kind.UnitKind.{UnitKind}
use Rattle.block_splitter.specs.declared.unit_kind.UnitKind.TheVariants.{Plain, Upper, Branch, Jump, Call, Tail, Indirect, Linking, Halt}
use Rattle.block_splitter.specs.Forms.{copy_size}
use Rattle.result_laws.specs.Copied.{unit_words}
use Rattle.result_laws.proofs.Alike.{IsStraight}
use Rattle.result_laws.proofs.CopyHomes.{linked, pair_words}
use Rattle.object_machine.specs.Program.{Program, Target, target_at}
use Rattle.simulation.specs.Forms.{ActsFor}

-- ---- instructions

-- what has to do with no address does the same wherever it stands
pub straight_acts : (p : Program) (arrive : ℕ → ℕ → Type 0) (u a : ℕ) (i : Instr) → IsStraight i → ActsFor p arrive u a i i
straight_acts p arrive u a (instr.Auipc rd n) straight = absurd straight
straight_acts p arrive u a (instr.Jal rd off) straight = absurd straight
straight_acts p arrive u a (instr.Jalr rd rs1 imm) straight = absurd straight
straight_acts p arrive u a (instr.Branch kind rs1 rs2 off) straight = absurd straight
straight_acts p arrive u a instr.Ebreak straight = absurd straight
straight_acts p arrive u a i straight = refl

-- ---- sites

pub site_if : (sites : List Site) (u : ℕ) → target_at sites u ≡ None → list_any (stands_at u) sites ≡ false
site_if [] u none = refl
site_if (s ∷ sites) u none =
    cond_both (s.at == u) (Some (record { object = s.object; offset = s.offset })) (target_at sites u)
    (λ (o : Option Target). o ≡ None → (s.at == u) || list_any (stands_at u) sites ≡ false)
    (λ here is. absurd (cc (is)))
    (λ other is. let rest = site_if sites u is in rw (other) rest)
    none

pub no_target : (sites : List Site) (u : ℕ) → list_any (stands_at u) sites ≡ false → target_at sites u ≡ None
no_target [] u none = refl
no_target (s ∷ sites) u none =
    cond_both (s.at == u) (Some (record { object = s.object; offset = s.offset })) (target_at sites u)
    (λ (o : Option Target). o ≡ None)
    (λ here. absurd (first_none (s.at == u) (list_any (stands_at u) sites) here none))
    (λ other. no_target sites u (later_none (s.at == u) (list_any (stands_at u) sites) none))
  where
    first_none : (a b : Bool) → a ≡ true → a || b ≡ false → ⊥
    first_none true b is none_of = cc
    first_none false b is none_of = cc

    later_none : (a b : Bool) → a || b ≡ false → b ≡ false
    later_none true b none_of = cc
    later_none false b none_of = none_of

-- ---- registers

pub same_register : (f h : Registers) (k : ℕ) → f k ≡ h k → register f k ≡ register h k
same_register f h k same = ap (λ (q : ℕ). if k == 0 then 0 else q) same

-- between one and four words of a unit's copy run
pub record AreFew (n : ℕ) : Type 0 where
  pub some : 1 ≤ n
  pub few : n ≤ 4

pub if_few : (test : Bool) (a b : ℕ) → AreFew a → AreFew b → AreFew (if test then a else b)
if_few true a b first second = first
if_few false a b first second = second

pub words_few : (inside : ℕ → Bool) (taken : Bool) (kind : UnitKind) → AreFew (unit_words inside taken kind)
words_few inside taken Plain = record { some = omega arith; few = omega arith }
words_few inside taken (Upper rd value) = record { some = omega arith; few = omega arith }
words_few inside taken (Branch kind rs1 rs2 target) =
    if_few (taken && not (inside target)) 3 1 (record { some = omega arith; few = omega arith }) (record { some = omega arith; few = omega arith })
words_few inside taken (Jump target) =
    if_few (inside target) 1 2 (record { some = omega arith; few = omega arith }) (record { some = omega arith; few = omega arith })
words_few inside taken (Call target back link) = record { some = omega arith; few = omega arith }
words_few inside taken (Tail target link) = record { some = omega arith; few = omega arith }
words_few inside taken Indirect = record { some = omega arith; few = omega arith }
words_few inside taken (Linking back link base imm) = record { some = omega arith; few = omega arith }
words_few inside taken Halt = record { some = omega arith; few = omega arith }

-- a unit's copy has a word
pub copy_some : (inside : ℕ → Bool) (kind : UnitKind) → 1 ≤ copy_size inside kind
copy_some inside Plain = omega arith
copy_some inside (Upper rd value) = omega arith
copy_some inside (Branch kind rs1 rs2 target) = (if_few (inside target) 1 3 (record { some = omega arith; few = omega arith }) (record { some = omega arith; few = omega arith })).some
copy_some inside (Jump target) = (if_few (inside target) 1 2 (record { some = omega arith; few = omega arith }) (record { some = omega arith; few = omega arith })).some
copy_some inside (Call target back link) = omega arith
copy_some inside (Tail target link) = omega arith
copy_some inside Indirect = omega arith
copy_some inside (Linking back link base imm) = omega arith
copy_some inside Halt = omega arith

pub read_register : (f : Registers) (k : ℕ) → (k ≡ 0 → ⊥) → register f k ≡ f k
read_register f k other = grind (arith, nat_tests, other)

-- a call that links writes the register of its AUIPC
pub call_register : (v : PlainView) (u link : ℕ) → is_call_pair v u ≡ true → links (image_word v (u + 4)) ≡ true → link ≡ rd_of (image_word v (u + 4)) → link ≡ rd_of (image_word v u)
call_register v u link pair links_so register_is =
    elim (pair_words v u pair).writes [
      | inl same ↦ register_is ∙ same
      | inr none ↦ absurd (linked (image_word v (u + 4)) links_so none)
    ]
