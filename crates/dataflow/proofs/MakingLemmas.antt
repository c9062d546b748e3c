-- At which sites an instruction makes an address, by its kind.
use Rattle.std.proofs.Common.{◌≡◌, ℕ, Option, Some, None, refl, ◌∙◌, ap}
use Rattle.rv32im.specs.declared.instructions.Instr.{Instr}
use Rattle.rv32im.specs.declared.instructions.Instr.TheVariants.{Lui, Auipc, OpImm}
use Rattle.rv32im.specs.declared.instructions.ImmKind.TheVariants.{Addi}
use Rattle.object_graph.specs.declared.parts.SiteKind.{SiteKind}
use Rattle.object_graph.specs.declared.parts.SiteKind.TheVariants.{Hi, LowI}
use Rattle.object_graph.specs.declared.parts.Site.{Site}
use Rattle.dataflow.specs.Points.{MakesIn, Makes}
use Rattle.dataflow.specs.Flows.{written, made_in, made}

makes_in : (kind : SiteKind) (i : Option Instr) (o x : ℕ) → MakesIn kind i x → (made_in kind o i ≡ Some o) × (x ≡ written i)
makes_in Hi (Some (Lui rd imm)) o x is = (refl, is)
makes_in Hi (Some (Auipc rd imm)) o x is = (refl, is)
makes_in LowI (Some (OpImm Addi rd rs1 imm)) o x is = (refl, is)
makes_in kind i o x is = absurd is

pub makes_made : (s : Option Site) (i : Option Instr) (o x : ℕ) → Makes s i o x → (made s i ≡ Some o) × (x ≡ written i)
makes_made None i o x makes = absurd makes
makes_made (Some s) i o x makes =
    let (is, in_kind) = makes in
    let (found, register) = makes_in s.kind i s.object x in_kind in
    (found ∙ ap (λ (k : ℕ). Some k) is, register)

made_makes_in : (kind : SiteKind) (i : Option Instr) (o p : ℕ) → made_in kind o i ≡ Some p → (o ≡ p) × MakesIn kind i (written i)
made_makes_in Hi (Some (Lui rd imm)) o p is = (cc, refl)
made_makes_in Hi (Some (Auipc rd imm)) o p is = (cc, refl)
made_makes_in LowI (Some (OpImm Addi rd rs1 imm)) o p is = (cc, refl)
made_makes_in kind i o p is = cc

pub made_makes : (s : Option Site) (i : Option Instr) (o : ℕ) → made s i ≡ Some o → Makes s i o (written i)
made_makes None i o is = cc
made_makes (Some s) i o is = made_makes_in s.kind i s.object o is
