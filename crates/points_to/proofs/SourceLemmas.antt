-- The edges of what units make and load.
use Rattle.std.proofs.Common.{◌≡◌, ◌⊎◌, inl, inr, ℕ, true, List, ◌∷◌, Option, Some, None, refl, subst}
use Rattle.std.specs.Prelude.{◌↔◌}
use Rattle.rv32im.specs.declared.instructions.Instr.{Instr}
use Rattle.rv32im.specs.declared.instructions.Instr.TheVariants.{Load}
use Rattle.rv32im.specs.declared.instructions.LoadKind.TheVariants.{Lw}
use Rattle.object_graph.specs.declared.parts.SiteKind.{SiteKind}
use Rattle.object_graph.specs.declared.parts.SiteKind.TheVariants.{Hi, LowI, LowS}
use Rattle.object_graph.specs.declared.parts.Site.{Site}
use Rattle.code_blocks.specs.declared.parts.Unit.{Unit}
use Rattle.dataflow.specs.Points.{IsHolder, site_at, Loads}
use Rattle.dataflow.specs.Flows.{written, made_in, made, loads}
use Rattle.points_to.specs.Rows.{row, AreRows}
use Rattle.dataflow.proofs.MakingLemmas.{makes_made, made_makes}
use Rattle.points_to.specs.Nodes.{Adds, Upto, PlaceEdge, FlowEdge, SourceEdges, UnitEdges, object_node, loaded, end_of}
use Rattle.points_to.specs.declared.flows.Places.{Places}
use Rattle.reach_graph.specs.declared.edges.Edge.{Edge}
use Rattle.points_to.proofs.EdgeLemmas.{adds_same, upto_same}

made_no_load_in : (kind : SiteKind) (i : Option Instr) (o p : ℕ) → made_in kind o i ≡ Some p → loads i ≡ true → ⊥
made_no_load_in Hi (Some (Load Lw rd rs1 imm)) o p is load = cc
made_no_load_in LowI (Some (Load Lw rd rs1 imm)) o p is load = cc
made_no_load_in LowS (Some (Load Lw rd rs1 imm)) o p is load = cc
made_no_load_in kind i o p is load = cc

pub made_no_load : (s : Option Site) (i : Option Instr) (o : ℕ) → made s i ≡ Some o → loads i ≡ true → ⊥
made_no_load None i o is load = cc
made_no_load (Some s) i o is load = made_no_load_in s.kind i s.object o is load

pub loads_load : (i : Option Instr) (x : ℕ) → Loads i x → (loads i ≡ true) × (x ≡ written i)
loads_load (Some (Load Lw rd rs1 imm)) x is = (refl, is)
loads_load i x is = absurd is

pub load_loads : (i : Option Instr) → loads i ≡ true → Loads i (written i)
load_loads (Some (Load Lw rd rs1 imm)) is = refl
load_loads i is = cc

-- ---- by the rows of a table

pub place_flow : (n b : ℕ) (sites : List Site) (us : List Unit) (rows : List Places) (x from f t : ℕ) → AreRows sites us rows → IsHolder x → Upto 32 (FlowEdge n b sites us x from) f t ↔ Upto 32 (PlaceEdge from (end_of n b 0) (row rows x)) f t
place_flow n b sites us rows x from f t are holder =
    upto_same 32 (FlowEdge n b sites us x from) (PlaceEdge from (end_of n b 0) (row rows x)) f t (λ y below. (
      λ (leads, leaves, comes). ((are.exact x y holder below).1 leads, leaves, comes),
      λ (has, leaves, comes). ((are.exact x y holder below).0 has, leaves, comes),
    ))

made_only : (n b : ℕ) (sites : List Site) (u : Unit) (us : List Unit) (o f t : ℕ) → made (site_at sites u.at) u.instr ≡ Some o → SourceEdges n b sites u us f t → Upto 32 (FlowEdge n b sites us (written u.instr) (object_node n o)) f t
made_only n b sites u us o f t is (SourceEdges.made x p holder makes flow) =
    let (found, register) = makes_made (site_at sites u.at) u.instr p x makes in
    let same : p ≡ o = cc (found, is) in
    subst (λ (q : ℕ). Upto 32 (FlowEdge n b sites us (written u.instr) (object_node n q)) f t) same
    (subst (λ (z : ℕ). Upto 32 (FlowEdge n b sites us z (object_node n p)) f t) register flow)
made_only n b sites u us o f t is (SourceEdges.gained x holder load flow) =
    absurd (made_no_load (site_at sites u.at) u.instr o is (loads_load u.instr x load).0)

pub makes_one : (n b : ℕ) (sites : List Site) (u : Unit) (us : List Unit) (o f t : ℕ) → made (site_at sites u.at) u.instr ≡ Some o → IsHolder (written u.instr) → SourceEdges n b sites u us f t ↔ Upto 32 (FlowEdge n b sites us (written u.instr) (object_node n o)) f t
makes_one n b sites u us o f t is holder = (
  λ source. made_only n b sites u us o f t is source,
  λ flow. SourceEdges.made (written u.instr) o holder (made_makes (site_at sites u.at) u.instr o is) flow,
)

gained_only : (n b : ℕ) (sites : List Site) (u : Unit) (us : List Unit) (f t : ℕ) → loads u.instr ≡ true → SourceEdges n b sites u us f t → Upto 32 (FlowEdge n b sites us (written u.instr) (loaded n)) f t
gained_only n b sites u us f t is (SourceEdges.made x p holder makes flow) =
    absurd (made_no_load (site_at sites u.at) u.instr p (makes_made (site_at sites u.at) u.instr p x makes).0 is)
gained_only n b sites u us f t is (SourceEdges.gained x holder load flow) =
    subst (λ (z : ℕ). Upto 32 (FlowEdge n b sites us z (loaded n)) f t) (loads_load u.instr x load).1 flow

pub gains_one : (n b : ℕ) (sites : List Site) (u : Unit) (us : List Unit) (f t : ℕ) → loads u.instr ≡ true → IsHolder (written u.instr) → SourceEdges n b sites u us f t ↔ Upto 32 (FlowEdge n b sites us (written u.instr) (loaded n)) f t
gains_one n b sites u us f t is holder = (
  λ source. gained_only n b sites u us f t is source,
  λ flow. SourceEdges.gained (written u.instr) holder (load_loads u.instr is) flow,
)

-- ---- what the code adds

pub adds_flow : (n b : ℕ) (sites : List Site) (u : Unit) (us : List Unit) (rows : List Places) (x from : ℕ) (old new : List (List Edge)) → AreRows sites us rows → IsHolder x → ((f t : ℕ) → SourceEdges n b sites u us f t ↔ Upto 32 (FlowEdge n b sites us x from) f t) → Adds (Upto 32 (PlaceEdge from (end_of n b 0) (row rows x))) old new → Adds (SourceEdges n b sites u us) old new
adds_flow n b sites u us rows x from old new are holder is adds =
    adds_same (Upto 32 (PlaceEdge from (end_of n b 0) (row rows x))) (SourceEdges n b sites u us) old new adds
    (λ f t.
    let same = place_flow n b sites us rows x from f t are holder in
    (λ source. same.0 ((is f t).0 source), λ places. (is f t).1 (same.1 places)))

pub units_more : (n b : ℕ) (sites : List Site) (u : Unit) (us : List Unit) (f t : ℕ) → UnitEdges n b sites (u ∷ us) f t ↔ (UnitEdges n b sites us f t ⊎ SourceEdges n b sites u us f t)
units_more n b sites u us f t = (
  λ edge. elim edge [ inl source ↦ inr source | inr rest ↦ inl rest ],
  λ edge. elim edge [ inl rest ↦ inr rest | inr source ↦ inl source ],
)
