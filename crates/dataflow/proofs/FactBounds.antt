-- Each fact of points-to is of a register and of a block that there is.
use Rattle.std.proofs.Common.{ℕ, ◌<◌}
use Rattle.object_graph.specs.declared.parts.Graph.{Graph}
use Rattle.code_blocks.specs.declared.parts.Code.{Code}
use Rattle.code_blocks.specs.Leads.{IsBlockOf}
use Rattle.dataflow.specs.Points.{Fact, Held, Escaped, Derives}
use Rattle.dataflow.proofs.FactLemmas.{unit_in_block}

-- no fact is of x32 or above
abbrev IsRegister : Fact → Type 0
IsRegister (Held b k x) = x < 32
IsRegister Escaped = Unit

pub of_register : (c : Code) (g : Graph) (o : ℕ) (fact : Fact) → Derives c g o fact → IsRegister fact
of_register c g o _ (Derives.site b k x inside holder makes) = holder.1
of_register c g o _ (Derives.move b k x z inside holder moves before) = holder.1
of_register c g o _ (Derives.sum b k x z inside holder sums before) = holder.1
of_register c g o _ (Derives.store b k x inside stores before) = tt
of_register c g o _ (Derives.load b k z inside holder loads escaped) = holder.1
of_register c g o _ (Derives.word d there means) = tt
of_register c g o _ (Derives.keep b k x inside kept before) = of_register c g o (Held b k x) before
of_register c g o _ (Derives.next b d x on before) = of_register c g o (Held b _ x) before
of_register c g o _ (Derives.anywhere b d x on before) = of_register c g o (Held b _ x) before

-- nor of a block that there isn't
abbrev IsOfBlock : Code → Fact → Type 0
IsOfBlock c (Held b k x) = IsBlockOf c b
IsOfBlock c Escaped = Unit

pub of_block : (c : Code) (g : Graph) (o : ℕ) (fact : Fact) → Derives c g o fact → IsOfBlock c fact
of_block c g o _ (Derives.site b k x inside holder makes) = unit_in_block c b k inside
of_block c g o _ (Derives.move b k x z inside holder moves before) = unit_in_block c b k inside
of_block c g o _ (Derives.sum b k x z inside holder sums before) = unit_in_block c b k inside
of_block c g o _ (Derives.store b k x inside stores before) = tt
of_block c g o _ (Derives.load b k z inside holder loads escaped) = unit_in_block c b k inside
of_block c g o _ (Derives.word d there means) = tt
of_block c g o _ (Derives.keep b k x inside kept before) = unit_in_block c b k inside
of_block c g o _ (Derives.next b d x on before) = on.to
of_block c g o _ (Derives.anywhere b d x on before) = on.to
