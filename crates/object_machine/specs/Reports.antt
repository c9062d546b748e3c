-- What a prepared unit tells of a program.
use Rattle.std.specs.Prelude.{◌≡◌, ℕ, ◌+◌, nat_lt, Bool, true, ◌||◌, is_some, Option, Some, None}
use Rattle.rv32im.specs.Fields.{rd_of}
use Rattle.object_machine.specs.declared.units.Pair.{Pair}
use Rattle.object_machine.specs.declared.units.Prepared.{Prepared}
use Rattle.object_machine.specs.Program.{Program}
use Rattle.object_machine.specs.Step.{Reads}
use Rattle.object_machine.specs.Units.{target_of, may_fall}

-- a call goes where the program says, and keeps the way back in its AUIPC's register
abbrev pub IsCallOf : Program → ℕ → Option Pair → Type 0
IsCallOf p a None = Unit {0}
IsCallOf p a (Some c) =
    (c.target ≡ p.goes a) × (c.register ≡ rd_of (p.word a)) × (c.links ≡ nat_lt 0 (rd_of (p.word (a + 4))))

-- at an address: the meaning of the word, the site, and whether a call of two words begins. A unit of one word
-- that leads to the next tells whether it may: where its block goes on, or another begins
pub record ReportsAt (p : Program) (u : Prepared) (a : ℕ) : Type 0 where
  pub meant : Reads (p.word a) u.instr
  pub site : p.site a ≡ target_of u.site
  pub pair : p.is_pair a ≡ is_some u.pair
  pub call : IsCallOf p a u.pair
  pub falls : may_fall u ≡ true → p.falls a ≡ u.goes_on || p.is_block (a + 4)

abbrev pub Reports : Program → Prepared → Type 0
Reports p u = ReportsAt p u u.at
