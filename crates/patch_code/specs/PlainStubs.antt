-- Plain stubs: each is a jump to the copy of an entry. They stand in the order of their homes.
use Rattle.std.specs.Prelude.{◌≡◌, ℕ, ◌*◌, ◌%◌, ◌<◌, ◌≤◌, List, length}
use Rattle.std.specs.List.{sum_by}
use Rattle.rv32im.specs.declared.instructions.Instr.{Instr}
use Rattle.rv32im.specs.Sequences.{jump_absolute}
use Rattle.patch_code.specs.Homes.{HaveHomes, AreOrdered, bytes_before}

-- a stub that serves the entry at `home`, and goes to `to` by the register `temp`
pub record PlainStub : Type 0 where
  pub home : ℕ
  pub temp : ℕ
  pub to : ℕ

-- its words, and their bytes
abbrev pub stub_code : PlainStub → List Instr
stub_code stub = jump_absolute stub.temp stub.to

abbrev pub stub_bytes : PlainStub → ℕ
stub_bytes stub = 4 * length (stub_code stub)

-- it uses a register from x5 on, and goes to an address of a word
pub record CanJump (stub : PlainStub) : Type 0 where
  pub above : 5 ≤ stub.temp
  pub below : stub.temp ≤ 31
  pub aligned : stub.to % 4 ≡ 0
  pub within : stub.to < 4294967296

-- ---- stubs by home address

abbrev pub home_of : PlainStub → ℕ
home_of stub = stub.home

-- no two have one home
abbrev pub AreApart : List PlainStub → Type 0
AreApart stubs = HaveHomes home_of stubs

-- the same stubs, by home address
abbrev pub AreByHome : List PlainStub → List PlainStub → Type 0
AreByHome stubs ordered = AreOrdered PlainStub home_of stubs ordered

-- the bytes of all, and of those whose homes are lower
abbrev pub stubs_bytes : List PlainStub → ℕ
stubs_bytes stubs = sum_by stub_bytes stubs

abbrev pub bytes_below : ℕ → List PlainStub → ℕ
bytes_below home stubs = bytes_before home_of stub_bytes home stubs
