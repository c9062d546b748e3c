-- The state that a machine of the code stands for.
use Rattle.std.specs.Prelude.{ℕ, drop, slice_index}
use Rattle.rv32im.specs.Memory.{Memory}
use Rattle.flat_machine.specs.declared.machine.Flat.{Flat}
use Rattle.flat_machine.specs.State.{State}

-- its memory is the bytes of its store, and its input what no call has taken
abbrev pub state_of : {S : Type 0} → (S → Memory) → Flat S → State
state_of byte_at machine =
    record {
      map = machine.map.items;
      hart = record {
        pc = machine.pc;
        regs = λ k. slice_index machine.regs k;
        mem = byte_at machine.store;
      };
      input = drop machine.consumed machine.input.items;
      output = machine.output.items;
      outcome = machine.outcome;
    }

-- the same at another pc
abbrev pub state_at : {S : Type 0} → (S → Memory) → Flat S → ℕ → State
state_at byte_at machine pc =
    let s = state_of byte_at machine in
    record s { hart = record s.hart { pc = pc } }
