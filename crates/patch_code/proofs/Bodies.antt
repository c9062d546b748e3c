-- A stub's body that jumps.
use Rattle.std.proofs.Common.{◌+◌, ◌*◌, ◌%◌, [], ◌∷◌, map, refl, arith}
use Rattle.std.proofs.lemmas.List.Elements.{All-nil, All-cons}
use Rattle.rv32im.specs.Words.{upper_half}
use Rattle.flat_machine.specs.Lines.{fetch_of, went}
use Rattle.flat_machine.proofs.SilentLines.{upper_set, set_other, absolute_ran}
use Rattle.patch_code.specs.Told.{IsFrom}
use Rattle.patch_code.specs.Switches.{BodyJumps}

pub body_jumps_so : BodyJumps
body_jumps_so lo size t to at s inside going here low high some below even code =
    let run = absolute_ran s t to at going here (omega (arith, high, inside)) below even some code in
    let second : IsFrom lo size (fetch_of s.hart.mem (at + 4)) = record { low = omega (arith, low); high = omega (arith, high); on = refl } in
    let first : IsFrom lo size (fetch_of s.hart.mem at) = record { low = low; high = omega (arith, high); on = refl } in (
      went s (upper_set s.hart.regs t to) to,
      (
        record {
          events = map (fetch_of s.hart.mem) (at ∷ (at + 4) ∷ []);
          does = run;
          count = refl;
          all = refl;
          fetched = All-cons (IsFrom lo size) (fetch_of s.hart.mem at) (fetch_of s.hart.mem (at + 4) ∷ []) first
              (All-cons (IsFrom lo size) (fetch_of s.hart.mem (at + 4)) [] second (All-nil (IsFrom lo size)));
        },
        (
          record {
            pc = refl;
            registers = λ k other. set_other s.hart.regs t (upper_half to * 4096 % 4294967296) k other;
            rest = refl;
          },
          refl,
        ),
      ),
    )
