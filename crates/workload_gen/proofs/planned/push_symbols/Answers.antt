use Rattle.std.proofs.Common.{◌≡◌, ℕ, ◌+◌, ◌%◌, ◌<◌, List, ◌∷◌, ◌++◌, length, get_or, drop, map, string_bytes}
use Rattle.workload_gen.specs.declared.spec.SymbolSpec.{SymbolSpec}
use Rattle.workload_gen.specs.Plan.{symbol_plan}
use Rattle.workload_gen.specs.Built.{symbol_bytes, symbols_bytes}
use Rattle.workload_gen.proofs.ByteLemmas.{piece_step}
use Rattle.workload_gen.proofs.PlaceLemmas.{symbols_wrap}
use Rattle.workload_gen.proofs.planned.push_symbols.Goals as goal

symbol_step :
    (symbols : List SymbolSpec)
    (i : ℕ)
    (symbol : SymbolSpec)
    (name_at size : ℕ)
    (out next whole : List ℕ)
    → i < length symbols
    → symbol ≡ get_or symbols i symbol
    → size ≡ length (string_bytes symbol.name) + 1
    → next ≡ out ++ symbol_bytes name_at (symbol_plan symbol)
    → out ++ symbols_bytes name_at (map symbol_plan (drop i symbols)) ≡ whole
    → next ++ symbols_bytes ((name_at + size) % 18446744073709551616) (map symbol_plan (drop (i + 1) symbols)) ≡ whole
symbol_step symbols i symbol name_at size out next whole below is is_size pushed so_far =
    let rest : List ℕ = symbols_bytes ((name_at + size) % 18446744073709551616) (map symbol_plan (drop (i + 1) symbols)) in
    let split : symbols_bytes name_at (map symbol_plan (symbol ∷ drop (i + 1) symbols))
    ≡ symbol_bytes name_at (symbol_plan symbol) ++ rest =
    rw (symbols_wrap (name_at + size) (map symbol_plan (drop (i + 1) symbols)), is_size) in
    piece_step (λ (ss : List SymbolSpec). symbols_bytes name_at (map symbol_plan ss)) symbols i symbol out next (symbol_bytes name_at (symbol_plan symbol)) rest whole below is split pushed so_far

pub loop-symbol-preserved : goal.loop-symbol-preserved
loop-symbol-preserved c =
    symbol_step c.args.symbols.now c.loop-symbol.symbol-index c.symbol-item.result c.loop-symbol.name_at c.name_size-name_at.result c.loop-symbol.out.items c.push_symbol.new.out.items _ c.loop-symbol-test.true c.symbol-item.is (cc) c.in_ok-push_symbol.ensures c.loop-symbol.invariant
