-- That a relocation aliases some object of a section just where the range of some symbol of it is hit.
use Rattle.std.proofs.Common.{◌≡◌, ◌∙◌, ℕ, ◌==◌, Bool, true, false, ◌&&◌, ◌||◌, length, ap}
use Rattle.list_checks.specs.Tests.{any_below}
use Rattle.list_checks.proofs.TestLemmas.{both, same_tests, any_found, any_at}
use Rattle.elf_reader.specs.File.{PlainView}
use Rattle.loaded_file.specs.Records.{symbol_at, reloc_at, counts, symbol_of, target}
use Rattle.loaded_file.specs.Ranges.{has_range, inside}
use Rattle.loaded_file.proofs.ByteRangeLemmas.{both_made}
use Rattle.object_graph.specs.Fixed.{is_alias, is_aliased_into, aliases_into}
use Rattle.object_graph.specs.Aliases.{aliases_by, is_hit, is_hit_in}

hit_aliases : (v : PlainView) (s : ℕ) → any_below (is_hit_in v s) (length v.symbols) ≡ true → any_below (aliases_into v s) (length v.relocs) ≡ true
hit_aliases v s found =
    let (k, below, hit) = any_found (is_hit_in v s) (length v.symbols) found in
    let t = symbol_at v k in
    let last = both (has_range v t && is_hit v t.value t.size) (t.section == s) hit in
    let first = both (has_range v t) (is_hit v t.value t.size) last.0 in
    let (i, within, aliases) = any_found (aliases_by v (inside t.value t.size)) (length v.relocs) first.1 in
    let r = reloc_at v i in
    let leads = inside t.value t.size (symbol_of v r).value || inside t.value t.size (target v r) in
    let parts = both (counts v r && is_alias v (symbol_of v r)) leads aliases in
    let owned = both_made (has_range v t) (t.section == s) first.0 last.1 in
    let into = both_made (has_range v t && (t.section == s)) leads owned parts.1 in
    let some = any_at (is_aliased_into v s r) (length v.symbols) k below into in
    any_at (aliases_into v s) (length v.relocs) i within (both_made (counts v r && is_alias v (symbol_of v r)) (any_below (is_aliased_into v s r) (length v.symbols)) parts.0 some)

aliases_hit : (v : PlainView) (s : ℕ) → any_below (aliases_into v s) (length v.relocs) ≡ true → any_below (is_hit_in v s) (length v.symbols) ≡ true
aliases_hit v s found =
    let (i, within, aliases) = any_found (aliases_into v s) (length v.relocs) found in
    let r = reloc_at v i in
    let outer = both (counts v r && is_alias v (symbol_of v r)) (any_below (is_aliased_into v s r) (length v.symbols)) aliases in
    let (k, below, into) = any_found (is_aliased_into v s r) (length v.symbols) outer.1 in
    let t = symbol_at v k in
    let leads = inside t.value t.size (symbol_of v r).value || inside t.value t.size (target v r) in
    let parts = both (has_range v t && (t.section == s)) leads into in
    let owned = both (has_range v t) (t.section == s) parts.0 in
    let by = both_made (counts v r && is_alias v (symbol_of v r)) leads outer.0 parts.1 in
    let hit = any_at (aliases_by v (inside t.value t.size)) (length v.relocs) i within by in
    any_at (is_hit_in v s) (length v.symbols) k below (both_made (has_range v t && is_hit v t.value t.size) (t.section == s) (both_made (has_range v t) (is_hit v t.value t.size) owned.0 hit) owned.1)

pub aliased_is : (v : PlainView) (s : ℕ) → any_below (is_hit_in v s) (length v.symbols) ≡ any_below (aliases_into v s) (length v.relocs)
aliased_is v s = same_tests _ _ (hit_aliases v s) (aliases_hit v s)

pub aliased_by : (v : PlainView) (s : ℕ) (new old : Bool) → new ≡ (old || any_below (is_hit_in v s) (length v.symbols)) → old ≡ false → new ≡ any_below (aliases_into v s) (length v.relocs)
aliased_by v s new old adds none =
    adds ∙ ap (λ (b : Bool). b || any_below (is_hit_in v s) (length v.symbols)) none ∙ aliased_is v s
