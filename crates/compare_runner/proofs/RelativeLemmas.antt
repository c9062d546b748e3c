-- A file without relocations that are relative to the pc makes addresses by absolute ones alone.
use Rattle.std.proofs.Common.{◌≡◌, inl, inr, ℕ, ◌+◌, ◌<◌, ◌==◌, Bool, true, false, ◌&&◌, ◌||◌, length, refl, ap, subst, arith}
use Rattle.std.proofs.lemmas.Bool.{cases_lt}
use Rattle.elf_reader.specs.File.{PlainView}
use Rattle.loaded_file.specs.Records.{reloc_at, counts}
use Rattle.object_graph.specs.Rewritable.{is_pair_low}
use Rattle.result_laws.specs.Absolute.{IsAbsolute}
use Rattle.compare_runner.specs.Relative.{is_relative}

-- none of the first relocations is
abbrev pub NoneIsRelative : PlainView → ℕ → Type 0
NoneIsRelative v n = (i : ℕ) → i < n → is_relative v (reloc_at v i) ≡ false

pub none_more : (v : PlainView) (n : ℕ) → NoneIsRelative v n → is_relative v (reloc_at v n) ≡ false → NoneIsRelative v (n + 1)
none_more v n none last i below =
    elim (cases_lt i n) [
      | inl before ↦ none i before
      | inr behind ↦
          let here : n ≡ i = omega (arith, below, behind) in
          subst (λ (k : ℕ). is_relative v (reloc_at v k) ≡ false) here last
    ]

kept_false : (a b c : Bool) → a ≡ true → (a && (b || c)) ≡ false → (b ≡ false) × (c ≡ false)
kept_false true true c is e = absurd (cc)
kept_false true false true is e = absurd (cc)
kept_false true false false is e = (refl, refl)
kept_false false b c is e = absurd (cc)

pub none_is_absolute : (v : PlainView) → NoneIsRelative v (length v.relocs) → IsAbsolute v
none_is_absolute v none =
    record {
      highs = λ i below counted kind.
          let parts = kept_false (counts v (reloc_at v i)) ((reloc_at v i).kind == 23) (is_pair_low (reloc_at v i).kind) counted (none i below) in
          let is : ((reloc_at v i).kind == 23) ≡ true = ap (λ (k : ℕ). k == 23) kind in
          absurd (cc);
      lows = λ i j below other counted other_counted low pair at.
          let parts = kept_false (counts v (reloc_at v j)) ((reloc_at v j).kind == 23) (is_pair_low (reloc_at v j).kind) other_counted (none j other) in
          absurd (cc);
    }
