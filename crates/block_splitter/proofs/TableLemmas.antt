-- What the table of all blocks tells of one of them.
use Rattle.std.proofs.Common.{◌≡◌, ◌∙◌, ℕ, ◌+◌, ◌<◌, ◌≤◌, nat_lt, Bool, false, not, ◌&&◌, ◌||◌, slice_index_or, Option, Some, None, refl, sym, ap, subst, arith}
use Rattle.std.proofs.lemmas.List.{get_or_default}
use Rattle.list_checks.specs.Tests.{any_below}
use Rattle.code_blocks.specs.Early.{has}
use Rattle.code_blocks.specs.Numbers.{start_at}
use Rattle.code_blocks.specs.Leads.{leads_to}
use Rattle.code_blocks.specs.declared.parts.Code.{Code}
use Rattle.object_graph.specs.declared.parts.Graph.{Graph}
use Rattle.block_splitter.specs.declared.block_range.BlockRange.{BlockRange}
use Rattle.block_splitter.specs.declared.block_form.BlockForm.{BlockForm}
use Rattle.block_splitter.specs.declared.block_form.Sources.{Sources}
use Rattle.block_splitter.specs.declared.table.Table.{Table}
use Rattle.block_splitter.specs.Forms.{holds_block, body_at}
use Rattle.block_splitter.specs.Pieces.{IsCopyable, is_entry, most_words}
use Rattle.block_splitter.specs.Facts.{block_count, full_size, no_sources, IsForm, IsFormAt, IsTable, MayStand, size_in}
use Rattle.block_splitter.proofs.MeasureLemmas.{full_below}
use Rattle.block_splitter.proofs.SumLemmas.{from_outside}

form_there : (c : Code) (g : Graph) (t : Table) (b : ℕ) (o : Option BlockForm) → IsTable c g t → b < block_count c → o ≡ slice_index_or t.forms.items b o → IsFormAt c g b o
form_there c g t b o table below is =
    let each = table.forms_each in
    subst (IsFormAt c g b) (get_or_default t.forms.items b None o (omega (arith, below, each)) ∙ sym is) (table.forms_are b below)

pub form_is : (c : Code) (g : Graph) (t : Table) (b : ℕ) (o : Option BlockForm) (f : BlockForm) → IsTable c g t → b < block_count c → o ≡ slice_index_or t.forms.items b o → o ≡ Some f → IsForm c g b f
form_is c g t b o f table below is some = subst (IsFormAt c g b) some (form_there c g t b o table below is)

none_at : (c : Code) (g : Graph) (b : ℕ) (o : Option BlockForm) → IsFormAt c g b o → ((f : BlockForm) → o ≡ Some f → ⊥) → IsCopyable c b → full_size g (body_at c.blocks.items b) ≤ most_words → ⊥
none_at c g b None is none = is
none_at c g b (Some f) is none = absurd (none f refl)

pub no_form : (c : Code) (g : Graph) (t : Table) (range : BlockRange) (b words : ℕ) (o : Option BlockForm) → IsTable c g t → b < block_count c → o ≡ slice_index_or t.forms.items b o → ((f : BlockForm) → o ≡ Some f → ⊥) → MayStand c range b → words + size_in c g range b ≤ most_words → ⊥
no_form c g t range b words o table below is none stand small =
    none_at c g b o (form_there c g t b o table below is) none stand.copyable (full_below c g range b words small)

neither : (a b : Bool) → a ≡ false → a || b ≡ b
neither a b is = rw is refl

pub enters : (c : Code) (g : Graph) (t : Table) (range : BlockRange) (b : ℕ) (i r : Bool) (s : Sources) → IsTable c g t → b < block_count c → range.first ≤ b → b ≤ range.last → i ≡ slice_index_or t.indirect.items b i → i ≡ false → s ≡ slice_index_or t.sources.items b s → r ≡ nat_lt s.least range.first || nat_lt range.last s.greatest
    → r ≡ is_entry c range b
enters c g t range b i r s table below from to marked isn't there told =
    let each = table.indirect_each in
    let both = table.sources_each in
    let none : has c.indirect.items (start_at c b) ≡ false = sym (table.indirect_are b below) ∙ get_or_default t.indirect.items b false i (omega (arith, below, each)) ∙ sym marked ∙ isn't in
    let same : slice_index_or t.sources.items b no_sources ≡ s = get_or_default t.sources.items b no_sources s (omega (arith, below, both)) ∙ sym there in
    let sources = table.sources_are b below in
    let low = ap (λ (x : Sources). nat_lt x.least range.first) (sym same) ∙ sources.below range.first from in
    let high = ap (λ (x : Sources). nat_lt range.last x.greatest) (sym same) ∙ sources.above range.last to in
    told
    ∙ (λ j. low j || high j)
    ∙ sym (from_outside range (λ a. leads_to c a b) (block_count c))
    ∙ sym (neither (has c.indirect.items (start_at c b)) (any_below (λ a. not (holds_block a range) && leads_to c a b) (block_count c)) none)
