use Rattle.std.proofs.Common.{◌≡◌, ◌∙◌, ℕ, ◌<◌, List, take, drop, ◌++◌, length, sym, ap, subst, arith}
use Rattle.std.proofs.lemmas.List.{take-append-le, take_all}
use Rattle.std.specs.Prelude.{slice_index_or}
use Rattle.elf_reader.specs.File.{plain_view}
use Rattle.elf_reader.specs.declared.view.ElfView.{ElfView}
use Rattle.code_blocks.specs.declared.parts.Code.{Code}
use Rattle.region_former.specs.Listing.{listed_region}
use Rattle.region_former.specs.Listed.{plain_lists}
use Rattle.region_former.proofs.listing.listed_regions.Goals as goal

pub returns-in-Ok-clause-regions : goal.returns-in-Ok-clause-regions
returns-in-Ok-clause-regions c =
    let functions = c.args.code.now.functions.items in
    let old = c.in_ok-regions.regions in
    let new = c.take_lists.new.regions in
    let same : length new ≡ old.len = omega (arith, c.take_lists.auto.regions, ap length c.deref_mut.ensures.value, old.ok.0) in
    let whole : take old.len (new ++ drop (length new) old.items) ≡ new =
    take-append-le old.len new (drop (length new) old.items) (omega (arith, same)) ∙ take_all old.len new (omega (arith, same)) in
    let of_code = subst (λ (code : Code). (f : ℕ) → f < length code.functions.items → slice_index_or new f 0 ≡ listed_region (plain_view c.in_ok-names.names.view.now) code.functions.items (plain_lists c.args.lists.now) f (length c.args.lists.now)) c.in_ok-names.ensures.code c.in-Ok.ensures.regions in
    let of_view = subst (λ (view : ElfView). (f : ℕ) → f < length functions → slice_index_or new f 0 ≡ listed_region (plain_view view) functions (plain_lists c.args.lists.now) f (length c.args.lists.now)) c.in_ok-names.ensures.view of_code in
    subst (λ (xs : List ℕ). (f : ℕ) → f < length functions → slice_index_or xs f 0 ≡ listed_region (plain_view c.args.view.now) functions (plain_lists c.args.lists.now) f (length c.args.lists.now)) (sym whole) of_view
