use Rattle.std.proofs.Common.{◌∙◌, List, map, refl, ap}
use Rattle.patch_code.specs.declared.stub_plan.Stub.{Stub}
use Rattle.placement_programme.specs.declared.variables.VarName.{VarName}
use Rattle.relink_core.specs.Padding.{home_of}
use Rattle.relink_core.specs.UnitMaps.{regions_named, moves}
use Rattle.relink_core.specs.declared.form_sources.FormSources.{FormSources}
use Rattle.relink_core.proofs.UnitMapsMade.{are_forms}
use Rattle.relink_core.proofs.unit_maps.moved_units.Goals as goal

pub all_forms-requires : goal.all_forms-requires
all_forms-requires c =
    let (file, board, taken, (some, made)) = c.requires in
    let homes = c.deref-5.ensures.value ∙ c.in_ok-homes.ensures ∙ ap (λ (ts : List Stub). map home_of ts) c.deref.ensures.value in
    let regions = c.deref-7.ensures.value ∙ c.in_ok-regions.ensures ∙ ap (λ (names : List VarName). regions_named names) c.deref-2.ensures.value in
    made.can _ (are_forms _ _ _ _ refl refl refl c.deref-3.ensures.value c.deref-4.ensures.value homes c.deref-6.ensures.value regions c.deref-8.ensures.value c.deref-9.ensures.value)

pub returns-in-Ok : goal.returns-in-Ok
returns-in-Ok c = λ file board taken made.
    let a = c.args.a.now in
    let from : FormSources =
    record {
      source =
          record {
            ref_ptr = (0, 0);
            now =
                record {
                  code = record { ref_ptr = (0, 0); now = a.code };
                  live = record { ref_ptr = (0, 0); now = a.live };
                  graph = record { ref_ptr = (0, 0); now = a.graph };
                  pieces = c.deref-3.result;
                  sites = c.deref-4.result;
                };
          };
      homes = c.deref-5.result;
      copies = c.deref-6.result;
      regions = c.deref-7.result;
      stubs = c.deref-8.result;
      stub_at = c.deref-9.result;
    } in
    let homes = c.deref-5.ensures.value ∙ c.in_ok-homes.ensures ∙ ap (λ (ts : List Stub). map home_of ts) c.deref.ensures.value in
    let regions = c.deref-7.ensures.value ∙ c.in_ok-regions.ensures ∙ ap (λ (names : List VarName). regions_named names) c.deref-2.ensures.value in
    let forms = are_forms a c.args.made.now c.args.parts.now from refl refl refl c.deref-3.ensures.value c.deref-4.ensures.value homes c.deref-6.ensures.value regions c.deref-8.ensures.value c.deref-9.ensures.value in
    moves made.0
    (record {
      moved = made.1.moved;
      forms = made.1.forms from c.in-Ok.units.items forms c.in-Ok.ensures;
    })
