use Rattle.std.proofs.Common.{refl}
use Rattle.patch_code.proofs.WholePlans.{stub_places_are, image_places_are}
use Rattle.patch_code.proofs.code.stubs.Goals as goal

pub returns : goal.returns
returns c =
    record {
      words = c.in_ok-words.ensures;
      start = refl;
      stub_at = stub_places_are c.args.plan.now c.sizes-bytes.result c.sizes-bytes.ensures c.in_ok-ordered.ordered.items c.deref-4.result.now c.deref.result.now
          c.deref-3.result.now c.in_ok-stub_places.field-0.items c.deref.ensures.value c.in_ok-ordered.ensures c.deref-4.ensures.value c.deref-3.ensures.value
          c.in_ok-stub_places.ensures;
      image_at = image_places_are c.args.plan.now c.sizes-bytes.result c.sizes-bytes.ensures c.in_ok-image_places.field-0.items c.deref-5.result.now
          c.deref-5.ensures.value c.in_ok-image_places.ensures;
    }
