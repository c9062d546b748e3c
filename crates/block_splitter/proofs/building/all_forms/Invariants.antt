use Rattle.std.proofs.Common.{◌≡◌, ℕ, ◌<◌, length}
use Rattle.block_splitter.specs.Facts.{form_at, IsFormAt}
use Rattle.block_splitter.proofs.building.all_forms.Given as goal

abbrev pub invariant-loop-b : goal.invariant-loop-b
invariant-loop-b l = record {
  each : length l.forms.items ≡ l.b;
  are : (k : ℕ) → k < l.b → IsFormAt l.code l.graph k (form_at l.forms.items k);
}
