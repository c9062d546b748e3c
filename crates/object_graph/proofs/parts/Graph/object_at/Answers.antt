use Rattle.std.proofs.Common.{List, sym, subst}
use Rattle.object_graph.specs.declared.parts.Object.{Object}
use Rattle.object_graph.specs.Lookups.{AreLaidOut}
use Rattle.object_graph.proofs.LookupLemmas.{laid_out}
use Rattle.object_graph.proofs.parts.Graph.object_at.Goals as goal

pub find_object-requires : goal.find_object-requires
find_object-requires c =
    let (v, board, is) = c.requires in
    subst (λ (os : List Object). AreLaidOut os) (sym c.deref.ensures.value) (laid_out v board c.args.self.now.objects.items is.objects)
