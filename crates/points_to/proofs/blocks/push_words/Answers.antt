use Rattle.std.proofs.Common.{◌≡◌, ◌∙◌, ℕ, ◌<◌, slice_index_or, length, ap, subst, arith}
use Rattle.std.proofs.lemmas.List.{get_or_default}
use Rattle.object_graph.specs.Lookups.{IsSomeGraph}
use Rattle.object_graph.specs.declared.parts.Graph.{Graph}
use Rattle.object_graph.specs.declared.parts.DataWord.{DataWord}
use Rattle.reach_graph.specs.Reaching.{plain_rows}
use Rattle.dataflow.specs.Flows.{no_word}
use Rattle.points_to.specs.Nodes.{Adds, Upto, OneEdge, WordEdge, object_node, memory}
use Rattle.points_to.proofs.EdgeLemmas.{adds_more}
use Rattle.dataflow.proofs.SiteLemmas.{word_inside}
use Rattle.points_to.proofs.blocks.push_words.Goals as goal

-- the object of a word of the list
object_inside : (g : Graph) (i : ℕ) (w : DataWord) → IsSomeGraph g → i < length g.data_words.items → w ≡ slice_index_or g.data_words.items i w → w.object < length g.objects.items
object_inside g i w some inside is =
    let below = word_inside g i w some inside in
    let object : w.object ≡ (slice_index_or g.data_words.items i w).object = ap (λ (d : DataWord). d.object) is in
    omega (arith, below, object)

pub object-requires : goal.object-requires
object-requires c =
    let below = object_inside c.args.graph.now c.loop-i.i c.index.result.now c.requires.graph (omega arith) c.index.ensures in
    omega (arith, below, c.requires.objects)

pub push-requires : goal.push-requires
push-requires c =
    let below = object_inside c.args.graph.now c.loop-i.i c.index.result.now c.requires.graph (omega arith) c.index.ensures in
    omega (arith, below, c.requires.objects, c.object.ensures, c.requires.room)

pub loop-i-preserved : goal.loop-i-preserved
loop-i-preserved c =
    let n = c.args.nodes.blocks in
    let g = c.args.graph.now in
    let i = c.loop-i.i in
    let o = (slice_index_or g.data_words.items i no_word).object in
    let now = plain_rows c.loop-i.graph_edges in
    let new = plain_rows c.push.new.graph_edges in
    let inside : i < length g.data_words.items = omega arith in
    let w = c.index.result.now in
    let object : w.object ≡ o = ap (λ (d : DataWord). d.object) (c.index.ensures ∙ get_or_default g.data_words.items i w no_word inside) in
    let one = subst (λ (q : ℕ). Adds (OneEdge q c.memory.result) now new) c.object.ensures c.in_ok-push.ensures in
    let two = subst (λ (q : ℕ). Adds (OneEdge (object_node n w.object) q) now new) c.memory.ensures one in
    let three = subst (λ (q : ℕ). Adds (OneEdge (object_node n q) (memory n)) now new) object two in
    adds_more i (WordEdge g n) (plain_rows c.args.graph_edges.now) now new c.loop-i.invariant three

pub returns : goal.returns
returns c =
    let all : c.loop-i.i ≡ length c.args.graph.now.data_words.items = omega arith in
    subst (λ (m : ℕ). Adds (Upto m (WordEdge c.args.graph.now c.args.nodes.blocks)) (plain_rows c.args.graph_edges.now) (plain_rows c.loop-i.graph_edges)) all c.loop-i.invariant
