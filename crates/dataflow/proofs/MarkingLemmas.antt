-- Sets of objects that are marked.
use Rattle.std.proofs.Common.{◌≡◌, ◌⊎◌, ℕ, ◌+◌, ◌<◌, Bool, true, List, ◌∷◌, length, set, slice_index_or, Option, Some, None, ◌∙◌, ap, arith}
use Rattle.std.specs.Prelude.{◌↔◌, IfSome}
use Rattle.std.proofs.lemmas.List.{get_or_default, get_or-set_same, get_or-set_other}
use Rattle.std.proofs.Math.ListN.{length-set}
use Rattle.rv32im.specs.declared.instructions.Instr.{Instr}
use Rattle.object_graph.specs.declared.parts.Site.{Site}
use Rattle.object_graph.specs.declared.parts.Graph.{Graph}
use Rattle.object_graph.specs.declared.parts.DataWord.{DataWord}
use Rattle.code_blocks.specs.declared.parts.Unit.{Unit}
use Rattle.code_blocks.specs.declared.parts.Code.{Code}
use Rattle.code_blocks.specs.Leads.{units_at}
use Rattle.reach_graph.specs.Reaching.{HasMark, word_at}
use Rattle.dataflow.specs.Points.{site_at}
use Rattle.dataflow.specs.Flows.{written, made}
use Rattle.dataflow.specs.Flows.{no_word}
use Rattle.dataflow.proofs.MakingLemmas.{makes_made, made_makes}
use Rattle.dataflow.specs.Transfers.{AddsMarks, AreBefore, MakesHere, MakesInto, MakesInBlocks, IsInWords}

-- one object alone
pub adds_one : (S : ℕ → Type 0) (a : List Bool) (p : ℕ) → p < length a → ((o : ℕ) → S o ↔ (p ≡ o)) → AddsMarks S a (set a p true)
adds_one S a p inside is = grind (arith, length-set {A = Bool}, get_or-set_same, get_or-set_other)

-- two sets one behind the other
pub adds_both : (S T U : ℕ → Type 0) (a b c : List Bool) → AddsMarks S a b → AddsMarks T b c → ((o : ℕ) → U o ↔ (S o ⊎ T o)) → AddsMarks U a c
adds_both S T U a b c one other is = grind arith

-- ---- what a unit makes

-- the object is one of those of the graph
pub made_inside : (s : Option Site) (i : Option Instr) (p count : ℕ) → made s i ≡ Some p → IfSome s (λ (t : Site). t.object < count) → p < count
made_inside None i p count is inside = cc
made_inside (Some s) i p count is inside = let same = (made_makes (Some s) i p is).0 in omega (arith, same, inside)

-- a part of an address of object `p`
pub makes_one : (sites : List Site) (u : Unit) (us : List Unit) (behind word p : ℕ) → AreBefore sites us behind word → HasMark word (written u.instr) → made (site_at sites u.at) u.instr ≡ Some p → (o : ℕ) → MakesHere sites u us behind o ↔ (p ≡ o)
makes_one sites u us behind word p are has is o = grind (arith, makes_made, made_makes)

-- ---- sequences

-- one unit more
pub units_more : (sites : List Site) (u : Unit) (us : List Unit) (behind o : ℕ) → MakesInto sites (u ∷ us) behind o ↔ (MakesInto sites us behind o ⊎ MakesHere sites u us behind o)
units_more sites u us behind o = grind arith

-- one block more
pub blocks_more : (c : Code) (sites : List Site) (behind : List ℕ) (b o : ℕ) → MakesInBlocks c sites behind (b + 1) o ↔ (MakesInBlocks c sites behind b o ⊎ MakesInto sites (units_at c b) (word_at behind b) o)
blocks_more c sites behind b o = grind arith

-- word `i` of the list
pub word_object : (g : Graph) (i : ℕ) (w : DataWord) → i < length g.data_words.items → w ≡ slice_index_or g.data_words.items i w → w.object ≡ (slice_index_or g.data_words.items i no_word).object
word_object g i w inside is = ap (λ (d : DataWord). d.object) (is ∙ get_or_default g.data_words.items i w no_word inside)

-- one word of data more
pub words_more : (g : Graph) (i o : ℕ) → IsInWords g (i + 1) o ↔ (IsInWords g i o ⊎ ((slice_index_or g.data_words.items i no_word).object ≡ o))
words_more g i o = grind arith
