-- What a piece of code costs at home and copied, as it is counted from the tables of a profile.
use Rattle.std.specs.Prelude.{ℕ, zero, suc, ◌+◌, ◌-◌, ◌*◌, ◌==◌, nat_lt, Bool, true, false, not, ◌&&◌, if◌then◌else◌, List, [], ◌∷◌, ◌++◌, length, slice_index_or}
use Rattle.list_checks.specs.Sorted.{count_below, sum_below}
use Rattle.object_graph.specs.declared.parts.Graph.{Graph}
use Rattle.code_blocks.specs.Numbers.{starts_of, start_at}
use Rattle.code_blocks.specs.declared.parts.Code.{Code}
use Rattle.code_blocks.specs.declared.ends.End.{End}
use Rattle.object_machine.specs.declared.events.Outcome.{Outcome}
use Rattle.profile_runner.specs.Transition.{is_going}
use Rattle.profile_runner.specs.declared.counts.Edge.{Edge}
use Rattle.profile_runner.specs.declared.counts.Profile.{Profile}
use Rattle.block_splitter.specs.declared.block_range.BlockRange.{BlockRange}
use Rattle.block_splitter.specs.declared.unit_kind.UnitKind.{UnitKind}
use Rattle.block_splitter.specs.declared.unit_kind.UnitKind.TheVariants.{Branch, Jump}
use Rattle.block_splitter.specs.Forms.{Body, body_at, unit_in, is_site, kind_of, holds_block, begins_in, copy_size, fall_out_words}
use Rattle.energy_model.specs.Energy.{may_stay}

-- ---- words that run

-- of unit `k` of a block: in a copy where all that it leads to is of that copy, and else at home
abbrev pub unit_words : Graph → Bool → Body → ℕ → ℕ
unit_words g copied b k = if copied then copy_size (λ a. true) (kind_of (is_site g) b k) else (unit_in b k).words

-- the words more of a copied last unit that leads out of its copy, `next` being where control goes: a branch out that is
-- taken, a jump out
abbrev pub exit_words : (ℕ → Bool) → ℕ → UnitKind → ℕ
exit_words inside next (Branch kind rs1 rs2 target) = if (next == target) && not (inside target) then 2 else 0
exit_words inside next (Jump target) = if inside target then 0 else 1
exit_words inside next kind = 0

-- and those behind it where its block falls out
abbrev pub leaving_words : (ℕ → Bool) → ℕ → UnitKind → End → ℕ
leaving_words inside next kind end = exit_words inside next kind + fall_out_words inside next end

-- ---- how often they ran

abbrev pub arrivals_in : Profile → ℕ → ℕ
arrivals_in q b = slice_index_or q.arrivals.items b 0

-- a block
abbrev pub whole_words : Graph → Bool → Body → ℕ
whole_words g copied b = sum_below (unit_words g copied b) (length b.units)

-- the last block, the last time that it began: its last unit has one word where the run ended with that
abbrev pub last_words : Graph → Bool → Outcome → Body → ℕ → ℕ
last_words g copied outcome b k = if is_going outcome then unit_words g copied b k else 1

abbrev pub part_words : Graph → Bool → Profile → Body → ℕ
part_words g copied q b =
    sum_below (unit_words g copied b) (q.last.1 - 1) + last_words g copied q.outcome b (q.last.1 - 1)

-- the words of block `b` in the whole run: each time that it began it ran whole, but for the last block
abbrev pub block_words : Code → Graph → Profile → Bool → ℕ → ℕ
block_words c g q copied b =
    if b == q.last.0
    then (arrivals_in q b - 1) * whole_words g copied (body_at c.blocks.items b) + part_words g copied q (body_at c.blocks.items b)
    else arrivals_in q b * whole_words g copied (body_at c.blocks.items b)

-- ---- edges

abbrev pub no_edge : Edge
no_edge = record { from = 0; to = 0; count = 0 }

-- the values of the edges from block `a`, each as often as it was taken; and of those to block `b`
abbrev pub value_from : ℕ → (ℕ → ℕ) → Edge → ℕ
value_from a value e = if e.from == a then e.count * value e.to else 0

abbrev pub count_to : ℕ → Edge → ℕ
count_to b e = if e.to == b then e.count else 0

abbrev pub edge_in : List Edge → ℕ → Edge
edge_in edges j = slice_index_or edges j no_edge

abbrev pub leaving : List Edge → ℕ → (ℕ → ℕ) → ℕ
leaving edges a value = sum_below (λ j. value_from a value (edge_in edges j)) (length edges)

abbrev pub coming : List Edge → ℕ → ℕ
coming edges b = sum_below (λ j. count_to b (edge_in edges j)) (length edges)

-- ---- pieces

-- the values of the blocks of a piece
abbrev pub sum_in : BlockRange → (ℕ → ℕ) → ℕ → ℕ
sum_in range value n = sum_below (λ b. if holds_block b range then value b else 0) n

-- the words more with an edge from block `a` to block `b`
abbrev pub edge_words : Code → Graph → BlockRange → ℕ → ℕ → ℕ
edge_words c g range a b =
    leaving_words (begins_in (starts_of c) range) (start_at c b)
    (kind_of (is_site g) (body_at c.blocks.items a) (length (body_at c.blocks.items a).units - 1)) (body_at c.blocks.items a).end

abbrev pub stays_in : BlockRange → ℕ → ℕ
stays_in range b = if holds_block b range then 1 else 0

-- at home
abbrev pub home_words : Code → Graph → Profile → BlockRange → ℕ
home_words c g q range = sum_in range (block_words c g q false) (length c.blocks.items)

-- copied, with the words by which control leaves
abbrev pub copied_words_of : Code → Graph → Profile → BlockRange → ℕ → ℕ
copied_words_of c g q range b = block_words c g q true b + leaving q.edges.items b (edge_words c g range b)

abbrev pub copy_words_run : Code → Graph → Profile → BlockRange → ℕ
copy_words_run c g q range = sum_in range (copied_words_of c g q range) (length c.blocks.items)

-- how often control went from block to block inside, where the one ends in no call and no jump by a register
abbrev pub stays_of : Code → Profile → BlockRange → ℕ → ℕ
stays_of c q range a = if may_stay (body_at c.blocks.items a).end then leaving q.edges.items a (stays_in range) else 0

abbrev pub stayed : Code → Profile → BlockRange → ℕ
stayed c q range = sum_in range (stays_of c q range) (length c.blocks.items)

-- the edge to block `b` with which the run stopped is none of its arrivals: there are more edges to it than arrivals. The
-- first block of the run began without an edge
abbrev pub pending : Code → Profile → ℕ → ℕ
pending c q b =
    coming q.edges.items b + (if start_at c b == c.entry then 1 else 0) - arrivals_in q b

-- that edge stays in the piece
abbrev pub pending_inside : Code → Profile → BlockRange → ℕ
pending_inside c q range =
    if holds_block q.last.0 range && may_stay (body_at c.blocks.items q.last.0).end
    then sum_in range (pending c q) (length c.blocks.items)
    else 0

-- how often control came from outside
abbrev pub came_in : Code → Profile → BlockRange → ℕ
came_in c q range =
    sum_in range (arrivals_in q) (length c.blocks.items) + pending_inside c q range - stayed c q range

-- the same of the blocks alone that pass a test
abbrev pub stayed_to : Code → Profile → BlockRange → (ℕ → Bool) → ℕ
stayed_to c q range to =
    sum_in range
    (λ a. if may_stay (body_at c.blocks.items a).end then leaving q.edges.items a (λ b. if to b then 1 else 0) else 0)
    (length c.blocks.items)

abbrev pub pending_to : Code → Profile → BlockRange → (ℕ → Bool) → ℕ
pending_to c q range to =
    if holds_block q.last.0 range && may_stay (body_at c.blocks.items q.last.0).end
    then sum_below (λ b. if to b then pending c q b else 0) (length c.blocks.items)
    else 0

abbrev pub came_to : Code → Profile → BlockRange → (ℕ → Bool) → ℕ
came_to c q range to =
    sum_below (λ b. if to b then arrivals_in q b else 0) (length c.blocks.items) + pending_to c q range to - stayed_to c q range to

-- ---- lists of counts, and where edges stand

-- the values of the first places
abbrev pub values : (ℕ → ℕ) → ℕ → List ℕ
values f zero = []
values f (suc n) = values f n ++ f n ∷ []

-- how many edges are from blocks before block `a`: the first edge from that block stands there
abbrev pub edges_before : List Edge → ℕ → ℕ
edges_before edges a = count_below (λ j. nat_lt (edge_in edges j).from a) (length edges)
