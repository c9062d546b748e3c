-- The way to a node, while a tree is read from its text.
use Rattle.std.proofs.Common.{◌≡◌, ◌∙◌, ◌≢◌, inl, inr, ℕ, zero, suc, ◌+◌, ◌-◌, ◌^◌, ◌<◌, ◌≤◌, Bool, true, false, List, [], ◌∷◌, length, length-append, slice_set, Result, Ok, Err, refl, sym, ap, subst, get_or-set_other, get_or-set_same, arith}
use Rattle.std.proofs.lemmas.List.{set-get_or}
use Rattle.placement_programme.specs.Plain.{PlainSide}
use Rattle.certificate_checker.specs.Nodes.{PlainTree, branch, over, dual, leaf, size}
use Rattle.certificate_checker.specs.Rules.{BranchHolds, Holds, FirstWrong}
use Rattle.certificate_checker.specs.Shows.{all_free, in_32_bits}
use Rattle.certificate_checker.specs.Walks.{Walks}
use Rattle.certificate_checker.specs.Reading.{◌>>=◌, number_in, tree_at}
use Rattle.certificate_checker.specs.Loading.{WalksOn}
use Rattle.certificate_checker.specs.Ways.{Step, to_zero, to_one, marks_at, node_at, HeldBefore, Completes, resumed, written_step, step_to_one, step_in, HasWay, SoFar, HoldsWith, Behind, TreeText, text_of, IsBefore, IsBehind, MayMark, marked, StandsAt, IfEnded, CanRise, first_answer}
use Rattle.certificate_checker.specs.declared.fault.CertFault.{CertFault}
use Rattle.certificate_checker.specs.declared.fields.Part.TheVariants.{Node}
use Rattle.certificate_checker.specs.declared.steps.PathStep.{PathStep}
use Rattle.certificate_checker.specs.declared.walking.Failing.{Failing}
use Rattle.certificate_checker.proofs.Failures.{root_fails, set_twice, marks_one}
use Rattle.certificate_checker.specs.Digits.{number_of}
use Rattle.certificate_checker.specs.Spelling.{tree_text}
use Rattle.certificate_checker.specs.declared.fixings.Fixing.{Fixing}
use Rattle.certificate_checker.specs.declared.fixings.Fixing.TheVariants.{Zero, One, Free}
use Rattle.certificate_checker.proofs.NumberLaws.{IsBytes}
use Rattle.certificate_checker.proofs.FieldLaws.{in_takes}
use Rattle.certificate_checker.proofs.TreeLaws.{tree_takes}
use Rattle.certificate_checker.proofs.StreamLemmas.{var_broken}

-- an entry behind a way may change
way_kept : (path : List PathStep) (way : List Step) (k : ℕ) (step : PathStep) → length way ≤ k → HasWay path way → HasWay (slice_set path k step) way
way_kept path [] k step past has = tt
way_kept path (last ∷ way) k step past has =
    let disjoint : length way ≢ k = omega (arith, past) in
    (get_or-set_other path k (length way) step (written_step (to_zero 0)) disjoint ∙ has.0, way_kept path way k step (omega (arith, past)) has.1)

way_pushed : (path : List PathStep) (last : Step) (way : List Step) (k : ℕ) (step : PathStep) → length way ≡ k → k < length path → step ≡ written_step last → HasWay path way → HasWay (slice_set path k step) (last ∷ way)
way_pushed path last way k step long inside is has =
    (ap (step_in (slice_set path k step)) long ∙ (get_or-set_same path k step (written_step (to_zero 0)) inside ∙ is), way_kept path way k step (omega (arith, long)) has)

behind_way : (s : PlainSide) (judged : Bool) (best : ℕ) (way : List Step) (t : PlainTree) (path : List PathStep) (marks : List Fixing) (o : Result ℕ Failing) → Behind s judged best way t path marks o → HasWay path way
behind_way s judged best way t path marks (Ok next) b = b.written
behind_way s judged best way t path marks (Err f) b = b.0

-- a variable that a branch fixed to one is free again
freed : (s : PlainSide) (way : List Step) (j : ℕ) (marks : List Fixing) → BranchHolds s (marks_at s way) j → marks ≡ slice_set (marks_at s way) j One → slice_set marks j Free ≡ marks_at s way
freed s way j marks rule is =
    ap (λ (ms : List Fixing). slice_set ms j Free) is
    ∙ (set_twice (marks_at s way) j One Free ∙ (ap (λ f. slice_set (marks_at s way) j f) (sym rule.free_there) ∙ set-get_or (marks_at s way) j Zero))

-- a failing node of the tree at the end of a way is the first of each whole tree
pub fails_up : (s : PlainSide) (best : ℕ) (way : List Step) (t whole : PlainTree) (n d node depth : ℕ) → node ≡ node_at way + n → depth ≡ length way + d → HeldBefore s best way → FirstWrong s best (marks_at s way) t n d → Completes way t whole → FirstWrong s best (all_free s) whole node depth
fails_up s best [] t whole n d node depth is_node is_depth held wrong whole_is =
    let here : node ≡ n = omega (arith, is_node) in
    let there : depth ≡ d = omega (arith, is_depth) in
    subst (λ (w : PlainTree). FirstWrong s best (all_free s) w node depth) (sym whole_is)
    (subst (λ (m : ℕ). FirstWrong s best (all_free s) t m depth) (sym here) (subst (λ (e : ℕ). FirstWrong s best (all_free s) t n e) (sym there) wrong))
fails_up s best (to_zero j ∷ way) t whole n d node depth is_node is_depth held wrong completes =
    fails_up s best way (branch j t completes.0) whole (1 + n) (suc d) node depth (omega (arith, is_node)) (omega (arith, is_depth)) held.1
    (inr (inl (held.0, (n, (d, (wrong, refl, refl)))))) completes.1
fails_up s best (to_one j l ∷ way) t whole n d node depth is_node is_depth held wrong completes =
    fails_up s best way (branch j l t) whole (1 + size l + n) (suc d) node depth (omega (arith, is_node)) (omega (arith, is_depth)) held.2
    (inr (inr (held.0, held.1, (n, (d, (wrong, refl, refl)))))) completes

-- the text's fault
read_err : (total levels : ℕ) (way : List Step) (e : CertFault) → resumed total levels way (Err e) ≡ Err e
read_err total levels [] e = refl
read_err total levels (to_zero j ∷ way) e = read_err total levels way e
read_err total levels (to_one j l ∷ way) e = read_err total levels way e

pub read_fault : (x : TreeText) (path : List PathStep) (marks : List Fixing) (depth : ℕ) (o : Result ℕ Failing) (rest : List ℕ) (e : CertFault) → IsBefore x path marks depth o rest → tree_at x.total (x.levels - depth) rest ≡ Err e → tree_at x.total x.levels x.bytes ≡ Err e
read_fault x path marks depth o rest e before is =
    sym before.read ∙ (ap (resumed x.total x.levels before.way) is ∙ read_err x.total x.levels before.way e)

pub levels_left : (levels depth : ℕ) → depth < levels → levels - depth ≡ suc (levels - suc depth)
levels_left levels depth deep = omega (arith, deep)

-- a branch is entered
branch_read : (total levels : ℕ) (bytes : List ℕ) (var : ℕ) (rest : List ℕ) → number_in Node 0 4294967295 total bytes ≡ Ok (var, rest) → tree_at total (suc levels) (0 ∷ bytes) ≡ (tree_at total levels rest >>= λ first. tree_at total levels first.1 >>= λ second. Ok (branch var first.0 second.0, second.1))
unfolding tree_at
branch_read total levels bytes var rest is = rw is refl

pub entered : (x : TreeText) (path : List PathStep) (marks : List Fixing) (newer : List PathStep) (fixed : List Fixing) (depth next : ℕ) (o p : Result ℕ Failing) (bytes : List ℕ) (var : ℕ) (rest : List ℕ) → depth < x.levels → next ≡ depth + 1 → number_in Node 0 4294967295 x.total bytes ≡ Ok (var, rest) → (before : IsBefore x path marks depth o (0 ∷ bytes)) → SoFar x.side x.judged x.best (to_zero var ∷ before.way) newer fixed p → IsBefore x newer fixed next p rest
entered x path marks newer fixed depth next o p bytes var rest deep is_next is before after =
    let way = before.way in
    let long = before.long in
    let below : x.levels - next ≡ x.levels - suc (length way) = omega (arith, long, is_next) in
    let here : x.levels - depth ≡ suc (x.levels - suc (length way)) = omega (arith, long, deep) in
    record {
      way = to_zero var ∷ way;
      long = omega (arith, long, is_next);
      read =
          ap (λ (n : ℕ). resumed x.total x.levels (to_zero var ∷ way) (tree_at x.total n rest)) below
          ∙ (ap (resumed x.total x.levels way) (sym (branch_read x.total (x.levels - suc (length way)) bytes var rest is))
          ∙ (ap (λ (n : ℕ). resumed x.total x.levels way (tree_at x.total n (0 ∷ bytes))) (sym here) ∙ before.read));
      so_far = after;
    }

pub enters_failed : (s : PlainSide) (judged : Bool) (best : ℕ) (way : List Step) (path : List PathStep) (marks : List Fixing) (depth var : ℕ) (f : Failing) → length way ≡ depth → depth < length path → SoFar s judged best way path marks (Err f) → SoFar s judged best (to_zero var ∷ way) (slice_set path depth (written_step (to_zero var))) marks (Err f)
enters_failed s judged best way path marks depth var f long inside before =
    (way_pushed path (to_zero var) way depth (written_step (to_zero var)) long inside refl before.0, λ t whole c. before.1 (branch var t c.0) whole c.1)

number_flat : (n : ℕ) → n < 2 ^ 32 → n ≡ in_32_bits n
unfolding in_32_bits
number_flat n small = omega arith

number_on : (a b node next : ℕ) → node ≡ in_32_bits a → next ≡ in_32_bits (node + b) → next ≡ in_32_bits (a + b)
unfolding in_32_bits
number_on a b node next first second = omega arith

number_zero : (n k : ℕ) → k ≡ in_32_bits n → k ≡ in_32_bits (0 + n)
number_zero n k is = let same : n ≡ 0 + n = omega arith in is ∙ ap in_32_bits same

pub enters_wrong : (s : PlainSide) (judged : Bool) (best : ℕ) (way : List Step) (path : List PathStep) (marks : List Fixing) (depth node var : ℕ) (f : Failing) → length way ≡ depth → depth < length path → depth < 2 ^ 32 → f.node ≡ node → f.depth ≡ depth → (BranchHolds s marks var → ⊥) → SoFar s judged best way path marks (Ok node) → SoFar s judged best (to_zero var ∷ way) (slice_set path depth (written_step (to_zero var))) marks (Err f)
enters_wrong s judged best way path marks depth node var f long inside small is_node is_depth broken before =
    let missed : BranchHolds s (marks_at s way) var → ⊥ = subst (λ (ms : List Fixing). BranchHolds s ms var → ⊥) before.fixed broken in (
      way_pushed path (to_zero var) way depth (written_step (to_zero var)) long inside refl before.written,
      λ t whole c judging. (
        node_at way,
        (
          depth,
          (
            fails_up s best way (branch var t c.0) whole 0 0 (node_at way) depth (omega arith) (omega (arith, long)) before.held
                (root_fails s best (marks_at s way) (branch var t c.0) missed) c.1,
            (number_zero (node_at way) f.node (is_node ∙ before.number), number_zero depth f.depth (is_depth ∙ number_flat depth small)),
          ),
        ),
      ),
    )

pub enters_held : (s : PlainSide) (judged : Bool) (best : ℕ) (way : List Step) (path : List PathStep) (marks : List Fixing) (depth node next var : ℕ) → length way ≡ depth → depth < length path → next ≡ in_32_bits (node + 1) → BranchHolds s marks var → SoFar s judged best way path marks (Ok node) → SoFar s judged best (to_zero var ∷ way) (slice_set path depth (written_step (to_zero var))) (slice_set marks var Zero) (Ok next)
enters_held s judged best way path marks depth node next var long inside is_next rule before =
    record {
      written = way_pushed path (to_zero var) way depth (written_step (to_zero var)) long inside refl before.written;
      fixed = ap (λ (ms : List Fixing). slice_set ms var Zero) before.fixed;
      number = number_on (node_at way) 1 node next before.number is_next;
      held = (subst (λ (ms : List Fixing). BranchHolds s ms var) before.fixed rule, before.held);
    }

-- a tree that is one node is read
joined : (s : PlainSide) (judged : Bool) (best : ℕ) (way : List Step) (t : PlainTree) (path : List PathStep) (marks : List Fixing) (depth : ℕ) (o p : Result ℕ Failing) → length way ≡ depth → SoFar s judged best way path marks o → WalksOn s best marks t o depth p → Behind s judged best way t path marks p
joined s judged best way t path marks depth (Err f) p long before is =
    subst (λ (q : Result ℕ Failing). Behind s judged best way t path marks q) (sym is) (before.0, λ whole c. before.1 t whole c)
joined s judged best way t path marks depth (Ok node) (Ok next) long before walks =
    record {
      written = before.written;
      fixed = before.fixed;
      number = number_on (node_at way) (size t) node next before.number walks.1;
      tree = subst (λ (ms : List Fixing). Holds s best ms t) before.fixed walks.0;
      held = before.held;
    }
joined s judged best way t path marks depth (Ok node) (Err f) long before walks =
    let n = walks.0 in
    let d = walks.1.0 in
    let wrong = subst (λ (ms : List Fixing). FirstWrong s best ms t n d) before.fixed walks.1.1.0 in (
      before.written,
      λ whole c judging. (
        node_at way + n,
        (
          depth + d,
          (
            fails_up s best way t whole n d (node_at way + n) (depth + d) refl (omega (arith, long)) before.held wrong c,
            (number_zero (node_at way + n) f.node (number_on (node_at way) n node f.node before.number walks.1.1.1.0), number_zero (depth + d) f.depth walks.1.1.1.1),
          ),
        ),
      ),
    )

pub single_read : (x : TreeText) (path : List PathStep) (marks : List Fixing) (depth : ℕ) (o p : Result ℕ Failing) (bytes rest : List ℕ) (t : PlainTree) → tree_at x.total (x.levels - depth) bytes ≡ Ok (t, rest) → WalksOn x.side x.best marks t o depth p → IsBefore x path marks depth o bytes → IsBehind x path marks depth p rest
single_read x path marks depth o p bytes rest t is_read walks before =
    record {
      way = before.way;
      tree = t;
      long = before.long;
      read = ap (resumed x.total x.levels before.way) (sym is_read) ∙ before.read;
      so_far = joined x.side x.judged x.best before.way t path marks depth o p before.long before.so_far walks;
    }

-- from the child for one the way goes up to its branch
rises : (s : PlainSide) (judged : Bool) (best : ℕ) (j : ℕ) (l : PlainTree) (way : List Step) (t : PlainTree) (path : List PathStep) (marks : List Fixing) (last : ℕ) (o : Result ℕ Failing) → length way ≡ last → Behind s judged best (to_one j l ∷ way) t path marks o → Behind s judged best way (branch j l t) path (marked marks (step_in path last).var Free o) o
rises s judged best j l way t path marks last (Err f) long b = (b.0.1, λ whole c. b.1 whole c)
rises s judged best j l way t path marks last (Ok next) long b =
    let var : (step_in path last).var ≡ j = ap (λ (i : ℕ). (step_in path i).var) (sym long) ∙ ap (λ (step : PathStep). step.var) b.written.0 in
    let same : node_at way + (1 + size l) + size t ≡ node_at way + (1 + size l + size t) = omega arith in
    record {
      written = b.written.1;
      fixed = ap (λ (k : ℕ). slice_set marks k Free) var ∙ freed s way j marks b.held.0 b.fixed;
      number = b.number ∙ ap in_32_bits same;
      tree = (b.held.0, b.held.1, b.tree);
      held = b.held.2;
    }

-- from the child for zero the way turns to that for one
turns : (s : PlainSide) (judged : Bool) (best : ℕ) (j : ℕ) (way : List Step) (t : PlainTree) (path : List PathStep) (marks : List Fixing) (last : ℕ) (o : Result ℕ Failing) → length way ≡ last → last < length path → Behind s judged best (to_zero j ∷ way) t path marks o → SoFar s judged best (to_one j t ∷ way) (slice_set path last (step_to_one (step_in path last))) (marked marks (step_in path last).var One o) o
turns s judged best j way t path marks last (Err f) long inside b =
    let other = ap (λ (i : ℕ). step_to_one (step_in path i)) (sym long) ∙ ap step_to_one b.0.0 in
    (way_pushed path (to_one j t) way last (step_to_one (step_in path last)) long inside other b.0.1, λ r whole c. b.1 whole (r, c))
turns s judged best j way t path marks last (Ok next) long inside b =
    let step : step_in path last ≡ written_step (to_zero j) = ap (step_in path) (sym long) ∙ b.written.0 in
    let var = ap (λ (step : PathStep). step.var) step in
    let same : node_at way + 1 + size t ≡ node_at way + (1 + size t) = omega arith in
    record {
      written = way_pushed path (to_one j t) way last (step_to_one (step_in path last)) long inside (ap step_to_one step) b.written.1;
      fixed = ap (λ (k : ℕ). slice_set marks k One) var ∙ marks_one (marks_at s way) marks j b.fixed;
      number = b.number ∙ ap in_32_bits same;
      held = (b.held.0, b.tree, b.held.1);
    }

pub risen : (x : TreeText) (path : List PathStep) (marks : List Fixing) (depth last : ℕ) (o : Result ℕ Failing) (rest : List ℕ) → depth ≡ suc last → (step_in path last).taken ≡ true → IsBehind x path marks depth o rest → IsBehind x path (marked marks (step_in path last).var Free o) last o rest
risen x path marks depth last o rest is taken b = at b.way b.tree b.long b.read b.so_far
  where
    at : (way : List Step) (t : PlainTree) → length way ≡ depth → resumed x.total x.levels way (Ok (t, rest)) ≡ tree_at x.total x.levels x.bytes → Behind x.side x.judged x.best way t path marks o → IsBehind x path (marked marks (step_in path last).var Free o) last o rest
    at [] t long read b = absurd (omega (arith, long, is))
    at (to_zero j ∷ way) t long read b =
        let last_is : last ≡ length way = omega (arith, long, is) in
        let left_out : (step_in path last).taken ≡ false = ap (λ (i : ℕ). (step_in path i).taken) last_is ∙ ap (λ (step : PathStep). step.taken) (behind_way x.side x.judged x.best (to_zero j ∷ way) t path marks o b).0 in
        absurd (let is_taken = taken in cc)
    at (to_one j l ∷ way) t long read b =
        let shorter : length way ≡ last = omega (arith, long, is) in
        record { way = way; tree = branch j l t; long = shorter; read = read; so_far = rises x.side x.judged x.best j l way t path marks last o shorter b }

pub turned : (x : TreeText) (path : List PathStep) (marks : List Fixing) (depth last : ℕ) (o : Result ℕ Failing) (rest : List ℕ) → depth ≡ suc last → last < length path → (step_in path last).taken ≡ false → IsBehind x path marks depth o rest → IsBefore x (slice_set path last (step_to_one (step_in path last))) (marked marks (step_in path last).var One o) depth o rest
turned x path marks depth last o rest is inside left_out b = at b.way b.tree b.long b.read b.so_far
  where
    at : (way : List Step) (t : PlainTree) → length way ≡ depth → resumed x.total x.levels way (Ok (t, rest)) ≡ tree_at x.total x.levels x.bytes → Behind x.side x.judged x.best way t path marks o → IsBefore x (slice_set path last (step_to_one (step_in path last))) (marked marks (step_in path last).var One o) depth o rest
    at [] t long read b = absurd (omega (arith, long, is))
    at (to_one j l ∷ way) t long read b =
        let last_is : last ≡ length way = omega (arith, long, is) in
        let taken : (step_in path last).taken ≡ true = ap (λ (i : ℕ). (step_in path i).taken) last_is ∙ ap (λ (step : PathStep). step.taken) (behind_way x.side x.judged x.best (to_one j l ∷ way) t path marks o b).0 in
        absurd (let is_left_out = left_out in cc)
    at (to_zero j ∷ way) t long read b =
        let shorter : length way ≡ last = omega (arith, long, is) in
        record {
          way = to_one j t ∷ way;
          long = long;
          read = ap (λ (n : ℕ). resumed x.total x.levels (to_one j t ∷ way) (tree_at x.total (x.levels - n) rest)) (sym long) ∙ read;
          so_far = turns x.side x.judged x.best j way t path marks last o shorter inside b;
        }

-- the variable of the last step is one of the side
pub last_marked : (x : TreeText) (path : List PathStep) (marks : List Fixing) (depth : ℕ) (o : Result ℕ Failing) (rest : List ℕ) → 1 ≤ depth → IsBehind x path marks depth o rest → MayMark x.side (step_in path (depth - 1)).var o
last_marked x path marks depth (Err f) rest some b = tt
last_marked x path marks depth (Ok next) rest some b = at b.way b.tree b.long b.so_far
  where
    marked_last : (j before : ℕ) → depth - 1 ≡ before → (step_in path before).var ≡ j → j < length x.side.vars → (step_in path (depth - 1)).var < length x.side.vars
    marked_last j before is var below =
        let here : (step_in path (depth - 1)).var ≡ j = ap (λ (i : ℕ). (step_in path i).var) is ∙ var in
        omega (arith, here, below)

    at : (way : List Step) (t : PlainTree) → length way ≡ depth → HoldsWith x.side x.best way t path marks next → (step_in path (depth - 1)).var < length x.side.vars
    at [] t long b = absurd (omega (arith, long, some))
    at (to_zero j ∷ way) t long b =
        marked_last j (length way) (omega (arith, long, some)) (ap (λ (step : PathStep). step.var) b.written.0) b.held.0.inside
    at (to_one j l ∷ way) t long b =
        marked_last j (length way) (omega (arith, long, some)) (ap (λ (step : PathStep). step.var) b.written.0) b.held.0.inside

-- the walk begins at the root, and ends behind it
pub at_root : (s : PlainSide) (judged : Bool) (best total levels : ℕ) (bytes : List ℕ) (path : List PathStep) (marks : List Fixing) (first : Result ℕ Failing) → marks ≡ all_free s → first ≡ first_answer judged → IsBefore (text_of s judged best total levels bytes) path marks 0 first bytes
at_root s judged best total levels bytes path marks first unfixed is =
    let all : levels - 0 ≡ levels = omega arith in
    record {
      way = [];
      long = refl;
      read = ap (λ (n : ℕ). tree_at total n bytes) all;
      so_far = subst (λ (o : Result ℕ Failing). SoFar s judged best [] path marks o) (sym is) (from_first judged);
    }
  where
    from_first : (j : Bool) → SoFar s j best [] path marks (first_answer j)
    from_first true = record { written = tt; fixed = unfixed; number = number_flat 0 (omega arith); held = tt }
    from_first false = (tt, λ t whole c judging. absurd (let other : false ≡ true = judging in cc))

pub walked : (x : TreeText) (path : List PathStep) (marks : List Fixing) (depth : ℕ) (o : Result ℕ Failing) (rest : List ℕ) → depth ≡ 0 → IsBehind x path marks depth o rest → (t : PlainTree) × ((tree_at x.total x.levels x.bytes ≡ Ok (t, rest)) × (x.judged ≡ true → Walks x.side x.best (all_free x.side) t 0 0 o))
walked x path marks depth o rest is b = at b.way b.tree b.long b.read b.so_far
  where
    told : (t : PlainTree) (p : Result ℕ Failing) → Behind x.side x.judged x.best [] t path marks p → x.judged ≡ true → Walks x.side x.best (all_free x.side) t 0 0 p
    told t (Ok next) b judging = (b.tree, b.number)
    told t (Err f) b judging = b.1 t refl judging

    at : (way : List Step) (t : PlainTree) → length way ≡ depth → resumed x.total x.levels way (Ok (t, rest)) ≡ tree_at x.total x.levels x.bytes → Behind x.side x.judged x.best way t path marks o → (u : PlainTree) × ((tree_at x.total x.levels x.bytes ≡ Ok (u, rest)) × (x.judged ≡ true → Walks x.side x.best (all_free x.side) u 0 0 o))
    at [] t long read b = (t, (sym read, told t o b))
    at (to_zero j ∷ way) t long read b = absurd (omega (arith, long, is))
    at (to_one j l ∷ way) t long read b = absurd (omega (arith, long, is))

-- a step forward can be taken as long as the walk isn't done
pub can_advance : (x : TreeText) (path : List PathStep) (marks : List Fixing) (depth : ℕ) (ended : Bool) (o : Result ℕ Failing) (rest : List ℕ) → ((ended ≡ true) × (depth ≡ 0) → ⊥) → StandsAt x path marks depth ended o rest → IfEnded ended (CanRise x.side path depth o)
can_advance x path marks depth false o rest going b = tt
can_advance x path marks depth true o rest going b =
    let some : 1 ≤ depth = above_none depth (λ none. going (refl, none)) in
    record { some = some; inside = last_marked x path marks depth o rest some b }
  where
    above_none : (depth : ℕ) → (depth ≡ 0 → ⊥) → 1 ≤ depth
    above_none zero other = absurd (other refl)
    above_none (suc n) other = omega arith

-- what is read is no part of the rest
pub number_shorter : (total : ℕ) (bytes : List ℕ) (n : ℕ) (rest : List ℕ) → IsBytes bytes → number_in Node 0 4294967295 total bytes ≡ Ok (n, rest) → length rest ≤ length bytes
number_shorter total bytes n rest all is =
    let parts = (in_takes Node 0 4294967295 total bytes n rest all is).0.parts in
    omega (arith, ap length parts, length-append (number_of n) rest)

tree_some : (t : PlainTree) → 1 ≤ length (tree_text t)
tree_some (branch j l r) = omega arith
tree_some (over row) = omega arith
tree_some (dual scale ms) = omega arith
tree_some leaf = omega arith

pub tree_shorter : (total levels : ℕ) (bytes : List ℕ) (t : PlainTree) (rest : List ℕ) → IsBytes bytes → tree_at total levels bytes ≡ Ok (t, rest) → length rest < length bytes
tree_shorter total levels bytes t rest all is =
    let parts = (tree_takes total levels bytes (t, rest) all is).0.parts in
    omega (arith, ap length parts, length-append (tree_text t) rest, tree_some t)

pub branch_fault : (x : TreeText) (path : List PathStep) (marks : List Fixing) (depth : ℕ) (o : Result ℕ Failing) (bytes : List ℕ) (e : CertFault) → depth < x.levels → number_in Node 0 4294967295 x.total bytes ≡ Err e → IsBefore x path marks depth o (0 ∷ bytes) → tree_at x.total x.levels x.bytes ≡ Err e
branch_fault x path marks depth o bytes e deep is before =
    read_fault x path marks depth o (0 ∷ bytes) e before
    (ap (λ (n : ℕ). tree_at x.total n (0 ∷ bytes)) (levels_left x.levels depth deep) ∙ var_broken x.total (x.levels - suc depth) bytes e is)
