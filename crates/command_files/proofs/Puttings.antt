-- Putting a text part by part.
use Rattle.std.proofs.Common.{◌≡◌, ℕ, ◌+◌, ◌<◌, ◌≤◌, min, List, [], ◌∷◌, ◌++◌, take, drop, length, get_or, Result, Ok, Err, MatchResult, sym, ap, subst, ◌∙◌, arith}
use Rattle.std.specs.List.{flat_map}
use Rattle.std.proofs.KnownBytes.{Appends-trans}
use Rattle.std.proofs.Math.Seq.{take-append-add}
use Rattle.std.proofs.lemmas.Grind.{flat_map-append}
use Rattle.std.proofs.lemmas.List.{take-append-le, take-append-drop, take_all, take_min, take_more, flat_map_more}
use Rattle.shelf_io.specs.Counts.{Rose}
use Rattle.shelf_io.specs.Sink.{SinkView, PutAll, PutSome}
use Rattle.shelf_io.specs.declared.sinks.SinkFault.{SinkFault}
use Rattle.printed_lines.specs.Texts.{part_of, text_of}
use Rattle.printed_lines.specs.declared.text.NamedPart.{NamedPart}
use Rattle.printed_lines.specs.declared.text.Text.{Text}

-- a piece behind another, which was put or failed
put_behind : (front behind : List ℕ) (old mid new : SinkView) → PutAll front old mid → PutSome behind mid new → PutSome (front ++ behind) old new
put_behind front behind old mid new first second = record {
  count = length front + second.count;
  told = rw (take-append-add front behind second.count)
      (Appends-trans old.told mid.told new.told front (take second.count behind) first.told second.told);
  rose = subst (λ (faults : ℕ). Rose faults new.faults) first.faults second.rose;
}

pub put_next : (front behind : List ℕ) (old mid new : SinkView) (r : Result (Unit {0}) SinkFault) → PutAll front old mid
    → MatchResult r (λ _. PutAll behind mid new) (λ _. PutSome behind mid new)
    → MatchResult r (λ _. PutAll (front ++ behind) old new) (λ _. PutSome (front ++ behind) old new)
put_next front behind old mid new (Ok done) first second = record {
  told = Appends-trans old.told mid.told new.told front behind first.told second.told;
  faults = second.faults ∙ first.faults;
}
put_next front behind old mid new (Err fault) first second = put_behind front behind old mid new first second

-- a piece failed, and none behind it was put
put_front : (front behind : List ℕ) (old new : SinkView) → PutSome front old new → PutSome (front ++ behind) old new
put_front front behind old new some =
    let count = min some.count (length front) in
    let same : take count (front ++ behind) ≡ take some.count front =
    take-append-le count front behind (omega arith) ∙ take_min some.count front in
    record { count = count; told = rw same some.told; rose = some.rose }

-- all parts of a text, and then the rest
pub put_rest : (t : Text) (parts : List NamedPart) (bytes : List ℕ) (k : ℕ) (old mid new : SinkView) (r : Result (Unit {0}) SinkFault)
    → parts ≡ t.parts.items → bytes ≡ t.rest.items → length parts ≤ k → PutAll (flat_map part_of (take k t.parts.items)) old mid
    → MatchResult r (λ _. PutAll bytes mid new) (λ _. PutSome bytes mid new)
    → MatchResult r (λ _. PutAll (text_of t) old new) (λ _. PutSome (text_of t) old new)
unfolding text_of
put_rest t parts bytes k old mid new r is_parts is_rest past all rest =
    let front = flat_map part_of t.parts.items in
    let whole : take k t.parts.items ≡ t.parts.items = take_all k t.parts.items (subst (λ (ps : List NamedPart). length ps ≤ k) is_parts past) in
    put_next front t.rest.items old mid new r (subst (λ (ps : List NamedPart). PutAll (flat_map part_of ps) old mid) whole all)
    (subst (λ (bs : List ℕ). MatchResult r (λ _. PutAll bs mid new) (λ _. PutSome bs mid new)) is_rest rest)

-- the parts of a text up to one that failed
pub put_up_to : (t : Text) (parts : List NamedPart) (k : ℕ) (p : NamedPart) (old mid new : SinkView)
    → parts ≡ t.parts.items → k < length parts → p ≡ get_or parts k p
    → PutAll (flat_map part_of (take k t.parts.items)) old mid → PutSome (part_of p) mid new → PutSome (text_of t) old new
unfolding text_of
put_up_to t parts k p old mid new are within is all some =
    let now = t.parts.items in
    let within' : k < length now = subst (λ (ps : List NamedPart). k < length ps) are within in
    let is' : p ≡ get_or now k p = subst (λ (ps : List NamedPart). p ≡ get_or ps k p) are is in
    let front = flat_map part_of (take (k + 1) now) in
    let behind = flat_map part_of (drop (k + 1) now) in
    let one_more : flat_map part_of (take k now) ++ part_of p ≡ front =
    flat_map_more part_of [] (take k now) p
    ∙ ap (flat_map part_of) (ap (λ (q : NamedPart). take k now ++ q ∷ []) is' ∙ sym (take_more now k p within')) in
    let seam : front ++ behind ≡ flat_map part_of now =
    sym (flat_map-append part_of (take (k + 1) now) (drop (k + 1) now)) ∙ ap (flat_map part_of) (take-append-drop (k + 1) now) in
    let up_to : PutSome front old new =
    subst (λ (bs : List ℕ). PutSome bs old new) one_more (put_behind (flat_map part_of (take k now)) (part_of p) old mid new all some) in
    put_front (flat_map part_of now) t.rest.items old new
    (subst (λ (bs : List ℕ). PutSome bs old new) seam (put_front front behind old new up_to))
