-- Where the parts of a whole plan's code stand.
use Rattle.std.proofs.Common.{◌≡◌, ℕ, zero, suc, ◌+◌, ◌*◌, ◌%◌, List, ◌++◌, length, slice_index, slice_index_or, refl, ◌∙◌, ap, arith}
use Rattle.std.specs.Prelude.{All, replicate}
use Rattle.std.specs.List.{concat}
use Rattle.std.proofs.lemmas.List.{append_assoc, length-append, get_or-append-add}
use Rattle.std.proofs.lemmas.List.Sorted.{sum_by-IsPermutation}
use Rattle.rv32im.specs.Memory.{Memory, word_at}
use Rattle.rv32im.proofs.SequenceLemmas.{mean_count}
use Rattle.flat_machine.specs.Lines.{HoldsAt}
use Rattle.patch_code.specs.Start.{start_at, start_bytes, start_stub}
use Rattle.patch_code.specs.Serving.{serving_home, serving_size, serving_bytes}
use Rattle.patch_code.specs.Overlay.{OverlayPlan, switch_code, switch_bytes, switch_at, serving_at, overlay_images_at, rest_bytes, AreOverlayWords}
use Rattle.patch_code.specs.Served.{HoldsCode, ServingStands, IsServedInside, OverlayStands}
use Rattle.patch_code.proofs.Held.{held_front, held_behind}
use Rattle.patch_code.proofs.Order.{ascend_from, below_fits, in_any_order}
use Rattle.patch_code.proofs.Serves.{StandsAt, served_count, served_found, before_aligned}
use Rattle.patch_code.proofs.Places.{images_behind}

control_words : (n : ℕ) (xs : List ℕ) → length (replicate n 0 ++ xs) ≡ n + length xs
control_words zero xs = omega arith
control_words (suc n) xs = let rest = control_words n xs in omega (arith, rest)

-- the words behind sixteen
code_behind_control : (mem : Memory) (base to : ℕ) (front rest words : List ℕ) → length front ≡ 16 → words ≡ front ++ rest → base + 64 ≡ to → HoldsCode mem base words → HoldsAt mem to rest
code_behind_control mem base to front rest words sixteen whole there held k below =
    let count = ap (λ (xs : List ℕ). length xs) whole ∙ length-append front rest in
    let place : to + 4 * k ≡ base + 4 * (16 + k) = omega (arith, there) in
    let index : 16 + k ≡ length front + k = omega (arith, sixteen) in
    ap (λ x. word_at mem x) place
    ∙ (held (16 + k) (omega arith) (omega (arith, count, sixteen, below))
    ∙ (ap (λ (xs : List ℕ). slice_index xs (16 + k)) whole
    ∙ (ap (λ i. slice_index (front ++ rest) i) index ∙ get_or-append-add front rest k 0)))

pub served_inside : (p : OverlayPlan) → p.start.base % 4 ≡ 0 → All (IsServedInside p) p.stubs
served_inside p aligned k d below =
    let stub = slice_index_or p.stubs k d in
    let fits = below_fits serving_home serving_size p.stubs k d below in
    let even = before_aligned stub.home p.stubs in
    record { aligned = omega (arith, aligned, even); from = omega arith; ends = omega (arith, fits) }

module _ (p : OverlayPlan) (words : List ℕ) (are : AreOverlayWords p words) where
  abbrev stub_words : List ℕ
  stub_words = are.starts.0

  abbrev behind : List ℕ
  behind = are.served ++ (are.switch ++ concat p.images)

  start_count : 4 * length stub_words ≡ start_bytes p.start
  start_count = let count = mean_count stub_words (start_stub p.start) are.starts.1.1 in omega (arith, count)

  served_bytes : 4 * length are.served ≡ serving_bytes p.stubs
  served_bytes =
      let count = served_count p.start.base (switch_at p) (serving_at p) are.ordered are.served are.serves in
      let same = sum_by-IsPermutation serving_size p.stubs are.ordered are.by_home.same in
      omega (arith, count, same)

  switch_count : 4 * length are.switch ≡ switch_bytes p
  switch_count = let count = mean_count are.switch (switch_code p) are.switches in omega (arith, count)

  pub words_count : 4 * length words ≡ 64 + start_bytes p.start + rest_bytes p
  words_count =
      let start = start_count in
      let served = served_bytes in
      let switch = switch_count in
      let all = ap (λ (xs : List ℕ). length xs) are.whole ∙ length-append are.first behind in
      let front = ap (λ (xs : List ℕ). length xs) are.starts.1.0 ∙ control_words 16 stub_words in
      let second = length-append are.served (are.switch ++ concat p.images) in
      let third = length-append are.switch (concat p.images) in
      omega (arith, start, served, switch, all, front, second, third)

  in_front : words ≡ replicate 16 0 ++ (stub_words ++ behind)
  in_front =
      are.whole
      ∙ (ap (λ (xs : List ℕ). xs ++ behind) are.starts.1.0 ∙ append_assoc (replicate 16 0) stub_words behind)

  module _ (mem : Memory) (held : HoldsCode mem p.start.base words) where
    from_start : HoldsAt mem (start_at p.start) (stub_words ++ behind)
    from_start = code_behind_control mem p.start.base (start_at p.start) (replicate 16 0) (stub_words ++ behind) words refl in_front refl held

    from_stubs : HoldsAt mem (serving_at p) behind
    from_stubs =
        let count = start_count in
        held_behind mem (start_at p.start) (serving_at p) stub_words behind (omega (arith, count)) from_start

    from_switch : HoldsAt mem (switch_at p) (are.switch ++ concat p.images)
    from_switch =
        let count = served_bytes in
        held_behind mem (serving_at p) (switch_at p) are.served (are.switch ++ concat p.images) (omega (arith, count)) from_stubs

    pub switch_stands : HoldsAt mem (switch_at p) are.switch
    switch_stands = held_front mem (switch_at p) are.switch (concat p.images) from_switch

    pub stubs_stand : All (ServingStands p mem) p.stubs
    stubs_stand =
        in_any_order serving_home serving_size (StandsAt p.start.base (switch_at p) mem) (serving_at p) p.stubs are.ordered are.by_home.same (λ j d inside.
        served_found p.start.base (switch_at p) mem are.ordered are.served (serving_at p) j d
        (ascend_from serving_home serving_size are.ordered are.by_home.ascend) are.serves
        (held_front mem (serving_at p) are.served (are.switch ++ concat p.images) from_stubs) inside)

pub overlay_stands_so : OverlayStands
overlay_stands_so =
    record {
      stubs = λ p words mem are held. stubs_stand p words are mem held;
      switch = λ p words mem are held. (are.switch, (are.switches, switch_stands p words are mem held));
      images = λ p words mem are held.
          let count = switch_count p words are in
          images_behind p.images mem (switch_at p) (overlay_images_at p) are.switch (omega (arith, count)) (from_switch p words are mem held);
      inside = served_inside;
      count = λ p words are. words_count p words are;
    }
