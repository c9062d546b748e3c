-- The bytes of texts that are as many as a command reads.
use Rattle.std.proofs.Common.{◌≡◌, ℕ, List, [], ◌∷◌, get_or, length, refl, arith}
use Rattle.std.specs.Global.{Global}
use Rattle.std.proofs.Common.{Vec}
use Rattle.command_files.specs.Reading.{contents}

-- the bytes of no text, and of one, two, three and four texts, one by one
pub contents_of_none : (texts : List (Vec ℕ Global)) → length texts ≡ 0 → [] ≡ contents texts
contents_of_none [] e = refl
contents_of_none (p ∷ texts) e = absurd (omega (arith, e))

pub contents_of_one : (texts : List (Vec ℕ Global)) (a : Vec ℕ Global) (x : List ℕ) → length texts ≡ 1
    → a ≡ get_or texts 0 a → x ≡ a.items → x ∷ [] ≡ contents texts
contents_of_one [] a x e is same = absurd (omega arith)
contents_of_one (p ∷ []) a x e is same = cc
contents_of_one (p ∷ q ∷ texts) a x e is same = absurd (omega arith)

pub contents_of_two : (texts : List (Vec ℕ Global)) (a b : Vec ℕ Global) (x y : List ℕ) → length texts ≡ 2
    → a ≡ get_or texts 0 a → b ≡ get_or texts 1 b → x ≡ a.items → y ≡ b.items → x ∷ y ∷ [] ≡ contents texts
contents_of_two [] a b x y e is_a is_b same_x same_y = absurd (omega arith)
contents_of_two (p ∷ []) a b x y e is_a is_b same_x same_y = absurd (omega arith)
contents_of_two (p ∷ q ∷ []) a b x y e is_a is_b same_x same_y = cc
contents_of_two (p ∷ q ∷ r ∷ texts) a b x y e is_a is_b same_x same_y = absurd (omega arith)

pub contents_of_three : (texts : List (Vec ℕ Global)) (a b c : Vec ℕ Global) (x y z : List ℕ) → length texts ≡ 3
    → a ≡ get_or texts 0 a → b ≡ get_or texts 1 b → c ≡ get_or texts 2 c → x ≡ a.items → y ≡ b.items → z ≡ c.items
    → x ∷ y ∷ z ∷ [] ≡ contents texts
contents_of_three [] a b c x y z e is_a is_b is_c same_x same_y same_z = absurd (omega arith)
contents_of_three (p ∷ []) a b c x y z e is_a is_b is_c same_x same_y same_z = absurd (omega arith)
contents_of_three (p ∷ q ∷ []) a b c x y z e is_a is_b is_c same_x same_y same_z = absurd (omega arith)
contents_of_three (p ∷ q ∷ r ∷ []) a b c x y z e is_a is_b is_c same_x same_y same_z = cc
contents_of_three (p ∷ q ∷ r ∷ s ∷ texts) a b c x y z e is_a is_b is_c same_x same_y same_z = absurd (omega arith)

pub contents_of_four : (texts : List (Vec ℕ Global)) (a b c d : Vec ℕ Global) (x y z w : List ℕ) → length texts ≡ 4
    → a ≡ get_or texts 0 a → b ≡ get_or texts 1 b → c ≡ get_or texts 2 c → d ≡ get_or texts 3 d
    → x ≡ a.items → y ≡ b.items → z ≡ c.items → w ≡ d.items → x ∷ y ∷ z ∷ w ∷ [] ≡ contents texts
contents_of_four [] a b c d x y z w e is_a is_b is_c is_d same_x same_y same_z same_w = absurd (omega arith)
contents_of_four (p ∷ []) a b c d x y z w e is_a is_b is_c is_d same_x same_y same_z same_w = absurd (omega arith)
contents_of_four (p ∷ q ∷ []) a b c d x y z w e is_a is_b is_c is_d same_x same_y same_z same_w = absurd (omega arith)
contents_of_four (p ∷ q ∷ r ∷ []) a b c d x y z w e is_a is_b is_c is_d same_x same_y same_z same_w = absurd (omega arith)
contents_of_four (p ∷ q ∷ r ∷ s ∷ []) a b c d x y z w e is_a is_b is_c is_d same_x same_y same_z same_w = cc
contents_of_four (p ∷ q ∷ r ∷ s ∷ t ∷ texts) a b c d x y z w e is_a is_b is_c is_d same_x same_y same_z same_w = absurd (omega arith)
