-- The parts of words are parts of nodes' names too.
use Rattle.std.proofs.Common.{◌≡◌, ℕ, Bool, true, false, List, [], ◌∷◌, refl}
use Rattle.std.specs.Prelude.{◌&&◌, ◌||◌, ◌==◌}
use Rattle.std.specs.List.{list_all}
use Rattle.chp_base.specs.Names.{word_part, node_part}

pub left_true : (a b : Bool) → (a && b) ≡ true → a ≡ true
left_true true b h = refl
left_true false b h = h

pub right_true : (a b : Bool) → (a && b) ≡ true → b ≡ true
right_true true b h = h
right_true false b h = absurd (cc h)

both_true : (a b : Bool) → a ≡ true → b ≡ true → (a && b) ≡ true
both_true true b x y = y
both_true false b x y = x

either_true : (a b : Bool) → a ≡ true → (a || b) ≡ true
either_true true b x = refl
either_true false b x = absurd (cc x)

pub node_parts : (bs : List ℕ) → list_all word_part bs ≡ true → list_all node_part bs ≡ true
node_parts [] h = refl
node_parts (b ∷ bs) h =
    both_true (node_part b) _ (either_true (word_part b) (b == 46) (left_true (word_part b) _ h)) (node_parts bs (right_true (word_part b) _ h))
