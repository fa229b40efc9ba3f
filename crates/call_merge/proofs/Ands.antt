-- Two items that are pushed onto an empty list.
use Rattle.std.proofs.Common.{◌≡◌, List, [], ◌∷◌, ◌++◌, ap, ◌∙◌}

pub two_pushed : {X : Type 0} (start one two : List X) (a b : X) → start ≡ [] → one ≡ start ++ a ∷ [] → two ≡ one ++ b ∷ [] → two ≡ a ∷ b ∷ []
two_pushed start one two a b none first second =
    second ∙ ap (λ (xs : List _). xs ++ b ∷ []) (first ∙ ap (λ (xs : List _). xs ++ a ∷ []) none)
