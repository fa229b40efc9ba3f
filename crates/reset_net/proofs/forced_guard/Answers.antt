use Rattle.std.proofs.Common.{◌≡◌, ◌++◌, ◌∷◌, [], map, refl, ap, ◌∙◌}
use Rattle.std.proofs.lemmas.List.{append-nil}
use Rattle.prs_core.specs.Nets.{GuardValue}
use Rattle.reset_net.proofs.forced_guard.Goals as goal

none_more : (g : GuardValue) → map (λ t. t ++ []) g ≡ g
none_more [] = refl
none_more (t ∷ ts) = ap (λ u. u ∷ map (λ v. v ++ []) ts) (append-nil t) ∙ ap (λ us. t ∷ us) (none_more ts)

pub returns : goal.returns
returns c = c.new.ensures ∙ c.in_ok-add_term.ensures
    ∙ ap (λ xs. xs ++ (c.high.result ∷ []) ∷ []) (c.in_ok-terms.ensures ∙ none_more c.args.guard.now)
    ∙ ap (λ l. c.args.guard.now ++ (l ∷ []) ∷ []) c.high.ensures
