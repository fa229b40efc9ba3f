-- Rules that were written in part: where memory ran out on the way.
use Rattle.std.specs.Prelude.{◌≡◌, ◌≢◌, ℕ, ◌⊎◌, List, [], ◌∷◌, ◌++◌, Contains}
use Rattle.std.proofs.Common.{sym, ap, subst, ◌∙◌, inl, inr}
use Rattle.std.proofs.lemmas.List.Elements.{All-contains, All-contains_itself, Contains-append_cases}
use Rattle.prs_core.specs.Nets.{RulesValue, IsAlone, with_rules}
use Rattle.prs_core.specs.Parts.{Owned, with_owned}
use Rattle.prs_core.specs.Turning.{among_cases, none_among}
use Rattle.prs_core.specs.Writing.{IsOther, with_append, others_alone}

-- the rules with the guards of some of these nodes written, and of no others
pub record IsPartly (os : List Owned) (before after : RulesValue) : Type 0 where
  pub written : List Owned
  pub among : (o : Owned) → Contains written o → Contains os o
  pub made : after ≡ with_owned written before

-- none was written, or all were
pub partly_none : (os : List Owned) (a b : RulesValue) → b ≡ a → IsPartly os a b
partly_none os a b same = record { written = []; among = λ o k. absurd (none_among o k); made = same }

pub partly_all : (os : List Owned) (a b : RulesValue) → b ≡ with_owned os a → IsPartly os a b
partly_all os a b made = record { written = os; among = λ o k. k; made = made }

-- those of a part of the nodes
pub partly_of : (us os : List Owned) (a b : RulesValue) → ((o : Owned) → Contains us o → Contains os o) →
    IsPartly us a b → IsPartly os a b
partly_of us os a b within x = record { written = x.written; among = λ o k. within o (x.among o k); made = x.made }

-- some, and then some more
pub partly_on : (os : List Owned) (a b c : RulesValue) → IsPartly os a b → IsPartly os b c → IsPartly os a c
partly_on os a b c x y = record {
  written = x.written ++ y.written;
  among = λ o k. by o (Contains-append_cases x.written y.written o k);
  made = y.made ∙ (ap (with_owned y.written) x.made ∙ sym (with_append x.written y.written a));
}
  where
    by : (o : Owned) → Contains x.written o ⊎ Contains y.written o → Contains os o
    by o (inl k) = x.among o k
    by o (inr k) = y.among o k

-- some, and then one more, or none
pub then_one : (os : List Owned) (a b c : RulesValue) (o : Owned) → IsPartly os a b → Contains os o →
    c ≡ with_rules o.node o.rules b → IsPartly os a c
then_one os a b c o x own made =
    partly_on os a b c x (record { written = o ∷ []; among = λ u k. by u (among_cases o [] u k); made = made })
  where
    by : (u : Owned) → (o ≡ u) ⊎ Contains [] u → Contains os u
    by u (inl e) = subst (Contains os) e own
    by u (inr k) = absurd (none_among u k)

pub then_none : (os : List Owned) (a b c : RulesValue) → IsPartly os a b → c ≡ b → IsPartly os a c
then_none os a b c x same = subst (IsPartly os a) (sym same) x

-- all other nodes keep their guards
pub partly_others : (os : List Owned) (a b : RulesValue) → IsPartly os a b → (node : ℕ) → IsOther node os →
    IsAlone a b node
partly_others os a b x node other =
    let apart : IsOther node x.written =
    λ k d within. All-contains (λ (o : Owned). o.node ≢ node) os _ other
    (x.among _ (All-contains_itself x.written k d within)) in
    subst (λ (r : RulesValue). IsAlone a r node) (sym x.made) (others_alone node x.written a apart)
