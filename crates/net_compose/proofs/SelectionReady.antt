-- The nodes of a selection and of a guarded repetition are apart, and their own ones are numbered one behind the other.
use Rattle.std.proofs.Common.{◌≡◌, ℕ, zero, suc, ◌+◌, ◌<◌, ◌≤◌, List, [], ◌∷◌, ◌++◌, All, refl, sym, ap, ◌∙◌, subst, arith}
use Rattle.std.specs.List.{range_with_len}
use Rattle.prs_core.specs.Pairs.{Pair, rails_of}
use Rattle.width_check.specs.Processes.{Choices, choice_count, TypedProgram}
use Rattle.width_check.specs.Typing.{AreChoices}
use Rattle.handshake_expand.specs.Answers.{guards_from, bodies_from, select_own}
use Rattle.cell_select.specs.Contract.{Branch, SelectNodes}
use Rattle.cell_select.specs.PortNodes.{branches_from, select_of}
use Rattle.cell_select.specs.declared.emit.SelectPorts.{SelectPorts}
use Rattle.net_compose.specs.Translation.{guard_pairs, branch_answers}
use Rattle.net_compose.proofs.RailsApart.{rails_among}
use Rattle.net_compose.proofs.ReadBack.{pairs_again}

-- numbers one behind the other

pub range_append : (a m n k : ℕ) → k ≡ m + n → range_with_len a m ++ range_with_len (a + m) n ≡ range_with_len a k
range_append a zero n k e =
    let count : n ≡ k = omega (arith, e) in
    let place : a + 0 ≡ a = omega arith in
    ap (λ b. range_with_len b n) place ∙ ap (range_with_len a) count
range_append a (suc m) n zero e = absurd (omega (arith, e))
range_append a (suc m) n (suc k) e =
    let place : a + suc m ≡ a + 1 + m = omega arith in
    ap (λ (ns : List ℕ). a ∷ ns) (ap (λ b. range_with_len (a + 1) m ++ range_with_len b n) place ∙ range_append (a + 1) m n k (omega (arith, e)))

pub range_more : (a n b : ℕ) (now more : List ℕ) → now ≡ range_with_len a n → b ≡ a + n → more ≡ now ++ b ∷ [] → more ≡ range_with_len a (n + 1)
range_more a n b now more is at pushed =
    pushed ∙ (ap (λ (ns : List ℕ). ns ++ b ∷ []) is ∙ (ap (λ c. range_with_len a n ++ c ∷ []) at ∙ range_append a n 1 (n + 1) refl))

module _ (p : TypedProgram) where
  -- a selection of which so many nodes stand before its latches
  module _ (choices : Choices) (own from : ℕ) where
    abbrev latched : List ℕ
    latched = range_with_len (from + own) (choice_count choices)

    abbrev started : List ℕ
    started = range_with_len (from + own + choice_count choices) (choice_count choices)

    abbrev answers : List ℕ
    answers = branch_answers p choices (bodies_from choices own from)

    abbrev pairs : List Pair
    pairs = guard_pairs choices (guards_from choices own from)

    abbrev branches : List Branch
    branches = branches_from latched started answers pairs

    rails_below : (count : ℕ) (rails : List ℕ) → AreChoices p.channels p.vars choices → rails ≡ rails_of pairs → bodies_from choices own from ≤ count →
        All (λ n. n < count) rails
    rails_below count rails h is room =
        subst (All (λ n. n < count)) (sym is) (rails_among p (λ n. n < count) choices (guards_from choices own from) h
        (λ x low high. omega (arith, high, room)))

  module _ (choices : Choices) (request from : ℕ) (before : request < from) where
    abbrev select_at : SelectNodes
    select_at = record { request = request; answer = from; eval = from + 1; any = from + 2; branches = branches choices select_own from }

    -- the ports of a selection
    module _ (ports : SelectPorts) (r : ports.request ≡ request) (a : ports.answer ≡ from) (e : ports.eval ≡ from + 1) (m : ports.any ≡ from + 2)
        (ls : ports.latches.items ≡ latched choices select_own from)
        (ss : ports.starts.items ≡ started choices select_own from) (ns : ports.answers.items ≡ answers choices select_own from)
        (rails : ports.guard_rails.items ≡ rails_of (pairs choices select_own from)) where
      select_is : select_of ports ≡ select_at
      select_is = rw (r, a, e, m, ls, ss, ns, rails, pairs_again (pairs choices select_own from)) refl
