-- The numbers of the worked selection are as its call asks.
use Rattle.std.proofs.Common.{◌≡◌, ◌≢◌, ℕ, ◌<◌, Bool, true, not, List, [], ◌∷◌, All, length, arith, ap, sym, ◌∙◌, refl, subst}
use Rattle.std.specs.Prelude.{◌&&◌, ◌==◌}
use Rattle.std.specs.List.{list_all}
use Rattle.std.proofs.lemmas.List.Elements.{All-nil, All-cons}
use Rattle.std.proofs.lemmas.List.Kept.{AllPairs-cons}
use Rattle.cell_select.specs.Contract.{AreApart, select_nodes}
use Rattle.cell_select.specs.PortNodes.{AreBranches, IsSelect, select_of}
use Rattle.cell_select.specs.declared.emit.SelectPorts.{SelectPorts}
use Rattle.cell_select.proofs.Tables.{and_left, and_right, same_number, not_true, true_false}

-- whether all of the numbers are distinct
abbrev all_apart : List ℕ → Bool
all_apart [] = true
all_apart (n ∷ ns) = list_all (λ m. not (m == n)) ns && all_apart ns

differ : (n m : ℕ) → not (m == n) ≡ true → n ≢ m
differ n m h e = true_false (ap (λ k. k == n) (sym e) ∙ same_number n) (not_true _ h)

fresh_by : (n : ℕ) (ns : List ℕ) → list_all (λ m. not (m == n)) ns ≡ true → All (λ m. n ≢ m) ns
fresh_by n [] h = All-nil (λ m. n ≢ m)
fresh_by n (m ∷ ns) h =
    All-cons (λ m. n ≢ m) m ns (differ n m (and_left (not (m == n)) (list_all (λ m. not (m == n)) ns) h))
    (fresh_by n ns (and_right (not (m == n)) (list_all (λ m. not (m == n)) ns) h))

apart_by : (ns : List ℕ) → all_apart ns ≡ true → AreApart ns
apart_by [] h = λ i j d less lt. absurd (omega (arith, lt))
apart_by (n ∷ ns) h =
    AllPairs-cons (λ (a b : ℕ). a ≢ b) n ns (fresh_by n ns (and_left (list_all (λ m. not (m == n)) ns) (all_apart ns) h))
    (apart_by ns (and_right (list_all (λ m. not (m == n)) ns) (all_apart ns) h))

abbrev two_below : (count a b : ℕ) → a < count → b < count → All (λ n. n < count) (a ∷ b ∷ [])
two_below count a b h k = All-cons (λ n. n < count) a (b ∷ []) h (All-cons (λ n. n < count) b [] k (All-nil (λ n. n < count)))

branches_are : (ls ss ans rails : List ℕ) → ls ≡ 24 ∷ 25 ∷ [] → ss ≡ 26 ∷ 27 ∷ [] → ans ≡ 54 ∷ 57 ∷ [] → rails ≡ 40 ∷ 41 ∷ 52 ∷ 53 ∷ [] →
    AreBranches ls ss ans rails
branches_are ls ss ans rails a b c d =
    let l : length ls ≡ 2 = ap (λ (xs : List ℕ). length xs) a in
    let s : length ss ≡ 2 = ap (λ (xs : List ℕ). length xs) b in
    let n : length ans ≡ 2 = ap (λ (xs : List ℕ). length xs) c in
    let r : length rails ≡ 4 = ap (λ (xs : List ℕ). length xs) d in
    record { some = omega (arith, l); most = omega (arith, l); started = omega (arith, l, s); answered = omega (arith, l, n); railed = omega (arith, l, r) }

pub selection_is : (p : SelectPorts) → p.request ≡ 19 → p.answer ≡ 21 → p.eval ≡ 22 → p.any ≡ 23 → p.latches.items ≡ 24 ∷ 25 ∷ [] →
    p.starts.items ≡ 26 ∷ 27 ∷ [] → p.answers.items ≡ 54 ∷ 57 ∷ [] → p.guard_rails.items ≡ 40 ∷ 41 ∷ 52 ∷ 53 ∷ [] → IsSelect 60 p
selection_is p r a e m ls ss ans rails =
    let within : All (λ n. n < 60) (40 ∷ 41 ∷ 52 ∷ 53 ∷ []) =
    All-cons (λ n. n < 60) 40 (41 ∷ 52 ∷ 53 ∷ []) (omega arith)
    (All-cons (λ n. n < 60) 41 (52 ∷ 53 ∷ []) (omega arith) (two_below 60 52 53 (omega arith) (omega arith))) in
    let nodes : select_nodes (select_of p) ≡ 19 ∷ 21 ∷ 22 ∷ 23 ∷ 24 ∷ 26 ∷ 54 ∷ 25 ∷ 27 ∷ 57 ∷ 40 ∷ 41 ∷ 52 ∷ 53 ∷ [] =
    rw (r, a, e, m, ls, ss, ans, rails) refl in
    record {
      branches = branches_are p.latches.items p.starts.items p.answers.items p.guard_rails.items ls ss ans rails;
      request = omega (arith, r);
      answer = omega (arith, a);
      eval = omega (arith, e);
      any = omega (arith, m);
      latches = subst (All (λ n. n < 60)) (sym ls) (two_below 60 24 25 (omega arith) (omega arith));
      starts = subst (All (λ n. n < 60)) (sym ss) (two_below 60 26 27 (omega arith) (omega arith));
      answers = subst (All (λ n. n < 60)) (sym ans) (two_below 60 54 57 (omega arith) (omega arith));
      rails = subst (All (λ n. n < 60)) (sym rails) within;
      apart = subst AreApart (sym nodes) (apart_by (19 ∷ 21 ∷ 22 ∷ 23 ∷ 24 ∷ 26 ∷ 54 ∷ 25 ∷ 27 ∷ 57 ∷ 40 ∷ 41 ∷ 52 ∷ 53 ∷ []) refl);
    }
