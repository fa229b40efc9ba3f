-- So many layers of the net with copies are made by twice as many of the net with shared bodies; before and behind each two of
-- these nothing is owed to a call.
--
-- M, A, B, S, cur, st, far: as in MapStates; t, w, ts: nodes of B that move; ns: numbers of nodes of B; k: how many layers.
use Rattle.std.proofs.Common.{◌≡◌, ◌⊎◌, ℕ, zero, suc, ◌*◌, ◌<◌, ◌≤◌, true, List, [], ◌∷◌, ◌++◌, inl, inr, refl, sym, ap, ◌∙◌, subst, arith}
use Rattle.std.proofs.lemmas.Bool.{cases_lt}
use Rattle.prs_core.specs.Nets.{NetValue}
use Rattle.env_script.specs.Runs.{RunState, move_enabled, IsRun, after, begin_at}
use Rattle.env_script.specs.OneLength.{AllSafe}
use Rattle.env_script.specs.Sweeps.{IsLayer, Layers}
use Rattle.env_script.proofs.Overtakes.{Among, among, contained, after_on}
use Rattle.call_map.specs.Shared.{There, IsThere}
use Rattle.call_map.proofs.Truths.{true_false}
use Rattle.call_map.proofs.MapNodes.{back, IsOwn}
use Rattle.call_map.proofs.MapStates.{Mapping, shared_net, copies_net, may_there, is_back, within_end}
use Rattle.call_map.proofs.MapRuns.{mirror, past_there_still, tells_first}
use Rattle.call_map.proofs.MapBegins.{begins, ends, IsLate, Ending, single, paired, ending, NoneOwed, is_begin, may_begin, begin_one}
use Rattle.call_map.proofs.MapPairs.{pair, end_one}
use Rattle.call_map.proofs.MapLayers.{Within, enabled_later, theres, first_moves, second_moves, Moving, moving_at, Comes, turns, late_apart, reordered}

-- twice as many
abbrev pub twice : ℕ → ℕ
twice zero = zero
twice (suc k) = suc (suc (twice k))

pub twice_is : (k : ℕ) → twice k ≡ 2 * k
twice_is zero = refl
twice_is (suc k) = let e = twice_is k in omega (arith, e)

module _ (M : Mapping) where
  open M use {S, is, script, ws, Reached, next, safe, keeps}

  abbrev A : NetValue
  A = shared_net M

  abbrev B : NetValue
  B = copies_net M

  module _ (cur : ℕ → ℕ) (st far : RunState) (s : NoneOwed M cur st far) where
    all_safe : AllSafe A script st
    all_safe ns run = (mirror M ns cur st far s.tells run).is_safe

    -- the first moves are a layer
    found_first : (t : There) → IsThere S t → may_there M far t ≡ true → (ts : List There) → Moving M far ts
        → Among (first_moves M ts) (S.here (begins S t)) → Within ts t
    found_first t h on [] m i = i
    found_first t h on (y ∷ ys) m (inl e) =
        inl (begin_one M cur st far s y t m.0 h m.1 on (is.here_apart (begins S y) (begins S t) (is_begin M y m.0) (is_begin M t h) e))
    found_first t h on (y ∷ ys) m (inr i) = inr (found_first t h on ys m.3 i)

    first_layer : (ts : List There) → Moving M far ts → IsLayer A script st (first_moves M ts)
    first_layer [] m = tt
    first_layer (t ∷ ts) m = (
      may_begin M cur st far s t m.0 m.1,
      λ c. m.2 (found_first t m.0 m.1 ts m.3 (among (first_moves M ts) (S.here (begins S t)) c)),
      first_layer ts m.3,
    )

    -- and behind them the second ones are
    among_first : (t : There) (ts : List There) → Within ts t → Among (first_moves M ts) (S.here (begins S t))
    among_first t [] i = i
    among_first t (y ∷ ys) (inl e) = inl (ap (λ z. S.here (begins S z)) e)
    among_first t (y ∷ ys) (inr i) = inr (among_first t ys i)

    second_on : (ts : List There) → Moving M far ts → (t : There) → Within ts t → ends S t ≡ S.here (back S t) ∷ [] → IsLate S (back S t)
        → IsOwn S (begins S t) → move_enabled A script (after A st (first_moves M ts)) (S.here (back S t)) ≡ true
    second_on ts m t i e late own =
        let z = moving_at M far ts t m i in
        let p = pair M cur st far s t z.0 z.1 in
        let h = is_back M t z.0 in
        let run : IsRun A script st (S.here (begins S t) ∷ S.here (back S t) ∷ []) = subst (λ l. IsRun A script st (S.here (begins S t) ∷ l)) e p.run in
        enabled_later M (begins S t) (is_begin M t z.0) own (S.here (back S t)) (first_moves M ts) st all_safe (first_layer ts m) (among_first t ts i)
        (late_apart M far ts m (back S t) h late) run.1.0

    -- where a second move stands among others the move that it belongs to does
    found_second : (t : There) → IsThere S t → may_there M far t ≡ true → IsLate S (back S t) → (ts : List There) → Moving M far ts
        → Among (second_moves M ts) (S.here (back S t)) → Within ts t
    found_second t h on late [] m i = i
    found_second t h on late (y ∷ ys) m i = by (λ j. found_second t h on late ys m.3 j) (ending S y)
      where
        by : (Among (second_moves M ys) (S.here (back S t)) → Within ys t) → Ending S y → Within (y ∷ ys) t
        by rest (single e) = inr (rest (subst (λ l. Among (l ++ second_moves M ys) (S.here (back S t))) e i))
        by rest (paired e is_late own) = at (subst (λ l. Among (l ++ second_moves M ys) (S.here (back S t))) e i)
          where
            at : Among (S.here (back S y) ∷ second_moves M ys) (S.here (back S t)) → Within (y ∷ ys) t
            at (inl f) = inl (end_one M cur st far s y t m.0 h m.1 on is_late (is.here_apart (back S y) (back S t) (is_back M y m.0) (is_back M t h) f))
            at (inr j) = inr (rest j)

    second_layer : (all : List There) → Moving M far all → (ts : List There) → Moving M far ts → ((t : There) → Within ts t → Within all t)
        → IsLayer A script (after A st (first_moves M all)) (second_moves M ts)
    second_layer all moving [] m each = tt
    second_layer all moving (t ∷ ts) m each = by (second_layer all moving ts m.3 (λ y i. each y (inr i))) (ending S t)
      where
        by : IsLayer A script (after A st (first_moves M all)) (second_moves M ts) → Ending S t
            → IsLayer A script (after A st (first_moves M all)) (ends S t ++ second_moves M ts)
        by rest (single e) = subst (λ l. IsLayer A script (after A st (first_moves M all)) (l ++ second_moves M ts)) (sym e) rest
        by rest (paired e late own) = subst (λ l. IsLayer A script (after A st (first_moves M all)) (l ++ second_moves M ts)) (sym e) (
          second_on all moving t (each t (inl refl)) e late own,
          λ c. m.2 (found_second t m.0 m.1 late ts m.3 (among (second_moves M ts) (S.here (back S t)) c)),
          rest,
        )

    -- the nodes of a layer of the net with copies
    pub record Listed (ns : List ℕ) : Type 0 where
      pub nodes : List There
      pub numbers : theres M nodes ≡ ns
      pub moving : Moving M far nodes

    among_theres : (t : There) (ts : List There) → Within ts t → Among (theres M ts) (S.there t)
    among_theres t [] i = i
    among_theres t (y ∷ ys) (inl e) = inl (ap S.there e)
    among_theres t (y ∷ ys) (inr i) = inr (among_theres t ys i)

    listed : (ns : List ℕ) → IsLayer B script far ns → Listed ns
    listed [] layer = record { nodes = []; numbers = refl; moving = tt }
    listed (n ∷ ns) layer = by (listed ns layer.2) (cases_lt n S.count_there)
      where
        by : Listed ns → (n < S.count_there) ⊎ (S.count_there ≤ n) → Listed (n ∷ ns)
        by rest (inr past) = absurd (true_false (move_enabled B script far n) layer.0 (past_there_still M cur st far s.tells n past))
        by rest (inl less) =
            let b = is.there_back n less in
            record {
              nodes = b.0 ∷ rest.nodes;
              numbers = ap (λ i. i ∷ theres M rest.nodes) b.2 ∙ ap (λ l. n ∷ l) rest.numbers;
              moving = (
                b.1,
                ap (move_enabled B script far) b.2 ∙ layer.0,
                λ i. layer.1 (contained ns n (subst (λ l. Among l n) rest.numbers (subst (Among (theres M rest.nodes)) b.2 (among_theres b.0 rest.nodes i)))),
                rest.moving,
              );
            }

  -- the two layers that make one of the net with copies
  pub record Made (st far : RunState) (layer : List ℕ) : Type 0 where
    pub first : List ℕ
    pub second : List ℕ
    pub is_first : IsLayer A script st first
    pub is_second : IsLayer A script (after A st first) second
    pub comes : Comes M (after A (after A st first) second) (after B far layer)

  made : (cur : ℕ → ℕ) (st far : RunState) → NoneOwed M cur st far → (ts : List There) → Moving M far ts → Made st far (theres M ts)
  made cur st far s ts m = record {
    first = first_moves M ts;
    second = second_moves M ts;
    is_first = first_layer cur st far s ts m;
    is_second = second_layer cur st far s ts m ts m (λ t i. i);
    comes = subst (λ z. Comes M z (after B far (theres M ts))) (reordered M far ts m st) (turns M ts cur st far s m);
  }

  -- layer by layer
  pub record Doubled (st far : RunState) (k : ℕ) (ns : List ℕ) : Type 0 where
    pub moves : List ℕ
    pub layers : Layers A script st (twice k) moves
    pub last : Comes M (after A st moves) (after B far ns)

  after_both : (st : RunState) (first second rest : List ℕ) → after A st (first ++ (second ++ rest)) ≡ after A (after A (after A st first) second) rest
  after_both st first second rest = after_on A script st first (second ++ rest) ∙ after_on A script (after A st first) second rest

  after_layer : (far : RunState) (ns layer later : List ℕ) → ns ≡ layer ++ later → after B far ns ≡ after B (after B far layer) later
  after_layer far ns layer later e = ap (after B far) e ∙ after_on B script far layer later

  goes_on : (st far : RunState) (k : ℕ) (ns layer later : List ℕ) → ns ≡ layer ++ later → (m : Made st far layer)
      → Doubled (after A (after A st m.first) m.second) (after B far layer) k later → Doubled st far (suc k) ns
  goes_on st far k ns layer later e m r = record {
    moves = m.first ++ (m.second ++ r.moves);
    layers = (m.first, m.second ++ r.moves, refl, m.is_first, (m.second, r.moves, refl, m.is_second, r.layers));
    last = subst (λ z. Comes M (after A st (m.first ++ (m.second ++ r.moves))) z) (sym (after_layer far ns layer later e))
        (subst (λ z. Comes M z (after B (after B far layer) later)) (sym (after_both st m.first m.second r.moves)) r.last);
  }

  pub doubled : (k : ℕ) (cur : ℕ → ℕ) (st far : RunState) → NoneOwed M cur st far → (ns : List ℕ) → Layers B script far k ns → Doubled st far k ns
  doubled zero cur st far s ns l = record {
    moves = [];
    layers = refl;
    last = record { more = cur; owes_none = subst (λ z. NoneOwed M cur st (after B far z)) (sym l) s };
  }
  doubled (suc k) cur st far s ns (layer, later, e, one_layer, others) =
      let d = listed cur st far s layer one_layer in
      let m : Made st far layer = subst (Made st far) d.numbers (made cur st far s d.nodes d.moving) in
      goes_on st far k ns layer later e m
      (doubled k m.comes.more (after A (after A st m.first) m.second) (after B far layer) m.comes.owes_none later others)

  -- at first nothing is owed
  pub owes_none_first : Reached (begin_at B M.more_firsts) → NoneOwed M S.one_call (begin_at A M.firsts) (begin_at B M.more_firsts)
  owes_none_first reached = record {
    tells = tells_first M reached;
    levels = λ c l on. (
      is.first_asks c l ∙ sym (is.first_enters (S.of c) (is.of_below c l)),
      is.first_body (S.of c) (S.last (S.of c)) (is.of_below c l) (within_end M c l) ∙ sym (is.first_answers c l),
    );
  }
