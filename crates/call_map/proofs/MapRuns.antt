-- Each run of a net with shared bodies is a run of the net with copies, which with what is owed has no more moves, and half as
-- many at least; it is safe, and rests only where the other rests.
--
-- M, A, B, S, cur, st, far: as in MapStates; ns: the nodes that move, in order; c: a call; x: a node of its body.
use Rattle.std.proofs.Common.{◌≡◌, ◌≢◌, ℕ, ◌+◌, ◌*◌, ◌<◌, ◌≤◌, ◌==◌, Bool, true, false, List, [], ◌∷◌, length, refl, sym, ap, ◌∙◌, subst, arith, ⊎_elim, None}
use Rattle.std.specs.Prelude.{not, ◌&&◌, ◌||◌, if◌then◌else◌}
use Rattle.std.proofs.lemmas.Bool.{cases_lt, cases_eq, ne_eqb}
use Rattle.prs_core.specs.Nets.{RulesValue, NetValue, net_of, up_of, down_of}
use Rattle.prs_core.specs.Moves.{high, guard_holds, rule_enabled, both_ways}
use Rattle.env_script.specs.Runs.{RunState, completed, move_enabled, moved, IsRun, after, begin_at, IsAtRest, IsApart, IsSafeMove, IsSafeRun}
use Rattle.call_map.specs.Shared.{Here, plain, asks, answers, enters, body, There, plainly, asked, copied, IsHere, IsThere, SameGuards, body_end}
use Rattle.call_map.proofs.Truths.{or_false, and_false, true_false}
use Rattle.call_map.proofs.MapNodes.{level, asking, giving, v, u, end, back_at, back, Current, IsOther}
use Rattle.call_map.proofs.MapStates.{Mapping, shared_net, copies_net, may, may_there, PhaseOf, Tells, within_end, passed, body_alike, alike}
use Rattle.call_map.proofs.MapGuards.{env_none, plain_same, asks_same, body_same}
use Rattle.call_map.proofs.MapEnabled.{giving_alike, all_low, enters_owed, answers_owed, others_idle}
use Rattle.call_map.proofs.MapCounts.{sum_none, owed, all_owed, level_owes, one_more_owed, only_one_owed, one_less_owed, no_more_owed}
use Rattle.call_map.proofs.MapMoved.{Went, goes, stays}
use Rattle.call_map.proofs.MapWent.{at_proc, went}
use Rattle.call_map.proofs.MapStable.{stable, no_fault}

module _ (M : Mapping) where
  open M use {firsts, more_firsts, S, is, script, ws, Reached, next, safe, keeps}

  abbrev A : NetValue
  A = shared_net M

  abbrev B : NetValue
  B = copies_net M

  -- a node without guards, which is no wire, doesn't move
  unruled_still : (names : List (List ℕ)) (first : List Bool) (rules : RulesValue) (x : RunState) (n : ℕ) → S.low ≤ n
      → (up_of (net_of names first rules ws None) n ≡ []) × (down_of (net_of names first rules ws None) n ≡ [])
      → move_enabled (net_of names first rules ws None) script x n ≡ false
  unruled_still names first rules x n low g =
      let net = net_of names first rules ws None in
      ap (λ z. rule_enabled net (high x.values) n || z)
      (env_none M (high x.values) (completed x.histories) n (λ r h. ne_eqb n r (λ e. by_order r h e)))
      ∙ (or_false (rule_enabled net (high x.values) n)
      ∙ (ap (λ z. if high x.values n then guard_holds (high x.values) z else guard_holds (high x.values) (up_of net n)) g.1
      ∙ (ap (λ z. if high x.values n then false else guard_holds (high x.values) z) g.0 ∙ never (high x.values n))))
    where
      by_order : (r : ℕ) → r < S.low → n ≡ r → ⊥
      by_order r h e = omega (arith, low, h, e)

      never : (b : Bool) → (if b then false else false) ≡ false
      never true = refl
      never false = refl

  -- no number beyond the net's own moves
  pub past_still : (st : RunState) (n : ℕ) → S.count ≤ n → move_enabled A script st n ≡ false
  past_still st n le = unruled_still M.names firsts M.rules st n (let w = is.within in omega (arith, w, le)) (is.past n le)

  module _ (cur : ℕ → ℕ) (st far : RunState) (t : Tells M cur st far) where
    -- no node is pulled both ways
    same_ways : (uu : ℕ → Bool) (n m : ℕ) → SameGuards A B (high st.values) uu n m → both_ways A (high st.values) n ≡ both_ways B uu m
    same_ways uu n m g = ap (λ z. z && guard_holds (high st.values) (down_of A n)) g.0 ∙ ap (λ z. guard_holds uu (up_of B m) && z) g.1

    apart_plain : (k : ℕ) → S.is_plain k ≡ true → both_ways A (high st.values) (S.here (plain k)) ≡ false
    apart_plain k h =
        let g = is.plain_rules cur (high st.values) (high far.values) (alike M cur st far t) k h in
        same_ways (high far.values) (S.here (plain k)) (S.there (plainly k)) g ∙ (safe far t.reached).apart (S.there (plainly k))

    apart_asks : (c : ℕ) → c < S.calls → both_ways A (high st.values) (S.here (asks c)) ≡ false
    apart_asks c l =
        same_ways (high far.values) (S.here (asks c)) (S.there (asked c)) (is.asks_rules cur (high st.values) (high far.values) (alike M cur st far t) c l)
        ∙ (safe far t.reached).apart (S.there (asked c))

    apart_answers : (c : ℕ) → c < S.calls → both_ways A (high st.values) (S.here (answers c)) ≡ false
    apart_answers c l =
        let g = is.answers_rules (high st.values) c l in
        ap (λ z. z && guard_holds (high st.values) (down_of A (S.here (answers c)))) g.0
        ∙ (ap (λ z. (v S st (asks c) && v S st (body_end S c)) && z) g.1 ∙ by (v S st (asks c)) (v S st (body_end S c)))
      where
        by : (r d : Bool) → ((r && d) && not d) ≡ false
        by true true = refl
        by true false = refl
        by false d = refl

    apart_enters : (c : ℕ) → c < S.calls → cur (S.of c) ≡ c → both_ways A (high st.values) (S.here (enters (S.of c))) ≡ false
    apart_enters c l now = by (v S st (asks c)) refl
      where
        by : (b : Bool) → v S st (asks c) ≡ b → both_ways A (high st.values) (S.here (enters (S.of c))) ≡ false
        by true e =
            let g = is.enters_on (high st.values) c l e in
            ap (λ z. guard_holds (high st.values) (up_of A (S.here (enters (S.of c)))) && z) g.1
            ∙ and_false (guard_holds (high st.values) (up_of A (S.here (enters (S.of c)))))
        by false e =
            let g = is.enters_off (high st.values) (S.of c) (is.of_below c l) (all_low M st c l (others_idle M cur st far t c now) e) in
            ap (λ z. z && guard_holds (high st.values) (down_of A (S.here (enters (S.of c))))) g.0

    apart_body : (c x : ℕ) → c < S.calls → cur (S.of c) ≡ c → x < S.size (S.of c) → both_ways A (high st.values) (S.here (body (S.of c) x)) ≡ false
    apart_body c x l now h = by (t.phase c l now)
      where
        even : v S st (body_end S c) ≡ v S st (answers c) → both_ways A (high st.values) (S.here (body (S.of c) x)) ≡ false
        even da = same_ways (high far.values) (S.here (body (S.of c) x)) (S.there (copied c x))
            (is.body_rules c (high st.values) (high far.values) l (body_alike M cur st far t c l now da) x h)
            ∙ (safe far t.reached).apart (S.there (copied c x))

        by : PhaseOf M st far c
            → both_ways A (high st.values) (S.here (body (S.of c) x)) ≡ false
        by (level rq da) = even da
        by (asking rq dq aq o) = even (dq ∙ sym aq)
        by (giving rq dq aq o) =
            let far_r = moved B far (S.there (copied c (end S c))) in
            same_ways (high far_r.values) (S.here (body (S.of c) x)) (S.there (copied c x))
            (is.body_rules c (high st.values) (high far_r.values) l (giving_alike M cur st far t c l now rq dq aq o) x h)
            ∙ (safe far_r (next far (S.there (copied c (end S c))) t.reached o)).apart (S.there (copied c x))

    apart_at : (s : Here) → IsHere S s → both_ways A (high st.values) (S.here s) ≡ false
    apart_at (plain k) h = apart_plain k h
    apart_at (asks c) h = apart_asks c h
    apart_at (answers c) h = apart_answers c h
    apart_at (enters p) h = at_proc M cur st far t (λ q. both_ways A (high st.values) (S.here (enters q)) ≡ false) apart_enters p h
    apart_at (body p x) h =
        at_proc M cur st far t (λ q. x < S.size q → both_ways A (high st.values) (S.here (body q x)) ≡ false) (λ c l now. apart_body c x l now) p h.0 h.1

    apart_here : IsApart A st
    apart_here n = ⊎_elim
        (λ (l : n < S.count). let b = is.here_back n l in ap (both_ways A (high st.values)) (sym b.2) ∙ apart_at b.0 b.1)
        (λ (le : S.count ≤ n). ap (λ g. guard_holds (high st.values) g && guard_holds (high st.values) (down_of A n)) (is.past n le).0)
        (cases_lt n S.count)

    -- a node that may move is one of the net
    found : (n : ℕ) → move_enabled A script st n ≡ true → (s : Here) × IsHere S s × (S.here s ≡ n)
    found n on = ⊎_elim (λ (l : n < S.count). is.here_back n l) (λ (le : S.count ≤ n). absurd (true_false (move_enabled A script st n) on (past_still st n le)))
        (cases_lt n S.count)

    safe_move : (s : Here) → IsHere S s → may M st s ≡ true → IsSafeMove A script st (S.here s)
    safe_move s h on = record {
      stable = λ n ne more.
          let b = found n more in
          subst (λ i. move_enabled A script (moved A st (S.here s)) i ≡ true) b.2
          (stable M cur st far t s h on b.0 b.1 (λ e. ne (sym b.2 ∙ ap S.here e)) (ap (move_enabled A script st) b.2 ∙ more));
      phases = no_fault M cur st far t s h on (went M cur st far t s h on);
    }

    -- at rest here is at rest there
    rest_at : IsAtRest A script st → (to : There) → IsThere S to → may_there M far to ≡ false
    rest_at rest (plainly k) h = sym (plain_same M cur st far (alike M cur st far t) t.histories k h) ∙ rest (S.here (plain k))
    rest_at rest (asked c) h = ⊎_elim
        (λ (now : cur (S.of c) ≡ c). by now (t.phase c h now))
        (λ (off : cur (S.of c) ≢ c). even ((t.idle c h off).0 ∙ sym (t.blank (asked c) h off)))
        (cases_eq (cur (S.of c)) c)
      where
        even : v S st (asks c) ≡ u S far (asked c) → may_there M far (asked c) ≡ false
        even e = sym (asks_same M cur st far (alike M cur st far t) c h e) ∙ rest (S.here (asks c))

        by : (now : cur (S.of c) ≡ c) → PhaseOf M st far c
            → may_there M far (asked c) ≡ false
        by now (level rq da) = even (rq ∙ sym (passed M cur st far t c h now))
        by now (giving rq dq aq o) = even (rq ∙ sym (passed M cur st far t c h now))
        by now (asking rq dq aq o) = absurd (true_false (may M st (enters (S.of c))) (enters_owed M st c h (others_idle M cur st far t c now) rq)
            (rest (S.here (enters (S.of c)))))
    rest_at rest (copied c x) h = ⊎_elim
        (λ (now : cur (S.of c) ≡ c). by now (t.phase c h.0 now))
        (λ (off : cur (S.of c) ≢ c). (keeps far t.reached).quiet c x h.0 h.1
        (t.blank (asked c) h.0 off ∙ sym (t.blank (copied c (end S c)) (h.0, within_end M c h.0) off)))
        (cases_eq (cur (S.of c)) c)
      where
        by : (now : cur (S.of c) ≡ c) → PhaseOf M st far c
            → may_there M far (copied c x) ≡ false
        by now (level rq da) = sym (body_same M st far c x h.0 (body_alike M cur st far t c h.0 now da) h.1) ∙ rest (S.here (body (S.of c) x))
        by now (asking rq dq aq o) = absurd (true_false (may M st (enters (S.of c))) (enters_owed M st c h.0 (others_idle M cur st far t c now) rq)
            (rest (S.here (enters (S.of c)))))
        by now (giving rq dq aq o) =
            absurd (true_false (may M st (answers c)) (answers_owed M st c h.0 (rq ∙ sym dq) (aq ∙ ap not (sym dq))) (rest (S.here (answers c))))

    pub past_there_still : (n : ℕ) → S.count_there ≤ n → move_enabled B script far n ≡ false
    past_there_still n le =
        unruled_still M.more_names more_firsts M.more_rules far n (let w = is.within_there in omega (arith, w, le)) (is.past_there n le)

    pub rest_there : IsAtRest A script st → IsAtRest B script far
    rest_there rest n = ⊎_elim
        (λ (l : n < S.count_there). let b = is.there_back n l in ap (move_enabled B script far) (sym b.2) ∙ rest_at rest b.0 b.1)
        (λ (le : S.count_there ≤ n). past_there_still n le)
        (cases_lt n S.count_there)

  -- a run of the shared net as a run of the net with copies
  pub record Mirrored (cur : ℕ → ℕ) (st far : RunState) (ns : List ℕ) : Type 0 where
    pub moves : List ℕ
    pub run : IsRun B script far moves
    pub more : ℕ → ℕ
    pub last : Tells M more (after A st ns) (after B far moves)
    pub few : length moves + all_owed M more (after A st ns) ≤ length ns + all_owed M cur st
    pub many : length ns + all_owed M cur st ≤ 2 * length moves + all_owed M more (after A st ns)
    pub is_safe : IsSafeRun A script st ns

  fewer_owed : (cur : ℕ → ℕ) (st far later : RunState) → Tells M cur st far → (to : There) (s : Here) → back S to ≡ s → IsHere S s → may M st s ≡ true
      → Tells M cur (moved A st (S.here s)) later → all_owed M cur (moved A st (S.here s)) ≤ all_owed M cur st
  fewer_owed cur st far later t to s e =
      subst (λ z. IsHere S z → may M st z ≡ true → Tells M cur (moved A st (S.here z)) later → all_owed M cur (moved A st (S.here z)) ≤ all_owed M cur st) e
      (λ h on tells. no_more_owed M cur st far later t to h on tells)

  pub mirror : (ns : List ℕ) (cur : ℕ → ℕ) (st far : RunState) → Tells M cur st far → IsRun A script st ns → Mirrored cur st far ns
  mirror [] cur st far t run =
      record { moves = []; run = tt; more = cur; last = t; few = omega arith; many = omega arith; is_safe = apart_here cur st far t }
  mirror (n ∷ ns) cur st far t run =
      let b = found cur st far t n run.0 in
      subst (λ k. (move_enabled A script st k ≡ true) → IsRun A script (moved A st k) ns → Mirrored cur st far (k ∷ ns)) b.2
      (λ on rest. one_more (λ more x y tells goes_on. mirror ns more x y tells goes_on) b.0 b.1 on rest (went M cur st far t b.0 b.1 on)) run.0 run.1
    where
      one_more : ((more : ℕ → ℕ) (x y : RunState) → Tells M more x y → IsRun A script x ns → Mirrored more x y ns) → (s : Here) → IsHere S s → may M st s ≡ true
          → IsRun A script (moved A st (S.here s)) ns → Went M cur st far s → Mirrored cur st far (S.here s ∷ ns)
      one_more later s h on rest (goes to ht now is_s far_on tells) =
          let r = later cur (moved A st (S.here s)) (moved B far (S.there to)) tells rest in
          let f = r.few in
          let m = r.many in
          let owes = one_less_owed M cur st far t s h in
          let fewer = fewer_owed cur st far (moved B far (S.there to)) t to s is_s h on tells in
          record {
            moves = S.there to ∷ r.moves;
            run = (far_on, r.run);
            more = r.more;
            last = r.last;
            few = omega (arith, f, fewer);
            many = omega (arith, m, owes);
            is_safe = (apart_here cur st far t, safe_move cur st far t s h on, r.is_safe);
          }
      one_more later s h on rest (stays more drops owing to ht is_far own far_on same tells) =
          let r = later more (moved A st (S.here s)) far tells rest in
          let f = r.few in
          let m = r.many in
          let owes = one_more_owed M cur st far t s h more owing in
          let only = only_one_owed M cur st far t s h more owing in
          record {
            moves = r.moves;
            run = r.run;
            more = r.more;
            last = r.last;
            few = omega (arith, f, only);
            many = omega (arith, m, owes);
            is_safe = (apart_here cur st far t, safe_move cur st far t s h on, r.is_safe);
          }

  -- at first all calls are idle
  pub tells_first : Reached (begin_at B more_firsts) → Tells M S.one_call (begin_at A firsts) (begin_at B more_firsts)
  tells_first reached = record {
    long = is.long;
    long_there = is.long_there;
    histories = refl;
    reached = reached;
    current = is.called;
    shows = shows;
    blank = blank;
    idle = λ c l off. (is.first_asks c l, is.first_answers c l);
    phase = λ c l on. level (is.first_asks c l ∙ sym (is.first_enters (S.of c) (is.of_below c l)))
        (is.first_body (S.of c) (end S c) (is.of_below c l) (within_end M c l) ∙ sym (is.first_answers c l));
  }
    where
      shows : (to : There) → IsThere S to → Current S S.one_call to → high more_firsts (S.there to) ≡ high firsts (S.here (back S to))
      shows (plainly k) h on = sym (is.first_plain k h)
      shows (asked c) h on = is.first_asked c h ∙ sym (is.first_enters (S.of c) (is.of_below c h))
      shows (copied c x) h on = is.first_copied c x h.0 h.1 ∙ sym (by (x == end S c))
        where
          by : (b : Bool) → high firsts (S.here (back_at S b c x)) ≡ false
          by true = is.first_answers c h.0
          by false = is.first_body (S.of c) x (is.of_below c h.0) h.1

      blank : (to : There) → IsThere S to → IsOther S S.one_call to → high more_firsts (S.there to) ≡ false
      blank (plainly k) h off = absurd off
      blank (asked c) h off = is.first_asked c h
      blank (copied c x) h off = is.first_copied c x h.0 h.1

  pub none_first : all_owed M S.one_call (begin_at A firsts) ≡ 0
  none_first =
      sum_none (λ p. owed M (begin_at A firsts) (S.one_call p)) S.procs
      (λ p l. let z = is.called p l in
      level_owes M (begin_at A firsts) (S.one_call p) (is.first_asks (S.one_call p) z.0
      ∙ sym (is.first_enters (S.of (S.one_call p)) (is.of_below (S.one_call p) z.0)))
      (is.first_body (S.of (S.one_call p)) (end S (S.one_call p)) (is.of_below (S.one_call p) z.0) (within_end M (S.one_call p) z.0)
      ∙ sym (is.first_answers (S.one_call p) z.0)))
