-- When a state of the net with shared bodies stands for a state of the net with copies, and what it shows of a call then.
--
-- M: two nets, and what is known of the second one's states; A: the net with shared bodies; B: the net with copies;
-- S: how they are numbered; st, far: a state of A, and the state of B that it stands for; cur: of each procedure the call
-- that is under way, or was last; c: a call; x: a node of a body.
use Rattle.std.proofs.Common.{◌≡◌, ◌≢◌, ℕ, ◌<◌, ◌==◌, Bool, true, false, List, length, None, sym, ap, ◌∙◌, ⊎_elim}
use Rattle.std.proofs.lemmas.Bool.{cases_eq}
use Rattle.prs_core.specs.declared.wires.Wires.{Wires}
use Rattle.prs_core.specs.Nets.{RulesValue, NetValue, net_of}
use Rattle.prs_core.specs.Moves.{high}
use Rattle.env_script.specs.Scripts.{OfferValue}
use Rattle.env_script.specs.Runs.{RunState, move_enabled, moved}
use Rattle.call_map.specs.Shared.{Here, asks, answers, enters, body, There, plainly, asked, copied, Sharing, IsHere, IsThere, IsInStep, IsBodyAlike, SharesBodies, CopiesKeep, IsSafeAt, body_end}
use Rattle.call_map.proofs.MapNodes.{Phase, v, u, end, back_at, back, Current, IsOther, back_end, back_inner}

-- two nets of the same wires, of which the first has one body for all calls of a procedure; and what is known of the states
-- that a run of the second can reach
pub record Mapping : Type 1 where
  pub names : List (List ℕ)
  pub more_names : List (List ℕ)
  pub firsts : List Bool
  pub more_firsts : List Bool
  pub rules : RulesValue
  pub more_rules : RulesValue
  pub ws : List Wires
  pub S : Sharing
  pub is : SharesBodies (net_of names firsts rules ws None) (net_of more_names more_firsts more_rules ws None) S
  pub script : List OfferValue
  pub Reached : RunState → Type 0
  pub next : (st : RunState) (n : ℕ) → Reached st
      → move_enabled (net_of more_names more_firsts more_rules ws None) script st n ≡ true
      → Reached (moved (net_of more_names more_firsts more_rules ws None) st n)
  pub safe : (st : RunState) → Reached st → IsSafeAt (net_of more_names more_firsts more_rules ws None) script st
  pub keeps : (st : RunState) → Reached st → CopiesKeep (net_of more_names more_firsts more_rules ws None) S script st

abbrev pub shared_net : Mapping → NetValue
shared_net M = net_of M.names M.firsts M.rules M.ws None

abbrev pub copies_net : Mapping → NetValue
copies_net M = net_of M.more_names M.more_firsts M.more_rules M.ws None

module _ (M : Mapping) where
  open M use {S, is, script, ws, Reached, next, safe, keeps}

  abbrev A : NetValue
  A = shared_net M

  abbrev B : NetValue
  B = copies_net M

  abbrev pub may : RunState → Here → Bool
  may st s = move_enabled A script st (S.here s)

  abbrev pub may_there : RunState → There → Bool
  may_there far t = move_enabled B script far (S.there t)

  -- how far a call is
  abbrev pub PhaseOf : (st far : RunState) (c : ℕ) → Type 0
  PhaseOf st far c = Phase (v S st (asks c)) (v S st (enters (S.of c))) (v S st (body_end S c)) (v S st (answers c)) (may_there far (asked c))
      (may_there far (copied c (end S c)))

  -- the state of the shared net, and the state of the other that it stands for; of each procedure one call, the last that
  -- was under way
  pub record Tells (cur : ℕ → ℕ) (st far : RunState) : Type 0 where
    pub long : length st.values ≡ S.count
    pub long_there : length far.values ≡ S.count_there
    pub histories : st.histories ≡ far.histories
    pub reached : Reached far
    pub current : (p : ℕ) → p < S.procs → (cur p < S.calls) × (S.of (cur p) ≡ p)
    pub shows : (t : There) → IsThere S t → Current S cur t → u S far t ≡ v S st (back S t)
    pub blank : (t : There) → IsThere S t → IsOther S cur t → u S far t ≡ false
    pub idle : (c : ℕ) → c < S.calls → cur (S.of c) ≢ c → (v S st (asks c) ≡ false) × (v S st (answers c) ≡ false)
    pub phase : (c : ℕ) → c < S.calls → cur (S.of c) ≡ c → PhaseOf st far c

  pub within_end : (c : ℕ) → c < S.calls → end S c < S.size (S.of c)
  within_end c l = is.last_within (S.of c) (is.of_below c l)

  pub is_back : (t : There) → IsThere S t → IsHere S (back S t)
  is_back (plainly k) h = h
  is_back (asked c) h = is.of_below c h
  is_back (copied c x) h = by (x == end S c)
    where
      by : (b : Bool) → IsHere S (back_at S b c x)
      by true = h.0
      by false = (is.of_below c h.0, h.1)

  -- what a state shows of a call under way
  module _ (cur : ℕ → ℕ) (st far : RunState) (t : Tells cur st far) (c : ℕ) (l : c < S.calls) (on : cur (S.of c) ≡ c) where
    pub passed : u S far (asked c) ≡ v S st (enters (S.of c))
    passed = t.shows (asked c) l on

    pub given : u S far (copied c (end S c)) ≡ v S st (answers c)
    given = t.shows (copied c (end S c)) (l, within_end c l) on ∙ ap (v S st) (back_end S c)

    pub inside : (x : ℕ) → x < S.size (S.of c) → x ≢ end S c → u S far (copied c x) ≡ v S st (body (S.of c) x)
    inside x h ne = t.shows (copied c x) (l, h) on ∙ ap (v S st) (back_inner S c x ne)

    pub body_alike : v S st (body_end S c) ≡ v S st (answers c) → IsBodyAlike S c (high st.values) (high far.values)
    body_alike e = record {
      plain = λ k h. sym (t.shows (plainly k) h tt);
      request = sym passed;
      inside = λ x h. ⊎_elim
          (λ (at : x ≡ end S c). ap (λ y. v S st (body (S.of c) y)) at ∙ (e ∙ (sym given ∙ ap (λ y. u S far (copied c y)) (sym at))))
          (λ (ne : x ≢ end S c). sym (inside x h ne))
          (cases_eq x (end S c));
    }

  pub alike : (cur : ℕ → ℕ) (st far : RunState) → Tells cur st far → IsInStep S cur (high st.values) (high far.values)
  alike cur st far t = record {
    current = t.current;
    plain = λ k h. sym (t.shows (plainly k) h tt);
    answers = λ c l. ⊎_elim
        (λ (on : cur (S.of c) ≡ c). sym (given cur st far t c l on))
        (λ (off : cur (S.of c) ≢ c). (t.idle c l off).1 ∙ sym (t.blank (copied c (end S c)) (l, within_end c l) off))
        (cases_eq (cur (S.of c)) c);
    inside = λ c x l on h ne. sym (inside cur st far t c l on x h ne);
    blank = λ c x l off h. t.blank (copied c x) (l, h) off;
  }
