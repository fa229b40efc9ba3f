-- The answer of a site keeps its contract.
use Rattle.std.proofs.Common.{◌≡◌, ◌≢◌, ℕ, zero, suc, Bool, true, false, not, List, ◌∷◌, map, refl, sym, ap, ◌∙◌, inl, arith}
use Rattle.std.specs.Prelude.{◌&&◌, ◌||◌, if◌then◌else◌, All, AllPairs, Contains, slice_index_or}
use Rattle.std.proofs.lemmas.List.Elements.{All-from_recursion, All-cons, All-map}
use Rattle.std.proofs.lemmas.Bool.{or_cases, not-true, not_from_false}
use Rattle.std.proofs.Math.Logic.{⊎_elim}
use Rattle.prs_core.specs.Moves.{guard_holds}
use Rattle.prs_core.specs.Parts.{Part, Owned, owned, Wire, wire, Moment, IsFirstState, Keeps, all_low, turned, moment_after, fires, may_move}
use Rattle.prs_core.specs.Keeping.{OwnKeeps, EachKeeps, kept_by_each}
use Rattle.prs_core.specs.Turning.{turned_here, turned_apart, low_apart, some_high, mapped_among}
use Rattle.prs_core.specs.Deciding.{implies, implies_at, implies_both, left_of, right_of, at_2, at_4, at_6}
use Rattle.prs_core.specs.Sites.{site_part, site_answer, site_idle, acknowledge_wire}

-- the nodes of a site are distinct
pub record IsApart (others : List ℕ) (request ack answer : ℕ) : Type 0 where
  pub request_ack : request ≢ ack
  pub request_answer : request ≢ answer
  pub ack_answer : ack ≢ answer
  pub others_request : All (λ n. n ≢ request) others
  pub others_ack : All (λ n. n ≢ ack) others
  pub others_answer : All (λ n. n ≢ answer) others

apart_from : (others : List ℕ) (request ack answer : ℕ) → AllPairs (λ a b. a ≢ b) (request ∷ ack ∷ answer ∷ others) → IsApart others request ack answer
apart_from others request ack answer h = record {
  request_ack = h zero (suc zero) 0 (omega arith) (omega arith);
  request_answer = h zero (suc (suc zero)) 0 (omega arith) (omega arith);
  ack_answer = h (suc zero) (suc (suc zero)) 0 (omega arith) (omega arith);
  others_request = λ k d within e. h zero (suc (suc (suc k))) d (omega arith) (omega arith) (sym e);
  others_ack = λ k d within e. h (suc zero) (suc (suc (suc k))) d (omega arith) (omega arith) (sym e);
  others_answer = λ k d within e. h (suc (suc zero)) (suc (suc (suc k))) d (omega arith) (omega arith) (sym e);
}

-- Of request, acknowledge, answer and whether all other requests are low: the rule of the answer, when the neighbours may
-- move, and what holds of each moment that is reached.
abbrev answers : (r a k : Bool) → Bool
answers r a k = if k then (not a && true) || false else (r && (a && true)) || false

abbrev lets_request : (r a k o : Bool) → Bool
lets_request r a k o = if r then k else not r && (not a && (not k && o))

abbrev lets_ack : (r a o : Bool) → Bool
lets_ack r a o = if a then not r && o else not (not r && o)

abbrev lets_other : (r a k o x : Bool) → Bool
lets_other r a k o x = if x then a else not r && (not a && (not k && o))

-- while the answer waits for no more than its own fall no request is high
abbrev legal : (r a k o : Bool) → Bool
legal r a k o = implies (k && not a) (not r && o)

abbrev Holds : (others : List ℕ) (request ack answer : ℕ) → Moment → Type 0
Holds others request ack answer m = legal (m.value request) (m.value ack) (m.value answer) (all_low m.value others) ≡ true

same_legal : (r s a b k l o q : Bool) → r ≡ s → a ≡ b → k ≡ l → o ≡ q → legal s b l q ≡ true → legal r a k o ≡ true
same_legal r s a b k l o q er ea ek eo h = ap (λ x. legal x a k o) er ∙ ap (λ x. legal s x k o) ea ∙ ap (λ x. legal s b x o) ek ∙ ap (legal s b l) eo ∙ h

same_answers : (r s a b k l : Bool) → r ≡ s → a ≡ b → k ≡ l → answers s b l ≡ true → answers r a k ≡ true
same_answers r s a b k l er ea ek h = ap (λ x. answers x a k) er ∙ ap (λ x. answers s x k) ea ∙ ap (λ x. answers s b x) ek ∙ h

module _ (others : List ℕ) (request ack answer : ℕ) (apart : IsApart others request ack answer) (m : Moment) (holds : Holds others request ack answer m) where
  abbrev part : Part
  part = site_part others request ack answer

  abbrev own : Owned
  own = owned answer (site_answer request ack)

  abbrev r : Bool
  r = m.value request

  abbrev a : Bool
  a = m.value ack

  abbrev k : Bool
  k = m.value answer

  abbrev o : Bool
  o = all_low m.value others

  answer_goes : fires m.value own ≡ true → Holds others request ack answer (moment_after part m answer)
  answer_goes fire =
      same_legal _ _ _ _ _ _ _ _ (turned_apart m.value answer request apart.request_answer) (turned_apart m.value answer ack apart.ack_answer)
      (turned_here m.value answer) (low_apart m.value answer others apart.others_answer)
      (implies_both _ _ _ (at_4 (λ r a k o. implies (legal r a k o) (implies (answers r a k) (legal r a (not k) o))) refl r a k o) holds fire)

  request_goes : lets_request r a k o ≡ true → Holds others request ack answer (moment_after part m request)
  request_goes may =
      same_legal _ _ _ _ _ _ _ _ (turned_here m.value request) (turned_apart m.value request ack (λ e. apart.request_ack (sym e)))
      (turned_apart m.value request answer (λ e. apart.request_answer (sym e))) (low_apart m.value request others apart.others_request)
      (implies_both _ _ _ (at_4 (λ r a k o. implies (legal r a k o) (implies (lets_request r a k o) (legal (not r) a k o))) refl r a k o) holds may)

  ack_goes : lets_ack r a o ≡ true → Holds others request ack answer (moment_after part m ack)
  ack_goes may =
      same_legal _ _ _ _ _ _ _ _ (turned_apart m.value ack request apart.request_ack) (turned_here m.value ack)
      (turned_apart m.value ack answer (λ e. apart.ack_answer (sym e))) (low_apart m.value ack others apart.others_ack)
      (implies_both _ _ _ (at_4 (λ r a k o. implies (legal r a k o) (implies (lets_ack r a o) (legal r (not a) k o))) refl r a k o) holds may)

  -- whatever the others then are
  other_goes : (n : ℕ) → n ≢ request → n ≢ ack → n ≢ answer → lets_other r a k o (m.value n) ≡ true → Holds others request ack answer (moment_after part m n)
  other_goes n not_r not_a not_k may =
      same_legal _ _ _ _ _ _ _ _ (turned_apart m.value n request (λ e. not_r (sym e))) (turned_apart m.value n ack (λ e. not_a (sym e)))
      (turned_apart m.value n answer (λ e. not_k (sym e))) refl
      (implies_both _ _ _ (at_6 (λ r a k o x q. implies (legal r a k o) (implies (lets_other r a k o x) (legal r a k q))) refl r a k o (m.value n)
      (all_low (turned m.value n) others)) holds may)

  answer_promised : fires m.value own ≡ true → (if k then not r && not a else r && a) ≡ true
  answer_promised fire = implies_both _ _ _ (at_4 (λ r a k o. implies (legal r a k o) (implies (answers r a k) (if k then not r && not a else r && a))) refl r a
      k o) holds fire

  under_request : fires m.value own ≡ true → lets_request r a k o ≡ true → fires (turned m.value request) own ≡ true
  under_request fire may =
      same_answers _ _ _ _ _ _ (turned_here m.value request) (turned_apart m.value request ack (λ e. apart.request_ack (sym e)))
      (turned_apart m.value request answer (λ e. apart.request_answer (sym e)))
      (implies_both _ _ _ (at_4 (λ r a k o. implies (answers r a k) (implies (lets_request r a k o) (answers (not r) a k))) refl r a k o) fire may)

  under_ack : fires m.value own ≡ true → lets_ack r a o ≡ true → fires (turned m.value ack) own ≡ true
  under_ack fire may =
      same_answers _ _ _ _ _ _ (turned_apart m.value ack request apart.request_ack) (turned_here m.value ack)
      (turned_apart m.value ack answer (λ e. apart.ack_answer (sym e)))
      (implies_both _ _ _ (implies_at _ _ (at_4 (λ r a k o. implies (legal r a k o) (implies (answers r a k) (implies (lets_ack r a o) (answers r (not a) k))))
      refl r a k o) holds) fire may)

  under_other : (n : ℕ) → n ≢ request → n ≢ ack → n ≢ answer → fires m.value own ≡ true → fires (turned m.value n) own ≡ true
  under_other n not_r not_a not_k fire = same_answers _ _ _ _ _ _ (turned_apart m.value n request (λ e. not_r (sym e)))
      (turned_apart m.value n ack (λ e. not_a (sym e))) (turned_apart m.value n answer (λ e. not_k (sym e))) fire

  abbrev request_wire : Wire
  request_wire = wire request (site_idle others request ack answer) (λ m. m.value answer)

  abbrev ack_wire : Wire
  ack_wire = acknowledge_wire (request ∷ others) ack

  abbrev other_wire : ℕ → Wire
  other_wire n = wire n (site_idle others request ack answer) (λ m. m.value ack)

  each_wire : (P : Wire → Type 0) → P request_wire → P ack_wire → All (λ n. P (other_wire n)) others → All P part.allows
  each_wire P the_request the_ack the_others =
      All-cons P request_wire (ack_wire ∷ map other_wire others) the_request
      (All-cons P ack_wire (map other_wire others) the_ack (All-map P other_wire others the_others))

  own_keeps : fires m.value own ≡ true → OwnKeeps part (Holds others request ack answer) m own
  own_keeps fire = record {
    goes = answer_goes fire;
    promised = All-from_recursion (λ (w : Wire). w.node ≡ answer → may_move m w ≡ true) part.promises (λ e. answer_promised fire, tt);
    firm = All-from_recursion (λ (other : Owned). fires m.value other ≡ true → other.node ≢ answer → fires (turned m.value other.node) own ≡ true) part.own
        (λ _ ne. absurd (ne refl), tt);
    firm_outside =
        each_wire (λ (w : Wire). may_move m w ≡ true → w.node ≢ answer → fires (turned m.value w.node) own ≡ true) (λ may ne. under_request fire may)
        (λ may ne. under_ack fire may)
        (λ i d within may ne. under_other (slice_index_or others i d) (apart.others_request i d within) (apart.others_ack i d within)
        (apart.others_answer i d within) fire);
  }

  -- a request or the acknowledge may move, or a request of another site may fall
  one_waits : fires m.value own ≡ false → (lets_request r a k o || (lets_ack r a o || (a && not o))) ≡ true
  one_waits none = implies_at _ _ (at_4 (λ r a k o. implies (not (answers r a k)) (lets_request r a k o || (lets_ack r a o || (a && not o)))) refl r a k o)
      (not_from_false _ none)

  waits_other : (a && not o) ≡ true → (w : Wire) × Contains part.allows w × (may_move m w ≡ true)
  waits_other h =
      let (n, among, is) = some_high m.value others (not-true _ (right_of a _ h)) in
      let (at, within, same) = mapped_among other_wire others n among in
      (other_wire n, (suc (suc at), omega (arith, within), same), ap (λ x. lets_other r a k o x) is ∙ left_of a _ h)

  waits : fires m.value own ≡ false → (w : Wire) × Contains part.allows w × (may_move m w ≡ true)
  waits none =
      ⊎_elim
      (λ (h : lets_request r a k o ≡ true). (request_wire, (zero, omega arith, refl), h))
      (λ h. ⊎_elim (λ (h : lets_ack r a o ≡ true). (ack_wire, (suc zero, omega arith, refl), h)) waits_other (or_cases _ _ h))
      (or_cases (lets_request r a k o) _ (one_waits none))

  each : EachKeeps part (Holds others request ack answer) m
  each = record {
    own = All-from_recursion (λ (o : Owned). fires m.value o ≡ true → OwnKeeps part (Holds others request ack answer) m o) part.own (own_keeps, tt);
    outside =
        each_wire (λ (w : Wire). may_move m w ≡ true → Holds others request ack answer (moment_after part m w.node)) request_goes ack_goes
        (λ i d within. other_goes (slice_index_or others i d) (apart.others_request i d within) (apart.others_ack i d within) (apart.others_answer i d within));
    apart = All-from_recursion (λ (o : Owned). (guard_holds m.value o.rules.up && guard_holds m.value o.rules.down) ≡ false) part.own
        (not-true _ (at_2 (λ r a. not (((r && (a && true)) || false) && ((not a && true) || false))) refl r a), tt);
    lows = λ low. implies_at _ _ (at_2 (λ r k. implies (not r && (not k && true)) (not k && true)) refl r k) low;
    bits = λ low. refl;
    waits = λ none. inl (waits (none zero own (omega arith)));
  }

at_start : (others : List ℕ) (request ack answer : ℕ) (v : ℕ → Bool) → IsFirstState (site_part others request ack answer) v →
    Holds others request ack answer (record { value = v; noted = λ n. false })
at_start others request ack answer v is =
    implies_at _ _ (at_4 (λ r a k o. implies (not k && true) (legal r a k o)) refl (v request) (v ack) (v answer) (all_low v others)) is.own

pub site_kept : (others : List ℕ) (request ack answer : ℕ) → AllPairs (λ a b. a ≢ b) (request ∷ ack ∷ answer ∷ others) →
    Keeps (site_part others request ack answer)
site_kept others request ack answer distinct =
    kept_by_each (site_part others request ack answer) (Holds others request ack answer) (at_start others request ack answer)
    (each others request ack answer (apart_from others request ack answer distinct))
