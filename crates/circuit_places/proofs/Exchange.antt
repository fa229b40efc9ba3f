-- What a rising acknowledge does to a term, which may hold one end of the channel or both, in any of its branches.
use Rattle.std.proofs.Common.{◌≡◌, ℕ, zero, suc, Bool, true, false, refl, sym, ap, ◌∙◌, subst}
use Rattle.std.specs.Prelude.{◌||◌, if◌then◌else◌, Some}
use Rattle.width_check.specs.Processes.{Process, Processes}
use Rattle.chp_meaning.specs.Terms.{Term, Terms, and_branch, finished, in_sequence, in_parallel, together, followed, Place, in_first, in_branch, statement_at, branch_at, with_left, with_branch}
use Rattle.circuit_places.proofs.Meets.{followed_on}
use Rattle.circuit_places.proofs.Left.{Act, followed_act, ActInside, this_act, other_act, together_act, some_stands, inside_stands}

-- at two places of the term x stand the statements p and q, and y is left where both are done
pub record Exchange (x : Term) (p q : Process) (y : Term) : Type 0 where
  pub at : Place
  pub other : Place
  pub gives : statement_at x at ≡ Some p
  pub takes : statement_at x other ≡ Some q
  pub still : statement_at (with_left x at finished) other ≡ Some q
  pub then_is : y ≡ with_left (with_left x at finished) other finished

pub record ExchangeInside (ts : Terms) (p q : Process) (us : Terms) : Type 0 where
  pub index : ℕ
  pub at : Place
  pub second : ℕ
  pub other : Place
  pub gives : branch_at ts index at ≡ Some p
  pub takes : branch_at ts second other ≡ Some q
  pub still : branch_at (with_branch ts index at finished) second other ≡ Some q
  pub then_is : us ≡ with_branch (with_branch ts index at finished) second other finished

on_going : (more : Processes) (x : Term) (at : Place) (p : Process) → statement_at x at ≡ Some p → followed x more ≡ in_sequence x more
on_going more x at p e = followed_on x more (some_stands x at p e)

pub followed_exchange : (more : Processes) (x : Term) (p q : Process) (y : Term) → Exchange x p q y → Exchange (followed x more) p q (followed y more)
followed_exchange more x p q y a =
    let z = with_left x a.at finished in
    let here : followed z more ≡ in_sequence z more = on_going more z a.other q a.still in
    subst (λ (t : Term). Exchange t p q (followed y more)) (sym (on_going more x a.at p a.gives)) (record {
      at = in_first a.at;
      other = in_first a.other;
      gives = a.gives;
      takes = a.takes;
      still = ap (λ t. statement_at t (in_first a.other)) here ∙ a.still;
      then_is = ap (λ t. followed t more) a.then_is ∙ sym (ap (λ t. with_left t (in_first a.other) finished) here);
    })

pub this_exchange : (ts : Terms) (x : Term) (p q : Process) (y : Term) → Exchange x p q y → ExchangeInside (and_branch x ts) p q (and_branch y ts)
this_exchange ts x p q y a = record {
  index = zero;
  at = a.at;
  second = zero;
  other = a.other;
  gives = a.gives;
  takes = a.takes;
  still = a.still;
  then_is = ap
      (λ t. and_branch t ts) a.then_is;
}

pub other_exchange : (x : Term) (ts : Terms) (p q : Process) (us : Terms) → ExchangeInside ts p q us → ExchangeInside (and_branch x ts) p q (and_branch x us)
other_exchange x ts p q us a =
    record {
      index = suc a.index;
      at = a.at;
      second = suc a.second;
      other = a.other;
      gives = a.gives;
      takes = a.takes;
      still = a.still;
      then_is = ap
          (λ t. and_branch x t) a.then_is;
    }

-- one end in a branch, the other one in those behind it
pub gives_first : (x : Term) (ts : Terms) (p q : Process) (y : Term) (us : Terms) → Act x p finished y → ActInside ts q finished us
    → ExchangeInside (and_branch x ts) p q (and_branch y us)
gives_first x ts p q y us a b =
    record {
      index = zero;
      at = a.at;
      second = suc b.index;
      other = b.at;
      gives = a.stands;
      takes = b.stands;
      still = b.stands;
      then_is = ap
          (λ t. and_branch t us) a.then_is ∙ ap (λ t. and_branch (with_left x a.at finished) t) b.then_is;
    }

pub takes_first : (x : Term) (ts : Terms) (p q : Process) (y : Term) (us : Terms) → Act x q finished y → ActInside ts p finished us
    → ExchangeInside (and_branch x ts) p q (and_branch y us)
takes_first x ts p q y us a b =
    record {
      index = suc b.index;
      at = b.at;
      second = zero;
      other = a.at;
      gives = b.stands;
      takes = a.stands;
      still = a.stands;
      then_is = ap
          (λ t. and_branch t us) a.then_is ∙ ap (λ t. and_branch (with_left x a.at finished) t) b.then_is;
    }

on_beside : (ts : Terms) (k : ℕ) (at : Place) (p : Process) → branch_at ts k at ≡ Some p → together ts ≡ in_parallel ts
on_beside ts k at p e = ap (λ b. if b then finished else in_parallel ts) (inside_stands ts k at p e)

pub together_exchange : (ts : Terms) (p q : Process) (us : Terms) → ExchangeInside ts p q us → Exchange (together ts) p q (together us)
together_exchange ts p q us a =
    let vs = with_branch ts a.index a.at finished in
    let here : together vs ≡ in_parallel vs = on_beside vs a.second a.other q a.still in
    subst (λ (t : Term). Exchange t p q (together us)) (sym (on_beside ts a.index a.at p a.gives)) (record {
      at = in_branch a.index a.at;
      other = in_branch a.second a.other;
      gives = a.gives;
      takes = a.takes;
      still = ap (λ t. statement_at t (in_branch a.second a.other)) here ∙ a.still;
      then_is = ap together a.then_is ∙ sym (ap (λ t. with_left t (in_branch a.second a.other) finished) here);
    })

-- one end: a statement of such a kind is done
pub record One (E : Process → Type 0) (x y : Term) : Type 0 where
  pub p : Process
  pub is : E p
  pub act : Act x p finished y

pub record OneInside (E : Process → Type 0) (ts us : Terms) : Type 0 where
  pub p : Process
  pub is : E p
  pub act : ActInside ts p finished us

-- both ends
pub record Two (G T : Process → Type 0) (x y : Term) : Type 0 where
  pub p : Process
  pub q : Process
  pub is : G p
  pub other : T q
  pub act : Exchange x p q y

pub record TwoInside (G T : Process → Type 0) (ts us : Terms) : Type 0 where
  pub p : Process
  pub q : Process
  pub is : G p
  pub other : T q
  pub act : ExchangeInside ts p q us

-- An acknowledge rises: which ends of the channel a statement holds. G says what a sender is, T what a receiver is.
module _ (G T : Process → Type 0) where
  abbrev pub Fired : (gives takes : Bool) → Term → Term → Type 0
  Fired false false x y = y ≡ x
  Fired true false x y = One G x y
  Fired false true x y = One T x y
  Fired true true x y = Two G T x y

  abbrev pub FiredInside : (gives takes : Bool) → Terms → Terms → Type 0
  FiredInside false false ts us = us ≡ ts
  FiredInside true false ts us = OneInside G ts us
  FiredInside false true ts us = OneInside T ts us
  FiredInside true true ts us = TwoInside G T ts us

  pub fired_then : (more : Processes) (a b : Bool) (x y : Term) → Fired a b x y → Fired a b (followed x more) (followed y more)
  fired_then more false false x y f = ap (λ t. followed t more) f
  fired_then more true false x y f = record { p = f.p; is = f.is; act = followed_act more x f.p finished y f.act }
  fired_then more false true x y f = record { p = f.p; is = f.is; act = followed_act more x f.p finished y f.act }
  fired_then more true true x y f = record { p = f.p; q = f.q; is = f.is; other = f.other; act = followed_exchange more x f.p f.q y f.act }

  pub fired_together : (a b : Bool) (ts us : Terms) → FiredInside a b ts us → Fired a b (together ts) (together us)
  fired_together false false ts us f = ap together f
  fired_together true false ts us f = record { p = f.p; is = f.is; act = together_act ts f.p finished us f.act }
  fired_together false true ts us f = record { p = f.p; is = f.is; act = together_act ts f.p finished us f.act }
  fired_together true true ts us f = record { p = f.p; q = f.q; is = f.is; other = f.other; act = together_exchange ts f.p f.q us f.act }

  -- a term that is over holds none
  pub none_fired : (a b : Bool) (x y s : Term) → x ≡ finished → Fired a b x y → Fired a b s s
  none_fired false false x y s e f = refl
  none_fired true false x y s e f = absurd (cc (ap (λ t. statement_at t f.act.at) e, f.act.stands))
  none_fired false true x y s e f = absurd (cc (ap (λ t. statement_at t f.act.at) e, f.act.stands))
  none_fired true true x y s e f = absurd (cc (ap (λ t. statement_at t f.act.at) e, f.act.gives))

  this_one : (E : Process → Type 0) (x y : Term) (ts us : Terms) → us ≡ ts → One E x y → OneInside E (and_branch x ts) (and_branch y us)
  this_one E x y ts us e f = subst (λ (z : Terms). OneInside E (and_branch x ts) (and_branch y z)) (sym e)
      (record { p = f.p; is = f.is; act = this_act ts x f.p finished y f.act })

  other_one : (E : Process → Type 0) (x y : Term) (ts us : Terms) → y ≡ x → OneInside E ts us → OneInside E (and_branch x ts) (and_branch y us)
  other_one E x y ts us e f = subst (λ (z : Term). OneInside E (and_branch x ts) (and_branch z us)) (sym e)
      (record { p = f.p; is = f.is; act = other_act x ts f.p finished us f.act })

  -- a branch and those behind it: at most one of the two sends, and one receives
  pub fired_both : (a b c d : Bool) (x y : Term) (ts us : Terms) → (a ≡ true → c ≡ false) → (b ≡ true → d ≡ false) → Fired a b x y → FiredInside c d ts us
      → FiredInside (a || c) (b || d) (and_branch x ts) (and_branch y us)
  fired_both false false false false x y ts us s r f g = ap (λ t. and_branch t us) f ∙ ap (λ t. and_branch x t) g
  fired_both true false false false x y ts us s r f g = this_one G x y ts us g f
  fired_both false true false false x y ts us s r f g = this_one T x y ts us g f
  fired_both true true false false x y ts us s r f g = subst (λ (z : Terms). TwoInside G T (and_branch x ts) (and_branch y z)) (sym g)
      (record { p = f.p; q = f.q; is = f.is; other = f.other; act = this_exchange ts x f.p f.q y f.act })
  fired_both false false true false x y ts us s r f g = other_one G x y ts us f g
  fired_both false false false true x y ts us s r f g = other_one T x y ts us f g
  fired_both false false true true x y ts us s r f g = subst (λ (z : Term). TwoInside G T (and_branch x ts) (and_branch z us)) (sym f)
      (record { p = g.p; q = g.q; is = g.is; other = g.other; act = other_exchange x ts g.p g.q us g.act })
  fired_both true false false true x y ts us s r f g = record { p = f.p; q = g.p; is = f.is; other = g.is; act = gives_first x ts f.p g.p y us f.act g.act }
  fired_both false true true false x y ts us s r f g = record { p = g.p; q = f.p; is = g.is; other = f.is; act = takes_first x ts g.p f.p y us f.act g.act }
  fired_both true b true d x y ts us s r f g = absurd (cc (s refl))
  fired_both a true c true x y ts us s r f g = absurd (cc (r refl))

-- what is known of a receiver may be said in other words
module _ (G T S : Process → Type 0) (f : (q : Process) → T q → S q) where
  pub fired_map : (a b : Bool) (x y : Term) → Fired G T a b x y → Fired G S a b x y
  fired_map false false x y r = r
  fired_map true false x y r = r
  fired_map false true x y r = record { p = r.p; is = f r.p r.is; act = r.act }
  fired_map true true x y r = record { p = r.p; q = r.q; is = r.is; other = f r.q r.other; act = r.act }

  pub fired_map_inside : (a b : Bool) (ts us : Terms) → FiredInside G T a b ts us → FiredInside G S a b ts us
  fired_map_inside false false ts us r = r
  fired_map_inside true false ts us r = r
  fired_map_inside false true ts us r = record { p = r.p; is = f r.p r.is; act = r.act }
  fired_map_inside true true ts us r = record { p = r.p; q = r.q; is = r.is; other = f r.q r.other; act = r.act }
