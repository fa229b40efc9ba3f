-- How the nodes of the net with copies (There) stand for those of the net with shared bodies (Here), whatever their values:
-- the request of a call's copy for the request of the body, its answer for that of the call.
--
-- S: how both nets are numbered; v, u: what a state of the one and of the other says of a node; c, j, k: calls;
-- x, y: nodes of a body; cur: of each procedure the call that is under way, or was last. In Phase, r is the request of a
-- call, q that of the body, d the answer of the body, a that of the call.
use Rattle.std.proofs.Common.{◌≡◌, ◌≢◌, ℕ, ◌<◌, ◌==◌, Bool, true, false, refl, sym, ap, ◌∙◌, ⊎_elim}
use Rattle.std.specs.Prelude.{not, ◌&&◌, if◌then◌else◌}
use Rattle.std.proofs.lemmas.Bool.{cases_eq, eq-eqb, ne_eqb}
use Rattle.prs_core.specs.Moves.{high}
use Rattle.env_script.specs.Runs.{RunState}
use Rattle.call_map.specs.Shared.{Here, plain, asks, answers, enters, body, There, plainly, asked, copied, Sharing, body_end}
use Rattle.call_map.proofs.Truths.{true_false}

-- How far a call is: r is its request, q that of the body, d the body's answer, a its own. A request that the body hasn't seen,
-- or an answer that the call hasn't given, is owed.
pub data Phase (r q d a owes_r owes_d : Bool) : Type 0 where
  level : r ≡ q → d ≡ a → Phase r q d a owes_r owes_d
  asking : r ≡ not q → d ≡ q → a ≡ q → owes_r ≡ true → Phase r q d a owes_r owes_d
  giving : r ≡ q → d ≡ q → a ≡ not q → owes_d ≡ true → Phase r q d a owes_r owes_d

pub phase_same : {r q d a o w : Bool} (r1 q1 d1 a1 o1 w1 : Bool) → r1 ≡ r → q1 ≡ q → d1 ≡ d → a1 ≡ a → (o ≡ true → o1 ≡ true) → (w ≡ true → w1 ≡ true)
    → Phase r q d a o w → Phase r1 q1 d1 a1 o1 w1
phase_same r1 q1 d1 a1 o1 w1 er eq ed ea fo fw (level a b) = level (er ∙ (a ∙ sym eq)) (ed ∙ (b ∙ sym ea))
phase_same r1 q1 d1 a1 o1 w1 er eq ed ea fo fw (asking a b c o) = asking (er ∙ (a ∙ ap not (sym eq))) (ed ∙ (b ∙ sym eq)) (ea ∙ (c ∙ sym eq)) (fo o)
phase_same r1 q1 d1 a1 o1 w1 er eq ed ea fo fw (giving a b c o) = giving (er ∙ (a ∙ sym eq)) (ed ∙ (b ∙ sym eq)) (ea ∙ (c ∙ ap not (sym eq))) (fw o)

-- a node whose rule holds the other way round doesn't move back
pub no_return : (x y up down more_up more_down : Bool) → x ≡ not y → up ≡ more_up → down ≡ more_down → (if y then more_down else more_up) ≡ true
    → (more_up && more_down) ≡ false → (if x then down else up) ≡ false
no_return x true up down more_up more_down e a b on one = ap (λ z. if z then down else up) e ∙ (a ∙ by more_up more_down on one)
  where
    by : (p q : Bool) → q ≡ true → (p && q) ≡ false → p ≡ false
    by true q on one = absurd (true_false q on one)
    by false q on one = refl
no_return x false up down more_up more_down e a b on one = ap (λ z. if z then down else up) e ∙ (b ∙ by more_up more_down on one)
  where
    by : (p q : Bool) → p ≡ true → (p && q) ≡ false → q ≡ false
    by true q on one = one
    by false q on one = absurd (cc on)

pub plain_key : (k j : ℕ) → plain k ≡ plain j → k ≡ j
plain_key k j e = cc

pub plainly_key : (k j : ℕ) → plainly k ≡ plainly j → k ≡ j
plainly_key k j e = cc

pub asks_apart : (c k : ℕ) → asks c ≡ asks k → c ≡ k
asks_apart c k e = cc

pub body_apart : (p q x y : ℕ) → body p x ≡ body q y → p ≡ q
body_apart p q x y e = cc

pub asked_same : (c k : ℕ) → asked c ≡ asked k → c ≡ k
asked_same c k e = cc

pub copied_same : (c k x y : ℕ) → copied c x ≡ copied k y → (c ≡ k) × (x ≡ y)
copied_same c k x y e = (cc e, cc e)

module _ (S : Sharing) where
  abbrev pub v : RunState → Here → Bool
  v st s = high st.values (S.here s)

  abbrev pub u : RunState → There → Bool
  u far t = high far.values (S.there t)

  abbrev pub end : ℕ → ℕ
  end c = S.last (S.of c)

  abbrev pub back_at : Bool → ℕ → ℕ → Here
  back_at true c x = answers c
  back_at false c x = body (S.of c) x

  -- the node of the shared net that has the value of a node of the copy of a call under way
  abbrev pub back : There → Here
  back (plainly k) = plain k
  back (asked c) = enters (S.of c)
  back (copied c x) = back_at (x == end c) c x

  abbrev pub Current : (ℕ → ℕ) → There → Type 0
  Current cur (plainly k) = Unit {0}
  Current cur (asked c) = cur (S.of c) ≡ c
  Current cur (copied c x) = cur (S.of c) ≡ c

  abbrev pub IsOther : (ℕ → ℕ) → There → Type 0
  IsOther cur (plainly k) = ⊥
  IsOther cur (asked c) = cur (S.of c) ≢ c
  IsOther cur (copied c x) = cur (S.of c) ≢ c

  pub back_end : (c : ℕ) → back (copied c (end c)) ≡ answers c
  back_end c = ap (λ b. back_at b c (end c)) (eq-eqb (end c) (end c) refl)

  pub back_inner : (c x : ℕ) → x ≢ end c → back (copied c x) ≡ body (S.of c) x
  back_inner c x ne = ap (λ b. back_at b c x) (ne_eqb x (end c) ne)

  -- the node of the copies that a node of the shared net stands for
  abbrev pub image : (ℕ → ℕ) → Here → There
  image cur (plain k) = plainly k
  image cur (asks c) = asked c
  image cur (answers c) = copied c (end c)
  image cur (enters p) = asked (cur p)
  image cur (body p x) = copied (cur p) x

  pub image_back : (cur : ℕ → ℕ) (t : There) → Current cur t → image cur (back t) ≡ t
  image_back cur (plainly k) on = refl
  image_back cur (asked c) on = ap (λ z. asked z) on
  image_back cur (copied c x) on = ⊎_elim
      (λ (e : x ≡ end c). ap (λ y. image cur (back (copied c y))) e ∙ (ap (image cur) (back_end c) ∙ ap (λ y. copied c y) (sym e)))
      (λ (ne : x ≢ end c). ap (image cur) (back_inner c x ne) ∙ ap (λ z. copied z x) on)
      (cases_eq x (end c))

  pub back_one : (cur : ℕ → ℕ) (s t : There) → Current cur s → Current cur t → back s ≡ back t → s ≡ t
  back_one cur s t on more e = sym (image_back cur s on) ∙ (ap (image cur) e ∙ image_back cur t more)

  pub never_asks : (t : There) (c : ℕ) → back t ≢ asks c
  never_asks (plainly k) c e = cc
  never_asks (asked j) c e = cc
  never_asks (copied j x) c e = by (x == end j) e
    where
      by : (b : Bool) → back_at b j x ≢ asks c
      by true e = cc
      by false e = cc

  pub never_result : (t : There) (p : ℕ) → back t ≢ body p (S.last p)
  never_result (plainly k) p e = cc
  never_result (asked j) p e = cc
  never_result (copied j x) p e = ⊎_elim
      (λ (at : x ≡ end j). by (sym (back_end j) ∙ (ap (λ y. back (copied j y)) (sym at) ∙ e)))
      (λ (ne : x ≢ end j). ne (same (sym (back_inner j x ne) ∙ e)))
      (cases_eq x (end j))
    where
      by : answers j ≢ body p (S.last p)
      by e = cc

      same : body (S.of j) x ≡ body p (S.last p) → x ≡ end j
      same e =
          let a : x ≡ S.last p = cc e in
          let b : S.of j ≡ p = cc e in
          a ∙ ap S.last (sym b)

  pub not_current : (cur : ℕ → ℕ) (t : There) → Current cur t → IsOther cur t → ⊥
  not_current cur (plainly k) on off = off
  not_current cur (asked c) on off = off on
  not_current cur (copied c x) on off = off on

  -- which nodes are no wires
  abbrev pub IsOwn : Here → Type 0
  IsOwn (plain k) = ⊥
  IsOwn (asks c) = Unit {0}
  IsOwn (answers c) = Unit {0}
  IsOwn (enters p) = Unit {0}
  IsOwn (body p x) = Unit {0}

  abbrev pub IsFar : There → Type 0
  IsFar (plainly k) = ⊥
  IsFar (asked c) = Unit {0}
  IsFar (copied c x) = Unit {0}

  pub not_plain : (s : Here) (k : ℕ) → IsOwn s → s ≢ plain k
  not_plain (plain j) k own e = own
  not_plain (asks c) k own e = cc
  not_plain (answers c) k own e = cc
  not_plain (enters p) k own e = cc
  not_plain (body p x) k own e = cc

  pub not_plainly : (t : There) (k : ℕ) → IsFar t → t ≢ plainly k
  not_plainly (plainly j) k own e = own
  not_plainly (asked c) k own e = cc
  not_plainly (copied c x) k own e = cc

  pub own_back : (t : There) → IsFar t → IsOwn (back t)
  own_back (plainly k) far = far
  own_back (asked c) far = tt
  own_back (copied c x) far = by (x == end c)
    where
      by : (b : Bool) → IsOwn (back_at b c x)
      by true = tt
      by false = tt

  -- what a move that is none there was
  pub data Drops (s : Here) : Type 0 where
    request : (c : ℕ) → c < S.calls → s ≡ asks c → Drops s
    answer : (c : ℕ) → c < S.calls → s ≡ body_end S c → Drops s
