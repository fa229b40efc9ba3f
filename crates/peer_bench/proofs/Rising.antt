-- What further notes add to a script: what was enabled under it stays enabled.
use Rattle.std.proofs.Common.{◌≡◌, ℕ, zero, suc, ◌+◌, ◌<◌, ◌≤◌, Bool, true, false, List, [], ◌∷◌, ◌++◌, length, refl, sym, ap, subst, ◌∙◌, inl, inr, arith}
use Rattle.std.specs.Prelude.{◌⊎◌, ◌&&◌, ◌||◌, ◌==◌, if◌then◌else◌, slice_get, Option, Some, None}
use Rattle.std.proofs.lemmas.Bool.{or_cases, or_left, or_right, and_parts, and_from, lt-ltb, ltb-true}
use Rattle.std.proofs.lemmas.List.{length-append}
use Rattle.chp_base.specs.declared.channel.Kind.{Kind}
use Rattle.chp_base.specs.declared.channel.Kind.TheVariants.{In, Out, Chan}
use Rattle.prs_core.specs.declared.wires.Wires.{Wires}
use Rattle.prs_core.specs.Nets.{NetValue}
use Rattle.prs_core.specs.Moves.{high, neutral, rule_enabled}
use Rattle.env_script.specs.declared.script.Count.{Count}
use Rattle.env_script.specs.declared.script.Count.TheVariants.{Times}
use Rattle.env_script.specs.Scripts.{OfferValue, gives, takes, nothing, offer_at, is_over}
use Rattle.env_script.specs.Environment.{in_reset, is_reset, rules_rest, raises_go, raises_next, lowers, valid, offer_moves, channels_move}
use Rattle.env_script.specs.Runs.{RunState, IsRun, after, moved, completed, move_enabled}
use Rattle.event_sim.specs.Standings.{offered_count}
use Rattle.peer_bench.specs.declared.note.Note.{Note}
use Rattle.peer_bench.specs.Notes.{offered_on}
use Rattle.peer_bench.specs.Growing.{offer_by, offer_on, script_by}
use Rattle.peer_bench.proofs.Liking.{script_at}
use Rattle.peer_bench.proofs.Noting.{offered_more, ready_more}
use Rattle.peer_bench.proofs.Rails.{next_value}

abbrev pub CountGrows : Count → Count → Type 0
CountGrows Count.All Count.All = Unit {0}
CountGrows Count.All (Times n) = ⊥
CountGrows (Times k) Count.All = ⊥
CountGrows (Times k) (Times n) = k ≤ n

abbrev pub Grows : OfferValue → OfferValue → Type 0
Grows (gives xs) (gives ys) = (more : List ℕ) × (ys ≡ xs ++ more)
Grows (gives xs) (takes b) = ⊥
Grows (gives xs) nothing = ⊥
Grows (takes a) (gives ys) = ⊥
Grows (takes a) (takes b) = CountGrows a b
Grows (takes a) nothing = ⊥
Grows nothing (gives ys) = ⊥
Grows nothing (takes b) = ⊥
Grows nothing nothing = Unit {0}

offer_grows : (o : Option Wires) (c : ℕ) (notes more : List Note) → Grows (offer_on o c notes) (offer_on o c (notes ++ more))
offer_grows (Some w) c notes more = by_kind w.channel.kind
  where
    by_kind : (kind : Kind) → Grows (offer_by kind c notes) (offer_by kind c (notes ++ more))
    by_kind In = (offered_on c more, offered_more c notes more)
    by_kind Out = let sum = ready_more c notes more in omega arith
    by_kind Chan = tt
offer_grows None c notes more = tt

pub script_grows : (net : NetValue) (notes more : List Note) (c : ℕ) → Grows (offer_at (script_by net notes) c) (offer_at (script_by net (notes ++ more)) c)
script_grows net notes more c =
    subst (λ (o : OfferValue). Grows o (offer_at (script_by net (notes ++ more)) c)) (sym (script_at net notes c))
    (subst (λ (o : OfferValue). Grows (offer_on (slice_get net.channels c) c notes) o) (sym (script_at net (notes ++ more) c))
    (offer_grows (slice_get net.channels c) c notes more))

-- a move of the environment

pub front_get : (xs ys : List ℕ) (k : ℕ) → k < length xs → slice_get (xs ++ ys) k ≡ slice_get xs k
front_get [] ys k less = absurd (omega arith)
front_get (x ∷ xs) ys zero less = refl
front_get (x ∷ xs) ys (suc k) less = front_get xs ys k (omega arith)

over_grows : (a b : Count) (done : ℕ) → CountGrows a b → is_over a done ≡ true → is_over b done ≡ true
over_grows Count.All Count.All done grows over = refl
over_grows Count.All (Times n) done grows over = absurd grows
over_grows (Times k) Count.All done grows over = absurd grows
over_grows (Times k) (Times n) done grows over = let less = ltb-true done k over in lt-ltb done n (omega arith)

moves_grow : (v : ℕ → Bool) (w : Wires) (o p : OfferValue) (done n : ℕ) → Grows o p → offer_moves v w o done n ≡ true → offer_moves v w p done n ≡ true
moves_grow v w (gives xs) (gives ys) done n grows moves =
    subst (λ (zs : List ℕ). offer_moves v w (gives zs) done n ≡ true) (sym grows.1) (by_ack (v w.ack) moves)
  where
    by_ack : (b : Bool) → (if b then lowers v w.rails n else raises_next v (slice_get xs done) w.rails n) ≡ true →
        (if b then lowers v w.rails n else raises_next v (slice_get (xs ++ grows.0) done) w.rails n) ≡ true
    by_ack true e = e
    by_ack false e = ap (λ (next : Option ℕ). raises_next v next w.rails n) (front_get xs grows.0 done (next_value v xs done n w.rails e)) ∙ e
moves_grow v w (gives xs) (takes b) done n grows moves = absurd grows
moves_grow v w (gives xs) nothing done n grows moves = absurd grows
moves_grow v w (takes a) (gives ys) done n grows moves = absurd grows
moves_grow v w (takes a) (takes b) done n grows moves =
    let parts = and_parts (n == w.ack) (if v w.ack then neutral v w.rails else valid v w.rails && is_over a done) moves in
    and_from (n == w.ack) _ parts.0 (by_ack (v w.ack) parts.1)
  where
    by_ack : (t : Bool) → (if t then neutral v w.rails else valid v w.rails && is_over a done) ≡ true →
        (if t then neutral v w.rails else valid v w.rails && is_over b done) ≡ true
    by_ack true e = e
    by_ack false e =
        let parts = and_parts (valid v w.rails) (is_over a done) e in
        and_from (valid v w.rails) (is_over b done) parts.0 (over_grows a b done grows parts.1)
moves_grow v w (takes a) nothing done n grows moves = absurd grows
moves_grow v w nothing (gives ys) done n grows moves = absurd grows
moves_grow v w nothing (takes b) done n grows moves = absurd grows
moves_grow v w nothing nothing done n grows moves = moves

channels_grow : (v : ℕ → Bool) (script later : ℕ → OfferValue) (done : ℕ → ℕ) (c : ℕ) (ws : List Wires) (n : ℕ) → ((k : ℕ) → Grows (script k) (later k)) →
    channels_move v script done c ws n ≡ true → channels_move v later done c ws n ≡ true
channels_grow v script later done c [] n grows moves = moves
channels_grow v script later done c (w ∷ ws) n grows moves =
    by_case (or_cases (offer_moves v w (script c) (done c) n) (channels_move v script done (suc c) ws n) moves)
    (λ there. channels_grow v script later done (suc c) ws n grows there)
  where
    by_case : (offer_moves v w (script c) (done c) n ≡ true) ⊎ (channels_move v script done (suc c) ws n ≡ true) →
        (channels_move v script done (suc c) ws n ≡ true → channels_move v later done (suc c) ws n ≡ true) →
        (offer_moves v w (later c) (done c) n || channels_move v later done (suc c) ws n) ≡ true
    by_case (inl here) rest = or_left _ _ (moves_grow v w (script c) (later c) (done c) n (grows c) here)
    by_case (inr there) rest = or_right (offer_moves v w (later c) (done c) n) _ (rest there)

pub enabled_grows : (net : NetValue) (notes more : List Note) (st : RunState) (n : ℕ) → move_enabled net (script_by net notes) st n ≡ true →
    move_enabled net (script_by net (notes ++ more)) st n ≡ true
enabled_grows net notes more st n enabled = by_rule (or_cases (rule_enabled net v n) _ enabled)
  where
    v : ℕ → Bool
    v = high st.values

    moves : List Note → Bool
    moves xs = channels_move v (offer_at (script_by net xs)) (completed st.histories) 0 net.channels n

    by_go : (raises_go v n ≡ true) ⊎ (moves notes ≡ true) → (raises_go v n || moves (notes ++ more)) ≡ true
    by_go (inl go) = or_left (raises_go v n) (moves (notes ++ more)) go
    by_go (inr wire) =
        or_right (raises_go v n) (moves (notes ++ more))
        (channels_grow v (offer_at (script_by net notes)) (offer_at (script_by net (notes ++ more))) (completed st.histories) 0 net.channels n
        (script_grows net notes more) wire)

    by_reset : (b : Bool) → (if b then is_reset net.reset n && rules_rest net v else raises_go v n || moves notes) ≡ true →
        (if b then is_reset net.reset n && rules_rest net v else raises_go v n || moves (notes ++ more)) ≡ true
    by_reset true e = e
    by_reset false e = by_go (or_cases (raises_go v n) (moves notes) e)

    by_rule : (rule_enabled net v n ≡ true) ⊎ ((if in_reset net.reset v then is_reset net.reset n && rules_rest net v else raises_go v n
        || moves notes) ≡ true) →
        move_enabled net (script_by net (notes ++ more)) st n ≡ true
    by_rule (inl rule) = or_left (rule_enabled net v n) _ rule
    by_rule (inr env) = or_right (rule_enabled net v n) _ (by_reset (in_reset net.reset v) env)

pub run_grows : (net : NetValue) (notes more : List Note) (st : RunState) (ns : List ℕ) → IsRun net (script_by net notes) st ns →
    IsRun net (script_by net (notes ++ more)) st ns
run_grows net notes more st [] run = tt
run_grows net notes more st (n ∷ ns) run = (enabled_grows net notes more st n run.0, run_grows net notes more (moved net st n) ns run.1)

pub run_more : (net : NetValue) (script : List OfferValue) (st : RunState) (ns : List ℕ) (n : ℕ) → IsRun net script st ns →
    move_enabled net script (after net st ns) n ≡ true → IsRun net script st (ns ++ n ∷ [])
run_more net script st [] n run enabled = (enabled, tt)
run_more net script st (m ∷ ns) n run enabled = (run.0, run_more net script (moved net st m) ns n run.1 enabled)

-- and no fewer are offered

numbers_of : (o p : OfferValue) (n : ℕ) → Grows o p → offered_count p ≡ Some n → (k : ℕ) × (offered_count o ≡ Some k) × (k ≤ n)
numbers_of (gives xs) (gives ys) n grows number =
    let all : length ys ≡ n = same_number (length ys) n number in
    let sum : length ys ≡ length xs + length grows.0 = ap (λ (zs : List ℕ). length zs) grows.1 ∙ length-append xs grows.0 in
    (length xs, refl, omega arith)
  where
    same_number : (a b : ℕ) → Some a ≡ Some b → a ≡ b
    same_number a b e = cc
numbers_of (gives xs) (takes b) n grows number = absurd grows
numbers_of (gives xs) nothing n grows number = absurd grows
numbers_of (takes a) (gives ys) n grows number = absurd grows
numbers_of (takes Count.All) (takes b) n grows number = by_count b grows number
  where
    by_count : (b : Count) → CountGrows Count.All b → offered_count (takes b) ≡ Some n → (k : ℕ) × (offered_count (takes Count.All) ≡ Some k) × (k ≤ n)
    by_count Count.All grows number = absurd (cc number)
    by_count (Times m) grows number = absurd grows
numbers_of (takes (Times k)) (takes b) n grows number = by_count b grows number
  where
    same_number : (a b : ℕ) → Some a ≡ Some b → a ≡ b
    same_number a b e = cc

    by_count : (b : Count) → CountGrows (Times k) b → offered_count (takes b) ≡ Some n → (j : ℕ) × (offered_count (takes (Times k)) ≡ Some j) × (j ≤ n)
    by_count Count.All grows number = absurd grows
    by_count (Times m) grows number = let all : m ≡ n = same_number m n number in (k, refl, omega arith)
numbers_of (takes a) nothing n grows number = absurd grows
numbers_of nothing (gives ys) n grows number = absurd grows
numbers_of nothing (takes b) n grows number = absurd grows
numbers_of nothing nothing n grows number = absurd (cc number)

pub numbers_grow : (net : NetValue) (notes more : List Note) (c n : ℕ) → offered_count (offer_at (script_by net (notes ++ more)) c) ≡ Some n →
    (k : ℕ) × (offered_count (offer_at (script_by net notes) c) ≡ Some k) × (k ≤ n)
numbers_grow net notes more c n number =
    numbers_of (offer_at (script_by net notes) c) (offer_at (script_by net (notes ++ more)) c) n (script_grows net notes more c) number
