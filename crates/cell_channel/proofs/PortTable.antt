-- One bit of a receive port, decided by trying all values.
use Rattle.std.proofs.Common.{◌≡◌, Bool, true, false, not, refl}
use Rattle.std.specs.Prelude.{◌&&◌, ◌||◌, if◌then◌else◌}
use Rattle.std.proofs.lemmas.Bool.{not-true}
use Rattle.prs_core.specs.Deciding.{implies, implies_at, implies_both, at_2, at_3, at_6}

-- Of request, acknowledge, a rail and the other rail of its bit, and the nodes that take these: what holds of each moment
-- that is reached.
abbrev pub legal : (r a x y q p : Bool) → Bool
legal r a x y q p =
    not (x && y)
    && (not (q && p)
    && (if r then (if a then (q || p) && (implies x q && implies y p) else implies q x && implies p y)
    else if a then implies x (not p) && implies y (not q)
    else not q && not p))

-- the rule of the node that takes the rail
abbrev pub takes : (r x q : Bool) → Bool
takes r x q = if q then (not r && (not x && true)) || false else (r && (x && true)) || false

abbrev pub neutral : (x y : Bool) → Bool
neutral x y = not x && not y

abbrev pub valid : (x y : Bool) → Bool
valid x y = x && not y || not x && y

-- what each bit asks of a move of the request, of the acknowledge and of its rail
abbrev pub lets_request : (r a q p : Bool) → Bool
lets_request r a q p = if r then a else not a && neutral q p

abbrev pub lets_ack : (r a x y q p : Bool) → Bool
lets_ack r a x y q p = if a then neutral x y && neutral q p else valid x y && (not r || valid q p)

abbrev pub lets_rail : (a x y : Bool) → Bool
lets_rail a x y = if x then a else not a && not y

pub exchanged_legal : (r a x y q p : Bool) → legal r a x y q p ≡ true → legal r a y x p q ≡ true
exchanged_legal r a x y q p h = implies_at _ _ (at_6 (λ r a x y q p. implies (legal r a x y q p) (legal r a y x p q)) refl r a x y q p) h

pub request_goes : (r a x y q p : Bool) → legal r a x y q p ≡ true → lets_request r a q p ≡ true → legal (not r) a x y q p ≡ true
request_goes r a x y q p h may = implies_both _ _ _
    (at_6 (λ r a x y q p. implies (legal r a x y q p) (implies (lets_request r a q p) (legal (not r) a x y q p))) refl r a x y q p) h may

pub ack_goes : (r a x y q p : Bool) → legal r a x y q p ≡ true → lets_ack r a x y q p ≡ true → legal r (not a) x y q p ≡ true
ack_goes r a x y q p h may = implies_both _ _ _ (at_6 (λ r a x y q p. implies (legal r a x y q p) (implies (lets_ack r a x y q p) (legal r (not a) x y q p)))
    refl r a x y q p) h may

pub rail_goes : (r a x y q p : Bool) → legal r a x y q p ≡ true → lets_rail a x y ≡ true → legal r a (not x) y q p ≡ true
rail_goes r a x y q p h may = implies_both _ _ _ (at_6 (λ r a x y q p. implies (legal r a x y q p) (implies (lets_rail a x y) (legal r a (not x) y q p))) refl r
    a x y q p) h may

pub taking_goes : (r a x y q p : Bool) → legal r a x y q p ≡ true → takes r x q ≡ true → legal r a x y (not q) p ≡ true
taking_goes r a x y q p h fire = implies_both _ _ _ (at_6 (λ r a x y q p. implies (legal r a x y q p) (implies (takes r x q) (legal r a x y (not q) p))) refl r
    a x y q p) h fire

-- the node is taken and let go as it is to be
pub as_promised : (r x q : Bool) → takes r x q ≡ true → (if q then not r && not x else r && x) ≡ true
as_promised r x q fire = implies_at _ _ (at_3 (λ r x q. implies (takes r x q) (if q then not r && not x else r && x)) refl r x q) fire

pub one_way : (r x q : Bool) → (((r && (x && true)) || false) && ((not r && (not x && true)) || false)) ≡ false
one_way r x q = not-true _ (at_2 (λ r x. not (((r && (x && true)) || false) && ((not r && (not x && true)) || false))) refl r x)

-- neither the request nor the rail takes away its move
pub under_request : (r a x y q p : Bool) → legal r a x y q p ≡ true → takes r x q ≡ true → lets_request r a q p ≡ true → takes (not r) x q ≡ true
under_request r a x y q p h fire may =
    implies_both _ _ _ (implies_at _ _ (at_6 (λ r a x y q p.
    implies (legal r a x y q p) (implies (takes r x q) (implies (lets_request r a q p) (takes (not r) x q)))) refl r a x y q p) h) fire may

pub under_rail : (r a x y q p : Bool) → legal r a x y q p ≡ true → takes r x q ≡ true → lets_rail a x y ≡ true → takes r (not x) q ≡ true
under_rail r a x y q p h fire may =
    implies_both _ _ _ (implies_at _ _ (at_6 (λ r a x y q p.
    implies (legal r a x y q p) (implies (takes r x q) (implies (lets_rail a x y) (takes r (not x) q)))) refl r a x y q p) h) fire may

-- where neither node of the bit moves
abbrev pub still : (r x y q p : Bool) → Bool
still r x y q p = not (takes r x q) && not (takes r y p)

pub idle_neutral : (r a x y q p : Bool) → legal r a x y q p ≡ true → (not r && not a) ≡ true → neutral q p ≡ true
idle_neutral r a x y q p h i = implies_both _ _ _ (at_6 (λ r a x y q p. implies (legal r a x y q p) (implies (not r && not a) (neutral q p))) refl r a x y q p)
    h i

pub let_go : (r a x y q p : Bool) → legal r a x y q p ≡ true → still r x y q p ≡ true → (not r && a) ≡ true → neutral x y ≡ true → neutral q p ≡ true
let_go r a x y q p h s i n =
    implies_both _ _ _ (implies_both _ _ _ (at_6
    (λ r a x y q p. implies (legal r a x y q p) (implies (still r x y q p) (implies (not r && a) (implies (neutral x y) (neutral q p))))) refl r a x y q p)
    h s) i n

pub taken_valid : (r a x y q p : Bool) → legal r a x y q p ≡ true → still r x y q p ≡ true → (r && not a) ≡ true → valid x y ≡ true → valid q p ≡ true
taken_valid r a x y q p h s i v =
    implies_both _ _ _ (implies_both _ _ _ (at_6
    (λ r a x y q p. implies (legal r a x y q p) (implies (still r x y q p) (implies (r && not a) (implies (valid x y) (valid q p))))) refl r a x y q p) h s)
    i v

-- a bit that isn't valid has a rail that may rise, and one that isn't neutral has one that may fall
pub may_rise : (r a x y q p : Bool) → legal r a x y q p ≡ true → (r && not a) ≡ true → not (valid x y) ≡ true → lets_rail a x y ≡ true
may_rise r a x y q p h i n =
    implies_both _ _ _ (implies_at _ _ (at_6 (λ r a x y q p. implies (legal r a x y q p) (implies (r && not a) (implies (not (valid x y)) (lets_rail a x y))))
    refl r a x y q p) h) i n

pub may_fall : (a x y : Bool) → a ≡ true → not (neutral x y) ≡ true → ((x && lets_rail a x y) || (y && lets_rail a y x)) ≡ true
may_fall a x y i n = implies_both _ _ _ (at_3 (λ a x y. implies a (implies (not (neutral x y)) ((x && lets_rail a x y) || (y && lets_rail a y x)))) refl a x y)
    i n
