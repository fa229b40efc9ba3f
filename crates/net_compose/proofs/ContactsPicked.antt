-- What is picked of all contacts is what the statements contribute of that kind.
use Rattle.std.proofs.Common.{◌≡◌, ◌∙◌, ℕ, ◌+◌, ◌==◌, Bool, true, false, List, [], ◌∷◌, ◌++◌, refl, ap}
use Rattle.std.specs.Prelude.{if◌then◌else◌}
use Rattle.std.specs.List.{flat_map}
use Rattle.std.proofs.lemmas.Bool.{eqb-true}
use Rattle.std.proofs.lemmas.List.{append-nil}
use Rattle.std.proofs.lemmas.List.Concat.{flat_map-append}
use Rattle.width_check.specs.Processes.{Formula, Process, skipping, assigning, sending, receiving, in_turn, side_by_side, choosing, repeating, Processes, no_members, and_member, Choices, no_choices, and_choice, TypedProgram}
use Rattle.handshake_expand.specs.Layout.{size_of, body_from}
use Rattle.handshake_expand.specs.Answers.{bodies_from, select_own, again_own}
use Rattle.handshake_expand.specs.Sites.{Sites, sites_in, sites_in_turn, sites_in_branches, sites_in_bodies, in_body}
use Rattle.net_compose.specs.Translation.{send_site, receive_site, write_site, assigned_rails}
use Rattle.net_compose.specs.Contacts.{every_contact, sent_by, taken_by, written_by}

-- what is picked of every contact, where it is known of each statement without parts
module _ {A B : Type 0} (p : TypedProgram) (pick : B → List A) (every : Sites B) (site : Sites A)
    (leaf : (s : Process) (from : ℕ) → flat_map pick (every s from) ≡ site s from) where
  two : (xs ys : List B) (us vs : List A) → flat_map pick xs ≡ us → flat_map pick ys ≡ vs → flat_map pick (xs ++ ys) ≡ us ++ vs
  two xs ys us vs h k = flat_map-append pick xs ys ∙ (ap (λ zs. zs ++ flat_map pick ys) h ∙ ap (λ zs. us ++ zs) k)

  mutual
    pub picked : (s : Process) (from : ℕ) → flat_map pick (sites_in p every s from) ≡ sites_in p site s from
    picked skipping from = leaf skipping from
    picked (assigning x at e) from = leaf (assigning x at e) from
    picked (sending chan at e) from = leaf (sending chan at e) from
    picked (receiving chan chan_at x var_at) from = leaf (receiving chan chan_at x var_at) from
    picked (in_turn members) from = picked_turn members from
    picked (side_by_side members) from = picked_branches members from
    picked (choosing false choices) from = picked_bodies choices (bodies_from choices select_own from)
    picked (choosing true choices) from = picked_bodies choices (bodies_from choices again_own from)
    picked (repeating s) from = picked s (from + 2)

    picked_turn : (members : Processes) (from : ℕ) → flat_map pick (sites_in_turn p every members from) ≡ sites_in_turn p site members from
    picked_turn no_members from = refl
    picked_turn (and_member s no_members) from = picked s from
    picked_turn (and_member s (and_member t more)) from =
        two (sites_in p every s (from + 3)) (sites_in_turn p every (and_member t more) (from + 3 + size_of p s))
        (sites_in p site s (from + 3)) (sites_in_turn p site (and_member t more) (from + 3 + size_of p s)) (picked s (from + 3)) (picked_turn
        (and_member t more) (from + 3 + size_of p s))

    picked_branches : (members : Processes) (from : ℕ) → flat_map pick (sites_in_branches p every members from) ≡ sites_in_branches p site members from
    picked_branches no_members from = refl
    picked_branches (and_member s more) from =
        two (sites_in p every s (from + 3)) (sites_in_branches p every more (from + 3 + size_of p s))
        (sites_in p site s (from + 3)) (sites_in_branches p site more (from + 3 + size_of p s)) (picked s (from + 3)) (picked_branches more
        (from + 3 + size_of p s))

    picked_bodies : (choices : Choices) (from : ℕ) → flat_map pick (sites_in_bodies p every choices from) ≡ sites_in_bodies p site choices from
    picked_bodies no_choices from = refl
    picked_bodies (and_choice g s more) from =
        two (sites_in p every s from) (sites_in_bodies p every more (from + size_of p s))
        (sites_in p site s from) (sites_in_bodies p site more (from + size_of p s)) (picked s from) (picked_bodies more (from + size_of p s))

alone : {A : Type 0} (b : Bool) (a : A) → (if b then a ∷ [] else []) ++ [] ≡ (if b then a ∷ [] else [])
alone b a = append-nil (if b then a ∷ [] else [])

pub sends_in : (p : TypedProgram) (k : ℕ) (t : Process) (from : ℕ)
    → flat_map (sent_by k) (sites_in p (every_contact p) t from) ≡ sites_in p (send_site k) t from
sends_in p k t from =
    picked p (sent_by k) (every_contact p) (send_site k) leaf t from
  where
    leaf : (s : Process) (from : ℕ) → flat_map (sent_by k) (every_contact p s from) ≡ send_site k s from
    leaf skipping from = refl
    leaf (assigning x at e) from = refl
    leaf (sending chan at e) from = alone (chan == k) _
    leaf (receiving chan chan_at x var_at) from = refl
    leaf (in_turn members) from = refl
    leaf (side_by_side members) from = refl
    leaf (choosing again choices) from = refl
    leaf (repeating s) from = refl

pub takes_in : (p : TypedProgram) (k : ℕ) (t : Process) (from : ℕ)
    → flat_map (taken_by k) (sites_in p (every_contact p) t from) ≡ sites_in p (receive_site k) t from
takes_in p k t from =
    picked p (taken_by k) (every_contact p) (receive_site k) leaf t from
  where
    leaf : (s : Process) (from : ℕ) → flat_map (taken_by k) (every_contact p s from) ≡ receive_site k s from
    leaf skipping from = refl
    leaf (assigning x at e) from = refl
    leaf (sending chan at e) from = refl
    leaf (receiving chan chan_at x var_at) from = alone (chan == k) _
    leaf (in_turn members) from = refl
    leaf (side_by_side members) from = refl
    leaf (choosing again choices) from = refl
    leaf (repeating s) from = refl

-- the variable that is written is this one
one_variable : (p : TypedProgram) (x y : ℕ) (e : Formula) (from : ℕ) (b : Bool) → (y == x) ≡ b
    → (if b then assigned_rails p y e from ∷ [] else [])
    ≡ (if b then assigned_rails p x e from ∷ [] else [])
one_variable p x y e from true is = ap (λ z. assigned_rails p z e from ∷ []) (eqb-true y x is)
one_variable p x y e from false is = refl

pub writes_in : (p : TypedProgram) (x : ℕ) (t : Process) (from : ℕ)
    → flat_map (written_by x) (sites_in p (every_contact p) t from) ≡ sites_in p (write_site p x) t from
writes_in p x t from =
    picked p (written_by x) (every_contact p) (write_site p x) leaf t from
  where
    leaf : (s : Process) (from : ℕ) → flat_map (written_by x) (every_contact p s from) ≡ write_site p x s from
    leaf skipping from = refl
    leaf (assigning y at e) from = alone (y == x) _ ∙ one_variable p x y e from (y == x) refl
    leaf (sending chan at e) from = refl
    leaf (receiving chan chan_at y var_at) from = alone (y == x) _
    leaf (in_turn members) from = refl
    leaf (side_by_side members) from = refl
    leaf (choosing again choices) from = refl
    leaf (repeating s) from = refl

-- of a program's body
pub sends_are : (p : TypedProgram) (k : ℕ) → flat_map (sent_by k) (in_body p (every_contact p)) ≡ in_body p (send_site k)
sends_are p k = sends_in p k p.body (body_from p)

pub takes_are : (p : TypedProgram) (k : ℕ) → flat_map (taken_by k) (in_body p (every_contact p)) ≡ in_body p (receive_site k)
takes_are p k = takes_in p k p.body (body_from p)

pub writes_are : (p : TypedProgram) (x : ℕ) → flat_map (written_by x) (in_body p (every_contact p)) ≡ in_body p (write_site p x)
writes_are p x = writes_in p x p.body (body_from p)
