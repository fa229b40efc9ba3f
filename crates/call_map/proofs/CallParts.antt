-- The calls of a statement as parts of what it is with a copy of the body in place of each: where the copies stand, and that two
-- copies of one procedure take turns.
--
-- ps: the bodies of the procedures; P: the program with copies; x: a statement with calls; p, t: a statement without; k: a copy
-- in it; R, S: what is said of members of lists.
use Rattle.std.proofs.Common.{◌≡◌, ℕ, zero, suc, ◌+◌, ◌<◌, true, false, List, [], ◌∷◌, ◌++◌, map, length, get_or, inl, inr, refl, sym, subst, arith}
use Rattle.std.specs.Prelude.{slice_index_or}
use Rattle.width_check.specs.Processes.{Formula, Process, skipping, in_turn, side_by_side, choosing, repeating, Processes, no_members, and_member, Choices, and_choice, choice_count, TypedProgram}
use Rattle.handshake_expand.specs.Answers.{bodies_from, select_own, again_own}
use Rattle.circuit_places.specs.Within.{PartOf, whole, of_member, of_side, of_body, of_arm, ArmPart, this_arm, other_arm, SidePart, this_side, other_side, TurnPart, last_part, first_part, later_part, InTurns, ArmsInTurns, SidesInTurns, MembersInTurns}
use Rattle.net_compose.specs.PartNumbers.{part_from, arm_part_from, side_part_from, turn_part_from, part_ask, arm_part_ask, side_part_ask, turn_part_ask}
use Rattle.call_map.specs.Calling.{Called, calling, atom, turned, abreast, chosen, looped, Calleds, no_calleds, and_called, CalledChoices, no_called, or_called, inlined, inlined_each, inlined_choices, called_size}
use Rattle.call_map.specs.CallsApart.{Calls, OneCalls, ChoiceCalls, CallsApart, MembersApart, BranchesApart, ChoicesApart}
use Rattle.call_map.proofs.Items.{Each, each_append, CallPoint, there_size, calls, turn_calls, branch_calls, body_calls}

-- two lists of one length, member by member
abbrev pub Paired : {A B : Type 0} → (A → B → Type 0) → List A → List B → Type 0
Paired R [] [] = Unit {0}
Paired R [] (y ∷ ys) = ⊥
Paired R (x ∷ xs) [] = ⊥
Paired R (x ∷ xs) (y ∷ ys) = R x y × Paired R xs ys

paired_append : {A B : Type 0} (R : A → B → Type 0) (xs : List A) (ys : List B) (zs : List A) (ws : List B) → Paired R xs ys → Paired R zs ws
    → Paired R (xs ++ zs) (ys ++ ws)
paired_append R [] [] zs ws h k = k
paired_append R [] (y ∷ ys) zs ws h k = absurd h
paired_append R (x ∷ xs) [] zs ws h k = absurd h
paired_append R (x ∷ xs) (y ∷ ys) zs ws h k = (h.0, paired_append R xs ys zs ws h.1 k)

paired_map : {A B D : Type 0} (R : A → B → Type 0) (S : A → D → Type 0) (f : B → D) → ((x : A) (y : B) → R x y → S x (f y))
    → (xs : List A) (ys : List B) → Paired R xs ys → Paired S xs (map f ys)
paired_map R S f to [] [] h = tt
paired_map R S f to [] (y ∷ ys) h = absurd h
paired_map R S f to (x ∷ xs) [] h = absurd h
paired_map R S f to (x ∷ xs) (y ∷ ys) h = (to x y h.0, paired_map R S f to xs ys h.1)

each_all : {A : Type 0} (R : A → Type 0) → ((x : A) → R x) → (xs : List A) → Each R xs
each_all R h [] = tt
each_all R h (x ∷ xs) = (h x, each_all R h xs)

each_map : {A B : Type 0} (R : A → Type 0) (S : B → Type 0) (f : A → B) → ((x : A) → R x → S (f x)) → (xs : List A) → Each R xs → Each S (map f xs)
each_map R S f to [] h = tt
each_map R S f to (x ∷ xs) h = (to x h.0, each_map R S f to xs h.1)

-- each member and each later one
abbrev pub Pairs : {A : Type 0} → (A → A → Type 0) → List A → Type 0
Pairs R [] = Unit {0}
Pairs R (x ∷ xs) = Each (R x) xs × Pairs R xs

pairs_append : {A : Type 0} (R : A → A → Type 0) (xs ys : List A) → Pairs R xs → Pairs R ys → Each (λ x. Each (R x) ys) xs → Pairs R (xs ++ ys)
pairs_append R [] ys h k c = k
pairs_append R (x ∷ xs) ys h k c = (each_append (R x) xs ys h.0 c.0, pairs_append R xs ys h.1 k c.1)

pairs_map : {A B : Type 0} (R : A → A → Type 0) (S : B → B → Type 0) (f : A → B) → ((x y : A) → R x y → S (f x) (f y)) → (xs : List A) → Pairs R xs
    → Pairs S (map f xs)
pairs_map R S f to [] h = tt
pairs_map R S f to (x ∷ xs) h = (each_map (R x) (S (f x)) f (λ y r. to x y r) xs h.0, pairs_map R S f to xs h.1)

module _ {A B : Type 0} (R : A → B → Type 0) (e : A) where
  pub paired_at : (xs : List A) (ys : List B) → Paired R xs ys → (c : ℕ) → c < length xs → (y : B) × R (get_or xs c e) y
  paired_at [] ys h c l = absurd (omega (arith, l))
  paired_at (x ∷ xs) [] h c l = absurd h
  paired_at (x ∷ xs) (y ∷ ys) h zero l = (y, h.0)
  paired_at (x ∷ xs) (y ∷ ys) h (suc c) l = paired_at xs ys h.1 c (omega (arith, l))

  pub each_paired : (Q : B → Type 0) (xs : List A) (ys : List B) → Paired R xs ys → Each Q ys → (c : ℕ) → c < length xs
      → (y : B) × R (get_or xs c e) y × Q y
  each_paired Q [] ys h q c l = absurd (omega (arith, l))
  each_paired Q (x ∷ xs) [] h q c l = absurd h
  each_paired Q (x ∷ xs) (y ∷ ys) h q zero l = (y, h.0, q.0)
  each_paired Q (x ∷ xs) (y ∷ ys) h q (suc c) l = each_paired Q xs ys h.1 q.1 c (omega (arith, l))

  pub pair_at : (S : B → B → Type 0) (xs : List A) (ys : List B) → Paired R xs ys → Pairs S ys → (c j : ℕ) → c < j → j < length xs
      → (y : B) × (z : B) × R (get_or xs c e) y × R (get_or xs j e) z × S y z
  pair_at S [] ys h q c j less l = absurd (omega (arith, l))
  pair_at S (x ∷ xs) [] h q c j less l = absurd h
  pair_at S (x ∷ xs) (y ∷ ys) h q c zero less l = absurd (omega (arith, less))
  pair_at S (x ∷ xs) (y ∷ ys) h q zero (suc j) less l = let z = each_paired (S y) xs ys h.1 q.0 j (omega (arith, l)) in (y, z.0, h.0, z.1, z.2)
  pair_at S (x ∷ xs) (y ∷ ys) h q (suc c) (suc j) less l = pair_at S xs ys h.1 q.1 c j (omega (arith, less)) (omega (arith, l))

-- a copy of a procedure's body in a statement
pub record Copy (ps : List Process) (p : Process) : Type 0 where
  pub proc : ℕ
  pub at : PartOf (slice_index_or ps proc skipping) p

pub record TurnCopy (ps : List Process) (members : Processes) : Type 0 where
  pub proc : ℕ
  pub at : TurnPart (slice_index_or ps proc skipping) members

pub record SideCopy (ps : List Process) (members : Processes) : Type 0 where
  pub proc : ℕ
  pub at : SidePart (slice_index_or ps proc skipping) members

pub record ArmCopy (ps : List Process) (choices : Choices) : Type 0 where
  pub proc : ℕ
  pub at : ArmPart (slice_index_or ps proc skipping) choices

module _ (ps : List Process) where
  abbrev as_member : (members : Processes) → TurnCopy ps members → Copy ps (in_turn members)
  as_member ms k = record { proc = k.proc; at = of_member k.at }

  abbrev as_side : (members : Processes) → SideCopy ps members → Copy ps (side_by_side members)
  as_side ms k = record { proc = k.proc; at = of_side k.at }

  abbrev as_body : (p : Process) → Copy ps p → Copy ps (repeating p)
  as_body p k = record { proc = k.proc; at = of_body k.at }

  abbrev as_arm : (again : _) (choices : Choices) → ArmCopy ps choices → Copy ps (choosing again choices)
  as_arm again cs k = record { proc = k.proc; at = of_arm k.at }

  abbrev as_last : (p : Process) → Copy ps p → TurnCopy ps (and_member p no_members)
  as_last p k = record { proc = k.proc; at = last_part k.at }

  abbrev as_first : (p s : Process) (more : Processes) → Copy ps p → TurnCopy ps (and_member p (and_member s more))
  as_first p s more k = record { proc = k.proc; at = first_part k.at }

  abbrev as_later : (p s : Process) (more : Processes) → TurnCopy ps (and_member s more) → TurnCopy ps (and_member p (and_member s more))
  as_later p s more k = record { proc = k.proc; at = later_part k.at }

  abbrev in_this_side : (p : Process) (more : Processes) → Copy ps p → SideCopy ps (and_member p more)
  in_this_side p more k = record { proc = k.proc; at = this_side k.at }

  abbrev in_other_side : (p : Process) (more : Processes) → SideCopy ps more → SideCopy ps (and_member p more)
  in_other_side p more k = record { proc = k.proc; at = other_side k.at }

  abbrev in_this_arm : (g : Formula) (p : Process) (more : Choices) → Copy ps p → ArmCopy ps (and_choice g p more)
  in_this_arm g p more k = record { proc = k.proc; at = this_arm k.at }

  abbrev in_other_arm : (g : Formula) (p : Process) (more : Choices) → ArmCopy ps more → ArmCopy ps (and_choice g p more)
  in_other_arm g p more k = record { proc = k.proc; at = other_arm k.at }

  -- the copies, in the order of the calls
  abbrev mutual
    pub copies_in : (x : Called) → List (Copy ps (inlined ps x))
    copies_in (calling q) = record { proc = q; at = whole } ∷ []
    copies_in (atom p) = []
    copies_in (turned members) = map (as_member (inlined_each ps members)) (turn_copies members)
    copies_in (abreast members) = map (as_side (inlined_each ps members)) (side_copies members)
    copies_in (chosen again choices) = map (as_arm again (inlined_choices ps choices)) (arm_copies choices)
    copies_in (looped x) = map (as_body (inlined ps x)) (copies_in x)

    pub turn_copies : (members : Calleds) → List (TurnCopy ps (inlined_each ps members))
    turn_copies no_calleds = []
    turn_copies (and_called x no_calleds) = map (as_last (inlined ps x)) (copies_in x)
    turn_copies (and_called x (and_called y more)) =
        map (as_first (inlined ps x) (inlined ps y) (inlined_each ps more)) (copies_in x)
        ++ map (as_later (inlined ps x) (inlined ps y) (inlined_each ps more)) (turn_copies (and_called y more))

    pub side_copies : (members : Calleds) → List (SideCopy ps (inlined_each ps members))
    side_copies no_calleds = []
    side_copies (and_called x more) =
        map (in_this_side (inlined ps x) (inlined_each ps more)) (copies_in x) ++ map (in_other_side (inlined ps x) (inlined_each ps more)) (side_copies more)

    pub arm_copies : (choices : CalledChoices) → List (ArmCopy ps (inlined_choices ps choices))
    arm_copies no_called = []
    arm_copies (or_called g x more) =
        map (in_this_arm g (inlined ps x) (inlined_choices ps more)) (copies_in x)
        ++ map (in_other_arm g (inlined ps x) (inlined_choices ps more)) (arm_copies more)

  -- each is of a procedure that is called
  mutual
    pub copies_called : (x : Called) → Each (λ (k : Copy ps (inlined ps x)). Calls x k.proc) (copies_in x)
    copies_called (calling q) = (refl, tt)
    copies_called (atom p) = tt
    copies_called (turned members) = each_map (λ (k : TurnCopy ps (inlined_each ps members)). OneCalls members k.proc)
        (λ (k : Copy ps (in_turn (inlined_each ps members))). OneCalls members k.proc) (as_member (inlined_each ps members)) (λ k h. h) (turn_copies members)
        (turns_called members)
    copies_called (abreast members) = each_map (λ (k : SideCopy ps (inlined_each ps members)). OneCalls members k.proc)
        (λ (k : Copy ps (side_by_side (inlined_each ps members))). OneCalls members k.proc) (as_side (inlined_each ps members)) (λ k h. h) (side_copies members)
        (sides_called members)
    copies_called (chosen again choices) = each_map (λ (k : ArmCopy ps (inlined_choices ps choices)). ChoiceCalls choices k.proc)
        (λ (k : Copy ps (choosing again (inlined_choices ps choices))). ChoiceCalls choices k.proc) (as_arm again (inlined_choices ps choices)) (λ k h. h)
        (arm_copies choices) (arms_called choices)
    copies_called (looped x) = each_map (λ (k : Copy ps (inlined ps x)). Calls x k.proc)
        (λ (k : Copy ps (repeating (inlined ps x))). Calls x k.proc) (as_body (inlined ps x)) (λ k h. h) (copies_in x) (copies_called x)

    turns_called : (members : Calleds) → Each (λ (k : TurnCopy ps (inlined_each ps members)). OneCalls members k.proc) (turn_copies members)
    turns_called no_calleds = tt
    turns_called (and_called x no_calleds) = each_map (λ (k : Copy ps (inlined ps x)). Calls x k.proc)
        (λ (k : TurnCopy ps (and_member (inlined ps x) no_members)). OneCalls (and_called x no_calleds) k.proc) (as_last (inlined ps x)) (λ k h. inl h)
        (copies_in x) (copies_called x)
    turns_called (and_called x (and_called y more)) =
        let Q : TurnCopy ps (inlined_each ps (and_called x (and_called y more))) → Type 0 = λ k. OneCalls (and_called x (and_called y more)) k.proc in
        each_append Q (map (as_first (inlined ps x) (inlined ps y) (inlined_each ps more)) (copies_in x))
        (map (as_later (inlined ps x) (inlined ps y) (inlined_each ps more)) (turn_copies (and_called y more)))
        (each_map (λ (k : Copy ps (inlined ps x)). Calls x k.proc) Q (as_first (inlined ps x) (inlined ps y) (inlined_each ps more)) (λ k h. inl h)
        (copies_in x) (copies_called x))
        (each_map (λ (k : TurnCopy ps (inlined_each ps (and_called y more))). OneCalls (and_called y more) k.proc) Q
        (as_later (inlined ps x) (inlined ps y) (inlined_each ps more)) (λ k h. inr h) (turn_copies (and_called y more)) (turns_called (and_called y more)))

    sides_called : (members : Calleds) → Each (λ (k : SideCopy ps (inlined_each ps members)). OneCalls members k.proc) (side_copies members)
    sides_called no_calleds = tt
    sides_called (and_called x more) =
        let Q : SideCopy ps (inlined_each ps (and_called x more)) → Type 0 = λ k. OneCalls (and_called x more) k.proc in
        each_append Q (map (in_this_side (inlined ps x) (inlined_each ps more)) (copies_in x))
        (map (in_other_side (inlined ps x) (inlined_each ps more)) (side_copies more))
        (each_map (λ (k : Copy ps (inlined ps x)). Calls x k.proc) Q (in_this_side (inlined ps x) (inlined_each ps more)) (λ k h. inl h) (copies_in x)
        (copies_called x))
        (each_map (λ (k : SideCopy ps (inlined_each ps more)). OneCalls more k.proc) Q (in_other_side (inlined ps x) (inlined_each ps more)) (λ k h. inr h)
        (side_copies more) (sides_called more))

    arms_called : (choices : CalledChoices) → Each (λ (k : ArmCopy ps (inlined_choices ps choices)). ChoiceCalls choices k.proc) (arm_copies choices)
    arms_called no_called = tt
    arms_called (or_called g x more) =
        let Q : ArmCopy ps (inlined_choices ps (or_called g x more)) → Type 0 = λ k. ChoiceCalls (or_called g x more) k.proc in
        each_append Q (map (in_this_arm g (inlined ps x) (inlined_choices ps more)) (copies_in x))
        (map (in_other_arm g (inlined ps x) (inlined_choices ps more)) (arm_copies more))
        (each_map (λ (k : Copy ps (inlined ps x)). Calls x k.proc) Q (in_this_arm g (inlined ps x) (inlined_choices ps more)) (λ k h. inl h) (copies_in x)
        (copies_called x))
        (each_map (λ (k : ArmCopy ps (inlined_choices ps more)). ChoiceCalls more k.proc) Q (in_other_arm g (inlined ps x) (inlined_choices ps more))
        (λ k h. inr h) (arm_copies more) (arms_called more))

  -- two copies of one procedure take turns
  abbrev pub Turning : (p : Process) → Copy ps p → Copy ps p → Type 0
  Turning p k l = k.proc ≡ l.proc → InTurns k.at l.at

  abbrev TurnTurning : (members : Processes) → TurnCopy ps members → TurnCopy ps members → Type 0
  TurnTurning ms k l = k.proc ≡ l.proc → MembersInTurns k.at l.at

  abbrev SideTurning : (members : Processes) → SideCopy ps members → SideCopy ps members → Type 0
  SideTurning ms k l = k.proc ≡ l.proc → SidesInTurns k.at l.at

  abbrev ArmTurning : (choices : Choices) → ArmCopy ps choices → ArmCopy ps choices → Type 0
  ArmTurning cs k l = k.proc ≡ l.proc → ArmsInTurns k.at l.at

  mutual
    pub copies_turn : (x : Called) → CallsApart x → Pairs (Turning (inlined ps x)) (copies_in x)
    copies_turn (calling q) a = (tt, tt)
    copies_turn (atom p) a = tt
    copies_turn (turned members) a =
        let ms = inlined_each ps members in
        pairs_map (TurnTurning ms) (Turning (in_turn ms)) (as_member ms) (λ k l h. h) (turn_copies members) (turns_turn members a)
    copies_turn (abreast members) a =
        let ms = inlined_each ps members in
        pairs_map (SideTurning ms) (Turning (side_by_side ms)) (as_side ms) (λ k l h. h) (side_copies members) (sides_turn members a)
    copies_turn (chosen again choices) a =
        let cs = inlined_choices ps choices in
        pairs_map (ArmTurning cs) (Turning (choosing again cs)) (as_arm again cs) (λ k l h. h) (arm_copies choices) (arms_turn choices a)
    copies_turn (looped x) a =
        let p = inlined ps x in
        pairs_map (Turning p) (Turning (repeating p)) (as_body p) (λ k l h. h) (copies_in x) (copies_turn x a)

    turns_turn : (members : Calleds) → MembersApart members → Pairs (TurnTurning (inlined_each ps members)) (turn_copies members)
    turns_turn no_calleds a = tt
    turns_turn (and_called x no_calleds) a =
        let p = inlined ps x in
        pairs_map (Turning p) (TurnTurning (and_member p no_members)) (as_last p) (λ k l h. h) (copies_in x) (copies_turn x a.0)
    turns_turn (and_called x (and_called y more)) a =
        let p = inlined ps x in
        let s = inlined ps y in
        let ms = inlined_each ps more in
        let R = TurnTurning (and_member p (and_member s ms)) in
        let front = copies_in x in
        let rest = turn_copies (and_called y more) in
        pairs_append R (map (as_first p s ms) front) (map (as_later p s ms) rest)
        (pairs_map (Turning p) R (as_first p s ms) (λ k l h. h) front (copies_turn x a.0))
        (pairs_map (TurnTurning (and_member s ms)) R (as_later p s ms) (λ k l h. h) rest (turns_turn (and_called y more) a.1))
        (each_map (λ (k : Copy ps p). Unit {0}) (λ k. Each (R k) (map (as_later p s ms) rest)) (as_first p s ms)
        (λ k h. each_map (λ (l : TurnCopy ps (and_member s ms)). Unit {0}) (R (as_first p s ms k)) (as_later p s ms) (λ l h e. tt) rest
        (each_all (λ l. Unit {0}) (λ l. tt) rest))
        front (each_all (λ k. Unit {0}) (λ k. tt) front))

    sides_turn : (members : Calleds) → BranchesApart members → Pairs (SideTurning (inlined_each ps members)) (side_copies members)
    sides_turn no_calleds a = tt
    sides_turn (and_called x more) a =
        let p = inlined ps x in
        let ms = inlined_each ps more in
        let R = SideTurning (and_member p ms) in
        let front = copies_in x in
        let rest = side_copies more in
        pairs_append R (map (in_this_side p ms) front) (map (in_other_side p ms) rest)
        (pairs_map (Turning p) R (in_this_side p ms) (λ k l h. h) front (copies_turn x a.0))
        (pairs_map (SideTurning ms) R (in_other_side p ms) (λ k l h. h) rest (sides_turn more a.2))
        (each_map (λ (k : Copy ps p). Calls x k.proc) (λ k. Each (R k) (map (in_other_side p ms) rest)) (in_this_side p ms)
        (λ k h. each_map (λ (l : SideCopy ps ms). OneCalls more l.proc) (R (in_this_side p ms k)) (in_other_side p ms)
        (λ l g e. absurd (a.1 k.proc h (subst (OneCalls more) (sym e) g))) rest (sides_called more))
        front (copies_called x))

    arms_turn : (choices : CalledChoices) → ChoicesApart choices → Pairs (ArmTurning (inlined_choices ps choices)) (arm_copies choices)
    arms_turn no_called a = tt
    arms_turn (or_called g x more) a =
        let p = inlined ps x in
        let cs = inlined_choices ps more in
        let R = ArmTurning (and_choice g p cs) in
        let front = copies_in x in
        let rest = arm_copies more in
        pairs_append R (map (in_this_arm g p cs) front) (map (in_other_arm g p cs) rest)
        (pairs_map (Turning p) R (in_this_arm g p cs) (λ k l h. h) front (copies_turn x a.0))
        (pairs_map (ArmTurning cs) R (in_other_arm g p cs) (λ k l h. h) rest (arms_turn more a.1))
        (each_map (λ (k : Copy ps p). Unit {0}) (λ k. Each (R k) (map (in_other_arm g p cs) rest)) (in_this_arm g p cs)
        (λ k h. each_map (λ (l : ArmCopy ps cs). Unit {0}) (R (in_this_arm g p cs k)) (in_other_arm g p cs) (λ l h e. tt) rest
        (each_all (λ l. Unit {0}) (λ l. tt) rest))
        front (each_all (λ k. Unit {0}) (λ k. tt) front))

  -- where they stand
  module _ (P : TypedProgram) (d : ℕ → ℕ) where
    abbrev pub Fits : (p : Process) (s to : ℕ) → CallPoint → Copy ps p → Type 0
    Fits p s to c k = (c.proc ≡ k.proc) × (part_ask P k.at s to ≡ c.request_there) × (part_from P k.at to ≡ c.copy)

    abbrev TurnFits : (members : Processes) (s to : ℕ) → CallPoint → TurnCopy ps members → Type 0
    TurnFits ms s to c k = (c.proc ≡ k.proc) × (turn_part_ask P k.at s to ≡ c.request_there) × (turn_part_from P k.at to ≡ c.copy)

    abbrev SideFits : (members : Processes) (to : ℕ) → CallPoint → SideCopy ps members → Type 0
    SideFits ms to c k = (c.proc ≡ k.proc) × (side_part_ask P k.at to ≡ c.request_there) × (side_part_from P k.at to ≡ c.copy)

    abbrev ArmFits : (choices : Choices) (s to : ℕ) → CallPoint → ArmCopy ps choices → Type 0
    ArmFits cs s to c k = (c.proc ≡ k.proc) × (arm_part_ask P k.at s to ≡ c.request_there) × (arm_part_from P k.at to ≡ c.copy)

    mutual
      pub copies_fit : (x : Called) (r from s to : ℕ) → Paired (Fits (inlined ps x) s to) (calls P ps d x r from s to) (copies_in x)
      copies_fit (calling q) r from s to = ((refl, refl, refl), tt)
      copies_fit (atom p) r from s to = tt
      copies_fit (turned members) r from s to =
          let ms = inlined_each ps members in
          paired_map (TurnFits ms s to) (Fits (in_turn ms) s to) (as_member ms) (λ c k h. h) (turn_calls P ps d members r from s to) (turn_copies members)
          (turns_fit members r from s to)
      copies_fit (abreast members) r from s to =
          let ms = inlined_each ps members in
          paired_map (SideFits ms to) (Fits (side_by_side ms) s to) (as_side ms) (λ c k h. h) (branch_calls P ps d members r from s to) (side_copies members)
          (sides_fit members r from s to)
      copies_fit (chosen false choices) r from s to =
          let cs = inlined_choices ps choices in
          let start = from + select_own + choice_count cs in
          let start_there = to + select_own + choice_count cs in
          paired_map (ArmFits cs start_there (bodies_from cs select_own to)) (Fits (choosing false cs) s to) (as_arm false cs) (λ c k h. h)
          (body_calls P ps d choices start (bodies_from cs select_own from) start_there (bodies_from cs select_own to)) (arm_copies choices)
          (arms_fit choices start (bodies_from cs select_own from) start_there (bodies_from cs select_own to))
      copies_fit (chosen true choices) r from s to =
          let cs = inlined_choices ps choices in
          let start = from + again_own + choice_count cs in
          let start_there = to + again_own + choice_count cs in
          paired_map (ArmFits cs start_there (bodies_from cs again_own to)) (Fits (choosing true cs) s to) (as_arm true cs) (λ c k h. h)
          (body_calls P ps d choices start (bodies_from cs again_own from) start_there (bodies_from cs again_own to)) (arm_copies choices)
          (arms_fit choices start (bodies_from cs again_own from) start_there (bodies_from cs again_own to))
      copies_fit (looped x) r from s to =
          let p = inlined ps x in
          paired_map (Fits p (to + 1) (to + 2)) (Fits (repeating p) s to) (as_body p) (λ c k h. h) (calls P ps d x (from + 1) (from + 2) (to + 1) (to + 2))
          (copies_in x)
          (copies_fit x (from + 1) (from + 2) (to + 1) (to + 2))

      turns_fit : (members : Calleds) (r from s to : ℕ)
          → Paired (TurnFits (inlined_each ps members) s to) (turn_calls P ps d members r from s to) (turn_copies members)
      turns_fit no_calleds r from s to = tt
      turns_fit (and_called x no_calleds) r from s to =
          let p = inlined ps x in
          paired_map (Fits p s to) (TurnFits (and_member p no_members) s to) (as_last p) (λ c k h. h) (calls P ps d x r from s to) (copies_in x)
          (copies_fit x r from s to)
      turns_fit (and_called x (and_called y more)) r from s to =
          let p = inlined ps x in
          let t = inlined ps y in
          let ms = inlined_each ps more in
          let R = TurnFits (and_member p (and_member t ms)) s to in
          let next = from + 3 + called_size ps P x in
          let next_there = to + 3 + there_size P ps d x in
          paired_append R (calls P ps d x from (from + 3) to (to + 3)) (map (as_first p t ms) (copies_in x))
          (turn_calls P ps d (and_called y more) (from + 2) next (to + 2) next_there) (map (as_later p t ms) (turn_copies (and_called y more)))
          (paired_map (Fits p to (to + 3)) R (as_first p t ms) (λ c k h. h) (calls P ps d x from (from + 3) to (to + 3)) (copies_in x)
          (copies_fit x from (from + 3) to (to + 3)))
          (paired_map (TurnFits (and_member t ms) (to + 2) next_there) R (as_later p t ms) (λ c k h. h)
          (turn_calls P ps d (and_called y more) (from + 2) next (to + 2) next_there) (turn_copies (and_called y more))
          (turns_fit (and_called y more) (from + 2) next (to + 2) next_there))

      sides_fit : (members : Calleds) (r from s to : ℕ)
          → Paired (SideFits (inlined_each ps members) to) (branch_calls P ps d members r from s to) (side_copies members)
      sides_fit no_calleds r from s to = tt
      sides_fit (and_called x more) r from s to =
          let p = inlined ps x in
          let ms = inlined_each ps more in
          let R = SideFits (and_member p ms) to in
          let next = from + 3 + called_size ps P x in
          let next_there = to + 3 + there_size P ps d x in
          paired_append R (calls P ps d x from (from + 3) to (to + 3)) (map (in_this_side p ms) (copies_in x))
          (branch_calls P ps d more r next s next_there) (map (in_other_side p ms) (side_copies more))
          (paired_map (Fits p to (to + 3)) R (in_this_side p ms) (λ c k h. h) (calls P ps d x from (from + 3) to (to + 3)) (copies_in x)
          (copies_fit x from (from + 3) to (to + 3)))
          (paired_map (SideFits ms next_there) R (in_other_side p ms) (λ c k h. h) (branch_calls P ps d more r next s next_there) (side_copies more)
          (sides_fit more r next s next_there))

      arms_fit : (choices : CalledChoices) (start from s to : ℕ)
          → Paired (ArmFits (inlined_choices ps choices) s to) (body_calls P ps d choices start from s to) (arm_copies choices)
      arms_fit no_called start from s to = tt
      arms_fit (or_called g x more) start from s to =
          let p = inlined ps x in
          let cs = inlined_choices ps more in
          let R = ArmFits (and_choice g p cs) s to in
          let next = from + called_size ps P x in
          let next_there = to + there_size P ps d x in
          paired_append R (calls P ps d x start from s to) (map (in_this_arm g p cs) (copies_in x))
          (body_calls P ps d more (start + 1) next (s + 1) next_there) (map (in_other_arm g p cs) (arm_copies more))
          (paired_map (Fits p s to) R (in_this_arm g p cs) (λ c k h. h) (calls P ps d x start from s to) (copies_in x) (copies_fit x start from s to))
          (paired_map (ArmFits cs (s + 1) next_there) R (in_other_arm g p cs) (λ c k h. h) (body_calls P ps d more (start + 1) next (s + 1) next_there)
          (arm_copies more)
          (arms_fit more (start + 1) next (s + 1) next_there))
