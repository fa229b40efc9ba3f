-- Selection and guarded repetition: the guards are evaluated under a request of their own, the one true guard is
-- latched, the guards are released, and then its branch is run.
use Rattle.std.specs.Prelude.{ℕ, List, [], ◌∷◌, ◌++◌, map}
use Rattle.prs_core.specs.declared.rule.Literal.{Literal}
use Rattle.prs_core.specs.Nets.{NodeRules, is_high, is_low, one_term}
use Rattle.prs_core.specs.Pairs.{Pair, rails_of, lows, or_of}

-- the literals that require each guard to be false
abbrev pub all_false : List Pair → List Literal
all_false hs = map (λ (h : Pair). is_high h.f) hs

-- for each guard, with those before it and those after it: the literals that require it true and all others false
abbrev pub only_one_true : (before behind : List Pair) → List (List Literal)
only_one_true before [] = []
only_one_true before (h ∷ behind) = (all_false before ++ is_high h.t ∷ all_false behind)
    ∷ only_one_true (before ++ h ∷ []) behind

-- a guard's latch rises where it alone is true, and falls with the request: h_i.t & h_j.f for all other j -> l_i+, ~r
-- -> l_i-
abbrev pub latches : (request : ℕ) → List Pair → List NodeRules
latches request hs = map (λ (wanted : List Literal). record {
  up = one_term wanted;
  down =
      one_term (is_low request ∷ []);
}) (only_one_true [] hs)

-- once the guards are released the latched branch starts: l & ~h_1.t & ~h_1.f & .. -> s+, ~l -> s-
abbrev pub started : (latch : ℕ) → List Pair → NodeRules
started latch hs = record { up = one_term (is_high latch ∷ lows (rails_of hs)); down = one_term (is_low latch ∷ []) }

abbrev pub starts : List ℕ → List Pair → List NodeRules
starts ls hs = map (λ l. started l hs) ls

-- the guards are evaluated until a latch is up: r & ~m -> e+, m -> e-
abbrev pub evaluation : (request any : ℕ) → NodeRules
evaluation request any = record {
  up = one_term (is_high request ∷ is_low any ∷ []);
  down =
      one_term (is_high any ∷ []);
}

-- a branch's answer is the whole's, until no latch is up: a_1 | .. | a_g -> a+, ~m & ~a_1 & .. & ~a_g -> a-
abbrev pub joined_answer : (any : ℕ) → (answers : List ℕ) → NodeRules
joined_answer any answers = record {
  up = map (λ a. is_high a ∷ []) answers;
  down =
      one_term (is_low any ∷ lows answers);
}

-- the nodes at a selection: its request, the node that says that a latch is up, for each guard its latch and its rails,
-- and the answer of its branch
pub record Choosing : Type 0 where
  pub request : ℕ
  pub any : ℕ
  pub latched : List ℕ
  pub guards : List Pair
  pub answers : List ℕ

-- the answer, the request of the guards, whether a latch is up, the latches, and the starts of the branches
abbrev pub select_rules : Choosing → List NodeRules
select_rules c =
    joined_answer c.any c.answers ∷ evaluation c.request c.any ∷ or_of c.latched
    ∷ (latches c.request c.guards ++ starts c.latched c.guards)

-- the nodes at a guarded repetition: also the request of one turn, the joined answers of the branches, and the latch by
-- which it ends; the selection's request is that of a turn
pub record Repeating : Type 0 where
  pub request : ℕ
  pub joined : ℕ
  pub leave : ℕ
  pub turn : Choosing

-- a turn is asked for until a branch has answered: r & ~d -> lr+, d | ~r -> lr-
abbrev pub turn_request : (request joined : ℕ) → NodeRules
turn_request request joined = record {
  up = one_term (is_high request ∷ is_low joined ∷ []);
  down =
      (is_high joined ∷ []) ∷ (is_low request ∷ []) ∷ [];
}

-- it ends where all guards are false: h_1.f & .. & h_g.f -> l_0+, ~lr -> l_0-
abbrev pub leave_latch : (turn : ℕ) → List Pair → NodeRules
leave_latch turn hs = record { up = one_term (all_false hs); down = one_term (is_low turn ∷ []) }

-- and answers once the guards are released: l_0 & ~h_1.t & .. -> a+, ~m -> a-
abbrev pub leave_answer : (leave any : ℕ) → List Pair → NodeRules
leave_answer leave any hs = record {
  up = one_term (is_high leave ∷ lows (rails_of hs));
  down =
      one_term (is_low any ∷ []);
}

-- the answer, the request of a turn, the joined answers, the request of the guards, whether a latch is up, the latch of
-- the end, the other latches, and the starts of the branches
abbrev pub again_rules : Repeating → List NodeRules
again_rules p =
    let c = p.turn in
    leave_answer p.leave c.any c.guards ∷ turn_request p.request p.joined ∷ joined_answer c.any c.answers
    ∷ evaluation c.request c.any
    ∷ or_of (p.leave ∷ c.latched) ∷ leave_latch c.request c.guards
    ∷ (latches c.request c.guards ++ starts c.latched c.guards)
