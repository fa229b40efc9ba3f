-- Programs with calls, beside what they are with a copy of the body in place of each call; and how the nodes of the net
-- are numbered in which all calls of a procedure share one body.
use Rattle.std.specs.Prelude.{ℕ, ◌+◌, ◌-◌, ◌*◌, ◌==◌, Bool, true, false, if◌then◌else◌, List, [], ◌∷◌, ◌++◌, slice_index_or}
use Rattle.std.specs.List.{range_with_len}
use Rattle.prs_core.specs.Nets.{NodeRules}
use Rattle.prs_core.specs.Pairs.{no_rules}
use Rattle.prs_core.specs.Sites.{site_answer}
use Rattle.width_check.specs.Processes.{Formula, Process, skipping, assigning, sending, receiving, in_turn, side_by_side, choosing, repeating, Processes, no_members, and_member, member_count, Choices, no_choices, and_choice, choice_count, TypedProgram}
use Rattle.handshake_expand.specs.Layout.{guards_size, size_of}
use Rattle.handshake_expand.specs.Sites.{Sites, sites_in}
use Rattle.handshake_expand.specs.Answers.{answer_of, guards_from, bodies_from, select_own, again_own}
use Rattle.cell_sequence.specs.Sequence.{loop_request}
use Rattle.cell_parallel.specs.Trees.{tree_rules}
use Rattle.cell_select.specs.Selections.{Choosing, Repeating, select_rules, again_rules}
use Rattle.net_compose.specs.Translation.{q_rules, guard_pairs, guards_rules, rules_of}

-- a statement that may call procedures; an atom contains no other statement
mutual
  pub data Called : Type 0 where
    calling : (proc : ℕ) → Called
    atom : Process → Called
    turned : Calleds → Called
    abreast : Calleds → Called
    chosen : (again : Bool) → CalledChoices → Called
    looped : Called → Called

  pub data Calleds : Type 0 where
    no_calleds : Calleds
    and_called : Called → Calleds → Calleds

  pub data CalledChoices : Type 0 where
    no_called : CalledChoices
    or_called : Formula → Called → CalledChoices → CalledChoices

-- statements that contain no others
abbrev pub IsAtom : Process → Type 0
IsAtom skipping = Unit {0}
IsAtom (assigning x at e) = Unit {0}
IsAtom (sending chan at e) = Unit {0}
IsAtom (receiving chan chan_at x var_at) = Unit {0}
IsAtom (in_turn _) = ⊥
IsAtom (side_by_side _) = ⊥
IsAtom (choosing _ _) = ⊥
IsAtom (repeating _) = ⊥

-- what counts as an atom is one
abbrev mutual
  pub OfAtoms : Called → Type 0
  OfAtoms (calling q) = Unit {0}
  OfAtoms (atom s) = IsAtom s
  OfAtoms (turned members) = EachOfAtoms members
  OfAtoms (abreast members) = EachOfAtoms members
  OfAtoms (chosen again choices) = BranchesOfAtoms choices
  OfAtoms (looped s) = OfAtoms s

  pub EachOfAtoms : Calleds → Type 0
  EachOfAtoms no_calleds = Unit {0}
  EachOfAtoms (and_called s more) = OfAtoms s × EachOfAtoms more

  pub BranchesOfAtoms : CalledChoices → Type 0
  BranchesOfAtoms no_called = Unit {0}
  BranchesOfAtoms (or_called g s more) = OfAtoms s × BranchesOfAtoms more

-- with the bodies of the procedures
module _ (ps : List Process) where
  abbrev mutual
    pub inlined : Called → Process
    inlined (calling q) = slice_index_or ps q skipping
    inlined (atom s) = s
    inlined (turned members) = in_turn (inlined_each members)
    inlined (abreast members) = side_by_side (inlined_each members)
    inlined (chosen again choices) = choosing again (inlined_choices choices)
    inlined (looped s) = repeating (inlined s)

    pub inlined_each : Calleds → Processes
    inlined_each no_calleds = no_members
    inlined_each (and_called s more) = and_member (inlined s) (inlined_each more)

    pub inlined_choices : CalledChoices → Choices
    inlined_choices no_called = no_choices
    inlined_choices (or_called g s more) = and_choice g (inlined s) (inlined_choices more)

  -- a call has one node; p gives the widths of channels and variables
  module _ (p : TypedProgram) where
    abbrev mutual
      pub called_size : Called → ℕ
      called_size (calling q) = 1
      called_size (atom s) = size_of p s
      called_size (turned members) = called_turn_size members
      called_size (abreast members) = called_branches_size members + (member_count (inlined_each members) - 1)
      called_size (chosen false choices) =
          3 + 2 * choice_count (inlined_choices choices) + guards_size (inlined_choices choices)
          + called_bodies_size choices
      called_size (chosen true choices) =
          6 + 2 * choice_count (inlined_choices choices) + guards_size (inlined_choices choices)
          + called_bodies_size choices
      called_size (looped s) = 2 + called_size s

      pub called_turn_size : Calleds → ℕ
      called_turn_size no_calleds = 0
      called_turn_size (and_called s no_calleds) = called_size s
      called_turn_size (and_called s (and_called t more)) = 3 + called_size s + called_turn_size (and_called t more)

      pub called_branches_size : Calleds → ℕ
      called_branches_size no_calleds = 0
      called_branches_size (and_called s more) = 3 + called_size s + called_branches_size more

      pub called_bodies_size : CalledChoices → ℕ
      called_bodies_size no_called = 0
      called_bodies_size (or_called g s more) = called_size s + called_bodies_size more

    abbrev mutual
      pub called_answer : Called → (from : ℕ) → ℕ
      called_answer (calling q) from = from
      called_answer (atom s) from = answer_of p s from
      called_answer (turned members) from = called_turn_answer members from
      called_answer (abreast members) from = from + called_size (abreast members) - 1
      called_answer (chosen again choices) from = from
      called_answer (looped s) from = from

      pub called_turn_answer : Calleds → (from : ℕ) → ℕ
      called_turn_answer no_calleds from = from
      called_turn_answer (and_called s no_calleds) from = called_answer s from
      called_turn_answer (and_called s (and_called t more)) from =
          called_turn_answer (and_called t more) (from + 3 + called_size s)

    -- where the branches of a selection begin, and where their requests do
    abbrev pub called_bodies_from : CalledChoices → (own from : ℕ) → ℕ
    called_bodies_from choices own from = bodies_from (inlined_choices choices) own from

    abbrev pub called_starts_from : CalledChoices → (own from : ℕ) → ℕ
    called_starts_from choices own from = from + own + choice_count (inlined_choices choices)

    abbrev pub called_branch_answers : CalledChoices → (from : ℕ) → List ℕ
    called_branch_answers no_called from = []
    called_branch_answers (or_called g s more) from =
        called_answer s from ∷ called_branch_answers more (from + called_size s)

    abbrev pub called_ends : Calleds → (from : ℕ) → List ℕ
    called_ends no_calleds from = []
    called_ends (and_called s more) from = (from + 2) ∷ called_ends more (from + 3 + called_size s)

    abbrev pub called_choosing : CalledChoices → (request any own from : ℕ) → Choosing
    called_choosing choices request any own from = record {
      request = request;
      any = any;
      latched = range_with_len (from + own) (choice_count (inlined_choices choices));
      guards = guard_pairs (inlined_choices choices) (guards_from (inlined_choices choices) own from);
      answers = called_branch_answers choices (called_bodies_from choices own from);
    }

    abbrev pub called_repeating : CalledChoices → (request from : ℕ) → Repeating
    called_repeating choices request from = record {
      request = request;
      joined = from + 2;
      leave = from + 5;
      turn = called_choosing choices (from + 1) (from + 4) again_own from;
    }

    -- the rules of a statement's nodes in order, where d gives the answers of the bodies
    module _ (d : ℕ → ℕ) where
      abbrev mutual
        pub called_rules : Called → (request from : ℕ) → List NodeRules
        called_rules (calling q) request from = site_answer request (d q) ∷ []
        called_rules (atom s) request from = rules_of p s request from
        called_rules (turned members) request from = called_turn_rules members request from
        called_rules (abreast members) request from =
            called_branches_rules members request from
            ++ tree_rules (called_ends members from) (from + called_branches_size members)
        called_rules (chosen false choices) request from =
            select_rules (called_choosing choices request (from + 2) select_own from)
            ++ (guards_rules p (inlined_choices choices) (from + 1)
            (guards_from (inlined_choices choices) select_own from)
            ++ called_bodies_rules choices (called_starts_from choices select_own from)
            (called_bodies_from choices select_own from))
        called_rules (chosen true choices) request from =
            again_rules (called_repeating choices request from)
            ++ (guards_rules p (inlined_choices choices) (from + 3)
            (guards_from (inlined_choices choices) again_own from)
            ++ called_bodies_rules choices (called_starts_from choices again_own from)
            (called_bodies_from choices again_own from))
        called_rules (looped s) request from =
            no_rules ∷ loop_request request (called_answer s (from + 2)) ∷ called_rules s (from + 1) (from + 2)

        pub called_turn_rules : Calleds → (request from : ℕ) → List NodeRules
        called_turn_rules no_calleds request from = []
        called_turn_rules (and_called s no_calleds) request from = called_rules s request from
        called_turn_rules (and_called s (and_called t more)) request from =
            q_rules request (called_answer s (from + 3)) from
            ++ (called_rules s from (from + 3)
            ++ called_turn_rules (and_called t more) (from + 2) (from + 3 + called_size s))

        pub called_branches_rules : Calleds → (request from : ℕ) → List NodeRules
        called_branches_rules no_calleds request from = []
        called_branches_rules (and_called s more) request from =
            q_rules request (called_answer s (from + 3)) from
            ++ (called_rules s from (from + 3) ++ called_branches_rules more request (from + 3 + called_size s))

        pub called_bodies_rules : CalledChoices → (start from : ℕ) → List NodeRules
        called_bodies_rules no_called start from = []
        called_bodies_rules (or_called g s more) start from =
            called_rules s start from ++ called_bodies_rules more (start + 1) (from + called_size s)

    -- what its atoms contribute at their sites; a call contributes nothing here, since the body does
    module _ {A : Type 0} (site : Sites A) where
      abbrev mutual
        pub called_sites : Called → (from : ℕ) → List A
        called_sites (calling q) from = []
        called_sites (atom s) from = sites_in p site s from
        called_sites (turned members) from = called_turn_sites members from
        called_sites (abreast members) from = called_branch_sites members from
        called_sites (chosen false choices) from =
            called_body_sites choices (called_bodies_from choices select_own from)
        called_sites (chosen true choices) from =
            called_body_sites choices (called_bodies_from choices again_own from)
        called_sites (looped s) from = called_sites s (from + 2)

        pub called_turn_sites : Calleds → (from : ℕ) → List A
        called_turn_sites no_calleds from = []
        called_turn_sites (and_called s no_calleds) from = called_sites s from
        called_turn_sites (and_called s (and_called t more)) from =
            called_sites s (from + 3) ++ called_turn_sites (and_called t more) (from + 3 + called_size s)

        pub called_branch_sites : Calleds → (from : ℕ) → List A
        called_branch_sites no_calleds from = []
        called_branch_sites (and_called s more) from =
            called_sites s (from + 3) ++ called_branch_sites more (from + 3 + called_size s)

        pub called_body_sites : CalledChoices → (from : ℕ) → List A
        called_body_sites no_called from = []
        called_body_sites (or_called g s more) from =
            called_sites s from ++ called_body_sites more (from + called_size s)

    -- the requests of the calls of a procedure
    module _ (proc : ℕ) where
      abbrev mutual
        pub called_requests : Called → (request from : ℕ) → List ℕ
        called_requests (calling q) request from = if q == proc then request ∷ [] else []
        called_requests (atom s) request from = []
        called_requests (turned members) request from = called_turn_requests members request from
        called_requests (abreast members) request from = called_branch_requests members from
        called_requests (chosen false choices) request from =
            called_body_requests choices (called_starts_from choices select_own from)
            (called_bodies_from choices select_own from)
        called_requests (chosen true choices) request from =
            called_body_requests choices (called_starts_from choices again_own from)
            (called_bodies_from choices again_own from)
        called_requests (looped s) request from = called_requests s (from + 1) (from + 2)

        pub called_turn_requests : Calleds → (request from : ℕ) → List ℕ
        called_turn_requests no_calleds request from = []
        called_turn_requests (and_called s no_calleds) request from = called_requests s request from
        called_turn_requests (and_called s (and_called t more)) request from =
            called_requests s from (from + 3)
            ++ called_turn_requests (and_called t more) (from + 2) (from + 3 + called_size s)

        pub called_branch_requests : Calleds → (from : ℕ) → List ℕ
        called_branch_requests no_calleds from = []
        called_branch_requests (and_called s more) from =
            called_requests s from (from + 3) ++ called_branch_requests more (from + 3 + called_size s)

        pub called_body_requests : CalledChoices → (start from : ℕ) → List ℕ
        called_body_requests no_called start from = []
        called_body_requests (or_called g s more) start from =
            called_requests s start from ++ called_body_requests more (start + 1) (from + called_size s)
