-- Sequences, member by member.
use Rattle.std.proofs.Common.{◌≡◌, ℕ, ◌+◌, ◌<◌, ◌≤◌, List, ◌++◌, length, get_or, drop, refl, ap, ◌∙◌, subst, arith, length-drop}
use Rattle.std.specs.declared.alloc.Global.{Global}
use Rattle.std.specs.declared.vec.Vec.{Vec}
use Rattle.chp_base.specs.declared.channel.Channel.{Channel}
use Rattle.width_check.specs.declared.typed.Var.{Var}
use Rattle.width_check.specs.declared.typed.TStmt.{TStmt, Then}
use Rattle.width_check.specs.Typing.{IsProcess, AreProcesses}
use Rattle.width_check.specs.Processes.{Process, in_turn, Processes, no_members, and_member, member_count, TypedProgram}
use Rattle.width_check.specs.View.{process_of, members_in}
use Rattle.handshake_expand.specs.Layout.{size_of, turn_size}
use Rattle.handshake_expand.specs.Answers.{answer_of, turn_answer}
use Rattle.handshake_expand.specs.PartTree.{no_children, and_child, expanded, expanded_in_turn}
use Rattle.handshake_expand.specs.Sites.{Sites, sites_in, sites_in_turn}
use Rattle.handshake_expand.proofs.Rows.{then_is, member_at, no_more_members, members_counted}

-- a member behind which others stand
pub turn_size_more : (p : TypedProgram) (s : Process) (more : Processes) → 0 < member_count more →
    turn_size p (and_member s more) ≡ 3 + size_of p s + turn_size p more
turn_size_more p s no_members some = absurd (omega arith)
turn_size_more p s (and_member t more) some = refl

pub turn_answer_more : (p : TypedProgram) (s : Process) (more : Processes) (from : ℕ) → 0 < member_count more →
    turn_answer p (and_member s more) from ≡ turn_answer p more (from + 3 + size_of p s)
turn_answer_more p s no_members from some = absurd (omega arith)
turn_answer_more p s (and_member t more) from some = refl

pub turn_expanded_more : (p : TypedProgram) (s : Process) (more : Processes) (request from : ℕ) → 0 < member_count more
    → expanded_in_turn p (and_member s more) request from ≡ and_child (expanded p s from (from + 3))
    (expanded_in_turn p more (from + 2) (from + 3 + size_of p s))
turn_expanded_more p s no_members request from some = absurd (omega arith)
turn_expanded_more p s (and_member t more) request from some = refl

pub turn_sites_more : {A : Type 0} (p : TypedProgram) (site : Sites A) (s : Process) (more : Processes) (from : ℕ) → 0 < member_count more
    → sites_in_turn p site (and_member s more) from ≡ sites_in p site s (from + 3) ++ sites_in_turn p site more (from + 3 + size_of p s)
turn_sites_more p site s no_members from some = absurd (omega arith)
turn_sites_more p site s (and_member t more) from some = refl

-- behind a place that isn't the last there are members
pub some_behind : (ss : List TStmt) (i : ℕ) → i + 1 < length ss → 0 < member_count (members_in (drop (i + 1) ss))
some_behind ss i within = omega (arith, members_counted (drop (i + 1) ss), length-drop (i + 1) ss, within)

-- the last member stands alone
pub last_alone : (ss : List TStmt) (i : ℕ) (s : TStmt) → i + 1 ≡ length ss → s ≡ get_or ss i s → members_in (drop i ss) ≡ and_member (process_of s) no_members
last_alone ss i s end is =
    member_at ss i s (omega (arith, end)) is ∙ ap (and_member (process_of s)) (no_more_members ss (i + 1) (omega (arith, end)))

-- what is known of a sequence that is typed
pub turn_typed : (channels : List Channel) (vars : List Var) (s : TStmt) (v : Vec TStmt Global) → s ≡ Then v → IsProcess channels vars (process_of s)
    → (2 ≤ length v.items) × AreProcesses channels vars (members_in v.items)
turn_typed channels vars s v is h =
    let facts : IsProcess channels vars (in_turn (members_in v.items)) = subst (IsProcess channels vars) (then_is s v is) h in
    (omega (arith, facts.0, members_counted v.items), facts.1)

-- a member that isn't the last, and the last one
module _ (channels : List Channel) (vars : List Var) (ss : List TStmt) (i : ℕ) (s : TStmt) (is : s ≡ get_or ss i s) where
  pub this_typed : i < length ss → AreProcesses channels vars (members_in (drop i ss)) →
      IsProcess channels vars (process_of s) × AreProcesses channels vars (members_in (drop (i + 1) ss))
  this_typed within h = subst (AreProcesses channels vars) (member_at ss i s within is) h

module _ (p : TypedProgram) (ss : List TStmt) (i : ℕ) (s : TStmt) (is : s ≡ get_or ss i s) where
  pub size_here : i + 1 < length ss → turn_size p (members_in (drop i ss)) ≡ 3 + size_of p (process_of s) + turn_size p (members_in (drop (i + 1) ss))
  size_here within = ap (turn_size p) (member_at ss i s (omega (arith, within)) is)
      ∙ turn_size_more p (process_of s) (members_in (drop (i + 1) ss)) (some_behind ss i within)

  pub size_last : i + 1 ≡ length ss → turn_size p (members_in (drop i ss)) ≡ size_of p (process_of s)
  size_last end = ap (turn_size p) (last_alone ss i s end is)

  pub answer_here : (from : ℕ) → i + 1 < length ss →
      turn_answer p (members_in (drop i ss)) from ≡ turn_answer p (members_in (drop (i + 1) ss)) (from + 3 + size_of p (process_of s))
  answer_here from within =
      ap (λ ms. turn_answer p ms from) (member_at ss i s (omega (arith, within)) is)
      ∙ turn_answer_more p (process_of s) (members_in (drop (i + 1) ss)) from (some_behind ss i within)

  pub answer_last : (from : ℕ) → i + 1 ≡ length ss → turn_answer p (members_in (drop i ss)) from ≡ answer_of p (process_of s) from
  answer_last from end = ap (λ ms. turn_answer p ms from) (last_alone ss i s end is)

  pub expanded_here : (request from : ℕ) → i + 1 < length ss
      → expanded_in_turn p (members_in (drop i ss)) request from ≡ and_child (expanded p (process_of s) from (from + 3))
      (expanded_in_turn p (members_in (drop (i + 1) ss)) (from + 2) (from + 3 + size_of p (process_of s)))
  expanded_here request from within =
      ap (λ ms. expanded_in_turn p ms request from) (member_at ss i s (omega (arith, within)) is)
      ∙ turn_expanded_more p (process_of s) (members_in (drop (i + 1) ss)) request from (some_behind ss i within)

  pub expanded_last : (request from : ℕ) → i + 1 ≡ length ss →
      expanded_in_turn p (members_in (drop i ss)) request from ≡ and_child (expanded p (process_of s) request from) no_children
  expanded_last request from end = ap (λ ms. expanded_in_turn p ms request from) (last_alone ss i s end is)

  pub sites_here : {A : Type 0} (site : Sites A) (from : ℕ) → i + 1 < length ss
      → sites_in_turn p site (members_in (drop i ss)) from ≡ sites_in p site (process_of s) (from + 3)
      ++ sites_in_turn p site (members_in (drop (i + 1) ss)) (from + 3 + size_of p (process_of s))
  sites_here site from within =
      ap (λ ms. sites_in_turn p site ms from) (member_at ss i s (omega (arith, within)) is)
      ∙ turn_sites_more p site (process_of s) (members_in (drop (i + 1) ss)) from (some_behind ss i within)

  pub sites_last : {A : Type 0} (site : Sites A) (from : ℕ) → i + 1 ≡ length ss →
      sites_in_turn p site (members_in (drop i ss)) from ≡ sites_in p site (process_of s) from
  sites_last site from end = ap (λ ms. sites_in_turn p site ms from) (last_alone ss i s end is)
