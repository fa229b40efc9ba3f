-- Two spots of a part are two of the whole.
use Rattle.std.proofs.Common.{◌≢◌, ℕ, Bool, ap}
use Rattle.chp_base.specs.declared.span.Span.{Span}
use Rattle.width_check.specs.Processes.{Formula, Process, assigning, sending, receiving, in_turn, side_by_side, choosing, repeating, Processes, no_members, and_member, Choices}
use Rattle.circuit_places.specs.Circuit.{SiteSpot, PortSpot, GuardedSpot, inner, Spot, of_assign, of_send, of_receive, in_members, of_branch, in_body, of_choice, ChoiceSpot, BranchSpot, in_this, in_others, TurnSpot, in_last, in_member, in_later}

-- the part of a spot, or this one where it has none
abbrev inside : {p : Process} → Spot p → GuardedSpot p → Spot p
inside d (inner s) = s
inside d _ = d

pub inner_apart : {p : Process} {s q : Spot p} → s ≢ q → inner s ≢ inner q
inner_apart {s = s} ne e = ne (ap (inside s) e)

abbrev assigned : {x : ℕ} {at : Span} {e : Formula} → Spot (assigning x at e) → SiteSpot e
assigned (of_assign s) = s

pub assign_apart : {x : ℕ} {at : Span} {e : Formula} {s q : SiteSpot e} → s ≢ q → of_assign {x = x} {at = at} s ≢ of_assign q
assign_apart ne e = ne (ap assigned e)

abbrev sent : {c : ℕ} {at : Span} {e : Formula} → Spot (sending c at e) → SiteSpot e
sent (of_send s) = s

pub send_apart : {c : ℕ} {at : Span} {e : Formula} {s q : SiteSpot e} → s ≢ q → of_send {chan = c} {at = at} s ≢ of_send q
send_apart ne e = ne (ap sent e)

abbrev received : {c x : ℕ} {at to : Span} → Spot (receiving c at x to) → PortSpot
received (of_receive s) = s

pub receive_apart : {c x : ℕ} {at to : Span} {s q : PortSpot} → s ≢ q → of_receive {chan = c} {x = x} {at = at} {to = to} s ≢ of_receive q
receive_apart ne e = ne (ap received e)

abbrev member_of : {ms : Processes} → Spot (in_turn ms) → TurnSpot ms
member_of (in_members s) = s

pub members_apart : {ms : Processes} {s q : TurnSpot ms} → s ≢ q → in_members s ≢ in_members q
members_apart ne e = ne (ap member_of e)

abbrev branch_of : {ms : Processes} → BranchSpot ms → Spot (side_by_side ms) → BranchSpot ms
branch_of d (of_branch s) = s
branch_of d _ = d

pub branch_apart : {ms : Processes} {s q : BranchSpot ms} → s ≢ q → of_branch s ≢ of_branch q
branch_apart {s = s} ne e = ne (ap (branch_of s) e)

abbrev body_of : {p : Process} → Spot p → Spot (repeating p) → Spot p
body_of d (in_body s) = s
body_of d _ = d

pub body_apart : {p : Process} {s q : Spot p} → s ≢ q → in_body s ≢ in_body q
body_apart {s = s} ne e = ne (ap (body_of s) e)

abbrev choice_of : {again : Bool} {cs : Choices} → ChoiceSpot cs → Spot (choosing again cs) → ChoiceSpot cs
choice_of d (of_choice s) = s
choice_of d _ = d

pub choice_apart : {again : Bool} {cs : Choices} {s q : ChoiceSpot cs} → s ≢ q → of_choice {again = again} s ≢ of_choice q
choice_apart {s = s} ne e = ne (ap (choice_of s) e)

abbrev this_of : {p : Process} {more : Processes} → GuardedSpot p → BranchSpot (and_member p more) → GuardedSpot p
this_of d (in_this s) = s
this_of d (in_others s) = d

pub this_apart : {p : Process} {more : Processes} {s q : GuardedSpot p} → s ≢ q → in_this {more = more} s ≢ in_this q
this_apart {s = s} ne e = ne (ap (this_of s) e)

abbrev others_of : {p : Process} {more : Processes} → BranchSpot more → BranchSpot (and_member p more) → BranchSpot more
others_of d (in_this s) = d
others_of d (in_others s) = s

pub others_apart : {p : Process} {more : Processes} {s q : BranchSpot more} → s ≢ q → in_others {p = p} s ≢ in_others q
others_apart {s = s} ne e = ne (ap (others_of s) e)

abbrev last_of : {p : Process} → TurnSpot (and_member p no_members) → Spot p
last_of (in_last s) = s

pub last_apart : {p : Process} {s q : Spot p} → s ≢ q → in_last s ≢ in_last q
last_apart ne e = ne (ap last_of e)

abbrev first_of : {p q : Process} {more : Processes} → GuardedSpot p → TurnSpot (and_member p (and_member q more)) → GuardedSpot p
first_of d (in_member s) = s
first_of d (in_later s) = d

pub member_apart : {p r : Process} {more : Processes} {s q : GuardedSpot p} → s ≢ q → in_member {q = r} {more = more} s ≢ in_member q
member_apart {s = s} ne e = ne (ap (first_of s) e)

abbrev later_of : {p q : Process} {more : Processes} → TurnSpot (and_member q more) → TurnSpot (and_member p (and_member q more)) → TurnSpot (and_member q more)
later_of d (in_member s) = d
later_of d (in_later s) = s

pub later_apart : {p r : Process} {more : Processes} {s q : TurnSpot (and_member r more)} → s ≢ q → in_later {p = p} s ≢ in_later q
later_apart {s = s} ne e = ne (ap (later_of s) e)
