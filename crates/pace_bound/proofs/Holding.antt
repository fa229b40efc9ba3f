-- Contexts that are saturated: what is said in them is the same but for what saturates; and what members of a sequence say.
use Rattle.std.proofs.Common.{◌≡◌, ◌≢◌, ℕ, suc, ◌+◌, ◌*◌, ◌-◌, ◌<◌, ◌≤◌, Bool, true, false, List, length, drop, get_or, refl, sym, ap, ◌∙◌, ◌⊎◌, inl, inr, arith}
use Rattle.std.specs.Prelude.{max, ◌==◌, if◌then◌else◌}
use Rattle.std.proofs.lemmas.Bool.{cases_lt}
use Rattle.width_check.specs.declared.typed.TStmt.{TStmt}
use Rattle.width_check.specs.Processes.{Process, skipping, assigning, sending, receiving, in_turn, side_by_side, choosing, repeating, Processes, no_members, and_member, member_count, Choices, no_choices, and_choice, TypedProgram}
use Rattle.width_check.specs.Reads.{reads}
use Rattle.width_check.specs.Typing.{kind_at}
use Rattle.width_check.specs.View.{process_of, members_in}
use Rattle.handshake_expand.specs.Layout.{capped}
use Rattle.handshake_expand.proofs.Rows.{member_at, no_more_members}
use Rattle.handshake_expand.proofs.Turns.{some_behind, last_alone}
use Rattle.round_time.specs.Longest.{depth, guards_depth, var_height, turn_first, over_sites, over_turn, over_each, over_choices, send_holds, rails_fall, assign_holds, write_holds, receive_clears, low, turn_low, choice_low}
use Rattle.round_time.specs.Phases.{InContext, over_statements, turn_statements, each_statements, choice_statements, branch_down, acked_at, written, written_at, taken_at, rails_left, pass_at, put_at, skip_at, turn_at, choices_first}
use Rattle.pace_bound.specs.declared.mark.Noted.{Noted}
use Rattle.pace_bound.specs.declared.mark.Noted.TheVariants.{Sends, Writes, Receives, Acks, Stores, Takes, Passes, Puts, Skips, Turns}
use Rattle.pace_bound.specs.Noting.{at_site, of_step}
use Rattle.pace_bound.proofs.Ending.{two_capped, same_capped}
use Rattle.pace_bound.proofs.Halved.{both_same}

if_capped : (b : Bool) (x y : ℕ) → capped x ≡ capped y → capped (if b then x else 0) ≡ capped (if b then y else 0)
if_capped true x y h = h
if_capped false x y h = refl

max_capped : (a x y : ℕ) → capped x ≡ capped y → capped (max a x) ≡ capped (max a y)
max_capped a x y h = omega arith

both_capped : (a b x y : ℕ) → capped a ≡ capped b → capped x ≡ capped y → capped (max a x) ≡ capped (max b y)
both_capped a b x y g h = omega arith

one_more : (x y : ℕ) → capped x ≡ capped y → capped (suc x) ≡ capped (suc y)
one_more x y h = omega arith

-- so many moves more
later : (f : ℕ → ℕ) (h n : ℕ) → ((m : ℕ) → capped (f (capped m)) ≡ capped (f m)) → capped (f (capped h + n)) ≡ capped (f (h + n))
later f h n is =
    let same : capped (capped h + n) ≡ capped (h + n) = omega arith in sym (is (capped h + n)) ∙ (ap (λ m. capped (f m)) same ∙ is (h + n))

-- what saturates in the context of a statement makes no difference to what is said of it, but for what saturates
abbrev pub Saturates : InContext → Type 0
Saturates f = (h i d e : ℕ) (p : Process) → capped h ≡ capped i → capped d ≡ capped e → capped (f h d p) ≡ capped (f i e p)

abbrev SiteSaturates : (Process → ℕ → ℕ) → Type 0
SiteSaturates f = (h i : ℕ) (p : Process) → capped h ≡ capped i → capped (f p h) ≡ capped (f p i)

assign_capped : (b : Bool) (h i e : ℕ) → capped h ≡ capped i → capped (assign_holds b h e) ≡ capped (assign_holds b i e)
assign_capped true h i e a = omega arith
assign_capped false h i e a = omega arith

send_saturates : (k : ℕ) → SiteSaturates (send_holds k)
send_saturates k h i (sending c at x) a = if_capped (c == k) (h + depth x + 2) (i + depth x + 2) (omega arith)
send_saturates k h i p a = refl

write_saturates : (P : TypedProgram) (k : ℕ) → SiteSaturates (write_holds P k)
write_saturates P k h i (assigning x at e) a =
    if_capped (x == k) (assign_holds (reads x e) h (depth e)) (assign_holds (reads x e) i (depth e)) (assign_capped (reads x e) h i (depth e) a)
write_saturates P k h i (receiving c at x to) a =
    if_capped (x == k) (max (rails_fall P (kind_at P.channels c) c) (h + 1) + 2) (max (rails_fall P (kind_at P.channels c) c) (i + 1) + 2) (omega arith)
write_saturates P k h i p a = refl

receive_saturates : (P : TypedProgram) (k : ℕ) → SiteSaturates (receive_clears P k)
receive_saturates P k h i (receiving c at x to) a = refl
receive_saturates P k h i p a = refl

acked_saturates : (k : ℕ) → Saturates (acked_at k)
acked_saturates k h i d e (sending c at x) a b = if_capped (c == k) (suc d) (suc e) (omega arith)
acked_saturates k h i d e (receiving c at x to) a b = if_capped (c == k) (suc d) (suc e) (omega arith)
acked_saturates k h i d e p a b = refl

written_saturates : (P : TypedProgram) (k : ℕ) → Saturates (written_at P k)
written_saturates P k h i d e (assigning x at y) a b = if_capped (x == k) (suc d) (suc e) (omega arith)
written_saturates P k h i d e p a b = refl

taken_saturates : (P : TypedProgram) (k : ℕ) → Saturates (taken_at P k)
taken_saturates P k h i d e (receiving c at x to) a b = refl
taken_saturates P k h i d e p a b = refl

pass_saturates : (P : TypedProgram) (k : ℕ) → Saturates (pass_at P k)
pass_saturates P k h i d e (sending c at x) a b =
    let left = rails_left P (kind_at P.channels c) c in
    if_capped (c == k) (1 + (h + (depth x + left))) (1 + (i + (depth x + left))) (omega arith)
pass_saturates P k h i d e (receiving c at x to) a b =
    let left = 3 + var_height P x + written P x in
    if_capped (c == k) (1 + (h + left)) (1 + (i + left)) (omega arith)
pass_saturates P k h i d e p a b = refl

put_saturates : (P : TypedProgram) (k : ℕ) → Saturates (put_at P k)
put_saturates P k h i d e (assigning x at y) a b =
    let left = depth y + (2 + var_height P x + written P x) in
    if_capped (x == k) (1 + (h + left)) (1 + (i + left)) (omega arith)
put_saturates P k h i d e p a b = refl

skip_saturates : Saturates skip_at
skip_saturates h i d e skipping a b = omega arith
skip_saturates h i d e p a b = refl

turn_saturates : (P : TypedProgram) → Saturates (turn_at P)
turn_saturates P h i d e (choosing true cs) a b = latch_capped (guards_depth cs) (choices_first P cs)
  where
    latch_capped : (g n : ℕ) → capped (2 + (g + max n (h + 5 + d))) ≡ capped (2 + (g + max n (i + 5 + e)))
    latch_capped g n = omega arith
turn_saturates P h i d e p a b = refl

pub step_saturates : (P : TypedProgram) (noted : Noted) (k : ℕ) → Saturates (of_step P noted k)
step_saturates P Sends k h i d e p a b = send_saturates k h i p a
step_saturates P (Writes rails) k h i d e p a b = write_saturates P k h i p a
step_saturates P (Receives writes) k h i d e p a b = receive_saturates P k h i p a
step_saturates P Acks k h i d e p a b = acked_saturates k h i d e p a b
step_saturates P (Stores acks) k h i d e p a b = written_saturates P k h i d e p a b
step_saturates P (Takes stored) k h i d e p a b = taken_saturates P k h i d e p a b
step_saturates P (Passes lines) k h i d e p a b = pass_saturates P k h i d e p a b
step_saturates P (Puts stored) k h i d e p a b = put_saturates P k h i d e p a b
step_saturates P Skips k h i d e p a b = if_capped (0 == k) (skip_at h d p) (skip_at i e p) (skip_saturates h i d e p a b)
step_saturates P Turns k h i d e p a b = if_capped (0 == k) (turn_at P h d p) (turn_at P i e p) (turn_saturates P h i d e p a b)

-- over all statements of one
module _ (P : TypedProgram) (f : InContext) (says : Saturates f) where
  mutual
    pub statements_capped : Saturates (over_statements P f)
    statements_capped h i d e skipping a b = says h i d e skipping a b
    statements_capped h i d e (assigning x at y) a b = says h i d e (assigning x at y) a b
    statements_capped h i d e (sending c at x) a b = says h i d e (sending c at x) a b
    statements_capped h i d e (receiving c at x to) a b = says h i d e (receiving c at x to) a b
    statements_capped h i d e (in_turn ms) a b = turn_capped h i d e ms a b
    statements_capped h i d e (side_by_side ms) a b = each_capped (branch_down ms h d) (branch_down ms i e) ms (omega arith)
    statements_capped h i d e (choosing false cs) a b =
        both_capped _ _ _ _ (says h i d e (choosing false cs) a b) (choices_capped (h + 3) (i + 3) (1 + d) (1 + e) cs (omega arith) (omega arith))
    statements_capped h i d e (choosing true cs) a b = both_capped _ _ _ _ (says h i d e (choosing true cs) a b) refl
    statements_capped h i d e (repeating p) a b = refl

    turn_capped : (h i d e : ℕ) (ms : Processes) → capped h ≡ capped i → capped d ≡ capped e → capped (turn_statements P f h d ms) ≡
        capped (turn_statements P f i e ms)
    turn_capped h i d e no_members a b = refl
    turn_capped h i d e (and_member p no_members) a b = statements_capped h i d e p a b
    turn_capped h i d e (and_member p (and_member q more)) a b =
        max_capped _ (turn_statements P f (h + 2) d (and_member q more)) (turn_statements P f (i + 2) e (and_member q more))
        (turn_capped (h + 2) (i + 2) d e (and_member q more) (omega arith) b)

    pub each_capped : (d e : ℕ) (ms : Processes) → capped d ≡ capped e → capped (each_statements P f d ms) ≡ capped (each_statements P f e ms)
    each_capped d e no_members b = refl
    each_capped d e (and_member p more) b = both_capped _ _ _ _ (statements_capped 2 2 d e p refl b) (each_capped d e more b)

    pub choices_capped : (h i d e : ℕ) (cs : Choices) → capped h ≡ capped i → capped d ≡ capped e → capped (choice_statements P f h d cs) ≡
        capped (choice_statements P f i e cs)
    choices_capped h i d e no_choices a b = refl
    choices_capped h i d e (and_choice g p more) a b = both_capped _ _ _ _ (statements_capped h i d e p a b) (choices_capped h i d e more a b)

  -- a member of a sequence, and those behind it
  pub turn_step : (h d its down i : ℕ) (ss : List TStmt) (s : TStmt) → i < length ss → s ≡ get_or ss i s → (i + 1 ≡ length ss → its ≡ capped (h + 2 * i))
      → (i + 1 ≡ length ss → down ≡ d) → (i + 1 ≢ length ss → its ≡ 2)
      → (i + 1 ≢ length ss → down ≡ capped (1 + (turn_first P (members_in (drop (i + 1) ss)) - 1)))
      → capped (turn_statements P f (h + 2 * i) d (members_in (drop i ss))) ≡
      max (capped (over_statements P f its down (process_of s))) (capped (turn_statements P f (h + 2 * (i + 1)) d (members_in (drop (i + 1) ss))))
  turn_step h d its down i ss s inside is last_held last_down other_held other_down = by (cases_lt (i + 1) (length ss))
    where
      here : Process
      here = process_of s

      later : Processes
      later = members_in (drop (i + 1) ss)

      more : (n : ℕ) (ms : Processes) → 0 < member_count ms → turn_statements P f n d (and_member here ms) ≡
          max (over_statements P f 2 (1 + (turn_first P ms - 1)) here) (turn_statements P f (n + 2) d ms)
      more n no_members some = absurd (omega arith)
      more n (and_member q ms) some = refl

      none : (a : ℕ) → capped a ≡ max (capped a) (capped 0)
      none a = omega arith

      next : h + 2 * i + 2 ≡ h + 2 * (i + 1)
      next = omega arith

      rest : ℕ
      rest = capped (turn_statements P f (h + 2 * (i + 1)) d later)

      by : (i + 1 < length ss) ⊎ (length ss ≤ i + 1) → capped (turn_statements P f (h + 2 * i) d (members_in (drop i ss))) ≡
          max (capped (over_statements P f its down here)) rest
      by (inl l) =
          let other : i + 1 ≢ length ss = λ e. absurd (omega arith) in
          let follows = 1 + (turn_first P later - 1) in
          ap (λ m. capped (turn_statements P f (h + 2 * i) d m)) (member_at ss i s inside is)
          ∙ (ap capped (more (h + 2 * i) later (some_behind ss i l))
          ∙ (two_capped (over_statements P f 2 follows here) (turn_statements P f (h + 2 * i + 2) d later)
          ∙ (ap (λ n. max (capped (over_statements P f 2 follows here)) (capped (turn_statements P f n d later))) next
          ∙ (ap (λ x. max x rest) (statements_capped 2 2 follows down here refl (sym (same_capped down follows (other_down other))))
          ∙ ap (λ n. max (capped (over_statements P f n down here)) rest) (sym (other_held other))))))
      by (inr le) =
          let e : i + 1 ≡ length ss = omega arith in
          ap (λ m. capped (turn_statements P f (h + 2 * i) d m)) (last_alone ss i s e is)
          ∙ (statements_capped (h + 2 * i) its d down here (sym (same_capped its (h + 2 * i) (last_held e))) (ap capped (sym (last_down e)))
          ∙ (none (over_statements P f its down here)
          ∙ ap (λ m. max (capped (over_statements P f its down here)) (capped (turn_statements P f (h + 2 * (i + 1)) d m)))
          (sym (no_more_members ss (i + 1) (omega (arith, e))))))

  -- a selection itself, and its branches
  pub choosing_statements : (again : Bool) (cs : Choices) (h d : ℕ) → over_statements P f h d (choosing again cs) ≡
      max (f h d (choosing again cs))
      (choice_statements P f (if again then 4 else (h + 3)) (if again then (3 + guards_depth cs) else (1 + d)) cs)
  choosing_statements true cs h d = refl
  choosing_statements false cs h d = refl

beside_none : (a b c : ℕ) → a ≡ 0 → b ≡ c → max a b ≡ c
beside_none a b c h g = omega arith

-- where nothing is said of selections, and nothing depends on what follows the falls of answers
module _ (P : TypedProgram) (f : Process → ℕ → ℕ) (none : (again : Bool) (cs : Choices) (h : ℕ) → f (choosing again cs) h ≡ 0) where
  mutual
    pub sites_are : (h d : ℕ) (p : Process) → over_statements P (at_site f) h d p ≡ over_sites f h p
    sites_are h d skipping = refl
    sites_are h d (assigning x at y) = refl
    sites_are h d (sending c at x) = refl
    sites_are h d (receiving c at x to) = refl
    sites_are h d (in_turn ms) = turn_sites h d ms
    sites_are h d (side_by_side ms) = each_sites (branch_down ms h d) ms
    sites_are h d (choosing false cs) = beside_none _ _ _ (none false cs h) (choice_sites (h + 3) (1 + d) cs)
    sites_are h d (choosing true cs) = beside_none _ _ _ (none true cs h) (choice_sites 4 (3 + guards_depth cs) cs)
    sites_are h d (repeating p) = sites_are 1 0 p

    turn_sites : (h d : ℕ) (ms : Processes) → turn_statements P (at_site f) h d ms ≡ over_turn f h ms
    turn_sites h d no_members = refl
    turn_sites h d (and_member p no_members) = sites_are h d p
    turn_sites h d (and_member p (and_member q more)) = both_same _ _ _ _ (sites_are 2 _ p) (turn_sites (h + 2) d (and_member q more))

    each_sites : (d : ℕ) (ms : Processes) → each_statements P (at_site f) d ms ≡ over_each f ms
    each_sites d no_members = refl
    each_sites d (and_member p more) = both_same _ _ _ _ (sites_are 2 d p) (each_sites d more)

    choice_sites : (h d : ℕ) (cs : Choices) → choice_statements P (at_site f) h d cs ≡ over_choices f h cs
    choice_sites h d no_choices = refl
    choice_sites h d (and_choice g p more) = both_same _ _ _ _ (sites_are h d p) (choice_sites h d more)

pub send_sites : (P : TypedProgram) (k h d : ℕ) (p : Process) → over_statements P (at_site (send_holds k)) h d p ≡ over_sites (send_holds k) h p
send_sites P k h d p = sites_are P (send_holds k) (λ b cs n. refl) h d p

pub write_sites : (P : TypedProgram) (k h d : ℕ) (p : Process) → over_statements P (at_site (write_holds P k)) h d p ≡ over_sites (write_holds P k) h p
write_sites P k h d p = sites_are P (write_holds P k) (λ b cs n. refl) h d p

pub receive_sites : (P : TypedProgram) (k h d : ℕ) (p : Process) → over_statements P (at_site (receive_clears P k)) h d p ≡ over_sites (receive_clears P k) h p
receive_sites P k h d p = sites_are P (receive_clears P k) (λ b cs n. refl) h d p

-- of what a statement takes until its answer is low
module _ (P : TypedProgram) where
  mutual
    pub low_capped : (p : Process) (h : ℕ) → capped (low P (capped h) p) ≡ capped (low P h p)
    low_capped skipping h = omega arith
    low_capped (assigning x at e) h = refl
    low_capped (sending c at e) h = refl
    low_capped (receiving c at x to) h = refl
    low_capped (in_turn ms) h = turn_low_capped ms h
    low_capped (side_by_side ms) h = omega arith
    low_capped (choosing false cs) h =
        one_more (choice_low P (capped h + 3) cs) (choice_low P (h + 3) cs) (later (λ m. choice_low P m cs) h 3 (λ m. choice_low_capped cs m))
    low_capped (choosing true cs) h = omega arith
    low_capped (repeating q) h = omega arith

    turn_low_capped : (ms : Processes) (h : ℕ) → capped (turn_low P (capped h) ms) ≡ capped (turn_low P h ms)
    turn_low_capped no_members h = omega arith
    turn_low_capped (and_member p no_members) h = low_capped p h
    turn_low_capped (and_member p (and_member q more)) h = later (λ m. turn_low P m (and_member q more)) h 2 (λ m. turn_low_capped (and_member q more) m)

    pub choice_low_capped : (cs : Choices) (h : ℕ) → capped (choice_low P (capped h) cs) ≡ capped (choice_low P h cs)
    choice_low_capped no_choices h = omega arith
    choice_low_capped (and_choice g p more) h = both_capped _ _ _ _ (low_capped p h) (choice_low_capped more h)
