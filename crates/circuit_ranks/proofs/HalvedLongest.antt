-- The `longest` of a program in halves is no greater than the program's own: so a net that keeps the time of the halves keeps the program's in twice
-- its `longest`.
--
-- P: the program; Q: the program in halves; N: how many variables the program has; n: the number of a statement's first hidden variable; h: a hidden
-- variable; x, y: variables of the program; held: as in `longest`; p, q, more: statements; t, u: that a statement is typed, and that it is in halves.
use Rattle.std.proofs.Common.{◌≡◌, ◌⊎◌, ℕ, zero, suc, ◌+◌, ◌-◌, ◌<◌, ◌≤◌, ◌==◌, Bool, true, false, List, [], ◌∷◌, ◌++◌, length, refl, sym, ap, ◌∙◌, inl, inr, arith, length-append}
use Rattle.std.specs.Prelude.{if◌then◌else◌, max}
use Rattle.std.proofs.Math.Nat.{le-max_left, le-max_right, max-le}
use Rattle.chp_base.specs.declared.span.Span.{Span}
use Rattle.chp_base.specs.declared.channel.Channel.{Channel}
use Rattle.chp_base.specs.declared.channel.Kind.{Kind}
use Rattle.chp_base.specs.declared.channel.Kind.TheVariants.{In, Out, Chan}
use Rattle.width_check.specs.declared.typed.Var.{Var}
use Rattle.width_check.specs.Processes.{Formula, Process, skipping, assigning, sending, receiving, in_turn, side_by_side, choosing, repeating, Processes, no_members, and_member, member_count, Choices, no_choices, and_choice, TypedProgram}
use Rattle.width_check.specs.Values.{width_of}
use Rattle.width_check.specs.Reads.{reads}
use Rattle.width_check.specs.Typing.{kind_at, var_width, IsProcess, AreProcesses, AreChoices}
use Rattle.chp_meaning.specs.Halves.{hidden_of, hidden_vars, hidden_in_each, hidden_in_choices, read_through, halved_assign, halved, halved_each, halved_choices, halved_program}
use Rattle.chp_meaning.proofs.HalvedTyping.{unread}
use Rattle.function_blocks.specs.Parts.{read_parts}
use Rattle.circuit_places.proofs.Flow.{not_both}
use Rattle.circuit_places.proofs.LineNames.{self_number, same_number}
use Rattle.round_time.specs.Longest.{greatest, depths, depth, guards_depth, tree_height, var_height, over_sites, over_turn, over_each, over_choices, send_holds, rails_fall, assign_holds, write_holds, writes_fall, receive_clears, channel_low, receive_first, assign_first, first, turn_first, each_first, low, turn_low, each_low, choice_low, within, turn_within, each_within, choice_within, longest}

-- ---- numbers
both_less : (a b c d : ℕ) → a ≤ c → b ≤ d → max a b ≤ max c d
both_less a b c d e f = max-le left right
  where
    left : a ≤ max c d
    left = let l = le-max_left c d in omega (arith, e, l)

    right : b ≤ max c d
    right = let l = le-max_right c d in omega (arith, f, l)

if_less : (s : Bool) (a b : ℕ) → a ≤ b → (if s then a else 0) ≤ (if s then b else 0)
if_less true a b e = e
if_less false a b e = omega arith

if_none : (s : Bool) (a : ℕ) → s ≡ false → (if s then a else 0) ≤ 0
if_none true a e = absurd (not_both e refl)
if_none false a e = omega arith

another : (a b : ℕ) → (a ≡ b → ⊥) → (a == b) ≡ false
another a b ne = by (a == b) refl
  where
    by : (s : Bool) → (a == b) ≡ s → s ≡ false
    by true e = absurd (ne (same_number a b e))
    by false e = refl

-- what is read back has gates of depth 1
ones_on : (before : List ℕ) → greatest before ≤ 1 → greatest (before ++ 1 ∷ []) ≤ 1
ones_on [] e = max-le one none
  where
    one : 1 ≤ 1
    one = omega arith

    none : 0 ≤ 1
    none = omega arith
ones_on (k ∷ before) e = max-le here (ones_on before (let l = le-max_right k (greatest before) in omega (arith, e, l)))
  where
    here : k ≤ 1
    here = let l = le-max_left k (greatest before) in omega (arith, e, l)

read_deep : (x i count : ℕ) (before : List ℕ) → greatest before ≤ 1 → greatest (depths before (read_parts x i count)) ≤ 1
read_deep x i zero before e = e
read_deep x i (suc count) before e = read_deep x (suc i) count (before ++ 1 ∷ []) (ones_on before e)

through_deep : (h : ℕ) (e : Formula) (at : Span) → depth (read_through h e at) ≤ 1
through_deep h e at = read_deep h 0 (width_of e - 1 + 1 - 0) [] (omega arith)

-- variables that are there before others
width_before : (vars vs : List Var) (x : ℕ) → x < length vars → var_width (vars ++ vs) x ≡ var_width vars x
width_before [] vs x l = absurd (omega (arith, l))
width_before (v ∷ vars) vs zero l = refl
width_before (v ∷ vars) vs (suc x) l = width_before vars vs x (omega (arith, l))

guards_same : (n : ℕ) (cs : Choices) → guards_depth (halved_choices n cs) ≡ guards_depth cs
guards_same n no_choices = refl
guards_same n (and_choice g p more) = ap (λ k. max (depth g) k) (guards_same (n + length (hidden_vars p)) more)

as_many : (n : ℕ) (ms : Processes) → member_count (halved_each n ms) ≡ member_count ms
as_many n no_members = refl
as_many n (and_member p more) = ap (λ k. suc k) (as_many (n + length (hidden_vars p)) more)

-- ---- what is greatest over all sites
module _ (channels : List Channel) (vars : List Var) (f g : Process → ℕ → ℕ) (skips : (held : ℕ) → f skipping held ≤ g skipping held)
    (assigns : (held n x : ℕ) (at : Span) (e : Formula) → IsProcess channels vars (assigning x at e) → length vars ≤ n
    → over_sites f held (halved n (assigning x at e)) ≤ g (assigning x at e) held)
    (sendings : (held k : ℕ) (at : Span) (e : Formula) → f (sending k at e) held ≤ g (sending k at e) held)
    (receivings : (held k : ℕ) (at : Span) (x : ℕ) (to : Span) → IsProcess channels vars (receiving k at x to)
    → f (receiving k at x to) held ≤ g (receiving k at x to) held) where
  mutual
    sites_less : (held n : ℕ) (p : Process) → IsProcess channels vars p → length vars ≤ n → over_sites f held (halved n p) ≤ over_sites g held p
    sites_less held n skipping t le = skips held
    sites_less held n (assigning x at e) t le = assigns held n x at e t le
    sites_less held n (sending k at e) t le = sendings held k at e
    sites_less held n (receiving k at x to) t le = receivings held k at x to t
    sites_less held n (in_turn ms) t le = turn_less held n ms t.1 le
    sites_less held n (side_by_side ms) t le = each_less n ms t.1 le
    sites_less held n (choosing false cs) t le = choices_less (held + 3) n cs t.2 le
    sites_less held n (choosing true cs) t le = choices_less 4 n cs t.2 le
    sites_less held n (repeating p) t le = sites_less 1 n p t le

    turn_less : (held n : ℕ) (ms : Processes) → AreProcesses channels vars ms → length vars ≤ n → over_turn f held (halved_each n ms) ≤ over_turn g held ms
    turn_less held n no_members t le = omega arith
    turn_less held n (and_member p no_members) t le = sites_less held n p t.0 le
    turn_less held n (and_member p (and_member q more)) t le =
        both_less (over_sites f 2 (halved n p)) (over_turn f (held + 2) (halved_each (n + length (hidden_vars p)) (and_member q more))) (over_sites g 2 p)
        (over_turn g (held + 2) (and_member q more)) (sites_less 2 n p t.0 le)
        (turn_less (held + 2) (n + length (hidden_vars p)) (and_member q more) t.1 (omega (arith, le)))

    each_less : (n : ℕ) (ms : Processes) → AreProcesses channels vars ms → length vars ≤ n → over_each f (halved_each n ms) ≤ over_each g ms
    each_less n no_members t le = omega arith
    each_less n (and_member p more) t le =
        both_less (over_sites f 2 (halved n p)) (over_each f (halved_each (n + length (hidden_vars p)) more)) (over_sites g 2 p) (over_each g more)
        (sites_less 2 n p t.0 le) (each_less (n + length (hidden_vars p)) more t.1 (omega (arith, le)))

    choices_less : (held n : ℕ) (cs : Choices) → AreChoices channels vars cs → length vars ≤ n
        → over_choices f held (halved_choices n cs) ≤ over_choices g held cs
    choices_less held n no_choices t le = omega arith
    choices_less held n (and_choice e p more) t le =
        both_less (over_sites f held (halved n p)) (over_choices f held (halved_choices (n + length (hidden_vars p)) more)) (over_sites g held p)
        (over_choices g held more) (sites_less held n p t.1 le) (choices_less held (n + length (hidden_vars p)) more t.2 (omega (arith, le)))

module _ (P : TypedProgram) (typed : IsProcess P.channels P.vars P.body) where
  old_height : (x : ℕ) → x < length P.vars → var_height (halved_program P) x ≡ var_height P x
  old_height x less = ap tree_height (width_before P.vars (hidden_vars P.body) x less)

  -- ---- channels
  sends_less : (c held n : ℕ) (p : Process) → IsProcess P.channels P.vars p → length P.vars ≤ n
      → over_sites (send_holds c) held (halved n p) ≤ over_sites (send_holds c) held p
  sends_less c = sites_less P.channels P.vars (send_holds c) (send_holds c) (λ held. omega arith) assigns (λ held k at e. omega arith)
      (λ held k at x to t. omega arith)
    where
      assigns : (held n x : ℕ) (at : Span) (e : Formula) → IsProcess P.channels P.vars (assigning x at e) → length P.vars ≤ n
          → over_sites (send_holds c) held (halved n (assigning x at e)) ≤ 0
      assigns held n x at e t le = by (reads x e)
        where
          by : (b : Bool) → over_sites (send_holds c) held (halved_assign b n x at e) ≤ 0
          by false = omega arith
          by true = omega arith

  rails_less : (kind : Kind) (c : ℕ) → rails_fall (halved_program P) kind c ≤ rails_fall P kind c
  rails_less In c = omega arith
  rails_less Out c = sends_less c 2 (length P.vars) P.body typed (omega arith)
  rails_less Chan c = sends_less c 2 (length P.vars) P.body typed (omega arith)

  -- ---- variables of the program
  writes_less : (x : ℕ) → x < length P.vars → (held n : ℕ) (p : Process) → IsProcess P.channels P.vars p → length P.vars ≤ n
      → over_sites (write_holds (halved_program P) x) held (halved n p) ≤ over_sites (write_holds P x) held p
  writes_less x less = sites_less P.channels P.vars (write_holds (halved_program P) x) (write_holds P x) (λ held. omega arith) assigns
      (λ held k at e. omega arith) receivings
    where
      assigns : (held n y : ℕ) (at : Span) (e : Formula) → IsProcess P.channels P.vars (assigning y at e) → length P.vars ≤ n
          → over_sites (write_holds (halved_program P) x) held (halved n (assigning y at e)) ≤ write_holds P x (assigning y at e) held
      assigns held n y at e t le = by (reads y e) refl
        where
          -- what is read back isn't the variable, so nor does the second half read its target
          back : assign_holds (reads y (read_through n e at)) (held + 2) (depth (read_through n e at)) ≤ held + 5
          back =
              let u : reads y (read_through n e at) ≡ false = another n y (λ same. let below = t.0 in omega (arith, same, below, le)) in
              let d = through_deep n e at in
              let z : assign_holds (reads y (read_through n e at)) (held + 2) (depth (read_through n e at))
              ≡ assign_holds false (held + 2) (depth (read_through n e at)) =
              ap (λ (b : Bool). assign_holds b (held + 2) (depth (read_through n e at))) u in
              omega (arith, d, z)

          by : (b : Bool) → reads y e ≡ b
              → over_sites (write_holds (halved_program P) x) held (halved_assign b n y at e) ≤ write_holds P x (assigning y at e) held
          by false plain = omega arith
          by true own =
              let a = if_none (n == x) (assign_holds (reads n e) 2 (depth e)) (another n x (λ same. omega (arith, same, less, le))) in
              let z : assign_holds (reads y e) held (depth e) ≡ held + 5 = ap (λ (b : Bool). assign_holds b held (depth e)) own in
              let b = if_less (y == x) (assign_holds (reads y (read_through n e at)) (held + 2) (depth (read_through n e at)))
              (assign_holds (reads y e) held (depth e)) (omega (arith, back, z)) in
              max-le (nothing a) b
            where
              nothing : (if n == x then assign_holds (reads n e) 2 (depth e) else 0) ≤ 0
                  → (if n == x then assign_holds (reads n e) 2 (depth e) else 0) ≤ write_holds P x (assigning y at e) held
              nothing a = omega (arith, a)

      receivings : (held k : ℕ) (at : Span) (y : ℕ) (to : Span) → IsProcess P.channels P.vars (receiving k at y to)
          → write_holds (halved_program P) x (receiving k at y to) held ≤ write_holds P x (receiving k at y to) held
      receivings held k at y to t =
          let r = rails_less (kind_at P.channels k) k in
          let m = both_less (rails_fall (halved_program P) (kind_at P.channels k) k) (held + 1) (rails_fall P (kind_at P.channels k) k) (held + 1) r
          (omega arith) in
          if_less (y == x) (max (rails_fall (halved_program P) (kind_at P.channels k) k) (held + 1) + 2)
          (max (rails_fall P (kind_at P.channels k) k) (held + 1) + 2) (omega (arith, m))

  falls_less : (x : ℕ) → x < length P.vars → writes_fall (halved_program P) x ≤ writes_fall P x
  falls_less x less = writes_less x less 2 (length P.vars) P.body typed (omega arith)

  clears_less : (c held n : ℕ) (p : Process) → IsProcess P.channels P.vars p → length P.vars ≤ n
      → over_sites (receive_clears (halved_program P) c) held (halved n p) ≤ over_sites (receive_clears P c) held p
  clears_less c = sites_less P.channels P.vars (receive_clears (halved_program P) c) (receive_clears P c) (λ held. omega arith) assigns
      (λ held k at e. omega arith) receivings
    where
      assigns : (held n x : ℕ) (at : Span) (e : Formula) → IsProcess P.channels P.vars (assigning x at e) → length P.vars ≤ n
          → over_sites (receive_clears (halved_program P) c) held (halved n (assigning x at e)) ≤ 0
      assigns held n x at e t le = by (reads x e)
        where
          by : (b : Bool) → over_sites (receive_clears (halved_program P) c) held (halved_assign b n x at e) ≤ 0
          by false = omega arith
          by true = omega arith

      receivings : (held k : ℕ) (at : Span) (x : ℕ) (to : Span) → IsProcess P.channels P.vars (receiving k at x to)
          → receive_clears (halved_program P) c (receiving k at x to) held ≤ receive_clears P c (receiving k at x to) held
      receivings held k at x to t =
          let w = falls_less x t.target in
          let h = old_height x t.target in
          if_less (k == c) (writes_fall (halved_program P) x + 4 + var_height (halved_program P) x) (writes_fall P x + 4 + var_height P x)
          (omega (arith, w, h))

  channel_less : (kind : Kind) (c : ℕ) → channel_low (halved_program P) kind c ≤ channel_low P kind c
  channel_less kind c =
      let r = rails_less kind c in
      both_less (rails_fall (halved_program P) kind c + 2) (over_sites (receive_clears (halved_program P) c) 2 (halved_program P).body)
      (rails_fall P kind c + 2) (over_sites (receive_clears P c) 2 P.body) (omega (arith, r)) (clears_less c 2 (length P.vars) P.body typed (omega arith))

  -- ---- from requests to steps
  -- the first half, and both
  half_first : (n x : ℕ) (at : Span) (e : Formula) → IsProcess P.channels P.vars (assigning x at e) → length P.vars ≤ n
      → width_of e ≡ var_width (P.vars ++ hidden_vars P.body) n → first (halved_program P) (assigning n at e) ≡ depth e + 4 + var_height P x
  half_first n x at e t le wide =
      let u : reads n e ≡ false = unread P.vars n e t.1.reads le in
      let h : var_height (halved_program P) n ≡ var_height P x = ap tree_height (sym wide ∙ t.1.agrees) in
      let z : first (halved_program P) (assigning n at e) ≡ assign_first false (depth e) (var_height (halved_program P) n) =
      ap (λ (b : Bool). assign_first b (depth e) (var_height (halved_program P) n)) u in
      omega (arith, h, z)

  back_first : (n x : ℕ) (at : Span) (e : Formula) → x < length P.vars → length P.vars ≤ n
      → first (halved_program P) (assigning x at (read_through n e at)) ≤ 5 + var_height P x
  back_first n x at e less le =
      let u : reads x (read_through n e at) ≡ false = another n x (λ same. omega (arith, same, less, le)) in
      let d = through_deep n e at in
      let h = old_height x less in
      let z : first (halved_program P) (assigning x at (read_through n e at))
      ≡ assign_first false (depth (read_through n e at)) (var_height (halved_program P) x) =
      ap (λ (b : Bool). assign_first b (depth (read_through n e at)) (var_height (halved_program P) x)) u in
      omega (arith, d, h, z)

  abbrev Typed : Process → Type 0
  Typed p = IsProcess P.channels (P.vars ++ hidden_vars P.body) p

  assign_less : (n x : ℕ) (at : Span) (e : Formula) → IsProcess P.channels P.vars (assigning x at e) → length P.vars ≤ n → (b : Bool) → reads x e ≡ b
      → Typed (halved_assign b n x at e) → first (halved_program P) (halved_assign b n x at e) ≤ first P (assigning x at e)
  assign_less n x at e t le false plain u =
      let h = old_height x t.0 in
      let z : assign_first (reads x e) (depth e) (var_height (halved_program P) x) ≡ assign_first (reads x e) (depth e) (var_height P x) =
      ap (λ (k : ℕ). assign_first (reads x e) (depth e) k) h in
      omega (arith, z)
  assign_less n x at e t le true own u =
      let a = half_first n x at e t le u.1.0.1.agrees in
      let z : first P (assigning x at e) ≡ assign_first true (depth e) (var_height P x) =
      ap (λ (b : Bool). assign_first b (depth e) (var_height P x)) own in
      omega (arith, a, z)

  mutual
    first_less : (n : ℕ) (p : Process) → IsProcess P.channels P.vars p → Typed (halved n p) → length P.vars ≤ n
        → first (halved_program P) (halved n p) ≤ first P p
    first_less n skipping t u le = omega arith
    first_less n (assigning x at e) t u le = assign_less n x at e t le (reads x e) refl u
    first_less n (sending k at e) t u le = omega arith
    first_less n (receiving k at x to) t u le =
        let z : receive_first (kind_at P.channels k) (var_height (halved_program P) x) ≡ receive_first (kind_at P.channels k) (var_height P x) =
        ap (λ (h : ℕ). receive_first (kind_at P.channels k) h) (old_height x t.target) in
        omega (arith, z)
    first_less n (in_turn ms) t u le = turn_first_less n ms t.1 u.1 le
    first_less n (side_by_side ms) t u le = let a = each_first_less n ms t.1 u.1 le in omega (arith, a)
    first_less n (choosing false cs) t u le = let e = guards_same n cs in omega (arith, e)
    first_less n (choosing true cs) t u le = let e = guards_same n cs in omega (arith, e)
    first_less n (repeating p) t u le = omega arith

    turn_first_less : (n : ℕ) (ms : Processes) → AreProcesses P.channels P.vars ms
        → AreProcesses P.channels (P.vars ++ hidden_vars P.body) (halved_each n ms) → length P.vars ≤ n
        → turn_first (halved_program P) (halved_each n ms) ≤ turn_first P ms
    turn_first_less n no_members t u le = omega arith
    turn_first_less n (and_member p no_members) t u le = first_less n p t.0 u.0 le
    turn_first_less n (and_member p (and_member q more)) t u le = let a = first_less n p t.0 u.0 le in omega (arith, a)

    each_first_less : (n : ℕ) (ms : Processes) → AreProcesses P.channels P.vars ms
        → AreProcesses P.channels (P.vars ++ hidden_vars P.body) (halved_each n ms) → length P.vars ≤ n
        → each_first (halved_program P) (halved_each n ms) ≤ each_first P ms
    each_first_less n no_members t u le = omega arith
    each_first_less n (and_member p more) t u le =
        both_less (first (halved_program P) (halved n p)) (each_first (halved_program P) (halved_each (n + length (hidden_vars p)) more)) (first P p)
        (each_first P more) (first_less n p t.0 u.0 le) (each_first_less (n + length (hidden_vars p)) more t.1 u.1 (omega (arith, le)))

  -- ---- from steps to the falls of answers
  mutual
    low_less : (held n : ℕ) (p : Process) → IsProcess P.channels P.vars p → length P.vars ≤ n → low (halved_program P) held (halved n p) ≤ low P held p
    low_less held n skipping t le = omega arith
    low_less held n (assigning x at e) t le = by (reads x e)
      where
        by : (b : Bool) → low (halved_program P) held (halved_assign b n x at e) ≤ writes_fall P x + 2 + var_height P x
        by false = let w = falls_less x t.0 in let h = old_height x t.0 in omega (arith, w, h)
        by true = let w = falls_less x t.0 in let h = old_height x t.0 in omega (arith, w, h)
    low_less held n (sending k at e) t le = channel_less (kind_at P.channels k) k
    low_less held n (receiving k at x to) t le = channel_less (kind_at P.channels k) k
    low_less held n (in_turn ms) t le = turn_low_less held n ms t.1 le
    low_less held n (side_by_side ms) t le =
        let a = each_low_less n ms t.1 le in
        let h : tree_height (member_count (halved_each n ms)) ≡ tree_height (member_count ms) = ap tree_height (as_many n ms) in
        omega (arith, a, h)
    low_less held n (choosing false cs) t le = let a = choice_low_less (held + 3) n cs t.2 le in omega (arith, a)
    low_less held n (choosing true cs) t le = let e = guards_same n cs in omega (arith, e)
    low_less held n (repeating p) t le = omega arith

    turn_low_less : (held n : ℕ) (ms : Processes) → AreProcesses P.channels P.vars ms → length P.vars ≤ n
        → turn_low (halved_program P) held (halved_each n ms) ≤ turn_low P held ms
    turn_low_less held n no_members t le = omega arith
    turn_low_less held n (and_member p no_members) t le = low_less held n p t.0 le
    turn_low_less held n (and_member p (and_member q more)) t le =
        turn_low_less (held + 2) (n + length (hidden_vars p)) (and_member q more) t.1 (omega (arith, le))

    each_low_less : (n : ℕ) (ms : Processes) → AreProcesses P.channels P.vars ms → length P.vars ≤ n
        → each_low (halved_program P) (halved_each n ms) ≤ each_low P ms
    each_low_less n no_members t le = omega arith
    each_low_less n (and_member p more) t le =
        both_less (low (halved_program P) 2 (halved n p)) (each_low (halved_program P) (halved_each (n + length (hidden_vars p)) more)) (low P 2 p)
        (each_low P more) (low_less 2 n p t.0 le) (each_low_less (n + length (hidden_vars p)) more t.1 (omega (arith, le)))

    choice_low_less : (held n : ℕ) (cs : Choices) → AreChoices P.channels P.vars cs → length P.vars ≤ n
        → choice_low (halved_program P) held (halved_choices n cs) ≤ choice_low P held cs
    choice_low_less held n no_choices t le = omega arith
    choice_low_less held n (and_choice g p more) t le =
        both_less (low (halved_program P) held (halved n p)) (choice_low (halved_program P) held (halved_choices (n + length (hidden_vars p)) more))
        (low P held p) (choice_low P held more) (low_less held n p t.1 le) (choice_low_less held (n + length (hidden_vars p)) more t.2 (omega (arith, le)))

  -- ---- how long hidden variables take to clear: only the statement of each writes it
  module _ (h : ℕ) (hides : length P.vars ≤ h) where
    abbrev Elsewhere : (n count : ℕ) → Type 0
    Elsewhere n count = (h < n) ⊎ (n + count ≤ h)

    of_left : (n a b : ℕ) → Elsewhere n (a + b) → Elsewhere n a
    of_left n a b (inl l) = inl l
    of_left n a b (inr l) = inr (omega (arith, l))

    of_right : (n a b : ℕ) → Elsewhere n (a + b) → Elsewhere (n + a) b
    of_right n a b (inl l) = inl (omega (arith, l))
    of_right n a b (inr l) = inr (omega (arith, l))

    counted : (n : ℕ) (xs ys : List Var) → Elsewhere n (length (xs ++ ys)) → Elsewhere n (length xs + length ys)
    counted n xs ys (inl l) = inl l
    counted n xs ys (inr l) = let e = length-append xs ys in inr (omega (arith, l, e))

    here_none : (x held : ℕ) (at : Span) (e : Formula) → (x ≡ h → ⊥) → write_holds (halved_program P) h (assigning x at e) held ≤ 0
    here_none x held at e ne = if_none (x == h) (assign_holds (reads x e) held (depth e)) (another x h ne)

    mutual
      none_held : (held n : ℕ) (p : Process) → IsProcess P.channels P.vars p → Elsewhere n (length (hidden_vars p))
          → over_sites (write_holds (halved_program P) h) held (halved n p) ≤ 0
      none_held held n skipping t w = omega arith
      none_held held n (assigning x at e) t w = by (reads x e) w
        where
          old : x ≡ h → ⊥
          old same = let below = t.0 in omega (arith, same, below, hides)

          away : (n < h) ⊎ (h < n) → n ≡ h → ⊥
          away (inl l) same = omega (arith, l, same)
          away (inr l) same = omega (arith, l, same)

          outside : Elsewhere n 1 → (n < h) ⊎ (h < n)
          outside (inl l) = inr l
          outside (inr l) = inl (omega (arith, l))

          by : (b : Bool) → Elsewhere n (length (hidden_of b e)) → over_sites (write_holds (halved_program P) h) held (halved_assign b n x at e) ≤ 0
          by false w = here_none x held at e old
          by true w = max-le (here_none n 2 at e (away (outside w))) (here_none x (held + 2) at (read_through n e at) old)
      none_held held n (sending k at e) t w = omega arith
      none_held held n (receiving k at x to) t w =
          if_none (x == h) (max (rails_fall (halved_program P) (kind_at P.channels k) k) (held + 1) + 2)
          (another x h (λ same. let below = t.target in omega (arith, same, below, hides)))
      none_held held n (in_turn ms) t w = turn_none held n ms t.1 w
      none_held held n (side_by_side ms) t w = each_none n ms t.1 w
      none_held held n (choosing false cs) t w = choices_none (held + 3) n cs t.2 w
      none_held held n (choosing true cs) t w = choices_none 4 n cs t.2 w
      none_held held n (repeating p) t w = none_held 1 n p t w

      turn_none : (held n : ℕ) (ms : Processes) → AreProcesses P.channels P.vars ms → Elsewhere n (length (hidden_in_each ms))
          → over_turn (write_holds (halved_program P) h) held (halved_each n ms) ≤ 0
      turn_none held n no_members t w = omega arith
      turn_none held n (and_member p no_members) t w =
          none_held held n p t.0 (of_left n (length (hidden_vars p)) 0 (counted n (hidden_vars p) [] w))
      turn_none held n (and_member p (and_member q more)) t w =
          let c = counted n (hidden_vars p) (hidden_in_each (and_member q more)) w in
          max-le (none_held 2 n p t.0 (of_left n (length (hidden_vars p)) (length (hidden_in_each (and_member q more))) c))
          (turn_none (held + 2) (n + length (hidden_vars p)) (and_member q more) t.1
          (of_right n (length (hidden_vars p)) (length (hidden_in_each (and_member q more))) c))

      each_none : (n : ℕ) (ms : Processes) → AreProcesses P.channels P.vars ms → Elsewhere n (length (hidden_in_each ms))
          → over_each (write_holds (halved_program P) h) (halved_each n ms) ≤ 0
      each_none n no_members t w = omega arith
      each_none n (and_member p more) t w =
          let c = counted n (hidden_vars p) (hidden_in_each more) w in
          max-le (none_held 2 n p t.0 (of_left n (length (hidden_vars p)) (length (hidden_in_each more)) c))
          (each_none (n + length (hidden_vars p)) more t.1 (of_right n (length (hidden_vars p)) (length (hidden_in_each more)) c))

      choices_none : (held n : ℕ) (cs : Choices) → AreChoices P.channels P.vars cs → Elsewhere n (length (hidden_in_choices cs))
          → over_choices (write_holds (halved_program P) h) held (halved_choices n cs) ≤ 0
      choices_none held n no_choices t w = omega arith
      choices_none held n (and_choice g p more) t w =
          let c = counted n (hidden_vars p) (hidden_in_choices more) w in
          max-le (none_held held n p t.1 (of_left n (length (hidden_vars p)) (length (hidden_in_choices more)) c))
          (choices_none held (n + length (hidden_vars p)) more t.2 (of_right n (length (hidden_vars p)) (length (hidden_in_choices more)) c))

  -- of two parts, a hidden variable of the one is written by nothing of the other
  left_own : (n count a b : ℕ) (f r : ℕ → ℕ) → ((h : ℕ) → n ≤ h → h < n + count → writes_fall (halved_program P) h ≤ max (f h) (r h)) → count ≡ a + b
      → ((h : ℕ) → n ≤ h → h < n + a → r h ≤ 0) → (h : ℕ) → n ≤ h → h < n + a → writes_fall (halved_program P) h ≤ f h
  left_own n count a b f r own e none h low less =
      let w = own h low (omega (arith, less, e)) in
      let z = none h low less in
      let m : max (f h) (r h) ≤ f h = max-le (omega arith) (omega (arith, z)) in
      omega (arith, w, m)

  right_own : (n count a b : ℕ) (f r : ℕ → ℕ) → ((h : ℕ) → n ≤ h → h < n + count → writes_fall (halved_program P) h ≤ max (f h) (r h)) → count ≡ a + b
      → ((h : ℕ) → n + a ≤ h → f h ≤ 0) → (h : ℕ) → n + a ≤ h → h < n + a + b → writes_fall (halved_program P) h ≤ r h
  right_own n count a b f r own e none h low less =
      let w = own h (omega (arith, low)) (omega (arith, less, e)) in
      let z = none h low in
      let m : max (f h) (r h) ≤ r h = max-le (omega (arith, z)) (omega arith) in
      omega (arith, w, m)

  -- ---- inside of statements
  module _ (L : ℕ) where
    abbrev Owned : (n count : ℕ) → (ℕ → ℕ) → Type 0
    Owned n count f = (h : ℕ) → n ≤ h → h < n + count → writes_fall (halved_program P) h ≤ f h

    halves_within : (held n x : ℕ) (at : Span) (e : Formula) → IsProcess P.channels P.vars (assigning x at e) → length P.vars ≤ n → (b : Bool)
        → reads x e ≡ b → Typed (halved_assign b n x at e) → first P (assigning x at e) ≤ L
        → Owned n (length (hidden_of b e)) (λ h. over_sites (write_holds (halved_program P) h) held (halved_assign b n x at e))
        → within (halved_program P) (halved_assign b n x at e) ≤ L
    halves_within held n x at e t le false plain u room own = omega arith
    halves_within held n x at e t le true reading u room own = max-le (omega arith) (max-le middle (omega arith))
      where
        clears : writes_fall (halved_program P) n ≤ 4 + depth e
        clears =
            let w = own n (omega arith) (omega arith) in
            let none = here_none n le x (held + 2) at (read_through n e at) (λ same. let below = t.0 in omega (arith, same, below, le)) in
            let v : reads n e ≡ false = unread P.vars n e t.1.reads le in
            let a : (if n == n then assign_holds (reads n e) 2 (depth e) else 0) ≡ assign_holds (reads n e) 2 (depth e) =
            ap (λ (b : Bool). if b then assign_holds (reads n e) 2 (depth e) else 0) (self_number n) in
            let b : assign_holds (reads n e) 2 (depth e) ≡ 2 + depth e + 2 = ap (λ (b : Bool). assign_holds b 2 (depth e)) v in
            let m : max (write_holds (halved_program P) n (assigning n at e) 2)
            (write_holds (halved_program P) n (assigning x at (read_through n e at)) (held + 2)) ≤ 4 + depth e =
            max-le (omega (arith, a, b)) (omega (arith, none)) in
            omega (arith, w, m)

        middle : low (halved_program P) 2 (assigning n at e) + 1 + first (halved_program P) (assigning x at (read_through n e at)) ≤ L
        middle =
            let h : var_height (halved_program P) n ≡ var_height P x = ap tree_height (sym u.1.0.1.agrees ∙ t.1.agrees) in
            let c = clears in
            let f = back_first n x at e t.0 le in
            let z : first P (assigning x at e) ≡ assign_first true (depth e) (var_height P x) =
            ap (λ (b : Bool). assign_first b (depth e) (var_height P x)) reading in
            omega (arith, h, c, f, z, room)

    mutual
      within_less : (held n : ℕ) (p : Process) → IsProcess P.channels P.vars p → Typed (halved n p) → length P.vars ≤ n → first P p ≤ L → within P p ≤ L
          → Owned n (length (hidden_vars p)) (λ h. over_sites (write_holds (halved_program P) h) held (halved n p))
          → within (halved_program P) (halved n p) ≤ L
      within_less held n skipping t u le f w own = omega arith
      within_less held n (assigning x at e) t u le f w own = halves_within held n x at e t le (reads x e) refl u f own
      within_less held n (sending k at e) t u le f w own = omega arith
      within_less held n (receiving k at x to) t u le f w own = omega arith
      within_less held n (in_turn ms) t u le f w own = turn_within_less held n ms t.1 u.1 le f w own
      within_less held n (side_by_side ms) t u le f w own = each_within_less n ms t.1 u.1 le (omega (arith, f)) w own
      within_less held n (choosing false cs) t u le f w own =
          choice_within_less (held + 3) n (3 + guards_depth (halved_choices n cs)) (3 + guards_depth cs) cs t.2 u.2 le
          (let e = guards_same n cs in omega (arith, e)) w own
      within_less held n (choosing true cs) t u le f w own = max-le
          (choice_within_less 4 n (3 + guards_depth (halved_choices n cs)) (3 + guards_depth cs) cs t.2 u.2 le
          (let e = guards_same n cs in omega (arith, e))
          (let l = le-max_left (choice_within P (3 + guards_depth cs) cs) (choice_low P 4 cs + 4 + guards_depth cs) in omega (arith, l, w)) own)
          joined
        where
          joined : choice_low (halved_program P) 4 (halved_choices n cs) + 4 + guards_depth (halved_choices n cs) ≤ L
          joined =
              let l = le-max_right (choice_within P (3 + guards_depth cs) cs) (choice_low P 4 cs + 4 + guards_depth cs) in
              let a = choice_low_less 4 n cs t.2 le in
              let e = guards_same n cs in
              omega (arith, l, w, a, e)
      within_less held n (repeating p) t u le f w own = max-le (within_less 1 n p t u le begins (omega (arith, a, w)) own) (max-le begin again)
        where
          a : within P p ≤ max (within P p) (max (first P p) (low P 1 p + 1))
          a = le-max_left (within P p) (max (first P p) (low P 1 p + 1))

          b : max (first P p) (low P 1 p + 1) ≤ max (within P p) (max (first P p) (low P 1 p + 1))
          b = le-max_right (within P p) (max (first P p) (low P 1 p + 1))

          begins : first P p ≤ L
          begins = let c = le-max_left (first P p) (low P 1 p + 1) in omega (arith, b, c, w)

          begin : first (halved_program P) (halved n p) ≤ L
          begin = let d = first_less n p t u le in omega (arith, d, begins)

          again : low (halved_program P) 1 (halved n p) + 1 ≤ L
          again = let c = le-max_right (first P p) (low P 1 p + 1) in let d = low_less 1 n p t le in omega (arith, b, c, d, w)

      turn_within_less : (held n : ℕ) (ms : Processes) → AreProcesses P.channels P.vars ms
          → AreProcesses P.channels (P.vars ++ hidden_vars P.body) (halved_each n ms) → length P.vars ≤ n → turn_first P ms ≤ L → turn_within P ms ≤ L
          → Owned n (length (hidden_in_each ms)) (λ h. over_turn (write_holds (halved_program P) h) held (halved_each n ms))
          → turn_within (halved_program P) (halved_each n ms) ≤ L
      turn_within_less held n no_members t u le f w own = omega arith
      turn_within_less held n (and_member p no_members) t u le f w own =
          within_less held n p t.0 u.0 le f w (λ h low less. own h low (let e = length-append (hidden_vars p) [] in omega (arith, less, e)))
      turn_within_less held n (and_member p (and_member q more)) t u le f w own = max-le
          (within_less 2 n p t.0 u.0 le (omega (arith, f)) a own_member)
          (max-le between (turn_within_less (held + 2) (n + length (hidden_vars p)) (and_member q more) t.1 u.1 (omega (arith, le)) (omega (arith, b)) c
          own_later))
        where
          count : length (hidden_in_each (and_member p (and_member q more)))
              ≡ length (hidden_vars p) + length (hidden_in_each (and_member q more))
          count = length-append (hidden_vars p) (hidden_in_each (and_member q more))

          a : within P p ≤ L
          a = let l = le-max_left (within P p) (max (low P 2 p + 1 + turn_first P (and_member q more)) (turn_within P (and_member q more))) in
              omega (arith, l, w)

          rest : max (low P 2 p + 1 + turn_first P (and_member q more)) (turn_within P (and_member q more)) ≤ L
          rest = let l = le-max_right (within P p) (max (low P 2 p + 1 + turn_first P (and_member q more)) (turn_within P (and_member q more))) in
              omega (arith, l, w)

          b : low P 2 p + 1 + turn_first P (and_member q more) ≤ L
          b = let l = le-max_left (low P 2 p + 1 + turn_first P (and_member q more)) (turn_within P (and_member q more)) in omega (arith, l, rest)

          c : turn_within P (and_member q more) ≤ L
          c = let l = le-max_right (low P 2 p + 1 + turn_first P (and_member q more)) (turn_within P (and_member q more)) in omega (arith, l, rest)

          own_member : Owned n (length (hidden_vars p)) (λ h. over_sites (write_holds (halved_program P) h) 2 (halved n p))
          own_member = left_own n (length (hidden_in_each (and_member p (and_member q more)))) (length (hidden_vars p))
              (length (hidden_in_each (and_member q more))) (λ h. over_sites (write_holds (halved_program P) h) 2 (halved n p))
              (λ h. over_turn (write_holds (halved_program P) h) (held + 2) (halved_each (n + length (hidden_vars p)) (and_member q more))) own count
              (λ h low less. turn_none h (omega (arith, low, le)) (held + 2) (n + length (hidden_vars p)) (and_member q more) t.1 (inl less))

          own_later : Owned (n + length (hidden_vars p)) (length (hidden_in_each (and_member q more)))
              (λ h. over_turn (write_holds (halved_program P) h) (held + 2) (halved_each (n + length (hidden_vars p)) (and_member q more)))
          own_later = right_own n (length (hidden_in_each (and_member p (and_member q more)))) (length (hidden_vars p))
              (length (hidden_in_each (and_member q more))) (λ h. over_sites (write_holds (halved_program P) h) 2 (halved n p))
              (λ h. over_turn (write_holds (halved_program P) h) (held + 2) (halved_each (n + length (hidden_vars p)) (and_member q more))) own count
              (λ h low. none_held h (omega (arith, low, le)) 2 n p t.0 (inr low))

          between : low (halved_program P) 2 (halved n p) + 1
              + turn_first (halved_program P) (halved_each (n + length (hidden_vars p)) (and_member q more)) ≤ L
          between =
              let d = low_less 2 n p t.0 le in
              let e = turn_first_less (n + length (hidden_vars p)) (and_member q more) t.1 u.1 (omega (arith, le)) in
              omega (arith, b, d, e)

      each_within_less : (n : ℕ) (ms : Processes) → AreProcesses P.channels P.vars ms
          → AreProcesses P.channels (P.vars ++ hidden_vars P.body) (halved_each n ms) → length P.vars ≤ n → each_first P ms ≤ L → each_within P ms ≤ L
          → Owned n (length (hidden_in_each ms)) (λ h. over_each (write_holds (halved_program P) h) (halved_each n ms))
          → each_within (halved_program P) (halved_each n ms) ≤ L
      each_within_less n no_members t u le f w own = omega arith
      each_within_less n (and_member p more) t u le f w own = max-le
          (within_less 2 n p t.0 u.0 le (let l = le-max_left (first P p) (each_first P more) in omega (arith, l, f))
          (let l = le-max_left (within P p) (each_within P more) in omega (arith, l, w)) own_here)
          (each_within_less (n + length (hidden_vars p)) more t.1 u.1 (omega (arith, le))
          (let l = le-max_right (first P p) (each_first P more) in omega (arith, l, f))
          (let l = le-max_right (within P p) (each_within P more) in omega (arith, l, w)) own_others)
        where
          count : length (hidden_in_each (and_member p more)) ≡ length (hidden_vars p) + length (hidden_in_each more)
          count = length-append (hidden_vars p) (hidden_in_each more)

          own_here : Owned n (length (hidden_vars p)) (λ h. over_sites (write_holds (halved_program P) h) 2 (halved n p))
          own_here = left_own n (length (hidden_in_each (and_member p more))) (length (hidden_vars p)) (length (hidden_in_each more))
              (λ h. over_sites (write_holds (halved_program P) h) 2 (halved n p))
              (λ h. over_each (write_holds (halved_program P) h) (halved_each (n + length (hidden_vars p)) more)) own count
              (λ h low less. each_none h (omega (arith, low, le)) (n + length (hidden_vars p)) more t.1 (inl less))

          own_others : Owned (n + length (hidden_vars p)) (length (hidden_in_each more))
              (λ h. over_each (write_holds (halved_program P) h) (halved_each (n + length (hidden_vars p)) more))
          own_others = right_own n (length (hidden_in_each (and_member p more))) (length (hidden_vars p)) (length (hidden_in_each more))
              (λ h. over_sites (write_holds (halved_program P) h) 2 (halved n p))
              (λ h. over_each (write_holds (halved_program P) h) (halved_each (n + length (hidden_vars p)) more)) own count
              (λ h low. none_held h (omega (arith, low, le)) 2 n p t.0 (inr low))

      choice_within_less : (held n s started : ℕ) (cs : Choices) → AreChoices P.channels P.vars cs
          → AreChoices P.channels (P.vars ++ hidden_vars P.body) (halved_choices n cs) → length P.vars ≤ n → s ≤ started → choice_within P started cs ≤ L
          → Owned n (length (hidden_in_choices cs)) (λ h. over_choices (write_holds (halved_program P) h) held (halved_choices n cs))
          → choice_within (halved_program P) s (halved_choices n cs) ≤ L
      choice_within_less held n s started no_choices t u le f w own = omega arith
      choice_within_less held n s started (and_choice g p more) t u le f w own = max-le
          (within_less held n p t.1 u.1 le (omega (arith, b)) a own_here)
          (max-le begins (choice_within_less held (n + length (hidden_vars p)) s started more t.2 u.2 (omega (arith, le)) f
          (let l = le-max_right (started + first P p) (choice_within P started more) in omega (arith, l, rest)) own_others))
        where
          count : length (hidden_in_choices (and_choice g p more)) ≡ length (hidden_vars p) + length (hidden_in_choices more)
          count = length-append (hidden_vars p) (hidden_in_choices more)

          a : within P p ≤ L
          a = let l = le-max_left (within P p) (max (started + first P p) (choice_within P started more)) in omega (arith, l, w)

          rest : max (started + first P p) (choice_within P started more) ≤ L
          rest = let l = le-max_right (within P p) (max (started + first P p) (choice_within P started more)) in omega (arith, l, w)

          b : started + first P p ≤ L
          b = let l = le-max_left (started + first P p) (choice_within P started more) in omega (arith, l, rest)

          begins : s + first (halved_program P) (halved n p) ≤ L
          begins = let d = first_less n p t.1 u.1 le in omega (arith, b, d, f)

          own_here : Owned n (length (hidden_vars p)) (λ h. over_sites (write_holds (halved_program P) h) held (halved n p))
          own_here = left_own n (length (hidden_in_choices (and_choice g p more))) (length (hidden_vars p)) (length (hidden_in_choices more))
              (λ h. over_sites (write_holds (halved_program P) h) held (halved n p))
              (λ h. over_choices (write_holds (halved_program P) h) held (halved_choices (n + length (hidden_vars p)) more)) own count
              (λ h low less. choices_none h (omega (arith, low, le)) held (n + length (hidden_vars p)) more t.2 (inl less))

          own_others : Owned (n + length (hidden_vars p)) (length (hidden_in_choices more))
              (λ h. over_choices (write_holds (halved_program P) h) held (halved_choices (n + length (hidden_vars p)) more))
          own_others = right_own n (length (hidden_in_choices (and_choice g p more))) (length (hidden_vars p)) (length (hidden_in_choices more))
              (λ h. over_sites (write_holds (halved_program P) h) held (halved n p))
              (λ h. over_choices (write_holds (halved_program P) h) held (halved_choices (n + length (hidden_vars p)) more)) own count
              (λ h low. none_held h (omega (arith, low, le)) held n p t.1 (inr low))

  pub halved_longest : IsProcess P.channels (P.vars ++ hidden_vars P.body) (halved (length P.vars) P.body) → longest (halved_program P) ≤ longest P
  halved_longest u = max-le inside (max-le begins ends)
    where
      rest : max (2 + first P P.body) (low P 2 P.body + 2) ≤ longest P
      rest = le-max_right (within P P.body) (max (2 + first P P.body) (low P 2 P.body + 2))

      first_room : 2 + first P P.body ≤ longest P
      first_room = let l = le-max_left (2 + first P P.body) (low P 2 P.body + 2) in omega (arith, l, rest)

      inside : within (halved_program P) (halved (length P.vars) P.body) ≤ longest P
      inside = within_less (longest P) 2 (length P.vars) P.body typed u (omega arith) (omega (arith, first_room))
          (le-max_left (within P P.body) (max (2 + first P P.body) (low P 2 P.body + 2))) (λ h low less. omega arith)

      begins : 2 + first (halved_program P) (halved (length P.vars) P.body) ≤ longest P
      begins = let d = first_less (length P.vars) P.body typed u (omega arith) in omega (arith, d, first_room)

      ends : low (halved_program P) 2 (halved (length P.vars) P.body) + 2 ≤ longest P
      ends =
          let d = low_less 2 (length P.vars) P.body typed (omega arith) in
          let l = le-max_right (2 + first P P.body) (low P 2 P.body + 2) in
          omega (arith, d, l, rest)
