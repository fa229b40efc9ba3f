-- In halves, the bound is `longest` of the program in halves.
--
-- P: the program; n: the number of a statement's first hidden variable; h: a hidden variable; x, y: variables of the program; held: as in `longest`;
-- p, q, more: statements; t: that a statement is typed.
use Rattle.std.proofs.Common.{◌≡◌, ◌⊎◌, ℕ, zero, suc, ◌+◌, ◌*◌, ◌-◌, ◌<◌, ◌≤◌, ◌==◌, Bool, true, false, List, [], ◌∷◌, ◌++◌, length, refl, sym, ap, ◌∙◌, inl, inr, arith, length-append}
use Rattle.std.specs.Prelude.{if◌then◌else◌, max}
use Rattle.std.proofs.lemmas.Bool.Decides.{nat_tests}
use Rattle.chp_base.specs.declared.span.Span.{Span}
use Rattle.chp_base.specs.declared.channel.Channel.{Channel}
use Rattle.chp_base.specs.declared.channel.Kind.{Kind}
use Rattle.chp_base.specs.declared.channel.Kind.TheVariants.{In, Out, Chan}
use Rattle.width_check.specs.declared.typed.Var.{Var}
use Rattle.width_check.specs.Processes.{Formula, Process, skipping, assigning, sending, receiving, in_turn, side_by_side, choosing, repeating, Processes, no_members, and_member, member_count, Choices, no_choices, and_choice, TypedProgram}
use Rattle.width_check.specs.Values.{width_of}
use Rattle.width_check.specs.Reads.{reads}
use Rattle.width_check.specs.Typing.{kind_at, var_width, IsProcess, AreProcesses, AreChoices}
use Rattle.chp_meaning.specs.Halves.{hidden_var, hidden_of, hidden_vars, hidden_in_each, hidden_in_choices, read_through, halved_assign, halved, halved_each, halved_choices, halved_program}
use Rattle.chp_meaning.proofs.HalvedTyping.{unread}
use Rattle.function_blocks.specs.Parts.{read_parts}
use Rattle.round_time.specs.Longest.{greatest, depths, depth, guards_depth, tree_height, var_height, over_sites, over_turn, over_each, over_choices, send_holds, rails_fall, assign_holds, write_holds, writes_fall, receive_clears, channel_low, receive_first, assign_first, first, turn_first, each_first, low, turn_low, each_low, choice_low, within, turn_within, each_within, choice_within, longest}
use Rattle.pace_bound.specs.Halving.{assign_first_by, assign_within, first_by, turn_first_by, each_first_by, within_by, turn_within_by, each_within_by, choice_within_by, longest_by}
use Rattle.pace_bound.proofs.Ending.{eq_other}

-- ---- numbers
pub both_same : (a b c d : ℕ) → a ≡ c → b ≡ d → max a b ≡ max c d
both_same a b c d e f = ap (λ k. max k b) e ∙ ap (max c) f

least_left : (a b : ℕ) → b ≡ 0 → max a b ≡ a
least_left a b e = omega (arith, e)

least_right : (a b : ℕ) → a ≡ 0 → max a b ≡ b
least_right a b e = omega (arith, e)

middle_alone : (m : ℕ) → max 0 (max m 0) ≡ m
middle_alone m = omega arith

if_none : (s : Bool) (a : ℕ) → s ≡ false → (if s then a else 0) ≡ 0
if_none s a e = ap (λ (b : Bool). if b then a else 0) e

self_number : (c : ℕ) → (c == c) ≡ true
self_number c = grind (arith, nat_tests)

-- what is read back has gates of depth 1
ones_on : (before : List ℕ) → greatest before ≤ 1 → greatest (before ++ 1 ∷ []) ≡ 1
ones_on [] e = refl
ones_on (k ∷ before) e =
    both_one k (greatest before) (greatest (before ++ 1 ∷ [])) e (ones_on before (rest k (greatest before) e))
  where
    rest : (k g : ℕ) → max k g ≤ 1 → g ≤ 1
    rest k g e = omega (arith, e)

    both_one : (k g m : ℕ) → max k g ≤ 1 → m ≡ 1 → max k m ≡ 1
    both_one k g m e f = omega (arith, e, f)

read_deep : (x i count : ℕ) (before : List ℕ) → greatest before ≡ 1 → greatest (depths before (read_parts x i count)) ≡ 1
read_deep x i zero before e = e
read_deep x i (suc count) before e = read_deep x (suc i) count (before ++ 1 ∷ []) (ones_on before (omega (arith, e)))

some_deep : (x i count : ℕ) → 1 ≤ count → greatest (depths [] (read_parts x i count)) ≡ 1
some_deep x i zero some = absurd (omega (arith, some))
some_deep x i (suc count) some = read_deep x (suc i) count (1 ∷ []) refl

through_deep : (h : ℕ) (e : Formula) (at : Span) → depth (read_through h e at) ≡ 1
through_deep h e at = some_deep h 0 (width_of e - 1 + 1 - 0) (omega arith)

-- variables that are there before others, and behind them
width_before : (vars vs : List Var) (x : ℕ) → x < length vars → var_width (vars ++ vs) x ≡ var_width vars x
width_before [] vs x l = absurd (omega (arith, l))
width_before (v ∷ vars) vs zero l = refl
width_before (v ∷ vars) vs (suc x) l = width_before vars vs x (omega (arith, l))

width_after : (vars vs : List Var) (k : ℕ) → var_width (vars ++ vs) (length vars + k) ≡ var_width vs k
width_after [] vs k = let e : 0 + k ≡ k = omega arith in ap (λ n. var_width vs n) e
width_after (v ∷ vars) vs k =
    let e : suc (length vars) + k ≡ suc (length vars + k) = omega arith in
    ap (λ n. var_width (v ∷ (vars ++ vs)) n) e ∙ width_after vars vs k

guards_same : (n : ℕ) (cs : Choices) → guards_depth (halved_choices n cs) ≡ guards_depth cs
guards_same n no_choices = refl
guards_same n (and_choice g p more) = ap (λ k. max (depth g) k) (guards_same (n + length (hidden_vars p)) more)

as_many : (n : ℕ) (ms : Processes) → member_count (halved_each n ms) ≡ member_count ms
as_many n no_members = refl
as_many n (and_member p more) = ap (λ k. suc k) (as_many (n + length (hidden_vars p)) more)

-- ---- what is greatest over all sites
module _ (channels : List Channel) (vars : List Var) (f g : Process → ℕ → ℕ) (skips : (held : ℕ) → f skipping held ≡ g skipping held)
    (assigns : (held n x : ℕ) (at : Span) (e : Formula) → IsProcess channels vars (assigning x at e) → length vars ≤ n
    → over_sites f held (halved n (assigning x at e)) ≡ g (assigning x at e) held)
    (sendings : (held k : ℕ) (at : Span) (e : Formula) → f (sending k at e) held ≡ g (sending k at e) held)
    (receivings : (held k : ℕ) (at : Span) (x : ℕ) (to : Span) → IsProcess channels vars (receiving k at x to)
    → f (receiving k at x to) held ≡ g (receiving k at x to) held) where
  mutual
    sites_same : (held n : ℕ) (p : Process) → IsProcess channels vars p → length vars ≤ n → over_sites f held (halved n p) ≡ over_sites g held p
    sites_same held n skipping t le = skips held
    sites_same held n (assigning x at e) t le = assigns held n x at e t le
    sites_same held n (sending k at e) t le = sendings held k at e
    sites_same held n (receiving k at x to) t le = receivings held k at x to t
    sites_same held n (in_turn ms) t le = turn_same held n ms t.1 le
    sites_same held n (side_by_side ms) t le = each_same n ms t.1 le
    sites_same held n (choosing false cs) t le = choices_same (held + 3) n cs t.2 le
    sites_same held n (choosing true cs) t le = choices_same 4 n cs t.2 le
    sites_same held n (repeating p) t le = sites_same 1 n p t le

    turn_same : (held n : ℕ) (ms : Processes) → AreProcesses channels vars ms → length vars ≤ n → over_turn f held (halved_each n ms) ≡ over_turn g held ms
    turn_same held n no_members t le = refl
    turn_same held n (and_member p no_members) t le = sites_same held n p t.0 le
    turn_same held n (and_member p (and_member q more)) t le =
        both_same (over_sites f 2 (halved n p)) (over_turn f (held + 2) (halved_each (n + length (hidden_vars p)) (and_member q more))) (over_sites g 2 p)
        (over_turn g (held + 2) (and_member q more)) (sites_same 2 n p t.0 le)
        (turn_same (held + 2) (n + length (hidden_vars p)) (and_member q more) t.1 (omega (arith, le)))

    each_same : (n : ℕ) (ms : Processes) → AreProcesses channels vars ms → length vars ≤ n → over_each f (halved_each n ms) ≡ over_each g ms
    each_same n no_members t le = refl
    each_same n (and_member p more) t le =
        both_same (over_sites f 2 (halved n p)) (over_each f (halved_each (n + length (hidden_vars p)) more)) (over_sites g 2 p) (over_each g more)
        (sites_same 2 n p t.0 le) (each_same (n + length (hidden_vars p)) more t.1 (omega (arith, le)))

    choices_same : (held n : ℕ) (cs : Choices) → AreChoices channels vars cs → length vars ≤ n
        → over_choices f held (halved_choices n cs) ≡ over_choices g held cs
    choices_same held n no_choices t le = refl
    choices_same held n (and_choice e p more) t le =
        both_same (over_sites f held (halved n p)) (over_choices f held (halved_choices (n + length (hidden_vars p)) more)) (over_sites g held p)
        (over_choices g held more) (sites_same held n p t.1 le) (choices_same held (n + length (hidden_vars p)) more t.2 (omega (arith, le)))

module _ (P : TypedProgram) (typed : IsProcess P.channels P.vars P.body) where
  abbrev Q : TypedProgram
  Q = halved_program P

  old_height : (x : ℕ) → x < length P.vars → var_height Q x ≡ var_height P x
  old_height x less = ap tree_height (width_before P.vars (hidden_vars P.body) x less)

  -- ---- channels
  sends_same : (c held n : ℕ) (p : Process) → IsProcess P.channels P.vars p → length P.vars ≤ n
      → over_sites (send_holds c) held (halved n p) ≡ over_sites (send_holds c) held p
  sends_same c = sites_same P.channels P.vars (send_holds c) (send_holds c) (λ held. refl) assigns (λ held k at e. refl) (λ held k at x to t. refl)
    where
      assigns : (held n x : ℕ) (at : Span) (e : Formula) → IsProcess P.channels P.vars (assigning x at e) → length P.vars ≤ n
          → over_sites (send_holds c) held (halved n (assigning x at e)) ≡ 0
      assigns held n x at e t le = by (reads x e)
        where
          by : (b : Bool) → over_sites (send_holds c) held (halved_assign b n x at e) ≡ 0
          by false = refl
          by true = refl

  rails_same : (kind : Kind) (c : ℕ) → rails_fall Q kind c ≡ rails_fall P kind c
  rails_same In c = refl
  rails_same Out c = sends_same c 2 (length P.vars) P.body typed (omega arith)
  rails_same Chan c = sends_same c 2 (length P.vars) P.body typed (omega arith)

  -- ---- variables of the program
  -- what is read back isn't the variable, so nor does the second half read its target
  back_unread : (n x : ℕ) (at : Span) (e : Formula) → x < length P.vars → length P.vars ≤ n → reads x (read_through n e at) ≡ false
  back_unread n x at e less le = eq_other n x (λ same. omega (arith, same, less, le))

  writes_same : (x : ℕ) → x < length P.vars → (held n : ℕ) (p : Process) → IsProcess P.channels P.vars p → length P.vars ≤ n
      → over_sites (write_holds Q x) held (halved n p) ≡ over_sites (write_holds P x) held p
  writes_same x less = sites_same P.channels P.vars (write_holds Q x) (write_holds P x) (λ held. refl) assigns (λ held k at e. refl) receivings
    where
      assigns : (held n y : ℕ) (at : Span) (e : Formula) → IsProcess P.channels P.vars (assigning y at e) → length P.vars ≤ n
          → over_sites (write_holds Q x) held (halved n (assigning y at e)) ≡ write_holds P x (assigning y at e) held
      assigns held n y at e t le = by (reads y e) refl
        where
          back : assign_holds (reads y (read_through n e at)) (held + 2) (depth (read_through n e at)) ≡ held + 5
          back =
              let d = through_deep n e at in
              let z : assign_holds (reads y (read_through n e at)) (held + 2) (depth (read_through n e at))
              ≡ assign_holds false (held + 2) (depth (read_through n e at)) =
              ap (λ (b : Bool). assign_holds b (held + 2) (depth (read_through n e at))) (back_unread n y at e t.0 le) in
              omega (arith, d, z)

          by : (b : Bool) → reads y e ≡ b → over_sites (write_holds Q x) held (halved_assign b n y at e) ≡ write_holds P x (assigning y at e) held
          by false plain = refl
          by true own =
              let z : assign_holds (reads y e) held (depth e) ≡ held + 5 = ap (λ (b : Bool). assign_holds b held (depth e)) own in
              least_right (write_holds Q x (assigning n at e) 2) (write_holds Q x (assigning y at (read_through n e at)) (held + 2))
              (if_none (n == x) (assign_holds (reads n e) 2 (depth e)) (eq_other n x (λ same. omega (arith, same, less, le))))
              ∙ ap (λ (k : ℕ). if y == x then k else 0) (back ∙ sym z)

      receivings : (held k : ℕ) (at : Span) (y : ℕ) (to : Span) → IsProcess P.channels P.vars (receiving k at y to)
          → write_holds Q x (receiving k at y to) held ≡ write_holds P x (receiving k at y to) held
      receivings held k at y to t = ap (λ (r : ℕ). if y == x then max r (held + 1) + 2 else 0) (rails_same (kind_at P.channels k) k)

  falls_same : (x : ℕ) → x < length P.vars → writes_fall Q x ≡ writes_fall P x
  falls_same x less = writes_same x less 2 (length P.vars) P.body typed (omega arith)

  clears_same : (c held n : ℕ) (p : Process) → IsProcess P.channels P.vars p → length P.vars ≤ n
      → over_sites (receive_clears Q c) held (halved n p) ≡ over_sites (receive_clears P c) held p
  clears_same c = sites_same P.channels P.vars (receive_clears Q c) (receive_clears P c) (λ held. refl) assigns (λ held k at e. refl) receivings
    where
      assigns : (held n x : ℕ) (at : Span) (e : Formula) → IsProcess P.channels P.vars (assigning x at e) → length P.vars ≤ n
          → over_sites (receive_clears Q c) held (halved n (assigning x at e)) ≡ 0
      assigns held n x at e t le = by (reads x e)
        where
          by : (b : Bool) → over_sites (receive_clears Q c) held (halved_assign b n x at e) ≡ 0
          by false = refl
          by true = refl

      receivings : (held k : ℕ) (at : Span) (x : ℕ) (to : Span) → IsProcess P.channels P.vars (receiving k at x to)
          → receive_clears Q c (receiving k at x to) held ≡ receive_clears P c (receiving k at x to) held
      receivings held k at x to t =
          ap (λ (w : ℕ). if k == c then w + 4 + var_height Q x else 0) (falls_same x t.target)
          ∙ ap (λ (h : ℕ). if k == c then writes_fall P x + 4 + h else 0) (old_height x t.target)

  channel_same : (kind : Kind) (c : ℕ) → channel_low Q kind c ≡ channel_low P kind c
  channel_same kind c =
      both_same (rails_fall Q kind c + 2) (over_sites (receive_clears Q c) 2 Q.body) (rails_fall P kind c + 2) (over_sites (receive_clears P c) 2 P.body)
      (ap (λ r. r + 2) (rails_same kind c)) (clears_same c 2 (length P.vars) P.body typed (omega arith))

  -- ---- how wide hidden variables are
  abbrev Wide : ℕ → List Var → Type 0
  Wide n vs = (k : ℕ) → k < length vs → var_width (P.vars ++ hidden_vars P.body) (n + k) ≡ var_width vs k

  wide_left : (n : ℕ) (xs ys : List Var) → Wide n (xs ++ ys) → Wide n xs
  wide_left n xs ys w k less = let c = length-append xs ys in w k (omega (arith, less, c)) ∙ width_before xs ys k less

  wide_right : (n : ℕ) (xs ys : List Var) → Wide n (xs ++ ys) → Wide (n + length xs) ys
  wide_right n xs ys w k less =
      let c = length-append xs ys in
      let e : n + length xs + k ≡ n + (length xs + k) = omega arith in
      ap (λ m. var_width (P.vars ++ hidden_vars P.body) m) e ∙ (w (length xs + k) (omega (arith, less, c)) ∙ width_after xs ys k)

  wide_here : (n : ℕ) (e : Formula) → Wide n (hidden_var e ∷ []) → var_width (P.vars ++ hidden_vars P.body) n ≡ width_of e
  wide_here n e w =
      let z : n ≡ n + 0 = omega arith in
      ap (λ m. var_width (P.vars ++ hidden_vars P.body) m) z ∙ w 0 (omega arith)

  hidden_height : (n x : ℕ) (at : Span) (e : Formula) → IsProcess P.channels P.vars (assigning x at e) → Wide n (hidden_var e ∷ [])
      → var_height Q n ≡ var_height P x
  hidden_height n x at e t w = ap tree_height (wide_here n e w ∙ t.1.agrees)

  -- ---- from requests to steps
  -- of both halves
  half_first : (n x : ℕ) (at : Span) (e : Formula) → IsProcess P.channels P.vars (assigning x at e) → length P.vars ≤ n → Wide n (hidden_var e ∷ [])
      → first Q (assigning n at e) ≡ depth e + 4 + var_height P x
  half_first n x at e t le w =
      ap (λ (b : Bool). assign_first b (depth e) (var_height Q n)) (unread P.vars n e t.1.reads le)
      ∙ ap (λ (h : ℕ). depth e + 4 + h) (hidden_height n x at e t w)

  back_first : (n x : ℕ) (at : Span) (e : Formula) → x < length P.vars → length P.vars ≤ n
      → first Q (assigning x at (read_through n e at)) ≡ 5 + var_height P x
  back_first n x at e less le =
      ap (λ (b : Bool). assign_first b (depth (read_through n e at)) (var_height Q x)) (back_unread n x at e less le)
      ∙ (ap (λ (d : ℕ). d + 4 + var_height Q x) (through_deep n e at) ∙ ap (λ (h : ℕ). 5 + h) (old_height x less))

  assign_same : (n x : ℕ) (at : Span) (e : Formula) → IsProcess P.channels P.vars (assigning x at e) → length P.vars ≤ n → (b : Bool) → reads x e ≡ b
      → Wide n (hidden_of b e) → first Q (halved_assign b n x at e) ≡ first_by true P (assigning x at e)
  assign_same n x at e t le false plain w =
      ap (λ (b : Bool). assign_first b (depth e) (var_height Q x)) plain
      ∙ (ap (λ (h : ℕ). depth e + 4 + h) (old_height x t.0) ∙ sym (ap (λ (b : Bool). assign_first_by true b (depth e) (var_height P x)) plain))
  assign_same n x at e t le true own w =
      let a = half_first n x at e t le w in
      let s : suc (depth e + 4 + var_height P x) ≡ 5 + depth e + var_height P x = omega arith in
      ap (λ k. suc k) a ∙ (s ∙ sym (ap (λ (b : Bool). assign_first_by true b (depth e) (var_height P x)) own))

  mutual
    first_same : (n : ℕ) (p : Process) → IsProcess P.channels P.vars p → length P.vars ≤ n → Wide n (hidden_vars p)
        → first Q (halved n p) ≡ first_by true P p
    first_same n skipping t le w = refl
    first_same n (assigning x at e) t le w = assign_same n x at e t le (reads x e) refl w
    first_same n (sending k at e) t le w = refl
    first_same n (receiving k at x to) t le w = ap (λ (h : ℕ). receive_first (kind_at P.channels k) h) (old_height x t.target)
    first_same n (in_turn ms) t le w = turn_first_same n ms t.1 le w
    first_same n (side_by_side ms) t le w = ap (λ k. suc k) (each_first_same n ms t.1 le w)
    first_same n (choosing false cs) t le w = ap (λ k. 2 + k) (guards_same n cs)
    first_same n (choosing true cs) t le w = ap (λ k. 3 + k) (guards_same n cs)
    first_same n (repeating p) t le w = refl

    turn_first_same : (n : ℕ) (ms : Processes) → AreProcesses P.channels P.vars ms → length P.vars ≤ n → Wide n (hidden_in_each ms)
        → turn_first Q (halved_each n ms) ≡ turn_first_by true P ms
    turn_first_same n no_members t le w = refl
    turn_first_same n (and_member p no_members) t le w = first_same n p t.0 le (wide_left n (hidden_vars p) [] w)
    turn_first_same n (and_member p (and_member q more)) t le w =
        ap (λ k. suc k) (first_same n p t.0 le (wide_left n (hidden_vars p) (hidden_in_each (and_member q more)) w))

    each_first_same : (n : ℕ) (ms : Processes) → AreProcesses P.channels P.vars ms → length P.vars ≤ n → Wide n (hidden_in_each ms)
        → each_first Q (halved_each n ms) ≡ each_first_by true P ms
    each_first_same n no_members t le w = refl
    each_first_same n (and_member p more) t le w =
        both_same (first Q (halved n p)) (each_first Q (halved_each (n + length (hidden_vars p)) more)) (first_by true P p) (each_first_by true P more)
        (first_same n p t.0 le (wide_left n (hidden_vars p) (hidden_in_each more) w))
        (each_first_same (n + length (hidden_vars p)) more t.1 (omega (arith, le)) (wide_right n (hidden_vars p) (hidden_in_each more) w))

  -- ---- from steps to the falls of answers
  mutual
    low_same : (held n : ℕ) (p : Process) → IsProcess P.channels P.vars p → length P.vars ≤ n → low Q held (halved n p) ≡ low P held p
    low_same held n skipping t le = refl
    low_same held n (assigning x at e) t le = by (reads x e)
      where
        lasts : writes_fall Q x + 2 + var_height Q x ≡ writes_fall P x + 2 + var_height P x
        lasts = ap (λ (w : ℕ). w + 2 + var_height Q x) (falls_same x t.0) ∙ ap (λ (h : ℕ). writes_fall P x + 2 + h) (old_height x t.0)

        by : (b : Bool) → low Q held (halved_assign b n x at e) ≡ writes_fall P x + 2 + var_height P x
        by false = lasts
        by true = lasts
    low_same held n (sending k at e) t le = channel_same (kind_at P.channels k) k
    low_same held n (receiving k at x to) t le = channel_same (kind_at P.channels k) k
    low_same held n (in_turn ms) t le = turn_low_same held n ms t.1 le
    low_same held n (side_by_side ms) t le =
        ap (λ (k : ℕ). k + 3 + held + 2 * tree_height (member_count (halved_each n ms))) (each_low_same n ms t.1 le)
        ∙ ap (λ (k : ℕ). each_low P ms + 3 + held + 2 * tree_height k) (as_many n ms)
    low_same held n (choosing false cs) t le = ap (λ k. suc k) (choice_low_same (held + 3) n cs t.2 le)
    low_same held n (choosing true cs) t le = ap (λ (k : ℕ). held + 7 + k) (guards_same n cs)
    low_same held n (repeating p) t le = refl

    turn_low_same : (held n : ℕ) (ms : Processes) → AreProcesses P.channels P.vars ms → length P.vars ≤ n
        → turn_low Q held (halved_each n ms) ≡ turn_low P held ms
    turn_low_same held n no_members t le = refl
    turn_low_same held n (and_member p no_members) t le = low_same held n p t.0 le
    turn_low_same held n (and_member p (and_member q more)) t le =
        turn_low_same (held + 2) (n + length (hidden_vars p)) (and_member q more) t.1 (omega (arith, le))

    each_low_same : (n : ℕ) (ms : Processes) → AreProcesses P.channels P.vars ms → length P.vars ≤ n → each_low Q (halved_each n ms) ≡ each_low P ms
    each_low_same n no_members t le = refl
    each_low_same n (and_member p more) t le =
        both_same (low Q 2 (halved n p)) (each_low Q (halved_each (n + length (hidden_vars p)) more)) (low P 2 p) (each_low P more)
        (low_same 2 n p t.0 le) (each_low_same (n + length (hidden_vars p)) more t.1 (omega (arith, le)))

    choice_low_same : (held n : ℕ) (cs : Choices) → AreChoices P.channels P.vars cs → length P.vars ≤ n
        → choice_low Q held (halved_choices n cs) ≡ choice_low P held cs
    choice_low_same held n no_choices t le = refl
    choice_low_same held n (and_choice g p more) t le =
        both_same (low Q held (halved n p)) (choice_low Q held (halved_choices (n + length (hidden_vars p)) more)) (low P held p) (choice_low P held more)
        (low_same held n p t.1 le) (choice_low_same held (n + length (hidden_vars p)) more t.2 (omega (arith, le)))

  -- ---- how long hidden variables take to clear: only the statement of each writes it
  module _ (h : ℕ) (hides : length P.vars ≤ h) where
    abbrev Elsewhere : (n count : ℕ) → Type 0
    Elsewhere n count = (h < n) ⊎ (n + count ≤ h)

    of_left : (n a b : ℕ) → Elsewhere n (a + b) → Elsewhere n a
    of_left n a b (inl l) = inl l
    of_left n a b (inr l) = inr (omega (arith, l))

    of_right : (n a b : ℕ) → Elsewhere n (a + b) → Elsewhere (n + a) b
    of_right n a b (inl l) = inl (omega (arith, l))
    of_right n a b (inr l) = inr (omega (arith, l))

    counted : (n : ℕ) (xs ys : List Var) → Elsewhere n (length (xs ++ ys)) → Elsewhere n (length xs + length ys)
    counted n xs ys (inl l) = inl l
    counted n xs ys (inr l) = let e = length-append xs ys in inr (omega (arith, l, e))

    here_none : (x held : ℕ) (at : Span) (e : Formula) → (x ≡ h → ⊥) → write_holds Q h (assigning x at e) held ≡ 0
    here_none x held at e ne = if_none (x == h) (assign_holds (reads x e) held (depth e)) (eq_other x h ne)

    mutual
      none_held : (held n : ℕ) (p : Process) → IsProcess P.channels P.vars p → Elsewhere n (length (hidden_vars p))
          → over_sites (write_holds Q h) held (halved n p) ≡ 0
      none_held held n skipping t w = refl
      none_held held n (assigning x at e) t w = by (reads x e) w
        where
          old : x ≡ h → ⊥
          old same = let below = t.0 in omega (arith, same, below, hides)

          outside : Elsewhere n 1 → n ≡ h → ⊥
          outside (inl l) same = omega (arith, l, same)
          outside (inr l) same = omega (arith, l, same)

          by : (b : Bool) → Elsewhere n (length (hidden_of b e)) → over_sites (write_holds Q h) held (halved_assign b n x at e) ≡ 0
          by false w = here_none x held at e old
          by true w =
              both_same (write_holds Q h (assigning n at e) 2) (write_holds Q h (assigning x at (read_through n e at)) (held + 2)) 0 0
              (here_none n 2 at e (outside w)) (here_none x (held + 2) at (read_through n e at) old)
      none_held held n (sending k at e) t w = refl
      none_held held n (receiving k at x to) t w =
          if_none (x == h) (max (rails_fall Q (kind_at P.channels k) k) (held + 1) + 2)
          (eq_other x h (λ same. let below = t.target in omega (arith, same, below, hides)))
      none_held held n (in_turn ms) t w = turn_none held n ms t.1 w
      none_held held n (side_by_side ms) t w = each_none n ms t.1 w
      none_held held n (choosing false cs) t w = choices_none (held + 3) n cs t.2 w
      none_held held n (choosing true cs) t w = choices_none 4 n cs t.2 w
      none_held held n (repeating p) t w = none_held 1 n p t w

      turn_none : (held n : ℕ) (ms : Processes) → AreProcesses P.channels P.vars ms → Elsewhere n (length (hidden_in_each ms))
          → over_turn (write_holds Q h) held (halved_each n ms) ≡ 0
      turn_none held n no_members t w = refl
      turn_none held n (and_member p no_members) t w =
          none_held held n p t.0 (of_left n (length (hidden_vars p)) 0 (counted n (hidden_vars p) [] w))
      turn_none held n (and_member p (and_member q more)) t w =
          let c = counted n (hidden_vars p) (hidden_in_each (and_member q more)) w in
          both_same (over_sites (write_holds Q h) 2 (halved n p))
          (over_turn (write_holds Q h) (held + 2) (halved_each (n + length (hidden_vars p)) (and_member q more))) 0 0
          (none_held 2 n p t.0 (of_left n (length (hidden_vars p)) (length (hidden_in_each (and_member q more))) c))
          (turn_none (held + 2) (n + length (hidden_vars p)) (and_member q more) t.1
          (of_right n (length (hidden_vars p)) (length (hidden_in_each (and_member q more))) c))

      each_none : (n : ℕ) (ms : Processes) → AreProcesses P.channels P.vars ms → Elsewhere n (length (hidden_in_each ms))
          → over_each (write_holds Q h) (halved_each n ms) ≡ 0
      each_none n no_members t w = refl
      each_none n (and_member p more) t w =
          let c = counted n (hidden_vars p) (hidden_in_each more) w in
          both_same (over_sites (write_holds Q h) 2 (halved n p)) (over_each (write_holds Q h) (halved_each (n + length (hidden_vars p)) more)) 0 0
          (none_held 2 n p t.0 (of_left n (length (hidden_vars p)) (length (hidden_in_each more)) c))
          (each_none (n + length (hidden_vars p)) more t.1 (of_right n (length (hidden_vars p)) (length (hidden_in_each more)) c))

      choices_none : (held n : ℕ) (cs : Choices) → AreChoices P.channels P.vars cs → Elsewhere n (length (hidden_in_choices cs))
          → over_choices (write_holds Q h) held (halved_choices n cs) ≡ 0
      choices_none held n no_choices t w = refl
      choices_none held n (and_choice g p more) t w =
          let c = counted n (hidden_vars p) (hidden_in_choices more) w in
          both_same (over_sites (write_holds Q h) held (halved n p))
          (over_choices (write_holds Q h) held (halved_choices (n + length (hidden_vars p)) more)) 0 0
          (none_held held n p t.1 (of_left n (length (hidden_vars p)) (length (hidden_in_choices more)) c))
          (choices_none held (n + length (hidden_vars p)) more t.2 (of_right n (length (hidden_vars p)) (length (hidden_in_choices more)) c))

  -- of two parts, a hidden variable of the one is written by nothing of the other
  abbrev Owned : (n count : ℕ) → (ℕ → ℕ) → Type 0
  Owned n count f = (h : ℕ) → n ≤ h → h < n + count → writes_fall Q h ≡ f h

  left_own : (n count a b : ℕ) (f r : ℕ → ℕ) → Owned n count (λ h. max (f h) (r h)) → count ≡ a + b
      → ((h : ℕ) → n ≤ h → h < n + a → r h ≡ 0) → Owned n a f
  left_own n count a b f r own e none h low less = own h low (omega (arith, less, e)) ∙ least_left (f h) (r h) (none h low less)

  right_own : (n count a b : ℕ) (f r : ℕ → ℕ) → Owned n count (λ h. max (f h) (r h)) → count ≡ a + b
      → ((h : ℕ) → n + a ≤ h → f h ≡ 0) → Owned (n + a) b r
  right_own n count a b f r own e none h low less =
      own h (omega (arith, low)) (omega (arith, less, e)) ∙ least_right (f h) (r h) (none h low)

  -- ---- inside of statements
  halves_within : (held n x : ℕ) (at : Span) (e : Formula) → IsProcess P.channels P.vars (assigning x at e) → length P.vars ≤ n → (b : Bool)
      → reads x e ≡ b → Wide n (hidden_of b e)
      → Owned n (length (hidden_of b e)) (λ h. over_sites (write_holds Q h) held (halved_assign b n x at e))
      → within Q (halved_assign b n x at e) ≡ within_by true P (assigning x at e)
  halves_within held n x at e t le false plain w own = sym (ap (λ (b : Bool). assign_within true b (depth e) (var_height P x)) plain)
  halves_within held n x at e t le true reading w own =
      middle_alone (low Q 2 (assigning n at e) + 1 + first Q (assigning x at (read_through n e at)))
      ∙ (middle ∙ sym (ap (λ (b : Bool). assign_within true b (depth e) (var_height P x)) reading))
    where
      clears : writes_fall Q n ≡ 4 + depth e
      clears =
          let none = here_none n le x (held + 2) at (read_through n e at) (λ same. let below = t.0 in omega (arith, same, below, le)) in
          let a : write_holds Q n (assigning n at e) 2 ≡ assign_holds (reads n e) 2 (depth e) =
          ap (λ (b : Bool). if b then assign_holds (reads n e) 2 (depth e) else 0) (self_number n) in
          let b : assign_holds (reads n e) 2 (depth e) ≡ 2 + depth e + 2 =
          ap (λ (b : Bool). assign_holds b 2 (depth e)) (unread P.vars n e t.1.reads le) in
          let s : 2 + depth e + 2 ≡ 4 + depth e = omega arith in
          own n (omega arith) (omega arith)
          ∙ (least_left (write_holds Q n (assigning n at e) 2) (write_holds Q n (assigning x at (read_through n e at)) (held + 2)) none ∙ (a ∙ (b ∙ s)))

      sum : (w h f : ℕ) → w ≡ 4 + depth e → h ≡ var_height P x → f ≡ 5 + var_height P x
          → w + 2 + h + 1 + f ≡ depth e + 12 + 2 * var_height P x
      sum w h f a b c = omega (arith, a, b, c)

      middle : low Q 2 (assigning n at e) + 1 + first Q (assigning x at (read_through n e at)) ≡ depth e + 12 + 2 * var_height P x
      middle = sum (writes_fall Q n) (var_height Q n) (first Q (assigning x at (read_through n e at))) clears (hidden_height n x at e t w)
          (back_first n x at e t.0 le)

  mutual
    within_same : (held n : ℕ) (p : Process) → IsProcess P.channels P.vars p → length P.vars ≤ n → Wide n (hidden_vars p)
        → Owned n (length (hidden_vars p)) (λ h. over_sites (write_holds Q h) held (halved n p))
        → within Q (halved n p) ≡ within_by true P p
    within_same held n skipping t le w own = refl
    within_same held n (assigning x at e) t le w own = halves_within held n x at e t le (reads x e) refl w own
    within_same held n (sending k at e) t le w own = refl
    within_same held n (receiving k at x to) t le w own = refl
    within_same held n (in_turn ms) t le w own = turn_within_same held n ms t.1 le w own
    within_same held n (side_by_side ms) t le w own = each_within_same n ms t.1 le w own
    within_same held n (choosing false cs) t le w own =
        ap (λ (k : ℕ). choice_within Q (3 + k) (halved_choices n cs)) (guards_same n cs)
        ∙ choice_within_same (held + 3) n (3 + guards_depth cs) cs t.2 le w own
    within_same held n (choosing true cs) t le w own =
        both_same (choice_within Q (3 + guards_depth (halved_choices n cs)) (halved_choices n cs))
        (choice_low Q 4 (halved_choices n cs) + 4 + guards_depth (halved_choices n cs)) (choice_within_by true P (3 + guards_depth cs) cs)
        (choice_low P 4 cs + 4 + guards_depth cs)
        (ap (λ (k : ℕ). choice_within Q (3 + k) (halved_choices n cs)) (guards_same n cs)
        ∙ choice_within_same 4 n (3 + guards_depth cs) cs t.2 le w own)
        (ap (λ (k : ℕ). choice_low Q 4 (halved_choices n cs) + 4 + k) (guards_same n cs)
        ∙ ap (λ (k : ℕ). k + 4 + guards_depth cs) (choice_low_same 4 n cs t.2 le))
    within_same held n (repeating p) t le w own =
        both_same (within Q (halved n p)) (max (first Q (halved n p)) (low Q 1 (halved n p) + 1)) (within_by true P p)
        (max (first_by true P p) (low P 1 p + 1)) (within_same 1 n p t le w own)
        (both_same (first Q (halved n p)) (low Q 1 (halved n p) + 1) (first_by true P p) (low P 1 p + 1) (first_same n p t le w)
        (ap (λ (k : ℕ). k + 1) (low_same 1 n p t le)))

    turn_within_same : (held n : ℕ) (ms : Processes) → AreProcesses P.channels P.vars ms → length P.vars ≤ n → Wide n (hidden_in_each ms)
        → Owned n (length (hidden_in_each ms)) (λ h. over_turn (write_holds Q h) held (halved_each n ms))
        → turn_within Q (halved_each n ms) ≡ turn_within_by true P ms
    turn_within_same held n no_members t le w own = refl
    turn_within_same held n (and_member p no_members) t le w own =
        within_same held n p t.0 le (wide_left n (hidden_vars p) [] w)
        (λ h low less. own h low (let e = length-append (hidden_vars p) [] in omega (arith, less, e)))
    turn_within_same held n (and_member p (and_member q more)) t le w own =
        both_same (within Q (halved n p)) (max (low Q 2 (halved n p) + 1 + turn_first Q (halved_each (n + length (hidden_vars p)) (and_member q more)))
        (turn_within Q (halved_each (n + length (hidden_vars p)) (and_member q more)))) (within_by true P p)
        (max (low P 2 p + 1 + turn_first_by true P (and_member q more)) (turn_within_by true P (and_member q more)))
        (within_same 2 n p t.0 le (wide_left n (hidden_vars p) (hidden_in_each (and_member q more)) w) own_member)
        (both_same (low Q 2 (halved n p) + 1 + turn_first Q (halved_each (n + length (hidden_vars p)) (and_member q more)))
        (turn_within Q (halved_each (n + length (hidden_vars p)) (and_member q more))) (low P 2 p + 1 + turn_first_by true P (and_member q more))
        (turn_within_by true P (and_member q more))
        (ap (λ (k : ℕ). k + 1 + turn_first Q (halved_each (n + length (hidden_vars p)) (and_member q more))) (low_same 2 n p t.0 le)
        ∙ ap (λ (k : ℕ). low P 2 p + 1 + k) (turn_first_same (n + length (hidden_vars p)) (and_member q more) t.1 (omega (arith, le)) later))
        (turn_within_same (held + 2) (n + length (hidden_vars p)) (and_member q more) t.1 (omega (arith, le)) later own_later))
      where
        later : Wide (n + length (hidden_vars p)) (hidden_in_each (and_member q more))
        later = wide_right n (hidden_vars p) (hidden_in_each (and_member q more)) w

        count : length (hidden_in_each (and_member p (and_member q more)))
            ≡ length (hidden_vars p) + length (hidden_in_each (and_member q more))
        count = length-append (hidden_vars p) (hidden_in_each (and_member q more))

        own_member : Owned n (length (hidden_vars p)) (λ h. over_sites (write_holds Q h) 2 (halved n p))
        own_member = left_own n (length (hidden_in_each (and_member p (and_member q more)))) (length (hidden_vars p))
            (length (hidden_in_each (and_member q more))) (λ h. over_sites (write_holds Q h) 2 (halved n p))
            (λ h. over_turn (write_holds Q h) (held + 2) (halved_each (n + length (hidden_vars p)) (and_member q more))) own count
            (λ h low less. turn_none h (omega (arith, low, le)) (held + 2) (n + length (hidden_vars p)) (and_member q more) t.1 (inl less))

        own_later : Owned (n + length (hidden_vars p)) (length (hidden_in_each (and_member q more)))
            (λ h. over_turn (write_holds Q h) (held + 2) (halved_each (n + length (hidden_vars p)) (and_member q more)))
        own_later = right_own n (length (hidden_in_each (and_member p (and_member q more)))) (length (hidden_vars p))
            (length (hidden_in_each (and_member q more))) (λ h. over_sites (write_holds Q h) 2 (halved n p))
            (λ h. over_turn (write_holds Q h) (held + 2) (halved_each (n + length (hidden_vars p)) (and_member q more))) own count
            (λ h low. none_held h (omega (arith, low, le)) 2 n p t.0 (inr low))

    each_within_same : (n : ℕ) (ms : Processes) → AreProcesses P.channels P.vars ms → length P.vars ≤ n → Wide n (hidden_in_each ms)
        → Owned n (length (hidden_in_each ms)) (λ h. over_each (write_holds Q h) (halved_each n ms))
        → each_within Q (halved_each n ms) ≡ each_within_by true P ms
    each_within_same n no_members t le w own = refl
    each_within_same n (and_member p more) t le w own =
        both_same (within Q (halved n p)) (each_within Q (halved_each (n + length (hidden_vars p)) more)) (within_by true P p) (each_within_by true P more)
        (within_same 2 n p t.0 le (wide_left n (hidden_vars p) (hidden_in_each more) w) own_here)
        (each_within_same (n + length (hidden_vars p)) more t.1 (omega (arith, le)) (wide_right n (hidden_vars p) (hidden_in_each more) w) own_others)
      where
        count : length (hidden_in_each (and_member p more)) ≡ length (hidden_vars p) + length (hidden_in_each more)
        count = length-append (hidden_vars p) (hidden_in_each more)

        own_here : Owned n (length (hidden_vars p)) (λ h. over_sites (write_holds Q h) 2 (halved n p))
        own_here = left_own n (length (hidden_in_each (and_member p more))) (length (hidden_vars p)) (length (hidden_in_each more))
            (λ h. over_sites (write_holds Q h) 2 (halved n p)) (λ h. over_each (write_holds Q h) (halved_each (n + length (hidden_vars p)) more)) own count
            (λ h low less. each_none h (omega (arith, low, le)) (n + length (hidden_vars p)) more t.1 (inl less))

        own_others : Owned (n + length (hidden_vars p)) (length (hidden_in_each more))
            (λ h. over_each (write_holds Q h) (halved_each (n + length (hidden_vars p)) more))
        own_others = right_own n (length (hidden_in_each (and_member p more))) (length (hidden_vars p)) (length (hidden_in_each more))
            (λ h. over_sites (write_holds Q h) 2 (halved n p)) (λ h. over_each (write_holds Q h) (halved_each (n + length (hidden_vars p)) more)) own count
            (λ h low. none_held h (omega (arith, low, le)) 2 n p t.0 (inr low))

    choice_within_same : (held n started : ℕ) (cs : Choices) → AreChoices P.channels P.vars cs → length P.vars ≤ n → Wide n (hidden_in_choices cs)
        → Owned n (length (hidden_in_choices cs)) (λ h. over_choices (write_holds Q h) held (halved_choices n cs))
        → choice_within Q started (halved_choices n cs) ≡ choice_within_by true P started cs
    choice_within_same held n started no_choices t le w own = refl
    choice_within_same held n started (and_choice g p more) t le w own =
        both_same (within Q (halved n p)) (max (started + first Q (halved n p)) (choice_within Q started (halved_choices (n + length (hidden_vars p)) more)))
        (within_by true P p)
        (max (started + first_by true P p) (choice_within_by true P started more)) (within_same held n p t.1 le here own_here)
        (both_same (started + first Q (halved n p)) (choice_within Q started (halved_choices (n + length (hidden_vars p)) more))
        (started + first_by true P p) (choice_within_by true P started more)
        (ap (λ (k : ℕ). started + k) (first_same n p t.1 le here))
        (choice_within_same held (n + length (hidden_vars p)) started more t.2 (omega (arith, le))
        (wide_right n (hidden_vars p) (hidden_in_choices more) w) own_others))
      where
        here : Wide n (hidden_vars p)
        here = wide_left n (hidden_vars p) (hidden_in_choices more) w

        count : length (hidden_in_choices (and_choice g p more)) ≡ length (hidden_vars p) + length (hidden_in_choices more)
        count = length-append (hidden_vars p) (hidden_in_choices more)

        own_here : Owned n (length (hidden_vars p)) (λ h. over_sites (write_holds Q h) held (halved n p))
        own_here = left_own n (length (hidden_in_choices (and_choice g p more))) (length (hidden_vars p)) (length (hidden_in_choices more))
            (λ h. over_sites (write_holds Q h) held (halved n p))
            (λ h. over_choices (write_holds Q h) held (halved_choices (n + length (hidden_vars p)) more)) own count
            (λ h low less. choices_none h (omega (arith, low, le)) held (n + length (hidden_vars p)) more t.2 (inl less))

        own_others : Owned (n + length (hidden_vars p)) (length (hidden_in_choices more))
            (λ h. over_choices (write_holds Q h) held (halved_choices (n + length (hidden_vars p)) more))
        own_others = right_own n (length (hidden_in_choices (and_choice g p more))) (length (hidden_vars p)) (length (hidden_in_choices more))
            (λ h. over_sites (write_holds Q h) held (halved n p))
            (λ h. over_choices (write_holds Q h) held (halved_choices (n + length (hidden_vars p)) more)) own count
            (λ h low. none_held h (omega (arith, low, le)) held n p t.1 (inr low))

  pub longest_halved : longest_by true P ≡ longest (halved_program P)
  longest_halved = sym (both_same (within Q (halved (length P.vars) P.body))
      (max (2 + first Q (halved (length P.vars) P.body)) (low Q 2 (halved (length P.vars) P.body) + 2)) (within_by true P P.body)
      (max (2 + first_by true P P.body) (low P 2 P.body + 2))
      (within_same 2 (length P.vars) P.body typed (omega arith) all (λ h low less. refl))
      (both_same (2 + first Q (halved (length P.vars) P.body)) (low Q 2 (halved (length P.vars) P.body) + 2) (2 + first_by true P P.body)
      (low P 2 P.body + 2) (ap (λ (k : ℕ). 2 + k) (first_same (length P.vars) P.body typed (omega arith) all))
      (ap (λ (k : ℕ). k + 2) (low_same 2 (length P.vars) P.body typed (omega arith)))))
    where
      all : Wide (length P.vars) (hidden_vars P.body)
      all k less = width_after P.vars (hidden_vars P.body) k
