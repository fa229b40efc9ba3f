-- The rules of a typed program's net have at most 64 literals for each node: a merge has some for each site, and each site
-- has rails of its own.
use Rattle.std.proofs.Common.{◌≡◌, ℕ, zero, suc, ◌+◌, ◌*◌, ◌≤◌, Bool, true, false, List, [], ◌∷◌, ◌++◌, map, length, refl, sym, ap, subst, ◌≢◌, ◌∙◌, arith, length-append}
use Rattle.std.specs.Prelude.{◌==◌, if◌then◌else◌, replicate}
use Rattle.std.proofs.lemmas.List.{length-map}
use Rattle.std.proofs.lemmas.List.FromFn.{length-range_with_len}
use Rattle.chp_base.specs.declared.span.Span.{Span}
use Rattle.chp_base.specs.declared.channel.Channel.{Channel}
use Rattle.chp_base.specs.declared.channel.Kind.{Kind}
use Rattle.chp_base.specs.declared.channel.Kind.TheVariants.{In, Out, Chan}
use Rattle.prs_core.specs.declared.rule.Literal.{Literal}
use Rattle.prs_core.specs.Nets.{NodeRules, literals_of, is_high, is_low, one_term}
use Rattle.prs_core.specs.Pairs.{Pair, pairs_from, no_rules, or_of, lows, rails_of, merged_true, merged_false, pair_of}
use Rattle.width_check.specs.declared.typed.Var.{Var}
use Rattle.width_check.specs.Processes.{Formula, Process, skipping, assigning, sending, receiving, in_turn, side_by_side, choosing, repeating, Processes, no_members, and_member, Choices, no_choices, and_choice, choice_count, TypedProgram}
use Rattle.width_check.specs.Values.{IsWellFormed}
use Rattle.width_check.specs.Typing.{channel_width, var_width, ReadsFrom, IsOfWidth, IsProcess, AreProcesses, AreChoices, IsTyped}
use Rattle.width_check.specs.Reads.{reads}
use Rattle.handshake_expand.specs.Layout.{formula_size, through_size, size_of, turn_size, branches_size, guards_size, bodies_size, blocks_before, var_from, root_request, body_from, nodes_of}
use Rattle.handshake_expand.specs.Answers.{guards_from, bodies_from, select_own, again_own}
use Rattle.cell_parallel.specs.Trees.{tree_rules}
use Rattle.cell_variable.specs.Variables.{bits_from, bits_rules, written_leaves, variable_rules, all_written, write_answer}
use Rattle.cell_select.specs.Selections.{Choosing, Repeating, all_false, only_one_true, latches, starts, select_rules, again_rules}
use Rattle.function_blocks.specs.Expressions.{formula_result, formula_rules, read_bits}
use Rattle.handshake_expand.specs.Sites.{sites_in, sites_in_turn, sites_in_branches, sites_in_bodies, in_body}
use Rattle.net_compose.specs.Translation.{through_at, block_bits, bits_at, written_at, rails_at, q_rules, through_rules, branch_answers, guards_rules, choosing_at, repeating_at, branch_ends, branches_end, rules_of, turn_rules, branches_rules, bodies_rules, send_site, receive_site, write_site, assigned_rails, rail_rules, channel_rules, channels_rules, vars_rules, all_rules, translation}
use Rattle.net_compose.proofs.GuardCosts.{cost, cost-append, net_cost, formula_cheap, tree_cheap, or_cost, silent_cost, singles_cost, size_wide}
use Rattle.net_compose.proofs.Sizes.{Counted, has_bits, block_length, pairs_length, pairs_of_guards, ends_length, root_and_body}
use Rattle.circuit_places.proofs.LineNames.{self_number, same_number}
use Rattle.cell_channel.specs.Ends.{port_rules}

-- a product by adding up, as sites are counted bit by bit
abbrev pub times : ℕ → ℕ → ℕ
times zero n = 0
times (suc k) n = n + times k n

times_sum : (k a b : ℕ) → times k (a + b) ≡ times k a + times k b
times_sum zero a b = refl
times_sum (suc k) a b = let e = times_sum k a b in omega (arith, e)

times_none : (k : ℕ) → times k 0 ≡ 0
times_none zero = refl
times_none (suc k) = let e = times_none k in omega (arith, e)

times_one : (k : ℕ) → times k 1 ≡ k
times_one zero = refl
times_one (suc k) = let e = times_one k in omega (arith, e)

-- what the merges of all channels, and of all variables, cost where the sites of each are so many
abbrev pub at_channels : (sends receives : ℕ → ℕ) → (k : ℕ) → List Channel → ℕ
at_channels s r k [] = 0
at_channels s r k (c ∷ cs) = 4 * times c.width (s k) + 2 * r k + at_channels s r (suc k) cs

abbrev pub at_vars : (writes : ℕ → ℕ) → (x : ℕ) → List Var → ℕ
at_vars w x [] = 0
at_vars w x (v ∷ vs) = 4 * times v.width (w x) + at_vars w (suc x) vs

channels_sum : (s r t u : ℕ → ℕ) (k : ℕ) (cs : List Channel) → at_channels (λ i. s i + t i) (λ i. r i + u i) k cs ≡ at_channels s r k cs + at_channels t u k cs
channels_sum s r t u k [] = refl
channels_sum s r t u k (c ∷ cs) =
    let e = times_sum c.width (s k) (t k) in
    let rest = channels_sum s r t u (suc k) cs in
    omega (arith, e, rest)

vars_sum : (w z : ℕ → ℕ) (x : ℕ) (vs : List Var) → at_vars (λ i. w i + z i) x vs ≡ at_vars w x vs + at_vars z x vs
vars_sum w z x [] = refl
vars_sum w z x (v ∷ vs) =
    let e = times_sum v.width (w x) (z x) in
    let rest = vars_sum w z (suc x) vs in
    omega (arith, e, rest)

channels_as : (s r t u : ℕ → ℕ) → ((i : ℕ) → s i ≡ t i) → ((i : ℕ) → r i ≡ u i) → (k : ℕ) (cs : List Channel) → at_channels s r k cs ≡ at_channels t u k cs
channels_as s r t u h j k [] = refl
channels_as s r t u h j k (c ∷ cs) =
    let e = ap (times c.width) (h k) in
    let f = j k in
    let rest = channels_as s r t u h j (suc k) cs in
    omega (arith, e, f, rest)

vars_as : (w z : ℕ → ℕ) → ((i : ℕ) → w i ≡ z i) → (x : ℕ) (vs : List Var) → at_vars w x vs ≡ at_vars z x vs
vars_as w z h x [] = refl
vars_as w z h x (v ∷ vs) =
    let e = ap (times v.width) (h x) in
    let rest = vars_as w z h (suc x) vs in
    omega (arith, e, rest)

abbrev none : ℕ → ℕ
none i = 0

channels_none : (k : ℕ) (cs : List Channel) → at_channels none none k cs ≡ 0
channels_none k [] = refl
channels_none k (c ∷ cs) = let e = times_none c.width in let rest = channels_none (suc k) cs in omega (arith, e, rest)

vars_none : (x : ℕ) (vs : List Var) → at_vars none x vs ≡ 0
vars_none x [] = refl
vars_none x (v ∷ vs) = let e = times_none v.width in let rest = vars_none (suc x) vs in omega (arith, e, rest)

-- one site, of this number
abbrev only : ℕ → ℕ → ℕ
only zero zero = 1
only zero (suc i) = 0
only (suc j) zero = 0
only (suc j) (suc i) = only j i

only_self : (j : ℕ) → only j j ≡ 1
only_self zero = refl
only_self (suc j) = only_self j

only_other : (j i : ℕ) → j ≢ i → only j i ≡ 0
only_other zero zero ne = absurd (ne refl)
only_other zero (suc i) ne = refl
only_other (suc j) zero ne = refl
only_other (suc j) (suc i) ne = only_other j i (λ e. ne (ap suc e))

told : (j i : ℕ) (b : Bool) → (j == i) ≡ b → (if b then 1 else 0) ≡ only j i
told j i true e = sym (subst (λ n. only j n ≡ 1) (same_number j i e) (only_self j))
told j i false e = sym (only_other j i (λ same. absurd (cc (sym (subst (λ n. (j == n) ≡ true) same (self_number j)) ∙ e))))

leaves_length : (width from : ℕ) → length (written_leaves width from) ≡ width
leaves_length zero from = refl
leaves_length (suc n) from = ap suc (leaves_length n (from + 5))

-- counted from 0 on, the site of a number costs what its width says
shifted_channels : (s r : ℕ → ℕ) (k : ℕ) (cs : List Channel) → at_channels s r (suc k) cs ≡ at_channels (λ i. s (suc i)) (λ i. r (suc i)) k cs
shifted_channels s r k [] = refl
shifted_channels s r k (c ∷ cs) = let e = shifted_channels s r (suc k) cs in omega (arith, e)

shifted_vars : (w : ℕ → ℕ) (x : ℕ) (vs : List Var) → at_vars w (suc x) vs ≡ at_vars (λ i. w (suc i)) x vs
shifted_vars w x [] = refl
shifted_vars w x (v ∷ vs) = let e = shifted_vars w (suc x) vs in omega (arith, e)

one_send : (j : ℕ) (cs : List Channel) → at_channels (only j) none 0 cs ≡ 4 * channel_width cs j
one_send j [] = refl
one_send zero (c ∷ cs) =
    let e = times_one c.width in
    let rest = shifted_channels (only 0) none 0 cs ∙ channels_none 0 cs in
    omega (arith, e, rest)
one_send (suc j) (c ∷ cs) =
    let e = times_none c.width in
    let rest = shifted_channels (only (suc j)) none 0 cs ∙ one_send j cs in
    omega (arith, e, rest)

one_receive : (j : ℕ) (cs : List Channel) → at_channels none (only j) 0 cs ≤ 2
one_receive j [] = omega arith
one_receive zero (c ∷ cs) =
    let e = times_none c.width in
    let rest = shifted_channels none (only 0) 0 cs ∙ channels_none 0 cs in
    omega (arith, e, rest)
one_receive (suc j) (c ∷ cs) =
    let e = times_none c.width in
    let next = shifted_channels none (only (suc j)) 0 cs in
    let rest = one_receive j cs in
    omega (arith, e, next, rest)

one_write : (j : ℕ) (vs : List Var) → at_vars (only j) 0 vs ≡ 4 * var_width vs j
one_write j [] = refl
one_write zero (v ∷ vs) =
    let e = times_one v.width in
    let rest = shifted_vars (only 0) 0 vs ∙ vars_none 0 vs in
    omega (arith, e, rest)
one_write (suc j) (v ∷ vs) =
    let e = times_none v.width in
    let rest = shifted_vars (only (suc j)) 0 vs ∙ one_write j vs in
    omega (arith, e, rest)

-- merges

merged_cost : (sites : List (List Pair)) (bit : ℕ) → cost (merged_true sites bit ∷ merged_false sites bit ∷ []) ≡ 4 * length sites
merged_cost sites bit =
    let t = or_cost (map (λ (site : List Pair). (pair_of site bit).t) sites) in
    let f = or_cost (map (λ (site : List Pair). (pair_of site bit).f) sites) in
    let n : length (map (λ (site : List Pair). (pair_of site bit).t) sites) ≡ length sites = length-map sites _ in
    let m : length (map (λ (site : List Pair). (pair_of site bit).f) sites) ≡ length sites = length-map sites _ in
    omega (arith, t, f, n, m)

pub rails_cost : (sites : List (List Pair)) (place width : ℕ) → cost (rail_rules sites place width) ≡ 4 * times width (length sites)
rails_cost sites place zero = refl
rails_cost sites place (suc n) =
    let one = merged_cost sites place in
    let rest = rails_cost sites (suc place) n in
    omega (arith, one, rest)

bits_cost : (sites : List (List Pair)) (place width from : ℕ) →
    cost (bits_rules sites place (bits_from width from)) ≡ 12 * width + 4 * times width (length sites)
bits_cost sites place zero from = refl
bits_cost sites place (suc n) from =
    let one = merged_cost sites place in
    let rest = bits_cost sites (suc place) n (from + 5) in
    omega (arith, one, rest)

-- ports and what is read
reads_cost : (request : ℕ) (xs : List Pair) → cost (read_bits request xs) ≡ 6 * length xs
reads_cost request [] = refl
reads_cost request (x ∷ xs) = let e = reads_cost request xs in omega (arith, e)

ports_cost : (request : ℕ) (xs : List Pair) → cost (port_rules request xs) ≡ 8 * length xs
ports_cost request [] = refl
ports_cost request (x ∷ xs) = let e = ports_cost request xs in omega (arith, e)

-- selections of at most 16 guards
rails_twice : (hs : List Pair) → length (rails_of hs) ≡ 2 * length hs
rails_twice [] = refl
rails_twice (h ∷ hs) = let e = rails_twice hs in omega (arith, e)

abbrev latched_by : ℕ → List Literal → NodeRules
latched_by request wanted = record { up = one_term wanted; down = one_term (is_low request ∷ []) }

latches_cost : (request : ℕ) (before behind : List Pair) → length before + length behind ≤ 16 →
    cost (map (latched_by request) (only_one_true before behind)) ≤ 17 * length behind
latches_cost request before [] few = omega arith
latches_cost request before (h ∷ behind) few =
    let longer : length (before ++ h ∷ []) ≡ length before + 1 = length-append before (h ∷ []) in
    let rest = latches_cost request (before ++ h ∷ []) behind (omega (arith, few, longer)) in
    let wanted : length (all_false before ++ is_high h.t ∷ all_false behind) ≡ length (all_false before) + length (is_high h.t ∷ all_false behind) =
    length-append (all_false before) (is_high h.t ∷ all_false behind) in
    let front : length (all_false before) ≡ length before = length-map before _ in
    let back : length (all_false behind) ≡ length behind = length-map behind _ in
    omega (arith, few, rest, wanted, front, back)

starts_cost : (ls : List ℕ) (hs : List Pair) → length hs ≤ 16 → cost (starts ls hs) ≤ 34 * length ls
starts_cost [] hs few = omega arith
starts_cost (l ∷ ls) hs few =
    let rest = starts_cost ls hs few in
    let all : length (lows (rails_of hs)) ≡ length (rails_of hs) = length-map (rails_of hs) _ in
    let twice = rails_twice hs in
    omega (arith, few, rest, all, twice)

abbrev latches_and_starts : Choosing → List NodeRules
latches_and_starts c = latches c.request c.guards ++ starts c.latched c.guards

pub record OfCount (c : Choosing) (n : ℕ) : Type 0 where
  pub latched : length c.latched ≡ n
  pub guards : length c.guards ≡ n
  pub answers : length c.answers ≡ n

behind_cost : (c : Choosing) (n : ℕ) → OfCount c n → n ≤ 16 → cost (latches_and_starts c) ≤ 51 * n
behind_cost c n is few =
    let parts = cost-append (latches c.request c.guards) (starts c.latched c.guards) in
    let guards = is.guards in
    let latched = is.latched in
    let one : cost (latches c.request c.guards) ≤ 17 * length c.guards = latches_cost c.request [] c.guards (omega (arith, guards, few)) in
    let two = starts_cost c.latched c.guards (omega (arith, guards, few)) in
    omega (arith, parts, guards, latched, one, two)

pub select_cost : (c : Choosing) (n : ℕ) → OfCount c n → n ≤ 16 → cost (select_rules c) ≤ 55 * n + 4
select_cost c n is few =
    let behind = behind_cost c n is few in
    let up = singles_cost c.answers in
    let down : length (lows c.answers) ≡ length c.answers = length-map c.answers _ in
    let any = or_cost c.latched in
    let answers = is.answers in
    let latched = is.latched in
    omega (arith, behind, up, down, any, answers, latched)

pub again_cost : (r : Repeating) (n : ℕ) → OfCount r.turn n → n ≤ 16 → cost (again_rules r) ≤ 58 * n + 15
again_cost r n is few =
    let c = r.turn in
    let behind = behind_cost r.turn n is few in
    let up = singles_cost r.turn.answers in
    let down : length (lows r.turn.answers) ≡ length r.turn.answers = length-map r.turn.answers _ in
    let any = or_cost (r.leave ∷ r.turn.latched) in
    let all : length (lows (rails_of r.turn.guards)) ≡ length (rails_of r.turn.guards) = length-map (rails_of r.turn.guards) _ in
    let twice = rails_twice r.turn.guards in
    let none : length (all_false r.turn.guards) ≡ length r.turn.guards = length-map r.turn.guards _ in
    let answers = is.answers in
    let latched = is.latched in
    let guards = is.guards in
    omega (arith, behind, up, down, any, all, twice, none, answers, latched, guards)

module _ (p : TypedProgram) where
  -- what the merges of all channels and variables cost where they have these sites
  abbrev pub share : (sends : ℕ → List (List Pair)) (receives : ℕ → List ℕ) (writes : ℕ → List (List Pair)) → ℕ
  share sends receives writes = at_channels (λ k. length (sends k)) (λ k. length (receives k)) 0 p.channels + at_vars (λ x. length (writes x)) 0 p.vars

  pub share_both : (s t : ℕ → List (List Pair)) (r u : ℕ → List ℕ) (w z : ℕ → List (List Pair)) →
      share (λ k. s k ++ t k) (λ k. r k ++ u k) (λ x. w x ++ z x) ≡ share s r w + share t u z
  share_both s t r u w z =
      let channels =
      channels_as (λ k. length (s k ++ t k)) (λ k. length (r k ++ u k)) (λ k. length (s k) + length (t k)) (λ k. length (r k) + length (u k))
      (λ k. length-append (s k) (t k)) (λ k. length-append (r k) (u k)) 0 p.channels
      ∙ channels_sum (λ k. length (s k)) (λ k. length (r k)) (λ k. length (t k)) (λ k. length (u k)) 0 p.channels in
      let vars =
      vars_as (λ x. length (w x ++ z x)) (λ x. length (w x) + length (z x)) (λ x. length-append (w x) (z x)) 0 p.vars
      ∙ vars_sum (λ x. length (w x)) (λ x. length (z x)) 0 p.vars in
      omega (arith, channels, vars)

  pub share_none : share (λ k. []) (λ k. []) (λ x. []) ≡ 0
  share_none = let c = channels_none 0 p.channels in let v = vars_none 0 p.vars in omega (arith, c, v)

  abbrev pub share_of : Process → (from : ℕ) → ℕ
  share_of s from = share (λ k. sites_in p (send_site k) s from) (λ k. sites_in p (receive_site k) s from) (λ x. sites_in p (write_site p x) s from)

  abbrev share_of_turn : Processes → (from : ℕ) → ℕ
  share_of_turn members from = share (λ k. sites_in_turn p (send_site k) members from) (λ k. sites_in_turn p (receive_site k) members from)
      (λ x. sites_in_turn p (write_site p x) members from)

  abbrev share_of_branches : Processes → (from : ℕ) → ℕ
  share_of_branches members from = share (λ k. sites_in_branches p (send_site k) members from) (λ k. sites_in_branches p (receive_site k) members from)
      (λ x. sites_in_branches p (write_site p x) members from)

  abbrev share_of_bodies : Choices → (from : ℕ) → ℕ
  share_of_bodies choices from = share (λ k. sites_in_bodies p (send_site k) choices from) (λ k. sites_in_bodies p (receive_site k) choices from)
      (λ x. sites_in_bodies p (write_site p x) choices from)

  -- leaves
  one_site : {X : Type 0} (j i : ℕ) (x : X) → length (if j == i then x ∷ [] else []) ≡ only j i
  one_site {X = X} j i x = picked (j == i) x ∙ told j i (j == i) refl
    where
      picked : (b : Bool) (x : X) → length (if b then x ∷ [] else []) ≡ (if b then 1 else 0)
      picked true x = refl
      picked false x = refl

  sends_one : (chan from : ℕ) (at : Span) (e : Formula) → share_of (sending chan at e) from ≡ 4 * channel_width p.channels chan
  sends_one chan from at e =
      let c = channels_as (λ k. length (send_site k (sending chan at e) from)) none (only chan) none (λ k. one_site chan k (formula_result e (from + 1)))
      (λ k. refl) 0 p.channels ∙ one_send chan p.channels in
      let v = vars_none 0 p.vars in
      omega (arith, c, v)

  writes_one : (x from : ℕ) (at : Span) (e : Formula) → share_of (assigning x at e) from ≡ 4 * var_width p.vars x
  writes_one x from at e =
      let c = channels_none 0 p.channels in
      let v = vars_as (λ y. length (write_site p y (assigning x at e) from)) (only x) (λ y. one_site x y (assigned_rails p y e from)) 0 p.vars
      ∙ one_write x p.vars in
      omega (arith, c, v)

  takes_one : (chan x from : ℕ) (at to : Span) → share_of (receiving chan at x to) from ≤ 2 + 4 * var_width p.vars x
  takes_one chan x from at to =
      let c = channels_as none (λ k. length (receive_site k (receiving chan at x to) from)) none (only chan) (λ k. refl) (λ k. one_site chan k (from + 1)) 0
      p.channels in
      let one = one_receive chan p.channels in
      let v = vars_as (λ y. length (write_site p y (receiving chan at x to) from)) (only x)
      (λ y. one_site x y (pairs_from (channel_width p.channels chan) (from + 2))) 0 p.vars ∙ one_write x p.vars in
      omega (arith, c, one, v)

  either_cost : (b : Bool) (xs ys : List NodeRules) (m n w : ℕ) → cost xs + w ≤ 64 * m → cost ys + w ≤ 64 * n →
      cost (if b then xs else ys) + w ≤ 64 * (if b then m else n)
  either_cost true xs ys m n w h k = h
  either_cost false xs ys m n w h k = k

  answers_length : (choices : Choices) (from : ℕ) → length (branch_answers p choices from) ≡ choice_count choices
  answers_length no_choices from = refl
  answers_length (and_choice g s more) from = let e = answers_length more (from + size_of p s) in omega (arith, e)

  module _ (k : Counted) where
    pub block_cost : (width from : ℕ) (sites : List (List Pair)) → cost (variable_rules width from sites) ≤ 42 * width + 4 * times width (length sites)
    block_cost width from sites =
        let parts = cost-append (bits_rules sites 0 (bits_from width from)) (tree_rules (written_leaves width from) (from + 5 * width)) in
        let bits = bits_cost sites 0 width from in
        let tree = tree_cheap (written_leaves width from) (from + 5 * width) in
        let count = k.tree (written_leaves width from) (from + 5 * width) in
        let leaves = leaves_length width from in
        omega (arith, parts, bits, tree, count, leaves)

    expression_cost : (e : Formula) (request from : ℕ) → IsWellFormed e → ReadsFrom p.vars e →
        cost (formula_rules (bits_at p) e request from) ≤ 30 * formula_size e
    expression_cost e request from formed reads =
        let cheap = formula_cheap (bits_at p) e request from in
        let n = k.rules p.vars (bits_at p) (has_bits p) e request from formed reads in
        omega (arith, cheap, n)

    pub guards_cost : (choices : Choices) (request from : ℕ) → AreChoices p.channels p.vars choices →
        cost (guards_rules p choices request from) ≤ 30 * guards_size choices
    guards_cost no_choices request from h = omega arith
    guards_cost (and_choice g s more) request from h =
        let parts = cost-append (formula_rules (bits_at p) g request from) (guards_rules p more request (from + formula_size g)) in
        let one = expression_cost g request from h.0.formed h.0.reads in
        let rest = guards_cost more request (from + formula_size g) h.2 in
        omega (arith, parts, one, rest)

    of_count : (choices : Choices) (request any own from : ℕ) → AreChoices p.channels p.vars choices →
        OfCount (choosing_at p choices request any own from) (choice_count choices)
    of_count choices request any own from h = record {
      latched = length-range_with_len (from + own) (choice_count choices);
      guards = pairs_of_guards k p choices (guards_from choices own from) h;
      answers = answers_length choices (bodies_from choices own from);
    }

    through_cost : (x : ℕ) (e : Formula) (request from : ℕ) → IsOfWidth p.vars (var_width p.vars x) e →
        cost (through_rules p x e request from) + 4 * var_width p.vars x ≤ 64 * through_size (var_width p.vars x) e
    through_cost x e request from is =
        let h = through_at (var_width p.vars x) (formula_size e) from in
        let back = read_bits (h.element + 2) (block_bits h.width h.block) in
        let own = formula_rules (bits_at p) e h.element (h.first + 1) in
        let block = variable_rules h.width h.block (formula_result e (h.first + 1) ∷ []) in
        let last : cost back ≡ 6 * length (block_bits h.width h.block) = reads_cost (h.element + 2) (block_bits h.width h.block) in
        let wide : length (block_bits h.width h.block) ≡ h.width = block_length h.width h.block in
        let middle : cost own ≤ 30 * formula_size e = expression_cost e h.element (h.first + 1) is.formed is.reads in
        let first : cost block ≤ 42 * h.width + 4 * times h.width 1 = block_cost h.width h.block (formula_result e (h.first + 1) ∷ []) in
        let once = times_one h.width in
        let behind = cost-append own (write_answer (h.element + 2) (written_at p x) ∷ back) in
        let whole = cost-append block (q_rules request h.first h.element
        ++ (write_answer h.element (all_written h.width h.block) ∷ (own ++ (write_answer (h.element + 2) (written_at p x) ∷ back)))) in
        omega (arith, last, wide, middle, first, once, behind, whole)

    mutual
      pub fits : (s : Process) (request from : ℕ) → IsProcess p.channels p.vars s → cost (rules_of p s request from) + share_of s from ≤ 64 * size_of p s
      fits skipping request from h = let e = share_none in omega (arith, e)
      fits (assigning x at e) request from h =
          let one = writes_one x from at e in
          let own = expression_cost e request (from + 1) h.1.formed h.1.reads in
          let wide = size_wide e h.1.formed in
          let agrees = h.1.agrees in
          let through = through_cost x e request from h.1 in
          let plain : cost (write_answer request (written_at p x) ∷ formula_rules (bits_at p) e request (from + 1)) +
          4 * var_width p.vars x ≤ 64 * (1 + formula_size e) = omega (arith, own, wide, agrees) in
          let both = either_cost (reads x e) (through_rules p x e request from) (write_answer request (written_at p x)
          ∷ formula_rules (bits_at p) e request (from + 1)) (through_size (var_width p.vars x) e) (1 + formula_size e) (4 * var_width p.vars x) through
          plain in
          omega (arith, one, both)
      fits (sending chan at e) request from h =
          let one = sends_one chan from at e in
          let own = expression_cost e request (from + 1) h.sent.formed h.sent.reads in
          let wide = size_wide e h.sent.formed in
          let agrees = h.sent.agrees in
          omega (arith, one, own, wide, agrees)
      fits (receiving chan at x to) request from h =
          let one = takes_one chan x from at to in
          let ports = ports_cost request (rails_at p chan) in
          let rails : length (rails_at p chan) ≡ channel_width p.channels chan = pairs_length _ _ in
          let widths = h.widths in
          omega (arith, one, ports, rails, widths)
      fits (in_turn members) request from h = fits_turn members request from h.1
      fits (side_by_side members) request from h =
          let branches = fits_branches members request from h.1 in
          let tree = tree_cheap (branch_ends p members from) (branches_end p members from) in
          let count = k.tree (branch_ends p members from) (branches_end p members from) in
          let ends = ends_length p members from in
          let parts = cost-append (branches_rules p members request from) (tree_rules (branch_ends p members from) (branches_end p members from)) in
          omega (arith, branches, tree, count, ends, parts)
      fits (choosing false choices) request from h =
          let own = select_cost (choosing_at p choices request (from + 2) select_own from) (choice_count choices)
          (of_count choices request (from + 2) select_own from h.2) h.1 in
          let guards = guards_cost choices (from + 1) (guards_from choices select_own from) h.2 in
          let bodies = fits_bodies choices (from + select_own + choice_count choices) (bodies_from choices select_own from) h.2 in
          let back = cost-append (guards_rules p choices (from + 1) (guards_from choices select_own from))
          (bodies_rules p choices (from + select_own + choice_count choices) (bodies_from choices select_own from)) in
          let whole = cost-append (select_rules (choosing_at p choices request (from + 2) select_own from))
          (guards_rules p choices (from + 1) (guards_from choices select_own from)
          ++ bodies_rules p choices (from + select_own + choice_count choices) (bodies_from choices select_own from)) in
          omega (arith, own, guards, bodies, back, whole)
      fits (choosing true choices) request from h =
          let own = again_cost (repeating_at p choices request from) (choice_count choices) (of_count choices (from + 1) (from + 4) again_own from h.2) h.1 in
          let guards = guards_cost choices (from + 3) (guards_from choices again_own from) h.2 in
          let bodies = fits_bodies choices (from + again_own + choice_count choices) (bodies_from choices again_own from) h.2 in
          let back = cost-append (guards_rules p choices (from + 3) (guards_from choices again_own from))
          (bodies_rules p choices (from + again_own + choice_count choices) (bodies_from choices again_own from)) in
          let whole = cost-append (again_rules (repeating_at p choices request from)) (guards_rules p choices (from + 3) (guards_from choices again_own from)
          ++ bodies_rules p choices (from + again_own + choice_count choices) (bodies_from choices again_own from)) in
          omega (arith, own, guards, bodies, back, whole)
      fits (repeating s) request from h = let e = fits s (from + 1) (from + 2) h in omega (arith, e)

      fits_turn : (members : Processes) (request from : ℕ) → AreProcesses p.channels p.vars members →
          cost (turn_rules p members request from) + share_of_turn members from ≤ 64 * turn_size p members
      fits_turn no_members request from h = let e = share_none in omega (arith, e)
      fits_turn (and_member s no_members) request from h = fits s request from h.0
      fits_turn (and_member s (and_member t more)) request from h =
          let to = from + 3 + size_of p s in
          let one = fits s from (from + 3) h.0 in
          let rest = fits_turn (and_member t more) (from + 2) (from + 3 + size_of p s) h.1 in
          let parts = cost-append (rules_of p s from (from + 3)) (turn_rules p (and_member t more) (from + 2) (from + 3 + size_of p s)) in
          let shares : share_of_turn (and_member s (and_member t more)) from ≡ share_of s (from + 3) +
          share_of_turn (and_member t more) (from + 3 + size_of p s) = share_both _ _ _ _ _ _ in
          omega (arith, one, rest, parts, shares)

      fits_branches : (members : Processes) (request from : ℕ) → AreProcesses p.channels p.vars members →
          cost (branches_rules p members request from) + share_of_branches members from ≤ 64 * branches_size p members
      fits_branches no_members request from h = let e = share_none in omega (arith, e)
      fits_branches (and_member s more) request from h =
          let one = fits s from (from + 3) h.0 in
          let rest = fits_branches more request (from + 3 + size_of p s) h.1 in
          let parts = cost-append (rules_of p s from (from + 3)) (branches_rules p more request (from + 3 + size_of p s)) in
          let shares : share_of_branches (and_member s more) from ≡ share_of s (from + 3) + share_of_branches more (from + 3 + size_of p s) =
          share_both _ _ _ _ _ _ in
          omega (arith, one, rest, parts, shares)

      fits_bodies : (choices : Choices) (start from : ℕ) → AreChoices p.channels p.vars choices →
          cost (bodies_rules p choices start from) + share_of_bodies choices from ≤ 64 * bodies_size p choices
      fits_bodies no_choices start from h = let e = share_none in omega (arith, e)
      fits_bodies (and_choice g s more) start from h =
          let one = fits s start from h.1 in
          let rest = fits_bodies more (start + 1) (from + size_of p s) h.2 in
          let parts = cost-append (rules_of p s start from) (bodies_rules p more (start + 1) (from + size_of p s)) in
          let shares : share_of_bodies (and_choice g s more) from ≡ share_of s from + share_of_bodies more (from + size_of p s) = share_both _ _ _ _ _ _ in
          omega (arith, one, rest, parts, shares)

    wires_cost : (i width : ℕ) (kind : Kind) → cost (channel_rules p i width kind) ≤ 4 * times width (length (in_body p (send_site i))) +
        2 * length (in_body p (receive_site i))
    wires_cost i width In =
        let none = silent_cost (2 * width) in
        let ack = or_cost (in_body p (receive_site i)) in
        let parts = cost-append (replicate (2 * width) no_rules) (or_of (in_body p (receive_site i)) ∷ []) in
        omega (arith, none, ack, parts)
    wires_cost i width Out =
        let rails = rails_cost (in_body p (send_site i)) 0 width in
        let parts = cost-append (rail_rules (in_body p (send_site i)) 0 width) (no_rules ∷ []) in
        omega (arith, rails, parts)
    wires_cost i width Chan =
        let rails = rails_cost (in_body p (send_site i)) 0 width in
        let ack = or_cost (in_body p (receive_site i)) in
        let parts = cost-append (rail_rules (in_body p (send_site i)) 0 width) (or_of (in_body p (receive_site i)) ∷ []) in
        omega (arith, rails, ack, parts)

    channels_cost : (i : ℕ) (cs : List Channel) →
        cost (channels_rules p i cs) ≤ at_channels (λ j. length (in_body p (send_site j))) (λ j. length (in_body p (receive_site j))) i cs
    channels_cost i [] = omega arith
    channels_cost i (c ∷ cs) =
        let one = wires_cost i c.width c.kind in
        let rest = channels_cost (suc i) cs in
        let parts = cost-append (channel_rules p i c.width c.kind) (channels_rules p (suc i) cs) in
        omega (arith, one, rest, parts)

    vars_cost : (x : ℕ) (vs : List Var) → cost (vars_rules p x vs) ≤ 64 * blocks_before vs (length vs) + at_vars (λ y. length (in_body p (write_site p y))) x vs
    vars_cost x [] = omega arith
    vars_cost x (v ∷ vs) =
        let one = block_cost v.width (var_from p x) (in_body p (write_site p x)) in
        let rest = vars_cost (suc x) vs in
        let parts = cost-append (variable_rules v.width (var_from p x) (in_body p (write_site p x))) (vars_rules p (suc x) vs) in
        omega (arith, one, rest, parts)

    whole_cost : IsProcess p.channels p.vars p.body → cost (all_rules p) ≤ 64 * nodes_of p
    whole_cost h =
        let body = fits p.body (root_request p) (body_from p) h in
        let channels = channels_cost 0 p.channels in
        let vars = vars_cost 0 p.vars in
        let back = cost-append (vars_rules p 0 p.vars) (root_and_body p) in
        let parts = cost-append (channels_rules p 0 p.channels) (vars_rules p 0 p.vars ++ root_and_body p) in
        omega (arith, body, channels, vars, back, parts)

pub few_literals : Counted → (p : TypedProgram) → IsTyped p.channels p.vars p.body → literals_of (translation p) ≤ 64 * nodes_of p
few_literals k p typed =
    let e = net_cost (all_rules p) in
    let bound = whole_cost p k typed.body_is in
    omega (arith, e, bound)
