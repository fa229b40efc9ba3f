-- What an acknowledge does to the term: where it rises a value passes, and where it falls nothing does.
use Rattle.std.proofs.Common.{◌≡◌, ℕ, ◌<◌, ◌≤◌, length, Bool, true, false, List, refl, sym, ap, ◌∙◌, subst}
use Rattle.std.specs.Prelude.{not, ◌==◌, ◌&&◌, ◌||◌, Some, is_some}
use Rattle.chp_base.specs.declared.span.Span.{Span}
use Rattle.width_check.specs.Processes.{Formula, Process, skipping, receiving, in_turn, side_by_side, Processes, and_member, TypedProgram, choosing, Choices, no_members}
use Rattle.chp_meaning.specs.Terms.{Term, Terms, no_branches, and_branch, together, finished, active, opened, followed, here as at_here}
use Rattle.circuit_places.specs.Lines.{Line, of_channel, of_var, same_line, site_statement, line_width, Rails, Seen}
use Rattle.circuit_places.specs.Whole.{value_on, neutral_on}
use Rattle.width_check.specs.Values.{width_of, value}
use Rattle.function_blocks.specs.Waves.{good, out_rail, full, store_of}
use Rattle.circuit_places.specs.Circuit.{Pairs, gate_count}
use Rattle.circuit_places.specs.Whole.{is_merged}
use Rattle.circuit_places.proofs.PortLeaf.{runs_kept}
use Rattle.circuit_places.proofs.RailLemmas.{snd_true}
use Rattle.circuit_places.proofs.Places.{Mode, idle, running, answered, returning, asks, inner_may, SiteMay, GuardedAt, At, TurnAt, BranchesAt, g_rests, g_in, g_past, g_back, rests, at_skip, at_assign, at_send, at_receive, at_turn, at_side, at_body, no_more, and_at, turn_rests, at_last, at_member, at_later, Shown, none_shown, both_shown, guarded_shown, shown, turn_shown, branches_shown, site_shown, under_way, writing, guarded_writing, turn_writing, branches_writing, port_may, port_shown, PortFits, SiteFits, GuardedFits, Fits, TurnFits, BranchesFit, at_choice, at_turning, at_closing, ChoiceAt, control_at, inside_at, ChosenAt, this_one, another, choice_shown, chosen_shown, ChoiceFits, ChosenFits, choice_writing, chosen_writing}
use Rattle.circuit_places.proofs.Meets.{HasLine, PortMeets, SiteMeets, read_declared, Meets, TurnMeets, EachMeets, ChoiceMeets}
use Rattle.circuit_places.proofs.Left.{waits, inner_left, again, guarded_left, left, turn_left, branches_left, Act, left_done, branch_term, choice_left, chosen_left}
use Rattle.circuit_places.proofs.Exchange.{One, Fired, FiredInside, fired_then, fired_together, none_fired, fired_both, fired_map, fired_map_inside}
use Rattle.circuit_places.proofs.Hears.{heard_on, Hearing, none_heard, heard_both, one_hears, this_hears, others_hear, port_hears}
use Rattle.circuit_places.proofs.Writing.{OneTurned, guarded_writing_deaf, branches_writing_deaf}
use Rattle.circuit_places.proofs.Everywhere.{View, GoesUp, guarded_everywhere}
use Rattle.circuit_places.proofs.Talks.{guarded_says_talks, branches_say_talk, either, Beside, beside, or_false_left, or_false_right}
use Rattle.circuit_places.proofs.Flow.{Clean, low_of, cases}
use Rattle.circuit_places.proofs.LineNames.{self_number, same_line_is}
use Rattle.circuit_places.proofs.Change.{Ready, ready_down, Kept, kept_down, AckTurned, near, ready_full, kept_none, site_runs, site_returns}

-- A step that passes the number on the line's rails: the value of an expression over each store that has the numbers of
-- the variables, but for those that are being written.
pub record Passes (P : TypedProgram) (env : Seen) (busy : ℕ → Bool) (c : Line) (x y : Term) : Type 0 where
  pub span : Span
  pub expression : Formula
  pub act : Act x (site_statement c span expression) finished y
  pub read : (store : ℕ → ℕ) → ((v : ℕ) → v < length P.vars → busy v ≡ false → store_of P.vars env.bit v ≡ store v)
      → value_on (line_width P c) (env.rail c) ≡ Some (value store expression)

-- A send or an assignment on the line that is done by it.
pub record Sent (P : TypedProgram) (env : Seen) (busy : ℕ → Bool) (c : Line) (p : Process) : Type 0 where
  pub span : Span
  pub expression : Formula
  pub is : p ≡ site_statement c span expression
  pub read : (store : ℕ → ℕ) → ((v : ℕ) → v < length P.vars → busy v ≡ false → store_of P.vars env.bit v ≡ store v)
      → value_on (line_width P c) (env.rail c) ≡ Some (value store expression)

pub passes_of : (P : TypedProgram) (env : Seen) (busy : ℕ → Bool) (c : Line) (x y : Term) → One (Sent P env busy c) x y → Passes P env busy c x y
passes_of P env busy c x y r = record {
  span = r.is.span;
  expression = r.is.expression;
  act = subst (λ (p : Process). Act x p finished y) r.is.is r.act;
  read = r.is.read;
}

module _ (P : TypedProgram) (env now : Seen) (clean : Clean P env) (busy : ℕ → Bool) (c : Line) (t : AckTurned P env now c) (low : env.ack c ≡ false)
    (some : is_some (value_on (line_width P c) (env.rail c)) ≡ true) where
  -- what a statement with these variables being written holds of the ends of the line
  abbrev Rising : (x : Shown) (before after : ℕ → Bool) (u v : Term) → Type 0
  Rising x before after u v = Fired (Sent P env busy c) (Hearing P env c x before after) (x.says c) (heard_on c x) u v

  abbrev RisingInside : (x : Shown) (before after : ℕ → Bool) (us vs : Terms) → Type 0
  RisingInside x before after us vs = FiredInside (Sent P env busy c) (Hearing P env c x before after) (x.says c) (heard_on c x) us vs

  high : now.ack c ≡ true
  high = t.here ∙ ap not low

  one_turned : OneTurned env.ack now.ack c
  one_turned = record { far = t.far }

  -- where nothing is under way
  unmoved : (x : Shown) (before after : ℕ → Bool) (u : Term) → x.says c ≡ false → ((d : ℕ) → x.take d ≡ false) → Rising x before after u u
  unmoved x before after u says none =
      subst (λ (b : Bool). Fired (Sent P env busy c) (Hearing P env c x before after) b (heard_on c x) u u) (sym says)
      (subst (λ (b : Bool). Fired (Sent P env busy c) (Hearing P env c x before after) false b u u) (sym (none_heard c x none)) refl)

  -- a site of the line, which is a statement at d
  site_fires : (d : Line) (at : Span) (e : Formula) (m : Mode) (u : Pairs (gate_count e)) → SiteMay e m u → SiteMeets P d e
      → Ready c (env.rail c) busy (site_statement d at e) (site_shown d e u) → SiteFits d e m u env → (before after : ℕ → Bool)
      → Rising (site_shown d e u) before after (waits m (env.ack d) (active (site_statement d at e))) (waits m (now.ack d) (active (site_statement d at e)))
  site_fires d at e m u h meets r f before after =
      subst (λ (b : Bool). Fired (Sent P env busy c) (Hearing P env c (site_shown d e u) before after) (same_line d c) b
      (waits m (env.ack d) (active (site_statement d at e))) (waits m (now.ack d) (active (site_statement d at e))))
      (sym (none_heard c (site_shown d e u) (λ n. refl))) (by_line (same_line d c) refl)
    where
      told : m ≡ running → full e u ≡ true → SiteFits d e m u env → value_on (width_of e) (out_rail e u) ≡ Some (value (store_of P.vars env.bit) e)
      told is whole f = h.known.value_is P.vars env.bit u meets.reads clean.single (subst (λ (i : Mode). good (asks i) env.bit e u ≡ true) is f.1) whole

      passes : same_line d c ≡ true → One (Sent P env busy c) (waits m (env.ack d) (active (site_statement d at e)))
          (waits m (now.ack d) (active (site_statement d at e)))
      passes z =
          let same = same_line_is d c z in
          let ready = ready_full P env c some busy d at e m u h meets z r f in
          let l : env.ack d ≡ false = ap env.ack same ∙ low in
          let n : now.ack d ≡ true = near P env now c d t z ∙ ap not low in
          let runs : m ≡ running = site_runs P env d e m u h meets f ready.0 l in
          let x : waits m (env.ack d) (active (site_statement d at e)) ≡ active (site_statement c at e) = ap
          (λ i. waits i (env.ack d) (active (site_statement d at e))) runs
          ∙ (ap (λ i. waits running i (active (site_statement d at e))) l ∙ ap (λ i. active (site_statement i at e)) same) in
          let y : waits m (now.ack d) (active (site_statement d at e)) ≡ finished = ap (λ i. waits i (now.ack d) (active (site_statement d at e))) runs
          ∙ ap (λ i. waits running i (active (site_statement d at e))) n in
          record {
            p = site_statement c at e;
            is = record {
              span = at;
              expression = e;
              is = refl;
              read = λ store agree.
                  sym ready.1
                  ∙ (told runs ready.0 f
                  ∙ ap (λ (k : ℕ). Some k) (h.known.agrees (store_of P.vars env.bit) store
                  (λ v i. agree v (read_declared P e meets.reads v i) (r.calm v i))));
            };
            act = subst (λ (i : Term). Act i (site_statement c at e) finished (waits m (now.ack d) (active (site_statement d at e)))) (sym x)
                (record { at = at_here; stands = refl; then_is = y });
          }

      by_line : (z : Bool) → same_line d c ≡ z → Fired (Sent P env busy c) (Hearing P env c (site_shown d e u) before after) z false
          (waits m (env.ack d) (active (site_statement d at e))) (waits m (now.ack d) (active (site_statement d at e)))
      by_line false z = ap (λ i. waits m i (active (site_statement d at e))) (t.far d z)
      by_line true z = passes z

  -- a receive on the channel d
  port_fires : (d x : ℕ) (at to : Span) (m : Mode) (l : Bool) (q : Rails) → port_may m l ≡ true → PortMeets P d x
      → Ready c (env.rail c) busy (receiving d at x to) (port_shown d x l q) → PortFits d x m l q env
      → Rising (port_shown d x l q) (λ z. (x == z) && under_way m (env.ack (of_channel d))) (λ z. (x == z) && under_way m (now.ack (of_channel d)))
      (waits m (env.ack (of_channel d)) (active (receiving d at x to))) (waits m (now.ack (of_channel d)) (active (receiving d at x to)))
  port_fires d x at to m l q h meets r f =
      subst (λ (b : Bool). Fired (Sent P env busy c) (Hearing P env c (port_shown d x l q) (λ z. (x == z) && under_way m (env.ack (of_channel d)))
      (λ z. (x == z) && under_way m (now.ack (of_channel d)))) false b
      (waits m (env.ack (of_channel d)) (active (receiving d at x to))) (waits m (now.ack (of_channel d)) (active (receiving d at x to))))
      (sym (port_heard c)) (by_line (same_line (of_channel d) c) refl)
    where
      port_heard : (k : Line) → heard_on k (port_shown d x l q) ≡ (same_line (of_channel d) k && l)
      port_heard (of_channel n) = refl
      port_heard (of_var v) = refl

      by_line : (z : Bool) → same_line (of_channel d) c ≡ z → Fired (Sent P env busy c) (Hearing P env c (port_shown d x l q)
          (λ z. (x == z) && under_way m (env.ack (of_channel d))) (λ z. (x == z) && under_way m (now.ack (of_channel d)))) false (z && l)
          (waits m (env.ack (of_channel d)) (active (receiving d at x to))) (waits m (now.ack (of_channel d)) (active (receiving d at x to)))
      by_line false z = ap (λ i. waits m i (active (receiving d at x to))) (t.far (of_channel d) z)
      by_line true z =
          let kept : l ≡ true = snd_true (d == d) l (r.receive d z (self_number d)) in
          subst (λ (b : Bool). Fired (Sent P env busy c) (Hearing P env c (port_shown d x l q)
          (λ z. (x == z) && under_way m (env.ack (of_channel d))) (λ z. (x == z) && under_way m (now.ack (of_channel d)))) false b
          (waits m (env.ack (of_channel d)) (active (receiving d at x to))) (waits m (now.ack (of_channel d)) (active (receiving d at x to))))
          (sym kept) (port_hears P env now c low high d x at to m l q h meets f z kept)

  fired_in : {p : Process} {m : Mode} (u : Bool) (a : At p m) (h : inner_may u m ≡ true) (before after : ℕ → Bool)
      → Rising (shown a) before after (left env.ack a) (left now.ack a)
      → Rising (shown a) before after (inner_left u m (opened p) (left env.ack a)) (inner_left u m (opened p) (left now.ack a))
  fired_in {p = p} {m = m} u a h before after f = by u m h a f
    where
      over : {m : Mode} (a : At p m) → (m ≡ running → ⊥) → (s : Term) → Rising (shown a) before after (left env.ack a) (left now.ack a)
          → Rising (shown a) before after s s
      over a ne s f = none_fired (Sent P env busy c) (Hearing P env c (shown a) before after) ((shown a).says c) (heard_on c (shown a)) (left env.ack a)
          (left now.ack a) s (left_done env.ack a ne) f

      by : (u : Bool) (m : Mode) → inner_may u m ≡ true → (a : At p m) → Rising (shown a) before after (left env.ack a) (left now.ack a)
          → Rising (shown a) before after (inner_left u m (opened p) (left env.ack a)) (inner_left u m (opened p) (left now.ack a))
      by false running h a f = f
      by true running h a f = absurd (cc h)
      by false idle h a f = over a (λ e. cc e) (opened p) f
      by true idle h a f = over a (λ e. cc e) finished f
      by false answered h a f = over a (λ e. cc e) finished f
      by true answered h a f = over a (λ e. cc e) finished f
      by false returning h a f = absurd (cc h)
      by true returning h a f = over a (λ e. cc e) finished f

  -- a branch and those beside it
  both_fire : {p : Process} {more : Processes} {k : Mode} {ks : List Mode} (g : GuardedAt p k) (b : BranchesAt more ks)
      → Beside p more (guarded_shown g) (branches_shown b)
      → Rising (guarded_shown g) (guarded_writing env.ack g) (guarded_writing now.ack g) (guarded_left env.ack g) (guarded_left now.ack g)
      → RisingInside (branches_shown b) (branches_writing env.ack b) (branches_writing now.ack b) (branches_left env.ack b) (branches_left now.ack b)
      → RisingInside (both_shown (guarded_shown g) (branches_shown b)) (branches_writing env.ack (and_at g b)) (branches_writing now.ack (and_at g b))
      (and_branch (guarded_left env.ack g) (branches_left env.ack b)) (and_branch (guarded_left now.ack g) (branches_left now.ack b))
  both_fire g b s f r =
      let x = guarded_shown g in
      let y = branches_shown b in
      subst (λ (z : Bool). FiredInside (Sent P env busy c) Whole (x.says c || y.says c) z
      (and_branch (guarded_left env.ack g) (branches_left env.ack b)) (and_branch (guarded_left now.ack g) (branches_left now.ack b)))
      (sym (heard_both c x y))
      (fired_both (Sent P env busy c) Whole (x.says c) (heard_on c x) (y.says c) (heard_on c y) (guarded_left env.ack g) (guarded_left now.ack g)
      (branches_left env.ack b) (branches_left now.ack b)
      (λ e. low_of (y.says c) (branches_say_talk b c) (s.not_theirs c (s.mine c (guarded_says_talks g c e))))
      (one_hears c x y s)
      (fired_map (Sent P env busy c) (Hearing P env c x (guarded_writing env.ack g) (guarded_writing now.ack g)) Whole
      (λ q h. this_hears P env c x y (guarded_writing env.ack g) (guarded_writing now.ack g) (branches_writing env.ack b) (branches_writing now.ack b) q h
      (branches_writing_deaf env.ack now.ack h.channel (channel_turned h.channel h.on) b (s.deaf_theirs h.channel (s.hears_mine h.channel h.hears))))
      (x.says c) (heard_on c x) (guarded_left env.ack g) (guarded_left now.ack g) f)
      (fired_map_inside (Sent P env busy c) (Hearing P env c y (branches_writing env.ack b) (branches_writing now.ack b)) Whole
      (λ q h. others_hear P env c x y (guarded_writing env.ack g) (guarded_writing now.ack g) (branches_writing env.ack b) (branches_writing now.ack b) q h
      (guarded_writing_deaf env.ack now.ack h.channel (channel_turned h.channel h.on) g (s.deaf_mine h.channel (s.hears_theirs h.channel h.hears))))
      (y.says c) (heard_on c y) (branches_left env.ack b) (branches_left now.ack b) r))
    where
      Whole : Process → Type 0
      Whole = Hearing P env c (both_shown (guarded_shown g) (branches_shown b)) (branches_writing env.ack (and_at g b)) (branches_writing now.ack (and_at g b))

      channel_turned : (d : ℕ) → of_channel d ≡ c → OneTurned env.ack now.ack (of_channel d)
      channel_turned d e = subst (λ (l : Line). OneTurned env.ack now.ack l) (sym e) one_turned

  -- what a branch holds, its selection does
  fired_branch : (again : Bool) (choices : Choices) (x : Shown) (before after : ℕ → Bool) (u v : Term) → Rising x before after u v
      → Rising x before after (branch_term again choices u) (branch_term again choices v)
  fired_branch false choices x before after u v r = r
  fired_branch true choices x before after u v r = fired_then (Sent P env busy c) (Hearing P env c x before after)
      (and_member (choosing true choices) no_members) (x.says c) (heard_on c x) u v r

  -- the acknowledge's rise, seen from a statement
  mutual
    pub guarded_fires : {p : Process} {m : Mode} (g : GuardedAt p m) → Meets P p → Ready c (env.rail c) busy p (guarded_shown g) → GuardedFits g env
        → Rising (guarded_shown g) (guarded_writing env.ack g) (guarded_writing now.ack g) (guarded_left env.ack g) (guarded_left now.ack g)
    guarded_fires g_rests meets r f = unmoved none_shown _ _ finished refl (λ d. refl)
    guarded_fires (g_in u a h) meets r f = fired_in u a h (writing env.ack a) (writing now.ack a) (fires a meets r f)
    guarded_fires g_past meets r f = unmoved none_shown _ _ finished refl (λ d. refl)
    guarded_fires (g_back u) meets r f = unmoved none_shown _ _ finished refl (λ d. refl)

    pub fires : {p : Process} {m : Mode} (a : At p m) → Meets P p → Ready c (env.rail c) busy p (shown a) → Fits a env
        → Rising (shown a) (writing env.ack a) (writing now.ack a) (left env.ack a) (left now.ack a)
    fires rests meets r f = unmoved none_shown _ _ finished refl (λ d. refl)
    fires (at_skip m h) meets r f = unmoved none_shown _ _ (waits m false (active skipping)) refl (λ d. refl)
    fires (at_assign {x = x} {at = at} {e = e} m u h) meets r f = site_fires (of_var x) at e m u h meets r f _ _
    fires (at_send {c = d} {at = at} {e = e} m u h) meets r f = site_fires (of_channel d) at e m u h meets r f _ _
    fires (at_receive {c = d} {x = x} {at = at} {to = to} m l q h) meets r f = port_fires d x at to m l q h meets r f
    fires (at_turn t) meets r f = turn_fires t meets r f
    fires (at_side m t b h) meets r f = fired_together (Sent P env busy c) (Hearing P env c (branches_shown b) (branches_writing env.ack b)
        (branches_writing now.ack b)) ((branches_shown b).says c) (heard_on c (branches_shown b)) (branches_left env.ack b) (branches_left now.ack b)
        (branches_fire b meets.2 r f)
    fires (at_body {p = p} a) meets r f = fired_then (Sent P env busy c) (Hearing P env c (shown a) (writing env.ack a) (writing now.ack a)) (again p)
        ((shown a).says c) (heard_on c (shown a)) (left env.ack a) (left now.ack a) (fires a meets ((ready_down c (env.rail c) busy).to_body r) f)
    fires (at_choice x) meets r f = choice_fires false x meets.2 r f
    fires (at_turning x) meets r f = choice_fires true x meets.2 r f
    fires (at_closing z) meets r f = unmoved none_shown _ _ finished refl (λ d. refl)

    choice_fires : (again : Bool) {choices : Choices} {m : Mode} (x : ChoiceAt again choices m) → ChoiceMeets P choices
        → Ready c (env.rail c) busy (choosing again choices) (choice_shown x) → ChoiceFits x env
        → Rising (choice_shown x) (choice_writing env.ack x) (choice_writing now.ack x) (choice_left env.ack x) (choice_left now.ack x)
    choice_fires again (control_at {choices = choices} z) meets r f =
        unmoved (choice_shown (control_at {choices = choices} z)) _ _ (choice_left env.ack (control_at {choices = choices} z)) refl (λ d. refl)
    choice_fires again (inside_at {choices = choices} a w) meets r f = fired_branch again choices (chosen_shown a) (chosen_writing env.ack a)
        (chosen_writing now.ack a) (chosen_left env.ack a) (chosen_left now.ack a) (chosen_fires again a meets r f)

    chosen_fires : (again : Bool) {choices : Choices} {k : Mode} (a : ChosenAt choices k) → ChoiceMeets P choices
        → Ready c (env.rail c) busy (choosing again choices) (chosen_shown a) → ChosenFits a env
        → Rising (chosen_shown a) (chosen_writing env.ack a) (chosen_writing now.ack a) (chosen_left env.ack a) (chosen_left now.ack a)
    chosen_fires again (this_one a) meets r f = fires a meets.0 ((ready_down c (env.rail c) busy).to_choice r) f
    chosen_fires again (another a) meets r f = chosen_fires again a meets.1 ((ready_down c (env.rail c) busy).to_choices r) f

    branches_fire : {members : Processes} {ks : List Mode} (b : BranchesAt members ks) → EachMeets P members
        → Ready c (env.rail c) busy (side_by_side members) (branches_shown b) → BranchesFit b env
        → RisingInside (branches_shown b) (branches_writing env.ack b) (branches_writing now.ack b) (branches_left env.ack b) (branches_left now.ack b)
    branches_fire no_more meets r f =
        subst (λ (z : Bool). FiredInside (Sent P env busy c) (Hearing P env c none_shown (λ z. false) (λ z. false)) false z no_branches no_branches)
        (sym (none_heard c none_shown (λ d. refl))) refl
    branches_fire (and_at g b) meets r f =
        let s = beside meets.1 g b in
        both_fire g b s (guarded_fires g meets.0 ((ready_down c (env.rail c) busy).to_this s r) f.0)
        (branches_fire b meets.2 ((ready_down c (env.rail c) busy).to_others s r) f.1)

    pub turn_fires : {members : Processes} {m : Mode} (t : TurnAt members m) → TurnMeets P members → Ready c (env.rail c) busy (in_turn members) (turn_shown t)
        → TurnFits t env → Rising (turn_shown t) (turn_writing env.ack t) (turn_writing now.ack t) (turn_left env.ack t) (turn_left now.ack t)
    turn_fires turn_rests meets r f = unmoved none_shown _ _ finished refl (λ d. refl)
    turn_fires (at_last {p = p} a) meets r f = fires a meets ((ready_down c (env.rail c) busy).to_first r) f
    turn_fires (at_member {p = p} {q = q} {more = more} g) meets r f =
        fired_then (Sent P env busy c) (Hearing P env c (guarded_shown g) (guarded_writing env.ack g) (guarded_writing now.ack g)) (and_member q more)
        ((guarded_shown g).says c) (heard_on c (guarded_shown g)) (guarded_left env.ack g) (guarded_left now.ack g)
        (guarded_fires g meets.0 ((ready_down c (env.rail c) busy).to_first r) f)
    turn_fires (at_later {p = p} {q = q} {more = more} g t h) meets r f = turn_fires t meets.1 ((ready_down c (env.rail c) busy).to_later r) f

-- an acknowledge that falls leaves the term
module _ (P : TypedProgram) (env now : Seen) (c : Line) (t : AckTurned P env now c) (high : env.ack c ≡ true)
    (lows : neutral_on (line_width P c) (env.rail c) ≡ true) where
  site_still : (d : Line) (at : Span) (e : Formula) (m : Mode) (u : Pairs (gate_count e)) → SiteMay e m u → SiteMeets P d e
      → Kept c (env.rail c) (site_statement d at e) (site_shown d e u) → SiteFits d e m u env → (x : Term) → waits m (now.ack d) x ≡ waits m (env.ack d) x
  site_still d at e m u h meets r f x = cases (same_line d c)
      (λ (z : same_line d c ≡ true).
      let none = kept_none P env c lows d at e u meets z r in
      let back = site_returns P env d e m u h meets f none (ap env.ack (same_line_is d c z) ∙ high) in
      ap (λ i. waits i (now.ack d) x) back ∙ sym (ap (λ i. waits i (env.ack d) x) back))
      (λ (z : same_line d c ≡ false). ap (λ i. waits m i x) (t.far d z))

  -- a receive on the channel has let go
  port_still : (d x : ℕ) {at to : Span} (m : Mode) (l : Bool) (q : Rails) → port_may m l ≡ true → Kept c (env.rail c) (receiving d at x to) (port_shown d x l q)
      → PortFits d x m l q env → (y : Term) → waits m (now.ack (of_channel d)) y ≡ waits m (env.ack (of_channel d)) y
  port_still d x m l q h r f y = cases (same_line (of_channel d) c)
      (λ (z : same_line (of_channel d) c ≡ true).
      by m h f (ap env.ack (same_line_is (of_channel d) c z) ∙ high) (sym (ap (λ b. b && l) (self_number d)) ∙ r.take d z))
      (λ (z : same_line (of_channel d) c ≡ false). ap (λ i. waits m i y) (t.far (of_channel d) z))
    where
      by : (m : Mode) → port_may m l ≡ true → PortFits d x m l q env → env.ack (of_channel d) ≡ true → l ≡ false
          → waits m (now.ack (of_channel d)) y ≡ waits m (env.ack (of_channel d)) y
      by idle h f a gone = absurd (cc h)
      by running h f a gone = absurd (cc (
        runs_kept l (env.ack (of_channel d)) (env.ack (of_var x)) (is_some (value_on (env.width (of_var x)) q))
            (neutral_on (env.width (of_var x)) q) f.ends a,
        gone,
      ))
      by answered h f a gone = absurd (cc (h, gone))
      by returning h f a gone = refl

  mutual
    pub guarded_still : {p : Process} {m : Mode} (g : GuardedAt p m) → Meets P p → Kept c (env.rail c) p (guarded_shown g) → GuardedFits g env
        → guarded_left now.ack g ≡ guarded_left env.ack g
    guarded_still g_rests meets r f = refl
    guarded_still (g_in {p = p} {m = m} u a h) meets r f = ap (inner_left u m (opened p)) (still a meets r f)
    guarded_still g_past meets r f = refl
    guarded_still (g_back u) meets r f = refl

    pub still : {p : Process} {m : Mode} (a : At p m) → Meets P p → Kept c (env.rail c) p (shown a) → Fits a env → left now.ack a ≡ left env.ack a
    still rests meets r f = refl
    still (at_skip m h) meets r f = refl
    still (at_assign {x = x} {at = at} {e = e} m u h) meets r f = site_still (of_var x) at e m u h meets r f _
    still (at_send {c = d} {at = at} {e = e} m u h) meets r f = site_still (of_channel d) at e m u h meets r f _
    still (at_receive {c = d} {x = x} {at = at} {to = to} m l q h) meets r f = port_still d x m l q h r f (active (receiving d at x to))
    still (at_side m t b h) meets r f = ap together (branches_still b meets.2 r f)
    still (at_turn t) meets r f = turn_still t meets r f
    still (at_body {p = p} a) meets r f = ap (λ z. followed z (again p)) (still a meets ((kept_down c (env.rail c)).to_body r) f)
    still (at_choice x) meets r f = choice_still x meets.2 r f
    still (at_turning x) meets r f = choice_still x meets.2 r f
    still (at_closing z) meets r f = refl

    choice_still : {again : Bool} {choices : Choices} {m : Mode} (x : ChoiceAt again choices m) → ChoiceMeets P choices
        → Kept c (env.rail c) (choosing again choices) (choice_shown x) → ChoiceFits x env → choice_left now.ack x ≡ choice_left env.ack x
    choice_still (control_at z) meets r f = refl
    choice_still (inside_at {again = again} {choices = choices} a w) meets r f = ap (λ z. branch_term again choices z) (chosen_still again a meets r f)

    chosen_still : (again : Bool) {choices : Choices} {k : Mode} (a : ChosenAt choices k) → ChoiceMeets P choices
        → Kept c (env.rail c) (choosing again choices) (chosen_shown a) → ChosenFits a env → chosen_left now.ack a ≡ chosen_left env.ack a
    chosen_still again (this_one a) meets r f = still a meets.0 ((kept_down c (env.rail c)).to_choice r) f
    chosen_still again (another a) meets r f = chosen_still again a meets.1 ((kept_down c (env.rail c)).to_choices r) f

    branches_still : {members : Processes} {ks : List Mode} (b : BranchesAt members ks) → EachMeets P members
        → Kept c (env.rail c) (side_by_side members) (branches_shown b) → BranchesFit b env → branches_left now.ack b ≡ branches_left env.ack b
    branches_still no_more meets r f = refl
    branches_still (and_at g b) meets r f =
        let s = beside meets.1 g b in
        ap (λ z. and_branch z (branches_left now.ack b)) (guarded_still g meets.0 ((kept_down c (env.rail c)).to_this s r) f.0)
        ∙ ap (λ z. and_branch (guarded_left env.ack g) z) (branches_still b meets.2 ((kept_down c (env.rail c)).to_others s r) f.1)

    pub turn_still : {members : Processes} {m : Mode} (t : TurnAt members m) → TurnMeets P members → Kept c (env.rail c) (in_turn members) (turn_shown t)
        → TurnFits t env → turn_left now.ack t ≡ turn_left env.ack t
    turn_still turn_rests meets r f = refl
    turn_still (at_last a) meets r f = still a meets ((kept_down c (env.rail c)).to_first r) f
    turn_still (at_member {q = q} {more = more} g) meets r f = ap (λ z. followed z (and_member q more))
        (guarded_still g meets.0 ((kept_down c (env.rail c)).to_first r) f)
    turn_still (at_later g t h) meets r f = turn_still t meets.1 ((kept_down c (env.rail c)).to_later r) f

-- Where a site of the line is under way: what is held of the line's rails is one rail of each of its bits at most.
pub record OneSite (P : TypedProgram) (c : Line) (x : Shown) : Type 0 where
  pub within : HasLine P c
  pub merged : is_merged P c ≡ true
  pub some : 1 ≤ line_width P c
  pub single : (i : ℕ) → x.offer c i true ≡ true → x.offer c i false ≡ true → ⊥
  pub below : (i : ℕ) (one : Bool) → x.offer c i one ≡ true → i < line_width P c

port_site : (P : TypedProgram) (env : Seen) → Clean P env → (d x : ℕ) (m : Mode) (l : Bool) (q : Rails) → PortMeets P d x → PortFits d x m l q env → (c : Line)
    → same_line (of_var x) c ≡ true → OneSite P c (port_shown d x l q)
port_site P env clean d x m l q meets f c z =
    let same = same_line_is (of_var x) c z in
    subst (λ (i : Line). OneSite P i (port_shown d x l q)) same (record {
      within = meets.into;
      merged = refl;
      some = meets.some;
      single = λ i p s. f.single i (snd_true (same_line (of_var x) (of_var x)) (q i true) p) (snd_true (same_line (of_var x) (of_var x)) (q i false) s);
      below = λ i one p. subst (λ (n : ℕ). i < n) (clean.wide (of_var x)) (f.within i one (snd_true (same_line (of_var x) (of_var x)) (q i one) p));
    })

site_site : (P : TypedProgram) (env : Seen) (d : Line) (e : Formula) (m : Mode) (u : Pairs (gate_count e)) → SiteMay e m u → SiteMeets P d e
    → SiteFits d e m u env → (c : Line) → same_line d c ≡ true → OneSite P c (site_shown d e u)
site_site P env d e m u h meets f c z =
    let same = same_line_is d c z in
    record {
      within = subst (λ (i : Line). HasLine P i) same meets.within;
      merged = ap (is_merged P) (sym same) ∙ meets.merged;
      some = subst (λ (n : ℕ). 1 ≤ n) (meets.agrees ∙ ap (line_width P) same) meets.some;
      single = λ i p q. h.known.one_rail (asks m) env.bit u i f.1 (snd_true (same_line d c) (out_rail e u i true) p)
          (snd_true (same_line d c) (out_rail e u i false) q);
      below = λ i one p. subst (λ (n : ℕ). i < n) (meets.agrees ∙ ap (line_width P) same)
          (h.known.wide u i one (snd_true (same_line d c) (out_rail e u i one) p));
    }

both_site : {p : Process} {more : Processes} (P : TypedProgram) (c : Line) (x y : Shown) → Beside p more x y → (x.talk c || y.talk c) ≡ true
    → (x.talk c ≡ true → OneSite P c x) → (y.talk c ≡ true → OneSite P c y) → OneSite P c (both_shown x y)
both_site P c x y s e f g = either (x.talk c) (y.talk c) e
    (λ h.
    let o = f h in
    let mine : (i : ℕ) (one : Bool) → (x.offer c i one || y.offer c i one) ≡ x.offer c i one = λ i one. or_false_right (x.offer c i one) (y.offer c i one)
    (s.none_theirs c i one (s.mine c h)) in
    record {
      within = o.within;
      merged = o.merged;
      some = o.some;
      single = λ i p q. o.single i (sym (mine i true) ∙ p)
          (sym (mine i false) ∙ q);
      below = λ i one p. o.below i one (sym (mine i one) ∙ p);
    })
    (λ h.
    let o = g h in
    let theirs : (i : ℕ) (one : Bool) → (x.offer c i one || y.offer c i one) ≡ y.offer c i one = λ i one. or_false_left (x.offer c i one) (y.offer c i one)
    (s.none_mine c i one (s.theirs c h)) in
    record {
      within = o.within;
      merged = o.merged;
      some = o.some;
      single = λ i p q. o.single i (sym (theirs i true) ∙ p)
          (sym (theirs i false) ∙ q);
      below = λ i one p. o.below i one (sym (theirs i one) ∙ p);
    })

module _ (P : TypedProgram) (env : Seen) (clean : Clean P env) where
  abbrev HasSites : Type 0 → View → Type 0
  HasSites M v = M → v.fits env → (c : Line) → v.shown.talk c ≡ true → OneSite P c v.shown

  sites : GoesUp (λ p r x. HasSites (Meets P p)) (λ ms r x. HasSites (TurnMeets P ms)) (λ ms x. HasSites (EachMeets P ms))
      (λ cs s y. HasSites (ChoiceMeets P cs)) (λ cs s y. HasSites (ChoiceMeets P cs))
  sites = record {
    silent = λ p F meets f c e. absurd (cc e);
    skip = λ r a F meets f c e. absurd (cc e);
    assign = λ x at d m u h. site_site P env (of_var x) d m u h;
    send = λ k at d m u h. site_site P env (of_channel k) d m u h;
    receive = λ d x at to m l q h. port_site P env clean d x m l q;
    turn = λ ms r z v h. h;
    turn_silent = λ ms F meets f c e. absurd (cc e);
    last = λ p r z v h. h;
    first = λ p q more r z v n h meets. h meets.0;
    later = λ p q more r z y v low h meets. h meets.1;
    side = λ ms r z t v h meets. h meets.2;
    none = λ F meets f c e. absurd (cc e);
    beside = λ {p} {more} {k} {ks} g b one others meets f c e. both_site P c (guarded_shown g) (branches_shown b) (beside meets.1 g b) e
        (one meets.0 f.0 c) (others meets.2 f.1 c);
    body = λ p r b z v h. h;
    choice = λ cs r z v h meets. h meets.2;
    turning = λ cs r z v h meets. h meets.2;
    guards = λ cs asked F meets f c e. absurd (cc e);
    inside = λ cs s y v h. h;
    this = λ g p more r z v h meets. h meets.0;
    others = λ g p more s y v h meets. h meets.1;
  }

  pub guarded_site : {p : Process} {m : Mode} (g : GuardedAt p m) → Meets P p → GuardedFits g env → (c : Line) → (guarded_shown g).talk c ≡ true
      → OneSite P c (guarded_shown g)
  guarded_site g = guarded_everywhere (λ p r x. HasSites (Meets P p)) (λ ms r x. HasSites (TurnMeets P ms)) (λ ms x. HasSites (EachMeets P ms))
      (λ cs s y. HasSites (ChoiceMeets P cs)) (λ cs s y. HasSites (ChoiceMeets P cs)) sites g
