-- What a covered program that is typed keeps at each statement.
use Rattle.std.proofs.Common.{◌≡◌, ◌≢◌, ℕ, suc, ◌<◌, ◌≤◌, List, [], ◌∷◌, ◌++◌, length, refl, sym, ap, ◌∙◌, subst, ◌⊎◌, Bool, true, false, Contains, inl, inr, arith}
use Rattle.std.proofs.lemmas.List.Elements.{Contains-append_left, Contains-append_right}
use Rattle.std.specs.Prelude.{◌==◌, ◌||◌, ◌&&◌, if◌then◌else◌}
use Rattle.chp_base.specs.declared.span.Span.{Span}
use Rattle.chp_base.specs.declared.channel.Kind.{Kind}
use Rattle.chp_base.specs.declared.channel.Kind.TheVariants.{In, Out, Chan}
use Rattle.width_check.specs.Processes.{Formula, constant, reading, joined, inverted, chained, compared, Formulas, no_parts, and_part, Operations, no_operations, and_operation, Process, skipping, assigning, sending, receiving, in_turn, side_by_side, choosing, repeating, Processes, no_members, and_member, member_count, TypedProgram, Choices, no_choices, and_choice, choice_count}
use Rattle.width_check.specs.Typing.{kind_at, channel_width, var_width, ReadsFrom, IsOfWidth, IsSend, IsReceive, IsProcess, AreProcesses, AreChoices}
use Rattle.width_check.specs.Reads.{reads, reads_in_parts, reads_in_operations}
use Rattle.width_check.specs.Values.{width_of, IsWellFormed}
use Rattle.width_check.proofs.Bounds.{width_some}
use Rattle.chp_meaning.proofs.HalvedTyping.{unread}
use Rattle.function_blocks.specs.Waves.{Waves}
use Rattle.width_check.specs.Sharing.{Deed, reads_var, writes_var, sends_on, receives_on, Occurrence, reads_of, reads_of_parts, reads_of_operations, occurrences, occurrences_of_each, Parallel, ParallelInside, ParallelAcross, Clashes, occurrences_of_choices, ParallelInChoices}
use Rattle.chp_base.specs.declared.fault.FaultCode.TheVariants as code
use Rattle.chp_meaning.specs.Terms.{Term, finished, active, in_parallel, is_finished, all_finished, in_sequence, opened, opened_turn, opened_each, followed}
use Rattle.circuit_places.specs.Lines.{Line, of_channel, of_var, same_line, site_statement, line_width}
use Rattle.circuit_places.specs.Whole.{is_sent, is_heard, is_merged}
use Rattle.circuit_places.proofs.LineNames.{same_number, same_line_is}
use Rattle.std.proofs.lemmas.Bool.{cases_lt}
use Rattle.chp_meaning.specs.Halves.{ReadsNoTarget, EachReadsNoTarget, ChoicesReadNoTarget}
use Rattle.circuit_places.proofs.Trees.{TreeOver, TreesSettle, tree_over}
use Rattle.circuit_places.specs.Circuit.{guards_read}

-- the program has the line
abbrev pub HasLine : TypedProgram → Line → Type 0
HasLine P (of_channel c) = c < length P.channels
HasLine P (of_var x) = x < length P.vars

-- a site doesn't read what it writes
abbrev pub reads_line : Line → Formula → Bool
reads_line (of_channel c) e = false
reads_line (of_var x) e = reads x e

-- the law of all expressions
abbrev pub ExpressionsHold : Type 0
ExpressionsHold = (e : Formula) → IsWellFormed e → Waves e

-- a site of the line with this expression
pub record SiteMeets (P : TypedProgram) (k : Line) (e : Formula) : Type 0 where
  pub within : HasLine P k
  pub merged : is_merged P k ≡ true
  pub some : 1 ≤ width_of e
  pub agrees : width_of e ≡ line_width P k
  pub plain : reads_line k e ≡ false
  pub reads : ReadsFrom P.vars e
  pub known : Waves e

-- a receive on the channel into the variable
pub record PortMeets (P : TypedProgram) (c x : ℕ) : Type 0 where
  pub within : c < length P.channels
  pub heard : is_heard (kind_at P.channels c) ≡ true
  pub into : x < length P.vars
  pub some : 1 ≤ var_width P.vars x
  pub widths : var_width P.vars x ≡ channel_width P.channels c

-- a guard over the variables
pub record GuardMeets (P : TypedProgram) (e : Formula) : Type 0 where
  pub one : width_of e ≡ 1
  pub reads : ReadsFrom P.vars e
  pub known : Waves e

abbrev pub GuardsMeet : TypedProgram → Choices → Type 0
GuardsMeet P no_choices = Unit {0}
GuardsMeet P (and_choice g p more) = GuardMeets P g × GuardsMeet P more

-- the lines of which a statement has sites; a receive is one of its variable's
abbrev mutual
  pub sends : Process → Line → Bool
  sends (assigning x at e) k = same_line (of_var x) k
  sends (sending c at e) k = same_line (of_channel c) k
  sends (receiving c at x to) k = same_line (of_var x) k
  sends (in_turn members) k = turn_sends members k
  sends (side_by_side members) k = turn_sends members k
  sends (repeating p) k = sends p k
  sends (choosing again choices) k = choice_sends choices k
  sends skipping k = false

  pub choice_sends : Choices → Line → Bool
  choice_sends no_choices k = false
  choice_sends (and_choice g p more) k = sends p k || choice_sends more k

  pub turn_sends : Processes → Line → Bool
  turn_sends no_members k = false
  turn_sends (and_member p more) k = sends p k || turn_sends more k

pub site_sends : (d : Line) (at : Span) (e : Formula) (k : Line) → sends (site_statement d at e) k ≡ same_line d k
site_sends (of_channel c) at e k = refl
site_sends (of_var x) at e k = refl

-- the variables that it reads
abbrev mutual
  pub uses : Process → ℕ → Bool
  uses (assigning x at e) v = reads v e
  uses (sending c at e) v = reads v e
  uses (in_turn members) v = each_uses members v
  uses (side_by_side members) v = each_uses members v
  uses (repeating p) v = uses p v
  uses (choosing again choices) v = guards_read choices v || choice_uses choices v
  uses _ v = false

  pub choice_uses : Choices → ℕ → Bool
  choice_uses no_choices v = false
  choice_uses (and_choice g p more) v = uses p v || choice_uses more v

  pub each_uses : Processes → ℕ → Bool
  each_uses no_members v = false
  each_uses (and_member p more) v = uses p v || each_uses more v

-- the channels on which it receives
abbrev mutual
  pub receives : Process → ℕ → Bool
  receives (receiving c at x to) k = c == k
  receives (in_turn members) k = each_receives members k
  receives (side_by_side members) k = each_receives members k
  receives (repeating p) k = receives p k
  receives (choosing again choices) k = choice_receives choices k
  receives _ k = false

  pub choice_receives : Choices → ℕ → Bool
  choice_receives no_choices k = false
  choice_receives (and_choice g p more) k = receives p k || choice_receives more k

  pub each_receives : Processes → ℕ → Bool
  each_receives no_members k = false
  each_receives (and_member p more) k = receives p k || each_receives more k

-- only one of a branch and those beside it has sites of a line, or receives on a channel, and none reads a variable that
-- another one writes
pub record Fair (p : Process) (more : Processes) : Type 0 where
  pub send : (k : Line) → sends p k ≡ true → turn_sends more k ≡ false
  pub reader : (v : ℕ) → uses p v ≡ true → turn_sends more (of_var v) ≡ false
  pub read : (v : ℕ) → sends p (of_var v) ≡ true → each_uses more v ≡ false
  pub receive : (c : ℕ) → receives p c ≡ true → each_receives more c ≡ false

abbrev mutual
  pub Meets : TypedProgram → Process → Type 0
  Meets P skipping = Unit {0}
  Meets P (assigning x at e) = SiteMeets P (of_var x) e
  Meets P (sending c at e) = SiteMeets P (of_channel c) e
  Meets P (receiving c at x to) = PortMeets P c x
  Meets P (in_turn members) = TurnMeets P members
  Meets P (side_by_side members) = (2 ≤ member_count members) × TreeOver (member_count members) × EachMeets P members
  Meets P (repeating p) = Meets P p
  Meets P (choosing again choices) = (1 ≤ choice_count choices) × GuardsMeet P choices × ChoiceMeets P choices

  pub ChoiceMeets : TypedProgram → Choices → Type 0
  ChoiceMeets P no_choices = Unit {0}
  ChoiceMeets P (and_choice g p more) = Meets P p × ChoiceMeets P more

  pub EachMeets : TypedProgram → Processes → Type 0
  EachMeets P no_members = Unit {0}
  EachMeets P (and_member p more) = Meets P p × Fair p more × EachMeets P more

  pub TurnMeets : TypedProgram → Processes → Type 0
  TurnMeets P no_members = ⊥
  TurnMeets P (and_member p no_members) = Meets P p
  TurnMeets P (and_member p (and_member q more)) = Meets P p × TurnMeets P (and_member q more)

sent_kind : (k : Kind) → k ≢ In → is_sent k ≡ true
sent_kind In ne = absurd (ne refl)
sent_kind Out ne = refl
sent_kind Chan ne = refl

send_meets : ExpressionsHold → (P : TypedProgram) (c : ℕ) (e : Formula) → IsSend P.channels P.vars c e → SiteMeets P (of_channel c) e
send_meets hold P c e h = record {
  within = h.within;
  merged = sent_kind (kind_at P.channels c) h.direction;
  some = width_some e h.sent.formed;
  agrees = h.sent.agrees;
  plain = refl;
  reads = h.sent.reads;
  known = hold e h.sent.formed;
}

assign_meets : ExpressionsHold → (P : TypedProgram) (x : ℕ) (e : Formula) → (x < length P.vars) × IsOfWidth P.vars (var_width P.vars x) e → reads x e ≡ false
    → SiteMeets P (of_var x) e
assign_meets hold P x e h plain = record {
  within = h.0;
  merged = refl;
  some = width_some e h.1.formed;
  agrees = h.1.agrees;
  plain = plain;
  reads = h.1.reads;
  known = hold e h.1.formed;
}

guards_meet : ExpressionsHold → (P : TypedProgram) (choices : Choices) → AreChoices P.channels P.vars choices → GuardsMeet P choices
guards_meet hold P no_choices h = tt
guards_meet hold P (and_choice g p more) h =
    (record { one = h.0.agrees; reads = h.0.reads; known = hold g h.0.formed }, guards_meet hold P more h.2)

heard_kind : (k : Kind) → k ≢ Out → is_heard k ≡ true
heard_kind In ne = refl
heard_kind Out ne = absurd (ne refl)
heard_kind Chan ne = refl

port_meets : (P : TypedProgram) → ((x : ℕ) → x < length P.vars → 1 ≤ var_width P.vars x) → (c x : ℕ) → IsReceive P.channels P.vars c x → PortMeets P c x
port_meets P some c x h =
    record { within = h.within; heard = heard_kind (kind_at P.channels c) h.direction; into = h.target; some = some x h.target; widths = h.widths }

-- what an expression reads is declared
pub read_declared : (P : TypedProgram) (e : Formula) → ReadsFrom P.vars e → (v : ℕ) → reads v e ≡ true → v < length P.vars
read_declared P e r v h = here (cases_lt v (length P.vars))
  where
    here : (v < length P.vars) ⊎ (length P.vars ≤ v) → v < length P.vars
    here (inl less) = less
    here (inr out) = absurd (cc (unread P.vars v e r out, h))

one_of : {A : Type 0} (a b : Bool) → (a || b) ≡ true → (a ≡ true → A) → (b ≡ true → A) → A
one_of true b h f g = f refl
one_of false b h f g = g h

-- where a statement has a site it has an occurrence that says so
abbrev deed_of : Line → Deed
deed_of (of_channel c) = sends_on c
deed_of (of_var x) = writes_var x

pub record Found (os : List Occurrence) (d : Deed) : Type 0 where
  pub o : Occurrence
  pub among : Contains os o
  pub is : o.deed ≡ d

found_left : (xs ys : List Occurrence) (d : Deed) → Found xs d → Found (xs ++ ys) d
found_left xs ys d f = record { o = f.o; among = Contains-append_left xs ys f.o f.among; is = f.is }

found_right : (xs ys : List Occurrence) (d : Deed) → Found ys d → Found (xs ++ ys) d
found_right xs ys d f = record { o = f.o; among = Contains-append_right xs ys f.o f.among; is = f.is }

found_either : (xs ys : List Occurrence) (d : Deed) (a b : Bool) → (a || b) ≡ true → (a ≡ true → Found xs d) → (b ≡ true → Found ys d) → Found (xs ++ ys) d
found_either xs ys d true b h f g = found_left xs ys d (f refl)
found_either xs ys d false b h f g = found_right xs ys d (g h)

found_behind : (o : Occurrence) (xs : List Occurrence) (d : Deed) → Found xs d → Found (o ∷ xs) d
found_behind o xs d f = found_right (o ∷ []) xs d f

mutual
  found_read : (e : Formula) (v : ℕ) → reads v e ≡ true → Found (reads_of e) (reads_var v)
  found_read (constant w k) v h = absurd (cc h)
  found_read (reading x high low at) v h = record {
    o = record { deed = reads_var x; at = at };
    among = (0, omega arith, refl);
    is = ap (λ n. reads_var n)
        (same_number x v h);
  }
  found_read (joined parts) v h = found_read_parts parts v h
  found_read (inverted e) v h = found_read e v h
  found_read (chained e more) v h = found_either (reads_of e) (reads_of_operations more) (reads_var v) (reads v e) (reads_in_operations v more) h
      (λ z. found_read e v z) (λ z. found_read_operations more v z)
  found_read (compared op e f) v h = found_either (reads_of e) (reads_of f) (reads_var v) (reads v e) (reads v f) h (λ z. found_read e v z)
      (λ z. found_read f v z)

  found_read_parts : (parts : Formulas) (v : ℕ) → reads_in_parts v parts ≡ true → Found (reads_of_parts parts) (reads_var v)
  found_read_parts no_parts v h = absurd (cc h)
  found_read_parts (and_part e more) v h = found_either (reads_of e) (reads_of_parts more) (reads_var v) (reads v e) (reads_in_parts v more) h
      (λ z. found_read e v z) (λ z. found_read_parts more v z)

  found_read_operations : (more : Operations) (v : ℕ) → reads_in_operations v more ≡ true → Found (reads_of_operations more) (reads_var v)
  found_read_operations no_operations v h = absurd (cc h)
  found_read_operations (and_operation op e more) v h = found_either (reads_of e) (reads_of_operations more) (reads_var v) (reads v e)
      (reads_in_operations v more) h (λ z. found_read e v z) (λ z. found_read_operations more v z)

mutual
  found : (p : Process) (k : Line) → sends p k ≡ true → Found (occurrences p) (deed_of k)
  found (assigning x at e) k h = record {
    o = record { deed = writes_var x; at = at };
    among = (0, omega arith, refl);
    is = ap deed_of
        (same_line_is (of_var x) k h);
  }
  found (sending c at e) k h = record {
    o = record { deed = sends_on c; at = at };
    among = (0, omega arith, refl);
    is = ap deed_of
        (same_line_is (of_channel c) k h);
  }
  found (in_turn members) k h = found_each members k h
  found (side_by_side members) k h = found_each members k h
  found (repeating p) k h = found p k h
  found skipping k h = absurd (cc h)
  found (receiving c at x to) k h = record {
    o = record { deed = writes_var x; at = to };
    among = (1, omega arith, refl);
    is = ap deed_of
        (same_line_is (of_var x) k h);
  }
  found (choosing again choices) k h = found_choice choices k h

  found_choice : (choices : Choices) (k : Line) → choice_sends choices k ≡ true → Found (occurrences_of_choices choices) (deed_of k)
  found_choice no_choices k h = absurd (cc h)
  found_choice (and_choice g p more) k h = found_right (reads_of g) (occurrences p ++ occurrences_of_choices more) (deed_of k)
      (found_either (occurrences p) (occurrences_of_choices more) (deed_of k) (sends p k) (choice_sends more k) h (λ e. found p k e)
      (λ e. found_choice more k e))

  found_each : (members : Processes) (k : Line) → turn_sends members k ≡ true → Found (occurrences_of_each members) (deed_of k)
  found_each no_members k h = absurd (cc h)
  found_each (and_member p more) k h = found_either (occurrences p) (occurrences_of_each more) (deed_of k) (sends p k) (turn_sends more k) h (λ e. found p k e)
      (λ e. found_each more k e)

-- and where it reads one
mutual
  found_use : (p : Process) (v : ℕ) → uses p v ≡ true → Found (occurrences p) (reads_var v)
  found_use (assigning x at e) v h = found_behind (record { deed = writes_var x; at = at }) (reads_of e) (reads_var v) (found_read e v h)
  found_use (sending c at e) v h = found_behind (record { deed = sends_on c; at = at }) (reads_of e) (reads_var v) (found_read e v h)
  found_use (in_turn members) v h = found_use_each members v h
  found_use (side_by_side members) v h = found_use_each members v h
  found_use (repeating p) v h = found_use p v h
  found_use skipping v h = absurd (cc h)
  found_use (receiving c at x to) v h = absurd (cc h)
  found_use (choosing again choices) v h = one_of (guards_read choices v) (choice_uses choices v) h (λ e. found_guard choices v e)
      (λ e. found_use_choice choices v e)

  found_guard : (choices : Choices) (v : ℕ) → guards_read choices v ≡ true → Found (occurrences_of_choices choices) (reads_var v)
  found_guard no_choices v h = absurd (cc h)
  found_guard (and_choice g p more) v h = one_of (reads v g) (guards_read more v) h
      (λ e. found_left (reads_of g) (occurrences p ++ occurrences_of_choices more) (reads_var v) (found_read g v e))
      (λ e. found_right (reads_of g) (occurrences p ++ occurrences_of_choices more) (reads_var v)
      (found_right (occurrences p) (occurrences_of_choices more) (reads_var v) (found_guard more v e)))

  found_use_choice : (choices : Choices) (v : ℕ) → choice_uses choices v ≡ true → Found (occurrences_of_choices choices) (reads_var v)
  found_use_choice no_choices v h = absurd (cc h)
  found_use_choice (and_choice g p more) v h = found_right (reads_of g) (occurrences p ++ occurrences_of_choices more) (reads_var v)
      (found_either (occurrences p) (occurrences_of_choices more) (reads_var v) (uses p v) (choice_uses more v) h (λ e. found_use p v e)
      (λ e. found_use_choice more v e))

  found_use_each : (members : Processes) (v : ℕ) → each_uses members v ≡ true → Found (occurrences_of_each members) (reads_var v)
  found_use_each no_members v h = absurd (cc h)
  found_use_each (and_member p more) v h = found_either (occurrences p) (occurrences_of_each more) (reads_var v) (uses p v) (each_uses more v) h
      (λ e. found_use p v e) (λ e. found_use_each more v e)

-- and where it receives
mutual
  found_receive : (p : Process) (c : ℕ) → receives p c ≡ true → Found (occurrences p) (receives_on c)
  found_receive (receiving k at x to) c h = record {
    o = record { deed = receives_on k; at = at };
    among = (0, omega arith, refl);
    is = ap (λ n. receives_on n)
        (same_number k c h);
  }
  found_receive (in_turn members) c h = found_receive_each members c h
  found_receive (side_by_side members) c h = found_receive_each members c h
  found_receive (repeating p) c h = found_receive p c h
  found_receive skipping c h = absurd (cc h)
  found_receive (assigning x at e) c h = absurd (cc h)
  found_receive (sending k at e) c h = absurd (cc h)
  found_receive (choosing again choices) c h = found_receive_choice choices c h

  found_receive_choice : (choices : Choices) (c : ℕ) → choice_receives choices c ≡ true → Found (occurrences_of_choices choices) (receives_on c)
  found_receive_choice no_choices c h = absurd (cc h)
  found_receive_choice (and_choice g p more) c h = found_right (reads_of g) (occurrences p ++ occurrences_of_choices more) (receives_on c)
      (found_either (occurrences p) (occurrences_of_choices more) (receives_on c) (receives p c) (choice_receives more c) h (λ e. found_receive p c e)
      (λ e. found_receive_choice more c e))

  found_receive_each : (members : Processes) (c : ℕ) → each_receives members c ≡ true → Found (occurrences_of_each members) (receives_on c)
  found_receive_each no_members c h = absurd (cc h)
  found_receive_each (and_member p more) c h = found_either (occurrences p) (occurrences_of_each more) (receives_on c) (receives p c) (each_receives more c) h
      (λ e. found_receive p c e) (λ e. found_receive_each more c e)

-- two deeds that the sharing rule keeps apart
abbrev pub Clash : Deed → Deed → Type 0
Clash d g = Clashes code.SharedSend d g ⊎ (Clashes code.SharedVariable d g ⊎ Clashes code.SharedReceive d g)

same_clash : (k : Line) → Clash (deed_of k) (deed_of k)
same_clash (of_channel c) = inl refl
same_clash (of_var x) = inr (inl refl)

fair_of : (p : Process) (more : Processes) → ((a b : Occurrence) → ParallelAcross (and_member p more) a b → ¬ Clash a.deed b.deed) → Fair p more
fair_of p more apart = record {
  send = λ k h. none (deed_of k) (deed_of k) (same_clash k) (found p k h) (turn_sends more k) (λ e. found_each more k e);
  reader = λ v h. none (reads_var v) (writes_var v) (inr (inl refl)) (found_use p v h) (turn_sends more (of_var v)) (λ e. found_each more (of_var v) e);
  read = λ v h. none (writes_var v) (reads_var v) (inr (inl refl)) (found p (of_var v) h) (each_uses more v) (λ e. found_use_each more v e);
  receive = λ c h. none (receives_on c) (receives_on c) (inr (inr refl)) (found_receive p c h) (each_receives more c) (λ e. found_receive_each more c e);
}
  where
    none : (d g : Deed) → Clash d g → Found (occurrences p) d → (b : Bool) → (b ≡ true → Found (occurrences_of_each more) g) → b ≡ false
    none d g clash x false f = refl
    none d g clash x true f =
        let y = f refl in
        absurd (apart x.o y.o (inl (inl (x.among, y.among))) (subst (λ (c : Deed). Clash c y.o.deed) (sym x.is)
        (subst (λ (c : Deed). Clash d c) (sym y.is) clash)))

mutual
  pub meets : TreesSettle → ExpressionsHold → (P : TypedProgram) → ((x : ℕ) → x < length P.vars → 1 ≤ var_width P.vars x) → (p : Process)
      → ((a b : Occurrence) → Parallel p a b → ¬ Clash a.deed b.deed) → IsProcess P.channels P.vars p → ReadsNoTarget p → Meets P p
  meets law hold P some_bit skipping apart h k = tt
  meets law hold P some_bit (sending c at e) apart h k = send_meets hold P c e h
  meets law hold P some_bit (in_turn members) apart h k = turn_meets law hold P some_bit members apart
      (let e : 2 ≤ member_count members = h.0 in let g : 1 ≤ member_count members = omega (arith, e) in g) h.1 k
  meets law hold P some_bit (repeating p) apart h k = meets law hold P some_bit p apart h k
  meets law hold P some_bit (assigning x at e) apart h k = assign_meets hold P x e h k
  meets law hold P some_bit (receiving c at x to) apart h k = port_meets P some_bit c x h
  meets law hold P some_bit (side_by_side members) apart h k = (
    h.0,
    tree_over (member_count members) law
        (let e : 2 ≤ member_count members = h.0 in let g : 1 ≤ member_count members = omega (arith, e) in g),
    each_meets law hold P some_bit members apart h.1 k,
  )
  meets law hold P some_bit (choosing again choices) apart h k =
      (h.0, guards_meet hold P choices h.2, choice_meets law hold P some_bit choices apart h.2 k)

  choice_meets : TreesSettle → ExpressionsHold → (P : TypedProgram) → ((x : ℕ) → x < length P.vars → 1 ≤ var_width P.vars x) → (choices : Choices)
      → ((a b : Occurrence) → ParallelInChoices choices a b → ¬ Clash a.deed b.deed) → AreChoices P.channels P.vars choices → ChoicesReadNoTarget choices
      → ChoiceMeets P choices
  choice_meets law hold P some_bit no_choices apart h k = tt
  choice_meets law hold P some_bit (and_choice g p more) apart h k = (
    meets law hold P some_bit p (λ a b z. apart a b (inl z)) h.1 k.0,
    choice_meets law hold P some_bit more (λ a b z. apart a b (inr z)) h.2 k.1,
  )

  pub turn_meets : TreesSettle → ExpressionsHold → (P : TypedProgram) → ((x : ℕ) → x < length P.vars → 1 ≤ var_width P.vars x) → (members : Processes)
      → ((a b : Occurrence) → ParallelInside members a b → ¬ Clash a.deed b.deed) → 1 ≤ member_count members → AreProcesses P.channels P.vars members
      → EachReadsNoTarget members → TurnMeets P members
  turn_meets law hold P some_bit no_members apart some h k = let g : ⊥ = omega (arith, some) in g
  turn_meets law hold P some_bit (and_member p no_members) apart some h k = meets law hold P some_bit p (λ a b h. apart a b (inl h)) h.0 k.0
  turn_meets law hold P some_bit (and_member p (and_member q more)) apart some h k = (
    meets law hold P some_bit p (λ a b h. apart a b (inl h)) h.0 k.0,
    turn_meets law hold P some_bit (and_member q more) (λ a b h. apart a b (inr h))
        (let g : 1 ≤ suc (member_count more) = omega arith in g) h.1 k.1,
  )

  pub each_meets : TreesSettle → ExpressionsHold → (P : TypedProgram) → ((x : ℕ) → x < length P.vars → 1 ≤ var_width P.vars x) → (members : Processes)
      → ((a b : Occurrence) → Parallel (side_by_side members) a b → ¬ Clash a.deed b.deed) → AreProcesses P.channels P.vars members → EachReadsNoTarget members
      → EachMeets P members
  each_meets law hold P some_bit no_members apart h k = tt
  each_meets law hold P some_bit (and_member p more) apart h k = (
    meets law hold P some_bit p (λ a b g. apart a b (inl (inl g))) h.0 k.0,
    fair_of p more (λ a b g. apart a b (inr g)),
    each_meets law hold P some_bit more (λ a b g. apart a b (wider a b g)) h.1 k.1,
  )
    where
      wider : (a b : Occurrence) → Parallel (side_by_side more) a b → Parallel (side_by_side (and_member p more)) a b
      wider a b (inl g) = inl (inr g)
      wider a b (inr g) = inr (inr g)

-- such a statement isn't over before it begins
mutual
  pub opened_on : (P : TypedProgram) (p : Process) → Meets P p → is_finished (opened p) ≡ false
  opened_on P skipping h = refl
  opened_on P (sending c at e) h = refl
  opened_on P (in_turn members) h = turn_opened_on P members h
  opened_on P (repeating p) h = refl
  opened_on P (assigning x at e) h = refl
  opened_on P (receiving c at x to) h = refl
  opened_on P (side_by_side members) h = ap (λ b. is_finished (if b then finished else in_parallel (opened_each members)))
      (each_opened_on P members (let e : 2 ≤ member_count members = h.0 in let g : 1 ≤ member_count members = omega (arith, e) in g) h.2)
  opened_on P (choosing again _) h = refl

  pub turn_opened_on : (P : TypedProgram) (members : Processes) → TurnMeets P members → is_finished (opened_turn members) ≡ false
  turn_opened_on P no_members h = absurd h
  turn_opened_on P (and_member p no_members) h = opened_on P p h
  turn_opened_on P (and_member p (and_member q rest)) h = refl

  pub each_opened_on : (P : TypedProgram) (members : Processes) → 1 ≤ member_count members → EachMeets P members → all_finished (opened_each members) ≡ false
  each_opened_on P no_members some h = absurd (let g : ⊥ = omega (arith, some) in g)
  each_opened_on P (and_member p more) some h = ap (λ b. b && all_finished (opened_each more)) (opened_on P p h.0)

pub followed_on : (t : Term) (more : Processes) → is_finished t ≡ false → followed t more ≡ in_sequence t more
followed_on finished more e = absurd (cc e)
followed_on (active p) more e = refl
followed_on (in_sequence t rest) more e = refl
followed_on (in_parallel ts) more e = refl

pub opened_then : (P : TypedProgram) (p : Process) → Meets P p → (more : Processes) → followed (opened p) more ≡ in_sequence (opened p) more
opened_then P p h more = followed_on (opened p) more (opened_on P p h)

-- a line of which a statement has sites is merged
mutual
  pub sends_merged : (P : TypedProgram) (p : Process) → Meets P p → (k : Line) → sends p k ≡ true → is_merged P k ≡ true
  sends_merged P (assigning x at f) h k e = ap (is_merged P) (sym (same_line_is (of_var x) k e)) ∙ h.merged
  sends_merged P (sending c at f) h k e = ap (is_merged P) (sym (same_line_is (of_channel c) k e)) ∙ h.merged
  sends_merged P (in_turn members) h k e = turn_sends_merged P members h k e
  sends_merged P (side_by_side members) h k e = each_sends_merged P members h.2 k e
  sends_merged P (repeating p) h k e = sends_merged P p h k e
  sends_merged P skipping h k e = absurd (cc e)
  sends_merged P (receiving c at x to) h k e = ap (is_merged P) (sym (same_line_is (of_var x) k e))
  sends_merged P (choosing again choices) h k e = choice_sends_merged P choices h.2 k e

  choice_sends_merged : (P : TypedProgram) (choices : Choices) → ChoiceMeets P choices → (k : Line) → choice_sends choices k ≡ true → is_merged P k ≡ true
  choice_sends_merged P no_choices h k e = absurd (cc e)
  choice_sends_merged P (and_choice g p more) h k e = one_of (sends p k) (choice_sends more k) e (λ z. sends_merged P p h.0 k z)
      (λ z. choice_sends_merged P more h.1 k z)

  turn_sends_merged : (P : TypedProgram) (members : Processes) → TurnMeets P members → (k : Line) → turn_sends members k ≡ true → is_merged P k ≡ true
  turn_sends_merged P no_members h k e = absurd (cc e)
  turn_sends_merged P (and_member p no_members) h k e = one_of (sends p k) false e (λ z. sends_merged P p h k z) (λ z. absurd (cc z))
  turn_sends_merged P (and_member p (and_member q more)) h k e = one_of (sends p k) (turn_sends (and_member q more) k) e (λ z. sends_merged P p h.0 k z)
      (λ z. turn_sends_merged P (and_member q more) h.1 k z)

  each_sends_merged : (P : TypedProgram) (members : Processes) → EachMeets P members → (k : Line) → turn_sends members k ≡ true → is_merged P k ≡ true
  each_sends_merged P no_members h k e = absurd (cc e)
  each_sends_merged P (and_member p more) h k e = one_of (sends p k) (turn_sends more k) e (λ z. sends_merged P p h.0 k z)
      (λ z. each_sends_merged P more h.2 k z)

-- and a channel on which it receives is one whose acknowledge it moves
mutual
  pub receives_heard : (P : TypedProgram) (p : Process) → Meets P p → (c : ℕ) → receives p c ≡ true → is_heard (kind_at P.channels c) ≡ true
  receives_heard P (receiving k at x to) h c e = ap (λ n. is_heard (kind_at P.channels n)) (sym (same_number k c e)) ∙ h.heard
  receives_heard P (in_turn members) h c e = turn_receives_heard P members h c e
  receives_heard P (side_by_side members) h c e = each_receives_heard P members h.2 c e
  receives_heard P (repeating p) h c e = receives_heard P p h c e
  receives_heard P skipping h c e = absurd (cc e)
  receives_heard P (assigning x at f) h c e = absurd (cc e)
  receives_heard P (sending k at f) h c e = absurd (cc e)
  receives_heard P (choosing again choices) h c e = choice_receives_heard P choices h.2 c e

  choice_receives_heard : (P : TypedProgram) (choices : Choices) → ChoiceMeets P choices → (c : ℕ) → choice_receives choices c ≡ true
      → is_heard (kind_at P.channels c) ≡ true
  choice_receives_heard P no_choices h c e = absurd (cc e)
  choice_receives_heard P (and_choice g p more) h c e = one_of (receives p c) (choice_receives more c) e (λ z. receives_heard P p h.0 c z)
      (λ z. choice_receives_heard P more h.1 c z)

  turn_receives_heard : (P : TypedProgram) (members : Processes) → TurnMeets P members → (c : ℕ) → each_receives members c ≡ true
      → is_heard (kind_at P.channels c) ≡ true
  turn_receives_heard P no_members h c e = absurd (cc e)
  turn_receives_heard P (and_member p no_members) h c e = one_of (receives p c) false e (λ z. receives_heard P p h c z) (λ z. absurd (cc z))
  turn_receives_heard P (and_member p (and_member q more)) h c e = one_of (receives p c) (each_receives (and_member q more) c) e
      (λ z. receives_heard P p h.0 c z) (λ z. turn_receives_heard P (and_member q more) h.1 c z)

  each_receives_heard : (P : TypedProgram) (members : Processes) → EachMeets P members → (c : ℕ) → each_receives members c ≡ true
      → is_heard (kind_at P.channels c) ≡ true
  each_receives_heard P no_members h c e = absurd (cc e)
  each_receives_heard P (and_member p more) h c e = one_of (receives p c) (each_receives more c) e (λ z. receives_heard P p h.0 c z)
      (λ z. each_receives_heard P more h.2 c z)

-- and one that is declared
mutual
  pub receives_within : (P : TypedProgram) (p : Process) → Meets P p → (c : ℕ) → receives p c ≡ true → c < length P.channels
  receives_within P (receiving k at x to) h c e = subst (λ (n : ℕ). n < length P.channels) (same_number k c e) h.within
  receives_within P (in_turn members) h c e = turn_receives_within P members h c e
  receives_within P (side_by_side members) h c e = each_receives_within P members h.2 c e
  receives_within P (repeating p) h c e = receives_within P p h c e
  receives_within P skipping h c e = absurd (cc e)
  receives_within P (assigning x at f) h c e = absurd (cc e)
  receives_within P (sending k at f) h c e = absurd (cc e)
  receives_within P (choosing again choices) h c e = choice_receives_within P choices h.2 c e

  choice_receives_within : (P : TypedProgram) (choices : Choices) → ChoiceMeets P choices → (c : ℕ) → choice_receives choices c ≡ true
      → c < length P.channels
  choice_receives_within P no_choices h c e = absurd (cc e)
  choice_receives_within P (and_choice g p more) h c e = one_of (receives p c) (choice_receives more c) e (λ z. receives_within P p h.0 c z)
      (λ z. choice_receives_within P more h.1 c z)

  turn_receives_within : (P : TypedProgram) (members : Processes) → TurnMeets P members → (c : ℕ) → each_receives members c ≡ true → c < length P.channels
  turn_receives_within P no_members h c e = absurd (cc e)
  turn_receives_within P (and_member p no_members) h c e = one_of (receives p c) false e (λ z. receives_within P p h c z) (λ z. absurd (cc z))
  turn_receives_within P (and_member p (and_member q more)) h c e = one_of (receives p c) (each_receives (and_member q more) c) e
      (λ z. receives_within P p h.0 c z) (λ z. turn_receives_within P (and_member q more) h.1 c z)

  each_receives_within : (P : TypedProgram) (members : Processes) → EachMeets P members → (c : ℕ) → each_receives members c ≡ true → c < length P.channels
  each_receives_within P no_members h c e = absurd (cc e)
  each_receives_within P (and_member p more) h c e = one_of (receives p c) (each_receives more c) e (λ z. receives_within P p h.0 c z)
      (λ z. each_receives_within P more h.2 c z)

-- what a statement reads is declared
mutual
  pub uses_within : (P : TypedProgram) (p : Process) → Meets P p → (v : ℕ) → uses p v ≡ true → v < length P.vars
  uses_within P (assigning x at f) h v e = read_declared P f h.reads v e
  uses_within P (sending k at f) h v e = read_declared P f h.reads v e
  uses_within P (in_turn members) h v e = turn_uses_within P members h v e
  uses_within P (side_by_side members) h v e = each_uses_within P members h.2 v e
  uses_within P (repeating p) h v e = uses_within P p h v e
  uses_within P skipping h v e = absurd (cc e)
  uses_within P (receiving k at x to) h v e = absurd (cc e)
  uses_within P (choosing again choices) h v e = one_of (guards_read choices v) (choice_uses choices v) e (λ z. guards_read_within P choices h.1 v z)
      (λ z. choice_uses_within P choices h.2 v z)

  pub guards_read_within : (P : TypedProgram) (choices : Choices) → GuardsMeet P choices → (v : ℕ) → guards_read choices v ≡ true → v < length P.vars
  guards_read_within P no_choices h v e = absurd (cc e)
  guards_read_within P (and_choice g p more) h v e = one_of (reads v g) (guards_read more v) e (λ z. read_declared P g h.0.reads v z)
      (λ z. guards_read_within P more h.1 v z)

  choice_uses_within : (P : TypedProgram) (choices : Choices) → ChoiceMeets P choices → (v : ℕ) → choice_uses choices v ≡ true → v < length P.vars
  choice_uses_within P no_choices h v e = absurd (cc e)
  choice_uses_within P (and_choice g p more) h v e = one_of (uses p v) (choice_uses more v) e (λ z. uses_within P p h.0 v z)
      (λ z. choice_uses_within P more h.1 v z)

  turn_uses_within : (P : TypedProgram) (members : Processes) → TurnMeets P members → (v : ℕ) → each_uses members v ≡ true → v < length P.vars
  turn_uses_within P no_members h v e = absurd (cc e)
  turn_uses_within P (and_member p no_members) h v e = one_of (uses p v) false e (λ z. uses_within P p h v z) (λ z. absurd (cc z))
  turn_uses_within P (and_member p (and_member q more)) h v e = one_of (uses p v) (each_uses (and_member q more) v) e (λ z. uses_within P p h.0 v z)
      (λ z. turn_uses_within P (and_member q more) h.1 v z)

  each_uses_within : (P : TypedProgram) (members : Processes) → EachMeets P members → (v : ℕ) → each_uses members v ≡ true → v < length P.vars
  each_uses_within P no_members h v e = absurd (cc e)
  each_uses_within P (and_member p more) h v e = one_of (uses p v) (each_uses more v) e (λ z. uses_within P p h.0 v z)
      (λ z. each_uses_within P more h.2 v z)
