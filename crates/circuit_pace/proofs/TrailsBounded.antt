-- Each trail of an own node is two less than the bound at most, where the numbers of what follows the falls of lines leave so much of it.
--
-- P: the program; L: the bound; K: how many moves follow the falls of lines; p, q, more: statements; held, down: as in trails; w: the
-- context; x: values of nodes; s: a spot; z: that its rule fires.
use Rattle.std.proofs.Common.{◌≡◌, ℕ, suc, ◌+◌, ◌-◌, ◌≤◌, ◌==◌, Bool, true, false, ap, ◌∙◌, arith}
use Rattle.std.specs.Prelude.{if◌then◌else◌, max}
use Rattle.std.proofs.Math.Nat.{le-max_left, le-max_right, max-le}
use Rattle.chp_base.specs.declared.span.Span.{Span}
use Rattle.chp_base.specs.declared.channel.Kind.{Kind}
use Rattle.chp_base.specs.declared.channel.Kind.TheVariants.{In, Out, Chan}
use Rattle.width_check.specs.Processes.{Formula, Process, skipping, assigning, sending, receiving, in_turn, side_by_side, choosing, repeating, Processes, no_members, and_member, Choices, no_choices, and_choice, choice_count, TypedProgram}
use Rattle.width_check.specs.Typing.{kind_at}
use Rattle.width_check.specs.Reads.{reads}
use Rattle.circuit_places.specs.Lines.{of_channel, of_var}
use Rattle.circuit_places.specs.Heads.{Bits}
use Rattle.circuit_places.specs.Whole.{is_sent}
use Rattle.circuit_places.specs.Circuit.{Cells, TurnCells, ChoiceCells}
use Rattle.circuit_places.proofs.LineNames.{self_number}
use Rattle.circuit_places.proofs.Meets.{SiteMeets, Meets, TurnMeets, ChoiceMeets}
use Rattle.round_time.specs.Longest.{depth, guards_depth, var_height, over_sites, rails_fall, assign_holds, writes_fall, receive_clears, channel_low}
use Rattle.circuit_time.proofs.Trails.{Clearing, rail_left, back, turn_back, choice_back}
use Rattle.circuit_time.proofs.OwnTrails.{Covers, TurnCovers, ChoiceCovers}
use Rattle.circuit_pace.proofs.TrailsWithin.{sends_hold, Leaves, Within, TurnWithin, ChoiceWithin, turn_of, last_of, later_of, select_of, arm_of, arms_of, arms_low}

-- what a site is held for, among all sites
module _ (P : TypedProgram) (L : ℕ) (K : Clearing) (leaves : Leaves P K L) where
  assign_hold : (held down x : ℕ) (at : Span) (e : Formula) → SiteMeets P (of_var x) e → Within P L held down (assigning x at e)
      → held + depth e + 2 ≤ writes_fall P x
  assign_hold held down x at e meets w =
      let a = w.writes x in
      let b : (if x == x then assign_holds (reads x e) held (depth e) else 0) ≡ held + depth e + 2 =
      ap (λ (c : Bool). if c then assign_holds (reads x e) held (depth e) else 0) (self_number x) ∙ ap (λ (c : Bool). assign_holds c held
      (depth e)) meets.plain in
      omega (arith, a, b)

  send_hold : (held down c : ℕ) (at : Span) (e : Formula) → Within P L held down (sending c at e) → held + depth e + 2 ≤ sends_hold P c
  send_hold held down c at e w =
      let a = w.sends c in
      let b : (if c == c then held + depth e + 2 else 0) ≡ held + depth e + 2 = ap (λ (d : Bool). if d then held + depth e + 2 else 0) (self_number c) in
      omega (arith, a, b)

  receive_hold : (held down c x : ℕ) (at to : Span) → Within P L held down (receiving c at x to) → held + 3 ≤ writes_fall P x
  receive_hold held down c x at to w =
      let a = w.writes x in
      let r = le-max_right (rails_fall P (kind_at P.channels c) c) (held + 1) in
      let b : (if x == x then max (rails_fall P (kind_at P.channels c) c) (held + 1) + 2 else 0) ≡ max (rails_fall P (kind_at P.channels c) c) (held + 1) + 2 =
      ap (λ (d : Bool). if d then max (rails_fall P (kind_at P.channels c) c) (held + 1) + 2 else 0) (self_number x) in
      omega (arith, a, b, r)

  -- and how much is left of the bound where it lets go
  pub assign_room : (held down x : ℕ) (at : Span) (e : Formula) → SiteMeets P (of_var x) e → Covers P K held down (assigning x at e)
      → Within P L held down (assigning x at e) → suc (suc (held + (depth e + (2 + var_height P x + K.written x)))) ≤ L
  assign_room held down x at e meets covers w =
      let a = assign_hold held down x at e meets w in
      let b = leaves.written x in
      let c = covers.1 in
      omega (arith, a, b, c)

  pub receive_room : (held down c x : ℕ) (at to : Span) → Covers P K held down (receiving c at x to) → Within P L held down (receiving c at x to)
      → suc (suc (held + (3 + var_height P x + K.written x))) ≤ L
  receive_room held down c x at to covers w =
      let a = receive_hold held down c x at to w in
      let b = leaves.written x in
      let d = covers.1 in
      omega (arith, a, b, d)

  pub send_room : (held down c : ℕ) (at : Span) (e : Formula) → SiteMeets P (of_channel c) e → Covers P K held down (sending c at e)
      → Within P L held down (sending c at e) → suc (suc (held + (depth e + rail_left (kind_at P.channels c) (K.acked c) (K.taken c)))) ≤ L
  send_room held down c at e meets covers w = by (kind_at P.channels c) meets.merged (leaves.acked c) (leaves.taken c)
    where
      by : (k : Kind) → is_sent k ≡ true → K.acked c ≤ L - channel_low P k c → K.taken c ≤ L - (rails_fall P k c + 1)
          → suc (suc (held + (depth e + rail_left k (K.acked c) (K.taken c)))) ≤ L
      by In sent a t = absurd (cc sent)
      by Out sent a t =
          let h = send_hold held down c at e w in
          let d = covers.1 in
          let m = le-max_left (rails_fall P Out c + 2) (over_sites (receive_clears P c) 2 P.body) in
          omega (arith, h, d, a, m)
      by Chan sent a t =
          let h = send_hold held down c at e w in
          let d = covers.1 in
          let b = leaves.both c in
          omega (arith, h, d, b, t)

  -- ---- letting go
  mutual
    pub let_go : (held down : ℕ) (p : Process) → Meets P p → Covers P K held down p → Within P L held down p → (x : Cells p)
        → suc (held + back P K down p x) ≤ L
    let_go held down skipping meets covers w x = let a = w.lows in omega (arith, a)
    let_go held down (assigning v at e) meets covers w x = let a = assign_room held down v at e meets covers w in omega (arith, a)
    let_go held down (sending c at e) meets covers w x = let a = send_room held down c at e meets covers w in omega (arith, a)
    let_go held down (receiving c at v to) meets covers w x = let a = receive_room held down c v at to covers w in omega (arith, a)
    let_go held down (in_turn members) meets covers w x = turn_let_go held down members meets covers (turn_of P L w) x
    let_go held down (side_by_side members) meets covers w x = let a = w.lows in omega (arith, a)
    let_go held down (repeating p) meets covers w x = let a = w.lows in omega (arith, a)
    let_go held down (choosing false choices) meets covers w x =
        let a = w.lows in
        let b = arms_low P L (held + 3) choices in
        let c = arms_let_go (held + 3) (1 + down) (3 + guards_depth choices) (1 + down) (held + 2) choices meets.2 covers.1 (select_of P L w)
        (omega (arith, a, b)) (omega arith) x.latched x.branches in
        omega (arith, c)
    let_go held down (choosing true choices) meets covers w x = let a = w.lows in omega (arith, a)

    pub turn_let_go : (held down : ℕ) (ms : Processes) → TurnMeets P ms → TurnCovers P K held down ms → TurnWithin P L held down ms → (x : TurnCells ms)
        → suc (held + turn_back P K down ms x) ≤ L
    turn_let_go held down no_members meets covers w x = absurd meets
    turn_let_go held down (and_member p no_members) meets covers w x = let_go held down p meets covers (last_of P L w) x
    turn_let_go held down (and_member p (and_member q more)) meets covers w x =
        let a = turn_let_go (held + 2) down (and_member q more) meets.1 covers.1 (later_of P L w) x.later in omega (arith, a)

    -- so many moves before the latches fall
    pub arms_let_go : (held down started any before : ℕ) (cs : Choices) → ChoiceMeets P cs → ChoiceCovers P K held down cs
        → ChoiceWithin P L held down started cs → before + (2 + any) ≤ L → before + 2 ≤ suc held → (b : Bits (choice_count cs)) (x : ChoiceCells cs)
        → before + choice_back P K any down cs b x ≤ L
    arms_let_go held down started any before no_choices meets covers w base room b x = base
    arms_let_go held down started any before (and_choice g p more) meets covers w base room b x =
        let a = let_go held down p meets.0 covers.0 (arm_of P L w) x.0 in
        let c = arms_let_go held down started any before more meets.1 covers.1 (arms_of P L w) base room b.1 x.1 in
        let m : max (if b.0 then 2 + back P K down p x.0 else 0) (choice_back P K any down more b.1 x.1) ≤ L - before =
        max-le (by b.0 a) (omega (arith, c)) in
        omega (arith, m, base)
      where
        by : (y : Bool) → suc (held + back P K down p x.0) ≤ L → (if y then 2 + back P K down p x.0 else 0) ≤ L - before
        by true a = omega (arith, a, room)
        by false a = omega arith
