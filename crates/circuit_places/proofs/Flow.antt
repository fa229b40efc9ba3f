-- What a move of a statement may do to the wires that others read, and what it comes to.
use Rattle.std.proofs.Common.{◌≡◌, ◌≢◌, ℕ, ◌<◌, Bool, true, false, List, ◌∷◌, refl, sym, ap, ◌∙◌, subst}
use Rattle.std.specs.Prelude.{◌||◌, is_some}
use Rattle.width_check.specs.Processes.{Process, Processes, TypedProgram}
use Rattle.width_check.specs.Typing.{channel_width}
pub use Rattle.circuit_places.proofs.Modes.{goes, goes_asks}
use Rattle.circuit_places.specs.Lines.{Line, of_channel, line_width, Seen}
use Rattle.circuit_places.specs.Circuit.{GuardedSpot, Spot, TurnSpot, BranchSpot, turned_guarded, flipped, turned_turn, turned_branches}
use Rattle.circuit_places.proofs.Places.{Mode, GuardedAt, At, TurnAt, BranchesAt, guarded_cells, cells, turn_cells, branch_cells, Shown, none_shown, both_shown, guarded_shown, shown, turn_shown, branches_shown, GuardedFits, Fits, TurnFits, BranchesFit, writing, guarded_writing, turn_writing, branches_writing, guarded_moves, moves, turn_moves, branch_moves}
use Rattle.circuit_places.proofs.Meets.{sends, receives}
use Rattle.circuit_places.proofs.Stepping.{steps, guarded_steps, turn_steps, branch_steps}
use Rattle.function_blocks.specs.Rails.{Single}
use Rattle.circuit_places.specs.Whole.{value_on, neutral_on}
use Rattle.circuit_places.proofs.Left.{guarded_left, left, turn_left, branches_left, Follows, FollowsInside, ToldBy}

-- The promises to what stands apart. What is under way stays so while the acknowledge is high; a site's rail rises where the
-- acknowledge is low, and falls where it is high, and so does its own acknowledge. What a receive takes is valid where it
-- has, and neutral where it lets go.
pub record Flow (env : Seen) (a b : Shown) : Type 0 where
  pub talk : (k : Line) → env.ack k ≡ true → a.talk k ≡ true → b.talk k ≡ true
  pub rises : (k : Line) (i : ℕ) (one : Bool) → env.ack k ≡ false → a.offer k i one ≡ true → b.offer k i one ≡ true
  pub falls : (k : Line) (i : ℕ) (one : Bool) → env.ack k ≡ true → b.offer k i one ≡ true → a.offer k i one ≡ true
  pub listen : (c : ℕ) → env.ack (of_channel c) ≡ true → a.listen c ≡ true → b.listen c ≡ true
  pub holds : (c : ℕ) → env.ack (of_channel c) ≡ false → a.take c ≡ true → b.take c ≡ true
  pub drops : (c : ℕ) → env.ack (of_channel c) ≡ true → b.take c ≡ true → a.take c ≡ true
  pub taken : (c : ℕ) → a.take c ≡ false → b.take c ≡ true → is_some (value_on (env.width (of_channel c)) (env.rail (of_channel c))) ≡ true
  pub left : (c : ℕ) → a.take c ≡ true → b.take c ≡ false → neutral_on (env.width (of_channel c)) (env.rail (of_channel c)) ≡ true

-- where nothing changes of receives
pub record Sends (env : Seen) (a b : Shown) : Type 0 where
  pub talk : (k : Line) → env.ack k ≡ true → a.talk k ≡ true → b.talk k ≡ true
  pub rises : (k : Line) (i : ℕ) (one : Bool) → env.ack k ≡ false → a.offer k i one ≡ true → b.offer k i one ≡ true
  pub falls : (k : Line) (i : ℕ) (one : Bool) → env.ack k ≡ true → b.offer k i one ≡ true → a.offer k i one ≡ true
  pub listen : a.listen ≡ b.listen
  pub take : a.take ≡ b.take

pub flow_sends : (env : Seen) (a b : Shown) → Sends env a b → Flow env a b
flow_sends env a b f = record {
  talk = f.talk;
  rises = f.rises;
  falls = f.falls;
  listen = λ c e h. sym (ap (λ (t : ℕ → Bool). t c) f.listen) ∙ h;
  holds = λ c e h. sym (ap (λ (t : ℕ → Bool). t c) f.take) ∙ h;
  drops = λ c e h. ap (λ (t : ℕ → Bool). t c) f.take ∙ h;
  taken = λ c e h. absurd (cc (ap (λ (t : ℕ → Bool). t c) f.take, e, h));
  left = λ c e h. absurd (cc (ap (λ (t : ℕ → Bool). t c) f.take, e, h));
}

pub flow_same : (env : Seen) (a : Shown) → Flow env a a
flow_same env a = flow_sends env a a record { talk = λ k e h. h; rises = λ k i one e h. h; falls = λ k i one e h. h; listen = refl; take = refl }

pub flow_by : (env : Seen) (a b c : Shown) → b ≡ c → Flow env a b → Flow env a c
flow_by env a b c e f = subst (λ (z : Shown). Flow env a z) e f

-- what one of two parts promises, both do
pub or_map : (a b c d : Bool) → (a ≡ true → c ≡ true) → (b ≡ true → d ≡ true) → (a || b) ≡ true → (c || d) ≡ true
or_map true b c d f g h = ap (λ z. z || d) (f refl)
or_map false b true d f g h = refl
or_map false b false d f g h = g h

-- where one of two turns over, one of the parts does
or_turns : {A : Type 0} (a b c d : Bool) → (a ≡ false → c ≡ true → A) → (b ≡ false → d ≡ true → A) → (a || b) ≡ false → (c || d) ≡ true → A
or_turns true b c d f g e h = absurd (cc e)
or_turns false b true d f g e h = f refl refl
or_turns false b false d f g e h = g e h

pub or_free : (a b c d : Bool) → (c ≡ false → a ≡ false) → (d ≡ false → b ≡ false) → (c || d) ≡ false → (a || b) ≡ false
or_free a b true d f g e = absurd (cc e)
or_free a b false d f g e = ap (λ z. z || b) (f refl) ∙ g e

pub flow_both : (env : Seen) (a c x y : Shown) → Flow env a c → Flow env x y → Flow env (both_shown a x) (both_shown c y)
flow_both env a c x y f g = record {
  talk = λ k e h. or_map (a.talk k) (x.talk k) (c.talk k) (y.talk k) (f.talk k e) (g.talk k e) h;
  rises = λ k i one e h. or_map (a.offer k i one) (x.offer k i one) (c.offer k i one) (y.offer k i one) (f.rises k i one e) (g.rises k i one e) h;
  falls = λ k i one e h. or_map (c.offer k i one) (y.offer k i one) (a.offer k i one) (x.offer k i one) (f.falls k i one e) (g.falls k i one e) h;
  listen = λ k e h. or_map (a.listen k) (x.listen k) (c.listen k) (y.listen k) (f.listen k e) (g.listen k e) h;
  holds = λ k e h. or_map (a.take k) (x.take k) (c.take k) (y.take k) (f.holds k e) (g.holds k e) h;
  drops = λ k e h. or_map (c.take k) (y.take k) (a.take k) (x.take k) (f.drops k e) (g.drops k e) h;
  taken = λ k e h. or_turns (a.take k) (x.take k) (c.take k) (y.take k) (f.taken k) (g.taken k) e h;
  left = λ k e h. or_turns (c.take k) (y.take k) (a.take k) (x.take k) (λ i j. f.left k j i) (λ i j. g.left k j i) h e;
}

-- of no bit of a variable, nor of a channel, both rails are high; and a rail that is high is one of the channel's
pub record Clean (P : TypedProgram) (env : Seen) : Type 0 where
  pub single : Single env.bit
  pub wide : (k : Line) → env.width k ≡ line_width P k
  pub rails : (c i : ℕ) → env.rail (of_channel c) i true ≡ true → env.rail (of_channel c) i false ≡ true → ⊥
  pub below : (c i : ℕ) (one : Bool) → env.rail (of_channel c) i one ≡ true → i < channel_width P.channels c

-- where the acknowledge of a line is high of which a statement has sites, one of them is under way, and where that of a
-- channel is on which it receives, a receive is
pub record Backed (p : Process) (x : Shown) (env : Seen) : Type 0 where
  pub send : (k : Line) → sends p k ≡ true → env.ack k ≡ true → x.talk k ≡ true
  pub receive : (c : ℕ) → receives p c ≡ true → env.ack (of_channel c) ≡ true → x.listen c ≡ true

-- the acknowledges of those are low
pub record Quiet (p : Process) (env : Seen) : Type 0 where
  pub send : (k : Line) → sends p k ≡ true → env.ack k ≡ false
  pub receive : (c : ℕ) → receives p c ≡ true → env.ack (of_channel c) ≡ false

pub low_of : {t : Bool} (a : Bool) → (a ≡ true → t ≡ true) → t ≡ false → a ≡ false
low_of true f e = absurd (cc (f refl, e))
low_of false f e = refl

pub quiet_of : {p : Process} (env : Seen) (x : Shown) → x ≡ none_shown → Backed p x env → Quiet p env
quiet_of env x e b = record {
  send = λ k h. low_of (env.ack k) (b.send k h) (ap (λ (z : Shown). z.talk k) e);
  receive = λ c h. low_of (env.ack (of_channel c)) (b.receive c h) (ap (λ (z : Shown). z.listen c) e);
}

-- what a move of an own node comes to: a place whose values are those with the node flipped over, and where no other
-- node's move is lost
pub record After (p : Process) (m : Mode) (env : Seen) (a : At p m) (s : Spot p) : Type 0 where
  pub mode : Mode
  pub to : At p mode
  pub same : cells to ≡ flipped p (cells a) s
  pub way : goes m mode ≡ true
  pub fits : Fits to env
  pub flow : Flow env (shown a) (shown to)
  pub term : Follows (ToldBy env (shown a).read) (steps a s) (left env.ack a) (left env.ack to)
  pub frees : (x : ℕ) → writing env.ack to x ≡ false → writing env.ack a x ≡ false
  pub keeps : (q : Spot p) → q ≢ s → moves env a q ≡ true → moves env to q ≡ true

pub record GuardedAfter (p : Process) (m : Mode) (env : Seen) (a : GuardedAt p m) (s : GuardedSpot p) : Type 0 where
  pub mode : Mode
  pub to : GuardedAt p mode
  pub same : guarded_cells to ≡ turned_guarded p (guarded_cells a) s
  pub way : goes m mode ≡ true
  pub fits : GuardedFits to env
  pub flow : Flow env (guarded_shown a) (guarded_shown to)
  pub term : Follows (ToldBy env (guarded_shown a).read) (guarded_steps a s) (guarded_left env.ack a) (guarded_left env.ack to)
  pub frees : (x : ℕ) → guarded_writing env.ack to x ≡ false → guarded_writing env.ack a x ≡ false
  pub keeps : (q : GuardedSpot p) → q ≢ s → guarded_moves env a q ≡ true → guarded_moves env to q ≡ true

pub record TurnAfter (members : Processes) (m : Mode) (env : Seen) (a : TurnAt members m) (s : TurnSpot members) : Type 0 where
  pub mode : Mode
  pub to : TurnAt members mode
  pub same : turn_cells to ≡ turned_turn members (turn_cells a) s
  pub way : goes m mode ≡ true
  pub fits : TurnFits to env
  pub flow : Flow env (turn_shown a) (turn_shown to)
  pub term : Follows (ToldBy env (turn_shown a).read) (turn_steps a s) (turn_left env.ack a) (turn_left env.ack to)
  pub frees : (x : ℕ) → turn_writing env.ack to x ≡ false → turn_writing env.ack a x ≡ false
  pub keeps : (q : TurnSpot members) → q ≢ s → turn_moves env a q ≡ true → turn_moves env to q ≡ true

-- one of several branches goes on
pub data OneGoes : List Mode → List Mode → Type 0 where
  this_goes : {k l : Mode} {ks : List Mode} → goes k l ≡ true → OneGoes (k ∷ ks) (l ∷ ks)
  other_goes : {k : Mode} {ks ls : List Mode} → OneGoes ks ls → OneGoes (k ∷ ks) (k ∷ ls)

pub record BranchAfter (members : Processes) (ks : List Mode) (env : Seen) (a : BranchesAt members ks) (s : BranchSpot members) : Type 0 where
  pub modes : List Mode
  pub to : BranchesAt members modes
  pub same : branch_cells to ≡ turned_branches members (branch_cells a) s
  pub way : OneGoes ks modes
  pub fits : BranchesFit to env
  pub flow : Flow env (branches_shown a) (branches_shown to)
  pub term : FollowsInside (ToldBy env (branches_shown a).read) (branch_steps a s) (branches_left env.ack a) (branches_left env.ack to)
  pub frees : (x : ℕ) → branches_writing env.ack to x ≡ false → branches_writing env.ack a x ≡ false
  pub keeps : (q : BranchSpot members) → q ≢ s → branch_moves env a q ≡ true → branch_moves env to q ≡ true

pub or_left : (a b : Bool) → a ≡ true → (a || b) ≡ true
or_left a b h = ap (λ z. z || b) h

pub or_right : (a b : Bool) → b ≡ true → (a || b) ≡ true
or_right true b h = refl
or_right false b h = h

pub neither_left : (a b : Bool) → (a || b) ≡ false → a ≡ false
neither_left true b h = absurd (cc h)
neither_left false b h = refl

pub neither_right : (a b : Bool) → (a || b) ≡ false → b ≡ false
neither_right true b h = absurd (cc h)
neither_right false b h = h

pub cases : {A : Type 0} (b : Bool) → (b ≡ true → A) → (b ≡ false → A) → A
cases true f g = f refl
cases false f g = g refl

pub not_both : {b : Bool} → b ≡ false → b ≡ true → ⊥
not_both {b = true} e h = cc e
not_both {b = false} e h = cc h
