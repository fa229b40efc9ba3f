-- What a place shows stands in its statement, and so in one of several branches alone.
use Rattle.std.proofs.Common.{◌≡◌, ℕ, ◌==◌, Bool, true, false, List, refl, ap, ◌∙◌}
use Rattle.std.specs.Prelude.{◌||◌}
use Rattle.width_check.specs.Processes.{Choices, Process, Processes, and_member}
use Rattle.circuit_places.specs.Lines.{Line, of_channel, of_var, same_line}
use Rattle.circuit_places.specs.Circuit.{guards_read}
use Rattle.function_blocks.specs.Waves.{out_rail}
use Rattle.circuit_places.proofs.RailLemmas.{fst_true, snd_true}
use Rattle.circuit_places.proofs.Places.{Mode, GuardedAt, BranchesAt, Shown, guarded_shown, branches_shown, under_way}
use Rattle.circuit_places.proofs.Meets.{Fair, sends, turn_sends, choice_sends, receives, each_receives, choice_receives, uses, each_uses, choice_uses}
use Rattle.circuit_places.proofs.Flow.{or_left, or_right, low_of}
use Rattle.circuit_places.proofs.Everywhere.{View, GoesUp, IsSeen, guarded_view, branches_view, guarded_seen, branches_seen, guarded_everywhere, branches_everywhere}

-- one of both
pub either : {A : Type 0} (a b : Bool) → (a || b) ≡ true → (a ≡ true → A) → (b ≡ true → A) → A
either true b h f g = f refl
either false b h f g = g h

both_ways : (a b c d : Bool) → (a ≡ true → c ≡ true) → (b ≡ true → d ≡ true) → (a || b) ≡ true → (c || d) ≡ true
both_ways true b c d f g h = or_left c d (f refl)
both_ways false b c d f g h = or_right c d (g h)

-- What is held is under way, and so is what has a step, what is being written, and a receive that has stored. Where a send is under way, the rise
-- of its acknowledge is a step.
pub record IsHonest (v : View) : Type 0 where
  pub offers : (k : Line) (i : ℕ) (one : Bool) → v.shown.offer k i one ≡ true → v.shown.talk k ≡ true
  pub says : (k : Line) → v.shown.says k ≡ true → v.shown.talk k ≡ true
  pub steps : (c : ℕ) → v.shown.says (of_channel c) ≡ v.shown.talk (of_channel c)
  pub takes : (c : ℕ) → v.shown.take c ≡ true → v.shown.listen c ≡ true
  pub writes : (ack : Line → Bool) (x : ℕ) → v.writing ack x ≡ true → v.shown.talk (of_var x) ≡ true

honest : IsSeen IsHonest
honest = record {
  silent = λ f. record {
    offers = λ k i one e. absurd (cc e);
    says = λ k e. absurd (cc e);
    steps = λ c. refl;
    takes = λ c e. absurd (cc e);
    writes = λ ack x e. absurd (cc e);
  };
  guards = λ asked choices f. record {
    offers = λ k i one e. absurd (cc e);
    says = λ k e. absurd (cc e);
    steps = λ c. refl;
    takes = λ c e. absurd (cc e);
    writes = λ ack x e. absurd (cc e);
  };
  assign = λ x d m u h. record {
    offers = λ k i one e. fst_true (same_line (of_var x) k) (out_rail d u i one) e;
    says = λ k e. e;
    steps = λ c. refl;
    takes = λ c e. absurd (cc e);
    writes = λ ack y e. fst_true (x == y) (under_way m (ack (of_var x))) e;
  };
  send = λ c d m u h. record {
    offers = λ k i one e. fst_true (same_line (of_channel c) k) (out_rail d u i one) e;
    says = λ k e. e;
    steps = λ d. refl;
    takes = λ d e. absurd (cc e);
    writes = λ ack y e. absurd (cc e);
  };
  receive = λ c x m l q h. record {
    offers = λ k i one e. fst_true (same_line (of_var x) k) (q i one) e;
    says = λ k e. absurd (cc e);
    steps = λ d. refl;
    takes = λ d e. fst_true (c == d) l e;
    writes = λ ack y e. fst_true (x == y) (under_way m (ack (of_channel c))) e;
  };
  both = λ v w g b. record {
    offers = λ k i one e. both_ways (v.shown.offer k i one) (w.shown.offer k i one) (v.shown.talk k) (w.shown.talk k) (g.offers k i one) (b.offers k i one) e;
    says = λ k e. both_ways (v.shown.says k) (w.shown.says k) (v.shown.talk k) (w.shown.talk k) (g.says k) (b.says k) e;
    steps = λ c. ap (λ z. z || w.shown.says (of_channel c)) (g.steps c) ∙ ap (λ z. v.shown.talk (of_channel c) || z) (b.steps c);
    takes = λ c e. both_ways (v.shown.take c) (w.shown.take c) (v.shown.listen c) (w.shown.listen c) (g.takes c) (b.takes c) e;
    writes = λ ack x e. both_ways (v.writing ack x) (w.writing ack x) (v.shown.talk (of_var x)) (w.shown.talk (of_var x)) (g.writes ack x) (b.writes ack x) e;
  };
}

pub guarded_honest : {p : Process} {m : Mode} (g : GuardedAt p m) → IsHonest (guarded_view g)
guarded_honest g = guarded_seen IsHonest honest g

pub branches_honest : {members : Processes} {ks : List Mode} (b : BranchesAt members ks) → IsHonest (branches_view b)
branches_honest b = branches_seen IsHonest honest b

-- what is under way is a site, a receive or a reader of what has these sites, receives and readers
pub record StandsIn (sites : Line → Bool) (heard used : ℕ → Bool) (v : View) : Type 0 where
  pub talks : (k : Line) → v.shown.talk k ≡ true → sites k ≡ true
  pub listens : (c : ℕ) → v.shown.listen c ≡ true → heard c ≡ true
  pub reads : (x : ℕ) → v.shown.read x ≡ true → used x ≡ true

module _ (s : Line → Bool) (r u : ℕ → Bool) (v : View) where
  -- in the first of two, and in the second
  in_one : (s_other : Line → Bool) (r_other u_other : ℕ → Bool) → StandsIn s r u v
      → StandsIn (λ k. s k || s_other k) (λ c. r c || r_other c) (λ x. u x || u_other x) v
  in_one s_other r_other u_other h = record {
    talks = λ k e. or_left (s k) (s_other k) (h.talks k e);
    listens = λ c e. or_left (r c) (r_other c) (h.listens c e);
    reads = λ x e. or_left (u x) (u_other x) (h.reads x e);
  }

  in_other : (s_one : Line → Bool) (r_one u_one : ℕ → Bool) → StandsIn s r u v → StandsIn (λ k. s_one k || s k) (λ c. r_one c || r c) (λ x. u_one x || u x) v
  in_other s_one r_one u_one h = record {
    talks = λ k e. or_right (s_one k) (s k) (h.talks k e);
    listens = λ c e. or_right (r_one c) (r c) (h.listens c e);
    reads = λ x e. or_right (u_one x) (u x) (h.reads x e);
  }

abbrev StandsInProcess : Process → View → Type 0
StandsInProcess p v = StandsIn (λ k. sends p k) (λ c. receives p c) (λ x. uses p x) v

abbrev StandsInEach : Processes → View → Type 0
StandsInEach ms v = StandsIn (λ k. turn_sends ms k) (λ c. each_receives ms c) (λ x. each_uses ms x) v

abbrev StandsInArms : Choices → View → Type 0
StandsInArms cs v = StandsIn (λ k. choice_sends cs k) (λ c. choice_receives cs c) (λ x. choice_uses cs x) v

abbrev StandsInCore : Choices → View → Type 0
StandsInCore cs v = StandsIn (λ k. choice_sends cs k) (λ c. choice_receives cs c) (λ x. guards_read cs x || choice_uses cs x) v

stands : GoesUp (λ p r x. StandsInProcess p) (λ ms r x. StandsInEach ms) (λ ms x. StandsInEach ms) (λ cs s y. StandsInArms cs) (λ cs s y. StandsInCore cs)
stands = record {
  silent = λ p f. record { talks = λ k e. absurd (cc e); listens = λ c e. absurd (cc e); reads = λ x e. absurd (cc e) };
  skip = λ r a f. record { talks = λ k e. absurd (cc e); listens = λ c e. absurd (cc e); reads = λ x e. absurd (cc e) };
  assign = λ y at d m u h. record { talks = λ k e. e; listens = λ c e. absurd (cc e); reads = λ x e. e };
  send = λ b at d m u h. record { talks = λ k e. e; listens = λ c e. absurd (cc e); reads = λ x e. e };
  receive = λ b y at to m l q h. record { talks = λ k e. e; listens = λ c e. e; reads = λ x e. absurd (cc e) };
  turn = λ ms r z v h. record { talks = h.talks; listens = h.listens; reads = h.reads };
  turn_silent = λ ms f. record { talks = λ k e. absurd (cc e); listens = λ c e. absurd (cc e); reads = λ x e. absurd (cc e) };
  last = λ p r z v h. in_one (λ k. sends p k) (λ c. receives p c) (λ x. uses p x) v (λ k. false) (λ c. false) (λ x. false) h;
  first = λ p q more r z v n h. in_one (λ k. sends p k) (λ c. receives p c) (λ x. uses p x) v
      (λ k. turn_sends (and_member q more) k) (λ c. each_receives (and_member q more) c) (λ x. each_uses (and_member q more) x) h;
  later = λ p q more r z y v low h. in_other (λ k. turn_sends (and_member q more) k) (λ c. each_receives (and_member q more) c)
      (λ x. each_uses (and_member q more) x) v (λ k. sends p k) (λ c. receives p c) (λ x. uses p x) h;
  side = λ ms r z t v h. record { talks = h.talks; listens = h.listens; reads = h.reads };
  none = λ f. record { talks = λ k e. absurd (cc e); listens = λ c e. absurd (cc e); reads = λ x e. absurd (cc e) };
  beside = λ {p} {more} {k} {ks} g b one other. record {
    talks = λ k e. both_ways ((guarded_shown g).talk k) ((branches_shown b).talk k) (sends p k) (turn_sends more k) (one.talks k) (other.talks k) e;
    listens = λ c e. both_ways ((guarded_shown g).listen c) ((branches_shown b).listen c) (receives p c) (each_receives more c)
        (one.listens c) (other.listens c) e;
    reads = λ x e. both_ways ((guarded_shown g).read x) ((branches_shown b).read x) (uses p x) (each_uses more x) (one.reads x) (other.reads x) e;
  };
  body = λ p r b z v h. record { talks = h.talks; listens = h.listens; reads = h.reads };
  choice = λ cs r z v h. record { talks = h.talks; listens = h.listens; reads = h.reads };
  turning = λ cs r z v h. record { talks = h.talks; listens = h.listens; reads = h.reads };
  guards = λ cs asked f. record {
    talks = λ k e. absurd (cc e);
    listens = λ c e. absurd (cc e);
    reads = λ x e. or_left (guards_read cs x) (choice_uses cs x) (snd_true asked (guards_read cs x) e);
  };
  inside = λ cs s y v h. record {
    talks = h.talks;
    listens = h.listens;
    reads = λ x e. or_right (guards_read cs x) (choice_uses cs x) (h.reads x e);
  };
  this = λ g p more r z v h. in_one (λ k. sends p k) (λ c. receives p c) (λ x. uses p x) v
      (λ k. choice_sends more k) (λ c. choice_receives more c) (λ x. choice_uses more x) h;
  others = λ g p more s y v h. in_other (λ k. choice_sends more k) (λ c. choice_receives more c) (λ x. choice_uses more x) v
      (λ k. sends p k) (λ c. receives p c) (λ x. uses p x) h;
}

pub guarded_stands : {p : Process} {m : Mode} (g : GuardedAt p m) → StandsInProcess p (guarded_view g)
guarded_stands g = guarded_everywhere (λ p r x. StandsInProcess p) (λ ms r x. StandsInEach ms) (λ ms x. StandsInEach ms) (λ cs s y. StandsInArms cs)
    (λ cs s y. StandsInCore cs) stands g

pub branches_stand : {members : Processes} {ks : List Mode} (b : BranchesAt members ks) → StandsInEach members (branches_view b)
branches_stand b = branches_everywhere (λ p r x. StandsInProcess p) (λ ms r x. StandsInEach ms) (λ ms x. StandsInEach ms) (λ cs s y. StandsInArms cs)
    (λ cs s y. StandsInCore cs) stands b

pub guarded_offers_talks : {p : Process} {m : Mode} (g : GuardedAt p m) (k : Line) (i : ℕ) (one : Bool) → (guarded_shown g).offer k i one ≡ true
    → (guarded_shown g).talk k ≡ true
guarded_offers_talks g = (guarded_honest g).offers

pub guarded_says_talks : {p : Process} {m : Mode} (g : GuardedAt p m) (k : Line) → (guarded_shown g).says k ≡ true → (guarded_shown g).talk k ≡ true
guarded_says_talks g = (guarded_honest g).says

pub branches_say_talk : {members : Processes} {ks : List Mode} (b : BranchesAt members ks) (k : Line) → (branches_shown b).says k ≡ true
    → (branches_shown b).talk k ≡ true
branches_say_talk b = (branches_honest b).says

pub guarded_says_is : {p : Process} {m : Mode} (g : GuardedAt p m) (c : ℕ) → (guarded_shown g).says (of_channel c) ≡ (guarded_shown g).talk (of_channel c)
guarded_says_is g = (guarded_honest g).steps

pub guarded_takes_listens : {p : Process} {m : Mode} (g : GuardedAt p m) (c : ℕ) → (guarded_shown g).take c ≡ true → (guarded_shown g).listen c ≡ true
guarded_takes_listens g = (guarded_honest g).takes

pub guarded_talks_sends : {p : Process} {m : Mode} (g : GuardedAt p m) (k : Line) → (guarded_shown g).talk k ≡ true → sends p k ≡ true
guarded_talks_sends g = (guarded_stands g).talks

pub guarded_listens_receives : {p : Process} {m : Mode} (g : GuardedAt p m) (c : ℕ) → (guarded_shown g).listen c ≡ true → receives p c ≡ true
guarded_listens_receives g = (guarded_stands g).listens

pub guarded_reads_uses : {p : Process} {m : Mode} (g : GuardedAt p m) (x : ℕ) → (guarded_shown g).read x ≡ true → uses p x ≡ true
guarded_reads_uses g = (guarded_stands g).reads

-- a branch and those beside it
pub record Beside (p : Process) (more : Processes) (x y : Shown) : Type 0 where
  pub mine : (k : Line) → x.talk k ≡ true → sends p k ≡ true
  pub theirs : (k : Line) → y.talk k ≡ true → turn_sends more k ≡ true
  pub not_theirs : (k : Line) → sends p k ≡ true → y.talk k ≡ false
  pub not_mine : (k : Line) → turn_sends more k ≡ true → x.talk k ≡ false
  pub none_theirs : (k : Line) (i : ℕ) (one : Bool) → sends p k ≡ true → y.offer k i one ≡ false
  pub none_mine : (k : Line) (i : ℕ) (one : Bool) → turn_sends more k ≡ true → x.offer k i one ≡ false
  pub hears_mine : (c : ℕ) → x.listen c ≡ true → receives p c ≡ true
  pub hears_theirs : (c : ℕ) → y.listen c ≡ true → each_receives more c ≡ true
  pub deaf_theirs : (c : ℕ) → receives p c ≡ true → y.listen c ≡ false
  pub deaf_mine : (c : ℕ) → each_receives more c ≡ true → x.listen c ≡ false
  pub taken_mine : (c : ℕ) → x.take c ≡ true → x.listen c ≡ true
  pub taken_theirs : (c : ℕ) → y.take c ≡ true → y.listen c ≡ true

pub beside : {p : Process} {more : Processes} {k : Mode} {ks : List Mode} → Fair p more → (g : GuardedAt p k) (b : BranchesAt more ks)
    → Beside p more (guarded_shown g) (branches_shown b)
beside {p = p} {more = more} fair g b = record {
  mine = guarded_talks_sends g;
  theirs = (branches_stand b).talks;
  not_theirs = λ k h. low_of ((branches_shown b).talk k) ((branches_stand b).talks k) (fair.send k h);
  not_mine = λ k h. low_of ((guarded_shown g).talk k) (guarded_talks_sends g k) (other k h);
  none_theirs = λ k i one h. low_of ((branches_shown b).offer k i one) (λ z. (branches_stand b).talks k ((branches_honest b).offers k i one z))
      (fair.send k h);
  none_mine = λ k i one h. low_of ((guarded_shown g).offer k i one) (λ z. guarded_talks_sends g k (guarded_offers_talks g k i one z)) (other k h);
  hears_mine = guarded_listens_receives g;
  hears_theirs = (branches_stand b).listens;
  deaf_theirs = λ c h. low_of ((branches_shown b).listen c) ((branches_stand b).listens c) (fair.receive c h);
  deaf_mine = λ c h. low_of ((guarded_shown g).listen c) (guarded_listens_receives g c) (other_receive c h);
  taken_mine = guarded_takes_listens g;
  taken_theirs = (branches_honest b).takes;
}
  where
    other : (k : Line) → turn_sends more k ≡ true → sends p k ≡ false
    other k h = here (sends p k) refl
      where
        here : (z : Bool) → sends p k ≡ z → z ≡ false
        here true e = absurd (cc (fair.send k e, h))
        here false e = refl

    other_receive : (c : ℕ) → each_receives more c ≡ true → receives p c ≡ false
    other_receive c h = here (receives p c) refl
      where
        here : (z : Bool) → receives p c ≡ z → z ≡ false
        here true e = absurd (cc (fair.receive c e, h))
        here false e = refl

pub or_false_left : (a b : Bool) → a ≡ false → (a || b) ≡ b
or_false_left a b e = ap (λ z. z || b) e

pub or_false_right : (a b : Bool) → b ≡ false → (a || b) ≡ a
or_false_right true b e = refl
or_false_right false b e = e
