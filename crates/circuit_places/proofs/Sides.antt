-- The own moves of parallel compositions: of a branch, and of a node of the completion tree.
use Rattle.std.proofs.Common.{◌≡◌, ◌≢◌, ℕ, zero, suc, ◌<◌, Bool, true, false, List, [], ◌∷◌, length, refl, sym, ap, ◌∙◌, subst, inl, arith}
use Rattle.std.specs.Prelude.{not, ◌&&◌, ◌||◌}
use Rattle.std.proofs.Math.Path.{fun_ext}
use Rattle.width_check.specs.Processes.{Process, side_by_side, Processes, and_member, member_count}
use Rattle.prs_core.specs.Parts.{turned as turned_value}
use Rattle.prs_core.specs.Turning.{turned_apart}
use Rattle.circuit_places.specs.Lines.{Seen}
use Rattle.circuit_places.specs.Circuit.{Bits, cell_bit, joint_count, low_branches, turned_bits, GuardedSpot, Spot, BranchSpot, of_branch, joint, in_this, in_others, same_bit}
use Rattle.circuit_places.proofs.RailLemmas.{fst_true, snd_true, same_value}
use Rattle.circuit_places.proofs.Trees.{Settled, top_of, joint_moves, turned_next, bits_low, leaf_turns, joint_moved, JointMoved, Topped, not_top, at_top, flat_nodes, flat_stands}
use Rattle.circuit_places.proofs.Places.{Mode, idle, running, answered, returning, asks, acks, all_ask, all_ack, all_idle, ends, SideMay, GuardedAt, BranchesAt, rests, at_side, and_at, sides_of, guarded_cells, branch_cells, none_shown, guarded_shown, branches_shown, GuardedFits, BranchesFit, guarded_writing, branches_writing, moves, branch_moves}
use Rattle.circuit_places.proofs.Left.{branches_left, guarded_left, this_follows, other_follows, together_follows, branches_left_done, branches_writing_done, none_asked, ToldBy, follows_wider, inside_wider, told_wider}
use Rattle.circuit_places.proofs.Stepping.{guarded_steps, branch_steps}
use Rattle.circuit_places.proofs.Flow.{goes, goes_asks, or_free, flow_same, flow_by, flow_both, After, GuardedAfter, BranchAfter, OneGoes, this_goes, other_goes, or_left, or_right}
use Rattle.circuit_places.proofs.Begin.{as_many, ends_high, branches_idle, branches_idle_moves}

-- a move in one of the branches, seen from it and those behind it
pub this_after : {p : Process} {more : Processes} {k : Mode} {ks : List Mode} (env : Seen) (g : GuardedAt p k) (b : BranchesAt more ks) (s : GuardedSpot p)
    → BranchesFit b env → GuardedAfter p k env g s → BranchAfter (and_member p more) (k ∷ ks) env (and_at g b) (in_this s)
this_after {p = p} {more = more} {ks = ks} env g b s f r = record {
  modes = r.mode ∷ ks;
  to = and_at r.to b;
  same = ap (λ x. (x, branch_cells b)) r.same;
  way = this_goes r.way;
  fits = (r.fits, f);
  flow = flow_both env (guarded_shown g) (guarded_shown r.to) (branches_shown b) (branches_shown b) r.flow (flow_same env (branches_shown b));
  term = this_follows (ToldBy env (λ x. (guarded_shown g).read x || (branches_shown b).read x)) (branches_left env.ack b) (guarded_steps g s)
      (guarded_left env.ack g)
      (guarded_left env.ack r.to)
      (follows_wider (ToldBy env (guarded_shown g).read) (ToldBy env (λ x. (guarded_shown g).read x || (branches_shown b).read x))
      (told_wider env (guarded_shown g).read (λ x. (guarded_shown g).read x || (branches_shown b).read x)
      (λ x h. or_left ((guarded_shown g).read x) ((branches_shown b).read x) h)) (guarded_steps g s) (guarded_left env.ack g)
      (guarded_left env.ack r.to) r.term);
  frees = λ x e. or_free (guarded_writing env.ack g x) (branches_writing env.ack b x) (guarded_writing env.ack r.to x) (branches_writing env.ack b x)
      (r.frees x) (λ i. i) e;
  keeps = here;
}
  where
    here : (q : BranchSpot (and_member p more)) → q ≢ in_this s → branch_moves env (and_at g b) q ≡ true → branch_moves env (and_at r.to b) q ≡ true
    here (in_this q) ne z = r.keeps q (λ (e : q ≡ s). ne (ap (λ y. in_this y) e)) z
    here (in_others q) ne z = z

pub others_after : {p : Process} {more : Processes} {k : Mode} {ks : List Mode} (env : Seen) (g : GuardedAt p k) (b : BranchesAt more ks) (s : BranchSpot more)
    → GuardedFits g env → BranchAfter more ks env b s → BranchAfter (and_member p more) (k ∷ ks) env (and_at g b) (in_others s)
others_after {p = p} {more = more} {k = k} env g b s f r = record {
  modes = k ∷ r.modes;
  to = and_at g r.to;
  same = ap (λ x. (guarded_cells g, x)) r.same;
  way = other_goes r.way;
  fits = (f, r.fits);
  flow = flow_both env (guarded_shown g) (guarded_shown g) (branches_shown b) (branches_shown r.to) (flow_same env (guarded_shown g)) r.flow;
  term = other_follows (ToldBy env (λ x. (guarded_shown g).read x || (branches_shown b).read x)) (guarded_left env.ack g) (branch_steps b s)
      (branches_left env.ack b)
      (branches_left env.ack r.to)
      (inside_wider (ToldBy env (branches_shown b).read) (ToldBy env (λ x. (guarded_shown g).read x || (branches_shown b).read x))
      (told_wider env (branches_shown b).read (λ x. (guarded_shown g).read x || (branches_shown b).read x)
      (λ x h. or_right ((guarded_shown g).read x) ((branches_shown b).read x) h)) (branch_steps b s) (branches_left env.ack b)
      (branches_left env.ack r.to) r.term);
  frees = λ x e. or_free (guarded_writing env.ack g x) (branches_writing env.ack b x) (guarded_writing env.ack g x) (branches_writing env.ack r.to x) (λ i. i)
      (r.frees x) e;
  keeps = here;
}
  where
    here : (q : BranchSpot (and_member p more)) → q ≢ in_others s → branch_moves env (and_at g b) q ≡ true → branch_moves env (and_at g r.to) q ≡ true
    here (in_this q) ne z = z
    here (in_others q) ne z = r.keeps q (λ (e : q ≡ s). ne (ap (λ y. in_others y) e)) z

-- where one goes on, all are under the request as before, and no end turns over, or one
pub data EndMoved (r : Bool) (ks ls : List Mode) : Type 0 where
  same_ends : ((j : ℕ) → ends ls j ≡ ends ks j) → EndMoved r ks ls
  one_end : (i : ℕ) → i < length ks → ((j : ℕ) → ends ls j ≡ turned_value (ends ks) i j) → ends ks i ≡ not r → EndMoved r ks ls

asked_on : (r : Bool) {ks ls : List Mode} → all_ask r ks ≡ true → OneGoes ks ls → all_ask r ls ≡ true
asked_on r {ks = k ∷ ks} h (this_goes {l = l} g) = ap (λ b. same_bit b r && all_ask r ks) (goes_asks k l g) ∙ h
asked_on r h (other_goes {k = k} {ks = ks} {ls = ls} w) = ap (λ b. b && all_ask r ls) (fst_true (same_bit (asks k) r) (all_ask r ks) h)
    ∙ asked_on r (snd_true (same_bit (asks k) r) (all_ask r ks) h) w

first_same : (k l : Mode) (ks : List Mode) → acks l ≡ acks k → (j : ℕ) → ends (l ∷ ks) j ≡ ends (k ∷ ks) j
first_same k l ks e zero = e
first_same k l ks e (suc j) = refl

first_turned : (k l : Mode) (ks : List Mode) → acks l ≡ not (acks k) → (j : ℕ) → ends (l ∷ ks) j ≡ turned_value (ends (k ∷ ks)) 0 j
first_turned k l ks e zero = e
first_turned k l ks e (suc j) = sym (turned_apart (ends (k ∷ ks)) 0 (suc j) (λ z. cc z))

by_goes : (r : Bool) (k l : Mode) (ks : List Mode) → asks k ≡ r → goes k l ≡ true → EndMoved r (k ∷ ks) (l ∷ ks)
by_goes r running running ks e g = same_ends (first_same running running ks refl)
by_goes r returning returning ks e g = same_ends (first_same returning returning ks refl)
by_goes r running answered ks e g = one_end 0 (omega arith) (first_turned running answered ks refl) (ap not e)
by_goes r returning idle ks e g = one_end 0 (omega arith) (first_turned returning idle ks refl) (ap not e)
by_goes r _ _ ks e g = absurd (cc g)

behind : (r : Bool) (k : Mode) (ks ls : List Mode) → EndMoved r ks ls → EndMoved r (k ∷ ks) (k ∷ ls)
behind r k ks ls (same_ends f) = same_ends here
  where
    here : (j : ℕ) → ends (k ∷ ls) j ≡ ends (k ∷ ks) j
    here zero = refl
    here (suc j) = f j
behind r k ks ls (one_end i less f e) = one_end (suc i) (omega (arith, less)) here e
  where
    here : (j : ℕ) → ends (k ∷ ls) j ≡ turned_value (ends (k ∷ ks)) (suc i) j
    here zero = sym (turned_apart (ends (k ∷ ks)) (suc i) 0 (λ z. cc z))
    here (suc j) = f j ∙ sym (turned_next (ends (k ∷ ks)) i j)

end_moved : (r : Bool) {ks ls : List Mode} → all_ask r ks ≡ true → OneGoes ks ls → EndMoved r ks ls
end_moved r {ks = k ∷ ks} h (this_goes {l = l} g) = by_goes r k l ks (same_value (asks k) r (fst_true (same_bit (asks k) r) (all_ask r ks) h)) g
end_moved r h (other_goes {k = k} {ks = ks} {ls = ls} w) = behind r k ks ls (end_moved r (snd_true (same_bit (asks k) r) (all_ask r ks) h) w)

-- branches that have all ended under the request don't go on
none_goes : {ks ls : List Mode} → all_ask true ks ≡ true → all_ack ks ≡ true → OneGoes ks ls → ⊥
none_goes {ks = answered ∷ ks} h k (this_goes g) = cc g
none_goes {ks = idle ∷ ks} h k (this_goes g) = cc g
none_goes {ks = running ∷ ks} h k (this_goes g) = cc k
none_goes {ks = returning ∷ ks} h k (this_goes g) = cc h
none_goes h k (other_goes {k = m} {ks = ks} w) = none_goes (snd_true (same_bit (asks m) true) (all_ask true ks) h) (snd_true (acks m) (all_ack ks) k) w

away : (m : Mode) → goes m m ≡ true → not (asks m) ≡ acks m
away running g = refl
away returning g = refl
away idle g = absurd (cc g)
away answered g = absurd (cc g)

not_answered : (m : Mode) → goes m m ≡ true → m ≡ answered → ⊥
not_answered running g e = cc e
not_answered returning g e = cc e
not_answered idle g e = cc g
not_answered answered g e = cc g

side_goes : {n : ℕ} {ks ls : List Mode} {t : Bits (joint_count n)} (m : Mode) → SideMay n m ks t → OneGoes ks ls → goes m m ≡ true
side_goes idle h w = absurd (cc h.awake)
side_goes running h w = refl
side_goes answered h w = absurd (none_goes h.asked (h.all refl) w)
side_goes returning h w = refl

-- a branch moves
module _ {members : Processes} {ks : List Mode} (env : Seen) (m : Mode) (t : Bits (joint_count (member_count members))) (b : BranchesAt members ks)
    (h : SideMay (member_count members) m ks t) (s : BranchSpot members) (r : BranchAfter members ks env b s) where
  abbrev moved_on : SideMay (member_count members) m r.modes t → ((k : ℕ) → joint_moves (member_count members) (ends ks) t k ≡ true
      → joint_moves (member_count members) (ends r.modes) t k ≡ true) → After (side_by_side members) m env (at_side m t b h) (of_branch s)
  moved_on may stay = record {
    mode = m;
    to = at_side m t r.to may;
    same = ap (λ x. sides_of members x t) r.same;
    way = side_goes m h r.way;
    fits = r.fits;
    flow = r.flow;
    term = together_follows (ToldBy env (branches_shown b).read) (branch_steps b s) (branches_left env.ack b) (branches_left env.ack r.to) r.term;
    frees = r.frees;
    keeps = here;
  }
    where
      here : (q : Spot (side_by_side members)) → q ≢ of_branch s → moves env (at_side m t b h) q ≡ true → moves env (at_side m t r.to may) q ≡ true
      here (of_branch q) ne z = r.keeps q (λ (e : q ≡ s). ne (ap (λ y. of_branch y) e)) z
      here (joint k) ne z = stay k z

  pub side_after : After (side_by_side members) m env (at_side m t b h) (of_branch s)
  side_after = here (end_moved (asks m) h.asked r.way)
    where
      may : Settled (member_count members) (ends r.modes) t → top_of (member_count members) (ends r.modes) t ≡ acks m
          → SideMay (member_count members) m r.modes t
      may settles top = record {
        some = h.some;
        known = h.known;
        awake = h.awake;
        asked = asked_on (asks m) h.asked r.way;
        settles = settles;
        top = top;
        all = λ e. absurd (not_answered m (side_goes m h r.way) e);
      }

      here : EndMoved (asks m) ks r.modes → After (side_by_side members) m env (at_side m t b h) (of_branch s)
      here (same_ends f) =
          let same : ends r.modes ≡ ends ks = fun_ext f in
          moved_on
          (may (subst (λ (x : ℕ → Bool). Settled (member_count members) x t) (sym same) h.settles)
          (ap (λ (x : ℕ → Bool). top_of (member_count members) x t) same ∙ h.top))
          (λ k z. ap (λ (x : ℕ → Bool). joint_moves (member_count members) x t k) same ∙ z)
      here (one_end i less f e) =
          let same : ends r.modes ≡ turned_value (ends ks) i = fun_ext f in
          let y = leaf_turns (member_count members) h.known h.some (ends ks) (cell_bit (joint_count (member_count members)) t) i
          (subst (λ (x : ℕ). i < x) (as_many b) less) h.settles (e ∙ (away m (side_goes m h r.way) ∙ sym h.top)) in
          moved_on
          (may (subst (λ (x : ℕ → Bool). Settled (member_count members) x t) (sym same) y.settled)
          (ap (λ (x : ℕ → Bool). top_of (member_count members) x t) same ∙ (y.top ∙ h.top)))
          (λ k z. ap (λ (x : ℕ → Bool). joint_moves (member_count members) x t k) same ∙ y.keeps k z)

-- a node of the completion tree moves
end_low : (ks : List Mode) → all_ask false ks ≡ true → ((i : ℕ) → i < length ks → ends ks i ≡ false) → all_idle ks ≡ true
end_low [] h f = refl
end_low (idle ∷ ks) h f = end_low ks h (λ i less. f (suc i) (omega (arith, less)))
end_low (returning ∷ ks) h f = absurd (cc (f 0 (omega arith)))
end_low (running ∷ ks) h f = absurd (cc h)
end_low (answered ∷ ks) h f = absurd (cc h)

end_all : (ks : List Mode) → all_ask true ks ≡ true → ((i : ℕ) → i < length ks → ends ks i ≡ true) → all_ack ks ≡ true
end_all [] h f = refl
end_all (answered ∷ ks) h f = end_all ks h (λ i less. f (suc i) (omega (arith, less)))
end_all (running ∷ ks) h f = absurd (cc (f 0 (omega arith)))
end_all (returning ∷ ks) h f = absurd (cc h)
end_all (idle ∷ ks) h f = absurd (cc h)

module _ {members : Processes} {ks : List Mode} (env : Seen) (t : Bits (joint_count (member_count members))) (b : BranchesAt members ks) (k : ℕ) where
  within : (P : ℕ → Type 0) → ((i : ℕ) → i < member_count members → P i) → (i : ℕ) → i < length ks → P i
  within P f i less = f i (subst (λ (n : ℕ). i < n) (as_many b) less)

  -- below the top
  module _ (m : Mode) (g : goes m m ≡ true) (h : SideMay (member_count members) m ks t) (r : JointMoved (member_count members) h.known (ends ks) t k)
      (stays : top_of (member_count members) (ends ks) (turned_bits (joint_count (member_count members)) t k) ≡ top_of (member_count members) (ends ks) t) where
    abbrev inside_may : SideMay (member_count members) m ks (turned_bits (joint_count (member_count members)) t k)
    inside_may = record { some = h.some; known = h.known; awake = h.awake; asked = h.asked; settles = r.settled; top = stays ∙ h.top; all = h.all }

    inside_after : BranchesFit b env → After (side_by_side members) m env (at_side m t b h) (joint k)
    inside_after f = record {
      mode = m;
      to = at_side m (turned_bits (joint_count (member_count members)) t k) b inside_may;
      same = refl;
      way = g;
      fits = f;
      flow = flow_same env (branches_shown b);
      term = inl (refl, refl);
      frees = λ x i. i;
      keeps = here;
    }
      where
        here : (q : Spot (side_by_side members)) → q ≢ joint k → moves env (at_side m t b h) q ≡ true
            → moves env (at_side m (turned_bits (joint_count (member_count members)) t k) b inside_may) q ≡ true
        here (of_branch q) ne z = z
        here (joint j) ne z = r.keeps j (λ (e : j ≡ k). ne (ap (λ y. joint y) e)) z

  -- the top rises, and falls
  top_rises : (h : SideMay (member_count members) running ks t) → JointMoved (member_count members) h.known (ends ks) t k
      → top_of (member_count members) (ends ks) (turned_bits (joint_count (member_count members)) t k) ≡ true
      → ((i : ℕ) → i < member_count members → ends ks i ≡ true) → BranchesFit b env
      → After (side_by_side members) running env (at_side running t b h) (joint k)
  top_rises h r top all f =
      let may : SideMay (member_count members) answered ks (turned_bits (joint_count (member_count members)) t k) = record {
        some = h.some;
        known = h.known;
        awake = refl;
        asked = h.asked;
        settles = r.settled;
        top = top;
        all = λ e. end_all ks h.asked (within (λ i. ends ks i ≡ true) all);
      } in
      record {
        mode = answered;
        to = at_side answered (turned_bits (joint_count (member_count members)) t k) b may;
        same = refl;
        way = refl;
        fits = f;
        flow = flow_same env (branches_shown b);
        term = inl (refl, refl);
        frees = λ x i. i;
        keeps = here may;
      }
    where
      here : (may : SideMay (member_count members) answered ks (turned_bits (joint_count (member_count members)) t k)) (q : Spot (side_by_side members))
          → q ≢ joint k → moves env (at_side running t b h) q ≡ true → moves env
          (at_side answered (turned_bits (joint_count (member_count members)) t k) b may) q ≡ true
      here may (of_branch q) ne z = z
      here may (joint j) ne z = r.keeps j (λ (e : j ≡ k). ne (ap (λ y. joint y) e)) z

  top_falls : (h : SideMay (member_count members) returning ks t) → JointMoved (member_count members) h.known (ends ks) t k
      → top_of (member_count members) (ends ks) (turned_bits (joint_count (member_count members)) t k) ≡ false
      → ((i : ℕ) → i < member_count members → ends ks i ≡ false)
      → After (side_by_side members) returning env (at_side returning t b h) (joint k)
  top_falls h r top all =
      let idles : all_idle ks ≡ true = end_low ks h.asked (within (λ i. ends ks i ≡ false) all) in
      record {
        mode = idle;
        to = rests;
        same = sym (ap (λ x. sides_of members x (turned_bits (joint_count (member_count members)) t k)) (branches_idle b idles).0
            ∙ ap (λ x. sides_of members (low_branches members) x) (bits_low (joint_count (member_count members))
            (turned_bits (joint_count (member_count members)) t k) (flat_nodes (member_count members) h.known (ends ks)
            (cell_bit (joint_count (member_count members)) (turned_bits (joint_count (member_count members)) t k)) false r.settled top all)));
        way = refl;
        fits = tt;
        flow = flow_by env (branches_shown b) (branches_shown b) none_shown (branches_idle b idles).1 (flow_same env (branches_shown b));
        term = inl (refl, sym (branches_left_done env.ack b (none_asked ks h.asked)));
        frees = λ x i. branches_writing_done env.ack b (none_asked ks h.asked) x;
        keeps = here idles;
      }
    where
      here : all_idle ks ≡ true → (q : Spot (side_by_side members)) → q ≢ joint k → moves env (at_side returning t b h) q ≡ true
          → moves env (rests {p = side_by_side members}) q ≡ true
      here idles (of_branch q) ne z = absurd (cc (branches_idle_moves env b idles q, z))
      here idles (joint j) ne z =
          absurd (cc (
            flat_stands (member_count members) h.known h.some (ends ks)
                (cell_bit (joint_count (member_count members)) (turned_bits (joint_count (member_count members)) t k)) false r.settled top all j,
            r.keeps j (λ (e : j ≡ k). ne (ap (λ y. joint y) e)) z,
          ))

  pub joint_after : (m : Mode) (h : SideMay (member_count members) m ks t) → BranchesFit b env → joint_moves (member_count members) (ends ks) t k ≡ true
      → After (side_by_side members) m env (at_side m t b h) (joint k)
  joint_after m h f e = here m h (joint_moved (member_count members) h.known (ends ks) t k h.settles e) f e
    where
      here : (m : Mode) (h : SideMay (member_count members) m ks t) → JointMoved (member_count members) h.known (ends ks) t k → BranchesFit b env
          → joint_moves (member_count members) (ends ks) t k ≡ true → After (side_by_side members) m env (at_side m t b h) (joint k)
      here idle h r f e = absurd (cc h.awake)
      here answered h r f e = absurd (cc (
        flat_stands (member_count members) h.known h.some (ends ks)
            (cell_bit (joint_count (member_count members)) t) true h.settles h.top (ends_high b (h.all refl)) k,
        e,
      ))
      here running h r f e = by r.top
        where
          by : Topped (member_count members) h.known (ends ks) t k → After (side_by_side members) running env (at_side running t b h) (joint k)
          by (not_top s) = inside_after running refl h r s f
          by (at_top s all) = top_rises h r (s ∙ ap not h.top) (λ i less. all i less ∙ ap not h.top) f
      here returning h r f e = by r.top
        where
          by : Topped (member_count members) h.known (ends ks) t k → After (side_by_side members) returning env (at_side returning t b h) (joint k)
          by (not_top s) = inside_after returning refl h r s f
          by (at_top s all) = top_falls h r (s ∙ ap not h.top) (λ i less. all i less ∙ ap not h.top)
