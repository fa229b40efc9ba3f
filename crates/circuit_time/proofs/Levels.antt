-- Where each silent move enables none but moves of lower rank, the circuit is quiet after as many layers as its greatest rank: the
-- moves of one rank are made at once, the greatest first.
--
-- P: the program; x: a state; n, m: nodes; a rank is a number for each move that is enabled in a state.
use Rattle.std.proofs.Common.{◌≡◌, ◌≢◌, ℕ, zero, suc, ◌<◌, ◌≤◌, Bool, true, false, List, [], ◌∷◌, length, refl, ap, ◌∙◌, subst, inl, inr, arith}
use Rattle.std.specs.Prelude.{◌⊎◌, not, ◌&&◌, nat_lt}
use Rattle.std.proofs.lemmas.Bool.Decides.{nat_tests}
use Rattle.env_script.specs.Scripts.{OfferValue}
use Rattle.width_check.specs.Processes.{TypedProgram}
use Rattle.chp_meaning.specs.Fitting.{In}
use Rattle.chp_meaning.specs.Steps.{Configuration}
use Rattle.chp_meaning.proofs.Fitting.{Fits}
use Rattle.chp_meaning.proofs.Meeting.{leads_fit}
use Rattle.circuit_places.specs.Whole.{Whole, Node, is_node, enabled, cells_moved}
use Rattle.circuit_places.proofs.RailLemmas.{fst_true, snd_true, not_true}
use Rattle.circuit_places.proofs.System.{Fitted}
use Rattle.circuit_places.proofs.Quiet.{is_step}
use Rattle.circuit_places.proofs.CircuitDue.{circuit_due}
use Rattle.circuit_places.proofs.Carry.{Reached, next_reached, present}
use Rattle.circuit_places.proofs.LayerRounds.{cells_after}
use Rattle.circuit_places.proofs.Settle.{Searches, leaves_to, eases}

-- moves that are enabled in the state, no node twice
abbrev pub IsSpread : (P : TypedProgram) → List OfferValue → Whole P.body → List (Node P.body) → Type 0
IsSpread P script x [] = Unit {0}
IsSpread P script x (n ∷ ns) = (enabled P script x n ≡ true) × (is_node P n ≡ true) × ((m : Node P.body) → In ns m → n ≢ m) × IsSpread P script x ns

-- layers of such moves, one after the other, and the state behind them
abbrev pub AreSpread : (P : TypedProgram) → List OfferValue → Whole P.body → List (List (Node P.body)) → Type 0
AreSpread P script x [] = Unit {0}
AreSpread P script x (l ∷ ls) = IsSpread P script x l × AreSpread P script (cells_after P x l) ls

abbrev pub spread_behind : (P : TypedProgram) → Whole P.body → List (List (Node P.body)) → Whole P.body
spread_behind P x [] = x
spread_behind P x (l ∷ ls) = spread_behind P (cells_after P x l) ls

abbrev pub Rank : TypedProgram → Type 0
Rank P = Whole P.body → Node P.body → ℕ

module _ (P : TypedProgram) (script : List OfferValue) (fitted : Fitted P script) (rank : Rank P) where
  -- the node's move is enabled, and no step of the program
  pub record Silent {from : Configuration} {moves : ℕ} {x : Whole P.body} (r : Reached P script from moves x) (n : Node P.body) : Type 0 where
    pub on : enabled P script x n ≡ true
    pub still : is_step P r.place x.wires n ≡ false

  -- each such move has at most this rank
  abbrev pub Below : {from : Configuration} {moves : ℕ} {x : Whole P.body} → Reached P script from moves x → ℕ → Type 0
  Below {x = x} r k = (n : Node P.body) → Silent r n → rank x n < k

  -- A silent move enables silent moves of lower rank alone, and gives no other a rank that isn't lower, except one that it had.
  abbrev pub LowersRanks : Type 0
  LowersRanks = (from : Configuration) (moves : ℕ) (x : Whole P.body) (r : Reached P script from moves x) (n : Node P.body) (s : Silent r n)
      (m : Node P.body) → Silent (next_reached P script fitted r n s.on) m
      → (rank (cells_moved P x n) m < rank x n) ⊎ ((n ≢ m) × Silent r m × (rank (cells_moved P x n) m ≤ rank x m))

  module _ (search : Searches P) (lowers : LowersRanks) where
    abbrev Loud : {from : Configuration} {moves : ℕ} {x : Whole P.body} → Reached P script from moves x → ℕ → Node P.body → Bool
    Loud {x = x} r k n = (enabled P script x n && not (is_step P r.place x.wires n)) && not (nat_lt (rank x n) k)

    -- a silent move that isn't below this rank, or all are
    found : {from : Configuration} {moves : ℕ} {x : Whole P.body} (r : Reached P script from moves x) (k : ℕ)
        → ((n : Node P.body) × Silent r n × (k ≤ rank x n)) ⊎ Below r k
    found {x = x} r k = by (search (Loud r k))
      where
        less : (n : Node P.body) → not (nat_lt (rank x n) k) ≡ true → k ≤ rank x n
        less n e = grind (arith, nat_tests)

        more : (n : Node P.body) → not (nat_lt (rank x n) k) ≡ false → rank x n < k
        more n e = grind (arith, nat_tests)

        loud : (a b : Bool) → a ≡ true → b ≡ false → (a && not b) ≡ true
        loud true false d e = refl
        loud true true d e = absurd (cc e)
        loud false b d e = absurd (cc d)

        rest : (a b : Bool) → a ≡ true → (a && b) ≡ false → b ≡ false
        rest true b d e = e
        rest false b d e = absurd (cc d)

        by : ((n : Node P.body) × (Loud r k n ≡ true)) ⊎ ((n : Node P.body) → is_node P n ≡ true → Loud r k n ≡ false)
            → ((n : Node P.body) × Silent r n × (k ≤ rank x n)) ⊎ Below r k
        by (inl (n, z)) =
            let q = fst_true (enabled P script x n && not (is_step P r.place x.wires n)) (not (nat_lt (rank x n) k)) z in
            let w = snd_true (enabled P script x n && not (is_step P r.place x.wires n)) (not (nat_lt (rank x n) k)) z in
            let o = fst_true (enabled P script x n) (not (is_step P r.place x.wires n)) q in
            let t = snd_true (enabled P script x n) (not (is_step P r.place x.wires n)) q in
            inl (n, record { on = o; still = not_true (is_step P r.place x.wires n) t }, less n w)
        by (inr none) = inr (λ n s. more n (rest (enabled P script x n && not (is_step P r.place x.wires n)) (not (nat_lt (rank x n) k))
            (loud (enabled P script x n) (is_step P r.place x.wires n) s.on s.still) (none n (present P script fitted r n s.on))))

    -- these moves, of those that are allowed, each node once, bring all below the rank, and leave the configuration
    record Descent (from to : Configuration) (x : Whole P.body) (k : ℕ) (allowed : Node P.body → Type 0) : Type 0 where
      pub nodes : List (Node P.body)
      pub each : (n : Node P.body) → In nodes n → allowed n
      pub once : (begin : Whole P.body) → ((n : Node P.body) → allowed n → (enabled P script begin n ≡ true) × (is_node P n ≡ true))
          → IsSpread P script begin nodes
      pub moves : ℕ
      pub then_at : Reached P script from moves (cells_after P x nodes)
      pub stays : then_at.followed.to ≡ to
      pub below : Below then_at k

    -- it makes what is due less
    down : {from : Configuration} {moves : ℕ} {x : Whole P.body} (r : Reached P script from moves x) → Fits from.term → (n : Node P.body) (s : Silent r n)
        → suc (circuit_due P (next_reached P script fitted r n s.on).place (cells_moved P x n).wires) ≤ circuit_due P r.place x.wires
    down r fit n s = eases P script fitted r (leads_fit fit r.followed.leads) n s.on s.still

    abbrev Known : {from : Configuration} {moves : ℕ} {x : Whole P.body} → Reached P script from moves x → ℕ → (Node P.body → Type 0) → Type 0
    Known {x = x} r k allowed = (n : Node P.body) → Silent r n → (rank x n < k) ⊎ (allowed n × (rank x n ≤ k))

    is_allowed : {from : Configuration} {moves : ℕ} {x : Whole P.body} (r : Reached P script from moves x) (k : ℕ) (allowed : Node P.body → Type 0)
        → Known r k allowed → (n : Node P.body) → Silent r n → k ≤ rank x n → allowed n × (rank x n ≤ k)
    is_allowed {x = x} r k allowed known n s high = here (known n s)
      where
        here : (rank x n < k) ⊎ (allowed n × (rank x n ≤ k)) → allowed n × (rank x n ≤ k)
        here (inl less) = absurd (omega (arith, less, high))
        here (inr a) = a

    -- what is known behind such a move
    known_on : {from : Configuration} {moves : ℕ} {x : Whole P.body} (r : Reached P script from moves x) (k : ℕ) (allowed : Node P.body → Type 0)
        → Known r k allowed → (n : Node P.body) (s : Silent r n) → rank x n ≤ k
        → Known (next_reached P script fitted r n s.on) k (λ m. (n ≢ m) × allowed m)
    known_on {from = from} {moves = moves} {x = x} r k allowed known n s most m t = by (lowers from moves x r n s m t)
      where
        by : (rank (cells_moved P x n) m < rank x n) ⊎ ((n ≢ m) × Silent r m × (rank (cells_moved P x n) m ≤ rank x m))
            → (rank (cells_moved P x n) m < k) ⊎ (((n ≢ m) × allowed m) × (rank (cells_moved P x n) m ≤ k))
        by (inl less) = inl (omega (arith, less, most))
        by (inr (ne, t, no_more)) = here (known m t)
          where
            here : (rank x m < k) ⊎ (allowed m × (rank x m ≤ k))
                → (rank (cells_moved P x n) m < k) ⊎ (((n ≢ m) × allowed m) × (rank (cells_moved P x n) m ≤ k))
            here (inl less) = inl (omega (arith, less, no_more))
            here (inr (b, top)) = inr ((ne, b), omega (arith, top, no_more))

    first_allowed : (allowed : Node P.body → Type 0) (n : Node P.body) → allowed n → (ns : List (Node P.body))
        → ((m : Node P.body) → In ns m → (n ≢ m) × allowed m) → (m : Node P.body) → In (n ∷ ns) m → allowed m
    first_allowed allowed n a ns each m (inl same) = subst allowed same a
    first_allowed allowed n a ns each m (inr i) = (each m i).1

    -- where all are below it
    none : {from : Configuration} {moves : ℕ} {x : Whole P.body} (r : Reached P script from moves x) (k : ℕ) (allowed : Node P.body → Type 0) → Below r k
        → Descent from r.followed.to x k allowed
    none {moves = moves} r k allowed below =
        record { nodes = []; each = λ n i. absurd i; once = λ begin o. tt; moves = moves; then_at = r; stays = refl; below = below }

    descend : (fuel : ℕ) {from : Configuration} {moves : ℕ} {x : Whole P.body} (r : Reached P script from moves x) → Fits from.term
        → circuit_due P r.place x.wires ≤ fuel → (k : ℕ) (allowed : Node P.body → Type 0) → Known r k allowed → Descent from r.followed.to x k allowed
    descend zero {from = from} {moves = moves} {x = x} r fit few k allowed known = by (found r k)
      where
        by : ((n : Node P.body) × Silent r n × (k ≤ rank x n)) ⊎ Below r k → Descent from r.followed.to x k allowed
        by (inr below) = none r k allowed below
        by (inl (n, s, high)) = let z = down r fit n s in absurd (omega (arith, z, few))
    descend (suc fuel) {from = from} {moves = moves} {x = x} r fit few k allowed known = by (found r k)
        (λ n s most less. descend fuel (next_reached P script fitted r n s.on) fit less k (λ m. (n ≢ m) × allowed m) (known_on r k allowed known n s most))
      where
        by : ((n : Node P.body) × Silent r n × (k ≤ rank x n)) ⊎ Below r k
            → ((n : Node P.body) (s : Silent r n) → rank x n ≤ k
            → circuit_due P (next_reached P script fitted r n s.on).place (cells_moved P x n).wires ≤ fuel
            → Descent from (next_reached P script fitted r n s.on).followed.to (cells_moved P x n) k (λ m. (n ≢ m) × allowed m))
            → Descent from r.followed.to x k allowed
        by (inr below) go = none r k allowed below
        by (inl (n, s, high)) go =
            let z = down r fit n s in
            let a = is_allowed r k allowed known n s high in
            let d = go n s a.1 (omega (arith, z, few)) in
            record {
              nodes = n ∷ d.nodes;
              each = first_allowed allowed n a.0 d.nodes d.each;
              once = λ begin o. ((o n a.0).0, (o n a.0).1, (λ m i. (d.each m i).0), d.once begin (λ m b. o m b.1));
              moves = d.moves;
              then_at = d.then_at;
              stays = d.stays ∙ leaves_to P script fitted r (leads_fit fit r.followed.leads) n s.on s.still;
              below = d.below;
            }

    -- so many layers lead to a quiet state, and make no step
    pub record Calmed (from to : Configuration) (x : Whole P.body) (most : ℕ) : Type 0 where
      pub layers : List (List (Node P.body))
      pub are : AreSpread P script x layers
      pub long : length layers ≡ most
      pub moves : ℕ
      pub then_at : Reached P script from moves (spread_behind P x layers)
      pub stays : then_at.followed.to ≡ to
      pub quiet : (n : Node P.body) → enabled P script (spread_behind P x layers) n ≡ true
          → is_step P then_at.place (spread_behind P x layers).wires n ≡ true

    pub calm : (most : ℕ) {from : Configuration} {moves : ℕ} {x : Whole P.body} (r : Reached P script from moves x) → Fits from.term → Below r most
        → Calmed from r.followed.to x most
    calm zero {moves = moves} {x = x} r fit below =
        record { layers = []; are = tt; long = refl; moves = moves; then_at = r; stays = refl; quiet = λ n e. by n e (is_step P r.place x.wires n) refl }
      where
        by : (n : Node P.body) → enabled P script x n ≡ true → (b : Bool) → is_step P r.place x.wires n ≡ b → b ≡ true
        by n e true h = refl
        by n e false h = let z = below n (record { on = e; still = h }) in absurd (omega (arith, z))
    calm (suc most) {from = from} {x = x} r fit below =
        let d = descend (circuit_due P r.place x.wires) r fit (omega arith) most (λ n. (enabled P script x n ≡ true) × (is_node P n ≡ true))
        (λ n s. let z = below n s in inr ((s.on, present P script fitted r n s.on), omega (arith, z))) in
        let c = calm most d.then_at fit d.below in
        record {
          layers = d.nodes ∷ c.layers;
          are = (d.once x (λ n o. o), c.are);
          long = ap (λ k. suc k) c.long;
          moves = c.moves;
          then_at = c.then_at;
          stays = c.stays ∙ d.stays;
          quiet = c.quiet;
        }
