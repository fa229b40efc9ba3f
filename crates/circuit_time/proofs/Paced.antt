-- Where each silent move lowers ranks, and all ranks are below a number, n rounds of the program take n times one more layers at most.
use Rattle.std.proofs.Common.{◌≡◌, ℕ, zero, suc, ◌*◌, List, [], ◌∷◌, ◌++◌, length, refl, sym, ap, ◌∙◌, subst, arith, length-append}
use Rattle.env_script.specs.Scripts.{OfferValue}
use Rattle.env_script.specs.Runs.{history_at}
use Rattle.width_check.specs.Processes.{TypedProgram}
use Rattle.chp_meaning.specs.Steps.{Configuration, Leads}
use Rattle.chp_meaning.specs.Rounds.{round, rounds_from}
use Rattle.chp_meaning.proofs.Fitting.{Fits}
use Rattle.chp_meaning.proofs.Meeting.{lead_on, leads_fit}
use Rattle.chp_meaning.proofs.RoundRuns.{round_leads, run_behind}
use Rattle.chp_meaning.proofs.RoundsAhead.{rounds_behind}
use Rattle.circuit_places.specs.Whole.{Whole, Node}
use Rattle.circuit_places.proofs.System.{Fitted}
use Rattle.circuit_places.proofs.Carry.{Reached}
use Rattle.circuit_places.proofs.StepMoves.{restart}
use Rattle.circuit_places.proofs.LayerRounds.{IsCellLayer, cells_after, round_made}
use Rattle.circuit_places.proofs.Search.{searches}
use Rattle.circuit_time.proofs.Levels.{Rank, IsSpread, AreSpread, spread_behind, LowersRanks, Below, calm}

pub spread_append : (P : TypedProgram) (x : Whole P.body) (ls ms : List (List (Node P.body)))
    → spread_behind P x (ls ++ ms) ≡ spread_behind P (spread_behind P x ls) ms
spread_append P x [] ms = refl
spread_append P x (l ∷ ls) ms = spread_append P (cells_after P x l) ls ms

pub are_append : (P : TypedProgram) (script : List OfferValue) (x : Whole P.body) (ls ms : List (List (Node P.body))) → AreSpread P script x ls
    → AreSpread P script (spread_behind P x ls) ms → AreSpread P script x (ls ++ ms)
are_append P script x [] ms a b = b
are_append P script x (l ∷ ls) ms a b = (a.0, are_append P script (cells_after P x l) ls ms a.1 b)

-- the layer of a round
pub spread_of : (P : TypedProgram) (script : List OfferValue) (x : Whole P.body) (ns : List (Node P.body)) → IsCellLayer P script x ns → IsSpread P script x ns
spread_of P script x [] l = tt
spread_of P script x (n ∷ ns) l = (l.0, l.1, (λ m i. (l.2 m i).0), spread_of P script x ns l.3)

module _ (P : TypedProgram) (script : List OfferValue) (fitted : Fitted P script) (rank : Rank P) (lowers : LowersRanks P script fitted rank) (most : ℕ)
    (below : (from : Configuration) (moves : ℕ) (x : Whole P.body) (r : Reached P script from moves x) → Below P script fitted rank r most) where
  -- so many layers as n rounds take, which have come at least as far
  record Along (old : Configuration) (x : Whole P.body) (n : ℕ) : Type 0 where
    layers : List (List (Node P.body))
    are : AreSpread P script x layers
    long : length layers ≡ n * suc most
    from : Configuration
    then_at : Reached P script from 0 (spread_behind P x layers)
    begins : then_at.followed.to ≡ from
    steps : ℕ
    leads : Leads (rounds_from old n) steps from

  along : (n : ℕ) (old c : Configuration) {k : ℕ} (x : Whole P.body) (r : Reached P script c 0 x) → r.followed.to ≡ c → Fits old.term → Leads old k c
      → Along old x n
  along zero old c {k = k} x r begins fit l =
      record { layers = []; are = tt; long = omega arith; from = c; then_at = r; begins = begins; steps = k; leads = l }
  along (suc n) old c {k = k} x r begins fit l =
      let s = calm P script fitted rank (λ f. searches P f) lowers most r (leads_fit fit l) (below c 0 x r) in
      let q = s.then_at in
      let far = lead_on l q.followed.leads in
      let made = round_made P script fitted q (leads_fit fit far) s.quiet in
      let on = rounds_behind fit far in
      let rest = along n (round old) (round q.followed.to) (cells_after P (spread_behind P x s.layers) made.nodes) made.then_at made.is
      (leads_fit fit (round_leads old fit)) on.1 in
      let more = made.nodes ∷ rest.layers in
      let same = spread_append P x s.layers more in
      let end = subst (λ (y : Whole P.body). (z : Reached P script rest.from 0 y) × (z.followed.to ≡ rest.from)) (sym same) (rest.then_at, rest.begins) in
      let a = length-append s.layers more in
      let b = s.long in
      let d = rest.long in
      record {
        layers = s.layers ++ more;
        are = are_append P script x s.layers more s.are (spread_of P script (spread_behind P x s.layers) made.nodes made.layer, rest.are);
        long = omega (arith, a, b, d);
        from = rest.from;
        then_at = end.0;
        begins = end.1;
        steps = rest.steps;
        leads = rest.leads;
      }

  -- For each number of rounds there are so many layers of moves that have passed what they pass.
  pub paced : {c : Configuration} {moves : ℕ} {x : Whole P.body} (r : Reached P script c moves x) → Fits c.term → (n : ℕ)
      → (layers : List (List (Node P.body))) × (length layers ≡ n * suc most) × AreSpread P script x layers
      × ((k : ℕ) → (rest : List ℕ) × (history_at (spread_behind P x layers).histories k ≡ history_at (rounds_from c n).histories k ++ rest))
  paced {c = c} {x = x} r fit n =
      let a = along n c r.followed.to x (restart P script r) refl fit r.followed.leads in (
        a.layers,
        a.long,
        a.are,
        λ k.
            let b = run_behind a.leads k in
            (b.0, ap (λ hs. history_at hs k) (sym a.then_at.followed.passed ∙ ap (λ (d : Configuration). d.histories) a.begins) ∙ b.1),
      )
