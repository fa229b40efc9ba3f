-- Each run of a net with shared bodies, from its first values. Beside it goes a run of the net with copies that has also made
-- what is owed.
--
-- A: the net with shared bodies; B: the net with copies; S: how they are numbered; st: a state of a net; ns: a run.
use Rattle.std.proofs.Common.{◌≡◌, ℕ, ◌≤◌, Bool, true, false, List, [], ◌∷◌, ◌++◌, None, refl, sym, ap, ◌∙◌, subst, arith, length-append}
use Rattle.prs_core.specs.declared.wires.Wires.{Wires}
use Rattle.prs_core.specs.Nets.{RulesValue, NetValue, net_of}
use Rattle.prs_core.specs.Moves.{high}
use Rattle.env_script.specs.Scripts.{OfferValue}
use Rattle.env_script.specs.Runs.{RunState, move_enabled, moved, IsRun, after, begin_at, IsAtRest, IsApart, IsSafeMove, IsSafeRun}
use Rattle.env_script.proofs.Overtakes.{after_on, run_on}
use Rattle.call_map.specs.Shared.{plainly, Sharing, SharesBodies, CopiesKeep, IsSafeAt}
use Rattle.call_map.specs.Carrying.{CopiesKeepAlong, SafeAlong, IsMirrored, SharedRuns}
use Rattle.call_map.proofs.Truths.{true_false}
use Rattle.call_map.proofs.MapStates.{Mapping}
use Rattle.call_map.proofs.MapCaughtUp.{caught_up}
use Rattle.call_map.proofs.MapRuns.{mirror, tells_first, none_first, rest_there, past_still}

module _ (net : NetValue) (script : List OfferValue) where
  -- what holds after two runs holds after both in one
  joined : (P : RunState → Type 0) (st : RunState) (xs ys : List ℕ) → P (after net (after net st xs) ys) → P (after net st (xs ++ ys))
  joined P st xs ys = subst P (sym (after_on net script st xs ys))

  -- at rest nothing more is made
  rests_on : (st : RunState) (ns : List ℕ) → IsRun net script st ns → IsAtRest net script st → IsAtRest net script (after net st ns)
  rests_on st [] run rest = rest
  rests_on st (n ∷ ns) run rest = absurd (true_false (move_enabled net script st n) run.0 (rest n))

  apart_last : (ns : List ℕ) (st : RunState) → IsSafeRun net script st ns → IsApart net (after net st ns)
  apart_last [] st safe = safe
  apart_last (m ∷ ns) st safe = apart_last ns (moved net st m) safe.2

  safe_last : (ns : List ℕ) (st : RunState) (n : ℕ) → IsSafeRun net script st (ns ++ n ∷ []) → IsSafeMove net script (after net st ns) n
  safe_last [] st n safe = safe.1
  safe_last (m ∷ ns) st n safe = safe_last ns (moved net st m) n safe.2

  -- the state after a run from the net's first values
  abbrev pub Reached : RunState → Type 0
  Reached st = (ns : List ℕ) × IsRun net script (begin_at net net.first) ns × (after net (begin_at net net.first) ns ≡ st)

  pub reached_next : (st : RunState) (n : ℕ) → Reached st → move_enabled net script st n ≡ true → Reached (moved net st n)
  reached_next st n r on = (
    r.0 ++ n ∷ [],
    run_on net script (begin_at net net.first) r.0 (n ∷ []) r.1 (ap (λ x. move_enabled net script x n) r.2 ∙ on, tt),
    after_on net script (begin_at net net.first) r.0 (n ∷ []) ∙ ap (λ x. moved net x n) r.2,
  )

  pub reached_safe : SafeAlong net script → (st : RunState) → Reached st → IsSafeAt net script st
  reached_safe all st r = subst (IsSafeAt net script) r.2 (record {
    apart = apart_last r.0 (begin_at net net.first) (all r.0 r.1);
    each = λ n on. safe_last r.0 (begin_at net net.first) n
        (all (r.0 ++ n ∷ []) (run_on net script (begin_at net net.first) r.0 (n ∷ []) r.1 (on, tt)));
  })

  pub reached_keeps : (S : Sharing) → CopiesKeepAlong net S script → (st : RunState) → Reached st → CopiesKeep net S script st
  reached_keeps S all st r = subst (CopiesKeep net S script) r.2 (all r.0 r.1)

module _ (names more_names : List (List ℕ)) (first more_first : List Bool) (rules more_rules : RulesValue) (ws : List Wires) (S : Sharing) where
  abbrev A : NetValue
  A = net_of names first rules ws None

  abbrev B : NetValue
  B = net_of more_names more_first more_rules ws None

  module _ (is : SharesBodies A B S) (script : List OfferValue) (safe : SafeAlong B script) (keep : CopiesKeepAlong B S script) where
    abbrev pub mapping : Mapping
    mapping = record {
      names = names;
      more_names = more_names;
      firsts = first;
      more_firsts = more_first;
      rules = rules;
      more_rules = more_rules;
      ws = ws;
      S = S;
      is = is;
      script = script;
      Reached = Reached B script;
      next = reached_next B script;
      safe = reached_safe B script safe;
      keeps = reached_keeps B script S keep;
    }

    pub past_last : (st : RunState) (n : ℕ) → S.count ≤ n → move_enabled A script st n ≡ false
    past_last st n le = past_still mapping st n le

    pub mirrored : (ns : List ℕ) → IsRun A script (begin_at A first) ns → IsMirrored A B S script ns
    mirrored ns run =
        let here = after A (begin_at A first) ns in
        let there = begin_at B more_first in
        let r = mirror mapping ns S.one_call (begin_at A first) there (tells_first mapping ([], tt, refl)) run in
        let far = after B there r.moves in
        let last = r.last in
        let more = caught_up mapping r.more here far last in
        let lengths = length-append r.moves more.moves in
        let made = more.count in
        let none = none_first mapping in
        let few = r.few in
        let many = r.many in
        record {
          moves = r.moves ++ more.moves;
          few = omega (arith, few, none, lengths, made);
          many = omega (arith, many, lengths, made);
          run = run_on B script there r.moves more.moves r.run more.run;
          passed = joined B script (λ x. here.histories ≡ x.histories) there r.moves more.moves (last.histories ∙ sym more.histories);
          plain = λ k h.
              let z = is.low_plain k h in
              joined B script (λ x. high here.values k ≡ high x.values k) there r.moves more.moves
              (ap (high here.values) (sym z.1)
              ∙ (sym (last.shows (plainly k) z.0 tt) ∙ (sym (more.plain k z.0) ∙ ap (high (after B far more.moves).values) z.2)));
          rest = λ still. joined B script (IsAtRest B script) there r.moves more.moves
              (rests_on B script far more.moves more.run (rest_there mapping r.more here far last still));
          safe = r.is_safe;
        }

pub shared_runs : SharedRuns
shared_runs names more_names first more_first rules more_rules ws S is script safe keep ns run =
    mirrored names more_names first more_first rules more_rules ws S is script safe keep ns run
