-- A guarded repetition starts a branch once for each time that the guards were asked for: what is noted beside the invariants
-- of the values, and that the whole contract is kept.
use Rattle.std.proofs.Common.{◌≡◌, ℕ, ◌<◌, Bool, true, false, not, List, [], ◌∷◌, ◌++◌, length, map, slice_index_or, arith, ap, sym, ◌∙◌, refl, subst, inl, inr}
use Rattle.std.specs.Prelude.{◌&&◌, if◌then◌else◌, Contains}
use Rattle.std.proofs.Math.Logic.{⊎_elim}
use Rattle.prs_core.specs.Pairs.{rails_of}
use Rattle.prs_core.specs.Parts.{Owned, Moment, Wire, IsFirstState, IsMove, IsKept, Keeps, moment_after, fires, may_move, turned}
use Rattle.prs_core.specs.Keeping.{kept_by}
use Rattle.prs_core.specs.Turning.{mapped_among}
use Rattle.cell_select.specs.Contract.{BranchPlace, AgainNodes, again_nodes, again_owned, again_part, again_answer, rises_under, eval_wire, start_wire, start_wires, guards_of, controls_of, guards_neutral, guards_false, branches_idle, alone_true, noting, once, AreApart}
use Rattle.cell_select.proofs.Plain.{plain_again, plain_answer}
use Rattle.cell_select.proofs.Tables.{implies, implies_at, and_left, and_right, both, not_true, true_not}
use Rattle.cell_select.proofs.Distinct.{Fresh, Distinct, distinct_from, fresh_right}
use Rattle.cell_select.proofs.Rails.{seen_rails}
use Rattle.cell_select.proofs.Places.{IsPlace, contains_cons, contains_here, contains_next, place_in, map_in}
use Rattle.cell_select.proofs.Machines.{Setting, bit_at, can, controls}
use Rattle.cell_select.proofs.Views.{view_kept}
use Rattle.cell_select.proofs.AgainKeeps.{again_machine, again_frame, again_setting, again_is_part, Reaches, first_of, kept_of}
use Rattle.cell_select.proofs.Once.{Agree, agree_after, alone_agrees, all_false_agrees, same_may, SeenAt, frame_seen, tried, tried_at, noted_eval, start_ok, start_new, start_test, start_latched, started_after, ended_ok, ended_idle, ended_new, ended_step, ok_new}

-- of each state: the request rises where the guards' request and the latch of the end are low, that latch rises only while the
-- guards are asked for, and the answer rises only under it
abbrev end_test : List Bool → List Bool → Bool
end_test c q =
    implies (can again_machine 0 c q && not (bit_at c 0)) (not (bit_at c 4) && not (bit_at c 6))
    && (implies (can again_machine 6 c q && not (bit_at c 6)) (bit_at c 4) && implies (can again_machine 1 c q && not (bit_at c 1)) (bit_at c 6))

ends_tried : tried again_machine end_test ≡ true
ends_tried = refl

starts_tried : tried again_machine (start_test again_machine) ≡ true
starts_tried = refl

-- what is noted, beside a state that is reached whatever is noted
record Noted (c : AgainNodes) (m : Moment) : Type 0 where
  old : ℕ → Bool
  reaches : Reaches c (record { value = m.value; noted = old })
  agree : Agree c.branches old m.noted
  ended : ended_ok (m.value c.request) (m.value c.eval) (m.value c.leave) (m.noted c.eval) ≡ true
  started : (y : BranchPlace) → IsPlace c.branches y → start_ok (m.value c.eval) (m.value y.this.latch) (m.value y.this.start) (m.noted y.this.start) ≡ true

abbrev plain : Moment → (ℕ → Bool) → Moment
plain m old = record { value = m.value; noted = old }

plain_move : (c : AgainNodes) (m : Moment) (old : ℕ → Bool) (node : ℕ) → IsMove (again_part c) m node → IsMove (plain_again c) (plain m old) node
plain_move c m old node (inl own) = inl (record { o = own.o; among = own.among; enabled = own.enabled; at = own.at })
plain_move c m old node (inr theirs) = inr (record {
  w = theirs.w;
  among = theirs.among;
  may = sym (same_may c.request c.answer c.eval c.branches m.value old m.noted theirs.w ((again_is_part c).wires theirs.w theirs.among)) ∙ theirs.may;
  at = theirs.at;
})

first_noted : (c : AgainNodes) → AreApart (again_nodes c) → 0 < length c.branches → (v : ℕ → Bool) → IsFirstState (again_part c) v →
    Noted c (record { value = v; noted = λ n. false })
first_noted c apart some v first = record {
  old = λ n. false;
  reaches = first_of c apart c.branches refl some v (record { outside = first.outside; own = first.own; bits = first.bits });
  agree = record { trues = λ b a. refl; falses = λ b a. refl };
  ended = ended_idle (v c.request) (v c.eval) (v c.leave) false (not_true (v c.request) (and_left (not (v c.request)) _ first.outside));
  started = λ y is. ok_new (v c.eval) (v y.this.latch) (v y.this.start) false refl;
}

module _ (c : AgainNodes) (apart : AreApart (again_nodes c)) (m : Moment) (node : ℕ) (h : Noted c m) (move : IsMove (plain_again c) (plain m h.old) node) where
  abbrev v : ℕ → Bool
  v = m.value

  setting : Setting again_machine (again_frame c) c.branches c.eval
  setting = again_setting c apart

  distinct : Distinct (again_nodes c)
  distinct = distinct_from (again_nodes c) apart

  tests : (j : ℕ) → j < 7 → ((z : BranchPlace) → node ≡ slice_index_or (controls (again_frame c) z) j 0) →
      (z : BranchPlace) × (can again_machine j (map v (controls (again_frame c) z)) (seen_rails v h.old c.branches z) ≡ true)
      × (end_test (map v (controls (again_frame c) z)) (seen_rails v h.old c.branches z) ≡ true)
  tests j lt at =
      let seen : (z : BranchPlace) × SeenAt again_machine (again_frame c) c.branches (plain m h.old) z j =
      frame_seen again_machine (again_frame c) c.branches c.request c.answer c.eval (plain_again c) (plain m h.old) h.reaches.0 node setting
      (again_is_part c) h.reaches.1 move j lt at in
      (seen.0, seen.1.1, tried_at again_machine (again_frame c) c.branches c.eval (plain m h.old) seen.0 end_test setting seen.1.0 ends_tried)

  asks_anew : node ≡ c.request → v c.request ≡ false → (v c.eval ≡ false) × (v c.leave ≡ false)
  asks_anew same low =
      let t = tests 0 (omega arith) (λ z. same) in
      let cs = map v (controls (again_frame c) t.0) in
      let q = seen_rails v h.old c.branches t.0 in
      let both_low = implies_at (can again_machine 0 cs q && not (bit_at cs 0)) (not (v c.eval) && not (v c.leave))
      (and_left _ (implies (can again_machine 6 cs q && not (bit_at cs 6)) (bit_at cs 4)
      && implies (can again_machine 1 cs q && not (bit_at cs 1)) (bit_at cs 6)) t.2) (both _ _ t.1 (true_not _ low)) in
      (not_true (v c.eval) (and_left (not (v c.eval)) _ both_low), not_true (v c.leave) (and_right (not (v c.eval)) _ both_low))

  ends_asked : node ≡ c.leave → v c.leave ≡ false → v c.eval ≡ true
  ends_asked same low =
      let t = tests 6 (omega arith) (λ z. same) in
      let cs = map v (controls (again_frame c) t.0) in
      let q = seen_rails v h.old c.branches t.0 in
      implies_at (can again_machine 6 cs q && not (bit_at cs 6)) (v c.eval) (and_left _ (implies (can again_machine 1 cs q && not (bit_at cs 1)) (bit_at cs 6))
      (and_right (implies (can again_machine 0 cs q && not (bit_at cs 0)) (not (bit_at cs 4) && not (bit_at cs 6))) _ t.2)) (both _ _ t.1 (true_not _ low))

  answers_ended : node ≡ c.answer → v c.answer ≡ false → v c.leave ≡ true
  answers_ended same low =
      let t = tests 1 (omega arith) (λ z. same) in
      let cs = map v (controls (again_frame c) t.0) in
      let q = seen_rails v h.old c.branches t.0 in
      implies_at (can again_machine 1 cs q && not (bit_at cs 1)) (v c.leave) (and_right (implies (can again_machine 6 cs q && not (bit_at cs 6)) (bit_at cs 4))
      _ (and_right (implies (can again_machine 0 cs q && not (bit_at cs 0)) (not (bit_at cs 4) && not (bit_at cs 6))) _ t.2))
      (both _ _ t.1 (true_not _ low))

  abbrev others : List ℕ
  others = controls_of c.branches ++ rails_of (guards_of c.branches)

  eval_rails : Fresh c.eval (rails_of (guards_of c.branches))
  eval_rails = fresh_right c.eval (controls_of c.branches) (rails_of (guards_of c.branches))
      (fresh_right c.eval (c.any ∷ c.leave ∷ []) others distinct.1.1.1.1.0)

  ended_after : ended_ok (turned v node c.request) (turned v node c.eval) (turned v node c.leave) (noting c.request c.eval c.branches m node c.eval) ≡ true
  ended_after =
      ap (ended_ok (turned v node c.request) (turned v node c.eval) (turned v node c.leave)) (noted_eval c.request c.eval c.branches m node eval_rails)
      ∙ ended_step v m.noted c.request c.eval c.leave node distinct.0.1.1.1.0 distinct.0.1.1.1.1.1.0 asks_anew ends_asked h.ended

  noted_after : Noted c (moment_after (again_part c) m node)
  noted_after = record {
    old = (moment_after (plain_again c) (plain m h.old) node).noted;
    reaches = view_kept again_machine (again_frame c) c.branches c.request c.answer c.eval (plain_again c) (plain m h.old) h.reaches.0 node setting
        (again_is_part c) h.reaches.1 move;
    agree = agree_after c.request c.eval c.branches v h.old m.noted node h.agree;
    ended = ended_after;
    started = λ y is. started_after again_machine (again_frame c) c.branches c.request c.answer c.eval (plain_again c) v h.old h.reaches.0 node setting
        (again_is_part c) h.reaches.1 move starts_tried y is m.noted (h.started y is);
  }

  abbrev within : Bool
  within = not (v c.eval) && (not (v c.answer) && (guards_neutral v c.branches && branches_idle v c.branches))

  start_by : (y : BranchPlace) → IsPlace c.branches y → node ≡ y.this.start → (b : Bool) → v y.this.start ≡ b →
      may_move (plain m h.old) (rises_under c.request (start_wire c.turn c.answer c.eval c.branches y)) ≡ true →
      may_move m (rises_under c.request (once (start_wire c.turn c.answer c.eval c.branches y))) ≡ true
  start_by y is same true high may =
      ap (λ b. if b then v y.this.answer else v c.request && ((v c.turn && (alone_true m.noted y && within)) && not (m.noted y.this.start))) high
      ∙ sym (ap (λ b. if b then v y.this.answer else v c.request && (v c.turn && (alone_true h.old y && within))) high) ∙ may
  start_by y is same false low may =
      let rises = sym (ap (λ b. if b then v y.this.answer else v c.request && (v c.turn && (alone_true h.old y && within))) low) ∙ may in
      let under = and_right (v c.request) _ rises in
      let rest = and_right (v c.turn) _ under in
      let e = not_true (v c.eval) (and_left (not (v c.eval)) _ (and_right (alone_true h.old y) _ rest)) in
      let latched = start_latched again_machine (again_frame c) c.branches c.request c.answer c.eval (plain_again c) v h.old h.reaches.0 node setting
      (again_is_part c) h.reaches.1 move starts_tried y is same low in
      ap (λ b. if b then v y.this.answer else v c.request && ((v c.turn && (alone_true m.noted y && within)) && not (m.noted y.this.start))) low
      ∙ both _ _ (and_left (v c.request) _ rises)
      (both _ _ (ap (λ k. v c.turn && (k && within)) (sym (alone_agrees c.branches h.old m.noted y is h.agree)) ∙ under)
      (start_new (v c.eval) (v y.this.latch) (v y.this.start) (m.noted y.this.start) (h.started y is) latched e low))

  abbrev over : Bool
  over = not (v c.eval) && (guards_neutral v c.branches && branches_idle v c.branches)

  answer_by : (b : Bool) → v c.answer ≡ b → node ≡ c.answer → may_move (plain m h.old) (plain_answer c) ≡ true → may_move m (again_answer c) ≡ true
  answer_by true high same may =
      ap (λ b. if b then not (v c.request) && over else v c.request && (m.noted c.eval && (guards_false m.noted c.branches && over))) high
      ∙ sym (ap (λ b. if b then not (v c.request) && over else v c.request && (guards_false h.old c.branches && over)) high) ∙ may
  answer_by false low same may =
      let rises = sym (ap (λ b. if b then not (v c.request) && over else v c.request && (guards_false h.old c.branches && over)) low) ∙ may in
      let asked = ended_new (v c.request) (v c.eval) (v c.leave) (m.noted c.eval) h.ended (and_left (v c.request) _ rises) (answers_ended same low) in
      ap (λ b. if b then not (v c.request) && over else v c.request && (m.noted c.eval && (guards_false m.noted c.branches && over))) low
      ∙ both _ _ (and_left (v c.request) _ rises) (both _ _ asked (ap (λ k. k && over) (sym (all_false_agrees c.branches h.old m.noted h.agree))
      ∙ and_right (v c.request) _ rises))

promised_once : (c : AgainNodes) → AreApart (again_nodes c) → (m : Moment) → (h : Noted c m) → (o : Owned) → Contains (again_owned c) o →
    fires m.value o ≡ true → (w : Wire) → Contains (again_part c).promises w → w.node ≡ o.node → may_move m w ≡ true
promised_once c apart m h o among f w promise e =
    let under = rises_under c.request in
    let evals = eval_wire c.turn c.answer c.eval c.branches in
    let starts = start_wires c.turn c.answer c.eval c.branches in
    let kept = kept_of c apart (plain m h.old) h.reaches in
    let move : IsMove (plain_again c) (plain m h.old) o.node = inl (record { o = o; among = among; enabled = f; at = refl }) in
    ⊎_elim
    (λ (same : w ≡ again_answer c).
    let at : c.answer ≡ o.node = ap (λ (w : Wire). w.node) (sym same) ∙ e in
    ap (may_move m) same ∙ answer_by c apart m o.node h move (m.value c.answer) refl (sym at)
    (kept.promised o among f (plain_answer c) (contains_here (plain_answer c) (map under (evals ∷ starts))) at))
    (λ more. ⊎_elim
    (λ (same : w ≡ under evals). ap (may_move m) same
    ∙ kept.promised o among f (under evals) (contains_next (plain_answer c) (map under (evals ∷ starts)) (under evals)
    (contains_here (under evals) (map under starts))) (ap (λ (w : Wire). w.node) (sym same) ∙ e))
    (λ last. let u = map_in under (map once starts) w last in
    let x = map_in once starts u.0 u.1 in
    let r = place_in (start_wire c.turn c.answer c.eval c.branches) [] c.branches x.0 x.1 in
    let start = start_wire c.turn c.answer c.eval c.branches r.0 in
    let is : w ≡ under (once start) = u.2 ∙ ap under (x.2 ∙ ap once r.2) in
    let at : start.node ≡ o.node = ap (λ (w : Wire). w.node) (sym is) ∙ e in
    let there = subst (λ (w : Wire). Contains starts w) r.2 x.1 in
    ap (may_move m) is
    ∙ start_by c apart m o.node h move r.0 r.1 (sym at) (m.value r.0.this.start) refl
    (kept.promised o among f (under start) (contains_next (plain_answer c) (map under (evals ∷ starts)) (under start)
    (contains_next (under evals) (map under starts) (under start) (mapped_among under starts start there))) at))
    (contains_cons (under evals) (map under (map once starts)) w more))
    (contains_cons (again_answer c) (map under (evals ∷ map once starts)) w promise)

kept_noted : (c : AgainNodes) → AreApart (again_nodes c) → (m : Moment) → Noted c m → IsKept (again_part c) m
kept_noted c apart m h =
    let kept = kept_of c apart (plain m h.old) h.reaches in
    record {
      promised = promised_once c apart m h;
      firm = λ o among f node move ne. kept.firm o among f node (plain_move c m h.old node move) ne;
      apart = kept.apart;
      lows = kept.lows;
      bits = kept.bits;
      waits = λ none. ⊎_elim
          (λ (w : (w : Wire) × Contains (again_part c).allows w × (may_move (plain m h.old) w ≡ true)). inl (
            w.0,
            w.1,
            same_may c.request c.answer c.eval c.branches m.value h.old m.noted w.0 ((again_is_part c).wires w.0 w.1) ∙ w.2,
          ))
          (λ blocked. inr blocked) (kept.waits none);
    }

pub again_keeps : (c : AgainNodes) → 0 < length c.branches → AreApart (again_nodes c) → Keeps (again_part c)
again_keeps c some apart =
    kept_by (again_part c) (Noted c) (first_noted c apart some) (λ m node h move. noted_after c apart m node h (plain_move c m h.old node move))
    (kept_noted c apart)
