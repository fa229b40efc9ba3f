-- A selection asks for its guards once for each request, and starts a branch once for each time that it did: what is noted
-- beside the invariants of the values, and that the whole contract is kept.
use Rattle.std.proofs.Common.{◌≡◌, ℕ, ◌<◌, Bool, true, false, not, List, [], ◌∷◌, length, map, arith, ap, sym, ◌∙◌, refl, inl, inr}
use Rattle.std.specs.Prelude.{◌&&◌, if◌then◌else◌, Contains}
use Rattle.std.proofs.Math.Logic.{⊎_elim}
use Rattle.prs_core.specs.Pairs.{rails_of}
use Rattle.prs_core.specs.Parts.{Owned, Moment, Wire, IsFirstState, IsMove, IsKept, Keeps, moment_after, fires, may_move, turned}
use Rattle.prs_core.specs.Keeping.{kept_by}
use Rattle.cell_select.specs.Contract.{BranchPlace, SelectNodes, select_nodes, select_owned, select_part, select_answer, eval_wire, start_wire, start_wires, guards_of, controls_of, guards_neutral, branches_idle, alone_true, noting, once, AreApart}
use Rattle.cell_select.proofs.Plain.{plain_select}
use Rattle.cell_select.proofs.Tables.{implies, implies_at, and_left, and_right, both, not_true}
use Rattle.cell_select.proofs.Distinct.{Distinct, distinct_from, fresh_right}
use Rattle.cell_select.proofs.Places.{IsPlace, contains_cons, contains_here, contains_next, place_in, map_in}
use Rattle.cell_select.proofs.Rails.{seen_rails}
use Rattle.cell_select.proofs.Machines.{Setting, bit_at, can, controls}
use Rattle.cell_select.proofs.Views.{view_kept}
use Rattle.cell_select.proofs.SelectKeeps.{select_machine, select_frame, select_setting, select_is_part, Reaches, first_of, kept_of}
use Rattle.cell_select.proofs.Once.{Agree, agree_after, alone_agrees, same_may, SeenAt, frame_seen, tried, tried_at, noted_eval, start_ok, start_new, start_test, start_latched, started_after, eval_ok, eval_step, eval_new, ok_new, once_may}

-- of each state: the guards' request rises while no latch is up and falls once one is, and under the request that one stays
abbrev eval_test : List Bool → List Bool → Bool
eval_test c q =
    implies (can select_machine 2 c q) (if bit_at c 2 then not (not (bit_at c 3)) else not (bit_at c 3))
    && implies (can select_machine 3 c q && bit_at c 3) (not (bit_at c 0))

starts_tried : tried select_machine (start_test select_machine) ≡ true
starts_tried = refl

evals_tried : tried select_machine eval_test ≡ true
evals_tried = refl

-- what is noted, beside a state that is reached whatever is noted
record Noted (c : SelectNodes) (m : Moment) : Type 0 where
  old : ℕ → Bool
  reaches : Reaches c (record { value = m.value; noted = old })
  agree : Agree c.branches old m.noted
  asked : eval_ok (m.value c.request) (m.value c.eval) (m.value c.any) (m.noted c.eval) ≡ true
  started : (y : BranchPlace) → IsPlace c.branches y → start_ok (m.value c.eval) (m.value y.this.latch) (m.value y.this.start) (m.noted y.this.start) ≡ true

abbrev plain : Moment → (ℕ → Bool) → Moment
plain m old = record { value = m.value; noted = old }

plain_move : (c : SelectNodes) (m : Moment) (old : ℕ → Bool) (node : ℕ) → IsMove (select_part c) m node → IsMove (plain_select c) (plain m old) node
plain_move c m old node (inl own) = inl (record { o = own.o; among = own.among; enabled = own.enabled; at = own.at })
plain_move c m old node (inr theirs) = inr (record {
  w = theirs.w;
  among = theirs.among;
  may = sym (same_may c.request c.answer c.eval c.branches m.value old m.noted theirs.w ((select_is_part c).wires theirs.w theirs.among)) ∙ theirs.may;
  at = theirs.at;
})

first_noted : (c : SelectNodes) → AreApart (select_nodes c) → 0 < length c.branches → (v : ℕ → Bool) → IsFirstState (select_part c) v →
    Noted c (record { value = v; noted = λ n. false })
first_noted c apart some v first = record {
  old = λ n. false;
  reaches = first_of c apart c.branches refl some v (record { outside = first.outside; own = first.own; bits = first.bits });
  agree = record { trues = λ b a. refl; falses = λ b a. refl };
  asked = ok_new (v c.eval) (v c.request) (v c.any) false refl;
  started = λ y is. ok_new (v c.eval) (v y.this.latch) (v y.this.start) false refl;
}

not_not : (b : Bool) → not (not b) ≡ true → b ≡ true
not_not true h = refl
not_not false h = absurd (cc h)

if_high : (b x : Bool) → b ≡ true → (if b then not (not x) else not x) ≡ true → x ≡ true
if_high true x h e = not_not x e
if_high false x h e = absurd (cc h)

if_low : (b x : Bool) → b ≡ false → (if b then not (not x) else not x) ≡ true → x ≡ false
if_low true x h e = absurd (cc h)
if_low false x h e = not_true x e

module _ (c : SelectNodes) (apart : AreApart (select_nodes c)) (m : Moment) (node : ℕ) (h : Noted c m) (move : IsMove (plain_select c) (plain m h.old) node)
  where
    abbrev v : ℕ → Bool
    v = m.value

    setting : Setting select_machine (select_frame c) c.branches c.eval
    setting = select_setting c apart

    distinct : Distinct (select_nodes c)
    distinct = distinct_from (select_nodes c) apart

    abbrev Frame : ℕ → Type 0
    Frame j = (z : BranchPlace) × SeenAt select_machine (select_frame c) c.branches (plain m h.old) z j

    evaluates : node ≡ c.eval → (if v c.eval then not (not (v c.any)) else not (v c.any)) ≡ true
    evaluates same =
        let seen : Frame 2 = frame_seen select_machine (select_frame c) c.branches c.request c.answer c.eval (plain_select c) (plain m h.old) h.reaches.0 node
        setting (select_is_part c) h.reaches.1 move 2 (omega arith) (λ z. same) in
        let cs = map v (controls (select_frame c) seen.0) in
        let q = seen_rails v h.old c.branches seen.0 in
        let t = tried_at select_machine (select_frame c) c.branches c.eval (plain m h.old) seen.0 eval_test setting seen.1.0 evals_tried in
        implies_at (can select_machine 2 cs q) _ (and_left _ (implies (can select_machine 3 cs q && bit_at cs 3) (not (bit_at cs 0))) t) seen.1.1

    lets_go : node ≡ c.any → v c.any ≡ true → v c.request ≡ false
    lets_go same high =
        let seen : Frame 3 = frame_seen select_machine (select_frame c) c.branches c.request c.answer c.eval (plain_select c) (plain m h.old) h.reaches.0 node
        setting (select_is_part c) h.reaches.1 move 3 (omega arith) (λ z. same) in
        let cs = map v (controls (select_frame c) seen.0) in
        let q = seen_rails v h.old c.branches seen.0 in
        let t = tried_at select_machine (select_frame c) c.branches c.eval (plain m h.old) seen.0 eval_test setting seen.1.0 evals_tried in
        not_true (v c.request) (implies_at (can select_machine 3 cs q && bit_at cs 3) _
        (and_right (implies (can select_machine 2 cs q) (if bit_at cs 2 then not (not (bit_at cs 3)) else not (bit_at cs 3))) _ t) (both _ _ seen.1.1 high))

    asked_after : eval_ok (turned v node c.request) (turned v node c.eval) (turned v node c.any) (noting c.request c.eval c.branches m node c.eval) ≡ true
    asked_after =
        ap (eval_ok (turned v node c.request) (turned v node c.eval) (turned v node c.any))
        (noted_eval c.request c.eval c.branches m node (fresh_right c.eval (controls_of c.branches) (rails_of (guards_of c.branches)) distinct.1.1.0.1))
        ∙ eval_step v m.noted c.request c.eval c.any node distinct.1.1.0.0 (λ same high. if_high (v c.eval) (v c.any) high (evaluates same)) lets_go h.asked

    noted_after : Noted c (moment_after (select_part c) m node)
    noted_after = record {
      old = (moment_after (plain_select c) (plain m h.old) node).noted;
      reaches = view_kept select_machine (select_frame c) c.branches c.request c.answer c.eval (plain_select c) (plain m h.old) h.reaches.0 node setting
          (select_is_part c) h.reaches.1 move;
      agree = agree_after c.request c.eval c.branches v h.old m.noted node h.agree;
      asked = asked_after;
      started = λ y is. started_after select_machine (select_frame c) c.branches c.request c.answer c.eval (plain_select c) v h.old h.reaches.0 node setting
          (select_is_part c) h.reaches.1 move starts_tried y is m.noted (h.started y is);
    }

    eval_once : node ≡ c.eval → may_move (plain m h.old) (eval_wire c.request c.answer c.eval c.branches) ≡ true →
        may_move m (once (eval_wire c.request c.answer c.eval c.branches)) ≡ true
    eval_once same may =
        once_may v h.old m.noted (eval_wire c.request c.answer c.eval c.branches) (v c.eval) refl may refl
        (λ low rises. both _ _ rises (eval_new (v c.request) (v c.eval) (v c.any) (m.noted c.eval) h.asked (and_left (v c.request) _ rises) low
        (if_low (v c.eval) (v c.any) low (evaluates same))))

    start_once : (y : BranchPlace) → IsPlace c.branches y → node ≡ y.this.start →
        may_move (plain m h.old) (start_wire c.request c.answer c.eval c.branches y) ≡ true →
        may_move m (once (start_wire c.request c.answer c.eval c.branches y)) ≡ true
    start_once y is same may =
        once_may v h.old m.noted (start_wire c.request c.answer c.eval c.branches y) (v y.this.start) refl may refl
        (λ low rises.
        let rest = and_right (v c.request) _ rises in
        let e = not_true (v c.eval) (and_left (not (v c.eval)) _ (and_right (alone_true h.old y) _ rest)) in
        let latched = start_latched select_machine (select_frame c) c.branches c.request c.answer c.eval (plain_select c) v h.old h.reaches.0 node setting
        (select_is_part c) h.reaches.1 move starts_tried y is same low in
        both _ _ (ap (λ k. v c.request && (k && (not (v c.eval) && (not (v c.answer) && (guards_neutral v c.branches && branches_idle v c.branches)))))
        (sym (alone_agrees c.branches h.old m.noted y is h.agree)) ∙ rises)
        (start_new (v c.eval) (v y.this.latch) (v y.this.start) (m.noted y.this.start) (h.started y is) latched e low))

promised_once : (c : SelectNodes) → AreApart (select_nodes c) → (m : Moment) → (h : Noted c m) → (o : Owned) → Contains (select_owned c) o →
    fires m.value o ≡ true → (w : Wire) → Contains (select_part c).promises w → w.node ≡ o.node → may_move m w ≡ true
promised_once c apart m h o among f w promise e =
    let evals = eval_wire c.request c.answer c.eval c.branches in
    let starts = start_wires c.request c.answer c.eval c.branches in
    let kept = kept_of c apart (plain m h.old) h.reaches in
    let move : IsMove (plain_select c) (plain m h.old) o.node = inl (record { o = o; among = among; enabled = f; at = refl }) in
    ⊎_elim
    (λ (same : w ≡ select_answer c). ap (may_move m) same ∙ kept.promised o among f (select_answer c) (contains_here (select_answer c) (evals ∷ starts))
    (ap (λ (w : Wire). w.node) (sym same) ∙ e))
    (λ more. let u = map_in once (evals ∷ starts) w more in
    let at : u.0.node ≡ o.node = ap (λ (w : Wire). w.node) (sym u.2) ∙ e in
    let plainly = kept.promised o among f u.0 (contains_next (select_answer c) (evals ∷ starts) u.0 u.1) at in
    ap (may_move m) u.2
    ∙ ⊎_elim
    (λ (same : u.0 ≡ evals). ap (λ (w : Wire). may_move m (once w)) same
    ∙ eval_once c apart m o.node h move (sym at ∙ ap (λ (w : Wire). w.node) same) (ap (may_move (plain m h.old)) (sym same) ∙ plainly))
    (λ last. let r = place_in (start_wire c.request c.answer c.eval c.branches) [] c.branches u.0 last in
    ap (λ (w : Wire). may_move m (once w)) r.2 ∙ start_once c apart m o.node h move r.0 r.1 (sym at ∙ ap (λ (w : Wire). w.node) r.2)
    (ap (may_move (plain m h.old)) (sym r.2) ∙ plainly))
    (contains_cons evals starts u.0 u.1))
    (contains_cons (select_answer c) (map once (evals ∷ starts)) w promise)

kept_noted : (c : SelectNodes) → AreApart (select_nodes c) → (m : Moment) → Noted c m → IsKept (select_part c) m
kept_noted c apart m h =
    let kept = kept_of c apart (plain m h.old) h.reaches in
    record {
      promised = promised_once c apart m h;
      firm = λ o among f node move ne. kept.firm o among f node (plain_move c m h.old node move) ne;
      apart = kept.apart;
      lows = kept.lows;
      bits = kept.bits;
      waits = λ none. ⊎_elim
          (λ (w : (w : Wire) × Contains (select_part c).allows w × (may_move (plain m h.old) w ≡ true)). inl (
            w.0,
            w.1,
            same_may c.request c.answer c.eval c.branches m.value h.old m.noted w.0 ((select_is_part c).wires w.0 w.1) ∙ w.2,
          ))
          (λ blocked. inr blocked) (kept.waits none);
    }

pub select_keeps : (c : SelectNodes) → 0 < length c.branches → AreApart (select_nodes c) → Keeps (select_part c)
select_keeps c some apart =
    kept_by (select_part c) (Noted c) (first_noted c apart some) (λ m node h move. noted_after c apart m node h (plain_move c m h.old node move))
    (kept_noted c apart)
