-- What is noted at one moment.
use Rattle.std.proofs.Common.{◌≡◌, ℕ, ◌+◌, Bool, true, false, List, [], ◌∷◌, ◌++◌, length, refl, sym, ap, subst, ◌∙◌}
use Rattle.std.specs.Prelude.{not, ◌&&◌, ◌||◌, if◌then◌else◌, slice_get, Option, Some, None}
use Rattle.std.specs.List.{range_with_len}
use Rattle.std.proofs.lemmas.List.{append-nil, append_assoc}
use Rattle.chp_base.specs.declared.channel.Kind.{Kind}
use Rattle.chp_base.specs.declared.channel.Kind.TheVariants.{In, Out, Chan}
use Rattle.prs_core.specs.declared.wires.Wires.{Wires}
use Rattle.prs_core.specs.Nets.{NetValue}
use Rattle.prs_core.specs.Moves.{high}
use Rattle.env_script.specs.Scripts.{OfferValue}
use Rattle.env_script.specs.Environment.{in_reset}
use Rattle.env_script.specs.Runs.{RunState, after}
use Rattle.event_sim.specs.Passing.{channel_acknowledged, completion}
use Rattle.event_sim.specs.Standings.{is_idle}
use Rattle.event_sim.specs.Stages.{StageValue, now_of}
use Rattle.peer_bench.specs.declared.note.Note.{Note}
use Rattle.peer_bench.specs.declared.note.Note.TheVariants.{Took}
use Rattle.peer_bench.specs.Growing.{script_by}
use Rattle.peer_bench.specs.Asking.{PeerValue, HasNoted, offer_note, ready_note, answer, answer_on, asked_on, IsPassOver, ArePasses, no_pass, and_pass, IsAsked}
use Rattle.peer_bench.specs.Along.{is_external, is_out, chan_is, lets_ask, told_passed, IsAskedIf, IsNotedAlong, behind_move}
use Rattle.peer_bench.specs.Steps.{IsAskedByIf}
use Rattle.peer_bench.proofs.Growth.{AreAt, at_both}
use Rattle.peer_bench.proofs.Liking.{StandsFor}
use Rattle.peer_bench.proofs.Noting.{took_stands}
use Rattle.peer_bench.proofs.Passes.{asked_on_notes}

-- when it was noted

pub told_at : (net : NetValue) (at : ℕ) (o : Option (ℕ × ℕ)) → AreAt at (told_passed net at o)
told_at net at None = tt
told_at net at (Some p) = by_kind (chan_is is_out net (Some p.0))
  where
    by_kind : (b : Bool) → AreAt at (if b then Took at p.0 p.1 ∷ [] else [])
    by_kind true = (refl, tt)
    by_kind false = tt

asked_at : (net : NetValue) (notes : List Note) (st : RunState) (p : PeerValue) (at chan : ℕ) → AreAt at (asked_on net notes st p at chan)
asked_at net notes st p at chan = by_idle (is_idle net (script_by net notes) st chan)
  where
    by_due : (o : Option ℕ) → AreAt at (offer_note at chan o)
    by_due None = tt
    by_due (Some value) = (refl, tt)

    by_willing : (b : Bool) → AreAt at (ready_note at chan b)
    by_willing true = (refl, tt)
    by_willing false = tt

    by_kind : (kind : Kind) (width : ℕ) → AreAt at (answer p kind width at chan)
    by_kind In width = by_due (p.due chan width)
    by_kind Out width = by_willing (p.willing chan)
    by_kind Chan width = tt

    by_channel : (o : Option Wires) → AreAt at (answer_on p o at chan)
    by_channel None = tt
    by_channel (Some w) = by_kind w.channel.kind w.channel.width

    by_idle : (b : Bool) → AreAt at (if b then answer_on p (slice_get net.channels chan) at chan else [])
    by_idle true = by_channel (slice_get net.channels chan)
    by_idle false = tt

-- what is known of the device behind it

pub record HasLogged (more : List Note) (was is : PeerValue) : Type 0 where
  pub log : is.log ≡ was.log ++ more
  pub name : is.name ≡ was.name

pub noted_logged : (more : List Note) (was is : PeerValue) → HasNoted more was is → HasLogged more was is
noted_logged more was is noted = record { log = noted.log; name = noted.name }

pub logged_same : (was is : PeerValue) → is ≡ was → HasLogged [] was is
logged_same was is same = record {
  log = ap (λ (p : PeerValue). p.log) same ∙ sym (append-nil was.log);
  name = ap (λ (p : PeerValue). p.name) same;
}

pub logged_both : (xs ys : List Note) (was mid is : PeerValue) → HasLogged xs was mid → HasLogged ys mid is → HasLogged (xs ++ ys) was is
logged_both xs ys was mid is one two = record {
  log = two.log ∙ ap (λ (zs : List Note). zs ++ ys) one.log ∙ append_assoc was.log xs ys;
  name = two.name ∙ one.name;
}

-- some notes of one moment, by which the device's log has grown
pub record AreOf (at : ℕ) (more : List Note) (was is : PeerValue) : Type 0 where
  pub when : AreAt at more
  pub logged : HasLogged more was is

pub of_both : (at : ℕ) (xs ys : List Note) (was mid is : PeerValue) → AreOf at xs was mid → AreOf at ys mid is → AreOf at (xs ++ ys) was is
of_both at xs ys was mid is one two = record {
  when = at_both at xs ys one.when two.when;
  logged = logged_both xs ys was mid is one.logged two.logged;
}

pass_of : {P : Type 0} (known : P → PeerValue) (net : NetValue) (st : RunState) (at : ℕ) (cs : List ℕ) (notes more : List Note) (was is : P) →
    IsPassOver known net st at cs notes more was is → AreOf at more (known was) (known is)
pass_of known net st at [] notes more was is by =
    subst (λ (xs : List Note). AreOf at xs (known was) (known is)) (sym by.0)
    (record { when = tt; logged = logged_same (known was) (known is) (ap known by.1) })
pass_of known net st at (c ∷ cs) notes more was is by =
    let given : List Note = asked_on net notes st (known was) at c in
    let next = pass_of known net st at cs (notes ++ given) by.1.0 by.0 is by.1.3 in
    subst (λ (xs : List Note). AreOf at xs (known was) (known is)) (sym by.1.1)
    (of_both at given by.1.0 (known was) (known by.0) (known is)
    (record { when = asked_at net notes st (known was) at c; logged = noted_logged given (known was) (known by.0) by.1.2 }) next)

passes_of : {P : Type 0} (known : P → PeerValue) (net : NetValue) (st : RunState) (at : ℕ) (notes : List Note) (was : P) {more : List Note} {is : P} →
    ArePasses known net st at notes was more is → AreOf at more (known was) (known is)
passes_of known net st at notes was no_pass = record { when = tt; logged = logged_same (known was) (known was) refl }
passes_of known net st at notes was (and_pass more last mid is before pass) =
    of_both at more last (known was) (known mid) (known is) (passes_of known net st at notes was before)
    (pass_of known net st at (range_with_len 0 (length net.channels)) (notes ++ more) last mid is pass)

pub asked_of : {P : Type 0} (known : P → PeerValue) (net : NetValue) (st : RunState) (at : ℕ) (notes more : List Note) (was is : P) →
    IsAsked known net st at notes more was is → AreOf at more (known was) (known is)
asked_of known net st at notes more was is asked =
    let first = passes_of known net st at notes was asked.passes in
    let last = pass_of known net st at (range_with_len 0 (length net.channels)) (notes ++ more) [] asked.mid is asked.last in
    subst (λ (xs : List Note). AreOf at xs (known was) (known is)) (append-nil more)
    (of_both at more [] (known was) (known asked.mid) (known is) first last)

-- asking where that is to be, by the notes

pub record AskedOnIf {P : Type 0} (b : Bool) (known : P → PeerValue) (net : NetValue) (st : RunState) (at : ℕ) (notes more : List Note)
    (behind : List OfferValue) (was is : P) : Type 0 where
  pub asked : IsAskedIf b known net st at notes more was is
  pub stands : StandsFor net st (notes ++ more) behind
  pub of : AreOf at more (known was) (known is)

pub asked_on_if : {P : Type 0} (b : Bool) (known : P → PeerValue) (net : NetValue) (st : RunState) (at : ℕ) (notes : List Note)
    (script behind : List OfferValue) (more : List Note) (was is : P) → StandsFor net st notes script →
    IsAskedByIf b known net st at script behind more was is → AskedOnIf b known net st at notes more behind was is
asked_on_if true known net st at notes script behind more was is stands by =
    let on = asked_on_notes known net st at notes script behind more was is stands by in
    record { asked = on.asked; stands = on.stands; of = asked_of known net st at notes more was is on.asked }
asked_on_if false known net st at notes script behind more was is stands by = record {
  asked = (by.0, by.2);
  stands = subst (λ (xs : List Note). StandsFor net st xs behind) (sym (ap (λ (xs : List Note). notes ++ xs) by.0 ∙ append-nil notes))
      (subst (λ (s : List OfferValue). StandsFor net st notes s) (sym by.1) stands);
  of = subst (λ (xs : List Note). AreOf at xs (known was) (known is)) (sym by.0)
      (record { when = tt; logged = logged_same (known was) (known is) (ap known by.2) });
}

pub told_stands : (net : NetValue) (st : RunState) (notes : List Note) (script : List OfferValue) (at : ℕ) (o : Option (ℕ × ℕ)) →
    StandsFor net st notes script → StandsFor net st (notes ++ told_passed net at o) script
told_stands net st notes script at o stands = by_passed o
  where
    unchanged : StandsFor net st (notes ++ []) script
    unchanged = subst (λ (xs : List Note). StandsFor net st xs script) (sym (append-nil notes)) stands

    by_kind : (c value : ℕ) (b : Bool) → StandsFor net st (notes ++ (if b then Took at c value ∷ [] else [])) script
    by_kind c value true = took_stands net st notes script at c value stands
    by_kind c value false = unchanged

    by_passed : (o : Option (ℕ × ℕ)) → StandsFor net st (notes ++ told_passed net at o) script
    by_passed None = unchanged
    by_passed (Some p) = by_kind p.0 p.1 (chan_is is_out net (Some p.0))

-- what one move makes of a device, where the stage is known move by move
pub asked_then : {P : Type 0} (known : P → PeerValue) (s l now : StageValue) (n at : ℕ) (asks on was_on ack : Bool) (more : List Note) (was is : P) →
    l.net ≡ s.net → l.script ≡ s.script → now ≡ record l { script = now.script } → asks ≡ (not on && (was_on || ack)) →
    on ≡ in_reset l.net.reset (high l.values) → was_on ≡ in_reset s.net.reset (high s.values) →
    ack ≡ chan_is is_external s.net (channel_acknowledged s.net.channels n) →
    IsAskedByIf asks known l.net (now_of l) at l.script now.script more was is →
    IsAskedByIf (lets_ask s.net (now_of s) (now_of now) n) known s.net (now_of now) at s.script now.script more was is
asked_then known s l now n at asks on was_on ack more was is net script same tests on_is was_is ack_is asked =
    let st : now_of now ≡ now_of l = ap now_of same in
    let low : on ≡ in_reset s.net.reset (high (now_of now).values) = on_is ∙ ap (λ (w : NetValue). in_reset w.reset (high l.values)) net
    ∙ ap (λ (r : RunState). in_reset s.net.reset (high r.values)) (sym st) in
    let all : asks ≡ lets_ask s.net (now_of s) (now_of now) n = tests ∙ ap (λ (b : Bool). not b && (was_on || ack)) low
    ∙ ap (λ (b : Bool). not (in_reset s.net.reset (high (now_of now).values)) && (b || ack)) was_is
    ∙ ap (λ (b : Bool). not (in_reset s.net.reset (high (now_of now).values)) && (in_reset s.net.reset (high s.values) || b)) ack_is in
    subst (λ (b : Bool). IsAskedByIf b known s.net (now_of now) at s.script now.script more was is) all
    (subst (λ (r : RunState). IsAskedByIf asks known s.net r at s.script now.script more was is) (sym st)
    (subst (λ (x : List OfferValue). IsAskedByIf asks known s.net (now_of l) at x now.script more was is) script
    (subst (λ (w : NetValue). IsAskedByIf asks known w (now_of l) at l.script now.script more was is) net asked)))

pub told_then : (net other : NetValue) (at : ℕ) (o p : Option (ℕ × ℕ)) (was is : PeerValue) → other ≡ net → o ≡ p → HasNoted (told_passed other at o) was is →
    HasNoted (told_passed net at p) was is
told_then net other at o p was is same passed noted =
    subst (λ (q : Option (ℕ × ℕ)). HasNoted (told_passed net at q) was is) passed
    (subst (λ (w : NetValue). HasNoted (told_passed w at o) was is) same noted)

-- a run that goes on by one move
pub noted_next : {P : Type 0} (known : P → PeerValue) (net : NetValue) (start : RunState) (was : P) (ns : List ℕ) (notes : List Note) (mid : P)
    (n at : ℕ) (st behind : RunState) (more : List Note) (late is : P) → IsNotedAlong known net start was ns notes mid → after net start ns ≡ st →
    after net start (ns ++ n ∷ []) ≡ behind → length ns + 1 ≡ at → HasNoted (told_passed net at (completion net (high st.values) n)) (known mid) (known late) →
    IsAskedIf (lets_ask net st behind n) known net behind at (notes ++ told_passed net at (completion net (high st.values) n)) more late is →
    IsNotedAlong known net start was (ns ++ n ∷ []) ((notes ++ told_passed net at (completion net (high st.values) n)) ++ more) is
noted_next {P} known net start was ns notes mid n at st behind more late is before there later moment =
    subst (λ (a : ℕ). Step a st behind) moment
    (subst (λ (r : RunState). Step (length ns + 1) st r) later
    (subst (λ (r : RunState). Step (length ns + 1) r (after net start (ns ++ n ∷ []))) there
    (λ noted asked. behind_move ns n notes more mid late is before noted asked)))
  where
    Step : ℕ → RunState → RunState → Type 0
    Step a r b = HasNoted (told_passed net a (completion net (high r.values) n)) (known mid) (known late) →
        IsAskedIf (lets_ask net r b n) known net b a (notes ++ told_passed net a (completion net (high r.values) n)) more late is →
        IsNotedAlong known net start was (ns ++ n ∷ []) ((notes ++ told_passed net a (completion net (high r.values) n)) ++ more) is
