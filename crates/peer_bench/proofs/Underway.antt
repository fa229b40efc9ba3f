-- A run on a bench that is underway, and one more move of it.
use Rattle.std.proofs.Common.{◌≡◌, ℕ, zero, suc, ◌+◌, ◌*◌, ◌<◌, ◌≤◌, Bool, true, false, List, [], ◌∷◌, ◌++◌, length, get_or, take, refl, sym, ap, subst, ◌∙◌, inl, inr, arith}
use Rattle.std.specs.Prelude.{◌⊎◌, not, ◌&&◌, ◌||◌, ◌==◌, if◌then◌else◌, slice_get, Option, Some, None, option_to_list}
use Rattle.std.proofs.lemmas.Bool.{ne_eqb, cases_lt, or_parts, both_ways}
use Rattle.std.proofs.lemmas.List.{append-nil, append_assoc, length_push, length-set, length-take-le, take-append-le, take_all}
use Rattle.chp_base.specs.declared.channel.Kind.{Kind}
use Rattle.chp_base.specs.declared.channel.Kind.TheVariants.{In, Out, Chan}
use Rattle.prs_core.specs.declared.wires.Wires.{Wires}
use Rattle.prs_core.specs.Nets.{NetValue, IsNet}
use Rattle.prs_core.specs.Moves.{high}
use Rattle.env_script.specs.declared.hazard.Hazard.{Hazard}
use Rattle.env_script.specs.Scripts.{OfferValue, offer_at, IsScript}
use Rattle.env_script.specs.Environment.{in_reset, net_channels}
use Rattle.env_script.specs.Runs.{RunState, IsRun, after, moved, move_enabled, completed}
use Rattle.env_script.specs.Hazards.{hazard_of}
use Rattle.event_sim.specs.Following.{enabled_moves, move_at}
use Rattle.event_sim.specs.Passing.{channel_acknowledged, completion, passed_in}
use Rattle.event_sim.specs.Ends.{end_with}
use Rattle.event_sim.specs.Stages.{StageValue, now_of, moves_now}
use Rattle.event_sim.specs.Standings.{offered_count, is_idle}
use Rattle.event_sim.proofs.Following.{after_more, passed_more, enabled_at}
use Rattle.event_sim.proofs.Wholes.{safe_is_calm}
use Rattle.peer_bench.specs.declared.note.Note.{Note}
use Rattle.peer_bench.specs.declared.note.Note.TheVariants.{Took}
use Rattle.peer_bench.specs.Growing.{script_by, script_after}
use Rattle.peer_bench.specs.Running.{Scripts, follow_under, ArePicksUnder, hazard_under, end_under}
use Rattle.peer_bench.specs.Asking.{PeerValue, HasNoted}
use Rattle.peer_bench.specs.Along.{is_external, is_out, kind_passes, chan_is, lets_ask, told_passed, IsAskedIf, IsNotedAlong, IsSilent, NothingComes}
use Rattle.peer_bench.specs.Steps.{IsMoveNoted, AreOffered, AreRailsHeld, free_on}
use Rattle.peer_bench.specs.Benches.{bench_start, bench_moves}
use Rattle.peer_bench.proofs.Counting.{stands_moved, listed_like, hazard_like}
use Rattle.peer_bench.proofs.Fitting.{more_fit}
use Rattle.peer_bench.proofs.Growth.{AreAt, AreUntil, follow_more, follow_length, picks_more, hazard_more, follow_agree, picks_agree, end_agree, at_both, until_later, until_at, scripts_agree, script_now}
use Rattle.peer_bench.proofs.Idle.{idle_moved}
use Rattle.peer_bench.proofs.Liking.{StandsFor, like_number}
use Rattle.peer_bench.proofs.Moments.{HasLogged, AskedOnIf, told_at, noted_logged, logged_both, told_stands, asked_on_if, noted_next}
use Rattle.peer_bench.proofs.Quiet.{asked_quiet}
use Rattle.peer_bench.proofs.Rails.{completes_on, rails_moved, rails_grow, offered_moved}
use Rattle.peer_bench.proofs.Rising.{enabled_grows, run_grows, run_more, numbers_grow}

-- so many picks and these notes have led to the stage
pub record IsDriven {P : Type 0} (known : P → PeerValue) (net : NetValue) (steps : ℕ) (picks : List ℕ) (notes : List Note) (was is : P)
    (stage : StageValue) (last : Option Hazard) : Type 0 where
  pub net_is : stage.net ≡ net
  pub now : now_of stage ≡ after net (bench_start net) (bench_moves net notes picks)
  pub whole : length stage.values ≡ length net.first
  pub passed : stage.passed ≡ passed_in net (bench_start net) (bench_moves net notes picks)
  pub room : steps ≤ stage.room + length picks
  pub spare : free_on net stage.script (now_of stage) + 1 + 2 * steps ≤ (known is).spare + 2 * length picks
  pub picked : ArePicksUnder net (script_after net notes) (bench_start net) picks
  pub hazard : last ≡ hazard_under net (script_after net notes) (bench_start net) (bench_moves net notes picks)
  pub no_end : (k : ℕ) → k < length picks →
      end_under net (script_after net notes) steps (bench_start net) (take k (bench_moves net notes picks)) ≡ None
  pub run : IsRun net (script_by net notes) (bench_start net) (bench_moves net notes picks)
  pub noted : IsNotedAlong known net (bench_start net) was (bench_moves net notes picks) notes is
  pub until : AreUntil (length picks) notes
  pub stands : StandsFor net (now_of stage) notes stage.script
  pub fits : IsScript (net_channels net) stage.script
  pub suits : IsScript (net_channels net) (script_by net notes)
  pub quiet : in_reset net.reset (high stage.values) ≡ false → NothingComes net notes (now_of stage) (known is)
  pub offered : AreOffered stage.script (now_of stage)
  pub rails : last ≡ None → AreRailsHeld net stage.script (now_of stage)
  pub logged : HasLogged notes (known was) (known is)

-- how many moves have been made
pub moves_count : (net : NetValue) (notes : List Note) (picks : List ℕ) → length (bench_moves net notes picks) ≡ length picks
moves_count net notes picks = follow_length net (script_after net notes) (bench_start net) picks

-- the moves that are enabled now
pub listed_now : {P : Type 0} (known : P → PeerValue) (net : NetValue) (steps : ℕ) (picks : List ℕ) (notes : List Note) (was is : P) (stage : StageValue)
    (last : Option Hazard) → IsDriven known net steps picks notes was is stage last →
    moves_now stage ≡ enabled_moves net (script_by net notes) (after net (bench_start net) (bench_moves net notes picks))
listed_now known net steps picks notes was is stage last d =
    ap (λ (w : NetValue). enabled_moves w stage.script (now_of stage)) d.net_is ∙ listed_like net (now_of stage) notes stage.script d.stands
    ∙ ap (enabled_moves net (script_by net notes)) d.now

-- how the run so far has ended
pub end_now : {P : Type 0} (known : P → PeerValue) (net : NetValue) (steps : ℕ) (picks : List ℕ) (notes : List Note) (was is : P) (stage : StageValue)
    (last : Option Hazard) (spent : Bool) → IsDriven known net steps picks notes was is stage last → (length picks == steps) ≡ spent →
    end_with last (moves_now stage) spent ≡ end_under net (script_after net notes) steps (bench_start net) (bench_moves net notes picks)
end_now known net steps picks notes was is stage last spent d counted =
    ap (λ (h : Option Hazard). end_with h (moves_now stage) spent) d.hazard
    ∙ ap (λ (xs : List ℕ). end_with hazard xs spent) (listed_now known net steps picks notes was is stage last d)
    ∙ ap (λ (e : List OfferValue). end_with hazard (enabled_moves net e (after net (bench_start net) moves)) spent)
    (sym (ap (script_after net notes) (moves_count net notes picks) ∙ script_now net notes (length picks) d.until))
    ∙ ap (λ (b : Bool). end_with hazard (enabled_moves net (script_after net notes (length moves)) (after net (bench_start net) moves)) b)
    (sym counted ∙ ap (λ (k : ℕ). k == steps) (sym (moves_count net notes picks)))
  where
    moves : List ℕ
    moves = bench_moves net notes picks

    hazard : Option Hazard
    hazard = hazard_under net (script_after net notes) (bench_start net) (bench_moves net notes picks)

-- the picks, the moves and the ends, with one more move and the notes of its moment

pub record IsNext (net : NetValue) (steps : ℕ) (picks : List ℕ) (notes extra : List Note) (p node : ℕ) : Type 0 where
  pub moves : bench_moves net (notes ++ extra) (picks ++ p ∷ []) ≡ bench_moves net notes picks ++ node ∷ []
  pub picked : ArePicksUnder net (script_after net (notes ++ extra)) (bench_start net) (picks ++ p ∷ [])
  pub hazard : hazard_of net (script_by net notes) (after net (bench_start net) (bench_moves net notes picks)) node ≡
      hazard_under net (script_after net (notes ++ extra)) (bench_start net) (bench_moves net (notes ++ extra) (picks ++ p ∷ []))
  pub no_end : (k : ℕ) → k < length (picks ++ p ∷ []) →
      end_under net (script_after net (notes ++ extra)) steps (bench_start net) (take k (bench_moves net (notes ++ extra) (picks ++ p ∷ []))) ≡ None

next_is : {P : Type 0} (known : P → PeerValue) (net : NetValue) (steps : ℕ) (picks : List ℕ) (notes extra : List Note) (was is : P) (stage : StageValue)
    (last : Option Hazard) (p node : ℕ) → IsDriven known net steps picks notes was is stage last → AreAt (length picks + 1) extra →
    length picks < steps → end_with last (moves_now stage) false ≡ None →
    p < length (enabled_moves net (script_by net notes) (after net (bench_start net) (bench_moves net notes picks))) →
    node ≡ move_at net (script_by net notes) (after net (bench_start net) (bench_moves net notes picks)) p → IsNext net steps picks notes extra p node
next_is known net steps picks notes extra was is stage last p node d at few goes within here = record {
  moves = whole;
  picked = picks_more net new start picks p (picks_agree net old new start picks (λ i less. sym (agree i (omega arith))) d.picked)
      (subst (λ (e : List OfferValue). p < length (enabled_moves net e (after net start (follow_under net new start picks)))) (sym now)
      (subst (λ (ns : List ℕ). p < length (enabled_moves net (script_by net notes) (after net start ns))) (sym same) within));
  hazard = ap (λ (e : List OfferValue). hazard_of net e (after net start moves) node) (sym (ap new (moves_count net notes picks) ∙ now))
      ∙ sym (hazard_more net new start moves node) ∙ ap (hazard_under net new start) (sym whole);
  no_end = λ k less. ap (λ (ns : List ℕ). end_under net new steps start (take k ns)) whole ∙ by_place k less (cases_lt k (length picks));
}
  where
    start : RunState
    start = bench_start net

    old : Scripts
    old = script_after net notes

    new : Scripts
    new = script_after net (notes ++ extra)

    moves : List ℕ
    moves = bench_moves net notes picks

    agree : (i : ℕ) → i < length picks + 1 → new i ≡ old i
    agree i less = scripts_agree net notes extra i (length picks + 1) less at

    now : new (length picks) ≡ script_by net notes
    now = agree (length picks) (omega arith) ∙ script_now net notes (length picks) d.until

    same : follow_under net new start picks ≡ moves
    same = follow_agree net new old start picks (λ i less. agree i (omega arith))

    whole : bench_moves net (notes ++ extra) (picks ++ p ∷ []) ≡ bench_moves net notes picks ++ node ∷ []
    whole =
        follow_more net new start picks p
        ∙ ap (λ (ns : List ℕ). ns ++ move_at net (new (length picks)) (after net start ns) p ∷ []) same
        ∙ ap (λ (e : List OfferValue). moves ++ move_at net e (after net start moves) p ∷ []) now ∙ ap (λ (k : ℕ). moves ++ k ∷ []) (sym here)

    front : (k : ℕ) → k ≤ length picks → take k (moves ++ node ∷ []) ≡ take k moves
    front k less = take-append-le k moves (node ∷ []) (omega (arith, moves_count net notes picks))

    by_place : (k : ℕ) → k < length (picks ++ p ∷ []) → (k < length picks) ⊎ (length picks ≤ k) →
        end_under net new steps start (take k (moves ++ node ∷ [])) ≡ None
    by_place k below (inl less) =
        let count : length (take k moves) ≡ k = length-take-le k moves (omega (arith, moves_count net notes picks)) in
        ap (end_under net new steps start) (front k (omega arith)) ∙ end_agree net new old steps start (take k moves) (λ i past. agree i (omega arith))
        ∙ d.no_end k less
    by_place k below (inr past) =
        let most : k ≤ length picks = omega (arith, length_push picks p) in
        ap (end_under net new steps start) (front k most ∙ take_all k moves (omega (arith, moves_count net notes picks)))
        ∙ end_agree net new old steps start moves (λ i less. agree i (omega (arith, moves_count net notes picks)))
        ∙ sym (end_now known net steps picks notes was is stage last false d (ne_eqb (length picks) steps (omega arith))) ∙ goes

-- nothing more is due where a move doesn't let the device be asked

out_is_external : (kind : Kind) → is_external kind ≡ false → is_out kind ≡ false
out_is_external In off = refl
out_is_external Out off = absurd (cc off)
out_is_external Chan off = refl

told_none : (net : NetValue) (v : ℕ → Bool) (n at : ℕ) → chan_is is_external net (channel_acknowledged net.channels n) ≡ false →
    told_passed net at (completion net v n) ≡ []
told_none net v n at off = by_completion (completion net v n) refl
  where
    by_completion : (o : Option (ℕ × ℕ)) → completion net v n ≡ o → told_passed net at (completion net v n) ≡ []
    by_completion None none = ap (told_passed net at) none
    by_completion (Some p) some =
        let on = completes_on net v n p some in
        let inside : is_external on.wires.channel.kind ≡ false = sym (ap (chan_is is_external net) on.found ∙ ap (kind_passes is_external) on.here) ∙ off in
        let quiet : chan_is is_out net (Some p.0) ≡ false = ap (kind_passes is_out) on.here ∙ out_is_external on.wires.channel.kind inside in
        ap (told_passed net at) some ∙ ap (λ (b : Bool). if b then Took at p.0 p.1 ∷ [] else []) quiet

unasked : (s : StageValue) (n : ℕ) (notes : List Note) (p : PeerValue) → IsNet s.net →
    chan_is is_external s.net (channel_acknowledged s.net.channels n) ≡ false → NothingComes s.net notes (now_of s) p →
    NothingComes s.net notes (moved s.net (now_of s) n) p
unasked s n notes p net off quiet = λ c w here idle. by_kind c w here idle w.channel.kind refl
  where
    was_idle : (c : ℕ) (w : Wires) → slice_get s.net.channels c ≡ Some w → is_external w.channel.kind ≡ true →
        is_idle s.net (script_by s.net notes) (moved s.net (now_of s) n) c ≡ true → is_idle s.net (script_by s.net notes) (now_of s) c ≡ true
    was_idle c w here external idle =
        idle_moved s n c (script_by s.net notes) net
        (λ found. both_ways (chan_is is_external s.net (channel_acknowledged s.net.channels n)) off
        (ap (chan_is is_external s.net) found ∙ ap (kind_passes is_external) here ∙ external)) idle

    by_kind : (c : ℕ) (w : Wires) → slice_get s.net.channels c ≡ Some w →
        is_idle s.net (script_by s.net notes) (moved s.net (now_of s) n) c ≡ true → (kind : Kind) → w.channel.kind ≡ kind →
        IsSilent p w.channel.kind w.channel.width c
    by_kind c w here idle In e = quiet c w here (was_idle c w here (ap is_external e) idle)
    by_kind c w here idle Out e = quiet c w here (was_idle c w here (ap is_external e) idle)
    by_kind c w here idle Chan e = subst (λ (k : Kind). IsSilent p k w.channel.width c) (sym e) tt

quiet_next : {P : Type 0} (known : P → PeerValue) (s : StageValue) (n at : ℕ) (notes more : List Note) (mid late is : P) → IsNet s.net →
    (in_reset s.net.reset (high s.values) ≡ false → NothingComes s.net notes (now_of s) (known mid)) →
    HasNoted (told_passed s.net at (completion s.net (high s.values) n)) (known mid) (known late) →
    IsAskedIf (lets_ask s.net (now_of s) (moved s.net (now_of s) n) n) known s.net (moved s.net (now_of s) n) at
    (notes ++ told_passed s.net at (completion s.net (high s.values) n)) more late is →
    in_reset s.net.reset (high (moved s.net (now_of s) n).values) ≡ false →
    NothingComes s.net ((notes ++ told_passed s.net at (completion s.net (high s.values) n)) ++ more) (moved s.net (now_of s) n) (known is)
quiet_next {P} known s n at notes more mid late is net quiet noted asked low =
    by_asks (lets_ask s.net (now_of s) (moved s.net (now_of s) n) n) refl asked
  where
    news : List Note
    news = told_passed s.net at (completion s.net (high s.values) n)

    st : RunState
    st = moved s.net (now_of s) n

    ack : Bool
    ack = chan_is is_external s.net (channel_acknowledged s.net.channels n)

    parts : (a b c : Bool) → (not a && (b || c)) ≡ false → a ≡ false → (b ≡ false) × (c ≡ false)
    parts true b c e off = absurd (cc off)
    parts false b c e off = or_parts b c e

    by_asks : (b : Bool) → lets_ask s.net (now_of s) st n ≡ b → IsAskedIf b known s.net st at (notes ++ news) more late is →
        NothingComes s.net ((notes ++ news) ++ more) st (known is)
    by_asks true e asked = asked_quiet known s.net st at (notes ++ news) more late is asked
    by_asks false e asked =
        let off = parts (in_reset s.net.reset (high st.values)) (in_reset s.net.reset (high s.values)) ack e low in
        let none : news ≡ [] = told_none s.net (high s.values) n at off.1 in
        let same : known is ≡ known mid = ap known asked.1 ∙ noted.same none in
        let all : (notes ++ news) ++ more ≡ notes = ap (λ (xs : List Note). (notes ++ news) ++ xs) asked.0 ∙ append-nil (notes ++ news)
        ∙ ap (λ (xs : List Note). notes ++ xs) none ∙ append-nil notes in
        subst (λ (xs : List Note). NothingComes s.net xs st (known is)) (sym all)
        (subst (λ (q : PeerValue). NothingComes s.net notes st q) (sym same) (unasked s n notes (known mid) net off.1 (quiet off.0)))

-- the rails, where the move brings no hazard
rails_next : (s later : StageValue) (n : ℕ) (notes extra : List Note) (brought : Option Hazard) → IsNet s.net → length s.values ≡ length s.net.first →
    move_enabled s.net s.script (now_of s) n ≡ true → AreRailsHeld s.net s.script (now_of s) → brought ≡ hazard_of s.net s.script (now_of s) n →
    StandsFor s.net (moved s.net (now_of s) n) notes s.script → StandsFor s.net (moved s.net (now_of s) n) (notes ++ extra) later.script →
    brought ≡ None → AreRailsHeld s.net later.script (moved s.net (now_of s) n)
rails_next s later n notes extra brought net whole enabled held brings stands standing none =
    rails_grow s.net s.script later.script st grows
    (rails_moved s n s.script net whole enabled ((safe_is_calm s.net s.script (now_of s) n net).1 (sym brings ∙ none)).0.phases held)
  where
    st : RunState
    st = moved s.net (now_of s) n

    grows : (c k : ℕ) → offered_count (offer_at later.script c) ≡ Some k → (j : ℕ) × (offered_count (offer_at s.script c) ≡ Some j) × (j ≤ k)
    grows c k number =
        let was = numbers_grow s.net notes extra c k
        (sym (like_number (offer_at (script_by s.net (notes ++ extra)) c) (offer_at later.script c) (completed st.histories c) (standing.each c)) ∙ number) in (
          was.0,
          like_number (offer_at (script_by s.net notes) c) (offer_at s.script c) (completed st.histories c) (stands.each c) ∙ was.1,
          was.2,
        )

-- what a stage has made of one move
pub record IsMade (s later : StageValue) (n : ℕ) (brought : Option Hazard) : Type 0 where
  pub net : later.net ≡ s.net
  pub now : now_of later ≡ moved s.net (now_of s) n
  pub fits : IsScript (net_channels later.net) later.script
  pub passed : later.passed ≡ s.passed ++ option_to_list (completion s.net (high s.values) n)
  pub room : s.room ≤ later.room + 1
  pub hazard : brought ≡ hazard_of s.net s.script (now_of s) n

pub goes_calm : (last : Option Hazard) (xs : List ℕ) → end_with last xs false ≡ None → last ≡ None
goes_calm None xs none = refl
goes_calm (Some h) xs none = absurd (cc none)

picked_there : (xs : List ℕ) (k n : ℕ) → k < length xs → n ≡ get_or xs k n → n ≡ get_or xs k 0
picked_there [] k n less at = absurd (omega arith)
picked_there (x ∷ xs) zero n less at = at
picked_there (x ∷ xs) (suc k) n less at = picked_there xs k n (omega arith) at

-- one more move, where the stage's net is the bench's
step_here : {P : Type 0} (known : P → PeerValue) (s later : StageValue) (steps : ℕ) (picks : List ℕ) (notes : List Note) (was mid is : P)
    (last brought : Option Hazard) (p n at : ℕ) → IsNet s.net → IsDriven known s.net steps picks notes was mid s last → length picks < steps →
    end_with last (moves_now s) false ≡ None → p < length (moves_now s) → n ≡ get_or (moves_now s) p n → IsMade s later n brought →
    length picks + 1 ≡ at → IsMoveNoted known s.net (now_of s) (now_of later) n at s.script later.script mid is → AreOffered later.script (now_of later) →
    (known mid).spare + free_on s.net later.script (now_of later) ≤ (known is).spare + free_on s.net s.script (now_of s) + 2 →
    (extra : List Note) × AreAt (length picks + 1) extra × IsDriven known s.net steps (picks ++ p ∷ []) (notes ++ extra) was is later brought
step_here {P} known s later steps picks notes was mid is last brought p n at net d few goes within here made moment noted offered spare = (
  news ++ noted.more,
  of_moment,
  record {
    net_is = made.net;
    now = made.now ∙ ap (λ (r : RunState). moved s.net r n) d.now ∙ there;
    whole = ap (λ (r : RunState). length r.values) made.now ∙ length-set s.values n (not (high s.values n)) ∙ d.whole;
    passed = made.passed ∙ ap (λ (r : RunState). s.passed ++ option_to_list (completion s.net (high r.values) n)) d.now
        ∙ ap (λ (ps : List (ℕ × ℕ)). ps ++ option_to_list (completion s.net (high (after s.net start moves).values) n)) d.passed
        ∙ sym (passed_more s.net start moves n) ∙ ap (passed_in s.net start) (sym next.moves);
    room = omega (arith, made.room, d.room, length_push picks p);
    spare = omega (arith, spare, d.spare, length_push picks p);
    picked = next.picked;
    hazard = made.hazard ∙ hazard_like s.net (now_of s) notes s.script n d.stands behind
        ∙ ap (λ (r : RunState). hazard_of s.net (script_by s.net notes) r n) d.now ∙ next.hazard;
    no_end = next.no_end;
    run = subst (λ (ns : List ℕ). IsRun s.net (script_by s.net (notes ++ extra)) start ns) (sym next.moves)
        (run_more s.net (script_by s.net (notes ++ extra)) start moves n (run_grows s.net notes extra start moves d.run)
        (enabled_grows s.net notes extra (after s.net start moves) n enabled));
    noted = subst (λ (ns : List ℕ). IsNotedAlong known s.net start was ns (notes ++ extra) is) (sym next.moves)
        (subst (λ (xs : List Note). IsNotedAlong known s.net start was (moves ++ n ∷ []) xs is) all
        (noted_next known s.net start was moves notes mid n at (now_of s) (now_of later) noted.more noted.mid is d.noted (sym d.now)
        (after_more s.net start moves n ∙ ap (λ (r : RunState). moved s.net r n) (sym d.now) ∙ sym made.now)
        (ap (λ (k : ℕ). k + 1) (moves_count s.net notes picks) ∙ moment) noted.told_is asked.asked));
    until = subst (λ (k : ℕ). AreUntil k (notes ++ extra)) (sym (length_push picks p))
        (until_at (length picks + 1) notes extra (until_later (length picks) (length picks + 1) notes (omega arith) d.until) of_moment);
    stands = standing;
    fits = fits;
    suits = more_fit s.net (moved s.net (now_of s) n) notes extra later.script d.suits fits
        (subst (λ (r : RunState). StandsFor s.net r (notes ++ extra) later.script) made.now standing) (λ c m number. completed_before c m
        (like_number (offer_at (script_by s.net notes) c) (offer_at s.script c) (completed (moved s.net (now_of s) n).histories c) (behind.each c)
        ∙ number));
    quiet = λ low. subst (λ (xs : List Note). NothingComes s.net xs (now_of later) (known is)) all
        (subst (λ (r : RunState). NothingComes s.net ((notes ++ news) ++ noted.more) r (known is)) (sym made.now)
        (quiet_next known s n at notes noted.more mid noted.mid is net d.quiet noted.told_is asked_behind
        (sym (ap (λ (r : RunState). in_reset s.net.reset (high r.values)) made.now) ∙ low)));
    offered = offered;
    rails = λ none. subst (λ (r : RunState). AreRailsHeld s.net later.script r) (sym made.now)
        (rails_next s later n notes extra brought net d.whole enabled_here (d.rails (goes_calm last (moves_now s) goes)) made.hazard behind
        (subst (λ (r : RunState). StandsFor s.net r (notes ++ extra) later.script) made.now standing) none);
    logged = logged_both notes extra (known was) (known mid) (known is) d.logged
        (logged_both news noted.more (known mid) (known noted.mid) (known is) (noted_logged news (known mid) (known noted.mid) noted.told_is) asked.of.logged);
  },
)
  where
    start : RunState
    start = bench_start s.net

    moves : List ℕ
    moves = bench_moves s.net notes picks

    news : List Note
    news = told_passed s.net at (completion s.net (high s.values) n)

    extra : List Note
    extra = news ++ noted.more

    all : (notes ++ news) ++ noted.more ≡ notes ++ extra
    all = append_assoc notes news noted.more

    fits : IsScript (net_channels s.net) later.script
    fits = subst (λ (w : NetValue). IsScript (net_channels w) later.script) made.net made.fits

    behind : StandsFor s.net (moved s.net (now_of s) n) notes s.script
    behind = stands_moved s n notes s.script net d.stands

    asked : AskedOnIf (lets_ask s.net (now_of s) (now_of later) n) known s.net (now_of later) at (notes ++ news) noted.more later.script noted.mid is
    asked =
        asked_on_if (lets_ask s.net (now_of s) (now_of later) n) known s.net (now_of later) at (notes ++ news) s.script later.script noted.more noted.mid is
        (told_stands s.net (now_of later) notes s.script at (completion s.net (high s.values) n)
        (subst (λ (r : RunState). StandsFor s.net r notes s.script) (sym made.now) behind)) noted.asked

    asked_behind : IsAskedIf (lets_ask s.net (now_of s) (moved s.net (now_of s) n) n) known s.net (moved s.net (now_of s) n) at (notes ++ news)
        noted.more noted.mid is
    asked_behind =
        subst (λ (r : RunState). IsAskedIf (lets_ask s.net (now_of s) r n) known s.net r at (notes ++ news) noted.more noted.mid is) made.now asked.asked

    standing : StandsFor s.net (now_of later) (notes ++ extra) later.script
    standing = subst (λ (xs : List Note). StandsFor s.net (now_of later) xs later.script) all asked.stands

    of_moment : AreAt (length picks + 1) extra
    of_moment =
        subst (λ (k : ℕ). AreAt k extra) (sym moment)
        (at_both at news noted.more (told_at s.net at (completion s.net (high s.values) n)) asked.of.when)

    listed : moves_now s ≡ enabled_moves s.net (script_by s.net notes) (after s.net start moves)
    listed = listed_now known s.net steps picks notes was mid s last d

    there_is : n ≡ move_at s.net (script_by s.net notes) (after s.net start moves) p
    there_is = picked_there (moves_now s) p n within here ∙ ap (λ (xs : List ℕ). get_or xs p 0) listed

    inside : p < length (enabled_moves s.net (script_by s.net notes) (after s.net start moves))
    inside = subst (λ (xs : List ℕ). p < length xs) listed within

    enabled : move_enabled s.net (script_by s.net notes) (after s.net start moves) n ≡ true
    enabled =
        subst (λ k. move_enabled s.net (script_by s.net notes) (after s.net start moves) k ≡ true) (sym there_is)
        (enabled_at s.net (script_by s.net notes) (after s.net start moves) p inside)

    enabled_here : move_enabled s.net s.script (now_of s) n ≡ true
    enabled_here =
        subst (λ k. move_enabled s.net s.script (now_of s) k ≡ true) (sym (picked_there (moves_now s) p n within here))
        (enabled_at s.net s.script (now_of s) p within)

    -- before the device is asked no more has completed than it had offered
    completed_before : AreOffered s.script (moved s.net (now_of s) n)
    completed_before = offered_moved s n s.script net d.fits enabled_here (d.rails (goes_calm last (moves_now s) goes)) d.offered

    next : IsNext s.net steps picks notes extra p n
    next = next_is known s.net steps picks notes extra was mid s last p n d of_moment few goes inside there_is

    there : moved s.net (after s.net start moves) n ≡ after s.net start (bench_moves s.net (notes ++ extra) (picks ++ p ∷ []))
    there = sym (after_more s.net start moves n) ∙ ap (after s.net start) (sym next.moves)

pub step : {P : Type 0} (known : P → PeerValue) (net : NetValue) (s later : StageValue) (steps : ℕ) (picks : List ℕ) (notes : List Note) (was mid is : P)
    (last brought : Option Hazard) (p n at : ℕ) → IsNet net → IsDriven known net steps picks notes was mid s last → length picks < steps →
    end_with last (moves_now s) false ≡ None → p < length (moves_now s) → n ≡ get_or (moves_now s) p n → IsMade s later n brought →
    length picks + 1 ≡ at → IsMoveNoted known s.net (now_of s) (now_of later) n at s.script later.script mid is → AreOffered later.script (now_of later) →
    (known mid).spare + free_on s.net later.script (now_of later) ≤ (known is).spare + free_on s.net s.script (now_of s) + 2 →
    (extra : List Note) × AreAt (length picks + 1) extra × IsDriven known net steps (picks ++ p ∷ []) (notes ++ extra) was is later brought
step known net s later steps picks notes was mid is last brought p n at is_net d few goes within here made moment noted offered spare =
    subst (λ (w : NetValue). (extra : List Note) × AreAt (length picks + 1) extra
    × IsDriven known w steps (picks ++ p ∷ []) (notes ++ extra) was is later brought) d.net_is
    (step_here known s later steps picks notes was mid is last brought p n at (subst (λ (w : NetValue). IsNet w) (sym d.net_is) is_net)
    (subst (λ (w : NetValue). IsDriven known w steps picks notes was mid s last) (sym d.net_is) d) few goes within here made moment noted offered spare)
