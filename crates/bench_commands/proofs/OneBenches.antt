-- `bench` has at most one answer.
use Rattle.std.proofs.Common.{◌≡◌, ◌∙◌, ℕ, Bool, true, List, Option, Some, None, sym, refl, ap, subst}
use Rattle.event_sim.specs.declared.ran.End.{End}
use Rattle.event_sim.specs.Simulating.{RanValue, growth}
use Rattle.peer_bench.specs.Asking.{PeerValue}
use Rattle.peer_bench.specs.declared.note.Note.{Note}
use Rattle.peer_bench.specs.Benches.{SetupValue, IsBenchRun}
use Rattle.peer_bench.specs.Growing.{script_by}
use Rattle.prs_core.specs.Nets.{NetValue}
use Rattle.command_answers.specs.Answers.{Given, Answer, OneAnswer}
use Rattle.command_steps.specs.Orders.{OrderState}
use Rattle.command_steps.proofs.OneAnswers.{file_once, net_once}
use Rattle.command_steps.proofs.OneRunSteps.{order_once}
use Rattle.command_words.specs.BenchWords.{AskedBench}
use Rattle.env_script.specs.Scripts.{OfferValue}
use Rattle.run_reports.specs.RunReporting.{IsReported, alone}
use Rattle.bench_commands.specs.HandedIn.{HandedIn}
use Rattle.bench_commands.specs.OnBench.{AgainstPeer, Benches, BenchesAt, BenchesBy, BenchesNet, notes_grown, setup_for}
use Rattle.bench_commands.specs.Peers.{Peered, FromPeer, no_peer, a_peer}

module _ (peers : Peered) (name : List ℕ) (Next : ℕ → Answer → Type 0) (next : (place : ℕ) → OneAnswer (Next place)) where
  pub peer_once : (a b : Answer) → FromPeer peers name Next a → FromPeer peers name Next b → a ≡ b
  peer_once a b (no_peer n) (no_peer m) = refl
  peer_once a b (no_peer n) (a_peer is m) = absurd (cc (n, is))
  peer_once a b (a_peer is n) (no_peer m) = absurd (cc (m, is))
  peer_once a b (a_peer {place = p} is n) (a_peer {place = q} are m) =
      let same : q ≡ p = cc (is, are) in
      next p a b n (subst (λ r. Next r b) same m)

-- by the same picks and notes a run is the same
same_fields : (r q : RanValue) → q.net ≡ r.net → q.end ≡ r.end → q.moves ≡ r.moves → q.done_high ≡ r.done_high → q.passed ≡ r.passed → q ≡ r
same_fields r q net end moves done passed =
    let made : NetValue → End → ℕ → Bool → List (ℕ × ℕ) → RanValue = λ n e m d p. record { net = n; end = e; moves = m; done_high = d; passed = p } in
    ap (λ n. made n q.end q.moves q.done_high q.passed) net ∙ (ap (λ e. made r.net e q.moves q.done_high q.passed) end
    ∙ (ap (λ m. made r.net r.end m q.done_high q.passed) moves ∙ (ap (λ d. made r.net r.end r.moves d q.passed) done
    ∙ ap (λ p. made r.net r.end r.moves r.done_high p) passed)))

same_end : {o : Option End} {e f : End} → o ≡ Some e → o ≡ Some f → f ≡ e
same_end e f = cc (e, f)

one_run : (s : SetupValue) (picks : List ℕ) (notes : List Note) (was also is : PeerValue) (r q : RanValue) →
    IsBenchRun (λ (p : PeerValue). p) s picks notes was is r → IsBenchRun (λ (p : PeerValue). p) s picks notes also is q → q ≡ r
one_run s picks notes was also is r q x y =
    same_fields r q (y.net ∙ sym x.net) (same_end x.ends.ended y.ends.ended) (y.moves ∙ sym x.moves) (y.done ∙ sym x.done) (y.passed ∙ sym x.passed)

report_once : (script : List OfferValue) (r : RanValue) (a b : Answer) → IsReported script None r None a → IsReported script None r None b → a ≡ b
report_once script r a b alone alone = refl

same_item : {X : Type 0} {held : Option X} {a b : X} → held ≡ Some a → held ≡ Some b → b ≡ a
same_item e f = cc (e, f)

against_once : (s : SetupValue) (seed : ℕ) (was is : OrderState) (peers : Peered) (which : ℕ) (a b : Answer) → AgainstPeer s seed was is peers which a →
    AgainstPeer s seed was is peers which b → a ≡ b
against_once s seed was is peers which a b x y =
    let moved = subst (λ (p : PeerValue). Written x.peer_was p) (same_item x.after y.after)
    (subst (λ (p : PeerValue). Written p y.peer_is) (same_item x.before y.before) (y.run.run, y.written)) in
    report_once _ x.ran a b x.written
    (subst (λ (r : RanValue). IsReported (script_by s.net (notes_grown x.peer_was x.peer_is)) None r None b)
    (one_run s (growth was.log is.log) (notes_grown x.peer_was x.peer_is) _ _ x.peer_is x.ran y.ran x.run.run moved.0) moved.1)
  where
    Written : (peer_was peer_is : PeerValue) → Type 0
    Written peer_was peer_is =
        IsBenchRun (λ (p : PeerValue). p) s (growth was.log is.log) (notes_grown peer_was peer_is) (record peer_was { spare = y.run.room }) peer_is y.ran
        × IsReported (script_by s.net (notes_grown peer_was peer_is)) None y.ran None b

bench_net_once : (handed : HandedIn) (place which seed : ℕ) (s : SetupValue) (a b : Answer) → BenchesNet handed place which seed s a →
    BenchesNet handed place which seed s b → a ≡ b
bench_net_once handed place which seed s a b x y =
    against_once s seed x.was x.is handed.peers which a b x.against
    (subst (λ is. AgainstPeer s seed x.was is handed.peers which b) (same_item x.after y.after)
    (subst (λ was. AgainstPeer s seed was y.is handed.peers which b) (same_item x.before y.before) y.against))

pub benches_once : (b : AskedBench) (given : Given) (handed : HandedIn) → given.tells ≡ true → OneAnswer (Benches b given handed)
benches_once b given handed told = order_once handed.orders b.order (BenchesBy b given handed)
    (λ place. peer_once handed.peers b.peer (BenchesAt b given handed place)
    (λ which. file_once given b.net _ _ told (λ text. net_once text (λ net. BenchesNet handed place which b.seed (setup_for net b.steps))
    (λ net. bench_net_once handed place which b.seed (setup_for net b.steps)))))
