-- What is promised of nets that are written.
use Rattle.std.proofs.Common.{◌≡◌, ◌∙◌, ◌⊎◌, ℕ, ◌+◌, ◌<◌, ◌≤◌, Bool, true, false, List, refl, sym, ap, subst}
use Rattle.std.specs.Prelude.{Result, Ok, Err, IfOk, IfErr, OnOk, if◌then◌else◌, max}
use Rattle.chp_syntax.specs.Trees.{ProgramTree}
use Rattle.handshake_expand.specs.Layout.{capped, node_count, nodes_of}
use Rattle.net_compose.specs.Carries.{Carries, CarriesReset}
use Rattle.net_compose.specs.declared.net.NetError.{NetError}
use Rattle.net_compose.specs.declared.net.NetError.TheVariants.{NoMemory, TooManyNodes}
use Rattle.net_compose.specs.Errors.{IfTooMany}
use Rattle.net_compose.specs.Points.{IsTranslated}
use Rattle.net_compose.specs.Progress.{ProgressesFrom, ResetProgresses, TranslationProgresses, PlainTranslationProgresses}
use Rattle.net_compose.specs.Translation.{translation}
use Rattle.net_compose.proofs.NamesFree.{names_free, some_names_free}
use Rattle.prs_core.specs.Nets.{IsNet, NetValue}
use Rattle.prs_file.specs.Spelling.{NetText, spelling}
use Rattle.reset_net.specs.Resets.{reset_of}
use Rattle.env_script.specs.Runs.{IsPowered}
use Rattle.reset_net.proofs.Whole.{reset_is_net}
use Rattle.width_check.specs.Processes.{TypedProgram}
use Rattle.call_map.specs.Calling.{called_size}
use Rattle.call_map.specs.CallNet.{call_count, call_names, call_net, inlined_program, procs_size}
use Rattle.call_map.specs.CallPace.{IsMost, call_most_moves}
use Rattle.call_map.proofs.CopiesProgress.{copies_progress}
use Rattle.call_compose.specs.CallsCarried.{CallsCarried, CallsCarriedReset, CallsHold, CallsProgress, CallsProgressReset}
use Rattle.call_compose.specs.Inlined.{AreInlined}
use Rattle.call_compose.specs.Placing.{shared_of}
use Rattle.command_steps.proofs.NodeCounts.{counted_few, counted_many}
use Rattle.program_commands.specs.Bodies.{IsFaithful, SharedNetsAreFaithful, copies_of}
use Rattle.program_commands.specs.Streamed.{IsOver, IsSharedOver, IsSharedText, IsTextWith}
use Rattle.program_commands.proofs.BodyCounts.{shared_few, shared_many}

-- with copies

module _ (ends : TranslationProgresses) (plain_ends : PlainTranslationProgresses) where
  pub plain_faithful : (p : TypedProgram) → IsTranslated p → IsNet (translation p) → Carries (translation p) p → IsFaithful false (copies_of p)
  plain_faithful p is net carries = record { plain = net; kept = net; carries = carries; progresses = copies_progress ends plain_ends p is }

  pub reset_faithful : ((net : NetValue) (p : TypedProgram) (most : ℕ → ℕ) → ResetProgresses net p most)
      → (p : TypedProgram) → IsTranslated p → IsNet (translation p) → CarriesReset (reset_of (translation p)) p → IsFaithful true (copies_of p)
  reset_faithful resets p is net carries = record {
    plain = net;
    kept = reset_is_net (translation p) net refl (names_free p);
    carries = carries;
    progresses = λ most bound. resets (translation p) p most (copies_progress ends plain_ends p is most bound) net refl (names_free p);
  }

-- with shared bodies

pub shared_faithful : CallsHold → CallsCarried → CallsCarriedReset → CallsProgress → CallsProgressReset → SharedNetsAreFaithful
shared_faithful hold carry carry_reset progress progress_reset false program p h few =
    let C = shared_of h in
    let net = call_net C (call_names C) in
    let whole = hold program h.tree h.inlined h.meets h.shaped h.accepted few in
    record {
      plain = whole;
      kept = whole;
      carries = subst (λ (q : TypedProgram). Carries net q) (sym h.typed)
          (carry program h.tree h.inlined h.meets h.shaped h.accepted (call_names C));
      progresses =
          subst
          (λ (q : TypedProgram). (most : ℕ → ℕ) → IsMost q most → ProgressesFrom net q (call_most_moves most) net.first)
          (sym h.typed)
          (λ most bound. progress program h.tree h.inlined h.meets h.shaped h.accepted most bound (call_names C));
    }
shared_faithful hold carry carry_reset progress progress_reset true program p h few =
    let C = shared_of h in
    let P = inlined_program C in
    let net = call_net C (call_names C) in
    let whole = hold program h.tree h.inlined h.meets h.shaped h.accepted few in
    record {
      plain = whole;
      kept = reset_is_net net whole refl (some_names_free P (procs_size P C.procs + (2 + called_size C.procs P C.body)));
      carries = subst (λ (q : TypedProgram). CarriesReset (reset_of net) q) (sym h.typed)
          (carry_reset program h.tree h.inlined h.meets h.shaped h.accepted few);
      progresses =
          subst
          (λ (q : TypedProgram). (most : ℕ → ℕ) → IsMost q most → (values : List Bool) → IsPowered (reset_of net) values
          → ProgressesFrom (reset_of net) q (call_most_moves most) values)
          (sym h.typed)
          (λ most bound. progress_reset program h.tree h.inlined h.meets h.shaped h.accepted most bound few);
    }

-- ---- what is promised of streamers

module _ (ends : TranslationProgresses) (plain_ends : PlainTranslationProgresses) (p : TypedProgram) where
  pub plain_text : {E : Type 0} (r : Result (List ℕ) E) → OnOk r (nodes_of p ≤ 65536) → IfOk r (λ s. NetText s (translation p)) → OnOk r (IsNet (translation p))
      → OnOk r (Carries (translation p) p) → OnOk r (IsTranslated p) → IfOk r (IsTextWith false (copies_of p))
  plain_text (Ok s) few spells net carries is =
      record { few = counted_few p few; spells = spells; faithful = plain_faithful ends plain_ends p is net carries }
  plain_text (Err e) few spells net carries is = tt

  pub reset_text : ((net : NetValue) (p : TypedProgram) (most : ℕ → ℕ) → ResetProgresses net p most) → {E : Type 0} (r : Result (List ℕ) E)
      → OnOk r (nodes_of p ≤ 65536) → IfOk r (λ s. NetText s (reset_of (translation p))) → OnOk r (IsNet (translation p))
      → OnOk r (CarriesReset (reset_of (translation p)) p) → OnOk r (IsTranslated p) → IfOk r (IsTextWith true (copies_of p))
  reset_text resets (Ok s) few spells net carries is =
      record { few = counted_few p few; spells = spells; faithful = reset_faithful ends plain_ends resets p is net carries }
  reset_text resets (Err e) few spells net carries is = tt

module _ (p : TypedProgram) where
  pub copied_over : (r : Result (List ℕ) NetError) → IfErr r (IfTooMany (λ count. count ≡ node_count p)) → IfErr r (IfTooMany (λ count. 65536 < nodes_of p))
      → IfErr r (IfTooMany (IsOver (copies_of p)))
  copied_over (Ok s) is many = tt
  copied_over (Err (TooManyNodes count)) is many = record { is = is; many = counted_many p many }
  copied_over (Err (NoMemory e)) is many = tt

module _ {program : ProgramTree} {p : TypedProgram} (h : AreInlined program p) where
  pub shared_text : SharedNetsAreFaithful → (reset : Bool) (net : NetValue) (s : List ℕ)
      → net ≡ (if reset then reset_of (call_net (shared_of h) (call_names (shared_of h))) else call_net (shared_of h) (call_names (shared_of h)))
      → call_count (shared_of h) ≤ 65536 → nodes_of p ≤ 65536 → NetText s net → IsSharedText reset program p s
  shared_text law false net s same few copies spells =
      (h, record { few = shared_few h few copies; spells = spells ∙ ap spelling same; faithful = law false program p h few })
  shared_text law true net s same few copies spells =
      (h, record { few = shared_few h few copies; spells = spells ∙ ap spelling same; faithful = law true program p h few })

  pub shared_over : (e : NetError) → IfTooMany (λ count. (k : AreInlined program p) → count ≡ max (capped (call_count (shared_of k))) (node_count p)) e
      → IfTooMany (λ count. (k : AreInlined program p) → (65536 < call_count (shared_of k)) ⊎ (65536 < nodes_of p)) e
      → IfTooMany (IsSharedOver program p) e
  shared_over (TooManyNodes count) is many = (h, record { is = is h; many = shared_many h (many h) })
  shared_over (NoMemory e) is many = tt
