-- A program before its first step.
use Rattle.std.proofs.Common.{◌≡◌, ℕ, suc, false, List, [], ◌∷◌, length, map, replicate, refl, sym, ap, ◌∙◌, subst, arith}
use Rattle.std.specs.Prelude.{None, Result, Ok, Err, IfOk}
use Rattle.std.proofs.lemmas.List.{length-map, length-replicate}
use Rattle.chp_base.specs.declared.channel.Channel.{Channel}
use Rattle.env_script.specs.Scripts.{OfferValue, IsScript}
use Rattle.width_check.specs.declared.typed.Var.{Var}
use Rattle.width_check.specs.Processes.{Process, skipping, assigning, sending, receiving, in_turn, side_by_side, choosing, repeating, Processes, no_members, and_member, Choices, no_choices, and_choice}
use Rattle.width_check.specs.Typed.{TypedValue, program_of}
use Rattle.width_check.specs.Typing.{IsProcess, AreProcesses, AreChoices}
use Rattle.width_check.specs.View.{process_of}
use Rattle.chp_meaning.specs.declared.config.Config.{Config}
use Rattle.chp_meaning.specs.Terms.{opened}
use Rattle.chp_meaning.specs.Steps.{Configuration, no_step, start_of}
use Rattle.chp_meaning.specs.Remaining.{remains_of, term_of, begun, IsRunnable, AreRunnable, ChoicesRunnable}
use Rattle.chp_meaning.specs.Standing.{offer_of_rest, items_of, configuration_of, IsStanding}
use Rattle.chp_meaning.specs.Ends.{seen, IsReached, IsOf}
use Rattle.chp_meaning.proofs.Remainders.{begins}
use Rattle.chp_meaning.proofs.RoundAnswers.{reached_channels}

mutual
  pub process_runs : (channels : List Channel) (vars : List Var) (p : Process) → IsProcess channels vars p → IsRunnable (length channels) (length vars) p
  process_runs channels vars skipping r = tt
  process_runs channels vars (assigning x s e) r = (r.0, r.1.formed)
  process_runs channels vars (sending k s e) r = (r.within, r.sent.formed)
  process_runs channels vars (receiving k s x t) r = (r.within, r.target)
  process_runs channels vars (in_turn members) r = (omega (arith, r.0), processes_run channels vars members r.1)
  process_runs channels vars (side_by_side members) r = (omega (arith, r.0), processes_run channels vars members r.1)
  process_runs channels vars (choosing again choices) r = choices_run channels vars choices r.2
  process_runs channels vars (repeating p) r = process_runs channels vars p r

  processes_run : (channels : List Channel) (vars : List Var) (members : Processes) → AreProcesses channels vars members →
      AreRunnable (length channels) (length vars) members
  processes_run channels vars no_members r = tt
  processes_run channels vars (and_member p more) r = (process_runs channels vars p r.0, processes_run channels vars more r.1)

  choices_run : (channels : List Channel) (vars : List Var) (choices : Choices) → AreChoices channels vars choices →
      ChoicesRunnable (length channels) (length vars) choices
  choices_run channels vars no_choices r = tt
  choices_run channels vars (and_choice g p more) r = (r.0.formed, process_runs channels vars p r.1, choices_run channels vars more r.2)

pub script_length : (channels : List Channel) (script : List OfferValue) → IsScript channels script → length script ≡ length channels
script_length [] [] h = refl
script_length [] (o ∷ os) h = absurd h
script_length (c ∷ cs) [] h = absurd h
script_length (c ∷ cs) (o ∷ os) h = ap suc (script_length cs os h.1)

-- the parts of a configuration before the first step
pub record IsFirst (body : Process) (channels : ℕ) (script : List OfferValue) (c : Config) : Type 0 where
  pub runnable : IsRunnable channels (length c.store.items) body
  pub left_is : remains_of c.left ≡ begun body
  pub rests : map offer_of_rest c.rests.items ≡ script
  pub histories : items_of c.histories.items ≡ replicate channels []
  pub sends : c.sends.items ≡ replicate channels false
  pub receives : c.receives.items ≡ replicate channels None

pub first_stands : (body : Process) (channels : ℕ) (script : List OfferValue) (c : Config) → IsFirst body channels script c → length script ≡ channels →
    IsStanding body c
first_stands body channels script c f fits =
    let n : channels ≡ length c.rests.items = sym fits ∙ (ap (λ (xs : List OfferValue). length xs) (sym f.rests) ∙ length-map c.rests.items offer_of_rest) in
    let none : List ℕ = [] in
    let h : length c.histories.items ≡ channels = sym (length-map c.histories.items (λ x. x.items))
    ∙ (ap (λ (xs : List (List ℕ)). length xs) f.histories ∙ length-replicate channels none) in
    record {
      runnable = subst (λ k. IsRunnable k (length c.store.items) body) n f.runnable;
      remains = rw f.left_is (begins channels (length c.store.items) body f.runnable).can;
      histories = h ∙ n;
      sends = f.sends ∙ ap (λ k. replicate k false) n;
      receives = f.receives ∙ ap (λ k. replicate k None) n;
    }

pub first_is : (body : Process) (channels : ℕ) (script : List OfferValue) (c : Config) → IsFirst body channels script c →
    configuration_of body c ≡ record { term = opened body; store = c.store.items; rests = script; histories = replicate channels [] }
first_is body channels script c f =
    let t : term_of body (remains_of c.left) ≡ opened body = ap (term_of body) f.left_is ∙ (begins channels (length c.store.items) body f.runnable).term in
    λ i. record { term = t i; store = c.store.items; rests = f.rests i; histories = f.histories i }

pub begins_of : (t : TypedValue) (script : List OfferValue) (c : Config) → IsScript t.channels script → IsStanding (process_of t.body) c →
    seen t c ≡ start_of (program_of t) script → IsOf t c
begins_of t script c fits standing is =
    let there : IsReached t (seen t c) = (script, 0, fits, rw is no_step) in
    record { standing = standing; reached = there; channels = reached_channels t (seen t c) there }

-- what was begun is the program's start
abbrev pub first_of : TypedValue → List ℕ → List OfferValue → ℕ → Configuration
first_of t store script channels = record { term = opened (process_of t.body); store = store; rests = script; histories = replicate channels [] }

pub all_begun : {E : Type 0} (t : TypedValue) (script : List OfferValue) (store : List ℕ) (n : ℕ) (r : Result Config E) → IsScript t.channels script →
    store ≡ map (λ (v : Var). v.first) t.vars → n ≡ length t.channels
    → IfOk r (λ c. IsStanding (process_of t.body) c) → IfOk r (λ c. configuration_of (process_of t.body) c ≡ first_of t store script n) → IfOk r (λ c. IsOf t c)
all_begun t script store n (Err e) fits first count standing is = tt
all_begun t script store n (Ok c) fits first count standing is =
    begins_of t script c fits standing (is ∙ (ap (λ xs. first_of t xs script n) first ∙ ap (first_of t (map (λ (v : Var). v.first) t.vars) script) count))

pub program_runs : (t : TypedValue) (n m : ℕ) → IsProcess t.channels t.vars (process_of t.body) → n ≡ length t.channels → m ≡ length t.vars →
    IsRunnable n m (process_of t.body)
program_runs t n m is e f = subst (λ k. IsRunnable k m (process_of t.body)) (sym e)
    (subst (λ k. IsRunnable (length t.channels) k (process_of t.body)) (sym f) (process_runs t.channels t.vars (process_of t.body) is))
