-- The run of a net that carries a program, compared with that program.
use Rattle.std.proofs.Common.{◌≡◌, ◌∙◌, ℕ, zero, suc, ◌+◌, ◌<◌, ◌≤◌, ◌++◌, Bool, true, false, ◌-◌, List, [], ◌∷◌, length, Option, Some, None, inl, inr, ◌⊎◌, refl, sym, ap, subst, arith, append_assoc, append-nil}
use Rattle.std.proofs.lemmas.List.{length-map}
use Rattle.std.specs.Prelude.{IsSome}
use Rattle.chp_base.specs.declared.channel.Channel.{Channel}
use Rattle.chp_syntax.specs.Reading.{Reads}
use Rattle.chp_syntax.specs.Trees.{ProgramTree}
use Rattle.prs_core.specs.declared.wires.Wires.{Wires}
use Rattle.prs_core.specs.Nets.{NetValue, IsNet}
use Rattle.env_script.specs.Environment.{net_channels, is_reset}
use Rattle.env_script.specs.Scripts.{OfferValue, IsScript}
use Rattle.env_script.specs.Runs.{IsRun, IsPowered, after, begin_at, history_at, moves_since_reset}
use Rattle.event_sim.specs.Following.{power_of}
use Rattle.event_sim.specs.Passing.{passed_in, values_through}
use Rattle.event_sim.specs.Simulating.{RanValue, picked_moves, start_at}
use Rattle.event_sim.proofs.Following.{picked_run}
use Rattle.net_compose.specs.Carries.{Carries, CarriesReset, IsFollowing}
use Rattle.chp_meaning.specs.Laws.{IsBehind, RoundsHold}
use Rattle.chp_meaning.specs.Rounds.{rounds}
use Rattle.history_report.specs.declared.comparison.Against.{Against}
use Rattle.history_report.specs.declared.comparison.Against.TheVariants.{Agrees}
use Rattle.history_report.specs.Comparing.{IsAgainst}
use Rattle.prs_file.specs.Spelling.{NetText}
use Rattle.width_check.specs.Form.{typed_form}
use Rattle.width_check.specs.Processes.{TypedProgram}
use Rattle.width_check.specs.Sharing.{MeetsSharing}
use Rattle.command_answers.specs.declared.answer.Ending.{Ending}
use Rattle.command_answers.specs.declared.answer.Ending.TheVariants.{Done}
use Rattle.command_answers.specs.Answers.{Given, writes}
use Rattle.command_steps.specs.HeldPrograms.{HoldsProgram}
use Rattle.command_steps.specs.Inlined.{Means}
use Rattle.command_steps.specs.Orders.{Played}
use Rattle.command_steps.specs.References.{HoldsReference, IsReferredTo}
use Rattle.run_reports.specs.RunReporting.{IsReported, alone, hazardous, compared, ending_against, ending_for}
use Rattle.chp_cli.specs.Simulated.{HoldsCarrying, IsFileSimulated}
use Rattle.command_words.specs.SimulateWords.{AskedRun}
use Rattle.simulation_commands.specs.Simulating.{simulation_for}
use Rattle.command_steps.proofs.OneAnswers.{same_text}
use Rattle.command_steps.proofs.OneMeaning.{means_once}

-- ---- further rounds

module _ (p : TypedProgram) (script : List OfferValue) (hold : RoundsHold p script) where
  abbrev Longer : ℕ → ℕ → ℕ → Type 0
  Longer k i j = (rest : List ℕ) × (history_at (rounds p script j).histories k ≡ history_at (rounds p script i).histories k ++ rest)

  one_more : (k i j l : ℕ) → Longer k i j → Longer k j l → Longer k i l
  one_more k i j l one two =
      (one.0 ++ two.0, two.1 ∙ (ap (λ xs. xs ++ two.0) one.1 ∙ append_assoc (history_at (rounds p script i).histories k) one.0 two.0))

  rounds_behind : (n more : ℕ) → IsBehind (rounds p script n) (rounds p script (n + more))
  rounds_behind n zero = let e : n ≡ n + 0 = omega arith in
      subst (λ j. IsBehind (rounds p script n) (rounds p script j)) e (λ k. ([], sym (append-nil (history_at (rounds p script n).histories k))))
  rounds_behind n (suc more) =
      let e : suc (n + more) ≡ n + suc more = omega arith in
      subst (λ j. IsBehind (rounds p script n) (rounds p script j)) e
      (λ k. one_more k n (n + more) (suc (n + more)) (rounds_behind n more k) ((hold (n + more)).2 k))

pub since_few : (reset : Option ℕ) (ns : List ℕ) → moves_since_reset reset ns ≤ length ns
since_few reset [] = omega arith
since_few reset (n ∷ ns) = go (is_reset reset n) refl (since_few reset ns)
  where
    go : (b : Bool) → is_reset reset n ≡ b → moves_since_reset reset ns ≤ length ns → moves_since_reset reset (n ∷ ns) ≤ length (n ∷ ns)
    go true e few = rw e (omega arith)
    go false e few = rw e (omega arith)

-- ---- what has passed in the run is a front of what passes in as many rounds

module _ (hold : (p : TypedProgram) (script : List OfferValue) → MeetsSharing p.body → RoundsHold p script)
    (powered : (net : NetValue) (high : Bool) → IsNet net → IsSome net.reset → IsPowered net (power_of net high)) where
  pub follows : (n : NetValue) (p : TypedProgram) (script : List OfferValue) (high : Bool) → IsNet n → MeetsSharing p.body → IsScript (net_channels n) script →
      ((n.reset ≡ None) × Carries n p) ⊎ CarriesReset n p → (ns : List ℕ) → IsRun n script (begin_at n (power_of n high)) ns →
      IsFollowing (after n (begin_at n (power_of n high)) ns) (rounds p script (length ns))
  follows n p script high net sharing suits (inl c) ns run =
      let low : power_of n high ≡ n.first = first_values n high c.0 in
      let fits : IsScript p.channels script = subst (λ cs. IsScript cs script) c.1.channels suits in
      subst (λ v. IsFollowing (after n (begin_at n v) ns) (rounds p script (length ns))) (sym low)
      (c.1.runs script fits ns (subst (λ v. IsRun n script (begin_at n v) ns) low run)).prefix
    where
      first_values : (n : NetValue) (high : Bool) → n.reset ≡ None → power_of n high ≡ n.first
      first_values n high none = rw none refl
  follows n p script high net sharing suits (inr c) ns run = λ k.
      let fits : IsScript p.channels script = subst (λ cs. IsScript cs script) c.channels suits in
      let since = moves_since_reset n.reset ns in
      let few : since ≤ length ns = since_few n.reset ns in
      let all : since + (length ns - since) ≡ length ns = omega (arith, few) in
      let one = (c.runs script fits (power_of n high) (powered n high net (subst (λ (o : Option ℕ). IsSome o) (sym c.reset.1) refl)) ns run).0.prefix k in
      let more = subst (λ m. IsBehind (rounds p script since) (rounds p script m)) all
      (rounds_behind p script (hold p script sharing) since (length ns - since)) k in
      let first = history_at (after n (begin_at n (power_of n high)) ns).histories k in
      (one.0 ++ more.0, more.1 ∙ (ap (λ xs. xs ++ more.0) one.1 ∙ append_assoc first one.0 more.0))

  -- so the run agrees with the program
  module _ (passed : (net : NetValue) (values : List Bool) (ns : List ℕ) (c : ℕ) → IsNet net → c < length net.channels →
      values_through c (passed_in net (begin_at net values) ns) ≡ history_at (after net (begin_at net values) ns).histories c) where
    pub agrees : (n : NetValue) (p : TypedProgram) (script : List OfferValue) (high : Bool) → IsNet n → MeetsSharing p.body → IsScript (net_channels n) script →
        ((n.reset ≡ None) × Carries n p) ⊎ CarriesReset n p → (ns : List ℕ) → IsRun n script (begin_at n (power_of n high)) ns → (r : RanValue) → r.net ≡ n →
        r.moves ≡ length ns → r.passed ≡ passed_in n (begin_at n (power_of n high)) ns → IsAgainst r p script Agrees
    agrees n p script high net sharing suits carries ns run r of moves pass = (
      ap net_channels of ∙ channels carries,
      λ chan within. let follow = follows n p script high net sharing suits carries ns run chan in
          let there : chan < length n.channels = omega (
            arith,
            within,
            ap (λ (cs : List Channel). length cs) (channels carries),
            length-map n.channels (λ (w : Wires). w.channel),
          ) in
          let is : values_through chan r.passed ≡ history_at (after n (begin_at n (power_of n high)) ns).histories chan =
          ap (values_through chan) pass ∙ passed n (power_of n high) ns chan net there in
          (follow.0, ap (λ m. history_at (rounds p script m).histories chan) moves ∙ (follow.1 ∙ ap (λ xs. xs ++ follow.0) (sym is))),
    )
      where
        channels : ((n.reset ≡ None) × Carries n p) ⊎ CarriesReset n p → net_channels n ≡ p.channels
        channels (inl c) = c.1.channels
        channels (inr c) = c.channels

    -- ---- and its report ends well, if it is compared with that program

    module _ (law : (r : RanValue) (p : TypedProgram) (script : List OfferValue) (a b : Against) → IsAgainst r p script a → IsAgainst r p script b →
        a ≡ b) where
      pub reported_done : (script : List OfferValue) (time : Option ℕ) (r : RanValue) (o : Option TypedProgram) (end : Ending) (text : List ℕ) →
          IsReported script time r o (writes end text) → ending_for r.end ≡ Done → ((p : TypedProgram) → o ≡ Some p → IsAgainst r p script Agrees) → end ≡ Done
      reported_done script time r o end text alone calm agree = calm
      reported_done script time r o end text (hazardous hazard) calm agree = absurd (cc (calm, hazard))
      reported_done script time r (Some p) end text (compared x also is) calm agree =
          ap ending_against (law r p script x Agrees is (agree p refl))

      -- the program that was read is that one
      module _ (given : Given) (told : given.tells ≡ true) where
        same_program : (file : List ℕ) (p q : TypedProgram) → HoldsProgram given file p → HoldsProgram given file q → p ≡ q
        same_program file p q h i =
            let texts : i.text ≡ h.text = same_text (i.gives told) (h.gives told) in
            let trees : i.is.tree ≡ h.is.tree = h.is.read.only i.is.tree (subst (λ t. Reads t i.is.tree) texts i.is.read.reads) in
            let plains : i.is.is.plain ≡ h.is.is.plain =
            means_once i.is.is.means (subst (λ (t : ProgramTree). Means t h.is.is.plain) (sym trees) h.is.is.means) in
            h.is.is.form ∙ (sym (ap typed_form plains) ∙ sym i.is.is.form)

        pub same_reference : (file : Option (List ℕ)) (p : TypedProgram) (o : Option TypedProgram) → IsReferredTo given file p → HoldsReference given file o →
            (q : TypedProgram) → o ≡ Some q → (q ≡ p) × MeetsSharing p.body
        same_reference None p None refers holds q is = absurd (cc is)
        same_reference None p (Some r) refers holds q is = absurd holds
        same_reference (Some file) p None refers holds q is = absurd holds
        same_reference (Some file) p (Some r) refers holds q is =
            let other : q ≡ r = cc is in (
              other ∙ same_program file r p holds refers,
              subst (λ (t : TypedProgram). MeetsSharing t.body) (sym refers.is.is.form) refers.is.is.accepted.sharing,
            )

        module _ (s : AskedRun) (played : Played) (p : TypedProgram) (holds : HoldsCarrying given s.net p) (refers : IsReferredTo given s.against p) where
          pub carried_done : (end : Ending) (text : List ℕ) (f : IsFileSimulated s given played (writes end text)) → ending_for f.ran.end ≡ Done → end ≡ Done
          carried_done end text f calm =
              let same : holds.net ≡ f.net = f.file.only holds.net holds.kept (subst (λ x. NetText x holds.net) (same_text holds.held f.held) holds.spelled) in
              let carries = subst (λ n. ((n.reset ≡ None) × Carries n p) ⊎ CarriesReset n p) same holds.carries in
              let sim = simulation_for f.net f.script s.steps s.power in
              let moves = picked_moves sim f.run.was.log f.run.is.log in
              let run : IsRun f.net f.script (start_at sim) moves = picked_run f.net f.script (start_at sim) _ f.run.run.picks in
              reported_done f.script None f.ran f.program end text f.written calm
              (λ q is. let own = same_reference s.against p f.program refers f.referred q is in
              subst (λ t. IsAgainst f.ran t f.script Agrees) (sym own.0)
              (agrees f.net p f.script sim.high f.file.kept own.1 f.told_is.kept carries moves run f.ran (ap (λ (r : RanValue). r.net) f.run.led)
              (ap (λ (r : RanValue). r.moves) f.run.led) (ap (λ (r : RanValue). r.passed) f.run.led)))
