-- A rule file that `compile` wrote for a program is that of the program laid out differently.
use Rattle.std.proofs.Common.{◌≡◌, ◌≤◌, ℕ, ◌<◌, ◌⊎◌, Bool, true, false, List, [], ◌∷◌, ◌++◌, map, length, refl, sym, ap, ◌∙◌, subst, inl, inr, arith}
use Rattle.std.specs.Prelude.{Option, None, Some, max, Contains}
use Rattle.std.proofs.lemmas.Bool.{cases_lt}
use Rattle.chp_syntax.specs.declared.tree.Ident.{Ident}
use Rattle.chp_syntax.specs.declared.tree.Decl.{Decl}
use Rattle.chp_syntax.specs.Reading.{Reads}
use Rattle.chp_syntax.specs.Shape.{IsShaped}
use Rattle.chp_syntax.specs.Trees.{ProgramTree}
use Rattle.prs_file.specs.Spelling.{NetText}
use Rattle.reset_net.specs.Resets.{reset_of}
use Rattle.width_check.specs.Accepted.{IsAccepted}
use Rattle.width_check.specs.Calls.{IsCallFree}
use Rattle.width_check.specs.Form.{typed_form}
use Rattle.width_check.specs.Processes.{TypedProgram}
use Rattle.handshake_expand.specs.Layout.{capped, node_count}
use Rattle.call_merge.specs.CallSplits.{own_name, IsLeastFree, own_var, AreOwnVars, all_names, all_own_readers}
use Rattle.call_map.specs.CallNet.{call_count}
use Rattle.call_compose.specs.Inlined.{AreInlined}
use Rattle.call_compose.specs.CalledForm.{call_program}
use Rattle.command_answers.specs.Answers.{Given}
use Rattle.command_steps.specs.BufferSteps.{IsBuffered}
use Rattle.command_steps.specs.Inlined.{Means, as_it_is, with_calls}
use Rattle.command_steps.specs.Steps.{most_of_nodes, most_of_text}
use Rattle.command_words.specs.CompileWords.{AskedCompilation}
use Rattle.program_commands.specs.Bodies.{Bodies, copied, shared, net_with, net_for, counted_with, HasBodies, as_copies, as_shared}
use Rattle.program_commands.specs.Compiling.{IsFaithfulFile}
use Rattle.chp_cli.specs.Unplaced.{unplaced_decl, AreLaidOutAlike}
use Rattle.chp_cli.specs.LaidOut.{HoldsLaidOut, MeansAlike, AreOfOneProgram, LaidOutsAreCompared}
use Rattle.chp_cli.proofs.SameForms.{formed_alike}
use Rattle.chp_cli.proofs.SameInlined.{inlined_alike}
use Rattle.chp_cli.proofs.SameMeant.{call_free_alike, accepted_alike, calling_alike, few_forms_alike}
use Rattle.chp_cli.proofs.SameNets.{one_net, one_count}
use Rattle.chp_cli.proofs.SameShared.{programs_alike, one_call_net, one_call_count}

pub means_alike : (p q : ProgramTree) → AreLaidOutAlike p q → (plain : ProgramTree) → Means p plain → MeansAlike q plain
means_alike p q alike _ (as_it_is free) = record { other = q; means = as_it_is (call_free_alike p q alike free); alike = alike }
means_alike p q alike plain (with_calls busy meets inlined few) =
    let i = inlined_alike p q alike plain inlined in
    record {
      other = i.tree;
      means = with_calls (λ free. busy (call_free_alike q p (sym alike) free)) (calling_alike p q alike meets) i.inlined
          (few_forms_alike plain i.tree i.alike few);
      alike = i.alike;
    }

-- the own variables of a program are determined

least_same : (taken : List (List ℕ)) (m n : List ℕ) → IsLeastFree taken m → IsLeastFree taken n → m ≡ n
least_same taken m n a b = a.is ∙ (ap own_name (by (cases_lt a.number b.number) (cases_lt b.number a.number)) ∙ sym b.is)
  where
    by : (a.number < b.number) ⊎ (b.number ≤ a.number) → (b.number < a.number) ⊎ (a.number ≤ b.number) → a.number ≡ b.number
    by (inl less) other = absurd (a.free (subst (Contains taken) (sym a.is) (b.least a.number less)))
    by (inr most) (inl less) = absurd (b.free (subst (Contains taken) (sym b.is) (a.least b.number less)))
    by (inr most) (inr least) = omega (arith, most, least)

own_vars_same : (ds : List Decl) (taken : List (List ℕ)) (xs : List Ident) (vs ws : List Decl) → AreOwnVars ds taken xs vs → AreOwnVars ds taken xs ws → vs ≡ ws
own_vars_same ds taken [] [] [] a b = refl
own_vars_same ds taken [] [] (w ∷ ws) a b = absurd b
own_vars_same ds taken [] (v ∷ vs) ws a b = absurd a
own_vars_same ds taken (x ∷ xs) [] ws a b = absurd a
own_vars_same ds taken (x ∷ xs) (v ∷ vs) [] a b = absurd b
own_vars_same ds taken (x ∷ xs) (v ∷ vs) (w ∷ ws) a b =
    let name : v.name.name ≡ w.name.name = least_same taken v.name.name w.name.name a.0 b.0 in
    let first : v ≡ w = a.1 ∙ (ap (λ h. own_var ds h x) name ∙ sym b.1) in
    let rest : vs ≡ ws =
    own_vars_same ds (taken ++ v.name.name ∷ []) xs vs ws a.2 (subst (λ h. AreOwnVars ds (taken ++ h ∷ []) xs ws) (sym name) b.2) in
    ap (λ l. v ∷ l) rest ∙ ap (λ d. d ∷ ws) first

-- nets with a reset node or without

net_same : (reset : Bool) {p q : TypedProgram} (a : Bodies p) (b : Bodies q) → net_with a ≡ net_with b → net_for reset a ≡ net_for reset b
net_same false a b same = same
net_same true a b same = ap reset_of same

-- how the net was made that is written for a program without a buffer
record BodiesOf (reset : Bool) (written : List ℕ) (program made : ProgramTree) : Type 0 where
  pub bodies : Bodies (typed_form made)
  pub has : HasBodies program None bodies
  pub few : counted_with bodies ≤ most_of_nodes
  pub spells : NetText written (net_for reset bodies)

bodies_of : (reset : Bool) (written : List ℕ) (program plain made : ProgramTree) (buffer : Option (List ℕ)) → buffer ≡ None → IsBuffered plain buffer made
    → (bodies : Bodies (typed_form made)) → HasBodies program buffer bodies → counted_with bodies ≤ most_of_nodes → NetText written (net_for reset bodies)
    → BodiesOf reset written program plain
bodies_of reset written program plain made None none same bodies has few spells =
    subst (BodiesOf reset written program) same (record { bodies = bodies; has = has; few = few; spells = spells })
bodies_of reset written program plain made (Some chan) none puts bodies has few spells = absurd (cc none)

-- a text of this program in the one file, and the rule file of its net in the other one

record Remade {p : TypedProgram} (bodies : Bodies p) (q : TypedProgram) : Type 0 where
  pub those : Bodies q
  pub net : net_with bodies ≡ net_with those
  pub count : counted_with bodies ≡ counted_with those

-- what a text means has the shape of the grammar
abbrev Shaped : Type 0
Shaped = (text : List ℕ) (program plain : ProgramTree) → Reads text program → length text ≤ most_of_text → Means program plain → IsShaped plain

remade_copies : (plain other : ProgramTree) → AreLaidOutAlike plain other → Remade {p = typed_form plain} copied (typed_form other)
remade_copies plain other alike =
    let same = formed_alike plain other alike in
    record {
      those = copied;
      net = one_net (typed_form plain) (typed_form other) same;
      count = ap capped (one_count (typed_form plain) (typed_form other) same);
    }

remade_shared : Shaped → (p q : ProgramTree) (alike : AreLaidOutAlike p q) (plain : ProgramTree) (text : List ℕ) → Reads text q → length text ≤ most_of_text
    → IsAccepted plain → (h : AreInlined p (typed_form plain)) → ¬ IsCallFree p → (means : Means p plain)
    → Remade {p = typed_form plain} (shared h) (typed_form (means_alike p q alike plain means).other)
unfolding means_alike
remade_shared shaped p q alike _ text reads short accepted h busy (as_it_is free) = absurd (busy free)
remade_shared shaped p q alike plain text reads short accepted h busy (with_calls calls meets inlined few) =
    let m = means_alike p q alike plain (with_calls calls meets inlined few) in
    let i = inlined_alike p q alike plain inlined in
    let k : AreInlined q (typed_form i.tree) = record {
      tree = i.tree;
      inlined = i.inlined;
      meets = calling_alike p q alike h.meets;
      shaped = shaped text q i.tree reads short m.means;
      accepted = accepted_alike plain i.tree i.alike accepted;
      typed = refl;
    } in
    let vars = own_vars_same p.decls (all_names p) (all_own_readers p) h.inlined.vars inlined.vars h.inlined.own inlined.own in
    let same = programs_alike p q alike h.inlined.vars i.inlined.vars (ap (map unplaced_decl) vars ∙ i.same) in
    let C = call_program p h.inlined.vars in
    let D = call_program q i.inlined.vars in
    let nodes = ap capped (one_count (typed_form plain) (typed_form i.tree) (formed_alike plain i.tree i.alike)) in
    record {
      those = shared k;
      net = one_call_net C D same;
      count = ap (λ n. max (capped n) (node_count (typed_form plain))) (one_call_count C D same) ∙ ap (max (capped (call_count D))) nodes;
    }

remade : Shaped → (p q : ProgramTree) (alike : AreLaidOutAlike p q) (plain : ProgramTree) (text : List ℕ) → Reads text q → length text ≤ most_of_text
    → IsAccepted plain → (bodies : Bodies (typed_form plain)) → HasBodies p None bodies → (means : Means p plain)
    → Remade bodies (typed_form (means_alike p q alike plain means).other)
remade shaped p q alike plain text reads short accepted _ (as_copies free) means =
    let m = means_alike p q alike plain means in
    remade_copies plain m.other m.alike
remade shaped p q alike plain text reads short accepted _ (as_shared busy h) means = remade_shared shaped p q alike plain text reads short accepted h busy means

module _ (shaped : Shaped) where
  compare_from : (c : AskedCompilation) (given more : Given) (net text written : List ℕ) (is : IsFaithfulFile c given written)
      → (laid : HoldsLaidOut more text is.file.program) → more.files net ≡ Some written → (bodies : Bodies (typed_form is.file.plain))
      → HasBodies is.file.program None bodies → counted_with bodies ≤ most_of_nodes → NetText written (net_for c.reset bodies) → AreOfOneProgram more net text
  compare_from c given more net text written is laid held bodies has few spells =
      let p = is.file.program in
      let plain = is.file.plain in
      let m = means_alike p laid.tree laid.alike plain is.file.means in
      let r = remade shaped p laid.tree laid.alike plain laid.text laid.read.reads laid.short is.file.accepted bodies has is.file.means in
      let good = accepted_alike plain m.other m.alike is.file.accepted in
      record {
        program = typed_form m.other;
        compiled = record {
          reset = c.reset;
          text = written;
          program = m.other;
          bodies = r.those;
          held = held;
          shaped = shaped laid.text laid.tree m.other laid.read.reads laid.short m.means;
          accepted = good;
          form = refl;
          few = subst (λ (n : ℕ). n ≤ most_of_nodes) r.count few;
          spells = subst (NetText written) (net_same c.reset bodies r.those r.net) spells;
        };
        referred = record {
          text = laid.text;
          gives = laid.gives;
          short = laid.short;
          is = record { tree = laid.tree; read = laid.read; is = record { plain = m.other; means = m.means; accepted = good; form = refl } };
        };
      }

  pub laid_outs_compared : LaidOutsAreCompared
  laid_outs_compared c given more net text written is none held laid =
      let b = bodies_of c.reset written is.file.program is.file.plain is.file.made c.buffer none is.file.buffered is.file.bodies is.file.has is.file.few
      is.file.spells in
      compare_from c given more net text written is laid held b.bodies b.has b.few b.spells
