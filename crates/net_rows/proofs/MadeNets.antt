-- No net that is made of a program has a reset node, or a node of that name.
use Rattle.std.proofs.Common.{◌≡◌, ◌≢◌, ◌+◌, refl, sym, subst}
use Rattle.std.specs.Prelude.{Result, Ok, Err, IfOk, All, None, codes}
use Rattle.chp_syntax.specs.Trees.{ProgramTree}
use Rattle.prs_core.specs.Nets.{NetValue}
use Rattle.width_check.specs.Processes.{TypedProgram}
use Rattle.net_compose.specs.Translation.{translation}
use Rattle.net_compose.proofs.NamesFree.{names_free, some_names_free}
use Rattle.call_map.specs.Calling.{called_size}
use Rattle.call_map.specs.CallNet.{inlined_program, procs_size, call_names, call_net}
use Rattle.call_compose.specs.Inlined.{AreInlined}
use Rattle.call_compose.specs.Placing.{shared_of}

abbrev HasNoReset : NetValue → Type 0
HasNoReset net = net.reset ≡ None

abbrev NoneIsReset : NetValue → Type 0
NoneIsReset net = All (λ name. name ≢ codes "reset") net.names

module _ {E : Type 0} (p : TypedProgram) where
  pub made_plain : (r : Result NetValue E) → IfOk r (λ net. net ≡ translation p) → IfOk r HasNoReset
  made_plain (Ok net) is = subst HasNoReset (sym is) refl
  made_plain (Err e) is = tt

  pub made_free : (r : Result NetValue E) → IfOk r (λ net. net ≡ translation p) → IfOk r NoneIsReset
  made_free (Ok net) is = subst NoneIsReset (sym is) (names_free p)
  made_free (Err e) is = tt

module _ {E : Type 0} {program : ProgramTree} {p : TypedProgram} (h : AreInlined program p) where
  pub shared_plain : (r : Result NetValue E) → IfOk r (λ net. (k : AreInlined program p) → net ≡ call_net (shared_of k) (call_names (shared_of k)))
      → IfOk r HasNoReset
  shared_plain (Ok net) is = subst HasNoReset (sym (is h)) refl
  shared_plain (Err e) is = tt

  pub shared_free : (r : Result NetValue E) → IfOk r (λ net. (k : AreInlined program p) → net ≡ call_net (shared_of k) (call_names (shared_of k)))
      → IfOk r NoneIsReset
  shared_free (Ok net) is =
      let C = shared_of h in
      let P = inlined_program C in
      subst NoneIsReset (sym (is h)) (some_names_free P (procs_size P C.procs + (2 + called_size C.procs P C.body)))
  shared_free (Err e) is = tt
