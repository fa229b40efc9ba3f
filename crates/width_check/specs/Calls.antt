-- Programs with neither procedures nor calls.
use Rattle.std.specs.Prelude.{◌≡◌, ◌||◌, Bool, true, false, []}
use Rattle.chp_syntax.specs.Trees.{Statement, follows, besides, selects, repeats, calls, Statements, no_members, and_member, Arms, no_arms, and_arm, ProgramTree}

-- whether a statement contains a call
abbrev mutual
  pub has_call : Statement → Bool
  has_call (follows members) = some_has_call members
  has_call (besides members) = some_has_call members
  has_call (selects again arms) = arm_has_call arms
  has_call (repeats s) = has_call s
  has_call (calls of) = true
  has_call _ = false

  pub some_has_call : Statements → Bool
  some_has_call no_members = false
  some_has_call (and_member s more) = has_call s || some_has_call more

  pub arm_has_call : Arms → Bool
  arm_has_call no_arms = false
  arm_has_call (and_arm g s more) = has_call s || arm_has_call more

pub record IsCallFree (p : ProgramTree) : Type 0 where
  pub procs : p.procs ≡ []
  pub body : has_call p.body ≡ false
