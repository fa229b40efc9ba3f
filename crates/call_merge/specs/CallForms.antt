-- How many statements and expressions a tree is made of.
use Rattle.std.specs.Prelude.{ℕ, ◌+◌, ◌-◌, ◌^◌, min}
use Rattle.chp_syntax.specs.Trees.{Expression, join, negation, chain, Expressions, no_parts, and_part, Links, no_links, and_link, Statement, assigns, sends, follows, besides, selects, repeats, Statements, no_members, and_member, Arms, no_arms, and_arm}

abbrev mutual
  pub expression_forms : Expression → ℕ
  expression_forms (join parts at) = 1 + forms_of_parts parts
  expression_forms (negation e at) = 1 + expression_forms e
  expression_forms (chain e more at) = 1 + expression_forms e + forms_of_links more
  expression_forms _ = 1

  pub forms_of_parts : Expressions → ℕ
  forms_of_parts no_parts = 0
  forms_of_parts (and_part e more) = expression_forms e + forms_of_parts more

  pub forms_of_links : Links → ℕ
  forms_of_links no_links = 0
  forms_of_links (and_link op e more) = expression_forms e + forms_of_links more

abbrev mutual
  pub statement_forms : Statement → ℕ
  statement_forms (assigns target e) = 1 + expression_forms e
  statement_forms (sends chan e) = 1 + expression_forms e
  statement_forms (follows members) = 1 + forms_of_members members
  statement_forms (besides members) = 1 + forms_of_members members
  statement_forms (selects again arms) = 1 + forms_of_arms arms
  statement_forms (repeats s) = 1 + statement_forms s
  statement_forms _ = 1

  pub forms_of_members : Statements → ℕ
  forms_of_members no_members = 0
  forms_of_members (and_member s more) = statement_forms s + forms_of_members more

  pub forms_of_arms : Arms → ℕ
  forms_of_arms no_arms = 0
  forms_of_arms (and_arm g s more) = expression_forms g + statement_forms s + forms_of_arms more

-- a number of forms over 2^64 - 1 counts as 2^64 - 1
abbrev pub capped_forms : ℕ → ℕ
capped_forms n = min n (2 ^ 64 - 1)

abbrev pub most_forms : ℕ
most_forms = 1048576

-- so many variables at most are declared for the assignments that are split: each of these has five forms
abbrev pub most_own_vars : ℕ
most_own_vars = 209715
