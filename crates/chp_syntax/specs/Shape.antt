-- The shape that the grammar gives to programs: how many members each group has, and what names are names of.
use Rattle.std.specs.Prelude.{◌≡◌, ◌≢◌, ℕ, suc, ◌≤◌, ◌||◌, Bool, true, false, All}
use Rattle.chp_base.specs.Names.{IsName}
use Rattle.chp_syntax.specs.declared.tree.Decl.{Decl}
use Rattle.chp_syntax.specs.declared.tree.DeclKind.TheVariants.{Var}
use Rattle.chp_syntax.specs.declared.tree.Op.{Op}
use Rattle.chp_syntax.specs.declared.tree.Op.TheVariants.{And, Or, Xor, Add, Sub}
use Rattle.chp_syntax.specs.Trees.{Expression, join, negation, chain, Expressions, no_parts, and_part, Links, no_links, and_link, Statement, assigns, sends, follows, besides, selects, repeats, Statements, no_members, and_member, Arms, no_arms, and_arm, Procedure, ProgramTree}
use Rattle.chp_syntax.specs.Reading.{arm_count}

abbrev pub is_comparison : Op → Bool
is_comparison And = false
is_comparison Or = false
is_comparison Xor = false
is_comparison Add = false
is_comparison Sub = false
is_comparison _ = true

-- whether one of the links compares
abbrev pub some_compares : Links → Bool
some_compares no_links = false
some_compares (and_link op e more) = is_comparison op || some_compares more

abbrev pub expression_count : Expressions → ℕ
expression_count no_parts = 0
expression_count (and_part e more) = suc (expression_count more)

abbrev pub link_count : Links → ℕ
link_count no_links = 0
link_count (and_link op e more) = suc (link_count more)

abbrev pub statement_count : Statements → ℕ
statement_count no_members = 0
statement_count (and_member s more) = suc (statement_count more)

-- a join has a part, a chain has a link, and a link that compares is the only one
abbrev mutual
  pub IsShapedExpression : Expression → Type 0
  IsShapedExpression (join parts at) = (1 ≤ expression_count parts) × AreShapedParts parts
  IsShapedExpression (negation e at) = IsShapedExpression e
  IsShapedExpression (chain e more at) = (1 ≤ link_count more) × (some_compares more ≡ true → link_count more ≡ 1)
      × IsShapedExpression e × AreShapedLinks more
  IsShapedExpression _ = Unit {0}

  pub AreShapedParts : Expressions → Type 0
  AreShapedParts no_parts = Unit {0}
  AreShapedParts (and_part e more) = IsShapedExpression e × AreShapedParts more

  pub AreShapedLinks : Links → Type 0
  AreShapedLinks no_links = Unit {0}
  AreShapedLinks (and_link op e more) = IsShapedExpression e × AreShapedLinks more

-- a sequence and a parallel composition have two members or more, a selection has 1 to 16 arms
abbrev mutual
  pub IsShapedStatement : Statement → Type 0
  IsShapedStatement (assigns target e) = IsShapedExpression e
  IsShapedStatement (sends chan e) = IsShapedExpression e
  IsShapedStatement (follows members) = (2 ≤ statement_count members) × AreShapedMembers members
  IsShapedStatement (besides members) = (2 ≤ statement_count members) × AreShapedMembers members
  IsShapedStatement (selects again arms) = (1 ≤ arm_count arms) × (arm_count arms ≤ 16) × AreShapedArms arms
  IsShapedStatement (repeats s) = IsShapedStatement s
  IsShapedStatement _ = Unit {0}

  pub AreShapedMembers : Statements → Type 0
  AreShapedMembers no_members = Unit {0}
  AreShapedMembers (and_member s more) = IsShapedStatement s × AreShapedMembers more

  pub AreShapedArms : Arms → Type 0
  AreShapedArms no_arms = Unit {0}
  AreShapedArms (and_arm g s more) = IsShapedExpression g × IsShapedStatement s × AreShapedArms more

-- the declared name is a name, and only a variable has a first value of its own
pub record IsShapedDecl (d : Decl) : Type 0 where
  pub name : IsName d.name.name
  pub first : d.kind ≢ Var → d.first ≡ 0
  pub first_at : d.kind ≢ Var → d.first_at ≡ d.width_at

pub record IsShapedProcedure (p : Procedure) : Type 0 where
  pub name : IsName p.name.name
  pub body : IsShapedStatement p.body

-- the shape of the grammar at every depth
pub record IsShaped (p : ProgramTree) : Type 0 where
  pub decls : All IsShapedDecl p.decls
  pub procs : All IsShapedProcedure p.procs
  pub body : IsShapedStatement p.body
