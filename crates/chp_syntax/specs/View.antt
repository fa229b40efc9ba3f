-- The plain tree of a tree in memory.
use Rattle.std.specs.Prelude.{List, [], ◌∷◌, ◌++◌, map}
use Rattle.std.specs.declared.alloc.Global.{Global}
use Rattle.std.specs.declared.vec.Vec.{Vec}
use Rattle.chp_syntax.specs.declared.tree.Expr.{Expr, Number, Whole, Slice, Bit, Join', Not', Chain', Row_of-Expr, end_of-Expr, more_of-Expr, Row_of-Link, end_of-Link, more_of-Link}
use Rattle.chp_syntax.specs.declared.tree.Link.{Link}
use Rattle.chp_syntax.specs.declared.tree.Arm.{Arm}
use Rattle.chp_syntax.specs.declared.tree.Stmt.{Stmt, Skip, Assign, Send, Receive, Then', Beside', Select', Repeat', Call, Row_of-Stmt, end_of-Stmt, more_of-Stmt, Row_of-Arm, end_of-Arm, more_of-Arm}
use Rattle.chp_syntax.specs.declared.tree.Proc.{Proc}
use Rattle.chp_syntax.specs.declared.tree.Program.{Program}
use Rattle.chp_syntax.specs.declared.tree.Op.{Op}
use Rattle.chp_syntax.specs.declared.parser.expression.Covered as C
use Rattle.chp_syntax.specs.declared.parser.expression.Tail as T
use Rattle.chp_syntax.specs.Trees.{Expression, number, whole, slice, bit, join, negation, chain, Expressions, no_parts, and_part, Links, no_links, and_link, Statement, skips, assigns, sends, receives, follows, besides, selects, repeats, calls, Statements, no_members, and_member, Arms, no_arms, and_arm, Procedure, ProgramTree}
use Rattle.chp_syntax.specs.Grammar.{Covered, cover, Tail, Guarded, guarded, Item, valued, defined}
use Rattle.chp_syntax.specs.Grammar.{Declared as Declarations_of}
use Rattle.chp_syntax.specs.declared.parser.program.Declared.{Declared}
use Rattle.chp_syntax.specs.declared.parser.program.Item as I
use Rattle.chp_syntax.specs.declared.parser.program.Item.TheVariants as item

abbrev mutual
  pub expression_of : Expr → Expression
  expression_of (Number value at) = number value at
  expression_of (Whole of) = whole of
  expression_of (Slice of high low at) = slice of high low at
  expression_of (Bit of place at) = bit of place at
  expression_of (Join' shape parts at) = join (expressions_of parts) at
  expression_of (Not' p inner at) = negation (expression_of inner) at
  expression_of (Chain' p first shape rest at) = chain (expression_of first) (links_of rest) at

  pub expressions_of : {m : _} → Row_of-Expr m → Expressions
  expressions_of end_of-Expr = no_parts
  expressions_of (more_of-Expr e rest) = and_part (expression_of e) (expressions_of rest)

  pub links_of : {m : _} → Row_of-Link m → Links
  links_of end_of-Link = no_links
  links_of (more_of-Link op right rest) = and_link op (expression_of right) (links_of rest)

abbrev mutual
  pub statement_of : Stmt → Statement
  statement_of (Skip at) = skips at
  statement_of (Assign target value) = assigns target (expression_of value)
  statement_of (Send chan value) = sends chan (expression_of value)
  statement_of (Receive chan target) = receives chan target
  statement_of (Then' shape parts) = follows (statements_of parts)
  statement_of (Beside' shape parts) = besides (statements_of parts)
  statement_of (Select' again shape arms) = selects again (arms_of arms)
  statement_of (Repeat' p body) = repeats (statement_of body)
  statement_of (Call of) = calls of

  pub statements_of : {m : _} → Row_of-Stmt m → Statements
  statements_of end_of-Stmt = no_members
  statements_of (more_of-Stmt s rest) = and_member (statement_of s) (statements_of rest)

  pub arms_of : {m : _} → Row_of-Arm m → Arms
  arms_of end_of-Arm = no_arms
  arms_of (more_of-Arm guard body rest) = and_arm (expression_of guard) (statement_of body) (arms_of rest)

abbrev pub procedure_of : Proc → Procedure
procedure_of p = record { name = p.name; body = statement_of p.body }

abbrev pub program_tree : Program → ProgramTree
program_tree p = record { decls = p.decls.items; procs = map procedure_of p.procs.items; body = statement_of p.body }

-- members before further ones
abbrev pub onto : {B U : Type 0} → (B → U → U) → List B → U → U
onto more [] us = us
onto more (b ∷ bs) us = more b (onto more bs us)

abbrev pub covered_of : C.Covered → Covered
covered_of c = cover (expression_of c.value) c.at

-- an operator and the expression after it
abbrev pub link_of : Link → Op × Expression
link_of l = (l.op, expression_of l.right)

abbrev pub and_pair : Op × Expression → Links → Links
and_pair x us = and_link x.0 x.1 us

-- operators with their right sides
abbrev pub tail_of : T.Tail → Tail
tail_of t = record { links = onto and_pair (map link_of t.links.items) no_links; last = t.last }

abbrev pub parts_of : Vec Expr Global → Expressions
parts_of v = onto and_part (map expression_of v.items) no_parts

abbrev pub guarded_of : Arm → Guarded
guarded_of a = guarded (expression_of a.guard) (statement_of a.body)

abbrev pub and_guarded : Guarded → Arms → Arms
and_guarded g bs = and_arm g.guard g.body bs

abbrev pub armed_of : Vec Arm Global → Arms
armed_of v = onto and_guarded (map guarded_of v.items) no_arms

abbrev pub item_of : I.Item → Item
item_of (item.Value d) = valued d
item_of (item.Procedure p) = defined (procedure_of p)

abbrev pub declared_of : Declared → Declarations_of
declared_of d = record { decls = d.decls.items; procs = map procedure_of d.procs.items }

-- one more declaration, after the others
abbrev pub with_item : Declarations_of → Item → Declarations_of
with_item d (valued x) = record { decls = d.decls ++ (x ∷ []); procs = d.procs }
with_item d (defined p) = record { decls = d.decls; procs = d.procs ++ (p ∷ []) }
