-- Statements: what is to come after each of their parts.
use Rattle.std.proofs.Common.{◌≡◌, ℕ, suc, ◌+◌, ◌<◌, List, [], ◌∷◌, ◌++◌, length, length-append, false, Option, Some, None, Result, Ok, Err, IfOk, OnOk, IsOkAnd, map, subst, refl, sym, ap, ◌∙◌, arith}
use Rattle.chp_base.specs.declared.span.Span.{Span}
use Rattle.chp_syntax.specs.declared.token.Token.{Token}
use Rattle.chp_syntax.specs.declared.token.TokenKind.{TokenKind}
use Rattle.chp_syntax.specs.declared.token.TokenKind.TheVariants.{Word, Sign}
use Rattle.chp_syntax.specs.declared.token.Key.TheVariants as key
use Rattle.chp_syntax.specs.declared.token.Mark.TheVariants as mark
use Rattle.chp_syntax.specs.declared.tree.Ident.{Ident as Named}
use Rattle.chp_syntax.specs.declared.parser.sight.AtomFront.TheVariants as atom
use Rattle.chp_syntax.specs.declared.parser.sight.ActionFront.TheVariants as action
use Rattle.chp_syntax.specs.declared.parser.sight.Group.{Group}
use Rattle.chp_syntax.specs.declared.parser.sight.Group.TheVariants as group
use Rattle.chp_syntax.specs.Trees.{Expression, Statement, skips, assigns, sends, receives, selects, repeats, calls, Statements, no_members, and_member, Arms, no_arms}
use Rattle.chp_syntax.specs.Grammar.{named, word, Covered, Guarded, guarded, sequence_of, parallel_of, Disjunction, Atom, a_skip, an_assignment, a_send, a_receive, a_call, in_round, a_loop, a_guarded_loop, a_selection, GuardedCommand, the_branch, GuardedCommands, the_choices, MoreChoices, no_more_choices, one_more_choice, Both, the_both, MoreBoth, no_more_both, one_more_both, Seq, the_seq, MoreSeq, no_more_seq, one_more_seq, Par, the_par, MorePar, no_more_par, one_more_par}
use Rattle.chp_syntax.specs.Parts.{GrammarPart, sees, IsKind, rank, StopsAt, Anything, Exactly, exactly, AName, the_name, Inside, a_body, some_arms, Guard, a_guard, Good, Bad, atom_front, action_kind, action_front, group_part, member_part, group_mark, group_rank, several_of}
use Rattle.chp_syntax.specs.declared.tree.Stmt.{Stmt}
use Rattle.chp_syntax.specs.declared.parser.sight.Stop.{Stop}
use Rattle.chp_syntax.specs.View.{onto, and_guarded, statement_of}
use Rattle.chp_syntax.proofs.Steps.{zero_span, SoFar, Ends, Seam, Then, and_then, Done, all_done, Either, one, other, start, instead, bad_here, exactly_seen, ends_exactly, ends_name, ends_done, ends_then, ends_one, any_seam, kind_seam, last_seam, last_any, stops_more, then_kind}
use Rattle.chp_syntax.proofs.Group.{Further, no_further, a_further, Grouping, group_ends, group_bad_first, Members, group_first, group_end, members_first, members_more, members_bad, members_end}
use Rattle.chp_syntax.proofs.Ands.{on_ok, made_on}
use Rattle.chp_syntax.proofs.Expressions.{ends_disjunction}

abbrev F5 : Option Token → Type 0
F5 = StopsAt 5

pub ends_atom : Ends Atom
ends_atom = (word key.Skip zero_span ∷ [], skips zero_span, λ rest. a_skip)

pub atom_par : {l rest : List Token} {t : Statement} → Atom l rest t → Par l rest t
atom_par a = the_par (the_seq (the_both a no_more_both) no_more_seq) no_more_par

pub both_out : {l rest : List Token} {a : Statement} → Both l rest a → (mid : List Token) × (b : Statement) × (us : Statements) × Atom l mid b
    × MoreBoth mid rest us × (a ≡ parallel_of b us)
both_out (the_both {mid = mid} {t = t} {us = us} a n) = (mid, t, us, a, n, refl)

pub both_more : {l rest : List Token} {us : Statements} → MoreBoth l rest us →
    Further Atom MoreBoth (Exactly (Sign mark.Comma)) (λ p b. b) no_members and_member l rest us
both_more no_more_both = no_further
both_more (one_more_both a n) = a_further exactly a n

pub both_in : {l x mid rest : List Token} {o : Span} {b : Statement} {us : Statements} → Exactly (Sign mark.Comma) l x o → Atom x mid b → MoreBoth mid rest us →
    MoreBoth l rest (and_member b us)
both_in exactly a n = one_more_both a n

pub seq_out : {l rest : List Token} {a : Statement} → Seq l rest a → (mid : List Token) × (b : Statement) × (us : Statements) × Both l mid b
    × MoreSeq mid rest us × (a ≡ sequence_of b us)
seq_out (the_seq {mid = mid} {t = t} {us = us} a n) = (mid, t, us, a, n, refl)

pub seq_more : {l rest : List Token} {us : Statements} → MoreSeq l rest us →
    Further Both MoreSeq (Exactly (Sign mark.Semicolon)) (λ p b. b) no_members and_member l rest us
seq_more no_more_seq = no_further
seq_more (one_more_seq a n) = a_further exactly a n

pub seq_in : {l x mid rest : List Token} {o : Span} {b : Statement} {us : Statements} → Exactly (Sign mark.Semicolon) l x o → Both x mid b →
    MoreSeq mid rest us → MoreSeq l rest (and_member b us)
seq_in exactly a n = one_more_seq a n

pub par_out : {l rest : List Token} {a : Statement} → Par l rest a → (mid : List Token) × (b : Statement) × (us : Statements) × Seq l mid b
    × MorePar mid rest us × (a ≡ parallel_of b us)
par_out (the_par {mid = mid} {t = t} {us = us} a n) = (mid, t, us, a, n, refl)

pub par_more : {l rest : List Token} {us : Statements} → MorePar l rest us →
    Further Seq MorePar (Exactly (Sign mark.BarBar)) (λ p b. b) no_members and_member l rest us
par_more no_more_par = no_further
par_more (one_more_par a n) = a_further exactly a n

pub par_in : {l x mid rest : List Token} {o : Span} {b : Statement} {us : Statements} → Exactly (Sign mark.BarBar) l x o → Seq x mid b → MorePar mid rest us →
    MorePar l rest (and_member b us)
par_in exactly a n = one_more_par a n

pub ends_both : Ends Both
ends_both = (ends_atom.0, parallel_of ends_atom.1 no_members, λ rest. the_both (ends_atom.2 rest) no_more_both)

pub ends_seq : Ends Seq
ends_seq = (ends_both.0, sequence_of ends_both.1 no_members, λ rest. the_seq (ends_both.2 rest) no_more_seq)

pub ends_par : Ends Par
ends_par = (ends_seq.0, parallel_of ends_seq.1 no_members, λ rest. the_par (ends_seq.2 rest) no_more_par)

-- the levels of groups: what is between the members and after the first one, and the statement of all
abbrev pub members_part : Group → GrammarPart Statements
members_part group.Both = MoreBoth
members_part group.Seq = MoreSeq
members_part group.Par = MorePar

abbrev pub joined_of : Group → Statement → Statements → Statement
joined_of group.Both t us = parallel_of t us
joined_of group.Seq t us = sequence_of t us
joined_of group.Par t us = parallel_of t us

pub members_in : (v : Group) (l mid rest : List Token) (b : Statement) (us : Statements) → member_part v l mid b → members_part v mid rest us →
    group_part v l rest (joined_of v b us)
members_in group.Both l mid rest b us a n = the_both a n
members_in group.Seq l mid rest b us a n = the_seq a n
members_in group.Par l mid rest b us a n = the_par a n

pub members_out : (v : Group) (l rest : List Token) (a : Statement) → group_part v l rest a → (mid : List Token) × (b : Statement) × (us : Statements)
    × member_part v l mid b × members_part v mid rest us × (a ≡ joined_of v b us)
members_out group.Both l rest a w = both_out w
members_out group.Seq l rest a w = seq_out w
members_out group.Par l rest a w = par_out w

pub no_more_in : (v : Group) (l : List Token) → members_part v l l no_members
no_more_in group.Both l = no_more_both
no_more_in group.Seq l = no_more_seq
no_more_in group.Par l = no_more_par

pub one_more_in : (v : Group) (l x mid rest : List Token) (o : Span) (b : Statement) (us : Statements) → Exactly (Sign (group_mark v)) l x o →
    member_part v x mid b → members_part v mid rest us → members_part v l rest (and_member b us)
one_more_in group.Both l x mid rest o b us s a n = both_in s a n
one_more_in group.Seq l x mid rest o b us s a n = seq_in s a n
one_more_in group.Par l x mid rest o b us s a n = par_in s a n

pub more_out : (v : Group) (l rest : List Token) (us : Statements) → members_part v l rest us →
    Further (member_part v) (members_part v) (Exactly (Sign (group_mark v))) (λ p b. b) no_members and_member l rest us
more_out group.Both l rest us n = both_more n
more_out group.Seq l rest us n = seq_more n
more_out group.Par l rest us n = par_more n

mark_ranked : (v : Group) → rank (Sign (group_mark v)) ≡ group_rank v
mark_ranked group.Both = refl
mark_ranked group.Seq = refl
mark_ranked group.Par = refl

pub group_marked : (v : Group) (t : Option Token) → IsKind (Sign (group_mark v)) t → StopsAt (suc (group_rank v)) t
group_marked v None h = tt
group_marked v (Some t) h = let e : rank t.kind ≡ group_rank v = ap rank h ∙ mark_ranked v in omega (arith, e)

pub group_apart : (v : Group) (t : Option Token) → IsKind (Sign (group_mark v)) t → StopsAt (group_rank v) t → ⊥
group_apart v None h f = h
group_apart v (Some t) h f =
    let e : rank t.kind ≡ group_rank v = ap rank h ∙ mark_ranked v in
    let lt : rank t.kind < group_rank v = f in
    omega (arith, e, lt)

pub member_ends : (v : Group) → Ends (member_part v)
member_ends group.Both = ends_atom
member_ends group.Seq = ends_both
member_ends group.Par = ends_seq

abbrev pub group_at : Group → Grouping
group_at v = record {
  A = Statement;
  B = Statement;
  U = Statements;
  O = Span;
  I = Statement;
  W = group_part v;
  F = StopsAt (group_rank v);
  R = member_part v;
  G = StopsAt (suc (group_rank v));
  M = members_part v;
  S = Exactly (Sign (group_mark v));
  H = IsKind (Sign (group_mark v));
  item = λ p b. b;
  none = no_members;
  more = and_member;
  build = joined_of v;
  w_in = members_in v;
  w_out = members_out v;
  m_none = no_more_in v;
  m_more = one_more_in v;
  m_out = more_out v;
  seen = λ l rest o s. exactly_seen s;
  marked = group_marked v;
  apart = group_apart v;
  weaker = λ t f. stops_more (group_rank v) (suc (group_rank v)) t (omega arith) f;
  ends = member_ends v;
  ends_sign = ends_exactly (Sign (group_mark v));
}

-- how many calls of the recursion are below a member of the group, at least
abbrev pub height : Group → ℕ
height group.Both = 2
height group.Seq = 4
height group.Par = 6

joined_is : (v : Group) (t u : Statement) (us : Statements) → joined_of v t (and_member u us) ≡ several_of v (and_member t (and_member u us))
joined_is group.Both t u us = refl
joined_is group.Seq t u us = refl
joined_is group.Par t u us = refl

-- several members
pub several : (v : Group) (t : Statement) (bs : List Statement) → t ≡ several_of v (onto and_member bs no_members) → (length bs ≡ 1 → ⊥) → (b : Statement)
    (got : List Statement) → b ∷ got ≡ bs → t ≡ joined_of v b (onto and_member got no_members)
several v t bs e n b [] h = absurd (n (ap length (sym h)))
several v t bs e n b (x ∷ got) h =
    e ∙ (ap (λ (ys : List Statement). several_of v (onto and_member ys no_members)) (sym h) ∙ sym (joined_is v b x (onto and_member got no_members)))

joined_none : (v : Group) (t : Statement) → joined_of v t no_members ≡ t
joined_none group.Both t = refl
joined_none group.Seq t = refl
joined_none group.Par t = refl

grouped_alone : (v : Group) {xs left : List Token} {t : Statement} → Good (member_part v) (StopsAt (suc (group_rank v))) xs left t →
    (IsKind (Sign (group_mark v)) (sees left) → ⊥) → Good (group_part v) (StopsAt (group_rank v)) xs left t
grouped_alone v {xs} {left} {t} good never = subst (λ (a : Statement). Good (group_part v) (StopsAt (group_rank v)) xs left a) (joined_none v t)
    (group_end (group_at v) (group_first (group_at v) good) never)

pub grouped_only : (v : Group) (xs left : List Token) (part : Result Stmt Stop) → (IsKind (Sign (group_mark v)) (sees left) → ⊥) →
    IfOk part (λ s. Good (member_part v) (StopsAt (suc (group_rank v))) xs left (statement_of s)) →
    IfOk part (λ s. Good (group_part v) (StopsAt (group_rank v)) xs left (statement_of s))
grouped_only v xs left (Ok s) never good = grouped_alone v good never
grouped_only v xs left (Err y) never good = tt

-- what has been read of a group where its next member is to come
pub data Ahead (v : Group) (xs : List Token) : List Token → List Statement → Type 0 where
  at_first : Ahead v xs xs []
  behind : {left mid : List Token} {ts : List Statement} {o : Span} → Members (group_at v) (λ t. t) xs left ts →
      Good (Exactly (Sign (group_mark v))) Anything left mid o → Ahead v xs mid ts

pub ahead_start : {v : Group} {xs : List Token} {ts : List Statement} → ts ≡ [] → Ahead v xs xs ts
ahead_start {v} {xs} e = subst (λ (us : List Statement). Ahead v xs xs us) (sym e) at_first

pub ahead_bad : (v : Group) {xs mid to : List Token} {ts : List Statement} → Ahead v xs mid ts →
    Bad (member_part v) (StopsAt (suc (group_rank v))) mid to → Bad (group_part v) (StopsAt (group_rank v)) xs to
ahead_bad v at_first bad = group_bad_first (group_at v) bad
ahead_bad v (behind m sign) bad = members_bad (group_at v) m sign bad

ahead_good : (v : Group) {xs mid to : List Token} {ts : List Statement} {t : Statement} → Ahead v xs mid ts →
    Good (member_part v) (StopsAt (suc (group_rank v))) mid to t → Members (group_at v) (λ t. t) xs to (ts ++ (t ∷ []))
ahead_good v at_first good = members_first (group_at v) (λ t. t) good
ahead_good v (behind m sign) good = members_more (group_at v) m sign good

-- a member that is followed by a sign, and added as it was read
pub ahead_more : (v : Group) {xs mid to next : List Token} {ts more : List Statement} {o : Span} (part : Result Stmt Stop) → Ahead v xs mid ts →
    IsOkAnd part (λ s. more ≡ ts ++ (statement_of s ∷ [])) →
    IfOk part (λ s. Good (member_part v) (StopsAt (suc (group_rank v))) mid to (statement_of s)) →
    Good (Exactly (Sign (group_mark v))) Anything to next o → Ahead v xs next more
ahead_more v {xs = xs} {to = to} (Ok s) a e good sign =
    behind (subst (λ (us : List Statement). Members (group_at v) (λ t. t) xs to us) (sym e) (ahead_good v a good)) sign
ahead_more v (Err y) a e good sign = absurd e

none_ahead : {v : Group} {xs mid : List Token} {ts : List Statement} → Ahead v xs mid ts → ts ≡ [] → mid ≡ xs
none_ahead at_first e = refl
none_ahead (behind m sign) e = absurd (cons_is_no_end (m.same ∙ e))
  where
    cons_is_no_end : {x : Statement} {xs : List Statement} → x ∷ xs ≡ [] → ⊥
    cons_is_no_end is = cc is

two_or_more : (b t : Statement) (ts : List Statement) → length (b ∷ (ts ++ (t ∷ []))) ≡ 1 → ⊥
two_or_more b t ts h =
    let longer : length (ts ++ (t ∷ [])) ≡ length ts + 1 = length-append ts (t ∷ []) in
    let one : suc (length (ts ++ (t ∷ []))) ≡ 1 = h in
    omega (arith, longer, one)

-- the end of a group: what is made of the members that were added, and of the last one as it was read
pub joined_good : (v : Group) {xs mid : List Token} (to : List Token) (items : List Stmt) (last made : Result Stmt Stop) → (items ≡ [] → made ≡ last) →
    ((items ≡ [] → ⊥) → IfOk made (λ s. IsOkAnd last (λ t. statement_of s ≡
    several_of v (onto and_member (map statement_of items ++ (statement_of t ∷ [])) no_members)))) → Ahead v xs mid (map statement_of items) →
    (IsKind (Sign (group_mark v)) (sees to) → ⊥) →
    IfOk last (λ s. Good (member_part v) (StopsAt (suc (group_rank v))) mid to (statement_of s)) →
    IfOk made (λ s. Good (group_part v) (StopsAt (group_rank v)) xs to (statement_of s))
joined_good v {xs} {mid} to [] last made alone many a never good =
    subst (λ (r : Result Stmt Stop). IfOk r (λ s. Good (group_part v) (StopsAt (group_rank v)) xs to (statement_of s))) (sym (alone refl))
    (grouped_only v xs to last never
    (subst (λ (x : List Token). IfOk last (λ s. Good (member_part v) (StopsAt (suc (group_rank v))) x to (statement_of s))) (none_ahead a refl) good))
joined_good v to (i ∷ items) (Ok t) (Ok s) alone many a never good =
    let e = many (λ h. cc h) in
    members_end (group_at v) (statement_of s) (ahead_good v a good) never
    (several v (statement_of s) (statement_of i ∷ (map statement_of items ++ (statement_of t ∷ []))) e
    (two_or_more (statement_of i) (statement_of t) (map statement_of items)))
joined_good v to (i ∷ items) (Err y) (Ok s) alone many a never good = absurd (many (λ h. cc h))
joined_good v to (i ∷ items) last (Err y) alone many a never good = tt

pub joined_on : {P Q : Type 0} (M : Stmt → Stmt → Type 0) (items : List Stmt) (last made : Result Stmt Stop) → (items ≡ [] → made ≡ last) →
    ((items ≡ [] → ⊥) → IfOk made (λ s. IsOkAnd last (λ t. M s t))) → OnOk last P → (P → Q) → OnOk made Q
joined_on {Q = Q} M [] last made alone many p f = subst (λ (r : Result Stmt Stop). OnOk r Q) (sym (alone refl)) (on_ok f last p)
joined_on M (i ∷ items) last made alone many p f = made_on M last made (many (λ h. cc h)) p f

-- a guard: expr "->"
abbrev pub Arrowed : Covered → GrammarPart Expression
Arrowed e = Then (Exactly (Sign mark.Arrow)) (λ p. Done e.expression)

guard_in : {l rest : List Token} {a : Expression} → Then Disjunction Arrowed l rest a → Guard l rest a
guard_in (and_then d (and_then exactly all_done)) = a_guard d

guard_out : {l rest : List Token} {a : Expression} → Guard l rest a → Then Disjunction Arrowed l rest a
guard_out (a_guard d) = and_then d (and_then exactly all_done)

pub guard_start : (xs : List Token) → SoFar Guard Anything xs xs (Then Disjunction Arrowed)
guard_start xs = instead (Then Disjunction Arrowed) (start Guard Anything xs) (λ l rest a q. guard_in q) (λ l rest a s f w. guard_out w)

pub guard_seam : Seam Disjunction (StopsAt 5) Anything Arrowed
guard_seam = kind_seam (Sign mark.Arrow) 5 (omega arith) (λ e p. ends_done e.expression)

pub arrow_seam : (e : Covered) → Seam (Exactly (Sign mark.Arrow)) Anything Anything (λ p. Done e.expression)
arrow_seam e = last_any (λ p. e.expression)

ends_guard : Ends Guard
ends_guard =
    let e = ends_then ends_disjunction (λ e. ends_then (ends_exactly (Sign mark.Arrow)) (λ p. ends_done e.expression)) in
    (e.0, e.1, λ rest. guard_in (e.2 rest))

-- expr "->" par
abbrev pub Body : Expression → GrammarPart Guarded
Body e = Then Par (λ t. Done (guarded e t))

branch_in : {l rest : List Token} {a : Guarded} → Then Guard Body l rest a → GuardedCommand l rest a
branch_in (and_then (a_guard d) (and_then p all_done)) = the_branch d p

branch_out : {l rest : List Token} {a : Guarded} → GuardedCommand l rest a → Then Guard Body l rest a
branch_out (the_branch d p) = and_then (a_guard d) (and_then p all_done)

pub branch_start : (xs : List Token) → SoFar GuardedCommand (StopsAt 2) xs xs (Then Guard Body)
branch_start xs = instead (Then Guard Body) (start GuardedCommand (StopsAt 2) xs) (λ l rest a q. branch_in q) (λ l rest a s f w. branch_out w)

body_ends : (e : Expression) → Ends (Body e)
body_ends e = ends_then ends_par (λ t. ends_done (guarded e t))

pub branch_seam : Seam Guard Anything (StopsAt 2) Body
branch_seam = any_seam body_ends

pub body_seam : (e : Expression) → Seam Par (StopsAt 2) (StopsAt 2) (λ t. Done (guarded e t))
body_seam e = last_seam (λ t. guarded e t)

pub ends_branch : Ends GuardedCommand
ends_branch = let e = ends_then ends_guard body_ends in (e.0, e.1, λ rest. branch_in (e.2 rest))

pub choices_out : {l rest : List Token} {a : Arms} → GuardedCommands l rest a → (mid : List Token) × (b : Guarded) × (us : Arms) × GuardedCommand l mid b
    × MoreChoices mid rest us × (a ≡ and_guarded b us)
choices_out (the_choices {mid = mid} {e = e} {t = t} {bs = us} a n) = (mid, guarded e t, us, a, n, refl)

pub choices_more : {l rest : List Token} {us : Arms} → MoreChoices l rest us →
    Further GuardedCommand MoreChoices (Exactly (Sign mark.Choice)) (λ p b. b) no_arms and_guarded l rest us
choices_more no_more_choices = no_further
choices_more (one_more_choice {e = e} {t = t} a n) = a_further {b = guarded e t} exactly a n

pub choices_in : {l x mid rest : List Token} {o : Span} {b : Guarded} {us : Arms} → Exactly (Sign mark.Choice) l x o → GuardedCommand x mid b →
    MoreChoices mid rest us → MoreChoices l rest (and_guarded b us)
choices_in exactly a n = one_more_choice a n

pub choices_marked : (t : Option Token) → IsKind (Sign mark.Choice) t → StopsAt 2 t
choices_marked None h = tt
choices_marked (Some t) h = let e : rank t.kind ≡ 1 = ap rank h in omega (arith, e)

pub choices_apart : (t : Option Token) → IsKind (Sign mark.Choice) t → StopsAt 1 t → ⊥
choices_apart None h f = h
choices_apart (Some t) h f = let e : rank t.kind ≡ 1 = ap rank h in let lt : rank t.kind < 1 = f in omega (arith, e, lt)

abbrev pub choices_group : Grouping
choices_group = record {
  A = Arms;
  B = Guarded;
  U = Arms;
  O = Span;
  I = Guarded;
  W = GuardedCommands;
  F = StopsAt 1;
  R = GuardedCommand;
  G = StopsAt 2;
  M = MoreChoices;
  S = Exactly (Sign mark.Choice);
  H = IsKind (Sign mark.Choice);
  item = λ p b. b;
  none = no_arms;
  more = and_guarded;
  build = and_guarded;
  w_in = λ l mid rest b us a n. the_choices a n;
  w_out = λ l rest a w. choices_out w;
  m_none = λ l. no_more_choices;
  m_more = λ l x mid rest o b us s a n. choices_in s a n;
  m_out = λ l rest us n. choices_more n;
  seen = λ l rest o s. exactly_seen s;
  marked = choices_marked;
  apart = choices_apart;
  weaker = λ t f. stops_more 1 2 t (omega arith) f;
  ends = ends_branch;
  ends_sign = ends_exactly (Sign mark.Choice);
}

-- an arm that was added to others
abbrev pub Chosen : List Token → List Token → List Guarded → List Guarded → Type 0
Chosen xs left olds news = (g : Guarded) × Good GuardedCommand (StopsAt 2) xs left g × (news ≡ olds ++ (g ∷ []))

pub chosen_first : {xs left : List Token} {olds news : List Guarded} → olds ≡ [] → Chosen xs left olds news →
    Members choices_group (λ b. b) xs left news
chosen_first {xs} {left} none q =
    subst (λ (gs : List Guarded). Members choices_group (λ b. b) xs left gs)
    (sym (q.2 ∙ ap (λ (gs : List Guarded). gs ++ (q.0 ∷ [])) none)) (members_first choices_group (λ b. b) q.1)

pub chosen_more : {xs left mid to : List Token} {olds news : List Guarded} {o : Span} → Members choices_group (λ b. b) xs left olds →
    Good (Exactly (Sign mark.Choice)) Anything left mid o → Chosen mid to olds news → Members choices_group (λ b. b) xs to news
chosen_more {xs} {to = to} m sign q =
    subst (λ (gs : List Guarded). Members choices_group (λ b. b) xs to gs) (sym q.2) (members_more choices_group m sign q.1)

-- an arm that is added as its statement was read
pub chosen_arm : {A T : Type 0} {P : A → Type 0} {xs left : List Token} (olds news : List Guarded) (view : A → Guarded) (part : Result A Stop)
    (made : Result T Stop) → OnOk made (IsOkAnd part (λ s. news ≡ olds ++ (view s ∷ []))) → IfOk part P →
    ((s : A) → P s → Good GuardedCommand (StopsAt 2) xs left (view s)) → OnOk made (Chosen xs left olds news)
chosen_arm olds news view (Ok s) (Ok u) e p f = (view s, f s p, e)
chosen_arm olds news view (Err y) (Ok u) e p f = absurd e
chosen_arm olds news view part (Err y) e p f = tt

pub ends_choices : Ends GuardedCommands
ends_choices = group_ends choices_group

pub ends_inside : Ends Inside
ends_inside = (ends_par.0, repeats ends_par.1, λ rest. a_body (ends_par.2 rest))

-- the alternatives of a statement, by their first tokens
abbrev pub Skipped : GrammarPart Statement
Skipped = Then (Exactly (Word key.Skip)) (λ s. Done (skips s))

abbrev pub Called : GrammarPart Statement
Called = Then (Exactly (Word key.Call)) (λ c. Then AName (λ i. Done (calls i)))

abbrev pub Assigned : Named → GrammarPart Statement
Assigned i = Then (Exactly (Sign mark.Becomes)) (λ b. Then Disjunction (λ e. Done (assigns i e.expression)))

abbrev pub Sent : Named → GrammarPart Statement
Sent i = Then (Exactly (Sign mark.Bang)) (λ b. Then Disjunction (λ e. Done (sends i e.expression)))

abbrev pub Received : Named → GrammarPart Statement
Received i = Then (Exactly (Sign mark.Question)) (λ b. Then AName (λ m. Done (receives i m)))

abbrev pub After_target : Named → GrammarPart Statement
After_target i = Either (Assigned i) (Either (Sent i) (Received i))

abbrev pub Acted : GrammarPart Statement
Acted = Then AName After_target

abbrev pub Round_end : Statement → GrammarPart Statement
Round_end t = Then (Exactly (Sign mark.CloseRound)) (λ c. Done t)

abbrev pub Rounded : GrammarPart Statement
Rounded = Then (Exactly (Sign mark.OpenRound)) (λ o. Then Par Round_end)

abbrev pub Square_end : Statement → GrammarPart Statement
Square_end t = Then (Exactly (Sign mark.CloseSquare)) (λ c. Done t)

abbrev pub Starred : GrammarPart Statement
Starred = Then (Exactly (Sign mark.Star)) (λ s. Then (Exactly (Sign mark.OpenSquare)) (λ o. Then Inside Square_end))

abbrev pub Select_end : Arms → GrammarPart Statement
Select_end bs = Then (Exactly (Sign mark.CloseSquare)) (λ c. Done (selects false bs))

abbrev pub Squared : GrammarPart Statement
Squared = Then (Exactly (Sign mark.OpenSquare)) (λ o. Then GuardedCommands Select_end)

skip_in : {l rest : List Token} {a : Statement} → Skipped l rest a → Atom l rest a
skip_in (and_then exactly all_done) = a_skip

skip_out : {l rest : List Token} {a : Statement} → atom_front (sees l) ≡ atom.Skip → Atom l rest a → Skipped l rest a
skip_out h a_skip = (and_then exactly all_done)
skip_out h _ = absurd (cc h)

pub skip_start : (xs : List Token) → atom_front (sees xs) ≡ atom.Skip → SoFar Atom F5 xs xs Skipped
skip_start xs h = instead Skipped (start Atom F5 xs) (λ l rest a q. skip_in q) (λ l rest a s f w. skip_out (ap atom_front s ∙ h) w)

call_in : {l rest : List Token} {a : Statement} → Called l rest a → Atom l rest a
call_in (and_then exactly (and_then the_name all_done)) = a_call

call_out : {l rest : List Token} {a : Statement} → atom_front (sees l) ≡ atom.Call → Atom l rest a → Called l rest a
call_out h (a_call {n = n} {s = s}) = and_then exactly (and_then {b = named n s} the_name all_done)
call_out h _ = absurd (cc h)

pub call_start : (xs : List Token) → atom_front (sees xs) ≡ atom.Call → SoFar Atom F5 xs xs Called
call_start xs h = instead Called (start Atom F5 xs) (λ l rest a q. call_in q) (λ l rest a s f w. call_out (ap atom_front s ∙ h) w)

act_in : {l rest : List Token} {a : Statement} → Acted l rest a → Atom l rest a
act_in (and_then the_name (one (and_then exactly (and_then d all_done)))) = an_assignment d
act_in (and_then the_name (other (one (and_then exactly (and_then d all_done))))) = a_send d
act_in (and_then the_name (other (other (and_then exactly (and_then the_name all_done))))) = a_receive

act_out : {l rest : List Token} {a : Statement} → atom_front (sees l) ≡ atom.Name → Atom l rest a → Acted l rest a
act_out h (an_assignment {n = n} {s = s} d) = and_then {b = named n s} the_name (one (and_then exactly (and_then d all_done)))
act_out h (a_send {n = n} {s = s} d) = and_then {b = named n s} the_name (other (one (and_then exactly (and_then d all_done))))
act_out h (a_receive {n = n} {m = m} {s = s} {r = r}) =
    and_then {b = named n s} the_name (other (other (and_then exactly (and_then {b = named m r} the_name all_done))))
act_out h _ = absurd (cc h)

pub act_start : (xs : List Token) → atom_front (sees xs) ≡ atom.Name → SoFar Atom F5 xs xs Acted
act_start xs h = instead Acted (start Atom F5 xs) (λ l rest a q. act_in q) (λ l rest a s f w. act_out (ap atom_front s ∙ h) w)

round_in : {l rest : List Token} {a : Statement} → Rounded l rest a → Atom l rest a
round_in (and_then exactly (and_then p (and_then exactly all_done))) = (in_round p)

round_out : {l rest : List Token} {a : Statement} → atom_front (sees l) ≡ atom.Round → Atom l rest a → Rounded l rest a
round_out h (in_round p) = (and_then exactly (and_then p (and_then exactly all_done)))
round_out h _ = absurd (cc h)

pub round_start : (xs : List Token) → atom_front (sees xs) ≡ atom.Round → SoFar Atom F5 xs xs Rounded
round_start xs h = instead Rounded (start Atom F5 xs) (λ l rest a q. round_in q) (λ l rest a s f w. round_out (ap atom_front s ∙ h) w)

star_in : {l rest : List Token} {a : Statement} → Starred l rest a → Atom l rest a
star_in (and_then exactly (and_then exactly (and_then (a_body p) (and_then exactly all_done)))) = (a_loop p)
star_in (and_then exactly (and_then exactly (and_then (some_arms p) (and_then exactly all_done)))) = (a_guarded_loop p)

star_out : {l rest : List Token} {a : Statement} → atom_front (sees l) ≡ atom.Star → Atom l rest a → Starred l rest a
star_out h (a_loop p) = (and_then exactly (and_then exactly (and_then (a_body p) (and_then exactly all_done))))
star_out h (a_guarded_loop p) = (and_then exactly (and_then exactly (and_then (some_arms p) (and_then exactly all_done))))
star_out h _ = absurd (cc h)

pub star_start : (xs : List Token) → atom_front (sees xs) ≡ atom.Star → SoFar Atom F5 xs xs Starred
star_start xs h = instead Starred (start Atom F5 xs) (λ l rest a q. star_in q) (λ l rest a s f w. star_out (ap atom_front s ∙ h) w)

square_in : {l rest : List Token} {a : Statement} → Squared l rest a → Atom l rest a
square_in (and_then exactly (and_then p (and_then exactly all_done))) = (a_selection p)

square_out : {l rest : List Token} {a : Statement} → atom_front (sees l) ≡ atom.Square → Atom l rest a → Squared l rest a
square_out h (a_selection p) = (and_then exactly (and_then p (and_then exactly all_done)))
square_out h _ = absurd (cc h)

pub square_start : (xs : List Token) → atom_front (sees xs) ≡ atom.Square → SoFar Atom F5 xs xs Squared
square_start xs h = instead Squared (start Atom F5 xs) (λ l rest a q. square_in q) (λ l rest a s f w. square_out (ap atom_front s ∙ h) w)

no_atom : {l rest : List Token} {a : Statement} → atom_front (sees l) ≡ atom.Other → Atom l rest a → ⊥
no_atom h a_skip = cc h
no_atom h (an_assignment d) = cc h
no_atom h (a_send d) = cc h
no_atom h a_receive = cc h
no_atom h a_call = cc h
no_atom h (in_round p) = cc h
no_atom h (a_loop p) = cc h
no_atom h (a_guarded_loop p) = cc h
no_atom h (a_selection p) = cc h

pub atom_bad : (xs : List Token) → atom_front (sees xs) ≡ atom.Other → Bad Atom F5 xs xs
atom_bad xs h = bad_here (start Atom F5 xs) (λ l rest a s f w. no_atom (ap atom_front s ∙ h) w) ends_atom

pub skip_seam : Seam (Exactly (Word key.Skip)) Anything F5 (λ s. Done (skips s))
skip_seam = last_any (λ s. skips s)

pub call_1 : Seam (Exactly (Word key.Call)) Anything F5 (λ c. Then AName (λ i. Done (calls i)))
call_1 = any_seam (λ c. ends_then ends_name (λ i. ends_done (calls i)))

pub call_2 : Seam AName Anything F5 (λ i. Done (calls i))
call_2 = last_any (λ i. calls i)

pub round_1 : Seam (Exactly (Sign mark.OpenRound)) Anything F5 (λ o. Then Par Round_end)
round_1 = any_seam (λ o. ends_then ends_par (λ t. ends_then (ends_exactly (Sign mark.CloseRound)) (λ c. ends_done t)))

pub round_2 : Seam Par (StopsAt 2) F5 Round_end
round_2 = kind_seam (Sign mark.CloseRound) 2 (omega arith) (λ t c. ends_done t)

pub round_3 : (t : Statement) → Seam (Exactly (Sign mark.CloseRound)) Anything F5 (λ c. Done t)
round_3 t = last_any (λ c. t)

inside_ends : Ends (Then Inside Square_end)
inside_ends = ends_then ends_inside (λ t. ends_then (ends_exactly (Sign mark.CloseSquare)) (λ c. ends_done t))

pub star_1 : Seam (Exactly (Sign mark.Star)) Anything F5 (λ s. Then (Exactly (Sign mark.OpenSquare)) (λ o. Then Inside Square_end))
star_1 = any_seam (λ s. ends_then (ends_exactly (Sign mark.OpenSquare)) (λ o. inside_ends))

pub star_2 : Seam (Exactly (Sign mark.OpenSquare)) Anything F5 (λ o. Then Inside Square_end)
star_2 = any_seam (λ o. inside_ends)

pub star_3 : Seam Inside (StopsAt 1) F5 Square_end
star_3 = kind_seam (Sign mark.CloseSquare) 1 (omega arith) (λ t c. ends_done t)

pub star_4 : (t : Statement) → Seam (Exactly (Sign mark.CloseSquare)) Anything F5 (λ c. Done t)
star_4 t = last_any (λ c. t)

pub square_1 : Seam (Exactly (Sign mark.OpenSquare)) Anything F5 (λ o. Then GuardedCommands Select_end)
square_1 = any_seam (λ o. ends_then ends_choices (λ bs. ends_then (ends_exactly (Sign mark.CloseSquare)) (λ c. ends_done (selects false bs))))

pub square_2 : Seam GuardedCommands (StopsAt 1) F5 Select_end
square_2 = kind_seam (Sign mark.CloseSquare) 1 (omega arith) (λ bs c. ends_done (selects false bs))

pub square_3 : (bs : Arms) → Seam (Exactly (Sign mark.CloseSquare)) Anything F5 (λ c. Done (selects false bs))
square_3 bs = last_any (λ c. selects false bs)

-- behind the name
assigned_ends : (i : Named) → Ends (Assigned i)
assigned_ends i = ends_then (ends_exactly (Sign mark.Becomes)) (λ b. ends_then ends_disjunction (λ e. ends_done (assigns i e.expression)))

pub target_seam : Seam AName Anything F5 After_target
target_seam = any_seam (λ i. ends_one (assigned_ends i))

action_is : (k : TokenKind) (t : Option Token) → IsKind k t → action_front t ≡ action_kind k
action_is k None h = absurd h
action_is k (Some t) h = ap action_kind h

assigned_out : {i : Named} {l rest : List Token} {a : Statement} → action_front (sees l) ≡ action.Assign → After_target i l rest a → Assigned i l rest a
assigned_out h (one q) = q
assigned_out {l = l} h (other (one q)) = absurd (let e : action.Assign ≡ action.Send = sym h ∙ action_is (Sign mark.Bang) (sees l) (then_kind q) in cc e)
assigned_out {l = l} h (other (other q)) = absurd (let e : action.Assign ≡ action.Receive = sym h ∙ action_is (Sign mark.Question) (sees l) (then_kind q) in
    cc e)

sent_out : {i : Named} {l rest : List Token} {a : Statement} → action_front (sees l) ≡ action.Send → After_target i l rest a → Sent i l rest a
sent_out {l = l} h (one q) = absurd (let e : action.Send ≡ action.Assign = sym h ∙ action_is (Sign mark.Becomes) (sees l) (then_kind q) in cc e)
sent_out h (other (one q)) = q
sent_out {l = l} h (other (other q)) = absurd (let e : action.Send ≡ action.Receive = sym h ∙ action_is (Sign mark.Question) (sees l) (then_kind q) in cc e)

received_out : {i : Named} {l rest : List Token} {a : Statement} → action_front (sees l) ≡ action.Receive → After_target i l rest a → Received i l rest a
received_out {l = l} h (one q) = absurd (let e : action.Receive ≡ action.Assign = sym h ∙ action_is (Sign mark.Becomes) (sees l) (then_kind q) in cc e)
received_out {l = l} h (other (one q)) = absurd (let e : action.Receive ≡ action.Send = sym h ∙ action_is (Sign mark.Bang) (sees l) (then_kind q) in cc e)
received_out h (other (other q)) = q

no_action : {i : Named} {l rest : List Token} {a : Statement} → action_front (sees l) ≡ action.Other → After_target i l rest a → ⊥
no_action {l = l} h (one q) = let e : action.Other ≡ action.Assign = sym h ∙ action_is (Sign mark.Becomes) (sees l) (then_kind q) in cc e
no_action {l = l} h (other (one q)) = let e : action.Other ≡ action.Send = sym h ∙ action_is (Sign mark.Bang) (sees l) (then_kind q) in cc e
no_action {l = l} h (other (other q)) = let e : action.Other ≡ action.Receive = sym h ∙ action_is (Sign mark.Question) (sees l) (then_kind q) in cc e

pub assigned_start : {xs left : List Token} (i : Named) → SoFar Atom F5 xs left (After_target i) → action_front (sees left) ≡ action.Assign →
    SoFar Atom F5 xs left (Assigned i)
assigned_start i so h = instead (Assigned i) so (λ l rest a q. one q) (λ l rest a s f q. assigned_out {i = i} (ap action_front s ∙ h) q)

pub sent_start : {xs left : List Token} (i : Named) → SoFar Atom F5 xs left (After_target i) → action_front (sees left) ≡ action.Send →
    SoFar Atom F5 xs left (Sent i)
sent_start i so h = instead (Sent i) so (λ l rest a q. other (one q)) (λ l rest a s f q. sent_out {i = i} (ap action_front s ∙ h) q)

pub received_start : {xs left : List Token} (i : Named) → SoFar Atom F5 xs left (After_target i) → action_front (sees left) ≡ action.Receive →
    SoFar Atom F5 xs left (Received i)
received_start i so h = instead (Received i) so (λ l rest a q. other (other q)) (λ l rest a s f q. received_out {i = i} (ap action_front s ∙ h) q)

pub action_bad : {xs left : List Token} (i : Named) → SoFar Atom F5 xs left (After_target i) → action_front (sees left) ≡ action.Other → Bad Atom F5 xs left
action_bad i so h = bad_here so (λ l rest a s f q. no_action {i = i} (ap action_front s ∙ h) q) (ends_one (assigned_ends i))

pub assign_1 : (i : Named) → Seam (Exactly (Sign mark.Becomes)) Anything F5 (λ b. Then Disjunction (λ e. Done (assigns i e.expression)))
assign_1 i = any_seam (λ b. ends_then ends_disjunction (λ e. ends_done (assigns i e.expression)))

pub assign_2 : (i : Named) → Seam Disjunction F5 F5 (λ e. Done (assigns i e.expression))
assign_2 i = last_seam (λ e. assigns i e.expression)

pub send_1 : (i : Named) → Seam (Exactly (Sign mark.Bang)) Anything F5 (λ b. Then Disjunction (λ e. Done (sends i e.expression)))
send_1 i = any_seam (λ b. ends_then ends_disjunction (λ e. ends_done (sends i e.expression)))

pub send_2 : (i : Named) → Seam Disjunction F5 F5 (λ e. Done (sends i e.expression))
send_2 i = last_seam (λ e. sends i e.expression)

pub receive_1 : (i : Named) → Seam (Exactly (Sign mark.Question)) Anything F5 (λ b. Then AName (λ m. Done (receives i m)))
receive_1 i = any_seam (λ b. ends_then ends_name (λ m. ends_done (receives i m)))

pub receive_2 : (i : Named) → Seam AName Anything F5 (λ m. Done (receives i m))
receive_2 i = last_any (λ m. receives i m)
