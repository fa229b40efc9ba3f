-- Between the brackets of a repetition: a statement or arms, and the tokens that decide which.
use Rattle.std.proofs.Common.{◌≡◌, ℕ, ◌≤◌, List, [], ◌∷◌, ◌++◌, Bool, true, false, Option, Some, refl, sym, ap, ◌∙◌, subst, arith, append_assoc}
use Rattle.chp_base.specs.declared.span.Span.{Span}
use Rattle.chp_syntax.specs.declared.token.Token.{Token}
use Rattle.chp_syntax.specs.declared.token.TokenKind.{TokenKind}
use Rattle.chp_syntax.specs.declared.token.TokenKind.TheVariants.{Word, Ident, Number, Sign}
use Rattle.chp_syntax.specs.declared.token.Key.TheVariants as key
use Rattle.chp_syntax.specs.declared.token.Mark.TheVariants as mark
use Rattle.chp_syntax.specs.declared.parser.sight.AtomFront.{AtomFront}
use Rattle.chp_syntax.specs.declared.parser.sight.AtomFront.TheVariants as atom
use Rattle.chp_syntax.specs.Trees.{Statement, skips, selects, repeats, Arms}
use Rattle.chp_syntax.specs.Grammar.{numeral, word, sign, Covered, Tail, Primary, a_number, a_name, a_bit, a_slice, a_join, in_brackets, Negated, plain, negated, Sum, the_sum, MoreSum, no_more_sum, one_more_sum, Comparison, not_compared, compared, Conjunction, the_conjunction, MoreConjunction, no_more_conjunction, one_more_conjunction, Exclusive, the_exclusive, MoreExclusive, no_more_exclusive, one_more_exclusive, Disjunction, the_disjunction, MoreDisjunction, no_more_disjunction, one_more_disjunction, Atom, a_skip, an_assignment, a_send, a_receive, a_call, in_round, a_loop, a_guarded_loop, a_selection, the_branch, GuardedCommands, the_choices, no_more_choices, Both, the_both, Seq, the_seq, Par, the_par}
use Rattle.chp_syntax.specs.Parts.{sees, rank, StopsAt, Inside, a_body, some_arms, Good, Bad, atom_kind, action_kind, action_front, acts, begins_par, begins_par_with}
use Rattle.chp_syntax.proofs.Steps.{zero_span, sees_same, stops_more}
use Rattle.chp_syntax.proofs.Expressions.{sum_ranked, conjunction_ranked, exclusive_ranked, disjunction_ranked, compared_ranked}
use Rattle.chp_syntax.proofs.Statements.{atom_par}

-- what a statement begins with
mutual
  pub par_begins : {ts rest : List Token} {t : Statement} → Par ts rest t → begins_par ts ≡ true
  par_begins (the_par s m) = seq_begins s

  seq_begins : {ts rest : List Token} {t : Statement} → Seq ts rest t → begins_par ts ≡ true
  seq_begins (the_seq s m) = both_begins s

  both_begins : {ts rest : List Token} {t : Statement} → Both ts rest t → begins_par ts ≡ true
  both_begins (the_both s m) = atom_begins s

  atom_begins : {ts rest : List Token} {t : Statement} → Atom ts rest t → begins_par ts ≡ true
  atom_begins a_skip = refl
  atom_begins (an_assignment d) = refl
  atom_begins (a_send d) = refl
  atom_begins a_receive = refl
  atom_begins a_call = refl
  atom_begins (in_round p) = par_begins p
  atom_begins (a_loop p) = refl
  atom_begins (a_guarded_loop p) = refl
  atom_begins (a_selection p) = refl

-- an expression begins with none of these, unless an action's sign follows it
abbrev Quiet : List Token → Type 0
Quiet ts = acts (action_front (sees ts)) ≡ false

ranked_quiet : (j : TokenKind) → 1 ≤ rank j → acts (action_kind j) ≡ false
ranked_quiet (Sign mark.Becomes) h = absurd (omega (arith, h))
ranked_quiet (Sign mark.Bang) h = absurd (omega (arith, h))
ranked_quiet (Sign mark.Question) h = absurd (omega (arith, h))
ranked_quiet (Sign _) h = refl
ranked_quiet (Word w) h = refl
ranked_quiet (Ident w) h = refl
ranked_quiet (Number w) h = refl

quiet_at : (t : Token) (k : ℕ) → 1 ≤ k → rank t.kind ≡ k → acts (action_kind t.kind) ≡ false
quiet_at t k le e = ranked_quiet t.kind (omega (arith, le, e))

sum_quiet : {ts rest : List Token} {us : Tail} → MoreSum ts rest us → Quiet rest → Quiet ts
sum_quiet no_more_sum q = q
sum_quiet (one_more_sum {t = t} {o = o} e a m) q = quiet_at t 9 (omega arith) (sum_ranked t.kind o e)

conjunction_quiet : {ts rest : List Token} {us : Tail} → MoreConjunction ts rest us → Quiet rest → Quiet ts
conjunction_quiet no_more_conjunction q = q
conjunction_quiet (one_more_conjunction {t = t} {o = o} e a m) q = quiet_at t 7 (omega arith) (conjunction_ranked t.kind o e)

exclusive_quiet : {ts rest : List Token} {us : Tail} → MoreExclusive ts rest us → Quiet rest → Quiet ts
exclusive_quiet no_more_exclusive q = q
exclusive_quiet (one_more_exclusive {t = t} {o = o} e a m) q = quiet_at t 6 (omega arith) (exclusive_ranked t.kind o e)

disjunction_quiet : {ts rest : List Token} {us : Tail} → MoreDisjunction ts rest us → Quiet rest → Quiet ts
disjunction_quiet no_more_disjunction q = q
disjunction_quiet (one_more_disjunction {t = t} {o = o} e a m) q = quiet_at t 5 (omega arith) (disjunction_ranked t.kind o e)

mutual
  disjunction_begins : {ts rest : List Token} {c : Covered} → Disjunction ts rest c → Quiet rest → begins_par ts ≡ false
  disjunction_begins (the_disjunction e m) q = exclusive_begins e (disjunction_quiet m q)

  exclusive_begins : {ts rest : List Token} {c : Covered} → Exclusive ts rest c → Quiet rest → begins_par ts ≡ false
  exclusive_begins (the_exclusive e m) q = conjunction_begins e (exclusive_quiet m q)

  conjunction_begins : {ts rest : List Token} {c : Covered} → Conjunction ts rest c → Quiet rest → begins_par ts ≡ false
  conjunction_begins (the_conjunction e m) q = comparison_begins e (conjunction_quiet m q)

  comparison_begins : {ts rest : List Token} {c : Covered} → Comparison ts rest c → Quiet rest → begins_par ts ≡ false
  comparison_begins (not_compared s) q = sum_begins s q
  comparison_begins (compared {t = t} {o = o} s e r) q = sum_begins s (quiet_at t 8 (omega arith) (compared_ranked t.kind o e))

  sum_begins : {ts rest : List Token} {c : Covered} → Sum ts rest c → Quiet rest → begins_par ts ≡ false
  sum_begins (the_sum e m) q = negated_begins e (sum_quiet m q)

  negated_begins : {ts rest : List Token} {c : Covered} → Negated ts rest c → Quiet rest → begins_par ts ≡ false
  negated_begins (plain p) q = primary_begins p q
  negated_begins (negated p) q = refl

  primary_begins : {ts rest : List Token} {c : Covered} → Primary ts rest c → Quiet rest → begins_par ts ≡ false
  primary_begins a_number q = refl
  primary_begins a_name q = q
  primary_begins a_bit q = refl
  primary_begins a_slice q = refl
  primary_begins (a_join p) q = refl
  primary_begins (in_brackets p) q = disjunction_begins p refl

pub choices_begin : {ts rest : List Token} {bs : Arms} → GuardedCommands ts rest bs → begins_par ts ≡ false
choices_begin (the_choices (the_branch d p) n) = disjunction_begins d refl

-- tokens with which both a statement and an arm may begin: any number of `(`, and a name behind them
abbrev undecided_with : AtomFront → Type 0 → List Token → Type 0
undecided_with atom.Round inner ts = inner
undecided_with atom.Name inner [] = Unit {0}
undecided_with atom.Name inner (t ∷ ts) = ⊥
undecided_with _ inner ts = ⊥

abbrev Undecided : List Token → Type 0
Undecided [] = Unit {0}
Undecided (t ∷ ts) = undecided_with (atom_kind t.kind) (Undecided ts) ts

-- two texts that agree up to and with the next token, of which one alone begins as a statement: there both may begin
abbrev Shared : List Token → List Token → Type 0
Shared d l = (x : Token) × (sees l ≡ Some x) × Undecided (d ++ (x ∷ []))

first_shared : (f : AtomFront) (i j : Bool) (n m : Option Token) → begins_par_with f i n ≡ true → begins_par_with f j m ≡ false → undecided_with f (Unit {0}) []
first_shared atom.Round i j n m h k = tt
first_shared atom.Name i j n m h k = tt
first_shared atom.Other i j n m h k = absurd (cc h)
first_shared atom.Skip i j n m h k = absurd (cc k)
first_shared atom.Call i j n m h k = absurd (cc k)
first_shared atom.Star i j n m h k = absurd (cc k)
first_shared atom.Square i j n m h k = absurd (cc k)

shared_here : (l m : List Token) → sees l ≡ sees m → begins_par m ≡ true → begins_par l ≡ false → Shared [] l
shared_here [] [] s h k = absurd (cc h)
shared_here [] (y ∷ m) s h k = absurd (cc s)
shared_here (x ∷ l) [] s h k = absurd (cc s)
shared_here (x ∷ l) (y ∷ m) s h k =
    let e : y ≡ x = cc s in (
      x,
      refl,
      first_shared (atom_kind x.kind) (begins_par m) (begins_par l) (sees m) (sees l)
          (subst (λ (z : Token). begins_par_with (atom_kind z.kind) (begins_par m) (sees m) ≡ true) e h) k,
    )

shared_step : (f : AtomFront) (d l m : List Token) → sees l ≡ sees m → (begins_par (d ++ m) ≡ true → begins_par (d ++ l) ≡ false → Shared d l) →
    begins_par_with f (begins_par (d ++ m)) (sees (d ++ m)) ≡ true → begins_par_with f (begins_par (d ++ l)) (sees (d ++ l)) ≡ false →
    (x : Token) × (sees l ≡ Some x) × undecided_with f (Undecided (d ++ (x ∷ []))) (d ++ (x ∷ []))
shared_step atom.Round d l m s rec h k = rec h k
shared_step atom.Name d l m s rec h k =
    absurd (let e : true ≡ false = sym h ∙ (ap (λ (t : Option Token). acts (action_front t)) (sym (sees_same d l m s)) ∙ k) in cc e)
shared_step atom.Other d l m s rec h k = absurd (cc h)
shared_step atom.Skip d l m s rec h k = absurd (cc k)
shared_step atom.Call d l m s rec h k = absurd (cc k)
shared_step atom.Star d l m s rec h k = absurd (cc k)
shared_step atom.Square d l m s rec h k = absurd (cc k)

shared : (d l m : List Token) → sees l ≡ sees m → begins_par (d ++ m) ≡ true → begins_par (d ++ l) ≡ false → Shared d l
shared [] l m s h k = shared_here l m s h k
shared (t ∷ d) l m s h k = shared_step (atom_kind t.kind) d l m s (λ a b. shared d l m s a b) h k

-- such tokens go on to a statement, and to arms
abbrev Goes_on : {A : Type 0} → (List Token → List Token → A → Type 0) → List Token → Type 0
Goes_on {A} R ds = (k : List Token) × (a : A) × ((rest : List Token) → R (ds ++ (k ++ rest)) rest a)

primary_alone : {l rest : List Token} {c : Covered} → Primary l rest c → Disjunction l rest c
primary_alone p = the_disjunction (the_exclusive (the_conjunction (not_compared (the_sum (plain p) no_more_sum)) no_more_conjunction) no_more_exclusive)
    no_more_disjunction

statement_kind : (k : TokenKind) (s : Span) (ts : List Token) → undecided_with (atom_kind k) (Undecided ts) ts → (Undecided ts → Goes_on Par ts) →
    Goes_on Par (record { kind = k; at = s } ∷ ts)
statement_kind (Sign mark.OpenRound) s ts u rec =
    let r = rec u in
    let close = sign mark.CloseRound zero_span in (
      r.0 ++ (close ∷ []),
      r.1,
      λ rest. atom_par
          (in_round (subst (λ (x : List Token). Par (ts ++ x) (close ∷ rest) r.1) (sym (append_assoc r.0 (close ∷ []) rest)) (r.2 (close ∷ rest)))),
    )
statement_kind (Ident n) s [] u rec = (word_becomes, _, λ rest. atom_par (an_assignment (primary_alone a_number)))
  where
    word_becomes : List Token
    word_becomes = sign mark.Becomes zero_span ∷ numeral 0 zero_span ∷ []
statement_kind (Ident n) s (t ∷ ts) u rec = absurd u
statement_kind (Word key.Skip) s ts u rec = absurd u
statement_kind (Word key.Call) s ts u rec = absurd u
statement_kind (Word w) s ts u rec = absurd u
statement_kind (Number w) s ts u rec = absurd u
statement_kind (Sign _) s ts u rec = absurd u

statement_on : (ds : List Token) → Undecided ds → Goes_on Par ds
statement_on [] u = (word key.Skip zero_span ∷ [], skips zero_span, λ rest. atom_par a_skip)
statement_on (t ∷ ts) u = statement_kind t.kind t.at ts u (λ v. statement_on ts v)

expression_kind : (k : TokenKind) (s : Span) (ts : List Token) → undecided_with (atom_kind k) (Undecided ts) ts → (Undecided ts → Goes_on Disjunction ts) →
    Goes_on Disjunction (record { kind = k; at = s } ∷ ts)
expression_kind (Sign mark.OpenRound) s ts u rec =
    let r = rec u in
    let close = sign mark.CloseRound zero_span in (
      r.0 ++ (close ∷ []),
      _,
      λ rest. primary_alone
          (in_brackets (subst (λ (x : List Token). Disjunction (ts ++ x) (close ∷ rest) r.1) (sym (append_assoc r.0 (close ∷ []) rest)) (r.2 (close ∷ rest)))),
    )
expression_kind (Ident n) s [] u rec = ([], _, λ rest. primary_alone a_name)
expression_kind (Ident n) s (t ∷ ts) u rec = absurd u
expression_kind (Word key.Skip) s ts u rec = absurd u
expression_kind (Word key.Call) s ts u rec = absurd u
expression_kind (Word w) s ts u rec = absurd u
expression_kind (Number w) s ts u rec = absurd u
expression_kind (Sign _) s ts u rec = absurd u

expression_on : (ds : List Token) → Undecided ds → Goes_on Disjunction ds
expression_on [] u = (numeral 0 zero_span ∷ [], _, λ rest. primary_alone a_number)
expression_on (t ∷ ts) u = expression_kind t.kind t.at ts u (λ v. expression_on ts v)

arms_on : (ds : List Token) → Undecided ds → Goes_on GuardedCommands ds
arms_on ds u =
    let r = expression_on ds u in
    let more = sign mark.Arrow zero_span ∷ word key.Skip zero_span ∷ [] in (
      r.0 ++ more,
      _,
      λ rest. the_choices (the_branch (subst (λ (x : List Token). Disjunction (ds ++ x) (more ++ rest) r.1) (sym (append_assoc r.0 more rest))
          (r.2 (more ++ rest))) (atom_par a_skip)) no_more_choices,
    )

pub body_good : {xs left : List Token} {t : Statement} → Good Par (StopsAt 2) xs left t → Good Inside (StopsAt 1) xs left (repeats t)
body_good {xs} {left} {t} good = record { done = good.done; is = good.is; derives = λ l. a_body (good.derives l); only = only }
  where
    only : (l rest : List Token) (b : Statement) → sees l ≡ sees left → StopsAt 1 (sees rest) → Inside (good.done ++ l) rest b → (rest ≡ l) × (b ≡ repeats t)
    only l rest b s f (a_body {t = u} p) = let e = good.only l rest u s (stops_more 1 2 (sees rest) (omega arith) f) p in (e.0, ap repeats e.1)
    only l rest b s f (some_arms p) = absurd (let e : true ≡ false = sym (par_begins (good.derives l)) ∙ choices_begin p in cc e)

pub arms_good : {xs left : List Token} {bs : Arms} → Good GuardedCommands (StopsAt 1) xs left bs → Good Inside (StopsAt 1) xs left (selects true bs)
arms_good {xs} {left} {bs} good = record { done = good.done; is = good.is; derives = λ l. some_arms (good.derives l); only = only }
  where
    only : (l rest : List Token) (b : Statement) → sees l ≡ sees left → StopsAt 1 (sees rest) → Inside (good.done ++ l) rest b →
        (rest ≡ l) × (b ≡ selects true bs)
    only l rest b s f (some_arms {bs = cs} p) = let e = good.only l rest cs s f p in (e.0, ap (λ ds. selects true ds) e.1)
    only l rest b s f (a_body p) = absurd (let e : true ≡ false = sym (par_begins p) ∙ choices_begin (good.derives l) in cc e)

-- a fault of tokens that both may begin with is no fault of one of them
clash : {A : Type 0} (R : List Token → List Token → A → Type 0) (d left : List Token) (x : Token) →
    ((l rest : List Token) (b : A) → sees l ≡ sees left → StopsAt 1 (sees rest) → R (d ++ l) rest b → ⊥) → sees left ≡ Some x → Goes_on R (d ++ (x ∷ [])) → ⊥
clash {A} R d left x stuck s g =
    stuck (x ∷ (g.0 ++ [])) [] g.1 (sym s) tt (subst (λ (y : List Token). R y [] g.1) (append_assoc d (x ∷ []) (g.0 ++ [])) (g.2 []))

pub body_bad : {xs left : List Token} → begins_par xs ≡ true → Bad Par (StopsAt 2) xs left → Bad Inside (StopsAt 1) xs left
body_bad {xs} {left} begins bad = record {
  done = bad.done;
  is = bad.is;
  stuck = stuck;
  viable = let v = bad.viable in (v.0, repeats v.1, λ rest. a_body (v.2 rest));
}
  where
    stuck : (l rest : List Token) (b : Statement) → sees l ≡ sees left → StopsAt 1 (sees rest) → Inside (bad.done ++ l) rest b → ⊥
    stuck l rest b s f (a_body {t = u} p) = bad.stuck l rest u s (stops_more 1 2 (sees rest) (omega arith) f) p
    stuck l rest b s f (some_arms p) =
        let x = shared bad.done l left s (ap begins_par (sym bad.is) ∙ begins) (choices_begin p) in
        clash Par bad.done left x.0 (λ l rest b s f p. bad.stuck l rest b s (stops_more 1 2 (sees rest) (omega arith) f) p) (sym s ∙ x.1)
        (statement_on (bad.done ++ (x.0 ∷ [])) x.2)

pub arms_bad : {xs left : List Token} → begins_par xs ≡ false → Bad GuardedCommands (StopsAt 1) xs left → Bad Inside (StopsAt 1) xs left
arms_bad {xs} {left} begins bad = record {
  done = bad.done;
  is = bad.is;
  stuck = stuck;
  viable = let v = bad.viable in (v.0, selects true v.1, λ rest. some_arms (v.2 rest));
}
  where
    stuck : (l rest : List Token) (b : Statement) → sees l ≡ sees left → StopsAt 1 (sees rest) → Inside (bad.done ++ l) rest b → ⊥
    stuck l rest b s f (some_arms {bs = cs} p) = bad.stuck l rest cs s f p
    stuck l rest b s f (a_body p) =
        let x = shared bad.done left l (sym s) (par_begins p) (ap begins_par (sym bad.is) ∙ begins) in
        clash GuardedCommands bad.done left x.0 (λ l rest b s f p. bad.stuck l rest b s f p) x.1 (arms_on (bad.done ++ (x.0 ∷ [])) x.2)
