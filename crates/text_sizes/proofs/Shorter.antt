-- What is read leaves fewer tokens than there were.
use Rattle.std.proofs.Common.{◌<◌, ◌≤◌, List, length, arith}
use Rattle.chp_syntax.specs.declared.token.Token.{Token}
use Rattle.chp_syntax.specs.Trees.{Expressions, Statement, Statements, Arms}
use Rattle.chp_syntax.specs.Grammar.{Covered, Tail, Guarded, Primary, a_number, a_name, a_bit, a_slice, a_join, in_brackets, Parts, the_parts, MoreParts, no_more_parts, one_more_part, Negated, plain, negated, Sum, the_sum, MoreSum, no_more_sum, one_more_sum, Comparison, not_compared, compared, Conjunction, the_conjunction, MoreConjunction, no_more_conjunction, one_more_conjunction, Exclusive, the_exclusive, MoreExclusive, no_more_exclusive, one_more_exclusive, Disjunction, the_disjunction, MoreDisjunction, no_more_disjunction, one_more_disjunction, Atom, a_skip, an_assignment, a_send, a_receive, a_call, in_round, a_loop, a_guarded_loop, a_selection, GuardedCommand, the_branch, GuardedCommands, the_choices, MoreChoices, no_more_choices, one_more_choice, Both, the_both, MoreBoth, no_more_both, one_more_both, Seq, the_seq, MoreSeq, no_more_seq, one_more_seq, Par, the_par, MorePar, no_more_par, one_more_par}

mutual
  primary : {ts rest : List Token} {c : Covered} → Primary ts rest c → length rest < length ts
  primary a_number = omega arith
  primary a_name = omega arith
  primary a_bit = omega arith
  primary a_slice = omega arith
  primary (a_join p) = omega (arith, parts p)
  primary (in_brackets d) = omega (arith, disjunction d)

  parts : {ts rest : List Token} {es : Expressions} → Parts ts rest es → length rest < length ts
  parts (the_parts d m) = omega (arith, disjunction d, more_parts m)

  more_parts : {ts rest : List Token} {es : Expressions} → MoreParts ts rest es → length rest ≤ length ts
  more_parts no_more_parts = omega arith
  more_parts (one_more_part d m) = omega (arith, disjunction d, more_parts m)

  negation : {ts rest : List Token} {c : Covered} → Negated ts rest c → length rest < length ts
  negation (plain p) = primary p
  negation (negated p) = omega (arith, primary p)

  sum : {ts rest : List Token} {c : Covered} → Sum ts rest c → length rest < length ts
  sum (the_sum n m) = omega (arith, negation n, more_sum m)

  more_sum : {ts rest : List Token} {us : Tail} → MoreSum ts rest us → length rest ≤ length ts
  more_sum no_more_sum = omega arith
  more_sum (one_more_sum e n m) = omega (arith, negation n, more_sum m)

  comparison : {ts rest : List Token} {c : Covered} → Comparison ts rest c → length rest < length ts
  comparison (not_compared s) = sum s
  comparison (compared s e t) = omega (arith, sum s, sum t)

  conjunction : {ts rest : List Token} {c : Covered} → Conjunction ts rest c → length rest < length ts
  conjunction (the_conjunction c m) = omega (arith, comparison c, more_conjunction m)

  more_conjunction : {ts rest : List Token} {us : Tail} → MoreConjunction ts rest us → length rest ≤ length ts
  more_conjunction no_more_conjunction = omega arith
  more_conjunction (one_more_conjunction e c m) = omega (arith, comparison c, more_conjunction m)

  exclusive : {ts rest : List Token} {c : Covered} → Exclusive ts rest c → length rest < length ts
  exclusive (the_exclusive c m) = omega (arith, conjunction c, more_exclusive m)

  more_exclusive : {ts rest : List Token} {us : Tail} → MoreExclusive ts rest us → length rest ≤ length ts
  more_exclusive no_more_exclusive = omega arith
  more_exclusive (one_more_exclusive e c m) = omega (arith, conjunction c, more_exclusive m)

  disjunction : {ts rest : List Token} {c : Covered} → Disjunction ts rest c → length rest < length ts
  disjunction (the_disjunction e m) = omega (arith, exclusive e, more_disjunction m)

  more_disjunction : {ts rest : List Token} {us : Tail} → MoreDisjunction ts rest us → length rest ≤ length ts
  more_disjunction no_more_disjunction = omega arith
  more_disjunction (one_more_disjunction e x m) = omega (arith, exclusive x, more_disjunction m)

mutual
  pub atom : {ts rest : List Token} {t : Statement} → Atom ts rest t → length rest < length ts
  atom a_skip = omega arith
  atom (an_assignment d) = omega (arith, disjunction d)
  atom (a_send d) = omega (arith, disjunction d)
  atom a_receive = omega arith
  atom a_call = omega arith
  atom (in_round p) = omega (arith, par p)
  atom (a_loop p) = omega (arith, par p)
  atom (a_guarded_loop g) = omega (arith, guarded_commands g)
  atom (a_selection g) = omega (arith, guarded_commands g)

  guarded_command : {ts rest : List Token} {g : Guarded} → GuardedCommand ts rest g → length rest < length ts
  guarded_command (the_branch d p) = omega (arith, disjunction d, par p)

  guarded_commands : {ts rest : List Token} {bs : Arms} → GuardedCommands ts rest bs → length rest < length ts
  guarded_commands (the_choices g m) = omega (arith, guarded_command g, more_choices m)

  more_choices : {ts rest : List Token} {bs : Arms} → MoreChoices ts rest bs → length rest ≤ length ts
  more_choices no_more_choices = omega arith
  more_choices (one_more_choice g m) = omega (arith, guarded_command g, more_choices m)

  both : {ts rest : List Token} {t : Statement} → Both ts rest t → length rest < length ts
  both (the_both a m) = omega (arith, atom a, more_both m)

  more_both : {ts rest : List Token} {us : Statements} → MoreBoth ts rest us → length rest ≤ length ts
  more_both no_more_both = omega arith
  more_both (one_more_both a m) = omega (arith, atom a, more_both m)

  seq : {ts rest : List Token} {t : Statement} → Seq ts rest t → length rest < length ts
  seq (the_seq b m) = omega (arith, both b, more_seq m)

  more_seq : {ts rest : List Token} {us : Statements} → MoreSeq ts rest us → length rest ≤ length ts
  more_seq no_more_seq = omega arith
  more_seq (one_more_seq b m) = omega (arith, both b, more_seq m)

  pub par : {ts rest : List Token} {t : Statement} → Par ts rest t → length rest < length ts
  par (the_par s m) = omega (arith, seq s, more_par m)

  more_par : {ts rest : List Token} {us : Statements} → MorePar ts rest us → length rest ≤ length ts
  more_par no_more_par = omega arith
  more_par (one_more_par s m) = omega (arith, seq s, more_par m)
