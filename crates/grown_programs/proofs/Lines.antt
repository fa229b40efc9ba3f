-- The lines of a generated program, from the front: what stands there is read as what is wanted there.
use Rattle.std.proofs.Common.{◌≡◌, ◌∙◌, ℕ, zero, suc, ◌+◌, ◌-◌, ◌*◌, ◌/◌, ◌%◌, ◌^◌, ◌<◌, ◌≤◌, ◌==◌, Bool, true, false, cond, List, [], ◌∷◌, ◌++◌, length, codes, refl, sym, ap, subst, arith, inl, append_assoc, append-nil, eqb-true}
use Rattle.std.specs.Prelude.{decimal}
use Rattle.std.specs.List.{concat, flat_map, range_with_len, list_all}
use Rattle.chp_base.specs.Names.{word_part, IsName}
use Rattle.chp_base.specs.declared.span.Span.{Span}
use Rattle.chp_syntax.specs.declared.token.Token.{Token}
use Rattle.chp_syntax.specs.declared.token.TokenKind.{TokenKind}
use Rattle.chp_syntax.specs.declared.token.TokenKind.TheVariants.{Word, Ident, Number, Sign}
use Rattle.chp_syntax.specs.declared.token.Key.{Key}
use Rattle.chp_syntax.specs.declared.token.Key.TheVariants as key
use Rattle.chp_syntax.specs.declared.token.Mark.TheVariants as mark
use Rattle.chp_syntax.specs.declared.tree.Decl.{Decl}
use Rattle.chp_syntax.specs.declared.tree.DeclKind.{DeclKind}
use Rattle.chp_syntax.specs.declared.tree.DeclKind.TheVariants as declares
use Rattle.chp_syntax.specs.declared.tree.Op.{Op}
use Rattle.chp_syntax.specs.declared.tree.Op.TheVariants as op
use Rattle.chp_syntax.specs.Grammar.{sign, word, name, numeral, named, cover, unset, valued, and_item, Declared, no_declared, Declaration, a_channel, a_variable, Declarations, no_declaration, one_more_declaration, Disjunction, the_disjunction, no_more_disjunction, the_exclusive, no_more_exclusive, one_more_exclusive, the_conjunction, no_more_conjunction, not_compared, the_sum, no_more_sum, one_more_sum, plain, negated, a_number, a_name, a_loop, a_receive, a_send, Both, the_both, no_more_both, Seq, the_seq, no_more_seq, one_more_seq, Par, the_par, MorePar, no_more_par, one_more_par, parallel_of}
use Rattle.chp_syntax.specs.Spelling.{Spells, IsDecimal}
use Rattle.chp_syntax.specs.Trees.{Expression, Statement, Statements, no_members, and_member}
use Rattle.chp_syntax.proofs.Spelled.{begins_with_part}
use Rattle.program_maker.specs.Drawn.{word_at}
use Rattle.program_maker.specs.Generated.{byte_line, stage_sends, stage_begins, stage_line, generated_stages, generated_text, generated_variables}
use Rattle.grown_programs.proofs.Cuts.{Rest, rest_as, rest_none, rest_of_text, rest_blank, rest_word, rest_sign, rest_pair}
use Rattle.grown_programs.proofs.Decimals.{channel_name, digits_of_decimal, digits_parts, number_spelled, numbered, variable_name}
use Rattle.grown_programs.proofs.Plans.{AreStages, AreWanted, IsBody, IsSent, IsStage, IsWanted, Wanted, a_complement, a_difference, a_stage, a_sum, an_exclusive_or, all_wanted, channel_at, inner_channels, no_stage, one_more_stage, stage_variables, variable_at, wanted}

-- a name of a letter and a number
name_parts : (letter n : ℕ) → n ≤ 400 → word_part letter ≡ true → list_all word_part (numbered letter n) ≡ true
name_parts letter n few is =
    let are = digits_of_decimal n (omega arith) in
    rw (is, digits_parts (decimal n) are.digits) refl

rest_name : {P : List Token → Type 0} {depth at : ℕ} (letter n : ℕ) (text : List ℕ) → n ≤ 400 → word_part letter ≡ true → IsName (numbered letter n) →
    begins_with_part text ≡ false → depth ≤ 256
    → Rest (λ ts. P (name (numbered letter n) (record { from = at; to = at + length (numbered letter n) }) ∷ ts)) depth (at + length (numbered letter n)) text
    → Rest P depth at (numbered letter n ++ text)
rest_name letter n text few is named ends shallow r =
    rest_word (Ident (numbered letter n)) (numbered letter n) text (omega arith) (name_parts letter n few is) ends (refl, named) shallow r

-- ---- what a stage sends

-- tokens from a place on that are an expression of the stage, and those that are left
pub record SendsHere (i : ℕ) (left : List Token → Type 0) (ts : List Token) : Type 0 where
  pub rest : List Token
  pub expression : Expression
  pub at : Span
  pub derives : Disjunction ts rest (cover expression at)
  pub is : IsSent i expression
  pub left_here : left rest

sum_here : {i k : ℕ} {s t u : Span} {left : List Token → Type 0} (ts : List Token) → k < 256 → left ts →
    SendsHere i left (name (variable_at i) s ∷ sign mark.Plus t ∷ numeral k u ∷ ts)
sum_here ts few here = record {
  rest = ts;
  expression = _;
  at = _;
  derives = the_disjunction (the_exclusive (the_conjunction (not_compared (the_sum (plain a_name) (one_more_sum refl (plain a_number) no_more_sum)))
      no_more_conjunction) no_more_exclusive) no_more_disjunction;
  is = a_sum few;
  left_here = here;
}

difference_here : {i k : ℕ} {s t u : Span} {left : List Token → Type 0} (ts : List Token) → k < 256 → left ts →
    SendsHere i left (name (variable_at i) s ∷ sign mark.Minus t ∷ numeral k u ∷ ts)
difference_here ts few here = record {
  rest = ts;
  expression = _;
  at = _;
  derives = the_disjunction (the_exclusive (the_conjunction (not_compared (the_sum (plain a_name) (one_more_sum refl (plain a_number) no_more_sum)))
      no_more_conjunction) no_more_exclusive) no_more_disjunction;
  is = a_difference few;
  left_here = here;
}

exclusive_here : {i k : ℕ} {s t u : Span} {left : List Token → Type 0} (ts : List Token) → k < 256 → left ts →
    SendsHere i left (name (variable_at i) s ∷ sign mark.Caret t ∷ numeral k u ∷ ts)
exclusive_here ts few here = record {
  rest = ts;
  expression = _;
  at = _;
  derives = the_disjunction (the_exclusive (the_conjunction (not_compared (the_sum (plain a_name) no_more_sum)) no_more_conjunction)
      (one_more_exclusive refl (the_conjunction (not_compared (the_sum (plain a_number) no_more_sum)) no_more_conjunction) no_more_exclusive))
      no_more_disjunction;
  is = an_exclusive_or few;
  left_here = here;
}

complement_here : {i : ℕ} {s t : Span} {left : List Token → Type 0} (ts : List Token) → left ts →
    SendsHere i left (sign mark.Tilde t ∷ name (variable_at i) s ∷ ts)
complement_here ts here = record {
  rest = ts;
  expression = _;
  at = _;
  derives = the_disjunction (the_exclusive (the_conjunction (not_compared (the_sum (negated a_name) no_more_sum)) no_more_conjunction) no_more_exclusive)
      no_more_disjunction;
  is = a_complement;
  left_here = here;
}

-- ---- the constant

constant_small : (w : ℕ) → w / 4 % 256 < 256
constant_small w = omega arith

rest_number : {P : List Token → Type 0} {depth at : ℕ} (n : ℕ) (text : List ℕ) → n < 256 → begins_with_part text ≡ false → depth ≤ 256
    → Rest (λ ts. P (numeral n (record { from = at; to = at + length (decimal n) }) ∷ ts)) depth (at + length (decimal n)) text
    → Rest P depth at (decimal n ++ text)
rest_number n text small ends shallow r =
    let are = digits_of_decimal n (omega arith) in
    rest_word (Number n) (decimal n) text are.some (digits_parts (decimal n) are.digits) ends (number_spelled n (omega arith)) shallow r

-- the forms of what is sent
pub data SendsText (i : ℕ) : List ℕ → Type 0 where
  plus_text : (k : ℕ) → k < 256 → SendsText i (variable_at i ++ 32 ∷ 43 ∷ 32 ∷ decimal k)
  minus_text : (k : ℕ) → k < 256 → SendsText i (variable_at i ++ 32 ∷ 45 ∷ 32 ∷ decimal k)
  caret_text : (k : ℕ) → k < 256 → SendsText i (variable_at i ++ 32 ∷ 94 ∷ 32 ∷ decimal k)
  tilde_text : SendsText i (126 ∷ variable_at i)

pub sends_text : (w i : ℕ) → SendsText i (stage_sends w i)
sends_text w i = go (w % 4 == 0) (w % 4 == 1) (w % 4 == 2)
  where
    behind : (b k : ℕ) → SendsText i (variable_at i ++ 32 ∷ b ∷ 32 ∷ decimal k) → SendsText i ((variable_at i ++ 32 ∷ b ∷ 32 ∷ []) ++ decimal k)
    behind b k is = subst (SendsText i) (sym (append_assoc (variable_at i) (32 ∷ b ∷ 32 ∷ []) (decimal k))) is

    go : (a b c : Bool) → SendsText i (cond a (((codes "v" ++ decimal i) ++ codes " + ") ++ decimal (w / 4 % 256))
        (cond b (((codes "v" ++ decimal i) ++ codes " ^ ") ++ decimal (w / 4 % 256))
        (cond c (((codes "v" ++ decimal i) ++ codes " - ") ++ decimal (w / 4 % 256)) (codes "~" ++ (codes "v" ++ decimal i)))))
    go true b c = behind 43 (w / 4 % 256) (plus_text (w / 4 % 256) (constant_small w))
    go false true c = behind 94 (w / 4 % 256) (caret_text (w / 4 % 256) (constant_small w))
    go false false true = behind 45 (w / 4 % 256) (minus_text (w / 4 % 256) (constant_small w))
    go false false false = tilde_text

-- an operator between the variable and the constant
module _ {left : List Token → Type 0} {depth : ℕ} (i k : ℕ) (text : List ℕ) (few : i ≤ 400) (small : k < 256) (ends : begins_with_part text ≡ false)
    (shallow : depth ≤ 256) (next : (at : ℕ) → Rest left depth at text) where
  operator_text : (b : ℕ) → (variable_at i ++ 32 ∷ b ∷ 32 ∷ decimal k) ++ text ≡ variable_at i ++ 32 ∷ b ∷ 32 ∷ (decimal k ++ text)
  operator_text b = append_assoc (variable_at i) (32 ∷ b ∷ 32 ∷ decimal k) text

  pub rest_plus : {at : ℕ} → Rest (SendsHere i left) depth at ((variable_at i ++ 32 ∷ 43 ∷ 32 ∷ decimal k) ++ text)
  rest_plus = rest_of_text (operator_text 43)
      (rest_name 118 i (32 ∷ 43 ∷ 32 ∷ (decimal k ++ text)) few refl (variable_name i few) refl shallow
      (rest_blank 32 refl (rest_sign mark.Plus 43 32 refl refl refl shallow (rest_blank 32 refl (rest_number k text small ends shallow
      (rest_as (λ ts here. sum_here ts small here) (next _)))))))

  pub rest_minus : {at : ℕ} → Rest (SendsHere i left) depth at ((variable_at i ++ 32 ∷ 45 ∷ 32 ∷ decimal k) ++ text)
  rest_minus = rest_of_text (operator_text 45)
      (rest_name 118 i (32 ∷ 45 ∷ 32 ∷ (decimal k ++ text)) few refl (variable_name i few) refl shallow
      (rest_blank 32 refl (rest_sign mark.Minus 45 32 refl refl refl shallow (rest_blank 32 refl (rest_number k text small ends shallow
      (rest_as (λ ts here. difference_here ts small here) (next _)))))))

  pub rest_caret : {at : ℕ} → Rest (SendsHere i left) depth at ((variable_at i ++ 32 ∷ 94 ∷ 32 ∷ decimal k) ++ text)
  rest_caret = rest_of_text (operator_text 94)
      (rest_name 118 i (32 ∷ 94 ∷ 32 ∷ (decimal k ++ text)) few refl (variable_name i few) refl shallow
      (rest_blank 32 refl (rest_sign mark.Caret 94 32 refl refl refl shallow (rest_blank 32 refl (rest_number k text small ends shallow
      (rest_as (λ ts here. exclusive_here ts small here) (next _)))))))

module _ {left : List Token → Type 0} {depth : ℕ} (i : ℕ) (text : List ℕ) (few : i ≤ 400) (ends : begins_with_part text ≡ false)
    (shallow : depth ≤ 256) (next : (at : ℕ) → Rest left depth at text) where
  pub rest_tilde : {at : ℕ} → Rest (SendsHere i left) depth at (126 ∷ (variable_at i ++ text))
  rest_tilde = rest_sign mark.Tilde 126 118 refl refl refl shallow
      (rest_name 118 i text few refl (variable_name i few) ends shallow (rest_as (λ ts here. complement_here ts here) (next _)))

-- the sign and what is sent
module _ {P left : List Token → Type 0} {depth : ℕ} (i : ℕ) (text : List ℕ) (few : i ≤ 400) (ends : begins_with_part text ≡ false)
    (shallow : depth ≤ 256) (next : (at : ℕ) → Rest left depth at text) (is : (ts : List Token) (b : Span) → SendsHere i left ts → P (sign mark.Bang b ∷ ts))
  where
    rest_form : {at : ℕ} (bs : List ℕ) → SendsText i bs → Rest P depth at (33 ∷ (bs ++ text))
    rest_form bs (plus_text k small) = rest_sign mark.Bang 33 118 refl refl refl shallow
        (rest_as (λ ts here. is ts _ here) (rest_plus i k text few small ends shallow next))
    rest_form bs (minus_text k small) = rest_sign mark.Bang 33 118 refl refl refl shallow
        (rest_as (λ ts here. is ts _ here) (rest_minus i k text few small ends shallow next))
    rest_form bs (caret_text k small) = rest_sign mark.Bang 33 118 refl refl refl shallow
        (rest_as (λ ts here. is ts _ here) (rest_caret i k text few small ends shallow next))
    rest_form bs tilde_text = rest_sign mark.Bang 33 126 refl refl refl shallow (rest_as (λ ts here. is ts _ here) (rest_tilde i text few ends shallow next))

    pub rest_sends : {at : ℕ} (w : ℕ) → Rest P depth at (33 ∷ (stage_sends w i ++ text))
    rest_sends w = rest_form (stage_sends w i) (sends_text w i)

-- ---- a stage

-- tokens that are a stage, and those that are left
pub record StageHere (i : ℕ) (left : List Token → Type 0) (ts : List Token) : Type 0 where
  pub rest : List Token
  pub statement : Statement
  pub derives : Seq ts rest statement
  pub is : IsStage i statement
  pub left_here : left rest

-- what closes a stage
pub record Closes (left : List Token → Type 0) (ts : List Token) : Type 0 where
  pub at : Span
  pub rest : List Token
  pub is : ts ≡ sign mark.CloseSquare at ∷ rest
  pub left_here : left rest

stage_here : {i : ℕ} {s o a q v l c b : Span} {left : List Token → Type 0} (ts : List Token) → SendsHere i (Closes left) ts
    → StageHere i left (sign mark.Star s ∷ sign mark.OpenSquare o ∷ name (channel_at (i - 1)) a ∷ sign mark.Question q ∷ name (variable_at i) v
    ∷ sign mark.Semicolon l ∷ name (channel_at i) c ∷ sign mark.Bang b ∷ ts)
stage_here ts here =
    let closed = here.left_here in
    let sent = subst (λ rest. Disjunction ts rest (cover here.expression here.at)) closed.is here.derives in
    record {
      rest = closed.rest;
      statement = _;
      derives = the_seq (the_both (a_loop (the_par (the_seq (the_both a_receive no_more_both)
          (one_more_seq (the_both (a_send sent) no_more_both) no_more_seq)) no_more_par)) no_more_both) no_more_seq;
      is = a_stage here.is;
      left_here = closed.left_here;
    }

abbrev pub loop_text : (sent : List ℕ) → (i : ℕ) → List ℕ → List ℕ
loop_text sent i more = 42 ∷ 91 ∷ (channel_at (i - 1) ++ 63 ∷ (variable_at i ++ 59 ∷ 32 ∷ (channel_at i ++ 33 ∷ (sent ++ 93 ∷ 10 ∷ more))))

pub stage_text : (w i : ℕ) (more : List ℕ) → stage_line w i ++ more ≡ stage_begins i ++ loop_text (stage_sends w i) i more
stage_text w i more = simp append_assoc

closes_here : {left : List Token → Type 0} (ts : List Token) (c : Span) → left ts → Closes left (sign mark.CloseSquare c ∷ ts)
closes_here ts c here = record { at = c; rest = ts; is = refl; left_here = here }

rest_close : {left : List Token → Type 0} {at : ℕ} (more : List ℕ) → ((to : ℕ) → Rest left 0 to more) → Rest (Closes left) 1 at (93 ∷ 10 ∷ more)
rest_close more next =
    rest_sign mark.CloseSquare 93 10 refl refl refl (omega arith) (rest_blank 10 refl (rest_as (λ ts here. closes_here ts _ here) (next _)))

pub rest_loop : {left : List Token → Type 0} {at : ℕ} (w i : ℕ) (more : List ℕ) → i ≤ 400 → ((to : ℕ) → Rest left 0 to more)
    → Rest (StageHere i left) 0 at (loop_text (stage_sends w i) i more)
rest_loop {left} w i more few next =
    rest_sign mark.Star 42 91 refl refl refl (omega arith)
    (rest_sign mark.OpenSquare 91 99 refl refl refl (omega arith)
    (rest_name 99 (i - 1) (63 ∷ (variable_at i ++ 59 ∷ 32 ∷ (channel_at i ++ 33 ∷ (stage_sends w i ++ 93 ∷ 10 ∷ more)))) (omega arith) refl
    (channel_name (i - 1) (omega arith)) refl (omega arith)
    (rest_sign mark.Question 63 118 refl refl refl (omega arith)
    (rest_name 118 i (59 ∷ 32 ∷ (channel_at i ++ 33 ∷ (stage_sends w i ++ 93 ∷ 10 ∷ more))) few refl (variable_name i few) refl (omega arith)
    (rest_sign mark.Semicolon 59 32 refl refl refl (omega arith)
    (rest_blank 32 refl
    (rest_name 99 i (33 ∷ (stage_sends w i ++ 93 ∷ 10 ∷ more)) few refl (channel_name i few) refl (omega arith)
    (rest_sends {left = Closes left} i (93 ∷ 10 ∷ more) few refl (omega arith) (λ to. rest_close more next)
    (λ ts b here. stage_here ts here) w))))))))

-- ---- the body

-- tokens that are the stages from one on, up to the end of the program
pub record StagesHere (from count : ℕ) (ts : List Token) : Type 0 where
  pub others : Statements
  pub end : Span
  pub derives : MorePar ts (word key.End end ∷ []) others
  pub are : AreStages from count others

end_here : {from : ℕ} (e : Span) → StagesHere from 0 (word key.End e ∷ [])
end_here e = record { others = no_members; end = e; derives = no_more_par; are = no_stage }

more_here : {from count : ℕ} (ts : List Token) (p : Span) → StageHere from (StagesHere (from + 1) count) ts
    → StagesHere from (suc count) (sign mark.BarBar p ∷ ts)
more_here ts p here =
    let behind = here.left_here in record {
      others = and_member here.statement behind.others;
      end = behind.end;
      derives = one_more_par here.derives behind.derives;
      are = one_more_stage here.is behind.are;
    }

rest_end : {from at : ℕ} → Rest (StagesHere from 0) 0 at (codes "end\n" ++ [])
rest_end = rest_word (Word key.End) (codes "end") (10 ∷ []) (omega arith) refl refl refl (omega arith) (rest_blank 10 refl (rest_none (end_here _)))

abbrev pub line_at : (seed : ℕ) → ℕ → List ℕ
line_at seed i = stage_line (word_at seed (i - 1)) i

later_begins : (i : ℕ) → 2 ≤ i → stage_begins i ≡ 124 ∷ 124 ∷ 32 ∷ []
later_begins i late = go (i == 1) refl
  where
    go : (b : Bool) → (i == 1) ≡ b → cond b [] (codes "|| ") ≡ 124 ∷ 124 ∷ 32 ∷ []
    go true is = let one : i ≡ 1 = eqb-true i 1 is in absurd (omega arith)
    go false is = refl

later_text : (seed i : ℕ) (more : List ℕ) → 2 ≤ i → line_at seed i ++ more ≡ 124 ∷ 124 ∷ 32 ∷ loop_text (stage_sends (word_at seed (i - 1)) i) i more
later_text seed i more late =
    let loop = loop_text (stage_sends (word_at seed (i - 1)) i) i more in
    stage_text (word_at seed (i - 1)) i more ∙ ap (λ begins. begins ++ loop) (later_begins i late)

rest_stages : (seed count from : ℕ) {at : ℕ} → 2 ≤ from → from + count ≤ 401
    → Rest (StagesHere from count) 0 at (flat_map (line_at seed) (range_with_len from count) ++ (codes "end\n" ++ []))
rest_stages seed zero from late few = rest_end
rest_stages seed (suc count) from late few =
    let behind = flat_map (line_at seed) (range_with_len (from + 1) count) in
    rest_of_text (append_assoc (line_at seed from) behind (codes "end\n" ++ []) ∙ later_text seed from (behind ++ (codes "end\n" ++ [])) late)
    (rest_pair mark.BarBar 124 124 refl refl (omega arith) (rest_blank 32 refl
    (rest_as (λ ts here. more_here ts _ here)
    (rest_loop (word_at seed (from - 1)) from (behind ++ (codes "end\n" ++ [])) (omega arith)
    (λ to. rest_stages seed count (from + 1) (omega arith) (omega arith))))))

-- tokens that are the body of a program, up to its end
pub record BodyHere (stages : ℕ) (ts : List Token) : Type 0 where
  pub statement : Statement
  pub end : Span
  pub derives : Par ts (word key.End end ∷ []) statement
  pub is : IsBody stages statement

body_here : {stages : ℕ} (ts : List Token) → StageHere 1 (StagesHere 2 (stages - 1)) ts → BodyHere stages ts
body_here ts here =
    let behind = here.left_here in record {
      statement = parallel_of here.statement behind.others;
      end = behind.end;
      derives = the_par here.derives behind.derives;
      is = record { first = here.statement; others = behind.others; is_first = here.is; are_others = behind.are; is = refl };
    }

pub rest_body : (seed stages : ℕ) {at : ℕ} → 1 ≤ stages → stages ≤ 400
    → Rest (BodyHere stages) 0 at ((generated_stages seed stages ++ (codes "end\n" ++ [])))
rest_body seed stages some few =
    let behind = flat_map (line_at seed) (range_with_len 2 (stages - 1)) in
    let count : stages ≡ suc (stages - 1) = omega (arith, some) in
    let split : generated_stages seed stages ≡ line_at seed 1 ++ behind = ap (λ n. flat_map (line_at seed) (range_with_len 1 n)) count in
    rest_of_text (ap (λ t. t ++ (codes "end\n" ++ [])) split ∙ append_assoc (line_at seed 1) behind (codes "end\n" ++ [])
    ∙ stage_text (word_at seed 0) 1 (behind ++ (codes "end\n" ++ [])))
    (rest_as (λ ts here. body_here ts here)
    (rest_loop (word_at seed 0) 1 (behind ++ (codes "end\n" ++ [])) (omega arith) (λ to. rest_stages seed (stages - 1) 2 (omega arith) (omega arith))))

-- ---- the declarations

-- tokens that are declarations and the body behind them
pub record ProgramHere (stages : ℕ) (ws : List Wanted) (ts : List Token) : Type 0 where
  pub declared : Declared
  pub begin : Span
  pub rest : List Token
  pub derives : Declarations ts (word key.Begin begin ∷ rest) declared
  pub procs : declared.procs ≡ []
  pub are : AreWanted ws declared.decls
  pub body : BodyHere stages rest

begin_here : {stages : ℕ} (ts : List Token) (b : Span) → BodyHere stages ts → ProgramHere stages [] (word key.Begin b ∷ ts)
begin_here ts b here = record {
  declared = no_declared;
  begin = b;
  rest = ts;
  derives = no_declaration;
  procs = refl;
  are = tt;
  body = here;
}

declared_here : {stages : ℕ} {ws : List Wanted} (kind : DeclKind) (letter number : ℕ) (t : Token) (s c p e : Span) (ts : List Token)
    → Declaration (t ∷ name (numbered letter number) s ∷ sign mark.Colon c ∷ numeral 8 p ∷ sign mark.Semicolon e ∷ ts) ts
    (valued (unset kind (named (numbered letter number) s) 8 p))
    → ProgramHere stages ws ts
    → ProgramHere stages (wanted kind letter number ∷ ws) (t ∷ name (numbered letter number) s ∷ sign mark.Colon c ∷ numeral 8 p ∷ sign mark.Semicolon e ∷ ts)
declared_here kind letter number t s c p e ts derives here = record {
  declared = and_item (valued (unset kind (named (numbered letter number) s) 8 p)) here.declared;
  begin = here.begin;
  rest = here.rest;
  derives = one_more_declaration derives here.derives;
  procs = here.procs;
  are = (record { kind = refl; name = refl; width = refl; first = refl }, here.are);
  body = here.body;
}

eight : Spells (Number 8) (56 ∷ [])
eight = inl (record { some = omega arith; digits = refl; value = refl; fits = omega arith })

-- the rest of a declaration behind its word
rest_declared : {P : List Token → Type 0} {at : ℕ} (letter n : ℕ) (more : List ℕ) → n ≤ 400 → word_part letter ≡ true → IsName (numbered letter n)
    → ((s c p e : Span) (to : ℕ) → Rest (λ ts. P (name (numbered letter n) s ∷ sign mark.Colon c ∷ numeral 8 p ∷ sign mark.Semicolon e ∷ ts)) 0 to more)
    → Rest P 0 at (numbered letter n ++ 32 ∷ 58 ∷ 32 ∷ 56 ∷ 59 ∷ 10 ∷ more)
rest_declared letter n more few part named next =
    rest_name letter n (32 ∷ 58 ∷ 32 ∷ 56 ∷ 59 ∷ 10 ∷ more) few part named refl (omega arith)
    (rest_blank 32 refl
    (rest_sign mark.Colon 58 32 refl refl refl (omega arith)
    (rest_blank 32 refl
    (rest_word (Number 8) (56 ∷ []) (59 ∷ 10 ∷ more) (omega arith) refl refl eight (omega arith)
    (rest_sign mark.Semicolon 59 10 refl refl refl (omega arith)
    (rest_blank 10 refl (next _ _ _ _ _)))))))

pub declared_text : (front : List ℕ) (n : ℕ) (more : List ℕ) → byte_line front n ++ more ≡ front ++ (decimal n ++ 32 ∷ 58 ∷ 32 ∷ 56 ∷ 59 ∷ 10 ∷ more)
declared_text front n more = append_assoc front (decimal n ++ (codes " : 8;\n" ++ [])) more
    ∙ ap (λ t. front ++ t) (append_assoc (decimal n) (codes " : 8;\n" ++ []) more)

module _ {stages : ℕ} {ws : List Wanted} (n : ℕ) (more : List ℕ) (few : n ≤ 400) (next : (at : ℕ) → Rest (ProgramHere stages ws) 0 at more) where
  pub rest_in : {at : ℕ} → Rest (ProgramHere stages (wanted declares.In 99 n ∷ ws)) 0 at (byte_line (codes "in c") n ++ more)
  rest_in = rest_of_text (declared_text (codes "in c") n more)
      (rest_word (Word key.In) (codes "in") (32 ∷ 99 ∷ (decimal n ++ 32 ∷ 58 ∷ 32 ∷ 56 ∷ 59 ∷ 10 ∷ more)) (omega arith) refl refl refl (omega arith)
      (rest_blank 32 refl (rest_declared 99 n more few refl (channel_name n few)
      (λ s c p e to. rest_as (λ ts here. declared_here declares.In 99 n _ s c p e ts (a_channel refl) here) (next to)))))

  pub rest_out : {at : ℕ} → Rest (ProgramHere stages (wanted declares.Out 99 n ∷ ws)) 0 at (byte_line (codes "out c") n ++ more)
  rest_out = rest_of_text (declared_text (codes "out c") n more)
      (rest_word (Word key.Out) (codes "out") (32 ∷ 99 ∷ (decimal n ++ 32 ∷ 58 ∷ 32 ∷ 56 ∷ 59 ∷ 10 ∷ more)) (omega arith) refl refl refl (omega arith)
      (rest_blank 32 refl (rest_declared 99 n more few refl (channel_name n few)
      (λ s c p e to. rest_as (λ ts here. declared_here declares.Out 99 n _ s c p e ts (a_channel refl) here) (next to)))))

  pub rest_chan : {at : ℕ} → Rest (ProgramHere stages (wanted declares.Chan 99 n ∷ ws)) 0 at (byte_line (codes "chan c") n ++ more)
  rest_chan = rest_of_text (declared_text (codes "chan c") n more)
      (rest_word (Word key.Chan) (codes "chan") (32 ∷ 99 ∷ (decimal n ++ 32 ∷ 58 ∷ 32 ∷ 56 ∷ 59 ∷ 10 ∷ more)) (omega arith) refl refl refl (omega arith)
      (rest_blank 32 refl (rest_declared 99 n more few refl (channel_name n few)
      (λ s c p e to. rest_as (λ ts here. declared_here declares.Chan 99 n _ s c p e ts (a_channel refl) here) (next to)))))

  pub rest_var : {at : ℕ} → Rest (ProgramHere stages (wanted declares.Var 118 n ∷ ws)) 0 at (byte_line (codes "var v") n ++ more)
  rest_var = rest_of_text (declared_text (codes "var v") n more)
      (rest_word (Word key.Var) (codes "var") (32 ∷ 118 ∷ (decimal n ++ 32 ∷ 58 ∷ 32 ∷ 56 ∷ 59 ∷ 10 ∷ more)) (omega arith) refl refl refl (omega arith)
      (rest_blank 32 refl (rest_declared 118 n more few refl (variable_name n few)
      (λ s c p e to. rest_as (λ ts here. declared_here declares.Var 118 n _ s c p e ts a_variable here) (next to)))))

-- ---- all of them

rest_begin : (seed stages : ℕ) {at : ℕ} → 1 ≤ stages → stages ≤ 400
    → Rest (ProgramHere stages []) 0 at (codes "begin\n" ++ (generated_stages seed stages ++ (codes "end\n" ++ [])))
rest_begin seed stages some few =
    rest_word (Word key.Begin) (codes "begin") (10 ∷ ((generated_stages seed stages ++ (codes "end\n" ++ [])))) (omega arith) refl refl refl (omega arith)
    (rest_blank 10 refl (rest_as (λ ts here. begin_here ts _ here) (rest_body seed stages some few)))

rest_variables : {stages : ℕ} (count from : ℕ) {at : ℕ} (more : List ℕ) → from + count ≤ 401 → ((to : ℕ) → Rest (ProgramHere stages []) 0 to more)
    → Rest (ProgramHere stages (stage_variables from count)) 0 at (flat_map (byte_line (codes "var v")) (range_with_len from count) ++ more)
rest_variables zero from more few next = next _
rest_variables (suc count) from more few next =
    let behind = flat_map (byte_line (codes "var v")) (range_with_len (from + 1) count) in
    rest_of_text (append_assoc (byte_line (codes "var v") from) behind more)
    (rest_var from (behind ++ more) (omega arith) (λ to. rest_variables count (from + 1) more (omega arith) next))

rest_channels : {stages : ℕ} {ws : List Wanted} (count from : ℕ) {at : ℕ} (more : List ℕ) → from + count ≤ 401 →
    ((to : ℕ) → Rest (ProgramHere stages ws) 0 to more)
    → Rest (ProgramHere stages (inner_channels from count ws)) 0 at (flat_map (byte_line (codes "chan c")) (range_with_len from count) ++ more)
rest_channels zero from more few next = next _
rest_channels (suc count) from more few next =
    let behind = flat_map (byte_line (codes "chan c")) (range_with_len (from + 1) count) in
    rest_of_text (append_assoc (byte_line (codes "chan c") from) behind more)
    (rest_chan from (behind ++ more) (omega arith) (λ to. rest_channels count (from + 1) more (omega arith) next))

-- the text, line after line
abbrev pub text_behind : (seed stages : ℕ) → List ℕ
text_behind seed stages = codes "begin\n" ++ (generated_stages seed stages ++ (codes "end\n" ++ []))

pub whole_text : (seed stages : ℕ) → generated_text seed stages
    ≡ byte_line (codes "in c") 0 ++ (flat_map (byte_line (codes "chan c")) (range_with_len 1 (stages - 1)) ++ (byte_line (codes "out c") stages
    ++ (generated_variables stages ++ text_behind seed stages)))
whole_text seed stages =
    let inner = flat_map (byte_line (codes "chan c")) (range_with_len 1 (stages - 1)) in
    let behind = generated_variables stages ++ text_behind seed stages in
    append_assoc (byte_line (codes "in c") 0) (inner ++ (byte_line (codes "out c") stages ++ [])) behind
    ∙ ap (λ t. byte_line (codes "in c") 0 ++ t) (append_assoc inner (byte_line (codes "out c") stages ++ []) behind
    ∙ ap (λ t. inner ++ t) (append_assoc (byte_line (codes "out c") stages) [] behind))

pub rest_program : (seed stages : ℕ) → 1 ≤ stages → stages ≤ 400 → Rest (ProgramHere stages (all_wanted stages)) 0 0 (generated_text seed stages)
rest_program seed stages some few =
    let last = generated_variables stages ++ text_behind seed stages in
    let inner = flat_map (byte_line (codes "chan c")) (range_with_len 1 (stages - 1)) in
    rest_of_text (whole_text seed stages)
    (rest_in 0 (inner ++ (byte_line (codes "out c") stages ++ last)) (omega arith)
    (λ to. rest_channels (stages - 1) 1 (byte_line (codes "out c") stages ++ last) (omega arith)
    (λ at. rest_out stages last few
    (λ place. rest_variables stages 1 (text_behind seed stages) (omega arith) (λ from. rest_begin seed stages some few)))))
