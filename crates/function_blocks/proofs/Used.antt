-- In the gates of an expression each gate is an output, or an input of a later one.
use Rattle.std.proofs.Common.{◌≡◌, ℕ, zero, suc, ◌+◌, ◌-◌, ◌<◌, ◌==◌, Bool, true, false, List, [], ◌∷◌, ◌++◌, length, map, refl, sym, ap, ◌∙◌, arith}
use Rattle.std.specs.Prelude.{◌||◌}
use Rattle.std.specs.List.{list_any}
use Rattle.std.proofs.Math.Logic.{⊎_elim}
use Rattle.chp_syntax.specs.declared.tree.Op.{Op}
use Rattle.chp_syntax.specs.declared.tree.Op.TheVariants.{And, Or, Xor, Add, Sub, Eq, Ne, Lt, Le, Gt, Ge}
use Rattle.width_check.specs.Processes.{Formula, constant, reading, joined, inverted, chained, compared, Formulas, no_parts, and_part, Operations, no_operations, and_operation}
use Rattle.width_check.specs.Values.{width_of, IsWellFormed, AreWellFormed, AreOperations}
use Rattle.prs_core.specs.Deciding.{left_of, right_of, both_of}
use Rattle.function_blocks.specs.Gates.{all_one, some_one, odd_ones, carries, alike, borrows}
use Rattle.function_blocks.specs.Parts.{Input, input, turned_over, BlockPart, made, fixed_parts, read_parts, inputs_from, bitwise_parts, result_inputs, ripple_parts, ripple_inputs, borrow_parts, conjunction_parts, all_parts, equality_parts, last_from, equal_input, less_input, operator_parts, operator_inputs, operator_gates, gate_count, outs_of, joined_outs, chained_outs, block_parts, joined_parts, chained_parts}
use Rattle.function_blocks.proofs.Tables.{or_left, or_right, or_true}
use Rattle.function_blocks.proofs.GateLists.{names, wanted, used}
use Rattle.function_blocks.proofs.PartSizes.{bitwise_length, fixed_length, read_length, operator_length, each_output, outs_length, parts_length}
use Rattle.function_blocks.proofs.Ordered.{eq_self}

abbrev pub member : List Input → ℕ → Bool
member us k = list_any (λ (i : Input). i.at == k) us

used_at : (out : ℕ → Bool) (n m : ℕ) (gs : List BlockPart) → n ≡ m → used out n gs ≡ true → used out m gs ≡ true
used_at out n m gs e h = ap (λ k. used out k gs) (sym e) ∙ h

used_more : (p q : ℕ → Bool) → ((k : ℕ) → p k ≡ true → q k ≡ true) → (from : ℕ) (gs : List BlockPart) → used p from gs ≡ true → used q from gs ≡ true
used_more p q f from [] h = refl
used_more p q f from (g ∷ gs) h =
    both_of _ _ (⊎_elim (λ (e : p from ≡ true). or_left (q from) (wanted gs from) (f from e))
    (λ (e : wanted gs from ≡ true). or_right (q from) (wanted gs from) e) (or_true _ _ (left_of _ _ h)))
    (used_more p q f (suc from) gs (right_of (p from || wanted gs from) _ h))

wanted_left : (gs hs : List BlockPart) (k : ℕ) → wanted gs k ≡ true → wanted (gs ++ hs) k ≡ true
wanted_left [] hs k h = absurd (cc h)
wanted_left (g ∷ gs) hs k h = ⊎_elim
    (λ (d : names g k ≡ true). or_left (names g k) (wanted (gs ++ hs) k) d)
    (λ (d : wanted gs k ≡ true). or_right (names g k) (wanted (gs ++ hs) k) (wanted_left gs hs k d))
    (or_true _ _ h)

wanted_right : (gs hs : List BlockPart) (k : ℕ) → wanted hs k ≡ true → wanted (gs ++ hs) k ≡ true
wanted_right [] hs k h = h
wanted_right (g ∷ gs) hs k h = or_right (names g k) (wanted (gs ++ hs) k) (wanted_right gs hs k h)

used_append : (out : ℕ → Bool) (from : ℕ) (gs hs : List BlockPart) → used (λ k. out k || wanted hs k) from gs ≡ true → used out (from + length gs) hs ≡ true
    → used out from (gs ++ hs) ≡ true
used_append out from [] hs h k = used_at out (from + 0) from hs (omega arith) k
used_append out from (g ∷ gs) hs h k =
    both_of _ _ (swap (out from) (wanted hs from) (wanted gs from) (wanted (gs ++ hs) from) (wanted_left gs hs from) (wanted_right gs hs from) (left_of _ _ h))
    (used_append out (suc from) gs hs (right_of ((out from || wanted hs from) || wanted gs from) _ h)
    (used_at out (from + suc (length gs)) (suc from + length gs) hs (omega arith) k))
  where
    swap : (a b c d : Bool) → (c ≡ true → d ≡ true) → (b ≡ true → d ≡ true) → ((a || b) || c) ≡ true → (a || d) ≡ true
    swap true b c d f g h = refl
    swap false true c d f g h = g refl
    swap false false true d f g h = f refl
    swap false false false d f g h = absurd (cc h)

used_all : (out : ℕ → Bool) (from : ℕ) (gs : List BlockPart) → ((j : ℕ) → j < length gs → out (from + j) ≡ true) → used out from gs ≡ true
used_all out from [] f = refl
used_all out from (g ∷ gs) f =
    both_of _ _ (or_left (out from) (wanted gs from) (let e : from ≡ from + 0 = omega arith in ap out e ∙ f 0 (omega arith)))
    (used_all out (suc from) gs (λ j l. let e : suc from + j ≡ from + suc j = omega arith in ap out e ∙ f (suc j) (omega arith)))

is_member : (n k : ℕ) (us : List Input) → n ≡ k → member (input n ∷ us) k ≡ true
is_member n k us e = or_left (n == k) (member us k) (ap (λ i. n == i) (sym e) ∙ eq_self n)

results_member : (from : ℕ) (us : List Input) (j : ℕ) → j < length us → member (result_inputs us from) (from + j) ≡ true
results_member from [] j l = absurd (omega arith)
results_member from (a ∷ us) zero l = is_member from (from + 0) (result_inputs us (suc from)) (omega arith)
results_member from (a ∷ us) (suc j) l = or_right (from == (from + suc j)) _
    (let e : from + suc j ≡ suc from + j = omega arith in ap (member (result_inputs us (suc from))) e ∙ results_member (suc from) us j (omega arith))

inputs_member : (from n : ℕ) (j : ℕ) → j < n → member (inputs_from n from) (from + j) ≡ true
inputs_member from zero j l = absurd (omega arith)
inputs_member from (suc n) zero l = is_member from (from + 0) (inputs_from n (suc from)) (omega arith)
inputs_member from (suc n) (suc j) l = or_right (from == (from + suc j)) _
    (let e : from + suc j ≡ suc from + j = omega arith in ap (member (inputs_from n (suc from))) e ∙ inputs_member (suc from) n j (omega arith))

-- what is carried into the next gates is wanted there
carried_third : (a b k : ℕ) → ((a == k) || ((b == k) || ((k == k) || false))) ≡ true
carried_third a b k = or_right (a == k) _ (or_right (b == k) _ (or_left (k == k) false (eq_self k)))

ripple_used : (k : List Bool → Bool) (us vs c : List Input) (from : ℕ) → length vs ≡ length us
    → used (member (ripple_inputs us from)) from (ripple_parts k us vs c from) ≡ true
ripple_used k [] vs c from e = refl
ripple_used k (a ∷ us) [] c from e = absurd (omega arith)
ripple_used k (a ∷ []) (b ∷ vs) c from e = both_of _ _ (or_left _ false (is_member from from [] refl)) refl
ripple_used k (a ∷ d ∷ us) (b ∷ []) c from e = absurd (omega arith)
ripple_used k (a ∷ d ∷ us) (b ∷ f ∷ vs) c from e =
    both_of _ _ (or_left _ _ (is_member from from (ripple_inputs (d ∷ us) (suc (suc from))) refl))
    (both_of _ _ (or_right (member (ripple_inputs (a ∷ d ∷ us) from) (suc from)) _ (carried us vs d f))
    (used_more (member (ripple_inputs (d ∷ us) (suc (suc from)))) (member (ripple_inputs (a ∷ d ∷ us) from)) (λ j h. or_right (from == j) _ h) (suc (suc from))
    (ripple_parts k (d ∷ us) (f ∷ vs) (input (suc from) ∷ []) (suc (suc from)))
    (ripple_used k (d ∷ us) (f ∷ vs) (input (suc from) ∷ []) (suc (suc from)) (omega arith))))
  where
    carried : (us vs : List Input) (d f : Input) → wanted (ripple_parts k (d ∷ us) (f ∷ vs) (input (suc from) ∷ []) (suc (suc from))) (suc from) ≡ true
    carried [] vs d f = or_left _ _ (carried_third d.at f.at (suc from))
    carried (g ∷ us) vs d f = or_left _ _ (carried_third d.at f.at (suc from))

-- of borrows the last is the output
borrow_used_on : (c : Input) (us vs b : List Input) (from : ℕ) → length vs ≡ length us
    → used (member (last_from c from us ∷ [])) from (borrow_parts us vs b from) ≡ true
borrow_used_on c [] vs b from e = refl
borrow_used_on c (a ∷ us) [] b from e = absurd (omega arith)
borrow_used_on c (a ∷ []) (d ∷ []) b from e = both_of _ _ (or_left _ false (is_member from from [] refl)) refl
borrow_used_on c (a ∷ []) (d ∷ f ∷ vs) b from e = absurd (omega arith)
borrow_used_on c (a ∷ g ∷ us) (d ∷ []) b from e = absurd (omega arith)
borrow_used_on c (a ∷ g ∷ us) (d ∷ f ∷ vs) b from e =
    both_of _ _ (or_right (member (last_from c from (a ∷ g ∷ us) ∷ []) from) _ (or_left _ _ (carried_third g.at f.at from)))
    (borrow_used_on (input from) (g ∷ us) (f ∷ vs) (input from ∷ []) (suc from) (omega arith))

last_same : (c : Input) (n : ℕ) (us vs : List Input) → length vs ≡ length us → last_from c n us ≡ last_from c n vs
last_same c n [] [] e = refl
last_same c n [] (b ∷ vs) e = absurd (omega arith)
last_same c n (a ∷ us) [] e = absurd (omega arith)
last_same c n (a ∷ us) (b ∷ vs) e = last_same (input n) (suc n) us vs (omega arith)

pub less_same : (us vs : List Input) (from : ℕ) → length vs ≡ length us → less_input us from ≡ less_input vs from
less_same [] [] from e = refl
less_same [] (b ∷ vs) from e = absurd (omega arith)
less_same (a ∷ us) [] from e = absurd (omega arith)
less_same (a ∷ us) (b ∷ vs) from e = last_same (input from) (suc from) us vs (omega arith)

borrow_used : (us vs : List Input) (from : ℕ) → length vs ≡ length us → used (member (less_input us from ∷ [])) from (borrow_parts us vs [] from) ≡ true
borrow_used [] vs from e = refl
borrow_used (a ∷ us) vs from e = borrow_used_on (input from) (a ∷ us) vs [] from e

conjunction_used : (c : Input) (us : List Input) (from : ℕ) → used (member (last_from c from us ∷ [])) from (conjunction_parts c us from) ≡ true
conjunction_used c [] from = refl
conjunction_used c (a ∷ []) from = both_of _ _ (or_left _ false (is_member from from [] refl)) refl
conjunction_used c (a ∷ d ∷ us) from =
    both_of _ _ (or_right (member (last_from c from (a ∷ d ∷ us) ∷ []) from) _ (or_left _ _ (or_left (from == from) _ (eq_self from))))
    (conjunction_used (input from) (d ∷ us) (suc from))

conjunction_names : (c : Input) (us : List Input) (from k : ℕ) → member us k ≡ true → wanted (conjunction_parts c us from) k ≡ true
conjunction_names c [] from k h = absurd (cc h)
conjunction_names c (a ∷ us) from k h = ⊎_elim
    (λ (d : (a.at == k) ≡ true). or_left _ _ (or_right (c.at == k) _ (or_left (a.at == k) false d)))
    (λ (d : member us k ≡ true). or_right (names (made all_one c (a ∷ [])) k) _ (conjunction_names (input from) us (suc from) k d))
    (or_true _ _ h)

conjunction_wants : (c a : Input) (us : List Input) (from k : ℕ) → member (c ∷ a ∷ us) k ≡ true → wanted (conjunction_parts c (a ∷ us) from) k ≡ true
conjunction_wants c a us from k h = ⊎_elim
    (λ (e : (c.at == k) ≡ true). or_left _ _ (or_left (c.at == k) _ e))
    (λ (e : member (a ∷ us) k ≡ true). conjunction_names c (a ∷ us) from k e)
    (or_true _ _ h)

last_results : (c : Input) (n k : ℕ) (us : List Input) → last_from c n us ≡ last_from c n (result_inputs us k)
last_results c n k [] = refl
last_results c n k (a ∷ us) = last_results (input n) (suc n) (suc k) us

equality_used : (us vs : List Input) (from : ℕ) → length vs ≡ length us → used (member (equal_input us from ∷ [])) from (equality_parts us vs from) ≡ true
equality_used [] vs from e = refl
equality_used (a ∷ us) [] from e = absurd (omega arith)
equality_used (a ∷ []) (b ∷ vs) from e = both_of _ _ (or_left _ _ (is_member from from [] refl)) (none vs)
  where
    none : (vs : List Input) → used (member (equal_input (a ∷ []) from ∷ [])) (suc from)
        (bitwise_parts alike [] vs ++ all_parts (result_inputs (a ∷ []) from) (from + 1)) ≡ true
    none vs = refl
equality_used (a ∷ d ∷ us) (b ∷ vs) from e =
    let gs = bitwise_parts alike (a ∷ d ∷ us) (b ∷ vs) in
    let next = from + length (a ∷ d ∷ us) in
    let hs = conjunction_parts (input from) (result_inputs (d ∷ us) (suc from)) next in
    let out = member (equal_input (a ∷ d ∷ us) from ∷ []) in
    let n = bitwise_length alike (a ∷ d ∷ us) (b ∷ vs) e in
    used_append out from gs hs
    (used_all (λ k. out k || wanted hs k) from gs (λ j l. or_right (out (from + j)) _
    (conjunction_wants (input from) (input (suc from)) (result_inputs us (suc (suc from))) next (from + j)
    (results_member from (a ∷ d ∷ us) j (omega (arith, n, l))))))
    (used_at out next _ hs (omega (arith, n)) (ap (λ i. used (member (i ∷ [])) next hs) (last_results (input from) next (suc from) (d ∷ us))
    ∙ conjunction_used (input from) (result_inputs (d ∷ us) (suc from)) next))

turned_member : (us : List Input) (k : ℕ) → member us k ≡ true → member (map turned_over us) k ≡ true
turned_member [] k h = h
turned_member (a ∷ us) k h =
    ⊎_elim (λ (e : (a.at == k) ≡ true). or_left _ _ e) (λ (e : member us k ≡ true). or_right (a.at == k) _ (turned_member us k e)) (or_true _ _ h)

operator_used : (op : Op) (from : ℕ) (us vs : List Input) → length vs ≡ length us
    → used (member (operator_inputs op us from)) from (operator_parts op us vs from) ≡ true
operator_used And from us vs e = used_all (member (result_inputs us from)) from (bitwise_parts all_one us vs)
    (λ j l. results_member from us j (let n = bitwise_length all_one us vs e in omega (arith, n)))
operator_used Or from us vs e = used_all (member (result_inputs us from)) from (bitwise_parts some_one us vs)
    (λ j l. results_member from us j (let n = bitwise_length some_one us vs e in omega (arith, n)))
operator_used Xor from us vs e = used_all (member (result_inputs us from)) from (bitwise_parts odd_ones us vs)
    (λ j l. results_member from us j (let n = bitwise_length odd_ones us vs e in omega (arith, n)))
operator_used Add from us vs e = ripple_used carries us vs [] from e
operator_used Sub from us vs e = ripple_used borrows us vs [] from e
operator_used Eq from us vs e = equality_used us vs from e
operator_used Ne from us vs e = equality_used us vs from e
operator_used Lt from us vs e = borrow_used us vs from e
operator_used Ge from us vs e = borrow_used us vs from e
operator_used Gt from us vs e = ap (λ i. used (member (i ∷ [])) from (borrow_parts vs us [] from)) (less_same us vs from e) ∙ borrow_used vs us from (sym e)
operator_used Le from us vs e = ap (λ i. used (member (i ∷ [])) from (borrow_parts vs us [] from)) (less_same us vs from e) ∙ borrow_used vs us from (sym e)

-- each bit of both numbers is an input of the operator's gates
abbrev Names : List Input → List Input → List BlockPart → Type 0
Names us vs gs = (k : ℕ) → (member us k || member vs k) ≡ true → wanted gs k ≡ true

cases : (a b c d x y : Bool) → (a ≡ true → (x || y) ≡ true) → (c ≡ true → (x || y) ≡ true) → ((b || d) ≡ true → (x || y) ≡ true) → ((a || b) || (c || d)) ≡ true
    → (x || y) ≡ true
cases true b c d x y f g k h = f refl
cases false b true d x y f g k h = g refl
cases false true false d x y f g k h = k refl
cases false false false true x y f g k h = k refl
cases false false false false x y f g k h = absurd (cc h)

bitwise_names : (f : List Bool → Bool) (us vs : List Input) → length vs ≡ length us → Names us vs (bitwise_parts f us vs)
bitwise_names f [] [] e k h = absurd (cc h)
bitwise_names f [] (b ∷ vs) e k h = absurd (omega arith)
bitwise_names f (a ∷ us) [] e k h = absurd (omega arith)
bitwise_names f (a ∷ us) (b ∷ vs) e k h = cases (a.at == k) (member us k) (b.at == k) (member vs k) (names (made f a (b ∷ [])) k) _
    (λ q. or_left _ _ (or_left (a.at == k) _ q)) (λ q. or_left _ _ (or_right (a.at == k) _ (or_left (b.at == k) _ q)))
    (λ q. or_right (names (made f a (b ∷ [])) k) _ (bitwise_names f us vs (omega arith) k q)) h

ripple_names : (m : List Bool → Bool) (us vs c : List Input) (from : ℕ) → length vs ≡ length us → Names us vs (ripple_parts m us vs c from)
ripple_names m [] [] c from e k h = absurd (cc h)
ripple_names m [] (b ∷ vs) c from e k h = absurd (omega arith)
ripple_names m (a ∷ us) [] c from e k h = absurd (omega arith)
ripple_names m (a ∷ []) (b ∷ []) c from e k h = cases (a.at == k) false (b.at == k) false (names (made odd_ones a (b ∷ c)) k) false
    (λ q. or_left _ _ (or_left (a.at == k) _ q)) (λ q. or_left _ _ (or_right (a.at == k) _ (or_left (b.at == k) _ q))) (λ q. absurd (cc q)) h
ripple_names m (a ∷ []) (b ∷ f ∷ vs) c from e k h = absurd (omega arith)
ripple_names m (a ∷ d ∷ us) (b ∷ vs) c from e k h = cases (a.at == k) (member (d ∷ us) k) (b.at == k) (member vs k) (names (made odd_ones a (b ∷ c)) k) _
    (λ q. or_left _ _ (or_left (a.at == k) _ q)) (λ q. or_left _ _ (or_right (a.at == k) _ (or_left (b.at == k) _ q)))
    (λ q. or_right (names (made odd_ones a (b ∷ c)) k) _ (or_right (names (made m a (b ∷ c)) k) _
    (ripple_names m (d ∷ us) vs (input (suc from) ∷ []) (suc (suc from)) (omega arith) k q))) h

borrow_names : (us vs c : List Input) (from : ℕ) → length vs ≡ length us → Names us vs (borrow_parts us vs c from)
borrow_names [] [] c from e k h = absurd (cc h)
borrow_names [] (b ∷ vs) c from e k h = absurd (omega arith)
borrow_names (a ∷ us) [] c from e k h = absurd (omega arith)
borrow_names (a ∷ us) (b ∷ vs) c from e k h = cases (a.at == k) (member us k) (b.at == k) (member vs k) (names (made borrows a (b ∷ c)) k) _
    (λ q. or_left _ _ (or_left (a.at == k) _ q)) (λ q. or_left _ _ (or_right (a.at == k) _ (or_left (b.at == k) _ q)))
    (λ q. or_right (names (made borrows a (b ∷ c)) k) _ (borrow_names us vs (input from ∷ []) (suc from) (omega arith) k q)) h

swapped : (a b : Bool) → (a || b) ≡ true → (b || a) ≡ true
swapped true true h = refl
swapped true false h = refl
swapped false true h = refl
swapped false false h = h

operator_names : (op : Op) (from : ℕ) (us vs : List Input) → length vs ≡ length us → Names us vs (operator_parts op us vs from)
operator_names And from us vs e k h = bitwise_names all_one us vs e k h
operator_names Or from us vs e k h = bitwise_names some_one us vs e k h
operator_names Xor from us vs e k h = bitwise_names odd_ones us vs e k h
operator_names Add from us vs e k h = ripple_names carries us vs [] from e k h
operator_names Sub from us vs e k h = ripple_names borrows us vs [] from e k h
operator_names Eq from us vs e k h =
    wanted_left (bitwise_parts alike us vs) (all_parts (result_inputs us from) (from + length us)) k (bitwise_names alike us vs e k h)
operator_names Ne from us vs e k h =
    wanted_left (bitwise_parts alike us vs) (all_parts (result_inputs us from) (from + length us)) k (bitwise_names alike us vs e k h)
operator_names Lt from us vs e k h = borrow_names us vs [] from e k h
operator_names Ge from us vs e k h = borrow_names us vs [] from e k h
operator_names Gt from us vs e k h = borrow_names vs us [] from (sym e) k (swapped (member us k) (member vs k) h)
operator_names Le from us vs e k h = borrow_names vs us [] from (sym e) k (swapped (member us k) (member vs k) h)

member_left : (us vs : List Input) (k : ℕ) → member us k ≡ true → member (us ++ vs) k ≡ true
member_left [] vs k h = absurd (cc h)
member_left (a ∷ us) vs k h =
    ⊎_elim (λ (e : (a.at == k) ≡ true). or_left _ _ e) (λ (e : member us k ≡ true). or_right (a.at == k) _ (member_left us vs k e)) (or_true _ _ h)

member_right : (us vs : List Input) (k : ℕ) → member vs k ≡ true → member (us ++ vs) k ≡ true
member_right [] vs k h = h
member_right (a ∷ us) vs k h = or_right (a.at == k) _ (member_right us vs k h)

-- Of a chain: its own gates are used, and so is each bit of what it goes on from.
mutual
  pub parts_used : (e : Formula) (from : ℕ) → IsWellFormed e → used (member (outs_of e from)) from (block_parts e from) ≡ true
  parts_used (constant w v) from h =
      used_all (member (inputs_from w from)) from (fixed_parts w v) (λ j l. inputs_member from w j (let n = fixed_length w v in omega (arith, n)))
  parts_used (reading x high low at) from h = used_all (member (inputs_from (high + 1 - low) from)) from (read_parts x low (high + 1 - low))
      (λ j l. inputs_member from (high + 1 - low) j (let n = read_length x low (high + 1 - low) in omega (arith, n)))
  parts_used (joined parts) from h = joined_used parts from h.2
  parts_used (inverted e) from h =
      used_more (member (outs_of e from)) (member (map turned_over (outs_of e from))) (turned_member (outs_of e from)) from (block_parts e from)
      (parts_used e from h)
  parts_used (chained e more) from h =
      let us = outs_of e from in
      let next = from + gate_count e in
      let rest = chained_parts (width_of e) us more next in
      let out = member (chained_outs (width_of e) us more next) in
      used_append out from (block_parts e from) rest
      (used_more (member us) (λ k. out k || wanted rest k) (chained_names (width_of e) us more next (outs_length e from h.0) h.2) from (block_parts e from)
      (parts_used e from h.0))
      (used_at out next _ rest (ap (λ k. from + k) (sym (parts_length e from h.0))) (chained_used (width_of e) us more next (outs_length e from h.0) h.2))
  parts_used (compared op e f) from h =
      let us = outs_of e from in
      let fb = from + gate_count e in
      let vs = outs_of f fb in
      let fo = fb + gate_count f in
      let own = operator_parts op us vs fo in
      let out = member (operator_inputs op us fo) in
      let same : length vs ≡ length us = outs_length f fb h.3 ∙ (h.1 ∙ sym (outs_length e from h.2)) in
      used_append out from (block_parts e from) (block_parts f fb ++ own)
      (used_more (member us) (λ k. out k || wanted (block_parts f fb ++ own) k)
      (λ k q. or_right (out k) _ (wanted_right (block_parts f fb) own k (operator_names op fo us vs same k (or_left _ _ q)))) from (block_parts e from)
      (parts_used e from h.2))
      (used_at out fb _ (block_parts f fb ++ own) (ap (λ k. from + k) (sym (parts_length e from h.2)))
      (used_append out fb (block_parts f fb) own
      (used_more (member vs) (λ k. out k || wanted own k) (λ k q. or_right (out k) _ (operator_names op fo us vs same k (or_right (member us k) _ q))) fb
      (block_parts f fb) (parts_used f fb h.3))
      (used_at out fo _ own (ap (λ k. fb + k) (sym (parts_length f fb h.3))) (operator_used op fo us vs same))))

  joined_used : (parts : Formulas) (from : ℕ) → AreWellFormed parts → used (member (joined_outs parts from)) from (joined_parts parts from) ≡ true
  joined_used no_parts from h = refl
  joined_used (and_part e more) from h =
      let next = from + gate_count e in
      let out = member (joined_outs more next ++ outs_of e from) in
      used_append out from (block_parts e from) (joined_parts more next)
      (used_more (member (outs_of e from)) (λ k. out k || wanted (joined_parts more next) k)
      (λ k q. or_left (out k) _ (member_right (joined_outs more next) (outs_of e from) k q)) from (block_parts e from) (parts_used e from h.0))
      (used_at out next _ (joined_parts more next) (ap (λ k. from + k) (sym (parts_length e from h.0)))
      (used_more (member (joined_outs more next)) out (member_left (joined_outs more next) (outs_of e from)) next (joined_parts more next)
      (joined_used more next h.1)))

  chained_used : (width : ℕ) (left : List Input) (more : Operations) (from : ℕ) → length left ≡ width → AreOperations width more
      → used (member (chained_outs width left more from)) from (chained_parts width left more from) ≡ true
  chained_used width left no_operations from is h = refl
  chained_used width left (and_operation op e more) from is h =
      let vs = outs_of e from in
      let next = from + gate_count e in
      let own = operator_parts op left vs next in
      let after = next + operator_gates op width in
      let result = operator_inputs op left next in
      let rest = chained_parts width result more after in
      let out = member (chained_outs width result more after) in
      let same : length vs ≡ length left = outs_length e from h.2 ∙ (h.1 ∙ sym is) in
      let gates : length own ≡ operator_gates op width = operator_length op left vs next same ∙ ap (operator_gates op) is in
      let wide = each_output op left next h.0 ∙ is in
      used_append out from (block_parts e from) (own ++ rest)
      (used_more (member vs) (λ k. out k || wanted (own ++ rest) k)
      (λ k q. or_right (out k) _ (wanted_left own rest k (operator_names op next left vs same k (or_right (member left k) _ q)))) from (block_parts e from)
      (parts_used e from h.2))
      (used_at out next _ (own ++ rest) (ap (λ k. from + k) (sym (parts_length e from h.2)))
      (used_append out next own rest
      (used_more (member result) (λ k. out k || wanted rest k) (chained_names width result more after wide h.3) next own (operator_used op next left vs same))
      (used_at out after _ rest (ap (λ k. next + k) (sym gates)) (chained_used width result more after wide h.3))))

  chained_names : (width : ℕ) (left : List Input) (more : Operations) (from : ℕ) → length left ≡ width → AreOperations width more → (k : ℕ)
      → member left k ≡ true → (member (chained_outs width left more from) k || wanted (chained_parts width left more from) k) ≡ true
  chained_names width left no_operations from is h k q = or_left _ _ q
  chained_names width left (and_operation op e more) from is h k q =
      let vs = outs_of e from in
      let next = from + gate_count e in
      let own = operator_parts op left vs next in
      let after = next + operator_gates op width in
      let result = operator_inputs op left next in
      let rest = chained_parts width result more after in
      let same : length vs ≡ length left = outs_length e from h.2 ∙ (h.1 ∙ sym is) in
      or_right (member (chained_outs width result more after) k) _
      (wanted_right (block_parts e from) (own ++ rest) k (wanted_left own rest k (operator_names op next left vs same k (or_left _ _ q))))
