-- The nodes of a statement, first those of the statement in halves in their order, and then the blocks of its hidden
-- variables: together they are all of its nodes.
use Rattle.std.proofs.Common.{◌≡◌, ℕ, suc, ◌+◌, ◌*◌, Bool, true, false, List, [], ◌∷◌, ◌++◌, length, refl, sym, ap, ◌∙◌, subst, arith, length-append, append-nil, append_assoc}
use Rattle.std.specs.Prelude.{if◌then◌else◌}
use Rattle.std.specs.List.Sorted.{IsPermutation}
use Rattle.std.proofs.lemmas.List.Sorted.{IsPermutation-refl, IsPermutation-trans, IsPermutation-append, IsPermutation-append_comm, IsPermutation-append_left, IsPermutation-append_right}
use Rattle.prs_core.specs.Nets.{NodeRules}
use Rattle.prs_core.specs.Pairs.{no_rules}
use Rattle.width_check.specs.Processes.{Formula, Process, skipping, assigning, sending, receiving, in_turn, side_by_side, choosing, repeating, Processes, no_members, and_member, Choices, no_choices, and_choice, choice_count, TypedProgram}
use Rattle.width_check.specs.Reads.{reads}
use Rattle.width_check.specs.Typing.{var_width, IsProcess, AreProcesses, AreChoices}
use Rattle.handshake_expand.specs.Layout.{formula_size, block_size, size_of, branches_size, guards_size, bodies_size}
use Rattle.handshake_expand.specs.Answers.{answer_of, guards_from, bodies_from, select_own, again_own}
use Rattle.cell_select.specs.Selections.{select_rules, again_rules}
use Rattle.cell_sequence.specs.Sequence.{loop_request}
use Rattle.cell_parallel.specs.Trees.{tree_rules}
use Rattle.cell_variable.specs.Variables.{all_written, variable_rules, write_answer}
use Rattle.function_blocks.specs.Expressions.{read_bits, formula_rules, formula_result}
use Rattle.net_compose.specs.Translation.{bits_at, block_bits, written_at, q_rules, through_at, rules_of, turn_rules, branches_rules, bodies_rules, guards_rules, choosing_at, repeating_at, branch_ends, branches_end}
use Rattle.net_compose.proofs.Sizes.{Counted, statement_length}
use Rattle.net_compose.proofs.FlatBlocks.{length-variable_rules}

-- a node with its rules
pub record Numbered : Type 0 where
  pub node : ℕ
  pub rules : NodeRules

abbrev pub numbered : (from : ℕ) → List NodeRules → List Numbered
numbered from [] = []
numbered from (r ∷ rs) = record { node = from; rules = r } ∷ numbered (suc from) rs

pub length-numbered : (from : ℕ) (rs : List NodeRules) → length (numbered from rs) ≡ length rs
length-numbered from [] = refl
length-numbered from (r ∷ rs) = ap suc (length-numbered (suc from) rs)

pub numbered_append : (from : ℕ) (xs ys : List NodeRules) → numbered from (xs ++ ys) ≡ numbered from xs ++ numbered (from + length xs) ys
numbered_append from [] ys = let e : from ≡ from + 0 = omega arith in ap (λ n. numbered n ys) e
numbered_append from (x ∷ xs) ys =
    let e : suc from + length xs ≡ from + suc (length xs) = omega arith in
    ap (λ l. record { node = from; rules = x } ∷ l) (numbered_append (suc from) xs ys ∙ ap (λ n. numbered (suc from) xs ++ numbered n ys) e)

-- the rules of an assignment through a hidden variable that stand behind its block
abbrev pub behind_block : TypedProgram → ℕ → Formula → (request from : ℕ) → List NodeRules
behind_block P x e request from =
    let h = through_at (var_width P.vars x) (formula_size e) from in
    q_rules request h.first h.element
    ++ (write_answer h.element (all_written h.width h.block) ∷ (formula_rules (bits_at P) e h.element (h.first + 1)
    ++ (write_answer (h.element + 2) (written_at P x) ∷ read_bits (h.element + 2) (block_bits h.width h.block))))

-- and its block
abbrev pub hidden_rules : TypedProgram → ℕ → Formula → (from : ℕ) → List NodeRules
hidden_rules P x e from =
    let h = through_at (var_width P.vars x) (formula_size e) from in
    variable_rules h.width h.block (formula_result e (h.first + 1) ∷ [])

abbrev pub own_assign : TypedProgram → Bool → ℕ → Formula → (request from : ℕ) → List Numbered
own_assign P false x e request from = numbered from (write_answer request (written_at P x) ∷ formula_rules (bits_at P) e request (from + 1))
own_assign P true x e request from = numbered (from + block_size (var_width P.vars x)) (behind_block P x e request from)

abbrev pub hidden_assign : TypedProgram → Bool → ℕ → Formula → (from : ℕ) → List Numbered
hidden_assign P false x e from = []
hidden_assign P true x e from = numbered from (hidden_rules P x e from)

-- what stands before the branches of a selection and of a guarded repetition: its own nodes, and the guards
abbrev pub select_front : TypedProgram → Choices → (request from : ℕ) → List NodeRules
select_front P choices request from =
    select_rules (choosing_at P choices request (from + 2) select_own from) ++ guards_rules P choices (from + 1) (guards_from choices select_own from)

abbrev pub again_front : TypedProgram → Choices → (request from : ℕ) → List NodeRules
again_front P choices request from =
    again_rules (repeating_at P choices request from) ++ guards_rules P choices (from + 3) (guards_from choices again_own from)

-- the nodes of the statement in halves
abbrev mutual
  pub own : TypedProgram → Process → (request from : ℕ) → List Numbered
  own P (assigning x at e) request from = own_assign P (reads x e) x e request from
  own P (in_turn members) request from = own_turn P members request from
  own P (side_by_side members) request from =
      own_branches P members request from ++ numbered (from + branches_size P members) (tree_rules (branch_ends P members from) (branches_end P members from))
  own P (repeating s) request from = numbered from (no_rules ∷ loop_request request (answer_of P s (from + 2)) ∷ []) ++ own P s (from + 1) (from + 2)
  own P (choosing false choices) request from =
      numbered from (select_front P choices request from)
      ++ own_bodies P choices (from + select_own + choice_count choices) (bodies_from choices select_own from)
  own P (choosing true choices) request from =
      numbered from (again_front P choices request from)
      ++ own_bodies P choices (from + again_own + choice_count choices) (bodies_from choices again_own from)
  own P s request from = numbered from (rules_of P s request from)

  pub own_turn : TypedProgram → Processes → (request from : ℕ) → List Numbered
  own_turn P no_members request from = []
  own_turn P (and_member s no_members) request from = own P s request from
  own_turn P (and_member s (and_member t more)) request from =
      numbered from (q_rules request (answer_of P s (from + 3)) from)
      ++ (own P s from (from + 3) ++ own_turn P (and_member t more) (from + 2) (from + 3 + size_of P s))

  pub own_branches : TypedProgram → Processes → (request from : ℕ) → List Numbered
  own_branches P no_members request from = []
  own_branches P (and_member s more) request from =
      numbered from (q_rules request (answer_of P s (from + 3)) from)
      ++ (own P s from (from + 3) ++ own_branches P more request (from + 3 + size_of P s))

  pub own_bodies : TypedProgram → Choices → (start from : ℕ) → List Numbered
  own_bodies P no_choices start from = []
  own_bodies P (and_choice g s more) start from = own P s start from ++ own_bodies P more (start + 1) (from + size_of P s)

-- the blocks of its hidden variables, in the order of these
abbrev mutual
  pub hidden : TypedProgram → Process → (from : ℕ) → List Numbered
  hidden P (assigning x at e) from = hidden_assign P (reads x e) x e from
  hidden P (in_turn members) from = hidden_turn P members from
  hidden P (side_by_side members) from = hidden_branches P members from
  hidden P (choosing false choices) from = hidden_bodies P choices (bodies_from choices select_own from)
  hidden P (choosing true choices) from = hidden_bodies P choices (bodies_from choices again_own from)
  hidden P (repeating s) from = hidden P s (from + 2)
  hidden P s from = []

  pub hidden_turn : TypedProgram → Processes → (from : ℕ) → List Numbered
  hidden_turn P no_members from = []
  hidden_turn P (and_member s no_members) from = hidden P s from
  hidden_turn P (and_member s (and_member t more)) from = hidden P s (from + 3) ++ hidden_turn P (and_member t more) (from + 3 + size_of P s)

  pub hidden_branches : TypedProgram → Processes → (from : ℕ) → List Numbered
  hidden_branches P no_members from = []
  hidden_branches P (and_member s more) from = hidden P s (from + 3) ++ hidden_branches P more (from + 3 + size_of P s)

  pub hidden_bodies : TypedProgram → Choices → (from : ℕ) → List Numbered
  hidden_bodies P no_choices from = []
  hidden_bodies P (and_choice g s more) from = hidden P s from ++ hidden_bodies P more (from + size_of P s)

-- two by two
crossed : {X : Type 0} (a b c d : List X) → IsPermutation ((a ++ b) ++ (c ++ d)) ((a ++ c) ++ (b ++ d))
crossed a b c d =
    let first : (a ++ b) ++ (c ++ d) ≡ a ++ ((b ++ c) ++ d) = append_assoc a b (c ++ d) ∙ ap (λ l. a ++ l) (sym (append_assoc b c d)) in
    let last : a ++ ((c ++ b) ++ d) ≡ (a ++ c) ++ (b ++ d) = ap (λ l. a ++ l) (append_assoc c b d) ∙ sym (append_assoc a c (b ++ d)) in
    let middle : IsPermutation (a ++ ((b ++ c) ++ d)) (a ++ ((c ++ b) ++ d)) = IsPermutation-append_right a ((b ++ c) ++ d) ((c ++ b) ++ d)
    (IsPermutation-append_left d (b ++ c) (c ++ b) (IsPermutation-append_comm b c)) in
    subst (λ l. IsPermutation l ((a ++ c) ++ (b ++ d))) (sym first) (subst (λ l. IsPermutation (a ++ ((b ++ c) ++ d)) l) last middle)

pub mixed : {X : Type 0} (q a b c d x y : List X) → IsPermutation (a ++ c) x → IsPermutation (b ++ d) y
    → IsPermutation ((q ++ (a ++ b)) ++ (c ++ d)) (q ++ (x ++ y))
mixed q a b c d x y f g =
    let there : IsPermutation ((a ++ b) ++ (c ++ d)) (x ++ y) = IsPermutation-trans ((a ++ b) ++ (c ++ d)) ((a ++ c) ++ (b ++ d)) (x ++ y)
    (crossed a b c d) (IsPermutation-append (a ++ c) x (b ++ d) y f g) in
    subst (λ l. IsPermutation l (q ++ (x ++ y))) (sym (append_assoc q (a ++ b) (c ++ d))) (IsPermutation-append_right q ((a ++ b) ++ (c ++ d)) (x ++ y) there)

nothing_hidden : {X : Type 0} (a : List X) → IsPermutation (a ++ []) a
nothing_hidden a = subst (λ l. IsPermutation (a ++ []) l) (append-nil a) (IsPermutation-refl (a ++ []))

-- all of a statement's nodes
module _ (counted : Counted) (P : TypedProgram) where
  assign_all : (x : ℕ) (at : _) (e : Formula) (b : Bool) → reads x e ≡ b → (request from : ℕ)
      → IsPermutation (own_assign P b x e request from ++ hidden_assign P b x e from) (numbered from (rules_of P (assigning x at e) request from))
  assign_all x at e false is request from =
      let rs = write_answer request (written_at P x) ∷ formula_rules (bits_at P) e request (from + 1) in
      let told : rs ≡ rules_of P (assigning x at e) request from =
      ap (λ (c : Bool). if c then hidden_rules P x e from ++ behind_block P x e request from else rs) (sym is) in
      subst (λ l. IsPermutation (numbered from rs ++ []) (numbered from l)) told (nothing_hidden (numbered from rs))
  assign_all x at e true is request from =
      let w = var_width P.vars x in
      let plain = write_answer request (written_at P x) ∷ formula_rules (bits_at P) e request (from + 1) in
      let here = hidden_rules P x e from in
      let rest = behind_block P x e request from in
      let told : here ++ rest ≡ rules_of P (assigning x at e) request from = ap (λ (c : Bool). if c then here ++ rest else plain) (sym is) in
      let number : from + length here ≡ from + block_size w =
      ap (λ k. from + k) (length-variable_rules w from (formula_result e (from + block_size w + 3 + 1) ∷ [])) in
      let split : numbered from here ++ numbered (from + block_size w) rest ≡ numbered from (rules_of P (assigning x at e) request from) =
      ap (λ n. numbered from here ++ numbered n rest) (sym number) ∙ (sym (numbered_append from here rest) ∙ ap (numbered from) told) in
      subst (λ l. IsPermutation (numbered (from + block_size w) rest ++ numbered from here) l) split
      (IsPermutation-append_comm (numbered (from + block_size w) rest) (numbered from here))

  pub behind : (q rs rest : List NodeRules) (from size : ℕ) → length q ≡ 3 → length rs ≡ size
      → numbered from q ++ (numbered (from + 3) rs ++ numbered (from + 3 + size) rest) ≡ numbered from (q ++ (rs ++ rest))
  behind q rs rest from size three long =
      sym (numbered_append from q (rs ++ rest)
      ∙ (ap (λ k. numbered from q ++ numbered (from + k) (rs ++ rest)) three
      ∙ (ap (λ l. numbered from q ++ l) (numbered_append (from + 3) rs rest)
      ∙ ap (λ k. numbered from q ++ (numbered (from + 3) rs ++ numbered (from + 3 + k) rest)) long)))

  pub branches_long : (members : Processes) → AreProcesses P.channels P.vars members → (request from : ℕ)
      → length (branches_rules P members request from) ≡ branches_size P members
  branches_long no_members t request from = refl
  branches_long (and_member s more) t request from =
      let a = length-append (rules_of P s from (from + 3)) (branches_rules P more request (from + 3 + size_of P s)) in
      let b = statement_length counted P s from (from + 3) t.0 in
      let c = branches_long more t.1 request (from + 3 + size_of P s) in
      omega arith

  pub bodies_long : (choices : Choices) → AreChoices P.channels P.vars choices → (start from : ℕ) →
      length (bodies_rules P choices start from) ≡ bodies_size P choices
  bodies_long no_choices t start from = refl
  bodies_long (and_choice g s more) t start from =
      let a = length-append (rules_of P s start from) (bodies_rules P more (start + 1) (from + size_of P s)) in
      let b = statement_length counted P s start from t.1 in
      let c = bodies_long more t.2 (start + 1) (from + size_of P s) in
      omega arith

  pub select_long : (choices : Choices) → IsProcess P.channels P.vars (choosing false choices) → (request from : ℕ)
      → length (select_front P choices request from) ≡ 3 + 2 * choice_count choices + guards_size choices
  select_long choices t request from =
      let own_rules = select_rules (choosing_at P choices request (from + 2) select_own from) in
      let guards = guards_rules P choices (from + 1) (guards_from choices select_own from) in
      let bodies = bodies_rules P choices (from + select_own + choice_count choices) (bodies_from choices select_own from) in
      let a = statement_length counted P (choosing false choices) request from t in
      let b = length-append own_rules (guards ++ bodies) in
      let c = length-append guards bodies in
      let d = length-append own_rules guards in
      let e = bodies_long choices t.2 (from + select_own + choice_count choices) (bodies_from choices select_own from) in
      omega (arith, a, b, c, d, e)

  pub again_long : (choices : Choices) → IsProcess P.channels P.vars (choosing true choices) → (request from : ℕ)
      → length (again_front P choices request from) ≡ 6 + 2 * choice_count choices + guards_size choices
  again_long choices t request from =
      let own_rules = again_rules (repeating_at P choices request from) in
      let guards = guards_rules P choices (from + 3) (guards_from choices again_own from) in
      let bodies = bodies_rules P choices (from + again_own + choice_count choices) (bodies_from choices again_own from) in
      let a = statement_length counted P (choosing true choices) request from t in
      let b = length-append own_rules (guards ++ bodies) in
      let c = length-append guards bodies in
      let d = length-append own_rules guards in
      let e = bodies_long choices t.2 (from + again_own + choice_count choices) (bodies_from choices again_own from) in
      omega (arith, a, b, c, d, e)

  -- the branches behind the nodes of a selection
  behind_front : (own_rules guards bodies : List NodeRules) (from to : ℕ) (mine others : List Numbered) → from + length (own_rules ++ guards) ≡ to
      → IsPermutation (mine ++ others) (numbered to bodies)
      → IsPermutation ((numbered from (own_rules ++ guards) ++ mine) ++ others) (numbered from (own_rules ++ (guards ++ bodies)))
  behind_front own_rules guards bodies from to mine others number all =
      let q = numbered from (own_rules ++ guards) in
      let split : q ++ numbered to bodies ≡ numbered from (own_rules ++ (guards ++ bodies)) =
      ap (λ n. q ++ numbered n bodies) (sym number) ∙ (sym (numbered_append from (own_rules ++ guards) bodies)
      ∙ ap (numbered from) (append_assoc own_rules guards bodies)) in
      subst (λ l. IsPermutation ((q ++ mine) ++ others) l) split
      (subst (λ l. IsPermutation l (q ++ numbered to bodies)) (sym (append_assoc q mine others))
      (IsPermutation-append_right q (mine ++ others) (numbered to bodies) all))

  mutual
    pub own_all : (p : Process) → IsProcess P.channels P.vars p → (request from : ℕ)
        → IsPermutation (own P p request from ++ hidden P p from) (numbered from (rules_of P p request from))
    own_all skipping t request from = nothing_hidden (numbered from (rules_of P skipping request from))
    own_all (assigning x at e) t request from = assign_all x at e (reads x e) refl request from
    own_all (sending chan at e) t request from = nothing_hidden (numbered from (rules_of P (sending chan at e) request from))
    own_all (receiving chan at x to) t request from = nothing_hidden (numbered from (rules_of P (receiving chan at x to) request from))
    own_all (in_turn members) t request from = turn_all members t.1 request from
    own_all (side_by_side members) t request from =
        let here = own_branches P members request from in
        let tree = tree_rules (branch_ends P members from) (branches_end P members from) in
        let nodes = numbered (from + branches_size P members) tree in
        let blocks_here = hidden_branches P members from in
        let rs = branches_rules P members request from in
        let long = branches_long members t.1 request from in
        let split : numbered from rs ++ nodes ≡ numbered from (rs ++ tree) = ap (λ k. numbered from rs ++ numbered (from + k) tree) (sym long)
        ∙ sym (numbered_append from rs tree) in
        let first : IsPermutation ((here ++ nodes) ++ blocks_here) ((here ++ blocks_here) ++ nodes) =
        subst (λ l. IsPermutation ((here ++ nodes) ++ blocks_here) l) (sym (append_assoc here blocks_here nodes))
        (subst (λ l. IsPermutation l (here ++ (blocks_here ++ nodes))) (sym (append_assoc here nodes blocks_here))
        (IsPermutation-append_right here (nodes ++ blocks_here) (blocks_here ++ nodes) (IsPermutation-append_comm nodes blocks_here))) in
        subst (λ l. IsPermutation ((here ++ nodes) ++ blocks_here) l) split
        (IsPermutation-trans ((here ++ nodes) ++ blocks_here) ((here ++ blocks_here) ++ nodes) (numbered from rs ++ nodes) first
        (IsPermutation-append_left nodes (here ++ blocks_here) (numbered from rs) (branches_all members t.1 request from)))
    own_all (repeating s) t request from =
        let q = numbered from (no_rules ∷ loop_request request (answer_of P s (from + 2)) ∷ []) in
        let e : suc (suc from) ≡ from + 2 = omega arith in
        subst (λ l. IsPermutation (q ++ own P s (from + 1) (from + 2) ++ hidden P s (from + 2)) l)
        (ap (λ n. q ++ numbered n (rules_of P s (from + 1) (from + 2))) (sym e))
        (subst (λ l. IsPermutation l (q ++ numbered (from + 2) (rules_of P s (from + 1) (from + 2))))
        (sym (append_assoc q (own P s (from + 1) (from + 2)) (hidden P s (from + 2))))
        (IsPermutation-append_right q (own P s (from + 1) (from + 2) ++ hidden P s (from + 2)) (numbered (from + 2) (rules_of P s (from + 1) (from + 2)))
        (own_all s t (from + 1) (from + 2))))
    own_all (choosing false choices) t request from =
        behind_front (select_rules (choosing_at P choices request (from + 2) select_own from)) (guards_rules P choices (from + 1)
        (guards_from choices select_own from)) (bodies_rules P choices (from + select_own + choice_count choices) (bodies_from choices select_own from)) from
        (bodies_from choices select_own from) (own_bodies P choices (from + select_own + choice_count choices) (bodies_from choices select_own from))
        (hidden_bodies P choices (bodies_from choices select_own from)) (let e = select_long choices t request from in omega (arith, e))
        (bodies_all choices t.2 (from + select_own + choice_count choices) (bodies_from choices select_own from))
    own_all (choosing true choices) t request from =
        behind_front (again_rules (repeating_at P choices request from)) (guards_rules P choices (from + 3)
        (guards_from choices again_own from)) (bodies_rules P choices (from + again_own + choice_count choices) (bodies_from choices again_own from)) from
        (bodies_from choices again_own from) (own_bodies P choices (from + again_own + choice_count choices) (bodies_from choices again_own from))
        (hidden_bodies P choices (bodies_from choices again_own from)) (let e = again_long choices t request from in omega (arith, e))
        (bodies_all choices t.2 (from + again_own + choice_count choices) (bodies_from choices again_own from))

    pub turn_all : (members : Processes) → AreProcesses P.channels P.vars members → (request from : ℕ)
        → IsPermutation (own_turn P members request from ++ hidden_turn P members from) (numbered from (turn_rules P members request from))
    turn_all no_members t request from = IsPermutation-refl []
    turn_all (and_member s no_members) t request from = own_all s t.0 request from
    turn_all (and_member s (and_member u more)) t request from =
        let q = q_rules request (answer_of P s (from + 3)) from in
        let rs = rules_of P s from (from + 3) in
        let rest = turn_rules P (and_member u more) (from + 2) (from + 3 + size_of P s) in
        subst (λ l. IsPermutation (own_turn P (and_member s (and_member u more)) request from ++ hidden_turn P (and_member s (and_member u more)) from) l)
        (behind q rs rest from (size_of P s) refl (statement_length counted P s from (from + 3) t.0))
        (mixed (numbered from q) (own P s from (from + 3)) (own_turn P (and_member u more) (from + 2) (from + 3 + size_of P s)) (hidden P s (from + 3))
        (hidden_turn P (and_member u more) (from + 3 + size_of P s)) (numbered (from + 3) rs) (numbered (from + 3 + size_of P s) rest)
        (own_all s t.0 from (from + 3)) (turn_all (and_member u more) t.1 (from + 2) (from + 3 + size_of P s)))

    pub branches_all : (members : Processes) → AreProcesses P.channels P.vars members → (request from : ℕ)
        → IsPermutation (own_branches P members request from ++ hidden_branches P members from) (numbered from (branches_rules P members request from))
    branches_all no_members t request from = IsPermutation-refl []
    branches_all (and_member s more) t request from =
        let q = q_rules request (answer_of P s (from + 3)) from in
        let rs = rules_of P s from (from + 3) in
        let rest = branches_rules P more request (from + 3 + size_of P s) in
        subst (λ l. IsPermutation (own_branches P (and_member s more) request from ++ hidden_branches P (and_member s more) from) l)
        (behind q rs rest from (size_of P s) refl (statement_length counted P s from (from + 3) t.0))
        (mixed (numbered from q) (own P s from (from + 3)) (own_branches P more request (from + 3 + size_of P s)) (hidden P s (from + 3))
        (hidden_branches P more (from + 3 + size_of P s)) (numbered (from + 3) rs) (numbered (from + 3 + size_of P s) rest)
        (own_all s t.0 from (from + 3)) (branches_all more t.1 request (from + 3 + size_of P s)))

    pub bodies_all : (choices : Choices) → AreChoices P.channels P.vars choices → (start from : ℕ)
        → IsPermutation (own_bodies P choices start from ++ hidden_bodies P choices from) (numbered from (bodies_rules P choices start from))
    bodies_all no_choices t start from = IsPermutation-refl []
    bodies_all (and_choice g s more) t start from =
        let rs = rules_of P s start from in
        let rest = bodies_rules P more (start + 1) (from + size_of P s) in
        let split : numbered from rs ++ numbered (from + size_of P s) rest ≡ numbered from (rs ++ rest) =
        ap (λ k. numbered from rs ++ numbered (from + k) rest) (sym (statement_length counted P s start from t.1)) ∙ sym (numbered_append from rs rest) in
        subst (λ l. IsPermutation (own_bodies P (and_choice g s more) start from ++ hidden_bodies P (and_choice g s more) from) l) split
        (mixed [] (own P s start from) (own_bodies P more (start + 1) (from + size_of P s)) (hidden P s from) (hidden_bodies P more (from + size_of P s))
        (numbered from rs) (numbered (from + size_of P s) rest) (own_all s t.1 start from)
        (bodies_all more t.2 (start + 1) (from + size_of P s)))
