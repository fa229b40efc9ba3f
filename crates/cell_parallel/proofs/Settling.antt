-- A settled tree stays so, and what follows from it.
use Rattle.std.proofs.Common.{◌≡◌, ◌≢◌, ℕ, ◌<◌, Bool, true, false, List, [], ◌∷◌, length, All, Contains, refl, sym, ap, subst, ◌∙◌, arith, ◌⊎◌, inl, inr}
use Rattle.std.specs.Prelude.{not, ◌&&◌, ◌||◌, if◌then◌else◌}
use Rattle.std.proofs.lemmas.Bool.{cases_eq, true≢false}
use Rattle.std.proofs.lemmas.List.Elements.{All-from_recursion, recursion_from_All, All-contains, Contains-append_right}
use Rattle.prs_core.specs.Moves.{guard_holds}
use Rattle.prs_core.specs.Parts.{Owned, fires, turned}
use Rattle.prs_core.specs.Turning.{turned_here, turned_apart}
use Rattle.cell_parallel.specs.Trees.{tree_top, tree_owned}
use Rattle.cell_parallel.specs.TreeParts.{IsOutsideTree, AreOutside, is_settled, IsTreeSettled, TreeMove, by_rule, of_leaf, elsewhere, Settles}
use Rattle.cell_parallel.proofs.Joins.{Join, as_owned, tree_joins, join_of, owned_of, Each, down, up, inputs, unique, top_join, some_joins}

-- a C-element's two tests on its own value and those of its inputs, as they compute
abbrev settled : (t c p q : Bool) → Bool
settled t c p q = if c then t || (p && (q && true) || false) else not t || (not p && (not q && true) || false)

abbrev moves : (c p q : Bool) → Bool
moves c p q = if c then not p && (not q && true) || false else p && (q && true) || false

settled_top : (b p q : Bool) → settled b b p q ≡ true
settled_top true p q = refl
settled_top false p q = refl

settled_turned : (b : Bool) → settled b (not b) (not b) (not b) ≡ true
settled_turned true = refl
settled_turned false = refl

moves_from_top : (t c p q : Bool) → settled t c p q ≡ true → moves c p q ≡ true → c ≡ t
moves_from_top true true p q s f = refl
moves_from_top false false p q s f = refl
moves_from_top true false true true s f = cc
moves_from_top true false true false s f = cc
moves_from_top true false false q s f = cc
moves_from_top false true true q s f = cc
moves_from_top false true false true s f = cc
moves_from_top false true false false s f = cc

moves_after_inputs : (c p q : Bool) → moves c p q ≡ true → (p ≡ not c) × (q ≡ not c)
moves_after_inputs true false false f = (refl, refl)
moves_after_inputs false true true f = (refl, refl)
moves_after_inputs true true q f = absurd (cc f)
moves_after_inputs true false true f = absurd (cc f)
moves_after_inputs false true false f = absurd (cc f)
moves_after_inputs false false q f = absurd (cc f)

still_moves : (c p q c' p' q' : Bool) → c' ≡ c → p' ≡ p → q' ≡ q → moves c p q ≡ true → moves c' p' q' ≡ true
still_moves c p q c' p' q' ec ep eq f = subst (λ x. moves x p' q' ≡ true) (sym ec)
    (subst (λ x. moves c x q' ≡ true) (sym ep) (subst (λ x. moves c p x ≡ true) (sym eq) f))

inputs_before : (t c p q : Bool) → settled t c p q ≡ true → c ≡ not t → (p ≡ not t) × (q ≡ not t)
inputs_before true false false false s e = (refl, refl)
inputs_before false true true true s e = (refl, refl)
inputs_before true true p q s e = absurd (cc e)
inputs_before false false p q s e = absurd (cc e)
inputs_before true false true q s e = absurd (cc s)
inputs_before true false false true s e = absurd (cc s)
inputs_before false true true false s e = absurd (cc s)
inputs_before false true false q s e = absurd (cc s)

follows_inputs : (b c p q : Bool) → moves c p q ≡ false → p ≡ not b → q ≡ not b → c ≡ not b
follows_inputs true false p q f ep eq = refl
follows_inputs false true p q f ep eq = refl
follows_inputs true true false false f ep eq = absurd (cc f)
follows_inputs true true true q f ep eq = absurd (cc ep)
follows_inputs true true false true f ep eq = absurd (cc eq)
follows_inputs false false true true f ep eq = absurd (cc f)
follows_inputs false false false q f ep eq = absurd (cc ep)
follows_inputs false false true false f ep eq = absurd (cc eq)

low_with_inputs : (c p q : Bool) → settled false c p q ≡ true → p ≡ false → q ≡ false → c ≡ false
low_with_inputs false p q s ep eq = refl
low_with_inputs true true q s ep eq = absurd (cc ep)
low_with_inputs true false q s ep eq = absurd (cc s)

with_inputs : (t c p q : Bool) → settled t c p q ≡ true → p ≡ t → q ≡ t → c ≡ t
with_inputs true true p q s ep eq = refl
with_inputs false false p q s ep eq = refl
with_inputs true false false q s ep eq = absurd (cc ep)
with_inputs true false true q s ep eq = absurd (cc s)
with_inputs false true true q s ep eq = absurd (cc ep)
with_inputs false true false q s ep eq = absurd (cc s)

never_both : (p q : Bool) → ((p && (q && true) || false) && (not p && (not q && true) || false)) ≡ false
never_both true true = refl
never_both true false = refl
never_both false q = refl

differ : (b : Bool) → b ≡ not b → ⊥
differ true e = true≢false e
differ false e = true≢false (sym e)

either_value : (a b : Bool) → (a ≡ b) ⊎ (a ≡ not b)
either_value true true = inl refl
either_value true false = inr refl
either_value false true = inr refl
either_value false false = inl refl

settled_same : (t c p q t' c' p' q' : Bool) → t' ≡ t → c' ≡ c → p' ≡ p → q' ≡ q → settled t c p q ≡ true → settled t' c' p' q' ≡ true
settled_same t c p q t' c' p' q' et ec ep eq s =
    subst (λ x. settled x c' p' q' ≡ true) (sym et)
    (subst (λ x. settled t x p' q' ≡ true) (sym ec) (subst (λ x. settled t c x q' ≡ true) (sym ep) (subst (λ x. settled t c p x ≡ true) (sym eq) s)))

settled_both : (t c p q : Bool) → c ≡ t → settled t c p q ≡ true
settled_both t c p q e = subst (λ x. settled t x p q ≡ true) (sym e) (settled_top t p q)

each_weaker : (P Q : ℕ → Type 0) (ns : List ℕ) → ((n : ℕ) → Contains ns n → P n → Q n) → Each P ns → Each Q ns
each_weaker P Q [] f e = tt
each_weaker P Q (n ∷ ns) f e = (f n (0, omega arith, refl) e.0, each_weaker P Q ns (λ k among. f k (Contains-append_right (n ∷ []) ns k among)) e.1)

-- a leaf that has the value, or none has
all_or_one : (v : ℕ → Bool) (b : Bool) (ns : List ℕ) → ((n : ℕ) × Contains ns n × (v n ≡ b)) ⊎ Each (λ n. v n ≡ not b) ns
all_or_one v b [] = inr tt
all_or_one v b (n ∷ ns) = by (either_value (v n) b) (all_or_one v b ns)
  where
    by : (v n ≡ b) ⊎ (v n ≡ not b) → ((k : ℕ) × Contains ns k × (v k ≡ b)) ⊎ Each (λ k. v k ≡ not b) ns →
        ((k : ℕ) × Contains (n ∷ ns) k × (v k ≡ b)) ⊎ Each (λ k. v k ≡ not b) (n ∷ ns)
    by (inl e) rest = inl (n, (0, omega arith, refl), e)
    by (inr e) (inl (k, among, is)) = inl (k, Contains-append_right (n ∷ []) ns k among, is)
    by (inr e) (inr each) = inr (e, each)

module _ (leaves : List ℕ) (from : ℕ) (some : 0 < length leaves) (outside : AreOutside leaves from) where
  abbrev top : ℕ
  top = tree_top leaves from

  abbrev joins : List Join
  joins = tree_joins leaves from

  -- the same over C-elements
  abbrev Settled : (ℕ → Bool) → Type 0
  Settled v = (j : Join) → Contains joins j → settled (v top) (v j.node) (v j.left) (v j.right) ≡ true

  abbrev Moves : (ℕ → Bool) → Join → Type 0
  Moves v j = moves (v j.node) (v j.left) (v j.right) ≡ true

  of_joins : (v : ℕ → Bool) → Settled v → IsTreeSettled leaves from v
  of_joins v s o among =
      let (j, here, is) = join_of leaves from o among in
      subst (λ (x : Owned). is_settled v top x ≡ true) is (s j here)

  to_joins : (v : ℕ → Bool) → IsTreeSettled leaves from v → Settled v
  to_joins v s j among = s (as_owned j) (owned_of leaves from j among)

  not_own : (node : ℕ) → IsOutsideTree leaves from node → (j : Join) → Contains joins j → j.node ≢ node
  not_own node out j among = All-contains (λ (o : Owned). o.node ≢ node) (tree_owned leaves from) (as_owned j) out (owned_of leaves from j among)

  -- a node that isn't the tree's own isn't its top, where it has one of its own
  not_top : (node : ℕ) → IsOutsideTree leaves from node → (j : Join) → Contains joins j → top ≢ node
  not_top node out j among e =
      let (k, here, is) = top_join leaves from (some_joins leaves from j among) in
      not_own node out k here (is ∙ e)

  -- what the top's move needs: all nodes but the top have left its value
  all_left : (v : ℕ → Bool) (k : Join) → Settled v → Contains joins k → Moves v k → k.node ≡ top → Each (λ n. (v n ≡ not (v top)) ⊎ (n ≡ top)) leaves
      × ((j : Join) → Contains joins j → (v j.node ≡ not (v top)) ⊎ (j.node ≡ top))
  all_left v k s here f at =
      let it = down (λ n. (v n ≡ not (v top)) ⊎ (n ≡ top)) (length leaves) leaves from (omega arith) (λ j among. goes j among) (inr refl) in
      (it.leaves, it.nodes)
    where
      goes : (j : Join) → Contains joins j → (v j.node ≡ not (v top)) ⊎ (j.node ≡ top) → ((v j.left ≡ not (v top)) ⊎ (j.left ≡ top))
          × ((v j.right ≡ not (v top)) ⊎ (j.right ≡ top))
      goes j among (inl e) = let both = inputs_before (v top) (v j.node) (v j.left) (v j.right) (s j among) e in (inl both.0, inl both.1)
      goes j among (inr e) =
          let same : j ≡ k = unique leaves from j k among here (e ∙ sym at) in
          let both = moves_after_inputs (v k.node) (v k.left) (v k.right) f in (
            inl (ap (λ (x : Join). v x.left) same ∙ (both.0 ∙ ap (λ n. not (v n)) at)),
            inl (ap (λ (x : Join). v x.right) same ∙ (both.1 ∙ ap (λ n. not (v n)) at)),
          )

  -- a node that has the top's value, and is not the top, is turned over
  stays_away : (v : ℕ → Bool) (node : ℕ) → Settled v → top ≢ node → v node ≡ v top → ((j : Join) → Contains joins j → j.node ≡ node → Moves v j) →
      Settled (turned v node)
  stays_away v node s far from_top own j among = by (cases_eq j.node node)
    where
      b : Bool
      b = v top

      w : ℕ → Bool
      w = turned v node

      unturned : (n : ℕ) → v n ≡ not b → w n ≡ v n
      unturned n e = turned_apart v node n (λ same. differ b (sym from_top ∙ (ap v (sym same) ∙ e)))

      at_top : w top ≡ b
      at_top = turned_apart v node top far

      input : (a : ℕ) → (w a ≡ v a) ⊎ (v a ≡ b)
      input a = here (cases_eq a node)
        where
          here : (a ≡ node) ⊎ (a ≢ node) → (w a ≡ v a) ⊎ (v a ≡ b)
          here (inl e) = inr (ap v e ∙ from_top)
          here (inr ne) = inl (turned_apart v node a ne)

      by : (j.node ≡ node) ⊎ (j.node ≢ node) → settled (w top) (w j.node) (w j.left) (w j.right) ≡ true
      by (inl e) =
          let both = moves_after_inputs (v j.node) (v j.left) (v j.right) (own j among e) in
          let value : v j.node ≡ b = ap v e ∙ from_top in
          let l : v j.left ≡ not b = both.0 ∙ ap not value in
          let r : v j.right ≡ not b = both.1 ∙ ap not value in
          settled_same b (not b) (not b) (not b) (w top) (w j.node) (w j.left) (w j.right) at_top (ap w e ∙ (turned_here v node ∙ ap not from_top))
          (unturned j.left l ∙ l) (unturned j.right r ∙ r) (settled_turned b)
      by (inr ne) = rest (input j.left) (input j.right) (either_value (v j.node) b)
        where
          same : w j.node ≡ v j.node
          same = turned_apart v node j.node ne

          rest : (w j.left ≡ v j.left) ⊎ (v j.left ≡ b) → (w j.right ≡ v j.right) ⊎ (v j.right ≡ b) → (v j.node ≡ b) ⊎ (v j.node ≡ not b) →
              settled (w top) (w j.node) (w j.left) (w j.right) ≡ true
          rest l r (inl e) = settled_both (w top) (w j.node) (w j.left) (w j.right) (same ∙ (e ∙ sym at_top))
          rest (inl l) (inl r) (inr e) = settled_same b (v j.node) (v j.left) (v j.right) (w top) (w j.node) (w j.left) (w j.right) at_top same l r (s j among)
          rest (inr l) r (inr e) = absurd (differ b (sym l ∙ (inputs_before b (v j.node) (v j.left) (v j.right) (s j among) e).0))
          rest (inl l) (inr r) (inr e) = absurd (differ b (sym r ∙ (inputs_before b (v j.node) (v j.left) (v j.right) (s j among) e).1))

  -- the top is turned over
  stays_top : (v : ℕ → Bool) (k : Join) → Settled v → Contains joins k → Moves v k → k.node ≡ top → Settled (turned v top)
  stays_top v k s here f at j among =
      settled_both (w top) (w j.node) (w j.left) (w j.right) (by ((all_left v k s here f at).1 j among))
    where
      w : ℕ → Bool
      w = turned v top

      by : (v j.node ≡ not (v top)) ⊎ (j.node ≡ top) → w j.node ≡ w top
      by (inl e) = turned_apart v top j.node (λ same. differ (v top) (ap v (sym same) ∙ e)) ∙ (e ∙ sym (turned_here v top))
      by (inr e) = ap w e

  inputs_far : (node : ℕ) → IsOutsideTree leaves from node → All (λ leaf. leaf ≢ node) leaves → (j : Join) → Contains joins j →
      (j.left ≢ node) × (j.right ≢ node)
  inputs_far node out far = inputs (λ n. n ≢ node) (length leaves) leaves from (recursion_from_All (λ leaf. leaf ≢ node) leaves far)
      (λ j among. not_own node out j among)

  -- no move is at an input of an enabled C-element
  inputs_still : (v : ℕ → Bool) (j : Join) (node : ℕ) → Settled v → Contains joins j → Moves v j → TreeMove leaves from v node →
      (j.left ≢ node) × (j.right ≢ node)
  inputs_still v j node s among f move = by move
    where
      b : Bool
      b = v top

      from_top : v j.node ≡ b
      from_top = moves_from_top (v top) (v j.node) (v j.left) (v j.right) (s j among) f

      both : (v j.left ≡ not b) × (v j.right ≡ not b)
      both = let after = moves_after_inputs (v j.node) (v j.left) (v j.right) f in (after.0 ∙ ap not from_top, after.1 ∙ ap not from_top)

      with_top : v node ≡ b → (j.left ≢ node) × (j.right ≢ node)
      with_top e = (λ same. differ b (sym e ∙ (ap v (sym same) ∙ both.0)), λ same. differ b (sym e ∙ (ap v (sym same) ∙ both.1)))

      by : TreeMove leaves from v node → (j.left ≢ node) × (j.right ≢ node)
      by (by_rule o here g at) =
          let (k, there, is) = join_of leaves from o here in
          with_top (ap v (at ∙ ap (λ (x : Owned). x.node) (sym is))
          ∙ moves_from_top (v top) (v k.node) (v k.left) (v k.right) (s k there) (subst (λ (x : Owned). fires v x ≡ true) (sym is) g))
      by (of_leaf out e) = with_top e
      by (elsewhere out far) = inputs_far node out far j among

  stays : (v : ℕ → Bool) (node : ℕ) → Settled v → TreeMove leaves from v node → Settled (turned v node)
  stays v node s (by_rule o among f at) =
      let (k, here, is) = join_of leaves from o among in
      let own : node ≡ k.node = at ∙ ap (λ (x : Owned). x.node) (sym is) in
      let enabled : Moves v k = subst (λ (x : Owned). fires v x ≡ true) (sym is) f in
      subst (λ n. Settled (turned v n)) (sym own) (by k here enabled (cases_eq k.node top))
    where
      by : (k : Join) → Contains joins k → Moves v k → (k.node ≡ top) ⊎ (k.node ≢ top) → Settled (turned v k.node)
      by k here enabled (inl e) = subst (λ n. Settled (turned v n)) (sym e) (stays_top v k s here enabled e)
      by k here enabled (inr ne) =
          stays_away v k.node s (λ e. ne (sym e)) (moves_from_top (v top) (v k.node) (v k.left) (v k.right) (s k here) enabled)
          (λ j among e. subst (λ (x : Join). Moves v x) (sym (unique leaves from j k among here e)) enabled)
  stays v node s (of_leaf out from_top) = λ j among. stays_away v node s (not_top node out j among) from_top (λ i here e. absurd (not_own node out i here e)) j
      among
  stays v node s (elsewhere out far) = λ j among.
      let around = inputs_far node out far j among in
      settled_same (v top) (v j.node) (v j.left) (v j.right) _ _ _ _ (turned_apart v node top (not_top node out j among))
      (turned_apart v node j.node (not_own node out j among)) (turned_apart v node j.left around.0) (turned_apart v node j.right around.1) (s j among)

  -- an enabled C-element stays so while another node moves
  firm : (v : ℕ → Bool) (j : Join) (node : ℕ) → Settled v → Contains joins j → Moves v j → TreeMove leaves from v node → node ≢ j.node → Moves (turned v node) j
  firm v j node s among f move ne =
      let around = inputs_still v j node s among f move in
      still_moves (v j.node) (v j.left) (v j.right) _ _ _ (turned_apart v node j.node (λ e. ne (sym e))) (turned_apart v node j.left around.0)
      (turned_apart v node j.right around.1) f

  turns : (v : ℕ → Bool) (j : Join) → Settled v → Contains joins j → Moves v j → j.node ≡ top → All (λ leaf. v leaf ≡ not (v top)) leaves
  turns v j s among f at =
      All-from_recursion (λ leaf. v leaf ≡ not (v top)) leaves (each_weaker _ _ leaves (λ leaf here way. by leaf here way) (all_left v j s among f at).0)
    where
      by : (leaf : ℕ) → Contains leaves leaf → (v leaf ≡ not (v top)) ⊎ (leaf ≡ top) → v leaf ≡ not (v top)
      by leaf here (inl e) = e
      by leaf here (inr e) = absurd (not_own leaf (All-contains (IsOutsideTree leaves from) leaves leaf outside here) j among (at ∙ sym e))

  rests : (v : ℕ → Bool) → Settled v → v top ≡ false → All (λ leaf. v leaf ≡ false) leaves → (j : Join) → Contains joins j → v j.node ≡ false
  rests v s low all =
      (up (λ n. v n ≡ false) (length leaves) leaves from (omega arith)
      (λ j among l r. low_with_inputs (v j.node) (v j.left) (v j.right) (subst (λ b. settled b (v j.node) (v j.left) (v j.right) ≡ true) low (s j among)) l
      r) (recursion_from_All (λ leaf. v leaf ≡ false) leaves all)).nodes

  flat : (v : ℕ → Bool) → Settled v → All (λ leaf. v leaf ≡ v top) leaves → (j : Join) → Contains joins j → v j.node ≡ v top
  flat v s all =
      (up (λ n. v n ≡ v top) (length leaves) leaves from (omega arith) (λ j among l r. with_inputs (v top) (v j.node) (v j.left) (v j.right) (s j among) l r)
      (recursion_from_All (λ leaf. v leaf ≡ v top) leaves all)).nodes

  waits : (v : ℕ → Bool) → Settled v → ((j : Join) → Contains joins j → moves (v j.node) (v j.left) (v j.right) ≡ false) →
      (leaf : ℕ) × Contains leaves leaf × (v leaf ≡ v top)
  waits v s still = by (all_or_one v (v top) leaves)
    where
      by : ((leaf : ℕ) × Contains leaves leaf × (v leaf ≡ v top)) ⊎ Each (λ n. v n ≡ not (v top)) leaves → (leaf : ℕ) × Contains leaves leaf × (v leaf ≡ v top)
      by (inl found) = found
      by (inr each) = absurd (differ (v top) ((up (λ n. v n ≡ not (v top)) (length leaves) leaves from (omega arith)
          (λ j among l r. follows_inputs (v top) (v j.node) (v j.left) (v j.right) (still j among) l r) each).top some))

  pub settles : Settles leaves from
  settles = record {
    first = λ v one. of_joins v (λ j among. settled_both (v top) (v j.node) (v j.left) (v j.right) (one (as_owned j) (owned_of leaves from j among)));
    stays = λ v node s move. of_joins (turned v node) (stays v node (to_joins v s) move);
    leaves_it = λ v o s among f.
        let (j, here, is) = join_of leaves from o among in
        subst (λ (x : Owned). v x.node ≡ v top) is
        (moves_from_top (v top) (v j.node) (v j.left) (v j.right) (to_joins v s j here) (subst (λ (x : Owned). fires v x ≡ true) (sym is) f));
    firm = λ v o node s among f move ne.
        let (j, here, is) = join_of leaves from o among in
        subst (λ (x : Owned). fires (turned v node) x ≡ true) is (firm v j node (to_joins v s) here (subst (λ (x : Owned). fires v x ≡ true) (sym is) f) move
        (λ e. ne (e ∙ ap (λ (x : Owned). x.node) is)));
    apart = λ v o among.
        let (j, here, is) = join_of leaves from o among in
        subst (λ (x : Owned). (guard_holds v x.rules.up && guard_holds v x.rules.down) ≡ false) is (never_both (v j.left) (v j.right));
    turns = λ v o s among f at.
        let (j, here, is) = join_of leaves from o among in
        turns v j (to_joins v s) here (subst (λ (x : Owned). fires v x ≡ true) (sym is) f) (ap (λ (x : Owned). x.node) is ∙ at);
    rests = λ v s low all o among.
        let (j, here, is) = join_of leaves from o among in
        subst (λ (x : Owned). v x.node ≡ false) is (rests v (to_joins v s) low all j here);
    flat = λ v s all o among.
        let (j, here, is) = join_of leaves from o among in
        subst (λ (x : Owned). v x.node ≡ v top) is (flat v (to_joins v s) all j here);
    waits = λ v s still. waits v (to_joins v s) (λ j among. still (as_owned j) (owned_of leaves from j among));
    top = λ long.
        let (j, here, at) = top_join leaves from long in
        (as_owned j, owned_of leaves from j here, at);
  }
