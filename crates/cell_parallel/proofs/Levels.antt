-- What the levels of a tree write.
use Rattle.std.proofs.Common.{◌≡◌, ◌≢◌, ℕ, ◌+◌, ◌-◌, ◌/◌, ◌≤◌, ◌<◌, List, [], ◌∷◌, ◌++◌, length, get_or, take, drop, All, Contains, refl, sym, ap, subst, ◌∙◌, arith, append_assoc}
use Rattle.std.proofs.lemmas.List.{length_push, take_all}
use Rattle.std.proofs.lemmas.List.Elements.{All-head, All-tail, Contains-append_left, Contains-append_right}
use Rattle.prs_core.specs.Nets.{RulesValue, IsAlone, with_rules}
use Rattle.prs_core.specs.Parts.{Owned, owned, owned_from, with_owned}
use Rattle.prs_core.specs.Writing.{IsOther, alone_on}
use Rattle.prs_core.specs.Partly.{IsPartly, partly_all, partly_of, partly_on}
use Rattle.cell_parallel.specs.Trees.{c_element, level_rules, next_level}

-- while a level is joined: what is left of it, and the nodes of the level above so far
pub record Joined (nodes : List ℕ) (from : ℕ) (old : RulesValue) (left above : List ℕ) (now : RulesValue) : Type 0 where
  pub within : All (λ n. n < length old.up) left
  pub place : length above + length left / 2 ≡ length nodes / 2
  pub upper : above ++ next_level left (from + length above) ≡ next_level nodes from
  pub written : with_owned (owned_from (from + length above) (level_rules left)) now ≡ with_owned (owned_from from (level_rules nodes)) old
  pub count : length now.up ≡ length old.up
  pub others : (node : ℕ) → IsOther node (owned_from from (level_rules nodes)) → IsAlone old now node
  pub rest : (node : ℕ) → IsOther node (owned_from from (level_rules nodes)) → IsOther node (owned_from (from + length above) (level_rules left))
  pub partly : IsPartly (owned_from from (level_rules nodes)) old now
  pub among : (o : Owned) → Contains (owned_from (from + length above) (level_rules left)) o → Contains (owned_from from (level_rules nodes)) o

-- one C-element more
pub joined_one : (nodes : List ℕ) (from : ℕ) (old : RulesValue) (p q : ℕ) (rest above : List ℕ) (now later : RulesValue) →
    Joined nodes from old (p ∷ q ∷ rest) above now → later ≡ with_rules (from + length above) (c_element p q) now →
    IsPartly (owned_from from (level_rules nodes)) old later
joined_one nodes from old p q rest above now later so_far is =
    let all : List Owned = owned_from from (level_rules nodes) in
    let this : List Owned = owned (from + length above) (c_element p q) ∷ [] in
    let others : List Owned = owned_from (from + length above + 1) (level_rules rest) in
    partly_on all old now later so_far.partly (partly_of this all now later (λ o k. so_far.among o (Contains-append_left this others o k))
    (partly_all this now later is))

pub joined_more : (nodes : List ℕ) (from : ℕ) (old : RulesValue) (p q : ℕ) (rest above : List ℕ) (now later : RulesValue) →
    Joined nodes from old (p ∷ q ∷ rest) above now → later ≡ with_rules (from + length above) (c_element p q) now → length later.up ≡ length now.up →
    ((other : ℕ) → other ≢ from + length above → IsAlone now later other) → Joined nodes from old rest (above ++ (from + length above) ∷ []) later
joined_more nodes from old p q rest above now later so_far is same far =
    let P : ℕ → Type 0 = λ n. n < length old.up in
    let at : ℕ = from + length above in
    let next : from + length (above ++ at ∷ []) ≡ at + 1 = omega (arith, length_push above at) in record {
      within = All-tail P q rest (All-tail P p (q ∷ rest) so_far.within);
      place = omega (arith, length_push above at, so_far.place);
      upper = ap (λ k. (above ++ at ∷ []) ++ next_level rest k) next ∙ append_assoc above (at ∷ []) (next_level rest (at + 1)) ∙ so_far.upper;
      written = ap (λ k. with_owned (owned_from k (level_rules rest)) later) next ∙ ap (with_owned (owned_from (at + 1) (level_rules rest))) is
          ∙ so_far.written;
      count = same ∙ so_far.count;
      others = λ node o. alone_on old now later node (so_far.others node o)
          (far node (λ e. All-head (λ (o : Owned). o.node ≢ node) (owned at (c_element p q)) (owned_from (at + 1) (level_rules rest)) (so_far.rest node o)
          (sym e)));
      rest = λ node o. subst (λ k. IsOther node (owned_from k (level_rules rest))) (sym next)
          (All-tail (λ (o : Owned). o.node ≢ node) (owned at (c_element p q)) (owned_from (at + 1) (level_rules rest)) (so_far.rest node o));
      partly = joined_one nodes from old p q rest above now later so_far is;
      among = λ o k.
          so_far.among o (Contains-append_right (owned at (c_element p q) ∷ []) (owned_from (at + 1) (level_rules rest)) o
          (subst (λ n. Contains (owned_from n (level_rules rest)) o) next k));
    }

-- the same as the code has it: the first two of what is left, and a node number
pub joined_step : (nodes : List ℕ) (from : ℕ) (old : RulesValue) (left rest above upper : List ℕ) (node : ℕ) (now later : RulesValue) →
    Joined nodes from old left above now → 2 ≤ length left → rest ≡ take (length left - 2) (drop 2 left) → node ≡ from + length above →
    upper ≡ above ++ node ∷ [] → later ≡ with_rules node (c_element (get_or left 0 0) (get_or left 1 0)) now → length later.up ≡ length now.up →
    ((other : ℕ) → other ≢ node → IsAlone now later other) → Joined nodes from old rest upper later
joined_step nodes from old [] rest above upper node now later so_far long cut at up is same far = absurd (omega arith)
joined_step nodes from old (p ∷ []) rest above upper node now later so_far long cut at up is same far = absurd (omega arith)
joined_step nodes from old (p ∷ q ∷ left) rest above upper node now later so_far long cut at up is same far =
    let whole : rest ≡ left = cut ∙ (let e : length left ≤ length (p ∷ q ∷ left) - 2 = omega arith in take_all _ left e) in
    let upper_is : upper ≡ above ++ (from + length above) ∷ [] = up ∙ ap (λ k. above ++ k ∷ []) at in
    rw (whole, upper_is) (joined_more nodes from old p q left above now later so_far (is ∙ ap (λ k. with_rules k (c_element p q) now) at) same
    (λ other ne. far other (λ e. ne (e ∙ at))))

-- also where the last node's guards are half written
pub joined_alone : (nodes : List ℕ) (from : ℕ) (old : RulesValue) (left above : List ℕ) (node : ℕ) (now later : RulesValue) →
    Joined nodes from old left above now → 2 ≤ length left → node ≡ from + length above → ((other : ℕ) → other ≢ node → IsAlone now later other) → (other : ℕ) →
    IsOther other (owned_from from (level_rules nodes)) → IsAlone old later other
joined_alone nodes from old [] above node now later so_far long at far other o = absurd (omega arith)
joined_alone nodes from old (p ∷ []) above node now later so_far long at far other o = absurd (omega arith)
joined_alone nodes from old (p ∷ q ∷ left) above node now later so_far long at far other o =
    alone_on old now later other (so_far.others other o)
    (far other (λ e. All-head (λ (x : Owned). x.node ≢ other) (owned (from + length above) (c_element p q))
    (owned_from (from + length above + 1) (level_rules left)) (so_far.rest other o) (sym at ∙ sym e)))

-- where memory runs out, before a C-element is written or after it
pub joined_before : (nodes : List ℕ) (from : ℕ) (old : RulesValue) (left above : List ℕ) (now later : RulesValue) → Joined nodes from old left above now →
    later ≡ now → IsPartly (owned_from from (level_rules nodes)) old later
joined_before nodes from old left above now later so_far same = subst (IsPartly (owned_from from (level_rules nodes)) old) (sym same) so_far.partly

pub joined_after : (nodes : List ℕ) (from : ℕ) (old : RulesValue) (left above : List ℕ) (node : ℕ) (now later : RulesValue) →
    Joined nodes from old left above now → 2 ≤ length left → node ≡ from + length above →
    later ≡ with_rules node (c_element (get_or left 0 0) (get_or left 1 0)) now → IsPartly (owned_from from (level_rules nodes)) old later
joined_after nodes from old [] above node now later so_far long at is = absurd (omega arith)
joined_after nodes from old (p ∷ []) above node now later so_far long at is = absurd (omega arith)
joined_after nodes from old (p ∷ q ∷ left) above node now later so_far long at is =
    joined_one nodes from old p q left above now later so_far (is ∙ ap (λ k. with_rules k (c_element p q) now) at)

pub short_rules : (ls : List ℕ) → length ls ≤ 1 → level_rules ls ≡ []
short_rules [] h = refl
short_rules (p ∷ []) h = refl
short_rules (p ∷ q ∷ ls) h = absurd (omega arith)
