-- The net that a circuit stands for, rule by rule.
use Rattle.std.proofs.Common.{◌≡◌, ◌∙◌, ℕ, zero, suc, ◌+◌, ◌<◌, ◌≢◌, Bool, true, false, List, [], ◌∷◌, ◌++◌, length, map, refl, sym, ap, subst, arith}
use Rattle.std.specs.Prelude.{not, slice_index_or, Option, Some, None, codes, if◌then◌else◌, All}
use Rattle.std.specs.List.{range_with_len}
use Rattle.std.proofs.lemmas.List.{append-nil, length-append}
use Rattle.std.proofs.lemmas.List.Elements.{All-nil, All-cons, All-head, All-tail}
use Rattle.prs_core.specs.declared.rule.Literal.{Literal}
use Rattle.prs_core.specs.declared.wires.Wires.{Wires}
use Rattle.prs_core.specs.Nets.{GuardValue, NodeRules, NetValue, net_of, up_of, down_of, first_at, IsBelow, IsNet}
use Rattle.prs_core.specs.Pairs.{no_rules}
use Rattle.reset_net.specs.Resets.{has_rules, held, forced, reset_guard, reset_literal, reset_up, reset_down, reset_of}
use Rattle.reset_net.proofs.Whole.{reset_is_net}
use Rattle.net_compose.specs.declared.ending.Ending.{Ending}
use Rattle.net_compose.specs.declared.ending.Ending.TheVariants.{Plain, Held, Forced}
use Rattle.net_compose.specs.Circuits.{reset_rules, each_reset, circuit_rules, circuit_net, side, with_ending, ending_of, term_end, guard_end, with_ends}

-- all of a front
front_all : {X : Type 0} (P : X → Type 0) (xs ys : List X) → All P (xs ++ ys) → All P xs
front_all P [] ys h = All-nil P
front_all P (x ∷ xs) ys h = All-cons P x xs (All-head P x (xs ++ ys) h) (front_all P xs ys (All-tail P x (xs ++ ys) h))

-- the ends of guards
as_is : (g : GuardValue) → map (λ (t : List Literal). t ++ []) g ≡ g
as_is [] = refl
as_is (t ∷ g) = ap (λ u. u ∷ map (λ (t : List Literal). t ++ []) g) (append-nil t) ∙ ap (λ u. t ∷ u) (as_is g)

pub plain_is : (g : GuardValue) → with_ending Plain g ≡ g
plain_is g = append-nil (map (λ (t : List Literal). t ++ []) g) ∙ as_is g

pub held_is : (reset : ℕ) (g : GuardValue) → with_ending (Held reset) g ≡ held reset g
held_is reset g = append-nil (held reset g)

pub forced_is : (reset : ℕ) (g : GuardValue) → with_ending (Forced reset) g ≡ forced reset g
forced_is reset g = ap (λ u. u ++ (reset_literal reset true ∷ []) ∷ []) (as_is g)

-- one node's rule
pub guard_at : (up : Bool) (rs : List NodeRules) (node : ℕ) → slice_index_or (map (side up) rs) node [] ≡ side up (slice_index_or rs node no_rules)
guard_at true [] node = refl
guard_at false [] node = refl
guard_at up (r ∷ rs) zero = refl
guard_at up (r ∷ rs) (suc node) = guard_at up rs node

pub reset_at : (reset : ℕ) (first : List Bool) (rs : List NodeRules) (node : ℕ) → length rs ≡ length first → node < length first
    → slice_index_or (each_reset reset first rs) node no_rules ≡ reset_rules reset (slice_index_or first node false) (slice_index_or rs node no_rules)
reset_at reset [] rs node same l = absurd (omega (arith, l))
reset_at reset (b ∷ first) [] node same l = absurd (omega (arith, same))
reset_at reset (b ∷ first) (r ∷ rs) zero same l = refl
reset_at reset (b ∷ first) (r ∷ rs) (suc node) same l = reset_at reset first rs node (omega (arith, same)) (omega (arith, l))

-- with the reset node behind all others
module _ (reset : ℕ) (up : Bool) (g : ℕ → GuardValue) where
  behind_all : (first : List Bool) (rs : List NodeRules) (k : ℕ) → length rs ≡ length first
      → ((i : ℕ) → i < length first → g (k + i) ≡ side up (reset_rules reset (slice_index_or first i false) (slice_index_or rs i no_rules)))
      → map (side up) (each_reset reset (first ++ true ∷ []) (rs ++ no_rules ∷ [])) ≡ map g (range_with_len k (length first)) ++ [] ∷ []
  behind_all [] [] k same each = last up
    where
      last : (b : Bool) → side b no_rules ∷ [] ≡ [] ∷ []
      last true = refl
      last false = refl
  behind_all [] (r ∷ rs) k same each = absurd (omega (arith, same))
  behind_all (b ∷ first) [] k same each = absurd (omega (arith, same))
  behind_all (b ∷ first) (r ∷ rs) k same each =
      let none : k + 0 ≡ k = omega arith in
      let here : g k ≡ side up (reset_rules reset b r) = ap g (sym none) ∙ each 0 (omega arith) in
      ap (λ u. u ∷ map (side up) (each_reset reset (first ++ true ∷ []) (rs ++ no_rules ∷ []))) (sym here)
      ∙ ap (λ us. g k ∷ us) (behind_all first rs (k + 1) (omega (arith, same))
      (λ i l. let next : k + 1 + i ≡ k + suc i = omega arith in ap g next ∙ each (suc i) (omega (arith, l))))

module _ (names : List (List ℕ)) (first : List Bool) (rs : List NodeRules) (channels : List Wires) (same : length rs ≡ length first) where
  abbrev plain : NetValue
  plain = circuit_net names first rs channels None

  chosen : (b : Bool) (r : NodeRules) (high : Bool) → has_rules r.up r.down ≡ b
      → (if b then reset_guard (length first) high r.up else []) ≡ side true (reset_rules (length first) high r)
  chosen true r high is = ap (λ c. side true (if c then record {
    up = reset_guard (length first) high r.up;
    down = reset_guard (length first)
        (not high) r.down;
  }
      else no_rules)) (sym is)
  chosen false r high is = ap (λ c. side true (if c then record {
    up = reset_guard (length first) high r.up;
    down = reset_guard (length first)
        (not high) r.down;
  }
      else no_rules)) (sym is)

  chosen_down : (b : Bool) (r : NodeRules) (high : Bool) → has_rules r.up r.down ≡ b
      → (if b then reset_guard (length first) (not high) r.down else []) ≡ side false (reset_rules (length first) high r)
  chosen_down true r high is = ap (λ c. side false (if c then record {
    up = reset_guard (length first) high r.up;
    down = reset_guard (length first)
        (not high) r.down;
  }
      else no_rules)) (sym is)
  chosen_down false r high is = ap (λ c. side false (if c then record {
    up = reset_guard (length first) high r.up;
    down = reset_guard (length first)
        (not high) r.down;
  }
      else no_rules)) (sym is)

  up_here : (i : ℕ) → reset_up plain i ≡ side true (reset_rules (length first) (slice_index_or first i false) (slice_index_or rs i no_rules))
  up_here i =
      let r = slice_index_or rs i no_rules in
      ap (λ g. if has_rules g (down_of plain i) then reset_guard (length first) (first_at plain i) g else []) (guard_at true rs i)
      ∙ (ap (λ g. if has_rules r.up g then reset_guard (length first) (first_at plain i) r.up else []) (guard_at false rs i)
      ∙ chosen (has_rules r.up r.down) r (first_at plain i) refl)

  down_here : (i : ℕ) → reset_down plain i ≡ side false (reset_rules (length first) (slice_index_or first i false) (slice_index_or rs i no_rules))
  down_here i =
      let r = slice_index_or rs i no_rules in
      ap (λ g. if has_rules g (down_of plain i) then reset_guard (length first) (not (first_at plain i)) (down_of plain i) else []) (guard_at true rs i)
      ∙ (ap (λ g. if has_rules r.up g then reset_guard (length first) (not (first_at plain i)) g else []) (guard_at false rs i)
      ∙ chosen_down (has_rules r.up r.down) r (first_at plain i) refl)

  -- the circuit with a reset node is that of the net with one
  pub with_reset_is : circuit_net (names ++ codes "reset" ∷ []) (first ++ true ∷ []) (rs ++ no_rules ∷ []) channels (Some (length first)) ≡ reset_of plain
  with_reset_is =
      let n = length first in
      ap (λ ups. net_of (names ++ codes "reset" ∷ []) (first ++ true ∷ [])
      (record { up = ups; down = map (side false) (each_reset n (first ++ true ∷ []) (rs ++ no_rules ∷ [])) }) channels (Some n))
      (behind_all n true (reset_up plain) first rs 0 same (λ i l. let e : 0 + i ≡ i = omega arith in ap (reset_up plain) e ∙ up_here i))
      ∙ ap (λ downs. net_of (names ++ codes "reset" ∷ []) (first ++ true ∷ [])
      (record { up = map (reset_up plain) (range_with_len 0 n) ++ [] ∷ []; down = downs }) channels (Some n))
      (behind_all n false (reset_down plain) first rs 0 same (λ i l. let e : 0 + i ≡ i = omega arith in ap (reset_down plain) e ∙ down_here i))

-- what a driver's rule says, with what the reset adds to it
abbrev pub leads_back : (up high : Bool) → Bool
leads_back up high = if up then high else not high

none_ended : (up : Bool) (g h : GuardValue) → has_rules g h ≡ false → side up (record { up = g; down = h }) ≡ []
none_ended true [] [] e = refl
none_ended false [] [] e = refl
none_ended up [] (t ∷ h) e = absurd (cc)
none_ended up (t ∷ g) h e = absurd (cc)

reset_rule : (reset : ℕ) (up high b : Bool) (r : NodeRules) → has_rules r.up r.down ≡ b
    → side up (if b then record { up = reset_guard reset high r.up; down = reset_guard reset (not high) r.down } else no_rules)
    ≡ with_ending (ending_of (Some reset) b (leads_back up high)) (side up r)
reset_rule reset true true true r has = sym (forced_is reset r.up)
reset_rule reset true false true r has = sym (held_is reset r.up)
reset_rule reset false false true r has = sym (forced_is reset r.down)
reset_rule reset false true true r has = sym (held_is reset r.down)
reset_rule reset true high false r has = sym (plain_is r.up ∙ none_ended true r.up r.down has)
reset_rule reset false high false r has = sym (plain_is r.down ∙ none_ended false r.up r.down has)

pub rule_is : (reset : Option ℕ) (up : Bool) (first : List Bool) (rs : List NodeRules) (node : ℕ) → length rs ≡ length first → node < length first
    → side up (slice_index_or (circuit_rules reset first rs) node no_rules)
    ≡ with_ending (ending_of reset (has_rules (slice_index_or rs node no_rules).up (slice_index_or rs node no_rules).down)
    (leads_back up (slice_index_or first node false))) (side up (slice_index_or rs node no_rules))
rule_is None up first rs node same l = sym (plain_is (side up (slice_index_or rs node no_rules)))
rule_is (Some reset) up first rs node same l =
    let r = slice_index_or rs node no_rules in
    ap (side up) (reset_at reset first rs node same l) ∙ reset_rule reset up (slice_index_or first node false) (has_rules r.up r.down) r refl

pub rule_here : (names : List (List ℕ)) (reset : Option ℕ) (up : Bool) (first : List Bool) (rs : List NodeRules) (channels : List Wires) (node : ℕ)
    → length rs ≡ length first → node < length first
    → (if up then up_of (circuit_net names first rs channels reset) node else down_of (circuit_net names first rs channels reset) node)
    ≡ with_ending (ending_of reset (has_rules (slice_index_or rs node no_rules).up (slice_index_or rs node no_rules).down)
    (leads_back up (slice_index_or first node false))) (side up (slice_index_or rs node no_rules))
rule_here names reset true first rs channels node same l = guard_at true (circuit_rules reset first rs) node ∙ rule_is reset true first rs node same l
rule_here names reset false first rs channels node same l = guard_at false (circuit_rules reset first rs) node ∙ rule_is reset false first rs node same l

-- a guard without its end is over the same nodes
module _ (count : ℕ) where
  abbrev Near : Literal → Type 0
  Near l = l.node < count

  abbrev Term : List Literal → Type 0
  Term t = All Near t

  fronts_near : (ending : Ending) (g : GuardValue) → IsBelow count (with_ends ending g) → IsBelow count g
  fronts_near ending [] h = All-nil Term
  fronts_near ending (t ∷ g) h =
      All-cons Term t g (front_all Near t (term_end ending) (All-head Term (t ++ term_end ending) (with_ends ending g) h))
      (fronts_near ending g (All-tail Term (t ++ term_end ending) (with_ends ending g) h))

  pub ended_near : (ending : Ending) (g : GuardValue) → IsBelow count (with_ending ending g) → IsBelow count g
  ended_near ending g h = fronts_near ending g (front_all Term (with_ends ending g) (guard_end ending) h)

-- the circuit of a program's drivers is that of its net, with a reset node where one is asked for
pub reset_if : (reset : Bool) (names : List (List ℕ)) (first : List Bool) (rs : List NodeRules) (channels : List Wires) → length rs ≡ length first
    → circuit_net (names ++ (if reset then codes "reset" ∷ [] else [])) (first ++ (if reset then true ∷ [] else []))
    (rs ++ (if reset then no_rules ∷ [] else [])) channels (if reset then Some (length first) else None)
    ≡ (if reset then reset_of (circuit_net names first rs channels None) else circuit_net names first rs channels None)
reset_if true names first rs channels same = with_reset_is names first rs channels same
reset_if false names first rs channels same =
    ap (λ x. circuit_net x (first ++ []) (rs ++ []) channels None) (append-nil names)
    ∙ (ap (λ x. circuit_net names x (rs ++ []) channels None) (append-nil first)
    ∙ ap (λ x. circuit_net names first x channels None) (append-nil rs))

pub reset_holds : (reset : Bool) (n : NetValue) → IsNet n → n.reset ≡ None → All (λ (name : List ℕ). name ≢ codes "reset") n.names
    → IsNet (if reset then reset_of n else n)
reset_holds true n whole plain free = reset_is_net n whole plain free
reset_holds false n whole plain free = whole

-- as many drivers as nodes, then too
pub same_more : (reset : Bool) (first : List Bool) (rs : List NodeRules) → length rs ≡ length first
    → length (rs ++ (if reset then no_rules ∷ [] else [])) ≡ length (first ++ (if reset then true ∷ [] else []))
same_more true first rs same =
    let a = length-append rs (no_rules ∷ []) in
    let b = length-append first (true ∷ []) in
    omega (arith, a, b, same)
same_more false first rs same =
    let a = length-append rs [] in
    let b = length-append first [] in
    omega (arith, a, b, same)

module _ (ns : List (List ℕ)) (fs : List Bool) (rs : List NodeRules) (ws : List Wires) (reset : Bool) (names : List (List ℕ)) (channels : List Wires)
    (at : Option ℕ) (first now : List Bool) (drivers : List NodeRules)
    (named : names ≡ ns ++ (if reset then codes "reset" ∷ [] else [])) (valued : first ≡ fs)
    (first_is : now ≡ first ++ (if reset then true ∷ [] else [])) (driven_by : drivers ≡ rs ++ (if reset then no_rules ∷ [] else []))
    (wired : channels ≡ ws) (placed : at ≡ (if reset then Some (length first) else None)) (same : length rs ≡ length fs) where
  pub circuit_is : circuit_net names now drivers channels at
      ≡ (if reset then reset_of (circuit_net ns fs rs ws None) else circuit_net ns fs rs ws None)
  circuit_is =
      ap (λ x. circuit_net x now drivers channels at) named
      ∙ (ap (λ x. circuit_net (ns ++ (if reset then codes "reset" ∷ [] else [])) x drivers channels at)
      (first_is ∙ ap (λ x. x ++ (if reset then true ∷ [] else [])) valued)
      ∙ (ap (λ x. circuit_net (ns ++ (if reset then codes "reset" ∷ [] else [])) (fs ++ (if reset then true ∷ [] else [])) x channels at) driven_by
      ∙ (ap (λ x. circuit_net (ns ++ (if reset then codes "reset" ∷ [] else [])) (fs ++ (if reset then true ∷ [] else []))
      (rs ++ (if reset then no_rules ∷ [] else [])) x at) wired
      ∙ (ap (λ x. circuit_net (ns ++ (if reset then codes "reset" ∷ [] else [])) (fs ++ (if reset then true ∷ [] else []))
      (rs ++ (if reset then no_rules ∷ [] else [])) ws x) (placed ∙ ap (λ (x : List Bool). if reset then Some (length x) else None) valued)
      ∙ reset_if reset ns fs rs ws same))))

  pub circuit_holds : IsNet (circuit_net ns fs rs ws None) → All (λ (name : List ℕ). name ≢ codes "reset") ns
      → (length drivers ≡ length now) × IsNet (circuit_net names now drivers channels at)
  circuit_holds whole free = (
    ap (λ (x : List NodeRules). length x) driven_by
        ∙ (same_more reset fs rs same
        ∙ sym (ap (λ (x : List Bool). length x) (first_is ∙ ap (λ x. x ++ (if reset then true ∷ [] else [])) valued))),
    subst IsNet (sym circuit_is) (reset_holds reset (circuit_net ns fs rs ws None) whole refl free),
  )

-- a driver of a circuit is over the circuit's own nodes
pub rule_near : (names : List (List ℕ)) (reset : Option ℕ) (first : List Bool) (rs : List NodeRules) (channels : List Wires) (node : ℕ)
    → IsNet (circuit_net names first rs channels reset) → length rs ≡ length first → node < length first
    → IsBelow (length first) (slice_index_or rs node no_rules).up × IsBelow (length first) (slice_index_or rs node no_rules).down
rule_near names reset first rs channels node whole same l =
    let n = length first in
    let r = slice_index_or rs node no_rules in
    let has = has_rules r.up r.down in
    let high = slice_index_or first node false in
    let ups = whole.ups in
    let downs = whole.downs in (
      ended_near n (ending_of reset has (leads_back true high)) r.up
          (subst (IsBelow n) (rule_here names reset true first rs channels node same l) (whole.up_within node [] (omega (arith, ups, l)))),
      ended_near n (ending_of reset has (leads_back false high)) r.down
          (subst (IsBelow n) (rule_here names reset false first rs channels node same l) (whole.down_within node [] (omega (arith, downs, l)))),
    )
