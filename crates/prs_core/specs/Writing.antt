-- What is written into rules, and what is left alone: for proofs of calls that write the guards of several nodes.
use Rattle.std.specs.Prelude.{◌≡◌, ◌≢◌, ℕ, zero, suc, ◌<◌, ◌⊎◌, List, [], ◌∷◌, ◌++◌, length, slice_index_or, slice_set, All, AllPairs, Contains}
use Rattle.std.proofs.Common.{refl, sym, ap, subst, ◌∙◌, inl, inr, suc-le-suc}
use Rattle.std.proofs.Math.Nat.{zero-lt-suc}
use Rattle.std.proofs.lemmas.List.{append-nil, get_or-set_same, get_or-set_other, length-set, set_comm}
use Rattle.std.proofs.lemmas.List.Elements.{All-nil, All-cons, All-head, All-tail}
use Rattle.prs_core.specs.Nets.{RulesValue, IsAlone, with_rules}
use Rattle.prs_core.specs.Parts.{Owned, with_owned}
use Rattle.prs_core.specs.Turning.{among_cases, none_among}

-- the node is none of these
abbrev pub IsOther : ℕ → List Owned → Type 0
IsOther node os = All (λ (o : Owned). o.node ≢ node) os

pub alone_same : (r : RulesValue) (node : ℕ) → IsAlone r r node
alone_same r node = record { up = refl; down = refl }

pub alone_on : (a b c : RulesValue) (node : ℕ) → IsAlone a b node → IsAlone b c node → IsAlone a c node
alone_on a b c node h k = record { up = k.up ∙ h.up; down = k.down ∙ h.down }

pub with_append : (os us : List Owned) (r : RulesValue) → with_owned (os ++ us) r ≡ with_owned us (with_owned os r)
with_append [] us r = refl
with_append (o ∷ os) us r = with_append os us (with_rules o.node o.rules r)

pub other_left : (node : ℕ) (os us : List Owned) → IsOther node (os ++ us) → IsOther node os
other_left node [] us h = All-nil (λ (o : Owned). o.node ≢ node)
other_left node (o ∷ os) us h =
    All-cons (λ (o : Owned). o.node ≢ node) o os (All-head (λ (o : Owned). o.node ≢ node) o (os ++ us) h)
    (other_left node os us (All-tail (λ (o : Owned). o.node ≢ node) o (os ++ us) h))

pub other_right : (node : ℕ) (os us : List Owned) → IsOther node (os ++ us) → IsOther node us
other_right node [] us h = h
other_right node (o ∷ os) us h = other_right node os us (All-tail (λ (o : Owned). o.node ≢ node) o (os ++ us) h)

-- a node that is none of these keeps its guards
pub others_alone : (node : ℕ) (os : List Owned) (r : RulesValue) → IsOther node os → IsAlone r (with_owned os r) node
others_alone node [] r other = alone_same r node
others_alone node (o ∷ os) r other =
    let next = with_rules o.node o.rules r in
    let apart = All-head (λ (o : Owned). o.node ≢ node) o os other in
    alone_on r next (with_owned os next) node
    (record {
      up = get_or-set_other r.up o.node node o.rules.up [] (λ e. apart (sym e));
      down =
          get_or-set_other r.down o.node node o.rules.down [] (λ e. apart (sym e));
    })
    (others_alone node os next (All-tail (λ (o : Owned). o.node ≢ node) o os other))

-- the node has its rules
pub record HasRules (r : RulesValue) (o : Owned) : Type 0 where
  pub up : slice_index_or r.up o.node [] ≡ o.rules.up
  pub down : slice_index_or r.down o.node [] ≡ o.rules.down

-- each of these has its rules, where no two are one node
pub rules_there : (os : List Owned) (r : RulesValue) (o : Owned) → AllPairs (λ (a b : Owned). a.node ≢ b.node) os →
    Contains os o → o.node < length r.up → o.node < length r.down → HasRules (with_owned os r) o
rules_there [] r o distinct among up down = absurd (none_among o among)
rules_there (p ∷ ps) r o distinct among up down =
    by (among_cases p ps o among) (λ there.
    rules_there ps next o (λ i j d less within. distinct (suc i) (suc j) d (suc-le-suc less) (suc-le-suc within))
    there (subst (λ n. o.node < n) (sym (length-set r.up p.node p.rules.up)) up)
    (subst (λ n. o.node < n) (sym (length-set r.down p.node p.rules.down)) down))
  where
    next : RulesValue
    next = with_rules p.node p.rules r

    others : IsOther p.node ps
    others k d within e = distinct zero (suc k) d (zero-lt-suc k) (suc-le-suc within) (sym e)

    first : p.node < length r.up → p.node < length r.down → HasRules (with_owned ps next) p
    first above below =
        let alone = others_alone p.node ps next others in
        record {
          up = alone.up ∙ get_or-set_same r.up p.node p.rules.up [] above;
          down =
              alone.down ∙ get_or-set_same r.down p.node p.rules.down [] below;
        }

    by : (p ≡ o) ⊎ Contains ps o → (Contains ps o → HasRules (with_owned ps next) o) → HasRules (with_owned ps next) o
    by (inl e) rest = subst (HasRules (with_owned ps next)) e
        (first (subst (λ (x : Owned). x.node < length r.up) (sym e) up)
        (subst (λ (x : Owned). x.node < length r.down) (sym e) down))
    by (inr there) rest = rest there

-- nodes that differ may be written in any order
with_past : (o : Owned) (os : List Owned) (r : RulesValue) → IsOther o.node os →
    with_owned os (with_rules o.node o.rules r) ≡ with_rules o.node o.rules (with_owned os r)
with_past o [] r other = refl
with_past o (p ∷ ps) r other =
    let apart = All-head (λ (x : Owned). x.node ≢ o.node) p ps other in
    ap (with_owned ps)
    (ap (λ u. record { up = u; down = slice_set (slice_set r.down o.node o.rules.down) p.node p.rules.down })
    (set_comm r.up o.node p.node o.rules.up p.rules.up (λ e. apart (sym e)))
    ∙ ap (λ d. record { up = slice_set (slice_set r.up p.node p.rules.up) o.node o.rules.up; down = d })
    (set_comm r.down o.node p.node o.rules.down p.rules.down (λ e. apart (sym e))))
    ∙ with_past o ps (with_rules p.node p.rules r) (All-tail (λ (x : Owned). x.node ≢ o.node) p ps other)

pub with_exchanged : (os us : List Owned) (r : RulesValue) → ((o : Owned) → Contains os o → IsOther o.node us) →
    with_owned (os ++ us) r ≡ with_owned (us ++ os) r
with_exchanged [] us r apart = ap (λ l. with_owned l r) (sym (append-nil us))
with_exchanged (o ∷ os) us r apart =
    let next = with_rules o.node o.rules r in
    with_exchanged os us next (λ x (k, within, is). apart x (suc k, suc-le-suc within, is))
    ∙ (with_append us os next
    ∙ (ap (with_owned os) (with_past o us r (apart o (zero, zero-lt-suc _, refl)))
    ∙ sym (with_append us (o ∷ os) r)))
