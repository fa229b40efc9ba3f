-- While a receive port is written.
use Rattle.std.proofs.Common.{◌≡◌, ◌≢◌, ℕ, ◌+◌, ◌<◌, List, [], ◌∷◌, Contains, length, drop, refl, sym, ap, subst, ◌∙◌, arith, slice_index_or}
use Rattle.std.proofs.lemmas.List.{drop_more}
use Rattle.std.proofs.lemmas.List.Elements.{All-head, All-tail, Contains-append_left, Contains-append_right}
use Rattle.prs_core.specs.Nets.{RulesValue, IsAlone, with_rules}
use Rattle.prs_core.specs.Parts.{Owned, owned, with_owned}
use Rattle.prs_core.specs.Writing.{IsOther, alone_same, alone_on}
use Rattle.prs_core.specs.Partly.{IsPartly, partly_none, partly_all, partly_of, partly_on}
use Rattle.cell_channel.specs.Ends.{taken_rail, port_owned}

-- what is written, then what is left to write from this rail on
pub record Taken (request : ℕ) (rails : List ℕ) (from : ℕ) (old : RulesValue) (done node : ℕ) (now : RulesValue) : Type 0 where
  pub place : node ≡ from + done
  pub written : with_owned (port_owned request (drop done rails) node) now ≡ with_owned (port_owned request rails from) old
  pub nodes : length now.up ≡ length old.up
  pub others : (k : ℕ) → IsOther k (port_owned request rails from) → IsAlone old now k
  pub left : (k : ℕ) → IsOther k (port_owned request rails from) → IsOther k (port_owned request (drop done rails) node)
  pub partly : IsPartly (port_owned request rails from) old now
  pub among : (o : Owned) → Contains (port_owned request (drop done rails) node) o → Contains (port_owned request rails from) o

pub taken_begin : (request : ℕ) (rails : List ℕ) (from : ℕ) (old : RulesValue) → Taken request rails from old 0 from old
taken_begin request rails from old = record {
  place = omega arith;
  written = refl;
  nodes = refl;
  others = λ k o. alone_same old k;
  left = λ k o. o;
  partly = partly_none (port_owned request rails from) old old refl;
  among = λ o k. k;
}

-- the rail that is next
abbrev pub next_rail : List ℕ → ℕ → ℕ
next_rail rails done = slice_index_or rails done 0

left_is : (request : ℕ) (rails : List ℕ) (from : ℕ) (old : RulesValue) (done node : ℕ) (now : RulesValue) → Taken request rails from old done node now →
    done < length rails → (k : ℕ) → IsOther k (port_owned request rails from) →
    IsOther k (port_owned request (next_rail rails done ∷ drop (done + 1) rails) node)
left_is request rails from old done node now so_far within k o =
    subst (λ l. IsOther k (port_owned request l node)) (drop_more rails done 0 within) (so_far.left k o)

among_is : (request : ℕ) (rails : List ℕ) (from : ℕ) (old : RulesValue) (done node : ℕ) (now : RulesValue) → Taken request rails from old done node now →
    done < length rails → (o : Owned) → Contains (port_owned request (next_rail rails done ∷ drop (done + 1) rails) node) o →
    Contains (port_owned request rails from) o
among_is request rails from old done node now so_far within o k =
    so_far.among o (subst (λ l. Contains (port_owned request l node) o) (sym (drop_more rails done 0 within)) k)

-- one rail more
pub taken_more : (request : ℕ) (rails : List ℕ) (from : ℕ) (old : RulesValue) (done node : ℕ) (now later : RulesValue) →
    Taken request rails from old done node now → done < length rails → later ≡ with_rules node (taken_rail request (next_rail rails done)) now →
    length later.up ≡ length now.up → ((k : ℕ) → k ≢ node → IsAlone now later k) → Taken request rails from old (done + 1) (node + 1) later
taken_more request rails from old done node now later so_far within made count alone =
    let this = owned node (taken_rail request (next_rail rails done)) in
    let rest = port_owned request (drop (done + 1) rails) (node + 1) in record {
      place = ap (λ n. n + 1) so_far.place ∙ omega arith;
      written = ap (with_owned rest) made ∙ (sym (ap (λ l. with_owned (port_owned request l node) now) (drop_more rails done 0 within)) ∙ so_far.written);
      nodes = count ∙ so_far.nodes;
      others = λ k o. alone_on old now later k (so_far.others k o)
          (alone k (λ e. All-head (λ (o : Owned). o.node ≢ k) this rest (left_is request rails from old done node now so_far within k o) (sym e)));
      left = λ k o. All-tail (λ (o : Owned). o.node ≢ k) this rest (left_is request rails from old done node now so_far within k o);
      partly =
          partly_on (port_owned request rails from) old now later so_far.partly
          (partly_of (this ∷ []) (port_owned request rails from) now later
          (λ o k. among_is request rails from old done node now so_far within o (Contains-append_left (this ∷ []) rest o k))
          (partly_all (this ∷ []) now later made));
      among = λ o k. among_is request rails from old done node now so_far within o (Contains-append_right (this ∷ []) rest o k);
    }

-- also where memory runs out at a rail
pub taken_partly : (request : ℕ) (rails : List ℕ) (from : ℕ) (old : RulesValue) (done node : ℕ) (now later : RulesValue) →
    Taken request rails from old done node now → later ≡ now → IsPartly (port_owned request rails from) old later
taken_partly request rails from old done node now later so_far same = subst (IsPartly (port_owned request rails from) old) (sym same) so_far.partly

-- also where memory runs out at a rail
pub taken_alone : (request : ℕ) (rails : List ℕ) (from : ℕ) (old : RulesValue) (done node : ℕ) (now later : RulesValue) →
    Taken request rails from old done node now → done < length rails → ((k : ℕ) → k ≢ node → IsAlone now later k) → (k : ℕ) →
    IsOther k (port_owned request rails from) → IsAlone old later k
taken_alone request rails from old done node now later so_far within alone k o =
    let this = owned node (taken_rail request (next_rail rails done)) in
    let rest = port_owned request (drop (done + 1) rails) (node + 1) in
    alone_on old now later k (so_far.others k o)
    (alone k (λ e. All-head (λ (o : Owned). o.node ≢ k) this rest (left_is request rails from old done node now so_far within k o) (sym e)))
