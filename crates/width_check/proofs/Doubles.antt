-- Names that are declared again.
use Rattle.std.proofs.Common.{◌≡◌, ℕ, zero, suc, ◌+◌, ◌<◌, ◌≤◌, Bool, true, false, List, [], ◌∷◌, ◌++◌, length, get_or, take, drop, Option, Some, None, ◌⊎◌, inl, inr, ⊎_elim, refl, sym, ap, ◌∙◌, subst, arith, length-append}
use Rattle.std.specs.Prelude.{◌||◌, if◌then◌else◌, Contains, slice_get}
use Rattle.std.specs.List.{list_any}
use Rattle.std.specs.Str.{bytes_eq}
use Rattle.std.proofs.lemmas.List.{drop_more, take_more, map-append}
use Rattle.std.proofs.lemmas.List.Elements.{Contains-append_left, Contains-append_right, Contains-append_cases}
use Rattle.std.proofs.lemmas.Slice.Eq.{bytes_eq-Decides}
use Rattle.chp_base.specs.declared.span.Span.{Span}
use Rattle.chp_syntax.specs.declared.tree.Decl.{Decl}
use Rattle.chp_syntax.specs.Trees.{ProgramTree}
use Rattle.width_check.specs.Faults.{IsDouble}
use Rattle.width_check.specs.Walk.{is_earlier, earlier, first_double}
use Rattle.width_check.proofs.Scopes.{names}
use Rattle.width_check.proofs.Least.{IsLeast, least_more, least_same, in_rest, front_or_rest, no_item}

pub any_there : (n : List ℕ) (ns : List (List ℕ)) → Contains ns n → list_any (bytes_eq n) ns ≡ true
any_there n [] c = absurd (no_item n c)
any_there n (m ∷ ns) c = by_test (bytes_eq n m) refl (λ rest. any_there n ns rest)
  where
    by_test : (b : Bool) → bytes_eq n m ≡ b → (Contains ns n → list_any (bytes_eq n) ns ≡ true) → (b || list_any (bytes_eq n) ns) ≡ true
    by_test true is rest = refl
    by_test false is rest = ⊎_elim (λ (e : m ≡ n). absurd (let t : true ≡ false = sym ((bytes_eq-Decides n m).1 (sym e)) ∙ is in cc t)) rest
        (front_or_rest m n ns c)

pub there_any : (n : List ℕ) (ns : List (List ℕ)) → list_any (bytes_eq n) ns ≡ true → Contains ns n
there_any n [] h = absurd (cc h)
there_any n (m ∷ ns) h = by_test (bytes_eq n m) refl h (λ rest. there_any n ns rest)
  where
    by_test : (b : Bool) → bytes_eq n m ≡ b → (b || list_any (bytes_eq n) ns) ≡ true → (list_any (bytes_eq n) ns ≡ true → Contains ns n) → Contains (m ∷ ns) n
    by_test true is so rest = (0, omega arith, sym ((bytes_eq-Decides n m).0 is))
    by_test false is so rest = in_rest m n ns (rest so)

any_or_not : (b : Bool) → (b ≡ true → ⊥) → b ≡ false
any_or_not true h = absurd (h refl)
any_or_not false h = refl

pub any_nowhere : (n : List ℕ) (ns : List (List ℕ)) → ¬ Contains ns n → list_any (bytes_eq n) ns ≡ false
any_nowhere n ns none = any_or_not (list_any (bytes_eq n) ns) (λ h. none (there_any n ns h))

pub got_there : (n : List ℕ) (ns : List (List ℕ)) (i : ℕ) → slice_get ns i ≡ Some n → Contains ns n
got_there n [] i is = absurd (cc is)
got_there n (m ∷ ns) zero is = (0, omega arith, let e : m ≡ n = cc is in e)
got_there n (m ∷ ns) (suc i) is = in_rest m n ns (got_there n ns i is)

-- the table, one declaration further

pub record Named (ds : List Decl) (i : ℕ) (ns : List (List ℕ)) (o : Option Span) : Type 0 where
  pub places : first_double ns o (drop i ds) ≡ first_double [] None ds
  pub few : length ns ≤ i
  pub all : o ≡ None → ns ≡ names (take i ds)

step_places : (ds : List Decl) (i : ℕ) (d : Decl) (ns : List (List ℕ)) (o : Option Span) → i < length ds → d ≡ get_or ds i d →
    first_double ns o (drop i ds) ≡ first_double [] None ds → first_double ns o (d ∷ drop (i + 1) ds) ≡ first_double [] None ds
step_places ds i d ns o within is so_far = ap (first_double ns o) (ap (λ (x : Decl). x ∷ drop (i + 1) ds) is ∙ sym (drop_more ds i d within)) ∙ so_far

never_none : (o : Option Span) (s : Span) → earlier o s ≡ None → ⊥
never_none None s is = cc is
never_none (Some t) s is = by_order (is_earlier s t) is
  where
    by_order : (b : Bool) → (if b then Some s else Some t) ≡ None → ⊥
    by_order true so = cc so
    by_order false so = cc so

pub named_again : (ds : List Decl) (i : ℕ) (d : Decl) (ns new : List (List ℕ)) (o p : Option Span) (k : ℕ) → i < length ds → d ≡ get_or ds i d →
    Named ds i ns o → slice_get ns k ≡ Some d.name.name → new ≡ ns → p ≡ earlier o d.name.at → Named ds (i + 1) new p
named_again ds i d ns new o p k within is so_far there kept next =
    let test = any_there d.name.name ns (got_there d.name.name ns k there) in
    let here = step_places ds i d ns o within is so_far.places in
    record {
      places = rw (kept, next) (rw test at here);
      few = let less = so_far.few in let same = ap length kept in omega arith;
      all = λ none. absurd (never_none o d.name.at (sym next ∙ none));
    }

pub named_first : (ds : List Decl) (i : ℕ) (d : Decl) (ns new : List (List ℕ)) (o p : Option Span) → i < length ds → d ≡ get_or ds i d → Named ds i ns o →
    ¬ Contains ns d.name.name → new ≡ ns ++ d.name.name ∷ [] → p ≡ o → Named ds (i + 1) new p
named_first ds i d ns new o p within is so_far nowhere added next =
    let test = any_nowhere d.name.name ns nowhere in
    let here = step_places ds i d ns o within is so_far.places in
    record {
      places = rw (added, next) (rw test at here);
      few = let less = so_far.few in let same = ap length added in omega (arith, length-append {A = List ℕ});
      all = λ none.
          added ∙ ap (λ (ms : List (List ℕ)). ms ++ d.name.name ∷ []) (so_far.all (sym next ∙ none))
          ∙ ap (λ (x : Decl). names (take i ds) ++ x.name.name ∷ []) is
          ∙ sym (ap names (take_more ds i d within) ∙ map-append (λ (x : Decl). x.name.name) (take i ds) (get_or ds i d ∷ []));
    }

-- a name that is declared again, or that is one of some names

-- an earlier declaration of the name
pub record Again (ds : List Decl) (later : ℕ) (name : List ℕ) : Type 0 where
  pub earlier : ℕ
  pub order : earlier < later
  pub first : Decl
  pub first_is : slice_get ds earlier ≡ Some first
  pub same : first.name.name ≡ name

pub record DoubleIn (ns : List (List ℕ)) (ds : List Decl) (s : Span) : Type 0 where
  pub later : ℕ
  pub second : Decl
  pub second_is : slice_get ds later ≡ Some second
  pub before : Contains ns second.name.name ⊎ Again ds later second.name.name
  pub at : s ≡ second.name.at

shifted : (ns ms : List (List ℕ)) (d : Decl) (ds : List Decl) (s : Span) → ((n : List ℕ) → Contains ns n → Contains ms n ⊎ (d.name.name ≡ n)) →
    DoubleIn ns ds s → DoubleIn ms (d ∷ ds) s
shifted ns ms d ds s move h = record {
  later = suc h.later;
  second = h.second;
  second_is = h.second_is;
  before =
      ⊎_elim
      (λ c. ⊎_elim (λ there. inl there) (λ (same : d.name.name ≡ h.second.name.name).
      inr (record { earlier = 0; order = omega arith; first = d; first_is = refl; same = same })) (move h.second.name.name c))
      (λ (g : Again ds h.later h.second.name.name). inr (record {
        earlier = suc g.earlier;
        order = omega (arith, g.order);
        first = g.first;
        first_is =
            g.first_is;
        same = g.same;
      }))
      h.before;
  at = h.at;
}

-- a double of some declarations is the first of them, or one of the others
unshifted : (ns ms : List (List ℕ)) (d : Decl) (ds : List Decl) (s : Span) → ((n : List ℕ) → Contains ns n → Contains ms n) → Contains ms d.name.name →
    DoubleIn ns (d ∷ ds) s → ((s ≡ d.name.at) × Contains ns d.name.name) ⊎ DoubleIn ms ds s
unshifted ns ms d ds s move here h = by_place h.later h.second h.second_is h.before h.at
  where
    again : (later : ℕ) (second : Decl) → slice_get ds later ≡ Some second → Again (d ∷ ds) (suc later) second.name.name →
        Contains ms second.name.name ⊎ Again ds later second.name.name
    again later second is g = by_earlier g.earlier g.order g.first g.first_is g.same
      where
        by_earlier : (earlier : ℕ) → earlier < suc later → (first : Decl) → slice_get (d ∷ ds) earlier ≡ Some first → first.name.name ≡ second.name.name →
            Contains ms second.name.name ⊎ Again ds later second.name.name
        by_earlier zero order first first_is same =
            let one : d ≡ first = cc first_is in
            inl (subst (λ (n : List ℕ). Contains ms n) (ap (λ (x : Decl). x.name.name) one ∙ same) here)
        by_earlier (suc k) order first first_is same =
            inr (record { earlier = k; order = omega (arith, order); first = first; first_is = first_is; same = same })

    by_place : (later : ℕ) (second : Decl) → slice_get (d ∷ ds) later ≡ Some second → Contains ns second.name.name ⊎ Again (d ∷ ds) later second.name.name →
        s ≡ second.name.at → ((s ≡ d.name.at) × Contains ns d.name.name) ⊎ DoubleIn ms ds s
    by_place zero second is before at =
        let one : d ≡ second = cc is in
        ⊎_elim (λ c. inl (at ∙ ap (λ (x : Decl). x.name.at) (sym one), subst (λ (x : Decl). Contains ns x.name.name) (sym one) c))
        (λ (g : Again (d ∷ ds) 0 second.name.name). absurd (let o = g.order in omega arith)) before
    by_place (suc k) second is before at =
        inr (record {
          later = k;
          second = second;
          second_is = is;
          before = ⊎_elim (λ c. inl (move second.name.name c)) (λ g. again k second is g) before;
          at =
              at;
        })

behind : (ns : List (List ℕ)) (m n : List ℕ) → Contains (ns ++ m ∷ []) n → Contains ns n ⊎ (m ≡ n)
behind ns m n c = ⊎_elim (λ l. inl l) (λ r. ⊎_elim (λ (e : m ≡ n). inr e) (λ k. absurd (no_item n k)) (front_or_rest m n [] r))
    (Contains-append_cases ns (m ∷ []) n c)

pub double_of : (P : Span → Type 0) (ns : List (List ℕ)) (o : Option Span) (ds : List Decl) → IsLeast P o →
    IsLeast (λ s. P s ⊎ DoubleIn ns ds s) (first_double ns o ds)
double_of P ns o [] least = least_same P (λ s. P s ⊎ DoubleIn ns [] s) o (λ s p. inl p)
    (λ s h. ⊎_elim (λ p. p) (λ (d : DoubleIn ns [] s). absurd (cc (d.second_is))) h) least
double_of P ns o (d ∷ ds) least = by_test (list_any (bytes_eq d.name.name) ns) refl (λ Q ms p first. double_of Q ms p ds first)
  where
    by_test : (b : Bool) → list_any (bytes_eq d.name.name) ns ≡ b →
        ((Q : Span → Type 0) (ms : List (List ℕ)) (p : Option Span) → IsLeast Q p → IsLeast (λ s. Q s ⊎ DoubleIn ms ds s) (first_double ms p ds))
        → IsLeast (λ s. P s ⊎ DoubleIn ns (d ∷ ds) s) (if b then first_double ns (earlier o d.name.at) ds else first_double (ns ++ d.name.name ∷ []) o ds)
    by_test true is rest =
        let here = there_any d.name.name ns is in
        least_same (λ s. (P s ⊎ (s ≡ d.name.at)) ⊎ DoubleIn ns ds s) (λ s. P s ⊎ DoubleIn ns (d ∷ ds) s) (first_double ns (earlier o d.name.at) ds)
        (λ s h. ⊎_elim (λ k. ⊎_elim (λ p. inl p) (λ (e : s ≡ d.name.at). inr (record { later = 0; second = d; second_is = refl; before = inl here; at = e })) k)
        (λ q. inr (shifted ns ns d ds s (λ n c. inl c) q)) h)
        (λ s h. ⊎_elim (λ p. inl (inl p)) (λ q. ⊎_elim (λ e. inl (inr e.0)) (λ r. inr r) (unshifted ns ns d ds s (λ n c. c) here q)) h)
        (rest (λ s. P s ⊎ (s ≡ d.name.at)) ns (earlier o d.name.at) (least_more P o d.name.at least))
    by_test false is rest =
        let ms : List (List ℕ) = ns ++ d.name.name ∷ [] in
        least_same (λ s. P s ⊎ DoubleIn ms ds s) (λ s. P s ⊎ DoubleIn ns (d ∷ ds) s) (first_double ms o ds)
        (λ s h. ⊎_elim (λ p. inl p) (λ q. inr (shifted ms ns d ds s (λ n c. behind ns d.name.name n c) q)) h)
        (λ s h.
        ⊎_elim (λ p. inl p)
        (λ q. ⊎_elim (λ e. absurd (let t : true ≡ false = sym (any_there d.name.name ns e.1) ∙ is in cc t)) (λ r. inr r)
        (unshifted ns ms d ds s (λ n c. Contains-append_left ns (d.name.name ∷ []) n c) (Contains-append_right ns (d.name.name ∷ []) d.name.name (
          0,
          omega arith,
          refl,
        )) q))
        h)
        (rest P ms o least)

pub double_least : (p : ProgramTree) → IsLeast (λ s. IsDouble p s) (first_double [] None p.decls)
double_least p =
    least_same (λ s. ⊥ ⊎ DoubleIn [] p.decls s) (λ s. IsDouble p s) (first_double [] None p.decls)
    (λ s h. ⊎_elim (λ n. absurd n) (λ (d : DoubleIn [] p.decls s). ⊎_elim (λ c. absurd (no_item d.second.name.name c))
    (λ (g : Again p.decls d.later d.second.name.name). record {
      earlier = g.earlier;
      later = d.later;
      order = g.order;
      first = g.first;
      second = d.second;
      first_is = g.first_is;
      second_is = d.second_is;
      same = g.same;
      at = d.at;
    }) d.before) h)
    (λ s h. inr (record {
      later = h.later;
      second = h.second;
      second_is = h.second_is;
      before =
          inr (record { earlier = h.earlier; order = h.order; first = h.first; first_is = h.first_is; same = h.same });
      at = h.at;
    }))
    (double_of (λ s. ⊥) [] None p.decls (λ s n. n))
