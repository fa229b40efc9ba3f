-- Contacts are sorted into lists, one after another.
use Rattle.std.proofs.Common.{◌≡◌, ◌∙◌, ℕ, zero, suc, ◌+◌, ◌<◌, ◌==◌, Bool, true, false, List, [], ◌∷◌, ◌++◌, length, get_or, map, All, refl, sym, ap, subst, arith}
use Rattle.std.specs.Prelude.{if◌then◌else◌, slice_set}
use Rattle.std.specs.List.{flat_map}
use Rattle.std.specs.declared.alloc.Global.{Global}
use Rattle.std.specs.declared.vec.Vec.{Vec}
use Rattle.std.proofs.lemmas.Bool.{eqb-true, eqb-false}
use Rattle.std.proofs.lemmas.List.{append-nil, map-set, map-id, length-map, get_or-map, get_or-set_same, get_or-set_other}
use Rattle.std.proofs.lemmas.List.Concat.{flat_map-append}
use Rattle.prs_core.specs.Pairs.{Pair}
use Rattle.width_check.specs.Processes.{Process, TypedProgram}
use Rattle.width_check.specs.Typing.{IsProcess}
use Rattle.handshake_expand.specs.Layout.{size_of}
use Rattle.handshake_expand.specs.Sites.{sites_in}
use Rattle.net_compose.proofs.SitesOwn.{sites_own, site_of}
use Rattle.net_compose.specs.declared.sorted.Sorted.{Sorted}
use Rattle.net_compose.specs.Contacts.{ContactValue, every_contact}
use Rattle.net_compose.specs.SortedContacts.{IsDeclaredContact, listed_at, HasContactLists}

-- lists to one of which an item is appended
module _ {A : Type 0} (lists : List (List A)) (n : ℕ) (within : n < length lists) (a : A) (new : List A) (is : new ≡ get_or lists n [] ++ a ∷ []) where
  appended_at : (k : ℕ) (b : Bool) → (n == k) ≡ b → get_or (slice_set lists n new) k [] ≡ get_or lists k [] ++ (if b then a ∷ [] else [])
  appended_at k true e =
      let same : k ≡ n = sym (eqb-true n k e) in
      ap (λ j. get_or (slice_set lists n new) j []) same ∙ (get_or-set_same lists n new [] within ∙ (is ∙ ap (λ j. get_or lists j [] ++ a ∷ []) (sym same)))
  appended_at k false e = get_or-set_other lists n k new [] (λ same. eqb-false n k e (sym same)) ∙ sym (append-nil (get_or lists k []))

  pub appended : (k : ℕ) → get_or (slice_set lists n new) k [] ≡ get_or lists k [] ++ (if n == k then a ∷ [] else [])
  appended k = appended_at k (n == k) refl

-- lists by number
module _ {A : Type 0} where
  abbrev items_of : Vec A Global → List A
  items_of list = list.items

  pub item_added : (lists : List (Vec A Global)) (n : ℕ) (d new : Vec A Global) (a : A) → n < length lists → new.items ≡ (get_or lists n d).items ++ a ∷ []
      → (k : ℕ) → listed_at (slice_set lists n new) k ≡ listed_at lists k ++ (if n == k then a ∷ [] else [])
  item_added lists n d new a within is k =
      let count : length (map items_of lists) ≡ length lists = length-map lists items_of in
      ap (λ xs. get_or xs k []) (map-set items_of lists n new)
      ∙ appended (map items_of lists) n (omega (arith, count, within)) a new.items
      (is ∙ ap (λ xs. xs ++ a ∷ []) (sym (get_or-map items_of lists n d [] within))) k

  empty_more : (lists : List (Vec A Global)) (empty : Vec A Global) → empty.items ≡ [] → ((k : ℕ) → listed_at lists k ≡ []) → (k : ℕ)
      → listed_at (lists ++ empty ∷ []) k ≡ []
  empty_more [] empty is h zero = is
  empty_more [] empty is h (suc k) = refl
  empty_more (list ∷ lists) empty is h zero = h zero
  empty_more (list ∷ lists) empty is h (suc k) = empty_more lists empty is (λ j. h (suc j)) k

  pub empty_added : (lists new : List (Vec A Global)) (empty : Vec A Global) → empty.items ≡ [] → new ≡ lists ++ empty ∷ []
      → ((k : ℕ) → listed_at lists k ≡ []) → (k : ℕ) → listed_at new k ≡ []
  empty_added lists new empty is pushed h k = ap (λ xs. listed_at xs k) pushed ∙ empty_more lists empty is h k

  list_at : (lists : List (Vec A Global)) (k : ℕ) (list : Vec A Global) → k < length lists → list ≡ get_or lists k list
      → list.items ≡ listed_at lists k
  list_at lists k list within is = ap items_of is ∙ sym (get_or-map items_of lists k list [] within)

-- one contact more, and all of them
pub picked_more : {C : Type 0} (pick : ContactValue → List C) (contacts : List ContactValue) (v : ContactValue) (now new : List C) → new ≡ now ++ pick v
    → now ≡ flat_map pick contacts → new ≡ flat_map pick (contacts ++ v ∷ [])
picked_more pick contacts v now new added before =
    added
    ∙ (ap (λ xs. xs ++ pick v) before
    ∙ (ap (λ xs. flat_map pick contacts ++ xs) (sym (append-nil (pick v)))
    ∙ sym (flat_map-append pick contacts (v ∷ []))))

pub all_picked : {C : Type 0} (pick : ContactValue → List C) (contacts yielded : List ContactValue) (now : List C)
    → map (λ (v : ContactValue). v) yielded ≡ contacts → now ≡ flat_map pick yielded → now ≡ flat_map pick contacts
all_picked pick contacts yielded now all so_far = so_far ∙ ap (flat_map pick) (sym (map-id yielded) ∙ all)

-- the lists stay as many
pub lists_same : (sorted : Sorted) (channels vars : ℕ) (new : Sorted) → HasContactLists channels vars sorted → HasContactLists (length sorted.sent.items)
    (length sorted.written.items) new → HasContactLists channels vars new
lists_same sorted channels vars new h k = record { sent = k.sent ∙ h.sent; taken = k.taken ∙ h.sent; written = k.written ∙ h.written }

pub number_within : (sorted : Sorted) (channels vars : ℕ) (v : ContactValue) → HasContactLists channels vars sorted → IsDeclaredContact channels vars v
    → IsDeclaredContact (length sorted.sent.items) (length sorted.written.items) v
number_within sorted channels vars v h of =
    subst (λ n. IsDeclaredContact n (length sorted.written.items) v) (sym h.sent) (subst (λ n. IsDeclaredContact channels n v) (sym h.written) of)

-- one of contacts that are declared
pub contact_within : (channels vars : ℕ) (contacts : List ContactValue) → All (IsDeclaredContact channels vars) contacts → (i : ℕ) (v : ContactValue)
    → i < length contacts → v ≡ get_or contacts i v → IsDeclaredContact channels vars v
contact_within channels vars contacts all i v within is = subst (IsDeclaredContact channels vars) (sym is) (all i v within)

-- those of a statement are
pub statement_declared : (p : TypedProgram) (s : Process) (from : ℕ) → IsProcess p.channels p.vars s
    → All (IsDeclaredContact (length p.channels) (length p.vars)) (sites_in p (every_contact p) s from)
statement_declared p s from h = λ i d inside.
    site_of p from (from + size_of p s) (get_or (sites_in p (every_contact p) s from) i d) (sites_own p s from h i d inside)

-- the lists of one channel and of one variable
module _ (sorted : Sorted) (channels vars : ℕ) (lists : HasContactLists channels vars sorted) (k : ℕ) where
  pub sent_here : k < channels → (list : Vec (List Pair) Global) → list ≡ get_or sorted.sent.items k list → list.items ≡ listed_at sorted.sent.items k
  sent_here within list is = let n = lists.sent in list_at sorted.sent.items k list (omega (arith, n, within)) is

  pub taken_here : k < channels → (list : Vec ℕ Global) → list ≡ get_or sorted.taken.items k list → list.items ≡ listed_at sorted.taken.items k
  taken_here within list is = let n = lists.taken in list_at sorted.taken.items k list (omega (arith, n, within)) is

  pub written_here : k < vars → (list : Vec (List Pair) Global) → list ≡ get_or sorted.written.items k list → list.items ≡ listed_at sorted.written.items k
  written_here within list is = let n = lists.written in list_at sorted.written.items k list (omega (arith, n, within)) is
