-- What the loops over the branches have written so far.
use Rattle.std.proofs.Common.{◌≡◌, ◌≢◌, ℕ, suc, ◌<◌, ◌*◌, ◌+◌, List, [], ◌∷◌, ◌++◌, All, Contains, length, map, take, drop, slice_index_or, arith, ap, sym, ◌∙◌, refl, subst}
use Rattle.std.proofs.lemmas.List.{take_more}
use Rattle.std.proofs.Math.Seq.{drop-cons}
use Rattle.prs_core.specs.declared.rule.Literal.{Literal}
use Rattle.std.proofs.lemmas.List.Elements.{Contains-append_left, Contains-append_right}
use Rattle.prs_core.specs.Nets.{NodeRules, RulesValue, IsAlone, is_high, is_low, one_term, with_rules}
use Rattle.prs_core.specs.Pairs.{Pair, rails_of, lows, or_of}
use Rattle.prs_core.specs.Parts.{Owned, owned, owned_at, with_owned}
use Rattle.cell_select.specs.Selections.{all_false, only_one_true, latches, started, starts, joined_answer, evaluation, turn_request, leave_latch, leave_answer}
use Rattle.cell_select.specs.Contract.{latches_of, starts_of, answers_of, guards_of, shared_owned, branches_owned, select_owned, again_owned}
use Rattle.cell_select.specs.PortNodes.{pairs_of, branches_from, select_of, again_of, turn_shared, AreBranches}
use Rattle.cell_select.specs.declared.emit.SelectPorts.{SelectPorts}
use Rattle.cell_select.specs.declared.emit.AgainPorts.{AgainPorts}
use Rattle.cell_select.proofs.PairLists.{pair_is, pair_in, rails_again, pairs_length}
use Rattle.cell_select.proofs.GuardLemmas.{alone_then, alone_still}
use Rattle.prs_core.specs.Partly.{IsPartly, partly_none, partly_all, partly_of, partly_on, then_one, then_none}
use Rattle.std.specs.Prelude.{Result, Ok, Err, OnOk, OnErr}

abbrev pub latch_of : (request : ℕ) → List Literal → NodeRules
latch_of request wanted = record { up = one_term wanted; down = one_term (is_low request ∷ []) }

-- the latch of one of the guards
abbrev pub latch_at : (request : ℕ) → (rails : List ℕ) → (i : ℕ) → NodeRules
latch_at request rails i =
    let hs = pairs_of rails in
    latch_of request (all_false (take i hs) ++ is_high (slice_index_or rails (2 * i) 0) ∷ all_false (drop (i + 1) hs))

abbrev pub latches_behind : (request : ℕ) → (before behind : List Pair) → List NodeRules
latches_behind request before behind = map (latch_of request) (only_one_true before behind)

-- those that are left lead on to what all of them make
pub record LatchesSoFar (request : ℕ) (nodes : List ℕ) (hs : List Pair) (i : ℕ) (old now : RulesValue) : Type 0 where
  pub rest : with_owned (owned_at (drop i nodes) (latches_behind request (take i hs) (drop i hs))) now ≡ with_owned (owned_at nodes (latches request hs)) old
  pub count : length now.up ≡ length old.up
  pub others : (other : ℕ) → All (λ n. n ≢ other) nodes → IsAlone old now other
  pub partly : IsPartly (owned_at nodes (latches request hs)) old now
  pub among : (o : Owned) → Contains (owned_at (drop i nodes) (latches_behind request (take i hs) (drop i hs))) o →
      Contains (owned_at nodes (latches request hs)) o

pub latches_begin : (request : ℕ) (nodes : List ℕ) (hs : List Pair) (old : RulesValue) → LatchesSoFar request nodes hs 0 old old
latches_begin request nodes hs old = record {
  rest = refl;
  count = refl;
  others = λ other h. alone_still old other;
  partly = partly_none (owned_at nodes (latches request hs)) old old refl;
  among = λ o k. k;
}

pub record StartsSoFar (nodes latched : List ℕ) (hs : List Pair) (i : ℕ) (old now : RulesValue) : Type 0 where
  pub rest : with_owned (owned_at (drop i nodes) (starts (drop i latched) hs)) now ≡ with_owned (owned_at nodes (starts latched hs)) old
  pub count : length now.up ≡ length old.up
  pub others : (other : ℕ) → All (λ n. n ≢ other) nodes → IsAlone old now other
  pub partly : IsPartly (owned_at nodes (starts latched hs)) old now
  pub among : (o : Owned) → Contains (owned_at (drop i nodes) (starts (drop i latched) hs)) o → Contains (owned_at nodes (starts latched hs)) o

pub starts_begin : (nodes latched : List ℕ) (hs : List Pair) (old : RulesValue) → StartsSoFar nodes latched hs 0 old old
starts_begin nodes latched hs old = record {
  rest = refl;
  count = refl;
  others = λ other h. alone_still old other;
  partly = partly_none (owned_at nodes (starts latched hs)) old old refl;
  among = λ o k. k;
}

abbrev no_pair : Pair
no_pair = record { t = 0; f = 0 }

dropped : {X : Type 0} (xs : List X) (i : ℕ) (d : X) → i < length xs → drop i xs ≡ slice_index_or xs i d ∷ drop (i + 1) xs
dropped xs i d lt =
    let e : suc i ≡ i + 1 = omega arith in
    drop-cons xs i d lt ∙ ap (λ k. slice_index_or xs i d ∷ drop k xs) e

-- the latches from one on are that one and those behind it
latches_list : (request : ℕ) (nodes : List ℕ) (hs : List Pair) (i : ℕ) (h : Pair) → i < length nodes → i < length hs → slice_index_or hs i no_pair ≡ h →
    owned_at (drop i nodes) (latches_behind request (take i hs) (drop i hs)) ≡
    owned (slice_index_or nodes i 0) (latch_of request (all_false (take i hs) ++ is_high h.t ∷ all_false (drop (i + 1) hs)))
    ∷ owned_at (drop (i + 1) nodes) (latches_behind request (take (i + 1) hs) (drop (i + 1) hs))
latches_list request nodes hs i h ln lh at =
    let was : drop i hs ≡ h ∷ drop (i + 1) hs = dropped hs i no_pair lh ∙ ap (λ (x : Pair). x ∷ drop (i + 1) hs) at in
    let more : take (i + 1) hs ≡ take i hs ++ h ∷ [] = take_more hs i no_pair lh ∙ ap (λ (x : Pair). take i hs ++ x ∷ []) at in
    ap (λ ns. owned_at ns (latches_behind request (take i hs) (drop i hs))) (dropped nodes i 0 ln)
    ∙ ap (λ xs. owned_at (slice_index_or nodes i 0 ∷ drop (i + 1) nodes) (latches_behind request (take i hs) xs)) was
    ∙ ap (λ xs. owned (slice_index_or nodes i 0) (latch_of request (all_false (take i hs) ++ is_high h.t ∷ all_false (drop (i + 1) hs)))
    ∷ owned_at (drop (i + 1) nodes) (latches_behind request xs (drop (i + 1) hs))) (sym more)

latches_next : (request : ℕ) (nodes : List ℕ) (hs : List Pair) (i : ℕ) (h : Pair) → i < length nodes → i < length hs → slice_index_or hs i no_pair ≡ h →
    (now : RulesValue) → with_owned (owned_at (drop (i + 1) nodes) (latches_behind request (take (i + 1) hs) (drop (i + 1) hs)))
    (with_rules (slice_index_or nodes i 0) (latch_of request (all_false (take i hs) ++ is_high h.t ∷ all_false (drop (i + 1) hs))) now) ≡
    with_owned (owned_at (drop i nodes) (latches_behind request (take i hs) (drop i hs))) now
latches_next request nodes hs i h ln lh at now = sym (ap (λ os. with_owned os now) (latches_list request nodes hs i h ln lh at))

pub latches_step : (request : ℕ) (nodes rails : List ℕ) (i : ℕ) (old now new : RulesValue) → length rails ≡ 2 * length nodes →
    i < length nodes → LatchesSoFar request nodes (pairs_of rails) i old now → new ≡ with_rules (slice_index_or nodes i 0) (latch_at request rails i) now →
    length new.up ≡ length now.up → ((other : ℕ) → other ≢ slice_index_or nodes i 0 → IsAlone now new other) →
    LatchesSoFar request nodes (pairs_of rails) (i + 1) old new
latches_step request nodes rails i old now new even lt before wrote count others =
    let hs = pairs_of rails in
    let same : length hs ≡ length nodes = pairs_length (length nodes) rails even in
    let all : List Owned = owned_at nodes (latches request hs) in
    let this : Owned = owned (slice_index_or nodes i 0) (latch_at request rails i) in
    let left : List Owned = owned_at (drop (i + 1) nodes) (latches_behind request (take (i + 1) hs) (drop (i + 1) hs)) in
    let list : owned_at (drop i nodes) (latches_behind request (take i hs) (drop i hs)) ≡ this ∷ left =
    latches_list request nodes hs i (pair_in rails i) lt (omega (arith, same, lt)) (pair_is (length nodes) rails i no_pair even lt) in
    record {
      rest = ap (λ r. with_owned (owned_at (drop (i + 1) nodes) (latches_behind request (take (i + 1) hs) (drop (i + 1) hs))) r) wrote
          ∙ latches_next request nodes hs i (pair_in rails i) lt (omega (arith, same, lt)) (pair_is (length nodes) rails i no_pair even lt) now ∙ before.rest;
      count = count ∙ before.count;
      others = λ other h. alone_then old now new other (before.others other h) (others other (λ e. h i 0 lt (sym e)));
      partly =
          partly_on all old now new before.partly
          (partly_of (this ∷ []) all now new (λ o k. before.among o (subst (λ l. Contains l o) (sym list) (Contains-append_left (this ∷ []) left o k)))
          (partly_all (this ∷ []) now new wrote));
      among = λ o k. before.among o (subst (λ l. Contains l o) (sym list) (Contains-append_right (this ∷ []) left o k));
    }

starts_list : (nodes latched : List ℕ) (hs : List Pair) (i : ℕ) → i < length nodes → i < length latched →
    owned_at (drop i nodes) (starts (drop i latched) hs) ≡ owned (slice_index_or nodes i 0) (started (slice_index_or latched i 0) hs)
    ∷ owned_at (drop (i + 1) nodes) (starts (drop (i + 1) latched) hs)
starts_list nodes latched hs i ln ll =
    ap (λ ns. owned_at ns (starts (drop i latched) hs)) (dropped nodes i 0 ln)
    ∙ ap (λ ls. owned_at (slice_index_or nodes i 0 ∷ drop (i + 1) nodes) (starts ls hs)) (dropped latched i 0 ll)

starts_next : (nodes latched : List ℕ) (hs : List Pair) (i : ℕ) → i < length nodes → i < length latched → (now : RulesValue) →
    with_owned (owned_at (drop (i + 1) nodes) (starts (drop (i + 1) latched) hs))
    (with_rules (slice_index_or nodes i 0) (started (slice_index_or latched i 0) hs) now) ≡ with_owned (owned_at (drop i nodes) (starts (drop i latched) hs))
    now
starts_next nodes latched hs i ln ll now = sym (ap (λ os. with_owned os now) (starts_list nodes latched hs i ln ll))

-- the start under a latch, by the rails of the guards
abbrev pub start_at : (latch : ℕ) → (rails : List ℕ) → NodeRules
start_at latch rails = record { up = one_term (is_high latch ∷ lows rails); down = one_term (is_low latch ∷ []) }

pub starts_step : (nodes latched rails : List ℕ) (i : ℕ) (old now new : RulesValue) → length rails ≡ 2 * length latched →
    length nodes ≡ length latched → i < length nodes → StartsSoFar nodes latched (pairs_of rails) i old now →
    new ≡ with_rules (slice_index_or nodes i 0) (start_at (slice_index_or latched i 0) rails) now → length new.up ≡ length now.up →
    ((other : ℕ) → other ≢ slice_index_or nodes i 0 → IsAlone now new other) → StartsSoFar nodes latched (pairs_of rails) (i + 1) old new
starts_step nodes latched rails i old now new even same lt before made count others =
    let hs = pairs_of rails in
    let again : rails_of hs ≡ rails = rails_again (length latched) rails even in
    let wrote : new ≡ with_rules (slice_index_or nodes i 0) (started (slice_index_or latched i 0) hs) now =
    made ∙ ap (λ ns. with_rules (slice_index_or nodes i 0) (start_at (slice_index_or latched i 0) ns) now) (sym again) in
    let all : List Owned = owned_at nodes (starts latched hs) in
    let this : Owned = owned (slice_index_or nodes i 0) (started (slice_index_or latched i 0) hs) in
    let left : List Owned = owned_at (drop (i + 1) nodes) (starts (drop (i + 1) latched) hs) in
    let list : owned_at (drop i nodes) (starts (drop i latched) hs) ≡ this ∷ left = starts_list nodes latched hs i lt (omega (arith, same, lt)) in
    record {
      rest = ap (λ r. with_owned (owned_at (drop (i + 1) nodes) (starts (drop (i + 1) latched) hs)) r) wrote
          ∙ starts_next nodes latched hs i lt (omega (arith, same, lt)) now ∙ before.rest;
      count = count ∙ before.count;
      others = λ other h. alone_then old now new other (before.others other h) (others other (λ e. h i 0 lt (sym e)));
      partly =
          partly_on all old now new before.partly
          (partly_of (this ∷ []) all now new (λ o k. before.among o (subst (λ l. Contains l o) (sym list) (Contains-append_left (this ∷ []) left o k)))
          (partly_all (this ∷ []) now new wrote));
      among = λ o k. before.among o (subst (λ l. Contains l o) (sym list) (Contains-append_right (this ∷ []) left o k));
    }

pub record BranchLists (ls ss ans : List ℕ) (hs : List Pair) : Type 0 where
  pub latches : latches_of (branches_from ls ss ans hs) ≡ ls
  pub started : starts_of (branches_from ls ss ans hs) ≡ ss
  pub answered : answers_of (branches_from ls ss ans hs) ≡ ans
  pub guards : guards_of (branches_from ls ss ans hs) ≡ hs

pub branch_lists : (ls ss ans : List ℕ) (hs : List Pair) → length ss ≡ length ls → length ans ≡ length ls → length hs ≡ length ls → BranchLists ls ss ans hs
branch_lists [] [] [] [] a b c = record { latches = refl; started = refl; answered = refl; guards = refl }
branch_lists (l ∷ ls) (s ∷ ss) (d ∷ ans) (h ∷ hs) a b c =
    let rest = branch_lists ls ss ans hs (omega (arith, a)) (omega (arith, b)) (omega (arith, c)) in
    record {
      latches = ap (λ (xs : List ℕ). l ∷ xs) rest.latches;
      started = ap (λ (xs : List ℕ). s ∷ xs) rest.started;
      answered = ap (λ (xs : List ℕ). d ∷ xs) rest.answered;
      guards = ap (λ (xs : List Pair). h ∷ xs) rest.guards;
    }
branch_lists ls ss ans hs a b c = absurd (omega (arith, a, b, c))

pub owned_append : (ns ms : List ℕ) (rs qs : List NodeRules) → length ns ≡ length rs → owned_at (ns ++ ms) (rs ++ qs) ≡ owned_at ns rs ++ owned_at ms qs
owned_append [] ms [] qs e = refl
owned_append (n ∷ ns) ms (r ∷ rs) qs e = ap (λ os. owned n r ∷ os) (owned_append ns ms rs qs (omega (arith, e)))
owned_append [] ms (r ∷ rs) qs e = absurd (omega (arith, e))
owned_append (n ∷ ns) ms [] qs e = absurd (omega (arith, e))

with_owned_append : (os ps : List Owned) (r : RulesValue) → with_owned (os ++ ps) r ≡ with_owned ps (with_owned os r)
with_owned_append [] ps r = refl
with_owned_append (o ∷ os) ps r = with_owned_append os ps (with_rules o.node o.rules r)

wanted_length : (before behind : List Pair) → length (only_one_true before behind) ≡ length behind
wanted_length before [] = refl
wanted_length before (h ∷ behind) = let rest = wanted_length (before ++ h ∷ []) behind in omega (arith, rest)

latches_length : (request : ℕ) (wanted : List (List Literal)) → length (map (latch_of request) wanted) ≡ length wanted
latches_length request [] = refl
latches_length request (w ∷ ws) = let rest = latches_length request ws in omega (arith, rest)

-- what one list of nodes has and then another one
pub then_owned : (os ps : List Owned) (a b c : RulesValue) → b ≡ with_owned os a → c ≡ with_owned ps b → c ≡ with_owned (os ++ ps) a
then_owned os ps a b c first second = second ∙ ap (with_owned ps) first ∙ sym (with_owned_append os ps a)

-- one node more, or none where memory ran out
pub then_either : {T E : Type 0} (os : List Owned) (a b c : RulesValue) (o : Owned) (r : Result T E) → IsPartly os a b → Contains os o →
    OnOk r (c ≡ with_rules o.node o.rules b) → OnErr r (c ≡ b) → IsPartly os a c
then_either os a b c o (Ok x) before own made kept = then_one os a b c o before own made
then_either os a b c o (Err e) before own made kept = then_none os a b c before kept

abbrev select_first : (request answer eval any : ℕ) → (ls ans : List ℕ) → List Owned
select_first request answer eval any ls ans =
    owned answer (joined_answer any ans) ∷ owned eval (evaluation request any) ∷ owned any (or_of ls) ∷ []

abbrev select_lists : (request answer eval any : ℕ) → (ls ss ans : List ℕ) → List Pair → List Owned
select_lists request answer eval any ls ss ans hs = select_first request answer eval any ls ans ++ owned_at (ls ++ ss) (latches request hs ++ starts ls hs)

select_lists_are : (p : SelectPorts) → AreBranches p.latches.items p.starts.items p.answers.items p.guard_rails.items →
    select_owned (select_of p) ≡ select_lists p.request p.answer p.eval p.any p.latches.items p.starts.items p.answers.items (pairs_of p.guard_rails.items)
select_lists_are p are =
    let hs = pairs_of p.guard_rails.items in
    let lists = branch_lists p.latches.items p.starts.items p.answers.items hs are.started are.answered
    (pairs_length (length p.latches.items) p.guard_rails.items are.railed) in
    rw (lists.latches, lists.started, lists.answered, lists.guards) refl

-- the OR of one node or more
abbrev pub some_of : List ℕ → NodeRules
some_of ns = record { up = map (λ n. is_high n ∷ []) ns; down = one_term (lows ns) }

pub some_or : (ns : List ℕ) → 0 < length ns → or_of ns ≡ some_of ns
some_or [] h = absurd (omega (arith, h))
some_or (n ∷ ns) h = refl

-- the latches and the starts as one list, and as two
branches_among : (request : ℕ) (ls ss : List ℕ) (hs : List Pair) → length hs ≡ length ls →
    owned_at (ls ++ ss) (latches request hs ++ starts ls hs) ≡ branches_owned request ls ss hs
branches_among request ls ss hs same =
    let count : length ls ≡ length (latches request hs) = sym same ∙ sym (wanted_length [] hs) ∙ sym (latches_length request (only_one_true [] hs)) in
    owned_append ls ss (latches request hs) (starts ls hs) count

abbrev pub select_shared : SelectPorts → List Owned
select_shared p = shared_owned p.answer p.eval p.any p.request p.answers.items p.latches.items

abbrev pub select_branches : SelectPorts → List Owned
select_branches p = branches_owned p.request p.latches.items p.starts.items (pairs_of p.guard_rails.items)

select_is : (p : SelectPorts) → AreBranches p.latches.items p.starts.items p.answers.items p.guard_rails.items →
    select_owned (select_of p) ≡ select_shared p ++ select_branches p
select_is p are =
    let hs = pairs_of p.guard_rails.items in
    select_lists_are p are ∙ ap (λ os. select_shared p ++ os) (branches_among p.request p.latches.items p.starts.items hs
    (pairs_length (length p.latches.items) p.guard_rails.items are.railed))

pub select_made : (p : SelectPorts) (a b c : RulesValue) → AreBranches p.latches.items p.starts.items p.answers.items p.guard_rails.items →
    b ≡ with_owned (select_shared p) a → c ≡ with_owned (select_branches p) b → c ≡ with_owned (select_owned (select_of p)) a
select_made p a b c are first second =
    then_owned (select_shared p) (select_branches p) a b c first second ∙ ap (λ os. with_owned os a) (sym (select_is p are))

abbrev pub again_six : AgainPorts → List Pair → List Owned
again_six p hs =
    owned p.answer (leave_answer p.leave p.any hs) ∷ owned p.loop_request (turn_request p.request p.joined) ∷ []
    ++ (turn_shared p ++ owned p.leave (leave_latch p.loop_request hs) ∷ [])

abbrev pub again_branches : AgainPorts → List Owned
again_branches p = branches_owned p.loop_request p.latches.items p.starts.items (pairs_of p.guard_rails.items)

abbrev again_lists : AgainPorts → List Pair → List Owned
again_lists p hs = again_six p hs ++ owned_at (p.latches.items ++ p.starts.items) (latches p.loop_request hs ++ starts p.latches.items hs)

again_lists_are : (p : AgainPorts) → AreBranches p.latches.items p.starts.items p.answers.items p.guard_rails.items →
    again_owned (again_of p) ≡ again_lists p (pairs_of p.guard_rails.items)
again_lists_are p are =
    let hs = pairs_of p.guard_rails.items in
    let lists = branch_lists p.latches.items p.starts.items p.answers.items hs are.started are.answered
    (pairs_length (length p.latches.items) p.guard_rails.items are.railed) in
    rw (lists.latches, lists.started, lists.answered, lists.guards) refl

again_is : (p : AgainPorts) → AreBranches p.latches.items p.starts.items p.answers.items p.guard_rails.items →
    again_owned (again_of p) ≡ again_six p (pairs_of p.guard_rails.items) ++ again_branches p
again_is p are =
    let hs = pairs_of p.guard_rails.items in
    again_lists_are p are ∙ ap (λ os. again_six p hs ++ os) (branches_among p.loop_request p.latches.items p.starts.items hs
    (pairs_length (length p.latches.items) p.guard_rails.items are.railed))

-- what is made before the latches and the starts
abbrev pub again_first : AgainPorts → RulesValue → RulesValue
again_first p a =
    let hs = pairs_of p.guard_rails.items in
    with_rules p.leave (leave_latch p.loop_request hs) (with_owned (turn_shared p)
    (with_rules p.loop_request (turn_request p.request p.joined) (with_rules p.answer (leave_answer p.leave p.any hs) a)))

pub again_made : (p : AgainPorts) (a b c : RulesValue) → AreBranches p.latches.items p.starts.items p.answers.items p.guard_rails.items →
    b ≡ again_first p a → c ≡ with_owned (again_branches p) b → c ≡ with_owned (again_owned (again_of p)) a
again_made p a b c are first second =
    then_owned (again_six p (pairs_of p.guard_rails.items)) (again_branches p) a b c first second ∙ ap (λ os. with_owned os a) (sym (again_is p are))

-- which nodes are own
pub record SelectOwns (p : SelectPorts) : Type 0 where
  pub shared : (o : Owned) → Contains (select_shared p) o → Contains (select_owned (select_of p)) o
  pub branches : (o : Owned) → Contains (select_branches p) o → Contains (select_owned (select_of p)) o

pub select_owns : (p : SelectPorts) → AreBranches p.latches.items p.starts.items p.answers.items p.guard_rails.items → SelectOwns p
select_owns p are =
    let back : (o : Owned) → Contains (select_shared p ++ select_branches p) o → Contains (select_owned (select_of p)) o =
    λ o k. subst (λ os. Contains os o) (sym (select_is p are)) k in
    record {
      shared = λ o k. back o (Contains-append_left (select_shared p) (select_branches p) o k);
      branches = λ o k. back o (Contains-append_right (select_shared p) (select_branches p) o k);
    }

pub record AgainOwns (p : AgainPorts) : Type 0 where
  pub answer : Contains (again_owned (again_of p)) (owned p.answer (leave_answer p.leave p.any (pairs_of p.guard_rails.items)))
  pub turn : Contains (again_owned (again_of p)) (owned p.loop_request (turn_request p.request p.joined))
  pub shared : (o : Owned) → Contains (turn_shared p) o → Contains (again_owned (again_of p)) o
  pub leave : Contains (again_owned (again_of p)) (owned p.leave (leave_latch p.loop_request (pairs_of p.guard_rails.items)))
  pub branches : (o : Owned) → Contains (again_branches p) o → Contains (again_owned (again_of p)) o

pub again_owns : (p : AgainPorts) → AreBranches p.latches.items p.starts.items p.answers.items p.guard_rails.items → AgainOwns p
again_owns p are =
    let hs = pairs_of p.guard_rails.items in
    let ends : List Owned = owned p.answer (leave_answer p.leave p.any hs) ∷ owned p.loop_request (turn_request p.request p.joined) ∷ [] in
    let last : List Owned = owned p.leave (leave_latch p.loop_request hs) ∷ [] in
    let back : (o : Owned) → Contains (again_six p hs ++ again_branches p) o → Contains (again_owned (again_of p)) o =
    λ o k. subst (λ os. Contains os o) (sym (again_is p are)) k in
    record {
      answer = back (owned p.answer (leave_answer p.leave p.any hs)) (0, omega arith, refl);
      turn = back (owned p.loop_request (turn_request p.request p.joined)) (1, omega arith, refl);
      shared = λ o k. back o (Contains-append_left (again_six p hs) (again_branches p) o (Contains-append_right ends (turn_shared p ++ last) o
          (Contains-append_left (turn_shared p) last o k)));
      leave = back (owned p.leave (leave_latch p.loop_request hs)) (5, omega arith, refl);
      branches = λ o k. back o (Contains-append_right (again_six p hs) (again_branches p) o k);
    }
