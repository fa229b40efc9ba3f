-- The nodes of procedures, one procedure after another.
use Rattle.std.proofs.Common.{◌≡◌, ◌∙◌, ℕ, suc, ◌+◌, ◌-◌, ◌<◌, ◌≤◌, Bool, true, List, [], ◌∷◌, ◌++◌, length, get_or, drop, All, refl, sym, ap, arith, append_assoc, length-append}
use Rattle.std.specs.Prelude.{slice_set}
use Rattle.std.proofs.lemmas.List.{drop_more, drop_all}
use Rattle.std.proofs.lemmas.List.Elements.{All-nil, All-cons, All-head, All-tail}
use Rattle.std.proofs.lemmas.List.Sums.{fold-append}
use Rattle.prs_core.specs.Nets.{NodeRules}
use Rattle.prs_core.specs.Pairs.{no_rules}
use Rattle.width_check.specs.Processes.{Process, TypedProgram}
use Rattle.width_check.specs.Typing.{IsProcess}
use Rattle.handshake_expand.specs.Layout.{size_of}
use Rattle.handshake_expand.specs.Answers.{answer_of}
use Rattle.handshake_expand.specs.Sites.{Sites, sites_in}
use Rattle.handshake_expand.proofs.Branches.{sites_more}
use Rattle.net_compose.specs.Translation.{rules_of, hidden_high}
use Rattle.net_compose.proofs.BodyDriven.{two_on, set_on}
use Rattle.net_compose.proofs.Raised.{with_raised}
use Rattle.call_map.specs.CallNet.{procs_size, body_sites}
use Rattle.call_compose.specs.Placing.{requests_from, answers_from, unasked_rules, procs_rules, with_asked}

-- one more procedure
module _ (p : TypedProgram) (bs : List Process) (i : ℕ) (b : Process) (within : i < length bs) (is : b ≡ get_or bs i b) (from next : ℕ)
    (at : next ≡ from + 1 + size_of p b) where
  here : drop i bs ≡ b ∷ drop (i + 1) bs
  here = drop_more bs i b within ∙ ap (λ x. x ∷ drop (i + 1) bs) (sym is)

  -- what is listed of each procedure, numbered from a node on
  one_more : {A : Type 0} (listed : List Process → ℕ → List A) (own : List A) → ((qs : List Process) → listed (b ∷ qs) from
      ≡ own ++ listed qs (from + 1 + size_of p b)) → (old new all : List A) → new ≡ old ++ own → old ++ listed (drop i bs) from ≡ all
      → new ++ listed (drop (i + 1) bs) next ≡ all
  one_more listed own splits old new all made so_far =
      sites_more old new own (listed (drop (i + 1) bs) next) (listed (drop i bs) from) all made
      (ap (λ qs. listed qs from) here ∙ (splits (drop (i + 1) bs) ∙ ap (λ n. own ++ listed (drop (i + 1) bs) n) (sym at))) so_far

  pub rules_more : (old mid new all : List NodeRules) → mid ≡ old ++ no_rules ∷ [] → new ≡ mid ++ rules_of p b from (from + 1)
      → old ++ unasked_rules p (drop i bs) from ≡ all → new ++ unasked_rules p (drop (i + 1) bs) next ≡ all
  rules_more old mid new all begun made so_far =
      one_more (unasked_rules p) (no_rules ∷ rules_of p b from (from + 1)) (λ qs. refl) old new all
      (two_on old mid new (no_rules ∷ []) (rules_of p b from (from + 1)) begun made) so_far

  pub requests_more : (old new all : List ℕ) → new ≡ old ++ from ∷ [] → old ++ requests_from p (drop i bs) from ≡ all
      → new ++ requests_from p (drop (i + 1) bs) next ≡ all
  requests_more old new all made so_far = one_more (requests_from p) (from ∷ []) (λ qs. refl) old new all made so_far

  pub answers_more : (old new all : List ℕ) (answer : ℕ) → answer ≡ answer_of p b (from + 1) → new ≡ old ++ answer ∷ []
      → old ++ answers_from p (drop i bs) from ≡ all → new ++ answers_from p (drop (i + 1) bs) next ≡ all
  answers_more old new all answer answered made so_far =
      one_more (answers_from p) (answer_of p b (from + 1) ∷ []) (λ qs. refl) old new all (made ∙ ap (λ a. old ++ a ∷ []) answered) so_far

  pub placed_more : {A : Type 0} (site : Sites A) (old new all : List A) → new ≡ old ++ sites_in p site b (from + 1)
      → old ++ body_sites p site (drop i bs) from ≡ all → new ++ body_sites p site (drop (i + 1) bs) next ≡ all
  placed_more site old new all made so_far =
      one_more (body_sites p site) (sites_in p site b (from + 1)) (λ qs. refl) old new all made so_far

  pub raised_more : (old new all : List Bool) → new ≡ with_raised old (sites_in p (hidden_high p) b (from + 1))
      → with_raised old (body_sites p (hidden_high p) (drop i bs) from) ≡ all
      → with_raised new (body_sites p (hidden_high p) (drop (i + 1) bs) next) ≡ all
  raised_more old new all made so_far =
      let own = sites_in p (hidden_high p) b (from + 1) in
      let rest = body_sites p (hidden_high p) (drop (i + 1) bs) in
      ap (λ vs. with_raised vs (rest next)) made
      ∙ (sym (fold-append (λ vs node. slice_set vs node true) old own (rest next))
      ∙ (ap (λ n. with_raised old (own ++ rest n)) at
      ∙ (ap (λ qs. with_raised old (body_sites p (hidden_high p) qs from)) (sym here) ∙ so_far)))

  pub size_here : procs_size p (drop i bs) ≡ 1 + size_of p b + procs_size p (drop (i + 1) bs)
  size_here = ap (procs_size p) here

  pub size_more : (all : ℕ) → from + procs_size p (drop i bs) ≡ all → next + procs_size p (drop (i + 1) bs) ≡ all
  size_more all so_far =
      let front = size_here in
      omega (arith, front, at, so_far)

-- so many drivers more
pub counted_more : (old mid new own : List NodeRules) (n m size : ℕ) → mid ≡ old ++ no_rules ∷ [] → new ≡ mid ++ own → n ≡ length old → m ≡ length new
    → length own ≡ size → m - n ≡ 1 + size
counted_more old mid new own n m size first then before after long =
    let a : length mid ≡ length old + 1 = ap length first ∙ length-append old (no_rules ∷ []) in
    let b : length new ≡ length mid + length own = ap length then ∙ length-append mid own in
    omega (arith, a, b, before, after, long)

-- after the last one
module _ (p : TypedProgram) (bs : List Process) (i : ℕ) (over : length bs ≤ i) (next : ℕ) where
  pub raised_done : (now all : List Bool) → with_raised now (body_sites p (hidden_high p) (drop i bs) next) ≡ all → now ≡ all
  raised_done now all so_far = ap (λ qs. with_raised now (body_sites p (hidden_high p) qs next)) (sym (drop_all i bs over)) ∙ so_far

-- the requests are set

module _ (p : TypedProgram) (ask : ℕ → NodeRules) (base : ℕ) (counted : (s : Process) (request from : ℕ) → IsProcess p.channels p.vars s
    → length (rules_of p s request from) ≡ size_of p s) where
  pub asked : (bs : List Process) (q from : ℕ) (front tail : List NodeRules) → All (IsProcess p.channels p.vars) bs → base ≤ from
      → length front ≡ from - base → with_asked ask base q (requests_from p bs from) (front ++ (unasked_rules p bs from ++ tail))
      ≡ front ++ (procs_rules p ask q bs from ++ tail)
  asked [] q from front tail typed low at = refl
  asked (b ∷ bs) q from front tail typed low at =
      let own = rules_of p b from (from + 1) in
      let next = from + 1 + size_of p b in
      let rest = unasked_rules p bs next ++ tail in
      let rests = procs_rules p ask (suc q) bs next ++ tail in
      let more = front ++ ask q ∷ own in
      let count : length own ≡ size_of p b = counted b from (from + 1) (All-head (IsProcess p.channels p.vars) b bs typed) in
      let long : length more ≡ length front + length (ask q ∷ own) = length-append front (ask q ∷ own) in
      let set : slice_set (front ++ (no_rules ∷ (own ++ unasked_rules p bs next) ++ tail)) (from - base) (ask q) ≡ more ++ rest =
      set_on front (front ++ (no_rules ∷ (own ++ unasked_rules p bs next) ++ tail)) (no_rules ∷ (own ++ unasked_rules p bs next) ++ tail) 0
      (from - base) (ask q) (omega (arith, at)) refl
      ∙ (ap (λ l. front ++ ask q ∷ l) (append_assoc own (unasked_rules p bs next) tail) ∙ sym (append_assoc front (ask q ∷ own) rest)) in
      ap (with_asked ask base (suc q) (requests_from p bs next)) set
      ∙ (asked bs (suc q) next more tail (All-tail (IsProcess p.channels p.vars) b bs typed) (omega (arith, low))
      (omega (arith, long, count, at, low))
      ∙ (append_assoc front (ask q ∷ own) rests ∙ ap (λ l. front ++ ask q ∷ l) (sym (append_assoc own (procs_rules p ask (suc q) bs next) tail))))

-- each request is among the nodes of the procedures
pub requests_within : (p : TypedProgram) (base : ℕ) (bs : List Process) (from count : ℕ) → base ≤ from → from + procs_size p bs ≤ base + count
    → All (λ request. (base ≤ request) × (request - base < count)) (requests_from p bs from)
requests_within p base [] from count low high = All-nil (λ request. (base ≤ request) × (request - base < count))
requests_within p base (b ∷ bs) from count low high =
    All-cons (λ request. (base ≤ request) × (request - base < count)) from (requests_from p bs (from + 1 + size_of p b))
    (low, omega (arith, low, high)) (requests_within p base bs (from + 1 + size_of p b) count (omega (arith, low)) (omega (arith, high)))

pub unasked_count : (p : TypedProgram) → ((s : Process) (request from : ℕ) → IsProcess p.channels p.vars s
    → length (rules_of p s request from) ≡ size_of p s) → (bs : List Process) (from : ℕ) → All (IsProcess p.channels p.vars) bs
    → length (unasked_rules p bs from) ≡ procs_size p bs
unasked_count p counted [] from typed = refl
unasked_count p counted (b ∷ bs) from typed =
    let own = rules_of p b from (from + 1) in
    let next = from + 1 + size_of p b in
    let long = length-append own (unasked_rules p bs next) in
    let here = counted b from (from + 1) (All-head (IsProcess p.channels p.vars) b bs typed) in
    let rest = unasked_count p counted bs (from + 1 + size_of p b) (All-tail (IsProcess p.channels p.vars) b bs typed) in
    omega (arith, long, here, rest)

pub answers_count : (p : TypedProgram) (bs : List Process) (from : ℕ) → length (answers_from p bs from) ≡ length bs
answers_count p [] from = refl
answers_count p (b ∷ bs) from = ap suc (answers_count p bs (from + 1 + size_of p b))
