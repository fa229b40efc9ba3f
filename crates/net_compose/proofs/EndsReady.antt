-- What the ends of channels and the write sites are given, and what they write.
use Rattle.std.proofs.Common.{◌≡◌, ℕ, zero, suc, ◌+◌, ◌-◌, ◌*◌, ◌<◌, ◌≤◌, List, [], ◌∷◌, ◌++◌, length, get_or, refl, sym, ap, ◌∙◌, arith, append_assoc}
use Rattle.std.specs.Prelude.{slice_index_or, All}
use Rattle.std.proofs.lemmas.List.{append-nil}
use Rattle.std.proofs.lemmas.List.Elements.{All-nil, All-cons, All-head, All-tail}
use Rattle.std.proofs.lemmas.List.FromFn.{get_or-map-range_with_len}
use Rattle.chp_base.specs.declared.channel.Channel.{Channel}
use Rattle.prs_core.specs.Pairs.{pairs_from, rails_of}
use Rattle.width_check.specs.declared.typed.Var.{Var}
use Rattle.width_check.specs.Processes.{TypedProgram}
use Rattle.width_check.specs.Typing.{channel_width, var_width, IsDeclaredVar}
use Rattle.handshake_expand.specs.Layout.{channel_from, var_from, root_request}
use Rattle.handshake_expand.proofs.Rows.{channel_found, no_channel, var_found, no_var}
use Rattle.cell_variable.specs.Variables.{written_leaves, all_written}
use Rattle.net_compose.specs.Begins.{channel_firsts, var_firsts}
use Rattle.net_compose.specs.Translation.{ack_at, written_at}
use Rattle.net_compose.proofs.FlatBlocks.{blocks_below}
use Rattle.net_compose.proofs.FlatWires.{wires_below}
use Rattle.net_compose.proofs.FormulaReady.{first_at}

-- what stands in lists

pub first_found : (xs : List ℕ) (i n : ℕ) → i < length xs → n ≡ get_or xs i n → n ≡ slice_index_or xs i 0
first_found [] i n within is = absurd (omega arith)
first_found (x ∷ xs) zero n within is = is
first_found (x ∷ xs) (suc i) n within is = first_found xs i n (omega arith) is

pub no_first : (xs : List ℕ) (i : ℕ) → length xs ≤ i → 0 ≡ slice_index_or xs i 0
no_first [] i all = refl
no_first (x ∷ xs) zero all = absurd (omega arith)
no_first (x ∷ xs) (suc i) all = no_first xs i (omega arith)

pub channel_declared : (cs : List Channel) (i : ℕ) (c : Channel) → i < length cs → c ≡ get_or cs i c → c.width ≡ channel_width cs i
channel_declared = channel_found

pub channel_missing : (cs : List Channel) (i : ℕ) → length cs ≤ i → 0 ≡ channel_width cs i
channel_missing = no_channel

pub var_declared : (vs : List Var) (i : ℕ) (v : Var) → i < length vs → v ≡ get_or vs i v → v.width ≡ var_width vs i
var_declared = var_found

pub var_missing : (vs : List Var) (i : ℕ) → length vs ≤ i → 0 ≡ var_width vs i
var_missing = no_var

-- a variable has at least one bit
pub var_some : (vs : List Var) (x : ℕ) → All IsDeclaredVar vs → x < length vs → 1 ≤ var_width vs x
var_some [] x h within = absurd (omega arith)
var_some (v ∷ vs) zero h within = (All-head IsDeclaredVar v vs h).some
var_some (v ∷ vs) (suc x) h within = var_some vs x (All-tail IsDeclaredVar v vs h) (omega arith)

-- rails

pub rails_more : (rails mid more all : List ℕ) (n node : ℕ) → rails ++ rails_of (pairs_from (suc n) node) ≡ all → mid ≡ rails ++ node ∷ [] →
    more ≡ mid ++ (node + 1) ∷ []
    → more ++ rails_of (pairs_from n (node + 2)) ≡ all
rails_more rails mid more all n node so_far first then =
    let rest : List ℕ = rails_of (pairs_from n (node + 2)) in
    ap (λ xs. xs ++ rest) then
    ∙ (append_assoc mid ((node + 1) ∷ []) rest
    ∙ (ap (λ xs. xs ++ (node + 1) ∷ rest) first
    ∙ (append_assoc rails (node ∷ []) ((node + 1) ∷ rest)
    ∙ so_far)))

pub rails_done : (rails all : List ℕ) (n node : ℕ) → n ≡ 0 → rails ++ rails_of (pairs_from n node) ≡ all → rails ≡ all
rails_done rails all n node none so_far = sym (append-nil rails) ∙ (ap (λ k. rails ++ rails_of (pairs_from k node)) (sym none) ∙ so_far)

pub rails_below : (width from n : ℕ) → from + 2 * width ≤ n → All (λ rail. rail < n) (rails_of (pairs_from width from))
rails_below zero from n room = All-nil (λ rail. rail < n)
rails_below (suc w) from n room =
    All-cons (λ rail. rail < n) from ((from + 1) ∷ rails_of (pairs_from w (from + 2))) (omega (arith, room))
    (All-cons (λ rail. rail < n) (from + 1) (rails_of (pairs_from w (from + 2))) (omega (arith, room)) (rails_below w (from + 2) n (omega (arith, room))))

-- the wires of a channel

module _ (p : TypedProgram) (channels : List ℕ) (are : channels ≡ channel_firsts p) (k : ℕ) (within : k < length p.channels) where
  pub channel_at : slice_index_or channels k 0 ≡ channel_from p k
  channel_at = ap (λ xs. slice_index_or xs k 0) are ∙ get_or-map-range_with_len (channel_from p) 0 (length p.channels) k k 0 within (omega arith)

  module _ (first width : ℕ) (is : first ≡ slice_index_or channels k 0) (wide : width ≡ channel_width p.channels k) where
    pub ack_is : first + 2 * width ≡ ack_at p k
    ack_is = let at = channel_at in omega (arith, is, wide, at)

    pub ack_before : first + 2 * width < root_request p
    ack_before = let at = channel_at in let below = wires_below p.channels k within in omega (arith, is, wide, at, below)

-- the node that says that a variable is written

leaves_counted : (width from : ℕ) → length (written_leaves width from) ≡ width
leaves_counted zero from = refl
leaves_counted (suc n) from = ap suc (leaves_counted n (from + 5))

pub all_written_is : (width from : ℕ) → 1 ≤ width → all_written width from ≡ from + (6 * width - 2)
all_written_is zero from some = absurd (omega (arith, some))
all_written_is (suc zero) from some = omega arith
all_written_is (suc (suc n)) from some = let e = leaves_counted n (from + 5 + 5) in omega (arith, e)

module _ (p : TypedProgram) (vars : List ℕ) (are : vars ≡ var_firsts p) (x : ℕ) (within : x < length p.vars) (some : 1 ≤ var_width p.vars x)
    (first width : ℕ) (is : first ≡ slice_index_or vars x 0) (wide : width ≡ var_width p.vars x) where
  pub written_is : first + (6 * width - 2) ≡ written_at p x
  written_is =
      let at : first ≡ var_from p x = is ∙ first_at p vars are x within in
      ap (λ n. n + (6 * width - 2)) at ∙ (ap (λ w. var_from p x + (6 * w - 2)) wide ∙ sym (all_written_is (var_width p.vars x) (var_from p x) some))

  pub written_before : first + (6 * width - 2) < root_request p
  written_before =
      let at : first ≡ var_from p x = is ∙ first_at p vars are x within in
      let below = blocks_below p.vars x within in
      omega (arith, at, wide, below, some)
