-- The nodes that the calls are given, as those of the contracts.
use Rattle.std.specs.Prelude.{◌≡◌, ◌<◌, ◌≤◌, ◌*◌, ℕ, List, [], ◌∷◌, length, All}
use Rattle.prs_core.specs.Pairs.{Pair}
use Rattle.prs_core.specs.Parts.{Owned}
use Rattle.cell_select.specs.Contract.{Branch, SelectNodes, AgainNodes, select_nodes, again_nodes, shared_owned, AreApart}
use Rattle.cell_select.specs.declared.emit.SelectPorts.{SelectPorts}
use Rattle.cell_select.specs.declared.emit.AgainPorts.{AgainPorts}

-- rails t and f of each guard, as its pair
abbrev pub pairs_of : List ℕ → List Pair
pairs_of (t ∷ f ∷ rails) = record { t = t; f = f } ∷ pairs_of rails
pairs_of _ = []

abbrev pub branches_from : (latches starts answers : List ℕ) → List Pair → List Branch
branches_from (l ∷ ls) (s ∷ ss) (a ∷ answers) (h ∷ hs) = record { latch = l; start = s; answer = a; guard = h }
    ∷ branches_from ls ss answers hs
branches_from _ _ _ _ = []

abbrev pub select_of : SelectPorts → SelectNodes
select_of p = record {
  request = p.request;
  answer = p.answer;
  eval = p.eval;
  any = p.any;
  branches = branches_from p.latches.items p.starts.items p.answers.items (pairs_of p.guard_rails.items);
}

abbrev pub again_of : AgainPorts → AgainNodes
again_of p = record {
  request = p.request;
  answer = p.answer;
  turn = p.loop_request;
  joined = p.joined;
  eval = p.eval;
  any = p.any;
  leave = p.leave;
  branches = branches_from p.latches.items p.starts.items p.answers.items (pairs_of p.guard_rails.items);
}

-- what the branches of a guarded repetition share
abbrev pub turn_shared : AgainPorts → List Owned
turn_shared p = shared_owned p.joined p.eval p.any p.loop_request p.answers.items (p.leave ∷ p.latches.items)

-- one to sixteen branches, with a latch, a start, an answer and two rails each
pub record AreBranches (latches starts answers rails : List ℕ) : Type 0 where
  pub some : 1 ≤ length latches
  pub most : length latches ≤ 16
  pub started : length starts ≡ length latches
  pub answered : length answers ≡ length latches
  pub railed : length rails ≡ 2 * length latches

-- the nodes are nodes of the rules, they are distinct, and the lists agree
pub record IsSelect (count : ℕ) (p : SelectPorts) : Type 0 where
  pub branches : AreBranches p.latches.items p.starts.items p.answers.items p.guard_rails.items
  pub request : p.request < count
  pub answer : p.answer < count
  pub eval : p.eval < count
  pub any : p.any < count
  pub latches : All (λ n. n < count) p.latches.items
  pub starts : All (λ n. n < count) p.starts.items
  pub answers : All (λ n. n < count) p.answers.items
  pub rails : All (λ n. n < count) p.guard_rails.items
  pub apart : AreApart (select_nodes (select_of p))

pub record IsAgain (count : ℕ) (p : AgainPorts) : Type 0 where
  pub branches : AreBranches p.latches.items p.starts.items p.answers.items p.guard_rails.items
  pub request : p.request < count
  pub answer : p.answer < count
  pub loop_request : p.loop_request < count
  pub joined : p.joined < count
  pub eval : p.eval < count
  pub any : p.any < count
  pub leave : p.leave < count
  pub latches : All (λ n. n < count) p.latches.items
  pub starts : All (λ n. n < count) p.starts.items
  pub answers : All (λ n. n < count) p.answers.items
  pub rails : All (λ n. n < count) p.guard_rails.items
  pub apart : AreApart (again_nodes (again_of p))
