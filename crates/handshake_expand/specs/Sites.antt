-- Where the statements of a program send, receive and write.
use Rattle.std.specs.Prelude.{ℕ, ◌+◌, true, false, List, [], ◌∷◌, ◌++◌}
use Rattle.width_check.specs.Processes.{Process, assigning, sending, receiving, in_turn, side_by_side, choosing, repeating, Processes, no_members, and_member, Choices, no_choices, and_choice, TypedProgram}
use Rattle.handshake_expand.specs.declared.site.SiteNode.{SiteNode}
use Rattle.handshake_expand.specs.declared.site.SiteKind.{SiteKind}
use Rattle.handshake_expand.specs.declared.site.SiteKind.TheVariants.{Send, Receive, Write}
use Rattle.handshake_expand.specs.Layout.{size_of, body_from}
use Rattle.handshake_expand.specs.Answers.{answer_of, bodies_from, select_own, again_own}

-- What the statements of a program contribute at their positions, in text order; a statement made of others contributes
-- nothing of its own.
abbrev pub Sites : Type 0 → Type 0
Sites A = Process → (from : ℕ) → List A

abbrev mutual
  pub sites_in : {A : Type 0} → TypedProgram → Sites A → Process → (from : ℕ) → List A
  sites_in p site (in_turn members) from = sites_in_turn p site members from
  sites_in p site (side_by_side members) from = sites_in_branches p site members from
  sites_in p site (choosing false choices) from = sites_in_bodies p site choices (bodies_from choices select_own from)
  sites_in p site (choosing true choices) from = sites_in_bodies p site choices (bodies_from choices again_own from)
  sites_in p site (repeating s) from = sites_in p site s (from + 2)
  sites_in p site s from = site s from

  pub sites_in_turn : {A : Type 0} → TypedProgram → Sites A → Processes → (from : ℕ) → List A
  sites_in_turn p site no_members from = []
  sites_in_turn p site (and_member s no_members) from = sites_in p site s from
  sites_in_turn p site (and_member s (and_member t more)) from =
      sites_in p site s (from + 3) ++ sites_in_turn p site (and_member t more) (from + 3 + size_of p s)

  pub sites_in_branches : {A : Type 0} → TypedProgram → Sites A → Processes → (from : ℕ) → List A
  sites_in_branches p site no_members from = []
  sites_in_branches p site (and_member s more) from =
      sites_in p site s (from + 3) ++ sites_in_branches p site more (from + 3 + size_of p s)

  pub sites_in_bodies : {A : Type 0} → TypedProgram → Sites A → Choices → (from : ℕ) → List A
  sites_in_bodies p site no_choices from = []
  sites_in_bodies p site (and_choice g s more) from =
      sites_in p site s from ++ sites_in_bodies p site more (from + size_of p s)

abbrev pub in_body : {A : Type 0} → TypedProgram → Sites A → List A
in_body p site = sites_in p site p.body (body_from p)

abbrev pub site_node : SiteKind → ℕ → SiteNode
site_node kind node = record { kind = kind; node = node }

-- Each site with the first of its own nodes. For a write this is the node that answers it, followed by the rails by
-- which the variable is written: the answer of the second assignment, if there are two, and of the store, in a
-- receive.
abbrev pub own_sites : TypedProgram → Sites SiteNode
own_sites p (assigning x at e) from = site_node (Write x) (answer_of p (assigning x at e) from) ∷ []
own_sites p (sending chan at e) from = site_node (Send chan) from ∷ []
own_sites p (receiving chan chan_at x var_at) from = site_node (Receive chan) from ∷ site_node (Write x) (from + 1) ∷ []
own_sites p s from = []
