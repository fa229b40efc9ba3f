-- The text's tree of a program with a buffer on a channel.
use Rattle.std.specs.Prelude.{◌≡◌, Bool, true, false, ℕ, ◌<◌, ◌⊎◌, if◌then◌else◌, List, [], ◌∷◌, ◌++◌, map, Contains, Some}
use Rattle.std.specs.Str.{bytes_eq}
use Rattle.chp_syntax.specs.declared.tree.Ident.{Ident}
use Rattle.chp_syntax.specs.declared.tree.Decl.{Decl}
use Rattle.chp_syntax.specs.declared.tree.DeclKind.{DeclKind}
use Rattle.chp_syntax.specs.declared.tree.DeclKind.TheVariants.{Chan, Var}
use Rattle.chp_syntax.specs.Trees.{whole, Statement, skips, assigns, sends, receives, follows, besides, selects, repeats, calls, Statements, no_members, and_member, Arms, no_arms, and_arm, ProgramTree}
use Rattle.width_check.specs.Accepted.{IsAccepted}
use Rattle.width_check.specs.Places.{declaration, declared_width}
use Rattle.width_check.specs.Form.{channel_number, typed_form}
use Rattle.slack_buffer.specs.Buffers.{nowhere, copy_name, slot_name, buffered, BufferKeeps}

abbrev pub is_chan : DeclKind → Bool
is_chan Chan = true
is_chan _ = false

-- the name is that of a channel inside of the program
abbrev pub IsInnerChannel : List Decl → List ℕ → Type 0
IsInnerChannel decls name = (d : Decl) × (declaration decls name ≡ Some d) × (d.kind ≡ Chan)

abbrev pub declared_names : List Decl → List (List ℕ)
declared_names decls = map (λ (d : Decl). d.name.name) decls

-- one of the two names that a buffer of this number takes
abbrev pub IsTakenNumber : List Decl → ℕ → Type 0
IsTakenNumber decls k = Contains (declared_names decls) (copy_name k) ⊎ Contains (declared_names decls) (slot_name k)

-- the least number for which neither name is declared
pub record IsFreeNumber (decls : List Decl) (k : ℕ) : Type 0 where
  pub free : ¬ IsTakenNumber decls k
  pub least : (j : ℕ) → j < k → IsTakenNumber decls j

-- a name that is in no text
abbrev pub made_name : List ℕ → Ident
made_name name = record { name = name; at = nowhere }

abbrev pub rerouted_name : (chan copy : List ℕ) → Ident → Ident
rerouted_name chan copy i = if bytes_eq i.name chan then record { name = copy; at = i.at } else i

-- each receive on the channel becomes one on the copy
abbrev mutual
  pub rerouted_statement : (chan copy : List ℕ) → Statement → Statement
  rerouted_statement chan copy (skips at) = skips at
  rerouted_statement chan copy (assigns target e) = assigns target e
  rerouted_statement chan copy (sends on e) = sends on e
  rerouted_statement chan copy (receives on target) = receives (rerouted_name chan copy on) target
  rerouted_statement chan copy (follows members) = follows (rerouted_statements chan copy members)
  rerouted_statement chan copy (besides members) = besides (rerouted_statements chan copy members)
  rerouted_statement chan copy (selects again arms) = selects again (rerouted_arms chan copy arms)
  rerouted_statement chan copy (repeats s) = repeats (rerouted_statement chan copy s)
  rerouted_statement chan copy (calls of) = calls of

  pub rerouted_statements : (chan copy : List ℕ) → Statements → Statements
  rerouted_statements chan copy no_members = no_members
  rerouted_statements chan copy (and_member s more) =
      and_member (rerouted_statement chan copy s) (rerouted_statements chan copy more)

  pub rerouted_arms : (chan copy : List ℕ) → Arms → Arms
  rerouted_arms chan copy no_arms = no_arms
  rerouted_arms chan copy (and_arm g s more) = and_arm g (rerouted_statement chan copy s) (rerouted_arms chan copy more)

abbrev pub made_decl : DeclKind → List ℕ → ℕ → Decl
made_decl kind name width = record {
  kind = kind;
  name = made_name name;
  width = width;
  width_at = nowhere;
  first = 0;
  first_at = nowhere;
}

-- `*[X?b; B!b]`
abbrev pub buffer_statement : (chan copy slot : List ℕ) → Statement
buffer_statement chan copy slot = repeats (follows (and_member (receives (made_name chan) (made_name slot))
    (and_member (sends (made_name copy) (whole (made_name slot))) no_members)))

-- the program with a buffer on the channel, whose new names have the number k
abbrev pub buffered_tree : ProgramTree → (chan : List ℕ) → (k : ℕ) → ProgramTree
buffered_tree p chan k = record {
  decls = p.decls ++ made_decl Chan (copy_name k) (declared_width p.decls chan)
      ∷ made_decl Var (slot_name k) (declared_width p.decls chan) ∷ [];
  procs = p.procs;
  body = besides (and_member (rerouted_statement chan (copy_name k) p.body)
      (and_member (buffer_statement chan (copy_name k) (slot_name k)) no_members));
}

-- the second program is the first one with a buffer on the channel
pub record HasBuffer (p : ProgramTree) (chan : List ℕ) (q : ProgramTree) : Type 0 where
  pub number : ℕ
  pub free : IsFreeNumber p.decls number
  pub tree : q ≡ buffered_tree p chan number

-- What follows of a buffer with this number on a channel inside of an accepted program: the typed form of the program
-- with it is the typed program with it, which keeps what the first one passes; and it is accepted too.
pub record IsRightBuffer (p : ProgramTree) (chan : List ℕ) (q : ProgramTree) (k : ℕ) : Type 0 where
  pub typed : typed_form q ≡ buffered (typed_form p) (channel_number p.decls chan) k
  pub keeps : BufferKeeps (typed_form p) (channel_number p.decls chan) k
  pub accepted : IsAccepted q
