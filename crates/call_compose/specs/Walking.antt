-- What is said of the walk over a body with calls, which goes over its text and over its typed form at once.
use Rattle.std.specs.Prelude.{◌≡◌, ℕ, ◌+◌, ◌^◌, ◌<◌, ◌≤◌, ◌==◌, Bool, true, if◌then◌else◌, List, [], ◌∷◌, ◌++◌, fold, slice_set, slice_index_or}
use Rattle.std.specs.List.{flat_map}
use Rattle.prs_core.specs.Nets.{NodeRules}
use Rattle.chp_syntax.specs.declared.tree.Decl.{Decl}
use Rattle.chp_syntax.specs.Trees.{Statement}
use Rattle.width_check.specs.Processes.{Process, TypedProgram}
use Rattle.handshake_expand.specs.Layout.{size_of, root_request}
use Rattle.net_compose.specs.Contacts.{ContactValue, every_contact}
use Rattle.net_compose.specs.Translation.{hidden_high}
use Rattle.call_map.specs.Calling.{Called, inlined, called_size, called_answer, called_rules, called_sites, called_requests}
use Rattle.call_compose.specs.declared.walk.Call.{Call}
use Rattle.call_compose.specs.CalledForm.{called_form}

-- a statement of the typed form, with a copy of the body in place of each call, and what it is in the text
pub record Copied (names : List (List ℕ)) (s : Process) (t : Statement) : Type 0 where
  pub bodies : List Process
  pub decls : List Decl
  pub same : s ≡ inlined bodies (called_form decls names t)

-- the same with its calls
abbrev pub with_calls : {names : List (List ℕ)} {s : Process} {t : Statement} → Copied names s t → Called
with_calls {names} {s} {t} k = called_form k.decls names t

-- its nodes, with one for each call, are among so many, and those with copies can be numbered
pub record HasRoom (names : List (List ℕ)) (p : TypedProgram) (s : Process) (t : Statement)
    (from count : ℕ) : Type 0 where
  pub copied : Copied names s t
  pub own : from + called_size copied.bodies p (with_calls copied) ≤ count
  pub few : count ≤ 65536
  pub copies : from + size_of p s < 2 ^ 32
  pub root : root_request p ≤ from

-- the answer of each body
abbrev pub answer_at : (answers : List ℕ) → ℕ → ℕ
answer_at answers proc = slice_index_or answers proc 0

-- the requests of the calls of a procedure
abbrev pub requests_of : (proc : ℕ) → List Call → List ℕ
requests_of proc calls = flat_map (λ (c : Call). if c.proc == proc then c.request ∷ [] else []) calls

-- what is made of a net: the drivers of nodes, the sites on channels and variables, the first values, and the calls
pub record Pieces : Type 0 where
  pub drivers : List NodeRules
  pub contacts : List ContactValue
  pub first : List Bool
  pub calls : List Call

abbrev pub pieces : List NodeRules → List ContactValue → List Bool → List Call → Pieces
pieces drivers contacts first calls = record {
  drivers = drivers;
  contacts = contacts;
  first = first;
  calls = calls;
}

-- what a statement with calls adds to them, where d gives the answers of the bodies
pub record HasAdded (bodies : List Process) (p : TypedProgram) (d : ℕ → ℕ) (x : Called) (request from answer : ℕ)
    (old new : Pieces) : Type 0 where
  pub made : new.drivers ≡ old.drivers ++ called_rules bodies p d x request from
  pub answered : answer ≡ called_answer bodies p x from
  pub contacts : new.contacts ≡ old.contacts ++ called_sites bodies p (every_contact p) x from
  pub first : new.first ≡ fold (λ values node. slice_set values node true) old.first
      (called_sites bodies p (hidden_high p) x from)
  pub calls : (proc : ℕ) → requests_of proc new.calls
      ≡ requests_of proc old.calls ++ called_requests bodies p proc x request from
