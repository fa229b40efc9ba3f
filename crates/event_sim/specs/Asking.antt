-- Which lists a scheduler is asked with in a run.
use Rattle.std.specs.Prelude.{◌≡◌, ℕ, ◌+◌, ◌<◌, List, [], ◌∷◌, ◌++◌, length, take, slice_index, Option}
use Rattle.prs_core.specs.Nets.{NetValue}
use Rattle.env_script.specs.Scripts.{OfferValue}
use Rattle.env_script.specs.Runs.{RunState, after}
use Rattle.event_sim.specs.Following.{enabled_moves, follow}

-- what is known of a scheduler: of what kind the object is, its name, all indexes that it returned, for how many picks
-- and for how many nodes it has room, the last seed and how many indexes it had returned then, and the index that it
-- would return for a list now. The kind of a boxed scheduler is its table of methods.
pub record PickerValue (K : Type 0) : Type 0 where
  pub kind : K
  pub name : List ℕ
  pub log : List ℕ
  pub spare : ℕ
  pub nodes : ℕ
  pub seeded : Option (ℕ × ℕ)
  pub choice : List ℕ → ℕ

abbrev pub picker_value : {K : Type 0} → K → (name log : List ℕ) (spare nodes : ℕ) → Option (ℕ × ℕ) → (List ℕ → ℕ) →
    PickerValue K
picker_value kind name log spare nodes seeded choice = record {
  kind = kind;
  name = name;
  log = log;
  spare = spare;
  nodes = nodes;
  seeded = seeded;
  choice = choice;
}

-- The effect of one pick: the scheduler returned this index for this list. What it returns for a list may change by it.
pub record IsPick {K : Type 0} (list : List ℕ) (place : ℕ) (was is : PickerValue K) : Type 0 where
  pub kind : is.kind ≡ was.kind
  pub choice : place ≡ was.choice list
  pub log : is.log ≡ was.log ++ place ∷ []
  pub spare : is.spare + 1 ≡ was.spare
  pub name : is.name ≡ was.name
  pub nodes : is.nodes ≡ was.nodes
  pub seeded : is.seeded ≡ was.seeded

-- the moves that are enabled after the moves to which these picks lead
abbrev pub enabled_after : NetValue → List OfferValue → RunState → List ℕ → List ℕ
enabled_after net script st picks = enabled_moves net script (after net st (follow net script st picks))

-- A scheduler was asked before each move of a run with the list of the moves that were enabled then, and these are its
-- picks. It has a state after each number of picks. The list after some picks is what `enabled` says.
pub record IsAskedAlong {P K : Type 0} (known : P → PickerValue K) (enabled : List ℕ → List ℕ) (picks : List ℕ)
    (was is : P) : Type 0 where
  pub after_picks : ℕ → P
  pub first : after_picks 0 ≡ was
  pub last : after_picks (length picks) ≡ is
  pub each : (k : ℕ) → k < length picks → IsPick (enabled (take k picks)) (slice_index picks k)
      (known (after_picks k)) (known (after_picks (k + 1)))
