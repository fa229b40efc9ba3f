-- The state of a program, seen as a configuration.
use Rattle.std.specs.Prelude.{◌≡◌, ℕ, true, false, List, map, length, drop, replicate, fold, All, None}
use Rattle.std.specs.declared.alloc.Global.{Global}
use Rattle.std.specs.declared.vec.Vec.{Vec}
use Rattle.env_script.specs.Scripts.{OfferValue, gives, takes, nothing}
use Rattle.width_check.specs.Processes.{Process}
use Rattle.chp_meaning.specs.declared.effect.Move.{Move}
use Rattle.chp_meaning.specs.declared.config.Rest.{Rest}
use Rattle.chp_meaning.specs.declared.config.Rest.TheVariants.{Gives, Takes, Nothing}
use Rattle.chp_meaning.specs.declared.config.Config.{Config}
use Rattle.chp_meaning.specs.Steps.{Configuration}
use Rattle.chp_meaning.specs.Remaining.{Remains, remains_of, term_of, CanRemain, IsRunnable}
use Rattle.chp_meaning.specs.AtOnce.{Outset, noted_send, noted_receive, statements, moves_of, advanced, written, used, passed, is_below, number_below}

-- the values that are still to come, the count that is left
abbrev pub offer_of_rest : Rest → OfferValue
offer_of_rest (Gives values sent) = gives (drop sent values.items)
offer_of_rest (Takes count) = takes count
offer_of_rest Nothing = nothing

abbrev pub items_of : List (Vec ℕ Global) → List (List ℕ)
items_of histories = map (λ h. h.items) histories

abbrev pub outset_of : Config → Outset
outset_of c = record {
  store = c.store.items;
  rests = map offer_of_rest c.rests.items;
  sends = c.sends.items;
  receives =
      c.receives.items;
}

abbrev pub histories_of : Config → List (List ℕ)
histories_of c = items_of c.histories.items

-- of a program that does this
abbrev pub configuration_of : Process → Config → Configuration
configuration_of body c = record {
  term = term_of body (remains_of c.left);
  store = c.store.items;
  rests =
      map offer_of_rest c.rests.items;
  histories = histories_of c;
}

-- What is kept between rounds of a program that does this: its numbers are within the lists, what is left can be left
-- of it, and no end is noted.
pub record IsStanding (body : Process) (c : Config) : Type 0 where
  pub runnable : IsRunnable (length c.rests.items) (length c.store.items) body
  pub remains : CanRemain body (remains_of c.left)
  pub histories : length c.histories.items ≡ length c.rests.items
  pub sends : c.sends.items ≡ replicate (length c.rests.items) false
  pub receives : c.receives.items ≡ replicate (length c.rests.items) None

-- the state at the start of the next round
abbrev pub next_outset : Process → Config → Outset
next_outset body c = record {
  store = c.store.items;
  rests = map offer_of_rest c.rests.items;
  sends = fold (noted_send true) (replicate (length c.rests.items) false) (statements body (remains_of c.left));
  receives = fold (noted_receive true) (replicate (length c.rests.items) None) (statements body (remains_of c.left));
}

abbrev pub next_moves : Process → Config → List Move
next_moves body c = moves_of (next_outset body c) (statements body (remains_of c.left))

-- this is left after the next round, and these are its moves
pub record IsPlan (body : Process) (c : Config) (left : Remains) (moves : List Move) : Type 0 where
  pub left_is : left ≡ advanced (next_outset body c) body (remains_of c.left)
  pub moves_are : moves ≡ next_moves body c

-- the numbers of the moves are within the lists
pub record AreWithin (c : Config) (moves : List Move) : Type 0 where
  pub passes : All (λ (m : Move). is_below (length c.histories.items) m.pass ≡ true) moves
  pub writes : All (λ (m : Move). is_below (length c.store.items) m.write ≡ true) moves
  pub uses : All (λ (m : Move). number_below (length c.rests.items) m.uses ≡ true) moves

-- the same except for what the moves change, and what is left
pub record HaveMoved (old new : Config) (left : Remains) (moves : List Move) : Type 0 where
  pub left_is : remains_of new.left ≡ left
  pub store : new.store.items ≡ fold written old.store.items moves
  pub rests : map offer_of_rest new.rests.items ≡ fold used (map offer_of_rest old.rests.items) moves
  pub histories : histories_of new ≡ fold passed (histories_of old) moves
  pub sends : new.sends.items ≡ old.sends.items
  pub receives : new.receives.items ≡ old.receives.items

-- the same
pub record IsUnchanged (old new : Config) : Type 0 where
  pub left_is : new.left ≡ old.left
  pub store : new.store.items ≡ old.store.items
  pub rests : new.rests ≡ old.rests
  pub histories : histories_of new ≡ histories_of old
  pub sends : new.sends.items ≡ old.sends.items
  pub receives : new.receives.items ≡ old.receives.items

-- its tables have an entry for each channel
pub record HasTables (c : Config) : Type 0 where
  pub sends : length c.sends.items ≡ length c.rests.items
  pub receives : length c.receives.items ≡ length c.rests.items

-- the configuration has what a run of the statement asks for
pub record CanRun (c : Config) (p : Process) : Type 0 where
  pub tables : HasTables c
  pub numbers : IsRunnable (length c.rests.items) (length c.store.items) p
