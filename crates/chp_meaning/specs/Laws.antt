-- What is claimed of rounds and runs.
use Rattle.std.specs.Prelude.{◌≤◌, ℕ, suc, List}
use Rattle.env_script.specs.Scripts.{OfferValue}
use Rattle.env_script.specs.Runs.{history_at}
use Rattle.width_check.specs.Processes.{TypedProgram}
use Rattle.chp_meaning.specs.Terms.{Place}
use Rattle.chp_meaning.specs.Steps.{Configuration, Step, Leads, start_of}
use Rattle.chp_meaning.specs.Rounds.{rounds}
use Rattle.chp_meaning.specs.Prefixes.{IsPrefixOf}

-- each history of the first is a prefix of that of the second
abbrev pub IsBehind : Configuration → Configuration → Type 0
IsBehind c d = (k : ℕ) → IsPrefixOf (history_at c.histories k) (history_at d.histories k)

-- from each configuration that a run of m steps leads to, a run leads to that after m rounds
abbrev pub OneHistory : TypedProgram → List OfferValue → Type 0
OneHistory p script = (m : ℕ) (c : Configuration) → Leads (start_of p script) m c →
    (n : ℕ) × Leads c n (rounds p script m)

-- each number of rounds is a run, and one more round only appends to the histories
abbrev pub RoundsHold : TypedProgram → List OfferValue → Type 0
RoundsHold p script = (n : ℕ) → (m : ℕ) × Leads (start_of p script) m (rounds p script n)
    × IsBehind (rounds p script n) (rounds p script (suc n))

-- where a run of m steps goes no further, no run has more than m
abbrev pub OneEnd : TypedProgram → List OfferValue → Type 0
OneEnd p script =
    (m n : ℕ) (c d : Configuration) → Leads (start_of p script) m c → ((at : Place) (e : Configuration) → ¬ Step c at e)
    → Leads (start_of p script) n d → n ≤ m
