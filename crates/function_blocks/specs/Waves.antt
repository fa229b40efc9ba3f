-- The two waves of an expression: under a request its rails rise to its value, and fall when the request falls.
use Rattle.std.specs.Prelude.{◌≡◌, ℕ, zero, suc, ◌/◌, ◌%◌, ◌^◌, ◌<◌, ◌==◌, Bool, true, false, not, ◌&&◌, ◌||◌, if◌then◌else◌, List, [], ◌∷◌, Some, is_some}
use Rattle.std.specs.List.{list_all, list_any}
use Rattle.prs_core.specs.Deciding.{implies}
use Rattle.width_check.specs.declared.typed.Var.{Var}
use Rattle.width_check.specs.Processes.{Formula}
use Rattle.width_check.specs.Values.{width_of, value}
use Rattle.width_check.specs.Typing.{var_width, ReadsFrom}
use Rattle.width_check.specs.Reads.{reads}
use Rattle.function_blocks.specs.Rails.{RailLevels, side_of, cross, single, some, levels_neutral, Pairs, low_pairs, pair_in, turned_pairs, Rule, rule_of, no_rule, one_rule_fires, is_apart, same_bit, Rails, value_on, neutral_on, number_on, Single}
use Rattle.function_blocks.specs.Parts.{Input, BlockPart, fixed, read_bit, made, gate_count, outs_of, block_parts}

-- the inputs' pairs
abbrev pub inputs_taken : (look : ℕ → RailLevels) → List Input → List RailLevels
inputs_taken look [] = []
inputs_taken look (i ∷ more) = cross i.crossed (look i.at) ∷ inputs_taken look more

-- some minterm of the function holds
abbrev pub holds : (List Bool → Bool) → List RailLevels → Bool
holds f [] = f []
holds f (p ∷ ps) = (p.t && holds (λ bs. f (true ∷ bs)) ps) || (p.f && holds (λ bs. f (false ∷ bs)) ps)

-- the rows on which a rail rises
abbrev pub rows_of : Bool → (List Bool → Bool) → List Bool → Bool
rows_of true f = f
rows_of false f = λ bs. not (f bs)

-- the guards of a rail of a gate, under the request, over the rails of the gates and those of the variables
abbrev pub up_holds : Bool → (look : ℕ → RailLevels) → (bits : ℕ → Rails) → BlockPart → Bool → Bool
up_holds r look bits (fixed v) one = same_bit v one && r
up_holds r look bits (read_bit x i) one = r && bits x i one
up_holds r look bits (made f i more) one = holds (rows_of one f) (inputs_taken look (i ∷ more))

abbrev pub down_holds : Bool → (look : ℕ → RailLevels) → BlockPart → Bool → Bool
down_holds r look (fixed v) one = same_bit v one && not r
down_holds r look (read_bit x i) one = not r
down_holds r look (made f i more) one = list_all levels_neutral (inputs_taken look (i ∷ more))

abbrev pub part_rule : Bool → (look : ℕ → RailLevels) → (bits : ℕ → Rails) → BlockPart → RailLevels → Bool → Rule
part_rule r look bits g p one = rule_of (side_of p one) (up_holds r look bits g one) (down_holds r look g one)

abbrev pub rule_among : Bool → (look : ℕ → RailLevels) → (bits : ℕ → Rails) → List BlockPart → (n : ℕ) → Pairs n →
    (gate : ℕ)
    → Bool → Rule
rule_among r look bits [] n u k one = no_rule false
rule_among r look bits (g ∷ gs) zero u k one = no_rule false
rule_among r look bits (g ∷ gs) (suc n) u zero one = part_rule r look bits g u.0 one
rule_among r look bits (g ∷ gs) (suc n) u (suc k) one = rule_among r look bits gs n u.1 k one

-- the rule of a rail of a gate of an expression
abbrev pub gate_rule : (e : Formula) → (bits : ℕ → Rails) → Bool → Pairs (gate_count e) → (gate : ℕ) → Bool → Rule
gate_rule e bits r u k one = rule_among r (pair_in (gate_count e) u) bits (block_parts e 0) (gate_count e) u k one

-- while the request is high a rail is high only where its guard holds, while it is low where it isn't
abbrev pub binds : (request rail guard : Bool) → Bool
binds true q u = implies q u
binds false q u = implies u q

-- some input isn't neutral
abbrev pub wet : (look : ℕ → RailLevels) → BlockPart → Bool
wet look (made f i more) = list_any some (inputs_taken look (i ∷ more))
wet look _ = false

-- What holds of a gate: one rail at most; the rails go with their guards; and while the request is low a gate is
-- neutral only if its inputs are.
abbrev pub legal : (request ut uf wet : Bool) → RailLevels → Bool
legal r ut uf w p = single p && (binds r p.t ut && (binds r p.f uf && implies (not r && w) (some p)))

abbrev pub levels_fit : Bool → (look : ℕ → RailLevels) → (bits : ℕ → Rails) → BlockPart → RailLevels → Bool
levels_fit r look bits g p = legal r (up_holds r look bits g true) (up_holds r look bits g false) (wet look g) p

abbrev pub all_fit : Bool → (look : ℕ → RailLevels) → (bits : ℕ → Rails) → List BlockPart → (n : ℕ) → Pairs n → Bool
all_fit r look bits [] zero u = true
all_fit r look bits [] (suc n) u = false
all_fit r look bits (g ∷ gs) zero u = false
all_fit r look bits (g ∷ gs) (suc n) u = levels_fit r look bits g u.0 && all_fit r look bits gs n u.1

-- the rail of a number's bit that has no rules is low
abbrev pub cold : List BlockPart → (n : ℕ) → Pairs n → Bool
cold (fixed v ∷ gs) (suc n) u = not (side_of u.0 (not v)) && cold gs n u.1
cold (g ∷ gs) (suc n) u = cold gs n u.1
cold _ _ u = true

-- what holds of the gates of an expression in each state under the request
abbrev pub good : Bool → (bits : ℕ → Rails) → (e : Formula) → Pairs (gate_count e) → Bool
good r bits e u =
    all_fit r (pair_in (gate_count e) u) bits (block_parts e 0) (gate_count e) u
    && cold (block_parts e 0) (gate_count e) u

-- the rails of its value
abbrev pub input_rails : List Input → (look : ℕ → RailLevels) → Rails
input_rails [] look i one = false
input_rails (k ∷ ks) look zero one = side_of (cross k.crossed (look k.at)) one
input_rails (k ∷ ks) look (suc i) one = input_rails ks look i one

abbrev pub out_rail : (e : Formula) → Pairs (gate_count e) → Rails
out_rail e u = input_rails (outs_of e 0) (pair_in (gate_count e) u)

-- they say a number; all of them are low
abbrev pub full : (e : Formula) → Pairs (gate_count e) → Bool
full e u = is_some (value_on (width_of e) (out_rail e u))

abbrev pub empty : (e : Formula) → Pairs (gate_count e) → Bool
empty e u = neutral_on (width_of e) (out_rail e u)

-- the numbers on the variables' rails
abbrev pub store_of : List Var → (bits : ℕ → Rails) → ℕ → ℕ
store_of vars bits x = number_on (var_width vars x) (bits x)

-- each bit of what the expression reads has a rail high
abbrev pub Ready : List Var → (bits : ℕ → Rails) → Formula → Type 0
Ready vars bits e = (x i : ℕ) → reads x e ≡ true → i < var_width vars x → (bits x i true || bits x i false) ≡ true

-- The law of an expression's two waves. `r` is the request.
pub record Waves (e : Formula) : Type 0 where
  -- low gates are as they should be; the request may rise over them, and fall over a whole value
  pub idle : (bits : ℕ → Rails) → good false bits e (low_pairs (gate_count e)) ≡ true
  pub begins : (bits : ℕ → Rails) → good true bits e (low_pairs (gate_count e)) ≡ true
  pub ease : (bits : ℕ → Rails) (u : Pairs (gate_count e)) → Single bits → good true bits e u ≡ true → full e u ≡ true
      → good false bits e u ≡ true
  -- a gate's move keeps what holds, goes with the request, and disables no other
  pub own : (r : Bool) (bits : ℕ → Rails) (u : Pairs (gate_count e)) (k : ℕ) (one : Bool) → Single bits
      → good r bits e u ≡ true → one_rule_fires (gate_rule e bits r u k one) ≡ true
      → good r bits e (turned_pairs (gate_count e) u k one) ≡ true
  pub law : (r : Bool) (bits : ℕ → Rails) (u : Pairs (gate_count e)) (k : ℕ) (one : Bool) → Single bits
      → good r bits e u ≡ true → one_rule_fires (gate_rule e bits r u k one) ≡ true
      → (if side_of (pair_in (gate_count e) u k)
      one then not r else (r && not (side_of (pair_in (gate_count e) u k) (not one)))) ≡ true
  pub firm : (r : Bool) (bits : ℕ → Rails) (u : Pairs (gate_count e)) (k : ℕ) (one : Bool) (j : ℕ) (side : Bool)
      → Single bits → (j ≡ k → side ≡ one → ⊥) → good r bits e u ≡ true →
      one_rule_fires (gate_rule e bits r u k one) ≡ true
      → one_rule_fires (gate_rule e bits r u j side) ≡ true
      → one_rule_fires (gate_rule e bits r (turned_pairs (gate_count e) u k one) j side) ≡ true
  pub apart : (r : Bool) (bits : ℕ → Rails) (u : Pairs (gate_count e)) (k : ℕ) (one : Bool) → Single bits
      → good r bits e u ≡ true → is_apart (gate_rule e bits r u k one) ≡ true
  pub there : (r : Bool) (bits : ℕ → Rails) (u : Pairs (gate_count e)) (k : ℕ) (one : Bool)
      → one_rule_fires (gate_rule e bits r u k one) ≡ true → k < gate_count e
  -- while the request is high only the variables that are read matter, and none while it is low
  pub unread : (r : Bool) (bits now : ℕ → Rails) (u : Pairs (gate_count e))
      → ((x i : ℕ) (one : Bool) → reads x e ≡ true → bits x i one ≡ now x i one) → (good r bits e u ≡ good r now e u)
      × ((k : ℕ) (one : Bool) → gate_rule e bits r u k one ≡ gate_rule e now r u k one)
  pub asleep : (bits now : ℕ → Rails) (u : Pairs (gate_count e)) → (good false bits e u ≡ good false now e u)
      × ((k : ℕ) (one : Bool) → gate_rule e bits false u k one ≡ gate_rule e now false u k one)
  -- no gate moves over a whole value, nor over low rails; then the inner gates have their value too, or are low
  pub quiet_full : (bits : ℕ → Rails) (u : Pairs (gate_count e)) → Single bits → good true bits e u ≡ true
      → full e u ≡ true → (k : ℕ) (one : Bool) → one_rule_fires (gate_rule e bits true u k one) ≡ false
  pub inner_full : (bits : ℕ → Rails) (u : Pairs (gate_count e)) → good true bits e u ≡ true → full e u ≡ true → (k : ℕ)
      → k < gate_count e → (some (pair_in (gate_count e) u k) && single (pair_in (gate_count e) u k)) ≡ true
  pub quiet_low : (bits : ℕ → Rails) (k : ℕ) (one : Bool)
      → one_rule_fires (gate_rule e bits false (low_pairs (gate_count e)) k one) ≡ false
  pub inner_empty : (bits : ℕ → Rails) (u : Pairs (gate_count e)) → good false bits e u ≡ true → empty e u ≡ true
      → u ≡ low_pairs (gate_count e)
  -- where no gate moves the wave has arrived
  pub rest_up : (vars : List Var) (bits : ℕ → Rails) (u : Pairs (gate_count e)) → ReadsFrom vars e → Ready vars bits e
      → good true bits e u ≡ true → ((k : ℕ) (one : Bool) → one_rule_fires (gate_rule e bits true u k one) ≡ false)
      → full e u ≡ true
  pub rest_down : (bits : ℕ → Rails) (u : Pairs (gate_count e)) → good false bits e u ≡ true
      → ((k : ℕ) (one : Bool) → one_rule_fires (gate_rule e bits false u k one) ≡ false) → empty e u ≡ true
  -- the rails of the value: one of a bit at most, so many bits, and they go with the request
  pub one_rail : (r : Bool) (bits : ℕ → Rails) (u : Pairs (gate_count e)) (i : ℕ) → good r bits e u ≡ true
      → out_rail e u i true ≡ true → out_rail e u i false ≡ true → ⊥
  pub wide : (u : Pairs (gate_count e)) (i : ℕ) (one : Bool) → out_rail e u i one ≡ true → i < width_of e
  pub rises : (bits : ℕ → Rails) (u : Pairs (gate_count e)) (k : ℕ) (one : Bool) → Single bits
      → good true bits e u ≡ true → one_rule_fires (gate_rule e bits true u k one) ≡ true → (i : ℕ) (side : Bool)
      → out_rail e u i side ≡ true → out_rail e (turned_pairs (gate_count e) u k one) i side ≡ true
  pub falls : (bits : ℕ → Rails) (u : Pairs (gate_count e)) (k : ℕ) (one : Bool) → Single bits
      → good false bits e u ≡ true → one_rule_fires (gate_rule e bits false u k one) ≡ true → (i : ℕ) (side : Bool)
      → out_rail e (turned_pairs (gate_count e) u k one) i side ≡ true → out_rail e u i side ≡ true
  -- each of them that is high is right (of a guard: `head`), and all together say the expression's value
  pub right : (vars : List Var) (bits : ℕ → Rails) (u : Pairs (gate_count e)) → ReadsFrom vars e → Single bits
      → good true bits e u ≡ true → (i : ℕ) (one : Bool) → out_rail e u i one ≡ true
      → (value (store_of vars bits) e / 2 ^ i % 2 == 1) ≡ one
  pub head : (vars : List Var) (bits : ℕ → Rails) (u : Pairs (gate_count e)) → width_of e ≡ 1 → ReadsFrom vars e
      → Single bits → good true bits e u ≡ true → (one : Bool) → out_rail e u 0 one ≡ true
      → (value (store_of vars bits) e == 1) ≡ one
  pub value_is : (vars : List Var) (bits : ℕ → Rails) (u : Pairs (gate_count e)) → ReadsFrom vars e → Single bits
      → good true bits e u ≡ true → full e u ≡ true
      → value_on (width_of e) (out_rail e u) ≡ Some (value (store_of vars bits) e)
  -- and that is one of the variables that are read
  pub agrees : (f g : ℕ → ℕ) → ((x : ℕ) → reads x e ≡ true → f x ≡ g x) → value f e ≡ value g e
