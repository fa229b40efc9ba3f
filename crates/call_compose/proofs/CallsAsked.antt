-- The requests of calls, by procedure.
use Rattle.std.proofs.Common.{◌≡◌, ◌∙◌, ℕ, ◌+◌, ◌-◌, ◌<◌, ◌≤◌, ◌==◌, List, [], ◌∷◌, ◌++◌, length, get_or, take, sym, ap, append-nil}
use Rattle.std.specs.Prelude.{if◌then◌else◌}
use Rattle.std.proofs.lemmas.List.{take_more, take_all}
use Rattle.std.proofs.lemmas.List.Concat.{flat_map-append}
use Rattle.call_compose.specs.declared.walk.Call.{Call}
use Rattle.call_compose.specs.Walking.{requests_of}

-- one more call
module _ (calls : List Call) (i : ℕ) (c : Call) (within : i < length calls) (is : c ≡ get_or calls i c) (proc : ℕ) where
  pub one_more : requests_of proc (take (i + 1) calls) ≡ requests_of proc (take i calls) ++ (if c.proc == proc then c.request ∷ [] else [])
  one_more =
      ap (requests_of proc) (take_more calls i c within ∙ ap (λ x. take i calls ++ x ∷ []) (sym is))
      ∙ (flat_map-append (λ (x : Call). if x.proc == proc then x.request ∷ [] else []) (take i calls) (c ∷ [])
      ∙ ap (λ xs. requests_of proc (take i calls) ++ xs) (append-nil (if c.proc == proc then c.request ∷ [] else [])))

pub all_calls : (calls : List Call) (i proc : ℕ) → length calls ≤ i → requests_of proc (take i calls) ≡ requests_of proc calls
all_calls calls i proc over = ap (requests_of proc) (take_all i calls over)
