use Rattle.std.proofs.Common.{List, ℕ, Some, cond, refl, sym, ap, ◌∙◌, arith}
use Rattle.std.specs.HashMap.{get}
use Rattle.std.specs.Str.{bytes_eq}
use Rattle.call_merge.proofs.FirstFound.{no_places, place_known, place_more, places_done}
use Rattle.call_merge.proofs.firsts.FirstDecls.new.Goals as goal
use Rattle.call_merge.proofs.firsts.FirstDecls.new.Goals.{then-not-contains_key+in_ok-copy+in_ok-insert, else-not-contains_key}

pub loop-place-init : goal.loop-place-init
loop-place-init c = no_places (get bytes_eq c.new-places.result) (λ q. rw c.new-places.ensures.empty refl)

pub loop-place-preserved : goal.loop-place-preserved
loop-place-preserved c = elim c.if-not-contains_key.branch [
  | then-not-contains_key+in_ok-copy+in_ok-insert w ↦ place_more c.args.decls.now c.loop-place.place c.index-decls-place.result
      (get bytes_eq c.loop-place.places) (get bytes_eq c.if-not-contains_key.places) c.loop-place-test.true c.index-decls-place.is c.loop-place.invariant
      (sym c.contains_key.ensures ∙ w.if-not-contains_key.true)
      (λ q. rw w.places-is (w.in_ok-insert.ensures.updates.0 q
      ∙ ap (λ (n : List ℕ). cond (bytes_eq n q) (Some c.loop-place.place) (get bytes_eq c.loop-place.places q)) w.in_ok-copy.ensures))
  | else-not-contains_key w ↦ (rw w.places-is (place_known c.args.decls.now c.loop-place.place c.index-decls-place.result
      (get bytes_eq c.loop-place.places) c.loop-place-test.true c.index-decls-place.is c.loop-place.invariant
      (sym c.contains_key.ensures ∙ w.if-not-contains_key.false)))
]

pub invariant_of-result : goal.invariant_of-result
invariant_of-result c = places_done c.args.decls.now c.loop-place.place (get bytes_eq c.loop-place.places) (omega arith) c.loop-place.invariant
