use Rattle.std.proofs.Common.{◌<◌, ◌∙◌, ◌∷◌, [], ℕ, List, get_or, map, take, length, ap, sym, subst, arith}
use Rattle.std.proofs.lemmas.List.{take_more, map-append, length-map, get_or-map}
use Rattle.delay_script.specs.Dues.{AreFilled}
use Rattle.delay_script.proofs.DueLists.{filled_none, filled_append}
use Rattle.delay_script.proofs.due.fill_readers.Goals as goal

pub look-requires-clause-node : goal.look-requires-clause-node
look-requires-clause-node c =
    let es = c.args.edges.now in
    let i = c.loop-reader.reader-index in
    let within = c.loop-reader-test.true in
    subst (λ n. n < length c.args.stage.now.net.first) (get_or-map (λ (e : ℕ × ℕ). e.0) es i (0, 0) 0 within)
    (c.requires.readers i 0 (omega (arith, within, length-map es (λ (e : ℕ × ℕ). e.0))))

pub loop-reader-init : goal.loop-reader-init
loop-reader-init c = filled_none c.args.stage.now c.args.delays.now c.args.made c.args.queue.now

pub loop-reader-preserved : goal.loop-reader-preserved
loop-reader-preserved c =
    let es = c.args.edges.now in
    let i = c.loop-reader.reader-index in
    let e = get_or es i (0, 0) in
    subst (λ (xs : List ℕ). AreFilled c.args.stage.now c.args.delays.now c.args.made xs c.args.queue.now c.look.new.queue)
    (sym (ap (map (λ (x : ℕ × ℕ). x.0)) (take_more es i (0, 0) c.loop-reader-test.true) ∙ map-append (λ (x : ℕ × ℕ). x.0) (take i es) (e ∷ [])))
    (filled_append c.args.stage.now c.args.delays.now c.args.made (map (λ (x : ℕ × ℕ). x.0) (take i es)) (e.0 ∷ []) c.args.queue.now c.loop-reader.queue
    c.look.new.queue c.loop-reader.invariant c.look.ensures)
