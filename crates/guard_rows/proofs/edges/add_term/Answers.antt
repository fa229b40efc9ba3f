use Rattle.std.proofs.Common.{◌≡◌, ℕ, ◌<◌, ◌∙◌, List, length, get_or, take, sym, ap, subst, refl, arith}
use Rattle.std.specs.Prelude.{All}
use Rattle.std.proofs.lemmas.List.{take_all}
use Rattle.std.proofs.lemmas.List.Elements.{All-get_or}
use Rattle.prs_core.specs.declared.rule.Literal.{Literal}
use Rattle.prs_core.specs.Fans.{term_names}
use Rattle.guard_rows.proofs.Added.{none_added, added_as, added_room, term_step}
use Rattle.guard_rows.proofs.edges.add_term.Goals as goal

inside : (t literals : List Literal) (i count many : ℕ) (d : Literal) → literals ≡ t → i < length literals → All (λ (l : Literal). l.node < count) t →
    count ≡ many → (get_or literals i d).node < many
inside t literals i count many d is within all same =
    subst (λ k. (get_or literals i d).node < k) same
    (All-get_or (λ (l : Literal). l.node < count) literals i d within (subst (λ (ls : List Literal). All (λ (l : Literal). l.node < count) ls) (sym is) all))

pub add-requires : goal.add-requires
add-requires c =
    let old = c.args.edges.now in
    added_room c.args.reader 0 4294967296 _ (λ m. term_names m (take c.loop-literal.literal-index c.literals-literal-items.result.now)) (λ m. 0) old.items
    c.loop-literal.edges.items c.index_mut.result.now c.loop-literal.invariant (λ m within. omega (arith, c.requires.room m (omega (arith, within, old.ok.0))))
    (inside c.args.term.now c.literals-literal-items.result.now c.loop-literal.literal-index _ _ _ c.literals-literal-items.ensures.value
    c.loop-literal-test.true c.requires.within (omega (arith, old.ok.0, c.loop-literal.invariant.count))) c.index_mut.ensures.value

pub loop-literal-init : goal.loop-literal-init
loop-literal-init c = none_added c.args.reader _ (λ m. 0) c.args.edges.now.items (λ m. refl) (λ m. refl)

pub loop-literal-preserved : goal.loop-literal-preserved
loop-literal-preserved c =
    let old = c.args.edges.now in
    term_step c.args.reader c.loop-literal.literal-index c.literals-literal-items.result.now _ old.items c.loop-literal.edges.items c.index_mut.result.now
    c.add.new.self c.loop-literal-test.true
    (inside c.args.term.now c.literals-literal-items.result.now c.loop-literal.literal-index _ _ _ c.literals-literal-items.ensures.value
    c.loop-literal-test.true c.requires.within (omega (arith, old.ok.0, c.loop-literal.invariant.count)))
    c.index_mut.ensures.value c.in_ok-add.ensures.total c.in_ok-add.ensures.readers c.loop-literal.invariant

pub returns-clause-added : goal.returns-clause-added
returns-clause-added c =
    let literals = c.literals-literal-items.result.now in
    added_as c.args.reader (λ m. term_names m (take c.loop-literal.literal-index literals)) (λ m. term_names m c.args.term.now) (λ m. 0) (λ m. 0)
    c.args.edges.now.items c.loop-literal.edges.items
    (λ m. ap (term_names m) (take_all c.loop-literal.literal-index literals c.loop-literal-test.false ∙ c.literals-literal-items.ensures.value)) (λ m. refl)
    c.loop-literal.invariant
