use Rattle.std.proofs.Common.{◌≡◌, ◌+◌, [], ◌∷◌, ◌++◌, ap, sym, refl, ◌∙◌, subst, arith}
use Rattle.width_check.specs.Processes.{Process}
use Rattle.width_check.specs.Typed.{program_of}
use Rattle.width_check.specs.Typing.{IsProcess}
use Rattle.width_check.specs.View.{process_of}
use Rattle.handshake_expand.specs.declared.parts.PartKind.TheVariants.{Root}
use Rattle.handshake_expand.specs.Layout.{size_of}
use Rattle.handshake_expand.specs.PartTree.{part, no_children, and_child, expanded}
use Rattle.handshake_expand.specs.Sites.{own_sites, sites_in}
use Rattle.handshake_expand.proofs.Taken.{asked, told}
use Rattle.handshake_expand.proofs.Trees.{child_count, same_part}
use Rattle.handshake_expand.proofs.tree.root.Goals as goal

pub part-body-requires : goal.part-body-requires
part-body-requires c = record {
  process = subst (λ (q : Process). IsProcess c.args.program.now.channels c.args.program.now.vars q) (ap process_of (sym c.body.ensures.body))
      c.body.ensures.typed.body_is;
  room = omega (arith, ap (λ s. size_of (program_of c.args.program.now) (process_of s)) c.body.ensures.body, c.requires.from, c.requires.room);
}

pub around-requires : goal.around-requires
around-requires c =
    let p = program_of c.args.program.now in
    let body : size_of p (process_of c.body.result.now) ≡ size_of p p.body = ap (λ s. size_of p (process_of s)) c.body.ensures.body in
    asked c.part-body.result _ _ _ (λ made sites is. omega (arith, child_count made p _ _ _ is, body, c.requires.room))
    c.part-body.ensures.sites c.part-body.ensures.part

pub returns-clause-part : goal.returns-clause-part
returns-clause-part c =
    let p = program_of c.args.program.now in
    let from = c.args.from in
    let s = process_of c.body.result.now in
    told c.around.result c.part-body.result _ _ _ _
    (λ all made sites is h. h ∙ (same_part Root Root 0 1 1 from _ _ (made ∷ []) _ refl refl (ap (λ n. 2 + n) (child_count made p s from (from + 2) is))
    (ap (λ tree. and_child tree no_children) is)
    ∙ (ap (λ q. part Root 0 1 from (2 + size_of p q) (and_child (expanded p q from (from + 2)) no_children)) (ap process_of c.body.ensures.body)
    ∙ ap (λ n. part Root 0 1 n (2 + size_of p p.body) (and_child (expanded p p.body n (n + 2)) no_children)) c.requires.from)))
    c.part-body.ensures.sites c.part-body.ensures.part c.around.ensures

pub returns-clause-sites : goal.returns-clause-sites
returns-clause-sites c =
    let p = program_of c.args.program.now in
    told c.around.result c.part-body.result _ _ _ _
    (λ all made sites is h. sites
    ∙ (ap (λ s. c.args.sites.now.items ++ sites_in p (own_sites p) (process_of s) (c.args.from + 2)) c.body.ensures.body
    ∙ ap (λ n. c.args.sites.now.items ++ sites_in p (own_sites p) p.body (n + 2)) c.requires.from))
    c.part-body.ensures.sites c.part-body.ensures.part c.around.ensures
