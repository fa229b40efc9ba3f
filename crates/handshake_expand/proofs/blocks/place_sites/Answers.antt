use Rattle.std.proofs.Common.{take, ap, sym, ◌∙◌}
use Rattle.std.proofs.lemmas.List.{take_more, take_all}
use Rattle.handshake_expand.specs.declared.site.SiteNode.{SiteNode}
use Rattle.handshake_expand.specs.declared.site.SiteKind.TheVariants.{Send}
use Rattle.handshake_expand.specs.Expansions.{channel_blocks, var_blocks}
use Rattle.handshake_expand.proofs.blocks.place_sites.Goals as goal

-- what is read past the end
abbrev none : SiteNode
none = record { kind = Send 0; node = 0 }

pub loop-site-init : goal.loop-site-init
loop-site-init c = record { channels = λ p same. same; vars = λ p same. same }

pub loop-site-preserved : goal.loop-site-preserved
loop-site-preserved c =
    let sites = c.args.sites.now in
    let i = c.loop-site.site-index in
    let more = sym (take_more sites i none c.loop-site-test.true) in
    record {
      channels = λ p same. c.in_ok-place_site.ensures.channels p (take i sites) (c.loop-site.invariant.channels p same) ∙ ap (channel_blocks p) more;
      vars = λ p same. c.in_ok-place_site.ensures.vars p (take i sites) (c.loop-site.invariant.vars p same) ∙ ap (var_blocks p) more;
    }

pub returns-clause-channels : goal.returns-clause-channels
returns-clause-channels c p same = c.loop-site.invariant.channels p same
    ∙ ap (channel_blocks p) (take_all c.loop-site.site-index c.args.sites.now c.loop-site-test.false)

pub returns-clause-vars : goal.returns-clause-vars
returns-clause-vars c p same = c.loop-site.invariant.vars p same ∙ ap (var_blocks p) (take_all c.loop-site.site-index c.args.sites.now c.loop-site-test.false)
