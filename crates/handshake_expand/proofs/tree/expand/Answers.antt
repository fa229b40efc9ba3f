use Rattle.std.proofs.Common.{◌≡◌, List, ◌++◌, length, map, ap, ◌∙◌, arith}
use Rattle.std.proofs.lemmas.List.{with_items_is}
use Rattle.width_check.specs.Typed.{program_of}
use Rattle.handshake_expand.specs.declared.site.SiteNode.{SiteNode}
use Rattle.handshake_expand.specs.Expansions.{BlockValue, Expansion, block_value, channel_blocks, var_blocks}
use Rattle.handshake_expand.specs.PartTree.{PartTree}
use Rattle.handshake_expand.specs.Sites.{own_sites, in_body}
use Rattle.handshake_expand.proofs.tree.expand.Goals as goal

-- expansions that agree in all parts
abbrev made : List BlockValue → List BlockValue → PartTree → Expansion
made channels vars root = record { channels = channels; vars = vars; root = root }

alike : (a b x y : List BlockValue) (s t : PartTree) → a ≡ b → x ≡ y → s ≡ t → made a x s ≡ made b y t
alike a b x y s t e f g = ap (λ c. made c x s) e ∙ (ap (λ v. made b v s) f ∙ ap (made b y) g)

pub returns : goal.returns
returns c =
    let p = program_of c.args.program.now in
    let noted = in_body p (own_sites p) in
    let sites : c.deref.result.now ≡ noted = c.deref.ensures.value
    ∙ (c.in_ok-root.ensures.sites ∙ ap (λ (xs : List SiteNode). xs ++ noted) c.new-sites.ensures.items) in
    let channels =
    ap (map block_value) (with_items_is c.in_ok-channels.channels c.place_sites.new.channels (omega (
      arith,
      c.place_sites.auto.channels,
      c.deref_mut.ensures.len,
      ap length c.deref_mut.ensures.value,
    )))
    ∙ c.in_ok-place_sites.ensures.channels p (ap (map block_value) c.deref_mut.ensures.value ∙ c.in_ok-channels.ensures.blocks) ∙ ap (channel_blocks p) sites in
    let vars =
    ap (map block_value) (with_items_is c.in_ok-vars.vars c.place_sites.new.vars (omega (
      arith,
      c.place_sites.auto.vars,
      c.deref_mut-2.ensures.len,
      ap length c.deref_mut-2.ensures.value,
    )))
    ∙ c.in_ok-place_sites.ensures.vars p (ap (map block_value) c.deref_mut-2.ensures.value ∙ c.in_ok-vars.ensures.blocks) ∙ ap (var_blocks p) sites in
    alike _ _ _ _ _ _ channels vars c.in_ok-root.ensures.part
