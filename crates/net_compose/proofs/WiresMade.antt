-- The channels of a net, one by one.
use Rattle.std.proofs.Common.{◌≡◌, ℕ, suc, ◌+◌, ◌*◌, ◌<◌, ◌≤◌, List, [], ◌∷◌, ◌++◌, length, get_or, drop, sym, ap, ◌∙◌, arith}
use Rattle.std.proofs.lemmas.List.{drop_more, drop_all}
use Rattle.chp_base.specs.declared.channel.Channel.{Channel}
use Rattle.prs_core.specs.declared.wires.Wires.{Wires}
use Rattle.prs_core.specs.Pairs.{pairs_from, rails_of}
use Rattle.width_check.specs.Processes.{TypedProgram}
use Rattle.width_check.specs.Typing.{channel_width}
use Rattle.handshake_expand.specs.Layout.{wires_before, channel_from}
use Rattle.handshake_expand.proofs.Branches.{sites_more, sites_done}
use Rattle.handshake_expand.proofs.Rows.{channel_found}
use Rattle.net_compose.specs.Translation.{wires_from}

abbrev wires_for : Channel → (first width : ℕ) → Wires
wires_for c first width = record { channel = c; rails = rails_of (pairs_from width first); ack = first + 2 * width }

module _ (p : TypedProgram) (items : List Channel) (same : items ≡ p.channels) where
  pub wires_more : (i next : ℕ) (c : Channel) (w : Wires) (wires more all : List Wires) → i < length items → c ≡ get_or items i c →
      next ≡ 2 + wires_before items i
      → w ≡ record { channel = c; rails = rails_of (pairs_from c.width next); ack = next + 2 * c.width } → more ≡ wires ++ w ∷ []
      → wires ++ wires_from p i (drop i items) ≡ all → more ++ wires_from p (i + 1) (drop (i + 1) items) ≡ all
  wires_more i next c w wires more all within is from made pushed so_far =
      let rest = drop (i + 1) items in
      let wide : c.width ≡ channel_width p.channels i = channel_found items i c within is ∙ ap (λ cs. channel_width cs i) same in
      let at : next ≡ channel_from p i = from ∙ ap (λ cs. 2 + wires_before cs i) same in
      let e : suc i ≡ i + 1 = omega arith in
      let this : w ≡ wires_for c (channel_from p i) (channel_width p.channels i) =
      made ∙ (ap (wires_for c next) wide ∙ ap (λ n. wires_for c n (channel_width p.channels i)) at) in
      let step : wires_from p i (drop i items) ≡ (w ∷ []) ++ wires_from p (i + 1) rest =
      ap (wires_from p i) (drop_more items i c within ∙ ap (λ (x : Channel). x ∷ rest) (sym is))
      ∙ (ap (λ n. wires_for c (channel_from p i) (channel_width p.channels i) ∷ wires_from p n rest) e
      ∙ ap (λ (x : Wires). x ∷ wires_from p (i + 1) rest) (sym this)) in
      sites_more wires more (w ∷ []) (wires_from p (i + 1) rest) (wires_from p i (drop i items)) all pushed step so_far

  pub wires_done : (i : ℕ) (wires : List Wires) → length items ≤ i → wires ++ wires_from p i (drop i items) ≡ wires_from p 0 items →
      wires ≡ wires_from p 0 p.channels
  wires_done i wires end so_far = sites_done wires (wires_from p i (drop i items)) (wires_from p 0 items) (ap (wires_from p i) (drop_all i items end)) so_far
      ∙ ap (wires_from p 0) same
