-- The rules of channels and variables, one after another.
use Rattle.std.proofs.Common.{◌≡◌, ℕ, zero, suc, ◌+◌, ◌*◌, ◌<◌, ◌≤◌, List, [], ◌∷◌, length, get_or, ap, ◌∙◌, arith}
use Rattle.std.proofs.lemmas.List.FromFn.{get_or-map-range_with_len, length-map-range_with_len}
use Rattle.chp_base.specs.declared.channel.Channel.{Channel}
use Rattle.width_check.specs.declared.typed.Var.{Var}
use Rattle.width_check.specs.Processes.{TypedProgram}
use Rattle.width_check.specs.Typing.{channel_width, kind_at, var_width}
use Rattle.handshake_expand.specs.Layout.{block_size, channel_from, var_from, body_from}
use Rattle.handshake_expand.proofs.Rows.{channel_found, var_found}
use Rattle.net_compose.specs.Begins.{channel_firsts, var_firsts}
use Rattle.net_compose.proofs.FlatBlocks.{blocks_below}
use Rattle.net_compose.proofs.FlatWires.{wires_below}

-- a declaration that was looked up

kind_found : (cs : List Channel) (k : ℕ) (c : Channel) → k < length cs → c ≡ get_or cs k c → c.kind ≡ kind_at cs k
kind_found [] k c within is = absurd (omega arith)
kind_found (x ∷ xs) zero c within is = ap (λ (y : Channel). y.kind) is
kind_found (x ∷ xs) (suc k) c within is = kind_found xs k c (omega (arith, within)) is

module _ (cs declared : List Channel) (k : ℕ) (c : Channel) (same : cs ≡ declared) (within : k < length declared) (is : c ≡ get_or cs k c) where
  pub channel_wide : c.width ≡ channel_width declared k
  channel_wide = channel_found declared k c within (is ∙ ap (λ xs. get_or xs k c) same)

  pub channel_kind : c.kind ≡ kind_at declared k
  channel_kind = kind_found declared k c within (is ∙ ap (λ xs. get_or xs k c) same)

pub var_wide : (vs declared : List Var) (x : ℕ) (v : Var) → vs ≡ declared → x < length declared → v ≡ get_or vs x v → v.width ≡ var_width declared x
var_wide vs declared x v same within is = var_found declared x v within (is ∙ ap (λ us. get_or us x v) same)

module _ (p : TypedProgram) where
  -- where they begin

  pub channel_start : (firsts : List ℕ) (k : ℕ) (d : ℕ) → firsts ≡ channel_firsts p → k < length p.channels → get_or firsts k d ≡ channel_from p k
  channel_start firsts k d are within = ap (λ xs. get_or xs k d) are ∙ get_or-map-range_with_len (channel_from p) 0 (length p.channels) k k d within
      (omega arith)

  pub var_start : (firsts : List ℕ) (x : ℕ) (d : ℕ) → firsts ≡ var_firsts p → x < length p.vars → get_or firsts x d ≡ var_from p x
  var_start firsts x d are within = ap (λ xs. get_or xs x d) are ∙ get_or-map-range_with_len (var_from p) 0 (length p.vars) x x d within (omega arith)

  pub var_starts : (firsts : List ℕ) → firsts ≡ var_firsts p → length firsts ≡ length p.vars
  var_starts firsts are = ap length are ∙ length-map-range_with_len (var_from p) 0 (length p.vars)

  pub wires_before_body : (k : ℕ) → k < length p.channels → channel_from p k + 2 * channel_width p.channels k + 1 ≤ body_from p
  wires_before_body k within = let below = wires_below p.channels k within in omega (arith, below)

  pub block_before_body : (x : ℕ) → x < length p.vars → var_from p x + block_size (var_width p.vars x) ≤ body_from p
  block_before_body x within = let below = blocks_below p.vars x within in omega (arith, below)
