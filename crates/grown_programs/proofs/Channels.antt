-- The channels of a generated program.
use Rattle.std.proofs.Common.{◌≡◌, ◌∙◌, ℕ, zero, suc, ◌+◌, ◌-◌, List, [], ◌∷◌, ◌++◌, map, refl, ap, ap₂}
use Rattle.std.specs.List.{range_with_len}
use Rattle.chp_base.specs.declared.channel.Channel.{Channel}
use Rattle.chp_base.specs.declared.channel.Kind.{Kind}
use Rattle.chp_base.specs.declared.channel.Kind.TheVariants as ends
use Rattle.chp_syntax.specs.declared.tree.Decl.{Decl}
use Rattle.chp_syntax.specs.declared.tree.DeclKind.{DeclKind}
use Rattle.chp_syntax.specs.declared.tree.DeclKind.TheVariants.{In, Out, Chan, Var}
use Rattle.width_check.specs.Form.{channels_of, with_channel}
use Rattle.grown_programs.specs.Served.{byte_channel, pipeline_channels}
use Rattle.grown_programs.proofs.Plans.{AreWanted, Wanted, all_wanted, inner_channels, name_wanted, stage_variables, wanted}

abbrev channel_called : List ℕ → Kind → (width : ℕ) → Channel
channel_called name kind width = record { name = name; kind = kind; width = width }

-- the channel that is wanted, if one is, before these
abbrev with_wanted : DeclKind → List ℕ → List Channel → List Channel
with_wanted In name cs = channel_called name ends.In 8 ∷ cs
with_wanted Out name cs = channel_called name ends.Out 8 ∷ cs
with_wanted Chan name cs = channel_called name ends.Chan 8 ∷ cs
with_wanted Var name cs = cs

abbrev wanted_channels : List Wanted → List Channel
wanted_channels [] = []
wanted_channels (w ∷ ws) = with_wanted w.kind (name_wanted w) (wanted_channels ws)

one_declared : (d : Decl) (kind : DeclKind) (name : List ℕ) (cs : List Channel) → d.name.name ≡ name → d.width ≡ 8 →
    with_channel d kind cs ≡ with_wanted kind name cs
one_declared d In name cs is wide = ap₂ (λ n w. channel_called n ends.In w ∷ cs) is wide
one_declared d Out name cs is wide = ap₂ (λ n w. channel_called n ends.Out w ∷ cs) is wide
one_declared d Chan name cs is wide = ap₂ (λ n w. channel_called n ends.Chan w ∷ cs) is wide
one_declared d Var name cs is wide = refl

all_declared : (ws : List Wanted) (ds : List Decl) → AreWanted ws ds → channels_of ds ≡ wanted_channels ws
all_declared [] [] are = refl
all_declared [] (d ∷ ds) are = absurd are
all_declared (w ∷ ws) [] are = absurd are
all_declared (w ∷ ws) (d ∷ ds) are =
    one_declared d d.kind (name_wanted w) (channels_of ds) are.0.name are.0.width
    ∙ ap₂ (λ kind cs. with_wanted kind (name_wanted w) cs) are.0.kind (all_declared ws ds are.1)

inner_wanted : (from count : ℕ) (more : List Wanted) →
    wanted_channels (inner_channels from count more) ≡ map (byte_channel ends.Chan) (range_with_len from count) ++ wanted_channels more
inner_wanted from zero more = refl
inner_wanted from (suc count) more = ap (λ cs. byte_channel ends.Chan from ∷ cs) (inner_wanted (from + 1) count more)

no_channels : (from count : ℕ) → wanted_channels (stage_variables from count) ≡ []
no_channels from zero = refl
no_channels from (suc count) = no_channels (from + 1) count

pub all_channels : (stages : ℕ) (ds : List Decl) → AreWanted (all_wanted stages) ds → channels_of ds ≡ pipeline_channels stages
all_channels stages ds are =
    all_declared (all_wanted stages) ds are
    ∙ ap (λ cs. byte_channel ends.In 0 ∷ cs) (inner_wanted 1 (stages - 1) (wanted Out 99 stages ∷ stage_variables 1 stages)
    ∙ ap (λ cs. map (byte_channel ends.Chan) (range_with_len 1 (stages - 1)) ++ byte_channel ends.Out stages ∷ cs) (no_channels 1 stages))
