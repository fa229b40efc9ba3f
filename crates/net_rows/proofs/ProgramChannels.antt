-- The channels of a typed program, as a script asks for them.
use Rattle.std.proofs.Common.{◌≡◌, ◌≢◌, ℕ, ◌<◌, ◌≤◌, List, length, map, get_or, arith, length-append}
use Rattle.std.specs.Prelude.{All, AllPairs}
use Rattle.std.proofs.lemmas.List.{get_or-map, get_or_append_left, length-map}
use Rattle.chp_base.specs.declared.channel.Channel.{Channel}
use Rattle.width_check.specs.declared.typed.Var.{Var}
use Rattle.width_check.specs.Processes.{Process}
use Rattle.width_check.specs.Typing.{IsTyped, names_of}

abbrev channel_names : List Channel → List (List ℕ)
channel_names cs = map (λ (c : Channel). c.name) cs

abbrev var_names : List Var → List (List ℕ)
var_names vs = map (λ (v : Var). v.name) vs

name_at : (cs : List Channel) (vs : List Var) (k : ℕ) (d : Channel) → k < length cs → get_or (names_of cs vs) k d.name ≡ (get_or cs k d).name
name_at cs vs k d within =
    let there : k < length (channel_names cs) = omega (arith, within, length-map cs (λ (c : Channel). c.name)) in
    rw (get_or_append_left (channel_names cs) (var_names vs) d.name k there) (get_or-map (λ (c : Channel). c.name) cs k d d.name within)

pub typed_distinct : (cs : List Channel) (vs : List Var) (p : Process) → IsTyped cs vs p → AllPairs (λ (a b : Channel). a.name ≢ b.name) cs
typed_distinct cs vs p typed = λ i j d before within.
    let counted = length-append (channel_names cs) (var_names vs) in
    let named = length-map cs (λ (c : Channel). c.name) in
    let there : j < length (names_of cs vs) = omega (arith, within, counted, named) in
    let one = name_at cs vs i d (omega (arith, before, within)) in
    let other = name_at cs vs j d within in
    rw (← one, ← other) (typed.distinct i j d.name before there)

pub typed_wide : (cs : List Channel) (vs : List Var) (p : Process) → IsTyped cs vs p → All (λ (c : Channel). (1 ≤ c.width) × (c.width ≤ 64)) cs
typed_wide cs vs p typed = λ k d within. let c = typed.each_channel k d within in (c.some, c.most)
