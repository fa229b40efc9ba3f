use Rattle.std.proofs.Common.{List, [], sym, ◌∙◌, subst}
use Rattle.std.specs.List.{IsDistinct}
use Rattle.std.specs.Str.{bytes_eq}
use Rattle.std.proofs.lemmas.List.{drop_all}
use Rattle.width_check.specs.declared.typed.Var.{Var}
use Rattle.width_check.specs.Typing.{names_of}
use Rattle.width_check.proofs.Alike.{Alike, holds, fails}
use Rattle.width_check.proofs.Declaring.{name_more, name_twice, no_name_twice, some_name_twice, channel_at, var_at, rest_all}
use Rattle.width_check.proofs.declared.are_distinct.Goals as goal

pub returns-then-is_among : goal.returns-then-is_among
returns-then-is_among c =
    let same = channel_at _ c.args.channels.now c.args.vars.now c.loop-place.place _ c.loop-place-test.true c.index-channels-place.is c.loop-place.invariant in
    fails _ (some_name_twice _ (name_twice _ _ _ same (simp rest_all at (sym c.is_among.ensures ∙ c.if-is_among.true))))

pub loop-place-preserved : goal.loop-place-preserved
loop-place-preserved c =
    let same = channel_at _ c.args.channels.now c.args.vars.now c.loop-place.place _ c.loop-place-test.true c.index-channels-place.is c.loop-place.invariant in
    name_more _ _ _ same (simp rest_all at (sym c.is_among.ensures ∙ c.if-is_among.false))

pub returns-then-is_among-2 : goal.returns-then-is_among-2
returns-then-is_among-2 c =
    let same = var_at _ c.args.vars.now c.loop-place-2.place _ c.loop-place-2-test.true c.index-vars-place.is c.loop-place-2.invariant in
    fails _ (some_name_twice _ (name_twice _ _ _ same (simp rest_all at (sym c.is_among-in-loop-place-2.ensures ∙ c.if-is_among-2.true))))

pub loop-place-2-preserved : goal.loop-place-2-preserved
loop-place-2-preserved c =
    let same = var_at _ c.args.vars.now c.loop-place-2.place _ c.loop-place-2-test.true c.index-vars-place.is c.loop-place-2.invariant in
    name_more _ _ _ same (simp rest_all at (sym c.is_among-in-loop-place-2.ensures ∙ c.if-is_among-2.false))

pub returns : goal.returns
returns c =
    let none = drop_all c.loop-place-2.place c.args.vars.now c.loop-place-2-test.false in
    let same = subst (λ (vs : List Var). Alike (IsDistinct bytes_eq (names_of c.args.channels.now c.args.vars.now)) (IsDistinct bytes_eq (names_of [] vs))) none
    c.loop-place-2.invariant in
    holds _ (no_name_twice _ same)
