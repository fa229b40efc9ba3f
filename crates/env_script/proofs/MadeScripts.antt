-- What lines without a fault say is a script of the channels.
use Rattle.std.proofs.Common.{◌≡◌, ℕ, zero, suc, ◌<◌, ◌^◌, Bool, true, false, Option, None, Some, List, [], ◌∷◌, length, get_or, refl, sym, ap, ◌∙◌, subst, arith}
use Rattle.std.specs.Prelude.{nat_lt, All, bytes_eq, if◌then◌else◌}
use Rattle.std.specs.List.{list_all}
use Rattle.std.specs.Cmp.Lexicographic.{bytes_decides}
use Rattle.std.proofs.lemmas.Bool.{and_parts, ltb-true}
use Rattle.std.proofs.lemmas.List.Elements.{All-nil, All-cons, All-head, All-tail}
use Rattle.chp_base.specs.declared.channel.Channel.{Channel}
use Rattle.chp_base.specs.declared.channel.Kind.{Kind}
use Rattle.chp_base.specs.declared.channel.Kind.TheVariants.{In, Out, Chan}
use Rattle.env_script.specs.declared.line.Said.{Said}
use Rattle.env_script.specs.declared.line.Said.TheVariants.{Numbers, Every}
use Rattle.env_script.specs.declared.line.Line.{Line}
use Rattle.env_script.specs.Scripts.{OfferValue, Suits, IsScript}
use Rattle.env_script.specs.ScriptText.{channel_named, fits, IsLineOf, IsGood, said_of, offer_of, script_of}
use Rattle.env_script.proofs.OneMore.{same, differ, AreDistinct}

all_below : (width : ℕ) (ns : List ℕ) → list_all (λ n. nat_lt n (2 ^ width)) ns ≡ true → All (λ n. n < 2 ^ width) ns
all_below width [] fitting = All-nil (λ n. n < 2 ^ width)
all_below width (n ∷ ns) fitting =
    let parts = and_parts (nat_lt n (2 ^ width)) _ fitting in
    All-cons (λ n. n < 2 ^ width) n ns (ltb-true n (2 ^ width) parts.0) (all_below width ns parts.1)

offer_suits : (kind : Kind) (width : ℕ) (o : Option Said) → ((said : Said) → o ≡ Some said → fits kind width said ≡ true) → Suits kind width (offer_of kind o)
offer_suits In width None fitting = All-nil (λ n. n < 2 ^ width)
offer_suits In width (Some Every) fitting = All-nil (λ n. n < 2 ^ width)
offer_suits In width (Some (Numbers ns)) fitting = all_below width ns (fitting (Numbers ns) refl)
offer_suits Out width None fitting = tt
offer_suits Out width (Some Every) fitting = tt
offer_suits Out width (Some (Numbers [])) fitting = tt
offer_suits Out width (Some (Numbers (n ∷ []))) fitting = tt
offer_suits Out width (Some (Numbers (n ∷ m ∷ ns))) fitting = tt
offer_suits Chan width o fitting = tt

self_named : (channels : List Channel) → AreDistinct channels → (k : ℕ) (d : Channel) → k < length channels →
    channel_named channels (get_or channels k d).name ≡ Some (get_or channels k d)
self_named [] distinct k d within = absurd (omega arith)
self_named (c ∷ cs) distinct zero d within = rw (same c.name c.name refl) refl
self_named (c ∷ cs) distinct (suc k) d within =
    rw (differ c.name (get_or cs k d).name (distinct 0 (suc k) d (omega arith) within))
    (self_named cs (λ i j e less in_range. distinct (suc i) (suc j) e (omega arith) (omega arith)) k d (omega arith))

said_fits : (channels : List Channel) (ls : List Line) → All (IsLineOf channels) ls → (name : List ℕ) (said : Said) (c : Channel) →
    said_of ls name ≡ Some said → channel_named channels name ≡ Some c → fits c.kind c.width said ≡ true
said_fits channels [] each name said c found named = absurd (cc found)
said_fits channels (l ∷ ls) each name said c found named =
    by_name (bytes_eq l.name name) refl found (said_fits channels ls (All-tail (IsLineOf channels) l ls each) name said c)
  where
    by_name : (b : Bool) → bytes_eq l.name name ≡ b → (if b then Some l.said else said_of ls name) ≡ Some said →
        (said_of ls name ≡ Some said → channel_named channels name ≡ Some c → fits c.kind c.width said ≡ true) → fits c.kind c.width said ≡ true
    by_name false apart later further = further later named
    by_name true match now further =
        let is : IsLineOf channels l = All-head (IsLineOf channels) l ls each in
        let one_name : l.name ≡ name = (bytes_decides l.name name).0 match in
        let one_channel : Some is.channel ≡ Some c = sym is.named ∙ ap (channel_named channels) one_name ∙ named in
        let one : is.channel ≡ c = cc one_channel in
        let two : l.said ≡ said = cc now in
        ap (λ (d : Channel). fits d.kind d.width said) (sym one) ∙ ap (fits is.channel.kind is.channel.width) (sym two) ∙ is.fitting

script_part : (cs : List Channel) (ls : List Line) → ((k : ℕ) (d : Channel) (said : Said) → k < length cs → said_of ls (get_or cs k d).name ≡ Some said →
    fits (get_or cs k d).kind (get_or cs k d).width said ≡ true) → IsScript cs (script_of cs ls)
script_part [] ls fitting = tt
script_part (c ∷ cs) ls fitting = (
  offer_suits c.kind c.width (said_of ls c.name) (λ said found. fitting 0 c said (omega arith) found),
  script_part cs ls (λ k d said within found. fitting (suc k) d said (omega arith) found),
)

pub is_script : (channels : List Channel) (ls : List Line) (script : List OfferValue) → AreDistinct channels → IsGood channels ls →
    script ≡ script_of channels ls → IsScript channels script
is_script channels ls script distinct good made =
    subst (λ (s : List OfferValue). IsScript channels s) (sym made)
    (script_part channels ls (λ k d said within found. said_fits channels ls good.each (get_or channels k d).name said (get_or channels k d) found
    (self_named channels distinct k d within)))
