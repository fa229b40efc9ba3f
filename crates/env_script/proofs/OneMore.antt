-- One more line, by channels: what is told, and what the environment does.
use Rattle.std.proofs.Common.{◌≡◌, ◌≢◌, ℕ, zero, suc, ◌<◌, Bool, true, false, Option, Some, List, [], ◌∷◌, ◌++◌, length, get_or, set, map, refl, sym, ap, ◌∙◌, inl, inr, arith}
use Rattle.std.specs.Prelude.{◌⊎◌, ◌||◌, AllPairs, bytes_eq, if◌then◌else◌}
use Rattle.std.specs.Cmp.Lexicographic.{bytes_decides}
use Rattle.std.proofs.lemmas.Bool.{cases_order, false_from_ne_true, or_parts, or_right, both_ways}
use Rattle.std.proofs.lemmas.List.{get_or-map}
use Rattle.chp_base.specs.declared.channel.Channel.{Channel}
use Rattle.env_script.specs.declared.line.Said.{Said}
use Rattle.env_script.specs.declared.line.Line.{Line}
use Rattle.env_script.specs.ScriptText.{said_of, is_told, offer_of, script_of}
use Rattle.env_script.specs.LineSteps.{told_at, IsPlace}

pub differ : (xs ys : List ℕ) → xs ≢ ys → bytes_eq xs ys ≡ false
differ xs ys apart = false_from_ne_true (bytes_eq xs ys) (λ e. apart ((bytes_decides xs ys).0 e))

pub same : (xs ys : List ℕ) → xs ≡ ys → bytes_eq xs ys ≡ true
same xs ys e = (bytes_decides xs ys).1 e

pub other_name : (xs ys : List ℕ) → bytes_eq xs ys ≡ false → xs ≢ ys
other_name xs ys no_match e = both_ways (bytes_eq xs ys) no_match (same xs ys e)

-- a map that differs at one place
map_same : {X : Type 0} (f g : Channel → X) (cs : List Channel) → ((j : ℕ) (d : Channel) → j < length cs → g (get_or cs j d) ≡ f (get_or cs j d)) →
    map g cs ≡ map f cs
map_same f g [] agree = refl
map_same {X} f g (c ∷ cs) agree =
    let head : g c ≡ f c = agree 0 c (omega arith) in
    let tail : map g cs ≡ map f cs = map_same f g cs (λ j d within. agree (suc j) d (omega arith)) in
    ap (λ (x : X). x ∷ map g cs) head ∙ ap (λ (xs : List X). f c ∷ xs) tail

map_set : {X : Type 0} (f g : Channel → X) (cs : List Channel) (k : ℕ) (c : Channel) (y : X) → k < length cs → ((d : Channel) → get_or cs k d ≡ c) → g c ≡ y →
    ((j : ℕ) (d : Channel) → j < length cs → j ≢ k → g (get_or cs j d) ≡ f (get_or cs j d)) → map g cs ≡ set (map f cs) k y
map_set f g [] k c y within is here others = absurd (omega arith)
map_set {X} f g (b ∷ bs) zero c y within is here others =
    let head : g b ≡ y = ap g (is b) ∙ here in
    let tail : map g bs ≡ map f bs = map_same f g bs (λ j d in_range. others (suc j) d (omega arith) (omega arith)) in
    ap (λ (x : X). x ∷ map g bs) head ∙ ap (λ (xs : List X). y ∷ xs) tail
map_set {X} f g (b ∷ bs) (suc k) c y within is here others =
    let head : g b ≡ f b = others 0 b (omega arith) (omega arith) in
    let tail : map g bs ≡ set (map f bs) k y =
    map_set f g bs k c y (omega arith) is here (λ j d in_range apart. others (suc j) d (omega arith) (λ e. apart (omega arith))) in
    ap (λ (x : X). x ∷ map g bs) head ∙ ap (λ (xs : List X). f b ∷ xs) tail

-- what is said of a name behind one more line

pub said_more : (ls : List Line) (l : Line) → is_told ls l.name ≡ false → said_of (ls ++ l ∷ []) l.name ≡ Some l.said
said_more [] l fresh = rw (same l.name l.name refl) refl
said_more (m ∷ ls) l fresh =
    let parts = or_parts (bytes_eq m.name l.name) (is_told ls l.name) fresh in
    rw parts.0 (said_more ls l parts.1)

pub said_other : (ls : List Line) (l : Line) (name : List ℕ) → l.name ≢ name → said_of (ls ++ l ∷ []) name ≡ said_of ls name
said_other [] l name apart = rw (differ l.name name apart) refl
said_other (m ∷ ls) l name apart = ap (λ (o : Option Said). if bytes_eq m.name name then Some m.said else o) (said_other ls l name apart)

pub told_more : (ls : List Line) (l : Line) → is_told (ls ++ l ∷ []) l.name ≡ true
told_more [] l = rw (same l.name l.name refl) refl
told_more (m ∷ ls) l = or_right (bytes_eq m.name l.name) _ (told_more ls l)

pub told_other : (ls : List Line) (l : Line) (name : List ℕ) → l.name ≢ name → is_told (ls ++ l ∷ []) name ≡ is_told ls name
told_other [] l name apart = rw (differ l.name name apart) refl
told_other (m ∷ ls) l name apart = ap (λ b. bytes_eq m.name name || b) (told_other ls l name apart)

abbrev pub AreDistinct : List Channel → Type 0
AreDistinct channels = AllPairs (λ (a b : Channel). a.name ≢ b.name) channels

-- the channels at other places have other names
others_named : (channels : List Channel) (name : List ℕ) (k : ℕ) (c : Channel) → AreDistinct channels → IsPlace channels name k c → (j : ℕ) (d : Channel) →
    j < length channels → j ≢ k → name ≢ (get_or channels j d).name
others_named channels name k c distinct here j d within apart e = by_order (cases_order j k)
  where
    at_k : (get_or channels k d).name ≡ name
    at_k = ap (λ (x : Channel). x.name) (here.is d) ∙ here.named

    by_order : (j ≡ k) ⊎ ((j < k) ⊎ (k < j)) → ⊥
    by_order (inl same_place) = apart same_place
    by_order (inr (inl before)) = distinct j k d before here.within (sym e ∙ sym at_k)
    by_order (inr (inr behind)) = distinct k j d behind within (at_k ∙ e)

pub script_more : (channels : List Channel) (ls : List Line) (l : Line) (k : ℕ) (c : Channel) → AreDistinct channels → IsPlace channels l.name k c →
    is_told ls l.name ≡ false → script_of channels (ls ++ l ∷ []) ≡ set (script_of channels ls) k (offer_of c.kind (Some l.said))
script_more channels ls l k c distinct here fresh =
    map_set (λ (x : Channel). offer_of x.kind (said_of ls x.name)) (λ (x : Channel). offer_of x.kind (said_of (ls ++ l ∷ []) x.name)) channels k c
    (offer_of c.kind (Some l.said)) here.within here.is
    (ap (offer_of c.kind) (ap (said_of (ls ++ l ∷ [])) here.named ∙ said_more ls l fresh))
    (λ j d within apart. ap (offer_of (get_or channels j d).kind)
    (said_other ls l (get_or channels j d).name (others_named channels l.name k c distinct here j d within apart)))

pub flags_more : (channels : List Channel) (ls : List Line) (l : Line) (k : ℕ) (c : Channel) → AreDistinct channels → IsPlace channels l.name k c →
    map (λ (x : Channel). is_told (ls ++ l ∷ []) x.name) channels ≡ set (map (λ (x : Channel). is_told ls x.name) channels) k true
flags_more channels ls l k c distinct here =
    map_set (λ (x : Channel). is_told ls x.name) (λ (x : Channel). is_told (ls ++ l ∷ []) x.name) channels k c true here.within here.is
    (ap (is_told (ls ++ l ∷ [])) here.named ∙ told_more ls l)
    (λ j d within apart. told_other ls l (get_or channels j d).name (others_named channels l.name k c distinct here j d within apart))

-- whether a channel was told of
pub flag_at : (channels : List Channel) (ls : List Line) (told : List Bool) (name : List ℕ) (k : ℕ) (c : Channel) →
    told ≡ map (λ (x : Channel). is_told ls x.name) channels → IsPlace channels name k c → told_at told k ≡ is_told ls name
flag_at channels ls told name k c is here =
    ap (λ (bs : List Bool). told_at bs k) is ∙ get_or-map (λ (x : Channel). is_told ls x.name) channels k c false here.within
    ∙ ap (λ (x : Channel). is_told ls x.name) (here.is c) ∙ ap (is_told ls) here.named
