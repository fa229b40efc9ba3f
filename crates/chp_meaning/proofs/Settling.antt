-- What moves change, one after another.
use Rattle.std.proofs.Common.{◌≡◌, ℕ, zero, suc, ◌+◌, ◌-◌, ◌<◌, ◌≤◌, true, List, [], ◌∷◌, ◌++◌, length, get_or, take, drop, map, refl, sym, ap, ◌∙◌, arith, length-append}
use Rattle.std.specs.Prelude.{slice_set, fold, Option, Some, None, Result, Ok, Err, OnErr}
use Rattle.std.proofs.lemmas.Bool.{ltb-true}
use Rattle.std.proofs.lemmas.List.{map-set, set-get_or, set-set, get_or-set_same, length-set, take_more, take_at, drop_more}
use Rattle.std.specs.declared.alloc.Global.{Global}
use Rattle.std.specs.declared.vec.Vec.{Vec}
use Rattle.env_script.specs.Scripts.{gives, offer_at}
use Rattle.env_script.specs.Runs.{history_at}
use Rattle.chp_meaning.specs.declared.config.Rest.{Rest}
use Rattle.chp_meaning.specs.declared.effect.Move.{Move}
use Rattle.chp_meaning.specs.AtOnce.{less, used, used_on, passed, passed_on, shorter, withdrawn_on, is_below, number_below}
use Rattle.chp_meaning.specs.Standing.{items_of, offer_of_rest}

pub on_err : {X E : Type 0} (r : Result X E) (P : Type 0) → P → OnErr r P
on_err (Ok x) P h = tt
on_err (Err e) P h = h

history_is : (hs : List (Vec ℕ Global)) (k : ℕ) (d : Vec ℕ Global) → k < length hs → history_at (items_of hs) k ≡ (get_or hs k d).items
history_is [] k d lt = absurd (omega (arith, lt))
history_is (h ∷ hs) zero d lt = refl
history_is (h ∷ hs) (suc k) d lt = history_is hs k d (omega (arith, lt))

pub pushed : (hs : List (Vec ℕ Global)) (k : ℕ) (d new : Vec ℕ Global) (v : ℕ) (step : Move) → k < length hs → step.pass ≡ Some (k, v) →
    new.items ≡ (get_or hs k d).items ++ v ∷ []
    → items_of (slice_set hs k new) ≡ passed (items_of hs) step
pushed hs k d new v step lt is items =
    map-set (λ (h : Vec ℕ Global). h.items) hs k new
    ∙ (ap (λ (xs : List ℕ). slice_set (items_of hs) k xs) (items ∙ ap (λ xs. xs ++ v ∷ []) (sym (history_is hs k d lt)))
    ∙ ap (λ w. passed_on (items_of hs) w) (sym is))

pub unpushed : (hs : List (Vec ℕ Global)) (k : ℕ) (d new : Vec ℕ Global) → k < length hs → new.items ≡ (get_or hs k d).items →
    items_of (slice_set hs k new) ≡ items_of hs
unpushed hs k d new lt items =
    map-set (λ (h : Vec ℕ Global). h.items) hs k new
    ∙ (ap (λ (xs : List ℕ). slice_set (items_of hs) k xs) (items ∙ sym (history_is hs k d lt)) ∙ set-get_or (items_of hs) k [])

pub popped : (hs : List (Vec ℕ Global)) (k : ℕ) (d new : Vec ℕ Global) (v n : ℕ) (pass : Option (ℕ × ℕ)) → k < length hs → pass ≡ Some (k, v) →
    n ≡ length (get_or hs k d).items → new.items ≡ take (n - 1) (get_or hs k d).items
    → items_of (slice_set hs k new) ≡ withdrawn_on (items_of hs) pass
popped hs k d new v n pass lt is len items =
    map-set (λ (h : Vec ℕ Global). h.items) hs k new
    ∙ (ap (λ (xs : List ℕ). slice_set (items_of hs) k xs) (items ∙ (ap (λ m. take (m - 1) (get_or hs k d).items) len ∙ ap shorter (sym (history_is hs k d lt))))
    ∙ ap (λ w. withdrawn_on (items_of hs) w) (sym is))

-- what has passed last, taken away, leaves what was before

shorter_push : (xs : List ℕ) (v : ℕ) → shorter (xs ++ v ∷ []) ≡ xs
shorter_push xs v = let e : length xs ≡ length (xs ++ v ∷ []) - 1 = omega (arith, length-append xs (v ∷ [])) in
    take_at xs (v ∷ []) (length (xs ++ v ∷ []) - 1) e

below_is : (n : ℕ) (w : ℕ × ℕ) → is_below n (Some w) ≡ true → w.0 < n
below_is n w e = ltb-true w.0 n e

back : (hs : List (List ℕ)) (pass : Option (ℕ × ℕ)) → is_below (length hs) pass ≡ true → withdrawn_on (passed_on hs pass) pass ≡ hs
back hs None b = refl
back hs (Some w) b =
    let k = w.0 in
    let pushed_one = history_at hs k ++ w.1 ∷ [] in
    ap (λ xs. slice_set (slice_set hs k pushed_one) k (shorter xs)) (get_or-set_same hs k pushed_one [] (below_is (length hs) w b))
    ∙ (set-set hs k pushed_one (shorter pushed_one)
    ∙ (ap (λ xs. slice_set hs k xs) (shorter_push (history_at hs k) w.1) ∙ set-get_or hs k []))

passed_length : (hs : List (List ℕ)) (pass : Option (ℕ × ℕ)) → length (passed_on hs pass) ≡ length hs
passed_length hs None = refl
passed_length hs (Some w) = length-set hs w.0 (history_at hs w.0 ++ w.1 ∷ [])

pub all_passed_length : (hs : List (List ℕ)) (ms : List Move) → length (fold passed hs ms) ≡ length hs
all_passed_length hs [] = refl
all_passed_length hs (m ∷ ms) = all_passed_length (passed hs m) ms ∙ passed_length hs m.pass

fold_push : {A B : Type 0} (f : B → A → B) (b : B) (xs : List A) (x : A) → fold f b (xs ++ x ∷ []) ≡ f (fold f b xs) x
fold_push f b [] x = refl
fold_push f b (y ∷ xs) x = fold_push f (f b y) xs x

pub fold_more : {A B : Type 0} (f : B → A → B) (b : B) (xs : List A) (i : ℕ) (d : A) → i < length xs →
    fold f b (take (i + 1) xs) ≡ f (fold f b (take i xs)) (get_or xs i d)
fold_more f b xs i d lt = ap (fold f b) (take_more xs i d lt) ∙ fold_push f b (take i xs) (get_or xs i d)

pub less_given : (vs : List ℕ) (i : ℕ) → i < length vs → gives (drop (i + 1) vs) ≡ less (gives (drop i vs))
less_given vs i lt = sym (ap (λ xs. less (gives xs)) (drop_more vs i 0 lt))

pub in_range : (n : ℕ) (pass : Option (ℕ × ℕ)) (k v : ℕ) → pass ≡ Some (k, v) → is_below n pass ≡ true → k < n
in_range n pass k v is b = below_is n (k, v) (sym (ap (is_below n) is) ∙ b)

-- one value fewer is taken away
pub withdrawn_more : (before now new : List (List ℕ)) (ms : List Move) (n len : ℕ) (d : Move) → 0 < n → n ≤ length ms → length now ≡ len →
    is_below len (get_or ms (n - 1) d).pass ≡ true
    → new ≡ withdrawn_on now (get_or ms (n - 1) d).pass → now ≡ fold passed before (take n ms) → new ≡ fold passed before (take (n - 1) ms)
withdrawn_more before now new ms n len d some le same below is so_far =
    let e : n ≡ (n - 1) + 1 = omega arith in
    let x = get_or ms (n - 1) d in
    let earlier = fold passed before (take (n - 1) ms) in
    let there : now ≡ passed earlier x = so_far ∙ (ap (λ k. fold passed before (take k ms)) e ∙ fold_more passed before ms (n - 1) d (omega arith)) in
    let length_there : length earlier ≡ len = sym (passed_length earlier x.pass) ∙ (ap (λ (hs : List (List ℕ)). length hs) (sym there) ∙ same) in
    is ∙ (ap (λ hs. withdrawn_on hs x.pass) there ∙ back earlier x.pass (ap (λ k. is_below k x.pass) length_there ∙ below))

rest_is : (rs : List Rest) (k : ℕ) (d : Rest) → k < length rs → offer_at (map offer_of_rest rs) k ≡ offer_of_rest (get_or rs k d)
rest_is [] k d lt = absurd (omega (arith, lt))
rest_is (r ∷ rs) zero d lt = refl
rest_is (r ∷ rs) (suc k) d lt = rest_is rs k d (omega (arith, lt))

pub used_one : (rs : List Rest) (k : ℕ) (d new : Rest) (step : Move) → k < length rs → step.uses ≡ Some k →
    offer_of_rest new ≡ less (offer_of_rest (get_or rs k d)) →
    map offer_of_rest (slice_set rs k new) ≡ used (map offer_of_rest rs) step
used_one rs k d new step lt is e =
    map-set offer_of_rest rs k new
    ∙ (ap (λ o. slice_set (map offer_of_rest rs) k o) (e ∙ ap less (sym (rest_is rs k d lt)))
    ∙ ap (λ w. used_on (map offer_of_rest rs) w) (sym is))

pub number_in_range : (n : ℕ) (uses : Option ℕ) (k : ℕ) → uses ≡ Some k → number_below n uses ≡ true → k < n
number_in_range n uses k is b = ltb-true k n (sym (ap (number_below n) is) ∙ b)
