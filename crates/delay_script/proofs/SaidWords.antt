-- What the words of a line say, by the words one by one.
use Rattle.std.proofs.Common.{◌≡◌, ℕ, ◌≤◌, false, None, Some, Option, List, [], ◌∷◌, length, get_or, sym, ap, ◌∙◌, subst, arith}
use Rattle.std.specs.Prelude.{IfSome, IfNone, IsTrue}
use Rattle.std.specs.Borrow.{Bor}
use Rattle.env_script.specs.Numbers.{IsNumber}
use Rattle.env_script.proofs.Sayings.{Words, texts}
use Rattle.delay_script.specs.declared.line.DelayLine.{DelayLine}
use Rattle.delay_script.specs.DelayText.{SaysDelays}

pub second_is : (words : Words) (d : Bor (List ℕ)) (l : DelayLine) → 3 ≤ length words → SaysDelays (texts words) l → IsNumber (get_or words 1 d).now l.up
second_is [] d l some says = absurd (omega arith)
second_is (w ∷ []) d l some says = absurd (omega arith)
second_is (w ∷ u ∷ rest) d l some says =
    let e : u.now ≡ says.up = cc says.spelled in
    subst (λ (v : List ℕ). IsNumber v l.up) (sym e) says.rise

pub third_is : (words : Words) (d : Bor (List ℕ)) (l : DelayLine) → 3 ≤ length words → SaysDelays (texts words) l → IsNumber (get_or words 2 d).now l.down
third_is [] d l some says = absurd (omega arith)
third_is (w ∷ []) d l some says = absurd (omega arith)
third_is (w ∷ u ∷ []) d l some says = absurd (omega arith)
third_is (w ∷ u ∷ x ∷ rest) d l some says =
    let e : x.now ≡ says.down = cc says.spelled in
    subst (λ (v : List ℕ). IsNumber v l.down) (sym e) says.fall

pub said_so : (words list : Words) (ws : List (List ℕ)) (l : DelayLine) (o : Option DelayLine) → list ≡ words → texts words ≡ ws →
    IfSome o (SaysDelays (texts list)) → o ≡ Some l → SaysDelays ws l
said_so words list ws l o same is says found =
    let told : SaysDelays (texts list) l = rw found at says in
    subst (λ (xs : List (List ℕ)). SaysDelays xs l) (ap texts same ∙ is) told

pub said_nothing : (words list : Words) (ws : List (List ℕ)) (o : Option DelayLine) → list ≡ words → texts words ≡ ws →
    IfNone o ((l : DelayLine) → SaysDelays (texts list) l → ⊥) → o ≡ None → (l : DelayLine) → SaysDelays ws l → ⊥
said_nothing words list ws o same is none nothing l says =
    let never : (l : DelayLine) → SaysDelays (texts list) l → ⊥ = rw nothing at none in
    never l (subst (λ (xs : List (List ℕ)). SaysDelays xs l) (sym (ap texts same ∙ is)) says)

pub never_true : IsTrue false → ⊥
never_true h = cc h
