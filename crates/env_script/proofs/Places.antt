-- The channel of a name by its place.
use Rattle.std.proofs.Common.{◌≡◌, ℕ, zero, suc, ◌+◌, ◌<◌, ◌≤◌, Bool, true, false, cond, Option, None, Some, List, [], ◌∷◌, length, get_or, refl, sym, ap, ◌∙◌, inl, inr, subst, arith}
use Rattle.std.specs.Prelude.{◌⊎◌, nat_lt, bytes_eq, position, option_map, IfSome, IfNone, if◌then◌else◌}
use Rattle.std.specs.List.{position_or_len}
use Rattle.std.specs.Cmp.Lexicographic.{bytes_decides}
use Rattle.std.proofs.lemmas.Bool.{cases_lt, lt-ltb, le-ltb}
use Rattle.std.proofs.lemmas.List.{length-map}
use Rattle.std.proofs.lemmas.List.Quantifiers.{position-Some}
use Rattle.chp_base.specs.declared.channel.Channel.{Channel}
use Rattle.env_script.specs.declared.line.Line.{Line}
use Rattle.env_script.specs.declared.step.Step.{Step}
use Rattle.env_script.specs.declared.step.Step.TheVariants.{Skip, Refused, Take}
use Rattle.env_script.specs.ScriptText.{LineSays, channel_named, fault_on}
use Rattle.env_script.specs.LineSteps.{IsPlace, IsStepOn, IsStepOf, told_at, of_channel}
use Rattle.env_script.proofs.Sayings.{Words, texts}

pub position_cases : {X : Type 0} (p : X → Bool) (x : X) (xs : List X) (b : Bool) → p x ≡ b →
    position p (x ∷ xs) ≡ cond b (Some 0) (option_map (λ k. suc k) (position p xs))
position_cases p x xs true is = rw is (ap (λ t. cond t (Some 0) None) (lt-ltb 0 (suc (length xs)) (omega arith)))
position_cases p x xs false is = rw is (by_order (cases_lt (position_or_len p xs) (length xs)))
  where
    by_order : (position_or_len p xs < length xs) ⊎ (length xs ≤ position_or_len p xs) →
        cond (nat_lt (1 + position_or_len p xs) (suc (length xs))) (Some (1 + position_or_len p xs)) None ≡ option_map (λ k. suc k) (position p xs)
    by_order (inl below) = rw (lt-ltb (1 + position_or_len p xs) (suc (length xs)) (omega arith), lt-ltb (position_or_len p xs) (length xs) below)
        (ap Some (omega arith))
    by_order (inr past) = rw (le-ltb (1 + position_or_len p xs) (suc (length xs)) (omega arith), le-ltb (position_or_len p xs) (length xs) past) refl

-- the first channel of the name is at the first place where it stands
abbrev at_place : List Channel → Option ℕ → Option Channel
at_place channels None = None
at_place [] (Some k) = None
at_place (c ∷ cs) (Some zero) = Some c
at_place (c ∷ cs) (Some (suc k)) = at_place cs (Some k)

named_at : (channels : List Channel) (name : List ℕ) →
    channel_named channels name ≡ at_place channels (position (λ (c : Channel). bytes_eq c.name name) channels)
named_at [] name = refl
named_at (c ∷ cs) name = by_name (bytes_eq c.name name) refl (named_at cs name)
  where
    p : Channel → Bool
    p d = bytes_eq d.name name

    further : (o : Option ℕ) → at_place (c ∷ cs) (option_map (λ k. suc k) o) ≡ at_place cs o
    further None = refl
    further (Some k) = refl

    by_name : (b : Bool) → bytes_eq c.name name ≡ b → channel_named cs name ≡ at_place cs (position (λ (c : Channel). bytes_eq c.name name) cs) →
        (if b then Some c else channel_named cs name) ≡ at_place (c ∷ cs) (position (λ (c : Channel). bytes_eq c.name name) (c ∷ cs))
    by_name true is later = sym (ap (at_place (c ∷ cs)) (position_cases (λ (c : Channel). bytes_eq c.name name) c cs true is))
    by_name false is later = later ∙ sym (ap (at_place (c ∷ cs)) (position_cases (λ (c : Channel). bytes_eq c.name name) c cs false is)
        ∙ further (position (λ (c : Channel). bytes_eq c.name name) cs))

at_within : (channels : List Channel) (k : ℕ) (d : Channel) → k < length channels → at_place channels (Some k) ≡ Some (get_or channels k d)
at_within [] k d within = absurd (omega arith)
at_within (c ∷ cs) zero d within = refl
at_within (c ∷ cs) (suc k) d within = at_within cs k d (omega arith)

any_default : (channels : List Channel) (k : ℕ) (c d : Channel) → k < length channels → c ≡ get_or channels k c → get_or channels k d ≡ c
any_default [] k c d within is = absurd (omega arith)
any_default (b ∷ bs) zero c d within is = sym is
any_default (b ∷ bs) (suc k) c d within is = any_default bs k c d (omega arith) is

place_is : (channels : List Channel) (name : List ℕ) (k : ℕ) (c : Channel) → position (λ (c : Channel). bytes_eq c.name name) channels ≡ Some k →
    c ≡ get_or channels k c → IsPlace channels name k c
place_is channels name k c found is =
    let here = position-Some (λ (d : Channel). bytes_eq d.name name) channels k c found in
    record {
      within = here.0;
      is = λ d. any_default channels k c d here.0 is;
      named = (bytes_decides c.name name).0 (ap (λ (d : Channel). bytes_eq d.name name) is ∙ here.1);
      found = named_at channels name ∙ ap (at_place channels) found ∙ at_within channels k c here.0 ∙ ap Some (sym is);
    }

-- what the search for the bytes of a name answers
abbrev Answers : List Channel → List ℕ → Option ℕ → Type 0
Answers channels bytes answer = answer ≡ position (λ (c : Channel). bytes_eq c.name bytes) channels

pub is_place : (channels listed : List Channel) (bytes name : List ℕ) (answer : Option ℕ) (k : ℕ) (c : Channel) → bytes ≡ name →
    Answers channels bytes answer → answer ≡ Some k → listed ≡ channels → c ≡ get_or listed k c → IsPlace channels name k c
is_place channels listed bytes name answer k c same answers found all is =
    subst (λ (n : List ℕ). IsPlace channels n k c) same
    (place_is channels bytes k c (sym answers ∙ found) (is ∙ ap (λ (cs : List Channel). get_or cs k c) all))

pub no_place : (channels : List Channel) (bytes name : List ℕ) (answer : Option ℕ) → bytes ≡ name → Answers channels bytes answer → answer ≡ None →
    channel_named channels name ≡ None
no_place channels bytes name answer same answers none =
    ap (channel_named channels) (sym same) ∙ named_at channels bytes ∙ ap (at_place channels) (sym answers ∙ none)

-- what is done on the channel that the line names is done for the line
pub on_channel : (channels : List Channel) (told : List Bool) (values : ℕ) (words : List (List ℕ)) (l : Line) (c : Channel) (place : ℕ) (step : Step) →
    LineSays words l → IsPlace channels l.name place c → IsStepOn c (told_at told place) values place l.said step → IsStepOf channels told values words step
on_channel channels told values words l c place Skip says here on = absurd on
on_channel channels told values words l c place (Refused fault) says here on = of_channel l c place says here on
on_channel channels told values words l c place (Take t) says here on = record {
  line = l;
  channel = c;
  says = says;
  place = subst (λ (k : ℕ). IsPlace channels l.name k c) (sym on.0) here;
  faultless = ap (λ (k : ℕ). fault_on c (told_at told k) values l.said) on.0 ∙ on.1;
  offer = on.2;
  count = on.3;
}

pub line_said : (words : List (List ℕ)) (o : Option Line) (l : Line) → IfSome o (LineSays words) → o ≡ Some l → LineSays words l
line_said words o l says found = rw found at says

pub nothing_said : (words : List (List ℕ)) (o : Option Line) → IfNone o ((l : Line) → LineSays words l → ⊥) → o ≡ None → (l : Line) → LineSays words l → ⊥
nothing_said words o none nothing = rw nothing at none

pub some_words : (words : Words) (ws : List (List ℕ)) → texts words ≡ ws → 0 < length words → 0 < length ws
some_words words ws is some = omega (arith, ap length is, length-map words (λ word. word.now))
