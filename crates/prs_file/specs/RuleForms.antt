-- A rule's line as its literals, each with what leads to it.
use Rattle.std.specs.Prelude.{◌≡◌, ◌≢◌, ℕ, Bool, true, false, List, [], ◌∷◌, ◌++◌, ◌==◌, take, drop, All, if◌then◌else◌}
use Rattle.std.specs.List.{flat_map, position_or_len}
use Rattle.chp_base.specs.Names.{IsNodeName}
use Rattle.prs_file.specs.declared.forms.Lead.TheVariants.{Rule}
use Rattle.prs_file.specs.declared.rule.Led.{Led}
use Rattle.prs_file.specs.Spelling.{literal_behind, end_spelling}

abbrev pub led_spelling : Led → List ℕ
led_spelling l = literal_behind l.lead l.high l.name

abbrev pub leds_spelling : List Led → List ℕ
leds_spelling ls = flat_map led_spelling ls

abbrev pub rule_line_of : List Led → List ℕ → Bool → List ℕ
rule_line_of ls name up = leds_spelling ls ++ end_spelling name up

-- the word of a rule leads to the first literal, a sign to each further one
abbrev pub AllLed : List Led → Type 0
AllLed [] = ⊥
AllLed (l ∷ ls) = (l.lead ≡ Rule) × All (λ (k : Led). k.lead ≢ Rule) ls

pub record IsRuleForm (ls : List Led) (name : List ℕ) : Type 0 where
  pub leads : AllLed ls
  pub names : All (λ (l : Led). IsNodeName l.name) ls
  pub node : IsNodeName name

-- the literal that a text begins with: its sign, its word up to a space, and what follows it
abbrev pub tells_high : List ℕ → Bool
tells_high [] = true
tells_high (b ∷ bs) = if b == 126 then false else true

abbrev pub unsigned : List ℕ → List ℕ
unsigned [] = []
unsigned (b ∷ bs) = if b == 126 then bs else b ∷ bs

abbrev pub word_in : List ℕ → List ℕ
word_in text = take (position_or_len (λ b. b == 32) (unsigned text)) (unsigned text)

abbrev pub behind_word : List ℕ → List ℕ
behind_word text = drop (position_or_len (λ b. b == 32) (unsigned text)) (unsigned text)
