-- The parts of a channel's line, from the line.
use Rattle.std.proofs.Common.{◌≡◌, ℕ, ◌≤◌, Bool, true, false, List, [], ◌∷◌, ◌++◌, length, drop, refl, ap, sym, ◌∙◌, subst, arith}
use Rattle.std.specs.Prelude.{◌==◌, decimal}
use Rattle.std.specs.List.{list_all, position_or_len}
use Rattle.std.proofs.lemmas.Bool.{and_parts, eqb-true}
use Rattle.std.proofs.lemmas.List.{take_at}
use Rattle.chp_base.specs.Names.{IsName, word_part}
use Rattle.chp_base.specs.declared.channel.Channel.{Channel}
use Rattle.chp_base.specs.declared.channel.Kind.{Kind}
use Rattle.chp_base.specs.declared.channel.Kind.TheVariants.{In, Out, Chan}
use Rattle.prs_file.specs.Spelling.{channel_spelling, kind_spelling}
use Rattle.prs_file.specs.Reading.{IsChannelForm}
use Rattle.prs_file.specs.Channels.{kind_by_letter, line_of, word_behind}

pub kind_is : (k : Kind) (name : List ℕ) (width : ℕ) → kind_by_letter (line_of k name width) ≡ k
kind_is In name width = refl
kind_is Out name width = refl
kind_is Chan name width = refl

pub behind_kind : (k : Kind) (name : List ℕ) (width : ℕ) → drop (length (kind_spelling k)) (line_of k name width) ≡ name ++ (32 ∷ (decimal width ++ (10 ∷ [])))
behind_kind In name width = refl
behind_kind Out name width = refl
behind_kind Chan name width = refl

no_space : (b : ℕ) → word_part b ≡ true → (b == 32) ≡ false
no_space b part = by_case (b == 32) refl
  where
    by_case : (e : Bool) → (b == 32) ≡ e → e ≡ false
    by_case true is = absurd (cc (part, ap word_part (eqb-true b 32 is)))
    by_case false is = refl

word_length : (name rest : List ℕ) → list_all word_part name ≡ true → position_or_len (λ b. b == 32) (name ++ (32 ∷ rest)) ≡ length name
word_length [] rest parts = refl
word_length (b ∷ bs) rest parts =
    let both = and_parts (word_part b) (list_all word_part bs) parts in
    rw (no_space b both.0) (omega (arith, word_length bs rest both.1))

pub word_is : (k : Kind) (name : List ℕ) (width : ℕ) → list_all word_part name ≡ true → word_behind k (line_of k name width) ≡ name
word_is k name width parts =
    let rest = decimal width ++ (10 ∷ []) in
    rw (behind_kind k name width, word_length name rest parts) (take_at name (32 ∷ rest) (length name) refl)

-- a line of another channel than the one that its letters tell is no channel's
pub no_channel : (line : List ℕ) (word : List ℕ) (k : Kind) → k ≡ kind_by_letter line → word ≡ word_behind k line →
    ((width : ℕ) → 1 ≤ width → width ≤ 64 → line ≡ line_of k word width → ⊥) → (c : Channel) → IsChannelForm c → line ≡ channel_spelling c → ⊥
no_channel line word k kind_told word_told none c is e =
    let kind : k ≡ c.kind = kind_told ∙ ap kind_by_letter e ∙ kind_is c.kind c.name c.width in
    let named : word ≡ c.name = word_told ∙ ap (word_behind k) e ∙ ap (λ j. word_behind j (line_of c.kind c.name c.width)) kind
    ∙ word_is c.kind c.name c.width is.name.parts in
    none c.width is.some is.most (e ∙ ap (λ j. line_of j c.name c.width) (sym kind) ∙ ap (λ n. line_of k n c.width) (sym named))

pub no_channel_name : (line : List ℕ) (word : List ℕ) (k : Kind) → k ≡ kind_by_letter line → word ≡ word_behind k line → (IsName word → ⊥) → (c : Channel) →
    IsChannelForm c → line ≡ channel_spelling c → ⊥
no_channel_name line word k kind_told word_told none c is e =
    let kind : k ≡ c.kind = kind_told ∙ ap kind_by_letter e ∙ kind_is c.kind c.name c.width in
    let named : word ≡ c.name = word_told ∙ ap (word_behind k) e ∙ ap (λ j. word_behind j (line_of c.kind c.name c.width)) kind
    ∙ word_is c.kind c.name c.width is.name.parts in
    none (subst IsName (sym named) is.name)
