-- A rule's line, literal by literal.
use Rattle.std.proofs.Common.{◌≡◌, ℕ, Bool, true, false, cond, List, [], ◌∷◌, ◌++◌, length, get_or, drop, refl, ap, sym, ◌∙◌, subst, arith}
use Rattle.std.specs.Prelude.{◌≢◌, ◌==◌, All, codes}
use Rattle.std.specs.List.{list_all, position_or_len}
use Rattle.std.proofs.lemmas.Bool.{and_parts, eqb-true}
use Rattle.std.proofs.lemmas.List.{append_assoc, append-nil, append_cancel_left, take-append-drop, take_at, drop_at}
use Rattle.std.proofs.lemmas.List.Elements.{All-head, All-tail, All-cons, All-push, All-nil, All-drop}
use Rattle.std.proofs.lemmas.List.Concat.{flat_map-append}
use Rattle.chp_base.specs.Names.{IsNodeName, node_part, letter, begins_with_letter}
use Rattle.prs_file.specs.declared.forms.Lead.{Lead}
use Rattle.prs_file.specs.declared.forms.Lead.TheVariants.{Rule, And, Or}
use Rattle.prs_file.specs.declared.rule.Led.{Led}
use Rattle.prs_file.specs.Spelling.{lead_spelling, sign_spelling, end_spelling}
use Rattle.prs_file.specs.RuleForms.{led_spelling, leds_spelling, rule_line_of, AllLed, IsRuleForm, tells_high, unsigned, word_in, behind_word}

abbrev pub body : Led → List ℕ
body l = sign_spelling l.high ++ l.name

pub led_is : (l : Led) → led_spelling l ≡ lead_spelling l.lead ++ body l
led_is l = ap (λ xs. (lead_spelling l.lead ++ sign_spelling l.high) ++ xs) (append-nil l.name)
    ∙ append_assoc (lead_spelling l.lead) (sign_spelling l.high) l.name

pub more_is : (l : Led) (more : List Led) (n : List ℕ) (u : Bool) → rule_line_of (l ∷ more) n u ≡ lead_spelling l.lead ++ (body l ++ rule_line_of more n u)
more_is l more n u =
    append_assoc (led_spelling l) (leds_spelling more) (end_spelling n u) ∙ ap (λ xs. xs ++ rule_line_of more n u) (led_is l)
    ∙ append_assoc (lead_spelling l.lead) (body l) (rule_line_of more n u)

-- behind a literal stands a space
pub starts_space : (more : List Led) (n : List ℕ) (u : Bool) → All (λ (k : Led). k.lead ≢ Rule) more → (tail : List ℕ) × (rule_line_of more n u ≡ 32 ∷ tail)
starts_space [] n u further = (_, refl)
starts_space (k ∷ more) n u further = by_lead k.lead refl
  where
    by_lead : (lead : Lead) → k.lead ≡ lead → (tail : List ℕ) × (rule_line_of (k ∷ more) n u ≡ 32 ∷ tail)
    by_lead Rule is = absurd (All-head (λ (k : Led). k.lead ≢ Rule) k more further is)
    by_lead And is = (_, more_is k more n u ∙ ap (λ l. lead_spelling l ++ (body k ++ rule_line_of more n u)) is)
    by_lead Or is = (_, more_is k more n u ∙ ap (λ l. lead_spelling l ++ (body k ++ rule_line_of more n u)) is)

no_space : (b : ℕ) → node_part b ≡ true → (b == 32) ≡ false
no_space b part = by_case (b == 32) refl
  where
    by_case : (e : Bool) → (b == 32) ≡ e → e ≡ false
    by_case true is = absurd (cc (part, ap node_part (eqb-true b 32 is)))
    by_case false is = refl

no_tilde : (b : ℕ) → letter b ≡ true → (b == 126) ≡ false
no_tilde b part = by_case (b == 126) refl
  where
    by_case : (e : Bool) → (b == 126) ≡ e → e ≡ false
    by_case true is = absurd (cc (part, ap letter (eqb-true b 126 is)))
    by_case false is = refl

word_length : (name rest : List ℕ) → list_all node_part name ≡ true → position_or_len (λ b. b == 32) (name ++ (32 ∷ rest)) ≡ length name
word_length [] rest parts = refl
word_length (b ∷ bs) rest parts =
    let both = and_parts (node_part b) (list_all node_part bs) parts in
    rw (no_space b both.0) (omega (arith, word_length bs rest both.1))

unsigned_is : (high : Bool) (name tail : List ℕ) → begins_with_letter name ≡ true → unsigned ((sign_spelling high ++ name) ++ tail) ≡ name ++ tail
unsigned_is true [] tail begins = absurd (cc begins)
unsigned_is true (b ∷ bs) tail begins = rw (no_tilde b begins) refl
unsigned_is false name tail begins = refl

pub high_is : (high : Bool) (name tail : List ℕ) → begins_with_letter name ≡ true → tells_high ((sign_spelling high ++ name) ++ tail) ≡ high
high_is true [] tail begins = absurd (cc begins)
high_is true (b ∷ bs) tail begins = rw (no_tilde b begins) refl
high_is false name tail begins = refl

pub word_is : (high : Bool) (name tail : List ℕ) → IsNodeName name → word_in ((sign_spelling high ++ name) ++ (32 ∷ tail)) ≡ name
word_is high name tail is = rw (unsigned_is high name (32 ∷ tail) is.first, word_length name tail is.parts) (take_at name (32 ∷ tail) (length name) refl)

pub rest_is : (high : Bool) (name tail : List ℕ) → IsNodeName name → behind_word ((sign_spelling high ++ name) ++ (32 ∷ tail)) ≡ 32 ∷ tail
rest_is high name tail is = rw (unsigned_is high name (32 ∷ tail) is.first, word_length name tail is.parts) (drop_at name (32 ∷ tail) (length name) refl)

-- what each rule that the line is has left behind the literals so far
pub record Left (leds : List Led) (rest : List ℕ) (ls : List Led) (n : List ℕ) (u : Bool) : Type 0 where
  pub more : List Led
  pub all : ls ≡ leds ++ more
  pub left : rest ≡ rule_line_of more n u

pub record IsRead (line : List ℕ) (leds : List Led) (rest : List ℕ) : Type 0 where
  pub told : line ≡ leds_spelling leds ++ rest
  pub leads : AllLed leds
  pub names : All (λ (l : Led). IsNodeName l.name) leds
  pub only : (ls : List Led) (n : List ℕ) (u : Bool) → IsRuleForm ls n → line ≡ rule_line_of ls n u → Left leds rest ls n u

pub same_led : (l k : Led) → l.lead ≡ k.lead → l.high ≡ k.high → l.name ≡ k.name → l ≡ k
same_led l k a b c = λ i. record { lead = a i; high = b i; name = c i }

-- a literal at the front of a text is the one that the text was made of
front_is : (text : List ℕ) (l k : Led) (more : List Led) (n : List ℕ) (u : Bool) → l.lead ≡ k.lead → l.high ≡ tells_high text → l.name ≡ word_in text →
    IsNodeName k.name → All (λ (k : Led). k.lead ≢ Rule) more → text ≡ body k ++ rule_line_of more n u → (l ≡ k) × (behind_word text ≡ rule_line_of more n u)
front_is text l k more n u lead high name is further e =
    let space = starts_space more n u further in
    let at : text ≡ (sign_spelling k.high ++ k.name) ++ (32 ∷ space.0) = e ∙ ap (λ xs. body k ++ xs) space.1 in (
      same_led l k lead (high ∙ ap tells_high at ∙ high_is k.high k.name (32 ∷ space.0) is.first) (name ∙ ap word_in at ∙ word_is k.high k.name space.0 is),
      ap behind_word at ∙ rest_is k.high k.name space.0 is ∙ sym space.1,
    )

leds_push : (leds : List Led) (l : Led) → leds_spelling (leds ++ l ∷ []) ≡ leds_spelling leds ++ led_spelling l
leds_push leds l = flat_map-append led_spelling leds (l ∷ []) ∙ ap (λ xs. leds_spelling leds ++ xs) (append-nil (led_spelling l))

text_is : (text : List ℕ) → text ≡ sign_spelling (tells_high text) ++ unsigned text
text_is [] = refl
text_is (b ∷ bs) = by_case (b == 126) refl
  where
    by_case : (e : Bool) → (b == 126) ≡ e → b ∷ bs ≡ sign_spelling (cond e false true) ++ cond e bs (b ∷ bs)
    by_case true is = ap (λ x. x ∷ bs) (eqb-true b 126 is)
    by_case false is = refl

front_told : (text : List ℕ) (l : Led) → l.high ≡ tells_high text → l.name ≡ word_in text → text ≡ body l ++ behind_word text
front_told text l high name =
    text_is text
    ∙ ap (λ xs. sign_spelling (tells_high text) ++ xs) (sym (take-append-drop (position_or_len (λ b. b == 32) (unsigned text)) (unsigned text)))
    ∙ sym (append_assoc (sign_spelling (tells_high text)) (word_in text) (behind_word text))
    ∙ ap (λ xs. xs ++ behind_word text) (ap (λ h. sign_spelling h ++ word_in text) (sym high) ∙ ap (λ w. sign_spelling l.high ++ w) (sym name))

all_right : {X : Type 0} (P : X → Type 0) (xs ys : List X) → All P (xs ++ ys) → All P ys
all_right P xs ys all = subst (All P) (drop_at xs ys (length xs) refl) (All-drop P (length xs) (xs ++ ys) all)

further_of : (leds more : List Led) → AllLed leds → AllLed (leds ++ more) → All (λ (k : Led). k.lead ≢ Rule) more
further_of [] more some all = absurd some
further_of (l ∷ leds) more some all = all_right (λ (k : Led). k.lead ≢ Rule) leds more all.1

leads_push : (leds : List Led) (l : Led) → AllLed leds → l.lead ≢ Rule → AllLed (leds ++ l ∷ [])
leads_push [] l some apart = absurd some
leads_push (k ∷ leds) l some apart = (some.0, All-push (λ (k : Led). k.lead ≢ Rule) leds l some.1 apart)

-- the first literal
pub read_first : (line text rest : List ℕ) (l : Led) → line ≡ codes "rule " ++ text → l.lead ≡ Rule → l.high ≡ tells_high text → l.name ≡ word_in text →
    IsNodeName l.name → rest ≡ behind_word text → IsRead line (l ∷ []) rest
read_first line text rest l begins lead high name named behind = record {
  told =
      begins ∙ ap (λ xs. codes "rule " ++ xs) (front_told text l high name ∙ ap (λ xs. body l ++ xs) (sym behind))
      ∙ sym (append_assoc (codes "rule ") (body l) rest)
      ∙ ap (λ xs. xs ++ rest) (sym (append-nil (led_spelling l) ∙ led_is l ∙ ap (λ k. lead_spelling k ++ body l) lead));
  leads = (lead, All-nil (λ (k : Led). k.lead ≢ Rule));
  names = All-cons (λ (l : Led). IsNodeName l.name) l [] named (All-nil (λ (l : Led). IsNodeName l.name));
  only = only_first;
}
  where
    only_first : (ls : List Led) (n : List ℕ) (u : Bool) → IsRuleForm ls n → line ≡ rule_line_of ls n u → Left (l ∷ []) rest ls n u
    only_first [] n u form e = absurd form.leads
    only_first (k ∷ more) n u form e =
        let at : text ≡ body k ++ rule_line_of more n u =
        append_cancel_left (codes "rule ") text (body k ++ rule_line_of more n u) (sym begins ∙ e ∙ more_is k more n u
        ∙ ap (λ j. lead_spelling j ++ (body k ++ rule_line_of more n u)) form.leads.0) in
        let front = front_is text l k more n u (lead ∙ sym form.leads.0) high name (All-head (λ (l : Led). IsNodeName l.name) k more form.names) form.leads.1 at
        in
        record { more = more; all = ap (λ x. x ∷ more) (sym front.0); left = behind ∙ front.1 }

second : List ℕ → ℕ
second xs = get_or xs 1 0

pub same_sign : (p q : Lead) (x y : List ℕ) → p ≢ Rule → q ≢ Rule → lead_spelling p ++ x ≡ lead_spelling q ++ y → (p ≡ q) × (x ≡ y)
same_sign Rule q x y a b e = absurd (a refl)
same_sign And Rule x y a b e = absurd (b refl)
same_sign Or Rule x y a b e = absurd (b refl)
same_sign And And x y a b e = (refl, ap (drop 3) e)
same_sign Or Or x y a b e = (refl, ap (drop 3) e)
same_sign And Or x y a b e = let f : 38 ≡ 124 = ap (λ (xs : List ℕ). get_or xs 1 0) e in absurd (omega (arith, f))
same_sign Or And x y a b e = let f : 124 ≡ 38 = ap (λ (xs : List ℕ). get_or xs 1 0) e in absurd (omega (arith, f))

pub sign_no_end : (p : Lead) (x n : List ℕ) (u : Bool) → p ≢ Rule → lead_spelling p ++ x ≡ end_spelling n u → ⊥
sign_no_end Rule x n u a e = a refl
sign_no_end And x n u a e = let f : 38 ≡ 45 = ap (λ (xs : List ℕ). get_or xs 1 0) e in omega (arith, f)
sign_no_end Or x n u a e = let f : 124 ≡ 45 = ap (λ (xs : List ℕ). get_or xs 1 0) e in omega (arith, f)

-- behind a sign, the next literal of each rule that the line is
pub record Next (leds : List Led) (next : Lead) (behind : List ℕ) (ls : List Led) (n : List ℕ) (u : Bool) : Type 0 where
  pub one : Led
  pub more : List Led
  pub all : ls ≡ leds ++ one ∷ more
  pub lead : next ≡ one.lead
  pub named : IsNodeName one.name
  pub further : All (λ (k : Led). k.lead ≢ Rule) more
  pub at : behind ≡ body one ++ rule_line_of more n u

next_of : (line : List ℕ) (leds : List Led) (rest behind : List ℕ) (next : Lead) → IsRead line leds rest → rest ≡ lead_spelling next ++ behind → next ≢ Rule →
    (ls : List Led) (n : List ℕ) (u : Bool) → IsRuleForm ls n → line ≡ rule_line_of ls n u → Next leds next behind ls n u
next_of line leds rest behind next read sign apart ls n u form e = by_more left.more left.all left.left
  where
    left : Left leds rest ls n u
    left = read.only ls n u form e

    by_more : (more : List Led) → ls ≡ leds ++ more → rest ≡ rule_line_of more n u → Next leds next behind ls n u
    by_more [] all over = absurd (sign_no_end next behind n u apart (sym sign ∙ over))
    by_more (k ∷ more) all over =
        let further = further_of leds (k ∷ more) read.leads (subst AllLed all form.leads) in
        let names = all_right (λ (l : Led). IsNodeName l.name) leds (k ∷ more) (subst (All (λ (l : Led). IsNodeName l.name)) all form.names) in
        let same = same_sign next k.lead behind (body k ++ rule_line_of more n u) apart (All-head (λ (k : Led). k.lead ≢ Rule) k more further) (sym sign ∙ over
        ∙ more_is k more n u) in
        record {
          one = k;
          more = more;
          all = all;
          lead = same.0;
          named = All-head (λ (l : Led). IsNodeName l.name) k more names;
          further = All-tail (λ (k : Led). k.lead ≢ Rule) k more further;
          at = same.1;
        }

-- a further literal
pub read_more : (line : List ℕ) (leds : List Led) (rest behind after : List ℕ) (next : Lead) (l : Led) → IsRead line leds rest →
    rest ≡ lead_spelling next ++ behind → next ≢ Rule → l.lead ≡ next → l.high ≡ tells_high behind → l.name ≡ word_in behind → IsNodeName l.name →
    after ≡ behind_word behind → IsRead line (leds ++ l ∷ []) after
read_more line leds rest behind after next l read sign apart lead high name named goes_on = record {
  told =
      read.told ∙ ap (λ xs. leds_spelling leds ++ xs) (sign
      ∙ ap (λ xs. lead_spelling next ++ xs) (front_told behind l high name ∙ ap (λ xs. body l ++ xs) (sym goes_on))
      ∙ sym (append_assoc (lead_spelling next) (body l) after)
      ∙ ap (λ xs. xs ++ after) (ap (λ k. lead_spelling k ++ body l) (sym lead) ∙ sym (led_is l)))
      ∙ sym (append_assoc (leds_spelling leds) (led_spelling l) after) ∙ ap (λ xs. xs ++ after) (sym (leds_push leds l));
  leads = leads_push leds l read.leads (λ is. apart (sym lead ∙ is));
  names = All-push (λ (l : Led). IsNodeName l.name) leds l read.names named;
  only = only_more;
}
  where
    only_more : (ls : List Led) (n : List ℕ) (u : Bool) → IsRuleForm ls n → line ≡ rule_line_of ls n u → Left (leds ++ l ∷ []) after ls n u
    only_more ls n u form e =
        let one = next_of line leds rest behind next read sign apart ls n u form e in
        let front = front_is behind l one.one one.more n u (lead ∙ one.lead) high name one.named one.further one.at in
        record {
          more = one.more;
          all = one.all ∙ ap (λ x. leds ++ x ∷ one.more) (sym front.0) ∙ sym (append_assoc leds (l ∷ []) one.more);
          left = goes_on ∙ front.1;
        }

-- the lines that are no rule's

pub no_first : (line text : List ℕ) → line ≡ codes "rule " ++ text → (IsNodeName (word_in text) → ⊥) → (ls : List Led) (n : List ℕ) (u : Bool) →
    IsRuleForm ls n → line ≡ rule_line_of ls n u → ⊥
no_first line text begins none [] n u form e = form.leads
no_first line text begins none (k ∷ more) n u form e =
    let at : text ≡ body k ++ rule_line_of more n u =
    append_cancel_left (codes "rule ") text (body k ++ rule_line_of more n u) (sym begins ∙ e ∙ more_is k more n u
    ∙ ap (λ j. lead_spelling j ++ (body k ++ rule_line_of more n u)) form.leads.0) in
    let named = All-head (λ (l : Led). IsNodeName l.name) k more form.names in
    let space = starts_space more n u form.leads.1 in
    none (subst IsNodeName (sym (ap word_in (at ∙ ap (λ xs. body k ++ xs) space.1) ∙ word_is k.high k.name space.0 named)) named)

pub no_more : (line : List ℕ) (leds : List Led) (rest behind : List ℕ) (next : Lead) → IsRead line leds rest → rest ≡ lead_spelling next ++ behind →
    next ≢ Rule → (IsNodeName (word_in behind) → ⊥) → (ls : List Led) (n : List ℕ) (u : Bool) → IsRuleForm ls n → line ≡ rule_line_of ls n u → ⊥
no_more line leds rest behind next read sign apart none ls n u form e =
    let one = next_of line leds rest behind next read sign apart ls n u form e in
    let space = starts_space one.more n u one.further in
    none (subst IsNodeName (sym (ap word_in (one.at ∙ ap (λ xs. body one.one ++ xs) space.1) ∙ word_is one.one.high one.one.name space.0 one.named)) one.named)

pub no_rule_end : (line : List ℕ) (leds : List Led) (rest : List ℕ) → IsRead line leds rest →
    ((lead : Lead) (behind : List ℕ) → lead ≢ Rule → rest ≡ lead_spelling lead ++ behind → ⊥) →
    ((name : List ℕ) (up : Bool) → IsNodeName name → rest ≡ end_spelling name up → ⊥) → (ls : List Led) (n : List ℕ) (u : Bool) → IsRuleForm ls n →
    line ≡ rule_line_of ls n u → ⊥
no_rule_end line leds rest read no_sign no_end ls n u form e = by_more left.more left.all left.left
  where
    left : Left leds rest ls n u
    left = read.only ls n u form e

    by_more : (more : List Led) → ls ≡ leds ++ more → rest ≡ rule_line_of more n u → ⊥
    by_more [] all over = no_end n u form.node over
    by_more (k ∷ more) all over =
        let further = further_of leds (k ∷ more) read.leads (subst AllLed all form.leads) in
        no_sign k.lead (body k ++ rule_line_of more n u) (All-head (λ (k : Led). k.lead ≢ Rule) k more further) (over ∙ more_is k more n u)
