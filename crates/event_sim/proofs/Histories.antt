-- The values that have passed, each with its channel, are the histories of all channels.
use Rattle.std.proofs.Common.{◌≡◌, ◌≢◌, ℕ, zero, suc, ◌+◌, ◌<◌, ◌≤◌, Bool, true, false, cond, List, [], ◌∷◌, ◌++◌, length, get_or, set, map, filter, replicate, refl, sym, ap, ◌∙◌, inl, inr, arith, subst}
use Rattle.std.specs.Prelude.{◌⊎◌, ◌==◌, if◌then◌else◌, position, Option, Some, None, option_to_list, codes, IfSome, All}
use Rattle.std.specs.List.{range_with_len, position_or_len}
use Rattle.std.proofs.lemmas.Bool.{eqb-true, eq-eqb, ne_eqb, cases_eq, cases_lt, lt-ltb, le-ltb}
use Rattle.std.proofs.lemmas.List.{append-nil, append_cancel_right, map-append, length-map, length-set, get_or-set_same, get_or-set_other, length_push}
use Rattle.std.proofs.lemmas.List.FromFn.{length-map-range_with_len, get_or-map-range_with_len, fill_by_all}
use Rattle.std.proofs.lemmas.List.Sums.{length-filter, count_by-le-length}
use Rattle.std.proofs.lemmas.List.Elements.{filter-append, All-push}
use Rattle.std.proofs.lemmas.List.Quantifiers.{position-Some}
use Rattle.prs_core.specs.declared.wires.Wires.{Wires}
use Rattle.prs_core.specs.Nets.{NetValue, IsNet, name_at, ack_name}
use Rattle.prs_core.specs.Moves.{high}
use Rattle.env_script.specs.Environment.{in_reset}
use Rattle.env_script.specs.Runs.{completes, with_value, with_values, histories_after}
use Rattle.event_sim.specs.Passing.{channel_acknowledged, completion, values_through, channel_histories}
use Rattle.event_sim.proofs.Passed.{none_in_reset, none_unknown, completion_is, paired}

values_of_both : (c : ℕ) (xs ys : List (ℕ × ℕ)) → values_through c (xs ++ ys) ≡ values_through c xs ++ values_through c ys
values_of_both c xs ys =
    ap (map (λ (p : ℕ × ℕ). p.1)) (filter-append (λ (p : ℕ × ℕ). p.0 == c) xs ys)
    ∙ map-append (λ (p : ℕ × ℕ). p.1) (filter (λ (p : ℕ × ℕ). p.0 == c) xs) (filter (λ (p : ℕ × ℕ). p.0 == c) ys)

appended : (o : Option ℕ) (h : List ℕ) → with_value o h ≡ h ++ option_to_list o
appended None h = sym (append-nil h)
appended (Some value) h = refl

-- channel by channel
each_grows : (v : ℕ → Bool) (n c : ℕ) (ws : List Wires) (passed more : List (ℕ × ℕ)) →
    ((i : ℕ) (d : Wires) → i < length ws → values_through (c + i) more ≡ option_to_list (completes v (get_or ws i d) n)) →
    with_values v n ws (map (λ k. values_through k passed) (range_with_len c (length ws))) ≡ map (λ k. values_through k (passed ++ more))
    (range_with_len c (length ws))
each_grows v n c [] passed more is = refl
each_grows v n c (w ∷ ws) passed more is =
    let start : c + 0 ≡ c = omega arith in
    let here : values_through c more ≡ option_to_list (completes v w n) = rw start at (is 0 w (omega arith)) in
    let first : with_value (completes v w n) (values_through c passed) ≡ values_through c (passed ++ more) =
    appended (completes v w n) (values_through c passed) ∙ ap (λ xs. values_through c passed ++ xs) (sym here) ∙ sym (values_of_both c passed more) in
    let others : with_values v n ws (map (λ k. values_through k passed) (range_with_len (c + 1) (length ws))) ≡ map (λ k. values_through k (passed ++ more))
    (range_with_len (c + 1) (length ws)) = each_grows v n (c + 1) ws passed more (λ i d within. let same : c + 1 + i ≡ c + suc i = omega arith in
    rw same (is (suc i) d (omega arith))) in
    rw (first, others) refl

none_at : (p : Wires → Bool) (ws : List Wires) (i : ℕ) (d : Wires) → position p ws ≡ None → i < length ws → p (get_or ws i d) ≡ false
none_at p [] i d none within = absurd (omega arith)
none_at p (w ∷ ws) i d none within = by_first (p w) refl (λ k rest less. none_at p ws k d rest less) i within
  where
    by_first : (b : Bool) → p w ≡ b → ((k : ℕ) → position p ws ≡ None → k < length ws → p (get_or ws k d) ≡ false) → (k : ℕ) → k < length (w ∷ ws) →
        p (get_or (w ∷ ws) k d) ≡ false
    by_first true is rest k less = absurd (cc (none, first))
      where
        first : position p (w ∷ ws) ≡ Some 0
        first = rw is (ap (λ t. cond t (Some 0) None) (lt-ltb 0 (suc (length ws)) (omega arith)))
    by_first false is rest zero less = is
    by_first false is rest (suc k) less = rest k (by_order (cases_lt (position_or_len p ws) (length ws))) (omega arith)
      where
        by_order : (position_or_len p ws < length ws) ⊎ (length ws ≤ position_or_len p ws) → position p ws ≡ None
        by_order (inl less) = absurd (cc (none, found))
          where
            found : position p (w ∷ ws) ≡ Some (1 + position_or_len p ws)
            found = rw is (ap (λ t. cond t (Some (1 + position_or_len p ws)) None) (lt-ltb (1 + position_or_len p ws) (suc (length ws)) (omega arith)))
        by_order (inr past) = ap (λ t. cond t (Some (position_or_len p ws)) None) (le-ltb (position_or_len p ws) (length ws) past)

-- two channels have two acknowledges
different_acks : (net : NetValue) → IsNet net → (i j : ℕ) (d : Wires) → i < j → j < length net.channels →
    (get_or net.channels i d).ack ≢ (get_or net.channels j d).ack
different_acks net is i j d less within same =
    let v : Wires = get_or net.channels i d in
    let w : Wires = get_or net.channels j d in
    let one : name_at net v.ack ≡ ack_name v.channel.name = (is.channels i d (omega arith)).ack in
    let two : name_at net w.ack ≡ ack_name w.channel.name = (is.channels j d within).ack in
    is.channels_distinct i j d less within (append_cancel_right v.channel.name w.channel.name (codes ".a") (sym one ∙ ap (name_at net) same ∙ two))

apart_acks : (net : NetValue) → IsNet net → (i j : ℕ) (d : Wires) → i ≢ j → i < length net.channels → j < length net.channels →
    (get_or net.channels i d).ack ≢ (get_or net.channels j d).ack
apart_acks net is i j d apart one two = by_order (cases_lt i j)
  where
    by_order : (i < j) ⊎ (j ≤ i) → (get_or net.channels i d).ack ≢ (get_or net.channels j d).ack
    by_order (inl less) = different_acks net is i j d less two
    by_order (inr past) = λ same. different_acks net is j i d (omega arith) one (sym same)

completes_none : (v : ℕ → Bool) (w : Wires) (n : ℕ) → (n == w.ack) ≡ false → completes v w n ≡ None
completes_none v w n apart = rw apart refl

paired_here : (c : ℕ) (o : Option ℕ) → values_through c (option_to_list (paired c o)) ≡ option_to_list o
paired_here c None = refl
paired_here c (Some value) = rw (eq-eqb c c refl) refl

paired_elsewhere : (c i : ℕ) (o : Option ℕ) → c ≢ i → values_through i (option_to_list (paired c o)) ≡ []
paired_elsewhere c i None apart = refl
paired_elsewhere c i (Some value) apart = rw (ne_eqb c i apart) refl

-- what the move of a node completes on one channel
completed_here : (net : NetValue) → IsNet net → (v : ℕ → Bool) (n : ℕ) → in_reset net.reset v ≡ false → (i : ℕ) (d : Wires) → i < length net.channels →
    values_through i (option_to_list (completion net v n)) ≡ option_to_list (completes v (get_or net.channels i d) n)
completed_here net is v n off i d within = by_channel (channel_acknowledged net.channels n) refl
  where
    by_channel : (o : Option ℕ) → channel_acknowledged net.channels n ≡ o →
        values_through i (option_to_list (completion net v n)) ≡ option_to_list (completes v (get_or net.channels i d) n)
    by_channel None none =
        ap (λ o. values_through i (option_to_list o)) (none_unknown net v n (sym none))
        ∙ sym (ap option_to_list (completes_none v (get_or net.channels i d) n (none_at (λ (w : Wires). n == w.ack) net.channels i d none within)))
    by_channel (Some c) found = by_place (cases_eq c i)
      where
        at : (c < length net.channels) × ((n == (get_or net.channels c d).ack) ≡ true) × ((k : ℕ) → k < c → (n == (get_or net.channels k d).ack) ≡ false)
        at = position-Some (λ (w : Wires). n == w.ack) net.channels c d found

        whole : completion net v n ≡ paired c (completes v (get_or net.channels c d) n)
        whole = sym (completion_is net v n c (get_or net.channels c d) _ off (sym found) (same_default net.channels c d at.0) refl)
          where
            same_default : (ws : List Wires) (k : ℕ) (e : Wires) → k < length ws → get_or ws k e ≡ get_or ws k (get_or ws k e)
            same_default [] k e less = absurd (omega arith)
            same_default (w ∷ ws) zero e less = refl
            same_default (w ∷ ws) (suc k) e less = same_default ws k e (omega arith)

        by_place : (c ≡ i) ⊎ (c ≡ i → ⊥) → values_through i (option_to_list (completion net v n)) ≡ option_to_list (completes v (get_or net.channels i d) n)
        by_place (inl same) =
            subst (λ k. values_through k (option_to_list (completion net v n)) ≡ option_to_list (completes v (get_or net.channels k d) n)) same
            (ap (λ o. values_through c (option_to_list o)) whole ∙ paired_here c _)
        by_place (inr apart) =
            let other : n ≢ (get_or net.channels i d).ack =
            λ e. apart_acks net is c i d apart at.0 within (sym (eqb-true n (get_or net.channels c d).ack at.1) ∙ e) in
            ap (λ o. values_through i (option_to_list o)) whole ∙ paired_elsewhere c i _ apart
            ∙ sym (ap option_to_list (completes_none v (get_or net.channels i d) n (ne_eqb n _ other)))

when_on : (b : Bool) (x y z : List (List ℕ)) → b ≡ true → x ≡ y → x ≡ (if b then y else z)
when_on true x y z on same = same
when_on false x y z on same = absurd (cc on)

when_off : (b : Bool) (x y z : List (List ℕ)) → b ≡ false → x ≡ z → x ≡ (if b then y else z)
when_off true x y z off same = absurd (cc off)
when_off false x y z off same = same

-- a move appends to the list what it appends to the histories
pub histories_more : (net : NetValue) → IsNet net → (values : List Bool) (passed : List (ℕ × ℕ)) (n : ℕ) →
    channel_histories (length net.channels) (passed ++ option_to_list (completion net (high values) n)) ≡
    histories_after net (record { values = values; histories = channel_histories (length net.channels) passed }) n
histories_more net is values passed n = by_reset (in_reset net.reset (high values)) refl
  where
    v : ℕ → Bool
    v = high values

    by_reset : (b : Bool) → in_reset net.reset v ≡ b → channel_histories (length net.channels) (passed ++ option_to_list (completion net v n)) ≡
        (if in_reset net.reset v then channel_histories (length net.channels) passed else with_values v n net.channels
        (channel_histories (length net.channels) passed))
    by_reset true on =
        when_on (in_reset net.reset v) _ _ _ on (ap (λ (o : Option (ℕ × ℕ)). channel_histories (length net.channels) (passed ++ option_to_list o))
        (none_in_reset net v n on) ∙ ap (channel_histories (length net.channels)) (append-nil passed))
    by_reset false off =
        when_off (in_reset net.reset v) _ _ _ off
        (sym (each_grows v n 0 net.channels passed (option_to_list (completion net v n)) (λ i d within. let start : 0 + i ≡ i = omega arith in
        rw start (completed_here net is v n off i d within))))

none_first : (c count : ℕ) → map (λ k. values_through k []) (range_with_len c count) ≡ replicate count []
none_first c zero = refl
none_first c (suc count) = ap (λ (hs : List (List ℕ)). [] ∷ hs) (none_first (c + 1) count)

-- at first nothing has passed
pub histories_none : (count : ℕ) → channel_histories count [] ≡ replicate count []
histories_none count = none_first 0 count

-- the counts of completed values

lengths_of : (g : ℕ → List ℕ) (ks : List ℕ) → map (λ (h : List ℕ). length h) (map g ks) ≡ map (λ k. length (g k)) ks
lengths_of g [] = refl
lengths_of g (k ∷ ks) = ap (λ (ns : List ℕ). length (g k) ∷ ns) (lengths_of g ks)

counts_are : (count : ℕ) (passed : List (ℕ × ℕ)) (counts : List ℕ) → counts ≡ map (λ (h : List ℕ). length h) (channel_histories count passed) →
    counts ≡ map (λ k. length (values_through k passed)) (range_with_len 0 count)
counts_are count passed counts is = is ∙ lengths_of (λ k. values_through k passed) (range_with_len 0 count)

pub counts_whole : (count : ℕ) (passed : List (ℕ × ℕ)) (counts : List ℕ) → counts ≡ map (λ (h : List ℕ). length h) (channel_histories count passed) →
    length counts ≡ count
counts_whole count passed counts is =
    ap length (counts_are count passed counts is) ∙ length-map-range_with_len (λ k. length (values_through k passed)) 0 count

pub counts_themselves : (count : ℕ) (passed : List (ℕ × ℕ)) (counts : List ℕ) → counts ≡ map (λ (h : List ℕ). length h) (channel_histories count passed) →
    counts ≡ map (λ (h : List ℕ). length h) (channel_histories (length counts) passed)
counts_themselves count passed counts is =
    subst (λ k. counts ≡ map (λ (h : List ℕ). length h) (channel_histories k passed)) (sym (counts_whole count passed counts is)) is

count_at : (count : ℕ) (passed : List (ℕ × ℕ)) (counts : List ℕ) (c d : ℕ) → counts ≡ map (λ (h : List ℕ). length h) (channel_histories count passed) →
    c < count → get_or counts c d ≡ length (values_through c passed)
count_at count passed counts c d is within =
    ap (λ (xs : List ℕ). get_or xs c d) (counts_are count passed counts is) ∙ get_or-map-range_with_len (λ k. length (values_through k passed)) 0 count c c d
    within (omega arith)

pub count_few : (count : ℕ) (passed : List (ℕ × ℕ)) (counts : List ℕ) (c d : ℕ) → counts ≡ map (λ (h : List ℕ). length h) (channel_histories count passed) →
    c < count → get_or counts c d ≤ length passed
count_few count passed counts c d is within =
    omega (
      arith,
      count_at count passed counts c d is within,
      length-map (filter (λ (p : ℕ × ℕ). p.0 == c) passed) (λ (p : ℕ × ℕ). p.1),
      length-filter (λ (p : ℕ × ℕ). p.0 == c) passed,
      count_by-le-length (λ (p : ℕ × ℕ). p.0 == c) passed,
    )

values_here : (c value : ℕ) → values_through c ((c, value) ∷ []) ≡ value ∷ []
values_here c value = rw (eq-eqb c c refl) refl

values_elsewhere : (c k value : ℕ) → c ≢ k → values_through k ((c, value) ∷ []) ≡ []
values_elsewhere c k value apart = rw (ne_eqb c k apart) refl

-- one more value
pub count_more : (count : ℕ) (passed : List (ℕ × ℕ)) (counts : List ℕ) (c value now : ℕ) →
    counts ≡ map (λ (h : List ℕ). length h) (channel_histories count passed) → c < count → now ≡ get_or counts c now →
    set counts c (now + 1) ≡ map (λ (h : List ℕ). length h) (channel_histories count (passed ++ (c, value) ∷ []))
count_more count passed counts c value now is within here =
    fill_by_all (λ k. length (values_through k (passed ++ (c, value) ∷ []))) (set counts c (now + 1)) count 0 (length-set counts c (now + 1) ∙ whole) each
    ∙ sym (lengths_of (λ k. values_through k (passed ++ (c, value) ∷ [])) (range_with_len 0 count))
  where
    whole : length counts ≡ count
    whole = counts_whole count passed counts is

    each : (k : ℕ) → k < count → get_or (set counts c (now + 1)) k 0 ≡ length (values_through k (passed ++ (c, value) ∷ []))
    each k less = by_place (cases_eq c k)
      where
        by_place : (c ≡ k) ⊎ (c ≡ k → ⊥) → get_or (set counts c (now + 1)) k 0 ≡ length (values_through k (passed ++ (c, value) ∷ []))
        by_place (inl same) =
            subst (λ j. get_or (set counts c (now + 1)) j 0 ≡ length (values_through j (passed ++ (c, value) ∷ []))) same
            (get_or-set_same counts c (now + 1) 0 (omega (arith, whole)) ∙ ap (λ j. j + 1) (here ∙ count_at count passed counts c now is within)
            ∙ sym (ap length (values_of_both c passed ((c, value) ∷ []) ∙ ap (λ xs. values_through c passed ++ xs) (values_here c value))
            ∙ length_push (values_through c passed) value))
        by_place (inr apart) =
            get_or-set_other counts c k (now + 1) 0 (λ e. apart (sym e)) ∙ count_at count passed counts k 0 is less
            ∙ sym (ap length (values_of_both k passed ((c, value) ∷ []) ∙ ap (λ xs. values_through k passed ++ xs) (values_elsewhere c k value apart)
            ∙ append-nil (values_through k passed)))

all_of_both : (P : ℕ × ℕ → Type 0) (xs : List (ℕ × ℕ)) (o : Option (ℕ × ℕ)) → All P xs → IfSome o P → All P (xs ++ option_to_list o)
all_of_both P xs None all one = subst (λ (ys : List (ℕ × ℕ)). All P ys) (sym (append-nil xs)) all
all_of_both P xs (Some p) all one = All-push P xs p all one

-- each channel is one of the net's
pub passed_within : (count : ℕ) (passed now : List (ℕ × ℕ)) (o : Option (ℕ × ℕ)) → All (λ (p : ℕ × ℕ). p.0 < count) passed →
    IfSome o (λ (p : ℕ × ℕ). p.0 < count) → now ≡ passed ++ option_to_list o → All (λ (p : ℕ × ℕ). p.0 < count) now
passed_within count passed now o all one is =
    subst (λ (ys : List (ℕ × ℕ)). All (λ (p : ℕ × ℕ). p.0 < count) ys) (sym is) (all_of_both (λ (p : ℕ × ℕ). p.0 < count) passed o all one)

counts_none : (count c : ℕ) → map (λ k. length (values_through k [])) (range_with_len c count) ≡ replicate count 0
counts_none zero c = refl
counts_none (suc count) c = ap (λ (ns : List ℕ). 0 ∷ ns) (counts_none count (c + 1))

pub no_counts_are : (count : ℕ) (counts : List ℕ) → counts ≡ replicate count 0 → counts ≡ map (λ (h : List ℕ). length h) (channel_histories count [])
no_counts_are count counts is = is ∙ sym (counts_none count 0) ∙ sym (lengths_of (λ k. values_through k []) (range_with_len 0 count))
