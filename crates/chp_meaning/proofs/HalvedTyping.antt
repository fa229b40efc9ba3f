-- A typed program in halves is typed but for names, no assignment of it reads its own target, and it begins as the program.
use Rattle.std.proofs.Common.{◌≡◌, ◌≢◌, ◌⊎◌, ℕ, zero, suc, ◌+◌, ◌<◌, ◌≤◌, Bool, true, false, List, [], ◌∷◌, ◌++◌, map, length, refl, sym, ap, ◌∙◌, subst, inl, inr, arith}
use Rattle.std.specs.Prelude.{◌||◌, ◌==◌, slice_index, All}
use Rattle.std.proofs.Math.ListN.{get_or-append}
use Rattle.std.proofs.lemmas.List.{length-append, length-map, map-append, append_assoc}
use Rattle.std.proofs.lemmas.List.Elements.{All-nil, All-cons, All-head, All-tail, All-append}
use Rattle.std.proofs.lemmas.Nat.{pow_pos}
use Rattle.std.proofs.lemmas.Bool.Decides.{eqb_tells}
use Rattle.chp_base.specs.declared.span.Span.{Span}
use Rattle.chp_base.specs.declared.channel.Channel.{Channel}
use Rattle.env_script.specs.Scripts.{OfferValue}
use Rattle.width_check.specs.declared.typed.Var.{Var}
use Rattle.width_check.specs.Processes.{Formula, constant, reading, joined, inverted, chained, compared, Formulas, no_parts, and_part, Operations, no_operations, and_operation, Process, skipping, assigning, sending, receiving, in_turn, side_by_side, choosing, repeating, Processes, no_members, and_member, Choices, no_choices, and_choice, TypedProgram, member_count, choice_count}
use Rattle.width_check.specs.Values.{width_of}
use Rattle.width_check.proofs.Bounds.{width_some, width_most}
use Rattle.width_check.specs.Reads.{reads, reads_in_parts, reads_in_operations}
use Rattle.width_check.specs.Typing.{var_width, ReadsFrom, EachReadsFrom, AllReadFrom, IsOfWidth, IsProcess, AreProcesses, AreChoices, IsDeclaredVar, IsTyped}
use Rattle.width_check.specs.Sharing.{MeetsSharing}
use Rattle.chp_meaning.specs.Steps.{start_of}
use Rattle.chp_meaning.specs.Halves.{hidden_var, hidden_of, hidden_vars, hidden_in_each, hidden_in_choices, halved_assign, halved, halved_each, halved_choices, halved_program, ReadsNoTarget, EachReadsNoTarget, ChoicesReadNoTarget, IsSizedVar, IsSized, HalvesFollow, HalvesArePlain}
use Rattle.chp_meaning.proofs.Fitting.{meeting_sound, opened_fits}
use Rattle.chp_meaning.proofs.Alike.{like_opened}
use Rattle.chp_meaning.proofs.Halves.{Near, abreast, follow_run}
use Rattle.chp_meaning.proofs.HalvedPrograms.{like_halved, halved_meets}

-- an undeclared variable isn't read

unequal : (a b n : ℕ) → a < n → n ≤ b → (a == b) ≡ false
unequal a b n l g = by_test (eqb_tells a b)
  where
    by_test : (((a == b) ≡ true) × (a ≡ b)) ⊎ (((a == b) ≡ false) × (a ≢ b)) → (a == b) ≡ false
    by_test (inl h) = absurd (omega (arith, l, g, h.1))
    by_test (inr h) = h.0

neither : (a b : Bool) → a ≡ false → b ≡ false → (a || b) ≡ false
neither a b e f = ap (λ x. x || b) e ∙ f

mutual
  pub unread : (vars : List Var) (n : ℕ) (e : Formula) → ReadsFrom vars e → length vars ≤ n → reads n e ≡ false
  unread vars n (constant w v) f le = refl
  unread vars n (reading var high low at) f le = unequal var n (length vars) f.0 le
  unread vars n (joined parts) f le = parts_unread vars n parts f le
  unread vars n (inverted e) f le = unread vars n e f le
  unread vars n (chained e more) f le = neither (reads n e) (reads_in_operations n more) (unread vars n e f.0 le) (operations_unread vars n more f.1 le)
  unread vars n (compared op e d) f le = neither (reads n e) (reads n d) (unread vars n e f.0 le) (unread vars n d f.1 le)

  parts_unread : (vars : List Var) (n : ℕ) (parts : Formulas) → EachReadsFrom vars parts → length vars ≤ n → reads_in_parts n parts ≡ false
  parts_unread vars n no_parts f le = refl
  parts_unread vars n (and_part e more) f le = neither (reads n e) (reads_in_parts n more) (unread vars n e f.0 le) (parts_unread vars n more f.1 le)

  operations_unread : (vars : List Var) (n : ℕ) (more : Operations) → AllReadFrom vars more → length vars ≤ n → reads_in_operations n more ≡ false
  operations_unread vars n no_operations f le = refl
  operations_unread vars n (and_operation op e more) f le =
      neither (reads n e) (reads_in_operations n more) (unread vars n e f.0 le) (operations_unread vars n more f.1 le)

-- so no assignment in halves reads its own target

assign_plain : (vars : List Var) (n x : ℕ) (at : Span) (e : Formula) (b : Bool) → reads x e ≡ b → ReadsFrom vars e → x < length vars → length vars ≤ n →
    ReadsNoTarget (halved_assign b n x at e)
assign_plain vars n x at e false none f below le = none
assign_plain vars n x at e true some f below le = (unread vars n e f le, (apart (eqb_tells n x), tt))
  where
    apart : (((n == x) ≡ true) × (n ≡ x)) ⊎ (((n == x) ≡ false) × (n ≢ x)) → (n == x) ≡ false
    apart (inl h) = absurd (omega (arith, below, le, h.1))
    apart (inr h) = h.0

mutual
  halved_plain : (channels : List Channel) (vars : List Var) (n : ℕ) (p : Process) → IsProcess channels vars p → length vars ≤ n → ReadsNoTarget (halved n p)
  halved_plain channels vars n skipping typed le = tt
  halved_plain channels vars n (assigning x at e) typed le = assign_plain vars n x at e (reads x e) refl typed.1.reads typed.0 le
  halved_plain channels vars n (sending k at e) typed le = tt
  halved_plain channels vars n (receiving k s x t) typed le = tt
  halved_plain channels vars n (in_turn members) typed le = each_plain channels vars n members typed.1 le
  halved_plain channels vars n (side_by_side members) typed le = each_plain channels vars n members typed.1 le
  halved_plain channels vars n (choosing again choices) typed le = choices_plain channels vars n choices typed.2 le
  halved_plain channels vars n (repeating p) typed le = halved_plain channels vars n p typed le

  each_plain : (channels : List Channel) (vars : List Var) (n : ℕ) (members : Processes) → AreProcesses channels vars members → length vars ≤ n →
      EachReadsNoTarget (halved_each n members)
  each_plain channels vars n no_members typed le = tt
  each_plain channels vars n (and_member p more) typed le =
      (halved_plain channels vars n p typed.0 le, each_plain channels vars (n + length (hidden_vars p)) more typed.1 (omega arith))

  choices_plain : (channels : List Channel) (vars : List Var) (n : ℕ) (choices : Choices) → AreChoices channels vars choices → length vars ≤ n →
      ChoicesReadNoTarget (halved_choices n choices)
  choices_plain channels vars n no_choices typed le = tt
  choices_plain channels vars n (and_choice g p more) typed le =
      (halved_plain channels vars n p typed.1 le, choices_plain channels vars (n + length (hidden_vars p)) more typed.2 (omega arith))

-- more variables

-- these stand from a number on
abbrev Placed : List Var → ℕ → List Var → Type 0
Placed all n [] = Unit {0}
Placed all n (v ∷ vs) = (n < length all) × (var_width all n ≡ v.width) × Placed all (suc n) vs

placed_from : (all : List Var) (m n : ℕ) (vs : List Var) → m ≡ n → Placed all m vs → Placed all n vs
placed_from all m n vs e h = subst (λ k. Placed all k vs) e h

placed_left : (all : List Var) (n : ℕ) (xs ys : List Var) → Placed all n (xs ++ ys) → Placed all n xs
placed_left all n [] ys h = tt
placed_left all n (x ∷ xs) ys h = (h.0, h.1, placed_left all (suc n) xs ys h.2)

placed_right : (all : List Var) (n : ℕ) (xs ys : List Var) → Placed all n (xs ++ ys) → Placed all (n + length xs) ys
placed_right all n [] ys h = placed_from all n (n + 0) ys (omega arith) h
placed_right all n (x ∷ xs) ys h = placed_from all (suc n + length xs) (n + suc (length xs)) ys (omega arith) (placed_right all (suc n) xs ys h.2)

width_after : (vars vs : List Var) (k : ℕ) → var_width (vars ++ vs) (length vars + k) ≡ var_width vs k
width_after [] vs k = let e : 0 + k ≡ k = omega arith in ap (λ n. var_width vs n) e
width_after (v ∷ vars) vs k =
    let e : suc (length vars) + k ≡ suc (length vars + k) = omega arith in
    ap (λ n. var_width (v ∷ (vars ++ vs)) n) e ∙ width_after vars vs k

placed_on : (vars seen vs : List Var) → Placed (vars ++ (seen ++ vs)) (length vars + length seen) vs
placed_on vars seen [] = tt
placed_on vars seen (v ∷ vs) =
    let l = length-append vars (seen ++ v ∷ vs) in
    let m = length-append seen (v ∷ vs) in
    let here : var_width (seen ++ v ∷ vs) (length seen + 0) ≡ v.width = width_after seen (v ∷ vs) 0 in
    let zero_more : length seen + 0 ≡ length seen = omega arith in
    let at_seen : var_width (seen ++ v ∷ vs) (length seen) ≡ v.width = ap (λ k. var_width (seen ++ v ∷ vs) k) (sym zero_more) ∙ here in
    let shifted : seen ++ (v ∷ vs) ≡ (seen ++ v ∷ []) ++ vs = sym (append_assoc seen (v ∷ []) vs) in
    let one_more = length-append seen (v ∷ []) in
    let number : length vars + length (seen ++ v ∷ []) ≡ suc (length vars + length seen) = omega arith in (
      omega arith,
      width_after vars (seen ++ v ∷ vs) (length seen) ∙ at_seen,
      subst (λ xs. Placed (vars ++ xs) (suc (length vars + length seen)) vs) (sym shifted)
          (placed_from (vars ++ ((seen ++ v ∷ []) ++ vs)) (length vars + length (seen ++ v ∷ [])) (suc (length vars + length seen)) vs number
          (placed_on vars (seen ++ v ∷ []) vs)),
    )

placed_behind : (vars vs : List Var) → Placed (vars ++ vs) (length vars) vs
placed_behind vars vs = let e : length vars + 0 ≡ length vars = omega arith in
    placed_from (vars ++ vs) (length vars + 0) (length vars) vs e (placed_on vars [] vs)

width_before : (vars vs : List Var) (x : ℕ) → x < length vars → var_width (vars ++ vs) x ≡ var_width vars x
width_before [] vs x l = absurd (omega (arith, l))
width_before (v ∷ vars) vs zero l = refl
width_before (v ∷ vars) vs (suc x) l = width_before vars vs x (omega (arith, l))

declared_still : (vars vs : List Var) (x : ℕ) → x < length vars → x < length (vars ++ vs)
declared_still vars vs x l = let e = length-append vars vs in omega arith

mutual
  reads_still : (vars vs : List Var) (e : Formula) → ReadsFrom vars e → ReadsFrom (vars ++ vs) e
  reads_still vars vs (constant w v) f = tt
  reads_still vars vs (reading var high low at) f = (declared_still vars vs var f.0, subst (λ n. high < n) (sym (width_before vars vs var f.0)) f.1)
  reads_still vars vs (joined parts) f = parts_still vars vs parts f
  reads_still vars vs (inverted e) f = reads_still vars vs e f
  reads_still vars vs (chained e more) f = (reads_still vars vs e f.0, operations_still vars vs more f.1)
  reads_still vars vs (compared op e d) f = (reads_still vars vs e f.0, reads_still vars vs d f.1)

  parts_still : (vars vs : List Var) (parts : Formulas) → EachReadsFrom vars parts → EachReadsFrom (vars ++ vs) parts
  parts_still vars vs no_parts f = tt
  parts_still vars vs (and_part e more) f = (reads_still vars vs e f.0, parts_still vars vs more f.1)

  operations_still : (vars vs : List Var) (more : Operations) → AllReadFrom vars more → AllReadFrom (vars ++ vs) more
  operations_still vars vs no_operations f = tt
  operations_still vars vs (and_operation op e more) f = (reads_still vars vs e f.0, operations_still vars vs more f.1)

width_still : (vars vs : List Var) (w : ℕ) (e : Formula) → IsOfWidth vars w e → IsOfWidth (vars ++ vs) w e
width_still vars vs w e h = record { formed = h.formed; reads = reads_still vars vs e h.reads; agrees = h.agrees }

assign_typed : (channels : List Channel) (vars vs : List Var) (n x : ℕ) (at : Span) (e : Formula) (b : Bool) → x < length vars →
    IsOfWidth vars (var_width vars x) e → Placed (vars ++ vs) n (hidden_of b e) → IsProcess channels (vars ++ vs) (halved_assign b n x at e)
assign_typed channels vars vs n x at e false below typed placed = (
  declared_still vars vs x below,
  subst (λ w. IsOfWidth (vars ++ vs) w e) (sym (width_before vars vs x below))
      (width_still vars vs (var_width vars x) e typed),
)
assign_typed channels vars vs n x at e true below typed placed =
    let some = width_some e typed.formed in
    let most = width_most e typed.formed in
    let wide : var_width (vars ++ vs) n ≡ width_of e = placed.1 in
    let same = width_before vars vs x below in
    let agrees = typed.agrees in (
      omega arith,
      (
        (placed.0, record { formed = typed.formed; reads = reads_still vars vs e typed.reads; agrees = sym wide }),
        ((declared_still vars vs x below, record { formed = (omega arith, omega arith); reads = (placed.0, omega arith); agrees = omega arith }), tt),
      ),
    )

each_count : (n : ℕ) (members : Processes) → member_count (halved_each n members) ≡ member_count members
each_count n no_members = refl
each_count n (and_member p more) = ap suc (each_count (n + length (hidden_vars p)) more)

choices_count : (n : ℕ) (choices : Choices) → choice_count (halved_choices n choices) ≡ choice_count choices
choices_count n no_choices = refl
choices_count n (and_choice g p more) = ap suc (choices_count (n + length (hidden_vars p)) more)

mutual
  halved_typed : (channels : List Channel) (vars vs : List Var) (n : ℕ) (p : Process) → IsProcess channels vars p → Placed (vars ++ vs) n (hidden_vars p) →
      IsProcess channels (vars ++ vs) (halved n p)
  halved_typed channels vars vs n skipping typed placed = tt
  halved_typed channels vars vs n (assigning x at e) typed placed = assign_typed channels vars vs n x at e (reads x e) typed.0 typed.1 placed
  halved_typed channels vars vs n (sending k at e) typed placed =
      record { within = typed.within; direction = typed.direction; sent = width_still vars vs _ e typed.sent }
  halved_typed channels vars vs n (receiving k s x t) typed placed =
      record {
        within = typed.within;
        direction = typed.direction;
        target = declared_still vars vs x typed.target;
        widths =
            width_before vars vs x typed.target ∙ typed.widths;
      }
  halved_typed channels vars vs n (in_turn members) typed placed =
      (let e = each_count n members in let two = typed.0 in omega arith, each_typed channels vars vs n members typed.1 placed)
  halved_typed channels vars vs n (side_by_side members) typed placed =
      (let e = each_count n members in let two = typed.0 in omega arith, each_typed channels vars vs n members typed.1 placed)
  halved_typed channels vars vs n (choosing again choices) typed placed =
      let e = choices_count n choices in
      let some = typed.0 in
      let most = typed.1 in
      (omega arith, omega arith, choices_typed channels vars vs n choices typed.2 placed)
  halved_typed channels vars vs n (repeating p) typed placed = halved_typed channels vars vs n p typed placed

  each_typed : (channels : List Channel) (vars vs : List Var) (n : ℕ) (members : Processes) → AreProcesses channels vars members →
      Placed (vars ++ vs) n (hidden_in_each members) → AreProcesses channels (vars ++ vs) (halved_each n members)
  each_typed channels vars vs n no_members typed placed = tt
  each_typed channels vars vs n (and_member p more) typed placed = (
    halved_typed channels vars vs n p typed.0 (placed_left (vars ++ vs) n (hidden_vars p) (hidden_in_each more) placed),
    each_typed channels vars vs (n + length (hidden_vars p)) more typed.1 (placed_right (vars ++ vs) n (hidden_vars p) (hidden_in_each more) placed),
  )

  choices_typed : (channels : List Channel) (vars vs : List Var) (n : ℕ) (choices : Choices) → AreChoices channels vars choices →
      Placed (vars ++ vs) n (hidden_in_choices choices) → AreChoices channels (vars ++ vs) (halved_choices n choices)
  choices_typed channels vars vs n no_choices typed placed = tt
  choices_typed channels vars vs n (and_choice g p more) typed placed = (
    width_still vars vs 1 g typed.0,
    halved_typed channels vars vs n p typed.1 (placed_left (vars ++ vs) n (hidden_vars p) (hidden_in_choices more) placed),
    choices_typed channels vars vs (n + length (hidden_vars p)) more typed.2 (placed_right (vars ++ vs) n (hidden_vars p) (hidden_in_choices more) placed),
  )

-- the variables' widths and first values

hidden_sized : (vars : List Var) (w : ℕ) (e : Formula) (b : Bool) → IsOfWidth vars w e → All IsSizedVar (hidden_of b e)
hidden_sized vars w e false typed = All-nil IsSizedVar
hidden_sized vars w e true typed =
    All-cons IsSizedVar (hidden_var e) [] (record { some = width_some e typed.formed; most = width_most e typed.formed; first = pow_pos (width_of e) })
    (All-nil IsSizedVar)

mutual
  each_sized : (channels : List Channel) (vars : List Var) (p : Process) → IsProcess channels vars p → All IsSizedVar (hidden_vars p)
  each_sized channels vars skipping typed = All-nil IsSizedVar
  each_sized channels vars (assigning x at e) typed = hidden_sized vars _ e (reads x e) typed.1
  each_sized channels vars (sending k at e) typed = All-nil IsSizedVar
  each_sized channels vars (receiving k s x t) typed = All-nil IsSizedVar
  each_sized channels vars (in_turn members) typed = members_sized channels vars members typed.1
  each_sized channels vars (side_by_side members) typed = members_sized channels vars members typed.1
  each_sized channels vars (choosing again choices) typed = choices_sized channels vars choices typed.2
  each_sized channels vars (repeating p) typed = each_sized channels vars p typed

  members_sized : (channels : List Channel) (vars : List Var) (members : Processes) → AreProcesses channels vars members →
      All IsSizedVar (hidden_in_each members)
  members_sized channels vars no_members typed = All-nil IsSizedVar
  members_sized channels vars (and_member p more) typed =
      All-append IsSizedVar (hidden_vars p) (hidden_in_each more) (each_sized channels vars p typed.0) (members_sized channels vars more typed.1)

  choices_sized : (channels : List Channel) (vars : List Var) (choices : Choices) → AreChoices channels vars choices →
      All IsSizedVar (hidden_in_choices choices)
  choices_sized channels vars no_choices typed = All-nil IsSizedVar
  choices_sized channels vars (and_choice g p more) typed =
      All-append IsSizedVar (hidden_vars p) (hidden_in_choices more) (each_sized channels vars p typed.1) (choices_sized channels vars more typed.2)

declared_sized : (vars : List Var) → All IsDeclaredVar vars → All IsSizedVar vars
declared_sized [] h = All-nil IsSizedVar
declared_sized (v ∷ vs) h =
    let d = All-head IsDeclaredVar v vs h in
    All-cons IsSizedVar v vs (record { some = d.some; most = d.most; first = d.first }) (declared_sized vs (All-tail IsDeclaredVar v vs h))

pub typed_sized : (channels : List Channel) (vars : List Var) (body : Process) → IsTyped channels vars body → IsSized channels vars body
typed_sized channels vars body typed = record { each_channel = typed.each_channel; each_var = declared_sized vars typed.each_var; body_is = typed.body_is }

pub halves_plain : HalvesArePlain
halves_plain p typed meets = record {
  sized = record {
    each_channel = typed.each_channel;
    each_var = All-append IsSizedVar p.vars (hidden_vars p.body) (declared_sized p.vars typed.each_var) (each_sized p.channels p.vars p.body typed.body_is);
    body_is = halved_typed p.channels p.vars (hidden_vars p.body) (length p.vars) p.body typed.body_is (placed_behind p.vars (hidden_vars p.body));
  };
  unshared = halved_meets p.channels p.vars p.body typed.body_is meets;
  plain = halved_plain p.channels p.vars (length p.vars) p.body typed.body_is (omega arith);
}

-- the runs

abbrev first_values : List Var → List ℕ
first_values vars = map (λ (v : Var). v.first) vars

pub start_near : (p : TypedProgram) (script : List OfferValue) → IsTyped p.channels p.vars p.body → MeetsSharing p.body →
    Near (length p.vars) (length (p.vars ++ hidden_vars p.body)) (start_of p script) (start_of (halved_program p) script)
start_near p script typed meets =
    let l = length-append p.vars (hidden_vars p.body) in
    record {
      alike = like_opened (like_halved p.channels p.vars (length (p.vars ++ hidden_vars p.body)) (length p.vars) p.body typed.body_is (omega arith)
          (omega arith));
      stores = λ x below.
          let e = length-map p.vars (λ (v : Var). v.first) in
          let first : slice_index (first_values p.vars ++ first_values (hidden_vars p.body)) x ≡ slice_index (first_values p.vars) x =
          get_or-append (first_values p.vars) (first_values (hidden_vars p.body)) 0 x (omega arith) in
          sym (ap (λ s. slice_index s x) (map-append (λ (v : Var). v.first) p.vars (hidden_vars p.body)) ∙ first);
      old_length = length-map p.vars (λ (v : Var). v.first);
      new_length = length-map (p.vars ++ hidden_vars p.body) (λ (v : Var). v.first);
      more = omega arith;
      rests = refl;
      histories = refl;
      fits = opened_fits p.body (meeting_sound p.body meets);
      new_fits = opened_fits (halved (length p.vars) p.body)
          (meeting_sound (halved (length p.vars) p.body) (halved_meets p.channels p.vars p.body typed.body_is meets));
    }

pub halves_follow : HalvesFollow
halves_follow p script typed meets m d l =
    let N = length p.vars in
    let M = length (p.vars ++ hidden_vars p.body) in
    let r = follow_run N M (start_of p script) (start_near p script typed meets) l in
    (r.0, r.1, r.2, r.3, abreast N M r.0 d r.4)
