-- Groups: a member, and then any number of members, each behind a separator; and what follows the first member, alone.
use Rattle.std.proofs.Common.{◌≡◌, List, [], ◌∷◌, ◌++◌, Option, Result, Ok, Err, IfOk, IsOkAnd, refl, sym, ap, ◌∙◌, subst}
use Rattle.chp_syntax.specs.declared.token.Token.{Token}
use Rattle.chp_syntax.specs.declared.parser.sight.Stop.{Stop}
use Rattle.chp_syntax.specs.Parts.{GrammarPart, sees, Anything, Good, Bad}
use Rattle.chp_syntax.specs.View.{onto}
use Rattle.chp_syntax.proofs.Steps.{SoFar, Ends, Seam, Then, and_then, then_parts, Done, all_done, done_parts, start, instead, by_part, part_bad, good_here, good_done, any_seam, last_seam, ends_then}

pub onto_end : {B U : Type 0} (more : B → U → U) (bs : List B) (b : B) (us : U) → onto more (bs ++ (b ∷ [])) us ≡ onto more bs (more b us)
onto_end more [] b us = refl
onto_end more (x ∷ bs) b us = ap (λ vs. more x vs) (onto_end more bs b us)

-- what further members are
pub data Further {B U O I : Type 0} (R : List Token → List Token → B → Type 0) (M : List Token → List Token → U → Type 0) (S : List Token → List Token → O →
    Type 0) (item : O → B → I) (none : U) (more : I → U → U) : List Token → List Token → U → Type 0 where
  no_further : {rest : List Token} → Further R M S item none more rest rest none
  a_further : {l x mid rest : List Token} {o : O} {b : B} {us : U} → S l x o → R x mid b → M mid rest us →
      Further R M S item none more l rest (more (item o b) us)

-- W is R, and then M, which is any number of R behind S; H says that an S stands here
pub record Grouping : Type 1 where
  pub A : Type 0
  pub B : Type 0
  pub U : Type 0
  pub O : Type 0
  pub I : Type 0
  pub W : List Token → List Token → A → Type 0
  pub F : Option Token → Type 0
  pub R : List Token → List Token → B → Type 0
  pub G : Option Token → Type 0
  pub M : List Token → List Token → U → Type 0
  pub S : List Token → List Token → O → Type 0
  pub H : Option Token → Type 0
  pub item : O → B → I
  pub none : U
  pub more : I → U → U
  pub build : B → U → A
  pub w_in : (l mid rest : List Token) (b : B) (us : U) → R l mid b → M mid rest us → W l rest (build b us)
  pub w_out : (l rest : List Token) (a : A) → W l rest a → (mid : List Token) × (b : B) × (us : U) × R l mid b × M mid rest us × (a ≡ build b us)
  pub m_none : (l : List Token) → M l l none
  pub m_more : (l x mid rest : List Token) (o : O) (b : B) (us : U) → S l x o → R x mid b → M mid rest us → M l rest (more (item o b) us)
  pub m_out : (l rest : List Token) (us : U) → M l rest us → Further R M S item none more l rest us
  pub seen : (l rest : List Token) (o : O) → S l rest o → H (sees l)
  pub marked : (t : Option Token) → H t → G t
  pub apart : (t : Option Token) → H t → F t → ⊥
  pub weaker : (t : Option Token) → F t → G t
  pub ends : Ends R
  pub ends_sign : Ends S

module _ (g : Grouping) where
  -- what is to come after some members, of which all together are `build` of those after the first
  abbrev pub Rest : {A : Type 0} → (g.U → A) → List g.I → GrammarPart A
  Rest build got l rest a = (us : g.U) × g.M l rest us × (a ≡ build (onto g.more got us))

  further_stops : (l rest : List Token) (us : g.U) → Further g.R g.M g.S g.item g.none g.more l rest us → g.F (sees rest) → g.G (sees l)
  further_stops l rest us no_further f = g.weaker (sees l) f
  further_stops l rest us (a_further {x = x} {o = o} s r n) f = g.marked (sees l) (g.seen l x o s)

  rest_stops : {A : Type 0} (build : g.U → A) (got : List g.I) (l rest : List Token) (a : A) → g.F (sees rest) → Rest build got l rest a → g.G (sees l)
  rest_stops build got l rest a f q = further_stops l rest q.0 (g.m_out l rest q.0 q.1) f

  rest_ends : {A : Type 0} (build : g.U → A) (got : List g.I) → Ends (Rest build got)
  rest_ends build got = ([], build (onto g.more got g.none), λ rest. (g.none, g.m_none rest, refl))

  first_seam : Seam g.R g.G g.F (λ b. Rest (g.build b) [])
  first_seam = record { stops = λ b l rest a f q. rest_stops (g.build b) [] l rest a f q; ends = λ b. rest_ends (g.build b) [] }

  next_seam : {A : Type 0} (build : g.U → A) (got : List g.I) (o : g.O) → Seam g.R g.G g.F (λ n. Rest build (got ++ (g.item o n ∷ [])))
  next_seam build got o = record {
    stops = λ n l rest a f q. rest_stops build (got ++ (g.item o n ∷ [])) l rest a f q;
    ends = λ n. rest_ends build (got ++ (g.item o n ∷ []));
  }

  group_in : (l rest : List Token) (a : g.A) → Then g.R (λ b. Rest (g.build b) []) l rest a → g.W l rest a
  group_in l rest a q =
      let p = then_parts q in
      subst (λ (c : g.A). g.W l rest c) (sym p.3.2) (g.w_in l p.0 rest p.1 p.3.0 p.2 p.3.1)

  group_out : (l rest : List Token) (a : g.A) → g.W l rest a → Then g.R (λ b. Rest (g.build b) []) l rest a
  group_out l rest a w = let o = g.w_out l rest a w in and_then o.3 (o.2, o.4, o.5)

  group_start : (xs : List Token) → SoFar g.W g.F xs xs (Then g.R (λ b. Rest (g.build b) []))
  group_start xs = instead (Then g.R (λ b. Rest (g.build b) [])) (start g.W g.F xs) group_in (λ l rest a s f w. group_out l rest a w)

  pub group_ends : Ends g.W
  group_ends = (g.ends.0, g.build g.ends.1 g.none, λ rest. g.w_in (g.ends.0 ++ rest) rest rest g.ends.1 g.none (g.ends.2 rest) (g.m_none rest))

  pub group_bad_first : {xs left : List Token} → Bad g.R g.G xs left → Bad g.W g.F xs left
  group_bad_first {xs} bad = part_bad first_seam (group_start xs) bad

  -- what holds at each round of a loop
  pub record SoMany {A : Type 0} (W : List Token → List Token → A → Type 0) (build : g.U → A) (xs left : List Token) (got : List g.I) : Type 0 where
    pub so : SoFar W g.F xs left (Rest build got)

  pub group_first : {xs left : List Token} {b : g.B} → Good g.R g.G xs left b → SoMany g.W (g.build b) xs left []
  group_first {xs} good = record { so = by_part first_seam (group_start xs) good }

  pub links_first : (xs : List Token) → SoMany g.M (λ us. us) xs xs []
  links_first xs = record {
    so = instead (Rest (λ us. us) []) (start g.M g.F xs) (λ l rest a q. subst (λ (us : g.U). g.M l rest us) (sym q.2) q.1) (λ l rest a s f m. (a, m, refl));
  }

  abbrev More : {A : Type 0} → (g.U → A) → List g.I → GrammarPart A
  More build got = Then g.S (λ o. Then g.R (λ n. Rest build (got ++ (g.item o n ∷ []))))

  more_out : {A : Type 0} (build : g.U → A) (got : List g.I) (l rest : List Token) (a : A) (us : g.U) →
      Further g.R g.M g.S g.item g.none g.more l rest us → a ≡ build (onto g.more got us) → g.H (sees l) → g.F (sees rest) → More build got l rest a
  more_out build got l rest a us no_further e k f = absurd (g.apart (sees l) k f)
  more_out build got l rest a us (a_further {o = o} {b = n} {us = vs} s r q) e k f =
      and_then s (and_then r (vs, q, e ∙ ap build (sym (onto_end g.more got (g.item o n) vs))))

  more_in : {A : Type 0} (build : g.U → A) (got : List g.I) (l rest : List Token) (a : A) → More build got l rest a → Rest build got l rest a
  more_in build got l rest a q =
      let p = then_parts q in
      let r = then_parts p.3 in (
        g.more (g.item p.1 r.1) r.3.0,
        g.m_more l p.0 r.0 rest p.1 r.1 r.3.0 p.2 r.2 r.3.1,
        r.3.2 ∙ ap build (onto_end g.more got (g.item p.1 r.1) r.3.0),
      )

  sign_seen : {left mid : List Token} {o : g.O} → Good g.S Anything left mid o → g.H (sees left)
  sign_seen {left} {mid} {o} good = subst (λ (l : List Token). g.H (sees l)) (sym good.is) (g.seen (good.done ++ mid) mid o (good.derives mid))

  group_sign : {A : Type 0} {W : GrammarPart A} {build : g.U → A} {xs left mid : List Token} {got : List g.I} {o : g.O} → SoMany W build xs left got →
      Good g.S Anything left mid o → SoFar W g.F xs mid (Then g.R (λ n. Rest build (got ++ (g.item o n ∷ []))))
  group_sign {A} {W} {build} {xs} {left} {mid} {got} {o} s sign =
      by_part (any_seam (λ o. ends_then g.ends (λ n. rest_ends build (got ++ (g.item o n ∷ [])))))
      (instead (More build got) s.so (more_in build got)
      (λ l rest a e f q. more_out build got l rest a q.0 (g.m_out l rest q.0 q.1) q.2 (subst (λ (t : Option Token). g.H t) (sym e) (sign_seen sign)) f)) sign

  pub group_bad : {A : Type 0} {W : GrammarPart A} {build : g.U → A} {xs left mid to : List Token} {got : List g.I} {o : g.O} → SoMany W build xs left got →
      Good g.S Anything left mid o → Bad g.R g.G mid to → Bad W g.F xs to
  group_bad {build = build} {got = got} {o = o} s sign bad = part_bad (next_seam build got o) (group_sign s sign) bad

  pub group_more : {A : Type 0} {W : GrammarPart A} {build : g.U → A} {xs left mid to : List Token} {n : g.B} {got : List g.I} {o : g.O} →
      SoMany W build xs left got → Good g.S Anything left mid o → Good g.R g.G mid to n → SoMany W build xs to (got ++ (g.item o n ∷ []))
  group_more {build = build} {got = got} {o = o} s sign good = record { so = by_part (next_seam build got o) (group_sign s sign) good }

  end_only : {A : Type 0} (build : g.U → A) (got : List g.I) (a : A) (l rest : List Token) (us : g.U) →
      Further g.R g.M g.S g.item g.none g.more l rest us → a ≡ build (onto g.more got us) → (g.H (sees l) → ⊥) →
      (rest ≡ l) × (a ≡ build (onto g.more got g.none))
  end_only build got a l rest us no_further e k = (refl, e)
  end_only build got a l rest us (a_further {x = x} {o = o} s r q) e k = absurd (k (g.seen l x o s))

  pub group_end : {A : Type 0} {W : GrammarPart A} {build : g.U → A} {xs left : List Token} {got : List g.I} → SoMany W build xs left got →
      (g.H (sees left) → ⊥) → Good W g.F xs left (build (onto g.more got g.none))
  group_end {A} {W} {build} {xs} {left} {got} s k =
      good_here (build (onto g.more got g.none)) s.so
      (λ l. (g.none, g.m_none l, refl))
      (λ l rest c e f q. end_only build got c l rest q.0 (g.m_out l rest q.0 q.1) q.2 (λ i. k (subst (λ (t : Option Token). g.H t) e i)))

  -- the first member, and then the others as one part
  abbrev Whole : g.B → GrammarPart g.A
  Whole b = Then g.M (λ us. Done (g.build b us))

  whole_in : (l rest : List Token) (a : g.A) → Then g.R Whole l rest a → g.W l rest a
  whole_in l rest a q =
      let p = then_parts q in
      let r = then_parts p.3 in
      let d = done_parts r.3 in
      subst (λ (c : g.A). g.W l rest c) (sym d.1)
      (subst (λ (x : List Token). g.W l x (g.build p.1 r.1)) (sym d.0) (g.w_in l p.0 r.0 p.1 r.1 p.2 r.2))

  whole_out : (l rest : List Token) (a : g.A) → g.W l rest a → Then g.R Whole l rest a
  whole_out l rest a w =
      let o = g.w_out l rest a w in
      and_then o.3 (and_then o.4 (subst (λ (c : g.A). Done (g.build o.1 o.2) rest rest c) (sym o.5) all_done))

  whole_start : (xs : List Token) → SoFar g.W g.F xs xs (Then g.R Whole)
  whole_start xs = instead (Then g.R Whole) (start g.W g.F xs) whole_in (λ l rest a s f w. whole_out l rest a w)

  whole_stops : (b : g.B) (l rest : List Token) (a : g.A) → g.F (sees rest) → Whole b l rest a → g.G (sees l)
  whole_stops b l rest a f q =
      let p = then_parts q in
      further_stops l p.0 p.1 (g.m_out l p.0 p.1 p.2) (subst (λ (x : List Token). g.F (sees x)) (done_parts p.3).0 f)

  whole_seam : Seam g.R g.G g.F Whole
  whole_seam = record { stops = whole_stops; ends = λ b. ([], g.build b g.none, λ rest. and_then (g.m_none rest) all_done) }

  pub whole_bad_first : {xs left : List Token} → Bad g.R g.G xs left → Bad g.W g.F xs left
  whole_bad_first {xs} bad = part_bad whole_seam (whole_start xs) bad

  pub whole_bad : {xs mid left : List Token} {b : g.B} → Good g.R g.G xs mid b → Bad g.M g.F mid left → Bad g.W g.F xs left
  whole_bad {xs} {b = b} first bad = part_bad (last_seam (λ us. g.build b us)) (by_part whole_seam (whole_start xs) first) bad

  pub whole_good : {xs mid left : List Token} {b : g.B} {us : g.U} → Good g.R g.G xs mid b → Good g.M g.F mid left us → Good g.W g.F xs left (g.build b us)
  whole_good {xs} {b = b} first good = good_done (by_part (last_seam (λ us. g.build b us)) (by_part whole_seam (whole_start xs) first) good)

  -- the same over the list of all members
  pub record Members (first : g.B → g.I) (xs left : List Token) (items : List g.I) : Type 0 where
    pub b : g.B
    pub got : List g.I
    pub so : SoMany g.W (g.build b) xs left got
    pub same : first b ∷ got ≡ items

  pub members_first : {xs left : List Token} {b : g.B} (first : g.B → g.I) → Good g.R g.G xs left b → Members first xs left (first b ∷ [])
  members_first {b = b} first good = record { b = b; got = []; so = group_first good; same = refl }

  pub members_more : {first : g.B → g.I} {xs left mid to : List Token} {items : List g.I} {o : g.O} {n : g.B} → Members first xs left items →
      Good g.S Anything left mid o → Good g.R g.G mid to n → Members first xs to (items ++ (g.item o n ∷ []))
  members_more {o = o} {n = n} m sign good = record {
    b = m.b;
    got = m.got ++ (g.item o n ∷ []);
    so = group_more m.so sign good;
    same = ap (λ (is : List g.I). is ++ (g.item o n ∷ [])) m.same;
  }

  pub members_bad : {first : g.B → g.I} {xs left mid to : List Token} {items : List g.I} {o : g.O} → Members first xs left items →
      Good g.S Anything left mid o → Bad g.R g.G mid to → Bad g.W g.F xs to
  members_bad m sign bad = group_bad m.so sign bad

  pub members_end : {first : g.B → g.I} {xs left : List Token} {items : List g.I} (a : g.A) → Members first xs left items → (g.H (sees left) → ⊥) →
      ((b : g.B) (got : List g.I) → first b ∷ got ≡ items → a ≡ g.build b (onto g.more got g.none)) → Good g.W g.F xs left a
  members_end {xs = xs} {left = left} a m k is = subst (λ (c : g.A). Good g.W g.F xs left c) (sym (is m.b m.got m.same)) (group_end m.so k)

  -- the same where a member is added as it was read
  pub members_begun : {T : Type 0} {xs left : List Token} {olds items : List g.I} (first : g.B → g.I) (view : T → g.B) (part : Result T Stop) → olds ≡ [] →
      IsOkAnd part (λ x. items ≡ olds ++ (first (view x) ∷ [])) → IfOk part (λ x. Good g.R g.G xs left (view x)) → Members first xs left items
  members_begun {xs = xs} {left = left} first view (Ok x) none e good =
      subst (λ (is : List g.I). Members first xs left is) (sym (e ∙ ap (λ (is : List g.I). is ++ (first (view x) ∷ [])) none)) (members_first first good)
  members_begun first view (Err y) none e good = absurd e

  pub members_added : {T : Type 0} {xs left mid to : List Token} {items more : List g.I} {o : g.O} (first : g.B → g.I) (view : T → g.B) (part : Result T Stop) →
      Members first xs left items → Good g.S Anything left mid o → IsOkAnd part (λ x. more ≡ items ++ (g.item o (view x) ∷ [])) →
      IfOk part (λ x. Good g.R g.G mid to (view x)) → Members first xs to more
  members_added {xs = xs} {to = to} first view (Ok x) m sign e good =
      subst (λ (is : List g.I). Members first xs to is) (sym e) (members_more m sign good)
  members_added first view (Err y) m sign e good = absurd e
