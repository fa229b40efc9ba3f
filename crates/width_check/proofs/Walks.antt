-- What a walk notes of members, of an expression and of a statement, piece by piece.
use Rattle.std.proofs.Common.{◌≡◌, ℕ, ◌^◌, Bool, true, false, List, [], ◌∷◌, ◌++◌, Option, Some, None, refl, sym, ap, ◌∙◌, arith}
use Rattle.std.specs.Prelude.{not, ◌||◌, ◌==◌, nat_lt, nat_le, if◌then◌else◌, is_none, unwrap_or}
use Rattle.std.proofs.lemmas.Bool.Decides.{nat_tests}
use Rattle.std.proofs.lemmas.Grind.{flat_map-append}
use Rattle.std.proofs.lemmas.List.{append-nil}
use Rattle.chp_base.specs.declared.span.Span.{Span}
use Rattle.chp_syntax.specs.declared.tree.Decl.{Decl}
use Rattle.chp_syntax.specs.declared.tree.Ident.{Ident}
use Rattle.chp_syntax.specs.declared.tree.Op.{Op}
use Rattle.chp_syntax.specs.Trees.{Expression, number, whole, slice, bit, join, negation, chain, Links, no_links, and_link, Statement, assigns, sends, Statements, and_member, Arms, and_arm}
use Rattle.width_check.specs.declared.findings.Findings.{Findings}
use Rattle.width_check.specs.Places.{declaration, use_of, written, sent_on, read, compares, own_width, span_of, Expected, expect, leaves, leaves_of_parts, leaves_of_links, declared_width}
use Rattle.width_check.specs.Walk.{earlier, first_of, with_part, with_leaf, Met, met_both, met_use, met_in, met_chain, met_in_links, met_of, met_of_each, met_of_arms, capped_width, side_width, exceeds, is_unfit, is_misfit, is_wide_number, noted, differs_in_kind, goes_against}
use Rattle.width_check.proofs.Scopes.{own_of_comparison}

pub first_of-append : {X : Type 0} (test : X → Bool) (at : X → Span) (o : Option Span) (xs ys : List X) →
    first_of test at o (xs ++ ys) ≡ first_of test at (first_of test at o xs) ys
first_of-append test at o [] ys = refl
first_of-append test at o (x ∷ xs) ys = first_of-append test at (if test x then earlier o (at x) else o) xs ys

pub noted_both : (decls : List Decl) (f : Findings) (m n : Met) → noted decls (noted decls f m) n ≡ noted decls f (met_both m n)
noted_both decls f m n = simp (flat_map-append, first_of-append)

-- what is wanted counts up to 65 bits

pub unfit_capped : (o : Option ℕ) (v w : ℕ) → capped_width v ≡ capped_width w → is_unfit o v ≡ is_unfit o w
unfit_capped None v w same = refl
unfit_capped (Some n) v w same = grind (arith, nat_tests)

pub misfit_capped : (n w : ℕ) → (nat_lt 64 (capped_width n) || not (capped_width n == w)) ≡ (nat_lt 64 n || not (n == w))
misfit_capped n w = grind (arith, nat_tests)

exceeds_capped : (e : Expression) (v w : ℕ) → capped_width v ≡ capped_width w → exceeds e v ≡ exceeds e w
exceeds_capped (number n at) v w same = ap (λ (k : ℕ). nat_le (2 ^ k) n) same
exceeds_capped (whole of) v w same = refl
exceeds_capped (slice of high low at) v w same = refl
exceeds_capped (bit of place at) v w same = refl
exceeds_capped (join parts at) v w same = refl
exceeds_capped (negation e at) v w same = refl
exceeds_capped (chain e more at) v w same = refl

abbrev place_of : Expected → Span
place_of l = span_of l.expression

-- a test of leaves that doesn't tell the two widths apart
pub record IsBlind (test : Expected → Bool) (v w : ℕ) : Type 0 where
  pub same : (x : Expression) → test (expect x v) ≡ test (expect x w)

leaf_same : {test : Expected → Bool} {v w : ℕ} → IsBlind test v w → (e : Expression) (o : Option Span) (rest : List Expected) →
    first_of test place_of o (expect e v ∷ rest) ≡ first_of test place_of o (expect e w ∷ rest)
leaf_same {test} {v} {w} blind e o rest = ap (λ (b : Bool). first_of test place_of (if b then earlier o (span_of e) else o) rest) (blind.same e)

chain_same : (decls : List Decl) {test : Expected → Bool} {v w : ℕ} → IsBlind test v w → (e : Expression) (more : Links) (at : Span) (b : Bool) →
    compares more ≡ b
    → ((o : Option Span) → first_of test place_of o (leaves decls v e) ≡ first_of test place_of o (leaves decls w e))
    → ((o : Option Span) → first_of test place_of o (leaves_of_links decls v more) ≡ first_of test place_of o (leaves_of_links decls w more))
    → (o : Option Span) → first_of test place_of o (leaves decls v (chain e more at)) ≡ first_of test place_of o (leaves decls w (chain e more at))
chain_same decls blind e more at true is first rest o =
    rw is (leaf_same blind (chain e more at) o (leaves decls (unwrap_or (side_width decls e more) 0) e
    ++ leaves_of_links decls (unwrap_or (side_width decls e more) 0) more))
chain_same decls {test} {v} {w} blind e more at false is first rest o =
    rw is (first_of-append test place_of o (leaves decls v e) (leaves_of_links decls v more)
    ∙ ap (λ (p : Option Span). first_of test place_of p (leaves_of_links decls v more)) (first o)
    ∙ rest (first_of test place_of o (leaves decls w e))
    ∙ sym (first_of-append test place_of o (leaves decls w e) (leaves_of_links decls w more)))

mutual
  leaves_same : (decls : List Decl) {test : Expected → Bool} {v w : ℕ} → IsBlind test v w → (e : Expression) (o : Option Span) →
      first_of test place_of o (leaves decls v e) ≡ first_of test place_of o (leaves decls w e)
  leaves_same decls blind (number n at) o = leaf_same blind (number n at) o []
  leaves_same decls blind (whole of) o = leaf_same blind (whole of) o []
  leaves_same decls blind (slice of high low at) o = leaf_same blind (slice of high low at) o []
  leaves_same decls blind (bit of place at) o = leaf_same blind (bit of place at) o []
  leaves_same decls blind (join parts at) o = leaf_same blind (join parts at) o (leaves_of_parts decls parts)
  leaves_same decls blind (negation e at) o = leaves_same decls blind e o
  leaves_same decls blind (chain e more at) o =
      chain_same decls blind e more at (compares more) refl (λ p. leaves_same decls blind e p) (λ p. links_same decls blind more p) o

  links_same : (decls : List Decl) {test : Expected → Bool} {v w : ℕ} → IsBlind test v w → (more : Links) (o : Option Span) →
      first_of test place_of o (leaves_of_links decls v more) ≡ first_of test place_of o (leaves_of_links decls w more)
  links_same decls blind no_links o = refl
  links_same decls {test} {v} {w} blind (and_link op e more) o =
      first_of-append test place_of o (leaves decls v e) (leaves_of_links decls v more)
      ∙ ap (λ (p : Option Span). first_of test place_of p (leaves_of_links decls v more)) (leaves_same decls blind e o)
      ∙ links_same decls blind more (first_of test place_of o (leaves decls w e))
      ∙ sym (first_of-append test place_of o (leaves decls w e) (leaves_of_links decls w more))

pub noted_wanted : (decls : List Decl) (f : Findings) (v w : ℕ) (e : Expression) → capped_width v ≡ capped_width w →
    noted decls f (met_in decls v e) ≡ noted decls f (met_in decls w e)
noted_wanted decls f v w e same =
    let misfits : IsBlind (is_misfit decls) v w = record { same = λ x. unfit_capped (own_width decls x) v w same } in
    let numbers : IsBlind is_wide_number v w = record { same = λ x. exceeds_capped x v w same } in
    rw (leaves_same decls misfits e f.leaf, leaves_same decls numbers e f.number) refl

-- a chain

pub noted_link : (decls : List Decl) (f g total : Findings) (w : ℕ) (op : Op) (e : Expression) (more : Links) →
    noted decls f (met_in_links decls w (and_link op e more)) ≡ total → g ≡ noted decls f (met_in decls w e) → noted decls g (met_in_links decls w more) ≡ total
noted_link decls f g total w op e more so_far new =
    ap (λ (h : Findings). noted decls h (met_in_links decls w more)) new ∙ noted_both decls f (met_in decls w e) (met_in_links decls w more) ∙ so_far

links_wanted : (decls : List Decl) (f : Findings) (v w : ℕ) (more : Links) → capped_width v ≡ capped_width w →
    noted decls f (met_in_links decls v more) ≡ noted decls f (met_in_links decls w more)
links_wanted decls f v w more same =
    let misfits : IsBlind (is_misfit decls) v w = record { same = λ x. unfit_capped (own_width decls x) v w same } in
    let numbers : IsBlind is_wide_number v w = record { same = λ x. exceeds_capped x v w same } in
    rw (links_same decls misfits more f.leaf, links_same decls numbers more f.number) refl

-- what is wanted of the members
abbrev pub wanted_of : List Decl → ℕ → Expression → Links → ℕ
wanted_of decls w e more = if compares more then unwrap_or (side_width decls e more) 0 else w

pub chain_pieces : (decls : List Decl) (w : ℕ) (e : Expression) (more : Links) (at : Span) (b : Bool) → compares more ≡ b
    → met_both (met_chain w e more at) (met_both (met_in decls (wanted_of decls w e more) e) (met_in_links decls (wanted_of decls w e more) more)) ≡
    met_in decls w (chain e more at)
chain_pieces decls w e more at true is = rw is refl
chain_pieces decls w e more at false is = rw is refl

-- a chain, of whose members widths are wanted that count as the same
pub noted_chain : (ds : List Decl) (f g h : Findings) (w u v : ℕ) (e : Expression) (more : Links) (at : Span) →
    capped_width u ≡ capped_width (wanted_of ds w e more) →
    capped_width v ≡ capped_width (wanted_of ds w e more) → g ≡ noted ds f (met_chain w e more at) → h ≡ noted ds g (met_in ds u e) →
    noted ds h (met_in_links ds v more) ≡ noted ds f (met_in ds w (chain e more at))
noted_chain ds f g h w u v e more at same others node first =
    let m = wanted_of ds w e more in
    links_wanted ds h v m more others
    ∙ ap (λ (x : Findings). noted ds x (met_in_links ds m more)) (first ∙ noted_wanted ds g u m e same)
    ∙ noted_both ds g (met_in ds m e) (met_in_links ds m more)
    ∙ ap (λ (x : Findings). noted ds x (met_both (met_in ds m e) (met_in_links ds m more))) node
    ∙ noted_both ds f (met_chain w e more at) (met_both (met_in ds m e) (met_in_links ds m more))
    ∙ ap (λ (x : Met). noted ds f x) (chain_pieces ds w e more at (compares more) refl)

-- the chain alone, as it compares or not
pub chain_alone : (ds : List Decl) (f : Findings) (w : ℕ) (e : Expression) (more : Links) (at : Span) (b : Bool) → b ≡ compares more →
    (if b then with_leaf (with_part f (is_none (side_width ds e more)) at) 1 w at else f) ≡ noted ds f (met_chain w e more at)
chain_alone ds f w e more at true is = by_test (is_none (side_width ds e more)) refl
  where
    by_test : (c : Bool) → is_none (side_width ds e more) ≡ c →
        with_leaf (with_part f (is_none (side_width ds e more)) at) 1 w at ≡ noted ds f (met_chain w e more at)
    by_test true none = let one = own_of_comparison ds e more at (sym is) in
        rw (← is, none) (ap (λ (o : Option ℕ). let x : Findings =
        record f { widthless = earlier f.widthless at; leaf = (if is_unfit o w then earlier f.leaf at else f.leaf) } in x) (sym one))
    by_test false some = let one = own_of_comparison ds e more at (sym is) in
        rw (← is, some) (ap (λ (o : Option ℕ). let x : Findings = record f { leaf = (if is_unfit o w then earlier f.leaf at else f.leaf) } in x) (sym one))
chain_alone ds f w e more at false is = rw (← is) refl

-- statements

pub each_pieces : (decls : List Decl) (s : Statement) (more : Statements) →
    met_both (met_of decls s) (met_of_each decls more) ≡ met_of_each decls (and_member s more)
each_pieces decls s more = simp flat_map-append

pub noted_member : (decls : List Decl) (f g total : Findings) (s : Statement) (more : Statements) →
    noted decls f (met_of_each decls (and_member s more)) ≡ total → g ≡ noted decls f (met_of decls s) → noted decls g (met_of_each decls more) ≡ total
noted_member decls f g total s more so_far new =
    ap (λ (h : Findings). noted decls h (met_of_each decls more)) new ∙ noted_both decls f (met_of decls s) (met_of_each decls more)
    ∙ ap (λ (m : Met). noted decls f m) (each_pieces decls s more) ∙ so_far

pub arm_pieces : (decls : List Decl) (g : Expression) (s : Statement) (more : Arms) →
    met_both (met_in decls 1 g) (met_both (met_of decls s) (met_of_arms decls more)) ≡ met_of_arms decls (and_arm g s more)
arm_pieces decls g s more = simp flat_map-append

pub noted_arm : (decls : List Decl) (f g h total : Findings) (guard : Expression) (s : Statement) (more : Arms) →
    noted decls f (met_of_arms decls (and_arm guard s more)) ≡ total → g ≡ noted decls f (met_in decls 1 guard) → h ≡ noted decls g (met_of decls s) →
    noted decls h (met_of_arms decls more) ≡ total
noted_arm decls f g h total guard s more so_far first second =
    ap (λ (x : Findings). noted decls x (met_of_arms decls more)) second
    ∙ noted_both decls g (met_of decls s) (met_of_arms decls more)
    ∙ ap (λ (x : Findings). noted decls x (met_both (met_of decls s) (met_of_arms decls more))) first
    ∙ noted_both decls f (met_in decls 1 guard) (met_both (met_of decls s) (met_of_arms decls more))
    ∙ ap (λ (m : Met). noted decls f m) (arm_pieces decls guard s more) ∙ so_far

pub assign_pieces : (decls : List Decl) (target : Ident) (e : Expression) →
    met_both (met_use (use_of target written)) (met_in decls (declared_width decls target.name) e) ≡ met_of decls (assigns target e)
assign_pieces decls target e = simp append-nil

pub send_pieces : (decls : List Decl) (chan : Ident) (e : Expression) →
    met_both (met_use (use_of chan sent_on)) (met_in decls (declared_width decls chan.name) e) ≡ met_of decls (sends chan e)
send_pieces decls chan e = simp append-nil

kind_same : (o : Option Decl) → differs_in_kind o read ≡ differs_in_kind o written
kind_same None = refl
kind_same (Some d) = refl

side_same : (o : Option Decl) → goes_against o read ≡ goes_against o written
side_same None = refl
side_same (Some d) = refl

-- a variable that is written is noted as one that is read
read_written : (decls : List Decl) (f : Findings) (target : Ident) →
    noted decls f (met_use (use_of target read)) ≡ noted decls f (met_use (use_of target written))
read_written decls f target = rw (kind_same (declaration decls target.name), side_same (declaration decls target.name)) refl

pub noted_assign : (decls : List Decl) (f g h : Findings) (target : Ident) (e : Expression) (w : ℕ) → g ≡ noted decls f (met_use (use_of target read)) →
    w ≡ capped_width (declared_width decls target.name) → h ≡ noted decls g (met_in decls w e) → h ≡ noted decls f (met_of decls (assigns target e))
noted_assign decls f g h target e w first wanted second =
    let same : capped_width w ≡ capped_width (declared_width decls target.name) = grind arith in
    second ∙ noted_wanted decls g w (declared_width decls target.name) e same
    ∙ ap (λ (x : Findings). noted decls x (met_in decls (declared_width decls target.name) e)) (first ∙ read_written decls f target)
    ∙ noted_both decls f (met_use (use_of target written)) (met_in decls (declared_width decls target.name) e)
    ∙ ap (λ (m : Met). noted decls f m) (assign_pieces decls target e)

pub noted_send : (decls : List Decl) (f g h : Findings) (chan : Ident) (e : Expression) (w : ℕ) → g ≡ noted decls f (met_use (use_of chan sent_on)) →
    w ≡ capped_width (declared_width decls chan.name) → h ≡ noted decls g (met_in decls w e) → h ≡ noted decls f (met_of decls (sends chan e))
noted_send decls f g h chan e w first wanted second =
    let same : capped_width w ≡ capped_width (declared_width decls chan.name) = grind arith in
    second ∙ noted_wanted decls g w (declared_width decls chan.name) e same
    ∙ ap (λ (x : Findings). noted decls x (met_in decls (declared_width decls chan.name) e)) first
    ∙ noted_both decls f (met_use (use_of chan sent_on)) (met_in decls (declared_width decls chan.name) e)
    ∙ ap (λ (m : Met). noted decls f m) (send_pieces decls chan e)
