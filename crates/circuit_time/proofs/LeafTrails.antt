-- Of sites and receives: each own move lets no move begin but of a shorter trail.
--
-- e: an expression; u: its gates' rails; m: a mode of the handshake; s, q: spots; f: that the rule of one fires, z: that the other's does
-- once that has moved.
use Rattle.std.proofs.Common.{◌≡◌, ◌≢◌, ℕ, zero, suc, ◌+◌, ◌-◌, ◌<◌, ◌≤◌, ◌==◌, Bool, true, false, refl, sym, ap, ◌∙◌, subst, inl, inr, arith}
use Rattle.std.specs.Prelude.{◌⊎◌, not, ◌&&◌, if◌then◌else◌}
use Rattle.std.proofs.lemmas.Bool.{cases_eq}
use Rattle.width_check.specs.Processes.{Formula}
use Rattle.function_blocks.specs.Rails.{RailLevels, side_of, turned_side, Pairs, pair_in, turned_pairs, one_rule_fires, same_bit, Single}
use Rattle.function_blocks.specs.Parts.{gate_count}
use Rattle.function_blocks.specs.Waves.{gate_rule, good, Waves}
use Rattle.circuit_places.specs.Lines.{Rails}
use Rattle.circuit_places.specs.Circuit.{SiteSpot, done, gate, PortSpot, heard, stored, taking, site_rule, port_rule, turned_site, turned_port, rails_turned}
use Rattle.circuit_places.proofs.LineNames.{self_number}
use Rattle.circuit_places.proofs.Flow.{not_both}
use Rattle.circuit_places.proofs.Places.{site_of, port_of}
use Rattle.round_time.specs.Longest.{depth}
use Rattle.circuit_time.proofs.Trails.{gate_depth, site_trail, port_trail}
use Rattle.circuit_time.proofs.Depths.{Ordered, depth_most, gate_sees}

-- ---- rails of gates

side_turned : (x : RailLevels) (one : Bool) → side_of (turned_side x one) one ≡ not (side_of x one)
side_turned x true = refl
side_turned x false = refl

pair_turned : (n : ℕ) (u : Pairs n) (j : ℕ) (one : Bool) → j < n → side_of (pair_in n (turned_pairs n u j one) j) one ≡ not (side_of (pair_in n u j) one)
pair_turned zero u j one less = absurd (omega (arith, less))
pair_turned (suc n) u zero one less = side_turned u.0 one
pair_turned (suc n) u (suc j) one less = pair_turned n u.1 j one (omega (arith, less))

other_side : (x : RailLevels) (side one : Bool) → (side ≡ one → ⊥) → side_of (turned_side x side) one ≡ side_of x one
other_side x true true ne = absurd (ne refl)
other_side x false false ne = absurd (ne refl)
other_side x true false ne = refl
other_side x false true ne = refl

pair_other : (n : ℕ) (u : Pairs n) (j : ℕ) (side : Bool) (i : ℕ) (one : Bool) → (j ≡ i → side ≡ one → ⊥)
    → side_of (pair_in n (turned_pairs n u j side) i) one ≡ side_of (pair_in n u i) one
pair_other zero u j side i one ne = refl
pair_other (suc n) u zero side zero one ne = other_side u.0 side one (ne refl)
pair_other (suc n) u zero side (suc i) one ne = refl
pair_other (suc n) u (suc j) side zero one ne = refl
pair_other (suc n) u (suc j) side (suc i) one ne = pair_other n u.1 j side i one (λ e h. ne (ap (λ z. suc z) e) h)

-- a rail that moves under a request rises, and falls without one
pub goes_with : (r side other : Bool) → (if side then not r else (r && not other)) ≡ true → side ≡ not r
goes_with true true other e = absurd (cc e)
goes_with true false other e = refl
goes_with false true other e = refl
goes_with false false other e = absurd (cc e)

same_end : (b c left ahead : ℕ) (r x y : Bool) → x ≡ not r → y ≡ not r → b < c → b + (if x then left else ahead) < c + (if y then left else ahead)
same_end b c left ahead r x y e h less =
    let z : (if x then left else ahead) ≡ (if y then left else ahead) = ap (λ (w : Bool). if w then left else ahead) (e ∙ sym h) in omega (arith, z, less)

same_bools : (a b : Bool) → (a ≡ b) ⊎ (a ≡ b → ⊥)
same_bools true true = inl refl
same_bools false false = inl refl
same_bools true false = inr (λ e. cc e)
same_bools false true = inr (λ e. cc e)

never_same : (b : Bool) → not b ≡ b → ⊥
never_same true e = cc e
never_same false e = cc e

-- two gates of an expression that is at most `deep`
pub gate_pair : (e : Formula) → Ordered e → Waves e → (deep left ahead : ℕ) → depth e ≤ deep
    → (r : Bool) (bits : ℕ → Rails) (u : Pairs (gate_count e)) → Single bits
    → good r bits e u ≡ true → (j : ℕ) (side : Bool) → one_rule_fires (gate_rule e bits r u j side) ≡ true → (i : ℕ) (one : Bool)
    → one_rule_fires (gate_rule e bits r (turned_pairs (gate_count e) u j side) i one) ≡ true
    → ((deep - gate_depth e i) + (if side_of (pair_in (gate_count e) (turned_pairs (gate_count e) u j side) i) one then left else ahead)
    < (deep - gate_depth e j) + (if side_of (pair_in (gate_count e) u j) side then left else ahead))
    ⊎ ((j ≡ i → side ≡ one → ⊥) × (one_rule_fires (gate_rule e bits r u i one) ≡ true)
    × (side_of (pair_in (gate_count e) (turned_pairs (gate_count e) u j side) i) one ≡ side_of (pair_in (gate_count e) u i) one))
gate_pair e ordered known deep left ahead room r bits u single fit j side f i one z = by (cases_eq j i) (same_bools side one)
  where
    fit_on : good r bits e (turned_pairs (gate_count e) u j side) ≡ true
    fit_on = known.own r bits u j side single fit f

    goes : side_of (pair_in (gate_count e) u j) side ≡ not r
    goes = goes_with r (side_of (pair_in (gate_count e) u j) side) (side_of (pair_in (gate_count e) u j) (not side)) (known.law r bits u j side single fit f)

    goes_on : side_of (pair_in (gate_count e) (turned_pairs (gate_count e) u j side) i) one ≡ not r
    goes_on = goes_with r (side_of (pair_in (gate_count e) (turned_pairs (gate_count e) u j side) i) one)
        (side_of (pair_in (gate_count e) (turned_pairs (gate_count e) u j side) i) (not one))
        (known.law r bits (turned_pairs (gate_count e) u j side) i one single fit_on z)

    apart : (j ≡ i → side ≡ one → ⊥)
        → ((deep - gate_depth e i) + (if side_of (pair_in (gate_count e) (turned_pairs (gate_count e) u j side) i) one then left else ahead)
        < (deep - gate_depth e j) + (if side_of (pair_in (gate_count e) u j) side then left else ahead))
        ⊎ ((j ≡ i → side ≡ one → ⊥) × (one_rule_fires (gate_rule e bits r u i one) ≡ true)
        × (side_of (pair_in (gate_count e) (turned_pairs (gate_count e) u j side) i) one ≡ side_of (pair_in (gate_count e) u i) one))
    apart ne = here (gate_sees e ordered bits r u j side i one ne)
      where
        here : (gate_rule e bits r (turned_pairs (gate_count e) u j side) i one ≡ gate_rule e bits r u i one) ⊎ (gate_depth e j < gate_depth e i)
            → ((deep - gate_depth e i) + (if side_of (pair_in (gate_count e) (turned_pairs (gate_count e) u j side) i) one then left else ahead)
            < (deep - gate_depth e j) + (if side_of (pair_in (gate_count e) u j) side then left else ahead))
            ⊎ ((j ≡ i → side ≡ one → ⊥) × (one_rule_fires (gate_rule e bits r u i one) ≡ true)
            × (side_of (pair_in (gate_count e) (turned_pairs (gate_count e) u j side) i) one ≡ side_of (pair_in (gate_count e) u i) one))
        here (inl same) = inr (ne, sym (ap one_rule_fires same) ∙ z, pair_other (gate_count e) u j side i one ne)
        here (inr deeper) =
            let most = depth_most e i in
            inl (same_end (deep - gate_depth e i) (deep - gate_depth e j) left ahead r
            (side_of (pair_in (gate_count e) (turned_pairs (gate_count e) u j side) i) one) (side_of (pair_in (gate_count e) u j) side) goes_on goes
            (omega (arith, deeper, most, room)))

    by : (j ≡ i) ⊎ (j ≡ i → ⊥) → (side ≡ one) ⊎ (side ≡ one → ⊥)
        → ((deep - gate_depth e i) + (if side_of (pair_in (gate_count e) (turned_pairs (gate_count e) u j side) i) one then left else ahead)
        < (deep - gate_depth e j) + (if side_of (pair_in (gate_count e) u j) side then left else ahead))
        ⊎ ((j ≡ i → side ≡ one → ⊥) × (one_rule_fires (gate_rule e bits r u i one) ≡ true)
        × (side_of (pair_in (gate_count e) (turned_pairs (gate_count e) u j side) i) one ≡ side_of (pair_in (gate_count e) u i) one))
    by (inr ne) h = apart (λ e w. ne e)
    by (inl e) (inr ne) = apart (λ h w. ne w)
    by (inl same) (inl too) =
        let less = known.there r bits u j side f in
        let a : side_of (pair_in (gate_count e) (turned_pairs (gate_count e) u j side) j) side ≡ not r =
        subst (λ (k : ℕ). side_of (pair_in (gate_count e) (turned_pairs (gate_count e) u j side) k) side ≡ not r) (sym same)
        (subst (λ (b : Bool). side_of (pair_in (gate_count e) (turned_pairs (gate_count e) u j side) i) b ≡ not r) (sym too) goes_on) in
        absurd (never_same (not r) (sym (ap not goes) ∙ (sym (pair_turned (gate_count e) u j side less) ∙ a)))

-- ---- sites

abbrev Apart : (e : Formula) (s q : SiteSpot e) → Type 0
Apart e s q = s ≢ q

done_again : (a r ack : Bool) → (if a then not ack else (r && ack)) ≡ true → (if not a then not ack else (r && ack)) ≡ true → ⊥
done_again true r true f z = cc f
done_again true true false f z = cc z
done_again true false false f z = cc z
done_again false true true f z = cc z
done_again false true false f z = cc f
done_again false false ack f z = cc f

pub site_site : (e : Formula) → Ordered e → Waves e → (r a ack : Bool) (bits : ℕ → Rails) (u : Pairs (gate_count e)) → Single bits → good r bits e u ≡ true
    → (up down left ahead : ℕ) (s : SiteSpot e) → one_rule_fires (site_rule e bits ack r (site_of e a u) s) ≡ true → (q : SiteSpot e)
    → one_rule_fires (site_rule e bits ack r (turned_site e (site_of e a u) s) q) ≡ true
    → (site_trail e up down left ahead (turned_site e (site_of e a u) s) q < site_trail e up down left ahead (site_of e a u) s)
    ⊎ ((s ≢ q) × (one_rule_fires (site_rule e bits ack r (site_of e a u) q) ≡ true)
    × (site_trail e up down left ahead (turned_site e (site_of e a u) s) q ≤ site_trail e up down left ahead (site_of e a u) q))
site_site e ordered known r a ack bits u single fit up down left ahead done f done z = absurd (done_again a r ack f z)
site_site e ordered known r a ack bits u single fit up down left ahead done f (gate i one) z = inr ((λ w. cc w), z, omega arith)
site_site e ordered known r a ack bits u single fit up down left ahead (gate j side) f done z = inr ((λ w. cc w), z, omega arith)
site_site e ordered known r a ack bits u single fit up down left ahead (gate j side) f (gate i one) z =
    by (gate_pair e ordered known (depth e) left ahead (omega arith) r bits u single fit j side f i one z)
  where
    by : ((depth e - gate_depth e i) + (if side_of (pair_in (gate_count e) (turned_pairs (gate_count e) u j side) i) one then left else ahead)
        < (depth e - gate_depth e j) + (if side_of (pair_in (gate_count e) u j) side then left else ahead))
        ⊎ ((j ≡ i → side ≡ one → ⊥) × (one_rule_fires (gate_rule e bits r u i one) ≡ true)
        × (side_of (pair_in (gate_count e) (turned_pairs (gate_count e) u j side) i) one ≡ side_of (pair_in (gate_count e) u i) one))
        → (site_trail e up down left ahead (turned_site e (site_of e a u) (gate j side)) (gate i one)
        < site_trail e up down left ahead (site_of e a u) (gate j side))
        ⊎ (Apart e (gate j side) (gate i one) × (one_rule_fires (site_rule e bits ack r (site_of e a u) (gate i one)) ≡ true)
        × (site_trail e up down left ahead (turned_site e (site_of e a u) (gate j side)) (gate i one)
        ≤ site_trail e up down left ahead (site_of e a u) (gate i one)))
    by (inl less) = inl less
    by (inr (ne, on, same)) =
        let z : (if side_of (pair_in (gate_count e) (turned_pairs (gate_count e) u j side) i) one then left else ahead)
        ≡ (if side_of (pair_in (gate_count e) u i) one then left else ahead) = ap (λ (b : Bool). if b then left else ahead) same in
        inr ((λ w. ne (cc w) (cc w)), on, omega (arith, z))

-- ---- receives

takes_again : (t r rail now : Bool) → (if t then not r && not rail else (r && rail)) ≡ true → (if not t then not r && not now else (r && now)) ≡ true → ⊥
takes_again true true rail now f z = cc f
takes_again true false rail now f z = cc z
takes_again false true rail now f z = cc z
takes_again false false rail now f z = cc f

pub port_port : (r a k va ack : Bool) (rail taken : Rails) (up down h f v : ℕ) (s : PortSpot)
    → one_rule_fires (port_rule rail ack va r (port_of a k taken) s) ≡ true → (q : PortSpot)
    → one_rule_fires (port_rule rail ack va r (turned_port (port_of a k taken) s) q) ≡ true
    → (port_trail up down h f v (turned_port (port_of a k taken) s) q < port_trail up down h f v (port_of a k taken) s)
    ⊎ ((s ≢ q) × (one_rule_fires (port_rule rail ack va r (port_of a k taken) q) ≡ true)
    × (port_trail up down h f v (turned_port (port_of a k taken) s) q ≤ port_trail up down h f v (port_of a k taken) q))
port_port r a k va ack rail taken up down h f v heard e heard z = absurd (done_again a r ack e z)
port_port r a k va ack rail taken up down h f v heard e stored z = inr ((λ w. cc w), z, omega arith)
port_port r a k va ack rail taken up down h f v heard e (taking i one) z = inr ((λ w. cc w), z, omega arith)
port_port r a k va ack rail taken up down h f v stored e heard z = inr ((λ w. cc w), z, omega arith)
port_port r a k va ack rail taken up down h f v stored e stored z = absurd (done_again k r va e z)
port_port r a k va ack rail taken up down h f v stored e (taking i one) z = inr ((λ w. cc w), z, omega arith)
port_port r a k va ack rail taken up down h f v (taking j side) e heard z = inr ((λ w. cc w), z, omega arith)
port_port r a k va ack rail taken up down h f v (taking j side) e stored z = inr ((λ w. cc w), z, omega arith)
port_port r a k va ack rail taken up down h f v (taking j side) e (taking i one) z = by ((i == j) && same_bit one side) refl z
  where
    self : (b : Bool) → same_bit b b ≡ true
    self true = refl
    self false = refl

    by : (b : Bool) → ((i == j) && same_bit one side) ≡ b
        → (if rails_turned taken j side i one then not r && not (rail i one) else (r && rail i one)) ≡ true
        → (port_trail up down h f v (turned_port (port_of a k taken) (taking j side)) (taking i one)
        < port_trail up down h f v (port_of a k taken) (taking j side))
        ⊎ ((taking j side ≢ taking i one) × (one_rule_fires (port_rule rail ack va r (port_of a k taken) (taking i one)) ≡ true)
        × (port_trail up down h f v (turned_port (port_of a k taken) (taking j side)) (taking i one)
        ≤ port_trail up down h f v (port_of a k taken) (taking i one)))
    by true w z =
        let t : rails_turned taken j side i one ≡ not (taken j side) = ap (λ (b : Bool). if b then not (taken j side) else taken i one) w in
        absurd (takes_again (taken j side) r (rail j side) (rail i one) e
        (subst (λ (b : Bool). (if b then not r && not (rail i one) else (r && rail i one)) ≡ true) t z))
    by false w z =
        let t : rails_turned taken j side i one ≡ taken i one = ap (λ (b : Bool). if b then not (taken j side) else taken i one) w in
        let n : (if rails_turned taken j side i one then 2 + h + v else 5 + h) ≡ (if taken i one then 2 + h + v else 5 + h) =
        ap (λ (b : Bool). if b then 2 + h + v else 5 + h) t in
        inr (
          (λ same. not_both (sym (ap (λ (b : ℕ). (i == b) && same_bit one side) (cc same)) ∙ w)
              (ap (λ (b : Bool). (i == i) && same_bit one b) (cc same) ∙ (ap (λ (b : Bool). b && same_bit one one) (self_number i) ∙ self one))),
          subst (λ (b : Bool). (if b then not r && not (rail i one) else (r && rail i one)) ≡ true) t z,
          omega (arith, n),
        )
