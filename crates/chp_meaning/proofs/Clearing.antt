-- The tables of a configuration, noted and cleared again.
use Rattle.std.proofs.Common.{◌≡◌, ℕ, Bool, true, false, List, length, map, replicate, fold, sym, ap, ◌∙◌, Option, None}
use Rattle.std.specs.Vec.{with_items}
use Rattle.std.proofs.lemmas.List.{with_items_is, length-replicate}
use Rattle.std.specs.declared.alloc.Global.{Global}
use Rattle.std.specs.declared.vec.Vec.{Vec}
use Rattle.width_check.specs.Processes.{Process}
use Rattle.chp_meaning.specs.declared.config.Config.{Config}
use Rattle.chp_meaning.specs.AtOnce.{Outset, noted_send, noted_receive, statements}
use Rattle.chp_meaning.specs.Remaining.{remains_of}
use Rattle.chp_meaning.specs.Standing.{offer_of_rest, next_outset, IsStanding}
use Rattle.chp_meaning.proofs.Planning.{sends_length, receives_length}

-- the ends that wait, noted

sends_noted : (v : Vec Bool Global) (s d : List Bool) (n : ℕ) (ps : List Process) → v.items ≡ replicate n false → d ≡ v.items →
    s ≡ fold (noted_send true) d ps → (with_items v s).items ≡ fold (noted_send true) (replicate n false) ps
sends_noted v s d n ps clear d_is s_is =
    let whole : s ≡ fold (noted_send true) v.items ps = s_is ∙ ap (λ xs. fold (noted_send true) xs ps) d_is in
    with_items_is v s (ap (λ (xs : List Bool). length xs) whole ∙ (sends_length true v.items ps ∙ sym v.ok.0))
    ∙ (whole ∙ ap (λ xs. fold (noted_send true) xs ps) clear)

receives_noted : (v : Vec (Option ℕ) Global) (s d : List (Option ℕ)) (n : ℕ) (ps : List Process) → v.items ≡ replicate n None → d ≡ v.items →
    s ≡ fold (noted_receive true) d ps → (with_items v s).items ≡ fold (noted_receive true) (replicate n None) ps
receives_noted v s d n ps clear d_is s_is =
    let whole : s ≡ fold (noted_receive true) v.items ps = s_is ∙ ap (λ xs. fold (noted_receive true) xs ps) d_is in
    with_items_is v s (ap (λ (xs : List (Option ℕ)). length xs) whole ∙ (receives_length true v.items ps ∙ sym v.ok.0))
    ∙ (whole ∙ ap (λ xs. fold (noted_receive true) xs ps) clear)

-- as whoever clears them finds them

sends_length_is : (v : Vec Bool Global) (s d e : List Bool) (n : ℕ) (ps : List Process) → v.items ≡ replicate n false → d ≡ v.items →
    s ≡ fold (noted_send true) d ps → e ≡ (with_items v s).items → length e ≡ n
sends_length_is v s d e n ps clear d_is s_is e_is =
    ap (λ (xs : List Bool). length xs) (e_is ∙ sends_noted v s d n ps clear d_is s_is)
    ∙ (sends_length true (replicate n false) ps ∙ length-replicate n false)

receives_length_is : (v : Vec (Option ℕ) Global) (s d e : List (Option ℕ)) (n : ℕ) (ps : List Process) → v.items ≡ replicate n None → d ≡ v.items →
    s ≡ fold (noted_receive true) d ps → e ≡ (with_items v s).items → length e ≡ n
receives_length_is v s d e n ps clear d_is s_is e_is =
    ap (λ (xs : List (Option ℕ)). length xs) (e_is ∙ receives_noted v s d n ps clear d_is s_is)
    ∙ (receives_length true (replicate n None) ps ∙ length-replicate n None)

pub sends_found : (v : Vec Bool Global) (s d e : List Bool) (n : ℕ) (ps : List Process) → v.items ≡ replicate n false → d ≡ v.items →
    s ≡ fold (noted_send true) d ps → e ≡ (with_items v s).items → e ≡ fold (noted_send true) (replicate (length e) false) ps
sends_found v s d e n ps clear d_is s_is e_is =
    e_is ∙ (sends_noted v s d n ps clear d_is s_is
    ∙ ap (λ k. fold (noted_send true) (replicate k false) ps) (sym (sends_length_is v s d e n ps clear d_is s_is e_is)))

pub receives_found : (v : Vec (Option ℕ) Global) (s d e : List (Option ℕ)) (n : ℕ) (ps : List Process) → v.items ≡ replicate n None → d ≡ v.items →
    s ≡ fold (noted_receive true) d ps → e ≡ (with_items v s).items → e ≡ fold (noted_receive true) (replicate (length e) None) ps
receives_found v s d e n ps clear d_is s_is e_is =
    e_is ∙ (receives_noted v s d n ps clear d_is s_is
    ∙ ap (λ k. fold (noted_receive true) (replicate k None) ps) (sym (receives_length_is v s d e n ps clear d_is s_is e_is)))

-- and cleared again

pub sends_cleared : (v : Vec Bool Global) (s t d e : List Bool) (n : ℕ) (ps : List Process) → v.items ≡ replicate n false → d ≡ v.items →
    s ≡ fold (noted_send true) d ps → e ≡ (with_items v s).items → t ≡ replicate (length e) false
    → (with_items (with_items v s) t).items ≡ v.items
sends_cleared v s t d e n ps clear d_is s_is e_is t_is =
    let cleared : t ≡ v.items = t_is ∙ (ap (λ k. replicate k false) (sends_length_is v s d e n ps clear d_is s_is e_is) ∙ sym clear) in
    with_items_is (with_items v s) t (ap (λ (xs : List Bool). length xs) cleared ∙ sym v.ok.0) ∙ cleared

pub receives_cleared : (v : Vec (Option ℕ) Global) (s t d e : List (Option ℕ)) (n : ℕ) (ps : List Process) → v.items ≡ replicate n None → d ≡ v.items →
    s ≡ fold (noted_receive true) d ps → e ≡ (with_items v s).items → t ≡ replicate (length e) None
    → (with_items (with_items v s) t).items ≡ v.items
receives_cleared v s t d e n ps clear d_is s_is e_is t_is =
    let cleared : t ≡ v.items = t_is ∙ (ap (λ k. replicate k None) (receives_length_is v s d e n ps clear d_is s_is e_is) ∙ sym clear) in
    with_items_is (with_items v s) t (ap (λ (xs : List (Option ℕ)). length xs) cleared ∙ sym v.ok.0) ∙ cleared

-- where they are noted, things stand as they do at the start of the next round
pub outset_noted : (body : Process) (c : Config) (s d : List Bool) (r e : List (Option ℕ)) → IsStanding body c → d ≡ c.sends.items →
    s ≡ fold (noted_send true) d (statements body (remains_of c.left)) → e ≡ c.receives.items →
    r ≡ fold (noted_receive true) e (statements body (remains_of c.left)) →
    ◌≡◌ {A = Outset} (record {
      store = c.store.items;
      rests = map offer_of_rest c.rests.items;
      sends = (with_items c.sends s).items;
      receives = (with_items c.receives r).items;
    }) (next_outset body c)
outset_noted body c s d r e standing d_is s_is e_is r_is =
    let n = length c.rests.items in
    let ps = statements body (remains_of c.left) in
    let sends = sends_noted c.sends s d n ps standing.sends d_is s_is in
    let receives = receives_noted c.receives r e n ps standing.receives e_is r_is in
    λ i. record { store = c.store.items; rests = map offer_of_rest c.rests.items; sends = sends i; receives = receives i }
