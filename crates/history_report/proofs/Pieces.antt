-- Texts and lists that are written piece by piece.
use Rattle.std.proofs.Common.{◌≡◌, ◌∙◌, ℕ, ◌+◌, ◌<◌, ◌≤◌, ◌⊎◌, inl, inr, List, [], ◌∷◌, ◌++◌, length, get_or, set, take, drop, map, filter, replicate, sym, ap, refl, append_assoc, arith}
use Rattle.std.specs.Prelude.{◌==◌}
use Rattle.std.specs.List.{flat_map}
use Rattle.std.specs.declared.alloc.Global.{Global}
use Rattle.std.specs.declared.vec.Vec.{Vec}
use Rattle.std.proofs.lemmas.Bool.{eq-eqb, ne_eqb, cases_eq, cases_lt}
use Rattle.std.proofs.lemmas.List.{append-nil, drop_all, drop_more, flat_map_more, get_or-map, get_or-replicate, get_or-set_other, get_or-set_same, length-map, length-replicate, length-set, map-append, same_lists, set_past, take_more}
use Rattle.std.proofs.lemmas.List.Elements.{filter-append}
use Rattle.std.proofs.lemmas.List.FromFn.{get_or-map-range_with_len, length-map-range_with_len}
use Rattle.prs_core.specs.declared.wires.Wires.{Wires}
use Rattle.chp_meaning.specs.Standing.{items_of}
use Rattle.event_sim.specs.Passing.{channel_histories, values_through}
use Rattle.history_report.specs.Reports.{channel_line, history_lines}

-- one item further
pub written_further : {X : Type 0} (f : X → List ℕ) (xs : List X) (i : ℕ) (d : X) (first : List ℕ) {now later : List ℕ} → i < length xs
    → now ≡ first ++ flat_map f (take i xs) → later ≡ now ++ f (get_or xs i d) → later ≡ first ++ flat_map f (take (i + 1) xs)
written_further f xs i d first within so_far adds =
    adds ∙ (ap (λ ys. ys ++ f (get_or xs i d)) so_far ∙ (flat_map_more f first (take i xs) (get_or xs i d)
    ∙ ap (λ ys. first ++ flat_map f ys) (sym (take_more xs i d within))))

-- ---- the values that passed on one channel

values_of_both : (chan : ℕ) (xs ys : List (ℕ × ℕ)) → values_through chan (xs ++ ys) ≡ values_through chan xs ++ values_through chan ys
values_of_both chan xs ys =
    ap (map (λ (p : ℕ × ℕ). p.1)) (filter-append (λ (p : ℕ × ℕ). p.0 == chan) xs ys)
    ∙ map-append (λ (p : ℕ × ℕ). p.1) (filter (λ (p : ℕ × ℕ). p.0 == chan) xs) (filter (λ (p : ℕ × ℕ). p.0 == chan) ys)

here : (chan : ℕ) (p : ℕ × ℕ) → p.0 ≡ chan → values_through chan (p ∷ []) ≡ p.1 ∷ []
here chan p on = rw (eq-eqb p.0 chan on) refl

elsewhere : (chan : ℕ) (p : ℕ × ℕ) → (p.0 ≡ chan → ⊥) → values_through chan (p ∷ []) ≡ []
elsewhere chan p off = rw (ne_eqb p.0 chan off) refl

module _ (chan : ℕ) (passed : List (ℕ × ℕ)) (i : ℕ) (within : i < length passed) where
  further : values_through chan (take (i + 1) passed) ≡ values_through chan (take i passed) ++ values_through chan (get_or passed i (0, 0) ∷ [])
  further = ap (values_through chan) (take_more passed i (0, 0) within) ∙ values_of_both chan (take i passed) (get_or passed i (0, 0) ∷ [])

  pub one_value_more : (get_or passed i (0, 0)).0 ≡ chan
      → values_through chan (take (i + 1) passed) ≡ values_through chan (take i passed) ++ ((get_or passed i (0, 0)).1 ∷ [])
  one_value_more on = further ∙ ap (λ ys. values_through chan (take i passed) ++ ys) (here chan (get_or passed i (0, 0)) on)

  pub no_value_more : ((get_or passed i (0, 0)).0 ≡ chan → ⊥) → values_through chan (take (i + 1) passed) ≡ values_through chan (take i passed)
  no_value_more off =
      further ∙ (ap (λ ys. values_through chan (take i passed) ++ ys) (elsewhere chan (get_or passed i (0, 0)) off)
      ∙ append-nil (values_through chan (take i passed)))

-- ---- the values that passed on each of so many channels

module _ (channels : ℕ) (passed : List (ℕ × ℕ)) (i : ℕ) (within : i < length passed) where
  abbrev before : List (List ℕ)
  before = channel_histories channels (take i passed)

  abbrev after : List (List ℕ)
  after = channel_histories channels (take (i + 1) passed)

  abbrev chan : ℕ
  chan = (get_or passed i (0, 0)).0

  abbrev value : ℕ
  value = (get_or passed i (0, 0)).1

  at : (k : ℕ) (d : List ℕ) (xs : List (ℕ × ℕ)) → k < channels → get_or (channel_histories channels xs) k d ≡ values_through k xs
  at k d xs below = get_or-map-range_with_len (λ c. values_through c xs) 0 channels k k d below (omega arith)

  count : (xs : List (ℕ × ℕ)) → length (channel_histories channels xs) ≡ channels
  count xs = length-map-range_with_len (λ c. values_through c xs) 0 channels

  noted_inside : chan < channels → set before chan (get_or before chan [] ++ value ∷ []) ≡ after
  noted_inside inside = same_lists _ after (length-set before chan _ ∙ count (take i passed) ∙ sym (count (take (i + 1) passed))) each
    where
      by_channel : (k : ℕ) (d : List ℕ) → k < channels → (k ≡ chan) ⊎ (k ≡ chan → ⊥) →
          get_or (set before chan (get_or before chan [] ++ value ∷ [])) k d ≡ get_or after k d
      by_channel k d below (inl same) =
          ap (λ j. get_or (set before chan (get_or before chan [] ++ value ∷ [])) j d) same
          ∙ get_or-set_same before chan _ d (omega (arith, inside, count (take i passed)))
          ∙ ap (λ h. h ++ value ∷ []) (at chan [] (take i passed) inside) ∙ sym (one_value_more chan passed i within refl)
          ∙ sym (at chan d (take (i + 1) passed) inside) ∙ ap (λ j. get_or after j d) (sym same)
      by_channel k d below (inr other) =
          get_or-set_other before chan k _ d other ∙ at k d (take i passed) below ∙ sym (no_value_more k passed i within (λ is. other (sym is)))
          ∙ sym (at k d (take (i + 1) passed) below)

      each : (k : ℕ) (d : List ℕ) → k < length (set before chan (get_or before chan [] ++ value ∷ [])) →
          get_or (set before chan (get_or before chan [] ++ value ∷ [])) k d ≡ get_or after k d
      each k d below =
          by_channel k d (omega (arith, below, length-set before chan (get_or before chan [] ++ value ∷ []), count (take i passed))) (cases_eq k chan)

  -- a channel that isn't one of these
  passed_over : channels ≤ chan → before ≡ after
  passed_over outside = same_lists before after (count (take i passed) ∙ sym (count (take (i + 1) passed))) each
    where
      each : (k : ℕ) (d : List ℕ) → k < length before → get_or before k d ≡ get_or after k d
      each k d below =
          let inside : k < channels = omega (arith, below, count (take i passed)) in
          at k d (take i passed) inside ∙ sym (no_value_more k passed i within (λ is. absurd (omega (arith, is, inside, outside))))
          ∙ sym (at k d (take (i + 1) passed) inside)

  pub noted : set before chan (get_or before chan [] ++ value ∷ []) ≡ after
  noted = by_order (cases_lt chan channels)
    where
      by_order : (chan < channels) ⊎ (channels ≤ chan) → set before chan (get_or before chan [] ++ value ∷ []) ≡ after
      by_order (inl inside) = noted_inside inside
      by_order (inr outside) =
          set_past before chan (get_or before chan [] ++ value ∷ []) (omega (arith, outside, count (take i passed))) ∙ passed_over outside

abbrev pub empty : ℕ → List (List ℕ)
empty channels = replicate channels []

pub none_passed : (channels : ℕ) → empty channels ≡ channel_histories channels []
none_passed channels = same_lists (empty channels) (channel_histories channels []) (length-replicate channels [] ∙ sym count) each
  where
    count : length (channel_histories channels []) ≡ channels
    count = length-map-range_with_len (λ c. values_through c []) 0 channels

    each : (k : ℕ) (d : List ℕ) → k < length (empty channels) → get_or (empty channels) k d ≡ get_or (channel_histories channels []) k d
    each k d below =
        let size : length (empty channels) ≡ channels = length-replicate channels [] in
        let inside : k < channels = omega (arith, below, size) in
        get_or-replicate channels k [] d inside
        ∙ sym (get_or-map-range_with_len (λ c. values_through c []) 0 channels k k d inside (omega arith))

pub histories_count : (channels : ℕ) (passed : List (ℕ × ℕ)) (hs : List (Vec ℕ Global)) → items_of hs ≡ channel_histories channels passed
    → length hs ≡ channels
histories_count channels passed hs is =
    sym (length-map hs (λ (h : Vec ℕ Global). h.items)) ∙ ap length is ∙ length-map-range_with_len (λ c. values_through c passed) 0 channels

pub history_at : (channels k : ℕ) (passed : List (ℕ × ℕ)) (hs : List (Vec ℕ Global)) (d : Vec ℕ Global) → items_of hs ≡ channel_histories channels passed →
    k < channels → (get_or hs k d).items ≡ values_through k passed
history_at channels k passed hs d is below =
    sym (get_or-map (λ (h : Vec ℕ Global). h.items) hs k d d.items (omega (arith, below, histories_count channels passed hs is)))
    ∙ ap (λ ls. get_or ls k d.items) is ∙ get_or-map-range_with_len (λ c. values_through c passed) 0 channels k k d.items below (omega arith)

-- ---- lines that are written one after the other

-- one channel further, where what is still to be written says how far it is
pub line_further : (passed : List (ℕ × ℕ)) (c : ℕ) (ws : List Wires) (d : Wires) (now : List ℕ) {later all : List ℕ} → c < length ws
    → now ++ history_lines passed c (drop c ws) ≡ all → later ≡ now ++ channel_line (get_or ws c d).channel.name (values_through c passed)
    → later ++ history_lines passed (c + 1) (drop (c + 1) ws) ≡ all
line_further passed c ws d now within so_far adds =
    let rest = drop (c + 1) ws in
    ap (λ ys. ys ++ history_lines passed (c + 1) rest) adds
    ∙ (append_assoc now (channel_line (get_or ws c d).channel.name (values_through c passed)) (history_lines passed (c + 1) rest)
    ∙ (ap (λ vs. now ++ history_lines passed c vs) (sym (drop_more ws c d within)) ∙ so_far))

pub lines_written : (passed : List (ℕ × ℕ)) (c : ℕ) (ws : List Wires) (now : List ℕ) {all : List ℕ} → length ws ≤ c
    → now ++ history_lines passed c (drop c ws) ≡ all → now ≡ all
lines_written passed c ws now over is =
    sym (append-nil now) ∙ (ap (λ vs. now ++ history_lines passed c vs) (sym (drop_all c ws over)) ∙ is)
