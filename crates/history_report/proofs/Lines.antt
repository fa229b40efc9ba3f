-- The lines of a report of rounds.
use Rattle.std.proofs.Common.{◌≡◌, ◌∙◌, ℕ, ◌+◌, ◌<◌, ◌≤◌, List, ◌∷◌, ◌++◌, Vec, Global, length, get_or, drop, sym, ap, append_assoc}
use Rattle.std.proofs.lemmas.List.{append-nil, drop_all, drop_more}
use Rattle.chp_base.specs.declared.channel.Channel.{Channel}
use Rattle.chp_meaning.specs.Standing.{items_of}
use Rattle.history_report.specs.Reports.{channel_line}
use Rattle.history_report.specs.RoundsReports.{passed_lines}

module _ (cs : List Channel) (hs : List (Vec ℕ Global)) (k : ℕ) (now : List ℕ) where
  -- one channel further, where what is still to be written says how far it is
  pub passed_further : (c : Channel) (h : Vec ℕ Global) {later all : List ℕ} → k < length cs → k < length hs
      → now ++ passed_lines (drop k cs) (items_of (drop k hs)) ≡ all → later ≡ now ++ channel_line (get_or cs k c).name (get_or hs k h).items
      → later ++ passed_lines (drop (k + 1) cs) (items_of (drop (k + 1) hs)) ≡ all
  passed_further c h one other so_far adds =
      let ds = drop (k + 1) cs in
      let rest = drop (k + 1) hs in
      ap (λ ys. ys ++ passed_lines ds (items_of rest)) adds
      ∙ (append_assoc now (channel_line (get_or cs k c).name (get_or hs k h).items) (passed_lines ds (items_of rest))
      ∙ (ap (λ xs. now ++ passed_lines xs (items_of (get_or hs k h ∷ rest))) (sym (drop_more cs k c one))
      ∙ (ap (λ xs. now ++ passed_lines (drop k cs) (items_of xs)) (sym (drop_more hs k h other)) ∙ so_far)))

  pub all_passed : {all : List ℕ} → length cs ≤ k → now ++ passed_lines (drop k cs) (items_of (drop k hs)) ≡ all → now ≡ all
  all_passed over is =
      sym (append-nil now) ∙ (ap (λ xs. now ++ passed_lines xs (items_of (drop k hs))) (sym (drop_all k cs over)) ∙ is)
