-- A text is one wave, or is refused for one cause at one line.
use Rattle.std.proofs.Common.{◌≡◌, ℕ, inl, inr, ◌+◌, Result, Ok, Err, List, [], refl, ap, sym, ◌∙◌, subst, arith}
use Rattle.std.specs.Prelude.{◌⊎◌, IfOk, IfErr}
use Rattle.wave_file.specs.declared.fault.WaveError.{WaveError}
use Rattle.wave_file.specs.declared.fault.WaveError.TheVariants.{Refused, NoMemory}
use Rattle.wave_file.specs.declared.fault.WaveFault.{WaveFault}
use Rattle.wave_file.specs.declared.wave.Wave.{Wave}
use Rattle.wave_file.specs.Waves.{WaveValue, wave_spelling}
use Rattle.wave_file.specs.WaveReading.{WavePlace, at_timescale, at_changes, IsFaultAt, no_line, bad_line, IsToldTo, at_first_line, IsWaveRefused, IsWaveText}
use Rattle.wave_file.specs.WaveFaults.{OfWaveRefusal}
use Rattle.wave_file.specs.WaveTold.{kept_wave}
use Rattle.wave_file.proofs.Readings.{shorter}
use Rattle.wave_file.proofs.Followed.{GoesOn, told_on, overlap, no_fault, same_fault}
use Rattle.wave_file.proofs.Fronts.{last_time}
use Rattle.wave_file.proofs.Reached.{wave_leads}

abbrev nothing : List ℕ
nothing = []

abbrev wave_at : WavePlace → WaveValue → WaveValue
wave_at (at_changes w now) other = w
wave_at p other = other

abbrev at_end : WaveValue → WavePlace
at_end w = at_changes w (last_time 0 w.changes)

told_whole : (text : List ℕ) (w : WaveValue) → IsWaveText text w → (lines : ℕ) × IsToldTo text lines (at_end w) []
told_whole text w is =
    subst (λ t. (lines : ℕ) × IsToldTo t lines (at_end w) []) (sym is.spelled)
    (told_on (wave_spelling w) 0 at_timescale (at_end w) (wave_spelling w) [] at_first_line (wave_leads w is.wave is.kept))

nothing_goes_on : (p : WavePlace) → GoesOn p [] → ⊥
nothing_goes_on p goes = absurd (omega (arith, shorter [] goes.behind p goes.l goes.begins))

pub wave_once : (text : List ℕ) (a b : WaveValue) → IsWaveText text a → IsWaveText text b → a ≡ b
wave_once text a b one two =
    by_case (overlap text first.0 second.0 (at_end a) (at_end b) [] [] first.1 second.1)
  where
    first : (lines : ℕ) × IsToldTo text lines (at_end a) []
    first = told_whole text a one

    second : (lines : ℕ) × IsToldTo text lines (at_end b) []
    second = told_whole text b two

    by_case : ((first.0 ≡ second.0) × (at_end a ≡ at_end b) × (nothing ≡ nothing)) ⊎ (GoesOn (at_end a) [] ⊎ GoesOn (at_end b) []) → a ≡ b
    by_case (inl same) = ap (λ p. wave_at p a) same.1
    by_case (inr (inl goes)) = absurd (nothing_goes_on _ goes)
    by_case (inr (inr goes)) = absurd (nothing_goes_on _ goes)

pub refusal_once : (text : List ℕ) (f g : WaveFault) (l m : ℕ) → IsWaveRefused text f l → IsWaveRefused text g m → (f ≡ g) × (l ≡ m)
refusal_once text f g l m one two =
    by_case (overlap text one.lines two.lines one.place two.place one.rest two.rest one.before two.before)
  where
    by_case : ((one.lines ≡ two.lines) × (one.place ≡ two.place) × (one.rest ≡ two.rest)) ⊎ (GoesOn one.place one.rest ⊎ GoesOn two.place two.rest) →
        (f ≡ g) × (l ≡ m)
    by_case (inl same) = (
      same_fault one.place one.rest f g one.here
          (subst (λ t. IsFaultAt one.place t g) (sym same.2) (subst (λ p. IsFaultAt p two.rest g) (sym same.1) two.here)),
      one.number ∙ ap (λ n. n + 1) same.0 ∙ sym two.number,
    )
    by_case (inr (inl goes)) = absurd (no_fault one.place one.rest f one.here goes)
    by_case (inr (inr goes)) = absurd (no_fault two.place two.rest g two.here goes)

no_fault_at_end : (w : WaveValue) (now : ℕ) (f : WaveFault) → IsFaultAt (at_changes w now) [] f → ⊥
no_fault_at_end w now f (no_line over none) = over refl
no_fault_at_end w now f (bad_line {l = k} {behind = b} begins bad) = absurd (omega (arith, shorter [] b (at_changes w now) k begins))

pub never_refused : (text : List ℕ) (w : WaveValue) (f : WaveFault) (l : ℕ) → IsWaveText text w → IsWaveRefused text f l → ⊥
never_refused text w f l is refused =
    by_case (overlap text whole.0 refused.lines (at_end w) refused.place [] refused.rest whole.1 refused.before)
  where
    whole : (lines : ℕ) × IsToldTo text lines (at_end w) []
    whole = told_whole text w is

    by_case : ((whole.0 ≡ refused.lines) × (at_end w ≡ refused.place) × ([] ≡ refused.rest)) ⊎ (GoesOn (at_end w) [] ⊎ GoesOn refused.place refused.rest) → ⊥
    by_case (inl same) = no_fault_at_end w (last_time 0 w.changes) f
        (subst (λ t. IsFaultAt (at_end w) t f) (sym same.2) (subst (λ p. IsFaultAt p refused.rest f) (sym same.1) refused.here))
    by_case (inr (inl goes)) = nothing_goes_on _ goes
    by_case (inr (inr goes)) = no_fault refused.place refused.rest f refused.here goes

-- what follows of a text that was read

pub only_one : (text : List ℕ) (r : Result Wave WaveError) → IfOk r (λ w. IsWaveText text (kept_wave w)) →
    IfOk r (λ w. (other : WaveValue) → IsWaveText text other → other ≡ kept_wave w)
only_one text (Ok w) is = λ other too. wave_once text other (kept_wave w) too is
only_one text (Err e) is = tt

pub no_other : (text : List ℕ) (r : Result Wave WaveError) → IfErr r (OfWaveRefusal (IsWaveRefused text)) →
    IfErr r (OfWaveRefusal (λ _fault _line. (other : WaveValue) → ¬ IsWaveText text other))
no_other text (Ok w) refused = tt
no_other text (Err (Refused fault line)) refused = λ other is. never_refused text other fault line is refused
no_other text (Err (NoMemory e)) refused = tt
