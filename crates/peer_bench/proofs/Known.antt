-- What is known of a device behind an answer.
use Rattle.std.proofs.Common.{◌≡◌, ℕ, Bool, true, false, [], ◌∷◌, length, sym, ap, subst, ◌∙◌, arith, refl}
use Rattle.std.specs.Prelude.{if◌then◌else◌, nat_lt}
use Rattle.std.proofs.lemmas.List.{append-nil}
use Rattle.peer_bench.specs.declared.note.Note.TheVariants.{Took}
use Rattle.peer_bench.specs.Asking.{PeerValue, HasNoted}

pub noted_none : (was is : PeerValue) → is ≡ was → HasNoted [] was is
noted_none was is e = record {
  log = ap (λ (p : PeerValue). p.log) e ∙ sym (append-nil was.log);
  spare = let same : is.spare ≡ was.spare = ap (λ (p : PeerValue). p.spare) e in omega arith;
  name = ap (λ (p : PeerValue). p.name) e;
  same = λ none. e;
}

-- of what it took

pub took_noted : (was is : PeerValue) (at chan value : ℕ) (b : Bool) → b ≡ true → HasNoted (Took at chan value ∷ []) was is →
    HasNoted (if b then Took at chan value ∷ [] else []) was is
took_noted was is at chan value b on noted = subst (λ (b : Bool). HasNoted (if b then Took at chan value ∷ [] else []) was is) (sym on) noted

pub took_nothing : (was : PeerValue) (at chan value : ℕ) (b : Bool) → b ≡ false → HasNoted (if b then Took at chan value ∷ [] else []) was was
took_nothing was at chan value b off =
    subst (λ (b : Bool). HasNoted (if b then Took at chan value ∷ [] else []) was was) (sym off) (noted_none was was refl)

pub told_some : (at chan value : ℕ) (b : Bool) → b ≡ nat_lt 0 (length (if b then Took at chan value ∷ [] else []))
told_some at chan value true = refl
told_some at chan value false = refl
