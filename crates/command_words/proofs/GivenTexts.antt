-- The texts that words give.
use Rattle.std.proofs.Common.{◌≡◌, Option, refl}
use Rattle.clap.specs.Walk.{Text}
use Rattle.command_words.specs.SimulateWords.{GivenTexts}

pub texts_are : {a b c d e f m o g h i j k l n p : Option Text} → a ≡ g → b ≡ h → c ≡ i → d ≡ j → e ≡ k → f ≡ l → m ≡ n → o ≡ p
    → ◌≡◌ {A = GivenTexts} (record { net = a; script = b; order = c; seed = d; steps = e; power = f; against = m; delays = o })
    (record { net = g; script = h; order = i; seed = j; steps = k; power = l; against = n; delays = p })
texts_are p q r s t u v w = rw (p, q, r, s, t, u, v, w) refl
