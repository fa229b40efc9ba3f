-- Generated texts are short.
use Rattle.std.proofs.Common.{◌≡◌, ◌∙◌, ℕ, zero, suc, ◌+◌, ◌-◌, ◌*◌, ◌<◌, ◌≤◌, ◌==◌, Bool, true, false, cond, List, [], ◌∷◌, ◌++◌, length, codes, refl, sym, ap, subst, arith, length-append}
use Rattle.std.specs.Prelude.{decimal}
use Rattle.std.specs.List.{flat_map, range_with_len}
use Rattle.program_maker.specs.Drawn.{word_at}
use Rattle.program_maker.specs.Generated.{byte_line, stage_sends, stage_begins, stage_line, generated_stages, generated_text, generated_variables}
use Rattle.grown_programs.proofs.Decimals.{short_decimal}
use Rattle.grown_programs.proofs.Lines.{SendsText, caret_text, declared_text, line_at, loop_text, minus_text, plus_text, sends_text, stage_text, text_behind, tilde_text, whole_text}
use Rattle.grown_programs.proofs.Plans.{channel_at, variable_at}

declared_size : (front : List ℕ) (n : ℕ) (more : List ℕ) → length front ≤ 6 → n ≤ 400 → length (byte_line front n ++ more) ≤ 33 + length more
declared_size front n more short few =
    let size = ap length (declared_text front n more) in
    let digits = short_decimal n few in
    omega (
      arith,
      size,
      digits,
      length-append front (decimal n ++ 32 ∷ 58 ∷ 32 ∷ 56 ∷ 59 ∷ 10 ∷ more),
      length-append (decimal n) (32 ∷ 58 ∷ 32 ∷ 56 ∷ 59 ∷ 10 ∷ more),
    )

sent_size : (i : ℕ) (bs : List ℕ) → i ≤ 400 → SendsText i bs → length bs ≤ 10
sent_size i bs few (plus_text k small) =
    let own = short_decimal i few in
    let other = short_decimal k (omega arith) in
    omega (arith, own, other, length-append (decimal i) (32 ∷ 43 ∷ 32 ∷ decimal k))
sent_size i bs few (minus_text k small) =
    let own = short_decimal i few in
    let other = short_decimal k (omega arith) in
    omega (arith, own, other, length-append (decimal i) (32 ∷ 45 ∷ 32 ∷ decimal k))
sent_size i bs few (caret_text k small) =
    let own = short_decimal i few in
    let other = short_decimal k (omega arith) in
    omega (arith, own, other, length-append (decimal i) (32 ∷ 94 ∷ 32 ∷ decimal k))
sent_size i bs few tilde_text = let own = short_decimal i few in omega (arith, own)

begins_size : (i : ℕ) → length (stage_begins i) ≤ 3
begins_size i = go (i == 1)
  where
    go : (b : Bool) → length (cond b [] (codes "|| ")) ≤ 3
    go true = omega arith
    go false = omega arith

stage_size : (w i : ℕ) (more : List ℕ) → i ≤ 400 → length (stage_line w i ++ more) ≤ 33 + length more
stage_size w i more few =
    let sent = stage_sends w i in
    let a = 93 ∷ 10 ∷ more in
    let b = channel_at i ++ 33 ∷ (sent ++ a) in
    let c = variable_at i ++ 59 ∷ 32 ∷ b in
    let size = ap length (stage_text w i more) in
    let own = short_decimal i few in
    let before = short_decimal (i - 1) (omega arith) in
    omega (
      arith,
      size,
      own,
      before,
      begins_size i,
      sent_size i sent few (sends_text w i),
      length-append (stage_begins i) (loop_text sent i more),
      length-append (decimal (i - 1)) (63 ∷ c),
      length-append (decimal i) (59 ∷ 32 ∷ b),
      length-append (decimal i) (33 ∷ (sent ++ a)),
      length-append sent a,
    )

lines_size : (line : ℕ → List ℕ) (count from : ℕ) (more : List ℕ) → ((i : ℕ) (behind : List ℕ) → i ≤ 400 → length (line i ++ behind) ≤ 33 + length behind) →
    from + count ≤ 401
    → length (flat_map line (range_with_len from count) ++ more) ≤ 33 * count + length more
lines_size line zero from more each few = omega arith
lines_size line (suc count) from more each few =
    let behind = flat_map line (range_with_len (from + 1) count) in
    let whole = lines_size line count (from + 1) more each (omega arith) in
    let here = each from behind (omega arith) in
    omega (arith, whole, here, length-append (line from ++ behind) more, length-append behind more)

pub short_text : (seed stages : ℕ) → 1 ≤ stages → stages ≤ 400 → length (generated_text seed stages) ≤ 262144
short_text seed stages some few =
    let inner = flat_map (byte_line (codes "chan c")) (range_with_len 1 (stages - 1)) in
    let last = generated_variables stages ++ text_behind seed stages in
    let out = byte_line (codes "out c") stages ++ last in
    let size = ap length (whole_text seed stages) in
    let first = declared_size (codes "in c") 0 (inner ++ out) (omega arith) (omega arith) in
    let channels = lines_size (byte_line (codes "chan c")) (stages - 1) 1 out (λ i behind less. declared_size (codes "chan c") i behind (omega arith) less)
    (omega arith) in
    let leads = declared_size (codes "out c") stages last (omega arith) few in
    let variables = lines_size (byte_line (codes "var v")) stages 1 (text_behind seed stages)
    (λ i behind less. declared_size (codes "var v") i behind (omega arith) less) (omega arith) in
    let body = lines_size (line_at seed) stages 1 (codes "end\n" ++ []) (λ i behind less. stage_size (word_at seed (i - 1)) i behind less) (omega arith) in
    omega (arith, size, first, channels, leads, variables, body)
