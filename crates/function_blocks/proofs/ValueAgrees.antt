-- An expression's value is that of the variables that it reads.
use Rattle.std.proofs.Common.{◌≡◌, ℕ, ◌+◌, ◌*◌, ◌/◌, ◌%◌, ◌^◌, ◌-◌, true, refl, ap, ◌∙◌}
use Rattle.width_check.specs.Processes.{Formula, constant, reading, joined, inverted, chained, compared, Formulas, no_parts, and_part, Operations, no_operations, and_operation}
use Rattle.width_check.specs.Values.{width_of, widths_of, operated, value, joined_value, chained_value}
use Rattle.width_check.specs.Reads.{reads, reads_in_parts, reads_in_operations}
use Rattle.function_blocks.proofs.Tables.{or_left, or_right}
use Rattle.function_blocks.proofs.Ordered.{eq_self}

module _ (f g : ℕ → ℕ) where
  mutual
    pub value_agrees : (e : Formula) → ((x : ℕ) → reads x e ≡ true → f x ≡ g x) → value f e ≡ value g e
    value_agrees (constant w v) h = refl
    value_agrees (reading x high low at) h = ap (λ n. n / 2 ^ low % 2 ^ (high + 1 - low)) (h x (eq_self x))
    value_agrees (joined parts) h = joined_agrees parts h
    value_agrees (inverted e) h = ap (λ n. 2 ^ width_of e - 1 - n) (value_agrees e h)
    value_agrees (chained e more) h =
        ap (λ n. chained_value f (width_of e) n more) (value_agrees e (λ x k. h x (or_left _ _ k)))
        ∙ chained_agrees (width_of e) (value g e) more (λ x k. h x (or_right (reads x e) _ k))
    value_agrees (compared op d e) h =
        ap (λ n. operated op (width_of d) n (value f e)) (value_agrees d (λ x k. h x (or_left _ _ k)))
        ∙ ap (operated op (width_of d) (value g d)) (value_agrees e (λ x k. h x (or_right (reads x d) _ k)))

    joined_agrees : (parts : Formulas) → ((x : ℕ) → reads_in_parts x parts ≡ true → f x ≡ g x) → joined_value f parts ≡ joined_value g parts
    joined_agrees no_parts h = refl
    joined_agrees (and_part e more) h =
        ap (λ n. n * 2 ^ widths_of more + joined_value f more) (value_agrees e (λ x k. h x (or_left _ _ k)))
        ∙ ap (λ n. value g e * 2 ^ widths_of more + n) (joined_agrees more (λ x k. h x (or_right (reads x e) _ k)))

    chained_agrees : (width n : ℕ) (more : Operations) → ((x : ℕ) → reads_in_operations x more ≡ true → f x ≡ g x)
        → chained_value f width n more ≡ chained_value g width n more
    chained_agrees width n no_operations h = refl
    chained_agrees width n (and_operation op e more) h =
        ap (λ k. chained_value f width (operated op width n k) more) (value_agrees e (λ x k. h x (or_left _ _ k)))
        ∙ chained_agrees width (operated op width n (value g e)) more (λ x k. h x (or_right (reads x e) _ k))
