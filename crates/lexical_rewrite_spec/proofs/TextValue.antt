-- The text of a value has exactly that value. Assumes nothing.
use Prim.Native.Nat.{ℕ, zero, suc, ◌+◌, ◌-◌, ◌*◌, ◌/◌, ◌^◌, ◌<◌, max}
use mathlib.Core.Path.{◌≡◌, refl, sym, ap, ap₂, ◌∙◌}
use mathlib.Core.Bool.{Bool, true, false, not, cond, ◌&&◌}
use mathlib.Core.List.{List, [], ◌∷◌, ◌++◌, append_assoc, append-nil}
use native.Mathlib.Nat.{mul_assoc, mul_comm, mul-zero, zero-mul, zero-lt-suc}
use native.Mathlib.Omega.{arith}
use borrow.Author.Tests.{ltb-true, ltb-false}
use lib.Dec.{ltb, leb-suc-zero}
use lib.IntN.{ℤ, pos, negsuc, nat_abs, ◌+ℤ◌}
use lib.Signed.{lt_z, shr_z}
use lib.ListN.{length, take, drop, length-append, length-replicate, length-drop, take-append-drop, replicate-append-replicate}
use lib.Seq.{take_all}
use lib.Pow.{pow-add}
use lib.Ieee.{up, down}
use Rattle.lexical_util.specs.Digit.{digits_value}
use Rattle.lexical_exponent.specs.Exponent.{scale, place, power, modulo}
use Rattle.lexical_util.proofs.RadixLaws.{radix_bounds}
use Rattle.lexical_write_integer_spec.specs.Digits.{digits, widened}
use Rattle.lexical_write_integer_spec.proofs.DigitsLaws.{pow_mul, radix_above, digits_value_lem, count_pos}
use Rattle.lexical_write_integer_spec.proofs.NumeralLaws.{widened_value, length_one}
use Rattle.lexical_format.specs.declared.format.Pair.{Pair}
use Rattle.lexical_format.specs.declared.format.NumberFormat.{NumberFormat}
use Rattle.lexical_format.specs.declared.options.Options.{Options}
use Rattle.lexical_format.proofs.FormatLaws.{power_whole, Readable}
use Rattle.lexical_write_float_spec.specs.declared.layout.Layout.TheVariants.{Scientific, Negative, Positive}
use Rattle.lexical_write_float_spec.specs.Value.{exact_digits}
use Rattle.lexical_write_float_spec.specs.Text.{least, trim, is_scientific, layout_of, digits_so_far}
use Rattle.lexical_write_float_spec.proofs.WriteLaws.{first_place}
use Rattle.lexical_read_float_spec.specs.Shape.{unsigned, plus, Tail, absent, exponent, Shape}
use Rattle.lexical_read_float_spec.specs.Parse.{with_tail}
use Rattle.lexical_read_float_spec.specs.Read.{magnitude, has_minus, numerator, denominator}
use Rattle.lexical_rewrite_spec.proofs.TextShape.{noughts, tail_of, pad, scientific_shape, negative_shape, positive_shape, shape_in, shape_of_text}
use Rattle.lexical_rewrite_spec.proofs.DigitRuns.{value_padded}
use Rattle.lexical_rewrite_spec.proofs.Balance.{Balanced, balance}

module _ (F : NumberFormat) (o : Options) (row : Pair) (R : Readable F o row) where
  abbrev b : ℕ
  b = row.b

  abbrev E : ℕ
  E = F.exponent_radix

  -- the power of two that the exponent multiplies by, and the one that it divides by
  abbrev gains : Tail → ℕ
  gains τ = cond (has_minus τ) 0 (row.c * magnitude E τ)

  abbrev loses : Tail → ℕ
  loses τ = cond (has_minus τ) (row.c * magnitude E τ) 0

  -- ---- a shape whose digits are ds with zeros in front and behind, and which balances the place p of their first
  record Laid (ds : List ℕ) (p : ℤ) (s : Shape) : Type 0 where
    before : ℕ
    behind : ℕ
    all : s.whole ++ s.fraction ≡ noughts before ++ (ds ++ noughts behind)
    balanced : Balanced b (length ds - 1) (b * behind + gains s.tail) (b * length s.fraction + loses s.tail) p

  picked : (t : Bool) (k : ℕ) → (cond t 1 (2 ^ k) ≡ 2 ^ cond t 0 k) × (cond t (2 ^ k) 1 ≡ 2 ^ cond t k 0)
  picked true k = (refl, refl)
  picked false k = (refl, refl)

  numerator_is : (ds : List ℕ) (p : ℤ) (s : Shape) (l : Laid ds p s) → numerator row E s ≡ digits_value (2 ^ b) ds * 2 ^ (b * l.behind + gains s.tail)
  unfolding numerator
  numerator_is ds p s l =
      let v : digits_value (2 ^ b) (s.whole ++ s.fraction) ≡ digits_value (2 ^ b) ds * 2 ^ (b * l.behind) = ap (digits_value (2 ^ b)) l.all ∙ value_padded (2 ^ b) l.before l.behind ds ∙ ap (λ (x : ℕ). digits_value (2 ^ b) ds * x) (pow_mul 2 b l.behind) in
      ap₂ (λ (x y : ℕ). x * y) v (picked (has_minus s.tail) (row.c * magnitude E s.tail)).0
      ∙ mul_assoc (digits_value (2 ^ b) ds) (2 ^ (b * l.behind)) (2 ^ gains s.tail) ∙ ap (λ (x : ℕ). digits_value (2 ^ b) ds * x) (sym (pow-add 2 (b * l.behind) (gains s.tail)))

  denominator_is : (s : Shape) → denominator row E s ≡ 2 ^ (b * length s.fraction + loses s.tail)
  unfolding denominator
  denominator_is s = ap (λ (x : ℕ). 2 ^ (b * length s.fraction) * x) (picked (has_minus s.tail) (row.c * magnitude E s.tail)).1 ∙ sym (pow-add 2 (b * length s.fraction) (loses s.tail))

  -- ---- the exponent is worth b bits for each digit of p
  magnitude_is : (p : ℤ) → row.c * magnitude E (tail_of F o row p) ≡ b * nat_abs p
  magnitude_is p =
      let q = radix_bounds E R.power in
      ap (λ (x : ℕ). row.c * x) (widened_value E o.exponent_width (power row.b row.c p) q.0) ∙ mul_comm row.c (power row.b row.c p) ∙ power_whole row p R.pair ∙ mul_comm (nat_abs p) row.b

  not_negative : (p : ℕ) → has_minus (tail_of F o row (pos p)) ≡ false
  not_negative p = go F.required_exponent_sign
    where
      go : (t : Bool) → has_minus (exponent (cond t plus unsigned) (widened o.exponent_width (digits E (power row.b row.c (pos p))))) ≡ false
      go true = refl
      go false = refl

  exponent_balance : (n z k : ℕ) (p : ℤ) → k ≡ n + z → Balanced b n (b * z + gains (tail_of F o row p)) (b * k + loses (tail_of F o row p)) p
  exponent_balance n z k (pos P) e =
      let m = magnitude_is (pos P) in
      let q : b * k ≡ b * (n + z) = ap (λ (x : ℕ). b * x) e in
      rw (not_negative P, m) (omega arith)
  exponent_balance n z k (negsuc Q) e =
      let m = magnitude_is (negsuc Q) in
      let q : b * k ≡ b * (n + z) = ap (λ (x : ℕ). b * x) e in
      rw m (omega arith)

  -- ---- each layout
  module _ (ds : List ℕ) (many : 0 < length ds) where
    zeros_length : (n : ℕ) → length {A = ℕ} (noughts n) ≡ n
    zeros_length n = length-replicate n 0

    split_padded : (n : ℕ) → take n ds ++ (drop n ds ++ pad F o row ds) ≡ ds ++ pad F o row ds
    split_padded n = sym (append_assoc (take n ds) (drop n ds) (pad F o row ds)) ∙ ap (λ (l : List ℕ). l ++ pad F o row ds) (take-append-drop n ds)

    padded_length : (n : ℕ) → length (drop n ds ++ pad F o row ds) ≡ length ds - n + (least F o - length ds)
    padded_length n = length-append (drop n ds) (pad F o row ds) ∙ ap₂ (λ (x y : ℕ). x + y) (length-drop n ds) (zeros_length (least F o - length ds))

    laid_scientific : (p : ℤ) → Laid ds p (scientific_shape F o row ds (tail_of F o row p))
    unfolding scientific_shape
    laid_scientific p = go (ltb 1 (length ds)) refl (trim F o && not F.no_exponent_without_fraction)
      where
        one : ltb 1 (length ds) ≡ false → take 1 ds ≡ ds
        one e = take_all 1 ds (ltb-false 1 (length ds) e)

        go : (a : Bool) → ltb 1 (length ds) ≡ a → (t : Bool)
            → Laid ds p (cond a (with_tail (take 1 ds) true (drop 1 ds ++ pad F o row ds) (tail_of F o row p)) (cond t (with_tail (take 1 ds) false [] (tail_of F o row p)) (with_tail (take 1 ds) true (noughts (max 1 (least F o - 1))) (tail_of F o row p))))
        go true e t = record { before = 0; behind = least F o - length ds; all = split_padded 1; balanced = exponent_balance (length ds - 1) (least F o - length ds) (length (drop 1 ds ++ pad F o row ds)) p (padded_length 1) }
        go false e true = record {
          before = 0;
          behind = 0;
          all = ap (λ (l : List ℕ). l ++ []) (one e);
          balanced = exponent_balance (length ds - 1) 0 0 p (let h = ltb-false 1 (length ds) e in omega arith);
        }
        go false e false = record {
          before = 0;
          behind = max 1 (least F o - 1);
          all = ap (λ (l : List ℕ). l ++ noughts (max 1 (least F o - 1))) (one e);
          balanced = exponent_balance (length ds - 1) (max 1 (least F o - 1)) (length (noughts (max 1 (least F o - 1)))) p (let h = ltb-false 1 (length ds) e in omega (arith, zeros_length (max 1 (least F o - 1))));
        }

    laid_negative : (Q : ℕ) → Laid ds (negsuc Q) (negative_shape F o row ds (negsuc Q))
    unfolding negative_shape
    laid_negative Q =
        let z : ℕ = least F o - length ds in
        let q : suc Q - 1 ≡ Q = omega arith in
        let k : length (noughts (suc Q - 1) ++ (ds ++ pad F o row ds)) ≡ Q + (length ds + z) = length-append (noughts (suc Q - 1)) (ds ++ pad F o row ds) ∙ ap₂ (λ (x y : ℕ). x + y) (zeros_length (suc Q - 1) ∙ q) (padded_length 0 ∙ (let g : length ds - 0 + z ≡ length ds + z = omega arith in g)) in
        record {
          before = suc Q;
          behind = z;
          all = ap (λ (n : ℕ). 0 ∷ (noughts n ++ (ds ++ pad F o row ds))) q;
          balanced = let w : b * length (noughts (suc Q - 1) ++ (ds ++ pad F o row ds)) ≡ b * (length ds - 1 + suc Q + z) = ap (λ (x : ℕ). b * x) (k ∙ (let g : Q + (length ds + z) ≡ length ds - 1 + suc Q + z = omega arith in g)) in rw mul-zero (omega arith);
        }

    laid_positive : (P so_far : ℕ) → Laid ds (pos P) (positive_shape F o row ds (P + 1) so_far)
    unfolding positive_shape
    laid_positive P so_far = go (ltb (P + 1) (length ds)) refl (trim F o)
      where
        filled : (n h : ℕ) → P + 1 ≡ length ds + h → (k : ℕ) → k ≡ n → Balanced b (length ds - 1) (b * (h + n) + row.c * 0) (b * k + 0) (pos P)
        filled n h e k s =
            let q : b * P ≡ b * (length ds - 1 + h) = ap (λ (x : ℕ). b * x) (let g : P ≡ length ds - 1 + h = omega arith in g) in
            let w : b * k ≡ b * n = ap (λ (x : ℕ). b * x) s in
            rw mul-zero (omega arith)

        go : (a : Bool) → ltb (P + 1) (length ds) ≡ a → (t : Bool)
            → Laid ds (pos P) (cond a (with_tail (take (P + 1) ds) true (drop (P + 1) ds ++ pad F o row ds) absent) (cond t (with_tail (ds ++ noughts (P + 1 - length ds)) false [] absent) (with_tail (ds ++ noughts (P + 1 - length ds)) true (0 ∷ noughts (least F o - so_far)) absent)))
        go true e t =
            let h = ltb-true (P + 1) (length ds) e in
            let z : ℕ = least F o - length ds in
            let w : b * length (drop (P + 1) ds ++ pad F o row ds) ≡ b * (length ds - (P + 1) + z) = ap (λ (x : ℕ). b * x) (padded_length (P + 1)) in
            let q : b * (length ds - 1) ≡ b * (P + (length ds - (P + 1))) = ap (λ (x : ℕ). b * x) (let g : length ds - 1 ≡ P + (length ds - (P + 1)) = omega arith in g) in
            record { before = 0; behind = z; all = split_padded (P + 1); balanced = rw mul-zero (omega arith) }
        go false e true =
            let h = ltb-false (P + 1) (length ds) e in
            let f : ℕ = P + 1 - length ds in
            record { before = 0; behind = f + 0; all = append-nil (ds ++ noughts f) ∙ ap (λ (n : ℕ). ds ++ noughts n) (let g : f ≡ f + 0 = omega arith in g); balanced = filled 0 f (omega arith) 0 refl }
        go false e false =
            let h = ltb-false (P + 1) (length ds) e in
            let f : ℕ = P + 1 - length ds in
            let n : ℕ = suc (least F o - so_far) in
            record {
              before = 0;
              behind = f + n;
              all = append_assoc ds (noughts f) (noughts n) ∙ ap (λ (l : List ℕ). ds ++ l) (replicate-append-replicate f n 0);
              balanced = filled n f (omega arith) (length (noughts n)) (zeros_length n);
            }

    laid_in : (so_far : ℕ) (s : ℤ) → Laid ds (place b s) (shape_in F o row ds (place b s) so_far (layout_of F o s))
    unfolding layout_of
    laid_in so_far s = go (is_scientific F o s) s
      where
        go : (t : Bool) (s : ℤ) → Laid ds (place b s) (shape_in F o row ds (place b s) so_far (cond t Scientific (cond (lt_z s (pos 0)) Negative Positive)))
        go true s = laid_scientific (place b s)
        go false (pos n) = rw (leb-suc-zero n) (laid_positive (n / b) so_far)
        go false (negsuc n) = laid_negative (n / b)

  -- ---- a value's text
  laid_value : (m : ℕ) (e : ℤ) (ds : List ℕ) (s : Shape) → digits_value (2 ^ b) ds ≡ m * 2 ^ modulo e b → (0 < m → place b (scale m e) ≡ shr_z e b +ℤ pos (length ds - 1)) → Laid ds (place b (scale m e)) s
      → m * up e * denominator row E s ≡ numerator row E s * down e
  laid_value m e ds s v first l =
      ap (λ (x : ℕ). m * up e * x) (denominator_is s) ∙ go m first l.balanced
      ∙ sym (ap (λ (x : ℕ). x * down e) (numerator_is ds (place b (scale m e)) s l ∙ ap (λ (x : ℕ). x * 2 ^ (b * l.behind + gains s.tail)) v))
    where
      go : (m : ℕ) → (0 < m → place b (scale m e) ≡ shr_z e b +ℤ pos (length ds - 1)) → Balanced b (length ds - 1) (b * l.behind + gains s.tail) (b * length s.fraction + loses s.tail) (place b (scale m e))
          → m * up e * 2 ^ (b * length s.fraction + loses s.tail) ≡ m * 2 ^ modulo e b * 2 ^ (b * l.behind + gains s.tail) * down e
      go zero first w = simp zero-mul
      go (suc m) first w = balance b (length ds - 1) (suc m) (b * l.behind + gains s.tail) (b * length s.fraction + loses s.tail) e (place b (scale (suc m) e)) R.pair.some_bits (first (zero-lt-suc m)) w

  pub text_value : (m : ℕ) (e : ℤ) → m * up e * denominator row E (shape_of_text F o row m e) ≡ numerator row E (shape_of_text F o row m e) * down e
  unfolding shape_of_text exact_digits
  text_value m e =
      let n = m * 2 ^ modulo e b in
      let r = radix_above b R.pair.some_bits in
      laid_value m e (digits (2 ^ b) n) (shape_in F o row (digits (2 ^ b) n) (place b (scale m e)) (digits_so_far F o m (exact_digits b m e)) (layout_of F o (scale m e)))
      (digits_value_lem (2 ^ b) r n)
      (λ M. first_place b m e R.pair.some_bits M ∙ ap (λ (k : ℕ). shr_z e b +ℤ pos (k - 1)) (length_one (2 ^ b) n))
      (laid_in (digits (2 ^ b) n) (count_pos (2 ^ b) n) (digits_so_far F o m (exact_digits b m e)) (scale m e))
