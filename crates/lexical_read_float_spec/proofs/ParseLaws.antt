-- What is printed is read back as the same shape. Assumes nothing.
use Prim.Native.Nat.{ℕ, ◌+◌, ◌≤◌, ◌<◌}
use mathlib.Core.Path.{◌≡◌, refl, ap, ◌∙◌}
use mathlib.Core.Bool.{Bool, true, false}
use mathlib.Core.List.{List, [], ◌∷◌, ◌++◌, map}
use Rattle.std.specs.Prelude.{None}
use native.Mathlib.Omega.{arith}
use native.Mathlib.Nat.{lt_of_lt_of_le}
use borrow.Author.Tests.{eq-eqb, ne_eqb, ltb-true, ltb-false}
use lib.Dec.{ltb, eqb}
use Rattle.lexical_util.specs.Digit.{digit_byte, digit_in, AreDigits}
use Rattle.lexical_util.proofs.DigitLaws.{byte_figure, byte_capital}
use Rattle.lexical_float.specs.Sign.{minus_sign}
use Rattle.lexical_read_float_spec.specs.Shape.{Grammar, Sign, unsigned, plus, minus, Tail, absent, exponent, Shape, sign_bytes, tail_bytes, fraction_bytes, print, Some, TailFits, FractionFits, WellFormed}
use Rattle.lexical_read_float_spec.specs.Parse.{Run, found, map_parsed, all_digits, exponent_digits, signed_exponent, parse_tail, with_tail, after_whole, one_or_more, parse_unsigned, begins_with, with_sign, parse}
use Rattle.lexical_read_float_spec.proofs.RunLaws.{Head, Ends, run_digits, run_all}

-- what check 3 and the checks of the radices give: point and mark are no digits of the radix, and differ
pub record Apart (G : Grammar) : Type 0 where
  pub radix_pos : 0 < G.radix
  pub radix_small : G.radix ≤ 32
  pub power_pos : 0 < G.exponent_radix
  pub power_small : G.exponent_radix ≤ 32
  pub point_off : digit_in G.radix G.point ≡ None
  pub mark_off : digit_in G.radix G.mark ≡ None
  pub differ : eqb G.mark G.point ≡ false

-- a digit's byte is no sign
pub byte_no_sign : (d : ℕ) → d < 32 → (eqb (digit_byte d) 43 ≡ false) × (eqb (digit_byte d) 45 ≡ false)
byte_no_sign d h = go (ltb d 10) refl
  where
    go : (b : Bool) → ltb d 10 ≡ b → (eqb (digit_byte d) 43 ≡ false) × (eqb (digit_byte d) 45 ≡ false)
    go true e = rw (byte_figure d (ltb-true d 10 e)) (ne_eqb (48 + d) 43 (λ z. omega arith), ne_eqb (48 + d) 45 (λ z. omega arith))
    go false e = rw (byte_capital d (ltb-false d 10 e)) (ne_eqb (55 + d) 43 (λ z. omega arith), ne_eqb (55 + d) 45 (λ z. omega arith))

-- a byte that is no sign begins the exponent's digits
pub no_sign : (power x : ℕ) (xs : List ℕ) → eqb x 43 ≡ false → eqb x 45 ≡ false → signed_exponent power (x ∷ xs) ≡ exponent_digits power unsigned (x ∷ xs)
unfolding signed_exponent
no_sign power x xs p q = rw (p, q)

-- behind the digits in front, a text that does not begin with the point is nothing or an exponent
pub no_point : (G : Grammar) (whole u : List ℕ) → Head (λ x. eqb x G.point ≡ false) u → after_whole G whole u ≡ map_parsed (with_tail whole false []) (parse_tail G u)
unfolding after_whole
no_point G whole [] h = unfold parse_tail in refl
no_point G whole (x ∷ xs) h = rw h

-- what stands behind the sign
abbrev pub unsigned_bytes : Grammar → Shape → List ℕ
unsigned_bytes G s = map digit_byte s.whole ++ (fraction_bytes G s.dot s.fraction ++ tail_bytes G s.tail)

-- the sign has no part in it
pub formed_signed : (G : Grammar) (n : Bool) (s : Shape) → WellFormed G s → WellFormed G (with_sign n s)
formed_signed G n s w = record { some_whole = w.some_whole; whole_digits = w.whole_digits; fraction_fits = w.fraction_fits; fraction_digits = w.fraction_digits; tail_fits = w.tail_fits }

module _ (G : Grammar) (A : Apart G) where
  all_digits_lem : (s : Sign) (ds : List ℕ) → Some ds → AreDigits G.exponent_radix ds → exponent_digits G.exponent_radix s (map digit_byte ds) ≡ found (exponent s ds)
  all_digits_lem s [] n all = absurd n
  all_digits_lem s (d ∷ ds) n all = ap (λ (r : Run). all_digits s r.got r.left) (run_all G.exponent_radix (d ∷ ds) A.power_small all)

  signed_back : (s : Sign) (ds : List ℕ) → Some ds → AreDigits G.exponent_radix ds → signed_exponent G.exponent_radix (sign_bytes s ++ map digit_byte ds) ≡ found (exponent s ds)
  signed_back unsigned [] n all = absurd n
  signed_back unsigned (d ∷ ds) n all =
      let k = byte_no_sign d (lt_of_lt_of_le all.0 A.power_small) in
      no_sign G.exponent_radix (digit_byte d) (map digit_byte ds) k.0 k.1 ∙ all_digits_lem unsigned (d ∷ ds) tt all
  signed_back plus ds n all = unfold signed_exponent in all_digits_lem plus ds n all
  signed_back minus ds n all = unfold signed_exponent in all_digits_lem minus ds n all

  pub tail_back : (τ : Tail) → TailFits G.exponent_radix τ → parse_tail G (tail_bytes G τ) ≡ found τ
  unfolding parse_tail
  tail_back absent h = refl
  tail_back (exponent s ds) h = rw (eq-eqb G.mark G.mark refl) (signed_back s ds h.0 h.1)

  pub ends_tail : (τ : Tail) → Ends G.radix (tail_bytes G τ)
  ends_tail absent = tt
  ends_tail (exponent s ds) = A.mark_off

  tail_no_point : (τ : Tail) → Head (λ x. eqb x G.point ≡ false) (tail_bytes G τ)
  tail_no_point absent = tt
  tail_no_point (exponent s ds) = A.differ

  fraction_back : (whole : List ℕ) (dot : Bool) (ds : List ℕ) (τ : Tail) → FractionFits dot ds → AreDigits G.radix ds → TailFits G.exponent_radix τ
      → after_whole G whole (fraction_bytes G dot ds ++ tail_bytes G τ) ≡ found (with_tail whole dot ds τ)
  fraction_back whole true ds τ fits all h =
      unfold after_whole in
      rw (eq-eqb G.point G.point refl, run_digits G.radix ds (tail_bytes G τ) A.radix_small all (ends_tail τ), tail_back τ h)
  fraction_back whole false ds τ fits all h = rw fits (no_point G whole (tail_bytes G τ) (tail_no_point τ) ∙ ap (map_parsed (with_tail whole false [])) (tail_back τ h))

  ends_fraction : (dot : Bool) (ds : List ℕ) (τ : Tail) → Ends G.radix (fraction_bytes G dot ds ++ tail_bytes G τ)
  ends_fraction true ds τ = A.point_off
  ends_fraction false ds τ = ends_tail τ

  -- ---- a text without its sign
  unsigned_back : (s : Shape) → WellFormed G s → parse_unsigned G (unsigned_bytes G s) ≡ found (with_tail s.whole s.dot s.fraction s.tail)
  unfolding parse_unsigned
  unsigned_back s w =
      rw (run_digits G.radix s.whole (fraction_bytes G s.dot s.fraction ++ tail_bytes G s.tail) A.radix_small w.whole_digits (ends_fraction s.dot s.fraction s.tail))
      (one_or_more_lem s.whole _ w.some_whole
      ∙ fraction_back s.whole s.dot s.fraction s.tail w.fraction_fits w.fraction_digits w.tail_fits)
    where
      one_or_more_lem : (ds left : List ℕ) → Some ds → one_or_more G ds left ≡ after_whole G ds left
      one_or_more_lem [] left n = absurd n
      one_or_more_lem (d ∷ ds) left n = refl

  -- it begins with a digit
  no_minus : (ds rest : List ℕ) → Some ds → AreDigits G.radix ds → begins_with 45 (map digit_byte ds ++ rest) ≡ false
  no_minus [] rest n all = absurd n
  no_minus (d ∷ ds) rest n all = (byte_no_sign d (lt_of_lt_of_le all.0 A.radix_small)).1

  -- ---- a text with its sign
  pub print_sign : (s : Shape) → WellFormed G s → begins_with 45 (print G s) ≡ s.negative
  unfolding print
  print_sign s w = go s.negative
    where
      go : (n : Bool) → begins_with 45 (minus_sign n ++ unsigned_bytes G s) ≡ n
      go true = refl
      go false = no_minus s.whole _ w.some_whole w.whole_digits

  pub parse_print : (s : Shape) → WellFormed G s → parse G (print G s) ≡ found s
  unfolding parse print
  parse_print s w = go s.negative (print_sign s w)
    where
      go : (n : Bool) → begins_with 45 (minus_sign n ++ unsigned_bytes G s) ≡ n → parse G (minus_sign n ++ unsigned_bytes G s) ≡ found (with_sign n s)
      go true e = ap (map_parsed (with_sign true)) (unsigned_back s w)
      go false e = rw e (ap (map_parsed (with_sign false)) (unsigned_back s w))
