-- A text in a format that passed the reader's check: what the scan of it says of its shape, and what its bits stand for. Assumes nothing.
use Rattle.std.specs.Prelude.{Result, Ok, Err}
use Prim.Native.Nat.{ℕ, ◌-◌, ◌^◌, ◌≤◌, ◌<◌}
use mathlib.Core.Path.{◌≡◌, refl, sym, ap, ◌∙◌, subst}
use mathlib.Core.List.{List, ◌++◌}
use native.Mathlib.Omega.{arith}
use borrow.Author.Tests.{lt-ltb, le-ltb}
use lib.ListN.{length}
use lib.Pow.{pow_mono}
use lib.Ieee.{Float, Format}
use Rattle.lexical_util.specs.Answer.{Answer, done, refused, and_then, of_result}
use Rattle.lexical_util.specs.Reason.{reason_number}
use Rattle.lexical_util.specs.declared.answer.Refusal.{Refusal}
use Rattle.lexical_util.specs.Digit.{AreDigits}
use Rattle.lexical_util.proofs.RadixLaws.{radix_bounds}
use Rattle.lexical_format.specs.declared.format.Pair.{Pair}
use Rattle.lexical_format.specs.declared.format.NumberFormat.{NumberFormat}
use Rattle.lexical_format.specs.declared.options.Options.{Options}
use Rattle.lexical_format.specs.Format.{reading_format}
use Rattle.lexical_format.proofs.FormatLaws.{readable}
use Rattle.lexical_read_float_spec.specs.Shape.{Shape}
use Rattle.lexical_read_float_spec.specs.Parse.{Parsed, found, stuck, parse, of_parsed, shape_of}
use Rattle.lexical_read_float_spec.specs.Read.{grammar_of, value_of, read_text, read_float, longest_read}
use Rattle.lexical_read_float_spec.specs.Claims.{IsNearest, IsServed}
use Rattle.lexical_read_float_spec.proofs.RunLaws.{digits_append}
use Rattle.lexical_read_float_spec.proofs.ReadLaws.{found_is_printed, answer_nearest, texts_are_served}
use Rattle.lexical_read_float.specs.declared.scan.Number.{Number}
use Rattle.lexical_read_float.specs.Scan.{number_of, scanned_shape}
use Rattle.lexical_read_float.specs.Bits.{of_float_bits}
use Rattle.lexical_read_float.specs.Kept.{IsFull}
use Rattle.lexical_read_float.proofs.KeptLaws.{digits_full}

-- ---- the numbers of a format that passed
pub record Small (F : NumberFormat) (row : Pair) : Type 0 where
  pub small_radix : F.mantissa_radix ≤ 32
  pub digit_bits_lem : row.b ≤ 5
  pub base_bits : row.c ≤ 5
  pub some_power : 1 ≤ F.exponent_radix
  pub small_power : F.exponent_radix ≤ 32

pub small : (F : NumberFormat) (o : Options) (row : Pair) → reading_format F o ≡ done row → Small F row
small F o row e =
    let r = readable F o row e in
    let p = r.pair in
    let w = radix_bounds F.exponent_radix r.power in
    record {
      small_radix = rw r.radix_is (pow_mono p.few_bits);
      digit_bits_lem = p.few_bits;
      base_bits = p.few_base_bits;
      some_power = omega arith;
      small_power = w.1;
    }

-- ---- a text that was scanned
pub record IsNumberOf (f : Format) (F : NumberFormat) (o : Options) (row : Pair) (t : List ℕ) (n : Number) : Type 0 where
  pub shape : Shape
  pub is : n ≡ number_of t row.b F.exponent_radix shape
  pub digits : AreDigits (2 ^ row.b) (shape.whole ++ shape.fraction)
  pub reads : value_of f row F.exponent_radix t shape ≡ read_text f (grammar_of F o) t row
  pub full : IsFull n.kept

module _ (f : Format) (F : NumberFormat) (o : Options) (row : Pair) (t : List ℕ) where
  pub text_long : longest_read < length t → refused 12 0 ≡ read_text f (grammar_of F o) t row
  unfolding read_text
  text_long h = rw (lt-ltb longest_read (length t) h)

  by_shape : length t ≤ longest_read → read_text f (grammar_of F o) t row ≡ and_then (shape_of (grammar_of F o) t) (value_of f row F.exponent_radix t)
  unfolding read_text
  by_shape h = rw (le-ltb longest_read (length t) h)

  module _ (r : Result Number ℕ) (is : r ≡ scanned_shape t row.b F.exponent_radix (parse (grammar_of F o) t)) (short : length t ≤ longest_read) where
    pub text_wrong : (place : ℕ) → r ≡ Err place → refused 9 place ≡ read_text f (grammar_of F o) t row
    unfolding shape_of
    text_wrong place e = go (parse (grammar_of F o) t) refl (sym is ∙ e)
      where
        go : (p : Parsed Shape) → parse (grammar_of F o) t ≡ p → scanned_shape t row.b F.exponent_radix p ≡ Err place → refused 9 place ≡ read_text f (grammar_of F o) t row
        go (found s) q w = absurd (let z : ◌≡◌ {A = ℕ} 0 1 = cc in omega arith)
        go (stuck left) q w = let same : place ≡ length t - length left = cc in ap (refused 9) same ∙ sym (by_shape short ∙ ap (λ (x : Parsed Shape). and_then (of_parsed t x) (value_of f row F.exponent_radix t)) q)

    pub text_found : (n : Number) → reading_format F o ≡ done row → r ≡ Ok n → IsNumberOf f F o row t n
    unfolding shape_of
    text_found n admitted e = go (parse (grammar_of F o) t) refl (sym is ∙ e)
      where
        go : (p : Parsed Shape) → parse (grammar_of F o) t ≡ p → scanned_shape t row.b F.exponent_radix p ≡ Ok n → IsNumberOf f F o row t n
        go (stuck left) q w = absurd (let z : ◌≡◌ {A = ℕ} 0 1 = cc in omega arith)
        go (found s) q w =
            let same : n ≡ number_of t row.b F.exponent_radix s = cc in
            let shaped : shape_of (grammar_of F o) t ≡ done s = ap (of_parsed t) q in
            let formed = (found_is_printed F o row t s admitted shaped).0 in
            let radix = (readable F o row admitted).radix_is in
            record {
              shape = s;
              is = same;
              digits = digits_append (2 ^ row.b) s.whole s.fraction (rw radix at formed.whole_digits) (rw radix at formed.fraction_digits);
              reads = sym (by_shape short ∙ ap (λ (x : Answer Shape). and_then x (value_of f row F.exponent_radix t)) shaped);
              full = rw same (digits_full row.b (s.whole ++ s.fraction));
            }

-- ---- the format's check in front
module _ (f : Format) (F : NumberFormat) (o : Options) (t : List ℕ) where
  read_passed : (row : Pair) (a : Answer Float) → reading_format F o ≡ done row → a ≡ read_text f (grammar_of F o) t row → a ≡ read_float f F o t
  unfolding read_float
  read_passed row a e q = q ∙ sym (ap (λ (x : Answer Pair). and_then x (read_text f (grammar_of F o) t)) e)

  read_refused : (n p : ℕ) → reading_format F o ≡ refused n p → refused n p ≡ read_float f F o t
  unfolding read_float
  read_refused n p e = sym (ap (λ (x : Answer Pair). and_then x (read_text f (grammar_of F o) t)) e)

  -- what is said of the definition's answer is said of an answer that equals it
  promised : (a : Answer Float) → a ≡ read_float f F o t → (a ≡ read_float f F o t) × (IsNearest f F o t a × IsServed f F o t a)
  promised a e = (e, (subst (IsNearest f F o t) (sym e) (answer_nearest f F o t), subst (IsServed f F o t) (sym e) (texts_are_served f F o t)))

  -- ---- the answer of each width: the check's refusal, or from the bits that both share
  module _ (c : Result Pair Refusal) (checked : of_result c ≡ reading_format F o) where
    pub passed : (row : Pair) → c ≡ Ok row → reading_format F o ≡ done row
    passed row e = sym checked ∙ ap of_result e

    pub said_refused : (w : Refusal) → c ≡ Err w → (refused (reason_number w.reason) w.place ≡ read_float f F o t) × (IsNearest f F o t (refused (reason_number w.reason) w.place) × IsServed f F o t (refused (reason_number w.reason) w.place))
    said_refused w e = promised (refused (reason_number w.reason) w.place) (read_refused (reason_number w.reason) w.place (sym checked ∙ ap of_result e))

    pub said : (row : Pair) → c ≡ Ok row → (r : Result ℕ Refusal) → of_float_bits f r ≡ read_text f (grammar_of F o) t row
        → (x : Result ℕ Refusal) → r ≡ x → (of_float_bits f x ≡ read_float f F o t) × (IsNearest f F o t (of_float_bits f x) × IsServed f F o t (of_float_bits f x))
    said row p r is x e = promised (of_float_bits f x) (read_passed row (of_float_bits f x) (passed row p) (sym (ap (of_float_bits f) e) ∙ is))
