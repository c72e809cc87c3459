-- From the parts of a float to the float, and from what a call is asked for to its answer. One proof for both widths. Assumes nothing.
use Prim.Native.Nat.{ℕ, suc, ◌/◌, ◌≤◌}
use mathlib.Core.Path.{◌≡◌, refl, sym, ap, ◌∙◌, subst}
use mathlib.Core.Bool.{Bool, true, false, cond}
use mathlib.Core.List.{List, ◌++◌}
use native.Mathlib.Nat.{mod-lt, lt_of_not-le, zero-lt-suc}
use native.Mathlib.Decide.{dec_le}
use native.Mathlib.Omega.{arith}
use borrow.Author.Tests.{le-leb}
use lib.Dec.{T, leb, eqb, lit≤}
use lib.IntN.{ℤ}
use lib.ListN.{length}
use lib.Ieee.{Float, nan, inf, fin, Format, binary32, binary64, low, hid, ones, minus, to_bits, fits}
use Rattle.lexical_float.specs.declared.num.Parts.{Parts}
use Rattle.lexical_util.specs.Answer.{Answer, done, refused, and_then, written, held}
use Rattle.lexical_exponent.specs.Exponent.{scale, place}
use Rattle.lexical_float.specs.Fields.{biased, mantissa, exponent}
use Rattle.lexical_float.specs.Parts.{parts_of, IsValue}
use Rattle.lexical_float.specs.Sign.{minus_sign}
use Rattle.lexical_util.proofs.AnswerLaws.{refused_done, done_same}
use Rattle.lexical_exponent.proofs.DifferenceLaws.{minus_ge, minus_lt}
use Rattle.lexical_format.specs.declared.checks.CheckedFormat.{CheckedFormat}
use Rattle.lexical_format.specs.declared.format.Pair.{Pair}
use Rattle.lexical_format.specs.declared.format.NumberFormat.{NumberFormat}
use Rattle.lexical_format.specs.declared.options.Options.{Options}
use Rattle.lexical_format.specs.Format.{writing_format, settled, checked_format}
use Rattle.lexical_write_float_spec.specs.declared.layout.Layout.{Layout}
use Rattle.lexical_write_float_spec.specs.declared.layout.Layout.TheVariants as layouts
use Rattle.lexical_write_float_spec.specs.Value.{Value, exact_digits}
use Rattle.lexical_write_float_spec.specs.Text.{layout_of, digits_so_far, laid_out, text, exponent_text}
use Rattle.lexical_write_float_spec.specs.Write.{limited_text, float_text, write_text, NoLonger, NeverRefused, longest_text}
use Rattle.lexical_write_float_spec.specs.Range.{Between}
use Rattle.lexical_write_float.specs.Code.{Passed, checked_row, OfFloat, parts_text, asked_by_parts}
use Rattle.lexical_write_float.proofs.FloatLaws.{float_normal}
use Rattle.lexical_write_float_spec.proofs.WriteLaws.{longest_text_lem}

-- ---- the check's answer
pub passed : (F : NumberFormat) (o : Options) (c : CheckedFormat) → done c ≡ checked_format F o → Passed F o c
unfolding checked_format
passed F o c e = go (writing_format F o) refl e
  where
    go : (a : Answer Pair) → writing_format F o ≡ a → done c ≡ and_then a (λ row. done (settled o row)) → Passed F o c
    go (done row) w e = record { row = row; is_row = w; is_settled = done_same c (settled o row) e }
    go (refused n p) w e = absurd (refused_done n p c (sym e))

-- a text takes no more of the pair's row than its two bit counts
row_text : (F : NumberFormat) (o : Options) (row : Pair) (m : ℕ) (e : ℤ) → text F o (checked_row (settled o row)) m e ≡ text F o row m e
unfolding text
row_text F o row m e = go (exact_digits row.b m e) (place row.b (scale m e)) (digits_so_far F o m (exact_digits row.b m e)) (layout_of F o (scale m e))
  where
    go : (D : List ℕ) (p : ℤ) (so_far : ℕ) (l : Layout) → laid_out F o (checked_row (settled o row)) D p so_far l ≡ laid_out F o row D p so_far l
    go D p so_far layouts.Scientific = unfold exponent_text in refl
    go D p so_far layouts.Negative = refl
    go D p so_far layouts.Positive = refl

-- ---- the parts of a float
near_minus : (a b : ℕ) → a ≤ 8000 → b ≤ 8000 → Between 8000 8000 (minus a b)
near_minus a b h k = go (dec_le b a)
  where
    go : Dec (b ≤ a) → Between 8000 8000 (minus a b)
    go (yes g) = rw (minus_ge a b g) (omega arith)
    go (no g) = rw (minus_lt a b (lt_of_not-le g)) (omega arith)

field_few : (f : Format) → (ones f ≤ 7999) × (suc (low f) ≤ 8000)
field_few binary32 = (lit≤ tt, lit≤ tt)
field_few binary64 = (lit≤ tt, lit≤ tt)

exponent_near : (f : Format) (x : Float) → Between 8000 8000 (exponent f x)
exponent_near f x = go (eqb (biased f x) 0)
  where
    go : (b : Bool) → Between 8000 8000 (cond b (minus 0 (low f)) (minus (biased f x) (suc (low f))))
    go true = let w = field_few f in near_minus 0 (low f) (omega arith) (omega (arith, w.1))
    go false = let w = field_few f in near_minus (biased f x) (suc (low f)) (omega (arith, w.0, mod-lt (to_bits f x / hid f) (zero-lt-suc (ones f)))) w.1

own_parts : (f : Format) (x : Float) → T (fits f x) → IsValue x (parts_of f x) → OfFloat (parts_of f x)
unfolding parts_of
own_parts f nan t v = tt
own_parts f (inf s) t v = tt
own_parts f (fin s m e) t v =
    let x : Float = fin s m e in
    record { width = f; m = m; e = e; sign = s; fits_width = t; is = float_normal f s m (mantissa f x) e (exponent f x) t v; near = exponent_near f x }

pub of_float : (f : Format) (x : Float) (r : Parts) → T (fits f x) → r ≡ parts_of f x → IsValue x r → OfFloat r
of_float f x r t e v = subst OfFloat (sym e) (own_parts f x t (subst (IsValue x) e v))

-- ---- what is asked for, by the parts and by the float
own_text : (f : Format) (F : NumberFormat) (o : Options) (x : Float) (row : Pair) → T (fits f x) → IsValue x (parts_of f x) → parts_text F o (settled o row) (parts_of f x) ≡ float_text F o x row
unfolding parts_of float_text
own_text f F o nan row t v = refl
own_text f F o (inf s) row t v = refl
own_text f F o (fin s m e) row t v =
    let x : Float = fin s m e in
    ap (λ (l : List ℕ). done (minus_sign s ++ l))
    (ap (λ (y : Value). limited_text F o (checked_row (settled o row)) y.m y.e) (float_normal f s m (mantissa f x) e (exponent f x) t v) ∙ (unfold limited_text in row_text F o row _ _))

parts_text_lem : (f : Format) (F : NumberFormat) (o : Options) (x : Float) (r : Parts) → T (fits f x) → r ≡ parts_of f x → IsValue x r → asked_by_parts F o r ≡ write_text F o x
unfolding checked_format write_text
parts_text_lem f F o x r t e v = go (writing_format F o)
  where
    go : (a : Answer Pair) → and_then (and_then a (λ row. done (settled o row))) (λ c. parts_text F o c r) ≡ and_then a (float_text F o x)
    go (done row) = rw e (own_text f F o x row t (subst (IsValue x) e v))
    go (refused n p) = refl

-- ---- what is said of every answer
module _ (F : NumberFormat) (o : Options) (x : Float) (out : List ℕ) (a : Answer ℕ) (e : a ≡ written (write_text F o x) out) where
  no_longer : (f : Format) → T (fits f x) → NoLonger a
  no_longer f t = subst NoLonger (sym e) (go (write_text F o x) refl)
    where
      fit : (n : ℕ) (b : Bool) → n ≤ longest_text → NoLonger (cond b (done n) (refused 8 0))
      fit n true h = h
      fit n false h = tt

      go : (w : Answer (List ℕ)) → write_text F o x ≡ w → NoLonger (written w out)
      go (done u) w = fit (length u) (leb (length u) (length out)) (longest_text_lem f F o x u t w)
      go (refused n p) w = tt

never_refused : (F : NumberFormat) (o : Options) (x : Float) (out : List ℕ) (a : Answer ℕ) → a ≡ written (write_text F o x) out → NeverRefused F o x out a
unfolding write_text float_text
never_refused F o nan out a e = λ row p w h. absurd p
never_refused F o (inf s) out a e = λ row p w h. absurd p
never_refused F o (fin s m d) out a e = λ row p w h. e ∙ rw (w, le-leb (length (minus_sign s ++ limited_text F o row m d)) (length out) h) refl

-- ---- all that a call promises: the answer, the lent bytes, and the two
abbrev pub Answered : NumberFormat → Options → Float → List ℕ → Answer ℕ → List ℕ → Type 0
Answered F o x out a b = (a ≡ written (write_text F o x) out) × ((b ≡ held (write_text F o x) out) × (NoLonger a × NeverRefused F o x out a))

answered : (f : Format) (F : NumberFormat) (o : Options) (x : Float) (out : List ℕ) (a : Answer ℕ) (b : List ℕ) → T (fits f x) → a ≡ written (write_text F o x) out → b ≡ held (write_text F o x) out → Answered F o x out a b
answered f F o x out a b t e h = (e, (h, (no_longer F o x out a e f t, never_refused F o x out a e)))

pub float_answered : (f : Format) (F : NumberFormat) (o : Options) (x : Float) (out : List ℕ) → T (fits f x) → (r : Parts) (a : Answer ℕ) (b : List ℕ) → r ≡ parts_of f x → IsValue x r
    → a ≡ written (asked_by_parts F o r) out → b ≡ held (asked_by_parts F o r) out → Answered F o x out a b
float_answered f F o x out t r a b e v w h =
    let same = parts_text_lem f F o x r t e v in
    answered f F o x out a b t (w ∙ ap (λ (k : Answer (List ℕ)). written k out) same) (h ∙ ap (λ (k : Answer (List ℕ)). held k out) same)
