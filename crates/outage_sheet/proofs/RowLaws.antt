-- A row of a sheet, by its cases, and what its answer is: floats that have bits, or a place within its bytes. Assumes nothing.
use Prim.Native.Nat.{ℕ, ◌+◌, ◌-◌, ◌≤◌, ◌<◌}
use mathlib.Core.Path.{◌≡◌, refl, sym, ap, ◌∙◌, subst}
use mathlib.Core.Bool.{Bool, true, false, not, cond}
use mathlib.Core.List.{List, [], ◌∷◌}
use Rattle.std.specs.Prelude.{Option, None, Some}
use native.Mathlib.Omega.{arith}
use borrow.Author.Rules.{part_to_end}
use borrow.Author.Tests.{eq-eqb, ne_eqb, eqb-true, eqb-false}
use lib.Dec.{T, ltb, eqb}
use lib.ListN.{length, take, drop, length-drop}
use lib.Ieee.{Float, binary64, is_nan}
use Rattle.lexical_util.specs.Answer.{Answer, done, refused, and_then, Check, checked}
use Rattle.lexical_util.proofs.AnswerLaws.{refused_done}
use Rattle.lexical_format.specs.declared.format.Pair.{Pair}
use Rattle.lexical_format.specs.declared.format.NumberFormat.{NumberFormat}
use Rattle.lexical_format.specs.declared.options.Options.{Options}
use Rattle.lexical_format.specs.Format.{reading_checks, pair_of, checked_pair, reading_format}
use Rattle.lexical_float.proofs.PartsLaws.{value_no_nan}
use Rattle.lexical_read_float_spec.specs.Shape.{Tail, absent, exponent, Shape, Grammar}
use Rattle.lexical_read_float_spec.specs.Parse.{Parsed, found, stuck, parse, of_parsed, shape_of}
use Rattle.lexical_read_float_spec.specs.Round.{too_large}
use Rattle.lexical_read_float_spec.specs.Read.{grammar_of, numerator, denominator, float_of, exponent_too_large, exponent_place, value_of, read_text, read_float, longest_read}
use Rattle.lexical_read_float_spec.proofs.ReadLaws.{read_is_nearest}
use Rattle.outage_spec.specs.declared.window.Window.{Window}
use Rattle.outage_spec.specs.Window.{window_checks, judged, from}
use Rattle.outage_spec.specs.Sheet.{before, lacks, fields_window, line_window, row_in}
use Rattle.outage_spec.proofs.BeforeLaws.{before_le, before_take}
use Rattle.outage_sheet.specs.Fill.{Stored}

-- ---- an answer whose place is at most n, and of what is answered P is known
abbrev pub Within : {A : Type 0} → (A → Type 0) → ℕ → Answer A → Type 0
Within P n (done a) = P a
Within P n (refused k p) = p ≤ n

within_checked : {A : Type 0} (P : A → Type 0) (n : ℕ) (cs : List Check) (a : Answer A) → Within P n a → Within P n (checked cs a)
within_checked P n [] a h = h
within_checked P n (c ∷ cs) a h = go c.1 (within_checked P n cs a h)
  where
    go : (t : Bool) → Within P n (checked cs a) → Within P n (cond t (refused c.0 0) (checked cs a))
    go true k = omega arith
    go false k = k

within_then : {A B : Type 0} (P : A → Type 0) (Q : B → Type 0) (n : ℕ) (a : Answer A) (f : A → Answer B) → Within P n a → ((x : A) → P x → Within Q n (f x)) → Within Q n (and_then a f)
within_then P Q n (done x) f h g = g x h
within_then P Q n (refused k p) f h g = h

within_from : {A : Type 0} (P : A → Type 0) (m n : ℕ) (a : Answer A) → Within P m a → Within P (n + m) (from n a)
within_from P m n (done x) h = h
within_from P m n (refused k p) h = omega arith

within_more : {A : Type 0} (P : A → Type 0) (m n : ℕ) → m ≤ n → (a : Answer A) → Within P m a → Within P n a
within_more P m n h (done x) k = k
within_more P m n h (refused j p) k = omega arith

-- ---- a float read is no NaN, and a refusal's place lies within the text
abbrev any : {A : Type 0} → A → Type 0
any a = Unit {0}

pair_within : (n : ℕ) (cs : List Check) (o : Option Pair) → Within any n (checked_pair cs o)
pair_within n cs None = omega arith
pair_within n cs (Some row) = within_checked any n cs (done row) tt

shape_within : (t : List ℕ) (p : Parsed Shape) → Within any (length t) (of_parsed t p)
shape_within t (found s) = tt
shape_within t (stuck left) = omega arith

exponent_within : (t : List ℕ) (tail : Tail) → exponent_place t tail ≤ length t
unfolding exponent_place
exponent_within t absent = omega arith
exponent_within t (exponent s ds) = omega arith

value_within : (row : Pair) (power : ℕ) (t : List ℕ) (s : Shape) → Within any (length t) (value_of binary64 row power t s)
unfolding value_of float_of
value_within row power t s = go (exponent_too_large power s.tail)
  where
    a : ℕ
    a = numerator row power s

    c : ℕ
    c = denominator row power s

    go : (b : Bool) → Within {A = Float} any (length t) (elim b [ true ↦ refused 10 (exponent_place t s.tail) | false ↦ float_of binary64 s.negative a c ])
    go true = exponent_within t s.tail
    go false = within_checked any (length t) ((11, too_large binary64 a c) ∷ []) _ tt

text_within : (G : Grammar) (t : List ℕ) (row : Pair) → Within any (length t) (read_text binary64 G t row)
unfolding read_text shape_of
text_within G t row =
    within_checked any (length t) ((12, ltb longest_read (length t)) ∷ []) (and_then (shape_of G t) (value_of binary64 row G.exponent_radix t))
    (within_then any any (length t) (shape_of G t) (value_of binary64 row G.exponent_radix t) (shape_within t (parse G t)) (λ s _. value_within row G.exponent_radix t s))

abbrev pub IsNumber : Float → Type 0
IsNumber x = T (not (is_nan x))

module _ (F : NumberFormat) (o : Options) where
  read_place : (t : List ℕ) → Within any (length t) (read_float binary64 F o t)
  unfolding read_float reading_format
  read_place t =
      within_then any any (length t) (reading_format F o) (read_text binary64 (grammar_of F o) t) (pair_within (length t) (reading_checks F o) (pair_of F))
      (λ row _. text_within (grammar_of F o) t row)

  pub read_within : (t : List ℕ) → Within IsNumber (length t) (read_float binary64 F o t)
  read_within t = go (read_float binary64 F o t) refl (read_place t)
    where
      go : (a : Answer Float) → read_float binary64 F o t ≡ a → Within any (length t) a → Within IsNumber (length t) a
      go (done x) e h = value_no_nan x _ _ _ (read_is_nearest binary64 F o t x e).nearest.signed
      go (refused k p) e h = h

  -- ---- a row's window, which can be stored, or a place within the row
  fields_within : (s e : List ℕ) → Within Stored (length s + 1 + length e) (fields_window F o s e)
  unfolding fields_window
  fields_within s e =
      let n = length s + 1 + length e in
      within_then IsNumber Stored n (read_float binary64 F o s) _ (within_more IsNumber (length s) n (omega arith) (read_float binary64 F o s) (read_within s))
      (λ x hx. within_then IsNumber Stored n (from (length s + 1) (read_float binary64 F o e)) _ (within_from IsNumber (length e) (length s + 1) (read_float binary64 F o e) (read_within e))
      (λ y hy. within_checked Stored n (window_checks (record { start = x; end = y })) (done (record { start = x; end = y })) (hx, hy)))

  line_within : (l : List ℕ) → Within Stored (length l) (line_window F o l)
  unfolding line_window
  line_within l = go (lacks 32 l) refl
    where
      s : List ℕ
      s = before 32 l

      e : List ℕ
      e = drop (length s + 1) l

      go : (b : Bool) → lacks 32 l ≡ b → Within Stored (length l) (cond b (refused 15 0) (checked ((15, not (lacks 32 e)) ∷ []) (fields_window F o s e)))
      go true q = omega arith
      go false q =
          let d = eqb-false (length s) (length l) q in
          within_checked Stored (length l) ((15, not (lacks 32 e)) ∷ []) (fields_window F o s e)
          (within_more Stored (length s + 1 + length e) (length l) (omega (arith, before_le 32 l, length-drop (length s + 1) l, d)) (fields_window F o s e) (fields_within s e))

  row_within : (l : List ℕ) → Within Stored (length l) (row_in F o l)
  unfolding row_in
  row_within l =
      within_checked Stored (length l) ((15, lacks 10 l) ∷ []) (line_window F o (before 10 l))
      (within_more Stored (length (before 10 l)) (length l) (before_le 10 l) (line_window F o (before 10 l)) (line_within (before 10 l)))

-- ---- the fields, by their cases
module _ (F : NumberFormat) (o : Options) (s e : List ℕ) where
  pub fields_start : (k p : ℕ) → read_float binary64 F o s ≡ refused k p → fields_window F o s e ≡ refused k p
  unfolding fields_window
  fields_start k p f = rw f

  pub fields_end : (x : Float) (k p : ℕ) → read_float binary64 F o s ≡ done x → read_float binary64 F o e ≡ refused k p → fields_window F o s e ≡ refused k (length s + 1 + p)
  unfolding fields_window
  fields_end x k p f g = rw (f, g)

  pub fields_both : (x y : Float) → read_float binary64 F o s ≡ done x → read_float binary64 F o e ≡ done y → fields_window F o s e ≡ judged (record { start = x; end = y })
  unfolding fields_window
  fields_both x y f g = rw (f, g)

-- ---- a line, whose first space the code found at m
module _ (F : NumberFormat) (o : Options) (line : List ℕ) where
  pub line_none : length (before 32 line) ≡ length line → line_window F o line ≡ refused 15 0
  unfolding line_window
  line_none k = rw (eq-eqb (length (before 32 line)) (length line) k)

  module _ (m : ℕ) (f : m ≡ length (before 32 line)) (k : m ≡ length line → ⊥) (end : List ℕ) (g : end ≡ drop (m + 1) line) where
    pub line_more : (length (before 32 end) ≡ length end → ⊥) → line_window F o line ≡ refused 15 0
    unfolding line_window
    line_more d = rw (← f, ne_eqb m (length line) k, ← g, ne_eqb (length (before 32 end)) (length end) d)

    pub line_one : length (before 32 end) ≡ length end → (x : Answer Window) → x ≡ fields_window F o (take m line) end → x ≡ line_window F o line
    unfolding line_window
    line_one d x e =
        let s : take m line ≡ before 32 line = ap (λ (i : ℕ). take i line) f ∙ before_take 32 line in
        e ∙ rw (s, ← f, ne_eqb m (length line) k, ← g, eq-eqb (length (before 32 end)) (length end) d)

  -- ---- a row, whose LF it found there
  pub row_none : length (before 10 line) ≡ length line → row_in F o line ≡ refused 15 0
  unfolding row_in
  row_none k = rw (eq-eqb (length (before 10 line)) (length line) k)

  pub row_line : (m : ℕ) → m ≡ length (before 10 line) → (m ≡ length line → ⊥) → row_in F o line ≡ line_window F o (take m line)
  unfolding row_in
  row_line m f k =
      let s : take m line ≡ before 10 line = ap (λ (i : ℕ). take i line) f ∙ before_take 10 line in
      rw (s, ← f, ne_eqb m (length line) k)

-- ---- the row that stands at p in a sheet, where the code was lent the part from there on
pub end_there : (s : List ℕ) (p m : ℕ) → m ≡ length (before 10 (take (length s - p) (drop p s))) → m ≡ length (before 10 (drop p s))
end_there s p m e = e ∙ ap (λ (l : List ℕ). length (before 10 l)) (part_to_end s p)

module _ (F : NumberFormat) (o : Options) (s : List ℕ) (p : ℕ) where
  module _ (x a : Answer Window) (e : x ≡ row_in F o (take (length s - p) (drop p s))) (f : x ≡ a) where
    pub row_there : row_in F o (drop p s) ≡ a
    row_there = sym (ap (row_in F o) (part_to_end s p)) ∙ sym e ∙ f

    pub row_known : Within Stored (length s - p) a
    row_known = rw (← length-drop p s) (subst (Within Stored (length (drop p s))) row_there (row_within F o (drop p s)))

  pub row_ends : (m : ℕ) → m ≡ length (before 10 (drop p s)) → (w : Window) → row_in F o (drop p s) ≡ done w → p + m < length s
  row_ends m f w e = go (eqb (length (before 10 (drop p s))) (length (drop p s))) refl
    where
      go : (b : Bool) → lacks 10 (drop p s) ≡ b → p + m < length s
      go true q = absurd (refused_done 15 0 w (sym (row_none F o (drop p s) (eqb-true (length (before 10 (drop p s))) (length (drop p s)) q)) ∙ e))
      go false q = omega (arith, f, eqb-false (length (before 10 (drop p s))) (length (drop p s)) q, before_le 10 (drop p s), length-drop p s)
