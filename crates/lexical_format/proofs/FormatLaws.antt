-- What is known of a format that passed its check. Assumes nothing.
use Prim.Native.Nat.{ℕ, zero, suc, ◌*◌, ◌/◌, ◌^◌, ◌≤◌, ◌<◌}
use mathlib.Core.Path.{◌≡◌, refl, sym, ap, ◌∙◌, subst}
use mathlib.Core.Bool.{Bool, true, false, cond, ◌&&◌, ◌||◌}
use mathlib.Core.List.{List, [], ◌∷◌, ◌++◌}
use Rattle.std.specs.Prelude.{Option, None, Some}
use native.Mathlib.Nat.{le_of_suc-le-suc, not-suc-le-zero}
use native.Mathlib.Omega.{arith}
use borrow.Author.Tests.{not-false, eqb-true, ltb-false}
use lib.Dec.{T, ltb, leb, eqb, eqb→eq, ltb→lt, leb→le}
use lib.IntN.{ℤ, nat_abs}
use lib.ListN.{length, get_or}
use lib.Ieee.Fits.{and_l, and_r}
use Rattle.lexical_util.specs.Answer.{done, refused, Check, checked}
use Rattle.lexical_util.specs.Digit.{is_digit, is_radix, is_width}
use Rattle.lexical_exponent.specs.Exponent.{power}
use Rattle.lexical_util.proofs.AnswerLaws.{refused_done, Passed, passed}
use Rattle.lexical_exponent.proofs.ExponentLaws.{power_exact}
use Rattle.lexical_format.specs.declared.format.Pair.{Pair}
use Rattle.lexical_format.specs.declared.format.NumberFormat.{NumberFormat}
use Rattle.lexical_format.specs.declared.options.Options.{Options}
use Rattle.lexical_format.specs.Format.{pairs, find_pair, pair_of, bad_byte, bad_bytes, bad_counts, bad_breaks, reading_checks, writing_checks, checked_pair, reading_format, writing_format, most_count}

-- ---- the table of pairs: the radix is 2 ^ b, the base 2 ^ c, and c divides b
pub record IsPair (p : Pair) : Type 0 where
  pub radix_is : p.radix ≡ 2 ^ p.b
  pub base_is : p.base ≡ 2 ^ p.c
  pub some_bits : 0 < p.b
  pub few_bits : p.b ≤ 5
  pub base_bits : 0 < p.c
  pub few_base_bits : p.c ≤ 5
  pub whole : p.b / p.c * p.c ≡ p.b

-- so p * b / c is whole
pub power_whole : (row : Pair) (p : ℤ) → IsPair row → power row.b row.c p * row.c ≡ nat_abs p * row.b
power_whole row p P = power_exact row.b row.c p P.whole

abbrev test : Pair → Bool
test p = eqb p.radix (2 ^ p.b) && eqb p.base (2 ^ p.c) && ltb 0 p.b && leb p.b 5 && ltb 0 p.c && leb p.c 5 && eqb (p.b / p.c * p.c) p.b

tested : (p : Pair) → T (test p) → IsPair p
tested p t =
    let A = eqb p.radix (2 ^ p.b) in
    let B = eqb p.base (2 ^ p.c) in
    let C = ltb 0 p.b in
    let D = leb p.b 5 in
    let E = ltb 0 p.c in
    let F = leb p.c 5 in
    let G = eqb (p.b / p.c * p.c) p.b in
    let t6 = and_l (A && B && C && D && E && F) G t in
    let t5 = and_l (A && B && C && D && E) F t6 in
    let t4 = and_l (A && B && C && D) E t5 in
    let t3 = and_l (A && B && C) D t4 in
    let t2 = and_l (A && B) C t3 in
    record {
      radix_is = eqb→eq p.radix (2 ^ p.b) (and_l A B t2);
      base_is = eqb→eq p.base (2 ^ p.c) (and_r A B t2);
      some_bits = ltb→lt 0 p.b (and_r (A && B) C t3);
      few_bits = leb→le p.b 5 (and_r (A && B && C) D t4);
      base_bits = ltb→lt 0 p.c (and_r (A && B && C && D) E t5);
      few_base_bits = leb→le p.c 5 (and_r (A && B && C && D && E) F t6);
      whole = eqb→eq (p.b / p.c * p.c) p.b (and_r (A && B && C && D && E && F) G t);
    }

abbrev AllTested : List Pair → Type 0
AllTested [] = Unit {0}
AllTested (p ∷ ps) = T (test p) × AllTested ps

all_tested : AllTested pairs
unfolding pairs
all_tested = (tt, (tt, (tt, (tt, (tt, (tt, (tt, (tt, (tt, (tt, tt))))))))))

row_tested : (rows : List Pair) (i : ℕ) (other : Pair) → i < length rows → AllTested rows → IsPair (get_or rows i other)
row_tested [] i other h all = absurd (not-suc-le-zero h)
row_tested (p ∷ ps) zero other h all = tested p all.0
row_tested (p ∷ ps) (suc i) other h all = row_tested ps i other (le_of_suc-le-suc h) all.1

pub row_is_pair : (i : ℕ) (other : Pair) → i < length pairs → IsPair (get_or pairs i other)
row_is_pair i other h = row_tested pairs i other h all_tested

none_some : {A : Type 0} (a : A) → None ≡ Some a → ⊥
none_some a e = let z : ◌≡◌ {A = ℕ} 0 1 = cc in omega arith

-- the row found is one of them, and has the radix and the base asked for
found_row : (radix base : ℕ) (ps : List Pair) (row : Pair) → AllTested ps → find_pair radix base ps ≡ Some row → IsPair row × (row.radix ≡ radix) × (row.base ≡ base)
unfolding find_pair
found_row radix base [] row all e = absurd (none_some row e)
found_row radix base (p ∷ ps) row all e = go (eqb p.radix radix) refl (eqb p.base base) refl (found_row radix base ps row all.1) e
  where
    go : (a : Bool) → eqb p.radix radix ≡ a → (b : Bool) → eqb p.base base ≡ b → (find_pair radix base ps ≡ Some row → IsPair row × (row.radix ≡ radix) × (row.base ≡ base))
        → cond (a && b) (Some p) (find_pair radix base ps) ≡ Some row → IsPair row × (row.radix ≡ radix) × (row.base ≡ base)
    go true q true r more e =
        let same : p ≡ row = cc in
        subst (λ (x : Pair). IsPair x × (x.radix ≡ radix) × (x.base ≡ base)) same (tested p all.0, eqb-true p.radix radix q, eqb-true p.base base r)
    go true q false r more e = more e
    go false q b r more e = more e

-- ---- a format that the reader takes
-- a byte that point or mark may be
pub record GoodByte (radix x : ℕ) : Type 0 where
  pub from : 33 ≤ x
  pub to : x ≤ 126
  pub off : is_digit radix x ≡ false

pub record Readable (F : NumberFormat) (o : Options) (row : Pair) : Type 0 where
  pub pair : IsPair row
  pub radix_is : F.mantissa_radix ≡ 2 ^ row.b
  pub base_is : F.exponent_base ≡ row.base
  pub power : is_radix F.exponent_radix ≡ true
  pub point : GoodByte F.mantissa_radix o.decimal_point
  pub mark : GoodByte F.mantissa_radix o.exponent
  pub differ : eqb o.decimal_point o.exponent ≡ false

pub neither : (a b : Bool) → (a || b) ≡ false → (a ≡ false) × (b ≡ false)
neither true b e = (e, absurd (let z : ◌≡◌ {A = ℕ} 0 1 = cc in omega arith))
neither false b e = (refl, e)

good_byte : (radix x : ℕ) → bad_byte radix x ≡ false → GoodByte radix x
unfolding bad_byte
good_byte radix x e =
    let a = neither (ltb x 33) _ e in
    let b = neither (ltb 126 x) _ a.1 in
    let c = neither (eqb x 43) _ b.1 in
    record {
      from = ltb-false x 33 a.0;
      to = ltb-false 126 x b.0;
      off = (neither (eqb x 45) _ c.1).1;
    }

with_row : (F : NumberFormat) (o : Options) (found row : Pair) (more : List Check) → pair_of F ≡ Some found → checked (reading_checks F o ++ more) (done found) ≡ done row → Readable F o row × Passed more
unfolding pair_of bad_bytes
with_row F o found row more q e =
    let k = passed (reading_checks F o ++ more) found row e in
    let r = found_row F.mantissa_radix F.exponent_base pairs row all_tested (q ∙ ap Some k.1) in
    let a = neither (bad_byte F.mantissa_radix o.decimal_point) _ k.0.1.0 in
    let b = neither (bad_byte F.mantissa_radix o.exponent) _ a.1 in (
      record {
        pair = r.0;
        radix_is = sym r.1 ∙ r.0.radix_is;
        base_is = sym r.2;
        power = not-false (is_radix F.exponent_radix) k.0.0;
        point = good_byte F.mantissa_radix o.decimal_point a.0;
        mark = good_byte F.mantissa_radix o.exponent b.0;
        differ = b.1;
      },
      k.0.1.1,
    )

pub readable : (F : NumberFormat) (o : Options) (row : Pair) → reading_format F o ≡ done row → Readable F o row
unfolding reading_format
readable F o row e = go (pair_of F) refl e
  where
    go : (p : Option Pair) → pair_of F ≡ p → checked_pair (reading_checks F o) p ≡ done row → Readable F o row
    go None q e = absurd (refused_done 1 0 row e)
    go (Some found) q e = (with_row F o found row [] q e).0

-- ---- a format that the writer admits
pub record Writable (F : NumberFormat) (o : Options) (row : Pair) : Type 0 where
  pub reads : Readable F o row
  pub least : o.min_significant_digits ≤ most_count
  pub most : o.max_significant_digits ≤ most_count
  pub breaks : bad_breaks o ≡ false
  pub width : is_width o.exponent_width ≡ true

pub writable : (F : NumberFormat) (o : Options) (row : Pair) → writing_format F o ≡ done row → Writable F o row
unfolding writing_format bad_counts
writable F o row e = go (pair_of F) refl e
  where
    go : (p : Option Pair) → pair_of F ≡ p → checked_pair (reading_checks F o ++ writing_checks (bad_counts o) F o) p ≡ done row → Writable F o row
    go None q e = absurd (refused_done 1 0 row e)
    go (Some found) q e =
        let k = with_row F o found row (writing_checks (bad_counts o) F o) q e in
        let a = neither (ltb most_count o.min_significant_digits) _ k.1.1.0 in
        let b = neither (ltb most_count o.max_significant_digits) _ a.1 in
        record {
          reads = k.0;
          least = ltb-false most_count o.min_significant_digits a.0;
          most = ltb-false most_count o.max_significant_digits b.0;
          breaks = k.1.1.1.0;
          width = not-false (is_width o.exponent_width) k.1.1.1.1.0;
        }

-- what the writer admits, the reader takes, with the same row
pub writable_reads : (F : NumberFormat) (o : Options) (row : Pair) → writing_format F o ≡ done row → reading_format F o ≡ done row
unfolding writing_format reading_format
writable_reads F o row e = go (pair_of F) e
  where
    fewer : (cs more : List Check) (a : Pair) → checked (cs ++ more) (done a) ≡ done row → checked cs (done a) ≡ done row
    fewer [] more a e = ap done (passed more a row e).1
    fewer (c ∷ cs) more a e = at c.1 (fewer cs more a) e
      where
        at : (t : Bool) → (checked (cs ++ more) (done a) ≡ done row → checked cs (done a) ≡ done row) → cond t (refused c.0 0) (checked (cs ++ more) (done a)) ≡ done row
            → cond t (refused c.0 0) (checked cs (done a)) ≡ done row
        at true k q = q
        at false k q = k q

    go : (p : Option Pair) → checked_pair (reading_checks F o ++ writing_checks (bad_counts o) F o) p ≡ done row → checked_pair (reading_checks F o) p ≡ done row
    go None e = e
    go (Some found) e = fewer (reading_checks F o) (writing_checks (bad_counts o) F o) found e
