-- Records, one behind the other: none where no byte is left, else the one in front and those behind it. And the way back: the record of a format is read as that format, and every format that the writer admits has one. Assumes nothing.
use Prim.Native.Nat.{ℕ, zero, suc, ◌+◌, ◌-◌, ◌*◌, ◌/◌, ◌%◌, ◌^◌, ◌≤◌, ◌<◌}
use mathlib.Core.Path.{◌≡◌, refl, ◌∙◌}
use mathlib.Core.Bool.{Bool, true, false, cond, not}
use mathlib.Core.List.{List, [], ◌∷◌, ◌++◌}
use native.Mathlib.Omega.{arith}
use borrow.Author.Tests.{ltb-false, lt-ltb, le-ltb}
use lib.Dec.{ltb, eqb}
use lib.IntN.{ℤ, pos, negsuc, neg_ℤ}
use lib.Pow.{pow_mono}
use lib.ListN.{length, drop, length-drop}
use Rattle.lexical_util.proofs.RadixLaws.{radix_bounds}
use Rattle.lexical_util.proofs.WidthLaws.{width_bounds}
use Rattle.lexical_format.specs.declared.options.RoundMode.{RoundMode}
use Rattle.lexical_format.specs.declared.options.RoundMode.TheVariants.{Round, Truncate}
use Rattle.lexical_format.specs.Format.{or_absent, low_break, outside, farthest_break, bad_breaks}
use Rattle.lexical_format.proofs.FormatLaws.{neither, writable}
use Rattle.lexical_rewrite_spec.specs.declared.text_format.TextFormat.{TextFormat}
use Rattle.lexical_rewrite_spec.specs.Record.{twos_complement, number_format_of_record, options_of_record, format_of_record, records_of, formats_of, flag_byte, mode_byte, word_of, record_of, joined, FitsWord, record_size}
use Rattle.lexical_rewrite_spec.specs.Demand.{RecordIsBytes, RecordIsReadBack, RecordsAreReadBack, AdmittedFits}

count_none : (n : ℕ) → n ≡ 0 → (n + (record_size - 1)) / record_size ≡ 0
count_none n h = omega arith

count_more : (n : ℕ) → 0 < n → (n + (record_size - 1)) / record_size ≡ suc (((n - record_size) + (record_size - 1)) / record_size)
count_more n h = omega arith

pub no_records : (bytes : List ℕ) → length bytes ≡ 0 → formats_of bytes ≡ []
unfolding formats_of records_of
no_records bytes h = rw (count_none (length bytes) h)

pub more_records : (bytes : List ℕ) → 0 < length bytes → formats_of bytes ≡ format_of_record bytes ∷ formats_of (drop record_size bytes)
unfolding formats_of records_of
more_records bytes h = rw (count_more (length bytes) h, length-drop record_size bytes)

-- ---- the record of a format, and back
flag_back : (on : Bool) → not (eqb (flag_byte on) 0) ≡ on
flag_back true = refl
flag_back false = refl

mode_back : (mode : RoundMode) → cond (not (eqb (mode_byte mode) 0)) Truncate Round ≡ mode
mode_back Round = refl
mode_back Truncate = refl

word_back : (n : ℕ) → n % 256 + 256 * (n / 256) ≡ n
word_back n = omega arith

signed_back : (z : ℤ) → FitsWord z → twos_complement (word_of z % 256 + 256 * (word_of z / 256)) ≡ z
signed_back (pos n) h = rw (word_back n, lt-ltb n 32768 h)
signed_back (negsuc n) h =
    let twice : 65535 - (65535 - n) ≡ n = omega arith in
    rw (word_back (65535 - n), le-ltb (65535 - n) 32768 (omega arith), twice)

pub record_is_read_back : RecordIsReadBack
unfolding record_of number_format_of_record options_of_record
record_is_read_back G rest fits =
    let F = G.format in
    let o = G.options in
    rw (
      flag_back F.required_exponent_notation,
      flag_back F.no_exponent_notation,
      flag_back F.required_exponent_sign,
      flag_back F.no_exponent_without_fraction,
      flag_back o.trim_floats,
      mode_back o.round_mode,
      word_back o.max_significant_digits,
      word_back o.min_significant_digits,
      signed_back o.positive_exponent_break fits.high_break,
      signed_back o.negative_exponent_break fits.low_break,
    )

flag_byte_lem : (on : Bool) → flag_byte on < 256
flag_byte_lem true = omega arith
flag_byte_lem false = omega arith

mode_byte_lem : (mode : RoundMode) → mode_byte mode < 256
mode_byte_lem Round = omega arith
mode_byte_lem Truncate = omega arith

word_small : (z : ℤ) → FitsWord z → word_of z < 65536
word_small (pos n) h = omega arith
word_small (negsuc n) h = omega arith

word_bytes : (n : ℕ) → n < 65536 → (n % 256 < 256) × (n / 256 < 256)
word_bytes n h = (omega arith, omega arith)

pub record_is_bytes : RecordIsBytes
unfolding record_of
record_is_bytes G fits =
    let F = G.format in
    let o = G.options in
    let required = flag_byte_lem F.required_exponent_notation in
    let forbidden = flag_byte_lem F.no_exponent_notation in
    let sign = flag_byte_lem F.required_exponent_sign in
    let fraction = flag_byte_lem F.no_exponent_without_fraction in
    let trim = flag_byte_lem o.trim_floats in
    let mode = mode_byte_lem o.round_mode in
    let most = word_bytes o.max_significant_digits (omega (arith, fits.most)) in
    let least = word_bytes o.min_significant_digits (omega (arith, fits.least)) in
    let high = word_bytes (word_of o.positive_exponent_break) (word_small o.positive_exponent_break fits.high_break) in
    let low = word_bytes (word_of o.negative_exponent_break) (word_small o.negative_exponent_break fits.low_break) in
    let radix : F.mantissa_radix < 256 = omega (arith, fits.radix) in
    let base : F.exponent_base < 256 = omega (arith, fits.base) in
    let power : F.exponent_radix < 256 = omega (arith, fits.exponent_radix) in
    let width : o.exponent_width < 256 = omega (arith, fits.width) in
    let point : o.decimal_point < 256 = omega (arith, fits.point) in
    let mark : o.exponent < 256 = omega (arith, fits.mark) in
    (radix, (base, (power, (required, (forbidden, (sign, (fraction, (trim, (mode, (most.0, (most.1, (least.0, (least.1, (high.0, (high.1, (low.0, (low.1, (width, (point, (mark, tt))))))))))))))))))))

-- ---- records one behind the other
record_length : (G : TextFormat) (rest : List ℕ) → 0 < length (record_of G ++ rest)
unfolding record_of
record_length G rest = omega arith

behind_record : (G : TextFormat) (rest : List ℕ) → drop record_size (record_of G ++ rest) ≡ rest
unfolding record_of
behind_record G rest = refl

pub records_are_read_back : RecordsAreReadBack
unfolding joined
records_are_read_back [] all = no_records [] refl
records_are_read_back (G ∷ Gs) all =
    more_records (record_of G ++ joined Gs) (record_length G (joined Gs))
    ∙ rw (record_is_read_back G (joined Gs) all.0, behind_record G (joined Gs), records_are_read_back Gs all.1)

-- ---- the fields of an admitted format
low_fits : (z : ℤ) → outside (neg_ℤ (pos farthest_break)) (negsuc 0) (or_absent (negsuc 4) z) ≡ false → FitsWord z
low_fits (pos zero) e = omega arith
low_fits (pos (suc n)) e = absurd (let z : ◌≡◌ {A = ℕ} 0 1 = cc in omega arith)
low_fits (negsuc n) e = let h = ltb-false (farthest_break - 1) n (neither (ltb (farthest_break - 1) n) _ e).0 in omega arith

high_fits : (z : ℤ) → outside (pos 1) (pos farthest_break) (or_absent (pos 9) z) ≡ false → FitsWord z
high_fits (pos zero) e = omega arith
high_fits (pos (suc n)) e = let h = ltb-false farthest_break (suc n) (neither (ltb (suc n) 1) _ e).1 in omega arith
high_fits (negsuc n) e = absurd (let z : ◌≡◌ {A = ℕ} 0 1 = cc in omega arith)

pub admitted_fits : AdmittedFits
unfolding bad_breaks
admitted_fits G row e =
    let F = G.format in
    let o = G.options in
    let w = writable F o row e in
    let r = w.reads in
    let breaks = neither (outside (negsuc 1999) (negsuc 0) (low_break o)) _ w.breaks in
    let by-b : 2 ^ row.b ≤ 32 = pow_mono r.pair.few_bits in
    let by-c : 2 ^ row.c ≤ 32 = pow_mono r.pair.few_base_bits in
    record {
      radix = omega (arith, r.radix_is, by-b);
      base = omega (arith, r.base_is, r.pair.base_is, by-c);
      exponent_radix = omega (arith, (radix_bounds F.exponent_radix r.power).1);
      most = omega (arith, w.most);
      least = omega (arith, w.least);
      high_break = high_fits o.positive_exponent_break breaks.1;
      low_break = low_fits o.negative_exponent_break breaks.0;
      width = omega (arith, (width_bounds o.exponent_width w.width).1);
      point = omega (arith, r.point.to);
      mark = omega (arith, r.mark.to);
    }
