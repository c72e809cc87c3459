-- The tables by their rules, over all entries at once, and the two bytes of a pair. Assumes nothing.
use Prim.Native.Nat.{ℕ, zero, suc, ◌+◌, ◌*◌, ◌/◌, ◌%◌, ◌^◌, ◌<◌}
use mathlib.Core.Path.{◌≡◌, refl, ap, ◌∙◌}
use mathlib.Core.List.{List, [], ◌∷◌}
use native.Mathlib.Nat.{mod-lt}
use native.Mathlib.Omega.{arith}
use lib.ListN.{length, get_or}
use lib.Pow.{pow_pos, field, mod-mod-pow}
use Rattle.lexical_util.specs.Digit.{digit_byte}
use Rattle.lexical_util.proofs.TableLaws.{tab, tab_at}
use Rattle.lexical_write_integer_spec.specs.Write.{last_numeral}
use Rattle.lexical_write_integer.specs.Table.{pair_byte, PairTable, DigitTable}

-- a table that is computed from the rule follows it; that the code's is that one, antt compares where it is lent
pub digits_follow : DigitTable (tab digit_byte 0 32)
digits_follow = record { at = λ k h. tab_at digit_byte 32 k h }

length_tab : (f : ℕ → ℕ) (i n : ℕ) → length (tab f i n) ≡ n
length_tab f i zero = refl
length_tab f i (suc n) = ap suc (length_tab f (suc i) n)

pub pairs_follow : (b : ℕ) → PairTable b (tab (pair_byte (2 ^ b)) 0 (2 * 2 ^ (b + b)))
pairs_follow b =
    let n = 2 * 2 ^ (b + b) in
    record { size = length_tab (pair_byte (2 ^ b)) 0 n; at = λ k h. tab_at (pair_byte (2 ^ b)) n k h }

-- ---- the two bytes of a pair
pair_first : (r q : ℕ) → pair_byte r (2 * q) ≡ digit_byte (q / r)
unfolding pair_byte
pair_first r q =
    let e : 2 * q % 2 ≡ 0 = omega arith in
    let h : 2 * q / 2 ≡ q = omega arith in
    rw (e, h)

pair_last : (r q : ℕ) → pair_byte r (2 * q + 1) ≡ digit_byte (q % r)
unfolding pair_byte
pair_last r q =
    let e : (2 * q + 1) % 2 ≡ 1 = omega arith in
    let h : (2 * q + 1) / 2 ≡ q = omega arith in
    rw (e, h)

-- they are the last two digits of a number
pub pair_digits : (b : ℕ) (table : List ℕ) → PairTable b table → (v a d : ℕ) → a ≡ get_or table (2 * (v % 2 ^ (b + b))) 0 → d ≡ get_or table (2 * (v % 2 ^ (b + b)) + 1) 0 → a ∷ d ∷ [] ≡ last_numeral (2 ^ b) 2 v
unfolding last_numeral
pair_digits b table rule v a d at_first at_last =
    let q = v % 2 ^ (b + b) in
    let l : q < 2 ^ (b + b) = mod-lt v {m = 2 ^ (b + b)} (pow_pos (b + b)) in
    let first = at_first ∙ rule.at (2 * q) (omega arith) ∙ pair_first (2 ^ b) q ∙ ap digit_byte (field v b b) in
    let last = at_last ∙ rule.at (2 * q + 1) (omega arith) ∙ pair_last (2 ^ b) q ∙ ap digit_byte (mod-mod-pow v b b) in
    rw (first, last)
