-- A run of digits: printed digits are read back, and what was read prints what it was read from. Assumes nothing.
use Prim.Native.Nat.{ℕ, ◌≤◌}
use mathlib.Core.Path.{◌≡◌, refl, sym, ap, ap₂, ◌∙◌}
use mathlib.Core.List.{List, [], ◌∷◌, ◌++◌, map, append-nil}
use Rattle.std.specs.Prelude.{Option, None, Some}
use Rattle.lexical_util.specs.Digit.{digit_byte, digit_in, AreDigits}
use Rattle.lexical_util.proofs.DigitLaws.{digit_in_lem, in_digit}
use Rattle.lexical_read_float_spec.specs.Parse.{Run, more, run}

-- a text's first byte, where it has one
abbrev pub Head : (ℕ → Type 0) → List ℕ → Type 0
Head First [] = Unit {0}
Head First (x ∷ xs) = First x

-- a text that begins with no digit
abbrev pub Ends : ℕ → List ℕ → Type 0
Ends radix t = Head (λ x. digit_in radix x ≡ None) t

pub run_stops : (radix x : ℕ) (xs : List ℕ) → digit_in radix x ≡ None → run radix (x ∷ xs) ≡ record { got = []; left = x ∷ xs }
unfolding run
run_stops radix x xs e = ap (λ (o : Option ℕ). more x xs o (run radix xs)) e

pub run_digits : (radix : ℕ) (ds rest : List ℕ) → radix ≤ 32 → AreDigits radix ds → Ends radix rest → run radix (map digit_byte ds ++ rest) ≡ record { got = ds; left = rest }
unfolding run
run_digits radix [] [] h all e = refl
run_digits radix [] (x ∷ xs) h all e = run_stops radix x xs e
run_digits radix (d ∷ ds) rest h all e = rw (digit_in_lem radix d all.0 h, run_digits radix ds rest h all.1 e)

-- with nothing behind them
pub run_all : (radix : ℕ) (ds : List ℕ) → radix ≤ 32 → AreDigits radix ds → run radix (map digit_byte ds) ≡ record { got = ds; left = [] }
run_all radix ds h all = ap (run radix) (sym (append-nil (map digit_byte ds))) ∙ run_digits radix ds [] h all tt

-- ---- what was read
pub record IsRun (radix : ℕ) (t : List ℕ) (r : Run) : Type 0 where
  pub digits : AreDigits radix r.got
  pub ends : Ends radix r.left
  pub splits : map digit_byte r.got ++ r.left ≡ t

pub is_run : (radix : ℕ) (t : List ℕ) → IsRun radix t (run radix t)
unfolding run
is_run radix [] = record { digits = tt; ends = tt; splits = refl }
is_run radix (x ∷ xs) = go (digit_in radix x) refl (is_run radix xs)
  where
    go : (o : Option ℕ) → digit_in radix x ≡ o → IsRun radix xs (run radix xs) → IsRun radix (x ∷ xs) (more x xs o (run radix xs))
    go None e r = record { digits = tt; ends = e; splits = refl }
    go (Some d) e r =
        let k = in_digit radix x d e in
        record { digits = (k.1, r.digits); ends = r.ends; splits = ap₂ {A = ℕ} {B = List ℕ} (λ a l. a ∷ l) k.0 r.splits }

-- digits behind digits
pub digits_append : (radix : ℕ) (s t : List ℕ) → AreDigits radix s → AreDigits radix t → AreDigits radix (s ++ t)
digits_append radix [] t p q = q
digits_append radix (d ∷ s) t p q = (p.0, digits_append radix s t p.1 q)
