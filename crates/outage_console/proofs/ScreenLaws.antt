-- What is shown of an answer, with room for it; and a sheet rewritten has the same rows. Assumes nothing.
use Prim.Native.Nat.{ℕ, suc, ◌+◌, ◌^◌, ◌≤◌, ◌<◌}
use mathlib.Core.Path.{◌≡◌, refl, sym, ap, ◌∙◌}
use mathlib.Core.Bool.{Bool, true, false, cond}
use mathlib.Core.List.{List, ◌++◌}
use native.Mathlib.Nat.{le_trans}
use native.Mathlib.Omega.{arith}
use borrow.Author.Tests.{le-ltb, lt-ltb}
use lib.Dec.{ltb}
use lib.ListN.{length, take, drop, length-append}
use lib.Seq.{take-append_seam}
use Rattle.lexical_util.specs.Answer.{Answer, done, refused, and_then, written, held}
use Rattle.lexical_util.proofs.AnswerLaws.{refused_done, done_same, text_fits}
use Rattle.lexical_write_integer_spec.specs.Digits.{numeral}
use Rattle.lexical_write_integer_spec.proofs.DigitsLaws.{count_le}
use Rattle.lexical_write_integer_spec.proofs.NumeralLaws.{length_one}
use Rattle.lexical_format.specs.declared.format.Pair.{Pair}
use Rattle.lexical_buffer.specs.Put.{Puts}
use Rattle.lexical_buffer.proofs.PutLaws.{put_front}
use Rattle.lexical_rewrite_spec.specs.declared.text_format.TextFormat.{TextFormat}
use Rattle.outage_spec.specs.Table.{table_size, most_windows}
use Rattle.outage_spec.specs.Calls.{sheet_format, table_sheet, sheet_table}
use Rattle.outage_spec.proofs.AgainLaws.{sheet_again}
use Rattle.outage_spec.proofs.LengthLaws.{sheet_short}
use Rattle.outage_spec.proofs.RoomLaws.{room_enough}
use Rattle.outage_spec.proofs.StoredLaws.{Stored, stored}
use Rattle.outage_spec.proofs.WayBackLaws.{table_again}
use Rattle.outage_console.specs.Screen.{refusal_line, screen, reading, rewriting, shown, SameRows, longest_sheet_read}
use Rattle.outage_console.specs.Code.{put_count, put_bytes}

-- ---- a refusal's line
number_short : (k x : ℕ) → x < 10 ^ (k + 1) → length (numeral 10 1 x) ≤ k + 1
number_short k x h =
    let e : k + 1 ≡ suc k = omega arith in
    rw (length_one 10 x, e) (count_le 10 (omega arith) k x (rw e at h))

pub line_short : (n p : ℕ) → n < 4294967296 → p < 18446744073709551616 → (length (numeral 10 1 n) ≤ 10) × (length (numeral 10 1 p) ≤ 20)
line_short n p h k = (number_short 9 n (omega arith), number_short 19 p (omega arith))

-- ---- an answer in bytes enough for it
abbrev pub Within : ℕ → Answer (List ℕ) → Type 0
Within room asked = (t : List ℕ) → asked ≡ done t → length t ≤ room

module _ (asked : Answer (List ℕ)) (out : List ℕ) (room : ℕ) where
  put_as_shown : room ≤ length out → Within room asked → (put_count (written asked out) ≡ length (screen asked)) × (put_bytes (written asked out) (held asked out) ≡ shown asked out)
  put_as_shown h within = go asked within
    where
      go : (a : Answer (List ℕ)) → Within room a → (put_count (written a out) ≡ length (screen a)) × (put_bytes (written a out) (held a out) ≡ shown a out)
      go (done t) w = let fits = text_fits t out (length t) refl (le_trans (w t refl) h) in (rw fits.0, rw (fits.0, fits.1))
      go (refused n p) w = (refl, refl)

  -- what such an answer tells of what was asked for
  pub record Got (m : ℕ) : Type 0 where
    pub bytes : List ℕ
    pub is : asked ≡ done bytes
    pub count : m ≡ length bytes
    pub front : take m (held asked out) ≡ bytes

  pub got : room ≤ length out → Within room asked → (m : ℕ) → written asked out ≡ done m → Got m
  got h within m e = go asked refl e
    where
      go : (a : Answer (List ℕ)) → asked ≡ a → written a out ≡ done m → Got m
      go (refused n p) q e = absurd (refused_done n p m e)
      go (done t) q e =
          let fits = text_fits t out (length t) refl (le_trans (within t q) h) in
          let same : length t ≡ m = done_same (length t) m (sym fits.0 ∙ e) in
          record {
            bytes = t;
            is = q;
            count = sym same;
            front = ap (λ (a : Answer (List ℕ)). take m (held a out)) q ∙ ap (take m) fits.1 ∙ ap (λ (k : ℕ). take k (t ++ drop (length t) out)) (sym same) ∙ take-append_seam t (drop (length t) out);
          }

  pub not_got : room ≤ length out → Within room asked → (n p : ℕ) → written asked out ≡ refused n p → asked ≡ refused n p
  not_got h within n p e = go asked within e
    where
      go : (a : Answer (List ℕ)) → Within room a → written a out ≡ refused n p → a ≡ refused n p
      go (refused m q) w e = cc
      go (done t) w e = absurd (refused_done n p (length t) (sym e ∙ (text_fits t out (length t) refl (le_trans (w t refl) h)).0))

-- ---- a table of a sheet
reading_stored : (F : TextFormat) (s t : List ℕ) → reading F s ≡ done t → Stored F.format F.options s t
unfolding reading
reading_stored F s t e = go (ltb longest_sheet_read (length s)) e
  where
    go : (b : Bool) → cond b (refused 15 longest_sheet_read) (sheet_table F.format F.options s (table_size most_windows)) ≡ done t → Stored F.format F.options s t
    go true e = absurd (refused_done 15 longest_sheet_read t e)
    go false e = stored F.format F.options s (table_size most_windows) t e

pub reading_within : (F : TextFormat) (s : List ℕ) → Within (table_size most_windows) (reading F s)
reading_within F s t e = (reading_stored F s t e).short

pub reading_long : (F : TextFormat) (s : List ℕ) → longest_sheet_read < length s → refused 15 longest_sheet_read ≡ reading F s
unfolding reading
reading_long F s h = rw (lt-ltb longest_sheet_read (length s) h)

pub reading_short : (F : TextFormat) (s : List ℕ) (room : ℕ) → length s ≤ longest_sheet_read → table_size most_windows ≤ room → sheet_table F.format F.options s room ≡ reading F s
unfolding reading
reading_short F s room h k = rw (le-ltb longest_sheet_read (length s) h) (room_enough F.format F.options s room k)

-- ---- a sheet rewritten
pub rewriting_done : (F G : TextFormat) (s t : List ℕ) → reading F s ≡ done t → rewriting F G s ≡ table_sheet G.format G.options t
unfolding rewriting
rewriting_done F G s t e = rw e

pub rewriting_refused : (F G : TextFormat) (s : List ℕ) (n p : ℕ) → reading F s ≡ refused n p → rewriting F G s ≡ refused n p
unfolding rewriting
rewriting_refused F G s n p e = rw e

-- it is never refused by a format that is taken
pub rewriting_again : (F G : TextFormat) (s t : List ℕ) → reading F s ≡ done t → (row : Pair) → sheet_format G.format G.options ≡ done row → (text : List ℕ) × (rewriting F G s ≡ done text)
unfolding reading
rewriting_again F G s t e row f = go (ltb longest_sheet_read (length s)) e
  where
    go : (b : Bool) → cond b (refused 15 longest_sheet_read) (sheet_table F.format F.options s (table_size most_windows)) ≡ done t → (text : List ℕ) × (rewriting F G s ≡ done text)
    go true p = absurd (refused_done 15 longest_sheet_read t p)
    go false p =
        let again = sheet_again F.format F.options s (table_size most_windows) t p G.format G.options row f in
        (again.0, rewriting_done F G s t e ∙ again.1)

pub same_rows : (F G : TextFormat) (s : List ℕ) → SameRows F G s
unfolding rewriting
same_rows F G s text e = go (reading F s) refl e
  where
    go : (a : Answer (List ℕ)) → reading F s ≡ a → and_then a (table_sheet G.format G.options) ≡ done text → reading G text ≡ a
    go (refused n p) q e = absurd (refused_done n p text e)
    go (done t) q e =
        let k = reading_stored F s t q in
        let short = sheet_short G.format G.options t text e in
        sym (reading_short G text (table_size most_windows) (omega arith) (omega arith)) ∙ table_again G.format G.options t text k.are_bytes e (table_size most_windows) k.short

-- ---- a refusal's line at the front
pub put_line : (d out : List ℕ) (n p r : ℕ) → Puts d 0 (refusal_line n p) r out → (r ≡ length (refusal_line n p)) × (out ≡ refusal_line n p ++ drop (length (refusal_line n p)) d)
put_line d out n p r h = (omega (arith, h.next_is), h.out_is ∙ put_front d (refusal_line n p))

-- what is shown of an answer
pub record Shows (asked : Answer (List ℕ)) (d : List ℕ) (r : ℕ) (out : List ℕ) : Type 0 where
  pub count : r ≡ length (screen asked)
  pub bytes : out ≡ shown asked d
  pub within : r ≤ length out

shows : (asked : Answer (List ℕ)) (d : List ℕ) (r : ℕ) (out : List ℕ) → r ≡ length (screen asked) → out ≡ shown asked d → Shows asked d r out
shows asked d r out e f = record { count = e; bytes = f; within = omega (arith, simp length-append at (ap length f)) }

-- a refusal's line, where that refusal is the answer
pub line_shown : (asked : Answer (List ℕ)) (d out : List ℕ) (n p r : ℕ) → asked ≡ refused n p → Puts d 0 (refusal_line n p) r out → Shows asked d r out
line_shown asked d out n p r e h = let k = put_line d out n p r h in shows asked d r out (rw e k.0) (rw e k.1)

-- what was put of an answer, where the answer and the bytes are those of what was asked for
pub put_shown : (asked : Answer (List ℕ)) (d mid out : List ℕ) (room : ℕ) (a : Answer ℕ) (r : ℕ) → room ≤ length d → Within room asked
    → (a ≡ written asked d) × (mid ≡ held asked d) → (r ≡ put_count a) × (out ≡ put_bytes a mid) → Shows asked d r out
put_shown asked d mid out room a r h within e p =
    let k = put_as_shown asked d room h within in
    shows asked d r out (p.0 ∙ ap put_count e.0 ∙ k.0) (p.1 ∙ rw (e.0, e.1) k.1)
