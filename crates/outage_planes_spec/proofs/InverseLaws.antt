-- Packing and unpacking are inverse: a column transposed twice is itself, so a table is, and its header stays. Assumes nothing.
use Prim.Native.Nat.{ℕ, ◌+◌, ◌*◌, ◌≤◌, ◌<◌}
use mathlib.Core.Path.{◌≡◌, refl, sym, ap, ◌∙◌}
use mathlib.Core.List.{List, ◌++◌}
use native.Mathlib.Nat.{mul-suc, mul_comm, mul-le-mul_left}
use native.Mathlib.Omega.{arith}
use lib.ListN.{length, take, drop, get_or, length-append, length-drop, take-append-drop, get_or-append}
use lib.Seq.{length-take-le, take_at, take_all, take-append-le, drop-append-le, drop-drop, get_or-append-add}
use Rattle.lexical_util.specs.Answer.{Answer, done, refused, and_then, written, held}
use Rattle.lexical_util.proofs.AnswerLaws.{refused_done, done_same, text_fits}
use Rattle.outage_spec.specs.Words.{of_bytes, word_at}
use Rattle.outage_spec.specs.Table.{table_size, header_count, most_windows}
use Rattle.outage_spec.proofs.TableLaws.{Header}
use Rattle.outage_spec.proofs.HeaderLaws.{table_header, header_is, header_count_lem}
use Rattle.outage_planes_spec.specs.Planes.{bytes_of_each, planes_of, floats_of, by_column}
use Rattle.outage_planes_spec.specs.Calls.{packed_table, unpacked_table}
use Rattle.outage_planes_spec.specs.Claims.{PackedIsUnpacked, UnpackedIsPacked, Undone, UnpacksBack, PacksBack}
use Rattle.outage_planes_spec.proofs.EachLaws.{bytes_length, bytes_at, bytes_row}

-- ---- a column: of k groups of w bytes w groups of k are made, and of these the first ones again
transposed_back : (w k at : ℕ) (t p : List ℕ) → at + w * k ≤ length t → ((x : ℕ) → x < w * k → get_or p (at + x) 0 ≡ get_or (bytes_of_each w k w at t) x 0) → bytes_of_each k w k at p ≡ take (w * k) (drop at t)
transposed_back w k at t p h same =
    bytes_row p t k w k at at h
    (λ i j q r.
    let z : at + i + k * j ≡ at + (k * j + i) = omega arith in
    let y : at + j + w * i ≡ at + w * i + j = omega arith in
    ap (λ (a : ℕ). get_or p a 0) z
    ∙ same (k * j + i) (omega (arith, mul-suc k j, mul-le-mul_left k r, mul_comm k w))
    ∙ bytes_at w t k w at j i r q
    ∙ ap (λ (a : ℕ). get_or t a 0) y)

-- ---- a table: what is made of its columns, and made of that again
abbrev pub Make : Type 0
Make = ℕ → ℕ → List ℕ → List ℕ

-- each column keeps its length, and transposed again it is itself
pub record Transposes (make again : Make) : Type 0 where
  pub sized : (n at : ℕ) (t : List ℕ) → length (make n at t) ≡ 8 * n
  pub back : (n at : ℕ) (t p : List ℕ) → at + 8 * n ≤ length t → ((x : ℕ) → x < 8 * n → get_or p (at + x) 0 ≡ get_or (make n at t) x 0) → again n at p ≡ take (8 * n) (drop at t)

pub planes_size : (n at : ℕ) (t : List ℕ) → length (planes_of n at t) ≡ 8 * n
planes_size n at t = bytes_length 8 t n 8 at ∙ mul_comm n 8

pub floats_size : (n at : ℕ) (t : List ℕ) → length (floats_of n at t) ≡ 8 * n
floats_size n at t = bytes_length n t 8 n at

pub planes_transpose : Transposes planes_of floats_of
planes_transpose = record {
  sized = planes_size;
  back = λ n at t p h same. transposed_back 8 n at t p h same;
}

pub floats_transpose : Transposes floats_of planes_of
floats_transpose = record {
  sized = floats_size;
  back = λ n at t p h same. rw (mul_comm n 8) at (transposed_back n 8 at t p (rw (mul_comm n 8) h) (λ x q. same x (rw (mul_comm n 8) at q)));
}

module _ (make again : Make) (T : Transposes make again) (t : List ℕ) (n : ℕ) (size : length t ≡ table_size n) where
  abbrev head : List ℕ
  head = take 8 t

  abbrev starts : List ℕ
  starts = make n 8 t

  abbrev ends : List ℕ
  ends = make n (8 + 8 * n) t

  abbrev made : List ℕ
  made = head ++ (starts ++ ends)

  head_length : length head ≡ 8
  head_length = length-take-le 8 t (omega arith)

  made_length : length made ≡ table_size n
  made_length = omega (arith, head_length, T.sized n 8 t, T.sized n (8 + 8 * n) t, length-append head (starts ++ ends), length-append starts ends)

  -- a byte behind the header, and one behind the starts
  behind : (x : ℕ) → get_or made (8 + x) 0 ≡ get_or (starts ++ ends) x 0
  behind x = ap (λ (k : ℕ). get_or made (k + x) 0) (sym head_length) ∙ get_or-append-add head (starts ++ ends) x 0

  in_starts : (x : ℕ) → x < 8 * n → get_or made (8 + x) 0 ≡ get_or starts x 0
  in_starts x h = behind x ∙ get_or-append starts ends 0 x (omega (arith, T.sized n 8 t))

  in_ends : (x : ℕ) → get_or made (8 + 8 * n + x) 0 ≡ get_or ends x 0
  in_ends x =
      let z : 8 + 8 * n + x ≡ 8 + (8 * n + x) = omega arith in
      ap (λ (k : ℕ). get_or made k 0) z ∙ behind (8 * n + x) ∙ ap (λ (k : ℕ). get_or (starts ++ ends) (k + x) 0) (sym (T.sized n 8 t)) ∙ get_or-append-add starts ends x 0

  -- header, starts and ends are the table
  whole : head ++ (take (8 * n) (drop 8 t) ++ take (8 * n) (drop (8 + 8 * n) t)) ≡ t
  whole =
      let last : take (8 * n) (drop (8 + 8 * n) t) ≡ drop (8 + 8 * n) t = take_all (8 * n) (drop (8 + 8 * n) t) (simp length-drop (omega arith)) in
      rw (last, ← drop-drop (8 * n) 8 t, take-append-drop (8 * n) (drop 8 t)) (take-append-drop 8 t)

  made_again : by_column again n (by_column make n t) ≡ t
  unfolding by_column
  made_again =
      rw (take_at head (starts ++ ends) 8 head_length, T.back n 8 t made (omega arith) in_starts, T.back n (8 + 8 * n) t made (omega arith) (λ x h. in_ends x)) whole

  -- ---- the header stays
  word_in_head : (l : List ℕ) → (word_at 4 (head ++ l) 0 ≡ of_bytes (take 4 head)) × (word_at 4 (head ++ l) 4 ≡ of_bytes (take 4 (drop 4 head)))
  word_in_head l =
      let d : length (drop 4 head) ≡ 4 = length-drop 4 head ∙ omega (arith, head_length) in (
        ap of_bytes (take-append-le 4 head l (omega (arith, head_length))),
        ap of_bytes (ap (take 4) (drop-append-le 4 head l (omega (arith, head_length))) ∙ take-append-le 4 (drop 4 head) l (omega (arith, d))),
      )

  same_header : Header t n → Header made n
  same_header h =
      let a = word_in_head (starts ++ ends) in
      let b = rw (take-append-drop 8 t) at (word_in_head (drop 8 t)) in
      record { is_count = a.0 ∙ sym b.0 ∙ h.is_count; is_length = a.1 ∙ sym b.1 ∙ h.is_length; size = made_length; few = h.few }

  made_counted : (k : ℕ) → Header t n → header_count k (by_column make n t) ≡ done n
  unfolding by_column
  made_counted k h = header_count_lem k made n (same_header h)

  pub made_size : length (by_column make n t) ≡ table_size n
  unfolding by_column
  made_size = made_length

-- no longer than the longest table
short : (make again : Make) (T : Transposes make again) (k : ℕ) (t p : List ℕ) → and_then (header_count k t) (λ n. done (by_column make n t)) ≡ done p → length p ≤ table_size most_windows
short make again T k t p e = go (header_count k t) refl e
  where
    go : (a : Answer ℕ) → header_count k t ≡ a → and_then a (λ n. done (by_column make n t)) ≡ done p → length p ≤ table_size most_windows
    go (refused m q) f e = absurd (refused_done m q p e)
    go (done n) f e =
        let h = header_is k t n f in
        omega (arith, ap length (done_same (by_column make n t) p e), made_size make again T t n h.size, h.few)

pub packed_short : (t p : List ℕ) → packed_table t ≡ done p → length p ≤ table_size most_windows
unfolding packed_table
packed_short t p e = short planes_of floats_of planes_transpose 13 t p (rw (table_header t) at e)

pub unpacked_short : (p t : List ℕ) → unpacked_table p ≡ done t → length t ≤ table_size most_windows
unfolding unpacked_table
unpacked_short p t e = short floats_of planes_of floats_transpose 17 p t e

-- ---- the two theorems
pub packed_is_unpacked : PackedIsUnpacked
unfolding packed_table unpacked_table
packed_is_unpacked t n e =
    let h = header_is 13 t n (sym (table_header t) ∙ e) in
    rw (e, made_counted planes_of floats_of planes_transpose t n h.size 17 h, made_again planes_of floats_of planes_transpose t n h.size)

pub unpacked_is_packed : UnpackedIsPacked
unfolding packed_table unpacked_table
unpacked_is_packed p n e =
    let h = header_is 17 p n e in
    rw (e, table_header (by_column floats_of n p), made_counted floats_of planes_of floats_transpose p n h.size 13 h, made_again floats_of planes_of floats_transpose p n h.size)

-- ---- of a call that left the bytes made of s, from which the other call makes s again
undone : (other : List ℕ → Answer (List ℕ)) (s made lent : List ℕ) (answer : Answer ℕ) (left : List ℕ) → length made ≡ length s → length s ≤ length lent → other made ≡ done s
    → answer ≡ written (done made) lent → left ≡ held (done made) lent → Undone other s answer left
undone other s made lent answer left size room back a l =
    let f = text_fits made lent (length s) size room in
    let is : take (length s) left ≡ made = ap (take (length s)) (l ∙ f.1) ∙ take_at made (drop (length s) lent) (length s) size in
    record {
      served = a ∙ f.0;
      answered = λ out h. rw (is, back) (text_fits s out (length s) refl h).0;
      returned = λ out h. rw (is, back) (text_fits s out (length s) refl h).1;
    }

pub unpacks_back : (t lent : List ℕ) (answer : Answer ℕ) (left : List ℕ) → answer ≡ written (packed_table t) lent → left ≡ held (packed_table t) lent → UnpacksBack t lent answer left
unfolding packed_table
unpacks_back t lent answer left a l n e room =
    let h = header_is 13 t n (sym (table_header t) ∙ e) in
    let size = made_size planes_of floats_of planes_transpose t n h.size ∙ sym h.size in
    undone unpacked_table t (by_column planes_of n t) lent answer left size room (rw e at (packed_is_unpacked t n e)) (rw e at a) (rw e at l)

pub packs_back : (p lent : List ℕ) (answer : Answer ℕ) (left : List ℕ) → answer ≡ written (unpacked_table p) lent → left ≡ held (unpacked_table p) lent → PacksBack p lent answer left
unfolding unpacked_table
packs_back p lent answer left a l n e room =
    let h = header_is 17 p n e in
    let size = made_size floats_of planes_of floats_transpose p n h.size ∙ sym h.size in
    undone packed_table p (by_column floats_of n p) lent answer left size room (rw e at (unpacked_is_packed p n e)) (rw e at a) (rw e at l)
