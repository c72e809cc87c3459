-- Demand 3: what is said of rewriting and of a chain, at each width, for all texts that the reader accepts, all formats that the writer admits without a digit limit,
-- and all buffers of at least `longest_text` bytes, whatever they held. Statements only; `DemandLaws` proves them, and `RecordLaws` those of records.
use Rattle.std.specs.Prelude.{ℕ, ◌≤◌, ◌<◌, ◌≡◌, List, [], ◌∷◌, ◌++◌, map, length, take, drop, Float}
use Rattle.std.specs.Float.{Format}
use Rattle.lexical_util.specs.Answer.{done}
use Rattle.lexical_util.specs.Digit.{All}
use Rattle.lexical_format.specs.declared.format.Pair.{Pair}
use Rattle.lexical_format.specs.Format.{writing_format}
use Rattle.lexical_rewrite_spec.specs.declared.text_format.TextFormat.{TextFormat}
use Rattle.lexical_rewrite_spec.specs.Claims.{Denotes}
use Rattle.lexical_rewrite_spec.specs.Rewrite.{Rewriting, rewritten, read_in, text_in, rewrite_answer, rewrite_bytes}
use Rattle.lexical_rewrite_spec.specs.Chain.{Station, Chained, arrived, chain_from, last_station, chain, last_format}
use Rattle.lexical_rewrite_spec.specs.Record.{format_of_record, formats_of, record_of, joined, FitsRecord}
use Rattle.lexical_write_float_spec.specs.Write.{longest_text}

-- the reader accepts t under F, and its float is x: none of the reader's checks refuses it, and x is what its rounding rule picks
abbrev pub IsFloatOf : Format → TextFormat → List ℕ → Float → Type 0
IsFloatOf f F t x = read_in f F t ≡ done x

-- the writer admits G: 1 to 6 and 16 refuse nothing, and G has no digit limit
pub record Admits (G : TextFormat) : Type 0 where
  pub row : Pair
  pub passes : writing_format G.format G.options ≡ done row
  pub no_limit : G.options.max_significant_digits ≡ 0

-- a buffer long enough for every text
abbrev pub Roomy : List ℕ → Type 0
Roomy out = longest_text ≤ length out

-- ---- same float, same bytes
-- two rewritings answered and left these bytes: both succeed, and lengths and bytes are equal exactly where the floats are
module _ (answer : Rewriting) (bytes : List ℕ) (answer' : Rewriting) (bytes' : List ℕ) where
  pub record SameExactlyWhen (x x' : Float) : Type 0 where
    pub n : ℕ
    pub n' : ℕ
    pub first : answer ≡ rewritten n
    pub second : answer' ≡ rewritten n'
    pub same : x ≡ x' → (n ≡ n') × (take n bytes ≡ take n' bytes')
    pub only : n ≡ n' → take n bytes ≡ take n' bytes' → x ≡ x'

-- what is said of one rewriting of t from F in G, which answered and left these bytes: it is so against every other text, in a format of its own and rewritten in G into a buffer of its own
abbrev pub SameAsOthers : Format → TextFormat → List ℕ → TextFormat → List ℕ → Rewriting → List ℕ → Type 0
SameAsOthers f F t G out answer bytes =
    (F' : TextFormat) (t' out' : List ℕ) (x x' : Float) → IsFloatOf f F t x → IsFloatOf f F' t' x' → Admits G → Roomy out → Roomy out'
    → SameExactlyWhen answer bytes (rewrite_answer G out' (read_in f F' t')) (rewrite_bytes G out' (read_in f F' t')) x x'

abbrev pub SameFloatSameBytes : Type 0
SameFloatSameBytes =
    (f : Format) (F : TextFormat) (t : List ℕ) (G : TextFormat) (out : List ℕ)
    → SameAsOthers f F t G out (rewrite_answer G out (read_in f F t)) (rewrite_bytes G out (read_in f F t))

-- ---- the chain
-- the answer is the length of G's text of x, and the bytes are that text and behind it what the buffer held; the text denotes exactly the value of x
pub record Arrives (x : Float) (G : TextFormat) (out : List ℕ) (answer : Chained) (bytes : List ℕ) : Type 0 where
  pub text : List ℕ
  pub is_text : text_in G x ≡ done text
  pub answered : answer ≡ arrived (length text)
  pub written : bytes ≡ text ++ drop (length text) out
  pub exact : Denotes G.format G.options text x

abbrev pub Ready : Station → Type 0
Ready S = Admits S.format × Roomy S.buffer

-- no station of a chain is refused, and it ends in the last format's text of the first text's float
abbrev pub ChainArrives : Type 0
ChainArrives =
    (f : Format) (i : ℕ) (F : TextFormat) (t : List ℕ) (S : Station) (Ss : List Station) (x : Float)
    → IsFloatOf f F t x → Ready S → All Ready Ss
    → Arrives x (last_station S Ss).format (last_station S Ss).buffer (chain f i F t S Ss).answer (chain f i F t S Ss).bytes

-- each station but the last has a buffer long enough for every text
abbrev pub RoomyBefore : Station → List Station → Type 0
RoomyBefore S [] = Unit {0}
RoomyBefore S (S' ∷ Ss) = Roomy S.buffer × RoomyBefore S' Ss

-- such stations answer and leave what a call does that is given their formats and lent the last one's buffer, refusals and digit limits included
abbrev pub ChainIsCalled : Type 0
ChainIsCalled =
    (f : Format) (i : ℕ) (F : TextFormat) (t : List ℕ) (S : Station) (Ss : List Station) → RoomyBefore S Ss
    → chain f i F t S Ss ≡ chain_from f i F t S.format (map (λ (S : Station). S.format) Ss) (last_station S Ss).buffer

-- what `ChainArrives` says, of a call that is given the formats G and Gs and lent the last station's buffer
abbrev pub NeverLost : Format → TextFormat → List ℕ → TextFormat → List TextFormat → List ℕ → Chained → List ℕ → Type 0
NeverLost f F t G Gs out answer bytes =
    (x : Float) → IsFloatOf f F t x → Admits G → All Admits Gs → Roomy out → Arrives x (last_format G Gs) out answer bytes

-- ---- every format that the writer admits can be given to a chain; `RecordLaws` proves it
-- the record of a format whose fields fit is bytes,
abbrev pub RecordIsBytes : Type 0
RecordIsBytes = (G : TextFormat) → FitsRecord G → All (λ b. b < 256) (record_of G)

-- is read back as that format, whatever follows it,
abbrev pub RecordIsReadBack : Type 0
RecordIsReadBack = (G : TextFormat) (rest : List ℕ) → FitsRecord G → format_of_record (record_of G ++ rest) ≡ G

-- and so is every list of them, as a chain is given it
abbrev pub RecordsAreReadBack : Type 0
RecordsAreReadBack = (Gs : List TextFormat) → All FitsRecord Gs → formats_of (joined Gs) ≡ Gs

-- the fields of every format that the writer admits fit, with a digit limit or without
abbrev pub AdmittedFits : Type 0
AdmittedFits = (G : TextFormat) (row : Pair) → writing_format G.format G.options ≡ done row → FitsRecord G
