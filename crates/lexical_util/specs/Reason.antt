-- The number of each refusal: documents 01 and 02. Definitions only.
use Rattle.std.specs.Prelude.{ℕ}
use Rattle.lexical_util.specs.declared.answer.Refusal.{Refusal}
use Rattle.lexical_util.specs.declared.answer.Reason.{Reason}
use Rattle.lexical_util.specs.declared.answer.Reason.TheVariants.{UnknownPair, UnknownRadix, BadByte, RequiredAndForbidden, BadCount, BadBreak, NotFinite, NoRoom, WrongShape, ExponentTooGreat, TooLarge, TooLong, WrongTable, EndBelowStart, WrongSheet, BadWidth, WrongPacked}

abbrev pub reason_number : Reason → ℕ
reason_number UnknownPair = 1
reason_number UnknownRadix = 2
reason_number BadByte = 3
reason_number RequiredAndForbidden = 4
reason_number BadCount = 5
reason_number BadBreak = 6
reason_number NotFinite = 7
reason_number NoRoom = 8
reason_number WrongShape = 9
reason_number ExponentTooGreat = 10
reason_number TooLarge = 11
reason_number TooLong = 12
reason_number WrongTable = 13
reason_number EndBelowStart = 14
reason_number WrongSheet = 15
reason_number BadWidth = 16
reason_number WrongPacked = 17

-- the refusal for a reason at a place
abbrev pub refusal_at : Reason → ℕ → Refusal
refusal_at r p = record { reason = r; place = p }
