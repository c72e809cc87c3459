-- A window's columns and its checks: document 01, "Outage table and sheet" and "Table to sheet". Definitions only.
use Rattle.std.specs.Prelude.{ℕ, ◌+◌, not, List, [], ◌∷◌, ◌++◌, Float}
use Rattle.std.specs.Float.Ieee.{lt}
use Rattle.std.specs.Float.Ieee.Scale.{finite}
use Rattle.lexical_util.specs.Answer.{Answer, done, refused, Check, checked}
use Rattle.outage_spec.specs.declared.window.Window.{Window}

-- the columns of a table, the fields of a sheet's row: one start and one end
abbrev pub Column : Type 0
Column = Window → Float

abbrev pub columns : List Column
columns = (λ (w : Window). w.start) ∷ (λ (w : Window). w.end) ∷ []

-- 7 start, 7 end: not finite
abbrev pub float_checks : List Column → Window → List Check
float_checks [] w = []
float_checks (c ∷ cs) w = (7, not (finite (c w))) ∷ float_checks cs w

-- 14 end below start, by value: minus zero is not below zero
abbrev pub window_checks : Window → List Check
window_checks w = (14, lt w.end w.start) ∷ []

-- a row of a sheet, whose floats have been read
abbrev pub judged : Window → Answer Window
judged w = checked (window_checks w) (done w)

-- a row of a table
abbrev pub table_row : Window → Answer Window
table_row w = checked (float_checks columns w ++ window_checks w) (done w)

-- an answer whose places are counted from p on
abbrev pub from : {A : Type 0} → ℕ → Answer A → Answer A
from p (done a) = done a
from p (refused n q) = refused n (p + q)
