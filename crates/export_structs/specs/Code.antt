-- What every answer is made of. No exported contract cites it. Definitions only.
use Rattle.std.specs.Prelude.{ℕ}
use Rattle.lexical_util.specs.Answer.{Answer, done, refused}

-- number 0, place 0 and what was asked for, or a refusal's number and place and what is given for none
abbrev pub parts_of : {A : Type 0} → A → Answer A → ℕ × ℕ × A
parts_of none (done x) = (0, 0, x)
parts_of none (refused n p) = (n, p, none)
