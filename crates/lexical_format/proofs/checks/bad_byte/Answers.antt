-- `lexical_format::checks::bad_byte` meets its contract: each test is asked where those before it are false. Assumes nothing.
use Rattle.std.proofs.Common.{arith, sym}
use Rattle.std.proofs.lemmas.Bool.Decides.{nat_tests}
use Rattle.lexical_format.specs.Format.{bad_byte}
use Rattle.lexical_format.proofs.CheckLaws.{digit_of, no_digit}
use Rattle.lexical_format.proofs.checks.bad_byte.Goals as goal

pub returns-then-byte-lt33 : goal.returns-then-byte-lt33
unfolding bad_byte
returns-then-byte-lt33 c = grind (arith, nat_tests)

pub returns-in-Some : goal.returns-in-Some
unfolding bad_byte
returns-in-Some c = let e = digit_of c.args.radix _ _ (sym c.in-Some.ensures) in grind (arith, nat_tests, e)

pub returns-in-None : goal.returns-in-None
unfolding bad_byte
returns-in-None c = let e = no_digit c.args.radix _ (sym c.in-None.ensures) in grind (arith, nat_tests, e)
