-- Numbers and moments in decimal digits, in ASCII. A number's text is std's `decimal`: its digits, without a leading
-- zero, and one 0 for the number 0.
use Rattle.std.specs.Prelude.{ℕ, List}
use Rattle.der_core.specs.Time.{last_digits}

-- the fourteen digits of a moment, YYYYMMDDhhmmss: its GeneralizedTime without the Z (RFC 5280, section 4.1.2.5.2)
abbrev pub moment_digits : ℕ → List ℕ
moment_digits moment = last_digits 14 moment
