-- The two forms of a time (RFC 5280, sections 4.1.2.5.1 and 4.1.2.5.2; X.690, sections 11.7 and 11.8).
use Rattle.std.specs.Prelude.{ℕ, zero, suc, ◌+◌, ◌/◌, ◌%◌, ◌^◌, ◌≤◌, Bool, List, [], ◌∷◌, ◌++◌, codes}
use Rattle.std.specs.Prelude.{nat_le, ◌&&◌, if◌then◌else◌}
use Rattle.der_core.specs.declared.time_value.Time.{Time}
use Rattle.der_core.specs.declared.time_value.TimeForm.{TimeForm}
use Rattle.der_core.specs.declared.time_value.TimeForm.TheVariants.{Utc, Generalized}
use Rattle.der_core.specs.Element.{enc}
use Rattle.der_core.specs.Moment.{year, IsMoment}

-- the last so many decimal digits of a number, in ASCII
abbrev pub last_digits : ℕ → ℕ → List ℕ
last_digits zero number = []
last_digits (suc count) number = (48 + number / 10 ^ count % 10) ∷ last_digits count number

-- the contents of a UTCTime, YYMMDDhhmmssZ (4.1.2.5.1)
unfoldable pub utc_text : ℕ → List ℕ
utc_text moment = last_digits 12 moment ++ codes "Z"

-- a moment that a UTCTime spells: of 1950 to 2049, as two digits from 50 on are a year 19YY, and others 20YY
-- (4.1.2.5.1)
pub record IsUtc (moment : ℕ) : Type 0 where
  pub valid : IsMoment moment
  pub least : 1950 ≤ year moment
  pub most : year moment ≤ 2049

-- the contents of a GeneralizedTime, YYYYMMDDhhmmssZ (4.1.2.5.2)
unfoldable pub generalized_text : ℕ → List ℕ
generalized_text moment = last_digits 14 moment ++ codes "Z"

-- the year is one that UTCTime has
abbrev pub has_utc : ℕ → Bool
has_utc moment = nat_le 1950 (year moment) && nat_le (year moment) 2049

-- the tag of each form
abbrev pub form_tag : TimeForm → ℕ
form_tag Utc = 0x17
form_tag Generalized = 0x18

-- the contents in each form
abbrev pub form_contents : TimeForm → ℕ → List ℕ
form_contents Utc moment = utc_text moment
form_contents Generalized moment = generalized_text moment

-- a moment that this form spells
abbrev pub IsInForm : TimeForm → ℕ → Type 0
IsInForm Utc moment = IsUtc moment
IsInForm Generalized moment = IsMoment moment

-- a time is a moment in one of the forms; one of 1950 to 2049 can be in either
abbrev pub IsTime : Time → Type 0
IsTime time = IsInForm time.form time.moment

-- its text, the whole element
abbrev pub time_text : Time → List ℕ
time_text time = enc (form_tag time.form) (form_contents time.form time.moment)

-- the form in which a moment is written: UTCTime for 1950 to 2049, and else GeneralizedTime (4.1.2.5)
abbrev pub written_form : ℕ → TimeForm
written_form moment = if has_utc moment then Utc else Generalized

-- the tag of a moment that is written
abbrev pub time_tag : ℕ → ℕ
time_tag moment = form_tag (written_form moment)

-- and its contents
abbrev pub time_contents : ℕ → List ℕ
time_contents moment = form_contents (written_form moment) moment
