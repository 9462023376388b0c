-- Reading a time. That this is the time whose text the octets are is proved in the contract of `read_time`.
use Rattle.std.specs.Prelude.{ℕ, ◌+◌, ◌-◌, ◌*◌, ◌^◌, List, [], ◌∷◌, length, take, slice_index, nat_lt}
use Rattle.std.specs.Prelude.{◌==◌, ◌&&◌, ◌||◌, if◌then◌else◌, Bool, Option, Some, None}
use Rattle.der_core.specs.declared.time_value.Time.{Time}
use Rattle.der_core.specs.declared.time_value.TimeForm.{TimeForm}
use Rattle.der_core.specs.declared.time_value.TimeForm.TheVariants.{Utc, Generalized}
use Rattle.der_core.specs.Moment.{year, month, day, hour, minute, second}
use Rattle.der_core.specs.Reading.{◌>>?◌, front_of}
use Rattle.der_core.specs.Shapes.{Front}

-- the parts of a moment are in their ranges
unfoldable pub is_moment : ℕ → Bool
is_moment digits =
    nat_lt (year digits) 10000
    && (nat_lt 0 (month digits) && nat_lt (month digits) 13)
    && (nat_lt 0 (day digits) && nat_lt (day digits) 32)
    && (nat_lt (hour digits) 24 && (nat_lt (minute digits) 60 && nat_lt (second digits) 60))

-- a number with such digits
unfoldable pub moment_of : ℕ → Option ℕ
moment_of digits = if is_moment digits then Some digits else None

-- a decimal digit
unfoldable pub digit_of : ℕ → Option ℕ
digit_of o = if nat_lt o 48 || nat_lt 57 o then None else Some (o - 48)

-- the number that decimal digits spell behind those of n
unfoldable pub decimal_after : ℕ → List ℕ → Option ℕ
decimal_after n [] = Some n
decimal_after n (o ∷ os) = digit_of o >>? λ digit. decimal_after (n * 10 + digit) os

-- the number of so many decimal digits, with Z behind them
unfoldable pub zulu_of : ℕ → List ℕ → Option ℕ
zulu_of count contents =
    if (length contents == count + 1) && (slice_index contents count == 90) then decimal_after 0 (take count contents)
    else None

-- a moment whose year has lost its first two digits
unfoldable pub with_century : ℕ → ℕ
with_century number = if nat_lt number (50 * 10 ^ 10) then 20 * 10 ^ 12 + number else 19 * 10 ^ 12 + number

-- the moment of a UTCTime
unfoldable pub utc_of : List ℕ → Option ℕ
utc_of contents = zulu_of 12 contents >>? λ number. moment_of (with_century number)

-- the moment of a GeneralizedTime
unfoldable pub generalized_of : List ℕ → Option ℕ
generalized_of contents = zulu_of 14 contents >>? λ number. moment_of number

-- the moment of a time of this tag
unfoldable pub time_of : ℕ → List ℕ → Option ℕ
time_of tag contents = if tag == 0x17 then utc_of contents else (if tag == 0x18 then generalized_of contents else None)

-- the form with this tag
abbrev pub form_of : ℕ → Option TimeForm
form_of tag = if tag == 0x17 then Some Utc else (if tag == 0x18 then Some Generalized else None)

-- the time of this tag with these contents
unfoldable pub form_and_moment_of : ℕ → List ℕ → Option Time
form_and_moment_of tag contents =
    form_of tag >>? λ form. time_of tag contents >>? λ moment. Some (record { form = form; moment = moment })

-- the time that the element at the front is
unfoldable pub time_at : Front Time
time_at bytes = front_of bytes >>? λ x. form_and_moment_of x.0 x.1.0 >>? λ time. Some (time, x.1.1)
