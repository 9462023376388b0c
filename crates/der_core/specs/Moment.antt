-- Moments: a date with a time of day, as a number of fourteen decimal digits YYYYMMDDhhmmss
-- (RFC 5280, section 4.1.2.5).
use Rattle.std.specs.Prelude.{ℕ, ◌/◌, ◌%◌, ◌^◌, ◌≤◌}

-- the first four digits, and then two at a time
abbrev pub year : ℕ → ℕ
year digits = digits / 10 ^ 10

abbrev pub month : ℕ → ℕ
month digits = digits / 10 ^ 8 % 100

abbrev pub day : ℕ → ℕ
day digits = digits / 10 ^ 6 % 100

abbrev pub hour : ℕ → ℕ
hour digits = digits / 10 ^ 4 % 100

abbrev pub minute : ℕ → ℕ
minute digits = digits / 10 ^ 2 % 100

abbrev pub second : ℕ → ℕ
second digits = digits % 100

-- at most fourteen digits, with each part in its range; day 31 is good in every month, and so is year 0000
pub record IsMoment (digits : ℕ) : Type 0 where
  pub year : year digits ≤ 9999
  pub month_least : 1 ≤ month digits
  pub month_most : month digits ≤ 12
  pub day_least : 1 ≤ day digits
  pub day_most : day digits ≤ 31
  pub hour : hour digits ≤ 23
  pub minute : minute digits ≤ 59
  pub second : second digits ≤ 59
