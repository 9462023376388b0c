-- Decimal texts are read as the numbers below 2^128 that they spell, and fourteen digits as moments.
use Rattle.std.proofs.Common.{◌≡◌, ℕ, ◌+◌, ◌*◌, ◌/◌, ◌%◌, ◌^◌, ◌<◌, ◌≤◌, List, [], ◌∷◌, ◌++◌, length, get_or}
use Rattle.std.proofs.Common.{Option, Some, None, Result, Ok, Err, refl, sym, ◌∙◌, ap, subst, arith, append_assoc}
use Rattle.std.proofs.Common.{false, inl, inr, eqb, ne_eqb}
use Rattle.std.specs.Char.{digit_value}
use Rattle.std.specs.Fmt.{decimal}
use Rattle.std.specs.Result.{result_ok}
use Rattle.std.specs.Str.{IsUtf8}
use Rattle.std.specs.Str.Parse.{AllDigits, IsNumeral, digits_value, digits_value_after, ParsesUnsigned, without_leading_plus}
use Rattle.std.proofs.lemmas.Bool.{cases_lt}
use Rattle.std.proofs.lemmas.Fmt.{decimal_is_IsNumeral_wide, parse-decimal_wide, decimal_digit, decimal_step_wide}
use Rattle.std.proofs.lemmas.Fmt.{decimal_by_steps_wide, IsAscii-decimal_wide}
use Rattle.std.proofs.lemmas.List.{append-nil}
use Rattle.std.proofs.lemmas.Option.{none-some}
use Rattle.std.proofs.lemmas.Str.{IsUtf8-from_ascii, digit_value_digit}
use Rattle.std.proofs.lemmas.Str.Parse.{digit_from_value}
use Rattle.der_core.specs.Decimal.{moment_digits}
use Rattle.der_core.specs.Moment.{IsMoment}
use Rattle.der_core.specs.Reads.{Reads, Answers}
use Rattle.der_core.specs.Time.{last_digits}
use Rattle.der_core.specs.TimeReading.{decimal_after, moment_of}
use Rattle.der_core.proofs.Numbers.{some_is}
use Rattle.der_core.proofs.Times.{decimal_again, decimal_take, moment_take, moment_again}

-- ---- the digits of a number

value_grows : (n : ℕ) (ds : List ℕ) → n ≤ digits_value_after 10 n ds
value_grows n [] = omega arith
value_grows n (c ∷ cs) = omega (arith, value_grows (n * 10 + digit_value c) cs)

value_after : (n : ℕ) (ds : List ℕ) → 0 < n → AllDigits 10 ds → digits_value_after 10 n ds < 10 ^ 64
    → decimal (digits_value_after 10 n ds) ≡ decimal n ++ ds
value_after n [] some digits small = sym (append-nil (decimal n))
value_after n (c ∷ cs) some digits small =
    let m : ℕ = n * 10 + digit_value c in
    let k = digit_value_digit c (digit_from_value c digits.0) in
    let front : m / 10 ≡ n = omega (arith, digits.0) in
    let end : 48 + m % 10 ≡ c = omega (arith, digits.0) in
    value_after m cs (omega arith) digits.1 small
    ∙ ap (λ (x : List ℕ). x ++ cs) (decimal_step_wide m (omega arith) (omega (arith, value_grows m cs))
    ∙ (λ i. decimal (front i) ++ (end i ∷ [])))
    ∙ append_assoc (decimal n) (c ∷ []) cs

-- digits whose first is none of 0 are those of their number
led : (c : ℕ) (cs : List ℕ) → AllDigits 10 (c ∷ cs) → 49 ≤ c → digits_value 10 (c ∷ cs) < 10 ^ 64
    → decimal (digits_value 10 (c ∷ cs)) ≡ c ∷ cs
led c cs digits first small =
    let k = digit_value_digit c (digit_from_value c digits.0) in
    let is : 48 + (0 * 10 + digit_value c) ≡ c = omega arith in
    value_after (0 * 10 + digit_value c) cs (omega arith) digits.1 small
    ∙ ap (λ (x : List ℕ). x ++ cs) (decimal_digit (0 * 10 + digit_value c) (omega (arith, digits.0))
    ∙ ap (λ x. x ∷ []) is)

-- ---- a number has one text

abbrev pub IsSmall : ℕ → Type 0
IsSmall n = n < 2 ^ 128

value_of : (n : ℕ) → IsSmall n → digits_value 10 (decimal n) ≡ n
value_of n small = (decimal_is_IsNumeral_wide n (omega (arith, small))).1

one_decimal : (m n : ℕ) → IsSmall m → IsSmall n → decimal m ≡ decimal n → m ≡ n
one_decimal m n x y e = sym (value_of m x) ∙ ap (digits_value 10) e ∙ value_of n y

some_reads : (octets : List ℕ) (m : ℕ) → IsSmall m → octets ≡ decimal m → Reads decimal IsSmall octets (Some m)
some_reads octets m small is n = (
  λ e. subst (λ (k : ℕ). IsSmall k × (octets ≡ decimal k)) (some_is m n e) (small, is),
  λ other. ap Some (one_decimal m n small other.0 (sym is ∙ other.1)),
)

none_reads : (octets : List ℕ) → ((n : ℕ) → IsSmall n → octets ≡ decimal n → ⊥) → Reads decimal IsSmall octets None
none_reads octets never n = (λ e. absurd (none-some n e), λ other. absurd (never n other.0 other.1))

-- ---- by the first octet

zero_text : decimal 0 ≡ 48 ∷ []
zero_text = decimal_digit 0 (omega arith)

pub reads_zero : (octets : List ℕ) → octets ≡ 48 ∷ [] → Reads decimal IsSmall octets (Some 0)
reads_zero octets is = some_reads octets 0 (omega arith) (is ∙ sym zero_text)

-- the first octet is a digit other than 0
abbrev pub IsLed : List ℕ → Type 0
IsLed octets = (49 ≤ get_or octets 0 0) × (get_or octets 0 0 ≤ 57)

first_digit : (n : ℕ) → n < 10 ^ 64 → 0 < n → IsLed (decimal n)
first_digit n small some = (decimal_by_steps_wide (λ m ds. (0 < length ds) × (0 < m → IsLed ds)) one more n small).1 some
  where
    one : (m : ℕ) → m < 10 → (0 < length ((48 + m) ∷ [])) × (0 < m → IsLed ((48 + m) ∷ []))
    one m low = (omega arith, λ pos. (omega (arith, pos), omega (arith, low)))

    more : (m : ℕ) (ds : List ℕ) → 10 ≤ m → (0 < length ds) × (0 < m / 10 → IsLed ds)
        → (0 < length (ds ++ (48 + m % 10) ∷ [])) × (0 < m → IsLed (ds ++ (48 + m % 10) ∷ []))
    more m [] low h = absurd (omega (arith, h.0))
    more m (d ∷ ds) low h = (omega arith, λ pos. h.1 (omega (arith, low)))

pub reads_unled : (octets : List ℕ) → (octets ≡ 48 ∷ [] → ⊥) → (IsLed octets → ⊥)
    → Reads decimal IsSmall octets None
reads_unled octets nonzero unled = none_reads octets never
  where
    never : (n : ℕ) → IsSmall n → octets ≡ decimal n → ⊥
    never n small is = elim (cases_lt 0 n) [
      | inl pos ↦
          let first = subst IsLed (sym is) (first_digit n (omega (arith, small)) pos) in
          unled first
      | inr none ↦
          let zero : n ≡ 0 = omega (arith, none) in
          nonzero (is ∙ ap decimal zero ∙ zero_text)
    ]

-- ---- what std parses

pub reads_no_text : (octets : List ℕ) → (IsUtf8 octets → ⊥) → Reads decimal IsSmall octets None
reads_no_text octets none = none_reads octets (λ n small is.
    none (subst IsUtf8 (sym is) (IsUtf8-from_ascii (decimal n) (IsAscii-decimal_wide n (omega (arith, small))))))

pub reads_parsed : {F : Type 0} (octets : List ℕ) (r : Result ℕ F) → 49 ≤ get_or octets 0 0
    → ParsesUnsigned 128 10 octets r → Reads decimal IsSmall octets (result_ok r)
reads_parsed {F} octets (Ok m) lead parses = let h = read octets lead parses in some_reads octets m h.0 h.1
  where
    read : (octets : List ℕ) → 49 ≤ get_or octets 0 0 → ParsesUnsigned {E = F} 128 10 octets (Ok m)
        → IsSmall m × (octets ≡ decimal m)
    read [] lead h = absurd (omega (arith, lead))
    read (c ∷ cs) lead h =
        let plus : eqb c 43 ≡ false = ne_eqb c 43 (λ same. omega (arith, same, lead)) in
        let whole : without_leading_plus (c ∷ cs) ≡ c ∷ cs = rw plus refl in
        let p = subst (λ (ds : List ℕ). (IsNumeral 10 ds × (digits_value 10 ds < 2 ^ 128)) × (m ≡ digits_value 10 ds))
        whole h in (
          omega (arith, p.0.1, p.1),
          sym (led c cs p.0.0.1 lead (omega (arith, p.0.1))) ∙ ap decimal (sym p.1),
        )
reads_parsed {F} octets (Err f) lead parses = none_reads octets (λ n small is.
    wrong n (parse-decimal_wide 128 n octets (Err f) small (omega (arith, small)) is parses))
  where
    wrong : (n : ℕ) → ◌≡◌ {A = Result ℕ F} (Err f) (Ok n) → ⊥
    wrong n same = cc

-- ---- moments

pub no_moment_digits : (octets : List ℕ) → decimal_after 0 octets ≡ None → Reads moment_digits IsMoment octets None
no_moment_digits octets none n = (
  λ e. absurd (none-some n e),
  λ named. absurd (none-some _ (sym none ∙ ap (decimal_after 0) named.1 ∙ decimal_again 14 0 n)),
)

pub moment_read : (octets : List ℕ) (number : ℕ) (result : Option ℕ) → length octets ≡ 14
    → decimal_after 0 octets ≡ Some number → Answers (λ moment. moment) result (moment_of number)
    → Reads moment_digits IsMoment octets result
moment_read octets number result size is answers n = (
  λ e.
      let m = moment_take number n (answered result e answers) in
      let read = (decimal_take 0 octets number is).digits in
      (m.0, subst (λ (k : ℕ). octets ≡ last_digits k number) size read ∙ ap (last_digits 14) m.1),
  λ named.
      let whole : 0 * 10 ^ 14 + n % 10 ^ 14 ≡ n = omega (arith, named.0.year) in
      let same : number ≡ n = some_is number n
      (sym is ∙ ap (decimal_after 0) named.1 ∙ decimal_again 14 0 n ∙ ap (λ (k : ℕ). Some k) whole) in
      again result (ap moment_of same ∙ moment_again n named.0) answers,
)
  where
    answered : (result : Option ℕ) → result ≡ Some n → Answers (λ moment. moment) result (moment_of number)
        → moment_of number ≡ Some n
    answered (Some m) e answers = answers ∙ e
    answered None e answers = absurd (none-some n e)

    again : (result : Option ℕ) → moment_of number ≡ Some n → Answers (λ moment. moment) result (moment_of number)
        → result ≡ Some n
    again (Some m) e answers = sym answers ∙ e
    again None e answers = absurd (none-some n (sym answers ∙ e))
