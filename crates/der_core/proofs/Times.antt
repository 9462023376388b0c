-- Decimal digits are read as the number that they spell, and times as the moments whose texts they are.
use Rattle.std.proofs.Common.{◌≡◌, ℕ, zero, suc, ◌+◌, ◌-◌, ◌*◌, ◌/◌, ◌%◌, ◌^◌, ◌<◌, ◌≤◌, Bool, true, false}
use Rattle.std.proofs.Common.{cond, eqb, leb, ltb, ◌&&◌, ◌||◌, List, [], ◌∷◌, ◌++◌, length, get_or, take, drop}
use Rattle.std.proofs.Common.{Option, Some, None, refl, sym, ap, subst, ◌∙◌, arith, add-one, inl, inr}
use Rattle.std.specs.Prelude.{codes}
use Rattle.std.proofs.lemmas.Bool.{cases_lt, leb-true, ltb-false, ltb-true, lt-ltb, le-ltb, eqb-true, eq-eqb, ne_eqb}
use Rattle.std.proofs.lemmas.Bool.{or_parts, and_parts}
use Rattle.std.proofs.lemmas.Option.{cond_some}
use Rattle.std.proofs.lemmas.List.{drop_all, length-append, length-take, take_at, take-append-drop, get_or-append-add}
use Rattle.std.proofs.Math.Seq.{drop-cons}
use Rattle.std.proofs.lemmas.Nat.{div-mul-add}
use Rattle.std.proofs.Math.Arith.{mod-mul}
use Rattle.std.proofs.Math.Nat.{one-le-pow, add-mul-div_right, add-mul-mod_self_right, mul-le-mul_right}
use Rattle.std.proofs.lemmas.Grind.{pow_more}
use Rattle.der_core.specs.Moment.{year, month, day, hour, minute, second, IsMoment}
use Rattle.der_core.specs.Shapes.{IsWhole}
use Rattle.der_core.specs.Time.{last_digits, utc_text, IsUtc, generalized_text, has_utc, time_tag, time_contents}
use Rattle.der_core.specs.TimeReading.{is_moment, moment_of, digit_of, decimal_after, zulu_of, with_century}
use Rattle.der_core.specs.TimeReading.{utc_of, generalized_of, time_of}
use Rattle.der_core.proofs.Numbers.{some_bind, some_is, some_guard}

-- ---- one digit after the other, as a loop does

pub more : (ds : List ℕ) (n i digit : ℕ) → i < length ds → digit_of (get_or ds i 0) ≡ Some digit
    → decimal_after n (drop i ds) ≡ decimal_after (n * 10 + digit) (drop (i + 1) ds)
unfolding decimal_after
more ds n i digit within is = rw (add-one, drop-cons ds i 0 within, is) refl

pub stops : (ds : List ℕ) (n i : ℕ) → i < length ds → digit_of (get_or ds i 0) ≡ None
    → decimal_after n (drop i ds) ≡ None
unfolding decimal_after
stops ds n i within is = rw (drop-cons ds i 0 within, is) refl

pub ends : (ds : List ℕ) (n i : ℕ) → length ds ≤ i → decimal_after n (drop i ds) ≡ Some n
unfolding decimal_after
ends ds n i past = rw (drop_all i ds past) refl

-- ---- digits both ways

digit_take : (o digit : ℕ) → digit_of o ≡ Some digit → (o ≡ 48 + digit) × (digit < 10)
unfolding digit_of
digit_take o digit e =
    let g = some_guard (ltb o 48 || ltb 57 o) (Some (o - 48)) digit e in
    let tests = or_parts (ltb o 48) (ltb 57 o) g.0 in
    let is : o - 48 ≡ digit = some_is _ _ g.1 in
    (omega (arith, ltb-false _ _ tests.0), omega (arith, ltb-false _ _ tests.1))

digit_again : (digit : ℕ) → digit < 10 → digit_of (48 + digit) ≡ Some digit
unfolding digit_of
digit_again digit small =
    let back : (48 + digit) - 48 ≡ digit = omega arith in
    rw (le-ltb (48 + digit) 48 (omega arith), le-ltb 57 (48 + digit) (omega arith), back) refl

power_more : (k : ℕ) → 10 ^ suc k ≡ 10 ^ k * 10
power_more k = ap (λ (i : ℕ). 10 ^ i) (sym (add-one k)) ∙ pow_more 10 k

power_some : (k : ℕ) → 0 < 10 ^ k
power_some k = omega (arith, one-le-pow k 10 (omega arith))

-- the digit before the last k ones, and those
parted : (number k : ℕ) → number % 10 ^ suc k ≡ number / 10 ^ k % 10 * 10 ^ k + number % 10 ^ k
parted number k =
    let more : 10 ^ suc k ≡ 10 * 10 ^ k = omega (arith, power_more k) in
    ap (λ (power : ℕ). number % power) more ∙ mod-mul number (omega arith) (power_some k)

-- a number in front of k digits
front_div : (front number k : ℕ) → (front * 10 ^ suc k + number) / 10 ^ k ≡ number / 10 ^ k + front * 10
front_div front number k =
    let whole : front * 10 ^ suc k + number ≡ number + front * 10 * 10 ^ k =
    regroup front number (10 ^ k) (10 ^ suc k) (power_more k) in
    ap (λ (n : ℕ). n / 10 ^ k) whole ∙ add-mul-div_right number (front * 10) (power_some k)
  where
    regroup : (front number power power' : ℕ) → power' ≡ power * 10
        → front * power' + number ≡ number + front * 10 * power
    regroup front number power power' p = rw p (omega arith)

-- digits in front change nothing
last_digits-add : (count front number : ℕ) → last_digits count (front * 10 ^ count + number) ≡ last_digits count number
last_digits-add zero front number = refl
last_digits-add (suc count) front number =
    let digit : (number / 10 ^ count + front * 10) % 10 ≡ number / 10 ^ count % 10 =
    add-mul-mod_self_right (number / 10 ^ count) front 10 in
    let whole : front * 10 ^ suc count + number ≡ front * 10 * 10 ^ count + number =
    ap (λ (n : ℕ). n + number) (regroup front (10 ^ count) (10 ^ suc count) (power_more count)) in
    let rest : last_digits count (front * 10 ^ suc count + number) ≡ last_digits count number =
    ap (last_digits count) whole ∙ last_digits-add count (front * 10) number in
    rw (front_div front number count, digit, rest) refl
  where
    regroup : (front power power' : ℕ) → power' ≡ power * 10 → front * power' ≡ front * 10 * power
    regroup front power power' p = rw p (omega arith)

length-last_digits : (count number : ℕ) → length (last_digits count number) ≡ count
length-last_digits zero number = refl
length-last_digits (suc count) number = ap suc (length-last_digits count number)

pub decimal_again : (count front number : ℕ)
    → decimal_after front (last_digits count number) ≡ Some (front * 10 ^ count + number % 10 ^ count)
unfolding decimal_after
decimal_again zero front number = ap (λ (n : ℕ). Some n) (omega arith)
decimal_again (suc count) front number =
    let small : number / 10 ^ count % 10 < 10 = omega arith in
    rw (
      digit_again (number / 10 ^ count % 10) small,
      decimal_again count
          (front * 10 + number / 10 ^ count % 10) number,
    )
    (ap (λ (n : ℕ). Some n)
    (regroup front (number / 10 ^ count % 10) (10 ^ count) (number % 10 ^ count) (10 ^ suc count)
    (number % 10 ^ suc count) (power_more count) (parted number count)))
  where
    regroup : (front digit power low power' low' : ℕ) → power' ≡ power * 10 → low' ≡ digit * power + low
        → (front * 10 + digit) * power + low ≡ front * power' + low'
    regroup front digit power low power' low' p l = rw (p, l) (omega arith)

-- the digits that were read, and where their number lies
pub record IsRead (front : ℕ) (os : List ℕ) (number : ℕ) : Type 0 where
  pub digits : os ≡ last_digits (length os) number
  pub least : front * 10 ^ length os ≤ number
  pub most : number < (front + 1) * 10 ^ length os

read_more : (front digit o : ℕ) (os : List ℕ) (number : ℕ) → o ≡ 48 + digit → digit < 10
    → IsRead (front * 10 + digit) os number → IsRead front (o ∷ os) number
read_more front digit o os number is small rest =
    let power = 10 ^ length os in
    let low : number ≡ (front * 10 + digit) * 10 ^ length os + (number - (front * 10 + digit) * 10 ^ length os) =
    omega (arith, rest.least) in
    let below : number - (front * 10 + digit) * 10 ^ length os < 10 ^ length os =
    omega (arith, rest.least, rest.most) in
    let front' : number / 10 ^ length os ≡ front * 10 + digit =
    ap (λ (n : ℕ). n / 10 ^ length os) low
    ∙ div-mul-add (front * 10 + digit) (10 ^ length os)
    (number - (front * 10 + digit) * 10 ^ length os) below in
    let first : 48 + number / 10 ^ length os % 10 ≡ o = rw front' (omega arith) in
    record {
      digits = rw first (ap (λ (ds : List ℕ). o ∷ ds) rest.digits);
      least = least front digit (10 ^ length os) (10 ^ suc (length os)) number (power_more (length os)) rest.least;
      most = most front digit (10 ^ length os) (10 ^ suc (length os)) number (power_more (length os)) small rest.most;
    }
  where
    least : (front digit power power' number : ℕ) → power' ≡ power * 10 → (front * 10 + digit) * power ≤ number
        → front * power' ≤ number
    least front digit power power' number p h = rw p (omega (arith, h))

    most : (front digit power power' number : ℕ) → power' ≡ power * 10 → digit < 10
        → number < (front * 10 + digit + 1) * power → number < (front + 1) * power'
    most front digit power power' number p small h = rw p
        (omega (arith, h, mul-le-mul_right power (room front digit small)))
      where
        room : (front digit : ℕ) → digit < 10 → front * 10 + digit + 1 ≤ (front + 1) * 10
        room front digit small = omega arith

pub decimal_take : (front : ℕ) (os : List ℕ) (number : ℕ) → decimal_after front os ≡ Some number → IsRead front os number
unfolding decimal_after
decimal_take front [] number e =
    let is = some_is front number e in
    record { digits = refl; least = omega arith; most = omega arith }
decimal_take front (o ∷ os) number e =
    let b = some_bind (digit_of o) (λ digit. decimal_after (front * 10 + digit) os) number e in
    let digit = digit_take o b.0 b.1 in
    read_more front b.0 o os number digit.0 digit.1 (decimal_take (front * 10 + b.0) os number b.2)

pub decimal_lt : (os : List ℕ) (number : ℕ) → decimal_after 0 os ≡ Some number → number < 10 ^ length os
decimal_lt os number e = omega (arith, (decimal_take 0 os number e).most)

-- ---- digits and Z

zulu_take : (count : ℕ) (contents : List ℕ) (number : ℕ) → zulu_of count contents ≡ Some number
    → (contents ≡ last_digits count number ++ codes "Z") × (number < 10 ^ count)
unfolding zulu_of
zulu_take count contents number e =
    let g =
    if_some (eqb (length contents) (count + 1) && eqb (get_or contents count 0) 90)
    (decimal_after 0 (take count contents)) number e in
    let tests = and_parts (eqb (length contents) (count + 1)) (eqb (get_or contents count 0) 90) g.0 in
    let size : length contents ≡ count + 1 = eqb-true _ _ tests.0 in
    let size' : length (take count contents) ≡ count = omega (arith, length-take count contents) in
    let read = decimal_take 0 (take count contents) number g.1 in
    let digits : take count contents ≡ last_digits count number =
    subst (λ (k : ℕ). take count contents ≡ last_digits k number) size' read.digits in
    let last : drop count contents ≡ codes "Z" =
    drop-cons contents count 0 (omega arith)
    ∙ rw (eqb-true _ _ tests.1, drop_all (suc count) contents (omega arith)) refl in
    let most : number < 10 ^ count = subst (λ (k : ℕ). number < 10 ^ k) size' (omega (arith, read.most)) in
    (sym (take-append-drop count contents) ∙ rw (digits, last) refl, most)
  where
    if_some : (b : Bool) (o : Option ℕ) (n : ℕ) → cond b o None ≡ Some n → (b ≡ true) × (o ≡ Some n)
    if_some true o n e = (refl, e)
    if_some false o n e = absurd cc

zulu_again : (count number : ℕ) → zulu_of count (last_digits count number ++ codes "Z") ≡ Some (number % 10 ^ count)
unfolding zulu_of
zulu_again count number =
    let digits = last_digits count number in
    let size : length (last_digits count number ++ codes "Z") ≡ count + 1 =
    omega (arith, length-append (last_digits count number) (codes "Z"), length-last_digits count number) in
    let behind : get_or (last_digits count number ++ codes "Z") (length (last_digits count number) + 0) 0 ≡ 90 =
    get_or-append-add (last_digits count number) (codes "Z") 0 0 in
    let place : length (last_digits count number) + 0 ≡ count = omega (arith, length-last_digits count number) in
    let last : get_or (last_digits count number ++ codes "Z") count 0 ≡ 90 =
    subst (λ (k : ℕ). get_or (last_digits count number ++ codes "Z") k 0 ≡ 90) place behind in
    let front : take count (last_digits count number ++ codes "Z") ≡ last_digits count number =
    take_at (last_digits count number) (codes "Z") count (length-last_digits count number) in
    rw (eq-eqb _ _ size, eq-eqb _ _ last, front) (decimal_again count 0 number ∙ ap (λ (n : ℕ). Some n) (omega arith))

-- ---- moments

is_moment_valid : (number : ℕ) → is_moment number ≡ true → IsMoment number
unfolding is_moment
is_moment_valid number test =
    let parts = and_parts _ (ltb (hour number) 24 && (ltb (minute number) 60 && ltb (second number) 60)) test in
    let date = and_parts _ (ltb 0 (day number) && ltb (day number) 32) parts.0 in
    let months = and_parts (ltb (year number) 10000) (ltb 0 (month number) && ltb (month number) 13) date.0 in
    let month = and_parts (ltb 0 (month number)) (ltb (month number) 13) months.1 in
    let day = and_parts (ltb 0 (day number)) (ltb (day number) 32) date.1 in
    let time = and_parts (ltb (hour number) 24) (ltb (minute number) 60 && ltb (second number) 60) parts.1 in
    let seconds = and_parts (ltb (minute number) 60) (ltb (second number) 60) time.1 in
    record {
      year = omega (arith, ltb-true _ _ months.0);
      month_least = ltb-true _ _ month.0;
      month_most = omega (arith, ltb-true _ _ month.1);
      day_least = ltb-true _ _ day.0;
      day_most = omega (arith, ltb-true _ _ day.1);
      hour = omega (arith, ltb-true _ _ time.0);
      minute = omega (arith, ltb-true _ _ seconds.0);
      second = omega (arith, ltb-true _ _ seconds.1);
    }

pub moment_take : (number moment : ℕ) → moment_of number ≡ Some moment → IsMoment moment × (number ≡ moment)
unfolding moment_of
moment_take number moment e =
    let g = cond_some (is_moment number) number moment e in
    (subst IsMoment g.1 (is_moment_valid number g.0), g.1)

pub moment_again : (moment : ℕ) → IsMoment moment → moment_of moment ≡ Some moment
unfolding moment_of is_moment
moment_again moment h =
    rw (
      lt-ltb (year moment) 10000 (omega (arith, h.year)),
      lt-ltb 0 (month moment) h.month_least,
      lt-ltb (month moment) 13 (omega (arith, h.month_most)),
      lt-ltb 0 (day moment) h.day_least,
      lt-ltb (day moment) 32 (omega (arith, h.day_most)),
      lt-ltb (hour moment) 24 (omega (arith, h.hour)),
      lt-ltb (minute moment) 60 (omega (arith, h.minute)),
      lt-ltb (second moment) 60 (omega (arith, h.second)),
    )
    refl

pub generalized-whole : IsWhole generalized_text IsMoment generalized_of
unfolding generalized_text generalized_of
generalized-whole = record {
  takes = λ contents moment octets e.
      let b = some_bind (zulu_of 14 contents) (λ number. moment_of number) moment e in
      let m = moment_take b.0 moment b.2 in
      (m.0, (zulu_take 14 contents b.0 b.1).0 ∙ ap (λ (n : ℕ). last_digits 14 n ++ codes "Z") m.1);
  again = λ moment h.
      let whole : moment % 10 ^ 14 ≡ moment = omega (arith, h.year) in
      rw (zulu_again 14 moment, whole) (moment_again moment h);
}

century_take : (number : ℕ) → number < 10 ^ 12
    → (front : ℕ) × (with_century number
    ≡ front * 10 ^ 12 + number) × (1950 ≤ year (with_century number)) × (year (with_century number) ≤ 2049)
unfolding with_century
century_take number small = elim (cases_lt number (50 * 10 ^ 10)) [
  | inl lt ↦ rw (lt-ltb number (50 * 10 ^ 10) lt) (20, refl, omega arith, omega arith)
  | inr le ↦ rw (le-ltb number (50 * 10 ^ 10) le) (19, refl, omega arith, omega arith)
]

century_again : (moment : ℕ) → IsUtc moment → with_century (moment % 10 ^ 12) ≡ moment
unfolding with_century
century_again moment h = elim (cases_lt (moment % 10 ^ 12) (50 * 10 ^ 10)) [
  | inl lt ↦ rw (lt-ltb _ _ lt) (omega (arith, h.least, h.most))
  | inr le ↦ rw (le-ltb _ _ le) (omega (arith, h.least, h.most))
]

pub utc-whole : IsWhole utc_text IsUtc utc_of
unfolding utc_text utc_of
utc-whole = record {
  takes = λ contents moment octets e.
      let b = some_bind (zulu_of 12 contents) (λ number. moment_of (with_century number)) moment e in
      let z = zulu_take 12 contents b.0 b.1 in
      let m = moment_take (with_century b.0) moment b.2 in
      let y = century_take b.0 z.1 in
      let text : last_digits 12 b.0 ≡ last_digits 12 moment = sym (last_digits-add 12 y.0 b.0)
      ∙ ap (last_digits 12) (sym y.1 ∙ m.1) in (
        record {
          valid = m.0;
          least = subst (λ (k : ℕ). 1950 ≤ year k) m.1 y.2;
          most = subst
              (λ (k : ℕ). year k ≤ 2049) m.1 y.3;
        },
        z.0 ∙ ap (λ (ds : List ℕ). ds ++ codes "Z") text,
      );
  again = λ moment h. rw (zulu_again 12 moment, century_again moment h) (moment_again moment h.valid);
}

-- ---- times

pub utc_is : (tag : ℕ) (contents : List ℕ) → tag ≡ 0x17 → time_of tag contents ≡ utc_of contents
unfolding time_of
utc_is tag contents is = rw is refl

pub generalized_is : (tag : ℕ) (contents : List ℕ) → tag ≡ 0x18 → time_of tag contents ≡ generalized_of contents
unfolding time_of
generalized_is tag contents is = rw is refl

pub other_is : (tag : ℕ) (contents : List ℕ) → (tag ≡ 0x17 → ⊥) → (tag ≡ 0x18 → ⊥) → time_of tag contents ≡ None
unfolding time_of
other_is tag contents not_utc not_generalized = rw (ne_eqb tag 0x17 not_utc, ne_eqb tag 0x18 not_generalized) refl

pub written_again : (moment : ℕ) → IsMoment moment → time_of (time_tag moment) (time_contents moment) ≡ Some moment
written_again moment h = by_case (has_utc moment) refl
  where
    by_case : (utc : Bool) → has_utc moment ≡ utc → time_of (time_tag moment) (time_contents moment) ≡ Some moment
    by_case true is =
        let parts = and_parts (leb 1950 (year moment)) (leb (year moment) 2049) is in
        rw (is, utc_is 0x17 (utc_text moment) refl)
        (utc-whole.again moment (record { valid = h; least = leb-true _ _ parts.0; most = leb-true _ _ parts.1 }))
    by_case false is =
        rw (is, generalized_is 0x18 (generalized_text moment) refl) (generalized-whole.again moment h)

-- the same by the tag, as the code reads

pub utc_time-whole : IsWhole utc_text IsUtc (time_of 0x17)
utc_time-whole = record {
  takes = λ contents moment octets e. utc-whole.takes contents moment octets (sym (utc_is 0x17 contents refl) ∙ e);
  again = λ moment h. utc_is 0x17 (utc_text moment) refl ∙ utc-whole.again moment h;
}

pub generalized_time-whole : IsWhole generalized_text IsMoment (time_of 0x18)
generalized_time-whole = record {
  takes = λ contents moment octets e.
      generalized-whole.takes contents moment octets (sym (generalized_is 0x18 contents refl) ∙ e);
  again = λ moment h. generalized_is 0x18 (generalized_text moment) refl ∙ generalized-whole.again moment h;
}

pub one_utc : (m n : ℕ) → IsUtc m → IsUtc n → utc_text m ≡ utc_text n → m ≡ n
one_utc m n h k e = some_is m n (sym (utc-whole.again m h) ∙ ap utc_of e ∙ utc-whole.again n k)

pub one_generalized : (m n : ℕ) → IsMoment m → IsMoment n → generalized_text m ≡ generalized_text n → m ≡ n
one_generalized m n h k e =
    some_is m n (sym (generalized-whole.again m h) ∙ ap generalized_of e ∙ generalized-whole.again n k)

-- ---- how long a text is

pub length-utc : (moment : ℕ) → length (utc_text moment) ≡ 13
unfolding utc_text
length-utc moment = omega (arith, length-append (last_digits 12 moment) (codes "Z"), length-last_digits 12 moment)

pub length-generalized : (moment : ℕ) → length (generalized_text moment) ≡ 15
unfolding generalized_text
length-generalized moment =
    omega (arith, length-append (last_digits 14 moment) (codes "Z"), length-last_digits 14 moment)

pub length-time_contents-le : (moment : ℕ) → length (time_contents moment) ≤ 15
length-time_contents-le moment = by_case (has_utc moment) refl
  where
    by_case : (utc : Bool) → has_utc moment ≡ utc → length (time_contents moment) ≤ 15
    by_case true is = rw is (omega (arith, length-utc moment))
    by_case false is = rw is (omega (arith, length-generalized moment))
