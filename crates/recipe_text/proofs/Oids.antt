-- Dotted identifiers are read exactly.
use Rattle.std.proofs.Common.{◌≡◌, ◌≢◌, ℕ, ◌+◌, ◌-◌, ◌/◌, ◌%◌, ◌^◌, ◌<◌, ◌≤◌, Bool, true, false, List, [], ◌∷◌, ◌++◌, length, map, get_or}
use Rattle.std.proofs.Common.{length-append}
use Rattle.std.specs.Int.Digits.{digits_of}
use Rattle.std.proofs.lemmas.Int.Digits.{digits_of_step}
use Rattle.std.proofs.lemmas.List.{map_push}
use Rattle.std.proofs.Common.{Option, Some, None, refl, sym, ◌∙◌, ap, subst, arith, append_assoc, inl, inr, eqb, ltb, cond}
use Rattle.std.specs.Prelude.{SomeIff, IfNone}
use Rattle.std.specs.Fmt.{decimal}
use Rattle.std.specs.Str.Parse.{AllDigits}
use Rattle.std.proofs.lemmas.Bool.{cases_Bool, cases_lt, lt-ltb, le-ltb, ltb-true, eqb-true}
use Rattle.std.proofs.lemmas.Fmt.{decimal_is_IsNumeral_wide}
use Rattle.std.proofs.lemmas.List.{append-nil}
use Rattle.std.proofs.lemmas.List.Concat.{flat_map-append}
use Rattle.std.proofs.lemmas.Option.{none-some, cond_some}
use Rattle.std.proofs.lemmas.Str.Parse.{digit_from_value}
use Rattle.der_core.specs.Objects.{IsOid, AreSmall, oid_contents, subidentifier, dotted, dotted_first}
use Rattle.der_core.proofs.Numbers.{some_is}
use Rattle.recipe_text.specs.OidReading.{tail_text, IsFront, FirstOf, Spells, joined, others}
use Rattle.recipe_text.specs.Reading.{cut}
use Rattle.recipe_text.specs.Words.{Exactly, IsNumber, IsOidWord}
use Rattle.recipe_text.proofs.Cuts.{Without, cut_takes, cut_again, none_cut}
use Rattle.recipe_text.proofs.Decimals.{one_number}
use Rattle.recipe_text.proofs.Names.{uncut}
use Rattle.recipe_text.proofs.Texts.{all-append}

guarded : {A : Type 0} (b : Bool) (r : Option A) (y : A) → cond b r None ≡ Some y → (b ≡ true) × (r ≡ Some y)
guarded true r y e = (refl, e)
guarded false r y e = absurd (none-some y e)

pub if_none : {A : Type 0} (r : Option A) (P : Type 0) → r ≡ None → P → IfNone r P
if_none None P is h = h
if_none (Some x) P is h = absurd (none-some x (sym is))

-- ---- fronts

-- a text is cut as its front and what stands behind it say
cut_front : (front : List ℕ) (rest : Option (List ℕ)) → Without 46 front
    → cut 46 (front ++ tail_text rest) ≡ elim rest [ None ↦ None | Some text ↦ Some (front, text) ]
cut_front front None free = ap (cut 46) (append-nil front) ∙ uncut 46 front free
cut_front front (Some text) free = cut_again 46 front text free

pub same_front : (a b : List ℕ) (r q : Option (List ℕ)) → Without 46 a → Without 46 b
    → a ++ tail_text r ≡ b ++ tail_text q → (a ≡ b) × (r ≡ q)
same_front a b None None x y e = (sym (append-nil a) ∙ e ∙ append-nil b, refl)
same_front a b None (Some t) x y e =
    absurd (none-some (b, t) (sym (cut_front a None x) ∙ ap (cut 46) e ∙ cut_front b (Some t) y))
same_front a b (Some s) None x y e =
    absurd (none-some (a, s) (sym (cut_front b None y) ∙ ap (cut 46) (sym e) ∙ cut_front a (Some s) x))
same_front a b (Some s) (Some t) x y e =
    let both : Some (a, s) ≡ Some (b, t) = sym (cut_front a (Some s) x) ∙ ap (cut 46) e ∙ cut_front b (Some t) y in
    let parts = some_is _ _ both in
    (ap (λ p. p.0) parts, ap (λ p. Some (p.1)) parts)

pub front_cut : (text front rest : List ℕ) → cut 46 text ≡ Some (front, rest) → IsFront text front (Some rest)
front_cut text front rest e =
    let t = cut_takes 46 text (front, rest) e in
    record { parts = t.1; whole = t.0 }

pub front_whole : (text : List ℕ) → cut 46 text ≡ None → IsFront text text None
front_whole text e = record { parts = sym (append-nil text); whole = none_cut 46 text e }

digits_without : (c : ℕ) (ds : List ℕ) → c < 48 → AllDigits 10 ds → Without c ds
digits_without c [] low h = tt
digits_without c (d ∷ ds) low h =
    let k = digit_from_value d h.0 in
    ((λ same. omega (arith, same)), digits_without c ds low h.1)

pub decimal_without : (c n : ℕ) → c < 48 → n < 2 ^ 128 → Without c (decimal n)
decimal_without c n low small = digits_without c (decimal n) low (decimal_is_IsNumeral_wide n (omega arith)).0.1

-- ---- components behind the first two

-- what stands behind the dot before them
pub rest_of : List ℕ → Option (List ℕ)
rest_of [] = None
rest_of (s ∷ ss) = Some (decimal s ++ others ss)

pub is_rest : (ss : List ℕ) → others ss ≡ tail_text (rest_of ss)
unfolding rest_of
is_rest [] = refl
is_rest (s ∷ ss) = refl

no_others : (ss : List ℕ) (text : List ℕ) → [] ≡ others ss → ss ≡ []
no_others [] text e = refl
no_others (s ∷ ss) text e = absurd cc

-- a text behind a dot begins with the first of its components
pub next_one : (text front : List ℕ) (rest : Option (List ℕ)) (ss : List ℕ) → IsFront text front rest → AreSmall ss
    → 46 ∷ text ≡ others ss
    → (s : ℕ) × (ts : List ℕ) × IsNumber front s × AreSmall ts × (tail_text rest ≡ others ts)
next_one text front rest [] f small e = absurd cc
next_one text front rest (s ∷ ss) f small e =
    let behind : text ≡ decimal s ++ others ss = cc in
    let same = same_front front (decimal s) rest (rest_of ss) f.whole (decimal_without 46 s (omega arith) small.0)
    (sym f.parts ∙ behind ∙ ap (λ (t : List ℕ). decimal s ++ t) (is_rest ss)) in
    (s, ss, (small.0, same.0), small.1, ap tail_text same.1 ∙ sym (is_rest ss))

pub one_others : (ss ts : List ℕ) → AreSmall ss → AreSmall ts → others ss ≡ others ts → ss ≡ ts
one_others [] [] x y e = refl
one_others [] (t ∷ ts) x y e = absurd cc
one_others (s ∷ ss) [] x y e = absurd cc
one_others (s ∷ ss) (t ∷ ts) x y e =
    let b : decimal s ++ others ss ≡ decimal t ++ others ts = cc in
    let same = same_front (decimal s) (decimal t) (rest_of ss) (rest_of ts) (decimal_without 46 s (omega arith) x.0)
    (decimal_without 46 t (omega arith) y.0)
    (ap (λ (r : List ℕ). decimal s ++ r) (sym (is_rest ss)) ∙ b ∙ ap (λ (r : List ℕ). decimal t ++ r) (is_rest ts)) in
    let first : s ≡ t = one_number (decimal s) s t (x.0, refl) (y.0, same.0) in
    let tails : ss ≡ ts =
    one_others ss ts x.1 y.1 (is_rest ss ∙ ap tail_text same.1 ∙ sym (is_rest ts)) in
    λ i. first i ∷ tails i

-- one component more is appended
pub one_on : (old so-far new : List ℕ) (done : List ℕ) (s : ℕ) → so-far ≡ old ++ oid_contents done
    → new ≡ so-far ++ subidentifier s → new ≡ old ++ oid_contents (done ++ s ∷ [])
one_on old so-far new done s before is =
    is ∙ ap (λ (x : List ℕ). x ++ subidentifier s) before ∙ append_assoc old (oid_contents done) (subidentifier s)
    ∙ ap (λ (x : List ℕ). old ++ x) (ap (λ (x : List ℕ). oid_contents done ++ x) (sym (append-nil (subidentifier s)))
    ∙ sym (flat_map-append subidentifier done (s ∷ [])))

pub text_more : (whole text front : List ℕ) (rest : Option (List ℕ)) (done : List ℕ) (s : ℕ)
    → whole ≡ others done ++ 46 ∷ text → IsFront text front rest → IsNumber front s
    → whole ≡ others (done ++ s ∷ []) ++ tail_text rest
text_more whole text front rest done s before f is =
    before ∙ ap (λ (t : List ℕ). others done ++ 46 ∷ t) (f.parts ∙ ap (λ (n : List ℕ). n ++ tail_text rest) is.1)
    ∙ sym (append_assoc (others done) (46 ∷ decimal s) (tail_text rest))
    ∙ ap (λ (t : List ℕ). t ++ tail_text rest) (ap (λ (x : List ℕ). others done ++ x)
    (sym (append-nil (46 ∷ decimal s))) ∙ sym (flat_map-append (λ (n : ℕ). 46 ∷ decimal n) done (s ∷ [])))

-- the digits so far, and one more
pub high_more : (old mid new : List ℕ) (number : ℕ) → (number ≡ 0 → ⊥)
    → mid ≡ old ++ map (λ d. 128 + d) (digits_of 128 (number / 128)) → new ≡ mid ++ (128 + number % 128) ∷ []
    → new ≡ old ++ map (λ d. 128 + d) (digits_of 128 number)
high_more old mid new number some before is =
    let f = λ (d : ℕ). 128 + d in
    is ∙ ap (λ (x : List ℕ). x ++ (128 + number % 128) ∷ []) before
    ∙ append_assoc old (map f (digits_of 128 (number / 128))) ((128 + number % 128) ∷ [])
    ∙ ap (λ (x : List ℕ). old ++ x) (sym (map_push f (digits_of 128 (number / 128)) (number % 128))
    ∙ ap (map f) (sym (digits_of_step 128 number (omega arith) (omega (arith, some)))))

-- Components are read up to the rest, and their subidentifiers appended.
pub record Behind (whole rest old new : List ℕ) : Type 0 where
  pub done : List ℕ
  pub small : AreSmall done
  pub appended : new ≡ old ++ oid_contents done
  pub text : whole ≡ others done ++ rest
  pub back : (ss : List ℕ) → AreSmall ss → whole ≡ others ss → (ts : List ℕ) × AreSmall ts × (rest ≡ others ts)

pub behind_start : (whole old : List ℕ) → Behind whole whole old old
behind_start whole old = record {
  done = [];
  small = tt;
  appended = sym (append-nil old);
  text = refl;
  back = λ ss small is. (ss, small, is);
}

pub behind_on : (whole rest text front old mid new : List ℕ) (next : Option (List ℕ)) (n : ℕ) → rest ≡ 46 ∷ text
    → Behind whole rest old mid → IsFront text front next → IsNumber front n → new ≡ mid ++ subidentifier n
    → Behind whole (tail_text next) old new
behind_on whole rest text front old mid new next n dot b f number is = record {
  done = b.done ++ n ∷ [];
  small = all-append (λ (s : ℕ). s < 2 ^ 128) b.done (n ∷ []) b.small (number.0, tt);
  appended = one_on old mid new b.done n b.appended is;
  text = text_more whole text front next b.done n (b.text ∙ ap (λ (t : List ℕ). others b.done ++ t) dot) f number;
  back = λ ss small whole-is.
      let before = b.back ss small whole-is in
      let after = next_one text front next before.0 f before.1 (sym dot ∙ before.2) in
      (after.1, after.3, after.4);
}

pub behind_bad : (whole rest text front old mid new : List ℕ) (next : Option (List ℕ)) → rest ≡ 46 ∷ text
    → Behind whole rest old mid → IsFront text front next → Exactly (IsNumber front) None → Spells whole old new false
behind_bad whole rest text front old mid new next dot b f exact = λ ss small whole-is.
    let before = b.back ss small whole-is in
    let after = next_one text front next before.0 f before.1 (sym dot ∙ before.2) in
    none-some after.0 ((exact after.0).1 after.2)

pub behind_end : (whole rest old new : List ℕ) → rest ≡ [] → Behind whole rest old new → Spells whole old new true
behind_end whole rest old new nothing b =
    (b.done, b.small, b.text ∙ ap (λ (t : List ℕ). others b.done ++ t) nothing ∙ append-nil (others b.done), b.appended)

pub tail_smaller : (rest text front : List ℕ) (next : Option (List ℕ)) → rest ≡ 46 ∷ text → IsFront text front next
    → length (tail_text next) < length rest
tail_smaller rest text front next dot f =
    omega (arith, ap length dot, ap length f.parts, length-append front (tail_text next))

-- ---- the first two components

-- the digit of the first component, and the second
pub record HasParts (s digit second : ℕ) : Type 0 where
  pub text : dotted_first s ≡ digit ∷ 46 ∷ decimal second
  pub joins : s < 2 ^ 128 → joined digit second ≡ Some s
  pub large : 48 ≤ digit
  pub less : second ≤ s

parts_of : (s : ℕ) → (digit : ℕ) × (second : ℕ) × HasParts s digit second
unfolding joined
parts_of s = elim (cases_lt s 40) [
  | inl lt ↦ (
    48,
    s,
    record {
      text = rw (lt-ltb s 40 lt) refl;
      joins = λ small. rw (lt-ltb s 40 lt) refl;
      large = omega arith;
      less = omega arith;
    },
  )
  | inr le ↦ elim (cases_lt s 80) [
    | inl lt ↦
        let less : s - 40 < 40 = omega arith in
        let sum : s - 40 + 40 ≡ s = omega arith in (
          49,
          s - 40,
          record {
            text = rw (le-ltb s 40 le, lt-ltb s 80 lt) refl;
            joins = λ small. rw (lt-ltb (s - 40) 40 less) (ap Some sum);
            large = omega arith;
            less = omega arith;
          },
        )
    | inr more ↦
        let sum : s - 80 + 80 ≡ s = omega arith in (
          50,
          s - 80,
          record {
            text = rw (le-ltb s 40 le, le-ltb s 80 more) refl;
            joins = λ small.
                let less : s - 80 < 2 ^ 128 - 80 = omega (arith, small) in
                rw (lt-ltb (s - 80) (2 ^ 128 - 80) less) (ap Some sum);
            large = omega arith;
            less = omega arith;
          },
        )
  ]
]

-- what a first subidentifier says of how its word is cut
first_means : (word root text : List ℕ) (s : ℕ) (rest : Option (List ℕ)) → cut 46 word ≡ Some (root, text)
    → FirstOf word s rest
    → (digit : ℕ) × (second : ℕ) × (root ≡ digit ∷ []) × (text ≡ decimal second ++ tail_text rest)
    × (second < 2 ^ 128) × (joined digit second ≡ Some s)
first_means word root text s rest is f =
    let p = parts_of s in
    let free : Without 46 (p.0 ∷ []) = ((λ same. omega (arith, same, p.2.large)), tt) in
    let spelled : word ≡ (p.0 ∷ []) ++ 46 ∷ (decimal p.1 ++ tail_text rest) =
    f.parts ∙ ap (λ (d : List ℕ). d ++ tail_text rest) p.2.text in
    let both : Some (root, text) ≡ Some (p.0 ∷ [], decimal p.1 ++ tail_text rest) =
    sym is ∙ ap (cut 46) spelled ∙ cut_again 46 (p.0 ∷ []) (decimal p.1 ++ tail_text rest) free in
    let parts = some_is _ _ both in (
      p.0,
      p.1,
      ap (λ x. x.0) parts,
      ap (λ x. x.1) parts,
      omega (arith, p.2.less, f.small),
      p.2.joins f.small,
    )

pub uncut_first : (word : List ℕ) (s : ℕ) (rest : Option (List ℕ)) → cut 46 word ≡ None → FirstOf word s rest → ⊥
uncut_first word s rest none f =
    let p = parts_of s in
    let free : Without 46 (p.0 ∷ []) = ((λ same. omega (arith, same, p.2.large)), tt) in
    none-some _ (sym none ∙ ap (cut 46) (f.parts ∙ ap (λ (d : List ℕ). d ++ tail_text rest) p.2.text)
    ∙ cut_again 46 (p.0 ∷ []) (decimal p.1 ++ tail_text rest) free)

pub long_first : (word root text : List ℕ) (s : ℕ) (rest : Option (List ℕ)) → cut 46 word ≡ Some (root, text)
    → (length root ≡ 1 → ⊥) → FirstOf word s rest → ⊥
long_first word root text s rest is long f =
    let m = first_means word root text s rest is f in
    long (ap length m.2)

joined_is : (digit n s : ℕ) → n < 2 ^ 128 → joined digit n ≡ Some s
    → (s < 2 ^ 128) × (dotted_first s ≡ digit ∷ 46 ∷ decimal n)
unfolding joined
joined_is digit n s small e = elim (cases_Bool (eqb digit 48)) [
  | inl zero ↦
      let g = cond_some (ltb n 40) n s (rw zero at e) in
      let less : n < 40 = ltb-true n 40 g.0 in
      (omega (arith, g.1), ap dotted_first (sym g.1) ∙ rw (lt-ltb n 40 less, eqb-true digit 48 zero) refl)
  | inr other ↦ elim (cases_Bool (eqb digit 49)) [
    | inl one ↦
        let g = cond_some (ltb n 40) (n + 40) s (rw (other, one) at e) in
        let less : n < 40 = ltb-true n 40 g.0 in
        let back : n + 40 - 40 ≡ n = omega arith in (
          omega (arith, g.1),
          ap dotted_first (sym g.1)
              ∙ rw (le-ltb (n + 40) 40 (omega arith), lt-ltb (n + 40) 80 (omega arith), eqb-true digit 49 one, back)
              refl,
        )
    | inr another ↦
        let last : cond (eqb digit 50) (cond (ltb n (2 ^ 128 - 80)) (Some (n + 80)) None) None ≡ Some s =
        rw (other, another) at e in
        let two = guarded (eqb digit 50) (cond (ltb n (2 ^ 128 - 80)) (Some (n + 80)) None) s last in
        let g = cond_some (ltb n (2 ^ 128 - 80)) (n + 80) s two.1 in
        let less : n < 2 ^ 128 - 80 = ltb-true n (2 ^ 128 - 80) g.0 in
        let back : n + 80 - 80 ≡ n = omega arith in (
          omega (arith, g.1, less),
          ap dotted_first (sym g.1)
              ∙ rw (le-ltb (n + 80) 40 (omega arith), le-ltb (n + 80) 80 (omega arith), eqb-true digit 50 two.0, back)
              refl,
        )
  ]
]

module _ (word : List ℕ) (digit : ℕ) (text front : List ℕ) (behind : Option (List ℕ))
    (is : cut 46 word ≡ Some (digit ∷ [], text)) (f : IsFront text front behind) where
  second_is : (s : ℕ) (rest : Option (List ℕ)) → FirstOf word s rest
      → (second : ℕ) × IsNumber front second × (joined digit second ≡ Some s)
  second_is s rest first =
      let m = first_means word (digit ∷ []) text s rest is first in
      let same = same_front front (decimal m.1) behind rest f.whole (decimal_without 46 m.1 (omega arith) m.4)
      (sym f.parts ∙ m.3) in
      let one : digit ≡ m.0 = cc in
      (m.1, (m.4, same.0), ap (λ (d : ℕ). joined d m.1) one ∙ m.5)

  pub no_second : Exactly (IsNumber front) None → (s : ℕ) (rest : Option (List ℕ)) → FirstOf word s rest → ⊥
  no_second exact s rest first =
      let m = second_is s rest first in
      none-some m.0 ((exact m.0).1 m.1)

  pub no_joined : (n : ℕ) → IsNumber front n → joined digit n ≡ None → (s : ℕ) (rest : Option (List ℕ))
      → FirstOf word s rest → ⊥
  no_joined n number none s rest first =
      let m = second_is s rest first in
      none-some s (sym none ∙ ap (joined digit) (one_number front n m.0 number m.1) ∙ m.2)

  pub is_first : (n s : ℕ) → IsNumber front n → joined digit n ≡ Some s → FirstOf word s behind
  is_first n s number e =
      let t = joined_is digit n s number.0 e in
      record {
        small = t.0;
        parts =
            (cut_takes 46 word (digit ∷ [], text) is).1
            ∙ ap (λ (x : List ℕ). digit ∷ 46 ∷ x) (f.parts ∙ ap (λ (x : List ℕ). x ++ tail_text behind) number.1)
            ∙ ap (λ (x : List ℕ). x ++ tail_text behind) (sym t.1);
      }

pub single : (xs : List ℕ) → length xs ≡ 1 → xs ≡ get_or xs 0 0 ∷ []
single [] e = absurd (omega (arith, e))
single (x ∷ []) e = refl
single (x ∷ y ∷ ys) e = absurd (omega (arith, e))

-- ---- the whole

pub one_first : (word : List ℕ) (s t : ℕ) (r q : Option (List ℕ)) → FirstOf word s r → FirstOf word t q
    → (s ≡ t) × (r ≡ q)
one_first word s t r q x y =
    let p = parts_of s in
    let free : Without 46 (p.0 ∷ []) = ((λ same. omega (arith, same, p.2.large)), tt) in
    let is : cut 46 word ≡ Some (p.0 ∷ [], decimal p.1 ++ tail_text r) =
    ap (cut 46) (x.parts ∙ ap (λ (d : List ℕ). d ++ tail_text r) p.2.text)
    ∙ cut_again 46 (p.0 ∷ []) (decimal p.1 ++ tail_text r) free in
    let m = first_means word (p.0 ∷ []) (decimal p.1 ++ tail_text r) t q is y in
    let small : p.1 < 2 ^ 128 = omega (arith, p.2.less, x.small) in
    let same = same_front (decimal p.1) (decimal m.1) r q (decimal_without 46 p.1 (omega arith) small)
    (decimal_without 46 m.1 (omega arith) m.4) m.3 in
    let second : p.1 ≡ m.1 = one_number (decimal p.1) p.1 m.1 (small, refl) (m.4, same.0) in
    let digit : p.0 ≡ m.0 = cc in (
      some_is s t (sym (p.2.joins x.small) ∙ (λ i. joined (digit i) (second i)) ∙ m.5),
      same.1,
    )

-- an identifier's word has a first subidentifier, and others behind it
pub word_parts : (word id : List ℕ) → IsOidWord word id
    → (s : ℕ) × (ss : List ℕ) × FirstOf word s (rest_of ss) × AreSmall ss × (id ≡ subidentifier s ++ oid_contents ss)
word_parts word id w = by w.numbers w.small w.contents w.spelled
  where
    by : (numbers : List ℕ) → AreSmall numbers → id ≡ oid_contents numbers → word ≡ dotted numbers
        → (s : ℕ) × (ss : List ℕ) × FirstOf word s (rest_of ss) × AreSmall ss
        × (id ≡ subidentifier s ++ oid_contents ss)
    by [] small contents spelled =
        let none : length id ≡ 0 = ap length contents in
        absurd (omega (arith, none, w.valid.some))
    by (s ∷ ss) small contents spelled = (
      s,
      ss,
      record { small = small.0; parts = spelled ∙ ap (λ (t : List ℕ). dotted_first s ++ t) (is_rest ss) },
      small.1,
      contents,
    )

pub no_word : (word : List ℕ) → ((s : ℕ) (rest : Option (List ℕ)) → FirstOf word s rest → ⊥)
    → Exactly (IsOidWord word) None
no_word word none id = (
  λ e. absurd (none-some id e),
  λ w. let p = word_parts word id w in absurd (none p.0 (rest_of p.1) p.2),
)

module _ (word : List ℕ) (s : ℕ) (rest : Option (List ℕ)) (f : FirstOf word s rest) where
  pub no_tail : ((ss : List ℕ) → AreSmall ss → tail_text rest ≡ others ss → ⊥) → Exactly (IsOidWord word) None
  no_tail none id = (
    λ e. absurd (none-some id e),
    λ w.
        let p = word_parts word id w in
        let same = one_first word s p.0 rest (rest_of p.1) f p.2 in
        absurd (none p.1 p.3 (ap tail_text same.1 ∙ sym (is_rest p.1))),
  )

  pub is_word_of : (ss contents : List ℕ) → AreSmall ss → tail_text rest ≡ others ss
      → contents ≡ subidentifier s ++ oid_contents ss
      → (r : Option (List ℕ)) → SomeIff r (IsOid contents) contents → Exactly (IsOidWord word) r
  is_word_of ss contents small behind is r reads id = (
    λ e. forth r id reads e,
    λ w.
        let p = word_parts word id w in
        let same = one_first word s p.0 rest (rest_of p.1) f p.2 in
        let tails = one_others ss p.1 small p.3 (sym behind ∙ ap tail_text same.1 ∙ sym (is_rest p.1)) in
        let all : id ≡ contents =
        p.4 ∙ sym (λ i. subidentifier (same.0 i) ++ oid_contents (tails i)) ∙ sym is in
        back r id reads all w.valid,
  )
    where
      forth : (r : Option (List ℕ)) (id : List ℕ) → SomeIff r (IsOid contents) contents → r ≡ Some id
          → IsOidWord word id
      forth None id reads e = absurd (none-some id e)
      forth (Some x) id reads e =
          let whole : contents ≡ id = sym reads.1 ∙ some_is x id e in
          record {
            valid = subst IsOid whole reads.0;
            numbers = s ∷ ss;
            small = (f.small, small);
            contents = sym whole ∙ is;
            spelled = f.parts ∙ ap (λ (t : List ℕ). dotted_first s ++ t) behind;
          }

      back : (r : Option (List ℕ)) (id : List ℕ) → SomeIff r (IsOid contents) contents → id ≡ contents → IsOid id
          → r ≡ Some id
      back None id reads all valid = absurd (reads (subst IsOid all valid))
      back (Some x) id reads all valid = ap Some (reads.1 ∙ sym all)

-- ---- no spaces

others_without : (c : ℕ) (ss : List ℕ) → c < 46 → AreSmall ss → Without c (others ss)
others_without c [] low small = tt
others_without c (s ∷ ss) low small = (
  (λ same. omega (arith, same)),
  all-append (λ (o : ℕ). o ≢ c) (decimal s) (others ss) (decimal_without c s (omega arith) small.0)
      (others_without c ss low small.1),
)

pub oid_without : (c : ℕ) (word id : List ℕ) → c < 46 → IsOidWord word id → Without c word
oid_without c word id low w =
    let p = word_parts word id w in
    let q = parts_of p.0 in
    let tail = others_without c p.1 low p.3 in
    subst (Without c)
    (sym (p.2.parts ∙ ap (λ (d : List ℕ). d ++ tail_text (rest_of p.1)) q.2.text
    ∙ ap (λ (t : List ℕ). (q.0 ∷ 46 ∷ decimal q.1) ++ t) (sym (is_rest p.1)))) (
      (λ same. omega (arith, same, q.2.large)),
      (
        (λ same. omega (arith, same)),
        all-append (λ (o : ℕ). o ≢ c) (decimal q.1) (others p.1)
            (decimal_without c q.1 (omega arith) (omega (arith, q.2.less, p.2.small))) tail,
      ),
    )

pub oid_spaceless : (word id : List ℕ) → IsOidWord word id → Without 32 word
oid_spaceless word id w = oid_without 32 word id (omega arith) w
