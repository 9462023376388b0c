-- What a splitter that has had some octets answers to a piece.
use Rattle.std.proofs.Common.{◌≡◌, ℕ, zero, suc, ◌+◌, ◌-◌, ◌<◌, ◌≤◌, List, [], ◌∷◌, ◌++◌, length, take, drop, true, eqb, Option, Some, None, refl, sym, ap, subst, ◌∙◌, arith, inl, inr}
use Rattle.std.specs.Prelude.{MatchOption}
use Rattle.std.specs.Option.{option_eq}
use Rattle.std.proofs.lemmas.Bool.{cases_lt, eqb-true, eq-eqb}
use Rattle.std.proofs.lemmas.List.{take_all, take-append-drop, take-append-le, length-append, length-take}
use Rattle.std.proofs.lemmas.Grind.{not_there}
use Rattle.std.proofs.Math.Seq.{take-append-add}
use mathlib.Core.Logic.{∥∥₁_map}
use Rattle.der_core.specs.declared.fault.DerFault.{DerFault}
use Rattle.der_core.specs.declared.fault.DerFault.TheVariants.{Short, Malformed}
use Rattle.der_core.specs.declared.splitter.Step.{Step}
use Rattle.der_core.specs.declared.splitter.Step.TheVariants.{More, Ends, Rest}
use Rattle.der_core.specs.Items.{IsSequence, HasSequence, BeginsSequence}
use Rattle.der_core.specs.Progress.{Progress, Sees, Declares, HasEnded, Reaches, sequence_size}
use Rattle.der_core.specs.Splitter.{Awaits, IsStep, IsHeadFault}
use Rattle.der_core.proofs.Sequences.{begins_front, begins_from_has, has_from_is, declares_once, declares_first, declares_from_first, declares_has, declares_item, length-item, has_size, is_taken, begins_from_declares, none_of_none}
use Rattle.der_core.proofs.Heads.{no_octets}

-- ---- fronts of fronts

pub take-take_append : (k : ℕ) (xs ys : List ℕ) → take k (take k xs ++ ys) ≡ take k (xs ++ ys)
take-take_append zero xs ys = refl
take-take_append (suc k) [] ys = refl
take-take_append (suc k) (x ∷ xs) ys = ap (λ (r : List ℕ). x ∷ r) (take-take_append k xs ys)

take-take_comm : (j k : ℕ) (xs : List ℕ) → take j (take k xs) ≡ take k (take j xs)
take-take_comm zero zero xs = refl
take-take_comm zero (suc k) xs = refl
take-take_comm (suc j) zero xs = refl
take-take_comm (suc j) (suc k) [] = refl
take-take_comm (suc j) (suc k) (x ∷ xs) = ap (λ (r : List ℕ). x ∷ r) (take-take_comm j k xs)

-- ---- the count

-- an item that may be a SEQUENCE is counted
counted : (count : Option ℕ) (item : List ℕ)
    → MatchOption count (BeginsSequence item → ⊥) (λ n. (n ≡ length item) × BeginsSequence item)
    → BeginsSequence item → count ≡ Some (length item)
counted None item h begun = absurd (h begun)
counted (Some n) item h begun = ap (λ (k : ℕ). Some k) h.0

-- one that is not counted is none
uncounted : (count : Option ℕ) (item : List ℕ)
    → MatchOption count (BeginsSequence item → ⊥) (λ n. (n ≡ length item) × BeginsSequence item) → count ≡ None
    → BeginsSequence item → ⊥
uncounted None item h is = h
uncounted (Some n) item h is = absurd cc

pub some_is : (m n : ℕ) → ◌≡◌ {A = Option ℕ} (Some m) (Some n) → m ≡ n
some_is m n e = cc

-- ---- an item that has ended

pub sees_ended : (seen : Progress) (item : List ℕ) → Sees seen item → IsSequence item → HasEnded seen
sees_ended seen item sees s =
    let d = declares_item item s in (
      length s.contents,
      subst (λ (x : List ℕ). Declares x (length s.contents)) (sym sees.head) (declares_first item _ d),
      counted seen.count item sees.count (begins_from_declares item _ d)
          ∙ ap (λ (k : ℕ). Some k) (length-item item s),
    )

pub ended_is : (seen : Progress) (item : List ℕ) → Sees seen item → HasEnded seen → IsSequence item
ended_is seen item sees ended =
    let d : Declares item ended.0 =
    declares_from_first item ended.0 (subst (λ (x : List ℕ). Declares x ended.0) sees.head ended.1) in
    let sizes : sequence_size ended.0 ≡ length item =
    some_is _ _ (sym ended.2 ∙ counted seen.count item sees.count (begins_from_declares item ended.0 d)) in
    subst IsSequence (take_all (sequence_size ended.0) item (omega (arith, sizes)))
    (is_taken item ended.0 d (omega (arith, sizes)))

-- ---- a piece of an item that has not ended

-- the first octets that are kept of the item with the piece
kept : (seen : Progress) (so_far piece : List ℕ) → Sees seen so_far
    → take 6 (seen.head ++ piece) ≡ take 6 (so_far ++ piece)
kept seen so_far piece sees = ap (λ (x : List ℕ). take 6 (x ++ piece)) sees.head ∙ take-take_append 6 so_far piece

pub rest_again : (seen : Progress) (head so_far piece : List ℕ) → Sees seen so_far
    → head ≡ take 6 (seen.head ++ piece) → seen.count ≡ None
    → IsStep so_far piece (record { head = head; count = seen.count }) Rest
rest_again seen head so_far piece sees is none =
    let never : BeginsSequence (so_far ++ piece)
    → ⊥ = λ b. uncounted seen.count so_far sees.count none (begins_front so_far piece b) in (
      never,
      record {
        head = is
            ∙ kept seen so_far piece sees;
        count =
            subst (λ (o : Option ℕ). MatchOption o (BeginsSequence (so_far ++ piece) → ⊥)
            (λ n. (n ≡ length (so_far ++ piece)) × BeginsSequence (so_far ++ piece))) (sym none) never;
      },
    )

pub rest_now : (seen : Progress) (head so_far piece : List ℕ) → Sees seen so_far
    → head ≡ take 6 (seen.head ++ piece) → IsHeadFault Malformed head
    → IsStep so_far piece (record { head = head; count = None }) Rest
rest_now seen head so_far piece sees is fault =
    let head-is : head ≡ take 6 (so_far ++ piece) = is ∙ kept seen so_far piece sees in
    let never : BeginsSequence (so_far ++ piece) → ⊥ = λ b.
    fault (subst BeginsSequence (sym head-is)
    (begins_front (take 6 (so_far ++ piece)) (drop 6 (so_far ++ piece))
    (subst BeginsSequence (sym (take-append-drop 6 (so_far ++ piece))) b))) in
    (never, record { head = head-is; count = never })

pub more_of_head : (seen : Progress) (head so_far piece : List ℕ) → Sees seen so_far
    → head ≡ take 6 (seen.head ++ piece) → IsHeadFault Short head
    → IsStep so_far piece (record { head = head; count = Some (length head) }) More
more_of_head seen head so_far piece sees is fault =
    let head-is : head ≡ take 6 (so_far ++ piece) = is ∙ kept seen so_far piece sees in
    let few : length (so_far ++ piece) ≤ 6 =
    omega (arith, fault.1, ap length head-is, length-take 6 (so_far ++ piece)) in
    let all-is : head ≡ so_far ++ piece = head-is ∙ take_all 6 (so_far ++ piece) few in
    let begun : BeginsSequence (so_far ++ piece) = subst BeginsSequence all-is fault.0 in
    let never : HasSequence (so_far ++ piece)
    → ⊥ = λ h. fault.2 _ (subst (λ (x : List ℕ). Declares x (length h.sequence.contents)) (sym all-is)
    (declares_has (so_far ++ piece) h)) in
    (begun, never, record { head = head-is; count = (ap length all-is, begun) })

-- the item's declared size, and the number of its octets
declared_so : (seen : Progress) (head so_far piece : List ℕ) (count size : ℕ) → Sees seen so_far
    → head ≡ take 6 (seen.head ++ piece) → seen.count ≡ Some count
    → Declares head size → Declares (so_far ++ piece) size × (count ≡ length so_far)
declared_so seen head so_far piece count size sees is counts d =
    let d' : Declares (so_far ++ piece) size =
    declares_from_first (so_far ++ piece) size
    (subst (λ (x : List ℕ). Declares x size) (is ∙ kept seen so_far piece sees) d) in (
      d',
      some_is _ _ (sym counts
          ∙ counted seen.count so_far sees.count
          (begins_front so_far piece (begins_from_declares (so_far ++ piece) size d'))),
    )

-- an item that has not ended has fewer octets than it declares
fewer : (so_far piece : List ℕ) (size : ℕ) → (HasSequence so_far → ⊥) → Declares (so_far ++ piece) size
    → length so_far < sequence_size size
fewer so_far piece size going d = elim (cases_lt (length so_far) (sequence_size size)) [
  | inl lt ↦ lt
  | inr ge ↦
      let taken : IsSequence (take (sequence_size size) (so_far ++ piece)) =
      is_taken (so_far ++ piece) size d (omega (arith, length-append so_far piece)) in
      absurd (going (record {
        item = take (sequence_size size) so_far;
        rest = drop (sequence_size size) so_far;
        sequence = subst IsSequence (take-append-le (sequence_size size) so_far piece ge) taken;
        text = sym (take-append-drop (sequence_size size) so_far);
      }))
]

pub more_of_contents : (seen : Progress) (head so_far piece : List ℕ) (count size : ℕ) → Sees seen so_far
    → head ≡ take 6 (seen.head ++ piece) → seen.count ≡ Some count
    → Declares head size → length piece < sequence_size size - count
    → IsStep so_far piece (record { head = head; count = Some (count + length piece) }) More
more_of_contents seen head so_far piece count size sees is counts d left =
    let so = declared_so seen head so_far piece count size sees is counts d in
    let begun = begins_from_declares (so_far ++ piece) size so.0 in
    let never : HasSequence (so_far ++ piece)
    → ⊥ = λ h. omega (arith, left, so.1, has_size (so_far ++ piece) size so.0 h, length-append so_far piece)
    in (
      begun,
      never,
      record {
        head = is
            ∙ kept seen so_far piece sees;
        count = (omega (arith, so.1, length-append so_far piece), begun);
      },
    )

pub some_left : (seen : Progress) (head so_far piece : List ℕ) (count size : ℕ) → Sees seen so_far
    → (HasSequence so_far → ⊥) → head ≡ take 6 (seen.head ++ piece) → seen.count ≡ Some count
    → Declares head size → 0 < sequence_size size - count
some_left seen head so_far piece count size sees going is counts d =
    let so = declared_so seen head so_far piece count size sees is counts d in omega
    (arith, so.1, fewer so_far piece size going so.0)

ends_whole : (seen : Progress) (head so_far piece : List ℕ) (count size left : ℕ) → Sees seen so_far
    → (HasSequence so_far → ⊥) → head ≡ take 6 (seen.head ++ piece) → seen.count ≡ Some count
    → Declares head size → left ≡ sequence_size size - count → left ≤ length piece
    → IsStep so_far piece (record { head = take (sequence_size size) head; count = Some (sequence_size size) })
    (Ends left)
ends_whole seen head so_far piece count size left sees going is counts d left-is enough =
    let so = declared_so seen head so_far piece count size sees is counts d in
    let few = fewer so_far piece size going so.0 in
    let total : sequence_size size ≡ length so_far + left = omega (arith, so.1, few, left-is) in
    let item-is : take (sequence_size size) (so_far ++ piece) ≡ so_far ++ take left piece =
    ap (λ (k : ℕ). take k (so_far ++ piece)) total ∙ take-append-add so_far piece left in
    let whole : IsSequence (so_far ++ take left piece) =
    subst IsSequence item-is
    (is_taken (so_far ++ piece) size so.0 (omega (arith, total, enough, length-append so_far piece))) in
    let head-is : take (sequence_size size) head ≡ take 6 (so_far ++ take left piece)
    = ap (take (sequence_size size)) (is ∙ kept seen so_far piece sees)
    ∙ take-take_comm (sequence_size size) 6 (so_far ++ piece) ∙ ap (take 6) item-is in
    let sizes : sequence_size size ≡ length (so_far ++ take left piece) =
    omega (arith, total, enough, length-append so_far (take left piece), length-take left piece) in
    (whole, record { head = head-is; count = (sizes, begins_from_has _ (has_from_is _ whole)) })

-- the same, where the head is cut at a number that is the size
pub ends_now : (seen : Progress) (head cut so_far piece : List ℕ) (count size whole left : ℕ) → Sees seen so_far
    → (HasSequence so_far → ⊥) → head ≡ take 6 (seen.head ++ piece) → seen.count ≡ Some count
    → Declares head size → whole ≡ sequence_size size → cut ≡ take whole head → left ≡ whole - count
    → left ≤ length piece
    → IsStep so_far piece (record { head = cut; count = Some whole }) (Ends left)
ends_now seen head cut so_far piece count size whole left sees going is counts d whole-is cut-is left-is enough =
    let h = ends_whole seen head so_far piece count size left sees going is counts d
    (left-is ∙ ap (λ (n : ℕ). n - count) whole-is) enough in
    let head-is : take (sequence_size size) head ≡ cut = sym (cut-is ∙ ap (λ (n : ℕ). take n head) whole-is) in
    subst (λ (n : ℕ). IsStep so_far piece (record { head = cut; count = Some n }) (Ends left)) (sym whole-is)
    (subst (λ (x : List ℕ). IsStep so_far piece (record { head = x; count = Some (sequence_size size) })
    (Ends left)) head-is h)

-- ---- what is reached

pub step_reaches : (so_far piece : List ℕ) (seen : Progress) (step : Step) → IsStep so_far piece seen step
    → Reaches seen
step_reaches so_far piece seen More s = record { item = so_far ++ piece; sees = s.2; last = λ h. absurd (s.1 h) }
step_reaches so_far piece seen (Ends n) s = record { item = so_far ++ take n piece; sees = s.1; last = λ _. s.0 }
step_reaches so_far piece seen Rest s =
    record { item = so_far ++ piece; sees = s.1; last = λ h. absurd (s.0 (begins_from_has _ h)) }

-- what was reached goes on, where it has not ended
pub reached_step : (seen after : Progress) (piece : List ℕ) (step : Step) → (HasEnded seen → ⊥) → ∥ Reaches seen ∥₁
    → ((so_far : List ℕ) → Sees seen so_far → (HasSequence so_far → ⊥) → IsStep so_far piece after step)
    → ∥ Reaches after ∥₁
reached_step seen after piece step going reached goes =
    ∥∥₁_map reached (λ (r : Reaches seen). step_reaches r.item piece after step
    (goes r.item r.sees (λ h. going (sees_ended seen r.item r.sees (r.last h)))))

pub reached_fact : (seen : Progress) (m n : ℕ) → (HasEnded seen → ⊥) → ∥ Reaches seen ∥₁
    → ((so_far : List ℕ) → Sees seen so_far → (HasSequence so_far → ⊥) → m < n) → m < n
reached_fact seen m n going reached goes = elim (cases_lt m n) [
  | inl lt ↦ lt
  | inr ge ↦ absurd (not_there reached
      (λ r. omega (arith, ge, goes r.item r.sees (λ h. going (sees_ended seen r.item r.sees (r.last h))))))
]

-- ---- the declared length

pub declared_is : (seen : Progress) (item : List ℕ) (size : ℕ) → Sees seen item → Declares seen.head size
    → (n : ℕ) → (size ≡ n → Declares item n) × (Declares item n → size ≡ n)
declared_is seen item size sees d n =
    let d' = declares_from_first item size (subst (λ (x : List ℕ). Declares x size) sees.head d) in
    (λ e. subst (Declares item) e d', λ e. declares_once item size n d' e)

pub undeclared : (seen : Progress) (item : List ℕ) → Sees seen item → ((size : ℕ) → Declares seen.head size → ⊥)
    → (n : ℕ) → Declares item n → ⊥
undeclared seen item sees never n d =
    never n (subst (λ (x : List ℕ). Declares x n) (sym sees.head) (declares_first item n d))

pub fault_undeclared : (fault : DerFault) (octets : List ℕ) → IsHeadFault fault octets → (size : ℕ)
    → Declares octets size → ⊥
fault_undeclared Short octets fault size d = fault.2 size d
fault_undeclared Malformed octets fault size d = fault (begins_from_declares octets size d)

-- ---- a splitter that nothing has come to, and tests

pub sees_fresh : (head : List ℕ) → head ≡ [] → Sees (record { head = head; count = Some 0 }) []
sees_fresh head is = record { head = is; count = (refl, no_octets.0) }

pub reaches_fresh : (head : List ℕ) → head ≡ [] → Reaches (record { head = head; count = Some 0 })
reaches_fresh head is = record { item = []; sees = sees_fresh head is; last = λ h. absurd (none_of_none h) }

pub same_count : (count : Option ℕ) (n : ℕ) → option_eq eqb count (Some n) ≡ true → count ≡ Some n
same_count None n e = absurd cc
same_count (Some m) n e = ap (λ (k : ℕ). Some k) (eqb-true m n e)

pub count_same : (count : Option ℕ) (n : ℕ) → count ≡ Some n → option_eq eqb count (Some n) ≡ true
count_same None n e = absurd cc
count_same (Some m) n e = eq-eqb m n (some_is m n e)

-- ---- the next piece

pub after_end : (seen : Progress) (so_far : List ℕ) → Awaits seen so_far → HasEnded seen → so_far ≡ []
after_end seen so_far (inl h) ended = absurd (h.1 (has_from_is so_far (ended_is seen so_far h.0 ended)))
after_end seen so_far (inr h) ended = h.3

pub before_end : (seen : Progress) (so_far : List ℕ) → Awaits seen so_far → (HasEnded seen → ⊥)
    → Sees seen so_far × (HasSequence so_far → ⊥)
before_end seen so_far (inl h) going = h
before_end seen so_far (inr h) going = absurd (going (sees_ended seen h.0 h.2 h.1))
