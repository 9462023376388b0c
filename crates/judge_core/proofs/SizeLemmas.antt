-- An item by its head.
use Rattle.std.proofs.Common.{◌≡◌, ℕ, ◌+◌, List, [], ◌++◌, length, Ok, refl, sym, ap, subst, ◌∙◌, arith}
use Rattle.std.proofs.lemmas.List.{length-append, append-nil}
use Rattle.der_core.specs.declared.fault.DerFault.{DerFault}
use Rattle.der_core.specs.declared.fault.DerFault.TheVariants.{Short, Malformed}
use Rattle.der_core.specs.Element.{enc}
use Rattle.der_core.specs.Head.{head_octets, head_at, IsHead, BeginsWith, IsNoHead}
use Rattle.der_core.proofs.HeadLemmas.{head_again}
use Rattle.judge_core.specs.Conditions.{IsSequenceOf}
use Rattle.judge_core.specs.Steps.{BeginsLike}

-- an element begins with its head
pub enc_begins : (contents : List ℕ) → enc 0x30 contents ≡ head_octets 0x30 (length contents) ++ contents
unfolding enc
enc_begins contents = refl

-- octets begin with one head
pub one_head : (octets : List ℕ) (tag size other count : ℕ) (b : BeginsWith octets tag size) (d : BeginsWith octets other count)
    → (tag ≡ other) × (size ≡ count) × (b.rest ≡ d.rest)
one_head octets tag size other count b d =
    let one : head_at octets ≡ Ok (tag, (size, b.rest)) =
    subst (λ o. head_at o ≡ Ok (tag, (size, b.rest))) (sym b.text) (head_again tag size b.rest b.head) in
    let two : head_at octets ≡ Ok (other, (count, d.rest)) =
    subst (λ o. head_at o ≡ Ok (other, (count, d.rest))) (sym d.text) (head_again other count d.rest d.head) in
    let same : ◌≡◌ {A = ℕ × (ℕ × List ℕ)} (tag, (size, b.rest)) (other, (count, d.rest)) = cc in
    (ap (λ x. x.0) same, ap (λ x. x.1.0) same, ap (λ x. x.1.1) same)

-- where no head stands, none does
pub no_head : (octets : List ℕ) (fault : DerFault) (tag size : ℕ) → IsNoHead fault octets → BeginsWith octets tag size → ⊥
no_head octets Short tag size none begins = none.0 (tag, size, begins)
no_head octets Malformed tag size none begins =
    none [] (tag, size, subst (λ o. BeginsWith o tag size) (sym (append-nil octets)) begins)

module _ (octets : List ℕ) (more : ℕ) (item : List ℕ) (like : BeginsLike octets more item) where
  -- the head of an item
  pub begins : (contents : List ℕ) → IsSequenceOf item contents → BeginsWith octets 0x30 (length contents)
  begins contents is =
      (like.heads 0x30 (length contents)).1
      (record {
        head = record { octet = is.0.octet; low_bits = is.0.low_bits; fits = is.0.fits };
        rest = contents;
        text = is.1 ∙ enc_begins contents;
      })

  -- what its head says
  pub size_is : (tag size : ℕ) (rest : List ℕ) → IsHead tag size → octets ≡ head_octets tag size ++ rest
      → (contents : List ℕ) → IsSequenceOf item contents
      → (tag ≡ 0x30) × (size ≡ length contents) × (size ≡ length rest + more)
  size_is tag size rest head text contents is =
      let same = one_head octets tag size 0x30 (length contents) (record { head = head; rest = rest; text = text })
      (begins contents is) in
      let whole : length item ≡ length (head_octets 0x30 (length contents)) + length contents =
      ap length (is.1 ∙ enc_begins contents) ∙ length-append (head_octets 0x30 (length contents)) contents in
      let front : length octets ≡ length (head_octets tag size) + length rest =
      ap length text ∙ length-append (head_octets tag size) rest in
      let heads : length (head_octets tag size) ≡ length (head_octets 0x30 (length contents)) =
      ap (λ (x : ℕ × ℕ). length (head_octets x.0 x.1)) (λ i. (same.0 i, same.1 i)) in
      (same.0, same.1, omega (arith, whole, front, heads, like.count, same.1))

  -- an item is there
  pub item_of : (size : ℕ) (rest : List ℕ) → IsHead 0x30 size → octets ≡ head_octets 0x30 size ++ rest
      → size ≡ length rest + more → (contents : List ℕ) × IsSequenceOf item contents × (length contents ≡ size)
  item_of size rest head text count =
      let b = (like.heads 0x30 size).0 (record { head = head; rest = rest; text = text }) in
      let whole : length item ≡ length (head_octets 0x30 size) + length b.rest =
      ap length b.text ∙ length-append (head_octets 0x30 size) b.rest in
      let front : length octets ≡ length (head_octets 0x30 size) + length rest =
      ap length text ∙ length-append (head_octets 0x30 size) rest in
      let is : length b.rest ≡ size = omega (arith, whole, front, like.count, count) in (
        b.rest,
        (
          record { octet = head.octet; low_bits = head.low_bits; fits = omega (arith, is, head.fits) },
          b.text ∙ ap (λ n. head_octets 0x30 n ++ b.rest) (sym is) ∙ sym (enc_begins b.rest),
        ),
        is,
      )
