use Rattle.std.proofs.Common.{arith, sym, ◌∙◌}
use Rattle.cms_signed.specs.SignedView.{tail_view, signer_view}
use Rattle.cms_signed.proofs.TailLaws as laws
use Rattle.cms_signed.proofs.signer.find_signer.Goals as goal

pub returns-in_default : goal.returns-in_default
returns-in_default c =
    laws.numbered c.args.octets.now _ 12 c.numbered.ensures.value (laws.no_tail c.args.octets.now c.in_default.ensures)

pub returns-in_default-read_certificates : goal.returns-in_default-read_certificates
returns-in_default-read_certificates c =
    let t = laws.tail_is c.args.octets.now (tail_view c.in-Some.tail) (λ i. omega (arith, c.type_inv.octets i))
    c.in-Some.ensures in
    laws.numbered c.args.octets.now _ 12 c.numbered-in_default-read_certificates.ensures.value
    (laws.bad_certificates c.args.octets.now (tail_view c.in-Some.tail) t c.in_default-read_certificates.ensures)

pub returns-then-not-is_one_sequence : goal.returns-then-not-is_one_sequence
returns-then-not-is_one_sequence c =
    let t = laws.tail_is c.args.octets.now (tail_view c.in-Some.tail) (λ i. omega (arith, c.type_inv.octets i))
    c.in-Some.ensures in
    laws.numbered c.args.octets.now _ 13 c.numbered-then-not-is_one_sequence.ensures.value
    (laws.no_signer c.args.octets.now (tail_view c.in-Some.tail) t
    (laws.are_choices _ _ c.in-Some-read_certificates.ensures)
    (laws.isnt_one _ (sym c.is_one_sequence.ensures ∙ c.if-not-is_one_sequence.true)))

pub returns-in_default-read_signer_info : goal.returns-in_default-read_signer_info
returns-in_default-read_signer_info c =
    let t = laws.tail_is c.args.octets.now (tail_view c.in-Some.tail) (λ i. omega (arith, c.type_inv.octets i))
    c.in-Some.ensures in
    let one = laws.one_is c.args.octets.now (tail_view c.in-Some.tail) (λ i. omega (arith, c.type_inv.octets i)) t
    (sym c.is_one_sequence.ensures ∙ c.if-not-is_one_sequence.false) in
    laws.numbered c.args.octets.now _ 14 c.numbered-in_default-read_signer_info.ensures.value
    (laws.bad_signer c.args.octets.now (tail_view c.in-Some.tail) one.0 t
    (laws.are_choices _ _ c.in-Some-read_certificates.ensures) (one.1, one.2)
    c.in_default-read_signer_info.ensures)

pub returns-then-not-are_unsigned : goal.returns-then-not-are_unsigned
returns-then-not-are_unsigned c =
    let t = laws.tail_is c.args.octets.now (tail_view c.in-Some.tail) (λ i. omega (arith, c.type_inv.octets i))
    c.in-Some.ensures in
    let s = laws.signer_is c.args.octets.now (tail_view c.in-Some.tail) (signer_view c.in-Some-read_signer_info.signer)
    (λ i. omega (arith, c.type_inv.octets i)) t c.in-Some-read_signer_info.ensures in
    laws.numbered c.args.octets.now _ 15 c.numbered-then-not-are_unsigned.ensures.value
    (laws.bad_unsigned c.args.octets.now (tail_view c.in-Some.tail) (signer_view c.in-Some-read_signer_info.signer) s
    (laws.are_choices _ _ c.in-Some-read_certificates.ensures)
    (λ h. laws.no_yes (c.are_unsigned.ensures.1 h) c.if-not-are_unsigned.true))

pub returns : goal.returns
returns c =
    let t = laws.tail_is c.args.octets.now (tail_view c.in-Some.tail) (λ i. omega (arith, c.type_inv.octets i))
    c.in-Some.ensures in
    let s = laws.signer_is c.args.octets.now (tail_view c.in-Some.tail) (signer_view c.in-Some-read_signer_info.signer)
    (λ i. omega (arith, c.type_inv.octets i)) t c.in-Some-read_signer_info.ensures in
    laws.are_asked c.args.octets.now (tail_view c.in-Some.tail) (signer_view c.in-Some-read_signer_info.signer) _ s
    c.in-Some-read_certificates.ensures (c.are_unsigned.ensures.0 c.if-not-are_unsigned.false)
