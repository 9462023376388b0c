use Rattle.std.proofs.Common.{List, ℕ, ap, sym, subst, refl, map, length, arith, Vec, Global, Result, Ok, Err, OnOk}
use Rattle.der_core.specs.Element.{enc}
use Rattle.der_write.specs.Sets.{IsSetContents}
use Rattle.der_write.proofs.Contents.{contents_length}
use Rattle.der_write.proofs.set.put_set_sorted.Goals as goal

-- what follows where a call answers Ok
on_ok : {T E P Q : Type 0} (result : Result T E) → OnOk result P → (P → Q) → OnOk result Q
on_ok (Ok x) p follows = follows p
on_ok (Err e) p follows = tt

pub put_tlv-requires-clause-fits : goal.put_tlv-requires-clause-fits
put_tlv-requires-clause-fits c =
    let long = contents_length _ _ c.in_ok-contents.ensures.ok in
    omega (arith, c.requires.fits, long, ap (λ (octets : List ℕ). length octets) c.deref.ensures.value)

pub returns-clause-ok : goal.returns-clause-ok
returns-clause-ok c =
    let set = subst (IsSetContents (map (λ (part : Vec ℕ Global). part.items) c.args.parts.now)) (sym c.deref.ensures.value) c.in_ok-contents.ensures.ok in
    on_ok c.put_tlv.result c.put_tlv.ensures.ok (λ put. (enc 0x31 c.deref.result.now, (c.deref.result.now, set, refl), put))
