use Rattle.std.proofs.Common.{◌≡◌, ◌++◌, ◌∙◌, List, ℕ, Result, Ok, Err, OnOk, ap}
use Rattle.cert_fields.specs.Algorithms.{signature_algorithm}
use Rattle.cert_fields.specs.Certificate.{key_text}
use Rattle.packager.proofs.certificate.put_key.Goals as goal

-- the same of other octets
instead : {T E : Type 0} (result : Result T E) (new out octets key : List ℕ)
    → OnOk result (new ≡ out ++ key_text (signature_algorithm, (0, octets))) → octets ≡ key
    → OnOk result (new ≡ out ++ key_text (signature_algorithm, (0, key)))
instead (Ok x) new out octets key put is = put ∙ ap (λ (k : List ℕ). out ++ key_text (signature_algorithm, (0, k))) is
instead (Err e) new out octets key put is = tt

pub returns-clause-ok : goal.returns-clause-ok
returns-clause-ok c =
    instead c.put_key_octets.result c.put_key_octets.new.out.items c.args.out.now.items _ _ c.put_key_octets.ensures.ok
    c.key_octets.ensures.text
