use Rattle.std.proofs.Common.{◌≡◌, Some, sym, ◌∙◌, ap}
use Rattle.der_core.proofs.Numbers.{some_is}
use Rattle.module_record.specs.Reading.{view, key_record_at}
use Rattle.module_record.proofs.KeyLaws.{same_key, key_again, key_size}
use Rattle.module_record.proofs.laws.one_key_record_each.Goals as goal

pub returns-clause-unique : goal.returns-clause-unique
returns-clause-unique c = λ k l after_k after_l valid_k valid_l same.
    let both : Some (view k, after_k) ≡ Some (view l, after_l) =
    sym (key_again k after_k valid_k) ∙ ap key_record_at same ∙ key_again l after_l valid_l in
    let parts = some_is _ _ both in
    (same_key k l (ap (λ x. x.0) parts), ap (λ x. x.1) parts)

pub returns-clause-read : goal.returns-clause-read
returns-clause-read c = λ key rest valid. key_again key rest valid

pub returns-clause-size : goal.returns-clause-size
returns-clause-size c = λ key valid. key_size key valid
