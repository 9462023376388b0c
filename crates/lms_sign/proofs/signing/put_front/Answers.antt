use Rattle.std.proofs.Common.{◌≡◌, ℕ, List, ◌++◌, refl, ap, ◌∙◌, append_assoc}
use Rattle.lms_verify.specs.Digits.{u32str}
use Rattle.lms_verify.specs.Kinds.{lms_number, ots_number}
use Rattle.lms_verify.specs.OneTime.{message_value}
use Rattle.lms_sign.specs.Secrets.{randomizer}
use Rattle.lms_sign.specs.Nodes.{path}
use Rattle.lms_sign.specs.SignTexts.{signature_values}
use Rattle.lms_sign.proofs.signing.put_front.Goals as goal

-- parts one behind the other
in_order : (a b d r v k p : List ℕ)
    → (a ++ (b ++ (d ++ (r ++ (v ++ k))))) ++ p ≡ a ++ (b ++ d ++ r ++ v ++ k ++ p)
in_order a b d r v k p = simp append_assoc

pub returns : goal.returns
returns c =
    let key = c.args.key.now in
    let q = c.args.q in
    let message = c.args.first.now ++ c.args.rest.now in
    let levels : c.copy_from_slice.new.self ≡ u32str 0 =
    c.copy_from_slice.ensures.after ∙ c.to_be_bytes.ensures in
    let leaf : c.copy_from_slice-2.new.self ≡ u32str q =
    c.copy_from_slice-2.ensures.after ∙ c.to_be_bytes-2.ensures in
    let ots : c.copy_from_slice-3.new.self ≡ u32str (ots_number key.ots) =
    c.copy_from_slice-3.ensures.after ∙ c.to_be_bytes-3.ensures ∙ ap u32str c.number.ensures.value in
    let random : c.copy_from_slice-4.new.self ≡ randomizer key q =
    c.copy_from_slice-4.ensures.after ∙ c.randomizer-randomizer.ensures in
    let values : c.put_values.new.out
    ≡ signature_values key q (message_value key.id q (randomizer key q) message) =
    c.put_values.ensures ∙ ap (signature_values key q) (c.message_value-value.ensures.value
    ∙ ap (λ (random : List ℕ). message_value key.id q random message) c.randomizer-randomizer.ensures) in
    let kind : c.copy_from_slice-5.new.self ≡ u32str (lms_number key.kind) =
    c.copy_from_slice-5.ensures.after ∙ c.to_be_bytes-4.ensures ∙ ap u32str c.number-2.ensures.value in
    in_order c.copy_from_slice.new.self c.copy_from_slice-2.new.self c.copy_from_slice-3.new.self
    c.copy_from_slice-4.new.self c.put_values.new.out c.copy_from_slice-5.new.self (path key q)
    ∙ rw (levels, leaf, ots, random, values, kind) refl
