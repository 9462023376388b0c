use Rattle.std.proofs.Common.{◌≡◌, ℕ, List, ◌∷◌, [], ◌++◌, Option, IsNone, sym, subst, ◌∙◌}
use Rattle.der_core.specs.Asked.{asked, AllHold}
use Rattle.der_core.proofs.AskedLemmas.{all_hold, not_both}
use Rattle.cms_signed.specs.Cut.{firmware_package}
use Rattle.cms_signed.specs.Message.{Message, IsMessage, message_text}
use Rattle.cms_signed.specs.SignedAnswer.{IsCause, Shows}
use Rattle.cms_signed.specs.Tail.{signed_conditions}
use Rattle.cms_signed.specs.declared.signed.SignedFault.{SignedFault}
use Rattle.cms_signed.specs.declared.signed.SignedFault.TheVariants as signed
use Rattle.module_record.specs.declared.module.Module.{Module}
use Rattle.judge_core.specs.FaultOf.{IfFails}
use Rattle.judge_core.specs.Values.{Values, Spells}
use Rattle.judge_core.specs.Conditions.{size_conditions, octet_conditions}
use Rattle.judge_core.specs.Granted.{PathGrant, Grants, GrantsMessage, IsTold}
use Rattle.judge_core.specs.Steps.{values_of}
use Rattle.judge_core.proofs.GrantLemmas.{told_goes, told_none}
use Rattle.judge_core.proofs.JudgeLemmas.{like_itself}
use Rattle.judge_core.proofs.ResultLemmas.{if_ok}
use Rattle.judge_core.proofs.TellsLemmas.{tells_some, tells_none, front_holds, back_holds}
use Rattle.judge_core.proofs.grant.path_grant.Goals as goal

-- the conditions 1 and 2 hold of an item with a grant, and 3 to 18
sizes_of : (item : List ℕ) → AllHold (octet_conditions item) → AllHold (size_conditions item)
sizes_of item holds =
    front_holds (size_conditions item)
    (signed_conditions firmware_package item ++ asked 19 ((v : Values) × Spells item v) ∷ []) holds

signed_of : (item : List ℕ) → AllHold (octet_conditions item) → AllHold (signed_conditions firmware_package item)
signed_of item holds =
    front_holds (signed_conditions firmware_package item) (asked 19 ((v : Values) × Spells item v) ∷ [])
    (back_holds (size_conditions item)
    (signed_conditions firmware_package item ++ asked 19 ((v : Values) × Spells item v) ∷ []) holds)

-- where it isn't signed data, it has none
none_read : (owner : Module) (item : List ℕ) (fault : SignedFault) (told : Option PathGrant)
    → IsCause firmware_package item fault → IfFails fault (λ number. IsNone told) → IsTold (Grants owner item) told
none_read owner item (signed.Fails n) told fails none =
    told_none (Grants owner item) told none
    (λ t g. not_both (signed_conditions firmware_package item) n fails (signed_of item g.octets))
none_read owner item signed.Memory told fails none = absurd none

module _ (owner : Module) (item : List ℕ) (sizes : AllHold (size_conditions item))
    (held : AllHold (signed_conditions firmware_package item)) (m : Message)
    (valid : IsMessage firmware_package m) (text : item ≡ message_text m)
    (one_message : (kind other : List ℕ) (m n : Message) → IsMessage kind m → IsMessage other n
    → message_text m ≡ message_text n → m ≡ n) where
  to_item : (t : PathGrant) → GrantsMessage owner m t → Grants owner item t
  to_item t g =
      let spells : Spells item (values_of m g.described) =
      record { valid = valid; text = text; described = g.describes } in
      record {
        octets =
            all_hold (size_conditions item)
            (signed_conditions firmware_package item ++ asked 19 ((v : Values) × Spells item v) ∷ []) sizes
            (all_hold (signed_conditions firmware_package item) (asked 19 ((v : Values) × Spells item v) ∷ []) held
            ((values_of m g.described, spells), tt));
        v = values_of m g.described;
        spells = spells;
        values = g.values;
        path = g.path;
        is_path = g.is_path;
        told_is = g.told_is;
      }

  from_item : (t : PathGrant) → Grants owner item t → GrantsMessage owner m t
  from_item t g =
      let same : g.v.message ≡ m =
      one_message firmware_package firmware_package g.v.message m g.spells.valid valid (sym g.spells.text ∙ text) in
      let here : GrantsMessage owner g.v.message t = record {
        described = g.v.described;
        describes = g.spells.described;
        values = g.values;
        path = g.path;
        is_path = g.is_path;
        told_is = g.told_is;
      } in
      subst (λ k. GrantsMessage owner k t) same here

pub returns-then-is_some : goal.returns-then-is_some
returns-then-is_some c = record {
  told = λ other g.
      tells_some (size_conditions c.args.item.now) c.first_size_failure.result (sym c.is_some.ensures ∙ c.if-is_some.true)
      (c.first_size_failure.ensures.told c.args.item.now (like_itself c.args.item.now)) (sizes_of c.args.item.now g.octets);
}

pub returns-in-Ok : goal.returns-in-Ok
returns-in-Ok c = record {
  told =
      let item = c.args.item.now in
      let owner = c.args.owner.now in
      let read = c.in-Ok.ensures.answer.1 in
      let m = read.message in
      let sizes = tells_none (size_conditions item) c.first_size_failure.result (sym c.is_some.ensures ∙ c.if-is_some.false)
      (c.first_size_failure.ensures.told item (like_itself item)) in
      if_ok (λ told. (k : Message) → Shows c.in-Ok.view k.certificates k.signer → k.content ≡ c.in-Ok.view.content.now
      → IsTold (GrantsMessage owner k) told)
      (IsTold (Grants owner item)) c.grant_of_view.result
      (λ told is.
      told_goes (GrantsMessage owner m) (Grants owner item) told
      (to_item owner item sizes c.in-Ok.ensures.answer.0 m read.valid read.text c.one_message.ensures)
      (from_item owner item sizes c.in-Ok.ensures.answer.0 m read.valid read.text c.one_message.ensures)
      (is m read.shows read.content_is))
      c.grant_of_view.ensures.told;
}
