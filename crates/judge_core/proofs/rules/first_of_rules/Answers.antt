use Rattle.std.proofs.Common.{length, Some, None, subst}
use Rattle.der_core.specs.Asked.{AllHold, FirstFail}
use Rattle.sha2.specs.Sha256.{sha256}
use Rattle.package_attrs.specs.Description.{description}
use Rattle.package_rules.specs.Conditions.{module_conditions}
use Rattle.judge_core.specs.Conditions.{hardware_of, installed_with, room_conditions}
use Rattle.config_table.specs.Stored.{lengths}
use Rattle.judge_core.proofs.LengthLemmas.{stored, modules_told}
use Rattle.judge_core.proofs.TellsLemmas.{behind, in_front}
use Rattle.judge_core.proofs.rules.first_of_rules.Goals as goal

pub returns-in-Some : goal.returns-in-Some
returns-in-Some c = record {
  told = λ octets is.
      let d = description c.args.offered.now in
      let state = c.args.state.now in
      let m = hardware_of c.args.owner.now in
      let after = installed_with d octets (lengths state) in
      in_front (module_conditions m d (lengths state) after) (room_conditions c.args.owner.now c.args.sequence after octets)
      c.in-Some.failing
      (subst (λ m. FirstFail (module_conditions m d (lengths state) after) c.in-Some.failing) c.hardware.ensures.same
      (modules_told c.hardware.result d octets state (Some c.in-Some.failing)
      (c.in-Some.ensures.hold (sha256 octets) (stored (length octets)))
      (c.in-Some.ensures.first (sha256 octets) (stored (length octets)))));
}

pub returns : goal.returns
returns c = record {
  told = λ octets is.
      let d = description c.args.offered.now in
      let state = c.args.state.now in
      let m = hardware_of c.args.owner.now in
      let after = installed_with d octets (lengths state) in
      behind (module_conditions m d (lengths state) after) (room_conditions c.args.owner.now c.args.sequence after octets)
      c.first_of_room.result
      (subst (λ m. AllHold (module_conditions m d (lengths state) after)) c.hardware.ensures.same
      (modules_told c.hardware.result d octets state None
      (c.in_default.ensures.hold (sha256 octets) (stored (length octets))) tt))
      (c.first_of_room.ensures.told octets is);
}
