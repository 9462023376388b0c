use Rattle.std.proofs.Common.{◌≡◌, ◌++◌, List, ℕ, string_bytes, subst}
use Rattle.std.specs.Prelude.{codes}
use Rattle.std.specs.Fmt.{decimal}
use Rattle.hex.specs.Hex.{encode_lower}
use Rattle.report_text.specs.Dotted.{dotted_of}
use Rattle.report_text.proofs.Pushes.{pushed_then}
use Rattle.report_text.proofs.list.push_module.Goals as goal

pub returns : goal.returns
returns c =
    let m = c.args.owner.now in
    let start = string_bytes c.args.text.now in
    let named = string_bytes c.push_str.new.self in
    let typed = string_bytes c.push_oid.new.line in
    let spaced = string_bytes c.push_str-2.new.self in
    let numbered = string_bytes c.push_hex.new.line in
    let end = string_bytes c.writeln.new.self in
    let line = codes " capacity " ++ (decimal m.capacity ++ codes "\n") in
    let serial = subst (λ (octets : List ℕ). numbered ≡ spaced ++ encode_lower octets) c.octets.ensures.value
    c.in_ok-push_hex.ensures.ok in
    let from_serial = pushed_then c.writeln.result spaced numbered end (encode_lower m.serial) line serial
    c.writeln.ensures.bytes in
    let from_space = pushed_then c.writeln.result typed spaced end (codes " ") (encode_lower m.serial ++ line)
    c.in_ok-push_str-2.ensures.bytes from_serial in
    let from_type = pushed_then c.writeln.result named typed end (dotted_of m.hw_type)
    (codes " " ++ (encode_lower m.serial ++ line)) c.in_ok-push_oid.ensures.ok from_space in
    record {
      ok = pushed_then c.writeln.result start named end (codes "module ")
          (dotted_of m.hw_type ++ (codes " " ++ (encode_lower m.serial ++ line))) c.in_ok-push_str.ensures.bytes from_type;
    }
