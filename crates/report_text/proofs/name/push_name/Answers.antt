use Rattle.std.proofs.Common.{◌≡◌, ◌++◌, List, ℕ, string_bytes, subst}
use Rattle.std.specs.Prelude.{codes, OnOk}
use Rattle.hex.specs.Hex.{encode_lower}
use Rattle.report_text.proofs.Pushes.{pushed_then}
use Rattle.report_text.proofs.name.push_name.Goals as goal

pub returns-in_ok-push_str-in-Legacy : goal.returns-in_ok-push_str-in-Legacy
returns-in_ok-push_str-in-Legacy c =
    let between = string_bytes c.push_str-in-Legacy.new.self in
    let pushed = subst (λ (octets : List ℕ). OnOk c.push_hex.result
    (string_bytes c.push_hex.new.line ≡ between ++ encode_lower octets)) c.octets.ensures.value c.push_hex.ensures.ok in
    record {
      ok = rw c.in-Legacy.is
          (pushed_then c.push_hex.result (string_bytes c.args.line.now) between (string_bytes c.push_hex.new.line)
          (codes "legacy ") (encode_lower c.in-Legacy.octets) c.in_ok-push_str-in-Legacy.ensures.bytes pushed);
    }
