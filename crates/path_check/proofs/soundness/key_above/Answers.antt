use Rattle.std.proofs.Common.{◌≡◌, ◌↔◌, ◌≤◌, List, Some, length, map, sym, subst, arith}
use Rattle.path_check.specs.Members.{member_view}
use Rattle.path_check.specs.Conditions.{IsKeyAbove}
use Rattle.path_check.specs.declared.member.Member.{Member}
use Rattle.path_check.proofs.SignedLemmas.{none_above}
use Rattle.path_check.proofs.HssLemmas.{key_of_anchor}
use Rattle.path_check.proofs.soundness.key_above.Goals as goal

pub returns-in-empty : goal.returns-in-empty
returns-in-empty c = record {
  above = λ anchor is key.
      subst
      (λ (above : List Member). (Some c.args.anchor_key.now ≡ Some key) ↔ IsKeyAbove anchor (map member_view above) key)
      (sym (none_above c.args.above.now (let none : length c.args.above.now ≤ 0 = omega (arith, c.in-empty.len_below) in none)))
      (key_of_anchor anchor c.args.anchor_key.now key is);
}
