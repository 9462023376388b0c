use Rattle.std.proofs.Common.{◌≡◌, ◌*◌, take}
use Rattle.std.specs.List.{flat_map}
use Rattle.lms_verify.specs.Digits.{below}
use Rattle.lms_sign.specs.Nodes.{path_value}
use Rattle.lms_sign.proofs.key_tree.put_kept_path.Given as goal

-- the path's values so far stand in front
abbrev pub invariant-loop-i : goal.invariant-loop-i
invariant-loop-i l = take (32 * l.i) l.out ≡ flat_map (path_value l.key l.q) (below l.i)
