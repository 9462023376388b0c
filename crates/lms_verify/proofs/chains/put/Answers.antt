use Rattle.std.proofs.Common.{◌≡◌, ◌+◌, ◌-◌, length, arith}
use Rattle.lms_verify.proofs.Writes.{put_mid_at}
use Rattle.lms_verify.proofs.chains.put.Goals as goal

pub returns : goal.returns
returns c = λ front middle rest at size whole.
    let part = c.args.part.now in
    let room : c.args.at + length part - c.args.at ≡ length part = omega arith in
    rw (room, c.copy_from_slice.ensures.after, whole)
    (put_mid_at front middle rest part c.args.at (length part) at size)
