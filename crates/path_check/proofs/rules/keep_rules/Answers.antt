use Rattle.std.proofs.Common.{length, refl, arith, ◌<◌}
use Rattle.std.proofs.lemmas.Option.{slice_get_read}
use Rattle.path_check.specs.Members.{IsRead}
use Rattle.path_check.proofs.AllLemmas.{all_at}
use Rattle.path_check.proofs.rules.keep_rules.Goals as goal

pub signer_keeps_rules-requires : goal.signer_keeps_rules-requires
signer_keeps_rules-requires c = record {
  read =
      all_at IsRead c.args.members.now 0 c.signer-item.result c.requires.read
      (slice_get_read c.args.members.now (length c.args.members.now) 0 c.signer-item.result refl
      (let some : 0 < length c.args.members.now = omega (arith, c.in-len1-up.len_at_least) in some) c.signer-item.is);
}
