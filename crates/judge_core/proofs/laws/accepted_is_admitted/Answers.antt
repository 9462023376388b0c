use Rattle.judge_core.proofs.OneVerdict.{Laws, accepted}
use Rattle.judge_core.proofs.laws.accepted_is_admitted.Goals as goal

pub returns : goal.returns
returns c =
    let laws : Laws = record {
      message = c.one_message.ensures;
      description = c.one_description.ensures;
      image = c.one_image.ensures;
      path = c.one_path.ensures;
    } in
    accepted laws
