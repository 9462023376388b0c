use Rattle.judge_core.proofs.OneVerdict.{Laws, one_value}
use Rattle.judge_core.proofs.laws.one_value_each.Goals as goal

pub returns : goal.returns
returns c =
    let laws : Laws = record {
      message = c.one_message.ensures;
      description = c.one_description.ensures;
      image = c.one_image.ensures;
      path = c.one_path.ensures;
    } in
    one_value laws
