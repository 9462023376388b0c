use Rattle.der_core.specs.Time.{time_text, IsTime}
use Rattle.package_attrs.specs.AttributeTypes.{signing_time}
use Rattle.package_attrs.proofs.PackageLaws.{missing_lacks, sound_text}
use Rattle.package_attrs.proofs.assemble.time_in.Goals as goal

pub returns-in-None-clause-sound : goal.returns-in-None-clause-sound
returns-in-None-clause-sound c =
    missing_lacks signing_time c.args.attrs.now c.requires c.in-None.ensures.exact

pub returns-in_ok-read_one_time-in-Some-clause-sound : goal.returns-in_ok-read_one_time-in-Some-clause-sound
returns-in_ok-read_one_time-in-Some-clause-sound c =
    sound_text time_text IsTime signing_time c.args.attrs.now
    c.in-Some.values.now c.in_ok-read_one_time-in-Some.field-0 c.in-Some.ensures.exact
    ((c.read_one_time.ensures.spelled c.in_ok-read_one_time-in-Some.field-0).0 c.in_ok-read_one_time-in-Some.was)
