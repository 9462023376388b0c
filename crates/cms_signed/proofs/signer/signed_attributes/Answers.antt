use Rattle.std.proofs.Common.{ap, sym, ◌∙◌}
use Rattle.der_core.specs.Reading.{tagged_of}
use Rattle.cms_signed.proofs.TailLaws as laws
use Rattle.cms_signed.proofs.signer.signed_attributes.Goals as goal

pub returns-in-Some : goal.returns-in-Some
returns-in-Some c =
    let t = laws.signed_contents_are c.args.element.now c.in-Some.contents.now c.tagged.new.self c.requires.tagged
    (ap (tagged_of 0xA0) (sym c.new.ensures.all) ∙ c.in-Some.ensures.exact) in
    laws.reads_all c.read_attribute_set.result
    (λ answer. laws.reads_signed c.args.element.now c.in-Some.contents.now answer t.0 c.requires.room t.1)
    c.read_attribute_set.ensures.spelled
