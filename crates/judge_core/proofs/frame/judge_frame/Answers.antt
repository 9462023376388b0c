use Rattle.std.proofs.Common.{◌≡◌, ℕ, List, replicate, None, Some, sym, ap, subst}
use Rattle.std.proofs.lemmas.List.{length-replicate}
use Rattle.cms_signed.specs.Answer.{put_in}
use Rattle.cms_signed.specs.declared.signed.SignedFault.{SignedFault}
use Rattle.cms_signed.specs.declared.signed.SignedFault.TheVariants as signed
use Rattle.package_attrs.specs.Attributes.{HaveOwnTypes}
use Rattle.judge_core.specs.declared.content.Content.{Content}
use Rattle.judge_core.specs.declared.verdict.CutVerdict.{CutVerdict}
use Rattle.judge_core.specs.declared.verdict.CutVerdict.TheVariants as cuts
use Rattle.judge_core.specs.FaultOf.{IfFails}
use Rattle.judge_core.specs.Verdicts.{bench, refuses, Judges}
use Rattle.judge_core.specs.Views.{cut_view, JudgesCut}
use Rattle.judge_core.specs.Steps.{IsSeen, JudgesMessage}
use Rattle.judge_core.proofs.FrameLemmas.{zeros_are_octets, begins_like}
use Rattle.judge_core.proofs.JudgeLemmas.{anchor_keys, fails_size, fails_read, judged, seen}
use Rattle.judge_core.proofs.ResultLemmas.{if_ok}
use Rattle.judge_core.proofs.frame.judge_frame.Goals as goal

pub judge_view-requires-clause-keys : goal.judge_view-requires-clause-keys
judge_view-requires-clause-keys c = anchor_keys c.args.owner.now.anchors c.requires.limits.anchors

pub judge_view-requires-clause-own : goal.judge_view-requires-clause-own
judge_view-requires-clause-own c =
    let n = c.args.cut.length in
    let read = (c.in-Ok.ensures.answer (replicate n 0) (zeros_are_octets n) (length-replicate n 0)).1 in
    subst HaveOwnTypes (sym read.shows.attrs) read.valid.signed_attributes.distinct

pub returns-in-Some : goal.returns-in-Some
returns-in-Some c = record {
  judges = λ content image of_cut.
      fails_size (bench c.args.owner.now c.args.state.now c.args.sequence c.args.at)
      (put_in c.args.frame.now (Some (c.args.cut.place, c.args.cut.length)) content) c.in-Some.failing
      (c.in-Some.ensures.told (put_in c.args.frame.now (Some (c.args.cut.place, c.args.cut.length)) content)
      (begins_like c.args.frame.now c.args.cut.place c.args.cut.length c.requires.head content of_cut.count));
}

-- a refusal, as a verdict
refusal_is : (fault : SignedFault) (verdict : CutVerdict) (content image : List ℕ)
    → IfFails fault (λ number. verdict ≡ cuts.Refuse number None)
    → IfFails fault (λ number. cut_view content image verdict ≡ refuses number None)
refusal_is (signed.Fails number) verdict content image is = ap (cut_view content image) is
refusal_is signed.Memory verdict content image is = absurd is

pub returns-in-Err : goal.returns-in-Err
returns-in-Err c = record {
  judges =
      let b = bench c.args.owner.now c.args.state.now c.args.sequence c.args.at in
      if_ok (λ verdict. IfFails c.in-Err.fault (λ number. verdict ≡ cuts.Refuse number None))
      (JudgesCut b c.args.frame.now (Some c.args.cut)) c.refused.result
      (λ verdict is content image of_cut.
      let item = put_in c.args.frame.now (Some (c.args.cut.place, c.args.cut.length)) content in
      let like = begins_like c.args.frame.now c.args.cut.place c.args.cut.length c.requires.head content of_cut.count in
      fails_read b item (c.in_default.ensures.told item like) c.in-Err.fault (cut_view content image verdict)
      (c.in-Err.ensures.answer content of_cut.octets of_cut.count)
      (refusal_is c.in-Err.fault verdict content image is))
      c.refused.ensures.refused;
}

pub returns : goal.returns
returns c = record {
  judges =
      let b = bench c.args.owner.now c.args.state.now c.args.sequence c.args.at in
      let known : Content = record { digest = c.args.cut.digest; image = c.args.cut.image } in
      if_ok (λ verdict. (m : _) (image : List ℕ) → IsSeen c.in-Ok.view known m image → JudgesMessage b m image verdict)
      (JudgesCut b c.args.frame.now (Some c.args.cut)) c.judge_view.result
      (λ verdict said content image of_cut.
      let item = put_in c.args.frame.now (Some (c.args.cut.place, c.args.cut.length)) content in
      let answer = c.in-Ok.ensures.answer content of_cut.octets of_cut.count in
      let read = answer.1 in
      let m = read.message in
      let sees = seen c.in-Ok.view known m content image read.shows read.content_is of_cut.digest of_cut.image_is
      of_cut.size in
      let like = begins_like c.args.frame.now c.args.cut.place c.args.cut.length c.requires.head content of_cut.count in
      let all = judged b item (c.in_default.ensures.told item like) answer.0 m read.valid read.text
      c.one_message.ensures image sees.image_is verdict (said m image sees) in
      subst (λ o. Judges b item (cut_view o image verdict)) read.content_is all)
      c.judge_view.ensures.judged;
}
