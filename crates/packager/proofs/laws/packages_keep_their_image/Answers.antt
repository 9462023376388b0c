use Rattle.std.proofs.Common.{Bool, cond, inl, inr, sym, ap, ◌∙◌, arith}
use Rattle.der_core.specs.Element.{enc}
use Rattle.packager.proofs.laws.packages_keep_their_image.Goals as goal

pub returns : goal.returns
returns c = record {
  wrapped = λ p plan wraps. inl (
    record { octet = omega arith; low_bits = omega arith; fits = omega (arith, plan.image) },
    ap (λ (wrap : Bool). cond wrap (enc 0x04 p.image) p.image) wraps,
  );
  bare = λ p bare none.
      let is = ap (λ (wrap : Bool). cond wrap (enc 0x04 p.image) p.image) bare in
      inr (λ contents one. none contents (one.0, sym is ∙ one.1), sym is);
}
