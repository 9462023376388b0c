use Rattle.std.proofs.Common.{◌≡◌, ℕ, ◌+◌, List, ◌++◌, refl, sym, ap, ◌∙◌, subst, append_assoc}
use Rattle.std.specs.List.{flat_map}
use Rattle.sha2.specs.Hashers.{Holds256}
use Rattle.lms_verify.specs.Digits.{below, u32str}
use Rattle.lms_verify.specs.OneTime.{d_pblc}
use Rattle.lms_sign.specs.Secrets.{whole_chain}
use Rattle.lms_sign.proofs.ChainLemmas.{flat_map_below_more}
use Rattle.lms_sign.proofs.secrets.one_time_public.Goals as goal

pub loop-i-preserved : goal.loop-i-preserved
loop-i-preserved c =
    let key = c.args.key.now in
    let q = c.args.q in
    let i = c.loop-i.i in
    let ends = whole_chain key q in
    let front = key.id ++ u32str q ++ d_pblc in
    let end-is : c.chain.result ≡ ends i =
    c.chain.ensures.value ∙ rw (c.secret.ensures, c.last_place-last.ensures.value) refl in
    let whole : (front ++ flat_map ends (below i)) ++ c.chain.result ≡ front ++ flat_map ends (below (i + 1)) =
    append_assoc front (flat_map ends (below i)) c.chain.result
    ∙ ap (λ (end : List ℕ). front ++ (flat_map ends (below i) ++ end)) end-is
    ∙ ap (λ (all : List ℕ). front ++ all) (sym (flat_map_below_more ends i)) in
    let P : List ℕ → Type 0 = λ message. Holds256 c.update-in-loop-i.new.self message in
    subst P whole (c.update-in-loop-i.ensures (front ++ flat_map ends (below i)) c.loop-i.invariant)
