use Rattle.std.proofs.Common.{◌≡◌, ℕ, ◌-◌, List, [], length, drop, get_or, sym, ap, ◌∙◌, subst, arith, rules, length-drop, Option, Some, unwrap_or}
use Rattle.std.specs.Option.{IsSome, is_some}
use Rattle.sha2.specs.Sha256.{sha256}
use Rattle.edge_board.proofs.RunLemmas.{settled_image}
use Rattle.content_stream.specs.ImageBlocks.{IsStored, image_at}
use Rattle.package_attrs.specs.Image.{blocks_for}
use Rattle.content_stream.proofs.ReadLemmas.{stored_reads}
use Rattle.content_stream.proofs.WrapLemmas.{image_is_rest}
use Rattle.content_stream.proofs.feeding.finish.Goals as goal

pub returns-clause-streamed : goal.returns-clause-streamed
returns-clause-streamed g c = λ content image fed skip imaged.
    let s = c.args.stream in
    let is : image ≡ drop s.wrap_size content = image_is_rest content image s.wrap_size skip imaged in
    let size : length image ≡ s.content_size - s.wrap_size =
    omega (arith, ap length is, length-drop s.wrap_size content, fed.count, c.requires.whole) in
    let enough = λ (numbers : List ℕ) (e : s.blocks ≡ Some numbers).
    sym (ap (λ (o : Option (List ℕ)). length (unwrap_or o [])) e)
    ∙ s.enough (ap (λ (o : Option (List ℕ)). is_some o) e) ∙ ap blocks_for (sym size) in
    record {
      content_digest = c.digest_of.ensures.whole content fed.content
          (λ none. c.finalize-image_digest.ensures (drop s.wrap_size content) fed.image
          ∙ ap (λ (n : ℕ). sha256 (drop n content)) (s.bare none));
      image_digest = c.finalize-image_digest.ensures (drop s.wrap_size content) fed.image ∙ ap sha256 (sym is);
      size = sym size;
      enough = enough;
      reads = λ told numbers e left leaves.
          let new = g.B.Board.view c.sync.new.self in
          let old = g.B.Board.view c.args.board.now in
          let same : left ≡ old.cells = settled_image new (c.in_ok-sync.ensures.syncs.settled told) left leaves ∙ c.sync.ensures.syncs.cells told in
          let some : IsSome s.blocks = subst (λ (o : Option (List ℕ)). IsSome o) (sym e) (search rules) in
          let number = ap (λ (o : Option (List ℕ)). unwrap_or o []) e in
          ap (λ l. image_at s.base numbers (length image) l) same
          ∙ stored_reads s.base old.cells numbers image
          (λ k lt. omega (arith, ap (λ (ns : List ℕ). get_or ns k 0) number, c.requires.lies k (omega (arith, lt, ap length number)), (g.met.B.Board.honest c.args.board.now).size told))
          (enough numbers e)
          (subst (λ (l : List ℕ). IsStored s.base numbers l old.cells) (sym is)
          (subst (λ (ns : List ℕ). IsStored s.base ns (drop s.wrap_size content) old.cells) number (fed.stored told some)));
    }
