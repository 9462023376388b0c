use Rattle.std.proofs.Common.{◌≡◌, ℕ, List, [], ◌++◌, length, length-append, replicate, refl, ap, sym, ◌∙◌, append_assoc, arith, rules}
use Rattle.std.proofs.lemmas.List.{append-nil}
use borrow.Rule.Slice.PartMut.{put_mid}
use Rattle.lms_verify.specs.Digits.{u32str}
use Rattle.lms_verify.specs.Kinds.{lms_number, ots_number}
use Rattle.lms_verify.proofs.Writes.{put_mid_at}
use Rattle.lms_sign.proofs.public_key.key_octets.Goals as goal

-- the parts are written one behind the other
parts_in_order : (a b d id root : List ℕ) → length a ≡ 4 → length b ≡ 4 → length d ≡ 4 → length id ≡ 16
    → length root ≡ 32
    → put_mid 28 32 (put_mid 12 16 (put_mid 8 4 (put_mid 4 4 (a ++ replicate 56 0) b) d) id) root
    ≡ a ++ (b ++ (d ++ (id ++ root)))
parts_in_order a b d id root a-size b-size d-size id-size root-size =
    let one : put_mid 4 4 (a ++ replicate 56 0) b ≡ (a ++ b) ++ replicate 52 0 =
    put_mid_at a (replicate 4 0) (replicate 52 0) b 4 4 a-size refl
    ∙ sym (append_assoc a b (replicate 52 0)) in
    let two : put_mid 8 4 ((a ++ b) ++ replicate 52 0) d ≡ ((a ++ b) ++ d) ++ replicate 48 0 =
    put_mid_at (a ++ b) (replicate 4 0) (replicate 48 0) d 8 4 (omega (arith, length-append a b)) refl
    ∙ sym (append_assoc (a ++ b) d (replicate 48 0)) in
    let three : put_mid 12 16 (((a ++ b) ++ d) ++ replicate 48 0) id
    ≡ (((a ++ b) ++ d) ++ id) ++ replicate 32 0 =
    put_mid_at ((a ++ b) ++ d) (replicate 16 0) (replicate 32 0) id 12 16
    (omega (arith, length-append a b, length-append (a ++ b) d)) refl
    ∙ sym (append_assoc ((a ++ b) ++ d) id (replicate 32 0)) in
    let four : put_mid 28 32 ((((a ++ b) ++ d) ++ id) ++ (replicate 32 0 ++ [])) root
    ≡ (((a ++ b) ++ d) ++ id) ++ (root ++ []) =
    put_mid_at (((a ++ b) ++ d) ++ id) (replicate 32 0) [] root 28 32
    (omega (arith, length-append a b, length-append (a ++ b) d, length-append ((a ++ b) ++ d) id)) refl in
    ap (λ (o : List ℕ). put_mid 28 32 (put_mid 12 16 (put_mid 8 4 o d) id) root) one
    ∙ ap (λ (o : List ℕ). put_mid 28 32 (put_mid 12 16 o id) root) two
    ∙ ap (λ (o : List ℕ). put_mid 28 32 o root) three
    ∙ four ∙ simp (append_assoc, append-nil)

pub returns : goal.returns
returns c = record {
  text =
      let key = c.args.key.now in
      let levels-is : c.copy_from_slice.new.self ≡ u32str key.levels =
      c.copy_from_slice.ensures.after ∙ c.to_be_bytes.ensures ∙ ap u32str c.from.ensures in
      let kind-is : c.copy_from_slice-2.new.self ≡ u32str (lms_number key.top.kind) =
      c.copy_from_slice-2.ensures.after ∙ c.to_be_bytes-2.ensures ∙ ap u32str c.number.ensures.value in
      let ots-is : c.copy_from_slice-3.new.self ≡ u32str (ots_number key.top.ots) =
      c.copy_from_slice-3.ensures.after ∙ c.to_be_bytes-3.ensures ∙ ap u32str c.number-2.ensures.value in
      let id-is : c.copy_from_slice-4.new.self ≡ key.top.id = c.copy_from_slice-4.ensures.after in
      let root-is : c.copy_from_slice-5.new.self ≡ key.top.root = c.copy_from_slice-5.ensures.after in
      let id-size : length key.top.id ≡ 16 = search rules in
      let root-size : length key.top.root ≡ 32 = search rules in
      parts_in_order _ _ _ _ _ (ap length levels-is) (ap length kind-is) (ap length ots-is)
      (ap length id-is ∙ id-size) (ap length root-is ∙ root-size)
      ∙ rw (levels-is, kind-is, ots-is, id-is, root-is) (simp append_assoc);
}
