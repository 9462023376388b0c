-- Contents of many parts: how long those of a set are, and what a loop has written of a list.
use Rattle.std.proofs.Common.{◌≡◌, ℕ, ◌+◌, List, [], ◌∷◌, ◌++◌, length, take, slice_get, Some, sum_by, ap, sym, ◌∙◌}
use Rattle.std.specs.List.{concat, flat_map}
use Rattle.std.proofs.lemmas.List.{take_more, flat_map_more}
use Rattle.std.proofs.lemmas.Option.{slice_get_within, get_or_from_slice_get}
use Rattle.std.proofs.lemmas.List.Concat.{concat_is, length-flat_map}
use Rattle.std.proofs.lemmas.List.Sorted.{sum_by-IsPermutation}
use Rattle.der_write.specs.Sets.{IsSetContents}

-- the contents have as many octets as the parts, in whatever order these stand
pub contents_length : (parts : List (List ℕ)) (octets : List ℕ) → IsSetContents parts octets
    → length octets ≡ length (concat parts)
contents_length parts octets (ordered, ascends, is) =
    ap length is ∙ size ordered ∙ sum_by-IsPermutation (λ (part : List ℕ). length part) parts ordered ascends.same
    ∙ sym (size parts)
  where
    size : (parts : List (List ℕ)) → length (concat parts) ≡ sum_by (λ (part : List ℕ). length part) parts
    size parts = ap length (concat_is parts) ∙ length-flat_map (λ (part : List ℕ). part) parts

-- the texts of one more than the first i elements, behind those of the first i: as a loop writes them
pub text_more : {X : Type 0} (text : X → List ℕ) (xs : List X) (i : ℕ) (x : X) (before after : List ℕ)
    → Some x ≡ slice_get xs i → before ≡ flat_map text (take i xs) → after ≡ before ++ text x
    → after ≡ flat_map text (take (i + 1) xs)
text_more {X} text xs i x before after is so_far more =
    let within = slice_get_within xs i x (sym is) in
    more ∙ ap (λ (front : List ℕ). front ++ text x) so_far ∙ flat_map_more text [] (take i xs) x
    ∙ ap (λ (y : X). flat_map text (take i xs ++ y ∷ [])) (sym (get_or_from_slice_get xs i x x (sym is)))
    ∙ ap (λ (ys : List X). flat_map text ys) (sym (take_more xs i x within))
