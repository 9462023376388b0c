-- What lines say together is no longer than they are.
use Rattle.std.proofs.Common.{◌≡◌, ℕ, ◌*◌, ◌≤◌, List, [], ◌∷◌, ◌++◌, length}
use Rattle.std.proofs.Common.{ap, arith, length-append, inl, inr}
use Rattle.std.specs.List.{AllByRecursion, AllZip, flat_map}
use Rattle.std.proofs.lemmas.Bool.{cases_Bool}
use Rattle.std.proofs.lemmas.List.Concat.{flat_map-append}
use Rattle.der_core.specs.Element.{enc}
use Rattle.der_core.proofs.Lengths.{length-enc-le}
use Rattle.hex.proofs.HexLemmas.{decode_of-ok}
use Rattle.recipe_text.specs.Lines.{IsHex, lines_text, kept, is_skipped, Rules, Recipe}
use Rattle.recipe_text.specs.Words.{IsNameWord, common_name}
use Rattle.recipe_text.proofs.Texts.{all-append}

-- all one after the other
abbrev pub joined : List (List ℕ) → List ℕ
joined texts = flat_map (λ text. text) texts

kept_size : (lines : List (List ℕ)) → length (joined (kept lines)) ≤ length (lines_text lines)
kept_size [] = omega arith
kept_size (line ∷ lines) = elim (cases_Bool (is_skipped line)) [
  | inl skipped ↦ rw skipped
      (omega (arith, kept_size lines, length-append (line ++ 10 ∷ []) (lines_text lines), length-append line (10 ∷ [])))
  | inr counts ↦ rw counts
      (omega (
        arith,
        kept_size lines,
        length-append line (joined (kept lines)),
        length-append (line ++ 10 ∷ []) (lines_text lines),
        length-append line (10 ∷ []),
      ))
]

said_size : {E : Type 0} (says : List ℕ → E → Type 0) (part : E → List (List ℕ))
    → ((line : List ℕ) (e : E) → says line e → length (joined (part e)) ≤ length line)
    → (lines : List (List ℕ)) (es : List E) → AllZip says lines es
    → length (joined (flat_map part es)) ≤ length (joined lines)
said_size says part each [] [] h = omega arith
said_size says part each [] (e ∷ es) h = absurd h
said_size says part each (line ∷ lines) [] h = absurd h
said_size says part each (line ∷ lines) (e ∷ es) h =
    omega (
      arith,
      each line e h.0,
      said_size says part each lines es h.1,
      ap length (flat_map-append (λ (text : List ℕ). text) (part e) (flat_map part es)),
      length-append (joined (part e)) (joined (flat_map part es)),
      length-append line (joined lines),
    )

-- what a recipe says of one kind is no longer than its text
pub recipe_size : {E : Type 0} (rules : Rules E) (part : E → List (List ℕ))
    → ((line : List ℕ) (e : E) → rules.says line e → length (joined (part e)) ≤ length line)
    → (text : List ℕ) (es : List E) → Recipe rules text es → length (joined (flat_map part es)) ≤ length text
recipe_size rules part each text es r =
    omega (
      arith,
      said_size rules.says part each (kept r.0) es r.2,
      kept_size r.0,
      ap length r.1.parts,
      length-append (lines_text r.0) [],
    )

-- what each line says is of a kind, and so is what all say
zip_all : {E A : Type 0} (says : List ℕ → E → Type 0) (P : A → Type 0) (part : E → List A)
    → ((line : List ℕ) (e : E) → says line e → AllByRecursion P (part e)) → (lines : List (List ℕ)) (es : List E)
    → AllZip says lines es → AllByRecursion P (flat_map part es)
zip_all says P part each [] [] h = tt
zip_all says P part each [] (e ∷ es) h = absurd h
zip_all says P part each (line ∷ lines) [] h = absurd h
zip_all says P part each (line ∷ lines) (e ∷ es) h =
    all-append P (part e) (flat_map part es) (each line e h.0) (zip_all says P part each lines es h.1)

pub recipe_all : {E A : Type 0} (rules : Rules E) (P : A → Type 0) (part : E → List A)
    → ((line : List ℕ) (e : E) → rules.says line e → AllByRecursion P (part e)) → (text : List ℕ) (es : List E)
    → Recipe rules text es → AllByRecursion P (flat_map part es)
recipe_all rules P part each text es r = zip_all rules.says P part each (kept r.0) es r.2

-- HEX is longer than its octets
pub hex_size : (word octets : List ℕ) → IsHex word octets → 2 * length octets ≡ length word
hex_size word octets h = omega (arith, (decode_of-ok word octets h.1).2)

-- what a Name holds is short
pub name_contents_size : (word : List ℕ) → length word ≤ 64
    → length (enc 0x31 (enc 0x30 (enc 0x06 common_name ++ enc 0x0C word))) ≤ 91
name_contents_size word most =
    let inner : length (enc 0x06 common_name ++ enc 0x0C word) ≤ 79 =
    omega (
      arith,
      most,
      length-append (enc 0x06 common_name) (enc 0x0C word),
      length-enc-le 0x06 common_name (omega arith),
      length-enc-le 0x0C word (omega (arith, most)),
    ) in
    let one : length (enc 0x30 (enc 0x06 common_name ++ enc 0x0C word)) ≤ 85 =
    omega (arith, inner, length-enc-le 0x30 (enc 0x06 common_name ++ enc 0x0C word) (omega (arith, inner))) in
    omega (arith, one, length-enc-le 0x31 (enc 0x30 (enc 0x06 common_name ++ enc 0x0C word)) (omega (arith, one)))

-- a name is short
pub name_size : (word name : List ℕ) → IsNameWord word name → length name ≤ 97
name_size word name h =
    let contents = name_contents_size word h.most in
    omega (
      arith,
      contents,
      ap length h.stands,
      length-enc-le 0x30 (enc 0x31 (enc 0x30 (enc 0x06 common_name ++ enc 0x0C word))) (omega (arith, contents)),
    )
