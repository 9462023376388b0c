-- A word stands for one value at most, and a text of lines that each say one entry says one list of them.
use Rattle.std.proofs.Common.{◌≡◌, ℕ, List, [], ◌∷◌, ◌++◌, Option, Some, None, Result, Ok, refl, sym, ◌∙◌, ap, subst, arith}
use Rattle.std.proofs.Common.{codes, get_or}
use Rattle.std.specs.List.{AllZip}
use Rattle.der_core.specs.Moment.{IsMoment}
use Rattle.der_core.specs.Objects.{oid_contents, subidentifier}
use Rattle.der_core.specs.Time.{generalized_text}
use Rattle.der_core.proofs.Numbers.{some_is}
use Rattle.hex.specs.declared.error.FromHexError.{FromHexError}
use Rattle.packager.specs.declared.certificate_plan.KeyUses.{KeyUses}
use Rattle.packager.specs.declared.certificate_plan.KeyUses.TheVariants.{Sign, CertSign, Both}
use Rattle.recipe_text.specs.CertRecipe.{IsPathWord, uses_word}
use Rattle.recipe_text.specs.Lines.{IsHex, kept, Rules, Recipe}
use Rattle.recipe_text.specs.OidReading.{tail_text}
use Rattle.recipe_text.specs.Reading.{cut}
use Rattle.recipe_text.specs.Words.{IsAt, IsHex64, IsOidWord, IsPair}
use Rattle.recipe_text.proofs.CertPlans.{dash_no_number}
use Rattle.recipe_text.proofs.Cuts.{Without, cut_again}
use Rattle.recipe_text.proofs.Decimals.{one_number}
use Rattle.recipe_text.proofs.Oids.{one_first, one_others, word_parts, rest_of, is_rest}
use Rattle.recipe_text.proofs.Texts.{one_text}

-- ---- words

ok_is : {V F : Type 0} (a b : V) → ◌≡◌ {A = Result V F} (Ok a) (Ok b) → a ≡ b
ok_is a b e = cc

pub one_hex : (word a b : List ℕ) → IsHex word a → IsHex word b → a ≡ b
one_hex word a b x y = ok_is {F = FromHexError} a b (sym x.1 ∙ y.1)

pub one_hex64 : (word a b : List ℕ) → IsHex64 word a → IsHex64 word b → a ≡ b
one_hex64 word a b x y = one_hex word a b x.hex y.hex

-- moments with one text are one
abbrev pub HaveOneText : Type 0
HaveOneText = (m n : ℕ) → IsMoment m → IsMoment n → generalized_text m ≡ generalized_text n → m ≡ n

pub one_at : HaveOneText → (word : List ℕ) (a b : ℕ) → IsAt word a → IsAt word b → a ≡ b
unfolding generalized_text
one_at once word a b x y = once a b x.0 y.0 (ap (λ (ds : List ℕ). ds ++ codes "Z") (sym x.1 ∙ y.1))

pub one_oid : (word a b : List ℕ) → IsOidWord word a → IsOidWord word b → a ≡ b
one_oid word a b x y =
    let p = word_parts word a x in
    let q = word_parts word b y in
    let same = one_first word p.0 q.0 (rest_of p.1) (rest_of q.1) p.2 q.2 in
    let tails : p.1 ≡ q.1 = one_others p.1 q.1 p.3 q.3 (is_rest p.1 ∙ ap tail_text same.1 ∙ sym (is_rest q.1)) in
    p.4 ∙ (λ i. subidentifier (same.0 i) ++ oid_contents (tails i)) ∙ sym q.4

pub one_path : (word : List ℕ) (a b : Option ℕ) → IsPathWord word a → IsPathWord word b → a ≡ b
one_path word None None x y = refl
one_path word None (Some n) x y = absurd (dash_no_number n (y.0, sym x ∙ y.1))
one_path word (Some m) None x y = absurd (dash_no_number m (x.0, sym y ∙ x.1))
one_path word (Some m) (Some n) x y = ap (λ (k : ℕ). Some k) (one_number word m n x y)

first_char : (a b : KeyUses) → uses_word a ≡ uses_word b → get_or (uses_word a) 0 0 ≡ get_or (uses_word b) 0 0
first_char a b e = ap (λ (w : List ℕ). get_or w 0 0) e

-- the words of the uses begin with different letters
pub one_use : (a b : KeyUses) → uses_word a ≡ uses_word b → a ≡ b
one_use Sign Sign e = refl
one_use Sign CertSign e = let letters : 115 ≡ 99 = first_char Sign CertSign e in absurd (omega (arith, letters))
one_use Sign Both e = let letters : 115 ≡ 98 = first_char Sign Both e in absurd (omega (arith, letters))
one_use CertSign Sign e = let letters : 99 ≡ 115 = first_char CertSign Sign e in absurd (omega (arith, letters))
one_use CertSign CertSign e = refl
one_use CertSign Both e = let letters : 99 ≡ 98 = first_char CertSign Both e in absurd (omega (arith, letters))
one_use Both Sign e = let letters : 98 ≡ 115 = first_char Both Sign e in absurd (omega (arith, letters))
one_use Both CertSign e = let letters : 98 ≡ 99 = first_char Both CertSign e in absurd (omega (arith, letters))
one_use Both Both e = refl

-- ---- two words

pub one_pair : {V W : Type 0} (A : List ℕ → V → Type 0) (B : List ℕ → W → Type 0)
    → ((word : List ℕ) (v w : V) → A word v → A word w → v ≡ w)
    → ((word : List ℕ) (v w : W) → B word v → B word w → v ≡ w) → ((word : List ℕ) (v : V) → A word v → Without 32 word)
    → (text : List ℕ) (x y : V × W) → IsPair A B text x → IsPair A B text y → x ≡ y
one_pair {V} {W} A B first-one second-one free text x y p q =
    let both : Some (p.0, p.1) ≡ Some (q.0, q.1) =
    sym (cut_again 32 p.0 p.1 (free p.0 x.0 p.2)) ∙ ap (cut 32) (sym p.4 ∙ q.4) ∙ cut_again 32 q.0 q.1 (free q.0 y.0 q.2) in
    let words = some_is (p.0, p.1) (q.0, q.1) both in
    let left : x.0 ≡ y.0 =
    first-one p.0 x.0 y.0 p.2 (subst (λ (w : List ℕ). A w y.0) (sym (ap (λ (t : List ℕ × List ℕ). t.0) words)) q.2) in
    let right : x.1 ≡ y.1 =
    second-one p.1 x.1 y.1 p.3 (subst (λ (w : List ℕ). B w y.1) (sym (ap (λ (t : List ℕ × List ℕ). t.1) words)) q.3) in
    λ i. (left i, right i)

-- ---- lists of lines

zip_one : {E : Type 0} (says : List ℕ → E → Type 0) → ((line : List ℕ) (e f : E) → says line e → says line f → e ≡ f)
    → (lines : List (List ℕ)) (es fs : List E) → AllZip says lines es → AllZip says lines fs → es ≡ fs
zip_one says one [] [] [] h k = refl
zip_one says one [] [] (f ∷ fs) h k = absurd k
zip_one says one [] (e ∷ es) fs h k = absurd h
zip_one says one (line ∷ lines) [] fs h k = absurd h
zip_one says one (line ∷ lines) (e ∷ es) [] h k = absurd k
zip_one says one (line ∷ lines) (e ∷ es) (f ∷ fs) h k =
    let first : e ≡ f = one line e f h.0 k.0 in
    let others : es ≡ fs = zip_one says one lines es fs h.1 k.1 in
    λ i. first i ∷ others i

pub one_recipe : {E : Type 0} (rules : Rules E)
    → ((line : List ℕ) (e f : E) → rules.says line e → rules.says line f → e ≡ f) → (text : List ℕ) (es fs : List E)
    → Recipe rules text es → Recipe rules text fs → es ≡ fs
one_recipe {E} rules one text es fs r s =
    let lines = one_text text r.0 s.0 [] [] r.1 s.1 in
    zip_one rules.says one (kept s.0) es fs
    (subst (λ (l : List (List ℕ)). AllZip rules.says (kept l) es) lines.0 r.2) s.2
