-- A number below 2^128 has one decimal text.
use Rattle.std.proofs.Common.{◌≡◌, ℕ, ◌^◌, ◌<◌, List, sym, ◌∙◌, ap, arith}
use Rattle.std.specs.Fmt.{decimal}
use Rattle.std.specs.Str.Parse.{digits_value}
use Rattle.std.proofs.lemmas.Fmt.{decimal_is_IsNumeral_wide}
use Rattle.recipe_text.specs.Words.{IsNumber}

value_of : (n : ℕ) → n < 2 ^ 128 → digits_value 10 (decimal n) ≡ n
value_of n small = (decimal_is_IsNumeral_wide n (omega (arith, small))).1

pub one_number : (word : List ℕ) (m n : ℕ) → IsNumber word m → IsNumber word n → m ≡ n
one_number word m n x y = sym (value_of m x.0) ∙ ap (digits_value 10) (sym x.1 ∙ y.1) ∙ value_of n y.0
