use Rattle.std.proofs.Common.{◌≢◌, ℕ, arith}
use Rattle.std.proofs.lemmas.List.Elements.{All-from_get_or, All-get_or}
use Rattle.key_state.proofs.Rows.{before_first, first_after, spent_in_few}
use Rattle.key_state.proofs.laws.used_up_has_no_ff.Goals as goal

pub returns : goal.returns
returns c = record {
  row = λ row. (
    λ is. All-from_get_or (λ (octet : ℕ). octet ≢ 255) row 0 (λ i lt. before_first row i (omega (arith, lt, is))),
    λ all. omega (
      arith,
      spent_in_few row,
      first_after row _ (omega arith) (λ i lt. All-get_or (λ (octet : ℕ). octet ≢ 255) row i 0 lt all),
    ),
  );
}
