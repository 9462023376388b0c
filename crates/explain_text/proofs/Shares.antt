-- The values that all lists for a type of attributes cover.
use Rattle.std.proofs.Common.{ℕ, Bool, List}
use Rattle.std.specs.Prelude.{Contains, IsPermutation}
use Rattle.std.specs.Bool.{Decides}
use Rattle.std.specs.List.{AllByRecursion, filter, flat_map, list_all}
use Rattle.std.proofs.lemmas.List.Kept.{IsStrictlySortedBy-filter}
use Rattle.std.proofs.lemmas.List.Sorted.{Contains-permutation, IsPermutation-sym}
use Rattle.der_core.specs.Attribute.{Attribute}
use Rattle.der_core.specs.Element.{AreOctets}
use Rattle.constraint_meet.specs.Permits.{AreOfOctets, IsCovered, values_in}
use Rattle.constraint_meet.specs.Tests.{is_covered}
use Rattle.constraint_meet.proofs.TestLemmas.{all_tell, covered_tells, each_also, values_are_octets}
use Rattle.explain_text.specs.Granted.{IsKind, IsShared}
use Rattle.explain_text.specs.GrantText.{AreKindLines, IsKindLine}
use Rattle.explain_text.specs.Kept.{IsGroup, IsOfEach}
use Rattle.explain_text.specs.Ordered.{AreExactly, AreTexts}
use Rattle.explain_text.proofs.Elements.{contains_filter, contains_unfilter, contains_flat, contains_unflat, holds_of, each_of}
use Rattle.explain_text.proofs.Orders.{cmp, exactly_also}
use Rattle.explain_text.proofs.Texts.{texts_also}

-- ---- the lists of one type

module _ (attributes : List Attribute) (octets : AreOfOctets attributes) where
  abbrev all_cover : List ℕ → Bool
  all_cover value = list_all (λ a. is_covered a value) attributes

  -- a value that is listed is octets
  value_octets : (attribute : Attribute) (value : List ℕ) → Contains attributes attribute
      → Contains (values_in attribute.values) value → AreOctets value
  value_octets attribute value one listed =
      holds_of AreOctets (values_in attribute.values) value
      (values_are_octets attribute.values (holds_of (λ a. AreOctets a.values) attributes attribute octets one)) listed

  tells : (value : List ℕ) → AreOctets value → Decides (all_cover value) (AllByRecursion (λ a. IsCovered a value) attributes)
  tells value are =
      all_tell (λ a. is_covered a value) (λ a. IsCovered a value) attributes
      (each_also (λ a these. covered_tells a value these are) attributes octets)

  -- those of all values that each list covers
  pub shared : (values : List (List ℕ)) → AreExactly (Contains (flat_map (λ a. values_in a.values) attributes)) values
      → AreExactly (IsOfEach attributes) (filter (λ value. list_all (λ a. is_covered a value) attributes) values)
  shared values are = record {
    ascend = IsStrictlySortedBy-filter cmp all_cover values are.ascend;
    each = λ value. (to value, from value);
  }
    where
      to : (value : List ℕ) → Contains (filter all_cover values) value → IsOfEach attributes value
      to value at =
          let kept = contains_unfilter all_cover values value at in
          let found = contains_unflat (λ (a : Attribute). values_in a.values) attributes value ((are.each value).0 kept.0) in
          let covered = (tells value (value_octets found.0 value found.1 found.2)).0 kept.1 in
          record {
            attribute = found.0;
            one = found.1;
            listed = found.2;
            covered = λ other one. holds_of (λ a. IsCovered a value) attributes other covered one;
          }

      from : (value : List ℕ) → IsOfEach attributes value → Contains (filter all_cover values) value
      from value is =
          contains_filter all_cover values value
          ((are.each value).1
          (contains_flat (λ (a : Attribute). values_in a.values) attributes is.attribute value is.one is.listed))
          ((tells value (value_octets is.attribute value is.one is.listed)).1
          (each_of (λ a. IsCovered a value) attributes is.covered))

-- ---- among all that are constrained

pub shared_of_group : (constrained group : List Attribute) (kind : List ℕ) → IsGroup constrained kind group
    → (values : List (List ℕ)) → AreExactly (IsOfEach group) values → AreExactly (IsShared constrained kind) values
shared_of_group constrained group kind is values are = exactly_also values to from are
  where
    to : (value : List ℕ) → IsOfEach group value → IsShared constrained kind value
    to value each =
        let one = (is each.attribute).0 each.one in
        record {
          attribute = each.attribute;
          one = one.0;
          is = one.1;
          listed = each.listed;
          covered = λ other at same. each.covered other ((is other).1 (at, same));
        }

    from : (value : List ℕ) → IsShared constrained kind value → IsOfEach group value
    from value each = record {
      attribute = each.attribute;
      one = (is each.attribute).1 (each.one, each.is);
      listed = each.listed;
      covered = λ other at. let in_all = (is other).0 at in each.covered other in_all.0 in_all.1;
    }

-- ---- in another order

module _ (these those : List Attribute) (same : IsPermutation these those) where
  over : (a : Attribute) → Contains these a → Contains those a
  over a at = Contains-permutation these those a same at

  back : (a : Attribute) → Contains those a → Contains these a
  back a at = Contains-permutation those these a (IsPermutation-sym these those same) at

  same_values : (kind : List ℕ) (values : List (List ℕ)) → AreExactly (IsShared those kind) values
      → AreExactly (IsShared these kind) values
  same_values kind values are =
      exactly_also values
      (λ value each. record {
        attribute = each.attribute;
        one = back each.attribute each.one;
        is = each.is;
        listed = each.listed;
        covered = λ other at. each.covered other (over other at);
      })
      (λ value each. record {
        attribute = each.attribute;
        one = over each.attribute each.one;
        is = each.is;
        listed = each.listed;
        covered = λ other at. each.covered other (back other at);
      }) are

  -- the lines are those of the attributes in any order
  pub same_lines : (kinds : List (List ℕ)) (text : List ℕ) → AreExactly (IsKind those) kinds
      → AreTexts (IsKindLine those) kinds text → AreKindLines these text
  same_lines kinds text are lines = (
    kinds,
    exactly_also kinds (λ kind is. (is.0, back is.0 is.1, is.2)) (λ kind is. (is.0, over is.0 is.1, is.2)) are,
    texts_also (λ kind line is. (is.0, same_values kind is.0 is.1, is.2)) kinds text lines,
  )
