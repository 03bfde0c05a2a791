-- The standard names: how many there are, and that each text stands among them once.
use Rattle.std.proofs.Common.{◌≡◌, ◌≤◌, ℕ, List, [], ◌∷◌, length, map, refl, ap, subst, arith, length-append}
use Rattle.std.specs.List.{fold, IsDistinct}
use Rattle.apd_term.specs.Growth.{Grown}
use Rattle.apd_term.specs.Names.{with_name, text_of_name, HasDistinctTexts}
use Rattle.apd_term.specs.StandardNames.{standard_names}
use Rattle.apd_term.specs.StandardIds.{standard_ids}
use Rattle.apd_term.proofs.Naming.{HasDistinctTexts-with_name}

pub length-standard_names : length standard_names ≡ 132
unfolding standard_names
length-standard_names = refl

-- names that begin with them are as many or more
pub standard_few : (names : List (List ℕ)) → Grown standard_names names → length standard_names ≤ length names
standard_few names grown = omega (arith, ap length grown.1, length-append standard_names grown.0)

-- putting them in one after another leaves out none
pub fold-standard_names : fold with_name [] standard_names ≡ standard_names
unfolding standard_names
fold-standard_names = refl

pub HasDistinctTexts-fold : (names texts : List (List ℕ)) → HasDistinctTexts names → HasDistinctTexts (fold with_name names texts)
HasDistinctTexts-fold names [] h = h
HasDistinctTexts-fold names (t ∷ ts) h = HasDistinctTexts-fold (with_name names t) ts (HasDistinctTexts-with_name names t h)

pub HasDistinctTexts-none : HasDistinctTexts []
unfolding IsDistinct
HasDistinctTexts-none = tt

pub HasDistinctTexts-standard_names : HasDistinctTexts standard_names
HasDistinctTexts-standard_names = subst HasDistinctTexts fold-standard_names (HasDistinctTexts-fold [] standard_names HasDistinctTexts-none)

-- the text of each constant
pub texts_of_standard_ids : map (text_of_name standard_names) standard_ids ≡ standard_names
unfolding standard_names
texts_of_standard_ids = refl
