-- A term's text stays where names are put at the end.
use Rattle.std.proofs.Common.{◌≡◌, ℕ, List, ◌++◌, length, refl}
use mathlib.Core.Path.{fun_ext}
use Rattle.apd_term.specs.Named.{IsNamed, AreNamed}
use Rattle.apd_term.specs.Term.{Term, Terms, variable, integer, compound, none, more}
use Rattle.apd_term.proofs.Naming.{text_of_name-append}
use Rattle.apd_ops.specs.Table.{Table}
use Rattle.apd_write.specs.Writing.{written, rest_text, parts}

mutual
  pub written-more : (ops : Table) (names others : List (List ℕ)) (t : Term) (max : ℕ) → IsNamed (length names) t → written ops (names ++ others) t max ≡ written ops names t max
  written-more ops names others (variable v) max named = refl
  written-more ops names others (integer i) max named = refl
  written-more ops names others (compound f ts) max named = rw (text_of_name-append names others f named.0, parts-more ops names others ts named.1) refl

  rest_text-more : (ops : Table) (names others : List (List ℕ)) (t : Term) → IsNamed (length names) t → rest_text ops (names ++ others) t ≡ rest_text ops names t
  rest_text-more ops names others (variable v) named = refl
  rest_text-more ops names others (integer i) named = refl
  rest_text-more ops names others (compound f ts) named = rw (text_of_name-append names others f named.0, parts-more ops names others ts named.1) refl

  parts-more : (ops : Table) (names others : List (List ℕ)) (ts : Terms) → AreNamed (length names) ts → parts ops (names ++ others) ts ≡ parts ops names ts
  parts-more ops names others none named = refl
  parts-more ops names others (more t ts) named =
      let text : written ops (names ++ others) t ≡ written ops names t = fun_ext (λ max. written-more ops names others t max named.0) in
      rw (text, rest_text-more ops names others t named.0, parts-more ops names others ts named.1) refl
