-- The names of a term are UTF-8 where all names that are kept are.
use Rattle.std.proofs.Common.{ℕ, List}
use Rattle.std.specs.Prelude.{IsUtf8}
use Rattle.apd_term.specs.Names.{text_of_name, HasUtf8Texts}
use Rattle.apd_term.specs.Term.{Term, Terms, variable, integer, compound, none, more}
use Rattle.apd_term.proofs.Utf8Texts.{utf8_text}

-- the texts of the term's names are UTF-8
abbrev mutual
  pub HasUtf8Names : List (List ℕ) → Term → Type 0
  HasUtf8Names names (variable v) = Unit {0}
  HasUtf8Names names (integer i) = Unit {0}
  HasUtf8Names names (compound f ts) = IsUtf8 (text_of_name names f) × HaveUtf8Names names ts

  pub HaveUtf8Names : List (List ℕ) → Terms → Type 0
  HaveUtf8Names names none = Unit {0}
  HaveUtf8Names names (more t ts) = HasUtf8Names names t × HaveUtf8Names names ts

mutual
  pub has_utf8 : (names : List (List ℕ)) → HasUtf8Texts names → (t : Term) → HasUtf8Names names t
  has_utf8 names all (variable v) = tt
  has_utf8 names all (integer i) = tt
  has_utf8 names all (compound f ts) = (utf8_text names f all, have_utf8 names all ts)

  have_utf8 : (names : List (List ℕ)) → HasUtf8Texts names → (ts : Terms) → HaveUtf8Names names ts
  have_utf8 names all none = tt
  have_utf8 names all (more t ts) = (has_utf8 names all t, have_utf8 names all ts)
