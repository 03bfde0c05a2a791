-- A term is written under other names as it was, with its names renumbered, where each of them has the same text.
use Rattle.std.proofs.Common.{◌≡◌, ℕ, ◌<◌, ◌≤◌, Bool, true, false, List, [], ◌∷◌, ◌++◌, length, map, refl, sym, ◌∙◌, ap, subst, arith, Option, None, Some}
use Rattle.std.specs.Prelude.{if◌then◌else◌, nat_lt, codes}
use Rattle.std.proofs.lemmas.Bool.Decides.{Decides-ltb, nat_tests}
use mathlib.Core.Path.{fun_ext}
use Rattle.apd_term.specs.Names.{text_of_name}
use Rattle.apd_term.specs.Named.{IsNamed, AreNamed}
use Rattle.apd_term.specs.Term.{Term, Terms, variable, integer, compound, none, more}
use Rattle.apd_term.specs.declared.standard.TheConstants.{NIL, CELL, CURLY, COMMA}
use Rattle.apd_term.specs.declared.term.NameId.{NameId}
use Rattle.apd_term.proofs.Naming.{text_of_number}
use Rattle.apd_ops.specs.Operators.{left_by, right_by}
use Rattle.apd_ops.specs.Table.{Meaning, Table, prefix_in, infix_in}
use Rattle.apd_ops.specs.declared.op.TheConstants.{MOST_PRIORITY}
use Rattle.apd_write.specs.NameTexts.{name_text, function_text}
use Rattle.apd_write.specs.Writing.{in_parentheses, fitted, is_same_name, is_operator, is_operator_atom, is_negative_integer, Part, between, right_operand, left_operand, further_arguments, arguments_text, function, one_text, two_text, list_text, arranged, rest_after, written, rest_text, parts}
use Rattle.apd_numbering.specs.Lists.{HasFewOperators}
use Rattle.apd_numbering.specs.Renumbering.{Renumbering, renumbered, renumbered_all, renumbered_name}
use Rattle.apd_numbering.proofs.Exchanged.{Between}
use Rattle.apd_numbering.proofs.Tests.{test-standard, to-injective}
use Rattle.apd_numbering.proofs.Twins.{AreOfOneText, AreTwins, variable_twin, integer_twin, compound_twin, AllTwins, none_twin, more_twin}

-- each name of the term has under the other names, renumbered, the text that it has
abbrev mutual
  pub IsShared : (names others : List (List ℕ)) → (ℕ → ℕ) → Term → Type 0
  IsShared names others r (variable v) = Unit {0}
  IsShared names others r (integer i) = Unit {0}
  IsShared names others r (compound f ts) = (text_of_name others (renumbered_name r f) ≡ text_of_name names f) × AreShared names others r ts

  pub AreShared : (names others : List (List ℕ)) → (ℕ → ℕ) → Terms → Type 0
  AreShared names others r none = Unit {0}
  AreShared names others r (more t ts) = IsShared names others r t × AreShared names others r ts

-- Terms of one text whose names are kept in both lists are the one the other, renumbered.
module _ (n : ℕ) (names others : List (List ℕ)) (b : Between n names others) where
  kept-number : (f g : ℕ) → AreOfOneText names others f g → f < length names → g < length others → b.numbering.to f ≡ g
  kept-number f g h i o = ap b.numbering.to h.1 ∙ b.fits h.0 (subst (λ k. k < length names) h.1 i) (subst (λ k. k < length others) h.2 o) ∙ sym h.2

  kept-text : (f g : NameId) → AreOfOneText names others f.0 g.0 → f.0 < length names → g.0 < length others → text_of_name others (renumbered_name b.numbering.to f) ≡ text_of_name names f
  kept-text f g h i o =
      ap (λ k. text_of_name others (record { 0 = k })) (kept-number f.0 g.0 h i o ∙ h.2)
      ∙ text_of_number others h.0 (subst (λ k. k < length others) h.2 o)
      ∙ sym (ap (λ k. text_of_name names (record { 0 = k })) h.1 ∙ text_of_number names h.0 (subst (λ k. k < length names) h.1 i))

  mutual
    pub twins-renumbered : {t u : Term} → AreTwins (AreOfOneText names others) t u → IsNamed (length names) t → IsNamed (length others) u → (u ≡ renumbered b.numbering.to t) × IsShared names others b.numbering.to t
    twins-renumbered (variable_twin v) i o = (refl, tt)
    twins-renumbered (integer_twin z) i o = (refl, tt)
    twins-renumbered (compound_twin f g {ts} {us} h hs) i o =
        let k = all_twins-renumbered hs i.1 o.1 in
        (ap (λ j. compound (record { 0 = j }) us) (sym (kept-number f.0 g.0 h i.0 o.0)) ∙ ap (compound (renumbered_name b.numbering.to f)) k.0, (kept-text f g h i.0 o.0, k.1))

    all_twins-renumbered : {ts us : Terms} → AllTwins (AreOfOneText names others) ts us → AreNamed (length names) ts → AreNamed (length others) us → (us ≡ renumbered_all b.numbering.to ts) × AreShared names others b.numbering.to ts
    all_twins-renumbered none_twin i o = (refl, tt)
    all_twins-renumbered (more_twin {t} {u} {ts} {us} h hs) i o =
        let j = twins-renumbered h i.0 o.0 in
        let k = all_twins-renumbered hs i.1 o.1 in
        (ap (λ v. more v us) j.0 ∙ ap (more (renumbered b.numbering.to t)) k.0, (j.1, k.1))

-- Operators are among the first names.
module _ (n : ℕ) (x : Renumbering n) (ops : Table) (few : HasFewOperators n ops) where
  later-stays : (f : ℕ) → n ≤ f → n ≤ x.to f
  later-stays f l = by (nat_lt (x.to f) n) refl
    where
      by : (b : Bool) → nat_lt (x.to f) n ≡ b → n ≤ x.to f
      by true e =
          let below : x.to f < n = (Decides-ltb (x.to f) n).0 e in
          let same : x.to f ≡ f = to-injective n x (x.to f) f (x.stays (x.to f) below) in
          absurd (omega (arith, below, l, same))
      by false e = grind (arith, nat_tests)

  prefix-same : (f : ℕ) → prefix_in ops (x.to f) ≡ prefix_in ops f
  prefix-same f = by (nat_lt f n) refl
    where
      by : (b : Bool) → nat_lt f n ≡ b → prefix_in ops (x.to f) ≡ prefix_in ops f
      by true e = ap (prefix_in ops) (x.stays f ((Decides-ltb f n).0 e))
      by false e = let l : n ≤ f = grind (arith, nat_tests) in (few (x.to f) (later-stays f l)).0 ∙ sym (few f l).0

  infix-same : (f : ℕ) → infix_in ops (x.to f) ≡ infix_in ops f
  infix-same f = by (nat_lt f n) refl
    where
      by : (b : Bool) → nat_lt f n ≡ b → infix_in ops (x.to f) ≡ infix_in ops f
      by true e = ap (infix_in ops) (x.stays f ((Decides-ltb f n).0 e))
      by false e = let l : n ≤ f = grind (arith, nat_tests) in (few (x.to f) (later-stays f l)).1 ∙ sym (few f l).1

  operator-same : (f : NameId) → is_operator ops (renumbered_name x.to f) ≡ is_operator ops f
  operator-same f = rw (prefix-same f.0, infix-same f.0) refl

  operator_atom-same : (t : Term) → is_operator_atom ops (renumbered x.to t) ≡ is_operator_atom ops t
  operator_atom-same (variable v) = refl
  operator_atom-same (integer i) = refl
  operator_atom-same (compound f none) = operator-same f
  operator_atom-same (compound f (more t ts)) = refl

  negative-same : (t : Term) → is_negative_integer (renumbered x.to t) ≡ is_negative_integer t
  negative-same (variable v) = refl
  negative-same (integer i) = refl
  negative-same (compound f ts) = refl

  standard-same : (f c : NameId) → c.0 < 132 → is_same_name (renumbered_name x.to f) c ≡ is_same_name f c
  standard-same f c l = test-standard n x f.0 c.0 l

  -- Parts.

  abbrev renumbered_part : Part → Part
  renumbered_part p = record { term = renumbered x.to p.term; text = p.text; rest = p.rest }

  abbrev renumbered_parts : List Part → List Part
  renumbered_parts ps = map renumbered_part ps

  right-same : (max : ℕ) (p : Part) → right_operand ops max (renumbered_part p) ≡ right_operand ops max p
  right-same max p = ap (λ b. if b then in_parentheses (p.text MOST_PRIORITY) else p.text max) (operator_atom-same p.term)

  left-same : (max : ℕ) (p : Part) → left_operand ops max (renumbered_part p) ≡ left_operand ops max p
  left-same max p =
      ap (λ b. if b then in_parentheses (p.text MOST_PRIORITY) else right_operand ops max (renumbered_part p)) (negative-same p.term)
      ∙ ap (λ text. if is_negative_integer p.term then in_parentheses (p.text MOST_PRIORITY) else text) (right-same max p)

  further-same : (ps : List Part) → further_arguments (renumbered_parts ps) ≡ further_arguments ps
  further-same [] = refl
  further-same (p ∷ ps) = ap (λ text. codes "," ++ p.text 999 ++ text) (further-same ps)

  arguments-same : (ps : List Part) → arguments_text (renumbered_parts ps) ≡ arguments_text ps
  arguments-same [] = refl
  arguments-same (p ∷ ps) = ap (λ text. p.text 999 ++ text) (further-same ps)

  function-same : (name : List ℕ) (ps : List Part) → function name (renumbered_parts ps) ≡ function name ps
  function-same name ps = ap (λ text. function_text name ++ in_parentheses text) (arguments-same ps)

  one-same : (m : Option Meaning) (f : NameId) (name : List ℕ) (max : ℕ) (p : Part) → one_text ops m (renumbered_name x.to f) name max (renumbered_part p) ≡ one_text ops m f name max p
  one-same None f name max p = ap (λ b. if b then codes "{" ++ p.text MOST_PRIORITY ++ codes "}" else function name (p ∷ [])) (standard-same f CURLY (omega arith))
  one-same (Some m) f name max p = ap (λ text. fitted max m.0 (name_text name ++ codes " " ++ text)) (left-same (right_by m.1 m.0) p)

  between-same : (f : NameId) (name : List ℕ) → between (renumbered_name x.to f) name ≡ between f name
  between-same f name = ap (λ b. if b then codes ", " else codes " " ++ name ++ codes " ") (standard-same f COMMA (omega arith))

  two-same : (m : Option Meaning) (f : NameId) (name : List ℕ) (max : ℕ) (p q : Part) → two_text ops m (renumbered_name x.to f) name max (renumbered_part p) (renumbered_part q) ≡ two_text ops m f name max p q
  two-same None f name max p q = function-same name (p ∷ q ∷ [])
  two-same (Some m) f name max p q = rw (left-same (left_by m.1 m.0) p, between-same f (name_text name), right-same (right_by m.1 m.0) q) refl

  arranged-same : (f : NameId) (name : List ℕ) (max : ℕ) (ps : List Part) → arranged ops (renumbered_name x.to f) name max (renumbered_parts ps) ≡ arranged ops f name max ps
  arranged-same f name max [] = refl
  arranged-same f name max (p ∷ []) = ap (λ m. one_text ops m (renumbered_name x.to f) name max (renumbered_part p)) (prefix-same f.0) ∙ one-same (prefix_in ops f.0) f name max p
  arranged-same f name max (p ∷ q ∷ []) =
      ap (λ b. if b then codes "[" ++ list_text p q else two_text ops (infix_in ops (x.to f.0)) (renumbered_name x.to f) name max (renumbered_part p) (renumbered_part q)) (standard-same f CELL (omega arith))
      ∙ ap (λ text. if is_same_name f CELL then codes "[" ++ list_text p q else text)
      (ap (λ m. two_text ops m (renumbered_name x.to f) name max (renumbered_part p) (renumbered_part q)) (infix-same f.0) ∙ two-same (infix_in ops f.0) f name max p q)
  arranged-same f name max (p ∷ q ∷ o ∷ ps) = function-same name (p ∷ q ∷ o ∷ ps)

  rest-same : (f : NameId) (name : List ℕ) (ps : List Part) → rest_after ops (renumbered_name x.to f) name (renumbered_parts ps) ≡ rest_after ops f name ps
  rest-same f name [] = ap (λ b. if b then codes "]" else codes "|" ++ name_text name ++ codes "]") (standard-same f NIL (omega arith))
  rest-same f name (p ∷ []) = ap (λ text. codes "|" ++ text ++ codes "]") (arranged-same f name 999 (p ∷ []))
  rest-same f name (p ∷ q ∷ []) =
      ap (λ b. if b then codes "," ++ list_text p q else codes "|" ++ arranged ops (renumbered_name x.to f) name 999 (renumbered_parts (p ∷ q ∷ [])) ++ codes "]") (standard-same f CELL (omega arith))
      ∙ ap (λ text. if is_same_name f CELL then codes "," ++ list_text p q else codes "|" ++ text ++ codes "]") (arranged-same f name 999 (p ∷ q ∷ []))
  rest-same f name (p ∷ q ∷ o ∷ ps) = ap (λ text. codes "|" ++ text ++ codes "]") (arranged-same f name 999 (p ∷ q ∷ o ∷ ps))

  -- Terms.

  mutual
    pub written-renumbered : (names others : List (List ℕ)) (t : Term) (max : ℕ) → IsShared names others x.to t → written ops others (renumbered x.to t) max ≡ written ops names t max
    written-renumbered names others (variable v) max shared = refl
    written-renumbered names others (integer i) max shared = refl
    written-renumbered names others (compound f ts) max shared =
        ap (λ name. arranged ops (renumbered_name x.to f) name max (parts ops others (renumbered_all x.to ts))) shared.0
        ∙ ap (arranged ops (renumbered_name x.to f) (text_of_name names f) max) (parts-renumbered names others ts shared.1)
        ∙ arranged-same f (text_of_name names f) max (parts ops names ts)

    rest-renumbered : (names others : List (List ℕ)) (t : Term) → IsShared names others x.to t → rest_text ops others (renumbered x.to t) ≡ rest_text ops names t
    rest-renumbered names others (variable v) shared = refl
    rest-renumbered names others (integer i) shared = refl
    rest-renumbered names others (compound f ts) shared =
        ap (λ name. rest_after ops (renumbered_name x.to f) name (parts ops others (renumbered_all x.to ts))) shared.0
        ∙ ap (rest_after ops (renumbered_name x.to f) (text_of_name names f)) (parts-renumbered names others ts shared.1)
        ∙ rest-same f (text_of_name names f) (parts ops names ts)

    parts-renumbered : (names others : List (List ℕ)) (ts : Terms) → AreShared names others x.to ts → parts ops others (renumbered_all x.to ts) ≡ renumbered_parts (parts ops names ts)
    parts-renumbered names others none shared = refl
    parts-renumbered names others (more t ts) shared =
        let text : written ops others (renumbered x.to t) ≡ written ops names t = fun_ext (λ max. written-renumbered names others t max shared.0) in
        rw (text, rest-renumbered names others t shared.0, parts-renumbered names others ts shared.1) refl
