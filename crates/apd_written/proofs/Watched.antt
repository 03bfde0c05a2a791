-- What is written of a term, under the watch: outside quotes `[N WORD]` stands nowhere in it.
use Rattle.std.proofs.Common.{◌≡◌, ℕ, length, List, [], ◌∷◌, ◌++◌, refl, sym, ◌∙◌, ap, subst, Bool, true, false, Option, Some, None}
use Rattle.std.specs.Prelude.{if◌then◌else◌, nat_lt, codes}
use Rattle.apd_term.specs.declared.term.NameId.{NameId}
use Rattle.apd_term.specs.declared.standard.TheConstants.{NIL, CELL, CURLY, COMMA}
use Rattle.apd_term.specs.Named.{IsNamed, AreNamed}
use Rattle.apd_term.specs.Names.{text_of_name}
use Rattle.apd_term.specs.Term.{Term, Terms, variable, integer, compound, none, more}
use Rattle.apd_ops.specs.Operators.{left_by, right_by}
use Rattle.apd_ops.specs.Table.{Meaning, Table, prefix_in, infix_in}
use Rattle.apd_write.specs.NameTexts.{function_text, name_text}
use Rattle.apd_write.specs.Writing.{Part, is_same_name, is_operator_atom, is_negative_integer, in_parentheses, fitted, between, right_operand, left_operand, prefix_text, infix_text, further_arguments, arguments_text, function, one_text, two_text, list_text, arranged, rest_after, variable_text, written, rest_text, parts}
use Rattle.std.specs.Fmt.{signed_decimal}
use Rattle.apd_reading_back.specs.Law.{IsInRange, AreInRange}
use Rattle.apd_written.proofs.Watching.{Watch, Free, Square, step, watched, watched-append, IsStart, free_start, square_start, IsEnd, free_end, digits_end, IsGap, free_gap, digits_gap, IsPast, free_past, word_past}
use Rattle.apd_written.proofs.WatchedNames.{IsNameText, function_name, name_name, signed-end, variable-end}

start-round : {w : Watch} → IsStart w → step w 40 ≡ Free
unfolding step
start-round free_start = refl
start-round square_start = refl

end-round : {w : Watch} → IsEnd w → step w 40 ≡ Free
unfolding step
end-round free_end = refl
end-round digits_end = refl

start-square : {w : Watch} → IsStart w → step w 91 ≡ Square
unfolding step
start-square free_start = refl
start-square square_start = refl

start-curly : {w : Watch} → IsStart w → step w 123 ≡ Free
unfolding step
start-curly free_start = refl
start-curly square_start = refl

-- a byte behind a term that begins nothing and ends it
record IsCloser (b : ℕ) : Type 0 where
  closes : {w : Watch} → IsEnd w → step w b ≡ Free

round_closer : IsCloser 41
unfolding step
round_closer = record { closes = λ e. by e }
  where
    by : {w : Watch} → IsEnd w → step w 41 ≡ Free
    by free_end = refl
    by digits_end = refl

comma_closer : IsCloser 44
unfolding step
comma_closer = record { closes = λ e. by e }
  where
    by : {w : Watch} → IsEnd w → step w 44 ≡ Free
    by free_end = refl
    by digits_end = refl

square_closer : IsCloser 93
unfolding step
square_closer = record { closes = λ e. by e }
  where
    by : {w : Watch} → IsEnd w → step w 93 ≡ Free
    by free_end = refl
    by digits_end = refl

bar_closer : IsCloser 124
unfolding step
bar_closer = record { closes = λ e. by e }
  where
    by : {w : Watch} → IsEnd w → step w 124 ≡ Free
    by free_end = refl
    by digits_end = refl

curly_closer : IsCloser 125
unfolding step
curly_closer = record { closes = λ e. by e }
  where
    by : {w : Watch} → IsEnd w → step w 125 ≡ Free
    by free_end = refl
    by digits_end = refl

-- a space behind a left operand, and one behind the operator
end-space : {w : Watch} → IsEnd w → IsGap (step w 32)
unfolding step
end-space free_end = free_gap
end-space digits_end = digits_gap

past-space : {w : Watch} → IsPast w → step w 32 ≡ Free
unfolding step
past-space free_past = refl
past-space word_past = refl

pub free-space : step Free 32 ≡ Free
unfolding step
free-space = refl

-- Texts behind one another.

-- a text and a byte that ends it
closed-free : (t : List ℕ) (b : ℕ) (w : Watch) → IsCloser b → IsEnd (watched w t) → watched w (t ++ b ∷ []) ≡ Free
closed-free t b w c e = watched-append w t (b ∷ []) ∙ c.closes e

pub behind-end : (t u : List ℕ) (w : Watch) → watched w t ≡ Free → IsEnd (watched Free u) → IsEnd (watched w (t ++ u))
behind-end t u w e f = subst IsEnd (sym (watched-append w t u ∙ ap (λ v. watched v u) e)) f

-- where a term has ended a comma and a space lead to the next
pub comma-free : {w : Watch} → IsEnd w → watched w (44 ∷ 32 ∷ []) ≡ Free
comma-free e = ap (λ v. step v 32) (comma_closer.closes e) ∙ free-space

parens-free : (t : List ℕ) (w : Watch) → step w 40 ≡ Free → IsEnd (watched Free t) → watched w (in_parentheses t) ≡ Free
parens-free t w e h = closed-free (40 ∷ t) 41 w round_closer (subst (λ v. IsEnd (watched v t)) (sym e) h)

parens-end : (t : List ℕ) (w : Watch) → IsStart w → IsEnd (watched Free t) → IsEnd (watched w (in_parentheses t))
parens-end t w s h = subst IsEnd (sym (parens-free t w (start-round s) h)) free_end

if-end : (c : Bool) (t u : List ℕ) (w : Watch) → IsEnd (watched w t) → IsEnd (watched w u) → IsEnd (watched w (if c then t else u))
if-end true t u w h k = h
if-end false t u w h k = k

if-free : (c : Bool) (t u : List ℕ) (w : Watch) → watched w t ≡ Free → watched w u ≡ Free → watched w (if c then t else u) ≡ Free
if-free true t u w h k = h
if-free false t u w h k = k

-- Terms.

record IsSteady (p : Part) : Type 0 where
  text : (place : ℕ) (w : Watch) → IsStart w → IsEnd (watched w (p.text place))
  rest : (w : Watch) → IsEnd w → watched w p.rest ≡ Free

abbrev AreSteady : List Part → Type 0
AreSteady [] = Unit {0}
AreSteady (p ∷ ps) = IsSteady p × AreSteady ps

fitted-end : (place priority : ℕ) (t : List ℕ) → ((w : Watch) → IsStart w → IsEnd (watched w t)) → (w : Watch) → IsStart w → IsEnd (watched w (fitted place priority t))
fitted-end place priority t h w s = if-end (nat_lt place priority) (in_parentheses t) t w (parens-end t w s (h Free free_start)) (h w s)

-- an infix operator between its operands
between-free : (f : NameId) (text : List ℕ) → IsNameText text → (w : Watch) → IsEnd w → watched w (between f text) ≡ Free
between-free f text n w e = if-free (is_same_name f COMMA) (codes ", ") (codes " " ++ text ++ codes " ") w (comma-free e)
    (watched-append w (32 ∷ text) (32 ∷ []) ∙ past-space (n.gap (step w 32) (end-space e)))

further-end : (ps : List Part) → AreSteady ps → (w : Watch) → IsEnd w → IsEnd (watched w (further_arguments ps))
further-end [] h w e = e
further-end (p ∷ ps) h w e =
    let text = p.text 999 in
    let one : IsEnd (watched w (44 ∷ text)) = subst (λ v. IsEnd (watched v text)) (sym (comma_closer.closes e)) (h.0.text 999 Free free_start) in
    subst IsEnd (sym (watched-append w (44 ∷ text) (further_arguments ps))) (further-end ps h.1 (watched w (44 ∷ text)) one)

call-end : (name : List ℕ) (p : Part) (ps : List Part) → AreSteady (p ∷ ps) → (w : Watch) → IsStart w → IsEnd (watched w (function name (p ∷ ps)))
call-end name p ps h w s =
    let inner : IsEnd (watched Free (arguments_text (p ∷ ps))) =
    subst IsEnd (sym (watched-append Free (p.text 999) (further_arguments ps))) (further-end ps h.1 (watched Free (p.text 999)) (h.0.text 999 Free free_start)) in
    subst IsEnd
    (sym (watched-append w (function_text name) (in_parentheses (arguments_text (p ∷ ps)))
    ∙ parens-free (arguments_text (p ∷ ps)) (watched w (function_text name)) (end-round ((function_name name).start w s)) inner))
    free_end

curly-end : (t : List ℕ) → IsEnd (watched Free t) → (w : Watch) → IsStart w → IsEnd (watched w (codes "{" ++ t ++ codes "}"))
curly-end t h w s = subst IsEnd (sym (closed-free (123 ∷ t) 125 w curly_closer (subst (λ v. IsEnd (watched v t)) (sym (start-curly s)) h))) free_end

-- a list from an element on
list-free : (p q : Part) → IsSteady p → IsSteady q → (w : Watch) → IsStart w → watched w (list_text p q) ≡ Free
list-free p q h k w s = watched-append w (p.text 999) q.rest ∙ k.rest (watched w (p.text 999)) (h.text 999 w s)

list-end : (p q : Part) → IsSteady p → IsSteady q → (w : Watch) → IsStart w → IsEnd (watched w (codes "[" ++ list_text p q))
list-end p q h k w s = subst IsEnd (sym (ap (λ v. watched v (list_text p q)) (start-square s) ∙ list-free p q h k Square square_start)) free_end

tail-free : (t : List ℕ) → IsEnd (watched Free t) → (w : Watch) → IsEnd w → watched w (codes "|" ++ t ++ codes "]") ≡ Free
tail-free t h w e = closed-free (124 ∷ t) 93 w square_closer (subst (λ v. IsEnd (watched v t)) (sym (bar_closer.closes e)) h)

module _ (ops : Table) where
  right-end : (place : ℕ) (p : Part) → IsSteady p → (w : Watch) → IsStart w → IsEnd (watched w (right_operand ops place p))
  right-end place p h w s = if-end (is_operator_atom ops p.term) (in_parentheses (p.text 1200)) (p.text place) w (parens-end (p.text 1200) w s (h.text 1200 Free free_start)) (h.text place w s)

  left-end : (place : ℕ) (p : Part) → IsSteady p → (w : Watch) → IsStart w → IsEnd (watched w (left_operand ops place p))
  left-end place p h w s = if-end (is_negative_integer p.term) (in_parentheses (p.text 1200)) (right_operand ops place p) w (parens-end (p.text 1200) w s (h.text 1200 Free free_start)) (right-end place p h w s)

  prefix-end : (m : Meaning) (name : List ℕ) (place : ℕ) (p : Part) → IsSteady p → (w : Watch) → IsStart w
      → IsEnd (watched w (prefix_text ops m (name_text name) place p))
  prefix-end m name place p h =
      let text = name_text name in
      let operand = left_operand ops (right_by m.1 m.0) p in
      fitted-end place m.0 (text ++ codes " " ++ operand)
      (λ w s. behind-end (text ++ codes " ") operand w (watched-append w text (32 ∷ []) ∙ (name_name name).before w s) (left-end (right_by m.1 m.0) p h Free free_start))

  infix-end : (m : Meaning) (f : NameId) (name : List ℕ) (place : ℕ) (p q : Part) → IsSteady p → IsSteady q → (w : Watch) → IsStart w
      → IsEnd (watched w (infix_text ops m f (name_text name) place p q))
  infix-end m f name place p q h k =
      let left = left_operand ops (left_by m.1 m.0) p in
      let right = right_operand ops (right_by m.1 m.0) q in
      let middle = between f (name_text name) in
      fitted-end place m.0 (left ++ middle ++ right)
      (λ w s. behind-end (left ++ middle) right w
      (watched-append w left middle ∙ between-free f (name_text name) (name_name name) (watched w left) (left-end (left_by m.1 m.0) p h w s))
      (right-end (right_by m.1 m.0) q k Free free_start))

  one-end : (m : Option Meaning) (f : NameId) (name : List ℕ) (place : ℕ) (p : Part) → IsSteady p → (w : Watch) → IsStart w
      → IsEnd (watched w (one_text ops m f name place p))
  one-end None f name place p h w s = if-end (is_same_name f CURLY) (codes "{" ++ p.text 1200 ++ codes "}") (function name (p ∷ [])) w (curly-end (p.text 1200) (h.text 1200 Free free_start) w s) (call-end name p [] (h, tt) w s)
  one-end (Some m) f name place p h w s = prefix-end m name place p h w s

  two-end : (m : Option Meaning) (f : NameId) (name : List ℕ) (place : ℕ) (p q : Part) → IsSteady p → IsSteady q → (w : Watch) → IsStart w → IsEnd (watched w (two_text ops m f name place p q))
  two-end None f name place p q h k w s = call-end name p (q ∷ []) (h, (k, tt)) w s
  two-end (Some m) f name place p q h k w s = infix-end m f name place p q h k w s

  arranged-end : (f : NameId) (name : List ℕ) (place : ℕ) (ps : List Part) → AreSteady ps → (w : Watch) → IsStart w → IsEnd (watched w (arranged ops f name place ps))
  arranged-end f name place [] h w s = (name_name name).start w s
  arranged-end f name place (p ∷ []) h w s = one-end (prefix_in ops f.0) f name place p h.0 w s
  arranged-end f name place (p ∷ q ∷ []) h w s =
      if-end (is_same_name f CELL) (codes "[" ++ list_text p q) (two_text ops (infix_in ops f.0) f name place p q) w (list-end p q h.0 h.1.0 w s) (two-end (infix_in ops f.0) f name place p q h.0 h.1.0 w s)
  arranged-end f name place (p ∷ q ∷ r ∷ ps) h w s = call-end name p (q ∷ r ∷ ps) h w s

  after-free : (f : NameId) (name : List ℕ) (ps : List Part) → AreSteady ps → (w : Watch) → IsEnd w → watched w (rest_after ops f name ps) ≡ Free
  after-free f name [] h w e = if-free (is_same_name f NIL) (codes "]") (codes "|" ++ name_text name ++ codes "]") w (square_closer.closes e) (tail-free (name_text name) ((name_name name).start Free free_start) w e)
  after-free f name (p ∷ []) h w e = tail-free (arranged ops f name 999 (p ∷ [])) (arranged-end f name 999 (p ∷ []) h Free free_start) w e
  after-free f name (p ∷ q ∷ []) h w e =
      if-free (is_same_name f CELL) (codes "," ++ list_text p q) (codes "|" ++ arranged ops f name 999 (p ∷ q ∷ []) ++ codes "]") w
      (ap (λ v. watched v (list_text p q)) (comma_closer.closes e) ∙ list-free p q h.0 h.1.0 Free free_start)
      (tail-free (arranged ops f name 999 (p ∷ q ∷ [])) (arranged-end f name 999 (p ∷ q ∷ []) h Free free_start) w e)
  after-free f name (p ∷ q ∷ r ∷ ps) h w e = tail-free (arranged ops f name 999 (p ∷ q ∷ r ∷ ps)) (arranged-end f name 999 (p ∷ q ∷ r ∷ ps) h Free free_start) w e

  module _ (names : List (List ℕ)) where
    mutual
      pub written-end : (t : Term) → IsNamed (length names) t → IsInRange t → (place : ℕ) (w : Watch) → IsStart w → IsEnd (watched w (written ops names t place))
      written-end (variable v) n r place w s = variable-end v r w s
      written-end (integer i) n r place w s = signed-end i r w s
      written-end (compound f ts) n r place w s = arranged-end f (text_of_name names f) place (parts ops names ts) (parts-steady ts n.1 r.1) w s

      rest-free : (t : Term) → IsNamed (length names) t → IsInRange t → (w : Watch) → IsEnd w → watched w (rest_text ops names t) ≡ Free
      rest-free (variable v) n r w e = tail-free (variable_text v) (variable-end v r Free free_start) w e
      rest-free (integer i) n r w e = tail-free (signed_decimal i) (signed-end i r Free free_start) w e
      rest-free (compound f ts) n r w e = after-free f (text_of_name names f) (parts ops names ts) (parts-steady ts n.1 r.1) w e

      parts-steady : (ts : Terms) → AreNamed (length names) ts → AreInRange ts → AreSteady (parts ops names ts)
      parts-steady none n r = tt
      parts-steady (more t ts) n r = (record { text = λ place w s. written-end t n.0 r.0 place w s; rest = λ w e. rest-free t n.0 r.0 w e }, parts-steady ts n.1 r.1)
