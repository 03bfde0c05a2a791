-- How a term is written under a table of operators (ISO/IEC 13211-1 section 7.10.5, with the project's choices).
use Rattle.std.specs.Prelude.{ℕ, Bool, false, List, [], ◌∷◌, ◌++◌, codes, Option, None, Some, is_some, if◌then◌else◌, ◌||◌, ◌==◌, nat_lt}
use Rattle.std.specs.Fmt.{decimal, signed_decimal}
use Rattle.std.specs.Int.{is_negative}
use Rattle.apd_term.specs.declared.term.NameId.{NameId}
use Rattle.apd_term.specs.declared.standard.TheConstants.{NIL, CELL, CURLY, COMMA}
use Rattle.apd_term.specs.Names.{text_of_name}
use Rattle.apd_term.specs.Term.{Term, Terms, variable, integer, compound, none, more}
use Rattle.apd_ops.specs.declared.op.TheConstants.{ARGUMENT_PRIORITY, MOST_PRIORITY}
use Rattle.apd_ops.specs.Operators.{left_by, right_by}
use Rattle.apd_ops.specs.Table.{Meaning, Table, prefix_in, infix_in}
use Rattle.apd_write.specs.NameTexts.{name_text, function_text}

abbrev pub in_parentheses : List ℕ → List ℕ
in_parentheses text = codes "(" ++ text ++ codes ")"

-- in parentheses where the priority is above the greatest one of the place
abbrev pub fitted : ℕ → ℕ → List ℕ → List ℕ
fitted max priority text = if nat_lt max priority then in_parentheses text else text

abbrev pub is_same_name : NameId → NameId → Bool
is_same_name f g = f.0 == g.0

abbrev pub is_operator : Table → NameId → Bool
is_operator ops f = is_some (prefix_in ops f.0) || is_some (infix_in ops f.0)

-- an atom that is an operator
abbrev pub is_operator_atom : Table → Term → Bool
is_operator_atom ops (compound f none) = is_operator ops f
is_operator_atom ops t = false

abbrev pub is_negative_integer : Term → Bool
is_negative_integer (integer i) = is_negative i
is_negative_integer t = false

-- an argument: its term, its text for a place of each priority, and what stands behind the element before it if it is a list's rest
pub record Part : Type 0 where
  pub term : Term
  pub text : ℕ → List ℕ
  pub rest : List ℕ

-- an infix operator's name between its operands: the comma has no space before it
abbrev pub between : NameId → List ℕ → List ℕ
between f name = if is_same_name f COMMA then codes ", " else codes " " ++ name ++ codes " "

module _ (ops : Table) where
  -- an operand on the right of an infix operator
  abbrev pub right_operand : ℕ → Part → List ℕ
  right_operand max p = if is_operator_atom ops p.term then in_parentheses (p.text MOST_PRIORITY) else p.text max

  -- an operand on its left, or of a prefix operator
  abbrev pub left_operand : ℕ → Part → List ℕ
  left_operand max p = if is_negative_integer p.term then in_parentheses (p.text MOST_PRIORITY) else right_operand max p

  abbrev pub prefix_text : Meaning → List ℕ → ℕ → Part → List ℕ
  prefix_text m name max p = fitted max m.0 (name ++ codes " " ++ left_operand (right_by m.1 m.0) p)

  abbrev pub infix_text : Meaning → NameId → List ℕ → ℕ → Part → Part → List ℕ
  infix_text m f name max p q = fitted max m.0 (left_operand (left_by m.1 m.0) p ++ between f name ++ right_operand (right_by m.1 m.0) q)

-- arguments, with commas between them
abbrev pub further_arguments : List Part → List ℕ
further_arguments [] = []
further_arguments (p ∷ ps) = codes "," ++ p.text ARGUMENT_PRIORITY ++ further_arguments ps

abbrev pub arguments_text : List Part → List ℕ
arguments_text [] = []
arguments_text (p ∷ ps) = p.text ARGUMENT_PRIORITY ++ further_arguments ps

-- functional notation
abbrev pub function : List ℕ → List Part → List ℕ
function name ps = function_text name ++ in_parentheses (arguments_text ps)

-- a compound of one argument
abbrev pub one_text : Table → Option Meaning → NameId → List ℕ → ℕ → Part → List ℕ
one_text ops None f name max p = if is_same_name f CURLY then codes "{" ++ p.text MOST_PRIORITY ++ codes "}" else function name (p ∷ [])
one_text ops (Some m) f name max p = prefix_text ops m (name_text name) max p

-- a compound of two arguments that is no list
abbrev pub two_text : Table → Option Meaning → NameId → List ℕ → ℕ → Part → Part → List ℕ
two_text ops None f name max p q = function name (p ∷ q ∷ [])
two_text ops (Some m) f name max p q = infix_text ops m f (name_text name) max p q

-- a list from an element on
abbrev pub list_text : Part → Part → List ℕ
list_text p q = p.text ARGUMENT_PRIORITY ++ q.rest

-- a name with its arguments for a place of a priority
abbrev pub arranged : Table → NameId → List ℕ → ℕ → List Part → List ℕ
arranged ops f name max [] = name_text name
arranged ops f name max (p ∷ []) = one_text ops (prefix_in ops f.0) f name max p
arranged ops f name max (p ∷ q ∷ []) = if is_same_name f CELL then codes "[" ++ list_text p q else two_text ops (infix_in ops f.0) f name max p q
arranged ops f name max ps = function name ps

-- what stands behind a list's element: the next element, the end, or the bar and the tail
abbrev pub rest_after : Table → NameId → List ℕ → List Part → List ℕ
rest_after ops f name [] = if is_same_name f NIL then codes "]" else codes "|" ++ name_text name ++ codes "]"
rest_after ops f name (p ∷ q ∷ []) =
    if is_same_name f CELL then codes "," ++ list_text p q else codes "|" ++ arranged ops f name ARGUMENT_PRIORITY (p ∷ q ∷ []) ++ codes "]"
rest_after ops f name ps = codes "|" ++ arranged ops f name ARGUMENT_PRIORITY ps ++ codes "]"

abbrev pub variable_text : ℕ → List ℕ
variable_text v = codes "_" ++ decimal v

-- a term for a place of a priority, and a term as the rest of a list
abbrev mutual
  pub written : Table → List (List ℕ) → Term → ℕ → List ℕ
  written ops names (variable v) max = variable_text v
  written ops names (integer i) max = signed_decimal i
  written ops names (compound f ts) max = arranged ops f (text_of_name names f) max (parts ops names ts)

  pub rest_text : Table → List (List ℕ) → Term → List ℕ
  rest_text ops names (variable v) = codes "|" ++ variable_text v ++ codes "]"
  rest_text ops names (integer i) = codes "|" ++ signed_decimal i ++ codes "]"
  rest_text ops names (compound f ts) = rest_after ops f (text_of_name names f) (parts ops names ts)

  pub parts : Table → List (List ℕ) → Terms → List Part
  parts ops names none = []
  parts ops names (more t ts) = record { term = t; text = written ops names t; rest = rest_text ops names t } ∷ parts ops names ts
