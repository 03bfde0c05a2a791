-- What is still to be written in the middle of a term.
use Rattle.std.specs.Prelude.{ℕ, ◌≡◌, ◌+◌, Bool, false, List, [], ◌∷◌, ◌++◌, codes, length, if◌then◌else◌, Option, Some, None, nat_lt}
use Rattle.std.proofs.Common.{zero, suc}
use Rattle.std.specs.Fmt.{signed_decimal}
use Rattle.std.specs.Int.{is_negative}
use Rattle.apd_term.specs.Names.{text_of_name}
use Rattle.apd_term.specs.Term.{Term, terms_of}
use Rattle.apd_term.specs.declared.standard.TheConstants.{NIL}
use Rattle.apd_term.specs.declared.term.NameId.{NameId}
use Rattle.apd_term.specs.declared.term.Sym.{Sym}
use Rattle.apd_term.specs.declared.term.Sym.TheVariants.{Var, Int, Fun}
use Rattle.apd_ops.specs.declared.op.TheConstants.{ARGUMENT_PRIORITY}
use Rattle.apd_ops.specs.Table.{Table}
use Rattle.apd_write.specs.NameTexts.{name_text}
use Rattle.apd_write.specs.Writing.{Part, arranged, between, in_parentheses, is_operator, is_same_name, parts, left_operand, rest_after, right_operand, variable_text}
use Rattle.apd_write.specs.declared.pending.TermPlace.{TermPlace}
use Rattle.apd_write.specs.declared.pending.TermPlace.TheVariants as place
use Rattle.apd_write.specs.declared.pending.PendingFrame.{PendingFrame}
use Rattle.apd_write.specs.declared.pending.PendingFrame.TheVariants as frame

-- Symbols without arguments.

abbrev pub leaf_text : List (List ℕ) → Sym → List ℕ
leaf_text names (Var v) = variable_text v
leaf_text names (Int i) = signed_decimal i
leaf_text names (Fun f n) = name_text (text_of_name names f)

abbrev pub is_operator_symbol : Table → Sym → Bool
is_operator_symbol ops (Fun f n) = is_operator ops f
is_operator_symbol ops x = false

abbrev pub is_nil_symbol : Sym → Bool
is_nil_symbol (Fun f n) = is_same_name f NIL
is_nil_symbol x = false

abbrev pub is_negative_symbol : Sym → Bool
is_negative_symbol (Int i) = is_negative i
is_negative_symbol x = false

-- the place with its priority alone, without how many arguments are behind it
abbrev pub alone : TermPlace → TermPlace
alone (place.Argument n) = place.Whole ARGUMENT_PRIORITY
alone (place.Whole max) = place.Whole max
alone (place.Left max) = place.Left max
alone (place.Right max) = place.Right max
alone place.Rest = place.Rest

-- the frames, with one for what stands behind an argument
abbrev pub with_arguments : TermPlace → List PendingFrame → List PendingFrame
with_arguments (place.Argument n) frames = frames ++ frame.Arguments n ∷ []
with_arguments (place.Whole max) frames = frames
with_arguments (place.Left max) frames = frames
with_arguments (place.Right max) frames = frames
with_arguments place.Rest frames = frames

module _ (ops : Table) (names : List (List ℕ)) where
  -- the next part in its place; an argument's is asked for as `alone` has it
  abbrev pub text_in : TermPlace → Part → List ℕ
  text_in (place.Argument n) p = p.text ARGUMENT_PRIORITY
  text_in (place.Whole max) p = p.text max
  text_in (place.Left max) p = left_operand ops max p
  text_in (place.Right max) p = right_operand ops max p
  text_in place.Rest p = p.rest

  -- the next of the parts in its place, and what comes after it
  abbrev pub next_in : TermPlace → (List Part → List ℕ) → List Part → List ℕ
  next_in place after [] = []
  next_in place after (p ∷ ps) = text_in place p ++ after ps

  -- so many further arguments, the closing parenthesis, and what comes after it
  abbrev pub arguments_then : ℕ → (List Part → List ℕ) → List Part → List ℕ
  arguments_then zero after ps = codes ")" ++ after ps
  arguments_then (suc n) after [] = []
  arguments_then (suc n) after (p ∷ ps) = codes "," ++ p.text ARGUMENT_PRIORITY ++ arguments_then n after ps

  -- what a frame has behind the term that is written
  abbrev pub behind : PendingFrame → (List Part → List ℕ) → List Part → List ℕ
  behind (frame.Arguments n) after ps = arguments_then n after ps
  behind frame.Rest after ps = next_in place.Rest after ps
  behind frame.ListEnd after ps = codes "]" ++ after ps
  behind frame.CurlyEnd after ps = codes "}" ++ after ps
  behind frame.ParenthesisEnd after ps = codes ")" ++ after ps
  behind (frame.Right f max) after ps = between f (name_text (text_of_name names f)) ++ next_in (place.Right max) after ps

  -- what all frames have, the outermost first
  abbrev pub resume : List PendingFrame → (List Part → List ℕ) → List Part → List ℕ
  resume [] after = after
  resume (f ∷ fs) after = resume fs (behind f after)

  -- the next of the parts in its place, and what is behind it
  abbrev pub resumed_in : TermPlace → List PendingFrame → (List Part → List ℕ) → List Part → List ℕ
  resumed_in next frames after ps =
      next_in (alone next) (resume (with_arguments next frames) after) ps

-- how many parts a frame takes
abbrev pub takes : PendingFrame → ℕ
takes (frame.Arguments n) = n
takes frame.Rest = 1
takes frame.ListEnd = 0
takes frame.CurlyEnd = 0
takes frame.ParenthesisEnd = 0
takes (frame.Right f max) = 1

abbrev pub takes_in_all : List PendingFrame → ℕ
takes_in_all [] = 0
takes_in_all (f ∷ fs) = takes f + takes_in_all fs

-- behind a term the frames were closed up to a place where the next is to be written
pub record GoesOn (ops : Table) (names : List (List ℕ)) (frames frames_now : List PendingFrame) (marks : List ℕ) (next : TermPlace) : Type 0 where
  pub count : takes_in_all frames ≡ takes_in_all (with_arguments next frames_now) + 1
  pub text : (after : List Part → List ℕ) (p : Part) (ps : List Part) →
      resume ops names frames after (p ∷ ps)
      ≡ marks ++ resumed_in ops names next frames_now after (p ∷ ps)

-- behind the last term all frames were closed
pub record IsClosed (ops : Table) (names : List (List ℕ)) (frames frames_now : List PendingFrame) (marks : List ℕ) : Type 0 where
  pub count : takes_in_all frames ≡ 0
  pub none : frames_now ≡ []
  pub text : (after : List Part → List ℕ) (ps : List Part) → resume ops names frames after ps ≡ marks ++ after ps

abbrev pub Closes : Table → List (List ℕ) → List PendingFrame → List PendingFrame → List ℕ → Option TermPlace → Type 0
Closes ops names frames frames_now marks (Some next) = GoesOn ops names frames frames_now marks next
Closes ops names frames frames_now marks None = IsClosed ops names frames frames_now marks

-- what closes a written term was added to the text
abbrev pub AddsClosing : Table → List (List ℕ) → List PendingFrame → List PendingFrame → List ℕ → List ℕ → Option TermPlace → Type 0
AddsClosing ops names frames frames_now out out_now next = (marks : List ℕ) × (out_now ≡ out ++ marks) × Closes ops names frames frames_now marks next

-- one frame was left for the next term, which stands in it
pub record LeavesFor (ops : Table) (names : List (List ℕ)) (frame : PendingFrame) (frames frames_now : List PendingFrame) (marks : List ℕ) (next : TermPlace) : Type 0 where
  pub count : takes_in_all frames + takes frame ≡ takes_in_all (with_arguments next frames_now) + 1
  pub text : (after : List Part → List ℕ) (p : Part) (ps : List Part) →
      behind ops names frame (resume ops names frames after) (p ∷ ps)
      ≡ marks ++ resumed_in ops names next frames_now after (p ∷ ps)

-- one frame was left for good
pub record LeavesBehind (ops : Table) (names : List (List ℕ)) (frame : PendingFrame) (frames frames_now : List PendingFrame) (marks : List ℕ) : Type 0 where
  pub count : takes frame ≡ 0
  pub same : frames_now ≡ frames
  pub text : (after : List Part → List ℕ) (ps : List Part) → behind ops names frame after ps ≡ marks ++ after ps

abbrev pub LeavesTo : Table → List (List ℕ) → PendingFrame → List PendingFrame → List PendingFrame → List ℕ → Option TermPlace → Type 0
LeavesTo ops names frame frames frames_now marks (Some next) = LeavesFor ops names frame frames frames_now marks next
LeavesTo ops names frame frames frames_now marks None = LeavesBehind ops names frame frames frames_now marks

abbrev pub Leaves : Table → List (List ℕ) → PendingFrame → List PendingFrame → List PendingFrame → List ℕ → List ℕ → Option TermPlace → Type 0
Leaves ops names frame frames frames_now out out_now next = (marks : List ℕ) × (out_now ≡ out ++ marks) × LeavesTo ops names frame frames frames_now marks next

-- a name with its arguments in a place
abbrev pub compound_in : Table → TermPlace → NameId → List ℕ → List Part → List ℕ
compound_in ops (place.Argument n) f name ps = arranged ops f name ARGUMENT_PRIORITY ps
compound_in ops (place.Whole max) f name ps = arranged ops f name max ps
compound_in ops (place.Left max) f name ps = arranged ops f name max ps
compound_in ops (place.Right max) f name ps = arranged ops f name max ps
compound_in ops place.Rest f name ps = rest_after ops f name ps

-- the opening parenthesis where the priority is above the greatest one of the place
abbrev pub opening_mark : ℕ → ℕ → List ℕ
opening_mark priority max = if nat_lt max priority then codes "(" else []

-- the frame of the closing one
abbrev pub closing_frames : ℕ → ℕ → List PendingFrame
closing_frames priority max = if nat_lt max priority then frame.ParenthesisEnd ∷ [] else []

-- marks were added to the text and frames pushed, and the next term stands in this place
pub record Puts (marks : List ℕ) (pushed : List PendingFrame) (place : TermPlace) (frames frames_now : List PendingFrame) (out out_now : List ℕ) (next : TermPlace) : Type 0 where
  pub adds : out_now ≡ out ++ marks
  pub pushes : with_arguments next frames_now ≡ frames ++ pushed
  pub stands : alone next ≡ place

-- what stands before the first argument was added to the text, with a frame for what stands behind it
pub record Opens (ops : Table) (names : List (List ℕ)) (f : NameId) (count : ℕ) (here : TermPlace) (frames frames_now : List PendingFrame) (out out_now : List ℕ) (next : TermPlace) : Type 0 where
  pub marks : List ℕ
  pub adds : out_now ≡ out ++ marks
  pub takes : takes_in_all (with_arguments next frames_now) + 1 ≡ takes_in_all frames + count
  pub text : (after : List Part → List ℕ) (ps qs : List Part) → length ps ≡ count →
      compound_in ops here f (text_of_name names f) ps ++ resume ops names frames after qs
      ≡ marks ++ resumed_in ops names next frames_now after (ps ++ qs)

-- a symbol without arguments as the rest of a list
abbrev pub leaf_rest : List (List ℕ) → Sym → List ℕ
leaf_rest names x = if is_nil_symbol x then codes "]" else codes "|" ++ leaf_text names x ++ codes "]"

-- a symbol without arguments in a place
abbrev pub leaf_in : Table → List (List ℕ) → TermPlace → Sym → List ℕ
leaf_in ops names (place.Argument n) x = leaf_text names x
leaf_in ops names (place.Whole max) x = leaf_text names x
leaf_in ops names (place.Left max) x = if is_negative_symbol x then in_parentheses (leaf_text names x) else (if is_operator_symbol ops x then in_parentheses (leaf_text names x) else leaf_text names x)
leaf_in ops names (place.Right max) x = if is_operator_symbol ops x then in_parentheses (leaf_text names x) else leaf_text names x
leaf_in ops names place.Rest x = leaf_rest names x

-- in the middle of a text: the next of these terms is to be written in this place, and the frames have what stands behind it
pub record Expects (ops : Table) (names : List (List ℕ)) (whole : List ℕ) (frames : List PendingFrame) (out : List ℕ) (place : TermPlace) (ts : List Term) : Type 0 where
  pub count : length ts ≡ takes_in_all (with_arguments place frames) + 1
  pub text : whole
      ≡ out ++ resumed_in ops names place frames (λ ps. []) (parts ops names (terms_of ts))

-- in the middle of a text, or at its end
abbrev pub Stands : Table → List (List ℕ) → List ℕ → List PendingFrame → List ℕ → Option TermPlace → List Term → Type 0
Stands ops names whole frames out (Some place) ts = Expects ops names whole frames out place ts
Stands ops names whole frames out None ts = whole ≡ out
