-- What opens a compound, with what stands behind it, makes up the compound's text.
use Rattle.std.proofs.Common.{ℕ, ◌≡◌, ◌+◌, ◌-◌, ◌<◌, List, [], ◌∷◌, ◌++◌, Bool, true, false, length, refl, ap, sym, ◌∙◌, arith, append_assoc, suc}
use Rattle.std.specs.Prelude.{codes, if◌then◌else◌, nat_lt, Option, Some, None}
use Rattle.apd_ops.specs.Operators.{left_by, right_by}
use Rattle.apd_ops.specs.Table.{Meaning, Table, prefix_in, infix_in}
use Rattle.apd_term.specs.Names.{text_of_name}
use Rattle.apd_term.specs.declared.term.NameId.{NameId}
use Rattle.apd_term.specs.declared.standard.TheConstants.{CELL, CURLY}
use Rattle.apd_write.specs.NameTexts.{name_text, function_text}
use Rattle.apd_write.specs.Writing.{Part, arranged, between, further_arguments, function, infix_text, is_same_name, left_operand, list_text, one_text, prefix_text, rest_after, right_operand, two_text}
use Rattle.apd_write.specs.Pending.{Opens, Puts, arguments_then, closing_frames, compound_in, next_in, opening_mark, resume, takes, takes_in_all}
use Rattle.apd_write.specs.declared.pending.TermPlace.{TermPlace}
use Rattle.apd_write.specs.declared.pending.TermPlace.TheVariants as place
use Rattle.apd_write.specs.declared.pending.PendingFrame.{PendingFrame}
use Rattle.apd_write.specs.declared.pending.PendingFrame.TheVariants as frame
use Rattle.apd_write.proofs.Frames.{resume-push, takes-push, resume-fitted, takes-fitted}

-- what was put opens the compound, if its text is so made up
opens_from_put : (ops : Table) (names : List (List ℕ)) (f : NameId) (count : ℕ) (here : TermPlace) (marks : List ℕ) (pushed : List PendingFrame) (stands : TermPlace)
    (frames frames_now : List PendingFrame) (out out_now : List ℕ) (next : TermPlace) →
    (takes_in_all (frames ++ pushed) + 1 ≡ takes_in_all frames + count) →
    ((after : List Part → List ℕ) (ps qs : List Part) → length ps ≡ count →
    compound_in ops here f (text_of_name names f) ps ++ resume ops names frames after qs ≡ marks ++ next_in ops names stands (resume ops names (frames ++ pushed) after) (ps ++ qs)) →
    Puts marks pushed stands frames frames_now out out_now next → Opens ops names f count here frames frames_now out out_now next
opens_from_put ops names f count here marks pushed stands frames frames_now out out_now next takes text put = record {
  marks = marks;
  adds = put.adds;
  takes = rw put.pushes takes;
  text = λ after ps qs long. rw (put.pushes, put.stands) (text after ps qs long);
}

arguments_all : (ops : Table) (names : List (List ℕ)) (after : List Part → List ℕ) (ps qs : List Part) →
    arguments_then ops names (length ps) after (ps ++ qs) ≡ further_arguments ps ++ (codes ")" ++ after qs)
arguments_all ops names after [] qs = refl
arguments_all ops names after (p ∷ ps) qs =
    ap (λ (x : List ℕ). 44 ∷ (p.text 999 ++ x)) (arguments_all ops names after ps qs) ∙ ap (λ (x : List ℕ). 44 ∷ x) (sym (append_assoc (p.text 999) (further_arguments ps) _))

regroup_function : (name first further rest : List ℕ) →
    (name ++ 40 ∷ ((first ++ further) ++ 41 ∷ [])) ++ rest ≡ (name ++ 40 ∷ []) ++ (first ++ (further ++ 41 ∷ rest))
regroup_function name first further rest = simp append_assoc

function_text_opens : (ops : Table) (names : List (List ℕ)) (name : List ℕ) (n : ℕ) (frames : List PendingFrame) (after : List Part → List ℕ) (ps qs : List Part) → length ps ≡ suc n →
    function name ps ++ resume ops names frames after qs
    ≡ (function_text name ++ codes "(") ++ next_in ops names (place.Whole 999) (resume ops names (frames ++ frame.Arguments n ∷ []) after) (ps ++ qs)
function_text_opens ops names name n frames after [] qs is = absurd (omega (arith, is))
function_text_opens ops names name n frames after (p ∷ ps) qs is =
    let few : length ps ≡ n = omega (arith, is) in
    regroup_function (function_text name) (p.text 999) (further_arguments ps) (resume ops names frames after qs)
    ∙ ap (λ (x : List ℕ). (function_text name ++ 40 ∷ []) ++ (p.text 999 ++ x)) (
    sym (arguments_all ops names (resume ops names frames after) ps qs)
    ∙ ap (λ (k : ℕ). arguments_then ops names k (resume ops names frames after) (ps ++ qs)) few
    ∙ ap (λ (g : List Part → List ℕ). g (ps ++ qs)) (sym (resume-push ops names frames (frame.Arguments n) after)))

pub function_opens : (ops : Table) (names : List (List ℕ)) (f : NameId) (count max : ℕ) (frames frames_now : List PendingFrame) (out out_now : List ℕ) (next : TermPlace) →
    0 < count →
    ((ps : List Part) → length ps ≡ count → arranged ops f (text_of_name names f) max ps ≡ function (text_of_name names f) ps) →
    Puts (function_text (text_of_name names f) ++ codes "(") (frame.Arguments (count - 1) ∷ []) (place.Whole 999) frames frames_now out out_now next →
    Opens ops names f count (place.Whole max) frames frames_now out out_now next
function_opens ops names f count max frames frames_now out out_now next some is put =
    opens_from_put ops names f count (place.Whole max) _ _ _ frames frames_now out out_now next
    (let e = takes-push frames (frame.Arguments (count - 1)) in omega (arith, e, some))
    (λ after ps qs long. ap (λ (x : List ℕ). x ++ resume ops names frames after qs) (is ps long)
    ∙ function_text_opens ops names (text_of_name names f) (count - 1) frames after ps qs (omega (arith, long, some)))
    put

-- which compounds are in functional notation
pub one_is_function : (ops : Table) (f : NameId) (name : List ℕ) (max : ℕ) → prefix_in ops f.0 ≡ None → is_same_name f CURLY ≡ false →
    (ps : List Part) → length ps ≡ 1 → arranged ops f name max ps ≡ function name ps
one_is_function ops f name max no_prefix not_curly [] is = absurd (omega (arith, is))
one_is_function ops f name max no_prefix not_curly (p ∷ []) is =
    ap (λ (m : Option Meaning). one_text ops m f name max p) no_prefix
    ∙ ap (λ (b : Bool). if b then codes "{" ++ p.text 1200 ++ codes "}" else function name (p ∷ [])) not_curly
one_is_function ops f name max no_prefix not_curly (p ∷ q ∷ ps) is = absurd (omega (arith, is))

pub two_is_function : (ops : Table) (f : NameId) (name : List ℕ) (max : ℕ) → infix_in ops f.0 ≡ None → is_same_name f CELL ≡ false →
    (ps : List Part) → length ps ≡ 2 → arranged ops f name max ps ≡ function name ps
two_is_function ops f name max no_infix not_cell [] is = absurd (omega (arith, is))
two_is_function ops f name max no_infix not_cell (p ∷ []) is = absurd (omega (arith, is))
two_is_function ops f name max no_infix not_cell (p ∷ q ∷ []) is =
    ap (λ (b : Bool). if b then codes "[" ++ list_text p q else two_text ops (infix_in ops f.0) f name max p q) not_cell
    ∙ ap (λ (m : Option Meaning). two_text ops m f name max p q) no_infix
two_is_function ops f name max no_infix not_cell (p ∷ q ∷ r ∷ ps) is = absurd (omega (arith, is))

pub many_is_function : (ops : Table) (f : NameId) (name : List ℕ) (max : ℕ) (ps : List Part) → 2 < length ps → arranged ops f name max ps ≡ function name ps
many_is_function ops f name max [] is = absurd (omega (arith, is))
many_is_function ops f name max (p ∷ []) is = absurd (omega (arith, is))
many_is_function ops f name max (p ∷ q ∷ []) is = absurd (omega (arith, is))
many_is_function ops f name max (p ∷ q ∷ r ∷ ps) is = refl

regroup_prefix : (mark name operand rest : List ℕ) → mark ++ (((name ++ 32 ∷ []) ++ operand) ++ rest) ≡ (mark ++ (name ++ 32 ∷ [])) ++ (operand ++ rest)
regroup_prefix mark name operand rest = simp append_assoc

prefix_parts : (ops : Table) (names : List (List ℕ)) (name : List ℕ) (m : Meaning) (max : ℕ) (frames : List PendingFrame) (after : List Part → List ℕ) (p : Part) (qs : List Part) →
    prefix_text ops m name max p ++ resume ops names frames after qs
    ≡ (opening_mark m.0 max ++ (name ++ codes " ")) ++ (left_operand ops (right_by m.1 m.0) p ++ resume ops names (frames ++ closing_frames m.0 max) after qs)
prefix_parts ops names name m max frames after p qs =
    let operand : List ℕ = left_operand ops (right_by m.1 m.0) p in
    resume-fitted ops names (nat_lt max m.0) ((name ++ 32 ∷ []) ++ operand) frames after qs
    ∙ regroup_prefix (opening_mark m.0 max) name operand (resume ops names (frames ++ closing_frames m.0 max) after qs)

prefix_text_opens : (ops : Table) (names : List (List ℕ)) (f : NameId) (name : List ℕ) (m : Meaning) (max : ℕ) (frames : List PendingFrame) (after : List Part → List ℕ) → prefix_in ops f.0 ≡ Some m →
    (ps qs : List Part) → length ps ≡ 1 →
    arranged ops f name max ps ++ resume ops names frames after qs
    ≡ (opening_mark m.0 max ++ (name_text name ++ codes " ")) ++ next_in ops names (place.Left (right_by m.1 m.0)) (resume ops names (frames ++ closing_frames m.0 max) after) (ps ++ qs)
prefix_text_opens ops names f name m max frames after is [] qs one = absurd (omega (arith, one))
prefix_text_opens ops names f name m max frames after is (p ∷ []) qs one =
    let chosen : one_text ops (prefix_in ops f.0) f name max p ≡ prefix_text ops m (name_text name) max p = ap (λ (o : Option Meaning). one_text ops o f name max p) is in
    ap (λ (x : List ℕ). x ++ resume ops names frames after qs) chosen ∙ prefix_parts ops names (name_text name) m max frames after p qs
prefix_text_opens ops names f name m max frames after is (p ∷ q ∷ ps) qs one = absurd (omega (arith, one))

pub prefix_opens : (ops : Table) (names : List (List ℕ)) (f : NameId) (m : Meaning) (max : ℕ) (frames frames_now : List PendingFrame) (out out_now : List ℕ) (next : TermPlace) →
    prefix_in ops f.0 ≡ Some m →
    Puts (opening_mark m.0 max ++ (name_text (text_of_name names f) ++ codes " ")) (closing_frames m.0 max) (place.Left (right_by m.1 m.0)) frames frames_now out out_now next →
    Opens ops names f 1 (place.Whole max) frames frames_now out out_now next
prefix_opens ops names f m max frames frames_now out out_now next is put =
    opens_from_put ops names f 1 (place.Whole max) _ _ _ frames frames_now out out_now next
    (let e = takes-fitted (nat_lt max m.0) frames in omega (arith, e))
    (λ after ps qs one. prefix_text_opens ops names f (text_of_name names f) m max frames after is ps qs one)
    put

infix_parts : (ops : Table) (names : List (List ℕ)) (f : NameId) (m : Meaning) (max : ℕ) (frames : List PendingFrame) (after : List Part → List ℕ) (p q : Part) (qs : List Part) →
    infix_text ops m f (name_text (text_of_name names f)) max p q ++ resume ops names frames after qs
    ≡ opening_mark m.0 max ++ (left_operand ops (left_by m.1 m.0) p ++ resume ops names (frames ++ (closing_frames m.0 max ++ frame.Right f (right_by m.1 m.0) ∷ [])) after (q ∷ qs))
infix_parts ops names f m max frames after p q qs =
    let left : List ℕ = left_operand ops (left_by m.1 m.0) p in
    let right : List ℕ = right_operand ops (right_by m.1 m.0) q in
    let mid : List ℕ = between f (name_text (text_of_name names f)) in
    let inner : List PendingFrame = frames ++ closing_frames m.0 max in
    let last : PendingFrame = frame.Right f (right_by m.1 m.0) in
    resume-fitted ops names (nat_lt max m.0) ((left ++ mid) ++ right) frames after qs
    ∙ ap (λ (x : List ℕ). opening_mark m.0 max ++ x) (append_assoc (left ++ mid) right (resume ops names inner after qs) ∙ append_assoc left mid (right ++ resume ops names inner after qs))
    ∙ ap (λ (g : List Part → List ℕ). opening_mark m.0 max ++ (left ++ g (q ∷ qs))) (sym (resume-push ops names inner last after))
    ∙ ap (λ (fs : List PendingFrame). opening_mark m.0 max ++ (left ++ resume ops names fs after (q ∷ qs))) (append_assoc frames (closing_frames m.0 max) (last ∷ []))

infix_text_opens : (ops : Table) (names : List (List ℕ)) (f : NameId) (m : Meaning) (max : ℕ) (frames : List PendingFrame) (after : List Part → List ℕ) → infix_in ops f.0 ≡ Some m → is_same_name f CELL ≡ false →
    (ps qs : List Part) → length ps ≡ 2 →
    arranged ops f (text_of_name names f) max ps ++ resume ops names frames after qs
    ≡ opening_mark m.0 max ++ next_in ops names (place.Left (left_by m.1 m.0)) (resume ops names (frames ++ (closing_frames m.0 max ++ frame.Right f (right_by m.1 m.0) ∷ [])) after) (ps ++ qs)
infix_text_opens ops names f m max frames after is not_cell [] qs two = absurd (omega (arith, two))
infix_text_opens ops names f m max frames after is not_cell (p ∷ []) qs two = absurd (omega (arith, two))
infix_text_opens ops names f m max frames after is not_cell (p ∷ q ∷ []) qs two =
    let name : List ℕ = text_of_name names f in
    let no_list : arranged ops f name max (p ∷ q ∷ []) ≡ two_text ops (infix_in ops f.0) f name max p q =
    ap (λ (b : Bool). if b then codes "[" ++ list_text p q else two_text ops (infix_in ops f.0) f name max p q) not_cell in
    let chosen : two_text ops (infix_in ops f.0) f name max p q ≡ infix_text ops m f (name_text name) max p q = ap (λ (o : Option Meaning). two_text ops o f name max p q) is in
    ap (λ (x : List ℕ). x ++ resume ops names frames after qs) (no_list ∙ chosen) ∙ infix_parts ops names f m max frames after p q qs
infix_text_opens ops names f m max frames after is not_cell (p ∷ q ∷ r ∷ ps) qs two = absurd (omega (arith, two))

pub infix_opens : (ops : Table) (names : List (List ℕ)) (f : NameId) (m : Meaning) (max : ℕ) (frames frames_now : List PendingFrame) (out out_now : List ℕ) (next : TermPlace) →
    infix_in ops f.0 ≡ Some m → is_same_name f CELL ≡ false →
    Puts (opening_mark m.0 max) (closing_frames m.0 max ++ frame.Right f (right_by m.1 m.0) ∷ []) (place.Left (left_by m.1 m.0)) frames frames_now out out_now next →
    Opens ops names f 2 (place.Whole max) frames frames_now out out_now next
infix_opens ops names f m max frames frames_now out out_now next is not_cell put =
    opens_from_put ops names f 2 (place.Whole max) _ _ _ frames frames_now out out_now next
    (let last : PendingFrame = frame.Right f (right_by m.1 m.0) in
    let e = takes-fitted (nat_lt max m.0) frames in
    let d = takes-push (frames ++ closing_frames m.0 max) last in
    let s : takes_in_all ((frames ++ closing_frames m.0 max) ++ last ∷ []) ≡ takes_in_all (frames ++ (closing_frames m.0 max ++ last ∷ [])) = ap takes_in_all (append_assoc frames (closing_frames m.0 max) (last ∷ [])) in
    omega (arith, e, d, s))
    (λ after ps qs two. infix_text_opens ops names f m max frames after is not_cell ps qs two)
    put

list_text_opens : (ops : Table) (names : List (List ℕ)) (f : NameId) (name : List ℕ) (max : ℕ) (frames : List PendingFrame) (after : List Part → List ℕ) → is_same_name f CELL ≡ true →
    (ps qs : List Part) → length ps ≡ 2 →
    arranged ops f name max ps ++ resume ops names frames after qs
    ≡ codes "[" ++ next_in ops names (place.Whole 999) (resume ops names (frames ++ frame.Rest ∷ []) after) (ps ++ qs)
list_text_opens ops names f name max frames after cell [] qs two = absurd (omega (arith, two))
list_text_opens ops names f name max frames after cell (p ∷ []) qs two = absurd (omega (arith, two))
list_text_opens ops names f name max frames after cell (p ∷ q ∷ []) qs two =
    ap (λ (b : Bool). (if b then codes "[" ++ list_text p q else two_text ops (infix_in ops f.0) f name max p q) ++ resume ops names frames after qs) cell
    ∙ ap (λ (x : List ℕ). 91 ∷ x) (append_assoc (p.text 999) q.rest (resume ops names frames after qs))
    ∙ ap (λ (g : List Part → List ℕ). 91 ∷ (p.text 999 ++ g (q ∷ qs))) (sym (resume-push ops names frames frame.Rest after))
list_text_opens ops names f name max frames after cell (p ∷ q ∷ r ∷ ps) qs two = absurd (omega (arith, two))

pub list_opens : (ops : Table) (names : List (List ℕ)) (f : NameId) (max : ℕ) (frames frames_now : List PendingFrame) (out out_now : List ℕ) (next : TermPlace) →
    is_same_name f CELL ≡ true →
    Puts (codes "[") (frame.Rest ∷ []) (place.Whole 999) frames frames_now out out_now next →
    Opens ops names f 2 (place.Whole max) frames frames_now out out_now next
list_opens ops names f max frames frames_now out out_now next cell put =
    opens_from_put ops names f 2 (place.Whole max) _ _ _ frames frames_now out out_now next
    (let e = takes-push frames frame.Rest in omega (arith, e))
    (λ after ps qs two. list_text_opens ops names f (text_of_name names f) max frames after cell ps qs two)
    put

further_text_opens : (ops : Table) (names : List (List ℕ)) (f : NameId) (name : List ℕ) (frames : List PendingFrame) (after : List Part → List ℕ) → is_same_name f CELL ≡ true →
    (ps qs : List Part) → length ps ≡ 2 →
    rest_after ops f name ps ++ resume ops names frames after qs
    ≡ codes "," ++ next_in ops names (place.Whole 999) (resume ops names (frames ++ frame.Rest ∷ []) after) (ps ++ qs)
further_text_opens ops names f name frames after cell [] qs two = absurd (omega (arith, two))
further_text_opens ops names f name frames after cell (p ∷ []) qs two = absurd (omega (arith, two))
further_text_opens ops names f name frames after cell (p ∷ q ∷ []) qs two =
    ap (λ (b : Bool). (if b then codes "," ++ list_text p q else codes "|" ++ arranged ops f name 999 (p ∷ q ∷ []) ++ codes "]") ++ resume ops names frames after qs) cell
    ∙ ap (λ (x : List ℕ). 44 ∷ x) (append_assoc (p.text 999) q.rest (resume ops names frames after qs))
    ∙ ap (λ (g : List Part → List ℕ). 44 ∷ (p.text 999 ++ g (q ∷ qs))) (sym (resume-push ops names frames frame.Rest after))
further_text_opens ops names f name frames after cell (p ∷ q ∷ r ∷ ps) qs two = absurd (omega (arith, two))

pub further_opens : (ops : Table) (names : List (List ℕ)) (f : NameId) (frames frames_now : List PendingFrame) (out out_now : List ℕ) (next : TermPlace) →
    is_same_name f CELL ≡ true →
    Puts (codes ",") (frame.Rest ∷ []) (place.Whole 999) frames frames_now out out_now next →
    Opens ops names f 2 place.Rest frames frames_now out out_now next
further_opens ops names f frames frames_now out out_now next cell put =
    opens_from_put ops names f 2 place.Rest _ _ _ frames frames_now out out_now next
    (let e = takes-push frames frame.Rest in omega (arith, e))
    (λ after ps qs two. further_text_opens ops names f (text_of_name names f) frames after cell ps qs two)
    put

curly_text_opens : (ops : Table) (names : List (List ℕ)) (f : NameId) (name : List ℕ) (max : ℕ) (frames : List PendingFrame) (after : List Part → List ℕ) → prefix_in ops f.0 ≡ None → is_same_name f CURLY ≡ true →
    (ps qs : List Part) → length ps ≡ 1 →
    arranged ops f name max ps ++ resume ops names frames after qs
    ≡ codes "{" ++ next_in ops names (place.Whole 1200) (resume ops names (frames ++ frame.CurlyEnd ∷ []) after) (ps ++ qs)
curly_text_opens ops names f name max frames after no_prefix curly [] qs one = absurd (omega (arith, one))
curly_text_opens ops names f name max frames after no_prefix curly (p ∷ []) qs one =
    ap (λ (m : Option Meaning). one_text ops m f name max p ++ resume ops names frames after qs) no_prefix
    ∙ ap (λ (b : Bool). (if b then codes "{" ++ p.text 1200 ++ codes "}" else function name (p ∷ [])) ++ resume ops names frames after qs) curly
    ∙ ap (λ (x : List ℕ). 123 ∷ x) (append_assoc (p.text 1200) (125 ∷ []) (resume ops names frames after qs))
    ∙ ap (λ (g : List Part → List ℕ). 123 ∷ (p.text 1200 ++ g qs)) (sym (resume-push ops names frames frame.CurlyEnd after))
curly_text_opens ops names f name max frames after no_prefix curly (p ∷ q ∷ ps) qs one = absurd (omega (arith, one))

pub curly_opens : (ops : Table) (names : List (List ℕ)) (f : NameId) (max : ℕ) (frames frames_now : List PendingFrame) (out out_now : List ℕ) (next : TermPlace) →
    prefix_in ops f.0 ≡ None → is_same_name f CURLY ≡ true →
    Puts (codes "{") (frame.CurlyEnd ∷ []) (place.Whole 1200) frames frames_now out out_now next →
    Opens ops names f 1 (place.Whole max) frames frames_now out out_now next
curly_opens ops names f max frames frames_now out out_now next no_prefix curly put =
    opens_from_put ops names f 1 (place.Whole max) _ _ _ frames frames_now out out_now next
    (let e = takes-push frames frame.CurlyEnd in omega (arith, e))
    (λ after ps qs one. curly_text_opens ops names f (text_of_name names f) max frames after no_prefix curly ps qs one)
    put

-- a compound as a list's tail
rest_after_tail : (ops : Table) (f : NameId) (name : List ℕ) (ps : List Part) → 0 < length ps → (length ps ≡ 2 → is_same_name f CELL ≡ false) →
    rest_after ops f name ps ≡ codes "|" ++ arranged ops f name 999 ps ++ codes "]"
rest_after_tail ops f name [] some no_cell = absurd (omega (arith, some))
rest_after_tail ops f name (p ∷ []) some no_cell = refl
rest_after_tail ops f name (p ∷ q ∷ []) some no_cell =
    ap (λ (b : Bool). if b then codes "," ++ list_text p q else codes "|" ++ arranged ops f name 999 (p ∷ q ∷ []) ++ codes "]") (no_cell refl)
rest_after_tail ops f name (p ∷ q ∷ r ∷ ps) some no_cell = refl

pub tail_opens : (ops : Table) (names : List (List ℕ)) (f : NameId) (count : ℕ) (frames inner frames_now : List PendingFrame) (out between_out out_now : List ℕ) (next : TermPlace) →
    0 < count → (count ≡ 2 → is_same_name f CELL ≡ false) →
    inner ≡ frames ++ frame.ListEnd ∷ [] → between_out ≡ out ++ codes "|" →
    Opens ops names f count (place.Whole 999) inner frames_now between_out out_now next → Opens ops names f count place.Rest frames frames_now out out_now next
tail_opens ops names f count frames inner frames_now out between_out out_now next some no_cell pushed added opens = record {
  marks = 124 ∷ opens.marks;
  adds = opens.adds ∙ ap (λ (o : List ℕ). o ++ opens.marks) added ∙ append_assoc out (124 ∷ []) opens.marks;
  takes =
      let e = takes-push frames frame.ListEnd in
      let s : takes_in_all inner ≡ takes_in_all (frames ++ frame.ListEnd ∷ []) = ap takes_in_all pushed in
      let t = opens.takes in
      omega (arith, e, s, t);
  text = λ after ps qs long.
      let name : List ℕ = text_of_name names f in
      let here : List ℕ = arranged ops f name 999 ps in
      ap (λ (x : List ℕ). x ++ resume ops names frames after qs) (rest_after_tail ops f name ps (omega (arith, some, long)) (λ two. no_cell (omega (arith, two, long))))
      ∙ ap (λ (x : List ℕ). 124 ∷ x) (append_assoc here (93 ∷ []) (resume ops names frames after qs)
      ∙ ap (λ (g : List Part → List ℕ). here ++ g qs) (sym (resume-push ops names frames frame.ListEnd after))
      ∙ ap (λ (fs : List PendingFrame). here ++ resume ops names fs after qs) (sym pushed)
      ∙ opens.text after ps qs long);
}
