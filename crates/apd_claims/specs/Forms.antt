-- What a line is by how it begins and by the numbers in it, before its terms are read. A number too many, a space or a quote is seen
-- when what was read is written again.
use Rattle.std.specs.Prelude.{ℕ, ◌&&◌, ◌++◌, nat_le, codes, Bool, true, false, if◌then◌else◌, List, Option, None, Some}
use Rattle.std.specs.Str.{bytes_eq}
use Rattle.apd_base.specs.declared.limits.TheConstants.{MOST_SHOWN}
use Rattle.apd_causes.specs.declared.run.Ran.{Ran}
use Rattle.apd_causes.specs.declared.run.RunEnd.{RunEnd}
use Rattle.apd_causes.specs.declared.run.RunEnd.TheVariants.{Exhausted, Budget, AnswerLimit, Error}
use Rattle.apd_causes.specs.declared.run.RunError.{RunError}
use Rattle.apd_causes.specs.declared.run.RunError.TheVariants.{Unbound, NotEvaluable, Overflow, ZeroDivisor, Size}
use Rattle.apd_text.specs.Lines.{end_text}
use Rattle.apd_claims.specs.declared.form.NumberedQuestion.{NumberedQuestion}
use Rattle.apd_claims.specs.declared.form.LineFrame.TheVariants.{Truth, Cover, Order, Reply, Instance, Uncovered}
use Rattle.apd_claims.specs.declared.form.LineForm.{LineForm}
use Rattle.apd_claims.specs.declared.form.LineForm.TheVariants.{Query, End, Symptom, Framed, Call, Candidates, Candidate, Descent, Other, Unread}
use Rattle.apd_parts.specs.Parts.{Counted, Led, Parts, after, before, counted, cut, cut_last, if_some, led_by, number_64}

-- the line and its newline
abbrev pub with_newline : List ℕ → List ℕ
with_newline line = line ++ codes "\n"

-- Ends.

-- the ports and the answers that are shown are few, and the last answer that is allowed was shown
abbrev pub is_shown : RunEnd → ℕ → ℕ → Bool
is_shown AnswerLimit ports answers = nat_le 1 ports && (nat_le ports MOST_SHOWN && (nat_le 1 answers && nat_le answers MOST_SHOWN))
is_shown Exhausted ports answers = nat_le 1 ports && (nat_le ports MOST_SHOWN && nat_le answers MOST_SHOWN)
is_shown Budget ports answers = nat_le 1 ports && (nat_le ports MOST_SHOWN && nat_le answers MOST_SHOWN)
is_shown (Error e b) ports answers = nat_le 1 ports && (nat_le ports MOST_SHOWN && nat_le answers MOST_SHOWN)

abbrev pub shown : RunEnd → ℕ → ℕ → Option Ran
shown end ports answers = if is_shown end ports answers then Some (record { end = end; ports = ports; answers = answers }) else None

-- `N ports, M answers` behind the end
abbrev pub answers_in : RunEnd → Led → Option Ran
answers_in end a = if_some (led_by (codes " answers") a.rest) (λ b. shown end a.number b.number) None

abbrev pub counts_in : RunEnd → List ℕ → Option Ran
counts_in end text = if_some (led_by (codes " ports, ") text) (answers_in end) None

-- `B, N ports, M answers` behind the error
abbrev pub boxed_in : RunError → List ℕ → Option Ran
boxed_in e text = if_some (led_by (codes ", ") text) (λ a. counts_in (Error e a.number) a.rest) None

abbrev pub failed_in : List ℕ → Option Ran
failed_in text =
    if_some (after (codes "error Unbound in box ") text) (boxed_in Unbound)
    (if_some (after (codes "error NotEvaluable in box ") text) (boxed_in NotEvaluable)
    (if_some (after (codes "error Overflow in box ") text) (boxed_in Overflow)
    (if_some (after (codes "error ZeroDivisor in box ") text) (boxed_in ZeroDivisor)
    (if_some (after (codes "error Size in box ") text) (boxed_in Size)
    None))))

abbrev pub ran_in : List ℕ → Option Ran
ran_in text =
    if_some (after (codes "exhausted, ") text) (counts_in Exhausted)
    (if_some (after (codes "budget, ") text) (counts_in Budget)
    (if_some (after (codes "answer limit, ") text) (counts_in AnswerLimit)
    (failed_in text)))

-- the end that was read, if the line is its text
abbrev pub if_end : List ℕ → Ran → LineForm
if_end line ran = if bytes_eq (end_text ran) (with_newline line) then End ran else Unread

abbrev pub end_form : List ℕ → List ℕ → LineForm
end_form line text = if_some (ran_in text) (if_end line) Unread

-- Questions and replies.

-- `true? A`, `covers? C` or `below? Q, P`, of which the last two terms are read as two arguments
abbrev pub kind_form : NumberedQuestion → List ℕ → LineForm
kind_form place text =
    if_some (after (codes "true? ") text) (Framed (Truth place))
    (if_some (after (codes "covers? ") text) (Framed (Cover place))
    (if_some (after (codes "below? ") text) (λ pair. Framed (Order place) (codes "below(" ++ pair ++ codes ")"))
    Unread))

abbrev pub counted_form : ℕ → Counted → LineForm
counted_form number c = kind_form (record { number = number; suspects = c.number }) c.text

abbrev pub asked_form : Parts → LineForm
asked_form p = if_some (number_64 p.0) (λ number. counted_form number (counted (codes " suspects]") p.1)) Unread

abbrev pub question_form : List ℕ → LineForm
question_form text = if_some (cut (codes ": ") text) asked_form Unread

abbrev pub framed_reply : Bool → Counted → LineForm
framed_reply by_reference c = Framed (Reply c.number by_reference) c.text

-- behind a reply that the reference program gave stands ` (reference)`
abbrev pub reply_form : List ℕ → LineForm
reply_form text =
    if_some (before (codes " (reference)") text) (λ t. framed_reply true (counted (codes " left]") t)) (framed_reply false (counted (codes " left]") text))

-- Findings.

-- `C, line L: CLAUSE`
abbrev pub placed_form : ℕ → Led → LineForm
placed_form clause b = Framed (Instance clause b.number) b.rest

abbrev pub instance_form : List ℕ → LineForm
instance_form text = if_some (led_by (codes ", line ") text) (λ a. if_some (led_by (codes ": ") a.rest) (placed_form a.number) Unread) Unread

-- `A)` behind `Q (box B) called by P`
abbrev pub caller_form : ℕ → ℕ → ℕ → Parts → LineForm
caller_form clause line goal p =
    if_some (led_by (codes ")") p.1) (λ a. Call (record { clause = clause; line = line; goal = goal; caller = a.number }) p.0) Unread

-- `G: Q (box B) called by P (box A)`
abbrev pub goal_form : ℕ → ℕ → Led → LineForm
goal_form clause line g =
    if nat_le g.number 255 then if_some (cut_last (codes " (box ") g.rest) (caller_form clause line g.number) Unread else Unread

-- `L, goal G: ..`
abbrev pub call_line_form : ℕ → Led → LineForm
call_line_form clause b = if_some (led_by (codes ": ") b.rest) (goal_form clause b.number) Unread

-- `C, line L, goal G: ..`
abbrev pub call_form : List ℕ → LineForm
call_form text = if_some (led_by (codes ", line ") text) (λ a. if_some (led_by (codes ", goal ") a.rest) (call_line_form a.number) Unread) Unread

abbrev pub bug_form : List ℕ → LineForm
bug_form text =
    if_some (after (codes "wrong instance of clause ") text) instance_form
    (if_some (after (codes "uncovered goal: ") text) (Framed Uncovered)
    (if_some (after (codes "call not below its caller: clause ") text) call_form
    Unread))

-- `all N calls descend`
abbrev pub descent_form : List ℕ → LineForm
descent_form text = if_some (after (codes "all ") text) (λ t. if_some (led_by (codes " calls") t) (λ a. Descent a.number) Unread) Unread

-- Lines.

abbrev pub found_form : List ℕ → LineForm
found_form line =
    if_some (after (codes "bug: ") line) bug_form
    (if_some (after (codes "candidates: ") line) (λ _. Candidates)
    (if_some (after (codes "candidate: ") line) (λ _. Candidate)
    (if_some (after (codes "no bug: ") line) descent_form
    Other)))

abbrev pub talked_form : List ℕ → LineForm
talked_form line =
    if_some (after (codes "question ") line) question_form
    (if_some (after (codes "reply: ") line) reply_form
    (found_form line))

abbrev pub told_form : List ℕ → LineForm
told_form line =
    if_some (after (codes "symptom: not true: ") line) (Symptom false)
    (if_some (after (codes "symptom: true: ") line) (Symptom true)
    (talked_form line))

-- what a line is
unfoldable pub form_in : List ℕ → LineForm
form_in line =
    if_some (after (codes "run: ") line) Query
    (if_some (after (codes "end: ") line) (end_form line)
    (told_form line))
