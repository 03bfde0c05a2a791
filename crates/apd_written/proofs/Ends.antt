-- The last line of a run says how it ended.
use Rattle.std.proofs.Common.{◌≡◌, ℕ, ◌<◌, ◌≤◌, List, [], ◌∷◌, ◌++◌, refl, sym, ◌∙◌, ap, append_assoc, arith, Bool, true, Some, None}
use Rattle.std.specs.Prelude.{if◌then◌else◌, ◌&&◌, codes, nat_le}
use Rattle.std.specs.Fmt.{decimal}
use Rattle.std.specs.Str.{bytes_eq}
use Rattle.std.proofs.lemmas.Bool.Decides.{nat_tests}
use Rattle.std.proofs.lemmas.Bool.{and_parts}
use Rattle.apd_base.specs.declared.limits.TheConstants.{MOST_SHOWN}
use Rattle.apd_causes.specs.declared.run.Ran.{Ran}
use Rattle.apd_causes.specs.declared.run.RunEnd.{RunEnd}
use Rattle.apd_causes.specs.declared.run.RunEnd.TheVariants.{Exhausted, Budget, AnswerLimit, Error}
use Rattle.apd_causes.specs.declared.run.RunError.{RunError}
use Rattle.apd_causes.specs.declared.run.RunError.TheVariants.{Unbound, NotEvaluable, Overflow, ZeroDivisor, Size}
use Rattle.apd_ops.specs.Table.{Table}
use Rattle.apd_read.specs.Reader.{Reader}
use Rattle.apd_text.specs.Lines.{error_name, end_of, end_text}
use Rattle.apd_claims.specs.declared.claim.Claim.TheVariants.{Ends}
use Rattle.apd_claims.specs.declared.form.LineForm.TheVariants.{End, Unread}
use Rattle.apd_claims.specs.Forms.{is_shown, shown, answers_in, counts_in, boxed_in, ran_in, if_end, form_in}
use Rattle.apd_parts.specs.Parts.{Led, if_some}
use Rattle.apd_claims.specs.Sayable.{IsShown}
use Rattle.apd_claims.specs.Saying.{claim_by}
use Rattle.apd_written.specs.Says.{HasNoBreak, IsSaid}
use Rattle.apd_written.specs.Texts.{IsFewBoxes}
use Rattle.apd_written.proofs.Saying.{break-append}
use Rattle.apd_written.proofs.Breaks.{decimal-break, codes-break}
use Rattle.apd_written.proofs.Parts.{same_bytes, led-low}

-- what is shown is few
few_shown : (n : ℕ) → nat_le n MOST_SHOWN ≡ true → n ≤ 1000000
few_shown n e = grind (arith, nat_tests, e)

record IsFewShown (ports answers : ℕ) : Type 0 where
  few_ports : ports ≤ 1000000
  few_answers : answers ≤ 1000000

plain_few : (ports answers : ℕ) → (nat_le 1 ports && (nat_le ports MOST_SHOWN && nat_le answers MOST_SHOWN)) ≡ true → IsFewShown ports answers
plain_few n m h =
    let x = and_parts (nat_le 1 n) (nat_le n MOST_SHOWN && nat_le m MOST_SHOWN) h in
    let y = and_parts (nat_le n MOST_SHOWN) (nat_le m MOST_SHOWN) x.1 in
    record { few_ports = few_shown n y.0; few_answers = few_shown m y.1 }

few : (e : RunEnd) (n m : ℕ) → is_shown e n m ≡ true → IsFewShown n m
few Exhausted n m h = plain_few n m h
few Budget n m h = plain_few n m h
few (Error e b) n m h = plain_few n m h
few AnswerLimit n m h =
    let x = and_parts (nat_le 1 n) (nat_le n MOST_SHOWN && (nat_le 1 m && nat_le m MOST_SHOWN)) h in
    let y = and_parts (nat_le n MOST_SHOWN) (nat_le 1 m && nat_le m MOST_SHOWN) x.1 in
    let z = and_parts (nat_le 1 m) (nat_le m MOST_SHOWN) y.1 in
    record { few_ports = few_shown n y.0; few_answers = few_shown m z.1 }

-- `N ports, M answers`
abbrev counts_text : ℕ → ℕ → List ℕ
counts_text ports answers = decimal ports ++ (codes " ports, " ++ (decimal answers ++ codes " answers"))

counts-back : (e : RunEnd) (ports answers : ℕ) → is_shown e ports answers ≡ true
    → counts_in e (counts_text ports answers) ≡ Some (record { end = e; ports = ports; answers = answers })
counts-back e ports answers h =
    let f = few e ports answers h in
    ap (λ o. if_some o (answers_in e) None) (led-low 32 (codes "ports, ") ports (decimal answers ++ codes " answers") (omega (arith, f.few_ports)) (omega arith))
    ∙ ap (λ o. if_some o (λ (b : Led). shown e ports b.number) None) (led-low 32 (codes "answers") answers [] (omega (arith, f.few_answers)) (omega arith))
    ∙ ap (λ (c : Bool). if c then Some (record { end = e; ports = ports; answers = answers }) else None) h

-- the end's text, without `end: `
abbrev end_rest : Ran → List ℕ
end_rest ran = end_of ran.end ++ (44 ∷ 32 ∷ counts_text ran.ports ran.answers)

boxed-back : (e : RunError) (b ports answers : ℕ) → b < 4294967296 → is_shown (Error e b) ports answers ≡ true
    → boxed_in e (decimal b ++ (44 ∷ 32 ∷ counts_text ports answers)) ≡ Some (record { end = Error e b; ports = ports; answers = answers })
boxed-back e b ports answers l h =
    ap (λ o. if_some o (λ (a : Led). counts_in (Error e a.number) a.rest) None) (led-low 44 (codes " ") b (counts_text ports answers) l (omega arith))
    ∙ counts-back (Error e b) ports answers h

ran-back : (e : RunEnd) (ports answers : ℕ) → is_shown e ports answers ≡ true → IsFewBoxes e
    → ran_in (end_rest (record { end = e; ports = ports; answers = answers })) ≡ Some (record { end = e; ports = ports; answers = answers })
ran-back Exhausted ports answers h l = counts-back Exhausted ports answers h
ran-back Budget ports answers h l = counts-back Budget ports answers h
ran-back AnswerLimit ports answers h l = counts-back AnswerLimit ports answers h
ran-back (Error Unbound b) ports answers h l =
    ap ran_in (append_assoc (codes "error Unbound in box ") (decimal b) (44 ∷ 32 ∷ counts_text ports answers)) ∙ boxed-back Unbound b ports answers l h
ran-back (Error NotEvaluable b) ports answers h l =
    ap ran_in (append_assoc (codes "error NotEvaluable in box ") (decimal b) (44 ∷ 32 ∷ counts_text ports answers)) ∙ boxed-back NotEvaluable b ports answers l h
ran-back (Error Overflow b) ports answers h l =
    ap ran_in (append_assoc (codes "error Overflow in box ") (decimal b) (44 ∷ 32 ∷ counts_text ports answers)) ∙ boxed-back Overflow b ports answers l h
ran-back (Error ZeroDivisor b) ports answers h l =
    ap ran_in (append_assoc (codes "error ZeroDivisor in box ") (decimal b) (44 ∷ 32 ∷ counts_text ports answers)) ∙ boxed-back ZeroDivisor b ports answers l h
ran-back (Error Size b) ports answers h l =
    ap ran_in (append_assoc (codes "error Size in box ") (decimal b) (44 ∷ 32 ∷ counts_text ports answers)) ∙ boxed-back Size b ports answers l h

-- the line, without its end
abbrev pub end_line : Ran → List ℕ
end_line ran = codes "end: " ++ end_rest ran

pub end_text-is : (ran : Ran) → end_text ran ≡ end_line ran ++ 10 ∷ []
unfolding end_text
end_text-is ran =
    let e = end_of ran.end in
    let n = decimal ran.ports in
    let m = decimal ran.answers in
    append_assoc (((codes "end: " ++ e) ++ codes ", ") ++ n ++ codes " ports, ") m (codes " answers\n")
    ∙ append_assoc (((codes "end: " ++ e) ++ codes ", ") ++ n) (codes " ports, ") (m ++ codes " answers\n")
    ∙ append_assoc ((codes "end: " ++ e) ++ codes ", ") n (codes " ports, " ++ (m ++ codes " answers\n"))
    ∙ append_assoc (codes "end: " ++ e) (codes ", ") (n ++ (codes " ports, " ++ (m ++ codes " answers\n")))
    ∙ ap (λ t. (codes "end: " ++ e) ++ (44 ∷ 32 ∷ (n ++ (codes " ports, " ++ t)))) (sym (append_assoc m (codes " answers") (10 ∷ [])))
    ∙ ap (λ t. (codes "end: " ++ e) ++ (44 ∷ 32 ∷ (n ++ t))) (sym (append_assoc (codes " ports, ") (m ++ codes " answers") (10 ∷ [])))
    ∙ ap (λ t. (codes "end: " ++ e) ++ (44 ∷ 32 ∷ t)) (sym (append_assoc n (codes " ports, " ++ (m ++ codes " answers")) (10 ∷ [])))
    ∙ sym (append_assoc (codes "end: " ++ e) (44 ∷ 32 ∷ (n ++ (codes " ports, " ++ (m ++ codes " answers")))) (10 ∷ []))

counts-break : (n m : ℕ) → n ≤ 1000000 → m ≤ 1000000 → HasNoBreak (counts_text n m)
counts-break n m l k =
    break-append (decimal n) (codes " ports, " ++ (decimal m ++ codes " answers")) (decimal-break n)
    (break-append (codes " ports, ") (decimal m ++ codes " answers") (codes-break (codes " ports, ") refl) (break-append (decimal m) (codes " answers") (decimal-break m) (codes-break (codes " answers") refl)))

error_front : RunError → List ℕ
error_front e = codes "error " ++ error_name e ++ codes " in box "

end_of-break : (e : RunEnd) → IsFewBoxes e → HasNoBreak (end_of e)
unfolding error_front
end_of-break Exhausted h = codes-break (codes "exhausted") refl
end_of-break Budget h = codes-break (codes "budget") refl
end_of-break AnswerLimit h = codes-break (codes "answer limit") refl
end_of-break (Error e b) h = break-append (error_front e) (decimal b) (front e) (decimal-break b)
  where
    front : (k : RunError) → HasNoBreak (error_front k)
    front Unbound = codes-break (codes "error Unbound in box ") refl
    front NotEvaluable = codes-break (codes "error NotEvaluable in box ") refl
    front Overflow = codes-break (codes "error Overflow in box ") refl
    front ZeroDivisor = codes-break (codes "error ZeroDivisor in box ") refl
    front Size = codes-break (codes "error Size in box ") refl

end-break : (ran : Ran) → IsShown ran → IsFewBoxes ran.end → HasNoBreak (end_line ran)
end-break ran h l =
    let f = few ran.end ran.ports ran.answers h in
    break-append (codes "end: ") (end_rest ran) (codes-break (codes "end: ") refl)
    (break-append (end_of ran.end) (44 ∷ 32 ∷ counts_text ran.ports ran.answers) (end_of-break ran.end l) (refl, (refl, counts-break ran.ports ran.answers f.few_ports f.few_answers)))

end-form : (ran : Ran) → IsShown ran → IsFewBoxes ran.end → form_in (end_line ran) ≡ End ran
unfolding form_in
end-form ran h l =
    ap (λ o. if_some o (if_end (end_line ran)) Unread) (ran-back ran.end ran.ports ran.answers h l)
    ∙ ap (λ (c : Bool). if c then End ran else Unread) (ap (λ t. bytes_eq t (end_line ran ++ 10 ∷ [])) (end_text-is ran) ∙ same_bytes (end_line ran ++ 10 ∷ []))

pub end-said : {names : List (List ℕ)} (reader : Reader names) (ops : Table) (ran : Ran) → IsShown ran → IsFewBoxes ran.end → IsSaid reader ops (end_line ran) (Ends ran)
end-said reader ops ran h l = record {
  whole = end-break ran h l;
  alone = refl;
  says = λ in_group lines. ap (claim_by reader ops in_group (end_line ran) lines) (end-form ran h l);
}
