use Rattle.std.proofs.Common.{◌≡◌, ◌∙◌, ℕ, List, ◌++◌, ap, sym}
use Rattle.apd_answers.specs.declared.finding.Finding.{Finding}
use Rattle.apd_text.specs.Dialogues.{finding_text}
use Rattle.apd_text.proofs.finding.found.Goals as goal

five : (a b c d e v w x y z : List ℕ) → v ≡ a → w ≡ v ++ b → x ≡ w ++ c → y ≡ x ++ d → z ≡ y ++ e → z ≡ a ++ b ++ c ++ d ++ e
five a b c d e v w x y z first second third fourth fifth =
    fifth ∙ ap (λ (s : List ℕ). s ++ e) (fourth ∙ ap (λ (s : List ℕ). s ++ d) (third ∙ ap (λ (s : List ℕ). s ++ c) (second ∙ ap (λ (s : List ℕ). s ++ b) first)))

pub returns-in_ok-extend-in-Violation-2 : goal.returns-in_ok-extend-in-Violation-2
unfolding finding_text
returns-in_ok-extend-in-Violation-2 c =
    five _ _ _ _ _ _ _ _ _ _ c.in_ok-text-in-Violation.ensures c.in_ok-add_call-in-Violation.ensures c.in_ok-extend-in-Violation.ensures.ok c.in_ok-add_call-in-Violation-2.ensures c.in_ok-extend-in-Violation-2.ensures.ok
    ∙ ap (λ (f : Finding). finding_text c.args.ops.now c.args.names.now f c.args.line) (sym c.in-Violation.is)
