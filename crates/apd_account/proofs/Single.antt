-- After a log one turn is due, and no reply is told twice.
use Rattle.std.proofs.Common.{◌≡◌, ℕ, Bool, List, Option, sym, ◌∙◌, ap}
use Rattle.apd_clauses.specs.declared.clause.Clause.{Clause}
use Rattle.apd_clauses.specs.Clauses.{tuples_of}
use Rattle.apd_answers.specs.Dialogue.{Turn, asks, ends}
use Rattle.apd_answers.specs.Interpretation.{Interpretation}
use Rattle.apd_answers.specs.declared.finding.Finding.{Finding}
use Rattle.apd_answers.specs.declared.question.Asked.{Asked}
use Rattle.apd_answers.specs.declared.question.Reply.{Reply}
use Rattle.apd_divide.specs.declared.node.Strategy.{Strategy}
use Rattle.apd_loop.specs.declared.LoopEnd.{LoopEnd}
use Rattle.apd_loop.specs.declared.LoopEnd.TheVariants as loop_ends
use Rattle.apd_account.specs.Account.{Account, Stage, Moves, Awaits, with_reply}
use Rattle.apd_account.specs.Inquiry.{Inquiry, next_in}
use Rattle.apd_account.specs.Right.{IsAnswer, IsDue, IsFound, IsQuestion}

same_inquiry : (x y : Inquiry) → Moves x ≡ Moves y → x ≡ y
same_inquiry x y e = cc

abbrev asking : Asked → (Reply → Inquiry) → Turn Inquiry LoopEnd
asking x f = asks x f

abbrev ending : LoopEnd → Turn Inquiry LoopEnd
ending e = ends e

same_asked : (x y : Asked) (f g : Reply → Inquiry) → asking x f ≡ asking y g → x ≡ y
same_asked x y f g e = cc

same_found : (x y : Finding) → ending (loop_ends.Found x) ≡ ending (loop_ends.Found y) → x ≡ y
same_found x y e = cc

asks_no_end : (x : Asked) (f : Reply → Inquiry) (e : LoopEnd) → asking x f ≡ ending e → ⊥
asks_no_end x f e is = cc

moves_no_wait : (q : Inquiry) (x : Asked) (f : Reply → Inquiry) → Moves q ≡ Awaits x f → ⊥
moves_no_wait q x f is = cc

module _ (program : List Clause) (strategy : Strategy) (a : Account) where
  same_due : (t u : Turn Inquiry LoopEnd) → IsDue program strategy a t → IsDue program strategy a u → t ≡ u
  same_due t u d e =
      let q = same_inquiry d.inquiry e.inquiry (sym d.stage ∙ e.stage) in
      sym d.next ∙ ap (next_in (tuples_of program) strategy a.history a.store) q ∙ e.next

  pub one-question : (x y : Asked) → IsQuestion program strategy a x → IsQuestion program strategy a y → x ≡ y
  one-question x y p q = same_asked x y p.next q.next (same_due (asks x p.next) (asks y q.next) p.due q.due)

  pub one-finding : (m : Interpretation) (f g : Finding) → IsFound program strategy m a f → IsFound program strategy m a g → f ≡ g
  one-finding m f g p q = same_found f g (same_due (ends (loop_ends.Found f)) (ends (loop_ends.Found g)) p.due q.due)

  pub no-both : (m : Interpretation) (x : Asked) (f : Finding) → IsQuestion program strategy a x → IsFound program strategy m a f → ⊥
  no-both m x f p q = asks_no_end x p.next (loop_ends.Found f) (same_due (asks x p.next) (ends (loop_ends.Found f)) p.due q.due)

pub no-second : (strategy : Strategy) (a : Account) (r s : Reply) (l k : Option ℕ) (b c : Bool) → IsAnswer strategy a r l b → IsAnswer strategy (with_reply a a.stage r) s k c → ⊥
no-second strategy a r s l k b c p q =
    moves_no_wait (p.next r) q.asked q.next (sym (ap (λ (t : Stage). (with_reply a t r).stage) p.waits) ∙ q.waits)
