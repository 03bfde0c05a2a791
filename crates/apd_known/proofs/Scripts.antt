-- What a script replies.
use Rattle.std.proofs.Common.{◌≡◌, ◌==◌, ◌&&◌, ℕ, ◌+◌, ◌<◌, zero, suc, Bool, true, false, List, [], ◌∷◌, length, drop, Option, Some, None, refl, sym, ap, subst, ◌∙◌, arith}
use Rattle.std.specs.Prelude.{if◌then◌else◌, IfSome, IsSome}
use Rattle.std.specs.List.{list_all, slice_get}
use Rattle.std.proofs.lemmas.Bool.{eqb-true, and_parts}
use Rattle.apd_term.specs.Term.{Term}
use Rattle.apd_term.specs.declared.tuple.Tuple.{Tuple}
use Rattle.apd_answers.specs.Questions.{Fits, FitsAsked, FitsBody, canonical_question, unknowns, with_values}
use Rattle.apd_answers.specs.Store.{same_question}
use Rattle.apd_answers.specs.declared.question.Asked.{Asked}
use Rattle.apd_answers.specs.declared.question.Question.{Question}
use Rattle.apd_answers.specs.declared.question.Question.TheVariants.{True, Covers, Below}
use Rattle.apd_answers.specs.declared.question.Reply.{Reply}
use Rattle.apd_answers.specs.declared.question.Reply.TheVariants.{Yes, No, Values, Unknown}
use Rattle.apd_answers.specs.declared.store.Pair.{Pair}
use Rattle.apd_known.specs.Scripts.{fits, fits_asked, fits_body, scripted_reply}
use Rattle.apd_arith.specs.Truths.{is_ground}
use Rattle.apd_known.specs.Truths.{is_true_if_builtin}
use Rattle.apd_arith.proofs.Tests.{all_ground}
use Rattle.apd_known.proofs.Truths.{all_pass}

pub body_fits : (t : Tuple) (vs : List Term) → fits_body t vs ≡ true → FitsBody t vs
body_fits t vs e =
    let first = and_parts (list_all is_ground vs) ((length vs == length (unknowns t)) && list_all is_true_if_builtin (with_values t vs)) e in
    let second = and_parts (length vs == length (unknowns t)) (list_all is_true_if_builtin (with_values t vs)) first.1 in
    record { ground = all_ground vs first.0; count = eqb-true (length vs) (length (unknowns t)) second.0; builtins = all_pass (with_values t vs) second.1 }

-- a reply that passes the test fits
fits_of : (q : Question) (o : Option ℕ) (r : Reply) → fits q o r ≡ true → Fits q r × (r ≡ Unknown → IsSome o)
fits_of (True a) o Yes e = (tt, λ u. absurd (cc))
fits_of (True a) o No e = (tt, λ u. absurd (cc))
fits_of (True a) o (Values vs) e = absurd (cc)
fits_of (True a) None Unknown e = absurd (cc)
fits_of (True a) (Some n) Unknown e = (tt, λ u. refl)
fits_of (Covers t) o Yes e = absurd (cc)
fits_of (Covers t) o No e = (tt, λ u. absurd (cc))
fits_of (Covers t) o (Values vs) e = (body_fits t vs e, λ u. absurd (cc))
fits_of (Covers t) o Unknown e = absurd (cc)
fits_of (Below q p) o Yes e = (tt, λ u. absurd (cc))
fits_of (Below q p) o No e = (tt, λ u. absurd (cc))
fits_of (Below q p) o (Values vs) e = absurd (cc)
fits_of (Below q p) o Unknown e = absurd (cc)

reply_fits : (asked : Asked) (r : Reply) → fits_asked asked r ≡ true → FitsAsked asked r
reply_fits asked r e = fits_of asked.question asked.suspects r e

-- what is scripted fits
pub scripted_fits : (pairs : List Pair) (asked : Asked) (r : Reply) → scripted_reply pairs asked ≡ Some r → FitsAsked asked r
scripted_fits [] asked r e = absurd (cc)
scripted_fits (p ∷ pairs) asked r e = by_pair (same_question (canonical_question p.question) (canonical_question asked.question) && fits_asked asked p.reply) refl e (scripted_fits pairs asked r)
  where
    by_pair : (b : Bool) → (same_question (canonical_question p.question) (canonical_question asked.question) && fits_asked asked p.reply) ≡ b → (if b then Some p.reply else scripted_reply pairs asked) ≡ Some r
        → (scripted_reply pairs asked ≡ Some r → FitsAsked asked r) → FitsAsked asked r
    by_pair true so is rest =
        let two = and_parts (same_question (canonical_question p.question) (canonical_question asked.question)) (fits_asked asked p.reply) so in
        let same : p.reply ≡ r = cc in
        subst (FitsAsked asked) same (reply_fits asked p.reply two.1)
    by_pair false so is rest = rest is

-- one pair more: it has this question and this reply
pub scripted_step : (ms : List Pair) (i : ℕ) (asked : Asked) (own : Question) (r : Reply) (b : Bool) → i < length ms → IfSome (slice_get ms i) (λ (p : Pair). own ≡ p.question) → IfSome (slice_get ms i) (λ (p : Pair). r ≡ p.reply)
    → (same_question (canonical_question own) (canonical_question asked.question) && fits_asked asked r) ≡ b → scripted_reply (drop i ms) asked ≡ (if b then Some r else scripted_reply (drop (i + 1) ms) asked)
scripted_step [] i asked own r b lt e f t = absurd (omega (arith, lt))
scripted_step (p ∷ ms) zero asked own r b lt e f t =
    let own_test : (same_question (canonical_question p.question) (canonical_question asked.question) && fits_asked asked p.reply) ≡ b = ap (λ x. same_question (canonical_question x) (canonical_question asked.question) && fits_asked asked p.reply) (sym e) ∙ ap (λ x. same_question (canonical_question own) (canonical_question asked.question) && fits_asked asked x) (sym f) ∙ t in
    ap (λ x. if x then Some p.reply else scripted_reply ms asked) own_test ∙ ap (λ x. if b then Some x else scripted_reply ms asked) (sym f)
scripted_step (p ∷ ms) (suc i) asked own r b lt e f t =
    let next : suc (i + 1) ≡ suc i + 1 = omega arith in
    scripted_step ms i asked own r b (omega (arith, lt)) e f t ∙ ap (λ k. if b then Some r else scripted_reply (drop k (p ∷ ms)) asked) next

pub scripted_here : (ms : List Pair) (i : ℕ) (asked : Asked) (own : Question) (r : Reply) (a b : Bool) → i < length ms → IfSome (slice_get ms i) (λ (p : Pair). own ≡ p.question) → IfSome (slice_get ms i) (λ (p : Pair). r ≡ p.reply)
    → a ≡ same_question (canonical_question own) (canonical_question asked.question) → b ≡ fits_asked asked r → a ≡ true → b ≡ true → scripted_reply (drop i ms) asked ≡ Some r
scripted_here ms i asked own r a b lt e f is_a is_b so_a so_b = scripted_step ms i asked own r true lt e f (rw (← is_a, ← is_b, so_a, so_b) refl)

pub scripted_later : (ms : List Pair) (i : ℕ) (asked : Asked) (own : Question) (r : Reply) → i < length ms → IfSome (slice_get ms i) (λ (p : Pair). own ≡ p.question) → IfSome (slice_get ms i) (λ (p : Pair). r ≡ p.reply)
    → (same_question (canonical_question own) (canonical_question asked.question) && fits_asked asked r) ≡ false → scripted_reply (drop i ms) asked ≡ scripted_reply (drop (i + 1) ms) asked
scripted_later ms i asked own r lt e f t = scripted_step ms i asked own r false lt e f t

pub other_question : (a x y : Bool) → a ≡ x → a ≡ false → (x && y) ≡ false
other_question a x y is so = rw (← is, so) refl

pub other_reply : (b x y : Bool) → b ≡ y → b ≡ false → (x && y) ≡ false
other_reply b true y is so = rw (← is, so) refl
other_reply b false y is so = refl
