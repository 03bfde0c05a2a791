-- What comes of a goal, by the program's unifier.
use Rattle.std.proofs.Common.{◌≡◌, ◌≢◌, ◌⊎◌, ◌<◌, length, inl, inr, ℕ, List, ◌∷◌, refl, sym, ◌∙◌, ap, subst, Option, Some, None}
use Rattle.apd_term.specs.Term.{Term, variable, apply}
use Rattle.apd_term.specs.Substitution.{term_for}
use Rattle.apd_unify.specs.Unifier.{IsAnswer}
use Rattle.apd_unify.specs.Textbook.{unifier_of}
use Rattle.apd_unify.proofs.Textbook.{unifier_of-right}
use Rattle.apd_term.proofs.Applying.{apply-variable}
use Rattle.apd_trace.specs.Frames.{apply_frames, next_goal, under}
use Rattle.apd_trace.specs.BuiltIn.{outcome, built, Solution, of_program, faulted, failed, solved, solved_or, solution_by, solution}
use Rattle.apd_trace.specs.declared.frame.Frame.{Frame}
use Rattle.apd_trace.specs.declared.frame.Called.{Called}
use Rattle.apd_trace.specs.declared.frame.Outcome.{Outcome}
use Rattle.apd_trace.specs.declared.frame.Outcome.TheVariants.{User, Faults, Fails, Succeeds, Equates}
use Rattle.apd_trace.proofs.Applied.{apply_frames-variable}
use Rattle.apd_trace.proofs.BuiltIn.{alike_or}
use Rattle.apd_trace.proofs.Entered.{renamed_under}
use Rattle.apd_trace.proofs.Renamed.{renamed_self}
use Rattle.apd_cells.specs.Stored.{Stored}
use Rattle.apd_cells.specs.Store.{term_at}
use Rattle.apd_frames.specs.Solves.{HasClash, HasUnited, Settles, solution_as}
use Rattle.apd_frames.specs.declared.builtin.Solved.{Solved}
use Rattle.apd_frames.specs.declared.builtin.Solved.TheVariants.{Program, Fault, Failed, Entered}
use Rattle.apd_trace.specs.Renaming.{AreAlike}

-- a goal a of the frames F, and the frames after it, where a substitution was applied to them
module _ (F : List Frame) (g : Called) (m : ℕ) (a : Term) (goal : next_goal F ≡ Some a) where
  at : (o : Outcome) (x : Solution) → outcome a ≡ o → AreAlike (solution_by o a F g m) x → AreAlike (solution F g m) x
  at o x e h = rw goal (subst (λ z. AreAlike (solution_by z a F g m) x) (sym e) h)

  by_answer : (l r : Term) (x : Option (List (ℕ × Term))) → outcome a ≡ Equates l r → IsAnswer l r x → AreAlike (solution F g m) (solved_or (under x (built g a m ∷ F)))
  by_answer l r x equates answer =
      let H : List Frame = built g a m ∷ F in
      at (Equates l r) (solved_or (under x H)) equates (alike_or (under (unifier_of l r) H) (under x H)
      (renamed_under variable variable l r l r H H (apply-variable l) (apply-variable r) (apply_frames-variable H) (apply-variable l) (apply-variable r) (apply_frames-variable H) (unifier_of l r) x (unifier_of-right l r) answer))

  module _ (old new : Stored) (G : List Frame)
      (there : (f : ℕ → Term) → ((c : ℕ) → c < length old.cells → term_at new c ≡ apply f (term_at old c)) → G ≡ apply_frames f (built g a m ∷ F)) where
    succeeds : new ≡ old → outcome a ≡ Succeeds → AreAlike (solution F g m) (solved G)
    succeeds same e =
        let k : G ≡ built g a m ∷ F = there variable (λ c l. ap (λ (s : Stored). term_at s c) same ∙ sym (apply-variable (term_at old c))) ∙ apply_frames-variable (built g a m ∷ F) in
        at Succeeds (solved G) e (rw k (renamed_self (built g a m ∷ F)))

    unites : HasUnited old new (outcome a) → AreAlike (solution F g m) (solved G)
    unites h =
        let k : G ≡ apply_frames (term_for h.united.pairs) (built g a m ∷ F) = there (term_for h.united.pairs) h.united.made in
        rw k (by_answer h.one h.other (Some h.united.pairs) h.is h.united.unifier)

    pub solves_entered : Settles Entered old new a → AreAlike (solution F g m) (solved G)
    solves_entered (inl h) = succeeds h.0 h.1
    solves_entered (inr h) = unites h

  fails : (outcome a ≡ Fails) ⊎ HasClash (outcome a) → AreAlike (solution F g m) failed
  fails (inl e) = at Fails failed e tt
  fails (inr h) = by_answer h.one h.other None h.is h.none

  -- where no frame was entered
  pub solves_other : (r : Solved) (old new : Stored) (G : List Frame) → r ≢ Entered → Settles r old new a → AreAlike (solution F g m) (solution_as r G)
  solves_other Program old new G n h = at User of_program h.1 tt
  solves_other (Fault e) old new G n h = at (Faults e) (faulted e) h.1 refl
  solves_other Failed old new G n h = fails h.1
  solves_other Entered old new G n h = absurd (n refl)
