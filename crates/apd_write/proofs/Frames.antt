-- Frames that are pushed behind others.
use Rattle.std.proofs.Common.{ℕ, ◌≡◌, ◌+◌, List, [], ◌∷◌, ◌++◌, Bool, true, false, refl, ap, sym, ◌∙◌, arith, append_assoc}
use Rattle.std.specs.Prelude.{codes, if◌then◌else◌}
use Rattle.std.proofs.lemmas.List.{append-nil}
use Rattle.apd_ops.specs.Table.{Table}
use Rattle.apd_write.specs.Writing.{Part, in_parentheses}
use Rattle.apd_write.specs.Pending.{behind, resume, takes, takes_in_all}
use Rattle.apd_write.specs.declared.pending.PendingFrame.{PendingFrame}
use Rattle.apd_write.specs.declared.pending.PendingFrame.TheVariants.{ParenthesisEnd}

pub resume-push : (ops : Table) (names : List (List ℕ)) (frames : List PendingFrame) (f : PendingFrame) (after : List Part → List ℕ) →
    resume ops names (frames ++ f ∷ []) after ≡ behind ops names f (resume ops names frames after)
resume-push ops names [] f after = refl
resume-push ops names (g ∷ frames) f after = resume-push ops names frames f (behind ops names g after)

pub takes-push : (frames : List PendingFrame) (f : PendingFrame) → takes_in_all (frames ++ f ∷ []) ≡ takes_in_all frames + takes f
takes-push [] f = omega arith
takes-push (g ∷ frames) f = let e = takes-push frames f in omega (arith, e)

-- a text with or without parentheses, and what comes after it
pub resume-fitted : (ops : Table) (names : List (List ℕ)) (enclosed : Bool) (text : List ℕ) (frames : List PendingFrame) (after : List Part → List ℕ) (qs : List Part) →
    (if enclosed then in_parentheses text else text) ++ resume ops names frames after qs
    ≡ (if enclosed then codes "(" else []) ++ (text ++ resume ops names (frames ++ (if enclosed then ParenthesisEnd ∷ [] else [])) after qs)
resume-fitted ops names true text frames after qs =
    ap (λ (x : List ℕ). 40 ∷ x) (append_assoc text (41 ∷ []) (resume ops names frames after qs)
    ∙ ap (λ (g : List Part → List ℕ). text ++ g qs) (sym (resume-push ops names frames ParenthesisEnd after)))
resume-fitted ops names false text frames after qs = ap (λ (fs : List PendingFrame). text ++ resume ops names fs after qs) (sym (append-nil frames))

pub takes-fitted : (enclosed : Bool) (frames : List PendingFrame) → takes_in_all (frames ++ (if enclosed then ParenthesisEnd ∷ [] else [])) ≡ takes_in_all frames
takes-fitted true frames = let e = takes-push frames ParenthesisEnd in omega (arith, e)
takes-fitted false frames = ap takes_in_all (append-nil frames)
