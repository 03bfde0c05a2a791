use Rattle.std.proofs.Common.{◌≡◌, ◌+◌, ◌++◌, true, false, ap, refl, sym, ◌∙◌, drop}
use Rattle.apd_boxes.specs.declared.boxes.KeptBox.{KeptBox}
use Rattle.apd_record.specs.Recorded.{is_active, numbers}
use Rattle.apd_record.specs.Kept.{kept_in_chain}
use Rattle.apd_record.proofs.Places.{numbers_with, numbers_without}
use Rattle.apd_record.proofs.active.active_boxes.Goals.{then-row+then-is_active+in_ok-push, else-row, else-row-via-then-row+else-is_active, else-row-via-else-row}
use Rattle.apd_record.proofs.active.active_boxes.Goals as goal

in_chain : (b : KeptBox) → b.is_user ≡ true → is_active b.last ≡ true → kept_in_chain b ≡ true
in_chain b h k = rw (h, k) refl

past : (b : KeptBox) → b.is_user ≡ true → is_active b.last ≡ false → kept_in_chain b ≡ false
past b h k = rw (h, k) refl

built_in : (b : KeptBox) → b.is_user ≡ false → kept_in_chain b ≡ false
built_in b h = rw h refl

pub boxes-preserved : goal.boxes-preserved
boxes-preserved c =
    elim c.if-row.branch [
      | then-row+then-is_active+in_ok-push w ↦
          ap (λ xs. xs ++ numbers kept_in_chain (c.boxes.place + 1 + 1) (drop (c.boxes.place + 1) c.args.boxes.now.boxes)) (w.active-is ∙ w.in_ok-push.ensures.ok)
          ∙ numbers_with kept_in_chain c.boxes.active (numbers kept_in_chain 1 c.args.boxes.now.boxes) c.args.boxes.now.boxes c.boxes.place c.read-row.result c.read-row.ensures
          (in_chain c.read-row.result w.if-row.true (sym w.is_active.ensures ∙ w.if-is_active.true)) c.boxes.invariant
      | else-row w ↦
          ap (λ xs. xs ++ numbers kept_in_chain (c.boxes.place + 1 + 1) (drop (c.boxes.place + 1) c.args.boxes.now.boxes)) w.active-is
          ∙ numbers_without kept_in_chain c.boxes.active (numbers kept_in_chain 1 c.args.boxes.now.boxes) c.args.boxes.now.boxes c.boxes.place c.read-row.result c.read-row.ensures
          (elim w.else-row.branch [
            | else-row-via-then-row+else-is_active v ↦ past c.read-row.result v.if-row.true (sym v.is_active.ensures ∙ v.if-is_active.false)
            | else-row-via-else-row v ↦ built_in c.read-row.result v.if-row.false
          ])
          c.boxes.invariant
    ]
