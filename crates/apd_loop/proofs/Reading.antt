-- The calls of a chain as they are read.
use Rattle.std.proofs.Common.{◌≡◌, ℕ, zero, suc, ◌<◌, ◌≤◌, List, length, get_or, Some, sym, ◌∙◌, ap, subst, arith}
use Rattle.std.specs.Prelude.{IfSome}
use Rattle.std.specs.Option.{unwrap_or}
use Rattle.std.proofs.lemmas.List.{get_or-map, length-map}
use Rattle.std.proofs.lemmas.Option.{slice_get-get_or}
use Rattle.apd_term.specs.Term.{Term, size, variable}
use Rattle.apd_term.specs.Canonical.{canonical}
use Rattle.apd_term.proofs.Variants.{size-canonical}
use Rattle.apd_record.specs.declared.rows.BoxRow.{BoxRow}
use Rattle.apd_record.specs.Recorded.{Recorded, box_at}
use Rattle.apd_record.specs.Reading.{no_row, call_atom}
use Rattle.apd_loop.specs.Loop.{calls_in}
use Rattle.apd_loop.specs.Turning.{HasBoxes}

row-is : (R : Recorded) (b : ℕ) (P : Term → Type 0) → 0 < b → b ≤ length R.boxes → IfSome (box_at R b) (λ (r : BoxRow). P r.atom) → P (call_atom R b)
row-is R zero P l m h = absurd (omega (arith, l))
row-is R (suc k) P l m h =
    let e : box_at R (suc k) ≡ Some (get_or R.boxes k no_row) = slice_get-get_or R.boxes k no_row (omega (arith, m)) in
    subst P (ap (λ (r : BoxRow). r.atom) (ap (λ o. unwrap_or o no_row) (sym e))) (subst (λ o. IfSome o (λ (r : BoxRow). P r.atom)) e h)

module _ (R : Recorded) (chain : List ℕ) (now : List Term) (view : calls_in R chain ≡ now) (boxes : HasBoxes R chain) where
  pub calls-length : length now ≡ length chain
  calls-length = ap length (sym view) ∙ length-map chain (λ b. canonical (call_atom R b))

  pub box-there : (i : ℕ) → i < length now → (0 < get_or chain i 0) × (get_or chain i 0 ≤ length R.boxes)
  box-there i l = boxes i (get_or chain i 0) (slice_get-get_or chain i 0 (omega (arith, l, calls-length)))

  call-form : (i : ℕ) → i < length now → canonical (call_atom R (get_or chain i 0)) ≡ get_or now i (variable 0)
  call-form i l =
      sym (get_or-map (λ b. canonical (call_atom R b)) chain i 0 (variable 0) (omega (arith, l, calls-length))) ∙ ap (λ cs. get_or cs i (variable 0)) view

  pub call-read : (i : ℕ) (a x : Term) → i < length now → IfSome (box_at R (get_or chain i 0)) (λ (r : BoxRow). a ≡ r.atom) → x ≡ canonical a → x ≡ get_or now i (variable 0)
  call-read i a x l h e =
      let there = box-there i l in
      e ∙ ap canonical (row-is R (get_or chain i 0) (λ t. a ≡ t) there.0 there.1 h) ∙ call-form i l

  pub size-known : (i n : ℕ) → i < length now → IfSome (box_at R (get_or chain i 0)) (λ (r : BoxRow). n ≡ size r.atom) → n ≡ size (get_or now i (variable 0))
  size-known i n l h =
      let there = box-there i l in
      row-is R (get_or chain i 0) (λ t. n ≡ size t) there.0 there.1 h ∙ sym (size-canonical (call_atom R (get_or chain i 0))) ∙ ap size (call-form i l)

  pub size-read : (i n : ℕ) (a : Term) → i < length now → IfSome (box_at R (get_or chain i 0)) (λ (r : BoxRow). a ≡ r.atom) → n ≡ size a → n ≡ size (get_or now i (variable 0))
  size-read i n a l h e =
      let there = box-there i l in
      e
      ∙ ap size (row-is R (get_or chain i 0) (λ t. a ≡ t) there.0 there.1 h)
      ∙ sym (size-canonical (call_atom R (get_or chain i 0)))
      ∙ ap size (call-form i l)
