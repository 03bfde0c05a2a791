use Rattle.std.proofs.Common.{◌≡◌, ◌++◌, ◌∷◌, [], length, refl, ap, arith, subst, sym, ◌∙◌, Some}
use Rattle.apd_points.specs.declared.packed.PackedPoint.{PackedPoint}
use Rattle.apd_points.specs.Packed.{unpacked_from, IsPacked, Listed}
use Rattle.apd_points.proofs.Packing.{other_packed, put_other, unpacked_length}
use Rattle.apd_points.proofs.points.Points.push_other.Goals as goal

pub overflow_cast-number : goal.overflow_cast-number
overflow_cast-number c =
    let n = sym (unpacked_length c.self.inside.others.items 0 c.self.inside.rows.items) ∙ ap (λ (l : Listed). length l.rows) c.self.view_is in
    omega (arith, c.len-number.ensures, c.self.inside.others.ok.0, c.self.invariant.few, n, c.requires.few)

pub at-requires : goal.at-requires
at-requires c =
    let n = sym (unpacked_length c.self.inside.others.items 0 c.self.inside.rows.items) ∙ ap (λ (l : Listed). length l.rows) c.self.view_is in
    omega (arith, c.len-number.ensures, c.self.inside.others.ok.0, c.self.invariant.few, n, c.requires.few)

-- the row that is put
abbrev row : (c : goal.After-push_reserved-2) → PackedPoint
row c = record { owner = 0; number = c.at.result; clause = 65534; done = 0; goals = 0 }

number : (c : goal.After-push_reserved-2) → c.at.result ≡ Some (length c.self.inside.others.items)
number c = c.at.ensures ∙ ap Some (c.len-number.ensures ∙ c.self.inside.others.ok.0)

pub invariant_of-self : goal.invariant_of-self
invariant_of-self c =
    subst (λ os. IsPacked c.push_reserved-2.new.self.items os) (sym c.push_reserved.ensures.items)
    (subst (λ rs. IsPacked rs (c.self.inside.others.items ++ c.args.point ∷ [])) (sym c.push_reserved-2.ensures.items)
    (other_packed c.self.inside.rows.items c.self.inside.others.items c.self.invariant (row c) c.args.point (number c)))

pub returns : goal.returns
returns c =
    ap (λ os. unpacked_from os 0 c.push_reserved-2.new.self.items) c.push_reserved.ensures.items
    ∙ ap (unpacked_from (c.self.inside.others.items ++ c.args.point ∷ []) 0) c.push_reserved-2.ensures.items
    ∙ put_other c.self.inside.rows.items c.self.inside.others.items c.self.invariant (row c) c.args.point refl (number c)
    ∙ ap (λ (l : Listed). l.rows ++ c.args.point ∷ []) c.self.view_is
